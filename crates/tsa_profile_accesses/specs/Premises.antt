-- The premises of the profile in order: nodes in order of the text, each before its parts, and at each node the smallest number first.
use Rattle.std.specs.Prelude.{Bool, List, [], ◌∷◌, Option, Some, None, if◌then◌else◌}
use Rattle.tsa_base.specs.declared.token.Span.{Span}
use Rattle.tsa_profile_accesses.specs.declared.premise.ProfileCode.{ProfileCode}
use Rattle.tsa_profile_accesses.specs.declared.premise.Failure.{Failure}

-- a premise at a node, and whether it fails there
pub record Premise : Type 0 where
  pub code : ProfileCode
  pub span : Span
  pub fails : Bool

abbrev pub premise : ProfileCode → Span → Bool → Premise
premise code span fails = record { code = code; span = span; fails = fails }

abbrev pub or_else : Option Failure → Option Failure → Option Failure
or_else (Some failure) other = Some failure
or_else None other = other

abbrev pub failure_of : Premise → Option Failure
failure_of p = if p.fails then Some (record { code = p.code; span = p.span }) else None

-- the first of some premises that fails
unfoldable pub first : List Premise → Option Failure
first [] = None
first (p ∷ rest) = or_else (failure_of p) (first rest)

-- a code that is told of a node, where there is one
abbrev pub told : Span → Option ProfileCode → Option Failure
told span None = None
told span (Some code) = Some (record { code = code; span = span })
