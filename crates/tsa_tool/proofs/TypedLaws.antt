-- What an answer of types, of places or of the profile says of an input.
use Rattle.std.proofs.Common.{◌≡◌, List, Option, Some, None, Result, Ok, Err, ap}
use Rattle.tsa_place_model.specs.Calls.{Layout}
use Rattle.tsa_base.specs.declared.token.Span.{Span}
use Rattle.tsa_tree.specs.units.Syntax.{UnitItem}
use Rattle.tsa_tree.specs.declared.premise.TypeCode.{TypeCode}
use Rattle.tsa_tree.specs.declared.premise.Failure.{Failure}
use Rattle.tsa_profile_accesses.specs.declared.premise.ProfileCode.{ProfileCode}
use Rattle.tsa_profile_accesses.specs.declared.premise.Failure.{Failure as Misfit}
use Rattle.tsa_tool.specs.declared.check.Refusal.TheVariants.{Types, Places, Profile}
use Rattle.tsa_tool.specs.Checks.{or_failing, or_too_many, or_misfit}

pub none_fails : (tree : List UnitItem) (first : Option Failure) → first ≡ None → or_failing tree first ≡ Ok tree
none_fails tree first is = ap (or_failing tree) is

pub one_fails : (tree : List UnitItem) (first : Option Failure) (code : TypeCode) (span : Span) → first ≡ Some (record { code = code; span = span })
    → or_failing tree first ≡ Err (Types code span.from)
one_fails tree first code span is = ap (or_failing tree) is

pub ruleset types = (none_fails, one_fails)

pub all_fit : (tree : List UnitItem) (found : Result Layout Span) (l : Layout) → found ≡ Ok l → or_too_many tree found ≡ Ok tree
all_fit tree found l is = ap (or_too_many tree) is

pub too_many : (tree : List UnitItem) (found : Result Layout Span) (span : Span) → found ≡ Err span → or_too_many tree found ≡ Err (Places span.from)
too_many tree found span is = ap (or_too_many tree) is

pub ruleset places = (all_fit, too_many)

pub in_profile : (tree : List UnitItem) (first : Option Misfit) → first ≡ None → or_misfit tree first ≡ Ok tree
in_profile tree first is = ap (or_misfit tree) is

pub out_of_profile : (tree : List UnitItem) (first : Option Misfit) (code : ProfileCode) (span : Span) → first ≡ Some (record { code = code; span = span })
    → or_misfit tree first ≡ Err (Profile code span.from)
out_of_profile tree first code span is = ap (or_misfit tree) is

pub ruleset profile = (in_profile, out_of_profile)
