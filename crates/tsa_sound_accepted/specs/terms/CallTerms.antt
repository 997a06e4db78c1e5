-- What the laws of turns ask of the terms of a point that calls.
use Rattle.std.specs.Prelude.{◌≡◌, ℕ, Bool, List, Some, IsSome, map, option_and_then, slice_get}
use Rattle.tsa_tree.specs.declared.kind.Kind.TheVariants as type
use Rattle.tsa_tree.specs.units.Syntax.{UnitItem}
use Rattle.tsa_place_model.specs.Ways.{Way}
use Rattle.tsa_place_model.specs.Calls.{Layout}
use Rattle.tsa_core.specs.Meanings.{Call}
use Rattle.tsa_core.specs.Programs.{Function, Program, program_of}
use Rattle.tsa_core.specs.Terms.{Term}
use Rattle.tsa_path.specs.Substitution.{as_pointer, given}
use Rattle.tsa_rules.specs.Conditions.{Condition, the_call, condition_at}
use Rattle.tsa_rules.specs.Points.{function_at, point_at, uses_at}
use Rattle.tsa_sound.specs.CallFacts.{CanCall}
use Rattle.tsa_sound.specs.FramesFit.{stable_of}
use Rattle.tsa_sound.specs.PartlyWorked.{target_way}
use Rattle.tsa_sound_accepted.specs.terms.Units.{IsInProfile}

-- The facts of a point that calls which speak of its terms.
pub record CallTerms (u : Program) (f : Function) (p : ℕ) (c : Call) : Type 0 where
  pub acts : CanCall (point_at f p).action
  -- a test looks at the answer, if at anything that is tried
  pub asks : (k : Condition) → condition_at (point_at f p).action ≡ Some k → k.subject ≡ the_call
  -- the path to where an argument points is that of its term
  pub arguments : (k struct : ℕ) (to_const : Bool) (x : Term) (w : Way) → slice_get (map (λ t. t.kind) (function_at u c.function).params) k ≡ Some (type.Pointer struct to_const)
      → slice_get c.args k ≡ Some x → option_and_then as_pointer (given (uses_at f p).arguments k) ≡ Some w
      → target_way (stable_of f.body) x ≡ Some w

-- at each point of each function with a body of a unit in the profile
abbrev pub CallsHaveTheirTerms : Type 0
CallsHaveTheirTerms = (items : List UnitItem) (l : Layout) (u : Program) (n : ℕ) → IsInProfile items l → u ≡ program_of items → IsSome (function_at u n).body
    → (p : ℕ) (c : Call) → (point_at (function_at u n) p).call ≡ Some c → CallTerms u (function_at u n) p c
