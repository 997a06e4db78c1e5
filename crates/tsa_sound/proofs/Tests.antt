-- A test of a local that holds an answer goes by that answer.
use Rattle.std.proofs.Common.{◌≡◌, ◌∙◌, ℕ, pos, negsuc, nat_eq, Bool, true, false, Option, Some, None, Result, Ok, Err, option_and_then}
use Rattle.std.proofs.Common.{if◌then◌else◌, refl, ap, sym, subst, eqb-true}
use Rattle.tsa_base.specs.declared.value.Value.{Value}
use Rattle.tsa_base.specs.declared.value.Value.TheVariants.{Int, Unsigned, Pointer}
use Rattle.tsa_tree.specs.declared.number.Number.{Number}
use Rattle.tsa_tree.specs.declared.number.Number.TheVariants as numeral
use Rattle.tsa_tree.specs.declared.number.Trap.{Trap}
use Rattle.tsa_tree.specs.types.Constants.{without_trap}
use Rattle.tsa_place_model.specs.Calls.{Layout}
use Rattle.tsa_core.specs.Kinds.{Setting}
use Rattle.tsa_core.specs.Meanings.{of_number}
use Rattle.tsa_core.specs.Terms.{Term, constant}
use Rattle.tsa_rules.specs.Conditions.{answer_beside, answer_in, constant_result, is_constant, yes_or_no}
use Rattle.tsa_mean.specs.Outs.{Out, traps, reads, yields}
use Rattle.tsa_mean.specs.Working.{Locals, rvalue}
use Rattle.tsa_sound.specs.PartlyWorked.{IsWorked}
use Rattle.tsa_sound.specs.SettledStatuses.{answer_held}
use Rattle.tsa_sound.proofs.Constants.{Matches, constant_as_written, constants_match}

-- an answer as a number
abbrev pub number : Bool → ℕ
number true = 1
number false = 0

pub none_is_some : {A B : Type 0} {a : A} → ◌≡◌ {A = Option A} None (Some a) → B
none_is_some e = absurd cc

pub same_some : {A : Type 0} {a b : A} → Some a ≡ Some b → a ≡ b
same_some e = cc

pub same_yields : {A : Type 0} {a b : A} → yields a ≡ yields b → a ≡ b
same_yields e = cc

pub never_yields : {A B : Type 0} {kind : _} {b : A} → ◌≡◌ {A = Out A} (traps kind) (yields b) → B
never_yields e = absurd cc

pub read_yields : {A B : Type 0} {place : ℕ} {b : A} → ◌≡◌ {A = Out A} (reads place) (yields b) → B
read_yields e = absurd cc

pub answers : (n : ℕ) (b : Bool) → yes_or_no n ≡ Some b → n ≡ number b
answers n b e = by (nat_eq n 1) refl (nat_eq n 0) refl e
  where
    by : (one : Bool) → nat_eq n 1 ≡ one → (zero : Bool) → nat_eq n 0 ≡ zero → (if one then Some true else if zero then Some false else None) ≡ Some b → n ≡ number b
    by true is zero is_zero e = eqb-true n 1 is ∙ ap number (same_some e)
    by false is true is_zero e = eqb-true n 0 is_zero ∙ ap number (same_some e)
    by false is false is_zero e = none_is_some e

-- what a local that holds an answer holds
pub held_number : (v : Value) (b : Bool) → answer_held v ≡ Some b → v ≡ Int (pos (number b))
held_number (Int (pos n)) b e = ap (λ n. Int (pos n)) (answers n b e)
held_number (Int (negsuc n)) b e = none_is_some e
held_number (Unsigned n) b e = none_is_some e
held_number (Pointer p) b e = none_is_some e

-- what stands beside X in a condition
pub data IsBeside (k : Bool) : Value → Type 0 where
  as_int : IsBeside k (Int (pos (number k)))
  as_unsigned : IsBeside k (Unsigned (number k))
  as_null : IsBeside k (Pointer None)

number_beside : (k : Bool) (n : Number) → answer_in n ≡ Some k → IsBeside k (of_number n)
number_beside k (numeral.Int (pos n)) e = subst (λ m. IsBeside k (Int (pos m))) (sym (answers n k e)) as_int
number_beside k (numeral.Int (negsuc n)) e = none_is_some e
number_beside k (numeral.Unsigned n) e = subst (λ m. IsBeside k (Unsigned m)) (sym (answers n k e)) as_unsigned

module _ (s : Setting) (stable : ℕ → Bool) (l : Layout) (locals : Locals) where
  -- a constant that is worked out
  found : (x y : Term) (w : Value) (k : Bool) (c : Bool) → is_constant x ≡ c → (r : Result Number Trap) → constant_result x ≡ r
      → option_and_then answer_in (if c then without_trap r else None) ≡ Some k → IsWorked s stable locals x y → rvalue l locals y ≡ yields w → IsBeside k w
  found x y w k false no_constant r is e worked value = none_is_some e
  found x y w k true is_c (Err trap) is e worked value = none_is_some e
  found x y w k true is_c (Ok n) is e worked value =
      let value_of_x : rvalue l locals x ≡ yields w = ap (rvalue l locals) (constant_as_written s stable locals x y is_c worked) ∙ value in
      subst (IsBeside k) (sym (matched (rvalue l locals x) (subst (Matches (rvalue l locals x)) is (constants_match l locals x is_c)) value_of_x)) (number_beside k n e)
    where
      matched : (out : Out Value) → Matches out (Ok n) → out ≡ yields w → w ≡ of_number n
      matched (yields v) m is = sym (same_yields is) ∙ m
      matched (traps kind) m is = absurd m
      matched (reads place) m is = absurd m

  -- what stands beside X is worked out to its answer, or is null
  pub beside_is : (x y : Term) (w : Value) (k : Bool) → answer_beside x ≡ Some k → IsWorked s stable locals x y → rvalue l locals y ≡ yields w → IsBeside k w
  beside_is (constant (Pointer None)) (constant v) w k e worked value = subst (IsBeside k) (worked ∙ same_yields value) as_null
  beside_is (constant (Pointer None)) y w k e worked value = absurd worked
  beside_is x y w k e worked value = found x y w k (is_constant x) refl (constant_result x) refl e worked value
