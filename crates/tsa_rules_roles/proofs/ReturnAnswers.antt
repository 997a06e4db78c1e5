-- The answer that a return gives, by what its value tells.
use Rattle.std.proofs.Common.{◌≡◌, ◌∙◌, Bool, true, false, Option, Some, None, option_map, Result, Ok, Err, if◌then◌else◌, refl, sym, ap}
use Rattle.std.specs.Prelude.{option_and_then}
use Rattle.tsa_tree.specs.declared.kind.ExpressionType.{ExpressionType}
use Rattle.tsa_tree.specs.declared.kind.Kind.{Kind}
use Rattle.tsa_tree.specs.declared.kind.Kind.TheVariants as type
use Rattle.tsa_tree.specs.declared.number.Number.{Number}
use Rattle.tsa_tree.specs.declared.number.Trap.{Trap}
use Rattle.tsa_tree.specs.types.Constants.{go_on, without_trap}
use Rattle.tsa_core.specs.Meanings.{as_kind, beside, loaded}
use Rattle.tsa_core.specs.Terms.{Term, Sense}
use Rattle.tsa_core.specs.Terms as core
use Rattle.tsa_rules.specs.Conditions.{answer_in, answer_of, constant_in, is_constant, constant_result}
use Rattle.tsa_rules.specs.Conditions as rule
use Rattle.tsa_rules_roles.specs.ValueAnswers.{given, number}
use Rattle.tsa_rules_roles.specs.Worths.{gist_of, worth_of, worth_beside}
use Rattle.tsa_rules_roles.proofs.Worths.{constant_is, loaded_is, beside_is}

-- a number that is converted
went_on : (kind : Kind) (r : Result Number Trap) → without_trap (go_on r (λ n. Ok (rule.as_kind kind n))) ≡ option_map (rule.as_kind kind) (without_trap r)
went_on kind (Ok n) = refl
went_on kind (Err trap) = refl

converted_by : (kind : Kind) (b : Bool) (r : Result Number Trap)
    → (if b then without_trap (go_on r (λ n. Ok (rule.as_kind kind n))) else None) ≡ option_map (rule.as_kind kind) (if b then without_trap r else None)
converted_by kind true r = went_on kind r
converted_by kind false r = refl

converted_is : (kind : Kind) (x : Term) → constant_in (core.converted kind x) ≡ option_map (rule.as_kind kind) (constant_in x)
converted_is kind x = converted_by kind (is_constant x) (constant_result x)

loaded_number : (s : Sense) → constant_in (loaded s) ≡ number (worth_of s.term)
loaded_number s = constant_is (loaded s) ∙ ap number (loaded_is s)

as_it_is : (o : Option Number) → o ≡ option_map (λ n. n) o
as_it_is None = refl
as_it_is (Some n) = refl

-- where the kind is wanted, and where the other one of the integers is
kept : (s : Sense) → constant_in (loaded s) ≡ option_map (λ n. n) (number (worth_of s.term))
kept s = loaded_number s ∙ as_it_is (number (worth_of s.term))

changed : (kind : Kind) (s : Sense) → constant_in (core.converted kind (loaded s)) ≡ option_map (rule.as_kind kind) (number (worth_of s.term))
changed kind s = converted_is kind (loaded s) ∙ ap (option_map (rule.as_kind kind)) (loaded_number s)

standing : (other : Kind) (s : Sense) → constant_in (beside other s) ≡ number (worth_beside other (gist_of s))
standing other s = constant_is (beside other s) ∙ ap number (beside_is other s)

abbrev sense : Term → Kind → ExpressionType → Bool → Sense
sense x kind t stable = record { term = x; type = record { thing = record { kind = kind; length = t.thing.length; is_const = t.thing.is_const }; is_place = t.is_place; is_zero = t.is_zero }; is_stable = stable }

of_kind : (wanted kind : Kind) (x : Term) (t : ExpressionType) (stable : Bool)
    → constant_in (as_kind wanted (sense x kind t stable)) ≡ given wanted (gist_of (sense x kind t stable))
of_kind type.Int type.Int x t stable = kept (sense x type.Int t stable)
of_kind type.Int type.Unsigned x t stable = changed type.Int (sense x type.Unsigned t stable)
of_kind type.Int type.Void x t stable = kept (sense x type.Void t stable)
of_kind type.Int (type.Structure n) x t stable = kept (sense x (type.Structure n) t stable)
of_kind type.Int (type.Pointer n c) x t stable = kept (sense x (type.Pointer n c) t stable)
of_kind type.Int type.Null x t stable = kept (sense x type.Null t stable)
of_kind type.Int type.Function x t stable = kept (sense x type.Function t stable)
of_kind type.Unsigned type.Int x t stable = changed type.Unsigned (sense x type.Int t stable)
of_kind type.Unsigned type.Unsigned x t stable = kept (sense x type.Unsigned t stable)
of_kind type.Unsigned type.Void x t stable = kept (sense x type.Void t stable)
of_kind type.Unsigned (type.Structure n) x t stable = kept (sense x (type.Structure n) t stable)
of_kind type.Unsigned (type.Pointer n c) x t stable = kept (sense x (type.Pointer n c) t stable)
of_kind type.Unsigned type.Null x t stable = kept (sense x type.Null t stable)
of_kind type.Unsigned type.Function x t stable = kept (sense x type.Function t stable)
of_kind type.Void kind x t stable = standing type.Void (sense x kind t stable)
of_kind (type.Structure n) kind x t stable = standing (type.Structure n) (sense x kind t stable)
of_kind (type.Pointer n c) kind x t stable = standing (type.Pointer n c) (sense x kind t stable)
of_kind type.Null kind x t stable = standing type.Null (sense x kind t stable)
of_kind type.Function kind x t stable = standing type.Function (sense x kind t stable)

pub given_is : (wanted : Kind) (s : Sense) → constant_in (as_kind wanted s) ≡ given wanted (gist_of s)
given_is wanted s = of_kind wanted s.type.thing.kind s.term s.type s.is_stable

given_answers : (wanted : Kind) (s : Sense) → option_and_then answer_in (given wanted (gist_of s)) ≡ answer_of (as_kind wanted s)
given_answers wanted s = ap (option_and_then answer_in) (sym (given_is wanted s))

pub none_answers : (wanted : Kind) (s : Sense) → given wanted (gist_of s) ≡ None → None ≡ answer_of (as_kind wanted s)
none_answers wanted s e = sym (ap (option_and_then answer_in) e) ∙ given_answers wanted s

pub some_answers : (wanted : Kind) (s : Sense) (n : Number) → given wanted (gist_of s) ≡ Some n → answer_in n ≡ answer_of (as_kind wanted s)
some_answers wanted s n e = sym (ap (option_and_then answer_in) e) ∙ given_answers wanted s

pub ruleset answers = (none_answers, some_answers)
