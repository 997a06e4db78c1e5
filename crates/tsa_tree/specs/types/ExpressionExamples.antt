-- Expressions as they are written, with their types or the first premise that fails, and constants with their values.
use Rattle.std.specs.Prelude.{◌≡◌, ℕ, zero, suc, pos, negsuc, List, [], ◌∷◌, true, false, Option, Some, None, Ok, Err, codes, if◌then◌else◌}
use Rattle.std.specs.Prelude.{option_map}
use Rattle.std.specs.Str.{bytes_eq}
use Rattle.std.specs.declared.result.Result.{Result}
use Rattle.tsa_base.specs.Tokens.{Lexeme, BadByte, tokens_of}
use Rattle.tsa_grammar.specs.Reading.{Outcome}
use Rattle.tsa_tree.specs.Reads.{read}
use Rattle.tsa_tree.specs.Rows as rows
use Rattle.tsa_tree.specs.expressions.Syntax.{Expression, null, nowhere}
use Rattle.tsa_tree.specs.declared.premise.TypeCode.{TypeCode}
use Rattle.tsa_tree.specs.declared.premise.TypeCode.TheVariants.{TY1, TY3, TY4}
use Rattle.tsa_tree.specs.types.Arithmetic.{Number}
use Rattle.tsa_tree.specs.declared.number.Number.TheVariants as numeral
use Rattle.tsa_tree.specs.types.Constants.{constant_of}
use Rattle.tsa_tree.specs.types.Expressions.{type_of, premises_of}
use Rattle.tsa_tree.specs.types.Premises.{first}
use Rattle.tsa_tree.specs.types.Known as known
use Rattle.tsa_tree.specs.types.Known.{Entry, Context}
use Rattle.tsa_tree.specs.types.Types as type
use Rattle.tsa_tree.specs.types.Types.{Kind, ThingType, single}

abbrev lookup : {A : Type 0} → List (List ℕ × A) → List ℕ → Option A
lookup [] name = None
lookup (e ∷ es) name = if bytes_eq e.0 name then Some e.1 else lookup es name

abbrev variable : ℕ → ThingType → Entry
variable n t = record { meaning = known.Global n; thing = t }

abbrev names : List (List ℕ × Entry)
names =
    (codes "n", variable 0 (single type.Int false)) ∷ (codes "u", variable 1 (single type.Unsigned false)) ∷ (codes "s", variable 2 (single (type.Structure 0) false))
    ∷ (codes "p", variable 3 (single (type.Pointer 0 false) false)) ∷ (codes "q", variable 4 (single (type.Pointer 0 true) false))
    ∷ (codes "r", variable 5 (single (type.Pointer 1 false) false)) ∷ (codes "a", variable 6 (record { kind = type.Int; length = Some 4; is_const = false }))
    ∷ (codes "f", record { meaning = known.Function 0; thing = single type.Int false }) ∷ (codes "E", record { meaning = known.Constant (pos 3); thing = single type.Int false })
    ∷ []

abbrev members : ℕ → List (List ℕ × ThingType)
members zero =
    (codes "x", single type.Int false) ∷ (codes "c", single type.Unsigned true) ∷ []
members (suc n) = []

-- `n` and `u` are integers, `s` is a struct with an `x` and a constant `c`, `p` points to such ones and `q` to constant ones, `r`
-- to others, `a` has four integers, `f` takes an integer and a pointer, and `E` is 3
abbrev here : Context
here = record {
  known = lookup names;
  member = λ struct. lookup (members struct);
  params = λ f. single type.Int false ∷ single (type.Pointer 0 true) false ∷ [];
}

abbrev pub read_as : Outcome Expression → Expression
read_as (Ok found) = found.0
read_as (Err refusal) = null nowhere

abbrev pub read_in : Result (List Lexeme) BadByte → Expression
read_in (Ok tokens) = read_as (read tokens rows.an_expression (rows.expression [] 0 0) 0)
read_in (Err bad) = null nowhere

abbrev kind_in : List ℕ → Option Kind
kind_in text = option_map (λ t. t.thing.kind) (type_of here (read_in (tokens_of text)))

abbrev failure_in : List ℕ → Option (TypeCode × ℕ)
failure_in text = option_map (λ f. (f.code, f.span.from)) (first (premises_of here (read_in (tokens_of text))))

abbrev value_in : List ℕ → Option Number
value_in text = constant_of here (read_in (tokens_of text))

pub record TypesAreAsWritten : Type 0 where
  pub sum : kind_in (codes "n + 1") ≡ Some type.Int
  pub mixed : kind_in (codes "n + u") ≡ Some type.Unsigned
  pub compared : kind_in (codes "u < n") ≡ Some type.Int
  pub negated : kind_in (codes "!p") ≡ Some type.Int
  pub address : kind_in (codes "&s") ≡ Some (type.Pointer 0 false)
  pub address_behind : kind_in (codes "&*q") ≡ Some (type.Pointer 0 true)
  pub member : kind_in (codes "p->c") ≡ Some type.Unsigned
  pub element : kind_in (codes "a[E]") ≡ Some type.Int
  pub called : kind_in (codes "f(1, p)") ≡ Some type.Int
  pub null_is_compared : kind_in (codes "p == NULL") ≡ Some type.Int
  pub zero_is_compared : kind_in (codes "0 != p") ≡ Some type.Int

pub record PremisesFailAsWritten : Type 0 where
  pub unknown : failure_in (codes "n + h") ≡ Some (TY1, 4)
  pub unknown_callee : failure_in (codes "h(1)") ≡ Some (TY1, 0)
  pub unknown_member : failure_in (codes "p->z") ≡ Some (TY1, 3)
  pub pointer_added : failure_in (codes "p + h") ≡ Some (TY3, 0)
  pub no_bits : failure_in (codes "n & 1") ≡ Some (TY3, 0)
  pub no_struct : failure_in (codes "n.x") ≡ Some (TY3, 0)
  pub no_place : failure_in (codes "&n") ≡ Some (TY3, 0)
  pub other_targets : failure_in (codes "p == r") ≡ Some (TY3, 0)
  pub array_as_value : failure_in (codes "1 + a") ≡ Some (TY3, 0)
  pub no_function : failure_in (codes "n(1)") ≡ Some (TY3, 0)
  pub other_argument : failure_in (codes "f(1, r)") ≡ Some (TY3, 0)
  pub one_argument : failure_in (codes "f(1)") ≡ Some (TY4, 0)
  pub inside : failure_in (codes "n + (1 + &n)") ≡ Some (TY3, 9)
  pub nothing : failure_in (codes "f(a[n], q) + s.x") ≡ None

pub record ConstantsAreAsWritten : Type 0 where
  pub sum : value_in (codes "E + 4") ≡ Some (numeral.Int (pos 7))
  pub least : value_in (codes "-2147483647 - 1") ≡ Some (numeral.Int (negsuc 2147483647))
  pub over : value_in (codes "2147483647 + 1") ≡ None
  pub wraps : value_in (codes "4294967295u + 1") ≡ Some (numeral.Unsigned 0)
  pub by_nothing : value_in (codes "1 / 0") ≡ None
  pub stops_early : value_in (codes "0 && 1 / 0") ≡ Some (numeral.Int (pos 0))
  pub toward_zero : value_in (codes "-7 / 2") ≡ Some (numeral.Int (negsuc 2))
  pub no_constant : value_in (codes "0 && n") ≡ None
