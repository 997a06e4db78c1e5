-- How a thread begins that a word of a run names.
use Rattle.std.specs.Prelude.{◌≡◌, ℕ, Bool, not, ◌&&◌, List, [], ◌∷◌, take, Option, Some, None, option_map, option_and_then, is_some, slice_get}
use Rattle.std.specs.Prelude.{if◌then◌else◌}
use Rattle.std.specs.List.{list_any}
use Rattle.tsa_base.specs.declared.value.Value.{Value}
use Rattle.tsa_tree.specs.declared.kind.ThingType.{ThingType}
use Rattle.tsa_tree.specs.declared.meaning.Meaning.{Meaning}
use Rattle.tsa_tree.specs.declared.meaning.Meaning.TheVariants as meant
use Rattle.tsa_tree.specs.expressions.Syntax.{Expression, Arguments, none, more}
use Rattle.tsa_tree.specs.types.Lookups.{params_in}
use Rattle.tsa_tree.specs.types.Scopes.{Scope, found}
use Rattle.tsa_tree.specs.units.Syntax.{UnitItem}
use Rattle.tsa_place_model.specs.Calls.{Layout}
use Rattle.tsa_core.specs.Programs.{Function, program_with}
use Rattle.tsa_mean.specs.Starts.{Begin, binds_caller}
use Rattle.tsa_profile.specs.Arguments.{behind_unit, value_seen, view_behind}
use Rattle.tsa_profile_accesses.specs.Expressions.{View}
use Rattle.tsa_tool_starts.specs.Words.{IsWordOf, Called, called_by}

-- the function that a name means behind all items of a unit
abbrev pub function_meant : Meaning → Option ℕ
function_meant (meant.Function n) = Some n
function_meant m = None

abbrev pub function_named : Scope → List ℕ → Option ℕ
function_named here name = option_and_then (λ e. function_meant e.meaning) (found here.names name)

abbrev pub with_value : Value → Option (List Value) → Option (List Value)
with_value v rest = option_map (λ vs. v ∷ vs) rest

-- The values of arguments: for each parameter one, that of the argument as the initialiser of a global of the parameter's type which is
-- declared behind all items (C11 6.5.2.2p2, p4). None where there are more arguments or fewer, or where one can't stand there.
unfoldable pub arguments_of : View → List ThingType → Arguments → Option (List Value)
arguments_of v [] none = Some []
arguments_of v (p ∷ params) (more e args) = option_and_then (λ x. with_value x (arguments_of v params args)) (value_seen v p e)
arguments_of v params args = None

-- whether a function has a body and no attribute that binds who calls it
abbrev pub can_begin : Function → Bool
can_begin f = is_some f.body && not (list_any (λ a. binds_caller a.kind) f.attrs)

abbrev pub begin_with : ℕ → Option (List Value) → Option Begin
begin_with n args = option_map (λ vs. record { function = n; args = vs }) args

abbrev pub start_at : List UnitItem → Layout → Arguments → ℕ → Function → Option Begin
start_at items l args n f =
    if can_begin f then begin_with n (arguments_of (view_behind items l) (params_in (behind_unit items) n) args) else None

abbrev pub start_with : List UnitItem → Layout → Arguments → ℕ → Option Begin
start_with items l args n = option_and_then (start_at items l args n) (slice_get (program_with l items).functions n)

abbrev pub start_called : List UnitItem → Layout → Called → Option Begin
start_called items l c = option_and_then (start_with items l c.args) (function_named (behind_unit items) c.name)

-- what an expression says of how a thread begins, where it says that
abbrev pub start_of : List UnitItem → Layout → Expression → Option Begin
start_of items l e = option_and_then (start_called items l) (called_by e)

-- A word is good where its expression says how a thread begins.
pub record IsGoodWord (items : List UnitItem) (l : Layout) (word : List ℕ) (b : Begin) : Type 0 where
  pub expression : Expression
  pub spells : IsWordOf word expression
  pub start : start_of items l expression ≡ Some b

-- words that are good, each with its start
abbrev pub AreGoodWords : List UnitItem → Layout → List (List ℕ) → List Begin → Type 0
AreGoodWords items l [] [] = Unit {0}
AreGoodWords items l (word ∷ words) (b ∷ begins) = IsGoodWord items l word b × AreGoodWords items l words begins
AreGoodWords items l words begins = ⊥

-- the word of a number is the first that isn't
pub record IsRefused (items : List UnitItem) (l : Layout) (words : List (List ℕ)) (number : ℕ) : Type 0 where
  pub earlier : (begins : List Begin) × AreGoodWords items l (take number words) begins
  pub word : List ℕ
  pub there : slice_get words number ≡ Some word
  pub bad : (b : Begin) → IsGoodWord items l word b → ⊥
