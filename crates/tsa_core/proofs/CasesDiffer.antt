-- No switch of a body of a typed unit has a value twice.
use Rattle.std.proofs.Common.{◌≡◌, ℕ, ◌+◌, Bool, true, false, List, [], ◌∷◌, Option, Some, None, refl, subst}
use Rattle.std.specs.Str.{bytes_eq}
use Rattle.tsa_tree.specs.expressions.Sound.{all_words}
use Rattle.tsa_tree.specs.types.Heads.{head_premises, inside}
use Rattle.tsa_tree.specs.types.Premises.{first}
use Rattle.tsa_tree.specs.types.Scopes.{Scope}
use Rattle.tsa_tree.specs.types.Statements.{Around, statements_premises}
use Rattle.tsa_tree.specs.types.Units.{outset, around_body, body_premises, item_premises, behind_item, items_premises}
use Rattle.tsa_tree.specs.units.Syntax.{UnitItem, structure_item, alias_item, enumeration_item, global_item, function_item, body_item}
use Rattle.tsa_core.proofs.CaseEdges.{all_differ}
use Rattle.tsa_core.proofs.NoFailure.{none_of_both}
use Rattle.tsa_core.proofs.SignaturesFit.{body_spellable}
use Rattle.tsa_core.proofs.TypedTerms.{some_same}
use Rattle.tsa_core.specs.CaseLaws.{CasesDiffer}
use Rattle.tsa_core.specs.Control.{count_all, body_targets}
use Rattle.tsa_core.specs.Programs.{Bodied, bodied_by, bodied_function}
use Rattle.tsa_core.specs.Programs as program

-- A body of a typed unit is typed.
pub record TypedBody (b : Bodied) : Type 0 where
  pub around : Around
  pub typed : first (statements_premises around b.here b.body) ≡ None

module _ (name : List ℕ) (b : Bodied) where
  or_typed : (hit : Bool) (x : Bodied) (other : Option Bodied) → TypedBody x → (other ≡ Some b → TypedBody b) → program.or_body hit x other ≡ Some b → TypedBody b
  or_typed true x other begins later is = subst TypedBody (some_same is) begins
  or_typed false x other begins later is = later is

  typed_by : (here : Scope) (item : UnitItem) (other : Option Bodied) → first (item_premises here item) ≡ None → (other ≡ Some b → TypedBody b) → bodied_by name here item other ≡ Some b
      → TypedBody b
  unfolding body_premises
  typed_by here (body_item head body close) other h later is =
      or_typed (bytes_eq name head.name.text) (record { here = inside here head true; head = head; body = body }) other
      (record {
        around = around_body here head body;
        typed = (none_of_both (head_premises here head true) (statements_premises (around_body here head body) (inside here head true) body) h).1;
      })
      later is
  typed_by here (structure_item tag alias attrs members span) other h later is = later is
  typed_by here (alias_item text ctype span) other h later is = later is
  typed_by here (enumeration_item tag alias values span) other h later is = later is
  typed_by here (global_item d) other h later is = later is
  typed_by here (function_item head) other h later is = later is

  pub body_typed : (here : Scope) (items : List UnitItem) → first (items_premises here items) ≡ None → bodied_function name here items ≡ Some b → TypedBody b
  unfolding bodied_function items_premises
  body_typed here [] h is = absurd cc
  body_typed here (item ∷ rest) h is =
      let told = none_of_both (item_premises here item) (items_premises (behind_item here item) rest) h in
      typed_by here item (bodied_function name (behind_item here item) rest) told.0 (body_typed (behind_item here item) rest told.1) is

pub cases_differ : CasesDiffer
cases_differ items name b sound typed is apart =
    let text = body_spellable name b (outset items) items sound is in
    let told = body_typed name b (outset items) items typed is in
    (all_differ all_words told.around b.here b.body 0 (0 + count_all b.body) (count_all b.body) (body_targets b.body) refl text told.typed apart).1
