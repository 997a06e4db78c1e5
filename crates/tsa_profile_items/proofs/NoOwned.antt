-- Behind an item no other members are looked up first than before it.
use Rattle.std.proofs.Common.{◌≡◌, ◌∙◌, ℕ, ℤ, ◌+ℤ◌, pos, Bool, true, false, List, [], ◌∷◌, Option, Some, None, slice_get, refl}
use Rattle.tsa_tree.specs.declarations.Syntax.{EnumConstant, Head}
use Rattle.tsa_tree.specs.declared.meaning.Entry.{Entry}
use Rattle.tsa_tree.specs.declared.meaning.Meaning.{Meaning}
use Rattle.tsa_tree.specs.declared.meaning.Meaning.TheVariants as meant
use Rattle.tsa_tree.specs.expressions.Syntax.{Identifier}
use Rattle.tsa_tree.specs.types.Enums.{behind_enumerators, enumerator_entry, enumerator_value}
use Rattle.tsa_tree.specs.types.Heads.{again, behind_known, bodied}
use Rattle.tsa_tree.specs.types.Scopes.{Scope, FunctionEntry, found, with_name, with_named}
use Rattle.tsa_tree.specs.types.Units.{behind_item}
use Rattle.tsa_tree.specs.units.Syntax.{UnitItem, structure_item, alias_item, enumeration_item, global_item, function_item, body_item}

named : (name : Option Identifier) (e : Entry) (here : Scope) → (with_named name e here).owned ≡ here.owned
named None e here = refl
named (Some name) e here = refl

constants : (here : Scope) (next : ℤ) (values : List EnumConstant) → (behind_enumerators here next values).owned ≡ here.owned
unfolding behind_enumerators
constants here next [] = refl
constants here next (e ∷ rest) =
    constants (with_name e.name.text (enumerator_entry (enumerator_value here e next)) here) (enumerator_value here e next +ℤ pos 1) rest

head_known : (here : Scope) (head : Head) (with_body : Bool) (o : Option Entry) → (behind_known here head with_body o).owned ≡ here.owned
head_known here head with_body None = refl
head_known here head with_body (Some e) = by e.meaning
  where
    same : (n : ℕ) (o : Option FunctionEntry) → (bodied here with_body n o).owned ≡ here.owned
    same n None = refl
    same n (Some f) = refl

    by : (m : Meaning) → (again here head with_body m).owned ≡ here.owned
    by (meant.Function n) = same n (slice_get here.functions n)
    by (meant.Global n) = refl
    by (meant.Local n) = refl
    by (meant.Constant z) = refl
    by meant.Owned = refl
    by meant.TypeName = refl

pub owned_kept : (here : Scope) (item : UnitItem) → (behind_item here item).owned ≡ here.owned
owned_kept here (structure_item tag alias attrs members span) = named alias _ _
owned_kept here (alias_item name ctype span) = refl
owned_kept here (enumeration_item tag alias values span) = named alias _ _ ∙ constants here (pos 0) values
owned_kept here (global_item d) = refl
owned_kept here (function_item head) = head_known here head false (found here.names head.name.text)
owned_kept here (body_item head body close) = head_known here head true (found here.names head.name.text)
