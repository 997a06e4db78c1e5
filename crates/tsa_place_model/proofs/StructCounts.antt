-- As many structs are known by name as have places.
use Rattle.std.proofs.Common.{◌≡◌, ◌∙◌, ℕ, suc, arith, ℤ, Bool, true, false, List, [], ◌∷◌, length, Option, Some, None}
use Rattle.std.proofs.Common.{refl, ap}
use Rattle.std.proofs.lemmas.List.{length-append}
use Rattle.tsa_tree.specs.declarations.Syntax.{EnumConstant}
use Rattle.tsa_tree.specs.declared.meaning.Entry.{Entry}
use Rattle.tsa_tree.specs.expressions.Syntax.{Identifier}
use Rattle.tsa_tree.specs.types.Enums.{enumerator_entry}
use Rattle.tsa_tree.specs.types.Scopes.{Scope, Members, is_taken, is_named_taken, with_name, with_named, with_struct}
use Rattle.tsa_tree.specs.units.Syntax.{UnitItem, structure_item, alias_item, enumeration_item, global_item, function_item, body_item}
use Rattle.tsa_place_model.specs.Calls.{Layout}
use Rattle.tsa_place_model.specs.Parts.{unless, unless_taken, members_after}
use Rattle.tsa_place_model.specs.Items.{worth, enumerators_behind, behind_data}
use Rattle.tsa_place_model.specs.Units.{data_placed}

-- names change no struct
of_named : (name : Option Identifier) (e : Entry) (here : Scope) → (with_named name e here).structs ≡ here.structs
of_named None e here = refl
of_named (Some name) e here = refl

named_same : (name : Option Identifier) (e : Entry) (here : Scope) (b : Bool) → (unless b here (with_named name e here)).structs ≡ here.structs
named_same name e here true = refl
named_same name e here false = of_named name e here

taken_same : (name : List ℕ) (e : Entry) (here : Scope) (b : Bool) → (unless b here (with_name name e here)).structs ≡ here.structs
taken_same name e here true = refl
taken_same name e here false = refl

enumerators_same : (here : Scope) (next : ℤ) (values : List EnumConstant) → (enumerators_behind here next values).structs ≡ here.structs
unfolding enumerators_behind
enumerators_same here next [] = refl
enumerators_same here next (e ∷ rest) =
    enumerators_same (unless_taken e.name.text (enumerator_entry (worth here e next)) here) _ rest
    ∙ taken_same e.name.text (enumerator_entry (worth here e next)) here (is_taken e.name.text here)

one_longer : (here : Scope) (m : Members) → length (with_struct m here).structs ≡ suc (length here.structs)
one_longer here m = let e = length-append here.structs (m ∷ []) in omega (arith, e)

-- as many structs are known by name as have places
pub same_structs : (here : Scope) (l : Layout) (item : UnitItem) → length here.structs ≡ length l.structs → length (behind_data here item).structs ≡ length (data_placed here l item).structs
same_structs here l (structure_item tag alias attrs members span) h =
    ap length (named_same alias _ (with_struct (members_after here [] members) here) (is_named_taken alias (with_struct (members_after here [] members) here)))
    ∙ one_longer here (members_after here [] members) ∙ ap suc h
same_structs here l (alias_item name ctype span) h = ap length (taken_same name.text _ here (is_taken name.text here)) ∙ h
same_structs here l (enumeration_item tag alias values span) h =
    ap length (named_same alias _ (enumerators_behind here _ values) (is_named_taken alias (enumerators_behind here _ values)) ∙ enumerators_same here _ values) ∙ h
same_structs here l (global_item d) h = ap length (taken_same d.name.text _ here (is_taken d.name.text here)) ∙ h
same_structs here l (function_item head) h = h
same_structs here l (body_item head body close) h = h
