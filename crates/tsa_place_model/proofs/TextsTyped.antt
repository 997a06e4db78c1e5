-- In a typed unit a global has a name that isn't taken, and a member one that no member before it has.
use Rattle.std.proofs.Common.{◌≡◌, ℕ, ℤ, pos, ◌+ℤ◌, Bool, true, false, ◌||◌, List, [], ◌∷◌, ◌++◌, length, Option, Some, None, is_some}
use Rattle.std.proofs.Common.{slice_get, if◌then◌else◌, refl, sym, ap, subst, ◌∙◌}
use Rattle.std.specs.Str.{bytes_eq}
use Rattle.std.proofs.lemmas.Slice.Eq.{bytes_eq-Decides}
use Rattle.tsa_base.specs.declared.token.Span.{Span}
use Rattle.tsa_base.proofs.Truths.{never}
use Rattle.tsa_tree.specs.attributes.Syntax.{Attribute}
use Rattle.tsa_tree.specs.declarations.Syntax.{Declaration, DeclaredType, EnumConstant, Head}
use Rattle.tsa_tree.specs.declared.kind.Declaring.{Declaring}
use Rattle.tsa_tree.specs.declared.kind.Declaring.TheVariants as declaring
use Rattle.tsa_tree.specs.declared.kind.ThingType.{ThingType}
use Rattle.tsa_tree.specs.declared.premise.Bearer.TheVariants as on
use Rattle.tsa_tree.specs.declared.premise.Failure.{Failure}
use Rattle.tsa_tree.specs.declared.premise.TypeCode.{TypeCode}
use Rattle.tsa_tree.specs.declared.premise.TypeCode.TheVariants.{TY2}
use Rattle.tsa_tree.specs.expressions.Syntax.{Identifier}
use Rattle.tsa_tree.specs.types.Attributes.{attributes_premises, attributes_beside}
use Rattle.tsa_tree.specs.types.DeclaredTypes.{thing_type, resolve, length_premises, type_premise, unknown_tag, typed_premises}
use Rattle.tsa_tree.specs.types.DeclaredTypes.{declared_premises}
use Rattle.tsa_tree.specs.types.Enums.{enumerator_entry, enumerator_value, behind_enumerators}
use Rattle.tsa_tree.specs.types.Globals.{global_entry, global_premises, inside_global, with_global}
use Rattle.tsa_tree.specs.types.Heads.{bodied, again, behind_known, function_entry}
use Rattle.tsa_tree.specs.declared.meaning.Entry.{Entry}
use Rattle.tsa_tree.specs.declared.meaning.Meaning.{Meaning}
use Rattle.tsa_tree.specs.declared.meaning.Meaning.TheVariants.{Global, Local, Function, Owned, Constant, TypeName}
use Rattle.tsa_tree.specs.types.Premises.{Premise, premise, or_else, failure_of, first}
use Rattle.tsa_tree.specs.types.Scopes.{Scope, FunctionEntry, Members, found, context_of, tag_in, with_owned, with_name, with_alias}
use Rattle.tsa_tree.specs.types.Scopes.{with_struct, a_type_name, is_taken, is_named_taken}
use Rattle.tsa_tree.specs.types.Structs.{first_place, other_struct, with_member, member_premises, members_premises, members_behind}
use Rattle.tsa_tree.specs.types.Structs.{inside_struct, struct_premises}
use Rattle.tsa_tree.specs.types.Units.{behind_item}
use Rattle.tsa_tree.specs.units.Syntax.{UnitItem, structure_item, alias_item, enumeration_item, global_item, function_item, body_item}
use Rattle.tsa_tree.proofs.types.NodeLists.{first-append}
use Rattle.tsa_place_model.specs.Layouts.{Part}
use Rattle.tsa_place_model.specs.Parts.{parts_behind, member_behind}
use Rattle.tsa_place_model.proofs.TextsNamed.{NotNamed, AreApart}

-- what is found among names is found among more, and the last one is found
found_or : {A : Type 0} (b : Bool) (e : A) (shorter longer : Option A) → (is_some shorter ≡ true → is_some longer ≡ true)
    → is_some (if b then Some e else shorter) ≡ true → is_some (if b then Some e else longer) ≡ true
found_or true e shorter longer more h = refl
found_or false e shorter longer more h = more h

found_longer : {A : Type 0} (xs ys : List (List ℕ × A)) (name : List ℕ) → is_some (found xs name) ≡ true → is_some (found (xs ++ ys) name) ≡ true
found_longer [] ys name h = never (sym h)
found_longer (x ∷ xs) ys name h = found_or (bytes_eq name x.0) x.1 (found xs name) (found (xs ++ ys) name) (found_longer xs ys name) h

found_here : {A : Type 0} (b : Bool) (e : A) (rest : Option A) → is_some rest ≡ true → is_some (if b then Some e else rest) ≡ true
found_here true e rest h = refl
found_here false e rest h = h

found_last : {A : Type 0} (xs : List (List ℕ × A)) (name : List ℕ) (e : A) → is_some (found (xs ++ (name, e) ∷ []) name) ≡ true
found_last [] name e = ap (λ b. is_some (if b then Some e else None)) ((bytes_eq-Decides name name).1 refl)
found_last (x ∷ xs) name e = found_here (bytes_eq name x.0) x.1 (found (xs ++ (name, e) ∷ []) name) (found_last xs name e)

-- what isn't found among more isn't found among names
not_in_front : {A : Type 0} (xs ys : List (List ℕ × A)) (name : List ℕ) → is_some (found (xs ++ ys) name) ≡ false → is_some (found xs name) ≡ false
not_in_front xs ys name h = by (is_some (found xs name)) refl
  where
    by : (b : Bool) → is_some (found xs name) ≡ b → b ≡ false
    by true e = never (sym (found_longer xs ys name e) ∙ h)
    by false e = refl

-- no name is lost
abbrev pub Grows : Scope → Scope → Type 0
Grows here there = (name : List ℕ) → is_taken name here ≡ true → is_taken name there ≡ true

grows_name : (name : List ℕ) (e : Entry) (here : Scope) → Grows here (with_name name e here)
grows_name name e here other h = found_longer here.names ((name, e) ∷ []) other h

grows_alias : (alias : Option Identifier) (t : ThingType) (here : Scope) → Grows here (with_alias alias t here)
grows_alias None t here other h = h
grows_alias (Some name) t here other h = grows_name name.text (a_type_name t) here other h

grows_enumerators : (here : Scope) (next : ℤ) (values : List EnumConstant) → Grows here (behind_enumerators here next values)
unfolding behind_enumerators
grows_enumerators here next [] name h = h
grows_enumerators here next (e ∷ rest) name h =
    grows_enumerators (with_name e.name.text (enumerator_entry (enumerator_value here e next)) here) (enumerator_value here e next +ℤ pos 1) rest name
    (grows_name e.name.text (enumerator_entry (enumerator_value here e next)) here name h)

grows_bodied : (here : Scope) (with_body : Bool) (n : ℕ) (f : Option FunctionEntry) → Grows here (bodied here with_body n f)
grows_bodied here with_body n None name h = h
grows_bodied here with_body n (Some f) name h = h

grows_again : (here : Scope) (head : Head) (with_body : Bool) (m : Meaning) → Grows here (again here head with_body m)
grows_again here head with_body (Function n) name h = grows_bodied here with_body n (slice_get here.functions n) name h
grows_again here head with_body (Global n) name h = h
grows_again here head with_body (Local n) name h = h
grows_again here head with_body Owned name h = h
grows_again here head with_body (Constant z) name h = h
grows_again here head with_body TypeName name h = h

grows_known : (here : Scope) (head : Head) (with_body : Bool) (e : Option Entry) → Grows here (behind_known here head with_body e)
grows_known here head with_body None name h = grows_name head.name.text (function_entry here head (length here.functions)) here name h
grows_known here head with_body (Some e) name h = grows_again here head with_body e.meaning name h

pub grows_item : (here : Scope) (item : UnitItem) → Grows here (behind_item here item)
grows_item here (structure_item tag alias attrs members span) name h = grows_alias alias _ (with_struct (members_behind here [] members) here) name h
grows_item here (alias_item own ctype span) name h = grows_name own.text (a_type_name (thing_type here ctype)) here name h
grows_item here (enumeration_item tag alias values span) name h =
    grows_alias alias _ (behind_enumerators here (pos 0) values) name (grows_enumerators here (pos 0) values name h)
grows_item here (global_item d) name h = grows_name d.name.text (global_entry here d) here name h
grows_item here (function_item head) name h = grows_known here head false (found here.names head.name.text) name h
grows_item here (body_item head body close) name h = grows_known here head true (found here.names head.name.text) name h

-- where no premise fails, none of a part of them does
neither : (a b : Option Failure) → or_else a b ≡ None → (a ≡ None) × (b ≡ None)
neither (Some f) b h = absurd cc
neither None b h = (refl, h)

pub none_of_both : (xs ys : List Premise) → first (xs ++ ys) ≡ None → (first xs ≡ None) × (first ys ≡ None)
none_of_both xs ys h = neither (first xs) (first ys) (sym (first-append xs ys) ∙ h)

holds : (code : TypeCode) (span : Span) (fails : Bool) → failure_of (premise code span fails) ≡ None → fails ≡ false
holds code span true h = absurd cc
holds code span false h = refl

none_of_first : (code : TypeCode) (span : Span) (fails : Bool) (rest : List Premise) → first (premise code span fails ∷ rest) ≡ None → (fails ≡ false) × (first rest ≡ None)
unfolding first
none_of_first code span fails rest h = let both = neither (failure_of (premise code span fails)) (first rest) h in (holds code span fails both.0, both.1)

typed_free : (here : Scope) (what : Declaring) (taken : Bool) (span : Span) (t : DeclaredType) → first (typed_premises here what taken span t) ≡ None → taken ≡ false
unfolding typed_premises
typed_free here what taken span t h = (none_of_first TY2 span taken (type_premise here what span t ∷ unknown_tag (resolve here t)) h).0

declared_free : (here : Scope) (what : Declaring) (taken : Bool) (span : Span) (t : DeclaredType) → first (declared_premises here what taken span t) ≡ None → taken ≡ false
unfolding declared_premises
declared_free here what taken span t h =
    typed_free here what taken span t (none_of_both (typed_premises here what taken span t) (length_premises (context_of here) t.length) h).0

-- a global's name isn't taken before it, and is behind it
pub global_free : (here : Scope) (d : Declaration) → first (global_premises here d) ≡ None → is_taken d.name.text here ≡ false
global_free here d h =
    typed_free here declaring.Thing (is_taken d.name.text here) d.span d.ctype
    (none_of_both (typed_premises here declaring.Thing (is_taken d.name.text here) d.span d.ctype) (inside_global (with_global here d) here.globals (thing_type here d.ctype) d) h).0

pub global_taken : (here : Scope) (d : Declaration) → is_taken d.name.text (behind_item here (global_item d)) ≡ true
global_taken here d = found_last here.names d.name.text (global_entry here d)

-- of a struct no premise of a member fails
pub members_hold : (here : Scope) (tag alias : Option Identifier) (attrs : List Attribute) (members : List Declaration) (span : Span)
    → first (struct_premises here tag alias attrs members span) ≡ None → first (members_premises here [] members) ≡ None
unfolding struct_premises inside_struct
members_hold here tag alias attrs members span h =
    let before = attributes_premises here on.Structure (attributes_beside true (first_place span.to members) attrs) in
    let behind = attributes_premises here on.Structure (attributes_beside false (first_place span.to members) attrs) in
    let inner = none_of_first TY2 span (other_struct (length here.structs) (tag_in here tag) || is_named_taken alias here) (before ++ (members_premises here [] members ++ behind)) h in
    (none_of_both (members_premises here [] members) behind (none_of_both before (members_premises here [] members ++ behind) inner.1).1).0

-- parts whose names aren't among some members
abbrev AreFresh : Members → List Part → Type 0
AreFresh before [] = Unit {0}
AreFresh before (p ∷ ps) = (is_some (found before p.name) ≡ false) × AreFresh before ps

fresh_before : (before more : Members) (ps : List Part) → AreFresh (before ++ more) ps → AreFresh before ps
fresh_before before more [] h = tt
fresh_before before more (p ∷ ps) h = (not_in_front before more p.name h.0, fresh_before before more ps h.1)

not_again : (before : Members) (name : List ℕ) (t : ThingType) (ps : List Part) → AreFresh (before ++ (name, t) ∷ []) ps → NotNamed name ps
not_again before name t [] h = tt
not_again before name t (p ∷ ps) h =
    (λ e. never (sym (found_last before name t) ∙ subst (λ n. is_some (found (before ++ (name, t) ∷ []) n) ≡ false) e h.0), not_again before name t ps h.1)

member_free : (here : Scope) (before : Members) (d : Declaration) → first (member_premises here before d) ≡ None → is_some (found before d.name.text) ≡ false
member_free here before d h =
    declared_free here declaring.Thing (is_some (found before d.name.text)) d.span d.ctype
    (none_of_both (declared_premises here declaring.Thing (is_some (found before d.name.text)) d.span d.ctype) (attributes_premises (with_owned before here) on.Member d.attrs) h).0

-- the places of members are worked out in another scope, behind others: only their names count
members_fresh : (here inner : Scope) (before known : Members) (decls : List Declaration) → first (members_premises here before decls) ≡ None
    → AreFresh before (parts_behind inner known decls) × AreApart (parts_behind inner known decls)
unfolding members_premises parts_behind
members_fresh here inner before known [] h = (tt, tt)
members_fresh here inner before known (d ∷ rest) h =
    let both = none_of_both (member_premises here before d) (members_premises here (with_member here before d) rest) h in
    let free = member_free here before d both.0 in
    let others = members_fresh here inner (with_member here before d) (member_behind inner known d) rest both.1 in
    let parts = parts_behind inner (member_behind inner known d) rest in
    ((free, fresh_before before ((d.name.text, thing_type here d.ctype) ∷ []) parts others.0), (not_again before d.name.text (thing_type here d.ctype) parts others.0, others.1))

pub members_apart : (here inner : Scope) (decls : List Declaration) → first (members_premises here [] decls) ≡ None → AreApart (parts_behind inner [] decls)
members_apart here inner decls h = (members_fresh here inner [] [] decls h).1
