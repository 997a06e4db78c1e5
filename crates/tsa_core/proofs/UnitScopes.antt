-- What is known behind each item of a typed unit is the same without functions.
use Rattle.std.proofs.Common.{◌≡◌, ◌∙◌, ℕ, ℤ, ◌+◌, pos, ◌+ℤ◌, nat_lt, Bool, true, false, not, ◌||◌, List, [], ◌∷◌, ◌++◌, length, map}
use Rattle.std.proofs.Common.{Option, Some, None, is_some, slice_get, if◌then◌else◌, refl, sym, ap, ap₂, subst, append_assoc}
use Rattle.std.proofs.lemmas.List.{append-nil}
use Rattle.std.proofs.lemmas.Slice.Eq.{bytes_eq-Decides}
use Rattle.std.specs.Str.{bytes_eq}
use Rattle.tsa_base.specs.declared.token.Span.{Span}
use Rattle.tsa_base.proofs.Truths.{never}
use Rattle.tsa_tree.specs.attributes.Syntax.{Attribute}
use Rattle.tsa_tree.specs.declarations.Syntax.{Declaration, DeclaredType, EnumConstant, Head}
use Rattle.tsa_tree.specs.declared.kind.Declaring.{Declaring}
use Rattle.tsa_tree.specs.declared.kind.Declaring.TheVariants as declaring
use Rattle.tsa_tree.specs.declared.kind.ExpressionType.{ExpressionType}
use Rattle.tsa_tree.specs.declared.kind.Kind.{Kind}
use Rattle.tsa_tree.specs.declared.kind.Kind.TheVariants as type
use Rattle.tsa_tree.specs.declared.kind.Resolved.{Resolved}
use Rattle.tsa_tree.specs.declared.kind.Resolved.TheVariants as written
use Rattle.tsa_tree.specs.declared.kind.ThingType.{ThingType}
use Rattle.tsa_tree.specs.declared.meaning.Entry.{Entry}
use Rattle.tsa_tree.specs.declared.meaning.Meaning.{Meaning}
use Rattle.tsa_tree.specs.declared.meaning.Meaning.TheVariants as meant
use Rattle.tsa_tree.specs.declared.number.Number.{Number}
use Rattle.tsa_tree.specs.declared.premise.Bearer.TheVariants as on
use Rattle.tsa_tree.specs.declared.premise.TypeCode.TheVariants.{TY2, TY3}
use Rattle.tsa_tree.specs.expressions.Syntax.{Identifier, Expression}
use Rattle.tsa_tree.specs.types.Attributes.{attributes_premises, attributes_beside}
use Rattle.tsa_tree.specs.types.Constants.{constant_of}
use Rattle.tsa_tree.specs.types.DeclaredTypes.{is_whole, is_nothing, may_be, is_refused, resolve, length_of, length_premises, type_premise}
use Rattle.tsa_tree.specs.types.DeclaredTypes.{unknown_tag, typed_premises, declared_premises, with_length, thing_type, typed_value}
use Rattle.tsa_tree.specs.types.Enums.{int_value, written_value, value_or_zero, value_premises, enumerator_entry, enumerator_value}
use Rattle.tsa_tree.specs.types.Enums.{enumerator_premises, enum_premises, other_enum, behind_enumerators}
use Rattle.tsa_tree.specs.types.Expressions.{type_of, is_function}
use Rattle.tsa_tree.specs.types.Globals.{global_entry, global_premises, inside_global, with_global}
use Rattle.tsa_tree.specs.types.Heads.{function_entry, bodied, again, behind_known, behind_head}
use Rattle.tsa_tree.specs.types.Premises.{first}
use Rattle.tsa_tree.specs.types.Scopes.{Scope, FunctionEntry, Members, found, context_of, tag_in, with_owned, with_name, with_named}
use Rattle.tsa_tree.specs.types.Scopes.{with_struct, with_globals, a_type_name, is_taken, is_named_taken}
use Rattle.tsa_tree.specs.types.Structs.{first_place, other_struct, with_member, member_premises, members_premises, members_behind}
use Rattle.tsa_tree.specs.types.Structs.{inside_struct, struct_premises}
use Rattle.tsa_tree.specs.types.Types.{single}
use Rattle.tsa_tree.specs.types.Units.{behind_item, item_premises}
use Rattle.tsa_tree.specs.units.Syntax.{UnitItem, structure_item, alias_item, enumeration_item, global_item, function_item, body_item}
use Rattle.tsa_place_model.specs.Parts.{whole, parts_behind, part_in, member_behind, members_after, structure_in, unless, unless_taken}
use Rattle.tsa_place_model.specs.Parts.{unless_named, behind_structure}
use Rattle.tsa_place_model.specs.Parts as laid
use Rattle.tsa_place_model.specs.Items.{worth_written, worth, enumerators_behind, known_global, behind_data}
use Rattle.tsa_core.proofs.KindTests.{both_true, not_false, neither}
use Rattle.tsa_core.proofs.NoFailure.{none_of_both, none_of_first, constant_told, keeps_typed, HasType}
use Rattle.tsa_core.proofs.ScopesAlike.{Alike, no_function, unless_so, value_same, thing_same}

-- Names that are found in a longer list.
abbrev pub or_other : {A : Type 0} → Option A → Option A → Option A
or_other (Some x) other = Some x
or_other None other = other

or_step : {A : Type 0} (b : Bool) (e : A) (r s o : Option A) → s ≡ or_other r o → (if b then Some e else s) ≡ or_other (if b then Some e else r) o
or_step true e r s o h = refl
or_step false e r s o h = h

pub found_append : {A : Type 0} (xs ys : List (List ℕ × A)) (name : List ℕ) → found (xs ++ ys) name ≡ or_other (found xs name) (found ys name)
found_append [] ys name = refl
found_append (x ∷ xs) ys name = or_step (bytes_eq name x.0) x.1 (found xs name) (found (xs ++ ys) name) (found ys name) (found_append xs ys name)

pub or_none : {A : Type 0} (o : Option A) → or_other o None ≡ o
or_none None = refl
or_none (Some x) = refl

none_found : {A : Type 0} (o : Option A) → is_some o ≡ false → o ≡ None
none_found None e = refl
none_found (Some x) e = never e

-- a further name that is no function's and isn't taken
last_alike : (o p : Option Entry) (e : Entry) (b : Bool) → is_function e ≡ false → p ≡ no_function o → (b ≡ true → o ≡ None)
    → or_other p (if b then Some e else None) ≡ no_function (or_other o (if b then Some e else None))
last_alike o p e true plain same free =
    let is : o ≡ None = free refl in
    ap (λ x. or_other x (Some e)) (same ∙ ap no_function is) ∙ sym (ap (λ b. unless_so b e) plain) ∙ sym (ap (λ x. no_function (or_other x (Some e))) is)
last_alike o p e false plain same free = or_none p ∙ same ∙ sym (ap no_function (or_none o))

module _ (here there : Scope) (alike : Alike here there) where
  name_alike : (name : List ℕ) (e : Entry) → is_function e ≡ false → is_taken name here ≡ false → Alike (with_name name e here) (with_name name e there)
  name_alike name e plain free = record {
    tags = alike.tags;
    structs = alike.structs;
    owned = alike.owned;
    no_owned = alike.no_owned;
    globals = alike.globals;
    names = λ other.
        found_append there.names ((name, e) ∷ []) other
        ∙ last_alike (found here.names other) (found there.names other) e (bytes_eq other name) plain (alike.names other)
        (λ is. ap (found here.names) ((bytes_eq-Decides other name).0 is) ∙ none_found (found here.names name) free)
        ∙ sym (ap no_function (found_append here.names ((name, e) ∷ []) other));
  }

  free_there : (name : List ℕ) → is_taken name here ≡ false → is_taken name there ≡ false
  free_there name free = ap is_some (alike.names name ∙ ap no_function (none_found (found here.names name) free))

  taken_alike : (name : List ℕ) (e d : Entry) → d ≡ e → is_function e ≡ false → is_taken name here ≡ false → Alike (with_name name e here) (unless_taken name d there)
  taken_alike name e d same plain free =
      subst (Alike (with_name name e here))
      (sym (ap (λ x. unless_taken name x there) same ∙ ap (λ b. unless b there (with_name name e there)) (free_there name free)))
      (name_alike name e plain free)

  named_alike : (name : Option Identifier) (e d : Entry) → d ≡ e → is_function e ≡ false → is_named_taken name here ≡ false → Alike (with_named name e here) (unless_named name d there)
  named_alike None e d same plain free = alike
  named_alike (Some name) e d same plain free = taken_alike name.text e d same plain free

  struct_alike : (ms other : Members) → other ≡ ms → Alike (with_struct ms here) (with_struct other there)
  struct_alike ms other same = record {
    tags = alike.tags;
    structs = ap₂ (λ xs m. xs ++ m ∷ []) alike.structs same;
    owned = alike.owned;
    no_owned = alike.no_owned;
    globals = alike.globals;
    names = alike.names;
  }

  globals_alike : (n m : ℕ) → m ≡ n → Alike (with_globals n here) (with_globals m there)
  globals_alike n m same = record { tags = alike.tags; structs = alike.structs; owned = alike.owned; no_owned = alike.no_owned; globals = same; names = alike.names }

  -- A function that is declared for the first time, and one that is declared again.
  function_last : (o p : Option Entry) (e : Entry) (b : Bool) → is_function e ≡ true → p ≡ no_function o → (b ≡ true → o ≡ None)
      → p ≡ no_function (or_other o (if b then Some e else None))
  function_last o p e true yet same free =
      let is : o ≡ None = free refl in
      same ∙ ap no_function is ∙ sym (ap (λ b. unless_so b e) yet) ∙ sym (ap (λ x. no_function (or_other x (Some e))) is)
  function_last o p e false yet same free = same ∙ sym (ap no_function (or_none o))

  bodied_alike : (with_body : Bool) (n : ℕ) (f : Option FunctionEntry) → Alike (bodied here with_body n f) there
  bodied_alike with_body n None = alike
  bodied_alike with_body n (Some f) =
      record { tags = alike.tags; structs = alike.structs; owned = alike.owned; no_owned = alike.no_owned; globals = alike.globals; names = alike.names }

  again_alike : (head : Head) (with_body : Bool) (m : Meaning) → Alike (again here head with_body m) there
  again_alike head with_body (meant.Function n) = bodied_alike with_body n (slice_get here.functions n)
  again_alike head with_body (meant.Global n) = alike
  again_alike head with_body (meant.Local n) = alike
  again_alike head with_body meant.Owned = alike
  again_alike head with_body (meant.Constant z) = alike
  again_alike head with_body meant.TypeName = alike

  known_head : (head : Head) (with_body : Bool) (o : Option Entry) → found here.names head.name.text ≡ o → Alike (behind_known here head with_body o) there
  known_head head with_body (Some e) is = again_alike head with_body e.meaning
  known_head head with_body None is = record {
    tags = alike.tags;
    structs = alike.structs;
    owned = alike.owned;
    no_owned = alike.no_owned;
    globals = alike.globals;
    names = λ other.
        function_last (found here.names other) (found there.names other) (function_entry here head (length here.functions)) (bytes_eq other head.name.text) refl (alike.names other)
        (λ e. ap (found here.names) ((bytes_eq-Decides other head.name.text).0 e) ∙ is)
        ∙ sym (ap no_function (found_append here.names ((head.name.text, function_entry here head (length here.functions)) ∷ []) other));
  }

  pub head_alike : (head : Head) (with_body : Bool) → Alike (behind_head here head with_body) there
  head_alike head with_body = known_head head with_body (found here.names head.name.text) refl

  -- Types that are whole count as they are.
  whole_same : (kind : Kind) → is_whole there kind ≡ is_whole here kind
  whole_same (type.Structure n) = ap (λ xs. nat_lt n (length xs)) alike.structs
  whole_same type.Int = refl
  whole_same type.Unsigned = refl
  whole_same type.Void = refl
  whole_same (type.Pointer n c) = refl
  whole_same type.Null = refl
  whole_same type.Function = refl

  whole_kept : (t : ThingType) (b : Bool) → is_whole there t.kind ≡ b → b ≡ true → whole there t ≡ t
  whole_kept t true e f = rw e refl
  whole_kept t false e f = never (sym f)

  resolved_whole : (l : Option ℕ) (r : Resolved) → is_refused here declaring.Thing r ≡ false → whole there (with_length l r) ≡ with_length l r
  resolved_whole l (written.Type t) e =
      let b = both_true (not (is_nothing t.kind)) (is_whole here t.kind) (not_false (may_be here declaring.Thing t.kind) e) in
      whole_kept (with_length l (written.Type t)) (is_whole there t.kind) refl (whole_same t.kind ∙ b.1)
  resolved_whole l (written.Unknown span) e = refl
  resolved_whole l written.Refused e = never e

  pub part_same : (t : DeclaredType) → is_refused here declaring.Thing (resolve here t) ≡ false → whole there (thing_type there t) ≡ thing_type here t
  part_same t e = ap (whole there) (thing_same here there alike t) ∙ resolved_whole (length_of (context_of here) t.length) (resolve here t) e

-- The premises of what is declared.
pub typed_told : (here : Scope) (what : Declaring) (taken : Bool) (span : Span) (t : DeclaredType) → first (typed_premises here what taken span t) ≡ None
    → (taken ≡ false) × (is_refused here what (resolve here t) ≡ false)
unfolding typed_premises
typed_told here what taken span t h =
    let a = none_of_first TY2 span taken (type_premise here what span t ∷ unknown_tag (resolve here t)) h in
    (a.0, (none_of_first TY3 span (is_refused here what (resolve here t)) (unknown_tag (resolve here t)) a.1).0)

pub declared_told : (here : Scope) (what : Declaring) (taken : Bool) (span : Span) (t : DeclaredType) → first (declared_premises here what taken span t) ≡ None
    → (taken ≡ false) × (is_refused here what (resolve here t) ≡ false)
unfolding declared_premises
declared_told here what taken span t h =
    typed_told here what taken span t (none_of_both (typed_premises here what taken span t) (length_premises (context_of here) t.length) h).0

-- The members of a struct.
module _ (here there : Scope) (alike : Alike here there) where
  member_told : (before : Members) (d : Declaration) → first (member_premises here before d) ≡ None
      → (is_some (found before d.name.text) ≡ false) × (is_refused here declaring.Thing (resolve here d.ctype) ≡ false)
  member_told before d h =
      declared_told here declaring.Thing (is_some (found before d.name.text)) d.span d.ctype
      (none_of_both (declared_premises here declaring.Thing (is_some (found before d.name.text)) d.span d.ctype) (attributes_premises (with_owned before here) on.Member d.attrs) h).0

  with_same : (before : Members) (d : Declaration) → is_some (found before d.name.text) ≡ false → member_behind there before d ≡ with_member here before d
  with_same before d free =
      ap (λ b. laid.unless_known b before (with_member there before d)) free ∙ ap (λ t. before ++ (d.name.text, t) ∷ []) (thing_same here there alike d.ctype)

  members_same : (before : Members) (decls : List Declaration) → first (members_premises here before decls) ≡ None → members_after there before decls ≡ members_behind here before decls
  unfolding members_premises members_after members_behind
  members_same before [] h = refl
  members_same before (d ∷ rest) h =
      let both = none_of_both (member_premises here before d) (members_premises here (with_member here before d) rest) h in
      ap (λ ms. members_after there ms rest) (with_same before d (member_told before d both.0).0) ∙ members_same (with_member here before d) rest both.1

  pub parts_same : (before known : Members) (decls : List Declaration) → first (members_premises here before decls) ≡ None
      → map (λ m. m.1) before ++ map (λ m. m.thing) (parts_behind there known decls) ≡ map (λ m. m.1) (members_behind here before decls)
  unfolding members_premises parts_behind members_behind
  parts_same before known [] h = append-nil (map (λ m. m.1) before)
  parts_same before known (d ∷ rest) h =
      let both = none_of_both (member_premises here before d) (members_premises here (with_member here before d) rest) h in
      let t = thing_type here d.ctype in
      let parts = map (λ m. m.thing) (parts_behind there (member_behind there known d) rest) in
      ap (λ x. map (λ m. m.1) before ++ (x ∷ parts)) (part_same here there alike d.ctype (member_told before d both.0).1)
      ∙ sym (append_assoc (map (λ m. m.1) before) (t ∷ []) parts)
      ∙ ap (λ xs. xs ++ parts) (sym (map_append before (d.name.text, t)))
      ∙ parts_same (with_member here before d) (member_behind there known d) rest both.1
    where
      map_append : (xs : Members) (x : List ℕ × ThingType) → map (λ m. m.1) (xs ++ x ∷ []) ≡ map (λ m. m.1) xs ++ x.1 ∷ []
      map_append [] x = refl
      map_append (y ∷ xs) x = ap (λ ys. y.1 ∷ ys) (map_append xs x)

  -- the enumerators of an enum
  worth_same : (e : EnumConstant) (next : ℤ) → first (value_premises here e.name e.value next) ≡ None → worth there e next ≡ enumerator_value here e next
  worth_same e next h = by e.value refl
    where
      typed_is : (o : Option ExpressionType) (v : Option Number) → HasType o → typed_value o v ≡ v
      typed_is None v t = let is = t.1 in absurd cc
      typed_is (Some x) v t = refl

      by : (value : Option Expression) → e.value ≡ value → worth there e next ≡ enumerator_value here e next
      by None is = rw is refl
      by (Some x) is =
          let told : first (value_premises here e.name (Some x) next) ≡ None = subst (λ y. first (value_premises here e.name y next) ≡ None) is h in
          let t = keeps_typed (context_of here) x (constant_told (context_of here) (λ n. is_some (int_value n)) x told) in
          ap (λ y. value_or_zero (worth_written there y next)) is
          ∙ ap (λ v. value_or_zero (int_value v)) (value_same here there alike x ∙ typed_is (type_of (context_of here) x) (constant_of (context_of here) x) t)
          ∙ sym (ap (λ y. value_or_zero (written_value here y next)) is)

enumerators_alike : (here there : Scope) (next : ℤ) (values : List EnumConstant) → Alike here there → first (enumerator_premises here next values) ≡ None
    → Alike (behind_enumerators here next values) (enumerators_behind there next values)
unfolding enumerator_premises behind_enumerators enumerators_behind
enumerators_alike here there next [] alike h = alike
enumerators_alike here there next (e ∷ rest) alike h =
    let z = enumerator_value here e next in
    let a = none_of_first TY2 e.name.span (is_taken e.name.text here) (value_premises here e.name e.value next ++ enumerator_premises (with_name e.name.text (enumerator_entry z) here) (z +ℤ pos 1) rest) h in
    let b = none_of_both (value_premises here e.name e.value next) (enumerator_premises (with_name e.name.text (enumerator_entry z) here) (z +ℤ pos 1) rest) a.1 in
    let same = worth_same here there alike e next b.0 in
    subst (λ w. Alike (behind_enumerators (with_name e.name.text (enumerator_entry z) here) (z +ℤ pos 1) rest)
    (enumerators_behind (unless_taken e.name.text (enumerator_entry w) there) (w +ℤ pos 1) rest)) (sym same)
    (enumerators_alike (with_name e.name.text (enumerator_entry z) here) (unless_taken e.name.text (enumerator_entry z) there) (z +ℤ pos 1) rest
    (taken_alike here there alike e.name.text (enumerator_entry z) (enumerator_entry z) refl refl a.0) b.1)

-- of a struct no premise of a member fails, and its names are free
pub struct_told : (here : Scope) (tag alias : Option Identifier) (attrs : List Attribute) (members : List Declaration) (span : Span)
    → first (struct_premises here tag alias attrs members span) ≡ None → (is_named_taken alias here ≡ false) × (first (members_premises here [] members) ≡ None)
unfolding struct_premises inside_struct
struct_told here tag alias attrs members span h =
    let before = attributes_premises here on.Structure (attributes_beside true (first_place span.to members) attrs) in
    let behind = attributes_premises here on.Structure (attributes_beside false (first_place span.to members) attrs) in
    let inner = none_of_first TY2 span (other_struct (length here.structs) (tag_in here tag) || is_named_taken alias here) (before ++ (members_premises here [] members ++ behind)) h in (
      (neither (other_struct (length here.structs) (tag_in here tag)) (is_named_taken alias here) inner.0).1,
      (none_of_both (members_premises here [] members) behind (none_of_both before (members_premises here [] members ++ behind) inner.1).1).0,
    )

pub global_told : (here : Scope) (d : Declaration) → first (global_premises here d) ≡ None → (is_taken d.name.text here ≡ false) × (is_refused here declaring.Thing (resolve here d.ctype) ≡ false)
global_told here d h =
    typed_told here declaring.Thing (is_taken d.name.text here) d.span d.ctype
    (none_of_both (typed_premises here declaring.Thing (is_taken d.name.text here) d.span d.ctype) (inside_global (with_global here d) here.globals (thing_type here d.ctype) d) h).0

-- a struct takes no name
pub named_struct : (alias : Option Identifier) (ms : Members) (here : Scope) → is_named_taken alias here ≡ false → is_named_taken alias (with_struct ms here) ≡ false
named_struct None ms here e = refl
named_struct (Some name) ms here e = e

-- of an enum no premise of an enumerator fails, and its name is free
enum_told : (here : Scope) (tag alias : Option Identifier) (values : List EnumConstant) (span : Span) → first (enum_premises here tag alias values span) ≡ None
    → (is_named_taken alias (behind_enumerators here (pos 0) values) ≡ false) × (first (enumerator_premises here (pos 0) values) ≡ None)
unfolding enum_premises
enum_told here tag alias values span h =
    let a = none_of_first TY2 span (other_enum span.from (tag_in here tag) || is_named_taken alias (behind_enumerators here (pos 0) values)) (enumerator_premises here (pos 0) values) h in
    ((neither (other_enum span.from (tag_in here tag)) (is_named_taken alias (behind_enumerators here (pos 0) values)) a.0).1, a.1)

-- behind any item
pub item_alike : (here there : Scope) (item : UnitItem) → Alike here there → first (item_premises here item) ≡ None → Alike (behind_item here item) (behind_data there item)
item_alike here there (structure_item tag alias attrs members span) alike h =
    let told = struct_told here tag alias attrs members span h in
    let ms = members_behind here [] members in
    named_alike (with_struct ms here) (with_struct (members_after there [] members) there) (struct_alike here there alike ms (members_after there [] members) (members_same here there alike [] members told.1))
    alias (a_type_name (single (type.Structure (length here.structs)) false)) (a_type_name (single (type.Structure (length there.structs)) false))
    (ap (λ xs. a_type_name (single (type.Structure (length xs)) false)) alike.structs) refl (named_struct alias ms here told.0)
item_alike here there (alias_item name ctype span) alike h =
    taken_alike here there alike name.text (a_type_name (thing_type here ctype)) (a_type_name (thing_type there ctype)) (ap a_type_name (thing_same here there alike ctype)) refl
    (declared_told here declaring.Type (is_taken name.text here) span ctype h).0
item_alike here there (enumeration_item tag alias values span) alike h =
    let told = enum_told here tag alias values span h in
    let t = single type.Int false in
    named_alike (behind_enumerators here (pos 0) values) (enumerators_behind there (pos 0) values) (enumerators_alike here there (pos 0) values alike told.1)
    alias (a_type_name t) (a_type_name t) refl refl told.0
item_alike here there (global_item d) alike h =
    let told = global_told here d h in
    globals_alike (with_global here d) (known_global there d)
    (taken_alike here there alike d.name.text (global_entry here d) (global_entry there d)
    (ap₂ (λ n t. record { meaning = meant.Global n; thing = t }) alike.globals (thing_same here there alike d.ctype)) refl told.0)
    (here.globals + 1) (there.globals + 1) (ap (λ n. n + 1) alike.globals)
item_alike here there (function_item head) alike h = head_alike here there alike head false
item_alike here there (body_item head body close) alike h = head_alike here there alike head true
