-- What is known behind an item of a typed unit, where each name is known unless it is taken.
use Rattle.std.proofs.Common.{◌≡◌, ◌∙◌, ℕ, ℤ, pos, ◌+◌, suc, arith, ◌+ℤ◌, false, ◌||◌, List, [], ◌∷◌, ◌++◌, drop, length, Option, Some}
use Rattle.std.proofs.Common.{None, is_some, refl, sym, ap, subst}
use Rattle.tsa_base.specs.declared.token.Span.{Span}
use Rattle.tsa_tree.specs.attributes.Syntax.{Attribute}
use Rattle.tsa_tree.specs.declarations.Syntax.{Declaration, EnumConstant, DeclaredType}
use Rattle.tsa_tree.specs.declarations.Shapes.{decl_shape, decl_shapes}
use Rattle.tsa_tree.specs.declared.decl.Decl.{Decl}
use Rattle.tsa_tree.specs.declared.kind.Declaring.TheVariants as declaring
use Rattle.tsa_tree.specs.declared.kind.ExpressionType.{ExpressionType}
use Rattle.tsa_tree.specs.declared.kind.Kind.TheVariants as type
use Rattle.tsa_tree.specs.declared.meaning.Entry.{Entry}
use Rattle.tsa_tree.specs.declared.number.Number.{Number}
use Rattle.tsa_tree.specs.declared.premise.Bearer.TheVariants as on
use Rattle.tsa_tree.specs.declared.premise.TypeCode.TheVariants.{TY2}
use Rattle.tsa_tree.specs.expressions.Syntax.{Identifier, Expression}
use Rattle.tsa_tree.specs.types.Attributes.{attributes_premises}
use Rattle.tsa_tree.specs.types.Constants.{constant_of}
use Rattle.tsa_tree.specs.types.DeclaredTypes.{declared_premises, thing_type, typed_value}
use Rattle.tsa_tree.specs.types.Enums.{int_value, written_value, value_or_zero, value_premises, enumerator_entry, enumerator_value}
use Rattle.tsa_tree.specs.types.Enums.{enumerator_premises, enum_premises, other_enum, behind_enumerators, behind_enum}
use Rattle.tsa_tree.specs.types.Expressions.{type_of}
use Rattle.tsa_tree.specs.types.Globals.{global_entry, global_premises, with_global}
use Rattle.tsa_tree.specs.types.Premises.{first}
use Rattle.tsa_tree.specs.types.Scopes.{Scope, Members, found, context_of, tag_in, with_owned, with_name, with_named, with_struct}
use Rattle.tsa_tree.specs.types.Scopes.{with_alias, a_type_name, is_taken, is_named_taken}
use Rattle.tsa_tree.specs.types.Structs.{with_member, member_premises, members_premises, members_behind, struct_premises, behind_struct}
use Rattle.tsa_tree.specs.types.Types.{single}
use Rattle.tsa_place_model.specs.Parts.{member_behind, members_after, unless, unless_taken, unless_named}
use Rattle.tsa_place_model.specs.Parts as laid
use Rattle.tsa_place_model.specs.Items.{worth_written, worth, enumerators_behind, behind_enumeration, known_global}
use Rattle.tsa_core.proofs.KindTests.{neither}
use Rattle.tsa_core.proofs.NoFailure.{none_of_both, none_of_first, constant_told, keeps_typed, HasType}
use Rattle.tsa_core.proofs.UnitScopes.{declared_told, struct_told, global_told, named_struct}
use Rattle.tsa_core_environment.specs.Members.{with_members}
use Rattle.tsa_core_environment.specs.Laws.{MembersComeOneByOne, MembersMakeTheStruct}

-- NAMES

pub free_taken : (here : Scope) (name : List ℕ) (e : Entry) → is_taken name here ≡ false → unless_taken name e here ≡ with_name name e here
free_taken here name e free = ap (λ b. unless b here (with_name name e here)) free

pub free_named : (here : Scope) (name : Option Identifier) (e : Entry) → is_named_taken name here ≡ false → unless_named name e here ≡ with_named name e here
free_named here name e free = ap (λ b. unless b here (with_named name e here)) free

-- STRUCTS

module _ (here : Scope) where
  member_told : (before : Members) (d : Declaration) → first (member_premises here before d) ≡ None → is_some (found before d.name.text) ≡ false
  member_told before d h =
      (declared_told here declaring.Thing (is_some (found before d.name.text)) d.span d.ctype
      (none_of_both (declared_premises here declaring.Thing (is_some (found before d.name.text)) d.span d.ctype) (attributes_premises (with_owned before here) on.Member d.attrs) h).0).0

  with_same : (before : Members) (d : Declaration) → is_some (found before d.name.text) ≡ false → member_behind here before d ≡ with_member here before d
  with_same before d free = ap (λ b. laid.unless_known b before (with_member here before d)) free

  members_same : (before : Members) (decls : List Declaration) → first (members_premises here before decls) ≡ None → members_after here before decls ≡ members_behind here before decls
  unfolding members_premises members_after members_behind
  members_same before [] h = refl
  members_same before (d ∷ rest) h =
      let both = none_of_both (member_premises here before d) (members_premises here (with_member here before d) rest) h in
      ap (λ ms. members_after here ms rest) (with_same before d (member_told before d both.0)) ∙ members_same (with_member here before d) rest both.1

pub struct_same : (here : Scope) (tag alias : Option Identifier) (attrs : List Attribute) (members : List Declaration) (span : Span)
    → first (struct_premises here tag alias attrs members span) ≡ None → with_members here alias (members_after here [] members) ≡ behind_struct here alias members
struct_same here tag alias attrs members span h =
    let told = struct_told here tag alias attrs members span h in
    ap (with_members here alias) (members_same here [] members told.1)
    ∙ free_named (with_struct (members_behind here [] members) here) alias (a_type_name (single (type.Structure (length here.structs)) false))
    (named_struct alias (members_behind here [] members) here told.0)

-- where no members are looked up first
none_owned : (here : Scope) → here.owned ≡ [] → with_owned [] here ≡ here
none_owned here e = ap (λ ms. with_owned ms here) (sym e)

pub members_come : MembersComeOneByOne
members_come here before d e = ap (λ s. with_owned (member_behind s before d) here) (none_owned here e)

pub members_make : MembersMakeTheStruct
members_make here tag alias attrs members span e h =
    ap (λ s. with_members s alias (members_after here [] members)) (none_owned here e) ∙ struct_same here tag alias attrs members span h

-- ENUMS

worth_same : (here : Scope) (e : EnumConstant) (next : ℤ) → first (value_premises here e.name e.value next) ≡ None → worth here e next ≡ enumerator_value here e next
worth_same here e next h = by e.value refl
  where
    typed_is : (o : Option ExpressionType) (v : Option Number) → HasType o → typed_value o v ≡ v
    typed_is None v t = let is = t.1 in absurd cc
    typed_is (Some x) v t = refl

    by : (value : Option Expression) → e.value ≡ value → worth here e next ≡ enumerator_value here e next
    by None is = rw is refl
    by (Some x) is =
        let told : first (value_premises here e.name (Some x) next) ≡ None = subst (λ y. first (value_premises here e.name y next) ≡ None) is h in
        let t = keeps_typed (context_of here) x (constant_told (context_of here) (λ n. is_some (int_value n)) x told) in
        ap (λ y. value_or_zero (worth_written here y next)) is
        ∙ ap (λ v. value_or_zero (int_value v)) (typed_is (type_of (context_of here) x) (constant_of (context_of here) x) t)
        ∙ sym (ap (λ y. value_or_zero (written_value here y next)) is)

enumerators_same : (here : Scope) (next : ℤ) (values : List EnumConstant) → first (enumerator_premises here next values) ≡ None → enumerators_behind here next values ≡ behind_enumerators here next values
unfolding enumerator_premises behind_enumerators enumerators_behind
enumerators_same here next [] h = refl
enumerators_same here next (e ∷ rest) h =
    let z = enumerator_value here e next in
    let there = with_name e.name.text (enumerator_entry z) here in
    let a = none_of_first TY2 e.name.span (is_taken e.name.text here) (value_premises here e.name e.value next ++ enumerator_premises there (z +ℤ pos 1) rest) h in
    let b = none_of_both (value_premises here e.name e.value next) (enumerator_premises there (z +ℤ pos 1) rest) a.1 in
    ap (λ w. enumerators_behind (unless_taken e.name.text (enumerator_entry w) here) (w +ℤ pos 1) rest) (worth_same here e next b.0)
    ∙ ap (λ s. enumerators_behind s (z +ℤ pos 1) rest) (free_taken here e.name.text (enumerator_entry z) a.0)
    ∙ enumerators_same there (z +ℤ pos 1) rest b.1

pub enum_same : (here : Scope) (tag alias : Option Identifier) (values : List EnumConstant) (span : Span) → first (enum_premises here tag alias values span) ≡ None
    → behind_enumeration here alias values ≡ behind_enum here alias values
unfolding enum_premises
enum_same here tag alias values span h =
    let there = behind_enumerators here (pos 0) values in
    let a = none_of_first TY2 span (other_enum span.from (tag_in here tag) || is_named_taken alias there) (enumerator_premises here (pos 0) values) h in
    ap (unless_named alias (a_type_name (single type.Int false))) (enumerators_same here (pos 0) values a.1)
    ∙ free_named there alias (a_type_name (single type.Int false)) (neither (other_enum span.from (tag_in here tag)) (is_named_taken alias there) a.0).1

-- NAMES OF TYPES, AND GLOBALS

pub alias_same : (here : Scope) (name : Identifier) (ctype : DeclaredType) (span : Span) → first (declared_premises here declaring.Type (is_taken name.text here) span ctype) ≡ None
    → unless_taken name.text (a_type_name (thing_type here ctype)) here ≡ with_alias (Some name) (thing_type here ctype) here
alias_same here name ctype span h =
    free_taken here name.text (a_type_name (thing_type here ctype)) (declared_told here declaring.Type (is_taken name.text here) span ctype h).0

pub global_same : (here : Scope) (d : Declaration) → first (global_premises here d) ≡ None → known_global here d ≡ with_global here d
global_same here d h = free_taken here d.name.text (global_entry here d) (global_told here d h).0

-- MEMBERS ONE BY ONE

module _ (here : Scope) (decls : List Decl) (i : ℕ) (before : Members) where
  pub known_end : drop i decls ≡ [] → members_after here before (decl_shapes (drop i decls)) ≡ before
  unfolding members_after
  known_end e = ap (λ ds. members_after here before (decl_shapes ds)) e

  pub known_next : (d : Decl) → drop i decls ≡ d ∷ drop (suc i) decls → (after : Members) → after ≡ member_behind here before (decl_shape d)
      → members_after here after (decl_shapes (drop (i + 1) decls)) ≡ members_after here before (decl_shapes (drop i decls))
  unfolding members_after
  known_next d at_i after known =
      let plus : suc i ≡ i + 1 = omega arith in
      ap (λ m. members_after here m (decl_shapes (drop (i + 1) decls))) known
      ∙ ap (λ j. members_after here (member_behind here before (decl_shape d)) (decl_shapes (drop j decls))) (sym plus)
      ∙ sym (ap (λ ds. members_after here before (decl_shapes ds)) at_i)
