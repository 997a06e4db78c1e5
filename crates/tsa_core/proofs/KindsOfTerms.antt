-- What an expression means has the kind that its type says.
use Rattle.std.proofs.Common.{◌≡◌, ◌∙◌, ℕ, zero, suc, ◌+◌, arith, nat_le, nat_lt, pos, Bool, true, false, ◌||◌, List, [], ◌∷◌, Option, Some}
use Rattle.std.proofs.Common.{None, is_some, option_map, option_and_then, slice_get, if◌then◌else◌, refl, sym, ap, ap₂, subst}
use Rattle.std.proofs.lemmas.Bool.Decides.{nat_tests}
use Rattle.std.specs.Str.{bytes_eq}
use Rattle.tsa_tree.specs.declared.kind.ExpressionType.{ExpressionType}
use Rattle.tsa_tree.specs.declared.kind.Kind.{Kind}
use Rattle.tsa_tree.specs.declared.kind.Kind.TheVariants as type
use Rattle.tsa_tree.specs.declared.kind.ThingType.{ThingType}
use Rattle.tsa_tree.specs.declared.meaning.Entry.{Entry}
use Rattle.tsa_tree.specs.declared.meaning.Meaning.{Meaning}
use Rattle.tsa_tree.specs.declared.meaning.Meaning.TheVariants as meant
use Rattle.tsa_tree.specs.declared.number.Number.TheVariants as numeral
use Rattle.tsa_tree.specs.expressions.Sound.{Words, SoundExpression, is_sound, is_value}
use Rattle.tsa_tree.specs.expressions.Syntax.{Expression, number, null, named, call, unary, binary, field, index}
use Rattle.tsa_tree.specs.types.Constants.{number_value}
use Rattle.tsa_tree.specs.types.Expressions.{type_of, types_of, unless, both, entry_type, const_base, member_type, member_of, number_type}
use Rattle.tsa_tree.specs.types.Expressions.{owner}
use Rattle.tsa_tree.specs.types.Operands.{integer_kind, is_integer, is_array, lacks, breaks_prefix, breaks_binary, breaks_index}
use Rattle.tsa_tree.specs.types.Operands.{prefix_type, binary_type, element_type}
use Rattle.tsa_tree.specs.types.Runnable.{is_small, is_scalar_kind}
use Rattle.tsa_tree.specs.types.Scopes.{Scope, Members, context_of, known_in}
use Rattle.tsa_tree.specs.types.Types.{single, value, place}
use Rattle.tsa_tree.specs.types.Lookups.{members_at, numbered}
use Rattle.tsa_place_model.specs.Layouts.{Part, structure_at}
use Rattle.tsa_core.proofs.MappedLists.{map_at}
use Rattle.tsa_core.specs.Kinds.{Setting, struct_in, within, member_thing, by_index, place_type, is_value_kind, AgreesBy, Agrees, Belongs}
use Rattle.tsa_core.specs.Kinds.{GivesAnswer, GiveAnswer, TermsHaveTheirKinds}
use Rattle.tsa_core.specs.Meanings.{is_place, loaded, of_number, name_term, of_name, of_call, null_pointer, base_of, to_member, of_field}
use Rattle.tsa_core.specs.Meanings.{meaning}
use Rattle.tsa_core.specs.Terms.{Term, constant, global, member, element, target, Sense}
use Rattle.tsa_core.proofs.KindTests.{both_true, neither, not_false, not_true, no_length, single_length, integer_is}
use Rattle.tsa_core.proofs.KindsOfOperators.{Holds, a_value, a_place, integer_loaded, object_is, array_not_small, struct_told, target_told}
use Rattle.tsa_core.proofs.KindsOfOperators.{followed_place, struct_place, prefix_holds, operands_hold}
use Rattle.tsa_core.proofs.TypedTerms.{some_same, terms_have_types, member_numbered}
use Rattle.tsa_base.proofs.Truths.{never}

-- What has a type has parts with types, and breaks no rule.
pub of_one : (f : ExpressionType → ExpressionType) (b : Bool) (o : Option ExpressionType) (t : ExpressionType) → unless b (option_map f o) ≡ Some t
    → (b ≡ false) × ((x : ExpressionType) × (o ≡ Some x))
of_one f true o t e = cc
of_one f false None t e = cc
of_one f false (Some x) t e = (refl, (x, refl))

pub of_two : (f : ExpressionType → ExpressionType → ExpressionType) (b : Bool) (o p : Option ExpressionType) (t : ExpressionType) → unless b (both f o p) ≡ Some t
    → (b ≡ false) × (((x : ExpressionType) × (o ≡ Some x)) × ((y : ExpressionType) × (p ≡ Some y)))
of_two f true o p t e = cc
of_two f false None p t e = cc
of_two f false (Some x) None t e = cc
of_two f false (Some x) (Some y) t e = (refl, ((x, refl), (y, refl)))

pub of_owner : (f : ExpressionType → Option ExpressionType) (b : Bool) (o : Option ExpressionType) (t : ExpressionType) → unless b (option_and_then f o) ≡ Some t
    → (x : ExpressionType) × ((o ≡ Some x) × (f x ≡ Some t))
of_owner f true o t e = cc
of_owner f false None t e = cc
of_owner f false (Some x) t e = (x, (refl, e))

-- A member by its name has the type of the part by its number.
member_at : (name : List ℕ) (ms : Members) (n j : ℕ) (t : ThingType) → numbered ms name n ≡ Some (j, t) → (i : ℕ) × ((j ≡ n + i) × (option_map (λ m. m.1) (slice_get ms i) ≡ Some t))
member_at name [] n j t e = cc
member_at name (m ∷ ms) n j t e = by (bytes_eq name m.0) e (member_at name ms (suc n) j t)
  where
    by : (b : Bool) → (if b then Some (n, m.1) else numbered ms name (suc n)) ≡ Some (j, t)
        → (numbered ms name (suc n) ≡ Some (j, t) → (i : ℕ) × ((j ≡ suc n + i) × (option_map (λ m. m.1) (slice_get ms i) ≡ Some t)))
        → (i : ℕ) × ((j ≡ n + i) × (option_map (λ m. m.1) (slice_get (m ∷ ms) i) ≡ Some t))
    by true e later =
        let same : ◌≡◌ {A = ℕ × ThingType} (n, m.1) (j, t) = some_same e in
        let number : n ≡ j = ap (λ x. x.0) same in
        (zero, (omega (arith, number), ap (λ x. Some x.1) same))
    by false e later =
        let found : (i : ℕ) × ((j ≡ suc n + i) × (option_map (λ m. m.1) (slice_get ms i) ≡ Some t)) = later e in
        let number : j ≡ suc n + found.0 = found.1.0 in
        (suc found.0, (omega (arith, number), found.1.1))

pub typed : (here : Scope) (e : Expression) (x : ExpressionType) → type_of (context_of here) e ≡ Some x → type_of (context_of here) e ≡ Some (meaning here e).type
typed here e x h = h ∙ ap (λ t. Some t) (sym (terms_have_types here e x h))

not_above : (n m : ℕ) → nat_lt n m ≡ true → nat_le m n ≡ false
not_above n m e = by (nat_le m n) refl
  where
    by : (b : Bool) → nat_le m n ≡ b → b ≡ false
    by true f = absurd (grind (arith, nat_tests, e, f))
    by false f = refl

module _ (here : Scope) (k : Setting) (b : Belongs here k) where
  pub part_at : (struct : ℕ) (name : List ℕ) (j : ℕ) (t : ThingType) → numbered (members_at here struct) name 0 ≡ Some (j, t)
      → option_map (λ m. m.thing) (slice_get (structure_at k.layout.structs struct).members j) ≡ Some t
  part_at struct name j t e = by (slice_get here.structs struct) refl e
    where
      parts : List Part
      parts = (structure_at k.layout.structs struct).members

      none_some : ◌≡◌ {A = Option (ℕ × ThingType)} None (Some (j, t)) → ⊥
      none_some e = cc

      by_members : (ms : Members) → slice_get here.structs struct ≡ Some ms → numbered ms name 0 ≡ Some (j, t) → option_map (λ m. m.thing) (slice_get parts j) ≡ Some t
      by_members ms e f =
          let found = member_at name ms 0 j t f in
          let at = found.1.0 in
          let number : j ≡ found.0 = omega (arith, at) in
          sym (map_at (λ m. m.thing) parts j) ∙ ap (λ xs. slice_get xs j) (b.members_are struct ms e) ∙ map_at (λ m. m.1) ms j
          ∙ ap (λ i. option_map (λ m. m.1) (slice_get ms i)) number ∙ found.1.1

      by : (o : Option Members) → slice_get here.structs struct ≡ o → numbered (members_at here struct) name 0 ≡ Some (j, t) → option_map (λ m. m.thing) (slice_get parts j) ≡ Some t
      by None e f = let is : numbered (members_at here struct) name 0 ≡ None = rw e refl in absurd (none_some (sym is ∙ f))
      by (Some ms) e f = let is : numbered (members_at here struct) name 0 ≡ numbered ms name 0 = rw e refl in by_members ms e (sym is ∙ f)

  fused : (base t : ThingType) (o : Option Part) → option_map (λ m. m.thing) o ≡ Some t → option_map (λ m. within base m.thing) o ≡ Some (within base t)
  fused base t None e = cc
  fused base t (Some m) e = ap (λ x. Some (within base x)) (some_same e)

  member_place : (x : Term) (base : ThingType) (n j : ℕ) (t : ThingType) → place_type k x ≡ Some base → struct_in base ≡ Some n
      → option_map (λ m. m.thing) (slice_get (structure_at k.layout.structs n).members j) ≡ Some t → place_type k (member x j) ≡ Some (within base t)
  member_place x base n j t e f g =
      ap (option_and_then (member_thing k.layout j)) e
      ∙ ap (λ o. option_map (λ m. within base m.thing) (option_and_then (λ struct. slice_get (structure_at k.layout.structs struct).members j) o)) f
      ∙ fused base t (slice_get (structure_at k.layout.structs n).members j) g

  struct_is : (t : ThingType) (n : ℕ) → t.length ≡ None → t.kind ≡ type.Structure n → struct_in t ≡ Some n
  struct_is t n e f = rw (e, f) refl

  const_is : (t : ExpressionType) (n : ℕ) (c : Bool) → t.thing.kind ≡ type.Pointer n c → const_base true t ≡ c
  const_is t n c e = rw e refl

  member_holds : (arrow : Bool) (s : Sense) (n j : ℕ) (t : ThingType) → Holds k s.term s.type → owner arrow s.type ≡ Some n
      → option_map (λ m. m.thing) (slice_get (structure_at k.layout.structs n).members j) ≡ Some t → Holds k (member (base_of arrow s) j) (member_type arrow s.type t)
  member_holds true s n j t h e g =
      let p = target_told k s.type n e in
      a_place k (member (target (loaded s)) j) (member_type true s.type t) refl refl
      (member_place (target (loaded s)) (single (type.Structure n) p.to_const) n j t (followed_place k s n h p) refl g
      ∙ ap (λ c. Some (record { kind = t.kind; length = t.length; is_const = t.is_const || c })) (sym (const_is s.type n p.to_const p.is)))
  member_holds false s n j t h e g =
      let told = struct_told k s.type n e in
      a_place k (member s.term j) (member_type false s.type t) refl refl
      (member_place s.term s.type.thing n j t (struct_place k s n h e) (struct_is s.type.thing n (single_length s.type told.0) told.1) g)

  module _ (arrow : Bool) (name : List ℕ) (s : Sense) (h : Holds k s.term s.type) where
    of_number_holds : (n : ℕ) (x : ThingType) (q : Option (ℕ × ThingType)) → owner arrow s.type ≡ Some n → numbered (members_at here n) name 0 ≡ q → option_map (λ m. m.1) q ≡ Some x
        → Holds k (to_member arrow s q).term (to_member arrow s q).type
    of_number_holds n x None e f g = cc
    of_number_holds n x (Some (j, t)) e f g = member_holds arrow s n j t h e (part_at n name j t f)

    of_struct_holds : (x : ThingType) (o : Option ℕ) → owner arrow s.type ≡ o → option_and_then (λ n. (context_of here).member n name) o ≡ Some x
        → Holds k (to_member arrow s (option_and_then (λ n. numbered (members_at here n) name 0) o)).term (to_member arrow s (option_and_then (λ n. numbered (members_at here n) name 0) o)).type
    of_struct_holds x None e f = cc
    of_struct_holds x (Some n) e f = of_number_holds n x (numbered (members_at here n) name 0) e refl (sym (member_numbered here n name) ∙ f)

    field_holds : (t : ExpressionType) (o : Option ThingType) → member_of (context_of here) arrow name s.type ≡ o → option_map (member_type arrow s.type) o ≡ Some t
        → Holds k (of_field here arrow name s).term (of_field here arrow name s).type
    field_holds t None e f = cc
    field_holds t (Some x) e f = of_struct_holds x (owner arrow s.type) refl e

  -- an element of an array
  element_is : (kind : Kind) (t : ThingType) (i : Bool) (l : Option ℕ) → integer_kind kind ≡ i → t.length ≡ l → i ≡ true → is_some l ≡ true
      → by_index (Some kind) (Some t) ≡ Some (single t.kind t.is_const)
  element_is kind t true None e f g is = never (sym is)
  element_is kind t true (Some n) e f g is = rw (e, f) refl
  element_is kind t false l e f g is = never (sym g)

  index_holds : (s at : Sense) → Holds k s.term s.type → Holds k at.term at.type → breaks_index (Some s.type) (Some at.type) ≡ false
      → Holds k (element s.term (loaded at)) (element_type s.type)
  index_holds s at h g e =
      let both = neither (lacks is_array (Some s.type)) (lacks is_integer (Some at.type)) e in
      let array = not_false (is_array s.type) both.0 in
      let number = not_false (is_integer at.type) both.1 in
      a_place k (element s.term (loaded at)) (element_type s.type) refl refl
      (ap₂ by_index (integer_loaded k at g number) (object_is k s.term s.type h (λ small. array_not_small k s.type array small))
      ∙ element_is at.type.thing.kind s.type.thing (integer_kind at.type.thing.kind) s.type.thing.length refl refl (integer_is at.type number).1 array)

  -- names, calls and numbers
  no_value : (kind : Kind) → is_small (single kind false) ≡ true → is_value_kind kind ≡ false → Holds k null_pointer (value kind)
  no_value kind small none = record { place = λ e. never (sym e); small = λ e. small; value = λ e f. never (sym f ∙ none); zero = λ e. never (sym e); there = λ e. refl }

  entry_holds : (name : List ℕ) (m : Meaning) (t : ThingType) → known_in here name ≡ Some (record { meaning = m; thing = t })
      → Holds k (name_term m) (entry_type (record { meaning = m; thing = t }))
  entry_holds name (meant.Global n) t e = a_place k (global n) (place t) refl refl (b.global_is name (record { meaning = meant.Global n; thing = t }) n e refl)
  entry_holds name (meant.Local n) t e =
      let is = b.local_is name (record { meaning = meant.Local n; thing = t }) n e refl in
      record { place = λ e. never (sym e); small = λ e. is.1; value = λ e f. is.0; zero = λ e. never (sym e); there = λ e. ap is_some is.0 }
  entry_holds name (meant.Function n) t e = no_value type.Function refl refl
  entry_holds name meant.Owned t e = absurd (b.none_owned name (record { meaning = meant.Owned; thing = t }) e refl)
  entry_holds name (meant.Constant z) t e = a_value k (name_term (meant.Constant z)) type.Int refl refl refl
  entry_holds name meant.TypeName t e = no_value type.Void refl refl

  null_holds : Holds k null_pointer (value type.Null)
  null_holds = a_value k null_pointer type.Null refl refl refl

  name_holds : (name : List ℕ) (o : Option Entry) → known_in here name ≡ o → Holds k (of_name o).term (of_name o).type
  name_holds name None e = null_holds
  name_holds name (Some x) e = entry_holds name x.meaning x.thing e

  call_holds : (o : Option Entry) → GivesAnswer k o → Holds k (of_call o).term (of_call o).type
  call_holds None g = null_holds
  call_holds (Some x) g = record { place = λ e. never (sym e); small = λ e. g.1; value = λ e f. g.0; zero = λ e. never (sym e); there = λ e. ap is_some g.0 }

  number_holds : (n : ℕ) (u : Bool) → is_value n u ≡ true → Holds k (constant (of_number (number_value n u))) (number_type n u)
  number_holds n true e = record { place = λ e. never (sym e); small = λ e. refl; value = λ e f. refl; zero = λ e. refl; there = λ e. refl }
  number_holds n false e = by _ (not_above n _ e)
    where
      by : (above : Bool) → above ≡ false → Holds k (constant (of_number (if above then numeral.Unsigned n else numeral.Int (pos n)))) (number_type n false)
      by true e = never e
      by false e = record { place = λ e. never (sym e); small = λ e. refl; value = λ e f. refl; zero = λ e. refl; there = λ e. refl }

  module _ (words : Words) where
    pub holds : (e : Expression) → SoundExpression words e → GiveAnswer here k e → (t : ExpressionType) → type_of (context_of here) e ≡ Some t
        → Holds k (meaning here e).term (meaning here e).type
    unfolding type_of types_of meaning
    holds (number n u span) sound gives t is = number_holds n u sound
    holds (null span) sound gives t is = null_holds
    holds (named name span) sound gives t is = name_holds name.text (known_in here name.text) refl
    holds (call callee args span) sound gives t is = call_holds (known_in here callee.text) gives
    holds (unary o inner span) sound gives t is =
        let parts = of_one (prefix_type o) (breaks_prefix o (type_of (context_of here) inner)) (type_of (context_of here) inner) t is in
        prefix_holds k o (meaning here inner) (holds inner sound gives parts.1.0 parts.1.1)
        (subst (λ x. breaks_prefix o x ≡ false) (typed here inner parts.1.0 parts.1.1) parts.0)
    holds (binary o left right span) sound gives t is =
        let l = type_of (context_of here) left in
        let r = type_of (context_of here) right in
        let parts = of_two (binary_type o) (breaks_binary o l r) l r t is in
        let sounds = both_true (is_sound words left) (is_sound words right) sound in
        operands_hold k (meaning here left) (meaning here right) (holds left sounds.0 gives.0 parts.1.0.0 parts.1.0.1) (holds right sounds.1 gives.1 parts.1.1.0 parts.1.1.1) o
        (subst (λ y. breaks_binary o (Some (meaning here left).type) y ≡ false) (typed here right parts.1.1.0 parts.1.1.1)
        (subst (λ x. breaks_binary o x r ≡ false) (typed here left parts.1.0.0 parts.1.0.1) parts.0))
    holds (field base name arrow span) sound gives t is =
        let f : ExpressionType → Option ExpressionType = λ x. option_map (member_type arrow x) (member_of (context_of here) arrow name.text x) in
        let parts = of_owner f (lacks (λ x. is_some (owner arrow x)) (type_of (context_of here) base)) (type_of (context_of here) base) t is in
        field_holds arrow name.text (meaning here base) (holds base (both_true (is_sound words base) _ sound).0 gives parts.0 parts.1.0) t
        (member_of (context_of here) arrow name.text (meaning here base).type) refl
        (subst (λ x. f x ≡ Some t) (sym (terms_have_types here base parts.0 parts.1.0)) parts.1.1)
    holds (index base at span) sound gives t is =
        let l = type_of (context_of here) base in
        let r = type_of (context_of here) at in
        let parts = of_two (λ a i. element_type a) (breaks_index l r) l r t is in
        let sounds = both_true (is_sound words base) (is_sound words at) sound in
        index_holds (meaning here base) (meaning here at) (holds base sounds.0 gives.0 parts.1.0.0 parts.1.0.1) (holds at sounds.1 gives.1 parts.1.1.0 parts.1.1.1)
        (subst (λ y. breaks_index (Some (meaning here base).type) y ≡ false) (typed here at parts.1.1.0 parts.1.1.1)
        (subst (λ x. breaks_index x r ≡ false) (typed here base parts.1.0.0 parts.1.0.1) parts.0))

-- a term of which the type is kept agrees with it
pub agrees : (k : Setting) (x : Term) (t : ExpressionType) → Holds k x t → Agrees k x t
agrees k x t h = by (is_place x) refl
  where
    by : (p : Bool) → is_place x ≡ p → AgreesBy p k x t.thing
    by true e = h.place e
    by false e = (no_length t.thing.length (not_true (is_some t.thing.length) (both_true (is_scalar_kind t.thing.kind) _ (h.small e)).1), h.value e)

pub terms_have_kinds : TermsHaveTheirKinds
terms_have_kinds here k words e t b sound gives is =
    subst (Agrees k (meaning here e).term) (terms_have_types here e t is) (agrees k (meaning here e).term (meaning here e).type (holds here k b words e sound gives t is))
