-- The terms of typed expressions fit: constants are in range, what never changes is declared const, and the address of no guarded place is
-- taken.
use Rattle.std.proofs.Common.{◌≡◌, ◌∙◌, ℕ, pos, ◌^◌, ◌<◌, arith, nat_le, int_le, int_lt, neg_ℤ, Bool, true, false, ◌&&◌, List, [], ◌∷◌}
use Rattle.std.proofs.Common.{Option, Some, None, is_some, is_none, option_map, option_and_then, slice_get, if◌then◌else◌, refl, sym, ap}
use Rattle.std.proofs.Common.{subst}
use Rattle.std.proofs.lemmas.Bool.Decides.{nat_tests}
use Rattle.std.specs.List.{list_any}
use Rattle.tsa_tree.specs.declared.expr.BinaryOp.{BinaryOp}
use Rattle.tsa_tree.specs.declared.expr.BinaryOp.TheVariants as op
use Rattle.tsa_tree.specs.declared.expr.UnaryOp.TheVariants as prefix
use Rattle.tsa_tree.specs.declared.kind.ExpressionType.{ExpressionType}
use Rattle.tsa_tree.specs.declared.kind.Kind.{Kind}
use Rattle.tsa_tree.specs.declared.kind.Kind.TheVariants as type
use Rattle.tsa_tree.specs.declared.kind.ThingType.{ThingType}
use Rattle.tsa_tree.specs.declared.meaning.Entry.{Entry}
use Rattle.tsa_tree.specs.declared.meaning.Meaning.{Meaning}
use Rattle.tsa_tree.specs.declared.meaning.Meaning.TheVariants as known
use Rattle.tsa_tree.specs.declared.number.Number.TheVariants as numeral
use Rattle.tsa_tree.specs.expressions.Sound.{Words, SoundExpression, is_sound, are_sound, is_value}
use Rattle.tsa_tree.specs.expressions.Syntax.{Expression, Arguments, number, null, named, call, unary, binary, field, index, none, more}
use Rattle.tsa_tree.specs.types.Arithmetic.{is_int}
use Rattle.tsa_tree.specs.types.Constants.{enumerator, number_value}
use Rattle.tsa_tree.specs.types.Expressions.{type_of, types_of, all_typed, member_of, member_type, owner}
use Rattle.tsa_tree.specs.types.Operands.{integer_kind, pointer_kind, unsigned_kind, is_array, is_integer, lacks, breaks_prefix}
use Rattle.tsa_tree.specs.types.Operands.{breaks_binary, breaks_index, prefix_type, binary_type, element_type}
use Rattle.tsa_tree.specs.types.Runnable.{has_call, have_call}
use Rattle.tsa_tree.specs.types.Scopes.{Scope, context_of, known_in}
use Rattle.tsa_tree.specs.types.Lookups.{members_at, numbered}
use Rattle.tsa_core.specs.Kinds.{Setting, Belongs, place_type, struct_in}
use Rattle.tsa_place_model.specs.Layouts.{Part, structure_at}
use Rattle.tsa_core.specs.Meanings.{is_place, is_cell, is_loaded, loaded, never_changes, of_number, name_term, of_name, of_call, beside}
use Rattle.tsa_core.specs.Meanings.{operands, base_of, to_member, of_field, as_kind, null_pointer, meaning, arguments}
use Rattle.tsa_core.specs.Meanings as meant
use Rattle.tsa_core.specs.Terms.{Term, constant, variable, answer, global, member, element, target, load, address, converted, prefixed}
use Rattle.tsa_core.specs.Terms.{joined, Sense}
use Rattle.tsa_core.specs.Uses.{access_guards}
use Rattle.tsa_core.proofs.KindTests.{both_true, neither, not_false, and_true, single_length, so}
use Rattle.tsa_core.proofs.KindsOfOperators.{Holds, struct_told, target_told, followed_place, struct_place, object_is, array_not_small}
use Rattle.tsa_core.proofs.KindsOfTerms.{of_one, of_two, of_owner, typed, holds, part_at}
use Rattle.tsa_core.proofs.TypedTerms.{some_same}
use Rattle.tsa_core.proofs.ValuesServe.{free_gives}
use Rattle.tsa_profile.proofs.NumbersFit.{IsSmall}
use Rattle.tsa_sound.specs.PartlyWorked.{guard_ways}
use Rattle.tsa_sound.specs.TermFacts.{AllFit, IsConstPart, IsDeclaredConst, IsInRange, TermFits, member_part}
use Rattle.tsa_sound_accepted.proofs.terms.CellsAsked.{AddressesFree, ArgumentsFree}
use Rattle.tsa_sound_accepted.proofs.terms.GuardsAgree as agreement
use Rattle.tsa_base.proofs.Truths.{never}

-- a number that the grammar can spell is in range
int_in_range : (n : ℕ) → n < 2 ^ 31 → is_int (pos n) ≡ true
int_in_range n h = and_true (int_le (neg_ℤ (pos (2 ^ 31))) (pos n)) (int_lt (pos n) (pos (2 ^ 31))) refl (grind (arith, nat_tests, h))

literal_in_range : (n : ℕ) (u : Bool) → is_value n u ≡ true → IsInRange (of_number (number_value n u))
literal_in_range n true h = h
literal_in_range n false h = by (nat_le (2 ^ 31) n) refl
  where
    by : (b : Bool) → nat_le (2 ^ 31) n ≡ b → IsInRange (of_number (if b then numeral.Unsigned n else numeral.Int (pos n)))
    by true e = absurd (grind (arith, nat_tests, e, h))
    by false e = int_in_range n (grind (arith, nat_tests, h))

-- what has the type of a place is one
placed_is : (k : Setting) (x : Term) (t : ThingType) → place_type k x ≡ Some t → is_place x ≡ true
placed_is k (global n) t e = refl
placed_is k (member base n) t e = refl
placed_is k (element base i) t e = refl
placed_is k (target p) t e = refl
placed_is k (constant v) t e = cc
placed_is k (variable n) t e = cc
placed_is k answer t e = cc
placed_is k (load stable p) t e = cc
placed_is k (address p) t e = cc
placed_is k (converted to x) t e = cc
placed_is k (prefixed o x) t e = cc
placed_is k (joined o x y) t e = cc

module _ (here : Scope) (k : Setting) (bel : Belongs here k) (stable : ℕ → Bool) (words : Words) (small : (name : List ℕ) → IsSmall (enumerator (known_in here name))) where
  abbrev Kept : Expression → Type 0
  Kept e = Holds k (meaning here e).term (meaning here e).type

  -- What never changes is declared const.
  abbrev pub ConstWhere : Sense → Type 0
  ConstWhere s = s.is_stable ≡ true → is_place s.term ≡ true → IsDeclaredConst k s.term

  const_part : (o : Option Part) (t : ThingType) → option_map (λ part. part.thing) o ≡ Some t → t.is_const ≡ true → IsConstPart o
  const_part None t e c = absurd cc
  const_part (Some part) t e c = ap (λ x. x.is_const) (some_same e) ∙ c

  name_const : (name : List ℕ) (o : Option Entry) → known_in here name ≡ o → ConstWhere (of_name o)
  name_const name None e s p = never (sym s)
  name_const name (Some x) e s p = by x.meaning x.thing e s p
    where
      by : (m : Meaning) (t : ThingType) → known_in here name ≡ Some (record { meaning = m; thing = t }) → never_changes t ≡ true → is_place (name_term m) ≡ true → IsDeclaredConst k (name_term m)
      by (known.Global n) t e s p =
          const_part (slice_get k.layout.globals n) t (bel.global_is name (record { meaning = known.Global n; thing = t }) n e refl) (both_true (pointer_kind t.kind) t.is_const s).1
      by (known.Local n) t e s p = never (sym p)
      by (known.Function n) t e s p = never (sym p)
      by known.Owned t e s p = never (sym p)
      by (known.Constant z) t e s p = never (sym p)
      by known.TypeName t e s p = never (sym p)

  struct_is : (t : ThingType) (n : ℕ) → t.length ≡ None → t.kind ≡ type.Structure n → struct_in t ≡ Some n
  struct_is t n e f = rw (e, f) refl

  base_struct : (arrow : Bool) (s : Sense) (n : ℕ) → Holds k s.term s.type → owner arrow s.type ≡ Some n → option_and_then struct_in (place_type k (base_of arrow s)) ≡ Some n
  base_struct true s n h own = ap (option_and_then struct_in) (followed_place k s n h (target_told k s.type n own))
  base_struct false s n h own =
      let told = struct_told k s.type n own in
      ap (option_and_then struct_in) (struct_place k s n h own) ∙ struct_is s.type.thing n (single_length s.type told.0) told.1

  member_const : (arrow : Bool) (name : List ℕ) (s : Sense) (n : ℕ) → Holds k s.term s.type → owner arrow s.type ≡ Some n → (q : Option (ℕ × ThingType))
      → numbered (members_at here n) name 0 ≡ q → ConstWhere (to_member arrow s q)
  member_const arrow name s n h own None f c p = never (sym c)
  member_const arrow name s n h own (Some m) f c p =
      subst (λ o. IsConstPart (member_part k.layout m.0 o)) (sym (base_struct arrow s n h own))
      (const_part (slice_get (structure_at k.layout.structs n).members m.0) m.1 (part_at here k bel n name m.0 m.1 f) (both_true (pointer_kind m.1.kind) m.1.is_const c).1)

  field_const : (arrow : Bool) (name : List ℕ) (s : Sense) → Holds k s.term s.type → ConstWhere (of_field here arrow name s)
  field_const arrow name s h = by (owner arrow s.type) refl
    where
      by : (o : Option ℕ) → owner arrow s.type ≡ o → ConstWhere (to_member arrow s (option_and_then (λ n. numbered (members_at here n) name 0) o))
      by None e c p = never (sym c)
      by (Some n) e c p = member_const arrow name s n h e (numbered (members_at here n) name 0) refl c p

  call_const : (o : Option Entry) → ConstWhere (of_call o)
  call_const None c p = never (sym c)
  call_const (Some x) c p = never (sym c)

  pub const_where : (e : Expression) → SoundExpression words e → has_call e ≡ false → (t : ExpressionType) → type_of (context_of here) e ≡ Some t → ConstWhere (meaning here e)
  unfolding type_of types_of meaning
  const_where (number n u span) sound free t is c p = never (sym c)
  const_where (null span) sound free t is c p = never (sym c)
  const_where (named name span) sound free t is c p = name_const name.text (known_in here name.text) refl c p
  const_where (call callee args span) sound free t is c p = call_const (known_in here callee.text) c p
  const_where (unary o inner span) sound free t is c p = never (sym c)
  const_where (binary o left right span) sound free t is c p = never (sym c)
  const_where (field base name arrow span) sound free t is c p =
      let f : ExpressionType → Option ExpressionType = λ x. option_map (member_type arrow x) (member_of (context_of here) arrow name.text x) in
      let parts = of_owner f (lacks (λ x. is_some (owner arrow x)) (type_of (context_of here) base)) (type_of (context_of here) base) t is in
      let s = (both_true (is_sound words base) _ sound).0 in
      field_const arrow name.text (meaning here base) (holds here k bel words base s (free_gives here k base free) parts.0 parts.1.0) c p
  const_where (index base at span) sound free t is c p =
      let l = type_of (context_of here) base in
      let r = type_of (context_of here) at in
      let parts = of_two (λ a i. element_type a) (breaks_index l r) l r t is in
      let s = (both_true (is_sound words base) (is_sound words at) sound).0 in
      let f = (neither (has_call base) (has_call at) free).0 in
      let h : Kept base = holds here k bel words base s (free_gives here k base f) parts.1.0.0 parts.1.0.1 in
      let e = subst (λ y. breaks_index (Some (meaning here base).type) y ≡ false) (typed here at parts.1.1.0 parts.1.1.1)
      (subst (λ x. breaks_index x r ≡ false) (typed here base parts.1.0.0 parts.1.0.1) parts.0) in
      let array = not_false (is_array (meaning here base).type) (neither (lacks is_array (Some (meaning here base).type)) (lacks is_integer (Some (meaning here at).type)) e).0 in
      const_where base s f parts.1.0.0 parts.1.0.1 c
      (placed_is k (meaning here base).term (meaning here base).type.thing
      (object_is k (meaning here base).term (meaning here base).type h (λ less. array_not_small k (meaning here base).type array less)))

  -- The value of what fits fits.
  abbrev Fits : Term → Type 0
  Fits x = TermFits k stable x

  pub value_fits : (s : Sense) → Holds k s.term s.type → ConstWhere s → Fits s.term → Fits (loaded s)
  value_fits s h const fits = by (is_loaded s) refl
    where
      by : (b : Bool) → is_loaded s ≡ b → Fits (if b then load s.is_stable s.term else s.term)
      by true e =
          let both = both_true (is_place s.term) (is_cell s.type.thing) e in (
            record {
              thing = s.type.thing;
              type_is = h.place both.0;
              kind = s.type.thing.kind;
              kind_is = so (is_cell s.type.thing) s.type.thing.kind both.1;
              stable = λ c. const c both.0;
            },
            fits,
          )
      by false e = fits

  name_fits : (name : List ℕ) (o : Option Entry) → known_in here name ≡ o → Fits (of_name o).term
  name_fits name None e = tt
  name_fits name (Some x) e = by x.meaning x.thing e
    where
      by : (m : Meaning) (t : ThingType) → known_in here name ≡ Some (record { meaning = m; thing = t }) → Fits (name_term m)
      by (known.Global n) t e = tt
      by (known.Local n) t e = tt
      by (known.Function n) t e = tt
      by known.Owned t e = tt
      by (known.Constant z) t e = subst (λ o. IsSmall (enumerator o)) e (small name)
      by known.TypeName t e = tt

  beside_fits : (other : Kind) (s : Sense) → Fits (loaded s) → Fits (beside other s)
  beside_fits other s h = by (pointer_kind other && integer_kind s.type.thing.kind)
    where
      by : (b : Bool) → Fits (if b then null_pointer else loaded s)
      by true = tt
      by false = h

  pub operands_fit : (o : BinaryOp) (a b : Sense) → Fits (loaded a) → Fits (loaded b) → Fits (operands o a b)
  operands_fit op.Or a b h g = (h, g)
  operands_fit op.And a b h g = (h, g)
  operands_fit op.BitOr a b h g = (h, g)
  operands_fit op.BitXor a b h g = (h, g)
  operands_fit op.BitAnd a b h g = (h, g)
  operands_fit op.Equal a b h g = (beside_fits b.type.thing.kind a h, beside_fits a.type.thing.kind b g)
  operands_fit op.Unequal a b h g = (beside_fits b.type.thing.kind a h, beside_fits a.type.thing.kind b g)
  operands_fit op.Less a b h g = (h, g)
  operands_fit op.More a b h g = (h, g)
  operands_fit op.LessEqual a b h g = (h, g)
  operands_fit op.MoreEqual a b h g = (h, g)
  operands_fit op.Plus a b h g = (h, g)
  operands_fit op.Minus a b h g = (h, g)
  operands_fit op.Times a b h g = (h, g)
  operands_fit op.Divide a b h g = (h, g)
  operands_fit op.Remainder a b h g = (h, g)

  member_fits : (arrow : Bool) (s : Sense) (q : Option (ℕ × ThingType)) → Fits s.term → Fits (loaded s) → Fits (to_member arrow s q).term
  member_fits arrow s None h g = tt
  member_fits true s (Some m) h g = g
  member_fits false s (Some m) h g = h

  no_guards : (inner : Expression) (t : ExpressionType) → SoundExpression words inner → has_call inner ≡ false → type_of (context_of here) inner ≡ Some t
      → access_guards k.layout stable here inner ≡ [] → guard_ways k stable (meaning here inner).term ≡ []
  no_guards inner t sound free is no_ways =
      agreement.agree here k bel stable words inner sound (free_gives here k inner free) t is (ap (list_any is_none) no_ways) ∙ no_ways

  -- An expression without a call.
  pub record IsFit (e : Expression) : Type 0 where
    pub term : Fits (meaning here e).term
    pub value : Fits (loaded (meaning here e))

  with_value : (e : Expression) (t : ExpressionType) → SoundExpression words e → has_call e ≡ false → type_of (context_of here) e ≡ Some t → Fits (meaning here e).term → IsFit e
  with_value e t sound free is fits = record {
    term = fits;
    value = value_fits (meaning here e) (holds here k bel words e sound (free_gives here k e free) t is) (const_where e sound free t is) fits;
  }

  term_fits : (e : Expression) → SoundExpression words e → has_call e ≡ false → AddressesFree k.layout stable here e → (t : ExpressionType) → type_of (context_of here) e ≡ Some t
      → Fits (meaning here e).term
  unfolding type_of types_of meaning
  term_fits (number n u span) sound free addresses t is = literal_in_range n u sound
  term_fits (null span) sound free addresses t is = tt
  term_fits (named name span) sound free addresses t is = name_fits name.text (known_in here name.text) refl
  term_fits (call callee args span) sound free addresses t is = never free
  term_fits (unary prefix.Address inner span) sound free addresses t is =
      let parts = of_one (prefix_type prefix.Address) (breaks_prefix prefix.Address (type_of (context_of here) inner)) (type_of (context_of here) inner) t is in
      (no_guards inner parts.1.0 sound free parts.1.1 addresses.0, term_fits inner sound free addresses.1 parts.1.0 parts.1.1)
  term_fits (unary prefix.Minus inner span) sound free addresses t is =
      let parts = of_one (prefix_type prefix.Minus) (breaks_prefix prefix.Minus (type_of (context_of here) inner)) (type_of (context_of here) inner) t is in
      (with_value inner parts.1.0 sound free parts.1.1 (term_fits inner sound free addresses parts.1.0 parts.1.1)).value
  term_fits (unary prefix.Not inner span) sound free addresses t is =
      let parts = of_one (prefix_type prefix.Not) (breaks_prefix prefix.Not (type_of (context_of here) inner)) (type_of (context_of here) inner) t is in
      (with_value inner parts.1.0 sound free parts.1.1 (term_fits inner sound free addresses parts.1.0 parts.1.1)).value
  term_fits (unary prefix.Flip inner span) sound free addresses t is =
      let parts = of_one (prefix_type prefix.Flip) (breaks_prefix prefix.Flip (type_of (context_of here) inner)) (type_of (context_of here) inner) t is in
      (with_value inner parts.1.0 sound free parts.1.1 (term_fits inner sound free addresses parts.1.0 parts.1.1)).value
  term_fits (unary prefix.Follow inner span) sound free addresses t is =
      let parts = of_one (prefix_type prefix.Follow) (breaks_prefix prefix.Follow (type_of (context_of here) inner)) (type_of (context_of here) inner) t is in
      (with_value inner parts.1.0 sound free parts.1.1 (term_fits inner sound free addresses parts.1.0 parts.1.1)).value
  term_fits (binary o left right span) sound free addresses t is =
      let l = type_of (context_of here) left in
      let r = type_of (context_of here) right in
      let parts = of_two (binary_type o) (breaks_binary o l r) l r t is in
      let s = both_true (is_sound words left) (is_sound words right) sound in
      let f = neither (has_call left) (has_call right) free in
      operands_fit o (meaning here left) (meaning here right)
      (with_value left parts.1.0.0 s.0 f.0 parts.1.0.1 (term_fits left s.0 f.0 addresses.0 parts.1.0.0 parts.1.0.1)).value
      (with_value right parts.1.1.0 s.1 f.1 parts.1.1.1 (term_fits right s.1 f.1 addresses.1 parts.1.1.0 parts.1.1.1)).value
  term_fits (field base name arrow span) sound free addresses t is =
      let f : ExpressionType → Option ExpressionType = λ x. option_map (member_type arrow x) (member_of (context_of here) arrow name.text x) in
      let parts = of_owner f (lacks (λ x. is_some (owner arrow x)) (type_of (context_of here) base)) (type_of (context_of here) base) t is in
      let s = (both_true (is_sound words base) _ sound).0 in
      let inner = with_value base parts.0 s free parts.1.0 (term_fits base s free addresses parts.0 parts.1.0) in
      member_fits arrow (meaning here base) (option_and_then (λ struct. numbered (members_at here struct) name.text 0) (owner arrow (meaning here base).type)) inner.term inner.value
  term_fits (index base at span) sound free addresses t is =
      let l = type_of (context_of here) base in
      let r = type_of (context_of here) at in
      let parts = of_two (λ a i. element_type a) (breaks_index l r) l r t is in
      let s = both_true (is_sound words base) (is_sound words at) sound in
      let f = neither (has_call base) (has_call at) free in (
        term_fits base s.0 f.0 addresses.0 parts.1.0.0 parts.1.0.1,
        (with_value at parts.1.1.0 s.1 f.1 parts.1.1.1 (term_fits at s.1 f.1 addresses.1 parts.1.1.0 parts.1.1.1)).value,
      )

  pub fits : (e : Expression) → SoundExpression words e → has_call e ≡ false → AddressesFree k.layout stable here e → (t : ExpressionType) → type_of (context_of here) e ≡ Some t → IsFit e
  fits e sound free addresses t is = with_value e t sound free is (term_fits e sound free addresses t is)

  -- a value where one of a kind is wanted
  pub as_kind_fits : (kind : Kind) (s : Sense) → Fits (loaded s) → Fits (as_kind kind s)
  as_kind_fits type.Int s h = by (unsigned_kind s.type.thing.kind)
    where
      by : (b : Bool) → Fits (if b then converted type.Int (loaded s) else loaded s)
      by true = h
      by false = h
  as_kind_fits type.Unsigned s h = by (meant.is_int s.type.thing.kind)
    where
      by : (b : Bool) → Fits (if b then converted type.Unsigned (loaded s) else loaded s)
      by true = h
      by false = h
  as_kind_fits type.Void s h = beside_fits type.Void s h
  as_kind_fits (type.Structure n) s h = beside_fits (type.Structure n) s h
  as_kind_fits (type.Pointer n c) s h = beside_fits (type.Pointer n c) s h
  as_kind_fits type.Null s h = beside_fits type.Null s h
  as_kind_fits type.Function s h = beside_fits type.Function s h

  one_typed : (o : Option ExpressionType) (rest : List (Option ExpressionType)) → all_typed (o ∷ rest) ≡ true → ((t : ExpressionType) × (o ≡ Some t)) × (all_typed rest ≡ true)
  one_typed None rest h = never (sym h)
  one_typed (Some t) rest h = ((t, refl), h)

  pub arguments_fit : (params : List ThingType) (args : Arguments) → are_sound words args ≡ true → have_call args ≡ false → ArgumentsFree k.layout stable here args
      → all_typed (types_of (context_of here) args) ≡ true → AllFit k stable (arguments here params args)
  unfolding arguments types_of
  arguments_fit [] none sound free addresses all = tt
  arguments_fit [] (more e rest) sound free addresses all = tt
  arguments_fit (p ∷ params) none sound free addresses all = tt
  arguments_fit (p ∷ params) (more e rest) sound free addresses all =
      let one = one_typed (type_of (context_of here) e) (types_of (context_of here) rest) all in
      let s = both_true (is_sound words e) (are_sound words rest) sound in
      let f = neither (has_call e) (have_call rest) free in
      (as_kind_fits p.kind (meaning here e) (fits e s.0 f.0 addresses.0 one.0.0 one.0.1).value, arguments_fit params rest s.1 f.1 addresses.1 one.1)
