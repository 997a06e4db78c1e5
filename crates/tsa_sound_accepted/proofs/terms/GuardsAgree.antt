-- Where all guards of what an expression stands for have paths, these are the guards of its term.
use Rattle.std.proofs.Common.{◌≡◌, ◌∙◌, ℕ, Bool, true, false, List, [], ◌∷◌, ◌++◌, Option, Some, None, is_some, is_none, option_map}
use Rattle.std.proofs.Common.{option_and_then, slice_get, refl, sym, ap, ap₂, subst}
use Rattle.std.proofs.lemmas.List.Folds.{list_any-append}
use Rattle.std.specs.List.{list_any}
use Rattle.tsa_tree.specs.declared.expr.BinaryOp.{BinaryOp}
use Rattle.tsa_tree.specs.declared.expr.BinaryOp.TheVariants as op
use Rattle.tsa_tree.specs.declared.expr.UnaryOp.{UnaryOp}
use Rattle.tsa_tree.specs.declared.expr.UnaryOp.TheVariants as prefix
use Rattle.tsa_tree.specs.declared.kind.ExpressionType.{ExpressionType}
use Rattle.tsa_tree.specs.declared.kind.Kind.TheVariants as type
use Rattle.tsa_tree.specs.declared.kind.ThingType.{ThingType}
use Rattle.tsa_tree.specs.declared.meaning.Entry.{Entry}
use Rattle.tsa_tree.specs.declared.meaning.Meaning.{Meaning}
use Rattle.tsa_tree.specs.declared.meaning.Meaning.TheVariants as known
use Rattle.tsa_tree.specs.expressions.Sound.{Words, SoundExpression, is_sound}
use Rattle.tsa_tree.specs.expressions.Syntax.{Expression, number, null, named, call, unary, binary, field, index}
use Rattle.tsa_tree.specs.types.Expressions.{type_of, types_of, member_of, member_type, owner}
use Rattle.tsa_tree.specs.types.Operands.{lacks, breaks_index, element_type}
use Rattle.tsa_tree.specs.types.Scopes.{Scope, context_of, known_in}
use Rattle.tsa_place_model.specs.Arguments.{way_of}
use Rattle.tsa_place_model.specs.LockPaths.{Led, leads}
use Rattle.tsa_tree.specs.types.Lookups.{members_at, numbered}
use Rattle.tsa_place_model.specs.Ways.{Way}
use Rattle.tsa_place_model.specs.declared.path.PathStep.{PathStep}
use Rattle.tsa_place_model.specs.declared.path.Root.{Root}
use Rattle.tsa_place_model.specs.declared.path.Root.TheVariants as root
use Rattle.tsa_place_model.specs.Calls.{Layout, part_guards}
use Rattle.tsa_core.specs.Kinds.{Setting, Belongs, GiveAnswer, place_type, struct_in}
use Rattle.tsa_place_model.specs.Layouts.{structure_at}
use Rattle.tsa_core.specs.Meanings.{loaded, name_term, of_name, of_call, prefix_term, operands, base_of, to_member, of_field, meaning}
use Rattle.tsa_core.specs.Terms.{member, target, Sense}
use Rattle.tsa_core.specs.Uses.{access_guards, field_guards, guards_owned, member_guards, name_guards, owned_by}
use Rattle.tsa_core.proofs.KindTests.{both_true, neither, single_length}
use Rattle.tsa_core.proofs.KindsOfOperators.{Holds, struct_told, target_told, followed_place, struct_place}
use Rattle.tsa_core.proofs.KindsOfTerms.{of_two, of_owner, holds}
use Rattle.tsa_core.proofs.TypedTerms.{some_same, terms_have_types, member_numbered}
use Rattle.tsa_path.proofs.Leads.{no_object}
use Rattle.tsa_sound.specs.PartlyWorked.{guard_ways, guards_in, place_way}
use Rattle.tsa_sound_accepted.proofs.terms.LedTerms.{Stands, at_place, at_local, does}
use Rattle.tsa_base.proofs.Truths.{never}

-- each of some guards has a path
abbrev pub all_there : List (Option Way) → Bool
all_there ways = list_any is_none ways

pub there_both : (xs ys : List (Option Way)) → all_there (xs ++ ys) ≡ false → (all_there xs ≡ false) × (all_there ys ≡ false)
there_both xs ys h = neither (all_there xs) (all_there ys) (sym (list_any-append is_none xs ys) ∙ h)

-- a guard that has a path though its owner has none doesn't speak of the owner
one_owned : (p : Option Way) (r : Root) (steps : List PathStep) → is_none (owned_by None (record { root = r; steps = steps })) ≡ false
    → owned_by p (record { root = r; steps = steps }) ≡ owned_by None (record { root = r; steps = steps })
one_owned p root.Owner steps h = never h
one_owned p (root.Global n) steps h = refl
one_owned p (root.Local n) steps h = refl

none_owned : (p : Option Way) (ways : List (Option Way)) → all_there (guards_owned None ways) ≡ false → guards_owned p ways ≡ guards_owned None ways
none_owned p [] h = refl
none_owned p (None ∷ ways) h = never h
none_owned p (Some w ∷ ways) h =
    let both = neither (is_none (owned_by None w)) (all_there (guards_owned None ways)) h in
    ap₂ (λ x xs. x ∷ xs) (one_owned p w.root w.steps both.0) (none_owned p ways both.1)

-- so guards with paths are the same with each owner that has the path of the first, where that has one
owned_same : (o p : Option Way) (ways : List (Option Way)) → ((w : Way) → o ≡ Some w → p ≡ Some w) → all_there (guards_owned o ways) ≡ false
    → guards_owned p ways ≡ guards_owned o ways
owned_same None p ways same h = none_owned p ways h
owned_same (Some w) p ways same h = ap (λ q. guards_owned q ways) (same w refl)

struct_is : (t : ThingType) (n : ℕ) → t.length ≡ None → t.kind ≡ type.Structure n → struct_in t ≡ Some n
struct_is t n e f = rw (e, f) refl

module _ (here : Scope) (k : Setting) (bel : Belongs here k) (stable : ℕ → Bool) (words : Words) where
  abbrev l : Layout
  l = k.layout

  -- the way of an expression, where it has one
  led_to : (as_pointer : Bool) (e : Expression) (w : Way) → way_of stable here as_pointer e ≡ Some w → (d : Led) × ((leads stable here as_pointer e ≡ Some d) × (d.way ≡ w))
  led_to as_pointer e w h = by (leads stable here as_pointer e) refl h
    where
      by : (o : Option Led) → leads stable here as_pointer e ≡ o → option_map (λ d. d.way) o ≡ Some w → (d : Led) × ((leads stable here as_pointer e ≡ Some d) × (d.way ≡ w))
      by None f g = cc
      by (Some d) f g = (d, (f, some_same g))

  -- a member that is found
  record Found (arrow : Bool) (name : List ℕ) (s : Sense) : Type 0 where
    struct : ℕ
    number : ℕ
    thing : ThingType
    own : owner arrow s.type ≡ Some struct
    found : numbered (members_at here struct) name 0 ≡ Some (number, thing)

  found_told : (arrow : Bool) (name : List ℕ) (s : Sense) (t : ExpressionType) → option_map (member_type arrow s.type) (member_of (context_of here) arrow name s.type) ≡ Some t
      → Found arrow name s
  found_told arrow name s t h = by (owner arrow s.type) refl h
    where
      by_number : (n : ℕ) → owner arrow s.type ≡ Some n → (q : Option (ℕ × ThingType)) → numbered (members_at here n) name 0 ≡ q
          → option_map (member_type arrow s.type) (option_map (λ m. m.1) q) ≡ Some t → Found arrow name s
      by_number n e None f g = cc
      by_number n e (Some m) f g = record { struct = n; number = m.0; thing = m.1; own = e; found = f }

      by : (o : Option ℕ) → owner arrow s.type ≡ o → option_map (member_type arrow s.type) (option_and_then (λ n. (context_of here).member n name) o) ≡ Some t → Found arrow name s
      by None e f = cc
      by (Some n) e f =
          by_number n e (numbered (members_at here n) name 0) refl (subst (λ q. option_map (member_type arrow s.type) q ≡ Some t) (member_numbered here n name) f)

  field_term : (arrow : Bool) (name : List ℕ) (s : Sense) (f : Found arrow name s) → (of_field here arrow name s).term ≡ member (base_of arrow s) f.number
  field_term arrow name s f =
      ap (λ o. (to_member arrow s (option_and_then (λ struct. numbered (members_at here struct) name 0) o)).term) f.own
      ∙ ap (λ q. (to_member arrow s q).term) f.found

  field_is : (arrow : Bool) (name : List ℕ) (s : Sense) (f : Found arrow name s) (o : Option Way)
      → field_guards l here o name (owner arrow s.type) ≡ guards_owned o (part_guards (slice_get (structure_at l.structs f.struct).members f.number))
  field_is arrow name s f o = ap (field_guards l here o name) f.own ∙ ap (member_guards l o f.struct) f.found

  -- the owner of a member has its path where the object before it has one
  arrow_owner : (base : Expression) (t : ExpressionType) → type_of (context_of here) base ≡ Some t → (w : Way) → way_of stable here true base ≡ Some w
      → place_way stable (target (loaded (meaning here base))) ≡ Some w
  arrow_owner base t is w h = let d = led_to true base w h in (does here k bel stable true base t d.0 is d.1.0).way_is ∙ ap (λ x. Some x) d.1.1

  point_owner : (base : Expression) (t : ExpressionType) (n : ℕ) → type_of (context_of here) base ≡ Some t → (meaning here base).type.thing.kind ≡ type.Structure n → (w : Way)
      → way_of stable here false base ≡ Some w → place_way stable (meaning here base).term ≡ Some w
  point_owner base t n is object w h = let d = led_to false base w h in by d.0 d.1.1 (does here k bel stable false base t d.0 is d.1.0).stands
    where
      by : (d : Led) → d.way ≡ w → Stands here k bel stable (meaning here base) d → place_way stable (meaning here base).term ≡ Some w
      by d same (at_place a) = a.way_is ∙ ap (λ x. Some x) same
      by d same (at_local a) = no_object (meaning here base).type.thing n object a.small

  -- what stands before an arrow, and before a point
  arrow_type : (s : Sense) (name : List ℕ) → Holds k s.term s.type → (f : Found true name s) → option_and_then struct_in (place_type k (target (loaded s))) ≡ Some f.struct
  arrow_type s name h f = ap (option_and_then struct_in) (followed_place k s f.struct h (target_told k s.type f.struct f.own))

  point_type : (s : Sense) (name : List ℕ) → Holds k s.term s.type → (f : Found false name s) → option_and_then struct_in (place_type k s.term) ≡ Some f.struct
  point_type s name h f =
      let told = struct_told k s.type f.struct f.own in
      ap (option_and_then struct_in) (struct_place k s f.struct h f.own) ∙ struct_is s.type.thing f.struct (single_length s.type told.0) told.1

  abbrev parts_guarded : (struct j : ℕ) → List (Option Way)
  parts_guarded struct j = part_guards (slice_get (structure_at l.structs struct).members j)

  arrow_agrees : (base : Expression) (name : List ℕ) (t : ExpressionType) → type_of (context_of here) base ≡ Some t → Holds k (meaning here base).term (meaning here base).type
      → Found true name (meaning here base) → all_there (field_guards l here (way_of stable here true base) name (owner true (meaning here base).type)) ≡ false
      → guard_ways k stable (of_field here true name (meaning here base)).term ≡ field_guards l here (way_of stable here true base) name (owner true (meaning here base).type)
  arrow_agrees base name t is h f g =
      let s = meaning here base in
      let o = way_of stable here true base in
      let same = field_is true name s f o in
      ap (guard_ways k stable) (field_term true name s f)
      ∙ ap (guards_in l (place_way stable (target (loaded s))) f.number) (arrow_type s name h f)
      ∙ owned_same o (place_way stable (target (loaded s))) (parts_guarded f.struct f.number) (arrow_owner base t is) (sym (ap all_there same) ∙ g)
      ∙ sym same

  point_agrees : (base : Expression) (name : List ℕ) (t : ExpressionType) → type_of (context_of here) base ≡ Some t → Holds k (meaning here base).term (meaning here base).type
      → Found false name (meaning here base) → (before : List (Option Way)) → guard_ways k stable (meaning here base).term ≡ before
      → all_there (field_guards l here (way_of stable here false base) name (owner false (meaning here base).type)) ≡ false
      → guard_ways k stable (of_field here false name (meaning here base)).term ≡ before ++ field_guards l here (way_of stable here false base) name (owner false (meaning here base).type)
  point_agrees base name t is h f before first g =
      let s = meaning here base in
      let o = way_of stable here false base in
      let same = field_is false name s f o in
      ap (guard_ways k stable) (field_term false name s f)
      ∙ ap₂ (λ xs ys. xs ++ ys) first
      (ap (guards_in l (place_way stable s.term) f.number) (point_type s name h f)
      ∙ owned_same o (place_way stable s.term) (parts_guarded f.struct f.number) (point_owner base t f.struct is (struct_told k s.type f.struct f.own).1)
      (sym (ap all_there same) ∙ g)
      ∙ sym same)

  -- what is no place has no guards
  name_agrees : (name : List ℕ) (o : Option Entry) → known_in here name ≡ o → guard_ways k stable (of_name o).term ≡ name_guards l here name o
  name_agrees name None e = refl
  name_agrees name (Some x) e = by x.meaning x.thing e
    where
      by : (m : Meaning) (t : ThingType) → known_in here name ≡ Some (record { meaning = m; thing = t })
          → guard_ways k stable (name_term m) ≡ name_guards l here name (Some (record { meaning = m; thing = t }))
      by (known.Global n) t e = refl
      by (known.Local n) t e = refl
      by (known.Function n) t e = refl
      by known.Owned t e = absurd (bel.none_owned name (record { meaning = known.Owned; thing = t }) e refl)
      by (known.Constant z) t e = refl
      by known.TypeName t e = refl

  call_agrees : (o : Option Entry) → guard_ways k stable (of_call o).term ≡ []
  call_agrees None = refl
  call_agrees (Some x) = refl

  prefix_agrees : (o : UnaryOp) (s : Sense) → guard_ways k stable (prefix_term o s) ≡ []
  prefix_agrees prefix.Minus s = refl
  prefix_agrees prefix.Not s = refl
  prefix_agrees prefix.Flip s = refl
  prefix_agrees prefix.Address s = refl
  prefix_agrees prefix.Follow s = refl

  operands_agree : (o : BinaryOp) (a b : Sense) → guard_ways k stable (operands o a b) ≡ []
  operands_agree op.Or a b = refl
  operands_agree op.And a b = refl
  operands_agree op.BitOr a b = refl
  operands_agree op.BitXor a b = refl
  operands_agree op.BitAnd a b = refl
  operands_agree op.Equal a b = refl
  operands_agree op.Unequal a b = refl
  operands_agree op.Less a b = refl
  operands_agree op.More a b = refl
  operands_agree op.LessEqual a b = refl
  operands_agree op.MoreEqual a b = refl
  operands_agree op.Plus a b = refl
  operands_agree op.Minus a b = refl
  operands_agree op.Times a b = refl
  operands_agree op.Divide a b = refl
  operands_agree op.Remainder a b = refl

  pub agree : (e : Expression) → SoundExpression words e → GiveAnswer here k e → (t : ExpressionType) → type_of (context_of here) e ≡ Some t
      → all_there (access_guards l stable here e) ≡ false → guard_ways k stable (meaning here e).term ≡ access_guards l stable here e
  unfolding type_of types_of meaning access_guards
  agree (number n u span) sound gives t is h = refl
  agree (null span) sound gives t is h = refl
  agree (named name span) sound gives t is h = name_agrees name.text (known_in here name.text) refl
  agree (call callee args span) sound gives t is h = call_agrees (known_in here callee.text)
  agree (unary o inner span) sound gives t is h = prefix_agrees o (meaning here inner)
  agree (binary o left right span) sound gives t is h = operands_agree o (meaning here left) (meaning here right)
  agree (field base name true span) sound gives t is h =
      let f : ExpressionType → Option ExpressionType = λ x. option_map (member_type true x) (member_of (context_of here) true name.text x) in
      let parts = of_owner f (lacks (λ x. is_some (owner true x)) (type_of (context_of here) base)) (type_of (context_of here) base) t is in
      let told = found_told true name.text (meaning here base) t (subst (λ x. f x ≡ Some t) (sym (terms_have_types here base parts.0 parts.1.0)) parts.1.1) in
      arrow_agrees base name.text parts.0 parts.1.0 (holds here k bel words base (both_true (is_sound words base) _ sound).0 gives parts.0 parts.1.0) told h
  agree (field base name false span) sound gives t is h =
      let f : ExpressionType → Option ExpressionType = λ x. option_map (member_type false x) (member_of (context_of here) false name.text x) in
      let parts = of_owner f (lacks (λ x. is_some (owner false x)) (type_of (context_of here) base)) (type_of (context_of here) base) t is in
      let told = found_told false name.text (meaning here base) t (subst (λ x. f x ≡ Some t) (sym (terms_have_types here base parts.0 parts.1.0)) parts.1.1) in
      let inner = (both_true (is_sound words base) _ sound).0 in
      let both = there_both (access_guards l stable here base) (field_guards l here (way_of stable here false base) name.text (owner false (meaning here base).type)) h in
      point_agrees base name.text parts.0 parts.1.0 (holds here k bel words base inner gives parts.0 parts.1.0) told (access_guards l stable here base)
      (agree base inner gives parts.0 parts.1.0 both.0) both.1
  agree (index base at span) sound gives t is h =
      let left = type_of (context_of here) base in
      let right = type_of (context_of here) at in
      let parts = of_two (λ a i. element_type a) (breaks_index left right) left right t is in
      agree base (both_true (is_sound words base) (is_sound words at) sound).0 gives.0 parts.1.0.0 parts.1.0.1 h
