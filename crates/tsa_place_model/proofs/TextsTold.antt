-- Where names are plain and tell globals and members apart, texts tell places apart.
use Rattle.std.proofs.Common.{◌≡◌, ℕ, zero, suc, ◌<◌, ◌≤◌, arith, List, ◌++◌, Option, Some, None, slice_get, option_and_then, option_map}
use Rattle.std.proofs.Common.{refl, sym, ap, subst, ◌∙◌}
use Rattle.tsa_tree.specs.declared.kind.Kind.{Kind}
use Rattle.tsa_place_model.specs.declared.place.Holder.{Holder}
use Rattle.tsa_place_model.specs.declared.place.Holder.TheVariants.{Global, Member}
use Rattle.tsa_place_model.specs.declared.place.Placed.{Placed}
use Rattle.tsa_place_model.specs.Layouts.{Part}
use Rattle.tsa_place_model.specs.Calls.{Layout, kind_at, members_of, part_of, index_text, text_of}
use Rattle.tsa_place_model.specs.Leading.{Fits, IsInside, leads_to}
use Rattle.tsa_place_model.proofs.TextsApart.{IsPlain, IsSmall, without_dot, name_and_index, with_and_without, last_tells}
use Rattle.tsa_place_model.proofs.TextsAlong.{AllStand, whole_text, text_is}
use Rattle.tsa_base.proofs.Options.{some_same as the_same}

-- the length of an array is no long number
abbrev pub IsShort : Option ℕ → Type 0
IsShort None = Unit {0}
IsShort (Some n) = n ≤ 65536

-- globals or members whose names are plain and tell them apart
pub record NamesTell (parts : List Part) : Type 0 where
  pub plain : (i : ℕ) (p : Part) → slice_get parts i ≡ Some p → IsPlain p.name
  pub short : (i : ℕ) (p : Part) → slice_get parts i ≡ Some p → IsShort p.thing.length
  pub tell : (i j : ℕ) (p q : Part) → slice_get parts i ≡ Some p → slice_get parts j ≡ Some q → p.name ≡ q.name → i ≡ j

-- those of a layout
pub record AllNamesTell (l : Layout) : Type 0 where
  pub globals : NamesTell l.globals
  pub members : (kind : Kind) → NamesTell (members_of l kind)

-- a place of the layout
abbrev IsPlace : Layout → ℕ → Type 0
IsPlace l place = (p : Placed) × (slice_get l.places place ≡ Some p)

-- of what is declared by a member the object has a kind with that member
record HasMember (l : Layout) (owner k : ℕ) (part : Part) : Type 0 where
  place : IsPlace l owner
  kind : Kind
  known : kind_at l owner ≡ Some kind
  member : slice_get (members_of l kind) k ≡ Some part

pub no_part : {A B : Type 0} {x : A} → None ≡ Some x → B
no_part e = absurd cc

has_member : (l : Layout) (owner k : ℕ) (part : Part) → part_of l (Member owner k) ≡ Some part → HasMember l owner k part
has_member l owner k part e = by (slice_get l.places owner) refl e
  where
    by : (o : Option Placed) → slice_get l.places owner ≡ o → option_and_then (λ kind. slice_get (members_of l kind) k) (option_map (λ p. p.kind) o) ≡ Some part
        → HasMember l owner k part
    by None here told = no_part told
    by (Some p) here told = record { place = (p, here); kind = p.kind; known = ap (option_map (λ p. p.kind)) here; member = told }

module _ (l : Layout) (names : AllNamesTell l) where
  part_plain : (holder : Holder) (part : Part) → part_of l holder ≡ Some part → IsPlain part.name
  part_plain (Global n) part e = names.globals.plain n part e
  part_plain (Member owner k) part e = let m = has_member l owner k part e in (names.members m.kind).plain k part m.member

  part_short : (holder : Holder) (part : Part) → part_of l holder ≡ Some part → IsShort part.thing.length
  part_short (Global n) part e = names.globals.short n part e
  part_short (Member owner k) part e = let m = has_member l owner k part e in (names.members m.kind).short k part m.member

  same_member : (owner j k : ℕ) (p q : Part) → part_of l (Member owner j) ≡ Some p → part_of l (Member owner k) ≡ Some q → p.name ≡ q.name → j ≡ k
  same_member owner j k p q e f same =
      let m = has_member l owner j p e in
      let n = has_member l owner k q f in
      let kinds : n.kind ≡ m.kind = the_same (sym n.known ∙ m.known) in
      (names.members m.kind).tell j k p q m.member (subst (λ kind. slice_get (members_of l kind) k ≡ Some q) kinds n.member) same

  -- what stands earlier than a place is told by its text
  abbrev TellsBefore : ℕ → Type 0
  TellsBefore place = (owner other : ℕ) → owner < place → IsPlace l owner → IsPlace l other → text_of l owner ≡ text_of l other → owner ≡ other

  module _ (place : ℕ) (before : TellsBefore place) (p q : Part) (i j : Option ℕ) (small : IsSmall i) (little : IsSmall j) where
    own_same : IsPlain p.name → IsPlain q.name → p.name ++ index_text i ≡ q.name ++ index_text j → (p.name ≡ q.name) × (i ≡ j)
    own_same h k e = name_and_index p.name q.name i j h k small little e

    same_holder : (g h : Holder) → part_of l g ≡ Some p → part_of l h ≡ Some q → IsInside g place
        → whole_text l g (p.name ++ index_text i) ≡ whole_text l h (q.name ++ index_text j) → (g ≡ h) × (i ≡ j)
    same_holder (Global m) (Global n) d e inside same =
        let own = own_same (part_plain (Global m) p d) (part_plain (Global n) q e) same in
        (ap Global (names.globals.tell m n p q d e own.0), own.1)
    same_holder (Global m) (Member owner k) d e inside same =
        absurd (with_and_without 46 (text_of l owner) (q.name ++ index_text j) (p.name ++ index_text i) (without_dot p.name i (part_plain (Global m) p d) small) (sym same))
    same_holder (Member owner k) (Global n) d e inside same =
        absurd (with_and_without 46 (text_of l owner) (p.name ++ index_text i) (q.name ++ index_text j) (without_dot q.name j (part_plain (Global n) q e) little) same)
    same_holder (Member owner k) (Member other n) d e inside same =
        let plain = part_plain (Member owner k) p d in
        let simple = part_plain (Member other n) q e in
        let split = last_tells 46 (text_of l owner) (text_of l other) (p.name ++ index_text i) (q.name ++ index_text j)
        (without_dot p.name i plain small) (without_dot q.name j simple little) same in
        let own = own_same plain simple split.1 in
        let owners : owner ≡ other = before owner other inside (has_member l owner k p d).place (has_member l other n q e).place split.0 in
        let number : k ≡ n = same_member other k n p q (subst (λ o. part_of l (Member o k) ≡ Some p) owners d) e own.0 in
        (ap (λ o. Member o k) owners ∙ ap (Member other) number, own.1)

  small_index : (length i : Option ℕ) → IsShort length → Fits length i → IsSmall i
  small_index None None h k = tt
  small_index None (Some i) h k = absurd k
  small_index (Some n) None h k = tt
  small_index (Some n) (Some i) h k = omega (arith, h, k)

  module _ (stand : AllStand l) where
    index_small : (place : ℕ) (p : Placed) (e : slice_get l.places place ≡ Some p) → IsSmall p.index
    index_small place p e = let s = stand place p e in small_index s.part.thing.length p.index (part_short p.holder s.part s.declared) s.fits

    -- a place has what declares it, and its index, by its text, and is where both lead
    tells_one : (a b : ℕ) (p q : Placed) → slice_get l.places a ≡ Some p → slice_get l.places b ≡ Some q → TellsBefore a → text_of l a ≡ text_of l b → a ≡ b
    tells_one a b p q d e before same =
        let s = stand a p d in
        let t = stand b q e in
        let both = same_holder a before s.part t.part p.index q.index (index_small a p d) (index_small b q e) p.holder q.holder s.declared t.declared s.inside
        (sym (text_is l stand a p d) ∙ same ∙ text_is l stand b q e) in
        the_same (sym s.led ∙ ap (λ h. leads_to l h p.index) both.0 ∙ ap (leads_to l q.holder) both.1 ∙ t.led)

    tells_below : (fuel a b : ℕ) → a < fuel → IsPlace l a → IsPlace l b → text_of l a ≡ text_of l b → a ≡ b
    tells_below zero a b less x y same = absurd (omega (arith, less))
    tells_below (suc fuel) a b less x y same =
        tells_one a b x.0 y.0 x.1 y.1 (λ owner other before h k e. tells_below fuel owner other (omega (arith, less, before)) h k e) same

    -- two places with the same text are the same
    pub texts_told : (a b : ℕ) (p q : Placed) → slice_get l.places a ≡ Some p → slice_get l.places b ≡ Some q → text_of l a ≡ text_of l b → a ≡ b
    texts_told a b p q d e same = tells_below (suc a) a b (omega arith) (p, d) (q, e) same
