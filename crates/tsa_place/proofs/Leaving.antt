-- What is left for later comes first.
use Rattle.std.proofs.Common.{◌≡◌, ◌∙◌, ℕ, ◌+◌, ◌*◌, ◌<◌, arith, nat_lt, Bool, true, false, List, [], ◌∷◌, ◌++◌, length, refl, sym, ap}
use Rattle.std.proofs.Common.{subst}
use Rattle.std.proofs.lemmas.Bool.Decides.{nat_tests}
use Rattle.std.proofs.lemmas.List.{append_assoc}
use Rattle.tsa_place.specs.declared.filling.Left.{Left}
use Rattle.tsa_place.specs.declared.filling.Left.TheVariants as left
use Rattle.tsa_place_model.specs.Layouts.{Part, Structures, kind_size, size_of, members_size}
use Rattle.tsa_place_model.specs.Places.{Values, elements_places, members_places, places_inside}
use Rattle.tsa_place_model.specs.declared.place.Placed.{Placed}
use Rattle.tsa_place.specs.Filling.{given, members_left, size_left, sizes_left, one_left, all_left, things_left, IsPlaceable, IsLeft, AreLeft}
use Rattle.tsa_place.specs.Filling.{Leaves}

module _ (structs : Structures) where
  sizes_behind : (old : List Left) (l : Left) → sizes_left structs (old ++ l ∷ []) ≡ sizes_left structs old + size_left structs l
  sizes_behind [] l = refl
  sizes_behind (x ∷ old) l =
      let h = sizes_behind old l in
      let e : (sizes_left structs old + size_left structs l) + size_left structs x ≡ (sizes_left structs old + size_left structs x) + size_left structs l = omega arith in
      ap (λ n. n + size_left structs x) h ∙ e

  module _ (values : Values) where
    pub behind : (old : List Left) (l : Left) (o : ℕ) → all_left structs values (old ++ l ∷ []) o ≡ one_left structs values l o ++ all_left structs values old (o + size_left structs l)
    behind [] l o = alone (one_left structs values l) o
      where
        append_nothing : (xs : List Placed) → xs ≡ xs ++ []
        append_nothing [] = refl
        append_nothing (x ∷ xs) = ap (λ ys. x ∷ ys) (append_nothing xs)

        alone : (f : ℕ → List Placed) (o : ℕ) → [] ++ f (o + 0) ≡ f o ++ []
        alone f o = let e : o + 0 ≡ o = omega arith in ap f e ∙ append_nothing (f o)
    behind (x ∷ old) l o =
        let there : o + (sizes_left structs old + size_left structs l) ≡ (o + size_left structs l) + sizes_left structs old = omega arith in
        ap (λ ps. ps ++ one_left structs values x (o + sizes_left structs (old ++ l ∷ []))) (behind old l o)
        ∙ ap (λ n. (one_left structs values l o ++ all_left structs values old (o + size_left structs l)) ++ one_left structs values x (o + n)) (sizes_behind old l)
        ∙ ap (λ n. (one_left structs values l o ++ all_left structs values old (o + size_left structs l)) ++ one_left structs values x n) there
        ∙ append_assoc (one_left structs values l o) (all_left structs values old (o + size_left structs l)) (one_left structs values x ((o + size_left structs l) + sizes_left structs old))

  left_behind : (old : List Left) (l : Left) → AreLeft structs old → IsLeft structs l → AreLeft structs (old ++ l ∷ [])
  left_behind [] l h x = (x, tt)
  left_behind (y ∷ old) l h x = (h.0, left_behind old l h.1 x)

  -- the last of what is left, and what is before it
  pub left_before : (old : List Left) (l : Left) → AreLeft structs (old ++ l ∷ []) → AreLeft structs old
  left_before [] l h = tt
  left_before (y ∷ old) l h = (h.0, left_before old l h.1)

  pub left_last : (old : List Left) (l : Left) → AreLeft structs (old ++ l ∷ []) → IsLeft structs l
  left_last [] l h = h.0
  left_last (y ∷ old) l h = left_last old l h.1

  some : (n : ℕ) → nat_lt 0 n ≡ true → 0 < n
  some n h = grind (arith, nat_tests, h)

  none : (n : ℕ) → nat_lt 0 n ≡ false → n ≡ 0
  none n h = grind (arith, nat_tests, h)

  -- something is left ..
  pub leaves_some : (old new : List Left) (l : Left) (b : Bool) → b ≡ nat_lt 0 (things_left structs l) → b ≡ true → IsPlaceable structs l → new ≡ old ++ l ∷ [] → Leaves structs old new l
  leaves_some old new l b is so defined e = record {
    told = λ values o. ap (λ ls. all_left structs values ls o) e ∙ behind values old l o;
    left = λ h. subst (AreLeft structs) (sym e) (left_behind old l h (defined, some (things_left structs l) (sym is ∙ so)));
  }

  no_size : (l : Left) → things_left structs l ≡ 0 → size_left structs l ≡ 0
  no_size (left.Elements e) h = ap (λ n. n * kind_size (size_of structs) e.kind) h ∙ zero_times (kind_size (size_of structs) e.kind)
    where
      zero_times : (n : ℕ) → 0 * n ≡ 0
      zero_times n = grind arith
  no_size (left.Members m) h = by (members_left structs m) h
    where
      by : (ms : List Part) → length ms ≡ 0 → members_size (size_of structs) ms ≡ 0
      by [] h = refl
      by (x ∷ ms) h = cc

  no_places : (values : Values) (l : Left) (o : ℕ) → things_left structs l ≡ 0 → one_left structs values l o ≡ []
  no_places values (left.Elements e) o h = ap (λ n. elements_places (places_inside structs values) (size_of structs) values (given e.from) n e.index o e.kind) h
  no_places values (left.Members m) o h = by (members_left structs m) h
    where
      by : (ms : List Part) → length ms ≡ 0 → members_places (places_inside structs values) (size_of structs) values (given m.from) m.owner m.number o ms ≡ []
      by [] h = refl
      by (x ∷ ms) h = cc

  -- .. or nothing is
  pub leaves_none : (old new : List Left) (l : Left) (b : Bool) → b ≡ nat_lt 0 (things_left structs l) → b ≡ false → new ≡ old → Leaves structs old new l
  leaves_none old new l b is so e = record {
    told =
        λ values o.
        let nothing = none (things_left structs l) (sym is ∙ so) in
        ap (λ ls. all_left structs values ls o) e ∙ here (all_left structs values old) o
        ∙ ap (λ n. all_left structs values old (o + n)) (sym (no_size l nothing))
        ∙ ap (λ ps. ps ++ all_left structs values old (o + size_left structs l)) (sym (no_places values l o nothing));
    left = λ h. subst (AreLeft structs) (sym e) h;
  }
    where
      here : (f : ℕ → List Placed) (o : ℕ) → f o ≡ f (o + 0)
      here f o = let e : o ≡ o + 0 = omega arith in ap f e

pub ruleset leaving = (leaves_some, leaves_none)
