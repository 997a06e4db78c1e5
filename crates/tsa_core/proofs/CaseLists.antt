-- Of cases that typing lets pass, which are each the first one with their value, no two have the same.
use Rattle.std.proofs.Common.{◌≡◌, ◌∙◌, ℕ, ◌<◌, ◌^◌, nat_eq, Bool, true, false, List, [], ◌∷◌, ◌++◌, map, Option, Some, None, is_some}
use Rattle.std.proofs.Common.{if◌then◌else◌, refl, sym, ap, subst}
use Rattle.std.specs.List.{list_any}
use Rattle.tsa_tree.specs.declared.number.Number.{Number}
use Rattle.tsa_tree.specs.declared.number.Number.TheVariants as numeral
use Rattle.tsa_tree.specs.expressions.Syntax.{Expression}
use Rattle.tsa_tree.specs.types.Arithmetic.{unsigned_of}
use Rattle.tsa_tree.specs.types.Statements.{is_elsewhere}
use Rattle.tsa_tree.specs.types.Targets.{Cases, case_at, or_case, with_case, with_value}
use Rattle.tsa_core.proofs.KindTests.{neither, not_false}
use Rattle.tsa_core.proofs.TypedTerms.{some_same}
use Rattle.tsa_core.specs.CaseLaws.{Case, Differ}
use Rattle.tsa_base.proofs.Truths.{never}

-- each of some things has a property
abbrev pub Every : {A : Type 0} → (A → Type 0) → List A → Type 0
Every P [] = Unit {0}
Every P (x ∷ xs) = P x × Every P xs

pub every_map : {A : Type 0} (P Q : A → Type 0) → ((x : A) → P x → Q x) → (xs : List A) → Every P xs → Every Q xs
every_map P Q f [] h = tt
every_map P Q f (x ∷ xs) h = (f x h.0, every_map P Q f xs h.1)

pub every_both : {A : Type 0} (P : A → Type 0) (xs ys : List A) → Every P xs → Every P ys → Every P (xs ++ ys)
every_both P [] ys h g = g
every_both P (x ∷ xs) ys h g = (h.0, every_both P xs ys h.1 g)

-- What is known of cases is found in longer lists.
front_step : (b : Bool) (p : ℕ) (o r : Option ℕ) (q : ℕ) → (o ≡ Some q → r ≡ Some q) → (if b then Some p else o) ≡ Some q → (if b then Some p else r) ≡ Some q
front_step true p o r q later h = h
front_step false p o r q later h = later h

front : (known further : Cases) (v q : ℕ) → case_at known v ≡ Some q → case_at (known ++ further) v ≡ Some q
front [] further v q h = cc
front (x ∷ xs) further v q h = front_step (nat_eq v x.0) x.1 (case_at xs v) (case_at (xs ++ further) v) q (front xs further v q) h

back_step : (b : Bool) (p : ℕ) (o r s : Option ℕ) → (o ≡ None → r ≡ s) → (if b then Some p else o) ≡ None → (if b then Some p else r) ≡ s
back_step true p o r s later h = cc
back_step false p o r s later h = later h

behind : (known further : Cases) (v : ℕ) → case_at known v ≡ None → case_at (known ++ further) v ≡ case_at further v
behind [] further v h = refl
behind (x ∷ xs) further v h = back_step (nat_eq v x.0) x.1 (case_at xs v) (case_at (xs ++ further) v) (case_at further v) (behind xs further v) h

module _ (u p : ℕ) (known : Cases) where
  abbrev longer : Cases
  longer = known ++ (u, p) ∷ []

  none_before : (v : ℕ) → case_at longer v ≡ None → (case_at known v ≡ None) × (nat_eq v u ≡ false)
  none_before v h = by (case_at known v) refl
    where
      other : (b : Bool) → (if b then Some p else None) ≡ None → b ≡ false
      other true h = cc
      other false h = refl

      by : (o : Option ℕ) → case_at known v ≡ o → (case_at known v ≡ None) × (nat_eq v u ≡ false)
      by None e = (e, other (nat_eq v u) (sym (behind known ((u, p) ∷ []) v e) ∙ h))
      by (Some q) e = let found = sym (front known ((u, p) ∷ []) v q e) ∙ h in absurd cc

  still_fresh : (ps : List ℕ) → ((v q : ℕ) → case_at known v ≡ Some q → list_any (nat_eq q) (p ∷ ps) ≡ false) → list_any (nat_eq p) ps ≡ false
      → (v q : ℕ) → case_at longer v ≡ Some q → list_any (nat_eq q) ps ≡ false
  still_fresh ps fresh own v q h = by (case_at known v) refl
    where
      last : (b : Bool) → (if b then Some p else None) ≡ Some q → list_any (nat_eq q) ps ≡ false
      last true e = subst (λ x. list_any (nat_eq x) ps ≡ false) (some_same e) own
      last false e = cc

      by : (o : Option ℕ) → case_at known v ≡ o → list_any (nat_eq q) ps ≡ false
      by None e = last (nat_eq v u) (sym (behind known ((u, p) ∷ []) v e) ∙ h)
      by (Some r) e =
          let same : r ≡ q = some_same (sym (front known ((u, p) ∷ []) v r e) ∙ h) in
          (neither (nat_eq q p) (list_any (nat_eq q) ps) (fresh v q (e ∙ ap (λ x. Some x) same))).1

  case_kept : (v q : ℕ) → case_at known v ≡ Some q → case_at (with_case u p known) v ≡ Some q
  case_kept v q h = by (is_some (case_at known u))
    where
      by : (b : Bool) → case_at (or_case b u p known) v ≡ Some q
      by true = h
      by false = front known ((u, p) ∷ []) v q h

  case_added : case_at known u ≡ None → with_case u p known ≡ longer
  case_added e = ap (λ o. or_case (is_some o) u p known) e

  -- where the first one of a value stands at no other place, it isn't there yet
  not_yet : (all : Cases) (ps : List ℕ) → ((v q : ℕ) → case_at known v ≡ Some q → case_at all v ≡ Some q) → is_elsewhere p (case_at all u) ≡ false
      → ((v q : ℕ) → case_at known v ≡ Some q → list_any (nat_eq q) (p ∷ ps) ≡ false) → case_at known u ≡ None
  not_yet all ps kept here fresh = by (case_at known u) refl
    where
      by : (o : Option ℕ) → case_at known u ≡ o → case_at known u ≡ None
      by None e = e
      by (Some q) e =
          let same = not_false (nat_eq q p) (subst (λ o. is_elsewhere p o ≡ false) (kept u q e) here) in
          never (sym same ∙ (neither (nat_eq q p) (list_any (nat_eq q) ps) (fresh u q e)).0)

-- numbers that an `int` or an `unsigned` can be
abbrev pub InRange : Number → Type 0
InRange (numeral.Int z) = Unit {0}
InRange (numeral.Unsigned n) = n < 2 ^ 32

module _ (worth : Expression → Option Number) where
  abbrev pub with_cases : Cases → List Case → Cases
  with_cases known [] = known
  with_cases known (x ∷ xs) = with_cases (with_value (worth x.0) x.1.from known) xs

  pub with_append : (known : Cases) (xs ys : List Case) → with_cases known (xs ++ ys) ≡ with_cases (with_cases known xs) ys
  with_append known [] ys = refl
  with_append known (x ∷ xs) ys = with_append (with_value (worth x.0) x.1.from known) xs ys

  value_kept : (o : Option Number) (p : ℕ) (known : Cases) (v q : ℕ) → case_at known v ≡ Some q → case_at (with_value o p known) v ≡ Some q
  value_kept None p known v q h = h
  value_kept (Some n) p known v q h = case_kept (unsigned_of n) p known v q h

  all_kept : (known : Cases) (xs : List Case) (v q : ℕ) → case_at known v ≡ Some q → case_at (with_cases known xs) v ≡ Some q
  all_kept known [] v q h = h
  all_kept known (x ∷ xs) v q h = all_kept (with_value (worth x.0) x.1.from known) xs v q (value_kept (worth x.0) x.1.from known v q h)

  -- a case with a value, of which the first one stands at no other place
  pub record IsFirst (all : Cases) (x : Case) : Type 0 where
    pub n : Number
    pub is : worth x.0 ≡ Some n
    pub first : is_elsewhere x.1.from (case_at all (unsigned_of n)) ≡ false
    pub small : InRange n

  abbrev IsNew : Cases → Case → Type 0
  IsNew known x = (n : Number) → worth x.0 ≡ Some n → case_at known (unsigned_of n) ≡ None

  abbrev pub IsOther : Case → Case → Type 0
  IsOther x y = (n m : Number) → worth x.0 ≡ Some n → worth y.0 ≡ Some m → nat_eq (unsigned_of m) (unsigned_of n) ≡ false

  abbrev pub Apart : List Case → Type 0
  Apart [] = Unit {0}
  Apart (x ∷ xs) = Every (IsOther x) xs × Apart xs

  all_new : (all known : Cases) (xs : List Case) → with_cases known xs ≡ all → Every (IsFirst all) xs
      → ((v q : ℕ) → case_at known v ≡ Some q → list_any (nat_eq q) (map (λ x. x.1.from) xs) ≡ false) → Differ (map (λ x. x.1.from) xs)
      → Every (IsNew known) xs × Apart xs
  all_new all known [] same each fresh differ = (tt, tt)
  all_new all known (x ∷ xs) same each fresh differ =
      let u = unsigned_of each.0.n in
      let p = x.1.from in
      let ps : List ℕ = map (λ y. y.1.from) xs in
      let none = not_yet u p known all ps
      (λ v q h. subst (λ k. case_at k v ≡ Some q) same (all_kept known (x ∷ xs) v q h)) each.0.first fresh in
      let added : with_value (worth x.0) p known ≡ known ++ (u, p) ∷ [] = ap (λ o. with_value o p known) each.0.is ∙ case_added u p known none in
      let rest = all_new all (with_value (worth x.0) p known) xs same each.1
      (λ v q h. still_fresh u p known ps fresh differ.0 v q (subst (λ k. case_at k v ≡ Some q) added h)) differ.1 in
      let before : (y : Case) (m : Number) → IsNew (with_value (worth x.0) p known) y → worth y.0 ≡ Some m → (case_at known (unsigned_of m) ≡ None) × (nat_eq (unsigned_of m) u ≡ false) =
      λ y m h e. none_before u p known (unsigned_of m) (subst (λ k. case_at k (unsigned_of m) ≡ None) added (h m e)) in (
        (
          λ n e. subst (λ k. case_at known (unsigned_of k) ≡ None) (some_same (sym each.0.is ∙ e)) none,
          every_map (IsNew (with_value (worth x.0) p known)) (IsNew known) (λ y h m e. (before y m h e).0) xs rest.0,
        ),
        (
          every_map (IsNew (with_value (worth x.0) p known)) (IsOther x)
              (λ y h n m e f. subst (λ k. nat_eq (unsigned_of m) (unsigned_of k) ≡ false) (some_same (sym each.0.is ∙ e)) (before y m h f).1) xs rest.0,
          rest.1,
        ),
      )

  pub all_apart : (xs : List Case) → Every (IsFirst (with_cases [] xs)) xs → Differ (map (λ x. x.1.from) xs) → Apart xs
  all_apart xs each differ = (all_new (with_cases [] xs) [] xs refl each (λ v q h. cc) differ).1
