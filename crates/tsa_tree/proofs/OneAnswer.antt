-- Two right answers of a reader are the same.
use Rattle.std.proofs.Common.{ℕ, ◌≤◌, ◌≡◌, ap, subst, Bool, Ok, Err, arith}
use Rattle.tsa_tree.specs.expressions.Answers.{below_limit}
use Rattle.tsa_tree.specs.Verdicts as verdicts
use Rattle.tsa_grammar.specs.Reading.{Code, syntax, deep, barred, refuse, Outcome, all}

module _ {T : Type 0} (Spelled : (ℕ → Bool) → T → ℕ → Type 0) (Begun : (ℕ → Bool) → ℕ → Type 0) (Refused : (ℕ → Bool) → (i q : ℕ) → Type 0) where
  abbrev Longest : T → ℕ → Type 0
  Longest x e = verdicts.IsLongest Spelled Begun Refused x e

  abbrev Broken : ℕ → Type 0
  Broken i = verdicts.IsBroken Spelled Begun Refused i

  abbrev Barred : (q i : ℕ) → Type 0
  Barred q i = verdicts.IsRefused Spelled Begun Refused q i

  abbrev Deep : ℕ → Type 0
  Deep i = verdicts.IsTooDeep Spelled Begun Refused i

  abbrev RefusedAt : Code → ℕ → Type 0
  RefusedAt code i = verdicts.RefusedAt Spelled Begun Refused code i

  -- Nothing that begins the part goes past e, and no token is refused.
  abbrev pub Whole : ℕ → Type 0
  Whole e = ((b : ℕ) → Begun all b → b ≤ e) × ((i q : ℕ) → Refused all i q → ⊥)

  -- This has to be known of the part: what holds within limits holds without them, what is spelled or refused begins the part, and one tree
  -- is spelled and one reason given.
  module _ (free_spelled : (x : T) (e : ℕ) → Spelled below_limit x e → Spelled all x e)
      (free_begun : (i : ℕ) → Begun below_limit i → Begun all i)
      (free_refused : (i q : ℕ) → Refused below_limit i q → Refused all i q)
      (whole : (x : T) (e : ℕ) → Spelled below_limit x e → Begun below_limit e)
      (refused_begins : (i q : ℕ) → Refused below_limit i q → Begun below_limit i)
      (one_tree : (x y : T) (e : ℕ) → Spelled all x e → Spelled all y e → Whole e → x ≡ y)
      (one_reason : (i q p : ℕ) → Refused all i q → Refused all i p → ((j r : ℕ) → Refused all j r → i ≤ j) → q ≡ p) where
    same_end : (i j : ℕ) → i ≤ j → j ≤ i → i ≡ j
    same_end i j h k = omega arith

    longest_to : {x : T} {e : ℕ} → Longest x e → Begun all e
    longest_to {x = x} {e = e} h = free_begun e (whole x e h.spelled)

    both_longest : (x y : T) (e i : ℕ) → Longest x e → Longest y i → (let r : Outcome T = Ok (x, e) in r) ≡ Ok (y, i)
    both_longest x y e i h k =
        let same = same_end i e (h.longest i (longest_to k)) (k.longest e (longest_to h)) in
        let other = subst (Spelled all y) same (free_spelled y i k.spelled) in
        let tree : x ≡ y = one_tree x y e (free_spelled x e h.spelled) other (h.longest, h.none_refused) in
        cc

    longest_broken : (x : T) (e i : ℕ) → Longest x e → Broken i → ⊥
    longest_broken x e i h k =
        let same = same_end e i (k.longest e (longest_to h)) (h.longest i (free_begun i k.begins)) in
        k.no_tree x (subst (Spelled all x) same (free_spelled x e h.spelled))

    longest_deep : (x : T) (e i : ℕ) → Longest x e → Deep i → ⊥
    longest_deep x e i h k =
        let le = k.first e (whole x e h.spelled) in
        let ge = h.longest k.goes_on.0 k.goes_on.2 in
        let lt = k.goes_on.1 in omega arith

    broken_deep : (i j : ℕ) → Broken i → Deep j → ⊥
    broken_deep i j h k =
        let le = k.first i h.begins in
        let ge = h.longest k.goes_on.0 k.goes_on.2 in
        let lt = k.goes_on.1 in omega arith

    barred_deep : (q i j : ℕ) → Barred q i → Deep j → ⊥
    barred_deep q i j h k =
        let lt = k.none_refused i q (free_refused i q h.begins) in
        let le = k.first i (refused_begins i q h.begins) in omega arith

    both_barred : (q p i j : ℕ) → Barred q i → Barred p j → refuse (barred q) i ≡ refuse (barred p) j
    both_barred q p i j h k =
        let there = free_refused j p k.begins in
        let same = same_end j i (k.first i q (free_refused i q h.begins)) (h.first j p there) in
        let reason : q ≡ p = one_reason i q p (free_refused i q h.begins) (subst (λ n. Refused all n p) same there) h.first in
        cc

    refused_once : (c c' : Code) (i j : ℕ) → RefusedAt c i → RefusedAt c' j → refuse c i ≡ refuse c' j
    refused_once syntax syntax i j h k =
        ap (refuse syntax) (same_end i j (k.longest i (free_begun i h.begins)) (h.longest j (free_begun j k.begins)))
    refused_once syntax deep i j h k = absurd (broken_deep i j h k)
    refused_once syntax (barred p) i j h k = absurd (h.none_refused j p (free_refused j p k.begins))
    refused_once deep syntax i j h k = absurd (broken_deep j i k h)
    refused_once deep deep i j h k = ap (refuse deep) (same_end i j (k.first i h.begins) (h.first j k.begins))
    refused_once deep (barred p) i j h k = absurd (barred_deep p j i k h)
    refused_once (barred q) syntax i j h k = absurd (k.none_refused i q (free_refused i q h.begins))
    refused_once (barred q) deep i j h k = absurd (barred_deep q i j h k)
    refused_once (barred q) (barred p) i j h k = both_barred q p i j h k

    found_not_refused : (x : T) (e : ℕ) (c : Code) (i : ℕ) → Longest x e → RefusedAt c i → ⊥
    found_not_refused x e syntax i h k = longest_broken x e i h k
    found_not_refused x e deep i h k = longest_deep x e i h k
    found_not_refused x e (barred q) i h k = h.none_refused i q (free_refused i q k.begins)

    pub one_answer : (r s : Outcome T) → verdicts.IsAnswer Spelled Begun Refused r → verdicts.IsAnswer Spelled Begun Refused s → r ≡ s
    one_answer (Ok x) (Ok y) h k = both_longest x.0 y.0 x.1 y.1 h k
    one_answer (Ok x) (Err e) h k = absurd (found_not_refused x.0 x.1 e.code e.token h k)
    one_answer (Err e) (Ok x) h k = absurd (found_not_refused x.0 x.1 e.code e.token k h)
    one_answer (Err e) (Err f) h k = ap Err (refused_once e.code f.code e.token f.token h k)
