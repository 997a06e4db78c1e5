-- A run that goes on from a point that none leads to.
use Rattle.std.proofs.Common.{◌≡◌, ◌∙◌, ℕ, ◌+◌, ◌<◌, arith, Bool, true, false, nat_eq, ◌⊎◌, inl, inr, List, [], ◌∷◌, ◌++◌, length, set}
use Rattle.std.proofs.Common.{length-set, Option, Some, None, refl, sym, ap, ap₂, subst}
use Rattle.std.proofs.lemmas.Bool.Decides.{nat_tests}
use Rattle.tsa_graph.specs.Runs.{step, first_of, last_of, IsChain, bit, times}
use Rattle.tsa_graph.specs.Tracing.{is_seen, IsClosed, IsMarked}
use Rattle.tsa_graph.proofs.Lists.{times_push, last_push, chain_push, marked, other_marked, unseen, unseen_marked}

pub never : {A : Type 0} → true ≡ false → A
never e = absurd (by e)
  where
    by : true ≡ false → ⊥
    by x = cc

pub some_same : (a b : ℕ) → Some a ≡ Some b → a ≡ b
some_same a b e = cc

pub some_none : {A : Type 0} (a : ℕ) (o : Option ℕ) → o ≡ Some a → o ≡ None → A
some_none a o e f = absurd (by (sym e ∙ f))
  where
    by : Some a ≡ None → ⊥
    by x = cc

-- two numbers are one, or differ
pub either : (p q : ℕ) → (p ≡ q) ⊎ (p ≡ q → ⊥)
either p q = by (nat_eq p q) refl
  where
    by : (b : Bool) → nat_eq p q ≡ b → (p ≡ q) ⊎ (p ≡ q → ⊥)
    by true e = inl (grind (arith, nat_tests, e))
    by false e = inr (λ x. let y : nat_eq p q ≡ true = grind (arith, nat_tests, x) in never (sym y ∙ e))

pub not_true : (b : Bool) → (b ≡ true → ⊥) → b ≡ false
not_true false h = refl
not_true true h = absurd (h refl)

-- A point is marked that wasn't.
module _ (seen : List Bool) (q : ℕ) (inside : q < length seen) where
  abbrev pub after : List Bool
  after = set seen q true

  pub mark_here : is_seen after q ≡ true
  mark_here = marked seen q inside

  -- what was seen still is
  pub mark_kept : (p : ℕ) → is_seen seen p ≡ true → is_seen after p ≡ true
  mark_kept p e = by (either p q)
    where
      by : (p ≡ q) ⊎ (p ≡ q → ⊥) → is_seen after p ≡ true
      by (inl is) = ap (is_seen after) is ∙ mark_here
      by (inr other) = other_marked seen q p other ∙ e

  -- and what is seen was, or is the point
  pub mark_was : (p : ℕ) → is_seen after p ≡ true → (p ≡ q) ⊎ (is_seen seen p ≡ true)
  mark_was p e = by (either p q)
    where
      by : (p ≡ q) ⊎ (p ≡ q → ⊥) → (p ≡ q) ⊎ (is_seen seen p ≡ true)
      by (inl is) = inl is
      by (inr other) = inr (sym (other_marked seen q p other) ∙ e)

  pub mark_once : is_seen seen q ≡ false → (p : ℕ) → bit (nat_eq p q) + bit (is_seen seen p) ≡ bit (is_seen after p)
  mark_once free p = by (either p q)
    where
      by : (p ≡ q) ⊎ (p ≡ q → ⊥) → bit (nat_eq p q) + bit (is_seen seen p) ≡ bit (is_seen after p)
      by (inl is) =
          let y : nat_eq p q ≡ true = grind (arith, nat_tests, is) in
          ap₂ (λ a b. bit a + bit b) y (ap (is_seen seen) is ∙ free) ∙ sym (ap bit (ap (is_seen after) is ∙ mark_here))
      by (inr other) =
          let y : nat_eq p q ≡ false = not_true (nat_eq p q) (λ e. other (grind (arith, nat_tests, e))) in
          let z : 0 + bit (is_seen seen p) ≡ bit (is_seen seen p) = omega arith in
          ap (λ a. bit a + bit (is_seen seen p)) y ∙ z ∙ sym (ap bit (other_marked seen q p other))

-- the run so far, which goes on from its last point
pub record OnPath (next : List (Option ℕ)) (before seen : List Bool) (run : List ℕ) (last : ℕ) : Type 0 where
  pub size : length seen ≡ length next
  pub chain : IsChain next run
  pub ends : last_of run ≡ last
  pub back : (p q : ℕ) → step next p ≡ Some q → is_seen seen q ≡ true → is_seen seen p ≡ true
  pub on : (p q : ℕ) → step next p ≡ Some q → is_seen seen p ≡ true → (p ≡ last) ⊎ (is_seen seen q ≡ true)
  pub fresh : (q : ℕ) → step next last ≡ Some q → is_seen seen q ≡ false
  pub own : is_seen seen last ≡ true
  pub marks : IsMarked run before seen

module _ (next : List (Option ℕ)) (one : (p q r : ℕ) → step next p ≡ Some r → step next q ≡ Some r → p ≡ q) (within : (p q : ℕ) → step next p ≡ Some q → q < length next) where
  pub begin : (before : List Bool) (head : ℕ) → length before ≡ length next → IsClosed next before → head < length next → is_seen before head ≡ false
      → ((p : ℕ) → step next p ≡ Some head → ⊥) → OnPath next before (set before head true) (head ∷ []) head
  begin before head size closed inside free alone =
      let h : head < length before = omega (arith, size, inside) in
      record {
        size = length-set before head true ∙ size;
        chain = tt;
        ends = refl;
        back = λ p q e s. back p q e (mark_was before head h q s);
        on = λ p q e s. on p q e (mark_was before head h p s);
        fresh = λ q e. fresh q e (either q head);
        own = mark_here before head h;
        marks = λ p. let z : bit (nat_eq p head) + 0 ≡ bit (nat_eq p head) = omega arith in ap (λ n. n + bit (is_seen before p)) z ∙ mark_once before head h free p;
      }
    where
      inner : head < length before
      inner = omega (arith, size, inside)

      back : (p q : ℕ) → step next p ≡ Some q → (q ≡ head) ⊎ (is_seen before q ≡ true) → is_seen (set before head true) p ≡ true
      back p q e (inl is) = absurd (alone p (e ∙ ap Some is))
      back p q e (inr s) = mark_kept before head inner p (closed p q e ∙ s)

      on : (p q : ℕ) → step next p ≡ Some q → (p ≡ head) ⊎ (is_seen before p ≡ true) → (p ≡ head) ⊎ (is_seen (set before head true) q ≡ true)
      on p q e (inl is) = inl is
      on p q e (inr s) = inr (mark_kept before head inner q (sym (closed p q e) ∙ s))

      fresh : (q : ℕ) → step next head ≡ Some q → (q ≡ head) ⊎ (q ≡ head → ⊥) → is_seen (set before head true) q ≡ false
      fresh q e (inl is) = absurd (alone head (e ∙ ap Some is))
      fresh q e (inr other) = other_marked before head q other ∙ sym (closed head q e) ∙ free

  pub moved : (before a b : List Bool) (r s : List ℕ) (last : ℕ) → a ≡ b → r ≡ s → OnPath next before b s last → OnPath next before a r last
  moved before a b r s last e f h = subst (λ x. OnPath next before x r last) (sym e) (subst (λ y. OnPath next before b y last) (sym f) h)

  pub still : (before seen after : List Bool) (run : List ℕ) (last q p : ℕ) → OnPath next before seen run last → step next last ≡ Some q → after ≡ set seen q true → is_seen seen p ≡ true
      → is_seen after p ≡ true
  still before seen after run last q p h e is s =
      let w = within last q e in
      let z = h.size in
      ap (λ x. is_seen x p) is ∙ mark_kept seen q (omega (arith, w, z)) p s

  pub falls : (before seen after : List Bool) (run : List ℕ) (last q : ℕ) → OnPath next before seen run last → step next last ≡ Some q → after ≡ set seen q true → unseen after < unseen seen
  falls before seen after run last q h e is =
      let w = within last q e in
      let s = h.size in
      let m = unseen_marked seen q (omega (arith, w, s)) (h.fresh q e) in
      subst (λ x. unseen x < unseen seen) (sym is) m

  module _ (before seen : List Bool) (run : List ℕ) (last : ℕ) (h : OnPath next before seen run last) where
    pub go_on : (q : ℕ) → step next last ≡ Some q → OnPath next before (set seen q true) (run ++ q ∷ []) q
    go_on q e = record {
      size = length-set seen q true ∙ h.size;
      chain = chain_push next run q h.chain (ap (step next) h.ends ∙ e);
      ends = last_push run q;
      back = λ p r f s. back p r f (mark_was seen q inner r s);
      on = λ p r f s. on p r f (mark_was seen q inner p s);
      fresh = λ r f. fresh r f (either r q);
      own = mark_here seen q inner;
      marks = λ p.
          let m = mark_once seen q inner (h.fresh q e) p in
          let k = h.marks p in
          let l = times_push p run q in omega (arith, m, k, l);
    }
      where
        inner : q < length seen
        inner = let w = within last q e in let s = h.size in omega (arith, w, s)

        back : (p r : ℕ) → step next p ≡ Some r → (r ≡ q) ⊎ (is_seen seen r ≡ true) → is_seen (set seen q true) p ≡ true
        back p r f (inl is) = mark_kept seen q inner p (ap (is_seen seen) (one p last q (f ∙ ap Some is) e) ∙ h.own)
        back p r f (inr s) = mark_kept seen q inner p (h.back p r f s)

        still : (p r : ℕ) → step next p ≡ Some r → (p ≡ last) ⊎ (is_seen seen r ≡ true) → is_seen (set seen q true) r ≡ true
        still p r f (inl is) = ap (is_seen (set seen q true)) (some_same r q (sym f ∙ ap (step next) is ∙ e)) ∙ mark_here seen q inner
        still p r f (inr s) = mark_kept seen q inner r s

        on : (p r : ℕ) → step next p ≡ Some r → (p ≡ q) ⊎ (is_seen seen p ≡ true) → (p ≡ q) ⊎ (is_seen (set seen q true) r ≡ true)
        on p r f (inl is) = inl is
        on p r f (inr s) = inr (still p r f (h.on p r f s))

        fresh : (r : ℕ) → step next q ≡ Some r → (r ≡ q) ⊎ (r ≡ q → ⊥) → is_seen (set seen q true) r ≡ false
        fresh r f (inl is) = never (sym (ap (is_seen seen) (sym (one last q q e (f ∙ ap Some is))) ∙ h.own) ∙ h.fresh q e)
        fresh r f (inr other) = other_marked seen q r other ∙ not_true (is_seen seen r) (λ s. never (sym (h.back q r f s) ∙ h.fresh q e))

    pub stop : step next last ≡ None → IsClosed next seen
    stop e = λ p q f. by p q f (is_seen seen q) refl
      where
        neither : (p q : ℕ) → step next p ≡ Some q → is_seen seen q ≡ false → (p ≡ last) ⊎ (is_seen seen q ≡ true) → ⊥
        neither p q f s (inl is) = some_none q (step next p) f (ap (step next) is ∙ e)
        neither p q f s (inr t) = never (sym t ∙ s)

        by : (p q : ℕ) → step next p ≡ Some q → (b : Bool) → is_seen seen q ≡ b → is_seen seen p ≡ is_seen seen q
        by p q f true s = h.back p q f s ∙ sym s
        by p q f false s = not_true (is_seen seen p) (λ t. neither p q f s (h.on p q f t)) ∙ sym s
