-- A run that goes back from a point until it comes to it again.
use Rattle.std.proofs.Common.{◌≡◌, ◌∙◌, ℕ, ◌+◌, ◌<◌, arith, Bool, true, false, nat_eq, ◌⊎◌, inl, inr, List, [], ◌∷◌, ◌++◌, length, set}
use Rattle.std.proofs.Common.{length-set, Option, Some, None, is_some, if◌then◌else◌, refl, sym, ap, ap₂, subst}
use Rattle.std.proofs.lemmas.Bool.Decides.{nat_tests}
use Rattle.tsa_graph.specs.Runs.{step, bit, times}
use Rattle.tsa_graph.specs.Tracing.{is_seen, but, IsMarked, IsBack, end_of, IsRound}
use Rattle.tsa_graph.proofs.Lists.{times_push, other_marked, unseen, unseen_marked}
use Rattle.tsa_graph.proofs.Paths.{never, some_same, some_none, either, not_true, mark_here, mark_kept, mark_was, mark_once}

pub back_push : (back : List (Option ℕ)) (p : ℕ) (qs : List ℕ) (q : ℕ) → IsBack back p qs → step back (end_of p qs) ≡ Some q → IsBack back p (qs ++ q ∷ [])
back_push back p [] q h e = (e, tt)
back_push back p (r ∷ qs) q h e = (h.0, back_push back r qs q h.1 e)

pub end_push : (p : ℕ) (qs : List ℕ) (q : ℕ) → end_of p (qs ++ q ∷ []) ≡ q
end_push p [] q = refl
end_push p (r ∷ qs) q = end_push r qs q

-- the way so far, which goes on back from its last point
pub record OnRound (back : List (Option ℕ)) (before seen : List Bool) (rest : List ℕ) (head last : ℕ) : Type 0 where
  pub size : length seen ≡ length back
  pub way : IsBack back head rest
  pub ends : end_of head rest ≡ last
  pub on : (p q : ℕ) → step back q ≡ Some p → is_seen seen p ≡ true → (p ≡ head) ⊎ (is_seen seen q ≡ true)
  pub led : is_some (step back last) ≡ true
  pub fresh : (q : ℕ) → step back last ≡ Some q → (q ≡ head) ⊎ (is_seen seen q ≡ false)
  pub own : is_seen seen last ≡ true
  pub marks : IsMarked (head ∷ rest) before seen

unseen_before : (n : ℕ) (b c : Bool) → n + bit b ≡ bit c → c ≡ false → b ≡ false
unseen_before n false c e f = refl
unseen_before n true c e f = let g : n + 1 ≡ 0 = e ∙ ap bit f in let no : ⊥ = omega (arith, g) in absurd no

-- what `but` says
pub but_some : (o : Option ℕ) (head q : ℕ) → but o head ≡ Some q → (o ≡ Some q) × (q ≡ head → ⊥)
but_some None head q e = some_none q None e refl
but_some (Some p) head q e = by (nat_eq p head) refl e
  where
    by : (b : Bool) → nat_eq p head ≡ b → (if b then None else Some p) ≡ Some q → (Some p ≡ Some q) × (q ≡ head → ⊥)
    by true is f = some_none q None f refl
    by false is f = (f, λ x. let y : nat_eq p head ≡ true = (let z : p ≡ head = some_same p q f ∙ x in grind (arith, nat_tests, z)) in never (sym y ∙ is))

pub but_none : (o : Option ℕ) (head : ℕ) → is_some o ≡ true → but o head ≡ None → o ≡ Some head
but_none None head some e = never (sym some)
but_none (Some p) head some e = by (nat_eq p head) refl e
  where
    by : (b : Bool) → nat_eq p head ≡ b → (if b then None else Some p) ≡ None → Some p ≡ Some head
    by true is f = let z : p ≡ head = grind (arith, nat_tests, is) in ap Some z
    by false is f = some_none p (Some p) refl f

module _ (back : List (Option ℕ)) (one : (p q r : ℕ) → step back p ≡ Some r → step back q ≡ Some r → p ≡ q) (within : (p q : ℕ) → step back p ≡ Some q → q < length back) (before : List Bool) (head : ℕ) (led : (q : ℕ) → q < length back → is_seen before q ≡ false → is_some (step back q) ≡ true) where
  pub begin : length before ≡ length back → ((p q : ℕ) → step back q ≡ Some p → is_seen before p ≡ true → is_seen before q ≡ true) → head < length back → is_seen before head ≡ false
      → OnRound back before (set before head true) [] head head
  begin size closed inside free = record {
    size = length-set before head true ∙ size;
    way = tt;
    ends = refl;
    on = λ p q e s. on p q e (mark_was before head inner p s);
    led = led head inside free;
    fresh = λ q e. fresh q e (either q head);
    own = mark_here before head inner;
    marks = λ p. let z : bit (nat_eq p head) + 0 ≡ bit (nat_eq p head) = omega arith in ap (λ n. n + bit (is_seen before p)) z ∙ mark_once before head inner free p;
  }
    where
      inner : head < length before
      inner = omega (arith, size, inside)

      on : (p q : ℕ) → step back q ≡ Some p → (p ≡ head) ⊎ (is_seen before p ≡ true) → (p ≡ head) ⊎ (is_seen (set before head true) q ≡ true)
      on p q e (inl is) = inl is
      on p q e (inr s) = inr (mark_kept before head inner q (closed p q e s))

      fresh : (q : ℕ) → step back head ≡ Some q → (q ≡ head) ⊎ (q ≡ head → ⊥) → (q ≡ head) ⊎ (is_seen (set before head true) q ≡ false)
      fresh q e (inl is) = inl is
      fresh q e (inr other) = inr (other_marked before head q other ∙ not_true (is_seen before q) (λ s. never (sym (closed q head e s) ∙ free)))

  pub moved : (a b : List Bool) (r s : List ℕ) (last : ℕ) → a ≡ b → r ≡ s → OnRound back before b s head last → OnRound back before a r head last
  moved a b r s last e f h = subst (λ x. OnRound back before x r head last) (sym e) (subst (λ y. OnRound back before b y head last) (sym f) h)

  module _ (seen : List Bool) (rest : List ℕ) (last : ℕ) (h : OnRound back before seen rest head last) where
    free_there : (q : ℕ) → step back last ≡ Some q → (q ≡ head → ⊥) → (q ≡ head) ⊎ (is_seen seen q ≡ false) → is_seen seen q ≡ false
    free_there q e other (inl is) = absurd (other is)
    free_there q e other (inr free) = free

    pub go_back : (q : ℕ) → step back last ≡ Some q → (q ≡ head → ⊥) → OnRound back before (set seen q true) (rest ++ q ∷ []) head q
    go_back q e apart = record {
      size = length-set seen q true ∙ h.size;
      way = back_push back head rest q h.way (ap (step back) h.ends ∙ e);
      ends = end_push head rest q;
      on = λ p r f s. on p r f (mark_was seen q inner p s);
      led = led q (within last q e) (unseen_before (times q (head ∷ rest)) (is_seen before q) (is_seen seen q) (h.marks q) free);
      fresh = λ r f. fresh r f (either r head) (either r q);
      own = mark_here seen q inner;
      marks = λ p.
          let m = mark_once seen q inner free p in
          let k = h.marks p in
          let l = times_push p rest q in omega (arith, m, k, l);
    }
      where
        free : is_seen seen q ≡ false
        free = free_there q e apart (h.fresh q e)

        inner : q < length seen
        inner = let w = within last q e in let s = h.size in omega (arith, w, s)

        still : (p r : ℕ) → step back r ≡ Some p → (p ≡ head) ⊎ (is_seen seen r ≡ true) → (p ≡ head) ⊎ (is_seen (set seen q true) r ≡ true)
        still p r f (inl is) = inl is
        still p r f (inr s) = inr (mark_kept seen q inner r s)

        on : (p r : ℕ) → step back r ≡ Some p → (p ≡ q) ⊎ (is_seen seen p ≡ true) → (p ≡ head) ⊎ (is_seen (set seen q true) r ≡ true)
        on p r f (inl is) = inr (mark_kept seen q inner r (ap (is_seen seen) (one r last q (f ∙ ap Some is) e) ∙ h.own))
        on p r f (inr s) = still p r f (h.on p r f s)

        seen_not : (r : ℕ) → step back q ≡ Some r → (r ≡ head → ⊥) → (r ≡ head) ⊎ (is_seen seen q ≡ true) → ⊥
        seen_not r f other (inl is) = other is
        seen_not r f other (inr s) = never (sym s ∙ free)

        fresh : (r : ℕ) → step back q ≡ Some r → (r ≡ head) ⊎ (r ≡ head → ⊥) → (r ≡ q) ⊎ (r ≡ q → ⊥) → (r ≡ head) ⊎ (is_seen (set seen q true) r ≡ false)
        fresh r f (inl is) d = inl is
        fresh r f (inr other) (inl is) = never (sym (ap (is_seen seen) (one q last q (f ∙ ap Some is) e) ∙ h.own) ∙ free)
        fresh r f (inr other) (inr apart) = inr (other_marked seen q r apart ∙ not_true (is_seen seen r) (λ s. seen_not r f other (h.on r q f s)))

    pub falls : (after : List Bool) (q : ℕ) → step back last ≡ Some q → (q ≡ head → ⊥) → after ≡ set seen q true → unseen after < unseen seen
    falls after q e apart is =
        let w = within last q e in
        let s = h.size in
        let m = unseen_marked seen q (omega (arith, w, s)) (free_there q e apart (h.fresh q e)) in
        subst (λ x. unseen x < unseen seen) (sym is) m

    pub stop : step back last ≡ Some head → IsRound back head rest × ((p q : ℕ) → step back q ≡ Some p → is_seen seen p ≡ true → is_seen seen q ≡ true)
    stop e = ((h.way, ap (step back) h.ends ∙ e), λ p q f s. by p q f (h.on p q f s))
      where
        by : (p q : ℕ) → step back q ≡ Some p → (p ≡ head) ⊎ (is_seen seen q ≡ true) → is_seen seen q ≡ true
        by p q f (inl is) = ap (is_seen seen) (one q last head (f ∙ ap Some is) e) ∙ h.own
        by p q f (inr s) = s
