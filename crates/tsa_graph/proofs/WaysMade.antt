-- The ways on and the ways back are the same steps.
use Rattle.std.proofs.Common.{◌≡◌, ◌∙◌, ℕ, zero, suc, ◌<◌, arith, Bool, true, false, nat_eq, ◌⊎◌, inl, inr, List, [], ◌∷◌, map, length}
use Rattle.std.proofs.Common.{get_or, Option, Some, None, if◌then◌else◌, refl, sym, ap, subst}
use Rattle.std.proofs.lemmas.Bool.Decides.{nat_tests}
use Rattle.tsa_core.specs.Control.{Edge, edge}
use Rattle.tsa_graph_edges.specs.Links.{outcome_of}
use Rattle.tsa_graph.specs.declared.entries.Edge as code
use Rattle.tsa_graph.specs.declared.arcs.Exit.{Exit}
use Rattle.tsa_graph.specs.declared.arcs.Exit.TheVariants.{Nowhere, To, Many}
use Rattle.tsa_graph.specs.Arcs.{exit_of, entry_of, AreArcs, to_one, next_by, next_in, back_by, from_one, back_in}
use Rattle.tsa_graph.specs.Edges.{edges_from, edges_into, IsStep}
use Rattle.tsa_graph.specs.Runs.{step, AreWays}
use Rattle.tsa_graph.proofs.Paths.{never, some_same, some_none, not_true}

pub equal : (p q : ℕ) → p ≡ q → nat_eq p q ≡ true
equal p q e = grind (arith, nat_tests, e)

same : (p q : ℕ) → nat_eq p q ≡ true → p ≡ q
same p q e = grind (arith, nat_tests, e)

nowhere_to : {A : Type 0} (q : ℕ) → Nowhere ≡ To q → A
nowhere_to q e = absurd (by e)
  where
    by : Nowhere ≡ To q → ⊥
    by x = cc

many_to : {A : Type 0} (q : ℕ) → Many ≡ To q → A
many_to q e = absurd (by e)
  where
    by : Many ≡ To q → ⊥
    by x = cc

to_same : (p q : ℕ) → To p ≡ To q → p ≡ q
to_same p q e = cc

none_some : {A : Type 0} (q : ℕ) → None ≡ Some q → A
none_some q e = some_none q None e refl

-- what stands at a number is in the list
pub way_inside : (xs : List (Option ℕ)) (p q : ℕ) → get_or xs p None ≡ Some q → p < length xs
way_inside [] p q e = none_some q e
way_inside (x ∷ xs) zero q e = omega arith
way_inside (x ∷ xs) (suc p) q e = let h = way_inside xs p q e in omega (arith, h)

exit_inside : (xs : List Exit) (p q : ℕ) → get_or xs p Nowhere ≡ To q → p < length xs
exit_inside [] p q e = nowhere_to q e
exit_inside (x ∷ xs) zero q e = omega arith
exit_inside (x ∷ xs) (suc p) q e = let h = exit_inside xs p q e in omega (arith, h)

list_inside : (xs : List (List code.Edge)) (p : ℕ) (c : code.Edge) → get_or xs p [] ≡ c ∷ [] → p < length xs
list_inside [] p c e = absurd (by e)
  where
    by : [] ≡ c ∷ [] → ⊥
    by x = cc
list_inside (x ∷ xs) zero c e = omega arith
list_inside (x ∷ xs) (suc p) c e = let h = list_inside xs p c e in omega (arith, h)

-- an edge among others
abbrev Among : Edge → List Edge → Type 0
Among e [] = ⊥
Among e (x ∷ xs) = (e ≡ x) ⊎ Among e xs

alone : (e x : Edge) → Among e (x ∷ []) → e ≡ x
alone e x (inl is) = is
alone e x (inr other) = absurd other

-- one more before it, which may be left out
kept_among : (b : Bool) (x e : Edge) (xs : List Edge) → Among e xs → Among e (if b then x ∷ xs else xs)
kept_among true x e xs h = inr h
kept_among false x e xs h = h

back_among : (b : Bool) (x e : Edge) (es xs : List Edge) → (Among e xs → Among e es) → Among e (if b then x ∷ xs else xs) → Among e (x ∷ es)
back_among true x e es xs f (inl is) = inl is
back_among true x e es xs f (inr h) = inr (f h)
back_among false x e es xs f h = inr (f h)

own_from : (b : Bool) (x e : Edge) (p : ℕ) (xs : List Edge) → nat_eq x.from p ≡ b → (Among e xs → e.from ≡ p) → Among e (if b then x ∷ xs else xs) → e.from ≡ p
own_from true x e p xs t f (inl is) = ap (λ y. y.from) is ∙ same x.from p t
own_from true x e p xs t f (inr h) = f h
own_from false x e p xs t f h = f h

from_among : (es : List Edge) (p : ℕ) (e : Edge) → Among e (edges_from p es) → Among e es
from_among [] p e h = h
from_among (x ∷ es) p e h = back_among (nat_eq x.from p) x e es (edges_from p es) (λ k. from_among es p e k) h

from_source : (es : List Edge) (p : ℕ) (e : Edge) → Among e (edges_from p es) → e.from ≡ p
from_source [] p e h = absurd h
from_source (x ∷ es) p e h = own_from (nat_eq x.from p) x e p (edges_from p es) refl (λ k. from_source es p e k) h

into_among : (es : List Edge) (e : Edge) → Among e es → Among e (edges_into e.to es)
into_among [] e h = h
into_among (x ∷ es) e (inl is) =
    let t : nat_eq x.to e.to ≡ true = equal x.to e.to (ap (λ y. y.to) (sym is)) in
    subst (λ b. Among e (if b then x ∷ edges_into e.to es else edges_into e.to es)) (sym t) (inl is)
into_among (x ∷ es) e (inr h) = kept_among (nat_eq x.to e.to) x e (edges_into e.to es) (into_among es e h)

from_back : (es : List Edge) (e : Edge) → Among e es → Among e (edges_from e.from es)
from_back [] e h = h
from_back (x ∷ es) e (inl is) =
    let t : nat_eq x.from e.from ≡ true = equal x.from e.from (ap (λ y. y.from) (sym is)) in
    subst (λ b. Among e (if b then x ∷ edges_from e.from es else edges_from e.from es)) (sym t) (inl is)
from_back (x ∷ es) e (inr h) = kept_among (nat_eq x.from e.from) x e (edges_from e.from es) (from_back es e h)

into_back : (es : List Edge) (q : ℕ) (e : Edge) → Among e (edges_into q es) → Among e es
into_back [] q e h = h
into_back (x ∷ es) q e h = back_among (nat_eq x.to q) x e es (edges_into q es) (λ k. into_back es q e k) h

-- what a test says
record ToOne (xs : List code.Edge) (m q : ℕ) : Type 0 where
  c : code.Edge
  listed : xs ≡ c ∷ []
  there : m ≡ q
  inside : q ≡ 0 → ⊥

one_to : (xs : List code.Edge) (m q : ℕ) → to_one xs m ≡ Some q → ToOne xs m q
one_to [] m q e = none_some q e
one_to (c ∷ []) m q e = by (nat_eq m 0) refl e
  where
    by : (b : Bool) → nat_eq m 0 ≡ b → (if b then None else Some m) ≡ Some q → ToOne (c ∷ []) m q
    by true t f = none_some q f
    by false t f = let is = some_same m q f in record { c = c; listed = refl; there = is; inside = λ z. never (sym (equal m 0 (is ∙ z)) ∙ t) }
one_to (c ∷ d ∷ cs) m q e = none_some q e

record Exits (xs : List Edge) (q : ℕ) : Type 0 where
  e : Edge
  listed : xs ≡ e ∷ []
  there : e.to ≡ q

exit_to : (xs : List Edge) (q : ℕ) → exit_of xs ≡ To q → Exits xs q
exit_to [] q h = nowhere_to q h
exit_to (e ∷ []) q h = record { e = e; listed = refl; there = to_same e.to q h }
exit_to (e ∷ f ∷ es) q h = many_to q h

module _ (n : ℕ) (es : List Edge) (outs : List Exit) (ins : List (List code.Edge)) (h : AreArcs n es outs ins) where
  -- a point that leads to another alone, as it is kept
  pub record Led (p q : ℕ) : Type 0 where
    pub c : code.Edge
    pub at : get_or outs p Nowhere ≡ To q
    pub listed : get_or ins q [] ≡ c ∷ []
    pub inside : q ≡ 0 → ⊥

  pub led_next : (p q : ℕ) → next_in outs ins p ≡ Some q → Led p q
  led_next p q e = by (get_or outs p Nowhere) refl e
    where
      made : (m : ℕ) → get_or outs p Nowhere ≡ To m → ToOne (get_or ins m []) m q → Led p q
      made m at o = record { c = o.c; at = at ∙ ap To o.there; listed = ap (λ k. get_or ins k []) (sym o.there) ∙ o.listed; inside = o.inside }

      by : (x : Exit) → get_or outs p Nowhere ≡ x → next_by ins x ≡ Some q → Led p q
      by Nowhere at f = none_some q f
      by (To m) at f = made m at (one_to (get_or ins m []) m q f)
      by Many at f = none_some q f

  module _ (p q : ℕ) (l : Led p q) where
    p_below : p < n
    p_below = let a = exit_inside outs p q l.at in let b = h.outs_size in omega (arith, a, b)

    q_below : q < n
    q_below = let a = list_inside ins q l.c l.listed in let b = h.ins_size in omega (arith, a, b)

    own : Exits (edges_from p es) q
    own = exit_to (edges_from p es) q (sym (h.exits p p_below) ∙ l.at)

    into : edges_into q es ≡ entry_of q l.c ∷ []
    into = sym (h.entries q q_below) ∙ ap (map (entry_of q)) l.listed

    stands : Among own.e (edges_from p es)
    stands = subst (Among own.e) (sym own.listed) (inl refl)

    matched : own.e ≡ entry_of q l.c
    matched = alone own.e (entry_of q l.c) (subst (Among own.e) (ap (λ k. edges_into k es) own.there ∙ into) (into_among es own.e (from_among es p own.e stands)))

    source : l.c.from ≡ p
    source = ap (λ y. y.from) (sym matched) ∙ from_source es p own.e stands

    pub led_step : IsStep es p (outcome_of l.c.outcome) q
    led_step = record {
      out = own.listed ∙ ap (λ e. e ∷ []) (matched ∙ ap (λ k. edge k (outcome_of l.c.outcome) q) source);
      into = into ∙ ap (λ k. edge k (outcome_of l.c.outcome) q ∷ []) source;
      inside = l.inside;
    }

    led_back : back_in outs ins q ≡ Some p
    led_back =
        ap (λ b. if b then None else from_one outs (get_or ins q [])) (not_true (nat_eq q 0) (λ e. l.inside (same q 0 e)))
        ∙ ap (from_one outs) l.listed ∙ ap (λ k. back_by (get_or outs k Nowhere) k) source ∙ ap (λ x. back_by x p) l.at

    next_led : next_in outs ins p ≡ Some q
    next_led =
        ap (next_by ins) l.at ∙ ap (λ xs. to_one xs q) l.listed ∙ ap (λ b. if b then None else Some q) (not_true (nat_eq q 0) (λ e. l.inside (same q 0 e)))

  -- the same from the other end
  record FromOne (xs : List code.Edge) (p : ℕ) : Type 0 where
    c : code.Edge
    m : ℕ
    listed : xs ≡ c ∷ []
    at : get_or outs c.from Nowhere ≡ To m
    there : c.from ≡ p

  one_from : (xs : List code.Edge) (p : ℕ) → from_one outs xs ≡ Some p → FromOne xs p
  one_from [] p e = none_some p e
  one_from (c ∷ []) p e = by (get_or outs c.from Nowhere) refl e
    where
      by : (x : Exit) → get_or outs c.from Nowhere ≡ x → back_by x c.from ≡ Some p → FromOne (c ∷ []) p
      by Nowhere at f = none_some p f
      by (To m) at f = record { c = c; m = m; listed = refl; at = at; there = some_same c.from p f }
      by Many at f = none_some p f
  one_from (c ∷ d ∷ cs) p e = none_some p e

  led_made : (p q : ℕ) → nat_eq q 0 ≡ false → FromOne (get_or ins q []) p → Led p q
  led_made p q t f =
      let c = f.c in
      let y = entry_of q c in
      let a = list_inside ins q c f.listed in
      let b = h.ins_size in
      let below : q < n = omega (arith, a, b) in
      let a' = exit_inside outs c.from f.m f.at in
      let b' = h.outs_size in
      let from_below : c.from < n = omega (arith, a', b') in
      let into : edges_into q es ≡ y ∷ [] = sym (h.entries q below) ∙ ap (map (entry_of q)) f.listed in
      let stands : Among y es = into_back es q y (subst (Among y) (sym into) (inl refl)) in
      let x = exit_to (edges_from c.from es) f.m (sym (h.exits c.from from_below) ∙ f.at) in
      let is : y ≡ x.e = alone y x.e (subst (Among y) x.listed (from_back es y stands)) in
      record {
        c = c;
        at = ap (λ k. get_or outs k Nowhere) (sym f.there) ∙ f.at ∙ ap To (sym (ap (λ e. e.to) is ∙ x.there));
        listed = f.listed;
        inside = λ z. never (sym (equal q 0 z) ∙ t);
      }

  led_from : (p q : ℕ) → back_in outs ins q ≡ Some p → Led p q
  led_from p q e = by (nat_eq q 0) refl e
    where
      by : (b : Bool) → nat_eq q 0 ≡ b → (if b then None else from_one outs (get_or ins q [])) ≡ Some p → Led p q
      by true t f = none_some p f
      by false t f = led_made p q t (one_from (get_or ins q []) p f)

  module _ (next back : List (Option ℕ)) (next_size : length next ≡ n) (back_size : length back ≡ n) (nexts : (p : ℕ) → p < n → get_or next p None ≡ next_in outs ins p)
      (backs : (q : ℕ) → q < n → get_or back q None ≡ back_in outs ins q) where
    pub led : (p q : ℕ) → step next p ≡ Some q → Led p q
    led p q e =
        let a = way_inside next p q e in
        let b = next_size in
        led_next p q (sym (nexts p (omega (arith, a, b))) ∙ e)

    led_too : (p q : ℕ) → step back q ≡ Some p → Led p q
    led_too p q e =
        let a = way_inside back q p e in
        let b = back_size in
        led_from p q (sym (backs q (omega (arith, a, b))) ∙ e)

    pub are_ways : AreWays next back
    are_ways = record {
      size = back_size ∙ sym next_size;
      on = λ p q e. let l = led p q e in backs q (q_below p q l) ∙ led_back p q l;
      from = λ p q e. let l = led_too p q e in nexts p (p_below p q l) ∙ next_led p q l;
      within = λ p q e. let a = q_below p q (led p q e) in let b = next_size in omega (arith, a, b);
      inside = λ p q e. let a = way_inside next p q e in a;
    }
