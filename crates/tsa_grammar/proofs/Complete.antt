-- What is spelled up to where it ends is read, and a reader goes as far as anything that is spelled.
use Rattle.std.proofs.Common.{ℕ, ◌<◌, ◌≤◌, ◌≡◌, ◌∙◌, sym, subst, refl, Bool, true, false, None, Ok, Err, arith, inl, inr}
use Rattle.std.proofs.lemmas.Bool.{cases_lt}
use Rattle.tsa_grammar.specs.Form.{Form, part, either}
use Rattle.tsa_grammar.specs.Spelling.{Spells, by_rule, Goes, goes_done, goes_token, goes_part, goes_bar, goes_limit, goes_only, goes_left}
use Rattle.tsa_grammar.specs.Spelling.{goes_right, Begins, begins_rule, Starts, starts_here, starts_bar, starts_token, starts_in}
use Rattle.tsa_grammar.specs.Spelling.{starts_over, starts_limit, starts_only, starts_left, starts_right}
use Rattle.tsa_grammar.specs.Reading.{Outcome, stop, then, choose, follow}
use Rattle.tsa_grammar.proofs.Good.{Next, Barren, Good}
use Rattle.tsa_grammar.proofs.Cases.{chosen, other, goes, on_choose, on_then}
use Rattle.tsa_grammar.proofs.Runs.{Right, RightOf, right_follow}

module _ {S : Type 0} {C N : S → Type 0} {K : Type 0} (sees : K → ℕ → Bool) (fits : ℕ → Bool)
    (rule : (s : S) → C s → ℕ → Form S C N K s)
    (First : (s : S) → C s → ℕ → Type 0) (Ends : (s : S) → C s → N s → ℕ → Type 0)
    (Moves : (s : S) → C s → ℕ → Type 0) (rank : (s : S) → C s → ℕ) (size : ℕ)
    (inside : (t : K) (a : ℕ) → sees t a ≡ true → a < size)
    (firsts : (s : S) (c : C s) (a : ℕ) → Next sees First Ends Moves rank s (λ x b. Unit {0}) (rule s c a) a → First s c a)
    (good : (s : S) (c : C s) (a : ℕ) → Good sees First Ends Moves rank s c true (rule s c a) a)
    (go : (u : S) → C u → ℕ → Outcome (N u))
    (right : (u : S) (d : C u) (i : ℕ) → Right sees fits rule First Ends Moves rank size u d i (go u d i))
    (steps : (s : S) (c : C s) (a : ℕ) → go s c a ≡ follow sees fits go s (rule s c a) a) where
  mutual
    -- What is spelled stands at a place where its part may begin.
    pub first : {s : S} {c : C s} {x : N s} {a b : ℕ} → Spells rule sees fits s c x a b → First s c a
    first {s = s} {c = c} {a = a} (by_rule g) = firsts s c a (first_of g)

    first_of : {s : S} {f : Form S C N K s} {x : N s} {a b : ℕ} → Goes rule sees fits s f x a b
        → Next sees First Ends Moves rank s (λ x b. Unit {0}) f a
    first_of goes_done = tt
    first_of (goes_token e g) = e
    first_of (goes_part sp g) = first sp
    first_of (goes_bar g) = inr (first_of g)
    first_of (goes_limit e g) = first_of g
    first_of (goes_only e g) = (e, first_of g)
    first_of (goes_left g) = inl (first_of g)
    first_of (goes_right g) = inr (first_of g)

  -- What goes on from a place, goes on as the form says.
  pub next : {s : S} {f : Form S C N K s} {x : N s} {a b : ℕ} (E : N s → ℕ → Type 0) → Goes rule sees fits s f x a b → (a ≡ b → E x b)
      → Next sees First Ends Moves rank s E f a
  next E goes_done h = h refl
  next E (goes_token e g) h = e
  next E (goes_part sp g) h = first sp
  next E (goes_bar g) h = inr (next E g h)
  next E (goes_limit e g) h = next E g h
  next E (goes_only e g) h = (e, next E g h)
  next E (goes_left g) h = inl (next E g h)
  next E (goes_right g) h = inr (next E g h)

  -- Nothing is spelled where a form cannot become whole.
  pub barren : {s : S} {f : Form S C N K s} {x : N s} {a b : ℕ} → Goes rule sees fits s f x a b → Barren sees First Ends Moves rank s f a
      → ⊥
  barren goes_done h = h
  barren {a = a} (goes_token {t = t} e g) h = elim h [ inl n ↦ (let never : true ≡ false = sym e ∙ n in cc) | inr r ↦ barren g r ]
  barren (goes_part sp g) h = h (first sp)
  barren (goes_bar g) h = barren g h
  barren (goes_limit e g) h = barren g h
  barren (goes_only e g) h = elim h [ inl n ↦ (let never : true ≡ false = sym e ∙ n in cc) | inr r ↦ barren g r ]
  barren (goes_left g) h = barren g h.0
  barren (goes_right g) h = barren g h.1

  unbarred : {s : S} {f : Form S C N K s} {x : N s} {a b : ℕ} (p : Bool) → Goes rule sees fits s f x a b
      → (p ≡ true → Barren sees First Ends Moves rank s f a) → p ≡ false
  unbarred true g h = absurd (barren g (h refl))
  unbarred false g h = refl

  mutual
    -- What is spelled up to where it ends is read.
    pub complete : {s : S} {c : C s} {x : N s} {a b : ℕ} → Spells rule sees fits s c x a b → Ends s c x b → go s c a ≡ Ok (x, b)
    complete {s = s} {c = c} {a = a} (by_rule g) e = steps s c a ∙ complete_goes c true g (good s c a) e

    complete_goes : {s : S} {f : Form S C N K s} {x : N s} {a b : ℕ} (c : C s) (w : Bool) → Goes rule sees fits s f x a b
        → Good sees First Ends Moves rank s c w f a → Ends s c x b → follow sees fits go s f a ≡ Ok (x, b)
    complete_goes c w goes_done g e = refl
    complete_goes {a = a} c w (goes_token {t = t} q h) g e = chosen (sees t a) _ _ q ∙ complete_goes c false h (g q) e
    complete_goes {s = s} {b = b} c w (goes_part {y = y} {m = m} sp h) g e =
        let ends = (g.1 y m).0 (next (Ends s c) h (λ q. e)) in
        goes _ _ y m (complete sp ends) ∙ complete_goes c false h ((g.1 y m).1 ends) e
    complete_goes c w (goes_bar {p = p} h) g e = let q = unbarred p h g.0 in other p _ _ q ∙ complete_goes c w h (g.1 q) e
    complete_goes c w (goes_limit {n = n} q h) g e = chosen (fits n) _ _ q ∙ complete_goes c w h g.1 e
    complete_goes c w (goes_only q h) g e = complete_goes c w h g.1 e
    complete_goes {s = s} c w (goes_left {p = p} h) g e =
        let q = g.0 (next (Ends s c) h (λ z. e)) in chosen p _ _ q ∙ complete_goes c w h (g.2 q) e
    complete_goes {s = s} c w (goes_right {p = p} h) g e =
        let q = g.1 (next (Ends s c) h (λ z. e)) in other p _ _ q ∙ complete_goes c w h (g.3 q) e

  -- A reader of a form stops at the place where it begins, or after it.
  pub forward : (s : S) (c : C s) (w : Bool) (f : Form S C N K s) (a : ℕ) → Good sees First Ends Moves rank s c w f a
      → a ≤ stop (follow sees fits go s f a)
  forward s c w f a g =
      at w (follow sees fits go s f a) (right_follow sees fits rule First Ends Moves rank size inside go right s c w f a g)
    where
      at : (w : Bool) (r : Outcome (N s)) → RightOf sees fits rule First Ends Moves rank size s c w f a r → a ≤ stop r
      at true (Ok p) h = omega (arith, h.0)
      at false (Ok p) h = h.0
      at w (Err e) h = h.0

  -- Reading the rest of a form does not go back after the part that was read.
  pub rest : (s u : S) (c : C s) (d : C u) (k : N u → ℕ → Form S C N K s) (w : Bool) (a b : ℕ)
      → Good sees First Ends Moves rank s c w (part u d k) a → b ≤ stop (go u d a)
      → b ≤ stop (then (go u d a) (λ y m. follow sees fits go s (k y m) m))
  rest s u c d k w a b g h =
      on_then (λ r. b ≤ stop r) (go u d a) _
      (λ y m e. let ok = subst (Right sees fits rule First Ends Moves rank size u d a) e (right u d a) in
      omega (arith, subst (λ r. b ≤ stop r) e h, forward s c false (k y m) m ((g.1 y m).1 ok.3)))
      (λ x e. subst (λ r. b ≤ stop r) e h)

  mutual
    -- What is spelled ends where it begins, or after that place.
    pub ahead : {s : S} {c : C s} {x : N s} {a b : ℕ} → Spells rule sees fits s c x a b → a ≤ b
    ahead (by_rule g) = ahead_goes g

    ahead_goes : {s : S} {f : Form S C N K s} {x : N s} {a b : ℕ} → Goes rule sees fits s f x a b → a ≤ b
    ahead_goes goes_done = omega arith
    ahead_goes (goes_token q h) = omega (arith, ahead_goes h)
    ahead_goes (goes_part sp h) = omega (arith, ahead sp, ahead_goes h)
    ahead_goes (goes_bar h) = ahead_goes h
    ahead_goes (goes_limit q h) = ahead_goes h
    ahead_goes (goes_only q h) = ahead_goes h
    ahead_goes (goes_left h) = ahead_goes h
    ahead_goes (goes_right h) = ahead_goes h

  reach_part : {s u : S} {x : N s} {a b : ℕ} (c : C s) (d : C u) (k : N u → ℕ → Form S C N K s) (w : Bool) (y : N u) (m : ℕ)
      → Spells rule sees fits u d y a m → Goes rule sees fits s (k y m) x m b
      → Good sees First Ends Moves rank s c w (part u d k) a → (Ends u d y m → b ≤ stop (follow sees fits go s (k y m) m))
      → m ≤ stop (go u d a) → b ≤ stop (then (go u d a) (λ y m. follow sees fits go s (k y m) m))
  reach_part {s = s} {u = u} {a = a} {b = b} c d k w y m sp h g ih ih' =
      elim (cases_lt m b) [
        | inl lt ↦ (let ends = (g.1 y m).0 (next (Ends s c) h (λ z. absurd (omega arith))) in
            subst (λ r. b ≤ stop r) (sym (goes _ _ y m (complete sp ends))) (ih ends))
        | inr le ↦ rest s u c d k w a b g (omega arith)
      ]

  reach_left : {s : S} {x : N s} {a b : ℕ} (c : C s) (w : Bool) (p : Bool) (f f' : Form S C N K s) → Goes rule sees fits s f x a b
      → Good sees First Ends Moves rank s c w (either p f f') a
      → (p ≡ true → b ≤ stop (follow sees fits go s f a)) → b ≤ stop (choose p (follow sees fits go s f a) (follow sees fits go s f' a))
  reach_left {s = s} {a = a} {b = b} c w p f f' h g ih =
      on_choose (λ r. b ≤ stop r) p _ _ ih
      (λ q. elim (cases_lt a b) [
        | inl lt ↦ (let q' = g.0 (next (Ends s c) h (λ z. absurd (omega arith))) in let never : true ≡ false = sym q' ∙ q in absurd cc)
        | inr le ↦ omega (arith, le, forward s c w f' a (g.3 q))
      ])

  reach_right : {s : S} {x : N s} {a b : ℕ} (c : C s) (w : Bool) (p : Bool) (f f' : Form S C N K s) → Goes rule sees fits s f' x a b
      → Good sees First Ends Moves rank s c w (either p f f') a
      → (p ≡ false → b ≤ stop (follow sees fits go s f' a)) → b ≤ stop (choose p (follow sees fits go s f a) (follow sees fits go s f' a))
  reach_right {s = s} {a = a} {b = b} c w p f f' h g ih =
      on_choose (λ r. b ≤ stop r) p _ _
      (λ q. elim (cases_lt a b) [
        | inl lt ↦ (let q' = g.1 (next (Ends s c) h (λ z. absurd (omega arith))) in let never : true ≡ false = sym q ∙ q' in absurd cc)
        | inr le ↦ omega (arith, le, forward s c w f a (g.2 q))
      ])
      ih

  mutual
    -- A reader stops after everything that is spelled.
    pub reach_spells : {s : S} {c : C s} {x : N s} {a b : ℕ} → Spells rule sees fits s c x a b → b ≤ stop (go s c a)
    reach_spells {s = s} {c = c} {a = a} {b = b} (by_rule g) =
        subst (λ r. b ≤ stop r) (sym (steps s c a)) (reach_goes c true g (good s c a))

    reach_goes : {s : S} {f : Form S C N K s} {x : N s} {a b : ℕ} (c : C s) (w : Bool) → Goes rule sees fits s f x a b
        → Good sees First Ends Moves rank s c w f a → b ≤ stop (follow sees fits go s f a)
    reach_goes c w goes_done g = omega arith
    reach_goes {a = a} {b = b} c w (goes_token {t = t} q h) g =
        subst (λ r. b ≤ stop r) (sym (chosen (sees t a) _ _ q)) (reach_goes c false h (g q))
    reach_goes {s = s} {a = a} {b = b} c w (goes_part {u = u} {c = d} {k = k} {y = y} {m = m} sp h) g =
        reach_part c d k w y m sp h g (λ ends. reach_goes c false h ((g.1 y m).1 ends)) (reach_spells sp)
    reach_goes {b = b} c w (goes_bar {p = p} h) g =
        let q = unbarred p h g.0 in subst (λ r. b ≤ stop r) (sym (other p _ _ q)) (reach_goes c w h (g.1 q))
    reach_goes {b = b} c w (goes_limit {n = n} q h) g = subst (λ r. b ≤ stop r) (sym (chosen (fits n) _ _ q)) (reach_goes c w h g.1)
    reach_goes c w (goes_only q h) g = reach_goes c w h g.1
    reach_goes {s = s} {a = a} {b = b} c w (goes_left {p = p} {f = f} {g = f'} h) g =
        reach_left c w p f f' h g (λ q. reach_goes c w h (g.2 q))
    reach_goes {s = s} {a = a} {b = b} c w (goes_right {p = p} {f = f} {g = f'} h) g =
        reach_right c w p f f' h g (λ q. reach_goes c w h (g.3 q))

  -- A whole part begins itself.
  mutual
    pub begins_whole : {s : S} {c : C s} {x : N s} {a b : ℕ} → Spells rule sees fits s c x a b → Begins rule sees fits s c a b None
    begins_whole (by_rule g) = begins_rule (starts_whole g)

    starts_whole : {s : S} {f : Form S C N K s} {x : N s} {a b : ℕ} → Goes rule sees fits s f x a b → Starts rule sees fits s f a b None
    starts_whole goes_done = starts_here
    starts_whole (goes_token q h) = starts_token q (starts_whole h)
    starts_whole (goes_part sp h) = starts_over sp (starts_whole h)
    starts_whole (goes_bar h) = starts_bar (starts_whole h)
    starts_whole (goes_limit q h) = starts_limit q (starts_whole h)
    starts_whole (goes_only q h) = starts_only q (starts_whole h)
    starts_whole (goes_left h) = starts_left (starts_whole h)
    starts_whole (goes_right h) = starts_right (starts_whole h)

  -- Every first piece of what is spelled begins the part.
  mutual
    pub begins_piece : {s : S} {c : C s} {x : N s} {a b : ℕ} (i : ℕ) → a ≤ i → i ≤ b → Spells rule sees fits s c x a b
        → Begins rule sees fits s c a i None
    begins_piece i le le' (by_rule g) = begins_rule (starts_piece i le le' g)

    starts_piece : {s : S} {f : Form S C N K s} {x : N s} {a b : ℕ} (i : ℕ) → a ≤ i → i ≤ b → Goes rule sees fits s f x a b
        → Starts rule sees fits s f a i None
    starts_piece {s = s} {f = f} {a = a} i le le' goes_done =
        subst (λ n. Starts rule sees fits s f a n None) (let e : a ≡ i = omega arith in e) starts_here
    starts_piece {s = s} {f = f} {a = a} i le le' (goes_token q h) =
        elim (cases_lt a i) [
          | inl lt ↦ starts_token q (starts_piece i (omega arith) le' h)
          | inr ge ↦ subst (λ n. Starts rule sees fits s f a n None) (let e : a ≡ i = omega arith in e) starts_here
        ]
    starts_piece i le le' (goes_part {m = m} sp h) =
        elim (cases_lt m i) [ inl lt ↦ starts_over sp (starts_piece i (omega arith) le' h) | inr ge ↦ starts_in (begins_piece i le ge sp) ]
    starts_piece i le le' (goes_bar h) = starts_bar (starts_piece i le le' h)
    starts_piece i le le' (goes_limit q h) = starts_limit q (starts_piece i le le' h)
    starts_piece i le le' (goes_only q h) = starts_only q (starts_piece i le le' h)
    starts_piece i le le' (goes_left h) = starts_left (starts_piece i le le' h)
    starts_piece i le le' (goes_right h) = starts_right (starts_piece i le le' h)
