-- A reader goes as far as anything that begins its part, and stops at the first bar.
use Rattle.std.proofs.Common.{ℕ, ◌<◌, ◌≤◌, ◌≡◌, ◌∙◌, sym, subst, refl, Bool, true, false, Option, Some, None, Ok, Err, arith, ◌⊎◌, inl, inr}
use Rattle.std.proofs.lemmas.Bool.{cases_lt}
use Rattle.tsa_grammar.specs.Form.{Form, part, either}
use Rattle.tsa_grammar.specs.Spelling.{Spells, Begins, begins_rule, Starts, starts_here, starts_barred, starts_bar, starts_token, starts_in}
use Rattle.tsa_grammar.specs.Spelling.{starts_over, starts_limit, starts_only, starts_left, starts_right}
use Rattle.tsa_grammar.specs.Reading.{Code, syntax, deep, barred, refuse, Outcome, stop, then, choose, follow}
use Rattle.tsa_grammar.proofs.Good.{Next, IsToken, Good}
use Rattle.tsa_grammar.proofs.Cases.{chosen, goes, on_choose}
use Rattle.tsa_grammar.proofs.Complete.{first, complete, forward, rest, ahead, reach_spells}
use Rattle.tsa_grammar.proofs.Runs.{Right}

-- A refusal with this code at i is at b or after it, or it is a bar's.
abbrev pub Far : ℕ → Code → ℕ → Type 0
Far b (barred q) i = Unit {0}
Far b syntax i = b ≤ i
Far b deep i = b ≤ i

-- Where the bar of number q stands at b, a refusal with this code at i is that of a bar which stands before b, or of the same one.
abbrev pub Barred : (b q : ℕ) → Code → ℕ → Type 0
Barred b q (barred q') i = (i ≤ b) × (i ≡ b → q' ≡ q)
Barred b q syntax i = ⊥
Barred b q deep i = ⊥

-- Where tokens up to before b begin a part, with a bar at b or without one, its reader answers so.
abbrev pub Reached : {A : Type 0} → ℕ → Option ℕ → Outcome A → Type 0
Reached b None (Ok p) = b ≤ p.1
Reached b None (Err e) = Far b e.code e.token
Reached b (Some q) (Ok p) = ⊥
Reached b (Some q) (Err e) = Barred b q e.code e.token

bar_before : (A : Type 0) (a b : ℕ) (z : Option ℕ) (q : ℕ) → ((q' : ℕ) → z ≡ Some q' → a < b)
    → Reached b z (let r : Outcome A = Err (refuse (barred q) a) in r)
bar_before A a b None q h = tt
bar_before A a b (Some q') q h = let lt = h q' refl in (omega arith, λ e. absurd (omega arith))

near : (b : ℕ) (q : Code) (i : ℕ) → b ≤ i → Far b q i
near b (barred q) i h = tt
near b syntax i h = h
near b deep i h = h

pub short : {A : Type 0} (b : ℕ) (z : Option ℕ) (r : Outcome A) → z ≡ None → b ≤ stop r → Reached b z r
short b None (Ok p) e h = h
short b None (Err x) e h = near b x.code x.token h
short b (Some q) r e h = cc

through_then : {A B : Type 0} (b : ℕ) (z : Option ℕ) (r : Outcome A) (go : A → ℕ → Outcome B) → Reached b z r
    → ((y : A) (m : ℕ) → r ≡ Ok (y, m) → m ≤ stop (go y m)) → Reached b z (then r go)
unfolding then
through_then b None (Ok p) go h k = short b None (go p.0 p.1) refl (omega (arith, h, k p.0 p.1 refl))
through_then b None (Err x) go h k = h
through_then b (Some q) (Ok p) go h k = absurd h
through_then b (Some q) (Err x) go h k = h

module _ {S : Type 0} {C N : S → Type 0} {K : Type 0} (sees : K → ℕ → Bool) (fits : ℕ → Bool)
    (rule : (s : S) → C s → ℕ → Form S C N K s)
    (First : (s : S) → C s → ℕ → Type 0) (Ends : (s : S) → C s → N s → ℕ → Type 0)
    (Moves : (s : S) → C s → ℕ → Type 0) (rank : (s : S) → C s → ℕ) (size : ℕ)
    (inside : (t : K) (a : ℕ) → sees t a ≡ true → a < size)
    (firsts : (s : S) (c : C s) (a : ℕ) → Next sees First Ends Moves rank s (λ x b. Unit {0}) (rule s c a) a → First s c a)
    (good : (s : S) (c : C s) (a : ℕ) → Good sees First Ends Moves rank s c true (rule s c a) a)
    (go : (u : S) → C u → ℕ → Outcome (N u))
    (right : (u : S) (d : C u) (i : ℕ) → Right sees fits rule First Ends Moves rank size u d i (go u d i))
    (steps : (s : S) (c : C s) (a : ℕ) → go s c a ≡ follow sees fits go s (rule s c a) a) where
  -- A reader of a form stops at the place where it begins, or after it.
  onward : (s : S) (c : C s) (w : Bool) (f : Form S C N K s) (a : ℕ)
      → Good sees First Ends Moves rank s c w f a → a ≤ stop (follow sees fits go s f a)
  onward s c w f a g = forward sees fits rule First Ends Moves rank size inside firsts good go right steps s c w f a g

  -- Some token stands before b, or a bar stands at b.
  abbrev pub Moved : ℕ → ℕ → Option ℕ → Type 0
  Moved a b None = a < b
  Moved a b (Some q) = Unit {0}

  decide : (a b : ℕ) (w : Option ℕ) → Moved a b w ⊎ ((b ≤ a) × (w ≡ None))
  decide a b None = elim (cases_lt a b) [ inl lt ↦ inl lt | inr le ↦ inr (le, refl) ]
  decide a b (Some q) = inl tt

  mutual
    -- What begins a part by a token or a bar stands at a place where the part may begin.
    first_begun : {s : S} {c : C s} {a b : ℕ} {w : Option ℕ} → Begins rule sees fits s c a b w → Moved a b w → First s c a
    first_begun {s = s} {c = c} {a = a} (begins_rule h) m = firsts s c a (first_started h m)

    first_started : {s : S} {f : Form S C N K s} {a b : ℕ} {w : Option ℕ} → Starts rule sees fits s f a b w → Moved a b w
        → Next sees First Ends Moves rank s (λ x b. Unit {0}) f a
    first_started {a = a} starts_here m = absurd (omega arith)
    first_started (starts_barred q) m = inl q
    first_started (starts_bar h) m = inr (first_started h m)
    first_started (starts_token q h) m = q
    first_started (starts_in h) m = first_begun h m
    first_started (starts_over sp h) m =
        first sees fits rule First Ends Moves rank size inside firsts good go right steps sp
    first_started (starts_limit q h) m = first_started h m
    first_started (starts_only q h) m = (q, first_started h m)
    first_started (starts_left h) m = inl (first_started h m)
    first_started (starts_right h) m = inr (first_started h m)

  -- What begins the rest of a form by a token or a bar goes on as the form says.
  next_started : {s : S} {f : Form S C N K s} {a b : ℕ} {w : Option ℕ} (E : N s → ℕ → Type 0) → Starts rule sees fits s f a b w
      → Moved a b w → Next sees First Ends Moves rank s E f a
  next_started {a = a} E starts_here m = absurd (omega arith)
  next_started E (starts_barred q) m = inl q
  next_started E (starts_bar h) m = inr (next_started E h m)
  next_started E (starts_token q h) m = q
  next_started E (starts_in h) m = first_begun h m
  next_started E (starts_over sp h) m =
      first sees fits rule First Ends Moves rank size inside firsts good go right steps sp
  next_started E (starts_limit q h) m = next_started E h m
  next_started E (starts_only q h) m = (q, next_started E h m)
  next_started E (starts_left h) m = inl (next_started E h m)
  next_started E (starts_right h) m = inr (next_started E h m)

  -- How far the reader of a part goes, so far goes the reader of the form where the part stands.
  through : (s u : S) (c : C s) (d : C u) (k : N u → ℕ → Form S C N K s) (w : Bool) (a b : ℕ) (z : Option ℕ)
      → Good sees First Ends Moves rank s c w (part u d k) a
      → Reached b z (go u d a) → Reached b z (then (go u d a) (λ y m. follow sees fits go s (k y m) m))
  through s u c d k w a b z g h =
      through_then b z (go u d a) _ h
      (λ y m e. let ok = subst (Right sees fits rule First Ends Moves rank size u d a) e (right u d a) in
      onward s c false (k y m) m ((g.1 y m).1 ok.3))

  over : (s u : S) (c : C s) (d : C u) (k : N u → ℕ → Form S C N K s) (w : Bool) (a m b : ℕ) (y : N u) (z : Option ℕ)
      → Good sees First Ends Moves rank s c w (part u d k) a
      → Spells rule sees fits u d y a m → Starts rule sees fits s (k y m) m b z
      → (Ends u d y m → Reached b z (follow sees fits go s (k y m) m))
      → Reached b z (then (go u d a) (λ y m. follow sees fits go s (k y m) m))
  over s u c d k w a m b y z g sp h ih =
      elim (decide m b z) [
        | inl mo ↦ (let ends = (g.1 y m).0 (next_started (Ends s c) h mo) in
            subst (Reached b z) (sym (goes _ _ y m
            (complete sees fits rule First Ends Moves rank size inside firsts good go right steps sp ends))) (ih ends))
        | inr le ↦ short b z _ le.1 (rest sees fits rule First Ends Moves rank size inside firsts good go right steps s u c d k w a b g
            (omega (arith, le.0, reach_spells sees fits rule First Ends Moves rank size inside firsts good go right steps sp)))
      ]

  mutual
    -- What begins a part ends where it begins, or after that place.
    ahead_begun : {s : S} {c : C s} {a b : ℕ} {z : Option ℕ} → Begins rule sees fits s c a b z → a ≤ b
    ahead_begun (begins_rule h) = ahead_started h

    ahead_started : {s : S} {f : Form S C N K s} {a b : ℕ} {z : Option ℕ} → Starts rule sees fits s f a b z → a ≤ b
    ahead_started starts_here = omega arith
    ahead_started (starts_barred q) = omega arith
    ahead_started (starts_bar h) = ahead_started h
    ahead_started (starts_token q h) = omega (arith, ahead_started h)
    ahead_started (starts_in h) = ahead_begun h
    ahead_started (starts_over sp h) =
        omega (arith, ahead sees fits rule First Ends Moves rank size inside firsts good go right steps sp, ahead_started h)
    ahead_started (starts_limit q h) = ahead_started h
    ahead_started (starts_only q h) = ahead_started h
    ahead_started (starts_left h) = ahead_started h
    ahead_started (starts_right h) = ahead_started h

  -- Where a token comes next, a bar stands after it.
  bar_behind : {s : S} {f : Form S C N K s} {a b : ℕ} {z : Option ℕ} (q : ℕ) → Starts rule sees fits s f a b z
      → IsToken sees First Ends Moves rank s f → z ≡ Some q → a < b
  bar_behind q starts_here t e = cc
  bar_behind q (starts_token p h) t e = omega (arith, ahead_started h)
  bar_behind q (starts_barred p) t e = absurd t
  bar_behind q (starts_bar h) t e = absurd t
  bar_behind q (starts_in h) t e = absurd t
  bar_behind q (starts_over sp h) t e = absurd t
  bar_behind q (starts_limit p h) t e = absurd t
  bar_behind q (starts_only p h) t e = absurd t
  bar_behind q (starts_left h) t e = absurd t
  bar_behind q (starts_right h) t e = absurd t

  on_left : (s : S) (c : C s) (w : Bool) (p : Bool) (f f' : Form S C N K s) (a b : ℕ) (z : Option ℕ)
      → Good sees First Ends Moves rank s c w (either p f f') a → Starts rule sees fits s f a b z
      → (p ≡ true → Reached b z (follow sees fits go s f a))
      → Reached b z (choose p (follow sees fits go s f a) (follow sees fits go s f' a))
  on_left s c w p f f' a b z g h ih =
      on_choose (Reached b z) p _ _ ih
      (λ q. elim (decide a b z) [
        | inl mo ↦ (let q' = g.0 (next_started (Ends s c) h mo) in let never : true ≡ false = sym q' ∙ q in absurd cc)
        | inr le ↦ short b z _ le.1 (omega (arith, le.0, onward s c w f' a (g.3 q)))
      ])

  on_right : (s : S) (c : C s) (w : Bool) (p : Bool) (f f' : Form S C N K s) (a b : ℕ) (z : Option ℕ)
      → Good sees First Ends Moves rank s c w (either p f f') a → Starts rule sees fits s f' a b z
      → (p ≡ false → Reached b z (follow sees fits go s f' a))
      → Reached b z (choose p (follow sees fits go s f a) (follow sees fits go s f' a))
  on_right s c w p f f' a b z g h ih =
      on_choose (Reached b z) p _ _
      (λ q. elim (decide a b z) [
        | inl mo ↦ (let q' = g.1 (next_started (Ends s c) h mo) in let never : true ≡ false = sym q ∙ q' in absurd cc)
        | inr le ↦ short b z _ le.1 (omega (arith, le.0, onward s c w f a (g.2 q)))
      ])
      ih

  mutual
    -- A reader stops after everything that begins the part, and at the first bar.
    pub reach : {s : S} {c : C s} {a b : ℕ} {z : Option ℕ} → Begins rule sees fits s c a b z → Reached b z (go s c a)
    reach {s = s} {c = c} {a = a} {b = b} {z = z} (begins_rule h) =
        subst (Reached b z) (sym (steps s c a)) (reach_started c true h (good s c a))

    reach_started : {s : S} {f : Form S C N K s} {a b : ℕ} {z : Option ℕ} (c : C s) (w : Bool) → Starts rule sees fits s f a b z
        → Good sees First Ends Moves rank s c w f a → Reached b z (follow sees fits go s f a)
    reach_started {s = s} {f = f} {a = a} c w starts_here g = short a None _ refl (onward s c w f a g)
    reach_started {b = b} {z = z} c w (starts_barred {p = p} q) g = subst (Reached b z) (sym (chosen p _ _ q)) (omega arith, λ e. refl)
    reach_started {s = s} {a = a} {b = b} {z = z} c w (starts_bar {p = p} {q = q} h) g =
        on_choose (Reached b z) p _ _ (λ e. bar_before (N s) a b z q (λ q' z. bar_behind q' h g.2 z)) (λ e. reach_started c w h (g.1 e))
    reach_started {a = a} {b = b} {z = z} c w (starts_token {t = t} q h) g =
        subst (Reached b z) (sym (chosen (sees t a) _ _ q)) (reach_started c false h (g q))
    reach_started {s = s} {a = a} {b = b} {z = z} c w (starts_in {u = u} {c = d} {k = k} h) g = through s u c d k w a b z g (reach h)
    reach_started {s = s} {a = a} {b = b} {z = z} c w (starts_over {u = u} {c = d} {k = k} {y = y} {m = m} sp h) g =
        over s u c d k w a m b y z g sp h (λ ends. reach_started c false h ((g.1 y m).1 ends))
    reach_started {b = b} {z = z} c w (starts_limit {n = n} q h) g =
        subst (Reached b z) (sym (chosen (fits n) _ _ q)) (reach_started c w h g.1)
    reach_started c w (starts_only q h) g = reach_started c w h g.1
    reach_started {s = s} {a = a} {b = b} {z = z} c w (starts_left {p = p} {f = f} {g = f'} h) g =
        on_left s c w p f f' a b z g h (λ q. reach_started c w h (g.2 q))
    reach_started {s = s} {a = a} {b = b} {z = z} c w (starts_right {p = p} {f = f} {g = f'} h) g =
        on_right s c w p f f' a b z g h (λ q. reach_started c w h (g.3 q))
