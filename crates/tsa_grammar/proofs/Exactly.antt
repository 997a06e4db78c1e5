-- A reader's answer is exact, and two trees that the same tokens spell are equal.
use Rattle.std.proofs.Common.{ℕ, ◌<◌, ◌≤◌, ◌≡◌, ◌∙◌, sym, subst, refl, Bool, true, Option, Some, None, Ok, Err, arith}
use Rattle.tsa_grammar.specs.Form.{Form}
use Rattle.tsa_grammar.specs.Spelling.{Spells, Begins, begins_rule, Starts, starts_here, starts_barred, starts_bar, starts_token, starts_in}
use Rattle.tsa_grammar.specs.Spelling.{starts_over, starts_limit, starts_only, starts_left, starts_right}
use Rattle.tsa_grammar.specs.Reading.{Code, syntax, deep, barred, Refusal, refuse, Outcome, stop, follow, run, all}
use Rattle.tsa_grammar.specs.Exact.{Exact, ExactAt}
use Rattle.tsa_grammar.proofs.Good.{Next, Past, Good}
use Rattle.tsa_grammar.proofs.Runs.{Right, right, steps}
use Rattle.tsa_grammar.proofs.Complete.{complete, reach_spells, begins_whole}
use Rattle.tsa_grammar.proofs.Reach.{Reached, Barred, reach}
use Rattle.tsa_grammar.proofs.Agree.{Agrees, AgreesAt, agree}

module _ {S : Type 0} {C N : S → Type 0} {K : Type 0}
    (rule : (s : S) → C s → ℕ → Form S C N K s) (sees : K → ℕ → Bool) (fits : ℕ → Bool) where
  -- Where a bar stands, the tokens before it begin the part.
  mutual
    pub forget : {s : S} {c : C s} {a b : ℕ} {w : Option ℕ} → Begins rule sees fits s c a b w → Begins rule sees fits s c a b None
    forget (begins_rule h) = begins_rule (forget_starts h)

    forget_starts : {s : S} {f : Form S C N K s} {a b : ℕ} {w : Option ℕ} → Starts rule sees fits s f a b w
        → Starts rule sees fits s f a b None
    forget_starts starts_here = starts_here
    forget_starts (starts_barred e) = starts_here
    forget_starts (starts_bar h) = starts_bar (forget_starts h)
    forget_starts (starts_token e h) = starts_token e (forget_starts h)
    forget_starts (starts_in h) = starts_in (forget h)
    forget_starts (starts_over sp h) = starts_over sp (forget_starts h)
    forget_starts (starts_limit e h) = starts_limit e (forget_starts h)
    forget_starts (starts_only e h) = starts_only e (forget_starts h)
    forget_starts (starts_left h) = starts_left (forget_starts h)
    forget_starts (starts_right h) = starts_right (forget_starts h)

same_ok : {A : Type 0} (p q : A × ℕ) (r : Outcome A) → r ≡ Ok p → r ≡ Ok q → p.0 ≡ q.0
same_ok p q (Ok x) e e' = cc
same_ok p q (Err x) e e' = cc

module _ {S : Type 0} {C N : S → Type 0} {K : Type 0} (sees : K → ℕ → Bool) (fits : ℕ → Bool)
    (rule : (s : S) → C s → ℕ → Form S C N K s)
    (First : (s : S) → C s → ℕ → Type 0) (Ends : (s : S) → C s → N s → ℕ → Type 0)
    (Moves : (s : S) → C s → ℕ → Type 0) (rank : (s : S) → C s → ℕ) (size : ℕ)
    (inside : (t : K) (a : ℕ) → sees t a ≡ true → a < size)
    (firsts : (s : S) (c : C s) (a : ℕ) → Next sees First Ends Moves rank s (λ x b. Unit {0}) (rule s c a) a → First s c a)
    (good : (s : S) (c : C s) (a : ℕ) → Good sees First Ends Moves rank s c true (rule s c a) a)
    (low : (s : S) (c : C s) → rank s c < 64)
    (moves : (s : S) (c : C s) (a : ℕ) → Moves s c a → Past sees First Ends Moves rank s (rule s c a) a) where
  -- This is the reader without limits.
  abbrev pub free : (s : S) → C s → ℕ → Outcome (N s)
  free s c a = run sees all rule rank size s c a

  -- This is the reader within the limits.
  abbrev pub read : (s : S) → C s → ℕ → Outcome (N s)
  read s c a = run sees fits rule rank size s c a

  -- What a reader answers is so.
  pub ok : (s : S) (c : C s) (a : ℕ) → Right sees fits rule First Ends Moves rank size s c a (read s c a)
  ok s c a = right sees fits rule First Ends Moves rank size inside good s c a

  pub free_ok : (s : S) (c : C s) (a : ℕ) → Right sees all rule First Ends Moves rank size s c a (free s c a)
  free_ok s c a = right sees all rule First Ends Moves rank size inside good s c a

  -- A reader reads each part by its form.
  pub stepped : (s : S) (c : C s) (a : ℕ) → read s c a ≡ follow sees fits read s (rule s c a) a
  stepped s c a = steps sees fits rule First Ends Moves rank size inside good low s c a

  pub free_stepped : (s : S) (c : C s) (a : ℕ) → free s c a ≡ follow sees all free s (rule s c a) a
  free_stepped s c a = steps sees all rule First Ends Moves rank size inside good low s c a

  -- The reader within limits and the one without answer alike.
  pub agreed : (s : S) (c : C s) (a : ℕ) → Agrees (read s c a) (free s c a)
  agreed s c a = agree sees fits rule First Ends Moves rank size inside firsts good low moves read free stepped free_ok free_stepped s c a

  -- A reader without limits stops after all that begins its part, and at the first bar.
  pub reached : (s : S) (c : C s) (a b : ℕ) (w : Option ℕ) → Begins rule sees all s c a b w → Reached b w (free s c a)
  reached s c a b w h = reach sees all rule First Ends Moves rank size inside firsts good free free_ok free_stepped h

  -- A reader within limits stops after all that begins its part within them, and at the first bar.
  pub within : (s : S) (c : C s) (a b : ℕ) (w : Option ℕ) → Begins rule sees fits s c a b w → Reached b w (read s c a)
  within s c a b w h = reach sees fits rule First Ends Moves rank size inside firsts good read ok stepped h

  -- What is spelled up to where it ends is read.
  pub completed : (s : S) (c : C s) (x : N s) (a b : ℕ) → Spells rule sees all s c x a b → Ends s c x b → free s c a ≡ Ok (x, b)
  completed s c x a b h e = complete sees all rule First Ends Moves rank size inside firsts good free free_ok free_stepped h e

  -- Two trees that the same tokens spell, as far as the part goes, are equal.
  pub one_tree : (s : S) (c : C s) (x y : N s) (a b : ℕ) → Spells rule sees all s c x a b → Spells rule sees all s c y a b → Ends s c x b
      → Ends s c y b → x ≡ y
  one_tree s c x y a b h k e e' = same_ok (x, b) (y, b) (free s c a) (completed s c x a b h e) (completed s c y a b k e')

  -- Where a text goes on no further, a reader without limits refuses the same token.
  pub broken_free : (s : S) (c : C s) (a i : ℕ) → read s c a ≡ Err (refuse syntax i) → free s c a ≡ Err (refuse syntax i)
  broken_free s c a i e = subst (λ r. Agrees r (free s c a)) e (agreed s c a)

  -- A reader without limits stops after all that is spelled.
  pub whole_to : (s : S) (c : C s) (x : N s) (a b : ℕ) → Spells rule sees all s c x a b → b ≤ stop (free s c a)
  whole_to s c x a b h =
      reach_spells sees all rule First Ends Moves rank size inside firsts good free free_ok free_stepped h

  -- The tokens that a reader went over begin the part.
  pub begins_to : (s : S) (c : C s) (a : ℕ) (r : Outcome (N s)) → Right sees all rule First Ends Moves rank size s c a r
      → Begins rule sees all s c a (stop r) None
  begins_to s c a (Ok p) h = begins_whole sees all rule First Ends Moves rank size inside firsts good free free_ok free_stepped h.2
  begins_to s c a (Err e) h = forget rule sees all h.1

  bar_at : {A : Type 0} (i b : ℕ) (q : ℕ) (r : Outcome A) → i < stop r → Reached b (Some q) r → i < b
  bar_at i b q (Ok p) lt h = absurd h
  bar_at i b q (Err e) lt h = go e.code lt h
    where
      go : (k : Code) → i < e.token → Barred b q k e.token → i < b
      go syntax lt h = absurd h
      go deep lt h = absurd h
      go (barred q') lt h = let le = h.0 in omega arith

  err : (s : S) (c : C s) (a : ℕ) (k : Code) (i : ℕ) → Right sees fits rule First Ends Moves rank size s c a (Err (refuse k i))
      → ((b : ℕ) (w : Option ℕ) → Begins rule sees fits s c a b w → Reached b w (let r : Outcome (N s) = Err (refuse k i) in r))
      → AgreesAt k i (free s c a) → ExactAt rule sees fits s c a k i
  err s c a syntax i h wi ag = record {
    begins = h.1;
    longest = λ b p. subst (Reached b None) ag (reached s c a b None p);
    no_bar = λ b q p. subst (Reached b (Some q)) ag (reached s c a b (Some q) p);
  }
  err s c a (barred q) i h wi ag = record {
    begins = h.1;
    first = λ b q' p. (subst (Reached b (Some q')) ag (reached s c a b (Some q') p)).0;
  }
  err s c a deep i h wi ag = record {
    begins = h.1;
    within = λ b p. wi b None p;
    goes_on = (stop (free s c a), ag, begins_to s c a _ (free_ok s c a));
    no_bar = λ b q p. bar_at i b q (free s c a) ag (reached s c a b (Some q) p);
  }

  answer : (s : S) (c : C s) (a : ℕ) (r : Outcome (N s)) → Right sees fits rule First Ends Moves rank size s c a r
      → ((b : ℕ) (w : Option ℕ) → Begins rule sees fits s c a b w → Reached b w r)
      → Agrees r (free s c a) → Exact rule sees fits s c a r
  answer s c a (Ok p) h wi ag = record {
    spelled = h.2;
    longest = λ b z. subst (Reached b None) ag (reached s c a b None z);
    no_bar = λ b q z. subst (Reached b (Some q)) ag (reached s c a b (Some q) z);
  }
  answer s c a (Err e) h wi ag = err s c a e.code e.token h wi ag

  -- Of the first bar there is one number.
  pub one_bar : (s : S) (c : C s) (a i q p : ℕ) → Begins rule sees all s c a i (Some q) → Begins rule sees all s c a i (Some p)
      → ((j r : ℕ) → Begins rule sees all s c a j (Some r) → i ≤ j) → q ≡ p
  one_bar s c a i q p h k first = go (free s c a) (free_ok s c a) (reached s c a i (Some q) h) (reached s c a i (Some p) k)
    where
      go : (r : Outcome (N s)) → Right sees all rule First Ends Moves rank size s c a r → Reached i (Some q) r → Reached i (Some p) r → q ≡ p
      go (Ok x) right h k = absurd h
      go (Err e) right h k = at e.code right h k
        where
          at : (code : Code) → Right sees all rule First Ends Moves rank size s c a (Err (refuse code e.token)) → Barred i q code e.token
              → Barred i p code e.token → q ≡ p
          at syntax right h k = absurd h
          at deep right h k = absurd h
          at (barred n) right h k =
              let le = first e.token n right.1 in let ge = h.0 in let same : e.token ≡ i = omega arith in sym (h.1 same) ∙ k.1 same

  -- A reader's answer is exact.
  pub exact : (s : S) (c : C s) (a : ℕ) → Exact rule sees fits s c a (read s c a)
  exact s c a = answer s c a (read s c a) (ok s c a) (λ b w h. within s c a b w h) (agreed s c a)

  -- Where the refusal is no limit's, no tree is spelled up to where it ends.
  pub nothing_spelled : (s : S) (c : C s) (a i b : ℕ) (x : N s) (k : Code) → (k ≡ deep → ⊥) → read s c a ≡ Err (refuse k i) → Ends s c x b
      → Spells rule sees all s c x a b → ⊥
  nothing_spelled s c a i b x k nd e en h = go k nd (subst (λ r. Agrees r (free s c a)) e (agreed s c a)) (completed s c x a b h en)
    where
      go : (k : Code) → (k ≡ deep → ⊥) → AgreesAt k i (free s c a) → free s c a ≡ Ok (x, b) → ⊥
      go deep nd ag ok = nd refl
      go syntax nd ag ok = clash _ _ _ ok ag
        where
          clash : (p : N s × ℕ) (y : Refusal) (r : Outcome (N s)) → r ≡ Ok p → r ≡ Err y → ⊥
          clash p y (Ok z) e e' = cc
          clash p y (Err z) e e' = cc
      go (barred q) nd ag ok = clash _ _ _ ok ag
        where
          clash : (p : N s × ℕ) (y : Refusal) (r : Outcome (N s)) → r ≡ Ok p → r ≡ Err y → ⊥
          clash p y (Ok z) e e' = cc
          clash p y (Err z) e e' = cc
