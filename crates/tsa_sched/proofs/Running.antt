-- A text that spells picks is read as those picks.
use Rattle.std.proofs.Common.{◌≡◌, ◌∙◌, ℕ, zero, suc, ◌+◌, ◌-◌, ◌*◌, ◌/◌, ◌%◌, ◌<◌, ◌≤◌, ◌^◌, ◌++◌, ◌==◌, ◌&&◌, nat_le, nat_lt, Bool, true, false, ℤ, pos, negsuc, List, [], ◌∷◌, length, Option, Some, None, option_map, if◌then◌else◌, refl, sym, ap, subst, arith, ◌⊎◌, inl, inr}
use Rattle.std.proofs.lemmas.Bool.Decides.{nat_tests}
use Rattle.std.specs.Fmt.{decimal, signed_decimal}
use Rattle.std.proofs.lemmas.Fmt.{decimal_by_steps}
use Rattle.tsa_base.specs.declared.limits.TheConstants.{TURN_LIMIT}
use Rattle.tsa_sched.specs.declared.pick.Pick.{Pick}
use Rattle.tsa_sched.specs.declared.part.Part.{Part}
use Rattle.tsa_sched.specs.declared.part.Part.TheVariants.{Nothing, Begun, Thread, Asked, Minus, Answer}
use Rattle.tsa_sched.specs.Schedules.{comma, colon, hyphen, IsInt, IsPickText, SpellsPick, SpellsPicks, SpellsSchedule}
use Rattle.tsa_sched.specs.Parts.{most, signed, digit, longer, first_of_negative, grown, pick_in, IsPart, Reading, reading, start, behind_comma, step, and_then, run, finish, picks_of, picks_of_end}
use Rattle.tsa_sched.proofs.Digits.{digit_of, first_of, longer_of}

-- one text behind another
pub run_onward : (r : Reading) (xs ys : List ℕ) → run r (xs ++ ys) ≡ and_then (run r xs) (λ s. run s ys)
run_onward r [] ys = refl
run_onward r (b ∷ bs) ys = by (step r b) (λ s. run_onward s bs ys)
  where
    by : (o : Option Reading) → ((s : Reading) → run s (bs ++ ys) ≡ and_then (run s bs) (λ s. run s ys)) → and_then o (λ s. run s (bs ++ ys)) ≡ and_then (and_then o (λ s. run s bs)) (λ s. run s ys)
    by None each = refl
    by (Some s) each = each s

pub run_then : (r s : Reading) (xs ys : List ℕ) → run r xs ≡ Some s → run r (xs ++ ys) ≡ run s ys
run_then r s xs ys e = run_onward r xs ys ∙ ap (λ o. and_then o (λ s. run s ys)) e

run_one : (r : Reading) (b : ℕ) → run r (b ∷ []) ≡ step r b
run_one r b = by (step r b)
  where
    by : (o : Option Reading) → and_then o (λ s. run s []) ≡ o
    by None = refl
    by (Some s) = refl

-- a byte that is no comma grows the part
not_comma : (r : Reading) (b : ℕ) (p : Part) → (b == comma) ≡ false → grown r.part b ≡ Some p → step r b ≡ Some (reading r.picks p)
not_comma r b p other e = ap (λ t. if t then behind_comma r.picks (pick_in r.part) else option_map (reading r.picks) (grown r.part b)) other ∙ ap (option_map (reading r.picks)) e

digit_apart : (d c : ℕ) → d < 10 → (c < 48) ⊎ (57 < c) → ((48 + d) == c) ≡ false
digit_apart d c h (inl k) = grind (arith, h, k)
digit_apart d c h (inr k) = grind (arith, h, k)

-- nothing of a pick stands there yet
abbrev pub IsOpening : Part → Type 0
IsOpening Nothing = Unit {0}
IsOpening Begun = Unit {0}
IsOpening _ = ⊥

module _ (ps : List Pick) where
  step_digit : (d : ℕ) (p q : Part) → d < 10 → grown p (48 + d) ≡ Some q → run (reading ps p) ((48 + d) ∷ []) ≡ Some (reading ps q)
  step_digit d p q h e = run_one (reading ps p) (48 + d) ∙ not_comma (reading ps p) (48 + d) q (digit_apart d comma h (inl (omega arith))) e

  -- a thread
  opening_digit : (p : Part) (d : ℕ) → IsOpening p → d < 10 → grown p (48 + d) ≡ Some (Thread d)
  opening_digit Nothing d o h = ap (option_map Thread) (digit_of d h)
  opening_digit Begun d o h = ap (option_map Thread) (digit_of d h)
  opening_digit (Thread n) d o h = absurd o
  opening_digit (Asked n) d o h = absurd o
  opening_digit (Minus n) d o h = absurd o
  opening_digit (Answer n s m) d o h = absurd o

  thread_digit : (n d : ℕ) → d < 10 → 0 < n → n * 10 + d < 2 ^ 32 → grown (Thread n) (48 + d) ≡ Some (Thread (n * 10 + d))
  thread_digit n d h p small = ap (λ t. if t then Some (Asked n) else option_map Thread (longer (2 ^ 32 - 1) n (48 + d))) (digit_apart d colon h (inr (omega arith)))
      ∙ ap (option_map Thread) (longer_of (2 ^ 32 - 1) n d h p (omega (arith, small)))

  pub thread_runs : (p : Part) → IsOpening p → (n : ℕ) → n < 2 ^ 32 → run (reading ps p) (decimal n) ≡ Some (reading ps (Thread n))
  thread_runs p o n small = decimal_by_steps (λ n ds. n < 2 ^ 32 → run (reading ps p) ds ≡ Some (reading ps (Thread n)))
      (λ n h _. step_digit n p (Thread n) h (opening_digit p n o h))
      (λ n ds h before small. let tens : n / 10 * 10 + n % 10 ≡ n = omega arith in
      run_then (reading ps p) (reading ps (Thread (n / 10))) ds ((48 + n % 10) ∷ []) (before (omega (arith, small)))
      ∙ step_digit (n % 10) (Thread (n / 10)) (Thread (n / 10 * 10 + n % 10)) (omega arith)
      (thread_digit (n / 10) (n % 10) (omega arith) (omega (arith, h)) (omega (arith, tens, small)))
      ∙ ap (λ k. Some (reading ps (Thread k))) tens)
      n (omega (arith, small)) small

  -- an answer without a sign, and with one
  answer_digit : (t n d : ℕ) (s : Bool) → d < 10 → 0 < n → n * 10 + d ≤ most s → grown (Answer t s n) (48 + d) ≡ Some (Answer t s (n * 10 + d))
  answer_digit t n d s h p small = ap (option_map (Answer t s)) (longer_of (most s) n d h p small)

  asked_digit : (t d : ℕ) → d < 10 → grown (Asked t) (48 + d) ≡ Some (Answer t false d)
  asked_digit t d h = ap (λ b. if b then Some (Minus t) else option_map (Answer t false) (digit (48 + d))) (digit_apart d hyphen h (inl (omega arith)))
      ∙ ap (option_map (Answer t false)) (digit_of d h)

  answer_more : (r : Reading) (t : ℕ) (s : Bool) → most s < 2 ^ 32 → (n : ℕ) (ds : List ℕ) → 10 ≤ n → (n / 10 ≤ most s → run r ds ≡ Some (reading ps (Answer t s (n / 10)))) → n ≤ most s
      → run r (ds ++ ((48 + n % 10) ∷ [])) ≡ Some (reading ps (Answer t s n))
  answer_more r t s low n ds h before small = let tens : n / 10 * 10 + n % 10 ≡ n = omega arith in
      run_then r (reading ps (Answer t s (n / 10))) ds ((48 + n % 10) ∷ []) (before (omega (arith, small)))
      ∙ step_digit (n % 10) (Answer t s (n / 10)) (Answer t s (n / 10 * 10 + n % 10)) (omega arith)
      (answer_digit t (n / 10) (n % 10) s (omega arith) (omega (arith, h)) (omega (arith, tens, small)))
      ∙ ap (λ k. Some (reading ps (Answer t s k))) tens

  plain_runs : (t n : ℕ) → n < 2 ^ 31 → run (reading ps (Asked t)) (decimal n) ≡ Some (reading ps (Answer t false n))
  plain_runs t n small = decimal_by_steps (λ n ds. n ≤ most false → run (reading ps (Asked t)) ds ≡ Some (reading ps (Answer t false n)))
      (λ n h _. step_digit n (Asked t) (Answer t false n) h (asked_digit t n h))
      (λ n ds. answer_more (reading ps (Asked t)) t false (omega arith) n ds)
      n (omega (arith, small)) (omega (arith, small))

  negative_runs : (t n : ℕ) → 0 < n → n ≤ 2 ^ 31 → run (reading ps (Minus t)) (decimal n) ≡ Some (reading ps (Answer t true n))
  negative_runs t n p small = decimal_by_steps (λ n ds. 0 < n → n ≤ most true → run (reading ps (Minus t)) ds ≡ Some (reading ps (Answer t true n)))
      (λ n h p _. step_digit n (Minus t) (Answer t true n) h (ap (option_map (Answer t true)) (first_of n p h)))
      (λ n ds h before p. answer_more (reading ps (Minus t)) t true (omega arith) n ds h (before (omega (arith, h))))
      n (omega (arith, small)) p small

  -- a pick is read up to a part in which it stands
  pub record IsRead (p : Part) (text : List ℕ) (pick : Pick) : Type 0 where
    pub part : Part
    pub runs : run (reading ps p) text ≡ Some (reading ps part)
    pub stands : pick_in part ≡ Some pick

  asked_runs : (p : Part) → IsOpening p → (n : ℕ) → n < 2 ^ 32 → (rest : List ℕ) → run (reading ps p) (decimal n ++ colon ∷ rest) ≡ run (reading ps (Asked n)) rest
  asked_runs p o n small rest = run_then (reading ps p) (reading ps (Thread n)) (decimal n) (colon ∷ rest) (thread_runs p o n small)

  answer_runs : (t : ℕ) (z : ℤ) → IsInt z → (q : Part) × ((run (reading ps (Asked t)) (signed_decimal z) ≡ Some (reading ps q)) × (pick_in q ≡ Some (record { thread = t; answer = z })))
  answer_runs t (pos n) small = (Answer t false n, (plain_runs t n small, refl))
  answer_runs t (negsuc n) small = (Answer t true (suc n), (negative_runs t (suc n) (omega arith) (omega (arith, small)), refl))

  pub pick_runs : (p : Part) → IsOpening p → (text : List ℕ) (pick : Pick) → IsPickText text pick → IsRead p text pick
  pick_runs p o text pick is = by is.spells
    where
      by : SpellsPick text pick → IsRead p text pick
      by (inl e) = record {
        part = Thread pick.thread;
        runs = ap (run (reading ps p)) e.0 ∙ thread_runs p o pick.thread is.thread;
        stands = ap (λ z. Some (record { thread = pick.thread; answer = z })) (sym e.1);
      }
      by (inr e) = let a : (q : Part) × ((run (reading ps (Asked pick.thread)) (signed_decimal pick.answer) ≡ Some (reading ps q)) × (pick_in q ≡ Some (record { thread = pick.thread; answer = pick.answer }))) = answer_runs pick.thread pick.answer is.answer in
          record {
            part = a.0;
            runs = ap (run (reading ps p)) e ∙ (asked_runs p o pick.thread is.thread (signed_decimal pick.answer) ∙ a.1.0);
            stands = a.1.1;
          }

-- where a pick stands, a schedule may end
pub finishes : (ps : List Pick) (p : Part) (pick : Pick) → pick_in p ≡ Some pick → finish (reading ps p) ≡ Some (ps ++ pick ∷ [])
finishes ps Nothing pick e = let no : None ≡ Some pick = e in cc
finishes ps Begun pick e = let no : None ≡ Some pick = e in cc
finishes ps (Thread n) pick e = ap (option_map (λ q. ps ++ q ∷ [])) e
finishes ps (Asked n) pick e = let no : None ≡ Some pick = e in cc
finishes ps (Minus n) pick e = let no : None ≡ Some pick = e in cc
finishes ps (Answer n s m) pick e = ap (option_map (λ q. ps ++ q ∷ [])) e

comma_goes_on : (ps : List Pick) (p : Part) (pick : Pick) → pick_in p ≡ Some pick → length ps + 1 < TURN_LIMIT → step (reading ps p) comma ≡ Some (reading (ps ++ pick ∷ []) Begun)
comma_goes_on ps p pick e room = let few : nat_lt (length ps + 1) TURN_LIMIT ≡ true = grind (arith, room) in
    ap (behind_comma ps) e ∙ ap (λ b. if b then Some (reading (ps ++ pick ∷ []) Begun) else None) few

one_longer : (ps : List Pick) (pick : Pick) → length (ps ++ pick ∷ []) ≡ length ps + 1
one_longer [] pick = refl
one_longer (q ∷ ps) pick = omega (arith, one_longer ps pick)

one_by_one : (ps : List Pick) (pick : Pick) (qs : List Pick) → (ps ++ pick ∷ []) ++ qs ≡ ps ++ pick ∷ qs
one_by_one [] pick qs = refl
one_by_one (q ∷ ps) pick qs = ap (λ xs. q ∷ xs) (one_by_one ps pick qs)

-- picks behind others
pub record AreRead (ps : List Pick) (p : Part) (text : List ℕ) (qs : List Pick) : Type 0 where
  pub reading : Reading
  pub runs : run (record { picks = ps; part = p }) text ≡ Some reading
  pub ends : finish reading ≡ Some (ps ++ qs)

pub picks_run : (ps : List Pick) (p : Part) → IsOpening p → (text : List ℕ) (pick : Pick) (qs : List Pick) → length ps + suc (length qs) ≤ TURN_LIMIT → SpellsPicks text (pick ∷ qs) → AreRead ps p text (pick ∷ qs)
picks_run ps p o text pick [] few spells = let is : IsRead ps p text pick = pick_runs ps p o text pick spells in
    record { reading = reading ps is.part; runs = is.runs; ends = finishes ps is.part pick is.stands }
picks_run ps p o text pick (next ∷ qs) few (first, rest, (e, here, there)) =
    let is : IsRead ps p first pick = pick_runs ps p o first pick here in
    let goes : step (reading ps is.part) comma ≡ Some (reading (ps ++ pick ∷ []) Begun) = comma_goes_on ps is.part pick is.stands (omega (arith, few)) in
    let onward : AreRead (ps ++ pick ∷ []) Begun rest (next ∷ qs) = picks_run (ps ++ pick ∷ []) Begun tt rest next qs (omega (arith, few, one_longer ps pick)) there in
    record {
      reading = onward.reading;
      runs = ap (run (reading ps p)) e ∙ (run_then (reading ps p) (reading ps is.part) first (comma ∷ rest) is.runs ∙ (ap (λ o. and_then o (λ s. run s rest)) goes ∙ onward.runs));
      ends = onward.ends ∙ ap Some (one_by_one ps pick (next ∷ qs));
    }

-- a schedule is read as its picks
pub schedule_runs : (text : List ℕ) (picks : List Pick) → SpellsSchedule text picks → AreRead [] Nothing text picks
schedule_runs text [] is = record { reading = start; runs = ap (run start) is.spells; ends = refl }
schedule_runs text (pick ∷ picks) is = let few : suc (length picks) ≤ TURN_LIMIT = is.few in picks_run [] Nothing tt text pick picks (omega (arith, few)) is.spells

pub schedule_read : (text : List ℕ) (picks : List Pick) → SpellsSchedule text picks → picks_of text ≡ Some picks
schedule_read text picks is = let r : AreRead [] Nothing text picks = schedule_runs text picks is in ap picks_of_end r.runs ∙ r.ends
