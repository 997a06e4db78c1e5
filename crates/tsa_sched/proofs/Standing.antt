-- What a text that is read so far says, and that some schedule begins so.
use Rattle.std.proofs.Common.{◌≡◌, ◌∙◌, ℕ, zero, suc, ◌+◌, ◌-◌, ◌*◌, ◌/◌, ◌%◌, ◌<◌, ◌≤◌, ◌^◌, ◌++◌, ◌==◌, ◌&&◌, nat_le, nat_lt, Bool, true, false, ℤ, pos, negsuc, List, [], ◌∷◌, length, Option, Some, None, option_map, if◌then◌else◌, refl, sym, ap, subst, arith, ◌⊎◌, inl, inr}
use Rattle.std.proofs.lemmas.Bool.Decides.{nat_tests}
use Rattle.std.specs.Fmt.{decimal, signed_decimal}
use Rattle.std.proofs.lemmas.Fmt.{decimal_digit}
use Rattle.tsa_base.specs.declared.limits.TheConstants.{TURN_LIMIT}
use Rattle.tsa_sched.specs.declared.pick.Pick.{Pick}
use Rattle.tsa_sched.specs.declared.part.Part.{Part}
use Rattle.tsa_sched.specs.declared.part.Part.TheVariants.{Nothing, Begun, Thread, Asked, Minus, Answer}
use Rattle.tsa_sched.specs.Schedules.{comma, colon, hyphen, IsInt, IsPickText, SpellsPick, SpellsPicks, SpellsSchedule, BeginsSchedule}
use Rattle.tsa_sched.specs.Parts.{most, signed, digit, longer, first_of_negative, grown, pick_in, IsPart, Reading, reading, start, behind_comma, step, and_then, run, finish, picks_of, picks_of_end}
use Rattle.tsa_sched.proofs.Digits.{IsDigit, digit_is, first_is, IsLonger, longer_is, decimal_more}
use Rattle.tsa_sched.proofs.Running.{run_then}

assoc : (xs ys zs : List ℕ) → (xs ++ ys) ++ zs ≡ xs ++ (ys ++ zs)
assoc [] ys zs = refl
assoc (x ∷ xs) ys zs = ap (λ ws. x ∷ ws) (assoc xs ys zs)

with_nil : (xs : List ℕ) → xs ++ [] ≡ xs
with_nil [] = refl
with_nil (x ∷ xs) = ap (λ ws. x ∷ ws) (with_nil xs)

-- the text of a part
abbrev pub part_text : Part → List ℕ
part_text Nothing = []
part_text Begun = []
part_text (Thread n) = decimal n
part_text (Asked n) = decimal n ++ colon ∷ []
part_text (Minus n) = decimal n ++ colon ∷ hyphen ∷ []
part_text (Answer n false m) = decimal n ++ colon ∷ decimal m
part_text (Answer n true m) = decimal n ++ colon ∷ hyphen ∷ decimal m

-- a part that has grown isn't the one in front of all
abbrev pub IsLater : Part → Type 0
IsLater Nothing = ⊥
IsLater _ = Unit {0}

pub record Grows (p q : Part) (b : ℕ) : Type 0 where
  pub text : part_text q ≡ part_text p ++ b ∷ []
  pub fits : IsPart q
  pub later : IsLater q

first_digit : (b d : ℕ) → IsDigit b d → decimal d ≡ b ∷ []
first_digit b d is = decimal_digit d is.low ∙ ap (λ k. k ∷ []) (sym is.byte)

more_digits : (limit n b m : ℕ) → limit < 2 ^ 32 → IsLonger limit n b m → decimal m ≡ decimal n ++ b ∷ []
more_digits limit n b m low is = ap decimal is.more
    ∙ decimal_more n is.digit is.some is.is_digit.low (omega (arith, low, is.fits, is.more))
    ∙ ap (λ k. decimal n ++ k ∷ []) (sym is.is_digit.byte)

-- what an Option of a digit grows to
opening_grows : (p : Part) → part_text p ≡ [] → (b : ℕ) (q : Part) (o : Option ℕ) → digit b ≡ o → option_map Thread o ≡ Some q → Grows p q b
opening_grows p none b q None e z = cc
opening_grows p none b q (Some d) e z = subst (λ q. Grows p q b) (some_part z) (record {
  text = first_digit b d (digit_is b d e) ∙ ap (λ t. t ++ b ∷ []) (sym none);
  fits = let is : IsDigit b d = digit_is b d e in omega (arith, is.low);
  later = tt;
})
  where
    some_part : option_map Thread (Some d) ≡ Some q → Thread d ≡ q
    some_part z = cc

thread_grows : (n b : ℕ) (q : Part) (o : Option ℕ) → longer (2 ^ 32 - 1) n b ≡ o → option_map Thread o ≡ Some q → Grows (Thread n) q b
thread_grows n b q None e z = cc
thread_grows n b q (Some m) e z = subst (λ q. Grows (Thread n) q b) (some_part z) (let is : IsLonger (2 ^ 32 - 1) n b m = longer_is (2 ^ 32 - 1) n b m e in record {
  text = more_digits (2 ^ 32 - 1) n b m (omega arith) is;
  fits = omega (arith, is.fits);
  later = tt;
})
  where
    some_part : option_map Thread (Some m) ≡ Some q → Thread m ≡ q
    some_part z = cc

asked_grows : (n b : ℕ) (q : Part) (o : Option ℕ) → n < 2 ^ 32 → digit b ≡ o → option_map (Answer n false) o ≡ Some q → Grows (Asked n) q b
asked_grows n b q None h e z = cc
asked_grows n b q (Some d) h e z = subst (λ q. Grows (Asked n) q b) (some_part z) (let is : IsDigit b d = digit_is b d e in record {
  text = ap (λ t. decimal n ++ colon ∷ t) (first_digit b d is) ∙ sym (assoc (decimal n) (colon ∷ []) (b ∷ []));
  fits = (h, omega (arith, is.low));
  later = tt;
})
  where
    some_part : option_map (Answer n false) (Some d) ≡ Some q → Answer n false d ≡ q
    some_part z = cc

minus_grows : (n b : ℕ) (q : Part) (o : Option ℕ) → n < 2 ^ 32 → first_of_negative b ≡ o → option_map (Answer n true) o ≡ Some q → Grows (Minus n) q b
minus_grows n b q None h e z = cc
minus_grows n b q (Some d) h e z = subst (λ q. Grows (Minus n) q b) (some_part z) (let is : IsDigit b d × (0 < d) = first_is b d e in record {
  text = ap (λ t. decimal n ++ colon ∷ hyphen ∷ t) (first_digit b d is.0) ∙ sym (assoc (decimal n) (colon ∷ hyphen ∷ []) (b ∷ []));
  fits = let low : d < 10 = is.0.low in (h, (is.1, omega (arith, low)));
  later = tt;
})
  where
    some_part : option_map (Answer n true) (Some d) ≡ Some q → Answer n true d ≡ q
    some_part z = cc

answer_grows : (n : ℕ) (s : Bool) (m b : ℕ) (q : Part) (o : Option ℕ) → IsPart (Answer n s m) → longer (most s) m b ≡ o → option_map (Answer n s) o ≡ Some q → Grows (Answer n s m) q b
answer_grows n s m b q None h e z = cc
answer_grows n false m b q (Some k) h e z = subst (λ q. Grows (Answer n false m) q b) (some_part z) (let is : IsLonger (most false) m b k = longer_is (most false) m b k e in record {
  text = ap (λ t. decimal n ++ colon ∷ t) (more_digits (most false) m b k (omega arith) is) ∙ sym (assoc (decimal n) (colon ∷ decimal m) (b ∷ []));
  fits = (h.0, is.fits);
  later = tt;
})
  where
    some_part : option_map (Answer n false) (Some k) ≡ Some q → Answer n false k ≡ q
    some_part z = cc
answer_grows n true m b q (Some k) h e z = subst (λ q. Grows (Answer n true m) q b) (some_part z) (let is : IsLonger (most true) m b k = longer_is (most true) m b k e in record {
  text = ap (λ t. decimal n ++ colon ∷ hyphen ∷ t) (more_digits (most true) m b k (omega arith) is) ∙ sym (assoc (decimal n) (colon ∷ hyphen ∷ decimal m) (b ∷ []));
  fits = (h.0, (omega (arith, is.some, is.more), is.fits));
  later = tt;
})
  where
    some_part : option_map (Answer n true) (Some k) ≡ Some q → Answer n true k ≡ q
    some_part z = cc

byte_is : (b c : ℕ) → (b == c) ≡ true → b ≡ c
byte_is b c e = grind (arith, nat_tests, e)

pub grows : (p q : Part) (b : ℕ) → IsPart p → grown p b ≡ Some q → Grows p q b
grows Nothing q b h e = opening_grows Nothing refl b q (digit b) refl e
grows Begun q b h e = opening_grows Begun refl b q (digit b) refl e
grows (Thread n) q b h e = by (b == colon) refl e
  where
    by : (t : Bool) → (b == colon) ≡ t → (if t then Some (Asked n) else option_map Thread (longer (2 ^ 32 - 1) n b)) ≡ Some q → Grows (Thread n) q b
    by true is e = let same : Asked n ≡ q = cc in subst (λ q. Grows (Thread n) q b) same (record {
      text = ap (λ k. decimal n ++ k ∷ []) (sym (byte_is b colon is));
      fits = h;
      later = tt;
    })
    by false is e = thread_grows n b q (longer (2 ^ 32 - 1) n b) refl e
grows (Asked n) q b h e = by (b == hyphen) refl e
  where
    by : (t : Bool) → (b == hyphen) ≡ t → (if t then Some (Minus n) else option_map (Answer n false) (digit b)) ≡ Some q → Grows (Asked n) q b
    by true is e = let same : Minus n ≡ q = cc in subst (λ q. Grows (Asked n) q b) same (record {
      text = ap (λ k. decimal n ++ colon ∷ k ∷ []) (sym (byte_is b hyphen is)) ∙ sym (assoc (decimal n) (colon ∷ []) (b ∷ []));
      fits = h;
      later = tt;
    })
    by false is e = asked_grows n b q (digit b) h refl e
grows (Minus n) q b h e = minus_grows n b q (first_of_negative b) h refl e
grows (Answer n s m) q b h e = answer_grows n s m b q (longer (most s) m b) h refl e

-- a part in which a pick stands is its text
pick_text : (p : Part) (pick : Pick) → IsPart p → pick_in p ≡ Some pick → IsPickText (part_text p) pick
pick_text Nothing pick h e = cc
pick_text Begun pick h e = cc
pick_text (Asked n) pick h e = cc
pick_text (Minus n) pick h e = cc
pick_text (Thread n) pick h e = subst (IsPickText (decimal n)) (some_pick e) (record { thread = h; answer = omega arith; spells = inl (refl, refl) })
  where
    some_pick : pick_in (Thread n) ≡ Some pick → record { thread = n; answer = pos 0 } ≡ pick
    some_pick e = cc
pick_text (Answer n false m) pick h e = subst (IsPickText (decimal n ++ colon ∷ decimal m)) (some_pick e)
    (record { thread = h.0; answer = omega (arith, h.1); spells = inr refl })
  where
    some_pick : pick_in (Answer n false m) ≡ Some pick → record { thread = n; answer = pos m } ≡ pick
    some_pick e = cc
pick_text (Answer n true zero) pick h e = absurd (omega (arith, h.1.0))
pick_text (Answer n true (suc m)) pick h e = subst (IsPickText (decimal n ++ colon ∷ hyphen ∷ decimal (suc m))) (some_pick e)
    (record { thread = h.0; answer = omega (arith, h.1.1); spells = inr refl })
  where
    some_pick : pick_in (Answer n true (suc m)) ≡ Some pick → record { thread = n; answer = negsuc m } ≡ pick
    some_pick e = cc

-- what stands in front of a part: nothing, or picks and a comma
abbrev pub Fronts : List Pick → List ℕ → Type 0
Fronts [] front = front ≡ []
Fronts (pick ∷ picks) front = (text : List ℕ) × ((front ≡ text ++ comma ∷ []) × SpellsPicks text (pick ∷ picks))

abbrev pub IsFirstPart : Part → List Pick → Type 0
IsFirstPart Nothing picks = picks ≡ []
IsFirstPart _ picks = Unit {0}

pub record Stands (r : Reading) (text : List ℕ) : Type 0 where
  pub front : List ℕ
  pub fronts : Fronts r.picks front
  pub few : length r.picks < TURN_LIMIT
  pub is : text ≡ front ++ part_text r.part
  pub fits : IsPart r.part
  pub first : IsFirstPart r.part r.picks

pub start_stands : Stands start []
start_stands = record { front = []; fronts = refl; few = omega arith; is = refl; fits = tt; first = refl }

-- a further pick behind others
one_more : (picks : List Pick) (text : List ℕ) (pick : Pick) (last : List ℕ) → SpellsPicks text picks → (picks ≡ [] → ⊥) → IsPickText last pick → SpellsPicks (text ++ comma ∷ last) (picks ++ pick ∷ [])
one_more [] text pick last is some one = absurd (some refl)
one_more (p ∷ []) text pick last is some one = (text, last, (refl, is, one))
one_more (p ∷ q ∷ ps) text pick last (first, rest, (e, here, there)) some one =
    (first, rest ++ comma ∷ last, (ap (λ t. t ++ comma ∷ last) e ∙ assoc first (comma ∷ rest) (comma ∷ last), here, one_more (q ∷ ps) rest pick last there (λ z. cc) one))

pub with_pick : (picks : List Pick) (front : List ℕ) (pick : Pick) (last : List ℕ) → Fronts picks front → IsPickText last pick → SpellsPicks (front ++ last) (picks ++ pick ∷ [])
with_pick [] front pick last e one = subst (λ t. IsPickText (t ++ last) pick) (sym e) one
with_pick (p ∷ ps) front pick last (text, (e, is)) one = subst (λ t. SpellsPicks t ((p ∷ ps) ++ pick ∷ [])) (sym (ap (λ t. t ++ last) e ∙ assoc text (comma ∷ []) last))
    (one_more (p ∷ ps) text pick last is (λ z. cc) one)

fronts_of : (picks : List Pick) (pick : Pick) (text : List ℕ) → SpellsPicks text (picks ++ pick ∷ []) → Fronts (picks ++ pick ∷ []) (text ++ comma ∷ [])
fronts_of [] pick text is = (text, (refl, is))
fronts_of (p ∷ ps) pick text is = (text, (refl, is))

long : (ps : List Pick) (pick : Pick) → length (ps ++ pick ∷ []) ≡ length ps + 1
long [] pick = refl
long (q ∷ ps) pick = omega (arith, long ps pick)

-- a byte more
comma_stands : (r s : Reading) (text : List ℕ) (o : Option Pick) → Stands r text → pick_in r.part ≡ o → behind_comma r.picks o ≡ Some s → Stands s (text ++ comma ∷ [])
comma_stands r s text None st e z = cc
comma_stands r s text (Some pick) st e z = by (nat_lt (length r.picks + 1) TURN_LIMIT) refl z
  where
    by : (b : Bool) → nat_lt (length r.picks + 1) TURN_LIMIT ≡ b → (if b then Some (reading (r.picks ++ pick ∷ []) Begun) else None) ≡ Some s → Stands s (text ++ comma ∷ [])
    by false is z = cc
    by true is z = let same : reading (r.picks ++ pick ∷ []) Begun ≡ s = cc in
        let room : length r.picks + 1 < TURN_LIMIT = grind (arith, nat_tests, is) in
        subst (λ s. Stands s (text ++ comma ∷ [])) same (record {
          front = text ++ comma ∷ [];
          fronts = fronts_of r.picks pick text (subst (λ t. SpellsPicks t (r.picks ++ pick ∷ [])) (sym st.is) (with_pick r.picks st.front pick (part_text r.part) st.fronts (pick_text r.part pick st.fits e)));
          few = omega (arith, room, long r.picks pick);
          is = sym (with_nil (text ++ comma ∷ []));
          fits = tt;
          first = tt;
        })

later_first : (p : Part) (picks : List Pick) → IsLater p → IsFirstPart p picks
later_first Nothing picks h = absurd h
later_first Begun picks h = tt
later_first (Thread n) picks h = tt
later_first (Asked n) picks h = tt
later_first (Minus n) picks h = tt
later_first (Answer n s m) picks h = tt

part_stands : (r s : Reading) (b : ℕ) (text : List ℕ) (o : Option Part) → Stands r text → grown r.part b ≡ o → option_map (reading r.picks) o ≡ Some s → Stands s (text ++ b ∷ [])
part_stands r s b text None st e z = cc
part_stands r s b text (Some q) st e z = let same : reading r.picks q ≡ s = cc in
    let g : Grows r.part q b = grows r.part q b st.fits e in
    subst (λ s. Stands s (text ++ b ∷ [])) same (record {
      front = st.front;
      fronts = st.fronts;
      few = st.few;
      is = ap (λ t. t ++ b ∷ []) st.is ∙ (assoc st.front (part_text r.part) (b ∷ []) ∙ ap (λ t. st.front ++ t) (sym g.text));
      fits = g.fits;
      first = later_first q r.picks g.later;
    })

pub step_stands : (r s : Reading) (b : ℕ) (text : List ℕ) → Stands r text → step r b ≡ Some s → Stands s (text ++ b ∷ [])
step_stands r s b text st e = by (b == comma) refl e
  where
    by : (t : Bool) → (b == comma) ≡ t → (if t then behind_comma r.picks (pick_in r.part) else option_map (reading r.picks) (grown r.part b)) ≡ Some s → Stands s (text ++ b ∷ [])
    by true is e = subst (λ k. Stands s (text ++ k ∷ [])) (sym (byte_is b comma is)) (comma_stands r s text (pick_in r.part) st refl e)
    by false is e = part_stands r s b text (grown r.part b) st refl e

pub run_stands : (r s : Reading) (bs text : List ℕ) → Stands r text → run r bs ≡ Some s → Stands s (text ++ bs)
run_stands r s [] text st e = let same : r ≡ s = cc in subst (λ s. Stands s (text ++ [])) same (subst (Stands r) (sym (with_nil text)) st)
run_stands r s (b ∷ bs) text st e = by (step r b) refl e (λ q h z. subst (Stands s) (assoc text (b ∷ []) bs) (run_stands q s bs (text ++ b ∷ []) h z))
  where
    by : (o : Option Reading) → step r b ≡ o → and_then o (λ q. run q bs) ≡ Some s → ((q : Reading) → Stands q (text ++ b ∷ []) → run q bs ≡ Some s → Stands s (text ++ b ∷ bs)) → Stands s (text ++ b ∷ bs)
    by None e z each = cc
    by (Some q) e z each = each q (step_stands r q b text st e) z

-- a schedule that may end there is one
ends_as : (r : Reading) (text : List ℕ) (pick : Pick) (picks : List Pick) → Stands r text → pick_in r.part ≡ Some pick → r.picks ++ pick ∷ [] ≡ picks → SpellsSchedule text picks
ends_as r text pick picks st e same = subst (SpellsSchedule text) same (record {
  few = let n : length (r.picks ++ pick ∷ []) ≡ length r.picks + 1 = long r.picks pick in omega (arith, st.few, n);
  spells = subst (λ t. SpellsPicks t (r.picks ++ pick ∷ [])) (sym st.is) (with_pick r.picks st.front pick (part_text r.part) st.fronts (pick_text r.part pick st.fits e));
})

some_ends : (r : Reading) (text : List ℕ) (picks : List Pick) (o : Option Pick) → Stands r text → pick_in r.part ≡ o → option_map (λ pick. r.picks ++ pick ∷ []) o ≡ Some picks → SpellsSchedule text picks
some_ends r text picks None st e z = cc
some_ends r text picks (Some pick) st e z = let same : r.picks ++ pick ∷ [] ≡ picks = cc in ends_as r text pick picks st e same

pub finish_spells : (r : Reading) (text : List ℕ) (picks : List Pick) → Stands r text → finish r ≡ Some picks → SpellsSchedule text picks
finish_spells r text picks st e = by r.part refl e
  where
    by : (p : Part) → r.part ≡ p → finish (reading r.picks p) ≡ Some picks → SpellsSchedule text picks
    by Nothing is e = let none : r.picks ≡ [] = subst (λ p. IsFirstPart p r.picks) is st.first in
        let same : r.picks ≡ picks = cc in
        let empty : st.front ≡ [] = subst (λ ps. Fronts ps st.front) none st.fronts in
        subst (SpellsSchedule text) (sym none ∙ same) (record { few = omega arith; spells = st.is ∙ (ap (λ f. f ++ part_text r.part) empty ∙ ap part_text is) })
    by Begun is e = some_ends r text picks (pick_in r.part) st refl (ap (λ p. option_map (λ pick. r.picks ++ pick ∷ []) (pick_in p)) is ∙ e)
    by (Thread n) is e = some_ends r text picks (pick_in r.part) st refl (ap (λ p. option_map (λ pick. r.picks ++ pick ∷ []) (pick_in p)) is ∙ e)
    by (Asked n) is e = some_ends r text picks (pick_in r.part) st refl (ap (λ p. option_map (λ pick. r.picks ++ pick ∷ []) (pick_in p)) is ∙ e)
    by (Minus n) is e = some_ends r text picks (pick_in r.part) st refl (ap (λ p. option_map (λ pick. r.picks ++ pick ∷ []) (pick_in p)) is ∙ e)
    by (Answer n s m) is e = some_ends r text picks (pick_in r.part) st refl (ap (λ p. option_map (λ pick. r.picks ++ pick ∷ []) (pick_in p)) is ∙ e)

-- and each reading can be completed
record Completes (r : Reading) : Type 0 where
  more : List ℕ
  reading : Reading
  picks : List Pick
  runs : run r more ≡ Some reading
  ends : finish reading ≡ Some picks

completes : (ps : List Pick) (p : Part) → Completes (reading ps p)
completes ps Nothing = record { more = []; reading = reading ps Nothing; picks = ps; runs = refl; ends = refl }
completes ps Begun = record { more = 48 ∷ []; reading = reading ps (Thread 0); picks = ps ++ record { thread = 0; answer = pos 0 } ∷ []; runs = refl; ends = refl }
completes ps (Thread n) = record { more = []; reading = reading ps (Thread n); picks = ps ++ record { thread = n; answer = pos 0 } ∷ []; runs = refl; ends = refl }
completes ps (Asked n) = record { more = 48 ∷ []; reading = reading ps (Answer n false 0); picks = ps ++ record { thread = n; answer = pos 0 } ∷ []; runs = refl; ends = refl }
completes ps (Minus n) = record { more = 49 ∷ []; reading = reading ps (Answer n true 1); picks = ps ++ record { thread = n; answer = negsuc 0 } ∷ []; runs = refl; ends = refl }
completes ps (Answer n s m) = record { more = []; reading = reading ps (Answer n s m); picks = ps ++ record { thread = n; answer = signed s m } ∷ []; runs = refl; ends = refl }

pub stands_begins : (r : Reading) (text : List ℕ) → Stands r text → BeginsSchedule text
stands_begins r text st = let c : Completes r = completes r.picks r.part in
    (c.more, c.picks, finish_spells c.reading (text ++ c.more) c.picks (run_stands r c.reading c.more text st c.runs) c.ends)

pub read_spells : (text : List ℕ) (picks : List Pick) → picks_of text ≡ Some picks → SpellsSchedule text picks
read_spells text picks e = by (run start text) refl e
  where
    by : (o : Option Reading) → run start text ≡ o → picks_of_end o ≡ Some picks → SpellsSchedule text picks
    by None e z = cc
    by (Some r) e z = finish_spells r text picks (run_stands start r text [] start_stands e) z
