-- Where a text that is no schedule breaks.
use Rattle.std.proofs.Common.{◌≡◌, ◌∙◌, ℕ, zero, suc, ◌+◌, ◌*◌, ◌<◌, ◌≤◌, ◌^◌, ◌++◌, ℤ, pos, negsuc, List, [], ◌∷◌, length, take, get_or, slice_index_or, Option, Some, None, refl, sym, ap, subst, arith, ◌⊎◌, inl, inr}
use Rattle.std.proofs.Math.Seq.{take-suc}
use Rattle.std.proofs.lemmas.List.{length-append}
use Rattle.std.specs.Fmt.{decimal, signed_decimal}
use Rattle.std.proofs.lemmas.Fmt.{length-decimal-le}
use Rattle.tsa_base.specs.declared.limits.TheConstants.{TURN_LIMIT}
use Rattle.tsa_sched.specs.declared.pick.Pick.{Pick}
use Rattle.tsa_sched.specs.declared.part.Part.{Part}
use Rattle.tsa_sched.specs.Schedules.{comma, colon, IsInt, IsPickText, SpellsPick, SpellsPicks, SpellsSchedule, BeginsSchedule, IsMalformed}
use Rattle.tsa_sched.specs.Parts.{Reading, reading, start, step, and_then, run, finish, picks_of, picks_of_end, IsPart}
use Rattle.tsa_sched.proofs.Running.{run_then, schedule_read, AreRead, schedule_runs}
use Rattle.tsa_sched.proofs.Standing.{Stands, start_stands, run_stands, stands_begins, read_spells}

assoc : (xs ys zs : List ℕ) → (xs ++ ys) ++ zs ≡ xs ++ (ys ++ zs)
assoc [] ys zs = refl
assoc (x ∷ xs) ys zs = ap (λ ws. x ∷ ws) (assoc xs ys zs)

-- what is read begins a schedule
pub read_begins : (text : List ℕ) (r : Reading) → run start text ≡ Some r → BeginsSchedule text
read_begins text r e = stands_begins r text (run_stands start r text [] start_stands e)

-- a byte that can't stand there begins none
begins_none : (text : List ℕ) (r : Reading) (b : ℕ) → run start text ≡ Some r → step r b ≡ None → BeginsSchedule (text ++ b ∷ []) → ⊥
begins_none text r b e stops (more, picks, spells) =
    let a : AreRead [] _ ((text ++ b ∷ []) ++ more) picks = schedule_runs ((text ++ b ∷ []) ++ more) picks spells in
    let here : run start ((text ++ b ∷ []) ++ more) ≡ None =
    ap (run start) (assoc text (b ∷ []) more) ∙ (run_then start r text (b ∷ more) e ∙ ap (λ o. and_then o (λ s. run s more)) stops) in
    let clash : None ≡ Some a.reading = sym here ∙ a.runs in cc

pub breaks_at : (text : List ℕ) (at : ℕ) (r : Reading) → at < length text → run start (take at text) ≡ Some r → step r (slice_index_or text at 0) ≡ None → IsMalformed text at
breaks_at text at r inside e stops = record {
  before = read_begins (take at text) r e;
  breaks = inl (
    inside,
    λ begins. let one : at + 1 ≡ suc at = omega arith in
        begins_none (take at text) r (get_or text at 0) e stops (subst BeginsSchedule (ap (λ n. take n text) one ∙ take-suc text at 0 inside) begins),
  );
}

pub breaks_off : (text : List ℕ) (r : Reading) → run start text ≡ Some r → take (length text) text ≡ text → finish r ≡ None → IsMalformed text (length text)
breaks_off text r e whole none = record {
  before = subst BeginsSchedule (sym whole) (read_begins text r e);
  breaks = inr (
    refl,
    λ picks spells. let some : picks_of text ≡ Some picks = schedule_read text picks spells in
        let clash : None ≡ Some picks = sym none ∙ (sym (ap picks_of_end e) ∙ some) in cc,
  );
}

-- a schedule is short
pick_short : (text : List ℕ) (pick : Pick) → IsPickText text pick → length text ≤ 22
pick_short text pick is = by is.spells
  where
    thread : length (decimal pick.thread) ≤ 10
    thread = length-decimal-le 10 pick.thread (omega arith) (omega (arith, is.thread)) (omega (arith, is.thread))

    answer : (z : ℤ) → IsInt z → length (signed_decimal z) ≤ 11
    answer (pos n) h = let few : length (decimal n) ≤ 10 = length-decimal-le 10 n (omega arith) (omega (arith, h)) (omega (arith, h)) in omega (arith, few)
    answer (negsuc n) h = let few : length (decimal (suc n)) ≤ 10 = length-decimal-le 10 (suc n) (omega arith) (omega (arith, h)) (omega (arith, h)) in
        let is : length (signed_decimal (negsuc n)) ≡ suc (length (decimal (suc n))) = refl in omega (arith, few, is)

    by : SpellsPick text pick → length text ≤ 22
    by (inl e) = omega (arith, thread, ap length e.0)
    by (inr e) = let long : length (decimal pick.thread ++ colon ∷ signed_decimal pick.answer) ≡ length (decimal pick.thread) + length (colon ∷ signed_decimal pick.answer) = length-append (decimal pick.thread) (colon ∷ signed_decimal pick.answer) in
        let one : length (colon ∷ signed_decimal pick.answer) ≡ suc (length (signed_decimal pick.answer)) = refl in
        let rest : length (signed_decimal pick.answer) ≤ 11 = answer pick.answer is.answer in
        omega (arith, thread, ap length e, long, one, rest)

picks_short : (text : List ℕ) (picks : List Pick) → SpellsPicks text picks → length text ≤ 23 * length picks
picks_short text [] is = omega (arith, ap length is)
picks_short text (pick ∷ []) is = let few : length text ≤ 22 = pick_short text pick is in omega (arith, few)
picks_short text (pick ∷ next ∷ picks) (first, rest, (e, here, there)) =
    let few : length first ≤ 22 = pick_short first pick here in
    let more : length rest ≤ 23 * length (next ∷ picks) = picks_short rest (next ∷ picks) there in
    let long : length (first ++ comma ∷ rest) ≡ length first + length (comma ∷ rest) = length-append first (comma ∷ rest) in
    let one : length (comma ∷ rest) ≡ suc (length rest) = refl in
    let all : length (pick ∷ next ∷ picks) ≡ suc (length (next ∷ picks)) = refl in
    omega (arith, few, more, long, one, all, ap length e)

pub begins_short : (text : List ℕ) → BeginsSchedule text → length text < 2 ^ 32
begins_short text (more, picks, spells) =
    let all : length (text ++ more) ≤ 23 * length picks = picks_short (text ++ more) picks spells.spells in
    let few : length picks ≤ TURN_LIMIT = spells.few in
    let is : length (text ++ more) ≡ length text + length more = length-append text more in
    omega (arith, all, few, is)

-- the reader's steps
take_long : (n : ℕ) (xs : List ℕ) → n ≤ length xs → length (take n xs) ≡ n
take_long zero xs h = refl
take_long (suc n) [] h = absurd (omega (arith, h))
take_long (suc n) (x ∷ xs) h = ap suc (take_long n xs (omega (arith, h)))

take_whole : (n : ℕ) (xs : List ℕ) → n ≡ length xs → take n xs ≡ xs
take_whole zero [] h = refl
take_whole zero (x ∷ xs) h = absurd (omega (arith, h))
take_whole (suc n) [] h = absurd (omega (arith, h))
take_whole (suc n) (x ∷ xs) h = ap (λ ys. x ∷ ys) (take_whole n xs (omega (arith, h)))

pub short_at : (text : List ℕ) (at : ℕ) (r : Reading) → at ≤ length text → run start (take at text) ≡ Some r → at < 2 ^ 32
short_at text at r inside e = let short : length (take at text) < 2 ^ 32 = begins_short (take at text) (read_begins (take at text) r e) in
    omega (arith, short, take_long at text inside)

pub byte_read : (text : List ℕ) (at : ℕ) (r s : Reading) → at < length text → run start (take at text) ≡ Some r → step r (slice_index_or text at 0) ≡ Some s → run start (take (at + 1) text) ≡ Some s
byte_read text at r s inside e goes = let one : at + 1 ≡ suc at = omega arith in
    ap (λ n. run start (take n text)) one ∙ (ap (run start) (take-suc text at 0 inside) ∙ (run_then start r (take at text) (slice_index_or text at 0 ∷ []) e ∙ ap (λ o. and_then o (λ s. run s [])) goes))

pub part_fits : (text : List ℕ) (r : Reading) → run start text ≡ Some r → IsPart r.part
part_fits text r e = let st : Stands r text = run_stands start r text [] start_stands e in st.fits

pub whole_read : (text : List ℕ) (at : ℕ) (r : Reading) → at ≡ length text → run start (take at text) ≡ Some r → run start text ≡ Some r
whole_read text at r e is = ap (run start) (sym (take_whole at text e)) ∙ is

pub ends_well : (text : List ℕ) (at : ℕ) (r : Reading) (picks : List Pick) → at ≡ length text → run start (take at text) ≡ Some r → finish r ≡ Some picks → SpellsSchedule text picks
ends_well text at r picks e is ends = read_spells text picks (ap picks_of_end (whole_read text at r e is) ∙ ends)

pub ends_badly : (text : List ℕ) (at : ℕ) (r : Reading) → at ≡ length text → run start (take at text) ≡ Some r → finish r ≡ None → IsMalformed text at
ends_badly text at r e is ends = subst (IsMalformed text) (sym e) (breaks_off text r (whole_read text at r e is) (take_whole (length text) text refl) ends)
