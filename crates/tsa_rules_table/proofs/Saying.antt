-- What notes of a path make the last row say, and what of it is left to say.
use Rattle.std.proofs.Common.{◌≡◌, ◌∙◌, ℕ, ◌+◌, ◌-◌, ◌<◌, arith, nat_eq, nat_lt, Bool, true, false, ◌&&◌, if◌then◌else◌, List, [], ◌∷◌}
use Rattle.std.proofs.Common.{length, drop, get_or, Some, None, slice_get, refl, sym, ap, add-one, subst}
use Rattle.std.proofs.Math.Seq.{drop-cons}
use Rattle.std.proofs.lemmas.Bool.Decides.{nat_tests}
use Rattle.tsa_place_model.specs.Ways.{Way}
use Rattle.tsa_path.specs.PathTables.{number_of, AreDifferent}
use Rattle.tsa_path.specs.Sameness.{same_way}
use Rattle.tsa_path.proofs.PathsApart.{way_equal, way_itself}
use Rattle.tsa_rules.specs.declared.mark.Mark.{Mark}
use Rattle.tsa_rules_table.specs.declared.note.Note.{Note}
use Rattle.tsa_rules_table.specs.Numbers.{known_number}
use Rattle.tsa_rules_table.specs.Rows.{Rows, is_place, last_row, mark_in, IsBegun, KeepsRows}
use Rattle.tsa_rules_table.specs.Saying.{noted, with_note, Adds, Says}
use Rattle.tsa_rules_table.proofs.Standing.{below_stands, stands_below}
use Rattle.tsa_base.proofs.Numbers.{itself}

has_number : (paths : List Way) (w : Way) (k : ℕ) → known_number paths w ≡ Some k → slice_get paths k ≡ Some w
has_number paths w k e = by (nat_lt (number_of paths w) (length paths)) refl e
  where
    by : (b : Bool) → nat_lt (number_of paths w) (length paths) ≡ b → (if b then Some (number_of paths w) else None) ≡ Some k → slice_get paths k ≡ Some w
    by true below e =
        let is : number_of paths w ≡ k = cc in
        ap (slice_get paths) (sym is) ∙ below_stands paths w (grind (arith, nat_tests))
    by false below e = cc

same_number : (paths : List Way) (w c : Way) (k n : ℕ) → AreDifferent paths → slice_get paths k ≡ Some w → slice_get paths n ≡ Some c → nat_eq k n ≡ same_way w c
same_number paths w c k n different at_k at_n = by (same_way w c) refl
  where
    by : (b : Bool) → same_way w c ≡ b → nat_eq k n ≡ b
    by true same =
        let there : slice_get paths k ≡ Some c = at_k ∙ ap Some (way_equal w c same) in
        let one : k ≡ n = different k n c there at_n in
        grind (arith, nat_tests)
    by false other = unless (nat_eq k n) refl
      where
        unless : (b : Bool) → nat_eq k n ≡ b → b ≡ false
        unless false e = refl
        unless true e =
            let one : k ≡ n = grind (arith, nat_tests) in
            let ways : w ≡ c = cc in
            sym (ap (same_way w) (sym ways) ∙ way_itself w) ∙ other

-- so a note of the number says more of the path
pub number_says : (paths : List Way) (w : Way) (k : ℕ) (note : Note) (old new : Rows) → known_number paths w ≡ Some k → Adds old new k note → Says paths (noted (Some w) note) old new
number_says paths w k note old new known adds n c different there =
    let last = last_row old in
    let place : is_place last k (last, n) ≡ same_way w c = ap (λ b. b && nat_eq k n) (itself last) ∙ same_number paths w c k n different (has_number paths w k known) there in
    ap (λ r. mark_in new (r - 1) n) adds.count ∙ adds.marks last n ∙ ap (λ b. if b then with_note note (mark_in old last n) else mark_in old last n) place

-- and of a path without a number nothing is said
pub nothing_said : (paths : List Way) (w : Way) (note : Note) (m : Rows) → known_number paths w ≡ None → Says paths (noted (Some w) note) m m
nothing_said paths w note m unknown n c different there = by (same_way w c) refl
  where
    by : (b : Bool) → same_way w c ≡ b → mark_in m (last_row m) n ≡ (if b then with_note note (mark_in m (last_row m) n) else mark_in m (last_row m) n)
    by false other = refl
    by true same =
        let at : slice_get paths n ≡ Some w = there ∙ ap Some (sym (way_equal w c same)) in
        let below : nat_lt (number_of paths w) (length paths) ≡ true = let h = stands_below paths w n at in grind (arith, nat_tests) in
        let e : Some (number_of paths w) ≡ None = ap (λ b. if b then Some (number_of paths w) else None) (sym below) ∙ unknown in
        cc

-- Of the last row it is left to say what `rest` makes of its marks, where all that is to be said is what `all` makes of those at the start.
abbrev pub Leaves : List Way → (rest : Way → Mark → Mark) → (now : Rows) → (all : Way → Mark → Mark) → (old : Rows) → Type 0
Leaves paths rest now all old = (number : ℕ) (c : Way) → AreDifferent paths → slice_get paths number ≡ Some c
    → rest c (mark_in now (last_row now) number) ≡ all c (mark_in old (last_row old) number)

one_less : (paths : List Way) (first rest all : Way → Mark → Mark) (old now new : Rows) → Leaves paths (λ c m. rest c (first c m)) now all old → Says paths first now new
    → Leaves paths rest new all old
one_less paths first rest all old now new left says number c different there = ap (rest c) (says number c different there) ∙ left number c different there

-- after the first of what is left is said
module _ {X : Type 0} (walk : List X → Way → Mark → Mark) (first : X → Way → Mark → Mark) (paths : List Way) (all : Way → Mark → Mark) (old : Rows) where
  pub first_said : (here : List Way) (left rest : List X) (x : X) (now new : Rows) → walk (x ∷ rest) ≡ (λ c m. walk rest c (first x c m)) → left ≡ x ∷ rest → here ≡ paths
      → Leaves paths (walk left) now all old → Says here (first x) now new → Leaves paths (walk rest) new all old
  first_said here left rest x now new on cons same leaves says =
      one_less paths (first x) (walk rest) all old now new (subst (λ w. Leaves paths w now all old) (ap walk cons ∙ on) leaves) (subst (λ p. Says p (first x) now new) same says)

  -- and where none is left
  pub all_said : (left : List X) (now : Rows) → walk [] ≡ (λ c m. m) → left ≡ [] → Leaves paths (walk left) now all old → Says paths all old now
  all_said left now done none leaves = subst (λ w. Leaves paths w now all old) (ap walk none ∙ done) leaves

-- what is left of a list begins with the thing at the index
pub next_is : {X : Type 0} (xs : List X) (i : ℕ) (x : X) → i < length xs → x ≡ get_or xs i x → drop i xs ≡ x ∷ drop (i + 1) xs
next_is xs i x within is = drop-cons xs i x within ∙ (λ j. sym is j ∷ drop (sym (add-one i) j) xs)

-- rows that are kept twice are kept
pub kept_on : (old now new : Rows) → KeepsRows old now → KeepsRows now new → KeepsRows old new
kept_on old now new one two = record {
  count = two.count ∙ one.count;
  marks = λ row number before. two.marks row number (omega (arith, one.count, before)) ∙ one.marks row number before;
}

-- and a row stays begun
pub begun_on : (old new : Rows) → KeepsRows old new → IsBegun old → IsBegun new
begun_on old new kept begun = subst (λ n. 0 < n) (sym kept.count) begun
