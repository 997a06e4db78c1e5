-- Sizes that stop at a number, and structs as they are kept.
use Rattle.std.proofs.Common.{◌≡◌, ◌∙◌, ℕ, zero, suc, ◌+◌, ◌*◌, ◌<◌, ◌≤◌, arith, min, nat_eq, nat_lt, Bool, true, false, if◌then◌else◌}
use Rattle.std.proofs.Common.{get_or, List, [], ◌∷◌, ◌++◌, length, Some, slice_get, refl, sym, ap, subst}
use Rattle.std.proofs.Math.ListN.{get_or-append}
use Rattle.std.proofs.Math.Seq.{get_or-append_seam}
use Rattle.std.proofs.lemmas.Bool.{eq-eqb}
use Rattle.std.proofs.lemmas.Bool.Decides.{nat_tests}
use Rattle.std.proofs.lemmas.List.{length-append}
use Rattle.std.proofs.lemmas.Option.{slice_get_within, slice_get-get_or, get_or_from_slice_get}
use Rattle.tsa_place_model.specs.Layouts.{Structure, Structures, structure_at, no_members, size_of, members_size, capped}
use Rattle.tsa_place_model.specs.Standing.{AllBelow, IsOrdered}
use Rattle.tsa_place_model.proofs.Standing.{earlier_size, members_below}
use Rattle.tsa_place_layout.specs.Tables.{shown, latest, begins_from, IsSized, IsKept}
use Rattle.tsa_place_layout.proofs.Begins.{as_many, begins_later, kept_at, none_at, other}
use Rattle.tsa_place_layout.specs.declared.structures.Defined.{Defined}

-- a struct that isn't defined takes one place
past_step : (b : Bool) (x y : ℕ) → b ≡ false → y ≡ 1 → (if b then x else y) ≡ 1
past_step true x y h e = cc
past_step false x y h e = e

pub size_past : (all : Structures) (n : ℕ) → length all ≤ n → size_of all n ≡ 1
unfolding size_of
size_past [] n h = refl
size_past (s ∷ earlier) n h =
    let less : length earlier < n = omega (arith, h) in
    let within : length earlier ≤ n = omega (arith, h) in
    past_step (nat_eq n (length earlier)) (1 + members_size (size_of earlier) s.members) (size_of earlier n) (other n (length earlier) less) (size_past earlier n within)

-- a struct by its number, as code finds it
module _ (all : Structures) (list seen : List Defined) (n : ℕ) (is : latest list [] ≡ all) (same : seen ≡ list) where
  pub found_at : IsSized list → (d : Defined) → n < length seen → d ≡ get_or seen n d → IsKept all n d
  found_at sized d less there =
      let kept : slice_get list n ≡ Some d = ap (λ l. slice_get l n) (sym same) ∙ slice_get-get_or seen n d less ∙ ap Some (sym there) in
      subst (λ s. IsKept s n d) is (record { shows = kept_at list n d kept; size = sized.sized n d kept; begins = sized.begun n d kept })

  pub missing_at : length seen ≤ n → structure_at all n ≡ no_members × size_of all n ≡ 1
  missing_at past =
      let many : length all ≡ length list + 0 = ap length (sym is) ∙ as_many list [] in
      let as_long : length seen ≡ length list = ap length same in
      let beyond : length all ≤ n = omega (arith, many, past, as_long) in
      (none_at all n beyond, size_past all n beyond)

-- no structs
nothing : IsSized []
unfolding IsOrdered
nothing = record { ordered = tt; sized = λ n d h. cc; begun = λ n d h. cc }

pub none_sized : (list : List Defined) → list ≡ [] → IsSized list
none_sized list e = subst IsSized (sym e) nothing

-- so many times a count that stops
sums : (x y r s : ℕ) → min x 65537 ≡ min y 65537 → min r 65537 ≡ min s 65537 → min (x + r) 65537 ≡ min (y + s) 65537
sums x y r s h k = omega (arith, h, k)

twice : (b : ℕ) → min (min b 65537) 65537 ≡ min b 65537
twice b = omega arith

pub capped_times : (n b : ℕ) → capped (n * capped b) ≡ capped (n * b)
capped_times zero b = let one : 0 * capped b ≡ 0 = grind arith in let two : 0 * b ≡ 0 = grind arith in ap capped (one ∙ sym two)
capped_times (suc n) b =
    let one : suc n * capped b ≡ n * capped b + capped b = grind arith in
    let two : suc n * b ≡ n * b + b = grind arith in
    ap capped one ∙ sums (n * capped b) (n * b) (capped b) b (capped_times n b) (twice b) ∙ ap capped (sym two)

pub ruleset sizes = (capped_times)

-- a struct behind others
pub latest_behind : (list : List Defined) (d : Defined) (earlier : Structures) → latest (list ++ d ∷ []) earlier ≡ shown d ∷ latest list earlier
latest_behind [] d earlier = refl
latest_behind (x ∷ list) d earlier = latest_behind list d (shown x ∷ earlier)

-- the size of the latest struct
size_latest : (s : Structure) (earlier : Structures) (n : ℕ) → n ≡ length earlier → size_of (s ∷ earlier) n ≡ 1 + members_size (size_of earlier) s.members
unfolding size_of
size_latest s earlier n e = ap (λ b. if b then 1 + members_size (size_of earlier) s.members else size_of earlier n) (eq-eqb n (length earlier) e)

module _ (list : List Defined) (d : Defined) (sized : IsSized list) (below : AllBelow (length (latest list [])) d.members.items)
    (size : d.size ≡ capped (1 + members_size (size_of (latest list [])) d.members.items))
    (begun : d.begins.items ≡ begins_from (size_of (latest list [])) 0 d.members.items)
  where
    abbrev before : Structures
    before = latest list []

    long : length before ≡ length list
    long = let e = as_many list [] in omega (arith, e)

    -- a struct before it keeps its size, and the latest has its own
    size_at : (n : ℕ) (x : Defined) → get_or (list ++ d ∷ []) n x ≡ x → n < length list + 1 → (b : Bool) → nat_lt n (length list) ≡ b → x.size ≡ capped (size_of (shown d ∷ before) n)
    size_at n x at_n within true h =
        let less : n < length list = grind (arith, nat_tests, h) in
        let inside : n < length before = omega (arith, less, long) in
        sized.sized n x (slice_get-get_or list n x less ∙ ap Some (sym (get_or-append list (d ∷ []) x n less) ∙ at_n)) ∙ ap capped (sym (earlier_size (shown d) before n inside))
    size_at n x at_n within false h =
        let last : n ≡ length list = grind (arith, nat_tests, h, within) in
        let same : x ≡ d = sym at_n ∙ ap (λ k. get_or (list ++ d ∷ []) k x) last ∙ get_or-append_seam list d [] x in
        ap (λ y. y.size) same ∙ size ∙ ap capped (sym (size_latest (shown d) before n (last ∙ sym long)))

    -- the members of a struct before it begin where they did, and its own where they are told to
    begun_at : (n : ℕ) (x : Defined) → get_or (list ++ d ∷ []) n x ≡ x → n < length list + 1 → (b : Bool) → nat_lt n (length list) ≡ b
        → x.begins.items ≡ begins_from (size_of (shown d ∷ before)) 0 x.members.items
    begun_at n x at_n within true h =
        let less : n < length list = grind (arith, nat_tests, h) in
        let kept : slice_get list n ≡ Some x = slice_get-get_or list n x less ∙ ap Some (sym (get_or-append list (d ∷ []) x n less) ∙ at_n) in
        sized.begun n x kept
        ∙ sym (begins_later (shown d) before x.members.items 0 (subst (λ s. AllBelow (length before) s.members) (kept_at list n x kept) (members_below before n sized.ordered)))
    begun_at n x at_n within false h =
        let last : n ≡ length list = grind (arith, nat_tests, h, within) in
        let same : d ≡ x = sym (sym at_n ∙ ap (λ k. get_or (list ++ d ∷ []) k x) last ∙ get_or-append_seam list d [] x) in
        subst (λ y. y.begins.items ≡ begins_from (size_of (shown d ∷ before)) 0 y.members.items) same (begun ∙ sym (begins_later (shown d) before d.members.items 0 below))

    pub sized_behind : IsSized (list ++ d ∷ [])
    unfolding IsOrdered
    sized_behind = record {
      ordered = subst IsOrdered (sym (latest_behind list d [])) (below, sized.ordered);
      sized =
          λ n x h.
          let within : n < length list + 1 = subst (λ k. n < k) (length-append list (d ∷ [])) (slice_get_within (list ++ d ∷ []) n x h) in
          size_at n x (get_or_from_slice_get (list ++ d ∷ []) n x x h) within (nat_lt n (length list)) refl
          ∙ ap (λ all. capped (size_of all n)) (sym (latest_behind list d []));
      begun =
          λ n x h.
          let within : n < length list + 1 = subst (λ k. n < k) (length-append list (d ∷ [])) (slice_get_within (list ++ d ∷ []) n x h) in
          begun_at n x (get_or_from_slice_get (list ++ d ∷ []) n x x h) within (nat_lt n (length list)) refl
          ∙ ap (λ all. begins_from (size_of all) 0 x.members.items) (sym (latest_behind list d []));
    }

-- the same, as it is kept behind others
pub sized_after : (list after : List Defined) (d : Defined) → after ≡ list ++ d ∷ [] → IsSized list → AllBelow (length (latest list [])) d.members.items
    → d.size ≡ capped (1 + members_size (size_of (latest list [])) d.members.items) → d.begins.items ≡ begins_from (size_of (latest list [])) 0 d.members.items → IsSized after
sized_after list after d e sized below size begun = subst IsSized (sym e) (sized_behind list d sized below size begun)

-- the size of a struct by where its members end
pub size_by : (n end : ℕ) → end ≡ capped n → capped (1 + end) ≡ capped (1 + n)
size_by n end h = omega (arith, h)
