-- Rows, grids, and one lane of a grid.
use Rattle.std.proofs.Common.{◌≡◌, ◌∙◌, ℕ, zero, suc, ◌*◌, ◌<◌, ◌≤◌, Bool, false, List, [], ◌∷◌, ◌++◌, length, set, get_or, refl, sym, ap}
use Rattle.std.proofs.Common.{subst, arith, get_or-set_same, get_or-set_other}
use Rattle.std.proofs.Math.Decide.{ℕ_discrete}
use Rattle.std.proofs.Math.ListN.{get_or-map}
use Rattle.std.proofs.lemmas.List.{map-set, length-map}
use Rattle.std.proofs.lemmas.List.Elements.{All-from_get_or, All-get_or}
use Rattle.std.proofs.lemmas.List.Sums.{sum_by-le}
use Rattle.tsa_rules.specs.declared.statuses.Statuses.{Statuses}
use Rattle.tsa_flow_solver.specs.Rows.{AreAllSmall, AreSmall, AreWide, flag_at, flags_of, IsTakenIn, lane_of, no_statuses, row_at, set_at}
use Rattle.tsa_flow_solver.specs.Rows.{total, union, weight}

-- what stands in a lane of a grid, and how many there are
pub lane_at : (grid : List (List Statuses)) (l c : ℕ) → set_at (lane_of grid l) c ≡ set_at (row_at grid c) l
lane_at grid l c = get_or-map (λ row. set_at row l) grid c []

pub lane_set : (grid : List (List Statuses)) (l c : ℕ) (row : List Statuses) → lane_of (set grid c row) l ≡ set (lane_of grid l) c (set_at row l)
lane_set grid l c row = map-set (λ r. set_at r l) grid c row

pub lane_long : (grid : List (List Statuses)) (l : ℕ) → length (lane_of grid l) ≡ length grid
lane_long grid l = length-map grid (λ row. set_at row l)

pub flag_in : (grid : List (List Bool)) (l c : ℕ) → flag_at (flags_of grid l) c ≡ flag_at (get_or grid c []) l
flag_in grid l c = get_or-map (λ flags. flag_at flags l) grid c []

pub flags_set : (grid : List (List Bool)) (l c : ℕ) (flags : List Bool) → flags_of (set grid c flags) l ≡ set (flags_of grid l) c (flag_at flags l)
flags_set grid l c flags = map-set (λ r. flag_at r l) grid c flags

pub flags_long : (grid : List (List Bool)) (l : ℕ) → length (flags_of grid l) ≡ length grid
flags_long grid l = length-map grid (λ flags. flag_at flags l)

-- the row of a block that is there is as long as all are
pub row_long : (n : ℕ) (grid : List (List Statuses)) (c : ℕ) → AreWide n grid → c < length grid → length (row_at grid c) ≡ n
row_long n grid c wide inside = All-get_or (λ row. length row ≡ n) grid c [] inside wide

-- a block's row takes in another one, seen in one lane
pub lane_taken : (grid : List (List Statuses)) (l c : ℕ) (row taken : List Statuses) (grown : Bool) → IsTakenIn (row_at grid c) row taken grown → l < length (row_at grid c)
    → lane_of (set grid c taken) l ≡ set (lane_of grid l) c (union (set_at (lane_of grid l) c) (set_at row l))
lane_taken grid l c row taken grown is inside =
    lane_set grid l c taken ∙ ap (set (lane_of grid l) c) (is.each l inside ∙ ap (λ s. union s (set_at row l)) (sym (lane_at grid l c)))

-- where no set has grown, nothing is new in any lane
pub lane_same : (grid : List (List Statuses)) (l c : ℕ) (row taken : List Statuses) → IsTakenIn (row_at grid c) row taken false → l < length (row_at grid c)
    → union (set_at (lane_of grid l) c) (set_at row l) ≡ set_at (lane_of grid l) c
lane_same grid l c row taken is inside =
    ap (λ s. union s (set_at row l)) (lane_at grid l c) ∙ (sym (is.each l inside) ∙ (ap (λ r. set_at r l) (is.same refl) ∙ sym (lane_at grid l c)))

-- what is small stays so
pub small_set : (grid : List (List Statuses)) (c : ℕ) (row : List Statuses) → c < length grid → AreAllSmall grid → AreSmall row → AreAllSmall (set grid c row)
small_set grid c row inside small fits d = elim (ℕ_discrete d c) [
  | yes e ↦ subst AreSmall (sym (ap (row_at (set grid c row)) e ∙ get_or-set_same grid c row [] inside)) fits
  | no other ↦ subst AreSmall (sym (get_or-set_other grid c d row [] other)) (small d)
]

-- sets of 64 bits have a greatest weight, and so have rows of so many
row_bounded : (n : ℕ) (row : List Statuses) → length row ≡ n → AreSmall row → weight row ≤ n * 18446744073709551616
row_bounded n row long small =
    subst (λ m. weight row ≤ m * 18446744073709551616) long
    (sum_by-le (λ set. set.bits) 18446744073709551616 row (All-from_get_or (λ set. set.bits ≤ 18446744073709551616) row no_statuses (λ i h. omega (arith, small i))))

pub bounded : (n : ℕ) (grid : List (List Statuses)) → AreWide n grid → AreAllSmall grid → total grid ≤ length grid * (n * 18446744073709551616)
bounded n grid wide small =
    sum_by-le weight (n * 18446744073709551616) grid (All-from_get_or (λ row. weight row ≤ n * 18446744073709551616) grid [] (λ c inside. row_bounded n (row_at grid c) (row_long n grid c wide inside) (small c)))

-- one row more, where what holds of rows holds of none
pub pushed_at : {A : Type 0} (P : List A → Type 0) (grid : List (List A)) (row : List A) → ((c : ℕ) → P (get_or grid c [])) → P row → P [] → (c : ℕ) → P (get_or (grid ++ row ∷ []) c [])
pushed_at P [] row all here none zero = here
pushed_at P [] row all here none (suc c) = none
pushed_at P (x ∷ grid) row all here none zero = all zero
pushed_at P (x ∷ grid) row all here none (suc c) = pushed_at P grid row (λ d. all (suc d)) here none c

pub none_at : {A : Type 0} (c : ℕ) → get_or {A = List A} [] c [] ≡ []
none_at c = refl
