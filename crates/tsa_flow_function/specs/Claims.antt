-- The points at which something claims or tries a path, path by path.
use Rattle.std.specs.Prelude.{ℕ, Bool, ◌||◌, ◌++◌, List, [], ◌∷◌, Option, Some, None, is_some, slice_index_or, slice_set, if◌then◌else◌}
use Rattle.tsa_rules.specs.declared.mark.Mark.{Mark}

-- a mark of a path that is claimed, or tried
abbrev pub is_noted : Mark → Bool
is_noted m = is_some m.claim || is_some m.tried

-- one mark more is looked at, under its point and the number of its path
abbrev pub with_entry : List (List ℕ) → (ℕ × ℕ) × Mark → List (List ℕ)
with_entry lists e = if is_noted e.1 then slice_set lists e.0.1 (slice_index_or lists e.0.1 [] ++ e.0.0 ∷ []) else lists

abbrev pub with_found : List (List ℕ) → Option ((ℕ × ℕ) × Mark) → List (List ℕ)
with_found lists None = lists
with_found lists (Some e) = with_entry lists e

-- the points of some marks behind those that are listed
unfoldable pub noted : List ((ℕ × ℕ) × Mark) → List (List ℕ) → List (List ℕ)
noted [] lists = lists
noted (e ∷ es) lists = noted es (with_entry lists e)
