-- Lists of runs, and how often a point stands in them.
use Rattle.std.proofs.Common.{◌≡◌, ◌∙◌, ℕ, zero, suc, ◌+◌, ◌<◌, arith, Bool, true, false, nat_eq, List, [], ◌∷◌, ◌++◌, map, length, get_or}
use Rattle.std.proofs.Common.{set, Option, Some, None, refl, sym, ap, ap₂, get_or-set_same, get_or-set_other}
use Rattle.std.proofs.lemmas.List.{map_push}
use Rattle.tsa_graph.specs.Runs.{step, first_of, last_of, IsChain, IsLongest, AreLongest, bit, times, times_in}
use Rattle.tsa_graph.specs.Tracing.{is_seen}

pub times_push : (p : ℕ) (qs : List ℕ) (q : ℕ) → times p (qs ++ q ∷ []) ≡ times p qs + bit (nat_eq p q)
times_push p [] q = omega arith
times_push p (r ∷ qs) q = let h = times_push p qs q in omega (arith, h)

pub times_in_push : (p : ℕ) (runs : List (List ℕ)) (run : List ℕ) → times_in p (runs ++ run ∷ []) ≡ times_in p runs + times p run
times_in_push p [] run = omega arith
times_in_push p (r ∷ runs) run = let h = times_in_push p runs run in omega (arith, h)

pub longest_push : (next : List (Option ℕ)) (runs : List (List ℕ)) (run : List ℕ) → AreLongest next runs → IsLongest next run → AreLongest next (runs ++ run ∷ [])
longest_push next [] run h g = (g, tt)
longest_push next (r ∷ runs) run h g = (h.0, longest_push next runs run h.1 g)

pub last_push : (qs : List ℕ) (q : ℕ) → last_of (qs ++ q ∷ []) ≡ q
last_push [] q = refl
last_push (p ∷ []) q = refl
last_push (p ∷ r ∷ qs) q = last_push (r ∷ qs) q

pub chain_push : (next : List (Option ℕ)) (qs : List ℕ) (q : ℕ) → IsChain next qs → step next (last_of qs) ≡ Some q → IsChain next (qs ++ q ∷ [])
chain_push next [] q h e = absurd h
chain_push next (p ∷ []) q h e = (e, tt)
chain_push next (p ∷ r ∷ qs) q h e = (h.0, chain_push next (r ∷ qs) q h.1 e)

-- what is marked
pub marked : (seen : List Bool) (p : ℕ) → p < length seen → is_seen (set seen p true) p ≡ true
marked seen p h = get_or-set_same seen p true false h

pub other_marked : (seen : List Bool) (p q : ℕ) → (q ≡ p → ⊥) → is_seen (set seen p true) q ≡ is_seen seen q
other_marked seen p q other = get_or-set_other seen p q true false other

-- how many points are not
abbrev pub unseen : List Bool → ℕ
unseen [] = 0
unseen (true ∷ bs) = unseen bs
unseen (false ∷ bs) = 1 + unseen bs

pub unseen_marked : (seen : List Bool) (p : ℕ) → p < length seen → is_seen seen p ≡ false → unseen (set seen p true) < unseen seen
unseen_marked [] p h e = omega (arith, h)
unseen_marked (false ∷ bs) zero h e = omega arith
unseen_marked (true ∷ bs) zero h e = absurd (by e)
  where
    by : true ≡ false → ⊥
    by x = cc
unseen_marked (false ∷ bs) (suc p) h e = let i = unseen_marked bs p (omega (arith, h)) e in omega (arith, i)
unseen_marked (true ∷ bs) (suc p) h e = unseen_marked bs p (omega (arith, h)) e

-- a further run
pub further : {A : Type 0} (old new : List A) (points : A → List ℕ) (run : A) → new ≡ old ++ run ∷ [] → map points new ≡ map points old ++ points run ∷ []
further old new points run is = ap (map points) is ∙ map_push points old run
