-- The point that follows another is one to which an edge leads.
use Rattle.std.proofs.Common.{◌≡◌, ℕ, ℤ, pos, negsuc, int_le, nat_eq, Bool, true, false, ◌&&◌, List, [], ◌∷◌, Some, None, option_map, find}
use Rattle.std.proofs.Common.{refl, ap, subst, arith, eqb-true}
use Rattle.std.proofs.lemmas.Bool.Decides.{nat_tests}
use Rattle.std.specs.Prelude.{Contains, cond}
use Rattle.tsa_core.specs.Control.{Edge, Outcome, Next, Yes, No, Rest, Chosen, edge, leaves_by, next_point, same_outcome}
use Rattle.tsa_sound.proofs.Sums.{first_in, rest_in}
use Rattle.tsa_base.proofs.Truths.{both}

same_ints : (z w : ℤ) → (int_le z w && int_le w z) ≡ true → z ≡ w
same_ints (pos m) (pos n) e = let p = both (int_le (pos m) (pos n)) (int_le (pos n) (pos m)) e in ap pos (let a = p.0 in let b = p.1 in grind (arith, nat_tests, a, b))
same_ints (pos m) (negsuc n) e = absurd cc
same_ints (negsuc m) (pos n) e = absurd cc
same_ints (negsuc m) (negsuc n) e = ap negsuc (let p = both (int_le (negsuc m) (negsuc n)) (int_le (negsuc n) (negsuc m)) e in let a = p.0 in let b = p.1 in grind (arith, nat_tests, a, b))

same_outcomes : (o p : Outcome) → same_outcome o p ≡ true → o ≡ p
same_outcomes Next Next e = refl
same_outcomes Yes Yes e = refl
same_outcomes No No e = refl
same_outcomes Rest Rest e = refl
same_outcomes (Chosen a) (Chosen b) e = ap Chosen (same_ints a b e)
same_outcomes o p e = absurd (differ e)
  where
    differ : false ≡ true → ⊥
    differ e = cc

-- an edge that leaves a point by an outcome
is_edge : (e : Edge) (p q : ℕ) (o : Outcome) → leaves_by p o e ≡ true → e.to ≡ q → e ≡ edge p o q
is_edge e p q o leaves to =
    let parts = both (nat_eq e.from p) (same_outcome e.outcome o) leaves in
    let from : e.from ≡ p = eqb-true e.from p parts.0 in
    let by : e.outcome ≡ o = same_outcomes e.outcome o parts.1 in
    λ i. record { from = from i; outcome = by i; to = to i }

missing : {q : ℕ} {A : Type 0} → None ≡ Some q → A
missing e = absurd cc

same_some : {a b : ℕ} → Some a ≡ Some b → a ≡ b
same_some e = cc

edge_by : (e : Edge) (es : List Edge) (p q : ℕ) (o : Outcome) → (next_point es p o ≡ Some q → Contains es (edge p o q)) → (b : Bool) → leaves_by p o e ≡ b
    → option_map (λ e. e.to) (cond b (Some e) (find (leaves_by p o) es)) ≡ Some q → Contains (e ∷ es) (edge p o q)
edge_by e es p q o rest true leaves is = subst (λ f. Contains (e ∷ es) f) (is_edge e p q o leaves (same_some is)) (first_in e es)
edge_by e es p q o rest false leaves is = rest_in e (edge p o q) es (rest is)

pub edge_to : (es : List Edge) (p q : ℕ) (o : Outcome) → next_point es p o ≡ Some q → Contains es (edge p o q)
edge_to [] p q o is = missing is
edge_to (e ∷ es) p q o is = edge_by e es p q o (edge_to es p q o) (leaves_by p o e) refl is
