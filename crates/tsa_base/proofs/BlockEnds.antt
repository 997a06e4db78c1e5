-- The first `*/` of a rest.
use Rattle.std.proofs.Common.{◌≡◌, ℕ, suc, ◌+◌, ◌<◌, Bool, true, false, ◌==◌, ◌&&◌, List, [], ◌∷◌, ◌++◌, length, Option, None, Some, refl}
use Rattle.std.proofs.Common.{ap, length-append, arith}
use Rattle.std.proofs.lemmas.Bool.{and_parts, and_from, and_right, eqb-true, eq-eqb}
use Rattle.std.proofs.lemmas.List.{nil_from_length}
use Rattle.tsa_base.specs.Tokens.{block_end, map_length}

-- a rest has its first `*/` after the inner bytes
pub record Ends (cs : List ℕ) (n : ℕ) : Type 0 where
  pub inner : List ℕ
  pub behind : List ℕ
  pub whole : cs ≡ inner ++ 42 ∷ 47 ∷ behind
  pub many : length inner + 2 ≡ n
  pub first : (u v : List ℕ) → inner ++ 42 ∷ 47 ∷ [] ≡ u ++ 42 ∷ 47 ∷ v → v ≡ []

abbrev pub EndsOrNot : List ℕ → Option ℕ → Type 0
EndsOrNot cs None = (u v : List ℕ) → cs ≡ u ++ 42 ∷ 47 ∷ v → ⊥
EndsOrNot cs (Some n) = Ends cs n

none-step : (c d : ℕ) (cs : List ℕ) → ((c == 42) && (d == 47)) ≡ false → ((u v : List ℕ) → d ∷ cs ≡ u ++ 42 ∷ 47 ∷ v → ⊥) → (u v : List ℕ) → c ∷ d ∷ cs ≡ u ++ 42 ∷ 47 ∷ v → ⊥
none-step c d cs apart rest [] v same =
    let star : c ≡ 42 = cc in
    let slash : d ≡ 47 = cc in
    let both : ((c == 42) && (d == 47)) ≡ true = and_from (c == 42) (d == 47) (eq-eqb c 42 star) (eq-eqb d 47 slash) in
    cc
none-step c d cs apart rest (x ∷ u) v same = rest u v cc

head_of : (d : ℕ) (cs inner behind v : List ℕ) → d ∷ cs ≡ inner ++ 42 ∷ 47 ∷ behind → inner ++ 42 ∷ 47 ∷ [] ≡ 47 ∷ v → d ≡ 47
head_of d cs [] behind v whole same = cc
head_of d cs (x ∷ inner) behind v whole same = cc

first-step : (c d : ℕ) (cs : List ℕ) (n : ℕ) → ((c == 42) && (d == 47)) ≡ false → (e : Ends (d ∷ cs) n) → (u v : List ℕ) → c ∷ e.inner ++ 42 ∷ 47 ∷ [] ≡ u ++ 42 ∷ 47 ∷ v → v ≡ []
first-step c d cs n apart e [] v same =
    let star : c ≡ 42 = cc in
    let others : e.inner ++ 42 ∷ 47 ∷ [] ≡ 47 ∷ v = cc in
    let slash : d ≡ 47 = head_of d cs e.inner e.behind v e.whole others in
    let both : ((c == 42) && (d == 47)) ≡ true = and_from (c == 42) (d == 47) (eq-eqb c 42 star) (eq-eqb d 47 slash) in
    cc
first-step c d cs n apart e (x ∷ u) v same = e.first u v cc

ends-later : (c d : ℕ) (cs : List ℕ) (o : Option ℕ) → ((c == 42) && (d == 47)) ≡ false → EndsOrNot (d ∷ cs) o → EndsOrNot (c ∷ d ∷ cs) (map_length suc o)
ends-later c d cs None apart rest = none-step c d cs apart rest
ends-later c d cs (Some n) apart rest = record {
  inner = c ∷ rest.inner;
  behind = rest.behind;
  whole = ap (λ z. c ∷ z) rest.whole;
  many = omega arith;
  first = first-step c d cs n apart rest;
}

only_end : (u v : List ℕ) → 42 ∷ 47 ∷ [] ≡ u ++ 42 ∷ 47 ∷ v → v ≡ []
only_end u v same = nil_from_length v (omega (arith, simp length-append at (ap length same)))

ends-here : (c d : ℕ) (cs : List ℕ) → ((c == 42) && (d == 47)) ≡ true → Ends (c ∷ d ∷ cs) 2
ends-here c d cs both =
    let parts = and_parts (c == 42) (d == 47) both in
    let star : c ≡ 42 = eqb-true c 42 parts.0 in
    let slash : d ≡ 47 = eqb-true d 47 parts.1 in
    record { inner = []; behind = cs; whole = rw (star, slash) refl; many = refl; first = only_end }

ends-step : (c d : ℕ) (cs : List ℕ) (b : Bool) → ((c == 42) && (d == 47)) ≡ b → EndsOrNot (d ∷ cs) (block_end (d ∷ cs)) → EndsOrNot (c ∷ d ∷ cs) (block_end (c ∷ d ∷ cs))
unfolding block_end
ends-step c d cs true e rest = rw e (ends-here c d cs e)
ends-step c d cs false e rest = rw e (ends-later c d cs (block_end (d ∷ cs)) e rest)

short-none : (cs u v : List ℕ) → length cs < 2 → cs ≡ u ++ 42 ∷ 47 ∷ v → ⊥
short-none cs u v short same = omega (arith, simp length-append at (ap length same))

pub ends_or_not : (cs : List ℕ) → EndsOrNot cs (block_end cs)
unfolding block_end
ends_or_not [] = λ u v same. short-none [] u v (omega arith) same
ends_or_not (c ∷ []) = λ u v same. short-none (c ∷ []) u v (omega arith) same
ends_or_not (c ∷ d ∷ cs) = ends-step c d cs ((c == 42) && (d == 47)) refl (ends_or_not (d ∷ cs))

-- the first `*/` is found
end-step : (c d : ℕ) (inner behind : List ℕ) (b : Bool) → ((c == 42) && (d == 47)) ≡ b → ((u v : List ℕ) → c ∷ d ∷ inner ++ 42 ∷ 47 ∷ [] ≡ u ++ 42 ∷ 47 ∷ v → v ≡ []) → block_end (d ∷ inner ++ 42 ∷ 47 ∷ behind) ≡ Some (length (d ∷ inner) + 2) → block_end (c ∷ d ∷ inner ++ 42 ∷ 47 ∷ behind) ≡ Some (length (c ∷ d ∷ inner) + 2)
unfolding block_end
end-step c d inner behind true e first rest =
    let parts = and_parts (c == 42) (d == 47) e in
    let star : c ≡ 42 = eqb-true c 42 parts.0 in
    let slash : d ≡ 47 = eqb-true d 47 parts.1 in
    let none : inner ++ 42 ∷ 47 ∷ [] ≡ [] = first [] (inner ++ 42 ∷ 47 ∷ []) (rw (star, slash) refl) in
    absurd (omega (arith, simp length-append at (ap length none)))
end-step c d inner behind false e first rest =
    let more : suc (length (d ∷ inner) + 2) ≡ length (c ∷ d ∷ inner) + 2 = omega arith in
    rw (e, rest) (ap (λ z. Some z) more)

pub end_found : (inner behind : List ℕ) → ((u v : List ℕ) → inner ++ 42 ∷ 47 ∷ [] ≡ u ++ 42 ∷ 47 ∷ v → v ≡ []) → block_end (inner ++ 42 ∷ 47 ∷ behind) ≡ Some (length inner + 2)
unfolding block_end
end_found [] behind first = refl
end_found (c ∷ []) behind first = rw (and_right (c == 42) false refl) refl
end_found (c ∷ d ∷ inner) behind first = end-step c d inner behind ((c == 42) && (d == 47)) refl first (end_found (d ∷ inner) behind (λ u v same. first (c ∷ u) v (ap (λ z. c ∷ z) same)))
