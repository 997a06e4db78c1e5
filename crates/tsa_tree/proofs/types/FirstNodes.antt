-- The first failing node is first, and the code that is told of it the smallest.
use Rattle.std.proofs.Common.{◌≡◌, ℕ, suc, pred, nat_lt, Bool, true, false, List, [], ◌∷◌, Option, Some, None, slice_get, refl, sym, ap}
use Rattle.std.proofs.Common.{subst, if◌then◌else◌}
use Rattle.std.proofs.lemmas.Bool.Decides.{nat_tests}
use native.Mathlib.Omega.{arith}
use Rattle.tsa_tree.specs.declared.premise.TypeCode.{TypeCode}
use Rattle.tsa_tree.specs.declared.premise.TypeCode.TheVariants.{TY1, TY2, TY3, TY4, TY5, TY6, TY7, TY8, TY9}
use Rattle.tsa_tree.specs.types.Fails.{fails}
use Rattle.tsa_tree.specs.types.FirstFailing.{codes_in_order, failure_by, failure_at, first_failing_of, Keeps, number_of_code, Tells}
use Rattle.tsa_tree.specs.types.FirstFailing.{FirstFailingIsFirst}
use Rattle.tsa_tree.specs.types.Node.{Node, told_at}
use Rattle.tsa_tree.specs.types.Nodes.{nodes}
use Rattle.tsa_tree.specs.types.Premises.{Failure, or_else}

-- a code stands at its number
code_by_number : (code : TypeCode) → slice_get codes_in_order (pred (number_of_code code)) ≡ Some code
code_by_number TY1 = refl
code_by_number _ = refl

-- so two codes of one number are one code
one_number : (a b : TypeCode) → number_of_code a ≡ number_of_code b → a ≡ b
one_number a b e =
    let same : slice_get codes_in_order (pred (number_of_code a)) ≡ slice_get codes_in_order (pred (number_of_code b)) = ap (λ m. slice_get codes_in_order (pred m)) e in
    cc (code_by_number a, code_by_number b, same)

-- what is below the next number and not below this one is this one
at_end : (a b : ℕ) → nat_lt a (suc b) ≡ true → nat_lt a b ≡ false → a ≡ b
at_end a b less least = grind (arith, nat_tests)

module _ (n : Node) where
  -- no code below a number fails
  abbrev Below : ℕ → Type 0
  Below m = (code : TypeCode) → nat_lt (number_of_code code) m ≡ true → fails code n ≡ false

  -- a code that doesn't fail, behind those below it
  one_more : (k : TypeCode) → Below (number_of_code k) → fails k n ≡ false → Below (suc (number_of_code k))
  one_more k below kept code less = by_test (nat_lt (number_of_code code) (number_of_code k)) refl
    where
      by_test : (b : Bool) → nat_lt (number_of_code code) (number_of_code k) ≡ b → fails code n ≡ false
      by_test true e = below code e
      by_test false e = subst (λ x. fails x n ≡ false) (one_number k code (sym (at_end (number_of_code code) (number_of_code k) less e))) kept

  -- there is no code below 1 ..
  none_below_one : Below 1
  none_below_one TY1 less = cc
  none_below_one _ less = cc

  -- .. and each is below 10
  all_below_ten : Below 10 → Keeps n
  all_below_ten below TY1 = below TY1 refl
  all_below_ten below code = below code refl

  -- a failure that is told of a node
  record IsTold (f : Failure) : Type 0 where
    fails_there : fails f.code n ≡ true
    smaller : Below (number_of_code f.code)
    span : f.span ≡ told_at n

  -- what an answer says of the node
  abbrev Answers : Option Failure → Type 0
  Answers None = Keeps n
  Answers (Some f) = IsTold f

  -- one code, and those behind it
  step : (k : TypeCode) (rest : Option Failure) → Below (number_of_code k) → (Below (suc (number_of_code k)) → Answers rest) → Answers (or_else (failure_by k n) rest)
  step k rest below onward = by_test (fails k n) refl
    where
      by_test : (b : Bool) → fails k n ≡ b → Answers (or_else (if b then Some (record { code = k; span = told_at n }) else None) rest)
      by_test true e = record { fails_there = e; smaller = below; span = refl }
      by_test false e = onward (one_more k below e)

  -- all codes in order
  answers : Answers (failure_at codes_in_order n)
  unfolding failure_at
  answers =
      step TY1 _ none_below_one λ b2. step TY2 _ b2 λ b3. step TY3 _ b3 λ b4. step TY4 _ b4 λ b5. step TY5 _ b5 λ b6. step TY6 _ b6 λ b7. step TY7 _ b7 λ b8.
      step TY8 _ b8 λ b9. step TY9 None b9 all_below_ten

  -- what is told of further nodes, where none is told of this one
  onward : (rest : List Node) (o : Option Failure) → Keeps n → Tells rest o → Tells (n ∷ rest) o
  onward rest None k all = (k, all)
  onward rest (Some f) k s = record {
    before = n ∷ s.before;
    failing = s.failing;
    behind = s.behind;
    parts = ap (λ x. n ∷ x) s.parts;
    kept = (k, s.kept);
    fails_there = s.fails_there;
    smaller = s.smaller;
    span = s.span;
  }

  -- what is told of this node comes before what is told of further ones
  first_of_two : (rest : List Node) (o other : Option Failure) → Answers o → Tells rest other → Tells (n ∷ rest) (or_else o other)
  first_of_two rest None other told s = onward rest other told s
  first_of_two rest (Some f) other told s = record {
    before = [];
    failing = n;
    behind = rest;
    parts = refl;
    kept = tt;
    fails_there = told.fails_there;
    smaller = told.smaller;
    span = told.span;
  }

-- what is told first of some nodes
first_of_all : (all : List Node) → Tells all (first_failing_of all)
unfolding first_failing_of
first_of_all [] = tt
first_of_all (n ∷ rest) = first_of_two n rest (failure_at codes_in_order n) (first_failing_of rest) (answers n) (first_of_all rest)

-- what is told of a unit
pub first_failing_is_first : FirstFailingIsFirst
first_failing_is_first items = first_of_all (nodes items)
