-- Tries, worked out from functions as they are written: what the outcomes of a test make of what is tried and of what is pending.
use Rattle.std.specs.Prelude.{◌≡◌, ℕ, true, false, List, [], ◌∷◌, ◌++◌, Option, Some, None, codes}
use Rattle.tsa_base.specs.declared.value.Value.TheVariants.{Pointer}
use Rattle.tsa_tree.specs.declared.expr.BinaryOp.TheVariants as op
use Rattle.tsa_core.specs.Control.{Next, Yes, No}
use Rattle.tsa_core.specs.Terms.{constant, answer, joined}
use Rattle.tsa_rules.specs.Statuses.{Status, Free, Shared, Exclusive, Lent, Pending}
use Rattle.tsa_rules.specs.Conditions.{condition, condition_in, the_call}
use Rattle.tsa_rules.specs.Effects.{effect}
use Rattle.tsa_rules.specs.Fails.{TS06}
use Rattle.tsa_rules.specs.Points.{try_variables}
use Rattle.tsa_rules.specs.Texts.{global, of_function, fits, breaks, once, with_call, judgements_of}

-- a status after a test that holds, and after one that doesn't
abbrev pub by_outcome : ℕ → (path : ℕ) → Status → (attribute body : List ℕ) → Option (Status × Status)
by_outcome p n s attribute body =
    of_function 1 (λ u f. (effect u f p (global n) Yes s, effect u f p (global n) No s)) (with_call (codes "mutex") attribute body)

-- what a test makes of a free lock that its condition tries
abbrev pub tries : (attribute test : List ℕ) → Option (Status × Status)
tries attribute test = by_outcome 0 0 Free attribute (codes "if (" ++ (test ++ codes ") ;"))

-- what a test makes of a lock that is pending in `v`, in which a try's answer is kept
abbrev pub decides : (attribute test : List ℕ) → Option (Status × Status)
decides attribute test = by_outcome 1 0 (Pending 0) attribute (codes "int v = g(&mu); if (" ++ (test ++ codes ") ;"))

abbrev if_one : List ℕ
if_one = codes "TRY_ACQUIRE(1, m)"

abbrev if_zero : List ℕ
if_zero = codes "TRY_ACQUIRE(0, m)"

pub record TestsOfCallsTellTheAnswer : Type 0 where
  pub alone : tries if_one (codes "g(&mu)") ≡ Some (Exclusive 1, Free)
  pub denied : tries if_one (codes "!g(&mu)") ≡ Some (Free, Exclusive 1)
  pub is_one : tries if_one (codes "g(&mu) == 1") ≡ Some (Exclusive 1, Free)
  pub is_zero : tries if_one (codes "g(&mu) == 0") ≡ Some (Free, Exclusive 1)
  pub is_not_one : tries if_one (codes "g(&mu) != 1") ≡ Some (Free, Exclusive 1)
  pub is_not_zero : tries if_one (codes "g(&mu) != 0") ≡ Some (Exclusive 1, Free)
  pub one_is : tries if_one (codes "1 == g(&mu)") ≡ Some (Exclusive 1, Free)
  pub zero_is : tries if_one (codes "0 == g(&mu)") ≡ Some (Free, Exclusive 1)
  pub one_is_not : tries if_one (codes "1 != g(&mu)") ≡ Some (Free, Exclusive 1)
  pub zero_is_not : tries if_one (codes "0 != g(&mu)") ≡ Some (Exclusive 1, Free)
  pub of_zero : tries if_zero (codes "g(&mu)") ≡ Some (Free, Exclusive 1)
  pub of_zero_denied : tries if_zero (codes "!g(&mu)") ≡ Some (Exclusive 1, Free)
  pub shared : tries (codes "TRY_ACQUIRE_SHARED(1, m)") (codes "g(&mu)") ≡ Some (Shared, Free)
  -- beside a try that gives a pointer the number 0 is null
  pub is_null : condition_in (joined op.Equal answer (constant (Pointer None))) ≡ Some (condition false the_call)
  pub null_is_not : condition_in (joined op.Unequal (constant (Pointer None)) answer) ≡ Some (condition true the_call)
  -- of each status, with the rules that fail: where the try succeeds, and where it fails
  pub succeeds : judgements_of (codes "mutex") if_one (codes "while (g(&mu)) ;") 0 Yes once ≡
      Some (fits (Exclusive 1) ∷ breaks TS06 (Exclusive 1) ∷ breaks TS06 (Exclusive 1) ∷ breaks TS06 (Exclusive 1) ∷ breaks TS06 (Exclusive 1) ∷ [])
  pub fails : judgements_of (codes "mutex") if_one (codes "while (g(&mu)) ;") 0 No once ≡
      Some (fits Free ∷ breaks TS06 Shared ∷ breaks TS06 (Exclusive 1) ∷ breaks TS06 Lent ∷ breaks TS06 (Pending 4) ∷ [])
  -- the same of a shared try
  pub shared_succeeds : judgements_of (codes "mutex") (codes "TRY_ACQUIRE_SHARED(1, m)") (codes "while (g(&mu)) ;") 0 Yes once ≡
      Some (fits Shared ∷ breaks TS06 Shared ∷ breaks TS06 Shared ∷ breaks TS06 Shared ∷ breaks TS06 Shared ∷ [])
  pub shared_fails : judgements_of (codes "mutex") (codes "TRY_ACQUIRE_SHARED(1, m)") (codes "while (g(&mu)) ;") 0 No once ≡
      Some (fits Free ∷ breaks TS06 Shared ∷ breaks TS06 (Exclusive 1) ∷ breaks TS06 Lent ∷ breaks TS06 (Pending 4) ∷ [])
  -- a lock that its holder may take again isn't tried again
  pub of_a_reentrant_lock : judgements_of (codes "reentrant mutex") if_one (codes "while (g(&mu)) ;") 0 Yes (Free ∷ Exclusive 1 ∷ Exclusive 2 ∷ []) ≡
      Some (fits (Exclusive 1) ∷ breaks TS06 (Exclusive 1) ∷ breaks TS06 (Exclusive 1) ∷ [])

pub record TestsOfVariablesTellTheAnswer : Type 0 where
  pub alone : decides if_one (codes "v") ≡ Some (Exclusive 1, Free)
  pub denied : decides if_one (codes "!v") ≡ Some (Free, Exclusive 1)
  pub is_one : decides if_one (codes "v == 1") ≡ Some (Exclusive 1, Free)
  pub is_zero : decides if_one (codes "v == 0") ≡ Some (Free, Exclusive 1)
  pub is_not_one : decides if_one (codes "v != 1") ≡ Some (Free, Exclusive 1)
  pub is_not_zero : decides if_one (codes "v != 0") ≡ Some (Exclusive 1, Free)
  pub one_is : decides if_one (codes "1 == v") ≡ Some (Exclusive 1, Free)
  pub zero_is : decides if_one (codes "0 == v") ≡ Some (Free, Exclusive 1)
  pub one_is_not : decides if_one (codes "1 != v") ≡ Some (Free, Exclusive 1)
  pub zero_is_not : decides if_one (codes "0 != v") ≡ Some (Exclusive 1, Free)
  pub by_an_unsigned_constant : decides if_one (codes "v == 1u") ≡ Some (Exclusive 1, Free)
  pub by_a_worked_constant : decides if_one (codes "v == 3 - 2") ≡ Some (Exclusive 1, Free)
  pub by_an_enumerator : decides if_one (codes "v == ONE") ≡ Some (Exclusive 1, Free)
  pub by_one_that_stops_early : decides if_one (codes "v == (1 || 1 / 0)") ≡ Some (Exclusive 1, Free)
  pub of_zero : decides if_zero (codes "v") ≡ Some (Free, Exclusive 1)
  pub of_zero_denied : decides if_zero (codes "!v") ≡ Some (Exclusive 1, Free)
  pub shared : decides (codes "TRY_ACQUIRE_SHARED(1, m)") (codes "v") ≡ Some (Shared, Free)

-- other tests decide nothing, and what isn't pending in the variable stays as it is
pub record OtherTestsDecideNothing : Type 0 where
  pub by_another_constant : decides if_one (codes "v == 2") ≡ Some (Pending 0, Pending 0)
  pub by_a_variable : decides if_one (codes "v == v") ≡ Some (Pending 0, Pending 0)
  pub by_one_in_a_part : decides if_one (codes "v == (1 || v)") ≡ Some (Pending 0, Pending 0)
  pub by_a_trap : decides if_one (codes "v == 1 / 0") ≡ Some (Pending 0, Pending 0)
  pub by_null : decides if_one (codes "v == !NULL") ≡ Some (Pending 0, Pending 0)
  pub by_an_order : decides if_one (codes "v < 1") ≡ Some (Pending 0, Pending 0)
  pub denied_twice : decides if_one (codes "!!v") ≡ Some (Pending 0, Pending 0)
  pub others_stay : judgements_of (codes "mutex") if_one (codes "int v = g(&mu); if (v) ;") 1 Yes once ≡
      Some (fits Free ∷ fits Shared ∷ fits (Exclusive 1) ∷ fits Lent ∷ fits (Pending 4) ∷ [])

-- a lock that wasn't tried there is free
abbrev pub UntriedLocksAreFree : Type 0
UntriedLocksAreFree = by_outcome 1 1 (Pending 0) if_one (codes "int v = g(&mu); if (v) ;") ≡ Some (Free, Free)

abbrev two : List ℕ
two = codes "int c = 0; int v = g(&nu); int w = g(&mu); if (w) ;"

-- try variables are numbered by their declarations, and no other locals are
pub record TryVariablesAreNumbered : Type 0 where
  pub listed : of_function 1 try_variables (with_call (codes "mutex") if_one two) ≡ Some (1 ∷ 2 ∷ [])
  pub second : judgements_of (codes "mutex") if_one two 2 Next (Free ∷ []) ≡ Some (fits (Pending 1) ∷ [])
  pub second_tested : by_outcome 3 0 (Pending 1) if_one two ≡ Some (Exclusive 1, Free)
  pub first_not_tested : by_outcome 3 1 (Pending 0) if_one two ≡ Some (Pending 0, Pending 0)
  pub none : of_function 1 try_variables (with_call (codes "mutex") (codes "ACQUIRE(m)") two) ≡ Some []
