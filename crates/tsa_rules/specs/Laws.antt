-- The tables of statuses, worked out from functions as they are written, row by row.
use Rattle.std.specs.Prelude.{◌≡◌, ℕ, ◌+◌, ◌-◌, ◌<◌, List, [], ◌∷◌, ◌++◌, map, Option, Some, codes}
use Rattle.tsa_core.specs.Control.{Next}
use Rattle.tsa_core.specs.Examples.{program}
use Rattle.tsa_rules.specs.Statuses.{Status, Free, Shared, Exclusive, Lent, Pending}
use Rattle.tsa_rules.specs.Effects.{entry, exit, deeper, given_back}
use Rattle.tsa_rules.specs.Fails.{TS03, TS04, TS05, TS06, TS07, TS08}
use Rattle.tsa_rules.specs.Texts.{global, of_function, Judgement, fits, breaks, once, again, judgements_of}

-- the statuses of `mu` at the entry of a function and at its end, by its attribute
abbrev pub ends : List ℕ → Option (Status × Status)
ends attribute =
    of_function 0 (λ u f. (entry f (global 0), exit f 0 (global 0)))
    (program (codes "struct CAPABILITY(\"mutex\") l { int s; }; struct l mu, nu; void f(void) " ++ (attribute ++ codes " { }")))

pub record EntriesAndExitsAreAsDeclared : Type 0 where
  pub requires : ends (codes "REQUIRES(mu)") ≡ Some (Exclusive 1, Exclusive 1)
  pub requires_shared : ends (codes "REQUIRES_SHARED(mu)") ≡ Some (Lent, Lent)
  pub acquire : ends (codes "ACQUIRE(mu)") ≡ Some (Free, Exclusive 1)
  pub acquire_shared : ends (codes "ACQUIRE_SHARED(mu)") ≡ Some (Free, Shared)
  pub release : ends (codes "RELEASE(mu)") ≡ Some (Exclusive 1, Free)
  pub release_shared : ends (codes "RELEASE_SHARED(mu)") ≡ Some (Shared, Free)
  pub none : ends (codes "") ≡ Some (Free, Free)
  pub excluded : ends (codes "EXCLUDES(mu)") ≡ Some (Free, Free)
  -- of another lock, of more than one, and beside an excludes attribute, which is passed over
  pub of_another : ends (codes "REQUIRES(nu)") ≡ Some (Free, Free)
  pub of_both : ends (codes "REQUIRES(nu, mu)") ≡ Some (Exclusive 1, Exclusive 1)
  pub behind_an_exclusion : ends (codes "EXCLUDES(mu) ACQUIRE(mu)") ≡ Some (Free, Exclusive 1)

-- the status at the entry of a function that tries, and those where it returns 1, where it returns 0, and at the end, which gives 0
abbrev pub answers : List ℕ → Option (Status × List Status)
answers attribute =
    of_function 0 (λ u f. (entry f (global 0), map (λ p. exit f p (global 0)) (1 ∷ 3 ∷ 4 ∷ [])))
    (program (codes "enum { ONE = 1 }; struct CAPABILITY(\"mutex\") l { int s; }; struct l mu, nu; int f(int a) " ++ (attribute ++ codes " { if (a) return ONE; if (a) return 2 - 2; }")))

pub record ExitsOfTriesAreByTheAnswer : Type 0 where
  pub of_one : answers (codes "TRY_ACQUIRE(1, mu)") ≡ Some (Free, Exclusive 1 ∷ Free ∷ Free ∷ [])
  pub of_zero : answers (codes "TRY_ACQUIRE(0, mu)") ≡ Some (Free, Free ∷ Exclusive 1 ∷ Exclusive 1 ∷ [])
  pub shared_of_one : answers (codes "TRY_ACQUIRE_SHARED(1, mu)") ≡ Some (Free, Shared ∷ Free ∷ Free ∷ [])
  pub shared_of_zero : answers (codes "TRY_ACQUIRE_SHARED(0, mu)") ≡ Some (Free, Free ∷ Shared ∷ Shared ∷ [])
  pub no_try : answers (codes "ACQUIRE(mu)") ≡ Some (Free, Exclusive 1 ∷ Exclusive 1 ∷ Exclusive 1 ∷ [])
  pub of_another : answers (codes "TRY_ACQUIRE(1, nu)") ≡ Some (Free, Free ∷ Free ∷ Free ∷ [])

-- what a call of a function with an attribute makes of the statuses of a lock that is taken once
abbrev pub call : List ℕ → Option (List Judgement)
call attribute = judgements_of (codes "mutex") attribute (codes "g(&mu);") 0 Next once

-- and of one that its holder may take again
abbrev pub call_again : List ℕ → Option (List Judgement)
call_again attribute = judgements_of (codes "reentrant mutex") attribute (codes "g(&mu);") 0 Next again

abbrev pub kept_try : List ℕ → Option (List Judgement)
kept_try attribute = judgements_of (codes "mutex") attribute (codes "int v = g(&mu);") 0 Next once

-- the rows are those of free, shared, exclusive, lent and pending
pub record CallsAreByTheirAttribute : Type 0 where
  pub requires : call (codes "REQUIRES(*m)") ≡ Some (breaks TS03 Free ∷ breaks TS03 Shared ∷ fits (Exclusive 1) ∷ breaks TS03 Lent ∷ breaks TS03 (Pending 4) ∷ [])
  pub requires_shared : call (codes "REQUIRES_SHARED(*m)") ≡ Some (breaks TS04 Free ∷ fits Shared ∷ fits (Exclusive 1) ∷ fits Lent ∷ breaks TS04 (Pending 4) ∷ [])
  pub excluded : call (codes "EXCLUDES(*m)") ≡ Some (fits Free ∷ breaks TS05 Shared ∷ breaks TS05 (Exclusive 1) ∷ breaks TS05 Lent ∷ breaks TS05 (Pending 4) ∷ [])
  pub acquire : call (codes "ACQUIRE(m)") ≡
      Some (fits (Exclusive 1) ∷ breaks TS06 (Exclusive 1) ∷ breaks TS06 (Exclusive 1) ∷ breaks TS06 (Exclusive 1) ∷ breaks TS06 (Exclusive 1) ∷ [])
  pub acquire_shared : call (codes "ACQUIRE_SHARED(m)") ≡ Some (fits Shared ∷ breaks TS06 Shared ∷ breaks TS06 Shared ∷ breaks TS06 Shared ∷ breaks TS06 Shared ∷ [])
  pub try_into_a_variable : kept_try (codes "TRY_ACQUIRE(1, m)") ≡
      Some (fits (Pending 0) ∷ breaks TS06 (Pending 0) ∷ breaks TS06 (Pending 0) ∷ breaks TS06 (Pending 0) ∷ breaks TS06 (Pending 0) ∷ [])
  pub try_shared_into_a_variable : kept_try (codes "TRY_ACQUIRE_SHARED(0, m)") ≡
      Some (fits (Pending 0) ∷ breaks TS06 (Pending 0) ∷ breaks TS06 (Pending 0) ∷ breaks TS06 (Pending 0) ∷ breaks TS06 (Pending 0) ∷ [])
  pub release : call (codes "RELEASE(m)") ≡ Some (breaks TS07 Free ∷ breaks TS08 Free ∷ fits Free ∷ breaks TS08 Lent ∷ breaks TS07 Free ∷ [])
  pub release_shared : call (codes "RELEASE_SHARED(m)") ≡ Some (breaks TS07 Free ∷ fits Free ∷ breaks TS08 Free ∷ breaks TS08 Lent ∷ breaks TS07 Free ∷ [])
  pub release_generic : call (codes "RELEASE_GENERIC(m)") ≡ Some (breaks TS07 Free ∷ fits Free ∷ fits Free ∷ breaks TS08 Lent ∷ breaks TS07 Free ∷ [])
  pub without_an_attribute : call (codes "") ≡ Some (fits Free ∷ fits Shared ∷ fits (Exclusive 1) ∷ fits Lent ∷ fits (Pending 4) ∷ [])

-- the rows are those of free, shared, exclusive of depth 1, 2, 6 and 7, lent and pending
pub record CallsOfReentrantLocksCountDepths : Type 0 where
  pub requires : call_again (codes "REQUIRES(*m)") ≡
      Some (breaks TS03 Free ∷ breaks TS03 Shared ∷ fits (Exclusive 1) ∷ fits (Exclusive 2) ∷ fits (Exclusive 6) ∷ fits (Exclusive 7) ∷ breaks TS03 Lent ∷ breaks TS03 (Pending 4) ∷ [])
  pub requires_shared : call_again (codes "REQUIRES_SHARED(*m)") ≡
      Some (breaks TS04 Free ∷ fits Shared ∷ fits (Exclusive 1) ∷ fits (Exclusive 2) ∷ fits (Exclusive 6) ∷ fits (Exclusive 7) ∷ fits Lent ∷ breaks TS04 (Pending 4) ∷ [])
  pub excluded : call_again (codes "EXCLUDES(*m)") ≡
      Some (fits Free ∷ breaks TS05 Shared ∷ breaks TS05 (Exclusive 1) ∷ breaks TS05 (Exclusive 2) ∷ breaks TS05 (Exclusive 6) ∷ breaks TS05 (Exclusive 7) ∷ breaks TS05 Lent ∷ breaks TS05 (Pending 4) ∷ [])
  pub acquire : call_again (codes "ACQUIRE(m)") ≡
      Some (fits (Exclusive 1) ∷ breaks TS06 (Exclusive 1) ∷ fits (Exclusive 2) ∷ fits (Exclusive 3) ∷ fits (Exclusive 7) ∷ breaks TS06 (Exclusive 7) ∷ breaks TS06 (Exclusive 1) ∷ breaks TS06 (Exclusive 1) ∷ [])
  pub acquire_shared : call_again (codes "ACQUIRE_SHARED(m)") ≡
      Some (fits Shared ∷ breaks TS06 Shared ∷ breaks TS06 Shared ∷ breaks TS06 Shared ∷ breaks TS06 Shared ∷ breaks TS06 Shared ∷ breaks TS06 Shared ∷ breaks TS06 Shared ∷ [])
  pub release : call_again (codes "RELEASE(m)") ≡
      Some (breaks TS07 Free ∷ breaks TS08 Free ∷ fits Free ∷ fits (Exclusive 1) ∷ fits (Exclusive 5) ∷ fits (Exclusive 6) ∷ breaks TS08 Lent ∷ breaks TS07 Free ∷ [])
  pub release_shared : call_again (codes "RELEASE_SHARED(m)") ≡
      Some (breaks TS07 Free ∷ fits Free ∷ breaks TS08 Free ∷ breaks TS08 (Exclusive 1) ∷ breaks TS08 (Exclusive 5) ∷ breaks TS08 (Exclusive 6) ∷ breaks TS08 Lent ∷ breaks TS07 Free ∷ [])
  pub release_generic : call_again (codes "RELEASE_GENERIC(m)") ≡
      Some (breaks TS07 Free ∷ fits Free ∷ fits Free ∷ fits (Exclusive 1) ∷ fits (Exclusive 5) ∷ fits (Exclusive 6) ∷ breaks TS08 Lent ∷ breaks TS07 Free ∷ [])
  pub try_into_a_variable : judgements_of (codes "reentrant mutex") (codes "TRY_ACQUIRE(1, m)") (codes "int v = g(&mu);") 0 Next again ≡
      Some (fits (Pending 0) ∷ breaks TS06 (Pending 0) ∷ breaks TS06 (Pending 0) ∷ breaks TS06 (Pending 0) ∷ breaks TS06 (Pending 0) ∷ breaks TS06 (Pending 0) ∷ breaks TS06 (Pending 0) ∷ breaks TS06 (Pending 0) ∷ [])
  -- the same of all depths
  pub deeper_by_one : (n : ℕ) → n < 7 → deeper (Exclusive n) ≡ Exclusive (n + 1)
  pub no_deeper_than_seven : deeper (Exclusive 7) ≡ Exclusive 7
  pub less_by_one : (n : ℕ) → 1 < n → given_back (Exclusive n) ≡ Exclusive (n - 1)
  pub free_at_last : given_back (Exclusive 1) ≡ Free
