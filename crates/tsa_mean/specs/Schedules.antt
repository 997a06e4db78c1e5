-- Runs of accepted units by two threads: in turn, one after the other, and in an order of their own.
use Rattle.std.specs.Prelude.{◌≡◌, ℕ, pos, not, Bool, true, Some, List, [], ◌∷◌, ◌++◌, replicate, codes}
use Rattle.std.specs.List.{list_all}
use Rattle.tsa_base.specs.declared.value.Value.TheVariants.{Int, Pointer}
use Rattle.tsa_base.specs.Tokens.{tokens_of}
use Rattle.tsa_tree.specs.types.Texts.{unit_in}
use Rattle.tsa_core.specs.Programs.{Program, program_of}
use Rattle.tsa_sched.specs.declared.event.Event.{Event}
use Rattle.tsa_mean.specs.Sound.{Start}
use Rattle.tsa_mean.specs.Starts.{Begin, first_state}
use Rattle.tsa_mean.specs.Texts.{a_lock_with_tries, begin, events, turns}
use Rattle.tsa_mean.specs.Traces.{bank, locked_write, twice}

-- no event of a run is a violation
abbrev pub are_safe : List Event → Bool
are_safe events = list_all (λ e. not e.violation) events

-- the orders in which two threads take turns
abbrev pub in_turn : List ℕ
in_turn = 0 ∷ 1 ∷ 0 ∷ 1 ∷ 0 ∷ 1 ∷ 0 ∷ 1 ∷ 0 ∷ 1 ∷ 0 ∷ 1 ∷ 0 ∷ 1 ∷ 0 ∷ 1 ∷ []

abbrev pub one_after_the_other : List ℕ
one_after_the_other = replicate 8 0 ++ replicate 8 1

abbrev pub mixed : List ℕ
mixed = 0 ∷ 0 ∷ 1 ∷ 1 ∷ 1 ∷ 0 ∷ 1 ∷ 0 ∷ 0 ∷ 0 ∷ 1 ∷ 1 ∷ 0 ∷ 1 ∷ 1 ∷ 1 ∷ []

-- each of the three
pub record RunsSafely (text : List ℕ) (begins : List Begin) : Type 0 where
  pub turn_by_turn : are_safe (events text begins (turns in_turn)) ≡ true
  pub one_by_one : are_safe (events text begins (turns one_after_the_other)) ≡ true
  pub in_between : are_safe (events text begins (turns mixed)) ≡ true

-- a lock that is tried in a loop, and one whose try is kept in a local
abbrev pub tried_in_a_loop : List ℕ
tried_in_a_loop = a_lock_with_tries ++ codes "void w(void) {\n  while (!tr(&mu)) { }\n  g = 1;\n  rel(&mu);\n}"

abbrev pub tried_into_a_local : List ℕ
tried_into_a_local = a_lock_with_tries ++ codes "void w(void) {\n  int ok = tr(&mu);\n  if (ok) { g = 1; rel(&mu); }\n}"

-- one transfer each way between the two accounts
abbrev pub both_ways : List Begin
both_ways = begin 2 (Pointer (Some 0) ∷ Pointer (Some 4) ∷ Int (pos 1) ∷ []) ∷ begin 2 (Pointer (Some 4) ∷ Pointer (Some 0) ∷ Int (pos 2) ∷ []) ∷ []

pub record AcceptedUnitsRunSafely : Type 0 where
  pub locked : RunsSafely locked_write (twice 2)
  pub transfers : RunsSafely bank both_ways
  pub in_a_loop : RunsSafely tried_in_a_loop (twice 5)
  pub into_a_local : RunsSafely tried_into_a_local (twice 5)

-- two threads can begin with the transfer between the accounts
abbrev pub bank_program : Program
bank_program = program_of (unit_in (tokens_of bank))

abbrev pub TransfersCanStart : Type 0
TransfersCanStart = Start bank_program (first_state bank_program both_ways)
