-- Runs under written schedules, worked out.
use Rattle.std.proofs.Common.{◌≡◌, ℕ, pos, true, List, [], ◌∷◌, Some, refl, subst}
use Rattle.std.specs.Prelude.{All}
use Rattle.tsa_base.specs.declared.value.Value.TheVariants.{Int, Pointer}
use Rattle.tsa_lex.specs.Quick.{quick_tokens_of}
use Rattle.tsa_lex.proofs.Quick.{tokens_are}
use Rattle.tsa_tree.specs.types.Texts.{unit_in}
use Rattle.tsa_core.specs.Programs.{Program, program_of}
use Rattle.tsa_sched.specs.declared.pick.Pick.{Pick}
use Rattle.tsa_mean.specs.Sound.{Start}
use Rattle.tsa_mean.specs.Starts.{AsksNothing, Begin, BeginsWell, first_state}
use Rattle.tsa_mean.specs.Texts.{begin, events, events_in}
use Rattle.tsa_mean.specs.Traces.{bank}
use Rattle.tsa_mean.proofs.Lists.{all_more, all_none}
use Rattle.tsa_mean.proofs.Starting.{first_states_are_starts, well_typed}
use Rattle.tsa_mean.proofs.RunExamples.{turned}
use Rattle.tsa_mean.specs.Schedules.{AcceptedUnitsRunSafely, TransfersCanStart, are_safe, both_ways}

-- tokens worked out quickly are those of the text
safely : (text : List ℕ) (begins : List Begin) (picks : List Pick) → are_safe (events_in (program_of (unit_in (quick_tokens_of text))) begins picks) ≡ true
    → are_safe (events text begins picks) ≡ true
unfolding events
safely text begins picks safe = subst (λ tokens. are_safe (events_in (program_of (unit_in tokens)) begins picks) ≡ true) (tokens_are text) safe

pub accepted_units_run_safely : AcceptedUnitsRunSafely
unfolding turned
accepted_units_run_safely = record {
  locked = record { turn_by_turn = safely _ _ _ refl; one_by_one = safely _ _ _ refl; in_between = safely _ _ _ refl };
  transfers = record { turn_by_turn = safely _ _ _ refl; one_by_one = safely _ _ _ refl; in_between = safely _ _ _ refl };
  in_a_loop = record { turn_by_turn = safely _ _ _ refl; one_by_one = safely _ _ _ refl; in_between = safely _ _ _ refl };
  into_a_local = record { turn_by_turn = safely _ _ _ refl; one_by_one = safely _ _ _ refl; in_between = safely _ _ _ refl };
}

-- the start of two transfers
abbrev quick_program : Program
quick_program = program_of (unit_in (quick_tokens_of bank))

abbrev there : Begin
there = begin 2 (Pointer (Some 0) ∷ Pointer (Some 4) ∷ Int (pos 1) ∷ [])

abbrev back : Begin
back = begin 2 (Pointer (Some 4) ∷ Pointer (Some 0) ∷ Int (pos 2) ∷ [])

there_begins : BeginsWell quick_program there
unfolding turned
there_begins = record { body = refl; args = refl }

back_begins : BeginsWell quick_program back
unfolding turned
back_begins = record { body = refl; args = refl }

both_begin : All (BeginsWell quick_program) both_ways
both_begin = all_more (BeginsWell quick_program) there (back ∷ []) there_begins (all_more (BeginsWell quick_program) back [] back_begins (all_none (BeginsWell quick_program)))

both_ask_nothing : All (AsksNothing quick_program) both_ways
unfolding turned
both_ask_nothing = all_more (AsksNothing quick_program) there (back ∷ []) refl (all_more (AsksNothing quick_program) back [] refl (all_none (AsksNothing quick_program)))

quick_start : Start quick_program (first_state quick_program both_ways)
unfolding turned
quick_start = first_states_are_starts.start quick_program both_ways both_begin both_ask_nothing (well_typed quick_program.layout refl)

pub transfers_can_start : TransfersCanStart
transfers_can_start = subst (λ tokens. Start (program_of (unit_in tokens)) (first_state (program_of (unit_in tokens)) both_ways)) (tokens_are bank) quick_start
