-- A unit that isn't sound, and a start of one that takes a lock.
use Rattle.std.proofs.Common.{Option, Some, None, sym, suc, zero, ◌∙◌, ap, ◌≡◌, ℕ, true, false, List, [], ◌∷◌, refl, subst, arith}
use Rattle.std.specs.Prelude.{All, pos}
use Rattle.tsa_base.specs.declared.value.Value.{Value}
use Rattle.tsa_base.specs.declared.value.Value.TheVariants.{Int}
use Rattle.tsa_lex.specs.Quick.{quick_tokens_of}
use Rattle.tsa_lex.proofs.Quick.{tokens_are}
use Rattle.tsa_tree.specs.types.Texts.{unit_in}
use Rattle.tsa_tree.specs.units.Syntax.{UnitItem}
use Rattle.tsa_core.specs.Programs.{Program, program_of}
use Rattle.tsa_sched.specs.declared.event.EventKind.TheVariants.{Stepped}
use Rattle.tsa_sched.specs.declared.event.Mode.TheVariants.{Exclusive}
use Rattle.tsa_sched.specs.declared.event.Mode.{Mode}
use Rattle.tsa_mean.specs.Acts.{act_of, to_take, to_write}
use Rattle.tsa_mean.specs.Examples.{LockedWritesCanStart, ThreadsBeginWhereNothingIsAsked, UnlockedWritesAreUnsound}
use Rattle.tsa_mean.specs.Frames.{frame_of_call}
use Rattle.tsa_mean.specs.Sound.{IsPick, Race, Sound, Start}
use Rattle.tsa_mean.specs.Starts.{AsksNothing, Begin, BeginsWell, first_state, no_holds}
use Rattle.tsa_mean.specs.States.{Frame, running, Thread, thread_at}
use Rattle.tsa_mean.specs.Texts.{turns, without}
use Rattle.tsa_mean.specs.Traces.{locked_write, twice, unlocked_write}
use Rattle.tsa_mean.proofs.Lists.{all_more, all_none}
use Rattle.tsa_mean.proofs.Starting.{first_states_are_starts, well_typed}
use Rattle.tsa_mean.proofs.RunExamples.{turned}

impossible : {A : Type 0} → true ≡ false → A
impossible e = absurd cc

some_first : {A : Type 0} (x : A) (xs : List A) → x ∷ xs ≡ [] → ⊥
some_first x xs e = cc

apart : ◌≡◌ {A = ℕ} 0 1 → ⊥
apart e = omega arith

abbrev unlocked_items : List UnitItem
unlocked_items = unit_in (quick_tokens_of unlocked_write)

abbrev unlocked_program : Program
unlocked_program = program_of unlocked_items

abbrev locked_items : List UnitItem
locked_items = unit_in (quick_tokens_of locked_write)

abbrev locked_program : Program
locked_program = program_of locked_items

abbrev second : Begin
second = record { function = 2; args = [] }

-- two threads that begin with function 2 begin well
two_begin : (u : Program) → BeginsWell u second → All (BeginsWell u) (twice 2)
two_begin u well = all_more (BeginsWell u) second (second ∷ []) well (all_more (BeginsWell u) second [] well (all_none (BeginsWell u)))

two_ask_nothing : (u : Program) → AsksNothing u second → All (AsksNothing u) (twice 2)
two_ask_nothing u silent = all_more (AsksNothing u) second (second ∷ []) silent (all_more (AsksNothing u) second [] silent (all_none (AsksNothing u)))

unlocked_begins : BeginsWell unlocked_program second
unfolding turned
unlocked_begins = record { body = refl; args = refl }

locked_begins : BeginsWell locked_program second
unfolding turned
locked_begins = record { body = refl; args = refl }

unlocked_starts : Start unlocked_program (first_state unlocked_program (twice 2))
unfolding turned
unlocked_starts = first_states_are_starts.start unlocked_program (twice 2) (two_begin unlocked_program unlocked_begins) (two_ask_nothing unlocked_program refl) (well_typed unlocked_program.layout refl)

locked_starts : Start locked_program (first_state locked_program (twice 2))
unfolding turned
locked_starts = first_states_are_starts.start locked_program (twice 2) (two_begin locked_program locked_begins) (two_ask_nothing locked_program refl) (well_typed locked_program.layout refl)

one_pick : All IsPick (turns (0 ∷ []))
one_pick = all_more IsPick (record { thread = 0; answer = pos 0 }) [] (record { thread = omega arith; answer = refl }) (all_none IsPick)

unlocked_violates : Sound unlocked_items → ⊥
unfolding turned
unlocked_violates sound =
    let e : true ≡ false = (sound (first_state unlocked_program (twice 2)) unlocked_starts (turns (0 ∷ [])) one_pick).safe zero (without 0 Stepped) (omega arith) in impossible e

unlocked_races : Race unlocked_program (first_state unlocked_program (twice 2))
unfolding turned
unlocked_races = record {
  one = 0;
  other = 1;
  apart = apart;
  frame = _;
  below = [];
  runs = refl;
  other_frame = _;
  other_below = [];
  other_runs = refl;
  cell = 2;
  value = Int (pos 1);
  writes = refl;
  touches = refl;
  guarded = some_first _ _;
}

-- the first act of each thread takes the lock
same_top : {a c : Frame} {b d : List Frame} → ◌≡◌ {A = Option Thread} (Some (running a b)) (Some (running c d)) → a ≡ c
same_top e = cc

nobody : {frame : Frame} {below : List Frame} {A : Type 0} → ◌≡◌ {A = Option Thread} None (Some (running frame below)) → A
nobody e = cc

no_write : {mode : Mode} {lock place : ℕ} {v : Value} → to_take mode lock ≡ to_write place v → ⊥
no_write e = cc

takes_first : (u : Program) (top frame : Frame) (mode : Mode) (lock place : ℕ) (v : Value) → act_of u top ≡ to_take mode lock → top ≡ frame → act_of u frame ≡ to_write place v → ⊥
takes_first u top frame mode lock place v takes same writes = no_write (sym takes ∙ ap (act_of u) same ∙ writes)

first_frame : Frame
first_frame = frame_of_call locked_program 2 [] no_holds

first_act : act_of locked_program first_frame ≡ to_take Exclusive 0
unfolding turned first_frame
first_act = refl

none_writes : (t : ℕ) (frame : Frame) (below : List Frame) (place : ℕ) (v : Value) → thread_at (first_state locked_program (twice 2)) t ≡ Some (running frame below)
    → act_of locked_program frame ≡ to_write place v → ⊥
unfolding first_frame
none_writes zero frame below place v runs = takes_first locked_program first_frame frame Exclusive 0 place v first_act (same_top runs)
none_writes (suc zero) frame below place v runs = takes_first locked_program first_frame frame Exclusive 0 place v first_act (same_top runs)
none_writes (suc (suc t)) frame below place v runs = nobody runs

locked_races_not : Race locked_program (first_state locked_program (twice 2)) → ⊥
locked_races_not race = none_writes race.one race.frame race.below race.cell race.value race.runs race.writes

pub unlocked_writes_are_unsound : UnlockedWritesAreUnsound
unlocked_writes_are_unsound = record {
  unsound = subst (λ tokens. Sound (unit_in tokens) → ⊥) (tokens_are unlocked_write) unlocked_violates;
  race = subst (λ tokens. Race (program_of (unit_in tokens)) (first_state (program_of (unit_in tokens)) (twice 2))) (tokens_are unlocked_write) unlocked_races;
}

pub locked_writes_can_start : LockedWritesCanStart
locked_writes_can_start = record {
  start = subst (λ tokens. Start (program_of (unit_in tokens)) (first_state (program_of (unit_in tokens)) (twice 2))) (tokens_are locked_write) locked_starts;
  no_race = subst (λ tokens. Race (program_of (unit_in tokens)) (first_state (program_of (unit_in tokens)) (twice 2)) → ⊥) (tokens_are locked_write) locked_races_not;
}

pub threads_begin_where_nothing_is_asked : ThreadsBeginWhereNothingIsAsked
unfolding turned
threads_begin_where_nothing_is_asked = record {
  bound = refl;
  unbound = refl;
  with_body = refl;
  null = refl;
  const_target = refl;
  no_const_target = refl;
  guarded_target = refl;
  another_struct = refl;
  no_struct = refl;
  too_great = refl;
  too_great_unsigned = refl;
  too_few = refl;
  of_another_kind = refl;
}
