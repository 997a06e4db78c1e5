-- A unit that hands a lock over to a function meets all that the laws ask of a program.
use Rattle.std.proofs.Common.{ℕ, zero, suc, ◌≡◌, ◌^◌, length, refl, subst, leb-true}
use Rattle.std.specs.Prelude.{IsSome, slice_get}
use Rattle.tsa_place_model.specs.Layouts.{structure_at}
use Rattle.tsa_core.proofs.BodyExamples.{worked}
use Rattle.tsa_path.specs.Laws.{IsSmall}
use Rattle.tsa_rules.specs.Points.{function_at}
use Rattle.tsa_mean.proofs.RunExamples.{turned}
use Rattle.tsa_sound.specs.Examples.{ACallMeetsTheFacts, call_rows, locked_call}
use Rattle.tsa_sound.specs.Facts.{FunctionFacts}
use Rattle.tsa_sound.specs.LaidOut.{LaidOut}
use Rattle.tsa_sound.proofs.ExampleCallee.{callee_facts}
use Rattle.tsa_sound.proofs.ExampleCaller.{caller_facts, no_body}
use Rattle.tsa_sound.proofs.ExampleLayout.{Names, all_laid_out, layout, names_of}

abbrev inner_names : Names
inner_names = names_of (slice_get (structure_at locked_call.layout.structs 0).members 0) (slice_get locked_call.layout.places 1)

abbrev lock_names : Names
lock_names = names_of (slice_get locked_call.layout.globals 0) (slice_get locked_call.layout.places 0)

abbrev number_names : Names
number_names = names_of (slice_get locked_call.layout.globals 1) (slice_get locked_call.layout.places 2)

layout_is : layout inner_names lock_names number_names ≡ locked_call.layout
unfolding turned
layout_is = refl

laid_out : LaidOut locked_call.layout
laid_out = subst LaidOut layout_is (all_laid_out inner_names lock_names number_names)

few_places : IsSmall locked_call.layout
unfolding worked
few_places = leb-true (length locked_call.layout.places) (2 ^ 31) refl

with_body : (n : ℕ) → IsSome (function_at locked_call n).body → FunctionFacts locked_call call_rows n
unfolding worked
with_body zero h = no_body h
with_body (suc zero) h = no_body h
with_body (suc (suc zero)) h = callee_facts
with_body (suc (suc (suc zero))) h = caller_facts
with_body (suc (suc (suc (suc n)))) h = no_body h

pub a_call_meets_the_facts : ACallMeetsTheFacts
a_call_meets_the_facts = record { laid = laid_out; small = few_places; functions = with_body }
