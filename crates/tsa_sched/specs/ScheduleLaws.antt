-- Schedules and their texts.
use Rattle.std.specs.Prelude.{ℕ, ◌≡◌, ◌↔◌, ℤ, pos, negsuc, List, [], ◌∷◌, Some, None, codes}
use Rattle.tsa_sched.specs.declared.pick.Pick.{Pick}
use Rattle.tsa_sched.specs.Schedules.{SpellsSchedule}
use Rattle.tsa_sched.specs.Parts.{picks_of}

abbrev pick : ℕ → ℤ → Pick
pick thread answer = record { thread = thread; answer = answer }

-- what is read byte by byte is what spells the text
abbrev pub SchedulesAreRead : Type 0
SchedulesAreRead = (text : List ℕ) (picks : List Pick) → (picks_of text ≡ Some picks) ↔ SpellsSchedule text picks

-- texts with their picks, and texts that are no schedule
pub record SchedulesAreAsWritten : Type 0 where
  pub empty : picks_of (codes "") ≡ Some []
  pub thread : picks_of (codes "7") ≡ Some (pick 7 (pos 0) ∷ [])
  pub threads : picks_of (codes "0,10,0") ≡ Some (pick 0 (pos 0) ∷ pick 10 (pos 0) ∷ pick 0 (pos 0) ∷ [])
  pub answers : picks_of (codes "1:5,0:-12,2:0") ≡ Some (pick 1 (pos 5) ∷ pick 0 (negsuc 11) ∷ pick 2 (pos 0) ∷ [])
  pub greatest : picks_of (codes "4294967295:2147483647") ≡ Some (pick 4294967295 (pos 2147483647) ∷ [])
  pub least : picks_of (codes "0:-2147483648") ≡ Some (pick 0 (negsuc 2147483647) ∷ [])
  pub past_greatest_thread : picks_of (codes "4294967296") ≡ None
  pub past_greatest : picks_of (codes "0:2147483648") ≡ None
  pub past_least : picks_of (codes "0:-2147483649") ≡ None
  pub leading_zero : picks_of (codes "01") ≡ None
  pub leading_zero_of_an_answer : picks_of (codes "0:01") ≡ None
  pub negative_zero : picks_of (codes "0:-0") ≡ None
  pub plus : picks_of (codes "0:+1") ≡ None
  pub negative_thread : picks_of (codes "-1") ≡ None
  pub nothing_between : picks_of (codes "0,,1") ≡ None
  pub comma_at_the_end : picks_of (codes "0,") ≡ None
  pub comma_in_front : picks_of (codes ",0") ≡ None
  pub colon_at_the_end : picks_of (codes "0:") ≡ None
  pub minus_at_the_end : picks_of (codes "0:-") ≡ None
  pub blank : picks_of (codes "0, 1") ≡ None
