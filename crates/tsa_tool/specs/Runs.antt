-- What a run of the tool leaves in its source and its sink.
use Rattle.std.specs.Prelude.{ℕ, ◌≡◌, ◌⊎◌, ◌<◌, List, Some, None, take}
use Rattle.std.specs.declared.option.Option.{Option}
use Rattle.std.specs.Io.KnownBytes.{Consumes, Appends}
use Rattle.tsa_tool.specs.declared.answer.Status.{Status}
use Rattle.tsa_tool.specs.declared.command.Command.{Command}
use Rattle.tsa_base.specs.Transfer.{AppendsFront}
use Rattle.tsa_tool.specs.Reports.{IsReport, Report, input_read, status_number}

-- P holds of the bytes that a source has left, or of some bytes where it doesn't tell them
abbrev pub OfInput : Option (List ℕ) → (List ℕ → Type 0) → Type 0
OfInput None P = (bytes : List ℕ) × P bytes
OfInput (Some bytes) P = P bytes

-- the status says that the input or the words were answered
abbrev pub IsAnswer : ℕ → Type 0
IsAnswer status = (status < 4) ⊎ (status ≡ 7)

-- a report that is right was written whole, and its status is given
pub record Gives (IsRight : Report → Type 0) (taken taken_after : Option (List ℕ)) (status : Status) : Type 0 where
  pub report : Report
  pub is_right : IsRight report
  pub status_is : report.status ≡ status
  pub written : Appends taken taken_after report.text

-- what was written is a first part of whatever report is right
abbrev pub WritesFront : (Report → Type 0) → (taken taken_after : Option (List ℕ)) → Type 0
WritesFront IsRight taken taken_after = (report : Report) → IsRight report → AppendsFront taken taken_after report.text

-- the command's report on the input was written whole, and the status is the report's number
abbrev pub Answers : Option Command → (input : List ℕ) → (taken taken_after : Option (List ℕ)) → (status : ℕ) → Type 0
Answers command input taken taken_after status = (s : Status) × (Gives (IsReport command input) taken taken_after s × (status ≡ status_number s))

-- of the input was taken what the command reads, and no more
abbrev pub ReadsItsInput : Option Command → List ℕ → Option (List ℕ) → Option (List ℕ) → Type 0
ReadsItsInput command input left left_after = Consumes left left_after (take (input_read command input) input)
