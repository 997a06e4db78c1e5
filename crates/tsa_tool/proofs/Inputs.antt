-- What is written and taken where an input is read to its end, where it is too long, and where the words are refused.
use Rattle.std.proofs.Common.{◌≡◌, ◌∙◌, ◌+◌, ◌≤◌, arith, ℕ, true, List, [], ◌++◌, length, take, Option, Some, None, Result, Ok, Err, nat_lt}
use Rattle.std.proofs.Common.{refl, sym, ap, subst, append-nil}
use Rattle.std.proofs.Math.Nat.{min_comm}
use Rattle.std.proofs.lemmas.Bool.{le-ltb, lt-ltb}
use Rattle.std.proofs.lemmas.List.{length-append, take_all, take_at, take_min}
use Rattle.std.specs.Io.KnownBytes.{Appends, Consumes, IsAtEnd}
use Rattle.std.specs.Prelude.{IfOk, OnErr}
use Rattle.tsa_base.specs.declared.limits.TheConstants.{INPUT_LIMIT}
use Rattle.tsa_tool.specs.Reports.{IsAnswerTo, IsReport, IsReportBy, Report, input_read, too_long, words_refused}
use Rattle.tsa_tool.specs.Runs.{Gives, OfInput, ReadsItsInput, WritesFront}
use Rattle.tsa_tool.specs.declared.answer.Status.{Status}
use Rattle.tsa_tool.specs.declared.exchange.Trouble.{Trouble}
use Rattle.tsa_tool.specs.declared.command.Command.{Command}

-- what holds of all bytes holds of an input
pub of_input : (left : Option (List ℕ)) (P : List ℕ → Type 0) → ((bytes : List ℕ) → P bytes) → OfInput left P
of_input None P all = ([], all [])
of_input (Some bytes) P all = all bytes

-- a report that is written whole
pub written : (IsRight : Report → Type 0) (taken new : Option (List ℕ)) (report : Report) (result : Result Status Trouble) → IsRight report
    → IfOk result (λ s. s ≡ report.status) → IfOk result (λ s. Appends taken new report.text) → IfOk result (Gives IsRight taken new)
written IsRight taken new report (Ok s) right status all = record { report = report; is_right = right; status_is = sym status; written = all }
written IsRight taken new report (Err e) right status all = tt

pub error_of : (P : Type 0) (result : Result Status Trouble) (e : Trouble) → result ≡ Err e → OnErr result P → P
error_of P result e is h = subst (λ r. OnErr r P) is h

-- nothing is taken for words that are refused
takes_nothing : (left : Option (List ℕ)) → Consumes left left []
takes_nothing None = tt
takes_nothing (Some xs) = refl

module _ (left taken new : Option (List ℕ)) where
  pub refuses_words : (command : Option Command) (report : Report) (result : Result Status Trouble) → command ≡ None → report ≡ words_refused
      → IfOk result (λ s. s ≡ report.status) → IfOk result (λ s. Appends taken new report.text)
      → IfOk result (λ s. OfInput left (λ bytes. Gives (IsReport command bytes) taken new s × ReadsItsInput command bytes left left))
  refuses_words None report (Ok s) none is status all =
      of_input left (λ bytes. Gives (IsReport None bytes) taken new s × ReadsItsInput None bytes left left)
      (λ bytes. (record { report = report; is_right = is; status_is = sym status; written = all }, takes_nothing left))
  refuses_words None report (Err e) none is status all = tt
  refuses_words (Some command) report result none is status all = cc

-- an input that is read to its end
is_short : (command : Command) (bytes : List ℕ) (report : Report) → length bytes ≤ INPUT_LIMIT → IsAnswerTo command bytes report → IsReport (Some command) bytes report
is_short command bytes report short right = subst (λ long. IsReportBy long command bytes report) (sym (le-ltb INPUT_LIMIT (length bytes) short)) right

takes_all : (command : Command) (bytes : List ℕ) → length bytes ≤ INPUT_LIMIT → take (input_read (Some command) bytes) bytes ≡ bytes
takes_all command bytes short =
    ap (λ n. take n bytes) (min_comm (length bytes) (INPUT_LIMIT + 1)) ∙ take_min (INPUT_LIMIT + 1) bytes
    ∙ take_all (INPUT_LIMIT + 1) bytes (omega (arith, short))

module _ (command : Command) (bytes : List ℕ) (short : length bytes ≤ INPUT_LIMIT) where
  -- all of the input
  pub whole : (left after : Option (List ℕ)) (P : List ℕ → Type 0) → Consumes left after bytes → IsAtEnd after → P bytes → OfInput left P
  whole None after P consumes end h = (bytes, h)
  whole (Some xs) None P consumes end h = absurd consumes
  whole (Some xs) (Some ys) P consumes end h = subst P (sym (consumes ∙ ap (λ t. bytes ++ t) end ∙ append-nil bytes)) h

  reads_all : (left after : Option (List ℕ)) → Consumes left after bytes → ReadsItsInput (Some command) bytes left after
  reads_all left after consumes = subst (Consumes left after) (sym (takes_all command bytes short)) consumes

  module _ (left after taken new : Option (List ℕ)) (consumes : Consumes left after bytes) (end : IsAtEnd after) where
    right_for : (s : Status) → Gives (IsAnswerTo command bytes) taken new s → Gives (IsReport (Some command) bytes) taken new s
    right_for s g = record { report = g.report; is_right = is_short command bytes g.report short g.is_right; status_is = g.status_is; written = g.written }

    pub answers : (result : Result Status Trouble) → IfOk result (Gives (IsAnswerTo command bytes) taken new)
        → IfOk result (λ s. OfInput left (λ input. Gives (IsReport (Some command) input) taken new s × ReadsItsInput (Some command) input left after))
    answers (Ok s) g =
        whole left after (λ input. Gives (IsReport (Some command) input) taken new s × ReadsItsInput (Some command) input left after) consumes end
        (right_for s g, reads_all left after consumes)
    answers (Err e) g = tt

    answers_to : (report : Report) → IsReport (Some command) bytes report → IsAnswerTo command bytes report
    answers_to report right = subst (λ long. IsReportBy long command bytes report) (le-ltb INPUT_LIMIT (length bytes) short) right

    pub writes_front : WritesFront (IsAnswerTo command bytes) taken new → OfInput left (λ input. WritesFront (IsReport (Some command) input) taken new)
    writes_front front =
        whole left after (λ input. WritesFront (IsReport (Some command) input) taken new) consumes end (λ report right. front report (answers_to report right))

-- an input that is too long
module _ (command : Command) (bytes : List ℕ) (long : length bytes ≡ INPUT_LIMIT + 1) where
  is_long : (input rest : List ℕ) → input ≡ bytes ++ rest → nat_lt INPUT_LIMIT (length input) ≡ true
  is_long input rest is =
      let whole : length input ≡ length bytes + length rest = ap length is ∙ length-append bytes rest in
      lt-ltb INPUT_LIMIT (length input) (omega (arith, whole, long))

  too_long_for : (input rest : List ℕ) (report : Report) → input ≡ bytes ++ rest → report ≡ too_long → IsReport (Some command) input report
  too_long_for input rest report is report_is = subst (λ b. IsReportBy b command input report) (sym (is_long input rest is)) report_is

  takes_front : (input rest : List ℕ) → input ≡ bytes ++ rest → take (input_read (Some command) input) input ≡ bytes
  takes_front input rest is =
      ap (λ n. take n input) (min_comm (length input) (INPUT_LIMIT + 1)) ∙ take_min (INPUT_LIMIT + 1) input
      ∙ ap (take (INPUT_LIMIT + 1)) is ∙ take_at bytes rest (INPUT_LIMIT + 1) long

  module _ (taken new : Option (List ℕ)) (report : Report) (report_is : report ≡ too_long) where
    gives : (input rest : List ℕ) (s : Status) → input ≡ bytes ++ rest → s ≡ report.status → Appends taken new report.text → Gives (IsReport (Some command) input) taken new s
    gives input rest s is status all = record { report = report; is_right = too_long_for input rest report is report_is; status_is = sym status; written = all }

    by_left : (left after : Option (List ℕ)) (s : Status) → Consumes left after bytes → s ≡ report.status → Appends taken new report.text
        → OfInput left (λ input. Gives (IsReport (Some command) input) taken new s × ReadsItsInput (Some command) input left after)
    by_left None after s consumes status all = (bytes, (gives bytes [] s (sym (append-nil bytes)) status all, tt))
    by_left (Some xs) None s consumes status all = absurd consumes
    by_left (Some xs) (Some ys) s consumes status all =
        (gives xs ys s consumes status all, consumes ∙ ap (λ t. t ++ ys) (sym (takes_front xs ys consumes)))

    pub refuses_length : (left after : Option (List ℕ)) (result : Result Status Trouble) → Consumes left after bytes → IfOk result (λ s. s ≡ report.status)
        → IfOk result (λ s. Appends taken new report.text)
        → IfOk result (λ s. OfInput left (λ input. Gives (IsReport (Some command) input) taken new s × ReadsItsInput (Some command) input left after))
    refuses_length left after (Ok s) consumes status all = by_left left after s consumes status all
    refuses_length left after (Err e) consumes status all = tt
