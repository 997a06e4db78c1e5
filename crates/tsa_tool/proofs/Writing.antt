-- What is written of a report that is right.
use Rattle.std.proofs.Common.{◌≡◌, ℕ, List, Option, Result, Ok, Err, refl, sym, subst}
use Rattle.std.specs.Io.KnownBytes.{Appends}
use Rattle.tsa_base.specs.Transfer.{AppendsFront}
use Rattle.tsa_tree.specs.units.Syntax.{UnitItem}
use Rattle.tsa_tool_held.specs.Held.{IsHeld}
use Rattle.tsa_tool_held.proofs.Fronts.{nothing_yet}
use Rattle.tsa_tool.specs.Checks.{fit_in}
use Rattle.tsa_tool.specs.Reports.{IsHeldOf, OfUnit, Report, refused_report}
use Rattle.tsa_tool.specs.Runs.{Gives, WritesFront}
use Rattle.tsa_tool.specs.declared.answer.Status.TheVariants.{Shown}
use Rattle.tsa_tool.specs.declared.check.Refusal.{Refusal}

-- of the one report that is right
module _ (IsRight : Report → Type 0) (once : (a b : Report) → IsRight a → IsRight b → a ≡ b) (taken new : Option (List ℕ)) where
  pub front_of_one : (r : Report) → IsRight r → AppendsFront taken new r.text → WritesFront IsRight taken new
  front_of_one r is front other right = subst (λ x. AppendsFront taken new x.text) (once r other is right) front

pub nothing_written : (IsRight : Report → Type 0) (taken : Option (List ℕ)) → WritesFront IsRight taken taken
nothing_written IsRight taken report right = nothing_yet taken report.text

-- of a unit that is refused
pub refused_is_right : (bytes : List ℕ) (IsOf : List UnitItem → Report → Type 0) (r : Result (List UnitItem) Refusal) (refusal : Refusal) (report : Report)
    → r ≡ Err refusal → report ≡ refused_report bytes refusal → OfUnit bytes IsOf r report
refused_is_right bytes IsOf r refusal report refuses is = subst (λ x. OfUnit bytes IsOf x report) (sym refuses) is

-- of held sets
module _ (bytes : List ℕ) (items : List UnitItem) (taken new : Option (List ℕ)) where
  front_of : ((lines : List ℕ) → IsHeld bytes items lines → AppendsFront taken new lines) → (report : Report) → IsHeldOf bytes items report
      → AppendsFront taken new report.text
  front_of front report (text, (held, is)) = subst (λ r. AppendsFront taken new r.text) (sym is) (front text held)

  pub held_front : fit_in bytes ≡ Ok items → ((lines : List ℕ) → IsHeld bytes items lines → AppendsFront taken new lines)
      → WritesFront (OfUnit bytes (IsHeldOf bytes) (fit_in bytes)) taken new
  held_front fits front report right = front_of front report (subst (λ r. OfUnit bytes (IsHeldOf bytes) r report) fits right)

  pub held_given : fit_in bytes ≡ Ok items → (lines : List ℕ) → IsHeld bytes items lines → Appends taken new lines
      → Gives (OfUnit bytes (IsHeldOf bytes) (fit_in bytes)) taken new Shown
  held_given fits lines held written =
      let report : Report = record { status = Shown; text = lines } in
      record {
        report = report;
        is_right = subst (λ r. OfUnit bytes (IsHeldOf bytes) r report) (sym fits) (lines, (held, refl));
        status_is = refl;
        written = written;
      }
