-- The unit of an input that `check` answers by 0 is sound.
use Rattle.std.proofs.Common.{◌≡◌, ◌∙◌, ℕ, Bool, true, false, List, length, Option, Some, None, Result, Ok, Err, ◌==◌, if◌then◌else◌}
use Rattle.std.proofs.Common.{nat_lt, refl, sym, ap, subst}
use Rattle.std.specs.Prelude.{IfOk}
use Rattle.tsa_base.specs.declared.limits.TheConstants.{INPUT_LIMIT}
use Rattle.tsa_tree.specs.units.Syntax.{UnitItem}
use Rattle.tsa_tree.proofs.units.MoreWords.{unit_spellable}
use Rattle.tsa_expr.specs.declared.refusal.SyntaxCode.{SyntaxCode}
use Rattle.tsa_expr.specs.declared.refusal.SyntaxCode.TheVariants.{SY1, AT1, AT2, LM2, LM3, LM5}
use Rattle.tsa_profile_accesses.specs.declared.premise.ProfileCode.{ProfileCode}
use Rattle.tsa_profile_accesses.specs.declared.premise.ProfileCode.TheVariants.{PF1, PF2, PF3, PF4, PF5, PF6, PF7, PF8, PF9, LM4, LM7}
use Rattle.tsa_sound_accepted.specs.terms.Units.{IsInProfile}
use Rattle.tsa_tool_held.specs.WarningLines.{Warned}
use Rattle.tsa_place_model.proofs.PlacedLaid.{placed_units_are_laid}
use Rattle.tsa_sound_accepted.proofs.AcceptedUnits.{units_without_warnings_are_sound}
use Rattle.tsa_sound_accepted.proofs.SmallLayouts.{layouts_are_small}
use Rattle.tsa_tool.specs.Checks.{fit_in}
use Rattle.tsa_tool.specs.Reports.{IsCheckOf, IsReport, IsReportBy, OfUnit, Report, accepted, profile_status, refused_report, status_number}
use Rattle.tsa_tool.specs.Reports.{syntax_status, warned_report}
use Rattle.tsa_tool.specs.Runs.{Gives, OfInput, ReadsItsInput}
use Rattle.tsa_tool.specs.Units.{AcceptedUnitsAreSound, IsAccepted, IsFit, SpellsSoundUnit}
use Rattle.tsa_tool.specs.declared.answer.Status.{Status}
use Rattle.tsa_tool.specs.declared.answer.Status.TheVariants.{Accepted, Warned as Warns}
use Rattle.tsa_tool.specs.declared.exchange.Trouble.{Trouble}
use Rattle.tsa_tool.specs.declared.check.Refusal.{Refusal}
use Rattle.tsa_tool.specs.declared.check.Refusal.TheVariants.{Lex, Syntax, Types, Places, Profile}
use Rattle.tsa_tool.specs.declared.command.Command.{Command}
use Rattle.tsa_tool.specs.declared.command.Command.TheVariants.{Check}
use Rattle.tsa_tool.proofs.Acceptance.{accepted_units}
use Rattle.tsa_tool.proofs.PrintedAgain.{unit_is_spelled}

-- a unit that is fit is in the profile, as the laws of soundness ask
in_profile : (text : List ℕ) (items : List UnitItem) (fit : IsFit text items) → IsInProfile items fit.layout
in_profile text items fit = record {
  spellable = unit_spellable text fit.tokens items fit.lexed (unit_is_spelled fit.tokens items fit.parsed);
  typed = fit.typed;
  placed = placed_units_are_laid items fit.layout fit.placed;
  small = layouts_are_small items fit.layout fit.placed;
  profiled = fit.profiled;
}

accepted_sound : (text : List ℕ) → IsAccepted text → SpellsSoundUnit text
accepted_sound text a = record {
  items = a.items;
  fit = a.fit;
  sound = units_without_warnings_are_sound a.items a.fit.layout (in_profile text a.items a.fit) a.quiet;
}

pub accepted_units_are_sound : AcceptedUnitsAreSound
accepted_units_are_sound text report is accepts = accepted_sound text (accepted_units text report is accepts)

-- a report of `check` whose status is 0 says that the unit is accepted
syntax_not : (code : SyntaxCode) → status_number (syntax_status code) ≡ 0 → ⊥
syntax_not SY1 e = cc
syntax_not AT1 e = cc
syntax_not AT2 e = cc
syntax_not LM2 e = cc
syntax_not LM3 e = cc
syntax_not LM5 e = cc

profile_not : (code : ProfileCode) → status_number (profile_status code) ≡ 0 → ⊥
profile_not PF1 e = cc
profile_not PF2 e = cc
profile_not PF3 e = cc
profile_not PF4 e = cc
profile_not PF5 e = cc
profile_not PF6 e = cc
profile_not PF7 e = cc
profile_not PF8 e = cc
profile_not PF9 e = cc
profile_not LM4 e = cc
profile_not LM7 e = cc

refusal_not : (text : List ℕ) (refusal : Refusal) → status_number (refused_report text refusal).status ≡ 0 → ⊥
refusal_not text (Lex code byte) e = cc
refusal_not text (Syntax code byte) e = syntax_not code e
refusal_not text (Types code byte) e = cc
refusal_not text (Places byte) e = cc
refusal_not text (Profile code byte) e = profile_not code e

by_none : (text : List ℕ) (none : Bool) → status_number (if none then accepted else record { status = Warns; text = text }).status ≡ 0
    → (if none then accepted else record { status = Warns; text = text }).status ≡ Accepted
by_none text true e = refl
by_none text false e = absurd cc

warned_none : (w : Warned) → status_number (warned_report w).status ≡ 0 → (warned_report w).status ≡ Accepted
warned_none w e = by_none _ (w.count == 0) e

module _ (text : List ℕ) (report : Report) (zero : status_number report.status ≡ 0) where
  by_unit : (r : Result (List UnitItem) Refusal) → OfUnit text (IsCheckOf text) r report → report.status ≡ Accepted
  by_unit (Ok items) (w, (of_w, is)) = ap (λ r. r.status) is ∙ warned_none w (sym (ap (λ r. status_number r.status) is) ∙ zero)
  by_unit (Err refusal) is = absurd (refusal_not text refusal (sym (ap (λ r. status_number r.status) is) ∙ zero))

  by_length : (long : Bool) → IsReportBy long Check text report → report.status ≡ Accepted
  by_length true is = absurd (let wrong = sym (ap (λ r. status_number r.status) is) ∙ zero in cc)
  by_length false is = by_unit (fit_in text) is

  pub zero_accepts : IsReport (Some Check) text report → report.status ≡ Accepted
  zero_accepts is = by_length (nat_lt INPUT_LIMIT (length text)) is

-- what holds of all inputs for which something holds
of_alike : (left : Option (List ℕ)) (P Q : List ℕ → Type 0) → ((bytes : List ℕ) → P bytes → Q bytes) → OfInput left P → OfInput left Q
of_alike None P Q each (bytes, h) = (bytes, each bytes h)
of_alike (Some bytes) P Q each h = each bytes h

-- so where a run of `check` gives 0, its input spells a sound unit
module _ (left left_after taken taken_after : Option (List ℕ)) (s : Status) (zero : status_number s ≡ 0) where
  abbrev Given : Option Command → List ℕ → Type 0
  Given command bytes = Gives (IsReport command bytes) taken taken_after s × ReadsItsInput command bytes left left_after

  given_sound : (bytes : List ℕ) → Given (Some Check) bytes → SpellsSoundUnit bytes
  given_sound bytes (gives, reads) =
      accepted_units_are_sound bytes gives.report gives.is_right (zero_accepts bytes gives.report (ap status_number gives.status_is ∙ zero) gives.is_right)

  pub input_sound : (command : Option Command) → command ≡ Some Check → OfInput left (Given command) → OfInput left SpellsSoundUnit
  input_sound command is h = of_alike left (Given (Some Check)) SpellsSoundUnit given_sound (subst (λ c. OfInput left (Given c)) is h)
