-- A text that is answered by `accepted` is a unit in the profile that breaks no rule, and the other way.
use Rattle.std.proofs.Common.{◌≡◌, ◌∙◌, ◌≤◌, arith, ℕ, Bool, true, false, List, length, Result, Ok, Err, ◌==◌, if◌then◌else◌, nat_lt}
use Rattle.std.proofs.Common.{eqb-true, ltb-true, refl, sym, ap, subst}
use Rattle.tsa_base.specs.declared.limits.TheConstants.{INPUT_LIMIT}
use Rattle.tsa_tree.specs.units.Syntax.{UnitItem}
use Rattle.tsa_expr.specs.declared.refusal.SyntaxCode.{SyntaxCode}
use Rattle.tsa_expr.specs.declared.refusal.SyntaxCode.TheVariants.{SY1, AT1, AT2, LM2, LM3, LM5}
use Rattle.tsa_profile_accesses.specs.declared.premise.ProfileCode.{ProfileCode}
use Rattle.tsa_profile_accesses.specs.declared.premise.ProfileCode.TheVariants.{PF1, PF2, PF3, PF4, PF5, PF6, PF7, PF8, PF9, LM4, LM7}
use Rattle.tsa_core.specs.Programs.{program_of}
use Rattle.tsa_rules.specs.Warnings.{HasNoWarnings}
use Rattle.tsa_tool_held.specs.WarningLines.{Warned}
use Rattle.tsa_tool_held.proofs.Silence.{units_without_lines, units_without_warnings}
use Rattle.tsa_tool.specs.Checks.{fit_in}
use Rattle.tsa_tool.specs.Reports.{IsCheckOf, IsReportBy, OfUnit, Report, accepted, profile_status, refused_report, syntax_status}
use Rattle.tsa_tool.specs.Reports.{warned_report}
use Rattle.tsa_tool.specs.Units.{AcceptedUnitsBreakNoRule, IsAccepted, UnitsThatBreakNoRuleAreAccepted}
use Rattle.tsa_tool.specs.declared.answer.Status.TheVariants.{Accepted, Warned as Warns}
use Rattle.tsa_tool.specs.declared.check.Refusal.{Refusal}
use Rattle.tsa_tool.specs.declared.check.Refusal.TheVariants.{Lex, Syntax, Types, Places, Profile}
use Rattle.tsa_tool.specs.declared.command.Command.TheVariants.{Check}
use Rattle.tsa_tool.proofs.Fitting.{fit, it_fits}

-- without lines
warns : Warns ≡ Accepted → ⊥
warns wrong = cc

by_count : (w : Warned) (text : List ℕ) (none : Bool) → (w.count == 0) ≡ none → (if none then accepted else record { status = Warns; text = text }).status ≡ Accepted → w.count ≡ 0
by_count w text true none e = eqb-true w.count 0 none
by_count w text false some e = absurd (warns e)

none_counted : (w : Warned) → (warned_report w).status ≡ Accepted → w.count ≡ 0
none_counted w e = by_count w _ (w.count == 0) refl e

-- a refusal
syntax_refused : (code : SyntaxCode) → syntax_status code ≡ Accepted → ⊥
syntax_refused SY1 e = cc
syntax_refused AT1 e = cc
syntax_refused AT2 e = cc
syntax_refused LM2 e = cc
syntax_refused LM3 e = cc
syntax_refused LM5 e = cc

profile_refused : (code : ProfileCode) → profile_status code ≡ Accepted → ⊥
profile_refused PF1 e = cc
profile_refused PF2 e = cc
profile_refused PF3 e = cc
profile_refused PF4 e = cc
profile_refused PF5 e = cc
profile_refused PF6 e = cc
profile_refused PF7 e = cc
profile_refused PF8 e = cc
profile_refused PF9 e = cc
profile_refused LM4 e = cc
profile_refused LM7 e = cc

is_refused : (text : List ℕ) (refusal : Refusal) → (refused_report text refusal).status ≡ Accepted → ⊥
is_refused text (Lex code byte) e = cc
is_refused text (Syntax code byte) e = syntax_refused code e
is_refused text (Types code byte) e = cc
is_refused text (Places byte) e = cc
is_refused text (Profile code byte) e = profile_refused code e

module _ (text : List ℕ) (report : Report) (accepts : report.status ≡ Accepted) where
  by_unit : (r : Result (List UnitItem) Refusal) → fit_in text ≡ r → OfUnit text (IsCheckOf text) r report → IsAccepted text
  by_unit (Ok items) is (w, (of_w, report_is)) =
      let fit = it_fits text items is in
      record {
        items = items;
        fit = fit;
        quiet = units_without_lines text items w fit.typed of_w (none_counted w (sym (ap (λ r. r.status) report_is) ∙ accepts));
      }
  by_unit (Err refusal) is report_is = absurd (is_refused text refusal (sym (ap (λ r. r.status) report_is) ∙ accepts))

  by_length : (long : Bool) → IsReportBy long Check text report → IsAccepted text
  by_length true is = absurd (let wrong = sym (ap (λ r. r.status) is) ∙ accepts in cc)
  by_length false is = by_unit (fit_in text) refl is

pub accepted_units : AcceptedUnitsBreakNoRule
accepted_units text report is accepts = by_length text report accepts (nat_lt INPUT_LIMIT (length text)) is

-- The other way.

same_unit : (text : List ℕ) (a : IsAccepted text) (items : List UnitItem) → fit_in text ≡ Ok items → a.items ≡ items
same_unit text a items is = let fits = fit text a.items a.fit in cc

no_refusal : (text : List ℕ) (a : IsAccepted text) (refusal : Refusal) → fit_in text ≡ Err refusal → ⊥
no_refusal text a refusal is = let fits = fit text a.items a.fit in cc

too_long : (text : List ℕ) → length text ≤ INPUT_LIMIT → nat_lt INPUT_LIMIT (length text) ≡ true → ⊥
too_long text short long = let more = ltb-true INPUT_LIMIT (length text) long in omega (arith, more, short)

module _ (text : List ℕ) (report : Report) (a : IsAccepted text) where
  of_quiet : (r : Result (List UnitItem) Refusal) → fit_in text ≡ r → OfUnit text (IsCheckOf text) r report → report ≡ accepted
  of_quiet (Ok items) is (w, (of_w, report_is)) =
      report_is ∙ ap warned_report (units_without_warnings text items w (subst (λ xs. HasNoWarnings (program_of xs)) (same_unit text a items is) a.quiet) of_w)
  of_quiet (Err refusal) is report_is = absurd (no_refusal text a refusal is)

  of_short : (long : Bool) → nat_lt INPUT_LIMIT (length text) ≡ long → length text ≤ INPUT_LIMIT → IsReportBy long Check text report → report ≡ accepted
  of_short true is short h = absurd (too_long text short is)
  of_short false is short h = of_quiet (fit_in text) refl h

pub quiet_units : UnitsThatBreakNoRuleAreAccepted
quiet_units text report short a h = of_short text report a (nat_lt INPUT_LIMIT (length text)) refl short h
