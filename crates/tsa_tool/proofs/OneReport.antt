-- There is one report at most.
use Rattle.std.proofs.Common.{◌≡◌, ◌∙◌, ℕ, Bool, true, false, List, length, Result, Ok, Err, Some, None, nat_lt, sym, ap}
use Rattle.tsa_base.specs.declared.limits.TheConstants.{INPUT_LIMIT}
use Rattle.tsa_tree.specs.units.Syntax.{UnitItem}
use Rattle.tsa_tool_held.proofs.OneText.{warned_once}
use Rattle.tsa_tool_held.proofs.HeldOnce.{held_once}
use Rattle.tsa_tool.specs.Checks.{fit_in, tree_in}
use Rattle.tsa_tool.specs.Reports.{IsAnswerTo, IsCheckOf, IsHeldOf, IsPrintOf, IsReportBy, OfUnit, OneReportIsRight, Report, warned_report}
use Rattle.tsa_tool.specs.declared.answer.Status.TheVariants.{Shown}
use Rattle.tsa_tool.specs.declared.check.Refusal.{Refusal}
use Rattle.tsa_tool.specs.declared.command.Command.{Command}
use Rattle.tsa_tool.specs.declared.command.Command.TheVariants.{Check, Print, Held}

abbrev shown : List ℕ → Report
shown text = record { status = Shown; text = text }

module _ (bytes : List ℕ) where
  pub one_of_unit : (IsOf : List UnitItem → Report → Type 0) → ((items : List UnitItem) (a b : Report) → IsOf items a → IsOf items b → a ≡ b)
      → (r : Result (List UnitItem) Refusal) (a b : Report) → OfUnit bytes IsOf r a → OfUnit bytes IsOf r b → a ≡ b
  one_of_unit IsOf once (Ok items) a b h g = once items a b h g
  one_of_unit IsOf once (Err refusal) a b h g = h ∙ sym g

  one_check : (items : List UnitItem) (a b : Report) → IsCheckOf bytes items a → IsCheckOf bytes items b → a ≡ b
  one_check items a b (v, (of_v, a_is)) (w, (of_w, b_is)) = a_is ∙ ap warned_report (warned_once bytes items _ v w of_v of_w) ∙ sym b_is

  one_held : (items : List UnitItem) (a b : Report) → IsHeldOf bytes items a → IsHeldOf bytes items b → a ≡ b
  one_held items a b (v, (of_v, a_is)) (w, (of_w, b_is)) = a_is ∙ ap shown (held_once bytes items _ v w of_v of_w) ∙ sym b_is

  one_print : (items : List UnitItem) (a b : Report) → IsPrintOf items a → IsPrintOf items b → a ≡ b
  one_print items a b h g = h ∙ sym g

  pub one_answer : (command : Command) (a b : Report) → IsAnswerTo command bytes a → IsAnswerTo command bytes b → a ≡ b
  one_answer Check a b h g = one_of_unit (IsCheckOf bytes) one_check (fit_in bytes) a b h g
  one_answer Print a b h g = one_of_unit IsPrintOf one_print (tree_in bytes) a b h g
  one_answer Held a b h g = one_of_unit (IsHeldOf bytes) one_held (fit_in bytes) a b h g

  one_by : (long : Bool) (command : Command) (a b : Report) → IsReportBy long command bytes a → IsReportBy long command bytes b → a ≡ b
  one_by true command a b h g = h ∙ sym g
  one_by false command a b h g = one_answer command a b h g

pub one_report : OneReportIsRight
one_report None bytes a b h g = h ∙ sym g
one_report (Some command) bytes a b h g = one_by bytes (nat_lt INPUT_LIMIT (length bytes)) command a b h g
