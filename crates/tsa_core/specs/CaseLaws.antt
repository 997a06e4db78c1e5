-- No switch of a typed body has a value twice (C11 6.8.4.2p3).
use Rattle.std.specs.Prelude.{◌≡◌, ℕ, nat_eq, Bool, false, ◌&&◌, List, [], ◌∷◌, ◌++◌, All, map, Some, None}
use Rattle.std.specs.List.{list_any}
use Rattle.tsa_base.specs.declared.token.Span.{Span}
use Rattle.tsa_tree.specs.declared.item.Item.{Item}
use Rattle.tsa_tree.specs.expressions.Syntax.{Expression}
use Rattle.tsa_tree.specs.statements.Syntax.{Statement, block, if_alone, if_else, while_loop, do_loop, for_loop, switch, case, otherwise}
use Rattle.tsa_tree.specs.statements.Syntax.{label, Statements, none, more}
use Rattle.tsa_tree.specs.types.Units.{outset, refusal_of_types}
use Rattle.tsa_tree.specs.units.Sound.{SpellableItems}
use Rattle.tsa_tree.specs.units.Shapes.{item_shapes}
use Rattle.tsa_tree.specs.units.Syntax.{UnitItem}
use Rattle.tsa_tree.specs.units.WellRead.{IsWellRead}
use Rattle.tsa_core.specs.Control.{Edge, same_outcome}
use Rattle.tsa_core.specs.Laws.{is_chosen}
use Rattle.tsa_core.specs.Programs.{Bodied, bodied_function, body_in}

-- The cases of a switch in a statement, each with its span: those of a switch inside are that one's.
abbrev pub Case : Type 0
Case = Expression × Span

abbrev mutual
  pub cases_in : Statement → List Case
  cases_in (block items span) = cases_in_all items
  cases_in (if_alone test arm span) = cases_in arm
  cases_in (if_else test arm other span) = cases_in arm ++ cases_in other
  cases_in (while_loop test body span) = cases_in body
  cases_in (do_loop body test span) = cases_in body
  cases_in (for_loop init test step body span) = cases_in body
  cases_in (case key body span) = (key, span) ∷ cases_in body
  cases_in (otherwise body span) = cases_in body
  cases_in (label name body span) = cases_in body
  cases_in s = []

  pub cases_in_all : Statements → List Case
  cases_in_all none = []
  cases_in_all (more first rest) = cases_in first ++ cases_in_all rest

-- places of which no two are the same
abbrev pub Differ : List ℕ → Type 0
Differ [] = Unit {0}
Differ (x ∷ xs) = (list_any (nat_eq x) xs ≡ false) × Differ xs

-- The cases of each switch stand at places of their own: typing tells cases from each other by them.
abbrev mutual
  pub CasesStandApart : Statement → Type 0
  CasesStandApart (block items span) = AllStandApart items
  CasesStandApart (if_alone test arm span) = CasesStandApart arm
  CasesStandApart (if_else test arm other span) = CasesStandApart arm × CasesStandApart other
  CasesStandApart (while_loop test body span) = CasesStandApart body
  CasesStandApart (do_loop body test span) = CasesStandApart body
  CasesStandApart (for_loop init test step body span) = CasesStandApart body
  CasesStandApart (switch key body span) = Differ (map (λ x. x.1.from) (cases_in body)) × CasesStandApart body
  CasesStandApart (case key body span) = CasesStandApart body
  CasesStandApart (otherwise body span) = CasesStandApart body
  CasesStandApart (label name body span) = CasesStandApart body
  CasesStandApart s = Unit {0}

  pub AllStandApart : Statements → Type 0
  AllStandApart none = Unit {0}
  AllStandApart (more first rest) = CasesStandApart first × AllStandApart rest

-- two edges that leave one point for the same value
abbrev pub is_same_choice : Edge → Edge → Bool
is_same_choice e f = nat_eq e.from f.from && (is_chosen e.outcome && same_outcome e.outcome f.outcome)

abbrev pub ChoicesDiffer : List Edge → Type 0
ChoicesDiffer [] = Unit {0}
ChoicesDiffer (e ∷ es) = All (λ f. is_same_choice e f ≡ false) es × ChoicesDiffer es

-- in a body of a typed unit whose cases stand apart no two edges leave one point for the same value
abbrev pub CasesDiffer : Type 0
CasesDiffer = (items : List UnitItem) (name : List ℕ) (b : Bodied) → SpellableItems items → refusal_of_types items ≡ None
    → bodied_function name (outset items) items ≡ Some b → AllStandApart b.body → ChoicesDiffer (body_in b).edges

-- in a text they do
abbrev pub ReadCasesStandApart : Type 0
ReadCasesStandApart = (items : List Item) (name : List ℕ) (b : Bodied) → IsWellRead items
    → bodied_function name (outset (item_shapes items)) (item_shapes items) ≡ Some b → AllStandApart b.body

-- so that a typed unit that is well read has no switch with a value twice
abbrev pub ReadCasesDiffer : Type 0
ReadCasesDiffer = (items : List Item) (name : List ℕ) (b : Bodied) → IsWellRead items → refusal_of_types (item_shapes items) ≡ None
    → bodied_function name (outset (item_shapes items)) (item_shapes items) ≡ Some b → ChoicesDiffer (body_in b).edges
