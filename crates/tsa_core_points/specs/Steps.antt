-- The steps of a body in order of the text: its points, and where the names begin and end that a block, an arm or a loop has of its own.
use Rattle.std.specs.Prelude.{◌+◌, List, [], ◌∷◌, ◌++◌, Option, Some, None}
use Rattle.tsa_base.specs.declared.token.Span.{Span}
use Rattle.tsa_tree.specs.expressions.Syntax.{Expression}
use Rattle.tsa_tree.specs.points.Syntax.{Deed, declares, tests, switches, jumps, idles, returns, ends, simple_deed, simple_span}
use Rattle.tsa_tree.specs.points.Syntax.{expression_span}
use Rattle.tsa_tree.specs.statements.Shapes.{action_shape}
use Rattle.tsa_tree.specs.statements.Syntax.{Simple, ForInit, no_init, simple_init, local_init, Statement, block, empty, local, simple}
use Rattle.tsa_tree.specs.statements.Syntax.{if_alone, if_else, while_loop, do_loop, for_loop, switch, case, otherwise, label, break}
use Rattle.tsa_tree.specs.statements.Syntax.{continue, goto, return, Statements, none, more}
use Rattle.tsa_core_points.specs.declared.steps.Step.{Step}
use Rattle.tsa_core_points.specs.declared.steps.Step.TheVariants.{Point, Open, Close}

pub data BodyStep : Type 0 where
  does : (deed : Deed) (span : Span) → BodyStep
  opens : BodyStep
  closes : BodyStep

-- the names that are declared inside end there
abbrev pub nested : List BodyStep → List BodyStep
nested steps = opens ∷ (steps ++ closes ∷ [])

abbrev pub simple_step : Simple → BodyStep
simple_step s = does (simple_deed s) (simple_span s)

abbrev pub init_steps : ForInit → List BodyStep
init_steps no_init = []
init_steps (simple_init s) = simple_step s ∷ []
init_steps (local_init d) = does (declares d) d.span ∷ []

abbrev pub third_steps : Option Simple → List BodyStep
third_steps None = []
third_steps (Some s) = simple_step s ∷ []

abbrev pub test_step : Expression → BodyStep
test_step e = does (tests (Some e)) (expression_span e)

-- an absent test stands where the word `for` does, of three bytes
abbrev pub for_test : (loop : Span) → Option Expression → BodyStep
for_test loop None = does (tests None) (record { from = loop.from; to = loop.from + 3 })
for_test loop (Some e) = test_step e

-- the value of a `switch`
abbrev pub value_step : Expression → BodyStep
value_step e = does (switches e) (expression_span e)

-- a statement without another in it
abbrev pub leaf_steps : Statement → List BodyStep
leaf_steps (empty span) = does idles span ∷ []
leaf_steps (local d) = does (declares d) d.span ∷ []
leaf_steps (simple s) = simple_step s ∷ []
leaf_steps (break span) = does jumps span ∷ []
leaf_steps (continue span) = does jumps span ∷ []
leaf_steps (goto name span) = does jumps span ∷ []
leaf_steps (return given span) = does (returns given) span ∷ []
leaf_steps s = []

abbrev mutual
  pub steps_of : Statement → List BodyStep
  steps_of (block items span) = nested (steps_of_all items)
  steps_of (if_alone test arm span) = test_step test ∷ nested (steps_of arm)
  steps_of (if_else test arm other span) = test_step test ∷ (nested (steps_of arm) ++ nested (steps_of other))
  steps_of (while_loop test body span) = test_step test ∷ nested (steps_of body)
  steps_of (do_loop body test span) = nested (steps_of body) ++ test_step test ∷ []
  steps_of (for_loop init test step body span) = nested (init_steps init ++ for_test span test ∷ (third_steps step ++ steps_of body))
  steps_of (switch key body span) = value_step key ∷ nested (steps_of body)
  steps_of (case key body span) = nested (steps_of body)
  steps_of (otherwise body span) = nested (steps_of body)
  steps_of (label name body span) = nested (steps_of body)
  steps_of s = leaf_steps s

  pub steps_of_all : Statements → List BodyStep
  steps_of_all none = []
  steps_of_all (more first rest) = steps_of first ++ steps_of_all rest

-- a body's names end before its end, which stands at the brace that closes it
abbrev pub body_steps : Statements → (close : Span) → List BodyStep
body_steps body close = nested (steps_of_all body) ++ does ends close ∷ []

-- a step of the arena without the arena
abbrev pub step_shape : Step → BodyStep
step_shape (Point p) = does (action_shape p.action) p.span
step_shape Open = opens
step_shape Close = closes
