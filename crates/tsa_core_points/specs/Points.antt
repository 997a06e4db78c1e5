-- The points of a body in order of the text, with what is known at each of them and where it stands.
use Rattle.std.specs.Prelude.{◌+◌, List, [], ◌∷◌, ◌++◌, Option, Some, None}
use Rattle.tsa_base.specs.declared.token.Span.{Span}
use Rattle.tsa_tree.specs.expressions.Syntax.{Expression}
use Rattle.tsa_tree.specs.points.Syntax.{Deed, declares, tests, switches, jumps, idles, returns, simple_deed, simple_span, expression_span}
use Rattle.tsa_tree.specs.statements.Syntax.{Simple, ForInit, no_init, simple_init, local_init, Statement, block, empty, local, simple}
use Rattle.tsa_tree.specs.statements.Syntax.{if_alone, if_else, while_loop, do_loop, for_loop, switch, case, otherwise, label, break}
use Rattle.tsa_tree.specs.statements.Syntax.{continue, goto, return, Statements, none, more}
use Rattle.tsa_tree.specs.types.Scopes.{Scope, further}
use Rattle.tsa_tree.specs.types.Statements.{behind, behind_init}
use Rattle.tsa_tree.specs.types.Targets.{declared_in}

pub record PlacedPoint : Type 0 where
  pub here : Scope
  pub deed : Deed
  pub span : Span

abbrev pub placed : Scope → Deed → Span → PlacedPoint
placed here deed span = record { here = here; deed = deed; span = span }

abbrev pub placed_simple : Scope → Simple → PlacedPoint
placed_simple here s = placed here (simple_deed s) (simple_span s)

abbrev pub placed_init : Scope → ForInit → List PlacedPoint
placed_init here no_init = []
placed_init here (simple_init s) = placed_simple here s ∷ []
placed_init here (local_init d) = placed here (declares d) d.span ∷ []

abbrev pub placed_step : Scope → Option Simple → List PlacedPoint
placed_step here None = []
placed_step here (Some s) = placed_simple here s ∷ []

abbrev pub placed_test : Scope → Expression → PlacedPoint
placed_test here e = placed here (tests (Some e)) (expression_span e)

-- an absent test stands where the word `for` does, of three bytes
abbrev pub placed_for : Scope → (loop : Span) → Option Expression → PlacedPoint
placed_for here loop None = placed here (tests None) (record { from = loop.from; to = loop.from + 3 })
placed_for here loop (Some e) = placed_test here e

unfoldable mutual
  pub placed_in : Scope → Statement → List PlacedPoint
  placed_in here (block items span) = placed_all here items
  placed_in here (empty span) = placed here idles span ∷ []
  placed_in here (local d) = placed here (declares d) d.span ∷ []
  placed_in here (simple s) = placed_simple here s ∷ []
  placed_in here (if_alone test arm span) = placed_test here test ∷ placed_in here arm
  placed_in here (if_else test arm other span) = placed_test here test ∷ (placed_in here arm ++ placed_in (further (declared_in arm) here) other)
  placed_in here (while_loop test body span) = placed_test here test ∷ placed_in here body
  placed_in here (do_loop body test span) = placed_in here body ++ placed_test (further (declared_in body) here) test ∷ []
  placed_in here (for_loop init test step body span) =
      placed_init here init
      ++ placed_for (behind_init here init) span test ∷ (placed_step (behind_init here init) step ++ placed_in (behind_init here init) body)
  placed_in here (switch key body span) = placed here (switches key) (expression_span key) ∷ placed_in here body
  placed_in here (case key body span) = placed_in here body
  placed_in here (otherwise body span) = placed_in here body
  placed_in here (label name body span) = placed_in here body
  placed_in here (break span) = placed here jumps span ∷ []
  placed_in here (continue span) = placed here jumps span ∷ []
  placed_in here (goto name span) = placed here jumps span ∷ []
  placed_in here (return given span) = placed here (returns given) span ∷ []

  pub placed_all : Scope → Statements → List PlacedPoint
  placed_all here none = []
  placed_all here (more first rest) = placed_in here first ++ placed_all (behind here first) rest
