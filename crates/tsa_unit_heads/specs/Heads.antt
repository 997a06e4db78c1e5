-- What stands before the body of a statement: what the rest of the statement gives, and the points that were passed.
use Rattle.std.specs.Prelude.{ℕ, ◌+◌, ◌≡◌, ◌++◌, ◌∷◌, [], List, length, map, option_map, Ok}
use Rattle.tsa_base.specs.declared.token.Span.{Span}
use Rattle.tsa_base.specs.Tokens.{Lexeme}
use Rattle.tsa_tree.specs.declared.stmt.Point.{Point}
use Rattle.tsa_tree.specs.expressions.Syntax.{Expression}
use Rattle.tsa_tree.specs.points.Syntax.{switches, point_of_test, point_of_for, points_of_init, points_of_step, expression_span}
use Rattle.tsa_tree.specs.expressions.Shapes.{name_shape, shape}
use Rattle.tsa_tree.specs.tokens.Signs.{Aliases, span_over}
use Rattle.tsa_tree.specs.statements.Syntax.{Statement, while_loop, for_loop, switch, case, otherwise, label}
use Rattle.tsa_tree.specs.statements.Shapes.{point_shape}
use Rattle.tsa_grammar.specs.Reading.{Outcome, then}
use Rattle.tsa_unit_heads.specs.declared.heads.Head.{Head}
use Rattle.tsa_unit_heads.specs.declared.heads.Head.TheVariants.{While, Switch, For, Case, Otherwise, Label}
use Rattle.tsa_unit_heads.specs.declared.heads.Headed.{Headed}
use Rattle.tsa_unit_heads.specs.declared.heads.Marked.{Marked}
use Rattle.tsa_unit_simple.specs.Outcomes.{body_at}
use Rattle.tsa_unit_simple.specs.PointNumbers.{IsPartAt, IsStepAt}
use Rattle.tsa_unit_simple.specs.Readings.{init_seen, step_seen}

abbrev pub seen_head : Headed → Head × ℕ
seen_head r = (r.head, r.next)

abbrev pub seen_marked : Marked → Expression × ℕ
seen_marked r = (shape r.test.now, r.next)

-- the statement that a head and its body are
abbrev pub ended : Head → Statement → Span → Statement
ended (While test number) body span = while_loop (shape test.now) body span
ended (Switch value number) body span = switch (shape value.now) body span
ended (For init test number step) body span = for_loop (init_seen init) (option_map (λ x. shape x.now) test) (step_seen step) body span
ended (Case value) body span = case (shape value.now) body span
ended Otherwise body span = otherwise body span
ended (Label name) body span = label (name_shape name) body span

-- the points that were passed, and their numbers; `word` is the span of the first token
abbrev pub IsOpened : (word : Span) (old new : List Point) → Head → Type 0
IsOpened word old new (While test number) =
    (map point_shape new ≡ map point_shape old ++ point_of_test (shape test.now) ∷ []) × (number ≡ length old)
IsOpened word old new (Switch value number) =
    (map point_shape new ≡ map point_shape old ++ record { deed = switches (shape value.now); span = expression_span (shape value.now) } ∷ []) × (number ≡ length old)
IsOpened word old new (For init test number step) =
    (map point_shape new
    ≡ map point_shape old ++ (points_of_init (init_seen init) ++ point_of_for word (option_map (λ x. shape x.now) test) ∷ points_of_step (step_seen step)))
    × IsPartAt init (length old)
    × (number ≡ length old + length (points_of_init (init_seen init)))
    × IsStepAt step (number + 1)
IsOpened word old new (Case value) = new ≡ old
IsOpened word old new Otherwise = new ≡ old
IsOpened word old new (Label name) = new ≡ old

-- a head without points
abbrev pub IsUnpointed : Head → Type 0
IsUnpointed (Case value) = Unit {0}
IsUnpointed Otherwise = Unit {0}
IsUnpointed head = ⊥

-- a test's point was passed
abbrev pub IsMarked : (old new : List Point) → Marked → Type 0
IsMarked old new r = (map point_shape new ≡ map point_shape old ++ point_of_test (shape r.test.now) ∷ []) × (r.number ≡ length old)

module _ (tokens : List Lexeme) (aliases : Aliases) (d start : ℕ) where
  -- a body that ends the statement
  abbrev pub ended_at : Head → (n : ℕ) → Outcome Statement
  ended_at head n = then (body_at tokens aliases d n) (λ body e. Ok (ended head body (span_over tokens start e), e))
