-- What readers that go by the rows answer.
use Rattle.std.proofs.Common.{ℕ, ◌≤◌, ◌≡◌, refl, List, length, Bool, Option, Some, None, Ok, Err}
use Rattle.tsa_base.specs.Tokens.{Lexeme}
use Rattle.tsa_tree.specs.declared.expr.UnaryOp.{UnaryOp}
use Rattle.tsa_tree.specs.declared.expr.BinaryOp.{BinaryOp}
use Rattle.tsa_tree.specs.declared.sign.Sign.{Sign}
use Rattle.tsa_tree.specs.declared.sign.Sign.TheVariants as sign
use Rattle.tsa_tree.specs.expressions.Syntax.{Expression}
use Rattle.tsa_tree.specs.tokens.Signs.{Aliases, sign_at, operator, prefix, prefix_of}
use Rattle.tsa_tree.specs.Rows.{Sort, an_expression, some_arguments, Node, Call, expression, operation, operand, postfix, series, rank}
use Rattle.tsa_tree.specs.Rows.{Kind, a_not, a_flip, an_operator, sees, Row, tightest, climb_on, operation_row, postfix_row, prefix_row}
use Rattle.tsa_tree.specs.Rows.{operand_row, rule}
use Rattle.tsa_tree.specs.expressions.Answers.{below_limit}
use Rattle.tsa_tree.specs.Reads.{read}
use Rattle.tsa_grammar.specs.Form.{done, bar, token, part, limit, only, either}
use Rattle.tsa_grammar.specs.Reading.{Code, syntax, deep, barred, refuse, Outcome, stop, follow, run, all}
use Rattle.tsa_grammar.specs.Spelling.{Spells, Begins, begins_rule, Starts, starts_here, starts_barred, starts_bar, starts_token, starts_in}
use Rattle.tsa_grammar.specs.Spelling.{starts_over, starts_limit, starts_only, starts_left, starts_right}
use Rattle.tsa_grammar.specs.Exact.{Exact, ExactAt}
use Rattle.tsa_grammar.proofs.Reach.{Reached, Far}
use Rattle.tsa_grammar.proofs.Runs as runs
use Rattle.tsa_grammar.proofs.Complete as pieces
use Rattle.tsa_grammar.proofs.Exactly as answers
use Rattle.tsa_tree.proofs.RowFacts.{First, Ends, Moves, inside}
use Rattle.tsa_tree.proofs.statements.BlocksMeet.{moves}
use Rattle.tsa_tree.proofs.RowsBegin.{firsts}
use Rattle.tsa_tree.proofs.RowsMeet.{good, low}

-- In the grammar of expressions there are no bars. (Elsewhere there may be.)
abbrev pub IsClear : Sort → Type 0
IsClear an_expression = Unit {0}
IsClear some_arguments = Unit {0}
IsClear _ = ⊥

-- No bar stands in the form or in its parts.
abbrev pub Clear : (s : Sort) → Row s → Type 0
Clear s (done x) = Unit {0}
Clear s (bar p q f) = ⊥
Clear s (token t f) = Clear s f
Clear s (part u c k) = IsClear u × ((y : Node u) (m : ℕ) → Clear s (k y m))
Clear s (limit n f) = Clear s f
Clear s (only p f) = Clear s f
Clear s (either p f g) = Clear s f × Clear s g

module _ (tokens : List Lexeme) where
  clear_climb : (aliases : Aliases) (d k top start : ℕ) (l : Expression) (m : ℕ) (o : Option BinaryOp)
      → Clear an_expression (climb_on tokens aliases d k top start l m (λ x e. done x) o)
  clear_climb aliases d k top start l m None = tt
  clear_climb aliases d k top start l m (Some o) = ((tt, λ y m. tt), tt)

  clear_operation : (aliases : Aliases) (d k start : ℕ) (l : Expression) (m : ℕ) (o : Option BinaryOp)
      → Clear an_expression (operation_row tokens aliases d k start l m o)
  clear_operation aliases d k start l m None = tt
  clear_operation aliases d k start l m (Some o) = ((tt, λ r n. clear_climb aliases d k _ start _ n (operator (sign_at tokens aliases n))), tt)

  clear_prefix : (aliases : Aliases) (d m : ℕ) (q : Kind) (o : Option UnaryOp) → Clear an_expression (prefix_row tokens aliases d m q o)
  clear_prefix aliases d m q None = tt
  clear_prefix aliases d m q (Some o) = (tt, λ x n. tt)

  clear_operand : (aliases : Aliases) (d m : ℕ) (s : Sign) → Clear an_expression (operand_row tokens aliases d m s)
  clear_operand aliases d m sign.Not = clear_prefix aliases d m (a_not aliases) (prefix sign.Not)
  clear_operand aliases d m sign.Flip = clear_prefix aliases d m (a_flip aliases) (prefix sign.Flip)
  clear_operand aliases d m (sign.Operator o) = clear_prefix aliases d m (an_operator aliases) (prefix_of o)
  clear_operand aliases d m sign.Number = ((tt, λ y n. tt), tt)
  clear_operand aliases d m sign.Null = ((tt, λ y n. tt), tt)
  clear_operand aliases d m sign.Name = ((((tt, λ y n. tt), tt), (tt, λ xs n. ((tt, λ y n. tt), tt))), ((tt, λ y n. tt), tt))
  clear_operand aliases d m sign.Open = (tt, λ x n. ((tt, λ y n. tt), tt))
  clear_operand aliases d m _ = tt

  clear_postfix : (aliases : Aliases) (d start : ℕ) (base : Expression) (m : ℕ) (s : Sign)
      → Clear an_expression (postfix_row tokens aliases d start base m s)
  clear_postfix aliases d start base m sign.Dot = ((tt, λ y n. tt), tt)
  clear_postfix aliases d start base m sign.Arrow = ((tt, λ y n. tt), tt)
  clear_postfix aliases d start base m sign.OpenBracket = (tt, λ i n. ((tt, λ y n. tt), tt))
  clear_postfix aliases d start base m _ = tt

  clear : (s : Sort) → IsClear s → (c : Call s) (m : ℕ) → Clear s (rule tokens s c m)
  clear _ free (expression aliases d k) m = (tt, λ x n. clear_climb aliases d k tightest m x n (operator (sign_at tokens aliases n)))
  clear _ free (operation aliases d k start l) m = clear_operation aliases d k start l m (operator (sign_at tokens aliases m))
  clear _ free (operand aliases d) m = clear_operand aliases d m (sign_at tokens aliases m)
  clear _ free (postfix aliases d start base) m = clear_postfix aliases d start base m (sign_at tokens aliases m)
  clear _ free (series aliases d) m = (tt, λ x n. ((tt, λ xs e. tt), tt))
  clear _ free c m = absurd free

module _ (tokens : List Lexeme) (fits : ℕ → Bool) where
  mutual
    no_bar_in : {s : Sort} {c : Call s} {a b : ℕ} {w : Option ℕ} (q : ℕ)
        → Begins (rule tokens) (sees tokens) fits s c a b w → IsClear s → w ≡ Some q → ⊥
    no_bar_in {s = s} {c = c} {a = a} q (begins_rule h) free e = no_bar_starts q h (clear tokens s free c a) e

    no_bar_starts : {s : Sort} {f : Row s} {a b : ℕ} {w : Option ℕ} (q : ℕ)
        → Starts (rule tokens) (sees tokens) fits s f a b w → Clear s f → w ≡ Some q → ⊥
    no_bar_starts q starts_here k e = cc
    no_bar_starts q (starts_barred p) k e = k
    no_bar_starts q (starts_bar h) k e = k
    no_bar_starts q (starts_token p h) k e = no_bar_starts q h k e
    no_bar_starts q (starts_in h) k e = no_bar_in q h k.0 e
    no_bar_starts q (starts_over {y = y} {m = m} sp h) k e = no_bar_starts q h (k.1 y m) e
    no_bar_starts q (starts_limit p h) k e = no_bar_starts q h k e
    no_bar_starts q (starts_only p h) k e = no_bar_starts q h k e
    no_bar_starts q (starts_left h) k e = no_bar_starts q h k.0 e
    no_bar_starts q (starts_right h) k e = no_bar_starts q h k.1 e

  -- No token of an expression is refused by a bar.
  pub no_bar : (s : Sort) → IsClear s → (c : Call s) (a b q : ℕ) → Begins (rule tokens) (sees tokens) fits s c a b (Some q) → ⊥
  no_bar s free c a b q h = no_bar_in q h free refl

  -- This reads a part from a place on, within these limits.
  abbrev pub reading : (s : Sort) → Call s → ℕ → Outcome (Node s)
  reading s c a = run (sees tokens) fits (rule tokens) rank (length tokens) s c a

  -- A reader's answer is exact.
  pub reading_exact : (s : Sort) (c : Call s) (a : ℕ) → Exact (rule tokens) (sees tokens) fits s c a (reading s c a)
  reading_exact s c a =
      answers.exact (sees tokens) fits (rule tokens) (First tokens) (Ends tokens) (Moves tokens) rank (length tokens)
      (inside tokens) (firsts tokens) (good tokens) low (moves tokens) s c a

  -- Each part is read by its row.
  pub reading_steps : (s : Sort) (c : Call s) (a : ℕ)
      → reading s c a ≡ follow (sees tokens) fits reading s (rule tokens s c a) a
  reading_steps s c a =
      runs.steps (sees tokens) fits (rule tokens) (First tokens) (Ends tokens) (Moves tokens) rank (length tokens)
      (inside tokens) (good tokens) low s c a

  -- Every first piece of what is spelled begins it.
  pub piece_begins : (s : Sort) (c : Call s) (x : Node s) (a b i : ℕ) → a ≤ i → i ≤ b
      → Spells (rule tokens) (sees tokens) fits s c x a b → Begins (rule tokens) (sees tokens) fits s c a i None
  piece_begins s c x a b i le le' h =
      pieces.begins_piece (sees tokens) fits (rule tokens) (First tokens) (Ends tokens) (Moves tokens) rank (length tokens)
      (inside tokens) (firsts tokens) (good tokens) reading
      (answers.ok (sees tokens) fits (rule tokens) (First tokens) (Ends tokens) (Moves tokens) rank (length tokens)
      (inside tokens) (firsts tokens) (good tokens) low (moves tokens))
      reading_steps i le le' h

  -- What is spelled begins its part.
  pub whole_begins : (s : Sort) (c : Call s) (x : Node s) (a b : ℕ) → Spells (rule tokens) (sees tokens) fits s c x a b
      → Begins (rule tokens) (sees tokens) fits s c a b None
  whole_begins s c x a b h =
      pieces.begins_whole (sees tokens) fits (rule tokens) (First tokens) (Ends tokens) (Moves tokens) rank (length tokens)
      (inside tokens) (firsts tokens) (good tokens) reading
      (answers.ok (sees tokens) fits (rule tokens) (First tokens) (Ends tokens) (Moves tokens) rank (length tokens)
      (inside tokens) (firsts tokens) (good tokens) low (moves tokens))
      reading_steps h

  -- What is spelled stands at a place where its part may begin.
  pub first_there : {s : Sort} {c : Call s} {x : Node s} {a b : ℕ} → Spells (rule tokens) (sees tokens) fits s c x a b → First tokens s c a
  first_there h =
      pieces.first (sees tokens) fits (rule tokens) (First tokens) (Ends tokens) (Moves tokens) rank (length tokens)
      (inside tokens) (firsts tokens) (good tokens) reading
      (answers.ok (sees tokens) fits (rule tokens) (First tokens) (Ends tokens) (Moves tokens) rank (length tokens)
      (inside tokens) (firsts tokens) (good tokens) low (moves tokens))
      reading_steps h

  -- Where a text goes on no further, a reader without limits refuses the same token.
  pub broken_free : (s : Sort) (c : Call s) (a i : ℕ) → reading s c a ≡ Err (refuse syntax i)
      → run (sees tokens) all (rule tokens) rank (length tokens) s c a ≡ Err (refuse syntax i)
  broken_free s c a i e =
      answers.broken_free (sees tokens) fits (rule tokens) (First tokens) (Ends tokens) (Moves tokens) rank (length tokens)
      (inside tokens) (firsts tokens) (good tokens) low (moves tokens) s c a i e

-- Each part is read by its row within the limit.
pub read_steps : (tokens : List Lexeme) (s : Sort) (c : Call s) (a : ℕ)
    → read tokens s c a ≡ follow (sees tokens) below_limit (read tokens) s (rule tokens s c a) a
unfolding read
read_steps tokens s c a = reading_steps tokens below_limit s c a

-- What is read within the limit is exact.
pub read_exact : (tokens : List Lexeme) (s : Sort) (c : Call s) (a : ℕ)
    → Exact (rule tokens) (sees tokens) below_limit s c a (read tokens s c a)
unfolding read
read_exact tokens s c a = reading_exact tokens below_limit s c a

module _ (tokens : List Lexeme) where
  -- This reads a part without limits.
  abbrev pub free : (s : Sort) → Call s → ℕ → Outcome (Node s)
  free s c a = reading tokens all s c a

  -- What is spelled up to where it ends is read.
  pub completed : (s : Sort) (c : Call s) (x : Node s) (a b : ℕ) → Spells (rule tokens) (sees tokens) all s c x a b
      → Ends tokens s c x b → free s c a ≡ Ok (x, b)
  completed s c x a b h en =
      answers.completed (sees tokens) all (rule tokens) (First tokens) (Ends tokens) (Moves tokens) rank (length tokens)
      (inside tokens) (firsts tokens) (good tokens) low (moves tokens) s c x a b h en

  -- Two trees that the same tokens spell, as far as the part goes, are equal.
  pub one_reading : (s : Sort) (c : Call s) (x y : Node s) (a b : ℕ)
      → Spells (rule tokens) (sees tokens) all s c x a b → Spells (rule tokens) (sees tokens) all s c y a b
      → Ends tokens s c x b → Ends tokens s c y b → x ≡ y
  one_reading s c x y a b h k e e' =
      answers.one_tree (sees tokens) all (rule tokens) (First tokens) (Ends tokens) (Moves tokens) rank (length tokens)
      (inside tokens) (firsts tokens) (good tokens) low (moves tokens) s c x y a b h k e e'

  -- A reader without limits stops after all that is spelled.
  pub whole_to : (s : Sort) (c : Call s) (x : Node s) (a b : ℕ) → Spells (rule tokens) (sees tokens) all s c x a b
      → b ≤ stop (free s c a)
  whole_to s c x a b h =
      answers.whole_to (sees tokens) all (rule tokens) (First tokens) (Ends tokens) (Moves tokens) rank (length tokens)
      (inside tokens) (firsts tokens) (good tokens) low (moves tokens) s c x a b h

  -- Of the first bar there is one number.
  pub one_bar : (s : Sort) (c : Call s) (a i q p : ℕ) → Begins (rule tokens) (sees tokens) all s c a i (Some q)
      → Begins (rule tokens) (sees tokens) all s c a i (Some p)
      → ((j r : ℕ) → Begins (rule tokens) (sees tokens) all s c a j (Some r) → i ≤ j) → q ≡ p
  one_bar s c a i q p h k first =
      answers.one_bar (sees tokens) all (rule tokens) (First tokens) (Ends tokens) (Moves tokens) rank (length tokens)
      (inside tokens) (firsts tokens) (good tokens) low (moves tokens) s c a i q p h k first

  far : (s : Sort) → IsClear s → (c : Call s) (a b : ℕ) (k : Code) (i : ℕ) → ExactAt (rule tokens) (sees tokens) all s c a k i
      → Far b k i → b ≤ i
  far s clear c a b syntax i h f = f
  far s clear c a b deep i h f = f
  far s clear c a b (barred q) i h f = absurd (no_bar tokens all s clear c a i q h.begins)

  stops : (s : Sort) → IsClear s → (c : Call s) (a b : ℕ) (r : Outcome (Node s)) → Exact (rule tokens) (sees tokens) all s c a r
      → Reached b None r → b ≤ stop r
  stops s clear c a b (Ok p) h f = f
  stops s clear c a b (Err e) h f = far s clear c a b e.code e.token h f

  -- A reader without limits stops after all that begins an expression or a series.
  pub reached_free : (s : Sort) → IsClear s → (c : Call s) (a b : ℕ) → Begins (rule tokens) (sees tokens) all s c a b None
      → b ≤ stop (free s c a)
  reached_free s clear c a b h =
      stops s clear c a b (free s c a) (reading_exact tokens all s c a)
      (answers.reached (sees tokens) all (rule tokens) (First tokens) (Ends tokens) (Moves tokens) rank (length tokens)
      (inside tokens) (firsts tokens) (good tokens) low (moves tokens) s c a b None h)
