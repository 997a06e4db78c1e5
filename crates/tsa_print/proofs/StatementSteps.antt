-- A statement is spelled up to spans where its parts are.
use Rattle.std.proofs.Common.{ℕ, ◌+◌, ◌≡◌, ◌∙◌, ap, subst, sym, refl, List, [], ◌∷◌, ◌++◌, Bool, true, false, codes}
use Rattle.std.specs.declared.option.Option.{Option}
use Rattle.tsa_base.specs.Tokens.{Lexeme}
use Rattle.tsa_tree.specs.declared.sign.Keyword.TheVariants as key
use Rattle.tsa_tree.specs.declared.sign.Sign.TheVariants as sign
use Rattle.tsa_base.specs.declared.token.Span.{Span}
use Rattle.tsa_tree.specs.declarations.Syntax.{Declaration}
use Rattle.tsa_tree.specs.declarations.Spelling.{of_last_variable, of_locals}
use Rattle.tsa_tree.specs.expressions.Syntax.{Identifier, Expression, plain_name, nowhere}
use Rattle.tsa_tree.specs.statements.Plain.{plain_simple, plain_statement, plain_statements}
use Rattle.tsa_tree.specs.tokens.Signs.{Aliases, sign_at, span_over, identifier_at}
use Rattle.tsa_tree.specs.statements.Syntax.{Simple, evaluation, assignment, ForInit, Statement, block, empty, local, simple, if_alone}
use Rattle.tsa_tree.specs.statements.Syntax.{if_else, while_loop, do_loop, for_loop, switch, case, otherwise, label, break, continue, goto}
use Rattle.tsa_tree.specs.statements.Syntax.{return, Statements, more, ends_short, spanning}
use Rattle.tsa_tree.specs.statements.Spelling.{IsStatement, of_block, of_empty, of_simple, of_if, of_if_else, of_while, of_do, of_for}
use Rattle.tsa_tree.specs.statements.Spelling.{of_switch, of_case, of_default, of_label, of_break, of_continue, of_goto, of_return, of_body}
use Rattle.tsa_tree.specs.statements.Spelling.{IsStatements, of_locals_first, of_statement_first}
use Rattle.tsa_tree.specs.expressions.Sound.{words_beside, SoundOptional, is_name}
use Rattle.tsa_tree.specs.declarations.Sound.{SoundLocal}
use Rattle.tsa_tree.specs.statements.Sound.{SoundSimple}
use Rattle.tsa_grammar.specs.Reading.{all}
use Rattle.tsa_print.specs.declared.mark.Mark.TheVariants as marks
use Rattle.tsa_print.specs.Canonical.{word, mark}
use Rattle.tsa_print.specs.DeclarationPieces.{declaration_pieces}
use Rattle.tsa_print.specs.UnitPieces.{simple_pieces, optional_pieces}
use Rattle.tsa_print.proofs.PieceSigns.{seen, name_seen, named_so}
use Rattle.tsa_print.proofs.Runs.{Run, run_split}
use Rattle.tsa_print.proofs.SpelledDeclarations.{local_spelled}
use Rattle.tsa_print.proofs.CanonicalTrees.{Expr}
use Rattle.tsa_print.proofs.SpelledSimples.{Optional, Test, ForInitRead, ForStepRead, simple_spelled, optional_spelled}
use Rattle.tsa_print.proofs.WordSigns.{keyword_seen}

spanning_plain : (x : Simple) (s : Span) → plain_simple (spanning x s) ≡ plain_simple x
spanning_plain (evaluation x t) s = refl
spanning_plain (assignment l o r t) s = refl

short_plain : (x : Statement) → ends_short (plain_statement x) ≡ ends_short x
short_plain (block xs s) = refl
short_plain (empty s) = refl
short_plain (local d) = refl
short_plain (simple x) = refl
short_plain (if_alone x arm s) = refl
short_plain (if_else x arm other s) = short_plain other
short_plain (while_loop x body s) = short_plain body
short_plain (do_loop body x s) = refl
short_plain (for_loop i x t body s) = short_plain body
short_plain (switch x body s) = short_plain body
short_plain (case x body s) = short_plain body
short_plain (otherwise body s) = short_plain body
short_plain (label name body s) = short_plain body
short_plain (break s) = refl
short_plain (continue s) = refl
short_plain (goto name s) = refl
short_plain (return x s) = refl

-- what is equal but for spans ends short alike
short_alike : (x y : Statement) → plain_statement x ≡ plain_statement y → ends_short y ≡ false → ends_short x ≡ false
short_alike x y e f = sym (short_plain x) ∙ (ap ends_short e ∙ (short_plain y ∙ f))

module _ (aliases : Aliases) (ts : List Lexeme) where
  abbrev pub Alone : (d : ℕ) → Statement → (a b : ℕ) → Type 0
  Alone d x a b = (u : Statement) × IsStatement ts aliases all d u a b × (plain_statement u ≡ plain_statement x)

  -- a statement of a block, before others of it
  abbrev pub First : (d : ℕ) → Statement → (a m : ℕ) → Type 0
  First d x a m =
      (u : Statement)
      × (plain_statement u ≡ plain_statement x)
      × ((ys : Statements) (b : ℕ) → IsStatements ts aliases all d ys m b → IsStatements ts aliases all d (more u ys) a b)

  abbrev pub Read : (in_block : Bool) → (d : ℕ) → Statement → (a b : ℕ) → Type 0
  Read true d x a b = First d x a b
  Read false d x a b = Alone d x a b

  abbrev pub All : (d : ℕ) → Statements → (a b : ℕ) → Type 0
  All d xs a b = (us : Statements) × IsStatements ts aliases all d us a b × (plain_statements us ≡ plain_statements xs)

  -- each statement that can stand alone can stand in a block
  pub anywhere : (in_block : Bool) (d : ℕ) (x : Statement) (a b : ℕ) → Alone d x a b → Read in_block d x a b
  anywhere true d x a b u = (u.0, u.2, λ ys b is. of_statement_first u.1 is)
  anywhere false d x a b u = u

  pub local_first : (x : Declaration) (d a b : ℕ) → SoundLocal (words_beside aliases) x → Run ts a (declaration_pieces x ++ mark marks.Semicolon ∷ []) b
      → First d (local x) a b
  local_first x d a b ok h =
      let two = run_split ts a b (declaration_pieces x) (mark marks.Semicolon ∷ []) h in
      let u = local_spelled aliases ts d x a two.0 ok two.1 in
      let semicolon = seen aliases ts two.0 (mark marks.Semicolon) two.2.0 in
      subst (First d (local x) a) two.2.1 (
        local u.1,
        ap local u.5,
        λ ys b is. of_locals_first (of_locals u.3 (of_last_variable u.4)) semicolon is,
      )

  pub simple_step : (x : Simple) (d a b : ℕ) → SoundSimple (words_beside aliases) x → Run ts a (simple_pieces x ++ mark marks.Semicolon ∷ []) b
      → Alone d (simple x) a b
  simple_step x d a b ok h =
      let two = run_split ts a b (simple_pieces x) (mark marks.Semicolon ∷ []) h in
      let u = simple_spelled aliases ts x d a two.0 ok two.1 in
      subst (Alone d (simple x) a) two.2.1 (
        simple (spanning u.0 (span_over ts a (two.0 + 1))),
        of_simple u.1 (seen aliases ts two.0 (mark marks.Semicolon) two.2.0),
        ap simple (spanning_plain u.0 (span_over ts a (two.0 + 1)) ∙ u.2),
      )

  pub block_step : (xs : Statements) (s : Span) (d a m : ℕ) → sign_at ts aliases a ≡ sign.OpenBrace → All (d + 1) xs (a + 1) m
      → sign_at ts aliases m ≡ sign.CloseBrace → Alone d (block xs s) a (m + 1)
  block_step xs s d a m opens us closes =
      (block us.0 (span_over ts a (m + 1)), of_block opens refl us.1 closes, ap (λ x. block x nowhere) us.2)

  pub if_step : (x : Expression) (arm : Statement) (s : Span) (d a m b : ℕ) → sign_at ts aliases a ≡ sign.Keyword key.If → Test aliases ts d x (a + 1) m
      → Alone (d + 1) arm m b → Alone d (if_alone x arm s) a b
  if_step x arm s d a m b is t u = (if_alone t.0 u.0 (span_over ts a b), of_if is t.1 (of_body refl u.1), rw (t.2, u.2) refl)

  pub if_else_step : (x : Expression) (arm other : Statement) (s : Span) (d a m n b : ℕ) → sign_at ts aliases a ≡ sign.Keyword key.If
      → Test aliases ts d x (a + 1) m → Alone (d + 1) arm m n → ends_short arm ≡ false → sign_at ts aliases n ≡ sign.Keyword key.Else
      → Alone (d + 1) other (n + 1) b → Alone d (if_else x arm other s) a b
  if_else_step x arm other s d a m n b is t u short behind v = (
    if_else t.0 u.0 v.0 (span_over ts a b),
    of_if_else is t.1 (of_body refl u.1) (short_alike u.0 arm u.2 short) behind (of_body refl v.1),
    rw (t.2, u.2, v.2) refl,
  )

  pub while_step : (x : Expression) (body : Statement) (s : Span) (d a m b : ℕ) → sign_at ts aliases a ≡ sign.Keyword key.While
      → Test aliases ts d x (a + 1) m → Alone (d + 1) body m b → Alone d (while_loop x body s) a b
  while_step x body s d a m b is t u = (while_loop t.0 u.0 (span_over ts a b), of_while is t.1 (of_body refl u.1), rw (t.2, u.2) refl)

  pub do_step : (body : Statement) (x : Expression) (s : Span) (d a m b : ℕ) → sign_at ts aliases a ≡ sign.Keyword key.Do → Alone (d + 1) body (a + 1) m
      → sign_at ts aliases m ≡ sign.Keyword key.While → Test aliases ts d x (m + 1) b → sign_at ts aliases b ≡ sign.Semicolon
      → Alone d (do_loop body x s) a (b + 1)
  do_step body x s d a m b is u behind t semicolon =
      (do_loop u.0 t.0 (span_over ts a (b + 1)), of_do is (of_body refl u.1) behind t.1 semicolon, rw (u.2, t.2) refl)

  pub for_step : (i : ForInit) (x : Option Expression) (t : Option Simple) (body : Statement) (s : Span) (d a m n e b : ℕ)
      → sign_at ts aliases a ≡ sign.Keyword key.For → sign_at ts aliases (a + 1) ≡ sign.Open → ForInitRead aliases ts (d + 1) i (a + 1 + 1) m
      → sign_at ts aliases m ≡ sign.Semicolon → Optional aliases ts (d + 1) x (m + 1) n → sign_at ts aliases n ≡ sign.Semicolon
      → ForStepRead aliases ts (d + 1) t (n + 1) e → sign_at ts aliases e ≡ sign.Close → Alone (d + 1) body (e + 1) b
      → Alone d (for_loop i x t body s) a b
  for_step i x t body s d a m n e b is opens init first test second step closes u = (
    for_loop init.0 test.0 step.0 u.0 (span_over ts a b),
    of_for is opens refl init.1 first test.1 second step.1 closes (of_body refl u.1),
    rw (init.2, test.2, step.2, u.2) refl,
  )

  pub switch_step : (x : Expression) (body : Statement) (s : Span) (d a m b : ℕ) → sign_at ts aliases a ≡ sign.Keyword key.Switch
      → Test aliases ts d x (a + 1) m → Alone (d + 1) body m b → Alone d (switch x body s) a b
  switch_step x body s d a m b is t u = (switch t.0 u.0 (span_over ts a b), of_switch is t.1 (of_body refl u.1), rw (t.2, u.2) refl)

  pub case_step : (x : Expression) (body : Statement) (s : Span) (d a m b : ℕ) → sign_at ts aliases a ≡ sign.Keyword key.Case
      → Expr aliases ts d 0 x (a + 1) m → sign_at ts aliases m ≡ sign.Colon → Alone (d + 1) body (m + 1) b → Alone d (case x body s) a b
  case_step x body s d a m b is t colon u = (case t.0 u.0 (span_over ts a b), of_case is t.1 colon (of_body refl u.1), rw (t.2, u.2) refl)

  pub default_step : (body : Statement) (s : Span) (d a b : ℕ) → sign_at ts aliases a ≡ sign.Keyword key.Default
      → sign_at ts aliases (a + 1) ≡ sign.Colon → Alone (d + 1) body (a + 1 + 1) b → Alone d (otherwise body s) a b
  default_step body s d a b is colon u =
      (otherwise u.0 (span_over ts a b), of_default is colon (of_body refl u.1), ap (λ x. otherwise x nowhere) u.2)

  pub label_step : (name : Identifier) (body : Statement) (s : Span) (d a b : ℕ) → sign_at ts aliases a ≡ sign.Name
      → plain_name (identifier_at ts a) ≡ plain_name name → sign_at ts aliases (a + 1) ≡ sign.Colon → Alone (d + 1) body (a + 1 + 1) b
      → Alone d (label name body s) a b
  label_step name body s d a b is so colon u = (
    label (identifier_at ts a) u.0 (span_over ts a b),
    of_label is colon (of_body refl u.1),
    ap (λ n. label n (plain_statement u.0) nowhere) so ∙ ap (λ x. label (plain_name name) x nowhere) u.2,
  )

  pub empty_step : (s : Span) (d a b : ℕ) → Run ts a (mark marks.Semicolon ∷ []) b → Alone d (empty s) a b
  empty_step s d a b h =
      subst (Alone d (empty s) a) h.1 (empty (span_over ts a (a + 1)), of_empty (seen aliases ts a (mark marks.Semicolon) h.0), refl)

  pub break_step : (s : Span) (d a b : ℕ) → Run ts a (word (codes "break") ∷ (mark marks.Semicolon ∷ [])) b → Alone d (break s) a b
  break_step s d a b h = subst (Alone d (break s) a) h.1.1 (
    break (span_over ts a (a + 1 + 1)),
    of_break (keyword_seen aliases ts a key.Break h.0) (seen aliases ts (a + 1) (mark marks.Semicolon) h.1.0),
    refl,
  )

  pub continue_step : (s : Span) (d a b : ℕ) → Run ts a (word (codes "continue") ∷ (mark marks.Semicolon ∷ [])) b → Alone d (continue s) a b
  continue_step s d a b h = subst (Alone d (continue s) a) h.1.1 (
    continue (span_over ts a (a + 1 + 1)),
    of_continue (keyword_seen aliases ts a key.Continue h.0) (seen aliases ts (a + 1) (mark marks.Semicolon) h.1.0),
    refl,
  )

  pub goto_step : (name : Identifier) (s : Span) (d a b : ℕ) → is_name aliases name.text ≡ true
      → Run ts a (word (codes "goto") ∷ (word name.text ∷ (mark marks.Semicolon ∷ []))) b → Alone d (goto name s) a b
  goto_step name s d a b ok h = subst (Alone d (goto name s) a) h.1.1.1 (
    goto (identifier_at ts (a + 1)) (span_over ts a (a + 1 + 1 + 1)),
    of_goto (keyword_seen aliases ts a key.Goto h.0) (name_seen aliases ts (a + 1) name.text ok h.1.0)
        (seen aliases ts (a + 1 + 1) (mark marks.Semicolon) h.1.1.0),
    ap (λ n. goto n nowhere) (named_so ts (a + 1) name h.1.0),
  )

  pub return_step : (x : Option Expression) (s : Span) (d a b : ℕ) → SoundOptional (words_beside aliases) x
      → Run ts a (word (codes "return") ∷ (optional_pieces x ++ mark marks.Semicolon ∷ [])) b → Alone d (return x s) a b
  return_step x s d a b ok h =
      let two = run_split ts (a + 1) b (optional_pieces x) (mark marks.Semicolon ∷ []) h.1 in
      let u = optional_spelled aliases ts x d (a + 1) two.0 ok two.1 in
      subst (Alone d (return x s) a) two.2.1 (
        return u.0 (span_over ts a (two.0 + 1)),
        of_return (keyword_seen aliases ts a key.Return h.0) u.1 (seen aliases ts two.0 (mark marks.Semicolon) two.2.0),
        ap (λ x. return x nowhere) u.2,
      )
