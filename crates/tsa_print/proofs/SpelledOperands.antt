-- A run of an expression's pieces spells it up to spans: as an expression, as the left side of an assignment, and in a series.
use Rattle.std.proofs.Common.{ℕ, ◌+◌, ◌≤◌, ◌≡◌, ap, subst, refl, arith, List, ◌∷◌, ◌++◌, true, nat_lt}
use Rattle.std.proofs.lemmas.Bool.{and_parts, lt-ltb}
use Rattle.tsa_base.specs.Tokens.{Lexeme}
use Rattle.tsa_tree.specs.expressions.Syntax.{Expression, Arguments, number, null, named, call, unary, binary, field, index, more, nowhere}
use Rattle.tsa_tree.specs.expressions.Syntax.{plain, plain_arguments}
use Rattle.tsa_tree.specs.tokens.Signs.{Aliases, span_over, level}
use Rattle.tsa_tree.specs.expressions.Spelling.{IsUnary, of_postfix, of_prefix, IsSeries}
use Rattle.tsa_tree.specs.expressions.Sound.{words_beside, is_sound, are_sound}
use Rattle.tsa_grammar.specs.Reading.{all}
use Rattle.tsa_print.specs.Canonical.{operator, pieces, further}
use Rattle.tsa_print.proofs.PieceSigns.{prefix_seen}
use Rattle.tsa_print.proofs.Runs.{Run, run_split, run_shows, run_long}
use Rattle.tsa_print.proofs.CanonicalTrees.{Expr, Post, level_below, bare_binary, wrapped_post, expr, post, rest}

module _ (aliases : Aliases) (ts : List Lexeme) where
  abbrev pub Operand : (d : ℕ) → Expression → (a b : ℕ) → Type 0
  Operand d t a b = (u : Expression) × IsUnary ts aliases all d u a b × (plain u ≡ plain t)

  abbrev pub Series : (d : ℕ) → Expression → Arguments → (a b : ℕ) → Type 0
  Series d t xs a b =
      (u : Expression) × (us : Arguments) × IsSeries ts aliases all d (more u us) a b × (plain u ≡ plain t) × (plain_arguments us ≡ plain_arguments xs)

  expr_run : (t : Expression) (d k a b : ℕ) → is_sound (words_beside aliases) t ≡ true → k ≤ 10 → Run ts a (pieces t k) b → Expr aliases ts d k t a b
  expr_run t d k a b ok le h =
      subst (Expr aliases ts d k t a) (run_long ts a b (pieces t k) h) (expr aliases ts t d k a ok le (run_shows ts a b (pieces t k) h))

  -- an expression where anything can stand
  pub expression_spelled : (t : Expression) (d a b : ℕ) → is_sound (words_beside aliases) t ≡ true → Run ts a (pieces t 0) b → Expr aliases ts d 0 t a b
  expression_spelled t d a b ok h = expr_run t d 0 a b ok (omega arith) h

  post_run : (t : Expression) (d a b : ℕ) → is_sound (words_beside aliases) t ≡ true → Run ts a (pieces t 11) b → Post aliases ts d t a b
  post_run t d a b ok h =
      subst (Post aliases ts d t a) (run_long ts a b (pieces t 11) h) (post aliases ts t d a ok (run_shows ts a b (pieces t 11) h))

  as_operand : (t : Expression) (d a b : ℕ) → Post aliases ts d t a b → Operand d t a b
  as_operand t d a b p = (p.0, of_postfix p.1, p.2)

  binary_post : (o : _) (l r : Expression) (s : _) (d a : ℕ) → is_sound (words_beside aliases) l ≡ true → is_sound (words_beside aliases) r ≡ true → (b : ℕ)
      → Run ts a (pieces (binary o l r s) 10) b → Post aliases ts d (binary o l r s) a b
  binary_post o l r s d a okl okr b h =
      let low = level_below o in
      subst (Post aliases ts d (binary o l r s) a) (run_long ts a b (pieces (binary o l r s) 10) h)
      (wrapped_post aliases ts (binary o l r s) d a (nat_lt (level o) 10) (pieces l (level o) ++ operator o ∷ pieces r (level o + 1))
      (lt-ltb (level o) 10 (omega arith))
      (λ d a sh. bare_binary aliases ts o l r s d 0 a (omega arith) (λ a. expr aliases ts l d (level o) a okl (omega arith))
      (λ a. expr aliases ts r d (level o + 1) a okr (omega arith)) sh)
      (run_shows ts a b (pieces (binary o l r s) 10) h))

  -- the left side of an assignment
  pub operand_spelled : (t : Expression) (d a b : ℕ) → is_sound (words_beside aliases) t ≡ true → Run ts a (pieces t 10) b → Operand d t a b
  operand_spelled (number v u s) d a b ok h = as_operand (number v u s) d a b (post_run (number v u s) d a b ok h)
  operand_spelled (null s) d a b ok h = as_operand (null s) d a b (post_run (null s) d a b ok h)
  operand_spelled (named n s) d a b ok h = as_operand (named n s) d a b (post_run (named n s) d a b ok h)
  operand_spelled (call f xs s) d a b ok h = as_operand (call f xs s) d a b (post_run (call f xs s) d a b ok h)
  operand_spelled (unary o e s) d a b ok h =
      let inner = post_run e (d + 1) (a + 1) b ok h.1 in (
        unary o inner.0 (span_over ts a b),
        of_prefix (prefix_seen aliases ts a o h.0) refl (of_postfix inner.1),
        ap (λ x. unary o x nowhere) inner.2,
      )
  operand_spelled (binary o l r s) d a b ok h =
      let two = and_parts (is_sound (words_beside aliases) l) (is_sound (words_beside aliases) r) ok in
      as_operand (binary o l r s) d a b (binary_post o l r s d a two.0 two.1 b h)
  operand_spelled (field e n arrow s) d a b ok h = as_operand (field e n arrow s) d a b (post_run (field e n arrow s) d a b ok h)
  operand_spelled (index e i s) d a b ok h = as_operand (index e i s) d a b (post_run (index e i s) d a b ok h)

  -- one expression or more
  pub series_spelled : (t : Expression) (xs : Arguments) (d a b : ℕ) → are_sound (words_beside aliases) (more t xs) ≡ true
      → Run ts a (pieces t 0 ++ further xs) b → Series d t xs a b
  series_spelled t xs d a b ok h =
      let sound = and_parts (is_sound (words_beside aliases) t) (are_sound (words_beside aliases) xs) ok in
      let two = run_split ts a b (pieces t 0) (further xs) h in
      let e = expression_spelled t d a two.0 sound.0 two.1 in
      let r = rest aliases ts xs d a two.0 e.0 sound.1 e.1 (run_shows ts two.0 b (further xs) two.2) in (
        e.0,
        r.0,
        subst (λ n. IsSeries ts aliases all d (more e.0 r.0) a n) (run_long ts two.0 b (further xs) two.2) r.1,
        e.2,
        r.2,
      )
