-- The tokens of a canonical text, wherever they stand, spell its tree up to spans.
use Rattle.std.proofs.Common.{ℕ, ◌+◌, ◌≤◌, ◌≡◌, ◌∙◌, ap, subst, refl, arith, List, [], ◌∷◌, ◌++◌, Bool, true, false, length, nat_lt, codes}
use Rattle.std.proofs.lemmas.List.{length-append}
use Rattle.std.proofs.lemmas.Bool.{and_parts, ltb-false, lt-ltb}
use Rattle.tsa_base.specs.declared.token.Span.{Span}
use Rattle.tsa_base.specs.Tokens.{Lexeme}
use Rattle.tsa_tree.specs.declared.expr.UnaryOp.{UnaryOp}
use Rattle.tsa_tree.specs.declared.expr.BinaryOp.{BinaryOp}
use Rattle.tsa_tree.specs.declared.expr.BinaryOp.TheVariants as op
use Rattle.tsa_tree.specs.expressions.Syntax.{Identifier, Expression, Arguments, number, null, named, call, unary, binary, field, index}
use Rattle.tsa_tree.specs.expressions.Syntax.{none, more, nowhere, plain_name, plain, plain_arguments}
use Rattle.tsa_tree.specs.tokens.Signs.{Aliases, span_at, span_over, identifier_at, value_at, unsigned_at, level}
use Rattle.tsa_tree.specs.tokens.Signs as signs
use Rattle.tsa_tree.specs.expressions.Spelling.{IsExpression, of_unary, of_binary, of_postfix, of_prefix, IsPostfix, of_primary, of_field}
use Rattle.tsa_tree.specs.expressions.Spelling.{of_index, of_number, of_null, of_name, of_call, of_parentheses, IsArguments, of_none}
use Rattle.tsa_tree.specs.expressions.Spelling.{of_some, IsSeries, of_last, of_further}
use Rattle.tsa_tree.specs.expressions.Answers.{an_expression, Spells}
use Rattle.tsa_tree.specs.expressions.Sound.{words_beside, is_name, is_sound, are_sound}
use Rattle.tsa_grammar.specs.Reading.{all}
use Rattle.tsa_print.specs.declared.mark.Mark.TheVariants as marks
use Rattle.tsa_print.specs.Canonical.{Piece, word, numeral, operator, prefix, access, mark, wrapped, pieces, arguments, further}
use Rattle.tsa_print.proofs.Apart.{AreTokens}
use Rattle.tsa_print.proofs.PieceSigns.{Shows, shown, as_many, split, seen, name_seen, null_seen, prefix_seen, access_seen, named_so}
use Rattle.tsa_print.proofs.PieceSigns.{value_so, unsigned_so}

pub level_below : (o : BinaryOp) → level o ≤ 9
level_below op.Or = omega arith
level_below op.And = omega arith
level_below op.BitOr = omega arith
level_below op.BitXor = omega arith
level_below op.BitAnd = omega arith
level_below op.Equal = omega arith
level_below op.Unequal = omega arith
level_below op.Less = omega arith
level_below op.More = omega arith
level_below op.LessEqual = omega arith
level_below op.MoreEqual = omega arith
level_below op.Plus = omega arith
level_below op.Minus = omega arith
level_below op.Times = omega arith
level_below op.Divide = omega arith
level_below op.Remainder = omega arith

module _ (aliases : Aliases) (ts : List Lexeme) where
  -- the tokens from a on up to before b spell the tree up to spans: as an expression, as a postfix one, or as arguments
  abbrev pub Expr : (d k : ℕ) → Expression → (a b : ℕ) → Type 0
  Expr d k t a b = (u : Expression) × IsExpression ts aliases all d k u a b × (plain u ≡ plain t)

  abbrev pub Post : (d : ℕ) → Expression → (a b : ℕ) → Type 0
  Post d t a b = (u : Expression) × IsPostfix ts aliases all d u a b × (plain u ≡ plain t)

  abbrev Args : (d : ℕ) → Arguments → (a b : ℕ) → Type 0
  Args d xs a b = (us : Arguments) × IsArguments ts aliases all d us a b × (plain_arguments us ≡ plain_arguments xs)

  in_parentheses : (d : ℕ) (t : Expression) (a : ℕ) (ps : List Piece) → ((d a : ℕ) → Shows ts a ps → Expr d 0 t a (a + length ps))
      → Shows ts a (mark marks.OpenParenthesis ∷ (ps ++ mark marks.CloseParenthesis ∷ [])) → Post d t a (a + length (mark marks.OpenParenthesis ∷ (ps ++ mark marks.CloseParenthesis ∷ [])))
  in_parentheses d t a ps h s =
      let two = split ts (a + 1) ps (mark marks.CloseParenthesis ∷ []) s.1 in
      let e = h (d + 1) (a + 1) two.0 in
      let long : (a + 1) + length ps + 1 ≡ a + length (mark marks.OpenParenthesis ∷ (ps ++ mark marks.CloseParenthesis ∷ [])) =
      omega (arith, length-append ps (mark marks.CloseParenthesis ∷ [])) in (
        e.0,
        subst (λ n. IsPostfix ts aliases all d e.0 a n) long
            (of_primary (of_parentheses (seen aliases ts a (mark marks.OpenParenthesis) s.0) refl e.1 (seen aliases ts _ (mark marks.CloseParenthesis) two.1.0))),
        e.2,
      )

  post_expr : {d : ℕ} (k : ℕ) (t : Expression) {a b : ℕ} → Post d t a b → Expr d k t a b
  post_expr k t p = (p.0, of_unary (of_postfix p.1), p.2)

  pub bare_binary : (o : BinaryOp) (l r : Expression) (s : Span) (d k a : ℕ) → k ≤ level o
      → ((a : ℕ) → Shows ts a (pieces l (level o)) → Expr d (level o) l a (a + length (pieces l (level o))))
      → ((a : ℕ) → Shows ts a (pieces r (level o + 1)) → Expr d (level o + 1) r a (a + length (pieces r (level o + 1))))
      → Shows ts a (pieces l (level o) ++ operator o ∷ pieces r (level o + 1))
      → Expr d k (binary o l r s) a (a + length (pieces l (level o) ++ operator o ∷ pieces r (level o + 1)))
  bare_binary o l r s d k a le hl hr h =
      let two = split ts a (pieces l (level o)) (operator o ∷ pieces r (level o + 1)) h in
      let m = a + length (pieces l (level o)) in
      let left = hl a two.0 in
      let right = hr (m + 1) two.1.1 in
      let b = (m + 1) + length (pieces r (level o + 1)) in
      let long : b ≡ a + length (pieces l (level o) ++ operator o ∷ pieces r (level o + 1)) =
      omega (arith, length-append (pieces l (level o)) (operator o ∷ pieces r (level o + 1))) in (
        binary o left.0 right.0 (span_over ts a b),
        subst (λ n. IsExpression ts aliases all d k (binary o left.0 right.0 (span_over ts a b)) a n) long
            (of_binary left.1 (ap signs.operator (seen aliases ts m (operator o) two.1.0)) le refl right.1),
        ap (λ x. binary o x (plain right.0) nowhere) left.2 ∙ ap (λ x. binary o (plain l) x nowhere) right.2,
      )

  bare_unary : (o : UnaryOp) (e : Expression) (s : Span) (d k a : ℕ)
      → ((d a : ℕ) → Shows ts a (pieces e 11) → Post d e a (a + length (pieces e 11)))
      → Shows ts a (prefix o ∷ pieces e 11) → Expr d k (unary o e s) a (a + length (prefix o ∷ pieces e 11))
  bare_unary o e s d k a h sh =
      let inner = h (d + 1) (a + 1) sh.1 in
      let b = (a + 1) + length (pieces e 11) in
      let long : b ≡ a + length (prefix o ∷ pieces e 11) = omega arith in (
        unary o inner.0 (span_over ts a b),
        subst (λ n. IsExpression ts aliases all d k (unary o inner.0 (span_over ts a b)) a n) long
            (of_unary (of_prefix (prefix_seen aliases ts a o sh.0) refl (of_postfix inner.1))),
        ap (λ x. unary o x nowhere) inner.2,
      )

  wrapped_expr : (t : Expression) (d k a : ℕ) (b : Bool) (ps : List Piece) → ((d a : ℕ) → Shows ts a ps → Expr d 0 t a (a + length ps))
      → (b ≡ false → Shows ts a ps → Expr d k t a (a + length ps)) → Shows ts a (wrapped b ps) → Expr d k t a (a + length (wrapped b ps))
  wrapped_expr t d k a true ps h g s = post_expr k t (in_parentheses d t a ps h s)
  wrapped_expr t d k a false ps h g s = g refl s

  pub wrapped_post : (t : Expression) (d a : ℕ) (b : Bool) (ps : List Piece) → b ≡ true
      → ((d a : ℕ) → Shows ts a ps → Expr d 0 t a (a + length ps))
      → Shows ts a (wrapped b ps) → Post d t a (a + length (wrapped b ps))
  wrapped_post t d a true ps e h s = in_parentheses d t a ps h s
  wrapped_post t d a false ps e h s = cc

  post_field : (b : Expression) (n : Identifier) (arrow : Bool) (s : Span) (d a : ℕ) → is_name aliases n.text ≡ true
      → ((a : ℕ) → Shows ts a (pieces b 11) → Post d b a (a + length (pieces b 11)))
      → Shows ts a (pieces b 11 ++ access arrow ∷ (word n.text ∷ []))
      → Post d (field b n arrow s) a (a + length (pieces b 11 ++ access arrow ∷ (word n.text ∷ [])))
  post_field b n arrow s d a ok h sh =
      let two = split ts a (pieces b 11) (access arrow ∷ (word n.text ∷ [])) sh in
      let m = a + length (pieces b 11) in
      let base = h a two.0 in
      let name = name_seen aliases ts (m + 1) n.text ok two.1.1.0 in
      let long : m + 1 + 1 ≡ a + length (pieces b 11 ++ access arrow ∷ (word n.text ∷ [])) =
      omega (arith, length-append (pieces b 11) (access arrow ∷ (word n.text ∷ []))) in (
        field base.0 (identifier_at ts (m + 1)) arrow (span_over ts a (m + 1 + 1)),
        subst (λ e. IsPostfix ts aliases all d (field base.0 (identifier_at ts (m + 1)) arrow (span_over ts a (m + 1 + 1))) a e) long
            (of_field base.1 (access_seen aliases ts m arrow two.1.0) refl name),
        ap (λ x. field x (plain_name (identifier_at ts (m + 1))) arrow nowhere) base.2
            ∙ ap (λ w. field (plain b) w arrow nowhere) (named_so ts (m + 1) n two.1.1.0),
      )

  post_index : (b i : Expression) (s : Span) (d a : ℕ) → ((a : ℕ) → Shows ts a (pieces b 11) → Post d b a (a + length (pieces b 11)))
      → ((d a : ℕ) → Shows ts a (pieces i 0) → Expr d 0 i a (a + length (pieces i 0)))
      → Shows ts a (pieces b 11 ++ mark marks.OpenBracket ∷ (pieces i 0 ++ mark marks.CloseBracket ∷ []))
      → Post d (index b i s) a (a + length (pieces b 11 ++ mark marks.OpenBracket ∷ (pieces i 0 ++ mark marks.CloseBracket ∷ [])))
  post_index b i s d a hb hi sh =
      let two = split ts a (pieces b 11) (mark marks.OpenBracket ∷ (pieces i 0 ++ mark marks.CloseBracket ∷ [])) sh in
      let m = a + length (pieces b 11) in
      let in_two = split ts (m + 1) (pieces i 0) (mark marks.CloseBracket ∷ []) two.1.1 in
      let e = (m + 1) + length (pieces i 0) in
      let base = hb a two.0 in
      let at = hi (d + 1) (m + 1) in_two.0 in
      let long : e + 1 ≡ a + length (pieces b 11 ++ mark marks.OpenBracket ∷ (pieces i 0 ++ mark marks.CloseBracket ∷ [])) =
      omega (
        arith,
        length-append (pieces b 11) (mark marks.OpenBracket ∷ (pieces i 0 ++ mark marks.CloseBracket ∷ [])),
        length-append (pieces i 0) (mark marks.CloseBracket ∷ []),
      ) in (
        index base.0 at.0 (span_over ts a (e + 1)),
        subst (λ n. IsPostfix ts aliases all d (index base.0 at.0 (span_over ts a (e + 1))) a n) long
            (of_index base.1 (seen aliases ts m (mark marks.OpenBracket) two.1.0) refl refl at.1 (seen aliases ts e (mark marks.CloseBracket) in_two.1.0)),
        ap (λ x. index x (plain at.0) nowhere) base.2 ∙ ap (λ x. index (plain b) x nowhere) at.2,
      )

  post_number : (v : ℕ) (u : Bool) (s : Span) (d a : ℕ) → Shows ts a (numeral v u ∷ []) → Post d (number v u s) a (a + 1)
  post_number v u s d a h = (
    number (value_at ts a) (unsigned_at ts a) (span_at ts a),
    of_primary (of_number (seen aliases ts a (numeral v u) h.0)),
    ap (λ v. number v (unsigned_at ts a) nowhere) (value_so ts a v u h.0) ∙ ap (λ u. number v u nowhere) (unsigned_so ts a v u h.0),
  )

  post_null : (s : Span) (d a : ℕ) → Shows ts a (word (codes "NULL") ∷ []) → Post d (null s) a (a + 1)
  post_null s d a h = (null (span_at ts a), of_primary (of_null (null_seen aliases ts a h.0)), refl)

  post_named : (n : Identifier) (s : Span) (d a : ℕ) → is_name aliases n.text ≡ true → Shows ts a (word n.text ∷ []) → Post d (named n s) a (a + 1)
  post_named n s d a ok h = (
    named (identifier_at ts a) (span_at ts a),
    of_primary (of_name (name_seen aliases ts a n.text ok h.0)),
    ap (λ w. named w nowhere) (named_so ts a n h.0),
  )

  post_call : (f : Identifier) (xs : Arguments) (s : Span) (d a : ℕ) → is_name aliases f.text ≡ true
      → ((d a : ℕ) → Shows ts a (arguments xs) → Args d xs a (a + length (arguments xs)))
      → Shows ts a (word f.text ∷ (mark marks.OpenCall ∷ (arguments xs ++ mark marks.CloseParenthesis ∷ [])))
      → Post d (call f xs s) a (a + length (word f.text ∷ (mark marks.OpenCall ∷ (arguments xs ++ mark marks.CloseParenthesis ∷ []))))
  post_call f xs s d a ok hx h =
      let two = split ts (a + 1 + 1) (arguments xs) (mark marks.CloseParenthesis ∷ []) h.1.1 in
      let inner = hx (d + 1) (a + 1 + 1) two.0 in
      let b = (a + 1 + 1) + length (arguments xs) in
      let long : b + 1 ≡ a + length (word f.text ∷ (mark marks.OpenCall ∷ (arguments xs ++ mark marks.CloseParenthesis ∷ []))) =
      omega (arith, length-append (arguments xs) (mark marks.CloseParenthesis ∷ [])) in (
        call (identifier_at ts a) inner.0 (span_over ts a (b + 1)),
        subst (λ n. IsPostfix ts aliases all d (call (identifier_at ts a) inner.0 (span_over ts a (b + 1))) a n) long
            (of_primary (of_call (name_seen aliases ts a f.text ok h.0) (seen aliases ts (a + 1) (mark marks.OpenCall) h.1.0) refl inner.1
            (seen aliases ts b (mark marks.CloseParenthesis) two.1.0))),
        ap (λ w. call w (plain_arguments inner.0) nowhere) (named_so ts a f h.0) ∙ ap (λ xs. call (plain_name f) xs nowhere) inner.2,
      )

  mutual
    pub expr : (t : Expression) (d k a : ℕ) → is_sound (words_beside aliases) t ≡ true → k ≤ 10 → Shows ts a (pieces t k)
        → Expr d k t a (a + length (pieces t k))
    expr (number v u s) d k a ok le h = post_expr k (number v u s) (post_number v u s d a h)
    expr (null s) d k a ok le h = post_expr k (null s) (post_null s d a h)
    expr (named n s) d k a ok le h = post_expr k (named n s) (post_named n s d a ok h)
    expr (call f xs s) d k a ok le h =
        let two = and_parts (is_name aliases f.text) (are_sound (words_beside aliases) xs) ok in
        post_expr k (call f xs s) (post_call f xs s d a two.0 (λ d a. args xs d a two.1) h)
    expr (unary o e s) d k a ok le h =
        wrapped_expr (unary o e s) d k a (nat_lt 10 k) (prefix o ∷ pieces e 11)
        (λ d a sh. bare_unary o e s d 0 a (λ d a. post e d a ok) sh) (λ q sh. bare_unary o e s d k a (λ d a. post e d a ok) sh) h
    expr (binary o l r s) d k a ok le h =
        let low = level_below o in
        let two = and_parts (is_sound (words_beside aliases) l) (is_sound (words_beside aliases) r) ok in
        wrapped_expr (binary o l r s) d k a (nat_lt (level o) k) (pieces l (level o) ++ operator o ∷ pieces r (level o + 1))
        (λ d a sh. bare_binary o l r s d 0 a (omega arith) (λ a. expr l d (level o) a two.0 (omega arith))
        (λ a. expr r d (level o + 1) a two.1 (omega arith)) sh)
        (λ q sh. bare_binary o l r s d k a (ltb-false (level o) k q) (λ a. expr l d (level o) a two.0 (omega arith))
        (λ a. expr r d (level o + 1) a two.1 (omega arith)) sh) h
    expr (field b n arrow s) d k a ok le h =
        let two = and_parts (is_sound (words_beside aliases) b) (is_name aliases n.text) ok in
        post_expr k (field b n arrow s) (post_field b n arrow s d a two.1 (λ a. post b d a two.0) h)
    expr (index b i s) d k a ok le h =
        let two = and_parts (is_sound (words_beside aliases) b) (is_sound (words_beside aliases) i) ok in
        post_expr k (index b i s) (post_index b i s d a (λ a. post b d a two.0) (λ d a. expr i d 0 a two.1 (omega arith)) h)

    pub post : (t : Expression) (d a : ℕ) → is_sound (words_beside aliases) t ≡ true → Shows ts a (pieces t 11) → Post d t a (a + length (pieces t 11))
    post (number v u s) d a ok h = post_number v u s d a h
    post (null s) d a ok h = post_null s d a h
    post (named n s) d a ok h = post_named n s d a ok h
    post (call f xs s) d a ok h =
        let two = and_parts (is_name aliases f.text) (are_sound (words_beside aliases) xs) ok in
        post_call f xs s d a two.0 (λ d a. args xs d a two.1) h
    post (unary o e s) d a ok h =
        wrapped_post (unary o e s) d a (nat_lt 10 11) (prefix o ∷ pieces e 11) refl (λ d a sh. bare_unary o e s d 0 a (λ d a. post e d a ok) sh) h
    post (binary o l r s) d a ok h =
        let low = level_below o in
        let two = and_parts (is_sound (words_beside aliases) l) (is_sound (words_beside aliases) r) ok in
        wrapped_post (binary o l r s) d a (nat_lt (level o) 11) (pieces l (level o) ++ operator o ∷ pieces r (level o + 1))
        (lt-ltb (level o) 11 (omega arith))
        (λ d a sh. bare_binary o l r s d 0 a (omega arith) (λ a. expr l d (level o) a two.0 (omega arith))
        (λ a. expr r d (level o + 1) a two.1 (omega arith)) sh) h
    post (field b n arrow s) d a ok h =
        let two = and_parts (is_sound (words_beside aliases) b) (is_name aliases n.text) ok in
        post_field b n arrow s d a two.1 (λ a. post b d a two.0) h
    post (index b i s) d a ok h =
        let two = and_parts (is_sound (words_beside aliases) b) (is_sound (words_beside aliases) i) ok in
        post_index b i s d a (λ a. post b d a two.0) (λ d a. expr i d 0 a two.1 (omega arith)) h

    args : (xs : Arguments) (d a : ℕ) → are_sound (words_beside aliases) xs ≡ true → Shows ts a (arguments xs) → Args d xs a (a + length (arguments xs))
    args none d a ok h = (none, subst (λ n. IsArguments ts aliases all d none a n) (omega arith) of_none, refl)
    args (more t xs) d a ok h =
        let ok_two = and_parts (is_sound (words_beside aliases) t) (are_sound (words_beside aliases) xs) ok in
        let two = split ts a (pieces t 0) (further xs) h in
        let e = expr t d 0 a ok_two.0 (omega arith) two.0 in
        let r = rest xs d a (a + length (pieces t 0)) e.0 ok_two.1 e.1 two.1 in
        let long : a + length (pieces t 0) + length (further xs) ≡ a + length (pieces t 0 ++ further xs) =
        omega (arith, length-append (pieces t 0) (further xs)) in (
          more e.0 r.0,
          subst (λ n. IsArguments ts aliases all d (more e.0 r.0) a n) long (of_some r.1),
          ap (λ x. more x (plain_arguments r.0)) e.2 ∙ ap (more (plain t)) r.2,
        )

    pub rest : (xs : Arguments) (d a m : ℕ) (u : Expression) → are_sound (words_beside aliases) xs ≡ true → IsExpression ts aliases all d 0 u a m
        → Shows ts m (further xs)
        → (us : Arguments) × IsSeries ts aliases all d (more u us) a (m + length (further xs)) × (plain_arguments us ≡ plain_arguments xs)
    rest none d a m u ok e h = (none, subst (λ n. IsSeries ts aliases all d (more u none) a n) (omega arith) (of_last e), refl)
    rest (more t xs) d a m u ok e h =
        let ok_two = and_parts (is_sound (words_beside aliases) t) (are_sound (words_beside aliases) xs) ok in
        let two = split ts (m + 1) (pieces t 0) (further xs) h.1 in
        let f = expr t d 0 (m + 1) ok_two.0 (omega arith) two.0 in
        let r = rest xs d (m + 1) (m + 1 + length (pieces t 0)) f.0 ok_two.1 f.1 two.1 in
        let long : m + 1 + length (pieces t 0) + length (further xs) ≡ m + length (mark marks.Comma ∷ (pieces t 0 ++ further xs)) =
        omega (arith, length-append (pieces t 0) (further xs)) in (
          more f.0 r.0,
          subst (λ n. IsSeries ts aliases all d (more u (more f.0 r.0)) a n) long (of_further e (seen aliases ts m (mark marks.Comma) h.0) r.1),
          ap (λ x. more x (plain_arguments r.0)) f.2 ∙ ap (more (plain t)) r.2,
        )

-- the tokens of an expression's pieces spell it up to spans, where its names are names
pub pieces_spell : (aliases : Aliases) (tree : Expression) (ts : List Lexeme) → is_sound (words_beside aliases) tree ≡ true → AreTokens (pieces tree 0) ts →
    (u : Expression) × Spells ts aliases all an_expression 0 u 0 (length ts) × (plain u ≡ plain tree)
pieces_spell aliases tree ts ok h =
    let p = expr aliases ts tree 0 0 0 ok (omega arith) (shown (pieces tree 0) ts h) in
    let e = as_many (pieces tree 0) ts h in
    let long : 0 + length (pieces tree 0) ≡ length ts = omega arith in
    (p.0, subst (λ n. IsExpression ts aliases all 0 0 p.0 0 n) long p.1, p.2)
