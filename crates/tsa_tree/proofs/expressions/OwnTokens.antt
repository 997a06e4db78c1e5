-- What spells a tree looks at its own tokens alone: two lists that agree on them spell the same there.
use Rattle.std.proofs.Common.{ℕ, ◌+◌, ◌-◌, ◌<◌, ◌≤◌, ◌≡◌, ◌∙◌, ap, sym, subst, List, Bool, Some, slice_get, arith}
use Rattle.tsa_base.specs.Tokens.{Lexeme}
use Rattle.tsa_tree.specs.declared.sign.Sign.{Sign}
use Rattle.tsa_tree.specs.declared.sign.Sign.TheVariants as sign
use Rattle.tsa_tree.specs.expressions.Syntax.{Expression, Arguments, number, null, named, call, unary, binary, field, index}
use Rattle.tsa_tree.specs.tokens.Signs.{Aliases, sign_at, sign_in, span_at, span_in, span_over, identifier_at, identifier_in, value_at}
use Rattle.tsa_tree.specs.tokens.Signs.{unsigned_at, value_of, unsigned_of, kind_in, operator, prefix, access}
use Rattle.tsa_tree.specs.expressions.Spelling.{IsExpression, of_unary, of_binary, IsUnary, of_postfix, of_prefix, IsPostfix, of_primary}
use Rattle.tsa_tree.specs.expressions.Spelling.{of_field, of_index, IsPrimary, of_number, of_null, of_name, of_call, of_parentheses}
use Rattle.tsa_tree.specs.expressions.Spelling.{IsArguments, of_none, of_some, IsSeries, of_last, of_further}
use Rattle.tsa_tree.proofs.expressions.TokenCounts.{ahead-expression, ahead-unary, ahead-postfix, ahead-arguments, ahead-series}

module _ (tokens others : List Lexeme) (aliases : Aliases) (fits : ℕ → Bool) where
  -- the lists agree before b
  abbrev pub AgreeTo : ℕ → Type 0
  AgreeTo b = (i : ℕ) → i < b → slice_get tokens i ≡ slice_get others i

  short : (b e : ℕ) → b ≤ e → AgreeTo e → AgreeTo b
  short b e le h = λ i lt. h i (omega arith)

  sign-same : (i b : ℕ) → i < b → AgreeTo b → sign_at others aliases i ≡ sign_at tokens aliases i
  unfolding sign_at
  sign-same i b lt h = ap (sign_in aliases) (sym (h i lt))

  span-same : (i b : ℕ) → i < b → AgreeTo b → span_at tokens i ≡ span_at others i
  unfolding span_at
  span-same i b lt h = ap span_in (h i lt)

  identifier-same : (i b : ℕ) → i < b → AgreeTo b → identifier_at tokens i ≡ identifier_at others i
  unfolding identifier_at
  identifier-same i b lt h = ap identifier_in (h i lt)

  value-same : (i b : ℕ) → i < b → AgreeTo b → value_at tokens i ≡ value_at others i
  unfolding value_at
  value-same i b lt h = ap (λ t. value_of (kind_in t)) (h i lt)

  unsigned-same : (i b : ℕ) → i < b → AgreeTo b → unsigned_at tokens i ≡ unsigned_at others i
  unfolding unsigned_at
  unsigned-same i b lt h = ap (λ t. unsigned_of (kind_in t)) (h i lt)

  over-same : (a b : ℕ) → a < b → AgreeTo b → span_over tokens a b ≡ span_over others a b
  unfolding span_over
  over-same a b lt h =
      let first = span-same a b lt h in
      let last : span_at tokens (b - 1) ≡ span_at others (b - 1) = span-same (b - 1) b (omega arith) h in
      ap (λ x. record { from = x.from; to = (span_at tokens (b - 1)).to }) first
      ∙ ap (λ x. record { from = (span_at others a).from; to = x.to }) last

  seen : {A : Type 0} (f : Sign → A) (x : A) (i b : ℕ) → i < b → AgreeTo b → f (sign_at tokens aliases i) ≡ x → f (sign_at others aliases i) ≡ x
  seen f x i b lt h e = ap f (sign-same i b lt h) ∙ e

  stands : (s : Sign) (i b : ℕ) → i < b → AgreeTo b → sign_at tokens aliases i ≡ s → sign_at others aliases i ≡ s
  stands s i b lt h e = sign-same i b lt h ∙ e

  mutual
    pub truncated-expression : {d k : ℕ} {t : Expression} {a b : ℕ} → AgreeTo b → IsExpression tokens aliases fits d k t a b → IsExpression others aliases fits d k t a b
    truncated-expression h (of_unary u) = of_unary (truncated-unary h u)
    truncated-expression {d = d} {k = k} h (of_binary {op = op} {l = l} {r = r} {a = a} {m = m} {b = b} left o le f right) =
        let lt = ahead-expression left in
        let gt = ahead-expression right in
        subst (λ x. IsExpression others aliases fits d k (binary op l r x) a b) (sym (over-same a b (omega arith) h))
        (of_binary (truncated-expression (short m b (omega arith) h) left) (seen operator (Some op) m b (omega arith) h o) le f
        (truncated-expression h right))

    pub truncated-unary : {d : ℕ} {t : Expression} {a b : ℕ} → AgreeTo b → IsUnary tokens aliases fits d t a b → IsUnary others aliases fits d t a b
    truncated-unary h (of_postfix p) = of_postfix (truncated-postfix h p)
    truncated-unary {d = d} h (of_prefix {op = op} {t = t} {a = a} {b = b} o f u) =
        let lt = ahead-unary u in
        subst (λ x. IsUnary others aliases fits d (unary op t x) a b) (sym (over-same a b (omega arith) h))
        (of_prefix (seen prefix (Some op) a b (omega arith) h o) f (truncated-unary h u))

    pub truncated-postfix : {d : ℕ} {t : Expression} {a b : ℕ} → AgreeTo b → IsPostfix tokens aliases fits d t a b → IsPostfix others aliases fits d t a b
    truncated-postfix h (of_primary p) = of_primary (truncated-primary h p)
    truncated-postfix {d = d} h (of_field {t = t} {arrow = arrow} {a = a} {m = m} p x f n) =
        let lt = ahead-postfix p in
        subst (λ i. IsPostfix others aliases fits d (field t i arrow (span_over tokens a (m + 1 + 1))) a (m + 1 + 1)) (sym (identifier-same (m + 1) (m + 1 + 1) (omega arith) h))
        (subst (λ x. IsPostfix others aliases fits d (field t (identifier_at others (m + 1)) arrow x) a (m + 1 + 1)) (sym (over-same a (m + 1 + 1) (omega arith) h))
        (of_field (truncated-postfix (short m (m + 1 + 1) (omega arith) h) p) (seen access (Some arrow) m (m + 1 + 1) (omega arith) h x) f
        (stands sign.Name (m + 1) (m + 1 + 1) (omega arith) h n)))
    truncated-postfix {d = d} h (of_index {t = t} {i = i} {a = a} {m = m} {b = b} p o f g x c) =
        let lt = ahead-postfix p in
        let gt = ahead-expression x in
        subst (λ s. IsPostfix others aliases fits d (index t i s) a (b + 1)) (sym (over-same a (b + 1) (omega arith) h))
        (of_index (truncated-postfix (short m (b + 1) (omega arith) h) p) (stands sign.OpenBracket m (b + 1) (omega arith) h o) f g
        (truncated-expression (short b (b + 1) (omega arith) h) x) (stands sign.CloseBracket b (b + 1) (omega arith) h c))

    pub truncated-primary : {d : ℕ} {t : Expression} {a b : ℕ} → AgreeTo b → IsPrimary tokens aliases fits d t a b → IsPrimary others aliases fits d t a b
    truncated-primary {d = d} h (of_number {a = a} s) =
        subst (λ v. IsPrimary others aliases fits d (number v (unsigned_at tokens a) (span_at tokens a)) a (a + 1)) (sym (value-same a (a + 1) (omega arith) h))
        (subst (λ u. IsPrimary others aliases fits d (number (value_at others a) u (span_at tokens a)) a (a + 1)) (sym (unsigned-same a (a + 1) (omega arith) h))
        (subst (λ x. IsPrimary others aliases fits d (number (value_at others a) (unsigned_at others a) x) a (a + 1)) (sym (span-same a (a + 1) (omega arith) h))
        (of_number (stands sign.Number a (a + 1) (omega arith) h s))))
    truncated-primary {d = d} h (of_null {a = a} s) =
        subst (λ x. IsPrimary others aliases fits d (null x) a (a + 1)) (sym (span-same a (a + 1) (omega arith) h))
        (of_null (stands sign.Null a (a + 1) (omega arith) h s))
    truncated-primary {d = d} h (of_name {a = a} s) =
        subst (λ i. IsPrimary others aliases fits d (named i (span_at tokens a)) a (a + 1)) (sym (identifier-same a (a + 1) (omega arith) h))
        (subst (λ x. IsPrimary others aliases fits d (named (identifier_at others a) x) a (a + 1)) (sym (span-same a (a + 1) (omega arith) h))
        (of_name (stands sign.Name a (a + 1) (omega arith) h s)))
    truncated-primary {d = d} h (of_call {xs = xs} {a = a} {b = b} n o f x c) =
        let lt = ahead-arguments x in
        subst (λ i. IsPrimary others aliases fits d (call i xs (span_over tokens a (b + 1))) a (b + 1)) (sym (identifier-same a (b + 1) (omega arith) h))
        (subst (λ s. IsPrimary others aliases fits d (call (identifier_at others a) xs s) a (b + 1)) (sym (over-same a (b + 1) (omega arith) h))
        (of_call (stands sign.Name a (b + 1) (omega arith) h n) (stands sign.Open (a + 1) (b + 1) (omega arith) h o) f
        (truncated-arguments (short b (b + 1) (omega arith) h) x) (stands sign.Close b (b + 1) (omega arith) h c)))
    truncated-primary h (of_parentheses {a = a} {b = b} o f t c) =
        let lt = ahead-expression t in
        of_parentheses (stands sign.Open a (b + 1) (omega arith) h o) f (truncated-expression (short b (b + 1) (omega arith) h) t)
        (stands sign.Close b (b + 1) (omega arith) h c)

    pub truncated-arguments : {d : ℕ} {xs : Arguments} {a b : ℕ} → AgreeTo b → IsArguments tokens aliases fits d xs a b → IsArguments others aliases fits d xs a b
    truncated-arguments h of_none = of_none
    truncated-arguments h (of_some s) = of_some (truncated-series h s)

    pub truncated-series : {d : ℕ} {xs : Arguments} {a b : ℕ} → AgreeTo b → IsSeries tokens aliases fits d xs a b → IsSeries others aliases fits d xs a b
    truncated-series h (of_last t) = of_last (truncated-expression h t)
    truncated-series {b = b} h (of_further {m = m} t c s) =
        let lt = ahead-series s in
        of_further (truncated-expression (short m b (omega arith) h) t) (stands sign.Comma m b (omega arith) h c) (truncated-series h s)
