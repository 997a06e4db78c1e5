-- Spans that some tokens cover.
use Rattle.std.proofs.Common.{ℕ, ◌+◌, ◌-◌, ◌<◌, ◌≤◌, ◌≡◌, ap, List, [], ◌∷◌, ◌++◌, length, arith, ◌⊎◌, inl, inr}
use Rattle.std.proofs.lemmas.Bool.{cases_lt}
use Rattle.tsa_base.specs.declared.token.Span.{Span}
use Rattle.tsa_base.specs.Tokens.{Lexeme}
use Rattle.tsa_tree.specs.tokens.Signs.{span_at, span_over, identifier_at}
use Rattle.tsa_tree.specs.units.Spans.{LieWithin}
use Rattle.tsa_tree.proofs.tokens.Places.{AreInOrder, name_span}

-- the spans are those of tokens from a on up to before b, of one at least each
pub data Cover (tokens : List Lexeme) (a b : ℕ) : List Span → Type 0 where
  no_span : a ≤ b → Cover tokens a b []
  over : {ss : List Span} (i e : ℕ) → a ≤ i → i < e → e ≤ b → Cover tokens a b ss → Cover tokens a b (span_over tokens i e ∷ ss)
  token_at : {ss : List Span} (i : ℕ) → a ≤ i → i < b → Cover tokens a b ss → Cover tokens a b (span_at tokens i ∷ ss)
  name_at : {ss : List Span} (i : ℕ) → a ≤ i → i < b → Cover tokens a b ss → Cover tokens a b ((identifier_at tokens i).span ∷ ss)

module _ {tokens : List Lexeme} where
  pub cover-ends : {a b : ℕ} {ss : List Span} → Cover tokens a b ss → a ≤ b
  cover-ends (no_span le) = le
  cover-ends (over i e lo lt hi r) = cover-ends r
  cover-ends (token_at i lo hi r) = cover-ends r
  cover-ends (name_at i lo hi r) = cover-ends r

  pub cover-none : (i : ℕ) → Cover tokens i i []
  cover-none i = no_span (omega arith)

  pub cover-name : (i : ℕ) → Cover tokens i (i + 1) ((identifier_at tokens i).span ∷ [])
  cover-name i = name_at i (omega arith) (omega arith) (no_span (omega arith))

  pub cover-within : {m n : ℕ} {ss : List Span} → Cover tokens m n ss → {a b : ℕ} → a ≤ m → n ≤ b → Cover tokens a b ss
  cover-within (no_span le) le' le'' = no_span (omega arith)
  cover-within (over i e lo lt hi r) le le' = over i e (omega arith) lt (omega arith) (cover-within r le le')
  cover-within (token_at i lo hi r) le le' = token_at i (omega arith) (omega arith) (cover-within r le le')
  cover-within (name_at i lo hi r) le le' = name_at i (omega arith) (omega arith) (cover-within r le le')

  pub cover-both : {a b : ℕ} {ss ts : List Span} → Cover tokens a b ss → Cover tokens a b ts → Cover tokens a b (ss ++ ts)
  cover-both (no_span le) s = s
  cover-both (over i e lo lt hi r) s = over i e lo lt hi (cover-both r s)
  cover-both (token_at i lo hi r) s = token_at i lo hi (cover-both r s)
  cover-both (name_at i lo hi r) s = name_at i lo hi (cover-both r s)

  pub cover-then : {a m n b : ℕ} {ss ts : List Span} → Cover tokens a m ss → m ≤ n → Cover tokens n b ts → Cover tokens a b (ss ++ ts)
  cover-then r le s =
      let lo = cover-ends r in
      let hi = cover-ends s in
      cover-both (cover-within r (omega arith) (omega arith)) (cover-within s (omega arith) (omega arith))

  pub cover-last : {a b : ℕ} {ss : List Span} → Cover tokens a b ss → Cover tokens a b (ss ++ [])
  cover-last r = cover-both r (no_span (cover-ends r))

  pub cover-front : {a b : ℕ} (ss ts : List Span) → Cover tokens a b (ss ++ ts) → Cover tokens a b ss
  cover-front [] ts r = no_span (cover-ends r)
  cover-front (s ∷ ss) ts (over i e lo lt hi r) = over i e lo lt hi (cover-front ss ts r)
  cover-front (s ∷ ss) ts (token_at i lo hi r) = token_at i lo hi (cover-front ss ts r)
  cover-front (s ∷ ss) ts (name_at i lo hi r) = name_at i lo hi (cover-front ss ts r)

  pub cover-back : {a b : ℕ} (ss ts : List Span) → Cover tokens a b (ss ++ ts) → Cover tokens a b ts
  cover-back [] ts r = r
  cover-back (s ∷ ss) ts (over i e lo lt hi r) = cover-back ss ts r
  cover-back (s ∷ ss) ts (token_at i lo hi r) = cover-back ss ts r
  cover-back (s ∷ ss) ts (name_at i lo hi r) = cover-back ss ts r

module _ {text : List ℕ} {tokens : List Lexeme} (order : AreInOrder text tokens) where
  reaches : (i j : ℕ) → i ≤ j → j < length tokens → (span_at tokens i).from ≤ (span_at tokens j).to
  reaches i j le lt = go (cases_lt i j)
    where
      go : (i < j) ⊎ (j ≤ i) → (span_at tokens i).from ≤ (span_at tokens j).to
      go (inl lt') = omega (arith, order.some i (omega arith), order.rise i j lt' lt, order.some j lt)
      go (inr le') =
          let same : i ≡ j = omega arith in
          let e : (span_at tokens i).from ≡ (span_at tokens j).from = ap (λ k. (span_at tokens k).from) same in
          omega (arith, e, order.some j lt)

  -- the spans that tokens of a text cover lie in it
  pub cover-lies : {a b : ℕ} {ss : List Span} → b ≤ length tokens → Cover tokens a b ss → LieWithin (length text) ss
  unfolding span_over
  cover-lies le (no_span le') = tt
  cover-lies le (over i e lo lt hi r) = (reaches i (e - 1) (omega arith) (omega arith), order.inside (e - 1) (omega arith), cover-lies le r)
  cover-lies le (token_at i lo hi r) = (reaches i i (omega arith) (omega arith), order.inside i (omega arith), cover-lies le r)
  cover-lies le (name_at i lo hi r) =
      let e : (identifier_at tokens i).span.from ≡ (span_at tokens i).from = ap (λ (s : Span). s.from) (name_span tokens i) in
      let e' : (identifier_at tokens i).span.to ≡ (span_at tokens i).to = ap (λ (s : Span). s.to) (name_span tokens i) in
      let on = reaches i i (omega arith) (omega arith) in
      let inside = order.inside i (omega arith) in
      (omega (arith, e, e', on), omega (arith, e', inside), cover-lies le r)
