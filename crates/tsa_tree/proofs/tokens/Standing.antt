-- Names that stand at different places, in whatever order they are listed.
use Rattle.std.proofs.Common.{ℕ, ◌+◌, ◌<◌, ◌≤◌, ◌≡◌, ap, List, [], ◌∷◌, ◌++◌, length, arith, ◌⊎◌, inl, inr}
use Rattle.tsa_base.specs.declared.token.Span.{Span}
use Rattle.tsa_base.specs.Tokens.{Lexeme}
use Rattle.tsa_tree.specs.expressions.Syntax.{Identifier}
use Rattle.tsa_tree.specs.tokens.Signs.{span_at, identifier_at}
use Rattle.tsa_tree.specs.units.Names.{BeginsElsewhere, AreApart}
use Rattle.tsa_tree.proofs.tokens.Places.{AreInOrder, name_span}
use Rattle.tsa_tree.proofs.tokens.Rising.{Rises, no_name, name_at, rises-ends}

-- each name is one of the tokens from a on up to before b
data Inside (tokens : List Lexeme) (a b : ℕ) : List Identifier → Type 0 where
  none_there : Inside tokens a b []
  one_there : {xs : List Identifier} (i : ℕ) → a ≤ i → i < b → Inside tokens a b xs → Inside tokens a b (identifier_at tokens i ∷ xs)

-- and no two of them begin at the same place
pub record Stand (tokens : List Lexeme) (a b : ℕ) (xs : List Identifier) : Type 0 where
  ends : a ≤ b
  inside : Inside tokens a b xs
  apart : AreApart xs

module _ {tokens : List Lexeme} where
  pub stand-ends : {a b : ℕ} {xs : List Identifier} → Stand tokens a b xs → a ≤ b
  stand-ends s = s.ends

  inside-within : {m n : ℕ} {xs : List Identifier} → Inside tokens m n xs → {a b : ℕ} → a ≤ m → n ≤ b → Inside tokens a b xs
  inside-within none_there le le' = none_there
  inside-within (one_there i lo hi h) le le' = one_there i (omega arith) (omega arith) (inside-within h le le')

  inside-append : {a b : ℕ} {xs ys : List Identifier} → Inside tokens a b xs → Inside tokens a b ys → Inside tokens a b (xs ++ ys)
  inside-append none_there h = h
  inside-append (one_there i lo hi g) h = one_there i lo hi (inside-append g h)

elsewhere-append : (x : Identifier) (xs ys : List Identifier) → BeginsElsewhere x xs → BeginsElsewhere x ys → BeginsElsewhere x (xs ++ ys)
elsewhere-append x [] ys g h = h
elsewhere-append x (y ∷ xs) ys g h = (g.0, elsewhere-append x xs ys g.1 h)

pub stand-within : {tokens : List Lexeme} {a m n : ℕ} {xs : List Identifier} → a ≤ m → Stand tokens m n xs → Stand tokens a n xs
stand-within le s =
    let mid = s.ends in
    record { ends = omega arith; inside = inside-within s.inside le (omega arith); apart = s.apart }

module _ {text : List ℕ} {tokens : List Lexeme} (order : AreInOrder text tokens) where
  begins : (i j : ℕ) → i < j → j < length tokens → (identifier_at tokens i).span.from < (identifier_at tokens j).span.from
  begins i j lt lt' =
      let le = order.rise i j lt lt' in
      let some = order.some i (omega arith) in
      let e : (identifier_at tokens i).span.from ≡ (span_at tokens i).from = ap (λ (s : Span). s.from) (name_span tokens i) in
      let e' : (identifier_at tokens j).span.from ≡ (span_at tokens j).from = ap (λ (s : Span). s.from) (name_span tokens j) in
      omega (arith, le, some, e, e')

  differ : (i j : ℕ) → (i < j) ⊎ (j < i) → i < length tokens → j < length tokens
      → (identifier_at tokens i).span.from ≡ (identifier_at tokens j).span.from → ⊥
  differ i j (inl lt) lo hi e = omega (arith, begins i j lt hi, e)
  differ i j (inr lt) lo hi e = omega (arith, begins j i lt lo, e)

  elsewhere : {a b : ℕ} {xs : List Identifier} (i : ℕ) → (i < a) ⊎ (b ≤ i) → i < length tokens → b ≤ length tokens → Inside tokens a b xs
      → BeginsElsewhere (identifier_at tokens i) xs
  elsewhere i out lt le none_there = tt
  elsewhere i (inl out) lt le (one_there j lo hi h) = (differ i j (inl (omega arith)) lt (omega arith), elsewhere i (inl out) lt le h)
  elsewhere i (inr out) lt le (one_there j lo hi h) = (differ i j (inr (omega arith)) lt (omega arith), elsewhere i (inr out) lt le h)

  aside : (a m n b i : ℕ) → (m ≤ n) ⊎ (b ≤ a) → a ≤ i → i < m → (i < n) ⊎ (b ≤ i)
  aside a m n b i (inl le) lo hi = inl (omega arith)
  aside a m n b i (inr le) lo hi = inr (omega arith)

  apart-append : {a m n b : ℕ} {xs ys : List Identifier} → (m ≤ n) ⊎ (b ≤ a) → m ≤ length tokens → b ≤ length tokens
      → Inside tokens a m xs → AreApart xs → Inside tokens n b ys → AreApart ys → AreApart (xs ++ ys)
  apart-append out le le' none_there p h q = q
  apart-append {a = a} {m = m} {n = n} {b = b} {ys = ys} out le le' (one_there {xs = xs} i lo hi g) p h q = (
    elsewhere-append (identifier_at tokens i) xs ys p.0 (elsewhere i (aside a m n b i out lo hi) (omega arith) le' h),
    apart-append out le le' g p.1 h q,
  )

  pub stand-rises : {a b : ℕ} {xs : List Identifier} → b ≤ length tokens → Rises tokens a b xs → Stand tokens a b xs
  stand-rises le (no_name le') = record { ends = le'; inside = none_there; apart = tt }
  stand-rises {a = a} {b = b} le (name_at i lo r) =
      let s = stand-rises le r in
      let end : i + 1 ≤ b = rises-ends r in
      record {
        ends = omega arith;
        inside = one_there i lo (omega arith) (inside-within s.inside (omega arith) (omega arith));
        apart = (elsewhere i (inl (omega arith)) (omega arith) le s.inside, s.apart);
      }

  pub stand-then : {a m n b : ℕ} {xs ys : List Identifier} → b ≤ length tokens → Stand tokens a m xs → m ≤ n → Stand tokens n b ys
      → Stand tokens a b (xs ++ ys)
  stand-then le r le' s =
      let lo = r.ends in
      let hi = s.ends in
      record {
        ends = omega arith;
        inside = inside-append (inside-within r.inside (omega arith) (omega arith)) (inside-within s.inside (omega arith) (omega arith));
        apart = apart-append (inl le') (omega arith) le r.inside r.apart s.inside s.apart;
      }

  -- where those that are listed last stand first
  pub stand-before : {a m n b : ℕ} {xs ys : List Identifier} → b ≤ length tokens → Stand tokens n b xs → m ≤ n → Stand tokens a m ys
      → Stand tokens a b (xs ++ ys)
  stand-before le r le' s =
      let hi = r.ends in
      let lo = s.ends in
      record {
        ends = omega arith;
        inside = inside-append (inside-within r.inside (omega arith) (omega arith)) (inside-within s.inside (omega arith) (omega arith));
        apart = apart-append (inr le') le (omega arith) r.inside r.apart s.inside s.apart;
      }

  -- the same where others stand first
  pub stand-next : {a e m n b : ℕ} {xs ys : List Identifier} → b ≤ length tokens → a ≤ e → Stand tokens e m xs → m ≤ n → Stand tokens n b ys
      → Stand tokens a b (xs ++ ys)
  stand-next le le' r le'' s = stand-within le' (stand-then le r le'' s)

pub stand-apart : {tokens : List Lexeme} {a b : ℕ} {xs : List Identifier} → Stand tokens a b xs → AreApart xs
stand-apart s = s.apart
