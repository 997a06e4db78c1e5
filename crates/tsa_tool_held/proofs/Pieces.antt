-- Texts that are put together of pieces: one piece more, and that there is one such text where each piece is the only one.
use Rattle.std.proofs.Common.{◌≡◌, ◌∙◌, ℕ, List, [], ◌∷◌, ◌++◌, refl, sym, ap, ap₂, subst, append_assoc, append-nil}
use Rattle.tsa_tool_held.specs.Pieces.{Pieces}

module _ {X : Type 0} (IsPiece : X → List ℕ → Type 0) where
  pub no_pieces : Pieces IsPiece [] []
  no_pieces = refl

  pub one_piece : (x : X) (piece : List ℕ) → IsPiece x piece → Pieces IsPiece (x ∷ []) piece
  one_piece x piece is = (piece, [], is, refl, sym (append-nil piece))

  -- pieces behind others
  pub pieces_behind : (xs ys : List X) (text more : List ℕ) → Pieces IsPiece xs text → Pieces IsPiece ys more → Pieces IsPiece (xs ++ ys) (text ++ more)
  pieces_behind [] ys text more h g = subst (λ t. Pieces IsPiece ys (t ++ more)) (sym h) g
  pieces_behind (x ∷ xs) ys text more (piece, rest, is, h, whole) g =
      (piece, rest ++ more, is, pieces_behind xs ys rest more h g, ap (λ t. t ++ more) whole ∙ append_assoc piece rest more)

  pub one_more : (xs : List X) (x : X) (text piece : List ℕ) → Pieces IsPiece xs text → IsPiece x piece → Pieces IsPiece (xs ++ x ∷ []) (text ++ piece)
  one_more xs x text piece h is = pieces_behind xs (x ∷ []) text piece h (one_piece x piece is)

  -- with what one thing more has
  pub piece_added : (xs new : List X) (x : X) (text piece : List ℕ) → new ≡ x ∷ [] → Pieces IsPiece xs text → IsPiece x piece → Pieces IsPiece (xs ++ new) (text ++ piece)
  piece_added xs new x text piece is_new h is = subst (λ n. Pieces IsPiece (xs ++ n) (text ++ piece)) (sym is_new) (one_more xs x text piece h is)

  pub no_piece_added : (xs new : List X) (text : List ℕ) → new ≡ [] → Pieces IsPiece xs text → Pieces IsPiece (xs ++ new) text
  no_piece_added xs new text is_new h = subst (λ ys. Pieces IsPiece ys text) (sym (ap (λ n. xs ++ n) is_new ∙ append-nil xs)) h

  module _ (unique : (x : X) (a b : List ℕ) → IsPiece x a → IsPiece x b → a ≡ b) where
    -- what stands behind the pieces of the first things are those of the others
    pub pieces_left : (xs ys : List X) (text whole : List ℕ) → Pieces IsPiece xs text → Pieces IsPiece (xs ++ ys) whole
        → (rest : List ℕ) × Pieces IsPiece ys rest × (whole ≡ text ++ rest)
    pieces_left [] ys text whole h g = (whole, g, sym (ap (λ t. t ++ whole) h))
    pieces_left (x ∷ xs) ys text whole (piece, rest, is, h, parts) (other, later, is_other, g, whole_parts) =
        let same : piece ≡ other = unique x piece other is is_other in
        let deeper = pieces_left xs ys rest later h g in (
          deeper.0,
          deeper.1,
          whole_parts ∙ ap₂ (λ p t. p ++ t) (sym same) deeper.2 ∙ sym (append_assoc piece rest deeper.0) ∙ ap (λ t. t ++ deeper.0) (sym parts),
        )

    pub one_text : (xs : List X) (a b : List ℕ) → Pieces IsPiece xs a → Pieces IsPiece xs b → a ≡ b
    one_text [] a b h g = h ∙ sym g
    one_text (x ∷ xs) a b (piece, rest, is, h, parts) (other, later, is_other, g, other_parts) =
        parts ∙ ap₂ (λ p t. p ++ t) (unique x piece other is is_other) (one_text xs rest later h g) ∙ sym other_parts
