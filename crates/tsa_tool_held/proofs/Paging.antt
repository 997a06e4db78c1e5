-- What is written of a body, point by point.
use Rattle.std.proofs.Common.{◌≡◌, ◌+◌, ◌-◌, ◌<◌, arith, ℕ, zero, suc, List, [], ◌∷◌, ◌++◌, length, Contains, Option, Some, slice_get}
use Rattle.std.proofs.Common.{slice_index_or, refl, sym, subst}
use Rattle.std.proofs.lemmas.List.{length-map}
use Rattle.std.proofs.lemmas.List.Elements.{Contains-get_or}
use Rattle.std.proofs.lemmas.List.Sorted.{Contains-permutation, IsPermutation-sym}
use Rattle.std.specs.Io.KnownBytes.{Appends}
use Rattle.std.specs.List.{range_with_len}
use Rattle.tsa_base.specs.Transfer.{AppendsFront}
use Rattle.tsa_place_model.specs.Ways.{Way}
use Rattle.tsa_warn_text.specs.Orders.{text_of, texts_of}
use Rattle.tsa_warn_text.specs.Ranks.{numbers_of}
use Rattle.tsa_tool_held.specs.Held.{Account, IsAccountHeld, IsOrder, IsPointText, paths_in}
use Rattle.tsa_tool_held.specs.Pieces.{Pieces}
use Rattle.tsa_tool_held.proofs.Parts.{front_of_pieces}
use Rattle.tsa_tool_held.proofs.Pieces.{one_more}
use Rattle.tsa_tool_held.proofs.Ranges.{from_zero_around, from_zero_more}
use Rattle.tsa_tool_held.proofs.HeldOnce.{order_once, point_text_once}

in_range : (a n x : ℕ) → Contains (range_with_len a n) x → x < a + n
in_range a zero x (k, less, is) = absurd (omega (arith, less))
in_range a (suc n) x (zero, less, is) = omega (arith, is)
in_range a (suc n) x (suc k, less, is) = let deeper = in_range (a + 1) n x (k, omega (arith, less), is) in omega (arith, deeper)

module _ (a : Account) (order : List ℕ) (is_order : IsOrder a order) where
  abbrev numbers : List ℕ
  numbers = numbers_of (texts_of a.names (paths_in a))

  -- an order has numbers of paths
  pub in_order : (i d : ℕ) → i < length order → slice_index_or order i d < length (paths_in a)
  in_order i d less =
      let x = slice_index_or order i d in
      let among = Contains-permutation order numbers x (IsPermutation-sym numbers order is_order.each) (Contains-get_or order i d less) in
      let bound = in_range 0 (length (texts_of a.names (paths_in a))) x among in
      let below : x < length (texts_of a.names (paths_in a)) = omega (arith, bound) in
      subst (λ n. x < n) (length-map (paths_in a) (text_of a.names)) below

module _ (bytes : List ℕ) (a : Account) (order : List ℕ) (is_order : IsOrder a order) (point : ℕ) where
  abbrev IsText : ℕ → List ℕ → Type 0
  IsText = IsPointText bytes a order

  pub one_point_more : (text lines : List ℕ) → Pieces IsText (range_with_len 0 point) text → IsText point lines → Pieces IsText (range_with_len 0 (point + 1)) (text ++ lines)
  one_point_more text lines h is = subst (λ xs. Pieces IsText xs (text ++ lines)) (sym (from_zero_more point)) (one_more IsText (range_with_len 0 point) point text lines h is)

  module _ (less : point < length a.body.points) (taken each new : Option (List ℕ)) where
    pub front_at : (text lines : List ℕ) → Pieces IsText (range_with_len 0 point) text → Appends taken each text → ((piece : List ℕ) → IsText point piece → AppendsFront each new piece)
        → IsAccountHeld bytes a lines → AppendsFront taken new lines
    front_at text lines h written front held =
        let same : held.order ≡ order = order_once a held.order order held.is_order is_order in
        let points = subst (λ o. Pieces (IsPointText bytes a o) (range_with_len 0 (length a.body.points)) lines) same held.points in
        let all = subst (λ xs. Pieces IsText xs lines) (from_zero_around (length a.body.points) point less) points in
        front_of_pieces IsText (point_text_once bytes a order) taken each new (range_with_len 0 point) point (range_with_len (point + 1) (length a.body.points - (point + 1))) text lines h written front all

-- a path that is there
pub path_there : (a : Account) (cap : ℕ) → cap < length (paths_in a) → (c : Way) × (slice_get (paths_in a) cap ≡ Some c)
path_there a cap less = there (paths_in a) cap less
  where
    there : (ws : List Way) (k : ℕ) → k < length ws → (c : Way) × (slice_get ws k ≡ Some c)
    there [] k less = absurd (omega (arith, less))
    there (w ∷ ws) zero less = (w, refl)
    there (w ∷ ws) (suc k) less = there ws k (omega (arith, less))
