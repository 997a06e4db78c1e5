-- The texts of paths, one after another.
use Rattle.std.proofs.Common.{◌≡◌, ◌<◌, ◌+◌, ◌++◌, ◌∷◌, [], ℕ, zero, suc, List, length, take, Some, None, slice_get, sym, ap, ◌∙◌, arith}
use Rattle.std.proofs.lemmas.List.{take_more, map-append}
use Rattle.std.proofs.lemmas.Option.{get_or_from_slice_get, slice_get_within, none-some}
use Rattle.tsa_place_model.specs.Ways.{Way}
use Rattle.tsa_path.specs.PathTexts.{Names}
use Rattle.tsa_warn_text.specs.Orders.{text_of, texts_of}
use Rattle.tsa_warn_text.specs.Ranks.{PathText}

-- the path of the next number comes behind the others
pub texts_more : (names : Names) (paths : List Way) (n : ℕ) (c : Way) (texts more : List PathText) → slice_get paths n ≡ Some c
    → texts ≡ texts_of names (take n paths) → more ≡ texts ++ text_of names c ∷ [] → more ≡ texts_of names (take (n + 1) paths)
texts_more names paths n c texts more there first added =
    let next : take (n + 1) paths ≡ take n paths ++ c ∷ [] = take_more paths n c (slice_get_within paths n c there) ∙ ap (λ d. take n paths ++ d ∷ []) (get_or_from_slice_get paths n c c there) in
    added ∙ ap (λ l. l ++ text_of names c ∷ []) first ∙ sym (map-append (text_of names) (take n paths) (c ∷ [])) ∙ ap (texts_of names) (sym next)

-- and there is one
pub no_gap : {A : Type 0} (paths : List Way) (n : ℕ) → n < length paths → None ≡ slice_get paths n → A
no_gap paths n within none = absurd (by paths n within none)
  where
    by : (paths : List Way) (n : ℕ) → n < length paths → None ≡ slice_get paths n → ⊥
    by [] n within none = omega arith
    by (c ∷ paths) zero within none = none-some c none
    by (c ∷ paths) (suc n) within none = by paths n (omega arith) none
