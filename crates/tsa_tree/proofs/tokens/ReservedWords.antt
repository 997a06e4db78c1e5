-- A word with a meaning of its own is reserved.
use Rattle.std.proofs.Common.{◌≡◌, ℕ, Bool, true, false, List, [], ◌∷◌, None, refl, ◌∙◌, ap}
use Rattle.std.proofs.lemmas.Bool.{and_parts}
use Rattle.std.proofs.lemmas.Slice.Eq.{bytes_eq-Decides}
use Rattle.std.specs.List.{list_all}
use Rattle.std.specs.Str.{bytes_eq}
use Rattle.tsa_base.specs.Words.{keywords, macro_words, reserved, is_reserved}
use Rattle.tsa_tree.specs.declared.sign.Sign.{Sign}
use Rattle.tsa_tree.specs.tokens.Signs.{listed, word_signs}

abbrev are_reserved : List (List ℕ × Sign) → Bool
are_reserved rows = list_all (λ row. is_reserved row.0) rows

words_reserved : are_reserved word_signs ≡ true
unfolding word_signs is_reserved reserved keywords macro_words
words_reserved = refl

unlisted : (rows : List (List ℕ × Sign)) (text : List ℕ) → are_reserved rows ≡ true → is_reserved text ≡ false → listed rows text ≡ None
unlisted [] text h e = refl
unlisted (row ∷ rows) text h e =
    let parts = and_parts (is_reserved row.0) (are_reserved rows) h in
    go (bytes_eq text row.0) refl parts.0 (unlisted rows text parts.1 e)
  where
    go : (b : Bool) → bytes_eq text row.0 ≡ b → is_reserved row.0 ≡ true → listed rows text ≡ None → listed (row ∷ rows) text ≡ None
    go true q r h = absurd (let whole : text ≡ row.0 = (bytes_eq-Decides text row.0).0 q in let both : is_reserved text ≡ true = ap is_reserved whole ∙ r in cc)
    go false q r h = rw (q) h

pub not_listed : (text : List ℕ) → is_reserved text ≡ false → listed word_signs text ≡ None
not_listed text e = unlisted word_signs text words_reserved e
