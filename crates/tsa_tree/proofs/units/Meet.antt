-- The row of whole units meets what its reader needs: items go on up to the last token.
use Rattle.std.proofs.Common.{ℕ, ◌≡◌, ◌∙◌, ap, sym, refl, List, Bool, true, false, ◌||◌, length, arith, ◌⊎◌, inl, inr}
use Rattle.std.proofs.lemmas.Bool.{lt-leb, cases_lt}
use Rattle.std.proofs.lemmas.Option.{slice_get_past}
use Rattle.tsa_base.specs.Tokens.{Lexeme}
use Rattle.tsa_tree.specs.declared.sign.Keyword.TheVariants as key
use Rattle.tsa_tree.specs.declared.sign.Sign.{Sign}
use Rattle.tsa_tree.specs.declared.sign.Sign.TheVariants as sign
use Rattle.tsa_tree.specs.tokens.Signs.{Aliases, sign_at, sign_in, is_storage}
use Rattle.tsa_tree.specs.Rows.{some_items, items, is_past, item_row, rule}
use Rattle.tsa_tree.proofs.RowFacts.{begins_type, begins_item, Start, Good}

either_of : (p q : Bool) → (p ≡ true) ⊎ (q ≡ true) → (p || q) ≡ true
either_of true q h = refl
either_of false q (inl e) = cc
either_of false q (inr e) = e

typed_item : (s : Sign) → (begins_type s ≡ true) ⊎ (is_storage s ≡ true) → begins_item s ≡ true
typed_item (sign.Keyword key.Typedef) h = refl
typed_item s h = either_of (begins_type s) (is_storage s) h

module _ (tokens : List Lexeme) where
  -- An item begins with a token of its own.
  pub first_item : (aliases : Aliases) (bodies : Bool) (m : ℕ) (s : Sign) → sign_at tokens aliases m ≡ s
      → Start tokens some_items (item_row tokens aliases bodies m s) m → begins_item (sign_at tokens aliases m) ≡ true
  first_item aliases bodies m (sign.Keyword key.Struct) q h = ap begins_item q
  first_item aliases bodies m (sign.Keyword key.Enum) q h = ap begins_item q
  first_item aliases bodies m (sign.Keyword key.Typedef) q h = ap begins_item q
  first_item aliases bodies m _ q (inl h) = typed_item (sign_at tokens aliases m) (inr h)
  first_item aliases bodies m _ q (inr h) = typed_item (sign_at tokens aliases m) (inl h)

  -- Past the last token nothing begins.
  pub begun_inside : (aliases : Aliases) (m : ℕ) → begins_item (sign_at tokens aliases m) ≡ true → is_past tokens m ≡ false
  unfolding sign_at
  begun_inside aliases m h =
      elim (cases_lt m (length tokens)) [
        | inl lt ↦ lt-leb (length tokens) m lt
        | inr le ↦ (let never : false ≡ true = sym (ap (λ o. begins_item (sign_in aliases o)) (slice_get_past tokens m le)) ∙ h in cc)
      ]

  pub first_items : (aliases : Aliases) (m : ℕ) → Start tokens some_items (rule tokens some_items (items aliases) m) m
      → is_past tokens m ≡ false
  first_items aliases m h = begun_inside aliases m h

  pub good_items : (aliases : Aliases) (m : ℕ) → Good tokens some_items (items aliases) true (rule tokens some_items (items aliases) m) m
  good_items aliases m = (
    omega arith,
    λ xs n. (
      (λ h. tt),
      (λ h. (
        (λ h. h.0),
        (λ h. h),
        (λ e. (e, e)),
        (λ e. (tt, λ ys f. ((λ h. h), (λ h. h)))),
      )),
    ),
  )
