-- What an attribute excludes that requires of each of its locks that it isn't held.
use Rattle.std.proofs.Common.{◌≡◌, ◌≢◌, ◌∙◌, ap, sym, subst, refl, true, Option, Some, None}
use Rattle.std.proofs.lemmas.Bool.{and_parts}
use Rattle.tsa_tree.specs.declared.attr.AttrKind.{AttrKind}
use Rattle.tsa_tree.specs.declared.attr.AttrKind.TheVariants as attr
use Rattle.tsa_tree.specs.declared.expr.UnaryOp.TheVariants as prefix_op
use Rattle.tsa_tree.specs.attributes.Sound.{SoundTaken}
use Rattle.tsa_tree.specs.attributes.Syntax.{taking, expressions, without_not, without_nots, one_more, negative}
use Rattle.tsa_tree.specs.expressions.Sound.{words_beside, is_sound, are_sound}
use Rattle.tsa_tree.specs.expressions.Syntax.{Expression, Arguments, unary, none, more}
use Rattle.tsa_tree.specs.tokens.Signs.{Aliases}

-- only a requirement excludes anything
pub of_negative : (k : AttrKind) (xs ys : Arguments) → negative k xs ≡ Some ys → without_nots xs ≡ Some ys
of_negative attr.Requires xs ys e = e
of_negative _ xs ys e = cc

-- nor does what takes no list
pub other_taking : (k : AttrKind) (xs : Arguments) → taking k ≢ expressions → negative k xs ≡ None
other_taking attr.Requires xs h = absurd (h refl)
other_taking _ xs h = refl

one_more_is : (u : Option Expression) (v : Option Arguments) (ys : Arguments) → one_more u v ≡ Some ys
    → (y : Expression) × (zs : Arguments) × (u ≡ Some y) × (v ≡ Some zs) × (more y zs ≡ ys)
one_more_is (Some y) (Some zs) ys e = (y, zs, refl, refl, cc)
one_more_is (Some y) None ys e = cc
one_more_is None v ys e = cc

module _ (aliases : Aliases) where
  not_sound : (x y : Expression) → without_not x ≡ Some y → is_sound (words_beside aliases) x ≡ true → is_sound (words_beside aliases) y ≡ true
  not_sound (unary prefix_op.Not inner span) y e ok = let same : inner ≡ y = cc in subst (λ y. is_sound (words_beside aliases) y ≡ true) same ok
  not_sound _ y e ok = cc

  nots_sound : (xs ys : Arguments) → without_nots xs ≡ Some ys → are_sound (words_beside aliases) xs ≡ true → are_sound (words_beside aliases) ys ≡ true
  nots_sound none ys e ok = let same : none ≡ ys = cc in subst (λ ys. are_sound (words_beside aliases) ys ≡ true) same refl
  nots_sound (more x xs) ys e ok =
      let parts = one_more_is (without_not x) (without_nots xs) ys e in
      let first = not_sound x parts.0 parts.2 (and_parts (is_sound (words_beside aliases) x) (are_sound (words_beside aliases) xs) ok).0 in
      let others = nots_sound xs parts.1 parts.3 (and_parts (is_sound (words_beside aliases) x) (are_sound (words_beside aliases) xs) ok).1 in
      subst (λ ys. are_sound (words_beside aliases) ys ≡ true) parts.4 (rw (first, others) refl)

  -- what is excluded is as sound as what stands there
  pub excluded_sound : (xs ys : Arguments) → without_nots xs ≡ Some ys → SoundTaken (words_beside aliases) expressions None None xs
      → SoundTaken (words_beside aliases) expressions None None ys
  excluded_sound none ys e ok = absurd ok
  excluded_sound (more x xs) ys e ok =
      let parts = one_more_is (without_not x) (without_nots xs) ys e in
      let sound = nots_sound (more x xs) (more parts.0 parts.1) (e ∙ ap Some (sym parts.4)) ok in
      subst (SoundTaken (words_beside aliases) expressions None None) parts.4 sound
