-- Attributes that the tokens of a text spell are sound.
use Rattle.std.proofs.Common.{ℕ, ◌+◌, ◌≡◌, ◌∙◌, refl, sym, subst, List, [], ◌∷◌, ◌++◌, Bool, Option, Some, None}
use Rattle.tsa_base.specs.Tokens.{Lexeme}
use Rattle.tsa_tree.specs.declared.attr.AttrKind.{AttrKind}
use Rattle.tsa_tree.specs.attributes.Syntax.{Attribute, taking, a_text, one_expression, expressions, a_try, negative, unquoted}
use Rattle.tsa_tree.specs.attributes.Spelling.{attribute_or, IsAttribute, of_text, of_one, of_expressions, of_try, IsEntry, of_known}
use Rattle.tsa_tree.specs.attributes.Spelling.{of_ignored, of_ignored_list, IsEntries, of_entry, of_entries, IsGroup, of_macro}
use Rattle.tsa_tree.specs.attributes.Spelling.{of_no_entries, of_list, IsAttributes, of_no_group, of_group}
use Rattle.tsa_tree.specs.expressions.Syntax.{Arguments, none, more}
use Rattle.tsa_tree.specs.tokens.Signs.{Aliases, identifier_at}
use Rattle.tsa_tree.specs.expressions.Spelling.{IsSeries, of_last, of_further}
use Rattle.tsa_tree.specs.expressions.Sound.{words_beside}
use Rattle.tsa_tree.specs.attributes.Sound.{SoundTaken, SoundAttribute, SoundAttributes}
use Rattle.tsa_tree.proofs.tokens.NamesAndNumbers.{AreTokensOfKinds}
use Rattle.tsa_tree.proofs.tokens.SignsRead.{text_at}
use Rattle.tsa_tree.proofs.expressions.ReadSound.{expression_sound, series_sound}
use Rattle.tsa_tree.proofs.attributes.Negatives.{of_negative, other_taking, excluded_sound}
use Rattle.tsa_grammar.specs.Reading.{all}

pub attributes_append : (aliases : Aliases) (xs ys : List Attribute) → SoundAttributes (words_beside aliases) xs
    → SoundAttributes (words_beside aliases) ys → SoundAttributes (words_beside aliases) (xs ++ ys)
attributes_append aliases [] ys h k = k
attributes_append aliases (x ∷ xs) ys h k = (h.0, attributes_append aliases xs ys h.1 k)

module _ (aliases : Aliases) (tokens : List Lexeme) (real : AreTokensOfKinds tokens) where
  several : {d : ℕ} {xs : Arguments} {a b : ℕ} → IsSeries tokens aliases all d xs a b → SoundTaken (words_beside aliases) expressions None None xs
  several (of_last h) = series_sound aliases tokens real (of_last h)
  several (of_further h e xs) = series_sound aliases tokens real (of_further h e xs)

  several_tried : {d : ℕ} {xs : Arguments} {a b : ℕ} (result : Bool) → IsSeries tokens aliases all d xs a b
      → SoundTaken (words_beside aliases) a_try None (Some result) xs
  several_tried result (of_last h) = series_sound aliases tokens real (of_last h)
  several_tried result (of_further h e xs) = series_sound aliases tokens real (of_further h e xs)

  listed_sound : (k : AttrKind) (xs : Arguments) (a b : ℕ) → taking k ≡ expressions → SoundTaken (words_beside aliases) expressions None None xs
      → (v : Option Arguments) → negative k xs ≡ v → SoundAttribute (words_beside aliases) (attribute_or tokens k xs v a b)
  listed_sound k xs a b t ok None e = (subst (λ t. SoundTaken (words_beside aliases) t None None xs) (sym t) ok, e)
  listed_sound k xs a b t ok (Some ys) e = (excluded_sound aliases xs ys (of_negative k xs ys e) ok, refl)

  attribute_sound : {d : ℕ} {k : AttrKind} {x : Attribute} {a b : ℕ} → IsAttribute tokens aliases all d k x a b → SoundAttribute (words_beside aliases) x
  attribute_sound (of_text {k = k} {a = a} t o f s c) = (
    subst (λ t. SoundTaken (words_beside aliases) t (Some (unquoted (identifier_at tokens (a + 1 + 1)).text)) None none) (sym t)
        (text_at aliases tokens real (a + 1 + 1) s),
    other_taking k none (λ h. let never : a_text ≡ expressions = sym t ∙ h in cc),
  )
  attribute_sound (of_one {k = k} {x = x} t o f h c) = (
    subst (λ t. SoundTaken (words_beside aliases) t None None (more x none)) (sym t) (expression_sound aliases tokens real h),
    other_taking k (more x none) (λ h. let never : one_expression ≡ expressions = sym t ∙ h in cc),
  )
  attribute_sound (of_expressions {k = k} {xs = xs} {a = a} {b = b} t o f h c) = listed_sound k xs a (b + 1) t (several h) (negative k xs) refl
  attribute_sound (of_try {k = k} {v = v} {xs = xs} t o f e m h c) = (
    subst (λ t. SoundTaken (words_beside aliases) t None (Some v) xs) (sym t) (several_tried v h),
    other_taking k xs (λ h. let never : a_try ≡ expressions = sym t ∙ h in cc),
  )

  entry_sound : {d : ℕ} {xs : List Attribute} {a b : ℕ} → IsEntry tokens aliases all d xs a b → SoundAttributes (words_beside aliases) xs
  entry_sound (of_known w m h) = (attribute_sound h, tt)
  entry_sound (of_ignored w m) = tt
  entry_sound (of_ignored_list w m o f h c) = tt

  entries_sound : {d : ℕ} {xs : List Attribute} {a b : ℕ} → IsEntries tokens aliases all d xs a b → SoundAttributes (words_beside aliases) xs
  entries_sound (of_entry h) = entry_sound h
  entries_sound (of_entries {xs = xs} {ys = ys} h e k) = attributes_append aliases xs ys (entry_sound h) (entries_sound k)

  group_sound : {d : ℕ} {xs : List Attribute} {a b : ℕ} → IsGroup tokens aliases all d xs a b → SoundAttributes (words_beside aliases) xs
  group_sound (of_macro m h) = (attribute_sound h, tt)
  group_sound (of_no_entries e o f p g c q) = tt
  group_sound (of_list e o f p g h c q) = entries_sound h

  pub attributes_sound : {d : ℕ} {xs : List Attribute} {a b : ℕ} → IsAttributes tokens aliases all d xs a b → SoundAttributes (words_beside aliases) xs
  attributes_sound of_no_group = tt
  attributes_sound (of_group {xs = xs} {ys = ys} h k) = attributes_append aliases xs ys (group_sound h) (attributes_sound k)
