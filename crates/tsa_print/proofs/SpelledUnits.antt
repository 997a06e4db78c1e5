-- The tokens of a unit's pieces spell it up to spans.
use Rattle.std.proofs.Common.{ℕ, ◌≡◌, ◌∙◌, ap, subst, sym, refl, List, [], ◌∷◌, ◌++◌, map, Some, None, length}
use Rattle.std.proofs.lemmas.List.{append-nil}
use Rattle.tsa_base.specs.Tokens.{Lexeme}
use Rattle.tsa_tree.specs.units.Plain.{plain_item}
use Rattle.tsa_tree.specs.tokens.Signs.{Aliases}
use Rattle.tsa_tree.specs.units.Answers.{Spells}
use Rattle.tsa_tree.specs.units.Syntax.{UnitItem, structure_item, alias_item, enumeration_item, global_item, function_item, body_item}
use Rattle.tsa_tree.specs.units.Syntax.{names_of_item, names_of}
use Rattle.tsa_tree.specs.units.Spelling.{IsItems, no_items, of_items}
use Rattle.tsa_tree.specs.units.Sound.{SoundItems}
use Rattle.tsa_grammar.specs.Reading.{all}
use Rattle.tsa_print.specs.UnitPieces.{item_pieces, unit_pieces}
use Rattle.tsa_print.proofs.Apart.{AreTokens}
use Rattle.tsa_print.proofs.Runs.{Run, run_split, whole_run}
use Rattle.tsa_print.proofs.SpelledItems.{item_spelled}

plain_names : (x : UnitItem) → names_of_item (plain_item x) ≡ names_of_item x
plain_names (structure_item tag None attrs members s) = refl
plain_names (structure_item tag (Some name) attrs members s) = refl
plain_names (alias_item name t s) = refl
plain_names (enumeration_item tag None values s) = refl
plain_names (enumeration_item tag (Some name) values s) = refl
plain_names (global_item x) = refl
plain_names (function_item x) = refl
plain_names (body_item x xs s) = refl

-- items that are equal but for spans give the same names of types
same_names : (u x : UnitItem) → plain_item u ≡ plain_item x → names_of_item x ≡ names_of (u ∷ [])
same_names u x e = sym (append-nil (names_of_item u) ∙ (sym (plain_names u) ∙ (ap names_of_item e ∙ plain_names x)))

module _ (ts : List Lexeme) where
  abbrev ItemsRead : Aliases → List UnitItem → (a b : ℕ) → Type 0
  ItemsRead aliases xs a b = (us : List UnitItem) × IsItems ts all aliases us a b × (map plain_item us ≡ map plain_item xs)

  items_spelled : (aliases : Aliases) (xs : List UnitItem) (a b : ℕ) → SoundItems aliases xs → Run ts a (unit_pieces xs) b → ItemsRead aliases xs a b
  items_spelled aliases [] a b ok h = subst (ItemsRead aliases [] a) h ([], no_items, refl)
  items_spelled aliases (x ∷ xs) a b ok h =
      let two = run_split ts a b (item_pieces x) (unit_pieces xs) h in
      let u = item_spelled aliases ts x a two.0 ok.0 two.1 in
      let us = items_spelled (aliases ++ names_of_item x) xs two.0 b ok.1 two.2 in
      let is = subst (λ names. IsItems ts all (aliases ++ names) us.0 two.0 b) (same_names u.0 x u.2) us.1 in (
        u.0 ∷ us.0,
        of_items u.1 is,
        ap (λ y. y ∷ map plain_item us.0) u.2 ∙ ap (λ ys. plain_item x ∷ ys) us.2,
      )

pub unit_spelled : (items : List UnitItem) (ts : List Lexeme) → AreTokens (unit_pieces items) ts → SoundItems [] items →
    (us : List UnitItem) × Spells ts all us × (map plain_item us ≡ map plain_item items)
unit_spelled items ts are ok = items_spelled ts [] items 0 (length ts) ok (whole_run (unit_pieces items) ts are)
