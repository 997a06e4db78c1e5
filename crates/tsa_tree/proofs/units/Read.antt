-- What the tokens of a text spell as a unit is sound.
use Rattle.std.proofs.Common.{ℕ, ◌≡◌, sym, subst, refl, List, [], ◌∷◌, ◌++◌, Bool, Ok, map}
use Rattle.std.proofs.lemmas.List.{append_assoc, append-nil}
use Rattle.tsa_base.specs.Tokens.{Lexeme, tokens_of}
use Rattle.tsa_tree.specs.declarations.Syntax.{Declaration}
use Rattle.tsa_tree.specs.declarations.ItemSpelling.{of_struct_body, IsItem, of_structure, of_tag_alone, of_structure_alias, of_enumeration}
use Rattle.tsa_tree.specs.declarations.ItemSpelling.{of_enumeration_alias, of_alias_item, of_globals, of_function, of_body_item}
use Rattle.tsa_tree.specs.tokens.Signs.{Aliases, identifier_at}
use Rattle.tsa_tree.specs.units.Syntax.{UnitItem, global_item, names_of_item, names_of}
use Rattle.tsa_tree.specs.units.Answers.{Spells}
use Rattle.tsa_tree.specs.units.Shapes.{item_shapes}
use Rattle.tsa_tree.specs.expressions.Sound.{words_beside}
use Rattle.tsa_tree.specs.units.SoundLaw.{WellReadIsSound}
use Rattle.tsa_tree.specs.units.Spelling.{IsItems, no_items, of_items}
use Rattle.tsa_tree.specs.units.Sound.{SoundItems}
use Rattle.tsa_tree.proofs.tokens.NamesAndNumbers.{AreTokensOfKinds, tokens_of_kinds, name_at}
use Rattle.tsa_tree.proofs.tokens.SignsRead.{tag_at}
use Rattle.tsa_tree.proofs.attributes.Read.{attributes_append, attributes_sound}
use Rattle.tsa_tree.proofs.declarations.HeadsRead.{head_sound, tag_sound, tags_sound, constants_sound}
use Rattle.tsa_tree.proofs.declarations.Read.{SoundGlobals, specifier_sound, declarator_sound, globals_sound, members_sound}
use Rattle.tsa_tree.proofs.statements.Read.{statements_sound}
use Rattle.tsa_grammar.specs.Reading.{all}

-- items before others are sound where the others are with their names
items_append : (aliases : Aliases) (xs ys : List UnitItem) → SoundItems aliases xs → SoundItems (aliases ++ names_of xs) ys → SoundItems aliases (xs ++ ys)
items_append aliases [] ys h k = subst (λ names. SoundItems names ys) (append-nil aliases) k
items_append aliases (x ∷ xs) ys h k = (
  h.0,
  items_append (aliases ++ names_of_item x) xs ys h.1
      (subst (λ names. SoundItems names ys) (sym (append_assoc aliases (names_of_item x) (names_of xs))) k),
)

-- globals give no names of types
globals_as_items : (aliases : Aliases) (xs : List Declaration) → SoundGlobals (words_beside aliases) xs → SoundItems aliases (map global_item xs)
globals_as_items aliases [] h = tt
globals_as_items aliases (x ∷ xs) h =
    (h.0, subst (λ names. SoundItems names (map global_item xs)) (sym (append-nil aliases)) (globals_as_items aliases xs h.1))

module _ (tokens : List Lexeme) (real : AreTokensOfKinds tokens) where
  item_sound : {aliases : Aliases} {bodies : Bool} {xs : List UnitItem} {a b : ℕ} → IsItem tokens aliases all bodies xs a b → SoundItems aliases xs
  item_sound {aliases = aliases} (of_structure {xs = xs} {m = m} e h t (of_struct_body {xs = ys} o f ms c k) s) = (
    (
      (tag_at aliases tokens real m t, tt),
      attributes_append aliases xs ys (attributes_sound aliases tokens real h) (attributes_sound aliases tokens real k),
      members_sound aliases tokens real ms,
    ),
    tt,
  )
  item_sound (of_tag_alone e t s) = tt
  item_sound {aliases = aliases} (of_structure_alias {xs = xs} {e = i} e g h t (of_struct_body {xs = ys} o f ms c k) n s) = (
    (
      tags_sound aliases tokens real (identifier_at tokens i) t (name_at aliases tokens real i n),
      attributes_append aliases xs ys (attributes_sound aliases tokens real h) (attributes_sound aliases tokens real k),
      members_sound aliases tokens real ms,
    ),
    tt,
  )
  item_sound {aliases = aliases} (of_enumeration e t h s) = ((tag_sound aliases tokens real t, tt, constants_sound aliases tokens real h), tt)
  item_sound {aliases = aliases} (of_enumeration_alias {n = i} e g t h n s) =
      ((tag_sound aliases tokens real t, name_at aliases tokens real i n, constants_sound aliases tokens real h), tt)
  item_sound {aliases = aliases} (of_alias_item e t c s) =
      let told = declarator_sound aliases tokens real c in
      (((specifier_sound aliases tokens real t, told.0), refl, told.1), tt)
  item_sound {aliases = aliases} (of_globals {xs = xs} w t h s) =
      globals_as_items aliases xs (globals_sound aliases tokens real (specifier_sound aliases tokens real t) h)
  item_sound {aliases = aliases} (of_function h s) = (head_sound aliases tokens real h, tt)
  item_sound {aliases = aliases} (of_body_item w h o f xs c) = ((head_sound aliases tokens real h, statements_sound aliases tokens real xs), tt)

  items_sound : {aliases : Aliases} {xs : List UnitItem} {a b : ℕ} → IsItems tokens all aliases xs a b → SoundItems aliases xs
  items_sound no_items = tt
  items_sound {aliases = aliases} (of_items {xs = xs} {ys = ys} h k) = items_append aliases xs ys (item_sound h) (items_sound k)

-- a unit that the tokens of a text spell is sound
pub unit_sound : (text : List ℕ) (tokens : List Lexeme) (items : List UnitItem) → tokens_of text ≡ Ok tokens → Spells tokens all items → SoundItems [] items
unit_sound text tokens items e h = items_sound tokens (tokens_of_kinds text tokens e) h

pub well_read_sound : WellReadIsSound
well_read_sound items well = unit_sound well.of_text.text well.tokens (item_shapes items) well.of_text.lexed well.spelled
