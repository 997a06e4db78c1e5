-- A name that an item gives to a type is none of those that are known where the item stands.
use Rattle.std.proofs.Common.{ℕ, ◌≡◌, ◌∙◌, ap, sym, subst, refl, Bool, true, false, not, if◌then◌else◌, List, [], ◌∷◌, ◌++◌, map, Option}
use Rattle.std.proofs.Common.{Some, None, Ok, nat_eq, slice_get}
use Rattle.std.proofs.lemmas.Bool.{and_parts}
use Rattle.std.specs.List.{list_all, list_any}
use Rattle.std.specs.Str.{bytes_eq}
use Rattle.tsa_base.specs.Tokens.{Lexeme}
use Rattle.tsa_base.specs.Words.{is_reserved}
use Rattle.tsa_base.specs.declared.token.TokenKind.{TokenKind}
use Rattle.tsa_base.specs.declared.token.TokenKind.TheVariants.{Word, Number, Text, Punct}
use Rattle.tsa_grammar.specs.Exact as forms
use Rattle.tsa_tree.specs.declared.sign.Sign.{Sign}
use Rattle.tsa_tree.specs.declared.sign.Sign.TheVariants as sign
use Rattle.tsa_tree.specs.expressions.Answers.{below_limit}
use Rattle.tsa_tree.specs.declarations.Syntax.{Declaration}
use Rattle.tsa_tree.specs.declarations.Spelling.{of_declarator}
use Rattle.tsa_tree.specs.declarations.ItemSpelling.{IsItem, of_structure, of_tag_alone, of_structure_alias, of_enumeration}
use Rattle.tsa_tree.specs.declarations.ItemSpelling.{of_enumeration_alias, of_alias_item, of_globals, of_function, of_body_item}
use Rattle.tsa_tree.specs.Reads.{read}
use Rattle.tsa_tree.specs.Rows.{some_items, item, mark, sees, rule}
use Rattle.tsa_tree.specs.tokens.Signs.{Aliases, sign_at, sign_in, sign_of, sign_or, identifier_at, identifier_in, listed, word_signs}
use Rattle.tsa_tree.specs.tokens.Signs.{punctuator_signs, word_sign, punctuator_sign}
use Rattle.tsa_tree.specs.units.Syntax.{UnitItem, names_of, global_item}
use Rattle.tsa_tree.proofs.RowsRead.{read_exact}
use Rattle.tsa_tree.proofs.declarations.RowsToProductions.{declaration_of}
use Rattle.tsa_attr.proofs.Joining.{append-nil}
use Rattle.tsa_unit.specs.Names.{with_names}

abbrev is_name : Sign → Bool
is_name s = nat_eq (mark s) 3

-- none of the rows makes a text a name
abbrev are_no_names : List (List ℕ × Sign) → Bool
are_no_names rows = list_all (λ row. not (is_name row.1)) rows

words_are_no_names : are_no_names word_signs ≡ true
unfolding word_signs
words_are_no_names = refl

punctuators_are_no_names : are_no_names punctuator_signs ≡ true
unfolding punctuator_signs
punctuators_are_no_names = refl

no_name : (rows : List (List ℕ × Sign)) (text : List ℕ) → are_no_names rows ≡ true → listed rows text ≡ Some sign.Name → ⊥
no_name [] text h e = cc
no_name (row ∷ rows) text h e =
    let parts = and_parts (not (is_name row.1)) (are_no_names rows) h in
    go (bytes_eq text row.0) parts.0 e (no_name rows text parts.1)
  where
    go : (b : Bool) → not (is_name row.1) ≡ true → (if b then Some row.1 else listed rows text) ≡ Some sign.Name
        → (listed rows text ≡ Some sign.Name → ⊥) → ⊥
    go true r e k =
        let is : row.1 ≡ sign.Name = cc in
        let never : not (is_name row.1) ≡ false = ap (λ s. not (is_name s)) is in
        let both : true ≡ false = sym r ∙ never in absurd cc
    go false r e k = k e

word_by : (reserved known : Bool) (o : Option Sign) → (o ≡ Some sign.Name → ⊥)
    → sign_or (if reserved then sign.Other else (if known then sign.TypeName else sign.Name)) o ≡ sign.Name → known ≡ false
word_by true known None h e = cc
word_by false true None h e = cc
word_by false false None h e = refl
word_by reserved known (Some s) h e = absurd (h (ap Some e))

punctuator_by : (o : Option Sign) → (o ≡ Some sign.Name → ⊥) → sign_or sign.Other o ≡ sign.Name → ⊥
punctuator_by None h e = cc
punctuator_by (Some s) h e = h (ap Some e)

-- a name is not the name of a type
unknown : (aliases : Aliases) (kind : TokenKind) (text : List ℕ) → sign_of aliases kind text ≡ sign.Name
    → list_any (bytes_eq text) aliases ≡ false
unfolding sign_of word_sign punctuator_sign
unknown aliases Word text e =
    word_by (is_reserved text) (list_any (bytes_eq text) aliases) (listed word_signs text) (no_name word_signs text words_are_no_names) e
unknown aliases (Number value unsigned) text e = cc
unknown aliases Text text e = cc
unknown aliases Punct text e =
    absurd (punctuator_by (listed punctuator_signs text) (no_name punctuator_signs text punctuators_are_no_names) e)

unknown_in : (aliases : Aliases) (o : Option Lexeme) → sign_in aliases o ≡ sign.Name
    → list_any (bytes_eq (identifier_in o).text) aliases ≡ false
unknown_in aliases None e = cc
unknown_in aliases (Some token) e = unknown aliases token.kind token.text e

module _ (tokens : List Lexeme) (aliases : Aliases) where
  new_name : (m : ℕ) → sign_at tokens aliases m ≡ sign.Name
      → with_names aliases ((identifier_at tokens m).text ∷ []) ≡ aliases ++ (identifier_at tokens m).text ∷ []
  unfolding sign_at identifier_at
  new_name m e =
      ap (λ b. if b then aliases else aliases ++ (identifier_in (slice_get tokens m)).text ∷ [])
      (unknown_in aliases (slice_get tokens m) e)

  no_globals : (xs : List Declaration) → names_of (map global_item xs) ≡ []
  no_globals [] = refl
  no_globals (x ∷ xs) = no_globals xs

  none_new : (names : Aliases) → names ≡ [] → with_names aliases names ≡ aliases ++ names
  none_new names e = ap (with_names aliases) e ∙ sym (append-nil aliases) ∙ ap (λ ns. aliases ++ ns) (sym e)

  -- the names of types that an item gives are new ones
  new_names : {fits : ℕ → Bool} {bodies : Bool} {xs : List UnitItem} {a b : ℕ} → IsItem tokens aliases fits bodies xs a b
      → with_names aliases (names_of xs) ≡ aliases ++ names_of xs
  new_names (of_structure k xs t body s) = none_new [] refl
  new_names (of_tag_alone k t s) = none_new [] refl
  new_names (of_structure_alias {e = e} k s xs t body n c) = new_name e n
  new_names (of_enumeration k t body s) = none_new [] refl
  new_names (of_enumeration_alias {n = n} k s t body e c) = new_name n e
  new_names (of_alias_item k t (of_declarator {m = m} star n) s) = new_name m n
  new_names (of_globals {xs = xs} w t ds s) = none_new (names_of (map global_item xs)) (no_globals xs)
  new_names (of_function h s) = none_new [] refl
  new_names (of_body_item w h o f body c) = none_new [] refl

  pub names_of_read : (xs : List UnitItem) (m n : ℕ) → read tokens some_items (item aliases true) m ≡ Ok (xs, n)
      → with_names aliases (names_of xs) ≡ aliases ++ names_of xs
  names_of_read xs m n h =
      new_names (declaration_of tokens below_limit
      (subst (forms.Exact (rule tokens) (sees tokens) below_limit some_items (item aliases true) m) h
      (read_exact tokens some_items (item aliases true) m)).spelled)
