-- The rows of items spell them by the productions only.
use Rattle.std.proofs.Common.{ℕ, ◌+◌, ◌≡◌, sym, subst, refl, List, [], Bool, true, Some, None, inl, inr}
use Rattle.std.specs.declared.option.Option.{Option}
use Rattle.tsa_base.specs.Tokens.{Lexeme}
use Rattle.tsa_tree.specs.declared.sign.Keyword.TheVariants as key
use Rattle.tsa_tree.specs.declared.sign.Sign.{Sign}
use Rattle.tsa_tree.specs.declared.sign.Sign.TheVariants as sign
use Rattle.tsa_tree.specs.attributes.Syntax.{Attribute}
use Rattle.tsa_tree.specs.attributes.Spelling.{IsAttributes, of_no_group}
use Rattle.tsa_tree.specs.declarations.Syntax.{Base, structure, enumerated, Specified}
use Rattle.tsa_tree.specs.units.Syntax.{UnitItem}
use Rattle.tsa_tree.specs.declarations.Spelling.{IsBase, of_struct, of_enum, no_const, IsSpecifier, of_specifier}
use Rattle.tsa_tree.specs.expressions.Syntax.{Identifier}
use Rattle.tsa_tree.specs.declarations.ItemSpelling.{IsStorage, no_storage, IsTag, no_tag, of_tag, of_head, IsItem, of_structure}
use Rattle.tsa_tree.specs.declarations.ItemSpelling.{of_tag_alone, of_structure_alias, of_enumeration, of_enumeration_alias, of_alias_item}
use Rattle.tsa_tree.specs.declarations.ItemSpelling.{of_globals, of_function, of_body_item}
use Rattle.tsa_tree.specs.tokens.Signs.{Aliases, sign_at, identifier_at, is_tag}
use Rattle.tsa_tree.specs.Rows.{a_specifier, some_items, specifier, declared, item, behind_storage, declared_of, structure_end}
use Rattle.tsa_tree.specs.Rows.{structure_alias_end, enumeration_end, enumeration_alias_end, alias_end, alias_of, structure_row}
use Rattle.tsa_tree.specs.Rows.{enumeration_row, structure_alias_row, enumeration_alias_row, typedef_row, item_row, rule}
use Rattle.tsa_tree.proofs.tokens.ProductionSigns.{shows_name}
use Rattle.tsa_tree.proofs.declarations.Signs.{shows_semicolon}
use Rattle.tsa_tree.proofs.expressions.RowsToProductions.{production_of}
use Rattle.tsa_tree.proofs.declarations.ItemsKept.{keeps_behind_storage}
use Rattle.tsa_tree.proofs.declarations.Meanings.{Keeps, Means}
use Rattle.tsa_tree.proofs.declarations.RowSoundness.{keeps_behind_consts}
use Rattle.tsa_grammar.specs.Form.{done, part}

module _ (tokens : List Lexeme) (aliases : Aliases) (fits : ℕ → Bool) (bodies : Bool) where
  -- What an item has to be that begins at a.
  abbrev pub Items : (a : ℕ) → List UnitItem → ℕ → Type 0
  Items a xs b = IsItem tokens aliases fits bodies xs a b

  -- Storage words, a type and what it declares make an item.
  declared_item : (t : Specified) (xs : List UnitItem) (a m n b : ℕ) → IsStorage tokens aliases a m → IsSpecifier tokens aliases t m n
      → Means tokens fits some_items (declared aliases bodies t) xs n b → IsItem tokens aliases fits bodies xs a b
  declared_item t xs a m n b words type (inl h) =
      subst (λ b. IsItem tokens aliases fits bodies xs a b) (sym h.3)
      (subst (λ xs. IsItem tokens aliases fits bodies xs a (h.0 + 1)) (sym h.1.2) (of_globals words type h.1.1 h.2))
  declared_item t xs a m n b words type (inr (inl h)) =
      subst (λ b. IsItem tokens aliases fits bodies xs a b) (sym h.3)
      (subst (λ xs. IsItem tokens aliases fits bodies xs a (h.0 + 1)) (sym h.1.5) (of_function (of_head words type h.1.3 h.1.4) h.2))
  declared_item t xs a m n b words type (inr (inr h)) =
      subst (λ b. IsItem tokens aliases fits bodies xs a b) (sym h.3)
      (subst (λ xs. IsItem tokens aliases fits bodies xs a (h.0 + 1)) (sym h.1.10)
      (of_body_item h.1.11 (of_head words type h.1.4 h.1.6) h.1.7 h.1.8 h.1.9 h.2))

  keeps_declared_of : (a : ℕ) (base : Base) (m : ℕ) → IsBase tokens aliases base a m
      → Keeps tokens fits some_items (Items a) (declared_of tokens aliases bodies base m) m
  keeps_declared_of a base m i =
      keeps_behind_consts tokens aliases fits some_items (Items a) m
      (λ c n. part some_items (declared aliases bodies (record { base = base; is_const = c })) (λ xs e. done xs))
      (λ c n j. (tt, λ xs e h. declared_item _ xs a a n e no_storage (of_specifier no_const i j) h))

  -- A struct without an alias.
  keeps_structure_end : (a : ℕ) (xs : List Attribute) (m : ℕ) → sign_at tokens aliases a ≡ sign.Keyword key.Struct
      → IsAttributes tokens aliases fits 0 xs (a + 1) m → is_tag (sign_at tokens aliases m) ≡ true
      → Keeps tokens fits some_items (Items a) (structure_end tokens aliases a xs (Some (identifier_at tokens m))) (m + 1)
  keeps_structure_end a xs m q attributes tag =
      (tt, λ body n i semicolon. of_structure q attributes tag i (shows_semicolon tokens aliases n semicolon))

  keeps_structure : (a : ℕ) → sign_at tokens aliases a ≡ sign.Keyword key.Struct
      → Keeps tokens fits some_items (Items a) (structure_row tokens aliases bodies a) (a + 1)
  keeps_structure a q = (
    (tt, λ xs n sp tag. keeps_structure_end a xs n q (production_of tokens fits sp tt) tag),
    (λ tag. (
      keeps_structure_end a [] (a + 1) q of_no_group tag,
      (
        (λ semicolon. of_tag_alone q tag (shows_semicolon tokens aliases (a + 1 + 1) semicolon)),
        keeps_declared_of a (structure (identifier_at tokens (a + 1))) (a + 1 + 1) (of_struct q tag),
      ),
    )),
  )

  -- An enum without an alias.
  keeps_enumeration_end : (a : ℕ) (tag : Option Identifier) (m : ℕ) → sign_at tokens aliases a ≡ sign.Keyword key.Enum
      → IsTag tokens aliases tag (a + 1) m → Keeps tokens fits some_items (Items a) (enumeration_end tokens aliases a tag) m
  keeps_enumeration_end a tag m q i = (tt, λ xs n body semicolon. of_enumeration q i body (shows_semicolon tokens aliases n semicolon))

  keeps_enumeration : (a : ℕ) → sign_at tokens aliases a ≡ sign.Keyword key.Enum
      → Keeps tokens fits some_items (Items a) (enumeration_row tokens aliases bodies a) (a + 1)
  keeps_enumeration a q = (
    keeps_enumeration_end a None (a + 1) q no_tag,
    (λ tag. (
      keeps_enumeration_end a _ (a + 1 + 1) q (of_tag tag),
      keeps_declared_of a (enumerated (identifier_at tokens (a + 1))) (a + 1 + 1) (of_enum q tag),
    )),
  )

  module _ (a : ℕ) (typedef : sign_at tokens aliases a ≡ sign.Keyword key.Typedef) where
    -- An alias of a type without a body.
    keeps_alias_end : (t : Specified) (m : ℕ) → IsSpecifier tokens aliases t (a + 1) m
        → Keeps tokens fits some_items (Items a) (alias_end tokens aliases t m) m
    keeps_alias_end t m type = (tt, λ c n i semicolon. of_alias_item typedef type i (shows_semicolon tokens aliases n semicolon))

    keeps_alias_of : (base : Base) (m : ℕ) → IsBase tokens aliases base (a + 1) m
        → Keeps tokens fits some_items (Items a) (alias_of tokens aliases base m) m
    keeps_alias_of base m i =
        keeps_behind_consts tokens aliases fits some_items (Items a) m
        (λ c n. alias_end tokens aliases (record { base = base; is_const = c }) n)
        (λ c n j. keeps_alias_end (record { base = base; is_const = c }) n (of_specifier no_const i j))

    -- A struct with an alias.
    keeps_structure_alias_end : (xs : List Attribute) (tag : Option Identifier) (m n : ℕ)
        → sign_at tokens aliases (a + 1) ≡ sign.Keyword key.Struct → IsAttributes tokens aliases fits 0 xs (a + 1 + 1) m
        → IsTag tokens aliases tag m n → Keeps tokens fits some_items (Items a) (structure_alias_end tokens aliases a xs tag) n
    keeps_structure_alias_end xs tag m n q attributes i = (
      tt,
      λ body e j name semicolon. of_structure_alias typedef q attributes i j (shows_name tokens aliases e name)
          (shows_semicolon tokens aliases (e + 1) semicolon),
    )

    keeps_structure_alias : sign_at tokens aliases (a + 1) ≡ sign.Keyword key.Struct
        → Keeps tokens fits some_items (Items a) (structure_alias_row tokens aliases a) (a + 1 + 1)
    keeps_structure_alias q = (
      (
        tt,
        λ xs n sp.
            let attributes = production_of tokens fits sp tt in (
              keeps_structure_alias_end xs None n n q attributes no_tag,
              (λ tag. keeps_structure_alias_end xs _ n (n + 1) q attributes (of_tag tag)),
            ),
      ),
      (
        keeps_structure_alias_end [] None (a + 1 + 1) (a + 1 + 1) q of_no_group no_tag,
        (λ tag. (
          keeps_structure_alias_end [] _ (a + 1 + 1) (a + 1 + 1 + 1) q of_no_group (of_tag tag),
          keeps_alias_of (structure (identifier_at tokens (a + 1 + 1))) (a + 1 + 1 + 1) (of_struct q tag),
        )),
      ),
    )

    -- An enum with an alias.
    keeps_enumeration_alias_end : (tag : Option Identifier) (m : ℕ) → sign_at tokens aliases (a + 1) ≡ sign.Keyword key.Enum
        → IsTag tokens aliases tag (a + 1 + 1) m → Keeps tokens fits some_items (Items a) (enumeration_alias_end tokens aliases a tag) m
    keeps_enumeration_alias_end tag m q i = (
      tt,
      λ xs n body name semicolon. of_enumeration_alias typedef q i body (shows_name tokens aliases n name)
          (shows_semicolon tokens aliases (n + 1) semicolon),
    )

    keeps_enumeration_alias : sign_at tokens aliases (a + 1) ≡ sign.Keyword key.Enum
        → Keeps tokens fits some_items (Items a) (enumeration_alias_row tokens aliases a) (a + 1 + 1)
    keeps_enumeration_alias q = (
      keeps_enumeration_alias_end None (a + 1 + 1) q no_tag,
      (λ tag. (
        keeps_enumeration_alias_end _ (a + 1 + 1 + 1) q (of_tag tag),
        keeps_alias_of (enumerated (identifier_at tokens (a + 1 + 1))) (a + 1 + 1 + 1) (of_enum q tag),
      )),
    )

    keeps_typedef : (s : Sign) → sign_at tokens aliases (a + 1) ≡ s
        → Keeps tokens fits some_items (Items a) (typedef_row tokens aliases a s) (a + 1)
    keeps_typedef (sign.Keyword key.Struct) q = λ seen. keeps_structure_alias q
    keeps_typedef (sign.Keyword key.Enum) q = λ seen. keeps_enumeration_alias q
    keeps_typedef _ q = (tt, λ t n i. keeps_alias_end t n i)

  -- Globals or a function, with storage words before their type or without.
  keeps_plain_item : (a : ℕ) → Keeps tokens fits some_items (Items a)
      (behind_storage tokens aliases a (part a_specifier (specifier aliases) (λ t n. part some_items (declared aliases bodies t) (λ xs e. done xs)))) a
  keeps_plain_item a =
      keeps_behind_storage tokens aliases fits some_items (Items a) a
      (part a_specifier (specifier aliases) (λ t n. part some_items (declared aliases bodies t) (λ xs e. done xs)))
      (λ m words. (tt, λ t n i. (tt, λ xs e h. declared_item t xs a m n e words i h)))

  keeps_item_row : (a : ℕ) (s : Sign) → sign_at tokens aliases a ≡ s → Keeps tokens fits some_items (Items a) (item_row tokens aliases bodies a s) a
  keeps_item_row a (sign.Keyword key.Struct) q = λ seen. keeps_structure a q
  keeps_item_row a (sign.Keyword key.Enum) q = λ seen. keeps_enumeration a q
  keeps_item_row a (sign.Keyword key.Typedef) q = λ seen. keeps_typedef a q (sign_at tokens aliases (a + 1)) refl
  keeps_item_row a _ q = keeps_plain_item a

  pub keeps_item : (a : ℕ) → Keeps tokens fits some_items (Items a) (rule tokens some_items (item aliases bodies) a) a
  keeps_item a = keeps_item_row a (sign_at tokens aliases a) refl
