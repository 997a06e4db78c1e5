-- The rows of items meet what their reader needs: each item is told by its first tokens.
use Rattle.std.proofs.Common.{ℕ, ◌+◌, ◌≡◌, List, [], Bool, true, false, Option, Some, None, arith, ◌⊎◌, inl, inr}
use Rattle.tsa_base.specs.Tokens.{Lexeme}
use Rattle.tsa_tree.specs.declared.sign.Keyword.TheVariants as key
use Rattle.tsa_tree.specs.declared.sign.Sign.{Sign}
use Rattle.tsa_tree.specs.declared.sign.Sign.TheVariants as sign
use Rattle.tsa_tree.specs.attributes.Syntax.{Attribute}
use Rattle.tsa_tree.specs.declarations.Syntax.{Base, structure, enumerated, Specified}
use Rattle.tsa_tree.specs.expressions.Syntax.{Identifier}
use Rattle.tsa_tree.specs.tokens.Signs.{Aliases, sign_at, identifier_at, is_tag}
use Rattle.tsa_tree.specs.Rows.{a_specifier, some_items, specifier, declared, item, an_open_brace, a_semicolon, sees, is_keyword, Row}
use Rattle.tsa_tree.specs.Rows.{declared_of, structure_end, structure_alias_end, enumeration_end, enumeration_alias_end, alias_end}
use Rattle.tsa_tree.specs.Rows.{alias_of, structure_row, enumeration_row, tagged_alias, structure_alias_row, enumeration_alias_row}
use Rattle.tsa_tree.specs.Rows.{typedef_row, item_row, rule}
use Rattle.tsa_tree.proofs.RowFacts.{begins_declarator, Ends, Next, Good, Settled, Bare}
use Rattle.tsa_tree.proofs.declarations.Facts.{declarator_no_keyword, plain_no_attribute, name_no_attribute, semicolon_plain}
use Rattle.tsa_tree.proofs.declarations.Facts.{declarator_no_brace, keyword_no_brace, declarator_no_semicolon, keyword_no_semicolon}
use Rattle.tsa_tree.proofs.declarations.Facts.{tag_no_brace, tag_no_attribute, brace_no_attribute, semicolon_no_open_brace}
use Rattle.tsa_tree.proofs.declarations.Meet.{settled_declarator, good_behind_consts}
use Rattle.tsa_tree.proofs.declarations.ItemsMeet.{good_behind_storage}
use Rattle.tsa_grammar.specs.Form.{done, part}

module _ (tokens : List Lexeme) (aliases : Aliases) (bodies : Bool) (m : ℕ) where
  abbrev GoodItem : (fresh : Bool) → Row some_items → ℕ → Type 0
  GoodItem fresh f n = Good tokens some_items (item aliases bodies) fresh f n

  abbrev NextItem : Row some_items → ℕ → Type 0
  NextItem f n = Next tokens some_items (Ends tokens some_items (item aliases bodies)) f n

  -- after a struct's body, no attribute stands before its end
  good_structure_end : (xs : List Attribute) (tag : Option Identifier) (n : ℕ) → GoodItem false (structure_end tokens aliases m xs tag) n
  good_structure_end xs tag n =
      (tt, λ body e. ((λ h. plain_no_attribute (sign_at tokens aliases e) (semicolon_plain (sign_at tokens aliases e) h)), (λ h q. tt)))

  good_structure_alias_end : (xs : List Attribute) (tag : Option Identifier) (n : ℕ)
      → GoodItem false (structure_alias_end tokens aliases m xs tag) n
  good_structure_alias_end xs tag n = (tt, λ body e. ((λ h. name_no_attribute (sign_at tokens aliases e) h), (λ h q q'. tt)))

  good_enumeration_end : (tag : Option Identifier) (n : ℕ) → GoodItem false (enumeration_end tokens aliases m tag) n
  good_enumeration_end tag n = (tt, λ xs e. ((λ h. tt), (λ h q. tt)))

  good_enumeration_alias_end : (tag : Option Identifier) (n : ℕ) → GoodItem false (enumeration_alias_end tokens aliases m tag) n
  good_enumeration_alias_end tag n = (tt, λ xs e. ((λ h. tt), (λ h q q'. tt)))

  good_alias_end : (t : Specified) (n : ℕ) → GoodItem false (alias_end tokens aliases t n) n
  good_alias_end t n = (tt, λ c e. ((λ h. tt), (λ h q. tt)))

  -- a type that is told by its tag goes on with `const` or a declarator
  good_declared_of : (base : Base) (n : ℕ) → GoodItem false (declared_of tokens aliases bodies base n) n
  good_declared_of base n =
      good_behind_consts tokens (item aliases bodies) aliases n
      (λ c e. part some_items (declared aliases bodies (record { base = base; is_const = c })) (λ xs f. done xs))
      (λ h. declarator_no_keyword key.Const (sign_at tokens aliases n) h) (λ e h. settled_declarator tokens aliases e h)
      (λ e h. (tt, λ xs f. ((λ h. tt), (λ h. tt)))) (λ h. (tt, λ xs f. ((λ h. tt), (λ h. tt))))

  good_alias_of : (base : Base) (n : ℕ) → GoodItem false (alias_of tokens aliases base n) n
  good_alias_of base n =
      good_behind_consts tokens (item aliases bodies) aliases n (λ c e. alias_end tokens aliases (record { base = base; is_const = c }) e)
      (λ h. declarator_no_keyword key.Const (sign_at tokens aliases n) h) (λ e h. settled_declarator tokens aliases e h)
      (λ e h. good_alias_end (record { base = base; is_const = true }) e) (λ h. good_alias_end (record { base = base; is_const = false }) n)

  -- `const` or a declarator
  abbrev Typed : ℕ → Type 0
  Typed n = (is_keyword key.Const (sign_at tokens aliases n) ≡ true) ⊎ (begins_declarator (sign_at tokens aliases n) ≡ true)

  typed_no_brace : (n : ℕ) → Typed n → sees tokens (an_open_brace aliases) n ≡ false
  typed_no_brace n (inl h) = keyword_no_brace key.Const (sign_at tokens aliases n) h
  typed_no_brace n (inr h) = declarator_no_brace (sign_at tokens aliases n) h

  typed_no_semicolon : (n : ℕ) → Typed n → sees tokens (a_semicolon aliases) n ≡ false
  typed_no_semicolon n (inl h) = keyword_no_semicolon key.Const (sign_at tokens aliases n) h
  typed_no_semicolon n (inr h) = declarator_no_semicolon (sign_at tokens aliases n) h

  alone_no_brace : (n : ℕ) → (sees tokens (a_semicolon aliases) n ≡ true) ⊎ Typed n → sees tokens (an_open_brace aliases) n ≡ false
  alone_no_brace n (inl h) = semicolon_no_open_brace (sign_at tokens aliases n) h
  alone_no_brace n (inr h) = typed_no_brace n h

  good_structure : GoodItem false (structure_row tokens aliases bodies m) (m + 1)
  good_structure = (
    (λ h. h),
    (λ h. tag_no_attribute (sign_at tokens aliases (m + 1)) h),
    (λ e. (
      tt,
      λ xs n. (
        (λ h. tag_no_attribute (sign_at tokens aliases n) h),
        (λ h q. good_structure_end xs (Some (identifier_at tokens n)) (n + 1)),
      ),
    )),
    (λ e q. (
      (λ h. h),
      (λ h. alone_no_brace (m + 1 + 1) h),
      (λ p. good_structure_end [] (Some (identifier_at tokens (m + 1))) (m + 1 + 1)),
      (λ p. (
        (λ h. h),
        (λ h. typed_no_semicolon (m + 1 + 1) h),
        (λ p q. tt),
        (λ p. good_declared_of (structure (identifier_at tokens (m + 1))) (m + 1 + 1)),
      )),
    )),
  )

  good_enumeration : GoodItem false (enumeration_row tokens aliases bodies m) (m + 1)
  good_enumeration = (
    (λ h. h),
    (λ h. tag_no_brace (sign_at tokens aliases (m + 1)) h),
    (λ e. good_enumeration_end None (m + 1)),
    (λ e q. (
      (λ h. h),
      (λ h. typed_no_brace (m + 1 + 1) h),
      (λ p. good_enumeration_end (Some (identifier_at tokens (m + 1))) (m + 1 + 1)),
      (λ p. good_declared_of (enumerated (identifier_at tokens (m + 1))) (m + 1 + 1)),
    )),
  )

  -- a body or a tag begins with no attribute
  tagged_bare : (n : ℕ) → (sees tokens (an_open_brace aliases) n ≡ true) ⊎ (is_tag (sign_at tokens aliases n) ≡ true) → Bare tokens aliases n
  tagged_bare n (inl h) = brace_no_attribute (sign_at tokens aliases n) h
  tagged_bare n (inr h) = tag_no_attribute (sign_at tokens aliases n) h

  good_tagged : (xs : List Attribute) (n : ℕ) → GoodItem false (tagged_alias tokens aliases m xs n) n
  good_tagged xs n = (
    (λ h. h),
    (λ h. tag_no_brace (sign_at tokens aliases n) h),
    (λ e. good_structure_alias_end xs None n),
    (λ e q. good_structure_alias_end xs (Some (identifier_at tokens n)) (n + 1)),
  )

  good_structure_alias : GoodItem false (structure_alias_row tokens aliases m) (m + 1 + 1)
  good_structure_alias = (
    (λ h. h),
    (λ h. tagged_bare (m + 1 + 1) h),
    (λ e. (tt, λ xs n. ((λ h. tagged_bare n h), (λ h. good_tagged xs n)))),
    (λ e. (
      (λ h. h),
      (λ h. tag_no_brace (sign_at tokens aliases (m + 1 + 1)) h),
      (λ p. good_structure_alias_end [] None (m + 1 + 1)),
      (λ p q. (
        (λ h. h),
        (λ h. typed_no_brace (m + 1 + 1 + 1) h),
        (λ p. good_structure_alias_end [] (Some (identifier_at tokens (m + 1 + 1))) (m + 1 + 1 + 1)),
        (λ p. good_alias_of (structure (identifier_at tokens (m + 1 + 1))) (m + 1 + 1 + 1)),
      )),
    )),
  )

  good_enumeration_alias : GoodItem false (enumeration_alias_row tokens aliases m) (m + 1 + 1)
  good_enumeration_alias = (
    (λ h. h),
    (λ h. tag_no_brace (sign_at tokens aliases (m + 1 + 1)) h),
    (λ e. good_enumeration_alias_end None (m + 1 + 1)),
    (λ e q. (
      (λ h. h),
      (λ h. typed_no_brace (m + 1 + 1 + 1) h),
      (λ p. good_enumeration_alias_end (Some (identifier_at tokens (m + 1 + 1))) (m + 1 + 1 + 1)),
      (λ p. good_alias_of (enumerated (identifier_at tokens (m + 1 + 1))) (m + 1 + 1 + 1)),
    )),
  )

  good_typedef : (s : Sign) → GoodItem false (typedef_row tokens aliases m s) (m + 1)
  good_typedef (sign.Keyword key.Struct) = λ q. good_structure_alias
  good_typedef (sign.Keyword key.Enum) = λ q. good_enumeration_alias
  good_typedef _ = (tt, λ t n. ((λ h. settled_declarator tokens aliases n h), (λ h. good_alias_end t n)))

  good_item_row : (s : Sign) → GoodItem true (item_row tokens aliases bodies m s) m
  good_item_row (sign.Keyword key.Struct) = λ q. good_structure
  good_item_row (sign.Keyword key.Enum) = λ q. good_enumeration
  good_item_row (sign.Keyword key.Typedef) = λ q. good_typedef (sign_at tokens aliases (m + 1))
  good_item_row _ =
      good_behind_storage tokens (item aliases bodies) true aliases m
      (part a_specifier (specifier aliases) (λ t n. part some_items (declared aliases bodies t) (λ xs e. done xs)))
      (omega arith) (λ n h. h) (λ n. (tt, λ t e. of_type t e)) (omega arith, λ t n. of_type t n)
    where
      of_type : (t : Specified) (n : ℕ)
          → (NextItem (part some_items (declared aliases bodies t) (λ xs e. done xs)) n → Settled tokens aliases n)
          × (Settled tokens aliases n → GoodItem false (part some_items (declared aliases bodies t) (λ xs e. done xs)) n)
      of_type t n = ((λ h. settled_declarator tokens aliases n h), (λ h. (tt, λ xs e. ((λ h. tt), (λ h. tt)))))

  pub good_item : Good tokens some_items (item aliases bodies) true (rule tokens some_items (item aliases bodies) m) m
  good_item = good_item_row (sign_at tokens aliases m)
