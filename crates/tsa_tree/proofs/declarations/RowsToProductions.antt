-- The productions spell whatever declarations, items and statements the rows spell.
use Rattle.std.proofs.Common.{ℕ, List, Bool, ◌⊎◌, inl, inr}
use Rattle.tsa_base.specs.Tokens.{Lexeme}
use Rattle.tsa_tree.specs.tokens.Signs.{Aliases}
use Rattle.tsa_tree.specs.units.Spelling.{no_items, of_items}
use Rattle.tsa_tree.specs.Rows.{some_items}
use Rattle.tsa_tree.specs.Rows.{Sort, Node, Call, consts, storage, specifier, declarator, initialiser, initialisers, declared_rest}
use Rattle.tsa_tree.specs.Rows.{declarators, member_line, members, variable, variables, locals, parameter_list, parameters, signature, head}
use Rattle.tsa_tree.specs.Rows.{struct_body, constants, enum_body, declared, item, items, simple, for_init, statement, statements, Row}
use Rattle.tsa_tree.specs.Rows.{sees, rule}
use Rattle.tsa_tree.proofs.declarations.Meanings.{Keeps, Means}
use Rattle.tsa_tree.proofs.declarations.RowSoundness.{keeps_consts, keeps_specifier, keeps_declarator, keeps_initialiser}
use Rattle.tsa_tree.proofs.declarations.RowSoundness.{keeps_initialisers, keeps_rest, keeps_declarators, keeps_member_line, keeps_members}
use Rattle.tsa_tree.proofs.declarations.RowSoundness.{keeps_variable, keeps_variables, keeps_locals}
use Rattle.tsa_tree.proofs.declarations.ItemsKept.{keeps_storage, keeps_parameter_list, keeps_parameters, keeps_signature, keeps_head}
use Rattle.tsa_tree.proofs.declarations.ItemsKept.{keeps_struct_body, keeps_constants, keeps_enum_body, keeps_declared}
use Rattle.tsa_tree.proofs.declarations.ItemRowsKept.{keeps_item}
use Rattle.tsa_tree.proofs.statements.RowSoundness.{keeps_simple, keeps_for_init, keeps_statement, keeps_statements}
use Rattle.tsa_grammar.specs.Spelling as forms
use Rattle.tsa_grammar.specs.Spelling.{by_rule, goes_done, goes_token, goes_part, goes_bar, goes_limit, goes_only, goes_left, goes_right}

module _ (tokens : List Lexeme) (fits : ℕ → Bool) where
  abbrev Spells : (s : Sort) → Call s → Node s → (a b : ℕ) → Type 0
  Spells s c x a b = forms.Spells (rule tokens) (sees tokens) fits s c x a b

  -- What a row keeps to is its production, or else its part means what the row spells.
  abbrev Kept : (s : Sort) → Call s → ℕ → Type 0
  Kept s c a =
      Keeps tokens fits s (λ x b. Means tokens fits s c x a b) (rule tokens s c a) a
      ⊎ ((x : Node s) (b : ℕ) → Spells s c x a b → Means tokens fits s c x a b)

  -- Items up to the last token.
  keeps_items : (aliases : Aliases) (a : ℕ) → Keeps tokens fits some_items (λ xs b. Means tokens fits some_items (items aliases) xs a b)
      (rule tokens some_items (items aliases) a) a
  keeps_items aliases a = (
    tt,
    λ xs n i. (
      (λ past. (of_items i no_items, past)),
      (tt, λ ys e more. (of_items i more.0, more.1)),
    ),
  )

  -- Every row of declarations, items and statements keeps to its production. Parts of expressions and attributes are what their rows spell.
  keeps : (s : Sort) (c : Call s) (a : ℕ) → Kept s c a
  keeps _ (consts aliases) a = inl (keeps_consts tokens aliases fits a)
  keeps _ (storage aliases) a = inl (keeps_storage tokens aliases fits a)
  keeps _ (specifier aliases) a = inl (keeps_specifier tokens aliases fits a)
  keeps _ (declarator aliases) a = inl (keeps_declarator tokens aliases fits a)
  keeps _ (initialiser aliases d) a = inl (keeps_initialiser tokens aliases fits d a)
  keeps _ (initialisers aliases d) a = inl (keeps_initialisers tokens aliases fits d a)
  keeps _ (declared_rest aliases r d t c) a = inl (keeps_rest tokens aliases fits r d t c a)
  keeps _ (declarators aliases r d t) a = inl (keeps_declarators tokens aliases fits r d t a)
  keeps _ (member_line aliases d) a = inl (keeps_member_line tokens aliases fits d a)
  keeps _ (members aliases d) a = inl (keeps_members tokens aliases fits d a)
  keeps _ (variable aliases d t) a = inl (keeps_variable tokens aliases fits d t a)
  keeps _ (variables aliases d t) a = inl (keeps_variables tokens aliases fits d t a)
  keeps _ (locals aliases single d) a = inl (keeps_locals tokens aliases fits single d a)
  keeps _ (parameter_list aliases) a = inl (keeps_parameter_list tokens aliases fits a)
  keeps _ (parameters aliases) a = inl (keeps_parameters tokens aliases fits a)
  keeps _ (signature aliases) a = inl (keeps_signature tokens aliases fits a)
  keeps _ (head aliases) a = inl (keeps_head tokens aliases fits a)
  keeps _ (struct_body aliases) a = inl (keeps_struct_body tokens aliases fits a)
  keeps _ (constants aliases) a = inl (keeps_constants tokens aliases fits a)
  keeps _ (enum_body aliases) a = inl (keeps_enum_body tokens aliases fits a)
  keeps _ (declared aliases bodies t) a = inl (keeps_declared tokens aliases fits bodies t a)
  keeps _ (item aliases bodies) a = inl (keeps_item tokens aliases fits bodies a)
  keeps _ (items aliases) a = inl (keeps_items aliases a)
  keeps _ (simple aliases d) a = inl (keeps_simple tokens aliases fits d a)
  keeps _ (for_init aliases d) a = inl (keeps_for_init tokens aliases fits d a)
  keeps _ (statement aliases d) a = inl (keeps_statement tokens aliases fits d a)
  keeps _ (statements aliases d) a = inl (keeps_statements tokens aliases fits d a)
  keeps _ other a = inr (λ x b sp. sp)

  mutual
    -- What the rows spell is what the productions spell.
    pub declaration_of : {s : Sort} {c : Call s} {x : Node s} {a b : ℕ} → forms.Spells (rule tokens) (sees tokens) fits s c x a b
        → Means tokens fits s c x a b
    declaration_of {s = s} {c = c} {x = x} {a = a} {b = b} (by_rule g) =
        elim (keeps s c a) [ inl rows ↦ kept c a g rows | inr whole ↦ whole x b (by_rule g) ]

    kept : {s : Sort} {f : Row s} {x : Node s} {a b : ℕ} (c : Call s) (start : ℕ) → forms.Goes (rule tokens) (sees tokens) fits s f x a b
        → Keeps tokens fits s (λ x b. Means tokens fits s c x start b) f a → Means tokens fits s c x start b
    kept c start goes_done h = h
    kept c start (goes_token e g) h = kept c start g (h e)
    kept c start (goes_part {y = y} {m = m} sp g) h = kept c start g (h.1 y m (declaration_of sp))
    kept c start (goes_bar g) h = kept c start g h
    kept c start (goes_limit e g) h = kept c start g (h e)
    kept c start (goes_only e g) h = kept c start g (h e)
    kept c start (goes_left g) h = kept c start g h.0
    kept c start (goes_right g) h = kept c start g h.1
