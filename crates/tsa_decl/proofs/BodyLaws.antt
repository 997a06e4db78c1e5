-- Structs and enums from their braces on, and the plain aliases of types.
use Rattle.std.proofs.Common.{ℕ, ◌+◌, ◌≡◌, ◌≢◌, ◌∙◌, ap, sym, subst, refl, Bool, true, false, List, [], ◌∷◌, ◌++◌, Some, None, Result, Ok}
use Rattle.std.proofs.Common.{Err, nat_eq}
use Rattle.std.specs.Result.{IsErrAnd}
use Rattle.std.specs.declared.option.Option.{Option}
use Rattle.tsa_base.specs.Tokens.{Lexeme}
use Rattle.tsa_base.specs.declared.token.Span.{Span}
use Rattle.tsa_grammar.proofs.Cases.{chosen, other, goes}
use Rattle.tsa_grammar.specs.Form.{done, part}
use Rattle.tsa_grammar.specs.Reading.{Outcome, refuse, syntax, then, choose}
use Rattle.tsa_tree.proofs.RowsRead.{read_steps}
use Rattle.tsa_tree.specs.declared.decl.CType.{CType}
use Rattle.tsa_tree.specs.declared.item.Item.{Item}
use Rattle.tsa_tree.specs.declared.sign.Sign.TheVariants as sign
use Rattle.tsa_tree.specs.attributes.Answers.{read_any}
use Rattle.tsa_tree.specs.attributes.Syntax.{Attribute}
use Rattle.tsa_tree.specs.declarations.Syntax.{Base, Declaration, Specified, Declarator, made_of, EnumConstant, StructBody}
use Rattle.tsa_tree.specs.units.Syntax.{UnitItem, structure_item, enumeration_item, alias_item}
use Rattle.tsa_tree.specs.expressions.Syntax.{Identifier}
use Rattle.tsa_tree.specs.declarations.Shapes.{type_shape}
use Rattle.tsa_tree.specs.units.Shapes.{item_shape, item_shapes}
use Rattle.tsa_tree.specs.Reads.{read}
use Rattle.tsa_tree.specs.Rows.{some_declarations, a_declarator, a_struct_body, some_constants, members, struct_body, enum_body, declarator}
use Rattle.tsa_tree.specs.Rows.{mark, sees, a_name, a_semicolon, behind_attributes, alias_end}
use Rattle.tsa_tree.specs.tokens.Signs.{Aliases, sign_at, span_over, identifier_at}
use Rattle.tsa_expr.specs.declared.refusal.SyntaxRefusal.{SyntaxRefusal}
use Rattle.tsa_expr.specs.Gives.{Fails, Gives}
use Rattle.tsa_expr.proofs.Answering.{fails_then, fails_same}
use Rattle.tsa_attr.proofs.Joining.{then-then, then-same, token-law, passed_at}
use Rattle.tsa_attr.specs.Outcomes as attributes
use Rattle.tsa_decl_declarators.specs.Outcomes.{after, one_token, opening_brace, name_at, tag_at}
use Rattle.tsa_decl.specs.Outcomes.{going_items, body_at, alias_name_at, opening_at, structure_at, enumeration_at}
use Rattle.tsa_decl.proofs.EnumeratorLaws.{brace_at}
use Rattle.tsa_decl_declarators.proofs.ListLaws.{map-push, after-nothing}
use Rattle.tsa_decl_declarators.proofs.Pieces.{attributes_then}
use Rattle.tsa_decl_declarators.proofs.TokenLaws.{not_open_brace}

-- what a `?` passes on
pub gives_failed : {X Y : Type 0} (view : X → Y × ℕ) (r : Result X SyntaxRefusal) (e : SyntaxRefusal) (o : Outcome Y)
    → IsErrAnd r (λ y. y ≡ e) → Fails e o → Gives view r o
gives_failed view (Ok x) e o h f = absurd h
gives_failed view (Err y) e o h f = subst (λ e. Fails e o) (sym h) f

abbrev with_members : List Declaration → List Attribute → ℕ → Outcome StructBody
with_members ms xs n = Ok (record { members = ms; attrs = xs }, n)

-- attributes after those before the tag
abbrev with_front : List Attribute → StructBody → ℕ → Outcome StructBody
with_front front b n = Ok (record { members = b.members; attrs = front ++ b.attrs }, n)

front-law : (front : List Attribute) (ms : List Declaration) (r : Outcome (List Attribute))
    → then (then r (with_members ms)) (with_front front) ≡ then (attributes.after front r) (with_members ms)
unfolding then
front-law front ms (Ok p) = refl
front-law front ms (Err e) = refl

named-law : (b : Bool) (m : ℕ) (name : Identifier) (x : Outcome (List UnitItem)) (go : Option Identifier → ℕ → Outcome (List UnitItem))
    → x ≡ go (Some name) (m + 1)
    → choose b x (Err (refuse syntax m))
    ≡ then (then (choose b (Ok (name, m + 1)) (Err (refuse syntax m))) (λ name n. Ok (Some name, n))) go
unfolding choose then
named-law true m name x go h = h
named-law false m name x go h = refl

module _ (ts : List Lexeme) (aliases : Aliases) where
  -- a tag or a brace
  pub opening_none : (m : ℕ) → sign_at ts aliases m ≡ sign.OpenBrace → opening_at ts aliases m ≡ Ok (None, m)
  unfolding opening_at
  opening_none m e = chosen _ _ _ (ap (λ s. nat_eq (mark s) 17) e)

  opening_tag : (m : ℕ) → sign_at ts aliases m ≢ sign.OpenBrace → opening_at ts aliases m ≡ then (tag_at ts aliases m) (λ tag n. Ok (Some tag, n))
  unfolding opening_at
  opening_tag m h = other _ _ _ (not_open_brace (sign_at ts aliases m) h)

  pub opening_fails : (m : ℕ) (e : SyntaxRefusal) → sign_at ts aliases m ≢ sign.OpenBrace → Fails e (tag_at ts aliases m)
      → Fails e (opening_at ts aliases m)
  opening_fails m e h f = fails_same e _ _ (opening_tag m h) (fails_then e _ _ f)

  pub opening_goes : (m : ℕ) (tag : Identifier) (n : ℕ) → sign_at ts aliases m ≢ sign.OpenBrace → tag_at ts aliases m ≡ Ok (tag, n)
      → opening_at ts aliases m ≡ Ok (Some tag, n)
  opening_goes m tag n h t = opening_tag m h ∙ goes _ _ tag n t

  -- a struct's body
  body_is : (front : List Attribute) (m : ℕ)
      → body_at ts aliases front m
      ≡ then (opening_brace ts aliases 0 m) (λ u n. then (read ts some_declarations (members aliases 1) (m + 1)) (λ ms e.
      then (attributes.after front (read_any ts aliases 0 e)) (with_members ms)))
  unfolding body_at
  body_is front m =
      let go : StructBody → ℕ → Outcome StructBody = with_front front in
      ap (λ r. then r go) (read_steps ts a_struct_body (struct_body aliases) m ∙ brace_at ts aliases a_struct_body 0 m (part some_declarations (members aliases 1) (λ ms n. behind_attributes ts aliases 0 n (λ xs e. done (record { members = ms; attrs = xs })))))
      ∙ then-then (opening_brace ts aliases 0 m) _ go
      ∙ then-same (opening_brace ts aliases 0 m) _ _ (λ u n. then-then (read ts some_declarations (members aliases 1) (m + 1)) _ go
      ∙ then-same (read ts some_declarations (members aliases 1) (m + 1)) _ _ (λ ms e.
      ap (λ r. then r go) (attributes_then ts aliases a_struct_body 0 e (λ xs f. done (record { members = ms; attrs = xs })))
      ∙ front-law front ms (read_any ts aliases 0 e)))

  pub body_unopened : (front : List Attribute) (m : ℕ) (e : SyntaxRefusal) → Fails e (opening_brace ts aliases 0 m) → Fails e (body_at ts aliases front m)
  body_unopened front m e f = fails_same e _ _ (body_is front m) (fails_then e _ _ f)

  inside_at : (front : List Attribute) (m n : ℕ) → opening_brace ts aliases 0 m ≡ Ok (tt, n) → n ≡ m + 1
      → body_at ts aliases front m
      ≡ then (after [] (read ts some_declarations (members aliases 1) n)) (λ ms e.
      then (attributes.after front (read_any ts aliases 0 e)) (with_members ms))
  inside_at front m n h p =
      body_is front m ∙ goes _ _ tt n h
      ∙ ap (λ r. then r (λ ms e. then (attributes.after front (read_any ts aliases 0 e)) (with_members ms)))
      (ap (read ts some_declarations (members aliases 1)) (sym p) ∙ sym (after-nothing _))

  pub body_memberless : (front : List Attribute) (m n : ℕ) (e : SyntaxRefusal) → opening_brace ts aliases 0 m ≡ Ok (tt, n) → n ≡ m + 1
      → Fails e (after [] (read ts some_declarations (members aliases 1) n)) → Fails e (body_at ts aliases front m)
  body_memberless front m n e h p f = fails_same e _ _ (inside_at front m n h p) (fails_then e _ _ f)

  pub body_unmarked : (front : List Attribute) (m n : ℕ) (ms : List Declaration) (i : ℕ) (e : SyntaxRefusal) → opening_brace ts aliases 0 m ≡ Ok (tt, n) → n ≡ m + 1
      → after [] (read ts some_declarations (members aliases 1) n) ≡ Ok (ms, i) → Fails e (attributes.after front (read_any ts aliases 0 i))
      → Fails e (body_at ts aliases front m)
  body_unmarked front m n ms i e h p k f = fails_same e _ _ (inside_at front m n h p ∙ goes _ _ ms i k) (fails_then e _ _ f)

  pub body_goes : (front : List Attribute) (m n : ℕ) (ms : List Declaration) (i : ℕ) (xs : List Attribute) (j : ℕ)
      → opening_brace ts aliases 0 m ≡ Ok (tt, n) → n ≡ m + 1
      → after [] (read ts some_declarations (members aliases 1) n) ≡ Ok (ms, i) → attributes.after front (read_any ts aliases 0 i) ≡ Ok (xs, j)
      → body_at ts aliases front m ≡ Ok (record { members = ms; attrs = xs }, j)
  body_goes front m n ms i xs j h p k l = inside_at front m n h p ∙ goes _ _ ms i k ∙ goes _ _ xs j l

  -- the name of an alias
  pub alias_none : (aliased : Bool) (m : ℕ) → aliased ≡ false → alias_name_at ts aliases aliased m ≡ Ok (None, m)
  unfolding alias_name_at
  alias_none true m a = cc
  alias_none false m a = refl

  pub alias_fails : (aliased : Bool) (m : ℕ) (e : SyntaxRefusal) → aliased ≡ true → Fails e (name_at ts aliases m)
      → Fails e (alias_name_at ts aliases aliased m)
  unfolding alias_name_at
  alias_fails true m e a f = fails_then e _ _ f
  alias_fails false m e a f = cc

  pub alias_goes : (aliased : Bool) (m : ℕ) (name : Identifier) (n : ℕ) → aliased ≡ true → name_at ts aliases m ≡ Ok (name, n)
      → alias_name_at ts aliases aliased m ≡ Ok (Some name, n)
  unfolding alias_name_at
  alias_goes true m name n a h = goes _ _ name n h
  alias_goes false m name n a h = cc

  -- the name where there is one, and the `;`
  abbrev ending : Bool → (Option Identifier → ℕ → UnitItem) → ℕ → Outcome (List UnitItem)
  ending aliased make n =
      then (alias_name_at ts aliases aliased n) (λ a e. then (one_token ts (a_semicolon aliases) e) (λ u f. Ok (make a (e + 1) ∷ [], e + 1)))

  ends_plain : (make : Option Identifier → ℕ → UnitItem) (n : ℕ)
      → choose (sees ts (a_semicolon aliases) n) (Ok (make None (n + 1) ∷ [], n + 1)) (Err (refuse syntax n)) ≡ ending false make n
  unfolding alias_name_at one_token then
  ends_plain make n = token-law (sees ts (a_semicolon aliases) n) n _

  ends_named : (make : Option Identifier → ℕ → UnitItem) (n : ℕ)
      → choose (sees ts (a_name aliases) n)
      (choose (sees ts (a_semicolon aliases) (n + 1)) (Ok (make (Some (identifier_at ts n)) (n + 1 + 1) ∷ [], n + 1 + 1)) (Err (refuse syntax (n + 1))))
      (Err (refuse syntax n))
      ≡ ending true make n
  unfolding alias_name_at name_at one_token
  ends_named make n =
      named-law (sees ts (a_name aliases) n) n (identifier_at ts n) _
      (λ a e. then (choose (sees ts (a_semicolon aliases) e) (passed_at (e + 1)) (Err (refuse syntax e))) (λ u f. Ok (make a (e + 1) ∷ [], e + 1)))
      (token-law (sees ts (a_semicolon aliases) (n + 1)) (n + 1) _)

  -- a struct
  abbrev struct_ending : Bool → ℕ → Option Identifier → StructBody → ℕ → Outcome (List UnitItem)
  struct_ending aliased start tag b n = ending aliased (λ a e. structure_item tag a b.attrs b.members (span_over ts start e)) n

  body-law : (front : List Attribute) (r : Outcome StructBody) (go : StructBody → ℕ → Outcome (List UnitItem))
      → then r (λ b n. go (record { members = b.members; attrs = front ++ b.attrs }) n)
      ≡ then (then r (with_front front)) go
  unfolding then
  body-law front (Ok p) go = refl
  body-law front (Err e) go = refl

  structure_is : (aliased : Bool) (start : ℕ) (front : List Attribute) (tag : Option Identifier) (m : ℕ)
      → structure_at ts aliases aliased start front tag m ≡ then (body_at ts aliases front m) (struct_ending aliased start tag)
  unfolding structure_at body_at
  structure_is true start front tag m =
      then-same (read ts a_struct_body (struct_body aliases) m) _ _
      (λ b n. ends_named (λ a e. structure_item tag a (front ++ b.attrs) b.members (span_over ts start e)) n)
      ∙ body-law front (read ts a_struct_body (struct_body aliases) m) (struct_ending true start tag)
  structure_is false start front tag m =
      then-same (read ts a_struct_body (struct_body aliases) m) _ _
      (λ b n. ends_plain (λ a e. structure_item tag a (front ++ b.attrs) b.members (span_over ts start e)) n)
      ∙ body-law front (read ts a_struct_body (struct_body aliases) m) (struct_ending false start tag)

  -- an enum
  abbrev enum_ending : Bool → ℕ → Option Identifier → List EnumConstant → ℕ → Outcome (List UnitItem)
  enum_ending aliased start tag xs n = ending aliased (λ a e. enumeration_item tag a xs (span_over ts start e)) n

  enumeration_is : (aliased : Bool) (start : ℕ) (tag : Option Identifier) (m : ℕ)
      → enumeration_at ts aliases aliased start tag m ≡ then (read ts some_constants (enum_body aliases) m) (enum_ending aliased start tag)
  unfolding enumeration_at
  enumeration_is true start tag m =
      then-same (read ts some_constants (enum_body aliases) m) _ _ (λ xs n. ends_named (λ a e. enumeration_item tag a xs (span_over ts start e)) n)
  enumeration_is false start tag m =
      then-same (read ts some_constants (enum_body aliases) m) _ _ (λ xs n. ends_plain (λ a e. enumeration_item tag a xs (span_over ts start e)) n)

  -- a plain alias
  abbrev typed : Base → Bool → Specified
  typed base is_const = record { base = base; is_const = is_const }

  plain_is : (t : Specified) (m : ℕ)
      → going_items ts (alias_end ts aliases t m) m
      ≡ then (read ts a_declarator (declarator aliases) m) (λ c n. then (one_token ts (a_semicolon aliases) n)
      (λ u e. Ok (alias_item c.name (made_of t c.pointer c.pointer_const None) (span_over ts m n) ∷ [], n + 1)))
  unfolding one_token
  plain_is t m = then-same (read ts a_declarator (declarator aliases) m) _ _ (λ c n. token-law (sees ts (a_semicolon aliases) n) n _)

  pub structure_bodiless : (xs : List Item) (aliased : Bool) (start : ℕ) (front : List Attribute) (tag : Option Identifier) (m : ℕ) (e : SyntaxRefusal)
      → Fails e (body_at ts aliases front m) → Fails e (after (item_shapes xs) (structure_at ts aliases aliased start front tag m))
  structure_bodiless xs aliased start front tag m e f =
      fails_then e _ _ (fails_same e _ _ (structure_is aliased start front tag m) (fails_then e _ _ f))

  structure_body : (aliased : Bool) (start : ℕ) (front : List Attribute) (tag : Option Identifier) (m : ℕ) (b : StructBody) (n : ℕ)
      → body_at ts aliases front m ≡ Ok (b, n) → structure_at ts aliases aliased start front tag m ≡ struct_ending aliased start tag b n
  structure_body aliased start front tag m b n h = structure_is aliased start front tag m ∙ goes _ _ b n h

  pub structure_nameless : (xs : List Item) (aliased : Bool) (start : ℕ) (front : List Attribute) (tag : Option Identifier) (m : ℕ) (b : StructBody) (n : ℕ) (e : SyntaxRefusal)
      → body_at ts aliases front m ≡ Ok (b, n) → Fails e (alias_name_at ts aliases aliased n)
      → Fails e (after (item_shapes xs) (structure_at ts aliases aliased start front tag m))
  structure_nameless xs aliased start front tag m b n e h f =
      fails_then e _ _ (fails_same e _ _ (structure_body aliased start front tag m b n h) (fails_then e _ _ f))

  pub structure_endless : (xs : List Item) (aliased : Bool) (start : ℕ) (front : List Attribute) (tag : Option Identifier) (m : ℕ) (b : StructBody) (n : ℕ) (name : Option Identifier) (i : ℕ) (e : SyntaxRefusal)
      → body_at ts aliases front m ≡ Ok (b, n) → alias_name_at ts aliases aliased n ≡ Ok (name, i) → Fails e (one_token ts (a_semicolon aliases) i)
      → Fails e (after (item_shapes xs) (structure_at ts aliases aliased start front tag m))
  structure_endless xs aliased start front tag m b n name i e h k f =
      fails_then e _ _ (fails_same e _ _ (structure_body aliased start front tag m b n h ∙ goes _ _ name i k) (fails_then e _ _ f))

  pub structure_goes : (xs : List Item) (aliased : Bool) (start : ℕ) (front : List Attribute) (tag : Option Identifier) (m : ℕ) (b : StructBody) (n : ℕ) (name : Option Identifier) (i j : ℕ) (x : Item) (span : Span)
      → body_at ts aliases front m ≡ Ok (b, n) → alias_name_at ts aliases aliased n ≡ Ok (name, i) → one_token ts (a_semicolon aliases) i ≡ Ok (tt, j)
      → j ≡ i + 1 → span ≡ span_over ts start j → item_shape x ≡ structure_item tag name b.attrs b.members span
      → after (item_shapes xs) (structure_at ts aliases aliased start front tag m) ≡ Ok (item_shapes (xs ++ x ∷ []), j)
  structure_goes xs aliased start front tag m b n name i j x span h k l p q s =
      goes _ _ (item_shape x ∷ []) j
      (structure_body aliased start front tag m b n h ∙ goes _ _ name i k ∙ goes _ _ tt j l
      ∙ ap (λ j. Ok (structure_item tag name b.attrs b.members (span_over ts start j) ∷ [], j)) (sym p)
      ∙ ap (λ x. Ok (x ∷ [], j)) (ap (structure_item tag name b.attrs b.members) (sym q) ∙ sym s))
      ∙ ap (λ ys. Ok (ys, j)) (sym (map-push item_shape xs x))

  pub enumeration_bodiless : (xs : List Item) (aliased : Bool) (start : ℕ) (tag : Option Identifier) (m : ℕ) (e : SyntaxRefusal)
      → Fails e (read ts some_constants (enum_body aliases) m) → Fails e (after (item_shapes xs) (enumeration_at ts aliases aliased start tag m))
  enumeration_bodiless xs aliased start tag m e f =
      fails_then e _ _ (fails_same e _ _ (enumeration_is aliased start tag m) (fails_then e _ _ f))

  enumeration_body : (aliased : Bool) (start : ℕ) (tag : Option Identifier) (m : ℕ) (vs : List EnumConstant) (n : ℕ)
      → read ts some_constants (enum_body aliases) m ≡ Ok (vs, n) → enumeration_at ts aliases aliased start tag m ≡ enum_ending aliased start tag vs n
  enumeration_body aliased start tag m vs n h = enumeration_is aliased start tag m ∙ goes _ _ vs n h

  pub enumeration_nameless : (xs : List Item) (aliased : Bool) (start : ℕ) (tag : Option Identifier) (m : ℕ) (vs : List EnumConstant) (n : ℕ) (e : SyntaxRefusal)
      → read ts some_constants (enum_body aliases) m ≡ Ok (vs, n) → Fails e (alias_name_at ts aliases aliased n)
      → Fails e (after (item_shapes xs) (enumeration_at ts aliases aliased start tag m))
  enumeration_nameless xs aliased start tag m vs n e h f =
      fails_then e _ _ (fails_same e _ _ (enumeration_body aliased start tag m vs n h) (fails_then e _ _ f))

  pub enumeration_endless : (xs : List Item) (aliased : Bool) (start : ℕ) (tag : Option Identifier) (m : ℕ) (vs : List EnumConstant) (n : ℕ) (name : Option Identifier) (i : ℕ) (e : SyntaxRefusal)
      → read ts some_constants (enum_body aliases) m ≡ Ok (vs, n) → alias_name_at ts aliases aliased n ≡ Ok (name, i) → Fails e (one_token ts (a_semicolon aliases) i)
      → Fails e (after (item_shapes xs) (enumeration_at ts aliases aliased start tag m))
  enumeration_endless xs aliased start tag m vs n name i e h k f =
      fails_then e _ _ (fails_same e _ _ (enumeration_body aliased start tag m vs n h ∙ goes _ _ name i k) (fails_then e _ _ f))

  pub enumeration_goes : (xs : List Item) (aliased : Bool) (start : ℕ) (tag : Option Identifier) (m : ℕ) (vs : List EnumConstant) (n : ℕ) (name : Option Identifier) (i j : ℕ) (x : Item) (span : Span)
      → read ts some_constants (enum_body aliases) m ≡ Ok (vs, n) → alias_name_at ts aliases aliased n ≡ Ok (name, i) → one_token ts (a_semicolon aliases) i ≡ Ok (tt, j)
      → j ≡ i + 1 → span ≡ span_over ts start j → item_shape x ≡ enumeration_item tag name vs span
      → after (item_shapes xs) (enumeration_at ts aliases aliased start tag m) ≡ Ok (item_shapes (xs ++ x ∷ []), j)
  enumeration_goes xs aliased start tag m vs n name i j x span h k l p q s =
      goes _ _ (item_shape x ∷ []) j
      (enumeration_body aliased start tag m vs n h ∙ goes _ _ name i k ∙ goes _ _ tt j l
      ∙ ap (λ j. Ok (enumeration_item tag name vs (span_over ts start j) ∷ [], j)) (sym p)
      ∙ ap (λ x. Ok (x ∷ [], j)) (ap (enumeration_item tag name vs) (sym q) ∙ sym s))
      ∙ ap (λ ys. Ok (ys, j)) (sym (map-push item_shape xs x))

  pub plain_nameless : (xs : List Item) (base : Base) (is_const : Bool) (m : ℕ) (e : SyntaxRefusal) → Fails e (read ts a_declarator (declarator aliases) m)
      → Fails e (after (item_shapes xs) (going_items ts (alias_end ts aliases (typed base is_const) m) m))
  plain_nameless xs base is_const m e f = fails_then e _ _ (fails_same e _ _ (plain_is (typed base is_const) m) (fails_then e _ _ f))

  pub plain_endless : (xs : List Item) (base : Base) (is_const : Bool) (m : ℕ) (c : Declarator) (n : ℕ) (e : SyntaxRefusal)
      → read ts a_declarator (declarator aliases) m ≡ Ok (c, n) → Fails e (one_token ts (a_semicolon aliases) n)
      → Fails e (after (item_shapes xs) (going_items ts (alias_end ts aliases (typed base is_const) m) m))
  plain_endless xs base is_const m c n e h f = fails_then e _ _ (fails_same e _ _ (plain_is (typed base is_const) m ∙ goes _ _ c n h) (fails_then e _ _ f))

  pub plain_goes : (xs : List Item) (base : Base) (is_const : Bool) (m : ℕ) (c : Declarator) (n i : ℕ) (x : Item) (made : CType) (span : Span)
      → read ts a_declarator (declarator aliases) m ≡ Ok (c, n) → one_token ts (a_semicolon aliases) n ≡ Ok (tt, i) → i ≡ n + 1
      → span ≡ span_over ts m n → type_shape made ≡ made_of (typed base is_const) c.pointer c.pointer_const None → item_shape x ≡ alias_item c.name (type_shape made) span
      → after (item_shapes xs) (going_items ts (alias_end ts aliases (typed base is_const) m) m) ≡ Ok (item_shapes (xs ++ x ∷ []), i)
  plain_goes xs base is_const m c n i x made span h k p q r s =
      goes _ _ (item_shape x ∷ []) i
      (plain_is (typed base is_const) m ∙ goes _ _ c n h ∙ goes _ _ tt i k ∙ ap (λ i. Ok (alias_item c.name (made_of (typed base is_const) c.pointer c.pointer_const None) (span_over ts m n) ∷ [], i)) (sym p)
      ∙ ap (λ x. Ok (x ∷ [], i)) (ap (λ made. alias_item c.name made (span_over ts m n)) (sym r) ∙ ap (alias_item c.name (type_shape made)) (sym q) ∙ sym s))
      ∙ ap (λ ys. Ok (ys, i)) (sym (map-push item_shape xs x))

pub ruleset openings = (opening_none, opening_fails, opening_goes)

pub ruleset bodies = (body_unopened, body_memberless, body_unmarked, body_goes)

pub ruleset names = (alias_none, alias_fails, alias_goes)

pub ruleset structures = (structure_bodiless, structure_nameless, structure_endless, structure_goes)

pub ruleset enumerations = (enumeration_bodiless, enumeration_nameless, enumeration_endless, enumeration_goes)

pub ruleset plain = (plain_nameless, plain_endless, plain_goes)
