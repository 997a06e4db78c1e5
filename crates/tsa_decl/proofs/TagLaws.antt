-- Items after `struct` and `enum`, by their tags and braces.
use Rattle.std.proofs.Common.{ℕ, ◌+◌, ◌≡◌, ◌≢◌, ◌∙◌, ap, sym, subst, refl, Bool, true, false, List, [], option_map, Some, None, Ok, Err}
use Rattle.std.proofs.Common.{nat_eq}
use Rattle.std.specs.declared.option.Option.{Option}
use Rattle.tsa_base.specs.Tokens.{Lexeme}
use Rattle.tsa_grammar.proofs.Cases.{chosen, other, goes}
use Rattle.tsa_grammar.specs.Reading.{Outcome, refuse, syntax, then, choose}
use Rattle.tsa_tree.specs.declared.attr.Attr.{Attr}
use Rattle.tsa_tree.specs.declared.expr.Name.{Name}
use Rattle.tsa_tree.specs.declared.item.Item.{Item}
use Rattle.tsa_tree.specs.declared.sign.Sign.TheVariants as sign
use Rattle.tsa_tree.specs.attributes.Answers.{read_any}
use Rattle.tsa_tree.specs.attributes.Syntax.{Attribute, attr_shapes}
use Rattle.tsa_tree.specs.declarations.Syntax.{structure, enumerated}
use Rattle.tsa_tree.specs.units.Syntax.{UnitItem}
use Rattle.tsa_tree.specs.expressions.Syntax.{Identifier}
use Rattle.tsa_tree.specs.units.Shapes.{item_shapes}
use Rattle.tsa_tree.specs.Reads.{read}
use Rattle.tsa_tree.specs.Rows.{some_attributes, attributes, mark, sees, is_attribute_sign, an_open_brace, a_semicolon, declared_of}
use Rattle.tsa_tree.specs.Rows.{alias_of, structure_row, enumeration_row, structure_alias_row, enumeration_alias_row}
use Rattle.tsa_tree.specs.expressions.Shapes.{name_shape}
use Rattle.tsa_tree.specs.tokens.Signs.{Aliases, sign_at, identifier_at, is_tag}
use Rattle.tsa_expr.specs.declared.refusal.SyntaxRefusal.{SyntaxRefusal}
use Rattle.tsa_expr.specs.Gives.{Fails}
use Rattle.tsa_expr.proofs.Answering.{fails_then, fails_same, gives_same}
use Rattle.tsa_attr.proofs.Joining.{append-nil, after-nothing}
use Rattle.tsa_attr.specs.Outcomes as marks
use Rattle.tsa_decl_declarators.specs.Outcomes.{after, tag_at}
use Rattle.tsa_decl.specs.Outcomes.{going_items, opening_at, structure_at, enumeration_at}
use Rattle.tsa_decl_declarators.proofs.TokenLaws.{not_open_brace, not_semicolon}

-- a tag, and what depends on it
tag-law : (b : Bool) (m : ℕ) (tag : Identifier) (x : Outcome (List UnitItem)) (go : Identifier → ℕ → Outcome (List UnitItem)) → x ≡ go tag (m + 1)
    → choose b x (Err (refuse syntax m)) ≡ then (choose b (Ok (tag, m + 1)) (Err (refuse syntax m))) go
unfolding choose then
tag-law true m tag x go h = h
tag-law false m tag x go h = refl

-- a tag or a brace, and what depends on which it is
opening-law : (b c : Bool) (m : ℕ) (tag : Identifier) (x y : Outcome (List UnitItem)) (go : Option Identifier → ℕ → Outcome (List UnitItem))
    → x ≡ go None m → y ≡ go (Some tag) (m + 1)
    → choose b x (choose c y (Err (refuse syntax m)))
    ≡ then (choose b (Ok (None, m)) (then (choose c (Ok (tag, m + 1)) (Err (refuse syntax m))) (λ tag n. Ok (Some tag, n)))) go
unfolding choose then
opening-law true c m tag x y go h k = h
opening-law false true m tag x y go h k = k
opening-law false false m tag x y go h k = refl

-- attributes, and what depends on whether they are there
marked-law : {B : Type 0} (b : Bool) (r : Outcome (List Attribute)) (m : ℕ) (f : List Attribute → ℕ → Outcome B) (x : Outcome B) (go : Bool → List Attribute → ℕ → Outcome B)
    → ((xs : List Attribute) (n : ℕ) → f xs n ≡ go true xs n) → x ≡ go false [] m
    → choose b (then r f) x ≡ then (choose b r (Ok ([], m))) (go b)
unfolding choose then
marked-law true (Ok p) m f x go h k = h p.0 p.1
marked-law true (Err e) m f x go h k = refl
marked-law false r m f x go h k = k

-- a list of attributes that was new
pub fresh_fails : (zs : List Attr) (e : SyntaxRefusal) (r : Outcome (List Attribute)) → zs ≡ [] → Fails e (marks.after (attr_shapes zs) r)
    → Fails e (marks.after [] r)
fresh_fails zs e r q h = subst (λ zs. Fails e (marks.after (attr_shapes zs) r)) q h

pub fresh_goes : (zs : List Attr) (r : Outcome (List Attribute)) (x : List Attribute × ℕ) → zs ≡ [] → marks.after (attr_shapes zs) r ≡ Ok x
    → marks.after [] r ≡ Ok x
fresh_goes zs r x q h = ap (λ zs. marks.after (attr_shapes zs) r) (sym q) ∙ h

-- the same token asked for twice
twice-law : {A : Type 0} (b : Bool) (x y z : A) → choose b (choose b x y) z ≡ choose b x z
unfolding choose
twice-law true x y z = refl
twice-law false x y z = refl

module _ (ts : List Lexeme) (aliases : Aliases) where
  -- by the tag, and by the brace after it
  abbrev at_tag : (Option Identifier → ℕ → Outcome (List UnitItem)) → (Identifier → ℕ → Outcome (List UnitItem)) → Option Identifier → ℕ → Outcome (List UnitItem)
  at_tag body uses None n = body None n
  at_tag body uses (Some tag) n = choose (sees ts (an_open_brace aliases) n) (body (Some tag) n) (uses tag n)

  -- the tag of a type that is used
  abbrev used_at : Option Name → ℕ → Option Name
  used_at t n = choose (sees ts (an_open_brace aliases) n) None t

  pub used_none : (t : Option Name) (n : ℕ) → sign_at ts aliases n ≡ sign.OpenBrace → used_at t n ≡ None
  used_none t n e = chosen _ _ _ (ap (λ s. nat_eq (mark s) 17) e)

  pub used_tag : (t : Option Name) (n : ℕ) → sign_at ts aliases n ≢ sign.OpenBrace → used_at t n ≡ t
  used_tag t n h = other _ _ _ (not_open_brace (sign_at ts aliases n) h)

  some_body : (b : Bool) (t : Name) (x y : Outcome (List UnitItem)) → choose b None (Some t) ≡ None → choose b x y ≡ x
  unfolding choose
  some_body true t x y e = refl
  some_body false t x y e = cc

  some_use : (b : Bool) (t u : Name) (x : Outcome (List UnitItem)) (uses : Identifier → Outcome (List UnitItem)) → choose b None (Some t) ≡ Some u
      → choose b x (uses (name_shape t)) ≡ uses (name_shape u)
  unfolding choose
  some_use true t u x uses e = cc
  some_use false t u x uses e =
      let same : t ≡ u = cc in
      ap (λ t. uses (name_shape t)) same

  none_use : (b : Bool) (u : Name) (x y : Outcome (List UnitItem)) → choose b None None ≡ Some u → x ≡ y
  unfolding choose
  none_use true u x y e = cc
  none_use false u x y e = cc

  at_body : (body : Option Identifier → ℕ → Outcome (List UnitItem)) (uses : Identifier → ℕ → Outcome (List UnitItem)) (t : Option Name) (n : ℕ)
      → used_at t n ≡ None → at_tag body uses (option_map name_shape t) n ≡ body (option_map name_shape t) n
  at_body body uses None n e = refl
  at_body body uses (Some t) n e = some_body (sees ts (an_open_brace aliases) n) t _ _ e

  at_use : (body : Option Identifier → ℕ → Outcome (List UnitItem)) (uses : Identifier → ℕ → Outcome (List UnitItem)) (t : Option Name) (x : Name) (n : ℕ)
      → used_at t n ≡ Some x → at_tag body uses (option_map name_shape t) n ≡ uses (name_shape x) n
  at_use body uses None x n e = none_use (sees ts (an_open_brace aliases) n) x _ _ e
  at_use body uses (Some t) x n e = some_use (sees ts (an_open_brace aliases) n) t x _ (λ tag. uses tag n) e

  -- after `typedef enum`
  abbrev enum_alias_at : ℕ → Outcome (List UnitItem)
  enum_alias_at m = going_items ts (enumeration_alias_row ts aliases m) (m + 1 + 1)

  abbrev alias_of_enum : Identifier → ℕ → Outcome (List UnitItem)
  alias_of_enum tag n = going_items ts (alias_of ts aliases (enumerated tag) n) n

  abbrev enum_alias_by : (m : ℕ) → Option Identifier → ℕ → Outcome (List UnitItem)
  enum_alias_by m = at_tag (enumeration_at ts aliases true m) alias_of_enum

  enum_alias_is : (m : ℕ) → enum_alias_at m ≡ then (opening_at ts aliases (m + 1 + 1)) (enum_alias_by m)
  unfolding opening_at tag_at enumeration_at
  enum_alias_is m =
      opening-law (sees ts (an_open_brace aliases) (m + 1 + 1)) (is_tag (sign_at ts aliases (m + 1 + 1))) (m + 1 + 1) (identifier_at ts (m + 1 + 1)) _ _
      (enum_alias_by m) refl refl

  pub enum_alias_unopened : (xs : List Item) (m : ℕ) (e : SyntaxRefusal) → Fails e (opening_at ts aliases (m + 1 + 1)) → Fails e (after (item_shapes xs) (enum_alias_at m))
  enum_alias_unopened xs m e f = fails_then e _ _ (fails_same e _ _ (enum_alias_is m) (fails_then e _ _ f))

  pub enum_alias_bodied : (xs : List Item) (m start : ℕ) (t : Option Name) (n : ℕ) → opening_at ts aliases (m + 1 + 1) ≡ Ok (option_map name_shape t, n)
      → used_at t n ≡ None → start ≡ m
      → after (item_shapes xs) (enum_alias_at m) ≡ after (item_shapes xs) (enumeration_at ts aliases true start (option_map name_shape t) n)
  enum_alias_bodied xs m start t n h e q =
      ap (after (item_shapes xs)) (enum_alias_is m ∙ goes _ _ (option_map name_shape t) n h ∙ at_body (enumeration_at ts aliases true m) alias_of_enum t n e)
      ∙ ap (λ start. after (item_shapes xs) (enumeration_at ts aliases true start (option_map name_shape t) n)) (sym q)

  pub enum_alias_named : (xs : List Item) (m : ℕ) (t : Option Name) (x : Name) (n : ℕ) → opening_at ts aliases (m + 1 + 1) ≡ Ok (option_map name_shape t, n) → used_at t n ≡ Some x
      → after (item_shapes xs) (enum_alias_at m) ≡ after (item_shapes xs) (going_items ts (alias_of ts aliases (enumerated (name_shape x)) n) n)
  enum_alias_named xs m t x n h e = ap (after (item_shapes xs)) (enum_alias_is m ∙ goes _ _ (option_map name_shape t) n h ∙ at_use (enumeration_at ts aliases true m) alias_of_enum t x n e)

  -- after `typedef struct`
  abbrev struct_alias_at : ℕ → Outcome (List UnitItem)
  struct_alias_at m = going_items ts (structure_alias_row ts aliases m) (m + 1 + 1)

  abbrev alias_of_struct : Identifier → ℕ → Outcome (List UnitItem)
  alias_of_struct tag n = going_items ts (alias_of ts aliases (structure tag) n) n

  abbrev struct_alias_on : (m : ℕ) → Bool → List Attribute → Option Identifier → ℕ → Outcome (List UnitItem)
  struct_alias_on m marked xs tag n =
      choose marked (structure_at ts aliases true m xs tag n)
      (at_tag (structure_at ts aliases true m xs) alias_of_struct tag n)

  abbrev struct_alias_by : (m : ℕ) → Bool → List Attribute → ℕ → Outcome (List UnitItem)
  struct_alias_by m marked xs n = then (opening_at ts aliases n) (struct_alias_on m marked xs)

  struct_alias_is : (m : ℕ)
      → struct_alias_at m ≡ then (read_any ts aliases 0 (m + 1 + 1)) (struct_alias_by m (is_attribute_sign (sign_at ts aliases (m + 1 + 1))))
  unfolding read_any opening_at tag_at structure_at choose
  struct_alias_is m =
      marked-law (is_attribute_sign (sign_at ts aliases (m + 1 + 1))) (read ts some_attributes (attributes aliases 0) (m + 1 + 1)) (m + 1 + 1) _ _ (struct_alias_by m)
      (λ xs n. opening-law (sees ts (an_open_brace aliases) n) (is_tag (sign_at ts aliases n)) n (identifier_at ts n) _ _ (struct_alias_on m true xs) refl refl)
      (opening-law (sees ts (an_open_brace aliases) (m + 1 + 1)) (is_tag (sign_at ts aliases (m + 1 + 1))) (m + 1 + 1) (identifier_at ts (m + 1 + 1)) _ _
      (struct_alias_on m false []) refl refl)

  pub struct_alias_unmarked : (xs : List Item) (m : ℕ) (e : SyntaxRefusal) → Fails e (marks.after [] (read_any ts aliases 0 (m + 1 + 1)))
      → Fails e (after (item_shapes xs) (struct_alias_at m))
  struct_alias_unmarked xs m e f =
      fails_then e _ _ (fails_same e _ _ (struct_alias_is m) (fails_then e _ _ (fails_same e _ _ (sym (after-nothing _)) f)))

  struct_alias_marks : (m : ℕ) (ys : List Attribute) (n : ℕ) → marks.after [] (read_any ts aliases 0 (m + 1 + 1)) ≡ Ok (ys, n)
      → struct_alias_at m ≡ struct_alias_by m (is_attribute_sign (sign_at ts aliases (m + 1 + 1))) ys n
  struct_alias_marks m ys n h = struct_alias_is m ∙ goes _ _ ys n (sym (after-nothing _) ∙ h)

  pub struct_alias_unopened : (xs : List Item) (m : ℕ) (ys : List Attribute) (n : ℕ) (e : SyntaxRefusal) → marks.after [] (read_any ts aliases 0 (m + 1 + 1)) ≡ Ok (ys, n)
      → Fails e (opening_at ts aliases n) → Fails e (after (item_shapes xs) (struct_alias_at m))
  struct_alias_unopened xs m ys n e h f = fails_then e _ _ (fails_same e _ _ (struct_alias_marks m ys n h) (fails_then e _ _ f))

  struct_alias_open : (m : ℕ) (ys : List Attribute) (n : ℕ) (t : Option Name) (i : ℕ) → marks.after [] (read_any ts aliases 0 (m + 1 + 1)) ≡ Ok (ys, n)
      → opening_at ts aliases n ≡ Ok (option_map name_shape t, i)
      → struct_alias_at m ≡ struct_alias_on m (is_attribute_sign (sign_at ts aliases (m + 1 + 1))) ys (option_map name_shape t) i
  struct_alias_open m ys n t i h k = struct_alias_marks m ys n h ∙ goes _ _ (option_map name_shape t) i k

  pub struct_alias_marked : (xs : List Item) (m start : ℕ) (ys : List Attribute) (n : ℕ) (t : Option Name) (i : ℕ) → marks.after [] (read_any ts aliases 0 (m + 1 + 1)) ≡ Ok (ys, n)
      → opening_at ts aliases n ≡ Ok (option_map name_shape t, i) → is_attribute_sign (sign_at ts aliases (m + 1 + 1)) ≡ true → start ≡ m
      → after (item_shapes xs) (struct_alias_at m) ≡ after (item_shapes xs) (structure_at ts aliases true start ys (option_map name_shape t) i)
  struct_alias_marked xs m start ys n t i h k a q =
      ap (after (item_shapes xs)) (struct_alias_open m ys n t i h k ∙ chosen _ _ _ a)
      ∙ ap (λ start. after (item_shapes xs) (structure_at ts aliases true start ys (option_map name_shape t) i)) (sym q)

  pub struct_alias_bodied : (xs : List Item) (m start : ℕ) (ys : List Attribute) (n : ℕ) (t : Option Name) (i : ℕ) → marks.after [] (read_any ts aliases 0 (m + 1 + 1)) ≡ Ok (ys, n)
      → opening_at ts aliases n ≡ Ok (option_map name_shape t, i) → is_attribute_sign (sign_at ts aliases (m + 1 + 1)) ≡ false → used_at t i ≡ None → start ≡ m
      → after (item_shapes xs) (struct_alias_at m) ≡ after (item_shapes xs) (structure_at ts aliases true start ys (option_map name_shape t) i)
  struct_alias_bodied xs m start ys n t i h k a e q =
      ap (after (item_shapes xs)) (struct_alias_open m ys n t i h k ∙ other _ _ _ a ∙ at_body (structure_at ts aliases true m ys) alias_of_struct t i e)
      ∙ ap (λ start. after (item_shapes xs) (structure_at ts aliases true start ys (option_map name_shape t) i)) (sym q)

  pub struct_alias_named : (xs : List Item) (m : ℕ) (ys : List Attribute) (n : ℕ) (t : Option Name) (x : Name) (i : ℕ) → marks.after [] (read_any ts aliases 0 (m + 1 + 1)) ≡ Ok (ys, n)
      → opening_at ts aliases n ≡ Ok (option_map name_shape t, i) → is_attribute_sign (sign_at ts aliases (m + 1 + 1)) ≡ false → used_at t i ≡ Some x
      → after (item_shapes xs) (struct_alias_at m) ≡ after (item_shapes xs) (going_items ts (alias_of ts aliases (structure (name_shape x)) i) i)
  struct_alias_named xs m ys n t x i h k a e =
      ap (after (item_shapes xs)) (struct_alias_open m ys n t i h k ∙ other _ _ _ a ∙ at_use (structure_at ts aliases true m ys) alias_of_struct t x i e)

module _ (ts : List Lexeme) (aliases : Aliases) (bodies : Bool) where
  -- after `struct`
  abbrev struct_by : (m : ℕ) → Bool → List Attribute → ℕ → Outcome (List UnitItem)
  struct_by m marked xs n =
      then (tag_at ts aliases n) (λ tag e. choose marked (structure_at ts aliases false m xs (Some tag) e)
      (choose (sees ts (an_open_brace aliases) e) (structure_at ts aliases false m xs (Some tag) e)
      (choose (sees ts (a_semicolon aliases) e) (Ok ([], e + 1)) (going_items ts (declared_of ts aliases bodies (structure tag) e) e))))

  struct_is : (m : ℕ) → going_items ts (structure_row ts aliases bodies m) (m + 1) ≡ then (read_any ts aliases 0 (m + 1)) (struct_by m (is_attribute_sign (sign_at ts aliases (m + 1))))
  unfolding read_any tag_at structure_at choose
  struct_is m =
      marked-law (is_attribute_sign (sign_at ts aliases (m + 1))) (read ts some_attributes (attributes aliases 0) (m + 1)) (m + 1) _ _ (struct_by m)
      (λ xs n. tag-law (is_tag (sign_at ts aliases n)) n (identifier_at ts n) _ _ refl)
      (tag-law (is_tag (sign_at ts aliases (m + 1))) (m + 1) (identifier_at ts (m + 1)) _ _
      (ap (choose (sees ts (an_open_brace aliases) (m + 1 + 1)) (structure_at ts aliases false m [] (Some (identifier_at ts (m + 1))) (m + 1 + 1)))
      (twice-law (sees ts (a_semicolon aliases) (m + 1 + 1)) _ _ _)))

  abbrev struct_at : ℕ → Outcome (List UnitItem)
  struct_at m = going_items ts (structure_row ts aliases bodies m) (m + 1)

  pub struct_unmarked : (xs : List Item) (m : ℕ) (e : SyntaxRefusal) → Fails e (marks.after [] (read_any ts aliases 0 (m + 1)))
      → Fails e (after (item_shapes xs) (struct_at m))
  struct_unmarked xs m e f = fails_then e _ _ (fails_same e _ _ (struct_is m) (fails_then e _ _ (fails_same e _ _ (sym (after-nothing _)) f)))

  struct_marks : (m : ℕ) (ys : List Attribute) (n : ℕ) → marks.after [] (read_any ts aliases 0 (m + 1)) ≡ Ok (ys, n)
      → struct_at m ≡ struct_by m (is_attribute_sign (sign_at ts aliases (m + 1))) ys n
  struct_marks m ys n h = struct_is m ∙ goes _ _ ys n (sym (after-nothing _) ∙ h)

  pub struct_tagless : (xs : List Item) (m : ℕ) (ys : List Attribute) (n : ℕ) (e : SyntaxRefusal) → marks.after [] (read_any ts aliases 0 (m + 1)) ≡ Ok (ys, n)
      → Fails e (tag_at ts aliases n) → Fails e (after (item_shapes xs) (struct_at m))
  struct_tagless xs m ys n e h f = fails_then e _ _ (fails_same e _ _ (struct_marks m ys n h) (fails_then e _ _ f))

  pub struct_marked : (xs : List Item) (m : ℕ) (ys : List Attribute) (n : ℕ) (tag : Identifier) (i : ℕ) → marks.after [] (read_any ts aliases 0 (m + 1)) ≡ Ok (ys, n)
      → tag_at ts aliases n ≡ Ok (tag, i) → is_attribute_sign (sign_at ts aliases (m + 1)) ≡ true
      → after (item_shapes xs) (struct_at m) ≡ after (item_shapes xs) (structure_at ts aliases false m ys (Some tag) i)
  struct_marked xs m ys n tag i h k a = ap (after (item_shapes xs)) (struct_marks m ys n h ∙ goes _ _ tag i k ∙ chosen _ _ _ a)

  struct_plain : (m : ℕ) (ys : List Attribute) (n : ℕ) (tag : Identifier) (i : ℕ) → marks.after [] (read_any ts aliases 0 (m + 1)) ≡ Ok (ys, n)
      → tag_at ts aliases n ≡ Ok (tag, i) → is_attribute_sign (sign_at ts aliases (m + 1)) ≡ false
      → struct_at m
      ≡ choose (sees ts (an_open_brace aliases) i) (structure_at ts aliases false m ys (Some tag) i)
      (choose (sees ts (a_semicolon aliases) i) (Ok ([], i + 1)) (going_items ts (declared_of ts aliases bodies (structure tag) i) i))
  struct_plain m ys n tag i h k a = struct_marks m ys n h ∙ goes _ _ tag i k ∙ other _ _ _ a

  pub struct_bodied : (xs : List Item) (m : ℕ) (ys : List Attribute) (n : ℕ) (tag : Identifier) (i : ℕ) → marks.after [] (read_any ts aliases 0 (m + 1)) ≡ Ok (ys, n)
      → tag_at ts aliases n ≡ Ok (tag, i) → is_attribute_sign (sign_at ts aliases (m + 1)) ≡ false → sign_at ts aliases i ≡ sign.OpenBrace
      → after (item_shapes xs) (struct_at m) ≡ after (item_shapes xs) (structure_at ts aliases false m ys (Some tag) i)
  struct_bodied xs m ys n tag i h k a e =
      ap (after (item_shapes xs)) (struct_plain m ys n tag i h k a ∙ chosen _ _ _ (ap (λ s. nat_eq (mark s) 17) e))

  pub struct_alone : (xs : List Item) (m : ℕ) (ys : List Attribute) (n : ℕ) (tag : Identifier) (i : ℕ) → marks.after [] (read_any ts aliases 0 (m + 1)) ≡ Ok (ys, n)
      → tag_at ts aliases n ≡ Ok (tag, i) → is_attribute_sign (sign_at ts aliases (m + 1)) ≡ false → sign_at ts aliases i ≡ sign.Semicolon
      → after (item_shapes xs) (struct_at m) ≡ Ok (item_shapes xs, i + 1)
  struct_alone xs m ys n tag i h k a e =
      goes _ _ [] (i + 1)
      (struct_plain m ys n tag i h k a ∙ other _ _ _ (ap (λ s. nat_eq (mark s) 17) e) ∙ chosen _ _ _ (ap (λ s. nat_eq (mark s) 19) e))
      ∙ ap (λ ys. Ok (ys, i + 1)) (append-nil (item_shapes xs))

  pub struct_named : (xs : List Item) (m : ℕ) (ys : List Attribute) (n : ℕ) (tag : Identifier) (i : ℕ) → marks.after [] (read_any ts aliases 0 (m + 1)) ≡ Ok (ys, n)
      → tag_at ts aliases n ≡ Ok (tag, i) → is_attribute_sign (sign_at ts aliases (m + 1)) ≡ false
      → sign_at ts aliases i ≢ sign.OpenBrace → sign_at ts aliases i ≢ sign.Semicolon
      → after (item_shapes xs) (struct_at m) ≡ after (item_shapes xs) (going_items ts (declared_of ts aliases bodies (structure tag) i) i)
  struct_named xs m ys n tag i h k a b c =
      ap (after (item_shapes xs))
      (struct_plain m ys n tag i h k a ∙ other _ _ _ (not_open_brace (sign_at ts aliases i) b) ∙ other _ _ _ (not_semicolon (sign_at ts aliases i) c))

  -- after `enum`
  abbrev enum_at : ℕ → Outcome (List UnitItem)
  enum_at m = going_items ts (enumeration_row ts aliases bodies m) (m + 1)

  abbrev of_enum : Identifier → ℕ → Outcome (List UnitItem)
  of_enum tag n = going_items ts (declared_of ts aliases bodies (enumerated tag) n) n

  abbrev enum_by : (m : ℕ) → Option Identifier → ℕ → Outcome (List UnitItem)
  enum_by m = at_tag ts aliases (enumeration_at ts aliases false m) of_enum

  enum_is : (m : ℕ) → enum_at m ≡ then (opening_at ts aliases (m + 1)) (enum_by m)
  unfolding opening_at tag_at enumeration_at
  enum_is m =
      opening-law (sees ts (an_open_brace aliases) (m + 1)) (is_tag (sign_at ts aliases (m + 1))) (m + 1) (identifier_at ts (m + 1)) _ _ (enum_by m) refl refl

  pub enum_unopened : (xs : List Item) (m : ℕ) (e : SyntaxRefusal) → Fails e (opening_at ts aliases (m + 1)) → Fails e (after (item_shapes xs) (enum_at m))
  enum_unopened xs m e f = fails_then e _ _ (fails_same e _ _ (enum_is m) (fails_then e _ _ f))

  pub enum_bodied : (xs : List Item) (m start : ℕ) (t : Option Name) (n : ℕ) → opening_at ts aliases (m + 1) ≡ Ok (option_map name_shape t, n)
      → used_at ts aliases t n ≡ None → start ≡ m
      → after (item_shapes xs) (enum_at m) ≡ after (item_shapes xs) (enumeration_at ts aliases false start (option_map name_shape t) n)
  enum_bodied xs m start t n h e q =
      ap (after (item_shapes xs)) (enum_is m ∙ goes _ _ (option_map name_shape t) n h ∙ at_body ts aliases (enumeration_at ts aliases false m) of_enum t n e)
      ∙ ap (λ start. after (item_shapes xs) (enumeration_at ts aliases false start (option_map name_shape t) n)) (sym q)

  pub enum_named : (xs : List Item) (m : ℕ) (t : Option Name) (x : Name) (n : ℕ) → opening_at ts aliases (m + 1) ≡ Ok (option_map name_shape t, n) → used_at ts aliases t n ≡ Some x
      → after (item_shapes xs) (enum_at m) ≡ after (item_shapes xs) (going_items ts (declared_of ts aliases bodies (enumerated (name_shape x)) n) n)
  enum_named xs m t x n h e = ap (after (item_shapes xs)) (enum_is m ∙ goes _ _ (option_map name_shape t) n h ∙ at_use ts aliases (enumeration_at ts aliases false m) of_enum t x n e)

pub ruleset used = (used_none, used_tag)

pub ruleset structs = (struct_unmarked, struct_tagless, struct_marked, struct_bodied, struct_alone, struct_named, gives_same)

pub ruleset enums = (enum_unopened, enum_bodied, enum_named, gives_same)

pub ruleset enum_aliases = (enum_alias_unopened, enum_alias_bodied, enum_alias_named, gives_same)

pub ruleset struct_aliases = (struct_alias_unmarked, struct_alias_unopened, struct_alias_marked, struct_alias_bodied, struct_alias_named, gives_same)
