-- The names of the rows of expressions are those of the expressions.
use Rattle.std.proofs.Common.{◌≡◌, ◌∙◌, ℕ, Bool, List, [], ◌∷◌, ◌++◌, Option, Some, None, refl, ap}
use Rattle.std.proofs.lemmas.List.{append-nil}
use Rattle.std.proofs.lemmas.Grind.{flat_map-append}
use Rattle.tsa_tree.specs.attributes.Syntax.{Attribute}
use Rattle.tsa_tree.specs.declarations.Syntax.{Declaration, Initialiser, Initialisers, value, list, no_more, one_more}
use Rattle.tsa_tree.specs.expressions.Syntax.{Expression, Arguments, number, null, named, call, unary, binary, field, index}
use Rattle.tsa_tree.specs.expressions.Syntax as args
use Rattle.tsa_tree.specs.declared.kind.ThingType.{ThingType}
use Rattle.tsa_tree.specs.types.Expressions.{type_of}
use Rattle.tsa_tree.specs.types.Scopes.{Scope, context_of}
use Rattle.tsa_tree.specs.types.Symbols.{Names, name_at, use_of, names_in, names_in_all, names_in_given, names_in_attributes, names_in_init, names_in_items}
use Rattle.tsa_tree.specs.types.Symbols.{names_in_given_init, names_in_declaration}
use Rattle.tsa_types_row.specs.BodyRows.{aside, aside_given, aside_all, aside_attributes, aside_init, aside_items, aside_given_init, aside_declaration}
use Rattle.tsa_types_row.specs.BodyRows.{marked_row, row_in_init, row_in_given_init}
use Rattle.tsa_types_row.specs.ExpressionRows.{member_op, member_of, row_in, row_in_all}
use Rattle.tsa_types_row.specs.Rows.{names_read, op_symbol}
use Rattle.tsa_types_row.specs.declared.node.Node.{Node}

-- the names of one row behind another
pub read_append : (xs ys : List Node) → names_read (xs ++ ys) ≡ names_read xs ++ names_read ys
read_append xs ys = flat_map-append (λ n. name_at n.span (op_symbol n.op)) xs ys

-- what two rows bear, one behind the other
pub both : (xs ys : List Node) {ms ns : Names} → names_read xs ≡ ms → names_read ys ≡ ns → names_read (xs ++ ys) ≡ ms ++ ns
both xs ys {ms} {ns} p q = read_append xs ys ∙ ap (λ a. a ++ names_read ys) p ∙ ap (λ b. ms ++ b) q

-- the use of a member bears no name
no_name : (arrow : Bool) (member : Option (ℕ × ThingType)) → op_symbol (member_op arrow member) ≡ None
no_name arrow None = refl
no_name arrow (Some m) = refl

module _ (here : Scope) (f : ℕ) where
  mutual
    unfolding row_in row_in_all names_in names_in_all

    pub names : (e : Expression) → names_read (row_in here f e) ≡ names_in (context_of here) f e
    names (number n u span) = refl
    names (null span) = refl
    names (named name span) = append-nil (use_of (context_of here) f name)
    names (call callee given span) = ap (λ ns. use_of (context_of here) f callee ++ ns) (all_names given)
    names (unary o inner span) = names inner
    names (binary o left right span) = both (row_in here f left) (row_in here f right) (names left) (names right)
    names (field base name arrow span) =
        ap (λ o. name_at span o ++ names_read (row_in here f base)) (no_name arrow (member_of here arrow name.text (type_of (context_of here) base))) ∙ names base
    names (index base at span) = both (row_in here f base) (row_in here f at) (names base) (names at)

    pub all_names : (given : Arguments) → names_read (row_in_all here f given) ≡ names_in_all (context_of here) f given
    all_names args.none = refl
    all_names (args.more first rest) = both (row_in here f first) (row_in_all here f rest) (names first) (all_names rest)

  -- an expression behind a node that bears no name
  pub aside_names : (e : Expression) → names_read (aside here f e) ≡ names_in (context_of here) f e
  unfolding marked_row
  aside_names e = names e

  pub given_names : (e : Option Expression) → names_read (aside_given here f e) ≡ names_in_given (context_of here) f e
  given_names None = refl
  given_names (Some e) = aside_names e

  pub aside_all_names : (given : Arguments) → names_read (aside_all here f given) ≡ names_in_all (context_of here) f given
  unfolding aside_all names_in_all
  aside_all_names args.none = refl
  aside_all_names (args.more first rest) = both (aside here f first) (aside_all here f rest) (aside_names first) (aside_all_names rest)

  pub attribute_names : (attrs : List Attribute) → names_read (aside_attributes here f attrs) ≡ names_in_attributes (context_of here) f attrs
  unfolding aside_attributes names_in_attributes
  attribute_names [] = refl
  attribute_names (a ∷ rest) = both (aside_all here f a.args) (aside_attributes here f rest) (aside_all_names a.args) (attribute_names rest)

  mutual
    unfolding aside_init aside_items names_in_init names_in_items

    pub init_names : (i : Initialiser) → names_read (aside_init here f i) ≡ names_in_init (context_of here) f i
    init_names (value e) = aside_names e
    init_names (list items span) = items_names items

    pub items_names : (items : Initialisers) → names_read (aside_items here f items) ≡ names_in_items (context_of here) f items
    items_names no_more = refl
    items_names (one_more first rest) = both (aside_init here f first) (aside_items here f rest) (init_names first) (items_names rest)

  given_init_names : (i : Option Initialiser) → names_read (aside_given_init here f i) ≡ names_in_given_init (context_of here) f i
  given_init_names None = refl
  given_init_names (Some i) = init_names i

  -- the same where the value that a local begins with stands bare
  value_names : (i : Initialiser) → names_read (row_in_init here f i) ≡ names_in_init (context_of here) f i
  unfolding row_in_init names_in_init
  value_names (value e) = names e
  value_names (list items span) = items_names items

  begin_names : (i : Option Initialiser) → names_read (row_in_given_init here f i) ≡ names_in_given_init (context_of here) f i
  begin_names None = refl
  begin_names (Some i) = value_names i

  pub declaration_names : (d : Declaration) → names_read (aside_declaration here f d) ≡ names_in_declaration (context_of here) f d
  unfolding aside_declaration names_in_declaration
  declaration_names d = both (aside_given here f d.ctype.length) (aside_attributes here f d.attrs ++ aside_given_init here f d.init) (given_names d.ctype.length)
      (both (aside_attributes here f d.attrs) (aside_given_init here f d.init) (attribute_names d.attrs) (given_init_names d.init))

  pub local_names : (d : Declaration)
      → names_read (aside_given here f d.ctype.length ++ (aside_attributes here f d.attrs ++ row_in_given_init here f d.init))
      ≡ names_in_declaration (context_of here) f d
  unfolding names_in_declaration
  local_names d = both (aside_given here f d.ctype.length) (aside_attributes here f d.attrs ++ row_in_given_init here f d.init) (given_names d.ctype.length)
      (both (aside_attributes here f d.attrs) (row_in_given_init here f d.init) (attribute_names d.attrs) (begin_names d.init))
