-- The row of any expression, typed or not, is read as one part, so that what stands aside leaves nothing.
use Rattle.std.proofs.Common.{◌≡◌, ◌∙◌, ℕ, suc, Bool, List, [], ◌∷◌, ◌++◌, length, Option, Some, None, refl, ap}
use Rattle.tsa_tree.specs.attributes.Syntax.{Attribute}
use Rattle.tsa_tree.specs.declarations.Syntax.{Initialiser, Initialisers, value, list, no_more, one_more}
use Rattle.tsa_tree.specs.declared.kind.Kind.{Kind}
use Rattle.tsa_tree.specs.declared.kind.ThingType.{ThingType}
use Rattle.tsa_tree.specs.expressions.Syntax.{Expression, Arguments, number, null, named, call, unary, binary, field, index}
use Rattle.tsa_tree.specs.expressions.Syntax as args
use Rattle.tsa_tree.specs.points.Syntax.{expression_span}
use Rattle.tsa_tree.specs.types.Expressions.{type_of}
use Rattle.tsa_tree.specs.types.Scopes.{Scope, context_of, known_in}
use Rattle.tsa_types_row.specs.BodyRows.{bare_node, marked_row, aside, aside_given, aside_all, aside_attributes, aside_init, aside_items}
use Rattle.tsa_types_row.specs.ExpressionRows.{entry_function, args_count, member_op, member_of, callee_node, node_in, row_in, row_in_all}
use Rattle.tsa_types_row.specs.Rows.{sized, framed}
use Rattle.tsa_types_row.specs.declared.node.Node.{Node}
use Rattle.tsa_types_row.specs.declared.node.Op.TheVariants as op
use Rattle.tsa_core_rows.specs.Laws.{with_part}
use Rattle.tsa_core_rows.specs.Reading.{Part, Reading, behind_parts, args_read, read_call, read_node, read_before}

abbrev pub with_parts : List Part → Reading → Reading
with_parts ps r = record { parts = ps ++ r.parts; points = r.points }

module _ (params : ℕ → List ThingType) (result : Kind) where
  -- what two rows are read as, one behind the other, and what a node with its parts is read as
  pub read_append : (xs ys : List Node) (r : Reading) → read_before params result (xs ++ ys) r ≡ read_before params result xs (read_before params result ys r)
  read_append [] ys r = refl
  read_append (node ∷ xs) ys r = ap (read_node params result node) (read_append xs ys r)

  pub read_framed : (node : Node) (row : List Node) (r s : Reading) → read_before params result row r ≡ s
      → read_before params result (framed node row) r ≡ read_node params result (sized (suc (length row)) node) s
  read_framed node row r s e = ap (read_node params result (sized (suc (length row)) node)) e

  pub read_both : (xs ys : List Node) (r s t : Reading) → read_before params result ys r ≡ s → read_before params result xs s ≡ t → read_before params result (xs ++ ys) r ≡ t
  read_both xs ys r s t e g = read_append xs ys r ∙ ap (read_before params result xs) e ∙ g

  abbrev IsPart : List Node → Reading → Type 0
  IsPart row r = (p : Part) × (read_before params result row r ≡ with_part p r)

  abbrev AreParts : ℕ → List Node → Reading → Type 0
  AreParts n row r = (ps : List Part) × ((read_before params result row r ≡ with_parts ps r) × (behind_parts n (ps ++ r.parts) ≡ r.parts))

  -- a member, whether its struct has it or not
  member_part : (arrow : Bool) (m : Option (ℕ × ThingType)) (node : Node) (p : Part) (r : Reading)
      → (q : Part) × (read_node params result (record { op = member_op arrow m; thing = node.thing; worth = node.worth; size = node.size; span = node.span }) (with_part p r) ≡ with_part q r)
  member_part arrow None node p r = (_, refl)
  member_part arrow (Some m) node p r = (_, refl)

  module _ (here : Scope) (f : ℕ) where
    mutual
      unfolding row_in row_in_all

      pub one_part : (e : Expression) (r : Reading) → IsPart (row_in here f e) r
      one_part (number n u span) r = (_, refl)
      one_part (null span) r = (_, refl)
      one_part (named name span) r = (_, refl)
      one_part (call callee given span) r =
          let node = node_in here f (call callee given span) in
          let row = framed (callee_node f callee (known_in here callee.text)) [] ++ row_in_all here f given in
          let q = all_parts given r in
          let function = entry_function (known_in here callee.text) in
          let p = read_call function (args_read (params function) (args_count given) (q.0 ++ r.parts)) node.thing in
          (p, read_framed node row r (with_parts q.0 r) q.1.0 ∙ ap (λ ps. record { parts = p ∷ ps; points = r.points }) q.1.1)
      one_part (unary o inner span) r =
          let p = one_part inner r in
          (_, read_framed (node_in here f (unary o inner span)) (row_in here f inner) r (with_part p.0 r) p.1)
      one_part (binary o left right span) r =
          let q = one_part right r in
          let p = one_part left (with_part q.0 r) in
          let row = row_in here f left ++ row_in here f right in
          let both = with_part p.0 (with_part q.0 r) in
          (_, read_framed (node_in here f (binary o left right span)) row r both (read_both (row_in here f left) (row_in here f right) r (with_part q.0 r) both q.1 p.1))
      one_part (field base name arrow span) r =
          let node = node_in here f (field base name arrow span) in
          let p = one_part base r in
          let m = member_part arrow (member_of here arrow name.text (type_of (context_of here) base)) (sized (suc (length (row_in here f base))) node) p.0 r in
          (m.0, read_framed node (row_in here f base) r (with_part p.0 r) p.1 ∙ m.1)
      one_part (index base at span) r =
          let q = one_part at r in
          let p = one_part base (with_part q.0 r) in
          let row = row_in here f base ++ row_in here f at in
          let both = with_part p.0 (with_part q.0 r) in
          (_, read_framed (node_in here f (index base at span)) row r both (read_both (row_in here f base) (row_in here f at) r (with_part q.0 r) both q.1 p.1))

      all_parts : (given : Arguments) (r : Reading) → AreParts (args_count given) (row_in_all here f given) r
      all_parts args.none r = ([], (refl, refl))
      all_parts (args.more first rest) r =
          let q = all_parts rest r in
          let p = one_part first (with_parts q.0 r) in (
            p.0 ∷ q.0,
            (read_both (row_in here f first) (row_in_all here f rest) r (with_parts q.0 r) (with_parts (p.0 ∷ q.0) r) q.1.0 p.1, q.1.1),
          )

  -- what stands aside leaves nothing
  abbrev pub LeavesNothing : List Node → Type 0
  LeavesNothing row = (r : Reading) → read_before params result row r ≡ r

  pub nothing_left : (xs ys : List Node) → LeavesNothing xs → LeavesNothing ys → LeavesNothing (xs ++ ys)
  nothing_left xs ys h g r = read_both xs ys r r r (g r) (h r)

  module _ (here : Scope) (f : ℕ) where
    pub read_aside : (e : Expression) → LeavesNothing (aside here f e)
    unfolding marked_row
    read_aside e r = let p = one_part here f e r in read_framed (bare_node op.Aside (expression_span e)) (row_in here f e) r (with_part p.0 r) p.1

    pub read_aside_given : (e : Option Expression) → LeavesNothing (aside_given here f e)
    read_aside_given None r = refl
    read_aside_given (Some e) r = read_aside e r

    read_aside_all : (given : Arguments) → LeavesNothing (aside_all here f given)
    unfolding aside_all
    read_aside_all args.none r = refl
    read_aside_all (args.more first rest) r = nothing_left (aside here f first) (aside_all here f rest) (read_aside first) (read_aside_all rest) r

    pub read_aside_attributes : (attrs : List Attribute) → LeavesNothing (aside_attributes here f attrs)
    unfolding aside_attributes
    read_aside_attributes [] r = refl
    read_aside_attributes (a ∷ rest) r = nothing_left (aside_all here f a.args) (aside_attributes here f rest) (read_aside_all a.args) (read_aside_attributes rest) r

    mutual
      unfolding aside_init aside_items

      read_aside_init : (i : Initialiser) → LeavesNothing (aside_init here f i)
      read_aside_init (value e) r = read_aside e r
      read_aside_init (list items span) r = read_aside_items items r

      pub read_aside_items : (items : Initialisers) → LeavesNothing (aside_items here f items)
      read_aside_items no_more r = refl
      read_aside_items (one_more first rest) r = nothing_left (aside_init here f first) (aside_items here f rest) (read_aside_init first) (read_aside_items rest) r
