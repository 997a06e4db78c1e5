-- Rows of nodes one behind the other.
use native.Mathlib.Numerals.{unary_clauses}
use Rattle.std.proofs.Common.{◌≡◌, ◌∙◌, ◌+◌, ◌-◌, ℕ, suc, arith, Option, Result, Ok, Err, List, [], ◌∷◌, ◌++◌, drop, length, slice_set, refl, sym, ap}
use Rattle.std.proofs.lemmas.List.{append-nil, append_assoc}
use Rattle.tsa_base.proofs.Numbers.{plus_one}
use Rattle.tsa_tree.specs.declared.attr.Attr.{Attr}
use Rattle.tsa_tree.specs.declared.decl.Init.{Init}
use Rattle.tsa_tree.specs.declared.expr.Expr.{Expr}
use Rattle.tsa_tree.specs.attributes.Syntax.{attr_shape, attr_shapes}
use Rattle.tsa_tree.specs.declarations.Syntax.{Initialisers, list}
use Rattle.tsa_tree.specs.expressions.Syntax.{Identifier, Expression, Arguments, number, null, named, call, unary, binary, field, index}
use Rattle.tsa_tree.specs.declarations.Shapes.{init_shape, init_shapes}
use Rattle.tsa_tree.specs.expressions.Shapes.{shape, shapes}
use Rattle.tsa_base.specs.declared.token.Span.{Span}
use Rattle.tsa_tree.specs.declared.kind.ExpressionType.{ExpressionType}
use Rattle.tsa_tree.specs.declared.number.Number.{Number}
use Rattle.tsa_tree.specs.declared.premise.Failure.{Failure}
use Rattle.tsa_tree.specs.types.Expressions.{type_of}
use Rattle.tsa_tree.specs.types.Known.{Context}
use Rattle.tsa_tree.specs.types.Scopes.{Scope, context_of, known_in}
use Rattle.tsa_types_row.specs.Rows.{sized, framed, hole, closed}
use Rattle.tsa_types_row.specs.declared.node.Node.{Node}
use Rattle.tsa_types_row.specs.declared.node.Op.{Op}
use Rattle.tsa_types_row.specs.ExpressionRows.{args_count, callee_node, op_in, node_span, node_in, type_or_bare, row_in, row_in_all}
use Rattle.tsa_types_expressions.specs.Found.{found_in, found_value, constant_in}
use Rattle.tsa_types_expressions.specs.Parts.{found_thing}
use Rattle.tsa_types_expressions.specs.RowParts.{thing_or_bare, found_node, parts_in}
use Rattle.tsa_types_expressions.specs.Verdicts.{verdict_of}
use Rattle.tsa_types_expressions.specs.declared.constants.Found.{Found}
use Rattle.tsa_types_expressions.proofs.FoundLaws.{thing_same}
use Rattle.tsa_types_expressions.proofs.Steps.{found_is}
use Rattle.tsa_types_expressions.proofs.ValueLaws.{value_is}
use Rattle.tsa_types_row.specs.BodyRows.{aside, aside_all, aside_attributes, aside_init, aside_items}

-- nodes behind others
abbrev pub Notes : Type 0
Notes = List Node

abbrev pub noted : Notes → List Node → Notes
noted notes nodes = notes ++ nodes

pub noted_append : (notes : Notes) (xs ys : List Node) → noted notes (xs ++ ys) ≡ noted (noted notes xs) ys
noted_append notes xs ys = sym (append_assoc notes xs ys)

pub noted_nothing : (notes : Notes) → noted notes [] ≡ notes
noted_nothing notes = append-nil notes

-- a node that is put into its room stands in front of the parts that came since
less_nothing : (n : ℕ) → n - 0 ≡ n
less_nothing n = simp unary_clauses (refl {a = n})

less_one : (n m : ℕ) → suc n - suc m ≡ n - m
less_one n m = omega arith

closed_first : (x node : Node) (rest : List Node) → closed 0 node (x ∷ rest) ≡ framed node rest
closed_first x node rest = ap (λ n. sized n node ∷ rest) (less_nothing (suc (length rest)))

closed_next : (x node : Node) (n : ℕ) (rest : List Node) → closed (suc n) node (x ∷ rest) ≡ x ∷ closed n node rest
closed_next x node n rest = ap (λ m. x ∷ slice_set rest n (sized m node)) (less_one (length rest) n)

pub closed_row : (notes : Notes) (node : Node) (parts : List Node)
    → closed (length notes) node (noted (noted notes (hole ∷ [])) parts) ≡ noted notes (framed node parts)
closed_row [] node parts = closed_first hole node parts
closed_row (x ∷ notes) node parts =
    closed_next x node (length notes) (noted (noted notes (hole ∷ [])) parts) ∙ ap (λ row. x ∷ row) (closed_row notes node parts)

-- the same by what became of the row on the way
pub closed_is : (notes : Notes) (place : ℕ) (node : Node) (parts before : List Node) → place ≡ length notes → before ≡ noted (noted notes (hole ∷ [])) parts
    → closed place node before ≡ noted notes (framed node parts)
closed_is notes place node parts before at is =
    ap (λ i. closed i node before) at ∙ ap (closed (length notes) node) is ∙ closed_row notes node parts

pub ruleset notes = (noted_append, noted_nothing, closed_row)

-- an expression is its node in front of its parts
pub whole_row : (here : Scope) (f : ℕ) (e : Expression) → row_in here f e ≡ framed (node_in here f e) (parts_in here f e)
unfolding row_in parts_in
whole_row here f (number n u span) = refl
whole_row here f (null span) = refl
whole_row here f (named name span) = refl
whole_row here f (call callee given span) = refl
whole_row here f (unary o inner span) = refl
whole_row here f (binary o left right span) = refl
whole_row here f (field base name arrow span) = refl
whole_row here f (index base at span) = refl

-- the parts of a call are its name and its arguments
pub noted_call : (here : Scope) (f : ℕ) (notes : Notes) (callee : Identifier) (given : Arguments) (span : Span)
    → noted notes (parts_in here f (call callee given span))
    ≡ noted (noted notes (framed (callee_node f callee (known_in here callee.text)) [])) (row_in_all here f given)
unfolding parts_in
noted_call here f notes callee given span = noted_append notes (framed (callee_node f callee (known_in here callee.text)) []) (row_in_all here f given)

-- what an expression was found to be tells its type
pub type_is : (c : Context) (e : Expression) → found_thing (found_in c e) ≡ type_of c e
unfolding found_in
type_is c e = sym (thing_same (constant_in c e) (verdict_of c e)) ∙ sym (found_is c e)

thing_is : (found : Result Found Failure) → thing_or_bare found ≡ type_or_bare (found_thing found)
thing_is (Ok f) = refl
thing_is (Err failure) = refl

-- the node of an expression by its type and what it is worth
abbrev node_of : Scope → ℕ → Expression → ExpressionType → Option Number → Node
node_of here f e t worth = record { op = op_in here f e; thing = t; worth = worth; size = 1; span = node_span e }

-- a node by what was found is the node of the expression
pub node_is : (here : Scope) (f : ℕ) (e : Expr) (o : Op) (span : Span) (found : Result Found Failure) → o ≡ op_in here f (shape e) → span ≡ node_span (shape e)
    → found ≡ found_in (context_of here) (shape e) → found_node o span found ≡ node_in here f (shape e)
node_is here f e o span found at_op at_span is =
    ap (λ o. found_node o span found) at_op
    ∙ ap (λ s. found_node (op_in here f (shape e)) s found) at_span
    ∙ ap (λ x. found_node (op_in here f (shape e)) (node_span (shape e)) x) is
    ∙ ap (λ t. node_of here f (shape e) t (found_value (found_in (context_of here) (shape e)))) (thing_is (found_in (context_of here) (shape e)) ∙ ap type_or_bare (type_is (context_of here) (shape e)))
    ∙ ap (node_of here f (shape e) (type_or_bare (type_of (context_of here) (shape e)))) (value_is (context_of here) e)

pub ruleset whole = (whole_row)

-- as many arguments as there are in the arena
pub count_is : (xs : List Expr) → args_count (shapes xs) ≡ length xs
count_is [] = refl
count_is (x ∷ xs) = ap suc (count_is xs)

-- the nodes of a list element by element
module _ {A : Type 0} (nodes : List A → List Node) (one : A → List Node) (nil : nodes [] ≡ []) (more : (x : A) (xs : List A) → nodes (x ∷ xs) ≡ one x ++ nodes xs) where
  noted_end : (notes : Notes) (xs : List A) (i : ℕ) → drop i xs ≡ [] → noted notes (nodes (drop i xs)) ≡ notes
  noted_end notes xs i e = ap (λ ys. noted notes (nodes ys)) e ∙ ap (noted notes) nil ∙ noted_nothing notes

  noted_next : (notes : Notes) (xs : List A) (i : ℕ) (x : A) → drop i xs ≡ x ∷ drop (suc i) xs → (after : Notes) → after ≡ noted notes (one x)
      → noted after (nodes (drop (i + 1) xs)) ≡ noted notes (nodes (drop i xs))
  noted_next notes xs i x at after is =
      ap (λ n. noted n (nodes (drop (i + 1) xs))) is
      ∙ ap (λ j. noted (noted notes (one x)) (nodes (drop j xs))) (sym (plus_one i))
      ∙ sym (ap (λ ys. noted notes (nodes ys)) at ∙ ap (noted notes) (more x (drop (suc i) xs)) ∙ noted_append notes (one x) (nodes (drop (suc i) xs)))

module _ (here : Scope) (f : ℕ) where
  all_nil : row_in_all here f (shapes []) ≡ []
  unfolding row_in_all
  all_nil = refl

  all_more : (x : Expr) (xs : List Expr) → row_in_all here f (shapes (x ∷ xs)) ≡ row_in here f (shape x) ++ row_in_all here f (shapes xs)
  unfolding row_in_all
  all_more x xs = refl

  pub all_end : (notes : Notes) (xs : List Expr) (i : ℕ) → drop i xs ≡ [] → noted notes (row_in_all here f (shapes (drop i xs))) ≡ notes
  all_end = noted_end (λ xs. row_in_all here f (shapes xs)) (λ x. row_in here f (shape x)) all_nil all_more

  pub all_next : (notes : Notes) (xs : List Expr) (i : ℕ) (x : Expr) → drop i xs ≡ x ∷ drop (suc i) xs → (after : Notes)
      → after ≡ noted notes (row_in here f (shape x))
      → noted after (row_in_all here f (shapes (drop (i + 1) xs))) ≡ noted notes (row_in_all here f (shapes (drop i xs)))
  all_next = noted_next (λ xs. row_in_all here f (shapes xs)) (λ x. row_in here f (shape x)) all_nil all_more

  asides_nil : aside_all here f (shapes []) ≡ []
  unfolding aside_all
  asides_nil = refl

  asides_more : (x : Expr) (xs : List Expr) → aside_all here f (shapes (x ∷ xs)) ≡ aside here f (shape x) ++ aside_all here f (shapes xs)
  unfolding aside_all
  asides_more x xs = refl

  pub asides_end : (notes : Notes) (xs : List Expr) (i : ℕ) → drop i xs ≡ [] → noted notes (aside_all here f (shapes (drop i xs))) ≡ notes
  asides_end = noted_end (λ xs. aside_all here f (shapes xs)) (λ x. aside here f (shape x)) asides_nil asides_more

  pub asides_next : (notes : Notes) (xs : List Expr) (i : ℕ) (x : Expr) → drop i xs ≡ x ∷ drop (suc i) xs → (after : Notes)
      → after ≡ noted notes (aside here f (shape x))
      → noted after (aside_all here f (shapes (drop (i + 1) xs))) ≡ noted notes (aside_all here f (shapes (drop i xs)))
  asides_next = noted_next (λ xs. aside_all here f (shapes xs)) (λ x. aside here f (shape x)) asides_nil asides_more

  attributes_nil : aside_attributes here f (attr_shapes []) ≡ []
  unfolding aside_attributes
  attributes_nil = refl

  attributes_more : (x : Attr) (xs : List Attr)
      → aside_attributes here f (attr_shapes (x ∷ xs)) ≡ aside_all here f (attr_shape x).args ++ aside_attributes here f (attr_shapes xs)
  unfolding aside_attributes
  attributes_more x xs = refl

  pub attributes_end : (notes : Notes) (xs : List Attr) (i : ℕ) → drop i xs ≡ [] → noted notes (aside_attributes here f (attr_shapes (drop i xs))) ≡ notes
  attributes_end =
      noted_end (λ xs. aside_attributes here f (attr_shapes xs)) (λ x. aside_all here f (attr_shape x).args) attributes_nil attributes_more

  pub attributes_next : (notes : Notes) (xs : List Attr) (i : ℕ) (x : Attr) → drop i xs ≡ x ∷ drop (suc i) xs → (after : Notes)
      → after ≡ noted notes (aside_all here f (attr_shape x).args)
      → noted after (aside_attributes here f (attr_shapes (drop (i + 1) xs))) ≡ noted notes (aside_attributes here f (attr_shapes (drop i xs)))
  attributes_next =
      noted_next (λ xs. aside_attributes here f (attr_shapes xs)) (λ x. aside_all here f (attr_shape x).args) attributes_nil attributes_more

  items_nil : aside_items here f (init_shapes []) ≡ []
  unfolding aside_items
  items_nil = refl

  items_more : (x : Init) (xs : List Init)
      → aside_items here f (init_shapes (x ∷ xs)) ≡ aside_init here f (init_shape x) ++ aside_items here f (init_shapes xs)
  unfolding aside_items
  items_more x xs = refl

  pub items_end : (notes : Notes) (xs : List Init) (i : ℕ) → drop i xs ≡ [] → noted notes (aside_items here f (init_shapes (drop i xs))) ≡ notes
  items_end = noted_end (λ xs. aside_items here f (init_shapes xs)) (λ x. aside_init here f (init_shape x)) items_nil items_more

  pub items_next : (notes : Notes) (xs : List Init) (i : ℕ) (x : Init) → drop i xs ≡ x ∷ drop (suc i) xs → (after : Notes)
      → after ≡ noted notes (aside_init here f (init_shape x))
      → noted after (aside_items here f (init_shapes (drop (i + 1) xs))) ≡ noted notes (aside_items here f (init_shapes (drop i xs)))
  items_next = noted_next (λ xs. aside_items here f (init_shapes xs)) (λ x. aside_init here f (init_shape x)) items_nil items_more

  pub noted_list : (notes : Notes) (items : Initialisers) (span : _) → noted notes (aside_init here f (list items span)) ≡ noted notes (aside_items here f items)
  unfolding aside_init
  noted_list notes items span = refl
