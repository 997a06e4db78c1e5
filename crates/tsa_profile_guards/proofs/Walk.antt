-- What the walk over an expression comes to at each node.
use Rattle.std.proofs.Common.{◌≡◌, ◌∙◌, ℕ, Bool, true, false, not, List, [], ◌∷◌, ◌++◌, Option, Some, None, map, refl, ap, if◌then◌else◌}
use Rattle.std.specs.Prelude.{option_and_then}
use Rattle.std.proofs.lemmas.List.{append_assoc, map-append}
use Rattle.tsa_base.specs.declared.token.Span.{Span}
use Rattle.tsa_tree.specs.declared.expr.BinaryOp.{BinaryOp}
use Rattle.tsa_tree.specs.declared.expr.BinaryOp.TheVariants as op
use Rattle.tsa_tree.specs.declared.expr.UnaryOp.TheVariants as prefix
use Rattle.tsa_tree.specs.declared.kind.Kind.TheVariants as type
use Rattle.tsa_tree.specs.declared.kind.ThingType.{ThingType}
use Rattle.tsa_tree.specs.expressions.Syntax.{Identifier, Expression, Arguments, number, null, named, call, unary, binary, field, index}
use Rattle.std.specs.Borrow.{Bor}
use Rattle.tsa_tree.proofs.expressions.Trees.{call_at}
use Rattle.tsa_tree.specs.declared.expr.Expr.{Expr}
use Rattle.tsa_tree.specs.declared.expr.ExprKind.{Call}
use Rattle.tsa_tree.specs.declared.expr.Name.{Name}
use Rattle.tsa_tree.specs.expressions.Shapes.{name_shape, shape, shapes}
use Rattle.tsa_tree.specs.types.Expressions.{number_type}
use Rattle.tsa_tree.specs.types.Operands.{binary_type, element_type}
use Rattle.tsa_tree.specs.types.Scopes.{Scope, known_in}
use Rattle.tsa_tree.specs.types.Types.{value}
use Rattle.tsa_place_model.specs.LockPaths.{element_step, leads, name_way}
use Rattle.tsa_place_model.specs.Calls.{Layout}
use Rattle.tsa_core.specs.Cells.{argument_cells, cells_read, inner_cells}
use Rattle.tsa_core.specs.Meanings.{is_loaded, is_place, meaning, of_call, of_name, of_prefix, operands, to_member}
use Rattle.tsa_core.specs.Terms.{Sense}
use Rattle.tsa_core.specs.Uses.{access_guards, name_guards}
use Rattle.tsa_profile_accesses.specs.Accesses.{Access}
use Rattle.tsa_profile_guards.specs.Accesses.{access, accesses, before}
use Rattle.tsa_profile_guards.specs.Values.{name_read}
use Rattle.tsa_profile_accesses.specs.ExpressionViews.{a_value, behind, cells_behind, loaded, meant_as, member_of, seen_of, thing_of, typed}
use Rattle.tsa_profile_accesses.specs.ExpressionViews.{value_of}

-- no operator gives a place
no_place : (o : BinaryOp) (l r : Sense) → is_place (operands o l r) ≡ false
no_place op.Or l r = refl
no_place op.And l r = refl
no_place op.BitOr l r = refl
no_place op.BitXor l r = refl
no_place op.BitAnd l r = refl
no_place op.Equal l r = refl
no_place op.Unequal l r = refl
no_place op.Less l r = refl
no_place op.More l r = refl
no_place op.LessEqual l r = refl
no_place op.MoreEqual l r = refl
no_place op.Plus l r = refl
no_place op.Minus l r = refl
no_place op.Times l r = refl
no_place op.Divide l r = refl
no_place op.Remainder l r = refl

-- a member is a place with a type by the type of what has it
member_by_type : (arrow : Bool) (s : Sense) (m : Option (ℕ × ThingType)) → thing_of (to_member arrow s m) ≡ thing_of (to_member arrow (typed s.type) m)
member_by_type arrow s None = refl
member_by_type arrow s (Some m) = refl

module _ (l : Layout) (stable : ℕ → Bool) (here : Scope) where
  pub seen_type : (p : Bool) (e : Expression) → (seen_of l stable here p e).thing.expression ≡ (meaning here e).type
  unfolding seen_of
  seen_type p e = refl

  pub number_seen : (p : Bool) (n : ℕ) (u : Bool) (span : Span) → seen_of l stable here p (number n u span) ≡ a_value (value_of (number_type n u))
  unfolding seen_of meaning leads access_guards
  number_seen p n u span = refl

  pub null_seen : (p : Bool) (span : Span) → seen_of l stable here p (null span) ≡ a_value (value_of (value type.Null))
  unfolding seen_of meaning leads access_guards
  null_seen p span = refl

  pub named_seen : (p : Bool) (name : Identifier) (span : Span) → seen_of l stable here p (named name span)
      ≡ meant_as p (record {
        thing = thing_of (of_name (known_in here name.text));
        led = option_and_then (name_way stable here name.text) (known_in here name.text);
        guards = name_guards l here name.text (known_in here name.text);
      })
  unfolding seen_of meaning leads access_guards
  named_seen p name span = refl

  pub call_seen : (p : Bool) (callee : Identifier) (args : Arguments) (span : Span)
      → seen_of l stable here p (call callee args span) ≡ a_value (thing_of (of_call (known_in here callee.text)))
  unfolding seen_of meaning leads access_guards
  call_seen p callee args span = refl

  pub address_seen : (p : Bool) (inner : Expression) (span : Span) → seen_of l stable here p (unary prefix.Address inner span)
      ≡ record {
        thing = thing_of (of_prefix prefix.Address (typed (seen_of l stable here false inner).thing.expression));
        led = if p then (seen_of l stable here false inner).led else None;
        guards = [];
      }
  unfolding seen_of meaning leads access_guards
  address_seen true inner span = refl
  address_seen false inner span = refl

  pub follow_seen : (p : Bool) (inner : Expression) (span : Span) → seen_of l stable here p (unary prefix.Follow inner span)
      ≡ record {
        thing = thing_of (of_prefix prefix.Follow (typed (loaded (seen_of l stable here true inner)).thing.expression));
        led = if not p then (loaded (seen_of l stable here true inner)).led else None;
        guards = [];
      }
  unfolding seen_of meaning leads access_guards
  follow_seen true inner span = refl
  follow_seen false inner span = refl

  pub minus_seen : (p : Bool) (inner : Expression) (span : Span)
      → seen_of l stable here p (unary prefix.Minus inner span) ≡ a_value (thing_of (of_prefix prefix.Minus (typed (meaning here inner).type)))
  unfolding seen_of meaning leads access_guards
  minus_seen true inner span = refl
  minus_seen false inner span = refl

  pub not_seen : (p : Bool) (inner : Expression) (span : Span)
      → seen_of l stable here p (unary prefix.Not inner span) ≡ a_value (thing_of (of_prefix prefix.Not (typed (meaning here inner).type)))
  unfolding seen_of meaning leads access_guards
  not_seen true inner span = refl
  not_seen false inner span = refl

  pub flip_seen : (p : Bool) (inner : Expression) (span : Span)
      → seen_of l stable here p (unary prefix.Flip inner span) ≡ a_value (thing_of (of_prefix prefix.Flip (typed (meaning here inner).type)))
  unfolding seen_of meaning leads access_guards
  flip_seen true inner span = refl
  flip_seen false inner span = refl

  pub binary_seen : (p : Bool) (o : BinaryOp) (left right : Expression) (span : Span)
      → seen_of l stable here p (binary o left right span) ≡ a_value (value_of (binary_type o (meaning here left).type (meaning here right).type))
  unfolding seen_of meaning leads access_guards
  binary_seen p o left right span =
      ap (λ b. a_value (record { expression = binary_type o (meaning here left).type (meaning here right).type; is_place = b }))
      (no_place o (meaning here left) (meaning here right))

  pub field_seen : (p : Bool) (base : Expression) (name : Identifier) (arrow : Bool) (span : Span)
      → seen_of l stable here p (field base name arrow span) ≡ meant_as p (member_of l here arrow name.text (behind arrow (seen_of l stable here arrow base)))
  unfolding seen_of meaning leads access_guards
  field_seen p base name true span =
      let found = member_of l here true name.text (loaded (seen_of l stable here true base)) in
      ap (λ t. meant_as p (record { thing = t; led = found.led; guards = found.guards })) (member_by_type true (meaning here base) _)
  field_seen p base name false span =
      let found = member_of l here false name.text (seen_of l stable here false base) in
      ap (λ t. meant_as p (record { thing = t; led = found.led; guards = found.guards })) (member_by_type false (meaning here base) _)

  pub index_seen : (p : Bool) (base at : Expression) (span : Span) → seen_of l stable here p (index base at span)
      ≡ meant_as p (record {
        thing = record { expression = element_type (seen_of l stable here false base).thing.expression; is_place = true };
        led = option_and_then (element_step stable here at) (seen_of l stable here false base).led;
        guards = (seen_of l stable here false base).guards;
      })
  unfolding seen_of meaning leads access_guards
  index_seen p base at span = refl

  pub before_nothing : (others : List Access) → before l stable here [] others ≡ others
  unfolding before accesses
  before_nothing others = refl

  pub before_append : (xs ys : List Expression) (others : List Access) → before l stable here (xs ++ ys) others ≡ before l stable here xs (before l stable here ys others)
  unfolding before accesses
  before_append xs ys others =
      ap (λ all. all ++ others) (map-append (access l stable here false) xs ys)
      ∙ append_assoc (map (access l stable here false) xs) (map (access l stable here false) ys) others

  pub number_is : (n : ℕ) (u : Bool) (span : Span) → (meaning here (number n u span)).type ≡ number_type n u
  unfolding meaning
  number_is n u span = refl

  pub number_read : (n : ℕ) (u : Bool) (span : Span) (others : List Access) → before l stable here (cells_read here (number n u span)) others ≡ others
  unfolding meaning inner_cells
  number_read n u span others = before_nothing others

  -- the value of a name
  pub named_type : (name : Identifier) (span : Span) → (meaning here (named name span)).type ≡ (thing_of (of_name (known_in here name.text))).expression
  unfolding meaning
  named_type name span = refl

  read_if : (b : Bool) (e : Expression) (a : Access) (others : List Access) → access l stable here false e ≡ a
      → map (access l stable here false) ((if b then e ∷ [] else []) ++ []) ++ others ≡ (if b then a ∷ [] else []) ++ others
  read_if true e a others is = ap (λ a. a ∷ others) is
  read_if false e a others is = refl

  pub named_read : (name : Identifier) (span : Span) (others : List Access)
      → before l stable here (cells_read here (named name span)) others ≡ name_read l here name.text span ++ others
  unfolding before accesses inner_cells access_guards meaning name_read
  named_read name span others = read_if (is_loaded (meaning here (named name span))) (named name span) _ others refl

  pub number_cells : (n : ℕ) (u : Bool) (span : Span) (others : List Access) → before l stable here (inner_cells here (number n u span)) others ≡ others
  unfolding inner_cells
  number_cells n u span others = before_nothing others

  pub null_cells : (span : Span) (others : List Access) → before l stable here (inner_cells here (null span)) others ≡ others
  unfolding inner_cells
  null_cells span others = before_nothing others

  pub named_cells : (name : Identifier) (span : Span) (others : List Access) → before l stable here (inner_cells here (named name span)) others ≡ others
  unfolding inner_cells
  named_cells name span others = before_nothing others

  pub call_cells : (callee : Identifier) (args : Arguments) (span : Span) (others : List Access)
      → before l stable here (inner_cells here (call callee args span)) others ≡ before l stable here (argument_cells here args) others
  unfolding inner_cells
  call_cells callee args span others = refl

  pub address_cells : (inner : Expression) (span : Span) (others : List Access)
      → before l stable here (inner_cells here (unary prefix.Address inner span)) others ≡ before l stable here (inner_cells here inner) others
  unfolding inner_cells
  address_cells inner span others = refl

  pub follow_cells : (inner : Expression) (span : Span) (others : List Access)
      → before l stable here (inner_cells here (unary prefix.Follow inner span)) others ≡ before l stable here (cells_read here inner) others
  unfolding inner_cells
  follow_cells inner span others = refl

  pub minus_cells : (inner : Expression) (span : Span) (others : List Access)
      → before l stable here (inner_cells here (unary prefix.Minus inner span)) others ≡ before l stable here (cells_read here inner) others
  unfolding inner_cells
  minus_cells inner span others = refl

  pub not_cells : (inner : Expression) (span : Span) (others : List Access)
      → before l stable here (inner_cells here (unary prefix.Not inner span)) others ≡ before l stable here (cells_read here inner) others
  unfolding inner_cells
  not_cells inner span others = refl

  pub flip_cells : (inner : Expression) (span : Span) (others : List Access)
      → before l stable here (inner_cells here (unary prefix.Flip inner span)) others ≡ before l stable here (cells_read here inner) others
  unfolding inner_cells
  flip_cells inner span others = refl

  pub binary_cells : (o : BinaryOp) (left right : Expression) (span : Span) (others : List Access)
      → before l stable here (inner_cells here (binary o left right span)) others
      ≡ before l stable here (cells_read here left) (before l stable here (cells_read here right) others)
  unfolding inner_cells
  binary_cells o left right span others = before_append (cells_read here left) (cells_read here right) others

  pub field_cells : (base : Expression) (name : Identifier) (arrow : Bool) (span : Span) (others : List Access)
      → before l stable here (inner_cells here (field base name arrow span)) others ≡ before l stable here (cells_behind arrow here base) others
  unfolding inner_cells
  field_cells base name true span others = refl
  field_cells base name false span others = refl

  pub index_cells : (base at : Expression) (span : Span) (others : List Access)
      → before l stable here (inner_cells here (index base at span)) others
      ≡ before l stable here (inner_cells here base) (before l stable here (cells_read here at) others)
  unfolding inner_cells
  index_cells base at span others = before_append (inner_cells here base) (cells_read here at) others

  -- the arguments of a node in the arena
  pub call_inside : (x : Expr) (callee : Name) (args : Bor (List Expr)) (others : List Access) → x.kind ≡ Call callee args
      → before l stable here (inner_cells here (shape x)) others ≡ before l stable here (argument_cells here (shapes args.now)) others
  call_inside x callee args others is =
      ap (λ e. before l stable here (inner_cells here e) others) (call_at x callee args is) ∙ call_cells (name_shape callee) (shapes args.now) x.span others

pub ruleset steps = (number_seen, null_seen, named_seen, call_seen, address_seen, follow_seen, minus_seen, not_seen, flip_seen, binary_seen, field_seen, index_seen, number_cells, null_cells, named_cells, call_cells, address_cells, follow_cells, minus_cells, not_cells, flip_cells, binary_cells, field_cells, index_cells)

-- numbers and names whose values are used
pub ruleset values = (number_is, number_read, named_type, named_read)
