-- Operators give no pointers.
use Rattle.std.proofs.Common.{◌≡◌, ℕ, Bool, true, false, ◌&&◌, Option, Some, None, option_and_then}
use Rattle.tsa_tree.specs.declared.expr.BinaryOp.{BinaryOp}
use Rattle.tsa_tree.specs.declared.expr.BinaryOp.TheVariants as op
use Rattle.tsa_tree.specs.declared.expr.UnaryOp.{UnaryOp}
use Rattle.tsa_tree.specs.declared.expr.UnaryOp.TheVariants as prefix
use Rattle.tsa_tree.specs.declared.kind.Kind.{Kind}
use Rattle.tsa_tree.specs.declared.kind.Kind.TheVariants as type
use Rattle.tsa_tree.specs.types.Operands.{integer_kind}
use Rattle.tsa_core.specs.Kinds.{binary_kind, conversion_kind, if_so, of_arithmetic, of_bits, of_both, prefix_kind}

module _ (n : ℕ) (c : Bool) where
  abbrev IsPointer : Option Kind → Type 0
  IsPointer o = o ≡ Some (type.Pointer n c)

  if_int : (b : Bool) → IsPointer (if_so b type.Int) → ⊥
  if_int true e = cc
  if_int false e = cc

  if_integer : (b : Bool) (kind : Kind) → IsPointer (if_so (integer_kind kind && b) kind) → ⊥
  if_integer b type.Int e = if_int b e
  if_integer true type.Unsigned e = cc
  if_integer false type.Unsigned e = cc
  if_integer b type.Void e = cc
  if_integer b (type.Structure m) e = cc
  if_integer b (type.Pointer m d) e = cc
  if_integer b type.Null e = cc
  if_integer b type.Function e = cc

  arithmetic : (a b : Kind) → IsPointer (of_arithmetic a b) → ⊥
  arithmetic type.Int type.Int e = cc
  arithmetic type.Int type.Unsigned e = cc
  arithmetic type.Unsigned type.Int e = cc
  arithmetic type.Unsigned type.Unsigned e = cc
  arithmetic a b e = cc

  bits : (a b : Kind) → IsPointer (of_bits a b) → ⊥
  bits type.Int type.Int e = cc
  bits type.Int type.Unsigned e = cc
  bits type.Unsigned type.Int e = cc
  bits type.Unsigned type.Unsigned e = cc
  bits a b e = cc

  binary : (o : BinaryOp) (a b : Kind) → IsPointer (binary_kind o a b) → ⊥
  binary op.Or a b e = if_int _ e
  binary op.And a b e = if_int _ e
  binary op.BitOr a b e = bits a b e
  binary op.BitXor a b e = bits a b e
  binary op.BitAnd a b e = bits a b e
  binary op.Equal a b e = if_int _ e
  binary op.Unequal a b e = if_int _ e
  binary op.Less a b e = if_int _ e
  binary op.More a b e = if_int _ e
  binary op.LessEqual a b e = if_int _ e
  binary op.MoreEqual a b e = if_int _ e
  binary op.Plus a b e = arithmetic a b e
  binary op.Minus a b e = arithmetic a b e
  binary op.Times a b e = arithmetic a b e
  binary op.Divide a b e = arithmetic a b e
  binary op.Remainder a b e = arithmetic a b e

  pub joined_gives_none : (o : BinaryOp) (a b : Option Kind) → IsPointer (of_both (binary_kind o) a b) → ⊥
  joined_gives_none o (Some a) (Some b) e = binary o a b e
  joined_gives_none o None b e = cc
  joined_gives_none o (Some a) None e = cc

  unary : (o : UnaryOp) (a : Kind) → IsPointer (prefix_kind o a) → ⊥
  unary prefix.Minus type.Int e = cc
  unary prefix.Minus type.Unsigned e = cc
  unary prefix.Minus a e = cc
  unary prefix.Not a e = if_int _ e
  unary prefix.Flip type.Unsigned e = cc
  unary prefix.Flip a e = cc
  unary prefix.Address a e = cc
  unary prefix.Follow a e = cc

  pub prefixed_gives_none : (o : UnaryOp) (a : Option Kind) → IsPointer (option_and_then (prefix_kind o) a) → ⊥
  prefixed_gives_none o (Some a) e = unary o a e
  prefixed_gives_none o None e = cc

  pub converted_gives_none : (kind : Kind) (a : Option Kind) → IsPointer (option_and_then (conversion_kind kind) a) → ⊥
  converted_gives_none kind (Some a) e = if_integer (integer_kind a) kind e
  converted_gives_none kind None e = cc
