-- Conversions and operators on values, worked out.
use Rattle.std.specs.Prelude.{◌≡◌, pos, negsuc, Some, None}
use Rattle.tsa_base.specs.declared.value.Value.TheVariants.{Int, Unsigned, Pointer}
use Rattle.tsa_tree.specs.declared.expr.BinaryOp.TheVariants as op
use Rattle.tsa_tree.specs.declared.expr.UnaryOp.TheVariants as prefix
use Rattle.tsa_tree.specs.declared.kind.Kind.TheVariants as type
use Rattle.tsa_sched.specs.declared.event.TrapKind.TheVariants as trap
use Rattle.tsa_mean.specs.Operators.{converted_to, operate_on, prefix_on}
use Rattle.tsa_mean.specs.Outs.{traps, yields}

pub record OperatorsAreAsWritten : Type 0 where
  -- a value of another kind of integer is the same modulo 2^32
  pub negative_becomes_unsigned : converted_to type.Unsigned (Int (negsuc 0)) ≡ yields (Unsigned 4294967295)
  pub great_becomes_int : converted_to type.Int (Unsigned 4294967295) ≡ yields (Int (negsuc 0))
  pub same_kind : converted_to type.Int (Int (negsuc 4)) ≡ yields (Int (negsuc 4))
  pub no_number : converted_to type.Int (Pointer (Some 3)) ≡ traps trap.NullPointer
  -- a sum of `int` has to be in range, and one of `unsigned` wraps
  pub sum_out_of_range : operate_on op.Plus (Int (pos 2147483647)) (Int (pos 1)) ≡ traps trap.Overflow
  pub sum_wraps : operate_on op.Plus (Unsigned 4294967295) (Unsigned 1) ≡ yields (Unsigned 0)
  pub sum_of_both : operate_on op.Plus (Int (negsuc 0)) (Unsigned 1) ≡ yields (Unsigned 0)
  -- what is divided by zero, and what has no quotient in range
  pub divided_by_zero : operate_on op.Divide (Int (pos 7)) (Int (pos 0)) ≡ traps trap.Division
  pub remainder_by_zero : operate_on op.Remainder (Unsigned 7) (Unsigned 0) ≡ traps trap.Division
  pub least_by_minus_one : operate_on op.Divide (Int (negsuc 2147483647)) (Int (negsuc 0)) ≡ traps trap.Overflow
  pub towards_zero : operate_on op.Divide (Int (negsuc 6)) (Int (pos 2)) ≡ yields (Int (negsuc 2))
  -- numbers of both kinds are compared as `unsigned`
  pub int_is_less : operate_on op.Less (Int (negsuc 0)) (Int (pos 1)) ≡ yields (Int (pos 1))
  pub unsigned_is_not_less : operate_on op.Less (Int (negsuc 0)) (Unsigned 1) ≡ yields (Int (pos 0))
  -- pointers are equal where they lead to the same place or to none, and nothing else is asked of them
  pub same_place : operate_on op.Equal (Pointer (Some 3)) (Pointer (Some 3)) ≡ yields (Int (pos 1))
  pub other_place : operate_on op.Unequal (Pointer (Some 3)) (Pointer (Some 4)) ≡ yields (Int (pos 1))
  pub null_and_place : operate_on op.Equal (Pointer None) (Pointer (Some 0)) ≡ yields (Int (pos 0))
  pub both_null : operate_on op.Equal (Pointer None) (Pointer None) ≡ yields (Int (pos 1))
  pub sum_of_pointers : operate_on op.Plus (Pointer (Some 3)) (Pointer (Some 4)) ≡ traps trap.NullPointer
  pub pointer_and_number : operate_on op.Equal (Pointer None) (Int (pos 0)) ≡ traps trap.NullPointer
  -- operators on one value
  pub minus_least : prefix_on prefix.Minus (Int (negsuc 2147483647)) ≡ traps trap.Overflow
  pub minus_one : prefix_on prefix.Minus (Unsigned 1) ≡ yields (Unsigned 4294967295)
  pub no_bit : prefix_on prefix.Flip (Unsigned 0) ≡ yields (Unsigned 4294967295)
  pub not_null : prefix_on prefix.Not (Pointer None) ≡ yields (Int (pos 1))
  pub not_three : prefix_on prefix.Not (Int (pos 3)) ≡ yields (Int (pos 0))
  pub minus_pointer : prefix_on prefix.Minus (Pointer (Some 3)) ≡ traps trap.NullPointer
