-- The number 0 is read from no cell, and where null is wanted an integer is that number.
use Rattle.std.proofs.Common.{◌≡◌, ◌∙◌, ℕ, Bool, true, false, ◌&&◌, ◌||◌, [], Option, Some, None, is_some, is_none, refl, sym}
use Rattle.tsa_tree.specs.declared.expr.BinaryOp.{BinaryOp}
use Rattle.tsa_tree.specs.declared.expr.BinaryOp.TheVariants as op
use Rattle.tsa_tree.specs.declared.expr.UnaryOp.{UnaryOp}
use Rattle.tsa_tree.specs.declared.expr.UnaryOp.TheVariants as prefix
use Rattle.tsa_tree.specs.declared.kind.ExpressionType.{ExpressionType}
use Rattle.tsa_tree.specs.declared.kind.Kind.{Kind}
use Rattle.tsa_tree.specs.declared.kind.Kind.TheVariants as type
use Rattle.tsa_tree.specs.declared.kind.ThingType.{ThingType}
use Rattle.tsa_tree.specs.declared.meaning.Entry.{Entry}
use Rattle.tsa_tree.specs.declared.meaning.Meaning.{Meaning}
use Rattle.tsa_tree.specs.declared.meaning.Meaning.TheVariants as meant
use Rattle.tsa_tree.specs.expressions.Syntax.{Expression, number, null, named, call, unary, binary, field, index}
use Rattle.tsa_tree.specs.types.Expressions.{entry_type}
use Rattle.tsa_tree.specs.types.Operands.{integer_kind, pointer_kind, is_single, is_integer, is_pointer, target_of, same_target}
use Rattle.tsa_tree.specs.types.Operands.{keeps_const, null_beside, comparable, goes_to, prefix_type, binary_type}
use Rattle.tsa_tree.specs.types.Scopes.{Scope, known_in}
use Rattle.tsa_core.proofs.KindTests.{both_true, one_of, pointer_plain, integer_plain, integer_is, pointer_is}
use Rattle.tsa_core.specs.Cells.{inner_cells, argument_cells, cells_read}
use Rattle.tsa_core.specs.Meanings.{of_name, of_call, to_member, meaning}
use Rattle.tsa_core.specs.Terms.{Sense}
use Rattle.tsa_base.proofs.Truths.{never}

-- Only a number is a constant 0, and it is read from no cell.
named_nonzero : (m : Meaning) (t : ThingType) → (entry_type (record { meaning = m; thing = t })).is_zero ≡ false
named_nonzero (meant.Global n) t = refl
named_nonzero (meant.Local n) t = refl
named_nonzero (meant.Function n) t = refl
named_nonzero meant.Owned t = refl
named_nonzero (meant.Constant z) t = refl
named_nonzero meant.TypeName t = refl

name_nonzero : (o : Option Entry) → (of_name o).type.is_zero ≡ false
name_nonzero None = refl
name_nonzero (Some e) = named_nonzero e.meaning e.thing

pub call_nonzero : (o : Option Entry) → (of_call o).type.is_zero ≡ false
call_nonzero None = refl
call_nonzero (Some e) = refl

prefix_nonzero : (o : UnaryOp) (t : ExpressionType) → (prefix_type o t).is_zero ≡ false
prefix_nonzero prefix.Minus t = refl
prefix_nonzero prefix.Not t = refl
prefix_nonzero prefix.Flip t = refl
prefix_nonzero prefix.Address t = refl
prefix_nonzero prefix.Follow t = refl

binary_nonzero : (o : BinaryOp) (a b : ExpressionType) → (binary_type o a b).is_zero ≡ false
binary_nonzero op.Or a b = refl
binary_nonzero op.And a b = refl
binary_nonzero op.BitOr a b = refl
binary_nonzero op.BitXor a b = refl
binary_nonzero op.BitAnd a b = refl
binary_nonzero op.Equal a b = refl
binary_nonzero op.Unequal a b = refl
binary_nonzero op.Less a b = refl
binary_nonzero op.More a b = refl
binary_nonzero op.LessEqual a b = refl
binary_nonzero op.MoreEqual a b = refl
binary_nonzero op.Plus a b = refl
binary_nonzero op.Minus a b = refl
binary_nonzero op.Times a b = refl
binary_nonzero op.Divide a b = refl
binary_nonzero op.Remainder a b = refl

member_nonzero : (arrow : Bool) (s : Sense) (o : Option (ℕ × ThingType)) → (to_member arrow s o).type.is_zero ≡ false
member_nonzero arrow s None = refl
member_nonzero arrow s (Some m) = refl

pub zero_alone : (here : Scope) (e : Expression) → (meaning here e).type.is_zero ≡ true → cells_read here e ≡ []
unfolding meaning inner_cells argument_cells
zero_alone here (number n u span) z = refl
zero_alone here (null span) z = never (sym z)
zero_alone here (named name span) z = never (sym z ∙ name_nonzero (known_in here name.text))
zero_alone here (call callee args span) z = never (sym z ∙ call_nonzero (known_in here callee.text))
zero_alone here (unary o inner span) z = never (sym z ∙ prefix_nonzero o (meaning here inner).type)
zero_alone here (binary o left right span) z = never (sym z ∙ binary_nonzero o (meaning here left).type (meaning here right).type)
zero_alone here (field base name arrow span) z = never (sym z ∙ member_nonzero arrow (meaning here base) _)
zero_alone here (index base at span) z = never (sym z)

-- Beside a pointer only a constant 0 is null.
no_target : (k j : Kind) → integer_kind k ≡ true → same_target k j ≡ false
no_target type.Int j e = refl
no_target type.Unsigned j e = refl
no_target type.Void j e = never (sym e)
no_target (type.Structure n) j e = never (sym e)
no_target (type.Pointer n c) j e = never (sym e)
no_target type.Null j e = never (sym e)
no_target type.Function j e = never (sym e)

pub one_is_zero : (a b : ExpressionType) → comparable a b ≡ true → (pointer_kind b.thing.kind && integer_kind a.thing.kind) ≡ true → a.is_zero ≡ true
one_is_zero a b c e =
    let kinds = both_true (pointer_kind b.thing.kind) (integer_kind a.thing.kind) e in
    let plain = (pointer_plain b.thing.kind kinds.0).2 in
    let other = (integer_plain a.thing.kind kinds.1).2 in
    one_of (is_integer a && is_integer b) _ c
    (λ i. never (sym (integer_is b (both_true (is_integer a) (is_integer b) i).1).1 ∙ plain))
    (λ d. one_of (is_single a && (is_single b && same_target a.thing.kind b.thing.kind)) (null_beside a b || null_beside b a) d
    (λ p. never (sym (both_true (is_single b) _ (both_true (is_single a) _ p).1).1 ∙ no_target a.thing.kind b.thing.kind kinds.1))
    (λ n. one_of (null_beside a b) (null_beside b a) n
    (λ x. (both_true a.is_zero (is_pointer b) x).0)
    (λ y. never (sym (pointer_is a (both_true b.is_zero (is_pointer a) y).1).1 ∙ other))))

pub other_is_zero : (a b : ExpressionType) → comparable a b ≡ true → (pointer_kind a.thing.kind && integer_kind b.thing.kind) ≡ true → b.is_zero ≡ true
other_is_zero a b c e =
    let kinds = both_true (pointer_kind a.thing.kind) (integer_kind b.thing.kind) e in
    let plain = (pointer_plain a.thing.kind kinds.0).2 in
    let other = (integer_plain b.thing.kind kinds.1).2 in
    one_of (is_integer a && is_integer b) _ c
    (λ i. never (sym (integer_is a (both_true (is_integer a) (is_integer b) i).0).1 ∙ plain))
    (λ d. one_of (is_single a && (is_single b && same_target a.thing.kind b.thing.kind)) (null_beside a b || null_beside b a) d
    (λ p. never (sym (both_true (is_single b) _ (both_true (is_single a) _ p).1).1 ∙ no_number a.thing.kind b.thing.kind kinds.0 kinds.1))
    (λ n. one_of (null_beside a b) (null_beside b a) n
    (λ x. never (sym (pointer_is b (both_true a.is_zero (is_pointer b) x).1).1 ∙ other))
    (λ y. (both_true b.is_zero (is_pointer a) y).0)))
  where
    beside_pointer : (n : ℕ) (c : Bool) (j : Kind) → integer_kind j ≡ true → same_target (type.Pointer n c) j ≡ false
    beside_pointer n c type.Int e = refl
    beside_pointer n c type.Unsigned e = refl
    beside_pointer n c type.Void e = refl
    beside_pointer n c (type.Structure m) e = refl
    beside_pointer n c (type.Pointer m d) e = never (sym e)
    beside_pointer n c type.Null e = never (sym e)
    beside_pointer n c type.Function e = refl

    beside_none : (j : Kind) → integer_kind j ≡ true → same_target type.Null j ≡ false
    beside_none type.Int e = refl
    beside_none type.Unsigned e = refl
    beside_none type.Void e = refl
    beside_none (type.Structure m) e = refl
    beside_none (type.Pointer m d) e = never (sym e)
    beside_none type.Null e = never (sym e)
    beside_none type.Function e = refl

    no_number : (k j : Kind) → pointer_kind k ≡ true → integer_kind j ≡ true → same_target k j ≡ false
    no_number (type.Pointer n c) j e f = beside_pointer n c j f
    no_number type.Null j e f = beside_none j f
    no_number type.Int j e f = never (sym e)
    no_number type.Unsigned j e f = never (sym e)
    no_number type.Void j e f = never (sym e)
    no_number (type.Structure n) j e f = never (sym e)
    no_number type.Function j e f = never (sym e)

pub goes_zero : (t : ExpressionType) (w : ThingType) → goes_to t w ≡ true → (pointer_kind w.kind && integer_kind t.thing.kind) ≡ true → t.is_zero ≡ true
goes_zero t w goes e =
    let kinds = both_true (pointer_kind w.kind) (integer_kind t.thing.kind) e in
    one_of (is_integer t && integer_kind w.kind) _ (both_true (is_none w.length) _ goes).1
    (λ i. never (sym (both_true (is_integer t) (integer_kind w.kind) i).1 ∙ (pointer_plain w.kind kinds.0).2))
    (λ d. one_of (t.is_zero && is_some (target_of w.kind)) _ d
    (λ z. (both_true t.is_zero (is_some (target_of w.kind)) z).0)
    (λ p. let x = both_true (is_single t) _ p in
    let y = both_true (is_some (target_of w.kind)) _ x.1 in
    let z = both_true (same_target t.thing.kind w.kind) (keeps_const t.thing.kind w.kind) y.1 in
    never (sym z.0 ∙ no_target t.thing.kind w.kind kinds.1)))
