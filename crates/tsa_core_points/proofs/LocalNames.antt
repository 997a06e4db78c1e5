-- Of all expressions only names are locals.
use Rattle.std.proofs.Common.{ℕ, ◌≡◌, Bool, Option, Some, None, refl}
use Rattle.tsa_base.specs.declared.token.Span.{Span}
use Rattle.tsa_tree.specs.declared.expr.Name.{Name}
use Rattle.tsa_tree.specs.declared.expr.ExprKind.{ExprKind}
use Rattle.tsa_tree.specs.declared.expr.ExprKind.TheVariants.{Number, Null, Named, Call', Unary', Binary', Field', Index'}
use Rattle.tsa_tree.specs.expressions.Shapes.{kind_shape}
use Rattle.tsa_tree.specs.declared.expr.BinaryOp.{BinaryOp}
use Rattle.tsa_tree.specs.declared.expr.BinaryOp.TheVariants.{Or, And, BitOr, BitXor, BitAnd, Equal, Unequal, Less, More, LessEqual}
use Rattle.tsa_tree.specs.declared.expr.BinaryOp.TheVariants.{MoreEqual, Plus, Minus, Times, Divide, Remainder}
use Rattle.tsa_tree.specs.declared.expr.UnaryOp.{UnaryOp}
use Rattle.tsa_tree.specs.declared.expr.UnaryOp.TheVariants as prefix
use Rattle.tsa_tree.specs.declared.kind.ThingType.{ThingType}
use Rattle.tsa_tree.specs.declared.meaning.Entry.{Entry}
use Rattle.tsa_tree.specs.expressions.Syntax.{Expression, number, null, named, call, unary, binary, field, index}
use Rattle.tsa_tree.specs.types.Scopes.{Scope, known_in}
use Rattle.tsa_core.specs.Meanings.{meaning, of_name, of_call, prefix_term, operands, to_member}
use Rattle.tsa_core.specs.Terms.{Sense}
use Rattle.tsa_core_points.specs.Stable.{local_number}

-- only a name is a local
abbrev local_named : Option Entry → Option ℕ
local_named e = local_number (of_name e).term

abbrev local_of : Scope → Expression → Option ℕ
local_of here (named name span) = local_named (known_in here name.text)
local_of here e = None

call_none : (e : Option Entry) → local_number (of_call e).term ≡ None
call_none None = refl
call_none (Some e) = refl

member_none : (arrow : Bool) (s : Sense) (m : Option (ℕ × ThingType)) → local_number (to_member arrow s m).term ≡ None
member_none arrow s None = refl
member_none arrow s (Some m) = refl

prefix_none : (o : UnaryOp) (s : Sense) → local_number (prefix_term o s) ≡ None
prefix_none prefix.Address s = refl
prefix_none prefix.Follow s = refl
prefix_none prefix.Minus s = refl
prefix_none prefix.Not s = refl
prefix_none prefix.Flip s = refl

operands_none : (o : BinaryOp) (l r : Sense) → local_number (operands o l r) ≡ None
operands_none Or l r = refl
operands_none And l r = refl
operands_none BitOr l r = refl
operands_none BitXor l r = refl
operands_none BitAnd l r = refl
operands_none Equal l r = refl
operands_none Unequal l r = refl
operands_none Less l r = refl
operands_none More l r = refl
operands_none LessEqual l r = refl
operands_none MoreEqual l r = refl
operands_none Plus l r = refl
operands_none Minus l r = refl
operands_none Times l r = refl
operands_none Divide l r = refl
operands_none Remainder l r = refl

pub number_of : (here : Scope) (e : Expression) → local_number (meaning here e).term ≡ local_of here e
unfolding meaning
number_of here (number n u span) = refl
number_of here (null span) = refl
number_of here (named name span) = refl
number_of here (call callee args span) = call_none (known_in here callee.text)
number_of here (unary o inner span) = prefix_none o (meaning here inner)
number_of here (binary o left right span) = operands_none o (meaning here left) (meaning here right)
number_of here (field base name arrow span) = member_none arrow (meaning here base) _
number_of here (index base at span) = refl

-- what is no name
pub other_number : (here : Scope) (k : ExprKind) (span : Span) → ((name : Name) → k ≡ Named name → ⊥) → local_number (meaning here (kind_shape k span)).term ≡ None
other_number here (Number value unsigned) span other = number_of here (kind_shape (Number value unsigned) span)
other_number here Null span other = number_of here (kind_shape Null span)
other_number here (Named name) span other = absurd (other name refl)
other_number here (Call' callee pointer count row) span other = number_of here (kind_shape (Call' callee pointer count row) span)
other_number here (Unary' o pointer inner inner_span) span other = number_of here (kind_shape (Unary' o pointer inner inner_span) span)
other_number here (Binary' o first left left_span second right right_span) span other =
    number_of here (kind_shape (Binary' o first left left_span second right right_span) span)
other_number here (Field' pointer base base_span name arrow) span other = number_of here (kind_shape (Field' pointer base base_span name arrow) span)
other_number here (Index' first base base_span second at at_span) span other = number_of here (kind_shape (Index' first base base_span second at at_span) span)
