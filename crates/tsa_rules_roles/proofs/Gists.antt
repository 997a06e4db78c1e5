-- What an expression means by what its parts do.
use Rattle.std.proofs.Common.{◌≡◌, ◌∙◌, ℕ, Bool, List, Option, Some, None, Ok, refl, sym, ap, ap₂}
use Rattle.std.specs.Borrow.{Bor}
use Rattle.std.specs.Prelude.{option_and_then}
use Rattle.tsa_base.specs.declared.token.Span.{Span}
use Rattle.tsa_tree.proofs.expressions.Trees.{call_at}
use Rattle.tsa_tree.specs.declared.expr.BinaryOp.{BinaryOp}
use Rattle.tsa_tree.specs.declared.expr.BinaryOp.TheVariants as op
use Rattle.tsa_tree.specs.declared.expr.UnaryOp.{UnaryOp}
use Rattle.tsa_tree.specs.declared.expr.UnaryOp.TheVariants as prefix
use Rattle.tsa_tree.specs.declared.expr.Expr.{Expr}
use Rattle.tsa_tree.specs.declared.expr.ExprKind.{Call}
use Rattle.tsa_tree.specs.declared.expr.Name.{Name}
use Rattle.tsa_tree.specs.declared.kind.ExpressionType.{ExpressionType}
use Rattle.tsa_tree.specs.declared.kind.ThingType.{ThingType}
use Rattle.tsa_tree.specs.declared.number.Number.{Number}
use Rattle.tsa_tree.specs.declared.number.Number.TheVariants as numeral
use Rattle.tsa_tree.specs.expressions.Shapes.{shape}
use Rattle.tsa_tree.specs.expressions.Syntax.{number}
use Rattle.tsa_tree.specs.types.Constants.{number_value}
use Rattle.tsa_tree.specs.types.Expressions.{number_type, owner}
use Rattle.tsa_tree.specs.types.Operands.{binary_type, prefix_type}
use Rattle.tsa_tree.specs.types.Scopes.{Scope, known_in}
use Rattle.tsa_tree.specs.types.Lookups.{members_at, numbered}
use Rattle.tsa_core.specs.Meanings.{beside, of_number, loaded, meaning, null_pointer, of_binary, of_call, of_field, of_prefix, of_type}
use Rattle.tsa_core.specs.Meanings.{operands, prefix_term, to_member}
use Rattle.tsa_core.specs.Terms.{constant, prefixed, joined, Sense}
use Rattle.tsa_rules_roles.specs.declared.gist.Gist.{Gist}
use Rattle.tsa_rules_roles.specs.declared.worth.Worth.{Worth}
use Rattle.tsa_rules_roles.specs.declared.worth.Worth.TheVariants as worth
use Rattle.tsa_rules_roles.specs.Worths.{worth_of, gist_of, number_behind, prefix_worth, joined_worth, binary_worth, worth_beside}
use Rattle.tsa_rules_roles.specs.Worths.{prefix_gist, binary_gist}
use Rattle.tsa_rules_roles.proofs.Worths.{prefixed_is, joined_is, loaded_is, beside_is}

number_behind_is : (o : UnaryOp) (s : Sense) → worth_of (prefixed o (loaded s)) ≡ number_behind o (worth_of s.term)
number_behind_is o s = prefixed_is o (loaded s) ∙ ap (number_behind o) (loaded_is s)

prefix_is : (o : UnaryOp) (s : Sense) → worth_of (prefix_term o s) ≡ prefix_worth o (worth_of s.term)
prefix_is prefix.Minus s = number_behind_is prefix.Minus s
prefix_is prefix.Not s = number_behind_is prefix.Not s
prefix_is prefix.Flip s = number_behind_is prefix.Flip s
prefix_is prefix.Address s = refl
prefix_is prefix.Follow s = refl

values_joined : (o : BinaryOp) (l r : Sense) → worth_of (joined o (loaded l) (loaded r)) ≡ joined_worth o (worth_of l.term) (worth_of r.term)
values_joined o l r = joined_is o (loaded l) (loaded r) ∙ ap₂ (joined_worth o) (loaded_is l) (loaded_is r)

sides_joined : (o : BinaryOp) (l r : Sense) → worth_of (joined o (beside r.type.thing.kind l) (beside l.type.thing.kind r)) ≡ joined_worth o (worth_beside r.type.thing.kind (gist_of l)) (worth_beside l.type.thing.kind (gist_of r))
sides_joined o l r =
    joined_is o (beside r.type.thing.kind l) (beside l.type.thing.kind r) ∙ ap₂ (joined_worth o) (beside_is r.type.thing.kind l) (beside_is l.type.thing.kind r)

operands_are : (o : BinaryOp) (l r : Sense) → worth_of (operands o l r) ≡ binary_worth o (gist_of l) (gist_of r)
operands_are op.Equal l r = sides_joined op.Equal l r
operands_are op.Unequal l r = sides_joined op.Unequal l r
operands_are op.Or l r = values_joined op.Or l r
operands_are op.And l r = values_joined op.And l r
operands_are op.BitOr l r = values_joined op.BitOr l r
operands_are op.BitXor l r = values_joined op.BitXor l r
operands_are op.BitAnd l r = values_joined op.BitAnd l r
operands_are op.Less l r = values_joined op.Less l r
operands_are op.More l r = values_joined op.More l r
operands_are op.LessEqual l r = values_joined op.LessEqual l r
operands_are op.MoreEqual l r = values_joined op.MoreEqual l r
operands_are op.Plus l r = values_joined op.Plus l r
operands_are op.Minus l r = values_joined op.Minus l r
operands_are op.Times l r = values_joined op.Times l r
operands_are op.Divide l r = values_joined op.Divide l r
operands_are op.Remainder l r = values_joined op.Remainder l r

abbrev with_worth : ExpressionType → Worth → Gist
with_worth t w = record { expression = t; worth = w }

-- a number
pub number_worth : (m : Number) → worth_of (constant (of_number m)) ≡ worth.Number (Ok m)
number_worth (numeral.Int z) = refl
number_worth (numeral.Unsigned n) = refl

pub number_is : (here : Scope) (n : ℕ) (u : Bool) (span : Span) → with_worth (number_type n u) (worth.Number (Ok (number_value n u))) ≡ gist_of (meaning here (number n u span))
unfolding meaning
number_is here n u span = ap (with_worth (number_type n u)) (sym (number_worth (number_value n u)))

-- an operator, by the gists of its operands
pub unary_gist : (o : UnaryOp) (s : Sense) → prefix_gist o (gist_of s) ≡ gist_of (of_prefix o s)
unary_gist o s = ap (with_worth (prefix_type o s.type)) (sym (prefix_is o s))

pub binary_is : (o : BinaryOp) (l r : Sense) → binary_gist o (gist_of l) (gist_of r) ≡ gist_of (of_binary o l r)
binary_is o l r = ap (with_worth (binary_type o l.type r.type)) (sym (operands_are o l r))

-- a member, by the type of what has it
member_is : (arrow : Bool) (s : Sense) (m : Option (ℕ × ThingType)) → gist_of (to_member arrow (of_type null_pointer s.type) m) ≡ gist_of (to_member arrow s m)
member_is arrow s None = refl
member_is arrow s (Some m) = refl

pub field_is : (here : Scope) (arrow : Bool) (name : List ℕ) (s : Sense) → gist_of (of_field here arrow name (of_type null_pointer s.type)) ≡ gist_of (of_field here arrow name s)
field_is here arrow name s = member_is arrow s (option_and_then (λ struct. numbered (members_at here struct) name 0) (owner arrow s.type))

-- a call in the arena
pub call_is : (here : Scope) (x : Expr) (callee : Name) (args : Bor (List Expr)) → x.kind ≡ Call callee args
    → gist_of (of_call (known_in here callee.text.now)) ≡ gist_of (meaning here (shape x))
unfolding meaning
call_is here x callee args is = ap (λ e. gist_of (meaning here e)) (sym (call_at x callee args is))

pub ruleset gists = (number_is, unary_gist, binary_is, field_is, call_is)
