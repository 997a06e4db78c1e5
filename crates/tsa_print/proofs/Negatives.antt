-- What an attribute excludes doesn't depend on spans.
use Rattle.std.proofs.Common.{◌≡◌, ◌∙◌, ap, sym, refl, Option, Some, None}
use Rattle.std.specs.Option.{option_map}
use Rattle.tsa_tree.specs.declared.attr.AttrKind.{AttrKind}
use Rattle.tsa_tree.specs.declared.attr.AttrKind.TheVariants as attr
use Rattle.tsa_tree.specs.declared.expr.UnaryOp.TheVariants as prefix_op
use Rattle.tsa_tree.specs.attributes.Syntax.{without_not, without_nots, one_more, negative}
use Rattle.tsa_tree.specs.expressions.Syntax.{Expression, Arguments, unary, none, more, plain, plain_arguments}

not_plain : (x : Expression) → without_not (plain x) ≡ option_map plain (without_not x)
not_plain (unary prefix_op.Not inner span) = refl
not_plain _ = refl

one_more_plain : (u : Option Expression) (v : Option Arguments)
    → one_more (option_map plain u) (option_map plain_arguments v) ≡ option_map plain_arguments (one_more u v)
one_more_plain (Some x) (Some xs) = refl
one_more_plain (Some x) None = refl
one_more_plain None v = refl

nots_plain : (xs : Arguments) → without_nots (plain_arguments xs) ≡ option_map plain_arguments (without_nots xs)
nots_plain none = refl
nots_plain (more x xs) = rw (not_plain x, nots_plain xs) (one_more_plain (without_not x) (without_nots xs))

negative_plain : (k : AttrKind) (xs : Arguments) → negative k (plain_arguments xs) ≡ option_map plain_arguments (negative k xs)
negative_plain attr.Requires xs = nots_plain xs
negative_plain _ xs = refl

none_of : (v : Option Arguments) → option_map plain_arguments v ≡ None → v ≡ None
none_of None e = refl
none_of (Some xs) e = cc

pub negative_alike : (k : AttrKind) (us xs : Arguments) → plain_arguments us ≡ plain_arguments xs → negative k xs ≡ None → negative k us ≡ None
negative_alike k us xs p e =
    none_of (negative k us) (sym (negative_plain k us) ∙ ap (negative k) p ∙ negative_plain k xs ∙ ap (option_map plain_arguments) e)
