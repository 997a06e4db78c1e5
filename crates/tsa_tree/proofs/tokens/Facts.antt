-- What one token tells of another thing that it could be.
use Rattle.std.proofs.Common.{◌≤◌, ◌≡◌, refl, Bool, true, false, Some, None, arith, nat_eq, nat_le}
use Rattle.std.proofs.lemmas.Bool.{le-leb}
use Rattle.tsa_tree.specs.declared.expr.BinaryOp.{BinaryOp}
use Rattle.tsa_tree.specs.declared.expr.BinaryOp.TheVariants as op
use Rattle.tsa_tree.specs.declared.sign.Sign.{Sign}
use Rattle.tsa_tree.specs.declared.sign.Sign.TheVariants as sign
use Rattle.tsa_tree.specs.tokens.Signs.{operator, level}
use Rattle.tsa_tree.specs.Rows.{mark, is_postfix, tightest}

pub operator_mark : (s : Sign) (o : BinaryOp) → operator s ≡ Some o → nat_eq (mark s) 15 ≡ true
operator_mark (sign.Operator p) o e = refl
operator_mark _ o e = cc

-- A binary operator makes no member, no element and no call.
pub operator_no_postfix : (s : Sign) (o : BinaryOp) → operator s ≡ Some o → is_postfix s ≡ false
operator_no_postfix (sign.Operator p) o e = refl
operator_no_postfix sign.Dot o e = cc
operator_no_postfix sign.Arrow o e = cc
operator_no_postfix sign.OpenBracket o e = cc
operator_no_postfix _ o e = refl

pub operator_no_open : (s : Sign) (o : BinaryOp) → operator s ≡ Some o → nat_eq (mark s) 6 ≡ false
operator_no_open (sign.Operator p) o e = refl
operator_no_open sign.Open o e = cc
operator_no_open _ o e = refl

pub postfix_no_open : (s : Sign) → is_postfix s ≡ true → nat_eq (mark s) 6 ≡ false
postfix_no_open sign.Open e = cc
postfix_no_open _ e = refl

-- A closing token, a comma, a semicolon and a colon: no expression goes on there.
abbrev pub is_plain : Sign → Bool
is_plain sign.Close = true
is_plain sign.CloseBracket = true
is_plain sign.CloseBrace = true
is_plain sign.Comma = true
is_plain sign.Semicolon = true
is_plain sign.Colon = true
is_plain _ = false

pub close_plain : (s : Sign) → nat_eq (mark s) 7 ≡ true → is_plain s ≡ true
close_plain sign.Close e = refl
close_plain _ e = cc

pub bracket_plain : (s : Sign) → nat_eq (mark s) 9 ≡ true → is_plain s ≡ true
bracket_plain sign.CloseBracket e = refl
bracket_plain _ e = cc

pub comma_plain : (s : Sign) → nat_eq (mark s) 10 ≡ true → is_plain s ≡ true
comma_plain sign.Comma e = refl
comma_plain _ e = cc

pub plain_no_postfix : (s : Sign) → is_plain s ≡ true → is_postfix s ≡ false
plain_no_postfix sign.Dot e = cc
plain_no_postfix sign.Arrow e = cc
plain_no_postfix sign.OpenBracket e = cc
plain_no_postfix _ e = refl

pub plain_no_operator : (s : Sign) → is_plain s ≡ true → operator s ≡ None
plain_no_operator (sign.Operator o) e = cc
plain_no_operator _ e = refl

pub plain_no_open : (s : Sign) → is_plain s ≡ true → nat_eq (mark s) 6 ≡ false
plain_no_open sign.Open e = cc
plain_no_open _ e = refl

pub plain_no_name : (s : Sign) → is_plain s ≡ true → nat_eq (mark s) 3 ≡ false
plain_no_name sign.Name e = cc
plain_no_name _ e = refl

pub close_no_comma : (s : Sign) → nat_eq (mark s) 7 ≡ true → nat_eq (mark s) 10 ≡ false
close_no_comma sign.Close e = refl
close_no_comma _ e = cc

-- Every operator is looser than the tightest level.
pub level_low : (o : BinaryOp) → nat_le (level o) tightest ≡ true
level_low o = le-leb (level o) 10 (go o)
  where
    go : (o : BinaryOp) → level o ≤ 10
    go op.Or = omega arith
    go _ = omega arith
