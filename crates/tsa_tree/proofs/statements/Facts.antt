-- What one token of a statement tells of another thing that it could be.
use Rattle.std.proofs.Common.{◌≡◌, refl, Bool, true, false, ◌||◌, ◌⊎◌, inl, inr, nat_eq}
use Rattle.tsa_tree.specs.declared.sign.Keyword.TheVariants as key
use Rattle.tsa_tree.specs.declared.sign.Sign.{Sign}
use Rattle.tsa_tree.specs.declared.sign.Sign.TheVariants as sign
use Rattle.tsa_tree.specs.tokens.Signs.{assigns}
use Rattle.tsa_tree.specs.Rows.{mark, is_keyword, is_assignment, is_postfix}
use Rattle.tsa_tree.proofs.tokens.Facts.{is_plain}
use Rattle.tsa_tree.proofs.RowFacts.{begins_operand, begins_type, begins_statement, begins_simple, begins_inner}

pub colon_plain : (s : Sign) → nat_eq (mark s) 20 ≡ true → is_plain s ≡ true
colon_plain sign.Colon e = refl
colon_plain _ e = cc

-- Neither `++` nor `=` goes on with an operand.
pub step_no_postfix : (s : Sign) → nat_eq (mark s) 26 ≡ true → is_postfix s ≡ false
step_no_postfix (sign.Step o) e = refl
step_no_postfix _ e = cc

pub step_no_open : (s : Sign) → nat_eq (mark s) 26 ≡ true → nat_eq (mark s) 6 ≡ false
step_no_open (sign.Step o) e = refl
step_no_open _ e = cc

pub assignment_no_postfix : (s : Sign) → is_assignment (assigns s) ≡ true → is_postfix s ≡ false
assignment_no_postfix sign.Equals e = refl
assignment_no_postfix (sign.Assign o) e = refl
assignment_no_postfix _ e = cc

pub assignment_no_open : (s : Sign) → is_assignment (assigns s) ≡ true → nat_eq (mark s) 6 ≡ false
assignment_no_open sign.Equals e = refl
assignment_no_open (sign.Assign o) e = refl
assignment_no_open _ e = cc

pub step_begins : (s : Sign) → nat_eq (mark s) 26 ≡ true → begins_simple s ≡ true
step_begins (sign.Step o) e = refl
step_begins _ e = cc

pub operand_simple : (s : Sign) → begins_operand s ≡ true → begins_simple s ≡ true
operand_simple (sign.Step o) e = refl
operand_simple s e = e

pub simple_statement_begins : (s : Sign) → begins_simple s ≡ true → begins_statement s ≡ true
simple_statement_begins (sign.Step o) e = refl
simple_statement_begins sign.OpenBrace e = refl
simple_statement_begins sign.Semicolon e = refl
simple_statement_begins (sign.Keyword w) e = cc
simple_statement_begins s e = e

pub operand_no_semicolon : (s : Sign) → begins_operand s ≡ true → nat_eq (mark s) 19 ≡ false
operand_no_semicolon sign.Semicolon e = cc
operand_no_semicolon _ e = refl

pub simple_no_semicolon : (s : Sign) → begins_simple s ≡ true → nat_eq (mark s) 19 ≡ false
simple_no_semicolon sign.Semicolon e = cc
simple_no_semicolon _ e = refl

pub type_no_semicolon : (s : Sign) → begins_type s ≡ true → nat_eq (mark s) 19 ≡ false
type_no_semicolon sign.Semicolon e = cc
type_no_semicolon _ e = refl

pub simple_no_type : (s : Sign) → begins_simple s ≡ true → begins_type s ≡ false
simple_no_type (sign.Keyword w) e = cc
simple_no_type sign.TypeName e = cc
simple_no_type _ e = refl

pub simple_no_close : (s : Sign) → begins_simple s ≡ true → nat_eq (mark s) 7 ≡ false
simple_no_close sign.Close e = cc
simple_no_close _ e = refl

pub statement_no_type : (s : Sign) → begins_statement s ≡ true → begins_type s ≡ false
statement_no_type (sign.Keyword key.Const) e = cc
statement_no_type (sign.Keyword key.Int) e = cc
statement_no_type (sign.Keyword key.Unsigned) e = cc
statement_no_type (sign.Keyword key.Signed) e = cc
statement_no_type (sign.Keyword key.Void) e = cc
statement_no_type (sign.Keyword key.Struct) e = cc
statement_no_type (sign.Keyword key.Enum) e = cc
statement_no_type sign.TypeName e = cc
statement_no_type _ e = refl

pub statement_no_brace : (s : Sign) → begins_statement s ≡ true → nat_eq (mark s) 18 ≡ false
statement_no_brace sign.CloseBrace e = cc
statement_no_brace _ e = refl

-- An `else` begins nothing in a block, and doesn't end one.
pub inner_no_else : (s : Sign) → begins_inner s ≡ true → is_keyword key.Else s ≡ false
inner_no_else (sign.Keyword key.Else) e = cc
inner_no_else (sign.Keyword _) e = refl
inner_no_else _ e = refl

pub while_no_else : (s : Sign) → is_keyword key.While s ≡ true → is_keyword key.Else s ≡ false
while_no_else (sign.Keyword key.Else) e = cc
while_no_else (sign.Keyword _) e = refl
while_no_else _ e = refl

pub brace_inner : (s : Sign) → nat_eq (mark s) 18 ≡ true → begins_inner s ≡ true
brace_inner sign.CloseBrace e = refl
brace_inner _ e = cc

either_true : (p q : Bool) → (p ≡ true) ⊎ (q ≡ true) → (p || q) ≡ true
either_true true q h = refl
either_true false q (inl e) = cc
either_true false q (inr e) = e

pub type_inner : (s : Sign) → begins_type s ≡ true → begins_inner s ≡ true
type_inner sign.CloseBrace e = refl
type_inner s e = either_true (begins_type s) (begins_statement s) (inl e)

pub statement_inner : (s : Sign) → begins_statement s ≡ true → begins_inner s ≡ true
statement_inner sign.CloseBrace e = refl
statement_inner s e = either_true (begins_type s) (begins_statement s) (inr e)
