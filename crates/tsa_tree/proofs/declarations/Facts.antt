-- What one token of a declaration tells of another thing that it could be.
use Rattle.std.proofs.Common.{◌≡◌, refl, Bool, true, false, not, nat_eq}
use Rattle.tsa_tree.specs.declared.sign.Keyword.{Keyword}
use Rattle.tsa_tree.specs.declared.sign.Keyword.TheVariants as key
use Rattle.tsa_tree.specs.declared.sign.Sign.{Sign}
use Rattle.tsa_tree.specs.declared.sign.Sign.TheVariants as sign
use Rattle.tsa_tree.specs.tokens.Signs.{is_tag, is_storage, is_star}
use Rattle.tsa_tree.specs.Rows.{mark, is_keyword, is_attribute_sign}
use Rattle.tsa_tree.proofs.tokens.Facts.{is_plain}
use Rattle.tsa_tree.proofs.RowFacts.{begins_operand, begins_type, begins_declarator, begins_initialiser, begins_rest, is_signing}

-- No keyword is a name, a star or a token of another kind.
pub declarator_no_keyword : (w : Keyword) (s : Sign) → begins_declarator s ≡ true → is_keyword w s ≡ false
declarator_no_keyword w (sign.Keyword k) e = cc
declarator_no_keyword w _ e = refl

pub plain_no_keyword : (w : Keyword) (s : Sign) → is_plain s ≡ true → is_keyword w s ≡ false
plain_no_keyword w (sign.Keyword k) e = cc
plain_no_keyword w _ e = refl

pub name_no_keyword : (w : Keyword) (s : Sign) → nat_eq (mark s) 3 ≡ true → is_keyword w s ≡ false
name_no_keyword w (sign.Keyword k) e = cc
name_no_keyword w _ e = refl

pub semicolon_plain : (s : Sign) → nat_eq (mark s) 19 ≡ true → is_plain s ≡ true
semicolon_plain sign.Semicolon e = refl
semicolon_plain _ e = cc

pub brace_plain : (s : Sign) → nat_eq (mark s) 18 ≡ true → is_plain s ≡ true
brace_plain sign.CloseBrace e = refl
brace_plain _ e = cc

pub plain_no_star : (s : Sign) → is_plain s ≡ true → is_star s ≡ false
plain_no_star (sign.Operator o) e = cc
plain_no_star _ e = refl

pub name_no_star : (s : Sign) → nat_eq (mark s) 3 ≡ true → is_star s ≡ false
name_no_star (sign.Operator o) e = cc
name_no_star _ e = refl

pub plain_no_bracket : (s : Sign) → is_plain s ≡ true → nat_eq (mark s) 8 ≡ false
plain_no_bracket sign.OpenBracket e = cc
plain_no_bracket _ e = refl

pub equals_no_bracket : (s : Sign) → nat_eq (mark s) 24 ≡ true → nat_eq (mark s) 8 ≡ false
equals_no_bracket sign.OpenBracket e = cc
equals_no_bracket _ e = refl

pub attribute_no_bracket : (s : Sign) → is_attribute_sign s ≡ true → nat_eq (mark s) 8 ≡ false
attribute_no_bracket sign.OpenBracket e = cc
attribute_no_bracket _ e = refl

pub plain_no_attribute : (s : Sign) → is_plain s ≡ true → is_attribute_sign s ≡ false
plain_no_attribute sign.Attribute e = cc
plain_no_attribute (sign.Macro k) e = cc
plain_no_attribute sign.LeftOutMacro e = cc
plain_no_attribute _ e = refl

pub equals_no_attribute : (s : Sign) → nat_eq (mark s) 24 ≡ true → is_attribute_sign s ≡ false
equals_no_attribute sign.Equals e = refl
equals_no_attribute _ e = cc

pub name_no_attribute : (s : Sign) → nat_eq (mark s) 3 ≡ true → is_attribute_sign s ≡ false
name_no_attribute sign.Name e = refl
name_no_attribute _ e = cc

pub tag_no_attribute : (s : Sign) → is_tag s ≡ true → is_attribute_sign s ≡ false
tag_no_attribute sign.Name e = refl
tag_no_attribute sign.TypeName e = refl
tag_no_attribute _ e = cc

pub brace_no_attribute : (s : Sign) → nat_eq (mark s) 17 ≡ true → is_attribute_sign s ≡ false
brace_no_attribute sign.OpenBrace e = refl
brace_no_attribute _ e = cc

pub plain_no_equals : (s : Sign) → is_plain s ≡ true → nat_eq (mark s) 24 ≡ false
plain_no_equals sign.Equals e = cc
plain_no_equals _ e = refl

pub semicolon_no_comma : (s : Sign) → nat_eq (mark s) 19 ≡ true → nat_eq (mark s) 10 ≡ false
semicolon_no_comma sign.Semicolon e = refl
semicolon_no_comma _ e = cc

pub brace_no_comma : (s : Sign) → nat_eq (mark s) 18 ≡ true → nat_eq (mark s) 10 ≡ false
brace_no_comma sign.CloseBrace e = refl
brace_no_comma _ e = cc

-- A type begins with a word, which closes nothing and is no storage word.
pub type_no_brace : (s : Sign) → begins_type s ≡ true → nat_eq (mark s) 18 ≡ false
type_no_brace sign.CloseBrace e = cc
type_no_brace _ e = refl

pub type_no_close : (s : Sign) → begins_type s ≡ true → nat_eq (mark s) 7 ≡ false
type_no_close sign.Close e = cc
type_no_close _ e = refl

pub void_no_close : (s : Sign) → is_keyword key.Void s ≡ true → nat_eq (mark s) 7 ≡ false
void_no_close sign.Close e = cc
void_no_close _ e = refl

pub type_no_storage : (s : Sign) → begins_type s ≡ true → is_storage s ≡ false
type_no_storage (sign.Keyword key.Static) e = cc
type_no_storage (sign.Keyword key.Extern) e = cc
type_no_storage (sign.Keyword key.Inline) e = cc
type_no_storage _ e = refl

pub const_no_int : (s : Sign) → is_keyword key.Const s ≡ true → is_keyword key.Int s ≡ false
const_no_int (sign.Keyword key.Int) e = cc
const_no_int (sign.Keyword key.Const) e = refl
const_no_int (sign.Keyword _) e = refl
const_no_int _ e = cc

-- Only `unsigned` and `signed` may have an `int` after them.
pub unsigning : (w : Keyword) (s : Sign) → is_signing (sign.Keyword w) ≡ false → is_keyword w s ≡ true → is_signing s ≡ false
unsigning key.Unsigned s e h = cc
unsigning key.Signed s e h = cc
unsigning w (sign.Keyword key.Unsigned) e h = go w e h
  where
    go : (w : Keyword) → is_signing (sign.Keyword w) ≡ false → is_keyword w (sign.Keyword key.Unsigned) ≡ true → true ≡ false
    go key.Unsigned e h = cc
    go _ e h = cc
unsigning w (sign.Keyword key.Signed) e h = go w e h
  where
    go : (w : Keyword) → is_signing (sign.Keyword w) ≡ false → is_keyword w (sign.Keyword key.Signed) ≡ true → true ≡ false
    go key.Signed e h = cc
    go _ e h = cc
unsigning w _ e h = refl

pub tag_unsigned : (s : Sign) → is_tag s ≡ true → is_signing s ≡ false
tag_unsigned (sign.Keyword w) e = cc
tag_unsigned _ e = refl

pub type_name_unsigned : (s : Sign) → nat_eq (mark s) 2 ≡ true → is_signing s ≡ false
type_name_unsigned (sign.Keyword w) e = cc
type_name_unsigned _ e = refl

pub operand_no_brace : (s : Sign) → begins_operand s ≡ true → nat_eq (mark s) 17 ≡ false
operand_no_brace sign.OpenBrace e = cc
operand_no_brace _ e = refl

pub operand_begins : (s : Sign) → begins_operand s ≡ true → begins_initialiser s ≡ true
operand_begins sign.OpenBrace e = refl
operand_begins s e = e

pub brace_begins : (s : Sign) → nat_eq (mark s) 17 ≡ true → begins_initialiser s ≡ true
brace_begins sign.OpenBrace e = refl
brace_begins _ e = cc

pub initialiser_no_brace : (s : Sign) → begins_initialiser s ≡ true → nat_eq (mark s) 18 ≡ false
initialiser_no_brace sign.CloseBrace e = cc
initialiser_no_brace _ e = refl

pub name_no_brace : (s : Sign) → nat_eq (mark s) 3 ≡ true → nat_eq (mark s) 18 ≡ false
name_no_brace sign.Name e = refl
name_no_brace _ e = cc

pub declarator_no_brace : (s : Sign) → begins_declarator s ≡ true → nat_eq (mark s) 17 ≡ false
declarator_no_brace sign.OpenBrace e = cc
declarator_no_brace _ e = refl

pub keyword_no_brace : (w : Keyword) (s : Sign) → is_keyword w s ≡ true → nat_eq (mark s) 17 ≡ false
keyword_no_brace w sign.OpenBrace e = cc
keyword_no_brace w _ e = refl

pub declarator_no_semicolon : (s : Sign) → begins_declarator s ≡ true → nat_eq (mark s) 19 ≡ false
declarator_no_semicolon sign.Semicolon e = cc
declarator_no_semicolon _ e = refl

pub keyword_no_semicolon : (w : Keyword) (s : Sign) → is_keyword w s ≡ true → nat_eq (mark s) 19 ≡ false
keyword_no_semicolon w sign.Semicolon e = cc
keyword_no_semicolon w _ e = refl

pub tag_no_brace : (s : Sign) → is_tag s ≡ true → nat_eq (mark s) 17 ≡ false
tag_no_brace sign.OpenBrace e = cc
tag_no_brace _ e = refl

pub semicolon_no_open_brace : (s : Sign) → nat_eq (mark s) 19 ≡ true → nat_eq (mark s) 17 ≡ false
semicolon_no_open_brace sign.Semicolon e = refl
semicolon_no_open_brace _ e = cc

pub open_brace_no_semicolon : (s : Sign) → nat_eq (mark s) 17 ≡ true → nat_eq (mark s) 19 ≡ false
open_brace_no_semicolon sign.OpenBrace e = refl
open_brace_no_semicolon _ e = cc

-- What stands after a name makes no function of it.
pub rest_no_open : (s : Sign) → begins_rest s ≡ true → nat_eq (mark s) 6 ≡ false
rest_no_open sign.Open e = cc
rest_no_open _ e = refl

pub bracket_rest : (s : Sign) → nat_eq (mark s) 8 ≡ true → begins_rest s ≡ true
bracket_rest sign.OpenBracket e = refl
bracket_rest _ e = cc

pub attribute_rest : (s : Sign) → is_attribute_sign s ≡ true → begins_rest s ≡ true
attribute_rest sign.Attribute e = refl
attribute_rest (sign.Macro k) e = refl
attribute_rest sign.LeftOutMacro e = refl
attribute_rest _ e = cc

pub equals_rest : (s : Sign) → nat_eq (mark s) 24 ≡ true → begins_rest s ≡ true
equals_rest sign.Equals e = refl
equals_rest _ e = cc

pub comma_rest : (s : Sign) → nat_eq (mark s) 10 ≡ true → begins_rest s ≡ true
comma_rest sign.Comma e = refl
comma_rest _ e = cc

pub semicolon_rest : (s : Sign) → nat_eq (mark s) 19 ≡ true → begins_rest s ≡ true
semicolon_rest sign.Semicolon e = refl
semicolon_rest _ e = cc

pub star_begins : (s : Sign) → is_star s ≡ true → begins_declarator s ≡ true
star_begins (sign.Operator o) e = e
star_begins _ e = cc

pub name_begins : (s : Sign) → nat_eq (mark s) 3 ≡ true → begins_declarator s ≡ true
name_begins sign.Name e = refl
name_begins _ e = cc

pub not_true : (b : Bool) → not b ≡ true → b ≡ false
not_true true e = cc
not_true false e = refl

pub not_false : (b : Bool) → b ≡ false → not b ≡ true
not_false true e = cc
not_false false e = refl
