-- Expressions as they are written, with the trees that reading gives, one row a production; and lists that are refused,
-- one row a kind.
use Rattle.std.specs.Prelude.{ℕ, ◌≡◌, List, [], true, false, Ok, Err, codes}
use Rattle.std.specs.declared.result.Result.{Result}
use Rattle.tsa_base.specs.declared.token.Span.{Span}
use Rattle.tsa_base.specs.Tokens.{Lexeme, BadByte, tokens_of}
use Rattle.tsa_tree.specs.declared.expr.UnaryOp.TheVariants as prefix_op
use Rattle.tsa_tree.specs.declared.expr.BinaryOp.{BinaryOp}
use Rattle.tsa_tree.specs.declared.expr.BinaryOp.TheVariants as op
use Rattle.tsa_tree.specs.expressions.Syntax.{Identifier, Expression, number, null, named, call, unary, binary, field, index, none, more}
use Rattle.tsa_tree.specs.expressions.Syntax.{nowhere, plain}
use Rattle.tsa_tree.specs.Rows as rows
use Rattle.tsa_tree.specs.Rows.{expression, operand}
use Rattle.tsa_tree.specs.Reads.{read}
use Rattle.tsa_grammar.specs.Reading.{syntax, deep, refuse, Outcome}

abbrev spanless : Outcome Expression → Outcome Expression
spanless (Ok found) = Ok (plain found.0, found.1)
spanless (Err refusal) = Err refusal

abbrev whole_in : Outcome Expression → Result (List Lexeme) BadByte → Outcome Expression
whole_in other (Ok tokens) = read tokens rows.an_expression (expression [] 0 0) 0
whole_in other (Err bad) = other

-- what reading an expression from the first token of a text on gives, but for spans
abbrev pub reads : List ℕ → Outcome Expression
reads text = spanless (whole_in (Err (refuse syntax 0)) (tokens_of text))

abbrev unary_in : Outcome Expression → Result (List Lexeme) BadByte → Outcome Expression
unary_in other (Ok tokens) = read tokens rows.an_expression (operand [] 0) 0
unary_in other (Err bad) = other

-- the same of a unary
abbrev pub reads_unary : List ℕ → Outcome Expression
reads_unary text = spanless (unary_in (Err (refuse syntax 0)) (tokens_of text))

abbrev deep_in : ℕ → Outcome Expression → Result (List Lexeme) BadByte → Outcome Expression
deep_in depth other (Ok tokens) = read tokens rows.an_expression (expression [] depth 0) 0
deep_in depth other (Err bad) = other

-- the same of an expression where so many constructs are open already
abbrev pub reads_in : ℕ → List ℕ → Outcome Expression
reads_in depth text = spanless (deep_in depth (Err (refuse syntax 0)) (tokens_of text))

abbrev pub word : List ℕ → Identifier
word text = record { text = text; span = nowhere }

abbrev pub name : List ℕ → Expression
name text = named (word text) nowhere

abbrev pub int : ℕ → Expression
int value = number value false nowhere

abbrev pub join : BinaryOp → Expression → Expression → Expression
join o left right = binary o left right nowhere

-- the span of a part of a text
abbrev pub bytes : (from to : ℕ) → Span
bytes from to = record { from = from; to = to }

-- the spans of `(a) -> b [1]` are those of its tokens: parentheses belong to what stands round them
abbrev pub spanned : Expression
spanned =
    index (field (named (record { text = codes "a"; span = bytes 1 2 }) (bytes 1 2)) (record { text = codes "b"; span = bytes 5 6 }) true (bytes 0 6))
    (number 1 false (bytes 7 8)) (bytes 0 9)

pub record ProductionsAreRead : Type 0 where
  pub int_number : reads (codes "7") ≡ Ok (int 7, 1)
  pub unsigned_number : reads (codes "0x10u") ≡ Ok (number 16 true nowhere, 1)
  pub null_pointer : reads (codes "NULL") ≡ Ok (null nowhere, 1)
  pub variable : reads (codes "a") ≡ Ok (name (codes "a"), 1)
  pub parentheses : reads (codes "((a))") ≡ Ok (name (codes "a"), 5)
  pub call_of_none : reads (codes "f()") ≡ Ok (call (word (codes "f")) none nowhere, 3)
  pub call_of_two : reads (codes "f(1,(a))") ≡ Ok (call (word (codes "f")) (more (int 1) (more (name (codes "a")) none)) nowhere, 8)
  pub member : reads (codes "a.b") ≡ Ok (field (name (codes "a")) (word (codes "b")) false nowhere, 3)
  pub member_behind : reads (codes "a->b") ≡ Ok (field (name (codes "a")) (word (codes "b")) true nowhere, 3)
  pub element : reads (codes "a[1]") ≡ Ok (index (name (codes "a")) (int 1) nowhere, 4)
  pub element_of_member : reads (codes "a.b[1]") ≡ Ok (index (field (name (codes "a")) (word (codes "b")) false nowhere) (int 1) nowhere, 6)
  pub minus : reads (codes "-a") ≡ Ok (unary prefix_op.Minus (name (codes "a")) nowhere, 2)
  pub not : reads (codes "!a") ≡ Ok (unary prefix_op.Not (name (codes "a")) nowhere, 2)
  pub flip : reads (codes "~a") ≡ Ok (unary prefix_op.Flip (name (codes "a")) nowhere, 2)
  pub address : reads (codes "&a.b") ≡ Ok (unary prefix_op.Address (field (name (codes "a")) (word (codes "b")) false nowhere) nowhere, 4)
  pub follow : reads (codes "*a") ≡ Ok (unary prefix_op.Follow (name (codes "a")) nowhere, 2)
  pub both_or : reads (codes "a||b&&1") ≡ Ok (join op.Or (name (codes "a")) (join op.And (name (codes "b")) (int 1)), 5)
  pub bits : reads (codes "1|2^3&4") ≡ Ok (join op.BitOr (int 1) (join op.BitXor (int 2) (join op.BitAnd (int 3) (int 4))), 7)
  pub equal : reads (codes "1&2==3") ≡ Ok (join op.BitAnd (int 1) (join op.Equal (int 2) (int 3)), 5)
  pub unequal : reads (codes "1!=2<3") ≡ Ok (join op.Unequal (int 1) (join op.Less (int 2) (int 3)), 5)
  pub orders : reads (codes "1>2<=3") ≡ Ok (join op.LessEqual (join op.More (int 1) (int 2)) (int 3), 5)
  pub sums : reads (codes "1>=2+3") ≡ Ok (join op.MoreEqual (int 1) (join op.Plus (int 2) (int 3)), 5)
  pub from_the_left : reads (codes "1-2-3") ≡ Ok (join op.Minus (join op.Minus (int 1) (int 2)) (int 3), 5)
  pub from_the_right : reads (codes "1-(2-3)") ≡ Ok (join op.Minus (int 1) (join op.Minus (int 2) (int 3)), 7)
  pub products : reads (codes "1*2/3%4") ≡ Ok (join op.Remainder (join op.Divide (join op.Times (int 1) (int 2)) (int 3)) (int 4), 7)
  pub operand_alone : reads_unary (codes "-a+1") ≡ Ok (unary prefix_op.Minus (name (codes "a")) nowhere, 2)
  pub spans : whole_in (Err (refuse syntax 0)) (tokens_of (codes "(a)->b[1]")) ≡ Ok (spanned, 8)
  -- an operand is missing
  pub no_operand : reads (codes "1+") ≡ Err (refuse syntax 2)
  pub no_argument : reads (codes "f(1,)") ≡ Err (refuse syntax 4)
  pub no_word : reads (codes "-int") ≡ Err (refuse syntax 1)
  -- something isn't closed
  pub open_call : reads (codes "f(1;") ≡ Err (refuse syntax 3)
  pub open_parenthesis : reads (codes "(1]") ≡ Err (refuse syntax 2)
  pub open_bracket : reads (codes "a[1") ≡ Err (refuse syntax 3)
  -- a member has no name
  pub no_member : reads (codes "a->1") ≡ Err (refuse syntax 2)
  -- too many constructs are open
  pub deep_parenthesis : reads_in 99 (codes "((1))") ≡ Err (refuse deep 1)
  pub deep_prefix : reads_in 100 (codes "1+-1") ≡ Err (refuse deep 2)
  pub deep_call : reads_in 100 (codes "f()") ≡ Err (refuse deep 1)
  pub deep_bracket : reads_in 100 (codes "a[1]") ≡ Err (refuse deep 1)
