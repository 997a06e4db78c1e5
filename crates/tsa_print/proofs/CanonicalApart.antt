-- The pieces of a writable expression stay tokens of their own.
use Rattle.std.proofs.Common.{ℕ, ◌≡◌, ◌+◌, ◌≤◌, List, [], ◌∷◌, ◌++◌, Bool, true, false, ◌||◌, ◌&&◌, not, nat_lt, refl, sym, subst, arith}
use Rattle.std.proofs.lemmas.Bool.{and_parts}
use Rattle.std.proofs.lemmas.Bool.Decides.{nat_tests}
use Rattle.std.proofs.lemmas.List.{append_assoc}
use Rattle.std.specs.Prelude.{codes}
use Rattle.tsa_tree.specs.declared.expr.UnaryOp.{UnaryOp}
use Rattle.tsa_tree.specs.declared.expr.BinaryOp.{BinaryOp}
use Rattle.tsa_tree.specs.declared.expr.BinaryOp.TheVariants as op
use Rattle.tsa_tree.specs.tokens.Signs.{Aliases, level}
use Rattle.tsa_tree.specs.expressions.Syntax.{Expression, Arguments, number, null, named, call, unary, binary, field, index, none, more}
use Rattle.tsa_tree.specs.expressions.Sound.{words_beside, is_name, is_sound, are_sound}
use Rattle.tsa_print.specs.declared.mark.Mark.TheVariants as marks
use Rattle.tsa_print.specs.Canonical.{Piece, word, numeral, quoted, operator, prefix, assigned, access, mark, binds_left, pieces, wrapped}
use Rattle.tsa_print.specs.Canonical.{arguments, further}
use Rattle.tsa_print.specs.Writable.{is_number, has_plain_bases, have_plain_bases, is_writable}
use Rattle.tsa_print.proofs.Apart.{is_word, is_dot, is_tight, safe_before, Apart}
use Rattle.tsa_print.proofs.Joins.{begins, begins_dot, Joins, joins_none, joins_loose, joins_apart, joins_append, joins_before}
use Rattle.tsa_print.proofs.Joins.{joins_behind, joins_between}
use Rattle.tsa_print.proofs.Starts.{is_start, starts, tight, starts-pieces, tight-bare}

both : {a b : Bool} → (a && b) ≡ true → (a ≡ true) × (b ≡ true)
both {a} {b} e = and_parts a b e

pub word_of_name : (aliases : Aliases) (text : List ℕ) → is_name aliases text ≡ true → is_word text ≡ true
word_of_name aliases [] e = cc
word_of_name aliases (c ∷ cs) e = (both e).0

-- An expression may stand after an operator and after `=`.

start_loose : (p : Piece) → is_start p ≡ true → not (binds_left p) ≡ true
start_loose (word text) s = refl
start_loose (numeral value unsigned) s = refl
start_loose (quoted text) s = absurd (cc)
start_loose (operator o) s = absurd (cc)
start_loose (prefix o) s = refl
start_loose (assigned o) s = absurd (cc)
start_loose (access arrow) s = absurd (cc)
start_loose (mark marks.Comma) s = absurd (cc)
start_loose (mark marks.OpenParenthesis) s = refl
start_loose (mark marks.OpenCall) s = absurd (cc)
start_loose (mark marks.CloseParenthesis) s = absurd (cc)
start_loose (mark marks.OpenBracket) s = absurd (cc)
start_loose (mark marks.CloseBracket) s = absurd (cc)
start_loose (mark marks.Star) s = absurd (cc)
start_loose (mark marks.Colon) s = absurd (cc)
start_loose (mark marks.Semicolon) s = absurd (cc)
start_loose (mark marks.ForSemicolon) s = absurd (cc)
start_loose (mark marks.OpenBrace) s = absurd (cc)
start_loose (mark marks.CloseBrace) s = absurd (cc)
start_loose (mark marks.OpenBlock) s = absurd (cc)
start_loose (mark marks.CloseBlock) s = absurd (cc)
start_loose (mark marks.CloseBody) s = absurd (cc)
start_loose (mark marks.CloseStruct) s = absurd (cc)

start_dot : (p : Piece) → is_start p ≡ true → is_dot p ≡ false
start_dot (word text) s = refl
start_dot (numeral value unsigned) s = refl
start_dot (quoted text) s = refl
start_dot (operator o) s = refl
start_dot (prefix o) s = refl
start_dot (assigned o) s = refl
start_dot (access arrow) s = absurd (cc)
start_dot (mark k) s = refl

pub starts_loose : (ps : List Piece) → starts ps ≡ true → begins (λ q. not (binds_left q)) ps ≡ true
starts_loose [] s = absurd (cc)
starts_loose (p ∷ ps) s = start_loose p s

starts_tight : (ps : List Piece) → tight ps ≡ true → begins (λ q. is_tight q) ps ≡ true
starts_tight [] s = absurd (cc)
starts_tight (p ∷ ps) s = s

-- A piece is a number and the last one at a place where the place lets operators stand, or where the expression is a number.
abbrev number_last : Expression → (place : ℕ) → Bool
number_last tree place = not (nat_lt 10 place) || is_number tree

-- pieces without a number at their end can stand wherever others can
joins_firm : (b : Bool) (ps : List Piece) → Joins false ps → Joins b ps
joins_firm b ps joins = (joins.0, λ qs e apart. joins.1 qs refl apart)

joins_place : (b : Bool) (ps : List Piece) → Joins true ps → Joins (b || true) ps
joins_place true ps joins = joins
joins_place false ps joins = joins

joins_wrapped : (b last : Bool) (ps : List Piece) → Joins true ps → (b ≡ false → last ≡ true) → Joins last (wrapped b ps)
joins_wrapped true last ps joins bare = joins_firm last (wrapped true ps) (joins_between marks.OpenParenthesis marks.CloseParenthesis ps refl refl joins)
joins_wrapped false last ps joins bare = subst (λ l. Joins l ps) (sym (bare refl)) joins

-- where a binary operator stands in no parentheses, its place is no base
level-place : (o : BinaryOp) (place : ℕ) (last : Bool) → nat_lt (level o) place ≡ false → (not (nat_lt 10 place) || last) ≡ true
level-place o place last e = let low = level_low o in let n : nat_lt 10 place ≡ false = grind (arith, nat_tests, e, low) in rw n refl
  where
    level_low : (o : BinaryOp) → level o ≤ 9
    level_low op.Or = omega arith
    level_low op.And = omega arith
    level_low op.BitOr = omega arith
    level_low op.BitXor = omega arith
    level_low op.BitAnd = omega arith
    level_low op.Equal = omega arith
    level_low op.Unequal = omega arith
    level_low op.Less = omega arith
    level_low op.More = omega arith
    level_low op.LessEqual = omega arith
    level_low op.MoreEqual = omega arith
    level_low op.Plus = omega arith
    level_low op.Minus = omega arith
    level_low op.Times = omega arith
    level_low op.Divide = omega arith
    level_low op.Remainder = omega arith

prefix-place : (place : ℕ) (last : Bool) → nat_lt 10 place ≡ false → (not (nat_lt 10 place) || last) ≡ true
prefix-place place last e = rw e refl

joins_unary : (o : UnaryOp) (inner : Expression) → Joins (number_last inner 11) (pieces inner 11) → Joins true (prefix o ∷ pieces inner 11)
joins_unary o inner joins =
    joins_before true (prefix o) (pieces inner 11) refl refl (starts_tight (pieces inner 11) (tight-bare inner))
    (joins_loose (number_last inner 11) (pieces inner 11) joins)

joins_binary : (o : BinaryOp) (ls rs : List Piece) → starts rs ≡ true → Joins true ls → Joins true rs → Joins true (ls ++ operator o ∷ rs)
joins_binary o ls rs start on_left on_right =
    joins_append true ls (operator o ∷ rs) refl on_left (joins_before true (operator o) rs refl refl (starts_loose rs start) on_right)

joins_field : (base : Expression) (text : List ℕ) (arrow : Bool) → is_word text ≡ true → (arrow || not (is_number base)) ≡ true →
    Joins (number_last base 11) (pieces base 11) → Joins false (pieces base 11 ++ access arrow ∷ (word text ∷ []))
joins_field base text arrow good plain joins = (
  filled (pieces base 11) (starts-pieces base 11),
  λ rs e apart. subst Apart (sym (append_assoc (pieces base 11) (access arrow ∷ (word text ∷ [])) rs))
      (joins.1 (access arrow ∷ (word text ∷ rs)) (no_dot arrow (is_number base) plain) (refl, refl, (good, any text rs, apart))),
)
  where
    filled : (ps : List Piece) → starts ps ≡ true → begins_dot (ps ++ access arrow ∷ (word text ∷ [])) ≡ false
    filled [] s = absurd (cc)
    filled (p ∷ ps) s = start_dot p s

    no_dot : (arrow is : Bool) → (arrow || not is) ≡ true → (is && not arrow) ≡ false
    no_dot true true e = refl
    no_dot true false e = refl
    no_dot false true e = cc
    no_dot false false e = refl

    any : (text : List ℕ) (rs : List Piece) → safe_before (word text) rs ≡ true
    any text [] = refl
    any text (r ∷ rs) = refl

joins_index : (base at : List Piece) → Joins true base → Joins true at →
    Joins false (base ++ mark marks.OpenBracket ∷ (at ++ mark marks.CloseBracket ∷ []))
joins_index base at on_base on_at =
    joins_append false base (mark marks.OpenBracket ∷ (at ++ mark marks.CloseBracket ∷ [])) refl on_base
    (joins_between marks.OpenBracket marks.CloseBracket at refl refl on_at)

joins_call : (text : List ℕ) (args : Arguments) → is_word text ≡ true → Joins true (arguments args) →
    Joins false (word text ∷ (mark marks.OpenCall ∷ (arguments args ++ mark marks.CloseParenthesis ∷ [])))
joins_call text args good on_args =
    joins_behind false (word text) (mark marks.OpenCall ∷ (arguments args ++ mark marks.CloseParenthesis ∷ [])) good refl refl
    (joins_between marks.OpenCall marks.CloseParenthesis (arguments args) refl refl on_args)

module _ (aliases : Aliases) where
  mutual
    joins_pieces : (tree : Expression) (place : ℕ) → is_sound (words_beside aliases) tree ≡ true → has_plain_bases tree ≡ true →
        Joins (number_last tree place) (pieces tree place)
    joins_pieces (number value unsigned span) place sound plain =
        joins_place (not (nat_lt 10 place)) (numeral value unsigned ∷ [])
        (joins_behind true (numeral value unsigned) [] sound refl refl (joins_none true))
    joins_pieces (null span) place sound plain =
        joins_firm (number_last (null span) place) (word (codes "NULL") ∷ []) (joins_behind false (word (codes "NULL")) [] refl refl refl (joins_none false))
    joins_pieces (named name span) place sound plain =
        joins_firm (number_last (named name span) place) (word name.text ∷ [])
        (joins_behind false (word name.text) [] (word_of_name aliases name.text sound) refl refl (joins_none false))
    joins_pieces (call callee args span) place sound plain =
        joins_firm (number_last (call callee args span) place) (pieces (call callee args span) place)
        (joins_call callee.text args (word_of_name aliases callee.text (both sound).0) (joins_arguments args (both sound).1 plain))
    joins_pieces (unary o inner span) place sound plain =
        joins_wrapped (nat_lt 10 place) (number_last (unary o inner span) place) (prefix o ∷ pieces inner 11)
        (joins_unary o inner (joins_pieces inner 11 sound plain)) (prefix-place place false)
    joins_pieces (binary o left right span) place sound plain =
        joins_wrapped (nat_lt (level o) place) (number_last (binary o left right span) place)
        (pieces left (level o) ++ operator o ∷ pieces right (level o + 1))
        (joins_binary o (pieces left (level o)) (pieces right (level o + 1)) (starts-pieces right (level o + 1))
        (joins_loose (number_last left (level o)) (pieces left (level o)) (joins_pieces left (level o) (both sound).0 (both plain).0))
        (joins_loose (number_last right (level o + 1)) (pieces right (level o + 1)) (joins_pieces right (level o + 1) (both sound).1 (both plain).1)))
        (level-place o place false)
    joins_pieces (field base name arrow span) place sound plain =
        joins_firm (number_last (field base name arrow span) place) (pieces (field base name arrow span) place)
        (joins_field base name.text arrow (word_of_name aliases name.text (both sound).1) (both plain).1 (joins_pieces base 11 (both sound).0 (both plain).0))
    joins_pieces (index base at span) place sound plain =
        joins_firm (number_last (index base at span) place) (pieces (index base at span) place)
        (joins_index (pieces base 11) (pieces at 0)
        (joins_loose (number_last base 11) (pieces base 11) (joins_pieces base 11 (both sound).0 (both plain).0))
        (joins_pieces at 0 (both sound).1 (both plain).1))

    pub joins_arguments : (args : Arguments) → are_sound (words_beside aliases) args ≡ true → have_plain_bases args ≡ true → Joins true (arguments args)
    joins_arguments none sound plain = joins_none true
    joins_arguments (more first rest) sound plain =
        joins_append true (pieces first 0) (further rest) refl (joins_pieces first 0 (both sound).0 (both plain).0)
        (joins_further rest (both sound).1 (both plain).1)

    pub joins_further : (args : Arguments) → are_sound (words_beside aliases) args ≡ true → have_plain_bases args ≡ true → Joins true (further args)
    joins_further none sound plain = joins_none true
    joins_further (more first rest) sound plain =
        joins_behind true (mark marks.Comma) (pieces first 0 ++ further rest) refl refl refl
        (joins_append true (pieces first 0) (further rest) refl (joins_pieces first 0 (both sound).0 (both plain).0)
        (joins_further rest (both sound).1 (both plain).1))

-- an expression goes well before any pieces but a `.`
pub joins_expression : (aliases : Aliases) (tree : Expression) (place : ℕ) → is_sound (words_beside aliases) tree ≡ true → has_plain_bases tree ≡ true →
    Joins true (pieces tree place)
joins_expression aliases tree place sound plain = joins_loose (number_last tree place) (pieces tree place) (joins_pieces aliases tree place sound plain)

-- In the canonical text of a writable expression no token runs into the next one.
pub canonical_apart : (aliases : Aliases) (tree : Expression) → is_writable aliases tree ≡ true → Apart (pieces tree 0)
canonical_apart aliases tree writable = joins_apart true (pieces tree 0) (joins_expression aliases tree 0 (both writable).0 (both writable).1)
