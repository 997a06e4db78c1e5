-- What fails at a place inside of others.
use Rattle.std.proofs.Common.{◌≡◌, ◌∙◌, ℕ, Bool, true, false, not, List, [], ◌∷◌, ◌++◌, Option, Some, None, refl, ap, sym}
use Rattle.tsa_base.specs.declared.token.Span.{Span}
use Rattle.tsa_tree.specs.declared.expr.BinaryOp.{BinaryOp}
use Rattle.tsa_tree.specs.declared.expr.BinaryOp.TheVariants as op
use Rattle.tsa_tree.specs.declared.expr.UnaryOp.TheVariants as prefix
use Rattle.tsa_tree.specs.expressions.Syntax.{Identifier, Expression, Arguments, number, null, named, call, unary, binary, field, index}
use Rattle.std.specs.Borrow.{Bor}
use Rattle.tsa_tree.specs.declared.expr.Expr.{Expr}
use Rattle.tsa_tree.specs.declared.expr.ExprKind.{ExprKind, Call}
use Rattle.tsa_tree.specs.declared.expr.Name.{Name}
use Rattle.tsa_tree.specs.declared.expr.UnaryOp.{UnaryOp}
use Rattle.tsa_tree.specs.expressions.Shapes.{kind_shape, name_shape, shape, shapes}
use Rattle.tsa_tree.proofs.expressions.Trees.{call_at}
use Rattle.tsa_profile_accesses.specs.ExpressionViews.{Seen, seen_of}
use Rattle.tsa_profile_accesses.specs.declared.premise.Failure.{Failure}
use Rattle.tsa_profile_accesses.specs.declared.premise.ProfileCode.{ProfileCode}
use Rattle.tsa_profile_accesses.specs.declared.premise.ProfileCode.TheVariants.{PF1, PF3, PF8}
use Rattle.tsa_profile_accesses.specs.declared.standing.Standing.{Standing}
use Rattle.tsa_profile_accesses.specs.declared.standing.Standing.TheVariants.{Inside}
use Rattle.tsa_profile_accesses.specs.Expressions.{View, compares_a_try, guards, own, parts}
use Rattle.tsa_profile_accesses.specs.Locks.{is_empty}
use Rattle.tsa_profile_accesses.specs.Premises.{premise, or_else, first, told}
use Rattle.tsa_profile_accesses.specs.NodeAnswers.{code_if, sides_code}
use Rattle.tsa_profile_guards.specs.Failures.{failing, is_address}

nothing_else : (a : Option Failure) → or_else a None ≡ a
nothing_else None = refl
nothing_else (Some f) = refl

pub nothing_behind : (v : View) (s : Standing) (e : Expression) → failing v s false e None ≡ first (own v s false e ++ parts v s e)
unfolding failing
nothing_behind v s e = nothing_else (first (own v s false e ++ parts v s e))

alone : (code : ProfileCode) (span : Span) (fails : Bool) → first (premise code span fails ∷ []) ≡ told span (code_if fails code)
unfolding first
alone code span true = refl
alone code span false = refl

module _ (v : View) where
  pub number_place : (n : ℕ) (u : Bool) (span : Span) → first (own v Inside false (number n u span)) ≡ None
  unfolding first
  number_place n u span = refl

  pub null_place : (span : Span) → first (own v Inside false (null span)) ≡ None
  unfolding first
  null_place span = refl

  pub named_place : (name : Identifier) (span : Span) → first (own v Inside false (named name span)) ≡ None
  unfolding first
  named_place name span = refl

  pub call_place : (name : Identifier) (args : Arguments) (span : Span) → first (own v Inside false (call name args span)) ≡ told span (Some PF1)
  unfolding first
  call_place name args span = refl

  address_place : (inner : Expression) (span : Span) → first (own v Inside false (unary prefix.Address inner span)) ≡ told span (code_if (not (is_empty (guards v inner))) PF3)
  address_place inner span = alone PF3 span (not (is_empty (guards v inner)))

  pub binary_place : (o : BinaryOp) (left right : Expression) (span : Span) → first (own v Inside false (binary o left right span)) ≡ told span (sides_code v o left right)
  unfolding first
  binary_place op.Equal left right span = alone PF8 span (compares_a_try v left right)
  binary_place op.Unequal left right span = alone PF8 span (compares_a_try v left right)
  binary_place op.Or left right span = refl
  binary_place op.And left right span = refl
  binary_place op.BitOr left right span = refl
  binary_place op.BitXor left right span = refl
  binary_place op.BitAnd left right span = refl
  binary_place op.Less left right span = refl
  binary_place op.More left right span = refl
  binary_place op.LessEqual left right span = refl
  binary_place op.MoreEqual left right span = refl
  binary_place op.Plus left right span = refl
  binary_place op.Minus left right span = refl
  binary_place op.Times left right span = refl
  binary_place op.Divide left right span = refl
  binary_place op.Remainder left right span = refl

  pub field_place : (base : Expression) (name : Identifier) (arrow : Bool) (span : Span) → first (own v Inside false (field base name arrow span)) ≡ None
  unfolding first
  field_place base name arrow span = refl

  pub index_place : (base at : Expression) (span : Span) → first (own v Inside false (index base at span)) ≡ None
  unfolding first
  index_place base at span = refl

  pub prefix_place : (o : UnaryOp) (inner : Expression) (span : Span) → is_address o ≡ false → first (own v Inside false (unary o inner span)) ≡ None
  unfolding first
  prefix_place prefix.Address inner span h = absurd cc
  prefix_place prefix.Follow inner span h = refl
  prefix_place prefix.Minus inner span h = refl
  prefix_place prefix.Flip inner span h = refl
  prefix_place prefix.Not inner span h = refl

  pub prefix_told : (o : UnaryOp) (inner : Expression) (span : Span) → is_address o ≡ true → first (own v Inside false (unary o inner span)) ≡ told span (code_if (not (is_empty (guards v inner))) PF3)
  prefix_told prefix.Address inner span h = address_place inner span
  prefix_told prefix.Follow inner span h = absurd cc
  prefix_told prefix.Minus inner span h = absurd cc
  prefix_told prefix.Flip inner span h = absurd cc
  prefix_told prefix.Not inner span h = absurd cc

pub ruleset prefixes = (prefix_place, prefix_told)

module _ (v : View) (x : Expr) where
  abbrev found : Option Failure
  found = first (own v Inside false (shape x))

  -- what is told of a node in the arena
  pub call_told : (name : Name) (args : Bor (List Expr)) (r : Option Failure) → x.kind ≡ Call name args → r ≡ told x.span (Some PF1) → r ≡ found
  call_told name args r is h = h ∙ sym (ap (λ e. first (own v Inside false e)) (call_at x name args is) ∙ call_place v (name_shape name) (shapes args.now) x.span)

-- what has a kind of which nothing is asked
pub at_kind : (v : View) (x : Expr) (k : ExprKind) → x.kind ≡ k → first (own v Inside false (kind_shape k x.span)) ≡ None → None ≡ first (own v Inside false (shape x))
at_kind v x k is h = sym (ap (λ k. first (own v Inside false (kind_shape k x.span))) is ∙ h)

-- the code that is told of `&` before what was seen
pub guards_seen : (v : View) (p : Bool) (e : Expression) (seen : Seen) (some : Bool) (code : Option ProfileCode) → seen ≡ seen_of v.layout v.stable v.here p e
    → some ≡ not (is_empty seen.guards) → code ≡ code_if some PF3 → code ≡ code_if (not (is_empty (guards v e))) PF3
unfolding seen_of
guards_seen v p e seen some code is are coded = coded ∙ ap (λ b. code_if b PF3) (are ∙ ap (λ s. not (is_empty s.guards)) is)

pub ruleset places = (number_place, null_place, named_place, call_place, binary_place, field_place, index_place)
