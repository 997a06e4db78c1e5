-- What fails at each node of an expression comes before what fails in its parts, and these before what was found behind them.
use Rattle.std.proofs.Common.{◌≡◌, ◌∙◌, ℕ, suc, Bool, true, false, not, ◌&&◌, List, [], ◌∷◌, ◌++◌, drop, Option, Some, None, is_some}
use Rattle.std.proofs.Common.{is_none, refl, ap, sym, if◌then◌else◌}
use Rattle.std.specs.List.{list_any}
use Rattle.std.specs.Prelude.{◌<◌, get_or, length, option_and_then, Result, Ok, Err, OnOk}
use Rattle.std.proofs.Math.Seq.{drop-cons}
use Rattle.tsa_base.specs.declared.token.Span.{Span}
use Rattle.tsa_tree.specs.declared.expr.BinaryOp.{BinaryOp}
use Rattle.tsa_tree.specs.declared.expr.BinaryOp.TheVariants as op
use Rattle.std.specs.Borrow.{Bor}
use Rattle.tsa_tree.proofs.expressions.Trees.{call_at}
use Rattle.tsa_tree.specs.declared.expr.Expr.{Expr}
use Rattle.tsa_tree.specs.declared.expr.ExprKind.{Call}
use Rattle.tsa_tree.specs.declared.expr.Name.{Name}
use Rattle.tsa_tree.specs.declared.expr.UnaryOp.{UnaryOp}
use Rattle.tsa_tree.specs.declared.expr.UnaryOp.TheVariants as prefix
use Rattle.tsa_tree.specs.expressions.Shapes.{name_shape, shape, shapes}
use Rattle.tsa_tree.specs.expressions.Syntax.{Identifier, Expression, Arguments, number, null, named, call, unary, binary, field, index}
use Rattle.tsa_tree.specs.types.Expressions.{function_of}
use Rattle.tsa_tree.specs.types.Scopes.{known_in}
use Rattle.tsa_core.specs.Cells.{own_cell}
use Rattle.tsa_core.specs.Meanings.{is_cell, is_loaded, meaning}
use Rattle.tsa_core.specs.Uses.{access_guards}
use Rattle.tsa_profile_accesses.specs.declared.premise.Failure.{Failure}
use Rattle.tsa_profile_accesses.specs.declared.premise.ProfileCode.{ProfileCode}
use Rattle.tsa_profile_accesses.specs.declared.premise.ProfileCode.TheVariants.{PF1, PF2, PF3, PF5, PF8}
use Rattle.tsa_profile_accesses.specs.declared.standing.Standing.{Standing}
use Rattle.tsa_profile_accesses.specs.declared.standing.Standing.TheVariants.{Inside}
use Rattle.tsa_profile_guards.specs.Accesses.{span_of}
use Rattle.tsa_profile_accesses.specs.Locks.{is_empty, tries}
use Rattle.tsa_profile_accesses.specs.Expressions.{View, arguments, attributes_at, callee, compares_a_try, constant, expression, guards}
use Rattle.tsa_profile_accesses.specs.Expressions.{lacks_a_guard, lacks_a_path, of_callee, own, parts}
use Rattle.tsa_profile_accesses.specs.Premises.{Premise, premise, or_else, failure_of, first, told}
use Rattle.tsa_profile_accesses.specs.ExpressionViews.{Seen, seen_of}
use Rattle.tsa_profile_accesses.specs.Standing.{beside, may_call, may_try, under_not}
use Rattle.tsa_profile_accesses.specs.NodeAnswers.{call_code, code_if, side, sides_code}
use Rattle.tsa_profile_guards.specs.Failures.{failing, failing_arguments}
use Rattle.tsa_profile_guards.specs.Values.{name_code, unled}
use Rattle.tsa_profile_guards.proofs.Operands.{span_is}

pub or_else_or_else : (a b c : Option Failure) → or_else (or_else a b) c ≡ or_else a (or_else b c)
or_else_or_else None b c = refl
or_else_or_else (Some f) b c = refl

pub or_else_none : (a : Option Failure) → or_else a None ≡ a
or_else_none None = refl
or_else_none (Some f) = refl

pub first_append : (xs ys : List Premise) → first (xs ++ ys) ≡ or_else (first xs) (first ys)
unfolding first
first_append [] ys = refl
first_append (x ∷ xs) ys = ap (or_else (failure_of x)) (first_append xs ys) ∙ sym (or_else_or_else (failure_of x) (first xs) (first ys))

both : (xs ys : List Premise) (later : Option Failure) → or_else (first (xs ++ ys)) later ≡ or_else (first xs) (or_else (first ys) later)
both xs ys later = ap (λ a. or_else a later) (first_append xs ys) ∙ or_else_or_else (first xs) (first ys) later

-- a premise before others, and three of them
before_others : (code : ProfileCode) (span : Span) (fails : Bool) (rest later : Option Failure)
    → or_else (or_else (failure_of (premise code span fails)) rest) later ≡ or_else (told span (code_if fails code)) (or_else rest later)
before_others code span true rest later = refl
before_others code span false rest later = refl

three_before : (span : Span) (a b c : Bool) (rest later : Option Failure)
    → or_else (or_else (failure_of (premise PF1 span a)) (or_else (failure_of (premise PF2 span b)) (or_else (failure_of (premise PF5 span c)) rest))) later
    ≡ or_else (told span (if a then Some PF1 else (if b then Some PF2 else code_if c PF5))) (or_else rest later)
three_before span true b c rest later = refl
three_before span false true c rest later = refl
three_before span false false true rest later = refl
three_before span false false false rest later = refl

module _ (v : View) (s : Standing) where
  pub number_fails : (n : ℕ) (u : Bool) (span : Span) (later : Option Failure) → failing v s false (number n u span) later ≡ later
  unfolding failing parts first
  number_fails n u span later = refl

  pub null_fails : (span : Span) (later : Option Failure) → failing v s false (null span) later ≡ later
  unfolding failing parts first
  null_fails span later = refl

  pub named_fails : (name : Identifier) (span : Span) (later : Option Failure) → failing v s false (named name span) later ≡ later
  unfolding failing parts first
  named_fails name span later = refl

  pub call_fails : (name : Identifier) (args : Arguments) (span : Span) (later : Option Failure) → failing v s false (call name args span) later
      ≡ or_else (told span (call_code v s args (option_and_then (λ e. function_of e.meaning) (known_in v.here name.text)))) (failing_arguments v args later)
  unfolding failing failing_arguments parts first
  call_fails name args span later = by (option_and_then (λ e. function_of e.meaning) (known_in v.here name.text))
    where
      by : (c : Option ℕ) → or_else (or_else (failure_of (premise PF1 span (not (may_call s)))) (or_else (failure_of (premise PF2 span (of_callee (lacks_a_path v args) c)))
          (or_else (failure_of (premise PF5 span (of_callee (λ n. tries (attributes_at v.attributes n)) c && not (may_try s)))) (first (arguments v args))))) later
          ≡ or_else (told span (call_code v s args c)) (or_else (first (arguments v args)) later)
      by None = three_before span (not (may_call s)) false false (first (arguments v args)) later
      by (Some n) = three_before span (not (may_call s)) (lacks_a_path v args n) (tries (attributes_at v.attributes n) && not (may_try s)) (first (arguments v args)) later

  pub address_fails : (inner : Expression) (span : Span) (later : Option Failure) → failing v s false (unary prefix.Address inner span) later
      ≡ or_else (told span (code_if (not (is_empty (seen_of v.layout v.stable v.here false inner).guards)) PF3)) (failing v Inside false inner later)
  unfolding failing parts first seen_of
  address_fails inner span later = before_others PF3 span (not (is_empty (guards v inner))) (first (own v Inside false inner ++ parts v Inside inner)) later

  pub follow_fails : (inner : Expression) (span : Span) (later : Option Failure) → failing v s false (unary prefix.Follow inner span) later ≡ failing v Inside true inner later
  unfolding failing parts
  follow_fails inner span later = refl

  pub minus_fails : (inner : Expression) (span : Span) (later : Option Failure) → failing v s false (unary prefix.Minus inner span) later ≡ failing v Inside true inner later
  unfolding failing parts
  minus_fails inner span later = refl

  pub flip_fails : (inner : Expression) (span : Span) (later : Option Failure) → failing v s false (unary prefix.Flip inner span) later ≡ failing v Inside true inner later
  unfolding failing parts
  flip_fails inner span later = refl

  pub not_fails : (inner : Expression) (span : Span) (later : Option Failure) → failing v s false (unary prefix.Not inner span) later ≡ failing v (under_not s) true inner later
  unfolding failing parts
  not_fails inner span later = refl

  pub field_fails : (base : Expression) (name : Identifier) (arrow : Bool) (span : Span) (later : Option Failure)
      → failing v s false (field base name arrow span) later ≡ failing v Inside arrow base later
  unfolding failing parts first
  field_fails base name arrow span later = refl

  pub index_fails : (base at : Expression) (span : Span) (later : Option Failure)
      → failing v s false (index base at span) later ≡ failing v Inside false base (failing v Inside true at later)
  unfolding failing parts first
  index_fails base at span later = both (own v Inside false base ++ parts v Inside base) (own v Inside true at ++ parts v Inside at) later

  -- the sides of an operator
  sides_fail : (t u : Standing) (left right : Expression) (later : Option Failure)
      → or_else (first ((own v t true left ++ parts v t left) ++ (own v u true right ++ parts v u right))) later ≡ failing v t true left (failing v u true right later)
  unfolding failing
  sides_fail t u left right later = both (own v t true left ++ parts v t left) (own v u true right ++ parts v u right) later

  compared_fail : (t u : Standing) (left right : Expression) (span : Span) (b : Bool) (later : Option Failure)
      → or_else (or_else (failure_of (premise PF8 span b)) (first ((own v t true left ++ parts v t left) ++ (own v u true right ++ parts v u right)))) later
      ≡ or_else (told span (code_if b PF8)) (failing v t true left (failing v u true right later))
  compared_fail t u left right span b later =
      before_others PF8 span b (first ((own v t true left ++ parts v t left) ++ (own v u true right ++ parts v u right))) later
      ∙ ap (or_else (told span (code_if b PF8))) (sides_fail t u left right later)

  pub binary_fails : (o : BinaryOp) (left right : Expression) (span : Span) (later : Option Failure) → failing v s false (binary o left right span) later
      ≡ or_else (told span (sides_code v o left right)) (failing v (side v s o right) true left (failing v (side v s o left) true right later))
  unfolding failing parts first
  binary_fails op.Equal left right span later =
      compared_fail (beside s (is_some (constant v right))) (beside s (is_some (constant v left))) left right span (compares_a_try v left right) later
  binary_fails op.Unequal left right span later =
      compared_fail (beside s (is_some (constant v right))) (beside s (is_some (constant v left))) left right span (compares_a_try v left right) later
  binary_fails op.Or left right span later = sides_fail Inside Inside left right later
  binary_fails op.And left right span later = sides_fail Inside Inside left right later
  binary_fails op.BitOr left right span later = sides_fail Inside Inside left right later
  binary_fails op.BitXor left right span later = sides_fail Inside Inside left right later
  binary_fails op.BitAnd left right span later = sides_fail Inside Inside left right later
  binary_fails op.Less left right span later = sides_fail Inside Inside left right later
  binary_fails op.More left right span later = sides_fail Inside Inside left right later
  binary_fails op.LessEqual left right span later = sides_fail Inside Inside left right later
  binary_fails op.MoreEqual left right span later = sides_fail Inside Inside left right later
  binary_fails op.Plus left right span later = sides_fail Inside Inside left right later
  binary_fails op.Minus left right span later = sides_fail Inside Inside left right later
  binary_fails op.Times left right span later = sides_fail Inside Inside left right later
  binary_fails op.Divide left right span later = sides_fail Inside Inside left right later
  binary_fails op.Remainder left right span later = sides_fail Inside Inside left right later

  -- Where a value is wanted, the guards of its cell come before all else; what is no cell has none.
  abbrev Wanted : Expression → Option Failure → Type 0
  Wanted e later = or_else (told (span_of e) (code_if (lacks_a_guard v e) PF2)) (failing v s false e later) ≡ failing v s true e later

  without_guards : (a b : Bool) → (a && (b && false)) ≡ false
  without_guards false b = refl
  without_guards true false = refl
  without_guards true true = refl

  alike : (e : Expression) (later : Option Failure) → own v s false e ≡ own v s true e → lacks_a_guard v e ≡ false → Wanted e later
  unfolding failing
  alike e later same lacks =
      ap (λ b. or_else (told (span_of e) (code_if b PF2)) (or_else (first (own v s false e ++ parts v s e)) later)) lacks
      ∙ ap (λ o. or_else (first (o ++ parts v s e)) later) same

  prefix_alike : (o : UnaryOp) (inner : Expression) (span : Span) → own v s false (unary o inner span) ≡ own v s true (unary o inner span)
  prefix_alike prefix.Address inner span = refl
  prefix_alike prefix.Follow inner span = refl
  prefix_alike prefix.Minus inner span = refl
  prefix_alike prefix.Not inner span = refl
  prefix_alike prefix.Flip inner span = refl

  pub number_wanted : (n : ℕ) (u : Bool) (span : Span) (later : Option Failure) → failing v s true (number n u span) later ≡ later
  unfolding failing parts first
  number_wanted n u span later = refl

  binary_alike : (o : BinaryOp) (left right : Expression) (span : Span) → own v s false (binary o left right span) ≡ own v s true (binary o left right span)
  binary_alike op.Equal left right span = refl
  binary_alike op.Unequal left right span = refl
  binary_alike op.Or left right span = refl
  binary_alike op.And left right span = refl
  binary_alike op.BitOr left right span = refl
  binary_alike op.BitXor left right span = refl
  binary_alike op.BitAnd left right span = refl
  binary_alike op.Less left right span = refl
  binary_alike op.More left right span = refl
  binary_alike op.LessEqual left right span = refl
  binary_alike op.MoreEqual left right span = refl
  binary_alike op.Plus left right span = refl
  binary_alike op.Minus left right span = refl
  binary_alike op.Times left right span = refl
  binary_alike op.Divide left right span = refl
  binary_alike op.Remainder left right span = refl

  wanted : (e : Expression) (later : Option Failure) → Wanted e later
  unfolding failing first access_guards
  wanted (number n u span) later = alike (number n u span) later refl (without_guards v.is_run (not (is_empty (own_cell v.here (number n u span)))))
  wanted (null span) later = alike (null span) later refl (without_guards v.is_run (not (is_empty (own_cell v.here (null span)))))
  wanted (named name span) later = sym (before_others PF2 span (lacks_a_guard v (named name span)) (first (parts v s (named name span))) later)
  wanted (call name args span) later = alike (call name args span) later refl (without_guards v.is_run (not (is_empty (own_cell v.here (call name args span)))))
  wanted (unary o inner span) later = alike (unary o inner span) later (prefix_alike o inner span) (without_guards v.is_run (not (is_empty (own_cell v.here (unary o inner span)))))
  wanted (binary o left right span) later = alike (binary o left right span) later (binary_alike o left right span) (without_guards v.is_run (not (is_empty (own_cell v.here (binary o left right span)))))
  wanted (field base name arrow span) later = sym (before_others PF2 span (lacks_a_guard v (field base name arrow span)) (first (parts v s (field base name arrow span))) later)
  wanted (index base at span) later = sym (before_others PF2 span (lacks_a_guard v (index base at span)) (first (parts v s (index base at span))) later)

  cell_read : (run cell lacks : Bool) (e : Expression) → ((run && cell) && lacks) ≡ (run && (not (is_empty (if cell then e ∷ [] else [])) && lacks))
  cell_read false cell lacks e = refl
  cell_read true true lacks e = refl
  cell_read true false lacks e = refl

  -- the same of a name
  pub named_wanted : (name : Identifier) (span : Span) (later : Option Failure)
      → failing v s true (named name span) later ≡ or_else (told span (name_code v.is_run v.layout v.here name.text)) later
  unfolding failing parts first access_guards meaning name_code
  named_wanted name span later =
      sym (ap (λ b. or_else (told span (code_if b PF2)) later) (cell_read v.is_run (is_loaded (meaning v.here (named name span))) (list_any is_none (guards v (named name span))) (named name span))
      ∙ wanted (named name span) later)

  -- the same of a node by what was seen of it
  pub value_fails : (p : Bool) (x : Expr) (later : Option Failure)
      → or_else (told x.span (code_if ((v.is_run && ((seen_of v.layout v.stable v.here p (shape x)).thing.is_place && is_cell (seen_of v.layout v.stable v.here p (shape x)).thing.expression.thing))
      && list_any is_none (seen_of v.layout v.stable v.here p (shape x)).guards) PF2)) (failing v s false (shape x) later)
      ≡ failing v s true (shape x) later
  unfolding seen_of
  value_fails p x later =
      ap (λ b. or_else (told x.span (code_if b PF2)) (failing v s false (shape x) later))
      (cell_read v.is_run (is_loaded (meaning v.here (shape x))) (list_any is_none (guards v (shape x))) (shape x))
      ∙ ap (λ span. or_else (told span (code_if (lacks_a_guard v (shape x)) PF2)) (failing v s false (shape x) later)) (sym (span_is x.kind x.span))
      ∙ wanted (shape x) later

  pub none_behind : (e : Expression) → failing v s true e None ≡ first (expression v s e)
  unfolding failing
  none_behind e = or_else_none (first (expression v s e))

-- what holds in any case
pub on_ok : {A E P : Type 0} (r : Result A E) → P → OnOk r P
on_ok (Ok x) p = p
on_ok (Err e) p = tt

-- the same by what the code was made of, and where nothing comes behind
abbrev cell_code : View → Seen → Option ProfileCode
cell_code v y = code_if ((v.is_run && (y.thing.is_place && is_cell y.thing.expression.thing)) && list_any is_none y.guards) PF2

pub operand_fails : (v : View) (s : Standing) (p : Bool) (x : Expr) (seen : Seen) (code : Option ProfileCode) (later inner after : Option Failure)
    → unled seen ≡ unled (seen_of v.layout v.stable v.here p (shape x))
    → code ≡ code_if ((v.is_run && (seen.thing.is_place && is_cell seen.thing.expression.thing)) && list_any is_none seen.guards) PF2
    → inner ≡ failing v s false (shape x) later → after ≡ or_else (told x.span code) inner → after ≡ failing v s true (shape x) later
operand_fails v s p x seen code later inner after saw coded inside is =
    is
    ∙ ap (λ c. or_else (told x.span c) inner) (coded ∙ ap (cell_code v) saw)
    ∙ ap (or_else (told x.span (cell_code v (seen_of v.layout v.stable v.here p (shape x))))) inside
    ∙ value_fails v s p x later

pub left_fails : (v : View) (s : Standing) (p : Bool) (x : Expr) (seen : Seen) (code : Option ProfileCode) (start inner after : Option Failure) → s ≡ Inside
    → unled seen ≡ unled (seen_of v.layout v.stable v.here p (shape x))
    → code ≡ code_if ((v.is_run && (seen.thing.is_place && is_cell seen.thing.expression.thing)) && list_any is_none seen.guards) PF2
    → start ≡ None → inner ≡ failing v s false (shape x) start → after ≡ or_else (told x.span code) inner → after ≡ first (expression v Inside (shape x))
left_fails v s p x seen code start inner after stands saw coded nothing inside is =
    operand_fails v s p x seen code start inner after saw coded inside is
    ∙ ap (λ t. failing v t true (shape x) start) stands
    ∙ ap (failing v Inside true (shape x)) nothing
    ∙ none_behind v Inside (shape x)

-- the arguments of a call, one before those behind it
module _ (v : View) where
  pub no_argument_fails : (args : List Expr) (i : ℕ) (later : Option Failure) → drop i args ≡ [] → later ≡ failing_arguments v (shapes (drop i args)) later
  unfolding failing_arguments arguments first
  no_argument_fails args i later at_end = sym (ap (λ xs. or_else (first (arguments v (shapes xs))) later) at_end)

  argument_fails : (args : List Expr) (i j : ℕ) (x : Expr) (later : Option Failure) → drop i args ≡ x ∷ drop (suc i) args → j ≡ suc i
      → failing v Inside true (shape x) (failing_arguments v (shapes (drop j args)) later) ≡ failing_arguments v (shapes (drop i args)) later
  unfolding failing failing_arguments arguments
  argument_fails args i j x later at_i next =
      ap (λ k. or_else (first (expression v Inside (shape x))) (or_else (first (arguments v (shapes (drop k args)))) later)) next
      ∙ sym (both (expression v Inside (shape x)) (arguments v (shapes (drop (suc i) args))) later)
      ∙ sym (ap (λ xs. or_else (first (arguments v (shapes xs))) later) at_i)

  pub argument_fails_next : (args : List Expr) (i j : ℕ) (d : Expr) (so_far later after : Option Failure) → i < length args → j ≡ suc i
      → so_far ≡ failing_arguments v (shapes (drop j args)) later → after ≡ failing v Inside true (shape (get_or args i d)) so_far
      → after ≡ failing_arguments v (shapes (drop i args)) later
  argument_fails_next args i j d so_far later after within next known is =
      is ∙ ap (failing v Inside true (shape (get_or args i d))) known ∙ argument_fails args i j (get_or args i d) later (drop-cons args i d within) next

-- the call that a node in the arena is
pub callee_inside : (v : View) (x : Expr) (name : Name) (args : Bor (List Expr)) (function : Option ℕ) → x.kind ≡ Call name args
    → function ≡ option_and_then (λ e. function_of e.meaning) (known_in v.here name.text.now) → function ≡ callee v (shape x)
callee_inside v x name args function is known = known ∙ sym (ap (callee v) (call_at x name args is))

pub call_inside_fails : (v : View) (s : Standing) (x : Expr) (name : Name) (args : Bor (List Expr)) (function : Option ℕ) (code : Option ProfileCode)
    (later inside after : Option Failure) → x.kind ≡ Call name args → function ≡ option_and_then (λ e. function_of e.meaning) (known_in v.here name.text.now)
    → code ≡ call_code v s (shapes args.now) function → inside ≡ failing_arguments v (shapes args.now) later → after ≡ or_else (told x.span code) inside
    → after ≡ failing v s false (shape x) later
call_inside_fails v s x name args function code later inside after is known coded arguments_fail told_is =
    told_is
    ∙ ap (λ c. or_else (told x.span c) inside) (coded ∙ ap (call_code v s (shapes args.now)) known)
    ∙ ap (or_else (told x.span (call_code v s (shapes args.now) (option_and_then (λ e. function_of e.meaning) (known_in v.here name.text.now))))) arguments_fail
    ∙ sym (ap (λ e. failing v s false e later) (call_at x name args is) ∙ call_fails v s (name_shape name) (shapes args.now) x.span later)

-- numbers and names whose values are wanted
pub ruleset values_fail = (number_wanted, named_wanted)

pub ruleset fails = (number_fails, null_fails, named_fails, call_fails, address_fails, follow_fails, minus_fails, flip_fails, not_fails, binary_fails, field_fails, index_fails)
