-- What each node of an expression is found to be by its parts.
use Rattle.std.proofs.Common.{◌≡◌, ◌∙◌, ℕ, ◌+◌, suc, drop, Bool, true, false, not, ◌&&◌, ◌||◌, nat_eq, List, ◌∷◌, length, Option, Some}
use Rattle.std.proofs.Common.{None, is_some, Result, Ok, Err, refl, sym, ap, if◌then◌else◌}
use Rattle.std.specs.Prelude.{option_and_then, slice_get}
use Rattle.tsa_base.specs.declared.token.Span.{Span}
use Rattle.tsa_tree.specs.declared.expr.BinaryOp.{BinaryOp}
use Rattle.tsa_tree.specs.declared.expr.UnaryOp.{UnaryOp}
use Rattle.tsa_tree.specs.declared.expr.Expr.{Expr}
use Rattle.tsa_tree.specs.declared.kind.ExpressionType.{ExpressionType}
use Rattle.tsa_tree.specs.declared.kind.ThingType.{ThingType}
use Rattle.tsa_tree.specs.declared.meaning.Entry.{Entry}
use Rattle.tsa_tree.specs.declared.premise.Failure.{Failure}
use Rattle.tsa_tree.specs.declared.premise.TypeCode.TheVariants.{TY3, TY4}
use Rattle.std.specs.Result.{result_err}
use Rattle.tsa_tree.specs.expressions.Shapes.{shape, shapes}
use Rattle.tsa_tree.specs.expressions.Syntax.{Identifier, Expression, number, null, named, call, unary, binary, field, index}
use Rattle.tsa_tree.specs.types.Expressions.{type_of, types_of, owner, member_of, member_type, is_function, breaks_call, miscounts}
use Rattle.tsa_tree.specs.types.Expressions.{params_of, arguments_break, result_type}
use Rattle.tsa_tree.specs.types.Initialisers.{length_at}
use Rattle.tsa_tree.specs.types.Known.{Context}
use Rattle.tsa_tree.specs.types.Premises.{or_else}
use Rattle.tsa_tree.specs.types.Operands.{breaks_prefix, breaks_binary, breaks_index, prefix_type, binary_type, element_type}
use Rattle.tsa_types_expressions.specs.declared.accesses.Arguments.{Arguments as Judged}
use Rattle.tsa_types_expressions.specs.declared.constants.Constant.{Constant}
use Rattle.tsa_types_expressions.specs.declared.constants.Constant.TheVariants as constant
use Rattle.tsa_types_expressions.specs.declared.constants.Found.{Found}
use Rattle.tsa_types_expressions.specs.Found.{found_number, found_null, found_result, number_in, with_constant, constant_in, found_in}
use Rattle.tsa_types_expressions.specs.Found.{prefix_constant, binary_constant, field_constant, index_constant, known_constant}
use Rattle.tsa_types_expressions.specs.Judging.{cannot_go, failed}
use Rattle.tsa_types_expressions.specs.Parts.{worse, found_thing, name_part, one_part, two_parts, prefix_found, prefix_part, binary_found}
use Rattle.tsa_types_expressions.specs.Parts.{binary_part, found_at, index_found, index_part, member_part, owned_part, field_part}
use Rattle.tsa_types_expressions.specs.Parts.{params_seen, or_found, call_part}
use Rattle.tsa_types_expressions.specs.Verdicts.{at, verdict_of, failure_of_all, found_type, name_verdict, one_verdict, two_verdict}
use Rattle.tsa_types_expressions.specs.Verdicts.{member_verdict, field_verdict, or_failed, call_verdict}
use Rattle.tsa_types_expressions.proofs.Steps.{found_is, named_step, unary_step, binary_step, index_step, field_step, call_step}
use Rattle.tsa_types_expressions.proofs.Walk.{number_step, null_step, counts, breaks_next, failure_next}

-- the type of a part stays the same beside its constant
pub thing_same : (k : Constant) (v : Result ExpressionType Failure) → found_type v ≡ found_thing (with_constant k v)
thing_same k (Ok t) = refl
thing_same k (Err failure) = refl

name_with : (span : Span) (e : Option Entry) → with_constant (known_constant e) (name_verdict span e) ≡ name_part span e
name_with span None = refl
name_with span (Some e) = refl

one_with : (op : UnaryOp) (span : Span) (k : Constant) (b : Bool) (v : Result ExpressionType Failure)
    → with_constant (prefix_constant op k) (one_verdict span b (prefix_type op) v) ≡ one_part span b (prefix_found op) (with_constant k v)
one_with op span k true v = refl
one_with op span k false (Ok t) = refl
one_with op span k false (Err failure) = refl

binary_with : (op : BinaryOp) (span : Span) (k l : Constant) (b : Bool) (v w : Result ExpressionType Failure)
    → with_constant (binary_constant op k l) (two_verdict span b (binary_type op) v w) ≡ two_parts span b (binary_found op) (with_constant k v) (with_constant l w)
binary_with op span k l true v w = refl
binary_with op span k l false (Ok t) (Ok u) = refl
binary_with op span k l false (Ok t) (Err failure) = refl
binary_with op span k l false (Err failure) w = refl

at_same : (l : Option ℕ) (k i : Constant) → index_constant l k i ≡ found_at l k (number_in i)
at_same l (constant.Number r) i = refl
at_same l constant.Null i = refl
at_same l (constant.Place n) i = refl
at_same l (constant.Address n) i = refl
at_same l constant.Other i = refl

index_with : (span : Span) (k l : Constant) (b : Bool) (v w : Result ExpressionType Failure)
    → with_constant (index_constant (length_at (found_type v)) k l) (two_verdict span b (λ a i. element_type a) v w)
    ≡ two_parts span b index_found (with_constant k v) (with_constant l w)
index_with span k l true v w = refl
index_with span k l false (Ok t) (Ok u) = ap (λ x. Ok (record { thing = element_type t; constant = x })) (at_same t.thing.length k l)
index_with span k l false (Ok t) (Err failure) = refl
index_with span k l false (Err failure) w = refl

module _ (c : Context) (name : Identifier) (arrow : Bool) (span : Span) (k : Constant) where
  by_member : (t : ExpressionType) (m : Option ThingType)
      → with_constant (field_constant arrow k) (member_verdict name.span (member_type arrow t) m) ≡ member_part name.span arrow (record { thing = t; constant = k }) m
  by_member t None = refl
  by_member t (Some m) = refl

  by_owner : (t : ExpressionType) (o : Option ℕ)
      → with_constant (field_constant arrow k)
      (if is_some o then member_verdict name.span (member_type arrow t) (option_and_then (λ s. c.member s name.text) o) else Err (at TY3 span))
      ≡ owned_part c name arrow (record { thing = t; constant = k }) span o
  by_owner t None = refl
  by_owner t (Some s) = by_member t (c.member s name.text)

  field_with : (v : Result ExpressionType Failure)
      → with_constant (field_constant arrow k) (field_verdict span name.span (λ t. is_some (owner arrow t)) (member_of c arrow name.text) (member_type arrow) v)
      ≡ field_part c span name arrow (with_constant k v)
  field_with (Err failure) = refl
  field_with (Ok t) = by_owner t (owner arrow t)

call_with : (span : Span) (e : Entry) (f b d : Bool) (x : Option Failure)
    → with_constant constant.Other (if not f || b then Err (at TY3 span) else (if f && d then Err (at TY4 span) else or_failed x (result_type e)))
    ≡ (if not f || b then Err (at TY3 span) else (if d then Err (at TY4 span) else or_found x (found_result e)))
call_with span e false b d x = refl
call_with span e true true d x = refl
call_with span e true false true x = refl
call_with span e true false false None = refl
call_with span e true false false (Some failure) = refl

module _ (c : Context) where
  pub number_found : (n : ℕ) (u : Bool) (span : Span) → found_in c (number n u span) ≡ Ok (found_number n u)
  unfolding found_in constant_in
  number_found n u span = ap (with_constant (constant_in c (number n u span))) (number_step c n u span)

  pub null_found : (span : Span) → found_in c (null span) ≡ Ok found_null
  unfolding found_in constant_in
  null_found span = ap (with_constant constant.Null) (null_step c span)

  pub named_found : (name : Identifier) (span : Span) → found_in c (named name span) ≡ name_part name.span (c.known name.text)
  unfolding found_in constant_in
  named_found name span =
      ap (with_constant (known_constant (c.known name.text))) (named_step c name span) ∙ name_with name.span (c.known name.text)

  pub unary_found : (op : UnaryOp) (inner : Expression) (span : Span) → found_in c (unary op inner span) ≡ prefix_part op span (found_in c inner)
  unfolding found_in constant_in
  unary_found op inner span =
      let k = constant_in c inner in
      let v = verdict_of c inner in
      ap (with_constant (prefix_constant op k)) (unary_step c op inner span)
      ∙ one_with op span k (breaks_prefix op (found_type v)) v
      ∙ ap (λ t. one_part span (breaks_prefix op t) (prefix_found op) (with_constant k v)) (thing_same k v)

  pub binary_found_is : (op : BinaryOp) (left right : Expression) (span : Span)
      → found_in c (binary op left right span) ≡ binary_part op span (found_in c left) (found_in c right)
  unfolding found_in constant_in
  binary_found_is op left right span =
      let k = constant_in c left in
      let l = constant_in c right in
      let v = verdict_of c left in
      let w = verdict_of c right in
      ap (with_constant (binary_constant op k l)) (binary_step c op left right span)
      ∙ binary_with op span k l (breaks_binary op (found_type v) (found_type w)) v w
      ∙ ap (λ t. two_parts span (breaks_binary op t (found_type w)) (binary_found op) (with_constant k v) (with_constant l w)) (thing_same k v)
      ∙ ap (λ t. two_parts span (breaks_binary op (found_thing (with_constant k v)) t) (binary_found op) (with_constant k v) (with_constant l w)) (thing_same l w)

  pub index_found_is : (base inner : Expression) (span : Span)
      → found_in c (index base inner span) ≡ index_part span (found_in c base) (found_in c inner)
  unfolding found_in constant_in
  index_found_is base inner span =
      let k = constant_in c base in
      let l = constant_in c inner in
      let v = verdict_of c base in
      let w = verdict_of c inner in
      ap (with_constant (index_constant (length_at (type_of c base)) k l)) (index_step c base inner span)
      ∙ ap (λ t. with_constant (index_constant (length_at t) k l) (two_verdict span (breaks_index (found_type v) (found_type w)) (λ a i. element_type a) v w)) (found_is c base)
      ∙ index_with span k l (breaks_index (found_type v) (found_type w)) v w
      ∙ ap (λ t. two_parts span (breaks_index t (found_type w)) index_found (with_constant k v) (with_constant l w)) (thing_same k v)
      ∙ ap (λ t. two_parts span (breaks_index (found_thing (with_constant k v)) t) index_found (with_constant k v) (with_constant l w)) (thing_same l w)

  pub field_found : (base : Expression) (name : Identifier) (arrow : Bool) (span : Span)
      → found_in c (field base name arrow span) ≡ field_part c span name arrow (found_in c base)
  unfolding found_in constant_in
  field_found base name arrow span =
      ap (with_constant (field_constant arrow (constant_in c base))) (field_step c base name arrow span)
      ∙ field_with c name arrow span (constant_in c base) (verdict_of c base)

  -- a call, by what its name stands for and what its arguments come to
  module _ (callee : Identifier) (args : List Expr) (span : Span) (judged : Judged) where
    by_entry : (e : Option Entry)
        → judged.breaks ≡ arguments_break (params_seen c e) (types_of c (shapes args))
        → judged.miscounts ≡ not (nat_eq (length (params_seen c e)) (length args))
        → judged.failure ≡ failure_of_all c (shapes args)
        → with_constant constant.Other (call_verdict callee.span span (breaks_call c (types_of c (shapes args))) (miscounts c (types_of c (shapes args)))
        (failure_of_all c (shapes args)) e)
        ≡ call_part callee.span span e judged
    by_entry None b m f = refl
    by_entry (Some e) b m f =
        ap (λ n. with_constant constant.Other (if breaks_call c (types_of c (shapes args)) e then Err (at TY3 span) else (if is_function e && not (nat_eq (length (params_of c e)) n)
        then Err (at TY4 span) else or_failed (failure_of_all c (shapes args)) (result_type e)))) (counts c args)
        ∙ call_with span e (is_function e) (arguments_break (params_of c e) (types_of c (shapes args))) (not (nat_eq (length (params_of c e)) (length args)))
        (failure_of_all c (shapes args))
        ∙ ap (λ x. if not (is_function e) || x then Err (at TY3 span) else (if not (nat_eq (length (params_of c e)) (length args)) then Err (at TY4 span)
        else or_found (failure_of_all c (shapes args)) (found_result e))) (sym b)
        ∙ ap (λ x. if not (is_function e) || judged.breaks then Err (at TY3 span) else (if x then Err (at TY4 span) else or_found (failure_of_all c (shapes args)) (found_result e))) (sym m)
        ∙ ap (λ x. if not (is_function e) || judged.breaks then Err (at TY3 span) else (if judged.miscounts then Err (at TY4 span) else or_found x (found_result e))) (sym f)

    pub call_found : (e : Option Entry) → e ≡ c.known callee.text
        → judged.breaks ≡ arguments_break (params_seen c e) (types_of c (shapes args))
        → judged.miscounts ≡ not (nat_eq (length (params_seen c e)) (length args))
        → judged.failure ≡ failure_of_all c (shapes args)
        → found_in c (call callee (shapes args) span) ≡ call_part callee.span span e judged
    unfolding found_in constant_in
    call_found e is b m f =
        ap (with_constant constant.Other) (call_step c callee (shapes args) span)
        ∙ ap (λ k. with_constant constant.Other (call_verdict callee.span span (breaks_call c (types_of c (shapes args))) (miscounts c (types_of c (shapes args)))
        (failure_of_all c (shapes args)) k)) (sym is)
        ∙ by_entry e b m f

pub ruleset steps = (number_found, null_found, named_found, unary_found, binary_found_is, index_found_is, field_found)

-- Arguments one by one, by what they were found to be.
pub worse_same : (k : Constant) (v : Result ExpressionType Failure) (p : Option ThingType) → worse (with_constant k v) p ≡ cannot_go v p
worse_same k (Ok t) (Some p) = refl
worse_same k (Ok t) None = refl
worse_same k (Err failure) p = refl

pub err_same : (k : Constant) (v : Result ExpressionType Failure) → result_err (with_constant k v) ≡ failed v
err_same k (Ok t) = refl
err_same k (Err failure) = refl

module _ (c : Context) (args : List Expr) (i : ℕ) (arg : Expr) (found : Result Found Failure) (at_i : drop i args ≡ arg ∷ drop (suc i) args)
    (is : found ≡ found_in c (shape arg))
  where
    pub worse_next : (params : List ThingType) (n : ℕ) (b : Bool)
        → (b || arguments_break (drop n params) (types_of c (shapes (drop i args))))
        ≡ ((b || worse found (slice_get params n)) || arguments_break (drop (n + 1) params) (types_of c (shapes (drop (i + 1) args))))
    unfolding found_in
    worse_next params n b =
        breaks_next c params args n i arg b (verdict_of c (shape arg)) at_i refl
        ∙ ap (λ w. (b || w) || arguments_break (drop (n + 1) params) (types_of c (shapes (drop (i + 1) args))))
        (sym (ap (λ r. worse r (slice_get params n)) is ∙ worse_same (constant_in c (shape arg)) (verdict_of c (shape arg)) (slice_get params n)))

    pub err_next : (f : Option Failure)
        → or_else f (failure_of_all c (shapes (drop i args))) ≡ or_else (or_else f (result_err found)) (failure_of_all c (shapes (drop (i + 1) args)))
    unfolding found_in
    err_next f =
        failure_next c args i arg f (verdict_of c (shape arg)) at_i refl
        ∙ ap (λ w. or_else (or_else f w) (failure_of_all c (shapes (drop (i + 1) args))))
        (sym (ap result_err is ∙ err_same (constant_in c (shape arg)) (verdict_of c (shape arg))))
