-- The nodes of expressions beside their premises; and an expression that has a type has no failing premise.
use Rattle.std.proofs.Common.{◌≡◌, ◌∙◌, Bool, true, false, not, ◌&&◌, ◌||◌, List, [], ◌∷◌, ◌++◌, Option, Some, None, is_some, is_none}
use Rattle.std.proofs.Common.{option_map, option_and_then, refl, sym, ap, if◌then◌else◌}
use Rattle.tsa_base.specs.declared.token.Span.{Span}
use Rattle.tsa_tree.specs.expressions.Syntax.{Identifier, Expression, Arguments, number, null, named, call, unary, binary, field, index}
use Rattle.tsa_tree.specs.expressions.Syntax.{none, more}
use Rattle.tsa_tree.specs.points.Syntax.{expression_span}
use Rattle.tsa_tree.specs.declared.premise.TypeCode.{TypeCode}
use Rattle.tsa_tree.specs.declared.premise.TypeCode.TheVariants.{TY1, TY3, TY4}
use Rattle.tsa_tree.specs.types.Expressions.{type_of, types_of, premises_of, premises_of_all, unknown, unless, both, all_typed, breaks_call}
use Rattle.tsa_tree.specs.types.Expressions.{miscounts, known_and, owner, member_of, member_type}
use Rattle.tsa_tree.specs.types.Fails.{fails}
use Rattle.tsa_tree.specs.types.FirstFailing.{codes_in_order, failure_at, first_failing_of}
use Rattle.tsa_tree.specs.types.Known.{Context, Entry}
use Rattle.tsa_tree.specs.types.Node as node
use Rattle.tsa_tree.specs.types.Node.{Node, told_at}
use Rattle.tsa_tree.specs.types.Nodes.{nodes_in, nodes_in_arguments}
use Rattle.tsa_tree.specs.types.Operands.{lacks, breaks_prefix, breaks_binary, breaks_index, prefix_type, binary_type, element_type}
use Rattle.tsa_tree.specs.types.Premises.{Premise, Failure, premise, failure_of, or_else, first}
use Rattle.tsa_tree.specs.types.Types.{ThingType, ExpressionType}
use Rattle.tsa_tree.proofs.types.NodeLists.{Agree, no_nodes, joined, with_node, a_node, first-append, or_else_none}

-- of these premises none fails where this has a type
abbrev KeptBy : {A : Type 0} → List Premise → Option A → Type 0
KeptBy {A} ps o = (x : A) → o ≡ Some x → first ps ≡ None

-- two lists of which none fails
both_kept : (ps qs : List Premise) → first ps ≡ None → first qs ≡ None → first (ps ++ qs) ≡ None
both_kept ps qs h k = first-append ps qs ∙ (ap (λ o. or_else o (first qs)) h ∙ k)

-- A typed expression with its parts: an operator and its operand ..
by_prefix : (span : Span) (b : Bool) (o : Option ExpressionType) (f : ExpressionType → ExpressionType) (ps : List Premise)
    → KeptBy ps o → KeptBy (premise TY3 span b ∷ ps) (unless b (option_map f o))
unfolding first
by_prefix span true o f ps inner t h = cc
by_prefix span false None f ps inner t h = cc
by_prefix span false (Some u) f ps inner t h = inner u refl

-- .. or its two operands ..
by_two : (span : Span) (b : Bool) (l r : Option ExpressionType) (f : ExpressionType → ExpressionType → ExpressionType) (ps qs : List Premise)
    → KeptBy ps l → KeptBy qs r → KeptBy (premise TY3 span b ∷ ps ++ qs) (unless b (both f l r))
unfolding first
by_two span true l r f ps qs left right t h = cc
by_two span false None r f ps qs left right t h = cc
by_two span false (Some a) None f ps qs left right t h = cc
by_two span false (Some a) (Some b) f ps qs left right t h = both_kept ps qs (left a refl) (right b refl)

-- .. a name ..
by_name : (span : Span) (e : Option Entry) (f : Entry → ExpressionType) → KeptBy (premise TY1 span (is_none e) ∷ []) (option_map f e)
unfolding first
by_name span None f t h = cc
by_name span (Some e) f t h = refl

-- .. a call ..
by_call : (callee : Identifier) (span : Span) (e : Option Entry) (b m : Entry → Bool) (a : Bool) (f : Entry → ExpressionType) (ps : List Premise)
    → (a ≡ true → first ps ≡ None)
    → KeptBy
    (unknown callee e ∷ premise TY3 span (known_and b e) ∷ premise TY4 span (known_and m e) ∷ ps)
    (unless (known_and b e || (known_and m e || not a)) (option_map f e))
unfolding first
by_call callee span None b m true f ps args t h = cc
by_call callee span None b m false f ps args t h = cc
by_call callee span (Some e) b m a f ps args t h = by_tests (b e) (m e) a args h
  where
    by_tests : (b m a : Bool) → (a ≡ true → first ps ≡ None) → unless (b || (m || not a)) (Some (f e)) ≡ Some t
        → or_else (failure_of (premise TY3 span b)) (or_else (failure_of (premise TY4 span m)) (first ps)) ≡ None
    by_tests true m a args h = cc
    by_tests false true a args h = cc
    by_tests false false true args h = args refl
    by_tests false false false args h = cc

-- .. a member ..
by_member : (span used : Span) (o : Option ExpressionType) (owns : ExpressionType → Bool) (m : ExpressionType → Option ThingType)
    (f : ExpressionType → ThingType → ExpressionType) (ps : List Premise) → KeptBy ps o
    → KeptBy
    (premise TY3 span (lacks owns o) ∷ ps ++ premise TY1 used (known_and (λ t. owns t && is_none (m t)) o) ∷ [])
    (unless (lacks owns o) (option_and_then (λ t. option_map (f t) (m t)) o))
unfolding first
by_member span used None owns m f ps inner t h = cc
by_member span used (Some u) owns m f ps inner t h = by_tests (owns u) (m u) h
  where
    by_tests : (b : Bool) (o : Option ThingType) → unless (not b) (option_map (f u) o) ≡ Some t
        → or_else (failure_of (premise TY3 span (not b))) (first (ps ++ premise TY1 used (b && is_none o) ∷ [])) ≡ None
    by_tests false o h = cc
    by_tests true None h = cc
    by_tests true (Some member) h = both_kept ps (premise TY1 used false ∷ []) (inner u refl) refl

-- .. and the arguments of a call.
all_typed-more : (o : Option ExpressionType) (rest : List (Option ExpressionType)) (ps qs : List Premise) → KeptBy ps o → (all_typed rest ≡ true → first qs ≡ None)
    → all_typed (o ∷ rest) ≡ true → first (ps ++ qs) ≡ None
all_typed-more None rest ps qs first_kept rest_kept h = cc
all_typed-more (Some t) rest ps qs first_kept rest_kept h = both_kept ps qs (first_kept t refl) (rest_kept h)

-- In an expression that has a type no premise fails.
mutual
  unfolding type_of premises_of first

  pub typed_keeps : (c : Context) (e : Expression) (t : ExpressionType) → type_of c e ≡ Some t → first (premises_of c e) ≡ None
  typed_keeps c (number n u span) = λ t h. refl
  typed_keeps c (null span) = λ t h. refl
  typed_keeps c (named name span) = by_name name.span (c.known name.text) _
  typed_keeps c (call callee given span) = by_call callee span (c.known callee.text) _ _ (all_typed (types_of c given)) _ (premises_of_all c given) (all_keep c given)
  typed_keeps c (unary op inner span) = by_prefix span (breaks_prefix op (type_of c inner)) (type_of c inner) (prefix_type op) (premises_of c inner) (typed_keeps c inner)
  typed_keeps c (binary op left right span) =
      by_two
      span
      (breaks_binary op (type_of c left) (type_of c right))
      (type_of c left)
      (type_of c right)
      (binary_type op)
      (premises_of c left)
      (premises_of c right)
      (typed_keeps c left)
      (typed_keeps c right)
  typed_keeps c (field base name arrow span) = by_member span name.span (type_of c base) _ (member_of c arrow name.text) (member_type arrow) (premises_of c base) (typed_keeps c base)
  typed_keeps c (index base at span) =
      by_two
      span
      (breaks_index (type_of c base) (type_of c at))
      (type_of c base)
      (type_of c at)
      (λ a i. element_type a)
      (premises_of c base)
      (premises_of c at)
      (typed_keeps c base)
      (typed_keeps c at)

  -- nor in arguments that have one each
  pub all_keep : (c : Context) (given : Arguments) → all_typed (types_of c given) ≡ true → first (premises_of_all c given) ≡ None
  all_keep c none = λ h. refl
  all_keep c (more e rest) = all_typed-more (type_of c e) (types_of c rest) (premises_of c e) (premises_of_all c rest) (typed_keeps c e) (all_keep c rest)

-- A call stands before its callee's name, whose premise stands first: where the name isn't known, nothing is told of the call.
call_told : (callee : Identifier) (span : Span) (e : Option Entry) (b m : Entry → Bool) (rest others : Option Failure) → rest ≡ others
    → or_else
    (or_else (failure_of (premise TY3 span (known_and b e))) (or_else (failure_of (premise TY4 span (known_and m e))) None))
    (or_else (or_else (failure_of (unknown callee e)) None) rest)
    ≡ or_else
    (failure_of (unknown callee e))
    (or_else (failure_of (premise TY3 span (known_and b e))) (or_else (failure_of (premise TY4 span (known_and m e))) others))
call_told callee span None b m rest others same = refl
call_told callee span (Some e) b m rest others same = by_tests (b e) (m e)
  where
    by_tests : (b m : Bool)
        → or_else (or_else (failure_of (premise TY3 span b)) (or_else (failure_of (premise TY4 span m)) None)) rest
        ≡ or_else (failure_of (premise TY3 span b)) (or_else (failure_of (premise TY4 span m)) others)
    by_tests true m = refl
    by_tests false true = refl
    by_tests false false = same

-- a call with arguments that agree
call_agrees : (c : Context) (callee : Identifier) (given : Arguments) (span : Span) → Agree (nodes_in_arguments c given) (premises_of_all c given)
    → Agree
    (node.call c callee given span ∷ node.name c callee ∷ nodes_in_arguments c given)
    (unknown callee (c.known callee.text)
    ∷ premise TY3 span (known_and (breaks_call c (types_of c given)) (c.known callee.text))
    ∷ premise TY4 span (known_and (miscounts c (types_of c given)) (c.known callee.text))
    ∷ premises_of_all c given)
unfolding first first_failing_of failure_at fails told_at
call_agrees c callee given span a = record {
  same = call_told callee span (c.known callee.text) (breaks_call c (types_of c given)) (miscounts c (types_of c given)) _ _ a.same;
}

-- The nodes of an expression agree with its premises.
mutual
  unfolding nodes_in premises_of first failure_at fails told_at

  pub expression_agrees : (c : Context) (e : Expression) → Agree (nodes_in c e) (premises_of c e)
  expression_agrees c (number n u span) = no_nodes
  expression_agrees c (null span) = no_nodes
  expression_agrees c (named name span) = a_node (node.name c name) (unknown name (c.known name.text) ∷ []) refl
  expression_agrees c (call callee given span) = call_agrees c callee given span (arguments_agree c given)
  expression_agrees c (unary op inner span) =
      with_node (node.prefix c op inner span) (premise TY3 span (breaks_prefix op (type_of c inner)) ∷ []) refl (expression_agrees c inner)
  expression_agrees c (binary op left right span) =
      with_node
      (node.binary c op left right span)
      (premise TY3 span (breaks_binary op (type_of c left) (type_of c right)) ∷ [])
      refl
      (joined (expression_agrees c left) (expression_agrees c right))
  expression_agrees c (field base name arrow span) =
      with_node
      (node.access c base arrow span)
      (premise TY3 span (lacks (λ t. is_some (owner arrow t)) (type_of c base)) ∷ [])
      refl
      (joined (expression_agrees c base) (a_node (node.member_name c base arrow name) _ refl))
  expression_agrees c (index base at span) =
      with_node
      (node.index c base at span)
      (premise TY3 span (breaks_index (type_of c base) (type_of c at)) ∷ [])
      refl
      (joined (expression_agrees c base) (expression_agrees c at))

  -- and those of arguments
  pub arguments_agree : (c : Context) (given : Arguments) → Agree (nodes_in_arguments c given) (premises_of_all c given)
  arguments_agree c none = no_nodes
  arguments_agree c (more e rest) = joined (expression_agrees c e) (arguments_agree c rest)

-- What a rule of a larger construct asks of an expression may be told before the expression's own nodes, or behind its premises: where the
-- rule fails the expression has a type, and then none of its premises fails.
asked_told : (p : Premise) (o : Option Failure) → (p.fails ≡ true → o ≡ None) → or_else (or_else (failure_of p) None) o ≡ or_else o (or_else (failure_of p) None)
asked_told p o h = by_test p.fails h
  where
    by_test : (b : Bool) → (b ≡ true → o ≡ None)
        → or_else (or_else (if b then Some (record { code = p.code; span = p.span }) else None) None) o
        ≡ or_else o (or_else (if b then Some (record { code = p.code; span = p.span }) else None) None)
    by_test true h = sym (ap (λ x. or_else x (Some (record { code = p.code; span = p.span }))) (h refl))
    by_test false h = sym (or_else_none o)

-- a node for such a rule, whose premise doesn't fail where the expression has no type
asked : (c : Context) (e : Expression) (n : Node) (p : Premise) → failure_at codes_in_order n ≡ or_else (failure_of p) None → (type_of c e ≡ None → p.fails ≡ false)
    → Agree (n ∷ nodes_in c e) (premises_of c e ++ p ∷ [])
unfolding first first_failing_of
asked c e n p told untyped = record {
  same =
      ap (λ o. or_else o (first_failing_of (nodes_in c e))) told
      ∙ (ap (or_else (or_else (failure_of p) None)) (expression_agrees c e).same
      ∙ (asked_told p (first (premises_of c e)) (kept (type_of c e) refl) ∙ sym (first-append (premises_of c e) (p ∷ []))));
}
  where
    kept : (o : Option ExpressionType) → type_of c e ≡ o → p.fails ≡ true → first (premises_of c e) ≡ None
    kept None h fails = cc (untyped h)
    kept (Some t) h fails = typed_keeps c e t h

-- the rule that a typed expression fails a test
pub asked_if : (c : Context) (e : Expression) (n : Node) (code : TypeCode) (test : ExpressionType → Bool)
    → failure_at codes_in_order n ≡ or_else (failure_of (premise code (expression_span e) (known_and test (type_of c e)))) None
    → Agree (n ∷ nodes_in c e) (premises_of c e ++ premise code (expression_span e) (known_and test (type_of c e)) ∷ [])
asked_if c e n code test told = asked c e n (premise code (expression_span e) (known_and test (type_of c e))) told (untyped (type_of c e))
  where
    untyped : (o : Option ExpressionType) → o ≡ None → known_and test o ≡ false
    untyped None h = refl
    untyped (Some t) h = cc

-- the rule that an expression, where it is typed, passes one
pub asked_unless : (c : Context) (e : Expression) (n : Node) (code : TypeCode) (test : ExpressionType → Bool)
    → failure_at codes_in_order n ≡ or_else (failure_of (premise code (expression_span e) (lacks test (type_of c e)))) None
    → Agree (n ∷ nodes_in c e) (premises_of c e ++ premise code (expression_span e) (lacks test (type_of c e)) ∷ [])
asked_unless c e n code test told = asked c e n (premise code (expression_span e) (lacks test (type_of c e))) told (untyped (type_of c e))
  where
    untyped : (o : Option ExpressionType) → o ≡ None → lacks test o ≡ false
    untyped None h = refl
    untyped (Some t) h = cc
