-- Where no premise of the profile fails, a local begins with what a try gives just where its initialiser is written as the try's call.
use Rattle.std.proofs.Common.{◌≡◌, ◌∙◌, ℕ, suc, arith, Bool, true, false, not, List, [], ◌∷◌, ◌++◌, length, map, filter, if◌then◌else◌, refl}
use Rattle.std.proofs.Common.{Option, Some, None, is_some, option_and_then, option_map, ap, ap₂, subst}
use Rattle.std.specs.List.{filter_map, cons_option}
use Rattle.tsa_base.specs.declared.token.Span.{Span}
use Rattle.tsa_tree.specs.declarations.Syntax.{Declaration, Initialiser, value, list}
use Rattle.tsa_tree.specs.declared.expr.BinaryOp.TheVariants as op
use Rattle.tsa_tree.specs.declared.expr.UnaryOp.TheVariants as prefix
use Rattle.tsa_tree.specs.declared.kind.Kind.{Kind}
use Rattle.tsa_tree.specs.declared.meaning.Meaning.{Meaning}
use Rattle.tsa_tree.specs.declared.meaning.Meaning.TheVariants as known
use Rattle.tsa_tree.specs.declared.meaning.Entry.{Entry}
use Rattle.tsa_tree.specs.expressions.Syntax.{Expression, Arguments, number, null, named, call, unary, binary, field, index}
use Rattle.tsa_tree.specs.points.Syntax.{Deed, declares, evaluates, assigns, tests, switches, jumps, idles, returns, ends}
use Rattle.tsa_tree.specs.types.DeclaredTypes.{thing_type}
use Rattle.tsa_tree.specs.types.Expressions.{function_of}
use Rattle.tsa_tree.specs.types.Runnable.{is_small}
use Rattle.tsa_tree.specs.types.Scopes.{Scope, known_in}
use Rattle.tsa_core.specs.Bodies.{knows}
use Rattle.tsa_core.specs.Meanings.{call_by, call_in, call_of, or_call}
use Rattle.tsa_core.specs.Programs.{Attr, Program}
use Rattle.tsa_core_points.specs.CoreLaws.{known_of}
use Rattle.tsa_core_points.specs.Points.{PlacedPoint}
use Rattle.tsa_profile_accesses.specs.Expressions.{View, attributes_at, callee, constant, expression, is_try_call, of_callee, own, parts}
use Rattle.tsa_profile_accesses.specs.Locks.{tries}
use Rattle.tsa_profile_accesses.specs.Premises.{Premise, first, premise}
use Rattle.tsa_profile_accesses.specs.declared.premise.ProfileCode.{ProfileCode}
use Rattle.tsa_profile_accesses.specs.declared.premise.ProfileCode.TheVariants.{PF1, PF4}
use Rattle.tsa_profile_accesses.specs.declared.standing.Standing.{Standing}
use Rattle.tsa_profile_accesses.specs.declared.standing.Standing.TheVariants.{Begins, Whole, Inside}
use Rattle.tsa_profile_accesses.specs.Standing.{beside, under_not}
use Rattle.tsa_profile_points.specs.Bodies.{Around, begins_a_try as may_begin, deed_premises, is_begun_by_a_try, is_try_variable, local_init, point_premises, points_premises, standing_of, view_at}
use Rattle.tsa_profile_points.specs.Ways.{function_called}
use Rattle.tsa_profile_guards.proofs.NoneFails.{none_of_both}
use Rattle.tsa_rules.specs.Points.{try_variable_at}
use Rattle.tsa_rules_points.specs.Points.{AllAgree, begins_a_try, called_attributes, core_at}
use Rattle.tsa_rules_points.proofs.NotedPoints.{is_variable}

fails_first : {A : Type 0} (code : ProfileCode) (span : Span) (rest : List Premise) → first (premise code span true ∷ rest) ≡ None → A
unfolding first
fails_first code span rest h = absurd cc

-- in what stands inside of an expression nothing is called
nothing_called : (v : View) (e : Expression) → first (expression v Inside e) ≡ None → call_in v.here e ≡ None
unfolding parts call_in
nothing_called v (number n u span) h = refl
nothing_called v (null span) h = refl
nothing_called v (named name span) h = refl
nothing_called v (call name args span) h = fails_first PF1 span _ (none_of_both (own v Inside true (call name args span)) (parts v Inside (call name args span)) h).0
nothing_called v (unary prefix.Not inner span) h = nothing_called v inner h
nothing_called v (unary prefix.Address inner span) h = refl
nothing_called v (unary prefix.Minus inner span) h = refl
nothing_called v (unary prefix.Flip inner span) h = refl
nothing_called v (unary prefix.Follow inner span) h = refl
nothing_called v (binary op.Equal left right span) h =
    let x = none_of_both (own v Inside true (binary op.Equal left right span)) (expression v Inside left ++ expression v Inside right) h in
    let y = none_of_both (expression v Inside left) (expression v Inside right) x.1 in ap₂ or_call (nothing_called v left y.0) (nothing_called v right y.1)
nothing_called v (binary op.Unequal left right span) h =
    let x = none_of_both (own v Inside true (binary op.Unequal left right span)) (expression v Inside left ++ expression v Inside right) h in
    let y = none_of_both (expression v Inside left) (expression v Inside right) x.1 in ap₂ or_call (nothing_called v left y.0) (nothing_called v right y.1)
nothing_called v (binary op.Or left right span) h = refl
nothing_called v (binary op.And left right span) h = refl
nothing_called v (binary op.BitOr left right span) h = refl
nothing_called v (binary op.BitXor left right span) h = refl
nothing_called v (binary op.BitAnd left right span) h = refl
nothing_called v (binary op.Less left right span) h = refl
nothing_called v (binary op.More left right span) h = refl
nothing_called v (binary op.LessEqual left right span) h = refl
nothing_called v (binary op.MoreEqual left right span) h = refl
nothing_called v (binary op.Plus left right span) h = refl
nothing_called v (binary op.Minus left right span) h = refl
nothing_called v (binary op.Times left right span) h = refl
nothing_called v (binary op.Divide left right span) h = refl
nothing_called v (binary op.Remainder left right span) h = refl
nothing_called v (field base name arrow span) h = refl
nothing_called v (index base at span) h = refl

-- what a name calls
meant : (here : Scope) (args : Arguments) (m : Meaning) → option_map (λ c. c.function) (call_by here args m) ≡ function_of m
meant here args (known.Global n) = refl
meant here args (known.Local n) = refl
meant here args (known.Function n) = refl
meant here args known.Owned = refl
meant here args (known.Constant z) = refl
meant here args known.TypeName = refl

named_call : (here : Scope) (args : Arguments) (entry : Option Entry) → option_map (λ c. c.function) (call_of here args entry) ≡ option_and_then (λ e. function_of e.meaning) entry
named_call here args None = refl
named_call here args (Some e) = meant here args e.meaning

-- The operands of what begins a local stand inside of it.
module _ (v : View) (s : Standing) (under : under_not s ≡ Inside) (both : (k : Bool) → beside s k ≡ Inside) where
  inside_of : (t : Standing) (e : Expression) → t ≡ Inside → first (expression v t e) ≡ None → call_in v.here e ≡ None
  inside_of t e is h = nothing_called v e (subst (λ x. first (expression v x e) ≡ None) is h)

  sides : (left right : Expression) (k l : Bool) → first (expression v (beside s k) left ++ expression v (beside s l) right) ≡ None
      → option_map (λ c. c.function) (or_call (call_in v.here left) (call_in v.here right)) ≡ None
  sides left right k l h =
      let x = none_of_both (expression v (beside s k) left) (expression v (beside s l) right) h in
      ap (option_map (λ c. c.function)) (ap₂ or_call (inside_of (beside s k) left (both k) x.0) (inside_of (beside s l) right (both l) x.1))

  callee_is : (e : Expression) → first (expression v s e) ≡ None → function_called v.here e ≡ callee v e
  unfolding parts call_in
  callee_is (number n u span) h = refl
  callee_is (null span) h = refl
  callee_is (named name span) h = refl
  callee_is (call name args span) h = named_call v.here args (known_in v.here name.text)
  callee_is (unary prefix.Not inner span) h =
      ap (option_map (λ c. c.function)) (inside_of (under_not s) inner under (none_of_both (own v s true (unary prefix.Not inner span)) (expression v (under_not s) inner) h).1)
  callee_is (unary prefix.Address inner span) h = refl
  callee_is (unary prefix.Minus inner span) h = refl
  callee_is (unary prefix.Flip inner span) h = refl
  callee_is (unary prefix.Follow inner span) h = refl
  callee_is (binary op.Equal left right span) h =
      let k = is_some (constant v right) in
      let l = is_some (constant v left) in
      sides left right k l (none_of_both (own v s true (binary op.Equal left right span)) (expression v (beside s k) left ++ expression v (beside s l) right) h).1
  callee_is (binary op.Unequal left right span) h =
      let k = is_some (constant v right) in
      let l = is_some (constant v left) in
      sides left right k l (none_of_both (own v s true (binary op.Unequal left right span)) (expression v (beside s k) left ++ expression v (beside s l) right) h).1
  callee_is (binary op.Or left right span) h = refl
  callee_is (binary op.And left right span) h = refl
  callee_is (binary op.BitOr left right span) h = refl
  callee_is (binary op.BitXor left right span) h = refl
  callee_is (binary op.BitAnd left right span) h = refl
  callee_is (binary op.Less left right span) h = refl
  callee_is (binary op.More left right span) h = refl
  callee_is (binary op.LessEqual left right span) h = refl
  callee_is (binary op.MoreEqual left right span) h = refl
  callee_is (binary op.Plus left right span) h = refl
  callee_is (binary op.Minus left right span) h = refl
  callee_is (binary op.Times left right span) h = refl
  callee_is (binary op.Divide left right span) h = refl
  callee_is (binary op.Remainder left right span) h = refl
  callee_is (field base name arrow span) h = refl
  callee_is (index base at span) h = refl

tries_of : (attributes : List (List Attr)) (function : Option ℕ) → tries (called_attributes attributes function) ≡ of_callee (λ n. tries (attributes_at attributes n)) function
tries_of attributes None = refl
tries_of attributes (Some n) = refl

begun : (a : Around) (here : Scope) (b : Bool) (e : Expression) → first (expression (view_at a here) (standing_of b) e) ≡ None
    → tries (called_attributes a.attributes (function_called here e)) ≡ is_try_call (view_at a here) e
begun a here b e h = tries_of a.attributes (function_called here e) ∙ ap (of_callee (λ n. tries (attributes_at a.attributes n))) (is b h)
  where
    is : (b : Bool) → first (expression (view_at a here) (standing_of b) e) ≡ None → function_called here e ≡ callee (view_at a here) e
    is true h = callee_is (view_at a here) Begins refl (λ k. refl) e h
    is false h = callee_is (view_at a here) Whole refl (λ k. refl) e h

-- at a point at which no premise fails
pub begins_as_written : (a : Around) (q : PlacedPoint) → first (point_premises a q) ≡ None → begins_a_try a (known_of q) ≡ is_try_variable a q
begins_as_written a q h = by q.deed h
  where
    here : Scope
    here = q.here

    initialised : (d : Declaration) (i : Option Initialiser) → d.init ≡ i → first (local_init a here (thing_type here d.ctype) i) ≡ None
        → begins_a_try a (knows here (declares d)) ≡ is_begun_by_a_try a here (declares d)
    initialised d None is h = rw is refl
    initialised d (Some (value e)) is h = rw is (begun a here (may_begin a here (thing_type here d.ctype)) e h)
    initialised d (Some (list items span)) is h = rw is refl

    by : (deed : Deed) → first (deed_premises a here q.span deed) ≡ None → begins_a_try a (knows here deed) ≡ is_begun_by_a_try a here deed
    by (declares d) h =
        initialised d d.init refl (none_of_both (premise PF4 d.span (not (is_small (thing_type here d.ctype))) ∷ []) (local_init a here (thing_type here d.ctype) d.init) h).1
    by (evaluates e) h = refl
    by (assigns left o right) h = refl
    by (tests e) h = refl
    by (switches e) h = refl
    by jumps h = refl
    by idles h = refl
    by (returns e) h = refl
    by ends h = refl

-- At points at which no premise fails as many try variables begin as are written there.
module _ (u : Program) (a : Around) (kind : Kind) where
  one_more : {A : Type 0} (o : Option ℕ) (b : Bool) (x : A) (ns : List ℕ) (xs : List A) → is_some o ≡ b → length ns ≡ length xs
      → length (cons_option o ns) ≡ length (if b then x ∷ xs else xs)
  one_more None true x ns xs is same = absurd cc
  one_more None false x ns xs is same = same
  one_more (Some n) true x ns xs is same = ap suc same
  one_more (Some n) false x ns xs is same = absurd cc

  pub as_many : (xs : List PlacedPoint) → AllAgree u a kind xs → first (points_premises a xs) ≡ None
      → length (filter_map (try_variable_at u) (map (core_at kind) xs)) ≡ length (filter (is_try_variable a) xs)
  unfolding points_premises
  as_many [] all fits = refl
  as_many (q ∷ xs) all fits =
      let x = none_of_both (point_premises a q) (points_premises a xs) fits in
      one_more (try_variable_at u (core_at kind q)) (is_try_variable a q) q (filter_map (try_variable_at u) (map (core_at kind) xs)) (filter (is_try_variable a) xs)
      (is_variable u a kind q (all 0 q (omega arith)) ∙ begins_as_written a q x.0) (as_many xs (λ k d less. all (suc k) d (omega (arith, less))) x.1)
