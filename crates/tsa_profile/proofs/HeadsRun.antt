-- What the profile asks of attributes and of functions by their heads is what the machine wants of them.
use Rattle.std.proofs.Common.{◌≡◌, ◌∙◌, ℕ, nat_eq, Bool, true, false, not, ◌&&◌, ◌||◌, List, [], ◌∷◌, ◌++◌, length, None, is_some, is_none}
use Rattle.std.proofs.Common.{refl}
use Rattle.std.specs.List.{list_any}
use Rattle.tsa_tree.specs.attributes.Syntax.{Attribute}
use Rattle.tsa_tree.specs.declarations.Syntax.{Parameter, Head}
use Rattle.tsa_tree.specs.declared.attr.AttrKind.{AttrKind}
use Rattle.tsa_tree.specs.declared.attr.AttrKind.TheVariants as attr
use Rattle.tsa_tree.specs.declared.kind.Kind.{Kind}
use Rattle.tsa_tree.specs.expressions.Syntax.{Expression, Arguments, none, more}
use Rattle.tsa_tree.specs.points.Syntax.{expression_span}
use Rattle.tsa_tree.specs.types.DeclaredTypes.{thing_type}
use Rattle.tsa_tree.specs.types.Heads.{with_param}
use Rattle.tsa_tree.specs.types.Runnable.{has_call, have_call, is_free, are_free, is_small, is_lock_function, is_environment, has_body}
use Rattle.tsa_tree.specs.types.Runnable.{no_generic, params_run, kind_runs, first_runs, head_runs, is_generic}
use Rattle.tsa_tree.specs.types.Runnable as run
use Rattle.tsa_tree.specs.types.Scopes.{Scope, found}
use Rattle.tsa_tree.specs.units.Syntax.{UnitItem}
use Rattle.tsa_core.proofs.BodyScopes.{SameTypes, through, with_param_types, small_kept}
use Rattle.tsa_core.proofs.KindTests.{neither, not_false, and_true}
use Rattle.tsa_place_model.specs.Ways.{Way}
use Rattle.tsa_profile_accesses.specs.declared.premise.ProfileCode.TheVariants.{PF1, PF2, PF4, PF6, PF7, PF9}
use Rattle.tsa_profile_accesses.specs.Premises.{premise, first}
use Rattle.tsa_profile_accesses.specs.declared.standing.Standing.TheVariants.{Inside}
use Rattle.tsa_profile_accesses.specs.Expressions.{View, own, parts}
use Rattle.tsa_profile_items.specs.Declarations.{way, is_order, is_named_once, is_among, is_call, argument, with_way, ways_behind}
use Rattle.tsa_profile_items.specs.Declarations.{attribute_arguments, guard_premises, misfits, attribute_premises, param_premises}
use Rattle.tsa_profile_items.specs.Declarations.{is_nothing, head_premises}
use Rattle.tsa_profile_guards.proofs.NoneFails.{none_of_both, none_of_first}
use Rattle.tsa_profile.proofs.CallsStand.{neither_has, keeps_free}
use Rattle.tsa_base.proofs.Truths.{never}

-- arguments of attributes have no calls
argument_free : (v : View) (kind : AttrKind) (ways : List Way) (e : Expression) → first (argument v kind ways e) ≡ None → is_free e ≡ true
argument_free v kind ways e h =
    let again = premise PF9 (expression_span e) (is_named_once kind && is_among ways (way v e)) in
    let behind = own v Inside false e ++ again ∷ parts v Inside e in
    let x = none_of_first PF1 (expression_span e) (is_call e) (premise PF2 (expression_span e) (not (is_order kind) && is_none (way v e)) ∷ behind) h in
    let y = none_of_first PF2 (expression_span e) (not (is_order kind) && is_none (way v e)) behind x.1 in
    let z = none_of_both (own v Inside false e) (again ∷ parts v Inside e) y.1 in
    keeps_free v false e (z.0, (none_of_first PF9 (expression_span e) (is_named_once kind && is_among ways (way v e)) (parts v Inside e) z.1).1)

arguments_stand : (v : View) (kind : AttrKind) (ways : List Way) (args : Arguments) → first (attribute_arguments v kind ways args) ≡ None → not (have_call args) ≡ true
unfolding attribute_arguments
arguments_stand v kind ways none h = refl
arguments_stand v kind ways (more e rest) h =
    let ways_there = with_way (is_named_once kind) ways (way v e) in
    let x = none_of_both (argument v kind ways e) (attribute_arguments v kind ways_there rest) h in
    neither_has (has_call e) (have_call rest) (argument_free v kind ways e x.0) (arguments_stand v kind ways_there rest x.1)

-- the attributes of a member or of a global
pub guards_stand : (v : View) (attrs : List Attribute) → first (guard_premises v attrs) ≡ None → are_free attrs ≡ true
unfolding guard_premises
guards_stand v [] h = refl
guards_stand v (a ∷ rest) h =
    let x = none_of_both (attribute_arguments v a.kind [] a.args) (guard_premises v rest) h in
    and_true (not (have_call a.args)) (are_free rest) (arguments_stand v a.kind [] a.args x.0) (guards_stand v rest x.1)

-- the attributes of a function
attributes_free : (v : View) (bodied : Bool) (result : Kind) (before : List Attribute) (ways : List Way) (attrs : List Attribute)
    → first (attribute_premises v bodied result before ways attrs) ≡ None → are_free attrs ≡ true
unfolding attribute_premises
attributes_free v bodied result before ways [] h = refl
attributes_free v bodied result before ways (a ∷ rest) h =
    let rest_premises = attribute_premises v bodied result (before ++ a ∷ []) (ways_behind v a.kind ways a.args) rest in
    let x = none_of_first PF7 a.span (bodied && misfits result before a) (attribute_arguments v a.kind ways a.args ++ rest_premises) h in
    let y = none_of_both (attribute_arguments v a.kind ways a.args) rest_premises x.1 in
    and_true (not (have_call a.args)) (are_free rest) (arguments_stand v a.kind ways a.args y.0)
    (attributes_free v bodied result (before ++ a ∷ []) (ways_behind v a.kind ways a.args) rest y.1)

same_generic : (kind : AttrKind) → is_generic kind ≡ false → not (run.is_generic kind) ≡ true
same_generic attr.ReleaseGeneric e = never e
same_generic attr.Capability e = refl
same_generic attr.GuardedBy e = refl
same_generic attr.Requires e = refl
same_generic attr.RequiresShared e = refl
same_generic attr.Acquire e = refl
same_generic attr.AcquireShared e = refl
same_generic attr.Release e = refl
same_generic attr.ReleaseShared e = refl
same_generic attr.TryAcquire e = refl
same_generic attr.TryAcquireShared e = refl
same_generic attr.Excludes e = refl
same_generic attr.AcquiredBefore e = refl
same_generic attr.AcquiredAfter e = refl

generic_apart : (v : View) (result : Kind) (before : List Attribute) (ways : List Way) (attrs : List Attribute)
    → first (attribute_premises v true result before ways attrs) ≡ None → no_generic attrs ≡ true
unfolding attribute_premises
generic_apart v result before ways [] h = refl
generic_apart v result before ways (a ∷ rest) h =
    let rest_premises = attribute_premises v true result (before ++ a ∷ []) (ways_behind v a.kind ways a.args) rest in
    let x = none_of_first PF7 a.span (misfits result before a) (attribute_arguments v a.kind ways a.args ++ rest_premises) h in
    let y = none_of_both (attribute_arguments v a.kind ways a.args) rest_premises x.1 in
    and_true (not (run.is_generic a.kind)) (no_generic rest) (same_generic a.kind (neither (is_generic a.kind) _ x.0).0)
    (generic_apart v result (before ++ a ∷ []) (ways_behind v a.kind ways a.args) rest y.1)

-- Parameters have the same types where those before them are known.
params_stand : (base here : Scope) (n : ℕ) (params : List Parameter) → SameTypes base here → first (param_premises base params) ≡ None → params_run here n params ≡ true
unfolding param_premises
params_stand base here n [] same h = refl
params_stand base here n (p ∷ rest) same h =
    let x = none_of_first PF4 p.span (not (is_small (thing_type base p.ctype))) (param_premises base rest) h in
    and_true (is_small (thing_type here p.ctype)) (params_run (with_param n p here) n rest)
    (small_kept base here same p.ctype ∙ not_false (is_small (thing_type base p.ctype)) x.0)
    (params_stand base (with_param n p here) n rest (through base here (with_param n p here) same (with_param_types here n p)) x.1)

-- a function at its first declaration, by whether it has a body
module _ (here : Scope) (v : View) (head : Head) (result : Kind) where
  abbrev IsAsked : Bool → Bool → Type 0
  IsAsked known bodied =
      (not bodied && (not known && (not (list_any (nat_eq (length here.functions)) []) && not (is_lock_function here head || is_environment here head)))) ≡ false

  kind_stands : (bodied : Bool) → IsAsked false bodied → first (attribute_premises v bodied result [] [] head.attrs) ≡ None → kind_runs here head bodied ≡ true
  kind_stands true asked h = generic_apart v result [] [] head.attrs h
  kind_stands false asked h = not_false (is_lock_function here head || is_environment here head) asked

  first_stands : (items : List UnitItem) (known : Bool) → IsAsked known (has_body head.name.text items)
      → first (attribute_premises v (has_body head.name.text items) result [] [] head.attrs) ≡ None → first_runs items here head known ≡ true
  first_stands items true asked h = refl
  first_stands items false asked h = kind_stands (has_body head.name.text items) asked h

pub head_stands : (items : List UnitItem) (here : Scope) (v : View) (head : Head) → first (head_premises [] here v head (has_body head.name.text items)) ≡ None → head_runs items here head ≡ true
head_stands items here v head h =
    let bodied = has_body head.name.text items in
    let known = is_some (found here.names head.name.text) in
    let result = (thing_type here head.result).kind in
    let attributes = attribute_premises v bodied result [] [] head.attrs in
    let x = none_of_first PF6 head.name.span (is_nothing [] here head bodied) (param_premises here head.params ++ attributes) h in
    let y = none_of_both (param_premises here head.params) attributes x.1 in
    let same : SameTypes here here = record { tags = refl; aliases = λ span name. refl } in
    and_true (first_runs items here head known) (params_run here 0 head.params && are_free head.attrs) (first_stands here v head result items known x.0 y.1)
    (and_true (params_run here 0 head.params) (are_free head.attrs) (params_stand here here 0 head.params same y.0)
    (attributes_free v bodied result [] [] head.attrs y.1))
