-- What the profile asks of attributes, of initialisers, and of functions by their heads.
use Rattle.std.specs.Prelude.{ℕ, length, nat_eq, Bool, true, false, not, ◌&&◌, ◌||◌, List, [], ◌∷◌, ◌++◌, Option, Some, None, is_some}
use Rattle.std.specs.Prelude.{is_none}
use Rattle.std.specs.List.{list_any}
use Rattle.tsa_tree.specs.attributes.Syntax.{Attribute}
use Rattle.tsa_tree.specs.declarations.Syntax.{Initialiser, Initialisers, value, list, no_more, one_more, Parameter, Head}
use Rattle.tsa_tree.specs.declared.attr.AttrKind.{AttrKind}
use Rattle.tsa_tree.specs.declared.attr.AttrKind.TheVariants as attr
use Rattle.tsa_tree.specs.declared.kind.Kind.{Kind}
use Rattle.tsa_tree.specs.declared.kind.Kind.TheVariants as type
use Rattle.tsa_tree.specs.expressions.Syntax.{Expression, call, Arguments, none, more}
use Rattle.tsa_tree.specs.points.Syntax.{expression_span}
use Rattle.tsa_tree.specs.types.DeclaredTypes.{thing_type}
use Rattle.tsa_tree.specs.types.Runnable.{is_small, is_lock_function, is_environment, is_generic}
use Rattle.tsa_tree.specs.types.Scopes.{Scope, found}
use Rattle.tsa_place_model.specs.LockPaths.{lock_way}
use Rattle.tsa_place_model.specs.Ways.{Way}
use Rattle.tsa_path.specs.PathTables.{is_known}
use Rattle.tsa_profile_accesses.specs.declared.premise.ProfileCode.TheVariants.{PF1, PF2, PF4, PF6, PF7, PF9}
use Rattle.tsa_profile_accesses.specs.Premises.{Premise, premise}
use Rattle.tsa_profile_accesses.specs.declared.standing.Standing.TheVariants.{Inside}
use Rattle.tsa_profile_accesses.specs.Expressions.{View, own, parts}
use Rattle.tsa_profile_accesses.specs.Locks.{is_try}

abbrev pub way : View → Expression → Option Way
way v e = lock_way v.stable v.here e

-- A lock that an attribute names has a path. In the order of locks it need have none.
abbrev pub is_order : AttrKind → Bool
is_order attr.AcquiredBefore = true
is_order attr.AcquiredAfter = true
is_order _ = false

-- A lock that a function wants, takes, gives back or tries is named once; what it wants not to be held counts for nothing in this.
abbrev pub is_named_once : AttrKind → Bool
is_named_once attr.Requires = true
is_named_once attr.RequiresShared = true
is_named_once attr.Acquire = true
is_named_once attr.AcquireShared = true
is_named_once attr.Release = true
is_named_once attr.ReleaseShared = true
is_named_once attr.ReleaseGeneric = true
is_named_once attr.TryAcquire = true
is_named_once attr.TryAcquireShared = true
is_named_once _ = false

abbrev pub is_among : List Way → Option Way → Bool
is_among ways None = false
is_among ways (Some w) = is_known ways w

-- an argument of an attribute, which is no call, beside the paths of those that were named before
abbrev pub is_call : Expression → Bool
is_call (call name args span) = true
is_call e = false

abbrev pub argument : View → AttrKind → List Way → Expression → List Premise
argument v kind ways e =
    premise PF1 (expression_span e) (is_call e)
    ∷ premise PF2 (expression_span e) (not (is_order kind) && is_none (way v e))
    ∷ own v Inside false e
    ++ premise PF9 (expression_span e) (is_named_once kind && is_among ways (way v e)) ∷ parts v Inside e

abbrev pub with_way : Bool → List Way → Option Way → List Way
with_way true ways (Some w) = ways ++ w ∷ []
with_way _ ways w = ways

unfoldable pub ways_behind : View → AttrKind → List Way → Arguments → List Way
ways_behind v kind ways none = ways
ways_behind v kind ways (more first rest) = ways_behind v kind (with_way (is_named_once kind) ways (way v first)) rest

unfoldable pub attribute_arguments : View → AttrKind → List Way → Arguments → List Premise
attribute_arguments v kind ways none = []
attribute_arguments v kind ways (more first rest) =
    argument v kind ways first ++ attribute_arguments v kind (with_way (is_named_once kind) ways (way v first)) rest

-- the attributes of a member or of a global
unfoldable pub guard_premises : View → List Attribute → List Premise
guard_premises v [] = []
guard_premises v (a ∷ rest) = attribute_arguments v a.kind [] a.args ++ guard_premises v rest

-- An attribute fits a function's body. Only one without a body gives back a lock in whatever mode; a try has an `int` for a result, and all
-- its attributes name the same value.
abbrev pub is_int : Kind → Bool
is_int type.Int = true
is_int _ = false

abbrev pub value_of : Attribute → Bool
value_of a = by a.success
  where
    by : Option Bool → Bool
    by None = false
    by (Some b) = b

abbrev pub is_otherwise : Bool → Bool → Bool
is_otherwise true b = not b
is_otherwise false b = b

abbrev pub tries_otherwise : Attribute → Attribute → Bool
tries_otherwise a b = is_try b.kind && is_otherwise (value_of a) (value_of b)

abbrev pub misfits : Kind → List Attribute → Attribute → Bool
misfits result before a = is_generic a.kind || (is_try a.kind && (not (is_int result) || list_any (tries_otherwise a) before))

-- the attributes of a function, beside those that stand before them and the paths that these name
unfoldable pub attribute_premises : View → (has_body : Bool) → Kind → List Attribute → List Way → List Attribute → List Premise
attribute_premises v has_body result before ways [] = []
attribute_premises v has_body result before ways (a ∷ rest) =
    premise PF7 a.span (has_body && misfits result before a)
    ∷ attribute_arguments v a.kind ways a.args
    ++ attribute_premises v has_body result (before ++ a ∷ []) (ways_behind v a.kind ways a.args) rest

-- a parameter is a number or a pointer
unfoldable pub param_premises : Scope → List Parameter → List Premise
param_premises here [] = []
param_premises here (p ∷ rest) = premise PF4 p.span (not (is_small (thing_type here p.ctype))) ∷ param_premises here rest

-- a function without a body takes or gives back a lock, or is the environment's, unless its body is said to stand elsewhere
abbrev pub is_nothing : (outside : List ℕ) → Scope → Head → (has_body : Bool) → Bool
is_nothing outside here head has_body =
    not has_body
    && (not (is_some (found here.names head.name.text))
    && (not (list_any (nat_eq (length here.functions)) outside) && not (is_lock_function here head || is_environment here head)))

-- the head of a function, with what is known in its attributes
abbrev pub head_premises : (outside : List ℕ) → Scope → View → Head → (has_body : Bool) → List Premise
head_premises outside here v head has_body =
    premise PF6 head.name.span (is_nothing outside here head has_body)
    ∷ param_premises here head.params
    ++ attribute_premises v has_body (thing_type here head.result).kind [] [] head.attrs

-- an initialiser of a global, which no thread works out
unfoldable mutual
  pub init_premises : View → Initialiser → List Premise
  init_premises v (value e) = own v Inside false e ++ parts v Inside e
  init_premises v (list items span) = item_premises v items

  pub item_premises : View → Initialisers → List Premise
  item_premises v no_more = []
  item_premises v (one_more first rest) = init_premises v first ++ item_premises v rest

abbrev pub given_init : View → Option Initialiser → List Premise
given_init v None = []
given_init v (Some i) = init_premises v i
