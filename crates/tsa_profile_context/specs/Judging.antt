-- What is known in front of an item and behind it, and what is found of the items so far.
use Rattle.std.specs.Prelude.{ℕ, nat_lt, Bool, ◌&&◌, List, [], ◌∷◌, ◌++◌, length, filter, map, slice_set, Option, None, is_none}
use Rattle.tsa_base.specs.declared.token.Span.{Span}
use Rattle.tsa_tree.specs.declarations.Syntax.{Head}
use Rattle.tsa_tree.specs.declared.kind.Kind.{Kind}
use Rattle.tsa_tree.specs.types.Heads.{inside}
use Rattle.tsa_tree.specs.types.Scopes.{Scope}
use Rattle.tsa_tree.specs.types.Units.{outset, behind_item}
use Rattle.tsa_tree.specs.units.Shapes.{item_shapes}
use Rattle.tsa_tree.specs.units.Syntax.{UnitItem}
use Rattle.tsa_place_model.specs.LockPaths.{stable_in}
use Rattle.tsa_core.specs.Programs.{Attr, first_head}
use Rattle.tsa_core_environment.specs.Points.{PlacedPoint}
use Rattle.tsa_profile_accesses.specs.Premises.{Premise, first, or_else, premise}
use Rattle.tsa_profile_accesses.specs.declared.premise.ProfileCode.TheVariants.{LM4, LM7, PF6}
use Rattle.tsa_profile_accesses.specs.declared.premise.Failure.{Failure}
use Rattle.tsa_profile_accesses.specs.Expressions.{View, attributes_at}
use Rattle.tsa_profile_accesses.specs.Locks.{tries}
use Rattle.tsa_profile_points.specs.Declarations.{attribute_premises, is_nothing, param_premises}
use Rattle.tsa_profile_points.specs.Bodies.{Around, is_try_variable}
use Rattle.tsa_profile_points.specs.Ways.{function_paths}
use Rattle.tsa_profile_context.specs.Tables.{Tables, tables_behind}
use Rattle.tsa_profile_context.specs.Units.{Unit, attributes_behind, attributes_by, is_bodied, tries_limit, paths_limit, unit_of}
use Rattle.tsa_profile_context.specs.declared.context.Ground.{Ground}

-- names, the attributes of functions and the paths of bodies by the numbers of functions, and the first functions that pass a limit
pub record Knowledge : Type 0 where
  pub here : Scope
  pub attributes : List (List Attr)
  pub tables : Tables
  pub tries : Option Failure
  pub paths : Option Failure

abbrev pub outset_of : Unit → Knowledge
outset_of u = record { here = outset u.items; attributes = []; tables = []; tries = None; paths = None }

abbrev pub behind : Unit → Knowledge → UnitItem → Knowledge
behind u k item = record {
  here = behind_item k.here item;
  attributes = attributes_behind u k.attributes k.here item;
  tables = tables_behind u (attributes_behind u k.attributes k.here item) k.tables k.here item;
  tries = or_else k.tries (first (tries_limit u (attributes_behind u k.attributes k.here item) k.here item));
  paths = or_else k.paths (first (paths_limit u (attributes_behind u k.attributes k.here item) k.here item));
}

unfoldable pub behind_all : Unit → Knowledge → List UnitItem → Knowledge
behind_all u k [] = k
behind_all u k (item ∷ rest) = behind_all u (behind u k item) rest

-- the unit that is judged
abbrev pub unit_at : Ground → Unit
unit_at g = unit_of g.outside.now (item_shapes g.items.now)

-- a function whose head is entered, by its number and by which of its locals never change
abbrev pub around_at : Ground → Knowledge → ℕ → List Bool → Around
around_at g k number stable = record {
  layout = (unit_at g).program.layout;
  attributes = k.attributes;
  tries = tries (attributes_at k.attributes number);
  stable = stable_in stable;
}

-- what is found of a body with some points: its paths, and whether its function passes a limit
abbrev pub with_body : Knowledge → ℕ → Span → Around → Scope → List PlacedPoint → Knowledge
with_body k number name a there points = record {
  here = there;
  attributes = k.attributes;
  tables = slice_set k.tables number (function_paths a (attributes_at k.attributes number) points);
  tries = or_else k.tries (first (premise LM7 name (nat_lt 48 (length (filter (is_try_variable a) points))) ∷ []));
  paths = or_else k.paths (first (premise LM4 name (is_none (function_paths a (attributes_at k.attributes number) points)) ∷ []));
}

-- one without a body, which is its function's first declaration or isn't
abbrev pub without_body : Knowledge → ℕ → Span → Around → Bool → Knowledge
without_body k number name a is_alone = record {
  here = k.here;
  attributes = k.attributes;
  tables = k.tables;
  tries = k.tries;
  paths = or_else k.paths (first (premise LM4 name (is_alone && is_none (function_paths a (attributes_at k.attributes number) [])) ∷ []));
}

abbrev pub with_scope : Scope → Knowledge → Knowledge
with_scope here k = record { here = here; attributes = k.attributes; tables = k.tables; tries = k.tries; paths = k.paths }

-- a function that is declared for the first time has attributes and no paths yet
abbrev pub with_function : List Attr → Knowledge → Knowledge
with_function attributes k =
    record { here = k.here; attributes = k.attributes ++ attributes ∷ []; tables = k.tables ++ None ∷ []; tries = k.tries; paths = k.paths }

-- its head before its attributes, and those, by what they see and the kind of what the function gives
abbrev pub outer_premises : Unit → Scope → Head → List Premise
outer_premises u here head = premise PF6 head.name.span (is_nothing u.outside here head (is_bodied u head)) ∷ param_premises here head.params

abbrev pub inner_premises : Unit → View → Kind → Head → List Premise
inner_premises u v gives head = attribute_premises v (is_bodied u head) gives [] [] head.attrs

-- behind its head, before its body
abbrev pub declared_attributes : Unit → Knowledge → Head → Bool → List (List Attr)
declared_attributes u k head with_body = k.attributes ++ map (attributes_by u) (first_head k.here head with_body)

abbrev pub entered : Unit → Knowledge → Head → Bool → Knowledge
entered u k head with_body = record {
  here = inside k.here head with_body;
  attributes = declared_attributes u k head with_body;
  tables = k.tables ++ map (λ d. None) (first_head k.here head with_body);
  tries = k.tries;
  paths = k.paths;
}
