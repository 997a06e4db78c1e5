-- What the points of a body stand in and use, by what the walk along them has.
use Rattle.std.specs.Prelude.{List, [], ◌++◌, Option, Some, None}
use Rattle.tsa_tree.specs.declarations.Syntax.{Initialiser, value, list}
use Rattle.tsa_tree.specs.declared.expr.BinaryOp.{BinaryOp}
use Rattle.tsa_tree.specs.expressions.Syntax.{Expression}
use Rattle.tsa_tree.specs.points.Syntax.{Deed, declares, evaluates, assigns, tests, switches, jumps, idles, returns, ends}
use Rattle.tsa_tree.specs.types.Scopes.{Scope}
use Rattle.tsa_place_model.specs.LockPaths.{stable_in}
use Rattle.tsa_profile_accesses.specs.Accesses.{Access}
use Rattle.tsa_profile_declarations.specs.Accesses.{reads, written}
use Rattle.tsa_profile_points.specs.Bodies.{Around}
use Rattle.tsa_profile_points.specs.declared.points.Around.{Around as Given}

-- what is around a body, by what the walk along its points has
abbrev pub around_of : Given → Around
around_of a = record { layout = a.layout.now; attributes = a.attributes.now; tries = a.tries; stable = stable_in a.stable.now }

-- The accesses of a point, each with where it stands: those of an assignment's left side come before those of its right side.
abbrev pub value_accesses : Around → Scope → Expression → List Access
value_accesses a here e = reads a.layout a.stable here e

abbrev pub left_accesses : Around → Scope → Option BinaryOp → Expression → List Access
left_accesses a here o e = written a.layout a.stable here o e

abbrev pub given_accesses : Around → Scope → Option Expression → List Access
given_accesses a here None = []
given_accesses a here (Some e) = value_accesses a here e

abbrev pub init_accesses : Around → Scope → Option Initialiser → List Access
init_accesses a here None = []
init_accesses a here (Some (value e)) = value_accesses a here e
init_accesses a here (Some (list items span)) = []

abbrev pub deed_accesses : Around → Scope → Deed → List Access
deed_accesses a here (declares d) = init_accesses a here d.init
deed_accesses a here (evaluates e) = value_accesses a here e
deed_accesses a here (assigns left o right) = left_accesses a here o left ++ value_accesses a here right
deed_accesses a here (tests e) = given_accesses a here e
deed_accesses a here (switches e) = value_accesses a here e
deed_accesses a here jumps = []
deed_accesses a here idles = []
deed_accesses a here (returns e) = given_accesses a here e
deed_accesses a here ends = []
