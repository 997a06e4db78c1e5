-- What is told of a body that is entered, and of the one that is asked for.
use Rattle.std.specs.Prelude.{◌≡◌, ℕ, true, Option, Some, None}
use Rattle.tsa_tree.specs.declarations.Shapes.{head_shape}
use Rattle.tsa_tree.specs.declarations.Syntax.{Head}
use Rattle.tsa_tree.specs.statements.Shapes.{stmt_shapes}
use Rattle.tsa_tree.specs.statements.Syntax.{Statements}
use Rattle.tsa_tree.specs.types.Symbols.{number_of}
use Rattle.tsa_tree.specs.units.Syntax.{UnitItem, body_item}
use Rattle.tsa_place_model.specs.LockPaths.{stable_in}
use Rattle.tsa_core_environment.specs.Functions.{outside_of}
use Rattle.tsa_profile.specs.Units.{Unit, stable_of}
use Rattle.tsa_rules_bodies.specs.Knowing.{Knowledge, behind, entered}
use Rattle.tsa_rules_bodies.specs.Sites.{Site, site_at, within}
use Rattle.tsa_rules_bodies.specs.declared.inside.Inside.{Inside}

-- behind what is known, a body is entered: what is known then, and what is told of it
pub record IsEntered (u : Unit) (k : Knowledge) (head : Head) (body : Statements) (there : Knowledge) (i : Inside) : Type 0 where
  pub known : there ≡ entered u k head true
  pub number : i.number ≡ number_of k.here head
  pub head_is : head_shape i.head.now ≡ head
  pub body_is : stmt_shapes i.body.now ≡ body
  pub stable : stable_in i.stable.items ≡ stable_of u head
  pub outside : i.outside ≡ outside_of k.here head true

-- an item that is a body is entered, and another one is passed
abbrev pub Enters : Unit → Knowledge → UnitItem → Knowledge → Option Inside → Type 0
Enters u k (body_item head body close) there None = ⊥
Enters u k (body_item head body close) there (Some i) = IsEntered u k head body there i
Enters u k item there None = there ≡ behind u k item
Enters u k item there (Some i) = ⊥

-- the body of a site is entered
pub record IsOf (u : Unit) (function : ℕ) (s : Site) (there : Knowledge) (i : Inside) : Type 0 where
  pub here : there.here ≡ within s
  pub attributes : there.attributes ≡ s.attributes
  pub number : i.number ≡ function
  pub head_is : head_shape i.head.now ≡ s.head
  pub body_is : stmt_shapes i.body.now ≡ s.body
  pub stable : stable_in i.stable.items ≡ stable_of u s.head
  pub outside : i.outside ≡ outside_of s.here s.head true

-- where there is one
abbrev pub IsAt : Unit → ℕ → Option Site → Knowledge → Option Inside → Type 0
IsAt u function None there None = Prim.Unit {0}
IsAt u function (Some s) there (Some i) = IsOf u function s there i
IsAt u function _ there _ = ⊥

-- an item is passed where the body isn't its
abbrev pub Seeks : Unit → ℕ → Knowledge → UnitItem → Knowledge → Option Inside → Type 0
Seeks u function k item there None = (site_at u k.attributes k.here item function ≡ None) × (there ≡ behind u k item)
Seeks u function k item there (Some i) = IsAt u function (site_at u k.attributes k.here item function) there (Some i)
