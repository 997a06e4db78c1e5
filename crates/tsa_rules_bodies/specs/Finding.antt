-- The body that is asked for is given with what is known there.
use Rattle.std.specs.Prelude.{ℕ, Option, Some, None}
use Rattle.tsa_profile.specs.Units.{Unit}
use Rattle.tsa_rules_bodies.specs.Entering.{IsOf}
use Rattle.tsa_rules_bodies.specs.Sites.{Site}
use Rattle.tsa_rules_bodies.specs.declared.search.BodySite.{BodySite}

-- none is given where there is none
abbrev pub IsFound : Unit → ℕ → Option Site → Option BodySite → Type 0
IsFound u function None None = Prim.Unit {0}
IsFound u function (Some s) (Some found) = IsOf u function s found.known found.inside
IsFound u function _ _ = ⊥
