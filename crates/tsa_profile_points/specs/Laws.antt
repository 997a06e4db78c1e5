-- What is called at the points of a body is what the core program calls there.
use Rattle.std.specs.Prelude.{◌≡◌, option_map}
use Rattle.tsa_tree.specs.declared.kind.Kind.{Kind}
use Rattle.tsa_core.specs.Bodies.{Known, point_of}
use Rattle.tsa_profile_points.specs.Ways.{called_at}

abbrev pub CallsAreOfTheCore : Type 0
CallsAreOfTheCore = (result : Kind) (k : Known) → option_map (λ c. c.function) (point_of result k).call ≡ called_at k
