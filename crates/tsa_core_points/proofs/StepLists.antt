-- Steps one behind the other.
use Rattle.std.proofs.Common.{◌≡◌, ◌∙◌, List, [], ◌∷◌, ◌++◌, map, ap}
use Rattle.std.proofs.lemmas.List.{map_push}
use Rattle.tsa_core_points.specs.declared.steps.Step.{Step}
use Rattle.tsa_core_points.specs.Steps.{step_shape}

pub one_more : (old new : List Step) (step : Step) → new ≡ old ++ step ∷ [] → map step_shape new ≡ map step_shape old ++ step_shape step ∷ []
one_more old new step is = ap (map step_shape) is ∙ map_push step_shape old step
