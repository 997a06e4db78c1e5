use Rattle.std.proofs.Common.{◌∙◌, None, slice_get, [], sym, ap}
use Rattle.tsa_place_model.specs.Calls.{evaluated}
use Rattle.tsa_place.proofs.ItemLists.{by_way}
use Rattle.tsa_place.proofs.environment.Known.address.Goals as goal

pub returns : goal.returns
returns c =
    c.evaluate.ensures ∙ ap (λ l. evaluated l (slice_get []) None c.in-Some.path) c.new-layout.ensures
    ∙ by_way (λ w. evaluated _ (slice_get []) None w) _ c.in-Some.path (sym c.in-Some.is ∙ c.in_ok-path.ensures)
