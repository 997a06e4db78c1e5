use Rattle.std.proofs.Common.{◌∙◌, ap, sym, map, take}
use Rattle.std.proofs.lemmas.List.{take-map}
use Rattle.tsa_types_scope.proofs.names.Names.close.Goals as goal

pub returns : goal.returns
returns g c =
    ap (map (λ e. (e.0.now, e.1))) c.truncate.ensures.entries ∙ sym (take-map (λ e. (e.0.now, e.1)) c.args.len c.self.inside.entries.entries)
    ∙ ap (take c.args.len) c.self.view_is
