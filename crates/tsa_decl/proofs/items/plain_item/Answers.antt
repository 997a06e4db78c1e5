use Rattle.tsa_decl.proofs.BegunLaws.{leads_same}
use Rattle.tsa_decl.proofs.ItemLaws.{other_same}
use Rattle.tsa_decl.proofs.items.plain_item.Goals as goal

pub returns-clause-leads : goal.returns-clause-leads
returns-clause-leads c =
    λ bodies.
    leads_same _ _ _ _ _
    (other_same _ _ bodies c.args.list.now.items c.args.at _ _ _ c.behind_storage-start.ensures.is c.in_ok-specified.ensures.gives)
    (c.globals_or_head.ensures.leads bodies)
