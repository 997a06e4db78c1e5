use Rattle.tsa_graph.proofs.EntryLists.{note_in}
use Rattle.tsa_graph.proofs.entries.Entries.note.Goals as goal

pub returns : goal.returns
returns c =
    note_in (λ list. list.items) c.self.inside.lists.items c.args.self.now c.args.to c.index_mut.result.now c.put.new.list c.args.edge c.self.view_is c.requires
    c.index_mut.ensures.value c.in_ok-put.ensures
