use Rattle.std.proofs.Common.{◌∙◌, option_to_list, sym, ap}
use Rattle.tsa_types_row.specs.Rows.{hole}
use Rattle.tsa_core_program.specs.Walks.{walk_node}
use Rattle.tsa_core_program.proofs.Walking.{one_on, none_there}
use Rattle.tsa_core_program.proofs.walk.Walk.step.Goals as goal

pub returns-in_ok-note-in-Some : goal.returns-in_ok-note-in-Some
returns-in_ok-note-in-Some c =
    one_on c.args.row.now c.args.at c.in-Some.node c.args.self.now c.note.new.self (sym c.get.ensures ∙ c.in-Some.is)
    (c.in_ok-note-in-Some.ensures ∙ ap (λ next. walk_node c.args.at c.in-Some.node (option_to_list next) c.args.self.now) c.get-in-Some.ensures)

pub returns-in-None : goal.returns-in-None
returns-in-None c = none_there c.args.row.now c.args.at hole c.requires.inside (sym c.get.ensures ∙ c.in-None.is)
