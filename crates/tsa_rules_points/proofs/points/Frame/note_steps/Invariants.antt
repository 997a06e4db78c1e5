use Rattle.std.proofs.Common.{◌≡◌, drop, map}
use Rattle.tsa_core_points.specs.Steps.{step_shape}
use Rattle.tsa_core_points.specs.Walks.{points_along, walk_behind}
use Rattle.tsa_profile_points.specs.PointAnswers.{around_of}
use Rattle.tsa_rules_points.specs.Notes.{HaveRows, notes_in}
use Rattle.tsa_rules_points.proofs.Along.{Leaves}
use Rattle.tsa_rules_points.proofs.points.Frame.note_steps.Given as goal

-- what is noted by now is noted of the points but for those of the steps that are left
abbrev pub invariant-each : goal.invariant-each
invariant-each l = record {
  notes : Leaves (around_of l.fn.self.around) l.fn.self.kind l.fn.book.marking.numbers (notes_in l.fn.book) (notes_in l.book)
      (points_along l.fn.walk (map step_shape l.steps)) (points_along l.walk (map step_shape (drop l.step-index l.steps)));
  rows : HaveRows (notes_in l.book);
  numbers : l.book.marking.numbers ≡ l.fn.book.marking.numbers;
  behind : walk_behind l.walk (map step_shape (drop l.step-index l.steps)) ≡ walk_behind l.fn.walk (map step_shape l.steps);
}
