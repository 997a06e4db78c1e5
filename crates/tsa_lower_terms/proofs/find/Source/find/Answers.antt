use Rattle.std.proofs.Common.{◌≡◌, ◌∙◌, ◌+◌, ◌-◌, ◌≤◌, ◌<◌, length, Some, None, slice_get, refl, sym, ap, arith}
use Rattle.tsa_core_rows.specs.Reading.{behind_parts}
use Rattle.tsa_lower_terms.specs.Heads.{op_head, passed, taken}
use Rattle.tsa_lower_terms.specs.Sources.{parts_at}
use Rattle.tsa_lower_terms.proofs.NodeParts.{if_none, left_behind_none, left_behind_part, none_at_end, none_so_far, spot_stands}
use Rattle.tsa_lower_terms.proofs.find.Source.find.Goals as goal
use Rattle.tsa_lower_terms.proofs.find.Source.find.Goals.{in-Some+in-Some-checked_sub+in_ok-left-in-Some, in-None+in_ok-left-in-None}

pub returns-in_default-clause-stands : goal.returns-in_default-clause-stands
returns-in_default-clause-stands c =
    let e : slice_get c.args.self.now.row c.nodes.number ≡ Some c.in_ok-node.node = sym c.node.ensures ∙ c.in_ok-node.was in
    let inside : c.nodes.number < length c.args.self.now.row = omega arith in
    spot_stands c.args.self.now c.nodes.number (c.nodes.number + 1) c.in_ok-node.node c.in-Some.head c.type_of.result inside e (sym c.head_of.ensures ∙ c.in-Some.is) c.type_of.ensures refl

pub returns-in_err-left-in-Some-clause-none : goal.returns-in_err-left-in-Some-clause-none
returns-in_err-left-in-Some-clause-none c =
    let e : slice_get c.args.self.now.row c.nodes.number ≡ Some c.in_ok-node.node = sym c.node.ensures ∙ c.in_ok-node.was in
    let is : op_head c.in_ok-node.node.op c.in_ok-node.node.worth ≡ Some c.in-Some.head = sym c.head_of.ensures ∙ c.in-Some.is in
    let some : 1 ≤ c.nodes.left = omega arith in
    let far : length c.args.self.now.row ≤ (c.nodes.left - 1) + taken c.in-Some.head = omega arith in
    if_none c.from_residual-in_err-left-in-Some.result _
    (none_so_far c.args.self.now (c.nodes.number + 1) ((c.nodes.left - 1) + taken c.in-Some.head) _ far
    (sym (left_behind_part c.args.self.now c.nodes.number c.nodes.left c.in_ok-node.node c.in-Some.head e is some) ∙ c.nodes.invariant.there))

pub returns-in_err-left-in-None-clause-none : goal.returns-in_err-left-in-None-clause-none
returns-in_err-left-in-None-clause-none c =
    let e : slice_get c.args.self.now.row c.nodes.number ≡ Some c.in_ok-node.node = sym c.node.ensures ∙ c.in_ok-node.was in
    let is : op_head c.in_ok-node.node.op c.in_ok-node.node.worth ≡ None = sym c.head_of.ensures ∙ c.in-None.is in
    let far : length c.args.self.now.row ≤ c.nodes.left + passed c.in_ok-node.node.op = omega arith in
    if_none c.from_residual-in_err-left-in-None.result _
    (none_so_far c.args.self.now (c.nodes.number + 1) (c.nodes.left + passed c.in_ok-node.node.op) _ far
    (sym (left_behind_none c.args.self.now c.nodes.number c.nodes.left c.in_ok-node.node e is) ∙ c.nodes.invariant.there))

pub nodes-preserved : goal.nodes-preserved
nodes-preserved c =
    let e : slice_get c.args.self.now.row c.nodes.number ≡ Some c.in_ok-node.node = sym c.node.ensures ∙ c.in_ok-node.was in
    elim c.match-head_of.branch [
      | in-Some+in-Some-checked_sub+in_ok-left-in-Some w ↦
          let is : op_head c.in_ok-node.node.op c.in_ok-node.node.worth ≡ Some w.in-Some.head = sym c.head_of.ensures ∙ w.in-Some.is in
          let some : 1 ≤ c.nodes.left = omega arith in
          let sum : c.match-head_of.left ≡ (c.nodes.left - 1) + taken w.in-Some.head = omega arith in
          record {
            there = ap (λ m. behind_parts m (parts_at c.args.self.now (c.nodes.number + 1))) sum
                ∙ sym (left_behind_part c.args.self.now c.nodes.number c.nodes.left c.in_ok-node.node w.in-Some.head e is some) ∙ c.nodes.invariant.there;
            ahead = omega arith;
          }
      | in-None+in_ok-left-in-None w ↦
          let is : op_head c.in_ok-node.node.op c.in_ok-node.node.worth ≡ None = sym c.head_of.ensures ∙ w.in-None.is in
          let sum : c.match-head_of.left ≡ c.nodes.left + passed c.in_ok-node.node.op = omega arith in
          record {
            there = ap (λ m. behind_parts m (parts_at c.args.self.now (c.nodes.number + 1))) sum
                ∙ sym (left_behind_none c.args.self.now c.nodes.number c.nodes.left c.in_ok-node.node e is) ∙ c.nodes.invariant.there;
            ahead = omega arith;
          }
    ]

pub returns-clause-none : goal.returns-clause-none
returns-clause-none c =
    let past : length c.args.self.now.row ≤ c.nodes.number = omega arith in
    none_at_end c.args.self.now c.nodes.number c.nodes.left _ past c.nodes.invariant.there
