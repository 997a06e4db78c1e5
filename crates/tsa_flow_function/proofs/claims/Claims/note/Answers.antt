use Rattle.std.proofs.Common.{◌∙◌, ◌++◌, ◌∷◌, ◌<◌, ◌≤◌, ◌≡◌, [], OnOk, arith, length, map, refl, slice_index_or, slice_set, sym, ap, subst}
use Rattle.std.proofs.Common.{vec_len}
use Rattle.std.proofs.Math.Decide.{dec_lt}
use Rattle.std.proofs.lemmas.List.{length-map, set_past}
use Rattle.std.proofs.lemmas.Result.{on_ok_weaker}
use Rattle.tsa_graph.proofs.EntryLists.{put_in}
use Rattle.tsa_flow_function.proofs.claims.Claims.note.Goals as goal
use Rattle.tsa_flow_function.proofs.claims.Claims.note.Goals.{in-Some, in-None}
use Rattle.tsa_base.proofs.Truths.{never_true as never}

-- a list that is there takes the point, and where there is none nothing changes
pub returns : goal.returns
returns c = elim c.match-get_mut.branch [
  | in-Some w ↦ (
      let there = w.in-Some.ensures.variant.0 refl in
      let size = c.self.inside.lists.ok.0 in
      let within : c.args.number < length c.self.inside.lists.items = omega (arith, there, size) in
      subst (λ r. OnOk r (map (λ list. list.items) c.match-get_mut.self-inside.lists.items ≡ slice_set c.args.self.now c.args.number (slice_index_or c.args.self.now c.args.number [] ++ c.args.point ∷ []))) (sym w.result-is)
      (on_ok_weaker w.put.result (λ made. ap (λ inside. map (λ list. list.items) inside.lists.items) w.self-inside-is
      ∙ put_in (λ list. list.items) c.self.inside.lists.items c.args.self.now c.args.number w.in-Some.list.now w.put.new.list c.args.point c.self.view_is within w.in-Some.ensures.value made) w.put.ensures))
  | in-None w ↦ (
      let size = c.self.inside.lists.ok.0 in
      let long : length c.args.self.now ≡ length c.self.inside.lists.items = ap length (sym c.self.view_is) ∙ length-map c.self.inside.lists.items (λ list. list.items) in
      let beyond : length c.args.self.now ≤ c.args.number = elim (dec_lt c.args.number (length c.args.self.now)) [
        | yes less ↦ (let inside : c.args.number < vec_len c.self.inside.lists = omega (arith, less, long, size) in never (w.in-None.ensures.variant.1 inside))
        | no more ↦ omega (arith, more)
      ] in
      subst (λ r. OnOk r (map (λ list. list.items) c.match-get_mut.self-inside.lists.items ≡ slice_set c.args.self.now c.args.number (slice_index_or c.args.self.now c.args.number [] ++ c.args.point ∷ []))) (sym w.result-is)
      (ap (λ inside. map (λ list. list.items) inside.lists.items) w.self-inside-is
      ∙ c.self.view_is
      ∙ sym (set_past c.args.self.now c.args.number (slice_index_or c.args.self.now c.args.number [] ++ c.args.point ∷ []) beyond)))
]
