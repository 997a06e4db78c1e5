use Rattle.std.proofs.Common.{◌-◌, ◌≡◌, length, Some, slice_get, subst, sym}
use Rattle.std.proofs.lemmas.Result.{on_ok_weaker}
use Rattle.tsa_flow_function.specs.ClaimLanes.{HasLane, list_at}
use Rattle.tsa_flow_function.proofs.Laning.{last_differs, put_last, stands_last}
use Rattle.tsa_flow_function.proofs.claim_lanes.put_lane.Goals as goal

pub returns-then-ends_with : goal.returns-then-ends_with
returns-then-ends_with c fits =
    stands_last c.args.point c.args.lane c.args.lists.now fits (subst (λ xs. slice_get xs (length xs - 1) ≡ Some c.args.lane) c.at.ensures (c.ends_with.ensures.yes c.if-ends_with.true))

pub returns : goal.returns
returns c =
    on_ok_weaker c.note.result (λ made fits.
    subst (HasLane c.args.point c.args.lane c.args.lists.now) (sym made)
    (put_last c.args.point c.args.lane c.args.lists.now fits
    (last_differs (list_at c.args.lists.now c.args.point) c.args.lane (subst (λ xs. slice_get xs (length xs - 1) ≡ Some c.args.lane → ⊥) c.at.ensures (c.ends_with.ensures.no c.if-ends_with.false))))) c.note.ensures
