-- Which rules can't fail by what a point says of a path. Where it says nothing, only those of returns and of edges that meet may.
use Rattle.std.proofs.Common.{◌≡◌, ◌∙◌, false, ◌||◌, refl, sym, ap, true≢false}
use Rattle.tsa_place_model.specs.Ways.{Way}
use Rattle.tsa_core.specs.Programs.{Function, Program}
use Rattle.tsa_tree.specs.declared.attr.AttrKind.TheVariants as attr
use Rattle.tsa_rules.specs.declared.case.Case.{Case}
use Rattle.tsa_rules.specs.declared.rule.Rule.{Rule}
use Rattle.tsa_rules.specs.declared.rule.Rule.TheVariants.{TS01, TS02, TS03, TS04, TS05, TS06, TS07, TS08, TS09, TS10, TS11, TS12}
use Rattle.tsa_rules.specs.declared.status.Status.{Status}
use Rattle.tsa_rules.specs.Cases.{fails_in}
use Rattle.tsa_rules.specs.KindSets.{has_kind}
use Rattle.tsa_rules.specs.Marks.{no_mark}
use Rattle.tsa_rules.proofs.CaseFailures.{failures}
use Rattle.tsa_rules.proofs.KindBits.{none_has}
use Rattle.tsa_rules.proofs.Tests.{neither, never}
use Rattle.tsa_warn_function.specs.declared.spot.Spot.{Spot}
use Rattle.tsa_warn_function.specs.Spots.{can_break, FailsOnWalks, IsSpotOf}

-- a rule that a mark can't break fails for no status
pub kept : (rule : Rule) (x : Case) (s : Status) → can_break rule x.mark ≡ false → fails_in rule x s ≡ false
kept TS01 x s e = let each = neither x.mark.reads_before x.mark.reads_after e in rw (each.0, each.1) refl
kept TS02 x s e = rw e refl
kept TS03 x s e = rw e refl
kept TS04 x s e = rw e refl
kept TS05 x s e = rw e refl
kept TS06 x s e =
    let has = has_kind x.mark.kinds in
    let each = neither (has attr.Acquire) (has attr.AcquireShared || (has attr.TryAcquire || has attr.TryAcquireShared)) e in
    rw (each.0, each.1) refl
kept TS07 x s e = rw e refl
kept TS08 x s e =
    let has = has_kind x.mark.kinds in
    let each = neither (has attr.Release) (has attr.ReleaseShared || has attr.ReleaseGeneric) e in
    let others = neither (has attr.ReleaseShared) (has attr.ReleaseGeneric) each.1 in
    rw (each.0, others.0, others.1) refl
kept TS09 x s e = never e
kept TS10 x s e = refl
kept TS11 x s e = e
kept TS12 x s e = rw e refl

-- nor for one that some walk brings
pub kept_on_walks : (u : Program) (f : Function) (c : Way) (spot : Spot) → IsSpotOf u f c spot → (rule : Rule) → can_break rule spot.case.mark ≡ false
    → FailsOnWalks u f spot.point c rule → ⊥
kept_on_walks u f c spot is rule e (s, (at, broken)) =
    true≢false (sym (ap (λ x. fails_in rule x s) is.is_case ∙ (failures rule u f spot.point c s ∙ broken)) ∙ kept rule spot.case s e)

-- a point that says nothing
silent : (rule : Rule) → (rule ≡ TS09 → ⊥) → can_break rule no_mark ≡ false
silent TS01 other = refl
silent TS02 other = refl
silent TS03 other = none_has attr.Requires
silent TS04 other = none_has attr.RequiresShared
silent TS05 other = none_has attr.Excludes
silent TS06 other = rw (none_has attr.Acquire, none_has attr.AcquireShared, none_has attr.TryAcquire, none_has attr.TryAcquireShared) refl
silent TS07 other = rw (none_has attr.Release, none_has attr.ReleaseShared, none_has attr.ReleaseGeneric) refl
silent TS08 other = rw (none_has attr.Release, none_has attr.ReleaseShared, none_has attr.ReleaseGeneric) refl
silent TS09 other = absurd (other refl)
silent TS10 other = refl
silent TS11 other = refl
silent TS12 other = refl

pub quiet : (rule : Rule) (x : Case) (s : Status) → x.mark ≡ no_mark → (rule ≡ TS09 → ⊥) → fails_in rule x s ≡ false
quiet rule x s e other = kept rule x s (ap (can_break rule) e ∙ silent rule other)
