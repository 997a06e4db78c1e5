-- Where a rule doesn't fail for a status, the status fits it.
use Rattle.std.proofs.Common.{◌≡◌, ℕ, ◌≤◌, nat_lt, Bool, true, false, not, ◌&&◌, slice_index_or, arith}
use Rattle.std.proofs.lemmas.Bool.Decides.{nat_tests}
use Rattle.tsa_tree.specs.declared.attr.AttrKind.{AttrKind}
use Rattle.tsa_tree.specs.declared.attr.AttrKind.TheVariants as attr
use Rattle.tsa_place_model.specs.Ways.{Way}
use Rattle.tsa_core.specs.Programs.{Function, Program}
use Rattle.tsa_rules.specs.Statuses.{Status, Shared, Exclusive, Lent, is_free, is_exclusive, is_unheld, same_status}
use Rattle.tsa_rules.specs.Attributes.{names, claim_count, is_reentrant}
use Rattle.tsa_rules.specs.Points.{point_at, uses_at, attrs_at, local_begun, reads_under, writes_under, is_leaving}
use Rattle.tsa_rules.specs.Effects.{exit, later}
use Rattle.tsa_rules.specs.Fails.{TS01, TS02, TS03, TS04, TS05, TS06, TS07, TS08, TS09, TS10, TS11, TS12, wants_exclusive, wants_held}
use Rattle.tsa_rules.specs.Fails.{wants_free, wants_takable, wants_release, is_otherwise_held, breaks_attribute, breaks_call}
use Rattle.tsa_rules.specs.Fails.{breaks_reading, breaks_writing, breaks_leaving, breaks_declaring, is_claimed_twice, is_mentioned}
use Rattle.tsa_rules.specs.Fits.{FitsReading, FitsWriting, FitsRequires, FitsRequiresShared, FitsExcludes, FitsAcquire, FitsRelease}
use Rattle.tsa_rules.specs.Fits.{FitsMode, FitsLeaving, FitsNames, FitsDeclaring, FitsCall, WhatDoesNotFailFits}
use Rattle.tsa_rules.proofs.Tests.{never, neither, not_both, affirmed, none_passes, held, exclusive, free, takable, same}

pub reading_fits : (u : Program) (f : Function) (p : ℕ) (c : Way) (s : Status) → breaks_reading u f p c s ≡ false → FitsReading u f p c s
reading_fits u f p c s e =
    let both = neither (reads_under c (uses_at f p).right && is_unheld s) (reads_under c (uses_at f p).left && is_unheld (later u f p c s)) e in
    record {
      before_call = λ h. held s (not_both (reads_under c (uses_at f p).right) (is_unheld s) both.0 h);
      after_call = λ h. held (later u f p c s) (not_both (reads_under c (uses_at f p).left) (is_unheld (later u f p c s)) both.1 h);
    }

pub writing_fits : (u : Program) (f : Function) (p : ℕ) (c : Way) (s : Status) → breaks_writing u f p c s ≡ false → FitsWriting u f p c s
writing_fits u f p c s e h = exclusive (later u f p c s) (not_both (writes_under c (uses_at f p).left) (not (is_exclusive (later u f p c s))) e h)

pub requires_fits : (kind : AttrKind) (s : Status) → wants_exclusive kind s ≡ false → FitsRequires kind s
requires_fits attr.Requires s e = exclusive s e
requires_fits _ s e = tt

pub requires_shared_fits : (kind : AttrKind) (s : Status) → wants_held kind s ≡ false → FitsRequiresShared kind s
requires_shared_fits attr.RequiresShared s e = held s e
requires_shared_fits _ s e = tt

pub excludes_fits : (kind : AttrKind) (s : Status) → wants_free kind s ≡ false → FitsExcludes kind s
excludes_fits attr.Excludes s e = free s e
excludes_fits _ s e = tt

pub acquire_fits : (is_reentrant : Bool) (kind : AttrKind) (s : Status) → wants_takable is_reentrant kind s ≡ false → FitsAcquire is_reentrant kind s
acquire_fits false attr.Acquire s e = free s e
acquire_fits true attr.Acquire s e = takable s e
acquire_fits r attr.AcquireShared s e = free s e
acquire_fits r attr.TryAcquire s e = free s e
acquire_fits r attr.TryAcquireShared s e = free s e
acquire_fits r _ s e = tt

pub release_fits : (kind : AttrKind) (s : Status) → wants_release kind s ≡ false → FitsRelease kind s
release_fits attr.Release s e = held s e
release_fits attr.ReleaseShared s e = held s e
release_fits attr.ReleaseGeneric s e = held s e
release_fits _ s e = tt

pub mode_fits : (kind : AttrKind) (s : Status) → is_otherwise_held kind s ≡ false → FitsMode kind s
mode_fits attr.Release Shared e = never e
mode_fits attr.Release Lent e = never e
mode_fits attr.ReleaseShared (Exclusive n) e = never e
mode_fits attr.ReleaseShared Lent e = never e
mode_fits attr.ReleaseGeneric Lent e = never e
mode_fits _ s e = tt

-- such a premise holds of each attribute of the called function that names the path
pub call_fits : (wants : AttrKind → Status → Bool) (Wants : AttrKind → Status → Type 0) → ((kind : AttrKind) (s : Status) → wants kind s ≡ false → Wants kind s)
    → (u : Program) (f : Function) (p : ℕ) (c : Way) (s : Status) → breaks_call wants u f p c s ≡ false → FitsCall Wants u f p c s
call_fits wants Wants law u f p c s e k d h named =
    law (slice_index_or (attrs_at u f p) k d).kind s
    (not_both (names c (slice_index_or (attrs_at u f p) k d)) (wants (slice_index_or (attrs_at u f p) k d).kind s)
    (none_passes (breaks_attribute wants c s) (attrs_at u f p) e k d h) named)

pub leaving_fits : (u : Program) (f : Function) (p : ℕ) (c : Way) (s : Status) → breaks_leaving u f p c s ≡ false → FitsLeaving u f p c s
leaving_fits u f p c s e h =
    same (later u f p c s) (exit f p c)
    (affirmed (same_status (later u f p c s) (exit f p c)) (not_both (is_leaving (point_at f p).action) (not (same_status (later u f p c s) (exit f p c))) e h))

pub few : (n : ℕ) → nat_lt 1 n ≡ false → n ≤ 1
few n e = grind (arith, nat_tests)

pub names_fit : (u : Program) (f : Function) (p : ℕ) (c : Way) → is_claimed_twice u f p c ≡ false → FitsNames u f p c
names_fit u f p c e = few (claim_count (attrs_at u f p) c) e

pub declaring_fits : (u : Program) (f : Function) (p : ℕ) (c : Way) (s : Status) → breaks_declaring u f p c s ≡ false → FitsDeclaring f p c s
declaring_fits u f p c s e h = free s (not_both (is_mentioned (local_begun (point_at f p).action) c) (not (is_free s)) e h)

pub what_does_not_fail_fits : WhatDoesNotFailFits
what_does_not_fail_fits TS01 u f p c s e = reading_fits u f p c s e
what_does_not_fail_fits TS02 u f p c s e = writing_fits u f p c s e
what_does_not_fail_fits TS03 u f p c s e = call_fits wants_exclusive FitsRequires requires_fits u f p c s e
what_does_not_fail_fits TS04 u f p c s e = call_fits wants_held FitsRequiresShared requires_shared_fits u f p c s e
what_does_not_fail_fits TS05 u f p c s e = call_fits wants_free FitsExcludes excludes_fits u f p c s e
what_does_not_fail_fits TS06 u f p c s e = call_fits (wants_takable (is_reentrant u f c)) (FitsAcquire (is_reentrant u f c)) (acquire_fits (is_reentrant u f c)) u f p c s e
what_does_not_fail_fits TS07 u f p c s e = call_fits wants_release FitsRelease release_fits u f p c s e
what_does_not_fail_fits TS08 u f p c s e = call_fits is_otherwise_held FitsMode mode_fits u f p c s e
what_does_not_fail_fits TS09 u f p c s e = leaving_fits u f p c s e
what_does_not_fail_fits TS10 u f p c s e = tt
what_does_not_fail_fits TS11 u f p c s e = names_fit u f p c e
what_does_not_fail_fits TS12 u f p c s e = declaring_fits u f p c s e
