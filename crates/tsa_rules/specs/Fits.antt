-- What holds where no rule fails, as types by cases of the attribute and the status.
use Rattle.std.specs.Prelude.{◌≡◌, ℕ, ◌≤◌, Bool, true, false, All}
use Rattle.tsa_tree.specs.declared.attr.AttrKind.{AttrKind}
use Rattle.tsa_tree.specs.declared.attr.AttrKind.TheVariants as attr
use Rattle.tsa_place_model.specs.Ways.{Way}
use Rattle.tsa_core.specs.Programs.{Function, Program}
use Rattle.tsa_rules.specs.Statuses.{Status, Free, Shared, Exclusive, Lent, IsExclusive, IsHeld, IsTakableAgain}
use Rattle.tsa_rules.specs.Attributes.{names, claim_count, is_reentrant}
use Rattle.tsa_rules.specs.Points.{point_at, uses_at, attrs_at, local_begun, reads_under, writes_under, is_leaving}
use Rattle.tsa_rules.specs.Effects.{exit, later}
use Rattle.tsa_rules.specs.Fails.{Rule, TS01, TS02, TS03, TS04, TS05, TS06, TS07, TS08, TS09, TS10, TS11, TS12, is_mentioned, fails}

-- TS01
pub record FitsReading (u : Program) (f : Function) (p : ℕ) (c : Way) (s : Status) : Type 0 where
  pub before_call : reads_under c (uses_at f p).right ≡ true → IsHeld s
  pub after_call : reads_under c (uses_at f p).left ≡ true → IsHeld (later u f p c s)

-- TS02
abbrev pub FitsWriting : Program → Function → ℕ → Way → Status → Type 0
FitsWriting u f p c s = writes_under c (uses_at f p).left ≡ true → IsExclusive (later u f p c s)

-- TS03
abbrev pub FitsRequires : AttrKind → Status → Type 0
FitsRequires attr.Requires s = IsExclusive s
FitsRequires _ s = Unit {0}

-- TS04
abbrev pub FitsRequiresShared : AttrKind → Status → Type 0
FitsRequiresShared attr.RequiresShared s = IsHeld s
FitsRequiresShared _ s = Unit {0}

-- TS05
abbrev pub FitsExcludes : AttrKind → Status → Type 0
FitsExcludes attr.Excludes s = s ≡ Free
FitsExcludes _ s = Unit {0}

-- TS06
abbrev pub FitsAcquire : (is_reentrant : Bool) → AttrKind → Status → Type 0
FitsAcquire false attr.Acquire s = s ≡ Free
FitsAcquire true attr.Acquire s = IsTakableAgain s
FitsAcquire is_reentrant attr.AcquireShared s = s ≡ Free
FitsAcquire is_reentrant attr.TryAcquire s = s ≡ Free
FitsAcquire is_reentrant attr.TryAcquireShared s = s ≡ Free
FitsAcquire is_reentrant _ s = Unit {0}

-- TS07
abbrev pub FitsRelease : AttrKind → Status → Type 0
FitsRelease attr.Release s = IsHeld s
FitsRelease attr.ReleaseShared s = IsHeld s
FitsRelease attr.ReleaseGeneric s = IsHeld s
FitsRelease _ s = Unit {0}

-- TS08
abbrev pub FitsMode : AttrKind → Status → Type 0
FitsMode attr.Release Shared = ⊥
FitsMode attr.Release Lent = ⊥
FitsMode attr.ReleaseShared (Exclusive n) = ⊥
FitsMode attr.ReleaseShared Lent = ⊥
FitsMode attr.ReleaseGeneric Lent = ⊥
FitsMode _ s = Unit {0}

-- TS09
abbrev pub FitsLeaving : Program → Function → ℕ → Way → Status → Type 0
FitsLeaving u f p c s = is_leaving (point_at f p).action ≡ true → later u f p c s ≡ exit f p c

-- TS11
abbrev pub FitsNames : Program → Function → ℕ → Way → Type 0
FitsNames u f p c = claim_count (attrs_at u f p) c ≤ 1

-- TS12
abbrev pub FitsDeclaring : Function → ℕ → Way → Status → Type 0
FitsDeclaring f p c s = is_mentioned (local_begun (point_at f p).action) c ≡ true → s ≡ Free

-- what is asked of each attribute of the called function that names the path
abbrev pub FitsCall : (AttrKind → Status → Type 0) → Program → Function → ℕ → Way → Status → Type 0
FitsCall Wants u f p c s = All (λ a. names c a ≡ true → Wants a.kind s) (attrs_at u f p)

abbrev pub Fits : Rule → Program → Function → (point : ℕ) → Way → Status → Type 0
Fits TS01 u f p c s = FitsReading u f p c s
Fits TS02 u f p c s = FitsWriting u f p c s
Fits TS03 u f p c s = FitsCall FitsRequires u f p c s
Fits TS04 u f p c s = FitsCall FitsRequiresShared u f p c s
Fits TS05 u f p c s = FitsCall FitsExcludes u f p c s
Fits TS06 u f p c s = FitsCall (FitsAcquire (is_reentrant u f c)) u f p c s
Fits TS07 u f p c s = FitsCall FitsRelease u f p c s
Fits TS08 u f p c s = FitsCall FitsMode u f p c s
Fits TS09 u f p c s = FitsLeaving u f p c s
Fits TS10 u f p c s = Unit {0}
Fits TS11 u f p c s = FitsNames u f p c
Fits TS12 u f p c s = FitsDeclaring f p c s

-- where a rule doesn't fail for a status, the status fits it
abbrev pub WhatDoesNotFailFits : Type 0
WhatDoesNotFailFits = (rule : Rule) (u : Program) (f : Function) (p : ℕ) (c : Way) (s : Status) → fails rule u f p c s ≡ false → Fits rule u f p c s
