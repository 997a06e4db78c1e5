-- What a caller hands over are locks, and what it lends is held by it or by a frame below.
use Rattle.std.proofs.Common.{◌≡◌, ◌∙◌, ℕ, zero, suc, ◌<◌, ◌≤◌, nat_le, Bool, true, false, ◌&&◌, List, [], ◌∷◌, length, map, filter, Option}
use Rattle.std.proofs.Common.{Some, None, option_and_then, if◌then◌else◌, refl, ap, sym, subst, arith, leb-true}
use Rattle.std.specs.Prelude.{All, Contains, IsSome, cond}
use Rattle.tsa_tree.specs.declared.attr.AttrKind.{AttrKind}
use Rattle.tsa_tree.specs.declared.attr.AttrKind.TheVariants as attr
use Rattle.tsa_place_model.specs.Ways.{Way}
use Rattle.tsa_core.specs.Meanings.{Call}
use Rattle.tsa_core.specs.Programs.{Attr, Program}
use Rattle.tsa_path.proofs.PathsApart.{way_equal, way_itself}
use Rattle.tsa_rules.specs.declared.status.Status.{Status}
use Rattle.tsa_rules.specs.declared.status.Status.TheVariants as status
use Rattle.tsa_rules.specs.declared.status.Status.TheVariants.{Free, Lent, Pending}
use Rattle.tsa_rules.specs.Attributes.{claim, claim_count, claims, claims_path, is_path, is_reentrant, kind_of, names}
use Rattle.tsa_rules.specs.Effects.{entry_by}
use Rattle.tsa_rules.specs.Points.{attrs_at, is_status}
use Rattle.tsa_rules.specs.Statuses.{IsHeld}
use Rattle.tsa_sched.specs.declared.event.Mode.{Mode}
use Rattle.tsa_sched.specs.declared.event.Mode.TheVariants.{Exclusive, Shared}
use Rattle.tsa_mean.specs.Acts.{point_of}
use Rattle.tsa_mean.specs.States.{Frame}
use Rattle.tsa_mean.proofs.Lists.{all_more, all_none}
use Rattle.tsa_sound.specs.Facts.{FunctionFacts, IsAmong}
use Rattle.tsa_sound.specs.FramesFit.{FrameFits, IsLentOf, ProgramRows, function_of, kept_back, owned_below, paths_of, settled_in}
use Rattle.tsa_sound.specs.FramesFit.{status_before, status_kept}
use Rattle.tsa_sound.specs.SettledStatuses.{hold, lock_in, lock_named, settled, units}
use Rattle.tsa_sound.proofs.Constants.{both, differ}
use Rattle.tsa_sound.proofs.HeldLocks.{hold_is, total_has}
use Rattle.tsa_sound.proofs.Sums.{first_in, rest_in}
use Rattle.tsa_sound.proofs.Tables.{FitsClaim, IsOwned}
use Rattle.tsa_sound.proofs.Transfer.{all_at, fits_at, fits_settled, alone}

-- what holds of each element of a list
pub all_of : {A : Type 0} (P : A → Type 0) (xs : List A) → ((a : A) → Contains xs a → P a) → All P xs
all_of P [] each = all_none P
all_of P (x ∷ xs) each = all_more P x xs (each x (first_in x xs)) (all_of P xs (λ a i. each a (rest_in x a xs i)))

pub in_mapped : {A B : Type 0} (f : A → B) (xs : List A) (a : A) → Contains xs a → Contains (map f xs) (f a)
in_mapped f [] a (k, l, e) = absurd (omega (arith, l))
in_mapped f (x ∷ xs) a (zero, l, e) = (zero, omega arith, ap f e)
in_mapped f (x ∷ xs) a (suc k, l, e) = rest_in (f x) (f a) (map f xs) (in_mapped f xs a (k, omega (arith, l), e))

pub join : (a b : Bool) → a ≡ true → b ≡ true → (a && b) ≡ true
join true b e f = f
join false b e f = differ e

-- an attribute that names a path
pub path_is : (c : Way) (o : Option Way) → is_path c o ≡ true → o ≡ Some c
path_is c None e = differ e
path_is c (Some w) e = ap Some (way_equal w c e)

pub names_own : (a : Attr) (c : Way) → a.path ≡ Some c → names c a ≡ true
names_own a c e = ap (is_path c) e ∙ way_itself c

-- an attribute that claims a path is the one that does
counted : (ats : List Attr) (c : Way) (a : Attr) → Contains ats a → claims_path c a ≡ true → 1 ≤ claim_count ats c
counted [] c a (k, l, e) is = absurd (omega (arith, l))
counted (b ∷ rest) c a i is = by (claims_path c b) refl i (λ j. counted rest c a j is)
  where
    by : (t : Bool) → claims_path c b ≡ t → Contains (b ∷ rest) a → (Contains rest a → 1 ≤ claim_count rest c)
        → 1 ≤ length (if t then b ∷ filter (claims_path c) rest else filter (claims_path c) rest)
    by true e j more = omega arith
    by false e (zero, l, same) more = differ (sym e ∙ ap (claims_path c) same ∙ is)
    by false e (suc k, l, same) more = more (k, omega (arith, l), same)

pub claim_is : (ats : List Attr) (c : Way) (a : Attr) → Contains ats a → claims_path c a ≡ true → claim_count ats c ≤ 1 → claim ats c ≡ Some a
claim_is [] c a (k, l, e) is few = absurd (omega (arith, l))
claim_is (b ∷ rest) c a i is few = by (claims_path c b) refl i few (λ j less. claim_is rest c a j is less)
  where
    by : (t : Bool) → claims_path c b ≡ t → Contains (b ∷ rest) a → length (if t then b ∷ filter (claims_path c) rest else filter (claims_path c) rest) ≤ 1
        → (Contains rest a → claim_count rest c ≤ 1 → claim rest c ≡ Some a) → cond t (Some b) (claim rest c) ≡ Some a
    by true e (zero, l, same) less more = ap Some same
    by true e (suc k, l, same) less more =
        let some = counted rest c a (k, omega (arith, l), same) is in absurd (omega (arith, less, some))
    by false e (zero, l, same) less more = differ (sym e ∙ ap (claims_path c) same ∙ is)
    by false e (suc k, l, same) less more = more (k, omega (arith, l), same) less

-- what a function begins with is claimed, and was there
pub entry_claims : (kind : AttrKind) → (entry_by (Some kind) ≡ Free → ⊥) → claims kind ≡ true
entry_claims attr.Requires some = refl
entry_claims attr.RequiresShared some = refl
entry_claims attr.Release some = refl
entry_claims attr.ReleaseShared some = refl
entry_claims kind some = absurd (some refl)

shared_not_free : (s : Status) → s ≡ status.Shared → s ≡ Free → ⊥
shared_not_free s is e = cc

some_status : (r : Bool) (kind : AttrKind) (s : Status) → FitsClaim r (Some kind) s → (entry_by (Some kind) ≡ Free → ⊥) → s ≡ Free → ⊥
some_status r attr.Requires s fits some e = subst IsOwned e fits
some_status r attr.RequiresShared s fits some e = subst IsHeld e fits
some_status r attr.Release s fits some e = subst IsOwned e fits
some_status r attr.ReleaseShared s fits some e = shared_not_free s fits e
some_status r kind s fits some e = some refl

lent_kind : (kind : AttrKind) → entry_by (Some kind) ≡ Lent → kind ≡ attr.RequiresShared
lent_kind attr.RequiresShared e = refl
lent_kind attr.Requires e = absurd cc
lent_kind attr.Release e = absurd cc
lent_kind attr.ReleaseShared e = absurd cc
lent_kind kind e = absurd cc

module _ (u : Program) (x : ProgramRows) (frame : Frame) (below : List Frame) (facts : FunctionFacts u x frame.function)
    (row : FrameFits u x (owned_below u x below) frame (status_before x frame)) (call : Call) (there : (point_of u frame).call ≡ Some call) where
  abbrev ats : List Attr
  ats = attrs_at u (function_of u frame) frame.point

  -- an attribute of the call has a path, which it claims alone
  pub record Claimed (a : Attr) : Type 0 where
    pub way : Way
    pub is : a.path ≡ Some way
    pub among : Contains (paths_of x frame) way
    pub claimed : claim ats way ≡ Some a

  pub claimed_by : (a : Attr) → Contains ats a → claims a.kind ≡ true → Claimed a
  claimed_by a i claiming = by a.path refl (all_at (λ a. IsSome a.path) ats a ((facts.points frame.point).calls call there).named i)
    where
      by : (o : Option Way) → a.path ≡ o → IsSome o → Claimed a
      by None e some = absurd cc
      by (Some c) e some =
          let among = all_at (λ a. IsAmong (x.paths frame.function) a.path) ats a (facts.called frame.point) i c e in
          record {
            way = c;
            is = e;
            among = among;
            claimed = claim_is ats c a i (join (claims a.kind) (names c a) claiming (names_own a c e)) (alone u x frame facts row.listed c among);
          }

  -- what is handed over is a lock
  pub handed_locks : (a : Attr) → Contains ats a → (entry_by (Some a.kind) ≡ Free → ⊥) → IsSome (lock_named u frame.locals a)
  handed_locks a i some =
      let own = claimed_by a i (entry_claims a.kind some) in
      let fits = subst (λ o. FitsClaim (is_reentrant u (function_of u frame) own.way) (kind_of o) (settled_in u frame (status_before x frame) own.way)) own.claimed
      (fits_settled u x frame facts row.listed own.way own.among) in
      subst (λ o. IsSome (option_and_then (lock_in u frame.locals) o)) (sym own.is)
      (row.locks own.way own.among (some_status (is_reentrant u (function_of u frame) own.way) a.kind
      (settled_in u frame (status_before x frame) own.way) fits some))

  -- what is lent is held by the caller, or by a frame below
  module _ (c : Way) (i : Contains (paths_of x frame) c) (kept : status_kept u x frame c ≡ settled_in u frame (status_before x frame) c) where
    counts : (s : Status) (lock : ℕ) (mode : Mode) → settled_in u frame (status_before x frame) c ≡ s → lock_in u frame.locals c ≡ Some lock → 0 < units s mode
        → 0 < owned_below u x (frame ∷ below) lock mode
    counts s lock mode is leads some =
        let one = total_has (λ d. hold u frame.locals d (status_kept u x frame d) lock mode) (paths_of x frame) c i in
        let worth : hold u frame.locals c (status_kept u x frame c) lock mode ≡ units s mode =
        ap (λ s. hold u frame.locals c s lock mode) (kept ∙ is) ∙ hold_is u frame c s lock mode leads in
        omega (arith, one, worth, some)

    leads_to : (o : Option ℕ) → lock_in u frame.locals c ≡ o → IsSome o → (s : Status) (mode : Mode) → settled_in u frame (status_before x frame) c ≡ s
        → 0 < units s mode
        → IsLentOf (owned_below u x (frame ∷ below)) o
    leads_to None e some s mode is much = absurd cc
    leads_to (Some lock) e some s mode is much = (mode, counts s lock mode is e much)

    further_below : (o : Option ℕ) → IsLentOf (owned_below u x below) o → IsLentOf (owned_below u x (frame ∷ below)) o
    further_below None lent = absurd lent
    further_below (Some lock) lent = (lent.0, (let more = lent.1 in omega (arith, more)))

    depth : (n : ℕ) → status_before x frame c ≡ status.Exclusive n → 0 < n
    depth n is = by (sym (ap (is_status u (function_of u frame) c) is) ∙ facts.possible frame.point c row.listed i)
      where
        by : is_status u (function_of u frame) c (status.Exclusive n) ≡ true → 0 < n
        by e = let l : 1 ≤ n = leb-true 1 n (both (nat_le 1 n) _ e).0 in omega (arith, l)

    abbrev settles : (s : Status) → status_before x frame c ≡ s → settled_in u frame (status_before x frame) c ≡ settled u (function_of u frame) frame.locals c s
    settles s is = ap (settled u (function_of u frame) frame.locals c) is

    held_below : (s : Status) → status_before x frame c ≡ s → IsHeld s → IsLentOf (owned_below u x (frame ∷ below)) (lock_in u frame.locals c)
    held_below status.Shared is h =
        leads_to (lock_in u frame.locals c) refl (row.locks c i (λ e. shared_not_free _ (settles status.Shared is) e)) status.Shared Shared
        (settles status.Shared is) (omega arith)
    held_below (status.Exclusive n) is h =
        leads_to (lock_in u frame.locals c) refl (row.locks c i (λ e. exclusive_not_free (sym (settles (status.Exclusive n) is) ∙ e))) (status.Exclusive n) Exclusive
        (settles (status.Exclusive n) is) (depth n is)
      where
        exclusive_not_free : status.Exclusive n ≡ Free → ⊥
        exclusive_not_free e = cc
    held_below Lent is h = further_below (lock_in u frame.locals c) (row.lent c i (settles Lent is))
    held_below Free is h = absurd h
    held_below (Pending v) is h = absurd h

  pub lent_locks : (a : Attr) → Contains ats a → entry_by (Some a.kind) ≡ Lent → IsLentOf (owned_below u x (frame ∷ below)) (lock_named u frame.locals a)
  lent_locks a i e =
      let kind = lent_kind a.kind e in
      let own = claimed_by a i (ap claims kind) in
      let kept : status_kept u x frame own.way ≡ settled_in u frame (status_before x frame) own.way =
      ap (λ o. kept_back (kind_of o) (settled_in u frame (status_before x frame) own.way)) own.claimed
      ∙ ap (λ kind. kept_back (Some kind) (settled_in u frame (status_before x frame) own.way)) kind in
      let fits = subst (λ o. FitsClaim (is_reentrant u (function_of u frame) own.way) (kind_of o) (status_before x frame own.way)) own.claimed
      (fits_at u x frame facts row.listed own.way own.among) in
      let held = subst (λ kind. FitsClaim (is_reentrant u (function_of u frame) own.way) (Some kind) (status_before x frame own.way)) kind fits in
      subst (λ o. IsLentOf (owned_below u x (frame ∷ below)) (option_and_then (lock_in u frame.locals) o)) (sym own.is)
      (held_below own.way own.among kept (status_before x frame own.way) refl held)
