-- The case of a path at a point tells which rules fail there.
use Rattle.std.proofs.Common.{◌≡◌, ℕ, Bool, true, false, not, ◌&&◌, ◌||◌, ◌⊎◌, inl, inr, List, [], ◌∷◌, Option, Some, None, refl, sym, ap}
use Rattle.std.proofs.Common.{◌∙◌}
use Rattle.std.specs.List.{list_any}
use Rattle.tsa_tree.specs.declared.attr.AttrKind.{AttrKind}
use Rattle.tsa_tree.specs.declared.attr.AttrKind.TheVariants as attr
use Rattle.tsa_place_model.specs.Ways.{Way}
use Rattle.tsa_core.specs.Bodies.{Action, evaluate, set_local, set_cell, declare, test, branch, go_on, give}
use Rattle.tsa_core.specs.Control.{Next}
use Rattle.tsa_core.specs.Programs.{Attr, Function, Program}
use Rattle.tsa_rules.specs.declared.case.Case.{Case}
use Rattle.tsa_rules.specs.Statuses.{Status, is_free, is_exclusive, is_unheld, same_status}
use Rattle.tsa_rules.specs.Attributes.{names, is_reentrant}
use Rattle.tsa_rules.specs.Conditions.{Condition, condition_in}
use Rattle.tsa_rules.specs.Points.{point_at, uses_at, attrs_at, is_a_try, reads_under, writes_under, is_leaving}
use Rattle.tsa_rules.specs.Effects.{exit, later}
use Rattle.tsa_rules.specs.Fails.{Rule, TS01, TS02, TS03, TS04, TS05, TS06, TS07, TS08, TS09, TS10, TS11, TS12, wants_exclusive, wants_held}
use Rattle.tsa_rules.specs.Fails.{wants_free, wants_takable, wants_release, is_otherwise_held, fails}
use Rattle.tsa_rules.specs.KindSets.{has_kind, kind_number, same_kind}
use Rattle.tsa_rules.specs.Marks.{kinds_of, names_as}
use Rattle.tsa_rules.specs.Cases.{tests_by, role_by, case_of, later_in, exit_in, is_leaving_in, fails_in, CasesTellTheRules}
use Rattle.tsa_rules.proofs.Tests.{never, left_part, right_part}
use Rattle.tsa_rules.proofs.Possible.{both}
use Rattle.tsa_rules.proofs.KindBits.{told_apart, marks_tell_kinds}
use Rattle.tsa_rules.proofs.CaseEffects.{entries, exits, effects}
use Rattle.tsa_base.proofs.Numbers.{itself}
use Rattle.tsa_base.proofs.Truths.{or_right}

or_left : (a b : Bool) → a ≡ true → (a || b) ≡ true
or_left a b e = rw e refl

or_cases : (a b : Bool) → (a || b) ≡ true → (a ≡ true) ⊎ (b ≡ true)
or_cases true b e = inl refl
or_cases false b e = inr e

-- tests that pass each other are equal
agree : (a b : Bool) → (a ≡ true → b ≡ true) → (b ≡ true → a ≡ true) → a ≡ b
agree true b h k = sym (h refl)
agree false true h k = k refl
agree false false h k = refl

-- Some attribute names the path and wants something, exactly where one of a kind does that wants it.
abbrev wanted_by : (AttrKind → Bool) → Way → List Attr → Bool
wanted_by wants c attrs = list_any (λ a. names c a && wants a.kind) attrs

wanted : (wants : AttrKind → Bool) (c : Way) (attrs : List Attr) → wanted_by wants c attrs ≡ true → (k : AttrKind) × ((list_any (names_as c k) attrs ≡ true) × (wants k ≡ true))
wanted wants c [] e = never (sym e)
wanted wants c (a ∷ attrs) e = elim (or_cases (names c a && wants a.kind) (wanted_by wants c attrs) e) [ inl h ↦ here h | inr h ↦ behind (wanted wants c attrs h) ]
  where
    here : (names c a && wants a.kind) ≡ true → (k : AttrKind) × ((list_any (names_as c k) (a ∷ attrs) ≡ true) × (wants k ≡ true))
    here h =
        (a.kind, (or_left (names_as c a.kind a) (list_any (names_as c a.kind) attrs) (both (names c a) (same_kind a.kind a.kind) (left_part (names c a) (wants a.kind) h) (itself (kind_number a.kind))), right_part (names c a) (wants a.kind) h))

    behind : (k : AttrKind) × ((list_any (names_as c k) attrs ≡ true) × (wants k ≡ true)) → (k : AttrKind) × ((list_any (names_as c k) (a ∷ attrs) ≡ true) × (wants k ≡ true))
    behind (k, (n, w)) = (k, (or_right (names_as c k a) (list_any (names_as c k) attrs) n, w))

granted : (wants : AttrKind → Bool) (c : Way) (k : AttrKind) (attrs : List Attr) → list_any (names_as c k) attrs ≡ true → wants k ≡ true → wanted_by wants c attrs ≡ true
granted wants c k [] e w = never (sym e)
granted wants c k (a ∷ attrs) e w = elim (or_cases (names_as c k a) (list_any (names_as c k) attrs) e) [ inl h ↦ here h | inr h ↦ or_right (names c a && wants a.kind) (wanted_by wants c attrs) (granted wants c k attrs h w) ]
  where
    here : names_as c k a ≡ true → wanted_by wants c (a ∷ attrs) ≡ true
    here h =
        or_left (names c a && wants a.kind) (wanted_by wants c attrs)
        (both (names c a) (wants a.kind) (left_part (names c a) (same_kind a.kind k) h) (ap wants (told_apart a.kind k (right_part (names c a) (same_kind a.kind k) h)) ∙ w))

abbrev Named : (AttrKind → Bool) → List Attr → Way → Type 0
Named has attrs c = (k : AttrKind) → has k ≡ list_any (names_as c k) attrs

wanted_kind : (has wants : AttrKind → Bool) (attrs : List Attr) (c : Way) → Named has attrs c → wanted_by wants c attrs ≡ true → (k : AttrKind) × ((has k ≡ true) × (wants k ≡ true))
wanted_kind has wants attrs c tells e = by (wanted wants c attrs e)
  where
    by : (k : AttrKind) × ((list_any (names_as c k) attrs ≡ true) × (wants k ≡ true)) → (k : AttrKind) × ((has k ≡ true) × (wants k ≡ true))
    by (k, (n, w)) = (k, (tells k ∙ n, w))

granted_kind : (has wants : AttrKind → Bool) (attrs : List Attr) (c : Way) → Named has attrs c → (k : AttrKind) → has k ≡ true → wants k ≡ true → wanted_by wants c attrs ≡ true
granted_kind has wants attrs c tells k n w = granted wants c k attrs (sym (tells k) ∙ n) w

-- a premise of one kind
one_kind : (has wants : AttrKind → Bool) (attrs : List Attr) (c : Way) (k : AttrKind) → Named has attrs c → ((j : AttrKind) → wants j ≡ true → j ≡ k)
    → (has k && wants k) ≡ wanted_by wants c attrs
one_kind has wants attrs c k tells only =
    agree (has k && wants k) (wanted_by wants c attrs) (λ e. granted_kind has wants attrs c tells k (left_part (has k) (wants k) e) (right_part (has k) (wants k) e)) (λ e. by (wanted_kind has wants attrs c tells e))
  where
    by : (j : AttrKind) × ((has j ≡ true) × (wants j ≡ true)) → (has k && wants k) ≡ true
    by (j, (n, w)) = both (has k) (wants k) (ap has (sym (only j w)) ∙ n) (ap wants (sym (only j w)) ∙ w)

only_exclusive : (s : Status) (j : AttrKind) → wants_exclusive j s ≡ true → j ≡ attr.Requires
only_exclusive s attr.Requires e = refl
only_exclusive s _ e = never (sym e)

only_held : (s : Status) (j : AttrKind) → wants_held j s ≡ true → j ≡ attr.RequiresShared
only_held s attr.RequiresShared e = refl
only_held s _ e = never (sym e)

only_free : (s : Status) (j : AttrKind) → wants_free j s ≡ true → j ≡ attr.Excludes
only_free s attr.Excludes e = refl
only_free s _ e = never (sym e)

-- what is taken
abbrev takes_otherwise : (AttrKind → Bool) → Bool
takes_otherwise has = has attr.AcquireShared || (has attr.TryAcquire || has attr.TryAcquireShared)

abbrev takes : (AttrKind → Bool) → Bool → Status → Bool
takes has r s = (has attr.Acquire && wants_takable r attr.Acquire s) || (takes_otherwise has && not (is_free s))

takes_by : (has : AttrKind → Bool) (r : Bool) (s : Status) (k : AttrKind) → has k ≡ true → wants_takable r k s ≡ true → takes has r s ≡ true
takes_by has true s attr.Acquire n w = rw (n, w) refl
takes_by has false s attr.Acquire n w = rw (n, w) refl
takes_by has true s attr.AcquireShared n w = or_right _ _ (both _ _ (or_left _ _ n) w)
takes_by has false s attr.AcquireShared n w = or_right _ _ (both _ _ (or_left _ _ n) w)
takes_by has true s attr.TryAcquire n w = or_right _ _ (both _ _ (or_right _ _ (or_left _ _ n)) w)
takes_by has false s attr.TryAcquire n w = or_right _ _ (both _ _ (or_right _ _ (or_left _ _ n)) w)
takes_by has true s attr.TryAcquireShared n w = or_right _ _ (both _ _ (or_right _ _ (or_right _ _ n)) w)
takes_by has false s attr.TryAcquireShared n w = or_right _ _ (both _ _ (or_right _ _ (or_right _ _ n)) w)
takes_by has true s _ n w = never (sym w)
takes_by has false s _ n w = never (sym w)

shared_wish : (r : Bool) (s : Status) → wants_takable r attr.AcquireShared s ≡ not (is_free s)
shared_wish true s = refl
shared_wish false s = refl

try_wish : (r : Bool) (s : Status) → wants_takable r attr.TryAcquire s ≡ not (is_free s)
try_wish true s = refl
try_wish false s = refl

try_shared_wish : (r : Bool) (s : Status) → wants_takable r attr.TryAcquireShared s ≡ not (is_free s)
try_shared_wish true s = refl
try_shared_wish false s = refl

taking : (has : AttrKind → Bool) (attrs : List Attr) (c : Way) (r : Bool) (s : Status) → Named has attrs c → takes has r s ≡ wanted_by (λ k. wants_takable r k s) c attrs
taking has attrs c r s tells = agree (takes has r s) (wanted_by (λ k. wants_takable r k s) c attrs) back (λ e. there (wanted_kind has (λ k. wants_takable r k s) attrs c tells e))
  where
    there : (k : AttrKind) × ((has k ≡ true) × (wants_takable r k s ≡ true)) → takes has r s ≡ true
    there (k, (n, w)) = takes_by has r s k n w

    grant : (k : AttrKind) → has k ≡ true → wants_takable r k s ≡ true → wanted_by (λ k. wants_takable r k s) c attrs ≡ true
    grant k n w = granted_kind has (λ k. wants_takable r k s) attrs c tells k n w

    others : not (is_free s) ≡ true → takes_otherwise has ≡ true → wanted_by (λ k. wants_takable r k s) c attrs ≡ true
    others w e = elim (or_cases _ _ e) [ inl h ↦ grant attr.AcquireShared h (shared_wish r s ∙ w) | inr h ↦ elim (or_cases _ _ h) [ inl g ↦ grant attr.TryAcquire g (try_wish r s ∙ w) | inr g ↦ grant attr.TryAcquireShared g (try_shared_wish r s ∙ w) ] ]

    back : takes has r s ≡ true → wanted_by (λ k. wants_takable r k s) c attrs ≡ true
    back e = elim (or_cases (has attr.Acquire && wants_takable r attr.Acquire s) (takes_otherwise has && not (is_free s)) e) [ inl h ↦ grant attr.Acquire (left_part (has attr.Acquire) (wants_takable r attr.Acquire s) h) (right_part (has attr.Acquire) (wants_takable r attr.Acquire s) h) | inr h ↦ others (right_part (takes_otherwise has) (not (is_free s)) h) (left_part (takes_otherwise has) (not (is_free s)) h) ]

-- what is given back
abbrev gives : (AttrKind → Bool) → Status → Bool
gives has s = (has attr.Release || (has attr.ReleaseShared || has attr.ReleaseGeneric)) && is_unheld s

gives_by : (has : AttrKind → Bool) (s : Status) (k : AttrKind) → has k ≡ true → wants_release k s ≡ true → gives has s ≡ true
gives_by has s attr.Release n w = both _ _ (or_left _ _ n) w
gives_by has s attr.ReleaseShared n w = both _ _ (or_right _ _ (or_left _ _ n)) w
gives_by has s attr.ReleaseGeneric n w = both _ _ (or_right _ _ (or_right _ _ n)) w
gives_by has s _ n w = never (sym w)

giving : (has : AttrKind → Bool) (attrs : List Attr) (c : Way) (s : Status) → Named has attrs c → gives has s ≡ wanted_by (λ k. wants_release k s) c attrs
giving has attrs c s tells = agree (gives has s) (wanted_by (λ k. wants_release k s) c attrs) (λ e. back (right_part _ _ e) (left_part _ _ e)) (λ e. there (wanted_kind has (λ k. wants_release k s) attrs c tells e))
  where
    there : (k : AttrKind) × ((has k ≡ true) × (wants_release k s ≡ true)) → gives has s ≡ true
    there (k, (n, w)) = gives_by has s k n w

    grant : (k : AttrKind) → has k ≡ true → wants_release k s ≡ true → wanted_by (λ k. wants_release k s) c attrs ≡ true
    grant k n w = granted_kind has (λ k. wants_release k s) attrs c tells k n w

    back : is_unheld s ≡ true → (has attr.Release || (has attr.ReleaseShared || has attr.ReleaseGeneric)) ≡ true → wanted_by (λ k. wants_release k s) c attrs ≡ true
    back w e = elim (or_cases _ _ e) [ inl h ↦ grant attr.Release h w | inr h ↦ elim (or_cases _ _ h) [ inl g ↦ grant attr.ReleaseShared g w | inr g ↦ grant attr.ReleaseGeneric g w ] ]

-- the mode in which it is given back
abbrev otherwise : (AttrKind → Bool) → Status → Bool
otherwise has s =
    (has attr.Release && is_otherwise_held attr.Release s)
    || ((has attr.ReleaseShared && is_otherwise_held attr.ReleaseShared s) || (has attr.ReleaseGeneric && is_otherwise_held attr.ReleaseGeneric s))

otherwise_by : (has : AttrKind → Bool) (s : Status) (k : AttrKind) → has k ≡ true → is_otherwise_held k s ≡ true → otherwise has s ≡ true
otherwise_by has s attr.Release n w = or_left _ _ (both _ _ n w)
otherwise_by has s attr.ReleaseShared n w = or_right _ _ (or_left _ _ (both _ _ n w))
otherwise_by has s attr.ReleaseGeneric n w = or_right _ _ (or_right _ _ (both _ _ n w))
otherwise_by has s _ n w = never (sym w)

mode : (has : AttrKind → Bool) (attrs : List Attr) (c : Way) (s : Status) → Named has attrs c → otherwise has s ≡ wanted_by (λ k. is_otherwise_held k s) c attrs
mode has attrs c s tells = agree (otherwise has s) (wanted_by (λ k. is_otherwise_held k s) c attrs) back (λ e. there (wanted_kind has (λ k. is_otherwise_held k s) attrs c tells e))
  where
    there : (k : AttrKind) × ((has k ≡ true) × (is_otherwise_held k s ≡ true)) → otherwise has s ≡ true
    there (k, (n, w)) = otherwise_by has s k n w

    grant : (k : AttrKind) → (has k && is_otherwise_held k s) ≡ true → wanted_by (λ k. is_otherwise_held k s) c attrs ≡ true
    grant k e = granted_kind has (λ k. is_otherwise_held k s) attrs c tells k (left_part (has k) (is_otherwise_held k s) e) (right_part (has k) (is_otherwise_held k s) e)

    back : otherwise has s ≡ true → wanted_by (λ k. is_otherwise_held k s) c attrs ≡ true
    back e = elim (or_cases _ _ e) [ inl h ↦ grant attr.Release h | inr h ↦ elim (or_cases _ _ h) [ inl g ↦ grant attr.ReleaseShared g | inr g ↦ grant attr.ReleaseGeneric g ] ]

-- what leaves
tests_stay : (u : Program) (f : Function) (k : Option Condition) → is_leaving_in (tests_by u f k) ≡ false
tests_stay u f None = refl
tests_stay u f (Some k) = refl

leaving : (u : Program) (f : Function) (b : Bool) (action : Action) → is_leaving_in (role_by u f b action) ≡ is_leaving action
leaving u f true (declare n kind value) = refl
leaving u f false (declare n kind value) = refl
leaving u f b (test value) = tests_stay u f (condition_in value)
leaving u f b (give kind value) = refl
leaving u f b (evaluate value) = refl
leaving u f b (set_local n op kind value) = refl
leaving u f b (set_cell place op kind value) = refl
leaving u f b (branch value) = refl
leaving u f b go_on = refl

left_same : (a b : Bool) (s t x y : Status) → a ≡ b → s ≡ t → x ≡ y → (a && not (same_status s x)) ≡ (b && not (same_status t y))
left_same a b s t x y e h k = rw (e, h, k) refl

tells_at : (u : Program) (f : Function) (p : ℕ) (c : Way) → Named (has_kind (kinds_of (attrs_at u f p) c)) (attrs_at u f p) c
tells_at u f p c k = marks_tell_kinds (attrs_at u f p) c k

pub failures : (rule : Rule) (u : Program) (f : Function) (p : ℕ) (c : Way) (s : Status) → fails_in rule (case_of u f p c) s ≡ fails rule u f p c s
failures TS01 u f p c s = ap (λ t. (reads_under c (uses_at f p).right && is_unheld s) || (reads_under c (uses_at f p).left && is_unheld t)) (effects u f p c Next s)
failures TS02 u f p c s = ap (λ t. writes_under c (uses_at f p).left && not (is_exclusive t)) (effects u f p c Next s)
failures TS03 u f p c s = one_kind (has_kind (kinds_of (attrs_at u f p) c)) (λ k. wants_exclusive k s) (attrs_at u f p) c attr.Requires (tells_at u f p c) (only_exclusive s)
failures TS04 u f p c s = one_kind (has_kind (kinds_of (attrs_at u f p) c)) (λ k. wants_held k s) (attrs_at u f p) c attr.RequiresShared (tells_at u f p c) (only_held s)
failures TS05 u f p c s = one_kind (has_kind (kinds_of (attrs_at u f p) c)) (λ k. wants_free k s) (attrs_at u f p) c attr.Excludes (tells_at u f p c) (only_free s)
failures TS06 u f p c s = taking (has_kind (kinds_of (attrs_at u f p) c)) (attrs_at u f p) c (is_reentrant u f c) s (tells_at u f p c)
failures TS07 u f p c s = giving (has_kind (kinds_of (attrs_at u f p) c)) (attrs_at u f p) c s (tells_at u f p c)
failures TS08 u f p c s = mode (has_kind (kinds_of (attrs_at u f p) c)) (attrs_at u f p) c s (tells_at u f p c)
failures TS09 u f p c s =
    left_same (is_leaving_in (case_of u f p c).role) (is_leaving (point_at f p).action) (later_in (case_of u f p c) s) (later u f p c s) (exit_in (case_of u f p c)) (exit f p c)
    (leaving u f (is_a_try u (point_at f p).call) (point_at f p).action) (effects u f p c Next s) (exits u f p c)
failures TS10 u f p c s = refl
failures TS11 u f p c s = refl
failures TS12 u f p c s = refl

pub cases_tell_the_rules : CasesTellTheRules
cases_tell_the_rules = record { entries = entries; exits = exits; effects = effects; failures = failures }

pub fails_is : (rule : Rule) (u : Program) (f : Function) (p : ℕ) (c : Way) (x : Case) (s : Status) (b : Bool) → b ≡ fails_in rule x s → x ≡ case_of u f p c
    → b ≡ fails rule u f p c s
fails_is rule u f p c x s b h e = h ∙ (ap (λ y. fails_in rule y s) e ∙ failures rule u f p c s)
