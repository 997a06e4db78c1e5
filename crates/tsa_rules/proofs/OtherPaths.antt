-- A path that a function doesn't name is free at each of its points, and breaks no rule there.
use Rattle.std.proofs.Common.{◌≡◌, ℕ, Bool, true, false, not, ◌&&◌, ◌||◌, List, [], ◌∷◌, Option, Some, None, refl, sym, ◌∙◌, ap}
use Rattle.std.proofs.lemmas.List.Folds.{list_any-append}
use Rattle.std.specs.List.{list_any}
use Rattle.tsa_tree.specs.declared.attr.AttrKind.{AttrKind}
use Rattle.tsa_place_model.specs.Ways.{Way}
use Rattle.tsa_core.specs.Control.{Outcome, Next}
use Rattle.tsa_core.specs.Programs.{Attr, Function, Program}
use Rattle.tsa_core.specs.Uses.{Access}
use Rattle.tsa_rules.specs.Statuses.{Status, Free, is_unheld, is_exclusive}
use Rattle.tsa_rules.specs.Attributes.{names, claims, claims_path, claim, claim_count, is_reentrant}
use Rattle.tsa_rules.specs.Conditions.{Subject, the_call, the_local, Condition, condition_at, answer_by}
use Rattle.tsa_rules.specs.Points.{point_at, uses_at, attrs_at, local_begun, is_guarded_by, is_read_under, is_write_under, reads_under}
use Rattle.tsa_rules.specs.Points.{writes_under, is_leaving}
use Rattle.tsa_rules.specs.Effects.{entry, exit, after_claim, after_call, after_asking, after_test, effect, later}
use Rattle.tsa_rules.specs.Fails.{Rule, TS01, TS02, TS03, TS04, TS05, TS06, TS07, TS08, TS09, TS10, TS11, TS12, breaks_attribute}
use Rattle.tsa_rules.specs.Fails.{wants_exclusive, wants_held, wants_free, wants_takable, wants_release, is_otherwise_held, is_mentioned}
use Rattle.tsa_rules.specs.Fails.{fails}
use Rattle.tsa_rules.specs.Walks.{course_of, Edge, IsWalk, LeadsTo, along, Reach, on_a_walk, where_edges_meet}
use Rattle.tsa_rules.specs.StatusLaws.{IsUnnamed, RulesSpeakOfNamedPaths}
use Rattle.tsa_rules.proofs.Tests.{never, neither}
use Rattle.tsa_rules.proofs.EdgeInduction.{carried}

and_false : (a b : Bool) → b ≡ false → (a && b) ≡ false
and_false true b e = e
and_false false b e = refl

if_false : (a b : Bool) → a ≡ false → (a && b) ≡ false
if_false true b e = never e
if_false false b e = refl

or_false : (a b : Bool) → a ≡ false → b ≡ false → (a || b) ≡ false
or_false true b e f = e
or_false false b e f = f

-- where a test passes only what another passes, it passes nothing where that doesn't
pub fewer_pass : {X : Type 0} (one all : X → Bool) → ((x : X) → all x ≡ false → one x ≡ false) → (xs : List X) → list_any all xs ≡ false → list_any one xs ≡ false
fewer_pass one all law [] e = refl
fewer_pass one all law (x ∷ xs) e =
    let both = neither (all x) (list_any all xs) e in
    or_false (one x) (list_any one xs) (law x both.0) (fewer_pass one all law xs both.1)

unclaimed : (attrs : List Attr) (c : Way) → list_any (names c) attrs ≡ false → claim attrs c ≡ None
unclaimed [] c e = refl
unclaimed (a ∷ attrs) c e =
    let both = neither (names c a) (list_any (names c) attrs) e in
    let other : claims_path c a ≡ false = and_false (claims a.kind) (names c a) both.0 in
    rw other (unclaimed attrs c both.1)

none_claimed : (attrs : List Attr) (c : Way) → list_any (names c) attrs ≡ false → claim_count attrs c ≡ 0
none_claimed [] c e = refl
none_claimed (a ∷ attrs) c e =
    let both = neither (names c a) (list_any (names c) attrs) e in
    let other : claims_path c a ≡ false = and_false (claims a.kind) (names c a) both.0 in
    rw other (none_claimed attrs c both.1)

-- The status.
told_free : (u : Program) (f : Function) (c : Way) (subject : Subject) (answer : Option Bool) → after_asking u f c subject answer Free ≡ Free
told_free u f c the_call answer = refl
told_free u f c (the_local n) None = refl
told_free u f c (the_local n) (Some answer) = refl

tested_free : (u : Program) (f : Function) (c : Way) (o : Outcome) (k : Option Condition) → after_test u f c o k Free ≡ Free
tested_free u f c o None = refl
tested_free u f c o (Some k) = told_free u f c k.subject (answer_by o k)

called_free : (u : Program) (f : Function) (p : ℕ) (c : Way) (o : Outcome) → list_any (names c) (attrs_at u f p) ≡ false → after_call u f p c o Free ≡ Free
called_free u f p c o e = ap (λ a. after_claim u f p c o a Free) (unclaimed (attrs_at u f p) c e)

stays_free : (u : Program) (f : Function) (p : ℕ) (c : Way) (o : Outcome) → IsUnnamed u f c → effect u f p c o Free ≡ Free
stays_free u f p c o h =
    ap (after_test u f c o (condition_at (point_at f p).action)) (called_free u f p c o (h.called p)) ∙ tested_free u f c o (condition_at (point_at f p).action)

entry_free : (u : Program) (f : Function) (c : Way) → IsUnnamed u f c → entry f c ≡ Free
entry_free u f c h = rw (unclaimed f.attrs c h.own) refl

exit_free : (u : Program) (f : Function) (p : ℕ) (c : Way) → IsUnnamed u f c → exit f p c ≡ Free
exit_free u f p c h = rw (unclaimed f.attrs c h.own) refl

is_free_along : (u : Program) (f : Function) (c : Way) → IsUnnamed u f c → (e : Edge) (before : List Edge) (q : ℕ) → IsWalk (course_of u f c) e before
    → LeadsTo (course_of u f c) e q → along (course_of u f c) e before ≡ Free
is_free_along u f c h =
    carried (course_of u f c) (λ p s. s ≡ Free) (entry_free u f c h) (λ p q o s leads free. ap (λ t. effect u f p c o t) free ∙ stays_free u f p c o h)

is_free_at : (u : Program) (f : Function) (c : Way) → IsUnnamed u f c → (e : Edge) (p : ℕ) (s : Status) → Reach (course_of u f c) e p s → s ≡ Free
is_free_at u f c h e p s r = sym r.brings ∙ is_free_along u f c h e r.before p r.is_walk r.leads

-- The rules.
no_accesses : (u : Program) (f : Function) (c : Way) → IsUnnamed u f c → (p : ℕ)
    → (list_any (is_guarded_by c) (uses_at f p).left ≡ false) × (list_any (is_guarded_by c) (uses_at f p).right ≡ false)
no_accesses u f c h p =
    neither (list_any (is_guarded_by c) (uses_at f p).left) (list_any (is_guarded_by c) (uses_at f p).right)
    (sym (list_any-append (is_guarded_by c) (uses_at f p).left (uses_at f p).right) ∙ h.guarding p)

no_reads : (c : Way) (accesses : List Access) → list_any (is_guarded_by c) accesses ≡ false → reads_under c accesses ≡ false
no_reads c accesses e = fewer_pass (is_read_under c) (is_guarded_by c) (λ a. and_false (not a.is_write) (is_guarded_by c a)) accesses e

no_writes : (c : Way) (accesses : List Access) → list_any (is_guarded_by c) accesses ≡ false → writes_under c accesses ≡ false
no_writes c accesses e = fewer_pass (is_write_under c) (is_guarded_by c) (λ a. and_false a.is_write (is_guarded_by c a)) accesses e

no_call : (wants : AttrKind → Status → Bool) (u : Program) (f : Function) (p : ℕ) (c : Way) (s : Status) → list_any (names c) (attrs_at u f p) ≡ false
    → list_any (breaks_attribute wants c s) (attrs_at u f p) ≡ false
no_call wants u f p c s e = fewer_pass (breaks_attribute wants c s) (names c) (λ a. if_false (names c a) (wants a.kind s)) (attrs_at u f p) e

breaks_none : (u : Program) (f : Function) (c : Way) → IsUnnamed u f c → (rule : Rule) (p : ℕ) → fails rule u f p c Free ≡ false
breaks_none u f c h TS01 p =
    or_false (reads_under c (uses_at f p).right && is_unheld Free) (reads_under c (uses_at f p).left && is_unheld (later u f p c Free))
    (if_false (reads_under c (uses_at f p).right) (is_unheld Free) (no_reads c (uses_at f p).right (no_accesses u f c h p).1))
    (if_false (reads_under c (uses_at f p).left) (is_unheld (later u f p c Free)) (no_reads c (uses_at f p).left (no_accesses u f c h p).0))
breaks_none u f c h TS02 p =
    if_false (writes_under c (uses_at f p).left) (not (is_exclusive (later u f p c Free))) (no_writes c (uses_at f p).left (no_accesses u f c h p).0)
breaks_none u f c h TS03 p = no_call wants_exclusive u f p c Free (h.called p)
breaks_none u f c h TS04 p = no_call wants_held u f p c Free (h.called p)
breaks_none u f c h TS05 p = no_call wants_free u f p c Free (h.called p)
breaks_none u f c h TS06 p = no_call (wants_takable (is_reentrant u f c)) u f p c Free (h.called p)
breaks_none u f c h TS07 p = no_call wants_release u f p c Free (h.called p)
breaks_none u f c h TS08 p = no_call is_otherwise_held u f p c Free (h.called p)
breaks_none u f c h TS09 p = rw (stays_free u f p c Next h, exit_free u f p c h) (and_false (is_leaving (point_at f p).action) false refl)
breaks_none u f c h TS10 p = refl
breaks_none u f c h TS11 p = rw (none_claimed (attrs_at u f p) c (h.called p)) refl
breaks_none u f c h TS12 p = and_false (is_mentioned (local_begun (point_at f p).action) c) false refl

pub rules_speak_of_named_paths : RulesSpeakOfNamedPaths
rules_speak_of_named_paths u f c h rule p (on_a_walk r e s reach broken) =
    never (sym broken ∙ (ap (λ t. fails rule u f p c t) (is_free_at u f c h e p s reach) ∙ breaks_none u f c h rule p))
rules_speak_of_named_paths u f c h rule p (where_edges_meet d e s reach other differ) =
    differ (record {
      leads = other.leads;
      before = other.before;
      is_walk = other.is_walk;
      brings = is_free_along u f c h e other.before p other.is_walk other.leads ∙ sym (is_free_at u f c h d p s reach);
    })
