-- The case of a path at a point tells the statuses before and after it.
use Rattle.std.proofs.Common.{◌≡◌, ℕ, Bool, true, false, not, Option, Some, None, option_map, refl, sym, ap, ◌∙◌}
use Rattle.tsa_tree.specs.declared.attr.AttrKind.{AttrKind}
use Rattle.tsa_tree.specs.declared.attr.AttrKind.TheVariants as attr
use Rattle.tsa_place_model.specs.Ways.{Way}
use Rattle.tsa_core.specs.Bodies.{Action, evaluate, set_local, set_cell, declare, test, branch, go_on, give}
use Rattle.tsa_core.specs.Control.{Outcome, Next, Yes, No, Rest, Chosen}
use Rattle.tsa_core.specs.Programs.{Attr, Function, Program}
use Rattle.tsa_rules.specs.declared.case.Case.{Case}
use Rattle.tsa_rules.specs.declared.case.Lock.{Lock}
use Rattle.tsa_rules.specs.declared.case.Test.{Test}
use Rattle.tsa_rules.specs.Statuses.{Status, Shared, Exclusive}
use Rattle.tsa_rules.specs.Attributes.{is_try, kind_of, claim, claims_path, is_reentrant}
use Rattle.tsa_rules.specs.Conditions.{Subject, the_call, the_local, Condition, condition_in, condition_at, answer_by}
use Rattle.tsa_rules.specs.Points.{point_at, uses_at, attrs_called, attrs_at, is_a_try, try_number, try_kept}
use Rattle.tsa_rules.specs.Effects.{entry_by, entry, exit_by, exit_with, exit, answer_given, after_attempt, is_success, Attempt, attempt_of}
use Rattle.tsa_rules.specs.Effects.{answer_of_call, of_call, attempt_at, after_attribute, after_claim, left_by_try, after_decision}
use Rattle.tsa_rules.specs.Effects.{after_asking, after_test, effect}
use Rattle.tsa_rules.specs.Marks.{claim_in, claim_kind}
use Rattle.tsa_rules.specs.Cases.{lock_of, asked_by, tests_by, role_by, role_of, kept_for, kept_by, case_of, entry_in, answer_in}
use Rattle.tsa_rules.specs.Cases.{is_taken_in, exit_in, answer_told, of_the_call, attempt_in, after_claim_in, left_by_claim, after_asked}
use Rattle.tsa_rules.specs.Cases.{after_role, effect_in}
use Rattle.tsa_rules.proofs.Tests.{never}
use Rattle.tsa_rules.proofs.Possible.{found, tries_called}

claimed_kind : (a : Option Attr) → claim_kind (option_map claim_in a) ≡ kind_of a
claimed_kind None = refl
claimed_kind (Some a) = refl

pub entries : (u : Program) (f : Function) (c : Way) → entry_in (lock_of u f c) ≡ entry f c
entries u f c = ap entry_by (claimed_kind (claim f.attrs c))

-- the exit
tested_answer : (u : Program) (f : Function) (k : Option Condition) → answer_in (tests_by u f k) ≡ None
tested_answer u f None = refl
tested_answer u f (Some k) = refl

answers : (u : Program) (f : Function) (b : Bool) (action : Action) → answer_in (role_by u f b action) ≡ answer_given action
answers u f true (declare n kind value) = refl
answers u f false (declare n kind value) = refl
answers u f b (test value) = tested_answer u f (condition_in value)
answers u f b (give kind value) = refl
answers u f b (evaluate value) = refl
answers u f b (set_local n op kind value) = refl
answers u f b (set_cell place op kind value) = refl
answers u f b (branch value) = refl
answers u f b go_on = refl

exit_same : (x y : Option Bool) → x ≡ y → (a : Option Attr) → exit_by (is_taken_in x (option_map claim_in a)) (claim_kind (option_map claim_in a)) ≡ exit_with y a
exit_same x y e None = refl
exit_same x y e (Some a) = ap (λ z. exit_by (is_success a.success z) (Some a.kind)) e

pub exits : (u : Program) (f : Function) (p : ℕ) (c : Way) → exit_in (case_of u f p c) ≡ exit f p c
exits u f p c =
    exit_same (answer_in (role_of u f p)) (answer_given (point_at f p).action) (answers u f (is_a_try u (point_at f p).call) (point_at f p).action) (claim f.attrs c)

-- what a test tells
told : (o : Outcome) (k : Condition) (t : Test) → t.yes_means ≡ k.yes_means → answer_told o t ≡ answer_by o k
told Yes k t e = ap Some e
told No k t e = ap (λ b. Some (not b)) e
told Next k t e = refl
told Rest k t e = refl
told (Chosen z) k t e = refl

left : (a : Option Attr) (answer : Bool) → left_by_claim (option_map claim_in a) answer ≡ left_by_try a answer
left None answer = refl
left (Some a) answer = refl

asked : (u : Program) (f : Function) (c : Way) (subject : Subject) (answer : Option Bool) (s : Status)
    → after_asked (asked_by u f subject) (kept_for u f c subject) answer s ≡ after_asking u f c subject answer s
asked u f c the_call answer s = refl
asked u f c (the_local n) None s = refl
asked u f c (the_local n) (Some answer) s = ap (λ after. after_decision (try_number u f n) after s) (left (try_kept u f n c) answer)

tested : (u : Program) (f : Function) (c : Way) (k : Option Condition) (o : Outcome) (s : Status)
    → after_role (tests_by u f k) (kept_by u f c k) o s ≡ after_test u f c o k s
tested u f c None o s = refl
tested u f c (Some k) o s =
    ap (λ answer. after_asked (asked_by u f k.subject) (kept_for u f c k.subject) answer s) (told o k (record { asked = asked_by u f k.subject; yes_means = k.yes_means }) refl)
    ∙ asked u f c k.subject (answer_by o k) s

roles : (u : Program) (f : Function) (c : Way) (b : Bool) (action : Action) (o : Outcome) (s : Status)
    → after_role (role_by u f b action) (kept_by u f c (condition_at action)) o s ≡ after_test u f c o (condition_at action) s
roles u f c true (declare n kind value) o s = refl
roles u f c false (declare n kind value) o s = refl
roles u f c b (test value) o s = tested u f c (condition_in value) o s
roles u f c b (give kind value) o s = refl
roles u f c b (evaluate value) o s = refl
roles u f c b (set_local n op kind value) o s = refl
roles u f c b (set_cell place op kind value) o s = refl
roles u f c b (branch value) o s = refl
roles u f c b go_on o s = refl

-- what comes of a try
of_subject : (u : Program) (f : Function) (subject : Subject) (answer : Option Bool) → of_the_call (asked_by u f subject) answer ≡ of_call subject answer
of_subject u f the_call answer = refl
of_subject u f (the_local n) answer = refl

tested_attempt : (u : Program) (f : Function) (k : Option Condition) (o : Outcome) (a : Attr)
    → attempt_in (tests_by u f k) o a.success ≡ attempt_of (is_success a.success (answer_of_call o k))
tested_attempt u f None o a = refl
tested_attempt u f (Some k) o a =
    ap (λ answer. attempt_of (is_success a.success answer))
    (ap (of_the_call (asked_by u f k.subject)) (told o k (record { asked = asked_by u f k.subject; yes_means = k.yes_means }) refl) ∙ of_subject u f k.subject (answer_by o k))

attempts : (u : Program) (f : Function) (b : Bool) (action : Action) (o : Outcome) (a : Attr) → b ≡ true → attempt_in (role_by u f b action) o a.success ≡ attempt_at u f action o a
attempts u f true (declare n kind value) o a e = refl
attempts u f false (declare n kind value) o a e = never (sym e)
attempts u f b (test value) o a e = tested_attempt u f (condition_in value) o a
attempts u f b (give kind value) o a e = refl
attempts u f b (evaluate value) o a e = refl
attempts u f b (set_local n op kind value) o a e = refl
attempts u f b (set_cell place op kind value) o a e = refl
attempts u f b (branch value) o a e = refl
attempts u f b go_on o a e = refl

-- only a try asks what comes of it
alone : (r : Bool) (t v : Attempt) (kind : AttrKind) (s : Status) → (is_try kind ≡ true → t ≡ v) → after_attribute r t kind s ≡ after_attribute r v kind s
alone r t v attr.TryAcquire s e = ap (λ x. after_attempt x (Exclusive 1) s) (e refl)
alone r t v attr.TryAcquireShared s e = ap (λ x. after_attempt x Shared s) (e refl)
alone true t v attr.Acquire s e = refl
alone false t v attr.Acquire s e = refl
alone true t v _ s e = refl
alone false t v _ s e = refl

tries : (u : Program) (f : Function) (p : ℕ) (c : Way) (a : Attr) → claim (attrs_at u f p) c ≡ Some a → is_try a.kind ≡ true → is_a_try u (point_at f p).call ≡ true
tries u f p c a e t =
    sym (tries_called (uses_at f p).arguments (attrs_called u (point_at f p).call)) ∙ found (claims_path c) (λ b. is_try b.kind) (attrs_at u f p) a e t

called : (u : Program) (f : Function) (p : ℕ) (c : Way) (o : Outcome) (a : Option Attr) (s : Status) → claim (attrs_at u f p) c ≡ a
    → after_claim_in (case_of u f p c) o (option_map claim_in a) s ≡ after_claim u f p c o a s
called u f p c o None s e = refl
called u f p c o (Some a) s e =
    alone (is_reentrant u f c) (attempt_in (role_of u f p) o a.success) (attempt_at u f (point_at f p).action o a) a.kind s
    (λ t. attempts u f (is_a_try u (point_at f p).call) (point_at f p).action o a (tries u f p c a e t))

pub effects : (u : Program) (f : Function) (p : ℕ) (c : Way) (o : Outcome) (s : Status) → effect_in (case_of u f p c) o s ≡ effect u f p c o s
effects u f p c o s =
    roles u f c (is_a_try u (point_at f p).call) (point_at f p).action o (after_claim_in (case_of u f p c) o (option_map claim_in (claim (attrs_at u f p) c)) s)
    ∙ ap (after_test u f c o (condition_at (point_at f p).action)) (called u f p c o (claim (attrs_at u f p) c) s refl)

-- the same of what is worked out of a case
pub entry_is : (u : Program) (f : Function) (c : Way) (x : Lock) (s : Status) → s ≡ entry_in x → x ≡ lock_of u f c → s ≡ entry f c
entry_is u f c x s h e = h ∙ (ap entry_in e ∙ entries u f c)

pub effect_is : (u : Program) (f : Function) (p : ℕ) (c : Way) (x : Case) (o : Outcome) (before s : Status) → s ≡ effect_in x o before → x ≡ case_of u f p c
    → s ≡ effect u f p c o before
effect_is u f p c x o before s h e = h ∙ (ap (λ y. effect_in y o before) e ∙ effects u f p c o before)

pub exit_is : (u : Program) (f : Function) (p : ℕ) (c : Way) (x : Case) (s : Status) → s ≡ exit_in x → x ≡ case_of u f p c → s ≡ exit f p c
exit_is u f p c x s h e = h ∙ (ap exit_in e ∙ exits u f p c)
