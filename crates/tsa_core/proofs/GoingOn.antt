-- Every point goes on for each outcome that it may have, but for the values that a switch doesn't name.
use Rattle.std.proofs.Common.{◌≡◌, ◌∙◌, ℕ, zero, suc, ◌+◌, arith, Bool, true, false, ◌||◌, List, [], ◌∷◌, ◌++◌, find, length, slice_get}
use Rattle.std.proofs.Common.{Option, Some, None, option_map, is_some, if◌then◌else◌, refl, ap, subst}
use Rattle.std.proofs.lemmas.List.Folds.{list_any-append}
use Rattle.std.specs.List.{list_any}
use Rattle.tsa_tree.specs.declared.number.Number.{Number}
use Rattle.tsa_tree.specs.expressions.Syntax.{Expression}
use Rattle.tsa_tree.specs.points.Syntax.{declares, evaluates, assigns, tests, switches, jumps, idles, returns, ends, points_of_init}
use Rattle.tsa_tree.specs.points.Syntax.{points_of_step}
use Rattle.tsa_tree.specs.statements.Syntax.{Simple, evaluation, assignment, ForInit, no_init, simple_init, local_init, Statement, block}
use Rattle.tsa_tree.specs.statements.Syntax.{empty, local, simple, if_alone, if_else, while_loop, do_loop, for_loop, switch, case}
use Rattle.tsa_tree.specs.statements.Syntax.{otherwise, label, break, continue, goto, return, Statements, none, more}
use Rattle.tsa_tree.specs.types.Arithmetic.{is_nonzero}
use Rattle.tsa_tree.specs.types.Scopes.{Scope, further}
use Rattle.tsa_tree.specs.types.Statements.{behind, behind_init}
use Rattle.tsa_tree.specs.types.Targets.{declared_in}
use Rattle.tsa_core.specs.Bodies.{Known, knows, known_init, known_step, known, known_all}
use Rattle.tsa_core.specs.Control.{Outcome, Next, Yes, No, Rest, Chosen, Edge, edge, count, first, first_all, test_at, step_at, inner_at}
use Rattle.tsa_core.specs.Control.{again_at, Cases, cases, Targets, in_loop, in_switch, label_at, test_edges, tested_edges, for_edges}
use Rattle.tsa_core.specs.Control.{step_edges, case_edges, switch_edges, edges, edges_all, count_all, body_targets, body_edges, leaves_by}
use Rattle.tsa_core.specs.Laws.{is_told, test_value, goes, is_next, is_chosen, PointsGoOn}
use Rattle.tsa_core.proofs.EdgeOutcomes.{init_count, step_count}
use Rattle.tsa_core.proofs.TextPoints.{known_count}
use Rattle.tsa_core.proofs.TypedTerms.{some_same}
use Rattle.tsa_base.proofs.Numbers.{itself}

-- the point of a number goes on by some edges
abbrev pub Goes : List Edge → ℕ → Known → Type 0
Goes es n k = (o : Outcome) → goes k o ≡ true → is_chosen o ≡ false → list_any (leaves_by n o) es ≡ true

-- those that have numbers from one on
abbrev pub GoOn : List Edge → List Known → ℕ → Type 0
GoOn es [] at = Unit {0}
GoOn es (k ∷ ks) at = Goes es at k × GoOn es ks (suc at)

true_or : (b : Bool) → (b || true) ≡ true
true_or true = refl
true_or false = refl

any_left : {A : Type 0} (p : A → Bool) (xs ys : List A) → list_any p xs ≡ true → list_any p (xs ++ ys) ≡ true
any_left p xs ys h = list_any-append p xs ys ∙ ap (λ b. b || list_any p ys) h

any_right : {A : Type 0} (p : A → Bool) (xs ys : List A) → list_any p ys ≡ true → list_any p (xs ++ ys) ≡ true
any_right p xs ys h = list_any-append p xs ys ∙ (ap (λ b. list_any p xs || b) h ∙ true_or (list_any p xs))

goes_left : (es fs : List Edge) (n : ℕ) (k : Known) → Goes es n k → Goes (es ++ fs) n k
goes_left es fs n k h o may other = any_left (leaves_by n o) es fs (h o may other)

left : (es fs : List Edge) (ks : List Known) (at : ℕ) → GoOn es ks at → GoOn (es ++ fs) ks at
left es fs [] at h = tt
left es fs (k ∷ ks) at h = (goes_left es fs at k h.0, left es fs ks (suc at) h.1)

right : (es fs : List Edge) (ks : List Known) (at : ℕ) → GoOn fs ks at → GoOn (es ++ fs) ks at
right es fs [] at h = tt
right es fs (k ∷ ks) at h = ((λ o may other. any_right (leaves_by at o) es fs (h.0 o may other)), right es fs ks (suc at) h.1)

-- some points before others
together : (es : List Edge) (ks js : List Known) (at n : ℕ) → n ≡ at + length ks → GoOn es ks at → GoOn es js n → GoOn es (ks ++ js) at
together es [] js at n same h g = let same' : n ≡ at = omega (arith, same) in subst (λ m. GoOn es js m) same' g
together es (k ∷ ks) js at n same h g = (h.0, together es ks js (suc at) n (omega (arith, same)) h.1 g)

-- the first edge leads on, or one behind it
leads_first : (p : Edge → Bool) (e : Edge) (es : List Edge) → p e ≡ true → list_any p (e ∷ es) ≡ true
leads_first p e es is = rw is refl

leads_second : (p : Edge → Bool) (e f : Edge) (es : List Edge) → p f ≡ true → list_any p (e ∷ f ∷ es) ≡ true
leads_second p e f es is = any_right p (e ∷ []) (f ∷ es) (leads_first p f es is)

by_next : (n to : ℕ) → leaves_by n Next (edge n Next to) ≡ true
by_next n to = rw (itself n) refl

by_yes : (n to : ℕ) → leaves_by n Yes (edge n Yes to) ≡ true
by_yes n to = rw (itself n) refl

by_no : (n to : ℕ) → leaves_by n No (edge n No to) ≡ true
by_no n to = rw (itself n) refl

by_rest : (n to : ℕ) → leaves_by n Rest (edge n Rest to) ≡ true
by_rest n to = rw (itself n) refl

-- a point that goes on with no choice
next_leads : (n to : ℕ) (o : Outcome) → is_next o ≡ true → list_any (leaves_by n o) (edge n Next to ∷ []) ≡ true
next_leads n to Next is = leads_first (leaves_by n Next) (edge n Next to) [] (by_next n to)
next_leads n to Yes is = cc
next_leads n to No is = cc
next_leads n to Rest is = cc
next_leads n to (Chosen z) is = cc

goes_next : (k : Known) (n to : ℕ) → ((o : Outcome) → goes k o ≡ is_next o) → GoOn (edge n Next to ∷ []) (k ∷ []) n
goes_next k n to same = ((λ o may other. next_leads n to o (subst (λ b. b ≡ true) (same o) may)), tt)

-- A test.
abbrev Tells : Option Number → ℕ → List Edge → Outcome → Type 0
Tells v n es o = is_told v o ≡ true → list_any (leaves_by n o) es ≡ true

constant_leads : (b : Bool) (v : Number) (n yes_to no_to : ℕ) (o : Outcome) → is_nonzero v ≡ b
    → Tells (Some v) n (if b then edge n Yes yes_to ∷ [] else edge n No no_to ∷ []) o
constant_leads true v n yes_to no_to Yes is may = leads_first (leaves_by n Yes) (edge n Yes yes_to) [] (by_yes n yes_to)
constant_leads true v n yes_to no_to No is may = let never : false ≡ true = rw is at may in cc
constant_leads true v n yes_to no_to Next is may = cc
constant_leads true v n yes_to no_to Rest is may = cc
constant_leads true v n yes_to no_to (Chosen z) is may = cc
constant_leads false v n yes_to no_to Yes is may = let never : false ≡ true = rw is at may in cc
constant_leads false v n yes_to no_to No is may = leads_first (leaves_by n No) (edge n No no_to) [] (by_no n no_to)
constant_leads false v n yes_to no_to Next is may = cc
constant_leads false v n yes_to no_to Rest is may = cc
constant_leads false v n yes_to no_to (Chosen z) is may = cc

test_leads : (v : Option Number) (n yes_to no_to : ℕ) (o : Outcome) → Tells v n (test_edges v n yes_to no_to) o
test_leads None n yes_to no_to Yes may = leads_first (leaves_by n Yes) (edge n Yes yes_to) (edge n No no_to ∷ []) (by_yes n yes_to)
test_leads None n yes_to no_to No may = leads_second (leaves_by n No) (edge n Yes yes_to) (edge n No no_to) [] (by_no n no_to)
test_leads None n yes_to no_to Next may = cc
test_leads None n yes_to no_to Rest may = cc
test_leads None n yes_to no_to (Chosen z) may = cc
test_leads (Some v) n yes_to no_to o may = constant_leads (is_nonzero v) v n yes_to no_to o refl may

absent_leads : (here : Scope) (n yes_to : ℕ) (o : Outcome) → Tells (test_value here None) n (edge n Yes yes_to ∷ []) o
absent_leads here n yes_to Yes may = leads_first (leaves_by n Yes) (edge n Yes yes_to) [] (by_yes n yes_to)
absent_leads here n yes_to No may = cc
absent_leads here n yes_to Next may = cc
absent_leads here n yes_to Rest may = cc
absent_leads here n yes_to (Chosen z) may = cc

test_goes : (here : Scope) (test : Option Expression) (n yes_to no_to : ℕ) → Goes (for_edges here test n yes_to no_to) n (knows here (tests test))
test_goes here None n yes_to no_to o may other = absent_leads here n yes_to o may
test_goes here (Some e) n yes_to no_to o may other = test_leads (test_value here (Some e)) n yes_to no_to o may

-- The first part of a `for`, and its step.
init_goes : (here : Scope) (init : ForInit) (n to : ℕ) → GoOn (step_edges (length (points_of_init init)) n to) (known_init here init) n
init_goes here no_init n to = tt
init_goes here (simple_init (evaluation e span)) n to = goes_next (knows here (evaluates e)) n to (λ o. refl)
init_goes here (simple_init (assignment left op right span)) n to = goes_next (knows here (assigns left op right)) n to (λ o. refl)
init_goes here (local_init d) n to = goes_next (knows here (declares d)) n to (λ o. refl)

step_goes : (here : Scope) (step : Option Simple) (n to : ℕ) → GoOn (step_edges (length (points_of_step step)) n to) (known_step here step) n
step_goes here None n to = tt
step_goes here (Some (evaluation e span)) n to = goes_next (knows here (evaluates e)) n to (λ o. refl)
step_goes here (Some (assignment left op right span)) n to = goes_next (knows here (assigns left op right)) n to (λ o. refl)

-- A switch goes on for the rest: to its `default`, or behind itself.
rest_leads : (cs : Cases) (n follow : ℕ) → list_any (leaves_by n Rest) (switch_edges cs n follow) ≡ true
rest_leads [] n follow = leads_first (leaves_by n Rest) (edge n Rest follow) [] (by_rest n follow)
rest_leads ((None, to) ∷ rest) n follow =
    any_left (leaves_by n Rest) (case_edges n ((None, to) ∷ rest)) [] (leads_first (leaves_by n Rest) (edge n Rest to) (case_edges n rest) (by_rest n to))
rest_leads ((Some z, to) ∷ rest) n follow =
    any_right (leaves_by n Rest) (edge n (Chosen z) to ∷ []) (switch_edges rest n follow) (rest_leads rest n follow)

switch_goes : (here : Scope) (key : Expression) (cs : Cases) (n follow : ℕ) → Goes (switch_edges cs n follow) n (knows here (switches key))
switch_goes here key cs n follow Rest may other = rest_leads cs n follow
switch_goes here key cs n follow Next may other = cc
switch_goes here key cs n follow Yes may other = cc
switch_goes here key cs n follow No may other = cc
switch_goes here key cs n follow (Chosen z) may other = cc

simple_goes : (here : Scope) (s : Simple) (at follow : ℕ) (t : Targets) → GoOn (edges here (simple s) at follow t) (known here (simple s)) at
unfolding known edges
simple_goes here (evaluation e span) at follow t = goes_next (knows here (evaluates e)) at follow (λ o. refl)
simple_goes here (assignment left op right span) at follow t = goes_next (knows here (assigns left op right)) at follow (λ o. refl)

-- what gives back doesn't go on
goes_nowhere : (es : List Edge) (here : Scope) (given : Option Expression) (n : ℕ) → Goes es n (knows here (returns given))
goes_nowhere es here given n o may other = cc

mutual
  unfolding known known_all edges edges_all

  go_on : (here : Scope) (s : Statement) (at follow : ℕ) (t : Targets) → GoOn (edges here s at follow t) (known here s) at
  go_on here (block items span) at follow t = all_go_on here items at follow t
  go_on here (empty span) at follow t = goes_next (knows here idles) at follow (λ o. refl)
  go_on here (local d) at follow t = goes_next (knows here (declares d)) at follow (λ o. refl)
  go_on here (simple s) at follow t = simple_goes here s at follow t
  go_on here (if_alone test arm span) at follow t =
      let one = tested_edges here test at (first arm (suc at) follow) follow in
      let es = edges here arm (suc at) follow t in
      (goes_left one es at (knows here (tests (Some test))) (test_goes here (Some test) at (first arm (suc at) follow) follow), right one es (known here arm) (suc at) (go_on here arm (suc at) follow t))
  go_on here (if_else test arm other span) at follow t =
      let there = further (declared_in arm) here in
      let ks = known here arm in
      let js = known there other in
      let one = tested_edges here test at (first arm (suc at) follow) (first other (suc at + count arm) follow) in
      let es = edges here arm (suc at) follow t in
      let fs = edges there other (suc at + count arm) follow t in
      let n = known_count here arm in (
        goes_left one (es ++ fs) at (knows here (tests (Some test))) (test_goes here (Some test) at (first arm (suc at) follow) (first other (suc at + count arm) follow)),
        right one (es ++ fs) (ks ++ js) (suc at)
            (together (es ++ fs) ks js (suc at) (suc at + count arm) (omega (arith, n))
            (left es fs ks (suc at) (go_on here arm (suc at) follow t))
            (right es fs js (suc at + count arm) (go_on there other (suc at + count arm) follow t))),
      )
  go_on here (while_loop test body span) at follow t =
      let t' = in_loop follow at t in
      let one = tested_edges here test at (first body (suc at) at) follow in
      let es = edges here body (suc at) at t' in
      (goes_left one es at (knows here (tests (Some test))) (test_goes here (Some test) at (first body (suc at) at) follow), right one es (known here body) (suc at) (go_on here body (suc at) at t'))
  go_on here (do_loop body test span) at follow t =
      let back = at + count body in
      let t' = in_loop follow back t in
      let k = knows here (tests (Some test)) in
      let es = edges here body at back t' in
      let one = tested_edges here test back (first body at back) follow in
      let n = known_count here body in
      together (es ++ one) (known here body) (k ∷ []) at back (omega (arith, n))
      (left es one (known here body) at (go_on here body at back t'))
      (right es one (k ∷ []) back (test_goes here (Some test) back (first body at back) follow, tt))
  go_on here (for_loop init test step body span) at follow t =
      let there = behind_init here init in
      let k = knows there (tests test) in
      let is = known_init here init in
      let ss = known_step there step in
      let bs = known there body in
      let again = again_at init step at in
      let t' = in_loop follow again t in
      let one = step_edges (length (points_of_init init)) at (test_at init at) in
      let two = for_edges there test (test_at init at) (first body (inner_at init step at) again) follow in
      let three = step_edges (length (points_of_step step)) (step_at init at) (test_at init at) in
      let four = edges there body (inner_at init step at) again t' in
      let i = init_count here init in
      let s = step_count there step in
      together (one ++ (two ++ (three ++ four))) is (k ∷ (ss ++ bs)) at (test_at init at) (omega (arith, i))
      (left one (two ++ (three ++ four)) is at (init_goes here init at (test_at init at)))
      (right one (two ++ (three ++ four)) (k ∷ (ss ++ bs)) (test_at init at) (
        goes_left two (three ++ four) (test_at init at) k (test_goes there test (test_at init at) (first body (inner_at init step at) again) follow),
        right two (three ++ four) (ss ++ bs) (step_at init at)
            (together (three ++ four) ss bs (step_at init at) (inner_at init step at) (omega (arith, s))
            (left three four ss (step_at init at) (step_goes there step (step_at init at) (test_at init at)))
            (right three four bs (inner_at init step at) (go_on there body (inner_at init step at) again t'))),
      ))
  go_on here (switch key body span) at follow t =
      let cs = cases here body (suc at) follow in
      let t' = in_switch follow t in
      let es = edges here body (suc at) follow t' in (
        goes_left (switch_edges cs at follow) es at (knows here (switches key)) (switch_goes here key cs at follow),
        right (switch_edges cs at follow) es (known here body) (suc at) (go_on here body (suc at) follow t'),
      )
  go_on here (case key body span) at follow t = go_on here body at follow t
  go_on here (otherwise body span) at follow t = go_on here body at follow t
  go_on here (label name body span) at follow t = go_on here body at follow t
  go_on here (break span) at follow t = goes_next (knows here jumps) at t.break_to (λ o. refl)
  go_on here (continue span) at follow t = goes_next (knows here jumps) at t.continue_to (λ o. refl)
  go_on here (goto name span) at follow t = goes_next (knows here jumps) at (label_at t name.text follow) (λ o. refl)
  go_on here (return given span) at follow t = (goes_nowhere [] here given at, tt)

  all_go_on : (here : Scope) (ss : Statements) (at follow : ℕ) (t : Targets) → GoOn (edges_all here ss at follow t) (known_all here ss) at
  all_go_on here none at follow t = tt
  all_go_on here (more s ss) at follow t =
      let ks = known here s in
      let js = known_all (behind here s) ss in
      let es = edges here s at (first_all ss (at + count s) follow) t in
      let fs = edges_all (behind here s) ss (at + count s) follow t in
      let n = known_count here s in
      together (es ++ fs) ks js at (at + count s) (omega (arith, n))
      (left es fs ks at (go_on here s at (first_all ss (at + count s) follow) t))
      (right es fs js (at + count s) (all_go_on (behind here s) ss (at + count s) follow t))

-- Back to the point that has the number, and to the edge that is found.
goes_at : (es : List Edge) (ks : List Known) (at n : ℕ) (k : Known) → GoOn es ks at → slice_get ks n ≡ Some k → Goes es (at + n) k
goes_at es [] at n k h is = cc
goes_at es (x ∷ ks) at zero k h is = let same : at ≡ at + 0 = omega arith in subst (λ m. Goes es m k) same (subst (λ j. Goes es at j) (some_same is) h.0)
goes_at es (x ∷ ks) at (suc n) k h is = let same : suc at + n ≡ at + suc n = omega arith in subst (λ m. Goes es m k) same (goes_at es ks (suc at) n k h.1 is)

found_step : (p : Edge → Bool) (b : Bool) (e : Edge) (q : Option Edge) (c : Bool) → (c ≡ true → is_some (option_map (λ x. x.to) q) ≡ true)
    → (b || c) ≡ true → is_some (option_map (λ x. x.to) (if b then Some e else q)) ≡ true
found_step p true e q c later h = refl
found_step p false e q c later h = later h

found : (p : Edge → Bool) (es : List Edge) → list_any p es ≡ true → is_some (option_map (λ e. e.to) (find p es)) ≡ true
found p [] h = cc
found p (e ∷ es) h = found_step p (p e) e (find p es) (list_any p es) (found p es) h

at_start : (es : List Edge) (n : ℕ) (k : Known) → Goes es (0 + n) k → Goes es n k
at_start es n k h = let same : 0 + n ≡ n = omega arith in subst (λ m. Goes es m k) same h

pub points_go_on : PointsGoOn
points_go_on here body n k o is may other =
    let es = body_edges here body in
    let whole = together es (known_all here body) (knows here ends ∷ []) 0 (length (known_all here body)) (omega arith) (all_go_on here body 0 (count_all body) (body_targets body)) ((λ o may other. cc), tt) in
    found (leaves_by n o) es (at_start es n k (goes_at es (known_all here body ++ knows here ends ∷ []) 0 n k whole is) o may other)
