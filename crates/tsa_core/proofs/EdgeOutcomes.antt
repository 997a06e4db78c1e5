-- An edge's outcome is one that its point may have.
use Rattle.std.proofs.Common.{◌≡◌, ℕ, ℤ, suc, ◌+◌, arith, Bool, true, false, List, [], ◌∷◌, ◌++◌, All, length, map, slice_get}
use Rattle.std.proofs.Common.{slice_index_or, Option, Some, None, option_map, if◌then◌else◌, refl, sym, ap, subst, inl, inr, ◌⊎◌}
use Rattle.std.proofs.lemmas.List.Elements.{All-append, All-cons, All-nil}
use Rattle.std.proofs.lemmas.Option.{slice_get-map}
use Rattle.tsa_tree.specs.declarations.Syntax.{Declaration, Initialiser, value, list}
use Rattle.tsa_tree.specs.declared.expr.BinaryOp.{BinaryOp}
use Rattle.tsa_tree.specs.declared.kind.Kind.{Kind}
use Rattle.tsa_tree.specs.declared.number.Number.{Number}
use Rattle.tsa_tree.specs.expressions.Syntax.{Expression}
use Rattle.tsa_tree.specs.points.Syntax.{Deed, declares, evaluates, assigns, tests, switches, jumps, idles, returns, ends, points_of_init}
use Rattle.tsa_tree.specs.points.Syntax.{points_of_step}
use Rattle.tsa_tree.specs.statements.Syntax.{Simple, evaluation, assignment, ForInit, no_init, simple_init, local_init, Statement, block}
use Rattle.tsa_tree.specs.statements.Syntax.{empty, local, simple, if_alone, if_else, while_loop, do_loop, for_loop, switch, case}
use Rattle.tsa_tree.specs.statements.Syntax.{otherwise, label, break, continue, goto, return, Statements, none, more}
use Rattle.tsa_tree.specs.types.Arithmetic.{is_nonzero}
use Rattle.tsa_tree.specs.types.DeclaredTypes.{thing_type}
use Rattle.tsa_tree.specs.types.Scopes.{Scope, further}
use Rattle.tsa_tree.specs.types.Statements.{behind, behind_init}
use Rattle.tsa_tree.specs.types.Targets.{declared_in}
use Rattle.tsa_core.specs.Bodies.{Known, knows, known_init, known_step, known, known_all, known_in_body, declared, set_to, point_of}
use Rattle.tsa_core.specs.Bodies.{can_have}
use Rattle.tsa_core.specs.Control.{Outcome, Next, Yes, No, Rest, Chosen, Edge, edge, count, first, first_all, test_at, step_at, inner_at}
use Rattle.tsa_core.specs.Control.{again_at, Cases, cases, Targets, in_loop, in_switch, label_at, test_edges, tested_edges, for_edges}
use Rattle.tsa_core.specs.Control.{step_edges, case_edge, case_edges, has_default, rest_edges, switch_edges, edges, edges_all, count_all}
use Rattle.tsa_core.specs.Control.{body_targets, body_edges}
use Rattle.tsa_core.specs.Laws.{is_next, is_told, test_value, goes, OutcomesAreOfTheActions, OutcomesAreOfThePoints}
use Rattle.tsa_core.specs.Meanings.{meaning}
use Rattle.tsa_core.specs.Terms.{Term, constant, variable, answer, global, member, element, target, load, address, converted, prefixed}
use Rattle.tsa_core.specs.Terms.{joined}
use Rattle.tsa_core.proofs.TextPoints.{known_count}
use Rattle.tsa_core.proofs.TypedTerms.{some_same}

-- the edge leaves one of these points, which have numbers from `at` on, by an outcome that the point may have
abbrev pub Leaves : List Known → ℕ → Edge → Type 0
Leaves [] at e = ⊥
Leaves (k ∷ ks) at e = ((e.from ≡ at) × (goes k e.outcome ≡ true)) ⊎ Leaves ks (suc at) e

leaves_left : (ks js : List Known) (at : ℕ) (e : Edge) → Leaves ks at e → Leaves (ks ++ js) at e
leaves_left [] js at e h = absurd h
leaves_left (k ∷ ks) js at e (inl x) = inl x
leaves_left (k ∷ ks) js at e (inr h) = inr (leaves_left ks js (suc at) e h)

leaves_right : (ks js : List Known) (at n : ℕ) (e : Edge) → n ≡ at + length ks → Leaves js n e → Leaves (ks ++ js) at e
leaves_right [] js at n e same h = let same' : n ≡ at = omega (arith, same) in subst (λ m. Leaves js m e) same' h
leaves_right (k ∷ ks) js at n e same h = inr (leaves_right ks js (suc at) n e (omega (arith, same)) h)

-- the same of each of some edges
each : {A : Type 0} (P Q : A → Type 0) → ((x : A) → P x → Q x) → (xs : List A) → All P xs → All Q xs
each P Q f xs h k d less = f (slice_index_or xs k d) (h k d less)

all_left : (ks js : List Known) (at : ℕ) (es : List Edge) → All (Leaves ks at) es → All (Leaves (ks ++ js) at) es
all_left ks js at es h = each (Leaves ks at) (Leaves (ks ++ js) at) (leaves_left ks js at) es h

all_right : (ks js : List Known) (at n : ℕ) (es : List Edge) → n ≡ at + length ks → All (Leaves js n) es → All (Leaves (ks ++ js) at) es
all_right ks js at n es same h = each (Leaves js n) (Leaves (ks ++ js) at) (λ e x. leaves_right ks js at n e same x) es h

all_behind : (k : Known) (ks : List Known) (at : ℕ) (es : List Edge) → All (Leaves ks (suc at)) es → All (Leaves (k ∷ ks) at) es
all_behind k ks at es h = each (Leaves ks (suc at)) (Leaves (k ∷ ks) at) (λ e x. inr x) es h

-- one edge from the first point
from_first : (k : Known) (ks : List Known) (at : ℕ) (o : Outcome) (to : ℕ) → goes k o ≡ true → All (Leaves (k ∷ ks) at) (edge at o to ∷ [])
from_first k ks at o to is = All-cons (Leaves (k ∷ ks) at) (edge at o to) [] (inl (refl, is)) (All-nil (Leaves (k ∷ ks) at))

-- Those of a test.
abbrev Told : Option Number → ℕ → Edge → Type 0
Told v at e = (e.from ≡ at) × (is_told v e.outcome ≡ true)

constant_told : (b : Bool) (n : Number) (at yes_to no_to : ℕ) → is_nonzero n ≡ b
    → All (Told (Some n) at) (if b then edge at Yes yes_to ∷ [] else edge at No no_to ∷ [])
constant_told true n at yes_to no_to is = All-cons (Told (Some n) at) (edge at Yes yes_to) [] (refl, is) (All-nil (Told (Some n) at))
constant_told false n at yes_to no_to is = All-cons (Told (Some n) at) (edge at No no_to) [] (refl, rw is refl) (All-nil (Told (Some n) at))

test_told : (v : Option Number) (at yes_to no_to : ℕ) → All (Told v at) (test_edges v at yes_to no_to)
test_told None at yes_to no_to =
    All-cons (Told None at) (edge at Yes yes_to) (edge at No no_to ∷ []) (refl, refl) (All-cons (Told None at) (edge at No no_to) [] (refl, refl) (All-nil (Told None at)))
test_told (Some n) at yes_to no_to = constant_told (is_nonzero n) n at yes_to no_to refl

for_told : (here : Scope) (test : Option Expression) (at yes_to no_to : ℕ) → All (Told (test_value here test) at) (for_edges here test at yes_to no_to)
for_told here None at yes_to no_to = All-cons (Told (test_value here None) at) (edge at Yes yes_to) [] (refl, refl) (All-nil (Told (test_value here None) at))
for_told here (Some e) at yes_to no_to = test_told (test_value here (Some e)) at yes_to no_to

test_leaves : (here : Scope) (test : Option Expression) (ks : List Known) (at yes_to no_to : ℕ)
    → All (Leaves (knows here (tests test) ∷ ks) at) (for_edges here test at yes_to no_to)
test_leaves here test ks at yes_to no_to =
    each (Told (test_value here test) at) (Leaves (knows here (tests test) ∷ ks) at) (λ e x. inl x) (for_edges here test at yes_to no_to) (for_told here test at yes_to no_to)

-- those of the first part of a `for`, and of its step
init_leaves : (here : Scope) (init : ForInit) (at to : ℕ) → All (Leaves (known_init here init) at) (step_edges (length (points_of_init init)) at to)
init_leaves here no_init at to = All-nil (Leaves [] at)
init_leaves here (simple_init (evaluation e span)) at to = from_first (knows here (evaluates e)) [] at Next to refl
init_leaves here (simple_init (assignment left op right span)) at to = from_first (knows here (assigns left op right)) [] at Next to refl
init_leaves here (local_init d) at to = from_first (knows here (declares d)) [] at Next to refl

step_leaves : (here : Scope) (step : Option Simple) (at to : ℕ) → All (Leaves (known_step here step) at) (step_edges (length (points_of_step step)) at to)
step_leaves here None at to = All-nil (Leaves [] at)
step_leaves here (Some (evaluation e span)) at to = from_first (knows here (evaluates e)) [] at Next to refl
step_leaves here (Some (assignment left op right span)) at to = from_first (knows here (assigns left op right)) [] at Next to refl

pub init_count : (here : Scope) (init : ForInit) → length (known_init here init) ≡ length (points_of_init init)
init_count here no_init = refl
init_count here (simple_init s) = refl
init_count here (local_init d) = refl

pub step_count : (here : Scope) (step : Option Simple) → length (known_step here step) ≡ length (points_of_step step)
step_count here None = refl
step_count here (Some s) = refl

-- those of a switch
module _ (here : Scope) (key : Expression) (ks : List Known) (at : ℕ) where
  abbrev OfSwitch : Edge → Type 0
  OfSwitch e = Leaves (knows here (switches key) ∷ ks) at e

  case_leaves : (v : Option ℤ) (to : ℕ) → OfSwitch (case_edge at (v, to))
  case_leaves None to = inl (refl, refl)
  case_leaves (Some z) to = inl (refl, refl)

  cases_leave : (cs : Cases) → All OfSwitch (case_edges at cs)
  cases_leave [] = All-nil OfSwitch
  cases_leave ((v, to) ∷ rest) = All-cons OfSwitch (case_edge at (v, to)) (case_edges at rest) (case_leaves v to) (cases_leave rest)

  rest_leaves : (b : Bool) (follow : ℕ) → All OfSwitch (rest_edges b at follow)
  rest_leaves true follow = All-nil OfSwitch
  rest_leaves false follow = from_first (knows here (switches key)) ks at Rest follow refl

  switch_leaves : (cs : Cases) (follow : ℕ) → All OfSwitch (switch_edges cs at follow)
  switch_leaves cs follow = All-append OfSwitch (case_edges at cs) (rest_edges (has_default cs) at follow) (cases_leave cs) (rest_leaves (has_default cs) follow)

-- an expression or an assignment goes on
simple_leaves : (here : Scope) (s : Simple) (at follow : ℕ) (t : Targets) → All (Leaves (known here (simple s)) at) (edges here (simple s) at follow t)
unfolding known edges
simple_leaves here (evaluation e span) at follow t = from_first (knows here (evaluates e)) [] at Next follow refl
simple_leaves here (assignment left op right span) at follow t = from_first (knows here (assigns left op right)) [] at Next follow refl

mutual
  unfolding known known_all edges edges_all

  edges_leave : (here : Scope) (s : Statement) (at follow : ℕ) (t : Targets) → All (Leaves (known here s) at) (edges here s at follow t)
  edges_leave here (block items span) at follow t = edges_all_leave here items at follow t
  edges_leave here (empty span) at follow t = from_first (knows here idles) [] at Next follow refl
  edges_leave here (local d) at follow t = from_first (knows here (declares d)) [] at Next follow refl
  edges_leave here (simple s) at follow t = simple_leaves here s at follow t
  edges_leave here (if_alone test arm span) at follow t =
      All-append (Leaves (known here (if_alone test arm span)) at) (tested_edges here test at (first arm (suc at) follow) follow) (edges here arm (suc at) follow t)
      (test_leaves here (Some test) (known here arm) at (first arm (suc at) follow) follow)
      (all_behind (knows here (tests (Some test))) (known here arm) at (edges here arm (suc at) follow t) (edges_leave here arm (suc at) follow t))
  edges_leave here (if_else test arm other span) at follow t =
      let there = further (declared_in arm) here in
      let ks = known here arm in
      let js = known there other in
      let es = edges here arm (suc at) follow t in
      let fs = edges there other (suc at + count arm) follow t in
      let n = known_count here arm in
      All-append (Leaves (known here (if_else test arm other span)) at) (tested_edges here test at (first arm (suc at) follow) (first other (suc at + count arm) follow)) (es ++ fs)
      (test_leaves here (Some test) (ks ++ js) at (first arm (suc at) follow) (first other (suc at + count arm) follow))
      (all_behind (knows here (tests (Some test))) (ks ++ js) at (es ++ fs)
      (All-append (Leaves (ks ++ js) (suc at)) es fs
      (all_left ks js (suc at) es (edges_leave here arm (suc at) follow t))
      (all_right ks js (suc at) (suc at + count arm) fs (omega (arith, n)) (edges_leave there other (suc at + count arm) follow t))))
  edges_leave here (while_loop test body span) at follow t =
      let t' = in_loop follow at t in
      All-append (Leaves (known here (while_loop test body span)) at) (tested_edges here test at (first body (suc at) at) follow) (edges here body (suc at) at t')
      (test_leaves here (Some test) (known here body) at (first body (suc at) at) follow)
      (all_behind (knows here (tests (Some test))) (known here body) at (edges here body (suc at) at t') (edges_leave here body (suc at) at t'))
  edges_leave here (do_loop body test span) at follow t =
      let back = at + count body in
      let t' = in_loop follow back t in
      let ks = known here body in
      let n = known_count here body in
      All-append (Leaves (known here (do_loop body test span)) at) (edges here body at back t') (tested_edges here test back (first body at back) follow)
      (all_left ks (knows here (tests (Some test)) ∷ []) at (edges here body at back t') (edges_leave here body at back t'))
      (all_right ks (knows here (tests (Some test)) ∷ []) at back (tested_edges here test back (first body at back) follow) (omega (arith, n))
      (test_leaves here (Some test) [] back (first body at back) follow))
  edges_leave here (for_loop init test step body span) at follow t =
      let there = behind_init here init in
      let k = knows there (tests test) in
      let is = known_init here init in
      let ss = known_step there step in
      let bs = known there body in
      let again = again_at init step at in
      let t' = in_loop follow again t in
      let one = step_edges (length (points_of_init init)) at (test_at init at) in
      let two = for_edges there test (test_at init at) (first body (inner_at init step at) again) follow in
      let three = step_edges (length (points_of_step step)) (step_at init at) (test_at init at) in
      let four = edges there body (inner_at init step at) again t' in
      let i = init_count here init in
      let s = step_count there step in
      All-append (Leaves (known here (for_loop init test step body span)) at) one (two ++ (three ++ four))
      (all_left is (k ∷ (ss ++ bs)) at one (init_leaves here init at (test_at init at)))
      (all_right is (k ∷ (ss ++ bs)) at (test_at init at) (two ++ (three ++ four)) (omega (arith, i))
      (All-append (Leaves (k ∷ (ss ++ bs)) (test_at init at)) two (three ++ four)
      (test_leaves there test (ss ++ bs) (test_at init at) (first body (inner_at init step at) again) follow)
      (all_behind k (ss ++ bs) (test_at init at) (three ++ four)
      (All-append (Leaves (ss ++ bs) (step_at init at)) three four
      (all_left ss bs (step_at init at) three (step_leaves there step (step_at init at) (test_at init at)))
      (all_right ss bs (step_at init at) (inner_at init step at) four (omega (arith, s)) (edges_leave there body (inner_at init step at) again t'))))))
  edges_leave here (switch key body span) at follow t =
      let cs = cases here body (suc at) follow in
      let t' = in_switch follow t in
      All-append (Leaves (known here (switch key body span)) at) (switch_edges cs at follow) (edges here body (suc at) follow t')
      (switch_leaves here key (known here body) at cs follow)
      (all_behind (knows here (switches key)) (known here body) at (edges here body (suc at) follow t') (edges_leave here body (suc at) follow t'))
  edges_leave here (case key body span) at follow t = edges_leave here body at follow t
  edges_leave here (otherwise body span) at follow t = edges_leave here body at follow t
  edges_leave here (label name body span) at follow t = edges_leave here body at follow t
  edges_leave here (break span) at follow t = from_first (knows here jumps) [] at Next t.break_to refl
  edges_leave here (continue span) at follow t = from_first (knows here jumps) [] at Next t.continue_to refl
  edges_leave here (goto name span) at follow t = from_first (knows here jumps) [] at Next (label_at t name.text follow) refl
  edges_leave here (return given span) at follow t = All-nil (Leaves (knows here (returns given) ∷ []) at)

  edges_all_leave : (here : Scope) (ss : Statements) (at follow : ℕ) (t : Targets) → All (Leaves (known_all here ss) at) (edges_all here ss at follow t)
  edges_all_leave here none at follow t = All-nil (Leaves [] at)
  edges_all_leave here (more s ss) at follow t =
      let ks = known here s in
      let js = known_all (behind here s) ss in
      let es = edges here s at (first_all ss (at + count s) follow) t in
      let fs = edges_all (behind here s) ss (at + count s) follow t in
      let n = known_count here s in
      All-append (Leaves (ks ++ js) at) es fs
      (all_left ks js at es (edges_leave here s at (first_all ss (at + count s) follow) t))
      (all_right ks js at (at + count s) fs (omega (arith, n)) (edges_all_leave (behind here s) ss (at + count s) follow t))

-- Back to the point that has the number.
leaves_at : (ks : List Known) (at : ℕ) (e : Edge) → Leaves ks at e → (i : ℕ) × ((e.from ≡ at + i) × (option_map (λ k. goes k e.outcome) (slice_get ks i) ≡ Some true))
leaves_at [] at e h = absurd h
leaves_at (k ∷ ks) at e (inl x) = let first : e.from ≡ at = x.0 in (0, (omega (arith, first), ap Some x.1))
leaves_at (k ∷ ks) at e (inr h) = let r = leaves_at ks (suc at) e h in let later : e.from ≡ suc at + r.0 = r.1.0 in (suc r.0, (omega (arith, later), r.1.1))

by_point : (ks : List Known) (e : Edge) → Leaves ks 0 e → option_map (λ k. goes k e.outcome) (slice_get ks e.from) ≡ Some true
by_point ks e h =
    let r = leaves_at ks 0 e h in
    let n : r.0 ≡ e.from = let same : e.from ≡ 0 + r.0 = r.1.0 in omega (arith, same) in
    subst (λ i. option_map (λ k. goes k e.outcome) (slice_get ks i) ≡ Some true) n r.1.1

pub outcomes_of_points : OutcomesAreOfThePoints
outcomes_of_points here body =
    each (Leaves (known_in_body here body) 0) (λ e. option_map (λ k. goes k e.outcome) (slice_get (known_in_body here body) e.from) ≡ Some true)
    (by_point (known_in_body here body)) (body_edges here body)
    (all_left (known_all here body) (knows here ends ∷ []) 0 (body_edges here body) (edges_all_leave here body 0 (count_all body) (body_targets body)))

-- What a point may have its action can have.
set_next : (t : Term) (op : Option BinaryOp) (kind : Kind) (right : Term) → can_have (set_to t op kind right) Next ≡ true
set_next (constant v) op kind right = refl
set_next (variable n) op kind right = refl
set_next answer op kind right = refl
set_next (global n) op kind right = refl
set_next (member base n) op kind right = refl
set_next (element base i) op kind right = refl
set_next (target p) op kind right = refl
set_next (load stable place) op kind right = refl
set_next (address place) op kind right = refl
set_next (converted to inner) op kind right = refl
set_next (prefixed o inner) op kind right = refl
set_next (joined o left other) op kind right = refl

abbrev CanHave : Kind → Known → Outcome → Type 0
CanHave result k o = goes k o ≡ true → can_have (point_of result k).action o ≡ true

test_can : (result : Kind) (here : Scope) (e : Option Expression) (o : Outcome) → CanHave result (knows here (tests e)) o
test_can result here None Yes is = refl
test_can result here None No is = refl
test_can result here None Next is = cc
test_can result here None Rest is = cc
test_can result here None (Chosen z) is = cc
test_can result here (Some e) Yes is = refl
test_can result here (Some e) No is = refl
test_can result here (Some e) Next is = cc
test_can result here (Some e) Rest is = cc
test_can result here (Some e) (Chosen z) is = cc

switch_can : (result : Kind) (here : Scope) (key : Expression) (o : Outcome) → CanHave result (knows here (switches key)) o
switch_can result here key Rest is = refl
switch_can result here key (Chosen z) is = refl
switch_can result here key Next is = cc
switch_can result here key Yes is = cc
switch_can result here key No is = cc

-- a point that goes on with no choice
next_can : (result : Kind) (k : Known) (o : Outcome) → is_next o ≡ true → can_have (point_of result k).action Next ≡ true → can_have (point_of result k).action o ≡ true
next_can result k Next is can = can
next_can result k Yes is can = cc
next_can result k No is can = cc
next_can result k Rest is can = cc
next_can result k (Chosen z) is can = cc

init_can : (result : Kind) (here : Scope) (d : Declaration) (init : Option Initialiser) → can_have (declared here (thing_type here d.ctype).kind init).action Next ≡ true
init_can result here d None = refl
init_can result here d (Some (value e)) = refl
init_can result here d (Some (list items span)) = refl

deed_can : (result : Kind) (here : Scope) (d : Deed) (o : Outcome) → CanHave result (knows here d) o
deed_can result here (declares d) o is = next_can result (knows here (declares d)) o is (init_can result here d d.init)
deed_can result here (evaluates e) o is = next_can result (knows here (evaluates e)) o is refl
deed_can result here (assigns left op right) o is = next_can result (knows here (assigns left op right)) o is (set_next (meaning here left).term op _ _)
deed_can result here (tests e) o is = test_can result here e o is
deed_can result here (switches e) o is = switch_can result here e o is
deed_can result here jumps o is = next_can result (knows here jumps) o is refl
deed_can result here idles o is = next_can result (knows here idles) o is refl
deed_can result here (returns e) o is = cc
deed_can result here ends o is = cc

action_can : (result : Kind) (o : Outcome) (q : Option Known) → option_map (λ k. goes k o) q ≡ Some true
    → option_map (λ p. can_have p.action o) (option_map (point_of result) q) ≡ Some true
action_can result o None is = cc
action_can result o (Some k) is = ap Some (deed_can result k.here k.deed o (some_same is))

pub outcomes_of_actions : OutcomesAreOfTheActions
outcomes_of_actions here result body =
    let ks = known_in_body here body in
    each (λ e. option_map (λ k. goes k e.outcome) (slice_get ks e.from) ≡ Some true) (λ e. option_map (λ p. can_have p.action e.outcome) (slice_get (map (point_of result) ks) e.from) ≡ Some true)
    (λ e is. subst (λ q. option_map (λ p. can_have p.action e.outcome) q ≡ Some true) (sym (slice_get-map (point_of result) ks e.from)) (action_can result e.outcome (slice_get ks e.from) is))
    (body_edges here body) (outcomes_of_points here body)
