-- Edges go from points of a body that aren't its end, to points of it.
use Rattle.std.proofs.Common.{ℕ, ℤ, zero, suc, ◌+◌, ◌<◌, ◌≤◌, arith, Bool, true, false, List, [], ◌∷◌, All, length, Option, Some, None}
use Rattle.std.proofs.Common.{IfSome, if◌then◌else◌}
use Rattle.std.proofs.lemmas.List.Elements.{All-append, All-cons, All-head, All-nil, All-tail}
use Rattle.std.proofs.lemmas.Map.Entries.{All-lookup}
use Rattle.std.specs.Map.{lookup}
use Rattle.std.specs.Str.{bytes_eq}
use Rattle.tsa_tree.specs.declared.number.Number.{Number}
use Rattle.tsa_tree.specs.expressions.Syntax.{Expression}
use Rattle.tsa_tree.specs.points.Syntax.{points_of_init, points_of_step}
use Rattle.tsa_tree.specs.statements.Syntax.{Statement, block, empty, local, simple, if_alone, if_else, while_loop, do_loop, for_loop}
use Rattle.tsa_tree.specs.statements.Syntax.{switch, case, otherwise, label, break, continue, goto, return, Statements, none, more}
use Rattle.tsa_tree.specs.types.Arithmetic.{is_nonzero}
use Rattle.tsa_tree.specs.types.DeclaredTypes.{value_in}
use Rattle.tsa_tree.specs.types.Scopes.{Scope, context_of, further}
use Rattle.tsa_tree.specs.types.Statements.{behind, behind_init}
use Rattle.tsa_tree.specs.types.Targets.{declared_in}
use Rattle.tsa_core.specs.Control.{Outcome, Next, Yes, No, Rest, Edge, edge, count, count_all, or_follow, first, first_all, test_at}
use Rattle.tsa_core.specs.Control.{step_at, inner_at, again_at, labels, labels_all, Cases, a_case, cases, cases_all, Targets, in_loop}
use Rattle.tsa_core.specs.Control.{in_switch, or_else, label_at, test_edges, tested_edges, for_edges, step_edges, case_edge, case_edges}
use Rattle.tsa_core.specs.Control.{has_default, rest_edges, switch_edges, edges, edges_all, body_targets}
use Rattle.tsa_core.specs.Laws.{IsInside, EdgesStayInside}
use Rattle.tsa_core.proofs.Counts.{count_if, count_do, count_for, count_more}

module _ (end : ℕ) where
  abbrev LabelInside : List ℕ × ℕ → Type 0
  LabelInside x = x.1 ≤ end

  abbrev CaseInside : Option ℤ × ℕ → Type 0
  CaseInside x = x.1 ≤ end

  abbrev Inside : Edge → Type 0
  Inside e = IsInside end e

  abbrev TargetsInside : Targets → Type 0
  TargetsInside t = (t.break_to ≤ end) × ((t.continue_to ≤ end) × All LabelInside t.labels)

  first_inside : (n at follow : ℕ) → at ≤ end → follow ≤ end → or_follow n at follow ≤ end
  first_inside zero at follow here after = after
  first_inside (suc n) at follow here after = here

  mutual
    unfolding labels labels_all

    labels_inside : (s : Statement) (at follow : ℕ) → at + count s ≤ end → follow ≤ end → All LabelInside (labels s at follow)
    labels_inside (block items span) at follow h f = labels_all_inside items at follow h f
    labels_inside (if_alone test arm span) at follow h f = labels_inside arm (suc at) follow (omega (arith, h)) f
    labels_inside (if_else test arm other span) at follow h f =
        let n = count_if test arm other span in
        All-append LabelInside (labels arm (suc at) follow) (labels other (suc at + count arm) follow)
        (labels_inside arm (suc at) follow (omega (arith, h, n)) f)
        (labels_inside other (suc at + count arm) follow (omega (arith, h, n)) f)
    labels_inside (while_loop test body span) at follow h f = labels_inside body (suc at) at (omega (arith, h)) (omega (arith, h))
    labels_inside (do_loop body test span) at follow h f =
        let n = count_do body test span in
        labels_inside body at (at + count body) (omega (arith, h, n)) (omega (arith, h, n))
    labels_inside (for_loop init test step body span) at follow h f =
        let n = count_for init test step body span in
        labels_inside body (inner_at init step at) (again_at init step at) (omega (arith, h, n))
        (first_inside (length (points_of_step step)) (step_at init at) (test_at init at) (omega (arith, h, n)) (omega (arith, h, n)))
    labels_inside (switch key body span) at follow h f = labels_inside body (suc at) follow (omega (arith, h)) f
    labels_inside (case key body span) at follow h f = labels_inside body at follow h f
    labels_inside (otherwise body span) at follow h f = labels_inside body at follow h f
    labels_inside (label name body span) at follow h f =
        All-cons LabelInside (name.text, first body at follow) (labels body at follow) (first_inside (count body) at follow (omega (arith, h)) f) (labels_inside body at follow h f)
    labels_inside (empty span) at follow h f = All-nil LabelInside
    labels_inside (local d) at follow h f = All-nil LabelInside
    labels_inside (simple s) at follow h f = All-nil LabelInside
    labels_inside (break span) at follow h f = All-nil LabelInside
    labels_inside (continue span) at follow h f = All-nil LabelInside
    labels_inside (goto name span) at follow h f = All-nil LabelInside
    labels_inside (return given span) at follow h f = All-nil LabelInside

    labels_all_inside : (ss : Statements) (at follow : ℕ) → at + count_all ss ≤ end → follow ≤ end → All LabelInside (labels_all ss at follow)
    labels_all_inside none at follow h f = All-nil LabelInside
    labels_all_inside (more s ss) at follow h f =
        let n = count_more s ss in
        All-append LabelInside (labels s at (first_all ss (at + count s) follow)) (labels_all ss (at + count s) follow)
        (labels_inside s at (first_all ss (at + count s) follow) (omega (arith, h, n)) (first_inside (count_all ss) (at + count s) follow (omega (arith, h, n)) f))
        (labels_all_inside ss (at + count s) follow (omega (arith, h, n)) f)

  a_case_inside : (v : Option Number) (at : ℕ) → at ≤ end → All CaseInside (a_case v at)
  a_case_inside None at h = All-nil CaseInside
  a_case_inside (Some n) at h = All-cons CaseInside _ [] h (All-nil CaseInside)

  mutual
    unfolding cases cases_all

    cases_inside : (here : Scope) (s : Statement) (at follow : ℕ) → at + count s ≤ end → follow ≤ end → All CaseInside (cases here s at follow)
    cases_inside here (block items span) at follow h f = cases_all_inside here items at follow h f
    cases_inside here (if_alone test arm span) at follow h f = cases_inside here arm (suc at) follow (omega (arith, h)) f
    cases_inside here (if_else test arm other span) at follow h f =
        let n = count_if test arm other span in
        All-append CaseInside (cases here arm (suc at) follow) (cases here other (suc at + count arm) follow)
        (cases_inside here arm (suc at) follow (omega (arith, h, n)) f)
        (cases_inside here other (suc at + count arm) follow (omega (arith, h, n)) f)
    cases_inside here (while_loop test body span) at follow h f = cases_inside here body (suc at) at (omega (arith, h)) (omega (arith, h))
    cases_inside here (do_loop body test span) at follow h f =
        let n = count_do body test span in
        cases_inside here body at (at + count body) (omega (arith, h, n)) (omega (arith, h, n))
    cases_inside here (for_loop init test step body span) at follow h f =
        let n = count_for init test step body span in
        cases_inside here body (inner_at init step at) (again_at init step at) (omega (arith, h, n))
        (first_inside (length (points_of_step step)) (step_at init at) (test_at init at) (omega (arith, h, n)) (omega (arith, h, n)))
    cases_inside here (switch key body span) at follow h f = All-nil CaseInside
    cases_inside here (case key body span) at follow h f =
        All-append CaseInside (a_case (value_in (context_of here) key) (first body at follow)) (cases here body at follow)
        (a_case_inside (value_in (context_of here) key) (first body at follow) (first_inside (count body) at follow (omega (arith, h)) f))
        (cases_inside here body at follow h f)
    cases_inside here (otherwise body span) at follow h f =
        All-cons CaseInside (None, first body at follow) (cases here body at follow) (first_inside (count body) at follow (omega (arith, h)) f) (cases_inside here body at follow h f)
    cases_inside here (label name body span) at follow h f = cases_inside here body at follow h f
    cases_inside here (empty span) at follow h f = All-nil CaseInside
    cases_inside here (local d) at follow h f = All-nil CaseInside
    cases_inside here (simple s) at follow h f = All-nil CaseInside
    cases_inside here (break span) at follow h f = All-nil CaseInside
    cases_inside here (continue span) at follow h f = All-nil CaseInside
    cases_inside here (goto name span) at follow h f = All-nil CaseInside
    cases_inside here (return given span) at follow h f = All-nil CaseInside

    cases_all_inside : (here : Scope) (ss : Statements) (at follow : ℕ) → at + count_all ss ≤ end → follow ≤ end → All CaseInside (cases_all here ss at follow)
    cases_all_inside here none at follow h f = All-nil CaseInside
    cases_all_inside here (more s ss) at follow h f =
        let n = count_more s ss in
        All-append CaseInside (cases here s at (first_all ss (at + count s) follow)) (cases_all here ss (at + count s) follow)
        (cases_inside here s at (first_all ss (at + count s) follow) (omega (arith, h, n)) (first_inside (count_all ss) (at + count s) follow (omega (arith, h, n)) f))
        (cases_all_inside here ss (at + count s) follow (omega (arith, h, n)) f)

  -- one edge, and those of a test, of a step, of a switch
  one : (n : ℕ) (o : Outcome) (m : ℕ) → n < end → m ≤ end → All Inside (edge n o m ∷ [])
  one n o m from to = All-cons Inside (edge n o m) [] (from, to) (All-nil Inside)

  constant_inside : (b : Bool) (at yes_to no_to : ℕ) → at < end → yes_to ≤ end → no_to ≤ end → All Inside (if b then edge at Yes yes_to ∷ [] else edge at No no_to ∷ [])
  constant_inside true at yes_to no_to h y n = one at Yes yes_to h y
  constant_inside false at yes_to no_to h y n = one at No no_to h n

  test_inside : (v : Option Number) (at yes_to no_to : ℕ) → at < end → yes_to ≤ end → no_to ≤ end → All Inside (test_edges v at yes_to no_to)
  test_inside None at yes_to no_to h y n = All-cons Inside (edge at Yes yes_to) (edge at No no_to ∷ []) (h, y) (one at No no_to h n)
  test_inside (Some v) at yes_to no_to h y n = constant_inside (is_nonzero v) at yes_to no_to h y n

  for_inside : (here : Scope) (test : Option Expression) (at yes_to no_to : ℕ) → at < end → yes_to ≤ end → no_to ≤ end → All Inside (for_edges here test at yes_to no_to)
  for_inside here None at yes_to no_to h y n = one at Yes yes_to h y
  for_inside here (Some e) at yes_to no_to h y n = test_inside (value_in (context_of here) e) at yes_to no_to h y n

  step_inside : (n at to : ℕ) → at + n ≤ end → to ≤ end → All Inside (step_edges n at to)
  step_inside zero at to h t = All-nil Inside
  step_inside (suc n) at to h t = one at Next to (omega (arith, h)) t

  case_inside : (at : ℕ) (v : Option ℤ) (to : ℕ) → at < end → to ≤ end → Inside (case_edge at (v, to))
  case_inside at None to h t = (h, t)
  case_inside at (Some z) to h t = (h, t)

  case_edges_inside : (at : ℕ) (cs : Cases) → at < end → All CaseInside cs → All Inside (case_edges at cs)
  case_edges_inside at [] h all = All-nil Inside
  case_edges_inside at ((v, to) ∷ rest) h all =
      All-cons Inside (case_edge at (v, to)) (case_edges at rest) (case_inside at v to h (All-head CaseInside (v, to) rest all))
      (case_edges_inside at rest h (All-tail CaseInside (v, to) rest all))

  rest_inside : (b : Bool) (at follow : ℕ) → at < end → follow ≤ end → All Inside (rest_edges b at follow)
  rest_inside true at follow h f = All-nil Inside
  rest_inside false at follow h f = one at Rest follow h f

  switch_inside : (cs : Cases) (at follow : ℕ) → at < end → follow ≤ end → All CaseInside cs → All Inside (switch_edges cs at follow)
  switch_inside cs at follow h f all =
      All-append Inside (case_edges at cs) (rest_edges (has_default cs) at follow) (case_edges_inside at cs h all) (rest_inside (has_default cs) at follow h f)

  label_inside : (o : Option ℕ) (other : ℕ) → IfSome o (λ n. n ≤ end) → other ≤ end → or_else other o ≤ end
  label_inside None other found h = h
  label_inside (Some n) other found h = found

  mutual
    unfolding edges edges_all

    edges_inside : (here : Scope) (s : Statement) (at follow : ℕ) (t : Targets) → at + count s ≤ end → follow ≤ end → TargetsInside t → All Inside (edges here s at follow t)
    edges_inside here (block items span) at follow t h f ts = edges_all_inside here items at follow t h f ts
    edges_inside here (empty span) at follow t h f ts = one at Next follow (omega (arith, h)) f
    edges_inside here (local d) at follow t h f ts = one at Next follow (omega (arith, h)) f
    edges_inside here (simple s) at follow t h f ts = one at Next follow (omega (arith, h)) f
    edges_inside here (if_alone test arm span) at follow t h f ts =
        All-append Inside (tested_edges here test at (first arm (suc at) follow) follow) (edges here arm (suc at) follow t)
        (test_inside (value_in (context_of here) test) at (first arm (suc at) follow) follow (omega (arith, h)) (first_inside (count arm) (suc at) follow (omega (arith, h)) f) f)
        (edges_inside here arm (suc at) follow t (omega (arith, h)) f ts)
    edges_inside here (if_else test arm other span) at follow t h f ts =
        let n = count_if test arm other span in
        All-append Inside (tested_edges here test at (first arm (suc at) follow) (first other (suc at + count arm) follow)) _
        (test_inside (value_in (context_of here) test) at (first arm (suc at) follow) (first other (suc at + count arm) follow) (omega (arith, h, n))
        (first_inside (count arm) (suc at) follow (omega (arith, h, n)) f) (first_inside (count other) (suc at + count arm) follow (omega (arith, h, n)) f))
        (All-append Inside (edges here arm (suc at) follow t) (edges (further (declared_in arm) here) other (suc at + count arm) follow t)
        (edges_inside here arm (suc at) follow t (omega (arith, h, n)) f ts)
        (edges_inside (further (declared_in arm) here) other (suc at + count arm) follow t (omega (arith, h, n)) f ts))
    edges_inside here (while_loop test body span) at follow t h f ts =
        All-append Inside (tested_edges here test at (first body (suc at) at) follow) (edges here body (suc at) at (in_loop follow at t))
        (test_inside (value_in (context_of here) test) at (first body (suc at) at) follow (omega (arith, h)) (first_inside (count body) (suc at) at (omega (arith, h)) (omega (arith, h))) f)
        (edges_inside here body (suc at) at (in_loop follow at t) (omega (arith, h)) (omega (arith, h)) (f, (omega (arith, h), ts.1.1)))
    edges_inside here (do_loop body test span) at follow t h f ts =
        let n = count_do body test span in
        All-append Inside (edges here body at (at + count body) (in_loop follow (at + count body) t)) _
        (edges_inside here body at (at + count body) (in_loop follow (at + count body) t) (omega (arith, h, n)) (omega (arith, h, n)) (f, (omega (arith, h, n), ts.1.1)))
        (test_inside (value_in (context_of here) test) (at + count body) (first body at (at + count body)) follow (omega (arith, h, n))
        (first_inside (count body) at (at + count body) (omega (arith, h, n)) (omega (arith, h, n))) f)
    edges_inside here (for_loop init test step body span) at follow t h f ts =
        let n = count_for init test step body span in
        let again : again_at init step at ≤ end = first_inside (length (points_of_step step)) (step_at init at) (test_at init at) (omega (arith, h, n)) (omega (arith, h, n)) in
        All-append Inside (step_edges (length (points_of_init init)) at (test_at init at)) _
        (step_inside (length (points_of_init init)) at (test_at init at) (omega (arith, h, n)) (omega (arith, h, n)))
        (All-append Inside (for_edges (behind_init here init) test (test_at init at) (first body (inner_at init step at) (again_at init step at)) follow) _
        (for_inside (behind_init here init) test (test_at init at) (first body (inner_at init step at) (again_at init step at)) follow (omega (arith, h, n))
        (first_inside (count body) (inner_at init step at) (again_at init step at) (omega (arith, h, n)) again) f)
        (All-append Inside (step_edges (length (points_of_step step)) (step_at init at) (test_at init at)) _
        (step_inside (length (points_of_step step)) (step_at init at) (test_at init at) (omega (arith, h, n)) (omega (arith, h, n)))
        (edges_inside (behind_init here init) body (inner_at init step at) (again_at init step at) (in_loop follow (again_at init step at) t)
        (omega (arith, h, n)) again (f, (again, ts.1.1)))))
    edges_inside here (switch key body span) at follow t h f ts =
        All-append Inside (switch_edges (cases here body (suc at) follow) at follow) (edges here body (suc at) follow (in_switch follow t))
        (switch_inside (cases here body (suc at) follow) at follow (omega (arith, h)) f (cases_inside here body (suc at) follow (omega (arith, h)) f))
        (edges_inside here body (suc at) follow (in_switch follow t) (omega (arith, h)) f (f, ts.1))
    edges_inside here (case key body span) at follow t h f ts = edges_inside here body at follow t h f ts
    edges_inside here (otherwise body span) at follow t h f ts = edges_inside here body at follow t h f ts
    edges_inside here (label name body span) at follow t h f ts = edges_inside here body at follow t h f ts
    edges_inside here (break span) at follow t h f ts = one at Next t.break_to (omega (arith, h)) ts.0
    edges_inside here (continue span) at follow t h f ts = one at Next t.continue_to (omega (arith, h)) ts.1.0
    edges_inside here (goto name span) at follow t h f ts =
        one at Next (label_at t name.text follow) (omega (arith, h))
        (label_inside (lookup (bytes_eq name.text) t.labels) follow (All-lookup (λ n. n ≤ end) (bytes_eq name.text) t.labels ts.1.1) f)
    edges_inside here (return given span) at follow t h f ts = All-nil Inside

    edges_all_inside : (here : Scope) (ss : Statements) (at follow : ℕ) (t : Targets) → at + count_all ss ≤ end → follow ≤ end → TargetsInside t
        → All Inside (edges_all here ss at follow t)
    edges_all_inside here none at follow t h f ts = All-nil Inside
    edges_all_inside here (more s ss) at follow t h f ts =
        let n = count_more s ss in
        All-append Inside (edges here s at (first_all ss (at + count s) follow) t) (edges_all (behind here s) ss (at + count s) follow t)
        (edges_inside here s at (first_all ss (at + count s) follow) t (omega (arith, h, n)) (first_inside (count_all ss) (at + count s) follow (omega (arith, h, n)) f) ts)
        (edges_all_inside (behind here s) ss (at + count s) follow t (omega (arith, h, n)) f ts)

pub edges_stay_inside : EdgesStayInside
edges_stay_inside here result body =
    let end = count_all body in
    let whole : 0 + count_all body ≤ end = omega arith in
    let last : end ≤ end = omega arith in
    edges_all_inside end here body 0 end (body_targets body) whole last (last, (last, labels_all_inside end body 0 end whole last))
