-- The point that an edge leads to is the next one for its outcome: the parts of a statement have points of their own.
use Rattle.std.proofs.Common.{◌≡◌, ◌∙◌, ℕ, ℤ, zero, suc, ◌+◌, ◌<◌, ◌≤◌, arith, Bool, true, false, nat_eq, List, [], ◌∷◌, ◌++◌, All, find}
use Rattle.std.proofs.Common.{length, slice_index_or, Option, Some, None, option_map, if◌then◌else◌, refl}
use Rattle.std.proofs.lemmas.Bool.Decides.{nat_tests}
use Rattle.std.proofs.lemmas.List.Elements.{All-append, All-cons, All-head, All-nil, All-tail}
use Rattle.tsa_tree.specs.declared.number.Number.{Number}
use Rattle.tsa_tree.specs.expressions.Syntax.{Expression}
use Rattle.tsa_tree.specs.points.Syntax.{points_of_init, points_of_step}
use Rattle.tsa_tree.specs.statements.Syntax.{Statement, block, empty, local, simple, if_alone, if_else, while_loop, do_loop, for_loop}
use Rattle.tsa_tree.specs.statements.Syntax.{switch, case, otherwise, label, break, continue, goto, return, Statements, none, more}
use Rattle.tsa_tree.specs.types.Arithmetic.{is_nonzero}
use Rattle.tsa_tree.specs.types.DeclaredTypes.{value_in}
use Rattle.tsa_tree.specs.types.Scopes.{Scope, context_of, further}
use Rattle.tsa_tree.specs.types.Statements.{behind, behind_init}
use Rattle.tsa_tree.specs.types.Targets.{declared_in}
use Rattle.tsa_core.specs.Control.{Outcome, Next, Yes, No, Rest, Edge, edge, count, count_all, first, first_all, test_at, step_at, inner_at}
use Rattle.tsa_core.specs.Control.{again_at, Cases, cases, Targets, in_loop, in_switch, label_at, test_edges, tested_edges, for_edges}
use Rattle.tsa_core.specs.Control.{step_edges, case_edge, case_edges, has_default, rest_edges, switch_edges, edges, edges_all, body_targets}
use Rattle.tsa_core.specs.Control.{leaves_by, same_outcome, next_point}
use Rattle.tsa_core.specs.Laws.{is_choice, EdgesAreFollowed}
use Rattle.tsa_core.proofs.Counts.{count_if, count_do, count_for, count_more}
use Rattle.tsa_base.proofs.Numbers.{itself}

-- edges from points with numbers from one on and below another
abbrev pub Between : ℕ → ℕ → Edge → Type 0
Between low high e = (low ≤ e.from) × (e.from < high)

abbrev IsFollowed : List Edge → Edge → Type 0
IsFollowed es e = is_choice e.outcome ≡ false → next_point es e.from e.outcome ≡ Some e.to

-- some edges from there, each of which is followed
abbrev Follow : ℕ → ℕ → List Edge → Type 0
Follow low high es = All (Between low high) es × All (IsFollowed es) es

nothing : (low high : ℕ) → Follow low high []
nothing low high = (All-nil (Between low high), All-nil (IsFollowed []))

pub differ : (a b : ℕ) → (a ≡ b → ⊥) → nat_eq a b ≡ false
differ a b other = grind (arith, nat_tests)

-- edges that all leave other points give no next one
abbrev Elsewhere : ℕ → List Edge → Type 0
Elsewhere n es = All (λ e. e.from ≡ n → ⊥) es

passed : (n : ℕ) (o : Outcome) (es fs : List Edge) → Elsewhere n es → next_point (es ++ fs) n o ≡ next_point fs n o
passed n o [] fs h = refl
passed n o (e ∷ es) fs h =
    let other : nat_eq e.from n ≡ false = differ e.from n (All-head (λ x. x.from ≡ n → ⊥) e es h) in
    rw other (passed n o es fs (All-tail (λ x. x.from ≡ n → ⊥) e es h))

found_step : (b : Bool) (e : Edge) (p q : Option Edge) (to : ℕ) → (option_map (λ x. x.to) p ≡ Some to → option_map (λ x. x.to) q ≡ Some to)
    → option_map (λ x. x.to) (if b then Some e else p) ≡ Some to → option_map (λ x. x.to) (if b then Some e else q) ≡ Some to
found_step true e p q to later h = h
found_step false e p q to later h = later h

found : (n : ℕ) (o : Outcome) (es fs : List Edge) (to : ℕ) → next_point es n o ≡ Some to → next_point (es ++ fs) n o ≡ Some to
found n o [] fs to h = cc
found n o (e ∷ es) fs to h = found_step (leaves_by n o e) e (find (leaves_by n o) es) (find (leaves_by n o) (es ++ fs)) to (found n o es fs to) h

elsewhere : (low mid n : ℕ) (es : List Edge) → All (Between low mid) es → mid ≤ n → Elsewhere n es
elsewhere low mid n es h behind k d less same = let below : (slice_index_or es k d).from < mid = (h k d less).1 in omega (arith, below, behind, same)

-- the edges of one part before those of another
pub between_both : (low mid high : ℕ) (es fs : List Edge) → low ≤ mid → mid ≤ high → All (Between low mid) es → All (Between mid high) fs → All (Between low high) (es ++ fs)
between_both low mid high es fs first second one two =
    All-append (Between low high) es fs
    (λ k d less. let x = one k d less in (x.0, let below : (slice_index_or es k d).from < mid = x.1 in omega (arith, below, second)))
    (λ k d less. let x = two k d less in (let above : mid ≤ (slice_index_or fs k d).from = x.0 in omega (arith, above, first), x.1))

join : (low mid high : ℕ) (es fs : List Edge) → low ≤ mid → mid ≤ high → Follow low mid es → Follow mid high fs → Follow low high (es ++ fs)
join low mid high es fs first second one two = (
  between_both low mid high es fs first second one.0 two.0,
  All-append (IsFollowed (es ++ fs)) es fs
      (λ k d less plain. let e = slice_index_or es k d in found e.from e.outcome es fs e.to (one.1 k d less plain))
      (λ k d less plain. let e = slice_index_or fs k d in passed e.from e.outcome es fs (elsewhere low mid e.from es one.0 (two.0 k d less).0) ∙ two.1 k d less plain),
)

-- One edge.
pub one : (at high : ℕ) (o : Outcome) (to : ℕ) → at < high → same_outcome o o ≡ true → Follow at high (edge at o to ∷ [])
one at high o to less same = (
  All-cons (Between at high) (edge at o to) [] (omega arith, less) (All-nil (Between at high)),
  All-cons (IsFollowed (edge at o to ∷ [])) (edge at o to) [] (λ plain. rw (itself at, same) refl) (All-nil (IsFollowed (edge at o to ∷ []))),
)

pub next : (at high to : ℕ) → at < high → Follow at high (edge at Next to ∷ [])
next at high to less = one at high Next to less refl

-- those of a test
constant_follows : (b : Bool) (at high yes_to no_to : ℕ) → at < high → Follow at high (if b then edge at Yes yes_to ∷ [] else edge at No no_to ∷ [])
constant_follows true at high yes_to no_to less = one at high Yes yes_to less refl
constant_follows false at high yes_to no_to less = one at high No no_to less refl

pub test_follows : (v : Option Number) (at high yes_to no_to : ℕ) → at < high → Follow at high (test_edges v at yes_to no_to)
test_follows None at high yes_to no_to less =
    let es = edge at Yes yes_to ∷ edge at No no_to ∷ [] in (
      All-cons (Between at high) (edge at Yes yes_to) (edge at No no_to ∷ []) (omega arith, less) (All-cons (Between at high) (edge at No no_to) [] (omega arith, less) (All-nil (Between at high))),
      All-cons (IsFollowed es) (edge at Yes yes_to) (edge at No no_to ∷ []) (λ plain. rw (itself at) refl)
          (All-cons (IsFollowed es) (edge at No no_to) [] (λ plain. rw (itself at) refl) (All-nil (IsFollowed es))),
    )
test_follows (Some n) at high yes_to no_to less = constant_follows (is_nonzero n) at high yes_to no_to less

pub for_follows : (here : Scope) (test : Option Expression) (at high yes_to no_to : ℕ) → at < high → Follow at high (for_edges here test at yes_to no_to)
for_follows here None at high yes_to no_to less = one at high Yes yes_to less refl
for_follows here (Some e) at high yes_to no_to less = test_follows (value_in (context_of here) e) at high yes_to no_to less

pub step_follows : (n at high to : ℕ) → at + n ≤ high → Follow at high (step_edges n at to)
step_follows zero at high to le = nothing at high
step_follows (suc n) at high to le = next at high to (omega (arith, le))

-- those of a switch are choices
case_leaves : (at high : ℕ) (es : List Edge) (v : Option ℤ) (to : ℕ) → at < high → Between at high (case_edge at (v, to)) × IsFollowed es (case_edge at (v, to))
case_leaves at high es None to less = ((omega arith, less), λ plain. cc)
case_leaves at high es (Some z) to less = ((omega arith, less), λ plain. cc)

cases_between : (at high : ℕ) (cs : Cases) → at < high → All (Between at high) (case_edges at cs)
cases_between at high [] less = All-nil (Between at high)
cases_between at high ((v, to) ∷ rest) less =
    All-cons (Between at high) (case_edge at (v, to)) (case_edges at rest) (case_leaves at high [] v to less).0 (cases_between at high rest less)

cases_followed : (at : ℕ) (es : List Edge) (cs : Cases) → All (IsFollowed es) (case_edges at cs)
cases_followed at es [] = All-nil (IsFollowed es)
cases_followed at es ((v, to) ∷ rest) =
    All-cons (IsFollowed es) (case_edge at (v, to)) (case_edges at rest) (case_leaves at (suc at) es v to (omega arith)).1 (cases_followed at es rest)

rest_between : (b : Bool) (at high follow : ℕ) → at < high → All (Between at high) (rest_edges b at follow)
rest_between true at high follow less = All-nil (Between at high)
rest_between false at high follow less = All-cons (Between at high) (edge at Rest follow) [] (omega arith, less) (All-nil (Between at high))

rest_followed : (b : Bool) (at follow : ℕ) (es : List Edge) → All (IsFollowed es) (rest_edges b at follow)
rest_followed true at follow es = All-nil (IsFollowed es)
rest_followed false at follow es = All-cons (IsFollowed es) (edge at Rest follow) [] (λ plain. cc) (All-nil (IsFollowed es))

pub switch_follows : (cs : Cases) (at high follow : ℕ) → at < high → Follow at high (switch_edges cs at follow)
switch_follows cs at high follow less = (
  All-append (Between at high) (case_edges at cs) (rest_edges (has_default cs) at follow) (cases_between at high cs less) (rest_between (has_default cs) at high follow less),
  All-append (IsFollowed (switch_edges cs at follow)) (case_edges at cs) (rest_edges (has_default cs) at follow)
      (cases_followed at (switch_edges cs at follow) cs) (rest_followed (has_default cs) at follow (switch_edges cs at follow)),
)

mutual
  unfolding edges edges_all

  follows : (here : Scope) (s : Statement) (at high follow : ℕ) (t : Targets) → at + count s ≡ high → Follow at high (edges here s at follow t)
  follows here (block items span) at high follow t n = all_follow here items at high follow t n
  follows here (empty span) at high follow t n = next at high follow (omega (arith, n))
  follows here (local d) at high follow t n = next at high follow (omega (arith, n))
  follows here (simple s) at high follow t n = next at high follow (omega (arith, n))
  follows here (if_alone test arm span) at high follow t n =
      join at (suc at) high (tested_edges here test at (first arm (suc at) follow) follow) (edges here arm (suc at) follow t) (omega arith) (omega (arith, n))
      (test_follows (value_in (context_of here) test) at (suc at) (first arm (suc at) follow) follow (omega arith)) (follows here arm (suc at) high follow t (omega (arith, n)))
  follows here (if_else test arm other span) at high follow t n =
      let m = count_if test arm other span in
      let there = further (declared_in arm) here in
      let mid = suc at + count arm in
      join at (suc at) high (tested_edges here test at (first arm (suc at) follow) (first other mid follow)) (edges here arm (suc at) follow t ++ edges there other mid follow t) (omega arith) (omega (arith, n, m))
      (test_follows (value_in (context_of here) test) at (suc at) (first arm (suc at) follow) (first other mid follow) (omega arith))
      (join (suc at) mid high (edges here arm (suc at) follow t) (edges there other mid follow t) (omega arith) (omega (arith, n, m))
      (follows here arm (suc at) mid follow t refl) (follows there other mid high follow t (omega (arith, n, m))))
  follows here (while_loop test body span) at high follow t n =
      join at (suc at) high (tested_edges here test at (first body (suc at) at) follow) (edges here body (suc at) at (in_loop follow at t)) (omega arith) (omega (arith, n))
      (test_follows (value_in (context_of here) test) at (suc at) (first body (suc at) at) follow (omega arith)) (follows here body (suc at) high at (in_loop follow at t) (omega (arith, n)))
  follows here (do_loop body test span) at high follow t n =
      let m = count_do body test span in
      let back = at + count body in
      join at back high (edges here body at back (in_loop follow back t)) (tested_edges here test back (first body at back) follow) (omega arith) (omega (arith, n, m))
      (follows here body at back back (in_loop follow back t) refl) (test_follows (value_in (context_of here) test) back high (first body at back) follow (omega (arith, n, m)))
  follows here (for_loop init test step body span) at high follow t n =
      let m = count_for init test step body span in
      let there = behind_init here init in
      let again = again_at init step at in
      let t' = in_loop follow again t in
      let a = test_at init at in
      let b = step_at init at in
      let c = inner_at init step at in
      let one = step_edges (length (points_of_init init)) at a in
      let two = for_edges there test a (first body c again) follow in
      let three = step_edges (length (points_of_step step)) b a in
      let four = edges there body c again t' in
      join at a high one (two ++ (three ++ four)) (omega arith) (omega (arith, n, m))
      (step_follows (length (points_of_init init)) at a a (omega arith))
      (join a b high two (three ++ four) (omega arith) (omega (arith, n, m))
      (for_follows there test a b (first body c again) follow (omega arith))
      (join b c high three four (omega arith) (omega (arith, n, m))
      (step_follows (length (points_of_step step)) b c a (omega arith))
      (follows there body c high again t' (omega (arith, n, m)))))
  follows here (switch key body span) at high follow t n =
      join at (suc at) high (switch_edges (cases here body (suc at) follow) at follow) (edges here body (suc at) follow (in_switch follow t)) (omega arith) (omega (arith, n))
      (switch_follows (cases here body (suc at) follow) at (suc at) follow (omega arith)) (follows here body (suc at) high follow (in_switch follow t) (omega (arith, n)))
  follows here (case key body span) at high follow t n = follows here body at high follow t n
  follows here (otherwise body span) at high follow t n = follows here body at high follow t n
  follows here (label name body span) at high follow t n = follows here body at high follow t n
  follows here (break span) at high follow t n = next at high t.break_to (omega (arith, n))
  follows here (continue span) at high follow t n = next at high t.continue_to (omega (arith, n))
  follows here (goto name span) at high follow t n = next at high (label_at t name.text follow) (omega (arith, n))
  follows here (return given span) at high follow t n = nothing at high

  all_follow : (here : Scope) (ss : Statements) (at high follow : ℕ) (t : Targets) → at + count_all ss ≡ high → Follow at high (edges_all here ss at follow t)
  all_follow here none at high follow t n = nothing at high
  all_follow here (more s ss) at high follow t n =
      let m = count_more s ss in
      let mid = at + count s in
      join at mid high (edges here s at (first_all ss mid follow) t) (edges_all (behind here s) ss mid follow t) (omega arith) (omega (arith, n, m))
      (follows here s at mid (first_all ss mid follow) t refl) (all_follow (behind here s) ss mid high follow t (omega (arith, n, m)))

pub edges_are_followed : EdgesAreFollowed
edges_are_followed here body = (all_follow here body 0 (0 + count_all body) (count_all body) (body_targets body) refl).1
