-- The edges of a typed body choose each value of a switch once.
use Rattle.std.proofs.Common.{◌≡◌, ℕ, ℤ, pos, negsuc, int_le, zero, suc, ◌+◌, ◌<◌, ◌≤◌, arith, Bool, true, false, ◌&&◌, nat_eq, List, []}
use Rattle.std.proofs.Common.{◌∷◌, ◌++◌, All, length, slice_index_or, Option, Some, None, if◌then◌else◌, refl, sym, ap}
use Rattle.std.proofs.lemmas.Bool.Decides.{nat_tests}
use Rattle.std.proofs.lemmas.List.Elements.{All-append, All-cons, All-nil, All-tail}
use Rattle.tsa_tree.specs.declared.number.Number.{Number}
use Rattle.tsa_tree.specs.declared.premise.TypeCode.TheVariants.{TY3}
use Rattle.tsa_tree.specs.expressions.Syntax.{Expression}
use Rattle.tsa_tree.specs.points.Syntax.{points_of_init, points_of_step}
use Rattle.tsa_tree.specs.statements.Sound.{SoundStatement, SoundStatements}
use Rattle.tsa_tree.specs.statements.Syntax.{Statement, block, empty, local, simple, if_alone, if_else, while_loop, do_loop, for_loop}
use Rattle.tsa_tree.specs.statements.Syntax.{switch, case, otherwise, label, break, continue, goto, return, Statements, none, more}
use Rattle.tsa_tree.specs.expressions.Sound.{Words}
use Rattle.tsa_tree.specs.types.Arithmetic.{is_nonzero}
use Rattle.tsa_tree.specs.types.DeclaredTypes.{value_in}
use Rattle.tsa_tree.specs.types.Expressions.{type_of, premises_of}
use Rattle.tsa_tree.specs.types.Operands.{is_scalar, is_integer, lacks}
use Rattle.tsa_tree.specs.types.Premises.{premise}
use Rattle.tsa_tree.specs.types.Premises as told
use Rattle.tsa_tree.specs.types.Scopes.{Scope, context_of, further}
use Rattle.tsa_tree.specs.types.Simple.{tested_premises}
use Rattle.tsa_tree.specs.types.Statements.{Around, in_a_loop, in_a_switch, for_premises, case_premises, default_premises, label_premises}
use Rattle.tsa_tree.specs.types.Statements.{statement_premises, statements_premises, behind, behind_init}
use Rattle.tsa_tree.specs.types.Targets.{declared_in}
use Rattle.tsa_core.proofs.CaseLists.{Every}
use Rattle.tsa_core.proofs.Counts.{count_if, count_do, count_for, count_more}
use Rattle.tsa_core.proofs.EdgeTargets.{Between, between_both, differ, test_follows, for_follows, step_follows, switch_follows}
use Rattle.tsa_core.proofs.NoFailure.{none_of_both, none_of_first}
use Rattle.tsa_core.proofs.SwitchCases.{choices, AllApart, switch_apart}
use Rattle.tsa_core.specs.CaseLaws.{is_same_choice, ChoicesDiffer, CasesStandApart, AllStandApart}
use Rattle.tsa_core.specs.Control.{Outcome, Next, Yes, No, Rest, Chosen, Edge, edge, count, count_all, first, first_all, test_at, step_at}
use Rattle.tsa_core.specs.Control.{inner_at, again_at, Cases, cases, Targets, in_loop, in_switch, label_at, test_edges, tested_edges}
use Rattle.tsa_core.specs.Control.{for_edges, step_edges, case_edges, has_default, rest_edges, switch_edges, edges, edges_all}
use Rattle.tsa_core.specs.Laws.{is_chosen}
use Rattle.tsa_base.proofs.Truths.{never}

-- integers that differ
same_ints : (z w : ℤ) → (int_le z w && int_le w z) ≡ true → z ≡ w
same_ints (pos a) (pos b) e = let same : a ≡ b = grind (arith, nat_tests, e) in ap pos same
same_ints (negsuc a) (negsuc b) e = let same : a ≡ b = grind (arith, nat_tests, e) in ap negsuc same
same_ints (pos a) (negsuc b) e = never (sym e)
same_ints (negsuc a) (pos b) e = never (sym e)

other_ints : (z w : ℤ) → (z ≡ w → ⊥) → (int_le z w && int_le w z) ≡ false
other_ints z w other = by (int_le z w && int_le w z) refl
  where
    by : (b : Bool) → (int_le z w && int_le w z) ≡ b → b ≡ false
    by true e = absurd (other (same_ints z w e))
    by false e = refl

neither_way : (a b : Bool) → b ≡ false → (a && b) ≡ false
neither_way true b e = e
neither_way false b e = refl

-- edges that can't be the same choice
abbrev Differs : Edge → Edge → Type 0
Differs e f = is_same_choice e f ≡ false

no_choice : (e f : Edge) → is_chosen e.outcome ≡ false → Differs e f
no_choice e f plain = neither_way (nat_eq e.from f.from) _ (rw plain refl)

other_outcome : (n m to : ℕ) (z : ℤ) (o : Outcome) (at : ℕ) → is_chosen o ≡ false → Differs (edge n (Chosen z) to) (edge at o m)
other_outcome n m to z Next at plain = neither_way (nat_eq n at) _ refl
other_outcome n m to z Yes at plain = neither_way (nat_eq n at) _ refl
other_outcome n m to z No at plain = neither_way (nat_eq n at) _ refl
other_outcome n m to z Rest at plain = neither_way (nat_eq n at) _ refl
other_outcome n m to z (Chosen w) at plain = never plain

elsewhere : (mid : ℕ) (e f : Edge) → e.from < mid → mid ≤ f.from → Differs e f
elsewhere mid e f before behind =
    let other : nat_eq e.from f.from ≡ false = differ e.from f.from (λ same. omega (arith, before, behind, same)) in rw other refl

alone : (e : Edge) → ChoicesDiffer (e ∷ [])
alone e = (All-nil (Differs e), tt)

-- Those of a test, of a step and of a switch.
constant_differs : (b : Bool) (at yes_to no_to : ℕ) → ChoicesDiffer (if b then edge at Yes yes_to ∷ [] else edge at No no_to ∷ [])
constant_differs true at yes_to no_to = alone (edge at Yes yes_to)
constant_differs false at yes_to no_to = alone (edge at No no_to)

test_differs : (v : Option Number) (at yes_to no_to : ℕ) → ChoicesDiffer (test_edges v at yes_to no_to)
test_differs None at yes_to no_to =
    (All-cons (Differs (edge at Yes yes_to)) (edge at No no_to) [] (no_choice (edge at Yes yes_to) (edge at No no_to) refl) (All-nil (Differs (edge at Yes yes_to))), alone (edge at No no_to))
test_differs (Some n) at yes_to no_to = constant_differs (is_nonzero n) at yes_to no_to

for_differs : (here : Scope) (test : Option Expression) (at yes_to no_to : ℕ) → ChoicesDiffer (for_edges here test at yes_to no_to)
for_differs here None at yes_to no_to = alone (edge at Yes yes_to)
for_differs here (Some e) at yes_to no_to = test_differs (value_in (context_of here) e) at yes_to no_to

step_differs : (n at to : ℕ) → ChoicesDiffer (step_edges n at to)
step_differs zero at to = tt
step_differs (suc n) at to = alone (edge at Next to)

module _ (at : ℕ) (b : Bool) (follow : ℕ) where
  rest_apart : (b : Bool) (z : ℤ) (to : ℕ) → All (Differs (edge at (Chosen z) to)) (rest_edges b at follow)
  rest_apart true z to = All-nil (Differs (edge at (Chosen z) to))
  rest_apart false z to =
      All-cons (Differs (edge at (Chosen z) to)) (edge at Rest follow) [] (other_outcome at follow to z Rest at refl) (All-nil (Differs (edge at (Chosen z) to)))

  value_apart : (z : ℤ) (to : ℕ) (cs : Cases) → Every (λ w. z ≡ w → ⊥) (choices cs) → All (Differs (edge at (Chosen z) to)) (case_edges at cs ++ rest_edges b at follow)
  value_apart z to [] h = rest_apart b z to
  value_apart z to ((None, m) ∷ cs) h =
      All-cons (Differs (edge at (Chosen z) to)) (edge at Rest m) (case_edges at cs ++ rest_edges b at follow) (other_outcome at m to z Rest at refl) (value_apart z to cs h)
  value_apart z to ((Some w, m) ∷ cs) h =
      All-cons (Differs (edge at (Chosen z) to)) (edge at (Chosen w) m) (case_edges at cs ++ rest_edges b at follow)
      (neither_way (nat_eq at at) _ (other_ints z w h.0)) (value_apart z to cs h.1)

  cases_differ : (cs : Cases) → AllApart (choices cs) → ChoicesDiffer (case_edges at cs ++ rest_edges b at follow)
  cases_differ [] h = by b
    where
      by : (b : Bool) → ChoicesDiffer (rest_edges b at follow)
      by true = tt
      by false = alone (edge at Rest follow)
  cases_differ ((None, m) ∷ cs) h = (λ n d less. no_choice (edge at Rest m) (slice_index_or (case_edges at cs ++ rest_edges b at follow) n d) refl, cases_differ cs h)
  cases_differ ((Some z, m) ∷ cs) h = (value_apart z m cs h.0, cases_differ cs h.1)

-- The edges of a part of a body.
abbrev Part : ℕ → ℕ → List Edge → Type 0
Part low high es = All (Between low high) es × ChoicesDiffer es

both_differ : (low mid high : ℕ) (es fs : List Edge) → All (Between low mid) es → All (Between mid high) fs → ChoicesDiffer es → ChoicesDiffer fs → ChoicesDiffer (es ++ fs)
both_differ low mid high [] fs one two h g = g
both_differ low mid high (e ∷ es) fs one two h g = (
  All-append (Differs e) es fs h.0 (λ n d less. elsewhere mid e (slice_index_or fs n d) (one 0 e (omega arith)).1 (two n d less).0),
  both_differ low mid high es fs (All-tail (Between low mid) e es one) two h.1 g,
)

join : (low mid high : ℕ) (es fs : List Edge) → low ≤ mid → mid ≤ high → Part low mid es → Part mid high fs → Part low high (es ++ fs)
join low mid high es fs first second one two = (between_both low mid high es fs first second one.0 two.0, both_differ low mid high es fs one.0 two.0 one.1 two.1)

next : (at high to : ℕ) → at < high → Part at high (edge at Next to ∷ [])
next at high to less = (All-cons (Between at high) (edge at Next to) [] (omega arith, less) (All-nil (Between at high)), alone (edge at Next to))

test_part : (here : Scope) (test : Expression) (at high yes_to no_to : ℕ) → at < high → Part at high (tested_edges here test at yes_to no_to)
test_part here test at high yes_to no_to less =
    let v = value_in (context_of here) test in ((test_follows v at high yes_to no_to less).0, test_differs v at yes_to no_to)

module _ (words : Words) where
  mutual
    unfolding edges edges_all statement_premises statements_premises

    differs : (a : Around) (b : Bool) (here : Scope) (s : Statement) (at high follow : ℕ) (t : Targets) → at + count s ≡ high → SoundStatement words b s
        → told.first (statement_premises a here s) ≡ None → CasesStandApart s → Part at high (edges here s at follow t)
    differs a b here (block items span) at high follow t n sound h apart = all_differ a here items at high follow t n sound h apart
    differs a b here (empty span) at high follow t n sound h apart = next at high follow (omega (arith, n))
    differs a b here (local d) at high follow t n sound h apart = next at high follow (omega (arith, n))
    differs a b here (simple s) at high follow t n sound h apart = next at high follow (omega (arith, n))
    differs a b here (if_alone test arm span) at high follow t n sound h apart =
        let p = none_of_both (tested_premises (context_of here) is_scalar span test) (statement_premises a here arm) h in
        join at (suc at) high (tested_edges here test at (first arm (suc at) follow) follow) (edges here arm (suc at) follow t) (omega arith) (omega (arith, n))
        (test_part here test at (suc at) (first arm (suc at) follow) follow (omega arith)) (differs a false here arm (suc at) high follow t (omega (arith, n)) sound.1 p.1 apart)
    differs a b here (if_else test arm other span) at high follow t n sound h apart =
        let m = count_if test arm other span in
        let there = further (declared_in arm) here in
        let mid = suc at + count arm in
        let p = none_of_both (tested_premises (context_of here) is_scalar span test) (statement_premises a here arm ++ statement_premises a there other) h in
        let q = none_of_both (statement_premises a here arm) (statement_premises a there other) p.1 in
        join at (suc at) high (tested_edges here test at (first arm (suc at) follow) (first other mid follow)) (edges here arm (suc at) follow t ++ edges there other mid follow t) (omega arith) (omega (arith, n, m))
        (test_part here test at (suc at) (first arm (suc at) follow) (first other mid follow) (omega arith))
        (join (suc at) mid high (edges here arm (suc at) follow t) (edges there other mid follow t) (omega arith) (omega (arith, n, m))
        (differs a false here arm (suc at) mid follow t refl sound.1 q.0 apart.0) (differs a false there other mid high follow t (omega (arith, n, m)) sound.3 q.1 apart.1))
    differs a b here (while_loop test body span) at high follow t n sound h apart =
        let p = none_of_both (tested_premises (context_of here) is_scalar span test) (statement_premises (in_a_loop a) here body) h in
        join at (suc at) high (tested_edges here test at (first body (suc at) at) follow) (edges here body (suc at) at (in_loop follow at t)) (omega arith) (omega (arith, n))
        (test_part here test at (suc at) (first body (suc at) at) follow (omega arith))
        (differs (in_a_loop a) false here body (suc at) high at (in_loop follow at t) (omega (arith, n)) sound.1 p.1 apart)
    differs a b here (do_loop body test span) at high follow t n sound h apart =
        let m = count_do body test span in
        let back = at + count body in
        let c = context_of here in
        let p = none_of_first TY3 span (lacks is_scalar (type_of c test)) (statement_premises (in_a_loop a) here body ++ premises_of c test) h in
        let q = none_of_both (statement_premises (in_a_loop a) here body) (premises_of c test) p.1 in
        join at back high (edges here body at back (in_loop follow back t)) (tested_edges here test back (first body at back) follow) (omega arith) (omega (arith, n, m))
        (differs (in_a_loop a) false here body at back back (in_loop follow back t) refl sound.0 q.0 apart) (test_part here test back high (first body at back) follow (omega (arith, n, m)))
    differs a b here (for_loop init test step body span) at high follow t n sound h apart =
        let m = count_for init test step body span in
        let there = behind_init here init in
        let p = none_of_both (for_premises here init test step span) (statement_premises (in_a_loop a) there body) h in
        let again = again_at init step at in
        let t' = in_loop follow again t in
        let x = test_at init at in
        let y = step_at init at in
        let z = inner_at init step at in
        let one = step_edges (length (points_of_init init)) at x in
        let two = for_edges there test x (first body z again) follow in
        let three = step_edges (length (points_of_step step)) y x in
        let four = edges there body z again t' in
        join at x high one (two ++ (three ++ four)) (omega arith) (omega (arith, n, m))
        ((step_follows (length (points_of_init init)) at x x (omega arith)).0, step_differs (length (points_of_init init)) at x)
        (join x y high two (three ++ four) (omega arith) (omega (arith, n, m))
        ((for_follows there test x y (first body z again) follow (omega arith)).0, for_differs there test x (first body z again) follow)
        (join y z high three four (omega arith) (omega (arith, n, m))
        ((step_follows (length (points_of_step step)) y z x (omega arith)).0, step_differs (length (points_of_step step)) y x)
        (differs (in_a_loop a) false there body z high again t' (omega (arith, n, m)) sound.3 p.1 apart)))
    differs a b here (switch key body span) at high follow t n sound h apart =
        let inner = in_a_switch here body a in
        let p = none_of_both (tested_premises (context_of here) is_integer span key) (statement_premises inner here body) h in
        let cs = cases here body (suc at) follow in
        join at (suc at) high (switch_edges cs at follow) (edges here body (suc at) follow (in_switch follow t)) (omega arith) (omega (arith, n)) (
          (switch_follows cs at (suc at) follow (omega arith)).0,
          cases_differ at (has_default cs) follow cs (switch_apart here words inner false body (suc at) follow refl refl sound.1 p.1 apart.0),
        )
        (differs inner false here body (suc at) high follow (in_switch follow t) (omega (arith, n)) sound.1 p.1 apart.1)
    differs a b here (case key body span) at high follow t n sound h apart =
        differs a false here body at high follow t n sound.1 (none_of_both (case_premises a (context_of here) key span) (statement_premises a here body) h).1 apart
    differs a b here (otherwise body span) at high follow t n sound h apart =
        differs a false here body at high follow t n sound (none_of_both (default_premises a span) (statement_premises a here body) h).1 apart
    differs a b here (label name body span) at high follow t n sound h apart =
        differs a false here body at high follow t n sound.1 (none_of_both (label_premises a name span) (statement_premises a here body) h).1 apart
    differs a b here (break span) at high follow t n sound h apart = next at high t.break_to (omega (arith, n))
    differs a b here (continue span) at high follow t n sound h apart = next at high t.continue_to (omega (arith, n))
    differs a b here (goto name span) at high follow t n sound h apart = next at high (label_at t name.text follow) (omega (arith, n))
    differs a b here (return given span) at high follow t n sound h apart = (All-nil (Between at high), tt)

    pub all_differ : (a : Around) (here : Scope) (ss : Statements) (at high follow : ℕ) (t : Targets) → at + count_all ss ≡ high → SoundStatements words ss
        → told.first (statements_premises a here ss) ≡ None → AllStandApart ss → Part at high (edges_all here ss at follow t)
    all_differ a here none at high follow t n sound h apart = (All-nil (Between at high), tt)
    all_differ a here (more s ss) at high follow t n sound h apart =
        let m = count_more s ss in
        let mid = at + count s in
        let p = none_of_both (statement_premises a here s) (statements_premises a (behind here s) ss) h in
        join at mid high (edges here s at (first_all ss mid follow) t) (edges_all (behind here s) ss mid follow t) (omega arith) (omega (arith, n, m))
        (differs a true here s at mid (first_all ss mid follow) t refl sound.0 p.0 apart.0) (all_differ a (behind here s) ss mid high follow t (omega (arith, n, m)) sound.1 p.1 apart.1)
