-- Walks, worked out.
use Rattle.std.proofs.Common.{◌≡◌, ℕ, zero, suc, List, [], ◌∷◌, Contains, Option, Some, slice_get, refl, sym, ◌∙◌, subst, arith}
use Rattle.std.proofs.lemmas.List.Elements.{Contains-append_right}
use Rattle.tsa_core.proofs.BodyExamples.{worked}
use Rattle.tsa_core.specs.ManyPlaces.{large_program}
use Rattle.tsa_core.specs.Control.{Outcome, Next, Yes, No, edge}
use Rattle.tsa_rules.specs.Statuses.{Status, Free, Exclusive}
use Rattle.tsa_rules.specs.Fails.{TS02, TS06, TS09}
use Rattle.tsa_rules.specs.Points.{edges_of, function_at}
use Rattle.tsa_rules.specs.Texts.{global}
use Rattle.tsa_rules.specs.Walks.{Course, course_of, Edge, entry_edge, edge_from, IsWalk, along, on_a_walk, where_edges_meet}
use Rattle.tsa_rules.specs.WalkLaws.{branch, loop, BranchesMeet, LargeUnitsAreJudged, LoopsComeBack}
use Rattle.tsa_rules.specs.Warnings.{FailsIn, warning}
use Rattle.tsa_base.proofs.Options.{some_same}

not_free : {A : Type 0} → Exclusive 1 ≡ Free → A
not_free e = cc

-- no walk that comes from a point which takes the lock has it free
taken : (k : Course) (p : ℕ) (o : Outcome) → ((s : Status) → k.effect p o s ≡ Exclusive 1)
    → (before : List Edge) → IsWalk k (edge_from p o) before → along k (edge_from p o) before ≡ Free → ⊥
taken k p o takes [] w e = w
taken k p o takes (d ∷ before) w e = not_free (sym (takes (along k d before)) ∙ e)

-- an element of a list, by its place
located : {A : Type 0} (xs : List A) (k : ℕ) (x : A) → slice_get xs k ≡ Some x → Contains xs x
located [] k x e = cc
located (y ∷ ys) zero x e = subst (Contains (y ∷ ys)) (some_same e) (0, omega arith, refl)
located (y ∷ ys) (suc k) x e = Contains-append_right (y ∷ []) ys x (located ys k x e)

-- the edges of the branch, in their order: from the test to the call and past it, from the call on, and from `;` on
pub branches_meet : BranchesMeet
unfolding worked
branches_meet =
    let calls = located (edges_of (function_at branch 1)) 0 (edge 0 Yes 1) refl in
    let passes = located (edges_of (function_at branch 1)) 1 (edge 0 No 2) refl in
    let meets = located (edges_of (function_at branch 1)) 2 (edge 1 Next 2) refl in
    let ends = located (edges_of (function_at branch 1)) 3 (edge 2 Next 3) refl in
    record {
      where_they_meet = record {
        function = function_at branch 1;
        is_there = refl;
        fails = where_edges_meet (edge_from 0 No) (edge_from 1 Next) Free
            (record { leads = passes; before = entry_edge ∷ []; is_walk = (refl, tt); brings = refl })
            (record { leads = meets; before = edge_from 0 Yes ∷ entry_edge ∷ []; is_walk = (calls, (refl, tt)) })
            (λ r. taken (course_of branch (function_at branch 1) (global 0)) 1 Next (λ s. refl) r.before r.is_walk r.brings);
      };
      at_the_end = record {
        function = function_at branch 1;
        is_there = refl;
        fails = on_a_walk TS09 (edge_from 2 Next) (Exclusive 1)
            (record { leads = ends; before = edge_from 1 Next ∷ edge_from 0 Yes ∷ entry_edge ∷ []; is_walk = (meets, (calls, (refl, tt))); brings = refl }) refl;
      };
    }

-- those of the loop: from the test to the call and to the end, and from the call back
pub loops_come_back : LoopsComeBack
unfolding worked
loops_come_back =
    let calls = located (edges_of (function_at loop 1)) 0 (edge 0 Yes 1) refl in
    let ends = located (edges_of (function_at loop 1)) 1 (edge 0 No 2) refl in
    let comes_back = located (edges_of (function_at loop 1)) 2 (edge 1 Next 0) refl in
    record {
      at_the_test = record {
        function = function_at loop 1;
        is_there = refl;
        fails = where_edges_meet entry_edge (edge_from 1 Next) Free
            (record { leads = refl; before = []; is_walk = tt; brings = refl })
            (record { leads = comes_back; before = edge_from 0 Yes ∷ entry_edge ∷ []; is_walk = (calls, (refl, tt)) })
            (λ r. taken (course_of loop (function_at loop 1) (global 0)) 1 Next (λ s. refl) r.before r.is_walk r.brings);
      };
      at_the_call = record {
        function = function_at loop 1;
        is_there = refl;
        fails = on_a_walk TS06 (edge_from 0 Yes) (Exclusive 1)
            (record { leads = calls; before = edge_from 1 Next ∷ edge_from 0 Yes ∷ entry_edge ∷ []; is_walk = (comes_back, (calls, (refl, tt))); brings = refl }) refl;
      };
      at_the_end = record {
        function = function_at loop 1;
        is_there = refl;
        fails = on_a_walk TS09 (edge_from 0 No) (Exclusive 1)
            (record { leads = ends; before = edge_from 1 Next ∷ edge_from 0 Yes ∷ entry_edge ∷ []; is_walk = (comes_back, (calls, (refl, tt))); brings = refl }) refl;
      };
    }

-- the write of the unit with too many places, at the first point
unlocked_write : FailsIn large_program (warning 0 0 TS02 (global 0))
unfolding worked
unlocked_write = record {
  function = function_at large_program 0;
  is_there = refl;
  fails = on_a_walk TS02 entry_edge Free (record { leads = refl; before = []; is_walk = tt; brings = refl }) refl;
}

pub large_units_are_judged : LargeUnitsAreJudged
large_units_are_judged = record {
  unlocked_write = unlocked_write;
  not_quiet = λ quiet. quiet (warning 0 0 TS02 (global 0)) unlocked_write;
}
