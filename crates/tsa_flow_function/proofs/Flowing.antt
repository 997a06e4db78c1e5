-- What is worked out in a path's lane is of the function's course.
use Rattle.std.proofs.Common.{◌≡◌, ◌∙◌, ℕ, ◌<◌, ◌↔◌, List, Contains, length, Some, None, slice_get, refl, sym, ap, subst}
use Rattle.std.proofs.lemmas.List.Elements.{All-contains}
use Rattle.std.proofs.lemmas.Option.{get_or_from_slice_get, slice_get_within}
use Rattle.tsa_place_model.specs.Ways.{Way}
use Rattle.tsa_core.specs.Control.{Edge, edge}
use Rattle.tsa_core.specs.Programs.{Function, Program}
use Rattle.tsa_graph.specs.declared.sequence.Blocks.{Blocks}
use Rattle.tsa_graph.specs.Rows.{across, inside, AreBlocksOf, IsPassed}
use Rattle.tsa_rules.proofs.CaseEffects.{effects, entries}
use Rattle.tsa_rules.specs.Cases.{effect_in, entry_in}
use Rattle.tsa_rules.specs.Points.{edges_of, points_of}
use Rattle.tsa_rules.specs.Walks.{Agree, course_of}
use Rattle.tsa_flow_solver.specs.Courses.{course_by}
use Rattle.tsa_rules_view.specs.declared.content.RuleView.{RuleView}
use Rattle.tsa_rules_view.specs.Views.{case_in, lock_in, IsViewOf}
use Rattle.tsa_flow_function.specs.declared.function.FunctionFlow.{FunctionFlow}
use Rattle.tsa_flow_function.specs.Flows.{IsFlowOf}
use Rattle.tsa_flow_function.specs.Lanes.{alike, cap_of, GoesWith, IsAssigned, same}
use Rattle.tsa_flow_function.proofs.AlikeCourses.{Alike, same_agreement, then_alike}
use Rattle.tsa_flow_function.proofs.Idling.{effect_same}

-- edges leave points of the body
starts_inside : (n : ℕ) (es : List Edge) (r : Blocks) → AreBlocksOf n es r → (e : Edge) → Contains es e → e.from < n
starts_inside n es r of e among = by (All-contains (IsPassed r.blocks.items r.places.items) es e of.edges among)
  where
    by : IsPassed r.blocks.items r.places.items e → e.from < n
    by (inside at b from there less outcome to) = subst (λ m. e.from < m) of.count (slice_get_within r.places.items e.from at from)
    by (across at b x from there last exit outcome to) = subst (λ m. e.from < m) of.count (slice_get_within r.places.items e.from at from)

module _ (u : Program) (f : Function) (paths : List Way) (v : RuleView) (r : Blocks) (is : IsViewOf u f paths v) (of : AreBlocksOf (length (points_of f)) (edges_of f) r)
    (number : ℕ) (c : Way) (there : slice_get paths number ≡ Some c) where
  pub of_view : Alike (course_by (edges_of f) (entry_in (lock_in v number)) (λ p. case_in v p number)) (course_of u f c)
  of_view = record {
    edges = refl;
    entry = ap entry_in (is.locks number c there) ∙ entries u f c;
    effect = λ p q o s among.
        ap (λ x. effect_in x o s) (is.cases p number c (starts_inside (length (points_of f)) (edges_of f) r of (edge p o q) among) there) ∙ effects u f p c o s;
  }

  pub numbered : number < length v.numbers
  numbered = subst (λ ways. number < length ways) (sym is.numbered) (slice_get_within paths number c there)

same_lane : {A : Type 0} {x y : A} → Some x ≡ Some y → x ≡ y
same_lane e = cc

no_lane : {A : Type 0} {x : A} → Some x ≡ None → ⊥
no_lane e = cc

-- a path's lane is that of a path with which it goes
module _ (u : Program) (f : Function) (paths : List Way) (w : FunctionFlow) (is : IsFlowOf u f paths w) (number : ℕ) (c : Way) (there : slice_get paths number ≡ Some c) where
  pub alike_there : Alike (course_by (edges_of f) (entry_in (lock_in w.view number)) (λ p. case_in w.view p number)) (course_of u f c)
  alike_there = of_view u f paths w.view w.blocks is.view is.blocks number c there

  has_lane : IsAssigned w.view w.paths.caps.items w.paths.numbers.items number
  has_lane = is.flows.assigned.each number (numbered u f paths w.view w.blocks is.view is.blocks number c there)

  pub never_none : slice_get w.paths.numbers.items number ≡ None → ⊥
  never_none none = no_lane (sym has_lane.is_there ∙ none)

  goes_alike : (es : List Edge) (cap : ℕ) → GoesWith w.view number cap
      → Alike (course_by es (entry_in (lock_in w.view cap)) (λ p. case_in w.view p cap)) (course_by es (entry_in (lock_in w.view number)) (λ p. case_in w.view p number))
  goes_alike es cap (same e) = subst (λ k. Alike (course_by es (entry_in (lock_in w.view k)) (λ p. case_in w.view p k)) (course_by es (entry_in (lock_in w.view number)) (λ p. case_in w.view p number))) e
      (record { edges = refl; entry = refl; effect = λ p q o s among. refl })
  goes_alike es cap (alike entry first second) = record {
    edges = refl;
    entry = sym entry;
    effect = λ p q o s among. effect_same w.view (λ p. case_in w.view p cap) (λ p. case_in w.view p number) second first p o s;
  }

  module _ (lane : ℕ) (at : slice_get w.paths.numbers.items number ≡ Some lane) where
    lane_is : has_lane.lane ≡ lane
    lane_is = same_lane (sym has_lane.is_there ∙ at)

    has_cap : slice_get w.paths.caps.items lane ≡ Some has_lane.cap
    has_cap = subst (λ l. slice_get w.paths.caps.items l ≡ Some has_lane.cap) lane_is has_lane.has

    pub within : lane < length w.paths.caps.items
    within = slice_get_within w.paths.caps.items lane has_lane.cap has_cap

    -- what the lane's walks bring is what the path's bring
    pub lane_alike : Alike (course_by (edges_of f) (entry_in (lock_in w.view (cap_of w.paths.caps.items lane))) (λ p. case_in w.view p (cap_of w.paths.caps.items lane))) (course_of u f c)
    lane_alike =
        subst (λ k. Alike (course_by (edges_of f) (entry_in (lock_in w.view k)) (λ p. case_in w.view p k)) (course_of u f c)) (sym (get_or_from_slice_get w.paths.caps.items lane has_lane.cap 0 has_cap))
        (then_alike (course_by (edges_of f) (entry_in (lock_in w.view has_lane.cap)) (λ p. case_in w.view p has_lane.cap))
        (course_by (edges_of f) (entry_in (lock_in w.view number)) (λ p. case_in w.view p number)) (course_of u f c) (goes_alike (edges_of f) has_lane.cap has_lane.goes) alike_there)

-- where edges agree in all lanes they agree for each path
pub agree_in_lanes : (u : Program) (f : Function) (paths : List Way) (w : FunctionFlow) (is : IsFlowOf u f paths w) (number : ℕ) (c : Way) (there : slice_get paths number ≡ Some c) (p : ℕ)
    → ((lane : ℕ) → lane < length w.paths.caps.items → Agree (course_by (edges_of f) (entry_in (lock_in w.view (cap_of w.paths.caps.items lane))) (λ q. case_in w.view q (cap_of w.paths.caps.items lane))) p)
    → Agree (course_of u f c) p
agree_in_lanes u f paths w is number c there p all =
    let has = has_lane u f paths w is number c there in
    (same_agreement (course_by (edges_of f) (entry_in (lock_in w.view (cap_of w.paths.caps.items has.lane))) (λ q. case_in w.view q (cap_of w.paths.caps.items has.lane))) (course_of u f c)
    (lane_alike u f paths w is number c there has.lane has.is_there) p).0 (all has.lane (within u f paths w is number c there has.lane has.is_there))

pub both : {A B C : Type 0} → A ↔ B → B ↔ C → A ↔ C
both f g = (λ a. g.0 (f.0 a), λ c. f.1 (g.1 c))
