-- What is found by all passes is all that fails.
use Rattle.std.proofs.Common.{◌≡◌, ◌∙◌, ◌<◌, ◌⊎◌, inl, inr, ℕ, nat_eq, true, List, [], map, length, Contains, Option, Some, None}
use Rattle.std.proofs.Common.{option_map, slice_get, unwrap_or, refl, sym, ap, ap₂, subst, true≢false, eqb-true}
use Rattle.std.specs.Map.{lookup}
use Rattle.std.proofs.lemmas.Map.Views.{Contains-from_lookup}
use Rattle.std.proofs.lemmas.Option.{get_or_from_slice_get, slice_get-get_or, slice_get-map, slice_get_within}
use Rattle.tsa_place_model.specs.Ways.{Way}
use Rattle.tsa_core.specs.Programs.{Function, Program}
use Rattle.tsa_rules.specs.declared.mark.Mark.{Mark}
use Rattle.tsa_rules.specs.declared.rule.Rule.{Rule}
use Rattle.tsa_rules.specs.declared.rule.Rule.TheVariants.{TS09}
use Rattle.tsa_rules.specs.declared.status.Status.{Status}
use Rattle.tsa_rules.specs.Fails.{fails}
use Rattle.tsa_rules.specs.Marks.{no_mark}
use Rattle.tsa_rules.specs.Points.{points_of}
use Rattle.tsa_rules.specs.Walks.{Fails, on_a_walk, where_edges_meet}
use Rattle.tsa_rules.proofs.Tests.{left_part, right_part}
use Rattle.tsa_rules_table.specs.Rows.{is_place, Rows}
use Rattle.tsa_flow_function.specs.RuleView.{RuleView}
use Rattle.tsa_flow_function.specs.Views.{case_in, IsViewOf}
use Rattle.tsa_warn_function.specs.declared.failure.RuleFailure.{RuleFailure}
use Rattle.tsa_warn_function.specs.declared.spot.TheConstants.{MARK_RULES}
use Rattle.tsa_warn_function.specs.Adding.{Adds}
use Rattle.tsa_warn_function.specs.Failures.{AreFailures, FailsThere}
use Rattle.tsa_warn_function.specs.Passes.{IsOfMarks, IsOfPoints, IsOnWalks}
use Rattle.tsa_warn_function.proofs.ListGrowth.{and_then}
use Rattle.tsa_warn_function.proofs.MarkRules.{not_of_edges, not_of_returns, two_or_asked}
use Rattle.tsa_warn_function.proofs.Leaving.{in_case}
use Rattle.tsa_warn_function.proofs.SilentPoints.{quiet}

abbrev pub places : Rows → List (ℕ × ℕ)
places m = map (λ e. e.0) m.marks

-- a point that says something of a path has a mark of it
same_place : (a b : ℕ × ℕ) → is_place a.0 a.1 b ≡ true → a ≡ b
same_place a b e =
    ap₂ (λ m n. (m, n)) (eqb-true a.0 b.0 (left_part (nat_eq a.0 b.0) (nat_eq a.1 b.1) e)) (eqb-true a.1 b.1 (right_part (nat_eq a.0 b.0) (nat_eq a.1 b.1) e))

among_places : (marks : List ((ℕ × ℕ) × Mark)) (e : (ℕ × ℕ) × Mark) → Contains marks e → Contains (map (λ x. x.0) marks) e.0
among_places marks e (k, within, same) =
    let here : slice_get marks k ≡ Some e = slice_get-get_or marks k e within ∙ ap Some same in
    let there : slice_get (map (λ x. x.0) marks) k ≡ Some e.0 = slice_get-map (λ x. x.0) marks k ∙ ap (option_map (λ x. x.0)) here in
    (k, slice_get_within (map (λ x. x.0) marks) k e.0 there, get_or_from_slice_get (map (λ x. x.0) marks) k e.0 e.0 there)

found : (m : Rows) (p n : ℕ) (o : Option Mark) → lookup (is_place p n) m.marks ≡ o → (unwrap_or o no_mark ≡ no_mark → ⊥) → Contains (places m) (p, n)
found m p n None is says = absurd (says refl)
found m p n (Some x) is says = among_places m.marks ((p, n), x) (Contains-from_lookup {eq = λ a b. is_place a.0 a.1 b} same_place (p, n) x m.marks is)

module _ (u : Program) (f : Function) (paths : List Way) (v : RuleView) (is : IsViewOf u f paths v) where
  noted : (rule : Rule) (p n : ℕ) (c : Way) (s : Status) → p < length (points_of f) → slice_get paths n ≡ Some c → (rule ≡ TS09 → ⊥) → fails rule u f p c s ≡ true → Contains (places v.notes.marks) (p, n)
  noted rule p n c s within there other broken =
      found v.notes.marks p n (lookup (is_place p n) v.notes.marks.marks) refl
      (λ none. true≢false (sym (in_case u f paths v is rule p n c s within there broken) ∙ quiet rule (case_in v p n) s none other))

  abbrev Marked : RuleFailure → Type 0
  Marked = IsOfMarks u f paths (places v.notes.marks)

  apart : (x : RuleFailure) → Marked x → IsOfPoints u f paths x → ⊥
  apart x h g = elim g [ inl r ↦ not_of_returns (subst (Contains MARK_RULES) r.0 h.asked) | inr e ↦ not_of_edges (subst (Contains MARK_RULES) e.rule h.asked) ]

  on_walk : (rule : Rule) (p n : ℕ) (c : Way) → IsOnWalks u f paths (record { point = p; rule = rule; cap = n })
      → Marked (record { point = p; rule = rule; cap = n }) ⊎ IsOfPoints u f paths (record { point = p; rule = rule; cap = n })
  on_walk rule p n c h = elim (two_or_asked rule) [
    | inl return ↦ inr (inl (return, h))
    | inr other ↦ elim other [
      | inl edges ↦ absurd (true≢false (sym h.breaks.1.1 ∙ ap (λ r. fails r u f p h.path h.breaks.0) edges))
      | inr asked ↦ inl (record {
        noted = noted rule p n h.path h.breaks.0 h.within h.is_there (λ e. not_of_returns (subst (Contains MARK_RULES) e asked)) h.breaks.1.1;
        asked = asked;
        on_walks = h;
      })
    ]
  ]

  split_by : (rule : Rule) (p n : ℕ) (c : Way) → p < length (points_of f) → slice_get paths n ≡ Some c → Fails u f p c rule
      → Marked (record { point = p; rule = rule; cap = n }) ⊎ IsOfPoints u f paths (record { point = p; rule = rule; cap = n })
  split_by rule p n c within there (on_a_walk r e s reach broken) = on_walk r p n c (record { within = within; path = c; is_there = there; breaks = (s, ((e, reach), broken)) })
  split_by rule p n c within there (where_edges_meet d e s reach reached lacks) =
      inr (inr (record { within = within; path = c; is_there = there; rule = refl; disagree = record { one = d; other = e; status = s; brings = reach; reached = reached; lacks = lacks } }))

  split : (x : RuleFailure) → FailsThere u f paths x → Marked x ⊎ IsOfPoints u f paths x
  split x h = split_by x.rule x.point x.cap h.path h.within h.is_there h.fails

  on_walks : (x : RuleFailure) → IsOnWalks u f paths x → FailsThere u f paths x
  on_walks x h = record { within = h.within; path = h.path; is_there = h.is_there; fails = on_a_walk x.rule h.breaks.1.0.0 h.breaks.0 h.breaks.1.0.1 h.breaks.1.1 }

  right : (x : RuleFailure) → IsOfPoints u f paths x → FailsThere u f paths x
  right x h = elim h [
    | inl r ↦ on_walks x r.1
    | inr e ↦ record {
      within = e.within;
      path = e.path;
      is_there = e.is_there;
      fails = subst (Fails u f x.point e.path) (sym e.rule) (where_edges_meet e.disagree.one e.disagree.other e.disagree.status e.disagree.brings e.disagree.reached e.disagree.lacks);
    }
  ]

  pub whole : (mid new : List RuleFailure) → Adds Marked [] mid → Adds (IsOfPoints u f paths) mid new → AreFailures u f paths new
  whole mid new first second =
      let h = and_then Marked (IsOfPoints u f paths) (FailsThere u f paths) [] mid new apart split (λ x y. on_walks x y.on_walks) right first second in
      subst (AreFailures u f paths) (sym h.behind) (record { told = h.told; all = h.all; once = h.once })
