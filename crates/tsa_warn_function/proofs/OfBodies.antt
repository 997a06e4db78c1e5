-- In the program of a unit rules fail only at points of bodies.
use Rattle.std.proofs.Common.{◌≡◌, ◌∙◌, ◌+◌, ◌<◌, ℕ, true, false, List, All, length, Option, Some, None, option_map, slice_get, refl, sym}
use Rattle.std.proofs.Common.{subst, arith, true≢false}
use Rattle.std.proofs.lemmas.List.{length-append}
use Rattle.std.proofs.lemmas.List.Elements.{All-contains, All-weaker}
use Rattle.std.proofs.lemmas.Option.{slice_get-map}
use Rattle.tsa_tree.specs.points.Syntax.{points_of_all}
use Rattle.tsa_tree.specs.types.DeclaredTypes.{thing_type}
use Rattle.tsa_tree.specs.types.Units.{outset}
use Rattle.tsa_tree.specs.units.Syntax.{UnitItem}
use Rattle.tsa_place_model.specs.Ways.{Way}
use Rattle.tsa_place_model.specs.Units.{laid_in}
use Rattle.tsa_core.specs.Control as control
use Rattle.tsa_core.specs.Control.{edge}
use Rattle.tsa_core.specs.Laws.{IsInside}
use Rattle.tsa_core.specs.Programs.{Bodied, bodied_function, Declared, declared_functions, Function, function_in, function_of}
use Rattle.tsa_core.specs.Programs.{Program, program_of}
use Rattle.tsa_core.proofs.EdgesInside.{edges_stay_inside}
use Rattle.tsa_core.proofs.TextPoints.{points_are_those}
use Rattle.tsa_rules.specs.declared.rule.Rule.{Rule}
use Rattle.tsa_rules.specs.declared.rule.Rule.TheVariants.{TS01, TS02, TS03, TS04, TS05, TS06, TS07, TS08, TS09, TS10, TS11, TS12}
use Rattle.tsa_rules.specs.declared.status.Status.{Status}
use Rattle.tsa_rules.specs.Fails.{fails}
use Rattle.tsa_rules.specs.Points.{edges_of, points_of}
use Rattle.tsa_rules.specs.Walks.{course_of, Edge, edge_from, entry_edge, Fails, LeadsTo, on_a_walk, Reach, where_edges_meet}
use Rattle.tsa_warn_function.specs.FailureLaws.{RulesFailAtPointsOfBodies}
use Rattle.tsa_base.proofs.Options.{some_same}

module _ (u : Program) (f : Function) (some : 0 < length (points_of f)) (inside : All (λ e. e.to < length (points_of f)) (edges_of f)) (p : ℕ) (c : Way) where
  -- edges lead to points of the body, and so does the entry, where there are some
  leads : (e : Edge) → LeadsTo (course_of u f c) e p → p < length (points_of f)
  leads entry_edge h = subst (λ q. q < length (points_of f)) (sym h) some
  leads (edge_from q o) h = All-contains (λ e. e.to < length (points_of f)) (edges_of f) (edge q o p) inside h

  fails_inside : (rule : Rule) → Fails u f p c rule → p < length (points_of f)
  fails_inside rule (on_a_walk r e s reach broken) = leads e reach.leads
  fails_inside rule (where_edges_meet d e s reach reached lacks) = leads d reach.leads

-- the functions of a unit, by their declarations and bodies
abbrev of_unit : List UnitItem → Declared → Option Bodied → Function
of_unit items d b = function_of (laid_in items) d b

-- a function without a body does nothing at which a rule could fail
nothing_fails : (u : Program) (items : List UnitItem) (d : Declared) (c : Way) (s : Status) (rule : Rule) → fails rule u (of_unit items d None) 0 c s ≡ false
nothing_fails u items d c s TS01 = refl
nothing_fails u items d c s TS02 = refl
nothing_fails u items d c s TS03 = refl
nothing_fails u items d c s TS04 = refl
nothing_fails u items d c s TS05 = refl
nothing_fails u items d c s TS06 = refl
nothing_fails u items d c s TS07 = refl
nothing_fails u items d c s TS08 = refl
nothing_fails u items d c s TS09 = refl
nothing_fails u items d c s TS10 = refl
nothing_fails u items d c s TS11 = refl
nothing_fails u items d c s TS12 = refl

module _ (u : Program) (items : List UnitItem) (d : Declared) (p : ℕ) (c : Way) where
  abbrev bodiless : Function
  bodiless = of_unit items d None

  entered : (e : Edge) → LeadsTo (course_of u bodiless c) e p → (e ≡ entry_edge) × (p ≡ 0)
  entered entry_edge h = (refl, h)
  entered (edge_from q o) h = absurd (omega (arith, h.1))

  none_fails : (rule : Rule) → Fails u bodiless p c rule → ⊥
  none_fails rule (on_a_walk r e s reach broken) =
      let at = entered e reach.leads in
      true≢false (sym (subst (λ q. fails r u bodiless q c s ≡ true) at.1 broken) ∙ nothing_fails u items d c s r)
  none_fails rule (where_edges_meet d e s reach reached lacks) =
      lacks (subst (λ b. Reach (course_of u bodiless c) b p s) ((entered d reach.leads).0 ∙ sym (entered e reached.leads).0) reach)

  by_body : (rule : Rule) (b : Option Bodied) → Fails u (of_unit items d b) p c rule → p < length (points_of (of_unit items d b))
  by_body rule None h = absurd (none_fails rule h)
  by_body rule (Some b) h = fails_inside u f (omega (arith, counted)) inside p c rule h
    where
      f : Function
      f = of_unit items d (Some b)

      counted : length (points_of f) ≡ control.count_all b.body + 1
      counted = (points_are_those b.here (thing_type b.here b.head.result).kind b.body b.head.name.span).1 ∙ length-append (points_of_all b.body) _

      inside : All (λ e. e.to < length (points_of f)) (edges_of f)
      inside = All-weaker (IsInside (control.count_all b.body)) (λ e. e.to < length (points_of f)) (λ e x. omega (arith, x.1, counted)) (edges_of f)
          (edges_stay_inside b.here (thing_type b.here b.head.result).kind b.body)

-- each function of a program is by its declaration, and by its body where it has one
function_by : (u : Program) (items : List UnitItem) (f : Function) (p : ℕ) (c : Way) (rule : Rule) (o : Option Declared) → option_map (function_in (laid_in items) items) o ≡ Some f → Fails u f p c rule
    → p < length (points_of f)
function_by u items f p c rule None is h = absurd cc
function_by u items f p c rule (Some d) is h =
    let same : function_in (laid_in items) items d ≡ f = some_same is in
    subst (λ g. p < length (points_of g)) same (by_body u items d p c rule (bodied_function d.head.name.text (outset items) items) (subst (λ g. Fails u g p c rule) (sym same) h))

pub rules_fail_at_points_of_bodies : RulesFailAtPointsOfBodies
unfolding program_of
rules_fail_at_points_of_bodies items n f p c rule there h =
    let declared = declared_functions (outset items) items in
    function_by (program_of items) items f p c rule (slice_get declared n) (sym (slice_get-map (function_in (laid_in items) items) declared n) ∙ there) h
