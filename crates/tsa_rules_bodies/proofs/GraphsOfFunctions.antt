-- The graph that is made of a body is that of the program's function for which the body stands.
use Rattle.std.proofs.Common.{◌≡◌, ◌∙◌, ◌+◌, ℕ, Bool, true, false, length, List, [], ◌∷◌, Option, Some, None, is_some, slice_get, refl, sym}
use Rattle.std.proofs.Common.{ap, subst, ◌<◌, All, arith}
use Rattle.std.proofs.lemmas.List.{length-append}
use Rattle.std.proofs.lemmas.List.Elements.{All-weaker}
use Rattle.tsa_tree.specs.points.Syntax.{PlacedDeed, ends, points_of_all}
use Rattle.tsa_tree.specs.statements.Shapes.{stmt_shapes}
use Rattle.tsa_tree.specs.types.FirstFailing.{first_failing}
use Rattle.tsa_tree.specs.units.Syntax.{UnitItem}
use Rattle.tsa_base.specs.declared.token.Span.{Span}
use Rattle.tsa_core.specs.Bodies.{Body}
use Rattle.tsa_core.specs.Control.{Edge, body_edges, count_all}
use Rattle.tsa_core.specs.Laws.{IsInside}
use Rattle.tsa_core.proofs.EdgesInside.{edges_stay_inside}
use Rattle.tsa_core.specs.Programs.{Function, program_of}
use Rattle.tsa_core.proofs.TextPoints.{points_are_those}
use Rattle.tsa_graph.specs.declared.blocks.Graph.{Graph}
use Rattle.tsa_graph.specs.Graphs.{IsGraph}
use Rattle.tsa_rules.specs.Points.{edges_of, points_of}
use Rattle.tsa_rules_bodies.specs.declared.search.BodySite.{BodySite}
use Rattle.tsa_rules_bodies.specs.declared.inside.Inside.{Inside}
use Rattle.tsa_rules_bodies.specs.Entering.{IsOf}
use Rattle.tsa_rules_bodies.specs.Finding.{IsFound}
use Rattle.tsa_rules_bodies.specs.Knowing.{Knowledge}
use Rattle.tsa_rules_bodies.specs.Laws.{StandsFor, body_at, result_at}
use Rattle.tsa_rules_bodies.specs.Sites.{Site, site_of, within}
use Rattle.tsa_profile.specs.Units.{unit_of}
use Rattle.tsa_rules_bodies.proofs.SiteLaws.{sites_are_of_the_program}
use Rattle.tsa_rules_bodies.specs.Controls.{IsControlOf, IsGraphIn}

abbrev end_at : Span → PlacedDeed
end_at close = record { deed = ends; span = close }

-- what was made of the body of a function
abbrev pub IsMadeOf : Knowledge → Inside → Graph → Type 0
IsMadeOf k i g = IsGraph (count_all (stmt_shapes i.body.now) + 1) (body_edges k.here (stmt_shapes i.body.now)) g

abbrev AreBetween : ℕ → List Edge → Type 0
AreBetween n es = All (λ e. (e.from < n) × (e.to < n)) es

all_between : (end : ℕ) (es : List Edge) → All (IsInside end) es → AreBetween (end + 1) es
all_between end es h = All-weaker (IsInside end) (λ e. (e.from < end + 1) × (e.to < end + 1)) (λ e x. (omega (arith, x.0), omega (arith, x.1))) es h

points_by : (f : Function) (b : Body) → f.body ≡ Some b → points_of f ≡ b.points
points_by f b is = rw is refl

edges_by : (f : Function) (b : Body) → f.body ≡ Some b → edges_of f ≡ b.edges
edges_by f b is = rw is refl

has_body_by : (f : Function) (b : Body) → f.body ≡ Some b → is_some f.body ≡ true
has_body_by f b is = rw is refl

-- the body of a site that stands for a function
module _ (items : List UnitItem) (n : ℕ) (f : Function) (s : Site) (stands : StandsFor items n f s) (k : Knowledge) (i : Inside) (of : IsOf (unit_of [] items) n s k i) where
  counted : (close : Span) → length (points_of f) ≡ count_all s.body + 1
  counted close =
      ap length (points_by f (body_at s) stands.body)
      ∙ (points_are_those (within s) (result_at s) s.body close).1
      ∙ length-append (points_of_all s.body) (end_at close ∷ [])

  pub controlled : (g : Graph) → IsMadeOf k i g → IsControlOf f g
  controlled g made =
      let points = counted i.head.now.name.span in
      let edges : edges_of f ≡ body_edges (within s) s.body = edges_by f (body_at s) stands.body in
      let shown = subst (λ here. IsGraph (count_all s.body + 1) (body_edges here s.body) g) of.here (subst (λ ss. IsGraph (count_all ss + 1) (body_edges k.here ss) g) of.body_is made) in
      let inside = all_between (count_all s.body) (body_edges (within s) s.body) (edges_stay_inside (within s) (result_at s) s.body) in
      record {
        has_body = has_body_by f (body_at s) stands.body;
        graph = subst (λ es. IsGraph (length (points_of f)) es g) (sym edges) (subst (λ m. IsGraph m (body_edges (within s) s.body) g) (sym points) shown);
        between = subst (λ es. AreBetween (length (points_of f)) es) (sym edges) (subst (λ m. AreBetween m (body_edges (within s) s.body)) (sym points) inside);
      }

module _ (items : List UnitItem) (n : ℕ) (typed : first_failing items ≡ None) where
  there_by : (f : Function) (has : Bool) → slice_get (program_of items).functions n ≡ Some f → is_some f.body ≡ has → (b : BodySite) (g : Graph)
      → IsFound (unit_of [] items) n (site_of items n) (Some b) → IsMadeOf b.known b.inside g → IsGraphIn (Some f) (Some g)
  there_by f true at body b g found made =
      let stands = sites_are_of_the_program.of_bodies items n f typed at body in
      controlled items n f stands.0 stands.1.1 b.known b.inside (subst (λ o. IsFound (unit_of [] items) n o (Some b)) stands.1.0 found) g made
  there_by f false at body b g found made = absurd (subst (λ o. IsFound (unit_of [] items) n o (Some b)) (sites_are_of_the_program.of_no_body items n f typed at body) found)

  nowhere_by : (f : Function) (has : Bool) → slice_get (program_of items).functions n ≡ Some f → is_some f.body ≡ has
      → IsFound (unit_of [] items) n (site_of items n) None → is_some f.body ≡ false
  nowhere_by f true at body found =
      absurd (subst (λ o. IsFound (unit_of [] items) n o None) (sites_are_of_the_program.of_bodies items n f typed at body).1.0 found)
  nowhere_by f false at body found = body

  pub graph_there : (o : Option Function) → slice_get (program_of items).functions n ≡ o → (b : BodySite) (g : Graph)
      → IsFound (unit_of [] items) n (site_of items n) (Some b) → IsMadeOf b.known b.inside g → IsGraphIn o (Some g)
  graph_there None at b g found made = absurd (subst (λ o. IsFound (unit_of [] items) n o (Some b)) (sites_are_of_the_program.of_no_function items n typed at) found)
  graph_there (Some f) at b g found made = there_by f (is_some f.body) at refl b g found made

  pub graph_nowhere : (o : Option Function) → slice_get (program_of items).functions n ≡ o → IsFound (unit_of [] items) n (site_of items n) None → IsGraphIn o None
  graph_nowhere None at found = refl
  graph_nowhere (Some f) at found = nowhere_by f (is_some f.body) at refl found
