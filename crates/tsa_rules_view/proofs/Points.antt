-- The points of a body that were noted are those of the program's function.
use Rattle.std.proofs.Common.{◌≡◌, ◌∙◌, ◌<◌, ℕ, List, [], ◌∷◌, ◌++◌, All, length, map, Option, Some, None, option_map, slice_get, get_or}
use Rattle.std.proofs.Common.{refl, sym, ap, ap₂, subst}
use Rattle.std.proofs.lemmas.List.{get_or-map}
use Rattle.std.proofs.lemmas.Option.{get_or_from_slice_get, slice_get_within}
use Rattle.std.specs.List.{flat_map}
use Rattle.tsa_base.specs.declared.token.Span.{Span}
use Rattle.tsa_tree.specs.declared.kind.Kind.{Kind}
use Rattle.tsa_tree.specs.points.Syntax.{Deed, declares, evaluates, assigns, tests, switches, jumps, idles, returns, ends}
use Rattle.tsa_tree.specs.units.Syntax.{UnitItem}
use Rattle.tsa_place_model.specs.Ways.{Way}
use Rattle.tsa_core.specs.Bodies.{Known, knows, known_in_body, kinds_by}
use Rattle.tsa_core.specs.Meanings.{Call}
use Rattle.tsa_core.specs.Programs.{Attr, Function, Program, program_of}
use Rattle.tsa_core.specs.Uses.{uses_of}
use Rattle.tsa_core.proofs.MappedLists.{map_at, map_length}
use Rattle.tsa_core_points.specs.CoreLaws.{known_of, seen_at}
use Rattle.tsa_core_points.specs.Points.{PlacedPoint}
use Rattle.tsa_core_points.specs.Walks.{placed_in_body}
use Rattle.tsa_core_points.proofs.PointsOfCore.{placed_are_known, points_are_of_the_core, uses_are_of_the_core}
use Rattle.tsa_rules.specs.Attributes.{all_as_called}
use Rattle.tsa_rules.specs.Marks.{mark_by, mark_of}
use Rattle.tsa_rules.specs.Points.{attrs_at, attrs_called, local_begun, or_idle, or_unused, point_at, points_of, uses_at}
use Rattle.tsa_rules_bodies.specs.Units.{stable_of, unit_of}
use Rattle.tsa_profile_points.specs.Bodies.{Around}
use Rattle.tsa_profile_points.specs.Ways.{called_at}
use Rattle.tsa_rules_bodies.proofs.BodyWays.{called_same}
use Rattle.tsa_rules_table.specs.Rows.{Rows, mark_in}
use Rattle.tsa_rules_points.proofs.Begun.{begun_is}
use Rattle.tsa_rules_points.specs.Marking.{IsRowOf}
use Rattle.tsa_rules_points.specs.Points.{Agrees, AllAgree, begun_here, called_attributes, core_at, uses_here}
use Rattle.tsa_rules_bodies.specs.Laws.{StandsFor, body_at, result_at}
use Rattle.tsa_rules_bodies.specs.Laws as site
use Rattle.tsa_rules_bodies.specs.Sites.{Site, within}
use Rattle.tsa_place_model.specs.LockPaths.{stable_in}
use Rattle.tsa_rules_view.specs.Views.{number_called}
use Rattle.tsa_rules_bodies.proofs.PathTables.{map_both}

-- the attributes of what is called, by the call and by its function's number
called_by_number : (known : List (List Attr)) (c : Option Call) → site.called_attributes known c ≡ called_attributes known (option_map (λ x. x.function) c)
called_by_number known None = refl
called_by_number known (Some c) = refl

map_same : {A B : Type 0} (f g : A → B) (xs : List A) → ((x : A) → f x ≡ g x) → map f xs ≡ map g xs
map_same f g [] h = refl
map_same f g (x ∷ xs) h = ap₂ (λ y ys. y ∷ ys) (h x) (map_same f g xs h)

flat_same : {A B : Type 0} (f : A → List B) (g : Known → List B) (to : A → Known) (xs : List A) → ((x : A) → f x ≡ g (to x)) → flat_map f xs ≡ flat_map g (map to xs)
flat_same f g to [] h = refl
flat_same f g to (x ∷ xs) h = ap₂ (λ y ys. y ++ ys) (h x) (flat_same f g to xs h)

module _ (items : List UnitItem) (n : ℕ) (f : Function) (s : Site) (h : StandsFor items n f s) (a : Around) (close : Span)
    (layout_is : a.layout ≡ (program_of items).layout) (attributes_is : a.attributes ≡ s.attributes) (stable_is : a.stable ≡ stable_of (unit_of [] items) s.head) where
  abbrev pub u : Program
  u = program_of items

  abbrev pub kind : Kind
  kind = result_at s

  abbrev pub qs : List PlacedPoint
  qs = placed_in_body (within s) s.body close

  body_points : points_of f ≡ (body_at s).points
  body_points = rw h.body refl

  pub points : map (core_at kind) qs ≡ points_of f
  points = points_are_of_the_core (within s) kind s.body close ∙ sym body_points

  stable : a.stable ≡ stable_in (body_at s).stable
  stable = stable_is ∙ h.stable

  uses : map (λ q. uses_of a.layout a.stable (known_of q)) qs ≡ f.uses
  uses =
      ap₂ (λ l st. map (λ q. uses_of l st (known_of q)) qs) layout_is stable
      ∙ uses_are_of_the_core u.layout (stable_in (body_at s).stable) (within s) s.body close
      ∙ sym h.uses

  module _ (p : ℕ) (q : PlacedPoint) (at : slice_get qs p ≡ Some q) where
    pub point_is : core_at kind q ≡ point_at f p
    point_is = ap or_idle (sym (map_at (core_at kind) qs p ∙ ap (option_map (core_at kind)) at) ∙ ap (λ xs. slice_get xs p) points)

    uses_is : uses_here a (known_of q) ≡ uses_at f p
    uses_is =
        ap or_unused (sym (map_at (λ x. uses_of a.layout a.stable (known_of x)) qs p ∙ ap (option_map (λ x. uses_of a.layout a.stable (known_of x))) at) ∙ ap (λ xs. slice_get xs p) uses)

    -- what a row says is the mark of the point
    pub mark_is : Agrees u a kind q → (paths : List Way) (m : Rows) → IsRowOf a paths m p (known_of q) → (number : ℕ) (c : Way) → slice_get paths number ≡ Some c
        → mark_in m p number ≡ mark_of u f p c
    mark_is agrees paths m row number c there =
        row number c there
        ∙ ap₂ (λ attrs us. mark_by (all_as_called us.arguments attrs) us.right us.left (begun_here (known_of q)) c) (agrees ∙ ap (λ x. attrs_called u x.call) point_is) uses_is
        ∙ ap (λ begun. mark_by (attrs_at u f p) (uses_at f p).right (uses_at f p).left begun c) (begun_is kind q.here q.deed ∙ ap (λ x. local_begun x.action) point_is)

  -- the functions that are called have the attributes that are known
  pub agree : AllAgree u a kind qs
  agree k d less =
      let all = subst (All (λ x. site.called_attributes s.attributes x.call ≡ attrs_called u x.call)) (sym points) h.calls in
      let x : site.called_attributes s.attributes (core_at kind (get_or qs k d)).call ≡ attrs_called u (core_at kind (get_or qs k d)).call =
      subst (λ x. site.called_attributes s.attributes x.call ≡ attrs_called u x.call) (get_or-map (core_at kind) qs k d (core_at kind d) less)
      (all k (core_at kind d) (subst (λ m. k < m) (sym (map_length (core_at kind) qs)) less))
      in
      let q = get_or qs k d in
      ap (called_attributes a.attributes) (called_same kind q.here q.deed)
      ∙ ap (λ known. called_attributes known (option_map (λ c. c.function) (core_at kind q).call)) attributes_is
      ∙ sym (called_by_number s.attributes (core_at kind q).call)
      ∙ x

  pub agrees_at : (p : ℕ) (q : PlacedPoint) → slice_get qs p ≡ Some q → Agrees u a kind q
  agrees_at p q at = subst (Agrees u a kind) (get_or_from_slice_get qs p q q at) (agree p q (slice_get_within qs p q at))

  -- what is called at each point, and the kinds of the locals
  pub callees : map (λ q. called_at (known_of q)) qs ≡ map number_called (points_of f)
  callees = map_same (λ q. called_at (known_of q)) (λ q. number_called (core_at kind q)) qs (λ q. called_same kind q.here q.deed) ∙ sym (map_both number_called (core_at kind) qs) ∙ ap (map number_called) points

  pub count : length qs ≡ length (points_of f)
  count = sym (map_length (core_at kind) qs) ∙ ap length points

  kinds_kept : (k : Known) → kinds_by k.here k.deed ≡ kinds_by (seen_at k).here (seen_at k).deed
  kinds_kept k = by k.deed
    where
      by : (d : Deed) → kinds_by k.here d ≡ kinds_by (seen_at (knows k.here d)).here (seen_at (knows k.here d)).deed
      by (declares d) = refl
      by (evaluates e) = refl
      by (assigns left o right) = refl
      by (tests e) = refl
      by (switches e) = refl
      by jumps = refl
      by idles = refl
      by (returns e) = refl
      by ends = refl

  pub kinds : flat_map (λ q. kinds_by q.here q.deed) qs ≡ (body_at s).locals
  kinds =
      flat_same (λ q. kinds_by q.here q.deed) (λ k. kinds_by k.here k.deed) (λ q. seen_at (known_of q)) qs (λ q. kinds_kept (known_of q))
      ∙ ap (flat_map (λ k. kinds_by k.here k.deed)) (placed_are_known (within s) s.body close)
      ∙ sym (flat_same (λ k. kinds_by k.here k.deed) (λ k. kinds_by k.here k.deed) seen_at (known_in_body (within s) s.body) kinds_kept)
