-- How far the bodies of a unit are told, item by item.
use Rattle.std.proofs.Common.{◌≡◌, ◌∙◌, ℕ, suc, ◌+◌, arith, List, [], ◌∷◌, ◌++◌, Some, None, drop, refl, sym, ap, subst, append_assoc}
use Rattle.std.proofs.Common.{append-nil}
use Rattle.tsa_tree.specs.declared.item.Item.{Item}
use Rattle.tsa_tree.specs.declared.item.Item.TheVariants as item
use Rattle.tsa_tree.specs.units.Shapes.{HaveTheirPoints, item_shape, item_shapes}
use Rattle.tsa_tree.specs.types.Units.{behind_item}
use Rattle.tsa_tree.specs.units.Syntax.{UnitItem}
use Rattle.tsa_warn_bodies.specs.Units.{unit_of}
use Rattle.tsa_warn_bodies.specs.Bodies.{BodyText, IsToldBody, Tells, bodies_from, bodies_of, body_by}
use Rattle.tsa_warn_bodies.specs.Courses.{Course, IsInFrontOf, course_behind, course_outset}
use Rattle.tsa_warn_bodies.specs.declared.body_rows.ToldBody.{ToldBody}
use Rattle.tsa_warn_bodies.proofs.Reading.{in_front_of_first, in_front_of_next}

-- so many items are behind, these bodies of theirs are told, and this is known
pub record IsTold (trees : List Item) (i : ℕ) (c : Course) (done : List BodyText) : Type 0 where
  pub points : HaveTheirPoints (drop i trees)
  pub ahead : IsInFrontOf (item_shapes trees) (item_shapes (drop i trees)) c
  pub whole : bodies_of (item_shapes trees) ≡ done ++ bodies_from c.known.here (item_shapes (drop i trees))

own_points : (x : Item) (rest : List Item) → HaveTheirPoints (x ∷ rest) → HaveTheirPoints (x ∷ []) × HaveTheirPoints rest
own_points (item.Function f) rest h = ((h.0, tt), h.1)
own_points (item.Structure s) rest h = (tt, h)
own_points (item.Alias a) rest h = (tt, h)
own_points (item.Enumeration e) rest h = (tt, h)
own_points (item.Global d) rest h = (tt, h)

plus_one : (i : ℕ) → suc i ≡ i + 1
plus_one i = omega arith

module _ (trees : List Item) where
  abbrev items : List UnitItem
  items = item_shapes trees

  pub none_told : HaveTheirPoints trees → IsTold trees 0 (course_outset (unit_of [] items)) []
  none_told points = record { points = points; ahead = in_front_of_first items; whole = refl }

  -- by what is known at the outset
  pub outset_told : (wanted : List Item) → trees ≡ wanted → (outside : List ℕ) → outside ≡ [] → (k : Course) → k ≡ course_outset (unit_of outside items) → HaveTheirPoints wanted
      → IsTold trees 0 k []
  outset_told wanted e outside none k is points =
      subst (λ y. IsTold trees 0 y []) (sym (is ∙ ap (λ o. course_outset (unit_of o items)) none)) (none_told (subst HaveTheirPoints (sym e) points))

  module _ (i : ℕ) (x : Item) (c : Course) (done : List BodyText) (at_i : drop i trees ≡ x ∷ drop (suc i) trees) (t : IsTold trees i c done) where
    pub ahead_of : IsInFrontOf items (item_shape x ∷ item_shapes (drop (suc i) trees)) c
    ahead_of = subst (λ xs. IsInFrontOf items (item_shapes xs) c) at_i t.ahead

    pub points_of_it : HaveTheirPoints (x ∷ [])
    points_of_it = (own_points x (drop (suc i) trees) (subst HaveTheirPoints at_i t.points)).0

    -- the bodies that are left
    abbrev pub later : List BodyText
    later = bodies_from (behind_item c.known.here (item_shape x)) (item_shapes (drop (suc i) trees))

    pub at_body : (b : BodyText) → body_by c.known.here (item_shape x) ≡ b ∷ [] → bodies_of items ≡ done ++ b ∷ later
    unfolding bodies_from
    at_body b is = t.whole ∙ ap (λ xs. done ++ bodies_from c.known.here (item_shapes xs)) at_i ∙ ap (λ n. done ++ (n ++ later)) is

    pub one_told : (new : Course) → new ≡ course_behind (unit_of [] items) c (item_shape x) → IsTold trees (i + 1) new (done ++ body_by c.known.here (item_shape x))
    unfolding bodies_from
    one_told new is =
        subst (λ j. IsTold trees j new (done ++ body_by c.known.here (item_shape x))) (plus_one i)
        (record {
          points = (own_points x (drop (suc i) trees) (subst HaveTheirPoints at_i t.points)).1;
          ahead = in_front_of_next items c new (item_shape x) (item_shapes (drop (suc i) trees)) is ahead_of;
          whole =
              t.whole
              ∙ ap (λ xs. done ++ bodies_from c.known.here (item_shapes xs)) at_i
              ∙ sym (append_assoc done (body_by c.known.here (item_shape x)) _)
              ∙ ap (λ k. (done ++ body_by c.known.here (item_shape x)) ++ bodies_from k.known.here (item_shapes (drop (suc i) trees))) (sym is);
        })

  pub all_told : (i : ℕ) (c : Course) (done : List BodyText) → drop i trees ≡ [] → IsTold trees i c done → bodies_of items ≡ done
  unfolding bodies_from
  all_told i c done end t = t.whole ∙ ap (λ xs. done ++ bodies_from c.known.here (item_shapes xs)) end ∙ append-nil done

-- what a told body says of the bodies of its item
module _ (items : List UnitItem) where
  pub the_body : (bodies : List BodyText) (t : ToldBody) → Tells items bodies (Some t) → (b : BodyText) × ((bodies ≡ b ∷ []) × IsToldBody items b t)
  the_body [] t h = absurd h
  the_body (b ∷ []) t h = (b, (refl, h))
  the_body (b ∷ c ∷ bodies) t h = absurd h

  pub no_body : (bodies : List BodyText) → Tells items bodies None → bodies ≡ []
  no_body [] h = refl
  no_body (b ∷ []) h = absurd h
  no_body (b ∷ c ∷ bodies) h = absurd h
