-- Where edges agree, walks into a point bring one status: by the edges before the last one.
use Rattle.std.proofs.Common.{◌≡◌, ℕ, Bool, true, false, List, [], ◌∷◌, refl, sym, ◌∙◌, ap, eq-eqb}
use Rattle.tsa_place_model.specs.Ways.{Way}
use Rattle.tsa_core.specs.Control.{Outcome}
use Rattle.tsa_core.specs.Programs.{Function, Program}
use Rattle.tsa_rules.specs.Statuses.{Status, Free, Shared, Exclusive, Lent, Pending, same_status}
use Rattle.tsa_rules.specs.Fails.{TS10}
use Rattle.tsa_rules.specs.Walks.{Course, course_of, Edge, entry_edge, edge_from, LeadsTo, IsWalk, along, Reach, Fails, where_edges_meet}
use Rattle.tsa_rules.specs.StatusLaws.{OneStatusWhereEdgesAgree}
use Rattle.tsa_rules.proofs.Tests.{never, same}

same_itself : (s : Status) → same_status s s ≡ true
same_itself Free = refl
same_itself Shared = refl
same_itself (Exclusive n) = eq-eqb n n refl
same_itself Lent = refl
same_itself (Pending v) = eq-eqb v v refl

-- statuses that can't be different are the same
by_test : (s t : Status) (b : Bool) → same_status s t ≡ b → ((s ≡ t → ⊥) → ⊥) → s ≡ t
by_test s t true e h = same s t e
by_test s t false e h = absurd (h (λ same. never (sym (same_itself s) ∙ (ap (same_status s) same ∙ e))))

settled : (s t : Status) → ((s ≡ t → ⊥) → ⊥) → s ≡ t
settled s t h = by_test s t (same_status s t) refl h

-- a status after a point is that of a walk through it, where all walks into the point bring the one before
through : (k : Course) (q p : ℕ) (o : Outcome) (s t : Status) → ((d : Edge) (r : Status) → Reach k d q r → s ≡ r)
    → (before : List Edge) → IsWalk k (edge_from q o) before → along k (edge_from q o) before ≡ t → k.effect q o s ≡ t
through k q p o s t one [] w e = absurd w
through k q p o s t one (d ∷ before) w e =
    ap (k.effect q o) (one d (along k d before) (record { leads = w.0; before = before; is_walk = w.1; brings = refl })) ∙ e

one : (u : Program) (f : Function) (c : Way) → ((p : ℕ) → Fails u f p c TS10 → ⊥)
    → (e : Edge) (before : List Edge) (p : ℕ) → IsWalk (course_of u f c) e before → LeadsTo (course_of u f c) e p
    → (d : Edge) (t : Status) → Reach (course_of u f c) d p t → along (course_of u f c) e before ≡ t
one u f c agree entry_edge [] p w leads d t r =
    settled (along (course_of u f c) entry_edge []) t (λ differ.
    agree p (where_edges_meet d entry_edge t r (record { leads = leads; before = []; is_walk = w }) (λ x. differ x.brings)))
one u f c agree entry_edge (b ∷ before) p w leads d t r = absurd w
one u f c agree (edge_from q o) [] p w leads d t r = absurd w
one u f c agree (edge_from q o) (b ∷ before) p w leads d t r =
    settled (along (course_of u f c) (edge_from q o) (b ∷ before)) t (λ differ.
    agree p (where_edges_meet d (edge_from q o) t r (record { leads = leads; before = b ∷ before; is_walk = w })
    (λ x. differ (through (course_of u f c) q p o (along (course_of u f c) b before) t (λ y v z. one u f c agree b before q w.1 w.0 y v z) x.before x.is_walk x.brings))))

pub one_status_where_edges_agree : OneStatusWhereEdgesAgree
one_status_where_edges_agree u f c agree p s t x y =
    sym x.1.brings ∙ one u f c agree x.0 x.1.before p x.1.is_walk x.1.leads y.0 t y.1
