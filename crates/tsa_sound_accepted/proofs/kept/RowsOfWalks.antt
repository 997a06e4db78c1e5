-- Where no rule fails, the rows that are read off walks are kept.
use Rattle.std.proofs.Common.{◌≡◌, ◌∙◌, ℕ, zero, suc, ◌+◌, ◌<◌, ◌≤◌, arith, nat_eq, eqb-true, eq-eqb, Bool, true, false, List, [], ◌∷◌}
use Rattle.std.proofs.Common.{length, Contains, Option, Some, None, is_some, slice_get, slice_index_or, if◌then◌else◌, refl, sym, ap, subst}
use Rattle.tsa_place_model.specs.Ways.{Way}
use Rattle.tsa_place_model.specs.declared.path.Root.TheVariants.{Owner}
use Rattle.tsa_core.specs.Control as control
use Rattle.tsa_core.specs.Control.{Outcome, edge}
use Rattle.tsa_core.specs.Programs.{Function, Program}
use Rattle.tsa_rules.specs.Effects.{effect}
use Rattle.tsa_rules.specs.Fails.{fails}
use Rattle.tsa_rules.specs.KeptRows.{AreKept, ArePossible}
use Rattle.tsa_rules.specs.Points.{edges_of, is_status}
use Rattle.tsa_rules.specs.declared.rule.Rule.{Rule}
use Rattle.tsa_rules.specs.declared.rule.Rule.TheVariants.{TS10}
use Rattle.tsa_rules.specs.declared.status.Status.{Status}
use Rattle.tsa_rules.specs.Walks.{Course, Edge, Fails, IsWalk, LeadsTo, ReachAt, along, course_of, edge_from, entry_edge, on_a_walk}
use Rattle.tsa_rules.specs.Warnings.{HasNoWarnings, warning}
use Rattle.tsa_rules.proofs.EdgeInduction.{carried}
use Rattle.tsa_rules.proofs.OneStatus.{one_status_where_edges_agree}
use Rattle.tsa_rules.proofs.Possible.{statuses_stay_possible}
use Rattle.tsa_sound_accepted.specs.kept.Laws.{RowsAreKeptWhereNoRuleFails, RowsArePossibleWhereNoRuleFails}
use Rattle.tsa_sound_accepted.specs.kept.Visits.{Visit, Visits, Walk, status_along, first_visit, next_visit, or_visit, rows_of, visit_by}
use Rattle.tsa_sound_accepted.specs.kept.Visits.{visits_from, visits_of, visits_with, with_visit}

-- how many of some edges lead where nothing is known to be reached
abbrev one_unless : Bool → ℕ
one_unless true = 0
one_unless false = 1

abbrev open_count : Visits → List control.Edge → ℕ
open_count known [] = 0
open_count known (e ∷ rest) = one_unless (is_some (known e.to)) + open_count known rest

few_open : (known : Visits) (edges : List control.Edge) → open_count known edges ≤ length edges
few_open known [] = omega arith
few_open known (e ∷ rest) =
    let h = few_open known rest in
    by (is_some (known e.to)) h
  where
    by : (b : Bool) → open_count known rest ≤ length rest → one_unless b + open_count known rest ≤ suc (length rest)
    by true h = omega (arith, h)
    by false h = omega (arith, h)

-- what is known stays known
known_with : (p : ℕ) (w : Walk) (known : Visits) (q : ℕ) → is_some (known q) ≡ true → is_some (with_visit p w known q) ≡ true
known_with p w known q h = by (nat_eq p q)
  where
    by : (b : Bool) → is_some (if b then Some w else known q) ≡ true
    by true = refl
    by false = h

known_there : (p : ℕ) (w : Walk) (known : Visits) → is_some (with_visit p w known p) ≡ true
known_there p w known = ap (λ b. is_some (if b then Some w else known p)) (eq-eqb p p refl)

fewer : (a b : Bool) → (a ≡ true → b ≡ true) → one_unless b ≤ one_unless a
fewer true true h = omega arith
fewer true false h = absurd (let z = h refl in cc)
fewer false true h = omega arith
fewer false false h = omega arith

none_more : (p : ℕ) (w : Walk) (known : Visits) (edges : List control.Edge) → open_count (with_visit p w known) edges ≤ open_count known edges
none_more p w known [] = omega arith
none_more p w known (e ∷ rest) =
    let h = none_more p w known rest in
    let g = fewer (is_some (known e.to)) (is_some (with_visit p w known e.to)) (known_with p w known e.to) in
    omega (arith, g, h)

-- The first edge that leads on is one of the edges, from where something is known to where nothing is.
record LeadsOn (known : Visits) (edges : List control.Edge) (v : Visit) : Type 0 where
  from : ℕ
  outcome : Outcome
  walk : Walk
  among : Contains edges (edge from outcome v.point)
  start : known from ≡ Some walk
  end : known v.point ≡ None
  is : v.walk ≡ record { last = edge_from from outcome; before = walk.last ∷ walk.before }

behind : (known : Visits) (e : control.Edge) (edges : List control.Edge) (v : Visit) → LeadsOn known edges v → LeadsOn known (e ∷ edges) v
behind known e edges v x =
    let near : x.among.0 < length edges = x.among.1 in
    record {
      from = x.from;
      outcome = x.outcome;
      walk = x.walk;
      among = (suc x.among.0, omega (arith, near), x.among.2);
      start = x.start;
      end = x.end;
      is = x.is;
    }

leads_on : (known : Visits) (edges : List control.Edge) (v : Visit) → next_visit known edges ≡ Some v → LeadsOn known edges v
leads_on known [] v e = absurd cc
leads_on known (x ∷ edges) v e = by (known x.from) (known x.to) refl refl e (λ h. behind known x edges v (leads_on known edges v h))
  where
    same : {A : Type 0} {a b : A} → Some a ≡ Some b → a ≡ b
    same h = cc

    by : (a b : Option Walk) → known x.from ≡ a → known x.to ≡ b → or_visit (visit_by x a b) (next_visit known edges) ≡ Some v
        → (next_visit known edges ≡ Some v → LeadsOn known (x ∷ edges) v) → LeadsOn known (x ∷ edges) v
    by (Some w) None start end h deeper =
        subst (LeadsOn known (x ∷ edges)) (same h)
        (record { from = x.from; outcome = x.outcome; walk = w; among = (0, omega arith, refl); start = start; end = end; is = refl })
    by (Some w) (Some o) start end h deeper = deeper h
    by None b start end h deeper = deeper h

-- where none leads on, all is known to which edges lead from what is known
nothing_leads : (known : Visits) (x : control.Edge) (a b : Option Walk) (o : Option Visit) → or_visit (visit_by x a b) o ≡ None
    → (o ≡ None) × (is_some a ≡ true → is_some b ≡ true)
nothing_leads known x None b o e = (e, λ h. absurd cc)
nothing_leads known x (Some w) None o e = absurd cc
nothing_leads known x (Some w) (Some v) o e = (e, λ h. refl)

closed : (known : Visits) (edges : List control.Edge) → next_visit known edges ≡ None
    → (p q : ℕ) (o : Outcome) (k : ℕ) → k < length edges → slice_index_or edges k (edge p o q) ≡ edge p o q → is_some (known p) ≡ true → is_some (known q) ≡ true
closed known [] e p q o k less at h = absurd (omega (arith, less))
closed known (x ∷ edges) e p q o zero less at h =
    let here = nothing_leads known x (known x.from) (known x.to) (next_visit known edges) e in
    let from : p ≡ x.from = sym (ap (λ y. y.from) at) in
    let to : x.to ≡ q = ap (λ y. y.to) at in
    ap (λ n. is_some (known n)) (sym to) ∙ here.1 (ap (λ n. is_some (known n)) (sym from) ∙ h)
closed known (x ∷ edges) e p q o (suc k) less at h =
    closed known edges (nothing_leads known x (known x.from) (known x.to) (next_visit known edges) e).0 p q o k (omega (arith, less)) at h

-- where all edges lead to what is known
all_known : (known : Visits) (edges : List control.Edge) → open_count known edges ≤ 0
    → (p q : ℕ) (o : Outcome) (k : ℕ) → k < length edges → slice_index_or edges k (edge p o q) ≡ edge p o q → is_some (known q) ≡ true
all_known known [] few p q o k less at = absurd (omega (arith, less))
all_known known (x ∷ edges) few p q o zero less at =
    let to : x.to ≡ q = ap (λ y. y.to) at in
    ap (λ n. is_some (known n)) (sym to) ∙ by (is_some (known x.to)) few
  where
    by : (b : Bool) → one_unless b + open_count known edges ≤ 0 → b ≡ true
    by true h = refl
    by false h = absurd (omega (arith, h))
all_known known (x ∷ edges) few p q o (suc k) less at = all_known known edges (omega (arith, few)) p q o k (omega (arith, less)) at

-- an edge that leads on leaves fewer such edges
one_fewer : (known : Visits) (edges : List control.Edge) (p q : ℕ) (o : Outcome) (w : Walk) (k : ℕ) → k < length edges
    → slice_index_or edges k (edge p o q) ≡ edge p o q
    → is_some (known q) ≡ false → open_count (with_visit q w known) edges < open_count known edges
one_fewer known [] p q o w k less at none = absurd (omega (arith, less))
one_fewer known (x ∷ edges) p q o w zero less at none =
    let to : q ≡ x.to = sym (ap (λ y. y.to) at) in
    by (is_some (with_visit q w known x.to)) (is_some (known x.to)) (ap (λ n. is_some (with_visit q w known n)) (sym to) ∙ known_there q w known)
    (ap (λ n. is_some (known n)) (sym to) ∙ none) (none_more q w known edges)
  where
    by : (a b : Bool) → a ≡ true → b ≡ false → open_count (with_visit q w known) edges ≤ open_count known edges
        → one_unless a + open_count (with_visit q w known) edges < one_unless b + open_count known edges
    by true false e f h = omega (arith, h)
    by true true e f h = absurd cc
    by false b e f h = absurd cc
one_fewer known (x ∷ edges) p q o w (suc k) less at none =
    let h = one_fewer known edges p q o w k (omega (arith, less)) at none in
    let g = fewer (is_some (known x.to)) (is_some (with_visit q w known x.to)) (known_with q w known x.to) in
    omega (arith, g, h)

-- What comes of it: what was known is known, edges from it lead to what is known, and the walks are such.
module _ (k : Course) where
  abbrev IsVisit : ℕ → Option Walk → Type 0
  IsVisit p None = Unit {0}
  IsVisit p (Some w) = LeadsTo k w.last p × IsWalk k w.last w.before

  AreVisits : Visits → Type 0
  AreVisits known = (p : ℕ) → IsVisit p (known p)

  IsClosed : Visits → Type 0
  IsClosed known = (p q : ℕ) (o : Outcome) → Contains k.edges (edge p o q) → is_some (known p) ≡ true → is_some (known q) ≡ true

  record IsWhole (known : Visits) : Type 0 where
    first : is_some (known 0) ≡ true
    walks : AreVisits known
    all : IsClosed known

  visits_with_one : (known : Visits) (v : Visit) → AreVisits known → LeadsOn known k.edges v → AreVisits (with_visit v.point v.walk known)
  unfolding AreVisits
  visits_with_one known v are x p = by (nat_eq v.point p) refl
    where
      here : v.point ≡ p → IsVisit p (Some v.walk)
      here same =
          subst (λ w. IsVisit p (Some w)) (sym x.is)
          (subst (λ n. Contains k.edges (edge x.from x.outcome n)) same x.among, subst (IsVisit x.from) x.start (are x.from))

      by : (b : Bool) → nat_eq v.point p ≡ b → IsVisit p (if b then Some v.walk else known p)
      by true e = here (eqb-true v.point p e)
      by false e = are p

  abbrev Goes : ℕ → Type 0
  Goes n = (known : Visits) → open_count known k.edges ≤ n → is_some (known 0) ≡ true → AreVisits known → IsWhole (visits_from n k.edges known)

  one_more : (n : ℕ) (known : Visits) → open_count known k.edges ≤ suc n → is_some (known 0) ≡ true → AreVisits known → Goes n
      → (o : Option Visit) → next_visit known k.edges ≡ o → IsWhole (visits_with (visits_from n k.edges) known o)
  unfolding IsClosed
  one_more n known few first are on None e = record { first = first; walks = are; all = λ p q o among h. closed known k.edges e p q o among.0 among.1 among.2 h }
  one_more n known few first are on (Some v) e =
      let x = leads_on known k.edges v e in
      let less = one_fewer known k.edges x.from v.point x.outcome v.walk x.among.0 x.among.1 x.among.2 (ap is_some x.end) in
      on (with_visit v.point v.walk known) (omega (arith, few, less)) (known_with v.point v.walk known 0 first) (visits_with_one known v are x)

  whole : (n : ℕ) → Goes n
  unfolding IsClosed
  whole zero known few first are = record { first = first; walks = are; all = λ p q o among h. all_known known k.edges few p q o among.0 among.1 among.2 }
  whole (suc n) known few first are = one_more n known few first are (whole n) (next_visit known k.edges) refl

  started : AreVisits first_visit
  unfolding AreVisits
  started p = by (nat_eq 0 p) refl
    where
      by : (b : Bool) → nat_eq 0 p ≡ b → IsVisit p (if b then Some (record { last = entry_edge; before = [] }) else None)
      by true e = (sym (eqb-true 0 p e), tt)
      by false e = tt

module _ (u : Program) (quiet : HasNoWarnings u) (n : ℕ) (f : Function) (there : slice_get u.functions n ≡ Some f) where
  none_fails : (p : ℕ) (c : Way) (rule : Rule) → Fails u f p c rule → ⊥
  none_fails p c rule x = quiet (warning n p rule c) (record { function = f; is_there = there; fails = x })

  module _ (c : Way) where
    abbrev course : Course
    course = course_of u f c

    the_whole : IsWhole course (visits_of f)
    unfolding visits_of
    the_whole = whole course (length (edges_of f)) first_visit (few_open first_visit (edges_of f)) refl (started course)

    -- a point that is reached is reached with its status
    reached : (p : ℕ) (o : Option Walk) → IsVisit course p o → is_some o ≡ true → ReachAt course p (status_along u f c o)
    reached p None is h = absurd cc
    reached p (Some w) is h = (w.last, record { leads = is.0; before = w.before; is_walk = is.1; brings = refl })

    reached_at : (p : ℕ) → is_some (visits_of f p) ≡ true → ReachAt course p (status_along u f c (visits_of f p))
    unfolding AreVisits
    reached_at p h = reached p (visits_of f p) (the_whole.walks p) h

    one : (p : ℕ) (s t : Status) → ReachAt course p s → ReachAt course p t → s ≡ t
    one = one_status_where_edges_agree u f c (λ p x. none_fails p c TS10 x)

    possible : (e : Edge) (before : List Edge) (p : ℕ) → IsWalk course e before → LeadsTo course e p → is_status u f c (along course e before) ≡ true
    possible =
        carried course (λ p s. is_status u f c s ≡ true) (statuses_stay_possible.begins u f c)
        (λ p q o s among h. statuses_stay_possible.goes_on u f p c o s h)

    further : (p q : ℕ) (o : Outcome) (s : Status) → Contains (edges_of f) (edge p o q) → ReachAt course p s → ReachAt course q (effect u f p c o s)
    further p q o s among x =
        (edge_from p o, record { leads = among; before = x.0 ∷ x.1.before; is_walk = (x.1.leads, x.1.is_walk); brings = ap (effect u f p c o) x.1.brings })

    passes : (rule : Rule) (p : ℕ) (s : Status) → ReachAt course p s → fails rule u f p c s ≡ false
    passes rule p s x = by (fails rule u f p c s) refl
      where
        by : (b : Bool) → fails rule u f p c s ≡ b → b ≡ false
        by false e = refl
        by true e = absurd (none_fails p c rule (on_a_walk rule x.0 s x.1 e))

  -- some path, since edges are the same for all
  abbrev no_way : Way
  no_way = record { root = Owner; steps = [] }

  kept : (paths : List Way) → AreKept u f paths (rows_of u f)
  unfolding IsClosed
  kept paths = record {
    start = (the_whole no_way).first;
    entry_is = λ c among. one c 0 _ _ (reached_at c 0 (the_whole c).first) (entry_edge, record { leads = refl; before = []; is_walk = tt; brings = refl });
    goes_on = λ p q o h among. (the_whole no_way).all p q o among h;
    goes_along = λ p q o c h among listed. one c q _ _ (reached_at c q ((the_whole c).all p q o among h)) (further c p q o _ among (reached_at c p h));
    breaks_none = λ rule p c h among. passes c rule p _ (reached_at c p h);
  }

  are_possible : (paths : List Way) → ArePossible u f paths (rows_of u f)
  are_possible paths p c h among = let x = reached_at c p h in subst (λ s. is_status u f c s ≡ true) x.1.brings (possible c x.0 x.1.before p x.1.is_walk x.1.leads)

pub rows_are_kept : RowsAreKeptWhereNoRuleFails
rows_are_kept u quiet n f there paths = kept u quiet n f there paths

pub rows_are_possible : RowsArePossibleWhereNoRuleFails
rows_are_possible u quiet n f there paths = are_possible u quiet n f there paths
