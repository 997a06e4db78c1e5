-- A point that is noted behind others.
use Rattle.std.proofs.Common.{◌≡◌, ◌∙◌, ◌<◌, ℕ, zero, suc, ◌+◌, arith, Bool, true, false, ◌||◌, List, [], ◌∷◌, ◌++◌, All, length, map, Some}
use Rattle.std.proofs.Common.{None, is_some, if◌then◌else◌, slice_get, refl, sym, ap, ap₂, subst}
use Rattle.std.proofs.lemmas.Grind.{flat_map-append}
use Rattle.std.proofs.lemmas.List.{append-nil, get_or-append-add, get_or_append_left, length-append, map-append}
use Rattle.std.proofs.lemmas.Option.{slice_get_within}
use Rattle.std.specs.List.{list_any, flat_map}
use Rattle.tsa_base.specs.declared.token.Span.{Span}
use Rattle.tsa_tree.specs.declared.attr.AttrKind.{AttrKind}
use Rattle.tsa_tree.specs.declared.attr.AttrKind.TheVariants as attr
use Rattle.tsa_tree.specs.declared.kind.Kind.{Kind}
use Rattle.tsa_tree.specs.points.Syntax.{Deed, declares, evaluates, assigns, tests, switches, jumps, idles, returns, ends}
use Rattle.tsa_tree.specs.types.Scopes.{Scope}
use Rattle.tsa_place_model.specs.Ways.{Way}
use Rattle.tsa_core.specs.Bodies.{Point, declared, kinds_by}
use Rattle.tsa_core.specs.Programs.{Attr, Program}
use Rattle.tsa_place_model.proofs.GlobalsInRow.{by_last}
use Rattle.tsa_path.specs.PathTables.{AreDifferent}
use Rattle.tsa_core_points.specs.CoreLaws.{known_of}
use Rattle.tsa_core_points.specs.Points.{PlacedPoint, placed}
use Rattle.tsa_rules.specs.Attributes as rules
use Rattle.tsa_rules.specs.Points.{local_begun, try_variable_at}
use Rattle.tsa_rules.specs.TryVariables.{AreInOrder, begun_count}
use Rattle.tsa_rules_roles.specs.declared.duty.Duty.{Duty}
use Rattle.tsa_rules_roles.specs.Duties.{Tells}
use Rattle.tsa_rules_roles.specs.ProgramDuties.{AreRoles, Grows}
use Rattle.tsa_profile_accesses.specs.Locks as seen
use Rattle.tsa_rules_table.specs.Rows.{rows_in}
use Rattle.tsa_profile_points.specs.Bodies.{Around}
use Rattle.tsa_profile_points.specs.Ways.{called_at}
use Rattle.tsa_rules_points.specs.declared.notes.Notes.{Notes}
use Rattle.tsa_rules_points.specs.Marking.{AddsRow, IsRowOf}
use Rattle.tsa_rules_points.specs.Notes.{AreNotes}
use Rattle.tsa_rules_points.specs.Points.{Agrees, AllAgree, begins_a_try, begins_a_try_by, begun_by, called_attributes, core_at}
use Rattle.tsa_rules_points.proofs.Begun.{begun_is}

-- two ways to say which kinds are tries
same_kind : (k : AttrKind) → rules.is_try k ≡ seen.is_try k
same_kind attr.Capability = refl
same_kind attr.GuardedBy = refl
same_kind attr.Requires = refl
same_kind attr.RequiresShared = refl
same_kind attr.Acquire = refl
same_kind attr.AcquireShared = refl
same_kind attr.Release = refl
same_kind attr.ReleaseShared = refl
same_kind attr.ReleaseGeneric = refl
same_kind attr.TryAcquire = refl
same_kind attr.TryAcquireShared = refl
same_kind attr.Excludes = refl
same_kind attr.AcquiredBefore = refl
same_kind attr.AcquiredAfter = refl

same_tries : (attrs : List Attr) → list_any (λ a. rules.is_try a.kind) attrs ≡ seen.tries attrs
same_tries [] = refl
same_tries (a ∷ rest) = ap₂ (λ x y. x || y) (same_kind a.kind) (same_tries rest)

-- a local that begins with what a try gives
some_if : (b : Bool) (n : ℕ) → is_some (if b then Some n else None) ≡ b
some_if true n = refl
some_if false n = refl

none_if : (b : Bool) → is_some {T = ℕ} (if b then None else None) ≡ false
none_if true = refl
none_if false = refl

variable_by : (next : ℕ) (d : Deed) (b : Bool) → is_some (if b then begun_by next d else None) ≡ begins_a_try_by d b
variable_by next (declares d) b = some_if b next
variable_by next (evaluates e) b = none_if b
variable_by next (assigns left o right) b = none_if b
variable_by next (tests e) b = none_if b
variable_by next (switches e) b = none_if b
variable_by next jumps b = none_if b
variable_by next idles b = none_if b
variable_by next (returns e) b = none_if b
variable_by next ends b = none_if b

pub is_variable : (u : Program) (a : Around) (kind : Kind) (q : PlacedPoint) → Agrees u a kind q → is_some (try_variable_at u (core_at kind q)) ≡ begins_a_try a (known_of q)
is_variable u a kind q agrees =
    ap₂ (λ b o. is_some (if b then o else None))
    (ap (list_any (λ x. rules.is_try x.kind)) (sym agrees) ∙ same_tries (called_attributes a.attributes (called_at (known_of q))))
    (sym (begun_is kind q.here q.deed))
    ∙ variable_by q.here.locals q.deed (seen.tries (called_attributes a.attributes (called_at (known_of q))))

-- the last parts of lists
front : {A : Type 0} (P : A → Type 0) (xs : List A) (x : A) → All P (xs ++ x ∷ []) → All P xs
front P xs x all k d less =
    subst P (get_or_append_left xs (x ∷ []) d k less) (all k d (let e = length-append xs (x ∷ []) in omega (arith, e, less)))

last : {A : Type 0} (P : A → Type 0) (xs : List A) (x : A) → All P (xs ++ x ∷ []) → P x
last P xs x all =
    subst P (get_or-append-add xs (x ∷ []) 0 x) (all (length xs + 0) x (let e = length-append xs (x ∷ []) in omega (arith, e)))

in_front : (n : ℕ) (xs : List Point) (x : Point) → AreInOrder n (xs ++ x ∷ []) → AreInOrder n xs
in_front n [] x order = tt
in_front n (y ∷ xs) x order = (order.0, in_front (n + begun_count (local_begun y.action)) xs x order.1)

module _ (a : Around) (kind : Kind) (paths : List Way) (qs : List PlacedPoint) (here : Scope) (deed : Deed) (span : Span) (old new : Notes) (duty : Duty) where
  abbrev q : PlacedPoint
  q = placed here deed span

  abbrev all : List PlacedPoint
  all = qs ++ q ∷ []

  -- the rows before stay as they are, and the new one is the point's
  rows_there : AreNotes a kind paths qs old → AddsRow a paths (known_of q) old.marks new.marks → AreDifferent paths → (i : ℕ) (x : PlacedPoint) → slice_get all i ≡ Some x
      → IsRowOf a paths new.marks i (known_of x)
  rows_there h added different i x at =
      by_last qs q i x at
      (λ before number c there.
      added.before i number (subst (λ n. i < n) (sym h.rows) (slice_get_within qs i x before)) ∙ h.marks different i x before number c there)
      (λ end same. subst (λ y. IsRowOf a paths new.marks i (known_of y)) same (subst (λ n. IsRowOf a paths new.marks n (known_of q)) (h.rows ∙ sym end) (added.row different)))

  -- the roles go on by the duty
  roles_there : AreNotes a kind paths qs old → Tells duty (core_at kind q).action → Grows duty (begins_a_try a (known_of q)) old.roles new.roles
      → (u : Program) (first : ℕ) → AllAgree u a kind all → AreInOrder first (map (core_at kind) all) → AreRoles u first (map (core_at kind) all) new.roles
  roles_there h tells grows u first agree order =
      let same : map (core_at kind) all ≡ map (core_at kind) qs ++ core_at kind q ∷ [] = map-append (core_at kind) qs (q ∷ []) in
      let there = subst (AreInOrder first) same order in
      subst (λ xs. AreRoles u first xs new.roles) (sym same)
      (grows u first (map (core_at kind) qs) (core_at kind q)
      (h.roles u first (front (Agrees u a kind) qs q agree) (in_front first (map (core_at kind) qs) (core_at kind q) there))
      there tells (is_variable u a kind q (last (Agrees u a kind) qs q agree)))

  pub point_is_noted : AddsRow a paths (known_of q) old.marks new.marks → new.callees.items ≡ old.callees.items ++ called_at (known_of q) ∷ []
      → new.kinds.items ≡ old.kinds.items ++ kinds_by here deed → Tells duty (core_at kind q).action → Grows duty (begins_a_try a (known_of q)) old.roles new.roles
      → AreNotes a kind paths qs old → AreNotes a kind paths all new
  point_is_noted added called declared tells grows h = record {
    callees = called ∙ ap (λ xs. xs ++ called_at (known_of q) ∷ []) h.callees ∙ sym (map-append (λ x. called_at (known_of x)) qs (q ∷ []));
    kinds = declared ∙ ap (λ xs. xs ++ kinds_by here deed) h.kinds ∙ ap (λ ys. flat_map (λ x. kinds_by x.here x.deed) qs ++ ys) (sym (append-nil (kinds_by here deed)))
        ∙ sym (flat_map-append (λ x. kinds_by x.here x.deed) qs (q ∷ []));
    rows = added.count ∙ ap (λ n. n + 1) h.rows ∙ sym (length-append qs (q ∷ []));
    marks = rows_there h added;
    roles = roles_there h tells grows;
  }

-- one role more is noted, and one row more
pub one_more_row : (old new : List Duty) (d : Duty) (rows : ℕ) → rows ≡ length old → new ≡ old ++ d ∷ [] → length new ≡ rows + 1
one_more_row old new d rows as_many more = ap length more ∙ length-append old (d ∷ []) ∙ ap (λ n. n + 1) (sym as_many)

-- nothing is noted yet
pub none_noted : (a : Around) (kind : Kind) (paths : List Way) (n : Notes) → n.callees.items ≡ [] → n.kinds.items ≡ [] → rows_in n.marks ≡ 0
    → ((u : Program) (first : ℕ) → AreRoles u first [] n.roles) → AreNotes a kind paths [] n
none_noted a kind paths n callees kinds rows roles = record {
  callees = callees;
  kinds = kinds;
  rows = rows;
  marks = λ different i q at. none_at i q at;
  roles = λ u first agree order. roles u first;
}
  where
    none_at : (i : ℕ) (q : PlacedPoint) → slice_get [] i ≡ Some q → IsRowOf a paths n.marks i (known_of q)
    none_at zero q at = absurd cc
    none_at (suc i) q at = absurd cc
