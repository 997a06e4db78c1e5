-- What was declared and what came in front of the items of a unit that are left, beside what is known there.
use Rattle.std.proofs.Common.{◌≡◌, ◌∙◌, List, [], ◌∷◌, ◌++◌, map, None, refl, sym, ap, subst}
use Rattle.std.proofs.lemmas.List.{map-append}
use Rattle.tsa_tree.specs.types.FirstFailing.{first_failing}
use Rattle.tsa_tree.specs.types.Units.{outset}
use Rattle.tsa_tree.specs.units.Syntax.{UnitItem}
use Rattle.tsa_tree.proofs.types.UnitNodes.{premises_tell_it}
use Rattle.tsa_core.specs.Programs.{Declared, declared_by}
use Rattle.tsa_profile_accesses.specs.Premises.{first}
use Rattle.tsa_profile_context.specs.Units.{Unit, attributes_behind, attributes_by, paths_limits, unit_of}
use Rattle.tsa_rules_bodies.proofs.FunctionScopes.{Bodies}
use Rattle.tsa_rules_bodies.proofs.PathTables.{Reads, bodies_behind, none_came_yet, reads_on}
use Rattle.tsa_warn_bodies.specs.Courses.{Course, IsInFrontOf, course_along, course_behind, course_outset, params_by}
use Rattle.tsa_warn_bodies.proofs.Limits.{limits_on}

module _ (items : List UnitItem) where
  abbrev pub u : Unit
  u = unit_of [] items

  pub record Reading (c : Course) (rest : List UnitItem) : Type 0 where
    pub ds : List Declared
    pub bodies : Bodies
    pub reads : Reads [] items ds bodies c.known.here rest
    pub attributes : c.known.attributes ≡ map (attributes_by u) ds
    pub firsts : c.firsts ≡ map params_by ds
    pub limits : first (paths_limits u c.known.attributes c.known.here rest) ≡ None

  begin : first_failing items ≡ None → first (paths_limits u [] (outset items) items) ≡ None → Reading (course_outset u) items
  begin typed limits = record {
    ds = [];
    bodies = λ name. None;
    reads = record { stands = none_came_yet items; declared = refl; bodied = λ name. refl; typed = sym (premises_tell_it items) ∙ typed };
    attributes = refl;
    firsts = refl;
    limits = limits;
  }

  on : (c : Course) (item : UnitItem) (rest : List UnitItem) → Reading c (item ∷ rest) → Reading (course_behind u c item) rest
  on c item rest r = record {
    ds = r.ds ++ declared_by c.known.here item;
    bodies = bodies_behind r.bodies c.known.here item;
    reads = reads_on [] items r.ds r.bodies c.known.here item rest r.reads;
    attributes = ap (λ known. attributes_behind u known c.known.here item) r.attributes ∙ sym (map-append (attributes_by u) r.ds (declared_by c.known.here item));
    firsts = ap (λ ps. ps ++ map params_by (declared_by c.known.here item)) r.firsts ∙ sym (map-append params_by r.ds (declared_by c.known.here item));
    limits = limits_on u c.known.attributes c.known.here item rest r.limits;
  }

  along : (c : Course) (front rest : List UnitItem) → Reading c (front ++ rest) → Reading (course_along u c front) rest
  unfolding course_along
  along c [] rest r = r
  along c (item ∷ front) rest r = along (course_behind u c item) front rest (on c item (front ++ rest) r)

  pub reading : first_failing items ≡ None → first (paths_limits u [] (outset items) items) ≡ None → (c : Course) (rest : List UnitItem) → IsInFrontOf items rest c
      → Reading c rest
  reading typed limits c rest f =
      subst (λ x. Reading x rest) (sym f.is)
      (along (course_outset u) f.front rest (subst (Reading (course_outset u)) f.whole (begin typed limits)))

-- one item further
module _ (items : List UnitItem) where
  ends_with : (c : Course) (front : List UnitItem) (item : UnitItem) → course_along (u items) c (front ++ item ∷ []) ≡ course_behind (u items) (course_along (u items) c front) item
  unfolding course_along
  ends_with c [] item = refl
  ends_with c (x ∷ front) item = ends_with (course_behind (u items) c x) front item

  moved : (front rest : List UnitItem) (item : UnitItem) → front ++ item ∷ rest ≡ (front ++ item ∷ []) ++ rest
  moved [] rest item = refl
  moved (x ∷ front) rest item = ap (λ xs. x ∷ xs) (moved front rest item)

  pub in_front_of_first : IsInFrontOf items items (course_outset (u items))
  unfolding course_along
  in_front_of_first = record { front = []; whole = refl; is = refl }

  pub in_front_of_next : (c new : Course) (item : UnitItem) (rest : List UnitItem) → new ≡ course_behind (u items) c item → IsInFrontOf items (item ∷ rest) c
      → IsInFrontOf items rest new
  in_front_of_next c new item rest is f = record {
    front = f.front ++ item ∷ [];
    whole = f.whole ∙ moved f.front rest item;
    is = is ∙ ap (λ x. course_behind (u items) x item) f.is ∙ sym (ends_with (course_outset (u items)) f.front item);
  }
