-- In a unit in the profile a function has few try variables.
use Rattle.std.proofs.Common.{◌≡◌, ◌∙◌, ◌≤◌, ℕ, arith, nat_eq, nat_lt, Bool, true, false, List, [], ◌∷◌, ◌++◌, length, filter}
use Rattle.std.proofs.Common.{Option, Some, None, is_some, if◌then◌else◌, slice_get, refl, sym, ap, subst}
use Rattle.std.proofs.lemmas.Bool.Decides.{nat_tests}
use Rattle.std.specs.List.{filter_map}
use Rattle.tsa_base.specs.declared.token.Span.{Span}
use Rattle.tsa_tree.specs.declarations.Syntax.{Head}
use Rattle.tsa_tree.specs.points.Syntax.{ends}
use Rattle.tsa_tree.specs.statements.Syntax.{Statements}
use Rattle.tsa_tree.specs.types.FirstFailing.{first_failing}
use Rattle.tsa_tree.specs.types.Scopes.{Scope, further}
use Rattle.tsa_tree.specs.types.Symbols.{number_of}
use Rattle.tsa_tree.specs.types.Targets.{declared_in_all}
use Rattle.tsa_tree.specs.types.Units.{outset, behind_item}
use Rattle.tsa_tree.specs.units.Syntax.{UnitItem, structure_item, alias_item, enumeration_item, global_item, function_item, body_item}
use Rattle.tsa_core.specs.Programs.{Attr, Function, program_of}
use Rattle.tsa_core_points.specs.Points.{PlacedPoint, placed}
use Rattle.tsa_rules.specs.Points.{try_variable_at, try_variables}
use Rattle.tsa_rules.specs.Statuses.{try_limit}
use Rattle.tsa_profile_accesses.specs.Premises.{first, premise}
use Rattle.tsa_profile_accesses.specs.declared.premise.ProfileCode.TheVariants.{LM7}
use Rattle.tsa_profile_points.specs.Bodies.{Around, is_try_variable, point_premises, points_premises}
use Rattle.tsa_rules_points.proofs.WrittenTries.{as_many}
use Rattle.tsa_rules_bodies.specs.Laws.{StandsFor, result_at}
use Rattle.tsa_rules_bodies.specs.Sites.{Site, site_among, site_at, site_of, or_later, within}
use Rattle.tsa_rules_bodies.specs.Units.{Unit, around, attributes_behind, heads_premises, item_premises, items_premises, passes_tries, paths_limits, points_in}
use Rattle.tsa_rules_bodies.specs.Units.{refusal_with, tries_limit, tries_limits, unit_of}
use Rattle.tsa_rules_bodies.proofs.ProfileAllows.{none_of_both}
use Rattle.tsa_rules_bodies.proofs.SiteLaws.{sites_are_of_the_program}
use Rattle.tsa_rules_view.proofs.Points.{agree, points, qs}

-- the end of a body asks nothing and begins no local
module _ (a : Around) (here : Scope) (close : Span) where
  premises_end : (xs : List PlacedPoint) → points_premises a (xs ++ placed here ends close ∷ []) ≡ points_premises a xs
  unfolding points_premises
  premises_end [] = refl
  premises_end (q ∷ xs) = ap (λ ps. point_premises a q ++ ps) (premises_end xs)

  tries_end : (xs : List PlacedPoint) → filter (is_try_variable a) (xs ++ placed here ends close ∷ []) ≡ filter (is_try_variable a) xs
  tries_end [] = refl
  tries_end (q ∷ xs) = ap (λ ys. if is_try_variable a q then q ∷ ys else ys) (tries_end xs)

-- What the profile tells of a body.
record IsProfiled (items : List UnitItem) (s : Site) : Type 0 where
  points : first (points_premises (around (unit_of [] items) s.attributes s.here s.head) (points_in s.here s.head s.body)) ≡ None
  tries : passes_tries (unit_of [] items) s.attributes s.here s.head s.body ≡ false

module _ (items : List UnitItem) (outside : List ℕ) (n : ℕ) where
  abbrev given : Unit
  given = unit_of outside items

  passes_none : (span : Span) (passes : Bool) → first (premise LM7 span passes ∷ []) ≡ None → passes ≡ false
  unfolding first
  passes_none span true h = absurd cc
  passes_none span false h = refl

  module _ (known : List (List Attr)) (here : Scope) where
    body_profiled : (head : Head) (body : Statements) (close : Span) (s : Site)
        → first (item_premises given known (attributes_behind given known here (body_item head body close)) here (body_item head body close)) ≡ None
        → first (tries_limit given (attributes_behind given known here (body_item head body close)) here (body_item head body close)) ≡ None
        → (hit : Bool) → (if hit then Some (record { here = here; attributes = attributes_behind given known here (body_item head body close); head = head; body = body }) else None) ≡ Some s
        → IsProfiled items s
    body_profiled head body close s fits few false at = absurd cc
    body_profiled head body close s fits few true at =
        let behind = attributes_behind given known here (body_item head body close) in
        let its : Site = record { here = here; attributes = behind; head = head; body = body } in
        let same : its ≡ s = cc in
        subst (IsProfiled items) same
        (record {
          points = (none_of_both (heads_premises given known here head true) (points_premises (around given behind here head) (points_in here head body)) fits).1;
          tries = passes_none head.name.span (passes_tries given behind here head body) few;
        })

    item_profiled : (item : UnitItem) (s : Site) → first (item_premises given known (attributes_behind given known here item) here item) ≡ None
        → first (tries_limit given (attributes_behind given known here item) here item) ≡ None → site_at (unit_of [] items) known here item n ≡ Some s → IsProfiled items s
    item_profiled (body_item head body close) s fits few at = body_profiled head body close s fits few (nat_eq (number_of here head) n) at
    item_profiled (structure_item tag alias attrs members span) s fits few at = absurd cc
    item_profiled (alias_item name ctype span) s fits few at = absurd cc
    item_profiled (enumeration_item tag alias values span) s fits few at = absurd cc
    item_profiled (global_item d) s fits few at = absurd cc
    item_profiled (function_item head) s fits few at = absurd cc

  among_profiled : (known : List (List Attr)) (here : Scope) (rest : List UnitItem) (s : Site) → first (items_premises given known here rest) ≡ None
      → first (tries_limits given known here rest) ≡ None → site_among (unit_of [] items) known here rest n ≡ Some s → IsProfiled items s
  unfolding items_premises tries_limits site_among
  among_profiled known here [] s fits few at = absurd cc
  among_profiled known here (item ∷ rest) s fits few at =
      by (site_at (unit_of [] items) known here item n) refl (λ later. among_profiled behind (behind_item here item) rest s x.1 y.1 later) at
    where
      behind : List (List Attr)
      behind = attributes_behind given known here item

      x : (first (item_premises given known behind here item) ≡ None) × (first (items_premises given behind (behind_item here item) rest) ≡ None)
      x = none_of_both (item_premises given known behind here item) (items_premises given behind (behind_item here item) rest) fits

      y : (first (tries_limit given behind here item) ≡ None) × (first (tries_limits given behind (behind_item here item) rest) ≡ None)
      y = none_of_both (tries_limit given behind here item) (tries_limits given behind (behind_item here item) rest) few

      by : (o : Option Site) → site_at (unit_of [] items) known here item n ≡ o
          → (site_among (unit_of [] items) behind (behind_item here item) rest n ≡ Some s → IsProfiled items s)
          → or_later o (site_among (unit_of [] items) (attributes_behind (unit_of [] items) known here item) (behind_item here item) rest n) ≡ Some s → IsProfiled items s
      by (Some t) is go at = item_profiled known here item s x.0 y.0 (is ∙ at)
      by None is go at = go at

  site_profiled : (s : Site) → refusal_with outside items ≡ None → site_of items n ≡ Some s → IsProfiled items s
  site_profiled s fits at =
      let x = none_of_both (items_premises given [] (outset items) items) (tries_limits given [] (outset items) items ++ paths_limits given [] (outset items) items) fits in
      let y = none_of_both (tries_limits given [] (outset items) items) (paths_limits given [] (outset items) items) x.1 in
      among_profiled [] (outset items) items s x.0 y.0 at

-- what stands at the body of a function
module _ (items : List UnitItem) (n : ℕ) (f : Function) (s : Site) (stands : StandsFor items n f s) (profiled : IsProfiled items s) where
  abbrev a : Around
  a = around (unit_of [] items) s.attributes s.here s.head

  abbrev close : Span
  close = s.head.name.span

  abbrev all : List PlacedPoint
  all = qs items n f s stands a close refl refl refl

  abbrev inner : List PlacedPoint
  inner = points_in s.here s.head s.body

  abbrev behind : Scope
  behind = further (declared_in_all s.body) (within s)

  counted : length (try_variables (program_of items) f) ≡ length (filter (is_try_variable a) inner)
  counted =
      ap (λ ps. length (filter_map (try_variable_at (program_of items)) ps)) (sym (points items n f s stands a close refl refl refl))
      ∙ as_many (program_of items) a (result_at s) all (agree items n f s stands a close refl refl refl)
      (ap first (premises_end a behind close inner) ∙ profiled.points)
      ∙ ap length (tries_end a behind close inner)

  few_begin : length (try_variables (program_of items) f) ≤ try_limit
  few_begin = let e = profiled.tries in let c = counted in bounded (length (filter (is_try_variable a) inner)) e c
    where
      bounded : (k : ℕ) → nat_lt 48 k ≡ false → length (try_variables (program_of items) f) ≡ k → length (try_variables (program_of items) f) ≤ try_limit
      bounded k e c = grind (arith, nat_tests, e, c)

-- of every function with a body
pub few_tries : (items : List UnitItem) (outside : List ℕ) (n : ℕ) (f : Function) → first_failing items ≡ None → refusal_with outside items ≡ None
    → slice_get (program_of items).functions n ≡ Some f → is_some f.body ≡ true → length (try_variables (program_of items) f) ≤ try_limit
few_tries items outside n f typed fits at bodied =
    let x = sites_are_of_the_program.of_bodies items n f typed at bodied in few_begin items n f x.0 x.1.1 (site_profiled items outside n x.0 fits x.1.0)
