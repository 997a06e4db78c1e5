-- Which body is the first one of a function's number, and that there is one where the function has a body.
use Rattle.std.proofs.Common.{◌≡◌, ◌∙◌, ℕ, nat_eq, Bool, true, false, List, [], ◌∷◌, ◌++◌, map, Option, Some, None, is_some, slice_get}
use Rattle.std.proofs.Common.{if◌then◌else◌, refl, sym, ap, subst, eqb-true, eq-eqb}
use Rattle.std.proofs.lemmas.List.{map-append}
use Rattle.std.proofs.lemmas.Slice.Eq.{bytes_eq-Decides}
use Rattle.std.specs.Str.{bytes_eq}
use Rattle.tsa_base.specs.declared.token.Span.{Span}
use Rattle.tsa_tree.specs.declarations.Syntax.{Head}
use Rattle.tsa_tree.specs.statements.Syntax.{Statements}
use Rattle.tsa_tree.specs.types.Scopes.{Scope}
use Rattle.tsa_tree.specs.types.Symbols.{number_of}
use Rattle.tsa_tree.specs.types.Units.{outset, behind_item}
use Rattle.tsa_tree.specs.units.Syntax.{UnitItem, structure_item, alias_item, enumeration_item, global_item, function_item, body_item}
use Rattle.tsa_core.specs.Programs.{Bodied, Declared, bodied_function, declared_by, first_head}
use Rattle.tsa_core.specs.Programs as program
use Rattle.tsa_core.proofs.TypedTerms.{some_same}
use Rattle.tsa_profile.specs.Units.{Unit, attributes_behind, attributes_by, unit_of}
use Rattle.tsa_profile.proofs.FunctionScopes.{Bodies}
use Rattle.tsa_profile.proofs.PathTables.{Reads, bodies_behind, or_first, own_body, reads_on}
use Rattle.tsa_rules_bodies.specs.Sites.{Site, or_later, site_at, site_among}
use Rattle.tsa_rules_bodies.proofs.Standing.{all, one_number, own, to_end}

module _ (items : List UnitItem) (n : ℕ) where
  abbrev pub u : Unit
  u = unit_of [] items

  -- the body of the number is among the items, behind what was declared and came before it
  pub record Stood (s : Site) : Type 0 where
    pub ds : List Declared
    pub bodies : Bodies
    pub close : Span
    pub rest : List UnitItem
    pub reads : Reads [] items ds bodies s.here (body_item s.head s.body close ∷ rest)
    pub attributes : s.attributes ≡ map (attributes_by u) (ds ++ first_head s.here s.head true)
    pub number : number_of s.here s.head ≡ n

  behind_these : (ds : List Declared) (here : Scope) (item : UnitItem) → attributes_behind u (map (attributes_by u) ds) here item ≡ map (attributes_by u) (ds ++ declared_by here item)
  behind_these ds here item = sym (map-append (attributes_by u) ds (declared_by here item))

  abbrev site_here : List Declared → Scope → Head → Statements → Span → Site
  site_here ds here head body close =
      record { here = here; attributes = attributes_behind u (map (attributes_by u) ds) here (body_item head body close); head = head; body = body }

  by_item : (ds : List Declared) (bodies : Bodies) (here : Scope) (item : UnitItem) (rest : List UnitItem) (s : Site) (later : Option Site) → Reads [] items ds bodies here (item ∷ rest)
      → (later ≡ Some s → Stood s) → or_later (site_at u (map (attributes_by u) ds) here item n) later ≡ Some s → Stood s
  by_item ds bodies here (body_item head body close) rest s later r go is = by_number (nat_eq (number_of here head) n) refl is
    where
      by_number : (hit : Bool) → nat_eq (number_of here head) n ≡ hit → or_later (if hit then Some (site_here ds here head body close) else None) later ≡ Some s → Stood s
      by_number true same found =
          subst Stood (some_same found) (record {
            ds = ds;
            bodies = bodies;
            close = close;
            rest = rest;
            reads = r;
            attributes = behind_these ds here (body_item head body close);
            number = eqb-true (number_of here head) n same;
          })
      by_number false same found = go found
  by_item ds bodies here (structure_item tag alias attrs members span) rest s later r go is = go is
  by_item ds bodies here (alias_item text ctype span) rest s later r go is = go is
  by_item ds bodies here (enumeration_item tag alias values span) rest s later r go is = go is
  by_item ds bodies here (global_item d) rest s later r go is = go is
  by_item ds bodies here (function_item head) rest s later r go is = go is

  pub stood : (ds : List Declared) (bodies : Bodies) (here : Scope) (rest : List UnitItem) (s : Site) → Reads [] items ds bodies here rest
      → site_among u (map (attributes_by u) ds) here rest n ≡ Some s → Stood s
  unfolding site_among
  stood ds bodies here [] s r is = absurd cc
  stood ds bodies here (item ∷ rest) s r is =
      by_item ds bodies here item rest s (site_among u (attributes_behind u (map (attributes_by u) ds) here item) (behind_item here item) rest n) r
      (λ later. stood (ds ++ declared_by here item) (bodies_behind bodies here item) (behind_item here item) rest s (reads_on [] items ds bodies here item rest r)
      (ap (λ known. site_among u known (behind_item here item) rest n) (sym (behind_these ds here item)) ∙ later))
      is

  -- A function whose body is still to come.
  module _ (d : Declared) (b : Bodied) (at : slice_get (all items) n ≡ Some d) (has : bodied_function d.head.name.text (outset items) items ≡ Some b) where
    some_item : (ds : List Declared) (bodies : Bodies) (here : Scope) (item : UnitItem) (rest : List UnitItem) (later : Option Site) → Reads [] items ds bodies here (item ∷ rest)
        → bodies d.head.name.text ≡ None → (bodies_behind bodies here item d.head.name.text ≡ None → is_some later ≡ true)
        → is_some (or_later (site_at u (map (attributes_by u) ds) here item n) later) ≡ true
    some_item ds bodies here (body_item head body close) rest later r none go = by_number (nat_eq (number_of here head) n) refl
      where
        not_its_name : (hit : Bool) → bytes_eq d.head.name.text head.name.text ≡ hit → nat_eq (number_of here head) n ≡ false → bytes_eq d.head.name.text head.name.text ≡ false
        not_its_name false is other = is
        not_its_name true is other =
            let x = own items ds bodies here head body close rest r in
            let same : number_of here head ≡ n =
            one_number items (to_end items ds bodies here (body_item head body close ∷ rest) r) (number_of here head) n x.declared d x.in_all at
            (x.name ∙ sym ((bytes_eq-Decides d.head.name.text head.name.text).0 is))
            in
            let yes_it_is : nat_eq (number_of here head) n ≡ true = eq-eqb (number_of here head) n same in
            let no_way : true ≡ false = sym yes_it_is ∙ other in
            absurd cc

        by_number : (hit : Bool) → nat_eq (number_of here head) n ≡ hit → is_some (or_later (if hit then Some (site_here ds here head body close) else None) later) ≡ true
        by_number true same = refl
        by_number false same =
            go (ap (λ hit. or_first (bodies d.head.name.text) (program.or_body hit (own_body here head body) None)) (not_its_name (bytes_eq d.head.name.text head.name.text) refl same)
            ∙ ap (λ o. or_first o None) none)
    some_item ds bodies here (structure_item tag alias attrs members span) rest later r none go = go none
    some_item ds bodies here (alias_item text ctype span) rest later r none go = go none
    some_item ds bodies here (enumeration_item tag alias values span) rest later r none go = go none
    some_item ds bodies here (global_item x) rest later r none go = go none
    some_item ds bodies here (function_item head) rest later r none go = go none

    pub comes : (ds : List Declared) (bodies : Bodies) (here : Scope) (rest : List UnitItem) → Reads [] items ds bodies here rest → bodies d.head.name.text ≡ None
        → is_some (site_among u (map (attributes_by u) ds) here rest n) ≡ true
    unfolding site_among bodied_function
    comes ds bodies here [] r none =
        let no_way : None ≡ Some b = sym (ap (λ o. or_first o None) none) ∙ r.bodied d.head.name.text ∙ has in
        absurd cc
    comes ds bodies here (item ∷ rest) r none =
        some_item ds bodies here item rest (site_among u (attributes_behind u (map (attributes_by u) ds) here item) (behind_item here item) rest n) r none
        (λ still. ap (λ known. is_some (site_among u known (behind_item here item) rest n)) (behind_these ds here item)
        ∙ comes (ds ++ declared_by here item) (bodies_behind bodies here item) (behind_item here item) rest (reads_on [] items ds bodies here item rest r) still)
