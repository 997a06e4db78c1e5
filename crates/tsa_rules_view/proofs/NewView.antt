-- The view that is made of what is found is that of the program's function.
use Rattle.std.proofs.Common.{◌≡◌, ℕ, zero, suc, nat_lt, Bool, true, false, length, List, [], ◌∷◌, Option, Some, None, is_some}
use Rattle.std.proofs.Common.{option_and_then, slice_get, refl, sym, subst, if◌then◌else◌}
use Rattle.tsa_tree.specs.types.FirstFailing.{first_failing}
use Rattle.tsa_tree.specs.units.Syntax.{UnitItem}
use Rattle.tsa_place_model.specs.Ways.{Way}
use Rattle.tsa_place_model.specs.Calls.{Layout}
use Rattle.tsa_core.specs.Bodies.{Body}
use Rattle.tsa_core.specs.Programs.{Function, LockKind, Program, lock_kinds, program_of}
use Rattle.tsa_profile_points.specs.Ways.{each_once, unless_many}
use Rattle.tsa_rules_bodies.specs.Units.{refusal_with, unit_of}
use Rattle.tsa_path.specs.PathTables.{AreDifferent, path_limit, with_path}
use Rattle.tsa_path.proofs.Numbers.{table_holds_different_paths}
use Rattle.tsa_rules_bodies.specs.Paths.{paths_if, paths_of, ways_of}
use Rattle.tsa_rules_bodies.specs.Entering.{IsOf}
use Rattle.tsa_rules_bodies.specs.declared.BodySite.{BodySite}
use Rattle.tsa_rules_bodies.specs.Finding.{IsFound}
use Rattle.tsa_rules_bodies.specs.Laws.{StandsFor}
use Rattle.tsa_rules_bodies.specs.Sites.{Site, site_of}
use Rattle.tsa_rules_bodies.proofs.SiteLaws.{sites_are_of_the_program}
use Rattle.tsa_rules_view.specs.BodyViews.{HasFewTries}
use Rattle.tsa_rules_view.specs.declared.build.Unit.{Unit}
use Rattle.tsa_rules_view.specs.declared.content.RuleView.{RuleView}
use Rattle.tsa_rules_view.specs.Views.{IsViewBy, IsViewIn, IsViewOf}
use Rattle.tsa_rules_view.proofs.FewTries.{few_tries}

-- paths each once are different
none_same : AreDifferent []
none_same zero j w e there = absurd cc
none_same (suc i) j w e there = absurd cc

each_differ : (known ways : List Way) → AreDifferent known → AreDifferent (each_once known ways)
each_differ known [] h = h
each_differ known (w ∷ rest) h = each_differ (with_path known w) rest (table_holds_different_paths known w h)

few_same : (ways paths : List Way) → unless_many ways ≡ Some paths → ways ≡ paths
few_same ways paths is = by (nat_lt path_limit (length ways)) is
  where
    by : (b : Bool) → (if b then None else Some ways) ≡ Some paths → ways ≡ paths
    by true e = absurd cc
    by false e = cc

-- a function that has paths has a body, and these are different
module _ (p : Program) (f : Function) (paths : List Way) where
  bodied_by : (o : Option Body) → option_and_then (λ b. unless_many (paths_of p f)) o ≡ Some paths → (is_some o ≡ true) × AreDifferent paths
  unfolding paths_of
  bodied_by None is = absurd cc
  bodied_by (Some b) is = (refl, subst AreDifferent (few_same (paths_of p f) paths is) (each_differ [] (ways_of p f) none_same))

  pub has_body : paths_if p f ≡ Some paths → (is_some f.body ≡ true) × AreDifferent paths
  has_body is = bodied_by f.body is

pub locks_are : (items : List UnitItem) → lock_kinds items ≡ (program_of items).locks
unfolding program_of
locks_are items = refl

module _ (items : List UnitItem) (n : ℕ) (typed : first_failing items ≡ None) where
  -- a number that has no paths has no view
  pub none_by_paths : (o : Option Function) → option_and_then (paths_if (program_of items)) o ≡ None → IsViewIn (program_of items) o None
  none_by_paths None is = refl
  none_by_paths (Some f) is = subst (λ x. IsViewBy (program_of items) f x None) (sym is) refl

  module _ (paths : List Way) (told : option_and_then (paths_if (program_of items)) (slice_get (program_of items).functions n) ≡ Some paths) where
    function_by : (o : Option Function) → slice_get (program_of items).functions n ≡ o → option_and_then (paths_if (program_of items)) o ≡ Some paths
        → (f : Function) × ((slice_get (program_of items).functions n ≡ Some f) × (paths_if (program_of items) f ≡ Some paths))
    function_by None at is = absurd cc
    function_by (Some f) at is = (f, (at, is))

    function : (f : Function) × ((slice_get (program_of items).functions n ≡ Some f) × (paths_if (program_of items) f ≡ Some paths))
    function = function_by (slice_get (program_of items).functions n) refl told

    body : (is_some function.0.body ≡ true) × AreDifferent paths
    body = has_body (program_of items) function.0 paths function.1.1

    stands : (s : Site) × ((site_of items n ≡ Some s) × StandsFor items n function.0 s)
    stands = sites_are_of_the_program.of_bodies items n function.0 typed function.1.0 body.0

    -- its body is found
    pub never_none : IsFound (unit_of [] items) n (site_of items n) None → ⊥
    never_none found = subst (λ o. IsFound (unit_of [] items) n o None) stands.1.0 found

    -- it has few try variables
    pub few_there : (u : Unit) (b : BodySite) (outside : List ℕ) → refusal_with outside items ≡ None → u.layout.now ≡ (program_of items).layout
        → IsFound (unit_of [] items) n (site_of items n) (Some b) → HasFewTries u b.known b.inside
    few_there u b outside fits layout found = record {
      items = items;
      number = n;
      function = function.0;
      site = stands.0;
      layout = layout;
      is_of = subst (λ o. IsFound (unit_of [] items) n o (Some b)) stands.1.0 found;
      stands = stands.1.1;
      few = few_tries items outside n function.0 typed fits function.1.0 body.0;
    }

    -- and what is made of that is its view
    pub view_there : (l : Layout) (ks : List (Option LockKind)) (b : BodySite) (v : RuleView) → l ≡ (program_of items).layout → ks ≡ (program_of items).locks
        → IsFound (unit_of [] items) n (site_of items n) (Some b)
        → ((xs : List UnitItem) (m : ℕ) (g : Function) (s : Site) → l ≡ (program_of xs).layout → ks ≡ (program_of xs).locks → IsOf (unit_of [] xs) m s b.known b.inside → StandsFor xs m g s
        → AreDifferent paths → IsViewOf (program_of xs) g paths v)
        → IsViewIn (program_of items) (slice_get (program_of items).functions n) (Some v)
    view_there l ks b v layout kinds found made =
        let of = subst (λ o. IsFound (unit_of [] items) n o (Some b)) stands.1.0 found in
        let is = made items n function.0 stands.0 layout kinds of stands.1.1 body.1 in
        subst (λ o. IsViewIn (program_of items) o (Some v)) (sym function.1.0)
        (subst (λ x. IsViewBy (program_of items) function.0 x (Some v)) (sym function.1.1) (v, (refl, is)))
