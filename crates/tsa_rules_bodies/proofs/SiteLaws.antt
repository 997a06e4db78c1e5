-- The body of a function by its number is that of the core program.
use Rattle.std.proofs.Common.{◌≡◌, ◌∙◌, ℕ, true, false, List, [], ◌++◌, All, map, length, Option, Some, None, is_some, option_map}
use Rattle.std.proofs.Common.{slice_get, slice_index_or, refl, sym, ap, subst}
use Rattle.tsa_tree.specs.types.DeclaredTypes.{thing_type}
use Rattle.tsa_tree.specs.types.FirstFailing.{first_failing}
use Rattle.tsa_tree.specs.types.Heads.{behind_head}
use Rattle.tsa_tree.specs.types.Units.{outset}
use Rattle.tsa_tree.specs.units.Syntax.{UnitItem}
use Rattle.tsa_tree.proofs.types.UnitNodes.{premises_tell_it}
use Rattle.tsa_place_model.specs.LockPaths.{stable_in}
use Rattle.tsa_core.specs.Bodies.{body_of}
use Rattle.tsa_core.specs.Meanings.{Call}
use Rattle.tsa_core.specs.Programs.{Bodied, Declared, Function, Program, bodied_function, body_in, declared_functions, function_in}
use Rattle.tsa_core.specs.Programs.{function_of, program_of, stable_locals}
use Rattle.tsa_core.proofs.BodiesAgree.{bodies_agree}
use Rattle.tsa_core.proofs.MappedLists.{map_at, map_length}
use Rattle.tsa_core.proofs.TypedTerms.{some_same}
use Rattle.tsa_profile_accesses.specs.Expressions.{attributes_at}
use Rattle.tsa_profile.specs.Units.{attributes_by}
use Rattle.tsa_rules.specs.Points.{attrs_called, or_no_function, points_of}
use Rattle.tsa_rules.proofs.KeptTries.{try_variables_are_told_by_declarations}
use Rattle.tsa_profile.proofs.AddedNames.{adds_inside}
use Rattle.tsa_profile.proofs.BodyWays.{attributes_of, function_at}
use Rattle.tsa_profile.proofs.FunctionPaths.{functions_are}
use Rattle.tsa_profile.proofs.FunctionScopes.{knows_data}
use Rattle.tsa_profile.proofs.KnownCalls.{Reaches, points_reach}
use Rattle.tsa_profile.proofs.PathTables.{Reads, none_came_yet, own_body}
use Rattle.tsa_rules_bodies.specs.Laws.{StandsFor, SitesAreOfTheProgram, called_attributes, result_at}
use Rattle.tsa_rules_bodies.specs.Sites.{Site, site_of, within}
use Rattle.tsa_rules_bodies.proofs.FirstBodies.{Stood, comes, stood, u}
use Rattle.tsa_rules_bodies.proofs.Standing.{Own, after, all, next, own, own_first}

module _ (items : List UnitItem) (n : ℕ) where
  abbrev p : Program
  p = program_of items

  abbrev function : Declared → Function
  function d = function_in p.layout items d

  at_first : first_failing items ≡ None → Reads [] items [] (λ name. None) (outset items) items
  at_first typed = record { stands = none_came_yet items; declared = refl; bodied = λ name. refl; typed = sym (premises_tell_it items) ∙ typed }

  function_is : (d : Declared) → slice_get (all items) n ≡ Some d → slice_get p.functions n ≡ Some (function d)
  function_is d at = ap (λ fs. slice_get fs n) (functions_are items) ∙ map_at function (all items) n ∙ ap (option_map function) at

  -- What stands at the body of the function.
  module _ (s : Site) (h : Stood items n s) where
    pub own_here : Own items h.ds h.bodies s.here s.head s.body h.close h.rest h.reads
    own_here = own items h.ds h.bodies s.here s.head s.body h.close h.rest h.reads

    abbrev so_far : List Declared
    so_far = after items h.ds h.bodies s.here s.head s.body h.close h.rest h.reads

    abbrev more : List Declared
    more = declared_functions (behind_head s.here s.head true) h.rest

    abbrev bodied : Bodied
    bodied = own_body s.here s.head s.body

    are : p.functions ≡ map function (so_far ++ more)
    are = functions_are items ∙ ap (map function) (next items h.ds h.bodies s.here s.head s.body h.close h.rest h.reads).declared

    in_all : slice_get (all items) n ≡ Some own_here.declared
    in_all = ap (slice_get (all items)) (sym h.number) ∙ own_here.in_all

    so_far_at : slice_get so_far n ≡ Some own_here.declared
    so_far_at = ap (slice_get so_far) (sym h.number) ∙ own_here.so_far

    abbrev its_function : Function
    its_function = function_of p.layout own_here.declared (Some bodied)

    function_has : function own_here.declared ≡ its_function
    function_has = ap (function_of p.layout own_here.declared) own_here.its_first

    pub the_function : slice_get p.functions n ≡ Some its_function
    the_function = function_is own_here.declared in_all ∙ ap (λ f. Some f) function_has

    called_are : (c : Option Call) → Reaches so_far c → called_attributes (map (attributes_by (u items n)) so_far) c ≡ attrs_called p c
    called_are None reach = refl
    called_are (Some c) reach =
        attributes_of p so_far more function are c.function reach.0 reach.1
        ∙ sym (ap (λ o. (or_no_function o).attrs) (function_at p so_far more function are c.function reach.0 reach.1))

    calls_are : All (λ x. called_attributes s.attributes x.call ≡ attrs_called p x.call) (points_of its_function)
    calls_are =
        let named = (next items h.ds h.bodies s.here s.head s.body h.close h.rest h.reads).stands.named in
        let reach =
        points_reach so_far (within s) (result_at s) s.body (knows_data so_far (behind_head s.here s.head true) (within s) (adds_inside s.here s.head true) named)
        in
        λ k x less.
        let c = (slice_index_or (body_of (within s) (result_at s) s.body).points k x).call in
        ap (λ known. called_attributes known c) h.attributes ∙ called_are c (reach k x less)

    stands_here : first_failing items ≡ None → StandsFor items n its_function s
    stands_here typed =
        let agree = bodies_agree items n own_here.declared bodied (sym (premises_tell_it items) ∙ typed) in_all own_here.its_first in
        record {
          number = h.number;
          body = refl;
          uses = refl;
          stable = ap (λ o. stable_in (stable_locals (length s.head.params) o)) (own_first items h.ds h.bodies s.here s.head s.body h.close h.rest h.reads);
          attributes =
              sym (ap (λ known. attributes_at known n) h.attributes ∙ attributes_of p so_far more function are n own_here.declared so_far_at ∙ ap (λ f. f.attrs) function_has);
          calls = calls_are;
          in_order = try_variables_are_told_by_declarations.in_order (within s) (result_at s) s.body;
          params =
              sym (map_length (λ t. t.kind) its_function.params)
              ∙ (sym (ap length agree.0) ∙ map_length (λ x. (thing_type (within s) x.ctype).kind) s.head.params);
          kinds = sym agree.0;
          result = sym agree.1;
        }

    pub stands_for : (f : Function) → first_failing items ≡ None → slice_get p.functions n ≡ Some f → StandsFor items n f s
    stands_for f typed at = subst (λ x. StandsFor items n x s) (some_same (sym the_function ∙ at)) (stands_here typed)

  site_stood : (s : Site) → first_failing items ≡ None → site_of items n ≡ Some s → Stood items n s
  site_stood s typed is = stood items n [] (λ name. None) (outset items) items s (at_first typed) is

  -- a function with a body
  body_comes : (d : Declared) (o : Option Bodied) → first_failing items ≡ None → slice_get (all items) n ≡ Some d → bodied_function d.head.name.text (outset items) items ≡ o
      → is_some (option_map body_in o) ≡ true → is_some (site_of items n) ≡ true
  body_comes d None typed at is has = absurd cc
  body_comes d (Some b) typed at is has = comes items n d b at is [] (λ name. None) (outset items) items (at_first typed) refl

  declared_at : (f : Function) (o : Option Declared) → slice_get (all items) n ≡ o → slice_get p.functions n ≡ Some f → (d : Declared) × ((slice_get (all items) n ≡ Some d) × (function d ≡ f))
  declared_at f None is at =
      let nothing : None ≡ Some f = sym (ap (λ fs. slice_get fs n) (functions_are items) ∙ map_at function (all items) n ∙ ap (option_map function) is) ∙ at in
      absurd cc
  declared_at f (Some d) is at = (d, (is, some_same (sym (function_is d is) ∙ at)))

  pub of_body : (f : Function) → first_failing items ≡ None → slice_get p.functions n ≡ Some f → is_some f.body ≡ true → (s : Site) × ((site_of items n ≡ Some s) × StandsFor items n f s)
  of_body f typed at has =
      let x = declared_at f (slice_get (all items) n) refl at in
      by (site_of items n) refl
      (body_comes x.0 (bodied_function x.0.head.name.text (outset items) items) typed x.1.0 refl (ap (λ g. is_some g.body) x.1.1 ∙ has))
    where
      by : (o : Option Site) → site_of items n ≡ o → is_some (site_of items n) ≡ true → (s : Site) × ((site_of items n ≡ Some s) × StandsFor items n f s)
      by (Some s) is comes_there = (s, (is, stands_for s (site_stood s typed is) f typed at))
      by None is comes_there =
          let no_way : false ≡ true = sym (ap is_some is) ∙ comes_there in
          absurd cc

  pub of_none : first_failing items ≡ None → ((s : Site) → Stood items n s → ⊥) → site_of items n ≡ None
  of_none typed no_body = by (site_of items n) refl
    where
      by : (o : Option Site) → site_of items n ≡ o → site_of items n ≡ None
      by None is = is
      by (Some s) is = absurd (no_body s (site_stood s typed is))

  no_body_there : (f : Function) → slice_get p.functions n ≡ Some f → is_some f.body ≡ false → (s : Site) → Stood items n s → ⊥
  no_body_there f at has s h =
      let same : is_some f.body ≡ true = ap (λ g. is_some g.body) (some_same (sym at ∙ the_function s h)) in
      let no_way : true ≡ false = sym same ∙ has in
      absurd cc

  no_function_there : slice_get p.functions n ≡ None → (s : Site) → Stood items n s → ⊥
  no_function_there at s h =
      let no_way : Some (its_function s h) ≡ None = sym (the_function s h) ∙ at in
      absurd cc

pub sites_are_of_the_program : SitesAreOfTheProgram
sites_are_of_the_program = record {
  of_bodies = λ items n f typed at has. of_body items n f typed at has;
  of_no_body = λ items n f typed at has. of_none items n typed (no_body_there items n f at has);
  of_no_function = λ items n typed at. of_none items n typed (no_function_there items n at);
}
