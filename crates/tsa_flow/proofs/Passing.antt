-- The items of a unit one by one: which functions are told.
use Rattle.std.proofs.Common.{◌≡◌, ◌∙◌, ℕ, nat_eq, Bool, true, false, List, [], ◌∷◌, Option, Some, None, option_and_then, slice_get}
use Rattle.std.proofs.Common.{if◌then◌else◌, refl, sym, ap, ap₂, subst, eq-eqb, eqb-true}
use Rattle.std.proofs.Math.Decide.{ℕ_discrete}
use Rattle.tsa_base.specs.declared.token.Span.{Span}
use Rattle.tsa_base.proofs.Options.{some_none}
use Rattle.tsa_tree.specs.declarations.Shapes.{head_shape}
use Rattle.tsa_tree.specs.declarations.Syntax.{Head}
use Rattle.tsa_tree.specs.statements.Shapes.{stmt_shapes}
use Rattle.tsa_tree.specs.statements.Syntax.{Statements}
use Rattle.tsa_tree.specs.types.FirstFailing.{first_failing}
use Rattle.tsa_tree.specs.types.Symbols.{number_of}
use Rattle.tsa_tree.specs.units.Syntax.{UnitItem, structure_item, alias_item, enumeration_item, global_item, function_item, body_item}
use Rattle.tsa_place_model.specs.Ways.{Way}
use Rattle.tsa_core.specs.Programs.{Function, program_of}
use Rattle.tsa_core_environment.specs.Functions.{outside_of}
use Rattle.tsa_path.specs.PathTables.{AreDifferent}
use Rattle.tsa_rules_bodies.specs.Entering.{Enters, IsEntered, IsOf}
use Rattle.tsa_rules_bodies.specs.declared.inside.Inside.{Inside}
use Rattle.tsa_rules_bodies.specs.Knowing.{IsWithin, Knowledge, behind, entered, outset_of}
use Rattle.tsa_rules_bodies.specs.Laws.{StandsFor}
use Rattle.tsa_rules_bodies.specs.Paths.{paths_if}
use Rattle.tsa_rules_bodies.specs.Sites.{Site, or_later, site_among, site_at, site_of}
use Rattle.tsa_profile_context.specs.Units.{Unit, attributes_behind, refusal_with, unit_of}
use Rattle.tsa_rules_bodies.proofs.Seeking.{other_number, passed}
use Rattle.tsa_rules_bodies.proofs.SiteLaws.{sites_are_of_the_program}
use Rattle.tsa_flow_function.proofs.NewView.{has_body}
use Rattle.tsa_rules_bodies.specs.Controls.{IsControlOf}
use Rattle.tsa_graph.specs.declared.blocks.Graph.{Graph}
use Rattle.tsa_flow_function.specs.Views.{IsViewOf}
use Rattle.tsa_rules_view.specs.BodyViews.{HasFewTries}
use Rattle.tsa_rules_view.specs.declared.build.Unit.{Unit as ViewUnit}
use Rattle.tsa_rules_view.specs.declared.content.RuleView.{RuleView}
use Rattle.tsa_rules_view.proofs.FewTries.{few_tries}
use Rattle.tsa_flow_function.specs.declared.function.FunctionFlow.{FunctionFlow}
use Rattle.tsa_flow_function.specs.Numbers.{IsFlowBy, IsFlowIn}
use Rattle.tsa_flow.specs.Units.{told_at, here, IsAhead, IsBodyOf, IsNext, IsTold, left, told}
use Rattle.tsa_flow_function.proofs.FunctionNumbers.{Found}

module _ (items : List UnitItem) (flows : List (Option FunctionFlow)) where
  -- in front of the first item nothing is told
  pub none_told : (n : ℕ) → told_at flows n ≡ None → IsAhead items (outset_of (unit_of [] items)) items flows n
  none_told n none = left none refl

  -- behind the last one all is told
  pub all_told : first_failing items ≡ None → (k : Knowledge) (n : ℕ) → IsAhead items k [] flows n → IsTold items flows n
  unfolding site_among
  all_told typed k n (told t) = t
  all_told typed k n (left none is) = by (slice_get (program_of items).functions n) refl
    where
      nowhere : site_of items n ≡ None
      nowhere = sym is

      by_paths : (f : Function) (o : Option (List Way)) → slice_get (program_of items).functions n ≡ Some f → paths_if (program_of items) f ≡ o → IsFlowBy (program_of items) f o (told_at flows n)
      by_paths f None at has = none
      by_paths f (Some paths) at has =
          let s = sites_are_of_the_program.of_bodies items n f typed at (has_body (program_of items) f paths has).0 in
          some_none s.0 (sym s.1.0 ∙ nowhere)

      by : (o : Option Function) → slice_get (program_of items).functions n ≡ o → IsFlowIn (program_of items) o (told_at flows n)
      by None at = none
      by (Some f) at = by_paths f (paths_if (program_of items) f) at refl

  module _ (k : Knowledge) (rest : List UnitItem) where
    -- an item is passed whose body is another's
    on : (item : UnitItem) (new : List (Option FunctionFlow)) (after : Knowledge) (n : ℕ) → site_at (unit_of [] items) k.attributes k.here item n ≡ None → after ≡ behind (unit_of [] items) k item
        → told_at new n ≡ told_at flows n → IsAhead items k (item ∷ rest) flows n → IsAhead items after rest new n
    unfolding site_among
    on item new after n other passes same (told t) = told (subst (IsFlowIn (program_of items) (slice_get (program_of items).functions n)) (sym same) t)
    on item new after n other passes same (left none is) =
        left (same ∙ none)
        (ap (λ m. site_among (unit_of [] items) m.attributes m.here rest n) passes
        ∙ (sym (ap (λ o. or_later o (site_among (unit_of [] items) (behind (unit_of [] items) k item).attributes (behind (unit_of [] items) k item).here rest n)) other) ∙ is))

    pub passed_on : (item : UnitItem) (there : Knowledge) → Enters (unit_of [] items) k item there None → ((n : ℕ) → IsAhead items k (item ∷ rest) flows n) → (n : ℕ) → IsAhead items there rest flows n
    passed_on item there h ahead n = let p = passed (unit_of [] items) n k item there h in on item flows there n p.0 p.1 refl (ahead n)

    module _ (there : Knowledge) (i : Inside) where
      next_body : (head : Head) (body : Statements) (close : Span) → IsEntered (unit_of [] items) k head body there i → IsAhead items k (body_item head body close ∷ rest) flows i.number
          → IsNext items there i flows i.number
      unfolding site_among
      next_body head body close e (told t) = told t
      next_body head body close e (left none is) = here site none first of
        where
          site : Site
          site = record { here = k.here; attributes = attributes_behind (unit_of [] items) k.attributes k.here (body_item head body close); head = head; body = body }

          later : Option Site
          later = site_among (unit_of [] items) (behind (unit_of [] items) k (body_item head body close)).attributes (behind (unit_of [] items) k (body_item head body close)).here rest i.number

          hit : nat_eq (number_of k.here head) i.number ≡ true
          hit = eq-eqb (number_of k.here head) i.number (sym e.number)

          first : site_of items i.number ≡ Some site
          first = sym is ∙ ap (λ b. or_later (if b then Some site else None) later) hit

          of : IsOf (unit_of [] items) i.number site there i
          of = record {
            here = ap (λ m. m.here) e.known;
            attributes = ap (λ m. m.attributes) e.known;
            number = refl;
            head_is = e.head_is;
            body_is = e.body_is;
            stable = e.stable;
            outside = e.outside;
          }

      -- a body that is entered is told, or it is the first of its function
      pub next : (item : UnitItem) → Enters (unit_of [] items) k item there (Some i) → IsAhead items k (item ∷ rest) flows i.number → IsNext items there i flows i.number
      next (body_item head body close) h ahead = next_body head body close h ahead
      next (structure_item tag alias attrs members span) h ahead = absurd h
      next (alias_item text ctype span) h ahead = absurd h
      next (enumeration_item tag alias values span) h ahead = absurd h
      next (global_item d) h ahead = absurd h
      next (function_item head) h ahead = absurd h

      -- behind it
      behind_body : (head : Head) (body : Statements) (close : Span) (new : List (Option FunctionFlow)) (after : Knowledge) → IsEntered (unit_of [] items) k head body there i
          → after ≡ behind (unit_of [] items) k (body_item head body close) → IsTold items new i.number → ((n : ℕ) → (n ≡ i.number → ⊥) → told_at new n ≡ told_at flows n)
          → ((n : ℕ) → IsAhead items k (body_item head body close ∷ rest) flows n) → (n : ℕ) → IsAhead items after rest new n
      behind_body head body close new after e passes own others ahead n = elim (ℕ_discrete n i.number) [
        | yes same ↦ told (subst (IsTold items new) (sym same) own)
        | no other ↦ on (body_item head body close) new after n (other_number (unit_of [] items) n k head body close (by other (nat_eq (number_of k.here head) n) refl)) passes (others n other) (ahead n)
      ]
        where
          by : (n ≡ i.number → ⊥) → (hit : Bool) → nat_eq (number_of k.here head) n ≡ hit → nat_eq (number_of k.here head) n ≡ false
          by other false is = is
          by other true is = absurd (other (sym (eqb-true (number_of k.here head) n is) ∙ sym e.number))

      pub behind_it : (item : UnitItem) (new : List (Option FunctionFlow)) (after : Knowledge) → Enters (unit_of [] items) k item there (Some i) → after ≡ behind (unit_of [] items) k item
          → IsTold items new i.number → ((n : ℕ) → (n ≡ i.number → ⊥) → told_at new n ≡ told_at flows n) → ((n : ℕ) → IsAhead items k (item ∷ rest) flows n) → (n : ℕ) → IsAhead items after rest new n
      behind_it (body_item head body close) new after h = behind_body head body close new after h
      behind_it (structure_item tag alias attrs members span) new after h = absurd h
      behind_it (alias_item text ctype span) new after h = absurd h
      behind_it (enumeration_item tag alias values span) new after h = absurd h
      behind_it (global_item d) new after h = absurd h
      behind_it (function_item head) new after h = absurd h

-- a body is left: its item is passed
module _ (u : Unit) (k there : Knowledge) (i : Inside) where
  abbrev own_head : Head
  own_head = head_shape i.head.now

  abbrev own_body : Statements
  own_body = stmt_shapes i.body.now

  within_it : (x : Head) → there ≡ entered u k x true → IsWithin u k x there
  within_it x is = subst (IsWithin u k x) (sym is) (refl, refl)

  pub left_behind : (after : Knowledge) (item : UnitItem) → Enters u k item there (Some i)
      → ((close : Span) → i.outside ≡ outside_of k.here own_head true → IsWithin u k own_head there → after ≡ behind u k (body_item own_head own_body close)) → after ≡ behind u k item
  left_behind after (body_item head body close) h leaves =
      leaves close (h.outside ∙ ap (λ x. outside_of k.here x true) (sym h.head_is)) (subst (λ x. IsWithin u k x there) (sym h.head_is) (within_it head h.known))
      ∙ ap₂ (λ x b. behind u k (body_item x b close)) h.head_is h.body_is
  left_behind after (structure_item tag alias attrs members span) h leaves = absurd h
  left_behind after (alias_item text ctype span) h leaves = absurd h
  left_behind after (enumeration_item tag alias values span) h leaves = absurd h
  left_behind after (global_item d) h leaves = absurd h
  left_behind after (function_item head) h leaves = absurd h

pub none_behind : (u : Unit) (k there : Knowledge) (item : UnitItem) → Enters u k item there None → there ≡ behind u k item
none_behind u k there item h = (passed u 0 k item there h).1

-- the body of a function of which nothing is told, and which has paths
module _ (items : List UnitItem) (typed : first_failing items ≡ None) (k : Knowledge) (i : Inside) (flows : List (Option FunctionFlow)) where
  none_told_by : (f : Function) (o : Option (List Way)) → paths_if (program_of items) f ≡ o → told_at flows i.number ≡ None → IsFlowBy (program_of items) f o (told_at flows i.number) → o ≡ None
  none_told_by f None has none t = refl
  none_told_by f (Some paths) has none (w, (is, x)) = some_none w (sym is ∙ none)

  module _ (paths : List Way) (none : told_at flows i.number ≡ None) where
    is_body_by : (f : Function) → slice_get (program_of items).functions i.number ≡ Some f → paths_if (program_of items) f ≡ Some paths → IsNext items k i flows i.number → IsBodyOf items i.number paths k i
    is_body_by f at has (told t) =
        let no = none_told_by f (paths_if (program_of items) f) refl none (subst (λ o. IsFlowIn (program_of items) o (told_at flows i.number)) at t) in
        some_none paths (sym has ∙ no)
    is_body_by f at has (here s empty first of) =
        let x = sites_are_of_the_program.of_bodies items i.number f typed at (has_body (program_of items) f paths has).0 in
        let same : x.0 ≡ s = same_site x.0 s (sym x.1.0 ∙ first) in
        record { function = f; site = s; is_there = at; has_paths = has; is_of = of; stands = subst (StandsFor items i.number f) same x.1.1 }
      where
        same_site : (a b : Site) → Some a ≡ Some b → a ≡ b
        same_site a b e = cc

    is_body_in : (o : Option Function) → slice_get (program_of items).functions i.number ≡ o → option_and_then (paths_if (program_of items)) o ≡ Some paths → IsNext items k i flows i.number
        → IsBodyOf items i.number paths k i
    is_body_in None at has next = some_none paths (sym has)
    is_body_in (Some f) at has next = is_body_by f at has next

    pub is_body : option_and_then (paths_if (program_of items)) (slice_get (program_of items).functions i.number) ≡ Some paths → IsNext items k i flows i.number → IsBodyOf items i.number paths k i
    is_body = is_body_in (slice_get (program_of items).functions i.number) refl

-- a function without paths is told by nothing
module _ (items : List UnitItem) (k : Knowledge) (i : Inside) (flows : List (Option FunctionFlow)) where
  none_by : (o : Option Function) → option_and_then (paths_if (program_of items)) o ≡ None → IsFlowIn (program_of items) o None
  none_by None has = refl
  none_by (Some f) has = subst (λ x. IsFlowBy (program_of items) f x None) (sym has) refl

  pub told_without_paths : option_and_then (paths_if (program_of items)) (slice_get (program_of items).functions i.number) ≡ None → IsNext items k i flows i.number → IsTold items flows i.number
  told_without_paths has (told t) = t
  told_without_paths has (here s none first of) =
      subst (IsFlowIn (program_of items) (slice_get (program_of items).functions i.number)) (sym none) (none_by (slice_get (program_of items).functions i.number) has)

-- one of which something is told stays so
pub told_before : (items : List UnitItem) (k : Knowledge) (i : Inside) (flows : List (Option FunctionFlow)) → (told_at flows i.number ≡ None → ⊥) → IsNext items k i flows i.number → IsTold items flows i.number
told_before items k i flows some (told t) = t
told_before items k i flows some (here s none first of) = absurd (some none)

-- what is worked out of a body is its function's
module _ (items : List UnitItem) (n : ℕ) (paths : List Way) (k : Knowledge) (i : Inside) (is : IsBodyOf items n paths k i) (v : RuleView) (g : Graph) where
  pub both_found : IsViewOf (program_of items) is.function paths v → IsControlOf is.function g → Found (program_of items) (slice_get (program_of items).functions n) v g
  both_found viewed control = record { function = is.function; paths = paths; is_there = is.is_there; has_paths = is.has_paths; viewed = viewed; control = control }

-- the function of a body of a unit in the profile has few try variables
pub few_here : (items : List UnitItem) → first_failing items ≡ None → (n : ℕ) (paths : List Way) (k : Knowledge) (i : Inside) → (is : IsBodyOf items n paths k i)
    → (u : ViewUnit) (outside : List ℕ) → refusal_with outside items ≡ None → u.layout.now ≡ (program_of items).layout → HasFewTries u k i
few_here items typed n paths k i is u outside fits layout = record {
  items = items;
  number = n;
  function = is.function;
  site = is.site;
  layout = layout;
  is_of = is.is_of;
  stands = is.stands;
  few = few_tries items outside n is.function typed fits is.is_there (has_body (program_of items) is.function paths is.has_paths).0;
}

pub different : (items : List UnitItem) (n : ℕ) (paths : List Way) (k : Knowledge) (i : Inside) → (is : IsBodyOf items n paths k i) → AreDifferent paths
different items n paths k i is = (has_body (program_of items) is.function paths is.has_paths).1

-- an item that enters no body is passed
pub enters_none : (u : Unit) (k there : Knowledge) (item : UnitItem) (o : Option Inside) → ((i : Inside) → o ≡ Some i → ⊥) → Enters u k item there o → Enters u k item there None
enters_none u k there item None other h = h
enters_none u k there item (Some i) other h = absurd (other i refl)
