-- How a thread begins by the body that is found of a function.
use Rattle.std.proofs.Common.{◌≡◌, ◌∙◌, ℕ, Bool, true, false, not, ◌&&◌, List, Option, Some, None, is_some, slice_get, if◌then◌else◌, refl, sym, ap}
use Rattle.std.specs.Prelude.{option_and_then}
use Rattle.std.specs.List.{list_any}
use Rattle.tsa_base.specs.declared.value.Value.{Value}
use Rattle.tsa_tree.specs.expressions.Syntax.{Expression, Arguments}
use Rattle.tsa_tree.specs.types.FirstFailing.{first_failing}
use Rattle.tsa_tree.specs.types.Lookups.{params_in}
use Rattle.tsa_tree.specs.units.Syntax.{UnitItem}
use Rattle.tsa_place_model.specs.Calls.{Layout}
use Rattle.tsa_place_model.specs.Leading.{HasPlaces}
use Rattle.tsa_core.proofs.TypedTerms.{some_same}
use Rattle.tsa_core.specs.Programs.{Attr, Function, program_of}
use Rattle.tsa_mean.specs.Starts.{Begin, binds_caller}
use Rattle.tsa_profile.specs.Arguments.{behind_unit, view_behind}
use Rattle.tsa_profile_accesses.specs.Expressions.{attributes_at}
use Rattle.tsa_rules_bodies.proofs.SiteLaws.{sites_are_of_the_program}
use Rattle.tsa_profile.specs.Units.{Unit}
use Rattle.tsa_rules_bodies.specs.Finding.{IsFound}
use Rattle.tsa_rules_bodies.specs.Sites.{Site, site_of}
use Rattle.tsa_rules_bodies.specs.declared.search.BodySite.{BodySite}
use Rattle.tsa_tool_starts.proofs.GoodWords.{one_expression, program_is}
use Rattle.tsa_tool_starts.specs.Starts.{IsGoodWord, arguments_of, begin_with, start_at, start_of, start_with}
use Rattle.tsa_tool_starts.specs.Words.{IsWordOf}

abbrev binds : List Attr → Bool
binds attrs = list_any (λ a. binds_caller a.kind) attrs

module _ (items : List UnitItem) (l : Layout) (has : HasPlaces items l) (typed : first_failing items ≡ None) (args : Arguments) (n : ℕ) where
  abbrev functions : Option Function
  functions = slice_get (program_of items).functions n

  abbrev values : Option (List Value)
  values = arguments_of (view_behind items l) (params_in (behind_unit items) n) args

  of_core : start_with items l args n ≡ option_and_then (start_at items l args n) functions
  of_core = ap (λ u. option_and_then (start_at items l args n) (slice_get u.functions n)) (program_is items l has)

  no_start : Option Begin
  no_start = None

  -- one without a body isn't begun with
  pub without_body : site_of items n ≡ None → start_with items l args n ≡ None
  without_body none = of_core ∙ by functions refl
    where
      stays : (f : Function) (b : Bool) → slice_get (program_of items).functions n ≡ Some f → is_some f.body ≡ b → start_at items l args n f ≡ None
      stays f true at body = let s = sites_are_of_the_program.of_bodies items n f typed at body in let e = sym none ∙ s.1.0 in absurd cc
      stays f false at body = ap (λ b. if b && not (binds f.attrs) then begin_with n values else None) body

      by : (o : Option Function) → slice_get (program_of items).functions n ≡ o → option_and_then (start_at items l args n) o ≡ None
      by None at = refl
      by (Some f) at = stays f (is_some f.body) at refl

  module _ (s : Site) (found : site_of items n ≡ Some s) where
    -- the function of a body that is found
    with_body : (f : Function) × ((functions ≡ Some f) × ((is_some f.body ≡ true) × (f.attrs ≡ attributes_at s.attributes n)))
    with_body = by functions refl
      where
        stands : (f : Function) (b : Bool) → slice_get (program_of items).functions n ≡ Some f → is_some f.body ≡ b
            → (g : Function) × ((functions ≡ Some g) × ((is_some g.body ≡ true) × (g.attrs ≡ attributes_at s.attributes n)))
        stands f false at body = let none = sites_are_of_the_program.of_no_body items n f typed at body in let e = sym found ∙ none in absurd cc
        stands f true at body =
            let t = sites_are_of_the_program.of_bodies items n f typed at body in
            let same = some_same (sym t.1.0 ∙ found) in
            (f, (at, (body, t.1.1.attributes ∙ ap (λ x. attributes_at x.attributes n) same)))

        by : (o : Option Function) → slice_get (program_of items).functions n ≡ o → (g : Function) × ((functions ≡ Some g) × ((is_some g.body ≡ true) × (g.attrs ≡ attributes_at s.attributes n)))
        by None at = let none = sites_are_of_the_program.of_no_function items n typed at in let e = sym found ∙ none in absurd cc
        by (Some f) at = stands f (is_some f.body) at refl

    chosen : start_with items l args n ≡ (if true && not (binds (attributes_at s.attributes n)) then begin_with n values else None)
    chosen =
        let f = with_body in
        of_core
        ∙ ap (option_and_then (start_at items l args n)) f.1.0
        ∙ ap (λ b. if b && not (binds f.0.attrs) then begin_with n values else None) f.1.1.0
        ∙ ap (λ a. if true && not (binds a) then begin_with n values else None) f.1.1.1

    pub where_it_binds : (known : List (List Attr)) → known ≡ s.attributes → binds (attributes_at known n) ≡ true → start_with items l args n ≡ None
    where_it_binds known same h = chosen ∙ ap (λ b. if true && not b then begin_with n values else None) (ap (λ a. binds (attributes_at a n)) (sym same) ∙ h)

    pub where_it_is_free : (known : List (List Attr)) → known ≡ s.attributes → binds (attributes_at known n) ≡ false → start_with items l args n ≡ begin_with n values
    where_it_is_free known same h = chosen ∙ ap (λ b. if true && not b then begin_with n values else None) (ap (λ a. binds (attributes_at a n)) (sym same) ∙ h)

-- a word is good by its expression, and by no other one
pub good : (items : List UnitItem) (l : Layout) (word : List ℕ) (e : Expression) (b : Begin) → IsWordOf word e → start_of items l e ≡ Some b → IsGoodWord items l word b
good items l word e b w h = record { expression = e; spells = w; start = h }

pub not_good : (items : List UnitItem) (l : Layout) (word : List ℕ) (e : Expression) (b : Begin) → IsWordOf word e → start_of items l e ≡ None → IsGoodWord items l word b → ⊥
not_good items l word e b w h g =
    let none = sym h ∙ ap (start_of items l) (one_expression word e g.expression w g.spells) ∙ g.start in cc

pub no_word : (items : List UnitItem) (l : Layout) (word : List ℕ) (b : Begin) → ((e : Expression) → IsWordOf word e → ⊥) → IsGoodWord items l word b → ⊥
no_word items l word b none g = none g.expression g.spells

-- what is found of a body says where that is
pub not_found : (u : Unit) (n : ℕ) (o : Option Site) (x : Option BodySite) → IsFound u n o x → x ≡ None → o ≡ None
not_found u n None None h e = refl
not_found u n None (Some b) h e = absurd h
not_found u n (Some s) None h e = absurd h
not_found u n (Some s) (Some b) h e = absurd cc

pub found_at : (u : Unit) (n : ℕ) (o : Option Site) (x : Option BodySite) (b : BodySite) → IsFound u n o x → x ≡ Some b → (s : Site) × ((o ≡ Some s) × (b.known.attributes ≡ s.attributes))
found_at u n None None b h e = absurd cc
found_at u n None (Some y) b h e = absurd h
found_at u n (Some s) None b h e = absurd h
found_at u n (Some s) (Some y) b h e = (s, (refl, ap (λ z. z.known.attributes) (sym (some_same e)) ∙ h.attributes))
