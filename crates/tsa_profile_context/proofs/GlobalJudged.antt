-- What is asked of a global: first its guards, then its initialiser, where it is known itself.
use Rattle.std.proofs.Common.{◌≡◌, ◌∙◌, false, List, ap}
use Rattle.tsa_tree.specs.declarations.Syntax.{Declaration}
use Rattle.tsa_tree.specs.types.Globals.{with_global}
use Rattle.tsa_tree.specs.types.Scopes.{Scope}
use Rattle.tsa_place_model.specs.Parts.{no_stable}
use Rattle.tsa_core.specs.Programs.{Attr}
use Rattle.tsa_profile_accesses.specs.Premises.{Premise}
use Rattle.tsa_profile_accesses.specs.Expressions.{View}
use Rattle.tsa_profile_points.specs.Declarations.{given_init, guard_premises}
use Rattle.tsa_profile_context.specs.Judging.{Knowledge}
use Rattle.tsa_profile_context.specs.Units.{Unit, view_in}

module _ (u : Unit) (k : Knowledge) (d : Declaration) where
  abbrev pub guards : List Premise
  guards = guard_premises (view_in u k.attributes (with_global k.here d)) d.attrs

  abbrev pub given : List Premise
  given = given_init (view_in u k.attributes (with_global k.here d)) d.init

  abbrev pub seen_in : List (List Attr) → Scope → View
  seen_in known there = record {
    layout = u.program.layout;
    attributes = known;
    here = there;
    stable = no_stable;
    is_run = false;
  }

  pub view_is : (v : View) (known : List (List Attr)) (there : Scope) → v ≡ seen_in known there → known ≡ k.attributes → there ≡ with_global k.here d
      → v ≡ view_in u k.attributes (with_global k.here d)
  view_is v known there told attributes here = told ∙ ap (λ a. seen_in a there) attributes ∙ ap (seen_in k.attributes) here
