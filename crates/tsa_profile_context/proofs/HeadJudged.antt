-- What is asked of a head: first what stands before its attributes, then those.
use Rattle.std.proofs.Common.{◌≡◌, ◌∙◌, ℕ, Bool, false, List, [], ◌∷◌, Option, ap}
use Rattle.tsa_tree.specs.declarations.Syntax.{Head}
use Rattle.tsa_tree.specs.declared.kind.Kind.{Kind}
use Rattle.tsa_tree.specs.types.DeclaredTypes.{thing_type}
use Rattle.tsa_tree.specs.types.Heads.{inside}
use Rattle.tsa_tree.specs.types.Scopes.{Scope}
use Rattle.tsa_place_model.specs.LockPaths.{stable_in}
use Rattle.tsa_core.specs.Programs.{Attr}
use Rattle.tsa_profile_accesses.specs.declared.premise.Failure.{Failure}
use Rattle.tsa_profile_accesses.specs.declared.premise.ProfileCode.TheVariants.{PF6}
use Rattle.tsa_profile_accesses.specs.Premises.{Premise, first, premise}
use Rattle.tsa_profile_accesses.specs.Expressions.{View}
use Rattle.tsa_profile_points.specs.Declarations.{attribute_premises, is_nothing, param_premises}
use Rattle.tsa_profile_context.specs.declared.context.Ground.{Ground}
use Rattle.tsa_profile_context.specs.Judging.{Knowledge, inner_premises, outer_premises, unit_at}
use Rattle.tsa_profile_context.specs.Units.{is_bodied, stable_of, view_of}

module _ (g : Ground) (head : Head) (b : Bool) (has_body : b ≡ is_bodied (unit_at g) head) (f : Option Failure) where
  pub outer_told : (here : Scope) → f ≡ first (premise PF6 head.name.span (is_nothing g.outside.now here head b) ∷ param_premises here head.params)
      → f ≡ first (outer_premises (unit_at g) here head)
  outer_told here told = told ∙ ap (λ x. first (premise PF6 head.name.span (is_nothing g.outside.now here head x) ∷ param_premises here head.params)) has_body

  pub inner_told : (v : View) (gives : Kind) → f ≡ first (attribute_premises v b gives [] [] head.attrs) → f ≡ first (inner_premises (unit_at g) v gives head)
  inner_told v gives told = told ∙ ap (λ x. first (attribute_premises v x gives [] [] head.attrs)) has_body

module _ (g : Ground) (k : Knowledge) (head : Head) (with_a_body : Bool) where
  abbrev pub outer : List Premise
  outer = outer_premises (unit_at g) k.here head

  abbrev pub inner : List Premise
  inner = inner_premises (unit_at g) (view_of (unit_at g) k.attributes k.here head with_a_body) (thing_type k.here head.result).kind head

  pub outer_is : (seen : Knowledge) → seen ≡ k → first (outer_premises (unit_at g) seen.here head) ≡ first outer
  outer_is seen is = ap (λ m. first (outer_premises (unit_at g) m.here head)) is

  pub inner_is : (v : View) → v ≡ view_of (unit_at g) k.attributes k.here head with_a_body → (gives : Kind) → gives ≡ (thing_type k.here head.result).kind
      → first (inner_premises (unit_at g) v gives head) ≡ first inner
  inner_is v view gives given =
      ap (λ w. first (inner_premises (unit_at g) w gives head)) view
      ∙ ap (λ t. first (inner_premises (unit_at g) (view_of (unit_at g) k.attributes k.here head with_a_body) t head)) given

  -- what its attributes see
  abbrev pub view_with : List (List Attr) → Scope → (ℕ → Bool) → View
  view_with known there stable = record {
    layout = (unit_at g).program.layout;
    attributes = known;
    here = there;
    stable = stable;
    is_run = false;
  }

  pub view_is : (v : View) (known : List (List Attr)) (there : Scope) (s : List Bool) → v ≡ view_with known there (stable_in s) → known ≡ k.attributes
      → there ≡ inside k.here head with_a_body → stable_in s ≡ stable_of (unit_at g) head → v ≡ view_of (unit_at g) k.attributes k.here head with_a_body
  view_is v known there s told attributes here stable =
      told
      ∙ ap (λ a. view_with a there (stable_in s)) attributes
      ∙ ap (λ h. view_with k.attributes h (stable_in s)) here
      ∙ ap (view_with k.attributes (inside k.here head with_a_body)) stable
