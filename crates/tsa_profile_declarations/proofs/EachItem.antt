-- What is asked of initialisers, one after the other.
use Rattle.std.proofs.Common.{◌≡◌, ◌∙◌, ℕ, ◌+◌, suc, false, List, [], ◌∷◌, ◌++◌, drop, Option, Some, None, refl, ap, sym}
use Rattle.tsa_base.specs.declared.token.Span.{Span}
use Rattle.tsa_base.proofs.Numbers.{one_behind as plus_one}
use Rattle.tsa_tree.specs.declarations.Shapes.{init_shape, init_shapes}
use Rattle.tsa_tree.specs.declarations.Syntax.{Initialisers, value, list}
use Rattle.tsa_tree.specs.declared.decl.Init.{Init}
use Rattle.tsa_tree.specs.expressions.Syntax.{Expression}
use Rattle.tsa_profile_accesses.specs.declared.premise.Failure.{Failure}
use Rattle.tsa_profile_accesses.specs.declared.standing.Standing.TheVariants.{Inside}
use Rattle.tsa_profile_accesses.specs.Expressions.{View, own, parts}
use Rattle.tsa_profile_accesses.specs.Premises.{first}
use Rattle.tsa_profile_declarations.specs.Declarations.{init_premises, item_premises}
use Rattle.tsa_profile_declarations.proofs.Firsts.{goes_on, nothing_fails, stops}

module _ (v : View) where
  pub value_asked : (e : Expression) → first (own v Inside false e ++ parts v Inside e) ≡ first (init_premises v (value e))
  unfolding init_premises
  value_asked e = refl

  pub list_asked : (items : Initialisers) (span : Span) → first (item_premises v items) ≡ first (init_premises v (list items span))
  unfolding init_premises
  list_asked items span = refl

  module _ (items : List Init) (i : ℕ) where
    abbrev pub asked : ℕ → Option Failure
    asked j = first (item_premises v (init_shapes (drop j items)))

    pub no_item : drop i items ≡ [] → None ≡ asked i
    unfolding item_premises
    no_item e = sym (ap (λ xs. first (item_premises v (init_shapes xs))) e ∙ nothing_fails)

    module _ (x : Init) (at_i : drop i items ≡ x ∷ drop (suc i) items) where
      splits : item_premises v (init_shapes (drop i items)) ≡ init_premises v (init_shape x) ++ item_premises v (init_shapes (drop (suc i) items))
      unfolding item_premises
      splits = ap (λ xs. item_premises v (init_shapes xs)) at_i

      pub item_stops : (f : Failure) → Some f ≡ first (init_premises v (init_shape x)) → Some f ≡ asked i
      item_stops f h = stops (init_premises v (init_shape x)) (item_premises v (init_shapes (drop (suc i) items))) f h ∙ ap first (sym splits)

      pub item_passes : None ≡ first (init_premises v (init_shape x)) → asked (i + 1) ≡ asked i
      item_passes h =
          ap asked (plus_one i) ∙ goes_on (init_premises v (init_shape x)) (item_premises v (init_shapes (drop (suc i) items))) h ∙ ap first (sym splits)
