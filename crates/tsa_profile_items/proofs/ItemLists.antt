-- Items one by one.
use Rattle.std.proofs.Common.{◌≡◌, ◌∙◌, ℕ, ◌+◌, suc, List, [], ◌∷◌, drop, Option, None, Err, sym, ap, subst}
use Rattle.tsa_tree.specs.declared.item.Item.{Item}
use Rattle.tsa_tree.specs.types.Premises as types
use Rattle.tsa_tree.specs.types.Scopes.{Scope}
use Rattle.tsa_tree.specs.types.Units as typed
use Rattle.tsa_tree.specs.types.Units.{behind_item}
use Rattle.tsa_tree.specs.units.Shapes.{item_shape, item_shapes}
use Rattle.tsa_core.proofs.NoFailure.{none_of_both}
use Rattle.tsa_profile_accesses.specs.declared.premise.Failure.{Failure}
use Rattle.tsa_profile_accesses.specs.Premises.{or_else, first}
use Rattle.tsa_profile_context.specs.ItemJudgements.{Judges}
use Rattle.tsa_profile_context.specs.Judging.{Knowledge, behind, behind_all}
use Rattle.tsa_profile_context.specs.Units.{Unit, attributes_behind, item_premises, items_premises}
use Rattle.tsa_profile_context.specs.declared.refusal.ProfileRefusal.{ProfileRefusal}
use Rattle.tsa_profile_context.proofs.Sequences.{judges_some}
use Rattle.tsa_base.proofs.Numbers.{plus_one}
use Rattle.tsa_profile_context.proofs.Failures.{first_append}

module _ (u : Unit) (items : List Item) (i : ℕ) (k : Knowledge) where
  abbrev wrong_from : Knowledge → ℕ → Option Failure
  wrong_from m j = first (items_premises u m.attributes m.here (item_shapes (drop j items)))

  pub items_end : drop i items ≡ [] → wrong_from k i ≡ None
  unfolding items_premises first
  items_end e = ap (λ xs. first (items_premises u k.attributes k.here (item_shapes xs))) e

  pub known_end : drop i items ≡ [] → behind_all u k (item_shapes (drop i items)) ≡ k
  unfolding behind_all
  known_end e = ap (λ xs. behind_all u k (item_shapes xs)) e

  module _ (x : Item) (at_i : drop i items ≡ x ∷ drop (suc i) items) where
    abbrev own : Option Failure
    own = first (item_premises u k.attributes (attributes_behind u k.attributes k.here (item_shape x)) k.here (item_shape x))

    abbrev after : Knowledge
    after = behind u k (item_shape x)

    items_more : wrong_from k i ≡ or_else own (wrong_from after (suc i))
    unfolding items_premises
    items_more =
        ap (λ xs. first (items_premises u k.attributes k.here (item_shapes xs))) at_i
        ∙ first_append (item_premises u k.attributes (attributes_behind u k.attributes k.here (item_shape x)) k.here (item_shape x))
        (items_premises u after.attributes after.here (item_shapes (drop (suc i) items)))

    pub items_stop : (e : ProfileRefusal) → Judges own (Err e) → Judges (wrong_from k i) (Err e)
    items_stop e h = subst (λ o. Judges o (Err e)) (sym items_more) (judges_some own (wrong_from after (suc i)) e h)

    pub items_next : (m : Knowledge) → own ≡ None → m ≡ after → wrong_from m (i + 1) ≡ wrong_from k i
    items_next m none known =
        ap (λ y. wrong_from y (i + 1)) known ∙ ap (wrong_from after) (sym (plus_one i))
        ∙ sym (items_more ∙ ap (λ o. or_else o (wrong_from after (suc i))) none)

    pub known_next : (m : Knowledge) → m ≡ after → behind_all u m (item_shapes (drop (i + 1) items)) ≡ behind_all u k (item_shapes (drop i items))
    unfolding behind_all
    known_next m known =
        ap (λ y. behind_all u y (item_shapes (drop (i + 1) items))) known ∙ ap (λ j. behind_all u after (item_shapes (drop j items))) (sym (plus_one i))
        ∙ sym (ap (λ xs. behind_all u k (item_shapes xs)) at_i)

-- the premises of types that are left
module _ (here : Scope) (items : List Item) (i : ℕ) (x : Item) (at_i : drop i items ≡ x ∷ drop (suc i) items) where
  told : types.first (typed.items_premises here (item_shapes (drop i items))) ≡ None
      → (types.first (typed.item_premises here (item_shape x)) ≡ None) × (types.first (typed.items_premises (behind_item here (item_shape x)) (item_shapes (drop (suc i) items))) ≡ None)
  unfolding typed.items_premises
  told h =
      none_of_both (typed.item_premises here (item_shape x)) (typed.items_premises (behind_item here (item_shape x)) (item_shapes (drop (suc i) items)))
      (subst (λ xs. types.first (typed.items_premises here (item_shapes xs)) ≡ None) at_i h)

  pub item_typed : types.first (typed.items_premises here (item_shapes (drop i items))) ≡ None → types.first (typed.item_premises here (item_shape x)) ≡ None
  item_typed h = (told h).0

  pub typed_next : (there : Scope) → there ≡ behind_item here (item_shape x) → types.first (typed.items_premises here (item_shapes (drop i items))) ≡ None
      → types.first (typed.items_premises there (item_shapes (drop (i + 1) items))) ≡ None
  typed_next there known h =
      ap (λ s. types.first (typed.items_premises s (item_shapes (drop (i + 1) items)))) known
      ∙ ap (λ j. types.first (typed.items_premises (behind_item here (item_shape x)) (item_shapes (drop j items)))) (sym (plus_one i))
      ∙ (told h).1
