-- The places of all that is left, one by one.
use Rattle.std.proofs.Common.{◌≡◌, ◌∙◌, ℕ, ◌+◌, ◌-◌, ◌<◌, ◌≤◌, arith, List, [], ◌∷◌, ◌++◌, take, length, sym, ap, subst}
use Rattle.std.proofs.lemmas.List.{length-append}
use Rattle.tsa_place.specs.declared.filling.Left.{Left}
use Rattle.tsa_place.specs.declared.filling.Rows.{Rows}
use Rattle.tsa_place.specs.declared.environment.Known.{Known}
use Rattle.tsa_place_model.specs.Layouts.{Structures}
use Rattle.tsa_place_model.specs.declared.place.Placed.{Placed}
use Rattle.tsa_place_model.specs.GlobalPlaces.{values_in}
use Rattle.tsa_place.specs.Filling.{all_left, values_by, with_left, Fits, Puts}
use Rattle.tsa_place_model.specs.Parts.{place_limit}
use Rattle.tsa_place.proofs.Leaving.{behind}

-- values depend on the places of earlier globals alone
pub values_kept : (k : Known) (ps qs : List Placed) → take k.count ps ≡ take k.count qs → values_by k ps ≡ values_by k qs
values_kept k ps qs h = ap (λ t. values_in k.scope.now (record { structs = k.structs.now; globals = k.globals.now; starts = k.starts.now; places = t })) h

module _ (k : Known) (start goal : List Placed) (popped : Rows) (lefts : List Left) (l : Left) (split : lefts ≡ popped.left.items ++ l ∷ [])
    (kept : take k.count popped.places.items ≡ take k.count start)
    (made : popped.places.items ++ all_left k.structs.now (values_by k start) lefts (length popped.places.items) ≡ goal)
  where
    abbrev structs : Structures
    structs = k.structs.now

    abbrev here : ℕ
    here = length popped.places.items

    values : values_by k popped.places.items ≡ values_by k start
    values = values_kept k popped.places.items start kept

    -- what is put next, and what is left then, are what was left
    round_goal : popped.places.items ++ with_left k popped l ≡ goal
    round_goal =
        ap (λ ps. popped.places.items ++ ps) (sym (behind structs (values_by k popped.places.items) popped.left.items l here))
        ∙ ap (λ v. popped.places.items ++ all_left structs v (popped.left.items ++ l ∷ []) here) values
        ∙ ap (λ ls. popped.places.items ++ all_left structs (values_by k start) ls here) (sym split)
        ∙ made

    pub round_fits : length goal ≤ place_limit → Fits popped (with_left k popped l)
    round_fits h = subst (λ n. n ≤ place_limit) (sym (ap length round_goal)) h

    module _ (new : Rows) (p : Puts k popped new (with_left k popped l)) where
      -- what is to come stays the same
      pub round_made : new.places.items ++ all_left structs (values_by k start) new.left.items (length new.places.items) ≡ goal
      round_made = ap (λ v. new.places.items ++ all_left structs v new.left.items (length new.places.items)) (sym values) ∙ p.made ∙ round_goal

      pub round_kept : take k.count new.places.items ≡ take k.count start
      round_kept = p.kept ∙ kept

      pub round_earlier : k.count ≤ length popped.places.items → k.count ≤ length new.places.items
      round_earlier h = let more = p.more in omega (arith, h, more)

      -- .. and less of it
      pub round_smaller : length goal - length new.places.items < length goal - length popped.places.items
      round_smaller =
          let whole : length goal ≡ length new.places.items + length (all_left structs (values_by k start) new.left.items (length new.places.items)) =
          sym (ap length round_made) ∙ length-append new.places.items (all_left structs (values_by k start) new.left.items (length new.places.items)) in
          let more = p.more in
          omega (arith, whole, more)
