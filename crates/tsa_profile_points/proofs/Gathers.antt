-- Paths that are gathered one by one are gathered in order.
use Rattle.std.proofs.Common.{◌≡◌, ◌∙◌, List, [], ◌∷◌, ◌++◌, Option, Some, None, refl, sym, ap}
use Rattle.std.specs.List.{flat_map}
use Rattle.tsa_place_model.specs.Ways.{Way}
use Rattle.tsa_profile_accesses.specs.Accesses.{Access}
use Rattle.tsa_profile_points.specs.Gathering.{with_way, with_all, with_guards, with_ways}
use Rattle.tsa_profile_points.specs.Ways.{present}

pub ways_append : (s : Option (List Way)) (xs ys : List Way) → with_ways s (xs ++ ys) ≡ with_ways (with_ways s xs) ys
unfolding with_ways
ways_append s [] ys = refl
ways_append s (x ∷ xs) ys = ways_append (with_way s x) xs ys

pub all_are : (s : Option (List Way)) (ws : List (Option Way)) → with_all s ws ≡ with_ways s (present ws)
unfolding with_ways
all_are s [] = refl
all_are s (None ∷ rest) = all_are s rest
all_are s (Some w ∷ rest) = all_are (with_way s w) rest

pub present_append : (xs ys : List (Option Way)) → present (xs ++ ys) ≡ present xs ++ present ys
present_append [] ys = refl
present_append (None ∷ xs) ys = present_append xs ys
present_append (Some x ∷ xs) ys = ap (λ rest. x ∷ rest) (present_append xs ys)

pub guards_are : (s : Option (List Way)) (found : List Access) → with_guards s found ≡ with_ways s (present (flat_map (λ a. a.guards) found))
unfolding with_ways
guards_are s [] = refl
guards_are s (a ∷ rest) =
    guards_are (with_all s a.guards) rest
    ∙ ap (λ t. with_ways t (present (flat_map (λ a. a.guards) rest))) (all_are s a.guards)
    ∙ sym (ways_append s (present a.guards) (present (flat_map (λ a. a.guards) rest)))
    ∙ ap (with_ways s) (sym (present_append a.guards (flat_map (λ a. a.guards) rest)))
