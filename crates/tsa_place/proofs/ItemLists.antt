-- The items of an initialiser's list, and where an address leads.
use Rattle.std.proofs.Common.{◌≡◌, ◌∙◌, ℕ, zero, suc, List, [], ◌∷◌, Option, Some, None, option_map, option_and_then, slice_get, refl, ap}
use Rattle.std.specs.Borrow.{Bor}
use Rattle.tsa_base.specs.declared.token.Span.{Span}
use Rattle.tsa_tree.specs.declarations.Syntax.{list}
use Rattle.tsa_tree.specs.declarations.Shapes.{init_shape, init_shapes}
use Rattle.tsa_tree.specs.declared.decl.Init.{Init}
use Rattle.tsa_place_model.specs.LockPaths.{Led}
use Rattle.tsa_place_model.specs.Ways.{Way}
use Rattle.tsa_place_model.specs.Places.{item_of}

in_list : (items : List Init) (k : ℕ) (span : Span) → option_map init_shape (slice_get items k) ≡ item_of (Some (list (init_shapes items) span)) k
in_list [] zero span = refl
in_list [] (suc k) span = refl
in_list (x ∷ items) zero span = refl
in_list (x ∷ items) (suc k) span = in_list items k span

seen : (r : Option (Bor Init)) → option_map (λ x. init_shape x.now) r ≡ option_map init_shape (option_map (λ x. x.now) r)
seen None = refl
seen (Some x) = refl

-- an item by its number, seen by a reference
pub item_is : (r : Option (Bor Init)) (items : List Init) (k : ℕ) (span : Span) → option_map (λ x. x.now) r ≡ slice_get items k
    → option_map (λ x. init_shape x.now) r ≡ item_of (Some (list (init_shapes items) span)) k
item_is r items k span h = seen r ∙ ap (option_map init_shape) h ∙ in_list items k span

pub ruleset items = (item_is)

-- what is found along the path of what is led to
pub by_way : {A : Type 0} (f : Way → Option A) (led : Option Led) (w : Way) → Some w ≡ option_map (λ l. l.way) led → f w ≡ option_and_then (λ l. f l.way) led
by_way f None w h = cc
by_way f (Some l) w h = let same : w ≡ l.way = cc in ap f same
