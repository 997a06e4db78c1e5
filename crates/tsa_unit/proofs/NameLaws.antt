-- Names of types are learnt item by item.
use Rattle.std.proofs.Common.{ℕ, zero, suc, ◌+◌, ◌-◌, ◌<◌, ◌≤◌, ◌≡◌, ◌∙◌, ap, sym, refl, List, [], ◌∷◌, ◌++◌, length, take, drop, get_or}
use Rattle.std.proofs.Common.{Some, None, option_map, arith}
use Rattle.std.proofs.Math.Seq.{take-nil}
use Rattle.std.proofs.lemmas.List.{length-drop}
use Rattle.tsa_tree.specs.declared.item.Item.{Item}
use Rattle.tsa_tree.specs.declared.expr.Name.{Name}
use Rattle.tsa_tree.specs.expressions.Shapes.{name_shape}
use Rattle.tsa_tree.specs.tokens.Signs.{Aliases}
use Rattle.tsa_tree.specs.units.Syntax.{name_of, names_of, names_of_item}
use Rattle.tsa_tree.specs.units.Shapes.{item_shape, item_shapes}
use Rattle.tsa_expr.specs.TypeNames.{with_name}
use Rattle.tsa_unit.specs.Names.{with_names}

-- the names of the items from one on
abbrev pub names_from : ℕ → List Item → List (List ℕ)
names_from n items = names_of (item_shapes (drop n items))

names_at : (items : List Item) (i : ℕ) (d : Item) → i < length items
    → names_from i items ≡ names_of_item (item_shape (get_or items i d)) ++ names_from (i + 1) items
names_at [] i d within = absurd (omega arith)
names_at (x ∷ xs) zero d within = refl
names_at (x ∷ xs) (suc i) d within =
    let more : suc (i + 1) ≡ suc i + 1 = omega arith in
    names_at xs i d (omega arith) ∙ ap (λ n. names_of_item (item_shape (get_or xs i d)) ++ names_of (item_shapes (drop n (x ∷ xs)))) more

pub learns_none : (items : List Item) (i : ℕ) (d : Item) (all known : Aliases) → i < length items → all ≡ with_names known (names_from i items)
    → name_of (option_map name_shape None) ≡ names_of_item (item_shape (get_or items i d))
    → all ≡ with_names known (names_from (i + 1) items)
learns_none items i d all known within rest none =
    rest ∙ ap (with_names known) (names_at items i d within ∙ ap (λ ns. ns ++ names_from (i + 1) items) (sym none))

pub learns_one : (items : List Item) (i : ℕ) (d : Item) (all known : Aliases) (name : Name) → i < length items → all ≡ with_names known (names_from i items)
    → name_of (option_map name_shape (Some name)) ≡ names_of_item (item_shape (get_or items i d))
    → all ≡ with_names (with_name known name.text.now) (names_from (i + 1) items)
learns_one items i d all known name within rest one =
    rest ∙ ap (with_names known) (names_at items i d within ∙ ap (λ ns. ns ++ names_from (i + 1) items) (sym one))

pub ruleset learning = (learns_none, learns_one)

-- a list from one of its items on, as a slice is
whole-take : (n : ℕ) (items : List Item) → length items ≤ n → take n items ≡ items
whole-take n [] le = take-nil n
whole-take zero (x ∷ xs) le = absurd (omega arith)
whole-take (suc n) (x ∷ xs) le = ap (λ ys. x ∷ ys) (whole-take n xs (omega arith))

pub slice_from : (items : List Item) (from : ℕ) → take (length items - from) (drop from items) ≡ drop from items
slice_from items from = whole-take (length items - from) (drop from items) (omega (arith, length-drop from items))

pub ruleset behind_others = (slice_from)
