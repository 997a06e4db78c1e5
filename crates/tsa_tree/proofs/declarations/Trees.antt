-- Initialisers in the arena, and how tall they are.
use Rattle.std.proofs.Common.{ℕ, ◌≡◌, ◌∙◌, ◌+◌, max, List, refl, ap}
use Rattle.std.specs.Borrow.{Bor}
use mathlib.Core.Former.{Count}
use Rattle.tsa_base.specs.declared.token.Span.{Span}
use Rattle.tsa_tree.specs.declared.decl.Init.{Init, List as init_list, List', Row_of-Init, end_of-Init, more_of-Init, items-the_row-Init}
use Rattle.tsa_tree.specs.declared.decl.Init.{items_hidden-the_row-Init-0}
use Rattle.tsa_tree.specs.declarations.Syntax.{Initialiser, value, list, Initialisers, no_more, one_more}
use Rattle.tsa_tree.specs.declarations.Shapes.{init_shape, init_row_shape, init_shapes}

abbrev mutual
  pub tall : Initialiser → ℕ
  tall (value x) = 1
  tall (list items span) = 1 + talls items

  pub talls : Initialisers → ℕ
  talls no_more = 0
  talls (one_more first rest) = max (tall first) (talls rest)

pub row-shapes : (n : _) (row : Row_of-Init n) → init_row_shape row ≡ init_shapes (items-the_row-Init n row)
row-shapes n end_of-Init = refl
row-shapes n (more_of-Init first rest) = ap (one_more (init_shape first)) (row-shapes _ rest)

abbrev pub row_of : Init → (n : Count) × Row_of-Init n
row_of (List' _ _ row _) = (_, row)
row_of _ = (_, end_of-Init)

pub shape_list : (items : Bor (List Init)) (span : Span) → init_shape (init_list items span) ≡ list (init_shapes items.now) span
shape_list items span =
    let row = row_of (init_list items span) in
    ap (λ xs. list xs span) (row-shapes row.0 row.1 ∙ ap init_shapes (items_hidden-the_row-Init-0 items.now))

pub list_at : (x : Init) (items : Bor (List Init)) (span : Span) → x ≡ init_list items span → init_shape x ≡ list (init_shapes items.now) span
list_at x items span is = ap init_shape is ∙ shape_list items span
