-- The only row of a table says what the function's own attributes say.
use Rattle.std.proofs.Common.{◌≡◌, ◌∙◌, ◌+◌, ◌-◌, List, [], None, ap, subst}
use Rattle.tsa_place_model.specs.Ways.{Way}
use Rattle.tsa_core.specs.Programs.{Attr}
use Rattle.tsa_path.specs.PathTables.{AreDifferent}
use Rattle.tsa_rules_table.specs.Notes.{IsLastRow, IsRow, NotesAttributes}
use Rattle.tsa_rules_table.specs.Rows.{KeepsRows, Rows, rows_in}

pub row_first : (paths : List Way) (start m end : Rows) (own : List Attr) → rows_in start ≡ 0 → rows_in m ≡ rows_in start + 1 → IsLastRow paths m [] [] [] None → KeepsRows m end
    → NotesAttributes paths m end own → AreDifferent paths → IsRow paths end 0 own [] [] None
row_first paths start m end own none begun first kept notes different =
    subst (λ row. IsRow paths end row own [] [] None) (ap (λ n. n - 1) (kept.count ∙ begun ∙ ap (λ n. n + 1) none)) (notes [] [] [] None different first)
