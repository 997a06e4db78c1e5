-- A row that is begun and noted step by step says what the point says.
use Rattle.std.proofs.Common.{◌≡◌, ◌∙◌, ◌<◌, ℕ, ◌+◌, ◌-◌, arith, List, [], None, refl, ap, subst}
use Rattle.tsa_place_model.specs.Ways.{Way}
use Rattle.tsa_core.specs.Bodies.{Known}
use Rattle.tsa_rules.specs.Marks.{no_mark}
use Rattle.tsa_rules_table.specs.Notes.{IsLastRow, IsRow, NotesAttributes, NotesLeft, NotesRight}
use Rattle.tsa_rules_table.specs.Rows.{KeepsRows, Rows, last_row, mark_in, rows_in}
use Rattle.tsa_profile_points.specs.Bodies.{Around}
use Rattle.tsa_rules_points.specs.Marking.{AddsRow, NotesBegun}
use Rattle.tsa_rules_points.specs.Points.{attrs_here, begun_here, uses_here}

module _ (a : Around) (paths : List Way) (k : Known) (start m one two three end : Rows) where
  pub row_added : rows_in m ≡ rows_in start + 1 → ((number : ℕ) → mark_in m (rows_in start) number ≡ no_mark)
      → ((row number : ℕ) → mark_in m row number ≡ mark_in start row number)
      → NotesAttributes paths m one (attrs_here a k) → KeepsRows m one → NotesRight paths one two (uses_here a k).right → KeepsRows one two
      → NotesLeft paths two three (uses_here a k).left → KeepsRows two three → NotesBegun paths three end (begun_here k) → KeepsRows three end
      → AddsRow a paths k start end
  row_added begun nothing same named k1 read k2 wrote k3 starts k4 =
      let count : rows_in end ≡ rows_in start + 1 = k4.count ∙ k3.count ∙ k2.count ∙ k1.count ∙ begun in
      record {
        count = count;
        before = λ row number less.
            k4.marks row number (below three (k3.count ∙ k2.count ∙ k1.count) less) ∙ k3.marks row number (below two (k2.count ∙ k1.count) less)
            ∙ k2.marks row number (below one k1.count less) ∙ k1.marks row number (below m refl less) ∙ same row number;
        row = λ different.
            subst (λ row. IsRow paths end row (attrs_here a k) (uses_here a k).right (uses_here a k).left (begun_here k))
            (ap (λ n. n - 1) count ∙ omega arith)
            (starts (attrs_here a k) (uses_here a k).right (uses_here a k).left
            (wrote (attrs_here a k) (uses_here a k).right [] None different (read (attrs_here a k) [] [] None different (named [] [] [] None different first))));
      }
    where
      below : (x : Rows) → rows_in x ≡ rows_in m → {row : ℕ} → row < rows_in start → row < last_row x
      below x is less = omega (arith, is, begun, less)

      first : IsLastRow paths m [] [] [] None
      first number c at = ap (λ row. mark_in m row number) (ap (λ n. n - 1) begun ∙ omega arith) ∙ nothing number
