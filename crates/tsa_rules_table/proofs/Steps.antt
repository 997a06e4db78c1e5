-- Marks that are made by attributes and by accesses in order.
use Rattle.std.proofs.Common.{◌≡◌, ◌∙◌, ℕ, Bool, true, false, not, ◌||◌, if◌then◌else◌, List, [], ◌∷◌, ◌++◌, Option, refl, sym, ap}
use Rattle.std.proofs.Common.{append_assoc, append-nil}
use Rattle.std.specs.List.{list_any}
use Rattle.tsa_place_model.specs.Ways.{Way}
use Rattle.tsa_core.specs.Programs.{Attr}
use Rattle.tsa_core.specs.Uses.{Access}
use Rattle.tsa_rules.specs.declared.mark.Mark.{Mark}
use Rattle.tsa_rules.specs.Attributes.{is_path}
use Rattle.tsa_rules.specs.Marks.{mark_by}
use Rattle.tsa_rules.proofs.MarkSteps.{marks_are_made_step_by_step}
use Rattle.tsa_rules_table.specs.declared.note.Note.TheVariants.{Guards}
use Rattle.tsa_rules_table.specs.declared.note.Side.{Side}
use Rattle.tsa_rules_table.specs.declared.note.Side.TheVariants.{Left, Right}
use Rattle.tsa_rules_table.specs.Notes.{NotesAttributes, NotesLeft, NotesRight}
use Rattle.tsa_rules_table.specs.Rows.{Rows}
use Rattle.tsa_rules_table.specs.Saying.{guarding, named_by, noted_all, with_note, Says}

attributes_more : (more attrs : List Attr) (right left : List Access) (declared : Option ℕ) (c : Way) → named_by more c (mark_by attrs right left declared c) ≡ mark_by (attrs ++ more) right left declared c
attributes_more [] attrs right left declared c = ap (λ l. mark_by l right left declared c) (sym (append-nil attrs))
attributes_more (a ∷ more) attrs right left declared c =
    ap (named_by more c) (sym (marks_are_made_step_by_step.attribute attrs a right left declared c))
    ∙ attributes_more more (attrs ++ a ∷ []) right left declared c
    ∙ ap (λ l. mark_by l right left declared c) (append_assoc attrs (a ∷ []) more)

-- what is noted twice is noted once
or_twice : (a b : Bool) → ((a || b) || b) ≡ (a || b)
or_twice true b = refl
or_twice false true = refl
or_twice false false = refl

guards_twice : (side : Side) (is_write : Bool) (m : Mark) → with_note (Guards side is_write) (with_note (Guards side is_write) m) ≡ with_note (Guards side is_write) m
guards_twice Left is_write m = λ i. record m { reads_after = or_twice m.reads_after (not is_write) i; writes = or_twice m.writes is_write i }
guards_twice Right is_write m = λ i. record m { reads_before = or_twice m.reads_before (not is_write) i }

-- so guards of the same path are noted as one
guards_noted : (side : Side) (is_write : Bool) (c : Way) (guards : List (Option Way)) (m : Mark)
    → noted_all guards (Guards side is_write) c m ≡ (if list_any (is_path c) guards then with_note (Guards side is_write) m else m)
guards_noted side is_write c [] m = refl
guards_noted side is_write c (w ∷ rest) m = by (is_path c w) (guards_noted side is_write c rest)
  where
    again : (b : Bool) → (if b then with_note (Guards side is_write) (with_note (Guards side is_write) m) else with_note (Guards side is_write) m) ≡ with_note (Guards side is_write) m
    again true = guards_twice side is_write m
    again false = refl

    by : (b : Bool) → ((m : Mark) → noted_all rest (Guards side is_write) c m ≡ (if list_any (is_path c) rest then with_note (Guards side is_write) m else m))
        → noted_all rest (Guards side is_write) c (if b then with_note (Guards side is_write) m else m) ≡ (if b || list_any (is_path c) rest then with_note (Guards side is_write) m else m)
    by true go = go (with_note (Guards side is_write) m) ∙ again (list_any (is_path c) rest)
    by false go = go m

right_more : (more : List Access) (attrs : List Attr) (right left : List Access) (declared : Option ℕ) (c : Way) → guarding Right more c (mark_by attrs right left declared c) ≡ mark_by attrs (right ++ more) left declared c
right_more [] attrs right left declared c = ap (λ l. mark_by attrs l left declared c) (sym (append-nil right))
right_more (a ∷ more) attrs right left declared c =
    ap (guarding Right more c) (guards_noted Right a.is_write c a.guards (mark_by attrs right left declared c) ∙ sym (marks_are_made_step_by_step.right attrs right left a declared c))
    ∙ right_more more attrs (right ++ a ∷ []) left declared c
    ∙ ap (λ l. mark_by attrs l left declared c) (append_assoc right (a ∷ []) more)

left_more : (more : List Access) (attrs : List Attr) (right left : List Access) (declared : Option ℕ) (c : Way) → guarding Left more c (mark_by attrs right left declared c) ≡ mark_by attrs right (left ++ more) declared c
left_more [] attrs right left declared c = ap (λ l. mark_by attrs right l declared c) (sym (append-nil left))
left_more (a ∷ more) attrs right left declared c =
    ap (guarding Left more c) (guards_noted Left a.is_write c a.guards (mark_by attrs right left declared c) ∙ sym (marks_are_made_step_by_step.left attrs right left a declared c))
    ∙ left_more more attrs right (left ++ a ∷ []) declared c
    ∙ ap (λ l. mark_by attrs right l declared c) (append_assoc left (a ∷ []) more)

-- a row with further attributes and accesses
pub attributes_noted : (paths : List Way) (more : List Attr) (old new : Rows) → Says paths (named_by more) old new → NotesAttributes paths old new more
attributes_noted paths more old new says attrs right left declared different row n c there =
    says n c different there ∙ ap (named_by more c) (row n c there) ∙ attributes_more more attrs right left declared c

pub right_noted : (paths : List Way) (more : List Access) (old new : Rows) → Says paths (guarding Right more) old new → NotesRight paths old new more
right_noted paths more old new says attrs right left declared different row n c there =
    says n c different there ∙ ap (guarding Right more c) (row n c there) ∙ right_more more attrs right left declared c

pub left_noted : (paths : List Way) (more : List Access) (old new : Rows) → Says paths (guarding Left more) old new → NotesLeft paths old new more
left_noted paths more old new says attrs right left declared different row n c there =
    says n c different there ∙ ap (guarding Left more c) (row n c there) ∙ left_more more attrs right left declared c
