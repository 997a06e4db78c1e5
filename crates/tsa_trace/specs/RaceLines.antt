-- The line of a race: the cell that two threads touch with their next turns, at least one of which writes it, and where each does.
use Rattle.std.specs.Prelude.{ℕ, Bool, true, false, List, ◌++◌, codes}
use Rattle.std.specs.Fmt.{decimal}
use Rattle.tsa_sched.specs.declared.event.Touch.{Touch}
use Rattle.tsa_trace.specs.EventLines.{Sources, place_text, point_text}

abbrev pub touch_text : (is_write : Bool) → List ℕ
touch_text true = codes " write"
touch_text false = codes " read"

-- `tN L:C read` or `tN L:C write`
unfoldable pub side_text : Sources → (thread : ℕ) → Touch → List ℕ
side_text s thread t = codes "t" ++ decimal thread ++ codes " " ++ point_text s t.site ++ touch_text t.is_write

-- `race P: tA L:C M, tB L:C M`, where P is the cell of the first one
unfoldable pub race_text : Sources → (first : ℕ) → Touch → (second : ℕ) → Touch → List ℕ
race_text s first one second other =
    codes "race " ++ place_text s one.place ++ codes ": " ++ side_text s first one ++ codes ", " ++ side_text s second other
