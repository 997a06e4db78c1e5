use Rattle.std.proofs.Common.{◌≡◌, ◌++◌, ◌<◌, ℕ, List, length, take}
use Rattle.tsa_tool_held.specs.Held.{Account, IsPathLine}
use Rattle.tsa_tool_held.specs.Pages.{IsPageOf}
use Rattle.tsa_tool_held.specs.Pieces.{Pieces}
use Rattle.tsa_tool_held.proofs.held.Page.push_point.Given as goal

-- the lines of the first paths are there
abbrev pub invariant-each : goal.invariant-each
invariant-each l = (a : Account) → IsPageOf a l.self → l.point < length a.body.points
    → (lines : List ℕ) × (Pieces (IsPathLine l.self.starts.now a l.point) (take l.cap-index l.self.order.now) lines × (l.text.items ≡ l.fn.text.items ++ lines))
