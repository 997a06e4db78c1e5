-- What a function's view tells: all that the rules go by, by points and by the numbers of paths.
use Rattle.std.specs.Prelude.{◌≡◌, ◌<◌, ℕ, List, [], length, map, Option, Some, None, option_map, slice_get}
use Rattle.tsa_place_model.specs.Ways.{Way}
use Rattle.tsa_core.specs.Bodies.{Point}
use Rattle.tsa_core.specs.Programs.{Function, LockKind, Program}
use Rattle.tsa_rules.specs.declared.case.Case.{Case}
use Rattle.tsa_rules.specs.declared.case.Lock.{Lock}
use Rattle.tsa_rules.specs.declared.mark.Claim.{Claim}
use Rattle.tsa_rules.specs.Attributes.{declared_kinds, lock_kind_of}
use Rattle.tsa_rules.specs.Cases.{case_of, lock_of, role_of}
use Rattle.tsa_rules.specs.Points.{points_of}
use Rattle.tsa_rules_view.specs.Kinds.{kind_of}
use Rattle.tsa_rules_view.specs.declared.kind.LockKind.{LockKind as Kind}
use Rattle.tsa_rules_bodies.specs.Paths.{paths_if}
use Rattle.tsa_rules_table.specs.Rows.{mark_in, rows_in}
use Rattle.tsa_rules_roles.specs.Roles.{begin_in, role_in}
use Rattle.tsa_rules_view.specs.declared.content.RuleView.{RuleView}
use Rattle.tsa_rules_view.specs.Parts.{lock_with}

-- the kind of the lock to which a path leads
abbrev pub or_none : Option (Option Kind) → Option Kind
or_none None = None
or_none (Some kind) = kind

abbrev pub kind_in : RuleView → (number : ℕ) → Option LockKind
kind_in v number = option_map kind_of (or_none (slice_get v.kinds.items number))

-- what the function says of that lock, by its own attributes
abbrev pub lock_in : RuleView → (number : ℕ) → Lock
lock_in v number = lock_with v.own number (kind_in v number)

-- what a test of a local finds of a path: the try whose answer it has, by the point at which the local begins
abbrev pub kept_from : RuleView → (number : ℕ) → (begun : Option ℕ) → Option Claim
kept_from v number None = None
kept_from v number (Some point) = (mark_in v.notes.marks point number).tried

abbrev pub case_in : RuleView → (point number : ℕ) → Case
case_in v point number = record {
  lock = lock_in v number;
  role = role_in v.notes.roles point;
  mark = mark_in v.notes.marks point number;
  kept = kept_from v number (begin_in v.notes.roles point);
}

-- the number of the function that a point calls
abbrev pub number_called : Point → Option ℕ
number_called x = option_map (λ c. c.function) x.call

-- The view of a function of a program with some paths.
pub record IsViewOf (u : Program) (f : Function) (paths : List Way) (v : RuleView) : Type 0 where
  pub numbered : v.numbers ≡ paths
  pub callees : v.notes.callees.items ≡ map number_called (points_of f)
  pub rows : rows_in v.notes.marks ≡ length (points_of f)
  -- the kinds of the locals that the body declares, and what each point does
  pub declared : v.notes.kinds.items ≡ declared_kinds f.body
  pub roles : (point : ℕ) → role_in v.notes.roles point ≡ role_of u f point
  -- of each path
  pub locks : (number : ℕ) (c : Way) → slice_get paths number ≡ Some c → lock_in v number ≡ lock_of u f c
  pub kinds : (number : ℕ) (c : Way) → slice_get paths number ≡ Some c → kind_in v number ≡ lock_kind_of u f c
  -- and at each point
  pub cases : (point number : ℕ) (c : Way) → point < length (points_of f) → slice_get paths number ≡ Some c → case_in v point number ≡ case_of u f point c

-- The view of a function of a program with all of its paths, where it has a body and there are no more than it may have; else there is
-- none.
abbrev pub IsViewBy : Program → Function → Option (List Way) → Option RuleView → Type 0
IsViewBy u f None view = view ≡ None
IsViewBy u f (Some paths) view = (v : RuleView) × ((view ≡ Some v) × IsViewOf u f paths v)

abbrev pub IsViewIn : Program → Option Function → Option RuleView → Type 0
IsViewIn u None view = view ≡ None
IsViewIn u (Some f) view = IsViewBy u f (paths_if u f) view

-- the text of a lock's kind
abbrev pub text_of : Option LockKind → List ℕ
text_of None = []
text_of (Some kind) = kind.text
