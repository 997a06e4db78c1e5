-- What expressions are worth as they are written, where the cells hold what they held at the start.
use Rattle.std.specs.Prelude.{◌≡◌, ℕ, pos, negsuc, List, [], ◌∷◌, ◌++◌, Option, Some, None, codes, option_and_then, slice_get}
use Rattle.tsa_base.specs.declared.value.Value.{Value}
use Rattle.tsa_base.specs.declared.value.Value.TheVariants.{Int, Unsigned, Pointer}
use Rattle.tsa_lex.specs.Quick.{quick_tokens_of}
use Rattle.tsa_tree.specs.types.Texts.{unit_in}
use Rattle.tsa_place_model.specs.Stores.{start}
use Rattle.tsa_core.specs.Bodies.{Action, evaluate, Point}
use Rattle.tsa_core.specs.Programs.{Function, Program, program_of}
use Rattle.tsa_core.specs.Terms.{Term}
use Rattle.tsa_path.specs.Values.{worth}

-- the first point of the last function
abbrev first : List Point → Option Term
first [] = None
first (p ∷ rest) = by p.action
  where
    by : Action → Option Term
    by (evaluate x) = Some x
    by other = None

abbrev last : List Function → Option Term
last [] = None
last (f ∷ []) = option_and_then (λ b. first b.points) f.body
last (f ∷ rest) = last rest

abbrev value : Program → Option Value
value p = option_and_then (worth p.layout (start p.layout) (slice_get (Int (pos 2) ∷ Pointer (Some 0) ∷ Unsigned 0 ∷ Pointer None ∷ []))) (last p.functions)

-- an object `b` at place 0 and another `a` at 8, with an index 2, a pointer to `b`, an unsigned 0 and a null pointer
abbrev pub worth_of : List ℕ → Option Value
worth_of text = value (program_of (unit_in (quick_tokens_of (
    codes "struct s { int x; unsigned u; struct s *const next; struct s *other; int v[3]; }; struct s b; struct s a = { 7, 8, &b, 0, { 4, 5, 6 } }; "
    ++ (codes "void h(int i, struct s *q, unsigned w, struct s *z) { " ++ (text ++ codes "; }"))))))

pub record ValuesAreAsWritten : Type 0 where
  pub of_a_member : worth_of (codes "a.x") ≡ Some (Int (pos 7))
  pub of_an_element : worth_of (codes "a.v[i]") ≡ Some (Int (pos 6))
  pub out_of_range : worth_of (codes "a.v[i + 1]") ≡ None
  pub before_the_first : worth_of (codes "a.v[-i]") ≡ None
  pub behind_a_pointer : worth_of (codes "a.next->x + a.x") ≡ Some (Int (pos 7))
  pub behind_null : worth_of (codes "a.other->x") ≡ None
  pub behind_a_local : worth_of (codes "q->u") ≡ Some (Unsigned 0)
  pub of_an_address : worth_of (codes "&a") ≡ Some (Pointer (Some 8))
  pub of_a_target : worth_of (codes "&*q") ≡ Some (Pointer (Some 0))
  pub of_a_null_target : worth_of (codes "&*z") ≡ None
  pub of_a_null_pointer : worth_of (codes "a.other") ≡ Some (Pointer None)
  pub same_place : worth_of (codes "a.next == q") ≡ Some (Int (pos 1))
  pub no_null : worth_of (codes "a.next == 0") ≡ Some (Int (pos 0))
  pub other_place : worth_of (codes "a.next != &a") ≡ Some (Int (pos 1))
  pub of_not : worth_of (codes "!a.other") ≡ Some (Int (pos 1))
  pub negated : worth_of (codes "-i") ≡ Some (Int (negsuc 1))
  pub in_unsigned : worth_of (codes "i + a.u") ≡ Some (Unsigned 10)
  pub no_divisor : worth_of (codes "i / w") ≡ None
  pub too_great : worth_of (codes "i + 2147483647") ≡ None
  pub and_stops : worth_of (codes "w && a.other->x") ≡ Some (Int (pos 0))
  pub or_stops : worth_of (codes "q || a.other->x") ≡ Some (Int (pos 1))
  pub and_goes_on : worth_of (codes "q && a.other->x") ≡ None
  pub of_a_call : worth_of (codes "h(i, q, w, z)") ≡ None
