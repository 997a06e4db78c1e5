-- Expressions of words, each with how a thread begins by it, or none.
use Rattle.std.specs.Prelude.{◌≡◌, ℕ, pos, negsuc, List, [], ◌∷◌, ◌++◌, Option, Some, None, codes}
use Rattle.tsa_base.specs.declared.value.Value.{Value}
use Rattle.tsa_base.specs.declared.value.Value.TheVariants.{Int, Pointer}
use Rattle.tsa_lex.specs.Quick.{quick_tokens_of}
use Rattle.tsa_tree.specs.types.ExpressionExamples.{read_in}
use Rattle.tsa_tree.specs.types.Texts.{unit_in}
use Rattle.tsa_tree.specs.units.Syntax.{UnitItem}
use Rattle.tsa_core.specs.Programs.{program_of}
use Rattle.tsa_mean.specs.Starts.{Begin}
use Rattle.tsa_tool_starts.specs.Starts.{start_of}

-- Two accounts with a lock each, a lock `m` and a number `g`; functions 0 and 1 without bodies, and functions 2 to 4 that any thread may
-- begin with; then one that requires a lock, one that gives it back, and a try.
abbrev text : List ℕ
text =
    codes "struct CAPABILITY(\"m\") lock { int s; }; struct account { struct lock mu; int balance GUARDED_BY(mu); }; "
    ++ (codes "struct lock m; struct account bank[2]; int g; void acq(struct lock *l) ACQUIRE(l); int ask(int i); "
    ++ (codes "void f(void) { ; } void w(struct account *a) { ; } int transfer(struct account *from, struct account *to, int n) { return n; } "
    ++ codes "void r(void) REQUIRES(m) { ; } void d(void) RELEASE(m) { ; } int t(void) TRY_ACQUIRE(1, m) { return 0; }"))

abbrev unit : List UnitItem
unit = unit_in (quick_tokens_of text)

-- how a thread begins by the expression that a word spells
abbrev by : List ℕ → Option Begin
by word = start_of unit (program_of unit).layout (read_in (quick_tokens_of word))

abbrev begins : ℕ → List Value → Option Begin
begins f args = Some (record { function = f; args = args })

-- Places are numbered: `m` is 0, `bank[0]` is 2 and `bank[1]` is 6.
pub record WordsAreAsWritten : Type 0 where
  pub name : by (codes "f") ≡ begins 2 []
  pub no_arguments : by (codes "f()") ≡ begins 2 []
  pub accounts : by (codes "transfer(&bank[0],&bank[1],10)") ≡ begins 4 (Pointer (Some 2) ∷ Pointer (Some 6) ∷ Int (pos 10) ∷ [])
  pub negative : by (codes "transfer(NULL, &bank[1 - 1], -1)") ≡ begins 4 (Pointer None ∷ Pointer (Some 2) ∷ Int (negsuc 0) ∷ [])
  pub null_pointer : by (codes "w(NULL)") ≡ begins 3 (Pointer None ∷ [])
  pub zero : by (codes "w(0)") ≡ begins 3 (Pointer None ∷ [])
  -- parentheses have no node, and gaps and comments no token
  pub name_in_parentheses : by (codes "((f))") ≡ begins 2 []
  pub call_in_parentheses : by (codes "(w(NULL))") ≡ begins 3 (Pointer None ∷ [])
  pub gaps : by (codes " w ( /* none */ NULL ) // at all") ≡ begins 3 (Pointer None ∷ [])
  -- what names no function, or none with a body
  pub unknown : by (codes "h") ≡ None
  pub variable : by (codes "g") ≡ None
  pub number : by (codes "1") ≡ None
  pub followed : by (codes "*f") ≡ None
  pub of_the_environment : by (codes "ask(1)") ≡ None
  pub of_a_lock : by (codes "acq(&m)") ≡ None
  -- what binds its caller
  pub requires_a_lock : by (codes "r") ≡ None
  pub gives_a_lock : by (codes "d()") ≡ None
  pub tries_a_lock : by (codes "t()") ≡ None
  -- arguments that can't stand there
  pub fewer : by (codes "w") ≡ None
  pub further : by (codes "f(1)") ≡ None
  pub of_another_type : by (codes "w(&m)") ≡ None
  pub no_constant : by (codes "transfer(NULL, NULL, g)") ≡ None
  pub out_of_range : by (codes "w(&bank[2])") ≡ None
