-- A unit that isn't sound, a start of one that takes a lock, and where threads may begin.
use Rattle.std.specs.Prelude.{◌≡◌, ℕ, ℤ, pos, negsuc, Bool, true, false, Option, Some, None, List, [], ◌∷◌, ◌++◌, map, is_some, codes}
use Rattle.std.specs.List.{list_any}
use Rattle.tsa_base.specs.declared.value.Value.{Value}
use Rattle.tsa_base.specs.declared.value.Value.TheVariants.{Int, Unsigned, Pointer}
use Rattle.tsa_base.specs.Tokens.{tokens_of}
use Rattle.tsa_tree.specs.types.Texts.{unit_in}
use Rattle.tsa_tree.specs.units.Syntax.{UnitItem}
use Rattle.tsa_core.specs.Examples.{program}
use Rattle.tsa_core.specs.Programs.{Program, program_of}
use Rattle.tsa_rules.specs.Points.{function_at}
use Rattle.tsa_mean.specs.Sound.{Race, Sound, Start}
use Rattle.tsa_mean.specs.Starts.{are_values_of, binds_caller, first_state}
use Rattle.tsa_mean.specs.Texts.{a_lock_with_tries}
use Rattle.tsa_mean.specs.Traces.{locked_write, twice, unlocked_write}

-- the items of the two units, from their texts
abbrev pub unlocked : List UnitItem
unlocked = unit_in (tokens_of unlocked_write)

abbrev pub locked : List UnitItem
locked = unit_in (tokens_of locked_write)

-- Writes without the lock: a run has a violation, and its first state is a race.
pub record UnlockedWritesAreUnsound : Type 0 where
  pub unsound : Sound unlocked → ⊥
  pub race : Race (program_of unlocked) (first_state (program_of unlocked) (twice 2))

-- Two threads begin with a function that takes a lock, writes what is under it, and gives the lock back; neither writes next.
pub record LockedWritesCanStart : Type 0 where
  pub start : Start (program_of locked) (first_state (program_of locked) (twice 2))
  pub no_race : Race (program_of locked) (first_state (program_of locked) (twice 2)) → ⊥

-- A unit with functions 5 to 15, each with one attribute, with none, or with four parameters; `c` stands at place 3 and is const, and `d`
-- at place 5 and is guarded.
abbrev beginners : Program
beginners = program (
    a_lock_with_tries
    ++ (codes "void r(void) REQUIRES(mu) { } void s(void) REQUIRES_SHARED(mu) { } void e(void) RELEASE(mu) { } void f(void) RELEASE_SHARED(mu) { } "
    ++ (codes "int t(void) TRY_ACQUIRE(1, mu) { return 0; } int v(void) TRY_ACQUIRE_SHARED(1, mu) { return 0; } void a(void) ACQUIRE(mu) { } "
    ++ (codes "void b(void) ACQUIRE_SHARED(mu) { } void x(void) EXCLUDES(mu) { } void n(void) { } "
    ++ codes "struct s { int i; }; const struct s c; struct s d GUARDED_BY(mu); void p(const struct s *i, struct s *j, int k, unsigned m) { }"))))

abbrev is_bound : ℕ → Bool
is_bound f = list_any (λ a. binds_caller a.kind) (function_at beginners f).attrs

abbrev takes_args : List Value → Bool
takes_args args = are_values_of beginners.layout (function_at beginners 15).params args

abbrev four : Option ℕ → Option ℕ → ℤ → ℕ → List Value
four i j k m = Pointer i ∷ Pointer j ∷ Int k ∷ Unsigned m ∷ []

pub record ThreadsBeginWhereNothingIsAsked : Type 0 where
  pub bound : map is_bound (5 ∷ 6 ∷ 7 ∷ 8 ∷ 9 ∷ 10 ∷ []) ≡ true ∷ true ∷ true ∷ true ∷ true ∷ true ∷ []
  pub unbound : map is_bound (11 ∷ 12 ∷ 13 ∷ 14 ∷ 15 ∷ []) ≡ false ∷ false ∷ false ∷ false ∷ false ∷ []
  pub with_body : map (λ f. is_some (function_at beginners f).body) (0 ∷ 4 ∷ 5 ∷ 15 ∷ []) ≡ false ∷ false ∷ true ∷ true ∷ []
  pub null : takes_args (four None None (pos 2147483647) 4294967295) ≡ true
  pub const_target : takes_args (four (Some 3) None (negsuc 2147483647) 0) ≡ true
  pub no_const_target : takes_args (four None (Some 3) (pos 0) 0) ≡ false
  pub guarded_target : takes_args (four (Some 5) None (pos 0) 0) ≡ false
  pub another_struct : takes_args (four (Some 0) None (pos 0) 0) ≡ false
  pub no_struct : takes_args (four (Some 4) None (pos 0) 0) ≡ false
  pub too_great : takes_args (four None None (pos 2147483648) 0) ≡ false
  pub too_great_unsigned : takes_args (four None None (pos 0) 4294967296) ≡ false
  pub too_few : takes_args (Pointer None ∷ []) ≡ false
  pub of_another_kind : takes_args (Pointer None ∷ Pointer None ∷ Unsigned 0 ∷ Unsigned 0 ∷ []) ≡ false
