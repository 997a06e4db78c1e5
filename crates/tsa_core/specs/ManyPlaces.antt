-- A unit with more places than it may have, which `check` refuses: its program has all of them, with their guards.
use Rattle.std.specs.Prelude.{◌≡◌, true, List, [], ◌∷◌, length, map, Some, None, Err, codes}
use Rattle.tsa_lex.specs.Quick.{quick_tokens_of}
use Rattle.tsa_tree.specs.types.FirstFailing.{first_failing}
use Rattle.tsa_tree.specs.types.Texts.{unit_in}
use Rattle.tsa_tree.specs.units.Syntax.{UnitItem}
use Rattle.tsa_place_model.specs.declared.path.Root.TheVariants.{Global}
use Rattle.tsa_place_model.specs.declared.place.Guard.TheVariants.{Lock}
use Rattle.tsa_place_model.specs.Calls.{guards_of}
use Rattle.tsa_place_model.specs.Units.{placed_in}
use Rattle.tsa_place_model.specs.Ways.{from}
use Rattle.tsa_core.specs.Programs.{Program, program_of}
use Rattle.tsa_core.specs.Uses.{Access}

-- a lock, which is two places, a number that it guards, a function that writes the number without the lock, and an array whose elements
-- bring the places to 65,537
abbrev pub past_the_limit : List UnitItem
past_the_limit = unit_in (quick_tokens_of (codes "struct CAPABILITY(\"mutex\") l { int s; }; struct l mu; int n GUARDED_BY(mu); void f(void) { n = 1; } int rest[65534];"))

abbrev pub large_program : Program
large_program = program_of past_the_limit

abbrev guarded_write : Access
guarded_write = record { is_write = true; guards = Some (from (Global 0)) ∷ [] }

pub record LargeUnitsHaveTheirPlaces : Type 0 where
  -- its types are right, and `check` refuses it at the declarator of the array
  pub typed : first_failing past_the_limit ≡ None
  pub refused : placed_in past_the_limit ≡ Err (record { from = 104; to = 115 })
  pub count : length large_program.layout.places ≡ 65537
  pub globals : map (λ p. p.name) large_program.layout.globals ≡ codes "mu" ∷ codes "n" ∷ codes "rest" ∷ []
  pub starts : large_program.layout.starts ≡ 0 ∷ 2 ∷ 3 ∷ []
  pub guarded : guards_of large_program.layout 2 ≡ Lock 0 ∷ []
  pub written : map (λ f. map (λ u. u.left) f.uses) large_program.functions ≡ ((guarded_write ∷ []) ∷ [] ∷ []) ∷ []
