-- Expressions for the parameters of a function, each with its value, or none.
use Rattle.std.specs.Prelude.{◌≡◌, ℕ, pos, negsuc, List, ◌++◌, Option, Some, None, option_map, slice_get, codes}
use Rattle.tsa_base.specs.declared.value.Value.{Value}
use Rattle.tsa_base.specs.declared.value.Value.TheVariants.{Int, Unsigned, Pointer}
use Rattle.tsa_lex.specs.Quick.{quick_tokens_of}
use Rattle.tsa_tree.specs.declared.premise.TypeCode.{TypeCode}
use Rattle.tsa_tree.specs.declared.premise.TypeCode.TheVariants.{TY1, TY9}
use Rattle.tsa_tree.specs.types.FirstFailing.{first_failing}
use Rattle.tsa_tree.specs.types.Texts.{unit_in}
use Rattle.tsa_tree.specs.units.Syntax.{UnitItem}
use Rattle.tsa_tree.specs.types.ExpressionExamples.{read_in}
use Rattle.tsa_core.specs.Programs.{program_of}
use Rattle.tsa_profile.specs.Arguments.{argument_of}

-- Locks `m` and `k`, of which `k` never changes, and `g`, which is guarded; an array `c` of two cells that have a lock each; and a function
-- `f`.
abbrev text : List ℕ
text =
    codes "struct CAPABILITY(\"m\") lock { int s; }; struct cell { struct lock mu; int v GUARDED_BY(mu); }; enum { E = 3 }; "
    ++ (codes "struct lock m; struct cell c[2]; const struct lock k; struct lock g GUARDED_BY(m); int ask(int i); "
    ++ codes "void f(int i, unsigned u, struct lock *l, const struct lock *l_const, struct cell *q) { ; }")

abbrev unit : List UnitItem
unit = unit_in (quick_tokens_of text)

-- the value of a text for a parameter of `f`, which is the second function
abbrev value_for : ℕ → List ℕ → Option Value
value_for number written = argument_of unit (program_of unit).layout (record { function = 1; number = number }) (read_in (quick_tokens_of written))

-- the unit with a further item, what the global in it holds at the start, and the code of types by which it is refused
abbrev further : List ℕ → List UnitItem
further item = unit_in (quick_tokens_of (text ++ item))

abbrev held : List ℕ → Option Value
held item = option_map (λ p. p.initial) (slice_get (program_of (further item)).layout.places 14)

abbrev refused : List ℕ → Option TypeCode
refused item = option_map (λ f. f.code) (first_failing (further item))

-- Places are numbered: `m` is 0, `c[0]` is 2, its lock 3, `c[1]` is 6, its lock 7, `k` is 10, `g` is 12, and a further global 14.
pub record ArgumentsAreAsWritten : Type 0 where
  -- numbers are converted
  pub number : value_for 0 (codes "-1") ≡ Some (Int (negsuc 0))
  pub enumerator : value_for 0 (codes "E + 1") ≡ Some (Int (pos 4))
  pub unsigned_number : value_for 1 (codes "-1") ≡ Some (Unsigned 4294967295)
  pub overflow : value_for 0 (codes "2147483647 + 1") ≡ None
  -- pointers point to places of globals, or nowhere
  pub object : value_for 2 (codes "&m") ≡ Some (Pointer (Some 0))
  pub member : value_for 2 (codes "&c[1].mu") ≡ Some (Pointer (Some 7))
  pub element : value_for 4 (codes "&c[E - 3]") ≡ Some (Pointer (Some 2))
  pub out_of_range : value_for 4 (codes "&c[2]") ≡ None
  pub null_pointer : value_for 2 (codes "NULL") ≡ Some (Pointer None)
  pub zero : value_for 2 (codes "0") ≡ Some (Pointer None)
  pub to_const : value_for 3 (codes "&k") ≡ Some (Pointer (Some 10))
  pub const_is_added : value_for 3 (codes "&m") ≡ Some (Pointer (Some 0))
  pub const_is_dropped : value_for 2 (codes "&k") ≡ None
  pub to_another_struct : value_for 2 (codes "&c[0]") ≡ None
  pub to_what_is_guarded : value_for 2 (codes "&g") ≡ None
  -- what is no constant, and names that aren't known behind all items
  pub variable : value_for 0 (codes "m.s") ≡ None
  pub called : value_for 0 (codes "ask(1)") ≡ None
  pub unknown : value_for 0 (codes "n") ≡ None
  pub own_parameter : value_for 0 (codes "i") ≡ None
  -- there is no such parameter
  pub past_the_last : value_for 5 (codes "0") ≡ None
  -- a global that is declared behind all items holds the same at the start, or is refused by types
  pub number_is_held : held (codes "unsigned x = -1;") ≡ Some (Unsigned 4294967295)
  pub pointer_is_held : held (codes "struct lock *x = &c[1].mu;") ≡ Some (Pointer (Some 7))
  pub null_is_held : held (codes "struct lock *x = NULL;") ≡ Some (Pointer None)
  pub typed_pointer : refused (codes "struct lock *x = &c[1].mu;") ≡ None
  pub refused_pointer : refused (codes "struct lock *x = &k;") ≡ Some TY9
  pub refused_variable : refused (codes "int x = m.s;") ≡ Some TY9
  pub refused_name : refused (codes "int x = n;") ≡ Some TY1
