-- Units that the machine runs, and units that it doesn't.
use Rattle.std.specs.Prelude.{◌≡◌, ℕ, Bool, true, false, not, ◌&&◌, List, codes, is_some}
use Rattle.tsa_base.specs.Tokens.{tokens_of}
use Rattle.tsa_tree.specs.units.Syntax.{UnitItem}
use Rattle.tsa_tree.specs.types.Runnable.{items_run}
use Rattle.tsa_tree.specs.types.Units.{outset, refusal_of_types}
use Rattle.tsa_tree.specs.types.UnitExamples.{unit_in}

abbrev pub is_run : List UnitItem → Bool
is_run items = not (is_some (refusal_of_types items)) && items_run items (outset items) items

abbrev pub runs : List ℕ → Bool
runs text = is_run (unit_in (tokens_of text))

pub record UnitsRun : Type 0 where
  pub a_call_as_a_value : runs (codes "int f(void); int g; void w(void) { g = f(); }") ≡ true
  pub a_call_in_a_sum : runs (codes "int f(void); int g; void w(void) { g = f() + 1; }") ≡ false
  pub a_call_in_an_argument : runs (codes "int f(int n); void w(void) { f(f(1)); }") ≡ false
  pub a_call_beside_a_constant : runs (codes "int f(void); void w(void) { if (f() == 0) ; }") ≡ true
  pub a_call_beside_a_variable : runs (codes "int f(void); int g; void w(void) { if (f() == g) ; }") ≡ false
  pub a_call_in_order : runs (codes "int f(void); void w(void) { if (f() < 1) ; }") ≡ false
  pub a_call_behind_not : runs (codes "int f(void); void w(void) { while (!f()) ; }") ≡ true
  pub a_call_in_a_switch : runs (codes "int f(void); void w(void) { switch (f()) ; }") ≡ false
  pub a_local_of_a_struct : runs (codes "struct s { int v; }; void f(void) { struct s x; }") ≡ false
  pub a_local_of_an_array : runs (codes "void f(void) { int a[2]; }") ≡ false
  pub no_lock_function : runs (codes "struct s { int v; }; void f(struct s *p);") ≡ false
  pub its_body_later : runs (codes "struct s { int v; }; void f(struct s *p); void f(struct s *p) { }") ≡ true
  pub a_lock_function : runs (codes "struct CAPABILITY(\"m\") l { int s; }; void f(struct l *m) ACQUIRE(*m);") ≡ true
  pub two_parameters : runs (codes "struct CAPABILITY(\"m\") l { int s; }; void f(struct l *m, int n) ACQUIRE(m);") ≡ false
  pub a_try_without_an_answer : runs (codes "struct CAPABILITY(\"m\") l { int s; }; void f(struct l *m) TRY_ACQUIRE(1, m);") ≡ false
  pub a_try : runs (codes "struct CAPABILITY(\"m\") l { int s; }; int f(struct l *m) TRY_ACQUIRE(1, m);") ≡ true
  pub a_generic_release : runs (codes "struct CAPABILITY(\"m\") l { int s; }; void f(struct l *m) RELEASE_GENERIC(m);") ≡ true
  pub a_generic_release_with_a_body : runs (codes "struct CAPABILITY(\"m\") l { int s; }; void f(struct l *m) RELEASE_GENERIC(m) { }") ≡ false
  pub a_type_that_is_wrong : runs (codes "int g = h;") ≡ false
  pub a_bank : runs (codes "typedef struct CAPABILITY(\"mutex\") lock { int s; } lock_t; void acq(lock_t *m) ACQUIRE(m); struct acc { lock_t mu; int balance GUARDED_BY(mu); }; int f(struct acc *from, int n) { int done = 0; acq(&from->mu); if (n < 1 || from->balance < n) goto out; from->balance -= n; done = 1; out: return done; }") ≡ true
