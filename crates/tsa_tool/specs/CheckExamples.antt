-- By what `check` refuses texts of each kind, worked out.
use Rattle.std.specs.Prelude.{ℕ, ◌≡◌, List, ◌++◌, Some, codes}
use Rattle.std.specs.List.{repeat}
use Rattle.tsa_base.specs.Places.{place_text}
use Rattle.tsa_tool.specs.declared.answer.Status.{Status}
use Rattle.tsa_tool.specs.declared.answer.Status.TheVariants.{Refused, LimitPassed}
use Rattle.tsa_tool.specs.declared.command.Command.TheVariants.{Check}
use Rattle.tsa_tool.specs.Reports.{IsReport, Report, line}

-- one line, with the place of what is refused
abbrev pub Refuses : List ℕ → Status → (row column : ℕ) → List ℕ → Type 0
Refuses text status row column says = (report : Report) → IsReport (Some Check) text report → report ≡ record { status = status; text = line (place_text (record { line = row; column = column }) ++ says) }

-- a lock, a function that takes it, a mutex and a number that it guards
abbrev pub locks : List ℕ
locks = codes "struct CAPABILITY(\"mutex\") lock { int s; }; void acq(struct lock *m) ACQUIRE(m); struct lock mu; int g GUARDED_BY(mu); "

pub record ChecksAreAsWritten : Type 0 where
  -- what the syntax refuses, at a token or at the end
  pub no_semicolon : Refuses (codes "int f(void) { return 1 }") Refused 1 24 (codes "SY1 no unit is spelled this way")
  pub else_alone : Refuses (codes "void f(int a) { if (a) else ; }") Refused 1 24 (codes "SY1 no unit is spelled this way")
  pub at_the_end : Refuses (codes "int a[3") Refused 1 8 (codes "SY1 no unit is spelled this way")
  pub closed_twice : Refuses (codes "int a; }") Refused 1 8 (codes "SY1 no unit is spelled this way")
  pub type_as_a_value : Refuses (codes "typedef int n; int g = 1 + n;") Refused 1 28 (codes "SY1 no unit is spelled this way")
  pub left_out : Refuses (codes "int g PT_GUARDED_BY(") Refused 1 7 (codes "AT1 attribute is left out")
  pub no_argument : Refuses (codes "int g GUARDED_BY();") Refused 1 7 (codes "AT2 attribute argument is missing")
  pub too_deep : Refuses (codes "void f(void)" ++ repeat 101 (codes "{")) LimitPassed 1 113 (codes "LM2 over 100 nested")
  -- premises of types, each at the node where it fails
  pub unknown : Refuses (codes "int g = h;") Refused 1 9 (codes "TY1 unknown name")
  pub again : Refuses (codes "int g; int g;") Refused 1 12 (codes "TY2 declared twice")
  pub no_type : Refuses (codes "int g; int *p;") Refused 1 12 (codes "TY3 wrong type")
  pub arguments : Refuses (codes "void f(int n) { f(); }") Refused 1 17 (codes "TY4 wrong number of arguments")
  pub unwritable : Refuses (codes "const int g = 1; void f(void) { g = 2; }") Refused 1 33 (codes "TY5 not assignable")
  pub no_lock : Refuses (codes "int m; int g GUARDED_BY(m);") Refused 1 25 (codes "TY6 attribute or lock expression out of place")
  pub no_target : Refuses (codes "void f(void) { break; }") Refused 1 16 (codes "TY7 jump or label without its target")
  pub returned : Refuses (codes "void f(void) { return 1; }") Refused 1 16 (codes "TY8 wrong return")
  pub no_constant : Refuses (codes "int n; int a[n];") Refused 1 14 (codes "TY9 initialiser or constant refused")
  -- more places than a unit may have
  pub too_many_places : Refuses (codes "struct s { int x; }; struct s a[10], b[32760];") LimitPassed 1 38 (codes "LM6 over 65536 places")
  -- premises of the profile, each at the node where it fails
  pub inner_call : Refuses (codes "int ask(int i); int k; void f(void) { k = 1 + ask(1); }") Refused 1 47 (codes "PF1 call stands in a refused place")
  pub no_path : Refuses (locks ++ codes "int n; struct lock m[2]; void f(void) { acq(&m[n]); }") Refused 1 160 (codes "PF2 capability is no stable path")
  pub no_shape : Refuses (codes "struct s { int x; }; void f(struct s *p);") Refused 1 27 (codes "PF6 function without a body has no allowed shape")
