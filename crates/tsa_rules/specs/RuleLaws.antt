-- Rules, worked out from functions as they are written: which fail at a point for the statuses free, shared, exclusive, lent and pending.
use Rattle.std.specs.Prelude.{◌≡◌, ℕ, List, [], ◌∷◌, ◌++◌, map, Option, Some, codes}
use Rattle.tsa_place_model.specs.Ways.{Way}
use Rattle.tsa_place_model.specs.declared.path.Root.TheVariants.{Global, Local}
use Rattle.tsa_place_model.specs.declared.path.PathStep.TheVariants.{Field, Variable, Follow}
use Rattle.tsa_core.specs.Examples.{program}
use Rattle.tsa_core.specs.Programs.{Program}
use Rattle.tsa_rules.specs.Fails.{Rule, TS01, TS02, TS03, TS05, TS06, TS07, TS08, TS09, TS11, TS12}
use Rattle.tsa_rules.specs.Texts.{global, of_function, once, broken_rules}

-- a number `n` under a lock `mu`, objects with locks of their own, functions that take, give and require locks, and a function of some
-- statements
abbrev unit : List ℕ → Program
unit body = program (
    codes "struct CAPABILITY(\"mutex\") l { int s; }; struct a { struct l m; int x GUARDED_BY(m); }; struct l mu; int n GUARDED_BY(mu); int k; struct a g, bank[2]; "
    ++ (codes "int take(struct l *m) ACQUIRE(m); int give(struct l *m) RELEASE(m); int ask(int i); void both(struct a *p, struct a *r) REQUIRES(p->m, r->m); "
    ++ (codes "void one(struct a *p, struct a *r) REQUIRES(p->m) EXCLUDES(r->m); void f(struct a *q, int i) { " ++ (body ++ codes " }"))))

-- the rules that fail at its points for a path
abbrev pub breaks : ℕ → Way → List ℕ → Option (List (List Rule))
breaks p c body = of_function 5 (λ u f. map (broken_rules u f p c) once) (unit body)

-- the locks of what the parameter `q` points to, of `g`, of a local pointer, and of an element
abbrev of_q : Way
of_q = record { root = Local 0; steps = Follow ∷ Field 0 ∷ [] }

abbrev of_g : Way
of_g = record { root = Global 3; steps = Field 0 ∷ [] }

abbrev of_p : Way
of_p = record { root = Local 2; steps = Follow ∷ Field 0 ∷ [] }

abbrev of_element : Way
of_element = record { root = Global 4; steps = Variable 2 ∷ Field 0 ∷ [] }

abbrev none : List (List Rule)
none = [] ∷ [] ∷ [] ∷ [] ∷ [] ∷ []

abbrev unless_held : List (List Rule)
unless_held = (TS01 ∷ []) ∷ [] ∷ [] ∷ [] ∷ (TS01 ∷ []) ∷ []

abbrev unless_exclusive : Rule → List (List Rule)
unless_exclusive r = (r ∷ []) ∷ (r ∷ []) ∷ [] ∷ (r ∷ []) ∷ (r ∷ []) ∷ []

abbrev unless_free : Rule → List (List Rule)
unless_free r = [] ∷ (r ∷ []) ∷ (r ∷ []) ∷ (r ∷ []) ∷ (r ∷ []) ∷ []

pub record AccessesNeedTheirLocks : Type 0 where
  pub read : breaks 0 (global 0) (codes "k = n;") ≡ Some unless_held
  pub read_in_a_test : breaks 0 (global 0) (codes "if (n) ;") ≡ Some unless_held
  pub read_in_a_choice : breaks 0 (global 0) (codes "switch (n) { }") ≡ Some unless_held
  pub read_for_a_call : breaks 0 (global 0) (codes "k = ask(n);") ≡ Some unless_held
  pub write : breaks 0 (global 0) (codes "n = k;") ≡ Some (unless_exclusive TS02)
  pub write_of_a_member : breaks 0 of_q (codes "q->x = 1;") ≡ Some (unless_exclusive TS02)
  pub write_by_an_index : breaks 1 of_element (codes "int j = i; bank[j].x = 1;") ≡ Some (unless_exclusive TS02)
  pub operator : breaks 0 (global 0) (codes "n += k;") ≡ Some ((TS01 ∷ TS02 ∷ []) ∷ (TS02 ∷ []) ∷ [] ∷ (TS02 ∷ []) ∷ (TS01 ∷ TS02 ∷ []) ∷ [])
  pub under_another_lock : breaks 0 of_g (codes "n = n;") ≡ Some none
  pub without_a_guard : breaks 0 (global 0) (codes "k = k;") ≡ Some none
  -- the left side is judged behind the call, and the call before it
  pub write_behind_a_taking : breaks 0 (global 0) (codes "n = take(&mu);") ≡ Some (unless_free TS06)
  pub write_behind_a_giving : breaks 0 (global 0) (codes "n = give(&mu);") ≡ Some ((TS02 ∷ TS07 ∷ []) ∷ (TS02 ∷ TS08 ∷ []) ∷ (TS02 ∷ []) ∷ (TS02 ∷ TS08 ∷ []) ∷ (TS02 ∷ TS07 ∷ []) ∷ [])

-- a function with an attribute, and the rules that fail for `mu` where it returns
abbrev pub leaves : (attribute body : List ℕ) → ℕ → Option (List (List Rule))
leaves attribute body p =
    of_function 1 (λ u f. map (broken_rules u f p (global 0)) once)
    (program (codes "struct CAPABILITY(\"mutex\") l { int s; }; struct l mu; int take(struct l *m) ACQUIRE(m); int f(int i) " ++ (attribute ++ (codes " { " ++ (body ++ codes " }")))))

pub record ReturnsAreAsDeclared : Type 0 where
  pub nothing_declared : leaves (codes "") (codes "") 0 ≡ Some (unless_free TS09)
  pub excluded : leaves (codes "EXCLUDES(mu)") (codes "return i;") 0 ≡ Some (unless_free TS09)
  pub required : leaves (codes "REQUIRES(mu)") (codes "return i;") 0 ≡ Some (unless_exclusive TS09)
  pub required_shared : leaves (codes "REQUIRES_SHARED(mu)") (codes "") 0 ≡ Some ((TS09 ∷ []) ∷ (TS09 ∷ []) ∷ (TS09 ∷ []) ∷ [] ∷ (TS09 ∷ []) ∷ [])
  pub acquired_shared : leaves (codes "ACQUIRE_SHARED(mu)") (codes "") 0 ≡ Some ((TS09 ∷ []) ∷ [] ∷ (TS09 ∷ []) ∷ (TS09 ∷ []) ∷ (TS09 ∷ []) ∷ [])
  pub tried_with_success : leaves (codes "TRY_ACQUIRE(1, mu)") (codes "return 1;") 0 ≡ Some (unless_exclusive TS09)
  pub tried_without_success : leaves (codes "TRY_ACQUIRE(1, mu)") (codes "return 0;") 0 ≡ Some (unless_free TS09)
  pub tried_at_the_end : leaves (codes "TRY_ACQUIRE(0, mu)") (codes "") 0 ≡ Some (unless_exclusive TS09)
  -- what is given back is judged behind the call
  pub behind_a_call : leaves (codes "ACQUIRE(mu)") (codes "return take(&mu);") 0 ≡ Some (unless_free TS06)
  pub no_return : leaves (codes "REQUIRES(mu)") (codes "i = 1;") 0 ≡ Some none

pub record NamesOfCallsDiffer : Type 0 where
  pub twice : breaks 0 of_q (codes "both(q, q);") ≡
      Some ((TS03 ∷ TS11 ∷ []) ∷ (TS03 ∷ TS11 ∷ []) ∷ (TS11 ∷ []) ∷ (TS03 ∷ TS11 ∷ []) ∷ (TS03 ∷ TS11 ∷ []) ∷ [])
  pub once_each : breaks 0 of_q (codes "both(q, &g);") ≡ Some (unless_exclusive TS03)
  -- each attribute is judged by itself, and one that excludes claims nothing
  pub beside_an_exclusion : breaks 0 of_q (codes "one(q, q);") ≡ Some ((TS03 ∷ []) ∷ (TS03 ∷ TS05 ∷ []) ∷ (TS05 ∷ []) ∷ (TS03 ∷ TS05 ∷ []) ∷ (TS03 ∷ TS05 ∷ []) ∷ [])
  pub of_another : breaks 0 of_g (codes "both(q, q);") ≡ Some none

pub record DeclarationsFindFreePaths : Type 0 where
  pub root : breaks 0 of_p (codes "struct a *p = q;") ≡ Some (unless_free TS12)
  pub index : breaks 0 of_element (codes "int j = i;") ≡ Some (unless_free TS12)
  pub of_another : breaks 0 of_q (codes "struct a *p = q;") ≡ Some none
  pub of_a_global : breaks 0 of_g (codes "int j = i;") ≡ Some none
