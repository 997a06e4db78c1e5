-- The locks to which paths lead, and the attributes that name them, worked out from functions as they are written.
use Rattle.std.specs.Prelude.{◌≡◌, ℕ, Bool, true, false, List, [], ◌∷◌, ◌++◌, Option, Some, None, codes}
use Rattle.tsa_tree.specs.declared.attr.AttrKind.{AttrKind}
use Rattle.tsa_tree.specs.declared.attr.AttrKind.TheVariants as attr
use Rattle.tsa_place_model.specs.declared.path.Root.{Root}
use Rattle.tsa_place_model.specs.declared.path.Root.TheVariants.{Global, Local}
use Rattle.tsa_place_model.specs.declared.path.PathStep.{PathStep}
use Rattle.tsa_place_model.specs.declared.path.PathStep.TheVariants.{Field, Constant, Variable, Follow}
use Rattle.tsa_core.specs.Examples.{program}
use Rattle.tsa_core.specs.Programs.{LockKind, Program}
use Rattle.tsa_rules.specs.Attributes.{claim, claim_count, kind_of, lock_kind_of, named}
use Rattle.tsa_rules.specs.Points.{attrs_at}
use Rattle.tsa_rules.specs.Texts.{global, of_function}

-- locks of three kinds, objects with locks and pointers to such, and a function with parameters and locals
abbrev unit : Program
unit = program (
    codes "struct CAPABILITY(\"mutex\") l { int s; }; struct CAPABILITY(\"reentrant role\") r { int s; }; struct CAPABILITY(\"reentrantly\") e { int s; }; "
    ++ (codes "struct a { struct l m; struct r k; struct r *const kp; struct l ms[2]; struct a *const next; }; struct a g, b[2]; struct r *const top; struct e x; "
    ++ codes "void f(struct a *q, struct r *t) { struct a *p = q; struct l *m = &q->m; }"))

-- the kind of the lock to which a path of that function leads
abbrev pub lock : Root → List PathStep → Option (Option LockKind)
lock start steps = of_function 0 (λ u f. lock_kind_of u f (record { root = start; steps = steps })) unit

abbrev a_lock : List ℕ → Bool → Option (Option LockKind)
a_lock text is_reentrant = Some (Some (record { text = text; is_reentrant = is_reentrant }))

abbrev mutex : Option (Option LockKind)
mutex = a_lock (codes "mutex") false

abbrev role : Option (Option LockKind)
role = a_lock (codes "reentrant role") true

pub record PathsLeadToTheirLocks : Type 0 where
  pub member : lock (Global 0) (Field 0 ∷ []) ≡ mutex
  pub reentrant_member : lock (Global 0) (Field 1 ∷ []) ≡ role
  pub behind_a_member : lock (Global 0) (Field 2 ∷ Follow ∷ []) ≡ role
  pub element_of_a_member : lock (Global 0) (Field 3 ∷ Constant 1 ∷ []) ≡ mutex
  pub along_pointers : lock (Global 1) (Variable 0 ∷ Field 4 ∷ Follow ∷ Field 1 ∷ []) ≡ role
  pub behind_a_global : lock (Global 2) (Follow ∷ []) ≡ role
  pub another_word : lock (Global 3) [] ≡ a_lock (codes "reentrantly") false
  pub of_a_parameter : lock (Local 0) (Follow ∷ Field 0 ∷ []) ≡ mutex
  pub behind_a_parameter : lock (Local 1) (Follow ∷ []) ≡ role
  pub of_a_local : lock (Local 2) (Follow ∷ Field 1 ∷ []) ≡ role
  pub behind_a_local : lock (Local 3) (Follow ∷ []) ≡ mutex
  pub no_lock : lock (Global 0) [] ≡ Some None

-- the kind of the first attribute that names a global in a call, that of the first that claims it, and how many claim it
abbrev pub attributes : (attributes body : List ℕ) → (path : ℕ) → Option (Option AttrKind × (Option AttrKind × ℕ))
attributes text body c =
    of_function 1 (λ u f. (named (attrs_at u f 0) (global c), (kind_of (claim (attrs_at u f 0) (global c)), claim_count (attrs_at u f 0) (global c))))
    (program (codes "struct CAPABILITY(\"mutex\") l { int s; }; struct l mu, nu; void g(struct l *m, struct l *n) " ++ (text ++ (codes "; void f(void) { " ++ (body ++ codes " }")))))

pub record AttributesNameWhatArgumentsAre : Type 0 where
  pub first : attributes (codes "REQUIRES(*m) RELEASE(*n)") (codes "g(&mu, &nu);") 0 ≡ Some (Some attr.Requires, (Some attr.Requires, 1))
  pub second : attributes (codes "REQUIRES(*m) RELEASE(*n)") (codes "g(&mu, &nu);") 1 ≡ Some (Some attr.Release, (Some attr.Release, 1))
  pub turned_round : attributes (codes "REQUIRES(*m) RELEASE(*n)") (codes "g(&nu, &mu);") 0 ≡ Some (Some attr.Release, (Some attr.Release, 1))
  pub both : attributes (codes "REQUIRES(*m) RELEASE(*n)") (codes "g(&mu, &mu);") 0 ≡ Some (Some attr.Requires, (Some attr.Requires, 2))
  pub behind_an_exclusion : attributes (codes "EXCLUDES(*m) RELEASE(*n)") (codes "g(&mu, &mu);") 0 ≡ Some (Some attr.Excludes, (Some attr.Release, 1))
  pub none : attributes (codes "REQUIRES(*m)") (codes "g(&mu, &nu);") 1 ≡ Some (None, (None, 0))
  pub no_call : attributes (codes "REQUIRES(*m)") (codes "; g(&mu, &nu);") 0 ≡ Some (None, (None, 0))
  pub by_name : attributes (codes "REQUIRES(nu)") (codes "g(&mu, &mu);") 1 ≡ Some (Some attr.Requires, (Some attr.Requires, 1))
