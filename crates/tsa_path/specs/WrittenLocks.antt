-- Lock expressions as they are written in attributes, with the texts of their paths.
use Rattle.std.specs.Prelude.{◌≡◌, ℕ, Bool, true, false, List, [], ◌∷◌, ◌++◌, Option, Some, None, option_map, slice_get, codes}
use Rattle.std.specs.Fmt.{decimal}
use Rattle.tsa_lex.specs.Quick.{quick_tokens_of}
use Rattle.tsa_tree.specs.declared.kind.Kind.{Kind}
use Rattle.tsa_tree.specs.declared.kind.Kind.TheVariants as type
use Rattle.tsa_tree.specs.types.Texts.{unit_in}
use Rattle.tsa_place_model.specs.Ways.{Way}
use Rattle.tsa_place_model.specs.Calls.{Layout}
use Rattle.tsa_place_model.specs.Layouts.{Part, structure_at}
use Rattle.tsa_core.specs.Programs.{Attr, Function, Program, program_of}
use Rattle.tsa_path.specs.PathTexts.{Label, Names, path_text}
use Rattle.tsa_path.specs.Sameness.{same_way}

-- the names of a unit, by its places, and those of a function's parameters
abbrev pub struct_in : Kind → Option ℕ
struct_in (type.Structure n) = Some n
struct_in (type.Pointer n to_const) = Some n
struct_in _ = None

abbrev label_of : Part → Label
label_of part = record { name = part.name; structure = struct_in part.thing.kind }

abbrev names_in : Layout → List Label → Names
names_in l params = record {
  global = λ n. option_map label_of (slice_get l.globals n);
  local = slice_get params;
  member = λ s k. option_map label_of (slice_get (structure_at l.structs s).members k);
  owner = None;
}

abbrev pub label : List ℕ → Option ℕ → Label
label name structure = record { name = name; structure = structure }

-- the paths of all attributes of a unit's functions
abbrev paths_of : List Attr → List (Option Way)
paths_of [] = []
paths_of (a ∷ rest) = a.path ∷ paths_of rest

abbrev paths_among : List Function → List (Option Way)
paths_among [] = []
paths_among (f ∷ rest) = paths_of f.attrs ++ paths_among rest

-- locks, pointers to them that may change or never do, and objects with locks of their own
abbrev unit : List ℕ
unit = codes "struct CAPABILITY(\"m\") l { int s; }; struct n { struct l mu; struct n *const next; struct n *link; struct l a[2]; }; typedef struct l *const LP; struct l mu, *const cp, *vp; LP ap; struct n g, bank[3]; struct l *h(void);"

abbrev program : List ℕ → Program
program text = program_of (unit_in (quick_tokens_of (unit ++ text)))

abbrev params : List Label
params = label (codes "m") (Some 0) ∷ label (codes "p") (Some 1) ∷ label (codes "i") None ∷ []

-- the texts of the paths of attributes, each with a blank behind it; nothing stands for what has no path
abbrev texts_in : Names → List (Option Way) → List ℕ
texts_in names [] = []
texts_in names (None ∷ rest) = codes " " ++ texts_in names rest
texts_in names (Some w ∷ rest) = path_text names w ++ (codes " " ++ texts_in names rest)

abbrev texts_by : Program → List ℕ
texts_by p = texts_in (names_in p.layout params) (paths_among p.functions)

-- those of a function that takes a lock, by what its attribute names, and those of one with a body
abbrev locks : List ℕ → List ℕ
locks text = texts_by (program (codes "void f(struct l *m, struct n *p, int i) ACQUIRE(" ++ (text ++ codes ");")))

abbrev within : List ℕ → List ℕ
within body = texts_by (program (codes "void f(struct l *m, struct n *p, int i) ACQUIRE(m, p->mu, p->a[i]) {" ++ (body ++ codes "}")))

-- whether the paths of two locks are the same
abbrev are_same : List (Option Way) → Bool
are_same (Some v ∷ Some w ∷ []) = same_way v w
are_same ways = false

abbrev same : List ℕ → Bool
same text = are_same (paths_among (program (codes "void f(struct l *m, struct n *p, int i) ACQUIRE(" ++ (text ++ codes ");"))).functions)

abbrev at : ℕ → List ℕ → List ℕ
at n text = text ++ (codes "[" ++ (decimal n ++ codes "]"))

pub record LocksAreAsWritten : Type 0 where
  pub globals : locks (codes "mu, &mu, *&mu") ≡ codes "mu mu mu "
  pub parameters : locks (codes "m, *m, &*m") ≡ codes "*m *m *m "
  pub pointers : locks (codes "cp, *cp, ap") ≡ codes "*cp *cp *ap "
  pub pointer_that_may_change : locks (codes "vp, *vp") ≡ codes "  "
  pub members : locks (codes "p->mu, &p->mu, (*p).mu, g.mu") ≡ codes "p->mu p->mu p->mu g.mu "
  pub members_behind_members : locks (codes "p->next->mu, g.next->next->mu") ≡ codes "p->next->mu g.next->next->mu "
  pub members_behind_what_may_change : locks (codes "p->link->mu, g.link->mu") ≡ codes "  "
  pub elements : locks (codes "bank[1].mu, p->a[1], &g.a[0]")
      ≡ (at 1 (codes "bank") ++ codes ".mu") ++ (codes " " ++ (at 1 (codes "p->a") ++ (codes " " ++ (at 0 (codes "g.a") ++ codes " "))))
  pub elements_by_a_parameter : locks (codes "bank[i].mu, p->a[i], bank[i].next->a[i]") ≡ codes "bank[i].mu p->a[i] bank[i].next->a[i] "
  pub elements_by_a_constant : locks (codes "bank[1 + 1].mu") ≡ (at 2 (codes "bank") ++ codes ".mu") ++ codes " "
  pub elements_out_of_range : locks (codes "bank[3].mu, bank[-1].mu") ≡ codes "  "
  pub elements_by_what_is_no_index : locks (codes "bank[1 + i].mu, bank[mu.s].mu") ≡ codes "  "
  pub a_call : locks (codes "h(), *h()") ≡ codes "  "
  pub never_assigned : within (codes "mu.s = i;") ≡ codes "*m p->mu p->a[i] "
  pub assigned_index : within (codes "i = 1;") ≡ codes "*m p->mu  "
  pub assigned_pointer : within (codes "p = &g;") ≡ codes "*m   "
  pub same_lock : same (codes "p->mu, &(*p).mu") ≡ true
  pub two_elements : same (codes "p->a[0], p->a[1]") ≡ false
  pub two_members : same (codes "p->mu, p->next->mu") ≡ false
  pub two_roots : same (codes "g.mu, p->mu") ≡ false
