-- Structs with the kinds of locks that they are, and paths with the structs to which they lead.
use Rattle.std.specs.Prelude.{◌≡◌, ℕ, Bool, true, false, List, [], ◌∷◌, ◌++◌, Option, Some, None, codes}
use Rattle.tsa_lex.specs.Quick.{quick_tokens_of}
use Rattle.tsa_tree.specs.declared.kind.Kind.TheVariants as type
use Rattle.tsa_tree.specs.types.Texts.{unit_in}
use Rattle.tsa_tree.specs.units.Syntax.{UnitItem}
use Rattle.tsa_place_model.specs.declared.path.Root.{Root}
use Rattle.tsa_place_model.specs.declared.path.Root.TheVariants as root
use Rattle.tsa_place_model.specs.declared.path.PathStep.{PathStep}
use Rattle.tsa_place_model.specs.declared.path.PathStep.TheVariants as way
use Rattle.tsa_core.specs.Programs.{LockKind, lock_kinds, program_of}
use Rattle.tsa_rules_view.specs.Kinds.{kind_in, is_taken_again}
use Rattle.tsa_rules_view.specs.Structs.{struct_by}

-- Structs `deep` and `flat` are locks, and `node` has one of each: a pointer to the first, and an array of the second.
abbrev text : List ℕ
text =
    codes "struct CAPABILITY(\"reentrant mutex\") deep { int s; }; struct CAPABILITY(\"reentrantmutex\") flat { int s; }; "
    ++ codes "struct node { int v; struct deep *d; struct flat f[2]; }; struct node n; struct deep g;"

abbrev unit : List UnitItem
unit = unit_in (quick_tokens_of text)

abbrev kind : List ℕ → Bool → Option LockKind
kind text again = Some (record { text = text; is_reentrant = again })

-- the struct to which a path leads in a function with a pointer to a node as its one local
abbrev led_to : Root → List PathStep → Option ℕ
led_to from steps = struct_by (program_of unit).layout (type.Pointer 2 false ∷ []) (record { root = from; steps = steps })

abbrev again : Option ℕ → Bool
again structure = is_taken_again (kind_in (program_of unit).locks structure)

pub record LockKindsAreAsWritten : Type 0 where
  -- a space stands behind the word
  pub kinds : lock_kinds unit ≡ kind (codes "reentrant mutex") true ∷ kind (codes "reentrantmutex") false ∷ None ∷ []
  -- n, n.d, n.f[1], g, and n.v, which is no struct
  pub global : led_to (root.Global 0) [] ≡ Some 2
  pub pointer : led_to (root.Global 0) (way.Field 1 ∷ []) ≡ Some 0
  pub element : led_to (root.Global 0) (way.Field 2 ∷ way.Constant 1 ∷ []) ≡ Some 1
  pub lock : led_to (root.Global 1) [] ≡ Some 0
  pub number : led_to (root.Global 0) (way.Field 0 ∷ []) ≡ None
  -- p->d, and the object whose member has a guard
  pub behind_pointer : led_to (root.Local 0) (way.Follow ∷ way.Field 1 ∷ way.Follow ∷ []) ≡ Some 0
  pub owner : led_to root.Owner (way.Field 0 ∷ []) ≡ None
  -- whether they may be taken again: a `deep`, a `flat`, a `node`, and what is no struct
  pub deep : again (Some 0) ≡ true
  pub flat : again (Some 1) ≡ false
  pub node : again (Some 2) ≡ false
  pub no_struct : again None ≡ false
