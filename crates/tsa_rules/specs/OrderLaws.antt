-- The order of warnings, worked out from units as they are written.
use Rattle.std.specs.Prelude.{◌≡◌, ℕ, nat_lt, true, List, [], ◌∷◌, ◌++◌, codes}
use Rattle.tsa_lex.specs.Quick.{quick_tokens_of}
use Rattle.tsa_tree.specs.types.Texts.{unit_in}
use Rattle.tsa_tree.specs.units.Syntax.{UnitItem}
use Rattle.tsa_place_model.specs.Ways.{Way}
use Rattle.tsa_place_model.specs.declared.path.Root.{Root}
use Rattle.tsa_place_model.specs.declared.path.Root.TheVariants.{Global, Local}
use Rattle.tsa_place_model.specs.declared.path.PathStep.{PathStep}
use Rattle.tsa_place_model.specs.declared.path.PathStep.TheVariants.{Field, Variable, Follow}
use Rattle.tsa_path.specs.PathTexts.{path_text}
use Rattle.tsa_rules.specs.Legends.{legend_of}
use Rattle.tsa_rules.specs.Warnings.{StandsBefore}

-- a function whose body comes after another's and names its parameters otherwise, with two locals of one name
abbrev pub unit : List UnitItem
unit = unit_in (quick_tokens_of (
    codes "struct CAPABILITY(\"mutex\") l { int s; }; struct a { struct l m; }; struct a bank[2]; void f(struct a *p, int i); void g(void) { ; } "
    ++ codes "void f(struct a *q, int) { { struct a *r = q; } int j = 0; { struct a *r = q; } }"))

abbrev pub path : Root → List PathStep → Way
path start steps = record { root = start; steps = steps }

abbrev pub text : Root → List PathStep → List ℕ
text start steps = path_text ((legend_of unit).names 0) (path start steps)

-- the locks of the two locals, and of elements by a parameter and by a local
abbrev pub first_r : Way
first_r = path (Local 2) (Follow ∷ Field 0 ∷ [])

abbrev pub second_r : Way
second_r = path (Local 4) (Follow ∷ Field 0 ∷ [])

pub record WarningsAreToldInOrder : Type 0 where
  pub named_by_the_body : text (Local 0) (Follow ∷ Field 0 ∷ []) ≡ codes "q->m"
  pub named_by_the_declaration : text (Global 0) (Variable 1 ∷ Field 0 ∷ []) ≡ codes "bank[i].m"
  pub named_by_a_local : text (Global 0) (Variable 3 ∷ Field 0 ∷ []) ≡ codes "bank[j].m"
  pub first_r_is_named : text (Local 2) (Follow ∷ Field 0 ∷ []) ≡ codes "r->m"
  pub second_r_is_named : text (Local 4) (Follow ∷ Field 0 ∷ []) ≡ codes "r->m"
  pub by_bodies : nat_lt ((legend_of unit).place 1) ((legend_of unit).place 0) ≡ true
  pub by_texts : StandsBefore ((legend_of unit).names 0) (path (Global 0) (Variable 1 ∷ Field 0 ∷ [])) first_r
  pub by_declarations : StandsBefore ((legend_of unit).names 0) first_r second_r
