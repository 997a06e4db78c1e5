-- Paths as callers have them, and the texts of paths.
use Rattle.std.specs.Prelude.{◌≡◌, ℕ, zero, List, [], ◌∷◌, ◌++◌, Option, Some, None, slice_get, codes}
use Rattle.std.specs.Fmt.{decimal}
use Rattle.tsa_place_model.specs.Ways.{Way, from}
use Rattle.tsa_place_model.specs.declared.path.Root.TheVariants.{Global, Local, Owner}
use Rattle.tsa_place_model.specs.declared.path.PathStep.{PathStep}
use Rattle.tsa_place_model.specs.declared.path.PathStep.TheVariants.{Field, Constant, Variable, Follow}
use Rattle.tsa_path.specs.Substitution.{constant, substituted}
use Rattle.tsa_path.specs.PathTexts.{Label, Names, path_text}
use Rattle.tsa_path.specs.WrittenLocks.{label}

abbrev global : ℕ → List PathStep → Way
global n steps = record { root = Global n; steps = steps }

abbrev local : ℕ → List PathStep → Way
local n steps = record { root = Local n; steps = steps }

abbrev owned : List PathStep → Way
owned steps = record { root = Owner; steps = steps }

-- `p->a.mu` of a callee, of which p is the first parameter
abbrev member : Way
member = local 0 (Follow ∷ Field 2 ∷ Field 1 ∷ [])

-- `bank[i].mu`, of which i is the second
abbrev element : Way
element = global 7 (Variable 1 ∷ Field 1 ∷ [])

-- `p->row[i]->mu`, of which both are
abbrev both : Way
both = local 0 (Follow ∷ Field 3 ∷ Variable 1 ∷ Follow ∷ Field 1 ∷ [])

pub record SubstitutionsAreAsWritten : Type 0 where
  pub address_of_a_global : substituted (Some (global 4 []) ∷ []) member ≡ Some (global 4 (Field 2 ∷ Field 1 ∷ []))
  pub address_of_an_element : substituted (Some (global 4 (Constant 5 ∷ [])) ∷ []) member ≡ Some (global 4 (Constant 5 ∷ Field 2 ∷ Field 1 ∷ []))
  pub pointer_variable : substituted (Some (from (Local 6)) ∷ []) member ≡ Some (local 6 (Follow ∷ Field 2 ∷ Field 1 ∷ []))
  pub place_behind_a_variable : substituted (Some (local 6 (Follow ∷ [])) ∷ []) member ≡ Some (local 6 (Follow ∷ Field 2 ∷ Field 1 ∷ []))
  pub member_behind_a_variable : substituted (Some (local 6 (Follow ∷ Field 0 ∷ [])) ∷ []) member ≡ Some (local 6 (Follow ∷ Field 0 ∷ Field 2 ∷ Field 1 ∷ []))
  pub pointer_that_never_changes : substituted (Some (global 4 (Field 3 ∷ Follow ∷ [])) ∷ []) member ≡ Some (global 4 (Field 3 ∷ Follow ∷ Field 2 ∷ Field 1 ∷ []))
  pub of_the_owner : substituted (Some (owned (Field 3 ∷ [])) ∷ []) member ≡ Some (owned (Field 3 ∷ Field 2 ∷ Field 1 ∷ []))
  pub pointer_without_a_path : substituted (None ∷ []) member ≡ None
  pub number_that_is_followed : substituted (Some (constant 5) ∷ []) member ≡ None
  pub no_argument : substituted [] member ≡ None
  pub constant_index : substituted (None ∷ Some (constant 5) ∷ []) element ≡ Some (global 7 (Constant 5 ∷ Field 1 ∷ []))
  pub another_constant_index : substituted (None ∷ Some (constant 6) ∷ []) element ≡ Some (global 7 (Constant 6 ∷ Field 1 ∷ []))
  pub index_variable : substituted (None ∷ Some (from (Local 6)) ∷ []) element ≡ Some (global 7 (Variable 6 ∷ Field 1 ∷ []))
  pub index_without_a_path : substituted (None ∷ None ∷ []) element ≡ None
  pub pointer_that_is_an_index : substituted (None ∷ Some (global 4 []) ∷ []) element ≡ None
  pub in_each_position : substituted (Some (global 4 []) ∷ Some (from (Local 6)) ∷ []) both ≡ Some (global 4 (Field 3 ∷ Variable 6 ∷ Follow ∷ Field 1 ∷ []))
  pub turned_round : substituted (Some (from (Local 6)) ∷ Some (constant 5) ∷ []) both ≡ Some (local 6 (Follow ∷ Field 3 ∷ Constant 5 ∷ Follow ∷ Field 1 ∷ []))
  pub no_parameter : substituted [] (global 7 (Constant 5 ∷ Field 1 ∷ [])) ≡ Some (global 7 (Constant 5 ∷ Field 1 ∷ []))
  pub kept_owner : substituted [] (owned (Field 1 ∷ [])) ≡ Some (owned (Field 1 ∷ []))
  pub parameter_alone : substituted (Some (global 4 []) ∷ []) (from (Local 0)) ≡ None

abbrev members : ℕ → List Label
members zero = label (codes "mu") None ∷ label (codes "next") (Some 0) ∷ []
members _ = label (codes "b") (Some 0) ∷ []

-- globals `mu`, `bank` and `a`, locals `p`, `i` and `m`, a struct with members `mu` and `next`, and one with `b`
abbrev names : Option ℕ → Names
names owner = record {
  global = slice_get (label (codes "mu") None ∷ label (codes "bank") (Some 0) ∷ label (codes "a") (Some 1) ∷ []);
  local = slice_get (label (codes "p") (Some 0) ∷ label (codes "i") None ∷ label (codes "m") None ∷ []);
  member = λ structure. slice_get (members structure);
  owner = owner;
}

abbrev text : Way → List ℕ
text way = path_text (names None) way

pub record TextsAreAsWritten : Type 0 where
  pub name : text (global 0 []) ≡ codes "mu"
  pub pointer : text (local 2 (Follow ∷ [])) ≡ codes "*m"
  pub arrow : text (local 0 (Follow ∷ Field 0 ∷ [])) ≡ codes "p->mu"
  pub member : text (global 2 (Field 0 ∷ [])) ≡ codes "a.b"
  pub variable_index : text (global 1 (Variable 1 ∷ Field 0 ∷ [])) ≡ codes "bank[i].mu"
  pub constant_index : text (global 1 (Constant 7 ∷ Field 0 ∷ [])) ≡ codes "bank[" ++ ((decimal 7 ++ codes "]") ++ codes ".mu")
  pub member_behind_a_member : text (global 2 (Field 0 ∷ Follow ∷ Field 0 ∷ [])) ≡ codes "a.b->mu"
  pub pointer_in_a_member : text (global 2 (Field 0 ∷ Follow ∷ [])) ≡ codes "*a.b"
  pub two_arrows : text (local 0 (Follow ∷ Field 1 ∷ Follow ∷ Field 0 ∷ [])) ≡ codes "p->next->mu"
  pub pointer_behind_a_pointer : text (local 0 (Follow ∷ Field 1 ∷ Follow ∷ [])) ≡ codes "*p->next"
  pub own_member : path_text (names (Some 0)) (owned (Field 0 ∷ [])) ≡ codes "mu"
  pub own_pointer : path_text (names (Some 0)) (owned (Field 1 ∷ Follow ∷ Field 0 ∷ [])) ≡ codes "next->mu"
