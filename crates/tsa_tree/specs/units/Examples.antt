-- Units as they are written, with what reading gives; and units that are refused, one row a kind.
use Rattle.std.specs.Prelude.{ℕ, ◌≡◌, List, [], ◌∷◌, ◌++◌, Some, None, Ok, Err, codes, map}
use Rattle.std.specs.List.{repeat}
use Rattle.std.specs.declared.result.Result.{Result}
use Rattle.tsa_base.specs.Tokens.{Lexeme, BadByte, tokens_of}
use Rattle.tsa_tree.specs.declarations.Examples.{alone, array_of, unset, x_of, n_is, f_of, function_f}
use Rattle.tsa_tree.specs.declarations.Syntax.{DeclaredType, int, void, alias}
use Rattle.tsa_tree.specs.expressions.Examples.{word, name}
use Rattle.tsa_tree.specs.expressions.Syntax.{nowhere}
use Rattle.tsa_tree.specs.units.Plain.{plain_item}
use Rattle.tsa_tree.specs.statements.Syntax.{evaluation, local, simple, return, Statements, none, more}
use Rattle.tsa_tree.specs.units.Answers.{read_unit}
use Rattle.tsa_tree.specs.units.Syntax.{UnitItem, structure_item, body_item}
use Rattle.tsa_grammar.specs.Reading.{syntax, deep, refuse, Outcome}

abbrev spanless : Outcome (List UnitItem) → Outcome (List UnitItem)
spanless (Ok found) = Ok (map plain_item found.0, found.1)
spanless (Err refusal) = Err refusal

abbrev unit_in : Outcome (List UnitItem) → Result (List Lexeme) BadByte → Outcome (List UnitItem)
unit_in other (Ok tokens) = read_unit tokens
unit_in other (Err bad) = other

-- what reading a whole text gives, but for spans
abbrev pub reads : List ℕ → Outcome (List UnitItem)
reads text = spanless (unit_in (Err (refuse syntax 0)) (tokens_of text))

-- the type that the name n is
abbrev pub of_n : DeclaredType
of_n = alone (alias (word (codes "n")))

-- the function f, without parameters and result, with this body
abbrev pub f_does : Statements → List UnitItem
f_does body = body_item (function_f (alone void) [] []) body nowhere ∷ []

abbrev pub local_a : DeclaredType → Statements → Statements
local_a ctype rest = more (local (unset (codes "a") ctype)) rest

abbrev pub structure_n : List UnitItem
structure_n = structure_item None (Some (word (codes "n"))) [] [] nowhere ∷ []

pub record UnitsAreRead : Type 0 where
  pub nothing : reads (codes " ") ≡ Ok ([], 0)
  pub one_item : reads (codes "int x;") ≡ Ok (x_of (alone int), 3)
  pub two_items : reads (codes "int x; int x[2];") ≡ Ok (x_of (alone int) ++ x_of (array_of int 2), 9)
  pub tag_alone : reads (codes "struct s; int x;") ≡ Ok (x_of (alone int), 6)
  pub prototype : reads (codes "void f(void);") ≡ Ok (f_of (alone void) [] [], 6)
  pub empty_body : reads (codes "void f(void) { }") ≡ Ok (f_does none, 7)
  pub body : reads (codes "void f(void) { int a; a; return; } int x;") ≡
      Ok (f_does (local_a (alone int) (more (simple (evaluation (name (codes "a")) nowhere)) (more (return None nowhere) none))) ++ x_of (alone int), 17)
  pub body_behind_prototype : reads (codes "void f(void); void f(void) { }") ≡ Ok (f_of (alone void) [] [] ++ f_does none, 13)
  -- the names of types
  pub alias_behind_its_item : reads (codes "typedef int n; n x;") ≡ Ok (n_is (alone int) ++ x_of of_n, 7)
  pub alias_of_a_structure : reads (codes "typedef struct { } n; n x;") ≡ Ok (structure_n ++ x_of of_n, 9)
  pub alias_in_a_body : reads (codes "typedef int n; void f(void) { n a; }") ≡ Ok (n_is (alone int) ++ f_does (local_a of_n none), 14)
  pub alias_before_its_item : reads (codes "n x; typedef int n;") ≡ Err (refuse syntax 0)
  pub alias_in_its_own_item : reads (codes "typedef n n;") ≡ Err (refuse syntax 1)
  pub alias_as_a_name : reads (codes "typedef int n; int n;") ≡ Err (refuse syntax 5)
  -- units that break off, or go on wrong
  pub ends_in_an_item : reads (codes "int x") ≡ Err (refuse syntax 2)
  pub ends_in_a_body : reads (codes "void f(void) { ") ≡ Err (refuse syntax 6)
  pub closed_twice : reads (codes "void f(void) { } }") ≡ Err (refuse syntax 7)
  pub semicolon_alone : reads (codes "int x;;") ≡ Err (refuse syntax 3)
  pub body_of_a_global : reads (codes "int x { }") ≡ Err (refuse syntax 2)
  pub two_functions : reads (codes "void f(void), f(void);") ≡ Err (refuse syntax 5)
  pub hundred_braces : reads (codes "void f(void)" ++ repeat 100 (codes "{")) ≡ Err (refuse syntax 105)
  pub more_braces : reads (codes "void f(void)" ++ repeat 101 (codes "{")) ≡ Err (refuse deep 105)
