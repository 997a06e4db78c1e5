-- The names in declarations stand one after the other, the name of a base that several share counted once.
use Rattle.std.proofs.Common.{ℕ, ◌+◌, ◌≡◌, ◌∙◌, ap, sym, refl, subst, List, [], ◌∷◌, ◌++◌, Bool, true, false, Option, Some, None}
use Rattle.std.proofs.Common.{append_assoc, if◌then◌else◌, arith}
use Rattle.std.proofs.lemmas.Bool.{eq-eqb}
use Rattle.tsa_base.specs.Tokens.{Lexeme}
use Rattle.tsa_tree.specs.declarations.Syntax.{Base, Specified, Initialiser, Initialisers, Declaration, Declarator}
use Rattle.tsa_tree.specs.declarations.Spelling.{Role, IsBase, of_int, of_unsigned, of_unsigned_int, of_signed, of_signed_int, of_void}
use Rattle.tsa_tree.specs.declarations.Spelling.{of_struct, of_enum, of_alias, IsSpecifier, of_specifier, IsDeclarator, of_declarator}
use Rattle.tsa_tree.specs.declarations.Spelling.{IsLength, no_length, of_length, IsInitialiser, of_value, of_no_values, of_values}
use Rattle.tsa_tree.specs.declarations.Spelling.{IsInitialisers, of_last_value, of_value_and_comma, of_further_value, IsInit, no_init}
use Rattle.tsa_tree.specs.declarations.Spelling.{of_init, IsRest, of_rest, IsDeclarators, of_last_declarator, of_further_declarator}
use Rattle.tsa_tree.specs.declarations.Spelling.{IsMembers, no_member, of_members, IsVariable, of_unset, of_set, IsVariables}
use Rattle.tsa_tree.specs.declarations.Spelling.{of_last_variable, of_further_variable, IsLocals, of_locals, of_one_local}
use Rattle.tsa_tree.specs.expressions.Syntax.{Identifier, Expression}
use Rattle.tsa_tree.specs.tokens.Signs.{Aliases}
use Rattle.tsa_tree.specs.units.Names.{names_in_optional, the_name, name_of_base, begins_where, name_unshared, names_in_initialiser}
use Rattle.tsa_tree.specs.units.Names.{names_in_initialisers, names_in_init, names_behind_base, base_in, names_in_declaration}
use Rattle.tsa_tree.specs.units.Names.{names_in_declarations}
use Rattle.tsa_tree.proofs.attributes.NamesRise.{rises-attributes}
use Rattle.tsa_tree.proofs.declarations.TokenCounts.{ahead-consts, ahead-star}
use Rattle.tsa_tree.proofs.expressions.NamesRise.{rises-expression}
use Rattle.tsa_tree.proofs.tokens.Rising.{Rises, no_name, name_at, rises-ends, rises-within, rises-then, rises-next, rises-here, rises-last}

-- the base of the last of some declarations, or else the one before them
abbrev pub last_base : (before : Option Identifier) → List Declaration → Option Identifier
last_base before [] = before
last_base before (x ∷ xs) = last_base (base_in x) xs

pub names-declarations : (before : Option Identifier) (xs ys : List Declaration)
    → names_in_declarations before (xs ++ ys) ≡ names_in_declarations before xs ++ names_in_declarations (last_base before xs) ys
names-declarations before [] ys = refl
names-declarations before (x ∷ xs) ys =
    ap (λ zs. names_in_declaration before x ++ zs) (names-declarations (base_in x) xs ys)
    ∙ sym (append_assoc (names_in_declaration before x) (names_in_declarations (base_in x) xs) (names_in_declarations (last_base (base_in x) xs) ys))

module _ {tokens : List Lexeme} where
  left_out : {a b : ℕ} (shared : Bool) (x : Identifier) → Rises tokens a b (x ∷ []) → Rises tokens a b (if shared then [] else x ∷ [])
  left_out true x r = no_name (rises-ends r)
  left_out false x r = r

  -- whether the name of a base is counted or not, those that are stand one after the other
  pub rises-unshared : {a b : ℕ} (before name : Option Identifier) → Rises tokens a b (the_name name) → Rises tokens a b (name_unshared before name)
  rises-unshared before None r = r
  rises-unshared before (Some x) r = left_out (begins_where before x) x r

  -- the name of a base isn't counted after itself
  pub rises-shared : {a : ℕ} (name : Option Identifier) → Rises tokens a a (name_unshared name name)
  rises-shared None = no_name (omega arith)
  rises-shared {a = a} (Some x) =
      subst (λ (b : Bool). Rises tokens a a (if b then [] else x ∷ [])) (sym (eq-eqb x.span.from x.span.from refl)) (no_name (omega arith))

  -- a declaration whose base has this name, after another
  counted : (before : Option Identifier) (x : Declaration) {name : Option Identifier} {e a b : ℕ} → name ≡ base_in x
      → Rises tokens e a (name_unshared before name) → Rises tokens a b (names_behind_base x) → Rises tokens e b (names_in_declaration before x)
  counted before x {e = e} {a = a} same u r = rises-then (subst (λ n. Rises tokens e a (name_unshared before n)) same u) (omega arith) r

module _ {tokens : List Lexeme} {aliases : Aliases} where
  rises-base : {x : Base} {a b : ℕ} → IsBase tokens aliases x a b → Rises tokens a b (the_name (name_of_base x))
  rises-base (of_int s) = no_name (omega arith)
  rises-base (of_unsigned s) = no_name (omega arith)
  rises-base (of_unsigned_int s t) = no_name (omega arith)
  rises-base (of_signed s) = no_name (omega arith)
  rises-base (of_signed_int s t) = no_name (omega arith)
  rises-base (of_void s) = no_name (omega arith)
  rises-base (of_struct {a = a} s t) = rises-within (rises-here (a + 1)) (omega arith) (omega arith)
  rises-base (of_enum {a = a} s t) = rises-within (rises-here (a + 1)) (omega arith) (omega arith)
  rises-base (of_alias {a = a} s) = rises-here a

  pub rises-specifier : {t : Specified} {a b : ℕ} → IsSpecifier tokens aliases t a b → Rises tokens a b (the_name (name_of_base t.base))
  rises-specifier (of_specifier before base behind) = rises-within (rises-base base) (ahead-consts before) (ahead-consts behind)

  -- the name of a declarator, and what stands after it
  pub declared : {c : Declarator} {a m b : ℕ} {xs : List Identifier} → IsDeclarator tokens aliases c a m → Rises tokens m b xs → Rises tokens a b (c.name ∷ xs)
  declared (of_declarator {m = m} star s) r = name_at m (ahead-star star) r

module _ {tokens : List Lexeme} {aliases : Aliases} {fits : ℕ → Bool} where
  pub rises-length : {d : ℕ} {x : Option Expression} {a b : ℕ} → IsLength tokens aliases fits d x a b → Rises tokens a b (names_in_optional x)
  rises-length no_length = no_name (omega arith)
  rises-length (of_length o f x c) = rises-within (rises-expression x) (omega arith) (omega arith)

  mutual
    rises-initialiser : {d : ℕ} {x : Initialiser} {a b : ℕ} → IsInitialiser tokens aliases fits d x a b → Rises tokens a b (names_in_initialiser x)
    rises-initialiser (of_value x) = rises-expression x
    rises-initialiser (of_no_values o f c) = no_name (omega arith)
    rises-initialiser (of_values o f xs c) = rises-within (rises-initialisers xs) (omega arith) (omega arith)

    rises-initialisers : {d : ℕ} {xs : Initialisers} {a b : ℕ} → IsInitialisers tokens aliases fits d xs a b → Rises tokens a b (names_in_initialisers xs)
    rises-initialisers (of_last_value x) = rises-last (rises-initialiser x)
    rises-initialisers (of_value_and_comma x c) = rises-last (rises-within (rises-initialiser x) (omega arith) (omega arith))
    rises-initialisers (of_further_value x c xs) = rises-then (rises-initialiser x) (omega arith) (rises-initialisers xs)

  rises-init : {r : Role} {d : ℕ} {x : Option Initialiser} {a b : ℕ} → IsInit tokens aliases fits r d x a b → Rises tokens a b (names_in_init x)
  rises-init no_init = no_name (omega arith)
  rises-init (of_init s x) = rises-within (rises-initialiser x) (omega arith) (omega arith)

  pub rises-rest : {r : Role} {d : ℕ} {t : Specified} {c : Declarator} {x : Declaration} {a m b : ℕ} → IsDeclarator tokens aliases c a m
      → IsRest tokens aliases fits r d t c x m b → Rises tokens a b (names_behind_base x)
  rises-rest c (of_rest l xs i) = declared c (rises-then (rises-length l) (omega arith) (rises-then (rises-attributes xs) (omega arith) (rises-init i)))

  base-rest : {r : Role} {d : ℕ} {t : Specified} {c : Declarator} {x : Declaration} {a b : ℕ} → IsRest tokens aliases fits r d t c x a b
      → name_of_base t.base ≡ base_in x
  base-rest (of_rest l xs i) = refl

  pub rises-declarators : {r : Role} {d : ℕ} {t : Specified} {xs : List Declaration} {a b : ℕ} → IsDeclarators tokens aliases fits r d t xs a b
      → (before : Option Identifier) (e : ℕ) → Rises tokens e a (name_unshared before (name_of_base t.base)) → Rises tokens e b (names_in_declarations before xs)
  rises-declarators (of_last_declarator {x = y} c x) before e u = rises-last (counted before y (base-rest x) u (rises-rest c x))
  rises-declarators (of_further_declarator {t = t} {x = y} {xs = xs} {n = n} {b = b} c x s rest) before e u =
      rises-then (counted before y (base-rest x) u (rises-rest c x)) (omega arith)
      (subst (λ n'. Rises tokens (n + 1) b (names_in_declarations n' xs)) (base-rest x)
      (rises-declarators rest (name_of_base t.base) (n + 1) (rises-shared (name_of_base t.base))))

  -- a specifier and its declarators
  pub rises-declared : {r : Role} {d : ℕ} {t : Specified} {xs : List Declaration} {a m b : ℕ} → IsSpecifier tokens aliases t a m
      → IsDeclarators tokens aliases fits r d t xs m b → (before : Option Identifier) → Rises tokens a b (names_in_declarations before xs)
  rises-declared {t = t} {a = a} s xs before = rises-declarators xs before a (rises-unshared before (name_of_base t.base) (rises-specifier s))

  pub rises-members : {d : ℕ} {xs : List Declaration} {a b : ℕ} → IsMembers tokens aliases fits d xs a b → (before : Option Identifier)
      → Rises tokens a b (names_in_declarations before xs)
  rises-members no_member before = no_name (omega arith)
  rises-members (of_members {xs = xs} {ys = ys} {a = a} {b = b} s cs e rest) before =
      subst (Rises tokens a b) (sym (names-declarations before xs ys))
      (rises-then (rises-declared s cs before) (omega arith) (rises-members rest (last_base before xs)))

  pub rises-variable : {d : ℕ} {t : Specified} {x : Declaration} {a b : ℕ} → IsVariable tokens aliases fits d t x a b → Rises tokens a b (names_behind_base x)
  rises-variable (of_unset c l) = declared c (rises-last (rises-length l))
  rises-variable (of_set c l s x) = declared c (rises-next (rises-length l) (rises-expression x) (omega arith) (omega arith))

  base-variable : {d : ℕ} {t : Specified} {x : Declaration} {a b : ℕ} → IsVariable tokens aliases fits d t x a b → name_of_base t.base ≡ base_in x
  base-variable (of_unset c l) = refl
  base-variable (of_set c l s x) = refl

  pub rises-variables : {d : ℕ} {t : Specified} {xs : List Declaration} {a b : ℕ} → IsVariables tokens aliases fits d t xs a b
      → (before : Option Identifier) (e : ℕ) → Rises tokens e a (name_unshared before (name_of_base t.base)) → Rises tokens e b (names_in_declarations before xs)
  rises-variables (of_last_variable {x = y} x) before e u = rises-last (counted before y (base-variable x) u (rises-variable x))
  rises-variables (of_further_variable {t = t} {x = y} {xs = xs} {m = m} {b = b} x s rest) before e u =
      rises-then (counted before y (base-variable x) u (rises-variable x)) (omega arith)
      (subst (λ n. Rises tokens (m + 1) b (names_in_declarations n xs)) (base-variable x)
      (rises-variables rest (name_of_base t.base) (m + 1) (rises-shared (name_of_base t.base))))

  pub rises-local : {d : ℕ} {t : Specified} {x : Declaration} {a m b : ℕ} → IsSpecifier tokens aliases t a m → IsVariable tokens aliases fits d t x m b
      → (before : Option Identifier) → Rises tokens a b (names_in_declaration before x)
  rises-local {t = t} {x = y} s x before =
      counted before y (base-variable x) (rises-unshared before (name_of_base t.base) (rises-specifier s)) (rises-variable x)

  pub rises-locals : {single : Bool} {d : ℕ} {xs : List Declaration} {a b : ℕ} → IsLocals tokens aliases fits single d xs a b → (before : Option Identifier)
      → Rises tokens a b (names_in_declarations before xs)
  rises-locals (of_locals {t = t} {a = a} s xs) before = rises-variables xs before a (rises-unshared before (name_of_base t.base) (rises-specifier s))
  rises-locals (of_one_local s x) before = rises-last (rises-local s x before)
