-- The nodes of declarations, parameters, heads and enumerators stand in the order of the text.
use Rattle.std.proofs.Common.{ℕ, ◌+◌, ◌≡◌, ◌∙◌, ap, sym, refl, subst, List, [], ◌∷◌, ◌++◌, Bool, Option, append_assoc, arith}
use Rattle.tsa_base.specs.Tokens.{Lexeme}
use Rattle.tsa_tree.specs.declarations.Syntax.{Specified, Initialiser, Initialisers, Declaration, Declarator, Parameter, EnumConstant}
use Rattle.tsa_tree.specs.declarations.Syntax.{Signature, Head}
use Rattle.tsa_tree.specs.declarations.Spelling.{Role, IsSpecifier, no_star, of_star, of_const_star, IsDeclarator, of_declarator, IsLength}
use Rattle.tsa_tree.specs.declarations.Spelling.{no_length, of_length, IsInitialiser, of_value, of_no_values, of_values, IsInitialisers}
use Rattle.tsa_tree.specs.declarations.Spelling.{of_last_value, of_value_and_comma, of_further_value, IsInit, no_init, of_init, IsRest}
use Rattle.tsa_tree.specs.declarations.Spelling.{of_rest, IsDeclarators, of_last_declarator, of_further_declarator, IsMembers, no_member}
use Rattle.tsa_tree.specs.declarations.Spelling.{of_members, IsVariable, of_unset, of_set, IsVariables, of_last_variable}
use Rattle.tsa_tree.specs.declarations.Spelling.{of_further_variable, IsLocals, of_locals, of_one_local}
use Rattle.tsa_tree.specs.declarations.ItemSpelling.{IsParameter, of_named, of_unnamed, IsParameterList, of_last_parameter}
use Rattle.tsa_tree.specs.declarations.ItemSpelling.{of_further_parameter, IsParameters, no_parameter, of_lone_void, of_parameters}
use Rattle.tsa_tree.specs.declarations.ItemSpelling.{IsSignature, of_signature, IsHead, of_head, IsConstant, of_name_alone}
use Rattle.tsa_tree.specs.declarations.ItemSpelling.{of_name_and_value, IsConstants, of_last_constant, of_constant_and_comma}
use Rattle.tsa_tree.specs.declarations.ItemSpelling.{of_further_constant, IsEnumBody, of_enum_body}
use Rattle.tsa_tree.specs.expressions.Syntax.{Expression}
use Rattle.tsa_tree.specs.tokens.Signs.{Aliases}
use Rattle.tsa_tree.specs.units.Order.{places_in_optional, places_in_attributes, places_in_initialiser, places_in_initialisers}
use Rattle.tsa_tree.specs.units.Order.{places_in_init, places_in_declaration, places_in_declarations, places_in_parameters, places_in_head}
use Rattle.tsa_tree.specs.units.Order.{places_in_constants}
use Rattle.tsa_tree.proofs.attributes.NodesClimb.{climbs-attributes}
use Rattle.tsa_tree.proofs.declarations.TokenCounts.{ahead-specifier, ahead-star, ahead-storage}
use Rattle.tsa_tree.proofs.expressions.NodesClimb.{climbs-expression}
use Rattle.tsa_tree.proofs.tokens.Climbing.{Climbs, no_place, climbs-ends, climbs-within, climbs-then, climbs-last, climbs-over}
use Rattle.tsa_tree.proofs.tokens.Climbing.{climbs-alone, climbs-name}

places-declarations : (xs ys : List Declaration) → places_in_declarations (xs ++ ys) ≡ places_in_declarations xs ++ places_in_declarations ys
places-declarations [] ys = refl
places-declarations (x ∷ xs) ys =
    ap (λ zs. places_in_declaration x ++ zs) (places-declarations xs ys)
    ∙ sym (append_assoc (places_in_declaration x) (places_in_declarations xs) (places_in_declarations ys))

module _ {tokens : List Lexeme} {aliases : Aliases} {fits : ℕ → Bool} where
  climbs-length : {d : ℕ} {x : Option Expression} {a b : ℕ} → IsLength tokens aliases fits d x a b → Climbs tokens a b (places_in_optional x)
  climbs-length no_length = no_place (omega arith)
  climbs-length (of_length o f x c) = climbs-within (climbs-expression x) (omega arith) (omega arith)

  mutual
    climbs-initialiser : {d : ℕ} {x : Initialiser} {a b : ℕ} → IsInitialiser tokens aliases fits d x a b → Climbs tokens a b (places_in_initialiser x)
    climbs-initialiser (of_value x) = climbs-expression x
    climbs-initialiser (of_no_values {a = a} o f c) = climbs-alone a (a + 1 + 1) (omega arith) (omega arith)
    climbs-initialiser (of_values {a = a} {b = b} o f xs c) =
        let r = climbs-initialisers xs in
        let le = climbs-ends r in
        climbs-over a (b + 1) r (omega arith) (omega arith) (omega arith) (omega arith)

    climbs-initialisers : {d : ℕ} {xs : Initialisers} {a b : ℕ} → IsInitialisers tokens aliases fits d xs a b → Climbs tokens a b (places_in_initialisers xs)
    climbs-initialisers (of_last_value x) = climbs-last (climbs-initialiser x)
    climbs-initialisers (of_value_and_comma x c) = climbs-last (climbs-within (climbs-initialiser x) (omega arith) (omega arith))
    climbs-initialisers (of_further_value x c xs) = climbs-then (climbs-initialiser x) (omega arith) (climbs-initialisers xs)

  climbs-init : {r : Role} {d : ℕ} {x : Option Initialiser} {a b : ℕ} → IsInit tokens aliases fits r d x a b → Climbs tokens a b (places_in_init x)
  climbs-init no_init = no_place (omega arith)
  climbs-init (of_init s x) = climbs-within (climbs-initialiser x) (omega arith) (omega arith)

  -- a declaration, from its declarator on
  climbs-rest : {r : Role} {d : ℕ} {t : Specified} {c : Declarator} {x : Declaration} {a m b : ℕ} → IsDeclarator tokens aliases c a m
      → IsRest tokens aliases fits r d t c x m b → Climbs tokens a b (places_in_declaration x)
  climbs-rest {a = a} {b = b} (of_declarator star s) (of_rest l xs i) =
      let r = climbs-then (climbs-length l) (omega arith) (climbs-then (climbs-attributes xs) (omega arith) (climbs-init i)) in
      let le = climbs-ends r in
      let le' = ahead-star star in
      climbs-over a b r (omega arith) (omega arith) (omega arith) (omega arith)

  climbs-declarators : {r : Role} {d : ℕ} {t : Specified} {xs : List Declaration} {a b : ℕ} → IsDeclarators tokens aliases fits r d t xs a b
      → Climbs tokens a b (places_in_declarations xs)
  climbs-declarators (of_last_declarator c x) = climbs-last (climbs-rest c x)
  climbs-declarators (of_further_declarator c x s xs) = climbs-then (climbs-rest c x) (omega arith) (climbs-declarators xs)

  pub climbs-declared : {r : Role} {d : ℕ} {t : Specified} {xs : List Declaration} {a m b : ℕ} → IsSpecifier tokens aliases t a m
      → IsDeclarators tokens aliases fits r d t xs m b → Climbs tokens a b (places_in_declarations xs)
  climbs-declared t xs = let lt = ahead-specifier t in climbs-within (climbs-declarators xs) (omega arith) (omega arith)

  pub climbs-members : {d : ℕ} {xs : List Declaration} {a b : ℕ} → IsMembers tokens aliases fits d xs a b → Climbs tokens a b (places_in_declarations xs)
  climbs-members no_member = no_place (omega arith)
  climbs-members (of_members {xs = xs} {ys = ys} {a = a} {b = b} t cs e rest) =
      subst (Climbs tokens a b) (sym (places-declarations xs ys)) (climbs-then (climbs-declared t cs) (omega arith) (climbs-members rest))

  climbs-variable : {d : ℕ} {t : Specified} {x : Declaration} {a b : ℕ} → IsVariable tokens aliases fits d t x a b → Climbs tokens a b (places_in_declaration x)
  climbs-variable {a = a} {b = b} (of_unset (of_declarator star s) l) =
      let r = climbs-length l in
      let le = climbs-ends r in
      let le' = ahead-star star in
      climbs-over a b (climbs-last r) (omega arith) (omega arith) (omega arith) (omega arith)
  climbs-variable {a = a} {b = b} (of_set (of_declarator star s) l q x) =
      let r = climbs-then (climbs-length l) (omega arith) (climbs-expression x) in
      let le = climbs-ends r in
      let le' = ahead-star star in
      climbs-over a b r (omega arith) (omega arith) (omega arith) (omega arith)

  climbs-variables : {d : ℕ} {t : Specified} {xs : List Declaration} {a b : ℕ} → IsVariables tokens aliases fits d t xs a b
      → Climbs tokens a b (places_in_declarations xs)
  climbs-variables (of_last_variable x) = climbs-last (climbs-variable x)
  climbs-variables (of_further_variable x s xs) = climbs-then (climbs-variable x) (omega arith) (climbs-variables xs)

  pub climbs-local : {d : ℕ} {t : Specified} {x : Declaration} {a m b : ℕ} → IsSpecifier tokens aliases t a m → IsVariable tokens aliases fits d t x m b
      → Climbs tokens a b (places_in_declaration x)
  climbs-local t x = let lt = ahead-specifier t in climbs-within (climbs-variable x) (omega arith) (omega arith)

  pub climbs-locals : {single : Bool} {d : ℕ} {xs : List Declaration} {a b : ℕ} → IsLocals tokens aliases fits single d xs a b
      → Climbs tokens a b (places_in_declarations xs)
  climbs-locals (of_locals t xs) = let lt = ahead-specifier t in climbs-within (climbs-variables xs) (omega arith) (omega arith)
  climbs-locals (of_one_local t x) = climbs-last (climbs-local t x)

module _ {tokens : List Lexeme} {aliases : Aliases} where
  climbs-parameter : {x : Parameter} {a b : ℕ} → IsParameter tokens aliases x a b → Climbs tokens a b (x.span.from ∷ places_in_optional x.ctype.length)
  climbs-parameter (of_named {m = m} {n = n} t star e) =
      let lt = ahead-specifier t in
      let le = ahead-star star in
      climbs-alone m (n + 1) (omega arith) (omega arith)
  climbs-parameter (of_unnamed {a = a} {m = m} t no_star) = climbs-alone a m (omega arith) (ahead-specifier t)
  climbs-parameter (of_unnamed {m = m} t (of_star s)) = let lt = ahead-specifier t in climbs-alone m (m + 1) (omega arith) (omega arith)
  climbs-parameter (of_unnamed {m = m} t (of_const_star s s')) = let lt = ahead-specifier t in climbs-alone m (m + 1 + 1) (omega arith) (omega arith)

  climbs-parameter-list : {xs : List Parameter} {a b : ℕ} → IsParameterList tokens aliases xs a b → Climbs tokens a b (places_in_parameters xs)
  climbs-parameter-list (of_last_parameter x) = climbs-last (climbs-parameter x)
  climbs-parameter-list (of_further_parameter x c xs) = climbs-then (climbs-parameter x) (omega arith) (climbs-parameter-list xs)

  climbs-parameters : {xs : List Parameter} {a b : ℕ} → IsParameters tokens aliases xs a b → Climbs tokens a b (places_in_parameters xs)
  climbs-parameters no_parameter = no_place (omega arith)
  climbs-parameters (of_lone_void e) = no_place (omega arith)
  climbs-parameters (of_parameters e xs) = climbs-parameter-list xs

module _ {tokens : List Lexeme} {aliases : Aliases} {fits : ℕ → Bool} where
  climbs-signature : {s : Signature} {a b : ℕ} → IsSignature tokens aliases fits s a b
      → Climbs tokens a b (places_in_parameters s.params ++ places_in_attributes s.attrs)
  climbs-signature (of_signature o f ps c xs) =
      climbs-within (climbs-then (climbs-parameters ps) (omega arith) (climbs-attributes xs)) (omega arith) (omega arith)

  pub climbs-head : {h : Head} {a b : ℕ} → IsHead tokens aliases fits h a b → Climbs tokens a b (places_in_head h)
  climbs-head (of_head w t (of_declarator {m = m} star e) s) =
      let r = climbs-signature s in
      let le = ahead-storage w in
      let lt = ahead-specifier t in
      let le' = ahead-star star in
      let le'' = climbs-ends r in
      climbs-name m r (omega arith) (omega arith) (omega arith) (omega arith)

  climbs-constant : {x : EnumConstant} {a b : ℕ} → IsConstant tokens aliases fits x a b → Climbs tokens a b (x.name.span.from ∷ places_in_optional x.value)
  climbs-constant (of_name_alone {a = a} s) = climbs-name {m = a} {n = a} a (no_place (omega arith)) (omega arith) (omega arith) (omega arith) (omega arith)
  climbs-constant (of_name_and_value {a = a} s e x) =
      let r = climbs-expression x in
      let le = climbs-ends r in
      climbs-name a r (omega arith) (omega arith) (omega arith) (omega arith)

  climbs-constants : {xs : List EnumConstant} {a b : ℕ} → IsConstants tokens aliases fits xs a b → Climbs tokens a b (places_in_constants xs)
  climbs-constants (of_last_constant x) = climbs-last (climbs-constant x)
  climbs-constants (of_constant_and_comma x c) = climbs-last (climbs-within (climbs-constant x) (omega arith) (omega arith))
  climbs-constants (of_further_constant x c xs) = climbs-then (climbs-constant x) (omega arith) (climbs-constants xs)

  pub climbs-enum-body : {xs : List EnumConstant} {a b : ℕ} → IsEnumBody tokens aliases fits xs a b → Climbs tokens a b (places_in_constants xs)
  climbs-enum-body (of_enum_body o f xs c) = climbs-within (climbs-constants xs) (omega arith) (omega arith)
