-- The spans in declarations are those of their tokens, and of those of the specifier before them.
use Rattle.std.proofs.Common.{ℕ, ◌+◌, ◌≤◌, ◌≡◌, ◌∙◌, ap, sym, refl, subst, List, [], ◌∷◌, ◌++◌, Bool, Option, append_assoc, arith}
use Rattle.tsa_base.specs.declared.token.Span.{Span}
use Rattle.tsa_base.specs.Tokens.{Lexeme}
use Rattle.tsa_tree.specs.declarations.Syntax.{Base, Specified, Initialiser, Initialisers, Declaration, Declarator}
use Rattle.tsa_tree.specs.declarations.Spelling.{Role, IsBase, of_int, of_unsigned, of_unsigned_int, of_signed, of_signed_int, of_void}
use Rattle.tsa_tree.specs.declarations.Spelling.{of_struct, of_enum, of_alias, IsSpecifier, of_specifier, IsDeclarator, of_declarator}
use Rattle.tsa_tree.specs.declarations.Spelling.{IsLength, no_length, of_length, IsInitialiser, of_value, of_no_values, of_values}
use Rattle.tsa_tree.specs.declarations.Spelling.{IsInitialisers, of_last_value, of_value_and_comma, of_further_value, IsInit, no_init}
use Rattle.tsa_tree.specs.declarations.Spelling.{of_init, IsRest, of_rest, IsDeclarators, of_last_declarator, of_further_declarator}
use Rattle.tsa_tree.specs.declarations.Spelling.{IsMembers, no_member, of_members, IsVariable, of_unset, of_set, IsVariables}
use Rattle.tsa_tree.specs.declarations.Spelling.{of_last_variable, of_further_variable, IsLocals, of_locals, of_one_local}
use Rattle.tsa_tree.specs.expressions.Syntax.{Expression}
use Rattle.tsa_tree.specs.tokens.Signs.{Aliases}
use Rattle.tsa_tree.specs.units.Names.{name_of_base}
use Rattle.tsa_tree.specs.units.Spans.{spans_in_optional, span_in_base, spans_in_initialiser, spans_in_initialisers, spans_in_init}
use Rattle.tsa_tree.specs.units.Spans.{spans_in_declaration, spans_in_declarations}
use Rattle.tsa_tree.proofs.attributes.SpansCover.{cover-attributes}
use Rattle.tsa_tree.proofs.declarations.TokenCounts.{ahead-consts, ahead-star}
use Rattle.tsa_tree.proofs.declarations.NamesRise.{rises-shared, rises-rest, rises-declarators, rises-variable, rises-variables}
use Rattle.tsa_tree.proofs.expressions.SpansCover.{cover-expression}
use Rattle.tsa_tree.proofs.tokens.Covering.{Cover, no_span, over, name_at, cover-ends, cover-within, cover-both, cover-then, cover-last}
use Rattle.tsa_tree.proofs.tokens.Rising.{rises-ends}

pub spans-declarations : (xs ys : List Declaration) → spans_in_declarations (xs ++ ys) ≡ spans_in_declarations xs ++ spans_in_declarations ys
spans-declarations [] ys = refl
spans-declarations (x ∷ xs) ys =
    ap (λ zs. spans_in_declaration x ++ zs) (spans-declarations xs ys)
    ∙ sym (append_assoc (spans_in_declaration x) (spans_in_declarations xs) (spans_in_declarations ys))

module _ {tokens : List Lexeme} {aliases : Aliases} where
  cover-base : {x : Base} {a b : ℕ} → IsBase tokens aliases x a b → Cover tokens a b (span_in_base x)
  cover-base (of_int s) = no_span (omega arith)
  cover-base (of_unsigned s) = no_span (omega arith)
  cover-base (of_unsigned_int s t) = no_span (omega arith)
  cover-base (of_signed s) = no_span (omega arith)
  cover-base (of_signed_int s t) = no_span (omega arith)
  cover-base (of_void s) = no_span (omega arith)
  cover-base (of_struct {a = a} s t) = name_at (a + 1) (omega arith) (omega arith) (no_span (omega arith))
  cover-base (of_enum {a = a} s t) = name_at (a + 1) (omega arith) (omega arith) (no_span (omega arith))
  cover-base (of_alias {a = a} s) = name_at a (omega arith) (omega arith) (no_span (omega arith))

  pub cover-specifier : {t : Specified} {a b : ℕ} → IsSpecifier tokens aliases t a b → Cover tokens a b (span_in_base t.base)
  cover-specifier (of_specifier before base behind) = cover-within (cover-base base) (ahead-consts before) (ahead-consts behind)

  -- a declarator's name, in front of what stands after it
  pub cover-declarator : {c : Declarator} {a m b : ℕ} {ss : List Span} → IsDeclarator tokens aliases c a m → Cover tokens m b ss
      → Cover tokens a b (c.name.span ∷ ss)
  cover-declarator (of_declarator {m = m} star s) r =
      let le = ahead-star star in
      let le' = cover-ends r in
      name_at m le (omega arith) (cover-within r (omega arith) (omega arith))

module _ {tokens : List Lexeme} {aliases : Aliases} {fits : ℕ → Bool} where
  cover-length : {d : ℕ} {x : Option Expression} {a b : ℕ} → IsLength tokens aliases fits d x a b → Cover tokens a b (spans_in_optional x)
  cover-length no_length = no_span (omega arith)
  cover-length (of_length o f x c) = cover-within (cover-expression x) (omega arith) (omega arith)

  mutual
    cover-initialiser : {d : ℕ} {x : Initialiser} {a b : ℕ} → IsInitialiser tokens aliases fits d x a b → Cover tokens a b (spans_in_initialiser x)
    cover-initialiser (of_value x) = cover-expression x
    cover-initialiser (of_no_values {a = a} o f c) = over a (a + 1 + 1) (omega arith) (omega arith) (omega arith) (no_span (omega arith))
    cover-initialiser (of_values {a = a} {b = b} o f xs c) =
        let r = cover-initialisers xs in
        let le = cover-ends r in
        over a (b + 1) (omega arith) (omega arith) (omega arith) (cover-within r (omega arith) (omega arith))

    cover-initialisers : {d : ℕ} {xs : Initialisers} {a b : ℕ} → IsInitialisers tokens aliases fits d xs a b → Cover tokens a b (spans_in_initialisers xs)
    cover-initialisers (of_last_value x) = cover-last (cover-initialiser x)
    cover-initialisers (of_value_and_comma x c) = cover-last (cover-within (cover-initialiser x) (omega arith) (omega arith))
    cover-initialisers (of_further_value x c xs) = cover-then (cover-initialiser x) (omega arith) (cover-initialisers xs)

  cover-init : {r : Role} {d : ℕ} {x : Option Initialiser} {a b : ℕ} → IsInit tokens aliases fits r d x a b → Cover tokens a b (spans_in_init x)
  cover-init no_init = no_span (omega arith)
  cover-init (of_init s x) = cover-within (cover-initialiser x) (omega arith) (omega arith)

  -- a declaration, from its specifier at e on
  cover-rest : {r : Role} {d : ℕ} {t : Specified} {c : Declarator} {x : Declaration} {e a m b : ℕ} → Cover tokens e a (span_in_base t.base)
      → IsDeclarator tokens aliases c a m → IsRest tokens aliases fits r d t c x m b → Cover tokens e b (spans_in_declaration x)
  cover-rest {a = a} {b = b} base (of_declarator {m = n} star s) (of_rest l xs i) =
      let r = cover-then (cover-length l) (omega arith) (cover-then (cover-attributes xs) (omega arith) (cover-init i)) in
      let le = cover-ends r in
      let le' = ahead-star star in
      cover-then {n = a} base (omega arith)
      (over a b (omega arith) (omega arith) (omega arith) (name_at n (omega arith) (omega arith) (cover-within r (omega arith) (omega arith))))

  declarators-end : {r : Role} {d : ℕ} {t : Specified} {xs : List Declaration} {a b : ℕ} → IsDeclarators tokens aliases fits r d t xs a b → a ≤ b
  declarators-end {t = t} {a = a} xs = rises-ends (rises-declarators xs (name_of_base t.base) a (rises-shared (name_of_base t.base)))

  -- some declarations, from their specifier at e on
  cover-declarators : {r : Role} {d : ℕ} {t : Specified} {xs : List Declaration} {a b : ℕ} → IsDeclarators tokens aliases fits r d t xs a b
      → (e : ℕ) → Cover tokens e a (span_in_base t.base) → Cover tokens e b (spans_in_declarations xs)
  cover-declarators (of_last_declarator c x) e base = cover-last (cover-rest base c x)
  cover-declarators (of_further_declarator c x s xs) e base =
      let le = rises-ends (rises-rest c x) in
      let le' = declarators-end xs in
      cover-both (cover-within (cover-rest base c x) (omega arith) (omega arith))
      (cover-declarators xs e (cover-within base (omega arith) (omega arith)))

  pub cover-declared : {r : Role} {d : ℕ} {t : Specified} {xs : List Declaration} {a m b : ℕ} → IsSpecifier tokens aliases t a m
      → IsDeclarators tokens aliases fits r d t xs m b → Cover tokens a b (spans_in_declarations xs)
  cover-declared {a = a} s xs = cover-declarators xs a (cover-specifier s)

  pub cover-members : {d : ℕ} {xs : List Declaration} {a b : ℕ} → IsMembers tokens aliases fits d xs a b → Cover tokens a b (spans_in_declarations xs)
  cover-members no_member = no_span (omega arith)
  cover-members (of_members {xs = xs} {ys = ys} {a = a} {b = b} s cs e rest) =
      subst (Cover tokens a b) (sym (spans-declarations xs ys)) (cover-then (cover-declared s cs) (omega arith) (cover-members rest))

  cover-variable : {d : ℕ} {t : Specified} {x : Declaration} {e a b : ℕ} → Cover tokens e a (span_in_base t.base) → IsVariable tokens aliases fits d t x a b
      → Cover tokens e b (spans_in_declaration x)
  cover-variable {a = a} {b = b} base (of_unset (of_declarator {m = n} star s) l) =
      let r = cover-length l in
      let le = cover-ends r in
      let le' = ahead-star star in
      cover-then {n = a} base (omega arith)
      (over a b (omega arith) (omega arith) (omega arith) (name_at n (omega arith) (omega arith) (cover-within (cover-last r) (omega arith) (omega arith))))
  cover-variable {a = a} {b = b} base (of_set (of_declarator {m = n} star s) l q x) =
      let r = cover-then (cover-length l) (omega arith) (cover-expression x) in
      let le = cover-ends r in
      let le' = ahead-star star in
      cover-then {n = a} base (omega arith)
      (over a b (omega arith) (omega arith) (omega arith) (name_at n (omega arith) (omega arith) (cover-within r (omega arith) (omega arith))))

  variables-end : {d : ℕ} {t : Specified} {xs : List Declaration} {a b : ℕ} → IsVariables tokens aliases fits d t xs a b → a ≤ b
  variables-end {t = t} {a = a} xs = rises-ends (rises-variables xs (name_of_base t.base) a (rises-shared (name_of_base t.base)))

  cover-variables : {d : ℕ} {t : Specified} {xs : List Declaration} {a b : ℕ} → IsVariables tokens aliases fits d t xs a b
      → (e : ℕ) → Cover tokens e a (span_in_base t.base) → Cover tokens e b (spans_in_declarations xs)
  cover-variables (of_last_variable x) e base = cover-last (cover-variable base x)
  cover-variables (of_further_variable x s xs) e base =
      let le = rises-ends (rises-variable x) in
      let le' = variables-end xs in
      cover-both (cover-within (cover-variable base x) (omega arith) (omega arith))
      (cover-variables xs e (cover-within base (omega arith) (omega arith)))

  pub cover-local : {d : ℕ} {t : Specified} {x : Declaration} {a m b : ℕ} → IsSpecifier tokens aliases t a m → IsVariable tokens aliases fits d t x m b
      → Cover tokens a b (spans_in_declaration x)
  cover-local s x = cover-variable (cover-specifier s) x

  pub cover-locals : {single : Bool} {d : ℕ} {xs : List Declaration} {a b : ℕ} → IsLocals tokens aliases fits single d xs a b
      → Cover tokens a b (spans_in_declarations xs)
  cover-locals (of_locals {a = a} s xs) = cover-variables xs a (cover-specifier s)
  cover-locals (of_one_local s x) = cover-last (cover-local s x)
