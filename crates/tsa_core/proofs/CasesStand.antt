-- The cases of each switch in a text stand at places of their own.
use Rattle.std.proofs.Common.{ℕ, ◌+◌, ◌<◌, ◌≤◌, ◌≡◌, ap₂, sym, refl, subst, List, [], ◌∷◌, ◌++◌, length, map, Bool, true, false, ◌||◌}
use Rattle.std.proofs.Common.{nat_eq, Option, Some, None, slice_get, arith}
use Rattle.std.proofs.lemmas.Bool.{ne_eqb}
use Rattle.std.proofs.lemmas.Option.{slice_get_within}
use Rattle.std.specs.List.{list_any}
use Rattle.std.specs.Str.{bytes_eq}
use Rattle.tsa_base.specs.Tokens.{Lexeme}
use Rattle.tsa_tree.specs.declarations.ItemSpelling.{IsItem, of_structure, of_tag_alone, of_structure_alias, of_enumeration}
use Rattle.tsa_tree.specs.declarations.ItemSpelling.{of_enumeration_alias, of_alias_item, of_globals, of_function, of_body_item}
use Rattle.tsa_tree.specs.declarations.Syntax.{Declaration}
use Rattle.tsa_tree.specs.expressions.Syntax.{Expression}
use Rattle.tsa_tree.specs.statements.Spelling.{IsSimple, of_evaluation, of_assignment, of_step_behind, of_step_before, IsOptional}
use Rattle.tsa_tree.specs.statements.Spelling.{no_expression, an_expression, IsTest, of_test, IsForInit, of_no_init, of_simple_init}
use Rattle.tsa_tree.specs.statements.Spelling.{of_local_init, IsForStep, of_no_step, of_step, IsStatement, of_block, of_empty, of_simple}
use Rattle.tsa_tree.specs.statements.Spelling.{of_if, of_if_else, of_while, of_do, of_for, of_switch, of_case, of_default, of_label}
use Rattle.tsa_tree.specs.statements.Spelling.{of_break, of_continue, of_goto, of_return, IsBody, of_body, IsStatements, no_statement}
use Rattle.tsa_tree.specs.statements.Spelling.{of_locals_first, of_statement_first}
use Rattle.tsa_tree.specs.statements.Syntax.{Simple, ForInit, Statement, Statements, locals_before}
use Rattle.tsa_tree.specs.declared.sign.Sign.TheVariants as sign
use Rattle.tsa_tree.specs.tokens.Signs.{Aliases, sign_in, sign_at, span_at, span_over}
use Rattle.tsa_tree.specs.types.Heads.{inside}
use Rattle.tsa_tree.specs.types.Scopes.{Scope}
use Rattle.tsa_tree.specs.types.Units.{outset, behind_item}
use Rattle.tsa_tree.specs.units.Shapes.{item_shapes}
use Rattle.tsa_tree.specs.units.Spelling.{IsItems, no_items, of_items}
use Rattle.tsa_tree.specs.units.Syntax.{UnitItem, structure_item, alias_item, enumeration_item, global_item, function_item, body_item}
use Rattle.tsa_tree.proofs.declarations.NodesClimb.{climbs-local, climbs-locals}
use Rattle.tsa_tree.proofs.expressions.TokenCounts.{ahead-expression, ahead-unary}
use Rattle.tsa_tree.proofs.tokens.Climbing.{climbs-ends}
use Rattle.tsa_tree.proofs.tokens.Places.{AreInOrder, in_order}
use Rattle.tsa_tree.proofs.units.MoreWords.{well_read_spellable}
use Rattle.tsa_core.proofs.CasesDiffer.{cases_differ}
use Rattle.tsa_core.proofs.MappedLists.{map_append}
use Rattle.tsa_core.proofs.TypedTerms.{some_same}
use Rattle.tsa_core.specs.CaseLaws.{Case, cases_in, cases_in_all, Differ, CasesStandApart, AllStandApart, ReadCasesStandApart}
use Rattle.tsa_core.specs.CaseLaws.{ReadCasesDiffer}
use Rattle.tsa_core.specs.Programs.{Bodied, bodied_by, bodied_function}
use Rattle.tsa_core.specs.Programs as program

-- the places are those of tokens from a on up to before b, each after the one before it
data Steps (tokens : List Lexeme) : (a b : ℕ) → List ℕ → Type 0 where
  no_place : {a b : ℕ} → a ≤ b → Steps tokens a b []
  place_at : {a b : ℕ} {xs : List ℕ} (i : ℕ) → a ≤ i → i < b → Steps tokens (i + 1) b xs → Steps tokens a b ((span_at tokens i).from ∷ xs)

module _ {tokens : List Lexeme} where
  steps-ends : {a b : ℕ} {xs : List ℕ} → Steps tokens a b xs → a ≤ b
  steps-ends (no_place le) = le
  steps-ends (place_at i lo hi r) = omega arith

  steps-within : {m n : ℕ} {xs : List ℕ} → Steps tokens m n xs → {a b : ℕ} → a ≤ m → n ≤ b → Steps tokens a b xs
  steps-within (no_place le) le' le'' = no_place (omega arith)
  steps-within (place_at i lo hi r) le le' = place_at i (omega arith) (omega arith) (steps-within r (omega arith) le')

  steps-then : {a m : ℕ} {xs : List ℕ} → Steps tokens a m xs → {n b : ℕ} {ys : List ℕ} → m ≤ n → Steps tokens n b ys → Steps tokens a b (xs ++ ys)
  steps-then (no_place le) le' s = steps-within s (omega arith) (omega arith)
  steps-then (place_at i lo hi r) le s = let end = steps-ends s in place_at i lo (omega arith) (steps-then r le s)

  -- a part that begins with the token at i
  steps-over : {a m n b : ℕ} {xs : List ℕ} (i e : ℕ) → Steps tokens m n xs → a ≤ i → i < m → n ≤ b → Steps tokens a b ((span_over tokens i e).from ∷ xs)
  unfolding span_over
  steps-over i e r lo lt le = let end = steps-ends r in place_at i lo (omega arith) (steps-within r (omega arith) le)

module _ {text : List ℕ} {tokens : List Lexeme} (order : AreInOrder text tokens) where
  later : (i j : ℕ) → i < j → j < length tokens → (span_at tokens i).from < (span_at tokens j).from
  later i j lt lt' = omega (arith, order.some i (omega arith), order.rise i j lt lt')

  not_among : {a b : ℕ} {xs : List ℕ} (i : ℕ) → i < a → b ≤ length tokens → Steps tokens a b xs → list_any (nat_eq (span_at tokens i).from) xs ≡ false
  not_among i lt le (no_place le') = refl
  not_among i lt le (place_at j lo hi r) =
      let before = later i j (omega arith) (omega arith) in
      ap₂ (λ a b. a || b) (ne_eqb (span_at tokens i).from (span_at tokens j).from (λ e. omega (arith, before, e))) (not_among i (omega arith) le r)

  steps-differ : {a b : ℕ} {xs : List ℕ} → b ≤ length tokens → Steps tokens a b xs → Differ xs
  steps-differ le (no_place le') = tt
  steps-differ le (place_at i lo hi r) = (not_among i (omega arith) le r, steps-differ le r)

abbrev placed : List Case → List ℕ
placed xs = map (λ x. x.1.from) xs

both-steps : {tokens : List Lexeme} {a m n b : ℕ} (xs ys : List Case) → Steps tokens a m (placed xs) → m ≤ n → Steps tokens n b (placed ys) → Steps tokens a b (placed (xs ++ ys))
both-steps {tokens = tokens} {a = a} {b = b} xs ys r le s = subst (Steps tokens a b) (sym (map_append (λ x. x.1.from) xs ys)) (steps-then r le s)

cases_behind_locals : (xs : List Declaration) (ys : Statements) → cases_in_all (locals_before xs ys) ≡ cases_in_all ys
cases_behind_locals [] ys = refl
cases_behind_locals (x ∷ xs) ys = cases_behind_locals xs ys

apart_behind_locals : (xs : List Declaration) (ys : Statements) → AllStandApart ys → AllStandApart (locals_before xs ys)
apart_behind_locals [] ys h = h
apart_behind_locals (x ∷ xs) ys h = (tt, apart_behind_locals xs ys h)

module _ {tokens : List Lexeme} {aliases : Aliases} {fits : ℕ → Bool} where
  simple-ends : {d : ℕ} {x : Simple} {a b : ℕ} → IsSimple tokens aliases fits d x a b → a ≤ b
  simple-ends (of_evaluation x) = let lt = ahead-expression x in omega arith
  simple-ends (of_assignment l s r) = let lt = ahead-unary l in let lt' = ahead-expression r in omega arith
  simple-ends (of_step_behind l s) = let lt = ahead-unary l in omega arith
  simple-ends (of_step_before s l) = let lt = ahead-unary l in omega arith

  optional-ends : {d : ℕ} {x : Option Expression} {a b : ℕ} → IsOptional tokens aliases fits d x a b → a ≤ b
  optional-ends no_expression = omega arith
  optional-ends (an_expression x) = let lt = ahead-expression x in omega arith

  test-ends : {d : ℕ} {x : Expression} {a b : ℕ} → IsTest tokens aliases fits d x a b → a ≤ b
  test-ends (of_test o f x c) = let lt = ahead-expression x in omega arith

  init-ends : {d : ℕ} {x : ForInit} {a b : ℕ} → IsForInit tokens aliases fits d x a b → a ≤ b
  init-ends of_no_init = omega arith
  init-ends (of_simple_init x) = simple-ends x
  init-ends (of_local_init t x) = climbs-ends (climbs-local t x)

  step-ends : {d : ℕ} {x : Option Simple} {a b : ℕ} → IsForStep tokens aliases fits d x a b → a ≤ b
  step-ends of_no_step = omega arith
  step-ends (of_step x) = simple-ends x

  mutual
    steps-statement : {d : ℕ} {x : Statement} {a b : ℕ} → IsStatement tokens aliases fits d x a b → Steps tokens a b (placed (cases_in x))
    steps-statement (of_block o f xs c) = steps-within (steps-statements xs) (omega arith) (omega arith)
    steps-statement (of_empty s) = no_place (omega arith)
    steps-statement (of_simple x s) = let le = simple-ends x in no_place (omega arith)
    steps-statement (of_if s t x) = let le = test-ends t in steps-within (steps-body x) (omega arith) (omega arith)
    steps-statement (of_if_else {arm = arm} {other = other} s t x e l y) =
        let le = test-ends t in
        steps-within (both-steps (cases_in arm) (cases_in other) (steps-body x) (omega arith) (steps-body y)) (omega arith) (omega arith)
    steps-statement (of_while s t x) = let le = test-ends t in steps-within (steps-body x) (omega arith) (omega arith)
    steps-statement (of_do s x w t e) = let le = test-ends t in steps-within (steps-body x) (omega arith) (omega arith)
    steps-statement (of_for s o f i q x q' n c y) =
        let one = init-ends i in
        let two = optional-ends x in
        let three = step-ends n in
        steps-within (steps-body y) (omega arith) (omega arith)
    steps-statement (of_switch s t x) = let le = test-ends t in let le' = steps-ends (steps-body x) in no_place (omega arith)
    steps-statement (of_case {a = a} {b = b} s v c x) = let lt = ahead-expression v in steps-over a b (steps-body x) (omega arith) (omega arith) (omega arith)
    steps-statement (of_default s c x) = steps-within (steps-body x) (omega arith) (omega arith)
    steps-statement (of_label s c x) = steps-within (steps-body x) (omega arith) (omega arith)
    steps-statement (of_break s e) = no_place (omega arith)
    steps-statement (of_continue s e) = no_place (omega arith)
    steps-statement (of_goto s n e) = no_place (omega arith)
    steps-statement (of_return s x e) = let le = optional-ends x in no_place (omega arith)

    steps-body : {d : ℕ} {x : Statement} {a b : ℕ} → IsBody tokens aliases fits d x a b → Steps tokens a b (placed (cases_in x))
    steps-body (of_body f x) = steps-statement x

    steps-statements : {d : ℕ} {xs : Statements} {a b : ℕ} → IsStatements tokens aliases fits d xs a b → Steps tokens a b (placed (cases_in_all xs))
    steps-statements no_statement = no_place (omega arith)
    steps-statements (of_locals_first {xs = xs} {ys = ys} {a = a} {b = b} ls s rest) =
        let le = climbs-ends (climbs-locals ls) in
        subst (λ cs. Steps tokens a b (placed cs)) (sym (cases_behind_locals xs ys)) (steps-within (steps-statements rest) (omega arith) (omega arith))
    steps-statements (of_statement_first {x = x} {ys = ys} first rest) =
        both-steps (cases_in x) (cases_in_all ys) (steps-statement first) (omega arith) (steps-statements rest)

module _ {text : List ℕ} {tokens : List Lexeme} (order : AreInOrder text tokens) {aliases : Aliases} {fits : ℕ → Bool} where
  mutual
    apart-statement : {d : ℕ} {x : Statement} {a b : ℕ} → b ≤ length tokens → IsStatement tokens aliases fits d x a b → CasesStandApart x
    apart-statement there (of_block o f xs c) = apart-statements (omega arith) xs
    apart-statement there (of_empty s) = tt
    apart-statement there (of_simple x s) = tt
    apart-statement there (of_if s t x) = apart-body there x
    apart-statement there (of_if_else s t x e l y) = let le = steps-ends (steps-body y) in (apart-body (omega arith) x, apart-body there y)
    apart-statement there (of_while s t x) = apart-body there x
    apart-statement there (of_do s x w t e) = let le = test-ends t in apart-body (omega arith) x
    apart-statement there (of_for s o f i q x q' n c y) = apart-body there y
    apart-statement there (of_switch s t x) = (steps-differ order there (steps-body x), apart-body there x)
    apart-statement there (of_case s v c x) = apart-body there x
    apart-statement there (of_default s c x) = apart-body there x
    apart-statement there (of_label s c x) = apart-body there x
    apart-statement there (of_break s e) = tt
    apart-statement there (of_continue s e) = tt
    apart-statement there (of_goto s n e) = tt
    apart-statement there (of_return s x e) = tt

    apart-body : {d : ℕ} {x : Statement} {a b : ℕ} → b ≤ length tokens → IsBody tokens aliases fits d x a b → CasesStandApart x
    apart-body there (of_body f x) = apart-statement there x

    apart-statements : {d : ℕ} {xs : Statements} {a b : ℕ} → b ≤ length tokens → IsStatements tokens aliases fits d xs a b → AllStandApart xs
    apart-statements there no_statement = tt
    apart-statements there (of_locals_first {xs = xs} {ys = ys} ls s rest) = apart_behind_locals xs ys (apart-statements there rest)
    apart-statements there (of_statement_first first rest) =
        let le = steps-ends (steps-statements rest) in (apart-statement (omega arith) first, apart-statements there rest)

-- the bodies of a unit
abbrev ApartIn : UnitItem → Type 0
ApartIn (body_item head body close) = AllStandApart body
ApartIn (structure_item tag alias attrs members span) = Unit {0}
ApartIn (alias_item name ctype span) = Unit {0}
ApartIn (enumeration_item tag alias values span) = Unit {0}
ApartIn (global_item d) = Unit {0}
ApartIn (function_item head) = Unit {0}

abbrev AllApartIn : List UnitItem → Type 0
AllApartIn [] = Unit {0}
AllApartIn (x ∷ xs) = ApartIn x × AllApartIn xs

all_both : (xs ys : List UnitItem) → AllApartIn xs → AllApartIn ys → AllApartIn (xs ++ ys)
all_both [] ys h g = g
all_both (x ∷ xs) ys h g = (h.0, all_both xs ys h.1 g)

globals_apart : (xs : List Declaration) → AllApartIn (map global_item xs)
globals_apart [] = tt
globals_apart (x ∷ xs) = (tt, globals_apart xs)

-- a brace is one of the tokens
brace_there : (tokens : List Lexeme) (aliases : Aliases) (i : ℕ) → sign_at tokens aliases i ≡ sign.CloseBrace → i < length tokens
unfolding sign_at
brace_there tokens aliases i e = by (slice_get tokens i) refl e
  where
    by : (o : Option Lexeme) → slice_get tokens i ≡ o → sign_in aliases o ≡ sign.CloseBrace → i < length tokens
    by None is e = absurd cc
    by (Some t) is e = slice_get_within tokens i t is

module _ {text : List ℕ} {tokens : List Lexeme} (order : AreInOrder text tokens) where
  apart-item : {aliases : Aliases} {fits : ℕ → Bool} {w : Bool} {xs : List UnitItem} {a b : ℕ} → IsItem tokens aliases fits w xs a b → AllApartIn xs
  apart-item (of_structure s xs t body e) = (tt, tt)
  apart-item (of_tag_alone s t e) = tt
  apart-item (of_structure_alias s s' xs t body q q') = (tt, tt)
  apart-item (of_enumeration s t body e) = (tt, tt)
  apart-item (of_enumeration_alias s s' t body e e') = (tt, tt)
  apart-item (of_alias_item s t c e) = (tt, tt)
  apart-item (of_globals {xs = xs} w t cs e) = globals_apart xs
  apart-item (of_function h e) = (tt, tt)
  apart-item {aliases = aliases} (of_body_item {b = b} w h o f xs c) = let lt = brace_there tokens aliases b c in (apart-statements order (omega arith) xs, tt)

  apart-items : {fits : ℕ → Bool} {aliases : Aliases} {xs : List UnitItem} {a b : ℕ} → IsItems tokens fits aliases xs a b → AllApartIn xs
  apart-items no_items = tt
  apart-items (of_items {xs = xs} {ys = ys} x rest) = all_both xs ys (apart-item x) (apart-items rest)

module _ (name : List ℕ) (b : Bodied) where
  or_apart : (hit : Bool) (x : Bodied) (other : Option Bodied) → AllStandApart x.body → (other ≡ Some b → AllStandApart b.body) → program.or_body hit x other ≡ Some b → AllStandApart b.body
  or_apart true x other h later is = subst (λ (y : Bodied). AllStandApart y.body) (some_same is) h
  or_apart false x other h later is = later is

  apart_by : (here : Scope) (item : UnitItem) (other : Option Bodied) → ApartIn item → (other ≡ Some b → AllStandApart b.body) → bodied_by name here item other ≡ Some b → AllStandApart b.body
  apart_by here (body_item head body close) other h later is =
      or_apart (bytes_eq name head.name.text) (record { here = inside here head true; head = head; body = body }) other h later is
  apart_by here (structure_item tag alias attrs members span) other h later is = later is
  apart_by here (alias_item text ctype span) other h later is = later is
  apart_by here (enumeration_item tag alias values span) other h later is = later is
  apart_by here (global_item d) other h later is = later is
  apart_by here (function_item head) other h later is = later is

  body_apart : (here : Scope) (items : List UnitItem) → AllApartIn items → bodied_function name here items ≡ Some b → AllStandApart b.body
  unfolding bodied_function
  body_apart here [] h is = absurd cc
  body_apart here (item ∷ rest) h is =
      apart_by here item (bodied_function name (behind_item here item) rest) h.0 (body_apart (behind_item here item) rest h.1) is

pub read_cases_apart : ReadCasesStandApart
read_cases_apart items name b read is =
    let order = in_order read.of_text.text read.tokens read.of_text.lexed in
    body_apart name b (outset (item_shapes items)) (item_shapes items) (apart-items order read.spelled) is

pub read_cases_differ : ReadCasesDiffer
read_cases_differ items name b read typed is = cases_differ (item_shapes items) name b (well_read_spellable items read) typed is (read_cases_apart items name b read is)
