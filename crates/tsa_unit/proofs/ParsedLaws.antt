-- What was read by the rows is what the grammar asks for, and the limits of a unit are told after refusals of tokens.
use Rattle.std.proofs.Common.{ℕ, ◌≡◌, ◌≢◌, ◌∙◌, ap, subst, refl, List, [], Option, Some, None, Result, Ok, Err, IfOk, length}
use Rattle.std.proofs.lemmas.List.{length-map}
use Rattle.tsa_base.specs.declared.token.Span.{Span}
use Rattle.tsa_base.specs.declared.token.Token.{Token}
use Rattle.tsa_base.specs.Tokens.{Lexeme, lexeme}
use Rattle.tsa_grammar.proofs.Cases.{on_choose}
use Rattle.tsa_grammar.specs.Exact as exact
use Rattle.tsa_grammar.specs.Reading.{Outcome, all}
use Rattle.tsa_tree.specs.expressions.Answers.{below_limit}
use Rattle.tsa_tree.specs.attributes.Refusals as reason
use Rattle.tsa_tree.specs.declared.item.Item.{Item}
use Rattle.tsa_tree.specs.declared.parsed.Parsed.{Parsed}
use Rattle.tsa_tree.specs.expressions.Syntax.{Identifier}
use Rattle.tsa_tree.specs.Reads.{read}
use Rattle.tsa_tree.specs.Rows.{some_items, items, is_past, sees, rule}
use Rattle.tsa_tree.specs.tokens.Signs.{lexemes}
use Rattle.tsa_tree.specs.tokens.Texts.{AreOfText}
use Rattle.tsa_tree.specs.units.Answers.{Spells, IsAnswer, IsNoUnit, read_unit}
use Rattle.tsa_tree.specs.units.Syntax.{UnitItem}
use Rattle.tsa_tree.specs.units.Limits.{past_functions, past_points}
use Rattle.tsa_tree.specs.units.Shapes.{item_shapes, HaveTheirPoints}
use Rattle.tsa_tree.specs.units.Spelling.{IsItems, no_items}
use Rattle.tsa_tree.specs.units.WellRead.{IsWellRead}
use Rattle.tsa_tree.proofs.RowsRead.{read_exact}
use Rattle.tsa_tree.proofs.declarations.RowsToProductions.{declaration_of}
use Rattle.tsa_tree.proofs.units.Laws.{an_answer, free_spelled, refused_is_no_unit}
use Rattle.tsa_expr.specs.declared.refusal.SyntaxCode.{SyntaxCode}
use Rattle.tsa_expr.specs.declared.refusal.SyntaxCode.TheVariants.{SY1, AT1, AT2, LM2, LM3, LM5}
use Rattle.tsa_expr.specs.declared.refusal.SyntaxRefusal.{SyntaxRefusal}
use Rattle.tsa_expr.specs.declared.refusal.SyntaxRefusal.TheVariants.{At, Function, NoMemory}
use Rattle.tsa_unit.specs.Parsing.{IsLongest, IsBroken, IsRefused, IsTooDeep, HasTooManyFunctions, HasTooManyPoints, IsOfUnits, IsParsed}
use Rattle.tsa_unit.specs.Parsing.{IsTold, within_points, within_limits, parsed_of, unit_of}

module _ (ts : List Lexeme) where
  -- a unit that was read is spelled, by all its tokens
  abbrev pub Unlimited : Outcome (List UnitItem) → Type 0
  Unlimited (Ok found) = IsItems ts all [] found.0 0 found.1
  Unlimited (Err e) = Unit {0}

  unlimited_rows : (r : Outcome (List UnitItem)) → exact.Exact (rule ts) (sees ts) below_limit some_items (items []) 0 r → Unlimited r
  unlimited_rows (Ok found) x = (declaration_of ts all (free_spelled ts below_limit x.spelled)).0
  unlimited_rows (Err e) x = tt

  pub unlimited : Unlimited (read_unit ts)
  unfolding read_unit
  unlimited =
      on_choose Unlimited (is_past ts 0) _ _ (λ e. no_items)
      (λ e. unlimited_rows (read ts some_items (items []) 0) (read_exact ts some_items (items []) 0))

  spelled_whole : (xs : List UnitItem) → read_unit ts ≡ Ok (xs, length ts) → Spells ts all xs
  spelled_whole xs h = subst Unlimited h unlimited

pub well_read : (tokens : List Token) (list : List Item) → AreOfText (lexemes tokens) → HaveTheirPoints list
    → read_unit (lexemes tokens) ≡ Ok (item_shapes list, length (lexemes tokens)) → IsWellRead list
well_read tokens list of points h = record {
  tokens = lexemes tokens;
  of_text = of;
  spelled = spelled_whole (lexemes tokens) (item_shapes list) h;
  points = points;
}

module _ {X : Type 0} (view : X → List UnitItem) (ts : List Lexeme) where
  abbrev Told : Result X SyntaxRefusal → Type 0
  Told r = IsTold view r ts

  answer_of : (r : Outcome (List UnitItem)) → read_unit ts ≡ r → IsAnswer ts r
  answer_of r h = subst (IsAnswer ts) h (an_answer ts)

  pub found : (r : Result X SyntaxRefusal) → Told r → IfOk r (λ x. IsLongest ts (view x) (length ts))
  found (Ok x) g = answer_of (Ok (view x, length ts)) g.0
  found (Err e) g = tt

  pub few : (r : Result X SyntaxRefusal) → Told r → IfOk r (λ x. (past_functions (view x) ≡ None) × (past_points (view x) ≡ None))
  few (Ok x) g = (g.1, g.2)
  few (Err e) g = tt

  pub broken : (r : Result X SyntaxRefusal) → Told r → (token : ℕ) → r ≡ Err (At SY1 token) → IsBroken ts token
  broken r g token e = answer_of _ (subst Told e g)

  pub refused_out : (r : Result X SyntaxRefusal) → Told r → (token : ℕ) → r ≡ Err (At AT1 token) → IsRefused ts reason.left_out token
  refused_out r g token e = answer_of _ (subst Told e g)

  pub refused_lacking : (r : Result X SyntaxRefusal) → Told r → (token : ℕ) → r ≡ Err (At AT2 token) → IsRefused ts reason.lacking token
  refused_lacking r g token e = answer_of _ (subst Told e g)

  pub too_deep : (r : Result X SyntaxRefusal) → Told r → (token : ℕ) → r ≡ Err (At LM2 token) → IsTooDeep ts token
  too_deep r g token e = answer_of _ (subst Told e g)

  -- where a token is refused, and not since a limit is passed, the tokens spell no unit
  pub no_unit : (r : Result X SyntaxRefusal) → Told r → (code : SyntaxCode) (token : ℕ) → r ≡ Err (At code token) → code ≢ LM2 → IsNoUnit ts
  no_unit r g SY1 token e n = (refused_is_no_unit ts token).0 (answer_of _ (subst Told e g))
  no_unit r g AT1 token e n = (refused_is_no_unit ts token).1 reason.left_out (answer_of _ (subst Told e g))
  no_unit r g AT2 token e n = (refused_is_no_unit ts token).1 reason.lacking (answer_of _ (subst Told e g))
  no_unit r g LM2 token e n = absurd (n refl)
  no_unit r g LM3 token e n = let told : Told (Err (At LM3 token)) = subst Told e g in absurd told
  no_unit r g LM5 token e n = let told : Told (Err (At LM5 token)) = subst Told e g in absurd told

  many_functions : (xs : List UnitItem) (span : Span) → IsLongest ts xs (length ts) → (past : Option Identifier) → past_functions xs ≡ past
      → within_limits xs past ≡ Err (Function LM5 span) → HasTooManyFunctions ts span
  many_functions xs span l (Some name) p h = record { items = xs; spelled = l; name = name; past = p; stands = cc }
  many_functions xs span l None p h = absurd (never (past_points xs) h)
    where
      never : (past : Option Identifier) → within_points xs past ≡ Err (Function LM5 span) → ⊥
      never None e = cc
      never (Some name) e = cc

  pub too_many : (r : Result X SyntaxRefusal) → Told r → (span : Span) → r ≡ Err (Function LM5 span) → HasTooManyFunctions ts span
  too_many r g span e =
      let told : Told (Err (Function LM5 span)) = subst Told e g in
      many_functions told.0 span (answer_of _ told.1) (past_functions told.0) refl told.2

  many_points : (xs : List UnitItem) (span : Span) → IsLongest ts xs (length ts) → (past : Option Identifier) → past_functions xs ≡ past
      → within_limits xs past ≡ Err (Function LM3 span) → HasTooManyPoints ts span
  many_points xs span l (Some name) p h = cc
  many_points xs span l None p h = go (past_points xs) refl h
    where
      go : (past : Option Identifier) → past_points xs ≡ past → within_points xs past ≡ Err (Function LM3 span) → HasTooManyPoints ts span
      go None q e = cc
      go (Some name) q e = record { items = xs; spelled = l; few = p; name = name; past = q; stands = cc }

  pub too_long : (r : Result X SyntaxRefusal) → Told r → (span : Span) → r ≡ Err (Function LM3 span) → HasTooManyPoints ts span
  too_long r g span e =
      let told : Told (Err (Function LM3 span)) = subst Told e g in
      many_points told.0 span (answer_of _ told.1) (past_functions told.0) refl told.2

  of_points : (xs : List UnitItem) (past : Option Identifier) (code : SyntaxCode) (span : Span)
      → within_points xs past ≡ Err (Function code span) → IsOfUnits (Function code span)
  of_points xs None code span h = cc
  of_points xs (Some name) LM3 span h = tt
  of_points xs (Some name) code span h = absurd cc

  of_limits : (xs : List UnitItem) (past : Option Identifier) (code : SyntaxCode) (span : Span)
      → within_limits xs past ≡ Err (Function code span) → IsOfUnits (Function code span)
  of_limits xs None code span h = of_points xs (past_points xs) code span h
  of_limits xs (Some name) LM5 span h = tt
  of_limits xs (Some name) code span h = absurd cc

  told_by : (e : SyntaxRefusal) → Told (Err e) → IsOfUnits e
  told_by (At SY1 token) g = tt
  told_by (At AT1 token) g = tt
  told_by (At AT2 token) g = tt
  told_by (At LM2 token) g = tt
  told_by (At LM3 token) g = g
  told_by (At LM5 token) g = g
  told_by (Function code span) g = of_limits g.0 (past_functions g.0) code span g.2
  told_by NoMemory g = tt

  pub no_other : (r : Result X SyntaxRefusal) → Told r → (e : SyntaxRefusal) → r ≡ Err e → IsOfUnits e
  no_other r g e q = told_by e (subst Told q g)

abbrev seen : Parsed → List UnitItem
seen parsed = item_shapes parsed.unit.now.items.now

unpassed : (xs : List UnitItem) → past_functions xs ≡ None → past_points xs ≡ None → within_limits xs (past_functions xs) ≡ Ok xs
unpassed xs f p = ap (within_limits xs) f ∙ ap (within_points xs) p

pub parsed_is : (ts : List Lexeme) (r : Result Parsed SyntaxRefusal) → IsTold seen r ts → IsParsed r ts
unfolding unit_of
parsed_is ts (Ok parsed) g = ap parsed_of g.0 ∙ unpassed (seen parsed) g.1 g.2
parsed_is ts (Err (At SY1 token)) g = ap parsed_of g
parsed_is ts (Err (At AT1 token)) g = ap parsed_of g
parsed_is ts (Err (At AT2 token)) g = ap parsed_of g
parsed_is ts (Err (At LM2 token)) g = ap parsed_of g
parsed_is ts (Err (At LM3 token)) g = absurd g
parsed_is ts (Err (At LM5 token)) g = absurd g
parsed_is ts (Err (Function code span)) g = ap parsed_of g.1 ∙ g.2
parsed_is ts (Err NoMemory) g = tt

pub all_well_read : (tokens : List Token) (r : Result Parsed SyntaxRefusal) → AreOfText (lexemes tokens) → IsTold seen r (lexemes tokens)
    → IfOk r (λ parsed. HaveTheirPoints parsed.unit.now.items.now) → IfOk r (λ parsed. IsWellRead parsed.unit.now.items.now)
all_well_read tokens (Ok parsed) of g points = well_read tokens parsed.unit.now.items.now of points g.0
all_well_read tokens (Err e) of g points = tt

pub all_found : (tokens : List Token) (r : Result Parsed SyntaxRefusal) → IsTold seen r (lexemes tokens)
    → IfOk r (λ parsed. IsLongest (lexemes tokens) (seen parsed) (length tokens))
all_found tokens (Ok parsed) g =
    subst (IsLongest (lexemes tokens) (seen parsed)) (length-map tokens lexeme) (found seen (lexemes tokens) (Ok parsed) g)
all_found tokens (Err e) g = tt
