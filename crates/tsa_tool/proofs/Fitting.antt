-- What a text comes to, stage by stage.
use Rattle.std.proofs.Common.{◌≡◌, List, Option, Some, None, Result, Ok, Err, ℕ, refl, subst}
use Rattle.tsa_base.specs.Tokens.{BadByte, Lexeme, tokens_of}
use Rattle.tsa_base.specs.declared.token.Span.{Span}
use Rattle.tsa_tree.specs.expressions.Syntax.{Identifier}
use Rattle.tsa_tree.specs.units.Answers.{read_unit}
use Rattle.tsa_tree.specs.units.Syntax.{UnitItem}
use Rattle.tsa_tree.specs.units.Limits.{past_functions, past_points}
use Rattle.tsa_grammar.specs.Reading.{Outcome}
use Rattle.tsa_expr.specs.declared.refusal.SyntaxRefusal.{SyntaxRefusal}
use Rattle.tsa_expr.specs.declared.refusal.SyntaxRefusal.TheVariants.{At, Function, NoMemory}
use Rattle.tsa_unit.specs.Parsing.{within_points, within_limits, parsed_of, unit_of}
use Rattle.tsa_tree.specs.declared.premise.Failure.{Failure}
use Rattle.tsa_tree.specs.types.FirstFailing.{first_failing}
use Rattle.tsa_place_model.specs.Calls.{Layout}
use Rattle.tsa_place_model.specs.Units.{placed_in}
use Rattle.tsa_profile_accesses.specs.declared.premise.Failure.{Failure as Misfit}
use Rattle.tsa_profile_context.specs.Units.{refusal_of_profile}
use Rattle.tsa_tool.specs.declared.check.Refusal.{Refusal}
use Rattle.tsa_tool.specs.declared.check.Refusal.TheVariants.{Lex, Types, Places, Profile}
use Rattle.tsa_tool.specs.Checks.{fit_in, refusal_of, sized_in, tree_in, typed_in}
use Rattle.tsa_tool.specs.Units.{IsFit, TextsAreRefusedByWhatFailsFirst}

-- a unit that is fit, or a refusal
data ComesTo (text : List ℕ) : Result (List UnitItem) Refusal → Type 0 where
  is_fit : (items : List UnitItem) → IsFit text items → ComesTo text (Ok items)
  is_refused : (refusal : Refusal) → ComesTo text (Err refusal)

module _ (text : List ℕ) (tokens : List Lexeme) (lexed : tokens_of text ≡ Ok tokens) where
  module _ (items : List UnitItem) (parsed : unit_of tokens ≡ Ok items) where
    by_profile : (l : Layout) (o : Option Misfit) → first_failing items ≡ None → placed_in items ≡ Ok l → refusal_of_profile items ≡ o → ComesTo text (fit_in text)
    unfolding fit_in sized_in typed_in tree_in
    by_profile l None typed placed profiled =
        rw (lexed, parsed, typed, placed, profiled) (is_fit items (record {
          tokens = tokens;
          layout = l;
          lexed = lexed;
          parsed = parsed;
          typed = typed;
          placed = placed;
          profiled = profiled;
        }))
    by_profile l (Some misfit) typed placed profiled = rw (lexed, parsed, typed, placed, profiled) (is_refused (Profile misfit.code misfit.span.from))

    by_places : (found : Result Layout Span) → first_failing items ≡ None → placed_in items ≡ found → ComesTo text (fit_in text)
    unfolding fit_in sized_in typed_in tree_in
    by_places (Ok l) typed placed = by_profile l (refusal_of_profile items) typed placed refl
    by_places (Err span) typed placed = rw (lexed, parsed, typed, placed) (is_refused (Places span.from))

    by_types : (o : Option Failure) → first_failing items ≡ o → ComesTo text (fit_in text)
    unfolding fit_in sized_in typed_in tree_in
    by_types None typed = by_places (placed_in items) typed refl
    by_types (Some failure) typed = rw (lexed, parsed, typed) (is_refused (Types failure.code failure.span.from))

  by_unit : (r : Result (List UnitItem) SyntaxRefusal) → unit_of tokens ≡ r → ComesTo text (fit_in text)
  unfolding fit_in sized_in typed_in tree_in
  by_unit (Err refusal) parsed = rw (lexed, parsed) (is_refused (refusal_of text tokens refusal))
  by_unit (Ok items) parsed = by_types items parsed (first_failing items) refl

by_tokens : (text : List ℕ) (r : Result (List Lexeme) BadByte) → tokens_of text ≡ r → ComesTo text (fit_in text)
unfolding fit_in sized_in typed_in tree_in
by_tokens text (Err bad) lexed = rw lexed (is_refused (Lex bad.code bad.byte))
by_tokens text (Ok tokens) lexed = by_unit text tokens lexed (unit_of tokens) refl

fit_there : (text : List ℕ) (items : List UnitItem) (r : Result (List UnitItem) Refusal) → r ≡ Ok items → ComesTo text r → IsFit text items
fit_there text items r e (is_fit others fit) = let same : others ≡ items = cc in subst (IsFit text) same fit
fit_there text items r e (is_refused refusal) = cc

pub it_fits : (text : List ℕ) (items : List UnitItem) → fit_in text ≡ Ok items → IsFit text items
it_fits text items e = fit_there text items (fit_in text) e (by_tokens text (tokens_of text) refl)

-- The other way.

pub fit : (text : List ℕ) (items : List UnitItem) → IsFit text items → fit_in text ≡ Ok items
unfolding fit_in sized_in typed_in tree_in
fit text items h = rw (h.lexed, h.parsed, h.typed, h.placed, h.profiled) refl

bad_text : (text : List ℕ) (byte : BadByte) → tokens_of text ≡ Err byte → fit_in text ≡ Err (Lex byte.code byte.byte)
unfolding fit_in sized_in typed_in tree_in
bad_text text byte is = rw is refl

bad_syntax : (text : List ℕ) (tokens : List Lexeme) (refusal : SyntaxRefusal) → tokens_of text ≡ Ok tokens → unit_of tokens ≡ Err refusal
    → fit_in text ≡ Err (refusal_of text tokens refusal)
unfolding fit_in sized_in typed_in tree_in
bad_syntax text tokens refusal lexed parsed = rw (lexed, parsed) refl

bad_types : (text : List ℕ) (tokens : List Lexeme) (items : List UnitItem) (failure : Failure) → tokens_of text ≡ Ok tokens → unit_of tokens ≡ Ok items
    → first_failing items ≡ Some failure → fit_in text ≡ Err (Types failure.code failure.span.from)
unfolding fit_in sized_in typed_in tree_in
bad_types text tokens items failure lexed parsed typed = rw (lexed, parsed, typed) refl

bad_places : (text : List ℕ) (tokens : List Lexeme) (items : List UnitItem) (span : Span) → tokens_of text ≡ Ok tokens → unit_of tokens ≡ Ok items
    → first_failing items ≡ None → placed_in items ≡ Err span → fit_in text ≡ Err (Places span.from)
unfolding fit_in sized_in typed_in tree_in
bad_places text tokens items span lexed parsed typed placed = rw (lexed, parsed, typed, placed) refl

bad_profile : (text : List ℕ) (tokens : List Lexeme) (items : List UnitItem) (l : Layout) (misfit : Misfit) → tokens_of text ≡ Ok tokens
    → unit_of tokens ≡ Ok items → first_failing items ≡ None → placed_in items ≡ Ok l → refusal_of_profile items ≡ Some misfit
    → fit_in text ≡ Err (Profile misfit.code misfit.span.from)
unfolding fit_in sized_in typed_in tree_in
bad_profile text tokens items l misfit lexed parsed typed placed profiled = rw (lexed, parsed, typed, placed, profiled) refl

points_told : (items : List UnitItem) (o : Option Identifier) → within_points items o ≡ Err NoMemory → ⊥
points_told items None e = cc
points_told items (Some name) e = cc

limits_told : (items : List UnitItem) (o : Option Identifier) → within_limits items o ≡ Err NoMemory → ⊥
limits_told items None e = points_told items (past_points items) e
limits_told items (Some name) e = cc

outcome_told : (o : Outcome (List UnitItem)) → parsed_of o ≡ Err NoMemory → ⊥
outcome_told (Ok found) e = limits_told found.0 (past_functions found.0) e
outcome_told (Err refusal) e = cc

memory_told : (tokens : List Lexeme) → unit_of tokens ≡ Err NoMemory → ⊥
unfolding unit_of
memory_told tokens e = outcome_told (read_unit tokens) e

pub what_fails_first : TextsAreRefusedByWhatFailsFirst
what_fails_first = record {
  fit = fit;
  bad = bad_text;
  at_token = λ text tokens code token. bad_syntax text tokens (At code token);
  at_function = λ text tokens code span. bad_syntax text tokens (Function code span);
  memory = memory_told;
  at_node = bad_types;
  at_declarator = bad_places;
  at_premise = bad_profile;
}
