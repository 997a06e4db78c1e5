-- What is printed is printed again.
use Rattle.std.proofs.Common.{ℕ, ◌≡◌, ◌∙◌, ap, sym, subst, refl, List, [], Option, Some, None, Result, Ok, Err, length}
use Rattle.tsa_base.specs.Tokens.{BadByte, Lexeme, tokens_of}
use Rattle.tsa_grammar.specs.Reading.{Outcome, all}
use Rattle.tsa_tree.specs.expressions.Syntax.{Identifier}
use Rattle.tsa_tree.specs.units.Answers.{Spells, IsAnswer, read_unit}
use Rattle.tsa_tree.specs.units.Syntax.{UnitItem}
use Rattle.tsa_tree.specs.units.Limits.{past_functions, past_points}
use Rattle.tsa_tree.specs.units.Spelling.{IsItems}
use Rattle.tsa_tree.proofs.units.Laws.{an_answer}
use Rattle.tsa_expr.specs.declared.refusal.SyntaxRefusal.{SyntaxRefusal}
use Rattle.tsa_unit.specs.Parsing.{within_points, within_limits, parsed_of, unit_of}
use Rattle.tsa_unit.proofs.ParsedLaws.{Unlimited, unlimited}
use Rattle.tsa_print.specs.UnitPieces.{canonical_unit}
use Rattle.tsa_print.specs.UnitPrintLaws.{IsUnitReadAgain}
use Rattle.tsa_print.proofs.UnitReadAgain.{sound_unit_is_read_again, read_unit_is_sound}
use Rattle.tsa_tool.specs.declared.check.Refusal.TheVariants.{Lex}
use Rattle.tsa_tool.specs.Checks.{refusal_of, tree_in}
use Rattle.tsa_tool.specs.PrintedAgain.{PrintedIsPrintedAgain}

-- A unit that is read is spelled by all its tokens.
within_points_gives : (xs tree : List UnitItem) (o : Option Identifier) → within_points xs o ≡ Ok tree → xs ≡ tree
within_points_gives xs tree None e = cc
within_points_gives xs tree (Some name) e = cc

within_limits_gives : (xs tree : List UnitItem) (o : Option Identifier) → within_limits xs o ≡ Ok tree → xs ≡ tree
within_limits_gives xs tree None e = within_points_gives xs tree (past_points xs) e
within_limits_gives xs tree (Some name) e = cc

by_outcome : (tokens : List Lexeme) (tree : List UnitItem) (r : Outcome (List UnitItem)) → read_unit tokens ≡ r → parsed_of r ≡ Ok tree → Spells tokens all tree
by_outcome tokens tree (Err refusal) read e = cc
by_outcome tokens tree (Ok found) read e =
    let same : found.0 ≡ tree = within_limits_gives found.0 tree (past_functions found.0) e in
    let end : found.1 ≡ length tokens = (subst (IsAnswer tokens) read (an_answer tokens)).spelled.1 in
    let spelled : IsItems tokens all [] found.0 0 found.1 = subst (Unlimited tokens) read (unlimited tokens) in
    subst (λ xs. Spells tokens all xs) same (subst (λ n. IsItems tokens all [] found.0 0 n) end spelled)

pub unit_is_spelled : (tokens : List Lexeme) (tree : List UnitItem) → unit_of tokens ≡ Ok tree → Spells tokens all tree
unfolding unit_of
unit_is_spelled tokens tree e = by_outcome tokens tree (read_unit tokens) refl e

-- the tokens of a text that is a unit
record Tokens (text : List ℕ) (tree : List UnitItem) : Type 0 where
  tokens : List Lexeme
  of_text : tokens_of text ≡ Ok tokens
  parsed : unit_of tokens ≡ Ok tree

found_tree : (text : List ℕ) (tokens : List Lexeme) (found : List UnitItem) → tokens_of text ≡ Ok tokens → unit_of tokens ≡ Ok found → tree_in text ≡ Ok found
unfolding tree_in
found_tree text tokens found has parsed = rw (has, parsed) refl

refused_tree : (text : List ℕ) (tokens : List Lexeme) (refusal : SyntaxRefusal) → tokens_of text ≡ Ok tokens → unit_of tokens ≡ Err refusal
    → tree_in text ≡ Err (refusal_of text tokens refusal)
unfolding tree_in
refused_tree text tokens refusal has parsed = rw (has, parsed) refl

bad_text : (text : List ℕ) (bad : BadByte) → tokens_of text ≡ Err bad → tree_in text ≡ Err (Lex bad.code bad.byte)
unfolding tree_in
bad_text text bad has = rw has refl

by_parse : (text : List ℕ) (tokens : List Lexeme) (tree : List UnitItem) (r : Result (List UnitItem) SyntaxRefusal) → tokens_of text ≡ Ok tokens
    → unit_of tokens ≡ r → tree_in text ≡ Ok tree → Tokens text tree
by_parse text tokens tree (Ok found) has parsed e =
    let same : found ≡ tree = let two = sym (found_tree text tokens found has parsed) ∙ e in cc in
    record { tokens = tokens; of_text = has; parsed = subst (λ x. unit_of tokens ≡ Ok x) same parsed }
by_parse text tokens tree (Err refusal) has parsed e = absurd (let two = sym (refused_tree text tokens refusal has parsed) ∙ e in cc)

by_tokens : (text : List ℕ) (tree : List UnitItem) (r : Result (List Lexeme) BadByte) → tokens_of text ≡ r → tree_in text ≡ Ok tree → Tokens text tree
by_tokens text tree (Ok tokens) has e = by_parse text tokens tree (unit_of tokens) has refl e
by_tokens text tree (Err bad) has e = absurd (let two = sym (bad_text text bad has) ∙ e in cc)

tokens_in : (text : List ℕ) (tree : List UnitItem) → tree_in text ≡ Ok tree → Tokens text tree
tokens_in text tree e = by_tokens text tree (tokens_of text) refl e

same_tokens : (text : List ℕ) (tree : List UnitItem) (tokens : List Lexeme) → Tokens text tree → tokens_of text ≡ Ok tokens → Spells tokens all tree
same_tokens text tree tokens t e =
    let same : t.tokens ≡ tokens = let two = sym t.of_text ∙ e in cc in
    subst (λ ts. Spells ts all tree) same (unit_is_spelled t.tokens tree t.parsed)

pub printed_is_printed_again : PrintedIsPrintedAgain
printed_is_printed_again text tree again is plain printed =
    let t = tokens_in text tree is in
    let sound = read_unit_is_sound text t.tokens tree t.of_text (unit_is_spelled t.tokens tree t.parsed) in
    let r : IsUnitReadAgain tree = sound_unit_is_read_again tree sound plain in
    let spelled = same_tokens (canonical_unit tree) again r.tokens (tokens_in (canonical_unit tree) again printed) r.of_text in
    ap canonical_unit (r.no_other again spelled) ∙ r.again
