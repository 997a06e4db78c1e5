use Rattle.std.proofs.Common.{◌≡◌, ℕ, ◌+◌, ◌-◌, ◌<◌, ◌≤◌, ◌++◌, [], ◌∷◌, None, Some, Ok, Err, length, take, drop, map, rules, arith, sym}
use Rattle.std.proofs.Common.{ap, ◌∙◌}
use Rattle.std.proofs.lemmas.Grind.{common_steps}
use Rattle.std.proofs.lemmas.List.{map-append}
use Rattle.tsa_base.specs.declared.token.LexCode.{LexCode}
use Rattle.tsa_base.specs.Tokens.{lexeme}
use Rattle.tsa_lex.proofs.Steps.{front_at, goes_past, goes_on, stops, ends}
use Rattle.tsa_lex.proofs.tokens.lex.Goals as goal

pub returns-in-Err-clause-bad : goal.returns-in-Err-clause-bad
returns-in-Err-clause-bad c =
    let text = c.args.source.now in
    let at = c.pieces.at in
    let is : front_at text at ≡ Err c.in-Err.code = sym c.front.ensures.front ∙ c.in-Err.is in
    let stopped = stops text at (map lexeme c.pieces.tokens.items) c.in-Err.code c.pieces.invariant.read c.pieces-test.true is in
    λ code byte e.
    let same_code : c.in-Err.code ≡ code = cc in
    let same_byte : at ≡ byte = cc in
    stopped ∙ ap (λ (x : LexCode). Err (record { code = x; byte = at })) same_code ∙ ap (λ (n : ℕ). Err (record { code = code; byte = n })) same_byte

pub pieces-preserved-in_default : goal.pieces-preserved-in_default
pieces-preserved-in_default c =
    let text = c.args.source.now in
    let at = c.pieces.at in
    let n = c.in-Ok.piece.1 in
    let size : length (take (length text - at) (drop at text)) ≡ length text - at = grind (arith, common_steps) in
    let fit : (0 < n) × (n ≤ length (take (length text - at) (drop at text))) = search rules in
    let is : front_at text at ≡ Ok (None, n) = sym c.front.ensures.front ∙ c.in-Ok.is ∙ ap (λ kind. Ok (kind, n)) c.in_default.is in
    record {
      within = omega arith;
      many = omega arith;
      read = goes_past text at (map lexeme c.pieces.tokens.items) n c.pieces.invariant.read c.pieces-test.true is fit.0;
    }

pub pieces-preserved : goal.pieces-preserved
pieces-preserved c =
    let text = c.args.source.now in
    let at = c.pieces.at in
    let n = c.in-Ok.piece.1 in
    let kind = c.in-Some.kind in
    let size : length (take (length text - at) (drop at text)) ≡ length text - at = grind (arith, common_steps) in
    let fit : (0 < n) × (n ≤ length (take (length text - at) (drop at text))) = search rules in
    let is : front_at text at ≡ Ok (Some kind, n) = sym c.front.ensures.front ∙ c.in-Ok.is ∙ ap (λ k. Ok (k, n)) c.in-Some.is in
    let token = c.token_at-token.result in
    let pushed : c.push.new.self.items ≡ c.pieces.tokens.items ++ token ∷ [] = search rules in
    let lexemes : map lexeme c.push.new.self.items ≡ map lexeme c.pieces.tokens.items ++ record { kind = kind; text = take n (drop at text); span = record { from = at; to = at + n } } ∷ [] =
    ap (map lexeme) pushed ∙ map-append lexeme c.pieces.tokens.items (token ∷ []) ∙ ap (λ x. map lexeme c.pieces.tokens.items ++ x ∷ []) c.token_at-token.ensures in
    record {
      within = omega arith;
      many = grind (arith, common_steps);
      read = rw lexemes (goes_on text at (map lexeme c.pieces.tokens.items) kind n c.pieces.invariant.read c.pieces-test.true is fit.0);
    }

pub returns-clause-tokens : goal.returns-clause-tokens
returns-clause-tokens c = ends c.args.source.now c.pieces.at (map lexeme c.pieces.tokens.items) c.pieces.invariant.read (omega arith)
