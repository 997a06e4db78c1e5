use Rattle.std.proofs.Common.{◌≡◌, rules}
use Rattle.tsa_base.specs.Tokens.{opens_line, front_of}
use Rattle.tsa_lex.specs.Fronts.{seen}
use Rattle.tsa_lex.proofs.Within.{front_within}
use Rattle.tsa_lex.proofs.front.front.Goals as goal

pub returns-clause-within : goal.returns-clause-within
returns-clause-within c =
    let is : c.first_piece.result ≡ seen (front_of (opens_line c.args.before.now) c.args.text.now) = search rules in
    front_within (opens_line c.args.before.now) c.args.text.now c.first_piece.result c.requires.some is
