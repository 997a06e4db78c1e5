-- What the reading of tokens sees of a front: the kind of a token, or that it only separates tokens.
use Rattle.std.specs.Prelude.{ℕ, Some, None, Ok, Err}
use Rattle.std.specs.declared.option.Option.{Option}
use Rattle.std.specs.declared.result.Result.{Result}
use Rattle.tsa_base.specs.declared.token.TokenKind.{TokenKind}
use Rattle.tsa_base.specs.declared.token.LexCode.{LexCode}
use Rattle.tsa_base.specs.Tokens.{PieceKind, blank, comment, skipped_line, token}

abbrev pub token_kind : PieceKind → Option TokenKind
token_kind blank = None
token_kind comment = None
token_kind skipped_line = None
token_kind (token kind) = Some kind

abbrev pub seen : Result (PieceKind × ℕ) LexCode → Result (Option TokenKind × ℕ) LexCode
seen (Ok (kind, n)) = Ok (token_kind kind, n)
seen (Err code) = Err code
