-- What the definition of tokens says, in the standard's words and on texts of each form.
use Rattle.std.specs.Prelude.{ℕ, ◌≡◌, ◌+◌, ◌≤◌, ◌<◌, true, false, List, [], ◌∷◌, ◌++◌, length, take, Ok, Err, codes}
use Rattle.std.specs.declared.result.Result.{Result}
use Rattle.tsa_base.specs.declared.token.TokenKind.{TokenKind}
use Rattle.tsa_base.specs.declared.token.TokenKind.TheVariants.{Word, Number, Text, Punct}
use Rattle.tsa_base.specs.declared.token.LexCode.{LexCode}
use Rattle.tsa_base.specs.declared.token.LexCode.TheVariants.{LX1, LX2, LX3, LX4, LX5}
use Rattle.tsa_base.specs.Tokens.{Lexeme, BadByte, tokens_of, is_token, longest}

-- Of a rest at least one of whose fronts is a token, the longest such front is the next token: it is one, and no
-- longer front is.
pub record NextTokenIsTheLongest : Type 0 where
  pub token : (rest : List ℕ) → 0 < longest rest → is_token (take (longest rest) rest) ≡ true
  pub longest_one : (rest : List ℕ) (n : ℕ) → n ≤ length rest → is_token (take n rest) ≡ true → n ≤ longest rest

-- a token of a kind at a place
abbrev pub at : ℕ → TokenKind → List ℕ → Lexeme
at from kind text = record { kind = kind; text = text; span = record { from = from; to = from + length text } }

abbrev pub refused : LexCode → ℕ → Result (List Lexeme) BadByte
refused code byte = Err (record { code = code; byte = byte })

pub record TokensAreAsWritten : Type 0 where
  -- words, numbers and blanks
  pub nothing : tokens_of (codes " ") ≡ Ok []
  pub declaration : tokens_of (codes "int _a1;") ≡ Ok (at 0 Word (codes "int") ∷ at 4 Word (codes "_a1") ∷ at 7 Punct (codes ";") ∷ [])
  pub zero : tokens_of (codes "0") ≡ Ok (at 0 (Number 0 false) (codes "0") ∷ [])
  pub decimal : tokens_of (codes "2147483647") ≡ Ok (at 0 (Number 2147483647 false) (codes "2147483647") ∷ [])
  pub suffixed : tokens_of (codes "4294967295U") ≡ Ok (at 0 (Number 4294967295 true) (codes "4294967295U") ∷ [])
  pub octal : tokens_of (codes "017") ≡ Ok (at 0 (Number 15 false) (codes "017") ∷ [])
  pub wide_octal : tokens_of (codes "037777777777") ≡ Ok (at 0 (Number 4294967295 true) (codes "037777777777") ∷ [])
  pub hexadecimal : tokens_of (codes "0xfF") ≡ Ok (at 0 (Number 255 false) (codes "0xfF") ∷ [])
  pub wide_hexadecimal : tokens_of (codes "0X80000000") ≡ Ok (at 0 (Number 2147483648 true) (codes "0X80000000") ∷ [])
  pub sign_apart : tokens_of (codes "0xE+1") ≡ Ok (at 0 (Number 14 false) (codes "0xE") ∷ at 3 Punct (codes "+") ∷ at 4 (Number 1 false) (codes "1") ∷ [])
  -- texts and punctuators, of which the longest one comes first
  pub text : tokens_of (codes "(\"a b\")") ≡ Ok (at 0 Punct (codes "(") ∷ at 1 Text (codes "\"a b\"") ∷ at 6 Punct (codes ")") ∷ [])
  pub punctuators : tokens_of (codes "a<<=b- -->") ≡ Ok (at 0 Word (codes "a") ∷ at 1 Punct (codes "<<=") ∷ at 4 Word (codes "b") ∷ at 5 Punct (codes "-") ∷ at 7 Punct (codes "--") ∷ at 9 Punct (codes ">") ∷ [])
  -- comments and preprocessing lines
  pub block : tokens_of (codes "a/*/ * */b") ≡ Ok (at 0 Word (codes "a") ∷ at 9 Word (codes "b") ∷ [])
  pub line_comment : tokens_of (codes "a//b" ++ 10 ∷ codes "c") ≡ Ok (at 0 Word (codes "a") ∷ at 5 Word (codes "c") ∷ [])
  pub included : tokens_of (codes "#include <a>" ++ 10 ∷ codes "b") ≡ Ok (at 13 Word (codes "b") ∷ [])
  pub marker : tokens_of (codes " # 1 \"a" ++ 10 ∷ codes "b") ≡ Ok (at 8 Word (codes "b") ∷ [])
  pub lone : tokens_of (codes "#" ++ 10 ∷ codes "b") ≡ Ok (at 2 Word (codes "b") ∷ [])
  -- the first bad byte
  pub starts_nothing : tokens_of (codes "int @;") ≡ refused LX1 4
  pub sign_in_mid_line : tokens_of (codes "a #line") ≡ refused LX1 2
  pub open_comment : tokens_of (codes "a /* b") ≡ refused LX2 2
  pub octal_nine : tokens_of (codes "a 019") ≡ refused LX3 2
  pub too_wide : tokens_of (codes "2147483648") ≡ refused LX3 0
  pub no_digits : tokens_of (codes "0x") ≡ refused LX3 0
  pub fraction : tokens_of (codes "1.5") ≡ refused LX3 0
  pub defined : tokens_of (codes " #define") ≡ refused LX4 1
  pub open_text : tokens_of (codes "a \"b") ≡ refused LX5 2
  pub text_over_lines : tokens_of (codes "\"a" ++ 10 ∷ codes "\"") ≡ refused LX5 0
