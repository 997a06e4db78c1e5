-- Places of the tokens: what stands past the last one, and where a part that was read ends.
use Rattle.std.proofs.Common.{ℕ, ◌<◌, ◌≤◌, ◌≡◌, ◌≢◌, ◌∙◌, ap, sym, subst, Bool, List, length, Some, None, Ok, arith, inl, inr}
use Rattle.std.proofs.lemmas.Bool.{cases_lt}
use Rattle.std.proofs.lemmas.List.{length-map}
use Rattle.std.proofs.lemmas.Option.{slice_get_past}
use Rattle.tsa_base.specs.declared.token.Token.{Token}
use Rattle.tsa_base.specs.Tokens.{Lexeme, lexeme}
use Rattle.tsa_grammar.proofs.Runs as runs
use Rattle.tsa_tree.proofs.RowFacts.{First, Ends, Moves, inside}
use Rattle.tsa_tree.proofs.RowsMeet.{good}
use Rattle.tsa_tree.specs.declared.sign.Sign.{Sign}
use Rattle.tsa_tree.specs.declared.sign.Sign.TheVariants as sign
use Rattle.tsa_tree.specs.expressions.Answers.{below_limit}
use Rattle.tsa_tree.specs.Reads.{read}
use Rattle.tsa_tree.specs.Rows.{Sort, Node, Call, rank, sees, rule}
use Rattle.tsa_tree.specs.tokens.Signs.{Aliases, lexemes, sign_at, sign_in, access}

-- past the last token the sign is the end's
past_end : (tokens : List Token) (aliases : Aliases) (m : ℕ) → length tokens ≤ m → sign_at (lexemes tokens) aliases m ≡ sign.End
unfolding sign_at
past_end tokens aliases m le = ap (sign_in aliases) (slice_get_past (lexemes tokens) m (let e = length-map tokens lexeme in omega arith))

-- a place where another sign stands is one of a token
pub sign_within : (tokens : List Token) (aliases : Aliases) (m : ℕ) (s : Sign) → sign_at (lexemes tokens) aliases m ≡ s → s ≢ sign.End → m < length tokens
sign_within tokens aliases m s e h =
    elim (cases_lt m (length tokens)) [ inl lt ↦ lt | inr le ↦ absurd (h (sym e ∙ past_end tokens aliases m le)) ]

pub access_within : (tokens : List Token) (aliases : Aliases) (m : ℕ) (arrow : Bool) → access (sign_at (lexemes tokens) aliases m) ≡ Some arrow → m < length tokens
access_within tokens aliases m arrow e =
    elim (cases_lt m (length tokens)) [
      | inl lt ↦ lt
      | inr le ↦ absurd (let never : None ≡ Some arrow = sym (ap access (past_end tokens aliases m le)) ∙ e in cc)
    ]

-- a part that was read has a token, and ends within the list
ends_in : (tokens : List Lexeme) (s : Sort) (c : Call s) (a : ℕ) (x : Node s) (n : ℕ) → read tokens s c a ≡ Ok (x, n) → (a < n) × (n ≤ length tokens)
unfolding read
ends_in tokens s c a x n e =
    let r = subst (runs.Right (sees tokens) below_limit (rule tokens) (First tokens) (Ends tokens) (Moves tokens) rank (length tokens) s c a) e
    (runs.right (sees tokens) below_limit (rule tokens) (First tokens) (Ends tokens) (Moves tokens) rank (length tokens) (inside tokens) (good tokens) s c a) in
    (r.0, omega (arith, r.0, r.1))

pub read_ends : (tokens : List Token) (s : Sort) (c : Call s) (a : ℕ) (x : Node s) (n : ℕ) → read (lexemes tokens) s c a ≡ Ok (x, n) → (a < n) × (n ≤ length tokens)
read_ends tokens s c a x n e = let r = ends_in (lexemes tokens) s c a x n e in (r.0, omega (arith, r.1, length-map tokens lexeme))
