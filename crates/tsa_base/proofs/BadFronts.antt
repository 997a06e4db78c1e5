-- Where a rest is bad for a reason, the front that is computed has its code.
use Rattle.std.proofs.Common.{◌≡◌, ℕ, suc, ◌<◌, Bool, true, false, ◌==◌, List, [], ◌∷◌, ◌++◌, length, take, Option, None, Some, Err, refl}
use Rattle.std.proofs.Common.{subst, arith}
use Rattle.std.proofs.lemmas.Bool.{and_left, eqb-true}
use Rattle.std.proofs.lemmas.List.{take_at}
use Rattle.tsa_base.specs.declared.token.LexCode.{LexCode}
use Rattle.tsa_base.specs.declared.token.LexCode.TheVariants.{LX1, LX2, LX3, LX4, LX5}
use Rattle.tsa_base.specs.Tokens.{front_of, token_front, block_end, kind_of, is_token, longest, opens_line}
use Rattle.tsa_base.specs.PieceLaws.{IsBad, IsLongest, IsDirective, IsOpenComment, BeginsNothing, BeginsOpenText, begins_comment}
use Rattle.tsa_base.proofs.LongestFronts.{next-longest, no_token-longest, token-begins}
use Rattle.tsa_base.proofs.LineEnds.{line_word-append}
use Rattle.tsa_base.proofs.BlockEnds.{EndsOrNot, ends_or_not}
use Rattle.tsa_base.proofs.PieceFronts.{token-front}

nothing-front : (before : List ℕ) (c : ℕ) (cs : List ℕ) → BeginsNothing before (c ∷ cs) → front_of (opens_line before) (c ∷ cs) ≡ Err LX1
nothing-front before c cs b =
    let none : longest (c ∷ cs) ≡ 0 = no_token-longest (c ∷ cs) b.no_token in
    let plain : (c == 34) ≡ false = b.no_quote in
    rw (token-front (opens_line before) c cs b.no_blank b.no_line b.no_token.no_comment, none, plain) refl

open-text-front : (opens : Bool) (c : ℕ) (cs : List ℕ) → BeginsOpenText (c ∷ cs) → front_of opens (c ∷ cs) ≡ Err LX5
open-text-front opens c cs b =
    let none : longest (c ∷ cs) ≡ 0 = no_token-longest (c ∷ cs) b.no_token in
    let quote : c ≡ 34 = eqb-true c 34 b.quote in
    let none' : longest (34 ∷ cs) ≡ 0 = rw quote at none in
    let apart : begins_comment (34 ∷ cs) ≡ false = subst (λ (z : ℕ). begins_comment (z ∷ cs) ≡ false) quote b.no_token.no_comment in
    rw (quote, token-front opens 34 cs refl refl apart, none') refl

endless : (cs : List ℕ) (o : Option ℕ) → EndsOrNot cs o → ((u v : List ℕ) → cs ≡ u ++ 42 ∷ 47 ∷ v → ⊥) → o ≡ None
endless cs None e never = refl
endless cs (Some n) e never = absurd (never e.inner e.behind e.whole)

open-comment-front : (opens : Bool) (rest : List ℕ) → IsOpenComment rest → front_of opens rest ≡ Err LX2
unfolding front_of
open-comment-front opens rest b =
    let none : block_end b.inner ≡ None = endless b.inner (block_end b.inner) (ends_or_not b.inner) b.endless in
    rw (b.whole, none) refl

no_kind-front : (opens : Bool) (run behind : List ℕ) → IsLongest run behind → kind_of run ≡ None → front_of opens (run ++ behind) ≡ Err LX3
unfolding is_token
no_kind-front opens [] behind next none = let is : false ≡ true = next.is in absurd (cc)
no_kind-front opens (c ∷ cs) behind next none =
    let first = token-begins c cs next.is in
    let reached : longest (c ∷ cs ++ behind) ≡ suc (length cs) = next-longest (c ∷ cs) behind next in
    let taken : take (length cs) (cs ++ behind) ≡ cs = take_at cs behind (length cs) refl in
    let front : front_of opens (c ∷ cs ++ behind) ≡ token_front (c ∷ cs ++ behind) (longest (c ∷ cs ++ behind)) = token-front opens c (cs ++ behind) first.0 (and_left (c == 35) opens first.1) next.no_comment in
    rw (front, reached, taken, none) refl

other_line-front : (before line behind : List ℕ) → IsDirective false before line behind → front_of (opens_line before) (line ++ behind) ≡ Err LX4
unfolding front_of
other_line-front before line behind d = rw (d.whole, d.opens, line_word-append d.line behind d.to_end.ends, d.word) refl

-- a bad rest has no front, and its code
pub bad-front : (before : List ℕ) (code : LexCode) (rest : List ℕ) → IsBad before code rest → 0 < length rest → front_of (opens_line before) rest ≡ Err code
unfolding IsBad
bad-front before code [] b some = absurd (omega arith)
bad-front before LX1 (c ∷ cs) b some = nothing-front before c cs b
bad-front before LX2 (c ∷ cs) b some = open-comment-front (opens_line before) (c ∷ cs) b
bad-front before LX3 (c ∷ cs) b some = rw b.whole (no_kind-front (opens_line before) b.run b.behind b.next b.no_kind)
bad-front before LX4 (c ∷ cs) b some = rw b.whole (other_line-front before b.line b.behind b.is)
bad-front before LX5 (c ∷ cs) b some = open-text-front (opens_line before) c cs b
