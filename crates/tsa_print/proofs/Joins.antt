-- Lists of pieces that stay apart when they are joined.
use Rattle.std.proofs.Common.{◌≡◌, List, [], ◌∷◌, ◌++◌, Bool, true, false, ◌||◌, ◌&&◌, not, refl, sym, subst}
use Rattle.std.proofs.lemmas.List.{append_assoc, append-nil}
use Rattle.tsa_print.specs.declared.mark.Mark.{Mark}
use Rattle.tsa_print.specs.declared.mark.Mark.TheVariants as marks
use Rattle.tsa_print.specs.Canonical.{Piece, word, numeral, quoted, operator, prefix, assigned, access, mark}
use Rattle.tsa_print.proofs.Apart.{is_good, is_dot, safe, safe_before, Apart}
use Rattle.tsa_base.proofs.Truths.{and_false}

abbrev pub is_filled : List Piece → Bool
is_filled [] = false
is_filled (p ∷ ps) = true

abbrev pub begins_dot : List Piece → Bool
begins_dot [] = false
begins_dot (p ∷ ps) = is_dot p

abbrev pub begins : (Piece → Bool) → List Piece → Bool
begins test [] = false
begins test (p ∷ ps) = test p

-- any piece may stand after these, but a `.` after a number
abbrev pub is_closed : Piece → Bool
is_closed (word text) = true
is_closed (numeral value unsigned) = true
is_closed (quoted text) = true
is_closed (mark marks.Star) = false
is_closed (mark k) = true
is_closed _ = false

abbrev pub is_numeral : Piece → Bool
is_numeral (numeral value unsigned) = true
is_numeral _ = false

-- the pieces go well before any that go well; where the last of them may be a number, these don't begin with a `.`
abbrev pub Joins : (number_last : Bool) → List Piece → Type 0
Joins number_last ps =
    (begins_dot ps ≡ false) × ((qs : List Piece) → (number_last && begins_dot qs) ≡ false → Apart qs → Apart (ps ++ qs))

pub joins_none : (last : Bool) → Joins last []
joins_none last = (refl, λ qs e apart. apart)

pub joins_loose : (last : Bool) (ps : List Piece) → Joins last ps → Joins true ps
joins_loose true ps joins = joins
joins_loose false ps joins = (joins.0, λ qs e apart. joins.1 qs refl apart)

pub joins_apart : (last : Bool) (ps : List Piece) → Joins last ps → Apart ps
joins_apart last ps joins = subst Apart (append-nil ps) (joins.1 [] (and_false last) tt)

-- what follows a list and another one begins with no `.`
no_dot : (last : Bool) (ps qs : List Piece) → begins_dot ps ≡ false → (last || is_filled ps) ≡ true → (last && begins_dot qs) ≡ false →
    begins_dot (ps ++ qs) ≡ false
no_dot last (p ∷ ps) qs first filled e = first
no_dot true [] qs first filled e = e
no_dot false [] qs first filled e = cc

pub dots_append : (ps qs : List Piece) → begins_dot ps ≡ false → begins_dot qs ≡ false → begins_dot (ps ++ qs) ≡ false
dots_append [] qs first second = second
dots_append (p ∷ ps) qs first second = first

pub joins_append : (last : Bool) (ps qs : List Piece) → (last || is_filled qs) ≡ true → Joins true ps → Joins last qs → Joins last (ps ++ qs)
joins_append last ps qs filled on_ps on_qs = (
  dots_append ps qs on_ps.0 on_qs.0,
  λ rs e apart. subst Apart (sym (append_assoc ps qs rs)) (on_ps.1 (qs ++ rs) (no_dot last qs rs on_qs.0 filled e) (on_qs.1 rs e apart)),
)

-- after a piece that must have certain ones after it
pub joins_before : (last : Bool) (p : Piece) (ps : List Piece) → is_good p ≡ true → is_dot p ≡ false → begins (λ q. safe p q) ps ≡ true →
    Joins last ps → Joins last (p ∷ ps)
joins_before last p [] good dot may joins = absurd (cc)
joins_before last p (q ∷ ps) good dot may joins = (dot, λ rs e apart. (good, may, joins.1 rs e apart))

-- after a piece that may have any after it
mark_open : (k : Mark) (qs : List Piece) → is_closed (mark k) ≡ true → safe_before (mark k) qs ≡ true
mark_open k [] closed = refl
mark_open marks.Comma (q ∷ qs) closed = refl
mark_open marks.OpenParenthesis (q ∷ qs) closed = refl
mark_open marks.OpenCall (q ∷ qs) closed = refl
mark_open marks.CloseParenthesis (q ∷ qs) closed = refl
mark_open marks.OpenBracket (q ∷ qs) closed = refl
mark_open marks.CloseBracket (q ∷ qs) closed = refl
mark_open marks.Star (q ∷ qs) closed = absurd (cc)
mark_open marks.Colon (q ∷ qs) closed = refl
mark_open marks.Semicolon (q ∷ qs) closed = refl
mark_open marks.ForSemicolon (q ∷ qs) closed = refl
mark_open marks.OpenBrace (q ∷ qs) closed = refl
mark_open marks.CloseBrace (q ∷ qs) closed = refl
mark_open marks.OpenBlock (q ∷ qs) closed = refl
mark_open marks.CloseBlock (q ∷ qs) closed = refl
mark_open marks.CloseBody (q ∷ qs) closed = refl
mark_open marks.CloseStruct (q ∷ qs) closed = refl

closed_safe : (p : Piece) (qs : List Piece) → is_closed p ≡ true → (is_numeral p && begins_dot qs) ≡ false → safe_before p qs ≡ true
closed_safe p [] closed e = refl
closed_safe (word text) (q ∷ qs) closed e = refl
closed_safe (numeral value unsigned) (q ∷ qs) closed e = rw e refl
closed_safe (quoted text) (q ∷ qs) closed e = refl
closed_safe (mark k) (q ∷ qs) closed e = mark_open k (q ∷ qs) closed
closed_safe (operator o) (q ∷ qs) closed e = absurd (cc)
closed_safe (prefix o) (q ∷ qs) closed e = absurd (cc)
closed_safe (assigned o) (q ∷ qs) closed e = absurd (cc)
closed_safe (access arrow) (q ∷ qs) closed e = absurd (cc)

closed_dot : (p : Piece) → is_closed p ≡ true → is_dot p ≡ false
closed_dot (word text) closed = refl
closed_dot (numeral value unsigned) closed = refl
closed_dot (quoted text) closed = refl
closed_dot (mark k) closed = refl
closed_dot (operator o) closed = absurd (cc)
closed_dot (prefix o) closed = absurd (cc)
closed_dot (assigned o) closed = absurd (cc)
closed_dot (access arrow) closed = absurd (cc)

behind_closed : (last : Bool) (p : Piece) (ps rs : List Piece) → (last || (not (is_numeral p) || is_filled ps)) ≡ true → begins_dot ps ≡ false →
    (last && begins_dot rs) ≡ false → (is_numeral p && begins_dot (ps ++ rs)) ≡ false
behind_closed last p (q ∷ ps) rs filled first e = rw first (and_false (is_numeral p))
behind_closed true p [] rs filled first e = rw e (and_false (is_numeral p))
behind_closed false p [] rs filled first e = of_test (is_numeral p) filled
  where
    of_test : (b : Bool) → (not b || false) ≡ true → (b && begins_dot rs) ≡ false
    of_test true filled = cc
    of_test false filled = refl

pub joins_behind : (last : Bool) (p : Piece) (ps : List Piece) → is_good p ≡ true → is_closed p ≡ true →
    (last || (not (is_numeral p) || is_filled ps)) ≡ true → Joins last ps → Joins last (p ∷ ps)
joins_behind last p ps good closed filled joins = (
  closed_dot p closed,
  λ rs e apart. (good, closed_safe p (ps ++ rs) closed (behind_closed last p ps rs filled joins.0 e), joins.1 rs e apart),
)

-- a closed mark at the end
pub joins_mark : (k : Mark) → is_closed (mark k) ≡ true → Joins false (mark k ∷ [])
joins_mark k closed = joins_behind false (mark k) [] refl closed refl (joins_none false)

-- pieces before a closed mark
pub joins_then : (k : Mark) (ps : List Piece) → is_closed (mark k) ≡ true → Joins true ps → Joins false (ps ++ mark k ∷ [])
joins_then k ps closed joins = joins_append false ps (mark k ∷ []) refl joins (joins_mark k closed)

-- pieces between two closed marks
pub joins_between : (k l : Mark) (ps : List Piece) → is_closed (mark k) ≡ true → is_closed (mark l) ≡ true → Joins true ps →
    Joins false (mark k ∷ (ps ++ mark l ∷ []))
joins_between k l ps opens closes joins = joins_behind false (mark k) (ps ++ mark l ∷ []) refl opens refl (joins_then l ps closes joins)
