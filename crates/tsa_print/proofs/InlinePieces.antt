-- The pieces of an expression stand in one line: what is put on a page is what is written of them.
use Rattle.std.proofs.Common.{ℕ, ◌≡◌, ◌+◌, ◌-◌, List, [], ◌∷◌, ◌++◌, Bool, true, false, not, ◌||◌, nat_lt, if◌then◌else◌, refl, sym, ap}
use Rattle.std.proofs.Common.{◌∙◌}
use Rattle.std.proofs.lemmas.List.{append_assoc, append-nil}
use Rattle.tsa_tree.specs.tokens.Signs.{level}
use Rattle.tsa_tree.specs.expressions.Syntax.{Expression, Arguments, number, null, named, call, unary, binary, field, index, none, more}
use Rattle.tsa_print.specs.declared.mark.Mark.TheVariants as marks
use Rattle.tsa_print.specs.declared.sheet.Behind.{Behind}
use Rattle.tsa_print.specs.declared.sheet.Behind.TheVariants.{LineStart, Tight, Loose}
use Rattle.tsa_print.specs.Canonical.{Piece, word, numeral, operator, prefix, access, mark, piece_text, gap, binds_left, binds_right}
use Rattle.tsa_print.specs.Canonical.{written, pieces, wrapped, arguments, further}
use Rattle.tsa_print.specs.Layout.{ends_line, opens_level, closes_level, lead}
use Rattle.tsa_print.specs.Sheets.{Page, lead_by, put_one, put}
use Rattle.tsa_print.proofs.Pages.{with_plain}
use Rattle.tsa_print.proofs.Starts.{is_start, starts, starts-pieces}
use Rattle.tsa_print.proofs.WrittenParts.{closes, closes-pieces}

-- a piece that neither ends a line nor opens or closes a block or a struct
abbrev is_inline : Piece → Bool
is_inline p = not (ends_line p || (opens_level p || closes_level p))

abbrev AreInline : List Piece → Type 0
AreInline [] = Unit {0}
AreInline (p ∷ ps) = (is_inline p ≡ true) × AreInline ps

inline-append : (ps qs : List Piece) → AreInline ps → AreInline qs → AreInline (ps ++ qs)
inline-append [] qs h k = k
inline-append (p ∷ ps) qs h k = (h.0, inline-append ps qs h.1 k)

inline-wrapped : (b : Bool) (ps : List Piece) → AreInline ps → AreInline (wrapped b ps)
inline-wrapped true ps h = (refl, inline-append ps (mark marks.CloseParenthesis ∷ []) h (refl, tt))
inline-wrapped false ps h = h

mutual
  inline-pieces : (tree : Expression) (place : ℕ) → AreInline (pieces tree place)
  inline-pieces (number value unsigned span) place = (refl, tt)
  inline-pieces (null span) place = (refl, tt)
  inline-pieces (named name span) place = (refl, tt)
  inline-pieces (call callee args span) place =
      (refl, (refl, inline-append (arguments args) (mark marks.CloseParenthesis ∷ []) (inline-arguments args) (refl, tt)))
  inline-pieces (unary o inner span) place =
      inline-wrapped (nat_lt 10 place) (prefix o ∷ pieces inner 11) (refl, inline-pieces inner 11)
  inline-pieces (binary o left right span) place =
      inline-wrapped (nat_lt (level o) place) (pieces left (level o) ++ operator o ∷ pieces right (level o + 1))
      (inline-append (pieces left (level o)) (operator o ∷ pieces right (level o + 1)) (inline-pieces left (level o)) (refl, inline-pieces right (level o + 1)))
  inline-pieces (field base name arrow span) place =
      inline-append (pieces base 11) (access arrow ∷ (word name.text ∷ [])) (inline-pieces base 11) (refl, (refl, tt))
  inline-pieces (index base at span) place =
      inline-append (pieces base 11) (mark marks.OpenBracket ∷ (pieces at 0 ++ mark marks.CloseBracket ∷ [])) (inline-pieces base 11)
      (refl, inline-append (pieces at 0) (mark marks.CloseBracket ∷ []) (inline-pieces at 0) (refl, tt))

  inline-arguments : (args : Arguments) → AreInline (arguments args)
  inline-arguments none = tt
  inline-arguments (more first rest) = inline-append (pieces first 0) (further rest) (inline-pieces first 0) (inline-further rest)

  inline-further : (args : Arguments) → AreInline (further args)
  inline-further none = tt
  inline-further (more first rest) = (refl, inline-append (pieces first 0) (further rest) (inline-pieces first 0) (inline-further rest))

abbrev behind_inline : (tight : Bool) → Behind
behind_inline tight = if tight then Tight else Loose

put-inline : (page : Page) (p : Piece) → is_inline p ≡ true → put_one page p ≡
    record { text = page.text ++ (lead page.levels page.behind p ++ piece_text p); levels = page.levels; behind = behind_inline (binds_right p) }
unfolding put_one
put-inline page p h = go (ends_line p) (opens_level p) (closes_level p) h
  where
    go : (ends opens closes : Bool) → not (ends || (opens || closes)) ≡ true
        → ◌≡◌ {A = Page}
        (record {
          text = page.text ++ (lead page.levels page.behind p ++ (piece_text p ++ (if ends then 10 ∷ [] else [])));
          levels = if opens then page.levels + 1 else (if closes then page.levels - 1 else page.levels);
          behind = if ends then LineStart else behind_inline (binds_right p);
        })
        (record { text = page.text ++ (lead page.levels page.behind p ++ piece_text p); levels = page.levels; behind = behind_inline (binds_right p) })
    go true opens closes h = cc
    go false true closes h = cc
    go false false true h = cc
    go false false false h =
        ap (λ x. record { text = page.text ++ (lead page.levels page.behind p ++ x); levels = page.levels; behind = behind_inline (binds_right p) }) (append-nil (piece_text p))

lead-gap : (levels : ℕ) (p q : Piece) → lead levels (behind_inline (binds_right p)) q ≡ gap p q
lead-gap levels p q = go (binds_right p)
  where
    go : (tight : Bool) → lead levels (behind_inline tight) q ≡ (if tight || binds_left q then [] else 32 ∷ [])
    go true = refl
    go false = refl

joined : (t l x g w : List ℕ) → (t ++ (l ++ x)) ++ (g ++ w) ≡ t ++ (l ++ (x ++ (g ++ w)))
joined t l x g w = append_assoc t (l ++ x) (g ++ w) ∙ ap (λ y. t ++ y) (append_assoc l x (g ++ w))

abbrev loose : Page → List ℕ → Page
loose page text = record { text = text; levels = page.levels; behind = Loose }

put-line : (page : Page) (p : Piece) (ps : List Piece) → AreInline (p ∷ ps) → closes (p ∷ ps) ≡ true
    → put page (p ∷ ps) ≡ loose page (page.text ++ (lead page.levels page.behind p ++ written (p ∷ ps)))
unfolding written
put-line page p [] h e =
    put-inline page p h.0 ∙ go (binds_right p) e
  where
    go : (tight : Bool) → not tight ≡ true
        → ◌≡◌ {A = Page} (record { text = page.text ++ (lead page.levels page.behind p ++ piece_text p); levels = page.levels; behind = behind_inline tight })
        (loose page (page.text ++ (lead page.levels page.behind p ++ piece_text p)))
    go true e = cc
    go false e = refl
put-line page p (q ∷ qs) h e =
    let before = lead page.levels page.behind p in
    let next : Page = record { text = page.text ++ (before ++ piece_text p); levels = page.levels; behind = behind_inline (binds_right p) } in
    ap (λ s. put s (q ∷ qs)) (put-inline page p h.0)
    ∙ put-line next q qs h.1 e
    ∙ ap (λ g. loose page ((page.text ++ (before ++ piece_text p)) ++ (g ++ written (q ∷ qs)))) (lead-gap page.levels p q)
    ∙ ap (loose page) (joined page.text before (piece_text p) (gap p q) (written (q ∷ qs)))

lead-plain : (levels : ℕ) (behind : Behind) (p : Piece) → is_start p ≡ true → lead levels behind p ≡ lead_by levels behind false false
lead-plain levels LineStart (word text) e = refl
lead-plain levels LineStart (numeral value unsigned) e = refl
lead-plain levels LineStart (prefix o) e = refl
lead-plain levels LineStart (mark marks.OpenParenthesis) e = refl
lead-plain levels Tight p e = refl
lead-plain levels Loose (word text) e = refl
lead-plain levels Loose (numeral value unsigned) e = refl
lead-plain levels Loose (prefix o) e = refl
lead-plain levels Loose (mark marks.OpenParenthesis) e = refl
lead-plain levels behind _ e = cc

put-plain : (page : Page) (ps : List Piece) → starts ps ≡ true → AreInline ps → closes ps ≡ true → put page ps ≡ with_plain page (written ps)
put-plain page [] s h e = cc
put-plain page (p ∷ ps) s h e =
    put-line page p ps h e
    ∙ ap (λ x. loose page (page.text ++ (x ++ written (p ∷ ps)))) (lead-plain page.levels page.behind p s)
    ∙ ap (loose page) (sym (append_assoc page.text (lead_by page.levels page.behind false false) (written (p ∷ ps))))

-- an expression is put as it is written
pub put_pieces : (page : Page) (tree : Expression) (place : ℕ) → put page (pieces tree place) ≡ with_plain page (written (pieces tree place))
put_pieces page tree place =
    put-plain page (pieces tree place) (starts-pieces tree place) (inline-pieces tree place) (closes-pieces tree place)
