-- Pieces that are put on a page one after another, and the text of a page.
use Rattle.std.proofs.Common.{ℕ, ◌≡◌, ◌+◌, ◌-◌, List, [], ◌∷◌, ◌++◌, Bool, false, if◌then◌else◌, Option, refl, sym, ap, ◌∙◌, zero, suc, ◌*◌}
use Rattle.std.proofs.Common.{◌≤◌, take, replicate, arith}
use Rattle.std.proofs.lemmas.List.{append_assoc, append-nil, take-replicate, replicate-append-replicate}
use Rattle.tsa_tree.specs.declared.expr.BinaryOp.{BinaryOp}
use Rattle.tsa_print.specs.declared.mark.Mark.{Mark}
use Rattle.tsa_print.specs.declared.sheet.Behind.{Behind}
use Rattle.tsa_print.specs.declared.sheet.Behind.TheVariants.{LineStart, Tight, Loose}
use Rattle.tsa_print.specs.Canonical.{Piece, word, numeral, quoted, assigned, mark, piece_text, mark_text, assign_text, binds_left}
use Rattle.tsa_print.specs.Layout.{ends_line, closes_level, levels_behind, behind_of, indentation, lead, line_end, laid}
use Rattle.tsa_print.specs.Sheets.{Page, lead_by, put_one, put}

pub put_append : (page : Page) (ps qs : List Piece) → put page (ps ++ qs) ≡ put (put page ps) qs
put_append page [] qs = refl
put_append page (p ∷ ps) qs = put_append (put_one page p) ps qs

-- what is put on a page is laid out after its text
pub put_laid : (page : Page) (ps : List Piece) → (put page ps).text ≡ page.text ++ laid page.levels page.behind ps
unfolding put_one laid
put_laid page [] = sym (append-nil page.text)
put_laid page (p ∷ ps) =
    let before = lead page.levels page.behind p in
    let behind = laid (levels_behind page.levels p) (behind_of p) ps in
    put_laid (put_one page p) ps
    ∙ append_assoc page.text (before ++ (piece_text p ++ line_end p)) behind
    ∙ ap (λ x. page.text ++ x) (append_assoc before (piece_text p ++ line_end p) behind
    ∙ ap (λ x. before ++ x) (append_assoc (piece_text p) (line_end p) behind))

-- so many blanks indent a line
blanks : (levels : ℕ) → indentation levels ≡ replicate (2 * levels) 32
unfolding indentation
blanks zero = refl
blanks (suc levels) =
    let e : 2 + 2 * levels ≡ 2 * suc levels = omega arith in
    ap (λ x. 32 ∷ 32 ∷ x) (blanks levels) ∙ replicate-append-replicate 2 (2 * levels) 32 ∙ ap (λ n. replicate n 32) e

-- before any blank is written, after some more, and after all
pub indent_all : (text : List ℕ) (levels : ℕ) → text ++ replicate (2 * levels) 32 ≡ text ++ indentation levels
indent_all text levels = ap (λ x. text ++ x) (sym (blanks levels))

pub indent_more : (text longer whole : List ℕ) (left part : ℕ) → part ≤ left → part ≤ 256 → text ++ replicate left 32 ≡ whole
    → longer ≡ text ++ take part (replicate 256 32) → longer ++ replicate (left - part) 32 ≡ whole
indent_more text longer whole left part low few h e =
    let parts : part + (left - part) ≡ left = omega (arith, low) in
    ap (λ x. x ++ replicate (left - part) 32) (e ∙ ap (λ x. text ++ x) (take-replicate part 256 32 few))
    ∙ append_assoc text (replicate part 32) (replicate (left - part) 32)
    ∙ ap (λ x. text ++ x) (replicate-append-replicate part (left - part) 32 ∙ ap (λ n. replicate n 32) parts)
    ∙ h

pub indent_done : (text whole : List ℕ) (left : ℕ) → left ≡ 0 → text ++ replicate left 32 ≡ whole → text ≡ whole
indent_done text whole left e h = sym (append-nil text) ∙ ap (λ n. text ++ replicate n 32) (sym e) ∙ h

pub ruleset indents = (indent_all, indent_more, indent_done)

pub lead_same : (levels : ℕ) (behind : Behind) (p : Piece) → lead levels behind p ≡ lead_by levels behind (closes_level p) (binds_left p)
lead_same levels LineStart p = refl
lead_same levels Tight p = refl
lead_same levels Loose p = refl

-- what is before a token, the token, and the end of a line
put_parts : (page : Page) (p : Piece) → put_one page p ≡
    record {
      text = ((page.text ++ lead_by page.levels page.behind (closes_level p) (binds_left p)) ++ piece_text p) ++ line_end p;
      levels = levels_behind page.levels p;
      behind = behind_of p;
    }
unfolding put_one
put_parts page p =
    let before = lead_by page.levels page.behind (closes_level p) (binds_left p) in
    ap (λ x. record { text = x; levels = levels_behind page.levels p; behind = behind_of p })
    (ap (λ x. page.text ++ (x ++ (piece_text p ++ line_end p))) (lead_same page.levels page.behind p)
    ∙ sym (append_assoc page.text before (piece_text p ++ line_end p))
    ∙ sym (append_assoc (page.text ++ before) (piece_text p) (line_end p)))

pub put_mark : (page : Page) (k : Mark) → put_one page (mark k) ≡
    record {
      text = ((page.text ++ lead_by page.levels page.behind (closes_level (mark k)) (binds_left (mark k))) ++ mark_text k) ++ (if ends_line (mark k) then 10 ∷ [] else []);
      levels = levels_behind page.levels (mark k);
      behind = behind_of (mark k);
    }
put_mark page k = put_parts page (mark k)

-- a page with a text after a blank or an indentation
abbrev pub with_plain : Page → List ℕ → Page
with_plain page text = record { text = (page.text ++ lead_by page.levels page.behind false false) ++ text; levels = page.levels; behind = Loose }

ended : (page : Page) (text : List ℕ) → with_plain page text ≡ record { text = ((page.text ++ lead_by page.levels page.behind false false) ++ text) ++ []; levels = page.levels; behind = Loose }
ended page text =
    ap (λ x. record { text = x; levels = page.levels; behind = Loose }) (sym (append-nil ((page.text ++ lead_by page.levels page.behind false false) ++ text)))

pub put_word : (page : Page) (text : List ℕ) → put_one page (word text) ≡ with_plain page text
put_word page text = put_parts page (word text) ∙ sym (ended page text)

pub put_numeral : (page : Page) (value : ℕ) (unsigned : Bool) → put_one page (numeral value unsigned) ≡ with_plain page (piece_text (numeral value unsigned))
put_numeral page value unsigned = put_parts page (numeral value unsigned) ∙ sym (ended page (piece_text (numeral value unsigned)))

pub put_quoted : (page : Page) (text : List ℕ) → put_one page (quoted text) ≡
    record {
      text = (((page.text ++ lead_by page.levels page.behind false false) ++ 34 ∷ []) ++ text) ++ 34 ∷ [];
      levels = page.levels;
      behind = Loose;
    }
put_quoted page text =
    let before = page.text ++ lead_by page.levels page.behind false false in
    put_parts page (quoted text) ∙ sym (ended page (34 ∷ (text ++ 34 ∷ [])))
    ∙ ap (λ x. record { text = x; levels = page.levels; behind = Loose })
    (sym (append_assoc before (34 ∷ []) (text ++ 34 ∷ [])) ∙ sym (append_assoc (before ++ 34 ∷ []) text (34 ∷ [])))

pub put_assigned : (page : Page) (op : Option BinaryOp) → put_one page (assigned op) ≡ with_plain page (assign_text op)
put_assigned page op = put_parts page (assigned op) ∙ sym (ended page (assign_text op))
