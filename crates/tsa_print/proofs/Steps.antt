-- The pieces of a list's elements, put one element after another.
use Rattle.std.proofs.Common.{ℕ, ◌≡◌, ◌<◌, ◌≤◌, ◌+◌, ◌-◌, List, [], ◌∷◌, ◌++◌, length, take, drop, get_or, sym, ap, ◌∙◌, suc, arith}
use Rattle.std.proofs.lemmas.List.{take_all, drop_more}
use Rattle.tsa_print.specs.Canonical.{Piece}
use Rattle.tsa_print.specs.Sheets.{Page, put, put_one}
use Rattle.tsa_print.proofs.Pages.{put_append}

-- an element, and those after it
pub put_element : {X : Type 0} (pieces_of : List X → List Piece) (each : X → List Piece) → ((x : X) (xs : List X) → pieces_of (x ∷ xs) ≡ each x ++ pieces_of xs)
    → (page next : Page) (xs rest : List X) (x : X) → xs ≡ x ∷ rest → next ≡ put page (each x) → put next (pieces_of rest) ≡ put page (pieces_of xs)
put_element pieces_of each is page next xs rest x h e =
    ap (λ p. put p (pieces_of rest)) e
    ∙ sym (put_append page (each x) (pieces_of rest))
    ∙ ap (put page) (sym (is x rest))
    ∙ sym (ap (λ ys. put page (pieces_of ys)) h)

-- an element with a piece before it, and those after it
pub put_element_behind : {X : Type 0} (pieces_of : List X → List Piece) (first : Piece) (each : X → List Piece)
    → ((x : X) (xs : List X) → pieces_of (x ∷ xs) ≡ first ∷ (each x ++ pieces_of xs))
    → (page middle next : Page) (xs rest : List X) (x : X) → xs ≡ x ∷ rest → middle ≡ put_one page first → next ≡ put middle (each x)
    → put next (pieces_of rest) ≡ put page (pieces_of xs)
put_element_behind pieces_of first each is page middle next xs rest x h m e =
    put_element pieces_of (λ x. first ∷ each x) is page next xs rest x h (e ∙ ap (λ p. put p (each x)) m)

-- an element with a piece after it, and those after that
pub put_element_before : {X : Type 0} (pieces_of : List X → List Piece) (last : Piece) (each : X → List Piece)
    → ((x : X) (xs : List X) → pieces_of (x ∷ xs) ≡ each x ++ last ∷ pieces_of xs)
    → (page middle next : Page) (xs rest : List X) (x : X) → xs ≡ x ∷ rest → middle ≡ put page (each x) → next ≡ put_one middle last
    → put next (pieces_of rest) ≡ put page (pieces_of xs)
put_element_before pieces_of last each is page middle next xs rest x h m e =
    ap (λ p. put p (pieces_of rest)) (e ∙ ap (λ p. put_one p last) m)
    ∙ sym (put_append page (each x) (last ∷ pieces_of rest))
    ∙ ap (put page) (sym (is x rest))
    ∙ sym (ap (λ ys. put page (pieces_of ys)) h)

-- the first element, and the others
pub put_first : {X : Type 0} (pieces_of : List X → List Piece) (each : X → List Piece) (others : List X → List Piece)
    → ((x : X) (xs : List X) → pieces_of (x ∷ xs) ≡ each x ++ others xs)
    → (page next : Page) (xs rest : List X) (x : X) → xs ≡ x ∷ rest → next ≡ put page (each x) → put next (others rest) ≡ put page (pieces_of xs)
put_first pieces_of each others is page next xs rest x h e =
    ap (λ p. put p (others rest)) e
    ∙ sym (put_append page (each x) (others rest))
    ∙ ap (put page) (sym (is x rest))
    ∙ sym (ap (λ ys. put page (pieces_of ys)) h)

-- what a list is from a place on
pub dropped : {X : Type 0} (xs : List X) (i : ℕ) (x : X) → i < length xs → x ≡ get_or xs i x → drop i xs ≡ x ∷ drop (i + 1) xs
dropped xs i x h e = drop_more xs i x h ∙ ap (λ y. y ∷ drop (i + 1) xs) (sym e)

pub parted : {X : Type 0} (xs : List X) (d : X) → 1 ≤ length xs → xs ≡ get_or xs 0 d ∷ take (length xs - 1) (drop 1 xs)
parted [] d h = absurd (omega (arith, h))
parted (x ∷ xs) d h = ap (λ ys. x ∷ ys) (sym (take_all (suc (length xs) - 1) xs (omega arith)))

pub parted_at : {X : Type 0} (xs : List X) (x : X) → 1 ≤ length xs → x ≡ get_or xs 0 x → xs ≡ x ∷ take (length xs - 1) (drop 1 xs)
parted_at xs x h e = parted xs x h ∙ ap (λ y. y ∷ take (length xs - 1) (drop 1 xs)) (sym e)
