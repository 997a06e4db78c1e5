-- Blocks that are joined with their exits from the last one on.
use Rattle.std.proofs.Common.{◌≡◌, ◌∙◌, ℕ, zero, suc, arith, List, [], ◌∷◌, ◌++◌, append_assoc, reverse, length, length-append, get_or}
use Rattle.std.proofs.Common.{Some, slice_get, refl, sym, ap, subst}
use Rattle.std.proofs.lemmas.List.{reverse-append}
use Rattle.std.proofs.lemmas.Option.{none-some, same_Some}
use Rattle.tsa_graph.specs.declared.blocks.GraphBlock as graph
use Rattle.tsa_graph.specs.declared.sequence.Block.{Block}
use Rattle.tsa_graph.specs.declared.sequence.Exit.{Exit}
use Rattle.tsa_graph.specs.Joining.{IsJoined, AreJoined}

joined_push : (bs : List graph.GraphBlock) (xs : List (List Exit)) (rs : List Block) (b : graph.GraphBlock) (x : List Exit) (r : Block) → AreJoined bs xs rs → IsJoined b x r
    → AreJoined (bs ++ b ∷ []) (xs ++ x ∷ []) (rs ++ r ∷ [])
joined_push [] [] [] b x r h g = (g, tt)
joined_push (c ∷ bs) (y ∷ xs) (s ∷ rs) b x r h g = (h.0, joined_push bs xs rs b x r h.1 g)
joined_push [] [] (s ∷ rs) b x r h g = absurd h
joined_push [] (y ∷ xs) rs b x r h g = absurd h
joined_push (c ∷ bs) [] rs b x r h g = absurd h
joined_push (c ∷ bs) (y ∷ xs) [] b x r h g = absurd h

-- what is joined already follows what is still to be joined
abbrev pub Follows : (all bs : List graph.GraphBlock) (exits xs : List (List Exit)) (made : List Block) → Type 0
Follows all bs exits xs made = (rs : List Block) → AreJoined bs xs rs → AreJoined all exits (rs ++ reverse made)

pub next_join : (all bs bs' : List graph.GraphBlock) (exits xs xs' : List (List Exit)) (made made' : List Block) (b : graph.GraphBlock) (x : List Exit) (r : Block) → bs ≡ bs' ++ b ∷ []
    → xs ≡ xs' ++ x ∷ [] → made' ≡ made ++ r ∷ [] → IsJoined b x r → Follows all bs exits xs made → Follows all bs' exits xs' made'
next_join all bs bs' exits xs xs' made made' b x r is was new g h = λ rs j.
    let flip : reverse made' ≡ r ∷ reverse made = ap reverse new ∙ reverse-append made (r ∷ []) in
    let whole : AreJoined bs xs (rs ++ r ∷ []) =
    subst (λ cs. AreJoined cs xs (rs ++ r ∷ [])) (sym is) (subst (λ ys. AreJoined (bs' ++ b ∷ []) ys (rs ++ r ∷ [])) (sym was) (joined_push bs' xs' rs b x r j g))
    in
    subst (AreJoined all exits) (append_assoc rs (r ∷ []) (reverse made) ∙ ap (λ ss. rs ++ ss) (sym flip)) (h (rs ++ r ∷ []) whole)

pub shorter : {A B : Type 0} (xs xs' : List A) (ys ys' : List B) (x : A) (y : B) → xs ≡ xs' ++ x ∷ [] → ys ≡ ys' ++ y ∷ [] → length ys ≡ length xs → length ys' ≡ length xs'
shorter xs xs' ys ys' x y is was same =
    let a = ap length is ∙ length-append xs' (x ∷ []) in
    let b = ap length was ∙ length-append ys' (y ∷ []) in omega (arith, a, b, same)

pub all_joined : (all bs : List graph.GraphBlock) (exits xs : List (List Exit)) (made : List Block) → length bs ≡ 0 → length xs ≡ length bs → Follows all bs exits xs made → AreJoined all exits (reverse made)
all_joined all [] exits [] made e f h = h [] tt
all_joined all [] exits (y ∷ xs) made e f h = let no : ⊥ = omega (arith, f) in absurd no
all_joined all (c ∷ bs) exits xs made e f h = let no : ⊥ = omega (arith, e) in absurd no

-- by their places
pub joined_row : (bs : List graph.GraphBlock) (xs : List (List Exit)) (rs : List Block) (k : ℕ) (b : graph.GraphBlock) → AreJoined bs xs rs → slice_get bs k ≡ Some b
    → (r : Block) × (slice_get rs k ≡ Some r) × IsJoined b (get_or xs k []) r
joined_row [] xs rs k b h e = absurd (none-some b e)
joined_row (c ∷ bs) [] rs k b h e = absurd h
joined_row (c ∷ bs) (y ∷ xs) [] k b h e = absurd h
joined_row (c ∷ bs) (y ∷ xs) (s ∷ rs) zero b h e = (s, refl, subst (λ d. IsJoined d y s) (same_Some c b e) h.0)
joined_row (c ∷ bs) (y ∷ xs) (s ∷ rs) (suc k) b h e = joined_row bs xs rs k b h.1 e

pub joined_block : (bs : List graph.GraphBlock) (xs : List (List Exit)) (rs : List Block) (k : ℕ) (r : Block) → AreJoined bs xs rs → slice_get rs k ≡ Some r
    → (b : graph.GraphBlock) × (slice_get bs k ≡ Some b) × IsJoined b (get_or xs k []) r
joined_block bs xs [] k r h e = absurd (none-some r e)
joined_block [] [] (s ∷ rs) k r h e = absurd h
joined_block [] (y ∷ xs) (s ∷ rs) k r h e = absurd h
joined_block (c ∷ bs) [] (s ∷ rs) k r h e = absurd h
joined_block (c ∷ bs) (y ∷ xs) (s ∷ rs) zero r h e = (c, refl, subst (IsJoined c y) (same_Some s r e) h.0)
joined_block (c ∷ bs) (y ∷ xs) (s ∷ rs) (suc k) r h e = joined_block bs xs rs k r h.1 e

pub joined_length : (bs : List graph.GraphBlock) (xs : List (List Exit)) (rs : List Block) → AreJoined bs xs rs → length rs ≡ length bs
joined_length [] [] [] h = refl
joined_length [] [] (s ∷ rs) h = absurd h
joined_length [] (y ∷ xs) rs h = absurd h
joined_length (c ∷ bs) [] rs h = absurd h
joined_length (c ∷ bs) (y ∷ xs) [] h = absurd h
joined_length (c ∷ bs) (y ∷ xs) (s ∷ rs) h = let r = joined_length bs xs rs h.1 in omega (arith, r)
