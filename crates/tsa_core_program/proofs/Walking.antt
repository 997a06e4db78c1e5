-- One step of a walk along a row.
use Rattle.std.proofs.Common.{◌≡◌, ◌∙◌, ℕ, ◌+◌, ◌<◌, suc, zero, List, [], ◌∷◌, length, drop, Some, None, slice_get, option_to_list, refl, sym, ap, ap₂, arith}
use Rattle.std.proofs.Math.Seq.{drop-cons}
use Rattle.std.proofs.lemmas.Option.{get_or_from_slice_get, slice_get_within, slice_get-get_or}
use Rattle.tsa_types_row.specs.declared.node.Node.{Node}
use Rattle.tsa_core_program.specs.Walks.{Walked, walk_node, front, walk_behind}

-- the node behind others is the first one of the rest
pub front_is : (row : List Node) (n : ℕ) → option_to_list (slice_get row n) ≡ front (drop n row)
front_is [] zero = refl
front_is [] (suc n) = refl
front_is (x ∷ xs) zero = refl
front_is (x ∷ xs) (suc n) = front_is xs n

rest_is : (row : List Node) (at : ℕ) (node : Node) → slice_get row at ≡ Some node → drop at row ≡ node ∷ drop (at + 1) row
rest_is row at node is =
    let next : suc at ≡ at + 1 = omega arith in
    drop-cons row at node (slice_get_within row at node is)
    ∙ ap₂ (λ x n. x ∷ drop n row) (get_or_from_slice_get row at node node is) next

pub one_on : (row : List Node) (at : ℕ) (node : Node) (w v : Walked) → slice_get row at ≡ Some node → v ≡ walk_node at node (option_to_list (slice_get row (at + 1))) w
    → walk_behind (at + 1) v (drop (at + 1) row) ≡ walk_behind at w (drop at row)
one_on row at node w v is went =
    ap (λ x. walk_behind (at + 1) x (drop (at + 1) row)) (went ∙ ap (λ next. walk_node at node next w) (front_is row (at + 1)))
    ∙ sym (ap (walk_behind at w) (rest_is row at node is))

-- a node of the row is there
pub none_there : {A : Type 0} (row : List Node) (at : ℕ) (d : Node) → at < length row → slice_get row at ≡ None → A
none_there row at d inside is = absurd (let e = sym (slice_get-get_or row at d inside) ∙ is in cc)
