-- Which parts are places, by their heads.
use Rattle.std.proofs.Common.{◌≡◌, ◌∙◌, ℕ, List, refl, ap}
use Rattle.tsa_tree.specs.declared.expr.BinaryOp.TheVariants as op
use Rattle.tsa_core.specs.Meanings.{is_place}
use Rattle.tsa_core_rows.specs.Reading.{Part, part_at}
use Rattle.tsa_lower_terms.specs.Heads.{head_is_place, head_term}
use Rattle.tsa_lower_terms.specs.Sources.{Source, Stands, parts_at, sense_at}
use Rattle.tsa_lower_terms.specs.declared.find.Spot.{Spot}
use Rattle.tsa_lower_terms.specs.declared.head.Head.{Head}
use Rattle.tsa_lower_terms.specs.declared.head.Head.TheVariants as head

place_head : (h : Head) (ps : List Part) → is_place (head_term h ps) ≡ head_is_place h
place_head (head.Constant v) ps = refl
place_head (head.Variable n) ps = refl
place_head (head.Answer f n) ps = refl
place_head (head.Global n) ps = refl
place_head (head.Member arrow n) ps = refl
place_head head.Element ps = refl
place_head head.Target ps = refl
place_head head.Address ps = refl
place_head (head.Prefixed o) ps = refl
place_head (head.Joined op.Or) ps = refl
place_head (head.Joined op.And) ps = refl
place_head (head.Joined op.BitOr) ps = refl
place_head (head.Joined op.BitXor) ps = refl
place_head (head.Joined op.BitAnd) ps = refl
place_head (head.Joined op.Equal) ps = refl
place_head (head.Joined op.Unequal) ps = refl
place_head (head.Joined op.Less) ps = refl
place_head (head.Joined op.More) ps = refl
place_head (head.Joined op.LessEqual) ps = refl
place_head (head.Joined op.MoreEqual) ps = refl
place_head (head.Joined op.Plus) ps = refl
place_head (head.Joined op.Minus) ps = refl
place_head (head.Joined op.Times) ps = refl
place_head (head.Joined op.Divide) ps = refl
place_head (head.Joined op.Remainder) ps = refl

pub found_is_place : (s : Source) (at : ℕ) (spot : Spot) → parts_at s at ≡ parts_at s spot.at → Stands s spot → is_place (sense_at s at).term ≡ head_is_place spot.head
found_is_place s at spot e is =
    ap (λ (ps : List Part). is_place (part_at 0 ps).sense.term) e ∙ ap is_place is.term ∙ place_head spot.head (parts_at s spot.behind)
