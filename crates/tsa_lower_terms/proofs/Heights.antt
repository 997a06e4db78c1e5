-- How many slots terms use, by their heads.
use Rattle.std.proofs.Common.{◌≡◌, ◌∙◌, ℕ, ◌+◌, max, Bool, true, false, List, if◌then◌else◌, refl, sym, ap, arith}
use Rattle.tsa_tree.specs.declared.expr.BinaryOp.{BinaryOp}
use Rattle.tsa_tree.specs.declared.expr.BinaryOp.TheVariants as op
use Rattle.tsa_tree.specs.declared.kind.ExpressionType.{ExpressionType}
use Rattle.tsa_tree.specs.declared.kind.Kind.{Kind}
use Rattle.tsa_tree.specs.declared.kind.Kind.TheVariants as type
use Rattle.tsa_tree.specs.types.Operands.{unsigned_kind}
use Rattle.tsa_core.specs.Meanings.{as_kind, beside, is_int, is_loaded, loaded, null_pointer, operands}
use Rattle.tsa_core.specs.Terms as term
use Rattle.tsa_core.specs.Terms.{Sense, Term}
use Rattle.tsa_core_rows.specs.Reading.{Part, part_at}
use Rattle.tsa_lower_code.specs.Codes.{height}
use Rattle.tsa_lower_terms.specs.Codes.{is_comparison, is_null_beside}
use Rattle.tsa_lower_terms.specs.Heads.{head_term}
use Rattle.tsa_lower_terms.specs.Heights.{both_height, null_or_top}
use Rattle.tsa_lower_terms.specs.Sources.{Source, Stands, parts_at, sense_at}
use Rattle.tsa_lower_terms.specs.declared.find.Spot.{Spot}
use Rattle.tsa_lower_terms.specs.declared.head.Head.TheVariants as head

load_height : (b is_stable : Bool) (t : Term) → height (if b then term.load is_stable t else t) ≡ height t
load_height true is_stable t = refl
load_height false is_stable t = refl

pub loaded_height : (x : Sense) → height (loaded x) ≡ height x.term
loaded_height x = load_height (is_loaded x) x.is_stable x.term

-- beside another, and where a kind is wanted
null_height : (b : Bool) (x : Sense) (slot top : ℕ) → top ≡ slot + height x.term → null_or_top b slot top ≡ slot + height (if b then null_pointer else loaded x)
null_height true x slot top e = refl
null_height false x slot top e = e ∙ ap (λ (n : ℕ). slot + n) (sym (loaded_height x))

pub beside_height : (other : Kind) (x : Sense) (slot top : ℕ) → top ≡ slot + height x.term
    → null_or_top (is_null_beside other x.type.thing.kind) slot top ≡ slot + height (beside other x)
beside_height other x slot top e = null_height (is_null_beside other x.type.thing.kind) x slot top e

convert_height : (b : Bool) (kind : Kind) (x : Sense) → height (if b then term.converted kind (loaded x) else loaded x) ≡ height x.term
convert_height true kind x = loaded_height x
convert_height false kind x = loaded_height x

pub int_height : (x : Sense) → height (as_kind type.Int x) ≡ height x.term
int_height x = convert_height (unsigned_kind x.type.thing.kind) type.Int x

pub unsigned_height : (x : Sense) → height (as_kind type.Unsigned x) ≡ height x.term
unsigned_height x = convert_height (is_int x.type.thing.kind) type.Unsigned x

-- an operator on two parts
pub both_of : (o : BinaryOp) (x y : Sense) → is_comparison o ≡ false → height (operands o x y) ≡ max (height x.term) (height y.term + 1)
both_of op.Equal x y e = cc
both_of op.Unequal x y e = cc
both_of op.Or x y e = rw (loaded_height x, loaded_height y) refl
both_of op.And x y e = rw (loaded_height x, loaded_height y) refl
both_of op.BitOr x y e = rw (loaded_height x, loaded_height y) refl
both_of op.BitXor x y e = rw (loaded_height x, loaded_height y) refl
both_of op.BitAnd x y e = rw (loaded_height x, loaded_height y) refl
both_of op.Less x y e = rw (loaded_height x, loaded_height y) refl
both_of op.More x y e = rw (loaded_height x, loaded_height y) refl
both_of op.LessEqual x y e = rw (loaded_height x, loaded_height y) refl
both_of op.MoreEqual x y e = rw (loaded_height x, loaded_height y) refl
both_of op.Plus x y e = rw (loaded_height x, loaded_height y) refl
both_of op.Minus x y e = rw (loaded_height x, loaded_height y) refl
both_of op.Times x y e = rw (loaded_height x, loaded_height y) refl
both_of op.Divide x y e = rw (loaded_height x, loaded_height y) refl
both_of op.Remainder x y e = rw (loaded_height x, loaded_height y) refl

pub joined_height : (s : Source) (at : ℕ) (spot : Spot) (o : BinaryOp) → parts_at s at ≡ parts_at s spot.at → Stands s spot → spot.head ≡ head.Joined o → is_comparison o ≡ false
    → height (sense_at s at).term ≡ both_height (parts_at s spot.behind)
joined_height s at spot o e is joined other =
    ap (λ (ps : List Part). height (part_at 0 ps).sense.term) e ∙ ap height is.term ∙ ap (λ h. height (head_term h (parts_at s spot.behind))) joined
    ∙ both_of o (part_at 0 (parts_at s spot.behind)).sense (part_at 1 (parts_at s spot.behind)).sense other

-- two parts that are compared
pub compared_top : (x y : Sense) (slot left right : ℕ) → left ≡ slot + height x.term → right ≡ (slot + 1) + height y.term
    → max (null_or_top (is_null_beside y.type.thing.kind x.type.thing.kind) slot left) (null_or_top (is_null_beside x.type.thing.kind y.type.thing.kind) (slot + 1) right)
    ≡ slot + max (height (beside y.type.thing.kind x)) (height (beside x.type.thing.kind y) + 1)
compared_top x y slot left right e g =
    let h = beside_height y.type.thing.kind x slot left e in
    let j = beside_height x.type.thing.kind y (slot + 1) right g in
    omega (arith, h, j)

pub compared_done : (x y z : Part) (slot next left right lt rt : ℕ) (tl tr : ExpressionType) (b d : Bool)
    → z.sense ≡ y.sense → next ≡ slot + 1 → left ≡ slot + height x.sense.term → right ≡ next + height z.sense.term → tl ≡ x.sense.type → tr ≡ z.sense.type
    → b ≡ is_null_beside tr.thing.kind tl.thing.kind → d ≡ is_null_beside tl.thing.kind tr.thing.kind
    → lt ≡ null_or_top b slot left → rt ≡ null_or_top d next right
    → max lt rt ≡ slot + max (height (beside y.sense.type.thing.kind x.sense)) (height (beside x.sense.type.thing.kind y.sense) + 1)
compared_done x y z slot next left right lt rt tl tr b d same ahead e g l r bs ds is js =
    let r' : tr ≡ y.sense.type = r ∙ ap (λ (q : Sense). q.type) same in
    let b' : b ≡ is_null_beside y.sense.type.thing.kind x.sense.type.thing.kind =
    bs ∙ ap (λ (t : ExpressionType). is_null_beside t.thing.kind tl.thing.kind) r' ∙ ap (λ (t : ExpressionType). is_null_beside y.sense.type.thing.kind t.thing.kind) l in
    let d' : d ≡ is_null_beside x.sense.type.thing.kind y.sense.type.thing.kind =
    ds ∙ ap (λ (t : ExpressionType). is_null_beside tl.thing.kind t.thing.kind) r' ∙ ap (λ (t : ExpressionType). is_null_beside t.thing.kind y.sense.type.thing.kind) l in
    let g' : right ≡ (slot + 1) + height y.sense.term = g ∙ ap (λ (n : ℕ). n + height z.sense.term) ahead ∙ ap (λ (q : Sense). (slot + 1) + height q.term) same in
    let is' : lt ≡ null_or_top (is_null_beside y.sense.type.thing.kind x.sense.type.thing.kind) slot left = is ∙ ap (λ (c : Bool). null_or_top c slot left) b' in
    let js' : rt ≡ null_or_top (is_null_beside x.sense.type.thing.kind y.sense.type.thing.kind) (slot + 1) right =
    js ∙ ap (λ (c : Bool). null_or_top c next right) d' ∙ ap (λ (n : ℕ). null_or_top (is_null_beside x.sense.type.thing.kind y.sense.type.thing.kind) n right) ahead in
    ap (λ (n : ℕ). max n rt) is' ∙ ap (λ (n : ℕ). max (null_or_top (is_null_beside y.sense.type.thing.kind x.sense.type.thing.kind) slot left) n) js'
    ∙ compared_top x.sense y.sense slot left right e g'
