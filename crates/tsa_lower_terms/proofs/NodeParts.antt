-- What a node gives of the parts behind it, by its head, and how many parts a row has.
use Rattle.std.proofs.Common.{◌≡◌, ◌∙◌, ℕ, zero, suc, ◌+◌, ◌-◌, ◌≤◌, ◌<◌, true, false, List, [], ◌∷◌, length, drop, Option, Some, None, refl, sym, ap, subst, arith, add-one, slice_get, IfNone}
use Rattle.std.proofs.lemmas.List.{length-drop, drop_all}
use Rattle.tsa_base.specs.declared.token.Span.{Span}
use Rattle.tsa_tree.specs.declared.expr.UnaryOp.TheVariants as prefix
use Rattle.tsa_tree.specs.declared.kind.ExpressionType.{ExpressionType}
use Rattle.tsa_tree.specs.declared.kind.Kind.TheVariants as type
use Rattle.tsa_tree.specs.declared.kind.Kind.{Kind}
use Rattle.tsa_tree.specs.declared.kind.ThingType.{ThingType}
use Rattle.tsa_tree.specs.declared.meaning.Symbol.TheVariants as symbol
use Rattle.tsa_tree.specs.declared.number.Number.{Number}
use Rattle.tsa_tree.specs.types.Scopes.{FunctionEntry}
use Rattle.tsa_types_row.specs.declared.node.Node.{Node}
use Rattle.tsa_types_row.specs.declared.node.Op.{Op}
use Rattle.tsa_types_row.specs.declared.node.Op.TheVariants as op
use Rattle.tsa_core_rows.specs.Reading.{Part, Reading, part_at, behind_parts, read_node}
use Rattle.tsa_lower_terms.specs.Heads.{head_term, head_call, taken, op_head, op_type, node_type, passed}
use Rattle.tsa_lower_terms.specs.Sources.{Source, Stands, params_by, parts_in, parts_at}
use Rattle.tsa_lower_terms.specs.declared.find.Spot.{Spot}
use Rattle.tsa_lower_terms.specs.declared.head.Head.{Head}

-- parts behind parts
behind_none : (n : ℕ) → behind_parts n [] ≡ []
behind_none zero = refl
behind_none (suc n) = refl

pub behind_behind : (n m : ℕ) (ps : List Part) → behind_parts n (behind_parts m ps) ≡ behind_parts (n + m) ps
behind_behind n zero ps = let e : n ≡ n + 0 = omega arith in ap (λ (k : ℕ). behind_parts k ps) e
behind_behind n (suc m) [] = behind_none n ∙ sym (behind_none (n + suc m))
behind_behind n (suc m) (p ∷ ps) = let e : suc (n + m) ≡ n + suc m = omega arith in behind_behind n m ps ∙ ap (λ (k : ℕ). behind_parts k (p ∷ ps)) e

pub behind_all : (n : ℕ) (ps : List Part) → length ps ≤ n → behind_parts n ps ≡ []
behind_all zero [] h = refl
behind_all zero (p ∷ ps) h = absurd (omega (arith, h))
behind_all (suc n) [] h = refl
behind_all (suc n) (p ∷ ps) h = behind_all n ps (omega (arith, h))

behind_short : (n : ℕ) (ps : List Part) → length (behind_parts n ps) ≤ length ps
behind_short zero ps = omega arith
behind_short (suc n) [] = omega arith
behind_short (suc n) (p ∷ ps) = omega (arith, behind_short n ps)

one_more : (ps : List Part) → length ps ≤ suc (length (behind_parts 1 ps))
one_more [] = omega arith
one_more (p ∷ ps) = omega arith

-- the second part is the first one behind one
pub second_part : (ps qs : List Part) → qs ≡ behind_parts 1 ps → part_at 0 qs ≡ part_at 1 ps
second_part [] qs e = ap (part_at 0) e
second_part (p ∷ ps) qs e = ap (part_at 0) e

-- what a node gives with a head, and what it passes with none
pub record IsGiven (params : ℕ → List ThingType) (h : Head) (t : ExpressionType) (ps qs : List Part) : Type 0 where
  pub here : ps ≡ part_at 0 ps ∷ behind_parts 1 ps
  pub term : (part_at 0 ps).sense.term ≡ head_term h qs
  pub thing : (part_at 0 ps).sense.type ≡ t
  pub call : (part_at 0 ps).call ≡ head_call params h qs
  pub rest : behind_parts 1 ps ≡ behind_parts (taken h) qs

abbrev pub Told : (ℕ → List ThingType) → Option Head → Op → ExpressionType → List Part → List Part → Type 0
Told params (Some h) o t ps qs = IsGiven params h t ps qs
Told params None o t ps qs = ps ≡ behind_parts (passed o) qs

module _ (params : ℕ → List ThingType) (result : Kind) where
  told : (o : Op) (thing : ExpressionType) (worth : Option Number) (size : ℕ) (span : Span) (r : Reading)
      → Told params (op_head o worth) o (op_type o thing) (read_node params result (record { op = o; thing = thing; worth = worth; size = size; span = span }) r).parts r.parts
  told op.Number thing None size span r = record { here = refl; term = refl; thing = refl; call = refl; rest = refl }
  told op.Number thing (Some n) size span r = record { here = refl; term = refl; thing = refl; call = refl; rest = refl }
  told op.Null thing worth size span r = record { here = refl; term = refl; thing = refl; call = refl; rest = refl }
  told (op.Name None is_fixed) thing worth size span r = record { here = refl; term = refl; thing = refl; call = refl; rest = refl }
  told (op.Name (Some (symbol.Global n)) is_fixed) thing worth size span r = record { here = refl; term = refl; thing = refl; call = refl; rest = refl }
  told (op.Name (Some (symbol.Local f n)) is_fixed) thing worth size span r = record { here = refl; term = refl; thing = refl; call = refl; rest = refl }
  told (op.Name (Some (symbol.Function n)) is_fixed) thing worth size span r = record { here = refl; term = refl; thing = refl; call = refl; rest = refl }
  told (op.Name (Some (symbol.Constant z)) is_fixed) thing worth size span r = record { here = refl; term = refl; thing = refl; call = refl; rest = refl }
  told (op.Callee s) thing worth size span r = refl
  told (op.Call function args) thing worth size span r = record { here = refl; term = refl; thing = refl; call = refl; rest = refl }
  told (op.Unary prefix.Minus) thing worth size span r = record { here = refl; term = refl; thing = refl; call = refl; rest = refl }
  told (op.Unary prefix.Not) thing worth size span r = record { here = refl; term = refl; thing = refl; call = refl; rest = refl }
  told (op.Unary prefix.Flip) thing worth size span r = record { here = refl; term = refl; thing = refl; call = refl; rest = refl }
  told (op.Unary prefix.Address) thing worth size span r = record { here = refl; term = refl; thing = refl; call = refl; rest = refl }
  told (op.Unary prefix.Follow) thing worth size span r = record { here = refl; term = refl; thing = refl; call = refl; rest = refl }
  told (op.Binary o) thing worth size span r = record { here = refl; term = refl; thing = refl; call = refl; rest = refl }
  told (op.Field arrow number is_fixed) thing worth size span r = record { here = refl; term = refl; thing = refl; call = refl; rest = refl }
  told op.Index thing worth size span r = record { here = refl; term = refl; thing = refl; call = refl; rest = refl }
  told (op.Declared s) thing worth size span r = refl
  told op.Aside thing worth size span r = refl
  told (op.Declare n true) thing worth size span r = refl
  told (op.Declare n false) thing worth size span r = refl
  told op.Evaluate thing worth size span r = refl
  told (op.Set o) thing worth size span r = refl
  told (op.Test true) thing worth size span r = refl
  told (op.Test false) thing worth size span r = refl
  told op.Branch thing worth size span r = refl
  told op.Move thing worth size span r = refl
  told (op.Give true) thing worth size span r = refl
  told (op.Give false) thing worth size span r = refl
  told op.End thing worth size span r = refl

-- a node in front of a row
pub node_told : (fs : List FunctionEntry) (node : Node) (rest : List Node)
    → Told (params_by fs) (op_head node.op node.worth) node.op (node_type node) (parts_in fs (node ∷ rest)) (parts_in fs rest)
node_told fs node rest = told (params_by fs) type.Void node.op node.thing node.worth node.size node.span _

-- a row has no more parts than nodes
told_short : (params : ℕ → List ThingType) (h : Option Head) (o : Op) (t : ExpressionType) (ps qs : List Part) → Told params h o t ps qs → length ps ≤ suc (length qs)
told_short params (Some h) o t ps qs is = omega (arith, one_more ps, ap length is.rest, behind_short (taken h) qs)
told_short params None o t ps qs is = omega (arith, ap length is, behind_short (passed o) qs)

pub parts_short : (fs : List FunctionEntry) (row : List Node) → length (parts_in fs row) ≤ length row
parts_short fs [] = omega arith
parts_short fs (node ∷ rest) = omega (arith, parts_short fs rest, told_short (params_by fs) (op_head node.op node.worth) node.op (node_type node) (parts_in fs (node ∷ rest)) (parts_in fs rest) (node_told fs node rest))

-- the parts from a node on
drop_node : (row : List Node) (n : ℕ) (node : Node) → slice_get row n ≡ Some node → drop n row ≡ node ∷ drop (suc n) row
drop_node [] n node e = cc
drop_node (x ∷ row) zero node e = let f : x ≡ node = cc in ap (λ y. y ∷ row) f
drop_node (x ∷ row) (suc n) node e = drop_node row n node e

pub told_at : (s : Source) (n : ℕ) (node : Node) → slice_get s.row n ≡ Some node
    → Told (params_by s.functions) (op_head node.op node.worth) node.op (node_type node) (parts_at s n) (parts_at s (n + 1))
told_at s n node e =
    subst (λ (xs : List Node). Told (params_by s.functions) (op_head node.op node.worth) node.op (node_type node) (parts_in s.functions xs) (parts_at s (n + 1))) (sym (drop_node s.row n node e))
    (subst (λ (m : ℕ). Told (params_by s.functions) (op_head node.op node.worth) node.op (node_type node) (parts_in s.functions (node ∷ drop (suc n) s.row)) (parts_at s m)) (sym (add-one n))
    (node_told s.functions node (drop (suc n) s.row)))

-- past the end of a row there are none
pub no_parts : (s : Source) (n : ℕ) → length s.row ≤ n → parts_at s n ≡ []
no_parts s n h = ap (parts_in s.functions) (drop_all n s.row h)

pub few_parts : (s : Source) (n m : ℕ) → length s.row ≤ m → behind_parts m (parts_at s n) ≡ []
few_parts s n m h = behind_all m (parts_at s n) (omega (arith, h, parts_short s.functions (drop n s.row), length-drop n s.row))

-- What a node says of what is still passed: with no part left it stands there, and else fewer are left behind it.
pub stands_here : (s : Source) (n : ℕ) (node : Node) (h : Head) → slice_get s.row n ≡ Some node → op_head node.op node.worth ≡ Some h
    → IsGiven (params_by s.functions) h (node_type node) (parts_at s n) (parts_at s (n + 1))
stands_here s n node h e is =
    subst (λ (o : Option Head). Told (params_by s.functions) o node.op (node_type node) (parts_at s n) (parts_at s (n + 1))) is (told_at s n node e)

pub passes_here : (s : Source) (n : ℕ) (node : Node) → slice_get s.row n ≡ Some node → op_head node.op node.worth ≡ None
    → parts_at s n ≡ behind_parts (passed node.op) (parts_at s (n + 1))
passes_here s n node e is =
    subst (λ (o : Option Head). Told (params_by s.functions) o node.op (node_type node) (parts_at s n) (parts_at s (n + 1))) is (told_at s n node e)

pub left_behind_part : (s : Source) (n left : ℕ) (node : Node) (h : Head) → slice_get s.row n ≡ Some node → op_head node.op node.worth ≡ Some h → 1 ≤ left
    → behind_parts left (parts_at s n) ≡ behind_parts ((left - 1) + taken h) (parts_at s (n + 1))
left_behind_part s n left node h e is some =
    let one : left ≡ (left - 1) + 1 = omega arith in
    ap (λ (m : ℕ). behind_parts m (parts_at s n)) one
    ∙ sym (behind_behind (left - 1) 1 (parts_at s n))
    ∙ ap (behind_parts (left - 1)) (stands_here s n node h e is).rest
    ∙ behind_behind (left - 1) (taken h) (parts_at s (n + 1))

pub left_behind_none : (s : Source) (n left : ℕ) (node : Node) → slice_get s.row n ≡ Some node → op_head node.op node.worth ≡ None
    → behind_parts left (parts_at s n) ≡ behind_parts (left + passed node.op) (parts_at s (n + 1))
left_behind_none s n left node e is =
    ap (behind_parts left) (passes_here s n node e is)
    ∙ behind_behind left (passed node.op) (parts_at s (n + 1))

-- a spot stands where a node with a head is
pub spot_stands : (s : Source) (n m : ℕ) (node : Node) (h : Head) (t : ExpressionType) → n < length s.row → slice_get s.row n ≡ Some node
    → op_head node.op node.worth ≡ Some h → t ≡ node_type node → m ≡ n + 1
    → Stands s (record { at = n; behind = m; head = h; thing = t })
spot_stands s n m node h t inside e is type next =
    let g = stands_here s n node h e is in
    record {
      inside = inside;
      behind = next;
      there = g.here;
      term = g.term ∙ ap (λ (k : ℕ). head_term h (parts_at s k)) (sym next);
      thing = g.thing ∙ sym type;
      call = g.call ∙ ap (λ (k : ℕ). head_call (params_by s.functions) h (parts_at s k)) (sym next);
      rest = g.rest ∙ ap (λ (k : ℕ). behind_parts (taken h) (parts_at s k)) (sym next);
    }

-- past the end there is nothing, and nor is there behind so many parts
pub none_at_end : (s : Source) (n left : ℕ) (ps : List Part) → length s.row ≤ n → behind_parts left (parts_at s n) ≡ ps → ps ≡ []
none_at_end s n left ps h e = sym e ∙ ap (behind_parts left) (no_parts s n h) ∙ behind_none left

pub none_so_far : (s : Source) (n left : ℕ) (ps : List Part) → length s.row ≤ left → behind_parts left (parts_at s n) ≡ ps → ps ≡ []
none_so_far s n left ps h e = sym e ∙ few_parts s n left h

pub if_none : (o : Option Spot) (P : Type 0) → P → IfNone o P
if_none None P p = p
if_none (Some x) P p = tt
