-- A walk over the nodes of one body, and over those between bodies.
use Rattle.std.proofs.Common.{◌≡◌, ◌∙◌, ℕ, ◌+◌, suc, Bool, true, List, [], ◌∷◌, ◌++◌, length, replicate, Option, Some, None, refl, sym, ap, ap₂}
use Rattle.std.proofs.Common.{arith, append_assoc}
use Rattle.std.proofs.lemmas.List.{append-nil}
use Rattle.tsa_base.specs.declared.token.Span.{Span}
use Rattle.tsa_base.proofs.Truths.{never}
use Rattle.tsa_tree.specs.declared.kind.Kind.{Kind}
use Rattle.tsa_tree.specs.declared.meaning.Symbol.TheVariants as symbol
use Rattle.tsa_types_row.specs.BodyRows.{alone_row}
use Rattle.tsa_types_row.specs.declared.node.Node.{Node}
use Rattle.tsa_types_row.specs.declared.node.Op.{Op}
use Rattle.tsa_types_row.specs.declared.node.Op.TheVariants as op
use Rattle.tsa_core_rows.specs.Reading.{op_kinds, kinds_read, stable_at, stable_read}
use Rattle.tsa_core_rows.specs.Stretches.{is_point}
use Rattle.tsa_core_rows.proofs.PlainRows.{is_inner, is_plain, every, IsPlain}
use Rattle.tsa_core_rows.proofs.BodyNodes.{both_true, IsInner, begins}
use Rattle.tsa_core_program.specs.Programs.{op_points, points_from}
use Rattle.tsa_core_program.specs.Walks.{Walked, count_at, headed, pointed, declared, flagged, ended, front, walk_behind}
use Rattle.tsa_core_program.specs.declared.ranges.Begin.{Begin}

-- a node by what it is and the kind of its type
abbrev walk_op : ℕ → Op → Kind → List Node → Walked → Walked
walk_op at o kind next w = ended o at (flagged o next (declared o kind (pointed (is_point o) at (headed o w))))

-- Between bodies.
abbrev pub with_kinds : Walked → List Kind → Walked
with_kinds w kinds = record {
  counts = w.counts;
  function = w.function;
  begin = w.begin;
  flags = w.flags;
  bodies = w.bodies;
  kinds = kinds;
  stable = w.stable;
  points = w.points;
}

plain_node : (at : ℕ) (o : Op) (kind : Kind) (next : List Node) (w : Walked) → is_plain o ≡ true → walk_op at o kind next w ≡ w
plain_node at (op.Declared (symbol.Function n)) kind next w e = never (sym e)
plain_node at (op.Declare n v) kind next w e = never (sym e)
plain_node at op.Evaluate kind next w e = never (sym e)
plain_node at (op.Set o) kind next w e = never (sym e)
plain_node at (op.Test g) kind next w e = never (sym e)
plain_node at op.Branch kind next w e = never (sym e)
plain_node at op.Move kind next w e = never (sym e)
plain_node at (op.Give g) kind next w e = never (sym e)
plain_node at op.End kind next w e = never (sym e)
plain_node at o kind next w e = ap (with_kinds w) (append-nil w.kinds)

pub after_one : (at : ℕ) (n : ℕ) → (at + 1) + n ≡ at + suc n
after_one at n = omega arith

pub plain_walk : (xs ys : List Node) (at : ℕ) (w : Walked) → IsPlain xs → walk_behind at w (xs ++ ys) ≡ walk_behind (at + length xs) w ys
plain_walk [] ys at w e = ap (λ n. walk_behind n w ys) (none_on at)
  where
    none_on : (n : ℕ) → n ≡ n + 0
    none_on n = omega arith
plain_walk (x ∷ xs) ys at w e =
    let told = both_true (is_plain x.op) (every is_plain xs) e in
    ap (λ v. walk_behind (at + 1) v (xs ++ ys)) (plain_node at x.op x.thing.thing.kind (front (xs ++ ys)) w told.0)
    ∙ plain_walk xs ys (at + 1) w told.1
    ∙ ap (λ n. walk_behind n w ys) (after_one at (length xs))

-- In a body that is begun.
abbrev pub at_begin : Option Begin → Walked → Walked
at_begin begin w = record {
  counts = w.counts;
  function = w.function;
  begin = begin;
  flags = w.flags;
  bodies = w.bodies;
  kinds = w.kinds;
  stable = w.stable;
  points = w.points;
}

abbrev with_points : Walked → List ℕ → Walked
with_points w points = record {
  counts = w.counts;
  function = w.function;
  begin = w.begin;
  flags = w.flags;
  bodies = w.bodies;
  kinds = w.kinds;
  stable = w.stable;
  points = points;
}

abbrev advance : ℕ → Op → Kind → List Node → Walked → Walked
advance at o kind next w = record {
  counts = w.counts;
  function = w.function;
  begin = w.begin;
  flags = stable_at w.flags o next;
  bodies = w.bodies;
  kinds = w.kinds ++ op_kinds o kind;
  stable = w.stable;
  points = w.points ++ op_points at o;
}

inner_node : (at : ℕ) (o : Op) (kind : Kind) (next : List Node) (b : Begin) (w : Walked) → is_inner o ≡ true
    → walk_op at o kind next (at_begin (Some b) w) ≡ at_begin (Some b) (advance at o kind next w)
inner_node at (op.Declared (symbol.Function n)) kind next b w e = never (sym e)
inner_node at op.End kind next b w e = never (sym e)
inner_node at (op.Declare n v) kind next b w e = refl
inner_node at op.Evaluate kind next b w e = refl
inner_node at (op.Set o) kind next b w e = refl
inner_node at (op.Test g) kind next b w e = refl
inner_node at op.Branch kind next b w e = refl
inner_node at op.Move kind next b w e = refl
inner_node at (op.Give g) kind next b w e = refl
inner_node at o kind next b w e =
    ap (λ ps. with_points (at_begin (Some b) (advance at o kind next w)) ps) (sym (append-nil w.points))

-- a body begins with a point
abbrev pub begin_at : ℕ → Walked → Begin
begin_at at w = record { node = at; kinds = length w.kinds; points = length w.points }

abbrev pub fresh : Walked → Walked
fresh w = record {
  counts = w.counts;
  function = w.function;
  begin = w.begin;
  flags = replicate (count_at w.counts (length w.bodies)) true;
  bodies = w.bodies;
  kinds = w.kinds;
  stable = w.stable;
  points = w.points;
}

begin_node : (at : ℕ) (o : Op) (kind : Kind) (next : List Node) (w : Walked) → is_inner o ≡ true → is_point o ≡ true
    → walk_op at o kind next (at_begin None w) ≡ at_begin (Some (begin_at at w)) (advance at o kind next (fresh w))
begin_node at op.End kind next w e g = never (sym e)
begin_node at (op.Declare n v) kind next w e g = refl
begin_node at op.Evaluate kind next w e g = refl
begin_node at (op.Set o) kind next w e g = refl
begin_node at (op.Test given) kind next w e g = refl
begin_node at op.Branch kind next w e g = refl
begin_node at op.Move kind next w e g = refl
begin_node at (op.Give given) kind next w e g = refl
begin_node at o kind next w e g = never (sym g)

-- A body that has ended: what its nodes say is behind what was there.
abbrev ended_with : Begin → Walked → ℕ → List Kind → List Bool → List ℕ → Walked
ended_with b w to kinds flags points = record {
  counts = w.counts;
  function = w.function;
  begin = None;
  flags = flags;
  bodies = w.bodies ++ record {
    function = w.function;
    nodes = record { from = b.node; to = to };
    kinds = record { from = b.kinds; to = length kinds };
    stable = record { from = length w.stable; to = length w.stable + length flags };
    points = record { from = b.points; to = length points };
  } ∷ [];
  kinds = kinds;
  stable = w.stable ++ flags;
  points = points;
}

abbrev pub finish : ℕ → Begin → Walked → List Node → Walked
finish at b w nodes = ended_with b w (at + length nodes) (w.kinds ++ kinds_read nodes) (stable_read w.flags nodes) (w.points ++ points_from at nodes)

-- what stands behind a node tells by its first node alone
front_tells : (flags : List Bool) (o : Op) (xs : List Node) (x : Node) (ys : List Node) → stable_at flags o (front (xs ++ (x ∷ ys))) ≡ stable_at flags o (xs ++ (x ∷ []))
front_tells flags (op.Set o) [] x ys = refl
front_tells flags (op.Set o) (y ∷ xs) x ys = refl
front_tells flags o xs x ys = refl

abbrev EndsWell : List Node → Span → List Node → Type 0
EndsWell xs close ys = (at : ℕ) (b : Begin) (w : Walked)
    → walk_behind at (at_begin (Some b) w) (xs ++ (alone_row op.End close ++ ys))
    ≡ walk_behind (at + length (xs ++ alone_row op.End close)) (finish at b w (xs ++ alone_row op.End close)) ys

one_more : (x : Node) (xs : List Node) (close : Span) (ys : List Node) → EndsWell xs close ys → (at : ℕ) (b : Begin) (w : Walked)
    → walk_behind (at + 1) (at_begin (Some b) (advance at x.op x.thing.thing.kind (front (xs ++ (alone_row op.End close ++ ys))) w)) (xs ++ (alone_row op.End close ++ ys))
    ≡ walk_behind (at + length ((x ∷ xs) ++ alone_row op.End close)) (finish at b w ((x ∷ xs) ++ alone_row op.End close)) ys
one_more x xs close ys ends at b w =
    let end = alone_row op.End close in
    let nodes = xs ++ end in
    let kind = x.thing.thing.kind in
    let there = advance at x.op kind nodes w in
    ap (λ flags. walk_behind (at + 1) (record {
      counts = w.counts;
      function = w.function;
      begin = Some b;
      flags = flags;
      bodies = w.bodies;
      kinds = w.kinds ++ op_kinds x.op kind;
      stable = w.stable;
      points = w.points ++ op_points at x.op;
    }) (xs ++ (end ++ ys))) (front_tells w.flags x.op xs _ ys)
    ∙ ends (at + 1) b there
    ∙ ap (λ to. walk_behind to (ended_with b w to ((w.kinds ++ op_kinds x.op kind) ++ kinds_read nodes) (stable_read there.flags nodes)
    ((w.points ++ op_points at x.op) ++ points_from (at + 1) nodes)) ys) (after_one at (length nodes))
    ∙ ap₂ (λ kinds points. walk_behind (at + suc (length nodes)) (ended_with b w (at + suc (length nodes)) kinds (stable_read there.flags nodes) points) ys)
    (append_assoc w.kinds (op_kinds x.op kind) (kinds_read nodes)) (append_assoc w.points (op_points at x.op) (points_from (at + 1) nodes))

inner_walk : (xs : List Node) (close : Span) (ys : List Node) → IsInner xs → EndsWell xs close ys
inner_walk [] close ys e at b w = refl
inner_walk (x ∷ xs) close ys e at b w =
    let told = both_true (is_inner x.op) (every is_inner xs) e in
    let rest = xs ++ (alone_row op.End close ++ ys) in
    ap (λ v. walk_behind (at + 1) v rest) (inner_node at x.op x.thing.thing.kind (front rest) b w told.0)
    ∙ one_more x xs close ys (inner_walk xs close ys told.1) at b w

-- a whole body
pub body_walk : (xs : List Node) (close : Span) (ys : List Node) (at : ℕ) (w : Walked) → IsInner xs → begins xs ≡ true
    → walk_behind at (at_begin None w) (xs ++ (alone_row op.End close ++ ys))
    ≡ walk_behind (at + length (xs ++ alone_row op.End close)) (finish at (begin_at at w) (fresh w) (xs ++ alone_row op.End close)) ys
body_walk [] close ys at w e g = refl
body_walk (x ∷ xs) close ys at w e g =
    let told = both_true (is_inner x.op) (every is_inner xs) e in
    let rest = xs ++ (alone_row op.End close ++ ys) in
    ap (λ v. walk_behind (at + 1) v rest) (begin_node at x.op x.thing.thing.kind (front rest) w told.0 g)
    ∙ one_more x xs close ys (inner_walk xs close ys told.1) at (begin_at at w) (fresh w)
