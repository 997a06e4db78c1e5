-- What a walk along the row of a typed unit finds is what the core program says of its bodies.
use Rattle.std.proofs.Common.{◌≡◌, ◌∙◌, ℕ, ◌+◌, ◌-◌, pos, Bool, true, List, [], ◌∷◌, ◌++◌, map, take, drop, length, replicate, None, false, if◌then◌else◌, refl, sym, ap, ap₂}
use Rattle.std.proofs.Common.{arith, append_assoc, subst}
use Rattle.std.proofs.lemmas.List.{length-append, append-nil, map-append}
use Rattle.std.proofs.Math.Seq.{drop-append_seam, take-append_seam}
use Rattle.tsa_base.specs.declared.token.Span.{Span}
use Rattle.tsa_tree.specs.declarations.Syntax.{Head}
use Rattle.tsa_tree.specs.declared.kind.Kind.{Kind}
use Rattle.tsa_tree.specs.statements.Syntax.{Statements}
use Rattle.tsa_tree.specs.types.DeclaredTypes.{thing_type}
use Rattle.tsa_tree.specs.types.Heads.{inside}
use Rattle.tsa_tree.specs.types.Premises.{first}
use Rattle.tsa_tree.specs.types.Scopes.{Scope}
use Rattle.tsa_tree.specs.types.Symbols.{number_of}
use Rattle.tsa_tree.specs.types.Units as unit
use Rattle.tsa_tree.specs.types.Units.{item_premises, behind_item, items_premises}
use Rattle.tsa_tree.specs.units.Syntax.{UnitItem, structure_item, alias_item, enumeration_item, global_item, function_item, body_item}
use Rattle.tsa_types_row.specs.BodyRows.{alone_row, aside_given, row_in_statements, row_in_body}
use Rattle.tsa_types_row.specs.ItemRows.{row_in_members, row_in_enumerators, row_in_global, row_in_head, row_in_unit_items, row_in_unit}
use Rattle.tsa_types_row.specs.declared.node.Node.{Node}
use Rattle.tsa_types_row.specs.declared.node.Op.TheVariants as op
use Rattle.tsa_core.proofs.NoFailure.{none_of_both}
use Rattle.tsa_core.specs.Programs.{body_in}
use Rattle.tsa_core_rows.specs.Reading.{kinds_read, stable_read}
use Rattle.tsa_core_rows.specs.Stretches.{is_point, UnitBody, bodies_in}
use Rattle.tsa_core_rows.proofs.BodyLocals.{locals_are_read}
use Rattle.tsa_core_rows.proofs.BodyNodes.{begins, inner_statements}
use Rattle.tsa_core_rows.proofs.BodyStable.{stable_locals_are_read}
use Rattle.tsa_core_rows.proofs.PlainRows.{IsPlain, plain_aside_given, plain_members, plain_enumerators, plain_global, head_rest, plain_head}
use Rattle.tsa_core_rows.proofs.StretchesRead.{head_row, body_row, body_begins}
use Rattle.tsa_core_program.proofs.BodyWalk.{with_kinds, after_one, plain_walk, at_begin, begin_at, fresh, finish, body_walk}
use Rattle.tsa_core_program.specs.Laws.{BodiesAreFound}
use Rattle.tsa_core_program.specs.Programs.{between, op_points, points_from, found_in, found_of}
use Rattle.tsa_core_program.specs.Walks.{counts_in, Walked, outset, count_at, walk_behind, Lists, lists_of, lists_in}
use Rattle.tsa_core_program.specs.declared.ranges.BodyRange.{BodyRange}
use Rattle.tsa_core_program.specs.declared.ranges.Range.{Range}

-- What stands in the range of a part of a list.
part_at : {A : Type 0} (all pre xs ys : List A) (range : Range) → all ≡ pre ++ (xs ++ ys) → range.from ≡ length pre → range.to ≡ length pre + length xs
    → between all range ≡ xs
part_at all pre xs ys range is begins ends =
    let e : range.to - range.from ≡ length xs = omega (arith, begins, ends) in
    ap₂ (λ n d. take n (drop d all)) e begins
    ∙ ap (λ row. take (length xs) (drop (length pre) row)) is
    ∙ ap (take (length xs)) (drop-append_seam pre (xs ++ ys)) ∙ take-append_seam xs ys

-- the numbers of points, counted from another node
counted : (at k n : ℕ) → n ≡ at + k → n - at ≡ k
counted at k n e = omega (arith, e)

op_less : (is_one : Bool) (at k n : ℕ) → n ≡ at + k → map (λ m. m - at) (if is_one then n ∷ [] else []) ≡ (if is_one then k ∷ [] else [])
op_less true at k n e = ap (λ m. m ∷ []) (counted at k n e)
op_less false at k n e = refl

points_less : (row : List Node) (at k n : ℕ) → n ≡ at + k → map (λ m. m - at) (points_from n row) ≡ points_from k row
points_less [] at k n e = refl
points_less (node ∷ rest) at k n e =
    let next : n + 1 ≡ at + (k + 1) = omega (arith, e) in
    map-append (λ m. m - at) (op_points n node.op) (points_from (n + 1) rest)
    ∙ ap₂ (λ xs ys. xs ++ ys) (op_less (is_point node.op) at k n e) (points_less rest at (k + 1) (n + 1) next)

-- the parameters of a body are counted where the bodies before it are
count_there : (done : List ℕ) (p : ℕ) (rest : List ℕ) → count_at (done ++ (p ∷ rest)) (length done) ≡ p
count_there [] p rest = refl
count_there (d ∷ done) p rest = count_there done p rest

-- A body, by its lists.
abbrev flags_of : Walked → List Node → List Bool
flags_of w zs = stable_read (replicate (count_at w.counts (length w.bodies)) true) zs

abbrev range_of : ℕ → ℕ → Walked → List Node → BodyRange
range_of f at w zs = record {
  function = f;
  nodes = record { from = at; to = at + length zs };
  kinds = record { from = length w.kinds; to = length (w.kinds ++ kinds_read zs) };
  stable = record { from = length w.stable; to = length w.stable + length (flags_of w zs) };
  points = record { from = length w.points; to = length (w.points ++ points_from at zs) };
}

abbrev written : Scope → Head → Statements → Span → UnitBody
written here head body close = record { bodied = record { here = inside here head true; head = head; body = body }; function = number_of here head; close = close }

found_one : (here : Scope) (head : Head) (body : Statements) (close : Span) (row before after : List Node) (at : ℕ) (w : Walked) (final : Lists) (ks : List Kind) (ss : List Bool) (ps : List ℕ)
    → row ≡ before ++ (body_row here head body close ++ after) → at ≡ length before
    → final.kinds ≡ w.kinds ++ (kinds_read (body_row here head body close) ++ ks)
    → final.stable ≡ w.stable ++ (flags_of w (body_row here head body close) ++ ss)
    → final.points ≡ w.points ++ (points_from at (body_row here head body close) ++ ps)
    → count_at w.counts (length w.bodies) ≡ length head.params
    → found_in row final (range_of (number_of here head) at w (body_row here head body close)) ≡ found_of (written here head body close)
found_one here head body close row before after at w final ks ss ps is begins kinds stable points count =
    let f = number_of here head in
    let there = inside here head true in
    let kind = (thing_type there head.result).kind in
    let zs = body_row here head body close in
    let range = range_of f at w zs in
    let b = written here head body close in
    let none : at ≡ at + 0 = omega arith in
    ap (λ nodes. record {
      function = f;
      nodes = nodes;
      kinds = between final.kinds range.kinds;
      stable = between final.stable range.stable;
      points = map (λ n. n - at) (between final.points range.points);
    }) (part_at row before zs after range.nodes is begins (ap (λ n. n + length zs) begins))
    ∙ ap₂ (λ kinds stable. record { function = f; nodes = zs; kinds = kinds; stable = stable; points = map (λ n. n - at) (between final.points range.points) })
    (part_at final.kinds w.kinds (kinds_read zs) ks range.kinds kinds refl (length-append w.kinds (kinds_read zs)) ∙ locals_are_read there f kind body close)
    (part_at final.stable w.stable (flags_of w zs) ss range.stable stable refl refl
    ∙ ap (λ n. stable_read (replicate n true) zs) count ∙ stable_locals_are_read there f kind body close)
    ∙ ap (λ points. record { function = f; nodes = zs; kinds = (body_in b.bodied).locals; stable = (body_in b.bodied).stable; points = points })
    (ap (map (λ n. n - at)) (part_at final.points w.points (points_from at zs) ps range.points points refl (length-append w.points (points_from at zs)))
    ∙ points_less zs at 0 at none)

-- Lists that grew by what is said of bodies.
record Grown (row : List Node) (from final : Lists) (bodies : List UnitBody) : Type 0 where
  kinds : List Kind
  stable : List Bool
  points : List ℕ
  ranges : List BodyRange
  kinds_is : final.kinds ≡ from.kinds ++ kinds
  stable_is : final.stable ≡ from.stable ++ stable
  points_is : final.points ≡ from.points ++ points
  ranges_is : final.bodies ≡ from.bodies ++ ranges
  found : map (found_in row final) ranges ≡ map found_of bodies

none_grown : (row : List Node) (l : Lists) → Grown row l l []
none_grown row l = record {
  kinds = [];
  stable = [];
  points = [];
  ranges = [];
  kinds_is = sym (append-nil l.kinds);
  stable_is = sym (append-nil l.stable);
  points_is = sym (append-nil l.points);
  ranges_is = sym (append-nil l.bodies);
  found = refl;
}

-- A head names the function whose body may follow.
abbrev with_function : ℕ → Walked → Walked
with_function n w = record {
  counts = w.counts;
  function = n;
  begin = w.begin;
  flags = w.flags;
  bodies = w.bodies;
  kinds = w.kinds;
  stable = w.stable;
  points = w.points;
}

head_walk : (here : Scope) (n : ℕ) (head : Head) (with_body : Bool) (ys : List Node) (at : ℕ) (w : Walked)
    → walk_behind at (at_begin None w) (row_in_head here n head with_body ++ ys)
    ≡ walk_behind (at + length (row_in_head here n head with_body)) (at_begin None (with_function n w)) ys
unfolding row_in_head
head_walk here n head with_body ys at w =
    let rest = head_rest here n head with_body in
    let v = at_begin None (with_function n w) in
    ap (λ kinds. walk_behind (at + 1) (with_kinds v kinds) (rest ++ ys)) (append-nil w.kinds)
    ∙ plain_walk rest ys (at + 1) v (plain_head here n head with_body)
    ∙ ap (λ m. walk_behind m v ys) (after_one at (length rest))

whole_walk : (here : Scope) (f : ℕ) (body : Statements) (close : Span) (ys : List Node) (at : ℕ) (w : Walked) → begins (row_in_statements here f body) ≡ true
    → walk_behind at (at_begin None w) (row_in_body here f body close ++ ys)
    ≡ walk_behind (at + length (row_in_body here f body close)) (finish at (begin_at at w) (fresh w) (row_in_body here f body close)) ys
unfolding row_in_body
whole_walk here f body close ys at w g =
    let xs = row_in_statements here f body in
    ap (walk_behind at (at_begin None w)) (append_assoc xs (alone_row op.End close) ys) ∙ body_walk xs close ys at w (inner_statements f here body) g

sum_of : (pre xs zs : List Node) → length pre + length xs + length zs ≡ length (pre ++ (xs ++ zs))
sum_of pre xs zs = by (length (pre ++ (xs ++ zs))) (length (xs ++ zs)) (length-append pre (xs ++ zs)) (length-append xs zs)
  where
    by : (n m : ℕ) → n ≡ length pre + m → m ≡ length xs + length zs → length pre + length xs + length zs ≡ n
    by n m e g = omega (arith, e, g)

-- items, one behind the other
plain_item : (row pre xs ys : List Node) (w : Walked) (bodies : List UnitBody) → IsPlain xs
    → Grown row (lists_of w) (lists_of (walk_behind (length (pre ++ xs)) (at_begin None w) ys)) bodies
    → Grown row (lists_of w) (lists_of (walk_behind (length pre) (at_begin None w) (xs ++ ys))) bodies
plain_item row pre xs ys w bodies e g =
    subst (λ v. Grown row (lists_of w) (lists_of v) bodies)
    (ap (λ n. walk_behind n (at_begin None w) ys) (length-append pre xs) ∙ sym (plain_walk xs ys (length pre) (at_begin None w) e)) g

body_grown : (here : Scope) (head : Head) (body : Statements) (close : Span) (row pre ys : List Node) (w : Walked) (final : Lists) (bodies : List UnitBody)
    → row ≡ pre ++ ((head_row here head true ++ body_row here head body close) ++ ys)
    → count_at w.counts (length w.bodies) ≡ length head.params
    → Grown row (lists_of (finish (length pre + length (head_row here head true))
    (begin_at (length pre + length (head_row here head true)) (with_function (number_of here head) w))
    (fresh (with_function (number_of here head) w)) (body_row here head body close))) final bodies
    → Grown row (lists_of w) final (written here head body close ∷ bodies)
body_grown here head body close row pre ys w final bodies is count g =
    let xs = head_row here head true in
    let zs = body_row here head body close in
    let at = length pre + length xs in
    let range = range_of (number_of here head) at w zs in
    let kinds_is = g.kinds_is ∙ append_assoc w.kinds (kinds_read zs) g.kinds in
    let stable_is = g.stable_is ∙ append_assoc w.stable (flags_of w zs) g.stable in
    let points_is = g.points_is ∙ append_assoc w.points (points_from at zs) g.points in
    record {
      kinds = kinds_read zs ++ g.kinds;
      stable = flags_of w zs ++ g.stable;
      points = points_from at zs ++ g.points;
      ranges = range ∷ g.ranges;
      kinds_is = kinds_is;
      stable_is = stable_is;
      points_is = points_is;
      ranges_is = g.ranges_is ∙ append_assoc w.bodies (range ∷ []) g.ranges;
      found = ap₂ (λ x rest. x ∷ rest)
          (found_one here head body close row (pre ++ xs) ys at w final g.kinds g.stable g.points
          (is ∙ ap (λ r. pre ++ r) (append_assoc xs zs ys) ∙ sym (append_assoc pre xs (zs ++ ys))) (sym (length-append pre xs))
          kinds_is stable_is points_is count)
          g.found;
    }

items_found : (row pre : List Node) (here : Scope) (items : List UnitItem) (w : Walked) (done : List ℕ) → row ≡ pre ++ row_in_unit_items here items
    → first (items_premises here items) ≡ None → w.counts ≡ done ++ counts_in items → length done ≡ length w.bodies
    → Grown row (lists_of w) (lists_of (walk_behind (length pre) (at_begin None w) (row_in_unit_items here items))) (bodies_in here items)
unfolding row_in_unit_items items_premises bodies_in
items_found row pre here [] w done is h counts same = none_grown row (lists_of w)
items_found row pre here (body_item head body close ∷ rest) w done is h counts same =
    let n = number_of here head in
    let told = none_of_both (item_premises here (body_item head body close)) (items_premises (behind_item here (body_item head body close)) rest) h in
    let there = behind_item here (body_item head body close) in
    let ys = row_in_unit_items there rest in
    let xs = head_row here head true in
    let zs = body_row here head body close in
    let at = length pre + length xs in
    let one = with_function n w in
    let ended = finish at (begin_at at one) (fresh one) zs in
    let walked = ap (walk_behind (length pre) (at_begin None w)) (append_assoc xs zs ys)
    ∙ head_walk here n head true (zs ++ ys) (length pre) w
    ∙ whole_walk (inside here head true) n body close ys at one (body_begins here head body close told.0)
    ∙ ap (λ m. walk_behind m ended ys) (sum_of pre xs zs) in
    subst (λ v. Grown row (lists_of w) (lists_of v) (written here head body close ∷ bodies_in there rest)) (sym walked)
    (body_grown here head body close row pre ys w (lists_of (walk_behind (length (pre ++ (xs ++ zs))) ended ys)) (bodies_in there rest) is
    (ap₂ (λ counts n. count_at counts n) counts (sym same) ∙ count_there done (length head.params) (counts_in rest))
    (items_found row (pre ++ (xs ++ zs)) there rest ended (done ++ length head.params ∷ []) (is ∙ sym (append_assoc pre (xs ++ zs) ys)) told.1
    (counts ∙ sym (append_assoc done (length head.params ∷ []) (counts_in rest)))
    (length-append done (length head.params ∷ []) ∙ ap (λ k. k + 1) same ∙ sym (length-append w.bodies (range_of n at w zs ∷ [])))))
items_found row pre here (function_item head ∷ rest) w done is h counts same =
    let n = number_of here head in
    let told = none_of_both (item_premises here (function_item head)) (items_premises (behind_item here (function_item head)) rest) h in
    let there = behind_item here (function_item head) in
    let xs = head_row here head false in
    let ys = row_in_unit_items there rest in
    subst (λ v. Grown row (lists_of w) (lists_of v) (bodies_in there rest))
    (ap (λ m. walk_behind m (at_begin None (with_function n w)) ys) (length-append pre xs) ∙ sym (head_walk here n head false ys (length pre) w))
    (items_found row (pre ++ xs) there rest (with_function n w) done (is ∙ sym (append_assoc pre xs ys)) told.1 counts same)
items_found row pre here (structure_item tag alias attrs members span ∷ rest) w done is h counts same =
    let told = none_of_both (item_premises here (structure_item tag alias attrs members span)) (items_premises (behind_item here (structure_item tag alias attrs members span)) rest) h in
    let there = behind_item here (structure_item tag alias attrs members span) in
    let xs = row_in_members here [] members in
    let ys = row_in_unit_items there rest in
    plain_item row pre xs ys w (bodies_in there rest) (plain_members here [] members) (items_found row (pre ++ xs) there rest w done (is ∙ sym (append_assoc pre xs ys)) told.1 counts same)
items_found row pre here (alias_item name ctype span ∷ rest) w done is h counts same =
    let told = none_of_both (item_premises here (alias_item name ctype span)) (items_premises (behind_item here (alias_item name ctype span)) rest) h in
    let there = behind_item here (alias_item name ctype span) in
    let xs = aside_given here 0 ctype.length in
    let ys = row_in_unit_items there rest in
    plain_item row pre xs ys w (bodies_in there rest) (plain_aside_given here 0 ctype.length) (items_found row (pre ++ xs) there rest w done (is ∙ sym (append_assoc pre xs ys)) told.1 counts same)
items_found row pre here (enumeration_item tag alias values span ∷ rest) w done is h counts same =
    let told = none_of_both (item_premises here (enumeration_item tag alias values span)) (items_premises (behind_item here (enumeration_item tag alias values span)) rest) h in
    let there = behind_item here (enumeration_item tag alias values span) in
    let xs = row_in_enumerators here (pos 0) values in
    let ys = row_in_unit_items there rest in
    plain_item row pre xs ys w (bodies_in there rest) (plain_enumerators here (pos 0) values) (items_found row (pre ++ xs) there rest w done (is ∙ sym (append_assoc pre xs ys)) told.1 counts same)
items_found row pre here (global_item d ∷ rest) w done is h counts same =
    let told = none_of_both (item_premises here (global_item d)) (items_premises (behind_item here (global_item d)) rest) h in
    let there = behind_item here (global_item d) in
    let xs = row_in_global here d in
    let ys = row_in_unit_items there rest in
    plain_item row pre xs ys w (bodies_in there rest) (plain_global here d) (items_found row (pre ++ xs) there rest w done (is ∙ sym (append_assoc pre xs ys)) told.1 counts same)

pub bodies_are_found : BodiesAreFound
bodies_are_found items h =
    let row = row_in_unit items in
    let g = items_found row [] (unit.outset items) items (outset (counts_in items)) [] refl h refl refl in
    ap (map (found_in row (lists_in items))) g.ranges_is ∙ g.found
