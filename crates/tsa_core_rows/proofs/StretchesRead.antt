-- The bodies that are read from the row of a typed unit are those of the unit.
use Rattle.std.proofs.Common.{◌≡◌, ◌∙◌, ℕ, ◌+◌, ◌-◌, suc, Bool, true, false, List, [], ◌∷◌, ◌++◌, map, take, drop, length, Option, Some, None, refl, sym, ap, ap₂}
use Rattle.std.proofs.Common.{pos, arith, append_assoc}
use Rattle.std.proofs.lemmas.List.{length-append, map-append}
use Rattle.std.proofs.Math.Seq.{drop-append_seam, take-append_seam}
use Rattle.tsa_base.specs.declared.token.Span.{Span}
use Rattle.tsa_base.proofs.Truths.{never}
use Rattle.tsa_tree.specs.declarations.Syntax.{Head}
use Rattle.tsa_tree.specs.declared.meaning.Symbol.TheVariants as symbol
use Rattle.tsa_tree.specs.statements.Syntax.{Statements}
use Rattle.tsa_tree.specs.types.Heads.{inside, head_premises}
use Rattle.tsa_tree.specs.types.Premises.{first}
use Rattle.tsa_tree.specs.types.Scopes.{Scope}
use Rattle.tsa_tree.specs.types.Statements.{statements_premises}
use Rattle.tsa_tree.specs.types.Symbols.{number_of}
use Rattle.tsa_tree.specs.types.Units.{outset, around_body, body_premises, item_premises, behind_item, items_premises}
use Rattle.tsa_tree.specs.units.Syntax.{UnitItem, structure_item, alias_item, enumeration_item, global_item, function_item, body_item}
use Rattle.tsa_types_row.specs.BodyRows.{alone_row, aside_given, row_in_statements, row_in_body}
use Rattle.tsa_types_row.specs.ItemRows.{row_in_members, row_in_enumerators, row_in_global, row_in_head, row_in_item, row_in_unit_items}
use Rattle.tsa_types_row.specs.declared.node.Node.{Node}
use Rattle.tsa_types_row.specs.declared.node.Op.{Op}
use Rattle.tsa_types_row.specs.declared.node.Op.TheVariants as op
use Rattle.tsa_core.proofs.NoFailure.{none_of_both}
use Rattle.tsa_core_rows.specs.Stretches.{is_point, Stretch, Stand, behind_node, ended_at, stretches_behind, bodies_in, body_by, row_of_body}
use Rattle.tsa_core_rows.specs.Stretches.{nodes_between, body_at}
use Rattle.tsa_core_rows.specs.Laws.{BodiesAreRead}
use Rattle.tsa_core_rows.proofs.PlainRows.{is_inner, is_plain, every, IsPlain, plain_aside_given, plain_members, plain_enumerators, plain_global, head_rest, plain_head}
use Rattle.tsa_core_rows.proofs.BodyNodes.{both_true, IsInner, inner_statements, begins, begins_statements}

abbrev pub stand : ℕ → ℕ → Option ℕ → Stand
stand at f begin = record { at = at; function = f; begin = begin }

-- a plain node goes one on, and one in a body that is begun, too
plain_step : (at f : ℕ) (begin : Option ℕ) (o : Op) → is_plain o ≡ true → (behind_node (stand at f begin) o ≡ stand (at + 1) f begin) × (ended_at (stand at f begin) o ≡ [])
plain_step at f begin (op.Declared (symbol.Function n)) e = never (sym e)
plain_step at f begin (op.Declare n v) e = never (sym e)
plain_step at f begin op.Evaluate e = never (sym e)
plain_step at f begin (op.Set o) e = never (sym e)
plain_step at f begin (op.Test g) e = never (sym e)
plain_step at f begin op.Branch e = never (sym e)
plain_step at f begin op.Move e = never (sym e)
plain_step at f begin (op.Give g) e = never (sym e)
plain_step at f begin op.End e = never (sym e)
plain_step at f begin o e = (refl, refl)

inner_step : (at f b : ℕ) (o : Op) → is_inner o ≡ true → (behind_node (stand at f (Some b)) o ≡ stand (at + 1) f (Some b)) × (ended_at (stand at f (Some b)) o ≡ [])
inner_step at f b (op.Declared (symbol.Function n)) e = never (sym e)
inner_step at f b op.End e = never (sym e)
inner_step at f b o e = (refl, refl)

begin_step : (at f : ℕ) (o : Op) → is_inner o ≡ true → is_point o ≡ true → (behind_node (stand at f None) o ≡ stand (at + 1) f (Some at)) × (ended_at (stand at f None) o ≡ [])
begin_step at f op.End e g = never (sym e)
begin_step at f (op.Declare n v) e g = (refl, refl)
begin_step at f op.Evaluate e g = (refl, refl)
begin_step at f (op.Set o) e g = (refl, refl)
begin_step at f (op.Test given) e g = (refl, refl)
begin_step at f op.Branch e g = (refl, refl)
begin_step at f op.Move e g = (refl, refl)
begin_step at f (op.Give given) e g = (refl, refl)
begin_step at f o e g = never (sym g)

-- rows of such nodes
after_one : (at : ℕ) (n : ℕ) → (at + 1) + n ≡ at + suc n
after_one at n = omega arith

read_plain : (xs ys : List Node) (at f : ℕ) (begin : Option ℕ) → IsPlain xs → stretches_behind (stand at f begin) (xs ++ ys) ≡ stretches_behind (stand (at + length xs) f begin) ys
read_plain [] ys at f begin e = ap (λ n. stretches_behind (stand n f begin) ys) (none_on at)
  where
    none_on : (n : ℕ) → n ≡ n + 0
    none_on n = omega arith
read_plain (x ∷ xs) ys at f begin e =
    let told = both_true (is_plain x.op) (every is_plain xs) e in
    let s = plain_step at f begin x.op told.0 in
    ap₂ (λ here there. here ++ stretches_behind there (xs ++ ys)) s.1 s.0
    ∙ read_plain xs ys (at + 1) f begin told.1
    ∙ ap (λ n. stretches_behind (stand n f begin) ys) (after_one at (length xs))

read_inner : (xs ys : List Node) (at f b : ℕ) → IsInner xs → stretches_behind (stand at f (Some b)) (xs ++ ys) ≡ stretches_behind (stand (at + length xs) f (Some b)) ys
read_inner [] ys at f b e = ap (λ n. stretches_behind (stand n f (Some b)) ys) (none_on at)
  where
    none_on : (n : ℕ) → n ≡ n + 0
    none_on n = omega arith
read_inner (x ∷ xs) ys at f b e =
    let told = both_true (is_inner x.op) (every is_inner xs) e in
    let s = inner_step at f b x.op told.0 in
    ap₂ (λ here there. here ++ stretches_behind there (xs ++ ys)) s.1 s.0
    ∙ read_inner xs ys (at + 1) f b told.1
    ∙ ap (λ n. stretches_behind (stand n f (Some b)) ys) (after_one at (length xs))

-- a body from its first point to its end
abbrev pub stretch : ℕ → ℕ → ℕ → Stretch
stretch f from to = record { function = f; from = from; to = to }

read_body : (xs : List Node) (close : Span) (ys : List Node) (at f : ℕ) → IsInner xs → begins xs ≡ true
    → stretches_behind (stand at f None) (xs ++ (alone_row op.End close ++ ys))
    ≡ stretch f at (at + length xs + 1) ∷ stretches_behind (stand (at + length xs + 1) f None) ys
read_body [] close ys at f e g = ap (λ n. stretch f at n ∷ stretches_behind (stand n f None) ys) (none_on at)
  where
    none_on : (n : ℕ) → n + 1 ≡ n + 0 + 1
    none_on n = omega arith
read_body (x ∷ xs) close ys at f e g =
    let told = both_true (is_inner x.op) (every is_inner xs) e in
    let s = begin_step at f x.op told.0 g in
    ap₂ (λ here there. here ++ stretches_behind there (xs ++ (alone_row op.End close ++ ys))) s.1 s.0
    ∙ read_inner xs (alone_row op.End close ++ ys) (at + 1) f at told.1
    ∙ ap (λ n. stretch f at (n + 1) ∷ stretches_behind (stand (n + 1) f None) ys) (after_one at (length xs))

-- Items, one behind the other.
abbrev pub head_row : Scope → Head → Bool → List Node
head_row here head with_body = row_in_head here (number_of here head) head with_body

abbrev pub body_row : Scope → Head → Statements → Span → List Node
body_row here head body close = row_in_body (inside here head true) (number_of here head) body close

abbrev pub stretches_by : ℕ → Scope → UnitItem → List Stretch
stretches_by at here (body_item head body close) =
    stretch (number_of here head) (at + length (head_row here head true)) (at + length (head_row here head true) + length (body_row here head body close)) ∷ []
stretches_by at here item = []

abbrev pub function_behind : ℕ → Scope → UnitItem → ℕ
function_behind f here (function_item head) = number_of here head
function_behind f here (body_item head body close) = number_of here head
function_behind f here item = f

read_head : (here : Scope) (n : ℕ) (head : Head) (with_body : Bool) (ys : List Node) (at f : ℕ)
    → stretches_behind (stand at f None) (row_in_head here n head with_body ++ ys) ≡ stretches_behind (stand (at + length (row_in_head here n head with_body)) n None) ys
unfolding row_in_head
read_head here n head with_body ys at f =
    read_plain (head_rest here n head with_body) ys (at + 1) n None (plain_head here n head with_body)
    ∙ ap (λ m. stretches_behind (stand m n None) ys) (after_one at (length (head_rest here n head with_body)))

-- where a body ends, counted from where it begins, and from where its item does
end_of : (xs : List Node) (close : Span) (at : ℕ) → at + length xs + 1 ≡ at + length (xs ++ alone_row op.End close)
end_of xs close at = by (length (xs ++ alone_row op.End close)) (length xs) (length-append xs (alone_row op.End close))
  where
    by : (n m : ℕ) → n ≡ m + 1 → at + m + 1 ≡ at + n
    by n m e = omega (arith, e)

sum_of : (xs ys : List Node) (at : ℕ) → at + length xs + length ys ≡ at + length (xs ++ ys)
sum_of xs ys at = by (length (xs ++ ys)) (length xs) (length ys) (length-append xs ys)
  where
    by : (n m k : ℕ) → n ≡ m + k → at + m + k ≡ at + n
    by n m k e = omega (arith, e)

read_whole_body : (here : Scope) (f : ℕ) (body : Statements) (close : Span) (ys : List Node) (at : ℕ) → begins (row_in_statements here f body) ≡ true
    → stretches_behind (stand at f None) (row_in_body here f body close ++ ys)
    ≡ stretch f at (at + length (row_in_body here f body close)) ∷ stretches_behind (stand (at + length (row_in_body here f body close)) f None) ys
unfolding row_in_body
read_whole_body here f body close ys at g =
    let xs = row_in_statements here f body in
    ap (stretches_behind (stand at f None)) (append_assoc xs (alone_row op.End close) ys)
    ∙ read_body xs close ys at f (inner_statements f here body) g
    ∙ ap (λ n. stretch f at n ∷ stretches_behind (stand n f None) ys) (end_of xs close at)

-- a body's statements begin with a point where its item is typed
pub body_begins : (here : Scope) (head : Head) (body : Statements) (close : Span) → first (item_premises here (body_item head body close)) ≡ None
    → begins (row_in_statements (inside here head true) (number_of here head) body) ≡ true
unfolding body_premises
body_begins here head body close h =
    let around = around_body here head body in
    begins_statements (number_of here head) around (inside here head true) refl body
    (none_of_both (head_premises here head true) (statements_premises around (inside here head true) body) h).1

read_item : (here : Scope) (item : UnitItem) (ys : List Node) (at f : ℕ) → first (item_premises here item) ≡ None
    → stretches_behind (stand at f None) (row_in_item here item ++ ys)
    ≡ stretches_by at here item ++ stretches_behind (stand (at + length (row_in_item here item)) (function_behind f here item) None) ys
read_item here (structure_item tag alias attrs members span) ys at f h = read_plain (row_in_members here [] members) ys at f None (plain_members here [] members)
read_item here (alias_item name ctype span) ys at f h = read_plain (aside_given here 0 ctype.length) ys at f None (plain_aside_given here 0 ctype.length)
read_item here (enumeration_item tag alias values span) ys at f h =
    read_plain (row_in_enumerators here (pos 0) values) ys at f None (plain_enumerators here (pos 0) values)
read_item here (global_item d) ys at f h = read_plain (row_in_global here d) ys at f None (plain_global here d)
read_item here (function_item head) ys at f h = read_head here (number_of here head) head false ys at f
read_item here (body_item head body close) ys at f h =
    let n = number_of here head in
    let xs = head_row here head true in
    let zs = body_row here head body close in
    let from = at + length xs in
    ap (stretches_behind (stand at f None)) (append_assoc xs zs ys)
    ∙ read_head here n head true (zs ++ ys) at f
    ∙ read_whole_body (inside here head true) n body close ys from (body_begins here head body close h)
    ∙ ap (λ m. stretch n from (from + length zs) ∷ stretches_behind (stand m n None) ys) (sum_of xs zs at)

-- What stands between two places of a row.
between : (pre xs ys : List Node) (from to : ℕ) → from ≡ length pre → to ≡ from + length xs → nodes_between (pre ++ (xs ++ ys)) from to ≡ xs
between pre xs ys from to is ends =
    let e : to - from ≡ length xs = omega (arith, ends) in
    ap₂ (λ n d. take n (drop d (pre ++ (xs ++ ys)))) e is
    ∙ ap (take (length xs)) (drop-append_seam pre (xs ++ ys)) ∙ take-append_seam xs ys

-- the bodies of an item, in a row that has the item's behind others
bodies_by : (here : Scope) (item : UnitItem) (pre ys : List Node)
    → map (body_at (pre ++ (row_in_item here item ++ ys))) (stretches_by (length pre) here item) ≡ map row_of_body (body_by here item)
bodies_by here (structure_item tag alias attrs members span) pre ys = refl
bodies_by here (alias_item name ctype span) pre ys = refl
bodies_by here (enumeration_item tag alias values span) pre ys = refl
bodies_by here (global_item d) pre ys = refl
bodies_by here (function_item head) pre ys = refl
bodies_by here (body_item head body close) pre ys =
    let xs = head_row here head true in
    let zs = body_row here head body close in
    let from = length pre + length xs in
    ap (λ row. record { function = number_of here head; nodes = nodes_between row from (from + length zs) } ∷ [])
    (ap (λ r. pre ++ r) (append_assoc xs zs ys) ∙ sym (append_assoc pre xs (zs ++ ys)))
    ∙ ap (λ nodes. record { function = number_of here head; nodes = nodes } ∷ []) (between (pre ++ xs) zs ys from (from + length zs) (sym (length-append pre xs)) refl)

items_read : (row pre : List Node) (here : Scope) (items : List UnitItem) (f : ℕ) → row ≡ pre ++ row_in_unit_items here items → first (items_premises here items) ≡ None
    → map (body_at row) (stretches_behind (stand (length pre) f None) (row_in_unit_items here items)) ≡ map row_of_body (bodies_in here items)
unfolding row_in_unit_items items_premises bodies_in
items_read row pre here [] f is h = refl
items_read row pre here (item ∷ rest) f is h =
    let told = none_of_both (item_premises here item) (items_premises (behind_item here item) rest) h in
    let xs = row_in_item here item in
    let ys = row_in_unit_items (behind_item here item) rest in
    let later = stretches_behind (stand (length pre + length xs) (function_behind f here item) None) ys in
    ap (map (body_at row)) (read_item here item ys (length pre) f told.0)
    ∙ map-append (body_at row) (stretches_by (length pre) here item) later
    ∙ ap₂ (λ a b. a ++ b)
    (ap (λ r. map (body_at r) (stretches_by (length pre) here item)) is ∙ bodies_by here item pre ys)
    (ap (λ n. map (body_at row) (stretches_behind (stand n (function_behind f here item) None) ys)) (sym (length-append pre xs))
    ∙ items_read row (pre ++ xs) (behind_item here item) rest (function_behind f here item) (is ∙ sym (append_assoc pre xs ys)) told.1)
    ∙ sym (map-append row_of_body (body_by here item) (bodies_in (behind_item here item) rest))

pub bodies_are_read : BodiesAreRead
bodies_are_read items h = items_read (row_in_unit_items (outset items) items) [] (outset items) items 0 refl h
