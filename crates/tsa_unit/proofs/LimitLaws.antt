-- Functions are counted, and points of bodies.
use Rattle.std.proofs.Common.{ℕ, zero, suc, ◌+◌, ◌-◌, ◌<◌, ◌≤◌, ◌≡◌, ◌∙◌, ap, sym, refl, List, [], ◌∷◌, ◌++◌, length, drop, get_or, Option}
use Rattle.std.proofs.Common.{Some, None, option_map, slice_get, nat_lt, if◌then◌else◌, arith}
use Rattle.std.proofs.lemmas.Bool.{le-ltb, lt-ltb}
use Rattle.std.proofs.lemmas.List.{length-map}
use Rattle.std.specs.Borrow.{Bor}
use Rattle.tsa_tree.specs.declared.attr.Attr.{Attr}
use Rattle.tsa_tree.specs.declared.decl.CType.{CType}
use Rattle.tsa_tree.specs.declared.expr.Name.{Name}
use Rattle.tsa_tree.specs.declared.item.Param.{Param}
use Rattle.tsa_tree.specs.declared.stmt.Point.{Point}
use Rattle.tsa_tree.specs.declared.item.FnTree.{FnTree}
use Rattle.tsa_tree.specs.declared.item.Item.{Item}
use Rattle.tsa_tree.specs.declared.item.Item.TheVariants as item
use Rattle.tsa_tree.specs.declared.stmt.Stmt.{Stmt}
use Rattle.tsa_tree.specs.expressions.Syntax.{Identifier}
use Rattle.tsa_tree.specs.expressions.Shapes.{name_shape}
use Rattle.tsa_tree.specs.units.Syntax.{UnitItem}
use Rattle.tsa_tree.specs.units.Limits.{function_names, past_points}
use Rattle.tsa_tree.specs.statements.Shapes.{point_shape}
use Rattle.tsa_tree.specs.units.Shapes.{shape_with, function_shape, item_shape, item_shapes, HasItsPoints, HaveTheirPoints}
use Rattle.tsa_unit.specs.Functions.{function_in}

-- the names of the functions from an item on
abbrev pub functions_from : ℕ → List Item → List Identifier
functions_from n items = function_names (item_shapes (drop n items))

abbrev function_name : Option FnTree → List Identifier
function_name None = []
function_name (Some f) = name_shape f.name ∷ []

function_first : (f : FnTree) (body : Option (List Stmt)) (rest : List UnitItem)
    → function_names (shape_with f body ∷ rest) ≡ name_shape f.name ∷ function_names rest
function_first f None rest = refl
function_first f (Some body) rest = refl

first_names : (x : Item) (rest : List UnitItem) → function_names (item_shape x ∷ rest) ≡ function_name (function_in x) ++ function_names rest
first_names (item.Function f) rest = function_first f (option_map (λ body. body.now) f.body) rest
first_names (item.Structure s) rest = refl
first_names (item.Alias a) rest = refl
first_names (item.Enumeration e) rest = refl
first_names (item.Global g) rest = refl

functions_at : (items : List Item) (i : ℕ) (d : Item) → i < length items
    → functions_from i items ≡ function_name (function_in (get_or items i d)) ++ functions_from (i + 1) items
functions_at [] i d within = absurd (omega arith)
functions_at (x ∷ xs) zero d within = first_names x (item_shapes xs)
functions_at (x ∷ xs) (suc i) d within =
    let more : suc (i + 1) ≡ suc i + 1 = omega arith in
    functions_at xs i d (omega arith) ∙ ap (λ n. function_name (function_in (get_or xs i d)) ++ function_names (item_shapes (drop n (x ∷ xs)))) more

-- the function that was found of an item
abbrev IsFound : Option (Bor FnTree) → Item → Type 0
IsFound found x = option_map (λ (f : Bor FnTree). f.now) found ≡ function_in x

pub goes_past : (items : List Item) (i : ℕ) (d : Item) (all : Option Identifier) (left : ℕ) → i < length items
    → all ≡ slice_get (functions_from i items) left → IsFound None (get_or items i d) → all ≡ slice_get (functions_from (i + 1) items) left
goes_past items i d all left within rest none =
    rest ∙ ap (λ ns. slice_get ns left) (functions_at items i d within ∙ ap (λ f. function_name f ++ functions_from (i + 1) items) (sym none))

pub one_less : (items : List Item) (i : ℕ) (d : Item) (f : Bor FnTree) (all : Option Identifier) (left : ℕ) → i < length items
    → all ≡ slice_get (functions_from i items) left → IsFound (Some f) (get_or items i d) → 0 < left
    → all ≡ slice_get (functions_from (i + 1) items) (left - 1)
one_less items i d f all zero within rest is some = absurd (omega arith)
one_less items i d f all (suc left) within rest is some =
    let less : suc left - 1 ≡ left = omega arith in
    rest ∙ ap (λ ns. slice_get ns (suc left)) (functions_at items i d within ∙ ap (λ x. function_name x ++ functions_from (i + 1) items) (sym is))
    ∙ ap (slice_get (functions_from (i + 1) items)) (sym less)

pub one_too_many : (items : List Item) (i : ℕ) (d : Item) (f : Bor FnTree) (all : Option Identifier) → i < length items
    → all ≡ slice_get (functions_from i items) 0 → IsFound (Some f) (get_or items i d) → all ≡ Some (name_shape f.now.name)
one_too_many items i d f all within rest is =
    rest ∙ ap (λ ns. slice_get ns 0) (functions_at items i d within ∙ ap (λ x. function_name x ++ functions_from (i + 1) items) (sym is))

pub ruleset functions = (goes_past, one_less, one_too_many)

-- the first body of too many points from an item on
abbrev pub points_from : ℕ → List Item → Option Identifier
points_from n items = past_points (item_shapes (drop n items))

-- a function comes before those after it where its own points are too many
abbrev points_first : Option FnTree → Option Identifier → Option Identifier
points_first None rest = rest
points_first (Some f) rest = if nat_lt 4096 (length f.points.now) then Some (name_shape f.name) else rest

module _ (name : Name) (result : CType) (params : Bor (List Param)) (attrs : Bor (List Attr)) (points : Bor (List Point)) where
  abbrev function_with : Option (Bor (List Stmt)) → FnTree
  function_with body = record { name = name; result = result; params = params; attrs = attrs; body = body; points = points }

  with_points : (body : Option (Bor (List Stmt))) (rest : List UnitItem) → HasItsPoints (function_with body)
      → past_points (function_shape (function_with body) ∷ rest) ≡ points_first (Some (function_with body)) (past_points rest)
  with_points None rest h = sym (ap (λ n. if nat_lt 4096 n then Some (name_shape name) else past_points rest) (ap length h))
  with_points (Some body) rest h =
      ap (λ n. if nat_lt 4096 n then Some (name_shape name) else past_points rest) (sym (ap length h.0) ∙ length-map points.now point_shape)

first_points : (x : Item) (xs : List Item) (rest : List UnitItem) → HaveTheirPoints (x ∷ xs)
    → past_points (item_shape x ∷ rest) ≡ points_first (function_in x) (past_points rest)
first_points (item.Function f) xs rest h = with_points f.name f.result f.params f.attrs f.points f.body rest h.0
first_points (item.Structure s) xs rest h = refl
first_points (item.Alias a) xs rest h = refl
first_points (item.Enumeration e) xs rest h = refl
first_points (item.Global g) xs rest h = refl

other_points : (x : Item) (xs : List Item) → HaveTheirPoints (x ∷ xs) → HaveTheirPoints xs
other_points (item.Function f) xs h = h.1
other_points (item.Structure s) xs h = h
other_points (item.Alias a) xs h = h
other_points (item.Enumeration e) xs h = h
other_points (item.Global g) xs h = h

points_at : (items : List Item) (i : ℕ) (d : Item) → i < length items → HaveTheirPoints items
    → points_from i items ≡ points_first (function_in (get_or items i d)) (points_from (i + 1) items)
points_at [] i d within h = absurd (omega arith)
points_at (x ∷ xs) zero d within h = first_points x xs (item_shapes xs) h
points_at (x ∷ xs) (suc i) d within h =
    let more : suc (i + 1) ≡ suc i + 1 = omega arith in
    points_at xs i d (omega arith) (other_points x xs h)
    ∙ ap (λ n. points_first (function_in (get_or xs i d)) (past_points (item_shapes (drop n (x ∷ xs))))) more

pub no_points : (items : List Item) (i : ℕ) (d : Item) (all : Option Identifier) → i < length items → HaveTheirPoints items
    → all ≡ points_from i items → IsFound None (get_or items i d) → all ≡ points_from (i + 1) items
no_points items i d all within h rest none = rest ∙ points_at items i d within h ∙ ap (λ f. points_first f (points_from (i + 1) items)) (sym none)

pub few_points : (items : List Item) (i : ℕ) (d : Item) (f : Bor FnTree) (all : Option Identifier) → i < length items → HaveTheirPoints items
    → all ≡ points_from i items → IsFound (Some f) (get_or items i d) → length f.now.points.now ≤ 4096 → all ≡ points_from (i + 1) items
few_points items i d f all within h rest is le =
    rest ∙ points_at items i d within h ∙ ap (λ f. points_first f (points_from (i + 1) items)) (sym is)
    ∙ ap (λ b. if b then Some (name_shape f.now.name) else points_from (i + 1) items) (le-ltb 4096 (length f.now.points.now) le)

pub many_points : (items : List Item) (i : ℕ) (d : Item) (f : Bor FnTree) (all : Option Identifier) → i < length items → HaveTheirPoints items
    → all ≡ points_from i items → IsFound (Some f) (get_or items i d) → 4096 < length f.now.points.now → all ≡ Some (name_shape f.now.name)
many_points items i d f all within h rest is lt =
    rest ∙ points_at items i d within h ∙ ap (λ f. points_first f (points_from (i + 1) items)) (sym is)
    ∙ ap (λ b. if b then Some (name_shape f.now.name) else points_from (i + 1) items) (lt-ltb 4096 (length f.now.points.now) lt)

pub ruleset points = (no_points, few_points, many_points)
