-- Try variables and the tries whose answers they keep.
use Rattle.std.proofs.Common.{◌≡◌, ℕ, zero, suc, ◌+◌, ◌<◌, ◌≤◌, nat_eq, Bool, true, false, List, [], ◌∷◌, length, map, find, take}
use Rattle.std.proofs.Common.{filter_map, Option, Some, None, option_map, slice_get, if◌then◌else◌, refl, sym, ap, ◌∙◌, subst, arith}
use Rattle.std.proofs.lemmas.Bool.Decides.{nat_tests}
use Rattle.std.proofs.lemmas.List.Folds.{find_at}
use Rattle.std.specs.List.{list_any, position_or_len, cons_option}
use Rattle.tsa_place_model.specs.Ways.{Way}
use Rattle.tsa_tree.specs.declarations.Syntax.{Initialiser, value, list}
use Rattle.tsa_tree.specs.declared.expr.BinaryOp.{BinaryOp}
use Rattle.tsa_tree.specs.declared.kind.Kind.{Kind}
use Rattle.tsa_tree.specs.points.Syntax.{Deed, declares, evaluates, assigns, tests, switches, jumps, idles, returns, ends}
use Rattle.tsa_tree.specs.statements.Syntax.{Statements}
use Rattle.tsa_tree.specs.types.DeclaredTypes.{thing_type}
use Rattle.tsa_tree.specs.types.Scopes.{Scope}
use Rattle.tsa_core.specs.Bodies.{Known, known_in_body, Action, evaluate, set_local, set_cell, declare, test, branch, go_on, give, Point}
use Rattle.tsa_core.specs.Bodies.{declared, right_side, set_to, point_by, point_of, kinds_by, body_of}
use Rattle.tsa_core.specs.Laws.{IsNumbered, AreNumbered}
use Rattle.tsa_core.specs.Meanings.{meaning}
use Rattle.tsa_core.specs.Terms.{Term, constant, variable, answer, global, member, element, target, load, address, converted, prefixed}
use Rattle.tsa_core.specs.Terms.{joined}
use Rattle.tsa_core.proofs.LocalLists.{locals_are_listed}
use Rattle.tsa_core.specs.Programs.{Attr, Function, Program}
use Rattle.tsa_rules.specs.Attributes.{is_try, names, tries_path, try_of}
use Rattle.tsa_rules.specs.Conditions.{the_local}
use Rattle.tsa_rules.specs.Points.{points_of, or_idle, point_at, uses_at, attrs_called, attrs_at, local_begun, is_a_try, try_variable_at}
use Rattle.tsa_rules.specs.Points.{try_variables, try_number, begins, declaration_of}
use Rattle.tsa_rules.specs.Marks.{claim_in, mark_of}
use Rattle.tsa_rules.specs.Cases.{kept_for}
use Rattle.tsa_rules.specs.TryVariables.{IsNext, begun_count, AreInOrder, TryVariablesAreToldByDeclarations}
use Rattle.tsa_rules.proofs.Tests.{never, neither, left_part}
use Rattle.tsa_rules.proofs.Possible.{found, tries_called, listed, position_below}
use Rattle.tsa_base.proofs.Numbers.{itself}
use Rattle.tsa_base.proofs.Options.{some_same}

-- what is found passes
passes_step : {X : Type 0} (p : X → Bool) (x a : X) (xs : List X) (b : Bool) → p x ≡ b → (find p xs ≡ Some a → p a ≡ true) → (if b then Some x else find p xs) ≡ Some a → p a ≡ true
passes_step p x a xs true e rest h = ap p (sym (some_same h)) ∙ e
passes_step p x a xs false e rest h = rest h

passes : {X : Type 0} (p : X → Bool) (xs : List X) (a : X) → find p xs ≡ Some a → p a ≡ true
passes p [] a h = cc
passes p (x ∷ xs) a h = passes_step p x a xs (p x) refl (passes p xs a) h

-- the point that declares a local declares that
begun_by : (n : ℕ) (x : Point) (action : Action) → x.action ≡ action → begins n x ≡ true → local_begun x.action ≡ Some n
begun_by n x (declare m kind v) e h =
    let b : nat_eq m n ≡ true = ap (λ a. begins n (record { call = x.call; action = a })) (sym e) ∙ h in
    let same : m ≡ n = grind (arith, nat_tests) in
    ap local_begun e ∙ ap Some same
begun_by n x (evaluate v) e h = never (sym (ap (λ a. begins n (record { call = x.call; action = a })) (sym e) ∙ h))
begun_by n x (set_local m op kind v) e h = never (sym (ap (λ a. begins n (record { call = x.call; action = a })) (sym e) ∙ h))
begun_by n x (set_cell place op kind v) e h = never (sym (ap (λ a. begins n (record { call = x.call; action = a })) (sym e) ∙ h))
begun_by n x (test v) e h = never (sym (ap (λ a. begins n (record { call = x.call; action = a })) (sym e) ∙ h))
begun_by n x (branch v) e h = never (sym (ap (λ a. begins n (record { call = x.call; action = a })) (sym e) ∙ h))
begun_by n x go_on e h = never (sym (ap (λ a. begins n (record { call = x.call; action = a })) (sym e) ∙ h))
begun_by n x (give kind v) e h = never (sym (ap (λ a. begins n (record { call = x.call; action = a })) (sym e) ∙ h))

-- where a local's declaration calls a try, it is among the try variables
tried : (u : Program) (f : Function) (n : ℕ) (q : Option Point) → slice_get (points_of f) (declaration_of f n) ≡ q → is_a_try u (or_idle q).call ≡ true
    → try_number u f n < length (try_variables u f)
tried u f n None e t = never (sym t)
tried u f n (Some x) e t =
    let first : begins n x ≡ true = passes (begins n) (points_of f) x (find_at (begins n) (points_of f) ∙ e) in
    let local : local_begun x.action ≡ Some n = begun_by n x x.action refl first in
    let kept : try_variable_at u x ≡ Some n = rw t local in
    position_below n (try_variables u f) (listed u (points_of f) (declaration_of f n) x n e kept)

none_by : (u : Program) (f : Function) (c : Way) (n : ℕ) → length (try_variables u f) ≤ try_number u f n → (a : Option Attr) → try_of (attrs_at u f (declaration_of f n)) c ≡ a
    → option_map claim_in a ≡ None
none_by u f c n h None e = refl
none_by u f c n h (Some a) e =
    let t : is_try a.kind ≡ true = left_part (is_try a.kind) (names c a) (passes (tries_path c) (attrs_at u f (declaration_of f n)) a e) in
    let call : is_a_try u (point_at f (declaration_of f n)).call ≡ true =
    sym (tries_called (uses_at f (declaration_of f n)).arguments (attrs_called u (point_at f (declaration_of f n)).call))
    ∙ found (tries_path c) (λ b. is_try b.kind) (attrs_at u f (declaration_of f n)) a e t
    in
    let low : try_number u f n < length (try_variables u f) = tried u f n (slice_get (points_of f) (declaration_of f n)) refl call in
    absurd (omega arith)

-- the number of a try variable is how many come before it
counted : (u : Program) (points : List Point) (p : ℕ) (x : Point) (n : ℕ) → slice_get points p ≡ Some x → try_variable_at u x ≡ Some n
    → list_any (nat_eq n) (filter_map (try_variable_at u) (take p points)) ≡ false
    → position_or_len (nat_eq n) (filter_map (try_variable_at u) points) ≡ length (filter_map (try_variable_at u) (take p points))
counted u [] p x n e t none = cc
counted u (y ∷ points) zero x n e t none = first (try_variable_at u y) (ap (try_variable_at u) (some_same e) ∙ t)
  where
    first : (o : Option ℕ) → o ≡ Some n → position_or_len (nat_eq n) (cons_option o (filter_map (try_variable_at u) points)) ≡ 0
    first o is = rw (is, itself n) refl
counted u (y ∷ points) (suc p) x n e t none = by (try_variable_at u y) (λ other. counted u points p x n e t other) none
  where
    by : (o : Option ℕ)
        → (list_any (nat_eq n) (filter_map (try_variable_at u) (take p points)) ≡ false → position_or_len (nat_eq n) (filter_map (try_variable_at u) points) ≡ length (filter_map (try_variable_at u) (take p points)))
        → list_any (nat_eq n) (cons_option o (filter_map (try_variable_at u) (take p points))) ≡ false
        → position_or_len (nat_eq n) (cons_option o (filter_map (try_variable_at u) points)) ≡ length (cons_option o (filter_map (try_variable_at u) (take p points)))
    by None rest other = rest other
    by (Some m) rest other =
        let both = neither (nat_eq n m) (list_any (nat_eq n) (filter_map (try_variable_at u) (take p points))) other in
        rw both.0 (omega (arith, rest both.1))

-- Locals that are declared in order are declared once.
order_step : (n m : ℕ) (y : Point) (o : Option ℕ) → local_begun y.action ≡ o → IsNext n o → n + begun_count o ≤ m → begins m y ≡ false
order_step n m y None e h le = rw e refl
order_step n m y (Some k) e h le = let b : nat_eq k m ≡ false = grind (arith, nat_tests) in rw e b

earlier : (n : ℕ) (points : List Point) (q : ℕ) (x : Point) (m : ℕ) → AreInOrder n points → slice_get points q ≡ Some x → local_begun x.action ≡ Some m
    → (n ≤ m) × (list_any (begins m) (take q points) ≡ false)
earlier n [] q x m h e b = cc
earlier n (y ∷ points) zero x m h e b =
    let begun : local_begun y.action ≡ Some m = ap (λ z. local_begun z.action) (some_same e) ∙ b in
    let is : m ≡ n = subst (IsNext n) begun h.0 in
    (omega arith, refl)
earlier n (y ∷ points) (suc q) x m h e b =
    let rest : (n + begun_count (local_begun y.action) ≤ m) × (list_any (begins m) (take q points) ≡ false) = earlier (n + begun_count (local_begun y.action)) points q x m h.1 e b in
    let other : begins m y ≡ false = order_step n m y (local_begun y.action) refl h.0 rest.0 in
    (omega (arith, rest.0), rw other rest.1)

local_of_try : (u : Program) (y : Point) (k : ℕ) (b : Bool) → is_a_try u y.call ≡ b → (if b then local_begun y.action else None) ≡ Some k → local_begun y.action ≡ Some k
local_of_try u y k true e h = h
local_of_try u y k false e h = cc

other_variable : (u : Program) (m : ℕ) (y : Point) (ys : List Point) (o : Option ℕ) → try_variable_at u y ≡ o → begins m y ≡ false
    → list_any (nat_eq m) (filter_map (try_variable_at u) ys) ≡ false → list_any (nat_eq m) (cons_option o (filter_map (try_variable_at u) ys)) ≡ false
other_variable u m y ys None e h rest = rest
other_variable u m y ys (Some k) e h rest =
    let begun : local_begun y.action ≡ Some k = local_of_try u y k (is_a_try u y.call) refl e in
    let not_begun : nat_eq k m ≡ false = rw begun at h in
    let other : nat_eq m k ≡ false = grind (arith, nat_tests) in
    rw other rest

untried : (u : Program) (m : ℕ) (ys : List Point) → list_any (begins m) ys ≡ false → list_any (nat_eq m) (filter_map (try_variable_at u) ys) ≡ false
untried u m [] h = refl
untried u m (y ∷ ys) h =
    let both = neither (begins m y) (list_any (begins m) ys) h in
    other_variable u m y ys (try_variable_at u y) refl both.0 (untried u m ys both.1)

position_at : {X : Type 0} (p : X → Bool) (xs : List X) (q : ℕ) (x : X) → slice_get xs q ≡ Some x → p x ≡ true → list_any p (take q xs) ≡ false → position_or_len p xs ≡ q
position_at p [] q x e h none = cc
position_at p (y ∷ ys) zero x e h none = let first : p y ≡ true = ap p (some_same e) ∙ h in rw first refl
position_at p (y ∷ ys) (suc q) x e h none =
    let both = neither (p y) (list_any p (take q ys)) none in
    rw both.0 (omega (arith, position_at p ys q x e h both.1))

number : (u : Program) (f : Function) (n p : ℕ) (x : Point) (local : ℕ) → AreInOrder n (points_of f) → slice_get (points_of f) p ≡ Some x
    → try_variable_at u x ≡ Some local → try_number u f local ≡ length (filter_map (try_variable_at u) (take p (points_of f)))
number u f n p x local h e t =
    let begun : local_begun x.action ≡ Some local = local_of_try u x local (is_a_try u x.call) refl t in
    counted u (points_of f) p x local e t (untried u local (take p (points_of f)) (earlier n (points_of f) p x local h e begun).1)

kept : (u : Program) (f : Function) (n p : ℕ) (x : Point) (local : ℕ) (c : Way) → AreInOrder n (points_of f) → slice_get (points_of f) p ≡ Some x
    → local_begun x.action ≡ Some local → kept_for u f c (the_local local) ≡ (mark_of u f p c).tried
kept u f n p x local c h e b =
    let first : begins local x ≡ true = rw b (itself local) in
    let at : declaration_of f local ≡ p = position_at (begins local) (points_of f) p x e first (earlier n (points_of f) p x local h e b).1 in
    ap (λ q. (mark_of u f q c).tried) at

-- The points of a body.
begun_declared : (here : Scope) (kind : Kind) (init : Option Initialiser) → local_begun (declared here kind init).action ≡ Some here.locals
begun_declared here kind None = refl
begun_declared here kind (Some (value e)) = refl
begun_declared here kind (Some (list items span)) = refl

begun_set : (place : Term) (o : Option BinaryOp) (kind : Kind) (right : Term) → local_begun (set_to place o kind right) ≡ None
begun_set (constant v) o kind right = refl
begun_set (variable n) o kind right = refl
begun_set answer o kind right = refl
begun_set (global n) o kind right = refl
begun_set (member base n) o kind right = refl
begun_set (element base index) o kind right = refl
begun_set (target pointer) o kind right = refl
begun_set (load is_stable place) o kind right = refl
begun_set (address place) o kind right = refl
begun_set (converted k inner) o kind right = refl
begun_set (prefixed op inner) o kind right = refl
begun_set (joined op left more) o kind right = refl

in_order_step : (n : ℕ) (o : Option ℕ) (points : List Point) (x : Point) → local_begun x.action ≡ o → IsNext n o → AreInOrder (n + begun_count o) points → AreInOrder n (x ∷ points)
in_order_step n o points x e h rest = (subst (IsNext n) (sym e) h, subst (λ o. AreInOrder (n + begun_count o) points) (sym e) rest)

plain : (n : ℕ) (points : List Point) → AreInOrder (n + 0) points → AreInOrder n points
plain n points h = let e : n + 0 ≡ n = omega arith in subst (λ m. AreInOrder m points) e h

ordered_step : (result : Kind) (n : ℕ) (here : Scope) (deed : Deed) (points : List Point) → IsNumbered n here deed → AreInOrder (n + length (kinds_by here deed)) points
    → AreInOrder n (point_by here result deed ∷ points)
ordered_step result n here (declares d) points h rest =
    in_order_step n (Some here.locals) points (point_by here result (declares d)) (begun_declared here (thing_type here d.ctype).kind d.init) h rest
ordered_step result n here (evaluates e) points h rest = (tt, rest)
ordered_step result n here (assigns left o right) points h rest =
    in_order_step n None points (point_by here result (assigns left o right)) (begun_set (meaning here left).term o (meaning here left).type.thing.kind (right_side o (meaning here left).type.thing.kind (meaning here right))) tt rest
ordered_step result n here (tests (Some e)) points h rest = (tt, rest)
ordered_step result n here (tests None) points h rest = (tt, rest)
ordered_step result n here (switches e) points h rest = (tt, rest)
ordered_step result n here jumps points h rest = (tt, rest)
ordered_step result n here idles points h rest = (tt, rest)
ordered_step result n here (returns (Some e)) points h rest = (tt, rest)
ordered_step result n here (returns None) points h rest = (tt, rest)
ordered_step result n here ends points h rest = (tt, rest)

ordered : (result : Kind) (n : ℕ) (ks : List Known) → AreNumbered n ks → AreInOrder n (map (point_of result) ks)
ordered result n [] h = tt
ordered result n (k ∷ ks) h =
    ordered_step result n k.here k.deed (map (point_of result) ks) h.0 (ordered result (n + length (kinds_by k.here k.deed)) ks h.1)

in_order : (here : Scope) (result : Kind) (body : Statements) → AreInOrder here.locals (body_of here result body).points
in_order here result body = ordered result here.locals (known_in_body here body) (locals_are_listed here result body).1.0

pub try_variables_are_told_by_declarations : TryVariablesAreToldByDeclarations
try_variables_are_told_by_declarations = record {
  in_order = in_order;
  number = number;
  kept = kept;
  none = λ u f c n h. none_by u f c n h (try_of (attrs_at u f (declaration_of f n)) c) refl;
}
