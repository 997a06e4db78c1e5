-- The cells that a point reads and writes are the ones that its terms load and set.
use Rattle.std.proofs.Common.{◌≡◌, ◌∙◌, ℕ, true, false, not, ◌&&◌, List, [], ◌∷◌, Option, Some, None, is_some, is_none, if◌then◌else◌, refl}
use Rattle.std.proofs.Common.{sym, ap, ap₂, subst, ◌⊎◌, inl, inr}
use Rattle.tsa_tree.specs.declarations.Syntax.{Declaration, Initialiser, value, list}
use Rattle.tsa_tree.specs.declared.expr.BinaryOp.{BinaryOp}
use Rattle.tsa_tree.specs.declared.kind.ExpressionType.{ExpressionType}
use Rattle.tsa_tree.specs.declared.kind.Kind.{Kind}
use Rattle.tsa_tree.specs.declared.kind.Kind.TheVariants as type
use Rattle.tsa_tree.specs.declared.kind.ThingType.{ThingType}
use Rattle.tsa_tree.specs.declared.meaning.Entry.{Entry}
use Rattle.tsa_tree.specs.declared.meaning.Meaning.TheVariants as meant
use Rattle.tsa_tree.specs.expressions.Syntax.{Expression}
use Rattle.tsa_tree.specs.points.Syntax.{Deed, declares, evaluates, assigns, tests, switches, jumps, idles, returns, ends}
use Rattle.tsa_tree.specs.statements.Sound.{is_assigning}
use Rattle.tsa_tree.specs.expressions.Sound.{Words}
use Rattle.tsa_tree.specs.types.DeclaredTypes.{thing_type}
use Rattle.tsa_tree.specs.types.Expressions.{type_of, premises_of}
use Rattle.tsa_tree.specs.types.Locals.{init_breaks, names_in, names_in_init}
use Rattle.tsa_tree.specs.types.Operands.{integer_kind, is_single, is_integer, target_of, lacks, goes_to, breaks_binary}
use Rattle.tsa_tree.specs.types.Premises.{first}
use Rattle.tsa_tree.specs.types.Runnable.{has_call, is_whole, is_small, is_whole_init}
use Rattle.tsa_tree.specs.types.Scopes.{Scope, context_of, known_in}
use Rattle.tsa_tree.specs.types.Simple.{assignment_breaks, is_void}
use Rattle.tsa_core.proofs.CallLoads.{Answers, whole_answers, condition_answers}
use Rattle.tsa_core.proofs.DeedsHold.{Facts}
use Rattle.tsa_core.proofs.DeedsTold.{left_holds, init_told, set_told}
use Rattle.tsa_core.proofs.KindTests.{both_true, neither, not_true, one_of, and_true, integer_plain, integer_is}
use Rattle.tsa_core.proofs.KindsOfTerms.{typed}
use Rattle.tsa_core.proofs.LoadsOfTerms.{free_loads, in_place, value_in, goes_in}
use Rattle.tsa_core.proofs.NoFailure.{keeps_typed}
use Rattle.tsa_core.proofs.SetsHold.{is_left, passes_typed, left_integer}
use Rattle.tsa_core.specs.Bodies.{Action, set_local, set_cell, knows, right_side, set_to, declared}
use Rattle.tsa_core.specs.Cells.{own_cell, inner_cells, cells_read, read_before}
use Rattle.tsa_core.specs.Loads.{loads, loads_with, places}
use Rattle.tsa_core.specs.Meanings.{is_place, is_cell, is_structure, loaded, as_kind, meaning, call_in}
use Rattle.tsa_core.specs.PointLoads.{init_cells, call_loads, loads_right, cell_set, loads_inside, old_value, LoadsAgree}
use Rattle.tsa_core.specs.Terms.{Term, constant, variable, answer, global, member, element, target, load, address, converted, prefixed}
use Rattle.tsa_core.specs.Terms.{joined}
use Rattle.tsa_base.proofs.Truths.{never}

-- An assignment goes to a local, or to a cell.
abbrev SetsOne : Term → Option BinaryOp → Kind → Term → Type 0
SetsOne x o kind r = ((is_place x ≡ true) × (set_to x o kind r ≡ set_cell x o kind r)) ⊎ ((n : ℕ) × (x ≡ variable n))

sets_one : (x : Term) (o : Option BinaryOp) (kind : Kind) (r : Term) → is_left x ≡ true → SetsOne x o kind r
sets_one (variable n) o kind r e = inr (n, refl)
sets_one (global n) o kind r e = inl (refl, refl)
sets_one (member base n) o kind r e = inl (refl, refl)
sets_one (element base i) o kind r e = inl (refl, refl)
sets_one (target p) o kind r e = inl (refl, refl)
sets_one (constant v) o kind r e = never (sym e)
sets_one answer o kind r e = never (sym e)
sets_one (load stable p) o kind r e = never (sym e)
sets_one (address p) o kind r e = never (sym e)
sets_one (converted to x) o kind r e = never (sym e)
sets_one (prefixed u x) o kind r e = never (sym e)
sets_one (joined b x y) o kind r e = never (sym e)

-- what a value goes to is a cell's thing
no_struct : (kind : Kind) → is_some (target_of kind) ≡ true → is_structure kind ≡ false
no_struct (type.Pointer n c) e = refl
no_struct type.Int e = refl
no_struct type.Unsigned e = refl
no_struct type.Void e = refl
no_struct (type.Structure n) e = never (sym e)
no_struct type.Null e = refl
no_struct type.Function e = refl

plain_cell : (t : ThingType) → is_none t.length ≡ true → is_structure t.kind ≡ false → is_cell t ≡ true
plain_cell t one plain = and_true (not (is_some t.length)) (not (is_structure t.kind)) one (ap not plain)

goes_cell : (t : ExpressionType) (w : ThingType) → goes_to t w ≡ true → is_cell w ≡ true
goes_cell t w goes =
    let both = both_true (is_none w.length) _ goes in
    plain_cell w both.0
    (one_of (is_integer t && integer_kind w.kind) _ both.1 (λ i. (integer_plain w.kind (both_true (is_integer t) (integer_kind w.kind) i).1).0)
    (λ d. one_of (t.is_zero && is_some (target_of w.kind)) _ d (λ z. no_struct w.kind (both_true t.is_zero (is_some (target_of w.kind)) z).1)
    (λ p. no_struct w.kind (both_true (is_some (target_of w.kind)) _ (both_true (is_single t) _ p).1).0)))

integer_cell : (t : ExpressionType) → is_integer t ≡ true → is_cell t.thing ≡ true
integer_cell t e = let i = integer_is t e in plain_cell t.thing i.0 (integer_plain t.thing.kind i.1).0

module _ (here : Scope) (left : Expression) (o : Option BinaryOp) (kind : Kind) (r : Term) (cell : is_cell (meaning here left).type.thing ≡ true)
    (inside : loads (meaning here left).term ≡ places here (inner_cells here left)) where
  abbrev x : Term
  x = (meaning here left).term

  abbrev set : Action
  set = set_to x o kind r

  abbrev LeftAgrees : Type 0
  LeftAgrees = ((ps : List Term) → loads_right ps set ≡ loads_with ps r) × (cell_set set ≡ places here (own_cell here left))
      × (loads_inside set ≡ places here (inner_cells here left)) × (old_value set ≡ places here (read_before here o left))

  to_cell : is_place x ≡ true → set ≡ set_cell x o kind r → LeftAgrees
  to_cell is e =
      let own : places here (own_cell here left) ≡ x ∷ [] = ap₂ (λ p c. places here (if p && c then left ∷ [] else [])) is cell in
      ((λ ps. ap (loads_right ps) e), ap cell_set e ∙ sym own, ap loads_inside e ∙ inside, ap old_value e ∙ before o own)
    where
      before : (q : Option BinaryOp) → places here (own_cell here left) ≡ x ∷ [] → old_value (set_cell x q kind r) ≡ places here (read_before here q left)
      before None own = refl
      before (Some p) own = sym own

  to_local : (n : ℕ) → x ≡ variable n → LeftAgrees
  to_local n is =
      let e : set ≡ set_local n o kind r = ap (λ y. set_to y o kind r) is in
      let own : places here (own_cell here left) ≡ [] = ap (λ y. places here (if is_place y && is_cell (meaning here left).type.thing then left ∷ [] else [])) is in
      ((λ ps. ap (loads_right ps) e), ap cell_set e ∙ sym own, ap loads_inside e ∙ sym (ap loads is) ∙ inside, ap old_value e ∙ before o own)
    where
      before : (q : Option BinaryOp) → places here (own_cell here left) ≡ [] → [] ≡ places here (read_before here q left)
      before None own = refl
      before (Some p) own = sym own

  pub left_agrees : is_left x ≡ true → LeftAgrees
  left_agrees h = by (sets_one x o kind r h)
    where
      by : SetsOne x o kind r → LeftAgrees
      by (inl e) = to_cell e.0 e.1
      by (inr e) = to_local e.0 e.1

module _ (here : Scope) (none_owned : (name : List ℕ) (e : Entry) → known_in here name ≡ Some e → e.meaning ≡ meant.Owned → ⊥) (words : Words) (result : ThingType) where
  abbrev Agrees : Deed → Type 0
  Agrees d = LoadsAgree result.kind (knows here d)

  -- a value with its call, and where it goes to a thing
  value_loads : (e : Expression) (t : ExpressionType) → Answers here e → type_of (context_of here) e ≡ Some t
      → loads_with (call_loads (call_in here e)) (loaded (meaning here e)) ≡ places here (cells_read here e)
  value_loads e t answers is = value_in here (call_loads (call_in here e)) e answers t is

  goes_loads : (e : Expression) (w : ThingType) → first (premises_of (context_of here) e) ≡ None → is_whole e ≡ true → lacks (λ t. goes_to t w) (type_of (context_of here) e) ≡ false
      → loads_with (call_loads (call_in here e)) (as_kind w.kind (meaning here e)) ≡ places here (cells_read here e)
  goes_loads e w h whole lack =
      let t = keeps_typed (context_of here) e h in
      let goes = passes_typed (λ t. goes_to t w) (type_of (context_of here) e) t.0 t.1 lack in
      goes_in here (call_loads (call_in here e)) e (value_loads e t.0 (whole_answers here e t.0 whole t.1) t.1) t.0 w t.1 goes

  evaluated : (e : Expression) → Facts words result here (evaluates e) → Agrees (evaluates e)
  evaluated e f =
      let t = keeps_typed (context_of here) e f.0 in
      record { right = value_loads e t.0 (whole_answers here e t.0 f.1.0 t.1) t.1; written = refl; inside = refl; before = refl }

  condition_tested : (e : Expression) → Facts words result here (tests (Some e)) → Agrees (tests (Some e))
  condition_tested e f =
      let t = keeps_typed (context_of here) e f.1.0 in
      record { right = value_loads e t.0 (condition_answers here e t.0 f.1.1.0 t.1) t.1; written = refl; inside = refl; before = refl }

  switched : (e : Expression) → Facts words result here (switches e) → Agrees (switches e)
  switched e f =
      let t = keeps_typed (context_of here) e f.1.0 in
      record { right = value_in here [] e (free_loads here [] e (not_true (has_call e) f.1.1.0)) t.0 t.1; written = refl; inside = refl; before = refl }

  returned : (given : Option Expression) → Facts words result here (returns given) → Agrees (returns given)
  returned None f = record { right = refl; written = refl; inside = refl; before = refl }
  returned (Some e) f = record {
    right = goes_loads e result f.1.0 f.1.1.0 (neither (is_void result) (lacks (λ t. goes_to t result) (type_of (context_of here) e)) f.0).1;
    written = refl;
    inside = refl;
    before = refl;
  }

  abbrev Begins : Option Initialiser → Kind → Type 0
  Begins init kind = (loads_right (call_loads (declared here kind init).call) (declared here kind init).action ≡ places here (init_cells here init))
      × (cell_set (declared here kind init).action ≡ []) × (loads_inside (declared here kind init).action ≡ []) × (old_value (declared here kind init).action ≡ [])

  begins : (w : ThingType) (init : Option Initialiser) → init_breaks here w init ≡ false → first (names_in here init) ≡ None → is_whole_init init ≡ true → Begins init w.kind
  unfolding names_in_init
  begins w None breaks names whole = (refl, refl, refl, refl)
  begins w (Some (list items span)) breaks names whole = never (sym whole)
  begins w (Some (value e)) breaks names whole = (goes_loads e w names whole breaks, refl, refl, refl)

  declares_loads : (d : Declaration) → Facts words result here (declares d) → Agrees (declares d)
  declares_loads d f =
      let told = init_told here d f.0 in
      let w = thing_type here d.ctype in
      let x = begins w d.init told.0 told.1.0 (both_true (is_small w) (is_whole_init d.init) f.1.0).1 in
      record { right = x.0; written = x.1; inside = x.2; before = x.3 }

  -- an assignment
  module _ (left right : Expression) (t u : ExpressionType) (h : type_of (context_of here) left ≡ Some t) (g : type_of (context_of here) right ≡ Some u) (is : is_left (meaning here left).term ≡ true)
      (free : has_call left ≡ false) where
    set_loads : (o : Option BinaryOp) → is_cell (meaning here left).type.thing ≡ true
        → loads_with (call_loads (call_in here right)) (right_side o (meaning here left).type.thing.kind (meaning here right)) ≡ places here (cells_read here right)
        → Agrees (assigns left o right)
    set_loads o cell agrees =
        let kind = (meaning here left).type.thing.kind in
        let x = left_agrees here left o kind (right_side o kind (meaning here right)) cell (in_place here [] left (free_loads here [] left free) t h) is in
        record { right = x.0 (call_loads (call_in here right)) ∙ agrees; written = x.1; inside = x.2; before = x.3 }

    assigned_loads : (o : Option BinaryOp) → is_assigning o ≡ true → first (premises_of (context_of here) right) ≡ None → is_whole right ≡ true
        → assignment_breaks o (Some (meaning here left).type) (Some (meaning here right).type) ≡ false → Agrees (assigns left o right)
    assigned_loads None assigning kept whole breaks =
        let w = (meaning here left).type.thing in
        let lack = subst (λ p. lacks (λ x. goes_to x w) p ≡ false) (sym (typed here right u g)) breaks in
        let goes = passes_typed (λ x. goes_to x w) (type_of (context_of here) right) u g lack in
        set_loads None (goes_cell u w goes) (goes_loads right w kept whole lack)
    assigned_loads (Some o) assigning kept whole breaks =
        let a = (meaning here left).type in
        let b = (meaning here right).type in
        let e = neither (breaks_binary o (Some a) (Some b)) _ breaks in
        set_loads (Some o) (integer_cell a (left_integer a b o assigning e.0)) (value_loads right u (whole_answers here right u whole g) g)

  assigns_loads : (left : Expression) (o : Option BinaryOp) (right : Expression) → Facts words result here (assigns left o right) → Agrees (assigns left o right)
  assigns_loads left o right f =
      let s = set_told here left o right f.0.0 f.0.1 f.1.0 in
      assigned_loads left right s.t s.u s.left_typed s.right_typed
      (left_holds here none_owned left (both_true (meaning here left).type.is_place (not (meaning here left).type.thing.is_const) s.written).0) s.free
      o f.1.1.1 s.kept s.whole s.breaks

  pub deed_loads : (d : Deed) → Facts words result here d → Agrees d
  deed_loads (declares d) f = declares_loads d f
  deed_loads (evaluates e) f = evaluated e f
  deed_loads (assigns left o right) f = assigns_loads left o right f
  deed_loads (tests None) f = record { right = refl; written = refl; inside = refl; before = refl }
  deed_loads (tests (Some e)) f = condition_tested e f
  deed_loads (switches e) f = switched e f
  deed_loads jumps f = record { right = refl; written = refl; inside = refl; before = refl }
  deed_loads idles f = record { right = refl; written = refl; inside = refl; before = refl }
  deed_loads (returns given) f = returned given f
  deed_loads ends f = record { right = refl; written = refl; inside = refl; before = refl }
