-- The places that are loaded at a point are just those of the cells that it reads on the right.
use Rattle.std.proofs.Common.{◌≡◌, ◌∙◌, pos, true, false, List, [], Option, Some, None, refl, sym, subst, ◌⊎◌, inl, inr}
use Rattle.std.specs.List.{Contains}
use Rattle.tsa_base.specs.declared.value.Value.TheVariants.{Int}
use Rattle.tsa_tree.specs.declarations.Syntax.{Declaration, Initialiser, value, list}
use Rattle.tsa_tree.specs.declared.expr.BinaryOp.{BinaryOp}
use Rattle.tsa_tree.specs.declared.kind.Kind.{Kind}
use Rattle.tsa_tree.specs.declared.kind.ThingType.{ThingType}
use Rattle.tsa_tree.specs.expressions.Syntax.{Expression}
use Rattle.tsa_tree.specs.points.Syntax.{Deed, declares, evaluates, assigns, tests, switches, jumps, idles, returns, ends}
use Rattle.tsa_tree.specs.expressions.Sound.{Words}
use Rattle.tsa_tree.specs.types.DeclaredTypes.{thing_type}
use Rattle.tsa_tree.specs.types.Expressions.{type_of, premises_of}
use Rattle.tsa_tree.specs.types.Locals.{init_breaks, names_in, names_in_init}
use Rattle.tsa_tree.specs.types.Operands.{lacks, goes_to}
use Rattle.tsa_tree.specs.types.Premises.{first}
use Rattle.tsa_tree.specs.types.Runnable.{is_whole, is_small, is_whole_init}
use Rattle.tsa_tree.specs.types.Scopes.{Scope, context_of}
use Rattle.tsa_tree.specs.types.Simple.{is_void}
use Rattle.tsa_core.proofs.AskedLoads.{asks, nothing_there, loads_kept, loads_parted, loads_asked, Calls, whole_asks, goes_asks}
use Rattle.tsa_core.proofs.AskedLoads.{condition_asks}
use Rattle.tsa_core.proofs.DeedsHold.{Facts}
use Rattle.tsa_core.proofs.DeedsTold.{init_told, set_told}
use Rattle.tsa_core.proofs.KindTests.{both_true, neither}
use Rattle.tsa_core.proofs.KindsOfTerms.{typed}
use Rattle.tsa_core.proofs.NoFailure.{keeps_typed}
use Rattle.tsa_core.proofs.SetsHold.{passes_typed}
use Rattle.tsa_core.specs.Bodies.{Action, evaluate, set_local, set_cell, declare, test, branch, go_on, give, Known, knows, right_side}
use Rattle.tsa_core.specs.Bodies.{set_to, declared, point_by, point_of}
use Rattle.tsa_core.specs.Loads.{loads_with, places}
use Rattle.tsa_core.specs.Meanings.{as_kind, meaning}
use Rattle.tsa_core.specs.PointLoads.{call_loads, loads_right, right_cells, LoadsAgree, LoadedAt}
use Rattle.tsa_core.specs.Terms.{Term, constant, variable, answer, global, member, element, target, load, address, converted, prefixed}
use Rattle.tsa_core.specs.Terms.{joined}

-- what is worked out on the right
abbrev right_value : Action → Term
right_value (evaluate x) = x
right_value (set_local n o kind x) = x
right_value (set_cell place o kind x) = x
right_value (declare n kind x) = x
right_value (test x) = x
right_value (branch x) = x
right_value go_on = constant (Int (pos 0))
right_value (give kind x) = x

right_is : (ps : List Term) (a : Action) → loads_right ps a ≡ loads_with ps (right_value a)
right_is ps (evaluate x) = refl
right_is ps (set_local n o kind x) = refl
right_is ps (set_cell place o kind x) = refl
right_is ps (declare n kind x) = refl
right_is ps (test x) = refl
right_is ps (branch x) = refl
right_is ps go_on = refl
right_is ps (give kind x) = refl

set_value : (x : Term) (o : Option BinaryOp) (kind : Kind) (r : Term) → right_value (set_to x o kind r) ≡ r
set_value (variable n) o kind r = refl
set_value (global n) o kind r = refl
set_value (member base n) o kind r = refl
set_value (element base i) o kind r = refl
set_value (target p) o kind r = refl
set_value (constant v) o kind r = refl
set_value answer o kind r = refl
set_value (load stable p) o kind r = refl
set_value (address p) o kind r = refl
set_value (converted to x) o kind r = refl
set_value (prefixed u x) o kind r = refl
set_value (joined b x y) o kind r = refl

-- Where the call of a point loads, its action asks for the answer.
module _ (here : Scope) (words : Words) (result : ThingType) (x : Term) where
  abbrev AsksIn : Deed → Type 0
  AsksIn d = Contains (call_loads (point_by here result.kind d).call) x → asks (right_value (point_by here result.kind d).action) ≡ true

  goes_asked : (e : Expression) (w : ThingType) → first (premises_of (context_of here) e) ≡ None → is_whole e ≡ true → lacks (λ t. goes_to t w) (type_of (context_of here) e) ≡ false
      → Calls here x e → asks (as_kind w.kind (meaning here e)) ≡ true
  goes_asked e w h whole lack c =
      let t = keeps_typed (context_of here) e h in
      goes_asks here x e t.0 w whole t.1 (passes_typed (λ t. goes_to t w) (type_of (context_of here) e) t.0 t.1 lack) c

  begins_asked : (w : ThingType) (init : Option Initialiser) → init_breaks here w init ≡ false → first (names_in here init) ≡ None → is_whole_init init ≡ true
      → Contains (call_loads (declared here w.kind init).call) x → asks (right_value (declared here w.kind init).action) ≡ true
  unfolding names_in_init
  begins_asked w None breaks names whole c = nothing_there x c
  begins_asked w (Some (list items span)) breaks names whole c = nothing_there x c
  begins_asked w (Some (value e)) breaks names whole c = goes_asked e w names whole breaks c

  declares_asked : (d : Declaration) → Facts words result here (declares d) → AsksIn (declares d)
  declares_asked d f c =
      let told = init_told here d f.0 in
      let w = thing_type here d.ctype in
      begins_asked w d.init told.0 told.1.0 (both_true (is_small w) (is_whole_init d.init) f.1.0).1 c

  side_asked : (left : Expression) (o : Option BinaryOp) (right : Expression) → Facts words result here (assigns left o right) → Calls here x right
      → asks (right_side o (meaning here left).type.thing.kind (meaning here right)) ≡ true
  side_asked left None right f c =
      let s = set_told here left None right f.0.0 f.0.1 f.1.0 in
      let w = (meaning here left).type.thing in
      goes_asked right w s.kept s.whole (subst (λ p. lacks (λ x. goes_to x w) p ≡ false) (sym (typed here right s.u s.right_typed)) s.breaks) c
  side_asked left (Some o) right f c =
      let s = set_told here left (Some o) right f.0.0 f.0.1 f.1.0 in (whole_asks here x right s.u s.whole s.right_typed c).1

  deed_asked : (d : Deed) → Facts words result here d → AsksIn d
  deed_asked (declares d) f c = declares_asked d f c
  deed_asked (evaluates e) f c = let t = keeps_typed (context_of here) e f.0 in (whole_asks here x e t.0 f.1.0 t.1 c).1
  deed_asked (assigns left o right) f c =
      let kind = (meaning here left).type.thing.kind in
      let r = right_side o kind (meaning here right) in
      subst (λ y. asks y ≡ true) (sym (set_value (meaning here left).term o kind r)) (side_asked left o right f c)
  deed_asked (tests None) f c = nothing_there x c
  deed_asked (tests (Some e)) f c = let t = keeps_typed (context_of here) e f.1.0 in condition_asks here x e t.0 f.1.1.0 t.1 c
  deed_asked (switches e) f c = nothing_there x c
  deed_asked jumps f c = nothing_there x c
  deed_asked idles f c = nothing_there x c
  deed_asked (returns None) f c = nothing_there x c
  deed_asked (returns (Some e)) f c =
      goes_asked e result f.1.0 f.1.1.0 (neither (is_void result) (lacks (λ t. goes_to t result) (type_of (context_of here) e)) f.0).1 c
  deed_asked ends f c = nothing_there x c

  abbrev k : Deed → Known
  k d = knows here d

  pub deed_loads_just : (d : Deed) → Facts words result here d → LoadsAgree result.kind (k d)
      → (LoadedAt (point_of result.kind (k d)) x → Contains (places here (right_cells here d)) x) × (Contains (places here (right_cells here d)) x → LoadedAt (point_of result.kind (k d)) x)
  deed_loads_just d f agrees = (into, back)
    where
      ps : List Term
      ps = call_loads (point_by here result.kind d).call

      a : Action
      a = (point_by here result.kind d).action

      same : loads_with ps (right_value a) ≡ places here (right_cells here d)
      same = sym (right_is ps a) ∙ agrees.right

      into : LoadedAt (point_of result.kind (k d)) x → Contains (places here (right_cells here d)) x
      into (inl c) = subst (λ xs. Contains xs x) same (loads_asked ps x (right_value a) c (deed_asked d f c))
      into (inr c) = subst (λ xs. Contains xs x) same (loads_kept ps x (right_value a) (subst (λ xs. Contains xs x) (right_is [] a) c))

      turned : Contains ps x ⊎ Contains (loads_with [] (right_value a)) x → LoadedAt (point_of result.kind (k d)) x
      turned (inl c) = inl c
      turned (inr c) = inr (subst (λ xs. Contains xs x) (sym (right_is [] a)) c)

      back : Contains (places here (right_cells here d)) x → LoadedAt (point_of result.kind (k d)) x
      back c = turned (loads_parted ps x (right_value a) (subst (λ xs. Contains xs x) (sym same) c))
