-- What the laws of calls ask of the deed that calls.
use Rattle.std.proofs.Common.{◌≡◌, ◌∙◌, ℕ, Bool, true, false, not, ◌&&◌, List, Option, Some, None, is_some, refl, sym, ap, subst}
use Rattle.tsa_base.specs.declared.token.Span.{Span}
use Rattle.tsa_base.proofs.Truths.{never}
use Rattle.tsa_tree.specs.declarations.Syntax.{Initialiser, value, list}
use Rattle.tsa_tree.specs.declared.expr.BinaryOp.{BinaryOp}
use Rattle.tsa_tree.specs.declared.kind.Kind.{Kind}
use Rattle.tsa_tree.specs.declared.kind.Kind.TheVariants as type
use Rattle.tsa_tree.specs.declared.kind.ThingType.{ThingType}
use Rattle.tsa_tree.specs.expressions.Syntax.{Expression}
use Rattle.tsa_tree.specs.points.Syntax.{Deed, declares, evaluates, assigns, tests, switches, jumps, idles, returns, ends}
use Rattle.tsa_tree.specs.statements.Sound.{is_assigning}
use Rattle.tsa_tree.specs.expressions.Sound.{Words}
use Rattle.tsa_tree.specs.types.DeclaredTypes.{thing_type}
use Rattle.tsa_tree.specs.types.Expressions.{type_of}
use Rattle.tsa_tree.specs.types.Locals.{init_breaks, names_in, names_in_init}
use Rattle.tsa_tree.specs.types.Operands.{is_scalar, is_integer, integer_kind, pointer_kind, breaks_binary, goes_to, lacks}
use Rattle.tsa_tree.specs.types.Premises as types
use Rattle.tsa_tree.specs.types.Runnable.{is_small, is_whole_init}
use Rattle.tsa_tree.specs.types.Scopes.{Scope, context_of}
use Rattle.tsa_tree.specs.types.Simple.{assignment_breaks, is_void}
use Rattle.tsa_tree.specs.types.Lookups.{params_in}
use Rattle.tsa_place_model.specs.Ways.{Way}
use Rattle.tsa_core.specs.Bodies.{Action, declare, declared, point_by, right_side}
use Rattle.tsa_place_model.specs.Calls.{Layout}
use Rattle.tsa_core.specs.Kinds.{scalar_kind}
use Rattle.tsa_core.specs.Meanings.{Call, as_kind, meaning}
use Rattle.tsa_core.specs.Terms.{Term}
use Rattle.tsa_core.specs.Uses.{argument_ways, call_ways, init_uses, uses_by, value_uses}
use Rattle.tsa_core.proofs.DeedsHold.{Facts}
use Rattle.tsa_core.proofs.DeedsTold.{init_told, set_told}
use Rattle.tsa_core.proofs.KindTests.{both_true, neither, not_false, or_left, integer_is}
use Rattle.tsa_core.proofs.KindsOfTerms.{typed}
use Rattle.tsa_core.proofs.NoFailure.{keeps_typed}
use Rattle.tsa_core.proofs.SetsHold.{passes_typed, right_integer}
use Rattle.tsa_profile_accesses.specs.Locks.{tries}
use Rattle.tsa_profile_accesses.specs.Premises.{first}
use Rattle.tsa_profile_accesses.specs.Standing.{may_try}
use Rattle.tsa_profile_accesses.specs.declared.premise.ProfileCode.TheVariants.{PF4, PF7}
use Rattle.tsa_profile_accesses.specs.declared.standing.Standing.{Standing}
use Rattle.tsa_profile_accesses.specs.declared.standing.Standing.TheVariants.{Whole, Inside}
use Rattle.tsa_profile_guards.proofs.NoneFails.{none_of_both, none_of_first}
use Rattle.tsa_profile_declarations.specs.Declarations.{is_int}
use Rattle.tsa_profile_points.specs.Bodies.{Around, begins_a_try, deed_premises, local_init, standing_of, value_misfits, view_at}
use Rattle.tsa_profile_accesses.specs.Expressions.{attributes_at, expression}
use Rattle.tsa_rules.specs.Conditions.{Condition, the_call, condition_at}
use Rattle.tsa_sound.specs.CallFacts.{CanCall, IsAnswer, TakesAnswer, UsesAnswer}
use Rattle.tsa_sound_accepted.proofs.called.CallTypes.{answer_kept, goes_plain, goes_scalar, int_answer, set_asks, set_calls, set_declares}
use Rattle.tsa_sound_accepted.proofs.called.CallsAsked.{Called, called_sense, may_stand, whole_called}
use Rattle.tsa_sound_accepted.proofs.called.ConditionsAsked.{condition_tested}

begins_it : (b : Bool) → may_try (standing_of b) ≡ true → b ≡ true
begins_it true h = refl
begins_it false h = never (sym h)

int_is : (kind : Kind) → is_int kind ≡ true → kind ≡ type.Int
int_is type.Int h = refl
int_is type.Unsigned h = never (sym h)
int_is type.Void h = never (sym h)
int_is (type.Structure n) h = never (sym h)
int_is (type.Pointer n c) h = never (sym h)
int_is type.Null h = never (sym h)
int_is type.Function h = never (sym h)

value_same : (n m : ℕ) (kind other : Kind) (x y : Term) → declare n kind x ≡ declare m other y → x ≡ y
value_same n m kind other x y e = cc

not_called : {A : Type 0} (c : Call) → ◌≡◌ {A = Option Call} None (Some c) → A
not_called c h = absurd cc

no_condition : {A : Type 0} (k : Condition) → ◌≡◌ {A = Option Condition} None (Some k) → A
no_condition k h = absurd cc

module _ (a : Around) (l : Layout) (here : Scope) where
  -- The call of a point, and what its action does with the answer.
  pub record CallHere (c : Call) (action : Action) (ways : List (Option Way)) : Type 0 where
    pub s : Standing
    pub e : Expression
    pub called : Called a here s e c
    pub ways_are : ways ≡ argument_ways a.stable here (params_in here called.n) called.args
    pub acts : CanCall action
    pub gives : UsesAnswer action → scalar_kind called.thing.kind ≡ true
    pub asks : (k : Condition) → condition_at action ≡ Some k → k.subject ≡ the_call
    pub takes : called.thing.kind ≡ type.Int → tries (attributes_at a.attributes called.n) ≡ true → TakesAnswer action
    pub begins : (m : ℕ) (kind : Kind) (x : Term) → action ≡ declare m kind x → IsAnswer x

  ways_of : (e : Expression) (ways : List (Option Way)) → call_ways a.stable here e ≡ Some ways → (value_uses l a.stable here e).arguments ≡ ways
  ways_of e ways f = rw f refl

  no_try : {A : Type 0} (e : Expression) (c : Call) (k : Called a here Whole e c) → tries (attributes_at a.attributes k.n) ≡ true → A
  no_try e c k h = never (sym (may_stand a here Whole e c k h))

  goes_called : (s : Standing) (e : Expression) (c : Call) (k : Called a here s e c) (w : ThingType) → goes_to (meaning here e).type w ≡ true
      → goes_to (called_sense a here k.n k.thing).type w ≡ true
  goes_called s e c k w h = subst (λ x. goes_to x.type w ≡ true) k.sense h

  called_scalar : (s : Standing) (e : Expression) (c : Call) (k : Called a here s e c) (w : ThingType) → goes_to (meaning here e).type w ≡ true
      → scalar_kind k.thing.kind ≡ true
  called_scalar s e c k w h = goes_scalar (called_sense a here k.n k.thing).type w (goes_called s e c k w h) refl

  called_answer : (s : Standing) (e : Expression) (c : Call) (k : Called a here s e c) (w : ThingType) → goes_to (meaning here e).type w ≡ true
      → IsAnswer (as_kind w.kind (meaning here e))
  called_answer s e c k w h =
      subst (λ x. IsAnswer (as_kind w.kind x)) (sym k.sense)
      (answer_kept w.kind (called_sense a here k.n k.thing).type (goes_plain (called_sense a here k.n k.thing).type w (goes_called s e c k w h) refl))

  -- a local that begins with it
  init_here : (t : ThingType) (i : Option Initialiser) → types.first (names_in here i) ≡ None → init_breaks here t i ≡ false → is_whole_init i ≡ true
      → first (local_init a here t i) ≡ None
      → (c : Call) → (declared here t.kind i).call ≡ Some c → CallHere c (declared here t.kind i).action (init_uses l a.stable here i).arguments
  unfolding names_in_init
  init_here t None names breaks whole h c is = not_called c is
  init_here t (Some (list items span)) names breaks whole h c is = not_called c is
  init_here t (Some (value e)) names breaks whole h c is =
      let ty = keeps_typed (context_of here) e names in
      let there = typed here e ty.0 ty.1 in
      let goes = passes_typed (λ x. goes_to x t) (type_of (context_of here) e) (meaning here e).type there breaks in
      let s = standing_of (begins_a_try a here t) in
      let k = whole_called a here s e ty.0 c whole ty.1 h is in
      record {
        s = s;
        e = e;
        called = k;
        ways_are = ways_of e _ k.ways_are;
        acts = tt;
        gives = λ u. called_scalar s e c k t goes;
        asks = λ x f. no_condition x f;
        takes = λ i tried.
            let begun = begins_it (begins_a_try a here t) (may_stand a here s e c k tried) in
            let int = int_is t.kind (both_true (is_int t.kind) (not (is_some t.length) && a.stable here.locals) begun).0 in
            (int, ap (λ kind. as_kind kind (meaning here e)) int ∙ ap (as_kind type.Int) k.sense ∙ int_answer (called_sense a here k.n k.thing).type i);
        begins = λ m kind x f.
            subst IsAnswer (value_same here.locals m t.kind kind (as_kind t.kind (meaning here e)) x f) (called_answer s e c k t goes);
      }

  -- what an assignment sets
  right_scalar : (left right : Expression) (o : Option BinaryOp) (c : Call) (k : Called a here Whole right c) → is_assigning o ≡ true
      → assignment_breaks o (Some (meaning here left).type) (Some (meaning here right).type) ≡ false → scalar_kind k.thing.kind ≡ true
  right_scalar left right None c k assigning breaks =
      called_scalar Whole right c k (meaning here left).type.thing (not_false (goes_to (meaning here right).type (meaning here left).type.thing) breaks)
  right_scalar left right (Some o) c k assigning breaks =
      let x = (neither (breaks_binary o (Some (meaning here left).type) (Some (meaning here right).type)) _ breaks).0 in
      let i = right_integer (meaning here left).type (meaning here right).type o assigning x in
      or_left (integer_kind k.thing.kind) (pointer_kind k.thing.kind) (integer_is (called_sense a here k.n k.thing).type
      (subst (λ y. is_integer y.type ≡ true) k.sense i)).1

  module _ (words : Words) (result : ThingType) where
    pub deed_calls : (span : Span) (d : Deed) → Facts words result here d → first (deed_premises a here span d) ≡ None → (c : Call)
        → (point_by here result.kind d).call ≡ Some c
        → CallHere c (point_by here result.kind d).action (uses_by l a.stable here d).arguments
    deed_calls span (declares d) f h c is =
        let t = thing_type here d.ctype in
        let told = init_told here d f.0 in
        init_here t d.init told.1.0 told.0 (both_true (is_small t) (is_whole_init d.init) f.1.0).1
        (none_of_first PF4 d.span (not (is_small t)) (local_init a here t d.init) h).1 c is
    deed_calls span (evaluates e) f h c is =
        let ty = keeps_typed (context_of here) e f.0 in
        let k = whole_called a here Whole e ty.0 c f.1.0 ty.1 h is in
        record {
          s = Whole;
          e = e;
          called = k;
          ways_are = ways_of e _ k.ways_are;
          acts = tt;
          gives = λ u. absurd u;
          asks = λ x g. no_condition x g;
          takes = λ i tried. no_try e c k tried;
          begins = λ m kind x g. absurd cc;
        }
    deed_calls span (assigns left o right) f h c is =
        let s = set_told here left o right f.0.0 f.0.1 f.1.0 in
        let asked = (none_of_both (expression (view_at a here) Inside left) (expression (view_at a here) Whole right) h).1 in
        let k = whole_called a here Whole right s.u c s.whole s.right_typed asked is in
        let kind = (meaning here left).type.thing.kind in
        let x = (meaning here left).term in
        let r = right_side o kind (meaning here right) in
        record {
          s = Whole;
          e = right;
          called = k;
          ways_are = ways_of right _ k.ways_are;
          acts = set_calls x o kind r;
          gives = λ u. right_scalar left right o c k f.1.1.1 s.breaks;
          asks = λ y g. no_condition y (sym (set_asks x o kind r) ∙ g);
          takes = λ i tried. no_try right c k tried;
          begins = λ m other y g. absurd (set_declares x o kind r m other y g);
        }
    deed_calls span (tests None) f h c is = not_called c is
    deed_calls span (tests (Some e)) f h c is =
        let ty = keeps_typed (context_of here) e f.1.0 in
        let k = condition_tested a here e ty.0 c f.1.1.0 ty.1 (passes_typed is_scalar (type_of (context_of here) e) ty.0 ty.1 f.0) h is in
        record {
          s = k.s;
          e = k.inner;
          called = k.called;
          ways_are = ways_of e _ k.ways_are;
          acts = tt;
          gives = λ u. k.scalar;
          asks = k.asks;
          takes = k.takes;
          begins = λ m kind x g. absurd cc;
        }
    deed_calls span (switches e) f h c is = not_called c is
    deed_calls span jumps f h c is = not_called c is
    deed_calls span idles f h c is = not_called c is
    deed_calls span (returns None) f h c is = not_called c is
    deed_calls span (returns (Some e)) f h c is =
        let ty = keeps_typed (context_of here) e f.1.0 in
        let there = typed here e ty.0 ty.1 in
        let lack = (neither (is_void result) (lacks (λ t. goes_to t result) (type_of (context_of here) e)) f.0).1 in
        let goes = passes_typed (λ t. goes_to t result) (type_of (context_of here) e) (meaning here e).type there lack in
        let asked = (none_of_first PF7 span (value_misfits a here e) (expression (view_at a here) Whole e) h).1 in
        let k = whole_called a here Whole e ty.0 c f.1.1.0 ty.1 asked is in
        record {
          s = Whole;
          e = e;
          called = k;
          ways_are = ways_of e _ k.ways_are;
          acts = tt;
          gives = λ u. called_scalar Whole e c k result goes;
          asks = λ x g. no_condition x g;
          takes = λ i tried. no_try e c k tried;
          begins = λ m kind x g. absurd cc;
        }
    deed_calls span ends f h c is = not_called c is
