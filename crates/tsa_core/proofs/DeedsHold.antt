-- What a typed deed does at a point has the kinds that are wanted there.
use Rattle.std.proofs.Common.{◌≡◌, ◌∙◌, ℕ, true, false, not, ◌&&◌, ◌||◌, Option, Some, None, is_some, is_none, refl, sym, ap, subst}
use Rattle.tsa_base.specs.declared.token.Span.{Span}
use Rattle.tsa_base.proofs.Truths.{never}
use Rattle.tsa_tree.specs.declarations.Syntax.{Declaration, Initialiser, value, list}
use Rattle.tsa_tree.specs.declarations.Sound.{SoundLocal, SoundLocalInit}
use Rattle.tsa_tree.specs.declared.expr.BinaryOp.{BinaryOp}
use Rattle.tsa_tree.specs.declared.kind.Declaring.TheVariants as declaring
use Rattle.tsa_tree.specs.declared.kind.ExpressionType.{ExpressionType}
use Rattle.tsa_tree.specs.declared.kind.Kind.{Kind}
use Rattle.tsa_tree.specs.declared.kind.Kind.TheVariants as type
use Rattle.tsa_tree.specs.declared.kind.Resolved.{Resolved}
use Rattle.tsa_tree.specs.declared.kind.Resolved.TheVariants as written
use Rattle.tsa_tree.specs.declared.kind.ThingType.{ThingType}
use Rattle.tsa_tree.specs.declared.meaning.Entry.{Entry}
use Rattle.tsa_tree.specs.declared.meaning.Meaning.TheVariants as meant
use Rattle.tsa_tree.specs.expressions.Sound.{Words, SoundExpression, SoundOptional}
use Rattle.tsa_tree.specs.expressions.Syntax.{Identifier, Expression, Arguments, number, null, named, call, unary, binary, field, index}
use Rattle.tsa_tree.specs.points.Syntax.{Deed, declares, evaluates, assigns, tests, switches, jumps, idles, returns, ends}
use Rattle.tsa_tree.specs.statements.Sound.{is_assigning}
use Rattle.tsa_tree.specs.types.DeclaredTypes.{resolve, thing_type, is_refused, is_nothing, may_be, length_of, with_length}
use Rattle.tsa_tree.specs.types.Expressions.{type_of, premises_of}
use Rattle.tsa_tree.specs.types.Locals.{init_breaks, names_in, names_in_init, local_premises}
use Rattle.tsa_tree.specs.types.Operands.{integer_kind, pointer_kind, is_integer, is_scalar, lacks, goes_to, breaks_binary}
use Rattle.tsa_tree.specs.types.Premises.{first}
use Rattle.tsa_tree.specs.types.Runnable.{is_whole, is_free, is_condition, is_small, is_whole_init, is_whole_given, has_call, local_runs}
use Rattle.tsa_tree.specs.types.Runnable.{is_scalar_kind}
use Rattle.tsa_tree.specs.types.Scopes.{Scope, context_of, known_in}
use Rattle.tsa_tree.specs.types.Simple.{assignment_breaks, is_written_to, assignment_premises, is_void, return_breaks, parts_of}
use Rattle.tsa_place_model.specs.Calls.{Layout}
use Rattle.tsa_core.specs.Bodies.{assigned, declared, point_by}
use Rattle.tsa_core.specs.Kinds.{Setting, scalar_kind, place_type, value_kind, Belongs}
use Rattle.tsa_core.specs.Meanings.{loaded, of_call, as_kind, meaning, call_of, call_in}
use Rattle.tsa_core.specs.PointKinds.{Signatures, Serves, ActionHolds, CallHolds, answer_of, at_point, PointHolds}
use Rattle.tsa_core.proofs.DeedsTold.{left_holds, init_told, set_told}
use Rattle.tsa_core.proofs.CallsHold.{CallsFit, call_called, Holding, whole_holding, whole_gives, condition_good}
use Rattle.tsa_core.proofs.LaidScopes.{is_written_kind}
use Rattle.tsa_core.proofs.KindTests.{both_true, neither, not_true, or_left, integer_is, scalar_is, not_false}
use Rattle.tsa_core.proofs.KindsOfOperators.{Holds, value_loaded, integer_loaded}
use Rattle.tsa_core.proofs.KindsOfTerms.{holds, typed}
use Rattle.tsa_core.proofs.NoFailure.{keeps_typed}
use Rattle.tsa_core.proofs.TypedTerms.{terms_have_types}
use Rattle.tsa_core.proofs.ValuesServe.{goes_served, small_goes, small_scalar, free_gives}
use Rattle.tsa_core.proofs.SetsHold.{passes_typed, is_left, zero_serves, loaded_there, set_holds, assigned_joins, right_integer}

-- What typing, reading and running say of a deed.
abbrev pub Facts : Words → ThingType → Scope → Deed → Type 0
Facts words result here (declares d) = (first (local_premises here d) ≡ None) × ((local_runs here d ≡ true) × SoundLocal words d)
Facts words result here (evaluates e) = (first (premises_of (context_of here) e) ≡ None) × ((is_whole e ≡ true) × SoundExpression words e)
Facts words result here (assigns left o right) =
    ((span : Span) × (first (assignment_premises (context_of here) left o right span) ≡ None))
    × (((is_free left && is_whole right) ≡ true) × (SoundExpression words left × (is_assigning o ≡ true) × SoundExpression words right))
Facts words result here (tests None) = Unit {0}
Facts words result here (tests (Some e)) =
    (lacks is_scalar (type_of (context_of here) e) ≡ false) × ((first (premises_of (context_of here) e) ≡ None) × ((is_condition (context_of here) e ≡ true) × SoundExpression words e))
Facts words result here (switches e) =
    (lacks is_integer (type_of (context_of here) e) ≡ false) × ((first (premises_of (context_of here) e) ≡ None) × ((is_free e ≡ true) × SoundExpression words e))
Facts words result here (returns given) =
    (return_breaks (context_of here) result given ≡ false) × ((first (parts_of (context_of here) given) ≡ None) × ((is_whole_given given ≡ true) × SoundOptional words given))
Facts words result here jumps = Unit {0}
Facts words result here idles = Unit {0}
Facts words result here ends = Unit {0}

module _ (here : Scope) (l : Layout) (locals : ℕ → Option Kind) (sig : Signatures) (words : Words) (bel : (given : Option Kind) → Belongs here (at_point l locals given))
    (fit : CallsFit sig here) (result : ThingType) where
  abbrev by_call : Expression → Setting
  by_call e = at_point l locals (answer_of sig (call_in here e))

  abbrev IsRight : Deed → Type 0
  IsRight d = PointHolds sig l locals result.kind (point_by here result.kind d)

  -- a local that is declared has its kind, which is that of a type that is written
  abbrev pub IsListedAt : Deed → Type 0
  IsListedAt (declares d) = (locals here.locals ≡ Some (thing_type here d.ctype).kind) × (is_written_kind (thing_type here d.ctype).kind ≡ true)
  IsListedAt _ = Unit {0}

  abbrev There : Expression → Type 0
  There e = (is_some (place_type (by_call e) (loaded (meaning here e))) || is_some (value_kind (by_call e) (loaded (meaning here e)))) ≡ true

  free_there : (e : Expression) (t : ExpressionType) → has_call e ≡ false → SoundExpression words e → type_of (context_of here) e ≡ Some t → There e
  free_there e t free sound is = loaded_there (by_call e) (meaning here e) (holds here (by_call e) (bel (answer_of sig (call_in here e))) words e sound (free_gives here (by_call e) e free) t is)

  known_there : (k : Setting) (o : Option Entry) (e : Entry) → o ≡ Some e → is_some k.answer ≡ true
      → (is_some (place_type k (loaded (of_call o))) || is_some (value_kind k (loaded (of_call o)))) ≡ true
  known_there k None e is h = absurd cc
  known_there k (Some x) e is h = h

  call_there : (callee : Identifier) (args : Arguments) (span : Span) (t : ExpressionType) → type_of (context_of here) (call callee args span) ≡ Some t → There (call callee args span)
  unfolding meaning call_in
  call_there callee args span t is =
      let c = call_called here callee args span t is in
      let e : Entry = record { meaning = meant.Function c.n; thing = c.thing } in
      let g = fit callee.text e c.n c.known refl in
      known_there (by_call (call callee args span)) (known_in here callee.text) e c.known (ap is_some (ap (λ o. answer_of sig (call_of here args o)) c.known ∙ g.0))

  there : (e : Expression) (t : ExpressionType) → is_whole e ≡ true → SoundExpression words e → type_of (context_of here) e ≡ Some t → There e
  there (call callee args span) t whole sound is = call_there callee args span t is
  there (number n u span) t whole sound is = free_there (number n u span) t refl sound is
  there (null span) t whole sound is = free_there (null span) t refl sound is
  there (named name span) t whole sound is = free_there (named name span) t refl sound is
  there (unary o inner span) t whole sound is = free_there (unary o inner span) t (not_true (has_call inner) whole) sound is
  there (binary o left right span) t whole sound is = free_there (binary o left right span) t (not_true (has_call left || has_call right) whole) sound is
  there (field base name arrow span) t whole sound is = free_there (field base name arrow span) t (not_true (has_call base) whole) sound is
  there (index base at span) t whole sound is = free_there (index base at span) t (not_true (has_call base || has_call at) whole) sound is

  evaluated : (e : Expression) → Facts words result here (evaluates e) → IsRight (evaluates e)
  evaluated e f =
      let t = keeps_typed (context_of here) e f.0 in
      (whole_holding here l locals sig words bel fit e t.0 f.1.1 f.1.0 t.1, there e t.0 f.1.0 f.1.1 t.1)

  -- a test
  condition_tested : (e : Expression) → Facts words result here (tests (Some e)) → IsRight (tests (Some e))
  condition_tested e f =
      let t = keeps_typed (context_of here) e f.1.0 in
      let scalar = passes_typed is_scalar (type_of (context_of here) e) t.0 t.1 f.0 in
      let good = condition_good here l locals sig words bel fit e t.0 f.1.1.1 f.1.1.0 t.1 scalar in
      let same = terms_have_types here e t.0 t.1 in
      let x = scalar_is (meaning here e).type (subst (λ y. is_scalar y ≡ true) (sym same) scalar) in (
        good.0,
        (
          (meaning here e).type.thing.kind,
          (value_loaded (by_call e) (meaning here e) (holds here (by_call e) (bel (answer_of sig (call_in here e))) words e f.1.1.1 (good.1 (by_call e) refl) t.0 t.1) x.0 x.1, x.1),
        ),
      )

  -- a switch's value
  switched : (e : Expression) → Facts words result here (switches e) → IsRight (switches e)
  switched e f =
      let k = at_point l locals None in
      let t = keeps_typed (context_of here) e f.1.0 in
      let number = passes_typed is_integer (type_of (context_of here) e) t.0 t.1 f.0 in
      let same = terms_have_types here e t.0 t.1 in
      let is = subst (λ y. is_integer y ≡ true) (sym same) number in (
        tt,
        (
          (meaning here e).type.thing.kind,
          (integer_loaded k (meaning here e) (holds here k (bel None) words e f.1.1.1 (free_gives here k e (not_true (has_call e) f.1.1.0)) t.0 t.1) is, (integer_is (meaning here e).type is).1),
        ),
      )

  -- a value that goes to a thing of a type
  goes_holds : (e : Expression) (w : ThingType) → first (premises_of (context_of here) e) ≡ None → is_whole e ≡ true → SoundExpression words e
      → lacks (λ t. goes_to t w) (type_of (context_of here) e) ≡ false
      → Holding here l locals sig words bel fit e × ((is_none w.length ≡ true) × ((scalar_kind w.kind ≡ true) × Serves (by_call e) (as_kind w.kind (meaning here e)) w.kind))
  goes_holds e w h whole sound lack =
      let t = keeps_typed (context_of here) e h in
      let goes = passes_typed (λ t. goes_to t w) (type_of (context_of here) e) t.0 t.1 lack in
      let same = terms_have_types here e t.0 t.1 in
      let gives = whole_gives here l locals sig words bel fit e t.0 whole t.1 (small_goes t.0 w goes) (by_call e) refl in (
        whole_holding here l locals sig words bel fit e t.0 sound whole t.1,
        goes_served (by_call e) (meaning here e) (holds here (by_call e) (bel (answer_of sig (call_in here e))) words e sound gives t.0 t.1) w
            (subst (λ y. goes_to y w ≡ true) (sym same) goes),
      )

  -- what is given back
  returned : (given : Option Expression) → Facts words result here (returns given) → IsRight (returns given)
  returned None f = (tt, (refl, zero_serves (at_point l locals None) result.kind))
  returned (Some e) f =
      let g = goes_holds e result f.1.0 f.1.1.0 f.1.1.1 (neither (is_void result) (lacks (λ t. goes_to t result) (type_of (context_of here) e)) f.0).1 in
      (g.0, (refl, λ scalar. g.1.1.1))

  -- a local that begins
  abbrev BeginsWith : Option Initialiser → Kind → Type 0
  BeginsWith init kind = PointHolds sig l locals result.kind (declared here kind init)

  begins : (w : ThingType) (init : Option Initialiser) → locals here.locals ≡ Some w.kind → init_breaks here w init ≡ false → first (names_in here init) ≡ None → is_whole_init init ≡ true
      → SoundLocalInit words init → scalar_kind w.kind ≡ true → BeginsWith init w.kind
  unfolding names_in_init
  begins w None is breaks names whole sound scalar = (tt, (is, zero_serves (at_point l locals None) w.kind scalar))
  begins w (Some (list items span)) is breaks names whole sound scalar = absurd sound
  begins w (Some (value e)) is breaks names whole sound scalar =
      let g = goes_holds e w names whole sound breaks in (g.0, (is, g.1.1.1))

  -- a kind that is written is a number's or a pointer's, where it is small and not void
  scalar_written : (kind : Kind) → is_scalar_kind kind ≡ true → is_nothing kind ≡ false → is_written_kind kind ≡ true → scalar_kind kind ≡ true
  scalar_written type.Int e f g = refl
  scalar_written type.Unsigned e f g = refl
  scalar_written type.Void e f g = never f
  scalar_written (type.Structure n) e f g = never (sym e)
  scalar_written (type.Pointer n c) e f g = refl
  scalar_written type.Null e f g = never (sym g)
  scalar_written type.Function e f g = never (sym g)

  something : (n : Option ℕ) (r : Resolved) → is_refused here declaring.Thing r ≡ false → is_nothing (with_length n r).kind ≡ false
  something n (written.Type t) e = not_true (is_nothing t.kind) (both_true (not (is_nothing t.kind)) _ (not_false (may_be here declaring.Thing t.kind) e)).0
  something n (written.Unknown span) e = refl
  something n written.Refused e = never e

  declares_holds : (d : Declaration) → IsListedAt (declares d) → Facts words result here (declares d) → IsRight (declares d)
  declares_holds d is f =
      let told = init_told here d f.0 in
      let runs = both_true (is_small (thing_type here d.ctype)) (is_whole_init d.init) f.1.0 in
      let scalar =
      scalar_written (thing_type here d.ctype).kind (both_true (is_scalar_kind (thing_type here d.ctype).kind) _ runs.0).0
      (something (length_of (context_of here) d.ctype.length) (resolve here d.ctype) told.1.1) is.1
      in
      begins (thing_type here d.ctype) d.init is.0 told.0 told.1.0 runs.1 f.1.1.2 scalar

  -- an assignment
  module _ (left : Expression) (right : Expression) (t u : ExpressionType) (h : type_of (context_of here) left ≡ Some t) (g : type_of (context_of here) right ≡ Some u)
      (written_to : is_written_to (meaning here left).type ≡ true) (free : has_call left ≡ false) (sound : SoundExpression words left) where
    abbrev k : Setting
    k = by_call right

    left_kept : Holds k (meaning here left).term (meaning here left).type
    left_kept = holds here k (bel (answer_of sig (call_in here right))) words left sound (free_gives here k left free) t h

    left_is : is_left (meaning here left).term ≡ true
    left_is = left_holds here (bel None).none_owned left (both_true (meaning here left).type.is_place (not (meaning here left).type.thing.is_const) written_to).0

    plain_set : first (premises_of (context_of here) right) ≡ None → is_whole right ≡ true → SoundExpression words right
        → lacks (λ x. goes_to x (meaning here left).type.thing) (type_of (context_of here) right) ≡ false
        → CallHolds sig (at_point l locals None) (call_in here right) × ActionHolds k result.kind (assigned (meaning here left) None (meaning here right))
    plain_set none whole sound lack =
        let x = goes_holds right (meaning here left).type.thing none whole sound lack in
        (x.0, set_holds k result.kind None (as_kind (meaning here left).type.thing.kind (meaning here right)) (meaning here left).term (meaning here left).type left_is left_kept written_to x.1.0 x.1.1.0 x.1.1.1)

    joined_set : (o : BinaryOp) → is_assigning (Some o) ≡ true → is_whole right ≡ true → SoundExpression words right → breaks_binary o (Some (meaning here left).type) (Some (meaning here right).type) ≡ false
        → is_integer (meaning here right).type ≡ true
        → CallHolds sig (at_point l locals None) (call_in here right) × ActionHolds k result.kind (assigned (meaning here left) (Some o) (meaning here right))
    joined_set o assigning whole sound breaks integer =
        let same = terms_have_types here right u g in
        let scalar : is_scalar u ≡ true = subst (λ x. is_scalar x ≡ true) same (or_left (is_integer (meaning here right).type) _ integer) in
        let gives = whole_gives here l locals sig words bel fit right u whole g (λ z. small_scalar u scalar) k refl in
        let right_kept = holds here k (bel (answer_of sig (call_in here right))) words right sound gives u g in
        let j = assigned_joins k (meaning here left) (meaning here right) left_kept right_kept o assigning breaks in
        let i = integer_is (meaning here left).type j.0 in (
          whole_holding here l locals sig words bel fit right u sound whole g,
          set_holds k result.kind (Some o) (loaded (meaning here right)) (meaning here left).term (meaning here left).type left_is left_kept written_to i.0
              (or_left (integer_kind (meaning here left).type.thing.kind) (pointer_kind (meaning here left).type.thing.kind) i.1) j.1,
        )

  -- with an operator, and without one
  set_by : (left : Expression) (o : Option BinaryOp) (right : Expression) (t u : ExpressionType) → type_of (context_of here) left ≡ Some t → type_of (context_of here) right ≡ Some u
      → is_written_to (meaning here left).type ≡ true → has_call left ≡ false → SoundExpression words left → is_assigning o ≡ true → first (premises_of (context_of here) right) ≡ None
      → is_whole right ≡ true → SoundExpression words right → assignment_breaks o (Some (meaning here left).type) (Some (meaning here right).type) ≡ false
      → CallHolds sig (at_point l locals None) (call_in here right) × ActionHolds (by_call right) result.kind (assigned (meaning here left) o (meaning here right))
  set_by left None right t u h g written free sound assigning kept whole other breaks =
      plain_set left right t u h g written free sound kept whole other
      (subst (λ p. lacks (λ x. goes_to x (meaning here left).type.thing) p ≡ false) (sym (typed here right u g)) breaks)
  set_by left (Some o) right t u h g written free sound assigning kept whole other breaks =
      let e = neither (breaks_binary o (Some (meaning here left).type) (Some (meaning here right).type)) _ breaks in
      joined_set left right t u h g written free sound o assigning whole other e.0
      (right_integer (meaning here left).type (meaning here right).type o assigning e.0)

  assigned_holds : (left : Expression) (o : Option BinaryOp) (right : Expression) → Facts words result here (assigns left o right) → IsRight (assigns left o right)
  assigned_holds left o right f =
      let s = set_told here left o right f.0.0 f.0.1 f.1.0 in
      set_by left o right s.t s.u s.left_typed s.right_typed s.written s.free f.1.1.0 f.1.1.1 s.kept s.whole f.1.1.2 s.breaks

  pub deed_holds : (d : Deed) → IsListedAt d → Facts words result here d → IsRight d
  deed_holds (declares d) is f = declares_holds d is f
  deed_holds (evaluates e) is f = evaluated e f
  deed_holds (assigns left o right) is f = assigned_holds left o right f
  deed_holds (tests None) is f = (tt, (type.Int, (refl, refl)))
  deed_holds (tests (Some e)) is f = condition_tested e f
  deed_holds (switches e) is f = switched e f
  deed_holds jumps is f = (tt, tt)
  deed_holds idles is f = (tt, tt)
  deed_holds (returns given) is f = returned given f
  deed_holds ends is f = (tt, (refl, zero_serves (at_point l locals None) result.kind))
