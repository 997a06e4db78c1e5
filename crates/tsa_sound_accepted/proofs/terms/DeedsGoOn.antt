-- A deed with a call may go on by each outcome that its action can have.
use Rattle.std.proofs.Common.{◌≡◌, ℕ, true, false, Option, Some, None, IsSome, is_some, refl, sym, ap, subst}
use Rattle.tsa_tree.specs.declarations.Syntax.{Initialiser, value, list}
use Rattle.tsa_tree.specs.declared.expr.BinaryOp.{BinaryOp}
use Rattle.tsa_tree.specs.declared.kind.ExpressionType.{ExpressionType}
use Rattle.tsa_tree.specs.declared.kind.Kind.{Kind}
use Rattle.tsa_tree.specs.declared.number.Number.{Number}
use Rattle.tsa_tree.specs.expressions.Syntax.{Expression}
use Rattle.tsa_tree.specs.points.Syntax.{Deed, declares, evaluates, assigns, tests, switches, jumps, idles, returns, ends}
use Rattle.tsa_tree.specs.types.Constants.{constant_of}
use Rattle.tsa_tree.specs.types.DeclaredTypes.{thing_type, typed_value, value_in}
use Rattle.tsa_tree.specs.types.Expressions.{type_of}
use Rattle.tsa_tree.specs.types.Scopes.{Scope, context_of}
use Rattle.tsa_core.specs.Bodies.{evaluate, set_local, set_cell, declare, test, give, can_have, right_side, set_to, declared, point_by}
use Rattle.tsa_core.specs.Bodies.{zero_term}
use Rattle.tsa_core.specs.Control.{Outcome, Next, Yes, No, Rest, Chosen}
use Rattle.tsa_core.specs.Laws.{goes_by, is_chosen, is_told}
use Rattle.tsa_core.specs.Meanings.{Call, as_kind, call_in, loaded, meaning}
use Rattle.tsa_core.specs.Terms.{Term, constant, variable, answer, global, member, element, target, load, address, converted, prefixed}
use Rattle.tsa_core.specs.Terms.{joined}
use Rattle.tsa_core.proofs.ValuesServe.{no_call, constant_free}
use Rattle.tsa_base.proofs.Truths.{never}

-- what goes on behind itself has the one outcome
abbrev IsNext : Outcome → Type 0
IsNext Next = Unit {0}
IsNext o = ⊥

set_next : (x : Term) (o : Option BinaryOp) (kind : Kind) (r : Term) (out : Outcome) → can_have (set_to x o kind r) out ≡ true → IsNext out
set_next x o kind r out h = by x out h
  where
    to_local : (n : ℕ) (out : Outcome) → can_have (set_local n o kind r) out ≡ true → IsNext out
    to_local n Next h = tt
    to_local n Yes h = never (sym h)
    to_local n No h = never (sym h)
    to_local n Rest h = never (sym h)
    to_local n (Chosen z) h = never (sym h)

    to_cell : (x : Term) (out : Outcome) → can_have (set_cell x o kind r) out ≡ true → IsNext out
    to_cell x Next h = tt
    to_cell x Yes h = never (sym h)
    to_cell x No h = never (sym h)
    to_cell x Rest h = never (sym h)
    to_cell x (Chosen z) h = never (sym h)

    by : (x : Term) (out : Outcome) → can_have (set_to x o kind r) out ≡ true → IsNext out
    by (variable n) out h = to_local n out h
    by (global n) out h = to_cell (global n) out h
    by (member base n) out h = to_cell (member base n) out h
    by (element base i) out h = to_cell (element base i) out h
    by (target p) out h = to_cell (target p) out h
    by (constant v) out h = to_cell (constant v) out h
    by answer out h = to_cell answer out h
    by (load s p) out h = to_cell (load s p) out h
    by (address p) out h = to_cell (address p) out h
    by (converted to y) out h = to_cell (converted to y) out h
    by (prefixed u y) out h = to_cell (prefixed u y) out h
    by (joined b y z) out h = to_cell (joined b y z) out h

-- a test with a call is no constant
no_value : (here : Scope) (e : Expression) → IsSome (call_in here e) → value_in (context_of here) e ≡ None
no_value here e h = typed (type_of (context_of here) e) (by (constant_of (context_of here) e) refl)
  where
    called : {A : Type 0} → call_in here e ≡ None → A
    called is = never (sym (subst IsSome is h))

    by : (o : Option Number) → constant_of (context_of here) e ≡ o → constant_of (context_of here) e ≡ None
    by None is = is
    by (Some n) is = called (no_call here e (constant_free (context_of here) e (ap is_some is)))

    typed : (o : Option ExpressionType) → constant_of (context_of here) e ≡ None → typed_value o (constant_of (context_of here) e) ≡ None
    typed None is = refl
    typed (Some t) is = is

abbrev pub MayGo : Scope → Deed → Outcome → Type 0
MayGo here d o = (goes_by here d o ≡ true) × (is_chosen o ≡ false)

by_test : (here : Scope) (e : Expression) (v : Term) (o : Outcome) → value_in (context_of here) e ≡ None → can_have (test v) o ≡ true → MayGo here (tests (Some e)) o
by_test here e v Yes none h = (ap (λ n. is_told n Yes) none, refl)
by_test here e v No none h = (ap (λ n. is_told n No) none, refl)
by_test here e v Next none h = never (sym h)
by_test here e v Rest none h = never (sym h)
by_test here e v (Chosen z) none h = never (sym h)

not_called : {A : Type 0} → IsSome {T = Call} None → A
not_called h = never (sym h)

by_declaration : (n : ℕ) (kind : Kind) (x : Term) (o : Outcome) → can_have (declare n kind x) o ≡ true → IsNext o
by_declaration n kind x Next h = tt
by_declaration n kind x Yes h = never (sym h)
by_declaration n kind x No h = never (sym h)
by_declaration n kind x Rest h = never (sym h)
by_declaration n kind x (Chosen z) h = never (sym h)

by_init : (here : Scope) (kind : Kind) (i : Option Initialiser) (o : Outcome) → can_have (declared here kind i).action o ≡ true → IsNext o
by_init here kind None o h = by_declaration here.locals kind (zero_term kind) o h
by_init here kind (Some (value e)) o h = by_declaration here.locals kind (as_kind kind (meaning here e)) o h
by_init here kind (Some (list items span)) o h = by_declaration here.locals kind (zero_term kind) o h

by_value : (x : Term) (o : Outcome) → can_have (evaluate x) o ≡ true → IsNext o
by_value x Next h = tt
by_value x Yes h = never (sym h)
by_value x No h = never (sym h)
by_value x Rest h = never (sym h)
by_value x (Chosen z) h = never (sym h)

pub deed_goes : (here : Scope) (result : Kind) (d : Deed) (o : Outcome) → IsSome (point_by here result d).call → can_have (point_by here result d).action o ≡ true → MayGo here d o
deed_goes here result (declares d) o call h = by o (by_init here (thing_type here d.ctype).kind d.init o h)
  where
    by : (o : Outcome) → IsNext o → MayGo here (declares d) o
    by Next is = (refl, refl)
    by Yes is = absurd is
    by No is = absurd is
    by Rest is = absurd is
    by (Chosen z) is = absurd is
deed_goes here result (evaluates e) o call h = by o (by_value (loaded (meaning here e)) o h)
  where
    by : (o : Outcome) → IsNext o → MayGo here (evaluates e) o
    by Next is = (refl, refl)
    by Yes is = absurd is
    by No is = absurd is
    by Rest is = absurd is
    by (Chosen z) is = absurd is
deed_goes here result (assigns left op right) o call h =
    by o (set_next (meaning here left).term op (meaning here left).type.thing.kind (right_side op (meaning here left).type.thing.kind (meaning here right)) o h)
  where
    by : (o : Outcome) → IsNext o → MayGo here (assigns left op right) o
    by Next is = (refl, refl)
    by Yes is = absurd is
    by No is = absurd is
    by Rest is = absurd is
    by (Chosen z) is = absurd is
deed_goes here result (tests None) o call h = not_called call
deed_goes here result (tests (Some e)) o call h = by_test here e (loaded (meaning here e)) o (no_value here e call) h
deed_goes here result (switches e) o call h = not_called call
deed_goes here result jumps o call h = not_called call
deed_goes here result idles o call h = not_called call
deed_goes here result (returns None) o call h = not_called call
deed_goes here result (returns (Some e)) o call h = absurd (by (as_kind result (meaning here e)) o h)
  where
    by : (x : Term) (o : Outcome) → can_have (give result x) o ≡ true → ⊥
    by x Next g = never (sym g)
    by x Yes g = never (sym g)
    by x No g = never (sym g)
    by x Rest g = never (sym g)
    by x (Chosen z) g = never (sym g)
deed_goes here result ends o call h = not_called call
