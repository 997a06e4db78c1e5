-- What typing says of left sides, of locals that begin, and of assignments.
use Rattle.std.proofs.Common.{◌≡◌, ◌∙◌, ℕ, List, Bool, true, false, ◌&&◌, ◌∷◌, ◌++◌, Option, Some, None, refl, sym, ap, subst}
use Rattle.tsa_base.specs.declared.token.Span.{Span}
use Rattle.tsa_base.proofs.Truths.{never}
use Rattle.tsa_tree.specs.declarations.Syntax.{Declaration}
use Rattle.tsa_tree.specs.declared.expr.BinaryOp.{BinaryOp}
use Rattle.tsa_tree.specs.declared.kind.ExpressionType.{ExpressionType}
use Rattle.tsa_tree.specs.points.Syntax.{expression_span}
use Rattle.tsa_tree.specs.types.Expressions.{type_of, premises_of}
use Rattle.tsa_tree.specs.types.Operands.{lacks}
use Rattle.tsa_tree.specs.types.Runnable.{has_call, is_free, is_whole}
use Rattle.tsa_tree.specs.types.Simple.{assignment_breaks, is_written_to, written_type, assignment_premises}
use Rattle.tsa_tree.specs.declared.expr.UnaryOp.TheVariants as prefix
use Rattle.tsa_tree.specs.declared.kind.Declaring.TheVariants as declaring
use Rattle.tsa_tree.specs.declared.kind.Resolved.{Resolved}
use Rattle.tsa_tree.specs.declared.kind.Resolved.TheVariants as written
use Rattle.tsa_tree.specs.declared.meaning.Entry.{Entry}
use Rattle.tsa_tree.specs.declared.meaning.Meaning.TheVariants as meant
use Rattle.tsa_tree.specs.declared.premise.Bearer.TheVariants as on
use Rattle.tsa_tree.specs.declared.premise.TypeCode.TheVariants.{TY2, TY3, TY5}
use Rattle.tsa_tree.specs.expressions.Syntax.{Expression, number, null, named, call, unary, binary, field, index}
use Rattle.tsa_tree.specs.types.Attributes.{attributes_premises}
use Rattle.tsa_tree.specs.types.DeclaredTypes.{resolve, thing_type, is_refused, type_premise, unknown_tag, length_premises, parts_premises}
use Rattle.tsa_tree.specs.types.Locals.{has_type, init_breaks, names_in, local_premises}
use Rattle.tsa_tree.specs.types.Premises.{premise, first}
use Rattle.tsa_tree.specs.types.Scopes.{Scope, context_of, known_in, is_taken}
use Rattle.tsa_core.specs.Meanings.{of_name, of_call, meaning}
use Rattle.tsa_core.proofs.KindTests.{both_true, not_true}
use Rattle.tsa_core.proofs.KindsOfTerms.{typed}
use Rattle.tsa_core.proofs.NoFailure.{none_of_both, none_of_first, keeps_typed}
use Rattle.tsa_core.proofs.SetsHold.{passes_typed, is_left, left_name, left_member, value_binary, written_is}

-- a left side is a local or a place
module _ (here : Scope) (none_owned : (name : List ℕ) (e : Entry) → known_in here name ≡ Some e → e.meaning ≡ meant.Owned → ⊥) where
  pub left_holds : (e : Expression) → (meaning here e).type.is_place ≡ true → is_left (meaning here e).term ≡ true
  unfolding meaning
  left_holds (number n true span) h = never (sym h)
  left_holds (number n false span) h = never (sym h)
  left_holds (null span) h = never (sym h)
  left_holds (named name span) h = by (known_in here name.text) refl h
    where
      by : (o : Option Entry) → known_in here name.text ≡ o → (of_name o).type.is_place ≡ true → is_left (of_name o).term ≡ true
      by None is h = never (sym h)
      by (Some x) is h = left_name x.meaning x.thing h (λ means. none_owned name.text x is means)
  left_holds (call callee args span) h = by (known_in here callee.text) h
    where
      by : (o : Option Entry) → (of_call o).type.is_place ≡ true → is_left (of_call o).term ≡ true
      by None h = never (sym h)
      by (Some x) h = never (sym h)
  left_holds (unary prefix.Follow inner span) h = refl
  left_holds (unary prefix.Minus inner span) h = never (sym h)
  left_holds (unary prefix.Not inner span) h = never (sym h)
  left_holds (unary prefix.Flip inner span) h = never (sym h)
  left_holds (unary prefix.Address inner span) h = never (sym h)
  left_holds (binary o left right span) h = never (sym h ∙ value_binary o (meaning here left).type (meaning here right).type)
  left_holds (field base name arrow span) h = left_member arrow (meaning here base) _ h
  left_holds (index base at span) h = refl

-- a local that begins
type_is : (here : Scope) (r : Resolved) → is_refused here declaring.Thing r ≡ false → first (unknown_tag r) ≡ None → has_type r ≡ true
unfolding first
type_is here (written.Type t) e f = refl
type_is here (written.Unknown span) e f = absurd cc
type_is here written.Refused e f = never e

and_false : (a b : Bool) → (a && b) ≡ false → a ≡ true → b ≡ false
and_false true b e f = e
and_false false b e f = never (sym f)

pub init_told : (here : Scope) (d : Declaration) → first (local_premises here d) ≡ None → (init_breaks here (thing_type here d.ctype) d.init ≡ false) × ((first (names_in here d.init) ≡ None) × (is_refused here declaring.Thing (resolve here d.ctype) ≡ false))
unfolding local_premises
init_told here d h =
    let rest = attributes_premises here on.Local d.attrs ++ names_in here d.init in
    let breaks = has_type (resolve here d.ctype) && init_breaks here (thing_type here d.ctype) d.init in
    let parts = parts_premises here d.ctype ++ rest in
    let a = none_of_first TY2 d.span (is_taken d.name.text here) (type_premise here declaring.Thing d.span d.ctype ∷ premise TY3 d.span breaks ∷ parts) h in
    let b = none_of_first TY3 d.span (is_refused here declaring.Thing (resolve here d.ctype)) (premise TY3 d.span breaks ∷ parts) a.1 in
    let c = none_of_first TY3 d.span breaks parts b.1 in
    let e = none_of_both (parts_premises here d.ctype) rest c.1 in
    let u = none_of_both (unknown_tag (resolve here d.ctype)) (length_premises (context_of here) d.ctype.length) e.0 in (
      and_false (has_type (resolve here d.ctype)) (init_breaks here (thing_type here d.ctype) d.init) c.0 (type_is here (resolve here d.ctype) b.0 u.0),
      ((none_of_both (attributes_premises here on.Local d.attrs) (names_in here d.init) e.1).1, b.0),
    )

-- what typing says of an assignment
pub record SetTold (here : Scope) (left : Expression) (o : Option BinaryOp) (right : Expression) : Type 0 where
  pub t : ExpressionType
  pub u : ExpressionType
  pub left_typed : type_of (context_of here) left ≡ Some t
  pub right_typed : type_of (context_of here) right ≡ Some u
  pub written : is_written_to (meaning here left).type ≡ true
  pub free : has_call left ≡ false
  pub kept : first (premises_of (context_of here) right) ≡ None
  pub whole : is_whole right ≡ true
  pub breaks : assignment_breaks o (Some (meaning here left).type) (Some (meaning here right).type) ≡ false

pub set_told : (here : Scope) (left : Expression) (o : Option BinaryOp) (right : Expression) (span : Span) → first (assignment_premises (context_of here) left o right span) ≡ None
    → (is_free left && is_whole right) ≡ true → SetTold here left o right
unfolding assignment_premises
set_told here left o right span h runs =
    let c = context_of here in
    let a = none_of_first TY3 span (assignment_breaks o (written_type (type_of c left)) (type_of c right))
    (premises_of c left ++ premise TY5 (expression_span left) (lacks is_written_to (type_of c left)) ∷ premises_of c right) h in
    let b = none_of_both (premises_of c left) (premise TY5 (expression_span left) (lacks is_written_to (type_of c left)) ∷ premises_of c right) a.1 in
    let d = none_of_first TY5 (expression_span left) (lacks is_written_to (type_of c left)) (premises_of c right) b.1 in
    let t = keeps_typed c left b.0 in
    let u = keeps_typed c right d.1 in
    let there = typed here left t.0 t.1 in
    let is = passes_typed is_written_to (type_of c left) (meaning here left).type there d.0 in
    let both = both_true (is_free left) (is_whole right) runs in
    record {
      t = t.0;
      u = u.0;
      left_typed = t.1;
      right_typed = u.1;
      written = is;
      free = not_true (has_call left) both.0;
      kept = d.1;
      whole = both.1;
      breaks =
          subst (λ p. assignment_breaks o (Some (meaning here left).type) p ≡ false) (typed here right u.0 u.1)
          (subst (λ p. assignment_breaks o p (type_of c right) ≡ false) (ap written_type there ∙ written_is (meaning here left).type is) a.0);
    }
