-- Where a value of a kind is wanted, what an expression means serves; and a call's answer is that of its point.
use Rattle.std.proofs.Common.{◌≡◌, ◌∙◌, ℕ, nat_eq, Bool, true, false, not, ◌&&◌, ◌||◌, Some, None, is_some, is_none, option_and_then}
use Rattle.std.proofs.Common.{if◌then◌else◌, refl, sym, ap, ap₂}
use Rattle.tsa_tree.specs.declared.expr.BinaryOp.TheVariants as op
use Rattle.tsa_tree.specs.declared.expr.UnaryOp.TheVariants as prefix
use Rattle.tsa_tree.specs.declared.kind.ExpressionType.{ExpressionType}
use Rattle.tsa_tree.specs.declared.kind.Kind.{Kind}
use Rattle.tsa_tree.specs.declared.kind.Kind.TheVariants as type
use Rattle.tsa_tree.specs.declared.kind.ThingType.{ThingType}
use Rattle.tsa_tree.specs.expressions.Syntax.{Expression, number, null, named, call, unary, binary, field, index}
use Rattle.tsa_tree.specs.types.Constants.{is_made_of_constants, takes_integers, without_trap, worked, constant_of}
use Rattle.tsa_tree.specs.types.Known.{Context}
use Rattle.tsa_tree.specs.types.Operands.{integer_kind, pointer_kind, unsigned_kind, is_single, is_integer, is_scalar, target_of}
use Rattle.tsa_tree.specs.types.Operands.{same_target, keeps_const, goes_to}
use Rattle.tsa_tree.specs.types.Runnable.{has_call, is_small, is_scalar_kind}
use Rattle.tsa_tree.specs.types.Scopes.{Scope}
use Rattle.tsa_core.specs.Kinds.{Setting, scalar_kind, conversion_kind, value_kind, GiveAnswer}
use Rattle.tsa_core.specs.Meanings.{is_structure, loaded, is_int, as_kind, null_pointer, or_call, call_in}
use Rattle.tsa_core.specs.PointKinds.{serves, Serves}
use Rattle.tsa_core.specs.Terms.{Term, converted, Sense}
use Rattle.tsa_core.proofs.KindTests.{both_true, neither, one_of, and_true, pointer_plain, integer_plain, scalar_plain, scalar_small}
use Rattle.tsa_core.proofs.KindTests.{integer_is, scalar_is}
use Rattle.tsa_core.proofs.KindsOfOperators.{Holds, integer_loaded, pointer_loaded}
use Rattle.tsa_base.proofs.Truths.{never}

-- A value where one of a kind is wanted.
pub no_pointer : {A : Type 0} (i z s : Bool) → ((i && false) || ((z && false) || (s && false))) ≡ true → A
no_pointer true true true e = never (sym e)
no_pointer true true false e = never (sym e)
no_pointer true false true e = never (sym e)
no_pointer true false false e = never (sym e)
no_pointer false true true e = never (sym e)
no_pointer false true false e = never (sym e)
no_pointer false false true e = never (sym e)
no_pointer false false false e = never (sym e)

pub integer_alone : (i z s : Bool) → ((i && true) || ((z && false) || (s && false))) ≡ true → i ≡ true
integer_alone true z s e = refl
integer_alone false true true e = never (sym e)
integer_alone false true false e = never (sym e)
integer_alone false false true e = never (sym e)
integer_alone false false false e = never (sym e)

pointer_serves : (kind : Kind) (n : ℕ) (c : Bool) → same_target kind (type.Pointer n c) ≡ true → keeps_const kind (type.Pointer n c) ≡ true
    → (pointer_kind kind ≡ true) × (serves kind (type.Pointer n c) ≡ true)
pointer_serves type.Null n c e f = (refl, refl)
pointer_serves (type.Pointer m true) n true e f = (refl, and_true (nat_eq m n) true e refl)
pointer_serves (type.Pointer m true) n false e f = never (sym f)
pointer_serves (type.Pointer m false) n c e f = (refl, and_true (nat_eq m n) true e refl)
pointer_serves type.Int n c e f = never (sym e)
pointer_serves type.Unsigned n c e f = never (sym e)
pointer_serves type.Void n c e f = never (sym e)
pointer_serves (type.Structure m) n c e f = never (sym e)
pointer_serves type.Function n c e f = never (sym e)

module _ (k : Setting) where
  int_served : (x : Term) (kind : Kind) → value_kind k x ≡ Some kind → integer_kind kind ≡ true → Serves k (if unsigned_kind kind then converted type.Int x else x) type.Int
  int_served x type.Int h e = (type.Int, (h, refl))
  int_served x type.Unsigned h e = (type.Int, (ap (option_and_then (conversion_kind type.Int)) h, refl))
  int_served x type.Void h e = never (sym e)
  int_served x (type.Structure n) h e = never (sym e)
  int_served x (type.Pointer n c) h e = never (sym e)
  int_served x type.Null h e = never (sym e)
  int_served x type.Function h e = never (sym e)

  unsigned_served : (x : Term) (kind : Kind) → value_kind k x ≡ Some kind → integer_kind kind ≡ true → Serves k (if is_int kind then converted type.Unsigned x else x) type.Unsigned
  unsigned_served x type.Int h e = (type.Unsigned, (ap (option_and_then (conversion_kind type.Unsigned)) h, refl))
  unsigned_served x type.Unsigned h e = (type.Unsigned, (h, refl))
  unsigned_served x type.Void h e = never (sym e)
  unsigned_served x (type.Structure n) h e = never (sym e)
  unsigned_served x (type.Pointer n c) h e = never (sym e)
  unsigned_served x type.Null h e = never (sym e)
  unsigned_served x type.Function h e = never (sym e)

  null_or : (b : Bool) (x : Term) (kind : Kind) → b ≡ true → value_kind k (if b then null_pointer else x) ≡ Some type.Null
  null_or true x kind e = refl
  null_or false x kind e = never (sym e)

  itself_or : (b : Bool) (x : Term) (kind : Kind) → b ≡ false → value_kind k x ≡ Some kind → value_kind k (if b then null_pointer else x) ≡ Some kind
  itself_or true x kind e h = never e
  itself_or false x kind e h = h

  module _ (s : Sense) (h : Holds k s.term s.type) where
    abbrev Goes : Kind → Bool
    Goes w =
        (is_integer s.type && integer_kind w)
        || ((s.type.is_zero && is_some (target_of w))
        || (is_single s.type && (is_some (target_of w) && (same_target s.type.thing.kind w && keeps_const s.type.thing.kind w))))

    pub ServesAs : Kind → Type 0
    ServesAs w = (scalar_kind w ≡ true) × Serves k (as_kind w s) w

    to_pointer : (n : ℕ) (c : Bool) → Goes (type.Pointer n c) ≡ true → ServesAs (type.Pointer n c)
    unfolding ServesAs
    to_pointer n c e =
        one_of (is_integer s.type && false) _ e (λ i. never (sym (both_true (is_integer s.type) false i).1))
        (λ d.
        one_of (s.type.is_zero && true) _ d
        (λ z. (refl, (type.Null, (null_or (integer_kind s.type.thing.kind) (loaded s) type.Null (h.zero (both_true s.type.is_zero true z).0), refl))))
        (λ p.
        let x = both_true (is_single s.type) (same_target s.type.thing.kind (type.Pointer n c) && keeps_const s.type.thing.kind (type.Pointer n c)) p in
        let y = both_true (same_target s.type.thing.kind (type.Pointer n c)) (keeps_const s.type.thing.kind (type.Pointer n c)) x.1 in
        let t = pointer_serves s.type.thing.kind n c y.0 y.1 in (
          refl,
          (
            s.type.thing.kind,
            (itself_or (integer_kind s.type.thing.kind) (loaded s) s.type.thing.kind (pointer_plain s.type.thing.kind t.0).2 (pointer_loaded k s h x.0 t.0), t.1),
          ),
        )))

    goes_by : (w : Kind) → Goes w ≡ true → ServesAs w
    unfolding ServesAs
    goes_by type.Int e =
        let i = integer_alone (is_integer s.type) s.type.is_zero (is_single s.type) e in
        (refl, int_served (loaded s) s.type.thing.kind (integer_loaded k s h i) (integer_is s.type i).1)
    goes_by type.Unsigned e =
        let i = integer_alone (is_integer s.type) s.type.is_zero (is_single s.type) e in
        (refl, unsigned_served (loaded s) s.type.thing.kind (integer_loaded k s h i) (integer_is s.type i).1)
    goes_by (type.Pointer n c) e = to_pointer n c e
    goes_by type.Void e = no_pointer (is_integer s.type) s.type.is_zero (is_single s.type) e
    goes_by (type.Structure n) e = no_pointer (is_integer s.type) s.type.is_zero (is_single s.type) e
    goes_by type.Null e = no_pointer (is_integer s.type) s.type.is_zero (is_single s.type) e
    goes_by type.Function e = no_pointer (is_integer s.type) s.type.is_zero (is_single s.type) e

    -- what may go to a thing serves its kind
    pub goes_served : (t : ThingType) → goes_to s.type t ≡ true → (is_none t.length ≡ true) × ((scalar_kind t.kind ≡ true) × Serves k (as_kind t.kind s) t.kind)
    unfolding ServesAs
    goes_served t e = let both = both_true (is_none t.length) (Goes t.kind) e in (both.0, goes_by t.kind both.1)

-- what goes to a thing is small
pub small_goes : (t : ExpressionType) (w : ThingType) → goes_to t w ≡ true → t.is_zero ≡ false → is_small t.thing ≡ true
small_goes t w e plain =
    one_of (is_integer t && integer_kind w.kind) _ (both_true (is_none w.length) _ e).1
    (λ i. let x = integer_is t (both_true (is_integer t) (integer_kind w.kind) i).0 in small_is t x.0 (integer_plain t.thing.kind x.1).0)
    (λ d. one_of (t.is_zero && is_some (target_of w.kind)) _ d (λ z. never (sym (both_true t.is_zero (is_some (target_of w.kind)) z).0 ∙ plain))
    (λ p. let x = both_true (is_single t) _ p in
    let y = both_true (is_some (target_of w.kind)) _ x.1 in
    let z = both_true (same_target t.thing.kind w.kind) (keeps_const t.thing.kind w.kind) y.1 in
    small_is t x.0 (no_struct_target t.thing.kind w.kind z.0)))
  where
    small_is : (t : ExpressionType) → is_single t ≡ true → is_structure t.thing.kind ≡ false → is_small t.thing ≡ true
    small_is t one plain = and_true (is_scalar_kind t.thing.kind) (not (is_some t.thing.length)) (scalar_small t.thing.kind plain) one

    no_struct_target : (a b : Kind) → same_target a b ≡ true → is_structure a ≡ false
    no_struct_target (type.Structure n) b e = never (sym e)
    no_struct_target type.Int b e = refl
    no_struct_target type.Unsigned b e = refl
    no_struct_target type.Void b e = refl
    no_struct_target (type.Pointer n c) b e = refl
    no_struct_target type.Null b e = refl
    no_struct_target type.Function b e = refl

pub small_scalar : (t : ExpressionType) → is_scalar t ≡ true → is_small t.thing ≡ true
small_scalar t e =
    let x = scalar_is t e in
    and_true (is_scalar_kind t.thing.kind) (not (is_some t.thing.length)) (scalar_small t.thing.kind (scalar_plain t.thing.kind x.1).0) x.0

-- Expressions without a call use no answer.
pub free_gives : (here : Scope) (k : Setting) (e : Expression) → has_call e ≡ false → GiveAnswer here k e
free_gives here k (number n u span) h = tt
free_gives here k (null span) h = tt
free_gives here k (named name span) h = tt
free_gives here k (call callee args span) h = never h
free_gives here k (unary o inner span) h = free_gives here k inner h
free_gives here k (binary o left right span) h =
    let both = neither (has_call left) (has_call right) h in (free_gives here k left both.0, free_gives here k right both.1)
free_gives here k (field base name arrow span) h = free_gives here k base h
free_gives here k (index base at span) h =
    let both = neither (has_call base) (has_call at) h in (free_gives here k base both.0, free_gives here k at both.1)

pub no_call : (here : Scope) (e : Expression) → has_call e ≡ false → call_in here e ≡ None
unfolding call_in
no_call here (number n u span) h = refl
no_call here (null span) h = refl
no_call here (named name span) h = refl
no_call here (call callee args span) h = never h
no_call here (unary prefix.Not inner span) h = no_call here inner h
no_call here (unary prefix.Minus inner span) h = refl
no_call here (unary prefix.Flip inner span) h = refl
no_call here (unary prefix.Address inner span) h = refl
no_call here (unary prefix.Follow inner span) h = refl
no_call here (binary op.Equal left right span) h =
    let both = neither (has_call left) (has_call right) h in ap₂ or_call (no_call here left both.0) (no_call here right both.1)
no_call here (binary op.Unequal left right span) h =
    let both = neither (has_call left) (has_call right) h in ap₂ or_call (no_call here left both.0) (no_call here right both.1)
no_call here (binary op.Or left right span) h = refl
no_call here (binary op.And left right span) h = refl
no_call here (binary op.BitOr left right span) h = refl
no_call here (binary op.BitXor left right span) h = refl
no_call here (binary op.BitAnd left right span) h = refl
no_call here (binary op.Less left right span) h = refl
no_call here (binary op.More left right span) h = refl
no_call here (binary op.LessEqual left right span) h = refl
no_call here (binary op.MoreEqual left right span) h = refl
no_call here (binary op.Plus left right span) h = refl
no_call here (binary op.Minus left right span) h = refl
no_call here (binary op.Times left right span) h = refl
no_call here (binary op.Divide left right span) h = refl
no_call here (binary op.Remainder left right span) h = refl
no_call here (field base name arrow span) h = refl
no_call here (index base at span) h = refl

-- a constant has no call
made_free : (c : Context) (e : Expression) → is_made_of_constants c e ≡ true → has_call e ≡ false
made_free c (number n u span) h = refl
made_free c (null span) h = refl
made_free c (named name span) h = refl
made_free c (call callee args span) h = never (sym h)
made_free c (unary o inner span) h = made_free c inner (both_true (takes_integers o) (is_made_of_constants c inner) h).1
made_free c (binary o left right span) h =
    let both = both_true (is_made_of_constants c left) (is_made_of_constants c right) h in
    ap₂ (λ a b. a || b) (made_free c left both.0) (made_free c right both.1)
made_free c (field base name arrow span) h = never (sym h)
made_free c (index base at span) h = never (sym h)

pub constant_free : (c : Context) (e : Expression) → is_some (constant_of c e) ≡ true → has_call e ≡ false
unfolding constant_of
constant_free c e h = by (is_made_of_constants c e) refl h
  where
    by : (b : Bool) → is_made_of_constants c e ≡ b → is_some (if b then without_trap (worked c e) else None) ≡ true → has_call e ≡ false
    by true is h = made_free c e is
    by false is h = never (sym h)
