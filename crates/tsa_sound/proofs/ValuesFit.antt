-- What is worked out has the kind that is told of its term.
use Rattle.std.proofs.Common.{◌≡◌, ◌∙◌, ℕ, Bool, true, false, not, ◌&&◌, Option, Some, None, Result, Ok, Err, if◌then◌else◌, refl, ap, sym}
use Rattle.std.proofs.Common.{subst}
use Rattle.tsa_base.specs.declared.value.Value.{Value}
use Rattle.tsa_base.specs.declared.value.Value.TheVariants.{Int, Unsigned, Pointer}
use Rattle.tsa_tree.specs.declared.expr.BinaryOp.{BinaryOp}
use Rattle.tsa_tree.specs.declared.expr.BinaryOp.TheVariants as op
use Rattle.tsa_tree.specs.declared.expr.UnaryOp.{UnaryOp}
use Rattle.tsa_tree.specs.declared.expr.UnaryOp.TheVariants as prefix
use Rattle.tsa_tree.specs.declared.kind.Kind.{Kind}
use Rattle.tsa_tree.specs.declared.kind.Kind.TheVariants as type
use Rattle.tsa_tree.specs.declared.number.Number.{Number}
use Rattle.tsa_tree.specs.declared.number.Number.TheVariants as numeral
use Rattle.tsa_tree.specs.declared.number.Trap.{Trap}
use Rattle.tsa_tree.specs.declared.number.Trap.TheVariants.{Overflow, Division}
use Rattle.tsa_tree.specs.types.Arithmetic.{operate, operate_prefix}
use Rattle.tsa_tree.specs.types.Operands.{integer_kind}
use Rattle.tsa_place_model.specs.Calls.{Layout}
use Rattle.tsa_place_model.specs.Items as cell
use Rattle.tsa_core.specs.Kinds.{Setting, binary_kind, conversion_kind, if_so, of_both, place_type, pointer_kind_to, prefix_kind, struct_in}
use Rattle.tsa_core.specs.Kinds.{value_kind}
use Rattle.tsa_core.specs.Meanings.{of_number}
use Rattle.tsa_place_model.specs.Stores.{is_value_of}
use Rattle.tsa_core.specs.Terms.{Term, constant, variable, answer, global, member, element, target, load, address, converted, prefixed}
use Rattle.tsa_core.specs.Terms.{joined}
use Rattle.tsa_path.specs.Values.{in_kind, is_true, number_in, of_truth, on_pointers}
use Rattle.tsa_sched.specs.declared.event.TrapKind.TheVariants as trap
use Rattle.tsa_mean.specs.Operators.{as_number, converted_to, joined_with, of_result, operate_on, prefix_on, truth_of}
use Rattle.tsa_mean.specs.Outs.{Out, bind, or_trap, reads, yields}
use Rattle.tsa_mean.specs.Working.{Locals, local_at, lvalue, rvalue}
use Rattle.tsa_sound.specs.Facts.{IsWhole}
use Rattle.tsa_sound.specs.LaidOut.{LaidOut}
use Rattle.tsa_sound.specs.PartlyWorked.{IsOfKind, IsWorked}
use Rattle.tsa_sound.specs.TermFacts.{TermFits}
use Rattle.tsa_sound.proofs.Constants.{differ}
use Rattle.tsa_sound.proofs.NumbersStay.{IsGood, NumberFits, int_fits, kind_of, operated_good, prefix_good, truth_fits, unsigned_fits}
use Rattle.tsa_sound.proofs.PlacesStand.{chained, mapped, pointer_fits}
use Rattle.tsa_sound.proofs.Says.{bound, found_some}
use Rattle.tsa_sound.proofs.Tests.{never_yields, none_is_some, read_yields, same_some, same_yields}

-- a value of a kind, of which null is one
abbrev pub HasKind : Layout → Kind → Value → Type 0
HasKind l type.Null v = v ≡ Pointer None
HasKind l kind v = is_value_of l kind v ≡ true

module _ (l : Layout) where
  pub has_kind : (kind : Kind) (v : Value) → is_value_of l kind v ≡ true → HasKind l kind v
  has_kind type.Null v e = differ e
  has_kind type.Int v e = e
  has_kind type.Unsigned v e = e
  has_kind type.Void v e = e
  has_kind (type.Structure n) v e = e
  has_kind (type.Pointer n c) v e = e
  has_kind type.Function v e = e

  number_has : (n : Number) → NumberFits n → HasKind l (kind_of n) (of_number n)
  number_has (numeral.Int z) h = h
  number_has (numeral.Unsigned n) h = h

  truth_has : (b : Bool) → HasKind l type.Int (of_truth b)
  truth_has true = truth_fits true
  truth_has false = truth_fits false

  -- a value of a kind of integers is a number
  record IsNumber (kind : Kind) (v : Value) : Type 0 where
    pub number : Number
    pub is : v ≡ of_number number
    pub kind_is : kind ≡ kind_of number
    pub fits : NumberFits number

  number_of : (kind : Kind) (v : Value) → HasKind l kind v → (n : Number) → number_in v ≡ Some n → IsNumber kind v
  number_of type.Int (Int z) h n e = record { number = numeral.Int z; is = refl; kind_is = refl; fits = h }
  number_of type.Unsigned (Unsigned m) h n e = record { number = numeral.Unsigned m; is = refl; kind_is = refl; fits = h }
  number_of type.Null v h n e = none_is_some (sym (ap number_in h) ∙ e)
  number_of (type.Pointer m c) (Pointer p) h n e = none_is_some e
  number_of type.Int (Pointer p) h n e = none_is_some e
  number_of type.Unsigned (Pointer p) h n e = none_is_some e
  number_of type.Int (Unsigned m) h n e = differ h
  number_of type.Unsigned (Int z) h n e = differ h
  number_of (type.Pointer m c) (Int z) h n e = differ h
  number_of (type.Pointer m c) (Unsigned q) h n e = differ h
  number_of type.Void v h n e = differ h
  number_of (type.Structure m) v h n e = differ h
  number_of type.Function v h n e = differ h

  same_number : (v : Value) (n m : Number) → v ≡ of_number n → number_in v ≡ Some m → n ≡ m
  same_number v (numeral.Int z) m is e = same_some (sym (ap number_in is) ∙ e)
  same_number v (numeral.Unsigned z) m is e = same_some (sym (ap number_in is) ∙ e)

  -- what an operator gives is of the kind that is told
  result_has : (told : Option Kind) (kind : Kind) (r : Result Number Trap) (v : Value) → told ≡ Some kind → IsGood told r → of_result r ≡ yields v → HasKind l kind v
  result_has None kind r v is good e = none_is_some is
  result_has (Some k) kind (Ok n) v is good e =
      subst (HasKind l kind) (same_yields e) (subst (λ k. HasKind l k (of_number n)) (sym good.0 ∙ same_some is) (number_has n good.1))
  result_has (Some k) kind (Err Overflow) v is good e = never_yields e
  result_has (Some k) kind (Err Division) v is good e = never_yields e

  operated : (o : BinaryOp) → IsWhole o → (a b kind : Kind) (v w z : Value) → HasKind l a v → HasKind l b w → binary_kind o a b ≡ Some kind
      → bind (as_number v) (λ m. bind (as_number w) (λ n. of_result (operate o m n))) ≡ yields z → HasKind l kind z
  operated o whole a b kind v w z hv hw is e =
      let first = bound (as_number v) (λ m. bind (as_number w) (λ n. of_result (operate o m n))) z e in
      let second = bound (as_number w) (λ n. of_result (operate o first.0 n)) z first.2 in
      let m_is = found_some trap.NullPointer (number_in v) first.0 first.1 in
      let n_is = found_some trap.NullPointer (number_in w) second.0 second.1 in
      let m = number_of a v hv first.0 m_is in
      let n = number_of b w hw second.0 n_is in
      let same_m = same_number v m.number first.0 m.is m_is in
      let same_n = same_number w n.number second.0 n.is n_is in
      result_has (binary_kind o (kind_of m.number) (kind_of n.number)) kind (operate o first.0 second.0) z
      (sym (ap (λ k. binary_kind o k b) m.kind_is ∙ ap (binary_kind o (kind_of m.number)) n.kind_is) ∙ is)
      (subst (λ x. IsGood (binary_kind o (kind_of m.number) (kind_of n.number)) (operate o x second.0)) same_m
      (subst (λ y. IsGood (binary_kind o (kind_of m.number) (kind_of n.number)) (operate o m.number y)) same_n (operated_good o m.number n.number whole m.fits n.fits)))
      second.2

  prefix_has : (o : UnaryOp) (a kind : Kind) (v z : Value) → HasKind l a v → prefix_kind o a ≡ Some kind
      → bind (as_number v) (λ n. of_result (operate_prefix o n)) ≡ yields z → HasKind l kind z
  prefix_has o a kind v z h is e =
      let first = bound (as_number v) (λ n. of_result (operate_prefix o n)) z e in
      let n_is = found_some trap.NullPointer (number_in v) first.0 first.1 in
      let n = number_of a v h first.0 n_is in
      result_has (prefix_kind o (kind_of n.number)) kind (operate_prefix o first.0) z (sym (ap (prefix_kind o) n.kind_is) ∙ is)
      (subst (λ x. IsGood (prefix_kind o (kind_of n.number)) (operate_prefix o x)) (same_number v n.number first.0 n.is n_is) (prefix_good o n.number n.fits)) first.2

  if_kind : (b : Bool) (k kind : Kind) → if_so b k ≡ Some kind → k ≡ kind
  if_kind true k kind e = same_some e
  if_kind false k kind e = none_is_some e

  -- a truth is of the kind that is told
  truth_as : (b : Bool) (kind : Kind) (t : Bool) (z : Value) → if_so b type.Int ≡ Some kind → yields (of_truth t) ≡ yields z → HasKind l kind z
  truth_as b kind t z is e = subst (HasKind l kind) (same_yields e) (subst (λ k. HasKind l k (of_truth t)) (if_kind b type.Int kind is) (truth_has t))

  prefixed_has : (o : UnaryOp) (a kind : Kind) (v z : Value) → HasKind l a v → prefix_kind o a ≡ Some kind → prefix_on o v ≡ yields z → HasKind l kind z
  prefixed_has prefix.Not a kind v z h is e = truth_as _ kind (not (is_true v)) z is e
  prefixed_has o a kind v z h is e = prefix_has o a kind v z h is e

  truth_of_has : (b : Bool) (kind : Kind) (right : Out Value) (z : Value) → if_so b type.Int ≡ Some kind → truth_of right ≡ yields z → HasKind l kind z
  truth_of_has b kind right z is e = let w = bound right (λ w. yields (of_truth (is_true w))) z e in truth_as b kind (is_true w.0) z is w.2

  and_has : (t b : Bool) (kind : Kind) (right : Out Value) (z : Value) → if_so b type.Int ≡ Some kind
      → (if t then truth_of right else yields (of_truth false)) ≡ yields z → HasKind l kind z
  and_has true b kind right z is e = truth_of_has b kind right z is e
  and_has false b kind right z is e = truth_as b kind false z is e

  or_has : (t b : Bool) (kind : Kind) (right : Out Value) (z : Value) → if_so b type.Int ≡ Some kind
      → (if t then yields (of_truth true) else truth_of right) ≡ yields z → HasKind l kind z
  or_has true b kind right z is e = truth_as b kind true z is e
  or_has false b kind right z is e = truth_of_has b kind right z is e

  -- two pointers are equal or not
  pointers_have : (o : BinaryOp) (a b kind : Kind) (p q : Option ℕ) (z : Value) → binary_kind o a b ≡ Some kind → or_trap trap.NullPointer (on_pointers o p q) ≡ yields z → HasKind l kind z
  pointers_have op.Equal a b kind p q z is e = truth_as _ kind _ z is e
  pointers_have op.Unequal a b kind p q z is e = truth_as _ kind _ z is e
  pointers_have o a b kind p q z is e = never_yields e

  pub operation_has : (o : BinaryOp) → IsWhole o → (a b kind : Kind) (v w z : Value) → HasKind l a v → HasKind l b w → binary_kind o a b ≡ Some kind
      → operate_on o v w ≡ yields z → HasKind l kind z
  operation_has o whole a b kind (Pointer p) (Pointer q) z hv hw is e = pointers_have o a b kind p q z is e
  operation_has o whole a b kind (Int m) w z hv hw is e = operated o whole a b kind (Int m) w z hv hw is e
  operation_has o whole a b kind (Unsigned m) w z hv hw is e = operated o whole a b kind (Unsigned m) w z hv hw is e
  operation_has o whole a b kind (Pointer p) (Int m) z hv hw is e = operated o whole a b kind (Pointer p) (Int m) z hv hw is e
  operation_has o whole a b kind (Pointer p) (Unsigned m) z hv hw is e = operated o whole a b kind (Pointer p) (Unsigned m) z hv hw is e

  second_has : (o : BinaryOp) → IsWhole o → (a b kind : Kind) (v z : Value) (right : Out Value) → HasKind l a v → ((w : Value) → right ≡ yields w → HasKind l b w)
      → binary_kind o a b ≡ Some kind → bind right (λ w. operate_on o v w) ≡ yields z → HasKind l kind z
  second_has o whole a b kind v z right hv hw is e =
      let w = bound right (λ w. operate_on o v w) z e in operation_has o whole a b kind v w.0 z hv (hw w.0 w.1) is w.2

  joined_has : (o : BinaryOp) (a b kind : Kind) (v z : Value) (right : Out Value) → HasKind l a v → ((w : Value) → right ≡ yields w → HasKind l b w)
      → binary_kind o a b ≡ Some kind → joined_with o v right ≡ yields z → HasKind l kind z
  joined_has op.And a b kind v z right hv hw is e = and_has (is_true v) _ kind right z is e
  joined_has op.Or a b kind v z right hv hw is e = or_has (is_true v) _ kind right z is e
  joined_has o a b kind v z right hv hw is e = second_has o tt a b kind v z right hv hw is e

  -- a number that is converted
  pub conversion_has : (to a kind : Kind) (v z : Value) → HasKind l a v → conversion_kind to a ≡ Some kind → converted_to to v ≡ yields z → HasKind l kind z
  conversion_has to a kind v z h is e =
      let found = mapped (cell.converted to) (number_in v) z (found_some trap.NullPointer (in_kind to v) z e) in
      let n = number_of a v h found.0 found.1 in
      by to (integer_kind a) is found.0 (subst NumberFits (same_number v n.number found.0 n.is found.1) n.fits) found.2
    where
      by : (to : Kind) (b : Bool) → if_so (integer_kind to && b) to ≡ Some kind → (n : Number) → NumberFits n → cell.converted to n ≡ z → HasKind l kind z
      by type.Int b is n fits e = subst (HasKind l kind) e (subst (λ k. HasKind l k (cell.converted type.Int n)) (if_kind b type.Int kind is) (int_fits n fits))
      by type.Unsigned b is n fits e = subst (HasKind l kind) e (subst (λ k. HasKind l k (cell.converted type.Unsigned n)) (if_kind b type.Unsigned kind is) (unsigned_fits n fits))
      by type.Void b is n fits e = none_is_some is
      by (type.Structure m) b is n fits e = none_is_some is
      by (type.Pointer m c) b is n fits e = none_is_some is
      by type.Null b is n fits e = none_is_some is
      by type.Function b is n fits e = none_is_some is

both_kinds : (o : BinaryOp) (a b : Option Kind) (kind : Kind) → of_both (binary_kind o) a b ≡ Some kind
    → (x : Kind) × (y : Kind) × (a ≡ Some x) × (b ≡ Some y) × (binary_kind o x y ≡ Some kind)
both_kinds o (Some x) (Some y) kind e = (x, y, refl, refl, e)
both_kinds o None b kind e = none_is_some e
both_kinds o (Some x) None kind e = none_is_some e

module _ (k : Setting) (stable : ℕ → Bool) (locals : Locals) (laid : LaidOut k.layout)
    (typed : (n : ℕ) (kind : Kind) → k.locals n ≡ Some kind → is_value_of k.layout kind (local_at locals n) ≡ true) where
  constant_has : (v : Value) (kind : Kind) → TermFits k stable (constant v) → value_kind k (constant v) ≡ Some kind → HasKind k.layout kind v
  constant_has (Int z) kind fits e = subst (λ k'. HasKind k.layout k' (Int z)) (same_some e) fits
  constant_has (Unsigned n) kind fits e = subst (λ k'. HasKind k.layout k' (Unsigned n)) (same_some e) fits
  constant_has (Pointer None) kind fits e = subst (λ k'. HasKind k.layout k' (Pointer None)) (same_some e) refl
  constant_has (Pointer (Some p)) kind fits e = none_is_some e

  -- what a term is worked out to has its kind
  pub value_fits : (x y : Term) (kind : Kind) (v : Value) → TermFits k stable x → IsWorked k stable locals x y → value_kind k x ≡ Some kind → rvalue k.layout locals y ≡ yields v
      → HasKind k.layout kind v
  value_fits (constant w) (constant u) kind v fits is e value = subst (HasKind k.layout kind) (is ∙ same_yields value) (constant_has w kind fits e)
  value_fits (constant w) y kind v fits is e value = absurd is
  value_fits (variable m) (variable n) kind v fits is e value =
      subst (HasKind k.layout kind) (ap (local_at locals) is ∙ same_yields value) (has_kind k.layout kind (local_at locals m) (typed m kind e))
  value_fits answer answer kind v fits is e value = never_yields value
  value_fits answer (constant w) kind v fits is e value =
      subst (HasKind k.layout kind) (same_yields value) (has_kind k.layout kind w (subst (λ o. IsOfKind k.layout o w) e is))
  value_fits (load m s) (load q u) kind v fits is e value = let part = bound (lvalue k.layout locals u) (λ p. reads p) v value in read_yields part.2
  value_fits (load m s) (constant w) kind v fits is e value =
      subst (HasKind k.layout kind) (same_yields value) (has_kind k.layout kind w (subst (λ o. IsOfKind k.layout o w) e is.0))
  value_fits (address s) (address u) kind v fits is e value =
      let thing = chained pointer_kind_to (place_type k s) kind e in
      let struct = mapped (λ struct. type.Pointer struct thing.0.is_const) (struct_in thing.0) kind thing.2 in
      subst (λ k'. HasKind k.layout k' v) struct.2
      (pointer_fits k stable locals laid typed (address s) (address u) struct.0 thing.0.is_const v fits is (e ∙ ap Some (sym struct.2)) value)
  value_fits (converted to s) (converted n u) kind v fits is e value =
      let inner = chained (conversion_kind to) (value_kind k s) kind e in
      let part = bound (rvalue k.layout locals u) (λ w. converted_to n w) v value in
      conversion_has k.layout to inner.0 kind part.0 v (value_fits s u inner.0 part.0 fits is.1 inner.1 part.1) inner.2 (ap (λ t. converted_to t part.0) is.0 ∙ part.2)
  value_fits (prefixed o s) (prefixed q u) kind v fits is e value =
      let inner = chained (prefix_kind o) (value_kind k s) kind e in
      let part = bound (rvalue k.layout locals u) (λ w. prefix_on q w) v value in
      prefixed_has k.layout o inner.0 kind part.0 v (value_fits s u inner.0 part.0 fits is.1 inner.1 part.1) inner.2 (ap (λ t. prefix_on t part.0) is.0 ∙ part.2)
  value_fits (joined o a b) (joined q c d) kind v fits is e value =
      let kinds = both_kinds o (value_kind k a) (value_kind k b) kind e in
      let part = bound (rvalue k.layout locals c) (λ w. joined_with q w (rvalue k.layout locals d)) v value in
      joined_has k.layout o kinds.0 kinds.1 kind part.0 v (rvalue k.layout locals d) (value_fits a c kinds.0 part.0 fits.0 is.1 kinds.2 part.1)
      (λ w right. value_fits b d kinds.1 w fits.1 is.2 kinds.3 right) kinds.4 (ap (λ t. joined_with t part.0 (rvalue k.layout locals d)) is.0 ∙ part.2)
  value_fits (global m) y kind v fits is e value = none_is_some e
  value_fits (member s m) y kind v fits is e value = none_is_some e
  value_fits (element a b) y kind v fits is e value = none_is_some e
  value_fits (target s) y kind v fits is e value = none_is_some e
  value_fits x y kind v fits is e value = absurd is
