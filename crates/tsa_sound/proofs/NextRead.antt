-- The read that comes next is one of the written term, and is made as it says.
use Rattle.std.proofs.Common.{◌≡◌, ◌∙◌, ℕ, Bool, List, [], ◌∷◌, Some, inl, inr, refl, ap, sym, subst}
use Rattle.tsa_base.specs.declared.value.Value.{Value}
use Rattle.tsa_base.specs.declared.value.Value.TheVariants.{Pointer}
use Rattle.tsa_tree.specs.declared.expr.BinaryOp.{BinaryOp}
use Rattle.tsa_place_model.specs.Calls.{global_place, index_in, member_place}
use Rattle.tsa_core.specs.Kinds.{Setting, value_kind}
use Rattle.tsa_core.specs.Terms.{Term, constant, variable, answer, global, member, element, target, load, address, converted, prefixed}
use Rattle.tsa_core.specs.Terms.{joined}
use Rattle.tsa_path.specs.Values.{at_index, in_kind, pointed_place}
use Rattle.tsa_sched.specs.declared.event.TrapKind.TheVariants as trap
use Rattle.tsa_mean.specs.Operators.{converted_to, joined_with, prefix_on}
use Rattle.tsa_mean.specs.Outs.{reads, yields, bind, or_trap}
use Rattle.tsa_mean.specs.Working.{Locals, at_first, filled, filled_all, lvalue, rvalue, rvalues}
use Rattle.tsa_mean.proofs.Filling.{ReadOf, join_read, no_trap, no_yield, or_trap_reads_none, prefix_reads_none, read_of, read_of_first}
use Rattle.tsa_mean.proofs.Filling.{same_read}
use Rattle.tsa_sound.specs.PartlyWorked.{AreWorked, IsOfKind, IsWorked, PointsAlong, target_way}
use Rattle.tsa_sound.specs.TermFacts.{AllLoad, Loads}

module _ (k : Setting) (stable : ℕ → Bool) (locals : Locals) (p : ℕ) where
  abbrev Worked : Term → Term → Type 0
  Worked x y = IsWorked k stable locals x y

  -- a load of the written term, whose place is worked out to the cell
  pub record IsRead (LoadsAt : Bool → Term → Type 0) : Type 0 where
    pub is_stable : Bool
    pub place : Term
    pub now : Term
    pub loads : LoadsAt is_stable place
    pub worked : IsWorked k stable locals place now
    pub stands : lvalue k.layout locals now ≡ yields p

  pub in_part : (A B : Bool → Term → Type 0) → ((b : Bool) (q : Term) → A b q → B b q) → IsRead A → IsRead B
  in_part A B f r = record { is_stable = r.is_stable; place = r.place; now = r.now; loads = f r.is_stable r.place r.loads; worked = r.worked; stands = r.stands }

  element_read : (a b c d : Term) → (Worked a c → lvalue k.layout locals c ≡ reads p → IsRead (Loads a)) → (Worked b d → rvalue k.layout locals d ≡ reads p → IsRead (Loads b))
      → Worked a c × Worked b d
      → ReadOf (lvalue k.layout locals c) (λ place. bind (rvalue k.layout locals d) (λ v. or_trap trap.OutOfRange (at_index k.layout (Some place) (index_in v)))) p
      → IsRead (Loads (element a b))
  element_read a b c d first second is (inl e) = in_part (Loads a) (Loads (element a b)) (λ b q l. inl l) (first is.0 e)
  element_read a b c d first second is (inr x) = in_part (Loads b) (Loads (element a b)) (λ b q l. inr l) (second is.1
      (read_of_first (rvalue k.layout locals d) (λ v. or_trap trap.OutOfRange (at_index k.layout (Some x.0) (index_in v))) p
      (λ v. or_trap_reads_none trap.OutOfRange (at_index k.layout (Some x.0) (index_in v))) x.1.1))

  load_read : (m n : Bool) (s t : Term) → (Worked s t → lvalue k.layout locals t ≡ reads p → IsRead (Loads s)) → Worked s t
      → ReadOf {B = Value} (lvalue k.layout locals t) (λ q. reads q) p → IsRead (Loads (load m s))
  load_read m n s t inner is (inl e) = in_part (Loads s) (Loads (load m s)) (λ b q l. inr l) (inner is e)
  load_read m n s t inner is (inr x) =
      record { is_stable = m; place = s; now = t; loads = inl (refl, refl); worked = is; stands = x.1.0 ∙ ap yields (same_read x.1.1) }

  joined_read : (o q : BinaryOp) (a b c d : Term) → (Worked a c → rvalue k.layout locals c ≡ reads p → IsRead (Loads a)) → (Worked b d → rvalue k.layout locals d ≡ reads p → IsRead (Loads b))
      → Worked a c → Worked b d → ReadOf (rvalue k.layout locals c) (λ v. joined_with q v (rvalue k.layout locals d)) p → IsRead (Loads (joined o a b))
  joined_read o q a b c d first second left right (inl e) = in_part (Loads a) (Loads (joined o a b)) (λ b q l. inl l) (first left e)
  joined_read o q a b c d first second left right (inr x) =
      in_part (Loads b) (Loads (joined o a b)) (λ b q l. inr l) (second right (join_read q x.0 (rvalue k.layout locals d) p x.1.1))

  mutual
    pub place_read : (x y : Term) → Worked x y → lvalue k.layout locals y ≡ reads p → IsRead (Loads x)
    place_read (global m) (global n) is e = absurd (or_trap_reads_none trap.NullPointer (global_place k.layout n) p e)
    place_read (member s m) (member t n) is e = in_part (Loads s) (Loads (member s m)) (λ b q l. l) (place_read s t is.1
        (read_of_first (lvalue k.layout locals t) (λ place. or_trap trap.NullPointer (member_place k.layout place n)) p
        (λ place. or_trap_reads_none trap.NullPointer (member_place k.layout place n)) e))
    place_read (element a b) (element c d) is e = element_read a b c d (place_read a c) (value_read b d) is
        (read_of (lvalue k.layout locals c) (λ place. bind (rvalue k.layout locals d) (λ v. or_trap trap.OutOfRange (at_index k.layout (Some place) (index_in v)))) p e)
    place_read (target s) (target t) is e = in_part (Loads s) (Loads (target s)) (λ b q l. l) (value_read s t is
        (read_of_first (rvalue k.layout locals t) (λ v. or_trap trap.NullPointer (pointed_place v)) p (λ v. or_trap_reads_none trap.NullPointer (pointed_place v)) e))
    place_read (constant v) (constant w) is e = no_trap e
    place_read (variable m) (variable n) is e = no_trap e
    place_read answer answer is e = no_trap e
    place_read answer (constant v) is e = no_trap e
    place_read (load m s) (load n t) is e = no_trap e
    place_read (load m s) (constant v) is e = no_trap e
    place_read (address s) (address t) is e = no_trap e
    place_read (converted m s) (converted n t) is e = no_trap e
    place_read (prefixed o s) (prefixed q t) is e = no_trap e
    place_read (joined o a b) (joined q c d) is e = no_trap e
    place_read x y is e = absurd is

    pub value_read : (x y : Term) → Worked x y → rvalue k.layout locals y ≡ reads p → IsRead (Loads x)
    value_read (constant v) (constant w) is e = no_yield e
    value_read (variable m) (variable n) is e = no_yield e
    value_read answer answer is e = no_trap e
    value_read answer (constant v) is e = no_yield e
    value_read (load m s) (constant v) is e = no_yield e
    value_read (load m s) (load n t) is e = load_read m n s t (place_read s t) is.1 (read_of (lvalue k.layout locals t) (λ q. reads q) p e)
    value_read (address s) (address t) is e = in_part (Loads s) (Loads (address s)) (λ b q l. l) (place_read s t is
        (read_of_first (lvalue k.layout locals t) (λ q. yields (Pointer (Some q))) p (λ q r f. no_yield f) e))
    value_read (converted m s) (converted n t) is e = in_part (Loads s) (Loads (converted m s)) (λ b q l. l) (value_read s t is.1
        (read_of_first (rvalue k.layout locals t) (λ v. converted_to n v) p (λ v. or_trap_reads_none trap.NullPointer (in_kind n v)) e))
    value_read (prefixed o s) (prefixed q t) is e = in_part (Loads s) (Loads (prefixed o s)) (λ b q l. l) (value_read s t is.1
        (read_of_first (rvalue k.layout locals t) (λ v. prefix_on q v) p (λ v. prefix_reads_none q v) e))
    value_read (joined o a b) (joined q c d) is e = joined_read o q a b c d (value_read a c) (value_read b d) is.1 is.2
        (read_of (rvalue k.layout locals c) (λ v. joined_with q v (rvalue k.layout locals d)) p e)
    value_read (global m) (global n) is e = no_trap e
    value_read (member s m) (member t n) is e = no_trap e
    value_read (element a b) (element c d) is e = no_trap e
    value_read (target s) (target t) is e = no_trap e
    value_read x y is e = absurd is

  all_read_by : (x y : Term) (xs ys : List Term) → (AreWorked k stable locals xs ys → rvalues k.layout locals ys ≡ reads p → IsRead (AllLoad xs))
      → Worked x y → AreWorked k stable locals xs ys → ReadOf (rvalue k.layout locals y) (λ v. bind (rvalues k.layout locals ys) (λ vs. yields (v ∷ vs))) p → IsRead (AllLoad (x ∷ xs))
  all_read_by x y xs ys rest is are (inl e) = in_part (Loads x) (AllLoad (x ∷ xs)) (λ b q l. inl l) (value_read x y is e)
  all_read_by x y xs ys rest is are (inr f) = in_part (AllLoad xs) (AllLoad (x ∷ xs)) (λ b q l. inr l) (rest are
      (read_of_first (rvalues k.layout locals ys) (λ vs. yields (f.0 ∷ vs)) p (λ vs q g. no_yield g) f.1.1))

  pub all_read : (xs ys : List Term) → AreWorked k stable locals xs ys → rvalues k.layout locals ys ≡ reads p → IsRead (AllLoad xs)
  all_read [] [] are e = no_yield e
  all_read (x ∷ xs) (y ∷ ys) are e = all_read_by x y xs ys (all_read xs ys) are.0 are.1
      (read_of (rvalue k.layout locals y) (λ v. bind (rvalues k.layout locals ys) (λ vs. yields (v ∷ vs))) p e)
  all_read [] (y ∷ ys) are e = absurd are
  all_read (x ∷ xs) [] are e = absurd are

  -- The read is made: what was loaded fits each load of this cell.
  module _ (v : Value) where
    abbrev pub IsSaid : (Bool → Term → Type 0) → Type 0
    IsSaid LoadsAt = (b : Bool) (q now : Term) → LoadsAt b q → IsWorked k stable locals q now → lvalue k.layout locals now ≡ yields p
        → IsOfKind k.layout (value_kind k (load b q)) v × PointsAlong k.layout locals (target_way stable (load b q)) v

    abbrev fill : Term → Term
    fill y = filled k.layout locals v y

    element_filled : (a b c d : Term) → (lvalue k.layout locals c ≡ reads p → Worked a (fill c)) → (rvalue k.layout locals d ≡ reads p → Worked b (fill d))
        → Worked a c × Worked b d
        → ReadOf (lvalue k.layout locals c) (λ place. bind (rvalue k.layout locals d) (λ w. or_trap trap.OutOfRange (at_index k.layout (Some place) (index_in w)))) p
        → Worked (element a b) (fill (element c d))
    element_filled a b c d first second is (inl e) =
        subst (λ out. Worked (element a b) (at_first out (element (fill c) d) (element c (fill d)))) (sym e) (first e, is.1)
    element_filled a b c d first second is (inr x) =
        subst (λ out. Worked (element a b) (at_first out (element (fill c) d) (element c (fill d)))) (sym x.1.0) (
          is.0,
          second
              (read_of_first (rvalue k.layout locals d) (λ w. or_trap trap.OutOfRange (at_index k.layout (Some x.0) (index_in w))) p
              (λ w. or_trap_reads_none trap.OutOfRange (at_index k.layout (Some x.0) (index_in w))) x.1.1),
        )

    load_filled : (m n : Bool) (s t : Term) → (lvalue k.layout locals t ≡ reads p → Worked s (fill t)) → m ≡ n → Worked s t → IsSaid (Loads (load m s))
        → ReadOf {B = Value} (lvalue k.layout locals t) (λ q. reads q) p → Worked (load m s) (fill (load n t))
    load_filled m n s t inner same is said (inl e) =
        subst (λ out. Worked (load m s) (at_first out (load n (fill t)) (constant v))) (sym e) (same, inner e)
    load_filled m n s t inner same is said (inr x) =
        subst (λ out. Worked (load m s) (at_first out (load n (fill t)) (constant v))) (sym x.1.0)
        (said m s t (inl (refl, refl)) is (x.1.0 ∙ ap yields (same_read x.1.1)))

    joined_filled : (o q : BinaryOp) (a b c d : Term) → (rvalue k.layout locals c ≡ reads p → Worked a (fill c)) → (rvalue k.layout locals d ≡ reads p → Worked b (fill d))
        → o ≡ q → Worked a c → Worked b d → ReadOf (rvalue k.layout locals c) (λ w. joined_with q w (rvalue k.layout locals d)) p
        → Worked (joined o a b) (fill (joined q c d))
    joined_filled o q a b c d first second same left right (inl e) =
        subst (λ out. Worked (joined o a b) (at_first out (joined q (fill c) d) (joined q c (fill d)))) (sym e) (same, first e, right)
    joined_filled o q a b c d first second same left right (inr x) =
        subst (λ out. Worked (joined o a b) (at_first out (joined q (fill c) d) (joined q c (fill d)))) (sym x.1.0)
        (same, left, second (join_read q x.0 (rvalue k.layout locals d) p x.1.1))

    mutual
      pub place_filled : (x y : Term) → Worked x y → lvalue k.layout locals y ≡ reads p → IsSaid (Loads x) → Worked x (fill y)
      place_filled (global m) (global n) is e said = is
      place_filled (member s m) (member t n) is e said = (
        is.0,
        place_filled s t is.1
            (read_of_first (lvalue k.layout locals t) (λ place. or_trap trap.NullPointer (member_place k.layout place n)) p
            (λ place. or_trap_reads_none trap.NullPointer (member_place k.layout place n)) e) said,
      )
      place_filled (element a b) (element c d) is e said = element_filled a b c d
          (λ f. place_filled a c is.0 f (λ b q now l. said b q now (inl l))) (λ f. value_filled b d is.1 f (λ b q now l. said b q now (inr l))) is
          (read_of (lvalue k.layout locals c) (λ place. bind (rvalue k.layout locals d) (λ w. or_trap trap.OutOfRange (at_index k.layout (Some place) (index_in w)))) p e)
      place_filled (target s) (target t) is e said = value_filled s t is
          (read_of_first (rvalue k.layout locals t) (λ w. or_trap trap.NullPointer (pointed_place w)) p (λ w. or_trap_reads_none trap.NullPointer (pointed_place w)) e) said
      place_filled (constant x) (constant w) is e said = is
      place_filled (variable m) (variable n) is e said = is
      place_filled answer answer is e said = is
      place_filled answer (constant w) is e said = is
      place_filled (load m s) (load n t) is e said = no_trap e
      place_filled (load m s) (constant w) is e said = is
      place_filled (address s) (address t) is e said = no_trap e
      place_filled (converted m s) (converted n t) is e said = no_trap e
      place_filled (prefixed o s) (prefixed q t) is e said = no_trap e
      place_filled (joined o a b) (joined q c d) is e said = no_trap e
      place_filled x y is e said = absurd is

      pub value_filled : (x y : Term) → Worked x y → rvalue k.layout locals y ≡ reads p → IsSaid (Loads x) → Worked x (fill y)
      value_filled (constant x) (constant w) is e said = is
      value_filled (variable m) (variable n) is e said = is
      value_filled answer answer is e said = is
      value_filled answer (constant w) is e said = is
      value_filled (load m s) (constant w) is e said = is
      value_filled (load m s) (load n t) is e said = load_filled m n s t (λ f. place_filled s t is.1 f (λ b q now l. said b q now (inr l))) is.0 is.1 said
          (read_of (lvalue k.layout locals t) (λ q. reads q) p e)
      value_filled (address s) (address t) is e said = place_filled s t is
          (read_of_first (lvalue k.layout locals t) (λ q. yields (Pointer (Some q))) p (λ q r f. no_yield f) e) said
      value_filled (converted m s) (converted n t) is e said = (
        is.0,
        value_filled s t is.1
            (read_of_first (rvalue k.layout locals t) (λ w. converted_to n w) p (λ w. or_trap_reads_none trap.NullPointer (in_kind n w)) e) said,
      )
      value_filled (prefixed o s) (prefixed q t) is e said = (
        is.0,
        value_filled s t is.1
            (read_of_first (rvalue k.layout locals t) (λ w. prefix_on q w) p (λ w. prefix_reads_none q w) e) said,
      )
      value_filled (joined o a b) (joined q c d) is e said = joined_filled o q a b c d
          (λ f. value_filled a c is.1 f (λ b q now l. said b q now (inl l))) (λ f. value_filled b d is.2 f (λ b q now l. said b q now (inr l))) is.0 is.1 is.2
          (read_of (rvalue k.layout locals c) (λ w. joined_with q w (rvalue k.layout locals d)) p e)
      value_filled (global m) (global n) is e said = is
      value_filled (member s m) (member t n) is e said = no_trap e
      value_filled (element a b) (element c d) is e said = no_trap e
      value_filled (target s) (target t) is e said = no_trap e
      value_filled x y is e said = absurd is

    all_filled_by : (x y : Term) (xs ys : List Term) → (rvalues k.layout locals ys ≡ reads p → AreWorked k stable locals xs (filled_all k.layout locals v ys)) → Worked x y
        → AreWorked k stable locals xs ys → IsSaid (Loads x)
        → ReadOf (rvalue k.layout locals y) (λ w. bind (rvalues k.layout locals ys) (λ ws. yields (w ∷ ws))) p
        → AreWorked k stable locals (x ∷ xs) (filled_all k.layout locals v (y ∷ ys))
    all_filled_by x y xs ys rest is are said (inl e) =
        subst (λ out. AreWorked k stable locals (x ∷ xs) (at_first out (fill y ∷ ys) (y ∷ filled_all k.layout locals v ys))) (sym e) (value_filled x y is e said, are)
    all_filled_by x y xs ys rest is are said (inr f) =
        subst (λ out. AreWorked k stable locals (x ∷ xs) (at_first out (fill y ∷ ys) (y ∷ filled_all k.layout locals v ys))) (sym f.1.0) (
          is,
          rest
              (read_of_first (rvalues k.layout locals ys) (λ ws. yields (f.0 ∷ ws)) p (λ ws q g. no_yield g) f.1.1),
        )

    pub all_filled : (xs ys : List Term) → AreWorked k stable locals xs ys → rvalues k.layout locals ys ≡ reads p → IsSaid (AllLoad xs)
        → AreWorked k stable locals xs (filled_all k.layout locals v ys)
    all_filled [] [] are e said = are
    all_filled (x ∷ xs) (y ∷ ys) are e said = all_filled_by x y xs ys (λ f. all_filled xs ys are.1 f (λ b q now l. said b q now (inr l))) are.0 are.1
        (λ b q now l. said b q now (inl l)) (read_of (rvalue k.layout locals y) (λ w. bind (rvalues k.layout locals ys) (λ ws. yields (w ∷ ws))) p e)
    all_filled [] (y ∷ ys) are e said = absurd are
    all_filled (x ∷ xs) [] are e said = absurd are
