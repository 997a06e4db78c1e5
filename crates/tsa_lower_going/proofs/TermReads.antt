-- What is still to come of a term begins as the term is worked out, and goes on as the term with the value that was read.
use Rattle.std.proofs.Common.{◌≡◌, ◌∙◌, ℕ, Bool, true, false, Option, Some, None, option_and_then, if◌then◌else◌, refl, ap, sym, subst, ◌⊎◌, inl, inr}
use Rattle.tsa_base.specs.declared.value.Value.{Value}
use Rattle.tsa_base.specs.declared.value.Value.TheVariants.{Int, Unsigned, Pointer}
use Rattle.tsa_tree.specs.declared.expr.BinaryOp.{BinaryOp}
use Rattle.tsa_tree.specs.declared.expr.BinaryOp.TheVariants as op
use Rattle.tsa_tree.specs.declared.kind.Kind.{Kind}
use Rattle.tsa_place_model.specs.Calls.{Layout, global_place, member_place, index_in}
use Rattle.tsa_core.specs.Terms.{Term, constant, variable, answer, global, member, element, target, load, address, converted, prefixed, joined}
use Rattle.tsa_path.specs.Values.{at_index, in_kind, is_true, of_truth, pointed_place}
use Rattle.tsa_sched.specs.declared.event.TrapKind.TheVariants as trap
use Rattle.tsa_mean.specs.Outs.{bind, or_trap, Out, reads, TrapKind, traps, yields}
use Rattle.tsa_mean.specs.Operators.{converted_to, joined_with, operate_on, prefix_on, truth_of}
use Rattle.tsa_mean.specs.Working.{at_first, filled, Locals, lvalue, rvalue}
use Rattle.tsa_mean.proofs.Filling.{NoRead, operate_reads_none, or_trap_reads_none, prefix_reads_none}
use Rattle.tsa_lower_going.specs.Going.{Going, stops, asks, gives, and_then, going_of, pointer_or_stop, read_at, member_at, element_at, target_of, truth_going, and_going, or_going, join_going, place_going, value_going, first_of}

-- a place as a pointer to it
abbrev pub pointer_out : Out ℕ → Out Value
pointer_out (traps kind) = traps kind
pointer_out (reads place) = reads place
pointer_out (yields place) = yields (Pointer (Some place))

-- what comes first of one after the other
pub first_of-and_then : {A B : Type 0} (g : Going A) (f : A → Going B) (h : A → Out B) → ((a : A) → first_of (f a) ≡ h a) → first_of (and_then g f) ≡ bind (first_of g) h
first_of-and_then (stops kind) f h e = refl
first_of-and_then (asks place left) f h e = refl
first_of-and_then (gives a) f h e = e a

first_of-going_of : (out : Out Value) → first_of (going_of out) ≡ out
first_of-going_of (traps kind) = refl
first_of-going_of (reads place) = refl
first_of-going_of (yields v) = refl

first_place : (kind : TrapKind) (place : Option ℕ) → first_of (pointer_or_stop kind place) ≡ pointer_out (or_trap kind place)
first_place kind None = refl
first_place kind (Some place) = refl

kind_in : Out Value → TrapKind
kind_in (traps k) = k
kind_in (reads p) = trap.NullPointer
kind_in (yields v) = trap.NullPointer

cell_in : Out Value → ℕ
cell_in (traps k) = 0
cell_in (reads p) = p
cell_in (yields v) = 0

value_in : Out Value → Value
value_in (traps k) = Pointer None
value_in (reads p) = Pointer None
value_in (yields v) = v

-- what is made of a place that a term comes to
on_place : {B : Type 0} (g : Going Value) (out : Out ℕ) (f : Value → Going B) (h : ℕ → Out B) → first_of g ≡ pointer_out out
    → ((n : ℕ) → first_of (f (Pointer (Some n))) ≡ h n) → first_of (and_then g f) ≡ bind out h
unfolding kind_in cell_in value_in
on_place (stops kind) (traps k) f h e each = ap traps (ap kind_in e)
on_place (stops kind) (reads p) f h e each = cc
on_place (stops kind) (yields n) f h e each = cc
on_place (asks p left) (traps k) f h e each = cc
on_place (asks p left) (reads q) f h e each = ap reads (ap cell_in e)
on_place (asks p left) (yields n) f h e each = cc
on_place (gives v) (traps k) f h e each = cc
on_place (gives v) (reads q) f h e each = cc
on_place (gives v) (yields n) f h e each = subst (λ w. first_of (f w) ≡ h n) (sym (ap value_in e)) (each n)

first_truth : (right : Going Value) (out : Out Value) → first_of right ≡ out → first_of (truth_going right) ≡ truth_of out
first_truth right out e = first_of-and_then right (λ w. gives (of_truth (is_true w))) (λ w. yields (of_truth (is_true w))) (λ w. refl) ∙ ap (λ o. bind o (λ w. yields (of_truth (is_true w)))) e

first_and : (b : Bool) (right : Going Value) (out : Out Value) → first_of right ≡ out → first_of (and_going b right) ≡ (if b then truth_of out else yields (of_truth false))
first_and true right out e = first_truth right out e
first_and false right out e = refl

first_or : (b : Bool) (right : Going Value) (out : Out Value) → first_of right ≡ out → first_of (or_going b right) ≡ (if b then yields (of_truth true) else truth_of out)
first_or true right out e = refl
first_or false right out e = first_truth right out e

first_second : (o : BinaryOp) (v : Value) (right : Going Value) (out : Out Value) → first_of right ≡ out
    → first_of (and_then right (λ w. going_of (operate_on o v w))) ≡ bind out (λ w. operate_on o v w)
first_second o v right out e = first_of-and_then right (λ w. going_of (operate_on o v w)) (λ w. operate_on o v w) (λ w. first_of-going_of (operate_on o v w)) ∙ ap (λ x. bind x (λ w. operate_on o v w)) e

first_join : (o : BinaryOp) (v : Value) (right : Going Value) (out : Out Value) → first_of right ≡ out → first_of (join_going o v right) ≡ joined_with o v out
first_join op.And v right out e = first_and (is_true v) right out e
first_join op.Or v right out e = first_or (is_true v) right out e
first_join o v right out e = first_second o v right out e

first_element : (l : Layout) (locals : Locals) (n : ℕ) (g : Going Value) (out : Out Value) → first_of g ≡ out
    → first_of (and_then g (element_at l (Pointer (Some n)))) ≡ pointer_out (bind out (λ v. or_trap trap.OutOfRange (at_index l (Some n) (index_in v))))
first_element l locals n (stops kind) out e = ap (λ o. pointer_out (bind o (λ v. or_trap trap.OutOfRange (at_index l (Some n) (index_in v))))) e
first_element l locals n (asks p left) out e = ap (λ o. pointer_out (bind o (λ v. or_trap trap.OutOfRange (at_index l (Some n) (index_in v))))) e
first_element l locals n (gives w) out e = first_place trap.OutOfRange (at_index l (Some n) (index_in w)) ∙ ap (λ o. pointer_out (bind o (λ v. or_trap trap.OutOfRange (at_index l (Some n) (index_in v))))) e

-- a place behind a place
pointer_out-bind : {A : Type 0} (out : Out A) (h : A → Out ℕ) → pointer_out (bind out h) ≡ bind out (λ a. pointer_out (h a))
pointer_out-bind (traps k) h = refl
pointer_out-bind (reads p) h = refl
pointer_out-bind (yields a) h = refl

-- A turn goes as far as what is still to come says.
mutual
  pub place_first : (l : Layout) (locals : Locals) (x : Term) → first_of (place_going l locals None x) ≡ pointer_out (lvalue l locals x)
  place_first l locals (global n) = first_place trap.NullPointer (global_place l n)
  place_first l locals (member base k) = on_place (place_going l locals None base) (lvalue l locals base) (member_at l k) (λ n. pointer_out (or_trap trap.NullPointer (member_place l n k))) (place_first l locals base)
      (λ n. first_place trap.NullPointer (member_place l n k)) ∙ sym (pointer_out-bind (lvalue l locals base) (λ place. or_trap trap.NullPointer (member_place l place k)))
  place_first l locals (element base index) = on_place (place_going l locals None base) (lvalue l locals base) (λ b. and_then (value_going l locals None index) (element_at l b))
      (λ n. pointer_out (bind (rvalue l locals index) (λ v. or_trap trap.OutOfRange (at_index l (Some n) (index_in v))))) (place_first l locals base)
      (λ n. first_element l locals n (value_going l locals None index) (rvalue l locals index) (value_first l locals index))
      ∙ sym (pointer_out-bind (lvalue l locals base) (λ place. bind (rvalue l locals index) (λ v. or_trap trap.OutOfRange (at_index l (Some place) (index_in v)))))
  place_first l locals (target pointer) = first_of-and_then (value_going l locals None pointer) target_of (λ v. pointer_out (or_trap trap.NullPointer (pointed_place v))) (λ v. first_place trap.NullPointer (pointed_place v))
      ∙ (ap (λ o. bind o (λ v. pointer_out (or_trap trap.NullPointer (pointed_place v)))) (value_first l locals pointer) ∙ sym (pointer_out-bind (rvalue l locals pointer) (λ v. or_trap trap.NullPointer (pointed_place v))))
  place_first l locals (constant v) = refl
  place_first l locals (variable n) = refl
  place_first l locals answer = refl
  place_first l locals (load s p) = refl
  place_first l locals (address p) = refl
  place_first l locals (converted kind inner) = refl
  place_first l locals (prefixed o inner) = refl
  place_first l locals (joined o a b) = refl

  pub value_first : (l : Layout) (locals : Locals) (x : Term) → first_of (value_going l locals None x) ≡ rvalue l locals x
  value_first l locals (constant v) = refl
  value_first l locals (variable n) = refl
  value_first l locals answer = refl
  value_first l locals (load s p) = on_place (place_going l locals None p) (lvalue l locals p) read_at (λ n. reads n) (place_first l locals p) (λ n. refl)
  value_first l locals (address p) = place_first l locals p ∙ pointer_out-address (lvalue l locals p)
    where
      pointer_out-address : (out : Out ℕ) → pointer_out out ≡ bind out (λ n. yields (Pointer (Some n)))
      pointer_out-address (traps k) = refl
      pointer_out-address (reads q) = refl
      pointer_out-address (yields n) = refl
  value_first l locals (converted kind inner) = first_of-and_then (value_going l locals None inner) (λ v. going_of (converted_to kind v)) (λ v. converted_to kind v) (λ v. first_of-going_of (converted_to kind v))
      ∙ ap (λ o. bind o (λ v. converted_to kind v)) (value_first l locals inner)
  value_first l locals (prefixed o inner) = first_of-and_then (value_going l locals None inner) (λ v. going_of (prefix_on o v)) (λ v. prefix_on o v) (λ v. first_of-going_of (prefix_on o v))
      ∙ ap (λ out. bind out (λ v. prefix_on o v)) (value_first l locals inner)
  value_first l locals (joined o a b) = first_of-and_then (value_going l locals None a) (λ v. join_going o v (value_going l locals None b)) (λ v. joined_with o v (rvalue l locals b))
      (λ v. first_join o v (value_going l locals None b) (rvalue l locals b) (value_first l locals b)) ∙ ap (λ out. bind out (λ v. joined_with o v (rvalue l locals b))) (value_first l locals a)
  value_first l locals (global n) = refl
  value_first l locals (member base k) = refl
  value_first l locals (element base index) = refl
  value_first l locals (target pointer) = refl

-- Operators read nothing.
pub convert_reads_none : (kind : Kind) (v : Value) → NoRead (converted_to kind v)
convert_reads_none kind v = or_trap_reads_none trap.NullPointer (in_kind kind v)

going_of-quiet : {A : Type 0} (out : Out Value) (p : ℕ) (k : Value → Going Value) → NoRead out → going_of out ≡ asks p k → A
going_of-quiet (traps kind) p k q e = cc
going_of-quiet (reads place) p k q e = absurd (q place refl)
going_of-quiet (yields v) p k q e = cc

pointer_or_stop-quiet : {A : Type 0} (kind : TrapKind) (place : Option ℕ) (p : ℕ) (k : Value → Going Value) → pointer_or_stop kind place ≡ asks p k → A
pointer_or_stop-quiet kind None p k e = cc
pointer_or_stop-quiet kind (Some place) p k e = cc

-- the cell and what is left of a read
asked : {A : Type 0} → Going A → ℕ
asked (asks p left) = p
asked (stops kind) = 0
asked (gives a) = 0

left_of : Going Value → Value → Going Value
left_of (asks p left) = left
left_of (stops kind) = λ v. stops kind
left_of (gives a) = λ v. gives a

-- a read of the first part, or of what follows it
pub record ReadsFirst (g : Going Value) (f : Value → Going Value) (p : ℕ) (k : Value → Going Value) : Type 0 where
  pub left : Value → Going Value
  pub asks_first : g ≡ asks p left
  pub then_on : (v : Value) → k v ≡ and_then (left v) f

pub record ReadsSecond (g : Going Value) (f : Value → Going Value) (p : ℕ) (k : Value → Going Value) : Type 0 where
  pub found : Value
  pub gives_first : g ≡ gives found
  pub asks_then : f found ≡ asks p k

reads_of-and_then : (g : Going Value) (f : Value → Going Value) (p : ℕ) (k : Value → Going Value) → and_then g f ≡ asks p k → ReadsFirst g f p k ⊎ ReadsSecond g f p k
unfolding asked left_of
reads_of-and_then (stops kind) f p k e = cc
reads_of-and_then (asks q j) f p k e = inl (record { left = j; asks_first = ap (λ n. asks n j) (ap asked e); then_on = λ v. sym (ap (λ g. left_of g v) e) })
reads_of-and_then (gives x) f p k e = inr (record { found = x; gives_first = refl; asks_then = e })

left_is : (p q : ℕ) (j k : Value → Going Value) (v : Value) → asks p j ≡ asks q k → j v ≡ k v
unfolding left_of
left_is p q j k v e = ap (λ g. left_of g v) e

-- where what follows reads nothing, the read is of the first part
tail : (g h : Going Value) (f : Value → Going Value) (v : Value) (p : ℕ) (k : Value → Going Value) → ((w : Value) → f w ≡ asks p k → ⊥)
    → ((j : Value → Going Value) → g ≡ asks p j → h ≡ j v) → and_then g f ≡ asks p k → and_then h f ≡ k v
tail g h f v p k quiet after e = elim (reads_of-and_then g f p k e) [
  | inl x ↦ ap (λ y. and_then y f) (after x.left x.asks_first) ∙ sym (x.then_on v)
  | inr x ↦ absurd (quiet x.found x.asks_then)
]

gives_is_quiet : {A : Type 0} (w : Value) (p : ℕ) (k : Value → Going Value) → gives w ≡ asks p k → A
gives_is_quiet w p k e = cc

truth_left : (g h : Going Value) (v : Value) (p : ℕ) (k : Value → Going Value) → ((j : Value → Going Value) → g ≡ asks p j → h ≡ j v) → truth_going g ≡ asks p k → truth_going h ≡ k v
truth_left g h v p k after e = tail g h (λ w. gives (of_truth (is_true w))) v p k (λ w. gives_is_quiet (of_truth (is_true w)) p k) after e

and_left : (b : Bool) (g h : Going Value) (v : Value) (p : ℕ) (k : Value → Going Value) → ((j : Value → Going Value) → g ≡ asks p j → h ≡ j v) → and_going b g ≡ asks p k → and_going b h ≡ k v
and_left true g h v p k after e = truth_left g h v p k after e
and_left false g h v p k after e = gives_is_quiet (of_truth false) p k e

or_left : (b : Bool) (g h : Going Value) (v : Value) (p : ℕ) (k : Value → Going Value) → ((j : Value → Going Value) → g ≡ asks p j → h ≡ j v) → or_going b g ≡ asks p k → or_going b h ≡ k v
or_left true g h v p k after e = gives_is_quiet (of_truth true) p k e
or_left false g h v p k after e = truth_left g h v p k after e

second_left : (o : BinaryOp) (x : Value) (g h : Going Value) (v : Value) (p : ℕ) (k : Value → Going Value) → ((j : Value → Going Value) → g ≡ asks p j → h ≡ j v)
    → and_then g (λ w. going_of (operate_on o x w)) ≡ asks p k → and_then h (λ w. going_of (operate_on o x w)) ≡ k v
second_left o x g h v p k after e = tail g h (λ w. going_of (operate_on o x w)) v p k (λ w. going_of-quiet (operate_on o x w) p k (operate_reads_none o x w)) after e

join_left : (o : BinaryOp) (x : Value) (g h : Going Value) (v : Value) (p : ℕ) (k : Value → Going Value) → ((j : Value → Going Value) → g ≡ asks p j → h ≡ j v)
    → join_going o x g ≡ asks p k → join_going o x h ≡ k v
join_left op.And x g h v p k after e = and_left (is_true x) g h v p k after e
join_left op.Or x g h v p k after e = or_left (is_true x) g h v p k after e
join_left o x g h v p k after e = second_left o x g h v p k after e

-- a term's first read tells how far it was worked out
reads_value : (l : Layout) (locals : Locals) (x : Term) (p : ℕ) (j : Value → Going Value) → value_going l locals None x ≡ asks p j → rvalue l locals x ≡ reads p
reads_value l locals x p j e = sym (value_first l locals x) ∙ ap first_of e

gives_value : (l : Layout) (locals : Locals) (x : Term) (w : Value) → value_going l locals None x ≡ gives w → rvalue l locals x ≡ yields w
gives_value l locals x w e = sym (value_first l locals x) ∙ ap first_of e

reads_pointing : (out : Out ℕ) (p : ℕ) → reads p ≡ pointer_out out → out ≡ reads p
unfolding cell_in
reads_pointing (traps k) p e = cc
reads_pointing (reads q) p e = ap reads (sym (ap cell_in e))
reads_pointing (yields n) p e = cc

-- which of two stands, where the first part reads or is there
first_of_two : {A : Type 0} (out : Out ℕ) (p : ℕ) (x y : A) → reads p ≡ pointer_out out → at_first out x y ≡ x
first_of_two out p x y e = ap (λ o. at_first o x y) (reads_pointing out p e)

second_of_two : {A : Type 0} (out : Out ℕ) (w : Value) (x y : A) → yields w ≡ pointer_out out → at_first out x y ≡ y
second_of_two (traps k) w x y e = cc
second_of_two (reads q) w x y e = cc
second_of_two (yields n) w x y e = refl

reads_place : (l : Layout) (locals : Locals) (x : Term) (p : ℕ) (j : Value → Going Value) → place_going l locals None x ≡ asks p j → reads p ≡ pointer_out (lvalue l locals x)
reads_place l locals x p j e = sym (ap first_of e) ∙ place_first l locals x

gives_place : (l : Layout) (locals : Locals) (x : Term) (w : Value) → place_going l locals None x ≡ gives w → yields w ≡ pointer_out (lvalue l locals x)
gives_place l locals x w e = sym (ap first_of e) ∙ place_first l locals x

read_left : (w v : Value) (p : ℕ) (k : Value → Going Value) → read_at w ≡ asks p k → gives v ≡ k v
read_left (Pointer (Some n)) v p k e = left_is n p gives k v e
read_left (Pointer None) v p k e = cc
read_left (Int z) v p k e = cc
read_left (Unsigned n) v p k e = cc

module _ (l : Layout) (locals : Locals) (v : Value) where
  -- the term is rewritten where it reads
  PlaceLeft : Term → Type 0
  PlaceLeft x = (p : ℕ) (k : Value → Going Value) → place_going l locals None x ≡ asks p k → place_going l locals None (filled l locals v x) ≡ k v

  ValueLeft : Term → Type 0
  ValueLeft x = (p : ℕ) (k : Value → Going Value) → value_going l locals None x ≡ asks p k → value_going l locals None (filled l locals v x) ≡ k v

  element_left : (base index : Term) (p : ℕ) (k : Value → Going Value)
      → ((j : Value → Going Value) → place_going l locals None base ≡ asks p j → place_going l locals None (filled l locals v base) ≡ j v)
      → ((j : Value → Going Value) → value_going l locals None index ≡ asks p j → value_going l locals None (filled l locals v index) ≡ j v)
      → place_going l locals None (element base index) ≡ asks p k → place_going l locals None (filled l locals v (element base index)) ≡ k v
  element_left base index p k first second e = elim (reads_of-and_then (place_going l locals None base) (λ b. and_then (value_going l locals None index) (element_at l b)) p k e) [
    | inl x ↦ ap (place_going l locals None) (first_of_two (lvalue l locals base) p (element (filled l locals v base) index) (element base (filled l locals v index)) (reads_place l locals base p x.left x.asks_first))
        ∙ (ap (λ g. and_then g (λ b. and_then (value_going l locals None index) (element_at l b))) (first x.left x.asks_first) ∙ sym (x.then_on v))
    | inr x ↦ ap (place_going l locals None) (second_of_two (lvalue l locals base) x.found (element (filled l locals v base) index) (element base (filled l locals v index)) (gives_place l locals base x.found x.gives_first))
        ∙ (ap (λ g. and_then g (λ b. and_then (value_going l locals None (filled l locals v index)) (element_at l b))) x.gives_first
        ∙ tail (value_going l locals None index) (value_going l locals None (filled l locals v index)) (element_at l x.found) v p k
        (λ w. pointer_or_stop-quiet trap.OutOfRange (at_index l (pointed_place x.found) (index_in w)) p k) second x.asks_then)
  ]

  load_left : (s : Bool) (place : Term) (p : ℕ) (k : Value → Going Value)
      → ((j : Value → Going Value) → place_going l locals None place ≡ asks p j → place_going l locals None (filled l locals v place) ≡ j v)
      → value_going l locals None (load s place) ≡ asks p k → value_going l locals None (filled l locals v (load s place)) ≡ k v
  load_left s place p k first e = elim (reads_of-and_then (place_going l locals None place) read_at p k e) [
    | inl x ↦ ap (value_going l locals None) (first_of_two (lvalue l locals place) p (load s (filled l locals v place)) (constant v) (reads_place l locals place p x.left x.asks_first))
        ∙ (ap (λ g. and_then g read_at) (first x.left x.asks_first) ∙ sym (x.then_on v))
    | inr x ↦ ap (value_going l locals None) (second_of_two (lvalue l locals place) x.found (load s (filled l locals v place)) (constant v) (gives_place l locals place x.found x.gives_first))
        ∙ read_left x.found v p k x.asks_then
  ]

  joined_left : (o : BinaryOp) (a b : Term) (p : ℕ) (k : Value → Going Value)
      → ((j : Value → Going Value) → value_going l locals None a ≡ asks p j → value_going l locals None (filled l locals v a) ≡ j v)
      → ((j : Value → Going Value) → value_going l locals None b ≡ asks p j → value_going l locals None (filled l locals v b) ≡ j v)
      → value_going l locals None (joined o a b) ≡ asks p k → value_going l locals None (filled l locals v (joined o a b)) ≡ k v
  joined_left o a b p k first second e = elim (reads_of-and_then (value_going l locals None a) (λ x. join_going o x (value_going l locals None b)) p k e) [
    | inl x ↦ ap (λ out. value_going l locals None (at_first out (joined o (filled l locals v a) b) (joined o a (filled l locals v b)))) (reads_value l locals a p x.left x.asks_first)
        ∙ (ap (λ g. and_then g (λ y. join_going o y (value_going l locals None b))) (first x.left x.asks_first) ∙ sym (x.then_on v))
    | inr x ↦ ap (λ out. value_going l locals None (at_first out (joined o (filled l locals v a) b) (joined o a (filled l locals v b)))) (gives_value l locals a x.found x.gives_first)
        ∙ (ap (λ g. and_then g (λ y. join_going o y (value_going l locals None (filled l locals v b)))) x.gives_first
        ∙ join_left o x.found (value_going l locals None b) (value_going l locals None (filled l locals v b)) v p k second x.asks_then)
  ]

  mutual
    pub place_left : (x : Term) (p : ℕ) (k : Value → Going Value) → place_going l locals None x ≡ asks p k → place_going l locals None (filled l locals v x) ≡ k v
    place_left (global n) p k e = pointer_or_stop-quiet trap.NullPointer (global_place l n) p k e
    place_left (member base n) p k e = tail (place_going l locals None base) (place_going l locals None (filled l locals v base)) (member_at l n) v p k
        (λ w. pointer_or_stop-quiet trap.NullPointer (option_and_then (λ place. member_place l place n) (pointed_place w)) p k) (λ j. place_left base p j) e
    place_left (element base index) p k e = element_left base index p k (λ j. place_left base p j) (λ j. value_left index p j) e
    place_left (target pointer) p k e = tail (value_going l locals None pointer) (value_going l locals None (filled l locals v pointer)) target_of v p k
        (λ w. pointer_or_stop-quiet trap.NullPointer (pointed_place w) p k) (λ j. value_left pointer p j) e
    place_left (constant w) p k e = cc
    place_left (variable n) p k e = cc
    place_left answer p k e = cc
    place_left (load s x) p k e = cc
    place_left (address x) p k e = cc
    place_left (converted kind x) p k e = cc
    place_left (prefixed o x) p k e = cc
    place_left (joined o a b) p k e = cc

    pub value_left : (x : Term) (p : ℕ) (k : Value → Going Value) → value_going l locals None x ≡ asks p k → value_going l locals None (filled l locals v x) ≡ k v
    value_left (constant w) p k e = cc
    value_left (variable n) p k e = cc
    value_left answer p k e = cc
    value_left (load s place) p k e = load_left s place p k (λ j. place_left place p j) e
    value_left (address place) p k e = place_left place p k e
    value_left (converted kind inner) p k e = tail (value_going l locals None inner) (value_going l locals None (filled l locals v inner)) (λ w. going_of (converted_to kind w)) v p k
        (λ w. going_of-quiet (converted_to kind w) p k (convert_reads_none kind w)) (λ j. value_left inner p j) e
    value_left (prefixed o inner) p k e = tail (value_going l locals None inner) (value_going l locals None (filled l locals v inner)) (λ w. going_of (prefix_on o w)) v p k
        (λ w. going_of-quiet (prefix_on o w) p k (prefix_reads_none o w)) (λ j. value_left inner p j) e
    value_left (joined o a b) p k e = joined_left o a b p k (λ j. value_left a p j) (λ j. value_left b p j) e
    value_left (global n) p k e = cc
    value_left (member base n) p k e = cc
    value_left (element base index) p k e = cc
    value_left (target pointer) p k e = cc
