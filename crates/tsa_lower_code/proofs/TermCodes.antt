-- The code of a term goes as the term.
use Rattle.std.proofs.Common.{◌≡◌, ◌∙◌, ℕ, suc, ◌+◌, ◌<◌, ◌≤◌, pos, Bool, true, false, List, [], ◌∷◌, ◌++◌, length, set, Option, Some, None, refl, sym, ap, arith, append_assoc, length-set, get_or-set_same, get_or-set_other}
use Rattle.tsa_base.specs.declared.value.Value.{Value}
use Rattle.tsa_base.specs.declared.value.Value.TheVariants as the
use Rattle.tsa_tree.specs.declared.expr.BinaryOp.{BinaryOp}
use Rattle.tsa_tree.specs.declared.expr.BinaryOp.TheVariants as op
use Rattle.tsa_place_model.specs.Calls.{Layout, global_place}
use Rattle.tsa_core.specs.Terms.{Term, constant, variable, answer, global, member, element, target, load, address, converted, prefixed, joined}
use Rattle.tsa_path.specs.Values.{is_true, of_truth}
use Rattle.tsa_sched.specs.declared.event.TrapKind.TheVariants as trap
use Rattle.tsa_mean.specs.Acts.{Act}
use Rattle.tsa_mean.specs.Operators.{converted_to, operate_on, prefix_on}
use Rattle.tsa_mean.specs.Working.{Locals, local_at}
use Rattle.tsa_lower_code.specs.declared.instr.Instr.{Instr}
use Rattle.tsa_lower_code.specs.declared.instr.Instr.TheVariants.{Member, Element, Follow, Load, Convert, Prefix, Join, Skip, Truth}
use Rattle.tsa_lower_going.specs.Going.{Going, stops, asks, gives, and_then, going_of, pointer_or_stop, read_at, member_at, element_at, target_of, truth_going, and_going, or_going, join_going, answer_going, place_going, value_going}
use Rattle.tsa_lower_code.specs.Codes.{answer_code, is_same, going, height, is_early, joined_code, one_of, place_code, known_place_code, slot, value_code}
use Rattle.tsa_lower_code.specs.TermLaws.{CodeGoesAsTheTerm, GoesOn, HasAnswer}

pub and_then-assoc : {A B C : Type 0} (g : Going A) (f : A → Going B) (h : B → Going C) → and_then (and_then g f) h ≡ and_then g (λ v. and_then (f v) h)
and_then-assoc (stops kind) f h = refl
and_then-assoc (asks p k) f h = ap (asks p) (λ i v. and_then-assoc (k v) f h i)
and_then-assoc (gives v) f h = refl

pub and_then-same : {A B : Type 0} (g : Going A) (f h : A → Going B) → ((v : A) → f v ≡ h v) → and_then g f ≡ and_then g h
and_then-same g f h e = ap (and_then g) (λ i v. e v i)

pub height-positive : (x : Term) → 1 ≤ height x
height-positive (constant v) = omega arith
height-positive (variable n) = omega arith
height-positive answer = omega arith
height-positive (global n) = omega arith
height-positive (member base n) = height-positive base
height-positive (element base index) = omega (arith, height-positive base)
height-positive (target pointer) = height-positive pointer
height-positive (load s p) = height-positive p
height-positive (address p) = height-positive p
height-positive (converted kind x) = height-positive x
height-positive (prefixed o x) = height-positive x
height-positive (joined o a b) = omega (arith, height-positive a)

-- slots below one are as they were, and there are as many
pub record Keeps (k : ℕ) (s t : List Value) : Type 0 where
  pub long : length t ≡ length s
  pub below : (j : ℕ) → j < k → slot t j ≡ slot s j

keeps_self : (k : ℕ) (s : List Value) → Keeps k s s
keeps_self k s = record { long = refl; below = λ j b. refl }

keeps_set : (k : ℕ) (s t : List Value) (v : Value) → Keeps k s t → Keeps k s (set t k v)
keeps_set k s t v keeps = record { long = length-set t k v ∙ keeps.long; below = λ j b. get_or-set_other t k j v (the.Int (pos 0)) (λ e. absurd (omega (arith, b, e))) ∙ keeps.below j b }

keeps_has : (k : ℕ) (s t : List Value) (given : Option Value) (is_answered : Bool) → 0 < k → Keeps k s t → HasAnswer given is_answered s → HasAnswer given is_answered t
keeps_has k s t None false h keeps has = tt
keeps_has k s t None true h keeps has = absurd has
keeps_has k s t (Some v) true h keeps has = keeps.below 0 h ∙ has
keeps_has k s t (Some v) false h keeps has = absurd has

-- a value is put into the slot
put_on : (k : ℕ) (s t : List Value) (rest : List Value → Going Act) (next : Value → Going Act) (v : Value) → k < length s → GoesOn k s rest next → Keeps k s t → rest (set t k v) ≡ next v
put_on k s t rest next v h c keeps = let after : Keeps k s (set t k v) = keeps_set k s t v keeps in
    c.on v (set t k v) after.long after.below (get_or-set_same t k v (the.Int (pos 0)) (omega (arith, keeps.long, h)))

-- something is made of the value in the slot
made_on : (f : Value → Going Value) (k : ℕ) (s : List Value) (rest : List Value → Going Act) (next : Value → Going Act) → k < length s → GoesOn k s rest next
    → GoesOn k s (λ t. and_then (f (slot t k)) (λ v. rest (set t k v))) (λ w. and_then (f w) next)
made_on f k s rest next h c = record {
  on = λ v t long below at. ap (λ w. and_then (f w) (λ x. rest (set t k x))) at
      ∙ and_then-same (f v) (λ x. rest (set t k x)) next (λ x. put_on k s t rest next x h c (record { long = long; below = below }));
}

-- or of the two in it and in the next
both_on : (f : Value → Value → Going Value) (k : ℕ) (s t : List Value) (rest : List Value → Going Act) (next : Value → Going Act) (v : Value) → k < length s → GoesOn k s rest next
    → Keeps k s t → slot t k ≡ v → GoesOn (k + 1) t (λ x. and_then (f (slot x k) (slot x (k + 1))) (λ y. rest (set x k y))) (λ w. and_then (f v w) next)
both_on f k s t rest next v h c keeps e = record {
  on = λ w x long below at. ap (λ y. and_then (f y (slot x (k + 1))) (λ z. rest (set x k z))) (below k (omega arith) ∙ e)
      ∙ (ap (λ y. and_then (f v y) (λ z. rest (set x k z))) at
      ∙ and_then-same (f v w) (λ z. rest (set x k z)) next (λ z. put_on k s x rest next z h c (record { long = long ∙ keeps.long; below = λ j b. below j (omega arith) ∙ keeps.below j b })));
}

truth_on : (k : ℕ) (s t : List Value) (rest : List Value → Going Act) (next : Value → Going Act) → k < length s → GoesOn k s rest next → Keeps k s t
    → GoesOn k t (λ x. rest (set x k (of_truth (is_true (slot x k))))) (λ w. next (of_truth (is_true w)))
truth_on k s t rest next h c keeps = record {
  on = λ w x long below at. put_on k s x rest next (of_truth (is_true (slot x k))) h c (record { long = long ∙ keeps.long; below = λ j b. below j b ∙ keeps.below j b })
      ∙ ap (λ y. next (of_truth (is_true y))) at;
}

-- `&&` or `||`, by the truth of the left side
abbrev pub early_going : Bool → Value → Going Value → Going Value
early_going on v right = one_of (is_same on (is_true v)) (gives (of_truth on)) (truth_going right)

joined_early : (on : Bool) (o : BinaryOp) → is_early o ≡ Some on → (v : Value) (right : Going Value) → early_going on v right ≡ join_going o v right
joined_early on op.And e v right = at on e (is_true v)
  where
    at : (on : Bool) → Some false ≡ Some on → (b : Bool) → one_of (is_same on b) (gives (of_truth on)) (truth_going right) ≡ and_going b right
    at false e true = refl
    at false e false = refl
    at true e b = cc
joined_early on op.Or e v right = at on e (is_true v)
  where
    at : (on : Bool) → Some true ≡ Some on → (b : Bool) → one_of (is_same on b) (gives (of_truth on)) (truth_going right) ≡ or_going b right
    at true e true = refl
    at true e false = refl
    at false e b = cc
joined_early on o e v right = cc

joined_late : (o : BinaryOp) → is_early o ≡ None → (v : Value) (right : Going Value) → and_then right (λ w. going_of (operate_on o v w)) ≡ join_going o v right
joined_late op.And e v right = cc
joined_late op.Or e v right = cc
joined_late o e v right = refl

module _ (l : Layout) (locals : Locals) where
  going-past : (m : ℕ) (xs ys : List Instr) (s : List Value) → going l locals (length xs + m) (xs ++ ys) s ≡ going l locals m ys s
  going-past m [] ys s = let e : 0 + m ≡ m = omega arith in ap (λ q. going l locals q ys s) e
  going-past m (x ∷ xs) ys s = let e : suc (length xs) + m ≡ suc (length xs + m) = omega arith in ap (λ q. going l locals q (x ∷ (xs ++ ys)) s) e ∙ going-past m xs ys s

  skip_by : (c on : Bool) (k : ℕ) (right rest : List Instr) (t : List Value) (g : Going Value) (next : Value → Going Act)
      → going l locals 0 (right ++ Truth k ∷ rest) t ≡ and_then (truth_going g) next → going l locals 0 rest (set t k (of_truth on)) ≡ next (of_truth on)
      → one_of c (going l locals (length right + 1) (right ++ Truth k ∷ rest) (set t k (of_truth on))) (going l locals 0 (right ++ Truth k ∷ rest) t) ≡ and_then (one_of c (gives (of_truth on)) (truth_going g)) next
  skip_by true on k right rest t g next goes put = going-past 1 right (Truth k ∷ rest) (set t k (of_truth on)) ∙ put
  skip_by false on k right rest t g next goes put = goes

  early_on : (on : Bool) (k : ℕ) (right rest : List Instr) (s t : List Value) (g : Going Value) (next : Value → Going Act) (v : Value) → k < length s → GoesOn k s (going l locals 0 rest) next
      → Keeps k s t → slot t k ≡ v → going l locals 0 (right ++ Truth k ∷ rest) t ≡ and_then g (λ w. next (of_truth (is_true w)))
      → going l locals 0 (Skip k on (length right + 1) ∷ (right ++ Truth k ∷ rest)) t ≡ and_then (early_going on v g) next
  early_on on k right rest s t g next v h c keeps at goes =
      ap (λ w. one_of (is_same on (is_true w)) (going l locals (length right + 1) (right ++ Truth k ∷ rest) (set t k (of_truth on))) (going l locals 0 (right ++ Truth k ∷ rest) t)) at
      ∙ skip_by (is_same on (is_true v)) on k right rest t g next (goes ∙ sym (and_then-assoc g (λ w. gives (of_truth (is_true w))) next)) (put_on k s t (going l locals 0 rest) next (of_truth on) h c keeps)

  known_lowered : (place : Option ℕ) (k : ℕ) (rest : List Instr) (s : List Value) (next : Value → Going Act) → k < length s → GoesOn k s (going l locals 0 rest) next
      → going l locals 0 (known_place_code place k ++ rest) s ≡ and_then (pointer_or_stop trap.NullPointer place) next
  known_lowered None k rest s next h c = refl
  known_lowered (Some place) k rest s next h c = put_on k s s (going l locals 0 rest) next (the.Pointer (Some place)) h c (keeps_self k s)

  answer_lowered : (given : Option Value) (is_answered : Bool) (k : ℕ) (rest : List Instr) (s : List Value) (next : Value → Going Act) → k < length s → HasAnswer given is_answered s → GoesOn k s (going l locals 0 rest) next
      → going l locals 0 (answer_code is_answered k ++ rest) s ≡ and_then (answer_going given) next
  answer_lowered None false k rest s next h has c = refl
  answer_lowered None true k rest s next h has c = absurd has
  answer_lowered (Some v) true k rest s next h has c = put_on k s s (going l locals 0 rest) next (slot s 0) h c (keeps_self k s) ∙ ap next has
  answer_lowered (Some v) false k rest s next h has c = absurd has

  module _ (given : Option Value) (is_answered : Bool) where
    abbrev pub PlaceLowers : Term → Type 0
    PlaceLowers x = (k : ℕ) (rest : List Instr) (s : List Value) (next : Value → Going Act) → 0 < k → k + height x ≤ length s → HasAnswer given is_answered s → GoesOn k s (going l locals 0 rest) next
        → going l locals 0 (place_code l is_answered x k ++ rest) s ≡ and_then (place_going l locals given x) next

    abbrev pub ValueLowers : Term → Type 0
    ValueLowers x = (k : ℕ) (rest : List Instr) (s : List Value) (next : Value → Going Act) → 0 < k → k + height x ≤ length s → HasAnswer given is_answered s → GoesOn k s (going l locals 0 rest) next
        → going l locals 0 (value_code l is_answered x k ++ rest) s ≡ and_then (value_going l locals given x) next

    -- code before one more instruction
    made_lowered : (code : List Instr) (i : Instr) (g : Going Value) (f : Value → Going Value) (k : ℕ) (rest : List Instr) (s : List Value) (next : Value → Going Act)
        → going l locals 0 (code ++ i ∷ rest) s ≡ and_then g (λ w. and_then (f w) next)
        → going l locals 0 ((code ++ i ∷ []) ++ rest) s ≡ and_then (and_then g f) next
    made_lowered code i g f k rest s next goes = ap (λ is. going l locals 0 is s) (append_assoc code (i ∷ []) rest) ∙ (goes ∙ sym (and_then-assoc g f next))

    joined_lowered : (early : Option Bool) (o : BinaryOp) → is_early o ≡ early → (a b : Term) → ValueLowers a → ValueLowers b
        → (k : ℕ) (rest : List Instr) (s : List Value) (next : Value → Going Act) → 0 < k → k + height (joined o a b) ≤ length s → HasAnswer given is_answered s → GoesOn k s (going l locals 0 rest) next
        → going l locals 0 (joined_code early o k (value_code l is_answered a k) (value_code l is_answered b k) (value_code l is_answered b (k + 1)) ++ rest) s ≡ and_then (and_then (value_going l locals given a) (λ v. join_going o v (value_going l locals given b))) next
    joined_lowered (Some on) o e a b first second k rest s next z h has c =
        ap (λ is. going l locals 0 is s) (append_assoc (value_code l is_answered a k) (Skip k on (length (value_code l is_answered b k) + 1) ∷ (value_code l is_answered b k ++ Truth k ∷ [])) rest
        ∙ ap (λ is. value_code l is_answered a k ++ (Skip k on (length (value_code l is_answered b k) + 1) ∷ is)) (append_assoc (value_code l is_answered b k) (Truth k ∷ []) rest))
        ∙ (first k (Skip k on (length (value_code l is_answered b k) + 1) ∷ (value_code l is_answered b k ++ Truth k ∷ rest)) s (λ v. and_then (early_going on v (value_going l locals given b)) next) z (omega arith) has
        (record {
          on = λ v t long below at. early_on on k (value_code l is_answered b k) rest s t (value_going l locals given b) next v (omega (arith, height-positive a)) c (record { long = long; below = below }) at
              (second k (Truth k ∷ rest) t (λ w. next (of_truth (is_true w))) z (omega (arith, long)) (keeps_has k s t given is_answered z (record { long = long; below = below }) has)
              (truth_on k s t (going l locals 0 rest) next (omega (arith, height-positive a)) c (record { long = long; below = below })));
        })
        ∙ (and_then-same (value_going l locals given a) (λ v. and_then (early_going on v (value_going l locals given b)) next) (λ v. and_then (join_going o v (value_going l locals given b)) next)
        (λ v. ap (λ g. and_then g next) (joined_early on o e v (value_going l locals given b)))
        ∙ sym (and_then-assoc (value_going l locals given a) (λ v. join_going o v (value_going l locals given b)) next)))
    joined_lowered None o e a b first second k rest s next z h has c =
        ap (λ is. going l locals 0 is s) (append_assoc (value_code l is_answered a k) (value_code l is_answered b (k + 1) ++ Join k (k + 1) k o ∷ []) rest
        ∙ ap (λ is. value_code l is_answered a k ++ is) (append_assoc (value_code l is_answered b (k + 1)) (Join k (k + 1) k o ∷ []) rest))
        ∙ (first k (value_code l is_answered b (k + 1) ++ Join k (k + 1) k o ∷ rest) s (λ v. and_then (value_going l locals given b) (λ w. and_then (going_of (operate_on o v w)) next)) z (omega arith) has
        (record {
          on = λ v t long below at. second (k + 1) (Join k (k + 1) k o ∷ rest) t (λ w. and_then (going_of (operate_on o v w)) next) (omega arith) (omega (arith, long))
              (keeps_has k s t given is_answered z (record { long = long; below = below }) has)
              (both_on (λ x y. going_of (operate_on o x y)) k s t (going l locals 0 rest) next v (omega (arith, height-positive a)) c (record { long = long; below = below }) at);
        })
        ∙ (and_then-same (value_going l locals given a) (λ v. and_then (value_going l locals given b) (λ w. and_then (going_of (operate_on o v w)) next)) (λ v. and_then (join_going o v (value_going l locals given b)) next)
        (λ v. sym (and_then-assoc (value_going l locals given b) (λ w. going_of (operate_on o v w)) next) ∙ ap (λ g. and_then g next) (joined_late o e v (value_going l locals given b)))
        ∙ sym (and_then-assoc (value_going l locals given a) (λ v. join_going o v (value_going l locals given b)) next)))

    element_lowered : (base index : Term) → PlaceLowers base → ValueLowers index → PlaceLowers (element base index)
    element_lowered base index first second k rest s next z h has c =
        ap (λ is. going l locals 0 is s) (append_assoc (place_code l is_answered base k) (value_code l is_answered index (k + 1) ++ Element k ∷ []) rest
        ∙ ap (λ is. place_code l is_answered base k ++ is) (append_assoc (value_code l is_answered index (k + 1)) (Element k ∷ []) rest))
        ∙ (first k (value_code l is_answered index (k + 1) ++ Element k ∷ rest) s (λ v. and_then (value_going l locals given index) (λ w. and_then (element_at l v w) next)) z (omega arith) has
        (record {
          on = λ v t long below at. second (k + 1) (Element k ∷ rest) t (λ w. and_then (element_at l v w) next) (omega arith) (omega (arith, long))
              (keeps_has k s t given is_answered z (record { long = long; below = below }) has)
              (both_on (element_at l) k s t (going l locals 0 rest) next v (omega (arith, height-positive base)) c (record { long = long; below = below }) at);
        })
        ∙ (and_then-same (place_going l locals given base) (λ v. and_then (value_going l locals given index) (λ w. and_then (element_at l v w) next)) (λ v. and_then (and_then (value_going l locals given index) (element_at l v)) next)
        (λ v. sym (and_then-assoc (value_going l locals given index) (element_at l v) next))
        ∙ sym (and_then-assoc (place_going l locals given base) (λ v. and_then (value_going l locals given index) (element_at l v)) next)))

    mutual
      pub place_lowered : (x : Term) → PlaceLowers x
      place_lowered (global n) k rest s next z h has c = known_lowered (global_place l n) k rest s next (omega arith) c
      place_lowered (member base n) k rest s next z h has c = made_lowered (place_code l is_answered base k) (Member k n) (place_going l locals given base) (member_at l n) k rest s next
          (place_lowered base k (Member k n ∷ rest) s (λ w. and_then (member_at l n w) next) z h has (made_on (member_at l n) k s (going l locals 0 rest) next (omega (arith, height-positive base)) c))
      place_lowered (element base index) k rest s next z h has c = element_lowered base index (place_lowered base) (value_lowered index) k rest s next z h has c
      place_lowered (target pointer) k rest s next z h has c = made_lowered (value_code l is_answered pointer k) (Follow k) (value_going l locals given pointer) target_of k rest s next
          (value_lowered pointer k (Follow k ∷ rest) s (λ w. and_then (target_of w) next) z h has (made_on target_of k s (going l locals 0 rest) next (omega (arith, height-positive pointer)) c))
      place_lowered (constant v) k rest s next z h has c = refl
      place_lowered (variable n) k rest s next z h has c = refl
      place_lowered answer k rest s next z h has c = refl
      place_lowered (load stable p) k rest s next z h has c = refl
      place_lowered (address p) k rest s next z h has c = refl
      place_lowered (converted kind x) k rest s next z h has c = refl
      place_lowered (prefixed o x) k rest s next z h has c = refl
      place_lowered (joined o a b) k rest s next z h has c = refl

      pub value_lowered : (x : Term) → ValueLowers x
      value_lowered (constant v) k rest s next z h has c = put_on k s s (going l locals 0 rest) next v (omega arith) c (keeps_self k s)
      value_lowered (variable n) k rest s next z h has c = put_on k s s (going l locals 0 rest) next (local_at locals n) (omega arith) c (keeps_self k s)
      value_lowered answer k rest s next z h has c = answer_lowered given is_answered k rest s next (omega arith) has c
      value_lowered (load stable p) k rest s next z h has c = made_lowered (place_code l is_answered p k) (Load k k) (place_going l locals given p) read_at k rest s next
          (place_lowered p k (Load k k ∷ rest) s (λ w. and_then (read_at w) next) z h has (made_on read_at k s (going l locals 0 rest) next (omega (arith, height-positive p)) c))
      value_lowered (address p) k rest s next z h has c = place_lowered p k rest s next z h has c
      value_lowered (converted kind x) k rest s next z h has c = made_lowered (value_code l is_answered x k) (Convert k kind) (value_going l locals given x) (λ v. going_of (converted_to kind v)) k rest s next
          (value_lowered x k (Convert k kind ∷ rest) s (λ w. and_then (going_of (converted_to kind w)) next) z h has (made_on (λ v. going_of (converted_to kind v)) k s (going l locals 0 rest) next (omega (arith, height-positive x)) c))
      value_lowered (prefixed o x) k rest s next z h has c = made_lowered (value_code l is_answered x k) (Prefix k o) (value_going l locals given x) (λ v. going_of (prefix_on o v)) k rest s next
          (value_lowered x k (Prefix k o ∷ rest) s (λ w. and_then (going_of (prefix_on o w)) next) z h has (made_on (λ v. going_of (prefix_on o v)) k s (going l locals 0 rest) next (omega (arith, height-positive x)) c))
      value_lowered (joined o a b) k rest s next z h has c = joined_lowered (is_early o) o refl a b (value_lowered a) (value_lowered b) k rest s next z h has c
      value_lowered (global n) k rest s next z h has c = refl
      value_lowered (member base n) k rest s next z h has c = refl
      value_lowered (element base index) k rest s next z h has c = refl
      value_lowered (target pointer) k rest s next z h has c = refl

pub code_goes : CodeGoesAsTheTerm
code_goes = record {
  place = λ l locals given is_answered x k rest s next. place_lowered l locals given is_answered x k rest s next;
  value = λ l locals given is_answered x k rest s next. value_lowered l locals given is_answered x k rest s next;
}
