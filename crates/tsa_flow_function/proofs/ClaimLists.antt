-- All points at which something claims a path are in its list.
use Rattle.std.proofs.Common.{◌≡◌, ℕ, zero, suc, ◌+◌, ◌<◌, ◌≤◌, nat_eq, Bool, true, false, ◌&&◌, ◌||◌, List, [], ◌∷◌, ◌++◌, Contains}
use Rattle.std.proofs.Common.{add-one, inl, inr, drop, length, length-set, get_or-set_same, get_or-set_other, replicate, Option, Some, None}
use Rattle.std.proofs.Common.{is_some, slice_get, slice_index_or, slice_set, unwrap_or, if◌then◌else◌, refl, sym, ◌∙◌, ap, ap₂, subst}
use Rattle.std.proofs.Common.{arith, eqb-true}
use Rattle.std.proofs.Math.Decide.{dec_lt, ℕ_discrete}
use Rattle.std.proofs.lemmas.List.{length-replicate, set_past}
use Rattle.std.proofs.lemmas.List.Elements.{Contains-append_left, Contains-append_cases, Contains-push}
use Rattle.std.proofs.lemmas.Map.Views.{Contains-from_lookup}
use Rattle.std.specs.Map.{lookup}
use Rattle.tsa_rules_table.specs.Rows.{Rows, is_place, mark_in}
use Rattle.tsa_rules.specs.declared.mark.Mark.{Mark}
use Rattle.tsa_rules.specs.Marks.{no_mark}
use Rattle.tsa_flow_function.specs.Claims.{is_noted, noted, with_entry, with_found}

abbrev At : Type 0
At = (ℕ × ℕ) × Mark

left_part : (x y : Bool) → (x && y) ≡ true → x ≡ true
left_part true y e = refl
left_part false y e = cc

right_part : (x y : Bool) → (x && y) ≡ true → y ≡ true
right_part true y e = e
right_part false y e = cc

only : {A : Type 0} (e x : A) → Contains (e ∷ []) x → e ≡ x
only e x (zero, inside, is) = is
only e x (suc k, inside, is) = absurd (omega (arith, inside))

abbrev list_of : List (List ℕ) → ℕ → List ℕ
list_of lists n = slice_index_or lists n []

abbrev put : List (List ℕ) → (n p : ℕ) → List (List ℕ)
put lists n p = slice_set lists n (list_of lists n ++ p ∷ [])

-- a list that takes one point more has it, and no point is lost
put_there : (lists : List (List ℕ)) (n p : ℕ) → n < length lists → Contains (list_of (put lists n p) n) p
put_there lists n p inside = subst (λ xs. Contains xs p) (sym (get_or-set_same lists n (list_of lists n ++ p ∷ []) [] inside)) (Contains-push (list_of lists n) p)

put_kept : (lists : List (List ℕ)) (n p m q : ℕ) → n < length lists → Contains (list_of lists m) q → Contains (list_of (put lists n p) m) q
put_kept lists n p m q inside h = elim (ℕ_discrete m n) [
  | yes same ↦ subst (λ k. Contains (list_of (put lists n p) k) q) (sym same)
      (subst (λ xs. Contains xs q) (sym (get_or-set_same lists n (list_of lists n ++ p ∷ []) [] inside))
      (Contains-append_left (list_of lists n) (p ∷ []) q (subst (λ k. Contains (list_of lists k) q) same h)))
  | no other ↦ subst (λ xs. Contains xs q) (sym (get_or-set_other lists n m (list_of lists n ++ p ∷ []) [] other)) h
]

-- so it is of a mark
marked : (lists : List (List ℕ)) (e : At) (b : Bool) → is_noted e.1 ≡ b → e.0.1 < length lists → (m q : ℕ) → Contains (list_of lists m) q
    → Contains (list_of (if b then put lists e.0.1 e.0.0 else lists) m) q
marked lists e true is inside m q h = put_kept lists e.0.1 e.0.0 m q inside h
marked lists e false is inside m q h = h

-- a mark of a path that isn't there changes nothing
past : (lists : List (List ℕ)) (e : At) (b : Bool) → length lists ≤ e.0.1 → (if b then put lists e.0.1 e.0.0 else lists) ≡ lists
past lists e true beyond = set_past lists e.0.1 (list_of lists e.0.1 ++ e.0.0 ∷ []) beyond
past lists e false beyond = refl

long : (lists : List (List ℕ)) (e : At) (b : Bool) → length (if b then put lists e.0.1 e.0.0 else lists) ≡ length lists
long lists e true = length-set lists e.0.1 (list_of lists e.0.1 ++ e.0.0 ∷ [])
long lists e false = refl

with_kept : (lists : List (List ℕ)) (e : At) (m q : ℕ) → Contains (list_of lists m) q → Contains (list_of (with_entry lists e) m) q
with_kept lists e m q h = elim (dec_lt e.0.1 (length lists)) [
  | yes inside ↦ marked lists e (is_noted e.1) refl inside m q h
  | no beyond ↦ subst (λ ls. Contains (list_of ls m) q) (sym (past lists e (is_noted e.1) (omega (arith, beyond)))) h
]

with_noted : (lists : List (List ℕ)) (e : At) → e.0.1 < length lists → is_noted e.1 ≡ true → Contains (list_of (with_entry lists e) e.0.1) e.0.0
with_noted lists e inside claims = rw claims (put_there lists e.0.1 e.0.0 inside)

-- and of some marks
noted_kept : (es : List At) (lists : List (List ℕ)) (m q : ℕ) → Contains (list_of lists m) q → Contains (list_of (noted es lists) m) q
unfolding noted
noted_kept [] lists m q h = h
noted_kept (e ∷ es) lists m q h = noted_kept es (with_entry lists e) m q (with_kept lists e m q h)

noted_long : (es : List At) (lists : List (List ℕ)) → length (noted es lists) ≡ length lists
unfolding noted
noted_long [] lists = refl
noted_long (e ∷ es) lists = noted_long es (with_entry lists e) ∙ long lists e (is_noted e.1)

all_noted : (es : List At) (lists : List (List ℕ)) (x : At) → x.0.1 < length lists → is_noted x.1 ≡ true → Contains es x → Contains (list_of (noted es lists) x.0.1) x.0.0
unfolding noted
all_noted [] lists x inside claims h = absurd (omega (arith, h.1))
all_noted (e ∷ es) lists x inside claims h = elim (Contains-append_cases (e ∷ []) es x h) [
  | inl first ↦ noted_kept es (with_entry lists e) x.0.1 x.0.0
      (subst (λ y. Contains (list_of (with_entry lists y) x.0.1) x.0.0) (sym (only e x first)) (with_noted lists x inside claims))
  | inr later ↦ all_noted es (with_entry lists e) x (subst (λ n. x.0.1 < n) (sym (long lists e (is_noted e.1))) inside) claims later
]

-- what a row says of a path is noted where it claims it
same_place : (a b : ℕ × ℕ) → is_place a.0 a.1 b ≡ true → a ≡ b
same_place a b e =
    ap₂ (λ m n. (m, n)) (eqb-true a.0 b.0 (left_part (nat_eq a.0 b.0) (nat_eq a.1 b.1) e)) (eqb-true a.1 b.1 (right_part (nat_eq a.0 b.0) (nat_eq a.1 b.1) e))

found : (m : Rows) (point number : ℕ) (o : Option Mark) → lookup (is_place point number) m.marks ≡ o → is_noted (unwrap_or o no_mark) ≡ true
    → (x : Mark) × (Contains m.marks ((point, number), x) × (is_noted x ≡ true))
found m point number None is claims = cc
found m point number (Some x) is claims = (x, (Contains-from_lookup {eq = λ a b. is_place a.0 a.1 b} same_place (point, number) x m.marks is, claims))

pub all_marks : (m : Rows) (paths point number : ℕ) → number < paths → is_noted (mark_in m point number) ≡ true
    → Contains (slice_index_or (noted m.marks (replicate paths [])) number []) point
all_marks m paths point number inside claims =
    let x = found m point number (lookup (is_place point number) m.marks) refl claims in
    all_noted m.marks (replicate paths []) ((point, number), x.0) (subst (λ n. number < n) (sym (length-replicate paths [])) inside) x.1.1 x.1.0

one_of : (a b : Bool) → a ≡ true → (a || b) ≡ true
one_of true b e = refl
one_of false b e = cc

other_of : (a b : Bool) → b ≡ true → (a || b) ≡ true
other_of true b e = refl
other_of false b e = e

pub all_claims : (m : Rows) (paths point number : ℕ) → number < paths → is_some (mark_in m point number).claim ≡ true
    → Contains (slice_index_or (noted m.marks (replicate paths [])) number []) point
all_claims m paths point number inside claims =
    all_marks m paths point number inside (one_of (is_some (mark_in m point number).claim) (is_some (mark_in m point number).tried) claims)

-- a path of which no point is listed is neither claimed nor tried
no_member : {A : Type 0} (x : A) → Contains [] x → ⊥
no_member x (k, inside, is) = absurd (omega (arith, inside))

is_none : {A : Type 0} (o : Option A) → (is_some o ≡ true → ⊥) → o ≡ None
is_none None h = refl
is_none (Some x) h = absurd (h refl)

module _ (m : Rows) (paths number : ℕ) (inside : number < paths) (none : slice_index_or (noted m.marks (replicate paths [])) number [] ≡ []) (point : ℕ) where
  unlisted : is_noted (mark_in m point number) ≡ true → ⊥
  unlisted e = no_member point (subst (λ xs. Contains xs point) none (all_marks m paths point number inside e))

  pub never_claimed : (mark_in m point number).claim ≡ None
  never_claimed =
      is_none (mark_in m point number).claim (λ e. unlisted (one_of (is_some (mark_in m point number).claim) (is_some (mark_in m point number).tried) e))

  pub never_tried : (mark_in m point number).tried ≡ None
  never_tried =
      is_none (mark_in m point number).tried (λ e. unlisted (other_of (is_some (mark_in m point number).claim) (is_some (mark_in m point number).tried) e))

-- one mark more is noted
noted_suc : (es : List At) (lists : List (List ℕ)) (i : ℕ) → i < length es → noted (drop (suc i) es) (with_found lists (slice_get es i)) ≡ noted (drop i es) lists
unfolding noted
noted_suc [] lists i less = absurd (omega (arith, less))
noted_suc (e ∷ es) lists zero less = refl
noted_suc (e ∷ es) lists (suc i) less = noted_suc es lists i (omega (arith, less))

pub noted_on : (es : List At) (lists : List (List ℕ)) (i : ℕ) → i < length es → noted (drop (i + 1) es) (with_found lists (slice_get es i)) ≡ noted (drop i es) lists
noted_on es lists i less = ap (λ n. noted (drop n es) (with_found lists (slice_get es i))) (add-one i) ∙ noted_suc es lists i less

pub none_left : (lists : List (List ℕ)) → noted [] lists ≡ lists
unfolding noted
none_left lists = refl
