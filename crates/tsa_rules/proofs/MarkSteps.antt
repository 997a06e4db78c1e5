-- Marks are made step by step.
use Rattle.std.proofs.Common.{◌≡◌, ℕ, zero, suc, ◌+◌, nat_lt, Bool, true, false, not, ◌&&◌, ◌||◌, List, [], ◌∷◌, ◌++◌, length, find, filter}
use Rattle.std.proofs.Common.{Option, Some, None, option_map, is_some, refl, sym, ap, ◌∙◌, arith, if◌then◌else◌}
use Rattle.std.proofs.lemmas.Bool.Decides.{nat_tests}
use Rattle.std.proofs.lemmas.List.Folds.{find-append, list_any-append}
use Rattle.std.specs.List.{list_any}
use Rattle.std.specs.Option.{option_or}
use Rattle.tsa_tree.specs.declared.attr.AttrKind.{AttrKind}
use Rattle.tsa_place_model.specs.Ways.{Way}
use Rattle.tsa_core.specs.Programs.{Attr}
use Rattle.tsa_core.specs.Uses.{Access}
use Rattle.tsa_rules.specs.declared.kinds.Kinds.{Kinds}
use Rattle.tsa_rules.specs.Attributes.{claims, is_try, names, claims_path, tries_path, kind_of, claim, named, claim_count}
use Rattle.tsa_rules.specs.Points.{is_guarded_by, is_read_under, is_write_under, reads_under, writes_under, mentions}
use Rattle.tsa_rules.specs.KindSets.{no_kinds, with_kind}
use Rattle.tsa_rules.specs.Marks.{claim_in, kinds_with, kinds_of, mark_by, with_attribute, with_right, with_left, with_declaration}
use Rattle.tsa_rules.specs.Marks.{MarksAreMadeStepByStep}
use Rattle.tsa_rules.proofs.KindBits.{or-false}

and-true : (b : Bool) → (b && true) ≡ b
and-true true = refl
and-true false = refl

and-false : (b : Bool) → (b && false) ≡ false
and-false true = refl
and-false false = refl

-- one element more
found_last : {X : Type 0} (p : X → Bool) (x : X) (b : Bool) → p x ≡ b → find p (x ∷ []) ≡ (if b then Some x else None)
found_last p x b e = rw e refl

any_last : {X : Type 0} (p : X → Bool) (xs : List X) (x : X) → list_any p (xs ++ x ∷ []) ≡ (list_any p xs || p x)
any_last p xs x = list_any-append p xs (x ∷ []) ∙ ap (λ b. list_any p xs || b) (or-false (p x))

count_last : {X : Type 0} (p : X → Bool) (xs : List X) (x : X) → length (filter p (xs ++ x ∷ [])) ≡ length (filter p xs) + (if p x then 1 else 0)
count_last p [] x = by (p x)
  where
    by : (b : Bool) → length (if b then x ∷ [] else []) ≡ 0 + (if b then 1 else 0)
    by true = refl
    by false = refl
count_last p (y ∷ xs) x = by (p y) (count_last p xs x)
  where
    by : (b : Bool) → length (filter p (xs ++ x ∷ [])) ≡ length (filter p xs) + (if p x then 1 else 0)
        → length (if b then y ∷ filter p (xs ++ x ∷ []) else filter p (xs ++ x ∷ [])) ≡ length (if b then y ∷ filter p xs else filter p xs) + (if p x then 1 else 0)
    by true e = omega arith
    by false e = e

found_counts : {X Y : Type 0} (p : X → Bool) (g : X → Y) (xs : List X) → is_some (option_map g (find p xs)) ≡ nat_lt 0 (length (filter p xs))
found_counts p g [] = refl
found_counts p g (x ∷ xs) = by (p x) (found_counts p g xs)
  where
    by : (b : Bool) → is_some (option_map g (find p xs)) ≡ nat_lt 0 (length (filter p xs))
        → is_some (option_map g (if b then Some x else find p xs)) ≡ nat_lt 0 (length (if b then x ∷ filter p xs else filter p xs))
    by true e = let t : nat_lt 0 (suc (length (filter p xs))) ≡ true = grind (arith, nat_tests) in sym t
    by false e = e

mapped_or : {X Y : Type 0} (g : X → Y) (x y : Option X) → option_map g (option_or x y) ≡ option_or (option_map g x) (option_map g y)
mapped_or g None y = refl
mapped_or g (Some x) y = refl

or_none : {X : Type 0} (x : Option X) → option_or x None ≡ x
or_none None = refl
or_none (Some x) = refl

-- an attribute more
kinds_more : (c : Way) (kinds : Kinds) (attrs : List Attr) (a : Attr) → kinds_with c kinds (attrs ++ a ∷ []) ≡ (if names c a then with_kind (kinds_with c kinds attrs) a.kind else kinds_with c kinds attrs)
kinds_more c kinds [] a = refl
kinds_more c kinds (b ∷ attrs) a = kinds_more c (if names c b then with_kind kinds b.kind else kinds) attrs a

-- the first that passes a test of its kind and names the path, of which the last one does
first_more : (test : AttrKind → Bool) (attrs : List Attr) (a : Attr) (c : Way) → names c a ≡ true
    → option_map claim_in (find (λ x. test x.kind && names c x) (attrs ++ a ∷ [])) ≡ option_or (option_map claim_in (find (λ x. test x.kind && names c x) attrs)) (if test a.kind then Some (claim_in a) else None)
first_more test attrs a c e =
    ap (option_map claim_in) (find-append (λ x. test x.kind && names c x) attrs (a ∷ []) ∙ ap (option_or (find (λ x. test x.kind && names c x) attrs)) (found_last (λ x. test x.kind && names c x) a (test a.kind) (rw e (and-true (test a.kind)))))
    ∙ (mapped_or claim_in (find (λ x. test x.kind && names c x) attrs) (if test a.kind then Some a else None) ∙ ap (option_or (option_map claim_in (find (λ x. test x.kind && names c x) attrs))) (mapped (test a.kind)))
  where
    mapped : (b : Bool) → option_map claim_in (if b then Some a else None) ≡ (if b then Some (claim_in a) else None)
    mapped true = refl
    mapped false = refl

-- or of which it doesn't
first_same : {X : Type 0} (p : X → Bool) (xs : List X) (x : X) → p x ≡ false → find p (xs ++ x ∷ []) ≡ find p xs
first_same p xs x e = find-append p xs (x ∷ []) ∙ (ap (option_or (find p xs)) (found_last p x false e) ∙ or_none (find p xs))

count_same : {X : Type 0} (p : X → Bool) (xs : List X) (x : X) → p x ≡ false → length (filter p (xs ++ x ∷ [])) ≡ length (filter p xs)
count_same p xs x e = count_last p xs x ∙ rw e (omega arith)

named_more : (attrs : List Attr) (a : Attr) (c : Way) → names c a ≡ true → named (attrs ++ a ∷ []) c ≡ option_or (named attrs c) (Some a.kind)
named_more attrs a c e =
    ap kind_of (find-append (names c) attrs (a ∷ []) ∙ ap (option_or (find (names c) attrs)) (found_last (names c) a true e)) ∙ mapped_or (λ x. x.kind) (find (names c) attrs) (Some a)

one_above : (n : ℕ) (b : Bool) → nat_lt 1 (n + (if b then 1 else 0)) ≡ (nat_lt 1 n || (b && nat_lt 0 n))
one_above n true = by n
  where
    by : (n : ℕ) → nat_lt 1 (n + 1) ≡ (nat_lt 1 n || nat_lt 0 n)
    by zero = refl
    by (suc n) =
        let t : nat_lt 1 (suc n + 1) ≡ true = grind (arith, nat_tests) in
        let s : nat_lt 0 (suc n) ≡ true = grind (arith, nat_tests) in
        rw (t, s) (sym (or_yes (nat_lt 1 (suc n))))
      where
        or_yes : (b : Bool) → (b || true) ≡ true
        or_yes true = refl
        or_yes false = refl
one_above n false = let e : n + 0 ≡ n = omega arith in rw e (sym (or-false (nat_lt 1 n)))

twice_more : (attrs : List Attr) (a : Attr) (c : Way) → names c a ≡ true
    → nat_lt 1 (claim_count (attrs ++ a ∷ []) c) ≡ (nat_lt 1 (claim_count attrs c) || (claims a.kind && is_some (option_map claim_in (claim attrs c))))
twice_more attrs a c e =
    let one : claims_path c a ≡ claims a.kind = rw e (and-true (claims a.kind)) in
    let more : claim_count (attrs ++ a ∷ []) c ≡ claim_count attrs c + (if claims a.kind then 1 else 0) = count_last (claims_path c) attrs a ∙ ap (λ b. claim_count attrs c + (if b then 1 else 0)) one in
    ap (nat_lt 1) more ∙ (one_above (claim_count attrs c) (claims a.kind) ∙ ap (λ b. nat_lt 1 (claim_count attrs c) || (claims a.kind && b)) (sym (found_counts (claims_path c) claim_in attrs)))

attribute_by : (attrs : List Attr) (a : Attr) (right left : List Access) (declared : Option ℕ) (c : Way) (b : Bool) → names c a ≡ b
    → mark_by (attrs ++ a ∷ []) right left declared c ≡ (if b then with_attribute (mark_by attrs right left declared c) (claim_in a) else mark_by attrs right left declared c)
attribute_by attrs a right left declared c true e =
    let kinds : kinds_of (attrs ++ a ∷ []) c ≡ with_kind (kinds_of attrs c) a.kind = kinds_more c no_kinds attrs a ∙ rw e refl in
    λ i. record {
      kinds = kinds i;
      named = named_more attrs a c e i;
      claim = first_more claims attrs a c e i;
      tried = first_more is_try attrs a c e i;
      is_claimed_twice = twice_more attrs a c e i;
      reads_before = reads_under c right;
      reads_after = reads_under c left;
      writes = writes_under c left;
      is_declared = (mark_by attrs right left declared c).is_declared;
    }
attribute_by attrs a right left declared c false e =
    let kinds : kinds_of (attrs ++ a ∷ []) c ≡ kinds_of attrs c = kinds_more c no_kinds attrs a ∙ rw e refl in
    let claimed : claims_path c a ≡ false = rw e (and-false (claims a.kind)) in
    let tried : tries_path c a ≡ false = rw e (and-false (is_try a.kind)) in
    λ i. record {
      kinds = kinds i;
      named = kind_of (first_same (names c) attrs a e i);
      claim = option_map claim_in (first_same (claims_path c) attrs a claimed i);
      tried = option_map claim_in (first_same (tries_path c) attrs a tried i);
      is_claimed_twice = nat_lt 1 (count_same (claims_path c) attrs a claimed i);
      reads_before = reads_under c right;
      reads_after = reads_under c left;
      writes = writes_under c left;
      is_declared = (mark_by attrs right left declared c).is_declared;
    }

-- an access more
read_last : (c : Way) (xs : List Access) (x : Access) (b : Bool) → is_guarded_by c x ≡ b → reads_under c (xs ++ x ∷ []) ≡ (if b then (reads_under c xs || not x.is_write) else reads_under c xs)
read_last c xs x true e = any_last (is_read_under c) xs x ∙ rw e (ap (λ b. reads_under c xs || b) (and-true (not x.is_write)))
read_last c xs x false e = any_last (is_read_under c) xs x ∙ rw e (ap (λ b. reads_under c xs || b) (and-false (not x.is_write)) ∙ or-false (reads_under c xs))

write_last : (c : Way) (xs : List Access) (x : Access) (b : Bool) → is_guarded_by c x ≡ b → writes_under c (xs ++ x ∷ []) ≡ (if b then (writes_under c xs || x.is_write) else writes_under c xs)
write_last c xs x true e = any_last (is_write_under c) xs x ∙ rw e (ap (λ b. writes_under c xs || b) (and-true x.is_write))
write_last c xs x false e = any_last (is_write_under c) xs x ∙ rw e (ap (λ b. writes_under c xs || b) (and-false x.is_write) ∙ or-false (writes_under c xs))

right_by : (attrs : List Attr) (right left : List Access) (x : Access) (declared : Option ℕ) (c : Way) (b : Bool) → is_guarded_by c x ≡ b
    → mark_by attrs (right ++ x ∷ []) left declared c ≡ (if b then with_right (mark_by attrs right left declared c) x.is_write else mark_by attrs right left declared c)
right_by attrs right left x declared c true e = λ i. record (mark_by attrs right left declared c) { reads_before = read_last c right x true e i }
right_by attrs right left x declared c false e = λ i. record (mark_by attrs right left declared c) { reads_before = read_last c right x false e i }

left_by : (attrs : List Attr) (right left : List Access) (x : Access) (declared : Option ℕ) (c : Way) (b : Bool) → is_guarded_by c x ≡ b
    → mark_by attrs right (left ++ x ∷ []) declared c ≡ (if b then with_left (mark_by attrs right left declared c) x.is_write else mark_by attrs right left declared c)
left_by attrs right left x declared c true e = λ i. record (mark_by attrs right left declared c) { reads_after = read_last c left x true e i; writes = write_last c left x true e i }
left_by attrs right left x declared c false e = λ i. record (mark_by attrs right left declared c) { reads_after = read_last c left x false e i; writes = write_last c left x false e i }

declared_by : (attrs : List Attr) (right left : List Access) (c : Way) (b : Bool)
    → record (mark_by attrs right left None c) { is_declared = b } ≡ (if b then with_declaration (mark_by attrs right left None c) else mark_by attrs right left None c)
declared_by attrs right left c true = refl
declared_by attrs right left c false = refl

pub marks_are_made_step_by_step : MarksAreMadeStepByStep
marks_are_made_step_by_step = record {
  nothing = λ c. refl;
  attribute = λ attrs a right left declared c. attribute_by attrs a right left declared c (names c a) refl;
  right = λ attrs right left x declared c. right_by attrs right left x declared c (is_guarded_by c x) refl;
  left = λ attrs right left x declared c. left_by attrs right left x declared c (is_guarded_by c x) refl;
  declaration = λ attrs right left local c. declared_by attrs right left c (mentions local c);
}
