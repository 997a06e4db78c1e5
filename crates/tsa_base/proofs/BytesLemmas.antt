-- Steps of a source and of a sink, one after another.
use Rattle.std.proofs.Common.{ℕ, ◌+◌, ◌-◌, List, [], ◌++◌, length, take, drop, Option, None, Some, refl, sym, ◌∙◌, ap, append_assoc}
use Rattle.std.proofs.lemmas.List.{append-nil, take-append-drop, take_rest}
use Rattle.std.proofs.Math.Seq.{take-add}
use Rattle.std.specs.Io.KnownBytes.{Consumes, Appends, Keeps}
use Rattle.tsa_base.specs.Transfer.{AppendsFront}

pub Consumes-refl : (a : Option (List ℕ)) → Consumes a a []
Consumes-refl None = tt
Consumes-refl (Some xs) = refl

pub Consumes-more : (a b c : Option (List ℕ)) (xs ys : List ℕ) → Consumes a b xs → Consumes b c ys → Consumes a c (xs ++ ys)
Consumes-more None b c xs ys p q = tt
Consumes-more (Some a) None c xs ys p q = absurd p
Consumes-more (Some a) (Some b) None xs ys p q = absurd q
Consumes-more (Some a) (Some b) (Some c) xs ys p q = p ∙ ap (λ z. xs ++ z) q ∙ sym (append_assoc xs ys c)

pub Consumes-kept : (a b c : Option (List ℕ)) (xs : List ℕ) → Consumes a b xs → Keeps b c → Consumes a c xs
Consumes-kept None b c xs p q = tt
Consumes-kept (Some a) None c xs p q = absurd p
Consumes-kept (Some a) (Some b) None xs p q = absurd q
Consumes-kept (Some a) (Some b) (Some c) xs p q = p ∙ ap (λ z. xs ++ z) (sym q)

pub Appends-refl : (a : Option (List ℕ)) → Appends a a []
Appends-refl None = tt
Appends-refl (Some xs) = sym (append-nil xs)

pub Appends-more : (a b c : Option (List ℕ)) (xs ys : List ℕ) → Appends a b xs → Appends b c ys → Appends a c (xs ++ ys)
Appends-more None b c xs ys p q = tt
Appends-more (Some a) None c xs ys p q = absurd p
Appends-more (Some a) (Some b) None xs ys p q = absurd q
Appends-more (Some a) (Some b) (Some c) xs ys p q = q ∙ ap (λ z. z ++ ys) p ∙ append_assoc a xs ys

pub Appends-kept : (a b c : Option (List ℕ)) (xs : List ℕ) → Appends a b xs → Keeps b c → Appends a c xs
Appends-kept None b c xs p q = tt
Appends-kept (Some a) None c xs p q = absurd p
Appends-kept (Some a) (Some b) None xs p q = absurd q
Appends-kept (Some a) (Some b) (Some c) xs p q = q ∙ p

pub AppendsFront-more : (a b c : Option (List ℕ)) (xs : List ℕ) (at : ℕ) → Appends a b (take at xs) → Keeps b c → AppendsFront a c xs
AppendsFront-more a b c xs at p q = record { front = take at xs; rest = drop at xs; whole = sym (take-append-drop at xs); taken = Appends-kept a b c (take at xs) p q }

pub Appends-take : (a b c : Option (List ℕ)) (xs : List ℕ) (at n : ℕ) → Appends a b (take at xs) → Appends b c (take n (take (length xs - at) (drop at xs))) → Appends a c (take (at + n) xs)
Appends-take a b c xs at n p q =
    let q' : Appends b c (take n (drop at xs)) = rw (take_rest xs at) at q in
    rw take-add (Appends-more a b c (take at xs) (take n (drop at xs)) p q')
