-- What holds of all elements of lists.
use Rattle.std.proofs.Common.{List, [], ◌∷◌, ◌++◌, map}
use Rattle.std.specs.Prelude.{All}
use Rattle.tsa_mean.proofs.Lists.{all_first, all_more, all_none, all_rest}

pub all_left : {A : Type 0} (P : A → Type 0) (xs ys : List A) → All P (xs ++ ys) → All P xs
all_left P [] ys all = all_none P
all_left P (x ∷ xs) ys all = all_more P x xs (all_first P x (xs ++ ys) all) (all_left P xs ys (all_rest P x (xs ++ ys) all))

pub all_right : {A : Type 0} (P : A → Type 0) (xs ys : List A) → All P (xs ++ ys) → All P ys
all_right P [] ys all = all
all_right P (x ∷ xs) ys all = all_right P xs ys (all_rest P x (xs ++ ys) all)

pub all_both : {A : Type 0} (P : A → Type 0) (xs ys : List A) → All P xs → All P ys → All P (xs ++ ys)
all_both P [] ys one other = other
all_both P (x ∷ xs) ys one other = all_more P x (xs ++ ys) (all_first P x xs one) (all_both P xs ys (all_rest P x xs one) other)

pub all_mapped : {A B : Type 0} (P Q : A → Type 0) (R : B → Type 0) (f : A → B) → ((x : A) → P x → Q x → R (f x)) → (xs : List A) → All P xs → All Q xs → All R (map f xs)
all_mapped P Q R f each [] one other = all_none R
all_mapped P Q R f each (x ∷ xs) one other = all_more R (f x) (map f xs) (each x (all_first P x xs one) (all_first Q x xs other))
    (all_mapped P Q R f each xs (all_rest P x xs one) (all_rest Q x xs other))

pub all_unmapped : {A B : Type 0} (P : B → Type 0) (f : A → B) (xs : List A) → All P (map f xs) → All (λ x. P (f x)) xs
all_unmapped P f [] all = all_none (λ x. P (f x))
all_unmapped P f (x ∷ xs) all = all_more (λ x. P (f x)) x xs (all_first P (f x) (map f xs) all) (all_unmapped P f xs (all_rest P (f x) (map f xs) all))

pub all_alike : {A : Type 0} (P Q : A → Type 0) → ((x : A) → P x → Q x) → (xs : List A) → All P xs → All Q xs
all_alike P Q each [] all = all_none Q
all_alike P Q each (x ∷ xs) all = all_more Q x xs (each x (all_first P x xs all)) (all_alike P Q each xs (all_rest P x xs all))
