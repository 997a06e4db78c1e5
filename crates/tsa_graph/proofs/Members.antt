-- Members of lists, and the edges of points.
use Rattle.std.proofs.Common.{◌≡◌, ◌∙◌, ℕ, zero, suc, ◌<◌, arith, Bool, true, false, true≢false, nat_eq, ◌⊎◌, inl, inr, List, [], ◌∷◌, map}
use Rattle.std.proofs.Common.{length, get_or, All, Contains, Some, slice_get, if◌then◌else◌, refl, sym, ap, subst}
use Rattle.std.proofs.lemmas.List.Elements.{All-get_or, Contains-get_or}
use Rattle.std.proofs.lemmas.Option.{slice_get_within, slice_get-get_or, get_or_from_slice_get}
use Rattle.tsa_core.specs.Control.{Edge}
use Rattle.tsa_graph.specs.Edges.{edges_from, edges_into}
use Rattle.tsa_graph.proofs.WaysMade.{equal}

pub here : {A : Type 0} (x : A) (xs : List A) → Contains (x ∷ xs) x
here x xs = (zero, omega arith, refl)

pub behind : {A : Type 0} (y : A) (xs : List A) (x : A) → Contains xs x → Contains (y ∷ xs) x
behind y xs x h = let l = h.1 in (suc h.0, omega (arith, l), h.2)

pub no_member : {A B : Type 0} (x : A) → Contains [] x → B
no_member x h = let l = h.1 in let no : ⊥ = omega (arith, l) in absurd no

pub first_or_rest : {A : Type 0} (y : A) (xs : List A) (x : A) → Contains (y ∷ xs) x → (y ≡ x) ⊎ Contains xs x
first_or_rest y xs x h = by h.0 h.1 h.2
  where
    by : (k : ℕ) → k < length (y ∷ xs) → get_or (y ∷ xs) k x ≡ x → (y ≡ x) ⊎ Contains xs x
    by zero l e = inl e
    by (suc k) l e = inr (k, omega (arith, l), e)

pub only : {A : Type 0} (y x : A) → Contains (y ∷ []) x → y ≡ x
only y x h = elim (first_or_rest y [] x h) [ inl e ↦ e | inr r ↦ no_member x r ]

pub map_member : {A B : Type 0} (f : A → B) (xs : List A) (x : A) → Contains xs x → Contains (map f xs) (f x)
map_member f [] x h = no_member x h
map_member f (y ∷ xs) x h =
    elim (first_or_rest y xs x h) [ inl e ↦ subst (Contains (f y ∷ map f xs)) (ap f e) (here (f y) (map f xs)) | inr r ↦ behind (f y) (map f xs) (f x) (map_member f xs x r) ]

pub member_of_map : {A B : Type 0} (f : A → B) (xs : List A) (z : B) → Contains (map f xs) z → (x : A) × Contains xs x × (f x ≡ z)
member_of_map f [] z h = no_member z h
member_of_map f (y ∷ xs) z h =
    elim (first_or_rest (f y) (map f xs) z h) [ inl e ↦ (y, here y xs, e) | inr r ↦ let m = member_of_map f xs z r in (m.0, behind y xs m.0 m.1, m.2) ]

-- facts of all elements at their places
pub at_place : {A : Type 0} (P : A → Type 0) (xs : List A) (k : ℕ) (x : A) → All P xs → slice_get xs k ≡ Some x → P x
at_place P xs k x h e = subst P (get_or_from_slice_get xs k x x e) (All-get_or P xs k x (slice_get_within xs k x e) h)

pub each_place : {A : Type 0} (P : A → Type 0) (xs : List A) → ((k : ℕ) (x : A) → slice_get xs k ≡ Some x → P x) → All P xs
each_place P xs f = λ k d w. f k (get_or xs k d) (slice_get-get_or xs k d w)

pub each_member : {A : Type 0} (P : A → Type 0) (xs : List A) → ((x : A) → Contains xs x → P x) → All P xs
each_member P xs f = λ k d w. f (get_or xs k d) (Contains-get_or xs k d w)

-- what stands inside a list doesn't depend on what is read behind its end
pub any_default : {A : Type 0} (xs : List A) (i : ℕ) (c d : A) → i < length xs → get_or xs i c ≡ get_or xs i d
any_default xs i c d w = get_or_from_slice_get xs i (get_or xs i d) c (slice_get-get_or xs i d w)

-- an edge that a test keeps or leaves out
keeps : (b : Bool) (d e : Edge) (xs : List Edge) → Contains xs e → Contains (if b then d ∷ xs else xs) e
keeps true d e xs h = behind d xs e h
keeps false d e xs h = h

takes : (b : Bool) (d e : Edge) (xs : List Edge) → b ≡ true → d ≡ e → Contains (if b then d ∷ xs else xs) e
takes true d e xs t is = subst (Contains (d ∷ xs)) is (here d xs)
takes false d e xs t is = absurd (true≢false (sym t))

was : (b : Bool) (d e : Edge) (xs : List Edge) → Contains (if b then d ∷ xs else xs) e → (d ≡ e) ⊎ Contains xs e
was true d e xs h = first_or_rest d xs e h
was false d e xs h = inr h

pub among_into : (q : ℕ) (es : List Edge) (e : Edge) → e.to ≡ q → Contains es e → Contains (edges_into q es) e
among_into q [] e g h = no_member e h
among_into q (d ∷ es) e g h =
    elim (first_or_rest d es e h) [ inl is ↦ takes (nat_eq d.to q) d e (edges_into q es) (equal d.to q (ap (λ x. x.to) is ∙ g)) is | inr r ↦ keeps (nat_eq d.to q) d e (edges_into q es) (among_into q es e g r) ]

pub among_from : (p : ℕ) (es : List Edge) (e : Edge) → e.from ≡ p → Contains es e → Contains (edges_from p es) e
among_from p [] e g h = no_member e h
among_from p (d ∷ es) e g h =
    elim (first_or_rest d es e h) [ inl is ↦ takes (nat_eq d.from p) d e (edges_from p es) (equal d.from p (ap (λ x. x.from) is ∙ g)) is | inr r ↦ keeps (nat_eq d.from p) d e (edges_from p es) (among_from p es e g r) ]

pub into_is_one : (q : ℕ) (es : List Edge) (e : Edge) → Contains (edges_into q es) e → Contains es e
into_is_one q [] e h = no_member e h
into_is_one q (d ∷ es) e h =
    elim (was (nat_eq d.to q) d e (edges_into q es) h) [ inl is ↦ subst (Contains (d ∷ es)) is (here d es) | inr r ↦ behind d es e (into_is_one q es e r) ]
