-- What is written piece by piece.
use Rattle.std.proofs.Common.{◌∙◌, ℕ, List, [], ◌++◌, Option, Some, None, Result, Ok, Err, refl, sym, ap, append_assoc, append-nil}
use Rattle.std.specs.Io.KnownBytes.{Appends}
use Rattle.std.specs.Prelude.{OnErr, OnOk}
use Rattle.tsa_base.specs.Transfer.{AppendsFront}

pub appends_nothing : (a : Option (List ℕ)) → Appends a a []
appends_nothing None = tt
appends_nothing (Some xs) = sym (append-nil xs)

pub appends_more : (a b c : Option (List ℕ)) (x y : List ℕ) → Appends a b x → Appends b c y → Appends a c (x ++ y)
appends_more None b c x y h g = tt
appends_more (Some xs) None c x y h g = absurd h
appends_more (Some xs) (Some ys) None x y h g = absurd g
appends_more (Some xs) (Some ys) (Some zs) x y h g = g ∙ ap (λ t. t ++ y) h ∙ append_assoc xs x y

-- a first part
pub nothing_yet : (a : Option (List ℕ)) (text : List ℕ) → AppendsFront a a text
nothing_yet a text = record { front = []; rest = text; whole = refl; taken = appends_nothing a }

pub front_of_more : (a b : Option (List ℕ)) (x y : List ℕ) → AppendsFront a b x → AppendsFront a b (x ++ y)
front_of_more a b x y f = record { front = f.front; rest = f.rest ++ y; whole = ap (λ t. t ++ y) f.whole ∙ append_assoc f.front f.rest y; taken = f.taken }

pub front_behind : (a b c : Option (List ℕ)) (x y : List ℕ) → Appends a b x → AppendsFront b c y → AppendsFront a c (x ++ y)
front_behind a b c x y h f = record {
  front = x ++ f.front;
  rest = f.rest;
  whole = ap (λ t. x ++ t) f.whole ∙ sym (append_assoc x f.front f.rest);
  taken = appends_more a b c x f.front h f.taken;
}

-- what holds in any case holds where there is an error
pub any_error : {T E : Type 0} (result : Result T E) (P : Type 0) → P → OnErr result P
any_error (Ok x) P h = tt
any_error (Err e) P h = h

-- what follows from what holds
pub on_ok : {T E : Type 0} (result : Result T E) (P Q : Type 0) → (P → Q) → OnOk result P → OnOk result Q
on_ok (Ok x) P Q to h = to h
on_ok (Err e) P Q to h = tt

pub on_error : {T E : Type 0} (result : Result T E) (P Q : Type 0) → (P → Q) → OnErr result P → OnErr result Q
on_error (Ok x) P Q to h = tt
on_error (Err e) P Q to h = to h
