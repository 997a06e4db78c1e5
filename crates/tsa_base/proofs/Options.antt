-- What an option that is equal to another holds.
use Rattle.std.proofs.Common.{◌≡◌, Some, None}

pub some_same : {A : Type 0} {x y : A} → Some x ≡ Some y → x ≡ y
some_same e = cc

pub none_some : {A B : Type 0} (x : A) → None ≡ Some x → B
none_some x e = cc

pub some_none : {A B : Type 0} (x : A) → Some x ≡ None → B
some_none x e = cc
