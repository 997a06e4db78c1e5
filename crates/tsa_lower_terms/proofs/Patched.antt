-- An instruction that tells how many others are behind it is put right when they are there.
use Rattle.std.proofs.Common.{◌≡◌, ◌∙◌, ℕ, ◌+◌, ◌-◌, ◌<◌, Bool, List, ◌∷◌, ◌++◌, length, take, drop, set, sym, ap, arith, append_assoc}
use Rattle.std.proofs.lemmas.List.{drop-set, length-drop, take-append-drop, take-set}
use Rattle.tsa_lower_code.specs.declared.instr.Instr.{Instr}
use Rattle.tsa_lower_code.specs.declared.instr.Instr.TheVariants.{Skip}

set_split : (xs : List Instr) (k : ℕ) (v : Instr) → k < length xs → set xs k v ≡ take k xs ++ v ∷ drop (k + 1) xs
set_split xs k v h = sym (take-append-drop k (set xs k v)) ∙ (ap (λ ys. ys ++ drop k (set xs k v)) (take-set xs k v) ∙ ap (λ ys. take k xs ++ ys) (drop-set xs k v h))

pub closed : (xs ys : List Instr) (k n at : ℕ) (on : Bool) → k < length xs → n ≡ length xs - k
    → set xs k (Skip at on n) ++ ys ≡ take k xs ++ Skip at on (length (drop (k + 1) xs) + 1) ∷ (drop (k + 1) xs ++ ys)
closed xs ys k n at on h e =
    let long : n ≡ length (drop (k + 1) xs) + 1 = omega (arith, h, e, length-drop (k + 1) xs) in
    ap (λ zs. zs ++ ys) (set_split xs k (Skip at on n) h) ∙ (append_assoc (take k xs) (Skip at on n ∷ drop (k + 1) xs) ys ∙ ap (λ m. take k xs ++ Skip at on m ∷ (drop (k + 1) xs ++ ys)) long)
