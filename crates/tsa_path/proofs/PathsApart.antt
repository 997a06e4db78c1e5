-- Paths that are told apart are different, and the others are equal.
use Rattle.std.proofs.Common.{◌≡◌, ◌∙◌, true, ◌&&◌, List, [], ◌∷◌, refl, sym, ap, eqb-true, eq-eqb}
use Rattle.std.specs.Cmp.Lexicographic.{pointwise}
use Rattle.tsa_place_model.specs.Ways.{Way}
use Rattle.tsa_place_model.specs.declared.path.Root.{Root}
use Rattle.tsa_place_model.specs.declared.path.Root.TheVariants.{Global, Local, Owner}
use Rattle.tsa_place_model.specs.declared.path.PathStep.{PathStep}
use Rattle.tsa_place_model.specs.declared.path.PathStep.TheVariants.{Field, Constant, Variable, Follow}
use Rattle.tsa_place_model.specs.contracts.path.RootPartialEq.TheImpl as root_test
use Rattle.tsa_place_model.specs.contracts.path.PathStepPartialEq.TheImpl as step_test
use Rattle.tsa_path.specs.Sameness.{same_root, same_step, same_steps, same_way, SameWaysAreEqual}
use Rattle.tsa_base.proofs.Truths.{left_part, never_true as never, right_part}

root_equal : (a b : Root) → same_root a b ≡ true → a ≡ b
root_equal (Global m) (Global n) e = ap Global (eqb-true m n e)
root_equal (Local m) (Local n) e = ap Local (eqb-true m n e)
root_equal Owner Owner e = refl
root_equal (Global m) (Local n) e = never e
root_equal (Global m) Owner e = never e
root_equal (Local m) (Global n) e = never e
root_equal (Local m) Owner e = never e
root_equal Owner (Global n) e = never e
root_equal Owner (Local n) e = never e

root_itself : (a : Root) → same_root a a ≡ true
root_itself (Global n) = eq-eqb n n refl
root_itself (Local n) = eq-eqb n n refl
root_itself Owner = refl

step_equal : (a b : PathStep) → same_step a b ≡ true → a ≡ b
step_equal (Field m) (Field n) e = ap Field (eqb-true m n e)
step_equal (Constant m) (Constant n) e = ap Constant (eqb-true m n e)
step_equal (Variable m) (Variable n) e = ap Variable (eqb-true m n e)
step_equal Follow Follow e = refl
step_equal (Field m) (Constant n) e = never e
step_equal (Field m) (Variable n) e = never e
step_equal (Field m) Follow e = never e
step_equal (Constant m) (Field n) e = never e
step_equal (Constant m) (Variable n) e = never e
step_equal (Constant m) Follow e = never e
step_equal (Variable m) (Field n) e = never e
step_equal (Variable m) (Constant n) e = never e
step_equal (Variable m) Follow e = never e
step_equal Follow (Field n) e = never e
step_equal Follow (Constant n) e = never e
step_equal Follow (Variable n) e = never e

step_itself : (a : PathStep) → same_step a a ≡ true
step_itself (Field n) = eq-eqb n n refl
step_itself (Constant n) = eq-eqb n n refl
step_itself (Variable n) = eq-eqb n n refl
step_itself Follow = refl

steps_equal : (a b : List PathStep) → same_steps a b ≡ true → a ≡ b
steps_equal [] [] e = refl
steps_equal [] (y ∷ b) e = never e
steps_equal (x ∷ a) [] e = never e
steps_equal (x ∷ a) (y ∷ b) e =
    ap (λ z. z ∷ a) (step_equal x y (left_part (same_step x y) (same_steps a b) e)) ∙ ap (λ c. y ∷ c) (steps_equal a b (right_part (same_step x y) (same_steps a b) e))

steps_itself : (a : List PathStep) → same_steps a a ≡ true
steps_itself [] = refl
steps_itself (x ∷ a) = ap (λ b. b && same_steps a a) (step_itself x) ∙ steps_itself a

pub way_equal : (v w : Way) → same_way v w ≡ true → v ≡ w
way_equal v w e =
    ap (λ root. record { root = root; steps = v.steps }) (root_equal v.root w.root (left_part (same_root v.root w.root) (same_steps v.steps w.steps) e))
    ∙ ap (λ steps. record { root = w.root; steps = steps }) (steps_equal v.steps w.steps (right_part (same_root v.root w.root) (same_steps v.steps w.steps) e))

pub way_itself : (v : Way) → same_way v v ≡ true
way_itself v = ap (λ b. b && same_steps v.steps v.steps) (root_itself v.root) ∙ steps_itself v.steps

pub same_ways_are_equal : SameWaysAreEqual
same_ways_are_equal v w = (way_equal v w, λ e. ap (same_way v) (sym e) ∙ way_itself v)

-- what `==` tells of a root and of steps
pub root_test_is : (a b : Root) → root_test.ghosts.eq a b ≡ same_root a b
root_test_is (Global m) (Global n) = refl
root_test_is (Local m) (Local n) = refl
root_test_is Owner Owner = refl
root_test_is (Global m) (Local n) = refl
root_test_is (Global m) Owner = refl
root_test_is (Local m) (Global n) = refl
root_test_is (Local m) Owner = refl
root_test_is Owner (Global n) = refl
root_test_is Owner (Local n) = refl

step_test_is : (a b : PathStep) → step_test.ghosts.eq a b ≡ same_step a b
step_test_is (Field m) (Field n) = refl
step_test_is (Constant m) (Constant n) = refl
step_test_is (Variable m) (Variable n) = refl
step_test_is Follow Follow = refl
step_test_is (Field m) (Constant n) = refl
step_test_is (Field m) (Variable n) = refl
step_test_is (Field m) Follow = refl
step_test_is (Constant m) (Field n) = refl
step_test_is (Constant m) (Variable n) = refl
step_test_is (Constant m) Follow = refl
step_test_is (Variable m) (Field n) = refl
step_test_is (Variable m) (Constant n) = refl
step_test_is (Variable m) Follow = refl
step_test_is Follow (Field n) = refl
step_test_is Follow (Constant n) = refl
step_test_is Follow (Variable n) = refl

pub steps_test_are : (a b : List PathStep) → pointwise step_test.ghosts.eq a b ≡ same_steps a b
steps_test_are [] [] = refl
steps_test_are [] (y ∷ b) = refl
steps_test_are (x ∷ a) [] = refl
steps_test_are (x ∷ a) (y ∷ b) = ap (λ c. c && pointwise step_test.ghosts.eq a b) (step_test_is x y) ∙ ap (λ c. same_step x y && c) (steps_test_are a b)
