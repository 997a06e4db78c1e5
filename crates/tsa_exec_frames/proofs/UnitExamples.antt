-- Code of units that are written out stands for them.
use Rattle.std.proofs.Common.{◌≡◌, ◌∙◌, ℕ, zero, suc, ◌+◌, ℤ, None, map, take, slice_get, ◌<◌, ◌≤◌, Bool, true, false, List, [], ◌∷◌, ◌++◌, length, get_or, is_some, refl, ap, sym, subst, arith, codes}
use Rattle.std.specs.Prelude.{pos, int_le, ◌&&◌}
use Rattle.std.proofs.Math.Seq.{drop-append-add, take-append_seam}
use Rattle.std.proofs.lemmas.List.{take_all}
use Rattle.tsa_core.specs.Control.{Chosen, edge, Edge, Next, Yes, No, Rest, next_point, Outcome}
use Rattle.tsa_core.specs.Programs.{Function, Program}
use Rattle.tsa_rules.specs.Points.{edges_of, function_at, or_no_function}
use Rattle.tsa_mean.specs.Frames.{or_here}
use Rattle.tsa_mean.proofs.RunExamples.{turned}
use Rattle.tsa_lower_code.specs.PointCodes.{action_code, begin_code, point_height}
use Rattle.tsa_lower_code.specs.declared.instr.Instr.{Instr}
use Rattle.tsa_lower_pools.specs.Pools.{first_case, function_in, no_function, no_point, part_of, point_in}
use Rattle.tsa_lower_pools.specs.Units.{answer_use_of, CodeStands, FunctionStands, IsPoint, or_rest, point_after, point_chosen, point_for, PointStands, StandAt}
use Rattle.tsa_lower_pools.specs.declared.code.Case.{Case}
use Rattle.tsa_lower_pools.specs.declared.code.Code.{Code}
use Rattle.tsa_lower_pools.specs.declared.code.PointCode.{PointCode}
use Rattle.tsa_exec_frames.specs.Examples.{begin_of, point_of_w, rest_of, second_entry, third_entry, IsCodeOf, IsStatementCode, IsSwitchCode, one_case, statement_instrs, statement_points, switch_instrs, switch_points, unit_of, zeros_of}

-- the point of a number among some is that of a function
pub record IsIn (points : List PointCode) (n function point : ℕ) : Type 0 where
  pub function_is : (get_or points n no_point).function ≡ function
  pub point_is : (get_or points n no_point).point ≡ point

-- what a point stands for, in pools that are written out
pub record PointFacts (u : Program) (instrs : List Instr) (points : List PointCode) (cases : List Case) (c : PointCode) : Type 0 where
  pub begins : StandAt instrs c.entry (begin_code u (point_for u c) (point_for u c).call)
  pub goes_on : StandAt instrs c.behind_call (action_code u.layout true (point_for u c).action)
  pub slots : point_height (point_for u c) (point_for u c).call ≤ 4
  pub answer_use : c.answer_use ≡ answer_use_of (point_for u c).action
  pub next : IsIn points c.next c.function (point_after u c.function c.point Next)
  pub yes : IsIn points c.yes c.function (point_after u c.function c.point Yes)
  pub no : IsIn points c.no c.function (point_after u c.function c.point No)
  pub rest : IsIn points c.rest c.function (point_after u c.function c.point Rest)
  pub chosen : (z : ℤ) → IsIn points (first_case z (part_of cases c.cases) c.rest) c.function (point_chosen u c.function c.point z)

-- what the functions stand for: the second alone has a body
pub record FunctionFacts (u : Program) (points : List PointCode) : Type 0 where
  pub only : (f : ℕ) → is_some (function_at u f).body ≡ true → f ≡ 1
  pub first : IsIn points 0 1 0
  pub zeros : part_of (zeros_of u) (record { from = 0; end = length (zeros_of u) }) ≡ zeros_of u

-- code that stands for a unit, whose function 1 begins at the first point
pub record Ready (u : Program) (code : Code) : Type 0 where
  pub stands : CodeStands u code
  pub first : IsPoint code 0 1 0
  pub inside : 0 < length code.points.items
  pub four : code.slots ≡ 4

module _ (u : Program) (instrs : List Instr) (points : List PointCode) (cases : List Case) (code : Code) (is : IsCodeOf u instrs points cases code) where
  at_point : (n : ℕ) → point_in code n ≡ get_or points n no_point
  at_point n = ap (λ ps. get_or ps n no_point) is.points_are

  is_point : (n f p : ℕ) → IsIn points n f p → IsPoint code n f p
  is_point n f p h = record { function_is = ap (λ c. c.function) (at_point n) ∙ h.function_is; point_is = ap (λ c. c.point) (at_point n) ∙ h.point_is }

  point_stands : (c : PointCode) → PointFacts u instrs points cases c → PointStands u code c
  point_stands c h = record {
    begins = subst (λ xs. StandAt xs c.entry (begin_code u (point_for u c) (point_for u c).call)) (sym is.instrs_are) h.begins;
    goes_on = subst (λ xs. StandAt xs c.behind_call (action_code u.layout true (point_for u c).action)) (sym is.instrs_are) h.goes_on;
    slots = subst (λ n. point_height (point_for u c) (point_for u c).call ≤ n) (sym is.slots_are) h.slots;
    answer_use = h.answer_use;
    next = is_point c.next c.function (point_after u c.function c.point Next) h.next;
    yes = is_point c.yes c.function (point_after u c.function c.point Yes) h.yes;
    no = is_point c.no c.function (point_after u c.function c.point No) h.no;
    rest = is_point c.rest c.function (point_after u c.function c.point Rest) h.rest;
    chosen = λ z. subst (λ ks. IsPoint code (first_case z (part_of ks c.cases) c.rest) c.function (point_chosen u c.function c.point z)) (sym is.cases_are)
        (is_point (first_case z (part_of cases c.cases) c.rest) c.function (point_chosen u c.function c.point z) (h.chosen z));
  }

  function_is : function_in code 1 ≡ record { first = 0; zeros = record { from = 0; end = length (zeros_of u) } }
  function_is = ap (λ fs. get_or fs 1 no_function) is.functions_are

  second_stands : FunctionFacts u points → FunctionStands u code 1
  second_stands h = record {
    known = subst (λ fs. 1 < length fs) (sym is.functions_are) (omega arith);
    first = subst (λ f. IsPoint code f.first 1 0) (sym function_is) (is_point 0 1 0 h.first);
    zeros = ap (λ zs. part_of zs (function_in code 1).zeros) is.zeros_are ∙ (ap (λ f. part_of (zeros_of u) f.zeros) function_is ∙ h.zeros);
  }

  code_stands : ((n : ℕ) → n < length points → PointFacts u instrs points cases (get_or points n no_point)) → FunctionFacts u points → CodeStands u code
  code_stands each h = record {
    points = λ n inside. subst (λ c. PointStands u code c) (sym (at_point n)) (point_stands (get_or points n no_point) (each n (subst (λ ps. n < length ps) is.points_are inside)));
    functions = λ f has. subst (λ g. FunctionStands u code g) (sym (h.only f has)) (second_stands h);
  }

  pub ready : ((n : ℕ) → n < length points → PointFacts u instrs points cases (get_or points n no_point)) → FunctionFacts u points → 0 < length points → Ready u code
  ready each h some = record {
    stands = code_stands each h;
    first = is_point 0 1 0 h.first;
    inside = subst (λ ps. 0 < length ps) (sym is.points_are) some;
    four = is.slots_are;
  }

here : {points : List PointCode} {n f p : ℕ} → (get_or points n no_point).function ≡ f → (get_or points n no_point).point ≡ p → IsIn points n f p
here f p = record { function_is = f; point_is = p }

-- where instructions stand among others
top : (xs ys : List Instr) → StandAt (xs ++ ys) 0 xs
top xs ys = take-append_seam xs ys

last : (xs : List Instr) → StandAt xs 0 xs
last xs = take_all (length xs) xs (omega arith)

deep : (xs ys zs : List Instr) (at : ℕ) → StandAt ys at zs → StandAt (xs ++ ys) (length xs + at) zs
deep xs ys zs at h = ap (λ is. take (length zs) is) (drop-append-add xs ys at) ∙ h

place : (xs ys : List Instr) (n m : ℕ) → n ≡ m → StandAt xs m ys → StandAt xs n ys
place xs ys n m e h = subst (λ k. StandAt xs k ys) (sym e) h

-- the second of two functions alone has a body
only_second : (fs : List Function) → map (λ f. is_some f.body) fs ≡ false ∷ true ∷ [] → (f : ℕ) → is_some (or_no_function (slice_get fs f)).body ≡ true → f ≡ 1
only_second [] e f h = absurd cc
only_second (x ∷ []) e f h = absurd cc
only_second (x ∷ y ∷ []) e zero h = absurd cc
only_second (x ∷ y ∷ []) e (suc zero) h = refl
only_second (x ∷ y ∷ []) e (suc (suc f)) h = absurd cc
only_second (x ∷ y ∷ z ∷ fs) e f h = absurd cc

-- a unit whose function has one statement before its end
module _ (u : Program) (edges_are : edges_of (function_at u 1) ≡ edge 0 Next 1 ∷ []) where
  way : (p q : ℕ) (o : Outcome) → or_here p (next_point (edge 0 Next 1 ∷ []) p o) ≡ q → q ≡ point_after u 1 p o
  way p q o e = sym e ∙ sym (ap (λ es. or_here p (next_point es p o)) edges_are)

  no_case : (p : ℕ) (z : ℤ) → next_point (edge 0 Next 1 ∷ []) p (Chosen z) ≡ None → point_after u 1 p Rest ≡ point_chosen u 1 p z
  no_case p z e = sym (ap (or_rest u 1 p) (ap (λ es. next_point es p (Chosen z)) edges_are ∙ e))

  statement_facts : point_height (point_of_w u 0) (point_of_w u 0).call ≤ 4 → point_height (point_of_w u 1) (point_of_w u 1).call ≤ 4
      → (n : ℕ) → n < 2 → PointFacts u (statement_instrs u) (statement_points u) [] (get_or (statement_points u) n no_point)
  statement_facts low lower zero h = record {
    begins = top (begin_of u 0) (rest_of u 0 ++ (begin_of u 1 ++ rest_of u 1));
    goes_on = place (statement_instrs u) (rest_of u 0) (0 + length (begin_of u 0)) (length (begin_of u 0) + 0) (omega arith)
        (deep (begin_of u 0) (rest_of u 0 ++ (begin_of u 1 ++ rest_of u 1)) (rest_of u 0) 0 (top (rest_of u 0) (begin_of u 1 ++ rest_of u 1)));
    slots = low;
    answer_use = refl;
    next = here refl (way 0 1 Next refl);
    yes = here refl (way 0 0 Yes refl);
    no = here refl (way 0 0 No refl);
    rest = here refl (way 0 0 Rest refl);
    chosen = λ z. here refl (way 0 0 Rest refl ∙ no_case 0 z refl);
  }
  statement_facts low lower (suc zero) h = record {
    begins = place (statement_instrs u) (begin_of u 1) (length (begin_of u 0) + length (rest_of u 0)) (length (begin_of u 0) + (length (rest_of u 0) + 0)) (omega arith)
        (deep (begin_of u 0) (rest_of u 0 ++ (begin_of u 1 ++ rest_of u 1)) (begin_of u 1) (length (rest_of u 0) + 0)
        (deep (rest_of u 0) (begin_of u 1 ++ rest_of u 1) (begin_of u 1) 0 (top (begin_of u 1) (rest_of u 1))));
    goes_on = place (statement_instrs u) (rest_of u 1) (length (begin_of u 0) + length (rest_of u 0) + length (begin_of u 1)) (length (begin_of u 0) + (length (rest_of u 0) + (length (begin_of u 1) + 0))) (omega arith)
        (deep (begin_of u 0) (rest_of u 0 ++ (begin_of u 1 ++ rest_of u 1)) (rest_of u 1) (length (rest_of u 0) + (length (begin_of u 1) + 0))
        (deep (rest_of u 0) (begin_of u 1 ++ rest_of u 1) (rest_of u 1) (length (begin_of u 1) + 0)
        (deep (begin_of u 1) (rest_of u 1) (rest_of u 1) 0 (last (rest_of u 1)))));
    slots = lower;
    answer_use = refl;
    next = here refl (way 1 1 Next refl);
    yes = here refl (way 1 1 Yes refl);
    no = here refl (way 1 1 No refl);
    rest = here refl (way 1 1 Rest refl);
    chosen = λ z. here refl (way 1 1 Rest refl ∙ no_case 1 z refl);
  }
  statement_facts low lower (suc (suc n)) h = absurd (omega (arith, h))

  statement_ready : (code : Code) → IsStatementCode u code → point_height (point_of_w u 0) (point_of_w u 0).call ≤ 4 → point_height (point_of_w u 1) (point_of_w u 1).call ≤ 4
      → map (λ f. is_some f.body) u.functions ≡ false ∷ true ∷ [] → part_of (zeros_of u) (record { from = 0; end = length (zeros_of u) }) ≡ zeros_of u → Ready u code
  statement_ready code is low lower bodies zeros = ready u (statement_instrs u) (statement_points u) [] code is (statement_facts low lower)
      (record { only = only_second u.functions bodies; first = here refl refl; zeros = zeros }) (omega arith)

pub read_ready : (code : Code) → IsStatementCode (unit_of (codes "g = a[i];")) code → Ready (unit_of (codes "g = a[i];")) code
unfolding turned
read_ready code is = statement_ready (unit_of (codes "g = a[i];")) refl code is (omega arith) (omega arith) refl refl

pub store_ready : (code : Code) → IsStatementCode (unit_of (codes "a[i] = 1;")) code → Ready (unit_of (codes "a[i] = 1;")) code
unfolding turned
store_ready code is = statement_ready (unit_of (codes "a[i] = 1;")) refl code is (omega arith) (omega arith) refl refl

pub both_ready : (code : Code) → IsStatementCode (unit_of (codes "i = g && 10 / j;")) code → Ready (unit_of (codes "i = g && 10 / j;")) code
unfolding turned
both_ready code is = statement_ready (unit_of (codes "i = g && 10 / j;")) refl code is (omega arith) (omega arith) refl refl

pub answer_ready : (code : Code) → IsStatementCode (unit_of (codes "int x = h(i) + 1;")) code → Ready (unit_of (codes "int x = h(i) + 1;")) code
unfolding turned
answer_ready code is = statement_ready (unit_of (codes "int x = h(i) + 1;")) refl code is (omega arith) (omega arith) refl refl

-- a unit whose function has a switch with one case before its end
abbrev switch_edges : List Edge
switch_edges = edge 0 (Chosen (pos 3)) 1 ∷ (edge 0 Rest 2 ∷ (edge 1 Next 2 ∷ []))

module _ (u : Program) (edges_are : edges_of (function_at u 1) ≡ switch_edges) where
  turn_to : (p q : ℕ) (o : Outcome) → or_here p (next_point switch_edges p o) ≡ q → q ≡ point_after u 1 p o
  turn_to p q o e = sym e ∙ sym (ap (λ es. or_here p (next_point es p o)) edges_are)

  other_case : (p : ℕ) (z : ℤ) → next_point switch_edges p (Chosen z) ≡ None → point_after u 1 p Rest ≡ point_chosen u 1 p z
  other_case p z e = sym (ap (or_rest u 1 p) (ap (λ es. next_point es p (Chosen z)) edges_are ∙ e))

  -- a case is found by the same test as its edge
  chosen_by : (z : ℤ) (b : Bool) → (int_le (pos 3) z && int_le z (pos 3)) ≡ b → IsIn (switch_points u (pos 3)) (first_case z (one_case (pos 3)) 2) 1 (or_rest u 1 0 (next_point switch_edges 0 (Chosen z)))
  chosen_by z true e = rw e (here refl refl)
  chosen_by z false e = rw e (here refl (turn_to 0 2 Rest refl))

  chosen_in : (z : ℤ) → IsIn (switch_points u (pos 3)) (first_case z (one_case (pos 3)) 2) 1 (point_chosen u 1 0 z)
  chosen_in z = subst (λ es. IsIn (switch_points u (pos 3)) (first_case z (one_case (pos 3)) 2) 1 (or_rest u 1 0 (next_point es 0 (Chosen z)))) (sym edges_are)
      (chosen_by z (int_le (pos 3) z && int_le z (pos 3)) refl)

  switch_facts : point_height (point_of_w u 0) (point_of_w u 0).call ≤ 4 → point_height (point_of_w u 1) (point_of_w u 1).call ≤ 4 → point_height (point_of_w u 2) (point_of_w u 2).call ≤ 4
      → (n : ℕ) → n < 3 → PointFacts u (switch_instrs u) (switch_points u (pos 3)) (one_case (pos 3)) (get_or (switch_points u (pos 3)) n no_point)
  switch_facts first second third zero h = record {
    begins = place (switch_instrs u) (begin_of u 0) (0) (0) (omega arith) (top (begin_of u 0) (rest_of u 0 ++ (begin_of u 1 ++ (rest_of u 1 ++ (begin_of u 2 ++ (rest_of u 2))))));
    goes_on = place (switch_instrs u) (rest_of u 0) (0 + length (begin_of u 0)) (length (begin_of u 0) + (0)) (omega arith) (deep (begin_of u 0) (rest_of u 0 ++ (begin_of u 1 ++ (rest_of u 1 ++ (begin_of u 2 ++ (rest_of u 2))))) (rest_of u 0) (0) (top (rest_of u 0) (begin_of u 1 ++ (rest_of u 1 ++ (begin_of u 2 ++ (rest_of u 2))))));
    slots = first;
    answer_use = refl;
    next = here refl (turn_to 0 0 Next refl);
    yes = here refl (turn_to 0 0 Yes refl);
    no = here refl (turn_to 0 0 No refl);
    rest = here refl (turn_to 0 2 Rest refl);
    chosen = chosen_in;
  }
  switch_facts first second third (suc zero) h = record {
    begins = place (switch_instrs u) (begin_of u 1) (second_entry u) (length (begin_of u 0) + (length (rest_of u 0) + (0))) (omega arith) (deep (begin_of u 0) (rest_of u 0 ++ (begin_of u 1 ++ (rest_of u 1 ++ (begin_of u 2 ++ (rest_of u 2))))) (begin_of u 1) (length (rest_of u 0) + (0)) (deep (rest_of u 0) (begin_of u 1 ++ (rest_of u 1 ++ (begin_of u 2 ++ (rest_of u 2)))) (begin_of u 1) (0) (top (begin_of u 1) (rest_of u 1 ++ (begin_of u 2 ++ (rest_of u 2))))));
    goes_on = place (switch_instrs u) (rest_of u 1) (second_entry u + length (begin_of u 1)) (length (begin_of u 0) + (length (rest_of u 0) + (length (begin_of u 1) + (0)))) (omega arith) (deep (begin_of u 0) (rest_of u 0 ++ (begin_of u 1 ++ (rest_of u 1 ++ (begin_of u 2 ++ (rest_of u 2))))) (rest_of u 1) (length (rest_of u 0) + (length (begin_of u 1) + (0))) (deep (rest_of u 0) (begin_of u 1 ++ (rest_of u 1 ++ (begin_of u 2 ++ (rest_of u 2)))) (rest_of u 1) (length (begin_of u 1) + (0)) (deep (begin_of u 1) (rest_of u 1 ++ (begin_of u 2 ++ (rest_of u 2))) (rest_of u 1) (0) (top (rest_of u 1) (begin_of u 2 ++ (rest_of u 2))))));
    slots = second;
    answer_use = refl;
    next = here refl (turn_to 1 2 Next refl);
    yes = here refl (turn_to 1 1 Yes refl);
    no = here refl (turn_to 1 1 No refl);
    rest = here refl (turn_to 1 1 Rest refl);
    chosen = λ z. here refl (turn_to 1 1 Rest refl ∙ other_case 1 z refl);
  }
  switch_facts first second third (suc (suc zero)) h = record {
    begins = place (switch_instrs u) (begin_of u 2) (third_entry u) (length (begin_of u 0) + (length (rest_of u 0) + (length (begin_of u 1) + (length (rest_of u 1) + (0))))) (omega arith) (deep (begin_of u 0) (rest_of u 0 ++ (begin_of u 1 ++ (rest_of u 1 ++ (begin_of u 2 ++ (rest_of u 2))))) (begin_of u 2) (length (rest_of u 0) + (length (begin_of u 1) + (length (rest_of u 1) + (0)))) (deep (rest_of u 0) (begin_of u 1 ++ (rest_of u 1 ++ (begin_of u 2 ++ (rest_of u 2)))) (begin_of u 2) (length (begin_of u 1) + (length (rest_of u 1) + (0))) (deep (begin_of u 1) (rest_of u 1 ++ (begin_of u 2 ++ (rest_of u 2))) (begin_of u 2) (length (rest_of u 1) + (0)) (deep (rest_of u 1) (begin_of u 2 ++ (rest_of u 2)) (begin_of u 2) (0) (top (begin_of u 2) (rest_of u 2))))));
    goes_on = place (switch_instrs u) (rest_of u 2) (third_entry u + length (begin_of u 2)) (length (begin_of u 0) + (length (rest_of u 0) + (length (begin_of u 1) + (length (rest_of u 1) + (length (begin_of u 2) + (0)))))) (omega arith) (deep (begin_of u 0) (rest_of u 0 ++ (begin_of u 1 ++ (rest_of u 1 ++ (begin_of u 2 ++ (rest_of u 2))))) (rest_of u 2) (length (rest_of u 0) + (length (begin_of u 1) + (length (rest_of u 1) + (length (begin_of u 2) + (0))))) (deep (rest_of u 0) (begin_of u 1 ++ (rest_of u 1 ++ (begin_of u 2 ++ (rest_of u 2)))) (rest_of u 2) (length (begin_of u 1) + (length (rest_of u 1) + (length (begin_of u 2) + (0)))) (deep (begin_of u 1) (rest_of u 1 ++ (begin_of u 2 ++ (rest_of u 2))) (rest_of u 2) (length (rest_of u 1) + (length (begin_of u 2) + (0))) (deep (rest_of u 1) (begin_of u 2 ++ (rest_of u 2)) (rest_of u 2) (length (begin_of u 2) + (0)) (deep (begin_of u 2) (rest_of u 2) (rest_of u 2) (0) (last (rest_of u 2)))))));
    slots = third;
    answer_use = refl;
    next = here refl (turn_to 2 2 Next refl);
    yes = here refl (turn_to 2 2 Yes refl);
    no = here refl (turn_to 2 2 No refl);
    rest = here refl (turn_to 2 2 Rest refl);
    chosen = λ z. here refl (turn_to 2 2 Rest refl ∙ other_case 2 z refl);
  }
  switch_facts first second third (suc (suc (suc n))) h = absurd (omega (arith, h))

pub switch_ready : (code : Code) → IsSwitchCode (unit_of (codes "switch (i) { case 3: g = 1; }")) (pos 3) code → Ready (unit_of (codes "switch (i) { case 3: g = 1; }")) code
unfolding turned
switch_ready code is = ready (unit_of (codes "switch (i) { case 3: g = 1; }")) (switch_instrs (unit_of (codes "switch (i) { case 3: g = 1; }"))) (switch_points (unit_of (codes "switch (i) { case 3: g = 1; }")) (pos 3)) (one_case (pos 3)) code is
    (switch_facts (unit_of (codes "switch (i) { case 3: g = 1; }")) refl (omega arith) (omega arith) (omega arith))
    (record { only = only_second (unit_of (codes "switch (i) { case 3: g = 1; }")).functions refl; first = here refl refl; zeros = refl }) (omega arith)
