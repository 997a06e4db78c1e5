-- Code that stands for a program goes as its points.
use Rattle.std.proofs.Common.{◌≡◌, ◌∙◌, true, ℕ, List, ◌++◌, drop, length, ap, sym, arith}
use Rattle.std.proofs.lemmas.List.{take-append-drop}
use Rattle.tsa_core.specs.Programs.{Program}
use Rattle.tsa_lower_code.specs.Codes.{going}
use Rattle.tsa_lower_code.specs.PointCodes.{action_code, begin_code}
use Rattle.tsa_lower_code.specs.declared.instr.Instr.{Instr}
use Rattle.tsa_lower_code.proofs.PointsOfCode.{points_go}
use Rattle.tsa_lower_pools.specs.Laws.{CodeGoesAsTheProgram, PointGoes}
use Rattle.tsa_lower_pools.specs.Pools.{point_in}
use Rattle.tsa_lower_pools.specs.Units.{PointStands, point_for, StandAt}
use Rattle.tsa_lower_pools.specs.declared.code.Code.{Code}
use Rattle.tsa_lower_pools.specs.declared.code.PointCode.{PointCode}

-- instructions that stand at a number begin what follows it
behind : (instrs : List Instr) (at : ℕ) (these : List Instr) → StandAt instrs at these → drop at instrs ≡ these ++ drop (length these) (drop at instrs)
behind instrs at these stand = sym (take-append-drop (length these) (drop at instrs)) ∙ ap (λ xs. xs ++ drop (length these) (drop at instrs)) stand

point_goes : (u : Program) (code : Code) (c : PointCode) → PointStands u code c → PointGoes u code c
point_goes u code c stands = record {
  begins = λ locals s long. ap (λ is. going u.layout locals 0 is s) (behind code.instrs.items c.entry (begin_code u (point_for u c) (point_for u c).call) stands.begins)
      ∙ points_go.begins u locals (point_for u c) (drop (length (begin_code u (point_for u c) (point_for u c).call)) (drop c.entry code.instrs.items)) s (omega (arith, stands.slots, long));
  goes_on = λ locals s v long has. ap (λ is. going u.layout locals 0 is s) (behind code.instrs.items c.behind_call (action_code u.layout true (point_for u c).action) stands.goes_on)
      ∙ points_go.goes_on u locals (point_for u c) (drop (length (action_code u.layout true (point_for u c).action)) (drop c.behind_call code.instrs.items)) s v (omega (arith, stands.slots, long)) has;
}

pub code_goes : CodeGoesAsTheProgram
code_goes u code stands = λ at inside. point_goes u code (point_in code at) (stands.points at inside)
