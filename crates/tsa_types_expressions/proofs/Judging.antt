-- A refusal by the first premise that fails.
use Rattle.std.proofs.Common.{◌≡◌, Option, Some, Err, sym, subst}
use Rattle.tsa_types_expressions.specs.declared.refusal.TypeRefusal.{TypeRefusal}
use Rattle.tsa_types_expressions.specs.declared.refusal.TypeRefusal.TheVariants.{At}
use Rattle.tsa_types_expressions.specs.Judgements.{Judges}
use Rattle.tsa_tree.specs.declared.premise.Failure.{Failure}

pub judges_at : (first : Option Failure) (f : Failure) (r : TypeRefusal) → r ≡ At f.code f.span → first ≡ Some f → Judges first (Err r)
judges_at first f r e h = subst (λ x. Judges first (Err x)) (sym e) h
