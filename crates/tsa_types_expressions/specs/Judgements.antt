-- What an answer says of the first premise that fails.
use Rattle.std.specs.Prelude.{◌≡◌, Option, Some, None, Result, Ok, Err, ⊤}
use Rattle.tsa_types_expressions.specs.declared.refusal.TypeRefusal.{TypeRefusal}
use Rattle.tsa_types_expressions.specs.declared.refusal.TypeRefusal.TheVariants.{At, NoMemory}
use Rattle.tsa_tree.specs.declared.premise.Failure.{Failure}

-- no premise fails, or this one is the first; nothing is said where memory is wanted
abbrev pub Judges : Option Failure → Result ⊤ TypeRefusal → Type 0
Judges first (Ok u) = first ≡ None
Judges first (Err (At code span)) = first ≡ Some (record { code = code; span = span })
Judges first (Err NoMemory) = Unit {0}

-- the answer where this fails, or nothing does
abbrev pub judgement : Option Failure → Result ⊤ TypeRefusal
judgement None = Ok tt
judgement (Some f) = Err (At f.code f.span)

-- an answer without what it gives
abbrev pub forget : {A : Type 0} → Result A TypeRefusal → Result ⊤ TypeRefusal
forget (Ok a) = Ok tt
forget (Err e) = Err e
