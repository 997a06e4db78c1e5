-- What an answer says of the first premise that fails.
use Rattle.std.specs.Prelude.{◌≡◌, Bool, true, false, Option, Some, None, Result, Ok, Err, ⊤, if◌then◌else◌}
use Rattle.tsa_profile_accesses.specs.declared.premise.Failure.{Failure}
use Rattle.tsa_profile_accesses.specs.declared.premise.ProfileCode.{ProfileCode}
use Rattle.tsa_profile_accesses.specs.declared.premise.ProfileCode.TheVariants.{LM4, LM7}
use Rattle.tsa_profile_context.specs.declared.refusal.ProfileRefusal.{ProfileRefusal}
use Rattle.tsa_profile_context.specs.declared.refusal.ProfileRefusal.TheVariants.{At, Function, NoMemory}

-- the codes of the limits of a function
abbrev pub is_limit : ProfileCode → Bool
is_limit LM4 = true
is_limit LM7 = true
is_limit _ = false

-- a premise is told at its node, and a limit at the name of its function
abbrev pub refusal : Failure → ProfileRefusal
refusal f = if is_limit f.code then Function f.code f.span else At f.code f.span

-- no premise fails, or this one is the first; nothing is said where memory is wanted
abbrev pub Judges : Option Failure → Result ⊤ ProfileRefusal → Type 0
Judges first (Ok u) = first ≡ None
Judges first (Err (At code span)) = (first ≡ Some (record { code = code; span = span })) × (is_limit code ≡ false)
Judges first (Err (Function code span)) = (first ≡ Some (record { code = code; span = span })) × (is_limit code ≡ true)
Judges first (Err NoMemory) = Unit {0}

-- the answer where this fails, or nothing does
abbrev pub judgement : Option Failure → Result ⊤ ProfileRefusal
judgement None = Ok tt
judgement (Some f) = Err (refusal f)

-- an answer without what it gives
abbrev pub forget : {A : Type 0} → Result A ProfileRefusal → Result ⊤ ProfileRefusal
forget (Ok a) = Ok tt
forget (Err e) = Err e
