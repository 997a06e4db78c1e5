-- Where calls stand (C11 6.5.2.2).
use Rattle.std.specs.Prelude.{Bool, true, false}
use Rattle.tsa_profile_accesses.specs.declared.standing.Standing.{Standing}
use Rattle.tsa_profile_accesses.specs.declared.standing.Standing.TheVariants.{Begins, Test, Operand, Inside}

abbrev pub may_call : Standing → Bool
may_call Inside = false
may_call _ = true

-- the result of a try decides a test, or is kept in a local
abbrev pub may_try : Standing → Bool
may_try Begins = true
may_try Test = true
may_try Operand = true
may_try _ = false

-- where the operand of `!` stands, and that of `==` or `!=` beside what is a constant or isn't
abbrev pub under_not : Standing → Standing
under_not Test = Operand
under_not _ = Inside

abbrev pub beside : Standing → (is_constant : Bool) → Standing
beside Test true = Operand
beside _ _ = Inside
