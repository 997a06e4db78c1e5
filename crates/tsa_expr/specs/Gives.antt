-- What a reader returned, beside what reading by the rows gives.
use Rattle.std.specs.Prelude.{ℕ, ◌≡◌, Ok, Err}
use Rattle.std.specs.declared.result.Result.{Result}
use Rattle.tsa_expr.specs.declared.refusal.SyntaxRefusal.{SyntaxRefusal}
use Rattle.tsa_expr.specs.declared.refusal.SyntaxRefusal.TheVariants.{At, Function, NoMemory}
use Rattle.tsa_expr.specs.declared.refusal.SyntaxCode.TheVariants.{SY1, AT1, AT2, LM2}
use Rattle.tsa_grammar.specs.Reading.{Outcome, refuse, syntax, deep, barred}
use Rattle.tsa_tree.specs.attributes.Refusals.{left_out, lacking}

-- a refusal of a token is the reading's, but want of memory may always come; no function is refused
abbrev pub Fails : {Y : Type 0} → SyntaxRefusal → Outcome Y → Type 0
Fails (At SY1 token) read = read ≡ Err (refuse syntax token)
Fails (At LM2 token) read = read ≡ Err (refuse deep token)
Fails (At AT1 token) read = read ≡ Err (refuse (barred left_out) token)
Fails (At AT2 token) read = read ≡ Err (refuse (barred lacking) token)
Fails (At _ token) read = ⊥
Fails (Function code span) read = ⊥
Fails NoMemory read = Unit {0}

-- SY1, LM2 or want of memory
abbrev pub IsOfExpressions : SyntaxRefusal → Type 0
IsOfExpressions (At SY1 token) = Unit {0}
IsOfExpressions (At LM2 token) = Unit {0}
IsOfExpressions NoMemory = Unit {0}
IsOfExpressions _ = ⊥

-- the whole is what was read
abbrev pub Gives : {X Y : Type 0} → (X → Y × ℕ) → Result X SyntaxRefusal → Outcome Y → Type 0
Gives view (Ok x) read = read ≡ Ok (view x)
Gives view (Err e) read = Fails e read

-- the whole is what is still to be read, from after what was read on
abbrev pub Leads : {X Y Z : Type 0} → (X → Y × ℕ) → Result X SyntaxRefusal → (whole : Outcome Z) → (rest : Y → ℕ → Outcome Z) → Type 0
Leads view (Ok x) whole rest = whole ≡ rest (view x).0 (view x).1
Leads view (Err e) whole rest = Fails e whole
