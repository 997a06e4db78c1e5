-- What the terms of accepted units have.
use Rattle.std.specs.Prelude.{◌≡◌, ℕ, Bool, false, Some, is_none}
use Rattle.std.specs.List.{list_any}
use Rattle.tsa_tree.specs.declared.kind.ExpressionType.{ExpressionType}
use Rattle.tsa_tree.specs.expressions.Sound.{Words, SoundExpression}
use Rattle.tsa_tree.specs.expressions.Syntax.{Expression}
use Rattle.tsa_tree.specs.types.Expressions.{type_of}
use Rattle.tsa_tree.specs.types.Scopes.{Scope, context_of}
use Rattle.tsa_core.specs.Kinds.{Setting, Belongs, GiveAnswer}
use Rattle.tsa_core.specs.Meanings.{meaning}
use Rattle.tsa_core.specs.Uses.{access_guards}
use Rattle.tsa_sound.specs.PartlyWorked.{guard_ways}

-- of a typed expression of whose guards each has a path, the guards of its term are these
abbrev pub GuardsAgree : Type 0
GuardsAgree = (here : Scope) (k : Setting) (stable : ℕ → Bool) (words : Words) (e : Expression) (t : ExpressionType) → Belongs here k → SoundExpression words e
    → GiveAnswer here k e → type_of (context_of here) e ≡ Some t → list_any is_none (access_guards k.layout stable here e) ≡ false
    → guard_ways k stable (meaning here e).term ≡ access_guards k.layout stable here e
