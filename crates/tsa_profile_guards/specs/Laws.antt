-- Without where they stand the accesses are those of the core program.
use Rattle.std.specs.Prelude.{◌≡◌, ℕ, Bool, Option, map}
use Rattle.tsa_tree.specs.declared.expr.BinaryOp.{BinaryOp}
use Rattle.tsa_tree.specs.expressions.Syntax.{Expression}
use Rattle.tsa_tree.specs.types.Scopes.{Scope}
use Rattle.tsa_place_model.specs.Calls.{Layout}
use Rattle.tsa_core.specs.Uses as core
use Rattle.tsa_profile_accesses.specs.Arguments.{arguments_of}
use Rattle.tsa_profile_guards.specs.Accesses.{reads, without_span, written}

abbrev pub ReadsAreThoseOfTheCore : Type 0
ReadsAreThoseOfTheCore = (l : Layout) (stable : ℕ → Bool) (here : Scope) (e : Expression) → map without_span (reads l stable here e) ≡ core.reads l stable here e

abbrev pub WritesAreThoseOfTheCore : Type 0
WritesAreThoseOfTheCore = (l : Layout) (stable : ℕ → Bool) (here : Scope) (o : Option BinaryOp) (e : Expression)
    → map without_span (written l stable here o e) ≡ core.written l stable here o e

abbrev pub ArgumentsAreThoseOfTheCore : Type 0
ArgumentsAreThoseOfTheCore = (l : Layout) (stable : ℕ → Bool) (here : Scope) (e : Expression) → arguments_of stable here e ≡ (core.value_uses l stable here e).arguments
