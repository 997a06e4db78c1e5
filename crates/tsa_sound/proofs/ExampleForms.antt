-- What holds of the actions and calls of examples.
use Rattle.std.proofs.Common.{◌≡◌, ◌∙◌, ℕ, Bool, true, false, List, Option, Some, None, ◌⊎◌, inl, inr, ap, sym, subst}
use Rattle.std.specs.Prelude.{IsSome}
use Rattle.tsa_tree.specs.declared.expr.BinaryOp.{BinaryOp}
use Rattle.tsa_tree.specs.declared.kind.Kind.{Kind}
use Rattle.tsa_core.specs.Bodies.{Action, declare, set_local, evaluate, set_cell, can_have}
use Rattle.tsa_core.specs.Control.{Edge, Outcome, Next, Yes, No, Rest, Chosen, next_point}
use Rattle.tsa_core.specs.Meanings.{Call}
use Rattle.tsa_core.specs.Terms.{Term}
use Rattle.tsa_rules.specs.Points.{local_begun}
use Rattle.tsa_sound.proofs.Constants.{differ}
use Rattle.tsa_sound.proofs.Tests.{none_is_some, same_some}

-- the call of a point, where it has one
unfoldable pub OfCall : (Call → Type 0) → Option Call → Type 0
OfCall P None = Unit {0}
OfCall P (Some c) = P c

pub for_call : (P : Call → Type 0) (o : Option Call) → OfCall P o → (c : Call) → o ≡ Some c → P c
unfolding OfCall
for_call P None h c e = none_is_some e
for_call P (Some d) h c e = subst P (same_some e) h

pub no_call : {A : Type 0} → IsSome {T = Call} None → A
no_call h = absurd cc

-- the place that an action sets, where it sets a cell
unfoldable pub OfSet : (Term → Type 0) → Action → Type 0
OfSet P (set_cell place o kind x) = P place
OfSet P action = Unit {0}

pub for_set : (P : Term → Type 0) (action : Action) → OfSet P action → (place : Term) (o : Option BinaryOp) (kind : Kind) (x : Term) → action ≡ set_cell place o kind x → P place
unfolding OfSet
for_set P action h place o kind x e = subst (OfSet P) e h

-- the local that an action assigns, with an operator or without
unfoldable pub assigns : Action → Option ℕ
assigns (set_local n o kind x) = Some n
assigns action = None

pub no_assign : {A : Type 0} (action : Action) → assigns action ≡ None → (n : ℕ) (o : Option BinaryOp) (kind : Kind) (x : Term) → action ≡ set_local n o kind x → A
unfolding assigns
no_assign action is n o kind x e = none_is_some (sym is ∙ ap assigns e)

-- whether an action sets a cell with an operator
unfoldable pub joins : Action → Bool
joins (set_cell place (Some o) kind x) = true
joins action = false

pub no_join : {A : Type 0} (action : Action) → joins action ≡ false → (place : Term) (o : BinaryOp) (kind : Kind) (x : Term) → action ≡ set_cell place (Some o) kind x → A
unfolding joins
no_join action is place o kind x e = differ (sym is ∙ ap joins e)

-- an action that only goes on
pub goes_next : (es : List Edge) (p : ℕ) (x : Term) → IsSome (next_point es p Next) → (o : Outcome) → can_have (evaluate x) o ≡ true → IsSome (next_point es p o)
goes_next es p x h Next e = h
goes_next es p x h Yes e = differ e
goes_next es p x h No e = differ e
goes_next es p x h Rest e = differ e
goes_next es p x h (Chosen z) e = differ e

pub nothing_loaded : {A : Type 0} → ⊥ ⊎ ⊥ → A
nothing_loaded (inl a) = absurd a
nothing_loaded (inr a) = absurd a

pub no_declaration : {A : Type 0} (action : Action) → local_begun action ≡ None → (n : ℕ) (kind : Kind) (x : Term) → action ≡ declare n kind x → A
no_declaration action is n kind x e = none_is_some (sym is ∙ ap local_begun e)
