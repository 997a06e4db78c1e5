-- Which guards an expression has doesn't depend on how many locals there are.
use Rattle.std.proofs.Common.{◌≡◌, ℕ, Bool, true, false, ◌++◌, option_and_then, option_map, refl, ap, ap₂}
use Rattle.tsa_tree.specs.declared.expr.UnaryOp.TheVariants as prefix
use Rattle.tsa_tree.specs.expressions.Syntax.{Expression, number, null, named, call, unary, binary, field, index}
use Rattle.tsa_tree.specs.types.Expressions.{owner}
use Rattle.tsa_tree.specs.types.Scopes.{Scope, with_locals}
use Rattle.tsa_place_model.specs.Arguments.{way_of}
use Rattle.tsa_place_model.specs.LockPaths.{meant, member_step, element_step, leads}
use Rattle.tsa_place_model.specs.Calls.{Layout}
use Rattle.tsa_core.specs.Uses.{field_guards, access_guards}
use Rattle.tsa_core_points.proofs.Meanings.{meaning_kept}

module _ (here : Scope) (n : ℕ) (stable : ℕ → Bool) where
  abbrev there : Scope
  there = with_locals n here

  leads_kept : (p : Bool) (e : Expression) → leads stable there p e ≡ leads stable here p e
  unfolding leads
  leads_kept p (named name span) = refl
  leads_kept p (field base name arrow span) = ap (λ o. meant p (option_and_then (member_step here name.text) o)) (leads_kept arrow base)
  leads_kept p (index base at span) = ap (λ o. meant p (option_and_then (element_step stable here at) o)) (leads_kept false base)
  leads_kept true (unary prefix.Address inner span) = leads_kept false inner
  leads_kept true (unary prefix.Follow inner span) = refl
  leads_kept true (unary prefix.Minus inner span) = refl
  leads_kept true (unary prefix.Not inner span) = refl
  leads_kept true (unary prefix.Flip inner span) = refl
  leads_kept false (unary prefix.Address inner span) = refl
  leads_kept false (unary prefix.Follow inner span) = leads_kept true inner
  leads_kept false (unary prefix.Minus inner span) = refl
  leads_kept false (unary prefix.Not inner span) = refl
  leads_kept false (unary prefix.Flip inner span) = refl
  leads_kept true (number v u span) = refl
  leads_kept true (null span) = refl
  leads_kept true (call callee args span) = refl
  leads_kept true (binary o left right span) = refl
  leads_kept false (number v u span) = refl
  leads_kept false (null span) = refl
  leads_kept false (call callee args span) = refl
  leads_kept false (binary o left right span) = refl

  way_kept : (p : Bool) (e : Expression) → way_of stable there p e ≡ way_of stable here p e
  way_kept p e = ap (option_map (λ l. l.way)) (leads_kept p e)

  pub guards_kept : (l : Layout) (e : Expression) → access_guards l stable there e ≡ access_guards l stable here e
  unfolding access_guards
  guards_kept l (named name span) = refl
  guards_kept l (field base name true span) =
      ap₂ (λ w s. field_guards l here w name.text (owner true s.type)) (way_kept true base) (meaning_kept here n base)
  guards_kept l (field base name false span) =
      ap₂ (λ gs hs. gs ++ hs) (guards_kept l base)
      (ap₂ (λ w s. field_guards l here w name.text (owner false s.type)) (way_kept false base) (meaning_kept here n base))
  guards_kept l (index base at span) = guards_kept l base
  guards_kept l (number v u span) = refl
  guards_kept l (null span) = refl
  guards_kept l (call callee args span) = refl
  guards_kept l (unary o inner span) = refl
  guards_kept l (binary o left right span) = refl
