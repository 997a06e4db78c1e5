-- At each point that calls, the arguments are what their paths say.
use Rattle.std.proofs.Common.{◌≡◌, ℕ, Bool, List, [], Option, Some, None, refl, sym, subst}
use Rattle.tsa_tree.specs.declarations.Syntax.{Initialiser, value, list}
use Rattle.tsa_tree.specs.declared.expr.BinaryOp.TheVariants as op
use Rattle.tsa_tree.specs.declared.expr.UnaryOp.TheVariants as prefix
use Rattle.tsa_tree.specs.declared.kind.ExpressionType.{ExpressionType}
use Rattle.tsa_tree.specs.declared.kind.Kind.{Kind}
use Rattle.tsa_tree.specs.declared.kind.ThingType.{ThingType}
use Rattle.tsa_tree.specs.expressions.Syntax.{Expression, Arguments, number, null, named, call, unary, binary, field, index}
use Rattle.tsa_tree.specs.points.Syntax.{Deed, declares, evaluates, assigns, tests, switches, jumps, idles, returns, ends}
use Rattle.tsa_tree.specs.expressions.Sound.{Words}
use Rattle.tsa_tree.specs.types.DeclaredTypes.{thing_type}
use Rattle.tsa_tree.specs.types.Expressions.{type_of}
use Rattle.tsa_tree.specs.types.Locals.{names_in, names_in_init}
use Rattle.tsa_tree.specs.types.Operands.{breaks_prefix, breaks_binary, prefix_type, binary_type}
use Rattle.tsa_tree.specs.types.Premises.{first}
use Rattle.tsa_tree.specs.types.Scopes.{Scope, context_of, known_in}
use Rattle.tsa_tree.specs.types.Lookups.{params_in}
use Rattle.tsa_place_model.specs.Ways.{Way}
use Rattle.tsa_core.specs.Bodies.{declared, point_by}
use Rattle.tsa_place_model.specs.Calls.{Layout}
use Rattle.tsa_core.specs.Kinds.{Setting, Belongs}
use Rattle.tsa_core.specs.Meanings.{Call, call_in, call_of, or_call}
use Rattle.tsa_core.specs.Uses.{call_ways, called_ways, init_uses, uses_by, value_uses}
use Rattle.tsa_core.proofs.CallsHold.{IsTypedCall, call_called}
use Rattle.tsa_core.proofs.DeedsHold.{Facts}
use Rattle.tsa_core.proofs.DeedsTold.{init_told, set_told}
use Rattle.tsa_core.proofs.KindsOfTerms.{of_one, of_two}
use Rattle.tsa_core.proofs.NoFailure.{keeps_typed}
use Rattle.tsa_sound.specs.BodyFacts.{AllLead}
use Rattle.tsa_sound_accepted.proofs.entered.ArgumentsLead.{all_lead}

module _ (here : Scope) (k : Setting) (bel : Belongs here k) (stable : ℕ → Bool) where
  -- a call, and the paths of its arguments, where there is one
  abbrev CallLeads : Option Call → Option (List (Option Way)) → Type 0
  CallLeads None None = Unit {0}
  CallLeads (Some c) (Some ways) = AllLead stable c.args ways
  CallLeads made ways = ⊥

  or_leads : (a b : Option Call) (v w : Option (List (Option Way))) → CallLeads a v → CallLeads b w → CallLeads (or_call a b) (or_call v w)
  or_leads None b None w h g = g
  or_leads (Some c) b (Some ways) w h g = h
  or_leads None b (Some ways) w h g = absurd h
  or_leads (Some c) b None w h g = absurd h

  named_leads : (args : Arguments) (name : List ℕ) (t : ExpressionType) → IsTypedCall here name args t
      → CallLeads (call_of here args (known_in here name)) (called_ways stable here args (known_in here name))
  named_leads args name t c =
      subst (λ o. CallLeads (call_of here args o) (called_ways stable here args o)) (sym c.known) (all_lead here k bel stable (params_in here c.n) args c.all c.goes)

  call_leads : (e : Expression) (t : ExpressionType) → type_of (context_of here) e ≡ Some t → CallLeads (call_in here e) (call_ways stable here e)
  unfolding call_in call_ways type_of
  call_leads (call callee args span) t is = named_leads args callee.text t (call_called here callee args span t is)
  call_leads (unary prefix.Not inner span) t is =
      let parts = of_one (prefix_type prefix.Not) (breaks_prefix prefix.Not (type_of (context_of here) inner)) (type_of (context_of here) inner) t is in
      call_leads inner parts.1.0 parts.1.1
  call_leads (binary op.Equal left right span) t is =
      let x = type_of (context_of here) left in
      let y = type_of (context_of here) right in
      let parts = of_two (binary_type op.Equal) (breaks_binary op.Equal x y) x y t is in
      or_leads (call_in here left) (call_in here right) (call_ways stable here left) (call_ways stable here right)
      (call_leads left parts.1.0.0 parts.1.0.1) (call_leads right parts.1.1.0 parts.1.1.1)
  call_leads (binary op.Unequal left right span) t is =
      let x = type_of (context_of here) left in
      let y = type_of (context_of here) right in
      let parts = of_two (binary_type op.Unequal) (breaks_binary op.Unequal x y) x y t is in
      or_leads (call_in here left) (call_in here right) (call_ways stable here left) (call_ways stable here right)
      (call_leads left parts.1.0.0 parts.1.0.1) (call_leads right parts.1.1.0 parts.1.1.1)
  call_leads (number n u span) t is = tt
  call_leads (null span) t is = tt
  call_leads (named name span) t is = tt
  call_leads (field base name arrow span) t is = tt
  call_leads (index base at span) t is = tt
  call_leads (unary prefix.Minus inner span) t is = tt
  call_leads (unary prefix.Flip inner span) t is = tt
  call_leads (unary prefix.Address inner span) t is = tt
  call_leads (unary prefix.Follow inner span) t is = tt
  call_leads (binary op.Or left right span) t is = tt
  call_leads (binary op.And left right span) t is = tt
  call_leads (binary op.BitOr left right span) t is = tt
  call_leads (binary op.BitXor left right span) t is = tt
  call_leads (binary op.BitAnd left right span) t is = tt
  call_leads (binary op.Less left right span) t is = tt
  call_leads (binary op.More left right span) t is = tt
  call_leads (binary op.LessEqual left right span) t is = tt
  call_leads (binary op.MoreEqual left right span) t is = tt
  call_leads (binary op.Plus left right span) t is = tt
  call_leads (binary op.Minus left right span) t is = tt
  call_leads (binary op.Times left right span) t is = tt
  call_leads (binary op.Divide left right span) t is = tt
  call_leads (binary op.Remainder left right span) t is = tt

  -- the arguments of the call of a point, beside the paths that are told there
  abbrev pub ArgsLead : Option Call → List (Option Way) → Type 0
  ArgsLead made ways = (c : Call) → made ≡ Some c → AllLead stable c.args ways

  none_lead : (ways : List (Option Way)) → ArgsLead None ways
  none_lead ways c is = absurd cc

  value_leads : (l : Layout) (e : Expression) (t : ExpressionType) → type_of (context_of here) e ≡ Some t
      → ArgsLead (call_in here e) (value_uses l stable here e).arguments
  value_leads l e t typed c is = by (call_ways stable here e) refl (subst (λ o. CallLeads o (call_ways stable here e)) is (call_leads e t typed))
    where
      by : (o : Option (List (Option Way))) → call_ways stable here e ≡ o → CallLeads (Some c) o → AllLead stable c.args (value_uses l stable here e).arguments
      by None f h = absurd h
      by (Some ways) f h = rw f h

  -- what a deed calls
  module _ (l : Layout) (words : Words) (result : ThingType) where
    init_lead : (kind : Kind) (i : Option Initialiser) → first (names_in here i) ≡ None → ArgsLead (declared here kind i).call (init_uses l stable here i).arguments
    unfolding names_in_init
    init_lead kind None names = none_lead []
    init_lead kind (Some (list items span)) names = none_lead []
    init_lead kind (Some (value e)) names = let t = keeps_typed (context_of here) e names in value_leads l e t.0 t.1

    pub deed_leads : (kind : Kind) (d : Deed) → Facts words result here d → ArgsLead (point_by here kind d).call (uses_by l stable here d).arguments
    deed_leads kind (declares d) f = init_lead (thing_type here d.ctype).kind d.init (init_told here d f.0).1.0
    deed_leads kind (evaluates e) f = let t = keeps_typed (context_of here) e f.0 in value_leads l e t.0 t.1
    deed_leads kind (assigns left o right) f =
        let s = set_told here left o right f.0.0 f.0.1 f.1.0 in value_leads l right s.u s.right_typed
    deed_leads kind (tests None) f = none_lead []
    deed_leads kind (tests (Some e)) f = let t = keeps_typed (context_of here) e f.1.0 in value_leads l e t.0 t.1
    deed_leads kind (switches e) f = none_lead []
    deed_leads kind jumps f = none_lead []
    deed_leads kind idles f = none_lead []
    deed_leads kind (returns None) f = none_lead []
    deed_leads kind (returns (Some e)) f = let t = keeps_typed (context_of here) e f.1.0 in value_leads l e t.0 t.1
    deed_leads kind ends f = none_lead []
