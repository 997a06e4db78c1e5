-- The call of an expression stands beside the paths of its arguments.
use Rattle.std.proofs.Common.{◌≡◌, ℕ, Bool, true, false, ◌||◌, List, Option, Some, None, sym, subst}
use Rattle.tsa_tree.specs.declared.expr.BinaryOp.TheVariants as op
use Rattle.tsa_tree.specs.declared.expr.UnaryOp.TheVariants as prefix
use Rattle.tsa_tree.specs.declared.kind.ExpressionType.{ExpressionType}
use Rattle.tsa_base.specs.declared.token.Span.{Span}
use Rattle.tsa_base.proofs.Truths.{never}
use Rattle.tsa_tree.specs.expressions.Syntax.{Identifier, Expression, Arguments, number, null, named, call, unary, binary, field, index}
use Rattle.tsa_tree.specs.types.Expressions.{type_of}
use Rattle.tsa_tree.specs.types.Operands.{binary_type, breaks_binary, breaks_prefix, prefix_type}
use Rattle.tsa_tree.specs.types.Runnable.{has_call, is_whole, is_comparison, is_condition}
use Rattle.tsa_tree.specs.types.Scopes.{Scope, context_of, known_in}
use Rattle.tsa_tree.specs.types.Lookups.{params_in}
use Rattle.tsa_place_model.specs.Ways.{Way}
use Rattle.tsa_core.specs.Kinds.{Setting, Belongs}
use Rattle.tsa_core.specs.Meanings.{Call, call_of, call_in, or_call}
use Rattle.tsa_core.specs.Uses.{call_ways, called_ways}
use Rattle.tsa_core.proofs.CallsHold.{call_called}
use Rattle.tsa_core.proofs.KindTests.{neither, not_true}
use Rattle.tsa_core.proofs.KindsOfTerms.{of_one, of_two}
use Rattle.tsa_sound.specs.BodyFacts.{AllLead}
use Rattle.tsa_sound_accepted.proofs.terms.ArgumentsLead.{args_lead}
use Rattle.tsa_sound_accepted.proofs.terms.ValuesFit.{sides_whole}

-- a call and its paths, of which something holds, or neither
abbrev pub Pairs : (Call → List (Option Way) → Type 0) → Option Call → Option (List (Option Way)) → Type 0
Pairs R None None = Unit {0}
Pairs R (Some c) (Some ways) = R c ways
Pairs R o w = ⊥

module _ (here : Scope) (stable : ℕ → Bool) (R : Call → List (Option Way) → Type 0)
    (of_typed : (callee : Identifier) (args : Arguments) (span : Span) (t : ExpressionType) → type_of (context_of here) (call callee args span) ≡ Some t
    → Pairs R (call_of here args (known_in here callee.text)) (called_ways stable here args (known_in here callee.text)))
  where
    or_pairs : (o p : Option Call) (w v : Option (List (Option Way))) → Pairs R o w → Pairs R p v → Pairs R (or_call o p) (or_call w v)
    or_pairs None p None v h g = g
    or_pairs (Some c) p (Some ways) v h g = h
    or_pairs None p (Some ways) v h g = absurd h
    or_pairs (Some c) p None v h g = absurd h

    free_pairs : (e : Expression) → has_call e ≡ false → Pairs R (call_in here e) (call_ways stable here e)
    unfolding call_in call_ways
    free_pairs (number n u span) h = tt
    free_pairs (null span) h = tt
    free_pairs (named name span) h = tt
    free_pairs (call callee args span) h = never h
    free_pairs (unary prefix.Not inner span) h = free_pairs inner h
    free_pairs (unary prefix.Minus inner span) h = tt
    free_pairs (unary prefix.Flip inner span) h = tt
    free_pairs (unary prefix.Address inner span) h = tt
    free_pairs (unary prefix.Follow inner span) h = tt
    free_pairs (binary op.Equal left right span) h =
        let both = neither (has_call left) (has_call right) h in
        or_pairs (call_in here left) (call_in here right) (call_ways stable here left) (call_ways stable here right) (free_pairs left both.0) (free_pairs right both.1)
    free_pairs (binary op.Unequal left right span) h =
        let both = neither (has_call left) (has_call right) h in
        or_pairs (call_in here left) (call_in here right) (call_ways stable here left) (call_ways stable here right) (free_pairs left both.0) (free_pairs right both.1)
    free_pairs (binary op.Or left right span) h = tt
    free_pairs (binary op.And left right span) h = tt
    free_pairs (binary op.BitOr left right span) h = tt
    free_pairs (binary op.BitXor left right span) h = tt
    free_pairs (binary op.BitAnd left right span) h = tt
    free_pairs (binary op.Less left right span) h = tt
    free_pairs (binary op.More left right span) h = tt
    free_pairs (binary op.LessEqual left right span) h = tt
    free_pairs (binary op.MoreEqual left right span) h = tt
    free_pairs (binary op.Plus left right span) h = tt
    free_pairs (binary op.Minus left right span) h = tt
    free_pairs (binary op.Times left right span) h = tt
    free_pairs (binary op.Divide left right span) h = tt
    free_pairs (binary op.Remainder left right span) h = tt
    free_pairs (field base name arrow span) h = tt
    free_pairs (index base at span) h = tt

    pub whole_pairs : (e : Expression) (t : ExpressionType) → is_whole e ≡ true → type_of (context_of here) e ≡ Some t → Pairs R (call_in here e) (call_ways stable here e)
    unfolding call_in call_ways
    whole_pairs (call callee args span) t whole is =
        of_typed callee args span t is
    whole_pairs (number n u span) t whole is = tt
    whole_pairs (null span) t whole is = tt
    whole_pairs (named name span) t whole is = tt
    whole_pairs (unary o inner span) t whole is = free_pairs (unary o inner span) (not_true (has_call inner) whole)
    whole_pairs (binary o left right span) t whole is = free_pairs (binary o left right span) (not_true (has_call left || has_call right) whole)
    whole_pairs (field base name arrow span) t whole is = tt
    whole_pairs (index base at span) t whole is = tt

    sides_pair : (left right : Expression) (x y : ExpressionType) → type_of (context_of here) left ≡ Some x → type_of (context_of here) right ≡ Some y
        → is_comparison (context_of here) left right ≡ true → Pairs R (or_call (call_in here left) (call_in here right)) (or_call (call_ways stable here left) (call_ways stable here right))
    sides_pair left right x y is as_well h =
        let sides = sides_whole here left right h in
        or_pairs (call_in here left) (call_in here right) (call_ways stable here left) (call_ways stable here right) (whole_pairs left x sides.0 is) (whole_pairs right y sides.1 as_well)

    -- .. and where it is tested
    pub condition_pairs : (e : Expression) (t : ExpressionType) → is_condition (context_of here) e ≡ true → type_of (context_of here) e ≡ Some t → Pairs R (call_in here e) (call_ways stable here e)
    unfolding type_of call_in call_ways
    condition_pairs (unary prefix.Not x span) t h is =
        let parts = of_one (prefix_type prefix.Not) (breaks_prefix prefix.Not (type_of (context_of here) x)) (type_of (context_of here) x) t is in
        whole_pairs x parts.1.0 h parts.1.1
    condition_pairs (binary op.Equal left right span) t h is =
        let x = type_of (context_of here) left in
        let y = type_of (context_of here) right in
        let parts = of_two (binary_type op.Equal) (breaks_binary op.Equal x y) x y t is in
        sides_pair left right parts.1.0.0 parts.1.1.0 parts.1.0.1 parts.1.1.1 h
    condition_pairs (binary op.Unequal left right span) t h is =
        let x = type_of (context_of here) left in
        let y = type_of (context_of here) right in
        let parts = of_two (binary_type op.Unequal) (breaks_binary op.Unequal x y) x y t is in
        sides_pair left right parts.1.0.0 parts.1.1.0 parts.1.0.1 parts.1.1.1 h
    condition_pairs (call callee args span) t h is = whole_pairs (call callee args span) t h is
    condition_pairs (unary prefix.Minus x span) t h is = tt
    condition_pairs (unary prefix.Flip x span) t h is = tt
    condition_pairs (unary prefix.Address x span) t h is = tt
    condition_pairs (unary prefix.Follow x span) t h is = tt
    condition_pairs (binary op.Or a b span) t h is = tt
    condition_pairs (binary op.And a b span) t h is = tt
    condition_pairs (binary op.BitOr a b span) t h is = tt
    condition_pairs (binary op.BitXor a b span) t h is = tt
    condition_pairs (binary op.BitAnd a b span) t h is = tt
    condition_pairs (binary op.Less a b span) t h is = tt
    condition_pairs (binary op.More a b span) t h is = tt
    condition_pairs (binary op.LessEqual a b span) t h is = tt
    condition_pairs (binary op.MoreEqual a b span) t h is = tt
    condition_pairs (binary op.Plus a b span) t h is = tt
    condition_pairs (binary op.Minus a b span) t h is = tt
    condition_pairs (binary op.Times a b span) t h is = tt
    condition_pairs (binary op.Divide a b span) t h is = tt
    condition_pairs (binary op.Remainder a b span) t h is = tt
    condition_pairs (number n u span) t h is = tt
    condition_pairs (null span) t h is = tt
    condition_pairs (named name span) t h is = tt
    condition_pairs (field base name arrow span) t h is = tt
    condition_pairs (index base at span) t h is = tt

-- the arguments of a typed call are what their paths say
pub call_leads : (here : Scope) (k : Setting) (bel : Belongs here k) (stable : ℕ → Bool) (callee : Identifier) (args : Arguments) (span : Span) (t : ExpressionType)
    → type_of (context_of here) (call callee args span) ≡ Some t
    → Pairs (λ c ways. AllLead stable c.args ways) (call_of here args (known_in here callee.text)) (called_ways stable here args (known_in here callee.text))
call_leads here k bel stable callee args span t is =
    let c = call_called here callee args span t is in
    subst (λ o. Pairs (λ c ways. AllLead stable c.args ways) (call_of here args o) (called_ways stable here args o)) (sym c.known)
    (args_lead here k bel stable (params_in here c.n) args c.goes c.all)
