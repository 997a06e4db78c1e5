-- The locals of a callee suit the paths that are handed on with a call.
use Rattle.std.proofs.Common.{◌≡◌, ℕ, Bool, true, false, ◌||◌, not, List, Option, Some, None, is_some, option_map, slice_get, refl, sym}
use Rattle.std.proofs.Common.{subst}
use Rattle.tsa_base.specs.declared.value.Value.{Value}
use Rattle.tsa_base.proofs.Truths.{never}
use Rattle.tsa_tree.specs.declared.expr.BinaryOp.TheVariants as op
use Rattle.tsa_tree.specs.declared.expr.UnaryOp.TheVariants as prefix
use Rattle.tsa_tree.specs.declared.kind.ExpressionType.{ExpressionType}
use Rattle.tsa_tree.specs.declared.kind.ThingType.{ThingType}
use Rattle.tsa_tree.specs.declared.meaning.Entry.{Entry}
use Rattle.tsa_tree.specs.declared.meaning.Meaning.{Meaning}
use Rattle.tsa_tree.specs.declared.meaning.Meaning.TheVariants as known
use Rattle.tsa_tree.specs.expressions.Syntax.{Expression, Arguments, number, null, named, call, unary, binary, field, index}
use Rattle.tsa_tree.specs.types.Expressions.{type_of, types_of, unless, result_type, all_typed, breaks_call, miscounts, known_and}
use Rattle.tsa_tree.specs.types.Operands.{breaks_prefix, breaks_binary, prefix_type, binary_type}
use Rattle.tsa_tree.specs.types.Scopes.{Scope, context_of, known_in}
use Rattle.tsa_tree.specs.units.Syntax.{UnitItem}
use Rattle.tsa_place_model.specs.Ways.{Way}
use Rattle.tsa_place_model.specs.Leading.{HasPlaces}
use Rattle.tsa_place_model.specs.Stores.{Store}
use Rattle.tsa_core.specs.Kinds.{Setting}
use Rattle.tsa_core.specs.Meanings.{Call, call_of, call_in, or_call}
use Rattle.tsa_core.specs.Uses.{called_ways, call_ways}
use Rattle.tsa_core.proofs.KindTests.{neither, not_false}
use Rattle.tsa_core.proofs.KindsOfTerms.{of_one, of_two}
use Rattle.tsa_core.proofs.TypedTerms.{some_same}
use Rattle.tsa_path.specs.ArgumentLaws.{Serves, CallsSuitTheirPaths}
use Rattle.tsa_path.specs.Laws.{Locals, Suits}
use Rattle.tsa_path.specs.Values.{values_of}
use Rattle.tsa_path.proofs.ArgumentsPassed.{arguments_have_paths}

of_result : (b : Bool) (o : Option Entry) (t : ExpressionType) → unless b (option_map result_type o) ≡ Some t → b ≡ false
of_result true o t e = cc
of_result false o t e = refl

module _ (items : List UnitItem) (here : Scope) (k : Setting) (store : Store) (caller callee : Locals) (owner : Option ℕ) (stable : ℕ → Bool) (has : HasPlaces items k.layout)
    (s : Serves here k store caller)
  where
    abbrev Types : Arguments → List (Option ExpressionType)
    Types args = types_of (context_of here) args

    -- the callee's locals suit some paths where they hold the values of a call
    abbrev SuitsBy : Call → List (Option Way) → Type 0
    SuitsBy c ways = (values : List Value) → values_of k.layout store caller c.args ≡ Some values → ((n : ℕ) (v : Value) → slice_get values n ≡ Some v → callee n ≡ Some v)
        → Suits k.layout caller owner ways callee

    abbrev Suiting : Option Call → Option (List (Option Way)) → Type 0
    Suiting o p = (c : Call) (ways : List (Option Way)) → o ≡ Some c → p ≡ Some ways → SuitsBy c ways

    both_same : (x c : Call) (y ways : List (Option Way)) → Some x ≡ Some c → Some y ≡ Some ways → SuitsBy x y → SuitsBy c ways
    both_same x c y ways e f h = subst (λ w. SuitsBy c w) (some_same f) (subst (λ z. SuitsBy z y) (some_same e) h)

    function_suits : (args : Arguments) (n : ℕ) (t : ThingType) → all_typed (Types args) ≡ true
        → breaks_call (context_of here) (Types args) (record { meaning = known.Function n; thing = t }) ≡ false
        → Suiting (call_of here args (Some (record { meaning = known.Function n; thing = t }))) (called_ways stable here args (Some (record { meaning = known.Function n; thing = t })))
    function_suits args n t typed goes c ways e f =
        both_same _ c _ ways e f
        (λ values are holds. arguments_have_paths items here k store caller callee owner stable ((context_of here).params n) args values has s typed goes are holds)

    entry_suits : (args : Arguments) (m : Meaning) (t : ThingType) → all_typed (Types args) ≡ true
        → breaks_call (context_of here) (Types args) (record { meaning = m; thing = t }) ≡ false
        → Suiting (call_of here args (Some (record { meaning = m; thing = t }))) (called_ways stable here args (Some (record { meaning = m; thing = t })))
    entry_suits args (known.Function n) t typed goes c ways e f = function_suits args n t typed goes c ways e f
    entry_suits args (known.Global n) t typed goes c ways e f = cc
    entry_suits args (known.Local n) t typed goes c ways e f = cc
    entry_suits args known.Owned t typed goes c ways e f = cc
    entry_suits args (known.Constant z) t typed goes c ways e f = cc
    entry_suits args known.TypeName t typed goes c ways e f = cc

    named_suits : (args : Arguments) (o : Option Entry) → all_typed (Types args) ≡ true → known_and (breaks_call (context_of here) (Types args)) o ≡ false
        → Suiting (call_of here args o) (called_ways stable here args o)
    named_suits args None typed goes c ways e f = cc
    named_suits args (Some x) typed goes c ways e f = entry_suits args x.meaning x.thing typed goes c ways e f

    -- both have a call, or neither
    abbrev Alike : Option Call → Option (List (Option Way)) → Type 0
    Alike o p = is_some o ≡ is_some p

    alike_entry : (args : Arguments) (m : Meaning) (t : ThingType)
        → Alike (call_of here args (Some (record { meaning = m; thing = t }))) (called_ways stable here args (Some (record { meaning = m; thing = t })))
    alike_entry args (known.Function n) t = refl
    alike_entry args (known.Global n) t = refl
    alike_entry args (known.Local n) t = refl
    alike_entry args known.Owned t = refl
    alike_entry args (known.Constant z) t = refl
    alike_entry args known.TypeName t = refl

    alike_named : (args : Arguments) (o : Option Entry) → Alike (call_of here args o) (called_ways stable here args o)
    alike_named args None = refl
    alike_named args (Some x) = alike_entry args x.meaning x.thing

    alike_or : (a b : Option Call) (p q : Option (List (Option Way))) → Alike a p → Alike b q → Alike (or_call a b) (or_call p q)
    alike_or None b None q e f = f
    alike_or (Some x) b (Some y) q e f = refl
    alike_or None b (Some y) q e f = never (sym e)
    alike_or (Some x) b None q e f = never e

    suits_or : (a b : Option Call) (p q : Option (List (Option Way))) → Alike a p → Suiting a p → Suiting b q → Suiting (or_call a b) (or_call p q)
    suits_or None b None q e h g = g
    suits_or (Some x) b (Some y) q e h g = h
    suits_or None b (Some y) q e h g = never (sym e)
    suits_or (Some x) b None q e h g = never e

    alike : (e : Expression) → Alike (call_in here e) (call_ways stable here e)
    unfolding call_in call_ways
    alike (call callee args span) = alike_named args (known_in here callee.text)
    alike (unary prefix.Not inner span) = alike inner
    alike (binary op.Equal left right span) = alike_or (call_in here left) (call_in here right) (call_ways stable here left) (call_ways stable here right) (alike left) (alike right)
    alike (binary op.Unequal left right span) = alike_or (call_in here left) (call_in here right) (call_ways stable here left) (call_ways stable here right) (alike left) (alike right)
    alike (number n u span) = refl
    alike (null span) = refl
    alike (named name span) = refl
    alike (field base name arrow span) = refl
    alike (index base at span) = refl
    alike (unary prefix.Minus inner span) = refl
    alike (unary prefix.Flip inner span) = refl
    alike (unary prefix.Address inner span) = refl
    alike (unary prefix.Follow inner span) = refl
    alike (binary op.Or left right span) = refl
    alike (binary op.And left right span) = refl
    alike (binary op.BitOr left right span) = refl
    alike (binary op.BitXor left right span) = refl
    alike (binary op.BitAnd left right span) = refl
    alike (binary op.Less left right span) = refl
    alike (binary op.More left right span) = refl
    alike (binary op.LessEqual left right span) = refl
    alike (binary op.MoreEqual left right span) = refl
    alike (binary op.Plus left right span) = refl
    alike (binary op.Minus left right span) = refl
    alike (binary op.Times left right span) = refl
    alike (binary op.Divide left right span) = refl
    alike (binary op.Remainder left right span) = refl

    nothing : Suiting None None
    nothing c ways e f = cc

    suits : (e : Expression) (t : ExpressionType) → type_of (context_of here) e ≡ Some t → Suiting (call_in here e) (call_ways stable here e)
    unfolding call_in call_ways type_of types_of
    suits (call callee args span) t is =
        let rules = of_result _ (known_in here callee.text) t is in
        let breaks = known_and (breaks_call (context_of here) (Types args)) (known_in here callee.text) in
        let counts = known_and (miscounts (context_of here) (Types args)) (known_in here callee.text) in
        let kept = neither breaks (counts || not (all_typed (Types args))) rules in
        named_suits args (known_in here callee.text) (not_false (all_typed (Types args)) (neither counts (not (all_typed (Types args))) kept.1).1) kept.0
    suits (unary prefix.Not inner span) t is =
        let parts = of_one (prefix_type prefix.Not) (breaks_prefix prefix.Not (type_of (context_of here) inner)) (type_of (context_of here) inner) t is in
        suits inner parts.1.0 parts.1.1
    suits (binary op.Equal left right span) t is =
        let l = type_of (context_of here) left in
        let r = type_of (context_of here) right in
        let parts = of_two (binary_type op.Equal) (breaks_binary op.Equal l r) l r t is in
        suits_or (call_in here left) (call_in here right) (call_ways stable here left) (call_ways stable here right) (alike left) (suits left parts.1.0.0 parts.1.0.1)
        (suits right parts.1.1.0 parts.1.1.1)
    suits (binary op.Unequal left right span) t is =
        let l = type_of (context_of here) left in
        let r = type_of (context_of here) right in
        let parts = of_two (binary_type op.Unequal) (breaks_binary op.Unequal l r) l r t is in
        suits_or (call_in here left) (call_in here right) (call_ways stable here left) (call_ways stable here right) (alike left) (suits left parts.1.0.0 parts.1.0.1)
        (suits right parts.1.1.0 parts.1.1.1)
    suits (number n u span) t is = nothing
    suits (null span) t is = nothing
    suits (named name span) t is = nothing
    suits (field base name arrow span) t is = nothing
    suits (index base at span) t is = nothing
    suits (unary prefix.Minus inner span) t is = nothing
    suits (unary prefix.Flip inner span) t is = nothing
    suits (unary prefix.Address inner span) t is = nothing
    suits (unary prefix.Follow inner span) t is = nothing
    suits (binary op.Or left right span) t is = nothing
    suits (binary op.And left right span) t is = nothing
    suits (binary op.BitOr left right span) t is = nothing
    suits (binary op.BitXor left right span) t is = nothing
    suits (binary op.BitAnd left right span) t is = nothing
    suits (binary op.Less left right span) t is = nothing
    suits (binary op.More left right span) t is = nothing
    suits (binary op.LessEqual left right span) t is = nothing
    suits (binary op.MoreEqual left right span) t is = nothing
    suits (binary op.Plus left right span) t is = nothing
    suits (binary op.Minus left right span) t is = nothing
    suits (binary op.Times left right span) t is = nothing
    suits (binary op.Divide left right span) t is = nothing
    suits (binary op.Remainder left right span) t is = nothing

pub calls_suit_their_paths : CallsSuitTheirPaths
calls_suit_their_paths items here k store caller callee owner stable e t c ways values has s is called led are holds =
    suits items here k store caller callee owner stable has s e t is c ways called led values are holds
