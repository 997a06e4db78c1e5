-- What holds of each typed call and the paths of its arguments holds of the call of each deed.
use Rattle.std.proofs.Common.{◌≡◌, ℕ, Bool, true, List, [], Option, Some, None, subst}
use Rattle.tsa_tree.specs.declarations.Syntax.{Declaration, Initialiser, value, list}
use Rattle.tsa_tree.specs.declared.kind.ExpressionType.{ExpressionType}
use Rattle.tsa_tree.specs.declared.kind.Kind.{Kind}
use Rattle.tsa_tree.specs.declared.kind.ThingType.{ThingType}
use Rattle.tsa_base.specs.declared.token.Span.{Span}
use Rattle.tsa_tree.specs.expressions.Syntax.{Arguments, Expression, Identifier, call}
use Rattle.tsa_tree.specs.points.Syntax.{Deed, declares, evaluates, assigns, tests, switches, jumps, idles, returns, ends}
use Rattle.tsa_tree.specs.expressions.Sound.{Words}
use Rattle.tsa_tree.specs.types.DeclaredTypes.{thing_type}
use Rattle.tsa_tree.specs.types.Expressions.{type_of, premises_of}
use Rattle.tsa_tree.specs.types.Locals.{names_in, names_in_init}
use Rattle.tsa_tree.specs.types.Premises.{first}
use Rattle.tsa_tree.specs.types.Runnable.{is_small, is_whole, is_whole_init}
use Rattle.tsa_tree.specs.types.Scopes.{Scope, context_of, known_in}
use Rattle.tsa_place_model.specs.Ways.{Way}
use Rattle.tsa_core.specs.Bodies.{declared, point_by}
use Rattle.tsa_place_model.specs.Calls.{Layout}
use Rattle.tsa_core.specs.Meanings.{Call, call_in, call_of}
use Rattle.tsa_core.specs.Uses.{call_ways, called_ways, init_uses, uses_by}
use Rattle.tsa_core.proofs.DeedsHold.{Facts}
use Rattle.tsa_core.proofs.DeedsTold.{init_told, set_told}
use Rattle.tsa_core.proofs.KindTests.{both_true}
use Rattle.tsa_core.proofs.NoFailure.{keeps_typed}
use Rattle.tsa_core.proofs.TypedTerms.{some_same}
use Rattle.tsa_sound_accepted.proofs.terms.CallPairs.{Pairs, condition_pairs, whole_pairs}

module _ (here : Scope) (stable : ℕ → Bool) (R : Call → List (Option Way) → Type 0)
    (of_typed : (callee : Identifier) (args : Arguments) (span : Span) (t : ExpressionType) → type_of (context_of here) (call callee args span) ≡ Some t
    → Pairs R (call_of here args (known_in here callee.text)) (called_ways stable here args (known_in here callee.text)))
  where
    abbrev Two : Option Call → Option (List (Option Way)) → Type 0
    Two o w = Pairs R o w

    -- the paths where there is a call
    abbrev listed : Option (List (Option Way)) → List (Option Way)
    listed None = []
    listed (Some ways) = ways

    abbrev pub Lead : Option Call → List (Option Way) → Type 0
    Lead o ways = (c : Call) → o ≡ Some c → R c ways

    pairs_lead : (o : Option Call) (w : Option (List (Option Way))) → Two o w → Lead o (listed w)
    pairs_lead None w h c e = absurd cc
    pairs_lead (Some d) None h c e = absurd h
    pairs_lead (Some d) (Some ways) h c e = subst (λ x. R x ways) (some_same e) h

    no_call : (ways : List (Option Way)) → Lead None ways
    no_call ways c e = absurd cc

    value_leads : (e : Expression) → first (premises_of (context_of here) e) ≡ None → is_whole e ≡ true → Lead (call_in here e) (listed (call_ways stable here e))
    value_leads e h whole =
        let t = keeps_typed (context_of here) e h in pairs_lead (call_in here e) (call_ways stable here e) (whole_pairs here stable R of_typed e t.0 whole t.1)

    value_first : (e : Expression) → first (names_in here (Some (value e))) ≡ None → first (premises_of (context_of here) e) ≡ None
    unfolding names_in_init
    value_first e h = h

    module _ (l : Layout) (words : Words) (result : ThingType) where
      init_leads : (d : Declaration) (kind : Kind) → Facts words result here (declares d) → Lead (declared here kind d.init).call (init_uses l stable here d.init).arguments
      init_leads d kind f =
          by d.init (init_told here d f.0).1.0 (both_true (is_small (thing_type here d.ctype)) (is_whole_init d.init) f.1.0).1
        where
          by : (i : Option Initialiser) → first (names_in here i) ≡ None → is_whole_init i ≡ true → Lead (declared here kind i).call (init_uses l stable here i).arguments
          by None names whole = no_call []
          by (Some (list items span)) names whole = no_call []
          by (Some (value e)) names whole = value_leads e (value_first e names) whole

      pub deed_leads : (d : Deed) → Facts words result here d → Lead (point_by here result.kind d).call (uses_by l stable here d).arguments
      deed_leads (declares d) f = init_leads d (thing_type here d.ctype).kind f
      deed_leads (evaluates e) f = value_leads e f.0 f.1.0
      deed_leads (assigns left o right) f = let s = set_told here left o right f.0.0 f.0.1 f.1.0 in value_leads right s.kept s.whole
      deed_leads (tests None) f = no_call []
      deed_leads (tests (Some e)) f =
          let t = keeps_typed (context_of here) e f.1.0 in
          pairs_lead (call_in here e) (call_ways stable here e) (condition_pairs here stable R of_typed e t.0 f.1.1.0 t.1)
      deed_leads (switches e) f = no_call []
      deed_leads jumps f = no_call []
      deed_leads idles f = no_call []
      deed_leads (returns None) f = no_call []
      deed_leads (returns (Some e)) f = value_leads e f.1.0 f.1.1.0
      deed_leads ends f = no_call []
