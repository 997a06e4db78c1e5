-- Of units in the profile no function with a body has more paths than it may.
use Rattle.std.proofs.Common.{◌≡◌, ◌∙◌, ℕ, false, List, [], ◌∷◌, ◌++◌, Option, Some, None, is_none, refl, sym, ap}
use Rattle.tsa_base.specs.declared.token.Span.{Span}
use Rattle.tsa_tree.specs.declarations.Syntax.{Head}
use Rattle.tsa_tree.specs.statements.Syntax.{Statements}
use Rattle.tsa_tree.specs.types.Scopes.{Scope}
use Rattle.tsa_tree.specs.types.Units.{outset, behind_item}
use Rattle.tsa_tree.specs.units.Syntax.{UnitItem, structure_item, alias_item, enumeration_item, global_item, function_item, body_item}
use Rattle.tsa_place_model.specs.Ways.{Way}
use Rattle.tsa_core.specs.Programs.{Attr}
use Rattle.tsa_profile_accesses.specs.declared.premise.ProfileCode.TheVariants.{LM4}
use Rattle.tsa_profile_accesses.specs.Premises.{failure_of, first, or_else, premise}
use Rattle.tsa_profile_context.specs.Units.{Unit, attributes_behind, items_premises, paths_at, paths_limit, paths_limits, points_in}
use Rattle.tsa_profile_context.specs.Units.{refusal_with, tries_limits, unit_of}
use Rattle.tsa_rules_bodies.proofs.ProfileAllows.{none_of_both}

-- which bodies stand elsewhere makes no difference to the limits
same_limit : (outside : List ℕ) (items : List UnitItem) (behind : List (List Attr)) (here : Scope) (item : UnitItem)
    → paths_limit (unit_of outside items) behind here item ≡ paths_limit (unit_of [] items) behind here item
same_limit outside items behind here (structure_item tag alias attrs members span) = refl
same_limit outside items behind here (alias_item name ctype span) = refl
same_limit outside items behind here (enumeration_item tag alias values span) = refl
same_limit outside items behind here (global_item d) = refl
same_limit outside items behind here (function_item head) = refl
same_limit outside items behind here (body_item head body close) = refl

same_limits : (outside : List ℕ) (items : List UnitItem) (known : List (List Attr)) (here : Scope) (rest : List UnitItem)
    → paths_limits (unit_of outside items) known here rest ≡ paths_limits (unit_of [] items) known here rest
unfolding paths_limits
same_limits outside items known here [] = refl
same_limits outside items known here (item ∷ rest) =
    ap (λ ps. ps ++ paths_limits (unit_of outside items) (attributes_behind (unit_of outside items) known here item) (behind_item here item) rest)
    (same_limit outside items (attributes_behind (unit_of outside items) known here item) here item)
    ∙ ap (λ ps. paths_limit (unit_of [] items) (attributes_behind (unit_of [] items) known here item) here item ++ ps)
    (same_limits outside items (attributes_behind (unit_of [] items) known here item) (behind_item here item) rest)

pub limits_hold : (outside : List ℕ) (items : List UnitItem) → refusal_with outside items ≡ None → first (paths_limits (unit_of [] items) [] (outset items) items) ≡ None
limits_hold outside items none =
    let u = unit_of outside items in
    let a = none_of_both (items_premises u [] (outset items) items) (tries_limits u [] (outset items) items ++ paths_limits u [] (outset items) items) none in
    let b = none_of_both (tries_limits u [] (outset items) items) (paths_limits u [] (outset items) items) a.1 in
    sym (ap first (same_limits outside items [] (outset items) items)) ∙ b.1

-- item by item
module _ (u : Unit) (known : List (List Attr)) (here : Scope) where
  pub limits_on : (item : UnitItem) (rest : List UnitItem) → first (paths_limits u known here (item ∷ rest)) ≡ None
      → first (paths_limits u (attributes_behind u known here item) (behind_item here item) rest) ≡ None
  unfolding paths_limits
  limits_on item rest none =
      (none_of_both (paths_limit u (attributes_behind u known here item) here item) (paths_limits u (attributes_behind u known here item) (behind_item here item) rest) none).1

  pub body_has_paths : (head : Head) (body : Statements) (close : Span) (rest : List UnitItem) → first (paths_limits u known here (body_item head body close ∷ rest)) ≡ None
      → is_none (paths_at u (attributes_behind u known here (body_item head body close)) here head (points_in here head body)) ≡ false
  unfolding paths_limits first
  body_has_paths head body close rest none =
      let behind = attributes_behind u known here (body_item head body close) in
      let own = paths_limit u behind here (body_item head body close) in
      let later = paths_limits u behind (behind_item here (body_item head body close)) rest in
      let alone = (none_of_both own later none).0 in
      by (paths_at u behind here head (points_in here head body)) alone
    where
      by : (o : Option (List Way)) → or_else (failure_of (premise LM4 head.name.span (is_none o))) None ≡ None → is_none o ≡ false
      by None e = absurd cc
      by (Some ways) e = refl
