-- What is asked of the arguments of attributes, one after the other.
use Rattle.std.proofs.Common.{◌≡◌, ◌∙◌, ℕ, ◌+◌, suc, Bool, true, false, not, ◌&&◌, List, [], ◌∷◌, ◌++◌, drop, Option, Some, None, is_none}
use Rattle.std.proofs.Common.{refl, ap, sym}
use Rattle.tsa_base.specs.declared.token.Span.{Span}
use Rattle.tsa_base.proofs.Numbers.{one_behind as plus_one}
use Rattle.tsa_tree.specs.declared.attr.AttrKind.{AttrKind}
use Rattle.tsa_tree.specs.declared.expr.Expr.{Expr}
use Rattle.tsa_tree.specs.expressions.Shapes.{shape, shapes}
use Rattle.tsa_tree.specs.points.Syntax.{expression_span}
use Rattle.tsa_types_expressions.proofs.LengthLaws.{shape_span}
use Rattle.tsa_place_model.specs.Ways.{Way}
use Rattle.tsa_profile_accesses.specs.declared.premise.Failure.{Failure}
use Rattle.tsa_profile_accesses.specs.declared.premise.ProfileCode.TheVariants.{PF1, PF2, PF9}
use Rattle.tsa_profile_accesses.specs.declared.standing.Standing.TheVariants.{Inside}
use Rattle.tsa_profile_accesses.specs.Expressions.{View, own, parts}
use Rattle.tsa_profile_accesses.specs.Premises.{Premise, or_else, first}
use Rattle.tsa_profile_declarations.specs.Declarations.{argument, attribute_arguments, is_among, is_call, is_named_once, is_order, way}
use Rattle.tsa_profile_declarations.specs.Declarations.{ways_behind, with_way}
use Rattle.tsa_profile_declarations.proofs.Firsts.{calls, goes_on, lacks, nothing_fails, repeats, stands, stops}

-- an argument in the arena
module _ (v : View) (kind : AttrKind) (ways : List Way) (x : Expr) where
  abbrev wants : Option Way → Bool
  wants path = not (is_order kind) && is_none path

  abbrev repeated : Option Way → Bool
  repeated path = is_named_once kind && is_among ways path

  abbrev Found : Option Way → Type 0
  Found path = path ≡ way v (shape x)

  pub call_told : is_call (shape x) ≡ true → Some (record { code = PF1; span = x.span }) ≡ first (argument v kind ways (shape x))
  call_told h =
      ap (λ s. Some (record { code = PF1; span = s })) (sym (shape_span x))
      ∙ calls (expression_span (shape x)) (own v Inside false (shape x)) (parts v Inside (shape x)) (is_call (shape x)) (wants (way v (shape x))) (repeated (way v (shape x))) h

  pub lack_told : (path : Option Way) → Found path → is_call (shape x) ≡ false → wants path ≡ true
      → Some (record { code = PF2; span = x.span }) ≡ first (argument v kind ways (shape x))
  lack_told path is h k =
      ap (λ s. Some (record { code = PF2; span = s })) (sym (shape_span x))
      ∙ lacks (expression_span (shape x)) (own v Inside false (shape x)) (parts v Inside (shape x)) (is_call (shape x)) (wants (way v (shape x))) (repeated (way v (shape x))) h
      (ap wants (sym is) ∙ k)

  pub again_told : (path : Option Way) → Found path → is_call (shape x) ≡ false → wants path ≡ false → repeated path ≡ true
      → or_else (first (own v Inside false (shape x))) (Some (record { code = PF9; span = x.span })) ≡ first (argument v kind ways (shape x))
  again_told path is h k e =
      ap (λ s. or_else (first (own v Inside false (shape x))) (Some (record { code = PF9; span = s }))) (sym (shape_span x))
      ∙ repeats (expression_span (shape x)) (own v Inside false (shape x)) (parts v Inside (shape x)) (is_call (shape x)) (wants (way v (shape x))) (repeated (way v (shape x))) h
      (ap wants (sym is) ∙ k) (ap repeated (sym is) ∙ e)

  pub place_told : (path : Option Way) → Found path → is_call (shape x) ≡ false → wants path ≡ false → repeated path ≡ false
      → first (own v Inside false (shape x) ++ parts v Inside (shape x)) ≡ first (argument v kind ways (shape x))
  place_told path is h k e =
      stands (expression_span (shape x)) (own v Inside false (shape x)) (parts v Inside (shape x)) (is_call (shape x)) (wants (way v (shape x))) (repeated (way v (shape x))) h
      (ap wants (sym is) ∙ k) (ap repeated (sym is) ∙ e)

-- arguments in the arena from one of them on
module _ (v : View) (kind : AttrKind) (args : List Expr) (i : ℕ) where
  abbrev asked : List Way → ℕ → Option Failure
  asked ways j = first (attribute_arguments v kind ways (shapes (drop j args)))

  abbrev named : List Way → ℕ → List Way
  named ways j = ways_behind v kind ways (shapes (drop j args))

  pub no_argument : (ways : List Way) → drop i args ≡ [] → None ≡ asked ways i
  unfolding attribute_arguments
  no_argument ways e = sym (ap (λ xs. first (attribute_arguments v kind ways (shapes xs))) e ∙ nothing_fails)

  pub no_name : (ways : List Way) → drop i args ≡ [] → ways ≡ named ways i
  unfolding ways_behind
  no_name ways e = sym (ap (λ xs. ways_behind v kind ways (shapes xs)) e)

  module _ (x : Expr) (ways : List Way) (at_i : drop i args ≡ x ∷ drop (suc i) args) where
    abbrev beside : List Way
    beside = with_way (is_named_once kind) ways (way v (shape x))

    splits : attribute_arguments v kind ways (shapes (drop i args)) ≡ argument v kind ways (shape x) ++ attribute_arguments v kind beside (shapes (drop (suc i) args))
    unfolding attribute_arguments
    splits = ap (λ xs. attribute_arguments v kind ways (shapes xs)) at_i

    pub argument_stops : (f : Failure) → Some f ≡ first (argument v kind ways (shape x)) → Some f ≡ asked ways i
    argument_stops f h = stops (argument v kind ways (shape x)) (attribute_arguments v kind beside (shapes (drop (suc i) args))) f h ∙ ap first (sym splits)

    pub argument_passes : (after : List Way) → None ≡ first (argument v kind ways (shape x)) → after ≡ beside → asked after (i + 1) ≡ asked ways i
    argument_passes after h is =
        ap (λ w. asked w (i + 1)) is
        ∙ ap (asked beside) (plus_one i)
        ∙ goes_on (argument v kind ways (shape x)) (attribute_arguments v kind beside (shapes (drop (suc i) args))) h
        ∙ ap first (sym splits)

    pub name_passes : (after : List Way) → after ≡ beside → named after (i + 1) ≡ named ways i
    unfolding ways_behind
    name_passes after is =
        ap (λ w. named w (i + 1)) is ∙ ap (named beside) (plus_one i) ∙ sym (ap (λ xs. ways_behind v kind ways (shapes xs)) at_i)
