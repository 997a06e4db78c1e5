-- What is wrong with the initialisers of globals, by what their expressions were found to be.
use Rattle.std.proofs.Common.{◌≡◌, ◌∙◌, ℕ, ◌+◌, zero, suc, arith, Bool, true, false, not, ◌&&◌, List, [], ◌∷◌, ◌++◌, drop, Option, Some}
use Rattle.std.proofs.Common.{None, Result, Ok, Err, is_some, refl, sym, ap, if◌then◌else◌}
use Rattle.std.specs.Prelude.{slice_get}
use Rattle.tsa_base.specs.declared.token.Span.{Span}
use Rattle.tsa_tree.specs.declared.decl.Init.{Init}
use Rattle.tsa_tree.specs.declared.expr.Expr.{Expr}
use Rattle.tsa_tree.specs.declared.kind.ExpressionType.{ExpressionType}
use Rattle.tsa_tree.specs.declared.kind.Kind.{Kind}
use Rattle.tsa_tree.specs.declared.kind.ThingType.{ThingType}
use Rattle.tsa_tree.specs.declared.premise.Failure.{Failure}
use Rattle.tsa_tree.specs.declared.premise.TypeCode.TheVariants.{TY9}
use Rattle.tsa_tree.specs.declarations.Syntax.{Initialisers, value, list}
use Rattle.tsa_tree.specs.declarations.Shapes.{init_shape, init_shapes}
use Rattle.tsa_tree.specs.expressions.Syntax.{Expression}
use Rattle.tsa_tree.specs.expressions.Shapes.{shape}
use Rattle.tsa_tree.specs.types.Expressions.{type_of, premises_of}
use Rattle.tsa_tree.specs.types.Initialisers.{is_constant_for, cell_premises, cell_or_nothing, parts_of, is_misfit, or_no_parts}
use Rattle.tsa_tree.specs.types.Initialisers.{initialiser_premises, list_premises}
use Rattle.tsa_tree.specs.types.Known.{Context}
use Rattle.tsa_tree.specs.types.Operands.{goes_to, integer_kind}
use Rattle.tsa_tree.specs.types.Premises.{Premise, or_else, first}
use Rattle.tsa_tree.specs.types.Scopes.{Scope, context_of}
use Rattle.tsa_types_row.specs.BodyRows.{aside, aside_init}
use Rattle.tsa_types_expressions.specs.declared.constants.Found.{Found}
use Rattle.tsa_types_expressions.specs.Found.{with_constant, constant_in, found_in}
use Rattle.tsa_types_expressions.specs.Verdicts.{at, outcome, found_type, verdict_of}
use Rattle.tsa_types_expressions.proofs.LaterPremises.{asked, asked_first}
use Rattle.tsa_types_expressions.proofs.ConstantLaws.{constant_is}
use Rattle.tsa_types_expressions.proofs.Steps.{Alike, alike, found_is}
use Rattle.tsa_types_expressions.proofs.RowLaws.{Notes, noted}
use Rattle.tsa_types_declarations.specs.Cells.{fixed_by, is_fixed_for, cell_by}
use Rattle.tsa_types_declarations.proofs.Lists.{failure_end, failure_next}
use Rattle.tsa_types_declarations.proofs.PlaceLaws.{zero_in, pointer_is}

-- the initialiser of one cell
module _ (c : Context) (own : ℕ) (e : Expression) where
  -- what the expression is found to be, by its type
  abbrev as_found : ExpressionType → Found
  as_found t = record { thing = t; constant = constant_in c e }

  -- it is a constant for a kind where it is found to be one
  fixed_is : (k : Kind) (t : ExpressionType) → type_of c e ≡ Some t → is_fixed_for own k (as_found t) ≡ is_constant_for c own k e
  fixed_is k t h = by_kind (integer_kind k) refl
    where
      by_kind : (b : Bool) → integer_kind k ≡ b → is_fixed_for own k (as_found t) ≡ is_constant_for c own k e
      by_kind true i = rw i (ap is_some (sym (constant_is c e)))
      by_kind false i = rw i (ap (λ x. fixed_by own (zero_in x) (constant_in c e)) (sym h) ∙ pointer_is own c e)

  -- a test that is asked, and its answer
  by_test : (g k : Bool) (span : Span) → (if not (g && k) then Some (at TY9 span) else None) ≡ (if g && k then None else Some (at TY9 span))
  by_test true true span = refl
  by_test true false span = refl
  by_test false k span = refl

  -- a cell of a type, by what is found
  asked_is : (span : Span) (t : ThingType) (v : Result ExpressionType Failure) → type_of c e ≡ found_type v
      → asked TY9 (λ u. not (goes_to u t && is_constant_for c own t.kind e)) span v ≡ cell_by own (Some t) span (with_constant (constant_in c e) v)
  asked_is span t (Err failure) h = refl
  asked_is span t (Ok u) h =
      by_test (goes_to u t) (is_constant_for c own t.kind e) span
      ∙ ap (λ b. if goes_to u t && b then None else Some (at TY9 span)) (sym (fixed_is t.kind u h))

  -- beside what has no type its names alone are judged
  alone : (span : Span) (x : Option Failure) (t : Option ExpressionType) → Alike x t → x ≡ cell_by own None span (with_constant (constant_in c e) (outcome x t))
  alone span (Some f) t h = refl
  alone span None (Some t) h = refl
  alone span None None h = cc

-- a cell, by what its initialiser is found to be
pub cell_is : (c : Context) (own : ℕ) (thing : Option ThingType) (e : Expr) → cell_by own thing e.span (found_in c (shape e)) ≡ first (cell_or_nothing c own thing (shape e))
unfolding found_in verdict_of cell_premises
cell_is c own None e = sym (alone c own (shape e) e.span (first (premises_of c (shape e))) (type_of c (shape e)) (alike c (shape e)))
cell_is c own (Some t) e =
    sym
    (asked_first TY9 (λ u. not (goes_to u t && is_constant_for c own t.kind (shape e))) c e ∙ asked_is c own (shape e) e.span t (verdict_of c (shape e)) (found_is c (shape e)))

-- the nodes of an initialiser that is an expression
pub value_nodes : (here : Scope) (function : ℕ) (notes : Notes) (e : Expression) → noted notes (aside here function e) ≡ noted notes (aside_init here function (value e))
unfolding aside_init
value_nodes here function notes e = refl

module _ (here : Scope) (own : ℕ) where
  -- an initialiser that is an expression, and one that is a list
  pub init_value : (thing : Option ThingType) (e : Expression) → first (cell_or_nothing (context_of here) own thing e) ≡ first (initialiser_premises here own thing (value e))
  unfolding initialiser_premises
  init_value thing e = refl

  pub init_list : (thing : Option ThingType) (items : Initialisers) (span : Span)
      → or_else (if is_misfit (parts_of here thing) items then Some (at TY9 span) else None) (first (list_premises here own (or_no_parts (parts_of here thing)) items))
      ≡ first (initialiser_premises here own thing (list items span))
  unfolding initialiser_premises first
  init_list thing items span = refl

  -- items one by one, each beside the part of its number
  module _ (types : List ThingType) where
    -- the premises of items from a number on, of one, and the next number
    abbrev wrong : ℕ → List Init → List Premise
    wrong n items = list_premises here own (drop n types) (init_shapes items)

    abbrev one : ℕ → Init → List Premise
    one n item = initialiser_premises here own (slice_get types n) (init_shape item)

    abbrev further : ℕ → Init → ℕ
    further n item = suc n

    -- no items, and one more
    wrong_nil : (n : ℕ) → wrong n [] ≡ []
    unfolding list_premises
    wrong_nil n = refl

    -- the first of what is left is the one of that number
    first_left : {A : Type 0} (xs : List A) (n : ℕ) → slice_get (drop n xs) 0 ≡ slice_get xs n
    first_left [] zero = refl
    first_left [] (suc n) = refl
    first_left (x ∷ xs) zero = refl
    first_left (x ∷ xs) (suc n) = first_left xs n

    -- and the others are those behind it
    others_left : {A : Type 0} (xs : List A) (n : ℕ) → drop 1 (drop n xs) ≡ drop (suc n) xs
    others_left [] zero = refl
    others_left [] (suc n) = refl
    others_left (x ∷ xs) zero = refl
    others_left (x ∷ xs) (suc n) = others_left xs n

    wrong_more : (n : ℕ) (item : Init) (rest : List Init) → wrong n (item ∷ rest) ≡ one n item ++ wrong (suc n) rest
    unfolding list_premises
    wrong_more n item rest =
        ap (λ p. initialiser_premises here own p (init_shape item) ++ list_premises here own (drop 1 (drop n types)) (init_shapes rest)) (first_left types n)
        ∙ ap (λ ts. one n item ++ list_premises here own ts (init_shapes rest)) (others_left types n)

    module _ (items : List Init) (i n : ℕ) where
      -- none is left
      pub items_end : (f : Option Failure) → drop i items ≡ [] → or_else f (first (wrong n (drop i items))) ≡ f
      items_end f e = failure_end further items i n wrong one wrong_nil f e

      -- the next one is judged beside its part
      pub items_next : (item : Init) → drop i items ≡ item ∷ drop (suc i) items → (part : Option ThingType) → part ≡ slice_get types n → (f g : Option Failure)
          → g ≡ first (initialiser_premises here own part (init_shape item)) → or_else (or_else f g) (first (wrong (n + 1) (drop (i + 1) items))) ≡ or_else f (first (wrong n (drop i items)))
      items_next item at_i part is f g found =
          failure_next further items i n wrong one wrong_more item at_i (n + 1) f g (found ∙ ap (λ p. first (initialiser_premises here own p (init_shape item))) is) (omega arith)
