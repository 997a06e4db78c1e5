-- Items one by one, and functions with their bodies.
use Rattle.std.proofs.Common.{ℕ, ◌≡◌, ◌∙◌, ◌+◌, ◌-◌, suc, arith, Bool, true, false, List, [], ◌∷◌, ◌++◌, drop, length, Option, Some, None, Err, Result, option_map}
use Rattle.std.proofs.Common.{refl, sym, ap, subst}
use Rattle.std.proofs.lemmas.List.{append_assoc}
use Rattle.std.specs.Borrow.{Bor}
use Rattle.std.specs.Prelude.{⊤, is_some, slice_get}
use Rattle.tsa_tree.specs.declared.item.FnTree.{FnTree}
use Rattle.tsa_tree.specs.declared.item.Item.{Item}
use Rattle.tsa_tree.specs.declared.stmt.Point.{Point}
use Rattle.tsa_tree.specs.declared.stmt.Stmt.{Stmt}
use Rattle.tsa_tree.specs.declarations.Shapes.{head_shape}
use Rattle.tsa_tree.specs.statements.Shapes.{stmt_shapes}
use Rattle.tsa_tree.specs.units.Syntax.{UnitItem}
use Rattle.tsa_tree.specs.units.Shapes.{end_of, shape_with, function_shape, item_shape, item_shapes}
use Rattle.tsa_types_expressions.specs.declared.refusal.TypeRefusal.{TypeRefusal}
use Rattle.tsa_tree.specs.types.Heads.{head_premises, behind_head, inside}
use Rattle.tsa_types_expressions.specs.Judgements.{Judges}
use Rattle.tsa_tree.specs.types.Premises.{Premise, or_else, first}
use Rattle.tsa_tree.specs.declared.premise.Failure.{Failure}
use Rattle.tsa_tree.specs.types.DeclaredTypes.{thing_type}
use Rattle.tsa_tree.specs.types.Scopes.{Scope}
use Rattle.tsa_tree.specs.types.Symbols.{number_of}
use Rattle.tsa_types_row.specs.BodyRows.{alone_row, row_in_body, row_in_statements}
use Rattle.tsa_types_row.specs.ItemRows.{row_in_head, row_in_item}
use Rattle.tsa_types_row.specs.declared.node.Op.TheVariants as op
use Rattle.tsa_tree.specs.types.Statements.{statements_premises}
use Rattle.tsa_tree.specs.declared.kind.ThingType.{ThingType}
use Rattle.tsa_tree.specs.types.Units.{outermost, body_premises, item_premises, behind_item, items_premises}
use Rattle.tsa_types_expressions.proofs.Sequences.{judges_some, judged_some, judged_rest}
use Rattle.tsa_types_expressions.proofs.Steps.{first_append}
use Rattle.tsa_types_expressions.proofs.RowLaws.{Notes, noted, noted_append}
use Rattle.tsa_base.proofs.Numbers.{plus_one}

module _ (here : Scope) (items : List Item) (i : ℕ) where
  abbrev wrong_from : Scope → ℕ → Option Failure
  wrong_from there j = first (items_premises there (item_shapes (drop j items)))

  pub items_end : drop i items ≡ [] → wrong_from here i ≡ None
  unfolding items_premises first
  items_end e = ap (λ xs. first (items_premises here (item_shapes xs))) e

  module _ (x : Item) (at_i : drop i items ≡ x ∷ drop (suc i) items) where
    abbrev own : Option Failure
    own = first (item_premises here (item_shape x))

    items_more : wrong_from here i ≡ or_else own (wrong_from (behind_item here (item_shape x)) (suc i))
    unfolding items_premises
    items_more =
        ap (λ xs. first (items_premises here (item_shapes xs))) at_i
        ∙ first_append (item_premises here (item_shape x)) (items_premises (behind_item here (item_shape x)) (item_shapes (drop (suc i) items)))

    pub items_stop : (e : TypeRefusal) → Judges own (Err e) → Judges (wrong_from here i) (Err e)
    items_stop e h = subst (λ o. Judges o (Err e)) (sym items_more) (judges_some own (wrong_from (behind_item here (item_shape x)) (suc i)) e h)

    pub items_next : (there : Scope) → own ≡ None → there ≡ behind_item here (item_shape x) → wrong_from there (i + 1) ≡ wrong_from here i
    items_next there none known =
        ap (λ y. wrong_from y (i + 1)) known ∙ ap (wrong_from (behind_item here (item_shape x))) (sym (plus_one i))
        ∙ sym (items_more ∙ ap (λ o. or_else o (wrong_from (behind_item here (item_shape x)) (suc i))) none)

-- a body's last point is the brace that closes it
less_one : (n : ℕ) → suc n - 1 ≡ n
less_one n = omega arith

pub last_closes : (points : List Point) (p : Point) → slice_get points (length points - 1) ≡ Some p → p.span ≡ end_of points
last_closes [] p h = cc
last_closes (q ∷ []) p h = cc
last_closes (q ∷ r ∷ rest) p h =
    last_closes (r ∷ rest) p
    (ap (slice_get (r ∷ rest)) (less_one (length rest)) ∙ sym (ap (slice_get (q ∷ r ∷ rest)) (less_one (suc (length rest)))) ∙ h)

-- FUNCTIONS

module _ (here : Scope) (f : FnTree) where
  abbrev Given : Type 0
  Given = Option (Bor (List Stmt))

  abbrev item_of : Given → UnitItem
  item_of b = shape_with f (option_map (λ x. x.now) b)

  abbrev head_wrong : Bool → Option Failure
  head_wrong with_body = first (head_premises here (head_shape f) with_body)

  pub head_fails : (with_body : Bool) → with_body ≡ is_some f.body → (e : TypeRefusal) → Judges (head_wrong with_body) (Err e)
      → Judges (first (item_premises here (function_shape f))) (Err e)
  unfolding body_premises
  head_fails with_body is e h = by_body f.body (subst (λ b. Judges (head_wrong b) (Err e)) is h)
    where
      by_body : (b : Given) → Judges (head_wrong (is_some b)) (Err e) → Judges (first (item_premises here (item_of b))) (Err e)
      by_body None h = h
      by_body (Some b) h =
          judged_some (head_premises here (head_shape f) true)
          (statements_premises (outermost (number_of here (head_shape f)) (thing_type here (head_shape f).result) (stmt_shapes b.now)) (inside here (head_shape f) true) (stmt_shapes b.now)) e h

  pub alone_holds : (with_body : Bool) → with_body ≡ is_some f.body → f.body ≡ None → head_wrong with_body ≡ None
      → first (item_premises here (function_shape f)) ≡ None
  alone_holds with_body is none h = ap (λ b. first (item_premises here (item_of b))) none ∙ sym (ap head_wrong (is ∙ ap is_some none)) ∙ h

  pub alone_names : (with_body : Bool) → with_body ≡ is_some f.body → f.body ≡ None → (number : ℕ) → number ≡ number_of here (head_shape f) → (notes after : Notes)
      → after ≡ noted notes (row_in_head here number (head_shape f) with_body) → after ≡ noted notes (row_in_item here (function_shape f))
  alone_names with_body is none number its_number notes after h =
      h ∙ ap (λ b. noted notes (row_in_head here number (head_shape f) b)) (is ∙ ap is_some none)
      ∙ ap (λ n. noted notes (row_in_head here n (head_shape f) false)) its_number
      ∙ sym (ap (λ b. noted notes (row_in_item here (item_of b))) none)

  module _ (body : Bor (List Stmt)) (its_body : f.body ≡ Some body) (with_body : Bool) (is : with_body ≡ is_some f.body) (none : head_wrong with_body ≡ None)
      (there : Scope) (known : there ≡ inside here (head_shape f) with_body) (gives : ThingType) (result : gives ≡ thing_type here (head_shape f).result)
      (number : ℕ) (its_number : number ≡ number_of here (head_shape f)) where
    has_body : with_body ≡ true
    has_body = is ∙ ap is_some its_body

    abbrev stated : ℕ → Scope → ThingType → List Premise
    stated n x t = statements_premises (outermost n t (stmt_shapes body.now)) x (stmt_shapes body.now)

    pub body_judged : (r : Result ⊤ TypeRefusal) → Judges (first (stated number there gives)) r → Judges (first (item_premises here (function_shape f))) r
    unfolding body_premises
    body_judged r h =
        let n = number_of here (head_shape f) in
        subst (λ b. Judges (first (item_premises here (item_of b))) r) (sym its_body)
        (judged_rest (head_premises here (head_shape f) true) (stated n (inside here (head_shape f) true) (thing_type here (head_shape f).result)) r
        (sym (ap head_wrong has_body) ∙ none)
        (subst (λ x. Judges (first (stated n x (thing_type here (head_shape f).result))) r) (known ∙ ap (inside here (head_shape f)) has_body)
        (subst (λ t. Judges (first (stated n there t)) r) result (subst (λ m. Judges (first (stated m there gives)) r) its_number h))))

    pub body_names : (notes after behind all : Notes) → after ≡ noted notes (row_in_head here number (head_shape f) with_body)
        → behind ≡ noted after (row_in_statements there number (stmt_shapes body.now)) → all ≡ noted behind (alone_row op.End (end_of f.points.now))
        → all ≡ noted notes (row_in_item here (function_shape f))
    unfolding row_in_body
    body_names notes after behind all h b e =
        let n = number_of here (head_shape f) in
        let inner = inside here (head_shape f) true in
        let close = alone_row op.End (end_of f.points.now) in
        e ∙ ap (λ r. noted r close) (b ∙ ap (λ x. noted after (row_in_statements x number (stmt_shapes body.now))) (known ∙ ap (inside here (head_shape f)) has_body)
        ∙ ap (λ m. noted after (row_in_statements inner m (stmt_shapes body.now))) its_number
        ∙ ap (λ a. noted a (row_in_statements inner n (stmt_shapes body.now)))
        (h ∙ ap (λ x. noted notes (row_in_head here number (head_shape f) x)) has_body ∙ ap (λ m. noted notes (row_in_head here m (head_shape f) true)) its_number)
        ∙ sym (noted_append notes (row_in_head here n (head_shape f) true) (row_in_statements inner n (stmt_shapes body.now))))
        ∙ sym (noted_append notes (row_in_head here n (head_shape f) true ++ row_in_statements inner n (stmt_shapes body.now)) close)
        ∙ ap (noted notes) (append_assoc (row_in_head here n (head_shape f) true) (row_in_statements inner n (stmt_shapes body.now)) close)
        ∙ sym (ap (λ g. noted notes (row_in_item here (item_of g))) its_body)

  pub behind_function : behind_item here (function_shape f) ≡ behind_head here (head_shape f) (is_some f.body)
  behind_function = by_body f.body
    where
      by_body : (b : Given) → behind_item here (item_of b) ≡ behind_head here (head_shape f) (is_some b)
      by_body None = refl
      by_body (Some b) = refl
