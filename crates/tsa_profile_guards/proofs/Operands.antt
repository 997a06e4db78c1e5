-- The own access of an operand before those inside it.
use Rattle.std.proofs.Common.{◌≡◌, ◌∙◌, ℕ, suc, Bool, true, false, List, [], ◌∷◌, ◌++◌, drop, map, refl, ap, sym, if◌then◌else◌}
use Rattle.std.proofs.lemmas.List.{append-nil}
use Rattle.tsa_base.specs.declared.token.Span.{Span}
use Rattle.std.specs.Prelude.{◌<◌, Option, Some, None, get_or, length}
use Rattle.std.proofs.Math.Seq.{drop-cons}
use Rattle.tsa_tree.specs.declared.expr.BinaryOp.{BinaryOp}
use Rattle.tsa_tree.specs.declared.expr.Expr.{Expr}
use Rattle.tsa_tree.specs.declared.expr.ExprKind.{ExprKind}
use Rattle.tsa_tree.specs.declared.expr.ExprKind.TheVariants.{Number, Null, Named, Call', Unary', Binary', Field', Index'}
use Rattle.tsa_tree.specs.expressions.Shapes.{kind_shape, shape, shapes}
use Rattle.tsa_tree.specs.expressions.Syntax.{Expression}
use Rattle.tsa_tree.specs.types.Scopes.{Scope}
use Rattle.tsa_place_model.specs.Calls.{Layout}
use Rattle.tsa_core.specs.Cells.{argument_cells, cells_read, inner_cells, own_cell}
use Rattle.tsa_core.specs.Meanings.{is_loaded, meaning}
use Rattle.tsa_profile_accesses.specs.Accesses.{Access}
use Rattle.tsa_profile_guards.specs.Accesses.{access, accesses, before, span_of, written}
use Rattle.tsa_profile_guards.specs.Values.{unled}
use Rattle.tsa_profile_accesses.specs.ExpressionViews.{Seen, own_access, seen_of}
use Rattle.tsa_profile_guards.proofs.Walk.{before_append, before_nothing}

-- an expression stands where its node does
pub span_is : (kind : ExprKind) (span : Span) → span_of (kind_shape kind span) ≡ span
span_is (Number value unsigned) span = refl
span_is Null span = refl
span_is (Named name) span = refl
span_is (Call' callee pointer count row) span = refl
span_is (Unary' o pointer inner inner_span) span = refl
span_is (Binary' o first left left_span second right right_span) span = refl
span_is (Field' pointer base base_span name arrow) span = refl
span_is (Index' first base base_span second at at_span) span = refl

map_own : {A B : Type 0} (f : A → B) (x : A) (b : Bool) → map f (if b then x ∷ [] else []) ≡ (if b then f x ∷ [] else [])
map_own f x true = refl
map_own f x false = refl

module _ (l : Layout) (stable : ℕ → Bool) (here : Scope) where
  -- the own access of a node
  pub own_is : (p is_write : Bool) (x : Expr) → own_access (seen_of l stable here p (shape x)).thing (record { span = x.span; is_write = is_write; guards = (seen_of l stable here p (shape x)).guards })
      ≡ accesses l stable here is_write (own_cell here (shape x))
  unfolding seen_of accesses
  own_is p is_write x =
      ap (λ span. own_access (seen_of l stable here p (shape x)).thing (record { span = span; is_write = is_write; guards = (seen_of l stable here p (shape x)).guards })) (sym (span_is x.kind x.span))
      ∙ sym (map_own (access l stable here is_write) (shape x) (is_loaded (meaning here (shape x))))

  pub own_before : (p : Bool) (x : Expr) (others : List Access)
      → own_access (seen_of l stable here p (shape x)).thing (record { span = x.span; is_write = false; guards = (seen_of l stable here p (shape x)).guards })
      ++ before l stable here (inner_cells here (shape x)) others ≡ before l stable here (cells_read here (shape x)) others
  unfolding before
  own_before p x others =
      ap (λ own. own ++ before l stable here (inner_cells here (shape x)) others) (own_is p false x)
      ∙ sym (before_append l stable here (own_cell here (shape x)) (inner_cells here (shape x)) others)

  -- an argument before those behind it
  pub argument_before : (args : List Expr) (i j : ℕ) (x : Expr) (others : List Access) → drop i args ≡ x ∷ drop (suc i) args → j ≡ suc i
      → before l stable here (cells_read here (shape x)) (before l stable here (argument_cells here (shapes (drop j args))) others)
      ≡ before l stable here (argument_cells here (shapes (drop i args))) others
  unfolding argument_cells
  argument_before args i j x others at_i next =
      ap (λ k. before l stable here (cells_read here (shape x)) (before l stable here (argument_cells here (shapes (drop k args))) others)) next
      ∙ sym (before_append l stable here (cells_read here (shape x)) (argument_cells here (shapes (drop (suc i) args))) others)
      ∙ sym (ap (λ xs. before l stable here (argument_cells here (shapes xs)) others) at_i)

  pub no_argument : (args : List Expr) (i : ℕ) (others : List Access) → drop i args ≡ [] → others ≡ before l stable here (argument_cells here (shapes (drop i args))) others
  unfolding argument_cells
  no_argument args i others at_end = sym (ap (λ xs. before l stable here (argument_cells here (shapes xs)) others) at_end ∙ before_nothing l stable here others)

  pub before_none : (cells : List Expression) → before l stable here cells [] ≡ accesses l stable here false cells
  unfolding before
  before_none cells = append-nil (accesses l stable here false cells)

  -- what a left side reads and writes: without an operator, and with one
  pub left_side : (p : Bool) (x : Expr)
      → own_access (seen_of l stable here p (shape x)).thing (record { span = x.span; is_write = true; guards = (seen_of l stable here p (shape x)).guards })
      ++ before l stable here (inner_cells here (shape x)) [] ≡ written l stable here None (shape x)
  unfolding accesses before
  left_side p x =
      ap (λ inner. own_access (seen_of l stable here p (shape x)).thing (record { span = x.span; is_write = true; guards = (seen_of l stable here p (shape x)).guards }) ++ inner) (before_none (inner_cells here (shape x)))
      ∙ ap (λ own. own ++ accesses l stable here false (inner_cells here (shape x))) (own_is p true x)

  pub joined_left_side : (p : Bool) (o : BinaryOp) (x : Expr)
      → own_access (seen_of l stable here p (shape x)).thing (record { span = x.span; is_write = false; guards = (seen_of l stable here p (shape x)).guards })
      ++ (own_access (seen_of l stable here p (shape x)).thing (record { span = x.span; is_write = true; guards = (seen_of l stable here p (shape x)).guards })
      ++ before l stable here (inner_cells here (shape x)) []) ≡ written l stable here (Some o) (shape x)
  unfolding accesses
  joined_left_side p o x =
      ap (λ rest. own_access (seen_of l stable here p (shape x)).thing (record { span = x.span; is_write = false; guards = (seen_of l stable here p (shape x)).guards }) ++ rest) (left_side p x)
      ∙ ap (λ own. own ++ written l stable here None (shape x)) (own_is p false x)

  -- the same by what the accesses were made of
  pub left_is : (p : Bool) (x : Expr) (o : Option BinaryOp) (s : Seen) (start cells own : List Access) → o ≡ None
      → unled s ≡ unled (seen_of l stable here p (shape x)) → start ≡ [] → cells ≡ before l stable here (inner_cells here (shape x)) start
      → own ≡ own_access s.thing (record { span = x.span; is_write = true; guards = s.guards }) ++ cells → own ≡ written l stable here o (shape x)
  left_is p x o s start cells own none seen nothing inside is =
      is
      ∙ ap (λ s. own_access s.thing (record { span = x.span; is_write = true; guards = s.guards }) ++ cells) seen
      ∙ ap (λ cells. own_access (seen_of l stable here p (shape x)).thing (record { span = x.span; is_write = true; guards = (seen_of l stable here p (shape x)).guards }) ++ cells)
      (inside ∙ ap (before l stable here (inner_cells here (shape x))) nothing)
      ∙ left_side p x
      ∙ ap (λ o. written l stable here o (shape x)) (sym none)

  pub joined_is : (p : Bool) (x : Expr) (o : Option BinaryOp) (b : BinaryOp) (s : Seen) (start cells own whole : List Access) → o ≡ Some b
      → unled s ≡ unled (seen_of l stable here p (shape x)) → start ≡ [] → cells ≡ before l stable here (inner_cells here (shape x)) start
      → own ≡ own_access s.thing (record { span = x.span; is_write = true; guards = s.guards }) ++ cells
      → whole ≡ own_access s.thing (record { span = x.span; is_write = false; guards = s.guards }) ++ own → whole ≡ written l stable here o (shape x)
  joined_is p x o b s start cells own whole some seen nothing inside is all =
      all
      ∙ ap (λ s. own_access s.thing (record { span = x.span; is_write = false; guards = s.guards }) ++ own) seen
      ∙ ap (λ own. own_access (seen_of l stable here p (shape x)).thing (record { span = x.span; is_write = false; guards = (seen_of l stable here p (shape x)).guards }) ++ own)
      (left_is p x None s start cells own refl seen nothing inside is ∙ sym (left_side p x))
      ∙ joined_left_side p b x
      ∙ ap (λ o. written l stable here o (shape x)) (sym some)

  -- an argument in the arena before those behind it
  pub argument_next : (args : List Expr) (i j : ℕ) (d : Expr) (cells others after : List Access) → i < length args → j ≡ suc i
      → cells ≡ before l stable here (argument_cells here (shapes (drop j args))) others
      → after ≡ before l stable here (cells_read here (shape (get_or args i d))) cells
      → after ≡ before l stable here (argument_cells here (shapes (drop i args))) others
  argument_next args i j d cells others after within next so_far is =
      is
      ∙ ap (before l stable here (cells_read here (shape (get_or args i d)))) so_far
      ∙ argument_before args i j (get_or args i d) others (drop-cons args i d within) next
