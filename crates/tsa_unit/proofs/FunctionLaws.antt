-- Functions with their bodies.
use Rattle.std.proofs.Common.{ℕ, ◌+◌, ◌-◌, ◌≡◌, ◌≢◌, ◌∙◌, Some, None, true, nat_eq, ap, sym, subst, refl, List, [], ◌∷◌, ◌++◌, length, map}
use Rattle.std.proofs.Common.{option_map, Result, Ok}
use Rattle.std.specs.Borrow.{Bor}
use Rattle.tsa_base.specs.declared.token.Span.{Span}
use Rattle.tsa_base.specs.Tokens.{Lexeme}
use Rattle.tsa_grammar.proofs.Cases.{goes, chosen, other}
use Rattle.tsa_grammar.specs.Reading.{Outcome, then}
use Rattle.tsa_tree.specs.declared.item.FnTree.{FnTree}
use Rattle.tsa_tree.specs.declared.item.Item.{Item}
use Rattle.tsa_tree.specs.declared.item.Item.TheVariants as item
use Rattle.tsa_tree.specs.declared.sign.Sign.TheVariants as sign
use Rattle.tsa_tree.specs.declared.stmt.Action.TheVariants.{End}
use Rattle.tsa_tree.specs.declared.stmt.Point.{Point}
use Rattle.tsa_tree.specs.declared.stmt.Stmt.{Stmt}
use Rattle.tsa_tree.specs.expressions.Answers.{below_limit}
use Rattle.tsa_tree.specs.declarations.Syntax.{Head}
use Rattle.tsa_tree.specs.declarations.Shapes.{head_shape}
use Rattle.tsa_tree.specs.points.Syntax.{ends, points_of_all}
use Rattle.tsa_tree.specs.Reads.{read}
use Rattle.tsa_tree.specs.Rows.{some_statements, statements, an_open_brace, sees, mark, function_end}
use Rattle.tsa_tree.specs.tokens.Signs.{Aliases, sign_at, span_at}
use Rattle.tsa_tree.specs.statements.Shapes.{stmt_shapes, point_shape, AreNumbered}
use Rattle.tsa_tree.specs.units.Syntax.{UnitItem, body_item}
use Rattle.tsa_tree.specs.units.Shapes.{shape_with, function_shape, item_shape, item_shapes, end_of, HasItsPoints, HaveTheirPoints}
use Rattle.tsa_expr.specs.declared.refusal.SyntaxRefusal.{SyntaxRefusal}
use Rattle.tsa_expr.specs.Gives.{Fails, Gives}
use Rattle.tsa_expr.proofs.Answering.{fails_then, fails_same, gives_same}
use Rattle.tsa_decl_declarators.specs.Outcomes.{after, opening_brace}
use Rattle.tsa_decl.specs.Outcomes.{going_items, finished}
use Rattle.tsa_decl_declarators.proofs.ListLaws.{map-push}
use Rattle.tsa_decl_declarators.proofs.TokenLaws.{not_semicolon}
use Rattle.tsa_decl.proofs.BegunLaws.{more_pointed}
use Rattle.tsa_unit_simple.specs.PointNumbers.{ArePointed}
use Rattle.tsa_unit_simple.proofs.RowLaws.{opens_law}

-- the last point is the end
end_push : (ps : List Point) (p : Point) → end_of (ps ++ p ∷ []) ≡ p.span
end_push [] p = refl
end_push (q ∷ []) p = refl
end_push (q ∷ r ∷ ps) p = end_push (r ∷ ps) p

module _ (ts : List Lexeme) (aliases : Aliases) where
  prototype_goes : (f : FnTree) (m : ℕ) → sign_at ts aliases m ≡ sign.Semicolon → (f.body ≡ None) × (f.points.now ≡ [])
      → going_items ts (function_end ts aliases true (head_shape f) m) m ≡ Ok (function_shape f ∷ [], m + 1)
  prototype_goes f m e b =
      chosen _ _ _ (ap (λ s. nat_eq (mark s) 19) e) ∙ chosen _ _ _ (ap (λ s. nat_eq (mark s) 19) e)
      ∙ ap (λ body. Ok (shape_with f (option_map (λ (b : Bor (List Stmt)). b.now) body) ∷ [], m + 1)) (sym b.0)

  body_is : (h : Head) (m : ℕ) → sign_at ts aliases m ≢ sign.Semicolon
      → going_items ts (function_end ts aliases true h m) m
      ≡ then (opening_brace ts aliases 0 m) (λ u n. then (read ts some_statements (statements aliases 1) n) (λ xs e. Ok (body_item h xs (span_at ts (e - 1)) ∷ [], e)))
  unfolding opening_brace
  body_is h m e =
      other _ _ _ (not_semicolon (sign_at ts aliases m) e)
      ∙ opens_law (sees ts (an_open_brace aliases) m) (below_limit 0) m
      (λ n. then (read ts some_statements (statements aliases 1) n) (λ xs e. Ok (body_item h xs (span_at ts (e - 1)) ∷ [], e))) _

  body_unopened : (h : Head) (m : ℕ) (e : SyntaxRefusal) → sign_at ts aliases m ≢ sign.Semicolon → Fails e (opening_brace ts aliases 0 m)
      → Fails e (going_items ts (function_end ts aliases true h m) m)
  body_unopened h m e s f = fails_same e _ _ (body_is h m s) (fails_then e _ _ f)

  body_fails : (h : Head) (m n : ℕ) (e : SyntaxRefusal) → sign_at ts aliases m ≢ sign.Semicolon → opening_brace ts aliases 0 m ≡ Ok (tt, n)
      → Fails e (read ts some_statements (statements aliases 1) n) → Fails e (going_items ts (function_end ts aliases true h m) m)
  body_fails h m n e s o f = fails_same e _ _ (body_is h m s ∙ goes _ _ tt n o) (fails_then e _ _ f)

  body_goes : (f whole : FnTree) (m n : ℕ) (body : Bor (List Stmt)) (e : ℕ) (old : List Point) (span : Span) → sign_at ts aliases m ≢ sign.Semicolon
      → opening_brace ts aliases 0 m ≡ Ok (tt, n) → read ts some_statements (statements aliases 1) n ≡ Ok (stmt_shapes body.now, e)
      → span ≡ span_at ts (e - 1) → head_shape whole ≡ head_shape f → whole.body ≡ Some body
      → whole.points.now ≡ old ++ record { action = End; span = span } ∷ []
      → going_items ts (function_end ts aliases true (head_shape f) m) m ≡ Ok (function_shape whole ∷ [], e)
  body_goes f whole m n body e old span s o r q h b p =
      body_is (head_shape f) m s ∙ goes _ _ tt n o ∙ goes _ _ (stmt_shapes body.now) e r
      ∙ ap (λ h. Ok (body_item h (stmt_shapes body.now) (span_at ts (e - 1)) ∷ [], e)) (sym h)
      ∙ ap (λ close. Ok (body_item (head_shape whole) (stmt_shapes body.now) close ∷ [], e))
      (sym (ap end_of p ∙ end_push old (record { action = End; span = span }) ∙ q))
      ∙ ap (λ body. Ok (shape_with whole (option_map (λ (b : Bor (List Stmt)). b.now) body) ∷ [], e)) (sym b)

  -- a function after other items
  kept : (old new : List Item) (whole : FnTree) (r : Outcome (List UnitItem)) (n : ℕ) → r ≡ Ok (function_shape whole ∷ [], n)
      → new ≡ old ++ item.Function whole ∷ [] → after (item_shapes old) r ≡ Ok (item_shapes new, n)
  unfolding then
  kept old new whole r n g q =
      ap (after (item_shapes old)) g ∙ ap (λ xs. Ok (xs, n)) (sym (ap item_shapes q ∙ map-push item_shape old (item.Function whole)))

  pub prototype_kept : (old new : List Item) (f : FnTree) (m : ℕ) → sign_at ts aliases m ≡ sign.Semicolon → (f.body ≡ None) × (f.points.now ≡ [])
      → new ≡ old ++ item.Function f ∷ []
      → after (item_shapes old) (going_items ts (function_end ts aliases true (head_shape f) m) m) ≡ Ok (item_shapes new, m + 1)
  prototype_kept old new f m e b q = kept old new f _ _ (prototype_goes f m e b) q

  pub unopened_after : (old : List Item) (h : Head) (m : ℕ) (e : SyntaxRefusal) → sign_at ts aliases m ≢ sign.Semicolon
      → Fails e (opening_brace ts aliases 0 m) → Fails e (after (item_shapes old) (going_items ts (function_end ts aliases true h m) m))
  unopened_after old h m e s f = fails_then e _ _ (body_unopened h m e s f)

  pub bodiless_after : (old : List Item) (h : Head) (m n : ℕ) (e : SyntaxRefusal) → sign_at ts aliases m ≢ sign.Semicolon
      → opening_brace ts aliases 0 m ≡ Ok (tt, n) → Fails e (read ts some_statements (statements aliases 1) n)
      → Fails e (after (item_shapes old) (going_items ts (function_end ts aliases true h m) m))
  bodiless_after old h m n e s o f = fails_then e _ _ (body_fails h m n e s o f)

  pub body_kept : (before lent longer : List Item) (f whole : FnTree) (m n : ℕ) (body : Bor (List Stmt)) (e : ℕ) (old : List Point) (span : Span)
      → sign_at ts aliases m ≢ sign.Semicolon → opening_brace ts aliases 0 m ≡ Ok (tt, n)
      → read ts some_statements (statements aliases 1) n ≡ Ok (stmt_shapes body.now, e)
      → span ≡ span_at ts (e - 1) → head_shape whole ≡ head_shape f → whole.body ≡ Some body
      → whole.points.now ≡ old ++ record { action = End; span = span } ∷ [] → lent ≡ before → longer ≡ lent ++ item.Function whole ∷ []
      → after (item_shapes before) (going_items ts (function_end ts aliases true (head_shape f) m) m) ≡ Ok (item_shapes longer, e)
  body_kept before lent longer f whole m n body e old span s o r q h b p l k =
      kept before longer whole _ _ (body_goes f whole m n body e old span s o r q h b p) (k ∙ ap (λ xs. xs ++ item.Function whole ∷ []) l)

  -- an item with a function that its head begins
  pub item_gives : (list : List UnitItem) (found : Outcome (List UnitItem)) (h : Head) (k : ℕ) (view : ℕ → List UnitItem × ℕ) (x : Result ℕ SyntaxRefusal)
      → found ≡ finished ts aliases true (list, Some h) k → Gives view x (after list (going_items ts (function_end ts aliases true h k) k)) → Gives view x found
  item_gives list found h k view x l g = gives_same view x _ _ l g

-- the points of a body
body_pointed : (whole : FnTree) (body : Bor (List Stmt)) (start old : List Point) (span : Span) → ArePointed start old body.now → start ≡ []
    → whole.body ≡ Some body → whole.points.now ≡ old ++ record { action = End; span = span } ∷ [] → HasItsPoints whole
body_pointed whole body start old span h e b p =
    subst (λ held. HasItsPoints (record { name = whole.name; result = whole.result; params = whole.params; attrs = whole.attrs; body = held; points = whole.points })) (sym b) (
      ap (map point_shape) p ∙ map-push point_shape old (record { action = End; span = span })
          ∙ ap (λ ps. ps ++ record { deed = ends; span = span } ∷ []) (h.0 ∙ ap (λ start. map point_shape start ++ points_of_all (stmt_shapes body.now)) e)
          ∙ ap (λ close. points_of_all (stmt_shapes body.now) ++ record { deed = ends; span = close } ∷ [])
          (sym (ap end_of p ∙ end_push old (record { action = End; span = span }))),
      subst (AreNumbered body.now) (ap length e) h.1,
    )

prototype_pointed : (f : FnTree) → (f.body ≡ None) × (f.points.now ≡ []) → HasItsPoints f
prototype_pointed f b =
    subst (λ held. HasItsPoints (record { name = f.name; result = f.result; params = f.params; attrs = f.attrs; body = held; points = f.points })) (sym b.0) b.1

-- a function more
function_pointed : (old new : List Item) (whole : FnTree) → HasItsPoints whole → new ≡ old ++ item.Function whole ∷ [] → HaveTheirPoints old → HaveTheirPoints new
function_pointed old new whole h q k = more_pointed old new (item.Function whole) q (h, tt) k

pub prototype_behind : (old new : List Item) (f : FnTree) → (f.body ≡ None) × (f.points.now ≡ []) → new ≡ old ++ item.Function f ∷ []
    → HaveTheirPoints old → HaveTheirPoints new
prototype_behind old new f b q k = function_pointed old new f (prototype_pointed f b) q k

pub body_behind : (before lent longer : List Item) (whole : FnTree) (body : Bor (List Stmt)) (start old : List Point) (span : Span) → ArePointed start old body.now
    → start ≡ [] → whole.body ≡ Some body → whole.points.now ≡ old ++ record { action = End; span = span } ∷ [] → lent ≡ before → longer ≡ lent ++ item.Function whole ∷ []
    → HaveTheirPoints before → HaveTheirPoints longer
body_behind before lent longer whole body start old span h e b p l q k =
    function_pointed before longer whole (body_pointed whole body start old span h e b p) (q ∙ ap (λ xs. xs ++ item.Function whole ∷ []) l) k

pub ruleset items = (item_gives)

pub ruleset functions = (prototype_kept, prototype_behind, unopened_after, bodiless_after, body_kept, body_behind)
