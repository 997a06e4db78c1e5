-- Globals, one after another.
use Rattle.std.proofs.Common.{ℕ, ◌≡◌, ◌∙◌, ap, sym, refl, Bool, true, false, List, [], ◌∷◌, ◌++◌, map, Ok, Err}
use Rattle.tsa_base.specs.Tokens.{Lexeme}
use Rattle.tsa_grammar.proofs.Cases.{chosen, other, goes}
use Rattle.tsa_grammar.specs.Reading.{Outcome, then, choose}
use Rattle.tsa_tree.proofs.RowsRead.{read_steps}
use Rattle.tsa_tree.specs.declared.decl.Decl.{Decl}
use Rattle.tsa_tree.specs.declared.item.Item.{Item}
use Rattle.tsa_tree.specs.declared.item.Item.TheVariants as items
use Rattle.tsa_tree.specs.declarations.Syntax.{Specified, Declarator, Declaration, Declared}
use Rattle.tsa_tree.specs.units.Syntax.{UnitItem, global_item}
use Rattle.tsa_tree.specs.declarations.Spelling.{a_global}
use Rattle.tsa_tree.specs.declarations.Shapes.{decl_shape}
use Rattle.tsa_tree.specs.units.Shapes.{item_shape, item_shapes}
use Rattle.tsa_tree.specs.Reads.{read}
use Rattle.tsa_tree.specs.Rows.{a_declarator, a_declared, some_declarations, declarator, declared_rest, declarators}
use Rattle.tsa_tree.specs.tokens.Signs.{Aliases}
use Rattle.tsa_expr.specs.declared.refusal.SyntaxRefusal.{SyntaxRefusal}
use Rattle.tsa_expr.specs.Gives.{Fails}
use Rattle.tsa_expr.proofs.Answering.{fails_then, fails_same, gives_same}
use Rattle.tsa_attr.proofs.Joining.{then-then, then-same}
use Rattle.tsa_decl_declarators.specs.Outcomes.{after}
use Rattle.tsa_decl.specs.Outcomes.{globals_at}
use Rattle.tsa_decl_declarators.proofs.ListLaws.{map-push, after-over, after-more}

abbrev as_items : List Declaration → ℕ → Outcome (List UnitItem)
as_items xs e = Ok (map global_item xs, e)

-- a declaration is the first of the items, and the declarations after it are the others
first-law : (x : Declaration) (r : Outcome (List Declaration))
    → then r (λ xs n. Ok (global_item x ∷ map global_item xs, n)) ≡ then (then r as_items) (λ xs n. Ok (global_item x ∷ xs, n))
unfolding then
first-law x (Ok p) = refl
first-law x (Err e) = refl

items-law : (b : Bool) (x : Declaration) (e : ℕ) (r : Outcome (List Declaration))
    → then (choose b (then r (λ xs n. Ok (x ∷ xs, n))) (Ok (x ∷ [], e))) as_items
    ≡ choose b (then r (λ xs n. Ok (global_item x ∷ map global_item xs, n))) (Ok (global_item x ∷ [], e))
unfolding choose then
items-law true x e (Ok p) = refl
items-law true x e (Err q) = refl
items-law false x e r = refl

on-law : (front : List UnitItem) (b : Bool) (x : Declaration) (e : ℕ) (r : Outcome (List Declaration)) (go : Outcome (List UnitItem))
    → then r as_items ≡ go
    → after front (choose b (then r (λ xs n. Ok (global_item x ∷ map global_item xs, n))) (Ok (global_item x ∷ [], e)))
    ≡ choose b (after (front ++ global_item x ∷ []) go) (Ok (front ++ global_item x ∷ [], e))
unfolding choose
on-law front true x e r go h = ap (after front) (first-law x r) ∙ after-more front (global_item x) (then r as_items) ∙ ap (after (front ++ global_item x ∷ [])) h
on-law front false x e r go h = goes _ _ (global_item x ∷ []) e refl

module _ (ts : List Lexeme) (aliases : Aliases) where
  -- the globals from a declarator on
  abbrev further : Specified → ℕ → Outcome (List UnitItem)
  further t m = then (read ts a_declarator (declarator aliases) m) (globals_at ts aliases t)

  further_same : (t : Specified) (m : ℕ) → then (read ts some_declarations (declarators aliases a_global 0 t) m) as_items ≡ further t m
  unfolding globals_at
  further_same t m =
      ap (λ r. then r as_items) (read_steps ts some_declarations (declarators aliases a_global 0 t) m)
      ∙ then-then (read ts a_declarator (declarator aliases) m) _ as_items
      ∙ then-same (read ts a_declarator (declarator aliases) m) _ (globals_at ts aliases t) (λ c n.
      then-then (read ts a_declared (declared_rest aliases a_global 0 t c) n) _ as_items
      ∙ then-same (read ts a_declared (declared_rest aliases a_global 0 t c) n) _ _ (λ x e.
      items-law x.goes_on x.declaration e (read ts some_declarations (declarators aliases a_global 0 t) e)))

  abbrev globals_on : Specified → List UnitItem → Declared → ℕ → Outcome (List UnitItem)
  globals_on t front x e =
      choose x.goes_on (after (front ++ global_item x.declaration ∷ []) (further t e)) (Ok (front ++ global_item x.declaration ∷ [], e))

  after-globals : (front : List UnitItem) (t : Specified) (c : Declarator) (m : ℕ)
      → after front (globals_at ts aliases t c m) ≡ then (read ts a_declared (declared_rest aliases a_global 0 t c) m) (globals_on t front)
  unfolding globals_at
  after-globals front t c m =
      after-over front (read ts a_declared (declared_rest aliases a_global 0 t c) m) _
      ∙ then-same (read ts a_declared (declared_rest aliases a_global 0 t c) m) _ (globals_on t front) (λ x e.
      on-law front x.goes_on x.declaration e (read ts some_declarations (declarators aliases a_global 0 t) e) (further t e) (further_same t e))

  pub globals_rest : (xs : List Item) (t : Specified) (c : Declarator) (m : ℕ) (e : SyntaxRefusal)
      → Fails e (read ts a_declared (declared_rest aliases a_global 0 t c) m) → Fails e (after (item_shapes xs) (globals_at ts aliases t c m))
  globals_rest xs t c m e h = fails_same e _ _ (after-globals (item_shapes xs) t c m) (fails_then e _ _ h)

  pub globals_last : (xs : List Item) (t : Specified) (c : Declarator) (m : ℕ) (x : Decl) (g : Bool) (e : ℕ)
      → read ts a_declared (declared_rest aliases a_global 0 t c) m ≡ Ok (record { declaration = decl_shape x; goes_on = g }, e) → g ≡ false
      → after (item_shapes xs) (globals_at ts aliases t c m) ≡ Ok (item_shapes (xs ++ items.Global x ∷ []), e)
  globals_last xs t c m x g e h p =
      after-globals (item_shapes xs) t c m ∙ goes _ _ (record { declaration = decl_shape x; goes_on = g }) e h
      ∙ other _ _ _ p ∙ ap (λ ys. Ok (ys, e)) (sym (map-push item_shape xs (items.Global x)))

  with_comma : (xs : List Item) (t : Specified) (c : Declarator) (m : ℕ) (x : Decl) (g : Bool) (e : ℕ)
      → read ts a_declared (declared_rest aliases a_global 0 t c) m ≡ Ok (record { declaration = decl_shape x; goes_on = g }, e) → g ≡ true
      → after (item_shapes xs) (globals_at ts aliases t c m) ≡ after (item_shapes (xs ++ items.Global x ∷ [])) (further t e)
  with_comma xs t c m x g e h p =
      after-globals (item_shapes xs) t c m ∙ goes _ _ (record { declaration = decl_shape x; goes_on = g }) e h
      ∙ chosen _ _ _ p ∙ ap (λ ys. after ys (further t e)) (sym (map-push item_shape xs (items.Global x)))

  pub globals_name : (xs : List Item) (t : Specified) (c : Declarator) (m : ℕ) (x : Decl) (g : Bool) (e : ℕ) (r : SyntaxRefusal)
      → read ts a_declared (declared_rest aliases a_global 0 t c) m ≡ Ok (record { declaration = decl_shape x; goes_on = g }, e) → g ≡ true
      → Fails r (read ts a_declarator (declarator aliases) e) → Fails r (after (item_shapes xs) (globals_at ts aliases t c m))
  globals_name xs t c m x g e r h p f = fails_same r _ _ (with_comma xs t c m x g e h p) (fails_then r _ _ (fails_then r _ _ f))

  pub globals_more : (xs : List Item) (t : Specified) (c : Declarator) (m : ℕ) (x : Decl) (g : Bool) (e : ℕ) (o : Declarator) (n : ℕ)
      → read ts a_declared (declared_rest aliases a_global 0 t c) m ≡ Ok (record { declaration = decl_shape x; goes_on = g }, e) → g ≡ true
      → read ts a_declarator (declarator aliases) e ≡ Ok (o, n)
      → after (item_shapes xs) (globals_at ts aliases t c m) ≡ after (item_shapes (xs ++ items.Global x ∷ [])) (globals_at ts aliases t o n)
  globals_more xs t c m x g e o n h p k =
      with_comma xs t c m x g e h p ∙ ap (after (item_shapes (xs ++ items.Global x ∷ []))) (goes _ _ o n k)

pub ruleset lists = (globals_rest, globals_last, globals_name, globals_more, fails_same, gives_same)
