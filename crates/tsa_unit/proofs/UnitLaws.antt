-- Items of a unit, one after another, where the names of types that each one gives are known after it.
use Rattle.std.proofs.Common.{ℕ, ◌+◌, ◌<◌, ◌≤◌, ◌≡◌, ◌∙◌, ap, sym, subst, refl, Bool, true, false, List, [], ◌∷◌, ◌++◌, length, drop, Ok}
use Rattle.std.proofs.Common.{Err, nat_le, arith}
use Rattle.std.proofs.lemmas.Bool.{le-leb, lt-leb}
use Rattle.std.proofs.lemmas.List.{length-map, length-append}
use Rattle.tsa_base.specs.Tokens.{Lexeme, lexeme}
use Rattle.tsa_base.specs.declared.token.Token.{Token}
use Rattle.tsa_grammar.proofs.Cases.{chosen, other, goes}
use Rattle.tsa_grammar.specs.Reading.{Outcome, Refusal, stop, then, choose}
use Rattle.tsa_tree.specs.declared.item.Item.{Item}
use Rattle.tsa_tree.specs.Reads.{read}
use Rattle.tsa_tree.specs.Rows.{some_items, item, items, is_past}
use Rattle.tsa_tree.specs.tokens.Signs.{Aliases, lexemes}
use Rattle.tsa_tree.specs.units.Answers.{read_unit}
use Rattle.tsa_tree.specs.units.Syntax.{UnitItem, names_of}
use Rattle.tsa_tree.specs.units.Shapes.{item_shape, item_shapes, HaveTheirPoints}
use Rattle.tsa_tree.proofs.RowsRead.{read_steps}
use Rattle.tsa_expr.specs.declared.refusal.SyntaxCode.TheVariants as code
use Rattle.tsa_expr.specs.declared.refusal.SyntaxRefusal.{SyntaxRefusal}
use Rattle.tsa_expr.specs.declared.refusal.SyntaxRefusal.TheVariants as refusal
use Rattle.tsa_expr.specs.Gives.{Fails}
use Rattle.tsa_expr.proofs.Answering.{fails_then, fails_same}
use Rattle.tsa_attr.proofs.Joining.{then-same}
use Rattle.tsa_decl_declarators.specs.Outcomes.{after}
use Rattle.tsa_decl_declarators.proofs.ListLaws.{after-nothing, after-none, after-after, after-over}
use Rattle.tsa_unit.specs.Items.{items_at, on_from}
use Rattle.tsa_unit.specs.Names.{with_names}
use Rattle.tsa_unit.proofs.TypeNames.{names_of_read}

abbrev made : {A : Type 0} → List A → Outcome (List A) → List A
made otherwise (Ok p) = p.0
made otherwise (Err e) = otherwise

-- what an outcome after others is, without them
split : {A : Type 0} (front whole : List A) (n : ℕ) (r : Outcome (List A)) → after front r ≡ Ok (whole, n)
    → (xs : List A) × (r ≡ Ok (xs, n)) × (whole ≡ front ++ xs)
unfolding then
split front whole n (Ok p) h = (p.0, ap (λ e. Ok (p.0, e)) (ap stop h), sym (ap (made []) h))
split front whole n (Err e) h = cc

failed : {A : Type 0} (front : List A) (x : Refusal) (r : Outcome (List A)) → after front r ≡ Err x → r ≡ Err x
unfolding then
failed front x (Ok p) h = cc
failed front x (Err e) h = h

-- what fails after others fails
fails_behind : {A : Type 0} (front : List A) (e : SyntaxRefusal) (r : Outcome (List A)) → Fails e (after front r) → Fails e r
fails_behind front (refusal.At code.SY1 n) r h = failed front _ r h
fails_behind front (refusal.At code.LM2 n) r h = failed front _ r h
fails_behind front (refusal.At code.AT1 n) r h = failed front _ r h
fails_behind front (refusal.At code.AT2 n) r h = failed front _ r h
fails_behind front (refusal.At code.LM3 n) r h = h
fails_behind front (refusal.At code.LM5 n) r h = h
fails_behind front (refusal.Function c s) r h = h
fails_behind front refusal.NoMemory r h = tt

row-law : (xs : List UnitItem) (b : Bool) (n : ℕ) (r : Outcome (List UnitItem))
    → choose b (Ok (xs ++ [], n)) (then r (λ ys e. Ok (xs ++ ys, e))) ≡ after xs (choose b (Ok ([], n)) r)
unfolding choose then
row-law xs true n r = refl
row-law xs false n r = refl

-- the items that were added to a list
those_behind : (list whole : List Item) (xs : List UnitItem) → item_shapes whole ≡ item_shapes list ++ xs
    → item_shapes (drop (length list) whole) ≡ xs
those_behind [] whole xs h = h
those_behind (x ∷ list) [] xs h = cc
those_behind (x ∷ list) (y ∷ whole) xs h = those_behind list whole xs (behind_first h)
  where
    behind_first : item_shape y ∷ item_shapes whole ≡ item_shape x ∷ (item_shapes list ++ xs) → item_shapes whole ≡ item_shapes list ++ xs
    behind_first e = cc

module _ (ts : List Lexeme) where
  unit_is : read_unit ts ≡ items_at ts [] 0
  unfolding read_unit items_at
  unit_is = refl

  none_at : (aliases : Aliases) (m : ℕ) → is_past ts m ≡ true → items_at ts aliases m ≡ Ok ([], m)
  unfolding items_at
  none_at aliases m e = chosen _ _ _ e

  some_at : (aliases : Aliases) (m : ℕ) → is_past ts m ≡ false
      → items_at ts aliases m ≡ then (read ts some_items (item aliases true) m) (λ xs n. after xs (items_at ts (aliases ++ names_of xs) n))
  unfolding items_at
  some_at aliases m e =
      other _ _ _ e ∙ read_steps ts some_items (items aliases) m
      ∙ then-same (read ts some_items (item aliases true) m) _ _ (λ xs n.
      row-law xs (is_past ts n) n (read ts some_items (items (aliases ++ names_of xs)) n))

  pub none_before : read_unit ts ≡ on_from ts [] [] 0
  none_before = unit_is ∙ sym (after-nothing (items_at ts [] 0))

past : (tokens : List Token) (m : ℕ) → length tokens ≤ m → is_past (lexemes tokens) m ≡ true
past tokens m le = ap (λ k. nat_le k m) (length-map tokens lexeme) ∙ le-leb (length tokens) m le

not_past : (tokens : List Token) (m : ℕ) → m < length tokens → is_past (lexemes tokens) m ≡ false
not_past tokens m lt = ap (λ k. nat_le k m) (length-map tokens lexeme) ∙ lt-leb (length tokens) m lt

module _ (tokens : List Token) where
  abbrev ts : List Lexeme
  ts = lexemes tokens

  pub all_read : (list : List Item) (aliases : Aliases) (m : ℕ) → read_unit ts ≡ on_from ts list aliases m → length tokens ≤ m → m ≤ length tokens
      → read_unit ts ≡ Ok (item_shapes list, length tokens)
  all_read list aliases m h ge le =
      let ends : m ≡ length tokens = omega arith in
      h ∙ ap (after (item_shapes list)) (none_at ts aliases m (past tokens m ge)) ∙ after-none (item_shapes list) m
      ∙ ap (λ e. Ok (item_shapes list, e)) ends

  those_fail : (list : List Item) (aliases : Aliases) (m : ℕ) (e : SyntaxRefusal) → m < length tokens
      → Fails e (after (item_shapes list) (read ts some_items (item aliases true) m)) → Fails e (on_from ts list aliases m)
  those_fail list aliases m e lt f =
      fails_same e _ _ (ap (after (item_shapes list)) (some_at ts aliases m (not_past tokens m lt))
      ∙ after-over (item_shapes list) (read ts some_items (item aliases true) m) _)
      (fails_then e _ _ (fails_behind (item_shapes list) e (read ts some_items (item aliases true) m) f))

  pub item_fails : (list lent : List Item) (aliases : Aliases) (m : ℕ) (e : SyntaxRefusal) → m < length tokens → lent ≡ list
      → Fails e (after (item_shapes lent) (read ts some_items (item aliases true) m)) → Fails e (on_from ts list aliases m)
  item_fails list lent aliases m e lt l f = subst (λ list. Fails e (on_from ts list aliases m)) l (those_fail lent aliases m e lt f)

  next_items : (list whole : List Item) (aliases : Aliases) (m n : ℕ) → m < length tokens
      → (xs : List UnitItem) → read ts some_items (item aliases true) m ≡ Ok (xs, n) → item_shapes whole ≡ item_shapes list ++ xs
      → on_from ts list aliases m ≡ on_from ts whole (with_names aliases (names_of xs)) n
  next_items list whole aliases m n lt xs k w =
      ap (after (item_shapes list)) (some_at ts aliases m (not_past tokens m lt) ∙ goes _ _ xs n k)
      ∙ after-after (item_shapes list) xs (items_at ts (aliases ++ names_of xs) n)
      ∙ ap (λ l. after l (items_at ts (aliases ++ names_of xs) n)) (sym w)
      ∙ ap (λ known. on_from ts whole known n) (sym (names_of_read ts aliases xs m n k))

  those_go : (list whole : List Item) (aliases known : Aliases) (m n : ℕ) → m < length tokens
      → after (item_shapes list) (read ts some_items (item aliases true) m) ≡ Ok (item_shapes whole, n)
      → known ≡ with_names aliases (names_of (item_shapes (drop (length list) whole)))
      → on_from ts list aliases m ≡ on_from ts whole known n
  those_go list whole aliases known m n lt h k =
      let parts = split (item_shapes list) (item_shapes whole) n _ h in
      next_items list whole aliases m n lt parts.0 parts.1 parts.2
      ∙ ap (λ xs. on_from ts whole (with_names aliases (names_of xs)) n) (sym (those_behind list whole parts.0 parts.2))
      ∙ ap (λ known. on_from ts whole known n) (sym k)

  pub item_goes : (list lent whole : List Item) (aliases known : Aliases) (m n front : ℕ) → m < length tokens → lent ≡ list → front ≡ length lent
      → after (item_shapes lent) (read ts some_items (item aliases true) m) ≡ Ok (item_shapes whole, n)
      → known ≡ with_names aliases (names_of (item_shapes (drop front whole)))
      → on_from ts list aliases m ≡ on_from ts whole known n
  item_goes list lent whole aliases known m n front lt l f h k =
      ap (λ list. on_from ts list aliases m) (sym l)
      ∙ those_go lent whole aliases known m n lt h (k ∙ ap (λ front. with_names aliases (names_of (item_shapes (drop front whole)))) f)

pub grown : (list whole : List Item) (r : Outcome (List UnitItem)) (n front : ℕ) → after (item_shapes list) r ≡ Ok (item_shapes whole, n)
    → front ≡ length list → front ≤ length whole
grown list whole r n front h f =
    let parts = split (item_shapes list) (item_shapes whole) n r h in
    let long : length (item_shapes whole) ≡ length (item_shapes list) + length parts.0 = ap length parts.2 ∙ length-append (item_shapes list) parts.0 in
    omega (arith, f, long, length-map list item_shape, length-map whole item_shape)

pub pointed_on : (list lent new : List Item) → lent ≡ list → (HaveTheirPoints lent → HaveTheirPoints new) → HaveTheirPoints list → HaveTheirPoints new
pointed_on list lent new l f h = f (subst (λ xs. HaveTheirPoints xs) (sym l) h)

pub ruleset whole = (none_before, all_read)

pub ruleset steps = (item_fails, item_goes, grown, pointed_on)
