-- The bodies of a unit by the names of their functions, item by item.
use Rattle.std.proofs.Common.{◌≡◌, ◌∙◌, ℕ, ◌+◌, suc, arith, Bool, true, false, ◌||◌, List, [], ◌∷◌, drop, Option, Some, None, is_some}
use Rattle.std.proofs.Common.{option_map, if◌then◌else◌, refl, sym, ap, subst}
use Rattle.std.specs.Borrow.{Bor}
use Rattle.std.proofs.lemmas.Slice.Eq.{bytes_eq-Decides}
use Rattle.std.specs.Str.{bytes_eq}
use Rattle.tsa_tree.specs.declarations.Shapes.{head_shape}
use Rattle.tsa_tree.specs.declared.item.FnTree.{FnTree}
use Rattle.tsa_tree.specs.declared.item.Item.{Item}
use Rattle.tsa_tree.specs.declared.item.Item.TheVariants.{Structure, Alias, Enumeration, Global, Function}
use Rattle.tsa_tree.specs.declared.stmt.Stmt.{Stmt}
use Rattle.tsa_tree.specs.statements.Shapes.{stmt_shapes}
use Rattle.tsa_tree.specs.types.Heads.{inside, head_premises}
use Rattle.tsa_tree.specs.types.Premises.{first}
use Rattle.tsa_tree.specs.types.Runnable.{has_body}
use Rattle.tsa_tree.specs.types.Scopes.{Scope, found}
use Rattle.tsa_tree.specs.types.Statements.{statements_premises}
use Rattle.tsa_tree.specs.types.Units.{outset, around_body, body_premises, item_premises, behind_item, items_premises}
use Rattle.tsa_tree.specs.units.Shapes.{shape_with, function_shape, item_shape, item_shapes}
use Rattle.tsa_tree.specs.units.Syntax.{UnitItem, structure_item, alias_item, enumeration_item, global_item, function_item, body_item}
use Rattle.tsa_core.specs.Programs.{Bodied, or_body, bodied_by, bodied_function, body_in, stable_locals}
use Rattle.tsa_core.proofs.NoFailure.{none_of_both}
use Rattle.tsa_core.proofs.UnitScopes.{or_other, found_append, or_none}
use Rattle.tsa_core_environment.specs.Bodies.{Table, unless_known, with_first, stable_or, stable_of, with_body, with_item, bodies_behind}
use Rattle.tsa_core_environment.specs.Bodies.{bodies_of}
use Rattle.tsa_base.proofs.Truths.{never}

-- WHAT IS FOUND

-- a name that is known keeps what it has
abbrev pub one : List ℕ → List ℕ → List Bool → Option (List Bool)
one other name stable = if bytes_eq other name then Some stable else None

known_already : (o : Option (List Bool)) (b : Bool) (stable : List Bool) → (b ≡ true → is_some o ≡ true) → o ≡ or_other o (if b then Some stable else None)
known_already (Some x) b stable h = refl
known_already None true stable h = never (sym (h refl))
known_already None false stable h = refl

found_first : (table : Table) (name : List ℕ) (stable : List Bool) (other : List ℕ) → found (with_first name stable table) other ≡ or_other (found table other) (one other name stable)
found_first table name stable other = by (is_some (found table name)) refl
  where
    by : (known : Bool) → is_some (found table name) ≡ known → found (unless_known known name stable table) other ≡ or_other (found table other) (one other name stable)
    by true is = known_already (found table other) (bytes_eq other name) stable (λ e. ap (λ text. is_some (found table text)) ((bytes_eq-Decides other name).0 e) ∙ is)
    by false is = found_append table ((name, stable) ∷ []) other

abbrev stable_in_it : Bodied → List Bool
stable_in_it b = (body_in b).stable

-- the body of an item comes behind those that are kept
behind_kept : (kept : Option (List Bool)) (b : Bool) (x : Bodied) (rest : Option Bodied)
    → or_other (or_other kept (if b then Some (stable_in_it x) else None)) (option_map stable_in_it rest) ≡ or_other kept (option_map stable_in_it (or_body b x rest))
behind_kept (Some s) b x rest = refl
behind_kept None true x rest = refl
behind_kept None false x rest = refl

module _ (name : List ℕ) where
  found_item : (here : Scope) (item : UnitItem) (table : Table) (rest : Option Bodied)
      → or_other (found (with_item here item table) name) (option_map stable_in_it rest) ≡ or_other (found table name) (option_map stable_in_it (bodied_by name here item rest))
  found_item here (body_item head body close) table rest =
      ap (λ o. or_other o (option_map stable_in_it rest)) (found_first table head.name.text (stable_of (inside here head true) head body) name)
      ∙ behind_kept (found table name) (bytes_eq name head.name.text) (record { here = inside here head true; head = head; body = body }) rest
  found_item here (structure_item tag alias attrs members span) table rest = refl
  found_item here (alias_item text ctype span) table rest = refl
  found_item here (enumeration_item tag alias values span) table rest = refl
  found_item here (global_item d) table rest = refl
  found_item here (function_item head) table rest = refl

  bodies_found : (here : Scope) (items : List UnitItem) (table : Table)
      → found (bodies_behind here items table) name ≡ or_other (found table name) (option_map stable_in_it (bodied_function name here items))
  unfolding bodies_behind bodied_function
  bodies_found here [] table = sym (or_none (found table name))
  bodies_found here (item ∷ rest) table =
      bodies_found (behind_item here item) rest (with_item here item table) ∙ found_item here item table (bodied_function name (behind_item here item) rest)

  -- a name has a body where one is found
  or_is : (b : Bool) (x : Bodied) (rest : Bool) (other : Option Bodied) → rest ≡ is_some other → (b || rest) ≡ is_some (or_body b x other)
  or_is true x rest other h = refl
  or_is false x rest other h = h

  bodied_is : (here : Scope) (items : List UnitItem) → has_body name items ≡ is_some (bodied_function name here items)
  unfolding bodied_function
  bodied_is here [] = refl
  bodied_is here (body_item head body close ∷ rest) =
      let after = behind_item here (body_item head body close) in
      or_is (bytes_eq name head.name.text) (record { here = inside here head true; head = head; body = body }) (has_body name rest) (bodied_function name after rest) (bodied_is after rest)
  bodied_is here (structure_item tag alias attrs members span ∷ rest) = bodied_is (behind_item here (structure_item tag alias attrs members span)) rest
  bodied_is here (alias_item text ctype span ∷ rest) = bodied_is (behind_item here (alias_item text ctype span)) rest
  bodied_is here (enumeration_item tag alias values span ∷ rest) = bodied_is (behind_item here (enumeration_item tag alias values span)) rest
  bodied_is here (global_item d ∷ rest) = bodied_is (behind_item here (global_item d)) rest
  bodied_is here (function_item head ∷ rest) = bodied_is (behind_item here (function_item head)) rest

  some_kept : (o : Option Bodied) → is_some (option_map stable_in_it o) ≡ is_some o
  some_kept None = refl
  some_kept (Some x) = refl

  stable_kept : (params : ℕ) (o : Option Bodied) → stable_or params (option_map stable_in_it o) ≡ stable_locals params o
  stable_kept params None = refl
  stable_kept params (Some x) = refl

  module _ (table : Table) (items : List UnitItem) (kept : table ≡ bodies_of items) where
    found_in_unit : found table name ≡ option_map stable_in_it (bodied_function name (outset items) items)
    found_in_unit = ap (λ t. found t name) kept ∙ bodies_found (outset items) items []

    pub has_body_is : is_some (found table name) ≡ has_body name items
    has_body_is = ap is_some found_in_unit ∙ some_kept (bodied_function name (outset items) items) ∙ sym (bodied_is (outset items) items)

    pub stable_is : (params : ℕ) → stable_or params (found table name) ≡ stable_locals params (bodied_function name (outset items) items)
    stable_is params = ap (stable_or params) found_in_unit ∙ stable_kept params (bodied_function name (outset items) items)

-- ITEMS ONE BY ONE

module _ (items : List Item) (i : ℕ) (here : Scope) (table : Table) where
  pub items_end : drop i items ≡ [] → bodies_behind here (item_shapes (drop i items)) table ≡ table
  unfolding bodies_behind
  items_end e = ap (λ xs. bodies_behind here (item_shapes xs) table) e

  module _ (x : Item) (at_i : drop i items ≡ x ∷ drop (suc i) items) where
    told : first (items_premises here (item_shapes (drop i items))) ≡ None
        → (first (item_premises here (item_shape x)) ≡ None) × (first (items_premises (behind_item here (item_shape x)) (item_shapes (drop (suc i) items))) ≡ None)
    unfolding items_premises
    told h =
        none_of_both (item_premises here (item_shape x)) (items_premises (behind_item here (item_shape x)) (item_shapes (drop (suc i) items)))
        (subst (λ xs. first (items_premises here (item_shapes xs)) ≡ None) at_i h)

    pub item_told : first (items_premises here (item_shapes (drop i items))) ≡ None → first (item_premises here (item_shape x)) ≡ None
    item_told h = (told h).0

    module _ (there : Scope) (known : there ≡ behind_item here (item_shape x)) where
      plus : suc i ≡ i + 1
      plus = omega arith

      pub told_next : first (items_premises here (item_shapes (drop i items))) ≡ None → first (items_premises there (item_shapes (drop (i + 1) items))) ≡ None
      told_next h =
          ap (λ s. first (items_premises s (item_shapes (drop (i + 1) items)))) known
          ∙ ap (λ j. first (items_premises (behind_item here (item_shape x)) (item_shapes (drop j items)))) (sym plus)
          ∙ (told h).1

      pub bodies_next : (after : Table) → after ≡ with_item here (item_shape x) table
          → bodies_behind there (item_shapes (drop (i + 1) items)) after ≡ bodies_behind here (item_shapes (drop i items)) table
      unfolding bodies_behind
      bodies_next after is =
          ap (λ s. bodies_behind s (item_shapes (drop (i + 1) items)) after) known
          ∙ ap (bodies_behind (behind_item here (item_shape x)) (item_shapes (drop (i + 1) items))) is
          ∙ ap (λ j. bodies_behind (behind_item here (item_shape x)) (item_shapes (drop j items)) (with_item here (item_shape x) table)) (sym plus)
          ∙ sym (ap (λ xs. bodies_behind here (item_shapes xs) table) at_i)

-- FUNCTIONS

module _ (here : Scope) (f : FnTree) where
  abbrev item_with : Option (Bor (List Stmt)) → UnitItem
  item_with b = shape_with f (option_map (λ x. x.now) b)

  -- of a function that is typed, no premise of its head fails
  pub head_told : first (item_premises here (function_shape f)) ≡ None → first (head_premises here (head_shape f) (is_some f.body)) ≡ None
  unfolding body_premises
  head_told h = by f.body h
    where
      by : (b : Option (Bor (List Stmt))) → first (item_premises here (item_with b)) ≡ None → first (head_premises here (head_shape f) (is_some b)) ≡ None
      by None h = h
      by (Some b) h =
          (none_of_both (head_premises here (head_shape f) true)
          (statements_premises (around_body here (head_shape f) (stmt_shapes b.now)) (inside here (head_shape f) true) (stmt_shapes b.now)) h).0

  -- what is kept of it
  pub kept_body : (body : Bor (List Stmt)) → f.body ≡ Some body → (table : Table)
      → with_body (inside here (head_shape f) (is_some f.body)) (head_shape f) (stmt_shapes body.now) table ≡ with_item here (function_shape f) table
  kept_body body is table =
      ap (λ b. with_body (inside here (head_shape f) (is_some b)) (head_shape f) (stmt_shapes body.now) table) is ∙ sym (ap (λ b. with_item here (item_with b) table) is)

  pub none_kept : f.body ≡ None → (table : Table) → table ≡ with_item here (function_shape f) table
  none_kept is table = sym (ap (λ b. with_item here (item_with b) table) is)

-- of other items nothing is kept
pub other_kept : (here : Scope) (x : Item) (table : Table) → ((f : FnTree) → x ≡ Function f → ⊥) → table ≡ with_item here (item_shape x) table
other_kept here (Structure s) table other = refl
other_kept here (Alias a) table other = refl
other_kept here (Enumeration e) table other = refl
other_kept here (Global d) table other = refl
other_kept here (Function f) table other = absurd (other f refl)
