-- Enumerators one by one: what is wrong with them, what is known after them, and their nodes.
use Rattle.std.proofs.Common.{◌≡◌, ◌∙◌, ℕ, ◌+◌, suc, ℤ, pos, ◌+ℤ◌, List, [], ◌∷◌, ◌++◌, drop, None, Err, refl, ap}
use Rattle.tsa_tree.specs.declared.item.Enumerator.{Enumerator}
use Rattle.tsa_tree.specs.declared.meaning.Symbol.TheVariants as symbol
use Rattle.tsa_tree.specs.declarations.Shapes.{enumerator_shape, enumerator_shapes}
use Rattle.tsa_tree.specs.types.Enums.{enumerator_value, enumerator_entry, enumerator_premises, behind_enumerators}
use Rattle.tsa_tree.specs.types.Premises.{Premise, first}
use Rattle.tsa_tree.specs.types.Scopes.{Scope, with_name}
use Rattle.tsa_types_row.specs.BodyRows.{declared_row, aside_given}
use Rattle.tsa_types_row.specs.ItemRows.{row_in_enumerators}
use Rattle.tsa_types_row.specs.declared.node.Node.{Node}
use Rattle.tsa_types_expressions.specs.declared.refusal.TypeRefusal.{TypeRefusal}
use Rattle.tsa_types_expressions.specs.Judgements.{Judges}
use Rattle.tsa_types_expressions.proofs.RowLaws.{Notes, noted}
use Rattle.tsa_types_declarations.specs.Enumerators.{own_premises}
use Rattle.tsa_types_declarations.proofs.Lists.{premises_end, premises_stop, premises_next, behind_end, behind_next, names_end, names_next}

-- what is known, and the value that comes next
abbrev Counting : Type 0
Counting = Scope × ℤ

-- what is known, and counted on to, behind an enumerator
abbrev counted : Counting → Enumerator → Counting
counted s e =
    let worth = enumerator_value s.0 (enumerator_shape e) s.1 in
    (with_name e.name.text.now (enumerator_entry worth) s.0, worth +ℤ pos 1)

-- the premises of enumerators, of one, and what is known behind them
abbrev wrong : Counting → List Enumerator → List Premise
wrong s xs = enumerator_premises s.0 s.1 (enumerator_shapes xs)

abbrev own : Counting → Enumerator → List Premise
own s e = own_premises s.0 s.1 (enumerator_shape e)

abbrev behind : Counting → List Enumerator → Scope
behind s xs = behind_enumerators s.0 s.1 (enumerator_shapes xs)

-- the nodes of enumerators
abbrev nodes : Counting → List Enumerator → List Node
nodes s xs = row_in_enumerators s.0 s.1 (enumerator_shapes xs)

-- a name that is worth this, and the nodes of its value
abbrev nodes_of : Scope → Enumerator → ℤ → List Node
nodes_of here e z = declared_row (symbol.Constant z) e.name.span ++ aside_given here 0 (enumerator_shape e).value

-- those of one by its own worth
abbrev own_nodes : Counting → Enumerator → List Node
own_nodes s e = nodes_of s.0 e (enumerator_value s.0 (enumerator_shape e) s.1)

-- each by the rest
wrong_nil : (s : Counting) → wrong s [] ≡ []
unfolding enumerator_premises
wrong_nil s = refl

wrong_more : (s : Counting) (e : Enumerator) (rest : List Enumerator) → wrong s (e ∷ rest) ≡ own s e ++ wrong (counted s e) rest
unfolding enumerator_premises own_premises
wrong_more s e rest = refl

behind_nil : (s : Counting) → behind s [] ≡ s.0
unfolding behind_enumerators
behind_nil s = refl

behind_more : (s : Counting) (e : Enumerator) (rest : List Enumerator) → behind s (e ∷ rest) ≡ behind (counted s e) rest
unfolding behind_enumerators
behind_more s e rest = refl

nodes_nil : (s : Counting) → nodes s [] ≡ []
unfolding row_in_enumerators
nodes_nil s = refl

nodes_more : (s : Counting) (e : Enumerator) (rest : List Enumerator) → nodes s (e ∷ rest) ≡ own_nodes s e ++ nodes (counted s e) rest
unfolding row_in_enumerators
nodes_more s e rest = refl

module _ (xs : List Enumerator) (i : ℕ) (here : Scope) (next : ℤ) where
  -- none is left
  pub enums_end : drop i xs ≡ [] → first (wrong (here, next) (drop i xs)) ≡ None
  enums_end = premises_end counted xs i (here, next) wrong own wrong_nil

  pub known_end : drop i xs ≡ [] → behind (here, next) (drop i xs) ≡ here
  known_end = behind_end counted xs i (here, next) behind (λ s. s.0) behind_nil

  pub noted_end : (notes : Notes) → drop i xs ≡ [] → noted notes (nodes (here, next) (drop i xs)) ≡ notes
  noted_end notes = names_end counted xs i (here, next) nodes own_nodes notes nodes_nil

  module _ (e : Enumerator) (at_i : drop i xs ≡ e ∷ drop (suc i) xs) where
    -- the next one is refused
    pub enums_stop : (r : TypeRefusal) → Judges (first (own (here, next) e)) (Err r) → Judges (first (wrong (here, next) (drop i xs))) (Err r)
    enums_stop = premises_stop counted xs i (here, next) wrong own wrong_more e at_i

    -- it is worth z, and is known as that
    module _ (there : Scope) (z w : ℤ) (worth : z ≡ enumerator_value here (enumerator_shape e) next) (known : there ≡ with_name e.name.text.now (enumerator_entry z) here)
        (same : w ≡ z)
      where
        -- what is known and counted on to is that behind it
        moves : ◌≡◌ {A = Counting} (there, w +ℤ pos 1) (counted (here, next) e)
        moves =
            ap (λ x. (x, w +ℤ pos 1)) (known ∙ ap (λ x. with_name e.name.text.now (enumerator_entry x) here) worth)
            ∙ ap (λ x. (with_name e.name.text.now (enumerator_entry (enumerator_value here (enumerator_shape e) next)) here, x +ℤ pos 1)) (same ∙ worth)

        -- the next one holds
        pub enums_next : first (own (here, next) e) ≡ None → first (wrong (there, w +ℤ pos 1) (drop (i + 1) xs)) ≡ first (wrong (here, next) (drop i xs))
        enums_next none = premises_next counted xs i (here, next) wrong own wrong_more e at_i (there, w +ℤ pos 1) none moves

        pub known_next : behind (there, w +ℤ pos 1) (drop (i + 1) xs) ≡ behind (here, next) (drop i xs)
        known_next = behind_next counted xs i (here, next) behind (λ s. s.0) behind_more e at_i (there, w +ℤ pos 1) moves

        pub noted_next : (notes after : Notes) → after ≡ noted notes (nodes_of here e z)
            → noted after (nodes (there, w +ℤ pos 1) (drop (i + 1) xs)) ≡ noted notes (nodes (here, next) (drop i xs))
        noted_next notes after is =
            names_next counted xs i (here, next) nodes own_nodes notes nodes_more e at_i (there, w +ℤ pos 1) after moves (is ∙ ap (λ x. noted notes (nodes_of here e x)) worth)
