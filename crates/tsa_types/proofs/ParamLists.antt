-- Parameters one by one: what is wrong with them, what is known after them, and their names.
use Rattle.std.proofs.Common.{◌≡◌, ◌∙◌, ℕ, ◌+◌, suc, arith, List, [], ◌∷◌, ◌++◌, drop, None, Err, refl, ap}
use Rattle.tsa_tree.specs.declared.item.Param.{Param}
use Rattle.tsa_tree.specs.declared.kind.Declaring.TheVariants as declaring
use Rattle.tsa_tree.specs.declarations.Shapes.{param_shape, param_shapes}
use Rattle.tsa_tree.specs.types.DeclaredTypes.{declared_premises}
use Rattle.tsa_tree.specs.types.Heads.{with_param, params_premises, inside_params}
use Rattle.tsa_tree.specs.types.Premises.{Premise, first}
use Rattle.tsa_tree.specs.types.Scopes.{Scope, is_named_taken}
use Rattle.tsa_types_row.specs.ItemRows.{row_in_param, row_in_params}
use Rattle.tsa_types_row.specs.declared.node.Node.{Node}
use Rattle.tsa_types_expressions.specs.declared.refusal.TypeRefusal.{TypeRefusal}
use Rattle.tsa_types_expressions.specs.Judgements.{Judges}
use Rattle.tsa_types_expressions.proofs.RowLaws.{Notes, noted}
use Rattle.tsa_types_declarations.proofs.Lists.{premises_end, premises_stop, premises_next, behind_end, behind_next, names_end, names_next}

-- what is known, and the number of the next parameter
abbrev Counting : Type 0
Counting = Scope × ℕ

-- what is known behind a parameter, and the number after its own
abbrev further : Counting → Param → Counting
further s p = (with_param s.1 (param_shape p) s.0, suc s.1)

-- the premises of parameters, of one, and what is known behind them
abbrev wrong : Counting → List Param → List Premise
wrong s ps = params_premises s.0 s.1 (param_shapes ps)

abbrev own : Counting → Param → List Premise
own s p = declared_premises s.0 declaring.Thing (is_named_taken (param_shape p).name s.0) p.span (param_shape p).ctype

abbrev behind : Counting → List Param → Scope
behind s ps = inside_params s.0 s.1 (param_shapes ps)

-- each by the rest
wrong_nil : (s : Counting) → wrong s [] ≡ []
unfolding params_premises
wrong_nil s = refl

wrong_more : (s : Counting) (p : Param) (rest : List Param) → wrong s (p ∷ rest) ≡ own s p ++ wrong (further s p) rest
unfolding params_premises
wrong_more s p rest = refl

behind_nil : (s : Counting) → behind s [] ≡ s.0
unfolding inside_params
behind_nil s = refl

behind_more : (s : Counting) (p : Param) (rest : List Param) → behind s (p ∷ rest) ≡ behind (further s p) rest
unfolding inside_params
behind_more s p rest = refl

module _ (function : ℕ) where
  -- the names of parameters, and of one
  abbrev names : Counting → List Param → List Node
  names s ps = row_in_params s.0 function s.1 (param_shapes ps)

  abbrev own_names : Counting → Param → List Node
  own_names s p = row_in_param s.0 function s.1 (param_shape p)

  names_nil : (s : Counting) → names s [] ≡ []
  unfolding row_in_params
  names_nil s = refl

  names_more : (s : Counting) (p : Param) (rest : List Param) → names s (p ∷ rest) ≡ own_names s p ++ names (further s p) rest
  unfolding row_in_params
  names_more s p rest = refl

module _ (params : List Param) (i : ℕ) (here : Scope) (n : ℕ) where
  -- none is left
  pub params_end : drop i params ≡ [] → first (wrong (here, n) (drop i params)) ≡ None
  params_end = premises_end further params i (here, n) wrong own wrong_nil

  pub known_end : drop i params ≡ [] → behind (here, n) (drop i params) ≡ here
  known_end = behind_end further params i (here, n) behind (λ s. s.0) behind_nil

  pub noted_end : (function : ℕ) (notes : Notes) → drop i params ≡ [] → noted notes (names function (here, n) (drop i params)) ≡ notes
  noted_end function notes = names_end further params i (here, n) (names function) (own_names function) notes (names_nil function)

  module _ (p : Param) (at_i : drop i params ≡ p ∷ drop (suc i) params) where
    -- the next one is refused
    pub params_stop : (e : TypeRefusal) → Judges (first (own (here, n) p)) (Err e) → Judges (first (wrong (here, n) (drop i params))) (Err e)
    params_stop = premises_stop further params i (here, n) wrong own wrong_more p at_i

    module _ (there : Scope) (m : ℕ) (known : there ≡ with_param n (param_shape p) here) (count : m ≡ n + 1) where
      -- what is known, and the next number, are those behind it
      moves : ◌≡◌ {A = Counting} (there, m) (further (here, n) p)
      moves = ap (λ s. (s, m)) known ∙ ap (λ k. (with_param n (param_shape p) here, k)) (omega (arith, count))

      -- the next one holds
      pub params_next : first (own (here, n) p) ≡ None → first (wrong (there, m) (drop (i + 1) params)) ≡ first (wrong (here, n) (drop i params))
      params_next none = premises_next further params i (here, n) wrong own wrong_more p at_i (there, m) none moves

      pub known_next : behind (there, m) (drop (i + 1) params) ≡ behind (here, n) (drop i params)
      known_next = behind_next further params i (here, n) behind (λ s. s.0) behind_more p at_i (there, m) moves

      pub noted_next : (function : ℕ) (notes after : Notes) → after ≡ noted notes (row_in_param here function n (param_shape p))
          → noted after (names function (there, m) (drop (i + 1) params)) ≡ noted notes (names function (here, n) (drop i params))
      noted_next function notes after is =
          names_next further params i (here, n) (names function) (own_names function) notes (names_more function) p at_i (there, m) after moves is
