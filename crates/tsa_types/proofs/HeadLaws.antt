-- A head: its own premises, its parameters, and its attributes; what is known inside it, and its names.
use Rattle.std.proofs.Common.{◌≡◌, ◌∙◌, ℕ, Bool, List, ◌++◌, length, None, Err, sym, ap, subst}
use Rattle.tsa_tree.specs.declared.kind.Declaring.TheVariants as declaring
use Rattle.tsa_tree.specs.declared.meaning.Symbol.TheVariants as symbol
use Rattle.tsa_tree.specs.declared.premise.Bearer.TheVariants as bearer
use Rattle.tsa_tree.specs.declarations.Syntax.{Head}
use Rattle.tsa_tree.specs.types.Attributes.{attributes_premises}
use Rattle.tsa_tree.specs.types.DeclaredTypes.{declared_premises}
use Rattle.tsa_tree.specs.types.Heads.{is_another, behind_head, params_premises, inside_params, inside, head_premises}
use Rattle.tsa_tree.specs.types.Premises.{Premise, or_else, first}
use Rattle.tsa_tree.specs.types.Scopes.{Scope, found, with_locals}
use Rattle.tsa_types_row.specs.BodyRows.{aside_attributes, declared_row}
use Rattle.tsa_types_row.specs.ItemRows.{row_in_params, row_in_head}
use Rattle.tsa_types_expressions.specs.declared.refusal.TypeRefusal.{TypeRefusal}
use Rattle.tsa_types_expressions.specs.Judgements.{Judges}
use Rattle.tsa_types_expressions.proofs.Steps.{first_append}
use Rattle.tsa_types_expressions.proofs.RowLaws.{Notes, noted, noted_append}
use Rattle.tsa_types_expressions.proofs.Sequences.{judged_some}
use Rattle.tsa_types_declarations.proofs.Judging.{judged_rest}

module _ (here : Scope) (head : Head) (with_body : Bool) where
  -- the parts of its premises
  abbrev own : List Premise
  own = declared_premises here declaring.Result (is_another here head with_body (found here.names head.name.text)) head.name.span head.result

  abbrev its_params : List Premise
  its_params = params_premises (behind_head here head with_body) 0 head.params

  abbrev its_attributes : List Premise
  its_attributes = attributes_premises (inside here head with_body) bearer.Function head.attrs

  -- its name and its result are judged first
  pub head_stops : (e : TypeRefusal) → Judges (first own) (Err e) → Judges (first (head_premises here head with_body)) (Err e)
  unfolding head_premises
  head_stops e h = judged_some own (its_params ++ its_attributes) e h

  -- the function is known in its parameters
  module _ (none : first own ≡ None) (there : Scope) (known : there ≡ behind_head here head with_body) where
    -- then its parameters
    pub params_stop : (e : TypeRefusal) → Judges (first (params_premises there 0 head.params)) (Err e) → Judges (first (head_premises here head with_body)) (Err e)
    unfolding head_premises
    params_stop e h =
        judged_rest own (its_params ++ its_attributes) (Err e) none
        (judged_some its_params its_attributes e (subst (λ s. Judges (first (params_premises s 0 head.params)) (Err e)) known h))

    -- and they in its attributes
    module _ (after inner : Scope) (count : ℕ) (params : after ≡ inside_params there 0 head.params) (n : count ≡ length head.params) (set : inner ≡ with_locals count after) where
      -- what is known in its attributes
      pub head_inside : inner ≡ inside here head with_body
      head_inside =
          set ∙ ap (with_locals count) (params ∙ ap (λ s. inside_params s 0 head.params) known)
          ∙ ap (λ k. with_locals k (inside_params (behind_head here head with_body) 0 head.params)) n

      -- which are judged last
      pub head_is : first (params_premises there 0 head.params) ≡ None → first (attributes_premises inner bearer.Function head.attrs) ≡ first (head_premises here head with_body)
      unfolding head_premises
      head_is h =
          ap (λ s. first (attributes_premises s bearer.Function head.attrs)) head_inside
          ∙ sym (first_append own (its_params ++ its_attributes) ∙ ap (λ x. or_else x (first (its_params ++ its_attributes))) none ∙ first_append its_params its_attributes
          ∙ ap (λ x. or_else x (first its_attributes)) (sym (ap (λ s. first (params_premises s 0 head.params)) known) ∙ h))

      -- its name, those of its parameters, and those of its attributes
      pub head_names : (function : ℕ) (notes named listed all : Notes) → named ≡ noted notes (declared_row (symbol.Function function) head.name.span)
          → listed ≡ noted named (row_in_params there function 0 head.params) → all ≡ noted listed (aside_attributes inner function head.attrs)
          → all ≡ noted notes (row_in_head here function head with_body)
      unfolding row_in_head
      head_names function notes named listed all own_name of_params of_attributes =
          let ps = row_in_params (behind_head here head with_body) function 0 head.params in
          let attrs = aside_attributes (inside here head with_body) function head.attrs in
          of_attributes ∙ ap (λ s. noted listed (aside_attributes s function head.attrs)) head_inside
          ∙ ap (λ m. noted m attrs) (of_params ∙ ap (λ s. noted named (row_in_params s function 0 head.params)) known)
          ∙ sym (noted_append named ps attrs)
          ∙ ap (λ m. noted m (ps ++ attrs)) own_name
          ∙ sym (noted_append notes (declared_row (symbol.Function function) head.name.span) (ps ++ attrs))
