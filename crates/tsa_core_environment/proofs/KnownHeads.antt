-- What is known inside a function, and behind it again.
use Rattle.std.proofs.Common.{◌≡◌, ◌∙◌, slice_get, ℕ, ◌+◌, suc, arith, Bool, false, List, [], ◌∷◌, ◌++◌, drop, take, length, Option, Some}
use Rattle.std.proofs.Common.{None, is_some, option_map, refl, sym, ap, subst}
use Rattle.std.specs.Borrow.{Bor}
use Rattle.std.proofs.Math.Seq.{take-append_seam}
use Rattle.std.proofs.lemmas.List.{append-nil, append_assoc}
use Rattle.tsa_tree.specs.declarations.Syntax.{Head, Parameter}
use Rattle.tsa_tree.specs.declarations.Shapes.{param_shape, param_shapes, head_shape}
use Rattle.tsa_tree.specs.declared.item.FnTree.{FnTree}
use Rattle.tsa_tree.specs.declared.item.Param.{Param}
use Rattle.tsa_tree.specs.declared.kind.Declaring.TheVariants as declaring
use Rattle.tsa_tree.specs.declared.meaning.Entry.{Entry}
use Rattle.tsa_tree.specs.declared.meaning.Meaning.{Meaning}
use Rattle.tsa_tree.specs.declared.meaning.Meaning.TheVariants as meant
use Rattle.tsa_tree.specs.declared.premise.Bearer.TheVariants as on
use Rattle.tsa_tree.specs.declared.stmt.Stmt.{Stmt}
use Rattle.tsa_tree.specs.expressions.Syntax.{Identifier}
use Rattle.tsa_tree.specs.types.Attributes.{attributes_premises}
use Rattle.tsa_tree.specs.types.DeclaredTypes.{declared_premises}
use Rattle.tsa_tree.specs.types.Heads.{is_another, bodied, again, behind_known, behind_head, local_entry, with_param, params_premises}
use Rattle.tsa_tree.specs.types.Heads.{inside_params, inside, head_premises}
use Rattle.tsa_tree.specs.types.Premises.{first}
use Rattle.tsa_tree.specs.types.Scopes.{Scope, FunctionEntry, found, with_names, with_named, with_locals, is_named_taken}
use Rattle.tsa_tree.specs.types.Units.{behind_item}
use Rattle.tsa_tree.specs.units.Shapes.{shape_with, function_shape}
use Rattle.tsa_core.proofs.NoFailure.{none_of_both}
use Rattle.tsa_core.proofs.UnitScopes.{declared_told}
use Rattle.tsa_core_environment.specs.declared.heads.Outside.{Outside}
use Rattle.tsa_core_environment.specs.Functions.{outside_of, IsInside}

-- of a head that is typed, no premise of a parameter fails
pub params_told : (here : Scope) (head : Head) (with_body : Bool) → first (head_premises here head with_body) ≡ None → first (params_premises (behind_head here head with_body) 0 head.params) ≡ None
unfolding head_premises
params_told here head with_body h =
    let own = declared_premises here declaring.Result (is_another here head with_body (found here.names head.name.text)) head.name.span head.result in
    let params = params_premises (behind_head here head with_body) 0 head.params in
    let attrs = attributes_premises (inside here head with_body) on.Function head.attrs in
    (none_of_both params attrs (none_of_both own (params ++ attrs) h).1).0

-- PARAMETERS ONE BY ONE

module _ (params : List Param) (i : ℕ) (here : Scope) (n : ℕ) where
  pub params_end : drop i params ≡ [] → inside_params here n (param_shapes (drop i params)) ≡ here
  unfolding inside_params
  params_end e = ap (λ ps. inside_params here n (param_shapes ps)) e

  module _ (p : Param) (at_i : drop i params ≡ p ∷ drop (suc i) params) (h : first (params_premises here n (param_shapes (drop i params))) ≡ None) where
    abbrev rest : List Parameter
    rest = param_shapes (drop (suc i) params)

    both : (first (declared_premises here declaring.Thing (is_named_taken (param_shape p).name here) p.span (param_shape p).ctype) ≡ None)
        × (first (params_premises (with_param n (param_shape p) here) (suc n) rest) ≡ None)
    unfolding params_premises
    both =
        none_of_both (declared_premises here declaring.Thing (is_named_taken (param_shape p).name here) p.span (param_shape p).ctype)
        (params_premises (with_param n (param_shape p) here) (suc n) rest) (subst (λ ps. first (params_premises here n (param_shapes ps)) ≡ None) at_i h)

    -- the name of the next one is free
    pub param_free : is_named_taken (param_shape p).name here ≡ false
    param_free = (declared_told here declaring.Thing (is_named_taken (param_shape p).name here) p.span (param_shape p).ctype both.0).0

    module _ (there : Scope) (m : ℕ) (known : there ≡ with_param n (param_shape p) here) (count : m ≡ n + 1) where
      plus : suc i ≡ i + 1
      plus = omega arith

      number : suc n ≡ m
      number = omega (arith, count)

      pub told_next : first (params_premises there m (param_shapes (drop (i + 1) params))) ≡ None
      told_next =
          ap (λ s. first (params_premises s m (param_shapes (drop (i + 1) params)))) known
          ∙ ap (λ k. first (params_premises (with_param n (param_shape p) here) k (param_shapes (drop (i + 1) params)))) (sym number)
          ∙ ap (λ j. first (params_premises (with_param n (param_shape p) here) (suc n) (param_shapes (drop j params)))) (sym plus)
          ∙ both.1

      pub inside_next : inside_params there m (param_shapes (drop (i + 1) params)) ≡ inside_params here n (param_shapes (drop i params))
      unfolding inside_params
      inside_next =
          ap (λ s. inside_params s m (param_shapes (drop (i + 1) params))) known
          ∙ ap (λ k. inside_params (with_param n (param_shape p) here) k (param_shapes (drop (i + 1) params))) (sym number)
          ∙ ap (λ j. inside_params (with_param n (param_shape p) here) (suc n) (param_shapes (drop j params))) (sym plus)
          ∙ sym (ap (λ ps. inside_params here n (param_shapes ps)) at_i)

-- FUNCTIONS

-- these names came behind those that were known, and there are so many locals
abbrev as_named : Scope → List (List ℕ × Entry) → ℕ → Scope
as_named here names locals = with_locals locals (with_names names here)

abbrev Named : Scope → Scope → Type 0
Named here there = (names : List (List ℕ × Entry)) × (locals : ℕ) × (there ≡ as_named here (here.names ++ names) locals)

named_then : (here there beyond : Scope) → Named here there → Named there beyond → Named here beyond
named_then here there beyond one two = (
  one.0 ++ two.0,
  two.1,
  two.2 ∙ ap (λ x. as_named x (x.names ++ two.0) two.1) one.2 ∙ ap (λ names. as_named here names two.1) (append_assoc here.names one.0 two.0),
)

same_named : (here : Scope) → Named here here
same_named here = ([], here.locals, ap (λ names. as_named here names here.locals) (sym (append-nil here.names)))

named_by_param : (here : Scope) (n : ℕ) (p : Parameter) → Named here (with_param n p here)
named_by_param here n p = by p.name
  where
    by : (name : Option Identifier) → Named here (with_named name (local_entry here n p.ctype) here)
    by None = same_named here
    by (Some name) = ((name.text, local_entry here n p.ctype) ∷ [], here.locals, refl)

named_by_params : (here : Scope) (n : ℕ) (params : List Parameter) → Named here (inside_params here n params)
unfolding inside_params
named_by_params here n [] = same_named here
named_by_params here n (p ∷ rest) =
    named_then here (with_param n p here) (inside_params (with_param n p here) (suc n) rest) (named_by_param here n p) (named_by_params (with_param n p here) (suc n) rest)

-- a head counts no locals
same_locals : (here : Scope) (head : Head) (with_body : Bool) → (behind_head here head with_body).locals ≡ here.locals
same_locals here head with_body = by_known (found here.names head.name.text)
  where
    by_function : (n : ℕ) (f : Option FunctionEntry) → (bodied here with_body n f).locals ≡ here.locals
    by_function n None = refl
    by_function n (Some f) = refl

    by_meaning : (m : Meaning) → (again here head with_body m).locals ≡ here.locals
    by_meaning (meant.Function n) = by_function n (slice_get here.functions n)
    by_meaning (meant.Global n) = refl
    by_meaning (meant.Local n) = refl
    by_meaning meant.Owned = refl
    by_meaning (meant.Constant z) = refl
    by_meaning meant.TypeName = refl

    by_known : (e : Option Entry) → (behind_known here head with_body e).locals ≡ here.locals
    by_known None = refl
    by_known (Some e) = by_meaning e.meaning

-- what is left of a function is what is known behind its head
pub left_behind : (here : Scope) (head : Head) (with_body : Bool) (there : Scope) (outside : Outside) → outside ≡ outside_of here head with_body → IsInside here head with_body there
    → with_locals outside.locals (with_names (take outside.names there.names) there) ≡ behind_head here head with_body
left_behind here head with_body there outside is same =
    let before = behind_head here head with_body in
    let params = named_by_params before 0 head.params in
    ap (λ o. with_locals o.locals (with_names (take o.names there.names) there)) is
    ∙ ap (λ s. with_locals here.locals (with_names (take (length before.names) s.names) s)) (same ∙ ap (with_locals 0) params.2)
    ∙ ap (λ names. as_named before names here.locals) (take-append_seam before.names params.0)
    ∙ ap (λ n. with_locals n before) (sym (same_locals here head with_body))

-- behind a function with or without a body
pub behind_function : (here : Scope) (f : FnTree) → behind_head here (head_shape f) (is_some f.body) ≡ behind_item here (function_shape f)
behind_function here f = by f.body
  where
    by : (b : Option (Bor (List Stmt))) → behind_head here (head_shape f) (is_some b) ≡ behind_item here (shape_with f (option_map (λ x. x.now) b))
    by None = refl
    by (Some b) = refl
