-- What is wrong with a declared name and with its type, by what was found of them.
use Rattle.std.proofs.Common.{◌≡◌, ◌∙◌, Bool, true, false, not, Option, None, refl, sym, ap}
use Rattle.tsa_base.specs.declared.token.Span.{Span}
use Rattle.tsa_tree.specs.declarations.Syntax.{DeclaredType}
use Rattle.tsa_tree.specs.declared.kind.Declaring.{Declaring}
use Rattle.tsa_tree.specs.declared.meaning.Entry.{Entry}
use Rattle.tsa_tree.specs.expressions.Syntax.{Identifier}
use Rattle.tsa_tree.specs.types.DeclaredTypes.{resolve, is_refused, length_premises, typed_premises, declared_premises}
use Rattle.tsa_tree.specs.types.Premises.{or_else, first}
use Rattle.tsa_tree.specs.types.Scopes.{Scope, context_of, with_named, is_named_taken}
use Rattle.tsa_types_expressions.specs.Lengths.{name_premises}
use Rattle.tsa_types_expressions.proofs.Steps.{first_append}
use Rattle.tsa_types_declarations.proofs.Judging.{first_holds}

module _ (here : Scope) (what : Declaring) (taken : Bool) (span : Span) (t : DeclaredType) where
  -- a name and its type but for a length, by what the type was found to be
  pub typed_is : first (typed_premises here what taken span t) ≡ first (name_premises taken (is_refused here what (resolve here t)) span (resolve here t))
  unfolding name_premises typed_premises
  typed_is = refl

  -- the same with the length
  pub declared_is : first (declared_premises here what taken span t)
      ≡ or_else (first (name_premises taken (is_refused here what (resolve here t)) span (resolve here t))) (first (length_premises (context_of here) t.length))
  unfolding declared_premises name_premises typed_premises
  declared_is = first_append (typed_premises here what taken span t) (length_premises (context_of here) t.length)

-- a name whose premises are kept wasn't taken
pub typed_untaken : (here : Scope) (what : Declaring) (taken : Bool) (span : Span) (t : DeclaredType)
    → first (typed_premises here what taken span t) ≡ None → taken ≡ false
unfolding typed_premises first
typed_untaken here what true span t h = cc
typed_untaken here what false span t h = refl

-- the same where the length is judged too
pub declared_untaken : (here : Scope) (what : Declaring) (taken : Bool) (span : Span) (t : DeclaredType)
    → first (declared_premises here what taken span t) ≡ None → taken ≡ false
unfolding declared_premises
declared_untaken here what taken span t h =
    typed_untaken here what taken span t
    (first_holds (first (typed_premises here what taken span t)) (first (length_premises (context_of here) t.length))
    (sym (first_append (typed_premises here what taken span t) (length_premises (context_of here) t.length)) ∙ h))

pub ruleset declared = (typed_is, declared_is)

-- a name is taken where it isn't free
pub not_free : (free taken : Bool) → free ≡ not taken → not free ≡ taken
not_free free true h = ap not h
not_free free false h = ap not h

-- what wasn't taken is declared
pub is_fresh : (fresh asked taken : Bool) → fresh ≡ not taken → asked ≡ taken → asked ≡ false → fresh ≡ true
is_fresh fresh asked taken f a n = f ∙ ap not (sym a ∙ n)

-- a name that may be left out is known where it wasn't taken
pub named_known : (there known new : Scope) (alias : Option Identifier) (given wanted : Entry) (fresh : Bool) → there ≡ known → is_named_taken alias known ≡ false
    → fresh ≡ not (is_named_taken alias there) → (fresh ≡ true → new ≡ with_named alias given there) → given ≡ wanted → new ≡ with_named alias wanted known
named_known there known new alias given wanted fresh is free f added same =
    added (is_fresh fresh (is_named_taken alias there) (is_named_taken alias there) f refl (ap (is_named_taken alias) is ∙ free))
    ∙ ap (λ e. with_named alias e there) same ∙ ap (with_named alias wanted) is
