-- What a statement adds to what is known: names, which end with the block round it, and locals, whose numbers go on.
use Rattle.std.proofs.Common.{ℕ, ◌≡◌, ◌∙◌, ◌+◌, suc, Bool, List, [], ◌∷◌, ◌++◌, take, length, Option, Some, None, refl, sym, ap}
use Rattle.std.specs.Prelude.{slice_get}
use Rattle.std.proofs.lemmas.List.{append-nil, append_assoc}
use Rattle.std.proofs.Math.Seq.{take-append_seam}
use Rattle.tsa_tree.specs.declarations.Syntax.{Parameter, Head}
use Rattle.tsa_tree.specs.expressions.Syntax.{Identifier}
use Rattle.tsa_tree.specs.statements.Syntax.{ForInit, Statement, Statements}
use Rattle.tsa_tree.specs.types.Heads.{bodied, again, behind_known, behind_head, with_param, inside_params, inside}
use Rattle.tsa_tree.specs.types.Heads as head
use Rattle.tsa_tree.specs.declared.meaning.Meaning.TheVariants as known
use Rattle.tsa_tree.specs.declared.meaning.Entry.{Entry}
use Rattle.tsa_tree.specs.declared.meaning.Meaning.{Meaning}
use Rattle.tsa_tree.specs.types.Scopes.{Scope, FunctionEntry, found, with_names, with_named, with_locals, further}
use Rattle.tsa_tree.specs.types.Statements.{behind_init, behind, behind_all}
use Rattle.tsa_tree.specs.types.Targets.{declared_by_init, declared_in, declared_in_all}
use Rattle.tsa_tree.proofs.types.Grown.{Grown, Names, closes, grown_by_all, grown_by_init, grown_by_none, grown_by_one, grown_then, scope}

module _ (here there : Scope) (names : ℕ) (count : names ≡ length here.names) where
  abbrev closed : Scope
  closed = with_names (take names there.names) there

  closes_as : (n : ℕ) → Grown here n there → closed ≡ further n here
  closes_as n grown = ap (λ k. with_names (take k there.names) there) count ∙ closes here n there grown

  pub closes_one : (s : Statement) → there ≡ behind here s → closed ≡ further (declared_in s) here
  closes_one s is = closes_as (declared_in s) ((grown_by_one here s).0, is ∙ (grown_by_one here s).1)

  pub closes_all : (items : Statements) → there ≡ behind_all here items → closed ≡ further (declared_in_all items) here
  closes_all items is = closes_as (declared_in_all items) ((grown_by_all here items).0, is ∙ (grown_by_all here items).1)

  pub closes_for : (init : ForInit) (n : ℕ) (inner : Scope) → inner ≡ behind_init here init → there ≡ further n inner
      → closed ≡ further (declared_by_init init + n) here
  closes_for init n inner is further_is =
      let whole = grown_then here (declared_by_init init) n (behind_init here init) (further n (behind_init here init)) (grown_by_init here init)
      (grown_by_none (behind_init here init) n) in
      closes_as (declared_by_init init + n) (whole.0, further_is ∙ ap (further n) is ∙ whole.1)

pub ruleset closing = (closes_one, closes_all, closes_for)

-- FUNCTIONS

-- these names came behind those that were known, and there are so many locals
abbrev pub Named : Scope → Scope → Type 0
Named here there = (names : Names) × (locals : ℕ) × (there ≡ scope here (here.names ++ names) locals)

named_then : (here there beyond : Scope) → Named here there → Named there beyond → Named here beyond
named_then here there beyond one two = (
  one.0 ++ two.0,
  two.1,
  two.2
      ∙ ap (λ x. scope x (x.names ++ two.0) two.1) one.2
      ∙ ap (λ names. scope here names two.1) (append_assoc here.names one.0 two.0),
)

same_named : (here : Scope) → Named here here
same_named here = ([], here.locals, ap (λ names. scope here names here.locals) (sym (append-nil here.names)))

named_by_param : (here : Scope) (n : ℕ) (p : Parameter) → Named here (with_param n p here)
named_by_param here n p = by_name p.name
  where
    by_name : (name : Option Identifier) → Named here (with_named name (head.local_entry here n p.ctype) here)
    by_name None = same_named here
    by_name (Some name) = ((name.text, head.local_entry here n p.ctype) ∷ [], here.locals, refl)

named_by_params : (here : Scope) (n : ℕ) (params : List Parameter) → Named here (inside_params here n params)
unfolding inside_params
named_by_params here n [] = same_named here
named_by_params here n (p ∷ rest) =
    named_then here (with_param n p here) (inside_params (with_param n p here) (suc n) rest) (named_by_param here n p)
    (named_by_params (with_param n p here) (suc n) rest)

pub named_inside : (here : Scope) (head : Head) (with_body : Bool) → Named (behind_head here head with_body) (inside here head with_body)
named_inside here head with_body =
    let params = named_by_params (behind_head here head with_body) 0 head.params in
    (params.0, length head.params, ap (with_locals (length head.params)) params.2)

pub named_behind : (here there : Scope) (items : Statements) → Named here there → Named here (behind_all there items)
named_behind here there items named =
    let grown = grown_by_all there items in
    named_then here there (behind_all there items) named (grown.0, there.locals + declared_in_all items, grown.1)

-- behind a function only its own name is known besides what was
ends : (here there : Scope) → Named here there → with_locals here.locals (with_names (take (length here.names) there.names) there) ≡ here
ends here there named =
    ap (λ x. with_locals here.locals (with_names (take (length here.names) x.names) x)) named.2
    ∙ ap (λ names. scope here names here.locals) (take-append_seam here.names named.0)

same_locals : (here : Scope) (head : Head) (with_body : Bool) → (behind_head here head with_body).locals ≡ here.locals
same_locals here head with_body = by_known (found here.names head.name.text)
  where
    by_function : (n : ℕ) (f : Option FunctionEntry) → (bodied here with_body n f).locals ≡ here.locals
    by_function n None = refl
    by_function n (Some f) = refl

    by_meaning : (m : Meaning) → (again here head with_body m).locals ≡ here.locals
    by_meaning (known.Function n) = by_function n (slice_get here.functions n)
    by_meaning (known.Global n) = refl
    by_meaning (known.Local n) = refl
    by_meaning known.Owned = refl
    by_meaning (known.Constant z) = refl
    by_meaning known.TypeName = refl

    by_known : (e : Option Entry) → (behind_known here head with_body e).locals ≡ here.locals
    by_known None = refl
    by_known (Some e) = by_meaning e.meaning

pub ends_function : (here : Scope) (head : Head) (with_body : Bool) (there : Scope) (names locals : ℕ) → names ≡ length (behind_head here head with_body).names
    → locals ≡ here.locals → Named (behind_head here head with_body) there
    → with_locals locals (with_names (take names there.names) there) ≡ behind_head here head with_body
ends_function here head with_body there names locals count same named =
    ap (λ k. with_locals k (with_names (take names there.names) there)) (same ∙ sym (same_locals here head with_body))
    ∙ ap (λ k. with_locals (behind_head here head with_body).locals (with_names (take k there.names) there)) count
    ∙ ends (behind_head here head with_body) there named
