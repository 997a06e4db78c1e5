-- At each point of a body a function that is known by its name has the result and the parameters of the program's.
use Rattle.std.proofs.Common.{Bool, false, true, ◌≡◌, ◌∙◌, ℕ, List, [], ◌∷◌, All, IfSome, map, Option, Some, None, option_map, slice_get}
use Rattle.std.proofs.Common.{slice_index_or, sym, subst}
use Rattle.std.proofs.lemmas.List.Elements.{All-append, All-cons, All-nil}
use Rattle.std.proofs.lemmas.Map.Entries.{All-lookup}
use Rattle.std.specs.Str.{bytes_eq}
use Rattle.tsa_tree.specs.declarations.Syntax.{Declaration}
use Rattle.tsa_tree.specs.declared.kind.Kind.{Kind}
use Rattle.tsa_tree.specs.declared.meaning.Entry.{Entry}
use Rattle.tsa_tree.specs.declared.meaning.Meaning.TheVariants as meant
use Rattle.tsa_tree.specs.types.Locals.{behind_local, local_entry, unless_taken}
use Rattle.tsa_tree.specs.types.Scopes.{Scope, found, further, is_taken, with_name}
use Rattle.tsa_tree.specs.types.Units.{outset}
use Rattle.tsa_tree.specs.units.Syntax.{UnitItem}
use Rattle.tsa_core.specs.Bodies.{known_in_body}
use Rattle.tsa_core.specs.KindLaws.{signatures}
use Rattle.tsa_core.specs.PointKinds.{Signatures}
use Rattle.tsa_core.specs.Programs.{Bodied, Function, Program, bodied_function, program_of}
use Rattle.tsa_core.proofs.CallsHold.{CallsFit}
use Rattle.tsa_core.proofs.EachScope.{each_point}
use Rattle.tsa_core.proofs.ScopesAlike.{known_found}
use Rattle.tsa_core.proofs.SignaturesFit.{CallBy, NamesCall, unit_calls}
use Rattle.tsa_core.proofs.TypedTerms.{some_same}
use Rattle.tsa_core.proofs.PointsHold.{program_signatures}
use Rattle.tsa_rules.specs.Points.{function_at, or_no_function}

module _ (sig : Signatures) where
  abbrev Calls : Scope → Type 0
  Calls here = (here.owned ≡ []) × NamesCall sig here

  calls_name : (here : Scope) (d : Declaration) → Calls here → Calls (with_name d.name.text (local_entry here d) here)
  calls_name here d h =
      let there = with_name d.name.text (local_entry here d) here in (
        h.0,
        All-append (λ x. CallBy sig there x.1.meaning x.1.thing) here.names ((d.name.text, local_entry here d) ∷ []) h.1
            (All-cons (λ x. CallBy sig there x.1.meaning x.1.thing) (d.name.text, local_entry here d) [] tt (All-nil (λ x. CallBy sig there x.1.meaning x.1.thing))),
      )

  calls_local : (here : Scope) (d : Declaration) → Calls here → Calls (behind_local here d)
  calls_local here d h = by (is_taken d.name.text here)
    where
      by : (b : Bool) → Calls (further 1 (unless_taken b d.name.text (local_entry here d) here))
      by true = h
      by false = calls_name here d h

  calls_fit : (here : Scope) → Calls here → CallsFit sig here
  calls_fit here h name e n is means =
      by (found here.names name) (sym (known_found here name h.0) ∙ is) (All-lookup (λ x. CallBy sig here x.meaning x.thing) (bytes_eq name) here.names h.1)
    where
      by : (o : Option Entry) → o ≡ Some e → IfSome o (λ x. CallBy sig here x.meaning x.thing) → CallBy sig here (meant.Function n) e.thing
      by None is fits = absurd cc
      by (Some x) is fits = subst (λ m. CallBy sig here m e.thing) means (subst (λ y. CallBy sig here y.meaning y.thing) (some_same is) fits)

  body_fits : (b : Bodied) → b.here.owned ≡ [] → NamesCall sig b.here → All (λ k. CallsFit sig k.here) (known_in_body b.here b.body)
  body_fits b owned calls n k less = calls_fit (slice_index_or (known_in_body b.here b.body) n k).here
      (each_point Calls (λ here m h. h) calls_local b.here b.body (owned, calls) n k less)

pub points_fit : (items : List UnitItem) (name : List ℕ) (b : Bodied) → bodied_function name (outset items) items ≡ Some b → b.here.owned ≡ []
    → All (λ k. CallsFit (signatures (program_of items)) k.here) (known_in_body b.here b.body)
points_fit items name b is owned =
    body_fits (signatures (program_of items)) b owned (unit_calls items name b (signatures (program_of items)) (program_signatures items) is)

-- what a signature says is what the function of the number has
module _ (u : Program) (n : ℕ) where
  kind_same : (a b : Kind) → Some a ≡ Some b → a ≡ b
  kind_same a b e = cc

  kinds_same : (a b : List Kind) → Some a ≡ Some b → a ≡ b
  kinds_same a b e = cc

  pub result_is : (kind : Kind) → (signatures u).result n ≡ Some kind → (function_at u n).result ≡ kind
  result_is kind e = by (slice_get u.functions n) e
    where
      by : (o : Option Function) → option_map (λ f. f.result) o ≡ Some kind → (or_no_function o).result ≡ kind
      by None f = absurd cc
      by (Some x) f = kind_same x.result kind f

  pub params_are : (kinds : List Kind) → (signatures u).params n ≡ Some kinds → map (λ t. t.kind) (function_at u n).params ≡ kinds
  params_are kinds e = by (slice_get u.functions n) e
    where
      by : (o : Option Function) → option_map (λ f. map (λ t. t.kind) f.params) o ≡ Some kinds → map (λ t. t.kind) (or_no_function o).params ≡ kinds
      by None f = absurd cc
      by (Some x) f = kinds_same (map (λ t. t.kind) x.params) kinds f
