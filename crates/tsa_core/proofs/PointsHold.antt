-- At each point of a body of a unit that runs the terms have the kinds that are wanted.
use Rattle.std.proofs.Common.{true, ◌≡◌, ◌∙◌, ℕ, List, [], ◌∷◌, All, IfSome, slice_index_or, map, Option, Some, None, option_map, slice_get}
use Rattle.std.proofs.Common.{refl, sym, ap, subst}
use Rattle.std.proofs.lemmas.List.Elements.{All-append, All-cons, All-nil, All-map}
use Rattle.std.proofs.lemmas.Map.Entries.{All-lookup}
use Rattle.std.specs.Str.{bytes_eq}
use Rattle.tsa_tree.specs.declarations.Syntax.{Declaration, DeclaredType}
use Rattle.tsa_tree.specs.declared.kind.Kind.{Kind}
use Rattle.tsa_tree.specs.declared.kind.ThingType.{ThingType}
use Rattle.tsa_tree.specs.declared.meaning.Entry.{Entry}
use Rattle.tsa_tree.specs.declared.meaning.Meaning.TheVariants as meant
use Rattle.tsa_tree.specs.points.Syntax.{Deed, declares, evaluates, assigns, tests, switches, jumps, idles, returns, ends}
use Rattle.tsa_tree.specs.expressions.Sound.{all_words}
use Rattle.tsa_tree.specs.types.DeclaredTypes.{thing_type}
use Rattle.tsa_tree.specs.types.Locals.{local_entry}
use Rattle.tsa_tree.specs.types.Scopes.{Scope, found, further, with_name}
use Rattle.tsa_tree.specs.types.Units.{outset}
use Rattle.tsa_tree.specs.units.Syntax.{UnitItem}
use Rattle.tsa_place_model.specs.Calls.{Layout}
use Rattle.tsa_place_model.specs.Units.{laid_in}
use Rattle.tsa_core.proofs.MappedLists.{map_at}
use Rattle.tsa_core.specs.Bodies.{Known, knows, known_all, known_in_body, point_of}
use Rattle.tsa_core.specs.KindLaws.{PointsHaveTheirKinds, signatures, kinds_of, setting}
use Rattle.tsa_core.specs.Kinds.{Belongs}
use Rattle.tsa_core.specs.PointKinds.{Signatures, PointHolds}
use Rattle.tsa_core.specs.Programs.{program_of, function_in, declared_functions, Bodied, body_in}
use Rattle.tsa_core.proofs.LaidScopes.{is_written_kind, kind_written}
use Rattle.tsa_core.proofs.BodyScopes.{with_no_type, kind_kept, BeginsIn, unit_begins}
use Rattle.tsa_core.proofs.CallsHold.{CallsFit}
use Rattle.tsa_core.proofs.DeedsHold.{IsListedAt, deed_holds}
use Rattle.tsa_core.proofs.FactsKnown.{FactsAt, each_both, all_facts}
use Rattle.tsa_core.proofs.ScopesAlike.{known_found}
use Rattle.tsa_core.proofs.ScopesBelong.{Each, IsListed, HasListedKind, body_listed, body_belongs}
use Rattle.tsa_core.proofs.SignaturesFit.{AreOf, CallBy, NamesCall, SpellableBody, unit_calls, body_spellable}
use Rattle.tsa_core.proofs.TypedTerms.{some_same}

-- the signatures of a program are those of the functions that its unit declares
pub program_signatures : (items : List UnitItem) → AreOf (signatures (program_of items)) (declared_functions (outset items) items)
unfolding program_of
program_signatures items n d is =
    let make = function_in (laid_in items) items in
    let there = map_at make (declared_functions (outset items) items) n ∙ ap (option_map make) is in
    (ap (option_map (λ f. f.result)) there, ap (option_map (λ f. map (λ t. t.kind) f.params)) there)

pub each_all : (P : Known → Type 0) (ks : List Known) → Each P ks → All P ks
each_all P [] h = All-nil P
each_all P (k ∷ ks) h = All-cons P k ks h.0 (each_all P ks h.1)

module _ (sig : Signatures) where
  -- what is kept of calls in a body
  abbrev Calls : Scope → Type 0
  Calls here = (here.owned ≡ []) × (NamesCall sig here × ((t : DeclaredType) → is_written_kind (thing_type here t).kind ≡ true))

  calls_further : (n : ℕ) (here : Scope) → Calls here → Calls (further n here)
  calls_further n here h = h

  calls_local : (here : Scope) (d : Declaration) → Calls here → Calls (with_name d.name.text (local_entry here d) here)
  calls_local here d h =
      let there = with_name d.name.text (local_entry here d) here in (
        h.0,
        (
          All-append (λ x. CallBy sig there x.1.meaning x.1.thing) here.names ((d.name.text, local_entry here d) ∷ []) h.1.0
              (All-cons (λ x. CallBy sig there x.1.meaning x.1.thing) (d.name.text, local_entry here d) [] tt (All-nil (λ x. CallBy sig there x.1.meaning x.1.thing))),
          λ t. ap is_written_kind (kind_kept here there (with_no_type here d.name.text (local_entry here d) (λ span. refl)) t) ∙ h.1.1 t,
        ),
      )

  calls_fit : (here : Scope) → Calls here → CallsFit sig here
  calls_fit here h name e n is means =
      by (found here.names name) (sym (known_found here name h.0) ∙ is) (All-lookup (λ x. CallBy sig here x.meaning x.thing) (bytes_eq name) here.names h.1.0)
    where
      by : (o : Option Entry) → o ≡ Some e → IfSome o (λ x. CallBy sig here x.meaning x.thing) → CallBy sig here (meant.Function n) e.thing
      by None is fits = absurd cc
      by (Some x) is fits = subst (λ m. CallBy sig here m e.thing) means (subst (λ y. CallBy sig here y.meaning y.thing) (some_same is) fits)

  module _ (b : Bodied) (l : Layout) (begun : BeginsIn b l) (sound : SpellableBody b) (calls : NamesCall sig b.here) where
    abbrev result : ThingType
    result = begun.around.result

    abbrev locals : ℕ → Option Kind
    locals = slice_get (kinds_of b)

    facts : All (FactsAt all_words result) (known_in_body b.here b.body)
    facts =
        each_all (FactsAt all_words result) (known_in_body b.here b.body)
        (each_both (FactsAt all_words result) (known_all b.here b.body) (knows b.here ends ∷ [])
        (all_facts all_words result begun.around b.here b.body refl begun.typed begun.runs sound) (tt, tt))

    are_listed : All (HasListedKind (kinds_of b)) (known_in_body b.here b.body)
    are_listed = each_all (HasListedKind (kinds_of b)) (known_in_body b.here b.body) (body_listed b l begun)

    belong : (given : Option Kind) → All (λ k. Belongs k.here (setting l b given) × Calls k.here) (known_in_body b.here b.body)
    belong given = body_belongs b l begun Calls calls_further calls_local given (begun.owned, (calls, kind_written l locals b.here begun.names))

    point_holds : (k : Known) → ((given : Option Kind) → Belongs k.here (setting l b given)) → Calls k.here → HasListedKind (kinds_of b) k → FactsAt all_words result k
        → PointHolds sig l locals result.kind (point_of result.kind k)
    point_holds k belongs calls is facts =
        deed_holds k.here l locals sig all_words belongs (calls_fit k.here calls) result k.deed (listed_at k.deed is) facts
      where
        listed_at : (d : Deed) → IsListed (kinds_of b) k.here d → IsListedAt k.here l locals sig all_words belongs (calls_fit k.here calls) result d
        listed_at (declares d) is = (is, calls.1.1 d.ctype)
        listed_at (evaluates e) is = tt
        listed_at (assigns left o right) is = tt
        listed_at (tests e) is = tt
        listed_at (switches e) is = tt
        listed_at jumps is = tt
        listed_at idles is = tt
        listed_at (returns e) is = tt
        listed_at ends is = tt

    own_points : All (λ k. PointHolds sig l locals result.kind (point_of result.kind k)) (known_in_body b.here b.body)
    own_points n d less =
        point_holds (slice_index_or (known_in_body b.here b.body) n d) (λ given. (belong given n d less).0) (belong None n d less).1 (are_listed n d less) (facts n d less)

    pub body_points : All (PointHolds sig l locals (thing_type b.here b.head.result).kind) (body_in b).points
    body_points =
        let kind = (thing_type b.here b.head.result).kind in
        All-map (PointHolds sig l locals kind) (point_of kind) (known_in_body b.here b.body)
        (subst (λ r. All (λ k. PointHolds sig l locals r (point_of r k)) (known_in_body b.here b.body)) begun.result own_points)

pub points_have_kinds : PointsHaveTheirKinds
points_have_kinds items name b l sound runs placed is =
    body_points (signatures (program_of items)) b l (unit_begins items name b l runs placed is) (body_spellable name b (outset items) items sound is)
    (unit_calls items name b (signatures (program_of items)) (program_signatures items) is)
