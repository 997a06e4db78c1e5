-- The paths of arguments mention only locals that are known where the call stands.
use Rattle.std.proofs.Common.{◌≡◌, ◌∙◌, ℕ, ◌<◌, Bool, true, false, if◌then◌else◌, List, [], ◌∷◌, All, IfSome, Option, Some, None}
use Rattle.std.proofs.Common.{option_and_then, option_map, refl, ap, subst}
use Rattle.std.proofs.lemmas.List.Elements.{All-cons, All-nil}
use Rattle.std.proofs.lemmas.Map.Entries.{All-lookup}
use Rattle.std.specs.Str.{bytes_eq}
use Rattle.tsa_tree.specs.declared.kind.Kind.{Kind}
use Rattle.tsa_tree.specs.declared.kind.ThingType.{ThingType}
use Rattle.tsa_tree.specs.declared.meaning.Entry.{Entry}
use Rattle.tsa_tree.specs.declared.meaning.Meaning.{Meaning}
use Rattle.tsa_tree.specs.declared.meaning.Meaning.TheVariants as known
use Rattle.tsa_tree.specs.declared.number.Number.{Number}
use Rattle.tsa_tree.specs.expressions.Syntax.{Expression, Arguments, number, null, named, call, unary, binary, field, index, none, more}
use Rattle.tsa_tree.specs.types.DeclaredTypes.{value_in}
use Rattle.tsa_tree.specs.types.Scopes.{Scope, context_of, found, known_in}
use Rattle.tsa_place_model.specs.Arguments.{argument_way, constant_argument, local_argument, or_local, way_of}
use Rattle.tsa_place_model.specs.LockPaths.{Led, in_range, is_pointer, leads}
use Rattle.tsa_place_model.specs.Ways.{Way, from, onward}
use Rattle.tsa_place_model.specs.declared.path.PathStep.{PathStep}
use Rattle.tsa_place_model.specs.declared.path.Root.TheVariants.{Local, Owner}
use Rattle.tsa_core.specs.Laws.{IsBelow}
use Rattle.tsa_core.specs.Programs.{Attr}
use Rattle.tsa_core.specs.Uses.{argument_ways}
use Rattle.tsa_core.proofs.KnownLocals.{NamesBelow}
use Rattle.tsa_path.specs.Substitution.{substituted}
use Rattle.tsa_path.proofs.ArgumentPaths.{chosen}
use Rattle.tsa_rules.specs.Attributes.{all_as_called, as_called}
use Rattle.tsa_sound.specs.CallFacts.{IsUnmentioned}
use Rattle.tsa_sound_accepted.proofs.laid.Mentions.{IsFine, IsFineIfAny, IsFineStep, leads_fine}
use Rattle.tsa_sound_accepted.proofs.kept.FinePaths.{AllFine, substituted_fine}
use Rattle.tsa_sound_accepted.proofs.kept.StablePaths.{unmentioned}

module _ (Fine : ℕ → Type 0) (stable : ℕ → Bool) (here : Scope)
    (fine : (name : List ℕ) (e : Entry) (k : ℕ) → known_in here name ≡ Some e → e.meaning ≡ known.Local k → stable k ≡ true → Fine k)
  where
    led_fine : (p : Bool) (e : Expression) → IsFineIfAny Fine (way_of stable here p e)
    led_fine p e = by (leads stable here p e) refl
      where
        by : (o : Option Led) → leads stable here p e ≡ o → IsFineIfAny Fine (option_map (λ l. l.way) o)
        by None f = tt
        by (Some d) f = leads_fine Fine stable here fine p e d f

    -- a constant, or a local that never changes
    constant_fine : (v : Option Number) (w : Way) → constant_argument v ≡ Some w → IsFine Fine w
    constant_fine v w e = by (in_range 65536 v) refl e
      where
        same : (a b : Way) → Some a ≡ Some b → a ≡ b
        same a b h = cc

        by : (o : Option PathStep) → in_range 65536 v ≡ o → option_map (λ step. onward step (from Owner)) o ≡ Some w → IsFine Fine w
        by None f g = absurd cc
        by (Some step) f g =
            let c = chosen 65536 v step f in
            subst (IsFine Fine) (same (onward step (from Owner)) w g) (tt, (subst (IsFineStep Fine) c.step_is tt, tt))

    local_fine : (name : List ℕ) (m : Meaning) (t : ThingType) → known_in here name ≡ Some (record { meaning = m; thing = t })
        → IsFineIfAny Fine (local_argument stable (Some (record { meaning = m; thing = t })))
    local_fine name (known.Local n) t is = by (stable n) refl
      where
        by : (b : Bool) → stable n ≡ b → IsFineIfAny Fine (if b then Some (from (Local n)) else None)
        by true e = (fine name (record { meaning = known.Local n; thing = t }) n is refl e, tt)
        by false e = tt
    local_fine name (known.Global n) t is = tt
    local_fine name (known.Function n) t is = tt
    local_fine name known.Owned t is = tt
    local_fine name (known.Constant z) t is = tt
    local_fine name known.TypeName t is = tt

    named_fine : (name : List ℕ) (o : Option Entry) → known_in here name ≡ o → IsFineIfAny Fine (local_argument stable o)
    named_fine name None is = tt
    named_fine name (Some x) is = local_fine name x.meaning x.thing is

    or_local_fine : (e : Expression) → IsFineIfAny Fine (or_local stable here e None)
    or_local_fine (named name span) = named_fine name.text (known_in here name.text) refl
    or_local_fine (number n u span) = tt
    or_local_fine (null span) = tt
    or_local_fine (call callee args span) = tt
    or_local_fine (unary o inner span) = tt
    or_local_fine (binary o left right span) = tt
    or_local_fine (field base name arrow span) = tt
    or_local_fine (index base at span) = tt

    number_fine : (e : Expression) (o : Option Way) → ((w : Way) → o ≡ Some w → IsFine Fine w) → IsFineIfAny Fine (or_local stable here e o)
    number_fine e (Some w) h = h w refl
    number_fine e None h = or_local_fine e

    argument_fine : (kind : Kind) (e : Expression) → IsFineIfAny Fine (argument_way stable here kind e)
    argument_fine kind e = by (is_pointer kind)
      where
        by : (b : Bool) → IsFineIfAny Fine (if b then way_of stable here true e else or_local stable here e (constant_argument (value_in (context_of here) e)))
        by true = led_fine true e
        by false = number_fine e (constant_argument (value_in (context_of here) e)) (constant_fine (value_in (context_of here) e))

    pub arguments_fine : (params : List ThingType) (args : Arguments) → AllFine Fine (argument_ways stable here params args)
    arguments_fine [] none = tt
    arguments_fine [] (more first rest) = tt
    arguments_fine (p ∷ params) none = tt
    arguments_fine (p ∷ params) (more first rest) = (argument_fine p.kind first, arguments_fine params rest)

-- so that the attributes of the call mention no other
module _ (Fine : ℕ → Type 0) (n : ℕ) (no_fine : Fine n → ⊥) where
  path_unmentioned : (w : Option Way) → IsFineIfAny Fine w → IsUnmentioned n w
  path_unmentioned None h = tt
  path_unmentioned (Some c) h = unmentioned Fine n c no_fine h

  pub called_unmentioned : (args : List (Option Way)) (attrs : List Attr) → AllFine Fine args → All (λ a. IsUnmentioned n a.path) (all_as_called args attrs)
  called_unmentioned args [] h = All-nil (λ a. IsUnmentioned n a.path)
  called_unmentioned args (a ∷ attrs) h =
      All-cons (λ x. IsUnmentioned n x.path) (as_called args a) (all_as_called args attrs)
      (path_unmentioned (option_and_then (substituted args) a.path) (substituted_fine Fine args a.path h))
      (called_unmentioned args attrs h)

-- A local that is known by a name is among those that are declared.
module _ (bound : ℕ) (here : Scope) (below : NamesBelow bound here.names) (name : List ℕ) (e : Entry) (k : ℕ) (means : e.meaning ≡ known.Local k) where
  found_below : (o : Option Entry) → IfSome o (λ x. IsBelow bound x.meaning) → o ≡ Some e → k < bound
  found_below None h f = absurd cc
  found_below (Some x) h f = let same : x ≡ e = cc in subst (IsBelow bound) (ap (λ y. y.meaning) same ∙ means) h

  no_member : (t : ThingType) → Some (record { meaning = known.Owned; thing = t }) ≡ Some e → k < bound
  no_member t f =
      let same : record { meaning = known.Owned; thing = t } ≡ e = cc in
      let both : known.Owned ≡ known.Local k = ap (λ y. y.meaning) same ∙ means in
      absurd cc

  by_owned : (o : Option ThingType) → found here.owned name ≡ o → known_in here name ≡ Some e → k < bound
  by_owned (Some t) own is = no_member t (rw own at is)
  by_owned None own is =
      let there : found here.names name ≡ Some e = rw own at is in
      found_below (found here.names name) (All-lookup (λ x. IsBelow bound x.meaning) (bytes_eq name) here.names below) there

  pub known_below : known_in here name ≡ Some e → k < bound
  known_below is = by_owned (found here.owned name) refl is
