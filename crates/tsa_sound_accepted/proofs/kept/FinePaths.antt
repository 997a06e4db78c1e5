-- The paths that guard cells, and those of arguments, mention only locals that never change.
use Rattle.std.proofs.Common.{◌≡◌, ℕ, zero, suc, Bool, true, false, if◌then◌else◌, List, [], ◌∷◌, ◌++◌, All, Option, Some, None}
use Rattle.std.proofs.Common.{option_and_then, option_map, slice_get, refl, subst}
use Rattle.std.proofs.lemmas.List.Elements.{All-head, All-tail}
use Rattle.tsa_tree.specs.declared.expr.BinaryOp.TheVariants as op
use Rattle.tsa_tree.specs.declared.expr.UnaryOp.TheVariants as prefix
use Rattle.tsa_tree.specs.declared.kind.Kind.{Kind}
use Rattle.tsa_tree.specs.declared.kind.ThingType.{ThingType}
use Rattle.tsa_tree.specs.declared.meaning.Entry.{Entry}
use Rattle.tsa_tree.specs.declared.meaning.Meaning.{Meaning}
use Rattle.tsa_tree.specs.declared.meaning.Meaning.TheVariants as known
use Rattle.tsa_tree.specs.declared.number.Number.{Number}
use Rattle.tsa_tree.specs.expressions.Syntax.{Expression, Arguments, number, null, named, call, unary, binary, field, index, none, more}
use Rattle.tsa_tree.specs.types.DeclaredTypes.{value_in}
use Rattle.tsa_tree.specs.types.Scopes.{Scope, context_of, known_in}
use Rattle.tsa_tree.specs.types.Expressions.{owner}
use Rattle.tsa_place_model.specs.Arguments.{argument_way, constant_argument, local_argument, or_local, way_of}
use Rattle.tsa_place_model.specs.LockPaths.{Led, in_range, is_pointer, leads}
use Rattle.tsa_tree.specs.types.Lookups.{members_at, numbered, params_in}
use Rattle.tsa_place_model.specs.Ways.{Way, from, onward}
use Rattle.tsa_place_model.specs.declared.path.PathStep.{PathStep}
use Rattle.tsa_place_model.specs.declared.path.PathStep.TheVariants.{Constant, Field, Follow, Variable}
use Rattle.tsa_place_model.specs.declared.path.Root.{Root}
use Rattle.tsa_place_model.specs.declared.path.Root.TheVariants.{Global, Local, Owner}
use Rattle.tsa_place_model.specs.Calls.{Layout, part_guards}
use Rattle.tsa_place_model.specs.Layouts.{Part, structure_at}
use Rattle.tsa_core.specs.Meanings.{meaning, or_call}
use Rattle.tsa_core.specs.Uses.{access_guards, argument_ways, call_ways, called_ways, field_guards, guards_owned, member_guards}
use Rattle.tsa_core.specs.Uses.{name_guards, owned_by}
use Rattle.tsa_path.specs.Substitution.{as_index, as_pointer, before, further, given, in_caller, index_step, pointed_way, step_in, steps_in}
use Rattle.tsa_path.specs.Substitution.{substituted}
use Rattle.tsa_path.proofs.ArgumentPaths.{chosen}
use Rattle.tsa_sound.specs.LaidOut.{AreLocalFree, IsLocalFree, LaidOut}
use Rattle.tsa_sound_accepted.proofs.laid.Mentions.{AreFine, IsFine, IsFineIfAny, IsFineStep, both_fine, leads_fine}

module _ (Fine : ℕ → Type 0) where
  abbrev pub AllFine : List (Option Way) → Type 0
  AllFine [] = Unit {0}
  AllFine (w ∷ rest) = IsFineIfAny Fine w × AllFine rest

  pub all_both : (a b : List (Option Way)) → AllFine a → AllFine b → AllFine (a ++ b)
  all_both [] b h g = g
  all_both (w ∷ a) b h g = (h.0, all_both a b h.1 g)

  -- what mentions no local
  free_steps : (steps : List PathStep) → AreLocalFree steps → AreFine Fine steps
  free_steps [] h = tt
  free_steps (Variable n ∷ rest) h = absurd h.0
  free_steps (Field k ∷ rest) h = (tt, free_steps rest h.1)
  free_steps (Constant k ∷ rest) h = (tt, free_steps rest h.1)
  free_steps (Follow ∷ rest) h = (tt, free_steps rest h.1)

  free_way : (root : Root) (steps : List PathStep) → IsLocalFree (Some (record { root = root; steps = steps })) → IsFine Fine (record { root = root; steps = steps })
  free_way (Local n) steps h = absurd h.0
  free_way (Global n) steps h = (tt, free_steps steps h.1)
  free_way Owner steps h = (tt, free_steps steps h.1)

  free_if_any : (w : Option Way) → IsLocalFree w → IsFineIfAny Fine w
  free_if_any None h = tt
  free_if_any (Some w) h = free_way w.root w.steps h

  free_all : (ways : List (Option Way)) → All IsLocalFree ways → AllFine ways
  free_all [] h = tt
  free_all (w ∷ rest) h = (free_if_any w (All-head IsLocalFree w rest h), free_all rest (All-tail IsLocalFree w rest h))

  -- a path from an object that has a fine one
  owned_root : (o : Option Way) (root : Root) (steps : List PathStep) → IsFineIfAny Fine o → IsFine Fine (record { root = root; steps = steps })
      → IsFineIfAny Fine (owned_by o (record { root = root; steps = steps }))
  owned_root None Owner steps h g = tt
  owned_root (Some o) Owner steps h g = (h.0, both_fine Fine o.steps steps h.1 g.1)
  owned_root o (Global n) steps h g = g
  owned_root o (Local n) steps h g = g

  owned_one : (o w : Option Way) → IsFineIfAny Fine o → IsFineIfAny Fine w → IsFineIfAny Fine (option_and_then (owned_by o) w)
  owned_one o None h g = tt
  owned_one o (Some w) h g = owned_root o w.root w.steps h g

  owned_all : (o : Option Way) (ways : List (Option Way)) → IsFineIfAny Fine o → AllFine ways → AllFine (guards_owned o ways)
  owned_all o [] h g = tt
  owned_all o (w ∷ rest) h g = (owned_one o w h g.0, owned_all o rest h g.1)

  -- ARGUMENTS IN THE PLACE OF PARAMETERS

  abbrev FineStepIfAny : Option PathStep → Type 0
  FineStepIfAny None = Unit {0}
  FineStepIfAny (Some step) = IsFineStep Fine step

  abbrev FineStepsIfAny : Option (List PathStep) → Type 0
  FineStepsIfAny None = Unit {0}
  FineStepsIfAny (Some steps) = AreFine Fine steps

  given_fine : (args : List (Option Way)) (n : ℕ) → AllFine args → IsFineIfAny Fine (given args n)
  given_fine [] zero h = tt
  given_fine [] (suc n) h = tt
  given_fine (w ∷ args) zero h = h.0
  given_fine (w ∷ args) (suc n) h = given_fine args n h.1

  index_fine : (root : Root) (steps : List PathStep) → IsFine Fine (record { root = root; steps = steps }) → FineStepIfAny (index_step root steps)
  index_fine (Local n) [] h = h.0
  index_fine (Local n) (step ∷ rest) h = tt
  index_fine (Global n) steps h = tt
  index_fine Owner [] h = tt
  index_fine Owner (Constant k ∷ []) h = tt
  index_fine Owner (Constant k ∷ (step ∷ rest)) h = tt
  index_fine Owner (Field k ∷ rest) h = tt
  index_fine Owner (Variable n ∷ rest) h = tt
  index_fine Owner (Follow ∷ rest) h = tt

  pointer_fine : (root : Root) (steps : List PathStep) → IsFine Fine (record { root = root; steps = steps }) → IsFineIfAny Fine (pointed_way root steps)
  pointer_fine (Local n) [] h = (h.0, (tt, tt))
  pointer_fine (Local n) (step ∷ rest) h = h
  pointer_fine (Global n) steps h = h
  pointer_fine Owner [] h = h
  pointer_fine Owner (Constant k ∷ []) h = tt
  pointer_fine Owner (Constant k ∷ (step ∷ rest)) h = h
  pointer_fine Owner (Field k ∷ rest) h = h
  pointer_fine Owner (Variable n ∷ rest) h = h
  pointer_fine Owner (Follow ∷ rest) h = h

  as_index_fine : (o : Option Way) → IsFineIfAny Fine o → FineStepIfAny (option_and_then as_index o)
  as_index_fine None h = tt
  as_index_fine (Some w) h = index_fine w.root w.steps h

  as_pointer_fine : (o : Option Way) → IsFineIfAny Fine o → IsFineIfAny Fine (option_and_then as_pointer o)
  as_pointer_fine None h = tt
  as_pointer_fine (Some w) h = pointer_fine w.root w.steps h

  step_fine : (args : List (Option Way)) (step : PathStep) → AllFine args → FineStepIfAny (step_in args step)
  step_fine args (Variable n) h = as_index_fine (given args n) (given_fine args n h)
  step_fine args (Field k) h = tt
  step_fine args (Constant k) h = tt
  step_fine args Follow h = tt

  before_fine : (o : Option PathStep) (p : Option (List PathStep)) → FineStepIfAny o → FineStepsIfAny p → FineStepsIfAny (before o p)
  before_fine None None h g = tt
  before_fine None (Some steps) h g = tt
  before_fine (Some step) None h g = tt
  before_fine (Some step) (Some steps) h g = (h, g)

  steps_fine : (args : List (Option Way)) (steps : List PathStep) → AllFine args → FineStepsIfAny (steps_in args steps)
  steps_fine args [] h = tt
  steps_fine args (step ∷ rest) h = before_fine (step_in args step) (steps_in args rest) (step_fine args step h) (steps_fine args rest h)

  further_fine : (o : Option Way) (p : Option (List PathStep)) → IsFineIfAny Fine o → FineStepsIfAny p → IsFineIfAny Fine (further o p)
  further_fine None None h g = tt
  further_fine None (Some steps) h g = tt
  further_fine (Some w) None h g = tt
  further_fine (Some w) (Some steps) h g = (h.0, both_fine Fine w.steps steps h.1 g)

  caller_fine : (args : List (Option Way)) (root : Root) (steps : List PathStep) → AllFine args → IsFineIfAny Fine (in_caller args root steps)
  caller_fine args (Local n) [] h = tt
  caller_fine args (Local n) (Follow ∷ rest) h =
      further_fine (option_and_then as_pointer (given args n)) (steps_in args rest) (as_pointer_fine (given args n) (given_fine args n h)) (steps_fine args rest h)
  caller_fine args (Local n) (Field k ∷ rest) h = tt
  caller_fine args (Local n) (Constant k ∷ rest) h = tt
  caller_fine args (Local n) (Variable k ∷ rest) h = tt
  caller_fine args (Global n) steps h = further_fine (Some (from (Global n))) (steps_in args steps) (tt, tt) (steps_fine args steps h)
  caller_fine args Owner steps h = further_fine (Some (from Owner)) (steps_in args steps) (tt, tt) (steps_fine args steps h)

  pub substituted_fine : (args : List (Option Way)) (w : Option Way) → AllFine args → IsFineIfAny Fine (option_and_then (substituted args) w)
  substituted_fine args None h = tt
  substituted_fine args (Some w) h = caller_fine args w.root w.steps h

  -- THE GUARDS OF CELLS, AND WHERE ARGUMENTS LEAD

  module _ (stable : ℕ → Bool) (fine : (k : ℕ) → stable k ≡ true → Fine k) where
    led_fine : (here : Scope) (p : Bool) (e : Expression) → IsFineIfAny Fine (way_of stable here p e)
    led_fine here p e = by (leads stable here p e) refl
      where
        by : (o : Option Led) → leads stable here p e ≡ o → IsFineIfAny Fine (option_map (λ l. l.way) o)
        by None f = tt
        by (Some d) f = leads_fine Fine stable here (λ name x k is means s. fine k s) p e d f

    -- a constant, or a local that never changes
    constant_fine : (v : Option Number) (w : Way) → constant_argument v ≡ Some w → IsFine Fine w
    constant_fine v w e = by (in_range 65536 v) refl e
      where
        same : (a b : Way) → Some a ≡ Some b → a ≡ b
        same a b h = cc

        by : (o : Option PathStep) → in_range 65536 v ≡ o → option_map (λ step. onward step (from Owner)) o ≡ Some w → IsFine Fine w
        by None f g = absurd cc
        by (Some step) f g =
            let c = chosen 65536 v step f in
            subst (IsFine Fine) (same (onward step (from Owner)) w g) (tt, (subst (IsFineStep Fine) c.step_is tt, tt))

    local_fine : (m : Meaning) (t : ThingType) → IsFineIfAny Fine (local_argument stable (Some (record { meaning = m; thing = t })))
    local_fine (known.Local n) t = by (stable n) refl
      where
        by : (b : Bool) → stable n ≡ b → IsFineIfAny Fine (if b then Some (from (Local n)) else None)
        by true e = (fine n e, tt)
        by false e = tt
    local_fine (known.Global n) t = tt
    local_fine (known.Function n) t = tt
    local_fine known.Owned t = tt
    local_fine (known.Constant z) t = tt
    local_fine known.TypeName t = tt

    named_fine : (o : Option Entry) → IsFineIfAny Fine (local_argument stable o)
    named_fine None = tt
    named_fine (Some x) = local_fine x.meaning x.thing

    or_local_fine : (here : Scope) (e : Expression) → IsFineIfAny Fine (or_local stable here e None)
    or_local_fine here (named name span) = named_fine (known_in here name.text)
    or_local_fine here (number n u span) = tt
    or_local_fine here (null span) = tt
    or_local_fine here (call callee args span) = tt
    or_local_fine here (unary o inner span) = tt
    or_local_fine here (binary o left right span) = tt
    or_local_fine here (field base name arrow span) = tt
    or_local_fine here (index base at span) = tt

    number_fine : (here : Scope) (e : Expression) (o : Option Way) → ((w : Way) → o ≡ Some w → IsFine Fine w) → IsFineIfAny Fine (or_local stable here e o)
    number_fine here e (Some w) h = h w refl
    number_fine here e None h = or_local_fine here e

    argument_fine : (here : Scope) (kind : Kind) (e : Expression) → IsFineIfAny Fine (argument_way stable here kind e)
    argument_fine here kind e = by (is_pointer kind)
      where
        by : (b : Bool) → IsFineIfAny Fine (if b then way_of stable here true e else or_local stable here e (constant_argument (value_in (context_of here) e)))
        by true = led_fine here true e
        by false = number_fine here e (constant_argument (value_in (context_of here) e)) (constant_fine (value_in (context_of here) e))

    arguments_fine : (here : Scope) (params : List ThingType) (args : Arguments) → AllFine (argument_ways stable here params args)
    arguments_fine here [] none = tt
    arguments_fine here [] (more first rest) = tt
    arguments_fine here (p ∷ params) none = tt
    arguments_fine here (p ∷ params) (more first rest) = (argument_fine here p.kind first, arguments_fine here params rest)

    abbrev pub AllFineIfAny : Option (List (Option Way)) → Type 0
    AllFineIfAny None = Unit {0}
    AllFineIfAny (Some ways) = AllFine ways

    called_meaning : (here : Scope) (args : Arguments) (m : Meaning) (t : ThingType)
        → AllFineIfAny (called_ways stable here args (Some (record { meaning = m; thing = t })))
    called_meaning here args (known.Function n) t = arguments_fine here (params_in here n) args
    called_meaning here args (known.Global n) t = tt
    called_meaning here args (known.Local n) t = tt
    called_meaning here args known.Owned t = tt
    called_meaning here args (known.Constant z) t = tt
    called_meaning here args known.TypeName t = tt

    called_named : (here : Scope) (args : Arguments) (o : Option Entry) → AllFineIfAny (called_ways stable here args o)
    called_named here args None = tt
    called_named here args (Some x) = called_meaning here args x.meaning x.thing

    or_fine : (a b : Option (List (Option Way))) → AllFineIfAny a → AllFineIfAny b → AllFineIfAny (or_call a b)
    or_fine None b h g = g
    or_fine (Some x) b h g = h

    pub call_fine : (here : Scope) (e : Expression) → AllFineIfAny (call_ways stable here e)
    unfolding call_ways
    call_fine here (call callee args span) = called_named here args (known_in here callee.text)
    call_fine here (unary prefix.Not inner span) = call_fine here inner
    call_fine here (binary op.Equal left right span) = or_fine (call_ways stable here left) (call_ways stable here right) (call_fine here left) (call_fine here right)
    call_fine here (binary op.Unequal left right span) = or_fine (call_ways stable here left) (call_ways stable here right) (call_fine here left) (call_fine here right)
    call_fine here (number n u span) = tt
    call_fine here (null span) = tt
    call_fine here (named name span) = tt
    call_fine here (field base name arrow span) = tt
    call_fine here (index base at span) = tt
    call_fine here (unary prefix.Minus inner span) = tt
    call_fine here (unary prefix.Flip inner span) = tt
    call_fine here (unary prefix.Address inner span) = tt
    call_fine here (unary prefix.Follow inner span) = tt
    call_fine here (binary op.Or left right span) = tt
    call_fine here (binary op.And left right span) = tt
    call_fine here (binary op.BitOr left right span) = tt
    call_fine here (binary op.BitXor left right span) = tt
    call_fine here (binary op.BitAnd left right span) = tt
    call_fine here (binary op.Less left right span) = tt
    call_fine here (binary op.More left right span) = tt
    call_fine here (binary op.LessEqual left right span) = tt
    call_fine here (binary op.MoreEqual left right span) = tt
    call_fine here (binary op.Plus left right span) = tt
    call_fine here (binary op.Minus left right span) = tt
    call_fine here (binary op.Times left right span) = tt
    call_fine here (binary op.Divide left right span) = tt
    call_fine here (binary op.Remainder left right span) = tt

    module _ (l : Layout) (laid : LaidOut l) where
      part_fine : (o : Option Part) → ((p : Part) → o ≡ Some p → All IsLocalFree p.guards) → AllFine (part_guards o)
      part_fine None h = tt
      part_fine (Some p) h = free_all p.guards (h p refl)

      member_fine : (o : Option Way) (struct : ℕ) (m : Option (ℕ × ThingType)) → IsFineIfAny Fine o → AllFine (member_guards l o struct m)
      member_fine o struct None h = tt
      member_fine o struct (Some m) h =
          owned_all o (part_guards (slice_get (structure_at l.structs struct).members m.0)) h
          (part_fine (slice_get (structure_at l.structs struct).members m.0) (λ p e. laid.member_free struct m.0 p e))

      meaning_fine : (here : Scope) (name : List ℕ) (m : Meaning) (t : ThingType) → AllFine (name_guards l here name (Some (record { meaning = m; thing = t })))
      meaning_fine here name (known.Global n) t = part_fine (slice_get l.globals n) (λ p e. laid.global_free n p e)
      meaning_fine here name known.Owned t = member_fine (Some (from Owner)) _ (numbered here.owned name 0) (tt, tt)
      meaning_fine here name (known.Local n) t = tt
      meaning_fine here name (known.Function n) t = tt
      meaning_fine here name (known.Constant z) t = tt
      meaning_fine here name known.TypeName t = tt

      name_fine : (here : Scope) (name : List ℕ) (o : Option Entry) → AllFine (name_guards l here name o)
      name_fine here name None = tt
      name_fine here name (Some x) = meaning_fine here name x.meaning x.thing

      field_fine : (here : Scope) (o : Option Way) (name : List ℕ) (struct : Option ℕ) → IsFineIfAny Fine o → AllFine (field_guards l here o name struct)
      field_fine here o name None h = tt
      field_fine here o name (Some struct) h = member_fine o struct (numbered (members_at here struct) name 0) h

      pub access_fine : (here : Scope) (e : Expression) → AllFine (access_guards l stable here e)
      unfolding access_guards
      access_fine here (named name span) = name_fine here name.text (known_in here name.text)
      access_fine here (field base name true span) =
          field_fine here (way_of stable here true base) name.text (owner true (meaning here base).type) (led_fine here true base)
      access_fine here (field base name false span) =
          all_both (access_guards l stable here base) (field_guards l here (way_of stable here false base) name.text (owner false (meaning here base).type)) (access_fine here base)
          (field_fine here (way_of stable here false base) name.text (owner false (meaning here base).type) (led_fine here false base))
      access_fine here (index base at span) = access_fine here base
      access_fine here (number n u span) = tt
      access_fine here (null span) = tt
      access_fine here (call callee args span) = tt
      access_fine here (unary o inner span) = tt
      access_fine here (binary o left right span) = tt
