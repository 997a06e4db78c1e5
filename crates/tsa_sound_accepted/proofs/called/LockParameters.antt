-- A lock expression that names a parameter, behind whichever `&` and `*`, leads to where that parameter points.
use Rattle.std.proofs.Common.{◌≡◌, ◌∙◌, ◌⊎◌, inl, inr, ℕ, Bool, true, false, List, [], ◌∷◌, Option, Some, None, is_some, option_map}
use Rattle.std.proofs.Common.{option_and_then, if◌then◌else◌, refl, sym, ap, subst}
use Rattle.std.proofs.lemmas.Slice.Eq.{bytes_eq-Decides}
use Rattle.tsa_tree.specs.declared.expr.UnaryOp.TheVariants as prefix
use Rattle.tsa_tree.specs.declared.kind.Kind.TheVariants as type
use Rattle.tsa_tree.specs.declared.kind.ThingType.{ThingType}
use Rattle.tsa_tree.specs.declared.meaning.Entry.{Entry}
use Rattle.tsa_tree.specs.declared.meaning.Meaning.TheVariants as meant
use Rattle.tsa_tree.specs.expressions.Syntax.{Expression, number, null, named, call, unary, binary, field, index}
use Rattle.tsa_tree.specs.types.Runnable.{bare, is_named}
use Rattle.tsa_tree.specs.types.Scopes.{Scope, found, is_taken, known_in, with_locals, with_name}
use Rattle.tsa_tree.specs.types.Types.{single}
use Rattle.tsa_place_model.specs.LockPaths as path
use Rattle.tsa_place_model.specs.LockPaths.{Led, as_lock, is_address, is_pointer, leads, led, lock_way, name_way, pointed}
use Rattle.tsa_place_model.specs.Ways.{Way, from, onward}
use Rattle.tsa_place_model.specs.declared.path.PathStep.TheVariants.{Follow}
use Rattle.tsa_place_model.specs.declared.path.Root.TheVariants.{Local}
use Rattle.tsa_core.proofs.ScopesAlike.{known_found}
use Rattle.tsa_core.proofs.UnitScopes.{or_other, found_append}
use Rattle.tsa_sound.specs.CallFacts.{first_pointed}
use Rattle.tsa_base.proofs.Truths.{never}

-- a name that is new is known as it was declared last
none_found : {A : Type 0} (o : Option A) → is_some o ≡ false → o ≡ None
none_found None h = refl
none_found (Some x) h = never h

pub known_last : (there : Scope) (name : List ℕ) (e : Entry) (m : ℕ) → there.owned ≡ [] → is_taken name there ≡ false
    → known_in (with_locals m (with_name name e there)) name ≡ Some e
known_last there name e m owned new =
    known_found (with_locals m (with_name name e there)) name owned
    ∙ found_append there.names ((name, e) ∷ []) name
    ∙ ap (λ o. or_other o (found ((name, e) ∷ []) name)) (none_found (found there.names name) new)
    ∙ ap (λ b. if b then Some e else None) ((bytes_eq-Decides name name).1 refl)

module _ (stable : ℕ → Bool) (here : Scope) (name : List ℕ) (thing : ThingType) (struct : ℕ) (to_const : Bool)
    (known : known_in here name ≡ Some (record { meaning = meant.Local 0; thing = thing })) (kind : thing.kind ≡ type.Pointer struct to_const)
    (one : thing.length ≡ None) (stays : stable 0 ≡ true)
  where
    abbrev direct : Led
    direct = record { way = from (Local 0); thing = thing; is_stable = true }

    abbrev behind : Led
    behind = led (onward Follow (from (Local 0))) (single (type.Structure struct) to_const)

    name_is : option_and_then (name_way stable here name) (known_in here name) ≡ Some direct
    name_is = ap (option_and_then (name_way stable here name)) known ∙ ap (λ b. if b then Some direct else None) stays

    pointed_is : pointed direct ≡ Some behind
    pointed_is = rw (one, kind) refl

    data IsLed (o : Option Led) : Type 0 where
      nowhere : o ≡ None → IsLed o
      there : o ≡ Some direct → IsLed o
      onwards : o ≡ Some behind → IsLed o

    name_led : (p : Bool) (text : List ℕ) → name ≡ text → IsLed (path.meant p (option_and_then (name_way stable here text) (known_in here text)))
    name_led false text same = there (subst (λ t. option_and_then (name_way stable here t) (known_in here t) ≡ Some direct) same name_is)
    name_led true text same =
        onwards (subst (λ t. option_and_then pointed (option_and_then (name_way stable here t) (known_in here t)) ≡ Some behind) same
        (ap (option_and_then pointed) name_is ∙ pointed_is))

    bare_led : (p : Bool) (x : Expression) → is_named name (bare x) ≡ true → IsLed (leads stable here p x)
    unfolding leads
    bare_led p (named other span) h = name_led p other.text ((bytes_eq-Decides name other.text).0 h)
    bare_led true (unary prefix.Follow inner span) h = nowhere refl
    bare_led false (unary prefix.Follow inner span) h = bare_led true inner h
    bare_led true (unary prefix.Address inner span) h = bare_led false inner h
    bare_led false (unary prefix.Address inner span) h = nowhere refl
    bare_led p (unary prefix.Minus inner span) h = never (sym h)
    bare_led p (unary prefix.Not inner span) h = never (sym h)
    bare_led p (unary prefix.Flip inner span) h = never (sym h)
    bare_led p (number n u span) h = never (sym h)
    bare_led p (null span) h = never (sym h)
    bare_led p (call callee args span) h = never (sym h)
    bare_led p (binary o left right span) h = never (sym h)
    bare_led p (field base member arrow span) h = never (sym h)
    bare_led p (index base at span) h = never (sym h)

    abbrev way_behind : Option Led → Option Way
    way_behind o = option_map (λ l. l.way) (option_and_then as_lock o)

    locked : as_lock direct ≡ Some behind
    locked = ap (λ k. path.meant (is_pointer k) (Some direct)) kind ∙ pointed_is

    led_way : (o : Option Led) → IsLed o → (way_behind o ≡ None) ⊎ (way_behind o ≡ Some first_pointed)
    led_way o (nowhere e) = inl (ap way_behind e)
    led_way o (there e) = inr (ap way_behind e ∙ ap (option_map (λ l. l.way)) locked)
    led_way o (onwards e) = inr (ap way_behind e)

    pub parameter_way : (x : Expression) → is_named name (bare x) ≡ true → (lock_way stable here x ≡ None) ⊎ (lock_way stable here x ≡ Some first_pointed)
    parameter_way x h = led_way (leads stable here (is_address x) x) (bare_led (is_address x) x h)
