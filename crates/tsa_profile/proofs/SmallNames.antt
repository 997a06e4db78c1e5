-- The enumerators that are known behind the items of a unit are in the range of `int`.
use Rattle.std.proofs.Common.{◌≡◌, ℕ, ℤ, pos, ◌+ℤ◌, Bool, true, false, List, [], ◌∷◌, All, IfSome, Option, Some, None, if◌then◌else◌, refl}
use Rattle.std.proofs.Common.{sym, subst}
use Rattle.std.proofs.lemmas.List.Elements.{All-append, All-cons, All-nil}
use Rattle.std.proofs.lemmas.Map.Entries.{All-lookup}
use Rattle.std.specs.Str.{bytes_eq}
use Rattle.tsa_tree.specs.declarations.Syntax.{EnumConstant}
use Rattle.tsa_tree.specs.declared.kind.Kind.TheVariants as type
use Rattle.tsa_tree.specs.declared.kind.ThingType.{ThingType}
use Rattle.tsa_tree.specs.declared.meaning.Entry.{Entry}
use Rattle.tsa_tree.specs.declared.meaning.Meaning.{Meaning}
use Rattle.tsa_tree.specs.declared.meaning.Meaning.TheVariants as meant
use Rattle.tsa_tree.specs.declared.number.Number.{Number}
use Rattle.tsa_tree.specs.declared.number.Number.TheVariants as numeral
use Rattle.tsa_tree.specs.expressions.Syntax.{Identifier, Expression}
use Rattle.tsa_tree.specs.types.Arithmetic.{is_int}
use Rattle.tsa_tree.specs.types.Constants.{enumerator}
use Rattle.tsa_tree.specs.types.DeclaredTypes.{thing_type, value_in}
use Rattle.tsa_tree.specs.types.Enums.{int_value, value_or_zero, enumerator_entry}
use Rattle.tsa_tree.specs.types.Globals.{global_entry}
use Rattle.tsa_tree.specs.types.Scopes.{Scope, Members, found, context_of, known_in, with_name, with_named, with_struct, a_type_name}
use Rattle.tsa_tree.specs.types.Scopes.{is_taken, is_named_taken}
use Rattle.tsa_tree.specs.types.Types.{single}
use Rattle.tsa_tree.specs.units.Syntax.{UnitItem, structure_item, alias_item, enumeration_item, global_item, function_item, body_item}
use Rattle.tsa_place_model.specs.Parts.{members_after, unless, unless_taken, unless_named}
use Rattle.tsa_place_model.specs.Items.{worth_written, worth, enumerators_behind, behind_data}
use Rattle.tsa_core.proofs.ScopesAlike.{known_found}
use Rattle.tsa_profile.proofs.NumbersFit.{IsFit, IsSmall, value_is_fit}

abbrev pub IsSmallMeaning : Meaning → Type 0
IsSmallMeaning (meant.Constant z) = is_int z ≡ true
IsSmallMeaning _ = Unit {0}

abbrev Small : Entry → Type 0
Small e = IsSmallMeaning e.meaning

-- a scope outside of structs that knows such enumerators alone
pub record Plain (here : Scope) : Type 0 where
  pub smalls : All (λ x. Small x.1) here.names
  pub owned : here.owned ≡ []

small_entry : (o : Option Entry) → IfSome o Small → IsSmall (enumerator o)
small_entry None h = tt
small_entry (Some e) h = by e.meaning e.thing h
  where
    by : (m : Meaning) (t : ThingType) → IsSmallMeaning m → IsSmall (enumerator (Some (record { meaning = m; thing = t })))
    by (meant.Global n) t h = tt
    by (meant.Local n) t h = tt
    by (meant.Function n) t h = tt
    by meant.Owned t h = tt
    by (meant.Constant z) t h = h
    by meant.TypeName t h = tt

pub small_known : (here : Scope) → Plain here → (name : List ℕ) → IsSmall (enumerator (known_in here name))
small_known here h name =
    subst (λ o. IsSmall (enumerator o)) (sym (known_found here name h.owned))
    (small_entry (found here.names name) (All-lookup Small (bytes_eq name) here.names h.smalls))

name_plain : (here : Scope) (name : List ℕ) (e : Entry) → Small e → Plain here → Plain (with_name name e here)
name_plain here name e is h = record {
  smalls = All-append (λ x. Small x.1) here.names ((name, e) ∷ []) h.smalls (All-cons (λ x. Small x.1) (name, e) [] is (All-nil (λ x. Small x.1)));
  owned = h.owned;
}

named_plain : (here : Scope) (name : Option Identifier) (e : Entry) → Small e → Plain here → Plain (with_named name e here)
named_plain here None e is h = h
named_plain here (Some name) e is h = name_plain here name.text e is h

unless_plain : (b : Bool) (before after : Scope) → Plain before → Plain after → Plain (unless b before after)
unless_plain true before after h g = h
unless_plain false before after h g = g

pub taken_plain : (here : Scope) (name : List ℕ) (e : Entry) → Small e → Plain here → Plain (unless_taken name e here)
taken_plain here name e is h = unless_plain (is_taken name here) here (with_name name e here) h (name_plain here name e is h)

maybe_plain : (here : Scope) (name : Option Identifier) (e : Entry) → Small e → Plain here → Plain (unless_named name e here)
maybe_plain here name e is h = unless_plain (is_named_taken name here) here (with_named name e here) h (named_plain here name e is h)

-- what an enumerator is worth
small_or_zero : (o : Option ℤ) → IsSmall o → is_int (value_or_zero o) ≡ true
small_or_zero None h = refl
small_or_zero (Some z) h = h

small_if : (b : Bool) (z : ℤ) → is_int z ≡ b → IsSmall (if b then Some z else None)
small_if true z e = e
small_if false z e = tt

small_value : (o : Option Number) → ((n : Number) → o ≡ Some n → IsFit n) → IsSmall (int_value o)
small_value None h = tt
small_value (Some (numeral.Int z)) h = h (numeral.Int z) refl
small_value (Some (numeral.Unsigned n)) h = small_if (is_int (pos n)) (pos n) refl

small_written : (here : Scope) (e : Option Expression) (next : ℤ) → Plain here → IsSmall (worth_written here e next)
small_written here None next h = small_if (is_int next) next refl
small_written here (Some e) next h = small_value (value_in (context_of here) e) (λ n is. value_is_fit (context_of here) (λ name. small_known here h name) e n is)

enumerators_plain : (here : Scope) (next : ℤ) (values : List EnumConstant) → Plain here → Plain (enumerators_behind here next values)
unfolding enumerators_behind
enumerators_plain here next [] h = h
enumerators_plain here next (e ∷ rest) h =
    let z = worth here e next in
    enumerators_plain (unless_taken e.name.text (enumerator_entry z) here) (z +ℤ pos 1) rest
    (taken_plain here e.name.text (enumerator_entry z) (small_or_zero (worth_written here e.value next) (small_written here e.value next h)) h)

struct_plain : (here : Scope) (ms : Members) → Plain here → Plain (with_struct ms here)
struct_plain here ms h = record { smalls = h.smalls; owned = h.owned }

-- behind any item
pub item_plain : (here : Scope) (item : UnitItem) → Plain here → Plain (behind_data here item)
item_plain here (structure_item tag alias attrs members span) h =
    maybe_plain (with_struct (members_after here [] members) here) alias _ tt (struct_plain here (members_after here [] members) h)
item_plain here (alias_item name ctype span) h = taken_plain here name.text (a_type_name (thing_type here ctype)) tt h
item_plain here (enumeration_item tag alias values span) h =
    maybe_plain (enumerators_behind here (pos 0) values) alias (a_type_name (single type.Int false)) tt (enumerators_plain here (pos 0) values h)
item_plain here (global_item d) h =
    let after = taken_plain here d.name.text (global_entry here d) tt h in
    record { smalls = after.smalls; owned = after.owned }
item_plain here (function_item head) h = h
item_plain here (body_item head body close) h = h

pub none_plain : (here : Scope) → here.names ≡ [] → here.owned ≡ [] → Plain here
none_plain here e f = record { smalls = subst (All (λ x. Small x.1)) (sym e) (All-nil (λ x. Small x.1)); owned = f }
