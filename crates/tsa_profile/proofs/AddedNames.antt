-- What data, parameters and locals make known: further names that mean no functions.
use Rattle.std.proofs.Common.{◌≡◌, ◌∙◌, ℕ, ℤ, suc, ◌+ℤ◌, pos, Bool, true, false, List, [], ◌∷◌, length, Option, Some, None, if◌then◌else◌}
use Rattle.std.proofs.Common.{refl, sym, ap}
use Rattle.std.specs.Str.{bytes_eq}
use Rattle.tsa_base.specs.declared.token.Span.{Span}
use Rattle.tsa_tree.specs.attributes.Syntax.{Attribute}
use Rattle.tsa_tree.specs.declarations.Syntax.{Declaration, DeclaredType, EnumConstant, Parameter, Head}
use Rattle.tsa_tree.specs.declared.kind.Kind.TheVariants as type
use Rattle.tsa_tree.specs.declared.meaning.Entry.{Entry}
use Rattle.tsa_tree.specs.declared.meaning.Meaning.TheVariants as meant
use Rattle.tsa_tree.specs.expressions.Syntax.{Identifier}
use Rattle.tsa_tree.specs.types.DeclaredTypes.{thing_type}
use Rattle.tsa_tree.specs.types.Enums.{enumerator_entry, enumerator_value, behind_enumerators}
use Rattle.tsa_tree.specs.types.Globals.{global_entry}
use Rattle.tsa_tree.specs.types.Heads.{behind_head, local_entry, with_param, inside_params, inside}
use Rattle.tsa_tree.specs.types.Locals as locals
use Rattle.tsa_tree.specs.types.Locals.{unless_taken, behind_local}
use Rattle.tsa_tree.specs.types.Scopes.{Scope, found, further, is_taken, with_name, with_named, with_struct, a_type_name}
use Rattle.tsa_tree.specs.types.Structs.{members_behind}
use Rattle.tsa_tree.specs.types.Types.{single}
use Rattle.tsa_tree.specs.types.Units.{behind_item}
use Rattle.tsa_tree.specs.units.Syntax.{structure_item, alias_item, enumeration_item, global_item}
use Rattle.tsa_core.proofs.TypedTerms.{some_same}
use Rattle.tsa_core.proofs.UnitScopes.{or_other, found_append}
use Rattle.tsa_core.proofs.BodiesAgree.{KeepsNames}

-- what means a function there means it here
abbrev pub AddsNoFunction : Scope → Scope → Type 0
AddsNoFunction here there = (name : List ℕ) (e : Entry) (n : ℕ) → found there.names name ≡ Some e → e.meaning ≡ meant.Function n → found here.names name ≡ Some e

pub record AddsData (here there : Scope) : Type 0 where
  pub functions : there.functions ≡ here.functions
  pub kept : KeepsNames here there
  pub only : AddsNoFunction here there

-- an entry that means no function
abbrev pub IsNoFunction : Entry → Type 0
IsNoFunction e = (n : ℕ) → e.meaning ≡ meant.Function n → ⊥

pub kept_name : (here : Scope) (x : List ℕ) (e : Entry) → KeepsNames here (with_name x e here)
kept_name here x e name y is = found_append here.names ((x, e) ∷ []) name ∙ ap (λ o. or_other o (found ((x, e) ∷ []) name)) is

one_of_old : (old : Option Entry) (hit : Bool) (e y : Entry) (n : ℕ) → IsNoFunction e → or_other old (if hit then Some e else None) ≡ Some y → y.meaning ≡ meant.Function n → old ≡ Some y
one_of_old (Some z) hit e y n plain is means = is
one_of_old None true e y n plain is means = absurd (plain n (ap (λ x. x.meaning) (some_same is) ∙ means))
one_of_old None false e y n plain is means = absurd cc

pub adds_name : (here : Scope) (x : List ℕ) (e : Entry) → IsNoFunction e → AddsData here (with_name x e here)
adds_name here x e plain = record {
  functions = refl;
  kept = kept_name here x e;
  only = λ name y n is means. one_of_old (found here.names name) (bytes_eq name x) e y n plain (sym (found_append here.names ((x, e) ∷ []) name) ∙ is) means;
}

pub adds_nothing : (here : Scope) → AddsData here here
adds_nothing here = record { functions = refl; kept = λ name e is. is; only = λ name e n is means. is }

pub adds_both : {a b c : Scope} → AddsData a b → AddsData b c → AddsData a c
adds_both h g = record {
  functions = g.functions ∙ h.functions;
  kept = λ name e is. g.kept name e (h.kept name e is);
  only = λ name e n is means. h.only name e n (g.only name e n is means) means;
}

adds_named : (here : Scope) (name : Option Identifier) (e : Entry) → IsNoFunction e → AddsData here (with_named name e here)
adds_named here None e plain = adds_nothing here
adds_named here (Some name) e plain = adds_name here name.text e plain

adds_enumerators : (here : Scope) (next : ℤ) (values : List EnumConstant) → AddsData here (behind_enumerators here next values)
unfolding behind_enumerators
adds_enumerators here next [] = adds_nothing here
adds_enumerators here next (e ∷ rest) =
    adds_both (adds_name here e.name.text (enumerator_entry (enumerator_value here e next)) (λ n is. cc))
    (adds_enumerators (with_name e.name.text (enumerator_entry (enumerator_value here e next)) here) (enumerator_value here e next +ℤ pos 1) rest)

-- items that declare data
pub adds_structure : (here : Scope) (tag alias : Option Identifier) (attrs : List Attribute) (members : List Declaration) (span : Span) → AddsData here (behind_item here (structure_item tag alias attrs members span))
adds_structure here tag alias attrs members span =
    let there = with_struct (members_behind here [] members) here in
    let first : AddsData here there = record { functions = refl; kept = λ name e is. is; only = λ name e n is means. is } in
    adds_both first (adds_named there alias (a_type_name (single (type.Structure (length here.structs)) false)) (λ n is. cc))

pub adds_alias : (here : Scope) (name : Identifier) (ctype : DeclaredType) (span : Span) → AddsData here (behind_item here (alias_item name ctype span))
adds_alias here name ctype span = adds_name here name.text (a_type_name (thing_type here ctype)) (λ n is. cc)

pub adds_enumeration : (here : Scope) (tag alias : Option Identifier) (values : List EnumConstant) (span : Span) → AddsData here (behind_item here (enumeration_item tag alias values span))
adds_enumeration here tag alias values span =
    adds_both (adds_enumerators here (pos 0) values)
    (adds_named (behind_enumerators here (pos 0) values) alias (a_type_name (single type.Int false)) (λ n is. cc))

pub adds_global : (here : Scope) (d : Declaration) → AddsData here (behind_item here (global_item d))
adds_global here d =
    let last : AddsData (with_name d.name.text (global_entry here d) here) (behind_item here (global_item d)) = record { functions = refl; kept = λ name e is. is; only = λ name e n is means. is } in
    adds_both (adds_name here d.name.text (global_entry here d) (λ n is. cc)) last

-- parameters and locals
adds_params : (here : Scope) (n : ℕ) (params : List Parameter) → AddsData here (inside_params here n params)
unfolding inside_params
adds_params here n [] = adds_nothing here
adds_params here n (p ∷ rest) =
    adds_both (adds_named here p.name (local_entry here n p.ctype) (λ m is. cc)) (adds_params (with_param n p here) (suc n) rest)

pub adds_inside : (here : Scope) (head : Head) (with_body : Bool) → AddsData (behind_head here head with_body) (inside here head with_body)
adds_inside here head with_body =
    let params = adds_params (behind_head here head with_body) 0 head.params in
    record { functions = params.functions; kept = params.kept; only = params.only }

pub adds_local : (here : Scope) (d : Declaration) → AddsData here (behind_local here d)
adds_local here d = by (is_taken d.name.text here)
  where
    by : (taken : Bool) → AddsData here (further 1 (unless_taken taken d.name.text (locals.local_entry here d) here))
    by true = record { functions = refl; kept = λ name e is. is; only = λ name e n is means. is }
    by false =
        let one = adds_name here d.name.text (locals.local_entry here d) (λ n is. cc) in
        record { functions = one.functions; kept = one.kept; only = one.only }
