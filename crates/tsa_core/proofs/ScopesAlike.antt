-- What is known of a unit without its functions: constants, and so types, are the same as with them.
use Rattle.std.proofs.Common.{◌≡◌, ◌∙◌, ℕ, Bool, true, false, List, [], Option, Some, None, refl, sym, ap, ap₂}
use Rattle.tsa_base.specs.declared.token.Span.{Span}
use Rattle.tsa_base.proofs.Truths.{never}
use Rattle.tsa_tree.specs.declarations.Syntax as declared
use Rattle.tsa_tree.specs.declarations.Syntax.{Base, DeclaredType}
use Rattle.tsa_tree.specs.declared.kind.ThingType.{ThingType}
use Rattle.tsa_tree.specs.declared.meaning.Entry.{Entry}
use Rattle.tsa_tree.specs.declared.meaning.Meaning.{Meaning}
use Rattle.tsa_tree.specs.declared.meaning.Meaning.TheVariants as meant
use Rattle.tsa_tree.specs.expressions.Syntax.{Expression}
use Rattle.tsa_tree.specs.types.Constants.{enumerator, is_known_enumerator, constant_of}
use Rattle.tsa_tree.specs.types.DeclaredTypes.{of_struct, of_enum, of_alias, base_of, qualified, declared_as, resolve, value_in, length_of}
use Rattle.tsa_tree.specs.types.DeclaredTypes.{with_length, thing_type}
use Rattle.tsa_tree.specs.types.Expressions.{is_function}
use Rattle.tsa_tree.specs.types.Scopes.{Scope, found, context_of, known_in}
use Rattle.tsa_core.proofs.SameConstants.{SameConstants, same_constant, same_value}

abbrev pub unless_so : Bool → Entry → Option Entry
unless_so true e = None
unless_so false e = Some e

-- nothing for a function
abbrev pub no_function : Option Entry → Option Entry
no_function None = None
no_function (Some e) = unless_so (is_function e) e

pub record Alike (here there : Scope) : Type 0 where
  pub tags : there.tags ≡ here.tags
  pub structs : there.structs ≡ here.structs
  pub owned : here.owned ≡ []
  pub no_owned : there.owned ≡ []
  pub globals : there.globals ≡ here.globals
  pub names : (name : List ℕ) → found there.names name ≡ no_function (found here.names name)

-- without members of their own names, names are those of the scope
pub known_found : (here : Scope) (name : List ℕ) → here.owned ≡ [] → known_in here name ≡ found here.names name
known_found here name e = rw e refl

pub enumerator_kept : (o : Option Entry) → enumerator (no_function o) ≡ enumerator o
enumerator_kept None = refl
enumerator_kept (Some e) = by e.meaning e.thing
  where
    by : (m : Meaning) (t : ThingType) → enumerator (no_function (Some (record { meaning = m; thing = t }))) ≡ enumerator (Some (record { meaning = m; thing = t }))
    by (meant.Global n) t = refl
    by (meant.Local n) t = refl
    by (meant.Function n) t = refl
    by meant.Owned t = refl
    by (meant.Constant z) t = refl
    by meant.TypeName t = refl

constant_kept : (o : Option Entry) → is_known_enumerator (enumerator o) ≡ true → no_function o ≡ o
constant_kept None e = refl
constant_kept (Some e) h = by e.meaning e.thing h
  where
    by : (m : Meaning) (t : ThingType) → is_known_enumerator (enumerator (Some (record { meaning = m; thing = t }))) ≡ true
        → no_function (Some (record { meaning = m; thing = t })) ≡ Some (record { meaning = m; thing = t })
    by (meant.Global n) t e = refl
    by (meant.Local n) t e = refl
    by (meant.Function n) t e = never (sym e)
    by meant.Owned t e = refl
    by (meant.Constant z) t e = refl
    by meant.TypeName t e = refl

alias_kept : (span : Span) (o : Option Entry) → of_alias span (no_function o) ≡ of_alias span o
alias_kept span None = refl
alias_kept span (Some e) = by e.meaning e.thing
  where
    by : (m : Meaning) (t : ThingType) → of_alias span (no_function (Some (record { meaning = m; thing = t }))) ≡ of_alias span (Some (record { meaning = m; thing = t }))
    by (meant.Global n) t = refl
    by (meant.Local n) t = refl
    by (meant.Function n) t = refl
    by meant.Owned t = refl
    by (meant.Constant z) t = refl
    by meant.TypeName t = refl

module _ (here there : Scope) (alike : Alike here there) where
  pub known_alike : (name : List ℕ) → known_in there name ≡ no_function (known_in here name)
  known_alike name = known_found there name alike.no_owned ∙ alike.names name ∙ ap no_function (sym (known_found here name alike.owned))

  enumerator_same : (name : List ℕ) → enumerator (known_in there name) ≡ enumerator (known_in here name)
  enumerator_same name = ap enumerator (known_alike name) ∙ enumerator_kept (known_in here name)

  -- constants are the same
  constants_alike : SameConstants (context_of here) (context_of there)
  constants_alike = record { values = enumerator_same; entries = λ name made. known_alike name ∙ constant_kept (known_in here name) made }

  pub constant_same : (e : Expression) → constant_of (context_of there) e ≡ constant_of (context_of here) e
  constant_same e = same_constant (context_of here) (context_of there) constants_alike e

  pub value_same : (e : Expression) → value_in (context_of there) e ≡ value_in (context_of here) e
  value_same e = same_value (context_of here) (context_of there) constants_alike e

  -- types are the same
  length_same : (l : Option Expression) → length_of (context_of there) l ≡ length_of (context_of here) l
  length_same None = refl
  length_same (Some e) = rw (value_same e) refl

  base_same : (b : Base) → base_of there b ≡ base_of here b
  base_same declared.int = refl
  base_same declared.unsigned = refl
  base_same declared.void = refl
  base_same (declared.structure tag) = ap (λ tags. of_struct tag.span (found tags tag.text)) alike.tags
  base_same (declared.enumerated tag) = ap (λ tags. of_enum tag.span (found tags tag.text)) alike.tags
  base_same (declared.alias name) = ap (of_alias name.span) (alike.names name.text) ∙ alias_kept name.span (found here.names name.text)

  pub resolve_same : (t : DeclaredType) → resolve there t ≡ resolve here t
  resolve_same t = ap (λ r. declared_as t.pointer t.pointer_const (qualified t.base_const r)) (base_same t.base)

  pub thing_same : (t : DeclaredType) → thing_type there t ≡ thing_type here t
  thing_same t = ap₂ with_length (length_same t.length) (resolve_same t)
