-- What is wrong with a member, with the attributes of a struct, and with what stands in it.
use Rattle.std.proofs.Common.{◌≡◌, ◌∙◌, ℕ, ◌+◌, suc, drop, Bool, true, false, not, ◌||◌, List, [], ◌∷◌, ◌++◌, Option, Some, None, Err}
use Rattle.std.proofs.Common.{length, is_some, refl, sym, ap, if◌then◌else◌}
use Rattle.std.proofs.lemmas.List.{append-nil}
use Rattle.tsa_base.specs.declared.token.Span.{Span}
use Rattle.tsa_tree.specs.declared.attr.Attr.{Attr}
use Rattle.tsa_tree.specs.declared.kind.Kind.TheVariants as type
use Rattle.tsa_tree.specs.declared.kind.ThingType.{ThingType}
use Rattle.tsa_tree.specs.declared.meaning.Entry.{Entry}
use Rattle.tsa_tree.specs.declared.kind.Declaring.TheVariants as declaring
use Rattle.tsa_tree.specs.declared.premise.Bearer.TheVariants as bearer
use Rattle.tsa_tree.specs.declared.premise.Failure.{Failure}
use Rattle.tsa_tree.specs.declared.premise.TypeCode.TheVariants.{TY2}
use Rattle.tsa_tree.specs.attributes.Syntax.{Attribute, attr_shape, attr_shapes}
use Rattle.tsa_tree.specs.declarations.Syntax.{Declaration}
use Rattle.tsa_tree.specs.expressions.Syntax.{Identifier}
use Rattle.tsa_tree.specs.types.Attributes.{attribute_premises, attributes_premises, stands_beside, attributes_beside}
use Rattle.tsa_tree.specs.types.DeclaredTypes.{thing_type, declared_premises}
use Rattle.tsa_tree.specs.types.Premises.{Premise, or_else, first}
use Rattle.tsa_tree.specs.types.Scopes.{Scope, Members, found, tag_in, with_owned, with_struct, with_named, is_named_taken, a_type_name}
use Rattle.tsa_tree.specs.types.Structs.{member_premises, with_member, members_premises, members_behind, first_place, other_struct}
use Rattle.tsa_tree.specs.types.Structs.{inside_struct, struct_premises, behind_struct}
use Rattle.tsa_tree.specs.types.Types.{single}
use Rattle.tsa_types_expressions.specs.declared.refusal.TypeRefusal.{TypeRefusal}
use Rattle.tsa_types_expressions.specs.Judgements.{Judges}
use Rattle.tsa_types_expressions.specs.Verdicts.{at}
use Rattle.tsa_types_expressions.proofs.Steps.{first_append}
use Rattle.tsa_types_expressions.proofs.Sequences.{judged_some, nothing_fails, one_fails, one_holds}
use Rattle.tsa_types_declarations.proofs.DeclaredLaws.{declared_untaken, is_fresh, named_known}
use Rattle.tsa_types_declarations.proofs.Lists.{failure_end, failure_next}
use Rattle.tsa_types_declarations.proofs.Judging.{or_nothing, first_holds, judges_err, judged_rest}

-- a member, by what was found of its name with its type, and of its guards
module _ (here : Scope) (before : Members) (d : Declaration) (taken : Bool) (is : taken ≡ is_some (found before d.name.text)) (told guards : Option Failure)
    (of_type : told ≡ first (declared_premises here declaring.Thing taken d.span d.ctype)) (of_guards : guards ≡ first (attributes_premises (with_owned before here) bearer.Member d.attrs))
  where
    -- what fails first in a member
    pub member_is : or_else told guards ≡ first (member_premises here before d)
    member_is =
        ap (λ x. or_else x guards) (of_type ∙ ap (λ b. first (declared_premises here declaring.Thing b d.span d.ctype)) is)
        ∙ ap (or_else (first (declared_premises here declaring.Thing (is_some (found before d.name.text)) d.span d.ctype))) of_guards
        ∙ sym (first_append (declared_premises here declaring.Thing (is_some (found before d.name.text)) d.span d.ctype) (attributes_premises (with_owned before here) bearer.Member d.attrs))

    -- it is known after those before it
    pub member_known : (members after : Members) (fresh : Bool) (thing : ThingType) → or_else told guards ≡ None → members ≡ before → fresh ≡ not (is_some (found members d.name.text))
        → (fresh ≡ true → after ≡ members ++ (d.name.text, thing) ∷ []) → thing ≡ thing_type here d.ctype → after ≡ with_member here before d
    member_known members after fresh thing none same f added typed =
        let free = declared_untaken here declaring.Thing taken d.span d.ctype (sym of_type ∙ first_holds told guards none) in
        added (is_fresh fresh taken (is_some (found members d.name.text)) f (is ∙ ap (λ m. is_some (found m d.name.text)) (sym same)) free)
        ∙ ap (λ m. m ++ (d.name.text, thing) ∷ []) same ∙ ap (λ t. before ++ (d.name.text, t) ∷ []) typed

-- those attributes that stand beside a place, one by one
module _ (here : Scope) (before : Bool) (place : ℕ) where
  -- the premises of the attributes on one side, and of one attribute where it stands there
  abbrev pub beside : List Attribute → List Premise
  beside attrs = attributes_premises here bearer.Structure (attributes_beside before place attrs)

  abbrev wrong : Unit {0} → List Attr → List Premise
  wrong u attrs = beside (attr_shapes attrs)

  abbrev own : Unit {0} → Attr → List Premise
  own u a = beside (attr_shape a ∷ [])

  abbrev same : Unit {0} → Attr → Unit {0}
  same u a = tt

  -- each by the rest
  wrong_nil : (u : Unit {0}) → wrong u [] ≡ []
  unfolding attributes_premises
  wrong_nil u = refl

  -- one that stands elsewhere has no premises
  by_side : (b : Bool) (a : Attribute) (others : List Attribute) → attributes_premises here bearer.Structure (if b then a ∷ others else others)
      ≡ attributes_premises here bearer.Structure (if b then a ∷ [] else []) ++ attributes_premises here bearer.Structure others
  unfolding attributes_premises
  by_side true a others = ap (λ ps. ps ++ attributes_premises here bearer.Structure others) (sym (append-nil (attribute_premises here bearer.Structure a)))
  by_side false a others = refl

  wrong_more : (u : Unit {0}) (a : Attr) (rest : List Attr) → wrong u (a ∷ rest) ≡ own u a ++ wrong u rest
  wrong_more u a rest = by_side (stands_beside before place (attr_shape a)) (attr_shape a) (attributes_beside before place (attr_shapes rest))

  module _ (attrs : List Attr) (i : ℕ) where
    -- none is left
    pub beside_end : (f : Option Failure) → drop i attrs ≡ [] → or_else f (first (beside (attr_shapes (drop i attrs)))) ≡ f
    beside_end f e = failure_end same attrs i tt wrong own wrong_nil f e

    module _ (a : Attr) (at_i : drop i attrs ≡ a ∷ drop (suc i) attrs) (f : Option Failure) where
      abbrev left : ℕ → Option Failure
      left j = first (beside (attr_shapes (drop j attrs)))

      -- the next one stands there
      pub beside_next : (g : Option Failure) → stands_beside before place (attr_shape a) ≡ true → g ≡ first (attributes_premises here bearer.Structure (attr_shapes (a ∷ [])))
          → or_else (or_else f g) (left (i + 1)) ≡ or_else f (left i)
      beside_next g h is =
          failure_next same attrs i tt wrong own wrong_more a at_i tt f g
          (is ∙ sym (ap (λ b. first (attributes_premises here bearer.Structure (if b then attr_shape a ∷ [] else []))) h)) refl

      -- the next one stands elsewhere
      pub beside_past : stands_beside before place (attr_shape a) ≡ false → or_else f (left (i + 1)) ≡ or_else f (left i)
      unfolding attributes_premises
      beside_past h =
          ap (λ x. or_else x (left (i + 1))) (sym (or_nothing f))
          ∙ failure_next same attrs i tt wrong own wrong_more a at_i tt f None
          (sym (ap (λ b. first (attributes_premises here bearer.Structure (if b then attr_shape a ∷ [] else []))) h ∙ nothing_fails)) refl

-- what stands in a struct: attributes, members, attributes
module _ (here : Scope) (before : Members) (attrs : List Attribute) (members : List Declaration) (span : Span) (place : ℕ) (is : place ≡ first_place span.to members) where
  -- the parts of the premises, and the first that fails in all
  abbrev front : ℕ → List Premise
  front at_place = beside here true at_place attrs

  abbrev back : ℕ → List Premise
  back at_place = beside here false at_place attrs

  abbrev rest : List Premise
  rest = members_premises here before members ++ back (first_place span.to members)

  abbrev all : Option Failure
  all = first (inside_struct here before attrs members span)

  -- the attributes before the members are judged first
  pub front_stops : (e : TypeRefusal) → Judges (first (front place)) (Err e) → Judges all (Err e)
  unfolding inside_struct
  front_stops e h = judged_some (front (first_place span.to members)) rest e (judges_err _ _ e (ap (λ p. first (front p)) is) h)

  module _ (none : first (front place) ≡ None) where
    holds : first (front (first_place span.to members)) ≡ None
    holds = sym (ap (λ p. first (front p)) is) ∙ none

    -- then the members
    pub members_stop : (e : TypeRefusal) → Judges (first (members_premises here before members)) (Err e) → Judges all (Err e)
    unfolding inside_struct
    members_stop e h =
        judged_rest (front (first_place span.to members)) rest (Err e) holds (judged_some (members_premises here before members) (back (first_place span.to members)) e h)

    -- and then the attributes after them
    pub back_is : (there : Scope) → there ≡ here → first (members_premises here before members) ≡ None → first (beside there false place attrs) ≡ all
    unfolding inside_struct
    back_is there same h =
        ap (λ x. first (beside x false place attrs)) same ∙ ap (λ p. first (back p)) is
        ∙ sym (first_append (front (first_place span.to members)) rest ∙ ap (λ x. or_else x (first rest)) holds
        ∙ first_append (members_premises here before members) (back (first_place span.to members)) ∙ ap (λ x. or_else x (first (back (first_place span.to members)))) h)

-- a struct item: its tag and its name of a type, and then what stands in it
module _ (here : Scope) (tag alias : Option Identifier) (attrs : List Attribute) (members : List Declaration) (span : Span) where
  abbrev elsewhere : Bool
  elsewhere = other_struct (length here.structs) (tag_in here tag) || is_named_taken alias here

  -- an item that is declared elsewhere is told first
  pub struct_again : elsewhere ≡ true → first (struct_premises here tag alias attrs members span) ≡ Some (at TY2 span)
  unfolding struct_premises
  struct_again h = one_fails TY2 span elsewhere (inside_struct here [] attrs members span) h

  -- then what stands in it is judged
  pub struct_first : (none : Members) → none ≡ [] → elsewhere ≡ false
      → first (inside_struct here none attrs members span) ≡ first (struct_premises here tag alias attrs members span)
  unfolding struct_premises
  struct_first none empty h =
      ap (λ m. first (inside_struct here m attrs members span)) empty ∙ sym (one_holds TY2 span elsewhere (inside_struct here [] attrs members span) h)

  -- its name of a type is free
  pub alias_free : elsewhere ≡ false → is_named_taken alias here ≡ false
  alias_free h = neither (other_struct (length here.structs) (tag_in here tag)) (is_named_taken alias here) h
    where
      neither : (a b : Bool) → (a || b) ≡ false → b ≡ false
      neither true b k = cc
      neither false b k = k

-- a struct that is defined takes no name
struct_names : (here : Scope) (members : Members) (alias : Option Identifier) → is_named_taken alias (with_struct members here) ≡ is_named_taken alias here
struct_names here members None = refl
struct_names here members (Some name) = refl

-- it is known by its number, under its name of a type too
module _ (here : Scope) (alias : Option Identifier) (members : List Declaration) (none defined : Members) (empty : none ≡ []) (all : defined ≡ members_behind here none members) where
  pub struct_known : (there known new : Scope) (number : ℕ) (entry : Entry) (fresh : Bool) → there ≡ here → number ≡ length there.structs → known ≡ with_struct defined there
      → is_named_taken alias here ≡ false → entry ≡ a_type_name (single (type.Structure number) false) → fresh ≡ not (is_named_taken alias known)
      → (fresh ≡ true → new ≡ with_named alias entry known) → new ≡ behind_struct here alias members
  struct_known there known new number entry fresh same n added free is f declared =
      let whole = members_behind here [] members in
      named_known known (with_struct whole here) new alias entry (a_type_name (single (type.Structure (length here.structs)) false)) fresh
      (added ∙ ap (λ s. with_struct defined s) same ∙ ap (λ m. with_struct m here) (all ∙ ap (λ m. members_behind here m members) empty))
      (struct_names here whole alias ∙ free) f declared
      (is ∙ ap (λ k. a_type_name (single (type.Structure k) false)) (n ∙ ap (λ s. length s.structs) same))
