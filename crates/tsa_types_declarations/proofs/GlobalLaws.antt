-- What is wrong with a global: outside of it, and then where it is known; and the nodes of it.
use Rattle.std.proofs.Common.{◌≡◌, ◌∙◌, ℕ, ◌+◌, Bool, true, not, List, ◌++◌, [], Option, None, Err, refl, sym, ap}
use Rattle.tsa_tree.specs.declared.kind.Declaring.TheVariants as declaring
use Rattle.tsa_tree.specs.declared.kind.ThingType.{ThingType}
use Rattle.tsa_tree.specs.declared.meaning.Entry.{Entry}
use Rattle.tsa_tree.specs.declared.meaning.Meaning.TheVariants as known
use Rattle.tsa_tree.specs.declared.meaning.Symbol.TheVariants as symbol
use Rattle.tsa_tree.specs.declared.premise.Bearer.{Bearer}
use Rattle.tsa_tree.specs.declared.premise.Failure.{Failure}
use Rattle.tsa_tree.specs.declarations.Syntax.{Declaration}
use Rattle.tsa_tree.specs.types.Attributes.{attributes_premises}
use Rattle.tsa_tree.specs.types.DeclaredTypes.{thing_type, length_premises, typed_premises}
use Rattle.tsa_tree.specs.types.Globals.{bearer_of, global_init, with_global, inside_global, global_premises}
use Rattle.tsa_tree.specs.types.Premises.{Premise, or_else, first}
use Rattle.tsa_tree.specs.types.Scopes.{Scope, context_of, with_name, with_globals, is_taken}
use Rattle.tsa_types_row.specs.BodyRows.{bare_node, declared_row, aside_given, aside_attributes, aside_given_init, aside_declaration}
use Rattle.tsa_types_row.specs.ItemRows.{row_in_global}
use Rattle.tsa_types_row.specs.Rows.{framed}
use Rattle.tsa_types_row.specs.declared.node.Node.{Node}
use Rattle.tsa_types_row.specs.declared.node.Op.TheVariants as op
use Rattle.tsa_types_expressions.specs.declared.refusal.TypeRefusal.{TypeRefusal}
use Rattle.tsa_types_expressions.specs.Judgements.{Judges}
use Rattle.tsa_types_expressions.proofs.Steps.{first_append}
use Rattle.tsa_types_expressions.proofs.RowLaws.{Notes, noted, noted_append}
use Rattle.tsa_types_expressions.proofs.Sequences.{judged_some}
use Rattle.tsa_types_declarations.proofs.DeclaredLaws.{typed_untaken, is_fresh}

-- its length, its attributes and its initialiser, by what fails first in each
pub inside_is : (here : Scope) (own : ℕ) (t : ThingType) (d : Declaration) (bearer : Bearer) (length guards init : Option Failure)
    → length ≡ first (length_premises (context_of here) d.ctype.length) → bearer ≡ bearer_of here t → guards ≡ first (attributes_premises here bearer d.attrs)
    → init ≡ first (global_init here own t d.init) → or_else length (or_else guards init) ≡ first (inside_global here own t d)
unfolding inside_global
inside_is here own t d bearer length guards init l b g i =
    let its_length = length_premises (context_of here) d.ctype.length in
    let its_attributes = attributes_premises here (bearer_of here t) d.attrs in
    ap (λ x. or_else x (or_else guards init)) l
    ∙ ap (λ x. or_else (first its_length) (or_else x init)) (g ∙ ap (λ x. first (attributes_premises here x d.attrs)) b)
    ∙ ap (λ x. or_else (first its_length) (or_else (first its_attributes) x)) i
    ∙ sym (first_append its_length (its_attributes ++ global_init here own t d.init) ∙ ap (or_else (first its_length)) (first_append its_attributes (global_init here own t d.init)))

-- its nodes in order
pub declaration_nodes : (here : Scope) (function : ℕ) (d : Declaration) (notes : Notes)
    → noted (noted (noted notes (aside_given here function d.ctype.length)) (aside_attributes here function d.attrs)) (aside_given_init here function d.init)
    ≡ noted notes (aside_declaration here function d)
unfolding aside_declaration
declaration_nodes here function d notes =
    sym (noted_append (noted notes (aside_given here function d.ctype.length)) (aside_attributes here function d.attrs) (aside_given_init here function d.init))
    ∙ sym (noted_append notes (aside_given here function d.ctype.length) (aside_attributes here function d.attrs ++ aside_given_init here function d.init))

-- what fails first outside of where a global is known, by whether its name is taken
abbrev pub outside_by : Scope → Declaration → Bool → Option Failure
outside_by here d taken = first (typed_premises here declaring.Thing taken d.span d.ctype)

-- a global outside of where it is known, and then inside
module _ (here : Scope) (d : Declaration) where
  -- its premises where it is not known yet, and the first that fails where it is
  abbrev outside : List Premise
  outside = typed_premises here declaring.Thing (is_taken d.name.text here) d.span d.ctype

  abbrev inside : Scope → ThingType → Option Failure
  inside inner t = first (inside_global inner inner.globals t d)

  -- it is refused before it is known
  pub global_stops : (e : TypeRefusal) → Judges (first outside) (Err e) → Judges (first (global_premises here d)) (Err e)
  global_stops e h = judged_some outside (inside_global (with_global here d) here.globals (thing_type here d.ctype) d) e h

  module _ (none : first outside ≡ None) (own : ℕ) (thing : ThingType) (entry : Entry) (inner : Scope) (fresh : Bool) (number : own ≡ here.globals) (typed : thing ≡ thing_type here d.ctype)
      (is : entry ≡ record { meaning = known.Global own; thing = thing }) (f : fresh ≡ not (is_taken d.name.text here)) (added : fresh ≡ true → inner ≡ with_name d.name.text entry here)
    where
      -- what is known inside of it
      moves : inner ≡ with_global here d
      moves =
          added (is_fresh fresh (is_taken d.name.text here) (is_taken d.name.text here) f refl (typed_untaken here declaring.Thing (is_taken d.name.text here) d.span d.ctype none))
          ∙ ap (λ e. with_name d.name.text e here)
          (is ∙ ap (λ n. record { meaning = known.Global n; thing = thing }) number ∙ ap (λ t. record { meaning = known.Global here.globals; thing = t }) typed)

      -- what decides inside of it decides
      pub global_is : inside inner thing ≡ first (global_premises here d)
      global_is =
          ap (λ t. inside inner t) typed ∙ ap (λ s. inside s (thing_type here d.ctype)) moves
          ∙ sym (first_append outside (inside_global (with_global here d) here.globals (thing_type here d.ctype) d)
          ∙ ap (λ o. or_else o (first (inside_global (with_global here d) here.globals (thing_type here d.ctype) d))) none)

      -- what is known behind it
      pub global_known : (after : Scope) → after ≡ with_globals (inner.globals + 1) inner → after ≡ with_globals (here.globals + 1) (with_global here d)
      global_known after counted = counted ∙ ap (λ s. with_globals (s.globals + 1) s) moves

      -- its name, and the expressions of its declaration
      pub global_nodes : (notes first_one all : Notes) (name : Node) → name ≡ bare_node (op.Declared (symbol.Global own)) d.name.span
          → first_one ≡ noted notes (framed name []) → all ≡ noted first_one (aside_declaration inner 0 d) → all ≡ noted notes (row_in_global here d)
      unfolding row_in_global
      global_nodes notes first_one all name at one rest =
          rest ∙ ap (λ s. noted first_one (aside_declaration s 0 d)) moves
          ∙ ap (λ n. noted n (aside_declaration (with_global here d) 0 d))
          (one ∙ ap (λ n. noted notes (framed n [])) at ∙ ap (λ n. noted notes (declared_row (symbol.Global n) d.name.span)) number)
          ∙ sym (noted_append notes (declared_row (symbol.Global here.globals) d.name.span) (aside_declaration (with_global here d) 0 d))
