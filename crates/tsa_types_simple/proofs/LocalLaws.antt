-- What is wrong with locals and their initialisers, by their parts.
use Rattle.std.proofs.Common.{◌≡◌, ◌∙◌, ℕ, ◌+◌, suc, Bool, true, false, not, ◌&&◌, ◌||◌, List, [], ◌∷◌, ◌++◌, drop, option_map, Option}
use Rattle.std.proofs.Common.{Some, None, Result, Ok, Err, refl, sym, ap}
use Rattle.std.specs.Borrow.{Bor}
use Rattle.std.specs.Result.{result_err}
use Rattle.tsa_base.specs.declared.token.Span.{Span}
use Rattle.tsa_base.proofs.Numbers.{plus_one}
use Rattle.tsa_tree.specs.declared.decl.Init.{Init}
use Rattle.tsa_tree.specs.declared.kind.Declaring.TheVariants as declaring
use Rattle.tsa_tree.specs.declared.kind.ThingType.{ThingType}
use Rattle.tsa_tree.specs.declared.premise.Bearer.TheVariants as on
use Rattle.tsa_tree.specs.declared.premise.Failure.{Failure}
use Rattle.tsa_tree.specs.declared.premise.TypeCode.TheVariants.{TY2, TY3}
use Rattle.tsa_tree.specs.declarations.Syntax.{Declaration, Initialisers, value, list}
use Rattle.tsa_tree.specs.declarations.Shapes.{init_shape, init_shapes}
use Rattle.tsa_tree.specs.expressions.Syntax.{Expression}
use Rattle.tsa_tree.specs.types.Attributes.{attributes_premises}
use Rattle.tsa_tree.specs.types.DeclaredTypes.{resolve, is_refused, thing_type, unknown_tag, length_premises, parts_premises}
use Rattle.tsa_tree.specs.types.Locals.{local_premises, can_not_go, has_type, init_breaks, names_in, names_in_init, names_in_items}
use Rattle.tsa_tree.specs.types.Operands.{lacks, goes_to}
use Rattle.tsa_tree.specs.types.Premises.{premise, or_else, first}
use Rattle.tsa_tree.specs.types.Scopes.{Scope, context_of, is_taken}
use Rattle.tsa_types_expressions.specs.declared.constants.Found.{Found}
use Rattle.tsa_types_expressions.specs.Found.{found_in}
use Rattle.tsa_types_expressions.specs.Lengths.{name_premises}
use Rattle.tsa_types_expressions.specs.Parts.{found_thing}
use Rattle.tsa_types_expressions.proofs.Steps.{first_append, or_else_same, own}
use Rattle.tsa_types_expressions.proofs.Walk.{or_nothing}
use Rattle.tsa_types_simple.specs.declared.locals.LocalParts.{LocalParts}
use Rattle.tsa_types_simple.specs.Locals.{value_breaks, local_by}
use Rattle.tsa_types_simple.proofs.SimpleLaws.{err_is, thing_is, own_first}

module _ (here : Scope) where
  -- the expressions of an initialiser
  pub names_value : (e : Expression) → result_err (found_in (context_of here) e) ≡ first (names_in_init here (value e))
  unfolding names_in_init
  names_value e = err_is (context_of here) e

  pub names_list : (items : Initialisers) (span : Span) → first (names_in_init here (list items span)) ≡ first (names_in_items here items)
  unfolding names_in_init
  names_list items span = refl

  pub names_end : (f : Option Failure) (items : List Init) (i : ℕ) → drop i items ≡ [] → or_else f (first (names_in_items here (init_shapes (drop i items)))) ≡ f
  unfolding names_in_items first
  names_end f items i e = ap (λ xs. or_else f (first (names_in_items here (init_shapes xs)))) e ∙ or_nothing f

  names_more : (item : Init) (rest : List Init) → first (names_in_items here (init_shapes (item ∷ rest)))
      ≡ or_else (first (names_in_init here (init_shape item))) (first (names_in_items here (init_shapes rest)))
  unfolding names_in_items
  names_more item rest = first_append (names_in_init here (init_shape item)) (names_in_items here (init_shapes rest))

  pub names_next : (f : Option Failure) (items : List Init) (i : ℕ) (item : Init) → drop i items ≡ item ∷ drop (suc i) items
      → (g : Option Failure) → g ≡ first (names_in_init here (init_shape item))
      → or_else (or_else f g) (first (names_in_items here (init_shapes (drop (i + 1) items)))) ≡ or_else f (first (names_in_items here (init_shapes (drop i items))))
  names_next f items i item at_i g is =
      ap (λ x. or_else (or_else f x) (first (names_in_items here (init_shapes (drop (i + 1) items))))) is
      ∙ ap (λ j. or_else (or_else f (first (names_in_init here (init_shape item)))) (first (names_in_items here (init_shapes (drop j items))))) (sym (plus_one i))
      ∙ sym (ap (λ xs. or_else f (first (names_in_items here (init_shapes xs)))) at_i ∙ ap (or_else f) (names_more item (drop (suc i) items))
      ∙ or_else_same f (first (names_in_init here (init_shape item))) (first (names_in_items here (init_shapes (drop (suc i) items)))))

  -- an initialiser that goes to its local or not
  by_found : (thing : ThingType) (r : Result Found Failure) → value_breaks thing r ≡ lacks (λ t. goes_to t thing) (found_thing r)
  by_found thing (Ok f) = refl
  by_found thing (Err failure) = refl

  pub value_is : (thing : ThingType) (e : Expression) → value_breaks thing (found_in (context_of here) e) ≡ can_not_go here thing (value e)
  value_is thing e = by_found thing (found_in (context_of here) e) ∙ ap (lacks (λ t. goes_to t thing)) (sym (thing_is (context_of here) e))

  pub names_absent : first (names_in here None) ≡ None
  unfolding first
  names_absent = refl

  -- a local
  regroup : (a b d : Option Failure) → or_else a (or_else b d) ≡ or_else (or_else a b) d
  regroup (Some f) b d = refl
  regroup None b d = refl

  merged : (b d : Bool) (span : Span) (x : Option Failure) → or_else (own (b || d) TY3 span) x ≡ or_else (own b TY3 span) (or_else (own d TY3 span) x)
  merged true d span x = refl
  merged false d span x = refl

  pub local_is : (d : Declaration) (p : LocalParts) → p.taken ≡ is_taken d.name.text here → p.refused ≡ is_refused here declaring.Thing (resolve here d.ctype)
      → p.written.resolved ≡ resolve here d.ctype → p.written.length ≡ first (length_premises (context_of here) d.ctype.length)
      → p.attributes ≡ first (attributes_premises here on.Local d.attrs)
      → p.init.breaks ≡ init_breaks here (thing_type here d.ctype) d.init → p.init.failure ≡ first (names_in here d.init)
      → local_by d.span p ≡ first (local_premises here d)
  unfolding local_premises name_premises
  local_is d p taken refused resolved length attributes breaks failure =
      let r = resolve here d.ctype in
      let t = is_taken d.name.text here in
      let n = is_refused here declaring.Thing r in
      let b = has_type r && init_breaks here (thing_type here d.ctype) d.init in
      let tag = unknown_tag r in
      let long = length_premises (context_of here) d.ctype.length in
      let marked = attributes_premises here on.Local d.attrs in
      let inside = names_in here d.init in
      rw (taken, refused, resolved, length, attributes, breaks, failure)
      (ap (λ x. or_else x (or_else (first long) (or_else (first marked) (first inside))))
      (own_first t TY2 d.span (premise TY3 d.span (n || b) ∷ tag) ∙ ap (or_else (own t TY2 d.span)) (own_first (n || b) TY3 d.span tag ∙ merged n b d.span (first tag)))
      ∙ spread (own t TY2 d.span) (own n TY3 d.span) (own b TY3 d.span) (first tag) (or_else (first long) (or_else (first marked) (first inside)))
      ∙ sym (own_first t TY2 d.span _
      ∙ ap (or_else (own t TY2 d.span)) (own_first n TY3 d.span _
      ∙ ap (or_else (own n TY3 d.span)) (own_first b TY3 d.span _
      ∙ ap (or_else (own b TY3 d.span))
      (first_append (parts_premises here d.ctype) (marked ++ inside)
      ∙ ap (λ x. or_else x (first (marked ++ inside))) (first_append tag long)
      ∙ ap (or_else (or_else (first tag) (first long))) (first_append marked inside)
      ∙ sym (regroup (first tag) (first long) (or_else (first marked) (first inside))))))))
    where
      spread : (a b d e x : Option Failure) → or_else (or_else a (or_else b (or_else d e))) x ≡ or_else a (or_else b (or_else d (or_else e x)))
      spread (Some f) b d e x = refl
      spread None (Some f) d e x = refl
      spread None None (Some f) e x = refl
      spread None None None e x = refl

-- an initialiser that may be left out, seen by a reference
pub seen_init : (r : Option (Bor Init)) (i : Option Init) → option_map (λ x. x.now) r ≡ i → option_map (λ x. init_shape x.now) r ≡ option_map init_shape i
seen_init None i h = ap (option_map init_shape) h
seen_init (Some x) i h = ap (option_map init_shape) h

-- what isn't fresh is taken
pub not_fresh : (fresh taken : Bool) → fresh ≡ not taken → not fresh ≡ taken
not_fresh fresh true h = ap not h
not_fresh fresh false h = ap not h

pub ruleset names = (names_value)

pub ruleset initial = (value_is, names_value, names_absent)

pub ruleset local = (local_is)
