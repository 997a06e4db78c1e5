-- What is used at a point doesn't depend on how many locals there are.
use Rattle.std.proofs.Common.{ℕ, ◌≡◌, ◌∙◌, Bool, true, false, List, [], ◌∷◌, ◌++◌, Option, Some, None, option_map, refl, ap, ap₂}
use Rattle.std.proofs.Common.{if◌then◌else◌}
use Rattle.std.specs.Prelude.{option_and_then}
use Rattle.tsa_tree.specs.declared.expr.BinaryOp.TheVariants.{Or, And, BitOr, BitXor, BitAnd, Equal, Unequal, Less, More, LessEqual}
use Rattle.tsa_tree.specs.declared.expr.BinaryOp.TheVariants.{MoreEqual, Plus, Minus, Times, Divide, Remainder}
use Rattle.tsa_tree.specs.declared.expr.UnaryOp.TheVariants as prefix
use Rattle.tsa_tree.specs.declared.kind.Kind.{Kind}
use Rattle.tsa_tree.specs.declared.kind.ThingType.{ThingType}
use Rattle.tsa_tree.specs.declared.meaning.Entry.{Entry}
use Rattle.tsa_tree.specs.declared.meaning.Meaning.{Meaning}
use Rattle.tsa_tree.specs.declared.meaning.Meaning.TheVariants as known
use Rattle.tsa_tree.specs.expressions.Syntax.{Expression, Arguments, number, null, named, call, unary, binary, field, index, none, more}
use Rattle.tsa_tree.specs.points.Syntax.{Deed, declares, evaluates, assigns, tests, switches, jumps, idles, returns, ends}
use Rattle.tsa_tree.specs.types.Expressions.{owner}
use Rattle.tsa_tree.specs.types.Scopes.{Scope, known_in, with_locals}
use Rattle.tsa_tree.specs.types.Lookups.{params_in}
use Rattle.tsa_place_model.specs.Arguments.{index_argument, argument_way, way_of}
use Rattle.tsa_place_model.specs.LockPaths.{meant, member_step, element_step, is_pointer, leads}
use Rattle.tsa_place_model.specs.Ways.{Way}
use Rattle.tsa_place_model.specs.Calls.{Layout}
use Rattle.tsa_core.specs.Bodies.{Known, knows}
use Rattle.tsa_core.specs.Cells.{own_cell, inner_cells, argument_cells, cells_read}
use Rattle.tsa_core.specs.Meanings.{is_loaded, or_call}
use Rattle.tsa_core.specs.Uses.{field_guards, access_guards, accesses, argument_ways, called_ways, call_ways, reads, uses, value_uses}
use Rattle.tsa_core.specs.Uses.{uses_of}
use Rattle.tsa_core_points.specs.CoreLaws.{seen_at}
use Rattle.tsa_core_points.proofs.Meanings.{meaning_kept}

abbrev given : Option (List (Option Way)) → List (Option Way)
given None = []
given (Some ways) = ways

module _ (here : Scope) (n : ℕ) where
  abbrev there : Scope
  there = with_locals n here

  own_kept : (e : Expression) → own_cell there e ≡ own_cell here e
  own_kept e = ap (λ s. if is_loaded s then e ∷ [] else []) (meaning_kept here n e)

  inner_with : {xs ys : List Expression} (e : Expression) → xs ≡ ys → own_cell there e ++ xs ≡ own_cell here e ++ ys
  inner_with e same = ap₂ (λ a b. a ++ b) (own_kept e) same

  mutual
    unfolding inner_cells argument_cells

    inner_kept : (e : Expression) → inner_cells there e ≡ inner_cells here e
    inner_kept (number v u span) = refl
    inner_kept (null span) = refl
    inner_kept (named name span) = refl
    inner_kept (call callee args span) = cells_kept args
    inner_kept (unary prefix.Address inner span) = inner_kept inner
    inner_kept (unary prefix.Follow inner span) = inner_with inner (inner_kept inner)
    inner_kept (unary prefix.Minus inner span) = inner_with inner (inner_kept inner)
    inner_kept (unary prefix.Not inner span) = inner_with inner (inner_kept inner)
    inner_kept (unary prefix.Flip inner span) = inner_with inner (inner_kept inner)
    inner_kept (binary o left right span) = ap₂ (λ a b. a ++ b) (inner_with left (inner_kept left)) (inner_with right (inner_kept right))
    inner_kept (field base name true span) = inner_with base (inner_kept base)
    inner_kept (field base name false span) = inner_kept base
    inner_kept (index base at span) = ap₂ (λ a b. a ++ b) (inner_kept base) (inner_with at (inner_kept at))

    cells_kept : (args : Arguments) → argument_cells there args ≡ argument_cells here args
    cells_kept none = refl
    cells_kept (more e rest) = ap₂ (λ a b. a ++ b) (inner_with e (inner_kept e)) (cells_kept rest)

  module _ (stable : ℕ → Bool) where
    leads_kept : (p : Bool) (e : Expression) → leads stable there p e ≡ leads stable here p e
    unfolding leads
    leads_kept p (named name span) = refl
    leads_kept p (field base name arrow span) = ap (λ o. meant p (option_and_then (member_step here name.text) o)) (leads_kept arrow base)
    leads_kept p (index base at span) = ap (λ o. meant p (option_and_then (element_step stable here at) o)) (leads_kept false base)
    leads_kept true (unary prefix.Address inner span) = leads_kept false inner
    leads_kept true (unary prefix.Follow inner span) = refl
    leads_kept true (unary prefix.Minus inner span) = refl
    leads_kept true (unary prefix.Not inner span) = refl
    leads_kept true (unary prefix.Flip inner span) = refl
    leads_kept false (unary prefix.Address inner span) = refl
    leads_kept false (unary prefix.Follow inner span) = leads_kept true inner
    leads_kept false (unary prefix.Minus inner span) = refl
    leads_kept false (unary prefix.Not inner span) = refl
    leads_kept false (unary prefix.Flip inner span) = refl
    leads_kept true (number v u span) = refl
    leads_kept true (null span) = refl
    leads_kept true (call callee args span) = refl
    leads_kept true (binary o left right span) = refl
    leads_kept false (number v u span) = refl
    leads_kept false (null span) = refl
    leads_kept false (call callee args span) = refl
    leads_kept false (binary o left right span) = refl

    way_kept : (p : Bool) (e : Expression) → way_of stable there p e ≡ way_of stable here p e
    way_kept p e = ap (option_map (λ l. l.way)) (leads_kept p e)

    guards_kept : (l : Layout) (e : Expression) → access_guards l stable there e ≡ access_guards l stable here e
    unfolding access_guards
    guards_kept l (named name span) = refl
    guards_kept l (field base name true span) =
        ap₂ (λ w s. field_guards l here w name.text (owner true s.type)) (way_kept true base) (meaning_kept here n base)
    guards_kept l (field base name false span) =
        ap₂ (λ gs hs. gs ++ hs) (guards_kept l base)
        (ap₂ (λ w s. field_guards l here w name.text (owner false s.type)) (way_kept false base) (meaning_kept here n base))
    guards_kept l (index base at span) = guards_kept l base
    guards_kept l (number v u span) = refl
    guards_kept l (null span) = refl
    guards_kept l (call callee args span) = refl
    guards_kept l (unary o inner span) = refl
    guards_kept l (binary o left right span) = refl

    accesses_kept : (l : Layout) (b : Bool) (cells : List Expression) → accesses l stable there b cells ≡ accesses l stable here b cells
    accesses_kept l b [] = refl
    accesses_kept l b (e ∷ es) = ap₂ (λ gs rest. record { is_write = b; guards = gs } ∷ rest) (guards_kept l e) (accesses_kept l b es)

    index_kept : (e : Expression) → index_argument stable there e ≡ index_argument stable here e
    index_kept e = refl

    either : (b : Bool) {v w x y : Option Way} → v ≡ w → x ≡ y → (if b then v else x) ≡ (if b then w else y)
    either true one two = one
    either false one two = two

    argument_kept : (kind : Kind) (e : Expression) → argument_way stable there kind e ≡ argument_way stable here kind e
    argument_kept kind e = either (is_pointer kind) (way_kept true e) (index_kept e)

    arguments_kept : (params : List ThingType) (args : Arguments) → argument_ways stable there params args ≡ argument_ways stable here params args
    arguments_kept [] args = refl
    arguments_kept (p ∷ params) none = refl
    arguments_kept (p ∷ params) (more e rest) = ap₂ (λ w ws. w ∷ ws) (argument_kept p.kind e) (arguments_kept params rest)

    called_kept : (args : Arguments) (e : Option Entry) → called_ways stable there args e ≡ called_ways stable here args e
    called_kept args None = refl
    called_kept args (Some e) = by e.meaning e.thing
      where
        by : (m : Meaning) (t : ThingType)
            → called_ways stable there args (Some (record { meaning = m; thing = t })) ≡ called_ways stable here args (Some (record { meaning = m; thing = t }))
        by (known.Function f) t = ap Some (arguments_kept (params_in here f) args)
        by (known.Global g) t = refl
        by (known.Local l) t = refl
        by known.Owned t = refl
        by (known.Constant z) t = refl
        by known.TypeName t = refl

    call_kept : (e : Expression) → call_ways stable there e ≡ call_ways stable here e
    unfolding call_ways
    call_kept (number v u span) = refl
    call_kept (null span) = refl
    call_kept (named name span) = refl
    call_kept (call callee args span) = called_kept args (known_in here callee.text)
    call_kept (unary prefix.Not inner span) = call_kept inner
    call_kept (unary prefix.Minus inner span) = refl
    call_kept (unary prefix.Flip inner span) = refl
    call_kept (unary prefix.Address inner span) = refl
    call_kept (unary prefix.Follow inner span) = refl
    call_kept (binary Equal left right span) = ap₂ or_call (call_kept left) (call_kept right)
    call_kept (binary Unequal left right span) = ap₂ or_call (call_kept left) (call_kept right)
    call_kept (binary Or left right span) = refl
    call_kept (binary And left right span) = refl
    call_kept (binary BitOr left right span) = refl
    call_kept (binary BitXor left right span) = refl
    call_kept (binary BitAnd left right span) = refl
    call_kept (binary Less left right span) = refl
    call_kept (binary More left right span) = refl
    call_kept (binary LessEqual left right span) = refl
    call_kept (binary MoreEqual left right span) = refl
    call_kept (binary Plus left right span) = refl
    call_kept (binary Minus left right span) = refl
    call_kept (binary Times left right span) = refl
    call_kept (binary Divide left right span) = refl
    call_kept (binary Remainder left right span) = refl
    call_kept (field base name arrow span) = refl
    call_kept (index base at span) = refl

    reads_kept : (l : Layout) (e : Expression) → reads l stable there e ≡ reads l stable here e
    reads_kept l e = ap (accesses l stable there false) (inner_with e (inner_kept e)) ∙ accesses_kept l false (cells_read here e)

    value_kept : (l : Layout) (e : Expression) → value_uses l stable there e ≡ value_uses l stable here e
    value_kept l e = ap₂ (λ r w. uses r (given w)) (reads_kept l e) (call_kept e)

pub uses_kept : (l : Layout) (stable : ℕ → Bool) (k : Known) → uses_of l stable (seen_at k) ≡ uses_of l stable k
uses_kept l stable k = by k.here k.deed
  where
    by : (here : Scope) (d : Deed) → uses_of l stable (seen_at (knows here d)) ≡ uses_of l stable (knows here d)
    by here (declares d) = refl
    by here (evaluates e) = refl
    by here (assigns left o right) = refl
    by here (tests None) = refl
    by here (tests (Some e)) = value_kept here 0 stable l e
    by here (switches e) = refl
    by here jumps = refl
    by here idles = refl
    by here (returns e) = refl
    by here ends = refl
