-- What is put for a typed expression is the code of what it means.
use Rattle.std.proofs.Common.{◌≡◌, ◌∙◌, ℕ, List, ◌∷◌, Option, Some, None, slice_get, refl, sym, ap, subst}
use Rattle.tsa_tree.specs.declared.kind.Kind.TheVariants as type
use Rattle.tsa_tree.specs.declared.kind.ThingType.{ThingType}
use Rattle.tsa_tree.specs.expressions.Syntax.{Expression}
use Rattle.tsa_tree.specs.types.Lookups.{params_in}
use Rattle.tsa_tree.specs.types.Scopes.{FunctionEntry, Scope}
use Rattle.tsa_types_row.specs.ExpressionRows.{row_in}
use Rattle.tsa_types_row.specs.declared.node.Node.{Node}
use Rattle.tsa_core.specs.Meanings.{as_kind, loaded}
use Rattle.tsa_core_rows.specs.Laws.{part_of, with_part}
use Rattle.tsa_core_rows.specs.Reading.{Part, Reading, nothing_read, part_at, behind_parts, read_before}
use Rattle.tsa_core_rows.proofs.AnyParts.{read_append}
use Rattle.tsa_core_rows.proofs.TypedParts.{expressions_are_read}
use Rattle.tsa_lower_code.specs.Codes.{place_code, value_code}
use Rattle.tsa_lower_terms.specs.Laws.{IsAt, ExpressionsAreLowered}
use Rattle.tsa_lower_terms.specs.Sources.{Source, params_by, params_of, parts_at, parts_in}

-- the parameters of functions, by a table of them and by what is known
params_same : (here : Scope) (found : Option FunctionEntry) (n : ℕ) → slice_get here.functions n ≡ found → params_of (slice_get here.functions n) ≡ params_in here n
params_same here None n e = rw e refl
params_same here (Some f) n e = rw e refl

params_here : (here : Scope) → params_by here.functions ≡ params_in here
params_here here = λ i n. params_same here (slice_get here.functions n) n refl i

-- the parts of it and of what stands behind it
parts_of_it : (here : Scope) (f : ℕ) (e : Expression) (s : Source) (at : ℕ) (behind : List Node) → IsAt here f e s at behind
    → parts_at s at ≡ part_of here e ∷ parts_in s.functions behind
parts_of_it here f e s at behind is =
    let params = params_by s.functions in
    let r = read_before params type.Void behind nothing_read in
    let same : params_in here ≡ params = sym (ap params_by is.functions ∙ params_here here) in
    ap (parts_in s.functions) is.nodes
    ∙ ap (λ (x : Reading). x.parts) (read_append params type.Void (row_in here f e) behind nothing_read
    ∙ subst (λ (ps : ℕ → List ThingType). read_before ps type.Void (row_in here f e) r ≡ with_part (part_of here e) r) same
    (expressions_are_read here f type.Void e is.type r is.typed))

pub expressions_are_lowered : ExpressionsAreLowered
expressions_are_lowered = record {
  value = λ here f e s at behind k is. ap (λ (ps : List Part). value_code s.layout s.is_answered (loaded (part_at 0 ps).sense) k) (parts_of_it here f e s at behind is);
  place = λ here f e s at behind k is. ap (λ (ps : List Part). place_code s.layout s.is_answered (part_at 0 ps).sense.term k) (parts_of_it here f e s at behind is);
  wanted = λ here f e s at behind kind k is. ap (λ (ps : List Part). value_code s.layout s.is_answered (as_kind kind (part_at 0 ps).sense) k) (parts_of_it here f e s at behind is);
  call = λ here f e s at behind is. ap (λ (ps : List Part). (part_at 0 ps).call) (parts_of_it here f e s at behind is);
  end = λ here f e s at behind is. ap (behind_parts 1) (parts_of_it here f e s at behind is);
}
