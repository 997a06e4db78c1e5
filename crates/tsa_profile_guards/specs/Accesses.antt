-- The accesses of an expression, each with where the expression stands that is read or written.
use Rattle.std.specs.Prelude.{ℕ, Bool, false, true, List, ◌++◌, map, Option}
use Rattle.tsa_base.specs.declared.token.Span.{Span}
use Rattle.tsa_tree.specs.declared.expr.BinaryOp.{BinaryOp}
use Rattle.tsa_tree.specs.expressions.Syntax.{Expression, number, null, named, call, unary, binary, field, index}
use Rattle.tsa_tree.specs.types.Scopes.{Scope}
use Rattle.tsa_place_model.specs.Calls.{Layout}
use Rattle.tsa_core.specs.Cells.{cells_read, inner_cells, own_cell, read_before}
use Rattle.tsa_core.specs.Uses.{Access as PlainAccess, access_guards}
use Rattle.tsa_profile_accesses.specs.Accesses.{Access}

-- an access without where it stands
abbrev pub without_span : Access → PlainAccess
without_span a = record { is_write = a.is_write; guards = a.guards }

-- where an expression stands
abbrev pub span_of : Expression → Span
span_of (number n u span) = span
span_of (null span) = span
span_of (named name span) = span
span_of (call callee args span) = span
span_of (unary o inner span) = span
span_of (binary o left right span) = span
span_of (field base name arrow span) = span
span_of (index base at span) = span

-- an access of a cell by the expression that stands for it
abbrev pub access : Layout → (ℕ → Bool) → Scope → (is_write : Bool) → Expression → Access
access l stable here is_write e = record { span = span_of e; is_write = is_write; guards = access_guards l stable here e }

unfoldable pub accesses : Layout → (ℕ → Bool) → Scope → (is_write : Bool) → List Expression → List Access
accesses l stable here is_write cells = map (access l stable here is_write) cells

-- the reads of cells before other accesses
unfoldable pub before : Layout → (ℕ → Bool) → Scope → List Expression → List Access → List Access
before l stable here cells others = accesses l stable here false cells ++ others

-- those for the value of an expression, and those of a left side: it is read before where an operator joins the old value
abbrev pub reads : Layout → (ℕ → Bool) → Scope → Expression → List Access
reads l stable here e = accesses l stable here false (cells_read here e)

abbrev pub written : Layout → (ℕ → Bool) → Scope → Option BinaryOp → Expression → List Access
written l stable here o e =
    accesses l stable here false (read_before here o e)
    ++ (accesses l stable here true (own_cell here e) ++ accesses l stable here false (inner_cells here e))
