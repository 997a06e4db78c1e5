-- What has to be put for a typed expression.
use Rattle.std.specs.Prelude.{◌≡◌, ℕ, List, ◌++◌, drop, Some}
use Rattle.tsa_tree.specs.declared.kind.ExpressionType.{ExpressionType}
use Rattle.tsa_tree.specs.declared.kind.Kind.{Kind}
use Rattle.tsa_tree.specs.expressions.Syntax.{Expression}
use Rattle.tsa_tree.specs.types.Expressions.{type_of}
use Rattle.tsa_tree.specs.types.Scopes.{FunctionEntry, Scope, context_of}
use Rattle.tsa_types_row.specs.ExpressionRows.{row_in}
use Rattle.tsa_types_row.specs.declared.node.Node.{Node}
use Rattle.tsa_core.specs.Meanings.{as_kind, call_in, loaded, meaning}
use Rattle.tsa_core_rows.specs.Reading.{behind_parts, read_row}
use Rattle.tsa_lower_code.specs.Codes.{place_code, value_code}
use Rattle.tsa_lower_terms.specs.Codes.{as_kind_at}
use Rattle.tsa_lower_terms.specs.Sources.{Source, call_in_part, params_by, parts_at, parts_in, place_at, value_at}

-- a typed expression has its nodes in a source from a node on, in front of others
pub record IsAt (here : Scope) (function : ℕ) (e : Expression) (s : Source) (at : ℕ) (behind : List Node) : Type 0 where
  pub functions : s.functions ≡ here.functions
  pub nodes : drop at s.row ≡ row_in here function e ++ behind
  pub type : ExpressionType
  pub typed : type_of (context_of here) e ≡ Some type

-- what is put for it is the code of what it means, its call is that in it, and the row goes on behind its nodes
pub record ExpressionsAreLowered : Type 0 where
  pub value : (here : Scope) (f : ℕ) (e : Expression) (s : Source) (at : ℕ) (behind : List Node) (k : ℕ) → IsAt here f e s at behind
      → value_at s at k ≡ value_code s.layout s.is_answered (loaded (meaning here e)) k
  pub place : (here : Scope) (f : ℕ) (e : Expression) (s : Source) (at : ℕ) (behind : List Node) (k : ℕ) → IsAt here f e s at behind
      → place_at s at k ≡ place_code s.layout s.is_answered (meaning here e).term k
  pub wanted : (here : Scope) (f : ℕ) (e : Expression) (s : Source) (at : ℕ) (behind : List Node) (kind : Kind) (k : ℕ) → IsAt here f e s at behind
      → as_kind_at s kind at k ≡ value_code s.layout s.is_answered (as_kind kind (meaning here e)) k
  pub call : (here : Scope) (f : ℕ) (e : Expression) (s : Source) (at : ℕ) (behind : List Node) → IsAt here f e s at behind
      → call_in_part s at ≡ call_in here e
  pub end : (here : Scope) (f : ℕ) (e : Expression) (s : Source) (at : ℕ) (behind : List Node) → IsAt here f e s at behind
      → behind_parts 1 (parts_at s at) ≡ parts_in s.functions behind

-- the parts of a row are the same in a function with any result
abbrev pub PartsAreOfAnyResult : Type 0
PartsAreOfAnyResult = (functions : List FunctionEntry) (result : Kind) (row : List Node) → (read_row (params_by functions) result row).parts ≡ parts_in functions row
