-- What a statement adds to what is known: names, which end with the block round it, and locals, whose numbers go on.
use Rattle.std.proofs.Common.{ℕ, ◌≡◌, ◌∙◌, ◌+◌, arith, Bool, true, false, List, [], ◌∷◌, ◌++◌, take, length, refl, sym, ap}
use Rattle.std.proofs.lemmas.List.{append-nil, append_assoc}
use Rattle.std.proofs.Math.Nat.{add_assoc}
use Rattle.std.proofs.Math.Seq.{take-append_seam}
use Rattle.tsa_tree.specs.declarations.Syntax.{Declaration}
use Rattle.tsa_tree.specs.declared.meaning.Entry.{Entry}
use Rattle.tsa_tree.specs.statements.Syntax.{ForInit, no_init, simple_init, local_init, Statement, block, empty, local, simple, if_alone}
use Rattle.tsa_tree.specs.statements.Syntax.{if_else, while_loop, do_loop, for_loop, switch, case, otherwise, label, break, continue, goto}
use Rattle.tsa_tree.specs.statements.Syntax.{return, Statements, none, more}
use Rattle.tsa_tree.specs.types.Locals.{local_entry, unless_taken, behind_local}
use Rattle.tsa_tree.specs.types.Scopes.{Scope, with_names, is_taken, further}
use Rattle.tsa_tree.specs.types.Statements.{behind_init, behind, behind_all}
use Rattle.tsa_tree.specs.types.Targets.{declared_by_init, declared_in, declared_in_all}

abbrev pub Names : Type 0
Names = List (List ℕ × Entry)

-- so many locals were declared, and these names came behind those that were known
abbrev pub Grown : Scope → ℕ → Scope → Type 0
Grown here n there = (names : Names) × (there ≡ with_names (here.names ++ names) (further n here))

abbrev pub scope : Scope → Names → ℕ → Scope
scope here names locals = record {
  tags = here.tags;
  locks = here.locks;
  structs = here.structs;
  owned = here.owned;
  names = names;
  functions = here.functions;
  globals = here.globals;
  locals = locals;
}

pub grown_by_none : (here : Scope) (n : ℕ) → Grown here n (further n here)
grown_by_none here n = ([], ap (λ names. scope here names (here.locals + n)) (sym (append-nil here.names)))

pub grown_then : (here : Scope) (m n : ℕ) (there beyond : Scope) → Grown here m there → Grown there n beyond → Grown here (m + n) beyond
grown_then here m n there beyond one two = (
  one.0 ++ two.0,
  two.1
      ∙ ap (λ x. with_names (x.names ++ two.0) (further n x)) one.1
      ∙ ap (λ names. scope here names (here.locals + m + n)) (append_assoc here.names one.0 two.0)
      ∙ ap (scope here (here.names ++ (one.0 ++ two.0))) (add_assoc here.locals m n),
)

pub plus_none : (n : ℕ) → n ≡ n + 0
plus_none n = omega arith

same_grown : (here : Scope) → Grown here 0 here
same_grown here =
    ([], ap (λ names. scope here names here.locals) (sym (append-nil here.names)) ∙ ap (scope here (here.names ++ [])) (plus_none here.locals))

grown_by_local : (here : Scope) (d : Declaration) → Grown here 1 (behind_local here d)
grown_by_local here d = by_taken (is_taken d.name.text here)
  where
    by_taken : (b : Bool) → Grown here 1 (further 1 (unless_taken b d.name.text (local_entry here d) here))
    by_taken true = grown_by_none here 1
    by_taken false = ((d.name.text, local_entry here d) ∷ [], refl)

pub grown_by_init : (here : Scope) (init : ForInit) → Grown here (declared_by_init init) (behind_init here init)
grown_by_init here (local_init d) = grown_by_local here d
grown_by_init here no_init = same_grown here
grown_by_init here (simple_init s) = same_grown here

pub grown_by_one : (here : Scope) (s : Statement) → Grown here (declared_in s) (behind here s)
unfolding declared_in behind
grown_by_one here (local d) = grown_by_local here d
grown_by_one here (block items span) = grown_by_none here _
grown_by_one here (empty span) = grown_by_none here _
grown_by_one here (simple s) = grown_by_none here _
grown_by_one here (if_alone test arm span) = grown_by_none here _
grown_by_one here (if_else test arm other span) = grown_by_none here _
grown_by_one here (while_loop test body span) = grown_by_none here _
grown_by_one here (do_loop body test span) = grown_by_none here _
grown_by_one here (for_loop init test step body span) = grown_by_none here _
grown_by_one here (switch key body span) = grown_by_none here _
grown_by_one here (case key body span) = grown_by_none here _
grown_by_one here (otherwise body span) = grown_by_none here _
grown_by_one here (label name body span) = grown_by_none here _
grown_by_one here (break span) = grown_by_none here _
grown_by_one here (continue span) = grown_by_none here _
grown_by_one here (goto name span) = grown_by_none here _
grown_by_one here (return given span) = grown_by_none here _

pub grown_by_all : (here : Scope) (items : Statements) → Grown here (declared_in_all items) (behind_all here items)
unfolding declared_in_all behind_all
grown_by_all here none = same_grown here
grown_by_all here (more first rest) =
    grown_then here (declared_in first) (declared_in_all rest) (behind here first) (behind_all (behind here first) rest) (grown_by_one here first)
    (grown_by_all (behind here first) rest)

-- the names end, the numbers go on
pub closes : (here : Scope) (n : ℕ) (there : Scope) → Grown here n there → with_names (take (length here.names) there.names) there ≡ further n here
closes here n there grown =
    ap (λ x. with_names (take (length here.names) x.names) x) grown.1
    ∙ ap (λ names. scope here names (here.locals + n)) (take-append_seam here.names grown.0)
