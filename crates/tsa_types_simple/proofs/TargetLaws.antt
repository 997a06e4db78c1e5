-- Targets in blocks.
use Rattle.std.proofs.Common.{◌≡◌, Option, refl}
use Rattle.tsa_base.specs.declared.token.Span.{Span}
use Rattle.tsa_tree.specs.expressions.Syntax.{Expression}
use Rattle.tsa_tree.specs.statements.Syntax.{Statements, block}
use Rattle.tsa_tree.specs.declared.number.Number.{Number}
use Rattle.tsa_tree.specs.types.Targets.{Labels, labels_behind, labels_behind_all, Cases, cases_behind, cases_behind_all, default_in}
use Rattle.tsa_tree.specs.types.Targets.{default_in_all}

pub labels_block : (known : Labels) (items : Statements) (span : Span) → labels_behind known (block items span) ≡ labels_behind_all known items
unfolding labels_behind
labels_block known items span = refl

pub cases_block : (worth : Expression → Option Number) (known : Cases) (items : Statements) (span : Span)
    → cases_behind worth known (block items span) ≡ cases_behind_all worth known items
unfolding cases_behind
cases_block worth known items span = refl

pub default_block : (items : Statements) (span : Span) → default_in (block items span) ≡ default_in_all items
unfolding default_in
default_block items span = refl
