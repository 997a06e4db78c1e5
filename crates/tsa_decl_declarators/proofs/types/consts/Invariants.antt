use Rattle.std.proofs.Common.{◌≡◌, ◌≢◌, ◌<◌, ◌≤◌, length, ◌-◌}
use Rattle.tsa_tree.specs.declared.sign.Sign.TheVariants as sign
use Rattle.tsa_tree.specs.tokens.Signs.{sign_at}
use Rattle.tsa_expr.specs.Source.{input, named}
use Rattle.tsa_decl_declarators.specs.Outcomes.{consts_at}
use Rattle.tsa_decl_declarators.proofs.types.consts.Given as goal

abbrev pub invariant-consts : goal.invariant-consts
invariant-consts l =
    (l.at ≤ l.next) × (l.at ≤ length l.reader.tokens.now → l.next ≤ length l.reader.tokens.now)
    × (l.sign ≡ sign_at (input l.reader) (named l.reader) l.next) × (l.sign ≢ sign.End → l.next < length l.reader.tokens.now)
    × (consts_at (input l.reader) (named l.reader) l.at ≡ consts_at (input l.reader) (named l.reader) l.next)

abbrev pub decreases-consts : goal.decreases-consts
decreases-consts l = length l.reader.tokens.now - l.next
