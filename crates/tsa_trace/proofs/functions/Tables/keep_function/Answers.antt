use Rattle.std.proofs.Common.{◌∙◌, sym}
use Rattle.tsa_trace.proofs.FunctionLists.{body_kept, function_kept}
use Rattle.tsa_trace.proofs.functions.Tables.keep_function.Goals as goal

pub returns-in_ok-keep-2-clause-functions : goal.returns-in_ok-keep-2-clause-functions
returns-in_ok-keep-2-clause-functions c = c.in_ok-keep.ensures ∙ function_kept c.args.function.now c.args.self.now.functions c.requires.points

pub returns-in_ok-keep-2-clause-bodies : goal.returns-in_ok-keep-2-clause-bodies
returns-in_ok-keep-2-clause-bodies c =
    c.in_ok-keep-2.ensures ∙ body_kept c.args.function.now c.args.self.now.bodies (sym c.is_some.ensures ∙ c.if-is_some.true) c.requires.points
