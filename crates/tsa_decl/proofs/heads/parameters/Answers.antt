use Rattle.std.proofs.Common.{◌∙◌, arith}
use Rattle.tsa_expr.proofs.Answering.{gives_same}
use Rattle.tsa_decl.proofs.ParameterLaws.{lone_within, lone_void, listed_at, void_first}
use Rattle.tsa_decl.proofs.heads.parameters.Goals as goal

pub returns-then-is_lone_void : goal.returns-then-is_lone_void
returns-then-is_lone_void c =
    let alone = void_first _ _ c.args.at _ _ c.sign-sign.ensures.is c.is_lone_void.ensures ∙ c.if-is_lone_void.true in
    let within = lone_within c.args.reader.tokens.now _ c.args.at alone in
    record {
      gives = lone_void _ _ c.args.at (λ e. c.in_default.not-Close (c.sign-sign.ensures.is ∙ e)) alone;
      ends = (omega arith, omega (arith, within));
    }

pub returns : goal.returns
returns c =
    record {
      gives =
          gives_same _ _ _ _
          (listed_at _ _ c.args.at (λ e. c.in_default.not-Close (c.sign-sign.ensures.is ∙ e)) (void_first _ _ c.args.at _ _ c.sign-sign.ensures.is c.is_lone_void.ensures ∙ c.if-is_lone_void.false))
          c.parameters_in_arena.ensures.gives;
      ends = c.parameters_in_arena.ensures.ends;
    }
