use Rattle.std.proofs.Common.{rules, ◌∙◌, sym, ap}
use Rattle.tsa_tree.specs.declared.sign.Sign.TheVariants as sign
use Rattle.tsa_expr.specs.Source.{input, named}
use Rattle.tsa_expr.proofs.Answering.{gives_same}
use Rattle.tsa_decl.proofs.BodyLaws.{gives_failed}
use Rattle.tsa_decl.proofs.ItemLaws.{typedef_struct, typedef_enum, typedef_typeless, typedef_plain}
use Rattle.tsa_decl.proofs.items.typedef.Goals as goal

pub returns-in_err-specified-in_default-clause-gives : goal.returns-in_err-specified-in_default-clause-gives
returns-in_err-specified-in_default-clause-gives c =
    gives_failed _ _ _ _ c.from_residual.ensures.1
    (typedef_typeless (input c.args.reader) (named c.args.reader) c.args.list.now.items c.args.at _ (search rules) (search rules) c.in_err-specified-in_default.ensures.gives)

pub returns-in-Keyword-Struct-clause-gives : goal.returns-in-Keyword-Struct-clause-gives
returns-in-Keyword-Struct-clause-gives c =
    gives_same _ _ _ _
    (typedef_struct _ _ c.args.list.now.items c.args.at (sym c.sign.ensures.is ∙ c.in-Keyword-Struct.is ∙ ap sign.Keyword c.in-Keyword-Struct.field-0-is))
    c.struct_alias.ensures.gives

pub returns-in-Keyword-Enum-clause-gives : goal.returns-in-Keyword-Enum-clause-gives
returns-in-Keyword-Enum-clause-gives c =
    gives_same _ _ _ _
    (typedef_enum _ _ c.args.list.now.items c.args.at (sym c.sign.ensures.is ∙ c.in-Keyword-Enum.is ∙ ap sign.Keyword c.in-Keyword-Enum.field-0-is))
    c.enum_alias.ensures.gives

pub returns-in_ok-specified-in_default-clause-gives : goal.returns-in_ok-specified-in_default-clause-gives
returns-in_ok-specified-in_default-clause-gives c =
    gives_same _ _ _ _
    (typedef_plain (input c.args.reader) (named c.args.reader) c.args.list.now.items c.args.at _ _ (search rules) (search rules) c.in_ok-specified-in_default.ensures.gives)
    c.plain_alias.ensures.gives
