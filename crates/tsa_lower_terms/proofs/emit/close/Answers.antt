use Rattle.std.proofs.Common.{◌≡◌, ◌∷◌, [], OnOk, subst, ap, ◌∙◌, ◌-◌}
use Rattle.tsa_lower_code.specs.declared.instr.Instr.TheVariants.{Truth}
use Rattle.tsa_lower_terms.proofs.Patched.{closed}
use Rattle.tsa_lower_terms.proofs.emit.close.Goals as goal

pub returns : goal.returns
returns c = subst (λ zs. OnOk c.put.result (c.put.new.out.items ≡ zs))
    (closed c.args.out.now.items (Truth c.args.slot ∷ []) c.args.skip c.in_ok-by.by c.args.slot c.args.on c.requires (c.in_ok-by.ensures ∙ ap (λ n. n - c.args.skip) (c.len.ensures ∙ c.args.out.now.ok.0))) c.put.ensures
