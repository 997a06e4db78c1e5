-- What the readers' results are without the arena.
use Rattle.std.specs.Prelude.{ℕ, Ok}
use Rattle.tsa_grammar.specs.Reading.{Outcome, then}
use Rattle.tsa_tree.specs.expressions.Syntax.{Expression, Arguments, none, more}
use Rattle.tsa_tree.specs.expressions.Shapes.{shape, shapes}
use Rattle.tsa_expr.specs.declared.reading.ArgumentList.{ArgumentList}
use Rattle.tsa_expr.specs.declared.reading.Reading.{Reading}

-- what was read, and the place after it
abbrev pub seen : Reading → Expression × ℕ
seen reading = (shape reading.tree, reading.next)

-- the same of arguments
abbrev pub seen_list : ArgumentList → Arguments × ℕ
seen_list list = (shapes list.items.now, list.next)

abbrev pub joined : Arguments → Arguments → Arguments
joined none others = others
joined (more first rest) others = more first (joined rest others)

-- the arguments after those that were there before
abbrev pub after : Arguments → Outcome Arguments → Outcome Arguments
after front read = then read (λ args at. Ok (joined front args, at))
