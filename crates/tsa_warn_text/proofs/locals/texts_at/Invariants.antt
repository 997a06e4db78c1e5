use Rattle.std.proofs.Common.{◌≡◌, ◌++◌, drop, map}
use Rattle.tsa_tree.specs.statements.Shapes.{point_shape}
use Rattle.tsa_warn_text.specs.DeclaredNames.{declared_texts}
use Rattle.tsa_warn_text.proofs.locals.texts_at.Given as goal

-- the names so far with those at the points that are left are all of them
abbrev pub invariant-each : goal.invariant-each
invariant-each l =
    map (λ text. text.now) l.texts.items ++ declared_texts (map point_shape (drop l.point-index l.points)) ≡ declared_texts (map point_shape l.points)
