-- There is one text of each body's warnings, and so one of a unit's.
use Rattle.std.proofs.Common.{◌≡◌, ◌∙◌, ℕ, List, [], ◌∷◌, Some, sym, ap, ap₂, subst}
use Rattle.tsa_tree.specs.units.Syntax.{UnitItem}
use Rattle.tsa_place_model.specs.Ways.{Way}
use Rattle.tsa_core.specs.Programs.{Function, Program, program_of}
use Rattle.tsa_path.specs.PathTexts.{Names}
use Rattle.tsa_warn_function.specs.declared.failure.RuleFailure.{RuleFailure}
use Rattle.tsa_warn_function.specs.Orders.{AreToldInOrder, Precedes}
use Rattle.tsa_warn_function.proofs.Telling.{not_both_are_first}
use Rattle.tsa_warn_bodies.specs.Bodies.{BodyText, names_of}
use Rattle.tsa_warn_function.specs.Paths.{paths_of}
use Rattle.tsa_warn.specs.WarningLines.{AreWarned, IsBodyWarned, Warned, both, lines_of}
use Rattle.tsa_warn.proofs.SortedOnce.{sorted_once}
use Rattle.tsa_base.proofs.Options.{some_same as same}

-- rules that fail, in order
failures_once : (names : Names) (u : Program) (f : Function) (paths : List Way) (a b : List RuleFailure) → AreToldInOrder names u f paths a → AreToldInOrder names u f paths b → a ≡ b
failures_once names u f paths a b h g =
    sorted_once (Precedes names paths) (λ v w one other. not_both_are_first names paths v w one other) a b h.ordered g.ordered (λ w in_a. g.all w (h.told w in_a)) (λ w in_b. h.all w (g.told w in_b))

body_warned_once : (bytes : List ℕ) (items : List UnitItem) (b : BodyText) (v w : Warned) → IsBodyWarned bytes items b v → IsBodyWarned bytes items b w → v ≡ w
body_warned_once bytes items b v w h g =
    let u = program_of items in
    let names = names_of items b.number in
    let f : h.function ≡ g.function = same (sym h.is_there ∙ g.is_there) in
    let told = subst (λ x. AreToldInOrder names u x (paths_of u x) h.failures) f h.told in
    let failures : h.failures ≡ g.failures = failures_once names u g.function (paths_of u g.function) h.failures g.failures told g.told in
    h.lines ∙ ap₂ (λ x fs. lines_of bytes u x names b fs) f failures ∙ sym g.lines

pub warned_once : (bytes : List ℕ) (items : List UnitItem) (bodies : List BodyText) (v w : Warned) → AreWarned bytes items bodies v → AreWarned bytes items bodies w → v ≡ w
warned_once bytes items [] v w h g = h ∙ sym g
warned_once bytes items (b ∷ bodies) v w (a, rest, of_a, of_rest, whole) (c, other, of_c, of_other, all) =
    whole ∙ ap₂ both (body_warned_once bytes items b a c of_a of_c) (warned_once bytes items bodies rest other of_rest of_other) ∙ sym all
