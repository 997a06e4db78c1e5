-- Where no line is told, no rule fails, and the other way.
use Rattle.std.proofs.Common.{◌≡◌, ◌∙◌, ℕ, zero, suc, arith, List, [], ◌∷◌, length, Contains, Some, slice_get, refl, sym, ap, subst}
use Rattle.tsa_tree.specs.units.Syntax.{UnitItem}
use Rattle.tsa_core.specs.Programs.{Function, Program, program_of}
use Rattle.tsa_rules.specs.Warnings.{HasNoWarnings, Warning}
use Rattle.tsa_warn_function.specs.Failures.{FailsThere}
use Rattle.tsa_warn_function.specs.declared.failure.RuleFailure.{RuleFailure}
use Rattle.tsa_warn_bodies.specs.Bodies.{BodyText, bodies_of, names_of}
use Rattle.tsa_warn_function.specs.Paths.{paths_of}
use Rattle.tsa_warn.specs.Laws.{UnitsWithoutLinesHaveNoWarnings, UnitsWithoutWarningsHaveNoLines}
use Rattle.tsa_warn.specs.WarningLines.{AreWarned, IsBodyWarned, Warned, both, lines_of, no_lines}
use Rattle.tsa_warn.proofs.FailuresOfBodies.{rules_that_fail_are_told}
use Rattle.tsa_base.proofs.Options.{some_same as same}

-- a body of which no line is told
record IsQuiet (bytes : List ℕ) (items : List UnitItem) (b : BodyText) : Type 0 where
  lines : Warned
  of : IsBodyWarned bytes items b lines
  none : lines.count ≡ 0

quiet_among : (bytes : List ℕ) (items : List UnitItem) (bodies : List BodyText) (w : Warned) → AreWarned bytes items bodies w → w.count ≡ 0 → (b : BodyText) → Contains bodies b
    → IsQuiet bytes items b
quiet_among bytes items [] w h none b (k, less, is) = absurd (omega (arith, less))
quiet_among bytes items (x ∷ bodies) w (v, rest, of_x, of_rest, whole) none b (zero, less, is) =
    let sum = ap (λ y. y.count) whole in
    let zero_count : v.count ≡ 0 = omega (arith, sum, none) in
    record { lines = v; of = subst (λ y. IsBodyWarned bytes items y v) is of_x; none = zero_count }
quiet_among bytes items (x ∷ bodies) w (v, rest, of_x, of_rest, whole) none b (suc k, less, is) =
    let sum = ap (λ y. y.count) whole in
    quiet_among bytes items bodies rest of_rest (omega (arith, sum, none)) b (k, omega (arith, less), is)

nothing_among : {A X : Type 0} (xs : List X) (x : X) → length xs ≡ 0 → Contains xs x → A
nothing_among xs x none (k, less, is) = absurd (omega (arith, less, none))

-- a function by its place
there_too : (u : Program) (f g : Function) (x : RuleFailure) → f ≡ g → FailsThere u f (paths_of u f) x → FailsThere u g (paths_of u g) x
there_too u f g x is h = subst (λ k. FailsThere u k (paths_of u k) x) is h

pub units_without_lines : UnitsWithoutLinesHaveNoWarnings
units_without_lines bytes items lines typed h none w fails =
    let t = rules_that_fail_are_told items w typed fails in
    let x : RuleFailure = record { point = w.point; rule = w.rule; cap = t.cap } in
    let q = quiet_among bytes items (bodies_of items) lines h none t.body t.is_one in
    let there = there_too (program_of items) t.function q.of.function x (same (sym t.is_there ∙ q.of.is_there)) t.fails in
    let count : length q.of.failures ≡ 0 = sym (ap (λ y. y.count) q.of.lines) ∙ q.none in
    nothing_among q.of.failures x count (q.of.told.all x there)

-- The other way.

module _ (bytes : List ℕ) (items : List UnitItem) (quiet : HasNoWarnings (program_of items)) where
  -- a rule that fails in a function is one that fails in the program
  no_failures : (n : ℕ) (f : Function) → slice_get (program_of items).functions n ≡ Some f → (xs : List RuleFailure)
      → ((x : RuleFailure) → Contains xs x → FailsThere (program_of items) f (paths_of (program_of items) f) x) → xs ≡ []
  no_failures n f is [] told = refl
  no_failures n f is (x ∷ xs) told =
      let there = told x (zero, omega arith, refl) in
      let w : Warning = record { function = n; point = x.point; rule = x.rule; path = there.path } in
      absurd (quiet w (record { function = f; is_there = is; fails = there.fails }))

  no_lines_of : (b : BodyText) (v : Warned) → IsBodyWarned bytes items b v → v ≡ no_lines
  no_lines_of b v h =
      h.lines ∙ ap (lines_of bytes (program_of items) h.function (names_of items b.number) b) (no_failures b.number h.function h.is_there h.failures h.told.told)

  no_lines_among : (bodies : List BodyText) (w : Warned) → AreWarned bytes items bodies w → w ≡ no_lines
  no_lines_among [] w h = h
  no_lines_among (b ∷ bodies) w (v, rest, of_b, of_rest, whole) =
      whole ∙ ap (λ y. both y rest) (no_lines_of b v of_b) ∙ ap (both no_lines) (no_lines_among bodies rest of_rest)

pub units_without_warnings : UnitsWithoutWarningsHaveNoLines
units_without_warnings bytes items w quiet h = no_lines_among bytes items quiet (bodies_of items) w h
