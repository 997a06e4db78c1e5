-- The lines of the warnings of some bodies, and of one body more.
use Rattle.std.proofs.Common.{◌≡◌, ◌∙◌, ℕ, ◌+◌, List, [], ◌∷◌, ◌++◌, refl, sym, ap, ap₂, subst, arith, append_assoc, append-nil}
use Rattle.std.specs.Prelude.{Result, Ok, Err, OnOk}
use Rattle.tsa_tree.specs.units.Syntax.{UnitItem}
use Rattle.tsa_warn_bodies.specs.Bodies.{BodyText}
use Rattle.tsa_warn.specs.WarningLines.{AreWarned, IsBodyWarned, Warned, both, no_lines}

abbrev lines : List ℕ → ℕ → Warned
lines text count = record { text = text; count = count }

nothing_behind : (w : Warned) → w ≡ both w no_lines
nothing_behind w = let count : w.count ≡ w.count + 0 = omega arith in ap₂ lines (sym (append-nil w.text)) count

nothing_before : (w : Warned) → both no_lines w ≡ w
nothing_before w = let count : 0 + w.count ≡ w.count = omega arith in ap (λ n. lines w.text n) count

both_of_both : (a b c : Warned) → both (both a b) c ≡ both a (both b c)
both_of_both a b c =
    let count : a.count + b.count + c.count ≡ a.count + (b.count + c.count) = omega arith in
    ap₂ lines (append_assoc a.text b.text c.text) count

module _ (bytes : List ℕ) (items : List UnitItem) where
  pub one_body_more : (bodies : List BodyText) (b : BodyText) (v w : Warned) → AreWarned bytes items bodies v → IsBodyWarned bytes items b w
      → AreWarned bytes items (bodies ++ b ∷ []) (both v w)
  one_body_more [] b v w h is = (w, no_lines, is, refl, ap (λ x. both x w) h ∙ nothing_before w ∙ nothing_behind w)
  one_body_more (x ∷ bodies) b v w (a, rest, of_x, of_rest, whole) is =
      (a, both rest w, of_x, one_body_more bodies b rest w of_rest is, ap (λ y. both y w) whole ∙ both_of_both a rest w)

  -- with what one item more has
  pub body_added : (done new : List BodyText) (b : BodyText) (v w all : Warned) → new ≡ b ∷ [] → all ≡ both v w → AreWarned bytes items done v → IsBodyWarned bytes items b w
      → AreWarned bytes items (done ++ new) all
  body_added done new b v w all is_new is_all h is =
      subst (λ x. AreWarned bytes items (done ++ new) x) (sym is_all) (subst (λ n. AreWarned bytes items (done ++ n) (both v w)) (sym is_new) (one_body_more done b v w h is))

  pub no_body_added : (done new : List BodyText) (v : Warned) → new ≡ [] → AreWarned bytes items done v → AreWarned bytes items (done ++ new) v
  no_body_added done new v is_new h = subst (λ bs. AreWarned bytes items bs v) (sym (ap (λ n. done ++ n) is_new ∙ append-nil done)) h

-- the lines of a body behind those of others
pub added : (text more new : List ℕ) (count most sum : ℕ) → new ≡ text ++ more → sum ≡ count + most → lines new sum ≡ both (lines text count) (lines more most)
added text more new count most sum is_new is_sum = ap₂ lines is_new is_sum

-- what holds of a result that is well holds with more
pub where_well : {T E : Type 0} (result : Result T E) (P Q : Type 0) → (P → Q) → OnOk result P → OnOk result Q
where_well (Ok x) P Q to h = to h
where_well (Err e) P Q to h = tt

pub always_well : {T E : Type 0} (result : Result T E) (P : Type 0) → P → OnOk result P
always_well (Ok x) P h = h
always_well (Err e) P h = tt
