-- Instructions that are passed, and the one at which code halts.
use Rattle.std.proofs.Math.Seq.{drop-cons}
use Rattle.std.proofs.Common.{◌≡◌, ℕ, zero, suc, ◌+◌, ◌<◌, List, [], ◌∷◌, drop, length, slice_get, Option, Some, None, refl, sym, ap, subst, ◌∙◌, arith, drop-drop}
use Rattle.std.proofs.lemmas.Option.{slice_get-get_or}
use Rattle.tsa_base.specs.declared.value.Value.{Value}
use Rattle.tsa_place_model.specs.Calls.{Layout}
use Rattle.tsa_mean.specs.Working.{Locals}
use Rattle.tsa_lower_code.specs.Codes.{going}
use Rattle.tsa_lower_code.specs.declared.instr.Instr.{Instr}
use Rattle.tsa_exec_frames.specs.Running.{after_halt, HaltFits, HaltsAs, IsAmong}
use Rattle.tsa_exec_frames.specs.declared.halts.Halt.{Halt}
use Rattle.tsa_exec_frames.specs.declared.halts.Halt.TheVariants as halt

pub skipped : (l : Layout) (locals : Locals) (m : ℕ) (is : List Instr) (s : List Value) → going l locals m is s ≡ going l locals 0 (drop m is) s
skipped l locals zero is s = refl
skipped l locals (suc m) [] s = refl
skipped l locals (suc m) (i ∷ is) s = skipped l locals m is s

add_one : (k : ℕ) → k + 1 ≡ suc k
add_one k = omega arith

abbrev or_else : Instr → Option Instr → Instr
or_else d None = d
or_else d (Some i) = i

pub at_instr : (code : List Instr) (at : ℕ) (i : Instr) → at < length code → slice_get code at ≡ Some i → drop at code ≡ i ∷ drop (at + 1) code
at_instr code at i h is = drop-cons code at i h ∙ (ap (λ j. j ∷ drop (suc at) code) (ap (or_else i) (sym (slice_get-get_or code at i h) ∙ is))
    ∙ ap (λ k. i ∷ drop k code) (sym (add_one at)))

-- An instruction behind which another follows, one that passes some, and one at which code halts.
module _ (l : Layout) (locals : Locals) (code : List Instr) (at : ℕ) (i : Instr) (old new : List Value) (inside : at < length code) (is : slice_get code at ≡ Some i) where
  here : going l locals 0 (i ∷ drop (at + 1) code) old ≡ going l locals 0 (drop at code) old
  here = ap (λ is. going l locals 0 is old) (sym (at_instr code at i inside is))

  pub next_goes : going l locals 0 (drop (at + 1) code) new ≡ going l locals 0 (i ∷ drop (at + 1) code) old → going l locals 0 (drop (at + 1) code) new ≡ going l locals 0 (drop at code) old
  next_goes goes = goes ∙ here

  pub skip_goes : (by : ℕ) → going l locals by (drop (at + 1) code) new ≡ going l locals 0 (i ∷ drop (at + 1) code) old
      → going l locals 0 (drop (at + 1 + by) code) new ≡ going l locals 0 (drop at code) old
  skip_goes by goes = ap (λ is. going l locals 0 is new) (sym (drop-drop by (at + 1) code)) ∙ (sym (skipped l locals by (drop (at + 1) code) new) ∙ (goes ∙ here))

  among : (h : Halt) → IsAmong (length code) h at
  among (halt.Read place to) = inside
  among (halt.Stop kind) = omega (arith, inside)
  among (halt.End e) = omega (arith, inside)

  pub halt_goes : (h : Halt) (from : ℕ) (first : List Value) → after_halt l locals h (drop (at + 1) code) new ≡ going l locals 0 (i ∷ drop (at + 1) code) old → new ≡ old → HaltFits (length old) h
      → going l locals 0 (drop at code) old ≡ going l locals 0 (drop from code) first → HaltsAs l locals code from first (record { instr = at; halt = h }) new
  halt_goes h from first goes keeps fits same = record {
    goes = sym same ∙ sym (goes ∙ here);
    same = ap (λ s. going l locals 0 (drop at code) s) keeps ∙ same;
    among = among h;
    fits = subst (λ s. HaltFits (length s) h) (sym keeps) fits;
  }
