-- A test of a try variable keeps what is settled.
use Rattle.std.proofs.Common.{◌≡◌, ◌∙◌, ℕ, suc, ◌+◌, ◌<◌, nat_eq, nat_lt, Bool, true, false, not, List, [], ◌∷◌, length, Option, Some, None}
use Rattle.std.proofs.Common.{slice_get, ◌⊎◌, inl, inr, if◌then◌else◌, refl, ap, sym, subst, arith, eqb-true, ltb-true}
use Rattle.std.specs.List.{position_or_len}
use Rattle.std.specs.Prelude.{IsSome}
use Rattle.tsa_tree.specs.declared.attr.AttrKind.{AttrKind}
use Rattle.tsa_tree.specs.declared.attr.AttrKind.TheVariants as attr
use Rattle.tsa_place_model.specs.Ways.{Way}
use Rattle.tsa_core.specs.Programs.{Attr, Function, Program}
use Rattle.tsa_rules.specs.declared.status.Status.{Status}
use Rattle.tsa_rules.specs.declared.status.Status.TheVariants as status
use Rattle.tsa_rules.specs.declared.status.Status.TheVariants.{Free, Pending}
use Rattle.tsa_rules.specs.Effects.{after_decision, if_taken, left_by_try, same_answer, taken_by}
use Rattle.tsa_rules.specs.Points.{try_kept, try_number, try_variables}
use Rattle.tsa_mean.specs.Working.{Locals, local_at}
use Rattle.tsa_sound.specs.FramesFit.{IsDecided}
use Rattle.tsa_sound.specs.SettledStatuses.{answer_held, left_by, left_in, settled}

-- what a try leaves is settled
pub data IsSettled : Status → Type 0 where
  free : IsSettled Free
  shared : IsSettled status.Shared
  exclusive : (n : ℕ) → IsSettled (status.Exclusive n)
  lent : IsSettled status.Lent

pub settled_is : (u : Program) (f : Function) (locals : Locals) (c : Way) (s : Status) → IsSettled s → settled u f locals c s ≡ s
settled_is u f locals c s free = refl
settled_is u f locals c s shared = refl
settled_is u f locals c s (exclusive n) = refl
settled_is u f locals c s lent = refl

pub not_pending : (s : Status) (v : ℕ) {A : Type 0} → IsSettled s → s ≡ Pending v → A
not_pending s v free e = absurd cc
not_pending s v shared e = absurd cc
not_pending s v (exclusive n) e = absurd cc
not_pending s v lent e = absurd cc

pub taken_settled : (kind : AttrKind) → IsSettled (taken_by kind)
taken_settled attr.TryAcquire = exclusive 1
taken_settled attr.TryAcquireShared = shared
taken_settled kind = free

pub if_settled : (b : Bool) (s : Status) → IsSettled s → IsSettled (if_taken b s)
if_settled true s is = is
if_settled false s is = free

pub left_settled : (a : Option Attr) (answer : Bool) → IsSettled (left_by_try a answer)
left_settled None answer = free
left_settled (Some a) answer = if_settled (same_answer a.success answer) (taken_by a.kind) (taken_settled a.kind)

-- what stands where an element is found
at_position : (n w : ℕ) (xs : List ℕ) → position_or_len (nat_eq n) xs ≡ w → w < length xs → slice_get xs w ≡ Some n
at_position n w [] e l = absurd (omega (arith, l))
at_position n w (y ∷ ys) e l = by (nat_eq n y) refl e (λ k l f. at_position n k ys f l)
  where
    by : (b : Bool) → nat_eq n y ≡ b → (if not b then 1 + position_or_len (nat_eq n) ys else 0) ≡ w
        → ((k : ℕ) → k < length ys → position_or_len (nat_eq n) ys ≡ k → slice_get ys k ≡ Some n) → slice_get (y ∷ ys) w ≡ Some n
    by true is e rest = subst (λ k. slice_get (y ∷ ys) k ≡ Some n) e (ap Some (sym (eqb-true n y is)))
    by false is e rest =
        let next : suc (position_or_len (nat_eq n) ys) ≡ w = omega (arith, e) in
        subst (λ k. slice_get (y ∷ ys) k ≡ Some n) next (rest (position_or_len (nat_eq n) ys) (omega (arith, l, e)) refl)

module _ (u : Program) (f : Function) (locals : Locals) (c : Way) where
  -- what a try has left is known, or is nothing
  left_as : (kept : Option Attr) (known : Option Bool) (b : Bool) → ((answer : Bool) → left_by_try kept answer ≡ Free) ⊎ IsSome known
      → ((held : Bool) → known ≡ Some held → held ≡ b) → left_by_try kept b ≡ left_by kept known
  left_as kept None b (inl nothing) is = nothing b
  left_as kept None b (inr some) is = absurd cc
  left_as kept (Some held) b decided is = ap (left_by_try kept) (sym (is held refl))

  module _ (n : ℕ) (b : Bool) (is : (held : Bool) → answer_held (local_at locals n) ≡ Some held → held ≡ b) where
    abbrev after : Status → Status
    after s = after_decision (try_number u f n) (left_by_try (try_kept u f n c) b) s

    abbrev chosen : Bool → ℕ → Status
    chosen t w = if t then left_by_try (try_kept u f n c) b else Pending w

    by_number : (w : ℕ) (t : Bool) → nat_eq (try_number u f n) w ≡ t → nat_lt w (length (try_variables u f)) ≡ true
        → IsDecided u f locals c (slice_get (try_variables u f) w) → settled u f locals c (chosen t w) ≡ settled u f locals c (Pending w)
    by_number w false no_same less decided = refl
    by_number w true same less decided =
        let there = at_position n w (try_variables u f) (eqb-true (try_number u f n) w same) (ltb-true w (length (try_variables u f)) less) in
        settled_is u f locals c (left_by_try (try_kept u f n c) b) (left_settled (try_kept u f n c) b)
        ∙ left_as (try_kept u f n c) (answer_held (local_at locals n)) b (subst (IsDecided u f locals c) there decided) is
        ∙ ap (left_in u f locals c) (sym there)

    pub keeps_settled : (s : Status) → ((w : ℕ) → s ≡ Pending w → nat_lt w (length (try_variables u f)) ≡ true)
        → ((w : ℕ) → s ≡ Pending w → IsDecided u f locals c (slice_get (try_variables u f) w)) → settled u f locals c (after s) ≡ settled u f locals c s
    keeps_settled Free less decided = refl
    keeps_settled status.Shared less decided = refl
    keeps_settled (status.Exclusive m) less decided = refl
    keeps_settled status.Lent less decided = refl
    keeps_settled (Pending w) less decided = by_number w (nat_eq (try_number u f n) w) refl (less w refl) (decided w refl)

    pending_by : (w v : ℕ) (t : Bool) → chosen t w ≡ Pending v → Pending w ≡ Pending v
    pending_by w v true e = not_pending (left_by_try (try_kept u f n c) b) v (left_settled (try_kept u f n c) b) e
    pending_by w v false e = e

    pub still_pending : (s : Status) (v : ℕ) → after s ≡ Pending v → s ≡ Pending v
    still_pending Free v e = e
    still_pending status.Shared v e = e
    still_pending (status.Exclusive m) v e = e
    still_pending status.Lent v e = e
    still_pending (Pending w) v e = pending_by w v (nat_eq (try_number u f n) w) e
