-- What is noted of a path at a point, and of the marks of a function.
use Rattle.std.proofs.Common.{◌≡◌, ◌∙◌, ℕ, zero, suc, ◌+◌, ◌<◌, ◌↔◌, ◌⊎◌, inl, inr, List, [], ◌∷◌, ◌++◌, length, get_or, map, take}
use Rattle.std.proofs.Common.{Contains, Option, Some, None, option_map, slice_get, refl, sym, ap, ap₂, subst, arith}
use Rattle.std.proofs.lemmas.List.{get_or_default, get_or-take, length-take, take_more}
use Rattle.std.proofs.lemmas.List.Elements.{Contains-append_left, Contains-append_right, Contains-push, Contains-push_cases}
use Rattle.std.proofs.lemmas.Option.{get_or_from_slice_get, slice_get-get_or, slice_get-map, slice_get_within}
use Rattle.tsa_place_model.specs.Ways.{Way}
use Rattle.tsa_core.specs.Programs.{Function, Program}
use Rattle.tsa_rules.specs.declared.rule.Rule.{Rule}
use Rattle.tsa_rules.specs.Fails.{fails}
use Rattle.tsa_rules.specs.Points.{points_of}
use Rattle.tsa_rules.specs.Sets.{HasSome}
use Rattle.tsa_warn_function.specs.declared.failure.RuleFailure.{RuleFailure}
use Rattle.tsa_warn_function.specs.declared.spot.Spot.{Spot}
use Rattle.tsa_warn_function.specs.declared.spot.TheConstants.{MARK_RULES}
use Rattle.tsa_warn_function.specs.Adding.{Adds, EachOnce}
use Rattle.tsa_warn_function.specs.Passes.{IsOfMarks}
use Rattle.tsa_warn_function.specs.Spots.{FailsOnWalks, IsNoted, IsNotedBy, IsSpotOf}
use Rattle.tsa_warn_function.proofs.ListGrowth.{and_then, as_others, none_more}
use Rattle.tsa_base.proofs.Options.{some_same as same_some}
use Rattle.tsa_flow_solver.proofs.Slots.{one_there}

pub none_there : {A : Type 0} (x : A) → None ≡ Some x → ⊥
none_there x e = cc

pub some_there : {A : Type 0} (xs : List A) (i : ℕ) → i < length xs → (x : A) × (slice_get xs i ≡ Some x)
some_there [] i within = absurd (omega (arith, within))
some_there (x ∷ xs) zero within = (x, refl)
some_there (x ∷ xs) (suc i) within = some_there xs i (omega (arith, within))

-- what is among the first ones of a list stands at a number below
pub in_front : {A : Type 0} (xs : List A) (i : ℕ) (x : A) → Contains (take i xs) x → (k : ℕ) × ((k < i) × ((k < length xs) × (get_or xs k x ≡ x)))
in_front xs i x (k, less, e) =
    let long = length-take i xs in
    let below : k < i = omega (arith, less, long) in
    (k, (below, (omega (arith, less, long), sym (get_or-take i xs k x below) ∙ e)))

-- failures with the same parts
pub same_failure : (x : RuleFailure) (point number : ℕ) (rule : Rule) → x.point ≡ point → x.rule ≡ rule → x.cap ≡ number → x ≡ record { point = point; rule = rule; cap = number }
same_failure x point number rule e f g = λ i. record { point = e i; rule = f i; cap = g i }

module _ (u : Program) (f : Function) (c : Way) (spot : Spot) where
  -- some status of a spot breaks a rule where some walk brings such a one
  pub on_walks : IsSpotOf u f c spot → (rule : Rule) → HasSome (fails rule u f spot.point c) spot.before ↔ FailsOnWalks u f spot.point c rule
  on_walks is rule = (λ h. (h.0, ((is.before h.0).0 h.1.0, h.1.1)), λ h. (h.0, ((is.before h.0).1 h.1.0, h.1.1)))

  -- of no rules nothing is noted
  pub none_noted : (xs : List RuleFailure) → Adds (IsNotedBy u f c spot []) xs xs
  none_noted xs = none_more (IsNotedBy u f c spot []) xs (λ x h. absurd (omega (arith, h.among.1)))

  module _ (rules : List Rule) (once : EachOnce rules) (i : ℕ) (d : Rule) (within : i < length rules) where
    abbrev rule : Rule
    rule = get_or rules i d

    more : take (i + 1) rules ≡ take i rules ++ rule ∷ []
    more = take_more rules i d within

    -- a rule isn't among those before it
    fresh : Contains (take i rules) rule → ⊥
    fresh h = let y = in_front rules i rule h in once y.0 i rule y.1.0 within (y.1.1.1 ∙ get_or_default rules i d rule within)

    split : (x : RuleFailure) → IsNotedBy u f c spot (take (i + 1) rules) x → IsNotedBy u f c spot (take i rules) x ⊎ IsNoted u f c spot rule x
    split x h = elim (Contains-push_cases (take i rules) rule x.rule (subst (λ rs. Contains rs x.rule) more h.among)) [
      | inl before ↦ inl (record { point = h.point; cap = h.cap; among = before; breaks = h.breaks })
      | inr same ↦ inr (same_failure x spot.point spot.cap rule h.point (sym same) h.cap, subst (FailsOnWalks u f spot.point c) (sym same) h.breaks)
    ]

    left : (x : RuleFailure) → IsNotedBy u f c spot (take i rules) x → IsNotedBy u f c spot (take (i + 1) rules) x
    left x h = record {
      point = h.point;
      cap = h.cap;
      among = subst (λ rs. Contains rs x.rule) (sym more) (Contains-append_left (take i rules) (rule ∷ []) x.rule h.among);
      breaks = h.breaks;
    }

    right : (x : RuleFailure) → IsNoted u f c spot rule x → IsNotedBy u f c spot (take (i + 1) rules) x
    right x h =
        let same : x.rule ≡ rule = ap (λ (y : RuleFailure). y.rule) h.0 in
        record {
          point = ap (λ (y : RuleFailure). y.point) h.0;
          cap = ap (λ (y : RuleFailure). y.cap) h.0;
          among = subst (Contains (take (i + 1) rules)) (sym same) (subst (λ rs. Contains rs rule) (sym more) (Contains-push (take i rules) rule));
          breaks = subst (FailsOnWalks u f spot.point c) (sym same) h.1;
        }

    -- one rule more
    pub rule_more : (old mid new : List RuleFailure) → Adds (IsNotedBy u f c spot (take i rules)) old mid → Adds (IsNoted u f c spot rule) mid new
        → Adds (IsNotedBy u f c spot (take (i + 1) rules)) old new
    rule_more old mid new =
        and_then (IsNotedBy u f c spot (take i rules)) (IsNoted u f c spot rule) (IsNotedBy u f c spot (take (i + 1) rules)) old mid new
        (λ x h g. fresh (subst (Contains (take i rules)) (ap (λ (y : RuleFailure). y.rule) g.0) h.among)) split left right

-- a point and a path of the function, by the numbers of a mark
module _ (u : Program) (f : Function) (paths : List Way) (row number : ℕ) where
  the_place : (x : RuleFailure) → Contains {X = ℕ × ℕ} ((row, number) ∷ []) (x.point, x.cap) → (x.point ≡ row) × (x.cap ≡ number)
  the_place x h = elim (Contains-push_cases {X = ℕ × ℕ} [] (row, number) (x.point, x.cap) h) [
    | inl none ↦ absurd (omega (arith, none.1))
    | inr e ↦ (ap (λ y. y.0) (sym e), ap (λ y. y.1) (sym e))
  ]

  module _ (within : row < length (points_of f)) (c : Way) (there : slice_get paths number ≡ Some c) (spot : Spot) (point : spot.point ≡ row) (numbered : spot.cap ≡ number) where
    told : (x : RuleFailure) → IsNotedBy u f c spot MARK_RULES x → IsOfMarks u f paths ((row, number) ∷ []) x
    told x h = record {
      noted = subst (Contains {X = ℕ × ℕ} ((row, number) ∷ [])) (ap₂ (λ p n. (p, n)) (sym point ∙ sym h.point) (sym numbered ∙ sym h.cap)) (Contains-push [] (row, number));
      asked = h.among;
      on_walks = record {
        within = subst (λ p. p < length (points_of f)) (sym (h.point ∙ point)) within;
        path = c;
        is_there = ap (slice_get paths) (h.cap ∙ numbered) ∙ there;
        breaks = subst (λ p. FailsOnWalks u f p c x.rule) (sym h.point) h.breaks;
      };
    }

    all : (x : RuleFailure) → IsOfMarks u f paths ((row, number) ∷ []) x → IsNotedBy u f c spot MARK_RULES x
    all x h =
        let at = the_place x h.noted in
        let same : h.on_walks.path ≡ c = one_there paths number h.on_walks.path c (ap (slice_get paths) (sym at.1) ∙ h.on_walks.is_there) there in
        record {
          point = at.0 ∙ sym point;
          cap = at.1 ∙ sym numbered;
          among = h.asked;
          breaks = subst (λ p. FailsOnWalks u f p c x.rule) (at.0 ∙ sym point) (subst (λ w. FailsOnWalks u f x.point w x.rule) same h.on_walks.breaks);
        }

    -- what is noted there is of the mark
    pub of_mark : (old new : List RuleFailure) → Adds (IsNotedBy u f c spot MARK_RULES) old new → Adds (IsOfMarks u f paths ((row, number) ∷ [])) old new
    of_mark old new = as_others (IsNotedBy u f c spot MARK_RULES) (IsOfMarks u f paths ((row, number) ∷ [])) old new told all

  -- a mark of another point or path says nothing
  pub of_none : (row < length (points_of f) → number < length paths → ⊥) → (xs : List RuleFailure) → Adds (IsOfMarks u f paths ((row, number) ∷ [])) xs xs
  of_none past xs = none_more (IsOfMarks u f paths ((row, number) ∷ [])) xs none
    where
      none : (x : RuleFailure) → IsOfMarks u f paths ((row, number) ∷ []) x → ⊥
      none x h =
          let at = the_place x h.noted in
          past (subst (λ p. p < length (points_of f)) at.0 h.on_walks.within) (subst (λ n. n < length paths) at.1 (slice_get_within paths x.cap h.on_walks.path h.on_walks.is_there))

-- one mark more
module _ (u : Program) (f : Function) (paths : List Way) (places : List (ℕ × ℕ)) (place : ℕ × ℕ) (fresh : Contains places place → ⊥) where
  split_mark : (x : RuleFailure) → IsOfMarks u f paths (places ++ place ∷ []) x → IsOfMarks u f paths places x ⊎ IsOfMarks u f paths (place ∷ []) x
  split_mark x h = elim (Contains-push_cases places place (x.point, x.cap) h.noted) [
    | inl before ↦ inl (record { noted = before; asked = h.asked; on_walks = h.on_walks })
    | inr same ↦ inr (record { noted = subst (Contains (place ∷ [])) same (Contains-push [] place); asked = h.asked; on_walks = h.on_walks })
  ]

  left_mark : (x : RuleFailure) → IsOfMarks u f paths places x → IsOfMarks u f paths (places ++ place ∷ []) x
  left_mark x h = record { noted = Contains-append_left places (place ∷ []) (x.point, x.cap) h.noted; asked = h.asked; on_walks = h.on_walks }

  right_mark : (x : RuleFailure) → IsOfMarks u f paths (place ∷ []) x → IsOfMarks u f paths (places ++ place ∷ []) x
  right_mark x h = record { noted = Contains-append_right places (place ∷ []) (x.point, x.cap) h.noted; asked = h.asked; on_walks = h.on_walks }

  apart_mark : (x : RuleFailure) → IsOfMarks u f paths places x → IsOfMarks u f paths (place ∷ []) x → ⊥
  apart_mark x h g = elim (Contains-push_cases [] place (x.point, x.cap) g.noted) [
    | inl none ↦ absurd (omega (arith, none.1))
    | inr same ↦ fresh (subst (Contains places) (sym same) h.noted)
  ]

  pub mark_more : (old mid new : List RuleFailure) → Adds (IsOfMarks u f paths places) old mid → Adds (IsOfMarks u f paths (place ∷ [])) mid new
      → Adds (IsOfMarks u f paths (places ++ place ∷ [])) old new
  mark_more old mid new = and_then (IsOfMarks u f paths places) (IsOfMarks u f paths (place ∷ [])) (IsOfMarks u f paths (places ++ place ∷ [])) old mid new apart_mark split_mark left_mark right_mark

-- no marks
pub no_marks : (u : Program) (f : Function) (paths : List Way) (xs : List RuleFailure) → Adds (IsOfMarks u f paths []) xs xs
no_marks u f paths xs = none_more (IsOfMarks u f paths []) xs (λ x h. absurd (omega (arith, h.noted.1)))

-- the places of marks: a mark that no other has the place of isn't among those before it
module _ {M : Type 0} (marks : List ((ℕ × ℕ) × M)) (i : ℕ) where
  abbrev places : List (ℕ × ℕ)
  places = map (λ e. e.0) marks

  place_of : (k : ℕ) (place : ℕ × ℕ) (o : Option ((ℕ × ℕ) × M)) → slice_get marks k ≡ o → option_map (λ e. e.0) o ≡ Some place → (m : M) × (slice_get marks k ≡ Some (place, m))
  place_of k place None is e = absurd cc
  place_of k place (Some x) is e = (x.1, is ∙ ap (λ p. Some (p, x.1)) (same_some e))

  pub fresh_place : (place : ℕ × ℕ) → ((k : ℕ) (m : M) → slice_get marks k ≡ Some (place, m) → k ≡ i) → Contains (take i places) place → ⊥
  fresh_place place only h =
      let y = in_front places i place h in
      let there : slice_get places y.0 ≡ Some place = slice_get-get_or places y.0 place y.1.1.0 ∙ ap Some y.1.1.1 in
      let z = place_of y.0 place (slice_get marks y.0) refl (sym (slice_get-map (λ e. e.0) marks y.0) ∙ there) in
      let same = only y.0 z.0 z.1 in
      omega (arith, y.1.0, same)

  pub next_place : (e : (ℕ × ℕ) × M) → slice_get marks i ≡ Some e → take (i + 1) places ≡ take i places ++ e.0 ∷ []
  next_place e there =
      let at : slice_get places i ≡ Some e.0 = slice_get-map (λ x. x.0) marks i ∙ ap (option_map (λ x. x.0)) there in
      take_more places i e.0 (slice_get_within places i e.0 at) ∙ ap (λ p. take i places ++ p ∷ []) (get_or_from_slice_get places i e.0 e.0 at)
