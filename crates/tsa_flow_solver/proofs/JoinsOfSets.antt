-- Sets of blocks take in statuses, in one lane.
use Rattle.std.proofs.Common.{◌≡◌, ◌∙◌, ℕ, ◌+◌, ◌<◌, ◌↔◌, ◌⊎◌, inl, inr, List, [], ◌∷◌, ◌++◌, length, get_or, set, take, All, Contains}
use Rattle.std.proofs.Common.{refl, sym, ap, subst, length-set, get_or-set_same, get_or-set_other}
use Rattle.std.proofs.Math.Decide.{ℕ_discrete}
use Rattle.std.proofs.lemmas.List.{set-get_or, take_more}
use Rattle.std.proofs.lemmas.List.Elements.{All-more, All-nil, All-weaker, Contains-append_left, Contains-push}
use Rattle.tsa_core.specs.Control.{Outcome}
use Rattle.tsa_graph_edges.specs.Links.{outcome_of}
use Rattle.tsa_graph.specs.declared.sequence.Exit.{Exit}
use Rattle.tsa_rules.specs.declared.statuses.Statuses.{Statuses}
use Rattle.tsa_rules.specs.Sets.{Has, IsImage}
use Rattle.tsa_rules.specs.declared.status.Status.{Status}
use Rattle.tsa_rules.proofs.SetBits.{has_or}
use Rattle.tsa_flow_solver.specs.Fronts.{HasMore, IsBrought, WorkedOut}
use Rattle.tsa_flow_solver.specs.Rows.{no_statuses, set_at, union}

module _ (rows : List Statuses) (to : ℕ) (more : Statuses) (inside : to < length rows) where
  abbrev after : Statuses
  after = union (set_at rows to) more

  abbrev with_more : List Statuses
  with_more = set rows to after

  here : set_at with_more to ≡ after
  here = get_or-set_same rows to after no_statuses inside

  elsewhere : (c : ℕ) → (c ≡ to → ⊥) → set_at with_more c ≡ set_at rows c
  elsewhere c d = get_or-set_other rows to c after no_statuses d

  keeps_with_more : HasMore rows with_more
  keeps_with_more c s h = elim (ℕ_discrete c to) [
    | yes e ↦ subst (λ y. Has y s) (sym (ap (set_at with_more) e ∙ here)) ((has_or (set_at rows to).bits more.bits s).1 (inl (subst (λ q. Has (set_at rows q) s) e h)))
    | no d ↦ subst (λ y. Has y s) (sym (elsewhere c d)) h
  ]

  pub only_with_more : (c : ℕ) (s : Status) → Has (set_at with_more c) s → Has (set_at rows c) s ⊎ ((to ≡ c) × Has more s)
  only_with_more c s h = elim (ℕ_discrete c to) [
    | yes e ↦ split e ((has_or (set_at rows to).bits more.bits s).0 (subst (λ y. Has y s) (ap (set_at with_more) e ∙ here) h))
    | no d ↦ inl (subst (λ y. Has y s) (elsewhere c d) h)
  ]
    where
      split : c ≡ to → Has (set_at rows to) s ⊎ Has more s → Has (set_at rows c) s ⊎ ((to ≡ c) × Has more s)
      split e (inl x) = inl (subst (λ q. Has (set_at rows q) s) (sym e) x)
      split e (inr x) = inr (sym e, x)

  pub takes_with_more : (s : Status) → Has more s → Has (set_at with_more to) s
  takes_with_more s h = subst (λ y. Has y s) (sym here) ((has_or (set_at rows to).bits more.bits s).1 (inr h))

-- a block waits where its row has grown
pub data Waits (before after : Statuses) (block : ℕ) (old new : List ℕ) : Type 0 where
  as_before : after ≡ before → new ≡ old → Waits before after block old new
  has_grown : new ≡ old ++ block ∷ [] → Waits before after block old new

-- nothing is worked out yet
pub none_out : (effect : Outcome → Status → Status) (last : Statuses) (rows : List Statuses) (work : List ℕ) → WorkedOut effect last [] rows rows work work
none_out effect last rows work = record {
  long = refl;
  more = λ c s h. h;
  takes = All-nil (λ x. (s : Status) → Has last s → Has (set_at rows x.to) (effect (outcome_of x.outcome) s));
  only = λ c t h. inl h;
  grows = λ c. inl refl;
}

module _ (effect : Outcome → Status → Status) (last : Statuses) (exits : List Exit) (i : ℕ) (d : Exit) (there : i < length exits) (old rows : List Statuses) (work mid : List ℕ) (before : WorkedOut effect last (take i exits) old rows work mid) where
  abbrev x : Exit
  x = get_or exits i d

  module _ (more : Statuses) (inside : x.to < length rows) (image : (t : Status) → Has more t ↔ IsImage (effect (outcome_of x.outcome)) last t) where
    abbrev new : List Statuses
    new = with_more rows x.to more inside

    abbrev Takes : List Statuses → Exit → Type 0
    Takes sets y = (s : Status) → Has last s → Has (set_at sets y.to) (effect (outcome_of y.outcome) s)

    takes_all : All (Takes new) (take (i + 1) exits)
    takes_all = All-more (Takes new) exits i d there (All-weaker (Takes rows) (Takes new) (λ y h s g. keeps_with_more rows x.to more inside y.to (effect (outcome_of y.outcome) s) (h s g)) (take i exits) before.takes)
        (λ s h. takes_with_more rows x.to more inside (effect (outcome_of x.outcome) s) ((image (effect (outcome_of x.outcome) s)).1 (s, (h, refl))))

    one_more : take (i + 1) exits ≡ take i exits ++ x ∷ []
    one_more = take_more exits i d there

    wider : (c : ℕ) (t : Status) → IsBrought effect last (take i exits) c t → IsBrought effect last (take (i + 1) exits) c t
    wider c t b = record { by = b.by; among = subst (λ ys. Contains ys b.by) (sym one_more) (Contains-append_left (take i exits) (x ∷ []) b.by b.among); leads = b.leads; before = b.before; gets = b.gets; makes = b.makes }

    brought : (c : ℕ) (t : Status) → x.to ≡ c → IsImage (effect (outcome_of x.outcome)) last t → IsBrought effect last (take (i + 1) exits) c t
    brought c t e y = record { by = x; among = subst (λ ys. Contains ys x) (sym one_more) (Contains-push (take i exits) x); leads = e; before = y.0; gets = y.1.0; makes = y.1.1 }

    only_all : (c : ℕ) (t : Status) → Has (set_at new c) t → Has (set_at old c) t ⊎ IsBrought effect last (take (i + 1) exits) c t
    only_all c t h = elim (only_with_more rows x.to more inside c t h) [
      | inl y ↦ elim (before.only c t y) [ inl z ↦ inl z | inr z ↦ inr (wider c t z) ]
      | inr y ↦ inr (brought c t y.0 ((image t).0 y.1))
    ]

    grown : WorkedOut effect last (take (i + 1) exits) old new work (mid ++ x.to ∷ [])
    grown = record {
      long = length-set rows x.to (union (set_at rows x.to) more) ∙ before.long;
      more = λ c s h. keeps_with_more rows x.to more inside c s (before.more c s h);
      takes = takes_all;
      only = only_all;
      grows = λ c. elim (ℕ_discrete c x.to) [
        | yes s ↦ inr (subst (Contains (mid ++ x.to ∷ [])) (sym s) (Contains-push mid x.to))
        | no s ↦ elim (before.grows c) [ inl y ↦ inl (elsewhere rows x.to more inside c s ∙ y) | inr y ↦ inr (Contains-append_left mid (x.to ∷ []) c y) ]
      ];
    }

    same : union (set_at rows x.to) more ≡ set_at rows x.to → WorkedOut effect last (take (i + 1) exits) old new work mid
    same e = record {
      long = length-set rows x.to (union (set_at rows x.to) more) ∙ before.long;
      more = λ c s h. keeps_with_more rows x.to more inside c s (before.more c s h);
      takes = takes_all;
      only = only_all;
      grows = λ c. elim (before.grows c) [ inl y ↦ inl (ap (λ ys. set_at ys c) still ∙ y) | inr y ↦ inr y ];
    }
      where
        still : new ≡ rows
        still = ap (set rows x.to) e ∙ set-get_or rows x.to no_statuses

    by : (mid' : List ℕ) → Waits (set_at rows x.to) (union (set_at rows x.to) more) x.to mid mid' → WorkedOut effect last (take (i + 1) exits) old new work mid'
    by mid' (as_before e is) = subst (WorkedOut effect last (take (i + 1) exits) old new work) (sym is) (same e)
    by mid' (has_grown is) = subst (WorkedOut effect last (take (i + 1) exits) old new work) (sym is) grown

    -- one exit more is worked out
    pub exit_out : (sets : List Statuses) (mid' : List ℕ) → sets ≡ set rows x.to (union (set_at rows x.to) more) → Waits (set_at rows x.to) (union (set_at rows x.to) more) x.to mid mid'
        → WorkedOut effect last (take (i + 1) exits) old sets work mid'
    exit_out sets mid' is w = subst (λ ys. WorkedOut effect last (take (i + 1) exits) old ys work mid') (sym is) (by mid' w)
