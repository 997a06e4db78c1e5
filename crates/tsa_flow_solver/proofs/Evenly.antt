-- Sets that are taken in evenly: no edges disagree.
use Rattle.std.proofs.Common.{◌≡◌, ◌∙◌, ℕ, ◌+◌, ◌<◌, ◌↔◌, ◌⊎◌, inl, inr, Bool, true, false, List, [], ◌∷◌, ◌++◌, length, get_or, set, take, Contains, Option, Some}
use Rattle.std.proofs.Common.{slice_get, refl, sym, ap, subst, arith, true≢false, get_or-set_same, get_or-set_other}
use Rattle.std.specs.Prelude.{Err, Ok, OnOk, Result}
use Rattle.std.proofs.Math.Decide.{ℕ_discrete}
use Rattle.std.proofs.lemmas.List.{set-get_or, take_more}
use Rattle.std.proofs.lemmas.List.Elements.{All-contains, Contains-push_cases}
use Rattle.std.specs.Int.Bits.{or_self}
use Rattle.tsa_core.specs.Control.{Outcome}
use Rattle.tsa_graph_edges.specs.Links.{outcome_of}
use Rattle.tsa_graph.specs.declared.sequence.Block.{Block}
use Rattle.tsa_graph.specs.declared.sequence.Blocks.{Blocks}
use Rattle.tsa_graph.specs.declared.sequence.Exit.{Exit}
use Rattle.tsa_graph.specs.declared.sequence.Place.{Place}
use Rattle.tsa_graph.specs.Rows.{last_in}
use Rattle.tsa_rules.specs.declared.case.Case.{Case}
use Rattle.tsa_rules.specs.declared.status.Status.{Status}
use Rattle.tsa_rules.specs.declared.statuses.Statuses.{Statuses}
use Rattle.tsa_rules.specs.Sets.{Has, IsEmpty, IsImage}
use Rattle.tsa_rules.proofs.SetBits.{has_or}
use Rattle.tsa_flow_solver.specs.Agreeing.{Agrees, AreArrivalsCompared, Arrival, at_entry, brings_by, by_exit, leads_by}
use Rattle.tsa_flow_solver.specs.Courses.{Carried, Leaves, leaving}
use Rattle.tsa_flow_solver.specs.Evenness.{AreEven, AreEvenOrWait, IsEnteredEvenly, IsEvenBy, IsSpreadEvenly, IsTurnedEvenly}
use Rattle.tsa_flow_solver.specs.Fronts.{HasTakenIn, WorkedOut}
use Rattle.tsa_flow_solver.specs.Rows.{no_statuses, row_at, set_at, union}
use Rattle.tsa_flow_solver.specs.Turns.{AreOpen, HaveBegun, IsClosedBy, IsTurn}
use Rattle.tsa_flow_solver.proofs.Complete.{none_carried, waiting_or_none}
use Rattle.tsa_flow_solver.proofs.EdgeComparisons.{none_compared}
use Rattle.tsa_flow_solver.proofs.Slots.{one_there}

-- two facts of the same success
pub both : {T E : Type 0} (P Q : Type 0) (r : Result T E) → OnOk r P → OnOk r Q → OnOk r (P × Q)
both P Q (Ok x) p q = (p, q)
both P Q (Err e) p q = tt

-- a row that takes itself in stays as it is
pub same_taken : (grid : List (List Statuses)) (block : ℕ) (row : List Statuses) (work : List ℕ) → row_at grid block ≡ row → HasTakenIn block row grid grid work work
same_taken grid block row work same = record {
  taken = row_at grid block;
  grown = false;
  is = record {
    long = refl;
    each = λ lane less. ap (λ n. record { bits = n }) (sym (or_self (set_at (row_at grid block) lane).bits)) ∙ ap (λ r. union (set_at (row_at grid block) lane) (set_at r lane)) same;
    small = λ h. h;
    same = λ e. refl;
    more = λ e. absurd (true≢false (sym e));
  };
  rows = sym (set-get_or grid block []);
  waits = refl;
}

-- In one lane a set takes in another one: the same, or the first.
module _ (rows : List Statuses) (to : ℕ) (more : Statuses) (inside : to < length rows) (even : (set_at rows to ≡ more) ⊎ IsEmpty (set_at rows to)) where
  abbrev new : List Statuses
  new = set rows to (union (set_at rows to) more)

  in_new : (s : Status) → Has (set_at new to) s → Has (set_at rows to) s ⊎ Has more s
  in_new s h = (has_or (set_at rows to).bits more.bits s).0 (subst (λ y. Has y s) (get_or-set_same rows to (union (set_at rows to) more) no_statuses inside) h)

  -- it has what it had alone, where it had something
  steady_here : Agrees (set_at new to) (Has (set_at rows to))
  steady_here t s had h = elim (in_new s h) [ inl x ↦ x | inr x ↦ elim even [ inl e ↦ subst (λ y. Has y s) (sym e) x | inr none ↦ absurd (none t had) ] ]

  pub taken_steady : (c : ℕ) → Agrees (set_at new c) (Has (set_at rows c))
  taken_steady c = elim (ℕ_discrete c to) [
    | yes e ↦ subst (λ i. Agrees (set_at new i) (Has (set_at rows i))) (sym e) steady_here
    | no d ↦ (λ t s had h. subst (λ y. Has y s) (get_or-set_other rows to c (union (set_at rows to) more) no_statuses d) h)
  ]

  -- and what is taken in alone
  pub taken_agrees : Agrees (set_at new to) (Has more)
  taken_agrees t s gets h = elim (in_new s h) [ inl x ↦ elim even [ inl e ↦ subst (λ y. Has y s) e x | inr none ↦ absurd (none s x) ] | inr x ↦ x ]

-- no exits are worked out yet
pub none_evenly : (effect : Outcome → Status → Status) (last : Statuses) (rows : List Statuses) (even : Bool) → IsSpreadEvenly effect last [] rows rows even even
none_evenly effect last rows even = record {
  was = λ e. e;
  steady = λ e c t s had h. h;
  agree = λ e x among. absurd (omega (arith, among.1));
}

-- one exit more
module _ (effect : Outcome → Status → Status) (last : Statuses) (exits : List Exit) (i : ℕ) (d : Exit) (there : i < length exits) (old rows : List Statuses) (work mid : List ℕ) (before now : Bool)
    (done : IsSpreadEvenly effect last (take i exits) old rows before now) (out : WorkedOut effect last (take i exits) old rows work mid) where
  abbrev x : Exit
  x = get_or exits i d

  module _ (more : Statuses) (inside : x.to < length rows) (image : (t : Status) → Has more t ↔ IsImage (effect (outcome_of x.outcome)) last t) (after : Bool)
      (even : after ≡ true → (now ≡ true) × ((set_at rows x.to ≡ more) ⊎ IsEmpty (set_at rows x.to))) where
    abbrev with_exit : List Statuses
    with_exit = set rows x.to (union (set_at rows x.to) more)

    -- an exit that brought all still does
    earlier : after ≡ true → (y : Exit) → Contains (take i exits) y → Agrees (set_at with_exit y.to) (IsImage (effect (outcome_of y.outcome)) last)
    earlier e y among t s brings h =
        let had : Has (set_at rows y.to) t = subst (Has (set_at rows y.to)) brings.1.1 (All-contains (λ z. (r : Status) → Has last r → Has (set_at rows z.to) (effect (outcome_of z.outcome) r)) (take i exits) y out.takes among brings.0 brings.1.0) in
        done.agree (even e).0 y among t s brings (taken_steady rows x.to more inside (even e).1 y.to t s had h)

    last_one : after ≡ true → Agrees (set_at with_exit x.to) (IsImage (effect (outcome_of x.outcome)) last)
    last_one e t s brings h = (image s).0 (taken_agrees rows x.to more inside (even e).1 t s ((image t).1 brings) h)

    pub exit_evenly : (sets : List Statuses) → sets ≡ with_exit → IsSpreadEvenly effect last (take (i + 1) exits) old sets before after
    exit_evenly sets is = subst (λ ys. IsSpreadEvenly effect last (take (i + 1) exits) old ys before after) (sym is) (record {
      was = λ e. done.was (even e).0;
      steady = λ e c t s had h. done.steady (even e).0 c t s had (taken_steady rows x.to more inside (even e).1 c t s (out.more c t had) h);
      agree = λ e y among. elim (Contains-push_cases (take i exits) x y (subst (λ ys. Contains ys y) (take_more exits i d there) among)) [
        | inl m ↦ earlier e y m
        | inr same ↦ subst (λ z. Agrees (set_at with_exit z.to) (IsImage (effect (outcome_of z.outcome)) last)) same (last_one e)
      ];
    })

-- A block is worked out: what holds of others that wait or are even still does.
module _ (cases : ℕ → Case) (blocks : List Block) (number : ℕ) (old new : List Statuses) (work work' : List ℕ) (turn : IsTurn cases blocks number old new work work') (keeps : (c : ℕ) → Contains work c → Contains work' c)
    (before after : Bool) (evenly : IsTurnedEvenly cases blocks number old new before after) (e : after ≡ true) where
  abbrev b : Block
  b = evenly.block

  -- the block itself, where its own set stays
  even_here : set_at new number ≡ set_at old number → IsEvenBy cases b (set_at new number) new
  even_here same x among t s brings h =
      let was : Leaves cases b (set_at old number) (outcome_of x.outcome) t = subst (λ r. Leaves cases b r (outcome_of x.outcome) t) same brings in
      let made = evenly.out.agree e x among t s (was.0, ((evenly.gets was.0).1 was.1.0, was.1.1)) h in
      subst (λ r. Leaves cases b r (outcome_of x.outcome) s) (sym same) (made.0, ((evenly.gets made.0).0 made.1.0, made.1.1))

  -- another block, where its set stays
  even_still : (c : ℕ) (d : Block) → set_at new c ≡ set_at old c → IsClosedBy cases d (set_at old c) old → IsEvenBy cases d (set_at old c) old → IsEvenBy cases d (set_at new c) new
  even_still c d same closed even x among t s brings h =
      let was : Leaves cases d (set_at old c) (outcome_of x.outcome) t = subst (λ r. Leaves cases d r (outcome_of x.outcome) t) same brings in
      let had : Has (set_at old x.to) t = subst (Has (set_at old x.to)) was.1.1
      (All-contains (λ y. (r : Status) → Carried cases d (set_at old c) (last_in d) r → Has (set_at old y.to) (leaving cases d (outcome_of y.outcome) r)) d.exits.items x closed among was.0 was.1.0) in
      subst (λ r. Leaves cases d r (outcome_of x.outcome) s) (sym same) (even x among t s was (evenly.out.steady e x.to t s had h))

  pub even_on : AreOpen cases blocks old (work ++ number ∷ []) → AreEvenOrWait cases blocks old (work ++ number ∷ []) → AreEvenOrWait cases blocks new work'
  even_on opened even c d at = elim (turn.out.grows c) [
    | inr x ↦ inl x
    | inl same ↦ elim (ℕ_discrete c number) [
      | yes is ↦ inr (own is same)
      | no other ↦ elim (even c d at) [
        | inl m ↦ inl (waiting other m)
        | inr h ↦ elim (opened c d at) [ inl m ↦ inl (waiting other m) | inr closed ↦ inr (even_still c d same closed h) ]
      ]
    ]
  ]
    where
      waiting : (c ≡ number → ⊥) → Contains (work ++ number ∷ []) c → Contains work' c
      waiting other m = keeps c (elim (Contains-push_cases work number c m) [ inl x ↦ x | inr x ↦ absurd (other (sym x)) ])

      own : c ≡ number → set_at new c ≡ set_at old c → IsEvenBy cases d (set_at new c) new
      own is same =
          subst (λ i. IsEvenBy cases d (set_at new i) new) (sym is)
          (subst (λ y. IsEvenBy cases y (set_at new number) new) (one_there blocks number b d evenly.is_there (subst (λ i. slice_get blocks i ≡ Some d) is at))
          (even_here (subst (λ i. set_at new i ≡ set_at old i) is same)))

  pub entered_on : (entry : Status) (r : Blocks) → IsEnteredEvenly entry r old → IsEnteredEvenly entry r new
  entered_on entry r h at is =
      let was = h at is in
      (turn.out.more at.block entry was.0, λ s x. was.1 s (evenly.out.steady e at.block entry s was.0 x))

-- at the beginning
module _ (entry : Status) (cases : ℕ → Case) (r : Blocks) (rows : List Statuses) (work : List ℕ) (begun : HaveBegun entry r rows work) where
  pub entered_first : IsEnteredEvenly entry r rows
  entered_first at is = (begun.begins at is, λ s x. (begun.only at.block s x).0)

  even_by : (first : Option Place) → slice_get r.places.items 0 ≡ first → (c : ℕ) (b : Block) → Contains work c ⊎ IsEvenBy cases b (set_at rows c) rows
  even_by first is c b = elim (waiting_or_none entry cases r rows work begun first is c) [
    | inl x ↦ inl x
    | inr none ↦ inr (λ x among t s brings h. absurd (none_carried cases b (set_at rows c) none (last_in b) brings.0 brings.1.0))
  ]

  pub even_first : AreEvenOrWait cases r.blocks.items rows work
  even_first c b at = even_by (slice_get r.places.items 0) refl c b

-- at the end: no edge disagrees with what is brought where it leads
pub even_compared : (entry : Status) (cases : ℕ → Case) (r : Blocks) (rows : List Statuses) (upto : ℕ) (flags : List Bool) → AreEven entry cases r rows
    → AreArrivalsCompared entry cases r upto rows flags flags
even_compared entry cases r rows upto flags even = none_compared Arrival (leads_by r upto) (brings_by entry cases rows) rows flags agree
  where
    agree : (a : Arrival) (c : ℕ) → leads_by r upto a c → Agrees (set_at rows c) (brings_by entry cases rows a)
    agree (at_entry at) c l t s is h = (even.entered at l.0).1 s (subst (λ i. Has (set_at rows i) s) (sym l.1) h)
    agree (by_exit number b x) c l t s brings h = even.all number b l.1.0.is_there x l.1.1.0 t s brings (subst (λ i. Has (set_at rows i) s) (sym l.1.1.1) h)
