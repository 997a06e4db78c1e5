-- Edges are compared one after another.
use Rattle.std.proofs.Common.{◌≡◌, ◌∙◌, ℕ, ◌+◌, ◌^◌, ◌<◌, ◌≤◌, ◌↔◌, ◌⊎◌, inl, inr, Bool, true, false, List, length, set, refl, sym, ap}
use Rattle.std.proofs.Common.{subst, arith, true≢false, get_or-set_same, get_or-set_other, length-set, zero, suc, [], ◌∷◌}
use Rattle.std.specs.List.{list_all}
use Rattle.std.proofs.Math.Decide.{ℕ_discrete}
use Rattle.std.proofs.lemmas.List.{set-get_or}
use Rattle.tsa_rules.specs.declared.status.Status.{Status}
use Rattle.tsa_rules.specs.declared.statuses.Statuses.{Statuses}
use Rattle.tsa_rules.specs.Sets.{Has}
use Rattle.tsa_flow_solver.specs.Agreeing.{Agrees, AreCompared, Differs, goes, IsAlike, IsApart, IsLaneCompared, Lacks, stays}
use Rattle.tsa_flow_solver.proofs.Lacking.{one_lacking, one_member}
use Rattle.tsa_flow_solver.specs.Rows.{flag_at, set_at}

abbrev pub Same : (Status → Type 0) → (Status → Type 0) → Type 0
Same A B = (s : Status) → A s ↔ B s

agrees_as : (row : Statuses) (A B : Status → Type 0) → Same A B → Agrees row B → Agrees row A
agrees_as row A B same h t s x y = (same s).1 (h t s ((same t).0 x) y)

lacks_as : (row : Statuses) (A B : Status → Type 0) → Same A B → Lacks row A → Lacks row B
lacks_as row A B same h = record { brought = h.brought; brings = (same h.brought).0 h.brings; lacked = h.lacked; has = h.has; lacks = λ x. h.lacks ((same h.lacked).1 x) }

differs_as : (row : Statuses) (A B : Status → Type 0) → Same A B → Differs row A → Differs row B
differs_as row A B same h inside = lacks_as row A B same (h (λ t x. inside t ((same t).0 x)))

-- no flag changes
pub none_compared : (E : Type 0) (leads : E → ℕ → Type 0) (brings : E → Status → Type 0) (rows : List Statuses) (flags : List Bool)
    → ((e : E) (c : ℕ) → leads e c → Agrees (set_at rows c) (brings e)) → AreCompared E leads brings rows flags flags
none_compared E leads brings rows flags agree = record { long = refl; kept = λ c f. (f, λ e l. agree e c l); lost = λ c f. inl f }

module _ (rows : List Statuses) (block : ℕ) (more : Statuses) (flags : List Bool) where
  abbrev Leads : Unit {0} → ℕ → Type 0
  Leads e c = block ≡ c

  abbrev Brings : Unit {0} → Status → Type 0
  Brings e s = Has more s

  -- a set of no statuses, or of all
  pub one_agrees : IsAlike more (set_at rows block) → AreCompared (Unit {0}) Leads Brings rows flags flags
  one_agrees o = none_compared (Unit {0}) Leads Brings rows flags (λ e c l t s x y. elim o [ inl empty ↦ absurd (empty t x) | inr same ↦ subst (λ z. Has z s) (ap (set_at rows) (sym l) ∙ sym same) y ])

  -- any other
  pub one_differs : block < length flags → Differs (set_at rows block) (Has more) → AreCompared (Unit {0}) Leads Brings rows flags (set flags block false)
  one_differs within differs = record {
    long = length-set flags block false;
    kept = λ c f. elim (ℕ_discrete c block) [
      | yes e ↦ absurd (true≢false (sym f ∙ (ap (flag_at (set flags block false)) e ∙ get_or-set_same flags block false true within)))
      | no d ↦ (sym (get_or-set_other flags block c false true d) ∙ f, λ e l. absurd (d (sym l)))
    ];
    lost = λ c f. elim (ℕ_discrete c block) [
      | yes e ↦ inr (tt, (sym e, subst (λ i. Differs (set_at rows i) (Has more)) (sym e) differs))
      | no d ↦ inl (sym (get_or-set_other flags block c false true d) ∙ f)
    ];
  }

  -- by the flag that comes of it
  pub one_compared : block < length flags → (new : Bool) → IsLaneCompared more (set_at rows block) (flag_at flags block) new
      → AreCompared (Unit {0}) Leads Brings rows flags (set flags block new)
  one_compared within new (stays alike same) = subst (AreCompared (Unit {0}) Leads Brings rows flags) (sym (ap (set flags block) same ∙ set-get_or flags block true)) (one_agrees alike)
  one_compared within new (goes differs lost) = subst (λ f. AreCompared (Unit {0}) Leads Brings rows flags (set flags block f)) (sym lost) (one_differs within differs)

-- a set with some statuses, and not all of another one, differs from it
pub apart_differs : (more row : Statuses) → more.bits < 2 ^ 64 → row.bits < 2 ^ 64 → IsApart more row → Differs row (Has more)
apart_differs more row fits fits' apart inside =
    let some = one_member more apart.0 in
    let other = one_lacking more row fits fits' inside apart.1 in
    record { brought = some.0; brings = some.1; lacked = other.0; has = other.1.0; lacks = other.1.1 }

-- some edges, and then some more
pub and_then : (E F G : Type 0) (leads : E → ℕ → Type 0) (brings : E → Status → Type 0) (leads' : F → ℕ → Type 0) (brings' : F → Status → Type 0) (leads'' : G → ℕ → Type 0) (brings'' : G → Status → Type 0)
    → (rows : List Statuses) (old mid new : List Bool)
    → ((g : G) (c : ℕ) → leads'' g c → ((e : E) × (leads e c × Same (brings'' g) (brings e))) ⊎ ((f : F) × (leads' f c × Same (brings'' g) (brings' f))))
    → ((e : E) (c : ℕ) → leads e c → (g : G) × (leads'' g c × Same (brings e) (brings'' g)))
    → ((f : F) (c : ℕ) → leads' f c → (g : G) × (leads'' g c × Same (brings' f) (brings'' g)))
    → AreCompared E leads brings rows old mid → AreCompared F leads' brings' rows mid new → AreCompared G leads'' brings'' rows old new
and_then E F G leads brings leads' brings' leads'' brings'' rows old mid new split left right first second = record {
  long = second.long ∙ first.long;
  kept = λ c f. let y = second.kept c f in let x = first.kept c y.0 in (
    x.0,
    λ g l. elim (split g c l) [
      | inl z ↦ agrees_as (set_at rows c) (brings'' g) (brings z.0) z.1.1 (x.1 z.0 z.1.0)
      | inr z ↦ agrees_as (set_at rows c) (brings'' g) (brings' z.0) z.1.1 (y.1 z.0 z.1.0)
    ],
  );
  lost = λ c f. elim (second.lost c f) [
    | inl h ↦ elim (first.lost c h) [
      | inl k ↦ inl k
      | inr x ↦ (let g = left x.0 c x.1.0 in inr (g.0, (g.1.0, differs_as (set_at rows c) (brings x.0) (brings'' g.0) g.1.1 x.1.1)))
    ]
    | inr y ↦ (let g = right y.0 c y.1.0 in inr (g.0, (g.1.0, differs_as (set_at rows c) (brings' y.0) (brings'' g.0) g.1.1 y.1.1)))
  ];
}

-- the same edges by another name
pub as_others : (E G : Type 0) (leads : E → ℕ → Type 0) (brings : E → Status → Type 0) (leads'' : G → ℕ → Type 0) (brings'' : G → Status → Type 0)
    → (rows : List Statuses) (old new : List Bool)
    → ((g : G) (c : ℕ) → leads'' g c → (e : E) × (leads e c × Same (brings'' g) (brings e)))
    → ((e : E) (c : ℕ) → leads e c → (g : G) × (leads'' g c × Same (brings e) (brings'' g)))
    → AreCompared E leads brings rows old new → AreCompared G leads'' brings'' rows old new
as_others E G leads brings leads'' brings'' rows old new split left first = record {
  long = first.long;
  kept = λ c f. let x = first.kept c f in (x.0, λ g l. let z = split g c l in agrees_as (set_at rows c) (brings'' g) (brings z.0) z.1.1 (x.1 z.0 z.1.0));
  lost = λ c f. elim (first.lost c f) [
    | inl k ↦ inl k
    | inr x ↦ (let g = left x.0 c x.1.0 in inr (g.0, (g.1.0, differs_as (set_at rows c) (brings x.0) (brings'' g.0) g.1.1 x.1.1)))
  ];
}

-- lanes are compared one by one
module _ (sent brought : List Statuses) (old now new : List Bool) (k : ℕ) (done : (l : ℕ) → l < k → IsLaneCompared (set_at sent l) (set_at brought l) (flag_at old l) (flag_at now l))
    (rest : (l : ℕ) → k ≤ l → flag_at now l ≡ flag_at old l) (elsewhere : (l : ℕ) → (l ≡ k → ⊥) → flag_at new l ≡ flag_at now l)
    (here : IsLaneCompared (set_at sent k) (set_at brought k) (flag_at old k) (flag_at new k)) where
  pub lanes_done : (l : ℕ) → l < k + 1 → IsLaneCompared (set_at sent l) (set_at brought l) (flag_at old l) (flag_at new l)
  lanes_done l less = elim (ℕ_discrete l k) [
    | yes e ↦ subst (λ m. IsLaneCompared (set_at sent m) (set_at brought m) (flag_at old m) (flag_at new m)) (sym e) here
    | no other ↦ subst (IsLaneCompared (set_at sent l) (set_at brought l) (flag_at old l)) (sym (elsewhere l other)) (done l (omega (arith, less, other)))
  ]

  pub lanes_rest : (l : ℕ) → k + 1 ≤ l → flag_at new l ≡ flag_at old l
  lanes_rest l low = elsewhere l (λ e. absurd (omega (arith, e, low))) ∙ rest l (omega (arith, low))

-- flags that all hold
pub flags_there : (flags : List Bool) → list_all (λ bit. bit) flags ≡ true → (lane : ℕ) → flag_at flags lane ≡ true
flags_there [] all lane = refl
flags_there (true ∷ flags) all zero = refl
flags_there (true ∷ flags) all (suc lane) = flags_there flags all lane
flags_there (false ∷ flags) all lane = absurd (true≢false (sym all))
