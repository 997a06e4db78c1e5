-- Exits that are noted, by the edges into the first points of blocks.
use Rattle.std.proofs.Common.{◌≡◌, ◌∙◌, ℕ, suc, ◌+◌, ◌<◌, ◌≤◌, arith, ◌⊎◌, inl, inr, List, [], ◌∷◌, ◌++◌, take, take-suc, length}
use Rattle.std.proofs.Common.{length-set, get_or, get_or-set_same, get_or-set_other, set, All, Contains, Some, slice_get, sym, ap}
use Rattle.std.proofs.Common.{subst}
use Rattle.std.proofs.lemmas.List.Elements.{All-get_or, Contains-append_left, Contains-push, Contains-push_cases}
use Rattle.std.proofs.lemmas.Option.{same_Some}
use Rattle.tsa_graph.specs.declared.blocks.GraphBlock.{GraphBlock}
use Rattle.tsa_graph.specs.declared.entries.Edge.{Edge}
use Rattle.tsa_graph.proofs.Paths.{either}
use Rattle.tsa_graph.specs.declared.sequence.Exit.{Exit}
use Rattle.tsa_graph.specs.declared.sequence.Place.{Place}
use Rattle.tsa_graph.specs.Noting.{block_at, exit_by, ComesFrom, AreNoted, IsExit, AreExits}
use Rattle.tsa_graph.proofs.Counts.{side}

-- one exit more
module _ (exits : List (List Exit)) (q : ℕ) (y : Exit) (inside : q < length exits) where
  abbrev list : List Exit
  list = get_or exits q [] ++ y ∷ []

  exit_kept : (b : ℕ) (x : Exit) → Contains (get_or exits b []) x → Contains (get_or (set exits q list) b []) x
  exit_kept b x h = by (either b q)
    where
      by : (b ≡ q) ⊎ (b ≡ q → ⊥) → Contains (get_or (set exits q list) b []) x
      by (inl is) =
          subst (λ k. Contains (get_or (set exits q list) k []) x) (sym is)
          (subst (λ xs. Contains xs x) (sym (get_or-set_same exits q list [] inside))
          (Contains-append_left (get_or exits q []) (y ∷ []) x (subst (λ k. Contains (get_or exits k []) x) is h)))
      by (inr other) = subst (λ xs. Contains xs x) (sym (get_or-set_other exits q b list [] other)) h

  exit_put : Contains (get_or (set exits q list) q []) y
  exit_put = subst (λ xs. Contains xs y) (sym (get_or-set_same exits q list [] inside)) (Contains-push (get_or exits q []) y)

  exit_was : (b : ℕ) (x : Exit) → Contains (get_or (set exits q list) b []) x → Contains (get_or exits b []) x ⊎ ((q ≡ b) × (y ≡ x))
  exit_was b x h = by (either b q)
    where
      at_last : (b ≡ q) → Contains list x → Contains (get_or exits b []) x ⊎ ((q ≡ b) × (y ≡ x))
      at_last is l =
          elim (Contains-push_cases (get_or exits q []) y x l) [ inl o ↦ inl (subst (λ k. Contains (get_or exits k []) x) (sym is) o) | inr e ↦ inr (sym is, e) ]

      by : (b ≡ q) ⊎ (b ≡ q → ⊥) → Contains (get_or exits b []) x ⊎ ((q ≡ b) × (y ≡ x))
      by (inl is) = at_last is (subst (λ xs. Contains xs x) (get_or-set_same exits q list [] inside) (subst (λ k. Contains (get_or (set exits q list) k []) x) is h))
      by (inr other) = inl (subst (λ xs. Contains xs x) (get_or-set_other exits q b list [] other) h)

-- one edge more
module _ (places : List Place) (into : List Edge) (to i : ℕ) (d : Edge) (within : i < length into) where
  abbrev e : Edge
  e = get_or into i d

  with_next : take (i + 1) into ≡ take i into ++ e ∷ []
  with_next = let one : i + 1 ≡ suc i = omega arith in ap (λ k. take k into) one ∙ take-suc into i d within

  from_before : (b : ℕ) (x : Exit) → ComesFrom places (take i into) to b x → ComesFrom places (take (i + 1) into) to b x
  from_before b x h = record {
    edge = h.edge;
    is_one = subst (λ xs. Contains xs h.edge) (sym with_next) (Contains-append_left (take i into) (e ∷ []) h.edge h.is_one);
    from = h.from;
    is_exit = h.is_exit;
  }

  from_next : (b : ℕ) (x : Exit) → block_at places e.from ≡ b → exit_by e to ≡ x → ComesFrom places (take (i + 1) into) to b x
  from_next b x f g = record { edge = e; is_one = subst (λ xs. Contains xs e) (sym with_next) (Contains-push (take i into) e); from = f; is_exit = g }

  from_cases : (b : ℕ) (x : Exit) → ComesFrom places (take (i + 1) into) to b x → ComesFrom places (take i into) to b x ⊎ ((block_at places e.from ≡ b) × (exit_by e to ≡ x))
  from_cases b x h = elim (Contains-push_cases (take i into) e h.edge (subst (λ xs. Contains xs h.edge) with_next h.is_one)) [
    | inl o ↦ inl (record { edge = h.edge; is_one = o; from = h.from; is_exit = h.is_exit })
    | inr is ↦ inr (ap (λ y. block_at places y.from) is ∙ h.from, ap (λ y. exit_by y to) is ∙ h.is_exit)
  ]

  pub next_note : (old mid new : List (List Exit)) → All (λ y. y.from < length places) into → All (λ at. at.block < length old) places → AreNoted places (take i into) to old mid
      → new ≡ set mid (block_at places e.from) (get_or mid (block_at places e.from) [] ++ exit_by e to ∷ []) → AreNoted places (take (i + 1) into) to old new
  next_note old mid new froms placed h is = subst (AreNoted places (take (i + 1) into) to old) (sym is) (record {
    size = length-set mid q (get_or mid q [] ++ exit_by e to ∷ []) ∙ h.size;
    each = λ b x. (on b x, back b x);
  })
    where
      q : ℕ
      q = block_at places e.from

      inside : q < length mid
      inside =
          let s = h.size in
          let w : e.from < length places = All-get_or (λ y. y.from < length places) into i d within froms in
          let p : q < length old = All-get_or (λ at. at.block < length old) places e.from (record { block = 0; index = 0 }) w placed in omega (arith, s, p)

      after : List (List Exit)
      after = set mid q (get_or mid q [] ++ exit_by e to ∷ [])

      on : (b : ℕ) (x : Exit) → Contains (get_or after b []) x → Contains (get_or old b []) x ⊎ ComesFrom places (take (i + 1) into) to b x
      on b x c = elim (exit_was mid q (exit_by e to) inside b x c) [
        | inl m ↦ elim ((h.each b x).0 m) [ inl o ↦ inl o | inr f ↦ inr (from_before b x f) ]
        | inr g ↦ inr (from_next b x g.0 g.1)
      ]

      put : (b : ℕ) (x : Exit) → (q ≡ b) → (exit_by e to ≡ x) → Contains (get_or after b []) x
      put b x f g = subst (λ k. Contains (get_or after k []) x) f (subst (Contains (get_or after q [])) g (exit_put mid q (exit_by e to) inside))

      kept : (b : ℕ) (x : Exit) → Contains (get_or mid b []) x → Contains (get_or after b []) x
      kept b x m = exit_kept mid q (exit_by e to) inside b x m

      back : (b : ℕ) (x : Exit) → Contains (get_or old b []) x ⊎ ComesFrom places (take (i + 1) into) to b x → Contains (get_or after b []) x
      back b x (inl o) = kept b x ((h.each b x).1 (inl o))
      back b x (inr f) = elim (from_cases b x f) [ inl g ↦ kept b x ((h.each b x).1 (inr g)) | inr g ↦ put b x g.0 g.1 ]

-- the edges into a further block
pub next_exits : (blocks : List GraphBlock) (places : List Place) (k : ℕ) (b : GraphBlock) (into : List Edge) (old new : List (List Exit)) → slice_get blocks k ≡ Some b → into ≡ b.into.items
    → AreExits blocks places k old → AreNoted places into k old new → AreExits blocks places (k + 1) new
next_exits blocks places k b into old new there same h n = record { size = n.size ∙ h.size; each = λ c x. (on c x, back c x) }
  where
    wider : (c : ℕ) (x : Exit) → IsExit blocks places k c x → IsExit blocks places (k + 1) c x
    wider c x e = record { to = e.to; within = (let w = e.within in omega (arith, w)); is_there = e.is_there; comes = e.comes }

    here : (c : ℕ) (x : Exit) → ComesFrom places into k c x → IsExit blocks places (k + 1) c x
    here c x f =
        let is : k ≡ x.to = ap (λ y. y.to) f.is_exit in
        record {
          to = b;
          within = omega (arith, is);
          is_there = ap (slice_get blocks) (sym is) ∙ there;
          comes = subst (λ t. ComesFrom places b.into.items t c x) is (subst (λ xs. ComesFrom places xs k c x) same f);
        }

    on : (c : ℕ) (x : Exit) → Contains (get_or new c []) x → IsExit blocks places (k + 1) c x
    on c x m = elim ((n.each c x).0 m) [ inl o ↦ wider c x ((h.each c x).0 o) | inr f ↦ here c x f ]

    back : (c : ℕ) (x : Exit) → IsExit blocks places (k + 1) c x → Contains (get_or new c []) x
    back c x e = by (side x.to k)
      where
        by : (x.to < k) ⊎ (k ≤ x.to) → Contains (get_or new c []) x
        by (inl w) = (n.each c x).1 (inl ((h.each c x).1 (record { to = e.to; within = w; is_there = e.is_there; comes = e.comes })))
        by (inr w) =
            let l = e.within in
            let is : x.to ≡ k = omega (arith, w, l) in
            let one : e.to ≡ b = same_Some e.to b (sym e.is_there ∙ ap (slice_get blocks) is ∙ there) in
            (n.each c x).1 (inr (subst (λ t. ComesFrom places into t c x) is (subst (λ xs. ComesFrom places xs x.to c x) (ap (λ y. y.into.items) one ∙ sym same) e.comes)))

-- all of them
pub all_exits : (blocks : List GraphBlock) (places : List Place) (k : ℕ) (exits : List (List Exit)) → k ≡ length blocks → AreExits blocks places k exits → AreExits blocks places (length blocks) exits
all_exits blocks places k exits is h = subst (λ m. AreExits blocks places m exits) is h
