-- A further run beside those before it.
use Rattle.std.proofs.Common.{◌≡◌, ◌∙◌, ℕ, ◌+◌, ◌<◌, arith, Bool, nat_eq, List, [], ◌∷◌, ◌++◌, length, reverse, Option, Some, None, refl}
use Rattle.std.proofs.Common.{sym, ap, subst}
use Rattle.std.proofs.lemmas.List.{reverse-append}
use Rattle.tsa_graph.specs.Runs.{step, first_of, last_of, AreWays, IsChain, IsLongest, bit, times, times_in}
use Rattle.tsa_graph.specs.Tracing.{is_seen, IsMarked, IsBack, end_of, IsRound, AreRuns}
use Rattle.tsa_graph.proofs.Lists.{times_push, times_in_push, longest_push, last_push, chain_push}
use Rattle.tsa_graph.proofs.Paths.{some_same, some_none}

module _ (next back : List (Option ℕ)) (ways : AreWays next back) where
  pub one_next : (p q r : ℕ) → step next p ≡ Some r → step next q ≡ Some r → p ≡ q
  one_next p q r e f = some_same p q (sym (ways.on p r e) ∙ ways.on q r f)

  pub one_back : (p q r : ℕ) → step back p ≡ Some r → step back q ≡ Some r → p ≡ q
  one_back p q r e f = some_same p q (sym (ways.from r p e) ∙ ways.from r q f)

  pub inside_back : (p q : ℕ) → step back p ≡ Some q → q < length back
  inside_back p q e = let h = ways.inside q p (ways.from q p e) in let s = ways.size in omega (arith, h, s)

  pub path_runs : (before after : List Bool) (old new : List (List ℕ)) (run : List ℕ) → AreRuns next before old → IsChain next run → step next (last_of run) ≡ None
      → IsMarked run before after → length after ≡ length next → new ≡ old ++ run ∷ [] → AreRuns next after new
  path_runs before after old new run h chain ends marks size is = subst (AreRuns next after) (sym is) (record {
    size = size;
    each = longest_push next old run h.each (record { chain = chain; ends = λ q e. some_none q (step next (last_of run)) e ends });
    once = λ p. let a = times_in_push p old run in let b = h.once p in let m = marks p in omega (arith, a, b, m);
  })

  -- what leads back round a point, in the order in which it leads on
  turned : (p : ℕ) (qs : List ℕ) → IsBack back p qs → IsChain next (reverse qs ++ p ∷ []) × (first_of (reverse qs ++ p ∷ []) ≡ end_of p qs)
  turned p [] h = (tt, refl)
  turned p (q ∷ qs) h =
      let i = turned q qs h.1 in
      let X = reverse qs ++ q ∷ [] in
      let flip : reverse (q ∷ qs) ≡ X = reverse-append (q ∷ []) qs in
      subst (λ xs. IsChain next (xs ++ p ∷ []) × (first_of (xs ++ p ∷ []) ≡ end_of q qs)) (sym flip)
      (chain_push next X p i.0 (ap (step next) (last_push (reverse qs) q) ∙ ways.from q p h.0), first_kept (reverse qs) q p ∙ i.1)
    where
      first_kept : (xs : List ℕ) (q p : ℕ) → first_of ((xs ++ q ∷ []) ++ p ∷ []) ≡ first_of (xs ++ q ∷ [])
      first_kept [] q p = refl
      first_kept (x ∷ xs) q p = refl

  -- without its last point, which the one before it leads to
  shorter : (xs : List ℕ) (x h : ℕ) → IsChain next ((x ∷ xs) ++ h ∷ []) → IsChain next (x ∷ xs) × (step next (last_of (x ∷ xs)) ≡ Some h)
  shorter [] x h c = (tt, c.0)
  shorter (y ∷ ys) x h c = let i = shorter ys y h c.1 in ((c.0, i.0), i.1)

  round_longest : (head : ℕ) (rest : List ℕ) → IsRound back head rest → IsLongest next (head ∷ reverse rest)
  round_longest head rest h = by (reverse rest) (turned head rest h.0) (ways.from head (end_of head rest) h.1)
    where
      by : (xs : List ℕ) → IsChain next (xs ++ head ∷ []) × (first_of (xs ++ head ∷ []) ≡ end_of head rest) → step next head ≡ Some (end_of head rest) → IsLongest next (head ∷ xs)
      by [] c e = record { chain = tt; ends = λ q f. some_same q head (sym f ∙ e ∙ ap Some (sym c.1)) }
      by (x ∷ xs) c e =
          let i = shorter xs x head c.0 in
          record { chain = (e ∙ ap Some (sym c.1), i.0); ends = λ q f. some_same q head (sym f ∙ i.1) }

  times_turned : (p : ℕ) (qs : List ℕ) → times p (reverse qs) ≡ times p qs
  times_turned p [] = refl
  times_turned p (q ∷ qs) =
      let flip : reverse (q ∷ qs) ≡ reverse qs ++ q ∷ [] = reverse-append (q ∷ []) qs in
      let a = ap (times p) flip in
      let b = times_push p (reverse qs) q in
      let c = times_turned p qs in omega (arith, a, b, c)

  pub round_runs : (before after : List Bool) (old new : List (List ℕ)) (head : ℕ) (rest run : List ℕ) → AreRuns next before old → IsRound back head rest
      → IsMarked (head ∷ rest) before after → length after ≡ length back → run ≡ head ∷ reverse rest → new ≡ old ++ run ∷ [] → AreRuns next after new
  round_runs before after old new head rest run h round marks size made is = subst (AreRuns next after) (sym (is ∙ ap (λ r. old ++ r ∷ []) made)) (record {
    size = size ∙ ways.size;
    each = longest_push next old (head ∷ reverse rest) h.each (round_longest head rest round);
    once = λ p.
        let a = times_in_push p old (head ∷ reverse rest) in
        let b = h.once p in
        let m = marks p in
        let t = times_turned p rest in omega (arith, a, b, m, t);
  })
