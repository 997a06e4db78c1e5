-- A further edge of the points.
use Rattle.std.proofs.Common.{◌≡◌, ◌∙◌, ℕ, zero, suc, ◌+◌, ◌<◌, arith, take, replicate, subst, Bool, true, false, nat_eq, ◌⊎◌, inl, inr}
use Rattle.std.proofs.Common.{List, [], ◌∷◌, ◌++◌, map, length, set, length-set, get_or, get_or-set_same, get_or-set_other, if◌then◌else◌}
use Rattle.std.proofs.Common.{refl, sym, ap, ap₂}
use Rattle.std.proofs.lemmas.Bool.Decides.{nat_tests}
use Rattle.std.proofs.lemmas.List.{map_push}
use Rattle.std.proofs.Math.Seq.{take-suc}
use Rattle.tsa_core.specs.Control.{Edge}
use Rattle.tsa_graph_edges.specs.declared.link.Link.{Link}
use Rattle.tsa_graph_edges.specs.Links.{edge_of}
use Rattle.tsa_graph.specs.declared.entries.Edge as code
use Rattle.tsa_graph.specs.declared.arcs.Exit.{Exit}
use Rattle.tsa_graph.specs.declared.arcs.Exit.TheVariants.{Nowhere}
use Rattle.tsa_graph.specs.Arcs.{exit_of, more, entry_of, AreArcs}
use Rattle.tsa_graph.specs.Edges.{edges_from, edges_into}
use Rattle.tsa_graph.proofs.WaysMade.{equal}
use Rattle.tsa_graph.proofs.Paths.{either, not_true}

apart : (p q : ℕ) → (p ≡ q → ⊥) → nat_eq p q ≡ false
apart p q other = not_true (nat_eq p q) (λ e. other (grind (arith, nat_tests, e)))

chosen : (b : Bool) (e : Edge) (xs ys zs : List Edge) → xs ≡ ys ++ zs → (if b then e ∷ xs else xs) ≡ (if b then e ∷ ys else ys) ++ zs
chosen true e xs ys zs h = ap (λ v. e ∷ v) h
chosen false e xs ys zs h = h

abbrev last_from : ℕ → Edge → List Edge
last_from p e = if nat_eq e.from p then e ∷ [] else []

abbrev last_into : ℕ → Edge → List Edge
last_into q e = if nat_eq e.to q then e ∷ [] else []

from_push : (p : ℕ) (es : List Edge) (e : Edge) → edges_from p (es ++ e ∷ []) ≡ edges_from p es ++ last_from p e
from_push p [] e = refl
from_push p (x ∷ es) e = chosen (nat_eq x.from p) x (edges_from p (es ++ e ∷ [])) (edges_from p es) (last_from p e) (from_push p es e)

into_push : (q : ℕ) (es : List Edge) (e : Edge) → edges_into q (es ++ e ∷ []) ≡ edges_into q es ++ last_into q e
into_push q [] e = refl
into_push q (x ∷ es) e = chosen (nat_eq x.to q) x (edges_into q (es ++ e ∷ [])) (edges_into q es) (last_into q e) (into_push q es e)

exit_push : (xs : List Edge) (e : Edge) → exit_of (xs ++ e ∷ []) ≡ more (exit_of xs) e.to
exit_push [] e = refl
exit_push (x ∷ []) e = refl
exit_push (x ∷ y ∷ xs) e = refl

unmoved : (xs : List Edge) → xs ++ [] ≡ xs
unmoved [] = refl
unmoved (x ∷ xs) = ap (λ ys. x ∷ ys) (unmoved xs)

from_here : (p : ℕ) (es : List Edge) (e : Edge) → p ≡ e.from → edges_from p (es ++ e ∷ []) ≡ edges_from p es ++ e ∷ []
from_here p es e is = from_push p es e ∙ ap (λ b. edges_from p es ++ (if b then e ∷ [] else [])) (equal e.from p (sym is))

from_other : (p : ℕ) (es : List Edge) (e : Edge) → (p ≡ e.from → ⊥) → edges_from p (es ++ e ∷ []) ≡ edges_from p es
from_other p es e other =
    from_push p es e ∙ ap (λ b. edges_from p es ++ (if b then e ∷ [] else [])) (apart e.from p (λ is. other (sym is))) ∙ unmoved (edges_from p es)

into_here : (q : ℕ) (es : List Edge) (e : Edge) → q ≡ e.to → edges_into q (es ++ e ∷ []) ≡ edges_into q es ++ e ∷ []
into_here q es e is = into_push q es e ∙ ap (λ b. edges_into q es ++ (if b then e ∷ [] else [])) (equal e.to q (sym is))

into_other : (q : ℕ) (es : List Edge) (e : Edge) → (q ≡ e.to → ⊥) → edges_into q (es ++ e ∷ []) ≡ edges_into q es
into_other q es e other =
    into_push q es e ∙ ap (λ b. edges_into q es ++ (if b then e ∷ [] else [])) (apart e.to q (λ is. other (sym is))) ∙ unmoved (edges_into q es)

module _ (n : ℕ) (es : List Edge) (outs : List Exit) (ins : List (List code.Edge)) (h : AreArcs n es outs ins) (l : Link) (c : code.Edge) (same : entry_of l.to c ≡ edge_of l) where
  abbrev e : Edge
  e = edge_of l

  pub noted : (outs' : List Exit) (ins' : List (List code.Edge)) → l.from < length outs → outs' ≡ set outs l.from (more (get_or outs l.from Nowhere) l.to)
      → l.to < length ins → ins' ≡ set ins l.to (get_or ins l.to [] ++ c ∷ []) → AreArcs n (es ++ e ∷ []) outs' ins'
  noted outs' ins' a is b was = record {
    outs_size = ap length is ∙ length-set outs l.from (more (get_or outs l.from Nowhere) l.to) ∙ h.outs_size;
    ins_size = ap length was ∙ length-set ins l.to (get_or ins l.to [] ++ c ∷ []) ∙ h.ins_size;
    exits = λ p g. ap (λ xs. get_or xs p Nowhere) is ∙ exit p g (either p l.from);
    entries = λ q g. ap (λ xs. map (entry_of q) (get_or xs q [])) was ∙ entry q g (either q l.to);
    froms = λ p g. from_other p es e (λ x. let s = h.outs_size in let no : ⊥ = omega (arith, a, s, g, x) in no) ∙ h.froms p g;
    intos = λ q g. into_other q es e (λ x. let s = h.ins_size in let no : ⊥ = omega (arith, b, s, g, x) in no) ∙ h.intos q g;
  }
    where
      exit : (p : ℕ) → p < n → (p ≡ l.from) ⊎ (p ≡ l.from → ⊥) → get_or (set outs l.from (more (get_or outs l.from Nowhere) l.to)) p Nowhere ≡ exit_of (edges_from p (es ++ e ∷ []))
      exit p g (inl x) =
          ap (λ k. get_or (set outs l.from (more (get_or outs l.from Nowhere) l.to)) k Nowhere) x
          ∙ get_or-set_same outs l.from (more (get_or outs l.from Nowhere) l.to) Nowhere a
          ∙ ap (λ k. more (get_or outs k Nowhere) l.to) (sym x) ∙ ap (λ k. more k l.to) (h.exits p g) ∙ sym (exit_push (edges_from p es) e) ∙ ap exit_of (sym (from_here p es e x))
      exit p g (inr other) =
          get_or-set_other outs l.from p (more (get_or outs l.from Nowhere) l.to) Nowhere other ∙ h.exits p g ∙ ap exit_of (sym (from_other p es e other))

      entry : (q : ℕ) → q < n → (q ≡ l.to) ⊎ (q ≡ l.to → ⊥) → map (entry_of q) (get_or (set ins l.to (get_or ins l.to [] ++ c ∷ [])) q []) ≡ edges_into q (es ++ e ∷ [])
      entry q g (inl x) =
          ap (λ k. map (entry_of q) (get_or (set ins l.to (get_or ins l.to [] ++ c ∷ [])) k [])) x
          ∙ ap (map (entry_of q)) (get_or-set_same ins l.to (get_or ins l.to [] ++ c ∷ []) [] b)
          ∙ map_push (entry_of q) (get_or ins l.to []) c
          ∙ ap₂ (λ k m. map (entry_of q) (get_or ins k []) ++ entry_of m c ∷ []) (sym x) x ∙ ap₂ (λ xs y. xs ++ y ∷ []) (h.entries q g) same ∙ sym (into_here q es e x)
      entry q g (inr other) =
          ap (map (entry_of q)) (get_or-set_other ins l.to q (get_or ins l.to [] ++ c ∷ []) [] other) ∙ h.entries q g ∙ sym (into_other q es e other)

-- along the links
pub next_noted : (n : ℕ) (links : List Link) (i : ℕ) (d : Link) (outs outs' : List Exit) (ins ins' : List (List code.Edge)) → i < length links
    → AreArcs n (map edge_of (take i links)) outs ins → (get_or links i d).from < length outs
    → outs' ≡ set outs (get_or links i d).from (more (get_or outs (get_or links i d).from Nowhere) (get_or links i d).to) → (get_or links i d).to < length ins
    → ins' ≡ set ins (get_or links i d).to (get_or ins (get_or links i d).to [] ++ (record { from = (get_or links i d).from; outcome = (get_or links i d).outcome }) ∷ [])
    → AreArcs n (map edge_of (take (i + 1) links)) outs' ins'
next_noted n links i d outs outs' ins ins' within h a is b was =
    let l = get_or links i d in
    let one : i + 1 ≡ suc i = omega arith in
    let listed : map edge_of (take (i + 1) links) ≡ map edge_of (take i links) ++ edge_of l ∷ [] =
    ap (λ k. map edge_of (take k links)) one ∙ ap (map edge_of) (take-suc links i d within) ∙ map_push edge_of (take i links) l
    in
    subst (λ es. AreArcs n es outs' ins') (sym listed) (noted n (map edge_of (take i links)) outs ins h l (record { from = l.from; outcome = l.outcome }) refl outs' ins' a is b was)

-- no edges yet
pub none_noted : (n : ℕ) (outs : List Exit) (ins : List (List code.Edge)) → outs ≡ replicate n Nowhere → length outs ≡ n → length ins ≡ n → ((q : ℕ) → get_or ins q [] ≡ []) → AreArcs n [] outs ins
none_noted n outs ins is a b none = record {
  outs_size = a;
  ins_size = b;
  exits = λ p g. ap (λ xs. get_or xs p Nowhere) is ∙ nowhere n p;
  entries = λ q g. ap (map (entry_of q)) (none q);
  froms = λ p g. refl;
  intos = λ q g. refl;
}
  where
    nowhere : (m p : ℕ) → get_or (replicate m Nowhere) p Nowhere ≡ Nowhere
    nowhere zero p = refl
    nowhere (suc m) zero = refl
    nowhere (suc m) (suc p) = nowhere m p
