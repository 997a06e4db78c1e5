-- Nodes beside premises: what is told first of some nodes is what is told first of some premises.
use Rattle.std.proofs.Common.{◌≡◌, ◌∙◌, List, [], ◌∷◌, ◌++◌, Option, Some, None, refl, sym, ap}
use Rattle.tsa_tree.specs.types.FirstFailing.{codes_in_order, failure_at, first_failing_of}
use Rattle.tsa_tree.specs.types.Node.{Node}
use Rattle.tsa_tree.specs.types.Premises.{Premise, Failure, or_else, failure_of, first}

-- three failures in either association
pub or_else_or_else : (a b d : Option Failure) → or_else a (or_else b d) ≡ or_else (or_else a b) d
or_else_or_else (Some x) b d = refl
or_else_or_else None b d = refl

-- a failure before none
pub or_else_none : (a : Option Failure) → or_else a None ≡ a
or_else_none (Some x) = refl
or_else_none None = refl

-- the first premise that fails of two lists
pub first-append : (xs ys : List Premise) → first (xs ++ ys) ≡ or_else (first xs) (first ys)
unfolding first
first-append [] ys = refl
first-append (x ∷ xs) ys = ap (or_else (failure_of x)) (first-append xs ys) ∙ or_else_or_else (failure_of x) (first xs) (first ys)

-- the first node that fails of two lists
pub first_failing_of-append : (xs ys : List Node) → first_failing_of (xs ++ ys) ≡ or_else (first_failing_of xs) (first_failing_of ys)
unfolding first_failing_of
first_failing_of-append [] ys = refl
first_failing_of-append (x ∷ xs) ys =
    ap (or_else (failure_at codes_in_order x)) (first_failing_of-append xs ys) ∙ or_else_or_else (failure_at codes_in_order x) (first_failing_of xs) (first_failing_of ys)

-- some nodes and some premises of which the same is told
pub record Agree (ns : List Node) (ps : List Premise) : Type 0 where
  pub same : first_failing_of ns ≡ first ps

-- of nothing nothing is told
pub no_nodes : Agree [] []
unfolding first first_failing_of
no_nodes = record { same = refl }

-- some that agree before others that do
pub joined : {ns ms : List Node} {ps qs : List Premise} → Agree ns ps → Agree ms qs → Agree (ns ++ ms) (ps ++ qs)
joined {ns} {ms} {ps} {qs} a b = record {
  same = first_failing_of-append ns ms ∙ (ap (λ o. or_else o (first_failing_of ms)) a.same ∙ (ap (or_else (first ps)) b.same ∙ sym (first-append ps qs)));
}

-- a node with the premises of which the same is told, before others that agree
pub with_node : {ms : List Node} {qs : List Premise} (n : Node) (ps : List Premise) → failure_at codes_in_order n ≡ first ps → Agree ms qs → Agree (n ∷ ms) (ps ++ qs)
unfolding first_failing_of
with_node {ms} {qs} n ps told b = record {
  same = ap (λ o. or_else o (first_failing_of ms)) told ∙ (ap (or_else (first ps)) b.same ∙ sym (first-append ps qs));
}

-- one alone
pub a_node : (n : Node) (ps : List Premise) → failure_at codes_in_order n ≡ first ps → Agree (n ∷ []) ps
unfolding first_failing_of
a_node n ps told = record { same = or_else_none (failure_at codes_in_order n) ∙ told }

-- three lists of premises in the other association
pub regrouped : {ns : List Node} (ps qs rs : List Premise) → Agree ns ((ps ++ qs) ++ rs) → Agree ns (ps ++ (qs ++ rs))
regrouped {ns} ps qs rs a = record {
  same =
      a.same
      ∙ (first-append (ps ++ qs) rs
      ∙ (ap (λ o. or_else o (first rs)) (first-append ps qs)
      ∙ (sym (or_else_or_else (first ps) (first qs) (first rs))
      ∙ (ap (or_else (first ps)) (sym (first-append qs rs)) ∙ sym (first-append ps (qs ++ rs))))));
}
