-- Lists to which one thing after another is added.
use Rattle.std.proofs.Common.{◌≡◌, ◌∙◌, ◌+◌, ◌-◌, ◌<◌, ◌≤◌, ◌⊎◌, inl, inr, List, [], ◌∷◌, ◌++◌, length, get_or, Contains, append_assoc}
use Rattle.std.proofs.Common.{length-append, refl, sym, ap, subst, arith}
use Rattle.std.proofs.Math.Decide.{dec_lt}
use Rattle.std.proofs.Math.Seq.{get_or-append_right}
use Rattle.std.proofs.lemmas.List.{get_or_append_left}
use Rattle.std.proofs.lemmas.List.Elements.{Contains-append_cases, Contains-append_left, Contains-append_right, Contains-get_or}
use Rattle.std.proofs.lemmas.List.Elements.{Contains-push, Contains-push_cases}
use Rattle.tsa_warn_function.specs.Adding.{Adds, EachOnce}

module _ {X : Type 0} where
  -- two lists that have nothing in common, one behind the other
  once_both : (xs ys : List X) → EachOnce xs → EachOnce ys → ((x : X) → Contains xs x → Contains ys x → ⊥) → EachOnce (xs ++ ys)
  once_both xs ys one two apart i j d below within e = elim (dec_lt j (length xs)) [
    | yes inside ↦ one i j d below inside (sym (get_or_append_left xs ys d i (omega (arith, below, inside))) ∙ (e ∙ get_or_append_left xs ys d j inside))
    | no beyond ↦ by (omega (arith, beyond))
  ]
    where
      long : j < length xs + length ys
      long = subst (λ n. j < n) (length-append xs ys) within

      by : length xs ≤ j → ⊥
      by past = elim (dec_lt i (length xs)) [
        | yes inside ↦ apart (get_or xs i d) (Contains-get_or xs i d inside)
            (subst (Contains ys) (sym (get_or-append_right xs ys j d past) ∙ (sym e ∙ get_or_append_left xs ys d i inside)) (Contains-get_or ys (j - length xs) d (omega (arith, past, long))))
        | no beyond ↦ two (i - length xs) (j - length xs) d (omega (arith, below, beyond)) (omega (arith, past, long))
            (sym (get_or-append_right xs ys i d (omega (arith, beyond))) ∙ (e ∙ get_or-append_right xs ys j d past))
      ]

  -- nothing is added where there is nothing of the kind
  pub none_more : (P : X → Type 0) (xs : List X) → ((x : X) → P x → ⊥) → Adds P xs xs
  none_more P xs none = record {
    more = [];
    behind = sym (append_nil xs);
    told = λ x h. absurd (omega (arith, h.1));
    all = λ x h. absurd (none x h);
    once = λ i j d below within. absurd (omega (arith, below, within));
  }
    where
      append_nil : (ys : List X) → ys ++ [] ≡ ys
      append_nil [] = refl
      append_nil (y ∷ ys) = ap (λ zs. y ∷ zs) (append_nil ys)

  -- the only one of a kind
  pub one_more : (P : X → Type 0) (xs : List X) (y : X) → P y → ((x : X) → P x → x ≡ y) → Adds P xs (xs ++ y ∷ [])
  one_more P xs y is only = record {
    more = y ∷ [];
    behind = refl;
    told = λ x h. elim (Contains-push_cases [] y x h) [ inl none ↦ absurd (omega (arith, none.1)) | inr e ↦ subst P e is ];
    all = λ x h. subst (Contains (y ∷ [])) (sym (only x h)) (Contains-push [] y);
    once = λ i j d below within. absurd (omega (arith, below, within));
  }

  -- the same by another name
  pub as_others : (P Q : X → Type 0) (old new : List X) → ((x : X) → P x → Q x) → ((x : X) → Q x → P x) → Adds P old new → Adds Q old new
  as_others P Q old new there back h = record { more = h.more; behind = h.behind; told = λ x y. there x (h.told x y); all = λ x y. h.all x (back x y); once = h.once }

  -- two kinds that have nothing in common, one after the other
  pub and_then : (P Q R : X → Type 0) (old mid new : List X) → ((x : X) → P x → Q x → ⊥) → ((x : X) → R x → P x ⊎ Q x) → ((x : X) → P x → R x) → ((x : X) → Q x → R x)
      → Adds P old mid → Adds Q mid new → Adds R old new
  and_then P Q R old mid new apart split left right first second = record {
    more = first.more ++ second.more;
    behind = second.behind ∙ (ap (λ xs. xs ++ second.more) first.behind ∙ append_assoc old first.more second.more);
    told = λ x h. elim (Contains-append_cases first.more second.more x h) [ inl y ↦ left x (first.told x y) | inr y ↦ right x (second.told x y) ];
    all = λ x h. elim (split x h) [
      | inl y ↦ Contains-append_left first.more second.more x (first.all x y)
      | inr y ↦ Contains-append_right first.more second.more x (second.all x y)
    ];
    once = once_both first.more second.more first.once second.once (λ x y z. apart x (first.told x y) (second.told x z));
  }
