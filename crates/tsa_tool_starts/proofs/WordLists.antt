-- Words that are good, one after the other.
use Rattle.std.proofs.Common.{◌≡◌, ℕ, zero, suc, ◌+◌, arith, List, [], ◌∷◌, ◌++◌, take, Some, Result, Err, slice_get, sym, ap, subst}
use Rattle.tsa_tree.specs.units.Syntax.{UnitItem}
use Rattle.tsa_place_model.specs.Calls.{Layout}
use Rattle.tsa_core.proofs.TypedTerms.{some_same}
use Rattle.tsa_mean.specs.Starts.{Begin}
use Rattle.tsa_tool_starts.specs.declared.refusal.StartRefusal.{StartRefusal}
use Rattle.tsa_tool_starts.specs.declared.refusal.StartRefusal.TheVariants.{Word}
use Rattle.tsa_tool_starts.specs.Starts.{AreGoodWords, IsGoodWord, IsRefused}

module _ (items : List UnitItem) (l : Layout) where
  are_more : (words : List (List ℕ)) (begins : List Begin) (word : List ℕ) (b : Begin) → AreGoodWords items l words begins → IsGoodWord items l word b
      → AreGoodWords items l (words ++ word ∷ []) (begins ++ b ∷ [])
  are_more [] [] word b h good = (good, tt)
  are_more [] (c ∷ begins) word b h good = absurd h
  are_more (w ∷ words) [] word b h good = absurd h
  are_more (w ∷ words) (c ∷ begins) word b h good = (h.0, are_more words begins word b h.1 good)

  one_more : (words : List (List ℕ)) (n : ℕ) (word : List ℕ) → slice_get words n ≡ Some word → take (suc n) words ≡ take n words ++ word ∷ []
  one_more [] n word at = absurd cc
  one_more (w ∷ words) zero word at = ap (λ x. x ∷ []) (some_same at)
  one_more (w ∷ words) (suc n) word at = ap (λ ws. w ∷ ws) (one_more words n word at)

  -- the next one is good too
  pub goes_on : (words : List (List ℕ)) (begins after : List Begin) (n : ℕ) (word : List ℕ) (b : Begin) → slice_get words n ≡ Some word → AreGoodWords items l (take n words) begins
      → IsGoodWord items l word b → after ≡ begins ++ b ∷ [] → AreGoodWords items l (take (n + 1) words) after
  goes_on words begins after n word b at h good is =
      let plus : suc n ≡ n + 1 = omega arith in
      subst (λ m. AreGoodWords items l (take m words) after) plus
      (subst (λ ws. AreGoodWords items l ws after) (sym (one_more words n word at))
      (subst (AreGoodWords items l (take n words ++ word ∷ [])) (sym is) (are_more (take n words) begins word b h good)))

  -- or the first that isn't
  pub refused : (words : List (List ℕ)) (begins : List Begin) (n number : ℕ) (word : List ℕ) → n ≡ number → slice_get words n ≡ Some word → AreGoodWords items l (take n words) begins
      → ((b : Begin) → IsGoodWord items l word b → ⊥) → IsRefused items l words number
  refused words begins n number word same at h bad =
      subst (IsRefused items l words) same (record { earlier = (begins, h); word = word; there = at; bad = bad })

pub same_word : {A : Type 0} (n number : ℕ) → ◌≡◌ {A = Result A StartRefusal} (Err (Word n)) (Err (Word number)) → n ≡ number
same_word n number is = cc
