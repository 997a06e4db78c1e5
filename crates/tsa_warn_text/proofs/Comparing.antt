-- Numbers compared by what their paths are told by.
use Rattle.std.proofs.Common.{◌≡◌, ◌<◌, ℕ, Bool, true, false, nat_lt, ◌&&◌, List, length, ◌⊎◌, inl, inr, Ordering, Less, Equal, Greater}
use Rattle.std.proofs.Common.{is_lt, nat_cmp, refl, sym, ap, ◌∙◌, true≢false}
use Rattle.std.specs.Cmp.{IsTotalOrder}
use Rattle.std.specs.Ordering.{ordering_then, ordering_reverse}
use Rattle.std.proofs.lemmas.Cmp.{then_total, on_total, nat_list_cmp_total, nat_cmp_total, ranked}
use borrow.Author.Tests.{ltb-true, lt-ltb}
use Rattle.tsa_warn_text.specs.Ranks.{PathText, told_by, told_cmp, is_told_before}

pub told_cmp_total : (texts : List PathText) → IsTotalOrder (told_cmp texts)
told_cmp_total texts = then_total (then_total (on_total (λ n. (told_by texts n).text) nat_list_cmp_total) (on_total (λ n. (told_by texts n).locals) nat_list_cmp_total)) nat_cmp_total

last_tie : (o p : Ordering) → ordering_then o p ≡ Equal → p ≡ Equal
last_tie Less p e = cc
last_tie Equal p e = e
last_tie Greater p e = cc

-- only a number itself compares as equal
pub tied_is_same : (texts : List PathText) (a b : ℕ) → told_cmp texts a b ≡ Equal → a ≡ b
tied_is_same texts a b e =
    let tie : nat_cmp a b ≡ Equal = last_tie _ _ e in
    ranked a b Equal (sym tie)

pub is_less : (o : Ordering) → is_lt o ≡ true → o ≡ Less
is_less Less e = refl
is_less Equal e = absurd (true≢false (sym e))
is_less Greater e = absurd (true≢false (sym e))

pub is_not_less : (o : Ordering) → is_lt o ≡ false → (o ≡ Equal) ⊎ (o ≡ Greater)
is_not_less Less e = absurd (true≢false e)
is_not_less Equal e = inl refl
is_not_less Greater e = inr refl

-- what does not come after another number comes before it
pub not_after : (texts : List PathText) (a b : ℕ) → ¬ (a ≡ b) → is_lt (told_cmp texts b a) ≡ false → told_cmp texts a b ≡ Less
not_after texts a b other e = by (told_cmp texts b a) refl (is_not_less _ e)
  where
    by : (o : Ordering) → told_cmp texts b a ≡ o → (o ≡ Equal) ⊎ (o ≡ Greater) → told_cmp texts a b ≡ Less
    by o is (inl tie) = absurd (other (sym (tied_is_same texts b a (is ∙ tie))))
    by o is (inr after) = (told_cmp_total texts).antisymm a b ∙ ap ordering_reverse (is ∙ after)

first_true : (s t : Bool) → s && t ≡ true → s ≡ true
first_true true t e = refl
first_true false t e = e

second_true : (s t : Bool) → s && t ≡ true → t ≡ true
second_true true t e = e
second_true false t e = absurd (true≢false (sym e))

-- what the test says: that both are numbers of paths, and that the first comes before the second
pub record Compares (texts : List PathText) (a b : ℕ) : Type 0 where
  pub first : a < length texts
  pub second : b < length texts
  pub less : told_cmp texts a b ≡ Less

pub compares : (texts : List PathText) (a b : ℕ) → is_told_before texts a b ≡ true → Compares texts a b
compares texts a b e =
    let later : nat_lt b (length texts) && is_lt (told_cmp texts a b) ≡ true = second_true (nat_lt a (length texts)) _ e in
    record {
      first = ltb-true a (length texts) (first_true (nat_lt a (length texts)) _ e);
      second = ltb-true b (length texts) (first_true (nat_lt b (length texts)) _ later);
      less = is_less _ (second_true (nat_lt b (length texts)) _ later);
    }

pub told_before : (texts : List PathText) (a b : ℕ) → Compares texts a b → is_told_before texts a b ≡ true
told_before texts a b h = ap (λ s. s && (nat_lt b (length texts) && is_lt (told_cmp texts a b))) (lt-ltb a (length texts) h.first)
    ∙ ap (λ s. s && is_lt (told_cmp texts a b)) (lt-ltb b (length texts) h.second)
    ∙ ap is_lt h.less

-- of two different numbers of paths one is told before the other
pub one_is_before : (texts : List PathText) (a b : ℕ) → a < length texts → b < length texts → ¬ (a ≡ b) → (is_told_before texts a b ≡ true) ⊎ (is_told_before texts b a ≡ true)
one_is_before texts a b first second other = by (is_lt (told_cmp texts a b)) refl
  where
    by : (t : Bool) → is_lt (told_cmp texts a b) ≡ t → (is_told_before texts a b ≡ true) ⊎ (is_told_before texts b a ≡ true)
    by true e = inl (told_before texts a b (record { first = first; second = second; less = is_less _ e }))
    by false e = inr (told_before texts b a (record { first = second; second = first; less = not_after texts b a (λ same. other (sym same)) e }))

-- and not the other way round as well
pub not_both : (texts : List PathText) (a b : ℕ) → is_told_before texts a b ≡ true → is_told_before texts b a ≡ false
not_both texts a b e = by (is_told_before texts b a) refl
  where
    by : (t : Bool) → is_told_before texts b a ≡ t → t ≡ false
    by true back =
        let there : told_cmp texts a b ≡ Less = (compares texts a b e).less in
        let here : told_cmp texts b a ≡ Less = (compares texts b a back).less in
        let turned : told_cmp texts a b ≡ ordering_reverse (told_cmp texts b a) = (told_cmp_total texts).antisymm a b in
        cc
    by false back = refl

pub not_itself : (texts : List PathText) (a : ℕ) → is_told_before texts a a ≡ false
not_itself texts a = by (is_told_before texts a a) refl
  where
    by : (t : Bool) → is_told_before texts a a ≡ t → t ≡ false
    by true e = sym e ∙ not_both texts a a e
    by false e = refl

pub chained : (texts : List PathText) (a b c : ℕ) → is_told_before texts a b ≡ true → is_told_before texts b c ≡ true → is_told_before texts a c ≡ true
chained texts a b c e f =
    let one = compares texts a b e in
    let two = compares texts b c f in
    told_before texts a c (record { first = one.first; second = two.second; less = (told_cmp_total texts).trans a b c one.less two.less })
