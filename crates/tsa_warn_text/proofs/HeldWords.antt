-- The words of a set, one more at a time.
use Rattle.std.proofs.Common.{◌≡◌, ◌∙◌, ℕ, ◌+◌, ◌<◌, true, false, cond, List, [], ◌∷◌, ◌++◌, map, codes, refl, sym, ap, ap₂, subst}
use Rattle.std.proofs.Common.{append_assoc}
use Rattle.std.proofs.lemmas.List.{append-nil, map-append}
use Rattle.tsa_rules.specs.Sets.{Has}
use Rattle.tsa_rules.specs.Statuses.{status_of}
use Rattle.tsa_rules.specs.declared.status.Status.{Status}
use Rattle.tsa_rules.specs.declared.statuses.Statuses.{Statuses}
use Rattle.tsa_rules.proofs.Places.{place_at}
use Rattle.tsa_warn_text.specs.HeldLines.{status_word, words_text, is_member, members_below}
use Rattle.tsa_warn_text.proofs.SetMembers.{member_more, is_had, is_not_had}

-- the words of the members below a limit
abbrev pub words_below : List (List ℕ) → Statuses → ℕ → List (List ℕ)
words_below tries set limit = map (status_word tries) (members_below set limit)

-- what stands between words and one more
abbrev pub bar_after : List (List ℕ) → List ℕ
bar_after [] = []
bar_after (w ∷ ws) = codes "|"

-- one more word comes after the others
pub joined_more : (ws : List (List ℕ)) (w : List ℕ) → words_text (ws ++ w ∷ []) ≡ words_text ws ++ (bar_after ws ++ w)
unfolding words_text
joined_more [] w = refl
joined_more (v ∷ []) w = refl
joined_more (v ∷ x ∷ ws) w = ap (λ t. v ++ (124 ∷ t)) (joined_more (x ∷ ws) w) ∙ sym (append_assoc v (124 ∷ words_text (x ∷ ws)) (codes "|" ++ w))

pub bar_more : (ws : List (List ℕ)) (w : List ℕ) → bar_after (ws ++ w ∷ []) ≡ codes "|"
bar_more [] w = refl
bar_more (v ∷ ws) w = refl

-- the word of the next number comes after the others where the set has its status
word_more : (tries : List (List ℕ)) (set : Statuses) (n : ℕ) → is_member set (status_of n) ≡ true
    → words_below tries set (n + 1) ≡ words_below tries set n ++ status_word tries (status_of n) ∷ []
word_more tries set n e =
    let more = member_more set n ∙ ap (λ b. members_below set n ++ cond b (status_of n ∷ []) []) e in
    ap (map (status_word tries)) more ∙ map-append (status_word tries) (members_below set n) (status_of n ∷ [])

no_word_more : (tries : List (List ℕ)) (set : Statuses) (n : ℕ) → is_member set (status_of n) ≡ false
    → words_below tries set (n + 1) ≡ words_below tries set n
no_word_more tries set n e =
    let same = member_more set n ∙ ap (λ b. members_below set n ++ cond b (status_of n ∷ []) []) e ∙ append-nil (members_below set n) in
    ap (map (status_word tries)) same

-- The words of the members below a limit stand after a text, and what stands between them and one more is known.
pub record AreTold (tries : List (List ℕ)) (set : Statuses) (limit : ℕ) (before text bar : List ℕ) : Type 0 where
  pub words : text ≡ before ++ words_text (words_below tries set limit)
  pub between : bar ≡ bar_after (words_below tries set limit)

-- no number is below 0
pub none_told : (tries : List (List ℕ)) (set : Statuses) (before : List ℕ) → AreTold tries set 0 before before []
unfolding members_below words_text
none_told tries set before = record { words = sym (append-nil before); between = refl }

pub one_more_told : (tries : List (List ℕ)) (set : Statuses) (n : ℕ) (before text bar part more : List ℕ) (s : Status)
    → s ≡ status_of n → Has set s → AreTold tries set n before text bar
    → part ≡ text ++ bar → more ≡ part ++ status_word tries s → AreTold tries set (n + 1) before more (codes "|")
one_more_told tries set n before text bar part more s is has told first second =
    record { words = joined; between = sym (ap bar_after next ∙ bar_more ws w) }
  where
    ws : List (List ℕ)
    ws = words_below tries set n

    w : List ℕ
    w = status_word tries s

    next : words_below tries set (n + 1) ≡ ws ++ w ∷ []
    next = word_more tries set n (ap (is_member set) (sym is) ∙ is_had set s has) ∙ ap (λ t. ws ++ status_word tries t ∷ []) (sym is)

    one_more : words_text (words_below tries set (n + 1)) ≡ words_text ws ++ (bar_after ws ++ w)
    one_more = ap words_text next ∙ joined_more ws w

    joined : more ≡ before ++ words_text (words_below tries set (n + 1))
    joined =
        second ∙ ap (λ t. t ++ w) first ∙ append_assoc text bar w ∙ ap₂ (λ t b. t ++ (b ++ w)) told.words told.between
        ∙ append_assoc before (words_text ws) (bar_after ws ++ w) ∙ ap (λ t. before ++ t) (sym one_more)

pub no_more_told : (tries : List (List ℕ)) (set : Statuses) (n : ℕ) (before text bar : List ℕ) (s : Status)
    → s ≡ status_of n → n < 64 → (Has set s → ⊥) → AreTold tries set n before text bar → AreTold tries set (n + 1) before text bar
no_more_told tries set n before text bar s is fits lacks told =
    let lacking = is_not_had set (status_of n) (place_at n fits) (λ h. lacks (subst (Has set) (sym is) h)) in
    let same = no_word_more tries set n lacking in
    record { words = told.words ∙ ap (λ ws. before ++ words_text ws) (sym same); between = told.between ∙ ap bar_after (sym same) }
