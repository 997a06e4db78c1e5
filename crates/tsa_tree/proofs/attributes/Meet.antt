-- The rows of attributes meet what their reader needs.
use Rattle.std.proofs.Common.{ℕ, suc, ◌+◌, ◌≡◌, ap, refl, List, [], ◌∷◌, Bool, true, false, ◌&&◌, arith, ◌⊎◌, inl, inr, nat_eq}
use Rattle.std.proofs.lemmas.Bool.{both_ways, or_cases}
use Rattle.tsa_base.specs.Tokens.{Lexeme}
use Rattle.tsa_tree.specs.declared.attr.AttrKind.{AttrKind}
use Rattle.tsa_tree.specs.declared.sign.Sign.{Sign}
use Rattle.tsa_tree.specs.declared.sign.Sign.TheVariants as sign
use Rattle.tsa_tree.specs.declared.sign.Meaning.{Meaning}
use Rattle.tsa_tree.specs.declared.sign.Meaning.TheVariants as mean
use Rattle.tsa_tree.specs.attributes.Syntax as takes
use Rattle.tsa_tree.specs.attributes.Syntax.{Attribute, Taking, taking}
use Rattle.tsa_tree.specs.tokens.Signs.{Aliases, sign_at, is_word_at}
use Rattle.tsa_tree.specs.Rows.{some_attributes, a_skip, Call, attributes, group, entries, balanced, mark, Kind, Closer, closer_kind}
use Rattle.tsa_tree.specs.Rows.{a_word, a_result, an_open, a_close, a_comma, a_macro, sees, is_attribute_sign, Row, takes_result, opens}
use Rattle.tsa_tree.specs.Rows.{lacking_at, lacks, arguments_row, attribute_row, group_row, entries_end, entry_row, balanced_row, rule}
use Rattle.tsa_grammar.specs.Form.{done}
use Rattle.tsa_tree.proofs.tokens.Facts.{close_plain, comma_plain, plain_no_open, close_no_comma}
use Rattle.tsa_tree.proofs.RowFacts.{begins_no_close, ended, Good, Barren, Start, never}
use Rattle.tsa_tree.proofs.attributes.Facts.{both, no_closer, open_no_closing, bracket_no_closing, brace_no_closing, plain_no_closing}
use Rattle.tsa_tree.proofs.attributes.Facts.{close_no_text, word_at_no_close, close_no_result}

module _ (tokens : List Lexeme) where
  -- Nothing is whole after `(` where `)` stands there, or a result alone before `)`.
  barren_arguments : (aliases : Aliases) (d : ℕ) (k : AttrKind) (m : ℕ) (t : Taking) (end : Attribute → ℕ → Row some_attributes)
      → (sees tokens (a_close aliases) (m + 1 + 1) ≡ true)
      ⊎ ((takes_result t && (sees tokens a_result (m + 1 + 1) && sees tokens (a_close aliases) (m + 1 + 1 + 1))) ≡ true)
      → Barren tokens some_attributes (arguments_row tokens aliases d k m t end) (m + 1 + 1)
  barren_arguments aliases d k m takes.a_text end (inl e) = inl (close_no_text (sign_at tokens aliases (m + 1 + 1)) e)
  barren_arguments aliases d k m takes.a_text end (inr e) = cc
  barren_arguments aliases d k m takes.one_expression end (inl e) =
      λ h. both_ways _ (begins_no_close (sign_at tokens aliases (m + 1 + 1)) h) e
  barren_arguments aliases d k m takes.one_expression end (inr e) = cc
  barren_arguments aliases d k m takes.expressions end (inl e) =
      λ h. both_ways _ (begins_no_close (sign_at tokens aliases (m + 1 + 1)) h) e
  barren_arguments aliases d k m takes.expressions end (inr e) = cc
  barren_arguments aliases d k m takes.a_try end (inl e) = inl (close_no_result tokens aliases (m + 1 + 1) e)
  barren_arguments aliases d k m takes.a_try end (inr e) =
      inr (inl (close_no_comma (sign_at tokens aliases (m + 1 + 1 + 1)) (both _ _ e).1))

  -- An attribute that lacks its argument can't be whole.
  barren_opens : (aliases : Aliases) (d : ℕ) (k : AttrKind) (m : ℕ) (end : Attribute → ℕ → Row some_attributes) (s : Sign)
      → sign_at tokens aliases (m + 1) ≡ s → lacking_at tokens aliases k m s ≡ true
      → Barren tokens some_attributes (opens tokens aliases d (m + 1) (arguments_row tokens aliases (d + 1) k m (taking k) end)) (m + 1)
  barren_opens aliases d k m end sign.End e h = cc
  barren_opens aliases d k m end sign.Open e h =
      (inr (barren_arguments aliases (d + 1) k m (taking k) end (or_cases _ _ h)), inl refl)
  barren_opens aliases d k m end _ e h = (inl (ap (λ s. nat_eq (mark s) 6) e), inl refl)

  -- whatever follows an attribute is good
  abbrev Follows : Call some_attributes → (Attribute → ℕ → Row some_attributes) → Type 0
  Follows c end = (x : Attribute) (n : ℕ) → Good tokens some_attributes c false (end x n) n

  good_arguments : (c : Call some_attributes) (aliases : Aliases) (d : ℕ) (k : AttrKind) (m : ℕ) (t : Taking)
      (end : Attribute → ℕ → Row some_attributes) → Follows c end
      → Good tokens some_attributes c false (arguments_row tokens aliases d k m t end) (m + 1 + 1)
  good_arguments c aliases d k m takes.a_text end follows = λ p q. follows _ (m + 1 + 1 + 1 + 1)
  good_arguments c aliases d k m takes.one_expression end follows =
      (tt, λ x n. ((λ h. ended tokens aliases x 0 n (close_plain (sign_at tokens aliases n) h)), (λ h p. follows _ (n + 1))))
  good_arguments c aliases d k m takes.expressions end follows = (tt, λ xs n. ((λ h. tt), (λ h. follows _ n)))
  good_arguments c aliases d k m takes.a_try end follows = λ p q. (tt, λ xs n. ((λ h. tt), (λ h. follows _ n)))

  good_opens : (c : Call some_attributes) (aliases : Aliases) (d m : ℕ) (rest : Row some_attributes)
      → Good tokens some_attributes c false rest (m + 1) → Good tokens some_attributes c false (opens tokens aliases d m rest) m
  good_opens c aliases d m rest h = ((λ e. e), (λ e. never tokens m e), (λ e. (e, λ p. h)), (λ e p. never tokens m p))

  good_attribute : (c : Call some_attributes) (fresh : Bool) (aliases : Aliases) (d : ℕ) (k : AttrKind) (m : ℕ) (refused : Bool)
      (name : Kind) (end : Attribute → ℕ → Row some_attributes) → (refused ≡ true → lacks tokens aliases k m ≡ true) → Follows c end
      → Good tokens some_attributes c fresh (attribute_row tokens aliases d k m refused name end) m
  good_attribute c fresh aliases d k m refused name end lacking follows = (
    (λ e. inr (barren_opens aliases d k m end (sign_at tokens aliases (m + 1)) refl (lacking e))),
    (λ e p. good_opens c aliases d (m + 1) (arguments_row tokens aliases (d + 1) k m (taking k) end)
        (good_arguments c aliases (d + 1) k m (taking k) end follows)),
    tt,
  )

  pub good_attributes : (aliases : Aliases) (d m : ℕ)
      → Good tokens some_attributes (attributes aliases d) true (rule tokens some_attributes (attributes aliases d) m) m
  good_attributes aliases d m =
      (omega arith, λ xs n. ((λ h. tt), (λ h. ((λ h. h), (λ h. h), (λ e. (tt, λ ys e. ((λ h. h), (λ h. h)))), (λ e. e)))))

  pub good_group : (aliases : Aliases) (d m : ℕ) (s : Sign)
      → Good tokens some_attributes (group aliases d) true (group_row tokens aliases d m s) m
  good_group aliases d m (sign.Macro k) =
      good_attribute (group aliases d) true aliases d k m (lacks tokens aliases k m) (a_macro aliases) (λ x e. done (x ∷ []))
      (λ e. e) (λ x n. tt)
  good_group aliases d m sign.LeftOutMacro = ((λ e. inl refl), (λ e. cc), tt)
  good_group aliases d m sign.Attribute = λ p. (
    (λ e. e),
    (λ e. never tokens (m + 1) e),
    (λ e. (
      e,
      λ q. (
        (λ e. e),
        (λ e. never tokens (m + 1 + 1) e),
        (λ e. (
          e,
          λ q. (
            (λ h. h),
            (λ h. word_at_no_close tokens aliases (m + 1 + 1 + 1) h),
            (λ e q q'. tt),
            (λ e. (tt, λ xs n. ((λ h. tt), (λ h q. tt)))),
          ),
        )),
        (λ e q. never tokens (m + 1 + 1) q),
      ),
    )),
    (λ e q. never tokens (m + 1) q),
  )
  good_group aliases d m _ = λ p. never tokens m p

  good_entries_end : (aliases : Aliases) (d : ℕ) (xs : List Attribute) (n : ℕ)
      → Good tokens some_attributes (entries aliases d) false (entries_end tokens aliases d xs n) n
  good_entries_end aliases d xs n = (
    (λ h. h),
    (λ h. close_no_comma (sign_at tokens aliases n) h),
    (λ e q. (tt, λ ys e. ((λ h. tt), (λ h. tt)))),
    (λ e q. tt),
  )

  -- No parenthesis opens where an entry ends.
  end_no_open : (aliases : Aliases) (n : ℕ) → (sees tokens (a_comma aliases) n ≡ true) ⊎ (sees tokens (a_close aliases) n ≡ true)
      → sees tokens (an_open aliases) n ≡ false
  end_no_open aliases n (inl e) = plain_no_open (sign_at tokens aliases n) (comma_plain (sign_at tokens aliases n) e)
  end_no_open aliases n (inr e) = plain_no_open (sign_at tokens aliases n) (close_plain (sign_at tokens aliases n) e)

  pub good_entry : (aliases : Aliases) (d m : ℕ) (meaning : Meaning)
      → Good tokens some_attributes (entries aliases d) true (entry_row tokens aliases d m meaning) m
  good_entry aliases d m (mean.Known k) =
      good_attribute (entries aliases d) true aliases d k m (is_word_at tokens m && lacks tokens aliases k m) a_word
      (λ x e. entries_end tokens aliases d (x ∷ []) e) (λ e. (both _ _ e).1) (λ x n. good_entries_end aliases d (x ∷ []) n)
  good_entry aliases d m mean.LeftOut = ((λ e. inl refl), (λ e p. never tokens m p), tt)
  good_entry aliases d m mean.Ignored = λ p. (
    (λ h. h),
    (λ h. end_no_open aliases (m + 1) h),
    (λ e. (e, λ q. (tt, λ u n. ((λ h. tt), (λ h. good_entries_end aliases d [] n))))),
    (λ e. good_entries_end aliases d [] (m + 1)),
  )

  -- The token that closes balanced tokens begins no others.
  first_no_closer : (aliases : Aliases) (d : ℕ) (closer : Closer) (m : ℕ) (s : Sign)
      → Start tokens a_skip (balanced_row tokens aliases d closer m s) m
      → nat_eq (mark (sign_at tokens aliases m)) (suc (closer_kind closer)) ≡ false
  first_no_closer aliases d closer m sign.Open h =
      no_closer (sign_at tokens aliases m) (open_no_closing (sign_at tokens aliases m) h) closer
  first_no_closer aliases d closer m sign.OpenBracket h =
      no_closer (sign_at tokens aliases m) (bracket_no_closing (sign_at tokens aliases m) h) closer
  first_no_closer aliases d closer m sign.OpenBrace h =
      no_closer (sign_at tokens aliases m) (brace_no_closing (sign_at tokens aliases m) h) closer
  first_no_closer aliases d closer m _ h =
      no_closer (sign_at tokens aliases m) (plain_no_closing (sign_at tokens aliases m) h) closer

  good_balanced_row : (aliases : Aliases) (d : ℕ) (closer : Closer) (m : ℕ) (s : Sign) → sign_at tokens aliases m ≡ s
      → Good tokens a_skip (balanced aliases d closer) true (balanced_row tokens aliases d closer m s) m
  good_balanced_row aliases d closer m sign.Open e =
      (ap (λ s. nat_eq (mark s) 6) e, λ p. (tt, λ u n. ((λ h. tt), (λ h. (tt, λ u e. ((λ h. tt), (λ h. tt)))))))
  good_balanced_row aliases d closer m sign.OpenBracket e =
      (ap (λ s. nat_eq (mark s) 8) e, λ p. (tt, λ u n. ((λ h. tt), (λ h. (tt, λ u e. ((λ h. tt), (λ h. tt)))))))
  good_balanced_row aliases d closer m sign.OpenBrace e =
      (ap (λ s. nat_eq (mark s) 17) e, λ p. (tt, λ u n. ((λ h. tt), (λ h. (tt, λ u e. ((λ h. tt), (λ h. tt)))))))
  good_balanced_row aliases d closer m _ e = λ p. (tt, λ u e. ((λ h. tt), (λ h. tt)))

  pub good_balanced : (aliases : Aliases) (d : ℕ) (closer : Closer) (m : ℕ)
      → Good tokens a_skip (balanced aliases d closer) true (rule tokens a_skip (balanced aliases d closer) m) m
  good_balanced aliases d closer m = (
    (λ h. h),
    (λ h. first_no_closer aliases d closer m (sign_at tokens aliases m) h),
    (λ e p. tt),
    (λ e. good_balanced_row aliases d closer m (sign_at tokens aliases m) refl),
  )

  pub first_group : (aliases : Aliases) (d m : ℕ) (s : Sign) → Start tokens some_attributes (group_row tokens aliases d m s) m
      → is_attribute_sign s ≡ true
  first_group aliases d m sign.Attribute h = refl
  first_group aliases d m (sign.Macro k) h = refl
  first_group aliases d m sign.LeftOutMacro h = refl
  first_group aliases d m _ h = never tokens m h

  pub first_entry : (aliases : Aliases) (d m : ℕ) (meaning : Meaning)
      → Start tokens some_attributes (entry_row tokens aliases d m meaning) m → is_word_at tokens m ≡ true
  first_entry aliases d m (mean.Known k) (inl e) = (both _ _ e).0
  first_entry aliases d m (mean.Known k) (inr e) = e
  first_entry aliases d m mean.LeftOut (inl e) = e
  first_entry aliases d m mean.LeftOut (inr e) = never tokens m e
  first_entry aliases d m mean.Ignored e = e
