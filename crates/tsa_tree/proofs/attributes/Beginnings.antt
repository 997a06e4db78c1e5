-- What begins attributes by their rows begins them by the productions, and what the rows refuse in them the productions refuse.
use Rattle.std.proofs.Common.{ℕ, ◌+◌, ◌≡◌, sym, subst, refl, List, [], ◌∷◌, ◌++◌, Bool, true, false, ◌&&◌, ◌||◌, ◌⊎◌, inl, inr}
use Rattle.tsa_base.specs.Tokens.{Lexeme}
use Rattle.tsa_base.proofs.Truths.{never_true as never}
use Rattle.tsa_tree.specs.declared.attr.AttrKind.{AttrKind}
use Rattle.tsa_tree.specs.declared.sign.Sign.{Sign}
use Rattle.tsa_tree.specs.declared.sign.Sign.TheVariants as sign
use Rattle.tsa_tree.specs.declared.sign.Meaning.{Meaning}
use Rattle.tsa_tree.specs.declared.sign.Meaning.TheVariants as mean
use Rattle.tsa_tree.specs.attributes.Syntax as takes
use Rattle.tsa_tree.specs.attributes.Syntax.{Attribute, Taking, taking, try_value}
use Rattle.tsa_tree.specs.tokens.Signs.{Aliases, sign_at, identifier_at, is_word_at, entry_meaning}
use Rattle.tsa_tree.specs.expressions.Beginnings.{begins_unary, begins_left, begins_item}
use Rattle.tsa_tree.specs.expressions.Beginnings as begins
use Rattle.tsa_tree.specs.attributes.Spelling.{IsAttribute, of_text, of_one, of_nothing, IsEntry, of_known, of_ignored, of_entry}
use Rattle.tsa_tree.specs.attributes.Spelling.{of_entries, of_macro, of_no_entries, IsAttributes, of_no_group, of_group}
use Rattle.tsa_tree.specs.attributes.Beginnings.{Opened, BeginsAttribute, begins_name, begins_open, begins_text, begins_one}
use Rattle.tsa_tree.specs.attributes.Beginnings.{begins_expressions, begins_try, begins_tried, begins_whole, begins_balanced}
use Rattle.tsa_tree.specs.attributes.Beginnings.{begins_nothing, begins_known, begins_ignored, begins_entry, begins_first, begins_next}
use Rattle.tsa_tree.specs.attributes.Beginnings.{BeginsGroup, begins_no_group, begins_macro, begins_word, begins_first_open, begins_list}
use Rattle.tsa_tree.specs.attributes.Beginnings.{begins_no_entries, begins_close, begins_group, BeginsAttributes, begins_one_group}
use Rattle.tsa_tree.specs.attributes.Beginnings.{begins_next_group}
use Rattle.tsa_tree.specs.attributes.Refusals.{lacking, Lacks, no_parenthesis, nothing_inside, result_alone, RefusesEntries, entry_lacks}
use Rattle.tsa_tree.specs.attributes.Refusals.{entry_left_out, next_entry, RefusesGroup, macro_lacks, macro_left_out, in_list}
use Rattle.tsa_tree.specs.attributes.Refusals.{RefusesAttributes, first_group, next_group}
use Rattle.tsa_tree.specs.Rows.{some_attributes, attributes, group, entries, Kind, kind, a_word, a_result, sees, Row, takes_result}
use Rattle.tsa_tree.specs.Rows.{lacking_at, lacks, arguments_row, attribute_row, group_row, entries_end, entry_row, rule}
use Rattle.tsa_grammar.specs.Form.{done, token, part, either}
use Rattle.tsa_tree.proofs.tokens.ProductionSigns.{shows_open, shows_close, shows_comma, shows_text}
use Rattle.tsa_tree.proofs.attributes.Meanings.{ClosedEntries, Begun, Opens}
use Rattle.tsa_tree.proofs.attributes.RowSoundness.{given, closed_expressions, closed_try, closed_list, closed_entry}

-- an attribute that takes a result is a try
takes_a_try : (t : Taking) → takes_result t ≡ true → t ≡ takes.a_try
takes_a_try takes.a_try e = refl
takes_a_try _ e = never e

both : (p q : Bool) → (p && q) ≡ true → (p ≡ true) × (q ≡ true)
both true q e = (refl, e)
both false q e = never e

one_of : (p q : Bool) → (p || q) ≡ true → (p ≡ true) ⊎ (q ≡ true)
one_of true q e = inl refl
one_of false q e = inr e

module _ (tokens : List Lexeme) (aliases : Aliases) (fits : ℕ → Bool) where
  -- The test of the rows says that an attribute has no argument only where it has none.
  lacks_by : (k : AttrKind) (m : ℕ) (s : Sign) → sign_at tokens aliases (m + 1) ≡ s → lacking_at tokens aliases k m s ≡ true
      → Lacks tokens aliases fits k m
  lacks_by k m sign.End q e = never e
  lacks_by k m sign.Open q e =
      elim (one_of (sees tokens (kind aliases 6) (m + 1 + 1)) _ e) [
        | inl close ↦ nothing_inside q (shows_close tokens aliases (m + 1 + 1) close)
        | inr h ↦ alone (both (takes_result (taking k)) _ h)
      ]
    where
      alone : (takes_result (taking k) ≡ true) × ((sees tokens a_result (m + 1 + 1) && sees tokens (kind aliases 6) (m + 1 + 1 + 1)) ≡ true)
          → Lacks tokens aliases fits k m
      alone h =
          let g = both (sees tokens a_result (m + 1 + 1)) (sees tokens (kind aliases 6) (m + 1 + 1 + 1)) h.1 in
          let v = given (try_value (identifier_at tokens (m + 1 + 1)).text) g.0 in
          result_alone (takes_a_try (taking k) h.0) q v.1 (shows_close tokens aliases (m + 1 + 1 + 1) g.1)
  lacks_by k m s q e = no_parenthesis (λ f. cc) (λ f. cc)

  lacks_of : (k : AttrKind) (m : ℕ) → lacks tokens aliases k m ≡ true → Lacks tokens aliases fits k m
  lacks_of k m e = lacks_by k m (sign_at tokens aliases (m + 1)) refl e

  -- What begins what an attribute takes begins the attribute.
  opens_arguments : (d : ℕ) (k : AttrKind) (m : ℕ) (B : ℕ → Type 0) (R : ℕ → ℕ → Type 0) (end : Attribute → ℕ → Row some_attributes)
      → sign_at tokens aliases (m + 1) ≡ sign.Open → fits d ≡ true
      → ((b : ℕ) → BeginsAttribute tokens aliases fits d k m b → B b)
      → ((x : Attribute) (e : ℕ) → IsAttribute tokens aliases fits d k x m e → Opens tokens fits some_attributes B R (end x e) e)
      → (t : Taking) → taking k ≡ t
      → Opens tokens fits some_attributes B R (arguments_row tokens aliases (d + 1) k m t end) (m + 1 + 1)
  opens_arguments d k m B R end open_ fit more go takes.a_text t = (
    more _ (begins_open open_ fit),
    λ text.
        let text' = shows_text tokens aliases (m + 1 + 1) text in (
          more _ (begins_text t open_ fit text'),
          λ close.
              go _ _ (of_text t open_ fit text' (shows_close tokens aliases (m + 1 + 1 + 1) close)),
        ),
  )
  opens_arguments d k m B R end open_ fit more go takes.one_expression t = (
    more _ (begins_open open_ fit),
    tt,
    (λ b h. more b (begins_one t open_ fit h)),
    (λ b q h. absurd h),
    (λ x n i. (more n (begins_one t open_ fit (begins_left i)), λ close. go _ _ (of_one t open_ fit i (shows_close tokens aliases n close)))),
  )
  opens_arguments d k m B R end open_ fit more go takes.expressions t = (
    more _ (begins_open open_ fit),
    tt,
    (λ b h. elim h [
      | inl h ↦ more b (begins_expressions t open_ fit h)
      | inr h ↦ more b (begins_whole (closed_expressions tokens aliases fits t open_ fit h.0 b h.1))
    ]),
    (λ b q h. absurd h),
    (λ xs n closed. go _ n (closed_expressions tokens aliases fits t open_ fit xs n closed)),
  )
  opens_arguments d k m B R end open_ fit more go takes.a_try t = (
    more _ (begins_open open_ fit),
    λ result.
        let g = given (try_value (identifier_at tokens (m + 1 + 1)).text) result in (
          more _ (begins_try t open_ fit g.1),
          λ comma.
              let c = shows_comma tokens aliases (m + 1 + 1 + 1) comma in (
                more _ (begins_tried t open_ fit g.1 c (begins_item (begins_unary begins.begins_nothing))),
                tt,
                (λ b h. elim h [
                  | inl h ↦ more b (begins_tried t open_ fit g.1 c h)
                  | inr h ↦ more b (begins_whole (closed_try tokens aliases fits t open_ fit g.0 g.1 c h.0 b h.1))
                ]),
                (λ b q h. absurd h),
                (λ xs n closed. go _ n (closed_try tokens aliases fits t open_ fit g.0 g.1 c xs n closed)),
              ),
        ),
  )

  -- What begins an attribute does so by its row, where what comes after it does.
  opens_attribute : (d : ℕ) (k : AttrKind) (m : ℕ) (refused : Bool) (spelled : Kind) (B : ℕ → Type 0) (R : ℕ → ℕ → Type 0)
      (end : Attribute → ℕ → Row some_attributes)
      → (refused ≡ true → R m lacking) → B m
      → (sees tokens spelled m ≡ true → (b : ℕ) → BeginsAttribute tokens aliases fits d k m b → B b)
      → (sees tokens spelled m ≡ true → (x : Attribute) (e : ℕ) → IsAttribute tokens aliases fits d k x m e
      → Opens tokens fits some_attributes B R (end x e) e)
      → Opens tokens fits some_attributes B R (attribute_row tokens aliases d k m refused spelled end) m
  opens_attribute d k m refused spelled B R end bars none more go = (
    bars,
    (
      none,
      λ seen. (
        (
          more seen _ begins_name,
          λ fit. (
            more seen _ begins_name,
            λ open_.
                opens_arguments d k m B R end (shows_open tokens aliases (m + 1) open_) fit (more seen) (go seen) (taking k) refl,
          ),
        ),
        (more seen _ begins_name, never),
      ),
    ),
  )

  opens_list : (d m : ℕ) → Opened tokens aliases fits d m
      → Opens tokens fits some_attributes (λ b. BeginsGroup tokens aliases fits d m b) (λ b q. RefusesGroup tokens aliases fits d m b q)
      (either (sees tokens (kind aliases 6) (m + 1 + 1 + 1)) (token (kind aliases 6) (token (kind aliases 6) (done [])))
      (part some_attributes (entries aliases (d + 1 + 1)) (λ xs n. token (kind aliases 6) (done xs)))) (m + 1 + 1 + 1)
  opens_list d m o = (
    (
      begins_list o (begins_first begins_nothing),
      λ close.
          let c = shows_close tokens aliases (m + 1 + 1 + 1) close in (
            begins_no_entries o c,
            λ close'. begins_group (of_no_entries o.0 o.1 o.2 o.3 o.4 c (shows_close tokens aliases (m + 1 + 1 + 1 + 1) close')),
          ),
    ),
    (
      begins_list o (begins_first begins_nothing),
      tt,
      (λ b h. elim h [ inl h ↦ begins_list o h | inr h ↦ closing h.0 b h.1 ]),
      (λ b q h. in_list o h),
      (λ xs n closed. (
        closing xs n closed,
        λ close. begins_group (closed_list tokens aliases fits o xs n closed (shows_close tokens aliases n close)),
      )),
    ),
  )
    where
      closing : (xs : List Attribute) (b : ℕ) → ClosedEntries tokens fits aliases (d + 1 + 1) xs (m + 1 + 1 + 1) b
          → BeginsGroup tokens aliases fits d m b
      closing xs b closed = subst (λ b. BeginsGroup tokens aliases fits d m b) (sym closed.3) (begins_close o closed.1 closed.2)

  opens_group : (d m : ℕ) (s : Sign) → sign_at tokens aliases m ≡ s
      → Opens tokens fits some_attributes (λ b. BeginsGroup tokens aliases fits d m b) (λ b q. RefusesGroup tokens aliases fits d m b q)
      (group_row tokens aliases d m s) m
  opens_group d m (sign.Macro k) q =
      opens_attribute d k m (lacks tokens aliases k m) (kind aliases 22) (λ b. BeginsGroup tokens aliases fits d m b)
      (λ b q. RefusesGroup tokens aliases fits d m b q) (λ x e. _) (λ e. macro_lacks q (lacks_of k m e)) begins_no_group
      (λ seen b h. begins_macro q h) (λ seen x e i. begins_group (of_macro q i))
  opens_group d m sign.LeftOutMacro q = ((λ e. macro_left_out q), (begins_no_group, never))
  opens_group d m sign.Attribute q = (
    begins_no_group,
    λ seen. (
      (
        begins_word q,
        λ fit. (
          begins_word q,
          λ open_.
              let o = shows_open tokens aliases (m + 1) open_ in (
                (
                  begins_first_open q o fit,
                  λ fit'. (
                    begins_first_open q o fit,
                    λ open'.
                        let o' = shows_open tokens aliases (m + 1 + 1) open' in opens_list d m (q, o, fit, o', fit'),
                  ),
                ),
                (begins_first_open q o fit, never),
              ),
        ),
      ),
      (begins_word q, never),
    ),
  )
  opens_group d m _ q = (begins_no_group, never)

  -- What is reached in a list of entries, which may be closed.
  abbrev Reached : (d a b : ℕ) → Type 0
  Reached d a b = Begun tokens fits some_attributes (entries aliases d) a b

  -- Behind an entry, the list goes on or is closed.
  opens_entries_end : (d a : ℕ) (xs : List Attribute) (e : ℕ) → IsEntry tokens aliases fits d xs a e
      → Opens tokens fits some_attributes (λ b. Reached d a b) (λ b q. RefusesEntries tokens aliases fits d a b q)
      (entries_end tokens aliases d xs e) e
  opens_entries_end d a xs e i = (
    (
      inl (begins_first (begins_entry i)),
      λ comma.
          let c = shows_comma tokens aliases e comma in (
            inl (begins_next i c (begins_first begins_nothing)),
            tt,
            (λ b h. elim h [
              | inl h ↦ inl (begins_next i c h)
              | inr h ↦ inr (xs ++ h.0, (h.1.0, of_entries i c h.1.1, h.1.2, h.1.3))
            ]),
            (λ b q h. next_entry i c h),
            (λ ys b h. inr (xs ++ ys, (h.0, of_entries i c h.1, h.2, h.3))),
          ),
    ),
    (inl (begins_first (begins_entry i)), λ close. inr (xs, (e, of_entry i, shows_close tokens aliases e close, refl))),
  )

  opens_entry : (d m : ℕ) (w : Meaning) → entry_meaning tokens aliases m ≡ w
      → Opens tokens fits some_attributes (λ b. Reached d m b) (λ b q. RefusesEntries tokens aliases fits d m b q)
      (entry_row tokens aliases d m w) m
  opens_entry d m (mean.Known k) q =
      opens_attribute d k m (is_word_at tokens m && lacks tokens aliases k m) a_word (λ b. Reached d m b)
      (λ b q. RefusesEntries tokens aliases fits d m b q) (λ x e. entries_end tokens aliases d (x ∷ []) e)
      (λ e. let g = both (is_word_at tokens m) (lacks tokens aliases k m) e in entry_lacks g.0 q (lacks_of k m g.1))
      (inl (begins_first begins_nothing)) (λ word b h. inl (begins_first (begins_known word q h)))
      (λ word x e i. opens_entries_end d m (x ∷ []) e (of_known word q i))
  opens_entry d m mean.LeftOut q = ((λ word. entry_left_out word q), (inl (begins_first begins_nothing), never))
  opens_entry d m mean.Ignored q = (
    inl (begins_first begins_nothing),
    λ word.
        let named = inl (begins_first (begins_entry (of_ignored word q))) in (
          (
            named,
            λ fit. (
              named,
              λ seen.
                  let o = shows_open tokens aliases (m + 1) seen in (
                    inl (begins_first (begins_ignored word q o fit (begins_balanced of_nothing))),
                    tt,
                    (λ b h. elim h [
                      | inl h ↦ inl (begins_first (begins_ignored word q o fit h))
                      | inr h ↦ inl (begins_first (begins_entry (closed_entry tokens aliases fits word q o fit b h)))
                    ]),
                    (λ b q h. absurd h),
                    (λ u e closed. opens_entries_end d m [] e (closed_entry tokens aliases fits word q o fit e closed)),
                  ),
            ),
          ),
          opens_entries_end d m [] (m + 1) (of_ignored word q),
        ),
  )

  -- Whole attributes begin themselves.
  pub whole_attributes : {d : ℕ} {xs : List Attribute} {a b : ℕ} → IsAttributes tokens aliases fits d xs a b
      → BeginsAttributes tokens aliases fits d a b
  whole_attributes of_no_group = begins_one_group begins_no_group
  whole_attributes (of_group g rest) = begins_next_group g (whole_attributes rest)

  -- The rows of attributes begin as their productions do, and they refuse what those refuse.
  pub opens_attributes : (d m : ℕ)
      → Opens tokens fits some_attributes (λ b. BeginsAttributes tokens aliases fits d m b) (λ b q. RefusesAttributes tokens aliases fits d m b q)
      (rule tokens some_attributes (attributes aliases d) m) m
  opens_attributes d m = (
    begins_one_group begins_no_group,
    tt,
    (λ b h. begins_one_group h),
    (λ b q h. first_group h),
    (λ xs n g. (
      (
        begins_next_group g (begins_one_group begins_no_group),
        tt,
        (λ b h. begins_next_group g h),
        (λ b q h. next_group g h),
        (λ ys e rest. begins_next_group g (whole_attributes rest)),
      ),
      begins_one_group (begins_group g),
    )),
  )

  pub opens_one_group : (d m : ℕ)
      → Opens tokens fits some_attributes (λ b. BeginsGroup tokens aliases fits d m b) (λ b q. RefusesGroup tokens aliases fits d m b q)
      (rule tokens some_attributes (group aliases d) m) m
  opens_one_group d m = opens_group d m (sign_at tokens aliases m) refl

  pub opens_entries : (d m : ℕ)
      → Opens tokens fits some_attributes (λ b. Reached d m b) (λ b q. RefusesEntries tokens aliases fits d m b q)
      (rule tokens some_attributes (entries aliases d) m) m
  opens_entries d m = opens_entry d m (entry_meaning tokens aliases m) refl
