-- Entries of a list of attributes, one by one.
use Rattle.std.proofs.Common.{ℕ, ◌+◌, ◌<◌, ◌≤◌, subst, length, ◌≡◌, ◌≢◌, ◌∙◌, ap, sym, refl, Bool, true, false, ◌&&◌, List, [], ◌∷◌, ◌++◌}
use Rattle.std.proofs.Common.{Option, Some, None, Result, Ok, Err, nat_eq}
use Rattle.std.proofs.lemmas.List.{length-map}
use Rattle.std.proofs.lemmas.Option.{slice_get_within}
use Rattle.std.specs.List.{slice_get}
use Rattle.tsa_base.specs.declared.token.Token.{Token}
use Rattle.tsa_base.specs.Tokens.{Lexeme, lexeme}
use Rattle.tsa_grammar.proofs.Cases.{chosen, other, goes}
use Rattle.tsa_grammar.specs.Form.{token, part, limit, either}
use Rattle.tsa_grammar.specs.Reading.{Outcome, refuse, syntax, deep, barred, then, choose}
use Rattle.tsa_tree.proofs.RowsRead.{read_steps}
use Rattle.tsa_tree.specs.declared.attr.Attr.{Attr}
use Rattle.tsa_tree.specs.declared.attr.AttrKind.{AttrKind}
use Rattle.tsa_tree.specs.declared.sign.Sign.TheVariants as sign
use Rattle.tsa_tree.specs.declared.sign.Meaning.{Meaning}
use Rattle.tsa_tree.specs.declared.sign.Meaning.TheVariants as mean
use Rattle.tsa_tree.specs.expressions.Answers.{below_limit}
use Rattle.tsa_tree.specs.attributes.Refusals.{left_out, lacking}
use Rattle.tsa_tree.specs.attributes.Syntax.{Attribute, taking, attr_shapes}
use Rattle.tsa_tree.specs.Reads.{read}
use Rattle.tsa_tree.specs.Rows.{a_skip, some_attributes, Row, entries, balanced, closing_parenthesis, an_open, mark, sees, lacks}
use Rattle.tsa_tree.specs.Rows.{arguments_row, entry_row, entries_end}
use Rattle.tsa_tree.specs.tokens.Signs.{Aliases, lexemes, sign_at, is_word, kind_in, is_word_at, entry_meaning}
use Rattle.tsa_expr.specs.declared.refusal.SyntaxRefusal.{SyntaxRefusal}
use Rattle.tsa_expr.specs.Gives.{Fails, Gives}
use Rattle.tsa_expr.proofs.Answering.{fails_then, fails_same, gives_same, not_open, not_close, not_comma}
use Rattle.tsa_attr.specs.Outcomes.{after, opening, attribute_at, ignored_at, entry_by, entry_at, entries_on}
use Rattle.tsa_attr.specs.Readings.{passed}
use Rattle.tsa_attr.proofs.Joining.{then-then, then-same, then-ok, passed_at, append-nil, after-then, after-after}
use Rattle.tsa_attr.proofs.Openings.{going, open_deep, open_goes, opens_at}
use Rattle.tsa_attr.proofs.Contents.{follows}

pub word_within : (tokens : List Token) (m : ℕ) → is_word_at (lexemes tokens) m ≡ true → m < length tokens
unfolding is_word_at
word_within tokens m e = go (slice_get (lexemes tokens) m) refl e
  where
    go : (o : Option Lexeme) → slice_get (lexemes tokens) m ≡ o → is_word (kind_in o) ≡ true → m < length tokens
    go None s h = cc
    go (Some t) s h = subst (λ n. m < n) (length-map tokens lexeme) (slice_get_within (lexemes tokens) m t s)

module _ (ts : List Lexeme) (aliases : Aliases) where
  -- names that say nothing of threads
  pub ignored_alone : (d m : ℕ) → sign_at ts aliases (m + 1) ≢ sign.Open → ignored_at ts aliases d m ≡ Ok (tt, m + 1)
  unfolding ignored_at
  ignored_alone d m h = other _ _ _ (not_open (sign_at ts aliases (m + 1)) h)

  pub ignored_deep : (d m : ℕ) → sign_at ts aliases (m + 1) ≡ sign.Open → 100 ≤ d → ignored_at ts aliases d m ≡ Err (refuse deep (m + 1))
  unfolding ignored_at then
  ignored_deep d m s h =
      chosen _ _ _ (ap (λ s. nat_eq (mark s) 6) s)
      ∙ ap (λ r. then r (λ u n. read ts a_skip (balanced aliases (d + 1) closing_parenthesis) n)) (open_deep ts aliases d (m + 1) s h)

  pub ignored_list : (d m : ℕ) → sign_at ts aliases (m + 1) ≡ sign.Open → d < 100
      → ignored_at ts aliases d m ≡ read ts a_skip (balanced aliases (d + 1) closing_parenthesis) (m + 1 + 1)
  unfolding ignored_at
  ignored_list d m s h = chosen _ _ _ (ap (λ s. nat_eq (mark s) 6) s) ∙ goes _ _ tt (m + 1 + 1) (open_goes ts aliases d (m + 1) s h)

  -- an entry by its meaning
  entry_is : (d m : ℕ) (w : Meaning) → is_word_at ts m ≡ true → entry_meaning ts aliases m ≡ w → entry_at ts aliases d m ≡ entry_by ts aliases d m w
  unfolding entry_at
  entry_is d m w h e = chosen _ _ _ h ∙ ap (entry_by ts aliases d m) e

  pub entry_wrong : (xs : List Attr) (d m : ℕ) → is_word_at ts m ≡ false → after (attr_shapes xs) (entry_at ts aliases d m) ≡ Err (refuse syntax m)
  unfolding entry_at then
  entry_wrong xs d m h = ap (after (attr_shapes xs)) (other _ _ _ h)

  pub entry_known : (xs : List Attr) (d : ℕ) (k : AttrKind) (m : ℕ) → is_word_at ts m ≡ true → entry_meaning ts aliases m ≡ mean.Known k
      → after (attr_shapes xs) (entry_at ts aliases d m) ≡ after (attr_shapes xs) (attribute_at ts aliases d k m)
  entry_known xs d k m w s = ap (after (attr_shapes xs)) (entry_is d m (mean.Known k) w s)

  pub entry_left_out : (xs : List Attr) (d m : ℕ) → is_word_at ts m ≡ true → entry_meaning ts aliases m ≡ mean.LeftOut
      → after (attr_shapes xs) (entry_at ts aliases d m) ≡ Err (refuse (barred left_out) m)
  unfolding then
  entry_left_out xs d m w s = ap (after (attr_shapes xs)) (entry_is d m mean.LeftOut w s)

  pub entry_ignored : (xs : List Attr) (d m : ℕ) (r : Result ℕ SyntaxRefusal) → is_word_at ts m ≡ true → entry_meaning ts aliases m ≡ mean.Ignored
      → Gives passed r (ignored_at ts aliases d m) → Gives (λ n. (attr_shapes xs, n)) r (after (attr_shapes xs) (entry_at ts aliases d m))
  entry_ignored xs d m (Ok n) w s h =
      ap (after (attr_shapes xs)) (entry_is d m mean.Ignored w s ∙ goes _ _ tt n h) ∙ then-ok [] n _
      ∙ ap (λ ys. Ok (ys, n)) (append-nil (attr_shapes xs))
  entry_ignored xs d m (Err e) w s h = fails_then e _ _ (fails_same e _ _ (entry_is d m mean.Ignored w s) (fails_then e _ _ h))

  -- an entry and those after it
  known-law : (w l : Bool) (m : ℕ) (x y : Outcome (List Attribute)) (go : List Attribute → ℕ → Outcome (List Attribute)) → x ≡ then y go
      → choose (w && l) (Err (refuse (barred lacking) m)) (choose w x (Err (refuse syntax m)))
      ≡ then (choose w (choose l (Err (refuse (barred lacking) m)) y) (Err (refuse syntax m))) go
  unfolding choose then
  known-law true true m x y go h = refl
  known-law true false m x y go h = h
  known-law false l m x y go h = refl

  left-law : (w : Bool) (m : ℕ) (go : List Attribute → ℕ → Outcome (List Attribute))
      → choose w (Err (refuse (barred left_out) m)) (choose false (Ok ([], m + 1)) (Err (refuse syntax m)))
      ≡ then (choose w (Err (refuse (barred left_out) m)) (Err (refuse syntax m))) go
  unfolding choose then
  left-law true m go = refl
  left-law false m go = refl

  word-law : (w : Bool) (m : ℕ) (x y : Outcome (List Attribute)) (go : List Attribute → ℕ → Outcome (List Attribute)) → x ≡ then y go
      → choose w x (Err (refuse syntax m)) ≡ then (choose w y (Err (refuse syntax m))) go
  unfolding choose then
  word-law true m x y go h = h
  word-law false m x y go h = refl

  abbrev nothing_at : ℕ → Outcome (List Attribute)
  nothing_at e = Ok ([], e)

  behind-law : (r : Outcome (Unit {0})) (go : List Attribute → ℕ → Outcome (List Attribute)) → then r (λ u e. go [] e) ≡ then (then r (λ u e. nothing_at e)) go
  unfolding then
  behind-law (Ok p) go = refl
  behind-law (Err e) go = refl

  ignored-law : (o b : Bool) (m : ℕ) (r : ℕ → Outcome (Unit {0})) (go : List Attribute → ℕ → Outcome (List Attribute))
      → choose o (choose b (choose o (then (r (m + 1)) (λ u e. go [] e)) (Err (refuse syntax m))) (Err (refuse deep m))) (go [] m)
      ≡ then (then (choose o (then (choose o (choose b (passed_at (m + 1)) (Err (refuse deep m))) (Err (refuse syntax m))) (λ u n. r n)) (passed_at m)) (λ u e. nothing_at e)) go
  unfolding choose then
  ignored-law true true m r go = behind-law (r (m + 1)) go
  ignored-law true false m r go = refl
  ignored-law false b m r go = refl

  abbrev ignored_rest : (d m : ℕ) → Row some_attributes
  ignored_rest d m =
      either (sees ts (an_open aliases) (m + 1))
      (limit d (token (an_open aliases) (part a_skip (balanced aliases (d + 1) closing_parenthesis) (λ u e. entries_end ts aliases d [] e))))
      (entries_end ts aliases d [] (m + 1))

  ignored_row : (d m : ℕ) → going ts some_attributes (ignored_rest d m) (m + 1) ≡ then (entry_by ts aliases d m mean.Ignored) (entries_on ts aliases d)
  unfolding entries_on ignored_at opening
  ignored_row d m =
      ignored-law (sees ts (an_open aliases) (m + 1)) (below_limit d) (m + 1)
      (read ts a_skip (balanced aliases (d + 1) closing_parenthesis)) (entries_on ts aliases d)

  row-law : (d m : ℕ) (w : Meaning)
      → going ts some_attributes (entry_row ts aliases d m w) m
      ≡ then (choose (is_word_at ts m) (entry_by ts aliases d m w) (Err (refuse syntax m))) (λ xs e. entries_on ts aliases d xs e)
  unfolding entries_on attribute_at
  row-law d m (mean.Known k) =
      known-law (is_word_at ts m) (lacks ts aliases k m) m _ _ _
      (opens_at ts aliases some_attributes d (m + 1) (arguments_row ts aliases (d + 1) k m (taking k) (λ x e. entries_end ts aliases d (x ∷ []) e))
      ∙ then-same (opening ts aliases d (m + 1)) _ _ (λ u n. follows ts aliases (d + 1) k m (taking k) (λ xs e. entries_end ts aliases d xs e))
      ∙ sym (then-then (opening ts aliases d (m + 1)) _ _))
  row-law d m mean.LeftOut = left-law (is_word_at ts m) m _
  row-law d m mean.Ignored =
      word-law (is_word_at ts m) m (going ts some_attributes (ignored_rest d m) (m + 1)) (entry_by ts aliases d m mean.Ignored) (entries_on ts aliases d) (ignored_row d m)

  entries_at : (d m : ℕ) → read ts some_attributes (entries aliases d) m ≡ then (entry_at ts aliases d m) (λ xs e. entries_on ts aliases d xs e)
  unfolding entry_at
  entries_at d m = read_steps ts some_attributes (entries aliases d) m ∙ row-law d m (entry_meaning ts aliases m)

  -- the attributes before are put in front
  on-law : (front xs : List Attribute) (b c : Bool) (n : ℕ) (r : Outcome (List Attribute))
      → after front (choose b (choose b (after xs r) (Err (refuse syntax n))) (choose c (Ok (xs, n + 1)) (Err (refuse syntax n))))
      ≡ choose b (choose b (after (front ++ xs) r) (Err (refuse syntax n))) (choose c (Ok (front ++ xs, n + 1)) (Err (refuse syntax n)))
  unfolding choose then
  on-law front xs true c n r = after-after front xs r
  on-law front xs false true n r = refl
  on-law front xs false false n r = refl

  after-entries : (front : List Attribute) (d m : ℕ)
      → after front (read ts some_attributes (entries aliases d) m) ≡ then (after front (entry_at ts aliases d m)) (λ xs e. entries_on ts aliases d xs e)
  unfolding entries_on
  after-entries front d m =
      ap (after front) (entries_at d m)
      ∙ after-then front (entry_at ts aliases d m) _ (λ xs n. on-law front xs _ _ n (read ts some_attributes (entries aliases d) (n + 1)))

  pub entries_fail : (xs : List Attr) (d m : ℕ) (e : SyntaxRefusal) → Fails e (after (attr_shapes xs) (entry_at ts aliases d m))
      → Fails e (after (attr_shapes xs) (read ts some_attributes (entries aliases d) m))
  entries_fail xs d m e h = fails_same e _ _ (after-entries (attr_shapes xs) d m) (fails_then e _ _ h)

  pub entries_wrong : (xs ys : List Attr) (d m n : ℕ) → after (attr_shapes xs) (entry_at ts aliases d m) ≡ Ok (attr_shapes ys, n)
      → sign_at ts aliases n ≢ sign.Comma → sign_at ts aliases n ≢ sign.Close
      → after (attr_shapes xs) (read ts some_attributes (entries aliases d) m) ≡ Err (refuse syntax n)
  unfolding entries_on
  entries_wrong xs ys d m n h a b =
      after-entries (attr_shapes xs) d m ∙ goes _ _ (attr_shapes ys) n h
      ∙ other _ _ _ (not_comma (sign_at ts aliases n) a) ∙ other _ _ _ (not_close (sign_at ts aliases n) b)

  pub entries_last : (xs ys : List Attr) (d m n : ℕ) → after (attr_shapes xs) (entry_at ts aliases d m) ≡ Ok (attr_shapes ys, n)
      → sign_at ts aliases n ≡ sign.Close
      → after (attr_shapes xs) (read ts some_attributes (entries aliases d) m) ≡ Ok (attr_shapes ys, n + 1)
  unfolding entries_on
  entries_last xs ys d m n h c =
      after-entries (attr_shapes xs) d m ∙ goes _ _ (attr_shapes ys) n h
      ∙ other _ _ _ (ap (λ s. nat_eq (mark s) 10) c) ∙ chosen _ _ _ (ap (λ s. nat_eq (mark s) 7) c)

  pub entries_more : (xs ys : List Attr) (d m n : ℕ) → after (attr_shapes xs) (entry_at ts aliases d m) ≡ Ok (attr_shapes ys, n)
      → sign_at ts aliases n ≡ sign.Comma
      → after (attr_shapes xs) (read ts some_attributes (entries aliases d) m) ≡ after (attr_shapes ys) (read ts some_attributes (entries aliases d) (n + 1))
  unfolding entries_on
  entries_more xs ys d m n h c =
      after-entries (attr_shapes xs) d m ∙ goes _ _ (attr_shapes ys) n h
      ∙ chosen _ _ _ (ap (λ s. nat_eq (mark s) 10) c) ∙ chosen _ _ _ (ap (λ s. nat_eq (mark s) 10) c)

pub ruleset ignoring = (ignored_alone, ignored_deep, ignored_list, gives_same)

pub ruleset one_entry = (word_within, entry_wrong, entry_known, entry_left_out, entry_ignored, gives_same)

pub ruleset lists = (entries_fail, entries_wrong, entries_last, entries_more, fails_same, gives_same)
