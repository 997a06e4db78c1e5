-- The rows spell, begin and refuse entries, groups and attributes wherever the productions do.
use Rattle.std.proofs.Common.{ℕ, ◌+◌, ◌<◌, ◌≡◌, sym, subst, refl, List, [], ◌∷◌, ◌++◌, Bool, ◌&&◌, Option, Some, None, arith}
use Rattle.tsa_base.specs.Tokens.{Lexeme}
use Rattle.tsa_tree.specs.declared.sign.Sign.{Sign}
use Rattle.tsa_tree.specs.declared.sign.Sign.TheVariants as sign
use Rattle.tsa_tree.specs.declared.sign.Meaning.{Meaning}
use Rattle.tsa_tree.specs.declared.sign.Meaning.TheVariants as mean
use Rattle.tsa_tree.specs.attributes.Syntax.{Attribute}
use Rattle.tsa_tree.specs.tokens.Signs.{Aliases, sign_at, is_word_at, entry_meaning}
use Rattle.tsa_tree.specs.attributes.Spelling.{IsEntry, of_known, of_ignored, of_ignored_list, IsEntries, of_entry, of_entries, IsGroup}
use Rattle.tsa_tree.specs.attributes.Spelling.{of_macro, of_no_entries, of_list, IsAttributes, of_no_group, of_group}
use Rattle.tsa_tree.specs.attributes.Beginnings.{Opened, BeginsEntry, begins_nothing, begins_known, begins_ignored, begins_entry}
use Rattle.tsa_tree.specs.attributes.Beginnings.{BeginsEntries, begins_first, begins_next, BeginsGroup, begins_no_group, begins_macro}
use Rattle.tsa_tree.specs.attributes.Beginnings.{begins_word, begins_first_open, begins_list, begins_no_entries, begins_close, begins_group}
use Rattle.tsa_tree.specs.attributes.Beginnings.{BeginsAttributes, begins_one_group, begins_next_group}
use Rattle.tsa_tree.specs.attributes.Refusals.{lacking, left_out, RefusesEntries, entry_lacks, entry_left_out, next_entry, RefusesGroup}
use Rattle.tsa_tree.specs.attributes.Refusals.{macro_lacks, macro_left_out, in_list, RefusesAttributes, first_group, next_group}
use Rattle.tsa_tree.specs.Rows.{some_attributes, attributes, group, entries, closing_parenthesis, kind, a_word, sees, Row, lacks, group_row}
use Rattle.tsa_tree.specs.Rows.{entries_end, entry_row, rule}
use Rattle.tsa_tree.proofs.tokens.ProductionSigns.{seen}
use Rattle.tsa_tree.proofs.Inductions.{begins_whole}
use Rattle.tsa_tree.proofs.attributes.ToRows.{and_both, lacks_true, attribute_goes, attribute_starts, attribute_begins}
use Rattle.tsa_tree.proofs.attributes.SkipsToRows.{balanced_rows, balanced_begins}
use Rattle.tsa_grammar.specs.Form.{done, token, part, either}
use Rattle.tsa_grammar.specs.Spelling as forms
use Rattle.tsa_grammar.specs.Spelling.{by_rule, goes_done, goes_token, goes_part, goes_limit, goes_left, goes_right, begins_rule}
use Rattle.tsa_grammar.specs.Spelling.{starts_here, starts_barred, starts_token, starts_in, starts_over, starts_limit, starts_left}
use Rattle.tsa_grammar.specs.Spelling.{starts_right}

module _ (tokens : List Lexeme) (aliases : Aliases) (fits : ℕ → Bool) where
  abbrev Goes : Row some_attributes → List Attribute → (a b : ℕ) → Type 0
  Goes f x a b = forms.Goes (rule tokens) (sees tokens) fits some_attributes f x a b

  abbrev Starts : Row some_attributes → (a b : ℕ) → Option ℕ → Type 0
  Starts f a b w = forms.Starts (rule tokens) (sees tokens) fits some_attributes f a b w

  abbrev EntriesGo : (d : ℕ) → List Attribute → (a b : ℕ) → Type 0
  EntriesGo d xs a b = forms.Spells (rule tokens) (sees tokens) fits some_attributes (entries aliases d) xs a b

  abbrev EntriesStart : (d a b : ℕ) → Option ℕ → Type 0
  EntriesStart d a b w = forms.Begins (rule tokens) (sees tokens) fits some_attributes (entries aliases d) a b w

  abbrev GroupGoes : (d : ℕ) → List Attribute → (a b : ℕ) → Type 0
  GroupGoes d xs a b = forms.Spells (rule tokens) (sees tokens) fits some_attributes (group aliases d) xs a b

  abbrev GroupStarts : (d a b : ℕ) → Option ℕ → Type 0
  GroupStarts d a b w = forms.Begins (rule tokens) (sees tokens) fits some_attributes (group aliases d) a b w

  abbrev AttributesGo : (d : ℕ) → List Attribute → (a b : ℕ) → Type 0
  AttributesGo d xs a b = forms.Spells (rule tokens) (sees tokens) fits some_attributes (attributes aliases d) xs a b

  abbrev AttributesStart : (d a b : ℕ) → Option ℕ → Type 0
  AttributesStart d a b w = forms.Begins (rule tokens) (sees tokens) fits some_attributes (attributes aliases d) a b w

  -- Entries have the row of the first one's meaning.
  entries_by : (d a b : ℕ) (xs : List Attribute) (w : Meaning) → entry_meaning tokens aliases a ≡ w
      → Goes (entry_row tokens aliases d a w) xs a b → EntriesGo d xs a b
  entries_by d a b xs w e g = by_rule (subst (λ w. Goes (entry_row tokens aliases d a w) xs a b) (sym e) g)

  entries_start : (d a b : ℕ) (q : Option ℕ) (w : Meaning) → entry_meaning tokens aliases a ≡ w
      → Starts (entry_row tokens aliases d a w) a b q → EntriesStart d a b q
  entries_start d a b q w e g = begins_rule (subst (λ w. Starts (entry_row tokens aliases d a w) a b q) (sym e) g)

  -- Entries go on where what stands after the first one does.
  entry_goes : {d : ℕ} {xs : List Attribute} {a m : ℕ} → IsEntry tokens aliases fits d xs a m → (ys : List Attribute) (b : ℕ)
      → Goes (entries_end tokens aliases d xs m) ys m b → EntriesGo d ys a b
  entry_goes {d = d} {a = a} (of_known {k = k} word q i) ys b g =
      entries_by d a b ys (mean.Known k) q (attribute_goes tokens aliases fits i (is_word_at tokens a && lacks tokens aliases k a) a_word
      (λ x e. entries_end tokens aliases d (x ∷ []) e) ys b word g)
  entry_goes {d = d} {a = a} (of_ignored word q) ys b g = entries_by d a b ys mean.Ignored q (goes_token word (goes_right g))
  entry_goes {d = d} {a = a} (of_ignored_list {b = n} word q o fit i close) ys b g =
      entries_by d a b ys mean.Ignored q
      (goes_token word (goes_left (goes_limit fit (goes_token (seen tokens aliases 5 (a + 1) sign.Open o refl)
      (goes_part (balanced_rows tokens aliases fits i closing_parenthesis (seen tokens aliases 6 n sign.Close close refl)) g)))))

  entry_starts : {d : ℕ} {xs : List Attribute} {a m : ℕ} → IsEntry tokens aliases fits d xs a m → (b : ℕ) (w : Option ℕ)
      → Starts (entries_end tokens aliases d xs m) m b w → EntriesStart d a b w
  entry_starts {d = d} {a = a} (of_known {k = k} word q i) b w g =
      entries_start d a b w (mean.Known k) q (attribute_starts tokens aliases fits i (is_word_at tokens a && lacks tokens aliases k a) a_word
      (λ x e. entries_end tokens aliases d (x ∷ []) e) b w word g)
  entry_starts {d = d} {a = a} (of_ignored word q) b w g = entries_start d a b w mean.Ignored q (starts_token word (starts_right g))
  entry_starts {d = d} {a = a} (of_ignored_list {b = n} word q o fit i close) b w g =
      entries_start d a b w mean.Ignored q
      (starts_token word (starts_left (starts_limit fit (starts_token (seen tokens aliases 5 (a + 1) sign.Open o refl)
      (starts_over (balanced_rows tokens aliases fits i closing_parenthesis (seen tokens aliases 6 n sign.Close close refl)) g)))))

  -- The rows spell entries with the parenthesis that closes them.
  pub entries_rows : {d : ℕ} {xs : List Attribute} {a b : ℕ} → IsEntries tokens aliases fits d xs a b
      → sign_at tokens aliases b ≡ sign.Close → EntriesGo d xs a (b + 1)
  entries_rows {xs = xs} {b = b} (of_entry i) close =
      entry_goes i xs (b + 1) (goes_right (goes_token (seen tokens aliases 6 b sign.Close close refl) goes_done))
  entries_rows {b = b} (of_entries {xs = xs} {ys = ys} {m = m} i comma r) close =
      entry_goes i (xs ++ ys) (b + 1) (goes_left (goes_token (seen tokens aliases 9 m sign.Comma comma refl)
      (goes_part (entries_rows r close) goes_done)))

  entry_begins : {d a b : ℕ} → BeginsEntry tokens aliases fits d a b → EntriesStart d a b None
  entry_begins begins_nothing = begins_rule starts_here
  entry_begins {d = d} {a = a} {b = b} (begins_known {k = k} word q h) =
      entries_start d a b None (mean.Known k) q (attribute_begins tokens aliases fits h (is_word_at tokens a && lacks tokens aliases k a) a_word
      (λ x e. entries_end tokens aliases d (x ∷ []) e) word)
  entry_begins {d = d} {a = a} {b = b} (begins_ignored word q o fit h) =
      entries_start d a b None mean.Ignored q
      (starts_token word (starts_left (starts_limit fit (starts_token (seen tokens aliases 5 (a + 1) sign.Open o refl)
      (starts_in (balanced_begins tokens aliases fits h closing_parenthesis))))))
  entry_begins {b = b} (begins_entry i) = entry_starts i b None starts_here

  -- What begins entries does so by the rows.
  pub entries_begins : {d a b : ℕ} → BeginsEntries tokens aliases fits d a b → EntriesStart d a b None
  entries_begins (begins_first h) = entry_begins h
  entries_begins {b = b} (begins_next {m = m} i comma h) =
      entry_starts i b None (starts_left (starts_token (seen tokens aliases 9 m sign.Comma comma refl) (starts_in (entries_begins h))))

  -- The rows refuse what is refused in entries.
  pub entries_refused : {d a b q : ℕ} → RefusesEntries tokens aliases fits d a b q → EntriesStart d a b (Some q)
  entries_refused {d = d} {a = a} (entry_lacks {k = k} word q l) =
      entries_start d a a (Some lacking) (mean.Known k) q
      (starts_barred (and_both (is_word_at tokens a) (lacks tokens aliases k a) word (lacks_true tokens aliases fits k a l)))
  entries_refused {d = d} {a = a} (entry_left_out word q) = entries_start d a a (Some left_out) mean.LeftOut q (starts_barred word)
  entries_refused {b = b} {q = r} (next_entry {m = m} i comma h) =
      entry_starts i b (Some r) (starts_left (starts_token (seen tokens aliases 9 m sign.Comma comma refl) (starts_in (entries_refused h))))

  -- A group has the row of its first token's sign.
  group_by : (d a b : ℕ) (xs : List Attribute) (s : Sign) → sign_at tokens aliases a ≡ s
      → Goes (group_row tokens aliases d a s) xs a b → GroupGoes d xs a b
  group_by d a b xs s e g = by_rule (subst (λ s. Goes (group_row tokens aliases d a s) xs a b) (sym e) g)

  group_start : (d a b : ℕ) (w : Option ℕ) (s : Sign) → sign_at tokens aliases a ≡ s
      → Starts (group_row tokens aliases d a s) a b w → GroupStarts d a b w
  group_start d a b w s e g = begins_rule (subst (λ s. Starts (group_row tokens aliases d a s) a b w) (sym e) g)

  -- what stands after `__attribute__((`
  abbrev Inside : (d a : ℕ) → Row some_attributes
  Inside d a =
      either (sees tokens (kind aliases 6) (a + 1 + 1 + 1)) (token (kind aliases 6) (token (kind aliases 6) (done [])))
      (part some_attributes (entries aliases (d + 1 + 1)) (λ xs n. token (kind aliases 6) (done xs)))

  inside_goes : (d a b : ℕ) (xs : List Attribute) → Opened tokens aliases fits d a → Goes (Inside d a) xs (a + 1 + 1 + 1) b
      → GroupGoes d xs a b
  inside_goes d a b xs o g =
      group_by d a b xs sign.Attribute o.0
      (goes_token (seen tokens aliases 20 a sign.Attribute o.0 refl)
      (goes_left (goes_limit o.2 (goes_token (seen tokens aliases 5 (a + 1) sign.Open o.1 refl)
      (goes_left (goes_limit o.4 (goes_token (seen tokens aliases 5 (a + 1 + 1) sign.Open o.3 refl) g)))))))

  inside_starts : (d a b : ℕ) (w : Option ℕ) → Opened tokens aliases fits d a → Starts (Inside d a) (a + 1 + 1 + 1) b w
      → GroupStarts d a b w
  inside_starts d a b w o g =
      group_start d a b w sign.Attribute o.0
      (starts_token (seen tokens aliases 20 a sign.Attribute o.0 refl)
      (starts_left (starts_limit o.2 (starts_token (seen tokens aliases 5 (a + 1) sign.Open o.1 refl)
      (starts_left (starts_limit o.4 (starts_token (seen tokens aliases 5 (a + 1 + 1) sign.Open o.3 refl) g)))))))

  -- The rows spell a group.
  pub group_rows : {d : ℕ} {xs : List Attribute} {a b : ℕ} → IsGroup tokens aliases fits d xs a b → GroupGoes d xs a b
  group_rows {d = d} {xs = xs} {a = a} {b = b} (of_macro {k = k} q i) =
      group_by d a b xs (sign.Macro k) q (attribute_goes tokens aliases fits i (lacks tokens aliases k a) (kind aliases 22)
      (λ x e. done (x ∷ [])) xs b (seen tokens aliases 22 a (sign.Macro k) q refl) goes_done)
  group_rows {d = d} {a = a} {b = b} (of_no_entries q o fit o' fit' close close') =
      inside_goes d a b [] (q, o, fit, o', fit')
      (goes_left (goes_token (seen tokens aliases 6 (a + 1 + 1 + 1) sign.Close close refl)
      (goes_token (seen tokens aliases 6 (a + 1 + 1 + 1 + 1) sign.Close close' refl) goes_done)))
  group_rows {d = d} {xs = xs} {a = a} (of_list {b = n} q o fit o' fit' i close close') =
      inside_goes d a (n + 1 + 1) xs (q, o, fit, o', fit')
      (goes_right (goes_part (entries_rows i close) (goes_token (seen tokens aliases 6 (n + 1) sign.Close close' refl) goes_done)))

  -- What begins a group does so by the rows.
  pub group_begins : {d a b : ℕ} → BeginsGroup tokens aliases fits d a b → GroupStarts d a b None
  group_begins begins_no_group = begins_rule starts_here
  group_begins {d = d} {a = a} {b = b} (begins_macro {k = k} q h) =
      group_start d a b None (sign.Macro k) q (attribute_begins tokens aliases fits h (lacks tokens aliases k a) (kind aliases 22)
      (λ x e. done (x ∷ [])) (seen tokens aliases 22 a (sign.Macro k) q refl))
  group_begins {d = d} {a = a} {b = b} (begins_word q) =
      group_start d a b None sign.Attribute q (starts_token (seen tokens aliases 20 a sign.Attribute q refl) starts_here)
  group_begins {d = d} {a = a} {b = b} (begins_first_open q o fit) =
      group_start d a b None sign.Attribute q
      (starts_token (seen tokens aliases 20 a sign.Attribute q refl)
      (starts_left (starts_limit fit (starts_token (seen tokens aliases 5 (a + 1) sign.Open o refl) starts_here))))
  group_begins {d = d} {a = a} {b = b} (begins_list o h) = inside_starts d a b None o (starts_right (starts_in (entries_begins h)))
  group_begins {d = d} {a = a} {b = b} (begins_no_entries o close) =
      inside_starts d a b None o (starts_left (starts_token (seen tokens aliases 6 (a + 1 + 1 + 1) sign.Close close refl) starts_here))
  group_begins {d = d} {a = a} {b = b} (begins_close o i close) =
      inside_starts d a b None o (starts_right (starts_over (entries_rows i close) starts_here))
  group_begins (begins_group g) = begins_whole (rule tokens) (sees tokens) fits (group_rows g)

  -- The rows refuse what is refused in a group.
  pub group_refused : {d a b q : ℕ} → RefusesGroup tokens aliases fits d a b q → GroupStarts d a b (Some q)
  group_refused {d = d} {a = a} (macro_lacks {k = k} q l) =
      group_start d a a (Some lacking) (sign.Macro k) q (starts_barred (lacks_true tokens aliases fits k a l))
  group_refused {d = d} {a = a} (macro_left_out q) = group_start d a a (Some left_out) sign.LeftOutMacro q (starts_barred refl)
  group_refused {d = d} {a = a} {b = b} {q = r} (in_list o h) =
      inside_starts d a b (Some r) o (starts_right (starts_in (entries_refused h)))

  -- The rows spell a group with all that come after it.
  groups_rows : {d : ℕ} {xs ys : List Attribute} {a m b : ℕ} → IsGroup tokens aliases fits d xs a m
      → IsAttributes tokens aliases fits d ys m b → AttributesGo d (xs ++ ys) a b
  groups_rows g of_no_group = by_rule (goes_part (group_rows g) (goes_right goes_done))
  groups_rows g (of_group h r) = by_rule (goes_part (group_rows g) (goes_left (goes_part (groups_rows h r) goes_done)))

  -- The rows spell attributes, one group or more.
  pub attributes_rows : {d : ℕ} {xs : List Attribute} {a b : ℕ} → IsAttributes tokens aliases fits d xs a b → a < b → AttributesGo d xs a b
  attributes_rows of_no_group lt = absurd (omega arith)
  attributes_rows (of_group g r) lt = groups_rows g r

  -- What begins attributes does so by the rows.
  pub attributes_begins : {d a b : ℕ} → BeginsAttributes tokens aliases fits d a b → AttributesStart d a b None
  attributes_begins (begins_one_group h) = begins_rule (starts_in (group_begins h))
  attributes_begins (begins_next_group g h) = begins_rule (starts_over (group_rows g) (starts_left (starts_in (attributes_begins h))))

  -- The rows refuse what is refused in attributes.
  pub attributes_refused : {d a b q : ℕ} → RefusesAttributes tokens aliases fits d a b q → AttributesStart d a b (Some q)
  attributes_refused (first_group h) = begins_rule (starts_in (group_refused h))
  attributes_refused (next_group g h) = begins_rule (starts_over (group_rows g) (starts_left (starts_in (attributes_refused h))))
