-- Reading attributes by the rows gives the answer that the grammar alone asks for.
use Rattle.std.proofs.Common.{ℕ, ◌+◌, ◌<◌, ◌≤◌, ◌≡◌, ◌∙◌, ap, sym, refl, List, [], Bool, true, false, Ok, Err, arith, inl, inr, ◌⊎◌}
use Rattle.std.proofs.lemmas.Bool.{cases_lt}
use Rattle.tsa_base.specs.Tokens.{Lexeme}
use Rattle.tsa_tree.specs.declared.sign.Sign.{Sign}
use Rattle.tsa_tree.specs.declared.sign.Sign.TheVariants as sign
use Rattle.tsa_tree.specs.attributes.Syntax.{Attribute}
use Rattle.tsa_tree.specs.attributes.Spelling.{IsGroup, of_macro, of_no_entries, of_list, IsAttributes, of_no_group, of_group}
use Rattle.tsa_tree.specs.attributes.Beginnings.{begins_name, BeginsGroup, begins_no_group, begins_macro, begins_word, begins_first_open}
use Rattle.tsa_tree.specs.attributes.Beginnings.{begins_list, begins_no_entries, begins_close, begins_group, BeginsAttributes}
use Rattle.tsa_tree.specs.attributes.Beginnings.{begins_one_group, begins_next_group}
use Rattle.tsa_tree.specs.attributes.Refusals.{left_out, RefusesGroup, macro_lacks, macro_left_out, in_list, RefusesAttributes, first_group}
use Rattle.tsa_tree.specs.attributes.Refusals.{next_group}
use Rattle.tsa_tree.specs.attributes.Answers.{IsAnswer, read_any}
use Rattle.tsa_tree.specs.expressions.Answers.{below_limit}
use Rattle.tsa_tree.specs.Reads.{read}
use Rattle.tsa_tree.specs.Rows as rows
use Rattle.tsa_tree.specs.Rows.{sees, rule, is_attribute_sign, attributes}
use Rattle.tsa_tree.specs.tokens.Signs.{Aliases, sign_at}
use Rattle.tsa_tree.proofs.attributes.RowEquality.{attributes_spell, attributes_begin, attributes_refuse}
use Rattle.tsa_tree.proofs.expressions.RowsToProductions.{production_of}
use Rattle.tsa_tree.proofs.RowsRead.{reading, reading_exact, completed, broken_free}
use Rattle.tsa_grammar.proofs.Cases.{on_choose}
use Rattle.tsa_grammar.specs.Exact as forms
use Rattle.tsa_grammar.specs.Reading.{Code, syntax, deep, barred, Refusal, refuse, Outcome, all}

module _ (tokens : List Lexeme) (aliases : Aliases) (fits : ℕ → Bool) where
  group_starts : {d : ℕ} {xs : List Attribute} {a b : ℕ} → IsGroup tokens aliases fits d xs a b → is_attribute_sign (sign_at tokens aliases a) ≡ true
  group_starts (of_macro e x) = ap is_attribute_sign e
  group_starts (of_no_entries e o f o' f' c c') = ap is_attribute_sign e
  group_starts (of_list e o f o' f' xs c c') = ap is_attribute_sign e

  begun_starts : {d a b : ℕ} → BeginsGroup tokens aliases fits d a b → a < b → is_attribute_sign (sign_at tokens aliases a) ≡ true
  begun_starts begins_no_group lt = absurd (omega arith)
  begun_starts (begins_macro e x) lt = ap is_attribute_sign e
  begun_starts (begins_word e) lt = ap is_attribute_sign e
  begun_starts (begins_first_open e o f) lt = ap is_attribute_sign e
  begun_starts (begins_list o xs) lt = ap is_attribute_sign o.0
  begun_starts (begins_no_entries o c) lt = ap is_attribute_sign o.0
  begun_starts (begins_close o xs c) lt = ap is_attribute_sign o.0
  begun_starts (begins_group g) lt = group_starts g

  -- what has a token begins with one of a group
  starts : {d a b : ℕ} → BeginsAttributes tokens aliases fits d a b → a < b → is_attribute_sign (sign_at tokens aliases a) ≡ true
  starts (begins_one_group g) lt = begun_starts g lt
  starts (begins_next_group g rest) lt = group_starts g

  refused_starts : {d a b q : ℕ} → RefusesAttributes tokens aliases fits d a b q → is_attribute_sign (sign_at tokens aliases a) ≡ true
  refused_starts (first_group (macro_lacks e l)) = ap is_attribute_sign e
  refused_starts (first_group (macro_left_out e)) = ap is_attribute_sign e
  refused_starts (first_group (in_list o r)) = ap is_attribute_sign o.0
  refused_starts (next_group g r) = group_starts g

  group_behind : {d : ℕ} {xs : List Attribute} {a i b : ℕ} → IsAttributes tokens aliases fits d xs a i → BeginsGroup tokens aliases fits d i b
      → BeginsAttributes tokens aliases fits d a b
  group_behind of_no_group g = begins_one_group g
  group_behind (of_group h rest) g = begins_next_group h (group_behind rest g)

  refused_behind : {d : ℕ} {xs : List Attribute} {a i b q : ℕ} → IsAttributes tokens aliases fits d xs a i → RefusesGroup tokens aliases fits d i b q
      → RefusesAttributes tokens aliases fits d a b q
  refused_behind of_no_group g = first_group g
  refused_behind (of_group h rest) g = next_group h (refused_behind rest g)

  pub whole : {d : ℕ} {xs : List Attribute} {a b : ℕ} → IsAttributes tokens aliases fits d xs a b → BeginsAttributes tokens aliases fits d a b
  whole h = group_behind h begins_no_group

  -- where a group can begin after a list, it begins more of the list, or it is one that is left out
  pub on_sign : {d : ℕ} {xs : List Attribute} {a : ℕ} (i : ℕ) (s : Sign) → sign_at tokens aliases i ≡ s → is_attribute_sign s ≡ true
      → IsAttributes tokens aliases fits d xs a i → BeginsAttributes tokens aliases fits d a (i + 1) ⊎ RefusesAttributes tokens aliases fits d a i left_out
  on_sign i sign.Attribute e h sp = inl (group_behind sp (begins_word e))
  on_sign i (sign.Macro k) e h sp = inl (group_behind sp (begins_macro e begins_name))
  on_sign i sign.LeftOutMacro e h sp = inr (refused_behind sp (macro_left_out e))
  on_sign i _ e h sp = cc

module _ (tokens : List Lexeme) (aliases : Aliases) (d a : ℕ) where
  abbrev bounded : (ℕ → Bool) → Outcome (List Attribute)
  bounded fits = reading tokens fits rows.some_attributes (attributes aliases d) a

  clash : (x : List Attribute × ℕ) (y : Refusal) (r : Outcome (List Attribute)) → r ≡ Ok x → r ≡ Err y → ⊥
  clash x y r e q = let never : Ok x ≡ Err y = sym e ∙ q in cc

  ended : (xs : List Attribute) (i : ℕ) → a < i → is_attribute_sign (sign_at tokens aliases i) ≡ false → IsAttributes tokens aliases all d xs a i
      → bounded below_limit ≡ Err (refuse syntax i) → ⊥
  ended xs i lt h sp r =
      clash _ _ _ (completed tokens rows.some_attributes (attributes aliases d) xs a i ((attributes_spell tokens aliases all d xs a i lt).0 sp) h)
      (broken_free tokens below_limit rows.some_attributes (attributes aliases d) a i r)

  -- Where a group can begin after a list, that isn't the longest beginning, or an attribute is refused.
  pub going_on : (xs : List Attribute) (i : ℕ) → is_attribute_sign (sign_at tokens aliases i) ≡ true → IsAttributes tokens aliases all d xs a i
      → ((b : ℕ) → BeginsAttributes tokens aliases all d a b → b ≤ i) → ((j q : ℕ) → RefusesAttributes tokens aliases all d a j q → ⊥) → ⊥
  going_on xs i h sp longest free =
      elim (on_sign tokens aliases all i (sign_at tokens aliases i) refl h sp) [
        | inl on ↦ (let le = longest (i + 1) on in absurd (omega arith))
        | inr r ↦ free i left_out r
      ]

  by_sign : (xs : List Attribute) (i : ℕ) (b : Bool) → is_attribute_sign (sign_at tokens aliases i) ≡ b → is_attribute_sign (sign_at tokens aliases a) ≡ true
      → IsAttributes tokens aliases all d xs a i → bounded below_limit ≡ Err (refuse syntax i)
      → ((b : ℕ) → BeginsAttributes tokens aliases all d a b → b ≤ i) → ((j q : ℕ) → RefusesAttributes tokens aliases all d a j q → ⊥) → ⊥
  by_sign xs i true h first sp r longest free = going_on xs i h sp longest free
  by_sign xs i false h first sp r longest free =
      elim (cases_lt a i) [
        | inl lt ↦ ended xs i lt h sp r
        | inr le ↦ going_on [] a first of_no_group (λ b g. let lo = longest b g in omega arith) free
      ]

  abbrev Free : Type 0
  Free = (j q : ℕ) → RefusesAttributes tokens aliases all d a j q → ⊥

  refused : is_attribute_sign (sign_at tokens aliases a) ≡ true → (code : Code) (i : ℕ) → bounded below_limit ≡ Err (refuse code i)
      → forms.ExactAt (rule tokens) (sees tokens) below_limit rows.some_attributes (attributes aliases d) a code i
      → IsAnswer tokens aliases d a (Err (refuse code i))
  refused first syntax i h x =
      let longest : (b : ℕ) → BeginsAttributes tokens aliases all d a b → b ≤ i = λ b g. x.longest b ((attributes_begin tokens aliases all d a b).0 g) in
      let free : Free = λ j q r. x.no_bar j q ((attributes_refuse tokens aliases all d a j q).0 r) in
      record {
        begins = (attributes_begin tokens aliases below_limit d a i).1 x.begins;
        longest = longest;
        no_tree = λ xs sp. by_sign xs i _ refl first sp h longest free;
        none_refused = free;
      }
  refused first deep i h x = record {
    begins = (attributes_begin tokens aliases below_limit d a i).1 x.begins;
    first = λ b g. x.within b ((attributes_begin tokens aliases below_limit d a b).0 g);
    goes_on = (x.goes_on.0, x.goes_on.1, (attributes_begin tokens aliases all d a x.goes_on.0).1 x.goes_on.2);
    none_refused = λ j q r. x.no_bar j q ((attributes_refuse tokens aliases all d a j q).0 r);
  }
  refused first (barred q) i h x = record {
    begins = (attributes_refuse tokens aliases below_limit d a i q).1 x.begins;
    first = λ j p r. x.first j p ((attributes_refuse tokens aliases all d a j p).0 r);
  }

  answered : is_attribute_sign (sign_at tokens aliases a) ≡ true → (r : Outcome (List Attribute)) → bounded below_limit ≡ r
      → forms.Exact (rule tokens) (sees tokens) below_limit rows.some_attributes (attributes aliases d) a r → IsAnswer tokens aliases d a r
  answered first (Ok found) h x = record {
    spelled = production_of tokens below_limit x.spelled tt;
    longest = λ b g. x.longest b ((attributes_begin tokens aliases all d a b).0 g);
    none_refused = λ j q r. x.no_bar j q ((attributes_refuse tokens aliases all d a j q).0 r);
  }
  answered first (Err e) h x = refused first e.code e.token h x

  none_there : is_attribute_sign (sign_at tokens aliases a) ≡ false → IsAnswer tokens aliases d a (Ok ([], a))
  none_there h = record {
    spelled = of_no_group;
    longest = λ b g. elim (cases_lt a b) [ inl lt ↦ (let never : true ≡ false = sym (starts tokens aliases all g lt) ∙ h in absurd cc) | inr le ↦ le ];
    none_refused = λ j q r. (let never : true ≡ false = sym (refused_starts tokens aliases all r) ∙ h in cc);
  }

  pub read_any_answers : IsAnswer tokens aliases d a (read_any tokens aliases d a)
  unfolding read_any read
  read_any_answers =
      on_choose (IsAnswer tokens aliases d a) (is_attribute_sign (sign_at tokens aliases a)) _ _
      (λ first. answered first (bounded below_limit) refl (reading_exact tokens below_limit rows.some_attributes (attributes aliases d) a))
      none_there
