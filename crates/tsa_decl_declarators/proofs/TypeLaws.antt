-- Types up to before their declarators: a base with `const` before and after it.
use Rattle.std.proofs.Common.{ℕ, zero, suc, ◌+◌, ◌<◌, ◌≤◌, ◌≡◌, ◌≢◌, ◌∙◌, ap, refl, sym, arith, Bool, true, false, ◌||◌, List, length, Ok}
use Rattle.std.proofs.Common.{Err, nat_eq}
use Rattle.tsa_base.specs.Tokens.{Lexeme}
use Rattle.tsa_grammar.proofs.Cases.{chosen, other, goes}
use Rattle.tsa_grammar.specs.Form.{done}
use Rattle.tsa_grammar.specs.Reading.{Outcome, refuse, syntax, then, choose}
use Rattle.tsa_tree.proofs.RowFacts.{inside}
use Rattle.tsa_tree.proofs.RowsRead.{read_steps}
use Rattle.tsa_tree.specs.declared.decl.BaseType.{BaseType}
use Rattle.tsa_tree.specs.declared.decl.BaseType.TheVariants as kept
use Rattle.tsa_tree.specs.declared.expr.Name.{Name}
use Rattle.tsa_tree.specs.declared.sign.Keyword.{Keyword}
use Rattle.tsa_tree.specs.declared.sign.Keyword.TheVariants as key
use Rattle.tsa_tree.specs.declared.sign.Sign.{Sign}
use Rattle.tsa_tree.specs.declared.sign.Sign.TheVariants as sign
use Rattle.tsa_tree.specs.declarations.Syntax.{Base, int, unsigned, void, structure, enumerated, alias, Specified, constant}
use Rattle.tsa_tree.specs.expressions.Syntax.{Identifier}
use Rattle.tsa_tree.specs.declarations.Shapes.{base_shape}
use Rattle.tsa_tree.specs.Reads.{read}
use Rattle.tsa_tree.specs.Rows.{a_skip, a_specifier, consts, specifier, a_keyword, is_keyword, mark, sees, specified, with_int}
use Rattle.tsa_tree.specs.Rows.{specifier_row}
use Rattle.tsa_tree.specs.expressions.Shapes.{name_shape}
use Rattle.tsa_tree.specs.tokens.Signs.{Aliases, sign_at, identifier_at, is_tag}
use Rattle.tsa_expr.specs.declared.refusal.SyntaxRefusal.{SyntaxRefusal}
use Rattle.tsa_expr.specs.Gives.{Fails}
use Rattle.tsa_expr.proofs.Answering.{fails_then, fails_same, gives_same, then_done}
use Rattle.tsa_attr.proofs.Joining.{then-then, then-same, then-ok, then-unit}
use Rattle.tsa_decl_declarators.specs.Outcomes.{going, tag_at, consts_at, behind_int, base_by, base_at, specified_at}
use Rattle.tsa_decl_declarators.proofs.Pieces.{consts_then}

-- the type where `const` stands before it or not
abbrev pub marked : Bool → Specified → Specified
marked before t = record { base = t.base; is_const = before || t.is_const }

module _ (ts : List Lexeme) (aliases : Aliases) where
  abbrev is_const_at : ℕ → Bool
  is_const_at m = sees ts (a_keyword aliases key.Const) m

  -- any number of `const`
  pub consts_none : (m : ℕ) → is_const_at m ≡ false → consts_at ts aliases m ≡ Ok (tt, m)
  unfolding consts_at
  consts_none m e = other _ _ _ e

  pub consts_more : (m : ℕ) → is_const_at m ≡ true → consts_at ts aliases m ≡ consts_at ts aliases (m + 1)
  unfolding consts_at
  consts_more m e =
      chosen _ _ _ e ∙ read_steps ts a_skip (consts aliases) m ∙ chosen _ _ _ e
      ∙ consts_then ts aliases a_skip (m + 1) (λ c n. done tt) ∙ then-unit (consts_at ts aliases (m + 1))

  -- by the sign at a place
  pub sign_none : (m : ℕ) (s : Sign) → s ≡ sign_at ts aliases m → is_keyword key.Const s ≡ false → consts_at ts aliases m ≡ Ok (tt, m)
  sign_none m s e c = consts_none m (ap (is_keyword key.Const) (sym e) ∙ c)

  pub sign_more : (m : ℕ) (s : Sign) → s ≡ sign_at ts aliases m → is_keyword key.Const s ≡ true → consts_at ts aliases m ≡ consts_at ts aliases (m + 1)
  sign_more m s e c = consts_more m (ap (is_keyword key.Const) (sym e) ∙ c)

  -- `int` after a sign
  pub int_there : (m : ℕ) → sees ts (a_keyword aliases key.Int) m ≡ true → m + 1 ≡ behind_int ts aliases m
  int_there m e = sym (chosen _ _ _ e)

  pub int_missing : (m : ℕ) → sees ts (a_keyword aliases key.Int) m ≡ false → m ≡ behind_int ts aliases m
  int_missing m e = sym (other _ _ _ e)

  -- a base by its first sign
  word_is : (m : ℕ) (w v : Keyword) → w ≡ v → base_by ts aliases m (sign.Keyword w) ≡ base_by ts aliases m (sign.Keyword v)
  word_is m w v e = ap (λ w. base_by ts aliases m (sign.Keyword w)) e

  pub base_int : (m : ℕ) (w : Keyword) (n : ℕ) (x : Base) → w ≡ key.Int → x ≡ int → n ≡ m + 1
      → base_by ts aliases m (sign.Keyword w) ≡ Ok (x, n)
  base_int m w n x k e h = word_is m w key.Int k ∙ ap (λ x. Ok (x, m + 1)) (sym e) ∙ ap (λ n. Ok (x, n)) (sym h)

  pub base_void : (m : ℕ) (w : Keyword) (n : ℕ) (x : Base) → w ≡ key.Void → x ≡ void → n ≡ m + 1
      → base_by ts aliases m (sign.Keyword w) ≡ Ok (x, n)
  base_void m w n x k e h = word_is m w key.Void k ∙ ap (λ x. Ok (x, m + 1)) (sym e) ∙ ap (λ n. Ok (x, n)) (sym h)

  pub base_signed : (m : ℕ) (w : Keyword) (n : ℕ) (x : Base) → w ≡ key.Signed → x ≡ int
      → n ≡ behind_int ts aliases (m + 1) → base_by ts aliases m (sign.Keyword w) ≡ Ok (x, n)
  base_signed m w n x k e h =
      word_is m w key.Signed k ∙ ap (λ x. Ok (x, behind_int ts aliases (m + 1))) (sym e) ∙ ap (λ n. Ok (x, n)) (sym h)

  pub base_unsigned : (m : ℕ) (w : Keyword) (n : ℕ) (x : Base) → w ≡ key.Unsigned → x ≡ unsigned
      → n ≡ behind_int ts aliases (m + 1) → base_by ts aliases m (sign.Keyword w) ≡ Ok (x, n)
  base_unsigned m w n x k e h =
      word_is m w key.Unsigned k ∙ ap (λ x. Ok (x, behind_int ts aliases (m + 1))) (sym e) ∙ ap (λ n. Ok (x, n)) (sym h)

  pub struct_fails : (m : ℕ) (w : Keyword) (e : SyntaxRefusal) → w ≡ key.Struct
      → Fails e (tag_at ts aliases (m + 1)) → Fails e (base_by ts aliases m (sign.Keyword w))
  struct_fails m w e k h = fails_same e _ _ (word_is m w key.Struct k) (fails_then e _ _ h)

  pub struct_goes : (m : ℕ) (w : Keyword) (x : Name) (n : ℕ) (b : BaseType) → w ≡ key.Struct
      → tag_at ts aliases (m + 1) ≡ Ok (name_shape x, m + 1 + 1) → b ≡ kept.Structure x → n ≡ m + 1 + 1 → base_by ts aliases m (sign.Keyword w) ≡ Ok (base_shape b, n)
  struct_goes m w x n b k h e p =
      word_is m w key.Struct k ∙ goes _ _ (name_shape x) (m + 1 + 1) h ∙ ap (λ b. Ok (base_shape b, m + 1 + 1)) (sym e) ∙ ap (λ n. Ok (base_shape b, n)) (sym p)

  pub enum_fails : (m : ℕ) (w : Keyword) (e : SyntaxRefusal) → w ≡ key.Enum
      → Fails e (tag_at ts aliases (m + 1)) → Fails e (base_by ts aliases m (sign.Keyword w))
  enum_fails m w e k h = fails_same e _ _ (word_is m w key.Enum k) (fails_then e _ _ h)

  pub enum_goes : (m : ℕ) (w : Keyword) (x : Name) (n : ℕ) (b : BaseType) → w ≡ key.Enum
      → tag_at ts aliases (m + 1) ≡ Ok (name_shape x, m + 1 + 1) → b ≡ kept.Enumerated x → n ≡ m + 1 + 1 → base_by ts aliases m (sign.Keyword w) ≡ Ok (base_shape b, n)
  enum_goes m w x n b k h e p =
      word_is m w key.Enum k ∙ goes _ _ (name_shape x) (m + 1 + 1) h ∙ ap (λ b. Ok (base_shape b, m + 1 + 1)) (sym e) ∙ ap (λ n. Ok (base_shape b, n)) (sym p)

  pub word_wrong : (m : ℕ) (w : Keyword) → w ≢ key.Int → w ≢ key.Signed → w ≢ key.Unsigned → w ≢ key.Void → w ≢ key.Struct → w ≢ key.Enum
      → base_by ts aliases m (sign.Keyword w) ≡ Err (refuse syntax m)
  word_wrong m key.Int a b c d e f = absurd (a refl)
  word_wrong m key.Signed a b c d e f = absurd (b refl)
  word_wrong m key.Unsigned a b c d e f = absurd (c refl)
  word_wrong m key.Void a b c d e f = absurd (d refl)
  word_wrong m key.Struct a b c d e f = absurd (e refl)
  word_wrong m key.Enum a b c d e f = absurd (f refl)
  word_wrong m _ a b c d e f = refl

  pub base_alias : (m : ℕ) (s : Sign) (x : Identifier) (n : ℕ) (b : Base) → s ≡ sign.TypeName → x ≡ identifier_at ts m → b ≡ alias x → n ≡ m + 1
      → base_by ts aliases m s ≡ Ok (b, n)
  base_alias m s x n b e h q p =
      ap (base_by ts aliases m) e ∙ ap (λ x. Ok (alias x, m + 1)) (sym h) ∙ ap (λ b. Ok (b, m + 1)) (sym q) ∙ ap (λ n. Ok (b, n)) (sym p)

  pub base_keyword : (m : ℕ) (s : Sign) (w : Keyword) → s ≡ sign.Keyword w → base_by ts aliases m s ≡ base_by ts aliases m (sign.Keyword w)
  base_keyword m s w e = ap (base_by ts aliases m) e

  pub base_wrong : (m : ℕ) (s : Sign) → ((w : Keyword) → s ≢ sign.Keyword w) → s ≢ sign.TypeName → base_by ts aliases m s ≡ Err (refuse syntax m)
  base_wrong m (sign.Keyword w) a b = absurd (a w refl)
  base_wrong m sign.TypeName a b = absurd (b refl)
  base_wrong m _ a b = refl

  -- a type whose base was read
  pub specified_goes : (base : Base) (m : ℕ) (c : Bool) (n : ℕ) → c ≡ is_const_at m → consts_at ts aliases m ≡ Ok (tt, n)
      → specified_at ts aliases base m ≡ Ok (record { base = base; is_const = c }, n)
  unfolding specified_at
  specified_goes base m c n e h = goes _ _ tt n h ∙ ap (λ c. Ok (record { base = base; is_const = c }, n)) (sym e)

  -- a type that begins with its base
  abbrev from : ℕ → Outcome Specified
  from m = then (base_at ts aliases m) (λ b n. specified_at ts aliases b n)

  specified_row : (base : Base) (m : ℕ) → going ts a_specifier (specified ts aliases base m) m ≡ specified_at ts aliases base m
  unfolding specified_at
  specified_row base m = consts_then ts aliases a_specifier m (λ c n. done (record { base = base; is_const = c }))

  int_law : (b : Bool) (m : ℕ) (f : ℕ → Outcome Specified) → choose b (choose b (f (m + 1)) (Err (refuse syntax m))) (f m) ≡ f (choose b (m + 1) m)
  unfolding choose
  int_law true m f = refl
  int_law false m f = refl

  int_row : (base : Base) (m : ℕ) → going ts a_specifier (with_int ts aliases base m) m ≡ specified_at ts aliases base (behind_int ts aliases m)
  int_row base m =
      ap (λ r. choose (sees ts (a_keyword aliases key.Int) m) (choose (sees ts (a_keyword aliases key.Int) m) r (Err (refuse syntax m)))
      (going ts a_specifier (specified ts aliases base m) m)) (specified_row base (m + 1))
      ∙ ap (choose (sees ts (a_keyword aliases key.Int) m) (choose (sees ts (a_keyword aliases key.Int) m) (specified_at ts aliases base (m + 1)) (Err (refuse syntax m))))
      (specified_row base m)
      ∙ int_law (sees ts (a_keyword aliases key.Int) m) m (specified_at ts aliases base)

  tag_law : (b : Bool) (m : ℕ) (x : Identifier) (make : Identifier → Base)
      → choose b (specified_at ts aliases (make x) (m + 1)) (Err (refuse syntax m))
      ≡ then (then (choose b (Ok (x, m + 1)) (Err (refuse syntax m))) (λ x n. Ok (make x, n))) (λ b n. specified_at ts aliases b n)
  unfolding choose then
  tag_law true m x make = refl
  tag_law false m x make = refl

  -- after the word before a tag
  tag_row : (m : ℕ) (make : Identifier → Base)
      → choose (is_tag (sign_at ts aliases m)) (going ts a_specifier (specified ts aliases (make (identifier_at ts m)) (m + 1)) (m + 1)) (Err (refuse syntax m))
      ≡ then (then (tag_at ts aliases m) (λ x n. Ok (make x, n))) (λ b n. specified_at ts aliases b n)
  unfolding tag_at
  tag_row m make =
      ap (λ r. choose (is_tag (sign_at ts aliases m)) r (Err (refuse syntax m))) (specified_row (make (identifier_at ts m)) (m + 1))
      ∙ tag_law (is_tag (sign_at ts aliases m)) m (identifier_at ts m) make

  -- the row of a type that begins with its base, where its first sign is known
  row_from : (m : ℕ) (s : Sign) → sign_at ts aliases m ≡ s → is_keyword key.Const s ≡ false
      → going ts a_specifier (specifier_row ts aliases m s) m ≡ then (base_by ts aliases m s) (λ b n. specified_at ts aliases b n)
  unfolding then
  row_from m (sign.Keyword key.Const) e c = cc
  row_from m (sign.Keyword key.Int) e c = chosen _ _ _ (ap (is_keyword key.Int) e) ∙ specified_row int (m + 1)
  row_from m (sign.Keyword key.Unsigned) e c = chosen _ _ _ (ap (is_keyword key.Unsigned) e) ∙ int_row unsigned (m + 1)
  row_from m (sign.Keyword key.Signed) e c = chosen _ _ _ (ap (is_keyword key.Signed) e) ∙ int_row int (m + 1)
  row_from m (sign.Keyword key.Void) e c = chosen _ _ _ (ap (is_keyword key.Void) e) ∙ specified_row void (m + 1)
  row_from m (sign.Keyword key.Struct) e c = chosen _ _ _ (ap (is_keyword key.Struct) e) ∙ tag_row (m + 1) structure
  row_from m (sign.Keyword key.Enum) e c = chosen _ _ _ (ap (is_keyword key.Enum) e) ∙ tag_row (m + 1) enumerated
  row_from m sign.TypeName e c = chosen _ _ _ (ap (λ s. nat_eq (mark s) 2) e) ∙ specified_row (alias (identifier_at ts m)) (m + 1)
  row_from m _ e c = other _ _ _ refl

  specifier_from : (m : ℕ) → is_const_at m ≡ false → read ts a_specifier (specifier aliases) m ≡ from m
  unfolding base_at
  specifier_from m c = read_steps ts a_specifier (specifier aliases) m ∙ row_from m (sign_at ts aliases m) refl c

  row_const : (m : ℕ) (s : Sign) → sign_at ts aliases m ≡ s → is_keyword key.Const s ≡ true
      → going ts a_specifier (specifier_row ts aliases m s) m ≡ then (read ts a_specifier (specifier aliases) (m + 1)) (λ t n. Ok (constant t, n))
  row_const m (sign.Keyword key.Const) e c = chosen _ _ _ (ap (is_keyword key.Const) e)
  row_const m (sign.Keyword _) e c = cc
  row_const m _ e c = cc

  -- the words `const` and the type after them
  abbrev behind : ℕ → Bool → Outcome Specified
  behind n before = then (from n) (λ t e. Ok (marked before t, e))

  type_none : (m n : ℕ) → is_const_at m ≡ false → consts_at ts aliases m ≡ Ok (tt, n) → read ts a_specifier (specifier aliases) m ≡ behind n (is_const_at m)
  type_none m n c h =
      let same : m ≡ n = ap place (sym (consts_none m c) ∙ h) in
      specifier_from m c ∙ ap from same ∙ sym (then_done (from n)) ∙ ap (behind n) (sym c)
    where
      place : Outcome (Unit {0}) → ℕ
      place (Ok p) = p.1
      place (Err e) = m

  type_more : (m n : ℕ) (b : Bool) → is_const_at m ≡ true → read ts a_specifier (specifier aliases) (m + 1) ≡ behind n b
      → read ts a_specifier (specifier aliases) m ≡ behind n (is_const_at m)
  type_more m n b c h =
      read_steps ts a_specifier (specifier aliases) m ∙ row_const m (sign_at ts aliases m) refl c
      ∙ ap (λ r. then r (λ t e. Ok (constant t, e))) h
      ∙ then-then (from n) _ _ ∙ then-same (from n) _ _ (λ t e. then-ok (marked b t) e _) ∙ ap (behind n) (sym c)

  type_behind : (k m n : ℕ) (b : Bool) → is_const_at m ≡ b → length ts ≤ m + k → consts_at ts aliases m ≡ Ok (tt, n)
      → read ts a_specifier (specifier aliases) m ≡ behind n (is_const_at m)
  type_behind k m n false c l h = type_none m n c h
  type_behind zero m n true c l h = let z : m < length ts = inside ts (a_keyword aliases key.Const) m c in let e : ⊥ = omega arith in absurd e
  type_behind (suc k) m n true c l h =
      type_more m n (is_const_at (m + 1)) c
      (type_behind k (m + 1) n (is_const_at (m + 1)) refl (omega arith) (sym (consts_more m c) ∙ h))

  type_at : (m n : ℕ) → consts_at ts aliases m ≡ Ok (tt, n) → read ts a_specifier (specifier aliases) m ≡ behind n (is_const_at m)
  type_at m n h = type_behind (length ts) m n (is_const_at m) refl (omega arith) h

  -- where the sign after the words is s
  base_there : (n : ℕ) (s : Sign) → s ≡ sign_at ts aliases n → base_at ts aliases n ≡ base_by ts aliases n s
  unfolding base_at
  base_there n s q = ap (base_by ts aliases n) (sym q)

  pub type_fails : (m n : ℕ) (s : Sign) (e : SyntaxRefusal) → consts_at ts aliases m ≡ Ok (tt, n) → s ≡ sign_at ts aliases n
      → Fails e (base_by ts aliases n s) → Fails e (read ts a_specifier (specifier aliases) m)
  type_fails m n s e h q f = fails_same e _ _ (type_at m n h) (fails_then e _ _ (fails_then e _ _ (fails_same e _ _ (base_there n s q) f)))

  type_goes : (m n : ℕ) (x : Base) (i : ℕ) (t : Specified) (e : ℕ) → consts_at ts aliases m ≡ Ok (tt, n) → base_at ts aliases n ≡ Ok (x, i)
      → specified_at ts aliases x i ≡ Ok (t, e) → read ts a_specifier (specifier aliases) m ≡ Ok (marked (is_const_at m) t, e)
  type_goes m n x i t e h b s = type_at m n h ∙ goes (from n) _ t e (goes _ _ x i b ∙ s)

  pub type_const : (m n : ℕ) (s : Sign) (x : Base) (i : ℕ) (y : Base) (c : Bool) (e : ℕ) → consts_at ts aliases m ≡ Ok (tt, n)
      → s ≡ sign_at ts aliases n → base_by ts aliases n s ≡ Ok (x, i) → specified_at ts aliases x i ≡ Ok (record { base = y; is_const = c }, e) → is_const_at m ≡ true
      → read ts a_specifier (specifier aliases) m ≡ Ok (record { base = y; is_const = true }, e)
  type_const m n s x i y c e h q b t k =
      type_goes m n x i (record { base = y; is_const = c }) e h (base_there n s q ∙ b) t ∙ ap (λ k. Ok (marked k (record { base = y; is_const = c }), e)) k

  pub type_plain : (m n : ℕ) (s : Sign) (x : Base) (i : ℕ) (y : Base) (c : Bool) (e : ℕ) → consts_at ts aliases m ≡ Ok (tt, n)
      → s ≡ sign_at ts aliases n → base_by ts aliases n s ≡ Ok (x, i) → specified_at ts aliases x i ≡ Ok (record { base = y; is_const = c }, e) → is_const_at m ≡ false
      → read ts a_specifier (specifier aliases) m ≡ Ok (record { base = y; is_const = c }, e)
  type_plain m n s x i y c e h q b t k =
      type_goes m n x i (record { base = y; is_const = c }) e h (base_there n s q ∙ b) t ∙ ap (λ k. Ok (marked k (record { base = y; is_const = c }), e)) k

pub ruleset skips = (sign_none, sign_more)

pub ruleset ints = (int_there, int_missing)

pub ruleset words = (base_int, base_void, base_signed, base_unsigned, struct_fails, struct_goes, enum_fails, enum_goes, word_wrong)

pub ruleset bases = (base_alias, base_keyword, base_wrong, gives_same)

pub ruleset endings = (specified_goes)

pub ruleset specifiers = (type_fails, type_const, type_plain)
