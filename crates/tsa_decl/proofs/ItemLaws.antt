-- Items by their first tokens: whether a function may have a body is told after its head alone.
use Rattle.std.proofs.Common.{ℕ, ◌+◌, ◌≡◌, ◌≢◌, ◌∙◌, ap, sym, refl, List, Ok, Err, nat_eq, Bool, Some}
use Rattle.tsa_base.specs.Tokens.{Lexeme}
use Rattle.tsa_grammar.proofs.Cases.{chosen, other, goes}
use Rattle.tsa_grammar.specs.Form.{done, part}
use Rattle.tsa_grammar.specs.Reading.{Outcome, then, choose}
use Rattle.tsa_tree.proofs.RowsRead.{read_steps}
use Rattle.tsa_tree.specs.declared.item.FnTree.{FnTree}
use Rattle.tsa_tree.specs.declared.item.Item.{Item}
use Rattle.tsa_tree.specs.declared.sign.Keyword.TheVariants as key
use Rattle.tsa_tree.specs.declared.sign.Sign.{Sign}
use Rattle.tsa_tree.specs.declared.sign.Sign.TheVariants as sign
use Rattle.tsa_tree.specs.declarations.Syntax.{Base, Specified, Declarator, Signature, Head, head_of}
use Rattle.tsa_tree.specs.units.Syntax.{UnitItem}
use Rattle.tsa_tree.specs.declarations.Shapes.{head_shape}
use Rattle.tsa_tree.specs.units.Shapes.{item_shapes}
use Rattle.tsa_tree.specs.Reads.{read}
use Rattle.tsa_tree.specs.Rows.{a_specifier, a_declarator, a_signature, some_items, specifier, declarator, signature, declared, item, mark}
use Rattle.tsa_tree.specs.Rows.{is_keyword, sees, a_keyword, an_open, function_end, declared_of, alias_of, alias_end, structure_row}
use Rattle.tsa_tree.specs.Rows.{enumeration_row, structure_alias_row, enumeration_alias_row, typedef_row, item_row}
use Rattle.tsa_tree.specs.tokens.Signs.{Aliases, sign_at}
use Rattle.tsa_expr.specs.declared.refusal.SyntaxRefusal.{SyntaxRefusal}
use Rattle.tsa_expr.specs.Gives.{Fails}
use Rattle.tsa_expr.proofs.Answering.{fails_then, fails_same, gives_same, not_open, then_done}
use Rattle.tsa_attr.proofs.Joining.{then-then, then-same, then-ok}
use Rattle.tsa_decl_declarators.specs.Outcomes.{after, specified_at}
use Rattle.tsa_decl.specs.Outcomes.{finished, going_items, storage_at, globals_at, head_end_at, other_item_at}
use Rattle.tsa_decl_declarators.proofs.Pieces.{consts_then}
use Rattle.tsa_decl.proofs.HeadLaws.{storage_then}

head-law : {B : Type 0} (r : Outcome Signature) (make : Signature → Head) (go : Head → ℕ → Outcome B)
    → then r (λ s n. go (make s) n) ≡ then (then r (λ s n. Ok (make s, n))) go
unfolding then
head-law (Ok p) make go = refl
head-law (Err e) make go = refl

module _ (ts : List Lexeme) (aliases : Aliases) (bodies : Bool) where
  -- after a type
  abbrev function_rest : Specified → Declarator → Signature → ℕ → Outcome (List UnitItem)
  function_rest t c s e = going_items ts (function_end ts aliases bodies (head_of t c s) e) e

  abbrev behind_name : Specified → Declarator → ℕ → Outcome (List UnitItem)
  behind_name t c n =
      choose (sees ts (an_open aliases) n) (then (read ts a_signature (signature aliases) n) (function_rest t c)) (globals_at ts aliases t c n)

  declared_is : (t : Specified) (m : ℕ)
      → read ts some_items (declared aliases bodies t) m ≡ then (read ts a_declarator (declarator aliases) m) (behind_name t)
  unfolding globals_at
  declared_is t m = read_steps ts some_items (declared aliases bodies t) m

  pub declared_nameless : (xs : List Item) (t : Specified) (m : ℕ) (e : SyntaxRefusal) → Fails e (read ts a_declarator (declarator aliases) m)
      → Fails e (after (item_shapes xs) (read ts some_items (declared aliases bodies t) m))
  declared_nameless xs t m e f = fails_then e _ _ (fails_same e _ _ (declared_is t m) (fails_then e _ _ f))

  pub declared_globals : (xs : List Item) (t : Specified) (m : ℕ) (c : Declarator) (n : ℕ) → read ts a_declarator (declarator aliases) m ≡ Ok (c, n)
      → sign_at ts aliases n ≢ sign.Open
      → after (item_shapes xs) (read ts some_items (declared aliases bodies t) m) ≡ after (item_shapes xs) (globals_at ts aliases t c n)
  declared_globals xs t m c n h k =
      ap (after (item_shapes xs)) (declared_is t m ∙ goes _ _ c n h ∙ other _ _ _ (not_open (sign_at ts aliases n) k))

  -- a head before its `;` or block
  function_at : (t : Specified) (m : ℕ) (c : Declarator) (n : ℕ) → read ts a_declarator (declarator aliases) m ≡ Ok (c, n)
      → sign_at ts aliases n ≡ sign.Open
      → read ts some_items (declared aliases bodies t) m
      ≡ then (head_end_at ts aliases t c n) (λ head e. going_items ts (function_end ts aliases bodies head e) e)
  unfolding head_end_at
  function_at t m c n h k =
      declared_is t m ∙ goes _ _ c n h ∙ chosen _ _ _ (ap (λ s. nat_eq (mark s) 6) k)
      ∙ head-law (read ts a_signature (signature aliases) n) (head_of t c) (λ head e. going_items ts (function_end ts aliases bodies head e) e)

  pub function_fails : (xs : List Item) (t : Specified) (m : ℕ) (c : Declarator) (n : ℕ) (e : SyntaxRefusal) → read ts a_declarator (declarator aliases) m ≡ Ok (c, n)
      → sign_at ts aliases n ≡ sign.Open → Fails e (head_end_at ts aliases t c n)
      → Fails e (after (item_shapes xs) (read ts some_items (declared aliases bodies t) m))
  function_fails xs t m c n e h k f = fails_then e _ _ (fails_same e _ _ (function_at t m c n h k) (fails_then e _ _ f))

  pub function_begins : (xs : List Item) (t : Specified) (m : ℕ) (c : Declarator) (n : ℕ) (x : FnTree) (i : ℕ)
      → read ts a_declarator (declarator aliases) m ≡ Ok (c, n) → sign_at ts aliases n ≡ sign.Open
      → head_end_at ts aliases t c n ≡ Ok (head_shape x, i)
      → after (item_shapes xs) (read ts some_items (declared aliases bodies t) m) ≡ finished ts aliases bodies (item_shapes xs, Some (head_shape x)) i
  function_begins xs t m c n x i h k l = ap (after (item_shapes xs)) (function_at t m c n h k ∙ goes _ _ (head_shape x) i l)

  -- after a tag
  declared_of_is : (base : Base) (m : ℕ)
      → going_items ts (declared_of ts aliases bodies base m) m ≡ then (specified_at ts aliases base m) (λ t n. read ts some_items (declared aliases bodies t) n)
  unfolding specified_at
  declared_of_is base m =
      consts_then ts aliases some_items m (λ c n. part some_items (declared aliases bodies (record { base = base; is_const = c })) (λ xs e. done xs))
      ∙ then-same _ _ _ (λ u n. then_done _ ∙ sym (then-ok (record { base = base; is_const = sees ts (a_keyword aliases key.Const) m }) n (λ t n. read ts some_items (declared aliases bodies t) n)))
      ∙ sym (then-then _ _ _)

  pub declared_of_same : (xs : List Item) (base : Base) (m : ℕ) (t : Specified) (n : ℕ) → specified_at ts aliases base m ≡ Ok (t, n)
      → after (item_shapes xs) (going_items ts (declared_of ts aliases bodies base m) m) ≡ after (item_shapes xs) (read ts some_items (declared aliases bodies t) n)
  declared_of_same xs base m t n h = ap (after (item_shapes xs)) (declared_of_is base m ∙ goes _ _ t n h)

  -- storage words or a type
  other_is : (m : ℕ)
      → other_item_at ts aliases bodies m
      ≡ then (storage_at ts aliases m) (λ u n. then (read ts a_specifier (specifier aliases) n) (λ t e. read ts some_items (declared aliases bodies t) e))
  unfolding other_item_at
  other_is m =
      storage_then ts aliases some_items m (part a_specifier (specifier aliases) (λ t n. part some_items (declared aliases bodies t) (λ xs e. done xs)))
      ∙ then-same (storage_at ts aliases m) _ _ (λ u n. then-same (read ts a_specifier (specifier aliases) n) _ _ (λ t e. then_done _))

  pub other_typeless : (xs : List Item) (m n : ℕ) (e : SyntaxRefusal) → storage_at ts aliases m ≡ Ok (tt, n) → Fails e (read ts a_specifier (specifier aliases) n)
      → Fails e (after (item_shapes xs) (other_item_at ts aliases bodies m))
  other_typeless xs m n e h f = fails_then e _ _ (fails_same e _ _ (other_is m ∙ goes _ _ tt n h) (fails_then e _ _ f))

  pub other_same : (xs : List Item) (m n : ℕ) (t : Specified) (i : ℕ) → storage_at ts aliases m ≡ Ok (tt, n) → read ts a_specifier (specifier aliases) n ≡ Ok (t, i)
      → after (item_shapes xs) (other_item_at ts aliases bodies m) ≡ after (item_shapes xs) (read ts some_items (declared aliases bodies t) i)
  other_same xs m n t i h k = ap (after (item_shapes xs)) (other_is m ∙ goes _ _ tt n h ∙ goes _ _ t i k)

  -- by the first sign
  item_is : (m : ℕ) (s : Sign) → sign_at ts aliases m ≡ s → read ts some_items (item aliases bodies) m ≡ going_items ts (item_row ts aliases bodies m s) m
  item_is m s e = read_steps ts some_items (item aliases bodies) m ∙ ap (λ s. going_items ts (item_row ts aliases bodies m s) m) e

  pub item_struct : (xs : List Item) (m : ℕ) → sign_at ts aliases m ≡ sign.Keyword key.Struct
      → after (item_shapes xs) (read ts some_items (item aliases bodies) m) ≡ after (item_shapes xs) (going_items ts (structure_row ts aliases bodies m) (m + 1))
  item_struct xs m e =
      ap (after (item_shapes xs)) (item_is m (sign.Keyword key.Struct) e ∙ chosen _ _ _ (ap (is_keyword key.Struct) e))

  pub item_enum : (xs : List Item) (m : ℕ) → sign_at ts aliases m ≡ sign.Keyword key.Enum
      → after (item_shapes xs) (read ts some_items (item aliases bodies) m) ≡ after (item_shapes xs) (going_items ts (enumeration_row ts aliases bodies m) (m + 1))
  item_enum xs m e =
      ap (after (item_shapes xs)) (item_is m (sign.Keyword key.Enum) e ∙ chosen _ _ _ (ap (is_keyword key.Enum) e))

  pub item_typedef : (xs : List Item) (m : ℕ) → sign_at ts aliases m ≡ sign.Keyword key.Typedef
      → after (item_shapes xs) (read ts some_items (item aliases bodies) m)
      ≡ after (item_shapes xs) (going_items ts (typedef_row ts aliases m (sign_at ts aliases (m + 1))) (m + 1))
  item_typedef xs m e =
      ap (after (item_shapes xs)) (item_is m (sign.Keyword key.Typedef) e ∙ chosen _ _ _ (ap (is_keyword key.Typedef) e))

  other_row : (m : ℕ) (s : Sign) → s ≢ sign.Keyword key.Struct → s ≢ sign.Keyword key.Enum → s ≢ sign.Keyword key.Typedef
      → going_items ts (item_row ts aliases bodies m s) m ≡ other_item_at ts aliases bodies m
  unfolding other_item_at
  other_row m (sign.Keyword key.Struct) a b c = absurd (a refl)
  other_row m (sign.Keyword key.Enum) a b c = absurd (b refl)
  other_row m (sign.Keyword key.Typedef) a b c = absurd (c refl)
  other_row m _ a b c = refl

  pub item_other : (xs : List Item) (m : ℕ) → sign_at ts aliases m ≢ sign.Keyword key.Struct → sign_at ts aliases m ≢ sign.Keyword key.Enum
      → sign_at ts aliases m ≢ sign.Keyword key.Typedef
      → after (item_shapes xs) (read ts some_items (item aliases bodies) m) ≡ after (item_shapes xs) (other_item_at ts aliases bodies m)
  item_other xs m a b c = ap (after (item_shapes xs)) (item_is m (sign_at ts aliases m) refl ∙ other_row m (sign_at ts aliases m) a b c)

module _ (ts : List Lexeme) (aliases : Aliases) where
  -- an alias after a tag
  alias_of_is : (base : Base) (m : ℕ)
      → going_items ts (alias_of ts aliases base m) m ≡ then (specified_at ts aliases base m) (λ t n. going_items ts (alias_end ts aliases t n) n)
  unfolding specified_at
  alias_of_is base m =
      consts_then ts aliases some_items m (λ c n. alias_end ts aliases (record { base = base; is_const = c }) n)
      ∙ then-same _ _ _ (λ u n. sym (then-ok (record { base = base; is_const = sees ts (a_keyword aliases key.Const) m }) n (λ t n. going_items ts (alias_end ts aliases t n) n)))
      ∙ sym (then-then _ _ _)

  pub alias_of_same : (xs : List Item) (base : Base) (m : ℕ) (t : Specified) (n : ℕ) → specified_at ts aliases base m ≡ Ok (t, n)
      → after (item_shapes xs) (going_items ts (alias_of ts aliases base m) m) ≡ after (item_shapes xs) (going_items ts (alias_end ts aliases t n) n)
  alias_of_same xs base m t n h = ap (after (item_shapes xs)) (alias_of_is base m ∙ goes _ _ t n h)

  -- after `typedef`
  abbrev alias_behind : (m : ℕ) → Sign → Outcome (List UnitItem)
  alias_behind m s = going_items ts (typedef_row ts aliases m s) (m + 1)

  pub typedef_struct : (xs : List Item) (m : ℕ) → sign_at ts aliases (m + 1) ≡ sign.Keyword key.Struct
      → after (item_shapes xs) (alias_behind m (sign_at ts aliases (m + 1))) ≡ after (item_shapes xs) (going_items ts (structure_alias_row ts aliases m) (m + 1 + 1))
  typedef_struct xs m e = ap (after (item_shapes xs)) (ap (alias_behind m) e ∙ chosen _ _ _ (ap (is_keyword key.Struct) e))

  pub typedef_enum : (xs : List Item) (m : ℕ) → sign_at ts aliases (m + 1) ≡ sign.Keyword key.Enum
      → after (item_shapes xs) (alias_behind m (sign_at ts aliases (m + 1))) ≡ after (item_shapes xs) (going_items ts (enumeration_alias_row ts aliases m) (m + 1 + 1))
  typedef_enum xs m e = ap (after (item_shapes xs)) (ap (alias_behind m) e ∙ chosen _ _ _ (ap (is_keyword key.Enum) e))

  plain_row : (m : ℕ) (s : Sign) → s ≢ sign.Keyword key.Struct → s ≢ sign.Keyword key.Enum
      → alias_behind m s ≡ then (read ts a_specifier (specifier aliases) (m + 1)) (λ t n. going_items ts (alias_end ts aliases t n) n)
  plain_row m (sign.Keyword key.Struct) a b = absurd (a refl)
  plain_row m (sign.Keyword key.Enum) a b = absurd (b refl)
  plain_row m _ a b = refl

  pub typedef_typeless : (xs : List Item) (m : ℕ) (e : SyntaxRefusal) → sign_at ts aliases (m + 1) ≢ sign.Keyword key.Struct → sign_at ts aliases (m + 1) ≢ sign.Keyword key.Enum
      → Fails e (read ts a_specifier (specifier aliases) (m + 1)) → Fails e (after (item_shapes xs) (alias_behind m (sign_at ts aliases (m + 1))))
  typedef_typeless xs m e a b f = fails_then e _ _ (fails_same e _ _ (plain_row m (sign_at ts aliases (m + 1)) a b) (fails_then e _ _ f))

  pub typedef_plain : (xs : List Item) (m : ℕ) (t : Specified) (n : ℕ) → sign_at ts aliases (m + 1) ≢ sign.Keyword key.Struct → sign_at ts aliases (m + 1) ≢ sign.Keyword key.Enum
      → read ts a_specifier (specifier aliases) (m + 1) ≡ Ok (t, n)
      → after (item_shapes xs) (alias_behind m (sign_at ts aliases (m + 1))) ≡ after (item_shapes xs) (going_items ts (alias_end ts aliases t n) n)
  typedef_plain xs m t n a b h = ap (after (item_shapes xs)) (plain_row m (sign_at ts aliases (m + 1)) a b ∙ goes _ _ t n h)

pub ruleset declared_items = (declared_nameless, declared_globals, function_fails, function_begins)

pub ruleset told_by_tag = (declared_of_same, alias_of_same, gives_same)

pub ruleset others = (other_typeless, other_same, gives_same)

pub ruleset items = (item_struct, item_enum, item_typedef, item_other, gives_same)

pub ruleset typedefs = (typedef_struct, typedef_enum, typedef_typeless, typedef_plain, gives_same)
