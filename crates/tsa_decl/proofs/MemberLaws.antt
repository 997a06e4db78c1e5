-- Declarators after a type, one by one, and lists of members.
use Rattle.std.proofs.Common.{ℕ, ◌+◌, ◌≡◌, ◌∙◌, ap, sym, refl, Bool, true, false, List, [], ◌∷◌, ◌++◌, Ok, Err}
use Rattle.tsa_base.specs.Tokens.{Lexeme}
use Rattle.tsa_grammar.proofs.Cases.{chosen, other, goes}
use Rattle.tsa_grammar.specs.Reading.{Outcome, refuse, syntax, then, choose}
use Rattle.tsa_tree.proofs.RowsRead.{read_steps}
use Rattle.tsa_tree.specs.declared.decl.Decl.{Decl}
use Rattle.tsa_tree.specs.declarations.Syntax.{Specified, Declarator, Declaration, Declared}
use Rattle.tsa_tree.specs.declarations.Spelling.{Role, a_member}
use Rattle.tsa_tree.specs.declarations.Shapes.{decl_shape, decl_shapes}
use Rattle.tsa_tree.specs.Reads.{read}
use Rattle.tsa_tree.specs.Rows.{a_specifier, a_declarator, a_declared, some_declarations, specifier, declarator, declared_rest, declarators}
use Rattle.tsa_tree.specs.Rows.{member_line, members, a_close_brace, sees}
use Rattle.tsa_tree.specs.tokens.Signs.{Aliases}
use Rattle.tsa_expr.specs.declared.refusal.SyntaxRefusal.{SyntaxRefusal}
use Rattle.tsa_expr.specs.Gives.{Fails}
use Rattle.tsa_expr.proofs.Answering.{fails_then, fails_same, gives_same, then_done}
use Rattle.tsa_attr.proofs.Joining.{then-same}
use Rattle.tsa_decl_declarators.specs.Outcomes.{after}
use Rattle.tsa_decl_declarators.proofs.ListLaws.{map-push, after-over, after-then, after-after, after-none, after-more}

module _ (ts : List Lexeme) (aliases : Aliases) where
  -- after a declaration and its comma or `;`
  abbrev declarators_on : Role → (d : ℕ) → Specified → List Declaration → Declared → ℕ → Outcome (List Declaration)
  declarators_on r d t front x e =
      choose x.goes_on (after (front ++ x.declaration ∷ []) (read ts some_declarations (declarators aliases r d t) e)) (Ok (front ++ x.declaration ∷ [], e))

  on-law : (front : List Declaration) (b : Bool) (x : Declaration) (e : ℕ) (r : Outcome (List Declaration))
      → after front (choose b (then r (λ xs n. Ok (x ∷ xs, n))) (Ok (x ∷ [], e))) ≡ choose b (after (front ++ x ∷ []) r) (Ok (front ++ x ∷ [], e))
  unfolding choose then
  on-law front true x e r = after-more front x r
  on-law front false x e r = refl

  abbrev behind_declarator : Role → (d : ℕ) → Specified → List Declaration → Declarator → ℕ → Outcome (List Declaration)
  behind_declarator r d t front c n = then (read ts a_declared (declared_rest aliases r d t c) n) (declarators_on r d t front)

  after-declarators : (front : List Declaration) (r : Role) (d : ℕ) (t : Specified) (m : ℕ)
      → after front (read ts some_declarations (declarators aliases r d t) m)
      ≡ then (read ts a_declarator (declarator aliases) m) (behind_declarator r d t front)
  after-declarators front r d t m =
      ap (after front) (read_steps ts some_declarations (declarators aliases r d t) m)
      ∙ after-over front (read ts a_declarator (declarator aliases) m) _
      ∙ then-same (read ts a_declarator (declarator aliases) m) _ (behind_declarator r d t front) (λ c n.
      after-over front (read ts a_declared (declared_rest aliases r d t c) n) _
      ∙ then-same (read ts a_declared (declared_rest aliases r d t c) n) _ (declarators_on r d t front) (λ x e.
      on-law front x.goes_on x.declaration e (read ts some_declarations (declarators aliases r d t) e)))

  pub declarators_name : (xs : List Decl) (r : Role) (d : ℕ) (t : Specified) (m : ℕ) (e : SyntaxRefusal)
      → Fails e (read ts a_declarator (declarator aliases) m)
      → Fails e (after (decl_shapes xs) (read ts some_declarations (declarators aliases r d t) m))
  declarators_name xs r d t m e h = fails_same e _ _ (after-declarators (decl_shapes xs) r d t m) (fails_then e _ _ h)

  pub declarators_rest : (xs : List Decl) (r : Role) (d : ℕ) (t : Specified) (m : ℕ) (c : Declarator) (n : ℕ) (e : SyntaxRefusal)
      → read ts a_declarator (declarator aliases) m ≡ Ok (c, n) → Fails e (read ts a_declared (declared_rest aliases r d t c) n)
      → Fails e (after (decl_shapes xs) (read ts some_declarations (declarators aliases r d t) m))
  declarators_rest xs r d t m c n e h f =
      fails_same e _ _ (after-declarators (decl_shapes xs) r d t m ∙ goes _ _ c n h) (fails_then e _ _ f)

  pub declarators_last : (xs : List Decl) (r : Role) (d : ℕ) (t : Specified) (m : ℕ) (c : Declarator) (n : ℕ) (x : Decl) (g : Bool) (e : ℕ)
      → read ts a_declarator (declarator aliases) m ≡ Ok (c, n)
      → read ts a_declared (declared_rest aliases r d t c) n ≡ Ok (record { declaration = decl_shape x; goes_on = g }, e) → g ≡ false
      → after (decl_shapes xs) (read ts some_declarations (declarators aliases r d t) m) ≡ Ok (decl_shapes (xs ++ x ∷ []), e)
  declarators_last xs r d t m c n x g e h k p =
      after-declarators (decl_shapes xs) r d t m ∙ goes _ _ c n h ∙ goes _ _ (record { declaration = decl_shape x; goes_on = g }) e k
      ∙ other _ _ _ p ∙ ap (λ ys. Ok (ys, e)) (sym (map-push decl_shape xs x))

  pub declarators_more : (xs : List Decl) (r : Role) (d : ℕ) (t : Specified) (m : ℕ) (c : Declarator) (n : ℕ) (x : Decl) (g : Bool) (e : ℕ)
      → read ts a_declarator (declarator aliases) m ≡ Ok (c, n)
      → read ts a_declared (declared_rest aliases r d t c) n ≡ Ok (record { declaration = decl_shape x; goes_on = g }, e) → g ≡ true
      → after (decl_shapes xs) (read ts some_declarations (declarators aliases r d t) m)
      ≡ after (decl_shapes (xs ++ x ∷ [])) (read ts some_declarations (declarators aliases r d t) e)
  declarators_more xs r d t m c n x g e h k p =
      after-declarators (decl_shapes xs) r d t m ∙ goes _ _ c n h ∙ goes _ _ (record { declaration = decl_shape x; goes_on = g }) e k
      ∙ chosen _ _ _ p ∙ ap (λ ys. after ys (read ts some_declarations (declarators aliases r d t) e)) (sym (map-push decl_shape xs x))

  -- a type and its declarators
  after-line : (front : List Declaration) (d m : ℕ)
      → after front (read ts some_declarations (member_line aliases d) m)
      ≡ then (read ts a_specifier (specifier aliases) m) (λ t n. after front (read ts some_declarations (declarators aliases a_member d t) n))
  after-line front d m =
      ap (after front) (read_steps ts some_declarations (member_line aliases d) m)
      ∙ after-over front (read ts a_specifier (specifier aliases) m) _
      ∙ then-same (read ts a_specifier (specifier aliases) m) _ _ (λ t n.
      ap (after front) (then_done (read ts some_declarations (declarators aliases a_member d t) n)))

  pub line_fails : (xs : List Decl) (d m : ℕ) (e : SyntaxRefusal) → Fails e (read ts a_specifier (specifier aliases) m)
      → Fails e (after (decl_shapes xs) (read ts some_declarations (member_line aliases d) m))
  line_fails xs d m e h = fails_same e _ _ (after-line (decl_shapes xs) d m) (fails_then e _ _ h)

  pub line_same : (xs : List Decl) (d m : ℕ) (t : Specified) (n : ℕ) → read ts a_specifier (specifier aliases) m ≡ Ok (t, n)
      → after (decl_shapes xs) (read ts some_declarations (member_line aliases d) m)
      ≡ after (decl_shapes xs) (read ts some_declarations (declarators aliases a_member d t) n)
  line_same xs d m t n h = after-line (decl_shapes xs) d m ∙ goes _ _ t n h

  -- any number of members and their brace
  members-law : (front : List Declaration) (b : Bool) (m : ℕ) (r : Outcome (List Declaration)) (rest : ℕ → Outcome (List Declaration))
      → after front (choose b (choose b (Ok ([], m + 1)) (Err (refuse syntax m))) (then r (λ xs n. then (rest n) (λ ys e. Ok (xs ++ ys, e)))))
      ≡ choose b (Ok (front, m + 1)) (then (after front r) (λ xs n. after xs (rest n)))
  unfolding choose
  members-law front true m r rest = after-none front (m + 1)
  members-law front false m r rest = after-then front r _ (λ xs n. after xs (rest n)) (λ xs n. after-after front xs (rest n))

  after-members : (front : List Declaration) (d m : ℕ)
      → after front (read ts some_declarations (members aliases d) m)
      ≡ choose (sees ts (a_close_brace aliases) m) (Ok (front, m + 1))
      (then (after front (read ts some_declarations (member_line aliases d) m)) (λ xs n. after xs (read ts some_declarations (members aliases d) n)))
  after-members front d m =
      ap (after front) (read_steps ts some_declarations (members aliases d) m)
      ∙ members-law front (sees ts (a_close_brace aliases) m) m (read ts some_declarations (member_line aliases d) m)
      (read ts some_declarations (members aliases d))

  pub members_end : (xs : List Decl) (d m : ℕ) → sees ts (a_close_brace aliases) m ≡ true
      → after (decl_shapes xs) (read ts some_declarations (members aliases d) m) ≡ Ok (decl_shapes xs, m + 1)
  members_end xs d m e = after-members (decl_shapes xs) d m ∙ chosen _ _ _ e

  pub members_fail : (xs : List Decl) (d m : ℕ) (e : SyntaxRefusal) → sees ts (a_close_brace aliases) m ≡ false
      → Fails e (after (decl_shapes xs) (read ts some_declarations (member_line aliases d) m))
      → Fails e (after (decl_shapes xs) (read ts some_declarations (members aliases d) m))
  members_fail xs d m e c h = fails_same e _ _ (after-members (decl_shapes xs) d m ∙ other _ _ _ c) (fails_then e _ _ h)

  pub members_more : (xs ys : List Decl) (d m n : ℕ) → sees ts (a_close_brace aliases) m ≡ false
      → after (decl_shapes xs) (read ts some_declarations (member_line aliases d) m) ≡ Ok (decl_shapes ys, n)
      → after (decl_shapes xs) (read ts some_declarations (members aliases d) m) ≡ after (decl_shapes ys) (read ts some_declarations (members aliases d) n)
  members_more xs ys d m n c h = after-members (decl_shapes xs) d m ∙ other _ _ _ c ∙ goes _ _ (decl_shapes ys) n h

pub ruleset one_by_one = (declarators_name, declarators_rest, declarators_last, declarators_more, fails_same, gives_same)

pub ruleset lines = (line_fails, line_same, gives_same)

pub ruleset lists = (members_end, members_fail, members_more, fails_same, gives_same)
