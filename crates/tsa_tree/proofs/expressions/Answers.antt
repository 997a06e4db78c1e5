-- Reading by the rows gives the answer that the grammar alone asks for, and there is no other.
use Rattle.std.proofs.Common.{ℕ, ◌+◌, ◌≤◌, ◌≡◌, ◌∙◌, ap, sym, subst, refl, List, Bool, true, false, Some, None, Ok, Err, arith, inl, inr}
use Rattle.std.proofs.Common.{◌⊎◌, nat_eq}
use Rattle.std.specs.declared.option.Option.{Option}
use Rattle.tsa_base.specs.Tokens.{Lexeme}
use Rattle.tsa_tree.specs.declared.expr.BinaryOp.{BinaryOp}
use Rattle.tsa_tree.specs.declared.sign.Sign.{Sign}
use Rattle.tsa_tree.specs.declared.sign.Sign.TheVariants as sign
use Rattle.tsa_tree.specs.expressions.Syntax.{Expression}
use Rattle.tsa_tree.specs.tokens.Signs.{Aliases, sign_at, operator}
use Rattle.tsa_tree.specs.Rows as rows
use Rattle.tsa_tree.specs.Rows.{sees, rule, is_postfix, mark, an_open}
use Rattle.tsa_tree.specs.expressions.Answers.{Part, an_expression, a_unary, Spells, Begins, below_limit, IsLongest, IsBroken, IsTooDeep}
use Rattle.tsa_tree.specs.expressions.Answers.{RefusedAt, IsAnswer}
use Rattle.tsa_tree.specs.Reads.{read}
use Rattle.tsa_tree.specs.expressions.Laws.{call_of, RowsBegin}
use Rattle.tsa_tree.proofs.RowFacts.{last_named, lone, Ended, Ends}
use Rattle.tsa_tree.proofs.RowsRead.{reading, reading_exact, completed, broken_free, no_bar}
use Rattle.tsa_tree.proofs.expressions.RowEquality.{spell_the_same, begin_the_same}
use Rattle.tsa_tree.proofs.expressions.GoesOn.{unary_goes_on, expression_goes_on, operator_goes_on, unary_calls, expression_calls}
use Rattle.tsa_tree.proofs.expressions.LimitsApart.{whole, free-spelled, free-part}
use Rattle.tsa_tree.proofs.attributes.Facts.{both}
use Rattle.tsa_grammar.specs.Exact as forms
use Rattle.tsa_grammar.specs.Reading.{Code, syntax, deep, barred, Refusal, refuse, Outcome, all}

name_marked : (s : Sign) → nat_eq (mark s) 3 ≡ true → s ≡ sign.Name
name_marked sign.Name e = refl
name_marked _ e = cc

open_marked : (s : Sign) → nat_eq (mark s) 6 ≡ true → s ≡ sign.Open
open_marked sign.Open e = refl
open_marked _ e = cc

no_operator : {A : Type 0} (o : Option BinaryOp) (op : BinaryOp) → o ≡ None → o ≡ Some op → A
no_operator o op e q = let never : Some op ≡ None = sym q ∙ e in cc

module _ (tokens : List Lexeme) (aliases : Aliases) where
  goes_on : (p : Part) (d : ℕ) (t : Expression) (a e : ℕ) → is_postfix (sign_at tokens aliases e) ≡ true
      → Spells tokens aliases all p d t a e → Begins tokens aliases all p d a (e + 1)
  goes_on an_expression d t a e h sp = expression_goes_on tokens aliases h sp
  goes_on a_unary d t a e h sp = unary_goes_on tokens aliases h sp

  calls : (p : Part) (d : ℕ) (t : Expression) (a e : ℕ) → lone tokens aliases t e ≡ true → sees tokens (an_open aliases) e ≡ true
      → Spells tokens aliases all p d t a e → Begins tokens aliases all p d a (e + 1)
  calls an_expression d t a e l o sp =
      let h = both (last_named t) _ l in
      expression_calls tokens aliases h.0 (name_marked _ h.1) (open_marked _ o) sp
  calls a_unary d t a e l o sp =
      let h = both (last_named t) _ l in
      unary_calls tokens aliases h.0 (name_marked _ h.1) (open_marked _ o) sp

  -- after an operand: it ends, or the next token goes on with it
  ended_or_on : (p : Part) (d : ℕ) (t : Expression) (a e : ℕ) → Spells tokens aliases all p d t a e
      → (post lonely opens : Bool) → is_postfix (sign_at tokens aliases e) ≡ post → lone tokens aliases t e ≡ lonely → sees tokens (an_open aliases) e ≡ opens
      → Ended tokens aliases t e ⊎ Begins tokens aliases all p d a (e + 1)
  ended_or_on p d t a e sp true l o h h' h'' = inr (goes_on p d t a e h sp)
  ended_or_on p d t a e sp false false o h h' h'' = inl (h, λ q. let never : true ≡ false = sym q ∙ h' in cc)
  ended_or_on p d t a e sp false true false h h' h'' = inl (h, λ q. h'')
  ended_or_on p d t a e sp false true true h h' h'' = inr (calls p d t a e h' h'' sp)

  ended : (p : Part) (d : ℕ) (t : Expression) (a e : ℕ) → Spells tokens aliases all p d t a e
      → Ended tokens aliases t e ⊎ Begins tokens aliases all p d a (e + 1)
  ended p d t a e sp = ended_or_on p d t a e sp _ _ _ refl refl refl

  loose_or_on : (d : ℕ) (t : Expression) (a e : ℕ) → Spells tokens aliases all an_expression d t a e → Ended tokens aliases t e
      → (o : Option BinaryOp) → operator (sign_at tokens aliases e) ≡ o
      → Ends tokens rows.an_expression (call_of aliases an_expression d) t e ⊎ Begins tokens aliases all an_expression d a (e + 1)
  loose_or_on d t a e sp en None h = inl (en, λ op q. no_operator _ op h q)
  loose_or_on d t a e sp en (Some op) h = inr (operator_goes_on tokens aliases op h (omega arith) sp)

  -- the same of a part
  pub ends_or_on : (p : Part) (d : ℕ) (t : Expression) (a e : ℕ) → Spells tokens aliases all p d t a e
      → Ends tokens rows.an_expression (call_of aliases p d) t e ⊎ Begins tokens aliases all p d a (e + 1)
  ends_or_on an_expression d t a e sp =
      elim (ended an_expression d t a e sp) [ inl en ↦ loose_or_on d t a e sp en _ refl | inr on ↦ inr on ]
  ends_or_on a_unary d t a e sp = ended a_unary d t a e sp

  abbrev free : Part → ℕ → ℕ → Outcome Expression
  free p d a = reading tokens all rows.an_expression (call_of aliases p d) a

  -- what ends where the longest list does is what a reader without limits finds
  found : (p : Part) (d : ℕ) (t : Expression) (a e : ℕ) → Spells tokens aliases all p d t a e
      → ((b : ℕ) → Begins tokens aliases all p d a b → b ≤ e) → free p d a ≡ Ok (t, e)
  found p d t a e sp longest =
      elim (ends_or_on p d t a e sp) [
        | inl en ↦ completed tokens rows.an_expression (call_of aliases p d) t a e ((spell_the_same tokens aliases all p d t a e).0 sp) en
        | inr on ↦ absurd (let le = longest (e + 1) on in omega arith)
      ]

  no_tree : (p : Part) (d a i : ℕ) → reading tokens below_limit rows.an_expression (call_of aliases p d) a ≡ Err (refuse syntax i)
      → ((b : ℕ) → Begins tokens aliases all p d a b → b ≤ i) → (t : Expression) → Spells tokens aliases all p d t a i → ⊥
  no_tree p d a i h longest t sp =
      let ok = found p d t a i sp longest in
      let broken = broken_free tokens below_limit rows.an_expression (call_of aliases p d) a i h in
      clash _ _ _ ok broken
    where
      clash : (x : Expression × ℕ) (y : Refusal) (r : Outcome Expression) → r ≡ Ok x → r ≡ Err y → ⊥
      clash x y r e q = let never : Ok x ≡ Err y = sym e ∙ q in cc

  to_rows : (fits : ℕ → Bool) (p : Part) (d a b : ℕ) → Begins tokens aliases fits p d a b → RowsBegin tokens aliases fits p d a b
  to_rows fits p d a b = (begin_the_same tokens aliases fits p d a b).0

  from_rows : (fits : ℕ → Bool) (p : Part) (d a b : ℕ) → RowsBegin tokens aliases fits p d a b → Begins tokens aliases fits p d a b
  from_rows fits p d a b = (begin_the_same tokens aliases fits p d a b).1

  refused : (p : Part) (d a : ℕ) (code : Code) (i : ℕ) → reading tokens below_limit rows.an_expression (call_of aliases p d) a ≡ Err (refuse code i)
      → forms.ExactAt (rule tokens) (sees tokens) below_limit rows.an_expression (call_of aliases p d) a code i → RefusedAt tokens aliases p d a code i
  refused p d a syntax i h x =
      let longest : (b : ℕ) → Begins tokens aliases all p d a b → b ≤ i = λ b q. x.longest b (to_rows all p d a b q) in
      record { begins = from_rows below_limit p d a i x.begins; longest = longest; no_tree = no_tree p d a i h longest }
  refused p d a deep i h x = record {
    begins = from_rows below_limit p d a i x.begins;
    first = λ b q. x.within b (to_rows below_limit p d a b q);
    goes_on = (x.goes_on.0, x.goes_on.1, from_rows all p d a x.goes_on.0 x.goes_on.2);
  }
  refused p d a (barred q) i h x = no_bar tokens below_limit rows.an_expression tt (call_of aliases p d) a i q x.begins

  answered : (p : Part) (d a : ℕ) (r : Outcome Expression) → reading tokens below_limit rows.an_expression (call_of aliases p d) a ≡ r
      → forms.Exact (rule tokens) (sees tokens) below_limit rows.an_expression (call_of aliases p d) a r → IsAnswer tokens aliases p d a r
  answered p d a (Ok found) h x = record {
    spelled = (spell_the_same tokens aliases below_limit p d found.0 a found.1).1 x.spelled;
    longest = λ b q. x.longest b (to_rows all p d a b q);
  }
  answered p d a (Err e) h x = refused p d a e.code e.token h x

  pub read_answers : (p : Part) (d a : ℕ) → IsAnswer tokens aliases p d a (read tokens rows.an_expression (call_of aliases p d) a)
  unfolding read
  read_answers p d a =
      answered p d a (reading tokens below_limit rows.an_expression (call_of aliases p d) a) refl
      (reading_exact tokens below_limit rows.an_expression (call_of aliases p d) a)

  -- one answer ----------------------------------------------------------------

  same_end : (i j : ℕ) → i ≤ j → j ≤ i → i ≡ j
  same_end i j h k = omega arith

  longest_found : (p : Part) (d a : ℕ) (t : Expression) (e : ℕ) → IsLongest tokens aliases p d a t e → free p d a ≡ Ok (t, e)
  longest_found p d a t e h = found p d t a e (free-spelled tokens aliases below_limit p d t a e h.spelled) h.longest

  begun_to : (p : Part) (d a : ℕ) (t : Expression) (e : ℕ) → IsLongest tokens aliases p d a t e → Begins tokens aliases below_limit p d a e
  begun_to p d a t e h = whole tokens aliases below_limit p d t a e h.spelled

  both_longest : (p : Part) (d a : ℕ) (t u : Expression) (e i : ℕ) → IsLongest tokens aliases p d a t e → IsLongest tokens aliases p d a u i
      → (let r : Outcome Expression = Ok (t, e) in r) ≡ Ok (u, i)
  both_longest p d a t u e i h k = sym (longest_found p d a t e h) ∙ longest_found p d a u i k

  longest_broken : (p : Part) (d a : ℕ) (t : Expression) (e i : ℕ) → IsLongest tokens aliases p d a t e → IsBroken tokens aliases p d a i → ⊥
  longest_broken p d a t e i h k =
      let le = k.longest e (free-part tokens aliases below_limit p d a e (begun_to p d a t e h)) in
      let ge = h.longest i (free-part tokens aliases below_limit p d a i k.begins) in
      let q : e ≡ i = omega arith in
      k.no_tree t (subst (λ n. Spells tokens aliases all p d t a n) q (free-spelled tokens aliases below_limit p d t a e h.spelled))

  longest_deep : (p : Part) (d a : ℕ) (t : Expression) (e i : ℕ) → IsLongest tokens aliases p d a t e → IsTooDeep tokens aliases p d a i → ⊥
  longest_deep p d a t e i h k =
      let le = k.first e (begun_to p d a t e h) in
      let ge = h.longest k.goes_on.0 k.goes_on.2 in
      let lt = k.goes_on.1 in omega arith

  broken_deep : (p : Part) (d a i j : ℕ) → IsBroken tokens aliases p d a i → IsTooDeep tokens aliases p d a j → ⊥
  broken_deep p d a i j h k =
      let le = k.first i h.begins in
      let ge = h.longest k.goes_on.0 k.goes_on.2 in
      let lt = k.goes_on.1 in omega arith

  both_broken : (p : Part) (d a i j : ℕ) → IsBroken tokens aliases p d a i → IsBroken tokens aliases p d a j → i ≡ j
  both_broken p d a i j h k =
      same_end i j (k.longest i (free-part tokens aliases below_limit p d a i h.begins)) (h.longest j (free-part tokens aliases below_limit p d a j k.begins))

  both_deep : (p : Part) (d a i j : ℕ) → IsTooDeep tokens aliases p d a i → IsTooDeep tokens aliases p d a j → i ≡ j
  both_deep p d a i j h k = same_end i j (k.first i h.begins) (h.first j k.begins)

  refused_once : (p : Part) (d a : ℕ) (c c' : Code) (i j : ℕ) → RefusedAt tokens aliases p d a c i → RefusedAt tokens aliases p d a c' j
      → refuse c i ≡ refuse c' j
  refused_once p d a syntax syntax i j h k = ap (refuse syntax) (both_broken p d a i j h k)
  refused_once p d a syntax deep i j h k = absurd (broken_deep p d a i j h k)
  refused_once p d a deep syntax i j h k = absurd (broken_deep p d a j i k h)
  refused_once p d a deep deep i j h k = ap (refuse deep) (both_deep p d a i j h k)
  refused_once p d a (barred q) c' i j h k = absurd h
  refused_once p d a syntax (barred q) i j h k = absurd k
  refused_once p d a deep (barred q) i j h k = absurd k

  found_not_refused : (p : Part) (d a : ℕ) (t : Expression) (e : ℕ) (c : Code) (i : ℕ) → IsLongest tokens aliases p d a t e → RefusedAt tokens aliases p d a c i → ⊥
  found_not_refused p d a t e syntax i h k = longest_broken p d a t e i h k
  found_not_refused p d a t e deep i h k = longest_deep p d a t e i h k
  found_not_refused p d a t e (barred q) i h k = k

  -- two right answers are the same
  pub one_answer : (p : Part) (d a : ℕ) (r s : Outcome Expression) → IsAnswer tokens aliases p d a r → IsAnswer tokens aliases p d a s → r ≡ s
  one_answer p d a (Ok x) (Ok y) h k = both_longest p d a x.0 y.0 x.1 y.1 h k
  one_answer p d a (Ok x) (Err e) h k = absurd (found_not_refused p d a x.0 x.1 e.code e.token h k)
  one_answer p d a (Err e) (Ok x) h k = absurd (found_not_refused p d a x.0 x.1 e.code e.token k h)
  one_answer p d a (Err e) (Err f) h k = ap Err (refused_once p d a e.code f.code e.token f.token h k)
