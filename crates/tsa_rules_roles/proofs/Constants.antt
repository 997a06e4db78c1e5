-- The constant that the term of an expression is, by induction over the expression.
use Rattle.std.proofs.Common.{◌≡◌, ◌∙◌, ℕ, Bool, true, false, ◌&&◌, Option, Some, None, option_map, Result, Ok, if◌then◌else◌, refl, sym}
use Rattle.std.proofs.Common.{ap, ap₂, subst}
use Rattle.std.specs.Prelude.{option_and_then}
use Rattle.tsa_tree.specs.declared.expr.BinaryOp.{BinaryOp}
use Rattle.tsa_tree.specs.declared.expr.BinaryOp.TheVariants as op
use Rattle.tsa_tree.specs.declared.expr.UnaryOp.{UnaryOp}
use Rattle.tsa_tree.specs.declared.expr.UnaryOp.TheVariants as prefix
use Rattle.tsa_tree.specs.declared.kind.Kind.{Kind}
use Rattle.tsa_tree.specs.declared.kind.ThingType.{ThingType}
use Rattle.tsa_tree.specs.declared.meaning.Entry.{Entry}
use Rattle.tsa_tree.specs.declared.meaning.Meaning.{Meaning}
use Rattle.tsa_tree.specs.declared.meaning.Meaning.TheVariants as known
use Rattle.tsa_tree.specs.declared.number.Number.{Number}
use Rattle.tsa_tree.specs.declared.number.Trap.{Trap}
use Rattle.tsa_tree.specs.expressions.Syntax.{Expression, number, null, named, call, unary, binary, field, index}
use Rattle.tsa_tree.specs.types.Arithmetic.{operate_prefix}
use Rattle.tsa_tree.specs.types.Constants.{enumerator, is_known_enumerator, named_value, go_on, number_value, worked_binary, without_trap}
use Rattle.tsa_tree.specs.types.Constants.{worked, is_made_of_constants, constant_of, takes_integers}
use Rattle.tsa_tree.specs.types.DeclaredTypes.{typed_value}
use Rattle.tsa_tree.specs.types.Expressions.{entry_type, number_type}
use Rattle.tsa_tree.specs.types.Operands.{integer_kind, common}
use Rattle.tsa_tree.specs.types.Scopes.{Scope, context_of, known_in}
use Rattle.tsa_core.specs.Meanings.{meaning, loaded, of_name, of_call, to_member, name_term}
use Rattle.tsa_core.specs.Terms.{Sense}
use Rattle.tsa_core.proofs.KindTests.{both_true, integer_plain, common_integer}
use Rattle.tsa_rules_roles.specs.declared.gist.Gist.{Gist}
use Rattle.tsa_rules_roles.specs.declared.worth.Worth.{Worth}
use Rattle.tsa_rules_roles.specs.declared.worth.Worth.TheVariants as worth
use Rattle.tsa_rules_roles.specs.Laws.{TermsHaveTheConstants, TermsHaveTheValues}
use Rattle.tsa_rules_roles.specs.ValueAnswers as told
use Rattle.tsa_rules_roles.specs.Worths.{worth_of, gist_of, number_behind, joined_worth, worth_beside, prefix_gist, binary_gist}
use Rattle.tsa_rules_roles.proofs.Worths.{constant_is, loaded_is}
use Rattle.tsa_rules_roles.proofs.Gists.{number_worth, unary_gist, binary_is}
use Rattle.tsa_base.proofs.Truths.{never}

-- what is made of constants, worked out
abbrev made : Bool → Result Number Trap → Option (Result Number Trap)
made b r = if b then Some r else None

-- the number that a value is, or why there is none
abbrev worked_number : Worth → Option (Result Number Trap)
worked_number (worth.Number r) = Some r
worked_number _ = None

-- A value agrees with what is made of constants: it is the number that this is, and no other one, and of the kind of an integer.
record Agrees (g : Gist) (b : Bool) (r : Result Number Trap) : Type 0 where
  is : worked_number g.worth ≡ made b r
  whole : b ≡ true → integer_kind g.expression.thing.kind ≡ true

none : (g : Gist) (r : Result Number Trap) → worked_number g.worth ≡ None → Agrees g false r
none g r e = record { is = e; whole = λ f. never (sym f) }

name_agrees : (m : Meaning) (thing : ThingType)
    → Agrees (record { expression = entry_type (record { meaning = m; thing = thing }); worth = worth_of (name_term m) })
    (is_known_enumerator (enumerator (Some (record { meaning = m; thing = thing }))))
    (Ok (named_value (enumerator (Some (record { meaning = m; thing = thing })))))
name_agrees (known.Global n) thing = none _ _ refl
name_agrees (known.Local n) thing = none _ _ refl
name_agrees (known.Function n) thing = none _ _ refl
name_agrees known.Owned thing = none _ _ refl
name_agrees (known.Constant z) thing = record { is = refl; whole = λ e. refl }
name_agrees known.TypeName thing = none _ _ refl

names_agree : (o : Option Entry) → Agrees (gist_of (of_name o)) (is_known_enumerator (enumerator o)) (Ok (named_value (enumerator o)))
names_agree None = none _ _ refl
names_agree (Some e) = name_agrees e.meaning e.thing

call_none : (o : Option Entry) → worked_number (worth_of (of_call o).term) ≡ None
call_none None = refl
call_none (Some e) = refl

member_none : (arrow : Bool) (s : Sense) (m : Option (ℕ × ThingType)) → worked_number (worth_of (to_member arrow s m).term) ≡ None
member_none arrow s None = refl
member_none arrow s (Some m) = refl

number_whole : (n : ℕ) (u : Bool) → integer_kind (number_type n u).thing.kind ≡ true
number_whole n true = refl
number_whole n false = refl

-- A prefix operator.
behind : (o : UnaryOp) (w : Worth) → worked_number (number_behind o w) ≡ option_map (λ r. go_on r (operate_prefix o)) (worked_number w)
behind o worth.Call = refl
behind o (worth.Local n) = refl
behind o (worth.Number r) = refl
behind o worth.Null = refl
behind o worth.Other = refl

made_behind : (o : UnaryOp) (b : Bool) (r : Result Number Trap) → option_map (λ r. go_on r (operate_prefix o)) (made b r) ≡ made b (go_on r (operate_prefix o))
made_behind o true r = refl
made_behind o false r = refl

number_agrees : (o : UnaryOp) (g : Gist) (b : Bool) (r : Result Number Trap) → Agrees g b r → worked_number (number_behind o g.worth) ≡ made b (go_on r (operate_prefix o))
number_agrees o g b r a = behind o g.worth ∙ ap (option_map (λ r. go_on r (operate_prefix o))) a.is ∙ made_behind o b r

prefix_agrees : (o : UnaryOp) (g : Gist) (b : Bool) (r : Result Number Trap) → Agrees g b r → Agrees (prefix_gist o g) (takes_integers o && b) (go_on r (operate_prefix o))
prefix_agrees prefix.Minus g b r a = record { is = number_agrees prefix.Minus g b r a; whole = a.whole }
prefix_agrees prefix.Not g b r a = record { is = number_agrees prefix.Not g b r a; whole = λ e. refl }
prefix_agrees prefix.Flip g b r a = record { is = number_agrees prefix.Flip g b r a; whole = a.whole }
prefix_agrees prefix.Address g b r a = none _ _ refl
prefix_agrees prefix.Follow g b r a = none _ _ refl

-- A binary operator.
abbrev both_worked : BinaryOp → Option (Result Number Trap) → Option (Result Number Trap) → Option (Result Number Trap)
both_worked o None other = None
both_worked o (Some x) None = None
both_worked o (Some x) (Some y) = Some (worked_binary o x y)

number_joined : (o : BinaryOp) (r : Result Number Trap) (v : Worth) → worked_number (joined_worth o (worth.Number r) v) ≡ both_worked o (Some r) (worked_number v)
number_joined o r worth.Call = refl
number_joined o r (worth.Local n) = refl
number_joined o r (worth.Number s) = refl
number_joined o r worth.Null = refl
number_joined o r worth.Other = refl

joined : (o : BinaryOp) (w v : Worth) → worked_number (joined_worth o w v) ≡ both_worked o (worked_number w) (worked_number v)
joined o worth.Call v = refl
joined o (worth.Local n) v = refl
joined o (worth.Number r) v = number_joined o r v
joined o worth.Null v = refl
joined o worth.Other v = refl

made_joined : (o : BinaryOp) (a b : Bool) (x y : Result Number Trap) → both_worked o (made a x) (made b y) ≡ made (a && b) (worked_binary o x y)
made_joined o true true x y = refl
made_joined o true false x y = refl
made_joined o false b x y = refl

-- Beside a pointer there is no number, and beside an integer a value stays as it is.
gone : (p : Bool) (w : Worth) → worked_number w ≡ None → worked_number (if p then worth.Null else w) ≡ None
gone true w e = refl
gone false w e = e

unchanged : (other : Kind) (g : Gist) → integer_kind other ≡ true → worth_beside other g ≡ g.worth
unchanged other g e = ap (λ p. if p && integer_kind g.expression.thing.kind then worth.Null else g.worth) (integer_plain other e).2

none_first : (o : BinaryOp) (p q : Option (Result Number Trap)) → p ≡ None → both_worked o p q ≡ None
none_first o p q e = ap (λ x. both_worked o x q) e

none_second : (o : BinaryOp) (p q : Option (Result Number Trap)) → q ≡ None → both_worked o p q ≡ None
none_second o None q e = refl
none_second o (Some x) q e = ap (both_worked o (Some x)) e

module _ (o : BinaryOp) (l r : Gist) (x y : Result Number Trap) where
  values : (a b : Bool) → Agrees l a x → Agrees r b y → worked_number (joined_worth o l.worth r.worth) ≡ made (a && b) (worked_binary o x y)
  values a b f g = joined o l.worth r.worth ∙ ap₂ (both_worked o) f.is g.is ∙ made_joined o a b x y

  abbrev first : Worth
  first = worth_beside r.expression.thing.kind l

  abbrev second : Worth
  second = worth_beside l.expression.thing.kind r

  sides : (a b : Bool) → Agrees l a x → Agrees r b y → worked_number (joined_worth o first second) ≡ made (a && b) (worked_binary o x y)
  sides true true f g = ap₂ (λ w v. worked_number (joined_worth o w v)) (unchanged _ l (g.whole refl)) (unchanged _ r (f.whole refl)) ∙ values true true f g
  sides true false f g = joined o first second ∙ none_second o (worked_number first) (worked_number second) (gone _ r.worth g.is)
  sides false b f g = joined o first second ∙ none_first o (worked_number first) (worked_number second) (gone _ l.worth f.is)

module _ (l r : Gist) (a b : Bool) (x y : Result Number Trap) (f : Agrees l a x) (g : Agrees r b y) where
  whole_int : (a && b) ≡ true → true ≡ true
  whole_int e = refl

  whole_common : (a && b) ≡ true → integer_kind (common l.expression.thing.kind r.expression.thing.kind) ≡ true
  whole_common e =
      let parts = both_true a b e in
      common_integer l.expression.thing.kind r.expression.thing.kind (f.whole parts.0) (g.whole parts.1)

  binary_agrees : (o : BinaryOp) → Agrees (binary_gist o l r) (a && b) (worked_binary o x y)
  binary_agrees op.Or = record { is = values op.Or l r x y a b f g; whole = whole_int }
  binary_agrees op.And = record { is = values op.And l r x y a b f g; whole = whole_int }
  binary_agrees op.BitOr = record { is = values op.BitOr l r x y a b f g; whole = whole_common }
  binary_agrees op.BitXor = record { is = values op.BitXor l r x y a b f g; whole = whole_common }
  binary_agrees op.BitAnd = record { is = values op.BitAnd l r x y a b f g; whole = whole_common }
  binary_agrees op.Equal = record { is = sides op.Equal l r x y a b f g; whole = whole_int }
  binary_agrees op.Unequal = record { is = sides op.Unequal l r x y a b f g; whole = whole_int }
  binary_agrees op.Less = record { is = values op.Less l r x y a b f g; whole = whole_int }
  binary_agrees op.More = record { is = values op.More l r x y a b f g; whole = whole_int }
  binary_agrees op.LessEqual = record { is = values op.LessEqual l r x y a b f g; whole = whole_int }
  binary_agrees op.MoreEqual = record { is = values op.MoreEqual l r x y a b f g; whole = whole_int }
  binary_agrees op.Plus = record { is = values op.Plus l r x y a b f g; whole = whole_common }
  binary_agrees op.Minus = record { is = values op.Minus l r x y a b f g; whole = whole_common }
  binary_agrees op.Times = record { is = values op.Times l r x y a b f g; whole = whole_common }
  binary_agrees op.Divide = record { is = values op.Divide l r x y a b f g; whole = whole_common }
  binary_agrees op.Remainder = record { is = values op.Remainder l r x y a b f g; whole = whole_common }

-- What an expression means agrees with it.
abbrev AgreesWith : Scope → Expression → Gist → Type 0
AgreesWith here e g = Agrees g (is_made_of_constants (context_of here) e) (worked (context_of here) e)

agrees : (here : Scope) (e : Expression) → AgreesWith here e (gist_of (meaning here e))
unfolding meaning
agrees here (number n u span) = record { is = ap worked_number (number_worth (number_value n u)); whole = λ e. number_whole n u }
agrees here (null span) = none _ _ refl
agrees here (named name span) = names_agree (known_in here name.text)
agrees here (call callee args span) = none _ _ (call_none (known_in here callee.text))
agrees here (unary o inner span) =
    subst (AgreesWith here (unary o inner span)) (unary_gist o (meaning here inner))
    (prefix_agrees o (gist_of (meaning here inner)) (is_made_of_constants (context_of here) inner) (worked (context_of here) inner) (agrees here inner))
agrees here (binary o left right span) =
    subst (AgreesWith here (binary o left right span)) (binary_is o (meaning here left) (meaning here right))
    (binary_agrees (gist_of (meaning here left)) (gist_of (meaning here right)) (is_made_of_constants (context_of here) left) (is_made_of_constants (context_of here) right)
    (worked (context_of here) left) (worked (context_of here) right) (agrees here left) (agrees here right) o)
agrees here (field base name arrow span) = none _ _ (member_none arrow (meaning here base) _)
agrees here (index base at span) = none _ _ refl

-- the number that is worked out without a trap
number_worked : (w : Worth) → told.number w ≡ option_and_then without_trap (worked_number w)
number_worked worth.Call = refl
number_worked (worth.Local n) = refl
number_worked (worth.Number r) = refl
number_worked worth.Null = refl
number_worked worth.Other = refl

made_worked : (b : Bool) (r : Result Number Trap) → option_and_then without_trap (made b r) ≡ (if b then without_trap r else None)
made_worked true r = refl
made_worked false r = refl

pub terms_have_the_constants : TermsHaveTheConstants
unfolding constant_of
terms_have_the_constants here e =
    let s = meaning here e in
    let c = context_of here in
    constant_is (loaded s)
    ∙ ap told.number (loaded_is s)
    ∙ number_worked (worth_of s.term)
    ∙ ap (option_and_then without_trap) (agrees here e).is
    ∙ made_worked (is_made_of_constants c e) (worked c e)

pub terms_have_the_values : TermsHaveTheValues
terms_have_the_values here e t is =
    terms_have_the_constants here e ∙ sym (ap (λ o. typed_value o (constant_of (context_of here) e)) is)
