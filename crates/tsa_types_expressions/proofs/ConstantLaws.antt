-- What an expression is as a constant says what it is worked out to.
use Rattle.std.proofs.Common.{◌≡◌, ◌∙◌, ℕ, pos, Bool, true, false, ◌&&◌, Option, Some, None, Result, Ok, Err, refl, ap, if◌then◌else◌}
use Rattle.tsa_tree.specs.declared.expr.BinaryOp.{BinaryOp}
use Rattle.tsa_tree.specs.declared.expr.UnaryOp.{UnaryOp}
use Rattle.tsa_tree.specs.declared.expr.UnaryOp.TheVariants as prefix
use Rattle.tsa_tree.specs.declared.kind.ThingType.{ThingType}
use Rattle.tsa_tree.specs.declared.meaning.Entry.{Entry}
use Rattle.tsa_tree.specs.declared.meaning.Meaning.{Meaning}
use Rattle.tsa_tree.specs.declared.meaning.Meaning.TheVariants as known
use Rattle.tsa_tree.specs.declared.number.Number.{Number}
use Rattle.tsa_tree.specs.declared.number.Number.TheVariants as numeral
use Rattle.tsa_tree.specs.declared.number.Trap.{Trap}
use Rattle.tsa_tree.specs.expressions.Syntax.{Expression, number, null, named, call, unary, binary, field, index}
use Rattle.tsa_tree.specs.types.Arithmetic.{operate_prefix}
use Rattle.tsa_tree.specs.types.Constants.{enumerator, is_known_enumerator, takes_integers, is_made_of_constants, named_value, go_on}
use Rattle.tsa_tree.specs.types.Constants.{worked_binary, worked, without_trap, constant_of}
use Rattle.tsa_tree.specs.types.Expressions.{type_of}
use Rattle.tsa_tree.specs.types.Initialisers.{is_index, length_at}
use Rattle.tsa_tree.specs.types.Known.{Context}
use Rattle.tsa_types_expressions.specs.declared.constants.Constant.{Constant}
use Rattle.tsa_types_expressions.specs.declared.constants.Constant.TheVariants as constant
use Rattle.tsa_types_expressions.specs.Found.{number_in, entry_constant, known_constant, prefix_constant, binary_constant, field_constant}
use Rattle.tsa_types_expressions.specs.Found.{index_constant, constant_in}

-- an integer constant, with a value or without
abbrev is_number : Constant → Bool
is_number (constant.Number r) = true
is_number _ = false

abbrev worth : Constant → Result Number Trap
worth (constant.Number r) = r
worth _ = Ok (numeral.Int (pos 0))

prefix_number : (op : UnaryOp) (k : Constant) → (takes_integers op && is_number k) ≡ is_number (prefix_constant op k)
prefix_number prefix.Minus (constant.Number r) = refl
prefix_number prefix.Minus constant.Null = refl
prefix_number prefix.Minus (constant.Place n) = refl
prefix_number prefix.Minus (constant.Address n) = refl
prefix_number prefix.Minus constant.Other = refl
prefix_number prefix.Not (constant.Number r) = refl
prefix_number prefix.Not constant.Null = refl
prefix_number prefix.Not (constant.Place n) = refl
prefix_number prefix.Not (constant.Address n) = refl
prefix_number prefix.Not constant.Other = refl
prefix_number prefix.Flip (constant.Number r) = refl
prefix_number prefix.Flip constant.Null = refl
prefix_number prefix.Flip (constant.Place n) = refl
prefix_number prefix.Flip (constant.Address n) = refl
prefix_number prefix.Flip constant.Other = refl
prefix_number prefix.Address (constant.Number r) = refl
prefix_number prefix.Address constant.Null = refl
prefix_number prefix.Address (constant.Place n) = refl
prefix_number prefix.Address (constant.Address n) = refl
prefix_number prefix.Address constant.Other = refl
prefix_number prefix.Follow (constant.Number r) = refl
prefix_number prefix.Follow constant.Null = refl
prefix_number prefix.Follow (constant.Place n) = refl
prefix_number prefix.Follow (constant.Address n) = refl
prefix_number prefix.Follow constant.Other = refl

prefix_worth : (op : UnaryOp) (k : Constant) → is_number (prefix_constant op k) ≡ true → go_on (worth k) (operate_prefix op) ≡ worth (prefix_constant op k)
prefix_worth prefix.Minus (constant.Number r) h = refl
prefix_worth prefix.Minus constant.Null h = cc
prefix_worth prefix.Minus (constant.Place n) h = cc
prefix_worth prefix.Minus (constant.Address n) h = cc
prefix_worth prefix.Minus constant.Other h = cc
prefix_worth prefix.Not (constant.Number r) h = refl
prefix_worth prefix.Not constant.Null h = cc
prefix_worth prefix.Not (constant.Place n) h = cc
prefix_worth prefix.Not (constant.Address n) h = cc
prefix_worth prefix.Not constant.Other h = cc
prefix_worth prefix.Flip (constant.Number r) h = refl
prefix_worth prefix.Flip constant.Null h = cc
prefix_worth prefix.Flip (constant.Place n) h = cc
prefix_worth prefix.Flip (constant.Address n) h = cc
prefix_worth prefix.Flip constant.Other h = cc
prefix_worth prefix.Address (constant.Number r) h = cc
prefix_worth prefix.Address constant.Null h = cc
prefix_worth prefix.Address (constant.Place n) h = cc
prefix_worth prefix.Address (constant.Address n) h = cc
prefix_worth prefix.Address constant.Other h = cc
prefix_worth prefix.Follow (constant.Number r) h = cc
prefix_worth prefix.Follow constant.Null h = cc
prefix_worth prefix.Follow (constant.Place n) h = cc
prefix_worth prefix.Follow (constant.Address n) h = cc
prefix_worth prefix.Follow constant.Other h = cc

-- neither a number beside something, nor something beside a number, is one
binary_number : (op : BinaryOp) (k l : Constant) → (is_number k && is_number l) ≡ is_number (binary_constant op k l)
binary_number op (constant.Number r) (constant.Number s) = refl
binary_number op (constant.Number r) constant.Null = refl
binary_number op (constant.Number r) (constant.Place n) = refl
binary_number op (constant.Number r) (constant.Address n) = refl
binary_number op (constant.Number r) constant.Other = refl
binary_number op constant.Null l = refl
binary_number op (constant.Place n) l = refl
binary_number op (constant.Address n) l = refl
binary_number op constant.Other l = refl

binary_worth : (op : BinaryOp) (k l : Constant) → is_number (binary_constant op k l) ≡ true → worked_binary op (worth k) (worth l) ≡ worth (binary_constant op k l)
binary_worth op (constant.Number r) (constant.Number s) h = refl
binary_worth op (constant.Number r) constant.Null h = cc
binary_worth op (constant.Number r) (constant.Place n) h = cc
binary_worth op (constant.Number r) (constant.Address n) h = cc
binary_worth op (constant.Number r) constant.Other h = cc
binary_worth op constant.Null l h = cc
binary_worth op (constant.Place n) l h = cc
binary_worth op (constant.Address n) l h = cc
binary_worth op constant.Other l h = cc

field_number : (arrow : Bool) (k : Constant) → false ≡ is_number (field_constant arrow k)
field_number true (constant.Number r) = refl
field_number true constant.Null = refl
field_number true (constant.Place n) = refl
field_number true (constant.Address n) = refl
field_number true constant.Other = refl
field_number false (constant.Number r) = refl
field_number false constant.Null = refl
field_number false (constant.Place n) = refl
field_number false (constant.Address n) = refl
field_number false constant.Other = refl

index_number : (l : Option ℕ) (k i : Constant) → false ≡ is_number (index_constant l k i)
index_number l (constant.Number r) i = refl
index_number l constant.Null i = refl
index_number l (constant.Address n) i = refl
index_number l constant.Other i = refl
index_number l (constant.Place n) i = in_range (is_index l (number_in i))
  where
    in_range : (b : Bool) → false ≡ is_number (if b then constant.Place n else constant.Other)
    in_range true = refl
    in_range false = refl

meaning_number : (m : Meaning) (t : ThingType) → is_known_enumerator (enumerator (Some (record { meaning = m; thing = t }))) ≡ is_number (entry_constant m)
meaning_number (known.Global n) t = refl
meaning_number (known.Local n) t = refl
meaning_number (known.Function n) t = refl
meaning_number known.Owned t = refl
meaning_number (known.Constant z) t = refl
meaning_number known.TypeName t = refl

known_number : (o : Option Entry) → is_known_enumerator (enumerator o) ≡ is_number (known_constant o)
known_number None = refl
known_number (Some e) = meaning_number e.meaning e.thing

meaning_worth : (m : Meaning) (t : ThingType) → is_number (entry_constant m) ≡ true
    → Ok (named_value (enumerator (Some (record { meaning = m; thing = t })))) ≡ worth (entry_constant m)
meaning_worth (known.Global n) t h = cc
meaning_worth (known.Local n) t h = cc
meaning_worth (known.Function n) t h = cc
meaning_worth known.Owned t h = cc
meaning_worth (known.Constant z) t h = refl
meaning_worth known.TypeName t h = cc

known_worth : (o : Option Entry) → is_number (known_constant o) ≡ true → Ok (named_value (enumerator o)) ≡ worth (known_constant o)
known_worth None h = cc
known_worth (Some e) h = meaning_worth e.meaning e.thing h

both_true : (a b : Bool) → (a && b) ≡ true → (a ≡ true) × (b ≡ true)
both_true true true h = (refl, refl)
both_true true false h = cc
both_true false b h = cc

right_true : (a b : Bool) → (a && b) ≡ true → b ≡ true
right_true true b h = h
right_true false b h = cc

value_is : (k : Constant) → (if is_number k then without_trap (worth k) else None) ≡ number_in k
value_is (constant.Number (Ok n)) = refl
value_is (constant.Number (Err trap)) = refl
value_is constant.Null = refl
value_is (constant.Place n) = refl
value_is (constant.Address n) = refl
value_is constant.Other = refl

module _ (c : Context) where
  made : (e : Expression) → is_made_of_constants c e ≡ is_number (constant_in c e)
  unfolding constant_in
  made (number n u span) = refl
  made (null span) = refl
  made (named name span) = known_number (c.known name.text)
  made (call callee args span) = refl
  made (unary op inner span) = ap (λ b. takes_integers op && b) (made inner) ∙ prefix_number op (constant_in c inner)
  made (binary op left right span) =
      ap (λ b. b && is_made_of_constants c right) (made left) ∙ ap (λ b. is_number (constant_in c left) && b) (made right)
      ∙ binary_number op (constant_in c left) (constant_in c right)
  made (field base name arrow span) = field_number arrow (constant_in c base)
  made (index base inner span) = index_number (length_at (type_of c base)) (constant_in c base) (constant_in c inner)

  work : (e : Expression) → is_number (constant_in c e) ≡ true → worked c e ≡ worth (constant_in c e)
  unfolding constant_in
  work (number n u span) h = refl
  work (null span) h = cc
  work (named name span) h = known_worth (c.known name.text) h
  work (call callee args span) h = cc
  work (unary op inner span) h =
      ap (λ r. go_on r (operate_prefix op)) (work inner (right_true (takes_integers op) (is_number (constant_in c inner)) (prefix_number op (constant_in c inner) ∙ h)))
      ∙ prefix_worth op (constant_in c inner) h
  work (binary op left right span) h =
      let parts = both_true (is_number (constant_in c left)) (is_number (constant_in c right)) (binary_number op (constant_in c left) (constant_in c right) ∙ h) in
      ap (λ r. worked_binary op r (worked c right)) (work left parts.0)
      ∙ ap (λ r. worked_binary op (worth (constant_in c left)) r) (work right parts.1)
      ∙ binary_worth op (constant_in c left) (constant_in c right) h
  work (field base name arrow span) h = absurd (no (field_number arrow (constant_in c base) ∙ h))
    where
      no : false ≡ true → ⊥
      no e = cc
  work (index base inner span) h = absurd (no (index_number (length_at (type_of c base)) (constant_in c base) (constant_in c inner) ∙ h))
    where
      no : false ≡ true → ⊥
      no e = cc

module _ (c : Context) (e : Expression) where
  by_number : (b : Bool) → is_number (constant_in c e) ≡ b
      → (if b then without_trap (worked c e) else None) ≡ (if b then without_trap (worth (constant_in c e)) else None)
  by_number true h = ap without_trap (work c e h)
  by_number false h = refl

  -- an integer constant's value is that of what the expression is
  pub constant_is : constant_of c e ≡ number_in (constant_in c e)
  unfolding constant_of
  constant_is =
      ap (λ b. if b then without_trap (worked c e) else None) (made c e)
      ∙ by_number (is_number (constant_in c e)) refl
      ∙ value_is (constant_in c e)
