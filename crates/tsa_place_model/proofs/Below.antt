-- Members are of structs that are defined: a struct by value that isn't counts as `int`.
use Rattle.std.proofs.Common.{◌≡◌, ℕ, ◌<◌, arith, pos, negsuc, nat_lt, nat_le, Bool, true, false, if◌then◌else◌, List, [], ◌∷◌, length}
use Rattle.std.proofs.Common.{Option, Some, None, refl, sym, subst}
use Rattle.std.proofs.lemmas.Bool.Decides.{nat_tests}
use Rattle.tsa_tree.specs.declarations.Syntax.{Declaration, DeclaredType}
use Rattle.tsa_tree.specs.expressions.Syntax.{Expression}
use Rattle.tsa_tree.specs.declared.number.Number.{Number}
use Rattle.tsa_tree.specs.declared.number.Number.TheVariants.{Int, Unsigned}
use Rattle.tsa_tree.specs.declared.kind.Resolved.{Resolved}
use Rattle.tsa_tree.specs.declared.kind.Resolved.TheVariants as written
use Rattle.tsa_tree.specs.types.Known.{Context}
use Rattle.tsa_tree.specs.declared.kind.Kind.{Kind}
use Rattle.tsa_tree.specs.declared.kind.Kind.TheVariants as type
use Rattle.tsa_tree.specs.types.DeclaredTypes.{thing_type, is_whole, value_in, as_length, length_in, length_of, with_length, resolve}
use Rattle.tsa_tree.specs.types.Scopes.{Scope, Members, context_of}
use Rattle.tsa_place_model.specs.Standing.{IsBelow, HasSome, IsWithin, AllBelow}
use Rattle.tsa_place_model.specs.Layouts.{Part}
use Rattle.tsa_place_model.specs.Parts.{part_in, parts_behind, member_behind}

less : (n m : ℕ) → nat_lt n m ≡ true → n < m
less n m h = grind (arith, nat_tests, h)

kind_below : (here : Scope) (kind : Kind) → IsBelow (length here.structs) (if is_whole here kind then kind else type.Int)
kind_below here (type.Structure n) = by (nat_lt n (length here.structs)) refl
  where
    by : (b : Bool) → nat_lt n (length here.structs) ≡ b → IsBelow (length here.structs) (if b then type.Structure n else type.Int)
    by true h = less n (length here.structs) h
    by false h = tt
kind_below here type.Int = tt
kind_below here type.Unsigned = tt
kind_below here type.Void = tt
kind_below here (type.Pointer target to_const) = tt
kind_below here type.Null = tt
kind_below here type.Function = tt

-- the length of an array is at least 1
within_some : (n : ℕ) (b d : Bool) → nat_le 1 n ≡ b → nat_le n 65536 ≡ d → HasSome (as_length n)
within_some n true true x y = rw (x, y) (grind (arith, nat_tests, x))
within_some n true false x y = rw (x, y) tt
within_some n false d x y = rw x tt

number_some : (number : Option Number) → HasSome (length_in number)
number_some None = tt
number_some (Some (Int (pos n))) = within_some n (nat_le 1 n) (nat_le n 65536) refl refl
number_some (Some (Int (negsuc n))) = tt
number_some (Some (Unsigned n)) = within_some n (nat_le 1 n) (nat_le n 65536) refl refl

module _ (c : Context) (e : Expression) where
  by_number : (number : Option Number) → value_in c e ≡ number → (l : Option ℕ) → length_in number ≡ l → HasSome l → HasSome (length_of c (Some e))
  by_number number h None k x = rw (h, k) (omega arith)
  by_number number h (Some n) k x = rw (h, k) x

length_some : (c : Context) (l : Option Expression) → HasSome (length_of c l)
length_some c None = tt
length_some c (Some e) = by_number c e (value_in c e) refl (length_in (value_in c e)) refl (number_some (value_in c e))

of_resolved : (l : Option ℕ) (r : Resolved) → HasSome l → HasSome (with_length l r).length
of_resolved l (written.Type t) h = h
of_resolved l (written.Unknown span) h = h
of_resolved l written.Refused h = h

type_some : (here : Scope) (t : DeclaredType) → HasSome (thing_type here t).length
type_some here t = of_resolved (length_of (context_of here) t.length) (resolve here t) (length_some (context_of here) t.length)

pub parts_below : (here : Scope) (before : Members) (decls : List Declaration) → AllBelow (length here.structs) (parts_behind here before decls)
unfolding parts_behind
parts_below here before [] = tt
parts_below here before (d ∷ rest) =
    ((kind_below here (thing_type here d.ctype).kind, type_some here d.ctype), parts_below here (member_behind here before d) rest)

-- a part of its type is of structs that are defined too
pub part_within : (here inside : Scope) (d : Declaration) (n : ℕ) (part : Part) → length here.structs ≡ n → part ≡ part_in here inside d → IsWithin n part.thing
part_within here inside d n part long is =
    subst (λ p. IsWithin n p.thing) (sym is) (subst (λ m. IsWithin m (part_in here inside d).thing) long (kind_below here (thing_type here d.ctype).kind, type_some here d.ctype))
