-- Names of globals and members: plain by what is sound, apart by what is declared once.
use Rattle.std.proofs.Common.{◌≡◌, ℕ, zero, suc, arith, pos, negsuc, nat_le, Bool, true, false, ◌&&◌, ◌||◌, List, [], ◌∷◌, ◌++◌, Option}
use Rattle.std.proofs.Common.{Some, None, slice_get, refl, sym, ap, subst, ◌∙◌}
use Rattle.std.specs.List.{list_all}
use Rattle.std.proofs.lemmas.Bool.Decides.{nat_tests}
use Rattle.tsa_base.specs.Bytes.{is_letter, is_digit, is_word_byte}
use Rattle.tsa_base.proofs.Options.{some_same as the_same}
use Rattle.tsa_tree.specs.declarations.Syntax.{Declaration, DeclaredType}
use Rattle.tsa_tree.specs.declarations.Sound.{SoundMembers}
use Rattle.tsa_tree.specs.declared.number.Number.{Number}
use Rattle.tsa_tree.specs.declared.number.Number.TheVariants.{Int, Unsigned}
use Rattle.tsa_tree.specs.declared.kind.Resolved.{Resolved}
use Rattle.tsa_tree.specs.declared.kind.Resolved.TheVariants as written
use Rattle.tsa_tree.specs.expressions.Sound.{all_words, is_name}
use Rattle.tsa_tree.specs.expressions.Syntax.{Expression}
use Rattle.tsa_tree.specs.types.DeclaredTypes.{thing_type, value_in, as_length, length_in, length_of, with_length, resolve}
use Rattle.tsa_tree.specs.types.Known.{Context}
use Rattle.tsa_tree.specs.types.Scopes.{Scope, Members, context_of}
use Rattle.tsa_place_model.specs.Layouts.{Part}
use Rattle.tsa_place_model.specs.Parts.{parts_behind, member_behind}
use Rattle.tsa_place_model.proofs.TextsApart.{IsPlain}
use Rattle.tsa_place_model.proofs.TextsTold.{IsShort, NamesTell, no_part}

-- none of some parts has a name
abbrev pub NotNamed : List ℕ → List Part → Type 0
NotNamed name [] = Unit {0}
NotNamed name (p ∷ ps) = (p.name ≡ name → ⊥) × NotNamed name ps

-- no two of some parts have the same name
abbrev pub AreApart : List Part → Type 0
AreApart [] = Unit {0}
AreApart (p ∷ ps) = NotNamed p.name ps × AreApart ps

-- parts with plain names and short lengths
abbrev pub ArePlain : List Part → Type 0
ArePlain [] = Unit {0}
ArePlain (p ∷ ps) = (IsPlain p.name × IsShort p.thing.length) × ArePlain ps

-- a further part
not_named_behind : (name : List ℕ) (ps : List Part) (q : Part) → NotNamed name ps → (q.name ≡ name → ⊥) → NotNamed name (ps ++ q ∷ [])
not_named_behind name [] q h k = (k, tt)
not_named_behind name (p ∷ ps) q h k = (h.0, not_named_behind name ps q h.1 k)

pub apart_behind : (ps : List Part) (q : Part) → AreApart ps → NotNamed q.name ps → AreApart (ps ++ q ∷ [])
apart_behind [] q h k = (tt, tt)
apart_behind (p ∷ ps) q h k = (not_named_behind p.name ps q h.0 (λ e. k.0 (sym e)), apart_behind ps q h.1 k.1)

pub plain_behind : (ps : List Part) (q : Part) → ArePlain ps → IsPlain q.name → IsShort q.thing.length → ArePlain (ps ++ q ∷ [])
plain_behind [] q h name length = ((name, length), tt)
plain_behind (p ∷ ps) q h name length = (h.0, plain_behind ps q h.1 name length)

-- parts by their numbers
not_at : (name : List ℕ) (ps : List Part) (i : ℕ) (p : Part) → NotNamed name ps → slice_get ps i ≡ Some p → p.name ≡ name → ⊥
not_at name [] i p h e same = no_part e
not_at name (x ∷ ps) zero p h e same = h.0 (ap (λ y. y.name) (the_same e) ∙ same)
not_at name (x ∷ ps) (suc i) p h e same = not_at name ps i p h.1 e same

apart_at : (ps : List Part) → AreApart ps → (i j : ℕ) (p q : Part) → slice_get ps i ≡ Some p → slice_get ps j ≡ Some q → p.name ≡ q.name → i ≡ j
apart_at [] h i j p q d e same = no_part d
apart_at (x ∷ ps) h zero zero p q d e same = refl
apart_at (x ∷ ps) h zero (suc j) p q d e same = absurd (not_at x.name ps j q h.0 e (sym same ∙ ap (λ y. y.name) (sym (the_same d))))
apart_at (x ∷ ps) h (suc i) zero p q d e same = absurd (not_at x.name ps i p h.0 d (same ∙ ap (λ y. y.name) (sym (the_same e))))
apart_at (x ∷ ps) h (suc i) (suc j) p q d e same = ap suc (apart_at ps h.1 i j p q d e same)

same_part : (x p : Part) → x ≡ p → IsPlain x.name × IsShort x.thing.length → IsPlain p.name × IsShort p.thing.length
same_part x p e h = subst (λ y. IsPlain y.name × IsShort y.thing.length) e h

plain_at : (ps : List Part) → ArePlain ps → (i : ℕ) (p : Part) → slice_get ps i ≡ Some p → IsPlain p.name × IsShort p.thing.length
plain_at [] h i p e = no_part e
plain_at (x ∷ ps) h zero p e = same_part x p (the_same e) h.0
plain_at (x ∷ ps) h (suc i) p e = plain_at ps h.1 i p e

pub names_tell : (ps : List Part) → AreApart ps → ArePlain ps → NamesTell ps
names_tell ps apart plain = record {
  plain = λ i p e. (plain_at ps plain i p e).0;
  short = λ i p e. (plain_at ps plain i p e).1;
  tell = apart_at ps apart;
}

-- a name is plain
front : (a b : Bool) → (a && b) ≡ true → a ≡ true
front true b e = refl
front false b e = absurd cc

word_first : (a b c : Bool) → (a && c) ≡ true → ((a || b) && c) ≡ true
word_first true b c e = e
word_first false b c e = absurd cc

pub plain_name : (name : List ℕ) → is_name [] name ≡ true → IsPlain name
plain_name [] e = refl
plain_name (c ∷ cs) e = word_first (is_letter c) (is_digit c) (list_all is_word_byte cs) (front (is_letter c && list_all is_word_byte cs) _ e)

-- the length of an array is at most 65,536
within : (n : ℕ) (b d : Bool) → nat_le 1 n ≡ b → nat_le n 65536 ≡ d → IsShort (as_length n)
within n true true x y = rw (x, y) (grind (arith, nat_tests, y))
within n true false x y = rw (x, y) tt
within n false d x y = rw x tt

number_short : (number : Option Number) → IsShort (length_in number)
number_short None = tt
number_short (Some (Int (pos n))) = within n (nat_le 1 n) (nat_le n 65536) refl refl
number_short (Some (Int (negsuc n))) = tt
number_short (Some (Unsigned n)) = within n (nat_le 1 n) (nat_le n 65536) refl refl

by_number : (c : Context) (e : Expression) (number : Option Number) → value_in c e ≡ number → (l : Option ℕ) → length_in number ≡ l → IsShort l → IsShort (length_of c (Some e))
by_number c e number h None k x = rw (h, k) (omega arith)
by_number c e number h (Some n) k x = rw (h, k) x

length_short : (c : Context) (l : Option Expression) → IsShort (length_of c l)
length_short c None = tt
length_short c (Some e) = by_number c e (value_in c e) refl (length_in (value_in c e)) refl (number_short (value_in c e))

of_resolved : (l : Option ℕ) (r : Resolved) → IsShort l → IsShort (with_length l r).length
of_resolved l (written.Type t) h = h
of_resolved l (written.Unknown span) h = h
of_resolved l written.Refused h = h

pub type_short : (here : Scope) (t : DeclaredType) → IsShort (thing_type here t).length
type_short here t = of_resolved (length_of (context_of here) t.length) (resolve here t) (length_short (context_of here) t.length)

-- members that can be spelled
pub plain_members : (here : Scope) (before : Members) (decls : List Declaration) → SoundMembers all_words decls → ArePlain (parts_behind here before decls)
unfolding parts_behind
plain_members here before [] h = tt
plain_members here before (d ∷ rest) h =
    ((plain_name d.name.text h.0.0.1, type_short here d.ctype), plain_members here (member_behind here before d) rest h.1)
