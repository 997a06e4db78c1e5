-- A run of the pieces of a type, with the star of its declarator, and of an array's length spells them up to spans.
use Rattle.std.proofs.Common.{ℕ, ◌+◌, ◌≡◌, ap, subst, refl, List, [], ◌∷◌, ◌++◌, Bool, true, false, ◌||◌, not, Some, None, option_map}
use Rattle.std.specs.declared.option.Option.{Option}
use Rattle.tsa_base.specs.Tokens.{Lexeme}
use Rattle.tsa_tree.specs.declared.sign.Keyword.TheVariants as key
use Rattle.tsa_tree.specs.declarations.Syntax.{Base, int, unsigned, void, structure, enumerated, alias, Specified, DeclaredType, made_of}
use Rattle.tsa_tree.specs.declarations.Spelling.{no_const, of_const, IsBase, of_int, of_unsigned, of_void, of_struct, of_enum, of_alias}
use Rattle.tsa_tree.specs.declarations.Spelling.{IsSpecifier, of_specifier, IsStar, no_star, of_star, of_const_star, IsLength, no_length}
use Rattle.tsa_tree.specs.declarations.Spelling.{of_length}
use Rattle.tsa_tree.specs.expressions.Syntax.{Expression, plain}
use Rattle.tsa_tree.specs.declarations.Plain.{plain_base, plain_type}
use Rattle.tsa_tree.specs.tokens.Signs.{Aliases, identifier_at}
use Rattle.tsa_tree.specs.expressions.Sound.{words_beside, SoundOptional}
use Rattle.tsa_tree.specs.declarations.Sound.{SoundBase, SoundType}
use Rattle.tsa_grammar.specs.Reading.{all}
use Rattle.tsa_print.specs.declared.mark.Mark.TheVariants as marks
use Rattle.tsa_print.specs.Canonical.{mark, pieces}
use Rattle.tsa_print.specs.DeclarationPieces.{base_pieces, const_pieces, specifier_pieces, star_pieces, type_pieces, length_pieces}
use Rattle.tsa_print.proofs.PieceSigns.{seen, named_so}
use Rattle.tsa_print.proofs.Runs.{Run, run_split}
use Rattle.tsa_print.proofs.SpelledOperands.{expression_spelled}
use Rattle.tsa_print.proofs.WordSigns.{keyword_seen, tag_seen, alias_seen}

pub made_plain : (u : Specified) (t : DeclaredType) (l : Option Expression) → plain_base u.base ≡ plain_base t.base → u.is_const ≡ t.base_const
    → option_map plain l ≡ option_map plain t.length → plain_type (made_of u t.pointer t.pointer_const l) ≡ plain_type t
made_plain u t l e f g = rw (e, f, g) refl

module _ (aliases : Aliases) (ts : List Lexeme) where
  abbrev BaseRead : Base → (a b : ℕ) → Type 0
  BaseRead base a b = (u : Base) × IsBase ts aliases u a b × (plain_base u ≡ plain_base base)

  abbrev Specifier : Base → Bool → (a b : ℕ) → Type 0
  Specifier base c a b = (u : Specified) × IsSpecifier ts aliases u a b × (plain_base u.base ≡ plain_base base) × (u.is_const ≡ c)

  -- a type and its star, which begins at the place in the middle
  abbrev pub Typed : DeclaredType → (a b : ℕ) → Type 0
  Typed t a b =
      (u : Specified)
      × (m : ℕ)
      × IsSpecifier ts aliases u a m
      × IsStar ts aliases t.pointer t.pointer_const m b
      × (plain_base u.base ≡ plain_base t.base)
      × (u.is_const ≡ t.base_const)

  abbrev pub Length : (d : ℕ) → Option Expression → (a b : ℕ) → Type 0
  Length d l a b = (u : Option Expression) × IsLength ts aliases all d u a b × (option_map plain u ≡ option_map plain l)

  base_spelled : (base : Base) (a b : ℕ) → SoundBase (words_beside aliases) base → Run ts a (base_pieces base) b → BaseRead base a b
  base_spelled int a b ok h = subst (BaseRead int a) h.1 (int, of_int (keyword_seen aliases ts a key.Int h.0), refl)
  base_spelled unsigned a b ok h = subst (BaseRead unsigned a) h.1 (unsigned, of_unsigned (keyword_seen aliases ts a key.Unsigned h.0), refl)
  base_spelled void a b ok h = subst (BaseRead void a) h.1 (void, of_void (keyword_seen aliases ts a key.Void h.0), refl)
  base_spelled (structure tag) a b ok h = subst (BaseRead (structure tag) a) h.1.1 (
    structure (identifier_at ts (a + 1)),
    of_struct (keyword_seen aliases ts a key.Struct h.0) (tag_seen aliases ts (a + 1) tag.text ok h.1.0),
    ap structure (named_so ts (a + 1) tag h.1.0),
  )
  base_spelled (enumerated tag) a b ok h = subst (BaseRead (enumerated tag) a) h.1.1 (
    enumerated (identifier_at ts (a + 1)),
    of_enum (keyword_seen aliases ts a key.Enum h.0) (tag_seen aliases ts (a + 1) tag.text ok h.1.0),
    ap enumerated (named_so ts (a + 1) tag h.1.0),
  )
  base_spelled (alias name) a b ok h = subst (BaseRead (alias name) a) h.1 (
    alias (identifier_at ts a),
    of_alias (alias_seen aliases ts a name.text ok h.0),
    ap alias (named_so ts a name h.0),
  )

  specifier_spelled : (base : Base) (c : Bool) (a b : ℕ) → SoundBase (words_beside aliases) base → Run ts a (const_pieces c ++ base_pieces base) b
      → Specifier base c a b
  specifier_spelled base true a b ok h =
      let u = base_spelled base (a + 1) b ok h.1 in (
        record { base = u.0; is_const = true },
        of_specifier (of_const (keyword_seen aliases ts a key.Const h.0) no_const) u.1 no_const,
        u.2,
        refl,
      )
  specifier_spelled base false a b ok h =
      let u = base_spelled base a b ok h in
      (record { base = u.0; is_const = false }, of_specifier no_const u.1 no_const, u.2, refl)

  star_spelled : (p c : Bool) (a b : ℕ) → (p || not c) ≡ true → Run ts a (star_pieces p c) b → IsStar ts aliases p c a b
  star_spelled false false a b ok h = subst (IsStar ts aliases false false a) h no_star
  star_spelled false true a b ok h = cc
  star_spelled true false a b ok h = subst (IsStar ts aliases true false a) h.1 (of_star (seen aliases ts a (mark marks.Star) h.0))
  star_spelled true true a b ok h =
      subst (IsStar ts aliases true true a) h.1.1
      (of_const_star (seen aliases ts a (mark marks.Star) h.0) (keyword_seen aliases ts (a + 1) key.Const h.1.0))

  pub type_spelled : (t : DeclaredType) (a b : ℕ) → SoundType (words_beside aliases) t → Run ts a (type_pieces t) b → Typed t a b
  type_spelled t a b ok h =
      let two = run_split ts a b (specifier_pieces t) (star_pieces t.pointer t.pointer_const) h in
      let s = specifier_spelled t.base t.base_const a two.0 ok.0 two.1 in
      (s.0, two.0, s.1, star_spelled t.pointer t.pointer_const two.0 b ok.1 two.2, s.2, s.3)

  pub length_spelled : (l : Option Expression) (d a b : ℕ) → SoundOptional (words_beside aliases) l → Run ts a (length_pieces l) b → Length d l a b
  length_spelled None d a b ok h = subst (Length d None a) h (None, no_length, refl)
  length_spelled (Some x) d a b ok h =
      let two = run_split ts (a + 1) b (pieces x 0) (mark marks.CloseBracket ∷ []) h.1 in
      let inner = expression_spelled aliases ts x (d + 1) (a + 1) two.0 ok two.1 in
      subst (Length d (Some x) a) two.2.1 (
        Some inner.0,
        of_length (seen aliases ts a (mark marks.OpenBracket) h.0) refl inner.1 (seen aliases ts two.0 (mark marks.CloseBracket) two.2.0),
        ap Some inner.2,
      )
