-- The pieces of declarations and heads that the grammar can spell go well before others.
use Rattle.std.proofs.Common.{ℕ, ◌≡◌, List, [], ◌∷◌, ◌++◌, Bool, true, false, Some, None, refl, sym, subst, ◌∙◌}
use Rattle.std.specs.Prelude.{codes}
use Rattle.std.specs.declared.option.Option.{Option}
use Rattle.std.specs.List.{list_any}
use Rattle.std.specs.Str.{bytes_eq}
use Rattle.std.proofs.lemmas.Bool.{and_parts}
use Rattle.std.proofs.lemmas.List.{append_assoc}
use Rattle.tsa_tree.specs.declared.expr.BinaryOp.{BinaryOp}
use Rattle.tsa_tree.specs.declarations.Syntax.{Base, int, unsigned, void, structure, enumerated, alias, DeclaredType, Initialiser, value}
use Rattle.tsa_tree.specs.declarations.Syntax.{list, Initialisers, no_more, one_more, Declaration}
use Rattle.tsa_tree.specs.expressions.Syntax.{Expression}
use Rattle.tsa_tree.specs.tokens.Signs.{Aliases}
use Rattle.tsa_tree.specs.expressions.Sound.{words_beside, SoundExpression, SoundOptional, is_name}
use Rattle.tsa_tree.specs.attributes.Sound.{SoundAttributes}
use Rattle.tsa_tree.specs.declarations.Sound.{SoundBase, SoundType, SoundInitialiser, SoundInitialisers, SoundInit, SoundLocalInit}
use Rattle.tsa_tree.specs.declarations.Sound.{SoundDeclarator, SoundMembers, SoundGlobal, SoundLocal}
use Rattle.tsa_tree.specs.statements.Sound.{is_assigning}
use Rattle.tsa_print.specs.declared.mark.Mark.TheVariants as marks
use Rattle.tsa_print.specs.Canonical.{Piece, word, assigned, mark, pieces}
use Rattle.tsa_print.specs.DeclarationPieces.{attributes_pieces, base_pieces, const_pieces, star_pieces, specifier_pieces, type_pieces}
use Rattle.tsa_print.specs.DeclarationPieces.{length_pieces, initialiser_pieces, initialisers_pieces, further_pieces, init_pieces}
use Rattle.tsa_print.specs.DeclarationPieces.{declaration_pieces, members_pieces}
use Rattle.tsa_print.specs.UnitBases.{in_optional, in_attributes, in_initialiser, in_initialisers, in_init, in_declaration, in_declarations}
use Rattle.tsa_print.specs.Writable.{has_plain_bases}
use Rattle.tsa_print.proofs.Apart.{is_word, safe, safe_before, Apart}
use Rattle.tsa_print.proofs.AttributesApart.{ArePlain, plain_parts, plain_first, joins_word, joins_mark_before, joins_attributes}
use Rattle.tsa_print.proofs.CanonicalApart.{word_of_name, starts_loose, joins_expression}
use Rattle.tsa_print.proofs.Joins.{begins, begins_dot, dots_append, Joins, joins_none, joins_loose, joins_append, joins_before}
use Rattle.tsa_print.proofs.Joins.{joins_between}
use Rattle.tsa_print.proofs.Starts.{starts-pieces}

-- Types.

tag_word : (text : List ℕ) → is_name [] text ≡ true → is_word text ≡ true
tag_word text sound = word_of_name [] text sound

joins_base : (aliases : Aliases) (base : Base) → SoundBase (words_beside aliases) base → Joins true (base_pieces base)
joins_base aliases int sound = joins_word (codes "int") [] refl (joins_none true)
joins_base aliases unsigned sound = joins_word (codes "unsigned") [] refl (joins_none true)
joins_base aliases void sound = joins_word (codes "void") [] refl (joins_none true)
joins_base aliases (structure tag) sound =
    joins_word (codes "struct") (word tag.text ∷ []) refl (joins_word tag.text [] (tag_word tag.text sound) (joins_none true))
joins_base aliases (enumerated tag) sound =
    joins_word (codes "enum") (word tag.text ∷ []) refl (joins_word tag.text [] (tag_word tag.text sound) (joins_none true))
joins_base aliases (alias name) sound =
    joins_word name.text [] (tag_word name.text (and_parts (is_name [] name.text) (list_any (bytes_eq name.text) aliases) sound).0) (joins_none true)

joins_const : (is_const : Bool) → Joins true (const_pieces is_const)
joins_const true = joins_word (codes "const") [] refl (joins_none true)
joins_const false = joins_none true

joins_specifier : (aliases : Aliases) (t : DeclaredType) → SoundType (words_beside aliases) t → Joins true (specifier_pieces t)
joins_specifier aliases t sound =
    joins_append true (const_pieces t.base_const) (base_pieces t.base) refl (joins_const t.base_const) (joins_base aliases t.base sound.0)

-- a declarator's star goes well before a name, a `const`, a comma and a parenthesis
star_apart : (pointer pointer_const : Bool) (qs : List Piece) → begins_dot qs ≡ false → safe_before (mark marks.Star) qs ≡ true → Apart qs →
    (begins_dot (star_pieces pointer pointer_const ++ qs) ≡ false) × Apart (star_pieces pointer pointer_const ++ qs)
star_apart false pointer_const qs dot may apart = (dot, apart)
star_apart true true qs dot may apart = (refl, (refl, refl, (joins_const true).1 qs dot apart))
star_apart true false qs dot may apart = (refl, (refl, may, apart))

star_dot : (pointer pointer_const : Bool) → begins_dot (star_pieces pointer pointer_const) ≡ false
star_dot false pointer_const = refl
star_dot true pointer_const = refl

-- these may stand after the star of a declarator
abbrev pub behind_star : List Piece → Bool
behind_star qs = begins (λ q. safe (mark marks.Star) q) qs

star_before : (qs : List Piece) → behind_star qs ≡ true → (rs : List Piece) → safe_before (mark marks.Star) (qs ++ rs) ≡ true
star_before [] may rs = absurd (cc)
star_before (q ∷ qs) may rs = may

type_dot : (aliases : Aliases) (t : DeclaredType) → SoundType (words_beside aliases) t → begins_dot (type_pieces t) ≡ false
type_dot aliases t sound =
    dots_append (specifier_pieces t) (star_pieces t.pointer t.pointer_const) (joins_specifier aliases t sound).0 (star_dot t.pointer t.pointer_const)

dots_filled : (qs rs : List Piece) → behind_star qs ≡ true → begins_dot qs ≡ false → begins_dot (qs ++ rs) ≡ false
dots_filled [] rs may dot = absurd (cc)
dots_filled (q ∷ qs) rs may dot = dot

-- a type goes well before pieces that may stand after its star
pub joins_type : (aliases : Aliases) (t : DeclaredType) (qs : List Piece) → SoundType (words_beside aliases) t → behind_star qs ≡ true → Joins true qs →
    Joins true (type_pieces t ++ qs)
joins_type aliases t qs sound may joins = (
  dots_append (type_pieces t) qs (type_dot aliases t sound) joins.0,
  λ rs e apart.
      let stars = star_pieces t.pointer t.pointer_const in
      let behind = star_apart t.pointer t.pointer_const (qs ++ rs) (dots_filled qs rs may joins.0) (star_before qs may rs) (joins.1 rs e apart) in
      subst Apart (sym (append_assoc (type_pieces t) qs rs ∙ append_assoc (specifier_pieces t) stars (qs ++ rs)))
      ((joins_specifier aliases t sound).1 (stars ++ (qs ++ rs)) behind.0 behind.1),
)

-- Declarations.

joins_length : (aliases : Aliases) (length : Option Expression) → SoundOptional (words_beside aliases) length → ArePlain (in_optional length) →
    Joins true (length_pieces length)
joins_length aliases None sound plain = joins_none true
joins_length aliases (Some x) sound plain =
    joins_loose false (length_pieces (Some x)) (joins_between marks.OpenBracket marks.CloseBracket (pieces x 0) refl refl
    (joins_expression aliases x 0 sound (plain_first x [] plain).0))

module _ (aliases : Aliases) where
  mutual
    joins_initialiser : (x : Initialiser) → SoundInitialiser (words_beside aliases) x → ArePlain (in_initialiser x) → Joins true (initialiser_pieces x)
    joins_initialiser (value x) sound plain = joins_expression aliases x 0 sound (plain_first x [] plain).0
    joins_initialiser (list items span) sound plain =
        joins_loose false (initialiser_pieces (list items span)) (joins_between marks.OpenBrace marks.CloseBrace (initialisers_pieces items) refl refl
        (joins_initialisers items sound plain))

    joins_initialisers : (items : Initialisers) → SoundInitialisers (words_beside aliases) items → ArePlain (in_initialisers items)
        → Joins true (initialisers_pieces items)
    joins_initialisers no_more sound plain = joins_none true
    joins_initialisers (one_more first rest) sound plain =
        let parts = plain_parts (in_initialiser first) (in_initialisers rest) plain in
        joins_append true (initialiser_pieces first) (further_pieces rest) refl (joins_initialiser first sound.0 parts.0)
        (joins_further_pieces rest sound.1 parts.1)

    joins_further_pieces : (items : Initialisers) → SoundInitialisers (words_beside aliases) items → ArePlain (in_initialisers items)
        → Joins true (further_pieces items)
    joins_further_pieces no_more sound plain = joins_none true
    joins_further_pieces (one_more first rest) sound plain =
        let parts = plain_parts (in_initialiser first) (in_initialisers rest) plain in
        joins_mark_before marks.Comma (initialiser_pieces first ++ further_pieces rest) refl
        (joins_append true (initialiser_pieces first) (further_pieces rest) refl (joins_initialiser first sound.0 parts.0)
        (joins_further_pieces rest sound.1 parts.1))

-- an expression after `=`
pub joins_assigned : (aliases : Aliases) (o : Option BinaryOp) (x : Expression) → is_assigning o ≡ true → SoundExpression (words_beside aliases) x →
    has_plain_bases x ≡ true → Joins true (assigned o ∷ pieces x 0)
joins_assigned aliases o x good sound plain =
    joins_before true (assigned o) (pieces x 0) good refl (starts_loose (pieces x 0) (starts-pieces x 0)) (joins_expression aliases x 0 sound plain)

joins_init : (aliases : Aliases) (init : Option Initialiser) → SoundInit (words_beside aliases) init → ArePlain (in_init init) → Joins true (init_pieces init)
joins_init aliases None sound plain = joins_none true
joins_init aliases (Some (value x)) sound plain = joins_assigned aliases None x refl sound (plain_first x [] plain).0
joins_init aliases (Some (list items span)) sound plain =
    joins_before true (assigned None) (initialiser_pieces (list items span)) refl refl refl (joins_initialiser aliases (list items span) sound plain)

joins_declaration : (aliases : Aliases) (d : Declaration) → SoundDeclarator (words_beside aliases) d →
    SoundAttributes (words_beside aliases) d.attrs → SoundInit (words_beside aliases) d.init →
    ArePlain (in_declaration d) → Joins true (declaration_pieces d)
joins_declaration aliases d declarator attrs init plain =
    let parts = plain_parts (in_optional d.ctype.length) (in_attributes d.attrs ++ in_init d.init) plain in
    let later = plain_parts (in_attributes d.attrs) (in_init d.init) parts.1 in
    joins_type aliases d.ctype (word d.name.text ∷ (length_pieces d.ctype.length ++ (attributes_pieces d.attrs ++ init_pieces d.init))) declarator.0 refl
    (joins_word d.name.text (length_pieces d.ctype.length ++ (attributes_pieces d.attrs ++ init_pieces d.init))
    (word_of_name aliases d.name.text declarator.1)
    (joins_append true (length_pieces d.ctype.length) (attributes_pieces d.attrs ++ init_pieces d.init) refl
    (joins_length aliases d.ctype.length declarator.2 parts.0)
    (joins_append true (attributes_pieces d.attrs) (init_pieces d.init) refl (joins_attributes aliases d.attrs attrs later.0)
    (joins_init aliases d.init init later.1))))

pub joins_global : (aliases : Aliases) (d : Declaration) → SoundGlobal (words_beside aliases) d → ArePlain (in_declaration d)
    → Joins true (declaration_pieces d)
joins_global aliases d sound plain = joins_declaration aliases d sound.0 sound.1 sound.2 plain

local_init_sound : (aliases : Aliases) (init : Option Initialiser) → SoundLocalInit (words_beside aliases) init → SoundInit (words_beside aliases) init
local_init_sound aliases None sound = tt
local_init_sound aliases (Some (value x)) sound = sound
local_init_sound aliases (Some (list items span)) sound = absurd sound

pub joins_local : (aliases : Aliases) (d : Declaration) → SoundLocal (words_beside aliases) d → ArePlain (in_declaration d) → Joins true (declaration_pieces d)
joins_local aliases d sound plain =
    joins_declaration aliases d sound.0 (subst (SoundAttributes (words_beside aliases)) (sym sound.1) tt) (local_init_sound aliases d.init sound.2) plain

pub joins_members : (aliases : Aliases) (ds : List Declaration) → SoundMembers (words_beside aliases) ds → ArePlain (in_declarations ds)
    → Joins true (members_pieces ds)
joins_members aliases [] sound plain = joins_none true
joins_members aliases (d ∷ others) sound plain =
    let parts = plain_parts (in_declaration d) (in_declarations others) plain in
    let first = sound.0 in
    joins_append true (declaration_pieces d) (mark marks.Semicolon ∷ members_pieces others) refl
    (joins_declaration aliases d first.0 first.1 (subst (λ init. SoundInit (words_beside aliases) init) (sym first.2) tt) parts.0)
    (joins_mark_before marks.Semicolon (members_pieces others) refl (joins_members aliases others sound.1 parts.1))
