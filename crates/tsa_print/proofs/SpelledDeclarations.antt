-- A run of the pieces of members, of a global or of a local spells them up to spans.
use Rattle.std.proofs.Common.{ℕ, ◌+◌, ◌≡◌, ◌∙◌, ap, subst, refl, sym, List, [], ◌∷◌, ◌++◌, map, Some, None, option_map}
use Rattle.std.specs.declared.option.Option.{Option}
use Rattle.tsa_base.specs.Tokens.{Lexeme}
use Rattle.tsa_tree.specs.attributes.Syntax.{Attribute, plain_attribute}
use Rattle.tsa_tree.specs.declarations.Syntax.{Specified, Initialiser, value, list, Declaration, declaration, Declarator, made_of}
use Rattle.tsa_tree.specs.declarations.Spelling.{Role, a_member, a_global, IsSpecifier, IsDeclarator, of_declarator, IsLength, of_rest}
use Rattle.tsa_tree.specs.declarations.Spelling.{IsDeclarators, of_last_declarator, IsMembers, no_member, of_members, IsVariable, of_unset}
use Rattle.tsa_tree.specs.declarations.Spelling.{of_set}
use Rattle.tsa_tree.specs.expressions.Syntax.{Expression, plain_name}
use Rattle.tsa_tree.specs.declarations.Plain.{plain_type, plain_initialiser, plain_declaration}
use Rattle.tsa_tree.specs.tokens.Signs.{Aliases, identifier_at, span_over}
use Rattle.tsa_tree.specs.expressions.Sound.{words_beside}
use Rattle.tsa_tree.specs.attributes.Sound.{SoundAttributes}
use Rattle.tsa_tree.specs.declarations.Sound.{SoundDeclarator, SoundLocalInit, SoundMembers, SoundGlobal, SoundLocal}
use Rattle.tsa_grammar.specs.Reading.{all}
use Rattle.tsa_print.specs.declared.mark.Mark.TheVariants as marks
use Rattle.tsa_print.specs.Canonical.{word, mark}
use Rattle.tsa_print.specs.DeclarationPieces.{type_pieces, length_pieces, attributes_pieces, init_pieces, declaration_pieces}
use Rattle.tsa_print.specs.DeclarationPieces.{members_pieces}
use Rattle.tsa_print.proofs.PieceSigns.{seen, name_seen, named_so}
use Rattle.tsa_print.proofs.Runs.{Run, run_split}
use Rattle.tsa_print.proofs.SpelledAttributes.{attributes_spelled}
use Rattle.tsa_print.proofs.SpelledInitialisers.{equals_seen, Init, init_spelled, no_init_spelled}
use Rattle.tsa_print.proofs.SpelledOperands.{expression_spelled}
use Rattle.tsa_print.proofs.SpelledTypes.{made_plain, type_spelled, length_spelled}

declaration_plain : (x y : Declaration) → plain_name x.name ≡ plain_name y.name → plain_type x.ctype ≡ plain_type y.ctype
    → map plain_attribute x.attrs ≡ map plain_attribute y.attrs → option_map plain_initialiser x.init ≡ option_map plain_initialiser y.init
    → plain_declaration x ≡ plain_declaration y
declaration_plain x y e f g h = rw (e, f, g, h) refl

module _ (aliases : Aliases) (ts : List Lexeme) where
  -- a declaration up to before its attributes
  record Begun (d : ℕ) (x : Declaration) (a b : ℕ) : Type 0 where
    specified : Specified
    declarator : Declarator
    length : Option Expression
    star : ℕ
    behind : ℕ
    end : ℕ
    is_specifier : IsSpecifier ts aliases specified a star
    is_declarator : IsDeclarator ts aliases declarator star behind
    is_length : IsLength ts aliases all d length behind end
    others : Run ts end (attributes_pieces x.attrs ++ init_pieces x.init) b
    same_name : plain_name declarator.name ≡ plain_name x.name
    same_type : plain_type (made_of specified declarator.pointer declarator.pointer_const length) ≡ plain_type x.ctype

  begun : (d : ℕ) (x : Declaration) (a b : ℕ) → SoundDeclarator (words_beside aliases) x → Run ts a (declaration_pieces x) b → Begun d x a b
  begun d x a b ok h =
      let two = run_split ts a b (type_pieces x.ctype)
      (word x.name.text ∷ (length_pieces x.ctype.length ++ (attributes_pieces x.attrs ++ init_pieces x.init))) h in
      let t = type_spelled aliases ts x.ctype a two.0 ok.0 two.1 in
      let behind = run_split ts (two.0 + 1) b (length_pieces x.ctype.length) (attributes_pieces x.attrs ++ init_pieces x.init) two.2.1 in
      let l = length_spelled aliases ts x.ctype.length d (two.0 + 1) behind.0 ok.2 behind.1 in
      record {
        specified = t.0;
        declarator = record { pointer = x.ctype.pointer; pointer_const = x.ctype.pointer_const; name = identifier_at ts two.0; start = t.1 };
        length = l.0;
        star = t.1;
        behind = two.0 + 1;
        end = behind.0;
        is_specifier = t.2;
        is_declarator = of_declarator t.3 (name_seen aliases ts two.0 x.name.text ok.1 two.2.0);
        is_length = l.1;
        others = behind.2;
        same_name = named_so ts two.0 x.name two.2.0;
        same_type = made_plain t.0 x.ctype l.0 t.4 t.5 l.2;
      }

  -- a member or a global, as the only one of its specifier
  abbrev pub Declared : Role → (d : ℕ) → Declaration → (a b : ℕ) → Type 0
  Declared r d x a b =
      (t : Specified)
      × (u : Declaration)
      × (m : ℕ)
      × IsSpecifier ts aliases t a m
      × IsDeclarators ts aliases all r d t (u ∷ []) m b
      × (plain_declaration u ≡ plain_declaration x)

  declared : (r : Role) (d : ℕ) (x : Declaration) (a b : ℕ) → SoundDeclarator (words_beside aliases) x → SoundAttributes (words_beside aliases) x.attrs
      → ((n : ℕ) → Run ts n (init_pieces x.init) b → Init aliases ts r d x.init n b) → Run ts a (declaration_pieces x) b → Declared r d x a b
  declared r d x a b ok attrs_ok hi h = go (begun d x a b ok h)
    where
      go : Begun d x a b → Declared r d x a b
      go g =
          let two = run_split ts g.end b (attributes_pieces x.attrs) (init_pieces x.init) g.others in
          let attrs = attributes_spelled aliases ts d x.attrs g.end two.0 attrs_ok two.1 in
          let i = hi two.0 two.2 in
          let u : Declaration = declaration g.specified g.declarator g.length attrs.0 i.0 (span_over ts g.declarator.start b) in (
            g.specified,
            u,
            g.star,
            g.is_specifier,
            of_last_declarator g.is_declarator (of_rest g.is_length attrs.1 i.1),
            declaration_plain u x g.same_name g.same_type attrs.2 i.2,
          )

  pub global_spelled : (x : Declaration) (a b : ℕ) → SoundGlobal (words_beside aliases) x → Run ts a (declaration_pieces x) b → Declared a_global 0 x a b
  global_spelled x a b ok h = declared a_global 0 x a b ok.0 ok.1 (λ n r. init_spelled aliases ts x.init 0 n b ok.2 r) h

  abbrev pub Members : (d : ℕ) → List Declaration → (a b : ℕ) → Type 0
  Members d xs a b =
      (us : List Declaration) × IsMembers ts aliases all d us a b × (map plain_declaration us ≡ map plain_declaration xs)

  pub members_spelled : (d : ℕ) (xs : List Declaration) (a b : ℕ) → SoundMembers (words_beside aliases) xs → Run ts a (members_pieces xs) b → Members d xs a b
  members_spelled d [] a b ok h = subst (Members d [] a) h ([], no_member, refl)
  members_spelled d (x ∷ xs) a b ok h =
      let two = run_split ts a b (declaration_pieces x) (mark marks.Semicolon ∷ members_pieces xs) h in
      let u = declared a_member d x a two.0 ok.0.0 ok.0.1 (λ n r. no_init_spelled aliases ts x.init d n two.0 ok.0.2 r) two.1 in
      let others = members_spelled d xs (two.0 + 1) b ok.1 two.2.1 in (
        u.1 ∷ others.0,
        of_members u.3 u.4 (seen aliases ts two.0 (mark marks.Semicolon) two.2.0) others.1,
        rw (u.5, others.2) refl,
      )

  abbrev pub Local : (d : ℕ) → Declaration → (a b : ℕ) → Type 0
  Local d x a b =
      (t : Specified)
      × (u : Declaration)
      × (m : ℕ)
      × IsSpecifier ts aliases t a m
      × IsVariable ts aliases all d t u m b
      × (plain_declaration u ≡ plain_declaration x)

  no_attributes : (xs : List Attribute) (i : Option Initialiser) (a b : ℕ) → xs ≡ [] → Run ts a (attributes_pieces xs ++ init_pieces i) b → Run ts a (init_pieces i) b
  no_attributes [] i a b e h = h
  no_attributes (x ∷ xs) i a b e h = cc

  local_of : (d : ℕ) (x : Declaration) (i : Option Initialiser) (a b : ℕ) → x.attrs ≡ [] → x.init ≡ i → SoundLocalInit (words_beside aliases) i
      → (g : Begun d x a b) → Run ts g.end (init_pieces i) b → Local d x a b
  local_of d x None a b attrs init ok g h =
      let u : Declaration = declaration g.specified g.declarator g.length [] None (span_over ts g.declarator.start b) in
      let is : IsVariable ts aliases all d g.specified u g.star b =
      of_unset g.is_declarator (subst (λ n. IsLength ts aliases all d g.length g.behind n) h g.is_length) in (
        g.specified,
        u,
        g.star,
        g.is_specifier,
        is,
        declaration_plain u x g.same_name g.same_type (sym (ap (map plain_attribute) attrs)) (sym (ap (option_map plain_initialiser) init)),
      )
  local_of d x (Some (value y)) a b attrs init ok g h =
      let y2 = expression_spelled aliases ts y d (g.end + 1) b ok h.1 in
      let u : Declaration = declaration g.specified g.declarator g.length [] (Some (value y2.0)) (span_over ts g.declarator.start b) in (
        g.specified,
        u,
        g.star,
        g.is_specifier,
        of_set g.is_declarator g.is_length (equals_seen aliases ts g.end h.0) y2.1,
        declaration_plain u x g.same_name g.same_type (sym (ap (map plain_attribute) attrs))
            (ap (λ y. Some (value y)) y2.2 ∙ sym (ap (option_map plain_initialiser) init)),
      )
  local_of d x (Some (list items s)) a b attrs init ok g h = absurd ok

  pub local_spelled : (d : ℕ) (x : Declaration) (a b : ℕ) → SoundLocal (words_beside aliases) x → Run ts a (declaration_pieces x) b → Local d x a b
  local_spelled d x a b ok h =
      let g = begun d x a b ok.0 h in
      local_of d x x.init a b ok.1 refl ok.2 g (no_attributes x.attrs x.init g.end b ok.1 g.others)
