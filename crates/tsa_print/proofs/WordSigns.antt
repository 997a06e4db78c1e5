-- What the grammar sees at a keyword, the word of an attribute, a tag, the name of a type, a text and the result of a try.
use Rattle.std.proofs.Common.{ℕ, ◌-◌, ◌≡◌, ◌∙◌, ap, refl, arith, List, [], ◌∷◌, ◌++◌, Bool, true, false, ◌&&◌, not, Some, length, take}
use Rattle.std.proofs.Common.{codes, if◌then◌else◌}
use Rattle.std.proofs.Math.Seq.{take-append_seam}
use Rattle.std.proofs.lemmas.Bool.{and_parts, not-true}
use Rattle.std.proofs.lemmas.Fmt.{decimal_digit}
use Rattle.std.proofs.lemmas.List.{length-append}
use Rattle.std.specs.List.{list_all, list_any}
use Rattle.std.specs.Str.{bytes_eq}
use Rattle.tsa_base.specs.Bytes.{is_letter, is_word_byte}
use Rattle.tsa_base.specs.Tokens.{Lexeme}
use Rattle.tsa_base.specs.Words.{is_reserved}
use Rattle.tsa_tree.specs.declared.attr.AttrKind.{AttrKind}
use Rattle.tsa_tree.specs.declared.attr.AttrKind.TheVariants as attr
use Rattle.tsa_tree.specs.declared.sign.Keyword.{Keyword}
use Rattle.tsa_tree.specs.declared.sign.Keyword.TheVariants as key
use Rattle.tsa_tree.specs.declared.sign.Sign.{Sign}
use Rattle.tsa_tree.specs.declared.sign.Sign.TheVariants as sign
use Rattle.tsa_tree.specs.attributes.Syntax.{unquoted, try_value}
use Rattle.tsa_tree.specs.tokens.Signs.{Aliases, word_signs, word_sign, sign_at, identifier_in, identifier_at, is_tag}
use Rattle.tsa_tree.specs.expressions.Sound.{is_tag_name, is_alias_name, is_name}
use Rattle.tsa_tree.proofs.tokens.ReservedWords.{not_listed}
use Rattle.tsa_print.specs.Canonical.{Piece, word, numeral, quoted, piece_text}
use Rattle.tsa_print.specs.DeclarationPieces.{macro_word}
use Rattle.tsa_print.proofs.PieceSigns.{Looks, seen}

abbrev pub keyword_text : Keyword → List ℕ
keyword_text key.Typedef = codes "typedef"
keyword_text key.Struct = codes "struct"
keyword_text key.Enum = codes "enum"
keyword_text key.Static = codes "static"
keyword_text key.Extern = codes "extern"
keyword_text key.Inline = codes "inline"
keyword_text key.Const = codes "const"
keyword_text key.Int = codes "int"
keyword_text key.Unsigned = codes "unsigned"
keyword_text key.Signed = codes "signed"
keyword_text key.Void = codes "void"
keyword_text key.If = codes "if"
keyword_text key.Else = codes "else"
keyword_text key.While = codes "while"
keyword_text key.Do = codes "do"
keyword_text key.For = codes "for"
keyword_text key.Switch = codes "switch"
keyword_text key.Case = codes "case"
keyword_text key.Default = codes "default"
keyword_text key.Break = codes "break"
keyword_text key.Continue = codes "continue"
keyword_text key.Goto = codes "goto"
keyword_text key.Return = codes "return"

keyword_sign : (aliases : Aliases) (k : Keyword) → word_sign aliases (keyword_text k) ≡ sign.Keyword k
unfolding word_sign word_signs
keyword_sign aliases key.Typedef = refl
keyword_sign aliases key.Struct = refl
keyword_sign aliases key.Enum = refl
keyword_sign aliases key.Static = refl
keyword_sign aliases key.Extern = refl
keyword_sign aliases key.Inline = refl
keyword_sign aliases key.Const = refl
keyword_sign aliases key.Int = refl
keyword_sign aliases key.Unsigned = refl
keyword_sign aliases key.Signed = refl
keyword_sign aliases key.Void = refl
keyword_sign aliases key.If = refl
keyword_sign aliases key.Else = refl
keyword_sign aliases key.While = refl
keyword_sign aliases key.Do = refl
keyword_sign aliases key.For = refl
keyword_sign aliases key.Switch = refl
keyword_sign aliases key.Case = refl
keyword_sign aliases key.Default = refl
keyword_sign aliases key.Break = refl
keyword_sign aliases key.Continue = refl
keyword_sign aliases key.Goto = refl
keyword_sign aliases key.Return = refl

macro_sign : (aliases : Aliases) (k : AttrKind) → word_sign aliases (macro_word k) ≡ sign.Macro k
unfolding word_sign word_signs
macro_sign aliases attr.Capability = refl
macro_sign aliases attr.GuardedBy = refl
macro_sign aliases attr.Requires = refl
macro_sign aliases attr.RequiresShared = refl
macro_sign aliases attr.Acquire = refl
macro_sign aliases attr.AcquireShared = refl
macro_sign aliases attr.Release = refl
macro_sign aliases attr.ReleaseShared = refl
macro_sign aliases attr.ReleaseGeneric = refl
macro_sign aliases attr.TryAcquire = refl
macro_sign aliases attr.TryAcquireShared = refl
macro_sign aliases attr.Excludes = refl
macro_sign aliases attr.AcquiredBefore = refl
macro_sign aliases attr.AcquiredAfter = refl

pub keyword_seen : (aliases : Aliases) (ts : List Lexeme) (i : ℕ) (k : Keyword) → Looks ts i (word (keyword_text k))
    → sign_at ts aliases i ≡ sign.Keyword k
keyword_seen aliases ts i k h = seen aliases ts i (word (keyword_text k)) h ∙ keyword_sign aliases k

pub macro_seen : (aliases : Aliases) (ts : List Lexeme) (i : ℕ) (k : AttrKind) → Looks ts i (word (macro_word k))
    → sign_at ts aliases i ≡ sign.Macro k
macro_seen aliases ts i k h = seen aliases ts i (word (macro_word k)) h ∙ macro_sign aliases k

abbrev of_type : Bool → Sign
of_type known = if known then sign.TypeName else sign.Name

-- a word that isn't reserved is the name of a type or another name
unreserved_sign : (aliases : Aliases) (text : List ℕ) → is_reserved text ≡ false → word_sign aliases text ≡ of_type (list_any (bytes_eq text) aliases)
unfolding word_sign
unreserved_sign aliases text r = let n = not_listed text r in rw (n, r) refl

tag_unreserved : (text : List ℕ) → is_tag_name text ≡ true → is_reserved text ≡ false
tag_unreserved [] e = cc
tag_unreserved (c ∷ cs) e =
    let parts = and_parts (is_letter c && list_all is_word_byte cs) _ e in
    let words = and_parts (not (is_reserved (c ∷ cs))) _ parts.1 in
    not-true _ words.0

pub tag_seen : (aliases : Aliases) (ts : List Lexeme) (i : ℕ) (text : List ℕ) → is_tag_name text ≡ true → Looks ts i (word text)
    → is_tag (sign_at ts aliases i) ≡ true
tag_seen aliases ts i text e h =
    ap is_tag (seen aliases ts i (word text) h ∙ unreserved_sign aliases text (tag_unreserved text e)) ∙ either (list_any (bytes_eq text) aliases)
  where
    either : (known : Bool) → is_tag (of_type known) ≡ true
    either true = refl
    either false = refl

pub alias_seen : (aliases : Aliases) (ts : List Lexeme) (i : ℕ) (text : List ℕ) → is_alias_name aliases text ≡ true → Looks ts i (word text)
    → sign_at ts aliases i ≡ sign.TypeName
alias_seen aliases ts i text e h =
    let parts = and_parts (is_name [] text) (list_any (bytes_eq text) aliases) e in
    seen aliases ts i (word text) h ∙ (unreserved_sign aliases text (tag_unreserved text parts.0) ∙ ap of_type parts.1)

pub text_so : (ts : List Lexeme) (i : ℕ) (p : Piece) → Looks ts i p → (identifier_at ts i).text ≡ piece_text p
unfolding identifier_at
text_so ts i p (t, at, kind, text) = ap (λ o. (identifier_in o).text) at ∙ text

unquoted_text : (text : List ℕ) → unquoted (34 ∷ (text ++ 34 ∷ [])) ≡ text
unquoted_text text =
    let two = length-append text (34 ∷ []) in
    let long : length (34 ∷ (text ++ 34 ∷ [])) - 2 ≡ length text = omega arith in
    ap (λ n. take n (text ++ 34 ∷ [])) long ∙ take-append_seam text (34 ∷ [])

-- between its quotes stands a text
pub quoted_so : (ts : List Lexeme) (i : ℕ) (text : List ℕ) → Looks ts i (quoted text) → unquoted (identifier_at ts i).text ≡ text
quoted_so ts i text h = ap unquoted (text_so ts i (quoted text) h) ∙ unquoted_text text

try_written : (result : Bool) → try_value (piece_text (numeral (if result then 1 else 0) false)) ≡ Some result
unfolding try_value
try_written true = rw (decimal_digit 1 (omega arith)) refl
try_written false = rw (decimal_digit 0 (omega arith)) refl

-- the result of a try is read as it is written
pub try_so : (ts : List Lexeme) (i : ℕ) (result : Bool) → Looks ts i (numeral (if result then 1 else 0) false)
    → try_value (identifier_at ts i).text ≡ Some result
try_so ts i result h = ap try_value (text_so ts i (numeral (if result then 1 else 0) false) h) ∙ try_written result
