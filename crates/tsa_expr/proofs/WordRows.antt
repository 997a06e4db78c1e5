-- Words with a meaning, by their lengths.
use Rattle.std.proofs.Common.{◌≡◌, ◌≢◌, ℕ, List, [], ◌∷◌, None, length, refl, sym, ◌∙◌}
use Rattle.std.specs.Prelude.{codes}
use Rattle.tsa_tree.specs.declared.attr.AttrKind.TheVariants as attr
use Rattle.tsa_tree.specs.declared.sign.Keyword.TheVariants as key
use Rattle.tsa_tree.specs.declared.sign.Sign.TheVariants as sign
use Rattle.tsa_tree.specs.tokens.Signs.{listed, word_signs}
use Rattle.tsa_expr.proofs.ListedRows.{of_length}
use Rattle.tsa_lex.proofs.Words.{differ}

pub of_two : (text : List ℕ) → length text ≡ 2 → listed ((codes "if", sign.Keyword key.If) ∷ (codes "do", sign.Keyword key.Do) ∷ []) text ≡ listed word_signs text
unfolding word_signs
of_two text long = of_length word_signs text 2 long

pub of_three : (text : List ℕ) → length text ≡ 3 → listed ((codes "int", sign.Keyword key.Int) ∷ (codes "for", sign.Keyword key.For) ∷ []) text ≡ listed word_signs text
unfolding word_signs
of_three text long = of_length word_signs text 3 long

pub of_four : (text : List ℕ) → length text ≡ 4 → listed ((codes "enum", sign.Keyword key.Enum) ∷ (codes "void", sign.Keyword key.Void) ∷ (codes "else", sign.Keyword key.Else) ∷ (codes "case", sign.Keyword key.Case) ∷ (codes "goto", sign.Keyword key.Goto) ∷ (codes "NULL", sign.Null) ∷ []) text ≡ listed word_signs text
unfolding word_signs
of_four text long = of_length word_signs text 4 long

pub of_five : (text : List ℕ) → length text ≡ 5 → listed ((codes "const", sign.Keyword key.Const) ∷ (codes "while", sign.Keyword key.While) ∷ (codes "break", sign.Keyword key.Break) ∷ []) text ≡ listed word_signs text
unfolding word_signs
of_five text long = of_length word_signs text 5 long

pub of_six : (text : List ℕ) → length text ≡ 6 → listed ((codes "struct", sign.Keyword key.Struct) ∷ (codes "static", sign.Keyword key.Static) ∷ (codes "extern", sign.Keyword key.Extern) ∷ (codes "inline", sign.Keyword key.Inline) ∷ (codes "signed", sign.Keyword key.Signed) ∷ (codes "switch", sign.Keyword key.Switch) ∷ (codes "return", sign.Keyword key.Return) ∷ []) text ≡ listed word_signs text
unfolding word_signs
of_six text long = of_length word_signs text 6 long

pub of_seven : (text : List ℕ) → length text ≡ 7 → listed ((codes "typedef", sign.Keyword key.Typedef) ∷ (codes "default", sign.Keyword key.Default) ∷ (codes "ACQUIRE", sign.Macro attr.Acquire) ∷ (codes "RELEASE", sign.Macro attr.Release) ∷ []) text ≡ listed word_signs text
unfolding word_signs
of_seven text long = of_length word_signs text 7 long

pub of_eight : (text : List ℕ) → length text ≡ 8 → listed ((codes "unsigned", sign.Keyword key.Unsigned) ∷ (codes "continue", sign.Keyword key.Continue) ∷ (codes "REQUIRES", sign.Macro attr.Requires) ∷ (codes "EXCLUDES", sign.Macro attr.Excludes) ∷ []) text ≡ listed word_signs text
unfolding word_signs
of_eight text long = of_length word_signs text 8 long

pub of_ten : (text : List ℕ) → length text ≡ 10 → listed ((codes "CAPABILITY", sign.Macro attr.Capability) ∷ (codes "GUARDED_BY", sign.Macro attr.GuardedBy) ∷ []) text ≡ listed word_signs text
unfolding word_signs
of_ten text long = of_length word_signs text 10 long

pub of_eleven : (text : List ℕ) → length text ≡ 11 → listed ((codes "TRY_ACQUIRE", sign.Macro attr.TryAcquire) ∷ []) text ≡ listed word_signs text
unfolding word_signs
of_eleven text long = of_length word_signs text 11 long

pub of_thirteen : (text : List ℕ) → length text ≡ 13 → listed ((codes "__attribute__", sign.Attribute) ∷ (codes "PT_GUARDED_BY", sign.LeftOutMacro) ∷ []) text ≡ listed word_signs text
unfolding word_signs
of_thirteen text long = of_length word_signs text 13 long

pub of_fourteen : (text : List ℕ) → length text ≡ 14 → listed ((codes "ACQUIRE_SHARED", sign.Macro attr.AcquireShared) ∷ (codes "RELEASE_SHARED", sign.Macro attr.ReleaseShared) ∷ (codes "ACQUIRED_AFTER", sign.Macro attr.AcquiredAfter) ∷ []) text ≡ listed word_signs text
unfolding word_signs
of_fourteen text long = of_length word_signs text 14 long

pub of_fifteen : (text : List ℕ) → length text ≡ 15 → listed ((codes "REQUIRES_SHARED", sign.Macro attr.RequiresShared) ∷ (codes "RELEASE_GENERIC", sign.Macro attr.ReleaseGeneric) ∷ (codes "ACQUIRED_BEFORE", sign.Macro attr.AcquiredBefore) ∷ []) text ≡ listed word_signs text
unfolding word_signs
of_fifteen text long = of_length word_signs text 15 long

pub of_seventeen : (text : List ℕ) → length text ≡ 17 → listed ((codes "RETURN_CAPABILITY", sign.LeftOutMacro) ∷ (codes "ASSERT_CAPABILITY", sign.LeftOutMacro) ∷ (codes "SCOPED_CAPABILITY", sign.LeftOutMacro) ∷ []) text ≡ listed word_signs text
unfolding word_signs
of_seventeen text long = of_length word_signs text 17 long

pub of_eighteen : (text : List ℕ) → length text ≡ 18 → listed ((codes "TRY_ACQUIRE_SHARED", sign.Macro attr.TryAcquireShared) ∷ []) text ≡ listed word_signs text
unfolding word_signs
of_eighteen text long = of_length word_signs text 18 long

pub of_twenty_four : (text : List ℕ) → length text ≡ 24 → listed ((codes "ASSERT_SHARED_CAPABILITY", sign.LeftOutMacro) ∷ []) text ≡ listed word_signs text
unfolding word_signs
of_twenty_four text long = of_length word_signs text 24 long

pub of_twenty_five : (text : List ℕ) → length text ≡ 25 → listed ((codes "NO_THREAD_SAFETY_ANALYSIS", sign.LeftOutMacro) ∷ []) text ≡ listed word_signs text
unfolding word_signs
of_twenty_five text long = of_length word_signs text 25 long

pub of_no_length : (text : List ℕ) → length text ≢ 2 → length text ≢ 3 → length text ≢ 4 → length text ≢ 5 → length text ≢ 6 → length text ≢ 7 → length text ≢ 8 → length text ≢ 10 → length text ≢ 11 → length text ≢ 13 → length text ≢ 14 → length text ≢ 15 → length text ≢ 17 → length text ≢ 18 → length text ≢ 24 → length text ≢ 25 → listed word_signs text ≡ None
unfolding word_signs
of_no_length text n2 n3 n4 n5 n6 n7 n8 n10 n11 n13 n14 n15 n17 n18 n24 n25 =
    sym (of_length word_signs text (length text) refl) ∙ simp (differ 2 (length text) n2, differ 3 (length text) n3, differ 4 (length text) n4, differ 5 (length text) n5, differ 6 (length text) n6, differ 7 (length text) n7, differ 8 (length text) n8, differ 10 (length text) n10, differ 11 (length text) n11, differ 13 (length text) n13, differ 14 (length text) n14, differ 15 (length text) n15, differ 17 (length text) n17, differ 18 (length text) n18, differ 24 (length text) n24, differ 25 (length text) n25)
