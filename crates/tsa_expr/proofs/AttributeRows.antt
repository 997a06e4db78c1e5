-- Names of attributes, by their lengths.
use Rattle.std.proofs.Common.{◌≡◌, ◌≢◌, ℕ, List, [], ◌∷◌, None, length, refl, sym, ◌∙◌}
use Rattle.std.specs.Prelude.{codes}
use Rattle.tsa_tree.specs.declared.attr.AttrKind.TheVariants as attr
use Rattle.tsa_tree.specs.declared.sign.Meaning.TheVariants as mean
use Rattle.tsa_tree.specs.tokens.Signs.{listed, attribute_names}
use Rattle.tsa_expr.proofs.ListedRows.{of_length}
use Rattle.tsa_lex.proofs.Words.{differ}

pub of_eight : (text : List ℕ) → length text ≡ 8 → listed ((codes "lockable", mean.LeftOut) ∷ []) text ≡ listed attribute_names text
unfolding attribute_names
of_eight text long = of_length attribute_names text 8 long

pub of_ten : (text : List ℕ) → length text ≡ 10 → listed ((codes "capability", mean.Known attr.Capability) ∷ (codes "guarded_by", mean.Known attr.GuardedBy) ∷ []) text ≡ listed attribute_names text
unfolding attribute_names
of_ten text long = of_length attribute_names text 10 long

pub of_eleven : (text : List ℕ) → length text ≡ 11 → listed ((codes "guarded_var", mean.LeftOut) ∷ []) text ≡ listed attribute_names text
unfolding attribute_names
of_eleven text long = of_length attribute_names text 11 long

pub of_thirteen : (text : List ℕ) → length text ≡ 13 → listed ((codes "pt_guarded_by", mean.LeftOut) ∷ (codes "lock_returned", mean.LeftOut) ∷ []) text ≡ listed attribute_names text
unfolding attribute_names
of_thirteen text long = of_length attribute_names text 13 long

pub of_fourteen : (text : List ℕ) → length text ≡ 14 → listed ((codes "locks_excluded", mean.Known attr.Excludes) ∷ (codes "acquired_after", mean.Known attr.AcquiredAfter) ∷ (codes "pt_guarded_var", mean.LeftOut) ∷ []) text ≡ listed attribute_names text
unfolding attribute_names
of_fourteen text long = of_length attribute_names text 14 long

pub of_fifteen : (text : List ℕ) → length text ≡ 15 → listed ((codes "acquired_before", mean.Known attr.AcquiredBefore) ∷ (codes "scoped_lockable", mean.LeftOut) ∷ (codes "unlock_function", mean.LeftOut) ∷ []) text ≡ listed attribute_names text
unfolding attribute_names
of_fifteen text long = of_length attribute_names text 15 long

pub of_seventeen : (text : List ℕ) → length text ≡ 17 → listed ((codes "assert_capability", mean.LeftOut) ∷ []) text ≡ listed attribute_names text
unfolding attribute_names
of_seventeen text long = of_length attribute_names text 17 long

pub of_eighteen : (text : List ℕ) → length text ≡ 18 → listed ((codes "acquire_capability", mean.Known attr.Acquire) ∷ (codes "release_capability", mean.Known attr.Release) ∷ (codes "assert_shared_lock", mean.LeftOut) ∷ []) text ≡ listed attribute_names text
unfolding attribute_names
of_eighteen text long = of_length attribute_names text 18 long

pub of_nineteen : (text : List ℕ) → length text ≡ 19 → listed ((codes "requires_capability", mean.Known attr.Requires) ∷ []) text ≡ listed attribute_names text
unfolding attribute_names
of_nineteen text long = of_length attribute_names text 19 long

pub of_twenty : (text : List ℕ) → length text ≡ 20 → listed ((codes "shared_lock_function", mean.LeftOut) ∷ []) text ≡ listed attribute_names text
unfolding attribute_names
of_twenty text long = of_length attribute_names text 20 long

pub of_twenty_one : (text : List ℕ) → length text ≡ 21 → listed ((codes "shared_locks_required", mean.LeftOut) ∷ (codes "assert_exclusive_lock", mean.LeftOut) ∷ []) text ≡ listed attribute_names text
unfolding attribute_names
of_twenty_one text long = of_length attribute_names text 21 long

pub of_twenty_two : (text : List ℕ) → length text ≡ 22 → listed ((codes "try_acquire_capability", mean.Known attr.TryAcquire) ∷ []) text ≡ listed attribute_names text
unfolding attribute_names
of_twenty_two text long = of_length attribute_names text 22 long

pub of_twenty_three : (text : List ℕ) → length text ≡ 23 → listed ((codes "exclusive_lock_function", mean.LeftOut) ∷ (codes "shared_trylock_function", mean.LeftOut) ∷ []) text ≡ listed attribute_names text
unfolding attribute_names
of_twenty_three text long = of_length attribute_names text 23 long

pub of_twenty_four : (text : List ℕ) → length text ≡ 24 → listed ((codes "assert_shared_capability", mean.LeftOut) ∷ (codes "exclusive_locks_required", mean.LeftOut) ∷ []) text ≡ listed attribute_names text
unfolding attribute_names
of_twenty_four text long = of_length attribute_names text 24 long

pub of_twenty_five : (text : List ℕ) → length text ≡ 25 → listed ((codes "acquire_shared_capability", mean.Known attr.AcquireShared) ∷ (codes "release_shared_capability", mean.Known attr.ReleaseShared) ∷ (codes "no_thread_safety_analysis", mean.LeftOut) ∷ []) text ≡ listed attribute_names text
unfolding attribute_names
of_twenty_five text long = of_length attribute_names text 25 long

pub of_twenty_six : (text : List ℕ) → length text ≡ 26 → listed ((codes "requires_shared_capability", mean.Known attr.RequiresShared) ∷ (codes "release_generic_capability", mean.Known attr.ReleaseGeneric) ∷ (codes "exclusive_trylock_function", mean.LeftOut) ∷ []) text ≡ listed attribute_names text
unfolding attribute_names
of_twenty_six text long = of_length attribute_names text 26 long

pub of_twenty_nine : (text : List ℕ) → length text ≡ 29 → listed ((codes "try_acquire_shared_capability", mean.Known attr.TryAcquireShared) ∷ []) text ≡ listed attribute_names text
unfolding attribute_names
of_twenty_nine text long = of_length attribute_names text 29 long

pub of_no_length : (text : List ℕ) → length text ≢ 8 → length text ≢ 10 → length text ≢ 11 → length text ≢ 13 → length text ≢ 14 → length text ≢ 15 → length text ≢ 17 → length text ≢ 18 → length text ≢ 19 → length text ≢ 20 → length text ≢ 21 → length text ≢ 22 → length text ≢ 23 → length text ≢ 24 → length text ≢ 25 → length text ≢ 26 → length text ≢ 29 → listed attribute_names text ≡ None
unfolding attribute_names
of_no_length text n8 n10 n11 n13 n14 n15 n17 n18 n19 n20 n21 n22 n23 n24 n25 n26 n29 =
    sym (of_length attribute_names text (length text) refl) ∙ simp (differ 8 (length text) n8, differ 10 (length text) n10, differ 11 (length text) n11, differ 13 (length text) n13, differ 14 (length text) n14, differ 15 (length text) n15, differ 17 (length text) n17, differ 18 (length text) n18, differ 19 (length text) n19, differ 20 (length text) n20, differ 21 (length text) n21, differ 22 (length text) n22, differ 23 (length text) n23, differ 24 (length text) n24, differ 25 (length text) n25, differ 26 (length text) n26, differ 29 (length text) n29)
