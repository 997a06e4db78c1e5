-- Attributes as they are written, with what reading gives, and lists that are refused.
use Rattle.std.specs.Prelude.{ℕ, ◌≡◌, List, [], ◌∷◌, Bool, true, false, Some, None, Ok, Err, codes, map}
use Rattle.std.specs.declared.option.Option.{Option}
use Rattle.std.specs.declared.result.Result.{Result}
use Rattle.tsa_base.specs.Tokens.{Lexeme, BadByte, tokens_of}
use Rattle.tsa_tree.specs.declared.attr.AttrKind.{AttrKind}
use Rattle.tsa_tree.specs.declared.attr.AttrKind.TheVariants as attr
use Rattle.tsa_tree.specs.declared.expr.UnaryOp.TheVariants.{Not}
use Rattle.tsa_tree.specs.attributes.Answers.{read_any}
use Rattle.tsa_tree.specs.attributes.Refusals.{left_out, lacking}
use Rattle.tsa_tree.specs.attributes.Syntax.{Attribute, plain_attribute}
use Rattle.tsa_tree.specs.expressions.Examples.{name, word}
use Rattle.tsa_tree.specs.expressions.Syntax.{Arguments, unary, field, none, more, nowhere}
use Rattle.tsa_grammar.specs.Reading.{syntax, deep, barred, refuse, Outcome}

abbrev spanless : Outcome (List Attribute) → Outcome (List Attribute)
spanless (Ok found) = Ok (map plain_attribute found.0, found.1)
spanless (Err refusal) = Err refusal

abbrev attributes_in : ℕ → Outcome (List Attribute) → Result (List Lexeme) BadByte → Outcome (List Attribute)
attributes_in depth other (Ok tokens) = read_any tokens [] depth 0
attributes_in depth other (Err bad) = other

-- what reading attributes from the first token of a text on gives, but for spans, where so many constructs are open
abbrev pub reads : ℕ → List ℕ → Outcome (List Attribute)
reads depth text = spanless (attributes_in depth (Err (refuse syntax 0)) (tokens_of text))

abbrev pub names : AttrKind → Option Bool → Arguments → Attribute
names kind success args = record { kind = kind; text = None; success = success; args = args; span = nowhere }

abbrev pub one : List ℕ → Arguments
one text = more (name text) none

pub record AttributesAreRead : Type 0 where
  pub nothing : reads 0 (codes "x") ≡ Ok ([], 0)
  pub capability : reads 0 (codes "CAPABILITY(\"mutex\")") ≡ Ok (record { kind = attr.Capability; text = Some (codes "mutex"); success = None; args = none; span = nowhere } ∷ [], 4)
  pub guarded_by : reads 0 (codes "GUARDED_BY(mu)") ≡ Ok (names attr.GuardedBy None (one (codes "mu")) ∷ [], 4)
  pub requires_two : reads 0 (codes "REQUIRES(a,b.c)") ≡ Ok (names attr.Requires None (more (name (codes "a")) (more (field (name (codes "b")) (word (codes "c")) false nowhere) none)) ∷ [], 8)
  pub tried : reads 0 (codes "TRY_ACQUIRE(true,m)") ≡ Ok (names attr.TryAcquire (Some true) (one (codes "m")) ∷ [], 6)
  pub tried_0 : reads 0 (codes "TRY_ACQUIRE_SHARED(0,m)") ≡ Ok (names attr.TryAcquireShared (Some false) (one (codes "m")) ∷ [], 6)
  pub two_groups : reads 0 (codes "ACQUIRE(a)EXCLUDES(b)") ≡ Ok (names attr.Acquire None (one (codes "a")) ∷ names attr.Excludes None (one (codes "b")) ∷ [], 8)
  pub in_list : reads 0 (codes "__attribute__((guarded_by(mu),unused))") ≡ Ok (names attr.GuardedBy None (one (codes "mu")) ∷ [], 11)
  pub underscores : reads 0 (codes "__attribute__((__locks_excluded__(m)))") ≡ Ok (names attr.Excludes None (one (codes "m")) ∷ [], 9)
  pub balanced : reads 0 (codes "__attribute__((aligned(8),foo({[(x)]})))") ≡ Ok ([], 20)
  pub no_entries : reads 0 (codes "__attribute__(())") ≡ Ok ([], 5)
  pub macro_inside : reads 0 (codes "__attribute__((CAPABILITY(\"x\"),const))") ≡ Ok ([], 11)
  pub before_two : reads 0 (codes "ACQUIRED_BEFORE(a,b)") ≡ Ok (names attr.AcquiredBefore None (more (name (codes "a")) (one (codes "b"))) ∷ [], 6)
  pub after_one : reads 0 (codes "__attribute__((acquired_after(m)))") ≡ Ok (names attr.AcquiredAfter None (one (codes "m")) ∷ [], 9)
  -- what requires of each lock that it isn't held
  pub not_held : reads 0 (codes "REQUIRES(!a,!b)") ≡ Ok (names attr.Excludes None (more (name (codes "a")) (one (codes "b"))) ∷ [], 8)
  pub not_held_word : reads 0 (codes "__attribute__((requires_capability((!m))))") ≡ Ok (names attr.Excludes None (one (codes "m")) ∷ [], 12)
  pub held_and_not : reads 0 (codes "REQUIRES(a,!b)") ≡ Ok (names attr.Requires None (more (name (codes "a")) (more (unary Not (name (codes "b")) nowhere) none)) ∷ [], 7)
  pub not_held_shared : reads 0 (codes "REQUIRES_SHARED(!b)") ≡ Ok (names attr.RequiresShared None (more (unary Not (name (codes "b")) nowhere) none) ∷ [], 5)
  -- attributes that are left out
  pub macro_left_out : reads 0 (codes "PT_GUARDED_BY(") ≡ Err (refuse (barred left_out) 0)
  pub entry_left_out : reads 0 (codes "__attribute__((a,lockable))") ≡ Err (refuse (barred left_out) 5)
  pub macro_left_out_inside : reads 0 (codes "__attribute__((SCOPED_CAPABILITY))") ≡ Err (refuse (barred left_out) 3)
  pub left_out_behind : reads 0 (codes "EXCLUDES(a)RETURN_CAPABILITY(b)") ≡ Err (refuse (barred left_out) 4)
  -- attributes without their argument
  pub no_parenthesis : reads 0 (codes "GUARDED_BY;") ≡ Err (refuse (barred lacking) 0)
  pub nothing_inside : reads 0 (codes "RELEASE()") ≡ Err (refuse (barred lacking) 0)
  pub nothing_before : reads 0 (codes "ACQUIRED_BEFORE()") ≡ Err (refuse (barred lacking) 0)
  pub result_alone : reads 0 (codes "TRY_ACQUIRE(1)") ≡ Err (refuse (barred lacking) 0)
  pub entry_lacks : reads 0 (codes "__attribute__((acquire_capability))") ≡ Err (refuse (barred lacking) 3)
  -- lists that break off, or go on wrong
  pub at_the_end : reads 0 (codes "GUARDED_BY") ≡ Err (refuse syntax 1)
  pub not_closed : reads 0 (codes "GUARDED_BY(a") ≡ Err (refuse syntax 3)
  pub two_guards : reads 0 (codes "GUARDED_BY(a,b)") ≡ Err (refuse syntax 3)
  pub odd_result : reads 0 (codes "TRY_ACQUIRE(0x1,m)") ≡ Err (refuse syntax 2)
  pub two_commas : reads 0 (codes "__attribute__((a,,b))") ≡ Err (refuse syntax 5)
  pub unbalanced : reads 0 (codes "__attribute__((a([)]))") ≡ Err (refuse syntax 6)
  -- too many constructs are open
  pub deep_macro : reads 100 (codes "GUARDED_BY(a)") ≡ Err (refuse deep 1)
  pub deep_list : reads 99 (codes "__attribute__((a))") ≡ Err (refuse deep 2)
  pub deep_balanced : reads 97 (codes "__attribute__((a(())))") ≡ Err (refuse deep 5)
