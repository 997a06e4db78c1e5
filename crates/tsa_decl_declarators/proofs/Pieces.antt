-- What rows with an optional piece give, by what the piece itself gives.
use Rattle.std.proofs.Common.{ℕ, ◌+◌, ◌≡◌, refl, Bool, true, false, List, [], Option, Some, None, Ok, Err}
use Rattle.tsa_base.specs.Tokens.{Lexeme}
use Rattle.tsa_grammar.specs.Reading.{Outcome, refuse, syntax, deep, then, choose}
use Rattle.tsa_tree.specs.declared.sign.Keyword.TheVariants as key
use Rattle.tsa_tree.specs.expressions.Answers.{below_limit}
use Rattle.tsa_tree.specs.attributes.Syntax.{Attribute}
use Rattle.tsa_tree.specs.attributes.Answers.{read_any}
use Rattle.tsa_tree.specs.expressions.Syntax.{Expression}
use Rattle.tsa_tree.specs.Reads.{read}
use Rattle.tsa_tree.specs.Rows.{Sort, an_expression, some_attributes, a_skip, Row, expression, attributes, consts, a_keyword}
use Rattle.tsa_tree.specs.Rows.{an_open_bracket, a_close_bracket, sees, is_attribute_sign, behind_consts, behind_star, behind_length}
use Rattle.tsa_tree.specs.Rows.{behind_attributes}
use Rattle.tsa_tree.specs.tokens.Signs.{Aliases, sign_at, is_star}
use Rattle.tsa_decl_declarators.specs.Outcomes.{going, consts_at, star_at, length_at}

flag-law : {A B : Type 0} (b : Bool) (r : Outcome A) (x : A) (m : ℕ) (f : Bool → ℕ → Outcome B)
    → choose b (then r (λ u n. f true n)) (f false m) ≡ then (choose b r (Ok (x, m))) (λ u n. f b n)
unfolding choose then
flag-law true r x m f = refl
flag-law false r x m f = refl

pub option-law : {A B : Type 0} (b : Bool) (r : Outcome A) (x : A) (m : ℕ) (f : A → ℕ → Outcome B)
    → choose b (then r f) (f x m) ≡ then (choose b r (Ok (x, m))) f
unfolding choose then
option-law true r x m f = refl
option-law false r x m f = refl

star-law : {B : Type 0} (s c : Bool) (m : ℕ) (f : Bool → Bool → ℕ → Outcome B)
    → choose s (choose s (choose c (choose c (f true true (m + 1 + 1)) (Err (refuse syntax (m + 1)))) (f true false (m + 1))) (Err (refuse syntax m)))
    (f false false m)
    ≡ (let star : Bool × Bool × ℕ = choose s (choose c (true, true, m + 1 + 1) (true, false, m + 1)) (false, false, m) in f star.0 star.1 star.2)
unfolding choose
star-law true true m f = refl
star-law true false m f = refl
star-law false c m f = refl

close-law : {B : Type 0} (b : Bool) (x : Expression) (n : ℕ) (f : Option Expression → ℕ → Outcome B)
    → choose b (f (Some x) (n + 1)) (Err (refuse syntax n)) ≡ then (choose b (Ok (Some x, n + 1)) (Err (refuse syntax n))) f
unfolding choose then
close-law true x n f = refl
close-law false x n f = refl

closed-law : {B : Type 0} (r : Outcome Expression) (close : ℕ → Bool) (f : Option Expression → ℕ → Outcome B)
    → then r (λ x n. choose (close n) (f (Some x) (n + 1)) (Err (refuse syntax n)))
    ≡ then (then r (λ x n. choose (close n) (Ok (Some x, n + 1)) (Err (refuse syntax n)))) f
unfolding then
closed-law (Ok p) close f = close-law (close p.1) p.0 p.1 f
closed-law (Err e) close f = refl

length-law : {B : Type 0} (o l : Bool) (m : ℕ) (r : Outcome Expression) (close : ℕ → Bool) (f : Option Expression → ℕ → Outcome B)
    → choose o
    (choose l (choose o (then r (λ x n. choose (close n) (f (Some x) (n + 1)) (Err (refuse syntax n)))) (Err (refuse syntax m))) (Err (refuse deep m)))
    (f None m)
    ≡ then
    (choose o (choose l (then r (λ x n. choose (close n) (Ok (Some x, n + 1)) (Err (refuse syntax n)))) (Err (refuse deep m))) (Ok (None, m)))
    f
unfolding choose then
length-law true true m r close f = closed-law r close f
length-law true false m r close f = refl
length-law false l m r close f = refl

module _ (ts : List Lexeme) (aliases : Aliases) where
  pub consts_then : (s : Sort) (m : ℕ) (end : Bool → ℕ → Row s)
      → going ts s (behind_consts ts aliases m end) m
      ≡ then (consts_at ts aliases m) (λ u n. going ts s (end (sees ts (a_keyword aliases key.Const) m) n) n)
  unfolding consts_at
  consts_then s m end =
      flag-law (sees ts (a_keyword aliases key.Const) m) (read ts a_skip (consts aliases) m) tt m (λ c n. going ts s (end c n) n)

  pub star_then : (s : Sort) (m : ℕ) (end : Bool → Bool → ℕ → Row s)
      → going ts s (behind_star ts aliases m end) m
      ≡ (let star = star_at ts aliases m in going ts s (end star.0 star.1 star.2) star.2)
  unfolding star_at
  star_then s m end =
      star-law (is_star (sign_at ts aliases m)) (sees ts (a_keyword aliases key.Const) (m + 1)) m (λ p c n. going ts s (end p c n) n)

  pub length_then : (s : Sort) (d m : ℕ) (end : Option Expression → ℕ → Row s)
      → going ts s (behind_length ts aliases d m end) m ≡ then (length_at ts aliases d m) (λ l n. going ts s (end l n) n)
  unfolding length_at
  length_then s d m end =
      length-law (sees ts (an_open_bracket aliases) m) (below_limit d) m (read ts an_expression (expression aliases (d + 1) 0) (m + 1))
      (λ n. sees ts (a_close_bracket aliases) n) (λ l n. going ts s (end l n) n)

  pub attributes_then : (s : Sort) (d m : ℕ) (end : List Attribute → ℕ → Row s)
      → going ts s (behind_attributes ts aliases d m end) m ≡ then (read_any ts aliases d m) (λ xs n. going ts s (end xs n) n)
  unfolding read_any
  attributes_then s d m end =
      option-law (is_attribute_sign (sign_at ts aliases m)) (read ts some_attributes (attributes aliases d) m) [] m (λ xs n. going ts s (end xs n) n)
