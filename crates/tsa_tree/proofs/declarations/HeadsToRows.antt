-- The rows spell the parameters, heads, enumerators and struct bodies that the productions spell.
use Rattle.std.proofs.Common.{ℕ, ◌+◌, ◌≡◌, ap, refl, List, Bool, true, not, Some, None, arith}
use Rattle.tsa_base.specs.Tokens.{Lexeme}
use Rattle.tsa_base.proofs.Truths.{never_true as never}
use Rattle.tsa_tree.specs.declared.sign.Keyword.TheVariants as key
use Rattle.tsa_tree.specs.declared.sign.Sign.{Sign}
use Rattle.tsa_tree.specs.declared.sign.Sign.TheVariants as sign
use Rattle.tsa_tree.specs.declarations.Syntax.{Specified, Parameter, EnumConstant, Signature, StructBody, Head, head_of}
use Rattle.tsa_tree.specs.declarations.ItemSpelling.{parameter, parameter_start, IsParameter, of_named, of_unnamed, IsParameterList}
use Rattle.tsa_tree.specs.declarations.ItemSpelling.{of_last_parameter, of_further_parameter, IsParameters, no_parameter, of_lone_void}
use Rattle.tsa_tree.specs.declarations.ItemSpelling.{of_parameters, IsStorage, no_storage, of_storage, IsSignature, of_signature, IsHead}
use Rattle.tsa_tree.specs.declarations.ItemSpelling.{of_head, IsStructBody, of_struct_body, IsConstant, of_name_alone, of_name_and_value}
use Rattle.tsa_tree.specs.declarations.ItemSpelling.{IsConstants, of_last_constant, of_constant_and_comma, of_further_constant, IsEnumBody}
use Rattle.tsa_tree.specs.declarations.ItemSpelling.{of_enum_body}
use Rattle.tsa_tree.specs.tokens.Signs.{Aliases, sign_at, identifier_at, is_void, is_close}
use Rattle.tsa_tree.specs.Rows.{Sort, a_specifier, a_declarator, some_parameters, a_signature, a_head, a_struct_body, some_constants, Node}
use Rattle.tsa_tree.specs.Rows.{Call, specifier, declarator, parameter_list, parameters, signature, head, struct_body, constants, enum_body}
use Rattle.tsa_tree.specs.Rows.{a_name, a_close, a_comma, an_open_brace, a_close_brace, is_keyword, sees, Row, behind_storage}
use Rattle.tsa_tree.specs.Rows.{parameter_end, constants_end, rule}
use Rattle.tsa_tree.proofs.attributes.Facts.{both}
use Rattle.tsa_tree.proofs.declarations.ToRows.{specifier_rows, star_goes, declarator_rows, attributes_goes, members_rows}
use Rattle.tsa_tree.proofs.tokens.ProductionSigns.{seen}
use Rattle.tsa_tree.proofs.expressions.ToRows.{expression_rows}
use Rattle.tsa_grammar.specs.Form.{done, token, part, either}
use Rattle.tsa_grammar.specs.Spelling as forms
use Rattle.tsa_grammar.specs.Spelling.{by_rule, goes_done, goes_token, goes_part, goes_limit, goes_only, goes_left, goes_right}

void_keyword : (s : Sign) → is_void s ≡ true → is_keyword key.Void s ≡ true
void_keyword (sign.Keyword key.Void) e = refl
void_keyword _ e = never e

module _ (tokens : List Lexeme) (aliases : Aliases) (fits : ℕ → Bool) where
  abbrev Spells : (s : Sort) → Call s → Node s → (a b : ℕ) → Type 0
  Spells s c x a b = forms.Spells (rule tokens) (sees tokens) fits s c x a b

  abbrev Goes : (s : Sort) → Row s → Node s → (a b : ℕ) → Type 0
  Goes s f x a b = forms.Goes (rule tokens) (sees tokens) fits s f x a b

  sees_close : (m : ℕ) → sign_at tokens aliases m ≡ sign.Close → sees tokens (a_close aliases) m ≡ true
  sees_close m e = seen tokens aliases 6 m sign.Close e refl

  sees_comma : (m : ℕ) → sign_at tokens aliases m ≡ sign.Comma → sees tokens (a_comma aliases) m ≡ true
  sees_comma m e = seen tokens aliases 9 m sign.Comma e refl

  sees_name : (m : ℕ) → sign_at tokens aliases m ≡ sign.Name → sees tokens (a_name aliases) m ≡ true
  sees_name m e = seen tokens aliases 2 m sign.Name e refl

  sees_open_brace : (m : ℕ) → sign_at tokens aliases m ≡ sign.OpenBrace → sees tokens (an_open_brace aliases) m ≡ true
  sees_open_brace m e = seen tokens aliases 16 m sign.OpenBrace e refl

  sees_close_brace : (m : ℕ) → sign_at tokens aliases m ≡ sign.CloseBrace → sees tokens (a_close_brace aliases) m ≡ true
  sees_close_brace m e = seen tokens aliases 17 m sign.CloseBrace e refl

  -- heads -----------------------------------------------------------------------

  -- A row goes on after any number of storage words where it does after them all.
  pub storage_goes : {a m : ℕ} → IsStorage tokens aliases a m → {s : Sort} (end : Row s) (x : Node s) (b : ℕ)
      → Goes s end x m b → Goes s (behind_storage tokens aliases a end) x a b
  storage_goes no_storage end x b g = goes_right g
  storage_goes {m = m} (of_storage q i) end x b g =
      goes_left (goes_part (by_rule (goes_token q (storage_goes i (done tt) tt m goes_done))) g)

  -- what stands after the type of a parameter that begins at `start`, up to before m
  abbrev Starred : (start : ℕ) → Specified → (m : ℕ) → Bool → Bool → ℕ → Row some_parameters
  Starred start t m p c n =
      either (sees tokens (a_name aliases) n)
      (token (a_name aliases) (parameter_end tokens aliases (parameter tokens aliases t p c (Some (identifier_at tokens n)) m (n + 1)) (n + 1)))
      (parameter_end tokens aliases (parameter tokens aliases t p c None (parameter_start tokens aliases p start m) n) n)

  -- Parameters go on where what stands after the first one does.
  parameter_on : {x : Parameter} {a m : ℕ} → IsParameter tokens aliases x a m → (ys : List Parameter) (b : ℕ)
      → Goes some_parameters (parameter_end tokens aliases x m) ys m b → Spells some_parameters (parameter_list aliases) ys a b
  parameter_on {a = a} (of_named {t = t} {m = m} {n = n} type star name) ys b g =
      by_rule (goes_part (specifier_rows tokens aliases fits type)
      (star_goes tokens aliases fits star (Starred a t m) ys b (goes_left (goes_token (sees_name n name) g))))
  parameter_on {a = a} (of_unnamed {t = t} {m = m} type star) ys b g =
      by_rule (goes_part (specifier_rows tokens aliases fits type)
      (star_goes tokens aliases fits star (Starred a t m) ys b (goes_right g)))

  -- The rows spell parameters, one or more, with the parenthesis that closes them.
  pub parameter_list_rows : {xs : List Parameter} {a b : ℕ} → IsParameterList tokens aliases xs a b → sign_at tokens aliases b ≡ sign.Close
      → Spells some_parameters (parameter_list aliases) xs a (b + 1)
  parameter_list_rows {xs = xs} {b = b} (of_last_parameter i) close =
      parameter_on i xs (b + 1) (goes_right (goes_token (sees_close b close) goes_done))
  parameter_list_rows {xs = xs} {b = b} (of_further_parameter {m = m} i comma more) close =
      parameter_on i xs (b + 1) (goes_left (goes_token (sees_comma m comma) (goes_part (parameter_list_rows more close) goes_done)))

  -- The rows spell what stands between the parentheses of a function, with the second of them.
  pub parameters_rows : {xs : List Parameter} {a b : ℕ} → IsParameters tokens aliases xs a b → sign_at tokens aliases b ≡ sign.Close
      → Spells some_parameters (parameters aliases) xs a (b + 1)
  parameters_rows {b = b} no_parameter close = by_rule (goes_left (goes_token (sees_close b close) goes_done))
  parameters_rows {a = a} (of_lone_void lone) close =
      let parts = both (is_void (sign_at tokens aliases a)) (is_close (sign_at tokens aliases (a + 1))) lone in
      by_rule (goes_right (goes_left (goes_only lone (goes_token (void_keyword (sign_at tokens aliases a) parts.0)
      (goes_token (sees_close (a + 1) close) goes_done)))))
  parameters_rows (of_parameters not_lone i) close =
      by_rule (goes_right (goes_right (goes_only (ap not not_lone) (goes_part (parameter_list_rows i close) goes_done))))

  -- The rows spell parameters with both parentheses, and attributes.
  pub signature_rows : {s : Signature} {a b : ℕ} → IsSignature tokens aliases fits s a b → Spells a_signature (signature aliases) s a b
  signature_rows {s = s} {a = a} {b = b} (of_signature {ps = ps} q fit i close attrs) =
      by_rule (goes_left (goes_limit fit (goes_token (seen tokens aliases 5 a sign.Open q refl)
      (goes_part (parameters_rows i close)
      (attributes_goes tokens aliases fits attrs (λ xs e. done (record { params = ps; attrs = xs })) s b goes_done)))))

  -- a head after its storage words
  abbrev Headed : Row a_head
  Headed =
      part a_specifier (specifier aliases) (λ t n. part a_declarator (declarator aliases) (λ c e.
      part a_signature (signature aliases) (λ s f. done (head_of t c s))))

  -- The rows spell a head.
  pub head_rows : {h : Head} {a b : ℕ} → IsHead tokens aliases fits h a b → Spells a_head (head aliases) h a b
  head_rows {h = h} {b = b} (of_head stored type c s) =
      by_rule (storage_goes stored Headed h b (goes_part (specifier_rows tokens aliases fits type)
      (goes_part (declarator_rows tokens aliases fits c) (goes_part (signature_rows s) goes_done))))

  -- bodies ------------------------------------------------------------------------

  -- The rows spell members with both braces, and attributes.
  pub struct_body_rows : {x : StructBody} {a b : ℕ} → IsStructBody tokens aliases fits x a b → Spells a_struct_body (struct_body aliases) x a b
  struct_body_rows {x = x} {a = a} {b = b} (of_struct_body {ms = ms} q fit i close attrs) =
      by_rule (goes_left (goes_limit fit (goes_token (sees_open_brace a q)
      (goes_part (members_rows tokens aliases fits i close)
      (attributes_goes tokens aliases fits attrs (λ xs e. done (record { members = ms; attrs = xs })) x b goes_done)))))

  -- Enumerators go on where what stands after the first one does.
  constant_on : {x : EnumConstant} {a m : ℕ} → IsConstant tokens aliases fits x a m → (ys : List EnumConstant) (b : ℕ)
      → Goes some_constants (constants_end tokens aliases x m) ys m b → Spells some_constants (constants aliases) ys a b
  constant_on {a = a} (of_name_alone name) ys b g = by_rule (goes_token (sees_name a name) (goes_right g))
  constant_on {a = a} (of_name_and_value name equals i) ys b g =
      by_rule (goes_token (sees_name a name) (goes_left (goes_token (seen tokens aliases 23 (a + 1) sign.Equals equals refl)
      (goes_part (expression_rows tokens aliases fits i (omega arith)) g))))

  -- The rows spell enumerators with the brace that closes them.
  pub constants_rows : {xs : List EnumConstant} {a b : ℕ} → IsConstants tokens aliases fits xs a b
      → sign_at tokens aliases b ≡ sign.CloseBrace → Spells some_constants (constants aliases) xs a (b + 1)
  constants_rows {xs = xs} {b = b} (of_last_constant i) close =
      constant_on i xs (b + 1) (goes_right (goes_token (sees_close_brace b close) goes_done))
  constants_rows {xs = xs} (of_constant_and_comma {b = m} i comma) close =
      constant_on i xs (m + 1 + 1) (goes_left (goes_token (sees_comma m comma)
      (goes_left (goes_token (sees_close_brace (m + 1) close) goes_done))))
  constants_rows {xs = xs} {b = b} (of_further_constant {m = m} i comma more) close =
      constant_on i xs (b + 1) (goes_left (goes_token (sees_comma m comma)
      (goes_right (goes_part (constants_rows more close) goes_done))))

  -- The rows spell enumerators with both braces.
  pub enum_body_rows : {xs : List EnumConstant} {a b : ℕ} → IsEnumBody tokens aliases fits xs a b
      → Spells some_constants (enum_body aliases) xs a b
  enum_body_rows {a = a} (of_enum_body q fit i close) =
      by_rule (goes_left (goes_limit fit (goes_token (sees_open_brace a q) (goes_part (constants_rows i close) goes_done))))
