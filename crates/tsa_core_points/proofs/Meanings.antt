-- What an expression means doesn't depend on how many locals there are.
use Rattle.std.proofs.Common.{ℕ, ◌≡◌, List, [], ◌∷◌, Option, Some, None, refl, ap, ap₂}
use Rattle.tsa_tree.specs.declared.expr.BinaryOp.TheVariants.{Or, And, BitOr, BitXor, BitAnd, Equal, Unequal, Less, More, LessEqual}
use Rattle.tsa_tree.specs.declared.expr.BinaryOp.TheVariants.{MoreEqual, Plus, Minus, Times, Divide, Remainder}
use Rattle.tsa_tree.specs.declared.expr.UnaryOp.TheVariants as prefix
use Rattle.tsa_tree.specs.declared.kind.Kind.{Kind}
use Rattle.tsa_tree.specs.declared.kind.ThingType.{ThingType}
use Rattle.tsa_tree.specs.declared.meaning.Entry.{Entry}
use Rattle.tsa_tree.specs.declared.meaning.Meaning.{Meaning}
use Rattle.tsa_tree.specs.declared.meaning.Meaning.TheVariants as known
use Rattle.tsa_tree.specs.expressions.Syntax.{Expression, Arguments, number, null, named, call, unary, binary, field, index, none, more}
use Rattle.tsa_tree.specs.points.Syntax.{Deed, declares, evaluates, assigns, tests, switches, jumps, idles, returns, ends}
use Rattle.tsa_tree.specs.types.Scopes.{Scope, known_in, with_locals}
use Rattle.tsa_tree.specs.types.Lookups.{params_in}
use Rattle.tsa_core.specs.Bodies.{knows, point, test, point_of}
use Rattle.tsa_core.specs.Meanings.{meaning, of_prefix, of_binary, of_field, of_index, arguments, as_kind, loaded, call_of, or_call}
use Rattle.tsa_core.specs.Meanings.{call_in}
use Rattle.tsa_core_points.specs.CoreLaws.{seen_at}

module _ (here : Scope) (n : ℕ) where
  abbrev there : Scope
  there = with_locals n here

  pub meaning_kept : (e : Expression) → meaning there e ≡ meaning here e
  unfolding meaning
  meaning_kept (number v u span) = refl
  meaning_kept (null span) = refl
  meaning_kept (named name span) = refl
  meaning_kept (call callee args span) = refl
  meaning_kept (unary o inner span) = ap (of_prefix o) (meaning_kept inner)
  meaning_kept (binary o left right span) = ap₂ (of_binary o) (meaning_kept left) (meaning_kept right)
  meaning_kept (field base name arrow span) = ap (of_field here arrow name.text) (meaning_kept base)
  meaning_kept (index base at span) = ap₂ of_index (meaning_kept base) (meaning_kept at)

  arguments_kept : (params : List ThingType) (args : Arguments) → arguments there params args ≡ arguments here params args
  unfolding arguments
  arguments_kept [] args = refl
  arguments_kept (p ∷ params) none = refl
  arguments_kept (p ∷ params) (more e rest) = ap₂ (λ s ts. as_kind p.kind s ∷ ts) (meaning_kept e) (arguments_kept params rest)

  called_kept : (args : Arguments) (e : Option Entry) → call_of there args e ≡ call_of here args e
  called_kept args None = refl
  called_kept args (Some e) = by e.meaning e.thing
    where
      by : (m : Meaning) (t : ThingType) → call_of there args (Some (record { meaning = m; thing = t })) ≡ call_of here args (Some (record { meaning = m; thing = t }))
      by (known.Function f) t = ap (λ ts. Some (record { function = f; args = ts })) (arguments_kept (params_in here f) args)
      by (known.Global g) t = refl
      by (known.Local l) t = refl
      by known.Owned t = refl
      by (known.Constant z) t = refl
      by known.TypeName t = refl

  call_kept : (e : Expression) → call_in there e ≡ call_in here e
  unfolding call_in
  call_kept (number v u span) = refl
  call_kept (null span) = refl
  call_kept (named name span) = refl
  call_kept (call callee args span) = called_kept args (known_in here callee.text)
  call_kept (unary prefix.Not inner span) = call_kept inner
  call_kept (unary prefix.Minus inner span) = refl
  call_kept (unary prefix.Flip inner span) = refl
  call_kept (unary prefix.Address inner span) = refl
  call_kept (unary prefix.Follow inner span) = refl
  call_kept (binary Equal left right span) = ap₂ or_call (call_kept left) (call_kept right)
  call_kept (binary Unequal left right span) = ap₂ or_call (call_kept left) (call_kept right)
  call_kept (binary Or left right span) = refl
  call_kept (binary And left right span) = refl
  call_kept (binary BitOr left right span) = refl
  call_kept (binary BitXor left right span) = refl
  call_kept (binary BitAnd left right span) = refl
  call_kept (binary Less left right span) = refl
  call_kept (binary More left right span) = refl
  call_kept (binary LessEqual left right span) = refl
  call_kept (binary MoreEqual left right span) = refl
  call_kept (binary Plus left right span) = refl
  call_kept (binary Minus left right span) = refl
  call_kept (binary Times left right span) = refl
  call_kept (binary Divide left right span) = refl
  call_kept (binary Remainder left right span) = refl
  call_kept (field base name arrow span) = refl
  call_kept (index base at span) = refl

pub point_kept : (result : Kind) (here : Scope) (d : Deed) → point_of result (seen_at (knows here d)) ≡ point_of result (knows here d)
point_kept result here (declares d) = refl
point_kept result here (evaluates e) = refl
point_kept result here (assigns left o right) = refl
point_kept result here (tests None) = refl
point_kept result here (tests (Some e)) = ap₂ (λ c s. point c (test (loaded s))) (call_kept here 0 e) (meaning_kept here 0 e)
point_kept result here (switches e) = refl
point_kept result here jumps = refl
point_kept result here idles = refl
point_kept result here (returns e) = refl
point_kept result here ends = refl
