-- Values that cells may hold, where pointers may point to some places alone.
use Rattle.std.proofs.Common.{◌≡◌, ◌∙◌, ℕ, ◌^◌, nat_lt, Bool, true, false, not, ◌&&◌, ◌||◌, List, ◌++◌, Option, Some, None, slice_get, refl}
use Rattle.std.proofs.Common.{sym, ap}
use Rattle.tsa_base.specs.declared.value.Value.{Value}
use Rattle.tsa_base.specs.declared.value.Value.TheVariants.{Int, Unsigned, Pointer}
use Rattle.tsa_base.proofs.Truths.{never}
use Rattle.tsa_tree.specs.declared.kind.Kind.{Kind}
use Rattle.tsa_tree.specs.declared.kind.Kind.TheVariants as type
use Rattle.tsa_tree.specs.types.Arithmetic.{is_int}
use Rattle.tsa_place_model.specs.declared.place.Placed.{Placed}
use Rattle.tsa_place_model.specs.Calls.{is_structure}
use Rattle.tsa_place_model.specs.Stores.{is_of}
use Rattle.tsa_place_model.specs.Items.{zero_of}
use Rattle.tsa_place_model.proofs.GlobalsInRow.{front_at}

-- the kinds of what is declared
abbrev pub is_data : Kind → Bool
is_data type.Int = true
is_data type.Unsigned = true
is_data (type.Pointer n c) = true
is_data (type.Structure n) = true
is_data type.Void = false
is_data type.Null = false
is_data type.Function = false

module _ (free : Placed → Bool) where
  abbrev pub may : ℕ → Bool → Option Placed → Bool
  may struct to_const None = false
  may struct to_const (Some p) = free p && (is_of struct p.kind && (to_const || not p.is_const))

  abbrev pub good : List Placed → Kind → Value → Bool
  good places type.Int (Int z) = is_int z
  good places type.Unsigned (Unsigned n) = nat_lt n (2 ^ 32)
  good places (type.Pointer struct to_const) (Pointer None) = true
  good places (type.Pointer struct to_const) (Pointer (Some place)) = may struct to_const (slice_get places place)
  good places _ _ = false

  abbrev pub GoodCell : List Placed → Placed → Type 0
  GoodCell places p = is_structure p.kind ≡ false → good places p.kind p.initial ≡ true

  -- zero or null
  pub zero_good : (places : List Placed) (kind : Kind) → is_data kind ≡ true → is_structure kind ≡ false → good places kind (zero_of kind) ≡ true
  zero_good places type.Int e f = refl
  zero_good places type.Unsigned e f = refl
  zero_good places (type.Pointer n c) e f = refl
  zero_good places (type.Structure n) e f = never f
  zero_good places type.Void e f = never (sym e)
  zero_good places type.Null e f = never (sym e)
  zero_good places type.Function e f = never (sym e)

  -- .. also beside further places
  may_more : (places more : List Placed) (n : ℕ) (c : Bool) (place : ℕ) → may n c (slice_get places place) ≡ true → may n c (slice_get (places ++ more) place) ≡ true
  may_more places more n c place e = by (slice_get places place) refl e
    where
      by : (o : Option Placed) → slice_get places place ≡ o → may n c o ≡ true → may n c (slice_get (places ++ more) place) ≡ true
      by None is e = never (sym e)
      by (Some p) is e = ap (may n c) (front_at places more place p is) ∙ e

  pub good_more : (places more : List Placed) (kind : Kind) (v : Value) → good places kind v ≡ true → good (places ++ more) kind v ≡ true
  good_more places more type.Int (Int z) e = e
  good_more places more type.Int (Unsigned n) e = never (sym e)
  good_more places more type.Int (Pointer p) e = never (sym e)
  good_more places more type.Unsigned (Int z) e = never (sym e)
  good_more places more type.Unsigned (Unsigned n) e = e
  good_more places more type.Unsigned (Pointer p) e = never (sym e)
  good_more places more (type.Pointer n c) (Int z) e = never (sym e)
  good_more places more (type.Pointer n c) (Unsigned m) e = never (sym e)
  good_more places more (type.Pointer n c) (Pointer None) e = refl
  good_more places more (type.Pointer n c) (Pointer (Some place)) e = may_more places more n c place e
  good_more places more (type.Structure n) v e = never (sym e)
  good_more places more type.Void v e = never (sym e)
  good_more places more type.Null v e = never (sym e)
  good_more places more type.Function v e = never (sym e)
