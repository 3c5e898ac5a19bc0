-- The signs of trees by their heads.
use Rattle.std.specs.Prelude.{Bool, true, false, ◌&&◌, ◌||◌, List, [], ◌∷◌, Option, Some, None, if◌then◌else◌}
use Rattle.alg_terms.specs.declared.sorts.Sort.{Sort}
use Rattle.alg_terms.specs.declared.symbols.Sym.{Sym}
use Rattle.alg_terms.specs.declared.symbols.Sym.TheVariants.{Inv, Div, Abs, Min, Max, Fact}
use Rattle.alg_law.specs.declared.classes.Class.TheVariants.{Ring}
use Rattle.alg_values.specs.Setting.{Classes}
use Rattle.alg_exts.specs.declared.sign_ext.SignKind.{SignKind}
use Rattle.alg_exts.specs.declared.sign_ext.SignKind.TheVariants.{Pos, Nonneg, Nonzero}

-- a sign, or none that is known
abbrev pub Sign : Type 0
Sign = Option SignKind

abbrev pub is_pos : Sign → Bool
is_pos (Some Pos) = true
is_pos _ = false

-- at least 0
abbrev pub is_nonneg : Sign → Bool
is_nonneg (Some Pos) = true
is_nonneg (Some Nonneg) = true
is_nonneg _ = false

-- other than 0
abbrev pub is_nonzero : Sign → Bool
is_nonzero (Some Pos) = true
is_nonzero (Some Nonzero) = true
is_nonzero _ = false

-- the first that applies
abbrev pub first_sign : (pos nonneg nonzero : Bool) → Sign
first_sign true nonneg nonzero = Some Pos
first_sign false true nonzero = Some Nonneg
first_sign false false true = Some Nonzero
first_sign false false false = None

-- a product: that its factors are other than 0 says so of it in a ring
abbrev pub product_sign : (is_ring : Bool) → Sign → Sign → Sign
product_sign is_ring a b = first_sign (is_pos a && is_pos b) (is_nonneg a && is_nonneg b) (is_ring && (is_nonzero a && is_nonzero b))

abbrev pub absolute_sign : Sign → Sign
absolute_sign a = if is_nonzero a then Some Pos else Some Nonneg

abbrev pub least_sign : Sign → Sign → Sign
least_sign a b = first_sign (is_pos a && is_pos b) (is_nonneg a && is_nonneg b) (is_nonzero a && is_nonzero b)

abbrev pub greatest_sign : Sign → Sign → Sign
greatest_sign a b = first_sign (is_pos a || is_pos b) (is_nonneg a || is_nonneg b) (is_nonzero a && is_nonzero b)

-- the heads that sign extensions are asked for
abbrev pub is_signed : Sym → Bool
is_signed Abs = true
is_signed Inv = true
is_signed Div = true
is_signed Min = true
is_signed Max = true
is_signed Fact = true
is_signed _ = false

-- the sign of a head over parts with these signs, in a sort with IsStrictOrderedRing
abbrev pub sign_of_head : Classes → Sym → Sort → List Sign → Sign
sign_of_head has Abs s (a ∷ []) = absolute_sign a
sign_of_head has Inv s (a ∷ []) = a
sign_of_head has Div s (a ∷ b ∷ []) = product_sign (has s Ring) a b
sign_of_head has Min s (a ∷ b ∷ []) = least_sign a b
sign_of_head has Max s (a ∷ b ∷ []) = greatest_sign a b
sign_of_head has Fact s (a ∷ []) = Some Pos
sign_of_head has _ s signs = None
