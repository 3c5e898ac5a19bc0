-- The numbers of a tree by which its range is tested, all in one pass upwards.
use Rattle.std.specs.Prelude.{ℕ, Bool, false, ◌||◌, if◌then◌else◌, Option, Some, None, List, [], ◌∷◌}
use Rattle.alg_terms.specs.declared.symbols.Sym.{Sym}
use Rattle.alg_terms.specs.declared.symbols.Sym.TheVariants.{Add, Mul, Neg, Sub, Inv, Div, Npow}
use Rattle.alg_terms.specs.Tree.{Tree, Lit, Var, App, Trees, Nil, Cons}
use Rattle.alg_num.specs.Fraction.{Fraction}
use Rattle.alg_num.specs.Reduced.{reduced}
use Rattle.alg_expansions.specs.Setting.{Setting}
use Rattle.alg_expansions.specs.Numerals.{sum_numeral, product_numeral, power_numeral}
use Rattle.alg_sums.specs.Inverse.{inverse_of}
use Rattle.alg_ring_range.specs.Fractions.{whole, sum_fraction, negated_fraction, product_fraction, power_fraction}
use Rattle.alg_ring_range.specs.Sizes.{is_past, literal_sizes, atom_sizes, sum_sizes, product_sizes, power_sizes, quotient_sizes, inverse_sizes}
use Rattle.alg_ring_range.specs.declared.sizes.Sizes.{Sizes}

-- what is looked at in one tree
pub record Numbers : Type 0 where
  -- the number that it spells as an exponent, if it does
  pub numeral : Option ℕ
  -- the fraction that it denotes, if it is closed
  pub fraction : Option Fraction
  pub sizes : Sizes
  -- some node that is visited from it is past a limit
  pub is_out : Bool

-- Nodes, by their parts.

-- in a field of characteristic zero it is closed
abbrev pub literal : Bool → ℕ → Numbers
literal closed n = record { numeral = Some n; fraction = if closed then Some (whole n) else None; sizes = literal_sizes n; is_out = is_past (literal_sizes n) }

-- nothing below it is visited
abbrev pub atom : Numbers
atom = record { numeral = None; fraction = None; sizes = atom_sizes; is_out = false }

-- a node with one visited part
abbrev pub over_one : Option Fraction → Sizes → Numbers → Numbers
over_one q z x = record { numeral = None; fraction = q; sizes = z; is_out = is_past z || x.is_out }

-- a node with two visited parts
abbrev pub over_two : Option ℕ → Option Fraction → Sizes → Numbers → Numbers → Numbers
over_two n q z x y = record { numeral = n; fraction = q; sizes = z; is_out = is_past z || (x.is_out || y.is_out) }

abbrev pub sum : Numbers → Numbers → Numbers
sum x y = over_two (sum_numeral x.numeral y.numeral) (sum_fraction x.fraction y.fraction) (sum_sizes x.sizes y.sizes) x y

abbrev pub difference : Numbers → Numbers → Numbers
difference x y = over_two None (sum_fraction x.fraction (negated_fraction y.fraction)) (sum_sizes x.sizes y.sizes) x y

abbrev pub product : Numbers → Numbers → Numbers
product x y = over_two (product_numeral x.numeral y.numeral) (product_fraction x.fraction y.fraction) (product_sizes x.sizes y.sizes) x y

abbrev pub negation : Numbers → Numbers
negation x = over_one (negated_fraction x.fraction) x.sizes x

-- an atom where the exponent has no number; a numeral exponent is visited
abbrev pub power_by : Option ℕ → Numbers → Numbers → Numbers
power_by None x y = atom
power_by (Some c) x y = over_two (power_numeral x.numeral c) (power_fraction x.fraction c) (power_sizes x.sizes c) x y

abbrev pub power : Numbers → Numbers → Numbers
power x y = power_by y.numeral x y

-- an atom where the part isn't closed
abbrev pub inverse_by : Option Fraction → Numbers → Numbers
inverse_by None x = atom
inverse_by (Some p) x = over_one (Some (reduced (inverse_of p))) (inverse_sizes p) x

abbrev pub inverse : Numbers → Numbers
inverse x = inverse_by x.fraction x

-- a divisor that isn't closed isn't visited
abbrev pub quotient_by : Option Fraction → Numbers → Numbers → Numbers
quotient_by None x y = over_one None (quotient_sizes x.sizes) x
quotient_by (Some q) x y = over_two None (product_fraction x.fraction (Some (reduced (inverse_of q)))) (product_sizes x.sizes (inverse_sizes q)) x y

abbrev pub quotient : Numbers → Numbers → Numbers
quotient x y = quotient_by y.fraction x y

-- a node by its head and the numbers of its parts
abbrev pub over : Sym → List Numbers → Numbers
over Add (x ∷ y ∷ []) = sum x y
over Sub (x ∷ y ∷ []) = difference x y
over Mul (x ∷ y ∷ []) = product x y
over Neg (x ∷ []) = negation x
over Npow (x ∷ y ∷ []) = power x y
over Inv (x ∷ []) = inverse x
over Div (x ∷ y ∷ []) = quotient x y
over _ _ = atom

abbrev mutual
  pub numbers : Setting → Tree → Numbers
  numbers k (Lit s n) = literal (k.is_exact s) n
  numbers k (Var d s) = atom
  numbers k (App f s ts) = over f (all_numbers k ts)

  pub all_numbers : Setting → Trees → List Numbers
  all_numbers k Nil = []
  all_numbers k (Cons t ts) = numbers k t ∷ all_numbers k ts
