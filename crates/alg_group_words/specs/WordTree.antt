-- The tree that spells a list of syllables.
use Rattle.std.specs.Prelude.{◌≡◌, ℕ, zero, suc, List, [], ◌∷◌, Option, Some, ℤ, pos, negsuc, neg_ℤ}
use Rattle.alg_terms.specs.declared.sorts.Sort.{Sort}
use Rattle.alg_terms.specs.declared.sorts.Sort.TheVariants.{Nat, Int}
use Rattle.alg_terms.specs.declared.symbols.Sym.{Sym}
use Rattle.alg_terms.specs.declared.symbols.Sym.TheVariants.{Mul, Neg, Inv, Npow, Zpow}
use Rattle.alg_terms.specs.Tree.{Tree, Lit, App, Nil, Cons}
use Rattle.alg_group_words.specs.Syllables.{syllables}

abbrev pub binary : Sym → Sort → Tree → Tree → Tree
binary f s a b = App f s (Cons a (Cons b Nil))

abbrev pub unary : Sym → Sort → Tree → Tree
unary f s a = App f s (Cons a Nil)

-- x, x ^ n, x⁻¹ or x ^ -n, with n at least 2
abbrev pub power_tree : Sort → Tree → ℤ → Tree
power_tree s a (pos (suc zero)) = a
power_tree s a (pos n) = binary Npow s a (Lit Nat n)
power_tree s a (negsuc zero) = unary Inv s a
power_tree s a (negsuc (suc n)) = binary Zpow s a (unary Neg Int (Lit Int (suc (suc n))))

-- a tree times each syllable, grouped to the left
abbrev pub times_syllables : Sort → Tree → List (Tree × ℤ) → Tree
times_syllables s t [] = t
times_syllables s t (p ∷ ps) = times_syllables s (binary Mul s t (power_tree s p.0 p.1)) ps

abbrev pub normal_tree : Sort → List (Tree × ℤ) → Tree
normal_tree s [] = Lit s 1
normal_tree s (p ∷ ps) = times_syllables s (power_tree s p.0 p.1) ps

-- the tree in normal form
abbrev pub normal_form : (Tree → Option ℤ) → Sort → Tree → Tree
normal_form value s t = normal_tree s (syllables value t)

-- numerals have their numbers
pub record HasNumerals (value : Tree → Option ℤ) : Type 0 where
  pub literal : (n : ℕ) → value (Lit Nat n) ≡ Some (pos n)
  pub negated : (n : ℕ) → value (unary Neg Int (Lit Int n)) ≡ Some (neg_ℤ (pos n))
