-- Powers of whole numbers step by step.
use Rattle.std.proofs.Common.{◌≡◌, ℕ, zero, suc, ◌+◌, ◌*◌, ◌<◌, ◌≤◌, ◌^◌, ℤ, pos, negsuc, refl, ap, sym, ◌∙◌, subst, arith, true, lit≤}
use Rattle.std.specs.Prelude.{◌*ℤ◌, unsigned_abs}
use Rattle.std.specs.Int.{int_pow}
use Rattle.std.proofs.Math.Nat.{pow-le-pow_right}
use Rattle.alg_terms.specs.declared.sorts.Sort.{Sort}
use Rattle.alg_terms.specs.declared.sorts.Sort.TheVariants.{Nat}
use Rattle.alg_terms.specs.Tree.{Lit}
use Rattle.alg_law.specs.declared.classes.Class.TheVariants.{Semiring, Monoid}
use Rattle.alg_law.specs.Having.{has_class}
use Rattle.alg_law.proofs.HavingLaws.{has_class-implied}
use Rattle.alg_num.specs.Range.{InRange}
use Rattle.alg_num.proofs.IntegerLaws.{*ℤ-pos_one}
use Rattle.std.proofs.Math.IntN.{*ℤ_comm}
use Rattle.alg_num.proofs.PowerLaws.{int_pow-zero, int_pow-suc, int_pow-add, unsigned_abs-int_pow}
use Rattle.alg_num.proofs.Powers.{zero-pow}
use Rattle.alg_build.specs.Book.{Book, Grows}
use Rattle.alg_build.specs.Rewriting.{Turns}
use Rattle.alg_build.specs.declared.rewriting.Rewriting.{Rewriting}
use Rattle.alg_build.proofs.Rewritings.{grows-turns}
use Rattle.alg_rows.specs.Operations.{power_tree}
use Rattle.alg_numerals.specs.WholeTree.{whole_tree}
use Rattle.alg_powers.specs.declared.powers.Power.{Power}
use Rattle.alg_numerals.specs.Numerals.{HasLiterals, HasWhole}
use Rattle.alg_powers.specs.Powers.{IsPower}
use Rattle.alg_numerals.proofs.WholeLemmas.{wholes, signs-whole}

pub literals-monoid : (b : Book) (s : Sort) → HasLiterals b s → has_class b.theory.declarations s Monoid ≡ true
literals-monoid b s h = has_class-implied b.theory.declarations s Semiring Monoid refl h.semiring

pub grows-power : (a b : Book) (g : Grows a b) (s : Sort) (x : ℤ) (n : ℕ) (p : Power) → IsPower a s x n p → IsPower b s x n p
grows-power a b g s x n p h = record { value = h.value; turns = grows-turns a b g s p.by _ _ h.turns }

small-power : (a m n : ℕ) → m ≤ n → a ^ n < 2 ^ 127 → a ^ m < 2 ^ 127
small-power zero zero n l h = omega arith
small-power zero (suc m) n l h = rw (zero-pow (suc m) (omega arith)) (lit≤ tt)
small-power (suc a) m n l h = omega (arith, h, pow-le-pow_right {n = suc a} (omega arith) l)

-- the lesser powers of a number are in range where a power is
pub lesser-power : (x : ℤ) (m n : ℕ) → m ≤ n → InRange (int_pow x n) → InRange (int_pow x m)
lesser-power x m n l h =
    let P : ℕ → Type 0 = λ k. k < 2 ^ 127 in
    subst P (sym (unsigned_abs-int_pow x m)) (small-power (unsigned_abs x) m n l (subst P (unsigned_abs-int_pow x n) h))

pub square-power : (x : ℤ) (m n : ℕ) → m + m ≡ n → int_pow x m *ℤ int_pow x m ≡ int_pow x n
square-power x m n e = sym (int_pow-add x m m) ∙ ap (int_pow x) e

pub next-power : (x : ℤ) (m n : ℕ) → m + 1 ≡ n → int_pow x m *ℤ x ≡ int_pow x n
next-power x m n e = sym (int_pow-suc x m) ∙ ap (int_pow x) (omega (arith, e))

pub power-zero : (x : ℤ) → int_pow x 0 ≡ pos 1
power-zero x = int_pow-zero x

pub power-one : (x : ℤ) → int_pow x 1 ≡ x
power-one x = int_pow-suc x 0 ∙ ap (λ z. z *ℤ x) (int_pow-zero x) ∙ *ℤ_comm (pos 1) x ∙ *ℤ-pos_one x

-- a literal is a whole number
pub whole-literal : (s : Sort) (n : ℕ) → whole_tree s (pos n) ≡ Lit s n
unfolding whole_tree
whole-literal s n = refl

-- a value with the rewriting to its tree
pub made-power : (b : Book) (s : Sort) (x : ℤ) (n : ℕ) (v : ℤ) (r : Rewriting) → v ≡ int_pow x n → Turns b s r (power_tree s (whole_tree s x) (Lit Nat n)) (whole_tree s v) → IsPower b s x n (record { value = v; by = r })
made-power b s x n v r e h = record { value = e; turns = rw (← e) h }

-- a power is below 0 only where the base is
pub power-whole : (b : Book) (s : Sort) (x : ℤ) (n : ℕ) → HasWhole b s x → HasWhole b s (int_pow x n)
power-whole b s (pos a) n h = record { literals = h.literals; signs = tt }
power-whole b s (negsuc a) n h = signs-whole b s (int_pow (negsuc a) n) h.signs

pub ruleset powers = (wholes, literals-monoid, grows-power, power-whole)
