-- Relations between literals, the trees that their ids stand for, and what products ask for.
use Rattle.std.proofs.Common.{◌≡◌, ℕ, zero, suc, ◌*◌, ◌<◌, arith, refl, true}
use Rattle.alg_terms.specs.declared.sorts.Sort.{Sort}
use Rattle.alg_terms.specs.declared.relations.Rel.{Rel}
use Rattle.alg_terms.specs.Tree.{Tree}
use Rattle.alg_expr.specs.Ids.{tree_of}
use Rattle.alg_law.specs.declared.classes.Class.TheVariants.{Semigroup, Monoid, Semiring}
use Rattle.alg_law.specs.Derivations.{related}
use Rattle.alg_law.specs.Having.{has_class}
use Rattle.alg_law.proofs.HavingLaws.{has_class-implied}
use Rattle.alg_build.specs.Book.{Book, Concludes, Grows}
use Rattle.alg_numerals.specs.declared.relations.Compared.{Compared}
use Rattle.alg_numerals.specs.Comparing.{Compares}
use Rattle.alg_fractions.specs.Fractions.{HasQuotients}
use Rattle.alg_fractions.proofs.SizeLemmas.{sizes, grows-quotients}

module _ (b : Book) where
  -- the first tree is the one that its id stands for
  pub own-first : (r : Rel) (s : Sort) (q : Compared) (x y : Tree) → Compares b r s q x y → Concludes b q.line (related r s (tree_of b.trees q.first) y)
  own-first r s q x y h = rw h.first.tree h.line

  pub semigroup : (s : Sort) → HasQuotients b s → has_class b.theory.declarations s Semigroup ≡ true
  semigroup s h = has_class-implied b.theory.declarations s Monoid Semigroup refl (has_class-implied b.theory.declarations s Semiring Monoid refl h.signs.literals.semiring)

-- a factor of a number in range is in range, where the other isn't 0

pub left-within : (n g b : ℕ) → 0 < g → n * g < b → n < b
left-within n zero b h k = absurd (omega (arith, h))
left-within n (suc g) b h k = omega (arith, k)

pub right-within : (d g b : ℕ) → 0 < d → d * g < b → g < b
right-within zero g b h k = absurd (omega (arith, h))
right-within (suc d) g b h k = omega (arith, k)

pub ruleset products = (sizes, own-first)
