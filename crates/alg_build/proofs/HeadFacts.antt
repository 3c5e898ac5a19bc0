-- When a symbol may stand over trees of a sort.
use Rattle.std.proofs.Common.{◌≡◌, [], ◌∷◌, ◌||◌, refl, true}
use Rattle.alg_terms.specs.declared.sorts.Sort.{Sort}
use Rattle.alg_terms.specs.declared.sorts.Sort.TheVariants.{Nat, Int}
use Rattle.alg_terms.specs.declared.symbols.Sym.TheVariants.{Add, Mul, Neg, Sub, Inv, Div, Npow, Zpow, Nsmul, Zsmul, Min, Max}
use Rattle.alg_terms.proofs.OrderLaws.{sort_same-self}
use Rattle.alg_law.specs.declared.classes.Class.TheVariants.{AddMonoid, AddGroup, Semigroup, Monoid, Group, Field, LinearOrder}
use Rattle.alg_law.specs.declared.marks.Mark.TheVariants.{Good}
use Rattle.alg_law.specs.Having.{has_class}
use Rattle.alg_law.specs.WellSorted.{sort_mark}
use Rattle.alg_build.specs.Book.{Book}
use Rattle.alg_build.specs.Rewriting.{Heads}

module _ (b : Book) (s : Sort) (known : sort_mark b.theory.declarations s ≡ Good) where
  pub add-heads : has_class b.theory.declarations s AddMonoid ≡ true → Heads b Add s (s ∷ s ∷ [])
  add-heads h = record { good = rw (known, h, sort_same-self s) refl }

  pub mul-heads : has_class b.theory.declarations s Semigroup ≡ true → Heads b Mul s (s ∷ s ∷ [])
  mul-heads h = record { good = rw (known, h, sort_same-self s) refl }

  pub neg-heads : has_class b.theory.declarations s AddGroup ≡ true → Heads b Neg s (s ∷ [])
  neg-heads h = record { good = rw (known, h, sort_same-self s) refl }

  pub sub-heads : has_class b.theory.declarations s AddGroup ≡ true → Heads b Sub s (s ∷ s ∷ [])
  sub-heads h = record { good = rw (known, h, sort_same-self s) refl }

  pub inv-heads : (has_class b.theory.declarations s Group || has_class b.theory.declarations s Field) ≡ true → Heads b Inv s (s ∷ [])
  inv-heads h = record { good = rw (known, h, sort_same-self s) refl }

  pub div-heads : (has_class b.theory.declarations s Group || has_class b.theory.declarations s Field) ≡ true → Heads b Div s (s ∷ s ∷ [])
  div-heads h = record { good = rw (known, h, sort_same-self s) refl }

  pub npow-heads : has_class b.theory.declarations s Monoid ≡ true → Heads b Npow s (s ∷ Nat ∷ [])
  npow-heads h = record { good = rw (known, h, sort_same-self s) refl }

  pub zpow-heads : (has_class b.theory.declarations s Group || has_class b.theory.declarations s Field) ≡ true → Heads b Zpow s (s ∷ Int ∷ [])
  zpow-heads h = record { good = rw (known, h, sort_same-self s) refl }

  pub nsmul-heads : has_class b.theory.declarations s AddMonoid ≡ true → Heads b Nsmul s (Nat ∷ s ∷ [])
  nsmul-heads h = record { good = rw (known, h, sort_same-self s) refl }

  pub zsmul-heads : has_class b.theory.declarations s AddGroup ≡ true → Heads b Zsmul s (Int ∷ s ∷ [])
  zsmul-heads h = record { good = rw (known, h, sort_same-self s) refl }

  pub min-heads : has_class b.theory.declarations s LinearOrder ≡ true → Heads b Min s (s ∷ s ∷ [])
  min-heads h = record { good = rw (known, h, sort_same-self s) refl }

  pub max-heads : has_class b.theory.declarations s LinearOrder ≡ true → Heads b Max s (s ∷ s ∷ [])
  max-heads h = record { good = rw (known, h, sort_same-self s) refl }

pub ruleset heads = (add-heads, mul-heads, neg-heads, sub-heads, inv-heads, div-heads, npow-heads, zpow-heads, nsmul-heads, zsmul-heads, min-heads, max-heads)
