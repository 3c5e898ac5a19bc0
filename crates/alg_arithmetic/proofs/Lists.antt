-- Lists of one item, and of two.
use Rattle.std.proofs.Common.{◌≡◌, ◌<◌, ◌≤◌, List, [], ◌∷◌, length, get_or, ap, ap₂, sym, arith}
use Rattle.alg_num.specs.Fraction.{Fraction}

pub one_item : (ps : List Fraction) (p : Fraction) → 1 ≤ length ps → length ps < 2 → p ≡ get_or ps 0 p → ps ≡ p ∷ []
one_item [] p a b e = absurd (omega (arith, a))
one_item (x ∷ []) p a b e = ap (λ y. y ∷ []) (sym e)
one_item (x ∷ y ∷ xs) p a b e = absurd (omega (arith, b))

pub two_items : (ps : List Fraction) (p q : Fraction) → 2 ≤ length ps → length ps < 3 → p ≡ get_or ps 0 p → q ≡ get_or ps 1 q → ps ≡ p ∷ q ∷ []
two_items [] p q a b e f = absurd (omega (arith, a))
two_items (x ∷ []) p q a b e f = absurd (omega (arith, a))
two_items (x ∷ y ∷ []) p q a b e f = ap₂ (λ u v. u ∷ v ∷ []) (sym e) (sym f)
two_items (x ∷ y ∷ z ∷ xs) p q a b e f = absurd (omega (arith, b))
