-- The trees of whole numbers by their sizes, and lines beside them.
use Rattle.std.proofs.Common.{◌≡◌, ℕ, zero, suc, ◌*◌, ◌<◌, ℤ, pos, negsuc, ◌*ℤ◌, ◌≤ℤ◌, ◌<ℤ◌, refl, arith}
use Rattle.std.specs.Prelude.{neg_ℤ, unsigned_abs}
use Rattle.std.proofs.lemmas.Int.{ints}
use Rattle.alg_terms.specs.declared.sorts.Sort.{Sort}
use Rattle.alg_terms.specs.declared.symbols.Sym.{Sym}
use Rattle.alg_terms.specs.Tree.{Tree, Lit}
use Rattle.alg_num.proofs.IntegerLaws.{positive_product}
use Rattle.alg_build.specs.Book.{Book, Grows, Proves}
use Rattle.alg_build.specs.Rewriting.{Stands, over}
use Rattle.alg_build.proofs.Lines.{grows-proves}
use Rattle.alg_rows.specs.Operations.{negation_tree}
use Rattle.alg_numerals.specs.declared.combined.Combined.{Combined}
use Rattle.alg_numerals.specs.Numerals.{Combines}
use Rattle.alg_numerals.specs.WholeTree.{whole_tree}
use Rattle.alg_numerals.proofs.LiteralLemmas.{combines}

-- the trees by the sizes

pub size-tree : (s : Sort) (x : ℤ) (m : ℕ) → m ≡ unsigned_abs x → pos 0 ≤ℤ x → whole_tree s x ≡ Lit s m
unfolding whole_tree
size-tree s (pos a) m e h = rw e refl
size-tree s (negsuc a) m e h = absurd (omega (arith, ints, h))

pub minus-tree : (s : Sort) (y : ℤ) (n : ℕ) → n ≡ unsigned_abs y → y <ℤ pos 0 → whole_tree s y ≡ negation_tree s (Lit s n)
unfolding whole_tree
minus-tree s (pos a) n e h = absurd (omega (arith, ints, h))
minus-tree s (negsuc a) n e h = rw e refl

whole-minus : (s : Sort) (p : ℕ) → 0 < p → whole_tree s (neg_ℤ (pos p)) ≡ negation_tree s (Lit s p)
unfolding whole_tree
whole-minus s zero h = absurd (omega (arith, h))
whole-minus s (suc p) h = refl

pub mixed-tree : (s : Sort) (x y : ℤ) (m n : ℕ) → m ≡ unsigned_abs x → n ≡ unsigned_abs y → pos 0 ≤ℤ x → y <ℤ pos 0 → 0 < m → whole_tree s (x *ℤ y) ≡ negation_tree s (Lit s (m * n))
mixed-tree s (pos a) (pos b) m n e f h k l = absurd (omega (arith, ints, k))
mixed-tree s (pos a) (negsuc b) m n e f h k l =
    let p : 0 < a * suc b = positive_product a (suc b) (omega (arith, e, l)) (omega arith) in
    rw (e, f) (whole-minus s (a * suc b) p)
mixed-tree s (negsuc a) y m n e f h k l = absurd (omega (arith, ints, h))

-- three trees, beside a line on them that was there before
pub combined_trees : (b c : Book) (f : Sym) (s : Sort) (q : Combined) (i : ℕ) (x y z w : Tree) → Proves b i (over f s x y) w → Grows b c → Stands c s q.first x → Stands c s q.second y → Stands c s q.total z → q.line ≡ i → w ≡ z → Combines c f s q x y z
combined_trees b c f s q i x y z w p g h j t e k = combines c f s q i x y z h j t e (rw (← k) (grows-proves b c i _ _ g p))
