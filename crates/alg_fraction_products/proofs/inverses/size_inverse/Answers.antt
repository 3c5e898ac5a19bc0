use Rattle.std.proofs.Common.{ap, ℕ}
use Rattle.alg_terms.specs.Tree.{Lit}
use Rattle.alg_fractions.proofs.SizeLemmas.{over-one, over-more}
use Rattle.alg_fractions.specs.NumeralTree.{size_tree, ratio_tree}
use Rattle.alg_fraction_products.proofs.inverses.size_inverse.Goals as goal

pub returns-then-d-eq1-clause-turns : goal.returns-then-d-eq1-clause-turns
returns-then-d-eq1-clause-turns c = rw (over-one c.args.sort (Lit c.args.sort c.args.n) c.args.d c.if-d-eq1.true, ap (λ (x : ℕ). size_tree c.args.sort x c.args.n) c.if-d-eq1.true) c.literal_inverse.ensures.turns

pub returns-then-n-eq1-clause-turns : goal.returns-then-n-eq1-clause-turns
returns-then-n-eq1-clause-turns c = rw (over-more c.args.sort (Lit c.args.sort c.args.n) c.args.d c.if-d-eq1.false, ap (λ (x : ℕ). ratio_tree c.args.sort x c.args.d) c.if-n-eq1.true, over-one c.args.sort (Lit c.args.sort c.args.d) c.args.n c.if-n-eq1.true) c.unit_inverse.ensures.turns

pub returns-else-n-eq1-clause-turns : goal.returns-else-n-eq1-clause-turns
returns-else-n-eq1-clause-turns c = rw (over-more c.args.sort (Lit c.args.sort c.args.n) c.args.d c.if-d-eq1.false, over-more c.args.sort (Lit c.args.sort c.args.d) c.args.n c.if-n-eq1.false) c.ratio_inverse.ensures.turns
