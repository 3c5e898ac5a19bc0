use Rattle.std.proofs.Common.{ap, ℕ}
use Rattle.alg_terms.specs.Tree.{Lit}
use Rattle.alg_fractions.proofs.SizeLemmas.{over-one, over-more}
use Rattle.alg_fraction_products.proofs.inverses.literal_inverse.Goals as goal

pub returns-then-n-eq1-clause-turns : goal.returns-then-n-eq1-clause-turns
returns-then-n-eq1-clause-turns c = rw (over-one c.args.sort (Lit c.args.sort 1) c.args.n c.if-n-eq1.true, ap (λ (x : ℕ). Lit c.args.sort x) c.if-n-eq1.true) c.one_inv0.ensures.turns

pub returns-else-n-eq1-clause-turns : goal.returns-else-n-eq1-clause-turns
returns-else-n-eq1-clause-turns c = rw (over-more c.args.sort (Lit c.args.sort 1) c.args.n c.if-n-eq1.false) c.whole_inverse.ensures.turns
