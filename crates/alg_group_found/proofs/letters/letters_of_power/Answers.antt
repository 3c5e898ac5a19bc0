use Rattle.std.specs.Prelude.{unsigned_abs}
use Rattle.alg_group_words.specs.Letters.{weight}
use Rattle.alg_group_found.specs.Exponents.{exponent}
use Rattle.alg_group_found.specs.Found.{is_out}
use Rattle.alg_group_found.proofs.ReachLemmas.{power-letters, power-none}
use Rattle.alg_group_found.proofs.letters.letters_of_power.Goals as goal

pub returns-in-Some : goal.returns-in-Some
returns-in-Some c = λ ds b h t p. power-letters c.product.result (unsigned_abs c.args.k.now) c.in-Some.n (weight (exponent ds) t) (is_out ds t) (c.in-Some.ensures ds b h t p) (rw c.size_of.ensures at c.product.ensures)

pub returns-in-None : goal.returns-in-None
returns-in-None c = λ ds b h t p. power-none (unsigned_abs c.args.k.now) (weight (exponent ds) t) (is_out ds t) (c.in-None.ensures ds b h t p)
