use Rattle.alg_group_words.specs.Letters.{weight}
use Rattle.alg_group_found.specs.Exponents.{exponent}
use Rattle.alg_group_found.specs.Found.{is_out}
use Rattle.alg_group_found.proofs.ReachLemmas.{both-letters, left-none, right-none}
use Rattle.alg_group_found.proofs.letters.sum_of_letters.Goals as goal

pub returns-in-Some-letters : goal.returns-in-Some-letters
returns-in-Some-letters c = λ ds b h t u p q. both-letters c.total.result c.in-Some.m c.in-Some-letters.n (weight (exponent ds) t) (weight (exponent ds) u) (is_out ds t) (is_out ds u) (c.in-Some.ensures ds b h t p) (c.in-Some-letters.ensures ds b h u q) c.total.ensures

pub returns-in-None-letters : goal.returns-in-None-letters
returns-in-None-letters c = λ ds b h t u p q. right-none (weight (exponent ds) t) (weight (exponent ds) u) (is_out ds t) (is_out ds u) (c.in-None-letters.ensures ds b h u q)

pub returns-in-None : goal.returns-in-None
returns-in-None c = λ ds b h t u p q. left-none (weight (exponent ds) t) (weight (exponent ds) u) (is_out ds t) (is_out ds u) (c.in-None.ensures ds b h t p)
