-- How the terms of a sum are written.
use Rattle.std.specs.Prelude.{Bool, cond}
use Rattle.alg_terms.specs.declared.sorts.Sort.{Sort}
use Rattle.alg_terms.specs.Tree.{Tree, Lit}
use Rattle.alg_num.specs.Fraction.{Fraction}
use Rattle.alg_sums.specs.Ratio.{Ratio}

pub record Writing : Type 0 where
  -- the coefficient that a number is
  pub meaning : Fraction → Ratio
  -- the tree of a term, by that of its monomial
  pub term : Sort → Tree → Fraction → Tree

-- a term, or 0
abbrev pub written : Writing → Sort → Tree → Bool → Fraction → Tree
written w s t is_zero v = cond is_zero (Lit s 0) (w.term s t v)
