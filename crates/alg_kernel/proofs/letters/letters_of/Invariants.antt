use Rattle.std.proofs.Common.{◌≡◌, ◌++◌, ◌∷◌, drop, map}
use Rattle.alg_law.specs.LawRows.{pattern_of, row_of}
use Rattle.alg_law.specs.Patterns.{occurring}
use Rattle.alg_law.specs.Rows.{letters_of}
use Rattle.alg_kernel.proofs.letters.letters_of.Given as goal

abbrev pub invariant-loop-letter : goal.invariant-loop-letter
invariant-loop-letter l = l.found.items ++ occurring (drop l.letter-index l.letter-items) (pattern_of l.row.conclusion ∷ map pattern_of l.row.premises.now) ≡ letters_of (row_of l.row)
