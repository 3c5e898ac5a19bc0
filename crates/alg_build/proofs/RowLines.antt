-- The lines of rows are good, and conclude what the rows do.
use Rattle.std.proofs.Common.{◌≡◌, ℕ, List, refl, Some}
use Rattle.alg_terms.specs.declared.sorts.Sort.{Sort}
use Rattle.alg_terms.specs.Tree.{Tree, Statement, equal}
use Rattle.alg_law.specs.Laws.{law_table, row_named}
use Rattle.alg_law.specs.Rows.{Row, MayFill}
use Rattle.alg_proof.specs.Causes.{statements_at}
use Rattle.alg_proof.specs.Steps.{Step, Law, Lemma}
use Rattle.alg_build.specs.Book.{Book, Adds, Proves, IsThere}
use Rattle.alg_proof.specs.Citing.{premises_of, conclusion_of}
use Rattle.alg_build.specs.Good.{IsGood, MayConclude}
use Rattle.alg_proof.proofs.Forward.{law_leads, lemma_leads}
use Rattle.alg_build.proofs.Lines.{lines, adds-proves, adds-concludes}

-- lines of rows

pub concludes-good : (b : Book) (l : Step) (s : Statement) → MayConclude b l s → IsGood b l
concludes-good b l s e = rw e refl

pub adds-there : (a b : Book) (n : ℕ) (l : Step) (s : Statement) → Adds a b n l s → IsThere b n
adds-there a b n l s p = rw (adds-concludes a b n l s p).line refl

pub adds-equal : (a b : Book) (n : ℕ) (l : Step) (s : Statement) → Adds a b n l s → s ≡ equal s.lhs s.rhs → Proves b n s.lhs s.rhs
adds-equal a b n l s p e = adds-proves a b n l s.lhs s.rhs (rw (← e) p)

module _ (b : Book) (r : Row) (s : Sort) (xs : List Tree) (is : List ℕ) where
  pub law-leads : row_named law_table r.name ≡ Some r → MayFill b.theory.declarations r s xs → statements_at b.done is ≡ Some (premises_of r s xs) → MayConclude b (Law r.name s xs is) (conclusion_of r s xs)
  law-leads e f p = law_leads b.theory b.done r s xs is (record { named = e; fills = f; premises = p })

  pub lemma-leads : row_named b.theory.lemmas r.name ≡ Some r → MayFill b.theory.declarations r s xs → statements_at b.done is ≡ Some (premises_of r s xs) → MayConclude b (Lemma r.name s xs is) (conclusion_of r s xs)
  lemma-leads e f p = lemma_leads b.theory b.done r s xs is (record { named = e; fills = f; premises = p })

  pub law-good : row_named law_table r.name ≡ Some r → MayFill b.theory.declarations r s xs → statements_at b.done is ≡ Some (premises_of r s xs) → IsGood b (Law r.name s xs is)
  law-good e f p = concludes-good b (Law r.name s xs is) (conclusion_of r s xs) (law-leads e f p)

  pub lemma-good : row_named b.theory.lemmas r.name ≡ Some r → MayFill b.theory.declarations r s xs → statements_at b.done is ≡ Some (premises_of r s xs) → IsGood b (Lemma r.name s xs is)
  lemma-good e f p = concludes-good b (Lemma r.name s xs is) (conclusion_of r s xs) (lemma-leads e f p)

pub ruleset row_lines = (lines, law-good, lemma-good)
