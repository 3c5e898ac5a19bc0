-- The rows and proof lines that the lemmas of the code stand for.
use Rattle.std.specs.Prelude.{ℕ, ℤ, List, map}
use Rattle.alg_terms.specs.declared.symbols.Sym.{Sym}
use Rattle.alg_terms.specs.declared.relations.Rel.{Rel}
use Rattle.alg_law.specs.declared.patterns.PatSort.{PatSort}
use Rattle.alg_law.specs.declared.patterns.Pat.{Pat as Node}
use Rattle.alg_law.specs.Patterns.{Pat}
use Rattle.alg_law.specs.Rows.{Row}
use Rattle.alg_law.specs.LawRows.{patterns, first_of, row_of}
use Rattle.alg_proof.specs.declared.lines.BridgeKind.{BridgeKind}
use Rattle.alg_proof.specs.declared.lines.ComputeHead.{ComputeHead}
use Rattle.alg_proof.specs.declared.lemma_rows.LemmaStep.{LemmaStep}
use Rattle.alg_proof.specs.declared.lemma_rows.LemmaStep.TheVariants as step
use Rattle.alg_proof.specs.declared.lemma_rows.LemmaRow.{LemmaRow}

-- the row of a lemma
abbrev pub lemma_row_of : LemmaRow → Row
lemma_row_of l = row_of l.row

abbrev pub rows_of : List LemmaRow → List Row
rows_of ls = map lemma_row_of ls

-- a line of the proof of a lemma; the names of laws and lemmas are their bytes
pub data PatStep : Type 0 where
  Refl : Pat → PatStep
  Symm : ℕ → PatStep
  Trans : ℕ → ℕ → PatStep
  Cong : Sym → List ℕ → PatStep
  Subst : ℕ → ℕ → ℕ → PatStep
  Law : List ℕ → PatSort → List Pat → List ℕ → PatStep
  Lemma : List ℕ → PatSort → List Pat → List ℕ → PatStep
  LitAdd : PatSort → ℕ → ℕ → PatStep
  LitMul : PatSort → ℕ → ℕ → PatStep
  LitRel : Rel → PatSort → ℕ → ℕ → PatStep
  Bridge : BridgeKind → ℕ → Pat → PatStep
  Compute : ComputeHead → PatSort → List ℤ → PatStep

-- the pattern that nodes in prefix form spell
abbrev pub spelled : List Node → Pat
spelled ns = first_of (patterns ns)

abbrev pub pat_step_of : LemmaStep → PatStep
pat_step_of (step.Refl ns) = Refl (spelled ns.now)
pat_step_of (step.Symm i) = Symm i
pat_step_of (step.Trans i j) = Trans i j
pat_step_of (step.Cong f is) = Cong f is.now
pat_step_of (step.Subst i j k) = Subst i j k
pat_step_of (step.Law n s ps is) = Law n.now s (map (λ ns. spelled ns.now) ps.now) is.now
pat_step_of (step.Lemma n s ps is) = Lemma n.now s (map (λ ns. spelled ns.now) ps.now) is.now
pat_step_of (step.LitAdd s m n) = LitAdd s m n
pat_step_of (step.LitMul s m n) = LitMul s m n
pat_step_of (step.LitRel r s m n) = LitRel r s m n
pat_step_of (step.Bridge k n ns) = Bridge k n (spelled ns.now)
pat_step_of (step.Compute h s xs) = Compute h s xs.now

-- the proof lines of a lemma
abbrev pub proof_of : LemmaRow → List PatStep
proof_of l = map pat_step_of l.proof.now
