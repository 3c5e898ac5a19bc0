-- Lines over ids as lines over trees.
use Rattle.std.specs.Prelude.{List, map, ⊤, All}
use Rattle.alg_terms.specs.Tree.{Tree}
use Rattle.alg_expr.specs.Ids.{tree_of, trees_at, IsIn}
use Rattle.alg_proof.specs.declared.lines.Line.{Line}
use Rattle.alg_proof.specs.declared.lines.Line.TheVariants as line
use Rattle.alg_proof.specs.Steps.{Step, Refl, Symm, Trans, Cong, Subst, Law, Lemma, Hyp, Rest, LitAdd, LitMul, LitRel, Bridge, Compute}

abbrev pub step_of : List Tree → Line → Step
step_of ts (line.Refl e) = Refl (tree_of ts e)
step_of ts (line.Symm i) = Symm i
step_of ts (line.Trans i j) = Trans i j
step_of ts (line.Cong f is) = Cong f is
step_of ts (line.Subst i j k) = Subst i j k
step_of ts (line.Law n s es is) = Law n s (trees_at ts es) is
step_of ts (line.Lemma n s es is) = Lemma n s (trees_at ts es) is
step_of ts (line.Hyp n) = Hyp n
step_of ts line.Rest = Rest
step_of ts (line.LitAdd s m n) = LitAdd s m n
step_of ts (line.LitMul s m n) = LitMul s m n
step_of ts (line.LitRel r s m n) = LitRel r s m n
step_of ts (line.Bridge k n e) = Bridge k n (tree_of ts e)
step_of ts (line.Compute h s xs) = Compute h s xs

abbrev pub steps_of : List Tree → List Line → List Step
steps_of ts ls = map (step_of ts) ls

-- the ids of the line are of this arena
abbrev pub IsLineIn : List Tree → Line → Type 0
IsLineIn ts (line.Refl e) = IsIn ts e
IsLineIn ts (line.Symm i) = ⊤
IsLineIn ts (line.Trans i j) = ⊤
IsLineIn ts (line.Cong f is) = ⊤
IsLineIn ts (line.Subst i j k) = ⊤
IsLineIn ts (line.Law n s es is) = All (IsIn ts) es
IsLineIn ts (line.Lemma n s es is) = All (IsIn ts) es
IsLineIn ts (line.Hyp n) = ⊤
IsLineIn ts line.Rest = ⊤
IsLineIn ts (line.LitAdd s m n) = ⊤
IsLineIn ts (line.LitMul s m n) = ⊤
IsLineIn ts (line.LitRel r s m n) = ⊤
IsLineIn ts (line.Bridge k n e) = IsIn ts e
IsLineIn ts (line.Compute h s xs) = ⊤
