-- What the code keeps of lines: names are such, and the numbers of sorts, symbols and variables and all literals of trees are in range.
use Rattle.std.specs.Prelude.{⊤, All}
use Rattle.alg_terms.specs.Tree.{Tree, Trees, Nil, Cons, Lit as literal, Var as variable, App as node, Statement}
use Rattle.alg_proof.specs.Names.{IsName}
use Rattle.alg_proof.specs.Steps.{Step, Refl, Symm, Trans, Cong, Subst, Law, Lemma, Hyp, Rest, LitAdd, LitMul, LitRel, Bridge, Compute}
use Rattle.alg_certificate.specs.Spelling.{IsInRange, SortFits, SymbolFits, HeadFits}

abbrev mutual
  pub TreeInRange : Tree → Type 0
  TreeInRange (literal s n) = SortFits s × IsInRange n
  TreeInRange (variable k s) = IsInRange k
  TreeInRange (node f s ts) = SymbolFits f × TreesInRange ts

  -- of each
  pub TreesInRange : Trees → Type 0
  TreesInRange Nil = ⊤
  TreesInRange (Cons t ts) = TreeInRange t × TreesInRange ts

abbrev pub StepInRange : Step → Type 0
StepInRange (Refl t) = TreeInRange t
StepInRange (Symm i) = ⊤
StepInRange (Trans i j) = ⊤
StepInRange (Cong f is) = SymbolFits f
StepInRange (Subst i j k) = ⊤
StepInRange (Law n s ts is) = IsName n × SortFits s × All TreeInRange ts
StepInRange (Lemma n s ts is) = IsName n × SortFits s × All TreeInRange ts
StepInRange (Hyp n) = ⊤
StepInRange Rest = ⊤
StepInRange (LitAdd s m n) = SortFits s
StepInRange (LitMul s m n) = SortFits s
StepInRange (LitRel r s m n) = SortFits s
StepInRange (Bridge b n t) = TreeInRange t
StepInRange (Compute h s xs) = HeadFits h × SortFits s

abbrev pub StatementInRange : Statement → Type 0
StatementInRange s = SortFits s.sort × TreeInRange s.lhs × TreeInRange s.rhs
