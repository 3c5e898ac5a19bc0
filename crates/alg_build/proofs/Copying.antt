-- Parts of a combination that are copied one after another.
use Rattle.std.proofs.Common.{◌≡◌, ℕ, ◌+◌, ◌<◌, List, [], ◌∷◌, ◌++◌, length, All, take, get_or, refl, ap, add-one}
use Rattle.std.proofs.lemmas.List.{map-append}
use Rattle.std.proofs.lemmas.List.Elements.{All-head, All-tail, All-push}
use Rattle.std.proofs.Math.Seq.{take-suc}
use Rattle.alg_terms.specs.Tree.{Tree}
use Rattle.alg_expr.specs.Arena.{Extends}
use Rattle.alg_expr.proofs.ArenaLaws.{IsIn-extends, tree_of-extends}
use Rattle.alg_law.specs.declared.combo.ComboStep.{ComboStep}
use Rattle.alg_law.specs.declared.combo.ComboStep.TheVariants as step
use Rattle.alg_law.specs.Combinations.{expression, part_of, parts_at, IsStepIn}

module _ (ts us : List Tree) (x : Extends ts us) where
  part_of-extends : (c : ComboStep) → IsStepIn ts c → part_of us c ≡ part_of ts c
  part_of-extends (step.Hyp n) h = refl
  part_of-extends (step.Expr e) h = ap expression (tree_of-extends ts us e x h)
  part_of-extends step.Neg h = refl
  part_of-extends step.Add h = refl
  part_of-extends step.Sub h = refl
  part_of-extends step.Mul h = refl
  part_of-extends step.Div h = refl

  IsStepIn-extends : (c : ComboStep) → IsStepIn ts c → IsStepIn us c
  IsStepIn-extends (step.Hyp n) h = tt
  IsStepIn-extends (step.Expr e) h = IsIn-extends ts us e x h
  IsStepIn-extends step.Neg h = tt
  IsStepIn-extends step.Add h = tt
  IsStepIn-extends step.Sub h = tt
  IsStepIn-extends step.Mul h = tt
  IsStepIn-extends step.Div h = tt

  parts_at-extends : (cs : List ComboStep) → All (IsStepIn ts) cs → parts_at us cs ≡ parts_at ts cs
  parts_at-extends [] h = refl
  parts_at-extends (c ∷ cs) h =
      let a = part_of-extends c (All-head (IsStepIn ts) c cs h) in
      let b = parts_at-extends cs (All-tail (IsStepIn ts) c cs h) in
      λ i. a i ∷ b i

  pub copied_in : (cs : List ComboStep) (c : ComboStep) → All (IsStepIn ts) cs → IsStepIn us c → All (IsStepIn us) (cs ++ c ∷ [])
  copied_in cs c h k = All-push (IsStepIn us) cs c (λ n d l. IsStepIn-extends _ (h n d l)) k

  pub copied_next : (from : List Tree) (steps cs : List ComboStep) (i : ℕ) (c d : ComboStep) → i < length steps → All (IsStepIn ts) cs → parts_at ts cs ≡ parts_at from (take i steps) → part_of us c ≡ part_of from (get_or steps i d)
      → parts_at us (cs ++ c ∷ []) ≡ parts_at from (take (i + 1) steps)
  copied_next from steps cs i c d l h e f =
      rw (add-one, take-suc steps i d l, map-append (part_of us) cs (c ∷ []), map-append (part_of from) (take i steps) (get_or steps i d ∷ []), parts_at-extends cs h, e, f) refl
