-- The parts of a combination as the arena grows, and the jobs that are left.
use Rattle.std.proofs.Common.{◌≡◌, ℕ, refl, sym, ap, ◌∙◌, subst, List, [], ◌∷◌, ◌++◌, append_assoc, All, get_or, reverse, Option, Some, None}
use Rattle.std.proofs.lemmas.List.{reverse-append, map-append}
use Rattle.std.proofs.lemmas.List.Elements.{All-head, All-tail, All-push}
use Rattle.alg_terms.specs.declared.sorts.Sort.{Sort}
use Rattle.alg_terms.specs.Tree as terms
use Rattle.alg_expr.specs.Arena.{Extends}
use Rattle.alg_expr.proofs.ArenaLaws.{Extends-self, IsIn-extends, tree_of-extends}
use Rattle.alg_law.specs.declared.combo.ComboStep.{ComboStep}
use Rattle.alg_law.specs.declared.combo.ComboStep.TheVariants as step
use Rattle.alg_law.specs.Combinations.{Part, expression, part_of, parts_at, IsStepIn}
use Rattle.alg_syntax.specs.declared.signs.Operator.{Operator}
use Rattle.alg_syntax.specs.declared.signs.Operator.TheVariants.{Add, Sub, Mul, Div, Mod, Smul, Pow}
use Rattle.alg_syntax.specs.Expressions as syntax
use Rattle.alg_names.specs.declared.scope.Scope.{Scope}
use Rattle.alg_elaborate.specs.Raw.{Raws, applied_at}
use Rattle.alg_elaborate.specs.TypedTrees.{typed}
use Rattle.alg_combinations.specs.declared.combining.Job.{Job}
use Rattle.alg_combinations.specs.Combined.{joint, combined}
use Rattle.alg_combinations.specs.Combining.{left_of, JobsIn, step_of}

pub extends_self : (ts : List terms.Tree) → Extends ts ts
extends_self ts = Extends-self ts

pub not_applied : (s : Scope) (k : Sort) (o : Option (List ℕ)) (us : Raws) → combined s k (applied_at o us) ≡ expression (typed s k (applied_at o us)) ∷ []
not_applied s k None us = refl
not_applied s k (Some x) us = refl

step_kept : (old new : List terms.Tree) (c : ComboStep) → Extends old new → IsStepIn old c → IsStepIn new c × (part_of new c ≡ part_of old c)
step_kept old new (step.Hyp n) x h = (tt, refl)
step_kept old new (step.Expr e) x h = (IsIn-extends old new e x h, ap expression (tree_of-extends old new e x h))
step_kept old new step.Neg x h = (tt, refl)
step_kept old new step.Add x h = (tt, refl)
step_kept old new step.Sub x h = (tt, refl)
step_kept old new step.Mul x h = (tt, refl)
step_kept old new step.Div x h = (tt, refl)

-- the arena grows
pub steps_kept : (old new : List terms.Tree) (cs : List ComboStep) → Extends old new → All (IsStepIn old) cs → All (IsStepIn new) cs
steps_kept old new cs x h = λ i d l. (step_kept old new (get_or cs i d) x (h i d l)).0

pub parts_kept : (old new : List terms.Tree) (cs : List ComboStep) → Extends old new → All (IsStepIn old) cs → parts_at new cs ≡ parts_at old cs
parts_kept old new [] x h = refl
parts_kept old new (c ∷ cs) x h = λ i. (step_kept old new c x (All-head (IsStepIn old) c cs h)).1 i ∷ parts_kept old new cs x (All-tail (IsStepIn old) c cs h) i

-- What is combined so far, with what is left, is the whole.
pub record IsSoFar (ts : List terms.Tree) (cs : List ComboStep) (left whole : List Part) : Type 0 where
  pub here : All (IsStepIn ts) cs
  pub said : parts_at ts cs ++ left ≡ whole

-- one step more, in an arena that has grown
pub so_far-push : (old new : List terms.Tree) (cs all : List ComboStep) (c : ComboStep) (v : Part) (before left whole : List Part) → Extends old new → IsSoFar old cs before whole → IsStepIn new c → part_of new c ≡ v → all ≡ cs ++ c ∷ [] → before ≡ v ∷ left → IsSoFar new all left whole
so_far-push old new cs all c v before left whole x h i p e f =
    record {
      here = subst (λ (xs : List ComboStep). All (IsStepIn new) xs) (sym e) (All-push (IsStepIn new) cs c (steps_kept old new cs x h.here) i);
      said = ap (λ xs. parts_at new xs ++ left) e
          ∙ ap (λ xs. xs ++ left) (map-append (part_of new) cs (c ∷ []))
          ∙ append_assoc (parts_at new cs) (part_of new c ∷ []) left
          ∙ (λ j. parts_kept old new cs x h.here j ++ (p j ∷ left))
          ∙ ap (λ xs. parts_at old cs ++ xs) (sym f)
          ∙ h.said;
    }

pub so_far-same : (ts us : List terms.Tree) (cs : List ComboStep) (before left whole : List Part) → us ≡ ts → IsSoFar ts cs before whole → before ≡ left → IsSoFar us cs left whole
so_far-same ts us cs before left whole e h f = subst (λ (x : List terms.Tree). IsSoFar x cs left whole) (sym e) (subst (λ xs. IsSoFar ts cs xs whole) f h)

-- the newest job stands first
pub newest : (s : Scope) (k : Sort) (ts : List syntax.Tree) (items rest : List Job) (j : Job) → items ≡ rest ++ j ∷ [] → left_of s k ts (reverse items) ≡ left_of s k ts (j ∷ reverse rest)
newest s k ts items rest j e = ap (left_of s k ts) (ap reverse e ∙ reverse-append rest (j ∷ []))

pub step_part : (ts : List terms.Tree) (o : Operator) → part_of ts (step_of o) ≡ joint o
step_part ts Add = refl
step_part ts Sub = refl
step_part ts Mul = refl
step_part ts Div = refl
step_part ts Mod = refl
step_part ts Smul = refl
step_part ts Pow = refl

pub step_here : (ts : List terms.Tree) (o : Operator) → IsStepIn ts (step_of o)
step_here ts Add = tt
step_here ts Sub = tt
step_here ts Mul = tt
step_here ts Div = tt
step_here ts Mod = tt
step_here ts Smul = tt
step_here ts Pow = tt

-- the jobs behind the newest
pub rest_within : (n : ℕ) (items rest : List Job) (j : Job) → JobsIn n (reverse items) → items ≡ rest ++ j ∷ [] → JobsIn n (reverse rest)
rest_within n items rest j h e = (subst (JobsIn n) (ap reverse e ∙ reverse-append rest (j ∷ [])) h).1
