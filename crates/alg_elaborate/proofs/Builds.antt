-- The trees that were built.
use Rattle.std.proofs.Common.{◌≡◌, ℕ, zero, suc, ◌+◌, ◌≤◌, List, [], ◌∷◌, ◌++◌, length, reverse, take, drop, refl, sym, ap, subst, ◌∙◌, arith, length-append, Option, Some}
use Rattle.std.specs.List.{AllByRecursion}
use Rattle.std.proofs.lemmas.List.{reverse-append, map-append, take-map, drop-map}
use Rattle.alg_terms.specs.declared.sorts.Sort.{Sort}
use Rattle.alg_terms.specs.declared.symbols.Sym.{Sym}
use Rattle.alg_terms.specs.Tree as terms
use Rattle.alg_expr.specs.declared.ids.ExprId.{ExprId}
use Rattle.alg_expr.specs.Arena.{Extends}
use Rattle.alg_expr.proofs.ArenaLaws.{IsIn-extends, tree_of-extends}
use Rattle.alg_expr.specs.Ids.{tree_of, IsIn, trees_at}
use Rattle.alg_syntax.specs.Expressions.{Tree}
use Rattle.alg_syntax.specs.Nodes.{tree_at}
use Rattle.alg_names.specs.declared.scope.Scope.{Scope}
use Rattle.alg_elaborate.specs.declared.building.Job.{Job}
use Rattle.alg_elaborate.specs.declared.building.Job.TheVariants as job
use Rattle.alg_elaborate.specs.declared.building.Leaf.{Leaf}
use Rattle.alg_elaborate.specs.Raw.{meant}
use Rattle.alg_elaborate.specs.TypedTrees.{compound, typed}
use Rattle.alg_elaborate.specs.Jobs.{done, step, Enough, JobsIn, leaf_tree, with_leaf, leaves_in}

abbrev pub Below : List terms.Tree → List ExprId → Type 0
Below ts ids = AllByRecursion (IsIn ts) ids

-- growing changes no tree that is there
pub grown : (old new : List terms.Tree) (ids : List ExprId) → Extends old new → Below old ids → (trees_at new ids ≡ trees_at old ids) × Below new ids
grown old new [] g b = (refl, tt)
grown old new (i ∷ ids) g b =
    let r = grown old new ids g b.1 in
    (ap (λ t. t ∷ trees_at new ids) (tree_of-extends old new i g b.0) ∙ ap (λ ts. tree_of old i ∷ ts) r.0, (IsIn-extends old new i g b.0, r.1))

below_push : (n : List terms.Tree) (ids : List ExprId) (id : ExprId) → Below n ids → IsIn n id → Below n (ids ++ id ∷ [])
below_push n [] id b h = (h, tt)
below_push n (i ∷ ids) id b h = (b.0, below_push n ids id b.1 h)

below_take : (n : List terms.Tree) (k : ℕ) (ids : List ExprId) → Below n ids → Below n (take k ids)
below_take n zero ids b = tt
below_take n (suc k) [] b = tt
below_take n (suc k) (i ∷ ids) b = (b.0, below_take n k ids b.1)

pub value_pushed : (old new : List terms.Tree) (ids all : List ExprId) (id : ExprId) (t : terms.Tree) → Below old ids → Extends old new → IsIn new id → tree_of new id ≡ t → all ≡ ids ++ id ∷ [] → (trees_at new all ≡ trees_at old ids ++ t ∷ []) × Below new all
value_pushed old new ids all id t b g l m e =
    let r = grown old new ids g b in (
      ap (trees_at new) e ∙ (map-append (tree_of new) ids (id ∷ []) ∙ λ i. r.0 i ++ m i ∷ []),
      subst (Below new) (sym e) (below_push new ids id r.1 l),
    )

-- the job that was taken
pub job_taken : (s : Scope) (ts : List Tree) (root vs : List terms.Tree) (items rest : List Job) (j k : Job) → root ≡ done s ts (reverse items) vs → items ≡ rest ++ j ∷ [] → j ≡ k → root ≡ done s ts (reverse rest) (step s ts k vs)
job_taken s ts root vs items rest j k h e f = h ∙ (ap (λ js. done s ts js vs) (ap reverse e ∙ reverse-append rest (j ∷ [])) ∙ ap (λ x. done s ts (reverse rest) (step s ts x vs)) f)

pub enough_taken : (items rest : List Job) (j k : Job) (m : ℕ) → Enough (reverse items) m → items ≡ rest ++ j ∷ [] → j ≡ k → Enough (k ∷ reverse rest) m
enough_taken items rest j k m h e f = subst (λ (x : Job). Enough (x ∷ reverse rest) m) f (subst (λ js. Enough js m) (ap reverse e ∙ reverse-append rest (j ∷ [])) h)

pub length_pushed : (ids all : List ExprId) (id : ExprId) → all ≡ ids ++ id ∷ [] → length all ≡ length ids + 1
length_pushed ids all id e = ap length e ∙ length-append ids (id ∷ [])

length_take : (n : ℕ) (ids : List ExprId) → n ≤ length ids → length (take n ids) ≡ n
length_take zero ids h = refl
length_take (suc n) [] h = absurd (omega arith)
length_take (suc n) (i ∷ ids) h = ap suc (length_take n ids (omega arith))

-- a symbol takes the last values
pub symbol_pushed : (old new : List terms.Tree) (ids all : List ExprId) (id : ExprId) (n : ℕ) (f : Sym) (k : Sort) → n ≤ length ids → Below old ids → Extends old new → IsIn new id → tree_of new id ≡ compound f k (trees_at old (drop n ids)) → all ≡ take n ids ++ id ∷ [] → (trees_at new all ≡ take n (trees_at old ids) ++ compound f k (drop n (trees_at old ids)) ∷ []) × Below new all × (length all ≡ suc n)
symbol_pushed old new ids all id n f k h b g l m e =
    let p = value_pushed old new (take n ids) all id (compound f k (trees_at old (drop n ids))) (below_take old n ids b) g l m e in (
      p.0 ∙ (λ i. sym (take-map (tree_of old) n ids) i ++ compound f k (sym (drop-map (tree_of old) n ids) i) ∷ []),
      p.1,
      omega (arith, length_pushed (take n ids) all id e, length_take n ids h),
    )

pub after_leaf : (s : Scope) (ts : List Tree) (root vs : List terms.Tree) (items rest new : List Job) (j : Job) (k : Sort) (i start : ℕ) (o : Option Leaf) (l : Leaf) → root ≡ done s ts (reverse items) vs → items ≡ rest ++ j ∷ [] → j ≡ job.Down k i → length vs ≡ start → ((ws : List terms.Tree) → length ws ≡ start → done s ts (reverse rest) (ws ++ typed s k (meant (tree_at ts i)) ∷ []) ≡ done s ts (reverse new) (with_leaf k o ws)) → o ≡ Some l → root ≡ done s ts (reverse new) (vs ++ leaf_tree k l ∷ [])
after_leaf s ts root vs items rest new j k i start o l h e f n x q =
    job_taken s ts root vs items rest j (job.Down k i) h e f ∙ (x vs n ∙ ap (λ p. done s ts (reverse new) (with_leaf k p vs)) q)

pub enough_leaf : (new : List Job) (o : Option Leaf) (l : Leaf) (start m : ℕ) → Enough (reverse new) (start + leaves_in o) → o ≡ Some l → m ≡ start + 1 → Enough (reverse new) m
enough_leaf new o l start m h q e = subst (Enough (reverse new)) (let z : start + leaves_in o ≡ m = ap (λ p. start + leaves_in p) q ∙ sym e in z) h

pub in_taken : (s : Scope) (ts : List Tree) (items rest : List Job) (j : Job) → JobsIn s ts (reverse items) → items ≡ rest ++ j ∷ [] → JobsIn s ts (reverse rest)
in_taken s ts items rest j h e = (subst (JobsIn s ts) (ap reverse e ∙ reverse-append rest (j ∷ [])) h).1
