-- The last argument of an application, as a job.
use Rattle.std.proofs.Common.{◌≡◌, ℕ, suc, ◌+◌, ◌<◌, refl, sym, ap, subst, ◌∙◌, arith, List, [], ◌∷◌, ◌++◌, length, reverse, take, Some, append_assoc}
use Rattle.std.specs.Prelude.{slice_get}
use Rattle.std.proofs.lemmas.List.{reverse-append}
use Rattle.alg_terms.specs.declared.sorts.Sort.{Sort}
use Rattle.alg_terms.specs.Tree as terms
use Rattle.alg_syntax.specs.Expressions.{Tree, apply}
use Rattle.alg_syntax.specs.Nodes.{tree_at}
use Rattle.alg_names.specs.declared.scope.Scope.{Scope}
use Rattle.alg_elaborate.specs.declared.building.Job.{Job}
use Rattle.alg_elaborate.specs.declared.building.Job.TheVariants as job
use Rattle.alg_elaborate.specs.Raw.{Raws, none, more, count, meant, arguments}
use Rattle.alg_elaborate.specs.Tasks.{sorts_for}
use Rattle.alg_elaborate.specs.TypedTrees.{typed, typed_each}
use Rattle.alg_elaborate.specs.Jobs.{done, JobIn, JobsIn, Enough}
use Rattle.alg_elaborate.proofs.LastArguments.{take_last}
use Rattle.alg_elaborate.proofs.SpineLemmas.{count_apply, joined, arguments_joined}

each_joined : (s : Scope) (us vs : Raws) (ks ls : List Sort) → count us ≡ length ks → typed_each s (joined us vs) (ks ++ ls) ≡ typed_each s us ks ++ typed_each s vs ls
each_joined s none vs [] ls e = refl
each_joined s none vs (k ∷ ks) ls e = absurd (omega arith)
each_joined s (more a us) vs [] ls e = absurd (omega arith)
each_joined s (more a us) vs (k ∷ ks) ls e = ap (λ xs. typed s k a ∷ xs) (each_joined s us vs ks ls (omega arith))

last_typed : (s : Scope) (t a b : Tree) (m n : ℕ) (ks : List Sort) (k : Sort) → t ≡ apply a b → count (arguments t none) ≡ n → m + 1 ≡ n → slice_get ks m ≡ Some k → typed_each s (arguments t none) (take n ks) ≡ typed_each s (arguments a none) (take m ks) ++ typed s k (meant b) ∷ []
last_typed s t a b m n ks k e c l g =
    let d = count_apply t a b e in
    let q = take_last ks m k g in
    let cut : take n ks ≡ take m ks ++ k ∷ [] = ap (λ (i : ℕ). take i ks) (let z : n ≡ suc m = omega arith in z) ∙ q.0 in
    ap (λ (x : Tree). typed_each s (arguments x none) (take n ks)) e
    ∙ (ap (λ us. typed_each s us (take n ks)) (arguments_joined a (more (meant b) none))
    ∙ (ap (typed_each s (joined (arguments a none) (more (meant b) none))) cut
    ∙ each_joined s (arguments a none) (more (meant b) none) (take m ks) (k ∷ []) (omega (arith, q.1))))

two_pushed : (items one two : List Job) (l a : Job) → one ≡ items ++ l ∷ [] → two ≡ one ++ a ∷ [] → reverse two ≡ a ∷ l ∷ reverse items
two_pushed items one two l a e f = ap reverse f ∙ (reverse-append one (a ∷ []) ∙ ap (λ xs. a ∷ xs) (ap reverse e ∙ reverse-append items (l ∷ [])))

pub last_same : (s : Scope) (ts : List Tree) (g : Sort) (h m n i a b : ℕ) (k : Sort) (items one two : List Job) → JobIn s ts (job.Arguments g h n i) → tree_at ts i ≡ apply (tree_at ts a) (tree_at ts b) → m + 1 ≡ n → slice_get (sorts_for s ts g h) m ≡ Some k → one ≡ items ++ job.Down k b ∷ [] → two ≡ one ++ job.Arguments g h m a ∷ [] → (vs : List terms.Tree) → done s ts (reverse two) vs ≡ done s ts (job.Arguments g h n i ∷ reverse items) vs
last_same s ts g h m n i a b k items one two w e l x p q vs =
    ap (λ js. done s ts js vs) (two_pushed items one two _ _ p q)
    ∙ ap (done s ts (reverse items)) (append_assoc vs (typed_each s (arguments (tree_at ts a) none) (take m (sorts_for s ts g h))) (typed s k (meant (tree_at ts b)) ∷ [])
    ∙ ap (λ xs. vs ++ xs) (sym (last_typed s (tree_at ts i) (tree_at ts a) (tree_at ts b) m n (sorts_for s ts g h) k e w.2 l x)))

pub last_in : (s : Scope) (ts : List Tree) (g : Sort) (h m n i a b : ℕ) (k : Sort) (items one two : List Job) → JobIn s ts (job.Arguments g h n i) → a < i → b < i → tree_at ts i ≡ apply (tree_at ts a) (tree_at ts b) → m + 1 ≡ n → JobsIn s ts (reverse items) → one ≡ items ++ job.Down k b ∷ [] → two ≡ one ++ job.Arguments g h m a ∷ [] → JobsIn s ts (reverse two)
last_in s ts g h m n i a b k items one two w la lb e l u p q =
    let i_in = w.0 in let h_in = w.1 in let n_is = w.2 in let n_in = w.3 in
    let c = count_apply (tree_at ts i) (tree_at ts a) (tree_at ts b) e in
    subst (JobsIn s ts) (sym (two_pushed items one two (job.Down k b) (job.Arguments g h m a) p q)) ((omega arith, h_in, omega arith, omega arith), (omega arith, u))

pub last_enough : (g : Sort) (h m n i a b : ℕ) (k : Sort) (items one two : List Job) → m + 1 ≡ n → one ≡ items ++ job.Down k b ∷ [] → two ≡ one ++ job.Arguments g h m a ∷ [] → (v : ℕ) → Enough (reverse items) (v + n) → Enough (reverse two) v
last_enough g h m n i a b k items one two l p q v w =
    subst (λ js. Enough js v) (sym (two_pushed items one two (job.Down k b) (job.Arguments g h m a) p q)) (subst (Enough (reverse items)) (let z : v + n ≡ suc (v + m) = omega arith in z) w)
