-- The last argument of an application.
use Rattle.std.proofs.Common.{◌≡◌, ℕ, zero, suc, ◌+◌, ◌≤◌, ◌<◌, refl, sym, ap, subst, ◌∙◌, arith, List, [], ◌∷◌, ◌++◌, length, reverse, take, Bool, Some, None, append_assoc, append-nil}
use Rattle.std.specs.Prelude.{slice_get}
use Rattle.std.proofs.lemmas.List.{reverse-append}
use Rattle.std.proofs.lemmas.Option.{none-some}
use Rattle.alg_terms.specs.declared.sorts.Sort.{Sort}
use Rattle.alg_syntax.specs.Expressions.{Tree, apply}
use Rattle.alg_syntax.specs.Nodes.{tree_at}
use Rattle.alg_names.specs.declared.scope.Scope.{Scope}
use Rattle.alg_elaborate.specs.declared.faults.Task.{Task}
use Rattle.alg_elaborate.specs.declared.faults.Task.TheVariants as task
use Rattle.alg_elaborate.specs.Raw.{Raws, none, more, count, meant, arguments}
use Rattle.alg_elaborate.specs.Faults.{faults, faults_of_each}
use Rattle.alg_elaborate.specs.Tasks.{task_faults, faults_of_all, TaskIn, TasksIn, sorts_for}
use Rattle.alg_elaborate.proofs.SpineLemmas.{count_apply, joined, arguments_joined}

each_joined : (s : Scope) (c : Bool) (us vs : Raws) (ks ls : List Sort) → count us ≡ length ks → faults_of_each s c (joined us vs) (ks ++ ls) ≡ faults_of_each s c us ks ++ faults_of_each s c vs ls
each_joined s c none vs [] ls e = refl
each_joined s c none vs (k ∷ ks) ls e = absurd (omega arith)
each_joined s c (more a us) vs [] ls e = absurd (omega arith)
each_joined s c (more a us) vs (k ∷ ks) ls e = ap (λ xs. faults s c k a ++ xs) (each_joined s c us vs ks ls (omega arith)) ∙ sym (append_assoc (faults s c k a) (faults_of_each s c us ks) (faults_of_each s c vs ls))

pub take_last : (ks : List Sort) (n : ℕ) (k : Sort) → slice_get ks n ≡ Some k → (take (suc n) ks ≡ take n ks ++ k ∷ []) × (length (take n ks) ≡ n)
take_last [] n k e = absurd (none-some _ e)
take_last (x ∷ ks) zero k e = ((let h : x ≡ k = cc in ap (λ y. y ∷ []) h), refl)
take_last (x ∷ ks) (suc n) k e = let r = take_last ks n k e in (ap (λ ys. x ∷ ys) r.0, ap suc r.1)

last_faults : (s : Scope) (c : Bool) (t a b : Tree) (m n : ℕ) (ks : List Sort) (k : Sort) → t ≡ apply a b → count (arguments t none) ≡ n → m + 1 ≡ n → slice_get ks m ≡ Some k → faults_of_each s c (arguments t none) (take n ks) ≡ faults_of_each s c (arguments a none) (take m ks) ++ faults s c k (meant b)
last_faults s c t a b m n ks k e x l g =
    let d = count_apply t a b e in
    let q = take_last ks m k g in
    let cut : take n ks ≡ take m ks ++ k ∷ [] = ap (λ (i : ℕ). take i ks) (let z : n ≡ suc m = omega arith in z) ∙ q.0 in
    ap (λ (x : Tree). faults_of_each s c (arguments x none) (take n ks)) e
    ∙ (ap (λ us. faults_of_each s c us (take n ks)) (arguments_joined a (more (meant b) none))
    ∙ (ap (faults_of_each s c (joined (arguments a none) (more (meant b) none))) cut
    ∙ (each_joined s c (arguments a none) (more (meant b) none) (take m ks) (k ∷ []) (omega (arith, q.1))
    ∙ ap (λ xs. faults_of_each s c (arguments a none) (take m ks) ++ xs) (append-nil (faults s c k (meant b))))))

pub some_there : (t a b : Tree) (n : ℕ) → t ≡ apply a b → count (arguments t none) ≡ n → 1 ≤ n
some_there t a b n e c = omega (arith, count_apply t a b e)

-- an index below the length has something
pub none_there : {A : Type 0} (xs : List A) (m n : ℕ) → m + 1 ≡ n → n ≤ length xs → slice_get xs m ≡ None → ⊥
none_there [] m n l h e = omega arith
none_there (x ∷ xs) zero n l h e = none-some _ (sym e)
none_there (x ∷ xs) (suc m) n l h e = none_there xs m (suc m) (omega arith) (omega arith) e

two_pushed : (items one two : List Task) (l a : Task) → one ≡ items ++ l ∷ [] → two ≡ one ++ a ∷ [] → reverse two ≡ a ∷ l ∷ reverse items
two_pushed items one two l a e f = ap reverse f ∙ (reverse-append one (a ∷ []) ∙ ap (λ xs. a ∷ xs) (ap reverse e ∙ reverse-append items (l ∷ [])))

pub last_same : (s : Scope) (c : Bool) (ts : List Tree) (g : Sort) (h m n i a b : ℕ) (k : Sort) (items one two : List Task) → TaskIn s ts (task.Arguments g h n i) → tree_at ts i ≡ apply (tree_at ts a) (tree_at ts b) → m + 1 ≡ n → slice_get (sorts_for s ts g h) m ≡ Some k → one ≡ items ++ task.Expression k b ∷ [] → two ≡ one ++ task.Arguments g h m a ∷ [] → faults_of_all s c ts (reverse two) ≡ task_faults s c ts (task.Arguments g h n i) ++ faults_of_all s c ts (reverse items)
last_same s c ts g h m n i a b k items one two w e l x p q =
    ap (faults_of_all s c ts) (two_pushed items one two _ _ p q)
    ∙ (sym (append_assoc (task_faults s c ts (task.Arguments g h m a)) (faults s c k (meant (tree_at ts b))) (faults_of_all s c ts (reverse items)))
    ∙ ap (λ xs. xs ++ faults_of_all s c ts (reverse items)) (sym (last_faults s c (tree_at ts i) (tree_at ts a) (tree_at ts b) m n (sorts_for s ts g h) k e w.2 l x)))

pub last_in : (s : Scope) (ts : List Tree) (g : Sort) (h m n i a b : ℕ) (k : Sort) (items one two : List Task) → TaskIn s ts (task.Arguments g h n i) → a < i → b < i → tree_at ts i ≡ apply (tree_at ts a) (tree_at ts b) → m + 1 ≡ n → TasksIn s ts (reverse items) → one ≡ items ++ task.Expression k b ∷ [] → two ≡ one ++ task.Arguments g h m a ∷ [] → TasksIn s ts (reverse two)
last_in s ts g h m n i a b k items one two w la lb e l u p q =
    let i_in = w.0 in let h_in = w.1 in let n_is = w.2 in let n_in = w.3 in
    let c = count_apply (tree_at ts i) (tree_at ts a) (tree_at ts b) e in
    subst (TasksIn s ts) (sym (two_pushed items one two (task.Expression k b) (task.Arguments g h m a) p q)) ((omega arith, h_in, omega arith, omega arith), (omega arith, u))
