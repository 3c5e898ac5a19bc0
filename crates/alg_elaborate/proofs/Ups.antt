-- A symbol takes the trees of its parts.
use Rattle.std.proofs.Common.{◌≡◌, ℕ, refl, sym, ap, ◌∙◌, arith, List, [], ◌∷◌, ◌++◌, length, reverse, take, Option, Some, None, append_assoc, true, false}
use Rattle.std.specs.Prelude.{nat_eq}
use Rattle.std.proofs.lemmas.Bool.Decides.{nat_tests}
use Rattle.std.proofs.lemmas.List.{take_at, drop_at, reverse-append}
use Rattle.alg_terms.specs.declared.sorts.Sort.{Sort}
use Rattle.alg_terms.specs.declared.symbols.Sym.{Sym}
use Rattle.alg_terms.specs.Tree as terms
use Rattle.alg_syntax.specs.Expressions.{Tree}
use Rattle.alg_syntax.specs.Nodes.{tree_at}
use Rattle.alg_names.specs.declared.meanings.Meaning.{Meaning}
use Rattle.alg_names.specs.declared.scope.Scope.{Scope}
use Rattle.alg_names.specs.InForce.{meaning}
use Rattle.alg_elaborate.specs.declared.building.Job.{Job}
use Rattle.alg_elaborate.specs.declared.building.Job.TheVariants as job
use Rattle.alg_elaborate.specs.Raw.{none, meant, arguments, head_of, name_in, count, IsApply}
use Rattle.alg_elaborate.specs.Meanings.{argument_sorts, symbol_of}
use Rattle.alg_elaborate.specs.Tasks.{sorts_for}
use Rattle.alg_elaborate.specs.TypedTrees.{compound, typed, typed_each, tree_where}
use Rattle.alg_elaborate.specs.Jobs.{done}
use Rattle.alg_elaborate.proofs.Applications.{applied_name, applied_nothing}

pub up_all : (s : Scope) (ts : List Tree) (js : List Job) (f : Sym) (k : Sort) (n : ℕ) (vs us : List terms.Tree) → length vs ≡ n → done s ts (job.Up f k n ∷ js) (vs ++ us) ≡ done s ts js (vs ++ compound f k us ∷ [])
up_all s ts js f k n vs us e = λ i. done s ts js (take_at vs us n e i ++ compound f k (drop_at vs us n e i) ∷ [])

pub up_one : (s : Scope) (ts : List Tree) (js : List Job) (f : Sym) (k : Sort) (n : ℕ) (vs : List terms.Tree) (a : terms.Tree) → length vs ≡ n → done s ts (job.Up f k n ∷ js) (vs ++ a ∷ []) ≡ done s ts js (vs ++ compound f k (a ∷ []) ∷ [])
up_one s ts js f k n vs a e = up_all s ts js f k n vs (a ∷ []) e

pub up_two : (s : Scope) (ts : List Tree) (js : List Job) (f : Sym) (k : Sort) (n : ℕ) (vs : List terms.Tree) (a b : terms.Tree) → length vs ≡ n → done s ts (job.Up f k n ∷ js) ((vs ++ a ∷ []) ++ b ∷ []) ≡ done s ts js (vs ++ compound f k (a ∷ b ∷ []) ∷ [])
up_two s ts js f k n vs a b e = ap (done s ts (job.Up f k n ∷ js)) (append_assoc vs (a ∷ []) (b ∷ [])) ∙ up_all s ts js f k n vs (a ∷ b ∷ []) e

take_all : {A : Type 0} (xs : List A) → take (length xs) xs ≡ xs
take_all [] = refl
take_all (x ∷ xs) = ap (λ ys. x ∷ ys) (take_all xs)

same_count : (m n : ℕ) → m ≡ n → nat_eq m n ≡ true
same_count m n e = grind (arith, nat_tests)

other_count : (m n : ℕ) → (m ≡ n → ⊥) → nat_eq m n ≡ false
other_count m n e = grind (arith, nat_tests)

-- an application to as many arguments as its function has
pub typed_whole : (s : Scope) (k : Sort) (t : Tree) (x : List ℕ) (m : Option Meaning) (n : ℕ) → IsApply t → head_of t ≡ Some x → m ≡ meaning s x → n ≡ count (arguments t none) → n ≡ length (argument_sorts k m) → typed s k (meant t) ≡ compound (symbol_of m) k (typed_each s (arguments t none) (take n (argument_sorts k (meaning s x))))
typed_whole s k t x m n h e p c l =
    let us = arguments t none in
    let ks = argument_sorts k (meaning s x) in
    let l2 : n ≡ length ks = l ∙ ap (λ o. length (argument_sorts k o)) p in
    let same : count us ≡ length ks = sym c ∙ l2 in
    let all : take n ks ≡ ks = ap (λ (i : ℕ). take i ks) l2 ∙ take_all ks in
    ap (typed s k) (applied_name t x h e)
    ∙ (ap (λ w. tree_where w (compound (symbol_of (meaning s x)) k (typed_each s us ks)) k) (same_count (count us) (length ks) same)
    ∙ λ i. compound (symbol_of (sym p i)) k (typed_each s us (sym all i)))

-- an application to another number of arguments
pub typed_partial : (s : Scope) (k : Sort) (t : Tree) (x : List ℕ) (m : Option Meaning) (n : ℕ) → IsApply t → head_of t ≡ Some x → m ≡ meaning s x → n ≡ count (arguments t none) → (n ≡ length (argument_sorts k m) → ⊥) → typed s k (meant t) ≡ terms.Lit k 0
typed_partial s k t x m n h e p c l =
    let us = arguments t none in
    let ks = argument_sorts k (meaning s x) in
    ap (typed s k) (applied_name t x h e)
    ∙ ap (λ w. tree_where w (compound (symbol_of (meaning s x)) k (typed_each s us ks)) k) (other_count (count us) (length ks) (λ q. l (c ∙ (q ∙ ap (λ o. length (argument_sorts k o)) (sym p)))))

pub typed_headless : (s : Scope) (k : Sort) (t : Tree) → IsApply t → head_of t ≡ None → typed s k (meant t) ≡ terms.Lit k 0
typed_headless s k t h e = ap (typed s k) (applied_nothing t h e)

two_pushed : (items one two : List Job) (l a : Job) → one ≡ items ++ l ∷ [] → two ≡ one ++ a ∷ [] → reverse two ≡ a ∷ l ∷ reverse items
two_pushed items one two l a e f = ap reverse f ∙ (reverse-append one (a ∷ []) ∙ ap (λ xs. a ∷ xs) (ap reverse e ∙ reverse-append items (l ∷ [])))

pub applied_planned : (s : Scope) (ts : List Tree) (k : Sort) (i h n start : ℕ) (m : Option Meaning) (f : Sym) (items one two : List Job) → IsApply (tree_at ts i) → head_of (tree_at ts i) ≡ Some (name_in (tree_at ts h)) → m ≡ meaning s (name_in (tree_at ts h)) → n ≡ count (arguments (tree_at ts i) none) → n ≡ length (argument_sorts k m) → f ≡ symbol_of m → one ≡ items ++ job.Up f k start ∷ [] → two ≡ one ++ job.Arguments k h n i ∷ [] → (vs : List terms.Tree) → length vs ≡ start → done s ts (reverse items) (vs ++ typed s k (meant (tree_at ts i)) ∷ []) ≡ done s ts (reverse two) vs
applied_planned s ts k i h n start m f items one two a e p c l g q r vs z =
    let us = typed_each s (arguments (tree_at ts i) none) (take n (sorts_for s ts k h)) in
    ap (λ t. done s ts (reverse items) (vs ++ t ∷ [])) (typed_whole s k (tree_at ts i) (name_in (tree_at ts h)) m n a e p c l ∙ ap (λ y. compound y k us) (sym g))
    ∙ sym (ap (λ js. done s ts js vs) (two_pushed items one two (job.Up f k start) (job.Arguments k h n i) q r) ∙ up_all s ts (reverse items) f k start vs us z)
