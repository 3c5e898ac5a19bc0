-- The leaves of arguments.
use Rattle.std.proofs.Common.{◌≡◌, ℕ, refl, sym, ap, ◌∙◌, List, [], ◌∷◌, ◌++◌, reverse, append_assoc, append-nil}
use Rattle.std.proofs.lemmas.List.{reverse-append}
use Rattle.alg_syntax.specs.Nodes.{tree_at}
use Rattle.alg_elaborate.specs.declared.regions.Part.{Part}
use Rattle.alg_elaborate.specs.declared.regions.Part.TheVariants as part
use Rattle.alg_elaborate.specs.RegionParts.{parts_leaves}
use Rattle.alg_syntax.specs.Expressions.{Tree, apply}
use Rattle.alg_names.specs.declared.scope.Scope.{Scope}
use Rattle.alg_elaborate.specs.Raw.{Raws, none, more, meant, arguments}
use Rattle.alg_elaborate.specs.Regions.{leaves, leaves_of_each}
use Rattle.alg_elaborate.proofs.SpineLemmas.{joined, arguments_joined}

each_joined : (s : Scope) (us vs : Raws) → leaves_of_each s (joined us vs) ≡ leaves_of_each s us ++ leaves_of_each s vs
each_joined s none vs = refl
each_joined s (more a us) vs = ap (λ xs. leaves s a ++ xs) (each_joined s us vs) ∙ sym (append_assoc (leaves s a) (leaves_of_each s us) (leaves_of_each s vs))

pub arguments_leaves : (s : Scope) (t a b : Tree) → t ≡ apply a b → leaves_of_each s (arguments t none) ≡ leaves_of_each s (arguments a none) ++ leaves s (meant b)
arguments_leaves s t a b e =
    ap (λ x. leaves_of_each s (arguments x none)) e
    ∙ (ap (leaves_of_each s) (arguments_joined a (more (meant b) none))
    ∙ (each_joined s (arguments a none) (more (meant b) none)
    ∙ ap (λ xs. leaves_of_each s (arguments a none) ++ xs) (append-nil (leaves s (meant b)))))

two_pushed : (items one two : List Part) (l a : Part) → one ≡ items ++ l ∷ [] → two ≡ one ++ a ∷ [] → reverse two ≡ a ∷ l ∷ reverse items
two_pushed items one two l a e f = ap reverse f ∙ (reverse-append one (a ∷ []) ∙ ap (λ xs. a ∷ xs) (ap reverse e ∙ reverse-append items (l ∷ [])))

pub split_same : (s : Scope) (ts : List Tree) (i a b : ℕ) (items one two : List Part) → tree_at ts i ≡ apply (tree_at ts a) (tree_at ts b) → one ≡ items ++ part.Whole b ∷ [] → two ≡ one ++ part.Arguments a ∷ [] → parts_leaves s ts (reverse two) ≡ leaves_of_each s (arguments (tree_at ts i) none) ++ parts_leaves s ts (reverse items)
split_same s ts i a b items one two e p q =
    ap (parts_leaves s ts) (two_pushed items one two (part.Whole b) (part.Arguments a) p q)
    ∙ (sym (append_assoc (leaves_of_each s (arguments (tree_at ts a) none)) (leaves s (meant (tree_at ts b))) (parts_leaves s ts (reverse items)))
    ∙ ap (λ xs. xs ++ parts_leaves s ts (reverse items)) (sym (arguments_leaves s (tree_at ts i) (tree_at ts a) (tree_at ts b) e)))
