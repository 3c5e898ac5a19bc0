-- Lists of trees, there and back.
use Rattle.std.specs.Prelude.{◌≡◌, List, [], ◌∷◌, refl}
use Rattle.std.proofs.Common.{ap}
use Rattle.alg_terms.specs.Tree.{Trees, Nil, Cons, Tree, to_list, of_list}

pub to_list-of_list : (ts : List Tree) → to_list (of_list ts) ≡ ts
to_list-of_list [] = refl
to_list-of_list (t ∷ ts) = ap (λ r. t ∷ r) (to_list-of_list ts)

pub of_list-to_list : (ts : Trees) → of_list (to_list ts) ≡ ts
of_list-to_list Nil = refl
of_list-to_list (Cons t ts) = ap (Cons t) (of_list-to_list ts)
