-- The line of a symbol over two parts.
use Rattle.std.proofs.Common.{◌≡◌, ℕ, [], ◌∷◌, ap, ◌∙◌, All}
use Rattle.std.proofs.lemmas.List.Elements.{All-nil, All-cons}
use Rattle.alg_terms.specs.declared.sorts.Sort.{Sort}
use Rattle.alg_terms.specs.declared.symbols.Sym.{Sym}
use Rattle.alg_terms.specs.Tree.{Tree, App, Cons, Nil, equal, sort_of_tree}
use Rattle.alg_law.specs.declared.marks.Mark.TheVariants.{Good}
use Rattle.alg_law.specs.WellSorted.{head_mark, sorts_of}
use Rattle.alg_proof.specs.Steps.{Cong}
use Rattle.alg_build.specs.Book.{Book, Grows, Adds, Proves, IsThere, IsEquation, lefts_at, rights_at}
use Rattle.alg_build.proofs.Lines.{adds-proves, proves-equation, proves-left, proves-right}
use Rattle.std.specs.Prelude.{Result, IfOk, Ok, Err}
use Rattle.alg_expr.specs.declared.memory.Memory.{Memory}
use Rattle.alg_build.specs.declared.rewriting.Rewriting.{Rewriting}
use Rattle.alg_build.specs.Rewriting.{Heads, Turns, over}
use Rattle.alg_build.proofs.Rewritings.{grows-heads}
use Rattle.alg_build.proofs.RowLines.{adds-there}

pub sorts-heads : (b : Book) (f : Sym) (sort s t : Sort) (x y : Tree) → Heads b f sort (s ∷ t ∷ []) → sort_of_tree x ≡ s → sort_of_tree y ≡ t → Heads b f sort (sort_of_tree x ∷ sort_of_tree y ∷ [])
sorts-heads b f sort s t x y h p q = rw (p, q) h

module _ (b : Book) (i j : ℕ) (x y z w : Tree) (p : Proves b i x y) (q : Proves b j z w) where
  pub two_equations : All (IsEquation b) (i ∷ j ∷ [])
  two_equations = All-cons (IsEquation b) i (j ∷ []) (proves-equation b i x y p) (All-cons (IsEquation b) j [] (proves-equation b j z w q) (All-nil (IsEquation b)))

  two_lefts : lefts_at b (i ∷ j ∷ []) ≡ Cons x (Cons z Nil)
  two_lefts = λ k. Cons (proves-left b i x y p k) (Cons (proves-left b j z w q k) Nil)

  two_rights : rights_at b (i ∷ j ∷ []) ≡ Cons y (Cons w Nil)
  two_rights = λ k. Cons (proves-right b i x y p k) (Cons (proves-right b j z w q k) Nil)

  module _ (f : Sym) (s : Sort) (h : Heads b f s (sort_of_tree x ∷ sort_of_tree z ∷ [])) where
    head : head_mark b.theory.declarations f s (sorts_of (lefts_at b (i ∷ j ∷ []))) ≡ Good
    head = ap (λ ts. head_mark b.theory.declarations f s (sorts_of ts)) two_lefts ∙ h.good

    pub two_fit : (t : Sort) × (head_mark b.theory.declarations f t (sorts_of (lefts_at b (i ∷ j ∷ []))) ≡ Good)
    two_fit = (s, head)

    module _ (c : Book) (n : ℕ) (add : (t : Sort) → head_mark b.theory.declarations f t (sorts_of (lefts_at b (i ∷ j ∷ []))) ≡ Good → Adds b c n (Cong f (i ∷ j ∷ [])) (equal (App f t (lefts_at b (i ∷ j ∷ []))) (App f t (rights_at b (i ∷ j ∷ []))))) where
      pub two_there : IsThere c n
      two_there = adds-there _ _ _ _ _ (add s head)

      pub two_prove : Proves c n (App f s (Cons x (Cons z Nil))) (App f s (Cons y (Cons w Nil)))
      two_prove =
          let is : equal (App f s (lefts_at b (i ∷ j ∷ []))) (App f s (rights_at b (i ∷ j ∷ []))) ≡ equal (App f s (Cons x (Cons z Nil))) (App f s (Cons y (Cons w Nil))) = λ k. equal (App f s (two_lefts k)) (App f s (two_rights k)) in
          adds-proves b c n (Cong f (i ∷ j ∷ [])) _ _ (rw (← is) (add s head))

-- what a line for each part gives, where rewritings have such lines later
module _ (a b c : Book) (f : Sym) (sort : Sort) (r q : Rewriting) (i j : ℕ) (g : Grows a b) (p : (s : Sort) (x y : Tree) → Turns a s r x y → Proves b i x y) (k : (s : Sort) (x y : Tree) → Turns a s q x y → Proves b j x y) where
  pub two_later : (o : Result Rewriting Memory)
      → IfOk o (λ n. (t : Sort) → (x y z w : Tree) → Proves b i x y → Proves b j z w → Heads b f t (sort_of_tree x ∷ sort_of_tree z ∷ []) → Turns c t n (over f t x z) (over f t y w))
      → IfOk o (λ n. (s t : Sort) → (x y z w : Tree) → Turns a s r x y → Turns a t q z w → Heads a f sort (s ∷ t ∷ []) → Turns c sort n (over f sort x z) (over f sort y w))
  two_later (Ok n) h = λ s t x y z w u v m. h sort x y z w (p s x y u) (k t z w v) (sorts-heads b f sort s t x z (grows-heads a b f sort _ g m) u.left v.left)
  two_later (Err m) h = tt
