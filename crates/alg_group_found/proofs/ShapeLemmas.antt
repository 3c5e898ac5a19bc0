-- Trees that are atoms whatever their exponents are.
use Rattle.std.proofs.Common.{◌≡◌, ℕ, zero, suc, List, [], ◌∷◌, length, refl, sym, ap, ◌∙◌, subst}
use Rattle.std.specs.Prelude.{◌≢◌}
use Rattle.alg_terms.specs.declared.sorts.Sort.{Sort}
use Rattle.alg_terms.specs.declared.symbols.Sym.{Sym}
use Rattle.alg_terms.specs.declared.symbols.Sym.TheVariants.{Mul, Inv, Div, Npow, Zpow}
use Rattle.alg_terms.specs.Tree.{Tree, Lit, Var, App, Nil, Cons, of_list}
use Rattle.alg_expr.specs.declared.ids.ExprId.{ExprId}
use Rattle.alg_expr.specs.Ids.{trees_at}
use Rattle.alg_law.specs.Declarations.{Declaration}
use Rattle.alg_group_found.specs.Found.{IsAtom}

module _ (ds : List Declaration) (s : Sort) where
  pub literal-atom : (n : ℕ) → n ≢ 1 → IsAtom ds (Lit s n)
  literal-atom (suc zero) h = absurd (h refl)
  literal-atom n h = record { fits = refl; weight = refl; short = refl; count = refl; atoms = refl; syllables = refl }

  pub variable-atom : (d : ℕ) → IsAtom ds (Var d s)
  variable-atom d = record { fits = refl; weight = refl; short = refl; count = refl; atoms = refl; syllables = refl }

  pub one-atom : (f : Sym) (x : Tree) → f ≢ Inv → IsAtom ds (App f s (Cons x Nil))
  one-atom Inv x h = absurd (h refl)
  one-atom f x h = record { fits = refl; weight = refl; short = refl; count = refl; atoms = refl; syllables = refl }

  pub two-atom : (f : Sym) (x y : Tree) → f ≢ Mul → f ≢ Div → f ≢ Npow → f ≢ Zpow → IsAtom ds (App f s (Cons x (Cons y Nil)))
  two-atom Mul x y h i j k = absurd (h refl)
  two-atom Div x y h i j k = absurd (i refl)
  two-atom Npow x y h i j k = absurd (j refl)
  two-atom Zpow x y h i j k = absurd (k refl)
  two-atom f x y h i j k = record { fits = refl; weight = refl; short = refl; count = refl; atoms = refl; syllables = refl }

  pub other-atom : (f : Sym) (xs : List Tree) → length xs ≢ 1 → length xs ≢ 2 → IsAtom ds (App f s (of_list xs))
  other-atom Mul [] h i = record { fits = refl; weight = refl; short = refl; count = refl; atoms = refl; syllables = refl }
  other-atom Inv [] h i = record { fits = refl; weight = refl; short = refl; count = refl; atoms = refl; syllables = refl }
  other-atom Div [] h i = record { fits = refl; weight = refl; short = refl; count = refl; atoms = refl; syllables = refl }
  other-atom Npow [] h i = record { fits = refl; weight = refl; short = refl; count = refl; atoms = refl; syllables = refl }
  other-atom Zpow [] h i = record { fits = refl; weight = refl; short = refl; count = refl; atoms = refl; syllables = refl }
  other-atom f [] h i = record { fits = refl; weight = refl; short = refl; count = refl; atoms = refl; syllables = refl }
  other-atom f (x ∷ []) h i = absurd (h refl)
  other-atom f (x ∷ y ∷ []) h i = absurd (i refl)
  other-atom Mul (x ∷ y ∷ z ∷ xs) h i = record { fits = refl; weight = refl; short = refl; count = refl; atoms = refl; syllables = refl }
  other-atom Inv (x ∷ y ∷ z ∷ xs) h i = record { fits = refl; weight = refl; short = refl; count = refl; atoms = refl; syllables = refl }
  other-atom Div (x ∷ y ∷ z ∷ xs) h i = record { fits = refl; weight = refl; short = refl; count = refl; atoms = refl; syllables = refl }
  other-atom Npow (x ∷ y ∷ z ∷ xs) h i = record { fits = refl; weight = refl; short = refl; count = refl; atoms = refl; syllables = refl }
  other-atom Zpow (x ∷ y ∷ z ∷ xs) h i = record { fits = refl; weight = refl; short = refl; count = refl; atoms = refl; syllables = refl }
  other-atom f (x ∷ y ∷ z ∷ xs) h i = record { fits = refl; weight = refl; short = refl; count = refl; atoms = refl; syllables = refl }

trees-length : (ts : List Tree) (es : List ExprId) → length (trees_at ts es) ≡ length es
trees-length ts [] = refl
trees-length ts (e ∷ es) = ap suc (trees-length ts es)

pub other-shape : (ds : List Declaration) (s : Sort) (f : Sym) (ts : List Tree) (es : List ExprId) (t : Tree) → t ≡ App f s (of_list (trees_at ts es)) → length es ≢ 1 → length es ≢ 2 → IsAtom ds t
other-shape ds s f ts es t e h i = subst (λ (u : Tree). IsAtom ds u) (sym e) (other-atom ds s f (trees_at ts es) (λ n. h (sym (trees-length ts es) ∙ n)) (λ n. i (sym (trees-length ts es) ∙ n)))

pub ruleset shapes = (literal-atom, variable-atom, one-atom, two-atom, other-atom)
