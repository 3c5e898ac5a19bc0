-- Where the atoms of a node are.
use Rattle.std.proofs.Common.{◌≡◌, List, [], ◌∷◌, ◌++◌, refl, sym, ap, ◌∙◌, Bool, true, false}
use Rattle.std.specs.Prelude.{◌||◌, ◌≢◌, ℕ, length}
use Rattle.alg_expr.specs.declared.ids.ExprId.{ExprId}
use Rattle.alg_expr.specs.Ids.{tree_of, trees_at}
use Rattle.alg_terms.specs.Tree.{Tree}
use Rattle.alg_terms.specs.declared.sorts.Sort.{Sort}
use Rattle.alg_terms.specs.declared.symbols.Sym.{Sym}
use Rattle.alg_terms.specs.declared.symbols.Sym.TheVariants.{Add, Mul, Neg, Sub, Inv, Div, Npow, Zpow, Nsmul, Zsmul, Abs, Min, Max, NatSub, IDiv, Mod, Gcd, Lcm, Fact, Choose, Fib, Apply}
use Rattle.alg_terms.specs.Order.{tree_same}
use Rattle.alg_terms.specs.Tree.{Trees, Var, App, Cons, Nil, of_list}
use Rattle.alg_expansions.specs.Setting.{Setting}
use Rattle.alg_ring_range.specs.Numbers.{Numbers, numbers}
use Rattle.alg_expansions.specs.Visited.{is_listed}
use Rattle.alg_ring_range.specs.Atoms.{visited_atoms, visited_atoms_over}
use Rattle.alg_ring_range.proofs.Once.{is_listed-append}

pub or_none : (b : Bool) → (b || false) ≡ b
or_none true = refl
or_none false = refl

pub is_listed-two : (t : Tree) (us vs : List Tree) → is_listed t (us ++ vs) ≡ (is_listed t us || (is_listed t vs || false))
is_listed-two t us vs = rw (or_none (is_listed t vs)) (is_listed-append t us vs)

pub ruleset plans = (is_listed-append, is_listed-two, or_none)

other_one : (f : Sym) (s : Sort) (a : Tree) (x : Numbers) (p : List Tree) → (f ≡ Neg → ⊥) → (f ≡ Inv → ⊥) → visited_atoms_over f s (Cons a Nil) (x ∷ []) (p ∷ []) ≡ App f s (Cons a Nil) ∷ []
other_one Add s a x p h i = refl
other_one Mul s a x p h i = refl
other_one Neg s a x p h i = absurd (h refl)
other_one Sub s a x p h i = refl
other_one Inv s a x p h i = absurd (i refl)
other_one Div s a x p h i = refl
other_one Npow s a x p h i = refl
other_one Zpow s a x p h i = refl
other_one Nsmul s a x p h i = refl
other_one Zsmul s a x p h i = refl
other_one Abs s a x p h i = refl
other_one Min s a x p h i = refl
other_one Max s a x p h i = refl
other_one NatSub s a x p h i = refl
other_one IDiv s a x p h i = refl
other_one Mod s a x p h i = refl
other_one Gcd s a x p h i = refl
other_one Lcm s a x p h i = refl
other_one Fact s a x p h i = refl
other_one Choose s a x p h i = refl
other_one Fib s a x p h i = refl
other_one (Apply j) s a x p h i = refl

other_two : (f : Sym) (s : Sort) (a b : Tree) (x y : Numbers) (p q : List Tree) → (f ≡ Add → ⊥) → (f ≡ Mul → ⊥) → (f ≡ Sub → ⊥) → (f ≡ Div → ⊥) → (f ≡ Npow → ⊥) → visited_atoms_over f s (Cons a (Cons b Nil)) (x ∷ y ∷ []) (p ∷ q ∷ []) ≡ App f s (Cons a (Cons b Nil)) ∷ []
other_two Add s a b x y p q h i j l m = absurd (h refl)
other_two Mul s a b x y p q h i j l m = absurd (i refl)
other_two Neg s a b x y p q h i j l m = refl
other_two Sub s a b x y p q h i j l m = absurd (j refl)
other_two Inv s a b x y p q h i j l m = refl
other_two Div s a b x y p q h i j l m = absurd (l refl)
other_two Npow s a b x y p q h i j l m = absurd (m refl)
other_two Zpow s a b x y p q h i j l m = refl
other_two Nsmul s a b x y p q h i j l m = refl
other_two Zsmul s a b x y p q h i j l m = refl
other_two Abs s a b x y p q h i j l m = refl
other_two Min s a b x y p q h i j l m = refl
other_two Max s a b x y p q h i j l m = refl
other_two NatSub s a b x y p q h i j l m = refl
other_two IDiv s a b x y p q h i j l m = refl
other_two Mod s a b x y p q h i j l m = refl
other_two Gcd s a b x y p q h i j l m = refl
other_two Lcm s a b x y p q h i j l m = refl
other_two Fact s a b x y p q h i j l m = refl
other_two Choose s a b x y p q h i j l m = refl
other_two Fib s a b x y p q h i j l m = refl
other_two (Apply n) s a b x y p q h i j l m = refl

-- one atom, which is the node itself
itself : (t u v : Tree) (ts : List Tree) → ts ≡ v ∷ [] → u ≡ v → is_listed t ts ≡ tree_same u t
itself t u v ts e f = ap (is_listed t) e ∙ or_none (tree_same v t) ∙ ap (λ w. tree_same w t) (sym f)

pub atom_one : (f : Sym) (s : Sort) (a u t : Tree) (x : Numbers) (p : List Tree) → (f ≡ Neg → ⊥) → (f ≡ Inv → ⊥) → u ≡ App f s (Cons a Nil) → is_listed t (visited_atoms_over f s (Cons a Nil) (x ∷ []) (p ∷ [])) ≡ tree_same u t
atom_one f s a u t x p h i e = itself t u (App f s (Cons a Nil)) _ (other_one f s a x p h i) e

pub atom_two : (f : Sym) (s : Sort) (a b u t : Tree) (x y : Numbers) (p q : List Tree) → (f ≡ Add → ⊥) → (f ≡ Mul → ⊥) → (f ≡ Sub → ⊥) → (f ≡ Div → ⊥) → (f ≡ Npow → ⊥) → u ≡ App f s (Cons a (Cons b Nil)) → is_listed t (visited_atoms_over f s (Cons a (Cons b Nil)) (x ∷ y ∷ []) (p ∷ q ∷ [])) ≡ tree_same u t
atom_two f s a b u t x y p q h i j l m e = itself t u (App f s (Cons a (Cons b Nil))) _ (other_two f s a b x y p q h i j l m) e

-- other numbers of parts

other_none : (f : Sym) (s : Sort) → visited_atoms_over f s Nil [] [] ≡ App f s Nil ∷ []
other_none Add s = refl
other_none Mul s = refl
other_none Neg s = refl
other_none Sub s = refl
other_none Inv s = refl
other_none Div s = refl
other_none Npow s = refl
other_none Zpow s = refl
other_none Nsmul s = refl
other_none Zsmul s = refl
other_none Abs s = refl
other_none Min s = refl
other_none Max s = refl
other_none NatSub s = refl
other_none IDiv s = refl
other_none Mod s = refl
other_none Gcd s = refl
other_none Lcm s = refl
other_none Fact s = refl
other_none Choose s = refl
other_none Fib s = refl
other_none (Apply j) s = refl

other_many : (f : Sym) (s : Sort) (a b c : Tree) (ts : Trees) (x y z : Numbers) (xs : List Numbers) (p q r : List Tree) (ps : List (List Tree)) → visited_atoms_over f s (Cons a (Cons b (Cons c ts))) (x ∷ y ∷ z ∷ xs) (p ∷ q ∷ r ∷ ps) ≡ App f s (Cons a (Cons b (Cons c ts))) ∷ []
other_many Add s a b c ts x y z xs p q r ps = refl
other_many Mul s a b c ts x y z xs p q r ps = refl
other_many Neg s a b c ts x y z xs p q r ps = refl
other_many Sub s a b c ts x y z xs p q r ps = refl
other_many Inv s a b c ts x y z xs p q r ps = refl
other_many Div s a b c ts x y z xs p q r ps = refl
other_many Npow s a b c ts x y z xs p q r ps = refl
other_many Zpow s a b c ts x y z xs p q r ps = refl
other_many Nsmul s a b c ts x y z xs p q r ps = refl
other_many Zsmul s a b c ts x y z xs p q r ps = refl
other_many Abs s a b c ts x y z xs p q r ps = refl
other_many Min s a b c ts x y z xs p q r ps = refl
other_many Max s a b c ts x y z xs p q r ps = refl
other_many NatSub s a b c ts x y z xs p q r ps = refl
other_many IDiv s a b c ts x y z xs p q r ps = refl
other_many Mod s a b c ts x y z xs p q r ps = refl
other_many Gcd s a b c ts x y z xs p q r ps = refl
other_many Lcm s a b c ts x y z xs p q r ps = refl
other_many Fact s a b c ts x y z xs p q r ps = refl
other_many Choose s a b c ts x y z xs p q r ps = refl
other_many Fib s a b c ts x y z xs p q r ps = refl
other_many (Apply n) s a b c ts x y z xs p q r ps = refl

module _ (k : Setting) (trees : List Tree) (e : ExprId) (f : Sym) (s : Sort) where
  pub atom_else : (args : List ExprId) → tree_of trees e ≡ App f s (of_list (trees_at trees args)) → length args ≢ 1 → length args ≢ 2 → (t : Tree) → is_listed t (visited_atoms k (tree_of trees e)) ≡ tree_same (tree_of trees e) t
  atom_else [] is h i t = itself t (tree_of trees e) (App f s Nil) (visited_atoms k (tree_of trees e)) (ap (visited_atoms k) is ∙ other_none f s) is
  atom_else (a ∷ []) is h i t = absurd (h refl)
  atom_else (a ∷ b ∷ []) is h i t = absurd (i refl)
  atom_else (a ∷ b ∷ c ∷ rest) is h i t = itself t (tree_of trees e) _ (visited_atoms k (tree_of trees e)) (ap (visited_atoms k) is ∙ other_many f s (tree_of trees a) (tree_of trees b) (tree_of trees c) (of_list (trees_at trees rest)) _ _ _ _ _ _ _ _) is

  pub atoms_one : (args : List ExprId) (a : ExprId) → tree_of trees e ≡ App f s (of_list (trees_at trees args)) → args ≡ a ∷ [] → (tree_of trees e ≡ App f s (Cons (tree_of trees a) Nil)) × (visited_atoms k (tree_of trees e) ≡ visited_atoms_over f s (Cons (tree_of trees a) Nil) (numbers k (tree_of trees a) ∷ []) (visited_atoms k (tree_of trees a) ∷ []))
  atoms_one args a is h =
      let same : tree_of trees e ≡ App f s (Cons (tree_of trees a) Nil) = is ∙ ap (λ es. App f s (of_list (trees_at trees es))) h in
      (same, ap (visited_atoms k) same)

  pub atoms_two : (args : List ExprId) (a b : ExprId) → tree_of trees e ≡ App f s (of_list (trees_at trees args)) → args ≡ a ∷ b ∷ [] → (tree_of trees e ≡ App f s (Cons (tree_of trees a) (Cons (tree_of trees b) Nil))) × (visited_atoms k (tree_of trees e) ≡ visited_atoms_over f s (Cons (tree_of trees a) (Cons (tree_of trees b) Nil)) (numbers k (tree_of trees a) ∷ numbers k (tree_of trees b) ∷ []) (visited_atoms k (tree_of trees a) ∷ visited_atoms k (tree_of trees b) ∷ []))
  atoms_two args a b is h =
      let same : tree_of trees e ≡ App f s (Cons (tree_of trees a) (Cons (tree_of trees b) Nil)) = is ∙ ap (λ es. App f s (of_list (trees_at trees es))) h in
      (same, ap (visited_atoms k) same)

pub var_atom : (k : Setting) (u t : Tree) (d : ℕ) (s : Sort) → u ≡ Var d s → is_listed t (visited_atoms k u) ≡ tree_same u t
var_atom k u t d s e = itself t u (Var d s) (visited_atoms k u) (ap (visited_atoms k) e) e

-- a symbol over another number of parts is no inverse
pub not_one : (trees : List Tree) (u v : Tree) (f g : Sym) (s r : Sort) (args : List ExprId) → u ≡ App f s (of_list (trees_at trees args)) → length args ≢ 1 → u ≡ App g r (Cons v Nil) → ⊥
not_one trees u v f g s r [] e h i = cc
not_one trees u v f g s r (a ∷ []) e h i = h refl
not_one trees u v f g s r (a ∷ b ∷ args) e h i = cc
