-- Expressions as values of a model: each is told from the others by a tree of numbers.
use Rattle.std.specs.Prelude.{◌≡◌, ℕ, zero, suc, refl, Bool, true, false, List, [], ◌∷◌}
use Rattle.std.proofs.Common.{ap, sym, ◌∙◌}
use base.Stored.{Gv, gnil, gnum, gcons}
use Rattle.std.specs.Coded.{Coded}
use Rattle.alg_syntax.specs.declared.signs.Operator.{Operator}
use Rattle.alg_syntax.specs.declared.signs.Operator.TheVariants.{Add, Sub, Mul, Div, Mod, Smul, Pow}
use Rattle.alg_syntax.specs.Written.{Written}
use Rattle.alg_syntax.specs.Expressions.{Tree, number, name, group, ascribed, minus, inverse, binary, apply}

abbrev pub flag : Bool → ℕ
flag true = 1
flag false = 0

abbrev pub flag_at : ℕ → Bool
flag_at zero = false
flag_at (suc n) = true

pub flag_at-flag : (b : Bool) → flag_at (flag b) ≡ b
flag_at-flag true = refl
flag_at-flag false = refl

abbrev pub operator : Operator → ℕ
operator Add = 0
operator Sub = 1
operator Mul = 2
operator Div = 3
operator Mod = 4
operator Smul = 5
operator Pow = 6

abbrev pub operator_at : ℕ → Operator
operator_at zero = Add
operator_at (suc zero) = Sub
operator_at (suc (suc zero)) = Mul
operator_at (suc (suc (suc zero))) = Div
operator_at (suc (suc (suc (suc zero)))) = Mod
operator_at (suc (suc (suc (suc (suc zero))))) = Smul
operator_at (suc (suc (suc (suc (suc (suc n)))))) = Pow

pub operator_at-operator : (o : Operator) → operator_at (operator o) ≡ o
operator_at-operator Add = refl
operator_at-operator Sub = refl
operator_at-operator Mul = refl
operator_at-operator Div = refl
operator_at-operator Mod = refl
operator_at-operator Smul = refl
operator_at-operator Pow = refl

abbrev pub text_store : List ℕ → Gv
text_store [] = gnil
text_store (c ∷ cs) = gcons (gnum c) (text_store cs)

abbrev pub value : Gv → ℕ
value gnil = 0
value (gnum n) = n
value (gcons a b) = 0

abbrev pub text_back : Gv → List ℕ
text_back gnil = []
text_back (gnum n) = []
text_back (gcons a b) = value a ∷ text_back b

pub text_back-text_store : (text : List ℕ) → text_back (text_store text) ≡ text
text_back-text_store [] = refl
text_back-text_store (c ∷ cs) = ap (λ xs. c ∷ xs) (text_back-text_store cs)

-- a tag, two numbers, and what is behind them
abbrev pub made : ℕ → ℕ → ℕ → Gv → Gv → Gv
made tag n m a b = gcons (gcons (gnum tag) (gcons (gnum n) (gnum m))) (gcons a b)

abbrev pub tree_store : Tree → Gv
tree_store (number f n) = made 0 (flag f) n gnil gnil
tree_store (name n) = made 1 0 (flag n.begins_line) gnil (text_store n.text)
tree_store (group f a) = made 2 (flag f) 0 (tree_store a) gnil
tree_store (ascribed f a sort) = made 3 (flag f) (flag sort.begins_line) (tree_store a) (text_store sort.text)
tree_store (minus a) = made 4 0 0 (tree_store a) gnil
tree_store (inverse a) = made 5 0 0 (tree_store a) gnil
tree_store (binary o a b) = made 6 (operator o) 0 (tree_store a) (tree_store b)
tree_store (apply a b) = made 7 0 0 (tree_store a) (tree_store b)

abbrev pub first : Gv → Gv
first gnil = gnil
first (gnum n) = gnil
first (gcons a b) = a

abbrev pub second : Gv → Gv
second gnil = gnil
second (gnum n) = gnil
second (gcons a b) = b

abbrev pub written : ℕ → List ℕ → Written
written n text = record { begins_line = flag_at n; text = text }

pub written-store : (n : Written) → written (flag n.begins_line) (text_back (text_store n.text)) ≡ n
written-store n = λ i. record { begins_line = flag_at-flag n.begins_line i; text = text_back-text_store n.text i }

abbrev pub built : ℕ → ℕ → ℕ → List ℕ → Tree → Tree → Tree
built zero n m text a b = number (flag_at n) m
built (suc zero) n m text a b = name (written m text)
built (suc (suc zero)) n m text a b = group (flag_at n) a
built (suc (suc (suc zero))) n m text a b = ascribed (flag_at n) a (written m text)
built (suc (suc (suc (suc zero)))) n m text a b = minus a
built (suc (suc (suc (suc (suc zero))))) n m text a b = inverse a
built (suc (suc (suc (suc (suc (suc zero)))))) n m text a b = binary (operator_at n) a b
built (suc (suc (suc (suc (suc (suc (suc k))))))) n m text a b = apply a b

-- what is at the head, and the parts behind it
abbrev mutual
  pub tree_back : Gv → Tree
  tree_back gnil = number false 0
  tree_back (gnum n) = number false 0
  tree_back (gcons h g) = parts_back h g

  pub parts_back : Gv → Gv → Tree
  parts_back h gnil = number false 0
  parts_back h (gnum n) = number false 0
  parts_back h (gcons a b) = built (value (first h)) (value (first (second h))) (value (second (second h))) (text_back b) (tree_back a) (tree_back b)

pub tree_back-tree_store : (a : Tree) → tree_back (tree_store a) ≡ a
tree_back-tree_store (number f n) = ap (λ g. number g n) (flag_at-flag f)
tree_back-tree_store (name n) = ap name (written-store n)
tree_back-tree_store (group f a) = λ i. group (flag_at-flag f i) (tree_back-tree_store a i)
tree_back-tree_store (ascribed f a sort) = λ i. ascribed (flag_at-flag f i) (tree_back-tree_store a i) (written-store sort i)
tree_back-tree_store (minus a) = ap minus (tree_back-tree_store a)
tree_back-tree_store (inverse a) = ap inverse (tree_back-tree_store a)
tree_back-tree_store (binary o a b) = λ i. binary (operator_at-operator o i) (tree_back-tree_store a i) (tree_back-tree_store b i)
tree_back-tree_store (apply a b) = λ i. apply (tree_back-tree_store a i) (tree_back-tree_store b i)

abbrev pub tree_code : Coded Tree
tree_code = record { code = tree_store; inj = λ x y e. sym (tree_back-tree_store x) ∙ ap tree_back e ∙ tree_back-tree_store y }
