-- A numeral exponent keeps its number when its atoms are put in normal form.
use Rattle.std.proofs.Common.{◌≡◌, ℕ, ◌*◌, ◌^◌, Bool, true, false, cond, refl, ap, ap₂, ◌∙◌, arith, Option, Some, None}
use Rattle.std.specs.Prelude.{◌==◌}
use Rattle.std.proofs.lemmas.Bool.Decides.{nat_tests}
use Rattle.std.proofs.Math.Nat.{pow-zero}
use Rattle.alg_terms.specs.declared.sorts.Sort.{Sort}
use Rattle.alg_terms.specs.declared.symbols.Sym.TheVariants.{Add, Mul, Npow}
use Rattle.alg_terms.specs.Tree.{Tree, Lit, Var, App, Nil, Cons}
use Rattle.alg_sums.specs.Coefficients.{Coefficients}
use Rattle.alg_expansions.specs.Setting.{Setting}
use Rattle.alg_expansions.specs.Numerals.{sum_numeral, product_numeral, power_numeral, raised_numeral, numeral}
use Rattle.alg_expansions.specs.NormalForm.{where_some, prepared, normal_form}

-- the second number is the first where that is there
abbrev Keeps : Option ℕ → Option ℕ → Type 0
Keeps o p = (n : ℕ) → o ≡ Some n → p ≡ Some n

some_value : (m n : ℕ) → ◌≡◌ {A = Option ℕ} (Some m) (Some n) → m ≡ n
some_value m n e = cc

sum_keeps : (a b c d : Option ℕ) → Keeps a c → Keeps b d → Keeps (sum_numeral a b) (sum_numeral c d)
sum_keeps (Some a) (Some b) c d h i n e = ap₂ (sum_numeral) (h a refl) (i b refl) ∙ e
sum_keeps (Some a) None c d h i n e = cc
sum_keeps None b c d h i n e = cc

zero_by : (a : ℕ) → (a == 0) ≡ true → a ≡ 0
zero_by a e = grind (arith, nat_tests, e)

zero_left : (d : Option ℕ) → product_numeral (Some 0) d ≡ Some 0
zero_left (Some b) = ap Some (let e : 0 * b ≡ 0 = omega arith in e)
zero_left None = refl

zero_right : (c : Option ℕ) → product_numeral c (Some 0) ≡ Some 0
zero_right (Some a) = ap Some (let e : a * 0 ≡ 0 = omega arith in e)
zero_right None = refl

left_zero : (a n : ℕ) (b : Bool) (c d : Option ℕ) → (a == 0) ≡ b → c ≡ Some a → cond b (Some 0) None ≡ Some n → product_numeral c d ≡ Some n
left_zero a n true c d f h e = ap (λ o. product_numeral o d) (h ∙ ap Some (zero_by a f)) ∙ zero_left d ∙ e
left_zero a n false c d f h e = cc

right_zero : (b n : ℕ) (t : Bool) (c d : Option ℕ) → (b == 0) ≡ t → d ≡ Some b → cond t (Some 0) None ≡ Some n → product_numeral c d ≡ Some n
right_zero b n true c d f h e = ap (product_numeral c) (h ∙ ap Some (zero_by b f)) ∙ zero_right c ∙ e
right_zero b n false c d f h e = cc

product_keeps : (a b c d : Option ℕ) → Keeps a c → Keeps b d → Keeps (product_numeral a b) (product_numeral c d)
product_keeps (Some a) (Some b) c d h i n e = ap₂ product_numeral (h a refl) (i b refl) ∙ e
product_keeps (Some a) None c d h i n e = left_zero a n (a == 0) c d refl (h a refl) e
product_keeps None (Some b) c d h i n e = right_zero b n (b == 0) c d refl (i b refl) e
product_keeps None None c d h i n e = cc

base_known : (b m n : ℕ) (z : Bool) → (m == 0) ≡ z → cond z (Some 1) None ≡ Some n → power_numeral (Some b) m ≡ Some n
base_known b m n true f e = ap (λ i. Some (b ^ i)) (zero_by m f) ∙ ap Some (pow-zero b) ∙ e
base_known b m n false f e = cc

power_keeps : (a c : Option ℕ) (m : ℕ) → Keeps a c → Keeps (power_numeral a m) (power_numeral c m)
power_keeps (Some a) c m h n e = ap (λ o. power_numeral o m) (h a refl) ∙ e
power_keeps None None m h n e = e
power_keeps None (Some b) m h n e = base_known b m n (m == 0) refl e

no_power : (a : Option ℕ) (n : ℕ) → raised_numeral a None ≡ Some n → ⊥
no_power a n e = cc

module _ {C : Type 0} (r : Coefficients C) (k : Setting) where
  raised : (s : Sort) (a e : Tree) (o : Option ℕ) → numeral e ≡ o → Keeps (numeral a) (numeral (prepared r k a)) → Keeps (raised_numeral (numeral a) o) (numeral (App Npow s (where_some o (Cons (prepared r k a) (Cons e Nil)) (Cons (normal_form r k a) (Cons (normal_form r k e) Nil)))))
  raised s a e (Some m) q h n i = ap (raised_numeral (numeral (prepared r k a))) q ∙ power_keeps (numeral a) (numeral (prepared r k a)) m h n i
  raised s a e None q h n i = absurd (no_power (numeral a) n i)

  -- a tree that has a number has it when its atoms are in normal form
  pub numeral-prepared : (e : Tree) → Keeps (numeral e) (numeral (prepared r k e))
  numeral-prepared (App Add s (Cons a (Cons b Nil))) n h = sum_keeps (numeral a) (numeral b) (numeral (prepared r k a)) (numeral (prepared r k b)) (numeral-prepared a) (numeral-prepared b) n h
  numeral-prepared (App Mul s (Cons a (Cons b Nil))) n h = product_keeps (numeral a) (numeral b) (numeral (prepared r k a)) (numeral (prepared r k b)) (numeral-prepared a) (numeral-prepared b) n h
  numeral-prepared (App Npow s (Cons a (Cons e Nil))) n h = raised s a e (numeral e) refl (numeral-prepared a) n h
  numeral-prepared (Lit s m) n h = h
  numeral-prepared (Var d s) n h = h
  numeral-prepared (App f s ts) n h = cc
