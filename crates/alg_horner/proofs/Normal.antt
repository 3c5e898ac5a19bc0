-- What `skip` and `join` give.
use Rattle.std.proofs.Common.{◌≡◌, ℕ, ◌+◌, refl, sym, ap, ◌∙◌, arith}
use Rattle.alg_sums.specs.Coefficients.{Coefficients}
use Rattle.alg_horner.specs.Form.{Form, constant, skip, sum, IsMultiple, IsSound}
use Rattle.alg_horner.specs.Facts.{IsNormalOf}
use Rattle.alg_horner.proofs.Degrees.{degree-none, degree-twice, only-small}
use Rattle.alg_horner.proofs.Maps.{in_skip, skip_twice, zero_inner, multiple_inner}

pub normal_self : {C : Type 0} (r : Coefficients C) (f : Form C) → IsNormalOf r f f
normal_self r f = record { map = λ m. refl; atoms = omega arith; degree = λ v. omega arith; nodes = omega arith; weight = λ w z. omega arith }

pub skip_none-normal : {C : Type 0} (r : Coefficients C) (h : Form C) → IsNormalOf r (skip 0 h) h
skip_none-normal r h = record { map = λ m. refl; atoms = omega arith; degree = λ v. omega (arith, degree-none v h); nodes = omega arith; weight = λ w z. omega arith }

pub skip_constant-normal : {C : Type 0} (r : Coefficients C) (k : ℕ) (c : C) → IsNormalOf r (skip k (constant c)) (constant c)
skip_constant-normal r k c = record { map = in_skip r k c; atoms = omega arith; degree = λ v. omega arith; nodes = omega arith; weight = λ w z. omega arith }

pub skip_twice-normal : {C : Type 0} (r : Coefficients C) (k j : ℕ) (h : Form C) → IsNormalOf r (skip k (skip j h)) (skip (k + j) h)
skip_twice-normal r k j h = record { map = skip_twice r k j h; atoms = omega arith; degree = λ v. omega (arith, degree-twice v k j (k + j) h refl); nodes = omega arith; weight = λ w z. omega arith }

pub join_zero-normal : {C : Type 0} (r : Coefficients C) (i : ℕ) (q h : Form C) → IsNormalOf r (skip 1 q) h → IsNormalOf r (sum (constant r.nil) i q) h
join_zero-normal r i q h n = record {
  map = λ m. n.map m ∙ zero_inner r i q m;
  atoms = omega (arith, n.atoms);
  degree = λ v. omega (arith, n.degree v);
  nodes = omega (arith, n.nodes);
  weight = λ w z. omega (arith, n.weight w z, z);
}

pub join_multiple-normal : {C : Type 0} (r : Coefficients C) (p : Form C) (j i : ℕ) (q : Form C) → IsNormalOf r (sum (sum p j (constant r.nil)) i q) (sum p (j + i) q)
join_multiple-normal r p j i q = record {
  map = multiple_inner r p j i q;
  atoms = omega arith;
  degree = λ v. omega arith;
  nodes = omega arith;
  weight = λ w z. omega (arith, z);
}

-- the same, where the form that is given is known by an equation
pub skip_constant_of : {C : Type 0} (r : Coefficients C) (k : ℕ) (c : C) (f : Form C) → f ≡ constant c → IsNormalOf r (skip k f) (constant c)
skip_constant_of r k c f e = rw e (skip_constant-normal r k c)

pub skip_twice_of : {C : Type 0} (r : Coefficients C) (k j : ℕ) (h f : Form C) → f ≡ skip j h → IsNormalOf r (skip k f) (skip (k + j) h)
skip_twice_of r k j h f e = rw e (skip_twice-normal r k j h)

pub join_zero_of : {C : Type 0} (r : Coefficients C) (p : Form C) (i : ℕ) (q h : Form C) → p ≡ constant r.nil → IsNormalOf r (skip 1 q) h → IsNormalOf r (sum p i q) h
join_zero_of r p i q h e n = rw e (join_zero-normal r i q h n)

rest_is : {C : Type 0} (r : Coefficients C) (p : Form C) (j : ℕ) (f z : Form C) → f ≡ sum p j z → IsMultiple r f → z ≡ constant r.nil
rest_is r p j f z e m = let m' = rw e at m in m'

pub join_multiple_of : {C : Type 0} (r : Coefficients C) (p : Form C) (j i : ℕ) (q f z h : Form C) → f ≡ sum p j z → IsMultiple r f → h ≡ sum p (j + i) q → IsNormalOf r (sum f i q) h
join_multiple_of r p j i q f z h e m d = let n = rest_is r p j f z e m in rw (d, e, n) (join_multiple-normal r p j i q)

abbrev value_of : {C : Type 0} → C → Form C → C
value_of n (constant c) = c
value_of n (skip k h) = n
value_of n (sum p i q) = n

pub atom_sound : {C : Type 0} (r : Coefficients C) (a b : C) → a ≡ r.one → b ≡ r.nil → IsSound r (sum (constant a) 1 (constant b))
atom_sound r a b e f = record {
  form = (omega arith, λ g. r.one_nil (sym e ∙ ap (value_of r.nil) g), λ g. g, tt, tt);
  atoms = omega arith;
  exponents = λ n. omega (arith, only-small n 0);
}
