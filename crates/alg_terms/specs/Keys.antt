-- The numbers of sorts, symbols and relations, by which each is ordered and found again.
use Rattle.std.specs.Prelude.{◌≡◌, ℕ, zero, suc, ◌+◌, ◌-◌, refl, cond, nat_lt, false, List, [], ◌∷◌, get_or}
use Rattle.std.proofs.Common.{arith}
use Rattle.std.proofs.lemmas.Bool.Decides.{nat_tests}
use Rattle.alg_terms.specs.declared.sorts.Sort.{Sort}
use Rattle.alg_terms.specs.declared.sorts.Sort.TheVariants.{Nat, Int, Rat, Decl}
use Rattle.alg_terms.specs.declared.symbols.Sym.{Sym}
use Rattle.alg_terms.specs.declared.symbols.Sym.TheVariants.{Add, Mul, Neg, Sub, Inv, Div, Npow, Zpow, Nsmul, Zsmul, Abs, Min, Max, NatSub, IDiv, Mod, Gcd, Lcm, Fact, Choose, Fib, Apply}
use Rattle.alg_terms.specs.declared.relations.Rel.{Rel}
use Rattle.alg_terms.specs.declared.relations.Rel.TheVariants.{Eq, Ne, Lt, Le, Dvd}

-- the place of a sort in their order
abbrev pub sort_key : Sort → ℕ
sort_key Nat = 0
sort_key Int = 1
sort_key Rat = 2
sort_key (Decl k) = suc (suc (suc k))

-- the sort at a place
abbrev pub sort_at : ℕ → Sort
sort_at zero = Nat
sort_at (suc zero) = Int
sort_at (suc (suc zero)) = Rat
sort_at (suc (suc (suc k))) = Decl k

pub sort_at-sort_key : (s : Sort) → sort_at (sort_key s) ≡ s
sort_at-sort_key Nat = refl
sort_at-sort_key Int = refl
sort_at-sort_key Rat = refl
sort_at-sort_key (Decl k) = refl

-- the place of a symbol in their order: its number, and 22 + k for the k-th declaration
abbrev pub sym_key : Sym → ℕ
sym_key Add = 1
sym_key Mul = 2
sym_key Neg = 3
sym_key Sub = 4
sym_key Inv = 5
sym_key Div = 6
sym_key Npow = 7
sym_key Zpow = 8
sym_key Nsmul = 9
sym_key Zsmul = 10
sym_key Abs = 11
sym_key Min = 12
sym_key Max = 13
sym_key NatSub = 14
sym_key IDiv = 15
sym_key Mod = 16
sym_key Gcd = 17
sym_key Lcm = 18
sym_key Fact = 19
sym_key Choose = 20
sym_key Fib = 21
sym_key (Apply k) = k + 22

-- the symbols in their order; the first stands for the number 0, which no symbol has
abbrev pub syms : List Sym
syms = Add ∷ Add ∷ Mul ∷ Neg ∷ Sub ∷ Inv ∷ Div ∷ Npow ∷ Zpow ∷ Nsmul ∷ Zsmul ∷ Abs ∷ Min ∷ Max ∷ NatSub ∷ IDiv ∷ Mod ∷ Gcd ∷ Lcm ∷ Fact ∷ Choose ∷ Fib ∷ []

-- the symbol at a place
abbrev pub sym_at : ℕ → Sym
sym_at n = cond (nat_lt n 22) (get_or syms n Add) (Apply (n - 22))

pub sym_at-sym_key : (f : Sym) → sym_at (sym_key f) ≡ f
sym_at-sym_key Add = refl
sym_at-sym_key Mul = refl
sym_at-sym_key Neg = refl
sym_at-sym_key Sub = refl
sym_at-sym_key Inv = refl
sym_at-sym_key Div = refl
sym_at-sym_key Npow = refl
sym_at-sym_key Zpow = refl
sym_at-sym_key Nsmul = refl
sym_at-sym_key Zsmul = refl
sym_at-sym_key Abs = refl
sym_at-sym_key Min = refl
sym_at-sym_key Max = refl
sym_at-sym_key NatSub = refl
sym_at-sym_key IDiv = refl
sym_at-sym_key Mod = refl
sym_at-sym_key Gcd = refl
sym_at-sym_key Lcm = refl
sym_at-sym_key Fact = refl
sym_at-sym_key Choose = refl
sym_at-sym_key Fib = refl
sym_at-sym_key (Apply k) =
    let small : nat_lt (k + 22) 22 ≡ false = grind (arith, nat_tests) in
    let same : k + 22 - 22 ≡ k = omega arith in
    rw (small, same)

-- the place of a relation in their order
abbrev pub rel_key : Rel → ℕ
rel_key Eq = 0
rel_key Ne = 1
rel_key Lt = 2
rel_key Le = 3
rel_key Dvd = 4

-- the relation at a place
abbrev pub rel_at : ℕ → Rel
rel_at n = get_or (Eq ∷ Ne ∷ Lt ∷ Le ∷ Dvd ∷ []) n Eq

pub rel_at-rel_key : (r : Rel) → rel_at (rel_key r) ≡ r
rel_at-rel_key Eq = refl
rel_at-rel_key Ne = refl
rel_at-rel_key Lt = refl
rel_at-rel_key Le = refl
rel_at-rel_key Dvd = refl
