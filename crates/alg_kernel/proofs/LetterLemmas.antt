-- Which letters occur, node by node.
use Rattle.std.proofs.Common.{◌≡◌, ℕ, zero, suc, ◌+◌, ◌-◌, ◌<◌, ◌≤◌, List, [], ◌∷◌, ◌++◌, get_or, take, drop, drop-cons, length, map, refl, ap, sym, ◌∙◌, add-one, append_assoc, arith, Bool, true, false, if◌then◌else◌, nat_eq, replicate, lit<}
use Rattle.std.specs.Prelude.{◌||◌}
use Rattle.std.proofs.lemmas.Bool.Decides.{nat_tests}
use Rattle.std.proofs.Math.ListN.{set}
use Rattle.std.proofs.lemmas.List.{get_or-set_same, get_or-set_other}
use Rattle.std.proofs.Math.Seq.{take-add}
use Rattle.alg_terms.specs.declared.symbols.Sym.{Sym}
use Rattle.alg_terms.specs.declared.symbols.Sym.TheVariants.{Add, Mul, Neg, Sub, Inv, Div, Npow, Zpow, Nsmul, Zsmul, Abs, Min, Max, NatSub, IDiv, Mod, Gcd, Lcm, Fact, Choose, Fib, Apply}
use Rattle.alg_terms.specs.Symbols.{places}
use Rattle.alg_law.specs.declared.patterns.PatSort.{PatSort}
use Rattle.alg_law.specs.declared.patterns.Pat.{Pat as Node}
use Rattle.alg_law.specs.declared.patterns.Pat.TheVariants as node
use Rattle.alg_law.specs.declared.patterns.PatStmt.{PatStmt}
use Rattle.alg_law.specs.Patterns.{Pat, PatStatement, occurs, occurs_among, occurs_in, occurs_in_any, occurring}
use Rattle.alg_law.specs.LawRows.{parts, patterns, first_of, pattern_of}
use Rattle.alg_kernel.specs.Letters.{occurs_in_one, occurs_early}

or-false : (b : Bool) → (b || false) ≡ b
or-false true = refl
or-false false = refl

or-assoc : (a b c : Bool) → ((a || b) || c) ≡ (a || (b || c))
or-assoc true b c = refl
or-assoc false b c = refl

or-turn : (a b c : Bool) → ((a || b) || c) ≡ (b || (a || c))
or-turn true true c = refl
or-turn true false c = refl
or-turn false true c = refl
or-turn false false c = refl

one-of_parts : (k : ℕ) (ps : List Pat) → occurs_among k (parts ps) ≡ occurs_in_one k ps
one-of_parts k [] = refl
one-of_parts k (p ∷ ps) = ap (λ b. occurs k p || b) (one-of_parts k ps)

one-append : (k : ℕ) (ps qs : List Pat) → occurs_in_one k (ps ++ qs) ≡ (occurs_in_one k ps || occurs_in_one k qs)
one-append k [] qs = refl
one-append k (p ∷ ps) qs = ap (λ b. occurs k p || b) (one-append k ps qs) ∙ sym (or-assoc (occurs k p) (occurs_in_one k ps) (occurs_in_one k qs))

-- one more node
early-letter : (k l n : ℕ) (ns : List Node) → occurs_early k (suc n) (node.Letter l ∷ ns) ≡ (nat_eq k l || occurs_early k n ns)
early-letter k l n ns = refl

early-lit : (k v n : ℕ) (s : PatSort) (ns : List Node) → occurs_early k (suc n) (node.Lit s v ∷ ns) ≡ occurs_early k n ns
early-lit k v n s ns = refl

early-app : (k n : ℕ) (f : Sym) (s : PatSort) (ns : List Node) → occurs_early k (suc n) (node.App f s ∷ ns) ≡ occurs_early k (length (places f) + n) ns
early-app k n f s ns =
    ap (λ b. b || occurs_in_one k (take n (drop (length (places f)) (patterns ns)))) (one-of_parts k (take (length (places f)) (patterns ns)))
    ∙ sym (one-append k (take (length (places f)) (patterns ns)) (take n (drop (length (places f)) (patterns ns))))
    ∙ ap (occurs_in_one k) (sym (take-add (length (places f)) n (patterns ns)))

module _ (due : ℕ) (some : 0 < due) where
  one-less : due ≡ suc (due - 1)
  one-less = omega arith

  pub letter-read : (k l : ℕ) (ns : List Node) (a b : Bool) → b ≡ (nat_eq k l || a) → (b || occurs_early k (due - 1) ns) ≡ (a || occurs_early k due (node.Letter l ∷ ns))
  letter-read k l ns a b e = ap (λ x. x || occurs_early k (due - 1) ns) e ∙ or-turn (nat_eq k l) a (occurs_early k (due - 1) ns) ∙ ap (λ n. a || occurs_early k n (node.Letter l ∷ ns)) (sym one-less)

  pub lit-read : (k v : ℕ) (s : PatSort) (ns : List Node) (a : Bool) → (a || occurs_early k (due - 1) ns) ≡ (a || occurs_early k due (node.Lit s v ∷ ns))
  lit-read k v s ns a = ap (λ n. a || occurs_early k n (node.Lit s v ∷ ns)) (sym one-less)

  pub app-read : (k m : ℕ) (f : Sym) (s : PatSort) (ns : List Node) (a : Bool) → m ≡ (due - 1) + length (places f) → (a || occurs_early k m ns) ≡ (a || occurs_early k due (node.App f s ∷ ns))
  app-read k m f s ns a e =
      let n : m ≡ length (places f) + (due - 1) = omega (arith, e) in
      ap (λ n. a || occurs_early k n ns) n ∙ ap (λ b. a || b) (sym (early-app k (due - 1) f s ns)) ∙ ap (λ n. a || occurs_early k n (node.App f s ∷ ns)) (sym one-less)

pub few-places : (f : Sym) → length (places f) ≤ 2
few-places Add = omega arith
few-places Mul = omega arith
few-places Neg = omega arith
few-places Sub = omega arith
few-places Inv = omega arith
few-places Div = omega arith
few-places Npow = omega arith
few-places Zpow = omega arith
few-places Nsmul = omega arith
few-places Zsmul = omega arith
few-places Abs = omega arith
few-places Min = omega arith
few-places Max = omega arith
few-places NatSub = omega arith
few-places IDiv = omega arith
few-places Mod = omega arith
few-places Gcd = omega arith
few-places Lcm = omega arith
few-places Fact = omega arith
few-places Choose = omega arith
few-places Fib = omega arith
few-places (Apply k) = omega arith

-- the letters of both sides
sides : (k : ℕ) (ps : List Pat) → occurs_in_one k (take 2 ps) ≡ (occurs k (first_of ps) || occurs k (first_of (drop 1 ps)))
sides k [] = refl
sides k (p ∷ []) = refl
sides k (p ∷ q ∷ ps) = ap (λ b. occurs k p || b) (or-false (occurs k q))

pub both-sides : (k : ℕ) (p : PatStmt) → occurs_early k 2 p.nodes.now ≡ occurs_in k (pattern_of p)
both-sides k p = sides k (patterns p.nodes.now)

pub nothing-due : (k due : ℕ) (ns : List Node) (a : Bool) → due ≡ 0 → (a || occurs_early k due ns) ≡ a
nothing-due k due ns a e = ap (λ n. a || occurs_early k n ns) e ∙ or-false a

early-none : (k due : ℕ) → occurs_early k due [] ≡ false
early-none k zero = refl
early-none k (suc due) = refl

pub nothing-left : (k due : ℕ) (ns : List Node) (a : Bool) → ns ≡ [] → (a || occurs_early k due ns) ≡ a
nothing-left k due ns a e = ap (λ (xs : List Node). a || occurs_early k due xs) e ∙ ap (λ b. a || b) (early-none k due) ∙ or-false a

pub letter-set : (k l : ℕ) (flags : List Bool) → l < length flags → get_or (set flags l true) k false ≡ (nat_eq k l || get_or flags k false)
letter-set k l flags h = by-test (nat_eq k l) refl
  where
    by-test : (b : Bool) → nat_eq k l ≡ b → get_or (set flags l true) k false ≡ (b || get_or flags k false)
    by-test true e =
        let s : k ≡ l = grind (arith, nat_tests) in
        rw s (get_or-set_same flags l true false h)
    by-test false e =
        let s : k ≡ l → ⊥ = grind (arith, nat_tests) in
        get_or-set_other flags l k true false s

pub letter-far : (k l n : ℕ) (a : Bool) → k < n → n ≤ l → a ≡ (nat_eq k l || a)
letter-far k l n a h m =
    let e : nat_eq k l ≡ false = grind (arith, nat_tests) in
    rw e refl

module _ (ps : List PatStatement) (ks : List ℕ) (i : ℕ) (d : ℕ) (found : List ℕ) (l : i < length ks) where
  by-test : (k : ℕ) (rest : List ℕ) (b : Bool) (new : List ℕ) → new ≡ (if b then found ++ k ∷ [] else found) → found ++ (if b then k ∷ rest else rest) ≡ new ++ rest
  by-test k rest true new e = sym (append_assoc found (k ∷ []) rest) ∙ ap (λ (x : List ℕ). x ++ rest) (sym e)
  by-test k rest false new e = ap (λ (x : List ℕ). x ++ rest) (sym e)

  pub letters-next : (b : Bool) (new : List ℕ) → b ≡ occurs_in_any (get_or ks i d) ps → new ≡ (if b then found ++ get_or ks i d ∷ [] else found) → found ++ occurring (drop i ks) ps ≡ new ++ occurring (drop (i + 1) ks) ps
  letters-next b new e f =
      let step : occurring (drop i ks) ps ≡ (if b then get_or ks i d ∷ occurring (drop (suc i) ks) ps else occurring (drop (suc i) ks) ps) = rw (drop-cons ks i d l, ← e) refl in
      rw add-one (ap (λ (x : List ℕ). found ++ x) step ∙ by-test (get_or ks i d) (occurring (drop (suc i) ks) ps) b new f)

-- flags of two patterns, and of the rest
pub flags-next : (k : ℕ) (ps : List PatStmt) (i : ℕ) (d : PatStmt) (a b : Bool) → i < length ps → b ≡ (a || occurs_in k (pattern_of (get_or ps i d))) → (b || occurs_in_any k (map pattern_of (drop (i + 1) ps))) ≡ (a || occurs_in_any k (map pattern_of (drop i ps)))
flags-next k ps i d a b l e =
    rw (e, add-one, drop-cons ps i d l) (or-assoc a (occurs_in k (pattern_of (get_or ps i d))) (occurs_in_any k (map pattern_of (drop (suc i) ps))))

pub flags-first : (k : ℕ) (a b x y : Bool) → b ≡ (a || x) → (b || y) ≡ (a || (x || y))
flags-first k a b x y e = rw e (or-assoc a x y)

pub flags-all : (k : ℕ) (ps : List PatStatement) (xs : List PatStatement) (a : Bool) → xs ≡ [] → (a || occurs_in_any k xs) ≡ a
flags-all k ps xs a e = ap (λ (x : List PatStatement). a || occurs_in_any k x) e ∙ or-false a

pub no-flag : (n k : ℕ) → get_or (replicate n false) k false ≡ false
no-flag zero k = refl
no-flag (suc n) zero = refl
no-flag (suc n) (suc k) = no-flag n k

pub letter-small : (i : ℕ) → get_or (0 ∷ 1 ∷ 2 ∷ 3 ∷ 4 ∷ 5 ∷ 6 ∷ 7 ∷ []) i 0 < 8
letter-small zero = lit< tt
letter-small (suc zero) = lit< tt
letter-small (suc (suc zero)) = lit< tt
letter-small (suc (suc (suc zero))) = lit< tt
letter-small (suc (suc (suc (suc zero)))) = lit< tt
letter-small (suc (suc (suc (suc (suc zero))))) = lit< tt
letter-small (suc (suc (suc (suc (suc (suc zero)))))) = lit< tt
letter-small (suc (suc (suc (suc (suc (suc (suc zero))))))) = lit< tt
letter-small (suc (suc (suc (suc (suc (suc (suc (suc i)))))))) = lit< tt
