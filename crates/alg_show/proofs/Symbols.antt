-- Each symbol before well sorted arguments is read back.
use Rattle.std.proofs.Common.{◌≡◌, ℕ, suc, List, [], ◌∷◌, length, Bool, true, false, ◌&&◌, ◌||◌, nat_eq, if◌then◌else◌, Option, Some, None, refl, ap, sym, ◌∙◌, arith}
use Rattle.std.specs.Prelude.{codes, slice_get}
use Rattle.std.proofs.lemmas.Bool.{and_parts}
use Rattle.alg_terms.specs.declared.sorts.Sort.{Sort}
use Rattle.alg_terms.specs.declared.sorts.Sort.TheVariants.{Nat, Int, Rat, Decl}
use Rattle.alg_terms.specs.declared.symbols.Sym.{Sym}
use Rattle.alg_terms.specs.declared.symbols.Sym.TheVariants as symbol
use Rattle.alg_terms.specs.Tree.{Tree, Lit, Var, App, Trees, Nil, Cons, sort_of_tree}
use Rattle.alg_terms.specs.Order.{sort_same}
use Rattle.alg_terms.proofs.OrderLaws.{sort_same-equal}
use Rattle.alg_terms.specs.Symbols.{serves, is_integral, arguments_fit}
use Rattle.alg_law.specs.declared.classes.Class.{Class}
use Rattle.alg_law.specs.declared.classes.Class.TheVariants.{AddGroup, Group, Field}
use Rattle.alg_law.specs.declared.marks.Mark.TheVariants.{Good, BadSort}
use Rattle.alg_law.specs.Declarations.{Declaration, Carrier, Instance, Variable, Function, Hypothesis}
use Rattle.alg_law.specs.Having.{has_class, instance_gives, instances_give}
use Rattle.alg_law.specs.WellSorted.{class_mark, same_mark, literal_class, of_sort, variable_of, function_of, of_function, sorts_agree, sorts_same, sort_mark, has_classes, symbol_mark, sorts_of, head_mark, mark_of, marks_of, IsWellSorted, AreWellSorted}
use Rattle.alg_law.proofs.WellSortedLaws.{worse-parts}
use Rattle.alg_syntax.specs.declared.signs.Operator.{Operator}
use Rattle.alg_syntax.specs.declared.signs.Operator.TheVariants.{Add, Sub, Mul, Div, Mod}
use Rattle.alg_names.specs.declared.scope.Scope.{Scope}
use Rattle.alg_names.specs.BuiltIn.{one, two}
use Rattle.alg_elaborate.specs.Raw.{operation, applied}
use Rattle.alg_names.specs.declared.meanings.Meaning.TheVariants as meaning
use Rattle.alg_expr.specs.Applying.{arity_fits, sorts_fit}
use Rattle.alg_well_sorted.proofs.Parts.{mark_parts, less_one, none_first, none_last}
use Rattle.alg_show.specs.Names.{name_at}
use Rattle.alg_show.specs.Knowing.{knows}
use Rattle.alg_show.specs.Unparenthesized.{raw}
use Rattle.alg_show.specs.ReadingBack.{AllWritable}
use Rattle.alg_show.proofs.Scoped.{Stands}
use Rattle.alg_show.proofs.Named.{abs-named, min-named, max-named, gcd-named, lcm-named, factorial-named, choose-named, fib-named, sort-named, variable-named, function-named}
use Rattle.alg_show.proofs.Turns.{own_raws}
use Rattle.alg_show.proofs.Reading.{or_none, ReadsAs, Reads, AllRead, of_sort_k, there, no_lack, literal_reads, variable_reads, negation_reads, inverse_reads, Joins, operation_reads, power_reads, multiple_reads, one_shared, two_shared, OfSorts, function_reads}

two_of : (P : Trees → Type 0) → ((x y : Tree) → P (Cons x (Cons y Nil))) → (xs : Trees) → nat_eq 2 (length (sorts_of xs)) ≡ true → P xs
two_of P g Nil e = absurd (none_last 1 e)
two_of P g (Cons x Nil) e = absurd (none_last 0 (less_one 1 0 e))
two_of P g (Cons x (Cons y Nil)) e = g x y
two_of P g (Cons x (Cons y (Cons z zs))) e = absurd (none_first (length (sorts_of zs)) (less_one 0 (suc (length (sorts_of zs))) (less_one 1 (suc (suc (length (sorts_of zs)))) e)))

one_of : (P : Trees → Type 0) → ((x : Tree) → P (Cons x Nil)) → (xs : Trees) → nat_eq 1 (length (sorts_of xs)) ≡ true → P xs
one_of P g Nil e = absurd (none_last 0 e)
one_of P g (Cons x Nil) e = g x
one_of P g (Cons x (Cons y ys)) e = absurd (none_first (length (sorts_of ys)) (less_one 0 (suc (length (sorts_of ys))) e))

-- no class is declared for a built-in sort
none_declared : (k : Sort) (c : Class) → ((j : ℕ) (b : Class) → instance_gives (Instance j b) k c ≡ false) → (ds : List Declaration) → instances_give ds k c ≡ false
none_declared k c h [] = refl
none_declared k c h (Carrier n ∷ ds) = none_declared k c h ds
none_declared k c h (Instance j b ∷ ds) = ap (λ x. x || instances_give ds k c) (h j b) ∙ none_declared k c h ds
none_declared k c h (Variable n l ∷ ds) = none_declared k c h ds
none_declared k c h (Function n ls l ∷ ds) = none_declared k c h ds
none_declared k c h (Hypothesis n p ∷ ds) = none_declared k c h ds

module _ (s : Scope) (ds : List Declaration) (st : Stands s ds) (w : AllWritable ds) where
  count_of : (n : ℕ) (f : Sym) (k : Sort) (ts : List Sort) → (if nat_eq n (length ts) && arguments_fit f k ts then class_mark (has_classes ds f k) else BadSort) ≡ Good → nat_eq n (length ts) ≡ true
  count_of n f k ts h = (and_parts (nat_eq n (length ts)) (arguments_fit f k ts) (mark_parts (nat_eq n (length ts) && arguments_fit f k ts) (has_classes ds f k) h).0).0

  -- two arguments, of these sorts
  record Pair (f : Sym) (k a b : Sort) (x y : Tree) : Type 0 where
    left : sort_of_tree x ≡ a
    right : sort_of_tree y ≡ b
    served : serves f k ≡ true
    classes : has_classes ds f k ≡ true
    fit : ((sort_same (sort_of_tree x) a && (sort_same (sort_of_tree y) b && true)) && serves f k) ≡ true

  pair : (f : Sym) (k a b : Sort) (x y : Tree) → (if (sort_same (sort_of_tree x) a && (sort_same (sort_of_tree y) b && true)) && serves f k then class_mark (has_classes ds f k) else BadSort) ≡ Good → Pair f k a b x y
  pair f k a b x y h =
      let m = mark_parts ((sort_same (sort_of_tree x) a && (sort_same (sort_of_tree y) b && true)) && serves f k) (has_classes ds f k) h in
      let p = and_parts (sort_same (sort_of_tree x) a && (sort_same (sort_of_tree y) b && true)) (serves f k) m.0 in
      let q = and_parts (sort_same (sort_of_tree x) a) (sort_same (sort_of_tree y) b && true) p.0 in
      let r = and_parts (sort_same (sort_of_tree y) b) true q.1 in
      record { left = sort_same-equal (sort_of_tree x) a q.0; right = sort_same-equal (sort_of_tree y) b r.0; served = p.1; classes = m.1; fit = m.0 }

  -- one argument
  record Single (f : Sym) (k : Sort) (x : Tree) : Type 0 where
    part : sort_of_tree x ≡ k
    served : serves f k ≡ true
    classes : has_classes ds f k ≡ true
    fit : ((sort_same (sort_of_tree x) k && true) && serves f k) ≡ true

  single : (f : Sym) (k : Sort) (x : Tree) → (if (sort_same (sort_of_tree x) k && true) && serves f k then class_mark (has_classes ds f k) else BadSort) ≡ Good → Single f k x
  single f k x h =
      let m = mark_parts ((sort_same (sort_of_tree x) k && true) && serves f k) (has_classes ds f k) h in
      let p = and_parts (sort_same (sort_of_tree x) k && true) (serves f k) m.0 in
      let q = and_parts (sort_same (sort_of_tree x) k) true p.0 in
      record { part = sort_same-equal (sort_of_tree x) k q.0; served = p.1; classes = m.1; fit = m.0 }

  -- ---- sums, differences, products, quotients, remainders

  add_joins : (k : Sort) → Joins s ds st Add symbol.Add k
  add_joins k = record { parts_of = λ xs ys. refl; typed_of = λ a b. refl; faults_of = λ a b. refl }

  mul_joins : (k : Sort) → Joins s ds st Mul symbol.Mul k
  mul_joins k = record { parts_of = λ xs ys. refl; typed_of = λ a b. refl; faults_of = λ a b. refl }

  mod_joins : (k : Sort) → Joins s ds st Mod symbol.Mod k
  mod_joins k = record { parts_of = λ xs ys. refl; typed_of = λ a b. refl; faults_of = λ a b. refl }

  sub_joins : (k : Sort) → has_class ds k AddGroup ≡ true → Joins s ds st Sub symbol.Sub k
  sub_joins Nat h = let e : instances_give ds Nat AddGroup ≡ false = none_declared Nat AddGroup (λ j b. refl) ds in let g : instances_give ds Nat AddGroup ≡ true = h in cc
  sub_joins Int h = record { parts_of = λ xs ys. refl; typed_of = λ a b. refl; faults_of = λ a b. refl }
  sub_joins Rat h = record { parts_of = λ xs ys. refl; typed_of = λ a b. refl; faults_of = λ a b. refl }
  sub_joins (Decl j) h = record { parts_of = λ xs ys. refl; typed_of = λ a b. refl; faults_of = λ a b. refl }

  natsub_joins : (k : Sort) → k ≡ Nat → Joins s ds st Sub symbol.NatSub k
  natsub_joins Nat h = record { parts_of = λ xs ys. refl; typed_of = λ a b. refl; faults_of = λ a b. refl }
  natsub_joins Int h = cc
  natsub_joins Rat h = cc
  natsub_joins (Decl j) h = cc

  div_joins : (k : Sort) → (has_class ds k Group || has_class ds k Field) ≡ true → Joins s ds st Div symbol.Div k
  div_joins Nat h =
      let e : instances_give ds Nat Group ≡ false = none_declared Nat Group (λ j b. refl) ds in
      let f : instances_give ds Nat Field ≡ false = none_declared Nat Field (λ j b. refl) ds in
      let g : (instances_give ds Nat Group || instances_give ds Nat Field) ≡ true = h in
      let g' : false ≡ true = sym (ap (λ x. x || instances_give ds Nat Field) e ∙ f) ∙ g in cc
  div_joins Int h =
      let e : instances_give ds Int Group ≡ false = none_declared Int Group (λ j b. refl) ds in
      let f : instances_give ds Int Field ≡ false = none_declared Int Field (λ j b. refl) ds in
      let g : (instances_give ds Int Group || instances_give ds Int Field) ≡ true = h in
      let g' : false ≡ true = sym (ap (λ x. x || instances_give ds Int Field) e ∙ f) ∙ g in cc
  div_joins Rat h = record { parts_of = λ xs ys. refl; typed_of = λ a b. refl; faults_of = λ a b. refl }
  div_joins (Decl j) h = record { parts_of = λ xs ys. refl; typed_of = λ a b. refl; faults_of = λ a b. refl }

  idiv_joins : (k : Sort) → is_integral k ≡ true → Joins s ds st Div symbol.IDiv k
  idiv_joins Nat h = record { parts_of = λ xs ys. refl; typed_of = λ a b. refl; faults_of = λ a b. refl }
  idiv_joins Int h = record { parts_of = λ xs ys. refl; typed_of = λ a b. refl; faults_of = λ a b. refl }
  idiv_joins Rat h = cc
  idiv_joins (Decl j) h = cc

  abbrev Two : Sym → Sort → Trees → Type 0
  Two f k xs = symbol_mark ds f k (sorts_of xs) ≡ Good → AllRead s ds st xs → Reads s ds st (App f k xs)

  joined : (o : Operator) (f : Sym) (k : Sort) → Joins s ds st o f k → (x y : Tree) → Pair f k k k x y → Reads s ds st x → Reads s ds st y → (arity_fits f 2 && sorts_fit f k (sort_of_tree x ∷ sort_of_tree y ∷ [])) ≡ true → ReadsAs s ds st k (App f k (Cons x (Cons y Nil))) (λ b. operation o (raw ds b x) (raw ds false y)) (knows x || knows y) Nat
  joined o f k j x y p r q fit = operation_reads s ds st o f k j x y (of_sort_k s ds st k x p.left r) (of_sort_k s ds st k y p.right q) (no_lack s ds st f k p.served p.classes) fit

  add_reads : (k : Sort) (xs : Trees) → Two symbol.Add k xs
  add_reads k xs h = two_of (Two symbol.Add k) (λ x y g r. let p = pair symbol.Add k k k x y g in joined Add symbol.Add k (add_joins k) x y p r.0 r.1.0 p.fit) xs (count_of 2 symbol.Add k (sorts_of xs) h) h

  mul_reads : (k : Sort) (xs : Trees) → Two symbol.Mul k xs
  mul_reads k xs h = two_of (Two symbol.Mul k) (λ x y g r. let p = pair symbol.Mul k k k x y g in joined Mul symbol.Mul k (mul_joins k) x y p r.0 r.1.0 p.fit) xs (count_of 2 symbol.Mul k (sorts_of xs) h) h

  mod_reads : (k : Sort) (xs : Trees) → Two symbol.Mod k xs
  mod_reads k xs h = two_of (Two symbol.Mod k) (λ x y g r. let p = pair symbol.Mod k k k x y g in joined Mod symbol.Mod k (mod_joins k) x y p r.0 r.1.0 p.fit) xs (count_of 2 symbol.Mod k (sorts_of xs) h) h

  sub_reads : (k : Sort) (xs : Trees) → Two symbol.Sub k xs
  sub_reads k xs h = two_of (Two symbol.Sub k) (λ x y g r. let p = pair symbol.Sub k k k x y g in joined Sub symbol.Sub k (sub_joins k p.classes) x y p r.0 r.1.0 p.fit) xs (count_of 2 symbol.Sub k (sorts_of xs) h) h

  natsub_reads : (k : Sort) (xs : Trees) → Two symbol.NatSub k xs
  natsub_reads k xs h = two_of (Two symbol.NatSub k) (λ x y g r. let p = pair symbol.NatSub k k k x y g in joined Sub symbol.NatSub k (natsub_joins k (sort_same-equal k Nat p.served)) x y p r.0 r.1.0 p.fit) xs (count_of 2 symbol.NatSub k (sorts_of xs) h) h

  div_reads : (k : Sort) (xs : Trees) → Two symbol.Div k xs
  div_reads k xs h = two_of (Two symbol.Div k) (λ x y g r. let p = pair symbol.Div k k k x y g in joined Div symbol.Div k (div_joins k p.classes) x y p r.0 r.1.0 p.fit) xs (count_of 2 symbol.Div k (sorts_of xs) h) h

  idiv_reads : (k : Sort) (xs : Trees) → Two symbol.IDiv k xs
  idiv_reads k xs h = two_of (Two symbol.IDiv k) (λ x y g r. let p = pair symbol.IDiv k k k x y g in joined Div symbol.IDiv k (idiv_joins k p.served) x y p r.0 r.1.0 p.fit) xs (count_of 2 symbol.IDiv k (sorts_of xs) h) h

  -- ---- negations and inverses

  neg_reads : (k : Sort) (xs : Trees) → Two symbol.Neg k xs
  neg_reads k xs h = one_of (Two symbol.Neg k) (λ x g r. let p = single symbol.Neg k x g in negation_reads s ds st k x (of_sort_k s ds st k x p.part r.0) (no_lack s ds st symbol.Neg k p.served p.classes) p.fit (knows x || false) (or_none (knows x))) xs (count_of 1 symbol.Neg k (sorts_of xs) h) h

  inv_reads : (k : Sort) (xs : Trees) → Two symbol.Inv k xs
  inv_reads k xs h = one_of (Two symbol.Inv k) (λ x g r. let p = single symbol.Inv k x g in inverse_reads s ds st k x (of_sort_k s ds st k x p.part r.0) (no_lack s ds st symbol.Inv k p.served p.classes) p.fit (knows x || false) (or_none (knows x))) xs (count_of 1 symbol.Inv k (sorts_of xs) h) h

  -- ---- powers and multiples

  npow_reads : (k : Sort) (xs : Trees) → Two symbol.Npow k xs
  npow_reads k xs h = two_of (Two symbol.Npow k) (λ x e g r. let p = pair symbol.Npow k k Nat x e g in power_reads s ds st k x e Nat p.right refl (of_sort_k s ds st k x p.left r.0) r.1.0 (there s ds st symbol.Npow k p.served p.classes) p.fit (knows x || false) (or_none (knows x))) xs (count_of 2 symbol.Npow k (sorts_of xs) h) h

  zpow_reads : (k : Sort) (xs : Trees) → Two symbol.Zpow k xs
  zpow_reads k xs h = two_of (Two symbol.Zpow k) (λ x e g r. let p = pair symbol.Zpow k k Int x e g in power_reads s ds st k x e Int p.right refl (of_sort_k s ds st k x p.left r.0) r.1.0 (there s ds st symbol.Zpow k p.served p.classes) p.fit (knows x || false) (or_none (knows x))) xs (count_of 2 symbol.Zpow k (sorts_of xs) h) h

  nsmul_reads : (k : Sort) (xs : Trees) → Two symbol.Nsmul k xs
  nsmul_reads k xs h = two_of (Two symbol.Nsmul k) (λ e x g r. let p = pair symbol.Nsmul k Nat k e x g in multiple_reads s ds st k e x Nat p.left refl r.0 (of_sort_k s ds st k x p.right r.1.0) (there s ds st symbol.Nsmul k p.served p.classes) p.fit) xs (count_of 2 symbol.Nsmul k (sorts_of xs) h) h

  zsmul_reads : (k : Sort) (xs : Trees) → Two symbol.Zsmul k xs
  zsmul_reads k xs h = two_of (Two symbol.Zsmul k) (λ e x g r. let p = pair symbol.Zsmul k Int k e x g in multiple_reads s ds st k e x Int p.left refl r.0 (of_sort_k s ds st k x p.right r.1.0) (there s ds st symbol.Zsmul k p.served p.classes) p.fit) xs (count_of 2 symbol.Zsmul k (sorts_of xs) h) h

  -- ---- functions

  abs_reads : (k : Sort) (xs : Trees) → Two symbol.Abs k xs
  abs_reads k xs h = one_of (Two symbol.Abs k) (λ x g r. let p = single symbol.Abs k x g in one_shared s ds st symbol.Abs (codes "abs") k x st.abs abs-named (of_sort_k s ds st k x p.part r.0) (no_lack s ds st symbol.Abs k p.served p.classes) p.fit (knows x || false) (or_none (knows x))) xs (count_of 1 symbol.Abs k (sorts_of xs) h) h

  min_reads : (k : Sort) (xs : Trees) → Two symbol.Min k xs
  min_reads k xs h = two_of (Two symbol.Min k) (λ x y g r. let p = pair symbol.Min k k k x y g in two_shared s ds st symbol.Min (codes "min") k x y st.min min-named (of_sort_k s ds st k x p.left r.0) (of_sort_k s ds st k y p.right r.1.0) (no_lack s ds st symbol.Min k p.served p.classes) p.fit) xs (count_of 2 symbol.Min k (sorts_of xs) h) h

  max_reads : (k : Sort) (xs : Trees) → Two symbol.Max k xs
  max_reads k xs h = two_of (Two symbol.Max k) (λ x y g r. let p = pair symbol.Max k k k x y g in two_shared s ds st symbol.Max (codes "max") k x y st.max max-named (of_sort_k s ds st k x p.left r.0) (of_sort_k s ds st k y p.right r.1.0) (no_lack s ds st symbol.Max k p.served p.classes) p.fit) xs (count_of 2 symbol.Max k (sorts_of xs) h) h

  -- a function of natural numbers, by the sort of its value
  two_naturals : (f : Sym) (k : Sort) (x y : Tree) → k ≡ Nat → Pair f k k k x y → OfSorts s ds st two (Cons x (Cons y Nil))
  two_naturals f k x y e p = (p.left ∙ e, (p.right ∙ e, tt))

  gcd_reads : (k : Sort) (xs : Trees) → Two symbol.Gcd k xs
  gcd_reads k xs h = two_of (Two symbol.Gcd k)
      (λ x y g r.
      let p = pair symbol.Gcd k k k x y g in
      let e = sort_same-equal k Nat p.served in
      function_reads s ds st symbol.Gcd (codes "Nat.gcd") two k (Cons x (Cons y Nil)) (λ b. raw ds b (App symbol.Gcd k (Cons x (Cons y Nil))))
      (λ b. ap (applied (codes "Nat.gcd")) (own_raws ds [] b (Cons x (Cons y Nil)))) (st.gcd ∙ ap (λ l. Some (meaning.Function symbol.Gcd two l)) (sym e)) gcd-named (omega arith)
      (two_naturals symbol.Gcd k x y e p) r p.fit)
      xs (count_of 2 symbol.Gcd k (sorts_of xs) h) h

  lcm_reads : (k : Sort) (xs : Trees) → Two symbol.Lcm k xs
  lcm_reads k xs h = two_of (Two symbol.Lcm k)
      (λ x y g r.
      let p = pair symbol.Lcm k k k x y g in
      let e = sort_same-equal k Nat p.served in
      function_reads s ds st symbol.Lcm (codes "Nat.lcm") two k (Cons x (Cons y Nil)) (λ b. raw ds b (App symbol.Lcm k (Cons x (Cons y Nil))))
      (λ b. ap (applied (codes "Nat.lcm")) (own_raws ds [] b (Cons x (Cons y Nil)))) (st.lcm ∙ ap (λ l. Some (meaning.Function symbol.Lcm two l)) (sym e)) lcm-named (omega arith)
      (two_naturals symbol.Lcm k x y e p) r p.fit)
      xs (count_of 2 symbol.Lcm k (sorts_of xs) h) h

  choose_reads : (k : Sort) (xs : Trees) → Two symbol.Choose k xs
  choose_reads k xs h = two_of (Two symbol.Choose k)
      (λ x y g r.
      let p = pair symbol.Choose k k k x y g in
      let e = sort_same-equal k Nat p.served in
      function_reads s ds st symbol.Choose (codes "Nat.choose") two k (Cons x (Cons y Nil)) (λ b. raw ds b (App symbol.Choose k (Cons x (Cons y Nil))))
      (λ b. ap (applied (codes "Nat.choose")) (own_raws ds [] b (Cons x (Cons y Nil)))) (st.choose ∙ ap (λ l. Some (meaning.Function symbol.Choose two l)) (sym e)) choose-named (omega arith)
      (two_naturals symbol.Choose k x y e p) r p.fit)
      xs (count_of 2 symbol.Choose k (sorts_of xs) h) h

  factorial_reads : (k : Sort) (xs : Trees) → Two symbol.Fact k xs
  factorial_reads k xs h = one_of (Two symbol.Fact k)
      (λ x g r.
      let p = single symbol.Fact k x g in
      let e = sort_same-equal k Nat p.served in
      function_reads s ds st symbol.Fact (codes "Nat.factorial") one k (Cons x Nil) (λ b. raw ds b (App symbol.Fact k (Cons x Nil)))
      (λ b. ap (applied (codes "Nat.factorial")) (own_raws ds [] b (Cons x Nil))) (st.factorial ∙ ap (λ l. Some (meaning.Function symbol.Fact one l)) (sym e)) factorial-named (omega arith)
      (p.part ∙ e, tt) r p.fit)
      xs (count_of 1 symbol.Fact k (sorts_of xs) h) h

  fib_reads : (k : Sort) (xs : Trees) → Two symbol.Fib k xs
  fib_reads k xs h = one_of (Two symbol.Fib k)
      (λ x g r.
      let p = single symbol.Fib k x g in
      let e = sort_same-equal k Nat p.served in
      function_reads s ds st symbol.Fib (codes "Nat.fib") one k (Cons x Nil) (λ b. raw ds b (App symbol.Fib k (Cons x Nil)))
      (λ b. ap (applied (codes "Nat.fib")) (own_raws ds [] b (Cons x Nil))) (st.fib ∙ ap (λ l. Some (meaning.Function symbol.Fib one l)) (sym e)) fib-named (omega arith)
      (p.part ∙ e, tt) r p.fit)
      xs (count_of 1 symbol.Fib k (sorts_of xs) h) h

  -- a declared function
  agree : (ls : List Sort) (xs : Trees) → nat_eq (length ls) (length (sorts_of xs)) ≡ true → sorts_agree ls (sorts_of xs) ≡ true → OfSorts s ds st ls xs
  agree [] Nil n e = tt
  agree [] (Cons x xs) n e = absurd (none_first (length (sorts_of xs)) n)
  agree (l ∷ ls) Nil n e = absurd (none_last (length ls) n)
  agree (l ∷ ls) (Cons x xs) n e =
      let p = and_parts (sort_same l (sort_of_tree x)) (sorts_agree ls (sorts_of xs)) e in
      (sym (sort_same-equal l (sort_of_tree x) p.0), agree ls xs (less_one (length ls) (length (sorts_of xs)) n) p.1)

  good_same : (b : Bool) → same_mark b ≡ Good → b ≡ true
  good_same true e = refl
  good_same false e = cc

  declared_reads : (j : ℕ) (k : Sort) (xs : Trees) (o : Option (List Sort × Sort)) → function_of (slice_get ds j) ≡ o → of_function o k (sorts_of xs) ≡ Good → AllRead s ds st xs → Reads s ds st (App (symbol.Apply j) k xs)
  declared_reads j k xs None e h r = cc
  declared_reads j k xs (Some p) e h r =
      let a = and_parts (sorts_same p.0 (sorts_of xs)) (sort_same p.1 k) (good_same (sorts_same p.0 (sorts_of xs) && sort_same p.1 k) h) in
      let b = and_parts (nat_eq (length p.0) (length (sorts_of xs))) (sorts_agree p.0 (sorts_of xs)) a.0 in
      let c = sort_same-equal p.1 k a.1 in
      let n = function-named ds w j p.0 p.1 e in
      function_reads s ds st (symbol.Apply j) (name_at ds j) p.0 k xs (λ v. raw ds v (App (symbol.Apply j) k xs))
      (λ v. ap (applied (name_at ds j)) (own_raws ds [] v xs)) (st.functions j p.0 p.1 e ∙ ap (λ l. Some (meaning.Function (symbol.Apply j) p.0 l)) c) n.0 n.1 (agree p.0 xs b.0 b.1) r refl

  compound_reads : (f : Sym) (k : Sort) (xs : Trees) → Two f k xs
  compound_reads symbol.Add k xs h r = add_reads k xs h r
  compound_reads symbol.Mul k xs h r = mul_reads k xs h r
  compound_reads symbol.Neg k xs h r = neg_reads k xs h r
  compound_reads symbol.Sub k xs h r = sub_reads k xs h r
  compound_reads symbol.Inv k xs h r = inv_reads k xs h r
  compound_reads symbol.Div k xs h r = div_reads k xs h r
  compound_reads symbol.Npow k xs h r = npow_reads k xs h r
  compound_reads symbol.Zpow k xs h r = zpow_reads k xs h r
  compound_reads symbol.Nsmul k xs h r = nsmul_reads k xs h r
  compound_reads symbol.Zsmul k xs h r = zsmul_reads k xs h r
  compound_reads symbol.Abs k xs h r = abs_reads k xs h r
  compound_reads symbol.Min k xs h r = min_reads k xs h r
  compound_reads symbol.Max k xs h r = max_reads k xs h r
  compound_reads symbol.NatSub k xs h r = natsub_reads k xs h r
  compound_reads symbol.IDiv k xs h r = idiv_reads k xs h r
  compound_reads symbol.Mod k xs h r = mod_reads k xs h r
  compound_reads symbol.Gcd k xs h r = gcd_reads k xs h r
  compound_reads symbol.Lcm k xs h r = lcm_reads k xs h r
  compound_reads symbol.Fact k xs h r = factorial_reads k xs h r
  compound_reads symbol.Choose k xs h r = choose_reads k xs h r
  compound_reads symbol.Fib k xs h r = fib_reads k xs h r
  compound_reads (symbol.Apply j) k xs h r = declared_reads j k xs (function_of (slice_get ds j)) refl h r

  good_class : (b : Bool) → class_mark b ≡ Good → b ≡ true
  good_class true e = refl
  good_class false e = cc

  of_variable : (d : ℕ) (k : Sort) (o : Option Sort) → variable_of (slice_get ds d) ≡ o → of_sort o k ≡ Good → variable_of (slice_get ds d) ≡ Some k
  of_variable d k None e h = cc
  of_variable d k (Some l) e h = e ∙ ap Some (sort_same-equal l k (good_same (sort_same l k) h))

  mutual
    -- a well sorted tree is read back
    pub reads : (t : Tree) → IsWellSorted ds t → Reads s ds st t
    reads (Lit k n) h =
        let p = worse-parts (sort_mark ds k) (class_mark (has_class ds k (literal_class n))) h in
        literal_reads s ds st k n p.0 (sort-named ds w k p.0) (good_class (has_class ds k (literal_class n)) p.1)
    reads (Var d k) h =
        let p = worse-parts (sort_mark ds k) (of_sort (variable_of (slice_get ds d)) k) h in
        let e = of_variable d k (variable_of (slice_get ds d)) refl p.1 in
        variable_reads s ds st d k (st.variables d k e) (variable-named ds w d k e)
    reads (App f k xs) h =
        let p = worse-parts (head_mark ds f k (sorts_of xs)) (marks_of ds xs) h in
        let q = worse-parts (sort_mark ds k) (symbol_mark ds f k (sorts_of xs)) p.0 in
        compound_reads f k xs q.1 (all_read xs p.1)

    pub all_read : (xs : Trees) → AreWellSorted ds xs → AllRead s ds st xs
    all_read Nil h = tt
    all_read (Cons x xs) h = let p = worse-parts (mark_of ds x) (marks_of ds xs) h in (reads x p.0, all_read xs p.1)
