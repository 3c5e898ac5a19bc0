-- What is shown stands in the grammar, is legible, and means what was to be written.
use Rattle.std.proofs.Common.{◌≡◌, ℕ, ◌≤◌, ◌<◌, List, [], ◌∷◌, ◌++◌, true, false, refl, sym, ap, ◌∙◌, arith, append_assoc, Some}
use Rattle.std.specs.Prelude.{⊤, nat_le}
use Rattle.std.proofs.lemmas.Bool.{cond_both, leb-true, false≢true}
use Rattle.alg_syntax.specs.declared.signs.Operator.{Operator}
use Rattle.alg_syntax.specs.declared.signs.Operator.TheVariants.{Add, Sub, Mul, Div, Mod, Smul, Pow}
use Rattle.alg_syntax.specs.declared.signs.Sign.{Sign}
use Rattle.alg_syntax.specs.Expressions.{Tree, number, name, group, ascribed, minus, inverse, binary, apply, spell, level, is_head, begins_line, Fits}
use Rattle.alg_elaborate.specs.Raw.{Raw, Raws, literal, named, negation, reciprocal, operation, applied, of_sort, none, more, count, head_of, applied_at, meant, arguments}
use Rattle.alg_show.specs.Notation.{left_least, right_least}
use Rattle.alg_show.specs.Shown.{is_minus, wrapped, negated, shown, with_arguments, word}
use Rattle.alg_show.specs.Tasks.{IsNarrow, AreNarrow}
use Rattle.alg_show.specs.Groups.{first_minus}
use Rattle.alg_show.specs.ReadingBack.{IsNamed}
use Rattle.alg_show.proofs.Written.{Legible}

-- its names are names of the notation, and each function has arguments
abbrev mutual
  pub IsProper : Raw → Type 0
  IsProper (literal n) = ⊤
  IsProper (named x) = IsNamed x
  IsProper (negation a) = IsProper a
  IsProper (reciprocal a) = IsProper a
  IsProper (operation o a b) = IsProper a × IsProper b
  IsProper (applied f us) = IsNamed f × ((0 < count us) × AreProper us)
  IsProper (of_sort a x) = IsProper a × IsNamed x

  pub AreProper : Raws → Type 0
  AreProper none = ⊤
  AreProper (more a us) = IsProper a × AreProper us

bounds : (o : Operator) → (left_least o ≤ 100) × (right_least o ≤ 100)
bounds Add = (omega arith, omega arith)
bounds Sub = (omega arith, omega arith)
bounds Mul = (omega arith, omega arith)
bounds Div = (omega arith, omega arith)
bounds Mod = (omega arith, omega arith)
bounds Smul = (omega arith, omega arith)
bounds Pow = (omega arith, omega arith)

head_front : (a : Tree) → is_head a ≡ true → Fits a → first_minus a ≡ false
head_front (number f n) e k = refl
head_front (name w) e k = refl
head_front (group f a) e k = refl
head_front (ascribed f a w) e k = refl
head_front (minus a) e k = absurd (false≢true e)
head_front (inverse a) e k = absurd (false≢true e)
head_front (binary o a b) e k = absurd (false≢true e)
head_front (apply a b) e k = head_front a k.0 k.3

-- a tree of a high level begins with no minus
high_front : (a : Tree) → Fits a → 76 ≤ level a → first_minus a ≡ false
high_front (number f n) h l = refl
high_front (name w) h l = refl
high_front (group f a) h l = refl
high_front (ascribed f a w) h l = refl
high_front (minus a) h l = absurd (omega arith)
high_front (inverse a) h l = high_front a h.1 (let k = h.0 in omega arith)
high_front (binary Add a b) h l = absurd (omega arith)
high_front (binary Sub a b) h l = absurd (omega arith)
high_front (binary Mul a b) h l = absurd (omega arith)
high_front (binary Div a b) h l = absurd (omega arith)
high_front (binary Mod a b) h l = absurd (omega arith)
high_front (binary Smul a b) h l = absurd (omega arith)
high_front (binary Pow a b) h l = absurd (omega arith)
high_front (apply a b) h l = head_front a h.0 h.3

-- of the level of a power, and no negation
part_front : (a : Tree) → Fits a → 75 ≤ level a → is_minus a ≡ false → first_minus a ≡ false
part_front (number f n) h l e = refl
part_front (name w) h l e = refl
part_front (group f a) h l e = refl
part_front (ascribed f a w) h l e = refl
part_front (minus a) h l e = absurd (false≢true (sym e))
part_front (inverse a) h l e = high_front (inverse a) h (omega arith)
part_front (binary Add a b) h l e = absurd (omega arith)
part_front (binary Sub a b) h l e = absurd (omega arith)
part_front (binary Mul a b) h l e = absurd (omega arith)
part_front (binary Div a b) h l e = absurd (omega arith)
part_front (binary Mod a b) h l e = absurd (omega arith)
part_front (binary Smul a b) h l e = absurd (omega arith)
part_front (binary Pow a b) h l e = high_front a h.2 h.0
part_front (apply a b) h l e = high_front (apply a b) h (omega arith)

begins_none : (a : Tree) (ts : List Sign) → Legible a → begins_line (spell a ++ ts) ≡ false
begins_none (number f n) ts h = h.0
begins_none (name w) ts h = h.0
begins_none (group f a) ts h = h.0
begins_none (ascribed f a w) ts h = h.0
begins_none (minus a) ts h = refl
begins_none (inverse a) ts h = ap begins_line (append_assoc (spell a) _ ts) ∙ begins_none a _ h
begins_none (binary o a b) ts h = ap begins_line (append_assoc (spell a) _ ts) ∙ begins_none a _ h.0
begins_none (apply a b) ts h = ap begins_line (append_assoc (spell a) _ ts) ∙ begins_none a _ h.0

append-none : (xs : List Sign) → xs ++ [] ≡ xs
append-none [] = refl
append-none (x ∷ xs) = ap (λ y. x ∷ y) (append-none xs)

abbrev pub IsGood : Tree → Type 0
IsGood a = Fits a × Legible a

wrapped_good : (m : ℕ) (a : Tree) → m ≤ 100 → IsGood a → IsGood (wrapped m a) × (m ≤ level (wrapped m a))
wrapped_good m a l h = cond_both (nat_le m (level a)) a (group false a) (λ t. IsGood t × (m ≤ level t)) (λ e. (h, leb-true m (level a) e)) (λ e. ((h.0, (refl, h.1)), l))

negated_good : (a : Tree) → IsGood a → IsGood (negated a) × (75 ≤ level (negated a)) × (first_minus (negated a) ≡ false)
negated_good a h =
    let P : Tree → Type 0 = λ t. IsGood t × (75 ≤ level t) × (first_minus t ≡ false) in
    cond_both (is_minus a) (group false a) (wrapped 75 a) P (λ e. ((h.0, (refl, h.1)), omega arith, refl))
    (λ f. cond_both (nat_le 75 (level a)) a (group false a) P (λ e. let l = leb-true 75 (level a) e in (h, l, part_front a h.0 l f)) (λ e. ((h.0, (refl, h.1)), omega arith, refl)))

apply_good : (h b : Tree) → is_head h ≡ true → IsGood h → IsGood b → 100 ≤ level b → IsGood (apply h b)
apply_good h b e p q l = ((e, l, ap begins_line (sym (append-none (spell b))) ∙ begins_none b [] q.1, p.0, q.0), (p.1, q.1))

mutual
  pub shown_good : (t : Raw) → IsProper t → IsNarrow t → IsGood (shown t)
  shown_good (literal n) p w = (tt, (refl, w))
  shown_good (named x) p w = (tt, (refl, p))
  shown_good (negation a) p w = let k = negated_good (shown a) (shown_good a p w) in ((k.1, k.0.0), (k.2, k.0.1))
  shown_good (reciprocal a) p w = let k = wrapped_good 100 (shown a) (omega arith) (shown_good a p w) in ((k.1, k.0.0), k.0.1)
  shown_good (operation o a b) p w =
      let k = wrapped_good (left_least o) (shown a) (bounds o).0 (shown_good a p.0 w.0) in
      let l = wrapped_good (right_least o) (shown b) (bounds o).1 (shown_good b p.1 w.1) in
      ((k.1, l.1, k.0.0, l.0.0), (k.0.1, l.0.1))
  shown_good (applied f us) p w = arguments_good (name (word f)) us refl (tt, (refl, p.0)) p.1.1 w
  shown_good (of_sort a x) p w = let k = shown_good a p.0 w in (k.0, (refl, (k.1, (refl, p.1))))

  arguments_good : (h : Tree) (us : Raws) → is_head h ≡ true → IsGood h → AreProper us → AreNarrow us → IsGood (with_arguments h us)
  arguments_good h none e g p w = g
  arguments_good h (more a us) e g p w =
      let k = wrapped_good 100 (shown a) (omega arith) (shown_good a p.0 w.0) in
      arguments_good (apply h (wrapped 100 (shown a))) us refl (apply_good h (wrapped 100 (shown a)) e g k.0 k.1) p.1 w.1

wrapped_meant : (m : ℕ) (a : Tree) → meant (wrapped m a) ≡ meant a
wrapped_meant m a = cond_both (nat_le m (level a)) a (group false a) (λ t. meant t ≡ meant a) (λ e. refl) (λ e. refl)

negated_meant : (a : Tree) → meant (negated a) ≡ meant a
negated_meant a = cond_both (is_minus a) (group false a) (wrapped 75 a) (λ t. meant t ≡ meant a) (λ e. refl) (λ e. wrapped_meant 75 a)

mutual
  pub shown_meant : (t : Raw) → IsProper t → meant (shown t) ≡ t
  shown_meant (literal n) p = refl
  shown_meant (named x) p = refl
  shown_meant (negation a) p = ap negation (negated_meant (shown a) ∙ shown_meant a p)
  shown_meant (reciprocal a) p = ap reciprocal (wrapped_meant 100 (shown a) ∙ shown_meant a p)
  shown_meant (operation o a b) p =
      ap (λ x. operation o x (meant (wrapped (right_least o) (shown b)))) (wrapped_meant (left_least o) (shown a) ∙ shown_meant a p.0)
      ∙ ap (operation o a) (wrapped_meant (right_least o) (shown b) ∙ shown_meant b p.1)
  shown_meant (applied f none) p = absurd (omega (arith, p.1.0))
  shown_meant (applied f (more a us)) p =
      arguments_meant f (name (word f)) (wrapped 100 (shown a)) us refl p.1.1.1
      ∙ ap (λ x. applied f (more x us)) (wrapped_meant 100 (shown a) ∙ shown_meant a p.1.1.0)
  shown_meant (of_sort a x) p = ap (λ y. of_sort y x) (shown_meant a p.0)

  arguments_meant : (f : List ℕ) (h b : Tree) (us : Raws) → head_of h ≡ Some f → AreProper us → meant (with_arguments (apply h b) us) ≡ applied f (arguments h (more (meant b) us))
  arguments_meant f h b none e p = ap (λ o. applied_at o (arguments h (more (meant b) none))) e
  arguments_meant f h b (more a us) e p =
      arguments_meant f (apply h b) (wrapped 100 (shown a)) us e p.1
      ∙ ap (λ x. applied f (arguments h (more (meant b) (more x us)))) (wrapped_meant 100 (shown a) ∙ shown_meant a p.0)
