-- No tree of the grammar that says the same has fewer groups than what is shown.
use Rattle.std.proofs.Common.{◌≡◌, ℕ, suc, ◌+◌, ◌≤◌, List, true, false, Some, refl, ap, sym, ◌∙◌, subst, arith}
use Rattle.std.specs.Prelude.{nat_le}
use Rattle.std.proofs.lemmas.Bool.{cond_both, cond-true, cond-false, le-leb, false≢true}
use Rattle.alg_terms.specs.Tree as terms
use Rattle.alg_law.specs.Declarations.{Declaration}
use Rattle.alg_syntax.specs.Expressions.{Tree, number, name, group, ascribed, minus, inverse, binary, apply, level, is_head, Fits}
use Rattle.alg_elaborate.specs.Raw.{Raw, Raws, none, more, head_of, applied_at, meant, arguments}
use Rattle.alg_show.specs.Notation.{left_least, right_least}
use Rattle.alg_show.specs.Shown.{is_minus, wrapped, negated, shown, with_arguments, word}
use Rattle.alg_show.specs.Groups.{groups, first_minus, IsApart, HasFewestGroups}
use Rattle.alg_show.proofs.Levels.{applied_level, applied_minus}

-- without a group round the whole
abbrev inner : Tree → ℕ
inner (group f a) = groups a
inner (number f n) = 0
inner (name w) = 0
inner (ascribed f a w) = groups a
inner (minus a) = groups a
inner (inverse a) = groups a
inner (binary o a b) = groups a + groups b
inner (apply a b) = groups a + groups b

inner_few : (a : Tree) → inner a ≤ groups a
inner_few (group f a) = omega arith
inner_few (number f n) = omega arith
inner_few (name w) = omega arith
inner_few (ascribed f a w) = omega arith
inner_few (minus a) = omega arith
inner_few (inverse a) = omega arith
inner_few (binary o a b) = omega arith
inner_few (apply a b) = omega arith

abbrev Few : Tree → Type 0
Few a = groups (shown (meant a)) ≤ inner a

wrapped_more : (m : ℕ) (t : Tree) → groups (wrapped m t) ≤ suc (groups t)
wrapped_more m t = cond_both (nat_le m (level t)) t (group false t) (λ x. groups x ≤ suc (groups t)) (λ e. omega arith) (λ e. omega arith)

negated_more : (t : Tree) → groups (negated t) ≤ suc (groups t)
negated_more t = cond_both (is_minus t) (group false t) (wrapped 75 t) (λ x. groups x ≤ suc (groups t)) (λ e. omega arith) (λ e. wrapped_more 75 t)

wrapped_none : (m : ℕ) (t : Tree) → m ≤ level t → groups (wrapped m t) ≡ groups t
wrapped_none m t l = ap groups (cond-true (nat_le m (level t)) t (group false t) (le-leb m (level t) l))

negated_none : (t : Tree) → 75 ≤ level t → is_minus t ≡ false → groups (negated t) ≡ groups t
negated_none t l e = ap groups (cond-false (is_minus t) (group false t) (wrapped 75 t) e) ∙ wrapped_none 75 t l

head_some : (h : Tree) → is_head h ≡ true → Fits h → (f : List ℕ) × (head_of h ≡ Some f)
head_some (number f n) e k = absurd (false≢true e)
head_some (name w) e k = (w.text, refl)
head_some (group f a) e k = absurd (false≢true e)
head_some (ascribed f a w) e k = absurd (false≢true e)
head_some (minus a) e k = absurd (false≢true e)
head_some (inverse a) e k = absurd (false≢true e)
head_some (binary o a b) e k = absurd (false≢true e)
head_some (apply a b) e k = head_some a k.0 k.3

some_arguments : (h : Tree) (c : Raw) (us : Raws) → (d : Raw) × (vs : Raws) × (arguments h (more c us) ≡ more d vs)
some_arguments (number f n) c us = (c, us, refl)
some_arguments (name w) c us = (c, us, refl)
some_arguments (group f a) c us = (c, us, refl)
some_arguments (ascribed f a w) c us = (c, us, refl)
some_arguments (minus a) c us = (c, us, refl)
some_arguments (inverse a) c us = (c, us, refl)
some_arguments (binary o a b) c us = (c, us, refl)
some_arguments (apply a b) c us = some_arguments a (meant b) (more c us)

-- what an application means
applied_shape : (h b : Tree) → is_head h ≡ true → Fits h → (f : List ℕ) × (d : Raw) × (vs : Raws) × (shown (meant (apply h b)) ≡ with_arguments (apply (name (word f)) (wrapped 100 (shown d))) vs)
applied_shape h b e k =
    let p = head_some h e k in
    let q = some_arguments h (meant b) none in
    (p.0, q.0, q.1, ap (λ o. shown (applied_at o (arguments h (more (meant b) none)))) p.1 ∙ ap (λ us. shown (applied_at (Some p.0) us)) q.2)

-- in its place a tree has as many groups at most
placed : (m : ℕ) (a : Tree) → Fits a → m ≤ level a → Few a → groups (wrapped m (shown (meant a))) ≤ groups a
placed m (group f a) h l k = let w = wrapped_more m (shown (meant a)) in omega arith
placed m (number f n) h l k = let w = wrapped_none m (shown (meant (number f n))) l in omega arith
placed m (name x) h l k = let w = wrapped_none m (shown (meant (name x))) l in omega arith
placed m (ascribed f a x) h l k = let w = wrapped_none m (shown (meant (ascribed f a x))) l in omega arith
placed m (minus a) h l k = let w = wrapped_none m (shown (meant (minus a))) l in omega arith
placed m (inverse a) h l k = let w = wrapped_none m (shown (meant (inverse a))) l in omega arith
placed m (binary o a b) h l k = let w = wrapped_none m (shown (meant (binary o a b))) l in omega arith
placed m (apply a b) h l k =
    let s = applied_shape a b h.0 h.3 in
    let e : level (shown (meant (apply a b))) ≡ 76 = ap level s.3 ∙ applied_level (name (word s.0)) (wrapped 100 (shown s.1)) s.2 in
    let w = wrapped_none m (shown (meant (apply a b))) (subst (λ (n : ℕ). m ≤ n) (sym e) l) in
    omega arith

-- and in a negation
negated_few : (a : Tree) → Fits a → 75 ≤ level a → first_minus a ≡ false → Few a → groups (negated (shown (meant a))) ≤ groups a
negated_few (group f a) h l e k = let w = negated_more (shown (meant a)) in omega arith
negated_few (number f n) h l e k = let w = negated_none (shown (meant (number f n))) l refl in omega arith
negated_few (name x) h l e k = let w = negated_none (shown (meant (name x))) l refl in omega arith
negated_few (ascribed f a x) h l e k = let w = negated_none (shown (meant (ascribed f a x))) l refl in omega arith
negated_few (minus a) h l e k = absurd (false≢true (sym e))
negated_few (inverse a) h l e k = let w = negated_none (shown (meant (inverse a))) l refl in omega arith
negated_few (binary o a b) h l e k = let w = negated_none (shown (meant (binary o a b))) l refl in omega arith
negated_few (apply a b) h l e k =
    let s = applied_shape a b h.0 h.3 in
    let f : level (shown (meant (apply a b))) ≡ 76 = ap level s.3 ∙ applied_level (name (word s.0)) (wrapped 100 (shown s.1)) s.2 in
    let g : is_minus (shown (meant (apply a b))) ≡ false = ap is_minus s.3 ∙ applied_minus (name (word s.0)) (wrapped 100 (shown s.1)) s.2 in
    let w = negated_none (shown (meant (apply a b))) (subst (λ (n : ℕ). 75 ≤ n) (sym f) (omega arith)) g in
    omega arith

abbrev sum : Raws → ℕ
sum none = 0
sum (more a us) = groups (wrapped 100 (shown a)) + sum us

groups_applied : (h : Tree) (us : Raws) → groups (with_arguments h us) ≡ groups h + sum us
groups_applied h none = omega arith
groups_applied h (more a us) = let e = groups_applied (apply h (wrapped 100 (shown a))) us in omega arith

mutual
  few : (a : Tree) → Fits a → IsApart a → Few a
  few (number f n) h p = omega arith
  few (name w) h p = omega arith
  few (group f a) h p = let k = few a h p in let l = inner_few a in omega arith
  few (ascribed f a w) h p = let k = few a h p in let l = inner_few a in omega arith
  few (minus a) h p = negated_few a h.1 h.0 p.0 (few a h.1 p.1)
  few (inverse a) h p = placed 100 a h.1 h.0 (few a h.1 p)
  few (binary o a b) h p =
      let k = placed (left_least o) a h.2 h.0 (few a h.2 p.0) in
      let l = placed (right_least o) b h.3 h.1 (few b h.3 p.1) in
      omega arith
  few (apply a b) h p =
      let q = head_some a h.0 h.3 in
      let us = arguments a (more (meant b) none) in
      let e : groups (shown (meant (apply a b))) ≡ 0 + sum us = ap (λ o. groups (shown (applied_at o us))) q.1 ∙ groups_applied (name (word q.0)) us in
      let k = arguments_few a h.0 h.3 p.0 (more (meant b) none) in
      let l = placed 100 b h.4 h.1 (few b h.4 p.1) in
      omega arith

  arguments_few : (a : Tree) → is_head a ≡ true → Fits a → IsApart a → (us : Raws) → sum (arguments a us) ≤ groups a + sum us
  arguments_few (number f n) e h p us = absurd (false≢true e)
  arguments_few (name w) e h p us = omega arith
  arguments_few (group f a) e h p us = absurd (false≢true e)
  arguments_few (ascribed f a w) e h p us = absurd (false≢true e)
  arguments_few (minus a) e h p us = absurd (false≢true e)
  arguments_few (inverse a) e h p us = absurd (false≢true e)
  arguments_few (binary o a b) e h p us = absurd (false≢true e)
  arguments_few (apply a b) e h p us =
      let k = arguments_few a h.0 h.3 p.0 (more (meant b) us) in
      let l = placed 100 b h.4 h.1 (few b h.4 p.1) in
      omega arith

side_few : (a : Tree) (r : Raw) → Fits a → IsApart a → meant a ≡ r → groups (shown r) ≤ groups a
side_few a r h p e = let k = few a h p in let l = inner_few a in subst (λ x. groups (shown x) ≤ groups a) e (omega arith)

pub has_fewest_groups : (ds : List Declaration) (s : terms.Statement) → HasFewestGroups ds s
has_fewest_groups ds s q f a b e g =
    let k = side_few q.lhs _ f.0 a e in
    let l = side_few q.rhs _ f.1 b g in
    omega arith
