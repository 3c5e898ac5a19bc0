-- From a line for a new goal to one for the old.
use Rattle.std.proofs.Common.{◌≡◌, ℕ, zero, suc, ◌<◌, List, [], ◌∷◌, ◌++◌, length, get_or, take, refl, ap, sym, ◌∙◌, subst, arith, Ok, Err}
use Rattle.std.specs.Prelude.{Result, IfOk}
use Rattle.alg_terms.specs.Tree.{Statement, equal}
use Rattle.alg_expr.specs.declared.memory.Memory.{Memory}
use Rattle.alg_expr.specs.Ids.{tree_of}
use Rattle.alg_expr.proofs.ArenaLaws.{IsIn-extends, tree_of-extends}
use Rattle.alg_law.specs.Derivations.{related}
use Rattle.alg_proof.specs.Steps.{Step}
use Rattle.alg_build.specs.declared.outcome.Back.{Back}
use Rattle.alg_build.specs.declared.outcome.Back.TheVariants as back
use Rattle.alg_build.specs.Backs.{Rewrites, LeadsBack, LeadAllBack}
use Rattle.alg_build.specs.Book.{Book, Grows, LeavesLines, Adds, Concludes, Proves, IsThere, IsEquation, fact, left_at, right_at, stated}
use Rattle.alg_build.proofs.Lines.{line_at-append, adds-concludes, adds-grows, adds-proves, grows-proves, grows-then, proves-equation, proves-left, proves-right}

pub concludes-grows : (a b : Book) (i : ℕ) (s : Statement) → Grows a b → Concludes a i s → Concludes b i s
concludes-grows a b i s g p = record { line = rw g.done.1 (line_at-append a.done g.done.0 i s p.line) }

pub concludes-fact : (b : Book) (i : ℕ) (s : Statement) → Concludes b i s → fact b i ≡ s
unfolding fact
concludes-fact b i s p = ap stated p.line

pub concludes-there : (b : Book) (i : ℕ) (s : Statement) → Concludes b i s → IsThere b i
concludes-there b i s p = rw p.line refl

-- both sides of the goal t are replaced, which gives s
module _ (c : Book) (k n m : ℕ) (s t : Statement) (goal : Concludes c k t) (left : Proves c n t.lhs s.lhs) (right : Proves c m t.rhs s.rhs) where
  pub replaced_there : IsThere c k
  replaced_there = concludes-there c k t goal

  pub replaced_left : IsEquation c n
  replaced_left = proves-equation c n t.lhs s.lhs left

  pub replaced_right : IsEquation c m
  replaced_right = proves-equation c m t.rhs s.rhs right

  pub replaced_left_same : left_at c n ≡ left_at c k
  replaced_left_same = proves-left c n t.lhs s.lhs left ∙ ap (λ (x : Statement). x.lhs) (sym (concludes-fact c k t goal))

  pub replaced_right_same : left_at c m ≡ right_at c k
  replaced_right_same = proves-left c m t.rhs s.rhs right ∙ ap (λ (x : Statement). x.rhs) (sym (concludes-fact c k t goal))

  pub replaced_is : t.rel ≡ s.rel → t.sort ≡ s.sort → related (fact c k).rel (fact c k).sort (right_at c n) (right_at c m) ≡ s
  replaced_is rel sort =
      let f : fact c k ≡ t = concludes-fact c k t goal in
      let p : right_at c n ≡ s.lhs = proves-right c n t.lhs s.lhs left in
      let q : right_at c m ≡ s.rhs = proves-right c m t.rhs s.rhs right in
      (λ o. related (f o).rel (f o).sort (p o) (q o)) ∙ (λ o. record { rel = rel o; sort = sort o; lhs = s.lhs; rhs = s.rhs })

module _ (a : Book) (i j k : ℕ) (s t : Statement) (r : Rewrites a i j s t) (last : Concludes a k t) where
  pub rewrite_first : IsEquation a i
  rewrite_first = proves-equation a i s.lhs t.lhs r.left

  module _ (b : Book) (n : ℕ) (l : Step) (one : Adds a b n l (equal (right_at a i) (left_at a i))) where
    later : Grows a b
    later = adds-grows a b n l _ one

    left_turned : Proves b n t.lhs s.lhs
    left_turned = rw (proves-right a i s.lhs t.lhs r.left, proves-left a i s.lhs t.lhs r.left) at (adds-proves a b n l (right_at a i) (left_at a i) one)

    right_there : Proves b j s.rhs t.rhs
    right_there = grows-proves a b j s.rhs t.rhs later r.right

    pub rewrite_second : IsEquation b j
    rewrite_second = proves-equation b j s.rhs t.rhs right_there

    module _ (c : Book) (m : ℕ) (o : Step) (two : Adds b c m o (equal (right_at b j) (left_at b j))) where
      latest : Grows b c
      latest = adds-grows b c m o _ two

      right_turned : Proves c m t.rhs s.rhs
      right_turned = rw (proves-right b j s.rhs t.rhs right_there, proves-left b j s.rhs t.rhs right_there) at (adds-proves b c m o (right_at b j) (left_at b j) two)

      left_there : Proves c n t.lhs s.lhs
      left_there = grows-proves b c n t.lhs s.lhs latest left_turned

      goal_there : Concludes c k t
      goal_there = concludes-grows b c k t latest (concludes-grows a b k t later last)

      pub rewrite_goal : IsThere c k
      rewrite_goal = replaced_there c k n m s t goal_there left_there right_turned

      pub rewrite_left : IsEquation c n
      rewrite_left = replaced_left c k n m s t goal_there left_there right_turned

      pub rewrite_right : IsEquation c m
      rewrite_right = replaced_right c k n m s t goal_there left_there right_turned

      pub rewrite_left_same : left_at c n ≡ left_at c k
      rewrite_left_same = replaced_left_same c k n m s t goal_there left_there right_turned

      pub rewrite_right_same : left_at c m ≡ right_at c k
      rewrite_right_same = replaced_right_same c k n m s t goal_there left_there right_turned

      rewritten_is : related (fact c k).rel (fact c k).sort (right_at c n) (right_at c m) ≡ s
      rewritten_is = replaced_is c k n m s t goal_there left_there right_turned r.rel r.sort

      rewrite_ends : (d : Book) (x : ℕ) (u : Step) → Adds c d x u (related (fact c k).rel (fact c k).sort (right_at c n) (right_at c m)) → Concludes d x s
      rewrite_ends d x u p = adds-concludes c d x u s (subst (λ (v : Statement). Adds c d x u v) rewritten_is p)

      pub rewrite_grows : Grows a c
      rewrite_grows = grows-then a b c later latest

-- whatever the statements are
pub rewrite_concludes : (a b c d : Book) (i j k n m : ℕ) (l o u : Step) (r : Result ℕ Memory) → Adds a b n l (equal (right_at a i) (left_at a i)) → Adds b c m o (equal (right_at b j) (left_at b j))
    → IfOk r (λ x. Adds c d x u (related (fact c k).rel (fact c k).sort (right_at c n) (right_at c m))) → IfOk r (λ x. (s t : Statement) → Rewrites a i j s t → Concludes a k t → Concludes d x s)
rewrite_concludes a b c d i j k n m l o u (Err e) one two p = tt
rewrite_concludes a b c d i j k n m l o u (Ok x) one two p = λ s t w h. rewrite_ends a i j k s t w h b n l one c m o two d x u p

-- backs stay good as the book grows

pub leads-grows : (a b : Book) (x : Back) (s t : Statement) → Grows a b → LeadsBack a x s t → LeadsBack b x s t
leads-grows a b (back.Rewrite i j) s t g h = record { rel = h.rel; sort = h.sort; left = grows-proves a b i _ _ g h.left; right = grows-proves a b j _ _ g h.right }
leads-grows a b (back.Scale by i j k l) s t g h =
    let e : tree_of a.trees by ≡ tree_of b.trees by = sym (tree_of-extends a.trees b.trees by g.trees h.here) in
    record {
      here = IsIn-extends a.trees b.trees by g.trees h.here;
      old_rel = h.old_rel;
      new_rel = h.new_rel;
      sort = h.sort;
      left = rw (← e) (grows-proves a b i _ _ g h.left);
      right = rw (← e) (grows-proves a b j _ _ g h.right);
      back_left = rw (← e) (grows-proves a b k _ _ g h.back_left);
      back_right = rw (← e) (grows-proves a b l _ _ g h.back_right);
    }

-- the last of the first backs
pub lead-last : (b : Book) (xs : List Back) (i : ℕ) (d : Back) (s t : Statement) → i < length xs → LeadAllBack b (take (suc i) xs) s t → (u : Statement) × LeadAllBack b (take i xs) s u × LeadsBack b (get_or xs i d) u t
lead-last b [] i d s t l h = absurd (omega (arith, l))
lead-last b (x ∷ xs) zero d s t l h =
    let e : h.0 ≡ t = h.2 in
    (s, refl, subst (λ (v : Statement). LeadsBack b x s v) e h.1)
lead-last b (x ∷ xs) (suc i) d s t l h =
    let k = lead-last b xs i d h.0 t (omega (arith, l)) h.2 in
    (k.0, (h.0, h.1, k.1), k.2)

pub leaves-grows : (a b : Book) → LeavesLines a b → Grows a b
leaves-grows a b k = record { theory = k.theory; trees = k.trees; steps = ([], k.steps ∙ none a.steps); done = ([], k.done ∙ none a.done); atoms = k.atoms }
  where
    none : {A : Type 0} (xs : List A) → xs ≡ xs ++ []
    none [] = refl
    none (x ∷ xs) = ap (λ l. x ∷ l) (none xs)
