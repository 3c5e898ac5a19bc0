-- Turns: what each task writes, and what it leaves for later.
use Rattle.std.proofs.Common.{◌≡◌, ℕ, suc, ◌+◌, ◌<◌, ◌≤◌, ◌^◌, List, [], ◌∷◌, ◌++◌, Bool, true, false, not, ◌||◌, if◌then◌else◌, drop, Option, Some, None, refl, ap, sym, ◌∙◌, subst, arith, append-nil, append_assoc}
use Rattle.std.specs.Prelude.{⊤, nat_le}
use Rattle.std.specs.Fmt.{decimal}
use Rattle.alg_terms.specs.declared.sorts.Sort.{Sort}
use Rattle.alg_terms.specs.declared.symbols.Sym.{Sym}
use Rattle.alg_terms.specs.Tree.{Tree, Lit, Var, App, Trees, Nil, Cons, to_list}
use Rattle.alg_expr.specs.declared.ids.ExprId.{ExprId}
use Rattle.alg_expr.specs.Ids.{tree_of, IsIn}
use Rattle.alg_law.specs.Declarations.{Declaration}
use Rattle.alg_syntax.specs.Expressions as expressions
use Rattle.alg_syntax.specs.declared.signs.Operator as operators
use Rattle.alg_syntax.specs.declared.signs.Operator.TheVariants.{Add, Sub, Mul, Div, Mod, Smul, Pow}
use Rattle.alg_elaborate.specs.Raw.{Raw, Raws, literal, none, more as further}
use Rattle.alg_show.specs.declared.notation.Notation.{Notation}
use Rattle.alg_show.specs.declared.notation.Notation.TheVariants as notation
use Rattle.alg_show.specs.declared.tasks.Place.{Place}
use Rattle.alg_show.specs.declared.tasks.Place.TheVariants.{Least, Negated}
use Rattle.alg_show.specs.declared.tasks.Task.{Task}
use Rattle.alg_show.specs.declared.tasks.Task.TheVariants.{Close, Inverse, Zero, Operator, Part, Arguments}
use Rattle.alg_show.specs.Names.{name_at, function_name}
use Rattle.alg_show.specs.Notation.{notation_of, operator_text, blanked, left_least, right_least}
use Rattle.alg_show.specs.Unparenthesized.{raw, raws, later_raws, number_raw, composed, first, second, asks_left, asks_right}
use Rattle.alg_show.specs.Shown.{is_minus, wrapped, negated, shown, with_arguments, word}
use Rattle.alg_show.specs.Text.{inverse_text, text}
use Rattle.alg_show.specs.Tasks.{parts_of, IsArgument, is_grouped, placed, argument_raws, arguments_text, task_text, pending, weigh, weigh_all, weigh_list, weight, weights, TaskInside, AllInside, IsNarrow, AreNarrow, TaskNarrow, AllNarrow, Turn, part_task, left_task, right_task, TurnOf, Performs, Wrote}
use Rattle.alg_show.specs.Shows.{IsWritten, IsSymbol}
use Rattle.alg_show.proofs.Visits.{FirstIs, behind, first_is, second_is, weight_first, two_weights}

module _ (ds : List Declaration) (ts : List Tree) where
  pending_append : (us vs : List Task) → pending ds ts (us ++ vs) ≡ pending ds ts vs ++ pending ds ts us
  pending_append [] vs = sym (append-nil (pending ds ts vs))
  pending_append (u ∷ us) vs = ap (λ x. x ++ task_text ds ts u) (pending_append us vs) ∙ append_assoc (pending ds ts vs) (pending ds ts us) (task_text ds ts u)

  weights_append : (us vs : List Task) → weights ts (us ++ vs) ≡ weights ts us + weights ts vs
  weights_append [] vs = omega arith
  weights_append (u ∷ us) vs = let e = weights_append us vs in omega arith

  inside_append : (us vs : List Task) → AllInside ts us → AllInside ts vs → AllInside ts (us ++ vs)
  inside_append [] vs h k = k
  inside_append (u ∷ us) vs h k = (h.0, inside_append us vs h.1 k)

  narrow_parts : (us vs : List Task) → AllNarrow ds ts (us ++ vs) → AllNarrow ds ts us × AllNarrow ds ts vs
  narrow_parts [] vs h = (tt, h)
  narrow_parts (u ∷ us) vs h = let k = narrow_parts us vs h.1 in ((h.0, k.0), k.1)

  -- this was written, and these tasks were added
  pub turn : (old new ks : List Task) (bytes more now t : List ℕ) (n : ℕ) (P : Type 0) → new ≡ old ++ ks → more ≡ bytes ++ now → t ≡ now ++ pending ds ts ks → weights ts ks < n → AllInside ts ks → (AllNarrow ds ts ks → P) → Turn ds ts old new bytes more t n P
  turn old new ks bytes more now t n P p q r l i c =
      record {
        text =
            ap (λ x. x ++ pending ds ts new) q
            ∙ (ap (λ x. (bytes ++ now) ++ pending ds ts x) p
            ∙ (ap (λ x. (bytes ++ now) ++ x) (pending_append old ks)
            ∙ (append_assoc bytes now (pending ds ts ks ++ pending ds ts old)
            ∙ ap (λ x. bytes ++ x) (sym (append_assoc now (pending ds ts ks) (pending ds ts old)) ∙ ap (λ x. x ++ pending ds ts old) (sym r)))));
        less = (let a = ap (weights ts) p in let b = weights_append old ks in omega arith);
        inside = λ h. subst (AllInside ts) (sym p) (inside_append old ks h i);
        narrow = λ h. let k = narrow_parts old ks (subst (AllNarrow ds ts) p h) in (k.0, c k.1);
      }

  -- nothing is left for later
  pub whole : (old : List Task) (bytes more t : List ℕ) (n : ℕ) (P : Type 0) → more ≡ bytes ++ t → 0 < n → P → Turn ds ts old old bytes more t n P
  whole old bytes more t n P q l c = turn old old [] bytes more t t n P (sym (append-nil old)) q (sym (append-nil t)) l tt (λ h. c)

  pub number_turn : (old : List Task) (bytes more : List ℕ) (ask : Bool) (e : ExprId) (s : Sort) (n : ℕ) → tree_of ts e ≡ Lit s n → n < 2 ^ 127 → more ≡ bytes ++ text (shown (number_raw ds ask s n)) → TurnOf ds ts old old bytes more ask e
  number_turn old bytes more ask e s n t l q =
      subst (λ x. Turn ds ts old old bytes more (text (shown (raw ds ask x))) (weigh x + 1) (IsNarrow (raw ds ask x))) (sym t)
      (whole old bytes more (text (shown (number_raw ds ask s n))) 2 (IsNarrow (number_raw ds ask s n)) q (omega arith) (by ask))
    where
      by : (b : Bool) → IsNarrow (number_raw ds b s n)
      by true = l
      by false = l

  pub variable_turn : (old : List Task) (bytes more : List ℕ) (ask : Bool) (e : ExprId) (d : ℕ) (s : Sort) → tree_of ts e ≡ Var d s → more ≡ bytes ++ name_at ds d → TurnOf ds ts old old bytes more ask e
  variable_turn old bytes more ask e d s t q =
      subst (λ x. Turn ds ts old old bytes more (text (shown (raw ds ask x))) (weigh x + 1) (IsNarrow (raw ds ask x))) (sym t)
      (whole old bytes more (name_at ds d) 2 ⊤ q (omega arith) tt)

  -- the task writes this, in parentheses where the place needs them
  record Stands (p : Place) (task : Task) (r : Raw) (w : ℕ) : Type 0 where
    wrote : task_text ds ts task ≡ text (placed p (shown r))
    narrow : TaskNarrow ds ts task → IsNarrow r
    inside : TaskInside ts task
    small : weight ts task ≤ w + 2

  stands_zero : (p : Place) → is_grouped p (shown (literal 0)) ≡ false → Stands p Zero (literal 0) 0
  stands_zero p e =
      record {
        wrote = by (is_grouped p (shown (literal 0))) e;
        narrow = λ h. omega arith;
        inside = tt;
        small = omega arith;
      }
    where
      by : (b : Bool) → b ≡ false → decimal 0 ≡ text (if b then expressions.group false (shown (literal 0)) else shown (literal 0))
      by true h = cc
      by false h = refl

  stands_part : (p : Place) (ask : Bool) (a : ExprId) (x : Tree) → x ≡ tree_of ts a → IsIn ts a → Stands p (Part p ask a) (raw ds ask x) (weigh x)
  stands_part p ask a x e i =
      record {
        wrote = ap (λ y. text (placed p (shown (raw ds ask y)))) (sym e);
        narrow = λ h. subst (λ y. IsNarrow (raw ds ask y)) (sym e) h;
        inside = i;
        small = (let k = ap weigh e in omega arith);
      }

  stands_negation : (ask : Bool) (xs : Trees) (o : Option ExprId) → FirstIs ts xs o → Stands Negated (part_task Negated ask o) (first (raws ds notation.Negation ask xs)) (weight_first xs)
  stands_negation ask Nil None h = stands_zero Negated refl
  stands_negation ask Nil (Some a) h = absurd h
  stands_negation ask (Cons x xs) None h = absurd h
  stands_negation ask (Cons x xs) (Some a) h = stands_part Negated ask a x h.0 h.1

  stands_inverse : (ask : Bool) (xs : Trees) (o : Option ExprId) → FirstIs ts xs o → Stands (Least 100) (part_task (Least 100) ask o) (first (raws ds notation.Inverse ask xs)) (weight_first xs)
  stands_inverse ask Nil None h = stands_zero (Least 100) refl
  stands_inverse ask Nil (Some a) h = absurd h
  stands_inverse ask (Cons x xs) None h = absurd h
  stands_inverse ask (Cons x xs) (Some a) h = stands_part (Least 100) ask a x h.0 h.1

  low_left : (o : operators.Operator) → is_grouped (Least (left_least o)) (shown (literal 0)) ≡ false
  low_left Add = refl
  low_left Sub = refl
  low_left Mul = refl
  low_left Div = refl
  low_left Mod = refl
  low_left Smul = refl
  low_left Pow = refl

  low_right : (o : operators.Operator) → is_grouped (Least (right_least o)) (shown (literal 0)) ≡ false
  low_right Add = refl
  low_right Sub = refl
  low_right Mul = refl
  low_right Div = refl
  low_right Mod = refl
  low_right Smul = refl
  low_right Pow = refl

  stands_left : (o : operators.Operator) (ask : Bool) (xs : Trees) (id : Option ExprId) → FirstIs ts xs id → Stands (Least (left_least o)) (left_task ts o ask id) (first (raws ds (notation.Infix o) ask xs)) (weight_first xs)
  stands_left o ask Nil None h = stands_zero (Least (left_least o)) (low_left o)
  stands_left o ask Nil (Some a) h = absurd h
  stands_left o ask (Cons x xs) None h = absurd h
  stands_left o ask (Cons x xs) (Some a) h =
      subst (λ y. Stands (Least (left_least o)) (Part (Least (left_least o)) (asks_left o ask y) a) (raw ds (asks_left o ask x) x) (weigh x)) h.0
      (stands_part (Least (left_least o)) (asks_left o ask x) a x h.0 h.1)

  stands_right : (o : operators.Operator) (ask : Bool) (xs : Trees) (id : Option ExprId) → FirstIs ts (behind xs) id → Stands (Least (right_least o)) (right_task ts o ask id) (second (raws ds (notation.Infix o) ask xs)) (weight_first (behind xs))
  stands_right o ask Nil None h = stands_zero (Least (right_least o)) (low_right o)
  stands_right o ask Nil (Some a) h = absurd h
  stands_right o ask (Cons x Nil) None h = stands_zero (Least (right_least o)) (low_right o)
  stands_right o ask (Cons x Nil) (Some a) h = absurd h
  stands_right o ask (Cons x (Cons y ys)) None h = absurd h
  stands_right o ask (Cons x (Cons y ys)) (Some a) h =
      subst (λ z. Stands (Least (right_least o)) (Part (Least (right_least o)) (asks_right o ask z) a) (raw ds (asks_right o ask y) y) (weigh y)) h.0
      (stands_part (Least (right_least o)) (asks_right o ask y) a y h.0 h.1)

  least_placed : (m : ℕ) (t : expressions.Tree) → placed (Least m) t ≡ wrapped m t
  least_placed m t = by (nat_le m (expressions.level t))
    where
      by : (b : Bool) → (if not b then expressions.group false t else t) ≡ (if b then t else expressions.group false t)
      by true = refl
      by false = refl

  negated_placed : (t : expressions.Tree) → placed Negated t ≡ negated t
  negated_placed t = by (is_minus t) (nat_le 75 (expressions.level t))
    where
      by : (a b : Bool) → (if a || not b then expressions.group false t else t) ≡ (if a then expressions.group false t else (if b then t else expressions.group false t))
      by true b = refl
      by false true = refl
      by false false = refl

  -- a compound is what its notation composes of its arguments
  abbrev compound_turn : (old new : List Task) (bytes more : List ℕ) (ask : Bool) (n : Notation) (f : List ℕ) (xs : Trees) → Type 0
  compound_turn old new bytes more ask n f xs =
      Turn ds ts old new bytes more (text (shown (composed n f (raws ds n ask xs)))) (6 + weigh_all xs + 1) (IsNarrow (composed n f (raws ds n ask xs)))

  turned : (old new : List Task) (bytes more : List ℕ) (ask : Bool) (e : ExprId) (f : Sym) (s : Sort) (xs : Trees) (n : Notation) → tree_of ts e ≡ App f s xs → n ≡ notation_of f → compound_turn old new bytes more ask n (function_name ds f) xs → TurnOf ds ts old new bytes more ask e
  turned old new bytes more ask e f s xs n t h k =
      subst (λ x. Turn ds ts old new bytes more (text (shown (raw ds ask x))) (weigh x + 1) (IsNarrow (raw ds ask x))) (sym t)
      (subst (λ m. compound_turn old new bytes more ask m (function_name ds f) xs) h k)

  one_weight : (xs : Trees) → weight_first xs < weigh_all xs + 1
  one_weight Nil = omega arith
  one_weight (Cons x xs) = omega arith

  pub negation_turn : (old new : List Task) (bytes more : List ℕ) (ask : Bool) (e : ExprId) (f : Sym) (n : Notation) (o : Option ExprId) → IsSymbol (tree_of ts e) f → n ≡ notation_of f → n ≡ notation.Negation → IsArgument ts e 0 o → more ≡ bytes ++ 45 ∷ [] → new ≡ old ++ part_task Negated ask o ∷ [] → TurnOf ds ts old new bytes more ask e
  negation_turn old new bytes more ask e f n o w h k a p q =
      let xs = w.parts in
      let s = stands_negation ask xs o (first_is ts e f w.sort xs o w.compound a) in
      turned old new bytes more ask e f w.sort xs notation.Negation w.compound (sym k ∙ h)
      (turn old new (part_task Negated ask o ∷ []) bytes more (45 ∷ []) _ _ _ q p
      (ap (λ x. 45 ∷ x) (ap text (sym (negated_placed (shown (first (raws ds notation.Negation ask xs))))) ∙ sym s.wrote))
      (let l = s.small in let m = one_weight xs in omega arith) (s.inside, tt) (λ v. s.narrow v.0))

  pub inverse_turn : (old one new : List Task) (bytes : List ℕ) (ask : Bool) (e : ExprId) (f : Sym) (n : Notation) (o : Option ExprId) → IsSymbol (tree_of ts e) f → n ≡ notation_of f → n ≡ notation.Inverse → IsArgument ts e 0 o → one ≡ old ++ Inverse ∷ [] → new ≡ one ++ part_task (Least 100) ask o ∷ [] → TurnOf ds ts old new bytes bytes ask e
  inverse_turn old one new bytes ask e f n o w h k a p q =
      let xs = w.parts in
      let s = stands_inverse ask xs o (first_is ts e f w.sort xs o w.compound a) in
      turned old new bytes bytes ask e f w.sort xs notation.Inverse w.compound (sym k ∙ h)
      (turn old new (Inverse ∷ part_task (Least 100) ask o ∷ []) bytes bytes [] _ _ _
      (q ∙ (ap (λ x. x ++ part_task (Least 100) ask o ∷ []) p ∙ append_assoc old (Inverse ∷ []) (part_task (Least 100) ask o ∷ [])))
      (sym (append-nil bytes))
      (ap (λ x. x ++ inverse_text) (ap text (sym (least_placed 100 (shown (first (raws ds notation.Inverse ask xs))))) ∙ sym s.wrote))
      (let l = s.small in let m = one_weight xs in omega arith) (tt, (s.inside, tt)) (λ v. s.narrow v.1.0))

  pub operation_turn : (old one two new : List Task) (bytes : List ℕ) (ask : Bool) (e : ExprId) (o : operators.Operator) (a b : Option ExprId) (left right : Task) → IsWritten (tree_of ts e) (notation.Infix o) → IsArgument ts e 0 a → IsArgument ts e 1 b → left ≡ left_task ts o ask a → right ≡ right_task ts o ask b → one ≡ old ++ right ∷ [] → two ≡ one ++ Operator o ∷ [] → new ≡ two ++ left ∷ [] → TurnOf ds ts old new bytes bytes ask e
  operation_turn old one two new bytes ask e o a b left right w h k p q u v x =
      let xs = w.parts in
      let l = subst (λ t. Stands (Least (left_least o)) t (first (raws ds (notation.Infix o) ask xs)) (weight_first xs)) (sym p) (stands_left o ask xs a (first_is ts e w.symbol w.sort xs a w.compound h)) in
      let r = subst (λ t. Stands (Least (right_least o)) t (second (raws ds (notation.Infix o) ask xs)) (weight_first (behind xs))) (sym q) (stands_right o ask xs b (second_is ts e w.symbol w.sort xs b w.compound k)) in
      let lt = shown (first (raws ds (notation.Infix o) ask xs)) in
      let rt = shown (second (raws ds (notation.Infix o) ask xs)) in
      turned old new bytes bytes ask e w.symbol w.sort xs (notation.Infix o) w.compound w.notation
      (turn old new (right ∷ Operator o ∷ left ∷ []) bytes bytes [] _ _ _
      (x ∙ (ap (λ y. y ++ left ∷ []) (v ∙ (ap (λ y. y ++ Operator o ∷ []) u ∙ append_assoc old (right ∷ []) (Operator o ∷ []))) ∙ append_assoc old (right ∷ Operator o ∷ []) (left ∷ [])))
      (sym (append-nil bytes))
      (ap (λ y. text y ++ (32 ∷ (operator_text o ++ (32 ∷ text (wrapped (right_least o) rt))))) (sym (least_placed (left_least o) lt))
      ∙ (ap (λ y. y ++ (32 ∷ (operator_text o ++ (32 ∷ text (wrapped (right_least o) rt))))) (sym l.wrote)
      ∙ (ap (λ y. task_text ds ts left ++ (32 ∷ (operator_text o ++ (32 ∷ text y)))) (sym (least_placed (right_least o) rt))
      ∙ (ap (λ y. task_text ds ts left ++ (32 ∷ (operator_text o ++ (32 ∷ y)))) (sym r.wrote)
      ∙ blanks (task_text ds ts left) (operator_text o) (task_text ds ts right)))))
      (let i = l.small in let j = r.small in let m = two_weights xs in omega arith)
      (r.inside, (tt, (l.inside, tt))) (λ y. (l.narrow y.1.1.0, r.narrow y.0)))
    where
      blanks : (x m y : List ℕ) → x ++ (32 ∷ (m ++ (32 ∷ y))) ≡ (x ++ blanked m) ++ y
      blanks x m y = sym (append_assoc x (blanked m) y ∙ ap (λ z. x ++ (32 ∷ z)) (append_assoc m (32 ∷ []) y))

  arguments_spelled : (h : expressions.Tree) (us : Raws) → text (with_arguments h us) ≡ text h ++ arguments_text us
  arguments_spelled h none = sym (append-nil (text h))
  arguments_spelled h (further a us) =
      arguments_spelled (expressions.apply h (wrapped 100 (shown a))) us ∙ append_assoc (text h) (32 ∷ text (wrapped 100 (shown a))) (arguments_text us)

  shared_later : (xs : Trees) → later_raws ds notation.Shared false xs ≡ argument_raws ds false (to_list xs)
  shared_later Nil = refl
  shared_later (Cons x xs) = ap (further (raw ds false x)) (shared_later xs)

  later_same : (ask : Bool) (xs : Trees) → later_raws ds notation.Shared ask xs ≡ argument_raws ds false (to_list xs)
  later_same ask Nil = refl
  later_same ask (Cons x xs) = ap (further (raw ds false x)) (later_same ask xs)

  shared_raws : (ask : Bool) (xs : Trees) → raws ds notation.Shared ask xs ≡ argument_raws ds ask (to_list xs)
  shared_raws ask Nil = refl
  shared_raws ask (Cons x xs) = ap (further (raw ds ask x)) (later_same ask xs)

  own_later : (ask : Bool) (xs : Trees) → later_raws ds notation.Own ask xs ≡ argument_raws ds false (to_list xs)
  own_later ask Nil = refl
  own_later ask (Cons x xs) = ap (further (raw ds false x)) (own_later ask xs)

  pub own_raws : (ask : Bool) (xs : Trees) → raws ds notation.Own ask xs ≡ argument_raws ds false (to_list xs)
  own_raws ask Nil = refl
  own_raws ask (Cons x xs) = ap (further (raw ds false x)) (own_later ask xs)

  listed_weight : (xs : Trees) → weigh_list (to_list xs) ≡ weigh_all xs
  listed_weight Nil = refl
  listed_weight (Cons x xs) = ap (λ (n : ℕ). 3 + weigh x + n) (listed_weight xs)

  function_turn : (old new : List Task) (bytes more : List ℕ) (b : Bool) (e : ExprId) (f : Sym) (us : Raws) → (w : IsSymbol (tree_of ts e) f) → IsIn ts e → us ≡ argument_raws ds b (to_list w.parts) → more ≡ bytes ++ function_name ds f → new ≡ old ++ Arguments b e 0 ∷ [] → Turn ds ts old new bytes more (text (with_arguments (expressions.name (word (function_name ds f))) us)) (6 + weigh_all w.parts + 1) (AreNarrow us)
  function_turn old new bytes more b e f us w i h p q =
      let k : parts_of (tree_of ts e) ≡ to_list w.parts = ap parts_of w.compound in
      let same : argument_raws ds b (parts_of (tree_of ts e)) ≡ us = ap (argument_raws ds b) k ∙ sym h in
      turn old new (Arguments b e 0 ∷ []) bytes more (function_name ds f) _ _ _ q p
      (arguments_spelled (expressions.name (word (function_name ds f))) us ∙ ap (λ x. function_name ds f ++ arguments_text x) (sym same))
      (let m = listed_weight w.parts in let n = ap weigh_list k in omega arith) (i, tt) (λ v. subst AreNarrow same v.0)

  pub shared_turn : (old new : List Task) (bytes more : List ℕ) (ask : Bool) (e : ExprId) (f : Sym) (n : Notation) → IsSymbol (tree_of ts e) f → IsIn ts e → n ≡ notation_of f → n ≡ notation.Shared → (new ≡ old ++ Arguments ask e 0 ∷ []) × (more ≡ bytes ++ function_name ds f) → TurnOf ds ts old new bytes more ask e
  shared_turn old new bytes more ask e f n w i h k p =
      turned old new bytes more ask e f w.sort w.parts notation.Shared w.compound (sym k ∙ h)
      (function_turn old new bytes more ask e f (raws ds notation.Shared ask w.parts) w i (shared_raws ask w.parts) p.1 p.0)

  pub own_turn : (old new : List Task) (bytes more : List ℕ) (ask : Bool) (e : ExprId) (f : Sym) (n : Notation) → IsSymbol (tree_of ts e) f → IsIn ts e → n ≡ notation_of f → n ≡ notation.Own → (new ≡ old ++ Arguments false e 0 ∷ []) × (more ≡ bytes ++ function_name ds f) → TurnOf ds ts old new bytes more ask e
  own_turn old new bytes more ask e f n w i h k p =
      turned old new bytes more ask e f w.sort w.parts notation.Own w.compound (sym k ∙ h)
      (function_turn old new bytes more false e f (raws ds notation.Own ask w.parts) w i (own_raws ask w.parts) p.1 p.0)

  -- ---- tasks

  pub text_turn : (old : List Task) (bytes more piece : List ℕ) (task t : Task) → task ≡ t → piece ≡ task_text ds ts t → more ≡ bytes ++ piece → 0 < weight ts t → TaskNarrow ds ts t → Performs ds ts old old bytes more task
  text_turn old bytes more piece task t e m q l c =
      subst (λ x. Performs ds ts old old bytes more x) (sym e) (whole old bytes more (task_text ds ts t) (weight ts t) (TaskNarrow ds ts t) (q ∙ ap (λ x. bytes ++ x) m) l c)

  pub grouped_turn : (old one new : List Task) (bytes mid more : List ℕ) (p : Place) (ask : Bool) (e : ExprId) → is_grouped p (shown (raw ds ask (tree_of ts e))) ≡ true → mid ≡ bytes ++ 40 ∷ [] → one ≡ old ++ Close ∷ [] → TurnOf ds ts one new mid more ask e → Performs ds ts old new bytes more (Part p ask e)
  grouped_turn old one new bytes mid more p ask e g q r t =
      let w = shown (raw ds ask (tree_of ts e)) in
      record {
        text =
            t.text ∙ (ap (λ x. x ++ (text w ++ pending ds ts one)) q
            ∙ (ap (λ x. (bytes ++ 40 ∷ []) ++ (text w ++ x)) (ap (pending ds ts) r ∙ pending_append old (Close ∷ []))
            ∙ (append_assoc bytes (40 ∷ []) (text w ++ (41 ∷ pending ds ts old))
            ∙ ap (λ x. bytes ++ (40 ∷ x)) (sym (append_assoc (text w) (41 ∷ []) (pending ds ts old)))
            ∙ ap (λ b. bytes ++ (text (if b then expressions.group false w else w) ++ pending ds ts old)) (sym g))));
        less = (let a = t.less in let b = ap (weights ts) r in let c = weights_append old (Close ∷ []) in omega arith);
        inside = λ h. t.inside (subst (AllInside ts) (sym r) (inside_append old (Close ∷ []) h (tt, tt)));
        narrow = λ h. let k = t.narrow h in ((narrow_parts old (Close ∷ []) (subst (AllNarrow ds ts) r k.0)).0, k.1);
      }

  pub plain_turn : (old new : List Task) (bytes more : List ℕ) (p : Place) (ask : Bool) (e : ExprId) → is_grouped p (shown (raw ds ask (tree_of ts e))) ≡ false → TurnOf ds ts old new bytes more ask e → Performs ds ts old new bytes more (Part p ask e)
  plain_turn old new bytes more p ask e g t =
      let w = shown (raw ds ask (tree_of ts e)) in
      record {
        text = t.text ∙ ap (λ b. bytes ++ (text (if b then expressions.group false w else w) ++ pending ds ts old)) (sym g);
        less = (let a = t.less in omega arith);
        inside = t.inside;
        narrow = t.narrow;
      }

  pub no_argument : (old : List Task) (bytes : List ℕ) (ask : Bool) (e : ExprId) (k : ℕ) (o : Option ExprId) → o ≡ None → IsArgument ts e k o → Performs ds ts old old bytes bytes (Arguments ask e k)
  no_argument old bytes ask e k o n h =
      let none_left : drop k (parts_of (tree_of ts e)) ≡ [] = subst (IsArgument ts e k) n h in
      whole old bytes bytes _ _ _ (sym (append-nil bytes) ∙ ap (λ x. bytes ++ arguments_text (argument_raws ds ask x)) (sym none_left)) (omega arith)
      (subst (λ x. AreNarrow (argument_raws ds ask x)) (sym none_left) tt)

  pub argument_turn : (old one new : List Task) (bytes more : List ℕ) (ask : Bool) (e : ExprId) (k next : ℕ) (o : Option ExprId) (a : ExprId) → o ≡ Some a → IsArgument ts e k o → IsIn ts e → next ≡ k + 1 → more ≡ bytes ++ 32 ∷ [] → one ≡ old ++ Arguments false e next ∷ [] → new ≡ one ++ Part (Least 100) ask a ∷ [] → Performs ds ts old new bytes more (Arguments ask e k)
  argument_turn old one new bytes more ask e k next o a n h i m q p r =
      let here = subst (IsArgument ts e k) n h in
      let rest = drop (suc k) (parts_of (tree_of ts e)) in
      let step : next ≡ suc k = omega (arith, m) in
      let after : drop next (parts_of (tree_of ts e)) ≡ rest = ap (λ (j : ℕ). drop j (parts_of (tree_of ts e))) step in
      let w = shown (raw ds ask (tree_of ts a)) in
      turn old new (Arguments false e next ∷ Part (Least 100) ask a ∷ []) bytes more (32 ∷ []) _ _ _
      (r ∙ (ap (λ x. x ++ Part (Least 100) ask a ∷ []) p ∙ append_assoc old (Arguments false e next ∷ []) (Part (Least 100) ask a ∷ []))) q
      (ap (λ x. arguments_text (argument_raws ds ask x)) here.0
      ∙ (ap (λ x. 32 ∷ (text x ++ arguments_text (argument_raws ds false rest))) (sym (least_placed 100 w))
      ∙ ap (λ x. 32 ∷ (text (placed (Least 100) w) ++ arguments_text (argument_raws ds false x))) (sym after)))
      (let c = ap weigh_list here.0 in let d = ap weigh_list after in omega arith)
      (i, (here.1, tt))
      (λ v. subst (λ x. AreNarrow (argument_raws ds ask x)) (sym here.0) (v.1.0, subst (λ x. AreNarrow (argument_raws ds false x)) after v.0))

  -- ---- the loop

  -- what is written so far, with what is to come, is all; and all is narrow where what is to come is
  pub record Goes (start now : List Task) (bytes more : List ℕ) : Type 0 where
    pub text : more ++ pending ds ts now ≡ bytes ++ pending ds ts start
    pub inside : AllInside ts now
    pub narrow : AllNarrow ds ts now → AllNarrow ds ts start

  pub goes_start : (start : List Task) (bytes : List ℕ) → AllInside ts start → Goes start start bytes bytes
  goes_start start bytes h = record { text = refl; inside = h; narrow = λ k. k }

  popped : (rest : List Task) (t : Task) → AllInside ts (rest ++ t ∷ []) → AllInside ts rest × TaskInside ts t
  popped [] t h = (tt, h.0)
  popped (u ∷ us) t h = let k = popped us t h.1 in ((h.0, k.0), k.1)

  pub goes_popped : (start all rest : List Task) (t : Task) (bytes more : List ℕ) → Goes start all bytes more → all ≡ rest ++ t ∷ [] → AllInside ts rest × TaskInside ts t
  goes_popped start all rest t bytes more g p = popped rest t (subst (AllInside ts) p g.inside)

  narrow_join : (us : List Task) (t : Task) → AllNarrow ds ts us × TaskNarrow ds ts t → AllNarrow ds ts (us ++ t ∷ [])
  narrow_join [] t h = (h.1, tt)
  narrow_join (u ∷ us) t h = (h.0.0, narrow_join us t (h.0.1, h.1))

  pub goes_on : (start all rest new : List Task) (t : Task) (bytes mid more : List ℕ) → Goes start all bytes mid → all ≡ rest ++ t ∷ [] → Performs ds ts rest new mid more t → Goes start new bytes more
  goes_on start all rest new t bytes mid more g p f =
      record {
        text = f.text ∙ (ap (λ x. mid ++ x) (sym (ap (pending ds ts) p ∙ pending_append rest (t ∷ []))) ∙ g.text);
        inside = f.inside (goes_popped start all rest t bytes mid g p).0;
        narrow = λ h. g.narrow (subst (AllNarrow ds ts) (sym p) (narrow_join rest t (f.narrow h)));
      }

  pub goes_less : (all rest new : List Task) (t : Task) (mid more : List ℕ) → all ≡ rest ++ t ∷ [] → Performs ds ts rest new mid more t → weights ts new < weights ts all
  goes_less all rest new t mid more p f = let a = f.less in let b = ap (weights ts) p in let c = weights_append rest (t ∷ []) in omega arith

  pub goes_end : (start all : List Task) (bytes more : List ℕ) → Goes start all bytes more → all ≡ [] → Wrote ds ts start bytes more
  goes_end start all bytes more g e =
      (sym (append-nil more) ∙ (ap (λ x. more ++ pending ds ts x) (sym e) ∙ g.text), g.narrow (subst (AllNarrow ds ts) (sym e) tt))
