-- What is answered by what is found of the sides of a goal.
use Rattle.std.proofs.Common.{◌≡◌, Bool, true, false, ◌||◌, refl, ap, ap₂, sym, ◌∙◌, subst}
use Rattle.alg_terms.specs.declared.sorts.Sort.{Sort}
use Rattle.alg_terms.specs.declared.symbols.Sym.{Sym}
use Rattle.alg_terms.specs.Tree.{Tree, Statement, sort_of_tree}
use Rattle.alg_num.specs.Fraction.{Fraction}
use Rattle.alg_expr.specs.declared.ids.Stmt.{Stmt}
use Rattle.alg_expr.specs.Ids.{tree_of, statement_of, IsStatementIn}
use Rattle.alg_expr.proofs.ArenaLaws.{IsIn-extends}
use Rattle.alg_law.specs.WellSorted.{IsStatement}
use Rattle.alg_lemma.specs.Library.{HoldsLibrary}
use Rattle.alg_build.specs.declared.outcome.TacFault.TheVariants.{OutOfRange}
use Rattle.alg_build.specs.Answer.{Fails}
use Rattle.alg_build.specs.Book.{Book, Grows}
use Rattle.alg_build.specs.Rewriting.{Turns}
use Rattle.alg_build.proofs.Lines.{keeps, lines}
use Rattle.alg_ends.specs.CommonEnd.{common_end}
use Rattle.alg_values.specs.Setting.{Classes, Setting, setting}
use Rattle.alg_values.specs.Normal.{normal}
use Rattle.alg_values.specs.Numerals.{numeral_tree}
use Rattle.alg_values.specs.Values.{value, has_past}
use Rattle.alg_values.specs.declared.value.Value.TheVariants.{Num}
use Rattle.alg_evaluation.specs.declared.found.Found.{Found}
use Rattle.alg_evaluation.specs.declared.found.Kind.{Kind}
use Rattle.alg_evaluation.specs.declared.found.Kind.TheVariants as kind
use Rattle.alg_evaluation.specs.Found.{IsFound, worth_of}
use Rattle.alg_evaluation.proofs.FoundFacts.{found_value, found_signed, found_numeral, found_fits}
use Rattle.alg_normnum.specs.Answer.{by_values, norm_num_answer}
use Rattle.alg_normnum.specs.Sides.{AreNumbers, AreSides, IsGoal, IsNumber}
use Rattle.alg_normnum.proofs.Numbers.{statement_grows}

pub is_goal : (b : Book) (g : Stmt) → IsStatementIn b.trees g → IsStatement b.theory.declarations (statement_of b.trees g) → HoldsLibrary b.theory.lemmas → IsGoal b g
is_goal b g h s l = record { here = h; sorted = s; lemmas = l }

pub grows-goal : (a b : Book) (g : Stmt) → Grows a b → IsGoal a g → IsGoal b g
grows-goal a b g w h =
    let same = statement_grows a b g w h.here in
    record {
      here = (IsIn-extends a.trees b.trees g.lhs w.trees h.here.0, IsIn-extends a.trees b.trees g.rhs w.trees h.here.1);
      sorted = rw (w.theory, same) h.sorted;
      lemmas = rw w.theory h.lemmas;
    }

-- the answer, as the book grows
pub answer_grows : (a b : Book) (g : Stmt) (covers : Sym → Bool) → Grows a b → IsGoal a g → norm_num_answer covers b.theory.declarations (statement_of b.trees g) ≡ norm_num_answer covers a.theory.declarations (statement_of a.trees g)
answer_grows a b g covers w h = ap₂ (λ ds s. norm_num_answer covers ds s) (ap (λ t. t.declarations) w.theory) (statement_grows a b g w h.here)

number : (covers : Sym → Bool) (b : Book) (t : Tree) (s : Sort) (f : Found) → IsFound covers b t f → f.kind ≡ kind.Num → sort_of_tree t ≡ s → IsNumber b s t f
number covers b t s f h e n = subst (λ r. IsNumber b r t f) n (record { signed = found_signed covers b t f h e; shown = found_numeral covers b t f h e; fits = found_fits covers b t f h e })

other_end : (has : Classes) (s : Statement) (l r : Tree) (x y : Kind) (p q : Fraction) → (x ≡ kind.Num → y ≡ kind.Num → ⊥) → by_values has s l r (worth_of x p) (worth_of y q) ≡ common_end s l r
other_end has s l r kind.Num kind.Num p q n = absurd (n refl refl)
other_end has s l r kind.Num kind.Past p q n = refl
other_end has s l r kind.Num kind.Without p q n = refl
other_end has s l r kind.Past y p q n = refl
other_end has s l r kind.Without y p q n = refl

module _ (covers : Sym → Bool) (b : Book) (g : Stmt) (x y : Found) (h : AreSides covers b g x y) where
  abbrev whole : Statement
  whole = statement_of b.trees g

  abbrev k : Setting
  k = setting b.theory.declarations covers

  pub are_numbers : x.kind ≡ kind.Num → y.kind ≡ kind.Num → AreNumbers b g x y
  are_numbers e f = record {
    goal = h.goal;
    left = number covers b (tree_of b.trees g.lhs) g.sort x h.left e h.goal.sorted.left_sort;
    right = number covers b (tree_of b.trees g.rhs) g.sort y h.right f h.goal.sorted.right_sort;
  }

  some_past : (has_past k whole.lhs || has_past k whole.rhs) ≡ (x.past || y.past)
  some_past = ap₂ (λ a c. a || c) (sym h.left.past) (sym h.right.past)

  pub past_answer : (x.past || y.past) ≡ true → norm_num_answer covers b.theory.declarations whole ≡ Fails OutOfRange
  unfolding norm_num_answer
  past_answer e = rw (some_past ∙ e) refl

  within : (x.past || y.past) ≡ false → norm_num_answer covers b.theory.declarations whole ≡ by_values k.has whole (normal k whole.lhs) (normal k whole.rhs) (value k whole.lhs) (value k whole.rhs)
  unfolding norm_num_answer
  within e = rw (some_past ∙ e) refl

  pub number_answer : (x.past || y.past) ≡ false → x.kind ≡ kind.Num → y.kind ≡ kind.Num → norm_num_answer covers b.theory.declarations whole ≡ by_values k.has whole (numeral_tree g.sort x.value) (numeral_tree g.sort y.value) (Num x.value) (Num y.value)
  number_answer e f i =
      let numbers = are_numbers f i in
      let l : normal k whole.lhs ≡ numeral_tree g.sort x.value = sym h.left.shown.tree ∙ numbers.left.shown.tree in
      let r : normal k whole.rhs ≡ numeral_tree g.sort y.value = sym h.right.shown.tree ∙ numbers.right.shown.tree in
      let v : value k whole.lhs ≡ Num x.value = found_value covers b whole.lhs x h.left f in
      let u : value k whole.rhs ≡ Num y.value = found_value covers b whole.rhs y h.right i in
      within e ∙ (λ j. by_values k.has whole (l j) (r j) (v j) (u j))

  pub other_answer : (x.past || y.past) ≡ false → (x.kind ≡ kind.Num → y.kind ≡ kind.Num → ⊥) → norm_num_answer covers b.theory.declarations whole ≡ common_end whole (tree_of b.trees x.shown.to) (tree_of b.trees y.shown.to)
  other_answer e n =
      let l : normal k whole.lhs ≡ tree_of b.trees x.shown.to = sym h.left.shown.tree in
      let r : normal k whole.rhs ≡ tree_of b.trees y.shown.to = sym h.right.shown.tree in
      within e ∙ (λ j. by_values k.has whole (l j) (r j) (sym h.left.value j) (sym h.right.value j)) ∙ other_end k.has whole (tree_of b.trees x.shown.to) (tree_of b.trees y.shown.to) x.kind y.kind x.value y.value n

  -- what the sides are rewritten to
  pub left_shown : Turns b g.sort x.shown (tree_of b.trees g.lhs) (tree_of b.trees x.shown.to)
  left_shown = subst (λ s. Turns b s x.shown (tree_of b.trees g.lhs) (tree_of b.trees x.shown.to)) h.goal.sorted.left_sort (rw (← h.left.shown.tree) at h.left.shown)

  pub right_shown : Turns b g.sort y.shown (tree_of b.trees g.rhs) (tree_of b.trees y.shown.to)
  right_shown = subst (λ s. Turns b s y.shown (tree_of b.trees g.rhs) (tree_of b.trees y.shown.to)) h.goal.sorted.right_sort (rw (← h.right.shown.tree) at h.right.shown)

pub ruleset ending = (lines, keeps, is_goal, are_numbers, left_shown, right_shown)
