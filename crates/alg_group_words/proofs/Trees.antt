-- The syllables of a tree are the runs of its word.
use Rattle.std.proofs.Common.{◌≡◌, zero, suc, List, [], refl, sym, ap, ◌∙◌, Option, Some, None, ℤ}
use Rattle.alg_terms.specs.declared.symbols.Sym.TheVariants.{Mul, Inv, Div, Npow, Zpow}
use Rattle.alg_terms.specs.Tree.{Tree, Lit, App, Nil, Cons}
use Rattle.alg_group_words.specs.Word.{Letter, reduced, inverted}
use Rattle.alg_group_words.specs.Letters.{raised_or, letters, word}
use Rattle.alg_group_words.specs.Syllables.{spelled, AreRuns, runs, runs_or, syllables}
use Rattle.alg_group_words.proofs.Words.{append-same, inverted-same, raised-same}
use Rattle.alg_group_words.proofs.Runs.{above_zero, reduced-spelled, is_runs, same_runs}
use Rattle.alg_group_words.proofs.Products.{joined-AreRuns, joined-word, inverse-AreRuns, inverse-word, raised-AreRuns, raised-word}

power_runs : (a : Tree) (ss : List (Tree × ℤ)) (o : Option ℤ) → AreRuns (runs_or a ss o)
power_runs a ss (Some k) = raised-AreRuns ss k
power_runs a ss None = (tt, above_zero 0, tt)

power_word : (a : Tree) (ss : List (Tree × ℤ)) (w : List Letter) (o : Option ℤ) → reduced (spelled ss) ≡ reduced w → reduced (spelled (runs_or a ss o)) ≡ reduced (raised_or a w o)
power_word a ss w (Some k) h = raised-word ss k ∙ raised-same (spelled ss) w k h
power_word a ss w None h = refl

module _ (value : Tree → Option ℤ) where
  -- neighbours have different atoms, and no exponent is 0
  pub syllables-AreRuns : (t : Tree) → AreRuns (syllables value t)
  syllables-AreRuns (Lit s (suc zero)) = tt
  syllables-AreRuns (App Mul s (Cons a (Cons b Nil))) = joined-AreRuns (syllables value a) (syllables value b) (syllables-AreRuns a)
  syllables-AreRuns (App Inv s (Cons a Nil)) = inverse-AreRuns [] (syllables value a) tt
  syllables-AreRuns (App Div s (Cons a (Cons b Nil))) = inverse-AreRuns (syllables value a) (syllables value b) (syllables-AreRuns a)
  syllables-AreRuns (App Npow s (Cons a (Cons k Nil))) = power_runs (App Npow s (Cons a (Cons k Nil))) (syllables value a) (value k)
  syllables-AreRuns (App Zpow s (Cons a (Cons k Nil))) = power_runs (App Zpow s (Cons a (Cons k Nil))) (syllables value a) (value k)
  syllables-AreRuns t = (tt, above_zero 0, tt)

  pub syllables-word : (t : Tree) → reduced (spelled (syllables value t)) ≡ word value t
  syllables-word (Lit s (suc zero)) = refl
  syllables-word (App Mul s (Cons a (Cons b Nil))) = joined-word (syllables value a) (syllables value b) ∙ append-same (spelled (syllables value a)) (letters value a) (spelled (syllables value b)) (letters value b) (syllables-word a) (syllables-word b)
  syllables-word (App Inv s (Cons a Nil)) = inverse-word [] (syllables value a) ∙ inverted-same (spelled (syllables value a)) (letters value a) (syllables-word a)
  syllables-word (App Div s (Cons a (Cons b Nil))) = inverse-word (syllables value a) (syllables value b) ∙ append-same (spelled (syllables value a)) (letters value a) (inverted (spelled (syllables value b))) (inverted (letters value b)) (syllables-word a) (inverted-same (spelled (syllables value b)) (letters value b) (syllables-word b))
  syllables-word (App Npow s (Cons a (Cons k Nil))) = power_word (App Npow s (Cons a (Cons k Nil))) (syllables value a) (letters value a) (value k) (syllables-word a)
  syllables-word (App Zpow s (Cons a (Cons k Nil))) = power_word (App Zpow s (Cons a (Cons k Nil))) (syllables value a) (letters value a) (value k) (syllables-word a)
  syllables-word t = refl

  -- their letters are the reduced word
  pub spelled-syllables : (t : Tree) → spelled (syllables value t) ≡ word value t
  spelled-syllables t = sym (reduced-spelled (syllables value t) (syllables-AreRuns t)) ∙ syllables-word t

  pub syllables_are : (t : Tree) → syllables value t ≡ runs (letters value t)
  syllables_are t = is_runs (syllables value t) (letters value t) (syllables-AreRuns t) (syllables-word t)

  -- trees have one reduced word exactly where they have one list of syllables
  pub same_syllables : (t u : Tree) → word value t ≡ word value u → syllables value t ≡ syllables value u
  same_syllables t u e = syllables_are t ∙ same_runs (letters value t) (letters value u) e ∙ sym (syllables_are u)

  pub syllables_same : (t u : Tree) → syllables value t ≡ syllables value u → word value t ≡ word value u
  syllables_same t u e = sym (spelled-syllables t) ∙ ap spelled e ∙ spelled-syllables u
