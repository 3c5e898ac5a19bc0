-- The word of the normal tree of syllables is spelled by them, and the normal form of a normal form is itself.
use Rattle.std.proofs.Common.{◌≡◌, ℕ, zero, suc, List, [], ◌∷◌, ◌++◌, refl, sym, ap, ap₂, ◌∙◌, append_assoc, append-nil, Option, true, false, ℤ, pos, negsuc}
use Rattle.std.specs.Prelude.{replicate}
use Rattle.std.specs.Ordering.{int_eq}
use Rattle.alg_terms.specs.declared.sorts.Sort.{Sort}
use Rattle.alg_terms.specs.declared.sorts.Sort.TheVariants.{Nat, Int}
use Rattle.alg_terms.specs.declared.symbols.Sym.TheVariants.{Mul, Neg, Npow, Zpow}
use Rattle.alg_terms.specs.Tree.{Tree, Lit}
use Rattle.alg_group_words.specs.Word.{Letter, inverted, repeated, power}
use Rattle.alg_group_words.specs.Letters.{raised_or, letters, word}
use Rattle.alg_group_words.specs.Syllables.{spelled, AreRuns, runs, syllables}
use Rattle.alg_group_words.specs.WordTree.{binary, unary, power_tree, times_syllables, normal_tree, normal_form, HasNumerals}
use Rattle.alg_group_words.proofs.Runs.{runs-spelled}
use Rattle.alg_group_words.proofs.Products.{replicate_end}
use Rattle.alg_group_words.proofs.Trees.{syllables-AreRuns, syllables_are, same_syllables, syllables_same}
use Rattle.alg_group_words.proofs.Settled.{IsAtom, AllAtoms, syllables_settled}

repeated-letter : (l : Letter) (n : ℕ) → repeated (l ∷ []) n ≡ replicate n l
repeated-letter l zero = refl
repeated-letter l (suc n) = ap (λ w. w ++ l ∷ []) (repeated-letter l n) ∙ replicate_end n l

module _ (value : Tree → Option ℤ) (numerals : HasNumerals value) (s : Sort) where
  letters-power_tree : (a : Tree) (z : ℤ) → IsAtom value a → int_eq z (pos 0) ≡ false → letters value (power_tree s a z) ≡ power a z
  letters-power_tree a (pos zero) h e = cc
  letters-power_tree a (pos (suc zero)) h e = h
  letters-power_tree a (pos (suc (suc n))) h e = ap₂ (raised_or (binary Npow s a (Lit Nat (suc (suc n))))) h (numerals.literal (suc (suc n))) ∙ repeated-letter (a, false) (suc (suc n))
  letters-power_tree a (negsuc zero) h e = ap inverted h
  letters-power_tree a (negsuc (suc n)) h e = ap₂ (raised_or (binary Zpow s a (unary Neg Int (Lit Int (suc (suc n)))))) h (numerals.negated (suc (suc n))) ∙ repeated-letter (a, true) (suc (suc n))

  letters-times_syllables : (t : Tree) (ps : List (Tree × ℤ)) → AreRuns ps → AllAtoms (IsAtom value) ps → letters value (times_syllables s t ps) ≡ letters value t ++ spelled ps
  letters-times_syllables t [] r h = sym (append-nil (letters value t))
  letters-times_syllables t (p ∷ ps) r h =
      letters-times_syllables (binary Mul s t (power_tree s p.0 p.1)) ps r.2 h.1
      ∙ ap (λ w. (letters value t ++ w) ++ spelled ps) (letters-power_tree p.0 p.1 h.0 r.1)
      ∙ append_assoc (letters value t) (power p.0 p.1) (spelled ps)

  -- the tree's word, written out, is that of the syllables
  pub letters-normal_tree : (ss : List (Tree × ℤ)) → AreRuns ss → AllAtoms (IsAtom value) ss → letters value (normal_tree s ss) ≡ spelled ss
  letters-normal_tree [] r h = refl
  letters-normal_tree (p ∷ ps) r h = letters-times_syllables (power_tree s p.0 p.1) ps r.2 h.1 ∙ ap (λ w. w ++ spelled ps) (letters-power_tree p.0 p.1 h.0 r.1)

  -- so its syllables are these
  pub syllables-normal_tree : (ss : List (Tree × ℤ)) → AreRuns ss → AllAtoms (IsAtom value) ss → syllables value (normal_tree s ss) ≡ ss
  syllables-normal_tree ss r h = syllables_are value (normal_tree s ss) ∙ ap runs (letters-normal_tree ss r h) ∙ runs-spelled ss r

  pub syllables-normal_form : (t : Tree) → syllables value (normal_form value s t) ≡ syllables value t
  syllables-normal_form t = syllables-normal_tree (syllables value t) (syllables-AreRuns value t) (syllables_settled value t)

  -- a normal form has the word of its tree
  pub word-normal_form : (t : Tree) → word value (normal_form value s t) ≡ word value t
  word-normal_form t = syllables_same value (normal_form value s t) t (syllables-normal_form t)

  -- the normal form of a normal form is itself
  pub normal_form-again : (t : Tree) → normal_form value s (normal_form value s t) ≡ normal_form value s t
  normal_form-again t = ap (normal_tree s) (syllables-normal_form t)

  -- trees have one reduced word exactly where they have one normal form
  pub same_normal_form : (t u : Tree) → word value t ≡ word value u → normal_form value s t ≡ normal_form value s u
  same_normal_form t u e = ap (normal_tree s) (same_syllables value t u e)

  pub normal_form_same : (t u : Tree) → normal_form value s t ≡ normal_form value s u → word value t ≡ word value u
  normal_form_same t u e = sym (word-normal_form t) ∙ ap (word value) e ∙ word-normal_form u

  -- runs of one tree are one list
  pub normal_tree_apart : (ss ts : List (Tree × ℤ)) → AreRuns ss → AreRuns ts → AllAtoms (IsAtom value) ss → AllAtoms (IsAtom value) ts → normal_tree s ss ≡ normal_tree s ts → ss ≡ ts
  normal_tree_apart ss ts r q h i e = sym (syllables-normal_tree ss r h) ∙ ap (syllables value) e ∙ syllables-normal_tree ts q i
