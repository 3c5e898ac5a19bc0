-- The atoms of a tree's syllables are trees whose word is one letter.
use Rattle.std.proofs.Common.{◌≡◌, ℕ, zero, suc, Bool, true, false, cond, List, [], ◌∷◌, ◌++◌, refl, sym, subst, Option, Some, None, ℤ, pos, negsuc, ◌+ℤ◌}
use Rattle.std.specs.Ordering.{int_eq}
use Rattle.alg_terms.specs.declared.symbols.Sym.TheVariants.{Mul, Inv, Div, Npow, Zpow}
use Rattle.alg_terms.specs.Tree.{Tree, Lit, App, Nil, Cons}
use Rattle.alg_terms.specs.Order.{tree_same}
use Rattle.alg_group_words.specs.Word.{Letter, inverse, inverted, repeated, raised}
use Rattle.alg_group_words.specs.Letters.{letter_of, raised_or, letters}
use Rattle.alg_group_words.specs.Syllables.{kept, put_front, syllable_of, runs, syllables}
use Rattle.alg_group_words.proofs.Trees.{syllables_are}

-- a tree whose word is its own letter
abbrev pub IsAtom : (Tree → Option ℤ) → Tree → Type 0
IsAtom value a = letters value a ≡ letter_of a

-- each syllable's atom meets G
abbrev pub AllAtoms : (Tree → Type 0) → List (Tree × ℤ) → Type 0
AllAtoms G [] = Unit {0}
AllAtoms G (s ∷ ss) = G s.0 × AllAtoms G ss

-- each letter's atom meets G
abbrev pub AllLetters : (Tree → Type 0) → List Letter → Type 0
AllLetters G [] = Unit {0}
AllLetters G (l ∷ w) = G l.0 × AllLetters G w

module _ (G : Tree → Type 0) where
  pub append_kept : (u v : List Letter) → AllLetters G u → AllLetters G v → AllLetters G (u ++ v)
  append_kept [] v h i = i
  append_kept (l ∷ u) v h i = (h.0, append_kept u v h.1 i)

  pub inverted_kept : (u : List Letter) → AllLetters G u → AllLetters G (inverted u)
  inverted_kept [] h = tt
  inverted_kept (l ∷ u) h = append_kept (inverted u) (inverse l ∷ []) (inverted_kept u h.1) (h.0, tt)

  repeated_kept : (u : List Letter) (n : ℕ) → AllLetters G u → AllLetters G (repeated u n)
  repeated_kept u zero h = tt
  repeated_kept u (suc n) h = append_kept (repeated u n) u (repeated_kept u n h) h

  pub raised_kept : (u : List Letter) (k : ℤ) → AllLetters G u → AllLetters G (raised u k)
  raised_kept u (pos n) h = repeated_kept u n h
  raised_kept u (negsuc n) h = repeated_kept (inverted u) (suc n) (inverted_kept u h)

  kept_cases : (s : Tree × ℤ) (ss : List (Tree × ℤ)) (b : Bool) → G s.0 → AllAtoms G ss → AllAtoms G (cond b ss (s ∷ ss))
  kept_cases s ss true g h = h
  kept_cases s ss false g h = (g, h)

  front_cases : (s t : Tree × ℤ) (ts : List (Tree × ℤ)) (b : Bool) → G s.0 → AllAtoms G (t ∷ ts) → AllAtoms G (cond b (kept (t.0, s.1 +ℤ t.1) ts) (kept s (t ∷ ts)))
  front_cases s t ts true g h = kept_cases (t.0, s.1 +ℤ t.1) ts (int_eq (s.1 +ℤ t.1) (pos 0)) h.0 h.1
  front_cases s t ts false g h = kept_cases s (t ∷ ts) (int_eq s.1 (pos 0)) g h

  front_kept : (s : Tree × ℤ) (ss : List (Tree × ℤ)) → G s.0 → AllAtoms G ss → AllAtoms G (put_front s ss)
  front_kept s [] g h = kept_cases s [] (int_eq s.1 (pos 0)) g tt
  front_kept s (t ∷ ts) g h = front_cases s t ts (tree_same s.0 t.0) g h

  pub runs_kept : (w : List Letter) → AllLetters G w → AllAtoms G (runs w)
  unfolding runs
  runs_kept [] h = tt
  runs_kept (l ∷ w) h = front_kept (syllable_of l) (runs w) h.0 (runs_kept w h.1)

module _ (value : Tree → Option ℤ) where
  power_kept : (a : Tree) (w : List Letter) (o : Option ℤ) → letters value a ≡ raised_or a w o → AllLetters (IsAtom value) w → AllLetters (IsAtom value) (raised_or a w o)
  power_kept a w (Some k) e h = raised_kept (IsAtom value) w k h
  power_kept a w None e h = (e, tt)

  letters_settled : (t : Tree) → AllLetters (IsAtom value) (letters value t)
  letters_settled (Lit s (suc zero)) = tt
  letters_settled (App Mul s (Cons a (Cons b Nil))) = append_kept (IsAtom value) (letters value a) (letters value b) (letters_settled a) (letters_settled b)
  letters_settled (App Inv s (Cons a Nil)) = inverted_kept (IsAtom value) (letters value a) (letters_settled a)
  letters_settled (App Div s (Cons a (Cons b Nil))) = append_kept (IsAtom value) (letters value a) (inverted (letters value b)) (letters_settled a) (inverted_kept (IsAtom value) (letters value b) (letters_settled b))
  letters_settled (App Npow s (Cons a (Cons k Nil))) = power_kept (App Npow s (Cons a (Cons k Nil))) (letters value a) (value k) refl (letters_settled a)
  letters_settled (App Zpow s (Cons a (Cons k Nil))) = power_kept (App Zpow s (Cons a (Cons k Nil))) (letters value a) (value k) refl (letters_settled a)
  letters_settled t = (refl, tt)

  pub syllables_settled : (t : Tree) → AllAtoms (IsAtom value) (syllables value t)
  syllables_settled t = subst (AllAtoms (IsAtom value)) (sym (syllables_are value t)) (runs_kept (IsAtom value) (letters value t) (letters_settled t))
