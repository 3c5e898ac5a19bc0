-- What is found of trees as the book grows, and of trees over parts.
use Rattle.std.proofs.Common.{◌≡◌, ℕ, zero, suc, ◌+◌, ◌≤◌, ◌<◌, ◌^◌, arith, Bool, true, false, cond, List, [], ◌∷◌, ◌++◌, length, map, get_or, take, All, append_assoc, append-nil, refl, sym, ap, ◌∙◌, subst, Option, Some, None, ℤ, pos}
use Rattle.std.proofs.Math.Seq.{take-suc}
use Rattle.std.proofs.lemmas.List.Elements.{All-head, All-tail}
use Rattle.alg_terms.specs.declared.sorts.Sort.{Sort}
use Rattle.alg_terms.specs.Tree.{Tree, Lit}
use Rattle.alg_expr.specs.declared.ids.ExprId.{ExprId}
use Rattle.alg_expr.specs.Ids.{tree_of, trees_at, IsIn}
use Rattle.alg_expr.specs.Arena.{Extends}
use Rattle.alg_expr.proofs.ArenaLaws.{IsIn-extends, tree_of-extends}
use Rattle.alg_law.specs.Declarations.{Declaration}
use Rattle.alg_build.specs.Book.{Book, Grows}
use Rattle.alg_group_words.specs.Limits.{atoms, is_there}
use Rattle.alg_group_stack.specs.declared.syllable.Home.{Home}
use Rattle.alg_group_stack.specs.Words.{pairs_of}
use Rattle.alg_group_stack.proofs.WordLemmas.{grows-pairs}
use Rattle.alg_group_spelling.specs.declared.spelled.Spelled.{Spelled}
use Rattle.alg_group_spelling.specs.Spelling.{Spells}
use Rattle.alg_group_spelling.proofs.RaiseLemmas.{grows-spells}
use Rattle.alg_group_found.specs.declared.found.Found.{Found}
use Rattle.alg_group_found.specs.declared.found.Reach.{Reach}
use Rattle.alg_group_found.specs.declared.found.Reach.TheVariants as reach
use Rattle.alg_group_found.specs.declared.found.Within.{Within}
use Rattle.alg_group_found.specs.Atoms.{AreAtoms, apart, once}
use Rattle.alg_group_found.specs.Exponents.{exponent}
use Rattle.alg_group_found.specs.Found.{AreJoined, IsAtom, IsFound, IsReached, IsWithin}
use Rattle.alg_group_found.proofs.AtomLemmas.{apart-append, once-append, once-none, once-one}

-- ---- growth
All-cons : {A : Type 0} (P : A → Type 0) (x : A) (xs : List A) → P x → All P xs → All P (x ∷ xs)
All-cons P x xs p h zero d l = p
All-cons P x xs p h (suc k) d l = h k d (omega (arith, l))

all-here : (ts us : List Tree) (es : List ExprId) → Extends ts us → All (IsIn ts) es → All (IsIn us) es
all-here ts us [] x h = λ k d l. absurd (omega (arith, l))
all-here ts us (e ∷ es) x h = All-cons (IsIn us) e es (IsIn-extends ts us e x (All-head (IsIn ts) e es h)) (all-here ts us es x (All-tail (IsIn ts) e es h))

trees-same : (ts us : List Tree) (es : List ExprId) → Extends ts us → All (IsIn ts) es → trees_at us es ≡ trees_at ts es
trees-same ts us [] x h = refl
trees-same ts us (e ∷ es) x h =
    let p : tree_of us e ≡ tree_of ts e = tree_of-extends ts us e x (All-head (IsIn ts) e es h) in
    let q : trees_at us es ≡ trees_at ts es = trees-same ts us es x (All-tail (IsIn ts) e es h) in
    λ i. p i ∷ q i

module _ (a b : Book) (g : Grows a b) where
  pub grows-atoms : (value : Tree → Option ℤ) (t : Tree) (es : List ExprId) → AreAtoms value a t es → AreAtoms value b t es
  grows-atoms value t es h = record { here = all-here a.trees b.trees es g.trees h.here; trees = trees-same a.trees b.trees es g.trees h.here ∙ h.trees }

  pub grows-within : (ds : List Declaration) (h : Home) (t : Tree) (x : Within) → IsWithin ds a h t x → IsWithin ds b h t x
  grows-within ds h t x k = record {
    letters = k.letters;
    large = k.large;
    count = k.count;
    spells = grows-spells a b g h.sort t x.spelled k.spells;
    pairs = grows-pairs a b g h.sort x.spelled.word.items k.spells.word ∙ k.pairs;
  }

  grows-reached : (ds : List Declaration) (h : Home) (t : Tree) (x : Reach) → IsReached ds a h t x → IsReached ds b h t x
  grows-reached ds h t reach.Out k = k
  grows-reached ds h t (reach.Large w) k = k
  grows-reached ds h t (reach.Within x) k = grows-within ds h t x k

  pub grows-found : (ds : List Declaration) (h : Home) (t : Tree) (x : Found) → IsFound ds a h t x → IsFound ds b h t x
  grows-found ds h t x k = record { atoms = grows-atoms (exponent ds) t x.atoms.items k.atoms; reach = grows-reached ds h t x.reach k.reach }

-- ---- atoms of trees over parts
trees_at-append : (ts : List Tree) (xs ys : List ExprId) → trees_at ts (xs ++ ys) ≡ trees_at ts xs ++ trees_at ts ys
trees_at-append ts [] ys = refl
trees_at-append ts (x ∷ xs) ys = ap (λ (us : List Tree). tree_of ts x ∷ us) (trees_at-append ts xs ys)

cond-trees : (ts : List Tree) (b : Bool) (x : ExprId) → trees_at ts (cond b [] (x ∷ [])) ≡ cond b [] (tree_of ts x ∷ [])
cond-trees ts true x = refl
cond-trees ts false x = refl

cond-here : (ts : List Tree) (b : Bool) (x : ExprId) → IsIn ts x → All (IsIn ts) (cond b [] (x ∷ []))
cond-here ts true x h = λ k d l. absurd (omega (arith, l))
cond-here ts false x h = All-cons (IsIn ts) x [] h (λ k d l. absurd (omega (arith, l)))

all-append : (ts : List Tree) (xs ys : List ExprId) → All (IsIn ts) xs → All (IsIn ts) ys → All (IsIn ts) (xs ++ ys)
all-append ts [] ys h k = k
all-append ts (x ∷ xs) ys h k = All-cons (IsIn ts) x (xs ++ ys) (All-head (IsIn ts) x xs h) (all-append ts xs ys (All-tail (IsIn ts) x xs h) k)

module _ (ts : List Tree) (xs : List ExprId) (i : ℕ) (d : ExprId) (l : i < length xs) (ys : List Tree) where
  next-apart : apart (trees_at ts (take (suc i) xs)) ys ≡ apart (trees_at ts (take i xs)) ys ++ cond (is_there (tree_of ts (get_or xs i d)) ys) [] (tree_of ts (get_or xs i d) ∷ [])
  next-apart =
      ap (λ (zs : List ExprId). apart (trees_at ts zs) ys) (take-suc xs i d l)
      ∙ ap (λ (us : List Tree). apart us ys) (trees_at-append ts (take i xs) (get_or xs i d ∷ []))
      ∙ apart-append (trees_at ts (take i xs)) (tree_of ts (get_or xs i d) ∷ []) ys

  pub added-trees : (all new : List ExprId) → trees_at ts all ≡ ys ++ apart (trees_at ts (take i xs)) ys → new ≡ all ++ cond (is_there (tree_of ts (get_or xs i d)) ys) [] (get_or xs i d ∷ []) → trees_at ts new ≡ ys ++ apart (trees_at ts (take (suc i) xs)) ys
  added-trees all new e f =
      ap (trees_at ts) f
      ∙ trees_at-append ts all (cond (is_there (tree_of ts (get_or xs i d)) ys) [] (get_or xs i d ∷ []))
      ∙ (λ j. e j ++ cond-trees ts (is_there (tree_of ts (get_or xs i d)) ys) (get_or xs i d) j)
      ∙ append_assoc ys (apart (trees_at ts (take i xs)) ys) (cond (is_there (tree_of ts (get_or xs i d)) ys) [] (tree_of ts (get_or xs i d) ∷ []))
      ∙ ap (λ (us : List Tree). ys ++ us) (sym next-apart)

  pub added-here : (all new : List ExprId) → All (IsIn ts) xs → All (IsIn ts) all → new ≡ all ++ cond (is_there (tree_of ts (get_or xs i d)) ys) [] (get_or xs i d ∷ []) → All (IsIn ts) new
  added-here all new h k f = subst (λ (es : List ExprId). All (IsIn ts) es) (sym f) (all-append ts all (cond (is_there (tree_of ts (get_or xs i d)) ys) [] (get_or xs i d ∷ [])) k (cond-here ts (is_there (tree_of ts (get_or xs i d)) ys) (get_or xs i d) (h i d l)))

module _ (ds : List Declaration) (b : Book) where
  pub joined-atoms : (p t u : Tree) → AreJoined ds p t u → (xs ys zs : List ExprId) → AreAtoms (exponent ds) b t xs → AreAtoms (exponent ds) b u ys → All (IsIn b.trees) zs → trees_at b.trees zs ≡ trees_at b.trees ys ++ apart (trees_at b.trees xs) (trees_at b.trees ys) → AreAtoms (exponent ds) b p zs
  joined-atoms p t u j xs ys zs h k here e = record {
    here = here;
    trees = e ∙ (λ i. k.trees i ++ apart (h.trees i) (k.trees i)) ∙ sym (once-append (atoms (exponent ds) t) (atoms (exponent ds) u)) ∙ ap once (sym j.atoms);
  }

  pub same-atoms : (p t : Tree) → atoms (exponent ds) p ≡ atoms (exponent ds) t → (xs zs : List ExprId) → AreAtoms (exponent ds) b t xs → zs ≡ xs → AreAtoms (exponent ds) b p zs
  same-atoms p t e xs zs h f = record {
    here = subst (λ (es : List ExprId). All (IsIn b.trees) es) (sym f) h.here;
    trees = ap (trees_at b.trees) f ∙ h.trees ∙ ap once (sym e);
  }

  pub one-atoms : (s : Sort) (zs : List ExprId) → zs ≡ [] → AreAtoms (exponent ds) b (Lit s 1) zs
  one-atoms s zs f = record {
    here = subst (λ (es : List ExprId). All (IsIn b.trees) es) (sym f) (λ k d l. absurd (omega (arith, l)));
    trees = ap (trees_at b.trees) f ∙ sym once-none;
  }

  pub own-atoms : (e : ExprId) (zs : List ExprId) → atoms (exponent ds) (tree_of b.trees e) ≡ tree_of b.trees e ∷ [] → IsIn b.trees e → zs ≡ e ∷ [] → AreAtoms (exponent ds) b (tree_of b.trees e) zs
  own-atoms e zs q h f = record {
    here = subst (λ (es : List ExprId). All (IsIn b.trees) es) (sym f) (All-cons (IsIn b.trees) e [] h (λ k d l. absurd (omega (arith, l))));
    trees = ap (trees_at b.trees) f ∙ sym (once-one (tree_of b.trees e)) ∙ ap once (sym q);
  }

  pub one-within : (h : Home) (q : Spelled) → Spells b h.sort (Lit h.sort 1) q → pairs_of b q.word.items ≡ [] → IsWithin ds b h (Lit h.sort 1) (record { weight = 0; count = 0; spelled = q })
  one-within h q k e = record { letters = record { fits = refl; weight = refl }; large = refl; count = refl; spells = k; pairs = e }

  pub atom-within : (h : Home) (t : Tree) (q : Spelled) → IsAtom ds t → Spells b h.sort t q → pairs_of b q.word.items ≡ (t, pos 1) ∷ [] → IsWithin ds b h t (record { weight = 1; count = 1; spelled = q })
  atom-within h t q i k e = record {
    letters = record { fits = i.fits; weight = sym i.weight };
    large = rw (i.short, i.count) refl;
    count = sym i.count;
    spells = k;
    pairs = e ∙ sym i.syllables;
  }
