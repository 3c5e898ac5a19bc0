-- Patterns that fit are well sorted where trees stand for their letters, and patterns put for letters are filled first.
use Rattle.std.proofs.Common.{◌≡◌, ℕ, zero, suc, Bool, true, false, List, [], ◌∷◌, refl, ap, ap₂, sym, ◌∙◌, subst}
use Rattle.std.specs.Prelude.{◌||◌, if◌then◌else◌, nat_eq, nat_lt, map, get_or}
use Rattle.std.proofs.lemmas.Bool.{and_parts}
use Rattle.alg_terms.specs.declared.sorts.Sort.{Sort}
use Rattle.alg_terms.specs.declared.sorts.Sort.TheVariants.{Nat, Int}
use Rattle.alg_terms.specs.Tree.{Tree, Lit, Cons, of_list, sort_of_tree}
use Rattle.alg_law.specs.declared.marks.Mark.TheVariants.{Good}
use Rattle.alg_law.specs.declared.patterns.PatSort.{PatSort}
use Rattle.alg_law.specs.declared.patterns.PatSort.TheVariants as of
use Rattle.alg_law.specs.declared.rows.Need.{Need}
use Rattle.alg_law.specs.Declarations.{Declaration}
use Rattle.alg_law.specs.Lawful.{IsLawful}
use Rattle.alg_law.specs.Patterns.{Pat, Letter, PLit, PApp, Pats, PNil, PCons, PatStatement, sort_for, letter_sort, index_in, fill, fills, fill_statement}
use Rattle.alg_law.specs.LawRows.{parts}
use Rattle.alg_law.specs.Rows.{meets_all}
use Rattle.alg_law.specs.WellSorted.{class_mark, sort_mark, literal_class, head_mark, sorts_of, mark_of, marks_of, IsWellSorted, AreWellSorted}
use Rattle.alg_law.proofs.WellSortedLaws.{worse-good, worse-parts}
use Rattle.alg_lemma.specs.Kinds.{kind_same, head_fits}
use Rattle.alg_lemma.specs.Fitting.{letter_kind, kind_of, kinds_of, is_letter, fits, all_fit}
use Rattle.alg_lemma.specs.Putting.{kind_at, put, put_all, put_statement}
use Rattle.alg_lemma.specs.Proving.{letters_match}
use Rattle.alg_lemma.proofs.Alike.{same_number, kind_same-equal}
use Rattle.alg_lemma.proofs.Having.{kind_has-sound, kind_known, head-good}

kind_choice : (s : Sort) (t : PatSort) (p q : Bool) → (if p then sort_for s t else (if q then Nat else Int)) ≡ sort_for s (if p then t else (if q then of.Nat else of.Int))
kind_choice s t true q = refl
kind_choice s t false true = refl
kind_choice s t false false = refl

letter_sort-kind : (s : Sort) (t : PatSort) (k : ℕ) → letter_sort (sort_for s t) k ≡ sort_for s (letter_kind t k)
letter_sort-kind s t k = kind_choice s t (nat_lt k 4) (nat_lt k 6)

sort_for-at : (s : Sort) (t u : PatSort) → sort_for s (kind_at t u) ≡ sort_for (sort_for s t) u
sort_for-at s t of.S = refl
sort_for-at s t of.Nat = refl
sort_for-at s t of.Int = refl

get_or-map : (f : Pat → Tree) (ps : List Pat) (i : ℕ) (p : Pat) → f (get_or ps i p) ≡ get_or (map f ps) i (f p)
get_or-map f [] i p = refl
get_or-map f (q ∷ ps) zero p = refl
get_or-map f (q ∷ ps) (suc i) p = get_or-map f ps i p

-- a pattern put together first, or filled in one go
mutual
  pub fill-put : (ks : List ℕ) (s : Sort) (xs : List Tree) (ls : List ℕ) (t : PatSort) (ps : List Pat) (p : Pat) → fill ks s xs (put ls t ps p) ≡ fill ls (sort_for s t) (map (fill ks s xs) ps) p
  fill-put ks s xs ls t ps (Letter k) = get_or-map (fill ks s xs) ps (index_in ls k) (PLit of.Nat 0)
  fill-put ks s xs ls t ps (PLit u n) = ap (λ w. Lit w n) (sort_for-at s t u)
  fill-put ks s xs ls t ps (PApp f u qs) = let e : sort_for s (kind_at t u) ≡ sort_for (sort_for s t) u = sort_for-at s t u in let g = fills-put ks s xs ls t ps qs in cc

  fills-put : (ks : List ℕ) (s : Sort) (xs : List Tree) (ls : List ℕ) (t : PatSort) (ps : List Pat) (qs : Pats) → fills ks s xs (put_all ls t ps qs) ≡ fills ls (sort_for s t) (map (fill ks s xs) ps) qs
  fills-put ks s xs ls t ps PNil = refl
  fills-put ks s xs ls t ps (PCons q qs) = ap₂ Cons (fill-put ks s xs ls t ps q) (fills-put ks s xs ls t ps qs)

pub fill_statement-put : (ks : List ℕ) (s : Sort) (xs : List Tree) (ls : List ℕ) (t : PatSort) (ps : List Pat) (p : PatStatement) → fill_statement ks s xs (put_statement ls t ps p) ≡ fill_statement ls (sort_for s t) (map (fill ks s xs) ps) p
fill_statement-put ks s xs ls t ps p =
    λ i. record { rel = p.rel; sort = sort_for-at s t p.sort i; lhs = fill-put ks s xs ls t ps p.lhs i; rhs = fill-put ks s xs ls t ps p.rhs i }

module _ (ds : List Declaration) (s : Sort) (ns : List Need) (lawful : IsLawful ds) (known : sort_mark ds s ≡ Good) (met : meets_all ds s ns ≡ true) where
  -- the tree of a letter is well sorted, and of the letter's sort
  pub record IsLetterTree (k : ℕ) (x : Tree) : Type 0 where
    pub sort : sort_of_tree x ≡ letter_sort s k
    pub good : IsWellSorted ds x

  letter-pick : (l k n : ℕ) (x : Tree) (xs : List Tree) (b : Bool) → b ≡ nat_eq l k → IsLetterTree l x → (b ≡ false → IsLetterTree k (get_or xs n (Lit Nat 0)))
      → IsLetterTree k (get_or (x ∷ xs) (if b then 0 else suc n) (Lit Nat 0))
  letter-pick l k n x xs true e h g = subst (λ j. IsLetterTree j x) (same_number l k (sym e)) h
  letter-pick l k n x xs false e h g = g refl

  or_false : (b d : Bool) → b ≡ false → (b || d) ≡ true → d ≡ true
  or_false true d e f = cc
  or_false false d e f = f

  letter_tree : (ks : List ℕ) (xs : List Tree) (k : ℕ) → is_letter ks k ≡ true → map sort_of_tree xs ≡ map (letter_sort s) ks → AreWellSorted ds (of_list xs) → IsLetterTree k (get_or xs (index_in ks k) (Lit Nat 0))
  letter_tree [] xs k e sorts good = cc
  letter_tree (l ∷ ls) [] k e sorts good = cc
  letter_tree (l ∷ ls) (x ∷ xs) k e sorts good =
      let g = worse-parts (mark_of ds x) (marks_of ds (of_list xs)) good in
      let here : sort_of_tree x ≡ letter_sort s l = cc in
      let rest : map sort_of_tree xs ≡ map (letter_sort s) ls = cc in
      letter-pick l k (index_in ls k) x xs (nat_eq l k) refl (record { sort = here; good = g.0 })
      (λ f. letter_tree ls xs k (or_false (nat_eq l k) (is_letter ls k) f e) rest g.1)

  module _ (ks : List ℕ) (xs : List Tree) (sorts : map sort_of_tree xs ≡ map (letter_sort s) ks) (trees : AreWellSorted ds (of_list xs)) where
    pub sort_of_filled : (p : Pat) → fits ns ks p ≡ true → sort_of_tree (fill ks s xs p) ≡ sort_for s (kind_of p)
    sort_of_filled (Letter k) e = (letter_tree ks xs k e sorts trees).sort ∙ letter_sort-kind s of.S k
    sort_of_filled (PLit t n) e = refl
    sort_of_filled (PApp f t ps) e = refl

    sorts_of_filled : (ps : Pats) → all_fit ns ks ps ≡ true → sorts_of (fills ks s xs ps) ≡ map (sort_for s) (kinds_of ps)
    sorts_of_filled PNil e = refl
    sorts_of_filled (PCons p ps) e =
        let h = and_parts (fits ns ks p) (all_fit ns ks ps) e in
        ap₂ (λ u us. u ∷ us) (sort_of_filled p h.0) (sorts_of_filled ps h.1)

    mutual
      pub filled-good : (p : Pat) → fits ns ks p ≡ true → IsWellSorted ds (fill ks s xs p)
      filled-good (Letter k) e = (letter_tree ks xs k e sorts trees).good
      filled-good (PLit t n) e =
          worse-good (sort_mark ds (sort_for s t)) _ (kind_known ds s ns lawful known met t) (ap class_mark (kind_has-sound ds s ns lawful known met t (literal_class n) e))
      filled-good (PApp f t ps) e =
          let h = and_parts (head_fits ns f t (kinds_of ps)) (all_fit ns ks ps) e in
          worse-good (head_mark ds f (sort_for s t) (sorts_of (fills ks s xs ps))) (marks_of ds (fills ks s xs ps))
          (ap (head_mark ds f (sort_for s t)) (sorts_of_filled ps h.1) ∙ head-good ds s ns lawful known met f t (kinds_of ps) h.0)
          (all_filled-good ps h.1)

      all_filled-good : (ps : Pats) → all_fit ns ks ps ≡ true → AreWellSorted ds (fills ks s xs ps)
      all_filled-good PNil e = refl
      all_filled-good (PCons p ps) e =
          let h = and_parts (fits ns ks p) (all_fit ns ks ps) e in
          worse-good (mark_of ds (fill ks s xs p)) (marks_of ds (fills ks s xs ps)) (filled-good p h.0) (all_filled-good ps h.1)

    pub list-good : (ps : List Pat) → all_fit ns ks (parts ps) ≡ true → AreWellSorted ds (of_list (map (fill ks s xs) ps))
    list-good [] e = refl
    list-good (p ∷ ps) e =
        let h = and_parts (fits ns ks p) (all_fit ns ks (parts ps)) e in
        worse-good (mark_of ds (fill ks s xs p)) (marks_of ds (of_list (map (fill ks s xs) ps))) (filled-good p h.0) (list-good ps h.1)

    pub list-sorts : (t : PatSort) (ls : List ℕ) (ps : List Pat) → letters_match t ls ps ≡ true → all_fit ns ks (parts ps) ≡ true → map sort_of_tree (map (fill ks s xs) ps) ≡ map (letter_sort (sort_for s t)) ls
    list-sorts t [] [] e f = refl
    list-sorts t [] (p ∷ ps) e f = cc
    list-sorts t (l ∷ ls) [] e f = cc
    list-sorts t (l ∷ ls) (p ∷ ps) e f =
        let h = and_parts (kind_same (kind_of p) (letter_kind t l)) (letters_match t ls ps) e in
        let g = and_parts (fits ns ks p) (all_fit ns ks (parts ps)) f in
        ap₂ (λ u us. u ∷ us)
        (sort_of_filled p g.0 ∙ ap (sort_for s) (kind_same-equal (kind_of p) (letter_kind t l) h.0) ∙ sym (letter_sort-kind s t l))
        (list-sorts t ls ps h.1 g.1)
