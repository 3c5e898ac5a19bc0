-- A table to which lemmas are added one after another.
use Rattle.std.proofs.Common.{◌≡◌, ℕ, zero, suc, ◌+◌, ◌<◌, ◌≤◌, arith, append-nil, true, List, [], ◌∷◌, ◌++◌, length, get_or, drop, refl, ap, sym, ◌∙◌, subst, append_assoc, add-one, drop-cons}
use Rattle.std.specs.Prelude.{map}
use Rattle.std.proofs.lemmas.Bool.{and_parts}
use Rattle.alg_law.specs.Rows.{Row}
use Rattle.alg_law.specs.Laws.{rows_in}
use Rattle.alg_proof.specs.declared.lemma_rows.LemmaRow.{LemmaRow}
use Rattle.alg_proof.specs.LemmaRows.{lemma_row_of}
use Rattle.alg_lemma.specs.Proving.{may_join, all_may_join, groups_may_join}

pub record IsLeft (start table : List Row) (lemmas : List LemmaRow) : Type 0 where
  pub whole : table ++ map lemma_row_of lemmas ≡ start
  pub left : all_may_join table lemmas ≡ true

after : (start old new : List Row) (l : LemmaRow) (rest : List LemmaRow) → new ≡ old ++ lemma_row_of l ∷ [] → IsLeft start old (l ∷ rest) → IsLeft start new rest
after start old new l rest e h =
    let k = and_parts (may_join old l) (all_may_join (old ++ lemma_row_of l ∷ []) rest) h.left in
    let P : List Row → Type 0 = λ t. IsLeft start t rest in
    subst P (sym e) (record { whole = append_assoc old (lemma_row_of l ∷ []) (map lemma_row_of rest) ∙ h.whole; left = k.1 })

next_drop : (lemmas : List LemmaRow) (i : ℕ) (l : LemmaRow) → i < length lemmas → drop i lemmas ≡ get_or lemmas i l ∷ drop (i + 1) lemmas
next_drop lemmas i l h = rw (add-one, drop-cons lemmas i l) refl

-- one more is added
pub added : (start old new : List Row) (lemmas : List LemmaRow) (i : ℕ) (l : LemmaRow) → i < length lemmas → new ≡ old ++ lemma_row_of (get_or lemmas i l) ∷ [] → IsLeft start old (drop i lemmas) → IsLeft start new (drop (i + 1) lemmas)
added start old new lemmas i l h e k =
    let P : List LemmaRow → Type 0 = λ ls. IsLeft start old ls in
    after start old new (get_or lemmas i l) (drop (i + 1) lemmas) e (subst P (next_drop lemmas i l h) k)

-- the next one may be added
pub next_may_join : (start old : List Row) (lemmas : List LemmaRow) (i : ℕ) (l : LemmaRow) → i < length lemmas → IsLeft start old (drop i lemmas) → may_join old (get_or lemmas i l) ≡ true
next_may_join start old lemmas i l h k =
    let P : List LemmaRow → Type 0 = λ ls. all_may_join old ls ≡ true in
    (and_parts (may_join old (get_or lemmas i l)) (all_may_join (old ++ lemma_row_of (get_or lemmas i l) ∷ []) (drop (i + 1) lemmas)) (subst P (next_drop lemmas i l h) k.left)).0

-- the same of groups
pub record AreLeft (start table : List Row) (groups : List (List LemmaRow)) : Type 0 where
  pub whole : table ++ rows_in (map (λ g. map lemma_row_of g) groups) ≡ start
  pub left : groups_may_join table groups ≡ true

after_group : (start old new : List Row) (g : List LemmaRow) (rest : List (List LemmaRow)) → new ≡ old ++ map lemma_row_of g → AreLeft start old (g ∷ rest) → AreLeft start new rest
after_group start old new g rest e h =
    let k = and_parts (all_may_join old g) (groups_may_join (old ++ map lemma_row_of g) rest) h.left in
    let P : List Row → Type 0 = λ t. AreLeft start t rest in
    subst P (sym e) (record { whole = append_assoc old (map lemma_row_of g) (rows_in (map (λ x. map lemma_row_of x) rest)) ∙ h.whole; left = k.1 })

next_items : {X : Type 0} (now : X → List LemmaRow) (items : List X) (i : ℕ) (d : X) → i < length items → map now (drop i items) ≡ now (get_or items i d) ∷ map now (drop (i + 1) items)
next_items now items i d h = rw (add-one, drop-cons items i d) refl

pub added_group : {X : Type 0} (now : X → List LemmaRow) (start old new : List Row) (items : List X) (i : ℕ) (d : X) → i < length items → new ≡ old ++ map lemma_row_of (now (get_or items i d))
    → AreLeft start old (map now (drop i items)) → AreLeft start new (map now (drop (i + 1) items))
added_group now start old new items i d h e k =
    let P : List (List LemmaRow) → Type 0 = λ gs. AreLeft start old gs in
    after_group start old new (now (get_or items i d)) (map now (drop (i + 1) items)) e (subst P (next_items now items i d h) k)

pub next_group : {X : Type 0} (now : X → List LemmaRow) (start old : List Row) (items : List X) (i : ℕ) (d : X) → i < length items → AreLeft start old (map now (drop i items)) → all_may_join old (now (get_or items i d)) ≡ true
next_group now start old items i d h k =
    let P : List (List LemmaRow) → Type 0 = λ gs. groups_may_join old gs ≡ true in
    (and_parts (all_may_join old (now (get_or items i d))) (groups_may_join (old ++ map lemma_row_of (now (get_or items i d))) (map now (drop (i + 1) items))) (subst P (next_items now items i d h) k.left)).0

-- before any is added
pub none_added : {X : Type 0} (now : X → List LemmaRow) (items : List X) (groups : List (List Row)) → map (λ x. map lemma_row_of (now x)) items ≡ groups → groups_may_join [] (map now items) ≡ true → AreLeft (rows_in groups) [] (map now items)
none_added now items groups e h = record { whole = ap rows_in (composed now items ∙ e); left = h }
  where
    composed : {X : Type 0} (now : X → List LemmaRow) (items : List X) → map (λ g. map lemma_row_of g) (map now items) ≡ map (λ x. map lemma_row_of (now x)) items
    composed now [] = refl
    composed now (x ∷ xs) = ap (λ gs. map lemma_row_of (now x) ∷ gs) (composed now xs)

past_all : {X : Type 0} (now : X → List LemmaRow) (items : List X) (i : ℕ) → length items ≤ i → map now (drop i items) ≡ []
past_all now items i h = ap (map now) (drop-past items i h)
  where
    drop-past : {X : Type 0} (items : List X) (i : ℕ) → length items ≤ i → drop i items ≡ []
    drop-past [] zero h = refl
    drop-past [] (suc i) h = refl
    drop-past (x ∷ xs) zero h = absurd (omega arith)
    drop-past (x ∷ xs) (suc i) h = drop-past xs i (omega arith)

-- once all are added
pub all_added : {X : Type 0} (now : X → List LemmaRow) (start table : List Row) (items : List X) (i : ℕ) → length items ≤ i → AreLeft start table (map now (drop i items)) → table ≡ start
all_added now start table items i h k =
    let P : List (List LemmaRow) → Type 0 = λ gs. AreLeft start table gs in
    sym (append-nil table) ∙ (subst P (past_all now items i h) k).whole
