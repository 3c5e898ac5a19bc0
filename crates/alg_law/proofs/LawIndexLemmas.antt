-- Steps by which an index of laws is made.
use Rattle.std.specs.Prelude.{◌≡◌, ℕ, suc, ◌+◌, ◌<◌, Bool, true, false, List, [], ◌∷◌, drop, length, get_or, map, cond, if◌then◌else◌, Option, Some, None, option_map, refl}
use Rattle.std.proofs.Common.{sym, subst, add-one}
use Rattle.std.proofs.Math.Seq.{drop-cons}
use Rattle.std.specs.Borrow.{Bor}
use Rattle.std.specs.Str.{bytes_eq}
use Rattle.std.specs.Cmp.Lexicographic.{same_text}
use Rattle.std.proofs.lemmas.Map.Text.{hash_map_updates_str}
use Rattle.indexmap.specs.IndexMap.{IndexMap, get_by, UpdatesBy}
use Rattle.alg_law.specs.declared.rows.Law.{Law}
use Rattle.alg_law.specs.LawIndexing.{indexed, AreLater, IsOneLater}
use Rattle.alg_law.specs.LawRows.{row_of}
use Rattle.alg_law.specs.Laws.{law_groups, law_table, rows_in, row_named}
use Rattle.alg_law.specs.Rows.{Row}
use Rattle.alg_law.specs.RowNames.{first_some}
use Rattle.alg_law.proofs.RowNameLaws.{row_named-append}
use Rattle.alg_law.proofs.NamedLemmas.{row_named-at}

first_some-none : (o : Option Row) → o ≡ first_some o None
first_some-none None = refl
first_some-none (Some r) = refl

first_some-assoc : (o p q : Option Row) → first_some (first_some o p) q ≡ first_some o (first_some p q)
first_some-assoc None p q = refl
first_some-assoc (Some r) p q = refl

-- a row is there after it is put where there was none, and an earlier one stays
put : (b : Bool) (o p : Option (Bor Law)) (l : Bor Law) → p ≡ cond b (Some l) o → (b ≡ true → o ≡ None)
    → option_map (λ x. row_of x.now) p ≡ first_some (option_map (λ x. row_of x.now) o) (if b then Some (row_of l.now) else None)
put true o p l e h = rw (e, h refl) refl
put false o p l e h = rw e (first_some-none (option_map (λ x. row_of x.now) o))

stays : (b : Bool) (o : Option (Bor Law)) (x : Bor Law) (r : Row) → (b ≡ true → o ≡ Some x)
    → option_map (λ y. row_of y.now) o ≡ first_some (option_map (λ y. row_of y.now) o) (if b then Some r else None)
stays true o x r h = rw (h refl) refl
stays false o x r h = first_some-none (option_map (λ y. row_of y.now) o)

module _ {S : Type 0} where
  pub added : (m n : IndexMap (Bor (List ℕ)) (Bor Law) S) (l : Bor Law) → get_by (λ k. bytes_eq l.now.name.now k.now) m ≡ None
      → UpdatesBy (λ x y. bytes_eq x.now y.now) (λ k. bytes_eq l.now.name.now k.now) m n (Some l) → IsOneLater m n (row_of l.now)
  added m n l none u =
      record {
        found = λ cs.
            put (bytes_eq l.now.name.now cs) (get_by (λ k. bytes_eq cs k.now) m) (get_by (λ k. bytes_eq cs k.now) n) l
            (hash_map_updates_str l.now.name.now m n (Some l) u cs)
            (λ same. subst (λ q. get_by (λ k. bytes_eq q k.now) m ≡ None) (same_text l.now.name.now cs (sym same)) none);
      }

  pub kept : (m : IndexMap (Bor (List ℕ)) (Bor Law) S) (l x : Bor Law) → get_by (λ k. bytes_eq l.now.name.now k.now) m ≡ Some x → IsOneLater m m (row_of l.now)
  kept m l x there =
      record {
        found = λ cs.
            stays (bytes_eq l.now.name.now cs) (get_by (λ k. bytes_eq cs k.now) m) x (row_of l.now)
            (λ same. subst (λ q. get_by (λ k. bytes_eq q k.now) m ≡ Some x) (same_text l.now.name.now cs (sym same)) there);
      }

  -- nothing is there at the start
  pub start : (m : IndexMap (Bor (List ℕ)) (Bor Law) S) (gs : List (List Row)) → m.entries ≡ [] → gs ≡ law_groups
      → (cs : List ℕ) → first_some (indexed m cs) (row_named (rows_in gs) cs) ≡ row_named law_table cs
  unfolding law_table
  start m gs e g cs = rw (e, g) refl

  -- one law of a group more
  pub one_more : (m n : IndexMap (Bor (List ℕ)) (Bor Law) S) (ls : List Law) (i : ℕ) (d : Law) → i < length ls → IsOneLater m n (row_of (get_or ls i d))
      → (cs : List ℕ) → first_some (indexed n cs) (row_named (map row_of (drop (i + 1) ls)) cs) ≡ first_some (indexed m cs) (row_named (map row_of (drop i ls)) cs)
  one_more m n ls i d within h cs =
      let r = row_of (get_or ls i d) in
      let rest = map row_of (drop (i + 1) ls) in
      let e : row_named (map row_of (drop i ls)) cs ≡ first_some (row_named (r ∷ []) cs) (row_named rest cs) =
      rw (drop-cons ls i d, add-one) (row_named-append (r ∷ []) (map row_of (drop (suc i) ls)) cs) in
      rw (h.found cs, e) (first_some-assoc (indexed m cs) (row_named (r ∷ []) cs) (row_named rest cs))

  -- one group more
  pub group_more : {X : Type 0} (f : X → List Row) (x : X) → f x ≡ [] → (m n : IndexMap (Bor (List ℕ)) (Bor Law) S) (gs : List X) (i : ℕ) → AreLater m n (f (get_or gs i x))
      → (cs : List ℕ) → first_some (indexed n cs) (row_named (rows_in (map f (drop (i + 1) gs))) cs) ≡ first_some (indexed m cs) (row_named (rows_in (map f (drop i gs))) cs)
  group_more f x none m n gs i h cs =
      let rest = row_named (rows_in (map f (drop (i + 1) gs))) cs in
      rw (h.found cs, row_named-at f x cs none gs i) (first_some-assoc (indexed m cs) (row_named (f (get_or gs i x)) cs) rest)
