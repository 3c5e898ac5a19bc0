-- The walk downwards over the visited nodes.
use Rattle.std.proofs.Common.{◌≡◌, ℕ, zero, suc, ◌<◌, ◌≤◌, List, [], ◌∷◌, length, get_or, All, refl, sym, ap, ap₂, ◌∙◌, subst, arith, ◌⊎◌, inl, inr, Bool, true, false, Option, Some, None}
use Rattle.std.specs.Prelude.{◌||◌, ◌&&◌, ◌≢◌, replicate, flat_map, nat_lt}
use Rattle.std.proofs.Math.ListN.{set}
use Rattle.std.proofs.lemmas.List.{get_or-set_same, get_or-set_other, length-set, length-map}
use Rattle.std.proofs.lemmas.Bool.Decides.{nat_tests}
use Rattle.std.proofs.lemmas.Bool.{cases_lt}
use Rattle.std.proofs.lemmas.List.Elements.{All-head, All-tail}
use Rattle.alg_terms.specs.declared.sorts.Sort.TheVariants.{Nat}
use Rattle.alg_terms.specs.Tree.{Tree, Lit}
use Rattle.alg_expr.specs.declared.ids.ExprId.{ExprId}
use Rattle.alg_expr.specs.Ids.{tree_of, trees_at, IsIn}
use Rattle.alg_expansions.specs.Setting.{Setting}
use Rattle.alg_expansions.specs.Visited.{is_listed, distinct}
use Rattle.alg_ring_range.specs.Atoms.{visited_atoms, in_part, is_atom, atom_trees, IsBefore, IsPlan, IsWantedPart, Adds, flagged, has_below, HasCome, tree_of_atom}
use Rattle.alg_ring_range.specs.declared.atoms.Atom.{Atom}
use Rattle.alg_ring_range.specs.declared.atoms.Plan.{Plan}
use Rattle.alg_ring_range.specs.Marks.{marked_all}
use Rattle.alg_ring_range.proofs.Marking.{size}
use Rattle.alg_ring_range.proofs.Plans.{or_none}
use Rattle.alg_ring_range.proofs.Once.{is_listed-append, as_many, at_most_distinct}

pub one_of : (P : ExprId → Type 0) (args : List ExprId) (a : ExprId) → args ≡ a ∷ [] → All P args → P a
one_of P args a e h = All-head P a [] (subst (λ es. All P es) e h)

pub first_of : (P : ExprId → Type 0) (args : List ExprId) (a b : ExprId) → args ≡ a ∷ b ∷ [] → All P args → P a
first_of P args a b e h = All-head P a (b ∷ []) (subst (λ es. All P es) e h)

pub second_of : (P : ExprId → Type 0) (args : List ExprId) (a b : ExprId) → args ≡ a ∷ b ∷ [] → All P args → P b
second_of P args a b e h = All-head P b [] (All-tail P a (b ∷ []) (subst (λ es. All P es) e h))

or_again : (x b y : Bool) → (x || y) ≡ (x || ((b && x) || y))
or_again true b y = refl
or_again false true y = refl
or_again false false y = refl

or_swap : (g x y : Bool) → (g || (x || y)) ≡ (x || (g || y))
or_swap true true y = refl
or_swap true false y = refl
or_swap false x y = refl

module _ (k : Setting) (trees : List Tree) (t : Tree) where
  untouched : (flags : List Bool) (a i : ℕ) → i ≤ a → has_below k trees (set flags a true) t i ≡ has_below k trees flags t i
  untouched flags a zero h = refl
  untouched flags a (suc i) h =
      ap₂ (λ b c. (b && is_listed t (visited_atoms k (get_or trees i (Lit Nat 0)))) || c) (get_or-set_other flags a i true false (λ e. omega (arith, h, e))) (untouched flags a i (omega (arith, h)))

  set_below : (flags : List Bool) (a i : ℕ) → a < i → a < length flags → has_below k trees (set flags a true) t i ≡ (is_listed t (visited_atoms k (get_or trees a (Lit Nat 0))) || has_below k trees flags t i)
  set_below flags a zero h l = absurd (omega (arith, h))
  set_below flags a (suc i) h l =
      elim (cases_lt a i) [
        | inl m ↦
            ap₂ (λ b c. (b && is_listed t (visited_atoms k (get_or trees i (Lit Nat 0)))) || c) (get_or-set_other flags a i true false (λ e. omega (arith, m, e))) (set_below flags a i m l)
            ∙ or_swap (get_or flags i false && is_listed t (visited_atoms k (get_or trees i (Lit Nat 0)))) (is_listed t (visited_atoms k (get_or trees a (Lit Nat 0)))) (has_below k trees flags t i)
        | inr m ↦
            let e : a ≡ i = omega (arith, h, m) in
            ap₂ (λ b c. (b && is_listed t (visited_atoms k (get_or trees i (Lit Nat 0)))) || c) (subst (λ j. get_or (set flags j true) i false ≡ true) (sym e) (get_or-set_same flags i true false (omega (arith, e, l)))) (untouched flags a i (omega (arith, e)))
            ∙ or_again (is_listed t (visited_atoms k (get_or trees i (Lit Nat 0)))) (get_or flags i false) (has_below k trees flags t i)
            ∙ ap (λ j. is_listed t (visited_atoms k (get_or trees j (Lit Nat 0))) || ((get_or flags i false && is_listed t (visited_atoms k (get_or trees i (Lit Nat 0)))) || has_below k trees flags t i)) (sym e)
      ]

  flagged_below : (flags : List Bool) (p : Option ExprId) (i : ℕ) → IsBefore i p → i ≤ length flags → has_below k trees (flagged flags p) t i ≡ (in_part k trees t p || has_below k trees flags t i)
  flagged_below flags None i h l = refl
  flagged_below flags (Some a) i h l = set_below flags a.index i h (omega (arith, h, l))

  none_below : (flags : List Bool) (i : ℕ) → ((j : ℕ) → get_or flags j false ≡ false) → has_below k trees flags t i ≡ false
  none_below flags zero h = refl
  none_below flags (suc i) h = ap₂ (λ b c. (b && is_listed t (visited_atoms k (get_or trees i (Lit Nat 0)))) || c) (h i) (none_below flags i h)

  skipped : (flags : List Bool) (i : ℕ) → get_or flags i false ≡ false → has_below k trees flags t (suc i) ≡ has_below k trees flags t i
  skipped flags i h = ap (λ b. (b && is_listed t (visited_atoms k (get_or trees i (Lit Nat 0)))) || has_below k trees flags t i) h

  taken : (flags : List Bool) (i : ℕ) → get_or flags i false ≡ true → has_below k trees flags t (suc i) ≡ (is_listed t (visited_atoms k (get_or trees i (Lit Nat 0))) || has_below k trees flags t i)
  taken flags i h = ap (λ b. (b && is_listed t (visited_atoms k (get_or trees i (Lit Nat 0)))) || has_below k trees flags t i) h

-- what was seen, two parts, one atom, and the rest
rearranged : (h f s a b : Bool) → (h || ((f || (s || a)) || b)) ≡ ((h || a) || (s || (f || b)))
rearranged true f s a b = refl
rearranged false true true true b = refl
rearranged false true true false b = refl
rearranged false true false true b = refl
rearranged false true false false b = refl
rearranged false false true true b = refl
rearranged false false true false b = refl
rearranged false false false true b = refl
rearranged false false false false b = refl

flagged-size : (flags : List Bool) (p : Option ExprId) → length (flagged flags p) ≡ length flags
flagged-size flags None = refl
flagged-size flags (Some a) = length-set flags a.index true

eq_or : (i j : ℕ) → (i ≡ j) ⊎ (i ≢ j)
eq_or i j = elim (cases_lt i j) [ inl l ↦ inr (λ e. omega (arith, l, e)) | inr l ↦ elim (cases_lt j i) [ inl m ↦ inr (λ e. omega (arith, m, e)) | inr m ↦ inl (omega (arith, l, m)) ] ]

flagged-only : (wanted flags : List Bool) (p : Option ExprId) → IsWantedPart wanted p → ((j : ℕ) → get_or flags j false ≡ true → get_or wanted j false ≡ true) → (j : ℕ) → get_or (flagged flags p) j false ≡ true → get_or wanted j false ≡ true
flagged-only wanted flags None w h j e = h j e
flagged-only wanted flags (Some a) w h j e = at (eq_or j a.index)
  where
    at : (j ≡ a.index) ⊎ (j ≢ a.index) → get_or wanted j false ≡ true
    at (inl p) = subst (λ n. get_or wanted n false ≡ true) (sym p) w
    at (inr p) = h j (sym (get_or-set_other flags a.index j true false p) ∙ e)

module _ (k : Setting) (trees : List Tree) (roots : List Tree) (wanted : List Bool) where
  pub come_on : (flags mid new : List Bool) (old seen : List Atom) (i : ℕ) (e : ExprId) (p : Plan) → HasCome k trees roots wanted flags old (suc i) → e.index ≡ i → get_or flags i false ≡ true → IsPlan k trees e p → IsWantedPart wanted p.first × IsWantedPart wanted p.second
      → mid ≡ flagged flags p.first → new ≡ flagged mid p.second → Adds trees old seen p.atom → HasCome k trees roots wanted new seen i
  come_on flags mid new old seen i e p h is flag plan want first second adds =
      let within = h.within in
      let size = h.size in
      let new_is : new ≡ flagged (flagged flags p.first) p.second = second ∙ ap (λ fs. flagged fs p.second) first in
      let mid_size : length (flagged flags p.first) ≡ length trees = flagged-size flags p.first ∙ size in
      rw new_is (record {
        within = omega (arith, within);
        size = flagged-size (flagged flags p.first) p.second ∙ mid_size;
        only = flagged-only wanted (flagged flags p.first) p.second want.1 (flagged-only wanted flags p.first want.0 h.only);
        once = adds.once h.once;
        here = adds.here h.here;
        same = λ t.
            let before : IsBefore i p.first = subst (λ n. IsBefore n p.first) is plan.first in
            let before' : IsBefore i p.second = subst (λ n. IsBefore n p.second) is plan.second in
            let node : is_listed t (visited_atoms k (get_or trees i (Lit Nat 0))) ≡ (in_part k trees t p.first || (in_part k trees t p.second || is_atom trees t p.atom)) = subst (λ n. is_listed t (visited_atoms k (get_or trees n (Lit Nat 0))) ≡ (in_part k trees t p.first || (in_part k trees t p.second || is_atom trees t p.atom))) is (plan.same t) in
            let below : has_below k trees (flagged (flagged flags p.first) p.second) t i ≡ (in_part k trees t p.second || (in_part k trees t p.first || has_below k trees flags t i)) =
            flagged_below k trees t (flagged flags p.first) p.second i before' (omega (arith, within, mid_size))
            ∙ ap (λ b. in_part k trees t p.second || b) (flagged_below k trees t flags p.first i before (omega (arith, within, size))) in
            h.same t
            ∙ ap (λ b. is_listed t (atom_trees trees old) || b) (taken k trees t flags i flag ∙ ap (λ b. b || has_below k trees flags t i) node)
            ∙ rearranged (is_listed t (atom_trees trees old)) (in_part k trees t p.first) (in_part k trees t p.second) (is_atom trees t p.atom) (has_below k trees flags t i)
            ∙ ap₂ (λ b c. b || c) (sym (adds.same t)) (sym below);
      })

  pub come_by : (flags : List Bool) (seen : List Atom) (i : ℕ) → HasCome k trees roots wanted flags seen (suc i) → get_or flags i false ≡ false → HasCome k trees roots wanted flags seen i
  come_by flags seen i h flag =
      let within = h.within in
      record {
        within = omega (arith, within);
        size = h.size;
        only = h.only;
        once = h.once;
        here = h.here;
        same = λ t. h.same t ∙ ap (λ b. is_listed t (atom_trees trees seen) || b) (skipped k trees t flags i flag);
      }

  pub come_home : (flags : List Bool) (seen : List Atom) → HasCome k trees roots wanted flags seen 0 → length (atom_trees trees seen) ≡ length (distinct (flat_map (visited_atoms k) roots))
  come_home flags seen h = as_many (atom_trees trees seen) (flat_map (visited_atoms k) roots) h.once (λ t. h.same t ∙ or_no (is_listed t (atom_trees trees seen)))
    where
      or_no : (b : Bool) → (b || false) ≡ b
      or_no true = refl
      or_no false = refl

-- so many are seen already, or in the end no more are
pub come_early : (k : Setting) (trees : List Tree) (roots : List Tree) (wanted flags : List Bool) (seen : List Atom) (i n : ℕ) → HasCome k trees roots wanted flags seen i → n ≡ length seen → 256 < n → true ≡ nat_lt 256 (length (distinct (flat_map (visited_atoms k) roots)))
come_early k trees roots wanted flags seen i n h e g =
    let p = at_most_distinct (atom_trees trees seen) (flat_map (visited_atoms k) roots) h.once (λ x f. h.same x ∙ in_seen (is_listed x (atom_trees trees seen)) (has_below k trees flags x i) f) in
    let q = length-map seen (tree_of_atom trees) in
    let m : 256 < length (distinct (flat_map (visited_atoms k) roots)) = omega (arith, p, q, e, g) in
    grind (arith, nat_tests)
  where
    in_seen : (a b : Bool) → a ≡ true → (a || b) ≡ true
    in_seen true b f = refl
    in_seen false b f = cc

pub few : (k : Setting) (trees : List Tree) (roots : List Tree) (wanted flags : List Bool) (seen : List Atom) → HasCome k trees roots wanted flags seen 0 → length seen ≤ 256 → false ≡ nat_lt 256 (length (distinct (flat_map (visited_atoms k) roots)))
few k trees roots wanted flags seen h g =
    let p = come_home k trees roots wanted flags seen h in
    let q = length-map seen (tree_of_atom trees) in
    let m : length (distinct (flat_map (visited_atoms k) roots)) ≤ 256 = omega (arith, p, q, g) in
    grind (arith, nat_tests)

-- the roots are flagged first

below_roots : (a b c : Bool) → (b || (a || c)) ≡ ((a || b) || c)
below_roots true true c = refl
below_roots true false c = refl
below_roots false b c = refl

marked_below : (k : Setting) (trees : List Tree) (t : Tree) (roots : List ExprId) (flags : List Bool) (n : ℕ) → All (λ e. e.index < n) roots → n ≤ length flags → has_below k trees (marked_all flags roots) t n ≡ (is_listed t (flat_map (visited_atoms k) (trees_at trees roots)) || has_below k trees flags t n)
marked_below k trees t [] flags n h l = refl
marked_below k trees t (e ∷ roots) flags n h l =
    marked_below k trees t roots (set flags e.index true) n (All-tail (λ e. e.index < n) e roots h) (omega (arith, l, length-set flags e.index true))
    ∙ ap (λ b. is_listed t (flat_map (visited_atoms k) (trees_at trees roots)) || b) (set_below k trees t flags e.index n (All-head (λ e. e.index < n) e roots h) (omega (arith, l, All-head (λ e. e.index < n) e roots h)))
    ∙ below_roots (is_listed t (visited_atoms k (tree_of trees e))) (is_listed t (flat_map (visited_atoms k) (trees_at trees roots))) (has_below k trees flags t n)
    ∙ ap (λ b. b || has_below k trees flags t n) (sym (is_listed-append t (visited_atoms k (tree_of trees e)) (flat_map (visited_atoms k) (trees_at trees roots))))

marked_only : (wanted : List Bool) (roots : List ExprId) (flags : List Bool) → All (λ e. get_or wanted e.index false ≡ true) roots → ((j : ℕ) → get_or flags j false ≡ true → get_or wanted j false ≡ true) → (j : ℕ) → get_or (marked_all flags roots) j false ≡ true → get_or wanted j false ≡ true
marked_only wanted [] flags h g j e = g j e
marked_only wanted (r ∷ roots) flags h g j e = marked_only wanted roots (set flags r.index true) (All-tail (λ e. get_or wanted e.index false ≡ true) r roots h) (flagged-only wanted flags (Some r) (All-head (λ e. get_or wanted e.index false ≡ true) r roots h) g) j e

pub come_first : (k : Setting) (trees : List Tree) (roots : List ExprId) (wanted flags new : List Bool) (seen : List Atom) (n : ℕ) → n ≡ length trees → All (IsIn trees) roots → length flags ≡ length trees → ((j : ℕ) → get_or flags j false ≡ false) → All (λ e. get_or wanted e.index false ≡ true) roots → new ≡ marked_all flags roots → seen ≡ [] → HasCome k trees (trees_at trees roots) wanted new seen n
come_first k trees roots wanted flags new seen n e here same_size none want news nothing = rw (news, nothing) (record {
  within = omega (arith, e);
  size = size roots flags ∙ same_size;
  only = marked_only wanted roots flags want (λ j f. absurd (let g = none j in cc));
  once = tt;
  here = λ j d m. absurd (omega (arith, m));
  same = λ t. sym (marked_below k trees t roots flags n (λ j d m. omega (arith, e, here j d m)) (omega (arith, e, same_size)) ∙ ap (λ b. is_listed t (flat_map (visited_atoms k) (trees_at trees roots)) || b) (none_below k trees t flags n none) ∙ or_none (is_listed t (flat_map (visited_atoms k) (trees_at trees roots))));
})

pub flag_not : (bs : List Bool) (i : ℕ) (x : Bool) → i < length bs → x ≡ get_or bs i x → x ≡ false → get_or bs i false ≡ false
flag_not [] i x l e f = absurd (omega (arith, l))
flag_not (b ∷ bs) zero x l e f = sym e ∙ f
flag_not (b ∷ bs) (suc i) x l e f = flag_not bs i x (omega (arith, l)) e f

pub none_true : (n : ℕ) (bs : List Bool) → bs ≡ replicate n false → (j : ℕ) → get_or bs j false ≡ false
none_true n bs e j = ap (λ fs. get_or fs j false) e ∙ go n j
  where
    go : (n j : ℕ) → get_or (replicate n false) j false ≡ false
    go zero j = refl
    go (suc n) zero = refl
    go (suc n) (suc j) = go n j
