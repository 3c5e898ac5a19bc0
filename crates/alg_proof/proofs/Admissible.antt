-- What a valid list of lines concludes is derivable: lemmas and the lines that compute with literals are reduced to the laws.
use Rattle.std.specs.Prelude.{◌≡◌, ℕ, zero, suc, ◌+◌, ◌*◌, ◌-◌, ◌<◌, ◌≤◌, if◌then◌else◌, Bool, true, false, ◌&&◌, not, nat_eq, nat_lt, List, [], ◌∷◌, ◌++◌, length, map, All, Contains, Option, Some, None, Ok, Err, slice_get, refl}
use Rattle.std.proofs.Common.{ap, sym, subst, arith, ◌∙◌}
use Rattle.std.proofs.lemmas.Bool.{and_parts}
use Rattle.std.proofs.lemmas.Bool.Decides.{nat_tests}
use Rattle.std.proofs.lemmas.List.Elements.{All-contains}
use Rattle.alg_terms.specs.declared.sorts.Sort.{Sort}
use Rattle.alg_terms.specs.declared.symbols.Sym.{Sym}
use Rattle.alg_terms.specs.declared.relations.Rel.{Rel}
use Rattle.alg_terms.specs.declared.relations.Rel.TheVariants.{Eq, Ne, Lt, Le, Dvd}
use Rattle.alg_terms.specs.declared.causes.BadCause.TheVariants as cause
use Rattle.alg_terms.specs.Tree.{Tree, Lit, App, of_list, Statement, sort_of_tree, equal, sum_tree, product_tree}
use Rattle.alg_terms.specs.Order.{tree_same, sort_same}
use Rattle.alg_terms.proofs.OrderLaws.{tree_same-equal}
use Rattle.alg_law.specs.declared.classes.Class.TheVariants.{Semiring}
use Rattle.alg_law.specs.declared.marks.Mark.TheVariants.{Good}
use Rattle.alg_law.specs.Declarations.{Declaration, hypotheses}
use Rattle.alg_law.specs.Having.{has_class}
use Rattle.alg_law.specs.WellSorted.{sort_mark, head_mark, mark_of, marks_of, sorts_of, IsWellSorted, AreWellSorted}
use Rattle.alg_law.proofs.WellSortedLaws.{worse-good, worse-parts}
use Rattle.alg_law.specs.Patterns.{fill_statement}
use Rattle.alg_law.specs.Rows.{Row, letters_of, MayFill}
use Rattle.alg_law.specs.Laws.{law_table, row_named}
use Rattle.alg_law.specs.Derivations.{related, Derivable, reflexive, symmetric, transitive, congruent, substitution, row, literal_law, hypothesis, rest as given_rest, distinct, smul_literal, zsmul_literal, zpow_literal, AllDerivable, none, more, equations, count_of}
use Rattle.alg_proof.specs.declared.lines.BridgeKind.{BridgeKind}
use Rattle.alg_proof.specs.declared.lines.BridgeKind.TheVariants.{Smul, Zsmul, Zpow}
use Rattle.alg_proof.specs.declared.lines.ComputeHead.TheVariants as head
use Rattle.alg_proof.specs.Following.{IsAdmissible}
use Rattle.alg_proof.proofs.LiteralSums.{literal_sum, literal_product}
use Rattle.alg_proof.proofs.LiteralOrder.{literal_less, literal_at_most}
use Rattle.alg_proof.specs.Causes.{Concludes, line_at, statements_at, join, or_cause, only_if, only_good, is_eq_rel, is_equation, is_small, statement_same}
use Rattle.alg_proof.specs.Instances.{instance_of, row_line}
use Rattle.alg_proof.proofs.InstanceLaws.{only_if-ok, only_good-ok, or_cause-ok, same-equal, instance_of-is, row_named-contains}
use Rattle.alg_proof.specs.LiteralLines.{sum_of, product_of, relation_class, has_literal, relation_holds, relation_of, bridge_class, bridge_from, bridge_to, bridge_of}
use Rattle.alg_proof.proofs.ComputationLaws.{value_line-law, divides_line-law}
use Rattle.alg_proof.specs.Steps.{Theory, Step, Refl, Symm, Trans, Cong, Subst, Law, Lemma, Hyp, Rest, LitAdd, LitMul, LitRel, Bridge, Compute, symm_of, trans_of, subst_of, all_equations, left_sides, right_sides, value_sort, cong_of, step_mark, conclude_named, conclude}
use Rattle.alg_proof.proofs.Extending.{hypotheses-statements}
use Rattle.alg_proof.proofs.Derived.{derivable-statement}
use Rattle.alg_proof.specs.Valid.{Verdict, Accepted, EndsWrong, ends_in, go_on, verdict_from, IsValid}
use Rattle.alg_proof.specs.Admissible.{IsTheory, Follows, IsFine, AllFine}

is_eq_rel-eq : (r : Rel) → is_eq_rel r ≡ true → r ≡ Eq
is_eq_rel-eq Eq e = refl
is_eq_rel-eq Ne e = cc
is_eq_rel-eq Lt e = cc
is_eq_rel-eq Le e = cc
is_eq_rel-eq Dvd e = cc

module _ (ds : List Declaration) (given : Option Statement) where
  fine_at : (done : List Statement) (k : ℕ) (s : Statement) → AllFine ds given done → slice_get done k ≡ Some s → IsFine ds given s
  fine_at [] k s h e = cc
  fine_at (x ∷ xs) zero s h e = let q : x ≡ s = cc in subst (IsFine ds given) q h.0
  fine_at (x ∷ xs) (suc k) s h e = fine_at xs k s h.1 e

  fine_line : (done : List Statement) (i : ℕ) (s : Statement) → AllFine ds given done → line_at done i ≡ Some s → IsFine ds given s
  fine_line done zero s h e = cc
  fine_line done (suc i) s h e = fine_at done i s h e

  pub AllFine-push : (done : List Statement) (s : Statement) → AllFine ds given done → IsFine ds given s → AllFine ds given (done ++ s ∷ [])
  AllFine-push [] s h f = (f, tt)
  AllFine-push (x ∷ xs) s h f = (h.0, AllFine-push xs s h.1 f)

  join-some : (o : Option Statement) (p : Option (List Statement)) (ss : List Statement) → join o p ≡ Some ss → (s : Statement) × (rest : List Statement) × (o ≡ Some s) × (p ≡ Some rest) × (s ∷ rest ≡ ss)
  join-some None p ss e = cc
  join-some (Some s) None ss e = cc
  join-some (Some s) (Some rest) ss e = (s, rest, refl, refl, cc)

  pub fine_lines : (done : List Statement) (is : List ℕ) (ss : List Statement) → AllFine ds given done → statements_at done is ≡ Some ss → AllFine ds given ss
  fine_lines done [] ss h e = let q : [] ≡ ss = cc in subst (AllFine ds given) q tt
  fine_lines done (i ∷ is) ss h e =
      let j = join-some (line_at done i) (statements_at done is) ss e in
      subst (AllFine ds given) j.4 (fine_line done i j.0 h j.2, fine_lines done is j.1 h j.3)

  -- an equation that is fine is that of its sides
  as_equal : (s : Statement) → IsFine ds given s → is_equation s ≡ true → s ≡ equal s.lhs s.rhs
  as_equal s f e = λ i. record { rel = is_eq_rel-eq s.rel e i; sort = sym f.statement.left_sort i; lhs = s.lhs; rhs = s.rhs }

  derivation_of : (s : Statement) → IsFine ds given s → is_equation s ≡ true → Derivable ds given (equal s.lhs s.rhs)
  derivation_of s f e = subst (Derivable ds given) (as_equal s f e) f.derivable

  sides_count : (ss : List Statement) → count_of (left_sides ss) ≡ count_of (right_sides ss)
  sides_count [] = refl
  sides_count (s ∷ ss) = ap suc (sides_count ss)

  sides_derivable : (ss : List Statement) → AllFine ds given ss → all_equations ss ≡ true → AllDerivable ds given (equations (left_sides ss) (right_sides ss))
  sides_derivable [] h e = none
  sides_derivable (s ∷ ss) h e =
      let k = and_parts (is_equation s) (all_equations ss) e in
      more _ _ (derivation_of s h.0 k.0) (sides_derivable ss h.1 k.1)

  lefts_good : (ss : List Statement) → AllFine ds given ss → AreWellSorted ds (left_sides ss)
  lefts_good [] h = refl
  lefts_good (s ∷ ss) h = worse-good (mark_of ds s.lhs) _ h.0.statement.left (lefts_good ss h.1)

  rights_good : (ss : List Statement) → AllFine ds given ss → AreWellSorted ds (right_sides ss)
  rights_good [] h = refl
  rights_good (s ∷ ss) h = worse-good (mark_of ds s.rhs) _ h.0.statement.right (rights_good ss h.1)

  pub sides_sorts : (ss : List Statement) → AllFine ds given ss → sorts_of (right_sides ss) ≡ sorts_of (left_sides ss)
  sides_sorts [] h = refl
  sides_sorts (s ∷ ss) h =
      let p : sort_of_tree s.rhs ≡ sort_of_tree s.lhs = h.0.statement.right_sort ∙ sym h.0.statement.left_sort in
      let q : sorts_of (right_sides ss) ≡ sorts_of (left_sides ss) = sides_sorts ss h.1 in
      cc

module _ (th : Theory) (sound : IsTheory th) where
  abbrev ds : List Declaration
  ds = th.declarations

  abbrev given : Option Statement
  given = th.given

  -- what is derivable is fine
  fine : (s : Statement) → Derivable ds given s → IsFine ds given s
  fine s d = record { derivable = d; statement = derivable-statement ds sound.lawful given (hypotheses-statements ds sound.well_formed) sound.given s d }

  symm_of-fine : (x s : Statement) → IsFine ds given x → symm_of x ≡ Ok s → IsFine ds given s
  symm_of-fine x s f e =
      let h = only_if-ok (is_equation x) cause.Shape (Ok (equal x.rhs x.lhs)) s e in
      let q : equal x.rhs x.lhs ≡ s = cc in
      let sorts : sort_of_tree x.rhs ≡ sort_of_tree x.lhs = f.statement.right_sort ∙ sym f.statement.left_sort in
      subst (IsFine ds given) q (fine _ (symmetric x.lhs x.rhs sorts (derivation_of ds given x f h.0)))

  trans_of-fine : (x y s : Statement) → IsFine ds given x → IsFine ds given y → trans_of x y ≡ Ok s → IsFine ds given s
  trans_of-fine x y s f g e =
      let o = only_if-ok (sort_same x.sort y.sort) cause.Sort (only_if (is_equation x && is_equation y && tree_same x.rhs y.lhs) cause.Shape (Ok (equal x.lhs y.rhs))) s e in
      let h = only_if-ok (is_equation x && is_equation y && tree_same x.rhs y.lhs) cause.Shape (Ok (equal x.lhs y.rhs)) s o.1 in
      let k = and_parts (is_equation x && is_equation y) (tree_same x.rhs y.lhs) h.0 in
      let l = and_parts (is_equation x) (is_equation y) k.0 in
      let same : x.rhs ≡ y.lhs = tree_same-equal x.rhs y.lhs k.1 in
      let q : equal x.lhs y.rhs ≡ s = cc in
      subst (IsFine ds given) q (fine _ (transitive x.lhs x.rhs y.rhs (derivation_of ds given x f l.0) (rw same (derivation_of ds given y g l.1))))

  subst_of-fine : (a b c s : Statement) → IsFine ds given a → IsFine ds given b → IsFine ds given c → subst_of a b c ≡ Ok s → IsFine ds given s
  subst_of-fine a b c s f g h e =
      let o = only_if-ok (sort_same a.sort b.sort && sort_same a.sort c.sort) cause.Sort (only_if (is_equation b && is_equation c && tree_same a.lhs b.lhs && tree_same a.rhs c.lhs) cause.Shape (Ok (related a.rel a.sort b.rhs c.rhs))) s e in
      let p = only_if-ok (is_equation b && is_equation c && tree_same a.lhs b.lhs && tree_same a.rhs c.lhs) cause.Shape (Ok (related a.rel a.sort b.rhs c.rhs)) s o.1 in
      let k = and_parts (is_equation b && is_equation c && tree_same a.lhs b.lhs) (tree_same a.rhs c.lhs) p.0 in
      let l = and_parts (is_equation b && is_equation c) (tree_same a.lhs b.lhs) k.0 in
      let m = and_parts (is_equation b) (is_equation c) l.0 in
      let left : a.lhs ≡ b.lhs = tree_same-equal a.lhs b.lhs l.1 in
      let right : a.rhs ≡ c.lhs = tree_same-equal a.rhs c.lhs k.1 in
      let q : related a.rel a.sort b.rhs c.rhs ≡ s = cc in
      subst (IsFine ds given) q
      (fine _ (substitution a.rel a.sort a.lhs a.rhs b.rhs c.rhs f.derivable (rw left (derivation_of ds given b g m.0)) (rw right (derivation_of ds given c h m.1))))

  cong_of-fine : (f : Sym) (ss : List Statement) (s : Statement) → AllFine ds given ss → cong_of ds f ss ≡ Ok s → IsFine ds given s
  cong_of-fine f ss s h e =
      let k = or_cause-ok (value_sort ds f (sorts_of (left_sides ss))) cause.Sort (λ (t : Sort). only_good (head_mark ds f t (sorts_of (left_sides ss))) (only_if (all_equations ss) cause.Shape (Ok (equal (App f t (left_sides ss)) (App f t (right_sides ss)))))) s e in
      let m = only_good-ok (head_mark ds f k.0 (sorts_of (left_sides ss))) (only_if (all_equations ss) cause.Shape (Ok (equal (App f k.0 (left_sides ss)) (App f k.0 (right_sides ss))))) s k.2 in
      let l = only_if-ok (all_equations ss) cause.Shape (Ok (equal (App f k.0 (left_sides ss)) (App f k.0 (right_sides ss)))) s m.1 in
      let q : equal (App f k.0 (left_sides ss)) (App f k.0 (right_sides ss)) ≡ s = cc in
      let left : IsWellSorted ds (App f k.0 (left_sides ss)) = worse-good (head_mark ds f k.0 (sorts_of (left_sides ss))) _ m.0 (lefts_good ds given ss h) in
      let right : IsWellSorted ds (App f k.0 (right_sides ss)) =
      worse-good (head_mark ds f k.0 (sorts_of (right_sides ss))) _ (ap (head_mark ds f k.0) (sides_sorts ds given ss h) ∙ m.0) (rights_good ds given ss h) in
      subst (IsFine ds given) q (fine _ (congruent f k.0 (left_sides ss) (right_sides ss) left right (sides_count ds given ss) (sides_derivable ds given ss h l.0)))

  all_derivable : (ss : List Statement) → AllFine ds given ss → AllDerivable ds given ss
  all_derivable [] h = none
  all_derivable (s ∷ ss) h = more s ss h.0.derivable (all_derivable ss h.1)

  row_line-fine : (rows : List Row) (done : List Statement) (n : List ℕ) (t : Sort) (xs : List Tree) (is : List ℕ) (s : Statement)
      → ((r : Row) → Contains rows r → (u : Sort) (with : List Tree) → MayFill ds r u with → AllDerivable ds given (map (fill_statement (letters_of r) u with) r.premises) → Derivable ds given (fill_statement (letters_of r) u with r.conclusion))
      → AllFine ds given done → sort_mark ds t ≡ Good → AreWellSorted ds (of_list xs) → row_line ds rows done n t xs is ≡ Ok s → IsFine ds given s
  row_line-fine rows done n t xs is s follow h known good e =
      let k = or_cause-ok (statements_at done is) cause.Reference (λ (ls : List Statement). or_cause (row_named rows n) cause.Name (λ (r : Row). instance_of ds r t xs ls)) s e in
      let l = or_cause-ok (row_named rows n) cause.Name (λ (r : Row). instance_of ds r t xs k.0) s k.2 in
      let m = instance_of-is ds l.0 t xs k.0 s known good l.2 in
      let premises : AllDerivable ds given (map (fill_statement (letters_of l.0) t xs) l.0.premises) = subst (AllDerivable ds given) m.premises (all_derivable k.0 (fine_lines ds given done is k.0 h k.1)) in
      subst (IsFine ds given) m.conclusion (fine _ (follow l.0 (row_named-contains rows n l.0 l.1) t xs m.fills premises))

  sum_of-fine : (t : Sort) (m n : ℕ) (s : Statement) → sort_mark ds t ≡ Good → sum_of ds t m n ≡ Ok s → IsFine ds given s
  sum_of-fine t m n s known e =
      let o = only_if-ok (has_class ds t Semiring) cause.NoInstance (only_if (is_small m && is_small n && is_small (m + n)) cause.Literal (Ok (equal (sum_tree t (Lit t m) (Lit t n)) (Lit t (m + n))))) s e in
      let k = only_if-ok (is_small m && is_small n && is_small (m + n)) cause.Literal (Ok (equal (sum_tree t (Lit t m) (Lit t n)) (Lit t (m + n)))) s o.1 in
      let q : equal (sum_tree t (Lit t m) (Lit t n)) (Lit t (m + n)) ≡ s = cc in
      subst (IsFine ds given) q (fine _ (literal_sum ds given t known o.0 m n))

  product_of-fine : (t : Sort) (m n : ℕ) (s : Statement) → sort_mark ds t ≡ Good → product_of ds t m n ≡ Ok s → IsFine ds given s
  product_of-fine t m n s known e =
      let o = only_if-ok (has_class ds t Semiring) cause.NoInstance (only_if (is_small m && is_small n && is_small (m * n)) cause.Literal (Ok (equal (product_tree t (Lit t m) (Lit t n)) (Lit t (m * n))))) s e in
      let k = only_if-ok (is_small m && is_small n && is_small (m * n)) cause.Literal (Ok (equal (product_tree t (Lit t m) (Lit t n)) (Lit t (m * n)))) s o.1 in
      let q : equal (product_tree t (Lit t m) (Lit t n)) (Lit t (m * n)) ≡ s = cc in
      subst (IsFine ds given) q (fine _ (literal_product ds given t known o.0 m n))

  differ : (m n : ℕ) → not (nat_eq m n) ≡ true → m ≡ n → ⊥
  differ m n e f = grind (arith, nat_tests)

  below : (m n : ℕ) → nat_lt m n ≡ true → m < n
  below m n e = grind (arith, nat_tests)

  up_to : (m n : ℕ) → not (nat_lt n m) ≡ true → m ≤ n
  up_to m n e = grind (arith, nat_tests)

  relation-derivable : (r : Rel) (t : Sort) (m n : ℕ) → sort_mark ds t ≡ Good → relation_class ds r t ≡ true → relation_holds r m n ≡ true → Derivable ds given (related r t (Lit t m) (Lit t n))
  relation-derivable Eq t m n known c e = cc
  relation-derivable Ne t m n known c e = literal_law _ (distinct t m n known c (differ m n e))
  relation-derivable Lt t m n known c e = literal_less ds given sound.lawful t known c m n (below m n e)
  relation-derivable Le t m n known c e = literal_at_most ds given sound.lawful t known c m n (up_to m n e)
  relation-derivable Dvd t m n known c e = cc

  relation_of-fine : (r : Rel) (t : Sort) (m n : ℕ) (s : Statement) → sort_mark ds t ≡ Good → relation_of ds r t m n ≡ Ok s → IsFine ds given s
  relation_of-fine r t m n s known e =
      let o = only_if-ok (relation_class ds r t && has_literal ds t m && has_literal ds t n) cause.NoInstance (only_if (is_small m && is_small n && relation_holds r m n) cause.Literal (Ok (related r t (Lit t m) (Lit t n)))) s e in
      let k = only_if-ok (is_small m && is_small n && relation_holds r m n) cause.Literal (Ok (related r t (Lit t m) (Lit t n))) s o.1 in
      let c = and_parts (relation_class ds r t) (has_literal ds t m) (and_parts (relation_class ds r t && has_literal ds t m) (has_literal ds t n) o.0).0 in
      let q : related r t (Lit t m) (Lit t n) ≡ s = cc in
      subst (IsFine ds given) q (fine _ (relation-derivable r t m n known c.0 (and_parts (is_small m && is_small n) (relation_holds r m n) k.0).1))

  bridge-derivable : (k : BridgeKind) (n : ℕ) (x : Tree) → IsWellSorted ds x → bridge_class ds k (sort_of_tree x) ≡ true → Derivable ds given (equal (bridge_from k n x) (bridge_to k n x))
  bridge-derivable Smul n x g c = literal_law _ (smul_literal x n g c)
  bridge-derivable Zsmul n x g c = literal_law _ (zsmul_literal x n g c)
  bridge-derivable Zpow n x g c = literal_law _ (zpow_literal x n g c)

  bridge_of-fine : (k : BridgeKind) (n : ℕ) (x : Tree) (s : Statement) → IsWellSorted ds x → bridge_of ds k n x ≡ Ok s → IsFine ds given s
  bridge_of-fine k n x s g e =
      let o = only_if-ok (bridge_class ds k (sort_of_tree x)) cause.NoInstance (only_if (is_small n) cause.Literal (Ok (equal (bridge_from k n x) (bridge_to k n x)))) s e in
      let l = only_if-ok (is_small n) cause.Literal (Ok (equal (bridge_from k n x) (bridge_to k n x))) s o.1 in
      let q : equal (bridge_from k n x) (bridge_to k n x) ≡ s = cc in
      subst (IsFine ds given) q (fine _ (bridge-derivable k n x g o.0))

  slice_get-contains : (ss : List Statement) (k : ℕ) (s : Statement) → slice_get ss k ≡ Some s → Contains ss s
  slice_get-contains [] k s e = cc
  slice_get-contains (x ∷ ss) zero s e = (0, omega arith, cc)
  slice_get-contains (x ∷ ss) (suc k) s e =
      let h = slice_get-contains ss k s e in
      (suc h.0, omega (arith, h.1), h.2)

  line_at-contains : (ss : List Statement) (n : ℕ) (s : Statement) → line_at ss n ≡ Some s → Contains ss s
  line_at-contains ss zero s e = cc
  line_at-contains ss (suc k) s e = slice_get-contains ss k s e

  named-fine : (done : List Statement) (l : Step) (s : Statement) → AllFine ds given done → step_mark ds l ≡ Good → conclude_named th done l ≡ Ok s → IsFine ds given s
  named-fine done (Refl x) s h g e =
      let q : equal x x ≡ s = cc in
      subst (IsFine ds given) q (fine _ (reflexive x g))
  named-fine done (Symm i) s h g e =
      let k = or_cause-ok (line_at done i) cause.Reference symm_of s e in
      symm_of-fine k.0 s (fine_line ds given done i k.0 h k.1) k.2
  named-fine done (Trans i j) s h g e =
      let k = or_cause-ok (line_at done i) cause.Reference (λ (x : Statement). or_cause (line_at done j) cause.Reference (trans_of x)) s e in
      let l = or_cause-ok (line_at done j) cause.Reference (trans_of k.0) s k.2 in
      trans_of-fine k.0 l.0 s (fine_line ds given done i k.0 h k.1) (fine_line ds given done j l.0 h l.1) l.2
  named-fine done (Cong f is) s h g e =
      let k = or_cause-ok (statements_at done is) cause.Reference (cong_of ds f) s e in
      cong_of-fine f k.0 s (fine_lines ds given done is k.0 h k.1) k.2
  named-fine done (Subst i j k) s h g e =
      let a = or_cause-ok (line_at done i) cause.Reference (λ (x : Statement). or_cause (line_at done j) cause.Reference (λ (y : Statement). or_cause (line_at done k) cause.Reference (subst_of x y))) s e in
      let b = or_cause-ok (line_at done j) cause.Reference (λ (y : Statement). or_cause (line_at done k) cause.Reference (subst_of a.0 y)) s a.2 in
      let c = or_cause-ok (line_at done k) cause.Reference (subst_of a.0 b.0) s b.2 in
      subst_of-fine a.0 b.0 c.0 s (fine_line ds given done i a.0 h a.1) (fine_line ds given done j b.0 h b.1) (fine_line ds given done k c.0 h c.1) c.2
  named-fine done (Law n t xs is) s h g e =
      let p = worse-parts (sort_mark ds t) (marks_of ds (of_list xs)) g in
      row_line-fine law_table done n t xs is s (λ r i u with m d. row r u with i m d) h p.0 p.1 e
  named-fine done (Lemma n t xs is) s h g e =
      let p = worse-parts (sort_mark ds t) (marks_of ds (of_list xs)) g in
      row_line-fine th.lemmas done n t xs is s (λ r i u with m d. All-contains IsAdmissible th.lemmas r sound.lemmas i ds given u with sound.lawful m d) h p.0 p.1 e
  named-fine done (Hyp n) s h g e =
      let k = or_cause-ok (line_at (hypotheses ds) n) cause.Reference Ok s e in
      let q : k.0 ≡ s = cc in
      subst (IsFine ds given) q (fine k.0 (hypothesis k.0 (line_at-contains (hypotheses ds) n k.0 k.1)))
  named-fine done Rest s h g e =
      let k = or_cause-ok th.given cause.Reference Ok s e in
      let q : k.0 ≡ s = cc in
      subst (IsFine ds given) q (fine k.0 (given_rest k.0 k.1))
  named-fine done (LitAdd t m n) s h g e = sum_of-fine t m n s g e
  named-fine done (LitMul t m n) s h g e = product_of-fine t m n s g e
  named-fine done (LitRel r t m n) s h g e = relation_of-fine r t m n s g e
  named-fine done (Bridge k n x) s h g e = bridge_of-fine k n x s g e
  named-fine done (Compute (head.Named f) t xs) s h g e = fine s (literal_law s (value_line-law ds f t xs s e))
  named-fine done (Compute head.Dvd t xs) s h g e = fine s (literal_law s (divides_line-law ds t xs s e))

  -- a good line after fine lines is fine
  pub conclude-fine : (done : List Statement) (l : Step) (s : Statement) → AllFine ds given done → conclude th done l ≡ Ok s → IsFine ds given s
  conclude-fine done l s h e =
      let k = only_good-ok (step_mark ds l) (conclude_named th done l) s e in
      named-fine done l s h k.0 k.1

  if-same : (b : Bool) → (if b then Accepted else EndsWrong) ≡ Accepted → b ≡ true
  if-same true e = refl
  if-same false e = cc

  pub ends_in-accepted : (o : Option Statement) (goal : Statement) → ends_in o goal ≡ Accepted → o ≡ Some goal
  ends_in-accepted None goal e = cc
  ends_in-accepted (Some a) goal e = ap Some (same-equal a goal (if-same (statement_same a goal) e))

  go_on-accepted : (n : ℕ) (r : Concludes) (k : Statement → Verdict) → go_on n r k ≡ Accepted → (s : Statement) × (r ≡ Ok s) × (k s ≡ Accepted)
  go_on-accepted n (Ok s) k e = (s, refl, e)
  go_on-accepted n (Err c) k e = cc

  pub verdict_from-fine : (done : List Statement) (ls : List Step) (goal : Statement) → AllFine ds given done → verdict_from th done ls goal ≡ Accepted → IsFine ds given goal
  verdict_from-fine done [] goal h e = fine_at ds given done (length done - 1) goal h (ends_in-accepted (slice_get done (length done - 1)) goal e)
  verdict_from-fine done (l ∷ ls) goal h e =
      let k = go_on-accepted (suc (length done)) (conclude th done l) (λ (s : Statement). verdict_from th (done ++ s ∷ []) ls goal) e in
      verdict_from-fine (done ++ k.0 ∷ []) ls goal (AllFine-push ds given done k.0 h (conclude-fine done l k.0 h k.1)) k.2

  -- the goal of a valid list is well sorted, and derivable
  pub valid-fine : (steps : List Step) (goal : Statement) → IsValid th steps goal → IsFine ds given goal
  valid-fine steps goal e = verdict_from-fine [] steps goal tt e

  pub valid-derivable : (steps : List Step) (goal : Statement) → IsValid th steps goal → Follows th goal
  valid-derivable steps goal e = (valid-fine steps goal e).derivable
