-- A row whose lines prove it follows from the laws.
use Rattle.std.proofs.Common.{◌≡◌, ℕ, zero, suc, ◌+◌, ◌*◌, ◌-◌, Bool, true, false, not, List, [], ◌∷◌, ◌++◌, Option, Some, None, arith, refl, ap, ap₂, sym, ◌∙◌, subst, length}
use Rattle.std.specs.Prelude.{◌&&◌, ◌||◌, nat_eq, map, slice_get, ⊤, All, if◌then◌else◌}
use Rattle.std.specs.Cmp.Lexicographic.{pointwise}
use Rattle.std.proofs.lemmas.Bool.{and_parts}
use Rattle.std.proofs.lemmas.Bool.Decides.{nat_tests}
use Rattle.std.proofs.lemmas.List.Elements.{All-head, All-tail}
use Rattle.alg_terms.specs.declared.sorts.Sort.{Sort}
use Rattle.alg_terms.specs.declared.sorts.Sort.TheVariants.{Nat, Int}
use Rattle.alg_terms.specs.declared.symbols.Sym.{Sym}
use Rattle.alg_terms.specs.declared.symbols.Sym.TheVariants as sym
use Rattle.alg_terms.specs.declared.relations.Rel.{Rel}
use Rattle.alg_terms.specs.declared.relations.Rel.TheVariants.{Eq, Ne, Lt, Le, Dvd}
use Rattle.alg_terms.specs.Symbols.{places}
use Rattle.alg_terms.specs.Tree.{Tree, Lit, App, Nil, Cons, of_list, Statement, sort_of_tree, equal, product_tree}
use Rattle.alg_law.specs.declared.classes.Class.TheVariants.{AddGroup, Group, Field, Semiring, CharZero}
use Rattle.alg_law.specs.declared.marks.Mark.TheVariants.{Good}
use Rattle.alg_law.specs.declared.patterns.PatSort.{PatSort}
use Rattle.alg_law.specs.declared.rows.Need.{Need}
use Rattle.alg_law.specs.Declarations.{Declaration}
use Rattle.alg_law.specs.Having.{has_class}
use Rattle.alg_law.specs.Lawful.{IsLawful}
use Rattle.alg_law.specs.Patterns.{Pat, PLit, PApp, PNil, PCons, PatStatement, sort_for, letter_sort, fill, fills, fill_statement}
use Rattle.alg_law.specs.LawRows.{parts}
use Rattle.alg_law.specs.Rows.{Row, letters_of, meets_all, MayFill}
use Rattle.alg_law.specs.Laws.{law_table, row_named}
use Rattle.alg_law.proofs.RowNameLaws.{row_named-exact}
use Rattle.alg_law.specs.WellSorted.{sort_mark, IsWellSorted, AreWellSorted}
use Rattle.alg_law.specs.Derivations.{Derivable, AllDerivable, none, more, reflexive, symmetric, transitive, congruent, substitution, row, literal_law, distinct, smul_literal, zsmul_literal, zpow_literal, equations, count_of}
use Rattle.alg_law.specs.RowNames.{is_none}
use Rattle.alg_proof.specs.declared.lines.BridgeKind.{BridgeKind}
use Rattle.alg_proof.specs.declared.lines.BridgeKind.TheVariants.{Smul, Zsmul, Zpow}
use Rattle.alg_proof.specs.Causes.{line_at, is_small, is_eq_rel}
use Rattle.alg_proof.specs.Following.{IsAdmissible}
use Rattle.alg_proof.specs.LemmaRows.{PatStep, Refl, Symm, Trans, Cong, Subst, Law, Lemma, LitAdd, LitMul, LitRel, Bridge, Compute, lemma_row_of, proof_of}
use Rattle.alg_proof.specs.declared.lemma_rows.LemmaRow.{LemmaRow}
use Rattle.alg_proof.proofs.LiteralSums.{literal_sum, literal_product}
use Rattle.alg_lemma.specs.Kinds.{kind_same, kind_has, needs_met}
use Rattle.alg_lemma.specs.Fitting.{kind_of, kinds_of, fits, all_fit, statement_fits, statements_fit}
use Rattle.alg_lemma.specs.Same.{pattern_same, pattern_statements_same}
use Rattle.alg_lemma.specs.Putting.{put_statement}
use Rattle.alg_lemma.specs.Proving.{then_with, only_where, relation_at, equal_at, pattern_equation, put_before, lines_at, flipped, chained, replaced, equations_only, left_patterns, right_patterns, same_kind, under, letters_match, row_at, cited, literal_sum_at, literal_product_at, literal_relation_at, bridge_sides, bridge_kind_has, bridge_at, said, fitting, conclude_pattern, conclusions, is_conclusion, ends_with, proves, may_join}
use Rattle.alg_lemma.proofs.Alike.{kind_same-equal, pattern_same-equal, pattern_statement_same-equal, pattern_statements_same-equal}
use Rattle.alg_lemma.proofs.Having.{kind_has-sound, kind_known, needs_met-sound, group_or_field}
use Rattle.alg_lemma.proofs.Filled.{fill_statement-put, sort_of_filled, filled-good, list-good, list-sorts}

only_where-some : {B : Type 0} (b : Bool) (o : Option B) (x : B) → only_where b o ≡ Some x → (b ≡ true) × (o ≡ Some x)
only_where-some true o x e = (refl, e)
only_where-some false o x e = cc

then_with-some : {A B : Type 0} (o : Option A) (k : A → Option B) (y : B) → then_with o k ≡ Some y → (x : A) × (o ≡ Some x) × (k x ≡ Some y)
then_with-some None k y e = cc
then_with-some (Some x) k y e = (x, refl, e)

is_eq_rel-eq : (r : Rel) → is_eq_rel r ≡ true → r ≡ Eq
is_eq_rel-eq Eq e = refl
is_eq_rel-eq Ne e = cc
is_eq_rel-eq Lt e = cc
is_eq_rel-eq Le e = cc
is_eq_rel-eq Dvd e = cc

different_numbers : (m n : ℕ) → not (nat_eq m n) ≡ true → m ≡ n → ⊥
different_numbers m n e f = grind (arith, nat_tests)

module _ (ds : List Declaration) (given : Option Statement) (s : Sort) (ns : List Need) (lawful : IsLawful ds) (known : sort_mark ds s ≡ Good) (met : meets_all ds s ns ≡ true)
    (ks : List ℕ) (xs : List Tree) (sorts : map sort_of_tree xs ≡ map (letter_sort s) ks) (trees : AreWellSorted ds (of_list xs)) where
  abbrev filled : Pat → Tree
  filled = fill ks s xs

  abbrev stated : PatStatement → Statement
  stated = fill_statement ks s xs

  pub record IsProved (p : PatStatement) : Type 0 where
    pub derivable : Derivable ds given (stated p)
    pub fitted : statement_fits ns ks p ≡ true

  abbrev pub AllProved : List PatStatement → Type 0
  AllProved [] = ⊤
  AllProved (p ∷ ps) = IsProved p × AllProved ps

  -- both sides are well sorted and of the statement's sort
  record AreSides (p : PatStatement) : Type 0 where
    pub left : IsWellSorted ds (filled p.lhs)
    pub right : IsWellSorted ds (filled p.rhs)
    pub left_sort : sort_of_tree (filled p.lhs) ≡ sort_for s p.sort
    pub right_sort : sort_of_tree (filled p.rhs) ≡ sort_for s p.sort

  sides : (p : PatStatement) → statement_fits ns ks p ≡ true → AreSides p
  sides p e =
      let h = and_parts (fits ns ks p.lhs && fits ns ks p.rhs) (kind_same (kind_of p.lhs) p.sort && kind_same (kind_of p.rhs) p.sort) e in
      let f = and_parts (fits ns ks p.lhs) (fits ns ks p.rhs) h.0 in
      let k = and_parts (kind_same (kind_of p.lhs) p.sort) (kind_same (kind_of p.rhs) p.sort) h.1 in
      record {
        left = filled-good ds s ns lawful known met ks xs sorts trees p.lhs f.0;
        right = filled-good ds s ns lawful known met ks xs sorts trees p.rhs f.1;
        left_sort = sort_of_filled ds s ns lawful known met ks xs sorts trees p.lhs f.0 ∙ ap (sort_for s) (kind_same-equal (kind_of p.lhs) p.sort k.0);
        right_sort = sort_of_filled ds s ns lawful known met ks xs sorts trees p.rhs f.1 ∙ ap (sort_for s) (kind_same-equal (kind_of p.rhs) p.sort k.1);
      }

  -- an equation is that of its sides
  as_equation : (p : PatStatement) → AreSides p → pattern_equation p ≡ true → stated p ≡ equal (filled p.lhs) (filled p.rhs)
  as_equation p h e = λ i. record { rel = is_eq_rel-eq p.rel e i; sort = sym h.left_sort i; lhs = filled p.lhs; rhs = filled p.rhs }

  equation_of : (p : PatStatement) → IsProved p → pattern_equation p ≡ true → Derivable ds given (equal (filled p.lhs) (filled p.rhs))
  equation_of p h e = subst (Derivable ds given) (as_equation p (sides p h.fitted) e) h.derivable

  from_equation : (p : PatStatement) → statement_fits ns ks p ≡ true → pattern_equation p ≡ true → Derivable ds given (equal (filled p.lhs) (filled p.rhs)) → Derivable ds given (stated p)
  from_equation p f e d = subst (Derivable ds given) (sym (as_equation p (sides p f) e)) d

  -- what is said, whatever statement it is
  abbrev Follows : PatStatement → Type 0
  Follows p = statement_fits ns ks p ≡ true → Derivable ds given (stated p)

  proved_at : (done : List PatStatement) (i : ℕ) (p : PatStatement) → AllProved done → slice_get done i ≡ Some p → IsProved p
  proved_at [] i p h e = cc
  proved_at (x ∷ rest) zero p h e = let q : x ≡ p = cc in subst IsProved q h.0
  proved_at (x ∷ rest) (suc i) p h e = proved_at rest i p h.1 e

  proved_line : (done : List PatStatement) (i : ℕ) (p : PatStatement) → AllProved done → line_at done i ≡ Some p → IsProved p
  proved_line done zero p h e = cc
  proved_line done (suc i) p h e = proved_at done i p h e

  put_before-some : (o : Option PatStatement) (u : Option (List PatStatement)) (ps : List PatStatement) → put_before o u ≡ Some ps → (p : PatStatement) × (rest : List PatStatement) × (o ≡ Some p) × (u ≡ Some rest) × (p ∷ rest ≡ ps)
  put_before-some None u ps e = cc
  put_before-some (Some p) None ps e = cc
  put_before-some (Some p) (Some rest) ps e = (p, rest, refl, refl, cc)

  proved_lines : (done : List PatStatement) (is : List ℕ) (ps : List PatStatement) → AllProved done → lines_at done is ≡ Some ps → AllProved ps
  proved_lines done [] ps h e = let q : [] ≡ ps = cc in subst AllProved q tt
  proved_lines done (i ∷ is) ps h e =
      let j = put_before-some (line_at done i) (lines_at done is) ps e in
      subst AllProved j.4 (proved_line done i j.0 h j.2, proved_lines done is j.1 h j.3)

  flipped-follows : (x p : PatStatement) → IsProved x → flipped x ≡ Some p → Follows p
  flipped-follows x p h e =
      let o = only_where-some (pattern_equation x) (Some (equal_at x.sort x.rhs x.lhs)) p e in
      let q : equal_at x.sort x.rhs x.lhs ≡ p = cc in
      let z = sides x h.fitted in
      subst Follows q (λ f.
      from_equation (equal_at x.sort x.rhs x.lhs) f refl
      (symmetric (filled x.lhs) (filled x.rhs) (z.right_sort ∙ sym z.left_sort) (equation_of x h o.0)))

  chained-follows : (x y p : PatStatement) → IsProved x → IsProved y → chained x y ≡ Some p → Follows p
  chained-follows x y p h g e =
      let o = only_where-some ((pattern_equation x && pattern_equation y) && pattern_same x.rhs y.lhs) (Some (equal_at x.sort x.lhs y.rhs)) p e in
      let q : equal_at x.sort x.lhs y.rhs ≡ p = cc in
      let a = and_parts (pattern_equation x && pattern_equation y) (pattern_same x.rhs y.lhs) o.0 in
      let b = and_parts (pattern_equation x) (pattern_equation y) a.0 in
      let same : filled y.lhs ≡ filled x.rhs = ap filled (sym (pattern_same-equal x.rhs y.lhs a.1)) in
      subst Follows q (λ f.
      from_equation (equal_at x.sort x.lhs y.rhs) f refl
      (transitive (filled x.lhs) (filled x.rhs) (filled y.rhs) (equation_of x h b.0) (subst (λ t. Derivable ds given (equal t (filled y.rhs))) same (equation_of y g b.1))))

  replaced-follows : (x y z p : PatStatement) → IsProved x → IsProved y → IsProved z → replaced x y z ≡ Some p → Follows p
  replaced-follows x y z p h g k e =
      let o = only_where-some ((pattern_equation y && pattern_equation z) && (pattern_same x.lhs y.lhs && pattern_same x.rhs z.lhs)) (Some (relation_at x.rel x.sort y.rhs z.rhs)) p e in
      let q : relation_at x.rel x.sort y.rhs z.rhs ≡ p = cc in
      let a = and_parts (pattern_equation y && pattern_equation z) (pattern_same x.lhs y.lhs && pattern_same x.rhs z.lhs) o.0 in
      let b = and_parts (pattern_equation y) (pattern_equation z) a.0 in
      let c = and_parts (pattern_same x.lhs y.lhs) (pattern_same x.rhs z.lhs) a.1 in
      let left : filled y.lhs ≡ filled x.lhs = ap filled (sym (pattern_same-equal x.lhs y.lhs c.0)) in
      let right : filled z.lhs ≡ filled x.rhs = ap filled (sym (pattern_same-equal x.rhs z.lhs c.1)) in
      subst Follows q (λ f.
      substitution x.rel (sort_for s x.sort) (filled x.lhs) (filled x.rhs) (filled y.rhs) (filled z.rhs) h.derivable
      (subst (λ t. Derivable ds given (equal t (filled y.rhs))) left (equation_of y g b.0))
      (subst (λ t. Derivable ds given (equal t (filled z.rhs))) right (equation_of z k b.1)))

  sides_derivable : (ls : List PatStatement) → AllProved ls → equations_only ls ≡ true → AllDerivable ds given (equations (fills ks s xs (left_patterns ls)) (fills ks s xs (right_patterns ls)))
  sides_derivable [] h e = none
  sides_derivable (l ∷ ls) h e =
      let k = and_parts (pattern_equation l) (equations_only ls) e in
      more _ _ (equation_of l h.0 k.0) (sides_derivable ls h.1 k.1)

  sides_count : (ls : List PatStatement) → count_of (fills ks s xs (left_patterns ls)) ≡ count_of (fills ks s xs (right_patterns ls))
  sides_count [] = refl
  sides_count (l ∷ ls) = ap suc (sides_count ls)

  under-follows : (f : Sym) (ls : List PatStatement) (p : PatStatement) → AllProved ls → under f ls ≡ Some p → Follows p
  under-follows f ls p h e =
      let k = then_with-some (same_kind (places f) (kinds_of (left_patterns ls))) (λ (t : PatSort). only_where (equations_only ls) (Some (equal_at t (PApp f t (left_patterns ls)) (PApp f t (right_patterns ls))))) p e in
      let o = only_where-some (equations_only ls) (Some (equal_at k.0 (PApp f k.0 (left_patterns ls)) (PApp f k.0 (right_patterns ls)))) p k.2 in
      let q : equal_at k.0 (PApp f k.0 (left_patterns ls)) (PApp f k.0 (right_patterns ls)) ≡ p = cc in
      subst Follows q (λ fitted.
      let z = sides (equal_at k.0 (PApp f k.0 (left_patterns ls)) (PApp f k.0 (right_patterns ls))) fitted in
      from_equation (equal_at k.0 (PApp f k.0 (left_patterns ls)) (PApp f k.0 (right_patterns ls))) fitted refl
      (congruent f (sort_for s k.0) (fills ks s xs (left_patterns ls)) (fills ks s xs (right_patterns ls)) z.left z.right (sides_count ls) (sides_derivable ls h o.0)))

  all_derivable : (ps : List PatStatement) → AllProved ps → AllDerivable ds given (map stated ps)
  all_derivable [] h = none
  all_derivable (p ∷ ps) h = more (stated p) (map stated ps) h.0.derivable (all_derivable ps h.1)

  premises_filled : (ls : List ℕ) (t : PatSort) (ps : List Pat) (qs : List PatStatement) → map stated (map (put_statement ls t ps) qs) ≡ map (fill_statement ls (sort_for s t) (map filled ps)) qs
  premises_filled ls t ps [] = refl
  premises_filled ls t ps (q ∷ qs) = ap₂ (λ u us. u ∷ us) (fill_statement-put ks s xs ls t ps q) (premises_filled ls t ps qs)

  -- what a line of a row rests on
  abbrev RowFollows : Row → Type 0
  RowFollows r =
      (t : Sort) (with : List Tree) → MayFill ds r t with → AllDerivable ds given (map (fill_statement (letters_of r) t with) r.premises) → Derivable ds given (fill_statement (letters_of r) t with r.conclusion)

  row_at-follows : (r : Row) (t : PatSort) (ps : List Pat) (ls : List PatStatement) (p : PatStatement) → RowFollows r → AllProved ls → row_at ns ks r t ps ls ≡ Some p → Follows p
  row_at-follows r t ps ls p from h e =
      let o = only_where-some ((letters_match t (letters_of r) ps && all_fit ns ks (parts ps)) && (needs_met ns t r.needs && pattern_statements_same ls (map (put_statement (letters_of r) t ps) r.premises))) (Some (put_statement (letters_of r) t ps r.conclusion)) p e in
      let a = and_parts (letters_match t (letters_of r) ps && all_fit ns ks (parts ps)) (needs_met ns t r.needs && pattern_statements_same ls (map (put_statement (letters_of r) t ps) r.premises)) o.0 in
      let b = and_parts (letters_match t (letters_of r) ps) (all_fit ns ks (parts ps)) a.0 in
      let c = and_parts (needs_met ns t r.needs) (pattern_statements_same ls (map (put_statement (letters_of r) t ps) r.premises)) a.1 in
      let same : ls ≡ map (put_statement (letters_of r) t ps) r.premises = pattern_statements_same-equal ls (map (put_statement (letters_of r) t ps) r.premises) c.1 in
      let q : put_statement (letters_of r) t ps r.conclusion ≡ p = cc in
      let may : MayFill ds r (sort_for s t) (map filled ps) =
      record {
        known = kind_known ds s ns lawful known met t;
        needs = needs_met-sound ds s ns lawful known met t r.needs c.0;
        sorts = list-sorts ds s ns lawful known met ks xs sorts trees t (letters_of r) ps b.0 b.1;
        trees = list-good ds s ns lawful known met ks xs sorts trees ps b.1;
      } in
      let premises : AllDerivable ds given (map (fill_statement (letters_of r) (sort_for s t) (map filled ps)) r.premises) =
      subst (AllDerivable ds given) (ap (map stated) same ∙ premises_filled (letters_of r) t ps r.premises) (all_derivable ls h) in
      subst Follows q (λ f. subst (Derivable ds given) (sym (fill_statement-put ks s xs (letters_of r) t ps r.conclusion)) (from (sort_for s t) (map filled ps) may premises))

  cited-follows : (rows : List Row) (done : List PatStatement) (n : List ℕ) (t : PatSort) (ps : List Pat) (is : List ℕ) (p : PatStatement) → ((r : Row) → row_named rows n ≡ Some r → RowFollows r) → AllProved done → cited rows ns ks done n t ps is ≡ Some p → Follows p
  cited-follows rows done n t ps is p from h e =
      let k = then_with-some (lines_at done is) (λ (ls : List PatStatement). then_with (row_named rows n) (λ r. row_at ns ks r t ps ls)) p e in
      let l = then_with-some (row_named rows n) (λ (r : Row). row_at ns ks r t ps k.0) p k.2 in
      row_at-follows l.0 t ps k.0 p (from l.0 l.1) (proved_lines done is k.0 h k.1) l.2

  law-follows : (n : List ℕ) (r : Row) → row_named law_table n ≡ Some r → RowFollows r
  law-follows n r e t with may premises = row r t with ((row_named-exact n (row_named law_table n) refl).there r e).0 may premises

  literal_sum-follows : (t : PatSort) (m n : ℕ) (p : PatStatement) → literal_sum_at ns t m n ≡ Some p → Follows p
  literal_sum-follows t m n p e =
      let x = equal_at t (PApp sym.Add t (PCons (PLit t m) (PCons (PLit t n) PNil))) (PLit t (m + n)) in
      let o = only_where-some (kind_has ns t Semiring && (is_small m && is_small n && is_small (m + n))) (Some x) p e in
      let q : x ≡ p = cc in
      let c = and_parts (kind_has ns t Semiring) (is_small m && is_small n && is_small (m + n)) o.0 in
      subst Follows q (λ f. from_equation x f refl (literal_sum ds given (sort_for s t) (kind_known ds s ns lawful known met t) (kind_has-sound ds s ns lawful known met t Semiring c.0) m n))

  literal_product-follows : (t : PatSort) (m n : ℕ) (p : PatStatement) → literal_product_at ns t m n ≡ Some p → Follows p
  literal_product-follows t m n p e =
      let x = equal_at t (PApp sym.Mul t (PCons (PLit t m) (PCons (PLit t n) PNil))) (PLit t (m * n)) in
      let o = only_where-some (kind_has ns t Semiring && (is_small m && is_small n && is_small (m * n))) (Some x) p e in
      let q : x ≡ p = cc in
      let c = and_parts (kind_has ns t Semiring) (is_small m && is_small n && is_small (m * n)) o.0 in
      subst Follows q (λ f. from_equation x f refl (literal_product ds given (sort_for s t) (kind_known ds s ns lawful known met t) (kind_has-sound ds s ns lawful known met t Semiring c.0) m n))

  literal_relation-follows : (r : Rel) (t : PatSort) (m n : ℕ) (p : PatStatement) → literal_relation_at ns r t m n ≡ Some p → Follows p
  literal_relation-follows Ne t m n p e =
      let x = relation_at Ne t (PLit t m) (PLit t n) in
      let o = only_where-some (kind_has ns t CharZero && (is_small m && is_small n && not (nat_eq m n))) (Some x) p e in
      let q : x ≡ p = cc in
      let c = and_parts (kind_has ns t CharZero) (is_small m && is_small n && not (nat_eq m n)) o.0 in
      let d = and_parts (is_small m && is_small n) (not (nat_eq m n)) c.1 in
      subst Follows q (λ f. literal_law (stated x) (distinct (sort_for s t) m n (kind_known ds s ns lawful known met t) (kind_has-sound ds s ns lawful known met t CharZero c.0) (different_numbers m n d.1)))
  literal_relation-follows Eq t m n p e = cc
  literal_relation-follows Lt t m n p e = cc
  literal_relation-follows Le t m n p e = cc
  literal_relation-follows Dvd t m n p e = cc

  bridge_sides-follow : (k : BridgeKind) (n : ℕ) (x : Pat) → fits ns ks x ≡ true → bridge_kind_has ns k (kind_of x) ≡ true → Follows (bridge_sides k n x (kind_of x))
  bridge_sides-follow Smul n x h e f =
      let t = sort_of_filled ds s ns lawful known met ks xs sorts trees x h in
      let good = filled-good ds s ns lawful known met ks xs sorts trees x h in
      let has : has_class ds (sort_of_tree (filled x)) Semiring ≡ true = rw t (kind_has-sound ds s ns lawful known met (kind_of x) Semiring e) in
      from_equation (bridge_sides Smul n x (kind_of x)) f refl
      (subst (λ u. Derivable ds given (equal (App sym.Nsmul u (Cons (Lit Nat n) (Cons (filled x) Nil))) (product_tree u (Lit u n) (filled x)))) t
      (literal_law _ (smul_literal (filled x) n good has)))
  bridge_sides-follow Zsmul n x h e f =
      let t = sort_of_filled ds s ns lawful known met ks xs sorts trees x h in
      let good = filled-good ds s ns lawful known met ks xs sorts trees x h in
      let has : has_class ds (sort_of_tree (filled x)) AddGroup ≡ true = rw t (kind_has-sound ds s ns lawful known met (kind_of x) AddGroup e) in
      from_equation (bridge_sides Zsmul n x (kind_of x)) f refl
      (subst (λ u. Derivable ds given (equal (App sym.Zsmul u (Cons (Lit Int n) (Cons (filled x) Nil))) (App sym.Nsmul u (Cons (Lit Nat n) (Cons (filled x) Nil))))) t
      (literal_law _ (zsmul_literal (filled x) n good has)))
  bridge_sides-follow Zpow n x h e f =
      let t = sort_of_filled ds s ns lawful known met ks xs sorts trees x h in
      let good = filled-good ds s ns lawful known met ks xs sorts trees x h in
      let has : (has_class ds (sort_of_tree (filled x)) Group || has_class ds (sort_of_tree (filled x)) Field) ≡ true = rw t (group_or_field ds s ns lawful known met (kind_of x) e) in
      from_equation (bridge_sides Zpow n x (kind_of x)) f refl
      (subst (λ u. Derivable ds given (equal (App sym.Zpow u (Cons (filled x) (Cons (Lit Int n) Nil))) (App sym.Npow u (Cons (filled x) (Cons (Lit Nat n) Nil))))) t
      (literal_law _ (zpow_literal (filled x) n good has)))

  bridge-follows : (k : BridgeKind) (n : ℕ) (x : Pat) (p : PatStatement) → bridge_at ns ks k n x ≡ Some p → Follows p
  bridge-follows k n x p e =
      let o = only_where-some ((fits ns ks x && bridge_kind_has ns k (kind_of x)) && is_small n) (Some (bridge_sides k n x (kind_of x))) p e in
      let a = and_parts (fits ns ks x && bridge_kind_has ns k (kind_of x)) (is_small n) o.0 in
      let b = and_parts (fits ns ks x) (bridge_kind_has ns k (kind_of x)) a.0 in
      let q : bridge_sides k n x (kind_of x) ≡ p = cc in
      subst Follows q (bridge_sides-follow k n x b.0 b.1)

  module _ (rows : List Row) (admissible : (n : List ℕ) (r : Row) → row_named rows n ≡ Some r → IsAdmissible r) where
    said-follows : (done : List PatStatement) (l : PatStep) (p : PatStatement) → AllProved done → said rows ns ks done l ≡ Some p → Follows p
    said-follows done (Refl x) p h e =
        let q : equal_at (kind_of x) x x ≡ p = cc in
        subst Follows q (λ f. from_equation (equal_at (kind_of x) x x) f refl (reflexive (filled x) (sides (equal_at (kind_of x) x x) f).left))
    said-follows done (Symm i) p h e =
        let k = then_with-some (line_at done i) flipped p e in
        flipped-follows k.0 p (proved_line done i k.0 h k.1) k.2
    said-follows done (Trans i j) p h e =
        let k = then_with-some (line_at done i) (λ (a : PatStatement). then_with (line_at done j) (chained a)) p e in
        let l = then_with-some (line_at done j) (chained k.0) p k.2 in
        chained-follows k.0 l.0 p (proved_line done i k.0 h k.1) (proved_line done j l.0 h l.1) l.2
    said-follows done (Cong f is) p h e =
        let k = then_with-some (lines_at done is) (under f) p e in
        under-follows f k.0 p (proved_lines done is k.0 h k.1) k.2
    said-follows done (Subst i j k) p h e =
        let a = then_with-some (line_at done i) (λ (x : PatStatement). then_with (line_at done j) (λ y. then_with (line_at done k) (replaced x y))) p e in
        let b = then_with-some (line_at done j) (λ (y : PatStatement). then_with (line_at done k) (replaced a.0 y)) p a.2 in
        let c = then_with-some (line_at done k) (replaced a.0 b.0) p b.2 in
        replaced-follows a.0 b.0 c.0 p (proved_line done i a.0 h a.1) (proved_line done j b.0 h b.1) (proved_line done k c.0 h c.1) c.2
    said-follows done (Law n t ps is) p h e = cited-follows law_table done n t ps is p (law-follows n) h e
    said-follows done (Lemma n t ps is) p h e = cited-follows rows done n t ps is p (λ r f u with may premises. admissible n r f ds given u with lawful may premises) h e
    said-follows done (LitAdd t m n) p h e = literal_sum-follows t m n p e
    said-follows done (LitMul t m n) p h e = literal_product-follows t m n p e
    said-follows done (LitRel r t m n) p h e = literal_relation-follows r t m n p e
    said-follows done (Bridge k n x) p h e = bridge-follows k n x p e
    said-follows done (Compute f t ys) p h e = cc

    conclude-proved : (done : List PatStatement) (l : PatStep) (p : PatStatement) → AllProved done → conclude_pattern rows ns ks done l ≡ Some p → IsProved p
    conclude-proved done l p h e =
        let k = then_with-some (said rows ns ks done l) (fitting ns ks) p e in
        let o = only_where-some (statement_fits ns ks k.0) (Some k.0) p k.2 in
        let q : k.0 ≡ p = cc in
        subst IsProved q (record { derivable = said-follows done l k.0 h k.1 o.0; fitted = o.0 })

    AllProved-push : (done : List PatStatement) (p : PatStatement) → AllProved done → IsProved p → AllProved (done ++ p ∷ [])
    AllProved-push [] p h f = (f, tt)
    AllProved-push (x ∷ rest) p h f = (h.0, AllProved-push rest p h.1 f)

    conclusions-proved : (done : List PatStatement) (ls : List PatStep) (all : List PatStatement) → AllProved done → conclusions rows ns ks done ls ≡ Some all → AllProved all
    conclusions-proved done [] all h e = let q : done ≡ all = cc in subst AllProved q h
    conclusions-proved done (l ∷ ls) all h e =
        let k = then_with-some (conclude_pattern rows ns ks done l) (λ (p : PatStatement). conclusions rows ns ks (done ++ p ∷ []) ls) all e in
        conclusions-proved (done ++ k.0 ∷ []) ls all (AllProved-push done k.0 h (conclude-proved done l k.0 h k.1)) k.2

    is_conclusion-proved : (c : PatStatement) (done : List PatStatement) (i : ℕ) (o : Option PatStatement) → slice_get done i ≡ o → AllProved done → is_conclusion c o ≡ true → Derivable ds given (stated c)
    is_conclusion-proved c done i None g h e = cc
    is_conclusion-proved c done i (Some p) g h e = subst (λ q. Derivable ds given (stated q)) (pattern_statement_same-equal p c e) (proved_at done i p h g).derivable

    ends_with-proved : (c : PatStatement) (o : Option (List PatStatement)) → ((all : List PatStatement) → o ≡ Some all → AllProved all) → ends_with c o ≡ true → Derivable ds given (stated c)
    ends_with-proved c None h e = cc
    ends_with-proved c (Some done) h e = is_conclusion-proved c done (length done - 1) (slice_get done (length done - 1)) refl (h done refl) e

    premises-proved : (ps : List PatStatement) → AllDerivable ds given (map stated ps) → statements_fit ns ks ps ≡ true → AllProved ps
    premises-proved [] d e = tt
    premises-proved (p ∷ ps) (more _ _ d rest) e =
        let h = and_parts (statement_fits ns ks p) (statements_fit ns ks ps) e in
        (record { derivable = d; fitted = h.0 }, premises-proved ps rest h.1)

    pub row-derivable : (ps : List PatStatement) (c : PatStatement) (ls : List PatStep) → AllDerivable ds given (map stated ps)
        → (statements_fit ns ks ps && ends_with c (conclusions rows ns ks ps ls)) ≡ true → Derivable ds given (stated c)
    row-derivable ps c ls d e =
        let h = and_parts (statements_fit ns ks ps) (ends_with c (conclusions rows ns ks ps ls)) e in
        ends_with-proved c (conclusions rows ns ks ps ls) (λ all f. conclusions-proved ps ls all (premises-proved ps d h.0) f) h.1

-- a row that its lines prove follows from the laws
proves-admissible : (rows : List Row) → ((n : List ℕ) (r : Row) → row_named rows n ≡ Some r → IsAdmissible r) → (r : Row) (ls : List PatStep) → proves rows r ls ≡ true → IsAdmissible r
proves-admissible rows admissible r ls e ds given s with lawful may premises =
    row-derivable ds given s r.needs lawful may.known may.needs (letters_of r) with may.sorts may.trees rows admissible r.premises r.conclusion ls premises e

pick-admissible : (b : Bool) (x r : Row) (o : Option Row) → IsAdmissible x → (o ≡ Some r → IsAdmissible r) → (if b then Some x else o) ≡ Some r → IsAdmissible r
pick-admissible true x r o h k e = let q : x ≡ r = cc in subst IsAdmissible q h
pick-admissible false x r o h k e = k e

found-admissible : (rows : List Row) → All IsAdmissible rows → (n : List ℕ) (r : Row) → row_named rows n ≡ Some r → IsAdmissible r
found-admissible [] h n r e = cc
found-admissible (x ∷ rows) h n r e =
    pick-admissible (pointwise nat_eq x.name n) x r (row_named rows n) (All-head IsAdmissible x rows h) (found-admissible rows (All-tail IsAdmissible x rows h) n r) e

absent-none : (o : Option Row) → is_none o ≡ true → o ≡ None
absent-none None e = refl
absent-none (Some r) e = cc

-- a lemma that may join rows that follow from the laws follows from them too
pub joining-admissible : (rows : List Row) (l : LemmaRow) → All IsAdmissible rows → may_join rows l ≡ true → IsAdmissible (lemma_row_of l)
joining-admissible rows l h e =
    let k = and_parts (is_none (row_named rows (lemma_row_of l).name)) (proves rows (lemma_row_of l) (proof_of l)) e in
    proves-admissible rows (found-admissible rows h) (lemma_row_of l) (proof_of l) k.1

pub joining-new : (rows : List Row) (l : LemmaRow) → may_join rows l ≡ true → row_named rows (lemma_row_of l).name ≡ None
joining-new rows l e =
    absent-none (row_named rows (lemma_row_of l).name) (and_parts (is_none (row_named rows (lemma_row_of l).name)) (proves rows (lemma_row_of l) (proof_of l)) e).0
