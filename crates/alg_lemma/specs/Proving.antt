-- Proof lines over patterns: what each concludes, and when they prove the conclusion of a row from its premises.
use Rattle.std.specs.Prelude.{ℕ, ◌+◌, ◌*◌, ◌-◌, Bool, true, false, ◌&&◌, ◌||◌, not, nat_eq, List, [], ◌∷◌, ◌++◌, map, length, Option, Some, None, slice_get}
use Rattle.alg_terms.specs.declared.symbols.Sym.{Sym}
use Rattle.alg_terms.specs.declared.symbols.Sym.TheVariants as sym
use Rattle.alg_terms.specs.declared.symbols.Place.{Place}
use Rattle.alg_terms.specs.declared.symbols.Place.TheVariants.{Same, OfNat, OfInt}
use Rattle.alg_terms.specs.declared.relations.Rel.{Rel}
use Rattle.alg_terms.specs.declared.relations.Rel.TheVariants.{Eq, Ne, Lt, Le, Dvd}
use Rattle.alg_terms.specs.Symbols.{places}
use Rattle.alg_law.specs.declared.classes.Class.TheVariants.{AddGroup, Group, Field, Semiring, CharZero}
use Rattle.alg_law.specs.declared.patterns.PatSort.{PatSort}
use Rattle.alg_law.specs.declared.patterns.PatSort.TheVariants as of
use Rattle.alg_law.specs.declared.rows.Need.{Need}
use Rattle.alg_law.specs.Patterns.{Pat, PLit, PApp, Pats, PNil, PCons, PatStatement}
use Rattle.alg_law.specs.LawRows.{parts}
use Rattle.alg_law.specs.Rows.{Row, letters_of}
use Rattle.alg_law.specs.Laws.{law_table, row_named}
use Rattle.alg_law.specs.RowNames.{is_none}
use Rattle.alg_proof.specs.declared.lines.BridgeKind.{BridgeKind}
use Rattle.alg_proof.specs.declared.lines.BridgeKind.TheVariants.{Smul, Zsmul, Zpow}
use Rattle.alg_proof.specs.Causes.{line_at, is_small, is_eq_rel}
use Rattle.alg_proof.specs.LemmaRows.{PatStep, Refl, Symm, Trans, Cong, Subst, Law, Lemma, LitAdd, LitMul, LitRel, Bridge, Compute, lemma_row_of, proof_of}
use Rattle.alg_proof.specs.declared.lemma_rows.LemmaRow.{LemmaRow}
use Rattle.alg_lemma.specs.Kinds.{kind_same, kind_has, needs_met}
use Rattle.alg_lemma.specs.Fitting.{letter_kind, kind_of, kinds_of, fits, all_fit, statement_fits, statements_fit}
use Rattle.alg_lemma.specs.Same.{pattern_same, pattern_statement_same, pattern_statements_same}
use Rattle.alg_lemma.specs.Putting.{put_statement}

-- goes on with a value, if there is one
abbrev pub then_with : {A B : Type 0} → Option A → (A → Option B) → Option B
then_with None k = None
then_with (Some x) k = k x

-- goes on where the test holds
abbrev pub only_where : {B : Type 0} → Bool → Option B → Option B
only_where true o = o
only_where false o = None

abbrev pub relation_at : Rel → PatSort → Pat → Pat → PatStatement
relation_at r t x y = record { rel = r; sort = t; lhs = x; rhs = y }

abbrev pub equal_at : PatSort → Pat → Pat → PatStatement
equal_at t x y = relation_at Eq t x y

abbrev pub pattern_equation : PatStatement → Bool
pattern_equation p = is_eq_rel p.rel

abbrev pub put_before : Option PatStatement → Option (List PatStatement) → Option (List PatStatement)
put_before None o = None
put_before (Some p) None = None
put_before (Some p) (Some ps) = Some (p ∷ ps)

-- the statements of earlier lines, if all are there
abbrev pub lines_at : List PatStatement → List ℕ → Option (List PatStatement)
lines_at done [] = Some []
lines_at done (i ∷ is) = put_before (line_at done i) (lines_at done is)

abbrev pub flipped : PatStatement → Option PatStatement
flipped a = only_where (pattern_equation a) (Some (equal_at a.sort a.rhs a.lhs))

abbrev pub chained : PatStatement → PatStatement → Option PatStatement
chained a b =
    only_where ((pattern_equation a && pattern_equation b) && pattern_same a.rhs b.lhs) (Some (equal_at a.sort a.lhs b.rhs))

abbrev pub replaced : PatStatement → PatStatement → PatStatement → Option PatStatement
replaced a b c =
    only_where ((pattern_equation b && pattern_equation c) && (pattern_same a.lhs b.lhs && pattern_same a.rhs c.lhs))
    (Some (relation_at a.rel a.sort b.rhs c.rhs))

abbrev pub equations_only : List PatStatement → Bool
equations_only [] = true
equations_only (a ∷ rest) = pattern_equation a && equations_only rest

abbrev pub left_patterns : List PatStatement → Pats
left_patterns [] = PNil
left_patterns (a ∷ rest) = PCons a.lhs (left_patterns rest)

abbrev pub right_patterns : List PatStatement → Pats
right_patterns [] = PNil
right_patterns (a ∷ rest) = PCons a.rhs (right_patterns rest)

-- the kind of the first argument that has the kind of the value
abbrev pub same_kind : List Place → List PatSort → Option PatSort
same_kind [] us = None
same_kind (p ∷ ps) [] = None
same_kind (Same ∷ ps) (u ∷ us) = Some u
same_kind (OfNat ∷ ps) (u ∷ us) = same_kind ps us
same_kind (OfInt ∷ ps) (u ∷ us) = same_kind ps us

abbrev pub under : Sym → List PatStatement → Option PatStatement
under f ls =
    then_with (same_kind (places f) (kinds_of (left_patterns ls))) (λ t.
    only_where (equations_only ls) (Some (equal_at t (PApp f t (left_patterns ls)) (PApp f t (right_patterns ls)))))

-- a pattern of its kind for each letter of a row that is taken at a kind
abbrev pub letters_match : PatSort → List ℕ → List Pat → Bool
letters_match t [] [] = true
letters_match t [] (p ∷ ps) = false
letters_match t (k ∷ ks) [] = false
letters_match t (k ∷ ks) (p ∷ ps) = kind_same (kind_of p) (letter_kind t k) && letters_match t ks ps

-- the conclusion of a row at a kind, for these patterns, from these lines
abbrev pub row_at : List Need → List ℕ → Row → PatSort → List Pat → List PatStatement → Option PatStatement
row_at ns ks r t ps ls =
    only_where ((letters_match t (letters_of r) ps && all_fit ns ks (parts ps)) && (needs_met ns t r.needs && pattern_statements_same ls (map (put_statement (letters_of r) t ps) r.premises)))
    (Some (put_statement (letters_of r) t ps r.conclusion))

abbrev pub cited : List Row → List Need → List ℕ → List PatStatement → List ℕ → PatSort → List Pat → List ℕ → Option PatStatement
cited rows ns ks done name t ps is =
    then_with (lines_at done is) (λ ls. then_with (row_named rows name) (λ r. row_at ns ks r t ps ls))

abbrev pub literal_sum_at : List Need → PatSort → ℕ → ℕ → Option PatStatement
literal_sum_at ns t m n =
    only_where (kind_has ns t Semiring && (is_small m && is_small n && is_small (m + n)))
    (Some (equal_at t (PApp sym.Add t (PCons (PLit t m) (PCons (PLit t n) PNil))) (PLit t (m + n))))

abbrev pub literal_product_at : List Need → PatSort → ℕ → ℕ → Option PatStatement
literal_product_at ns t m n =
    only_where (kind_has ns t Semiring && (is_small m && is_small n && is_small (m * n)))
    (Some (equal_at t (PApp sym.Mul t (PCons (PLit t m) (PCons (PLit t n) PNil))) (PLit t (m * n))))

-- of the relations between literals only `≠` is taken in the proof of a lemma
abbrev pub literal_relation_at : List Need → Rel → PatSort → ℕ → ℕ → Option PatStatement
literal_relation_at ns Ne t m n =
    only_where (kind_has ns t CharZero && (is_small m && is_small n && not (nat_eq m n))) (Some (relation_at Ne t (PLit t m) (PLit t n)))
literal_relation_at ns Eq t m n = None
literal_relation_at ns Lt t m n = None
literal_relation_at ns Le t m n = None
literal_relation_at ns Dvd t m n = None

-- the two sides of a bridge for a literal and a pattern of a kind
abbrev pub bridge_sides : BridgeKind → ℕ → Pat → PatSort → PatStatement
bridge_sides Smul n x t =
    equal_at t (PApp sym.Nsmul t (PCons (PLit of.Nat n) (PCons x PNil))) (PApp sym.Mul t (PCons (PLit t n) (PCons x PNil)))
bridge_sides Zsmul n x t =
    equal_at t (PApp sym.Zsmul t (PCons (PLit of.Int n) (PCons x PNil))) (PApp sym.Nsmul t (PCons (PLit of.Nat n) (PCons x PNil)))
bridge_sides Zpow n x t =
    equal_at t (PApp sym.Zpow t (PCons x (PCons (PLit of.Int n) PNil))) (PApp sym.Npow t (PCons x (PCons (PLit of.Nat n) PNil)))

abbrev pub bridge_kind_has : List Need → BridgeKind → PatSort → Bool
bridge_kind_has ns Smul t = kind_has ns t Semiring
bridge_kind_has ns Zsmul t = kind_has ns t AddGroup
bridge_kind_has ns Zpow t = kind_has ns t Group || kind_has ns t Field

abbrev pub bridge_at : List Need → List ℕ → BridgeKind → ℕ → Pat → Option PatStatement
bridge_at ns ks k n x =
    only_where ((fits ns ks x && bridge_kind_has ns k (kind_of x)) && is_small n) (Some (bridge_sides k n x (kind_of x)))

-- what a line says; no lemma is proved by a computation
abbrev pub said : List Row → List Need → List ℕ → List PatStatement → PatStep → Option PatStatement
said rows ns ks done (Refl x) = Some (equal_at (kind_of x) x x)
said rows ns ks done (Symm i) = then_with (line_at done i) flipped
said rows ns ks done (Trans i j) = then_with (line_at done i) (λ a. then_with (line_at done j) (chained a))
said rows ns ks done (Cong f is) = then_with (lines_at done is) (under f)
said rows ns ks done (Subst i j k) =
    then_with (line_at done i) (λ a. then_with (line_at done j) (λ b. then_with (line_at done k) (replaced a b)))
said rows ns ks done (Law n t ps is) = cited law_table ns ks done n t ps is
said rows ns ks done (Lemma n t ps is) = cited rows ns ks done n t ps is
said rows ns ks done (LitAdd t m n) = literal_sum_at ns t m n
said rows ns ks done (LitMul t m n) = literal_product_at ns t m n
said rows ns ks done (LitRel r t m n) = literal_relation_at ns r t m n
said rows ns ks done (Bridge k n x) = bridge_at ns ks k n x
said rows ns ks done (Compute h t xs) = None

-- a statement that fits
abbrev pub fitting : List Need → List ℕ → PatStatement → Option PatStatement
fitting ns ks p = only_where (statement_fits ns ks p) (Some p)

-- what a line concludes, where these rows are known as lemmas
abbrev pub conclude_pattern : List Row → List Need → List ℕ → List PatStatement → PatStep → Option PatStatement
conclude_pattern rows ns ks done l = then_with (said rows ns ks done l) (fitting ns ks)

-- the conclusions of all lines after these
abbrev pub conclusions : List Row → List Need → List ℕ → List PatStatement → List PatStep → Option (List PatStatement)
conclusions rows ns ks done [] = Some done
conclusions rows ns ks done (l ∷ ls) =
    then_with (conclude_pattern rows ns ks done l) (λ p. conclusions rows ns ks (done ++ p ∷ []) ls)

abbrev pub is_conclusion : PatStatement → Option PatStatement → Bool
is_conclusion c None = false
is_conclusion c (Some p) = pattern_statement_same p c

abbrev pub ends_with : PatStatement → Option (List PatStatement) → Bool
ends_with c None = false
ends_with c (Some done) = is_conclusion c (slice_get done (length done - 1))

-- the lines lead from the premises of the row to its conclusion, where these rows are known as lemmas
abbrev pub proves : List Row → Row → List PatStep → Bool
proves rows r ls =
    statements_fit r.needs (letters_of r) r.premises
    && ends_with r.conclusion (conclusions rows r.needs (letters_of r) r.premises ls)

-- the lemma has a new name, and its lines prove it from the laws and these rows
abbrev pub may_join : List Row → LemmaRow → Bool
may_join rows l = is_none (row_named rows (lemma_row_of l).name) && proves rows (lemma_row_of l) (proof_of l)

-- each of these lemmas may join these rows and the lemmas before it
abbrev pub all_may_join : List Row → List LemmaRow → Bool
all_may_join rows [] = true
all_may_join rows (l ∷ ls) = may_join rows l && all_may_join (rows ++ lemma_row_of l ∷ []) ls

-- each lemma of these groups may join these rows and the lemmas before it
abbrev pub groups_may_join : List Row → List (List LemmaRow) → Bool
groups_may_join rows [] = true
groups_may_join rows (g ∷ gs) = all_may_join rows g && groups_may_join (rows ++ map lemma_row_of g) gs
