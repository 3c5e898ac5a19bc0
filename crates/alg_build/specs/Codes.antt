-- Proof steps, theories and books as values of a model.
use Rattle.std.specs.Prelude.{◌≡◌, ℕ, zero, suc, refl, ℤ, List, [], ◌∷◌, get_or, Option}
use Rattle.std.specs.Coded.{Coded, code_by, coded_ℕ, coded_ℤ, coded×, coded_list, coded_option}
use Rattle.alg_terms.specs.Keys.{sort_key, sort_at, sort_at-sort_key, sym_key, sym_at, sym_at-sym_key, rel_key, rel_at, rel_at-rel_key}
use Rattle.alg_terms.specs.Tree.{Tree, Statement}
use Rattle.alg_terms.specs.Code.{tree_code, statement_code}
use Rattle.alg_law.specs.Declarations.{Declaration}
use Rattle.alg_law.specs.DeclarationCode.{declaration_code}
use Rattle.alg_law.specs.Rows.{Row}
use Rattle.alg_proof.specs.declared.lines.BridgeKind.{BridgeKind}
use Rattle.alg_proof.specs.declared.lines.BridgeKind.TheVariants.{Smul, Zsmul, Zpow}
use Rattle.alg_proof.specs.declared.lines.ComputeHead.{ComputeHead}
use Rattle.alg_proof.specs.declared.lines.ComputeHead.TheVariants as head
use Rattle.alg_proof.specs.Steps.{Theory, Step, Refl, Symm, Trans, Cong, Subst, Law, Lemma, Hyp, Rest, LitAdd, LitMul, LitRel, Bridge, Compute}
use Rattle.alg_build.specs.Book.{Book, nothing}
use Rattle.alg_build.specs.RowCodes.{row_code}

abbrev pub bridge_key : BridgeKind → ℕ
bridge_key Smul = 0
bridge_key Zsmul = 1
bridge_key Zpow = 2

abbrev pub bridge_at : ℕ → BridgeKind
bridge_at zero = Smul
bridge_at (suc zero) = Zsmul
bridge_at (suc (suc k)) = Zpow

pub bridge_at-key : (k : BridgeKind) → bridge_at (bridge_key k) ≡ k
bridge_at-key Smul = refl
bridge_at-key Zsmul = refl
bridge_at-key Zpow = refl

abbrev pub head_key : ComputeHead → ℕ
head_key (head.Named f) = suc (sym_key f)
head_key head.Dvd = 0

abbrev pub head_at : ℕ → ComputeHead
head_at zero = head.Dvd
head_at (suc k) = head.Named (sym_at k)

pub head_at-key : (h : ComputeHead) → head_at (head_key h) ≡ h
head_at-key (head.Named f) = λ i. head.Named (sym_at-sym_key f i)
head_at-key head.Dvd = refl

-- kind, numbers, trees, and the integers of a computation; a name comes apart
abbrev pub Flat : Type 0
Flat = ℕ × (List ℕ × (List Tree × (List ℕ × List ℤ)))

abbrev pub flat : Step → Flat
flat (Refl t) = (0, ([], (t ∷ [], ([], []))))
flat (Symm i) = (1, (i ∷ [], ([], ([], []))))
flat (Trans i j) = (2, (i ∷ j ∷ [], ([], ([], []))))
flat (Cong f is) = (3, (sym_key f ∷ is, ([], ([], []))))
flat (Subst i j k) = (4, (i ∷ j ∷ k ∷ [], ([], ([], []))))
flat (Law n s xs is) = (5, (sort_key s ∷ is, (xs, (n, []))))
flat (Lemma n s xs is) = (6, (sort_key s ∷ is, (xs, (n, []))))
flat (Hyp n) = (7, (n ∷ [], ([], ([], []))))
flat Rest = (8, ([], ([], ([], []))))
flat (LitAdd s m n) = (9, (sort_key s ∷ m ∷ n ∷ [], ([], ([], []))))
flat (LitMul s m n) = (10, (sort_key s ∷ m ∷ n ∷ [], ([], ([], []))))
flat (LitRel r s m n) = (11, (sort_key s ∷ m ∷ n ∷ rel_key r ∷ [], ([], ([], []))))
flat (Bridge k n t) = (12, (bridge_key k ∷ n ∷ [], (t ∷ [], ([], []))))
flat (Compute h s xs) = (13, (head_key h ∷ sort_key s ∷ [], ([], ([], xs))))

-- the number at a place
abbrev pub nth : List ℕ → ℕ → ℕ
nth ns i = get_or ns i 0

abbrev pub after_first : List ℕ → List ℕ
after_first [] = []
after_first (n ∷ ns) = ns

abbrev pub tree_in : List Tree → Tree
tree_in [] = nothing
tree_in (t ∷ ts) = t

abbrev pub by_kind : ℕ → List ℕ → List Tree → List ℕ → List ℤ → Step
by_kind zero ns ts name xs = Refl (tree_in ts)
by_kind (suc zero) ns ts name xs = Symm (nth ns 0)
by_kind (suc (suc zero)) ns ts name xs = Trans (nth ns 0) (nth ns 1)
by_kind (suc (suc (suc zero))) ns ts name xs = Cong (sym_at (nth ns 0)) (after_first ns)
by_kind (suc (suc (suc (suc zero)))) ns ts name xs = Subst (nth ns 0) (nth ns 1) (nth ns 2)
by_kind (suc (suc (suc (suc (suc zero))))) ns ts name xs = Law name (sort_at (nth ns 0)) ts (after_first ns)
by_kind (suc (suc (suc (suc (suc (suc zero)))))) ns ts name xs = Lemma name (sort_at (nth ns 0)) ts (after_first ns)
by_kind (suc (suc (suc (suc (suc (suc (suc zero))))))) ns ts name xs = Hyp (nth ns 0)
by_kind (suc (suc (suc (suc (suc (suc (suc (suc zero)))))))) ns ts name xs = Rest
by_kind (suc (suc (suc (suc (suc (suc (suc (suc (suc zero))))))))) ns ts name xs = LitAdd (sort_at (nth ns 0)) (nth ns 1) (nth ns 2)
by_kind (suc (suc (suc (suc (suc (suc (suc (suc (suc (suc zero)))))))))) ns ts name xs = LitMul (sort_at (nth ns 0)) (nth ns 1) (nth ns 2)
by_kind (suc (suc (suc (suc (suc (suc (suc (suc (suc (suc (suc zero))))))))))) ns ts name xs = LitRel (rel_at (nth ns 3)) (sort_at (nth ns 0)) (nth ns 1) (nth ns 2)
by_kind (suc (suc (suc (suc (suc (suc (suc (suc (suc (suc (suc (suc zero)))))))))))) ns ts name xs = Bridge (bridge_at (nth ns 0)) (nth ns 1) (tree_in ts)
by_kind (suc (suc (suc (suc (suc (suc (suc (suc (suc (suc (suc (suc (suc k))))))))))))) ns ts name xs = Compute (head_at (nth ns 0)) (sort_at (nth ns 1)) xs

abbrev pub unflat : Flat → Step
unflat p = by_kind p.0 p.1.0 p.1.1.0 p.1.1.1.0 p.1.1.1.1

pub unflat-flat : (s : Step) → unflat (flat s) ≡ s
unflat-flat (Refl t) = refl
unflat-flat (Symm i) = refl
unflat-flat (Trans i j) = refl
unflat-flat (Cong f is) = λ i. Cong (sym_at-sym_key f i) is
unflat-flat (Subst i j k) = refl
unflat-flat (Law n s xs is) = λ i. Law n (sort_at-sort_key s i) xs is
unflat-flat (Lemma n s xs is) = λ i. Lemma n (sort_at-sort_key s i) xs is
unflat-flat (Hyp n) = refl
unflat-flat Rest = refl
unflat-flat (LitAdd s m n) = λ i. LitAdd (sort_at-sort_key s i) m n
unflat-flat (LitMul s m n) = λ i. LitMul (sort_at-sort_key s i) m n
unflat-flat (LitRel r s m n) = λ i. LitRel (rel_at-rel_key r i) (sort_at-sort_key s i) m n
unflat-flat (Bridge k n t) = λ i. Bridge (bridge_at-key k i) n t
unflat-flat (Compute h s xs) = λ i. Compute (head_at-key h i) (sort_at-sort_key s i) xs

abbrev pub step_code : Coded Step
step_code = code_by Flat (coded× coded_ℕ (coded× (coded_list coded_ℕ) (coded× (coded_list tree_code) (coded× (coded_list coded_ℕ) (coded_list coded_ℤ))))) flat unflat unflat-flat

abbrev pub theory_code : Coded Theory
theory_code =
    code_by (List Declaration × (List Row × Option Statement))
    (coded× (coded_list declaration_code) (coded× (coded_list row_code) (coded_option statement_code)))
    (λ t. (t.declarations, (t.lemmas, t.given)))
    (λ p. record { declarations = p.0; lemmas = p.1.0; given = p.1.1 })
    (λ t. refl)

abbrev pub book_code : Coded Book
book_code =
    code_by (Theory × (List Tree × (List Step × (List Statement × List Tree))))
    (coded× theory_code (coded× (coded_list tree_code) (coded× (coded_list step_code) (coded× (coded_list statement_code) (coded_list tree_code)))))
    (λ b. (b.theory, (b.trees, (b.steps, (b.done, b.atoms)))))
    (λ p. record { theory = p.0; trees = p.1.0; steps = p.1.1.0; done = p.1.1.1.0; atoms = p.1.1.1.1 })
    (λ b. refl)
