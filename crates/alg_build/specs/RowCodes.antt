-- Rows as values of a model: their patterns have a code, from which they can be read back.
use Rattle.std.specs.Prelude.{◌≡◌, ℕ, zero, suc, refl, List}
use Rattle.std.proofs.Common.{ap, sym, ◌∙◌}
use base.Stored.{Gv, gnil, gnum, gcons}
use Rattle.std.specs.Coded.{Coded, code_by, coded_ℕ, coded×, coded_list}
use Rattle.alg_terms.specs.Keys.{sym_key, sym_at, sym_at-sym_key, rel_key, rel_at, rel_at-rel_key}
use Rattle.alg_terms.specs.Code.{number, first, second}
use Rattle.alg_law.specs.declared.patterns.PatSort.{PatSort}
use Rattle.alg_law.specs.declared.patterns.PatSort.TheVariants as of
use Rattle.alg_law.specs.declared.rows.Need.{Need}
use Rattle.alg_law.specs.declared.rows.Need.TheVariants as need
use Rattle.alg_law.specs.Classes.{class_key, class_at, class_at-class_key}
use Rattle.alg_law.specs.Patterns.{Pat, Letter, PLit, PApp, Pats, PNil, PCons, PatStatement}
use Rattle.alg_law.specs.Rows.{Row}
use Rattle.alg_lemma.specs.Kinds.{kind_key}

abbrev pub pat_sort_at : ℕ → PatSort
pat_sort_at zero = of.S
pat_sort_at (suc zero) = of.Nat
pat_sort_at (suc (suc k)) = of.Int

pub pat_sort_at-key : (s : PatSort) → pat_sort_at (kind_key s) ≡ s
pat_sort_at-key of.S = refl
pat_sort_at-key of.Nat = refl
pat_sort_at-key of.Int = refl

abbrev pub need_key : Need → ℕ
need_key (need.Class c) = suc (class_key c)
need_key need.IsNat = 0

abbrev pub need_at : ℕ → Need
need_at zero = need.IsNat
need_at (suc k) = need.Class (class_at k)

pub need_at-key : (n : Need) → need_at (need_key n) ≡ n
need_at-key (need.Class c) = ap need.Class (class_at-class_key c)
need_at-key need.IsNat = refl

-- a letter begins with 0, a literal with 1, a compound with its symbol and sort
abbrev mutual
  pub pat_store : Pat → Gv
  pat_store (Letter k) = gcons (gnum 0) (gcons (gnum k) (gnum 0))
  pat_store (PLit s n) = gcons (gnum 1) (gcons (gnum (kind_key s)) (gnum n))
  pat_store (PApp f s ps) = gcons (gcons (gnum (sym_key f)) (gnum (kind_key s))) (pats_store ps)

  pub pats_store : Pats → Gv
  pats_store PNil = gnil
  pats_store (PCons p ps) = gcons (pat_store p) (pats_store ps)

abbrev pub leaf : ℕ → Gv → Pat
leaf zero g = Letter (number (first g))
leaf (suc n) g = PLit (pat_sort_at (number (first g))) (number (second g))

abbrev pub pat_from : Gv → Gv → Pats → Pat
pat_from gnil b ps = Letter 0
pat_from (gnum n) b ps = leaf n b
pat_from (gcons f s) b ps = PApp (sym_at (number f)) (pat_sort_at (number s)) ps

abbrev mutual
  pub pat_back : Gv → Pat
  pat_back gnil = Letter 0
  pat_back (gnum n) = Letter 0
  pat_back (gcons a b) = pat_from a b (pats_back b)

  pub pats_back : Gv → Pats
  pats_back gnil = PNil
  pats_back (gnum n) = PNil
  pats_back (gcons a b) = PCons (pat_back a) (pats_back b)

-- reading a code gives the pattern back
mutual
  pub pat_back-store : (p : Pat) → pat_back (pat_store p) ≡ p
  pat_back-store (Letter k) = refl
  pat_back-store (PLit s n) = ap (λ t. PLit t n) (pat_sort_at-key s)
  pat_back-store (PApp f s ps) = λ i. PApp (sym_at-sym_key f i) (pat_sort_at-key s i) (pats_back-store ps i)

  pub pats_back-store : (ps : Pats) → pats_back (pats_store ps) ≡ ps
  pats_back-store PNil = refl
  pats_back-store (PCons p ps) = λ i. PCons (pat_back-store p i) (pats_back-store ps i)

abbrev pub pat_code : Coded Pat
pat_code = record { code = pat_store; inj = λ p q e. sym (pat_back-store p) ∙ ap pat_back e ∙ pat_back-store q }

abbrev pub pat_statement_code : Coded PatStatement
pat_statement_code =
    code_by (ℕ × (ℕ × (Pat × Pat))) (coded× coded_ℕ (coded× coded_ℕ (coded× pat_code pat_code)))
    (λ s. (rel_key s.rel, (kind_key s.sort, (s.lhs, s.rhs))))
    (λ p. record { rel = rel_at p.0; sort = pat_sort_at p.1.0; lhs = p.1.1.0; rhs = p.1.1.1 })
    (λ s i. record { rel = rel_at-rel_key s.rel i; sort = pat_sort_at-key s.sort i; lhs = s.lhs; rhs = s.rhs })

abbrev pub need_code : Coded Need
need_code = code_by ℕ coded_ℕ need_key need_at need_at-key

abbrev pub row_code : Coded Row
row_code =
    code_by (List ℕ × (List Need × (List PatStatement × PatStatement)))
    (coded× (coded_list coded_ℕ) (coded× (coded_list need_code) (coded× (coded_list pat_statement_code) pat_statement_code)))
    (λ r. (r.name, (r.needs, (r.premises, r.conclusion))))
    (λ p. record { name = p.0; needs = p.1.0; premises = p.1.1.0; conclusion = p.1.1.1 })
    (λ r. refl)
