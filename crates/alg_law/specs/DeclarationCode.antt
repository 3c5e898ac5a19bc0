-- Declarations as values of a model.
use Rattle.std.specs.Prelude.{◌≡◌, ℕ, zero, suc, refl, List, []}
use Rattle.std.specs.Coded.{Coded, code_by, coded_ℕ, coded×, coded_list}
use Rattle.alg_terms.specs.declared.sorts.Sort.{Sort}
use Rattle.alg_terms.specs.declared.sorts.Sort.TheVariants.{Nat}
use Rattle.alg_terms.specs.declared.relations.Rel.TheVariants.{Eq}
use Rattle.alg_terms.specs.Keys.{sort_key, sort_at, sort_at-sort_key}
use Rattle.alg_terms.specs.Tree.{Lit, Statement}
use Rattle.alg_terms.specs.Code.{statement_code}
use Rattle.alg_law.specs.Classes.{class_key, class_at, class_at-class_key}
use Rattle.alg_law.specs.Declarations.{Declaration, Carrier, Instance, Variable, Function, Hypothesis}

abbrev pub sort_code : Coded Sort
sort_code = code_by ℕ coded_ℕ sort_key sort_at sort_at-sort_key

-- kind, name, number, sorts, sort, statement
abbrev pub Flat : Type 0
Flat = ℕ × (List ℕ × (ℕ × (List Sort × (Sort × Statement))))

abbrev pub no_statement : Statement
no_statement = record { rel = Eq; sort = Nat; lhs = Lit Nat 0; rhs = Lit Nat 0 }

abbrev pub flat : Declaration → Flat
flat (Carrier n) = (0, (n, (0, ([], (Nat, no_statement)))))
flat (Instance k c) = (1, ([], (k, ([], (sort_at (class_key c), no_statement)))))
flat (Variable n s) = (2, (n, (0, ([], (s, no_statement)))))
flat (Function n ss s) = (3, (n, (0, (ss, (s, no_statement)))))
flat (Hypothesis n h) = (4, (n, (0, ([], (Nat, h)))))

abbrev pub by_kind : ℕ → List ℕ → ℕ → List Sort → Sort → Statement → Declaration
by_kind zero n k ss s h = Carrier n
by_kind (suc zero) n k ss s h = Instance k (class_at (sort_key s))
by_kind (suc (suc zero)) n k ss s h = Variable n s
by_kind (suc (suc (suc zero))) n k ss s h = Function n ss s
by_kind (suc (suc (suc (suc m)))) n k ss s h = Hypothesis n h

abbrev pub unflat : Flat → Declaration
unflat p = by_kind p.0 p.1.0 p.1.1.0 p.1.1.1.0 p.1.1.1.1.0 p.1.1.1.1.1

pub sort_key-sort_at : (n : ℕ) → sort_key (sort_at n) ≡ n
sort_key-sort_at zero = refl
sort_key-sort_at (suc zero) = refl
sort_key-sort_at (suc (suc zero)) = refl
sort_key-sort_at (suc (suc (suc k))) = refl

pub unflat-flat : (d : Declaration) → unflat (flat d) ≡ d
unflat-flat (Carrier n) = refl
unflat-flat (Instance k c) = rw (sort_key-sort_at (class_key c), class_at-class_key c) refl
unflat-flat (Variable n s) = refl
unflat-flat (Function n ss s) = refl
unflat-flat (Hypothesis n h) = refl

abbrev pub declaration_code : Coded Declaration
declaration_code = code_by Flat (coded× coded_ℕ (coded× (coded_list coded_ℕ) (coded× coded_ℕ (coded× (coded_list sort_code) (coded× sort_code statement_code))))) flat unflat unflat-flat
