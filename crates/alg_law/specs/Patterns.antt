-- Patterns of trees and statements, and the trees that fill them.
use Rattle.std.specs.Prelude.{ℕ, suc, Bool, false, ◌||◌, if◌then◌else◌, nat_eq, nat_lt, List, [], ◌∷◌, get_or}
use Rattle.alg_terms.specs.declared.sorts.Sort.{Sort}
use Rattle.alg_terms.specs.declared.sorts.Sort.TheVariants.{Nat, Int}
use Rattle.alg_terms.specs.declared.symbols.Sym.{Sym}
use Rattle.alg_terms.specs.declared.relations.Rel.{Rel}
use Rattle.alg_terms.specs.Tree.{Tree, Lit, App, Trees, Nil, Cons, Statement}
use Rattle.alg_law.specs.declared.patterns.PatSort.{PatSort}
use Rattle.alg_law.specs.declared.patterns.PatSort.TheVariants as of

mutual
  -- a letter by its number, a literal, or a symbol over parts
  pub data Pat : Type 0 where
    Letter : ℕ → Pat
    PLit : PatSort → ℕ → Pat
    PApp : Sym → PatSort → Pats → Pat

  pub data Pats : Type 0 where
    PNil : Pats
    PCons : Pat → Pats → Pats

pub record PatStatement : Type 0 where
  pub rel : Rel
  pub sort : PatSort
  pub lhs : Pat
  pub rhs : Pat

abbrev pub sort_for : Sort → PatSort → Sort
sort_for s of.S = s
sort_for s of.Nat = Nat
sort_for s of.Int = Int

-- the letters a, b, c, d are of the instance's sort, m and n of ℕ, i and j of ℤ
abbrev pub letter_sort : Sort → ℕ → Sort
letter_sort s k = if nat_lt k 4 then s else (if nat_lt k 6 then Nat else Int)

abbrev mutual
  pub occurs : ℕ → Pat → Bool
  occurs k (Letter l) = nat_eq k l
  occurs k (PLit p n) = false
  occurs k (PApp f p ps) = occurs_among k ps

  pub occurs_among : ℕ → Pats → Bool
  occurs_among k PNil = false
  occurs_among k (PCons p ps) = occurs k p || occurs_among k ps

abbrev pub occurs_in : ℕ → PatStatement → Bool
occurs_in k p = occurs k p.lhs || occurs k p.rhs

abbrev pub occurs_in_any : ℕ → List PatStatement → Bool
occurs_in_any k [] = false
occurs_in_any k (p ∷ ps) = occurs_in k p || occurs_in_any k ps

-- the letters that occur, in their order
abbrev pub occurring : List ℕ → List PatStatement → List ℕ
occurring [] ps = []
occurring (k ∷ ks) ps = if occurs_in_any k ps then k ∷ occurring ks ps else occurring ks ps

abbrev pub index_in : List ℕ → ℕ → ℕ
index_in [] k = 0
index_in (l ∷ ls) k = if nat_eq l k then 0 else suc (index_in ls k)

-- the tree of a pattern at a sort, where these letters stand for these trees in order
abbrev mutual
  pub fill : List ℕ → Sort → List Tree → Pat → Tree
  fill ls s xs (Letter k) = get_or xs (index_in ls k) (Lit Nat 0)
  fill ls s xs (PLit p n) = Lit (sort_for s p) n
  fill ls s xs (PApp f p ps) = App f (sort_for s p) (fills ls s xs ps)

  pub fills : List ℕ → Sort → List Tree → Pats → Trees
  fills ls s xs PNil = Nil
  fills ls s xs (PCons p ps) = Cons (fill ls s xs p) (fills ls s xs ps)

abbrev pub fill_statement : List ℕ → Sort → List Tree → PatStatement → Statement
fill_statement ls s xs p =
    record {
      rel = p.rel;
      sort = sort_for s p.sort;
      lhs = fill ls s xs p.lhs;
      rhs = fill ls s xs p.rhs;
    }
