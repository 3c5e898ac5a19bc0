-- Patterns put for the letters of a pattern.
use Rattle.std.specs.Prelude.{ℕ, List, get_or}
use Rattle.alg_law.specs.declared.patterns.PatSort.{PatSort}
use Rattle.alg_law.specs.declared.patterns.PatSort.TheVariants as of
use Rattle.alg_law.specs.Patterns.{Pat, Letter, PLit, PApp, Pats, PNil, PCons, PatStatement, index_in}

-- the kind that a part of a row has where the row is taken at a kind
abbrev pub kind_at : PatSort → PatSort → PatSort
kind_at t of.S = t
kind_at t of.Nat = of.Nat
kind_at t of.Int = of.Int

-- a pattern of a row that is taken at a kind, where these letters stand for these patterns in order
abbrev mutual
  pub put : List ℕ → PatSort → List Pat → Pat → Pat
  put ls t ps (Letter k) = get_or ps (index_in ls k) (PLit of.Nat 0)
  put ls t ps (PLit u n) = PLit (kind_at t u) n
  put ls t ps (PApp f u qs) = PApp f (kind_at t u) (put_all ls t ps qs)

  pub put_all : List ℕ → PatSort → List Pat → Pats → Pats
  put_all ls t ps PNil = PNil
  put_all ls t ps (PCons q qs) = PCons (put ls t ps q) (put_all ls t ps qs)

abbrev pub put_statement : List ℕ → PatSort → List Pat → PatStatement → PatStatement
put_statement ls t ps p =
    record { rel = p.rel; sort = kind_at t p.sort; lhs = put ls t ps p.lhs; rhs = put ls t ps p.rhs }
