-- The rows that the laws of the code stand for: their nodes are patterns in prefix form.
use Rattle.std.specs.Prelude.{List, [], ◌∷◌, map, length, take, drop}
use Rattle.alg_terms.specs.Symbols.{places}
use Rattle.alg_law.specs.declared.patterns.PatSort.TheVariants as of
use Rattle.alg_law.specs.declared.patterns.Pat.{Pat as Node}
use Rattle.alg_law.specs.declared.patterns.Pat.TheVariants as node
use Rattle.alg_law.specs.declared.patterns.PatStmt.{PatStmt}
use Rattle.alg_law.specs.declared.rows.Law.{Law}
use Rattle.alg_law.specs.Patterns.{Pat, Letter, PLit, PApp, Pats, PNil, PCons, PatStatement}
use Rattle.alg_law.specs.Rows.{Row}

abbrev pub parts : List Pat → Pats
parts [] = PNil
parts (p ∷ ps) = PCons p (parts ps)

-- a node before the patterns that follow it; a symbol takes as many of them as it has places
abbrev pub put : Node → List Pat → List Pat
put (node.Letter k) ps = Letter k ∷ ps
put (node.Lit s n) ps = PLit s n ∷ ps
put (node.App f s) ps = PApp f s (parts (take (length (places f)) ps)) ∷ drop (length (places f)) ps

-- the patterns that a list of nodes spells
abbrev pub patterns : List Node → List Pat
patterns [] = []
patterns (n ∷ ns) = put n (patterns ns)

-- the first of these patterns; where there is none, the literal 0 of ℕ
abbrev pub first_of : List Pat → Pat
first_of [] = PLit of.Nat 0
first_of (p ∷ ps) = p

abbrev pub pattern_of : PatStmt → PatStatement
pattern_of p =
    record {
      rel = p.rel;
      sort = p.sort;
      lhs = first_of (patterns p.nodes.now);
      rhs = first_of (drop 1 (patterns p.nodes.now));
    }

abbrev pub row_of : Law → Row
row_of l =
    record {
      name = l.name.now;
      needs = l.needs.now;
      premises = map pattern_of l.premises.now;
      conclusion = pattern_of l.conclusion;
    }
