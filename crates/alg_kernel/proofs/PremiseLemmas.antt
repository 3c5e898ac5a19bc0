-- Earlier lines are looked up one by one.
use Rattle.std.proofs.Common.{◌≡◌, ℕ, suc, ◌<◌, List, [], ◌∷◌, ◌++◌, get_or, length, drop, drop-cons, refl, ap, sym, append_assoc, Option, Some, None}
use Rattle.std.proofs.lemmas.List.{map-append}
use Rattle.alg_terms.specs.Tree.{Tree, Statement}
use Rattle.alg_expr.specs.declared.ids.Stmt.{Stmt}
use Rattle.alg_expr.specs.Ids.{statement_of, statements_of}
use Rattle.alg_proof.specs.Causes.{line_at, statements_at, join}

-- these, and then those
abbrev pub before : List Statement → Option (List Statement) → Option (List Statement)
before xs None = None
before xs (Some ys) = Some (xs ++ ys)

before-join : (xs : List Statement) (a : Statement) (o : Option (List Statement)) → before xs (join (Some a) o) ≡ before (xs ++ a ∷ []) o
before-join xs a None = refl
before-join xs a (Some ys) = ap Some (sym (append_assoc xs (a ∷ []) ys))

pub before-nothing : (o : Option (List Statement)) → before [] o ≡ o
before-nothing None = refl
before-nothing (Some ys) = refl

module _ (ts : List Tree) (D : List Statement) (found : List Stmt) (lines : List ℕ) (i : ℕ) (d : ℕ) (l : i < length lines) where
  -- one more line was found
  pub found-more : (a : Stmt) → line_at D (get_or lines i d) ≡ Some (statement_of ts a)
      → before (statements_of ts found) (statements_at D (drop i lines)) ≡ before (statements_of ts (found ++ a ∷ [])) (statements_at D (drop (suc i) lines))
  found-more a e =
      let more : statements_of ts (found ++ a ∷ []) ≡ statements_of ts found ++ statement_of ts a ∷ [] = map-append (statement_of ts) found (a ∷ []) in
      rw (drop-cons lines i d l, e, more) (before-join (statements_of ts found) (statement_of ts a) (statements_at D (drop (suc i) lines)))

  -- a line that isn't there
  pub found-none : line_at D (get_or lines i d) ≡ None → before (statements_of ts found) (statements_at D (drop i lines)) ≡ None
  found-none e = rw (drop-cons lines i d l, e) refl
