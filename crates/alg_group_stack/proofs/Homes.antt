-- The sort of a goal and its literal 1, as the book grows.
use Rattle.std.proofs.Common.{◌≡◌, ℕ, refl, ap, ◌∙◌, sym, true, List, [], ◌∷◌}
use Rattle.std.specs.Prelude.{◌||◌}
use Rattle.alg_terms.specs.declared.sorts.Sort.{Sort}
use Rattle.alg_terms.specs.declared.sorts.Sort.TheVariants.{Nat, Int}
use Rattle.alg_terms.specs.declared.symbols.Sym.TheVariants.{Mul, Inv, Div, Npow, Zpow}
use Rattle.alg_terms.specs.Tree.{Tree, Lit}
use Rattle.alg_terms.proofs.OrderLaws.{sort_same-self}
use Rattle.alg_expr.specs.declared.ids.ExprId.{ExprId}
use Rattle.alg_expr.specs.Ids.{tree_of}
use Rattle.alg_law.specs.declared.classes.Class.{Class}
use Rattle.alg_law.specs.declared.classes.Class.TheVariants.{Semigroup, Monoid, Group, Field}
use Rattle.alg_law.specs.declared.marks.Mark.TheVariants.{Good}
use Rattle.alg_law.specs.Having.{has_class}
use Rattle.alg_law.specs.WellSorted.{sort_mark, head_mark}
use Rattle.alg_law.proofs.HavingLaws.{has_class-all}
use Rattle.alg_lemma.specs.Library.{HoldsLibrary}
use Rattle.alg_build.specs.Book.{Book, Grows}
use Rattle.alg_build.specs.Rewriting.{Stands, Turns, Heads}
use Rattle.alg_build.specs.declared.rewriting.Rewriting.{Rewriting}
use Rattle.alg_build.proofs.Rewritings.{rewritings, grows-stands}
use Rattle.alg_build.proofs.RowFacts.{grows-library}
use Rattle.alg_numerals.proofs.WholeLemmas.{wholes}
use Rattle.alg_group_stack.specs.declared.syllable.Home.{Home}
use Rattle.alg_group_stack.specs.Words.{IsHome}

pub grows-home : (a b : Book) (h : Home) → Grows a b → IsHome a h → IsHome b h
grows-home a b h g m = record { known = rw g.theory m.known; group = rw g.theory m.group; library = grows-library a b g m.library; one = grows-stands a b g h.sort h.one _ m.one }

or_left : (a b : _) → a ≡ true → (a || b) ≡ true
or_left a b e = rw e refl

module _ (b : Book) (h : Home) (m : IsHome b h) where
  pub home-known : sort_mark b.theory.declarations h.sort ≡ Good
  home-known = m.known

  pub home-group : has_class b.theory.declarations h.sort Group ≡ true
  home-group = m.group

  pub home-library : HoldsLibrary b.theory.lemmas
  home-library = m.library

  pub home-monoid : has_class b.theory.declarations h.sort Monoid ≡ true
  home-monoid = has_class-all b.theory.declarations h.sort Group Monoid refl m.group

  pub home-semigroup : has_class b.theory.declarations h.sort Semigroup ≡ true
  home-semigroup = has_class-all b.theory.declarations h.sort Group Semigroup refl m.group

  pub home-inverses : (has_class b.theory.declarations h.sort Group || has_class b.theory.declarations h.sort Field) ≡ true
  home-inverses = or_left (has_class b.theory.declarations h.sort Group) (has_class b.theory.declarations h.sort Field) m.group

  pub head-product : Heads b Mul h.sort (h.sort ∷ h.sort ∷ [])
  head-product = record { good = rw (m.known, sort_same-self h.sort, home-semigroup) refl }

  pub head-quotient : Heads b Div h.sort (h.sort ∷ h.sort ∷ [])
  head-quotient = record { good = rw (m.known, sort_same-self h.sort, home-inverses) refl }

  pub head-inverse : Heads b Inv h.sort (h.sort ∷ [])
  head-inverse = record { good = rw (m.known, sort_same-self h.sort, home-inverses) refl }

  pub head-power : Heads b Npow h.sort (h.sort ∷ Nat ∷ [])
  head-power = record { good = rw (m.known, sort_same-self h.sort, home-monoid) refl }

  pub head-integer_power : Heads b Zpow h.sort (h.sort ∷ Int ∷ [])
  head-integer_power = record { good = rw (m.known, sort_same-self h.sort, home-inverses) refl }

-- an id stands for its tree
pub own-stands : (b : Book) (s : Sort) (e : ExprId) (t : Tree) → Stands b s e t → Stands b s e (tree_of b.trees e)
own-stands b s e t h = rw h.tree h

pub own-turns : (b : Book) (s : Sort) (r : Rewriting) (t u : Tree) → Turns b s r t u → Turns b s r t (tree_of b.trees r.to)
own-turns b s r t u h = rw h.tree h

pub ruleset homes = (rewritings, grows-home, home-known, home-group, home-library, home-monoid, home-semigroup, own-stands, own-turns)

pub ruleset powers = (wholes, grows-home, home-known, home-group, home-library, home-monoid)
