-- Fractions that aren't below 0, and the sorts that have them, as the book grows.
use Rattle.std.proofs.Common.{◌≡◌, ℕ, zero, suc, ◌*◌, ◌<◌, ◌≤◌, Bool, true, false, List, [], ◌∷◌, ◌||◌, refl, ap, sym, ◌∙◌, arith}
use Rattle.std.proofs.lemmas.Bool.Decides.{nat_tests}
use Rattle.alg_terms.specs.declared.sorts.Sort.{Sort}
use Rattle.alg_terms.specs.declared.symbols.Sym.{Sym}
use Rattle.alg_terms.specs.declared.symbols.Sym.TheVariants.{Div, Mul}
use Rattle.alg_terms.specs.declared.relations.Rel.TheVariants.{Ne}
use Rattle.alg_terms.specs.Tree.{Tree, Lit, App, Cons, Nil, of_list, sort_of_tree}
use Rattle.alg_expr.specs.declared.ids.ExprId.{ExprId}
use Rattle.alg_expr.specs.Applying.{sorts_at, sorts_fit}
use Rattle.alg_expr.specs.Ids.{tree_of, trees_at}
use Rattle.alg_law.specs.declared.classes.Class.TheVariants.{Semigroup, Semiring}
use Rattle.alg_law.specs.declared.marks.Mark.TheVariants.{Good}
use Rattle.alg_law.specs.Declarations.{Declaration}
use Rattle.alg_law.specs.Having.{has_class}
use Rattle.alg_law.specs.WellSorted.{IsWellSorted, head_mark}
use Rattle.alg_law.proofs.HavingLaws.{has_class-all}
use Rattle.alg_proof.specs.LiteralLines.{relation_holds}
use Rattle.alg_build.specs.Book.{Book, Grows, Makes}
use Rattle.alg_build.specs.declared.rewriting.Rewriting.{Rewriting}
use Rattle.alg_build.specs.Rewriting.{Heads, Stands, TurnsIn, over}
use Rattle.alg_build.proofs.Fitting.{fits}
use Rattle.alg_build.proofs.HeadFacts.{div-heads, mul-heads}
use Rattle.alg_build.proofs.Lines.{makes-grows}
use Rattle.alg_build.proofs.Rewritings.{grows-heads, grows-sorted, grows-turns}
use Rattle.alg_rows.specs.Operations.{quotient_tree}
use Rattle.alg_numerals.specs.Numerals.{HasLiterals}
use Rattle.alg_numerals.proofs.LiteralLemmas.{grows-signs}
use Rattle.alg_numerals.proofs.WholeLemmas.{wholes}
use Rattle.alg_numerals.proofs.RelationLemmas.{relations}
use Rattle.alg_fractions.specs.Fractions.{HasQuotients}
use Rattle.alg_fractions.specs.NumeralTree.{over_denominator}

pub grows-quotients : (a b : Book) (g : Grows a b) (s : Sort) → HasQuotients a s → HasQuotients b s
grows-quotients a b g s h = record { signs = grows-signs a b g s h.signs; field = rw g.theory h.field; char_zero = rw g.theory h.char_zero }

-- a symbol over two parts may stand, where the arena takes it

pub two-sorts : (b : Book) (f : Sym) (s : Sort) (e g : ExprId) (x y : Tree) → Stands b s e x → Stands b s g y → Heads b f s (s ∷ s ∷ []) → sorts_fit f s (sorts_at b.trees (e ∷ g ∷ [])) ≡ true
two-sorts b f s e g x y h k m =
    ap (sorts_fit f s) (λ i. (ap sort_of_tree h.tree ∙ h.sort) i ∷ (ap sort_of_tree k.tree ∙ k.sort) i ∷ [])
    ∙ (fits b.theory.declarations f s (s ∷ s ∷ []) m.good).sorts

two-good : (ds : List Declaration) (f : Sym) (s : Sort) (x y : Tree) → head_mark ds f s (sort_of_tree x ∷ sort_of_tree y ∷ []) ≡ Good → IsWellSorted ds x → IsWellSorted ds y → IsWellSorted ds (over f s x y)
two-good ds f s x y h g k = rw (h, g, k) refl

-- the id of a tree of two parts that was made
pub makes-two : (a b : Book) (f : Sym) (s : Sort) (e g i : ExprId) (x y : Tree) → Stands a s e x → Stands a s g y → Heads a f s (s ∷ s ∷ []) → Makes a b i (App f s (of_list (trees_at a.trees (e ∷ g ∷ [])))) → Stands b s i (over f s x y)
makes-two a b f s e g i x y h k m w =
    let grows = makes-grows a b i _ w in
    let first : tree_of a.trees e ≡ x = h.tree in
    let second : tree_of a.trees g ≡ y = k.tree in
    let p : sort_of_tree x ≡ s = h.sort in
    let q : sort_of_tree y ≡ s = k.sort in
    record {
      here = w.here;
      tree = w.tree ∙ (λ j. App f s (Cons (first j) (Cons (second j) Nil)));
      sorted = two-good b.theory.declarations f s x y (rw (p, q) (grows-heads a b f s (s ∷ s ∷ []) grows m).good) (grows-sorted a b x grows h.sorted) (grows-sorted a b y grows k.sorted);
      sort = refl;
    }

or_right : (x y : Bool) → y ≡ true → (x || y) ≡ true
or_right true y e = refl
or_right false y e = e

pub quotient-heads : (b : Book) (s : Sort) → HasQuotients b s → Heads b Div s (s ∷ s ∷ [])
quotient-heads b s h = div-heads b s h.signs.literals.known (or_right _ _ h.field)

pub literals-semigroup : (b : Book) (s : Sort) → HasLiterals b s → has_class b.theory.declarations s Semigroup ≡ true
literals-semigroup b s h = has_class-all b.theory.declarations s Semiring Semigroup refl h.semiring

pub product-heads : (b : Book) (s : Sort) → HasLiterals b s → Heads b Mul s (s ∷ s ∷ [])
product-heads b s h = mul-heads b s h.known (literals-semigroup b s h)

pub grows-in : (a b : Book) (g : Grows a b) (s : Sort) (r : Rewriting) → TurnsIn a s r → TurnsIn b s r
grows-in a b g s r h = record { from = h.from; into = h.into; turns = grows-turns a b g s r h.from h.into h.turns }

-- the trees by the denominator

pub over-one : (s : Sort) (x : Tree) (d : ℕ) → d ≡ 1 → over_denominator s x d ≡ x
unfolding over_denominator
over-one s x zero e = absurd (omega (arith, e))
over-one s x (suc zero) e = refl
over-one s x (suc (suc d)) e = absurd (omega (arith, e))

pub over-more : (s : Sort) (x : Tree) (d : ℕ) → (d ≡ 1 → ⊥) → over_denominator s x d ≡ quotient_tree s x (Lit s d)
unfolding over_denominator
over-more s x zero e = refl
over-more s x (suc zero) e = absurd (e refl)
over-more s x (suc (suc d)) e = refl

-- the sizes of the numbers

pub above-differs : (d : ℕ) → 0 < d → relation_holds Ne d 0 ≡ true
above-differs d h = grind (arith, nat_tests)

-- a factor of a number that isn't 0 is at most that number, and isn't 0
pub factor-within : (d e l : ℕ) → 0 < d → d * e ≡ l → e ≤ l
factor-within zero e l h m = absurd (omega (arith, h))
factor-within (suc d) e l h m = omega (arith, m)

pub factor-above : (d e l : ℕ) → d * e ≡ l → 0 < l → 0 < e
factor-above d zero l m h = absurd (omega (arith, m, h))
factor-above d (suc e) l m h = omega arith

pub one-times : (d e l : ℕ) → d ≡ 1 → d * e ≡ l → l ≡ e
one-times d e l h m = sym m ∙ ap (λ k. k * e) h ∙ omega arith

pub ruleset sizes = (wholes, relations, grows-quotients, above-differs, grows-in)
