-- What is found lasts as the book grows.
use Rattle.std.proofs.Common.{◌≡◌, ◌<◌, ℕ, pos, List, length, get_or, map, refl, sym, subst, Bool, true, false, None}
use Rattle.alg_terms.specs.declared.sorts.Sort.{Sort}
use Rattle.alg_terms.specs.declared.symbols.Sym.{Sym}
use Rattle.alg_terms.specs.Tree.{Tree, Var, App, of_list, sort_of_tree}
use Rattle.alg_expr.specs.declared.ids.ExprId.{ExprId}
use Rattle.alg_expr.specs.Ids.{tree_of, trees_at}
use Rattle.alg_lemma.specs.Library.{HoldsLibrary}
use Rattle.alg_law.specs.WellSorted.{IsWellSorted}
use Rattle.alg_build.specs.Book.{Book, Grows}
use Rattle.alg_build.specs.Rewriting.{Stands, Turns}
use Rattle.alg_build.specs.declared.rewriting.Rewriting.{Rewriting}
use Rattle.alg_build.proofs.Rewritings.{grows-stands, grows-turns}
use Rattle.alg_marks.specs.Marks.{AreWanted}
use Rattle.alg_marks.specs.Walks.{ArePartsAt}
use Rattle.alg_values.specs.Arithmetic.{whole_number}
use Rattle.alg_values.specs.Setting.{setting}
use Rattle.alg_values.specs.Numerals.{signed_tree}
use Rattle.alg_values.specs.Normal.{normal}
use Rattle.alg_values.specs.declared.value.Value.{Value}
use Rattle.alg_values.specs.declared.value.Value.TheVariants.{Num, Past, Without}
use Rattle.alg_evaluation.specs.declared.found.Found.{Found}
use Rattle.alg_evaluation.specs.declared.found.Kind.TheVariants as kind
use Rattle.alg_evaluation.specs.Applied.{IsApplied}
use Rattle.alg_evaluation.specs.Found.{IsFound, TurnsToNumeral, absent, worth}
use Rattle.alg_evaluation.proofs.Parting.{parts_found}
use Rattle.alg_evaluation.proofs.Finding.{kept-normal}

numeral-grows : (a b : Book) (s : Sort) (r : Rewriting) (t : Tree) (v : Value) → Grows a b → TurnsToNumeral a s r t v → TurnsToNumeral b s r t v
numeral-grows a b s r t (Num p) g h = grows-turns a b g s r t (signed_tree s p) h
numeral-grows a b s r t Past g h = tt
numeral-grows a b s r t Without g h = tt

pub found-grows : (covers : Sym → Bool) (a b : Book) (t : Tree) (f : Found) → Grows a b → IsFound covers a t f → IsFound covers b t f
found-grows covers a b t f g h = record {
  stands = grows-stands a b g (sort_of_tree t) f.expr t h.stands;
  value = rw g.theory h.value;
  numeral = numeral-grows a b (sort_of_tree t) f.by t (worth f) g h.numeral;
  shown = subst (λ (u : Tree). Turns b (sort_of_tree t) f.shown t u) (sym (kept-normal covers a b t g)) (grows-turns a b g (sort_of_tree t) f.shown t (normal (setting a.theory.declarations covers) t) h.shown);
  past = rw g.theory h.past;
}

-- a wanted tree stands as itself
pub wanted_stands : (b : Book) (wanted : List Bool) (e : ExprId) → AreWanted b wanted → e.index < length b.trees → get_or wanted e.index false ≡ true → Stands b (sort_of_tree (tree_of b.trees e)) e (tree_of b.trees e)
wanted_stands b wanted e w l want = record { here = l; tree = refl; sorted = w.sorted e.index want; sort = refl }

-- variables have no value and stay

pub variable_found : (covers : Sym → Bool) (b : Book) (e : ExprId) (d : ℕ) (s : Sort) → Stands b (sort_of_tree (Var d s)) e (Var d s) → IsFound covers b (Var d s) (record { expr = e; kind = kind.Without; value = whole_number (pos 0); by = record { to = e; line = None }; shown = record { to = e; line = None }; past = false })
variable_found covers b e d s h = record {
  stands = h;
  value = refl;
  numeral = tt;
  shown = record { here = h.here; tree = h.tree; says = refl; sorted = h.sorted; left = refl; right = refl };
  past = refl;
}

-- parts of a tree that is shown by the builder
pub shown-applied : (covers : Sym → Bool) (b : Book) (e : ExprId) (f : Sym) (s : Sort) (args : List ExprId) (found : List Found) → Stands b (sort_of_tree (tree_of b.trees e)) e (tree_of b.trees e) → tree_of b.trees e ≡ App f s (of_list (trees_at b.trees args)) → HoldsLibrary b.theory.lemmas
    → ArePartsAt (IsFound covers) absent b found args → IsApplied covers b (record { expr = e; sym = f; sort = s }) (map (λ a. get_or found a.index absent) args)
shown-applied covers b e f s args found h t l p = record {
  trees = trees_at b.trees args;
  stands = record { here = h.here; tree = t; sorted = subst (λ (u : Tree). IsWellSorted b.theory.declarations u) t h.sorted; sort = refl };
  found = parts_found covers b found args p;
  library = l;
}
