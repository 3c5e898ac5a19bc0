-- A statement as three tasks.
use Rattle.std.proofs.Common.{◌≡◌, ℕ, List, [], ◌∷◌, ◌++◌, Bool, false, not, if◌then◌else◌, ap, ◌∙◌, subst, arith, append_assoc, le-leb}
use Rattle.alg_terms.specs.Tree.{Tree}
use Rattle.alg_expr.specs.declared.ids.Stmt.{Stmt}
use Rattle.alg_expr.specs.Ids.{tree_of, statement_of}
use Rattle.alg_law.specs.Declarations.{Declaration}
use Rattle.alg_law.specs.Following.{IsWellFormed}
use Rattle.alg_law.specs.WellSorted.{IsStatement}
use Rattle.alg_syntax.specs.Expressions as expressions
use Rattle.alg_show.specs.declared.tasks.Place.TheVariants.{Least}
use Rattle.alg_show.specs.declared.tasks.Task.{Task}
use Rattle.alg_show.specs.declared.tasks.Task.TheVariants.{Relation, Part}
use Rattle.alg_show.specs.Notation.{relation_text, blanked}
use Rattle.alg_show.specs.Knowing.{sides_ask}
use Rattle.alg_show.specs.Unparenthesized.{raw}
use Rattle.alg_show.specs.Shown.{shown}
use Rattle.alg_show.specs.Tasks.{placed, pending, IsNarrow, AllNarrow, Wrote, AreSidesNarrow}
use Rattle.alg_show.specs.Text.{text, shown_text}
use Rattle.alg_show.specs.ReadingBack.{AreDeclarable, ReadsBack}
use Rattle.alg_show.specs.Goals.{IsWithinLimits, IsReadAsGoal}
use Rattle.alg_show.proofs.GoalLaws.{read_as_goal}
use Rattle.alg_show.proofs.ReadingBackLaws.{reads_back}

free : (t : expressions.Tree) → placed (Least 0) t ≡ t
free t = ap (λ b. if not b then expressions.group false t else t) (le-leb 0 (expressions.level t) (omega arith))

blanks : (x m y : List ℕ) → (x ++ blanked m) ++ y ≡ x ++ (32 ∷ (m ++ (32 ∷ y)))
blanks x m y = append_assoc x (blanked m) y ∙ ap (λ z. x ++ (32 ∷ z)) (append_assoc m (32 ∷ []) y)

-- the tasks of a statement
abbrev pub three : Stmt → Bool → List Task
three s ask = Part (Least 0) false s.rhs ∷ Relation s.rel ∷ Part (Least 0) ask s.lhs ∷ []

pub tasks_of : (s : Stmt) (ask : Bool) (a b c d : List Task) → a ≡ [] → b ≡ a ++ Part (Least 0) false s.rhs ∷ [] → c ≡ b ++ Relation s.rel ∷ [] → d ≡ c ++ Part (Least 0) ask s.lhs ∷ [] → d ≡ three s ask
tasks_of s ask a b c d p q r u =
    u ∙ ap (λ x. x ++ Part (Least 0) ask s.lhs ∷ []) (r ∙ ap (λ x. x ++ Relation s.rel ∷ []) (q ∙ ap (λ x. x ++ Part (Least 0) false s.rhs ∷ []) p))

pub wrote_statement : (ds : List Declaration) (ts : List Tree) (s : Stmt) (ask : Bool) (tasks : List Task) (bytes after : List ℕ) → ask ≡ sides_ask s.sort (tree_of ts s.lhs) (tree_of ts s.rhs) → tasks ≡ three s ask → bytes ≡ [] → Wrote ds ts tasks bytes after → (after ≡ shown_text ds (statement_of ts s)) × AreSidesNarrow ds (statement_of ts s)
wrote_statement ds ts s ask tasks bytes after e p q w =
    let l = shown (raw ds ask (tree_of ts s.lhs)) in
    let r = shown (raw ds false (tree_of ts s.rhs)) in
    let n = subst (AllNarrow ds ts) p w.1 in (
      w.0
          ∙ (ap (λ x. x ++ pending ds ts tasks) q
          ∙ (ap (pending ds ts) p
          ∙ (ap (λ x. (text x ++ blanked (relation_text s.rel)) ++ text (placed (Least 0) r)) (free l)
          ∙ (ap (λ x. (text l ++ blanked (relation_text s.rel)) ++ text x) (free r)
          ∙ (blanks (text l) (relation_text s.rel) (text r)
          ∙ ap (λ b. text (shown (raw ds b (tree_of ts s.lhs))) ++ (32 ∷ (relation_text s.rel ++ (32 ∷ text r)))) e))))),
      (subst (λ b. IsNarrow (raw ds b (tree_of ts s.lhs))) e n.1.1.0, n.0),
    )

pub shown_back : (ds : List Declaration) (ts : List Tree) (s : Stmt) (ask : Bool) (tasks : List Task) (bytes after : List ℕ) → IsWellFormed ds → IsStatement ds (statement_of ts s) → ask ≡ sides_ask s.sort (tree_of ts s.lhs) (tree_of ts s.rhs) → tasks ≡ three s ask → bytes ≡ [] → Wrote ds ts tasks bytes after → AreDeclarable ds → ReadsBack ds (statement_of ts s) after
shown_back ds ts s ask tasks bytes after f h e p q w d =
    let k = wrote_statement ds ts s ask tasks bytes after e p q w in
    reads_back ds (statement_of ts s) after f h k.1 k.0 d

pub read_goal : (ds : List Declaration) (ts : List Tree) (s : Stmt) (ask : Bool) (tasks : List Task) (bytes after : List ℕ) → IsWellFormed ds → IsStatement ds (statement_of ts s) → ask ≡ sides_ask s.sort (tree_of ts s.lhs) (tree_of ts s.rhs) → tasks ≡ three s ask → bytes ≡ [] → Wrote ds ts tasks bytes after → AreDeclarable ds → IsWithinLimits ds (statement_of ts s) → IsReadAsGoal ds (statement_of ts s) after
read_goal ds ts s ask tasks bytes after f h e p q w d l =
    let k = wrote_statement ds ts s ask tasks bytes after e p q w in
    read_as_goal ds (statement_of ts s) after f h k.1 k.0 d l
