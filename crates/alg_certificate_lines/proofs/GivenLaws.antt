-- What a given line is read as.
use Rattle.std.proofs.Common.{◌≡◌, ℕ, Bool, true, false, ◌&&◌, List, [], ◌∷◌, ◌++◌, Some, None, Result, Ok, Err, IfOk, codes, refl, sym, ap, subst, ◌∙◌, if◌then◌else◌}
use Rattle.std.proofs.lemmas.Bool.{and_parts}
use Rattle.std.proofs.lemmas.Option.{none-some}
use Rattle.alg_terms.specs.declared.sorts.Sort.{Sort}
use Rattle.alg_terms.specs.declared.relations.Rel.{Rel}
use Rattle.alg_terms.specs.declared.relations.Rel.TheVariants as rel
use Rattle.alg_terms.specs.Tree.{Tree, Statement, sort_of_tree}
use Rattle.alg_terms.specs.Order.{sort_same}
use Rattle.alg_terms.proofs.OrderLaws.{sort_same-equal}
use Rattle.alg_expr.specs.declared.ids.Stmt.{Stmt}
use Rattle.alg_expr.specs.Ids.{IsStatementIn, trees_at, statement_of}
use Rattle.alg_law.specs.declared.marks.Mark.{Mark}
use Rattle.alg_law.specs.declared.marks.Mark.TheVariants.{Good, NoInstance, BadSort, BadName}
use Rattle.alg_law.specs.Declarations.{Declaration}
use Rattle.alg_law.specs.WellSorted.{mark_of, has_relation, IsStatement}
use Rattle.alg_certificate.proofs.NumberLaws.{some_is}
use Rattle.alg_certificate.proofs.LexingLaws.{front_is, behind_is}
use Rattle.alg_certificate.proofs.Wordlike.{sort_word}
use Rattle.alg_certificate.specs.Tokens.{begins_word, is_some_word, first_word}
use Rattle.alg_certificate.specs.Words.{sort_bytes, relation_bytes}
use Rattle.alg_certificate.specs.Spelling.{SortFits, StatementHasSpelling, given_bytes, bytes, spell_all}
use Rattle.alg_certificate_lines.specs.declared.faults.LineFault.{LineFault}
use Rattle.alg_certificate_lines.specs.declared.faults.LineFault.TheVariants as fault
use Rattle.alg_certificate_lines.specs.Kept.{kept_sort}
use Rattle.alg_certificate_lines.specs.Words.{sort_named}
use Rattle.alg_certificate_lines.specs.Known.{is_good, has_sort, all_known}
use Rattle.alg_certificate_lines.specs.Typed.{typed_all}
use Rattle.alg_certificate_lines.specs.Adding.{Flagged, ReadsTrees}
use Rattle.alg_certificate_lines.specs.Given.{Read, sides, classed, sorted, over_sides, over_typed, given_read, Gives, with_relation_word, with_relation, with_sort_word, given_cut}
use Rattle.alg_certificate_lines.proofs.Naming.{sort_is, relation_is}
use Rattle.alg_certificate_lines.proofs.TakingLaws.{sort_kept}

-- the line is cut where its words end
begins_front : (w rest : List ℕ) → is_some_word w ≡ true → begins_word (w ++ rest) ≡ true
begins_front [] rest e = cc
begins_front (c ∷ cs) rest e = (and_parts _ _ e).0

pub cut_first : (w rest : List ℕ) → is_some_word w ≡ true → begins_word rest ≡ false → first_word (w ++ rest) ≡ Some (w, rest)
cut_first w rest good e =
    let all = (and_parts _ _ good).1 in
    rw (begins_front w rest good, front_is w rest all e, behind_is w rest all e) refl

pub relation_word : (r : Rel) → is_some_word (relation_bytes r) ≡ true
relation_word rel.Eq = refl
relation_word rel.Ne = refl
relation_word rel.Lt = refl
relation_word rel.Le = refl
relation_word rel.Dvd = refl

cut_at : (r : Rel) (s : Sort) (more : List ℕ) → SortFits s → begins_word more ≡ false → given_cut (codes "given " ++ (relation_bytes r ++ 32 ∷ (sort_bytes s ++ more))) ≡ Some (r, sort_bytes s, more)
cut_at r s more f e =
    ap with_relation_word (cut_first (relation_bytes r) (32 ∷ (sort_bytes s ++ more)) (relation_word r) refl)
    ∙ (ap (λ o. with_relation o (32 ∷ (sort_bytes s ++ more))) (relation_is r)
    ∙ ap (with_sort_word r) (cut_first (sort_bytes s) more (sort_word s f) e))

pub cut_is : (s : Statement) → StatementHasSpelling s → given_cut (given_bytes s) ≡ Some (s.rel, sort_bytes s.sort, bytes (spell_all (sides s)))
cut_is s f = cut_at s.rel s.sort (bytes (spell_all (sides s))) f.0 refl

-- the first question
has_named : (ds : List Declaration) (s : Sort) (w : List ℕ) → SortFits s → sort_bytes s ≡ w → has_sort ds (sort_named w) ≡ has_sort ds (kept_sort s)
has_named ds s w f e = ap (λ x. has_sort ds (sort_named x)) (sym e) ∙ ap (has_sort ds) (sort_is s f)

asked : (ds : List Declaration) (s : Statement) (b c : Bool) → has_sort ds (kept_sort s.sort) ≡ b → all_known ds (sides s) ≡ c → given_read ds s ≡ (if◌then◌else◌ {A = Read} (b && c) (over_typed ds s.rel s.sort (typed_all ds (sides s))) (Err fault.BadName))
asked ds s b c d e = ap (λ x. if◌then◌else◌ {A = Read} (x && all_known ds (sides s)) (over_typed ds s.rel s.sort (typed_all ds (sides s))) (Err fault.BadName)) d ∙ ap (λ x. if◌then◌else◌ {A = Read} (b && x) (over_typed ds s.rel s.sort (typed_all ds (sides s))) (Err fault.BadName)) e

pub given_unsorted : (ds : List Declaration) (s : Statement) (w : List ℕ) → StatementHasSpelling s → sort_bytes s.sort ≡ w → has_sort ds (sort_named w) ≡ false → given_read ds s ≡ Err fault.BadName
given_unsorted ds s w f e d = asked ds s false _ (sym (has_named ds s.sort w f.0 e) ∙ d) refl

same_sort : (ds : List Declaration) (s k : Sort) (w : List ℕ) → SortFits s → sort_bytes s ≡ w → has_sort ds (sort_named w) ≡ true → Some k ≡ sort_named w → k ≡ s
same_sort ds s k w f e d n =
    let kept : sort_named w ≡ kept_sort s = ap sort_named (sym e) ∙ sort_is s f in
    some_is k s (n ∙ (kept ∙ sort_kept ds s (kept_sort s) refl (sym (has_named ds s w f e) ∙ d)))

-- the trees were read
pub given_there : (ds : List Declaration) (new : List Tree) (s : Statement) (r : Rel) (k : Sort) (w : List ℕ) (p : Flagged) (x : Result Stmt LineFault) → StatementHasSpelling s → r ≡ s.rel → sort_bytes s.sort ≡ w → has_sort ds (sort_named w) ≡ true → Some k ≡ sort_named w
    → ReadsTrees ds new (sides s) (Ok p) → Gives new (over_sides ds r k (trees_at new p.0)) x → Gives new (given_read ds s) x
given_there ds new s r k w p x f d e h n t g =
    let es = p.0 in
    let same : k ≡ s.sort = same_sort ds s.sort k w f.0 e h n in
    let read : given_read ds s ≡ over_sides ds r k (trees_at new es) =
    asked ds s true true (sym (has_named ds s.sort w f.0 e) ∙ h) t.0
    ∙ (ap (over_typed ds s.rel s.sort) t.2
    ∙ (ap (λ q. over_sides ds q s.sort (trees_at new es)) (sym d) ∙ ap (λ q. over_sides ds r q (trees_at new es)) (sym same))) in
    subst (λ o. Gives new o x) (sym read) g

-- the trees have a fault
pub given_fault : (ds : List Declaration) (new : List Tree) (s : Statement) (w : List ℕ) (f : LineFault) → StatementHasSpelling s → sort_bytes s.sort ≡ w → has_sort ds (sort_named w) ≡ true → ReadsTrees ds new (sides s) (Err f) → Gives new (given_read ds s) (Err f)
given_fault ds new s w fault.BadName g e h t = asked ds s true false (sym (has_named ds s.sort w g.0 e) ∙ h) t
given_fault ds new s w fault.BadSort g e h t = asked ds s true true (sym (has_named ds s.sort w g.0 e) ∙ h) t.0 ∙ ap (over_typed ds s.rel s.sort) t.1
given_fault ds new s w fault.NoInstance g e h t = absurd t
given_fault ds new s w fault.Memory g e h t = tt

abbrev Parts : Type 0
Parts = Rel × List ℕ × List ℕ

pub cut_parts : (s : Statement) (text : List ℕ) (r : Rel) (w t : List ℕ) → StatementHasSpelling s → given_bytes s ≡ text → Some (r, w, t) ≡ given_cut text → (r ≡ s.rel) × (sort_bytes s.sort ≡ w) × (bytes (spell_all (sides s)) ≡ t)
cut_parts s text r w t f e c =
    let same : ◌≡◌ {A = Parts} (r, w, t) (s.rel, sort_bytes s.sort, bytes (spell_all (sides s))) = some_is _ _ (c ∙ (ap given_cut (sym e) ∙ cut_is s f)) in
    (ap (λ (x : Parts). x.0) same, sym (ap (λ (x : Parts). x.1) same), sym (ap (λ (x : Parts). x.2) same))

pub no_cut : (s : Statement) (text : List ℕ) → StatementHasSpelling s → given_bytes s ≡ text → None ≡ given_cut text → ⊥
no_cut s text f e c = none-some _ (c ∙ (ap given_cut (sym e) ∙ cut_is s f))

pub statement_inside : (new : List Tree) (o : Read) (r : Result Stmt LineFault) → Gives new o r → IfOk r (λ x. IsStatementIn new x)
statement_inside new o (Ok x) h = h.0
statement_inside new o (Err f) h = tt

-- what is read is a statement of the base
passed : (b : Bool) (o : Read) (f : LineFault) (x : Statement) → if◌then◌else◌ {A = Read} b o (Err f) ≡ Ok x → (b ≡ true) × (o ≡ Ok x)
passed true o f x e = (refl, e)
passed false o f x e = absurd (cc)

ok_is : (s x : Statement) → ◌≡◌ {A = Read} (Ok s) (Ok x) → s ≡ x
ok_is s x e = cc

good_is : (m : Mark) → is_good m ≡ true → m ≡ Good
good_is Good e = refl
good_is NoInstance e = absurd (cc)
good_is BadSort e = absurd (cc)
good_is BadName e = absurd (cc)

sorted_is : (ds : List Declaration) (s x : Statement) → sorted ds s ≡ Ok x → IsStatement ds x
sorted_is ds s x e =
    let p = passed (sort_same (sort_of_tree s.lhs) s.sort && sort_same (sort_of_tree s.rhs) s.sort) (classed ds s) fault.BadSort x e in
    let q = passed (is_good (mark_of ds s.lhs) && (is_good (mark_of ds s.rhs) && has_relation ds s.rel s.sort)) (Ok s) fault.NoInstance x p.1 in
    let same = and_parts (sort_same (sort_of_tree s.lhs) s.sort) (sort_same (sort_of_tree s.rhs) s.sort) p.0 in
    let left = and_parts (is_good (mark_of ds s.lhs)) (is_good (mark_of ds s.rhs) && has_relation ds s.rel s.sort) q.0 in
    let right = and_parts (is_good (mark_of ds s.rhs)) (has_relation ds s.rel s.sort) left.1 in
    subst (IsStatement ds) (ok_is s x q.1)
    (record {
      left = good_is (mark_of ds s.lhs) left.0;
      right = good_is (mark_of ds s.rhs) right.0;
      left_sort = sort_same-equal (sort_of_tree s.lhs) s.sort same.0;
      right_sort = sort_same-equal (sort_of_tree s.rhs) s.sort same.1;
      related = right.1;
    })

sides_are : (ds : List Declaration) (r : Rel) (k : Sort) (ts : List Tree) (x : Statement) → over_sides ds r k ts ≡ Ok x → IsStatement ds x
sides_are ds r k [] x e = absurd (cc)
sides_are ds r k (a ∷ []) x e = absurd (cc)
sides_are ds r k (a ∷ b ∷ []) x e = sorted_is ds (record { rel = r; sort = k; lhs = a; rhs = b }) x e
sides_are ds r k (a ∷ b ∷ c ∷ more) x e = absurd (cc)

pub statement_sorted : (ds : List Declaration) (new : List Tree) (r : Rel) (k : Sort) (ts : List Tree) (y : Result Stmt LineFault) → Gives new (over_sides ds r k ts) y → IfOk y (λ x. IsStatement ds (statement_of new x))
statement_sorted ds new r k ts (Ok x) h = sides_are ds r k ts (statement_of new x) h.1
statement_sorted ds new r k ts (Err f) h = tt
