-- A flag that tells whether each tree has all its classes, while trees are built.
use Rattle.std.proofs.Common.{◌≡◌, ℕ, ◌^◌, Bool, true, false, ◌&&◌, nat_lt, List, [], ◌∷◌, ◌++◌, take, drop, All, Option, Some, None, Result, Ok, Err, IfOk, refl, sym, ap, subst, ◌∙◌, slice_get, if◌then◌else◌}
use Rattle.std.proofs.lemmas.List.{map-append, take-append-drop}
use Rattle.std.proofs.lemmas.List.Elements.{All-take}
use Rattle.std.proofs.lemmas.Option.{none-some, same_Some}
use Rattle.alg_terms.specs.declared.sorts.Sort.{Sort}
use Rattle.alg_terms.specs.declared.symbols.Sym.{Sym}
use Rattle.alg_terms.specs.Tree.{Tree, App as node, of_list, sort_of_tree}
use Rattle.alg_terms.proofs.OrderLaws.{sort_same-self}
use Rattle.alg_expr.specs.declared.ids.ExprId.{ExprId}
use Rattle.alg_expr.specs.Arena.{Extends}
use Rattle.alg_expr.specs.Applying.{sorts_at}
use Rattle.alg_expr.specs.Ids.{tree_of, trees_at, IsIn}
use Rattle.alg_law.specs.declared.marks.Mark.{Mark}
use Rattle.alg_law.specs.declared.marks.Mark.TheVariants.{Good, NoInstance, BadSort, BadName}
use Rattle.alg_law.specs.Declarations.{Declaration}
use Rattle.alg_law.specs.WellSorted.{worse, sort_mark, same_mark, of_sort, variable_of, variable_mark, head_mark, sorts_of, mark_of, marks_of}
use Rattle.alg_proof.specs.Steps.{value_sort}
use Rattle.alg_certificate_lines.specs.declared.faults.LineFault.{LineFault}
use Rattle.alg_certificate_lines.specs.Known.{is_good, variable_sort}
use Rattle.alg_certificate_lines.specs.Typed.{is_sorted, sorts, node_over, node_of}
use Rattle.alg_certificate_lines.specs.Heads.{head_good}
use Rattle.alg_certificate_lines.specs.Steps.{all_good}
use Rattle.alg_certificate_lines.specs.Adding.{Makes, Pushes}
use Rattle.alg_certificate_lines.proofs.GrowthLaws.{trees_kept}

-- tests
and_true : (b : Bool) → (b && true) ≡ b
and_true true = refl
and_true false = refl

and_assoc : (a b c : Bool) → (a && (b && c)) ≡ ((a && b) && c)
and_assoc true b c = refl
and_assoc false b c = refl

and_swap : (a b : Bool) → (a && b) ≡ (b && a)
and_swap true true = refl
and_swap true false = refl
and_swap false true = refl
and_swap false false = refl

-- marks that are good
good_both : (a b : Mark) → is_good (worse a b) ≡ (is_good a && is_good b)
good_both Good b = refl
good_both NoInstance Good = refl
good_both NoInstance NoInstance = refl
good_both NoInstance BadSort = refl
good_both NoInstance BadName = refl
good_both BadSort Good = refl
good_both BadSort NoInstance = refl
good_both BadSort BadSort = refl
good_both BadSort BadName = refl
good_both BadName b = refl

some_then : (b : Bool) (o : Option Sort) (s : Sort) → if◌then◌else◌ {A = Option Sort} b o None ≡ Some s → o ≡ Some s
some_then true o s e = e
some_then false o s e = absurd (none-some _ e)

-- a variable of its own sort
pub variable_good : (ds : List Declaration) (k : ℕ) (s : Sort) → variable_sort ds k ≡ Some s → is_good (variable_mark ds k s) ≡ is_good (sort_mark ds s)
variable_good ds k s e =
    ap (λ o. is_good (worse (sort_mark ds s) (of_sort o s))) (some_then (nat_lt k (2 ^ 32)) (variable_of (slice_get ds k)) s e)
    ∙ (ap (λ b. is_good (worse (sort_mark ds s) (same_mark b))) (sort_same-self s)
    ∙ (good_both (sort_mark ds s) Good ∙ and_true (is_good (sort_mark ds s))))

-- a node is good where its head and its arguments are
marks_good : (ds : List Declaration) (ts : List Tree) → is_good (marks_of ds (of_list ts)) ≡ all_good ds ts
marks_good ds [] = refl
marks_good ds (t ∷ ts) = good_both (mark_of ds t) (marks_of ds (of_list ts)) ∙ ap (λ b. is_good (mark_of ds t) && b) (marks_good ds ts)

app_good : (ds : List Declaration) (f : Sym) (s : Sort) (ts : List Tree) → is_good (mark_of ds (node f s (of_list ts))) ≡ (head_good ds (node f s (of_list ts)) && all_good ds ts)
app_good ds f s ts =
    good_both (head_mark ds f s (sorts_of (of_list ts))) (marks_of ds (of_list ts))
    ∙ ap (λ b. is_good (head_mark ds f s (sorts_of (of_list ts))) && b) (marks_good ds ts)

tree_then : (b : Bool) (x t : Tree) → if◌then◌else◌ {A = Option Tree} b (Some x) None ≡ Some t → x ≡ t
tree_then true x t e = same_Some x t e
tree_then false x t e = absurd (none-some _ e)

node_is : (ds : List Declaration) (f : Sym) (ts : List Tree) (o : Option Sort) (t : Tree) → node_over ds f ts o ≡ Some t → (s : Sort) × (node f s (of_list ts) ≡ t)
node_is ds f ts None t e = absurd (none-some _ e)
node_is ds f ts (Some s) t e = (s, tree_then (is_sorted (head_mark ds f s (sorts ts))) (node f s (of_list ts)) t e)

node_good : (ds : List Declaration) (f : Sym) (ts : List Tree) (t : Tree) → node_of ds f ts ≡ Some t → is_good (mark_of ds t) ≡ (head_good ds t && all_good ds ts)
node_good ds f ts t e =
    let p = node_is ds f ts (value_sort ds f (sorts ts)) t e in
    subst (λ (x : Tree). is_good (mark_of ds x) ≡ (head_good ds x && all_good ds ts)) p.1 (app_good ds f p.0 ts)

-- the head that was asked is that of the node
sorts_of-list : (ts : List Tree) (es : List ExprId) → sorts_of (of_list (trees_at ts es)) ≡ sorts_at ts es
sorts_of-list ts [] = refl
sorts_of-list ts (e ∷ es) = ap (λ ss. sort_of_tree (tree_of ts e) ∷ ss) (sorts_of-list ts es)

pub head_is : (ds : List Declaration) (f : Sym) (s : Sort) (old : List Tree) (es : List ExprId) (t : Tree) → t ≡ node f s (of_list (trees_at old es)) → is_good (head_mark ds f s (sorts_at old es)) ≡ head_good ds t
head_is ds f s old es t e = ap (λ ss. is_good (head_mark ds f s ss)) (sym (sorts_of-list old es)) ∙ ap (head_good ds) (sym e)

-- a list of trees
good_append : (ds : List Declaration) (ts us : List Tree) → all_good ds (ts ++ us) ≡ (all_good ds ts && all_good ds us)
good_append ds [] us = refl
good_append ds (t ∷ ts) us = ap (λ b. is_good (mark_of ds t) && b) (good_append ds ts us) ∙ and_assoc (is_good (mark_of ds t)) (all_good ds ts) (all_good ds us)

good_split : (ds : List Declaration) (old : List Tree) (es : List ExprId) (start : ℕ) → all_good ds (trees_at old es) ≡ (all_good ds (trees_at old (take start es)) && all_good ds (trees_at old (drop start es)))
good_split ds old es start =
    ap (λ xs. all_good ds (trees_at old xs)) (sym (take-append-drop start es))
    ∙ (ap (all_good ds) (map-append (tree_of old) (take start es) (drop start es))
    ∙ good_append ds (trees_at old (take start es)) (trees_at old (drop start es)))

good_pushed : (ds : List Declaration) (old new : List Tree) (es fs : List ExprId) (e : ExprId) → Extends old new → All (IsIn old) es → fs ≡ es ++ e ∷ [] → all_good ds (trees_at new fs) ≡ (all_good ds (trees_at old es) && is_good (mark_of ds (tree_of new e)))
good_pushed ds old new es fs e x h p =
    ap (λ xs. all_good ds (trees_at new xs)) p
    ∙ (ap (all_good ds) (map-append (tree_of new) es (e ∷ []))
    ∙ (good_append ds (trees_at new es) (tree_of new e ∷ [])
    ∙ (ap (λ b. all_good ds (trees_at new es) && b) (and_true (is_good (mark_of ds (tree_of new e))))
    ∙ ap (λ ts. all_good ds ts && is_good (mark_of ds (tree_of new e))) (trees_kept old new es x h))))

-- nothing is built
pub flag_still : (ds : List Declaration) (ts : List Tree) (es : List ExprId) (r : Result (Unit {0}) LineFault) (b : Bool) → b ≡ all_good ds (trees_at ts es) → IfOk r (λ u. b ≡ all_good ds (trees_at ts es))
flag_still ds ts es (Ok u) b h = h
flag_still ds ts es (Err f) b h = tt

-- a literal or a variable behind the others
pub flag_kept : (ds : List Declaration) (old new : List Tree) (es fs : List ExprId) (built : Result ExprId LineFault) (r : Result (Unit {0}) LineFault) (b c : Bool) → Extends old new → All (IsIn old) es → b ≡ all_good ds (trees_at old es)
    → IfOk built (λ e. c ≡ (b && is_good (mark_of ds (tree_of new e)))) → Pushes es fs built r → IfOk r (λ u. c ≡ all_good ds (trees_at new fs))
flag_kept ds old new es fs (Ok e) (Ok u) b c x h k m p =
    m ∙ (ap (λ q. q && is_good (mark_of ds (tree_of new e))) k ∙ sym (good_pushed ds old new es fs e x h p))
flag_kept ds old new es fs (Ok e) (Err f) b c x h k m p = tt
flag_kept ds old new es fs (Err f) (Ok u) b c x h k m p = absurd p
flag_kept ds old new es fs (Err f) (Err g) b c x h k m p = tt

-- a node in place of its arguments
regrouped : (a b c : Bool) → ((a && b) && c) ≡ (a && (c && b))
regrouped a b c = sym (and_assoc a b c) ∙ ap (λ d. a && d) (and_swap b c)

pub flag_closed : (ds : List Declaration) (old new : List Tree) (es fs : List ExprId) (start : ℕ) (f : Sym) (built : Result ExprId LineFault) (r : Result (Unit {0}) LineFault) (b c : Bool) → Extends old new → All (IsIn old) es → b ≡ all_good ds (trees_at old es)
    → Makes new (node_of ds f (trees_at old (drop start es))) built → IfOk built (λ e. c ≡ (b && head_good ds (tree_of new e))) → Pushes (take start es) fs built r → IfOk r (λ u. c ≡ all_good ds (trees_at new fs))
flag_closed ds old new es fs start f (Ok e) (Ok u) b c x h k made m p =
    let front = all_good ds (trees_at old (take start es)) in
    let rest = all_good ds (trees_at old (drop start es)) in
    let head = head_good ds (tree_of new e) in
    let whole : is_good (mark_of ds (tree_of new e)) ≡ (head && rest) = node_good ds f (trees_at old (drop start es)) (tree_of new e) made.1 in
    m
    ∙ (ap (λ q. q && head) (k ∙ good_split ds old es start)
    ∙ (regrouped front rest head
    ∙ (ap (λ q. front && q) (sym whole)
    ∙ sym (good_pushed ds old new (take start es) fs e x (All-take (IsIn old) start es h) p))))
flag_closed ds old new es fs start f (Ok e) (Err g) b c x h k made m p = tt
flag_closed ds old new es fs start f (Err g) (Ok u) b c x h k made m p = absurd p
flag_closed ds old new es fs start f (Err g) (Err q) b c x h k made m p = tt
