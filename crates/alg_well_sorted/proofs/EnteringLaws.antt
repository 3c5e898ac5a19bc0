-- A scope that agrees with declarations agrees with more of them, once they are entered.
use Rattle.std.proofs.Common.{◌≡◌, ℕ, zero, suc, Bool, true, false, ◌&&◌, ◌||◌, if◌then◌else◌, List, [], ◌∷◌, ◌++◌, length, map, All, Some, refl, ap, sym, ◌∙◌, subst, append_assoc, append-nil}
use Rattle.std.proofs.lemmas.List.{map-append}
use Rattle.std.proofs.lemmas.List.Elements.{All-nil, All-cons}
use Rattle.std.specs.Prelude.{slice_get}
use Rattle.alg_terms.specs.declared.sorts.Sort.{Sort}
use Rattle.alg_terms.specs.declared.sorts.Sort.TheVariants.{Nat, Int, Rat, Decl}
use Rattle.alg_terms.specs.declared.symbols.Sym.{Sym}
use Rattle.alg_terms.specs.declared.symbols.Sym.TheVariants.{Abs, Min, Max, Gcd, Lcm, Fact, Choose, Fib, Apply}
use Rattle.alg_terms.specs.Order.{sort_same}
use Rattle.alg_terms.specs.Tree.{Statement}
use Rattle.alg_law.specs.declared.classes.Class.{Class}
use Rattle.alg_law.specs.declared.marks.Mark.TheVariants.{Good, BadName}
use Rattle.alg_law.specs.Declarations.{Declaration, Carrier, Instance, Variable, Function, Hypothesis, hypotheses}
use Rattle.alg_law.specs.Following.{IsKnown, MayFollow, AllMayFollow}
use Rattle.alg_law.specs.Having.{instance_gives, instances_give}
use Rattle.alg_law.specs.Prefixes.{line_at}
use Rattle.alg_law.specs.WellSorted.{is_type, variable_of, function_of, symbol_mark}
use Rattle.alg_law.proofs.PrefixLemmas.{hypotheses-append}
use Rattle.alg_names.specs.declared.grants.Granted.{Granted}
use Rattle.alg_names.specs.declared.meanings.Meaning.{Meaning}
use Rattle.alg_names.specs.declared.meanings.Meaning.TheVariants as meaning
use Rattle.alg_names.specs.declared.scope.Scope.{Scope}
use Rattle.alg_names.specs.BuiltIn.{built_in}
use Rattle.alg_names.specs.Entering.{enter, entered}
use Rattle.alg_names.specs.InForce.{instances}
use Rattle.alg_well_sorted.specs.Agreeing.{Applies, by_declaration, always, IsFunction, IsShared, Means, AreMeant, Agrees, Follows}
use Rattle.alg_well_sorted.proofs.Parts.{and_true, same_sort}
use Rattle.alg_well_sorted.proofs.Compounds.{built_in_good}

or_false : (x : Bool) → (x || false) ≡ x
or_false true = refl
or_false false = refl

or_assoc : (x y z : Bool) → (x || (y || z)) ≡ ((x || y) || z)
or_assoc true y z = refl
or_assoc false y z = refl

given_more : (ds : List Declaration) (d : Declaration) (l : Sort) (c : Class) → instances_give (ds ++ d ∷ []) l c ≡ (instances_give ds l c || instance_gives d l c)
given_more [] d l c = or_false (instance_gives d l c)
given_more (x ∷ xs) d l c = ap (λ b. instance_gives x l c || b) (given_more xs d l c) ∙ or_assoc (instance_gives x l c) (instances_give xs l c) (instance_gives d l c)

variable-more : (ds es : List Declaration) (j : ℕ) (l : Sort) → variable_of (slice_get ds j) ≡ Some l → variable_of (slice_get (ds ++ es) j) ≡ Some l
variable-more [] es j l e = cc
variable-more (d ∷ ds) es zero l e = e
variable-more (d ∷ ds) es (suc j) l e = variable-more ds es j l e

function-more : (ds es : List Declaration) (j : ℕ) (f : List Sort × Sort) → function_of (slice_get ds j) ≡ Some f → function_of (slice_get (ds ++ es) j) ≡ Some f
function-more [] es j f e = cc
function-more (d ∷ ds) es zero f e = e
function-more (d ∷ ds) es (suc j) f e = function-more ds es j f e

type-more : (ds es : List Declaration) (j : ℕ) → is_type (slice_get ds j) ≡ true → is_type (slice_get (ds ++ es) j) ≡ true
type-more [] es j e = cc
type-more (d ∷ ds) es zero e = e
type-more (d ∷ ds) es (suc j) e = type-more ds es j e

pub type_there : (b : Bool) → (if b then Good else BadName) ≡ Good → b ≡ true
type_there true e = refl
type_there false e = cc

there_known : (b : Bool) → b ≡ true → (if b then Good else BadName) ≡ Good
there_known true e = refl
there_known false e = cc

known-more : (ds es : List Declaration) (l : Sort) → IsKnown ds l → IsKnown (ds ++ es) l
known-more ds es Nat h = refl
known-more ds es Int h = refl
known-more ds es Rat h = refl
known-more ds es (Decl j) h = there_known (is_type (slice_get (ds ++ es) j)) (type-more ds es j (type_there (is_type (slice_get ds j)) h))

all_known-more : (ds es : List Declaration) (ls : List Sort) → All (IsKnown ds) ls → All (IsKnown (ds ++ es)) ls
all_known-more ds es ls h = λ i d b. known-more ds es _ (h i d b)

applies-more : (ds es : List Declaration) (f : Sym) (ls : List Sort) (l : Sort) → Applies ds f ls l → Applies (ds ++ es) f ls l
applies-more ds es _ _ _ (by_declaration j ls l e) = by_declaration j ls l (function-more ds es j (ls, l) e)
applies-more ds es _ _ _ (always f ls l h) = always f ls l h

got-more : (hs gs : List Statement) (i : ℕ) (h : Statement) → slice_get hs i ≡ Some h → slice_get (hs ++ gs) i ≡ Some h
got-more [] gs i h e = cc
got-more (x ∷ hs) gs zero h e = e
got-more (x ∷ hs) gs (suc i) h e = got-more hs gs i h e

line-more : (hs gs : List Statement) (n : ℕ) (h : Statement) → line_at hs n ≡ Some h → line_at (hs ++ gs) n ≡ Some h
line-more hs gs zero h e = cc
line-more hs gs (suc i) h e = got-more hs gs i h e

means-more : (ds es : List Declaration) (m : Meaning) → Means ds m → Means (ds ++ es) m
means-more ds es (meaning.SortName l) h = known-more ds es l h
means-more ds es (meaning.Variable d l) h = (variable-more ds es d l h.0, known-more ds es l h.1)
means-more ds es (meaning.Function f ls l) h =
    record { arguments = all_known-more ds es ls h.arguments; value = known-more ds es l h.value; applies = applies-more ds es f ls l h.applies }
means-more ds es (meaning.Shared f n) h = h
means-more ds es (meaning.Hypothesis n r l) h = (h.0, ap (λ hs. line_at hs n) (hypotheses-append ds es) ∙ line-more (hypotheses ds) (hypotheses es) n h.0 h.1, h.2, h.3)

meant-more : (ds es : List Declaration) (ns : List (List ℕ × Meaning)) → AreMeant ds ns → AreMeant (ds ++ es) ns
meant-more ds es [] h = tt
meant-more ds es (n ∷ ns) h = (means-more ds es n.1 h.0, meant-more ds es ns h.1)

meant-push : (ds : List Declaration) (ns : List (List ℕ × Meaning)) (n : List ℕ × Meaning) → AreMeant ds ns → Means ds n.1 → AreMeant ds (ns ++ n ∷ [])
meant-push ds [] n h m = (m, tt)
meant-push ds (x ∷ ns) n h m = (h.0, meant-push ds ns n h.1 m)

none_given : (es ds : List Declaration) (d : Declaration) (l : Sort) (c : Class) → instances_give es l c ≡ instances_give ds l c → instance_gives d l c ≡ false → instances_give es l c ≡ instances_give (ds ++ d ∷ []) l c
none_given es ds d l c e f = e ∙ sym (given_more ds d l c ∙ ap (λ b. instances_give ds l c || b) f ∙ or_false (instances_give ds l c))

-- the scope agrees with one declaration more, which is of no class
pub agrees-more : (s : Scope) (ds : List Declaration) (d : Declaration) → Agrees s ds → ((l : Sort) (c : Class) → instance_gives d l c ≡ false) → Agrees s (ds ++ d ∷ [])
agrees-more s ds d a f =
    record {
      names = meant-more ds (d ∷ []) s.names a.names;
      classes = λ l c. none_given (instances s) ds d l c (a.classes l c) (f l c);
    }

last_got : {X : Type 0} (ds : List X) (d : X) → slice_get (ds ++ d ∷ []) (length ds) ≡ Some d
last_got [] d = refl
last_got (x ∷ ds) d = last_got ds d

-- no hypothesis more, and one more
given-pass : (n : ℕ) (ds : List Declaration) (d : Declaration) → hypotheses (d ∷ []) ≡ [] → n ≡ length (hypotheses ds) → n ≡ length (hypotheses (ds ++ d ∷ []))
given-pass n ds d e h = h ∙ ap length (sym (append-nil (hypotheses ds)) ∙ ap (λ hs. hypotheses ds ++ hs) (sym e) ∙ sym (hypotheses-append ds (d ∷ [])))

one_given : (ds : List Declaration) (x : List ℕ) (p : Statement) → hypotheses (ds ++ Hypothesis x p ∷ []) ≡ hypotheses ds ++ p ∷ []
one_given ds x p = hypotheses-append ds (Hypothesis x p ∷ [])

one_longer_list : (hs : List Statement) (p : Statement) → length (hs ++ p ∷ []) ≡ suc (length hs)
one_longer_list [] p = refl
one_longer_list (h ∷ hs) p = ap suc (one_longer_list hs p)

given-push : (n : ℕ) (ds : List Declaration) (x : List ℕ) (p : Statement) → n ≡ length (hypotheses ds) → suc n ≡ length (hypotheses (ds ++ Hypothesis x p ∷ []))
given-push n ds x p h = ap suc h ∙ sym (one_longer_list (hypotheses ds) p) ∙ ap length (sym (one_given ds x p))

hypothesis_at : (n : ℕ) (ds : List Declaration) (x : List ℕ) (p : Statement) → n ≡ length (hypotheses ds) → line_at (hypotheses (ds ++ Hypothesis x p ∷ [])) (suc n) ≡ Some p
hypothesis_at n ds x p h = ap (λ hs. slice_get hs n) (one_given ds x p) ∙ ap (λ j. slice_get (hypotheses ds ++ p ∷ []) j) h ∙ last_got (hypotheses ds) p

one_longer : (ds : List Declaration) (d : Declaration) → length (ds ++ d ∷ []) ≡ suc (length ds)
one_longer [] d = refl
one_longer (x ∷ ds) d = ap suc (one_longer ds d)

entered_at : (s : Scope) (ds : List Declaration) (d : Declaration) → s.declared ≡ length ds → slice_get (ds ++ d ∷ []) s.declared ≡ Some d
entered_at s ds d e = ap (λ j. slice_get (ds ++ d ∷ []) j) e ∙ last_got ds d

longer : (s : Scope) (ds : List Declaration) (d : Declaration) → s.declared ≡ length ds → suc s.declared ≡ length (ds ++ d ∷ [])
longer s ds d e = ap suc e ∙ sym (one_longer ds d)

granted_more : (s : Scope) (ds : List Declaration) (k : ℕ) (b : Class) (l : Sort) (c : Class) → instances_give (instances s) l c ≡ instances_give ds l c → instances_give (instances s ++ Instance k b ∷ []) l c ≡ instances_give (ds ++ Instance k b ∷ []) l c
granted_more s ds k b l c e = given_more (instances s) (Instance k b) l c ∙ ap (λ x. x || instance_gives (Instance k b) l c) e ∙ sym (given_more ds (Instance k b) l c)

-- what may follow is entered
pub enter-follows : (s : Scope) (ds : List Declaration) (d : Declaration) → Follows s ds → MayFollow ds d → Follows (enter s d) (ds ++ d ∷ [])
enter-follows s ds (Carrier n) h m =
    record {
      agrees =
          record {
            names = meant-push (ds ++ Carrier n ∷ []) s.names (n, meaning.SortName (Decl s.declared)) (meant-more ds (Carrier n ∷ []) s.names h.agrees.names)
                (there_known (is_type (slice_get (ds ++ Carrier n ∷ []) s.declared)) (ap is_type (entered_at s ds (Carrier n) h.counted)));
            classes = λ l c. none_given (instances s) ds (Carrier n) l c (h.agrees.classes l c) refl;
          };
      counted = longer s ds (Carrier n) h.counted;
      given = given-pass s.hypotheses ds (Carrier n) refl h.given;
    }
enter-follows s ds (Instance k b) h m =
    record {
      agrees =
          record {
            names = meant-more ds (Instance k b ∷ []) s.names h.agrees.names;
            classes = λ l c. ap (λ es. instances_give es l c) (map-append (λ (g : Granted). Instance g.sort g.class) s.granted (record { sort = k; class = b } ∷ []))
                ∙ granted_more s ds k b l c (h.agrees.classes l c);
          };
      counted = longer s ds (Instance k b) h.counted;
      given = given-pass s.hypotheses ds (Instance k b) refl h.given;
    }
enter-follows s ds (Variable n l) h m =
    record {
      agrees =
          record {
            names = meant-push (ds ++ Variable n l ∷ []) s.names (n, meaning.Variable s.declared l) (meant-more ds (Variable n l ∷ []) s.names h.agrees.names)
                (ap variable_of (entered_at s ds (Variable n l) h.counted), known-more ds (Variable n l ∷ []) l m);
            classes = λ j c. none_given (instances s) ds (Variable n l) j c (h.agrees.classes j c) refl;
          };
      counted = longer s ds (Variable n l) h.counted;
      given = given-pass s.hypotheses ds (Variable n l) refl h.given;
    }
enter-follows s ds (Function n ls l) h m =
    record {
      agrees =
          record {
            names = meant-push (ds ++ Function n ls l ∷ []) s.names (n, meaning.Function (Apply s.declared) ls l) (meant-more ds (Function n ls l ∷ []) s.names h.agrees.names)
                record {
                  arguments = all_known-more ds (Function n ls l ∷ []) ls m.0;
                  value = known-more ds (Function n ls l ∷ []) l m.1;
                  applies = by_declaration s.declared ls l (ap function_of (entered_at s ds (Function n ls l) h.counted));
                };
            classes = λ j c. none_given (instances s) ds (Function n ls l) j c (h.agrees.classes j c) refl;
          };
      counted = longer s ds (Function n ls l) h.counted;
      given = given-pass s.hypotheses ds (Function n ls l) refl h.given;
    }
enter-follows s ds (Hypothesis n p) h m =
    record {
      agrees =
          record {
            names = meant-push (ds ++ Hypothesis n p ∷ []) s.names (n, meaning.Hypothesis (suc s.hypotheses) p.rel p.sort) (meant-more ds (Hypothesis n p ∷ []) s.names h.agrees.names)
                (p, hypothesis_at s.hypotheses ds n p h.given, refl, refl);
            classes = λ l c. none_given (instances s) ds (Hypothesis n p) l c (h.agrees.classes l c) refl;
          };
      counted = longer s ds (Hypothesis n p) h.counted;
      given = given-push s.hypotheses ds n p h.given;
    }

pub entered-follows : (s : Scope) (ds es : List Declaration) → Follows s ds → AllMayFollow ds es → Follows (entered s es) (ds ++ es)
entered-follows s ds [] h m = subst (λ xs. Follows s xs) (sym (append-nil ds)) h
entered-follows s ds (e ∷ es) h m =
    subst (λ xs. Follows (entered (enter s e) es) xs) (append_assoc ds (e ∷ []) es)
    (entered-follows (enter s e) (ds ++ e ∷ []) es (enter-follows s ds e h m.0) m.1)

pub all_follow-joined : (ds es fs : List Declaration) → AllMayFollow ds es → AllMayFollow (ds ++ es) fs → AllMayFollow ds (es ++ fs)
all_follow-joined ds [] fs h k = subst (λ xs. AllMayFollow xs fs) (append-nil ds) k
all_follow-joined ds (e ∷ es) fs h k =
    (h.0, all_follow-joined (ds ++ e ∷ []) es fs h.1 (subst (λ xs. AllMayFollow xs fs) (sym (append_assoc ds (e ∷ []) es)) k))

abs_shared : IsShared Abs 1
abs_shared es k v c = built_in_good es Abs k (k ∷ []) refl refl (and_true (sort_same k k) true (same_sort k k refl) refl) v c

min_shared : IsShared Min 2
min_shared es k v c = built_in_good es Min k (k ∷ k ∷ []) refl refl (and_true (sort_same k k) (sort_same k k && true) (same_sort k k refl) (and_true (sort_same k k) true (same_sort k k refl) refl)) v c

max_shared : IsShared Max 2
max_shared es k v c = built_in_good es Max k (k ∷ k ∷ []) refl refl (and_true (sort_same k k) (sort_same k k && true) (same_sort k k refl) (and_true (sort_same k k) true (same_sort k k refl) refl)) v c

one_known : All (IsKnown []) (Nat ∷ [])
one_known = All-cons (IsKnown []) Nat [] refl (All-nil (IsKnown []))

two_known : All (IsKnown []) (Nat ∷ Nat ∷ [])
two_known = All-cons (IsKnown []) Nat (Nat ∷ []) refl one_known

of_one : (f : Sym) → ((es : List Declaration) → symbol_mark es f Nat (Nat ∷ []) ≡ Good) → IsFunction [] f (Nat ∷ []) Nat
of_one f h = record { arguments = one_known; value = refl; applies = always f (Nat ∷ []) Nat h }

of_two : (f : Sym) → ((es : List Declaration) → symbol_mark es f Nat (Nat ∷ Nat ∷ []) ≡ Good) → IsFunction [] f (Nat ∷ Nat ∷ []) Nat
of_two f h = record { arguments = two_known; value = refl; applies = always f (Nat ∷ Nat ∷ []) Nat h }

-- the names from the start mean what they say
built_in_meant : AreMeant [] built_in
built_in_meant =
    (refl, (refl, (refl, (refl, (refl, (refl, (abs_shared, (min_shared, (max_shared, (of_two Gcd (λ es. refl), (of_two Lcm (λ es. refl), (of_one Fact (λ es. refl), (of_two Choose (λ es. refl), (of_one Fib (λ es. refl), tt))))))))))))))

-- before anything is declared
pub start-follows : (s : Scope) → s.names ≡ built_in → s.granted ≡ [] → s.declared ≡ 0 → s.hypotheses ≡ 0 → Follows s []
start-follows s n g d h =
    record {
      agrees =
          record {
            names = subst (λ ns. AreMeant [] ns) (sym n) built_in_meant;
            classes = λ l c. ap (λ gs. instances_give (map (λ (x : Granted). Instance x.sort x.class) gs) l c) g;
          };
      counted = d;
      given = h;
    }
