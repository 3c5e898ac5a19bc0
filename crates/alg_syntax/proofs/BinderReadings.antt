-- Binders are read exactly.
use Rattle.std.proofs.Common.{◌≡◌, ◌≤◌, List, [], ◌∷◌, ◌++◌, length, Bool, true, false, cond, Option, Some, None, refl, sym, ap, subst, ◌∙◌, arith, append_assoc, inl, inr}
use Rattle.std.specs.Prelude.{option_map}
use Rattle.std.proofs.lemmas.Option.{none-some, same_Some, some_pair_parts}
use Rattle.std.proofs.lemmas.Bool.{cases_Bool, cond-true, cond-false}
use Rattle.alg_syntax.specs.Written.{Written}
use Rattle.alg_syntax.specs.declared.signs.Operator as operator
use Rattle.alg_syntax.specs.declared.signs.Operator.TheVariants.{Add, Sub, Mul, Div, Mod, Smul, Pow}
use Rattle.alg_syntax.specs.declared.signs.Fixed.TheVariants.{Colon, OpenBrace, CloseBrace, OpenBracket, CloseBracket, TypeWord}
use Rattle.alg_syntax.specs.declared.signs.Sign.{Sign}
use Rattle.alg_syntax.specs.declared.signs.Sign.TheVariants.{Number, Name, Open, Close, Operator, Inverse, Relation, Fixed}
use Rattle.alg_syntax.specs.declared.binders.Domain.{Domain}
use Rattle.alg_syntax.specs.declared.binders.Domain.TheVariants.{Carrier, Sorts, Holds}
use Rattle.alg_syntax.specs.declared.binders.Typed.{Typed}
use Rattle.alg_syntax.specs.declared.binders.Binder.{Binder}
use Rattle.alg_syntax.specs.declared.binders.Binder.TheVariants.{Explicit, Implicit, Instance}
use Rattle.alg_syntax.specs.Expressions.{Tree, number, name, group, ascribed, minus, inverse, binary, apply, spell, Fits, Ends}
use Rattle.alg_syntax.specs.Front.{after_fixed, after_close, name_first}
use Rattle.alg_syntax.specs.Parsers.{mapped, both, behind, ahead, choice}
use Rattle.alg_syntax.specs.Spelling.{spell_all, AllFit}
use Rattle.alg_syntax.specs.Commands.{spell_statement, FitsStatement, spell_names, spell_arrows, spell_domain, FitsDomain, spell_typed, spell_binder, FitsBinder}
use Rattle.alg_syntax.specs.Reading.{read_statement, read_names, has_arrow, read_arrows, after_times, after_star, closes, begins_sorts, read_carrier, read_sorts, read_domain, read_typed, read_instance, opens_binder, read_braced, read_binder, read_binders}
use Rattle.alg_syntax.proofs.Levels.{starts, IsStart, a_number, a_name, an_open}
use Rattle.alg_syntax.proofs.FrontLemmas.{and_then_some, after_fixed_spelled}
use Rattle.alg_syntax.proofs.Readings.{Reads, skips_fixed, skips_close, reads_both, reads_behind, reads_ahead, reads_mapped, mapped_made, refit, choice_cases}
use Rattle.alg_syntax.proofs.Many.{Lists, reads_all}
use Rattle.alg_syntax.proofs.StatementReadings.{Anywhere, reads_name, reads_names, reads_arrows, reads_statement, NoName, NoArrow}

-- what may follow what a binder says
pub record EndsDomain (rest : List Sign) : Type 0 where
  pub closed : closes rest ≡ true
  pub no_arrow : has_arrow rest ≡ false
  pub ended : Ends rest
  pub no_star : after_star rest ≡ None

pub close_ends : (rest : List Sign) → EndsDomain (Close ∷ rest)
close_ends rest = record { closed = refl; no_arrow = refl; ended = tt; no_star = refl }

pub brace_ends : (rest : List Sign) → EndsDomain (Fixed CloseBrace ∷ rest)
brace_ends rest = record { closed = refl; no_arrow = refl; ended = tt; no_star = refl }

times_passed : (o : operator.Operator) (ts us : List Sign) → after_times o ts ≡ Some us → Operator o ∷ ts ≡ Operator Mul ∷ us
times_passed Add ts us e = absurd (none-some _ e)
times_passed Sub ts us e = absurd (none-some _ e)
times_passed Mul ts us e = ap (λ vs. Operator Mul ∷ vs) (same_Some _ _ e)
times_passed Div ts us e = absurd (none-some _ e)
times_passed Mod ts us e = absurd (none-some _ e)
times_passed Smul ts us e = absurd (none-some _ e)
times_passed Pow ts us e = absurd (none-some _ e)

star_passed : (ts us : List Sign) → after_star ts ≡ Some us → ts ≡ Operator Mul ∷ us
star_passed [] us e = absurd (none-some _ e)
star_passed (Number f n ∷ ts) us e = absurd (none-some _ e)
star_passed (Name n ∷ ts) us e = absurd (none-some _ e)
star_passed (Open f ∷ ts) us e = absurd (none-some _ e)
star_passed (Close ∷ ts) us e = absurd (none-some _ e)
star_passed (Operator o ∷ ts) us e = times_passed o ts us e
star_passed (Inverse ∷ ts) us e = absurd (none-some _ e)
star_passed (Relation r ∷ ts) us e = absurd (none-some _ e)
star_passed (Fixed j ∷ ts) us e = absurd (none-some _ e)

all_unit : (ns : List Written) → AllFit (λ (n : Written). Unit {0}) ns
all_unit [] = tt
all_unit (n ∷ ns) = (tt, all_unit ns)

reads_sorts : Reads (both name_first read_arrows) (λ x. spell_domain (Sorts x.0 x.1)) (λ x. Unit {0}) NoArrow
reads_sorts = refit _ _ _ _ NoArrow (λ x f. tt) (λ x f. (tt, all_unit x.1))
    (reads_both name_first read_arrows (λ n. Name n ∷ []) spell_arrows (λ _. Unit {0}) (AllFit (λ (n : Written). Unit {0})) Anywhere NoArrow reads_name reads_arrows (λ ns rest f d. tt))

-- is spelled so and fits
abbrev pub IsDomain : List Sign → Domain → List Sign → Type 0
IsDomain ts d rest = (ts ≡ spell_domain d ++ rest) × FitsDomain d

same_domain : (ts : List Sign) (c d : Domain) (us rest : List Sign) → ◌≡◌ {A = Option (Domain × List Sign)} (Some (c, us)) (Some (d, rest)) → IsDomain ts c us → IsDomain ts d rest
same_domain ts c d us rest e h = let p = some_pair_parts c d us rest e in subst (λ (z : Domain × List Sign). IsDomain ts z.0 z.1) (λ i. (p.0 i, p.1 i)) h

carrier_sound : (ts : List Sign) (d : Domain) (rest : List Sign) → read_carrier ts ≡ Some (d, rest) → IsDomain (Fixed TypeWord ∷ ts) d rest
carrier_sound ts d rest e = elim (choice_cases (after_star ts) (λ us. Some (Carrier true, us)) (Some (Carrier false, ts)) (d, rest) e) [
  | inl h ↦ same_domain _ (Carrier true) d h.0 rest h.2 (ap (λ us. Fixed TypeWord ∷ us) (star_passed ts h.0 h.1), tt)
  | inr h ↦ same_domain _ (Carrier false) d ts rest h.1 (refl, tt)
]

sorts_sound : (ts : List Sign) (d : Domain) (rest : List Sign) → read_sorts ts ≡ Some (d, rest) → IsDomain ts d rest
sorts_sound ts d rest e =
    let m = mapped_made (λ (x : Written × List Written). Sorts x.0 x.1) (both name_first read_arrows) _ _ NoArrow reads_sorts ts d rest e in
    subst (λ (c : Domain). IsDomain ts c rest) m.same (m.whole, tt)

holds_sound : (ts : List Sign) (d : Domain) (rest : List Sign) → mapped Holds read_statement ts ≡ Some (d, rest) → IsDomain ts d rest
holds_sound ts d rest e =
    let m = mapped_made Holds read_statement spell_statement FitsStatement Ends reads_statement ts d rest e in
    subst (λ (c : Domain). IsDomain ts c rest) m.same (m.whole, m.fits)

unnamed_sound : (ts : List Sign) (d : Domain) (rest : List Sign) → cond (begins_sorts ts) (read_sorts ts) (mapped Holds read_statement ts) ≡ Some (d, rest) → IsDomain ts d rest
unnamed_sound ts d rest e = elim (cases_Bool (begins_sorts ts)) [
  | inl t ↦ sorts_sound ts d rest (sym (cond-true (begins_sorts ts) (read_sorts ts) (mapped Holds read_statement ts) t) ∙ e)
  | inr t ↦ holds_sound ts d rest (sym (cond-false (begins_sorts ts) (read_sorts ts) (mapped Holds read_statement ts) t) ∙ e)
]

domain_sound : (ts : List Sign) (d : Domain) (rest : List Sign) → read_domain ts ≡ Some (d, rest) → IsDomain ts d rest
domain_sound ts d rest e = elim (choice_cases (after_fixed TypeWord ts) read_carrier (cond (begins_sorts ts) (read_sorts ts) (mapped Holds read_statement ts)) (d, rest) e) [
  | inl h ↦ subst (λ us. IsDomain us d rest) (sym (after_fixed_spelled TypeWord ts h.0 h.1)) (carrier_sound h.0 d rest h.2)
  | inr h ↦ unnamed_sound ts d rest h.1
]

-- how no domain but a statement begins
pub record IsOpen (ts : List Sign) : Type 0 where
  pub no_type : after_fixed TypeWord ts ≡ None
  pub no_sorts : begins_sorts ts ≡ false

start_closes : (t : Sign) (ts : List Sign) → IsStart t → closes (t ∷ ts) ≡ false
start_closes t ts (a_number f n) = refl
start_closes t ts (a_name n) = refl
start_closes t ts (an_open f) = refl

tree_opens : (a : Tree) (rest : List Sign) → Fits a → closes rest ≡ false → IsOpen (spell a ++ rest)
tree_opens (number f n) rest h c = record { no_type = refl; no_sorts = refl }
tree_opens (name n) rest h c = record { no_type = refl; no_sorts = c }
tree_opens (group f a) rest h c = record { no_type = refl; no_sorts = refl }
tree_opens (ascribed f a sort) rest h c = record { no_type = refl; no_sorts = refl }
tree_opens (minus a) rest h c = record { no_type = refl; no_sorts = refl }
tree_opens (inverse a) rest h c = subst IsOpen (sym (append_assoc (spell a) (Inverse ∷ []) rest)) (tree_opens a (Inverse ∷ rest) h.1 refl)
tree_opens (binary o a b) rest h c = subst IsOpen (sym (append_assoc (spell a) (Operator o ∷ spell b) rest)) (tree_opens a (Operator o ∷ (spell b ++ rest)) h.2 refl)
tree_opens (apply a b) rest h c =
    let s = starts b h.4 h.1 in
    let e : spell b ++ rest ≡ s.head ∷ (s.tail ++ rest) = ap (λ us. us ++ rest) s.cut in
    subst IsOpen (sym (append_assoc (spell a) (spell b) rest)) (tree_opens a (spell b ++ rest) h.3 (ap closes e ∙ start_closes s.head (s.tail ++ rest) s.begins))

sorts_begin : (ns : List Written) (rest : List Sign) → closes rest ≡ true → closes (spell_arrows ns ++ rest) ≡ true
sorts_begin [] rest c = c
sorts_begin (n ∷ ns) rest c = refl

domain_complete : (d : Domain) (rest : List Sign) → FitsDomain d → EndsDomain rest → read_domain (spell_domain d ++ rest) ≡ Some (d, rest)
domain_complete (Carrier true) rest f d = refl
domain_complete (Carrier false) rest f d = ap (λ o. choice o (λ us. Some (Carrier true, us)) (Some (Carrier false, rest))) d.no_star
domain_complete (Sorts n ns) rest f d =
    let ts = Name n ∷ (spell_arrows ns ++ rest) in
    cond-true (begins_sorts ts) (read_sorts ts) (mapped Holds read_statement ts) (sorts_begin ns rest d.closed)
    ∙ ap (option_map (λ x. (Sorts x.0.0 x.0.1, x.1))) (reads_sorts.complete (n, ns) rest tt d.no_arrow)
domain_complete (Holds s) rest f d =
    let ts = spell_statement s ++ rest in
    let o = subst IsOpen (sym (append_assoc (spell s.lhs) (Relation s.relation ∷ spell s.rhs) rest)) (tree_opens s.lhs (Relation s.relation ∷ (spell s.rhs ++ rest)) f.0 refl) in
    ap (λ x. choice x read_carrier (cond (begins_sorts ts) (read_sorts ts) (mapped Holds read_statement ts))) o.no_type
    ∙ (cond-false (begins_sorts ts) (read_sorts ts) (mapped Holds read_statement ts) o.no_sorts
    ∙ ap (option_map (λ x. (Holds x.0, x.1))) (reads_statement.complete s rest f d.ended))

pub reads_domain : Reads read_domain spell_domain FitsDomain EndsDomain
reads_domain = record { sound = domain_sound; complete = domain_complete }

pub reads_typed : Reads read_typed spell_typed (λ t. FitsDomain t.domain) EndsDomain
reads_typed =
    let said = reads_behind (after_fixed Colon) (Fixed Colon) read_domain spell_domain FitsDomain EndsDomain (skips_fixed Colon) reads_domain in
    let named = reads_both read_names (behind (after_fixed Colon) read_domain) spell_names (λ d. Fixed Colon ∷ spell_domain d) (AllFit (λ (n : Written). Unit {0})) FitsDomain NoName EndsDomain reads_names said (λ d rest f e. refl) in
    let all = reads_both name_first _ (λ n. Name n ∷ []) _ (λ _. Unit {0}) _ Anywhere EndsDomain reads_name named (λ x rest f e. tt) in
    let made = reads_mapped (λ x. record { first = x.0; more = x.1.0; domain = x.1.1 }) (λ (t : Typed). (t.first, (t.more, t.domain))) _ _ _ EndsDomain (λ x. refl) (λ t. refl) all in
    refit read_typed spell_typed _ (λ t. FitsDomain t.domain) EndsDomain (λ t f. f.1.1) (λ t f. (tt, (all_unit t.more, f))) made

reads_explicit : Reads (ahead read_typed after_close) (λ t. spell_typed t ++ Close ∷ []) (λ t. FitsDomain t.domain) Anywhere
reads_explicit = reads_ahead after_close Close read_typed spell_typed (λ t. FitsDomain t.domain) EndsDomain Anywhere skips_close reads_typed close_ends

reads_implicit : Reads (ahead read_typed (after_fixed CloseBrace)) (λ t. spell_typed t ++ Fixed CloseBrace ∷ []) (λ t. FitsDomain t.domain) Anywhere
reads_implicit = reads_ahead (after_fixed CloseBrace) (Fixed CloseBrace) read_typed spell_typed (λ t. FitsDomain t.domain) EndsDomain Anywhere (skips_fixed CloseBrace) reads_typed brace_ends

reads_class : Reads (both name_first (ahead name_first (after_fixed CloseBracket))) (λ x. Name x.0 ∷ Name x.1 ∷ Fixed CloseBracket ∷ []) (λ x. Unit {0} × Unit {0}) Anywhere
reads_class = reads_both name_first (ahead name_first (after_fixed CloseBracket)) (λ n. Name n ∷ []) (λ n. Name n ∷ Fixed CloseBracket ∷ []) (λ _. Unit {0}) (λ _. Unit {0}) Anywhere Anywhere reads_name
    (reads_ahead (after_fixed CloseBracket) (Fixed CloseBracket) name_first (λ n. Name n ∷ []) (λ _. Unit {0}) Anywhere Anywhere (skips_fixed CloseBracket) reads_name (λ rest. tt))
    (λ n rest f e. tt)

-- is spelled so and fits
abbrev pub IsBinder : List Sign → Binder → List Sign → Type 0
IsBinder ts b rest = (ts ≡ spell_binder b ++ rest) × FitsBinder b

explicit_sound : (f : Bool) (ts : List Sign) (b : Binder) (rest : List Sign) → mapped (λ t. Explicit f t) (ahead read_typed after_close) ts ≡ Some (b, rest) → IsBinder (Open f ∷ ts) b rest
explicit_sound f ts b rest e =
    let m = mapped_made (λ (t : Typed). Explicit f t) (ahead read_typed after_close) _ _ Anywhere reads_explicit ts b rest e in
    subst (λ (c : Binder). IsBinder (Open f ∷ ts) c rest) m.same (ap (λ us. Open f ∷ us) m.whole, m.fits)

implicit_sound : (ts : List Sign) (b : Binder) (rest : List Sign) → mapped Implicit (ahead read_typed (after_fixed CloseBrace)) ts ≡ Some (b, rest) → IsBinder (Fixed OpenBrace ∷ ts) b rest
implicit_sound ts b rest e =
    let m = mapped_made Implicit (ahead read_typed (after_fixed CloseBrace)) _ _ Anywhere reads_implicit ts b rest e in
    subst (λ (c : Binder). IsBinder (Fixed OpenBrace ∷ ts) c rest) m.same (ap (λ us. Fixed OpenBrace ∷ us) m.whole, m.fits)

class_sound : (ts : List Sign) (b : Binder) (rest : List Sign) → read_instance ts ≡ Some (b, rest) → IsBinder (Fixed OpenBracket ∷ ts) b rest
class_sound ts b rest e =
    let m = mapped_made (λ (x : Written × Written). Instance x.0 x.1) (both name_first (ahead name_first (after_fixed CloseBracket))) _ _ Anywhere reads_class ts b rest e in
    subst (λ (c : Binder). IsBinder (Fixed OpenBracket ∷ ts) c rest) m.same (ap (λ us. Fixed OpenBracket ∷ us) m.whole, tt)

braced_sound : (ts : List Sign) (b : Binder) (rest : List Sign) → read_braced ts ≡ Some (b, rest) → IsBinder ts b rest
braced_sound ts b rest e = elim (choice_cases (after_fixed OpenBrace ts) (mapped Implicit (ahead read_typed (after_fixed CloseBrace))) (behind (after_fixed OpenBracket) read_instance ts) (b, rest) e) [
  | inl h ↦ subst (λ us. IsBinder us b rest) (sym (after_fixed_spelled OpenBrace ts h.0 h.1)) (implicit_sound h.0 b rest h.2)
  | inr h ↦ let m = and_then_some read_instance (after_fixed OpenBracket ts) (b, rest) h.1 in subst (λ us. IsBinder us b rest) (sym (after_fixed_spelled OpenBracket ts m.0 m.1)) (class_sound m.0 b rest m.2)
]

binder_sound : (ts : List Sign) (b : Binder) (rest : List Sign) → read_binder ts ≡ Some (b, rest) → IsBinder ts b rest
binder_sound [] b rest e = absurd (none-some _ e)
binder_sound (Number f n ∷ ts) b rest e = absurd (none-some _ e)
binder_sound (Name n ∷ ts) b rest e = absurd (none-some _ e)
binder_sound (Open f ∷ ts) b rest e = explicit_sound f ts b rest e
binder_sound (Close ∷ ts) b rest e = absurd (none-some _ e)
binder_sound (Operator o ∷ ts) b rest e = absurd (none-some _ e)
binder_sound (Inverse ∷ ts) b rest e = absurd (none-some _ e)
binder_sound (Relation r ∷ ts) b rest e = absurd (none-some _ e)
binder_sound (Fixed j ∷ ts) b rest e = braced_sound (Fixed j ∷ ts) b rest e

binder_complete : (b : Binder) (rest : List Sign) → FitsBinder b → Anywhere rest → read_binder (spell_binder b ++ rest) ≡ Some (b, rest)
binder_complete (Explicit f t) rest h d = ap (option_map (λ x. (Explicit f x.0, x.1))) (reads_explicit.complete t rest h tt)
binder_complete (Implicit t) rest h d = ap (option_map (λ x. (Implicit x.0, x.1))) (reads_implicit.complete t rest h tt)
binder_complete (Instance class sort) rest h d = refl

pub reads_binder : Reads read_binder spell_binder FitsBinder Anywhere
reads_binder = record { sound = binder_sound; complete = binder_complete }

binder_opens : (b : Binder) (rest : List Sign) → FitsBinder b → opens_binder (spell_binder b ++ rest) ≡ true
binder_opens (Explicit f t) rest h = refl
binder_opens (Implicit t) rest h = refl
binder_opens (Instance class sort) rest h = refl

binder_short : (b : Binder) → FitsBinder b → 1 ≤ length (spell_binder b)
binder_short (Explicit f t) h = omega arith
binder_short (Implicit t) h = omega arith
binder_short (Instance class sort) h = omega arith

-- no further binder follows
abbrev pub NoBinder : List Sign → Type 0
NoBinder ts = opens_binder ts ≡ false

pub binders_list : Lists read_binder opens_binder spell_binder FitsBinder Anywhere NoBinder
binders_list = record {
  finds = λ ts b rest t e. binder_sound ts b rest e;
  reads = binder_complete;
  starts = binder_opens;
  stops = λ rest d. d;
  between = λ b rest f. tt;
  ends = λ rest d. tt;
  short = binder_short;
}

pub reads_binders : Reads read_binders (spell_all spell_binder) (AllFit FitsBinder) NoBinder
reads_binders = reads_all read_binder opens_binder spell_binder FitsBinder Anywhere NoBinder binders_list
