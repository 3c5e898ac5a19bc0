-- The names that a statement is written with are names to the lexer.
use Rattle.std.proofs.Common.{◌≡◌, ℕ, zero, suc, ◌<◌, List, [], ◌∷◌, length, true, false, Option, Some, None, refl, ap, sym, ◌∙◌, subst}
use Rattle.std.specs.Prelude.{⊤, codes, slice_get}
use Rattle.std.specs.Str.{IsUtf8}
use Rattle.std.proofs.lemmas.Str.{chars_from_encodes}
use Rattle.unicode_ident.proofs.Computing.{unicode_ident}
use Rattle.alg_terms.specs.declared.sorts.Sort.{Sort}
use Rattle.alg_terms.specs.declared.sorts.Sort.TheVariants.{Nat, Int, Rat, Decl}
use Rattle.alg_law.specs.Declarations.{Declaration, Carrier, Instance, Variable, Function, Hypothesis}
use Rattle.alg_law.specs.Following.{IsKnown}
use Rattle.alg_law.specs.WellSorted.{is_type, variable_of, function_of}
use Rattle.alg_lex.specs.Tokens.{is_name, is_word}
use Rattle.alg_well_sorted.proofs.EnteringLaws.{type_there}
use Rattle.alg_show.specs.Names.{name_if, name_at, sort_name}
use Rattle.alg_show.specs.ReadingBack.{IsNamed, IsWritable, AllWritable}

pub named_by : (t : List ℕ) (u : IsUtf8 t) → is_name u.0 ≡ true → is_word t ≡ false → IsNamed t
named_by t u e f = record { utf8 = u; name = ap is_name (sym (chars_from_encodes u.0 t u u.1.1)) ∙ e; free = f }

pub abs-named : IsNamed (codes "abs")
unfolding unicode_ident lib.Utf8.encode
abs-named = named_by (codes "abs") (codes "abs", (refl, refl)) refl refl

pub min-named : IsNamed (codes "min")
unfolding unicode_ident lib.Utf8.encode
min-named = named_by (codes "min") (codes "min", (refl, refl)) refl refl

pub max-named : IsNamed (codes "max")
unfolding unicode_ident lib.Utf8.encode
max-named = named_by (codes "max") (codes "max", (refl, refl)) refl refl

pub gcd-named : IsNamed (codes "Nat.gcd")
unfolding unicode_ident lib.Utf8.encode
gcd-named = named_by (codes "Nat.gcd") (codes "Nat.gcd", (refl, refl)) refl refl

pub lcm-named : IsNamed (codes "Nat.lcm")
unfolding unicode_ident lib.Utf8.encode
lcm-named = named_by (codes "Nat.lcm") (codes "Nat.lcm", (refl, refl)) refl refl

pub factorial-named : IsNamed (codes "Nat.factorial")
unfolding unicode_ident lib.Utf8.encode
factorial-named = named_by (codes "Nat.factorial") (codes "Nat.factorial", (refl, refl)) refl refl

pub choose-named : IsNamed (codes "Nat.choose")
unfolding unicode_ident lib.Utf8.encode
choose-named = named_by (codes "Nat.choose") (codes "Nat.choose", (refl, refl)) refl refl

pub fib-named : IsNamed (codes "Nat.fib")
unfolding unicode_ident lib.Utf8.encode
fib-named = named_by (codes "Nat.fib") (codes "Nat.fib", (refl, refl)) refl refl

abbrev IsWritableIf : Option Declaration → Type 0
IsWritableIf None = ⊤
IsWritableIf (Some d) = IsWritable d

writable_at : (ds : List Declaration) (k : ℕ) → AllWritable ds → IsWritableIf (slice_get ds k)
writable_at [] zero h = tt
writable_at [] (suc k) h = tt
writable_at (d ∷ ds) zero h = h.0
writable_at (d ∷ ds) (suc k) h = writable_at ds k h.1

type_named : (o : Option Declaration) → IsWritableIf o → is_type o ≡ true → IsNamed (name_if o)
type_named None h e = cc
type_named (Some (Carrier n)) h e = h
type_named (Some (Instance k c)) h e = cc
type_named (Some (Variable n l)) h e = cc
type_named (Some (Function n ls l)) h e = cc
type_named (Some (Hypothesis n p)) h e = cc

variable_named : (o : Option Declaration) (l : Sort) → IsWritableIf o → variable_of o ≡ Some l → IsNamed (name_if o)
variable_named None l h e = cc
variable_named (Some (Carrier n)) l h e = cc
variable_named (Some (Instance k c)) l h e = cc
variable_named (Some (Variable n m)) l h e = h
variable_named (Some (Function n ls m)) l h e = cc
variable_named (Some (Hypothesis n p)) l h e = cc

abbrev sorts_in : Option (List Sort × Sort) → List Sort
sorts_in None = []
sorts_in (Some p) = p.0

function_named : (o : Option Declaration) (ls : List Sort) (l : Sort) → IsWritableIf o → function_of o ≡ Some (ls, l) → IsNamed (name_if o) × (0 < length ls)
function_named None ls l h e = cc
function_named (Some (Carrier n)) ls l h e = cc
function_named (Some (Instance k c)) ls l h e = cc
function_named (Some (Variable n m)) ls l h e = cc
function_named (Some (Function n ms m)) ls l h e = (h.0, subst (λ (xs : List Sort). 0 < length xs) (ap sorts_in e) h.1)
function_named (Some (Hypothesis n p)) ls l h e = cc

nat-named : IsNamed (0xE2 ∷ 0x84 ∷ 0x95 ∷ [])
unfolding unicode_ident lib.Utf8.encode
nat-named = named_by _ (0x2115 ∷ [], (refl, refl)) refl refl

int-named : IsNamed (0xE2 ∷ 0x84 ∷ 0xA4 ∷ [])
unfolding unicode_ident lib.Utf8.encode
int-named = named_by _ (0x2124 ∷ [], (refl, refl)) refl refl

rat-named : IsNamed (0xE2 ∷ 0x84 ∷ 0x9A ∷ [])
unfolding unicode_ident lib.Utf8.encode
rat-named = named_by _ (0x211A ∷ [], (refl, refl)) refl refl

pub sort-named : (ds : List Declaration) → AllWritable ds → (k : Sort) → IsKnown ds k → IsNamed (sort_name ds k)
sort-named ds w Nat h = nat-named
sort-named ds w Int h = int-named
sort-named ds w Rat h = rat-named
sort-named ds w (Decl k) h = type_named (slice_get ds k) (writable_at ds k w) (type_there (is_type (slice_get ds k)) h)

pub variable-named : (ds : List Declaration) → AllWritable ds → (d : ℕ) (l : Sort) → variable_of (slice_get ds d) ≡ Some l → IsNamed (name_at ds d)
variable-named ds w d l e = variable_named (slice_get ds d) l (writable_at ds d w) e

pub function-named : (ds : List Declaration) → AllWritable ds → (d : ℕ) (ls : List Sort) (l : Sort) → function_of (slice_get ds d) ≡ Some (ls, l) → IsNamed (name_at ds d) × (0 < length ls)
function-named ds w d ls l e = function_named (slice_get ds d) ls l (writable_at ds d w) e
