-- What was said, piece by piece.
use Rattle.std.proofs.Common.{◌≡◌, ℕ, List, [], ◌++◌, refl, ap, sym, ◌∙◌, subst, append_assoc, append-nil, Ok, Err, Some, None}
use Rattle.std.specs.Prelude.{Option, Result, OnOk, IsErr}
use Rattle.std.specs.Option.{option_map}
use Rattle.alg_host.specs.Host.{Told, Adds, adds_said}
use Rattle.alg_check.specs.Checking.{SaysOnly}

pub said_nothing : (t : Option Told) → t ≡ option_map (adds_said []) t
said_nothing None = refl
said_nothing (Some t) = simp append-nil

said_twice : (a b : List ℕ) (t : Option Told) → option_map (adds_said b) (option_map (adds_said a) t) ≡ option_map (adds_said (a ++ b)) t
said_twice a b None = refl
said_twice a b (Some t) = simp append_assoc

pub said_then : (a b : List ℕ) (t0 t1 t2 : Option Told) → t1 ≡ option_map (adds_said a) t0 → t2 ≡ option_map (adds_said b) t1 → t2 ≡ option_map (adds_said (a ++ b)) t0
said_then a b t0 t1 t2 p q = q ∙ (ap (option_map (adds_said b)) p ∙ said_twice a b t0)

not_ok : {U F : Type 0} (s : Result U F) (P : Type 0) → IsErr s → OnOk s P
not_ok (Ok u) P bad = absurd (cc)
not_ok (Err f) P bad = tt

always : {U F : Type 0} (s : Result U F) (P : Type 0) → P → OnOk s P
always (Ok u) P p = p
always (Err f) P p = tt

pub from_ok : {U F : Type 0} (r : Result U F) (x : U) (P : Type 0) → r ≡ Ok x → OnOk r P → P
from_ok r x P e p = rw e at p

prefix : (before piece more whole part rest : List ℕ) → whole ≡ before ++ (piece ++ more) → piece ≡ part ++ rest → whole ≡ (before ++ part) ++ (rest ++ more)
prefix before piece more whole part rest is e = is ∙ (ap (λ p. before ++ (p ++ more)) e ∙ (ap (λ p. before ++ p) (append_assoc part rest more) ∙ sym (append_assoc before part (rest ++ more))))

-- the text ends in a piece, or behind one
pub cut_short : {T E U F : Type 0} (before piece more whole : List ℕ) (t0 t1 t2 : Option Told) (r : Result T E) (s : Result U F) → t1 ≡ option_map (adds_said before) t0 → whole ≡ before ++ (piece ++ more)
    → Adds adds_said piece r t1 t2 → IsErr s → Adds adds_said whole s t0 t2
cut_short before piece more whole t0 t1 t2 r s told is a bad =
    (before ++ a.0, (a.1.0 ++ more, prefix before piece more whole a.0 a.1.0 is a.1.1), not_ok s _ bad, said_then before a.0 t0 t1 t2 told a.3)

-- a piece was said
pub one_said : {T E : Type 0} (before piece : List ℕ) (t0 t1 t2 : Option Told) (r : Result T E) (x : T) → t1 ≡ option_map (adds_said before) t0 → r ≡ Ok x → Adds adds_said piece r t1 t2 → t2 ≡ option_map (adds_said (before ++ piece)) t0
one_said before piece t0 t1 t2 r x told e a =
    let whole_piece : a.0 ≡ piece = from_ok r x (a.0 ≡ piece) e a.2 in
    said_then before piece t0 t1 t2 told (subst (λ (p : List ℕ). t2 ≡ option_map (adds_said p) t1) whole_piece a.3)

-- nothing more was said
pub stops : {U F : Type 0} (before whole more : List ℕ) (t0 t1 : Option Told) (s : Result U F) → t1 ≡ option_map (adds_said before) t0 → whole ≡ before ++ more → IsErr s → Adds adds_said whole s t0 t1
stops before whole more t0 t1 s told is bad = (before, (more, is), not_ok s _ bad, told)

-- all was said
pub all_said : {U F : Type 0} (before whole : List ℕ) (t0 t1 : Option Told) (s : Result U F) → t1 ≡ option_map (adds_said before) t0 → whole ≡ before → Adds adds_said whole s t0 t1
all_said before whole t0 t1 s told is = (before, ([], is ∙ sym (append-nil before)), always s _ (sym is), told)

-- whatever was said

pub says_nothing : (t : Option Told) → SaysOnly t t
says_nothing t = ([], said_nothing t)

pub says_part : {T E : Type 0} (piece : List ℕ) (t0 t1 : Option Told) (r : Result T E) → Adds adds_said piece r t0 t1 → SaysOnly t0 t1
says_part piece t0 t1 r a = (a.0, a.3)

pub says_then : (t0 t1 t2 : Option Told) → SaysOnly t0 t1 → SaysOnly t1 t2 → SaysOnly t0 t2
says_then t0 t1 t2 p q = (p.0 ++ q.0, said_then p.0 q.0 t0 t1 t2 p.1 q.1)
