-- The trees of whole numbers by their signs.
use Rattle.std.specs.Prelude.{◌≡◌, ℤ, pos, negsuc, refl}
use Rattle.alg_terms.specs.declared.sorts.Sort.{Sort}
use Rattle.alg_terms.specs.declared.sorts.Sort.TheVariants.{Nat, Int}
use Rattle.alg_lemma.specs.Library.{HoldsLibrary}
use Rattle.alg_build.specs.Book.{Book, Grows}
use Rattle.alg_numerals.specs.Numerals.{HasLiterals, HasSigns, HasWhole, SignsOf}
use Rattle.alg_numerals.proofs.LiteralLemmas.{literal_facts, grows-literals, grows-signs}

signs-of : (b : Book) (s : Sort) (x : ℤ) → HasSigns b s → SignsOf b s x
signs-of b s (pos n) h = tt
signs-of b s (negsuc n) h = h

pub signs-whole : (b : Book) (s : Sort) (x : ℤ) → HasSigns b s → HasWhole b s x
signs-whole b s x h = record { literals = h.literals; signs = signs-of b s x h }

grows-of : (a b : Book) (s : Sort) (x : ℤ) → Grows a b → SignsOf a s x → SignsOf b s x
grows-of a b s (pos n) g h = tt
grows-of a b s (negsuc n) g h = grows-signs a b g s h

pub grows-whole : (a b : Book) (s : Sort) (x : ℤ) → Grows a b → HasWhole a s x → HasWhole b s x
grows-whole a b s x g h = record { literals = grows-literals a b g s h.literals; signs = grows-of a b s x g h.signs }

-- ℕ has literals, and ℤ both
pub natural-literals : (b : Book) → HoldsLibrary b.theory.lemmas → HasLiterals b Nat
natural-literals b h = record { known = refl; semiring = refl; library = h }

pub integer-signs : (b : Book) → HoldsLibrary b.theory.lemmas → HasSigns b Int
integer-signs b h = record { literals = record { known = refl; semiring = refl; library = h }; group = refl; commutative = refl; ring = refl }

pub ruleset wholes = (literal_facts, natural-literals, integer-signs, signs-whole, grows-whole)
