-- What is cut off of a text that is put together.
use Rattle.std.proofs.Common.{◌≡◌, ℕ, List, [], ◌∷◌, ◌++◌, Some, refl, ne_eqb, eq-eqb}
use Rattle.alg_certificate.specs.Cutting.{cut, after}
use Rattle.alg_certificate.specs.Grammar.{HasNoFeed}

pub cut_feed : (line rest : List ℕ) → HasNoFeed line → cut (line ++ 10 ∷ rest) ≡ (line ∷ (cut rest).0, (cut rest).1)
unfolding cut
cut_feed [] rest p = refl
cut_feed (c ∷ cs) rest p = rw (ne_eqb c 10 p.0, cut_feed cs rest p.1) refl

pub cut_none : (text : List ℕ) → HasNoFeed text → cut text ≡ ([], text)
unfolding cut
cut_none [] p = refl
cut_none (c ∷ cs) p = rw (ne_eqb c 10 p.0, cut_none cs p.1) refl

pub after_whole : (p rest : List ℕ) → after p (p ++ rest) ≡ Some rest
after_whole [] rest = refl
after_whole (c ∷ cs) rest = rw (eq-eqb c c refl) (after_whole cs rest)
