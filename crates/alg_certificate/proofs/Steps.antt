-- Nothing comes without the header.
use Rattle.std.proofs.Common.{◌≡◌, ℕ, ◌+◌, Bool, true, false, List, [], ◌∷◌, length, Option, Some, None, refl, ap, ◌∙◌, arith, if◌then◌else◌}
use Rattle.std.proofs.lemmas.Option.{none-some}
use Rattle.alg_certificate.specs.declared.reader.State.TheVariants.{Broken}
use Rattle.alg_certificate.specs.Cutting.{cut, after}
use Rattle.alg_certificate.specs.Reader.{fails, lines_from, coming_at}

-- nothing is read after a header that isn't there
broken_by : (ls : List (List ℕ)) (t : List ℕ) → lines_from 0 Broken ls t ≡ fails 0
unfolding lines_from
broken_by [] [] = refl
broken_by [] (c ∷ cs) = refl
broken_by (l ∷ ls) t = refl

pub broken : (text : List ℕ) (at : ℕ) → at ≡ 0 → coming_at at Broken text ≡ fails 0
broken text at e = ap (λ k. coming_at k Broken text) e ∙ broken_by (cut text).0 (cut text).1

size_by : (p : ℕ) (ps : List ℕ) (c : ℕ) (cs rest : List ℕ) (b : Bool) → (after ps cs ≡ Some rest → length cs ≡ length ps + length rest) → if◌then◌else◌ {A = Option (List ℕ)} b (after ps cs) None ≡ Some rest → length (c ∷ cs) ≡ length (p ∷ ps) + length rest
size_by p ps c cs rest false ih e = absurd (none-some _ e)
size_by p ps c cs rest true ih e = omega (arith, ih e)

pub after_size : (p text rest : List ℕ) → after p text ≡ Some rest → length text ≡ length p + length rest
after_size [] text rest e = let same : text ≡ rest = cc in omega (arith, ap length same)
after_size (p ∷ ps) [] rest e = absurd (none-some _ e)
after_size (p ∷ ps) (c ∷ cs) rest e = size_by p ps c cs rest _ (λ h. after_size ps cs rest h) e
