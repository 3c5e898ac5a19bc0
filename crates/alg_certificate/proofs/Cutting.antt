-- How a line is cut off.
use Rattle.std.proofs.Common.{◌≡◌, ◌≢◌, ℕ, ◌+◌, List, [], ◌∷◌, ◌++◌, length, take, refl, sym, ap, ◌∙◌, arith, append_assoc, append-nil, take_at, length-append}
use Rattle.alg_certificate.specs.Cutting.{cut}
use Rattle.alg_certificate.specs.Grammar.{HasNoFeed}
use Rattle.alg_certificate.proofs.CuttingLaws.{cut_feed, cut_none}

pub record Passed (all : List ℕ) (count : ℕ) (left : List ℕ) : Type 0 where
  pub line : List ℕ
  pub whole : all ≡ line ++ left
  pub size : count ≡ length line
  pub plain : HasNoFeed line

plain_push : (cs : List ℕ) (c : ℕ) → HasNoFeed cs → c ≢ 10 → HasNoFeed (cs ++ c ∷ [])
plain_push [] c p d = (d, tt)
plain_push (x ∷ xs) c p d = (p.0, plain_push xs c p.1 d)

pub passed_none : (all : List ℕ) → Passed all 0 all
passed_none all = record { line = []; whole = refl; size = refl; plain = tt }

pub passed_more : (all : List ℕ) (n c : ℕ) (left rest : List ℕ) → Passed all n left → left ≡ c ∷ rest → c ≢ 10 → Passed all (n + 1) rest
passed_more all n c left rest p e d = record {
  line = p.line ++ c ∷ [];
  whole = p.whole ∙ (ap (λ x. p.line ++ x) e ∙ sym (append_assoc p.line (c ∷ []) rest));
  size = omega (arith, p.size, length-append p.line (c ∷ []));
  plain = plain_push p.line c p.plain d;
}

pub passed_line : (all : List ℕ) (n : ℕ) (left rest xs : List ℕ) → Passed all n left → left ≡ 10 ∷ rest → xs ≡ take n all → (cut all ≡ (xs ∷ (cut rest).0, (cut rest).1)) × (length all ≡ length xs + 1 + length rest)
passed_line all n left rest xs p e f =
    let whole : all ≡ p.line ++ 10 ∷ rest = p.whole ∙ ap (λ x. p.line ++ x) e in
    let same : xs ≡ p.line = f ∙ (ap (take n) whole ∙ take_at p.line (10 ∷ rest) n (sym p.size)) in
    (ap cut whole ∙ (cut_feed p.line rest p.plain ∙ ap (λ l. (l ∷ (cut rest).0, (cut rest).1)) (sym same)), omega (arith, ap length whole, length-append p.line (10 ∷ rest), ap length same))

pub passed_all : (all : List ℕ) (n : ℕ) (left : List ℕ) → Passed all n left → left ≡ [] → cut all ≡ ([], all)
passed_all all n left p e =
    let whole : all ≡ p.line = p.whole ∙ (ap (λ x. p.line ++ x) e ∙ append-nil p.line) in
    ap cut whole ∙ (cut_none p.line p.plain ∙ ap (λ l. ([], l)) (sym whole))

pub passed_within : (all : List ℕ) (n : ℕ) (left : List ℕ) → Passed all n left → length all ≡ n + length left
passed_within all n left p = omega (arith, p.size, ap length p.whole, length-append p.line left)
