-- A certificate has no more lines than bytes.
use Rattle.std.proofs.Common.{◌≡◌, ℕ, suc, ◌+◌, ◌≤◌, List, [], ◌∷◌, length, Bool, true, false, refl, ap, arith, Some, None}
use Rattle.std.specs.Prelude.{Option, codes, ◌&&◌, ◌==◌, if◌then◌else◌}
use Rattle.alg_certificate.specs.declared.reader.State.{State}
use Rattle.alg_certificate.specs.declared.reader.State.TheVariants.{Outside}
use Rattle.alg_certificate.specs.Cutting.{Cut, after, is_empty, into, cut}
use Rattle.alg_certificate.specs.Reader.{Coming, TextLine, kind_of, line_in, may_end, fails, with_line, lines_from, after_header, coming_of}

ended_none : (b : Bool) (at : ℕ) → length (if b then record { lines = []; fault = None } else fails at).lines ≤ 0
ended_none true at = omega arith
ended_none false at = omega arith

line_more : (o : Option (TextLine × State)) (at n : ℕ) (rest : State → Coming) → ((st : State) → length (rest st).lines ≤ n) → length (with_line o at rest).lines ≤ suc n
line_more None at n rest h = omega arith
line_more (Some x) at n rest h = omega (arith, h x.1)

few_from : (ls : List (List ℕ)) (at : ℕ) (st : State) (tail : List ℕ) → length (lines_from at st ls tail).lines ≤ length ls
unfolding lines_from
few_from [] at st tail = ended_none (is_empty tail && may_end st) at
few_from (l ∷ ls) at st tail = line_more (line_in st l (kind_of l)) at (length ls) _ (λ next. few_from ls (at + (length l + 1)) next tail)

into_few : (c : ℕ) (x : Cut) → length (into c x.0 x.1).0 ≤ length x.0
into_few c ([], tail) = omega arith
into_few c (l ∷ ls, tail) = omega arith

add_few : (b : Bool) (c : ℕ) (x : Cut) → length (if b then ([] ∷ x.0, x.1) else into c x.0 x.1).0 ≤ length x.0 + 1
add_few true c x = omega arith
add_few false c x = omega (arith, into_few c x)

cut_few : (text : List ℕ) → length (cut text).0 ≤ length text
unfolding cut
cut_few [] = omega arith
cut_few (c ∷ cs) = omega (arith, add_few (c == 10) c (cut cs), cut_few cs)

tested_few : (b : Bool) (o : Option (List ℕ)) (rest : List ℕ) (n : ℕ) → (o ≡ Some rest → length rest ≤ n) → (if b then o else None) ≡ Some rest → length rest ≤ suc n
tested_few true o rest n h e = omega (arith, h e)
tested_few false o rest n h e = absurd (cc)

after_few : (front text rest : List ℕ) → after front text ≡ Some rest → length rest ≤ length text
after_few [] text rest e = let q : text ≡ rest = cc in omega (arith, ap (λ (l : List ℕ). length l) q)
after_few (p ∷ ps) [] rest e = absurd (cc)
after_few (p ∷ ps) (c ∷ cs) rest e = tested_few (c == p) (after ps cs) rest (length cs) (after_few ps cs rest) e

headed_few : (o : Option (List ℕ)) (n : ℕ) → ((rest : List ℕ) → o ≡ Some rest → length rest ≤ n) → length (after_header o).lines ≤ n
headed_few None n h = omega arith
headed_few (Some rest) n h = omega (arith, few_from (cut rest).0 15 Outside (cut rest).1, cut_few rest, h rest refl)

pub few_lines : (text : List ℕ) (c : Coming) → c ≡ coming_of text → length c.lines ≤ length text
few_lines text c e = omega (arith, ap (λ (x : Coming). length x.lines) e, headed_few (after (codes "algebra-cert 1\n") text) (length text) (λ rest q. after_few (codes "algebra-cert 1\n") text rest q))
