-- What comes, one line at a time.
use Rattle.std.proofs.Common.{◌≡◌, ℕ, ◌+◌, true, false, ◌&&◌, List, [], ◌∷◌, length, Some, None, refl, ap, ◌∙◌}
use Rattle.alg_certificate.specs.declared.reader.State.{State}
use Rattle.alg_certificate.specs.Cutting.{Cut, cut, is_empty}
use Rattle.alg_certificate.specs.Reader.{TextLine, line_in, kind_of, may_end, fails, with_line, lines_from, coming_at}

pub at_end : (at : ℕ) (st : State) (rest : List ℕ) → cut rest ≡ ([], rest) → (is_empty rest && may_end st) ≡ true → coming_at at st rest ≡ record { lines = []; fault = None }
unfolding lines_from
at_end at st rest e d = ap (λ (x : Cut). lines_from at st x.0 x.1) e ∙ rw d refl

pub at_fault : (at : ℕ) (st : State) (rest : List ℕ) → cut rest ≡ ([], rest) → (is_empty rest && may_end st) ≡ false → coming_at at st rest ≡ fails at
unfolding lines_from
at_fault at st rest e d = ap (λ (x : Cut). lines_from at st x.0 x.1) e ∙ rw d refl

pub bad_line : (at : ℕ) (st : State) (rest l : List ℕ) (ls : List (List ℕ)) (t : List ℕ) → cut rest ≡ (l ∷ ls, t) → line_in st l (kind_of l) ≡ None → coming_at at st rest ≡ fails at
unfolding lines_from
bad_line at st rest l ls t e d = ap (λ (x : Cut). lines_from at st x.0 x.1) e ∙ ap (λ o. with_line o at (λ next. lines_from (at + (length l + 1)) next ls t)) d

pub good_line : (at : ℕ) (st next : State) (rest l more : List ℕ) (i : TextLine) (place : ℕ) → cut rest ≡ (l ∷ (cut more).0, (cut more).1) → line_in st l (kind_of l) ≡ Some (i, next) → at + (length l + 1) ≡ place
    → coming_at at st rest ≡ record { lines = i ∷ (coming_at place next more).lines; fault = (coming_at place next more).fault }
unfolding lines_from
good_line at st next rest l more i place e d same =
    ap (λ (x : Cut). lines_from at st x.0 x.1) e
    ∙ (ap (λ o. with_line o at (λ s. lines_from (at + (length l + 1)) s (cut more).0 (cut more).1)) d
    ∙ ap (λ k. with_line (Some (i, next)) at (λ s. lines_from k s (cut more).0 (cut more).1)) same)
