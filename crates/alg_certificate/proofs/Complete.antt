-- Every line of the grammar is read, and nothing else.
use Rattle.std.proofs.Common.{◌≡◌, ℕ, ◌+◌, Bool, true, false, ◌&&◌, List, [], ◌∷◌, ◌++◌, length, Option, Some, None, refl, sym, ap, subst, ◌∙◌, if◌then◌else◌}
use Rattle.std.proofs.lemmas.Bool.{and_parts, both_ways}
use Rattle.std.proofs.lemmas.Option.{none-some}
use Rattle.alg_certificate.specs.declared.reader.State.{State}
use Rattle.alg_certificate.specs.declared.reader.State.TheVariants.{Outside, Broken}
use Rattle.alg_certificate.specs.Cutting.{cut, after, is_empty}
use Rattle.alg_certificate.specs.Reader.{TextLine, Coming, kind_of, line_in, may_end, fails, ended, with_line, lines_from, coming_at, coming_of, after_header}
use Rattle.alg_certificate.specs.Grammar.{Begins, NoneBegins, AreLines, header, AreLinesOf}
use Rattle.alg_certificate.proofs.NumberLaws.{some_is}
use Rattle.alg_certificate.proofs.WordLaws.{after_is}
use Rattle.alg_certificate.proofs.CuttingLaws.{after_whole}
use Rattle.alg_certificate.proofs.KindLaws.{line_complete}
use Rattle.alg_certificate.proofs.LineLaws.{line_text}
use Rattle.alg_certificate.proofs.Steps.{broken}
use Rattle.alg_certificate.proofs.Feeds.{CutOff, cut_off, all_left, no_line, same_line}

abbrev Line : Type 0
Line = TextLine × State

-- nothing begins where no line is cut off
cut_none : (st : State) (bs : List ℕ) (b : Bool) → cut bs ≡ ([], bs) → (is_empty bs && may_end st) ≡ false → NoneBegins st bs
cut_none st bs b e d = record {
  line = λ l next rest h. no_line bs bs h.text rest e h.plain h.whole;
  ending = λ h m. both_ways (is_empty bs && may_end st) d (ap (λ x. is_empty x && may_end st) h ∙ m);
}

no_bytes : (bs l : List ℕ) (ls : List (List ℕ)) (t : List ℕ) → CutOff bs l ls t → bs ≡ [] → ⊥
no_bytes bs l ls t c e = no_end (c.rest) l (sym e ∙ c.whole)
  where
    no_end : (rest line : List ℕ) → [] ≡ line ++ 10 ∷ rest → ⊥
    no_end rest [] h = cc
    no_end rest (x ∷ xs) h = cc

bad_begin : (st : State) (bs l : List ℕ) (ls : List (List ℕ)) (t : List ℕ) → cut bs ≡ (l ∷ ls, t) → line_in st l (kind_of l) ≡ None → NoneBegins st bs
bad_begin st bs l ls t e d = record {
  line = λ m next rest h.
      let same : h.text ≡ l = same_line bs l ls t h.text rest e h.plain h.whole in
      let read : line_in st l (kind_of l) ≡ Some (m, next) = subst (λ x. line_in st x (kind_of x) ≡ Some (m, next)) same (line_complete st m next h.text h.spells h.stands) in
      none-some _ (sym d ∙ read);
  ending = λ h m. no_bytes bs l ls t (cut_off bs l ls t e) h;
}

abbrev Are : ℕ → State → List ℕ → Coming → Type 0
Are at st bs c = AreLines at st bs c.lines c.fault

over_by : (at : ℕ) (st : State) (bs : List ℕ) (b : Bool) → cut bs ≡ ([], bs) → (is_empty bs && may_end st) ≡ b → Are at st bs (if◌then◌else◌ {A = Coming} b (record { lines = []; fault = None }) (fails at))
over_by at st bs true e d = let p = and_parts (is_empty bs) (may_end st) d in (emptied bs p.0, p.1)
  where
    emptied : (x : List ℕ) → is_empty x ≡ true → x ≡ []
    emptied [] h = refl
    emptied (c ∷ cs) h = cc
over_by at st bs false e d = (refl, cut_none st bs false e d)

line_by : (at : ℕ) (st : State) (bs l : List ℕ) (ls : List (List ℕ)) (t : List ℕ) (o : Option Line) → cut bs ≡ (l ∷ ls, t) → line_in st l (kind_of l) ≡ o
    → ((next : State) (rest : List ℕ) → cut rest ≡ (ls, t) → Are (at + (length l + 1)) next rest (lines_from (at + (length l + 1)) next ls t))
    → Are at st bs (with_line o at (λ next. lines_from (at + (length l + 1)) next ls t))
line_by at st bs l ls t None e d ih = (refl, bad_begin st bs l ls t e d)
line_by at st bs l ls t (Some (m, next)) e d ih =
    let c = cut_off bs l ls t e in
    let s = line_text st l (m, next) d in
    let b : Begins st bs m next c.rest = record { text = l; whole = c.whole; plain = c.plain; spells = s.0; stands = s.1 } in
    (next, c.rest, b, ih next c.rest c.more)

-- what comes is what the grammar says
lines_are : (ls : List (List ℕ)) (t : List ℕ) (at : ℕ) (st : State) (bs : List ℕ) → cut bs ≡ (ls, t) → Are at st bs (lines_from at st ls t)
unfolding lines_from
lines_are [] t at st bs e =
    let same : bs ≡ t = all_left bs t e in
    subst (λ x. Are at st bs (ended at st x)) same (over_by at st bs _ (e ∙ ap (λ x. ([], x)) (sym same)) refl)
lines_are (l ∷ ls) t at st bs e = line_by at st bs l ls t _ e refl (λ next rest h. lines_are ls t (at + (length l + 1)) next rest h)

found_by : (bs : List ℕ) (o : Option (List ℕ)) → after header bs ≡ o → (rest : List ℕ) → bs ≡ header ++ rest → Are 15 Outside rest (after_header o)
found_by bs None e rest h = absurd (none-some _ (sym e ∙ (ap (after header) h ∙ after_whole header rest)))
found_by bs (Some more) e rest h =
    let same : more ≡ rest = some_is more rest (sym e ∙ (ap (after header) h ∙ after_whole header rest)) in
    subst (λ x. Are 15 Outside rest (coming_at 15 Outside x)) (sym same) (lines_are (cut rest).0 (cut rest).1 15 Outside rest refl)

lost_by : (bs : List ℕ) (o : Option (List ℕ)) → after header bs ≡ o → ((rest : List ℕ) → bs ≡ header ++ rest → ⊥) → after_header o ≡ fails 0
lost_by bs None e h = refl
lost_by bs (Some more) e h = absurd (h more (after_is header bs more e))

pub lines_of : (bs : List ℕ) → AreLinesOf bs (coming_of bs)
lines_of bs = record { headed = found_by bs _ refl; headless = lost_by bs _ refl }

pub made_of : (bs rest : List ℕ) (at : ℕ) → Some rest ≡ after header bs → at ≡ 15 → AreLinesOf bs (coming_at at Outside rest)
made_of bs rest at e d = subst (AreLinesOf bs) (ap after_header (sym e) ∙ ap (λ k. coming_at k Outside rest) (sym d)) (lines_of bs)

pub made_without : (bs : List ℕ) (at : ℕ) → None ≡ after header bs → at ≡ 0 → AreLinesOf bs (coming_at at Broken bs)
made_without bs at e d = subst (AreLinesOf bs) (ap after_header (sym e) ∙ sym (broken bs at d)) (lines_of bs)
