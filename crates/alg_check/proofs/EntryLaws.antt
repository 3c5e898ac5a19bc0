-- The lines of every certificate are those of some entries.
use Rattle.std.specs.Prelude.{◌≡◌, ℕ, ◌+◌, ◌⊎◌, List, [], ◌∷◌, ◌++◌, length, All, Option, Some, None, IfSome, refl, ⊤}
use Rattle.std.proofs.Common.{ap, sym, ◌∙◌, subst, inl, inr, append_assoc}
use Rattle.std.specs.List.{flat_map}
use Rattle.std.proofs.lemmas.List.Elements.{All-nil, All-cons}
use Rattle.std.proofs.lemmas.Option.{none-some}
use Rattle.alg_terms.specs.Tree.{Statement}
use Rattle.alg_proof.specs.Steps.{Step}
use Rattle.alg_certificate.specs.declared.reader.State.{State}
use Rattle.alg_certificate.specs.declared.reader.State.TheVariants.{Outside, Begun, Proving, Broken}
use Rattle.alg_certificate.specs.Cutting.{after}
use Rattle.alg_certificate.proofs.CuttingLaws.{after_whole}
use Rattle.alg_certificate.proofs.NumberLaws.{some_is}
use Rattle.alg_certificate.proofs.WordLaws.{after_is}
use Rattle.alg_certificate.specs.Spelling.{HasSpelling, StatementHasSpelling, step_bytes, given_bytes}
use Rattle.alg_certificate.specs.Reader.{TextLine, goal_line, given_line, proof_line, end_line, Coming}
use Rattle.alg_certificate.specs.Items.{IsProofText, IsGivenText}
use Rattle.alg_certificate.specs.Grammar.{IsTextOf, behind_line, AreLines, header, AreLinesOf}
use Rattle.alg_certificate.proofs.SpelledTexts.{spelled_step, spelled_statement}
use Rattle.alg_check.specs.Entries.{Entry, EntryHasSpelling, IsNoEnd, given_lines, proof_lines, lines_of, SomeEntries}

-- the lines go on with a proof up to its end, and then are those of entries
record EndsProof (ls : List TextLine) : Type 0 where
  steps : List Step
  spelled : All HasSpelling steps
  more : List TextLine
  next : SomeEntries more
  lines : ls ≡ (proof_lines steps ++ end_line ∷ []) ++ more

-- the same behind the line of a goal, where a given statement may stand before the proof
record EndsEntry (ls : List TextLine) : Type 0 where
  given : Option Statement
  given_spelled : IfSome given StatementHasSpelling
  steps : List Step
  spelled : All HasSpelling steps
  more : List TextLine
  next : SomeEntries more
  lines : ls ≡ (given_lines given ++ (proof_lines steps ++ end_line ∷ [])) ++ more

-- what the lines are, by where they stand; an entry ends or nothing behind ends one
abbrev Goes : State → List TextLine → Type 0
Goes Outside ls = SomeEntries ls
Goes Begun ls = EndsEntry ls ⊎ All IsNoEnd ls
Goes Proving ls = EndsProof ls ⊎ All IsNoEnd ls
Goes Broken ls = ⊤

no_more : (st : State) → Goes st []
no_more Outside = record { entries = []; are = record { spelled = All-nil EntryHasSpelling; rest = []; lines = refl; unfinished = All-nil IsNoEnd } }
no_more Begun = inr (All-nil IsNoEnd)
no_more Proving = inr (All-nil IsNoEnd)
no_more Broken = tt

behind_goal : (n : ℕ) (ls : List TextLine) → Goes Begun ls → SomeEntries (goal_line n ∷ ls)
behind_goal n ls (inl e) =
    let entry : Entry = record { number = n; given = e.given; steps = e.steps } in
    let same = e.lines ∙ ap (λ x. (given_lines e.given ++ (proof_lines e.steps ++ end_line ∷ [])) ++ x) e.next.are.lines in
    record {
      entries = entry ∷ e.next.entries;
      are = record {
        spelled = All-cons EntryHasSpelling entry e.next.entries (record { given = e.given_spelled; steps = e.spelled }) e.next.are.spelled;
        rest = e.next.are.rest;
        lines = ap (λ x. goal_line n ∷ x) same ∙ sym (append_assoc (lines_of entry) (flat_map lines_of e.next.entries) e.next.are.rest);
        unfinished = e.next.are.unfinished;
      };
    }
behind_goal n ls (inr none) = record {
  entries = [];
  are = record { spelled = All-nil EntryHasSpelling; rest = goal_line n ∷ ls; lines = refl; unfinished = All-cons IsNoEnd (goal_line n) ls tt none };
}

behind_given : (t text : List ℕ) (ls : List TextLine) → t ≡ text → IsGivenText text → Goes Proving ls → Goes Begun (given_line t ∷ ls)
behind_given t text ls same is (inl e) =
    let s = spelled_statement text is in
    inl (record {
      given = Some s.statement;
      given_spelled = s.fits;
      steps = e.steps;
      spelled = e.spelled;
      more = e.more;
      next = e.next;
      lines = ap (λ x. given_line x ∷ ls) (same ∙ sym s.same) ∙ ap (λ x. given_line (given_bytes s.statement) ∷ x) e.lines;
    })
behind_given t text ls same is (inr none) = inr (All-cons IsNoEnd (given_line t) ls tt none)

behind_proof : (t text : List ℕ) (ls : List TextLine) → t ≡ text → IsProofText text → Goes Proving ls → Goes Proving (proof_line t ∷ ls)
behind_proof t text ls same is (inl e) =
    let l = spelled_step text is in
    inl (record {
      steps = l.step ∷ e.steps;
      spelled = All-cons HasSpelling l.step e.steps l.fits e.spelled;
      more = e.more;
      next = e.next;
      lines = ap (λ x. proof_line x ∷ ls) (same ∙ sym l.same) ∙ ap (λ x. proof_line (step_bytes l.step) ∷ x) e.lines;
    })
behind_proof t text ls same is (inr none) = inr (All-cons IsNoEnd (proof_line t) ls tt none)

behind_end : (ls : List TextLine) → SomeEntries ls → Goes Proving (end_line ∷ ls)
behind_end ls e = inl (record { steps = []; spelled = All-nil HasSpelling; more = ls; next = e; lines = refl })

-- a proof may begin behind the line of a goal
without_given : (ls : List TextLine) → Goes Proving ls → Goes Begun ls
without_given ls (inl e) = inl (record { given = None; given_spelled = tt; steps = e.steps; spelled = e.spelled; more = e.more; next = e.next; lines = e.lines })
without_given ls (inr none) = inr none

moved : (st next : State) (ls : List TextLine) → Some st ≡ Some next → Goes next ls → Goes st ls
moved st next ls e h = subst (λ (s : State). Goes s ls) (sym (some_is st next e)) h

-- one line before
one_before : (st next : State) (l : TextLine) (text : List ℕ) (ls : List TextLine) → behind_line st l ≡ Some next → IsTextOf l text → Goes next ls → Goes st (l ∷ ls)
one_before Outside next (goal_line n) text ls e is h = behind_goal n ls (moved Begun next ls e h)
one_before Outside next (given_line t) text ls e is h = absurd (none-some _ e)
one_before Outside next (proof_line t) text ls e is h = absurd (none-some _ e)
one_before Outside next end_line text ls e is h = absurd (none-some _ e)
one_before Begun next (goal_line n) text ls e is h = absurd (none-some _ e)
one_before Begun next (given_line t) text ls e is h = behind_given t text ls is.0 is.1 (moved Proving next ls e h)
one_before Begun next (proof_line t) text ls e is h = without_given (proof_line t ∷ ls) (behind_proof t text ls is.0 is.1 (moved Proving next ls e h))
one_before Begun next end_line text ls e is h = without_given (end_line ∷ ls) (behind_end ls (moved Outside next ls e h))
one_before Proving next (goal_line n) text ls e is h = absurd (none-some _ e)
one_before Proving next (given_line t) text ls e is h = absurd (none-some _ e)
one_before Proving next (proof_line t) text ls e is h = behind_proof t text ls is.0 is.1 (moved Proving next ls e h)
one_before Proving next end_line text ls e is h = behind_end ls (moved Outside next ls e h)
one_before Broken next l text ls e is h = tt

all_go : (at : ℕ) (st : State) (bytes : List ℕ) (ls : List TextLine) (fault : Option ℕ) → AreLines at st bytes ls fault → Goes st ls
all_go at st bytes [] fault h = no_more st
all_go at st bytes (l ∷ ls) fault h = one_before st h.0 l h.2.text ls h.2.stands h.2.spells (all_go (at + (length h.2.text + 1)) h.0 h.1 ls fault h.3)

by_header : (bytes : List ℕ) (c : Coming) (o : Option (List ℕ)) → after header bytes ≡ o → AreLinesOf bytes c → SomeEntries c.lines
by_header bytes c (Some rest) e h = all_go (length header) Outside rest c.lines c.fault (h.headed rest (after_is header bytes rest e))
by_header bytes c None e h =
    let headless : (rest : List ℕ) → bytes ≡ header ++ rest → ⊥ = λ rest same. none-some rest (sym e ∙ (ap (after header) same ∙ after_whole header rest)) in
    subst SomeEntries (sym (ap (λ (x : Coming). x.lines) (h.headless headless))) (no_more Outside)

-- the lines of every certificate are those of some entries
pub some_entries : (bytes : List ℕ) (c : Coming) → AreLinesOf bytes c → SomeEntries c.lines
some_entries bytes c h = by_header bytes c (after header bytes) refl h

-- the same of a reader's lines, which are those to come
pub entries_of_reader : (bytes : List ℕ) (reader c : Coming) → AreLinesOf bytes reader → reader ≡ c → SomeEntries c.lines
entries_of_reader bytes reader c h same = subst (λ (x : Coming). SomeEntries x.lines) same (some_entries bytes reader h)
