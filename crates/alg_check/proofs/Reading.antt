-- The lines of entries, one by one.
use Rattle.std.proofs.Common.{◌≡◌, ℕ, ◌+◌, ◌<◌, ◌≤◌, List, [], ◌∷◌, length, true, false, refl, ap, sym, ◌∙◌, arith, ◌++◌, map, All, Some, None, append_assoc, append-nil}
use Rattle.std.specs.List.{flat_map}
use Rattle.std.proofs.lemmas.List.Elements.{All-head, All-tail}
use Rattle.alg_terms.specs.Tree.{Statement}
use Rattle.alg_proof.specs.Steps.{Step}
use Rattle.alg_certificate.specs.Spelling.{step_bytes, given_bytes}
use Rattle.alg_check.specs.Entries.{Entry, given_lines, proof_lines, lines_of, IsNoEnd, AreEntriesOf}
use Rattle.std.specs.Prelude.{Option}
use Rattle.alg_certificate.specs.Reader.{Coming, TextLine, goal_line, given_line, proof_line, end_line}
use Rattle.alg_check.specs.Written.{Texts, begun, is_end, with_line, texts_from, texts_in, texts_of}

pub texts-nil : (e : Texts) → texts_from e [] ≡ []
unfolding texts_from
texts-nil e = refl

pub texts-more : (e : Texts) (l : TextLine) (ls : List TextLine) → is_end l ≡ false → texts_from e (l ∷ ls) ≡ texts_from (with_line l e) ls
unfolding texts_from
texts-more e (goal_line n) ls h = refl
texts-more e (given_line t) ls h = refl
texts-more e (proof_line t) ls h = refl
texts-more e end_line ls h = absurd (cc)

pub texts-end : (e : Texts) (l : TextLine) (ls : List TextLine) → is_end l ≡ true → texts_from e (l ∷ ls) ≡ with_line l e ∷ texts_in ls
unfolding texts_from
texts-end e (goal_line n) ls h = absurd (cc)
texts-end e (given_line t) ls h = absurd (cc)
texts-end e (proof_line t) ls h = absurd (cc)
texts-end e end_line ls h = refl

module _ (start old : Coming) (e : Texts) (same : texts_from e old.lines ≡ texts_in start.lines) (kept : old.fault ≡ start.fault) where
  -- nothing is left to read
  pub none_left : (o : Option ℕ) → old ≡ record { lines = []; fault = o } → (texts_in start.lines ≡ []) × (start.fault ≡ o)
  none_left o h =
      let q : old.lines ≡ [] = ap (λ (c : Coming). c.lines) h in
      let f : old.fault ≡ o = ap (λ (c : Coming). c.fault) h in
      (sym same ∙ (ap (λ ls. texts_from e ls) q ∙ texts-nil e), sym kept ∙ f)

  module _ (new : Coming) (d : Texts) (l : TextLine) (fewer : length old.lines ≤ length start.lines) (h : old ≡ record { lines = l ∷ new.lines; fault = new.fault }) (is : d ≡ with_line l e) where
    lines : old.lines ≡ l ∷ new.lines
    lines = ap (λ (c : Coming). c.lines) h

    pub fault_kept : new.fault ≡ start.fault
    fault_kept = sym (ap (λ (c : Coming). c.fault) h) ∙ kept

    pub line_same : is_end l ≡ false → texts_from d new.lines ≡ texts_in start.lines
    line_same q = ap (λ x. texts_from x new.lines) is ∙ (sym (texts-more e l new.lines q) ∙ (sym (ap (λ ls. texts_from e ls) lines) ∙ same))

    pub line_fewer : length new.lines < length start.lines
    line_fewer = omega (arith, ap (λ (ls : List TextLine). length ls) lines, fewer)

    pub entry_same : is_end l ≡ true → texts_in start.lines ≡ d ∷ texts_in new.lines
    entry_same q = sym same ∙ (ap (λ ls. texts_from e ls) lines ∙ (texts-end e l new.lines q ∙ ap (λ x. x ∷ texts_in new.lines) (sym is)))

append_one : (ps : List (List ℕ)) (t : List ℕ) (ts : List (List ℕ)) → (ps ++ t ∷ []) ++ ts ≡ ps ++ t ∷ ts
append_one ps t ts = append_assoc ps (t ∷ []) ts

-- the lines of a proof, up to its end
proof_read : (e : Texts) (ls : List Step) (more : List TextLine) → texts_from e ((proof_lines ls ++ end_line ∷ []) ++ more) ≡ record e { proof = e.proof ++ map step_bytes ls } ∷ texts_in more
unfolding texts_from
proof_read e [] more = ap (λ ps. record e { proof = ps } ∷ texts_in more) (sym (append-nil e.proof))
proof_read e (l ∷ ls) more = proof_read (record e { proof = e.proof ++ step_bytes l ∷ [] }) ls more ∙ ap (λ ps. record e { proof = ps } ∷ texts_in more) (append_one e.proof (step_bytes l) (map step_bytes ls))

given_read : (n : ℕ) (g : Option Statement) (ls : List Step) (more : List TextLine) → texts_from (begun n) ((given_lines g ++ (proof_lines ls ++ end_line ∷ [])) ++ more) ≡ texts_of (record { number = n; given = g; steps = ls }) ∷ texts_in more
unfolding texts_from
given_read n None ls more = proof_read (begun n) ls more
given_read n (Some s) ls more = proof_read (record (begun n) { given = Some (given_bytes s) }) ls more

entry_read : (d : Texts) (e : Entry) (more : List TextLine) → texts_from d (lines_of e ++ more) ≡ texts_of e ∷ texts_in more
unfolding texts_from
entry_read d e more = given_read e.number e.given e.steps more

none_read : (d : Texts) (rest : List TextLine) → All IsNoEnd rest → texts_from d rest ≡ []
unfolding texts_from
none_read d [] h = refl
none_read d (goal_line n ∷ ls) h = none_read (begun n) ls (All-tail IsNoEnd (goal_line n) ls h)
none_read d (given_line t ∷ ls) h = none_read (with_line (given_line t) d) ls (All-tail IsNoEnd (given_line t) ls h)
none_read d (proof_line t ∷ ls) h = none_read (with_line (proof_line t) d) ls (All-tail IsNoEnd (proof_line t) ls h)
none_read d (end_line ∷ ls) h = absurd (All-head IsNoEnd end_line ls h)

all_read : (es : List Entry) (rest : List TextLine) → All IsNoEnd rest → texts_in (flat_map lines_of es ++ rest) ≡ map texts_of es
all_read [] rest h = none_read (begun 0) rest h
all_read (e ∷ es) rest h =
    ap texts_in (append_assoc (lines_of e) (flat_map lines_of es) rest) ∙ (entry_read (begun 0) e (flat_map lines_of es ++ rest) ∙ ap (λ ts. texts_of e ∷ ts) (all_read es rest h))

-- the entries of the lines are read so
pub entries_read : (ls : List TextLine) (es : List Entry) → AreEntriesOf ls es → texts_in ls ≡ map texts_of es
entries_read ls es h = ap texts_in h.lines ∙ all_read es h.rest h.unfinished
