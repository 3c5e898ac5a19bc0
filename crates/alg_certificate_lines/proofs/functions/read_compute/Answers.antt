use Rattle.std.proofs.Common.{ℕ, List, Ok, ◌&&◌, ◌∙◌, sym, ap, subst}
use Rattle.alg_terms.specs.declared.sorts.Sort.{Sort}
use Rattle.alg_proof.specs.declared.lines.ComputeHead.{ComputeHead}
use Rattle.alg_proof.specs.Steps.{Compute}
use Rattle.alg_certificate.specs.Spelling.{bytes, spell_items, numerals}
use Rattle.alg_certificate_lines.specs.Kept.{kept_head, kept_sort}
use Rattle.alg_certificate_lines.specs.Known.{has_sort}
use Rattle.alg_certificate_lines.specs.Steps.{has_head, GivesLine}
use Rattle.alg_certificate_lines.proofs.CutLaws.{there, not_there, computation_cut_is}
use Rattle.alg_certificate_lines.proofs.functions.read_compute.Goals as goal

abbrev Pieces : Type 0
Pieces = ComputeHead × Sort × List ℕ

pub returns-in-Some-clause-gives : goal.returns-in-Some-clause-gives
returns-in-Some-clause-gives c = λ new h s xs f g k e.
    there {A = Pieces} new (has_head c.args.base.now (kept_head h) && has_sort c.args.base.now (kept_sort s)) (c.in-Some.head, c.in-Some.sort, c.in-Some.numerals.now) (h, s, bytes (spell_items (numerals xs))) (Ok (Compute h s xs)) c.compute_over.result
    (c.in-Some.ensures ∙ computation_cut_is c.args.base.now h s (numerals xs) c.args.text.now f g e)
    (λ same. subst (λ (q : Pieces). GivesLine new (Ok (Compute q.0 q.1 xs)) c.compute_over.result) same (c.compute_over.ensures.gives new xs k (sym (ap (λ (q : Pieces). q.2) same))))

pub returns-in-None-clause-gives : goal.returns-in-None-clause-gives
returns-in-None-clause-gives c = λ new h s xs f g k e.
    not_there {A = Pieces} (has_head c.args.base.now (kept_head h) && has_sort c.args.base.now (kept_sort s)) (h, s, bytes (spell_items (numerals xs))) (Ok (Compute h s xs)) (c.in-None.ensures ∙ computation_cut_is c.args.base.now h s (numerals xs) c.args.text.now f g e)
