use Rattle.std.proofs.Common.{ℕ, List, ◌∷◌, ◌∙◌, sym, ap, subst}
use Rattle.alg_terms.specs.declared.sorts.Sort.{Sort}
use Rattle.alg_terms.specs.Tree.{of_list}
use Rattle.alg_proof.specs.Names.{IsName}
use Rattle.alg_certificate.specs.Spelling.{bytes, spell_items, trees_before, semicolon, numbers}
use Rattle.alg_certificate_lines.specs.Kept.{kept_sort}
use Rattle.alg_certificate_lines.specs.Known.{has_sort}
use Rattle.alg_certificate_lines.specs.Steps.{over_trees, trees_read, GivesLine}
use Rattle.alg_certificate_lines.specs.Texts.{row_step}
use Rattle.alg_certificate_lines.proofs.CutLaws.{there, not_there, row_cut_is, row_read_is}
use Rattle.alg_certificate_lines.proofs.rows.read_row.Goals as goal

abbrev Pieces : Type 0
Pieces = List ℕ × Sort × List ℕ × List ℕ

pub returns-in-Some-clause-gives : goal.returns-in-Some-clause-gives
returns-in-Some-clause-gives c = λ n s ts is name f g h e.
    subst (λ o. GivesLine c.read_instance.new.arena o c.read_instance.result) (sym (row_read_is c.args.base.now c.args.lemma n s ts is))
    (there {A = Pieces} c.read_instance.new.arena (has_sort c.args.base.now (kept_sort s)) (c.in-Some.name.now, c.in-Some.sort, c.in-Some.trees.now, c.in-Some.from.now)
    (n, s, bytes (spell_items (trees_before ts (semicolon ∷ numbers is))), bytes (spell_items (numbers is)))
    (over_trees (λ us. row_step c.args.lemma n s us is) (trees_read c.args.base.now (of_list ts))) c.read_instance.result
    (c.in-Some.ensures ∙ row_cut_is c.args.base.now n s ts (numbers is) c.args.text.now name f g e)
    (λ same. subst (λ (q : Pieces). GivesLine c.read_instance.new.arena (over_trees (λ us. row_step c.args.lemma q.0 q.1 us is) (trees_read c.args.base.now (of_list ts))) c.read_instance.result) same
    (c.read_instance.ensures.gives ts is (subst IsName (sym (ap (λ (q : Pieces). q.0) same)) name) g h (sym (ap (λ (q : Pieces). q.2) same)) (sym (ap (λ (q : Pieces). q.3) same)))))

pub returns-in-None-clause-gives : goal.returns-in-None-clause-gives
returns-in-None-clause-gives c = λ n s ts is name f g h e.
    row_read_is c.args.base.now c.args.lemma n s ts is
    ∙ not_there {A = Pieces} (has_sort c.args.base.now (kept_sort s)) (n, s, bytes (spell_items (trees_before ts (semicolon ∷ numbers is))), bytes (spell_items (numbers is)))
    (over_trees (λ us. row_step c.args.lemma n s us is) (trees_read c.args.base.now (of_list ts))) (c.in-None.ensures ∙ row_cut_is c.args.base.now n s ts (numbers is) c.args.text.now name f g e)
