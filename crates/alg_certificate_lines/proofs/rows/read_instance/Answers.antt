use Rattle.std.proofs.Common.{Ok, ◌∷◌, subst}
use Rattle.alg_terms.specs.Tree.{of_list}
use Rattle.alg_certificate.specs.Spelling.{semicolon, numbers}
use Rattle.alg_certificate_lines.specs.Steps.{trees_read, GivesTrees}
use Rattle.alg_certificate_lines.specs.Texts.{row_step}
use Rattle.alg_certificate_lines.proofs.CutLaws.{trees_line, trees_fault, all_fit, numbers_words, before_text}
use Rattle.alg_certificate_lines.proofs.rows.read_instance.Goals as goal

pub returns-in-Ok-clause-gives : goal.returns-in-Ok-clause-gives
returns-in-Ok-clause-gives c = λ ts is n f r e d.
    trees_line c.read_good.new.arena (λ us. row_step c.args.lemma c.args.word.now c.args.sort us is) (trees_read c.args.base.now (of_list ts)) _ c.row_over.result
    (subst (GivesTrees c.read_good.new.arena (trees_read c.args.base.now (of_list ts))) c.in-Ok.is (c.read_good.ensures.gives (of_list ts) (semicolon ∷ numbers is) (all_fit ts f) (numbers_words is r) (before_text ts (semicolon ∷ numbers is) c.args.trees.now e)))
    (λ inside. c.row_over.ensures.gives c.read_good.new.arena is inside n r d)

pub returns-in-Err-clause-gives : goal.returns-in-Err-clause-gives
returns-in-Err-clause-gives c = λ ts is n f r e d.
    trees_fault c.read_good.new.arena (λ us. row_step c.args.lemma c.args.word.now c.args.sort us is) (trees_read c.args.base.now (of_list ts)) c.in-Err.fault
    (subst (GivesTrees c.read_good.new.arena (trees_read c.args.base.now (of_list ts))) c.in-Err.is (c.read_good.ensures.gives (of_list ts) (semicolon ∷ numbers is) (all_fit ts f) (numbers_words is r) (before_text ts (semicolon ∷ numbers is) c.args.trees.now e)))
