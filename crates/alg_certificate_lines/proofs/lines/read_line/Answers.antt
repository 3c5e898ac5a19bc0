use Rattle.std.proofs.Common.{ap, subst}
use Rattle.alg_proof.specs.Steps.{Symm, Hyp, LitAdd, LitMul}
use Rattle.alg_certificate_lines.specs.declared.kinds.Kind.TheVariants as kind
use Rattle.alg_certificate_lines.specs.Steps.{step_read, GivesLine}
use Rattle.alg_certificate_lines.specs.Texts.{over_number, over_pair, over_triple}
use Rattle.alg_certificate_lines.proofs.ItemLaws.{one_spelled, two_spelled, three_spelled}
use Rattle.alg_certificate_lines.proofs.CutLaws.{line_inside, literals_is, relation_read_is}
use Rattle.alg_certificate_lines.proofs.LineLaws.{for_kind}
use Rattle.alg_certificate_lines.proofs.lines.read_line.Goals as goal

pub returns-in-Refl-clause-gives : goal.returns-in-Refl-clause-gives
returns-in-Refl-clause-gives c = for_kind kind.Refl c.args.kind c.args.text.now (λ l. GivesLine c.read_refl.new.arena (step_read c.args.base.now l) c.read_refl.result) c.in-Refl.is
    (c.read_refl.ensures.gives)

pub returns-in-Symm-clause-gives : goal.returns-in-Symm-clause-gives
returns-in-Symm-clause-gives c = for_kind kind.Symm c.args.kind c.args.text.now (λ l. GivesLine c.args.arena.now (step_read c.args.base.now l) c.read_symm.result) c.in-Symm.is
    (λ i f e. subst (λ o. GivesLine c.args.arena.now o c.read_symm.result) (ap (over_number Symm) (one_spelled i c.args.text.now f e)) (c.read_symm.ensures c.args.arena.now))

pub returns-in-Trans-clause-gives : goal.returns-in-Trans-clause-gives
returns-in-Trans-clause-gives c = for_kind kind.Trans c.args.kind c.args.text.now (λ l. GivesLine c.args.arena.now (step_read c.args.base.now l) c.read_trans.result) c.in-Trans.is
    (λ i j f g e. subst (λ o. GivesLine c.args.arena.now o c.read_trans.result) (ap over_pair (two_spelled i j c.args.text.now f g e)) (c.read_trans.ensures c.args.arena.now))

pub returns-in-Cong-clause-gives : goal.returns-in-Cong-clause-gives
returns-in-Cong-clause-gives c = for_kind kind.Cong c.args.kind c.args.text.now (λ l. GivesLine c.args.arena.now (step_read c.args.base.now l) c.read_cong.result) c.in-Cong.is
    (c.read_cong.ensures.gives c.args.arena.now)

pub returns-in-Subst-clause-gives : goal.returns-in-Subst-clause-gives
returns-in-Subst-clause-gives c = for_kind kind.Subst c.args.kind c.args.text.now (λ l. GivesLine c.args.arena.now (step_read c.args.base.now l) c.read_subst.result) c.in-Subst.is
    (λ i j k f g h e. subst (λ o. GivesLine c.args.arena.now o c.read_subst.result) (ap over_triple (three_spelled i j k c.args.text.now f g h e)) (c.read_subst.ensures c.args.arena.now))

pub returns-in-Law-clause-gives : goal.returns-in-Law-clause-gives
returns-in-Law-clause-gives c = for_kind kind.Law c.args.kind c.args.text.now (λ l. GivesLine c.read_row.new.arena (step_read c.args.base.now l) c.read_row.result) c.in-Law.is
    (c.read_row.ensures.gives)

pub returns-in-Lemma-clause-gives : goal.returns-in-Lemma-clause-gives
returns-in-Lemma-clause-gives c = for_kind kind.Lemma c.args.kind c.args.text.now (λ l. GivesLine c.read_row-in-Lemma.new.arena (step_read c.args.base.now l) c.read_row-in-Lemma.result) c.in-Lemma.is
    (c.read_row-in-Lemma.ensures.gives)

pub returns-in-Hyp-clause-gives : goal.returns-in-Hyp-clause-gives
returns-in-Hyp-clause-gives c = for_kind kind.Hyp c.args.kind c.args.text.now (λ l. GivesLine c.args.arena.now (step_read c.args.base.now l) c.read_hypothesis.result) c.in-Hyp.is
    (λ i f e. subst (λ o. GivesLine c.args.arena.now o c.read_hypothesis.result) (ap (over_number Hyp) (one_spelled i c.args.text.now f e)) (c.read_hypothesis.ensures c.args.arena.now))

pub returns-in-LitAdd-clause-gives : goal.returns-in-LitAdd-clause-gives
returns-in-LitAdd-clause-gives c = for_kind kind.LitAdd c.args.kind c.args.text.now (λ l. GivesLine c.args.arena.now (step_read c.args.base.now l) c.read_sum.result) c.in-LitAdd.is
    (λ s m n f g h e. subst (λ o. GivesLine c.args.arena.now o c.read_sum.result) (literals_is c.args.base.now (λ a b d. LitAdd a b d) s m n c.args.text.now f g h e) (c.read_sum.ensures c.args.arena.now))

pub returns-in-LitMul-clause-gives : goal.returns-in-LitMul-clause-gives
returns-in-LitMul-clause-gives c = for_kind kind.LitMul c.args.kind c.args.text.now (λ l. GivesLine c.args.arena.now (step_read c.args.base.now l) c.read_product.result) c.in-LitMul.is
    (λ s m n f g h e. subst (λ o. GivesLine c.args.arena.now o c.read_product.result) (literals_is c.args.base.now (λ a b d. LitMul a b d) s m n c.args.text.now f g h e) (c.read_product.ensures c.args.arena.now))

pub returns-in-LitRel-clause-gives : goal.returns-in-LitRel-clause-gives
returns-in-LitRel-clause-gives c = for_kind kind.LitRel c.args.kind c.args.text.now (λ l. GivesLine c.args.arena.now (step_read c.args.base.now l) c.read_relation.result) c.in-LitRel.is
    (λ r s m n f g h e. subst (λ o. GivesLine c.args.arena.now o c.read_relation.result) (relation_read_is c.args.base.now r s m n c.args.text.now f g h e) (c.read_relation.ensures c.args.arena.now))

pub returns-in-Bridge-clause-gives : goal.returns-in-Bridge-clause-gives
returns-in-Bridge-clause-gives c = for_kind kind.Bridge c.args.kind c.args.text.now (λ l. GivesLine c.read_bridge.new.arena (step_read c.args.base.now l) c.read_bridge.result) c.in-Bridge.is
    (c.read_bridge.ensures.gives)

pub returns-in-Compute-clause-gives : goal.returns-in-Compute-clause-gives
returns-in-Compute-clause-gives c = for_kind kind.Compute c.args.kind c.args.text.now (λ l. GivesLine c.args.arena.now (step_read c.args.base.now l) c.read_compute.result) c.in-Compute.is
    (c.read_compute.ensures.gives c.args.arena.now)

pub returns-in-Symm-clause-here : goal.returns-in-Symm-clause-here
returns-in-Symm-clause-here c = line_inside c.args.arena.now _ c.read_symm.result (c.read_symm.ensures c.args.arena.now)

pub returns-in-Trans-clause-here : goal.returns-in-Trans-clause-here
returns-in-Trans-clause-here c = line_inside c.args.arena.now _ c.read_trans.result (c.read_trans.ensures c.args.arena.now)

pub returns-in-Subst-clause-here : goal.returns-in-Subst-clause-here
returns-in-Subst-clause-here c = line_inside c.args.arena.now _ c.read_subst.result (c.read_subst.ensures c.args.arena.now)

pub returns-in-Hyp-clause-here : goal.returns-in-Hyp-clause-here
returns-in-Hyp-clause-here c = line_inside c.args.arena.now _ c.read_hypothesis.result (c.read_hypothesis.ensures c.args.arena.now)

pub returns-in-LitAdd-clause-here : goal.returns-in-LitAdd-clause-here
returns-in-LitAdd-clause-here c = line_inside c.args.arena.now _ c.read_sum.result (c.read_sum.ensures c.args.arena.now)

pub returns-in-LitMul-clause-here : goal.returns-in-LitMul-clause-here
returns-in-LitMul-clause-here c = line_inside c.args.arena.now _ c.read_product.result (c.read_product.ensures c.args.arena.now)

pub returns-in-LitRel-clause-here : goal.returns-in-LitRel-clause-here
returns-in-LitRel-clause-here c = line_inside c.args.arena.now _ c.read_relation.result (c.read_relation.ensures c.args.arena.now)

pub returns-in-Cong-clause-here : goal.returns-in-Cong-clause-here
returns-in-Cong-clause-here c = c.read_cong.ensures.here c.args.arena.now

pub returns-in-Compute-clause-here : goal.returns-in-Compute-clause-here
returns-in-Compute-clause-here c = c.read_compute.ensures.here c.args.arena.now
