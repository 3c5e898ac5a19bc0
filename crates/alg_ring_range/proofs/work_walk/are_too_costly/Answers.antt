use Rattle.std.proofs.Common.{◌∙◌, All, get_or}
use Rattle.alg_expr.specs.Ids.{tree_of, trees_at}
use Rattle.alg_expansions.specs.Setting.{setting_of}
use Rattle.alg_ring_range.specs.Work.{IsWork, no_work, work, works_of, counts_of}
use Rattle.alg_ring_range.proofs.WorkLemmas.{found_work}
use Rattle.alg_ring_range.proofs.WorkAgreement.{costly-agree}
use Rattle.alg_ring_range.proofs.work_walk.are_too_costly.Goals as goal

pub returns-clause-told : goal.returns-clause-told
returns-clause-told c = λ o told.
    let k = setting_of c.args.base.now in
    let ts = c.args.arena.now in
    let w = c.in_ok-works.ensures.works o told in
    let each : All (λ e. IsWork (get_or c.as_slice-4.result.now e.index no_work) (work o k (tree_of ts e))) c.args.roots.now = λ j d l.
    found_work o k ts c.as_slice-2.result.now c.in_ok-wanted.wanted.items c.in_ok-works.works.items c.as_slice-4.result.now (get_or c.args.roots.now j d) w c.as_slice-2.ensures.value c.as_slice-4.ensures.value c.in_ok-works.ensures.all (c.requires.here j d l) (c.in_ok-wanted.ensures.roots j d l) in
    c.is_too_much-answer.ensures (works_of o k (trees_at ts c.args.roots.now)) (c.all_together-total.ensures o k ts each)

pub returns-clause-exact : goal.returns-clause-exact
returns-clause-exact c = λ told.
    let k = setting_of c.args.base.now in
    returns-clause-told c (counts_of k) told ∙ costly-agree k (trees_at c.args.arena.now c.args.roots.now)
