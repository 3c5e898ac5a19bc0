use Rattle.std.proofs.Common.{◌≡◌, ◌<◌, length, true, false, sym, ap, ◌∙◌, subst}
use Rattle.alg_terms.specs.Tree.{Lit}
use Rattle.alg_expr.specs.Ids.{tree_of}
use Rattle.alg_sums.specs.Rational.{rational}
use Rattle.alg_build.specs.Book.{Proves}
use Rattle.alg_build.specs.Rewriting.{Turns}
use Rattle.alg_build.proofs.Lines.{grows-then}
use Rattle.alg_sorted_sums.proofs.Summing.{are_grow, merging_grows, own_monomial, collected_sum, read_term, read_monomial}
use Rattle.alg_sorted_sums.proofs.merging.both_step.Goals as goal

pub gone_step-requires-clause-merging : goal.gone_step-requires-clause-merging
gone_step-requires-clause-merging g c = are_grow _ _ _ _ _ (grows-then _ _ _ c.collect.ensures.grows c.line_of.ensures.grows) _ _ _ _ _ _ _ _ c.requires.merging

pub gone_step-requires-clause-sum : goal.gone_step-requires-clause-sum
gone_step-requires-clause-sum g c =
    let p = read_term _ _ _ c.requires.takes.left_more c.index-p-m.is in
    let q = read_term _ _ _ c.requires.takes.right_more c.index-q-m.is in
    let k : c.index-p-m.result.monomial < length c.args.table.now = rw p (c.requires.merging.merging.left.terms _ c.requires.takes.left_more).known in
    let m = read_monomial c.args.table.now c.index-p-m.result.monomial c.index-table-t.result k in
    let o = grows-then _ _ _ c.collect.ensures.grows c.line_of.ensures.grows in
    subst (λ x. Proves c.line_of.new.cx c.in_ok-none.none x (Lit c.args.sort 0)) (collected_sum _ _ _ _ _ _ _ _ _ _ _ _ _ c.requires.merging.merging c.requires.takes c.line_of.new.cx o)
    (c.in_ok-none.ensures.proves _ _ _ (rw (c.if-collected.true, m, p, q) at c.in_ok-collected.ensures.turns))

pub gone_step-requires-clause-nothing : goal.gone_step-requires-clause-nothing
gone_step-requires-clause-nothing g c =
    let p = read_term _ _ _ c.requires.takes.left_more c.index-p-m.is in
    let q = read_term _ _ _ c.requires.takes.right_more c.index-q-m.is in
    sym (rw (p, q) at c.in_ok-collected.ensures.value) ∙ rational.nil_is _ (sym c.in_ok-collected.ensures.zero ∙ c.if-collected.true)

pub returns-in_err-next-clause-grows : goal.returns-in_err-next-clause-grows
returns-in_err-next-clause-grows g c = grows-then _ _ _ c.collect.ensures.grows (grows-then _ _ _ c.line_of.ensures.grows c.gone_step.ensures.grows)

pub joined_step-requires-clause-merging : goal.joined_step-requires-clause-merging
joined_step-requires-clause-merging g c = are_grow _ _ _ _ _ c.collect.ensures.grows _ _ _ _ _ _ _ _ c.requires.merging

pub joined_step-requires-clause-sum : goal.joined_step-requires-clause-sum
joined_step-requires-clause-sum g c =
    let p = read_term _ _ _ c.requires.takes.left_more c.index-p-m.is in
    let q = read_term _ _ _ c.requires.takes.right_more c.index-q-m.is in
    let k : c.index-p-m.result.monomial < length c.args.table.now = rw p (c.requires.merging.merging.left.terms _ c.requires.takes.left_more).known in
    let m = read_monomial c.args.table.now c.index-p-m.result.monomial c.index-table-t.result k in
    let h = rw (m, p, q) at c.in_ok-collected.ensures.turns in
    subst (λ x. Turns c.collect.new.cx c.args.sort c.in_ok-collected.collected.sum x (tree_of c.collect.new.cx.trees c.in_ok-collected.collected.sum.to))
    (collected_sum _ _ _ _ _ _ _ _ _ _ _ _ _ c.requires.merging.merging c.requires.takes c.collect.new.cx c.collect.ensures.grows) (rw h.tree h)

pub joined_step-requires-clause-nonzero : goal.joined_step-requires-clause-nonzero
joined_step-requires-clause-nonzero g c = λ e.
    let x : true ≡ false = sym rational.is_nil-nil ∙ ap rational.is_nil (sym e) ∙ sym c.in_ok-collected.ensures.zero ∙ c.if-collected.false in
    cc

pub returns-in_ok-next-clause-merging : goal.returns-in_ok-next-clause-merging
returns-in_ok-next-clause-merging g c = λ keys h.
    c.in_ok-next.ensures.merging keys (merging_grows _ _ keys _ _ _ _ (grows-then _ _ _ c.collect.ensures.grows c.line_of.ensures.grows) _ _ _ _ _ _ _ h)

pub returns-in_ok-next-clause-grows : goal.returns-in_ok-next-clause-grows
returns-in_ok-next-clause-grows g c = grows-then _ _ _ c.collect.ensures.grows (grows-then _ _ _ c.line_of.ensures.grows c.gone_step.ensures.grows)

pub returns-in_ok-next-2-clause-merging : goal.returns-in_ok-next-2-clause-merging
returns-in_ok-next-2-clause-merging g c = λ keys h.
    let p = read_term _ _ _ c.requires.takes.left_more c.index-p-m.is in
    let q = read_term _ _ _ c.requires.takes.right_more c.index-q-m.is in
    let k : c.index-p-m.result.monomial < length c.args.table.now = rw p (c.requires.merging.merging.left.terms _ c.requires.takes.left_more).known in
    let m = read_monomial c.args.table.now c.index-p-m.result.monomial c.index-table-t.result k in
    let o = rw (c.if-collected.false, m, p, q) at c.in_ok-collected.ensures.turns in
    let own = own_monomial _ _ _ _ _ _ _ _ _ _ _ _ _ h c.requires.takes in
    c.in_ok-next-2.ensures.merging keys (merging_grows _ _ keys _ _ _ _ c.collect.ensures.grows _ _ _ _ _ _ _ h)
    (o.tree ∙ ap (λ t. g.S.Summand.writing.term c.args.sort t c.in_ok-collected.collected.value) own)
