use Rattle.std.proofs.Common.{◌≤◌, ◌≡◌, ◌<◌, ◌∙◌, ◌-◌, suc, ap, arith, get_or, length, true, false}
use Rattle.std.proofs.lemmas.List.{length-replicate}
use Rattle.alg_expr.specs.Ids.{trees_at}
use Rattle.alg_expansions.specs.Setting.{setting_of}
use Rattle.alg_ring_range.proofs.Marking.{flag_at}
use Rattle.alg_ring_range.proofs.WalkLemmas.{all_parts}
use Rattle.alg_ring_range.proofs.Visiting.{come_first, come_on, come_by, come_early, few, flag_not, none_true}
use Rattle.alg_ring_range.proofs.atoms.exceed.Goals as goal

pub loop-i-init : goal.loop-i-init
loop-i-init c =
    let all = c.in_ok-flags.ensures.items_if_clones_equal (λ y e. e) in
    let none : length c.new-seen.result.items ≤ 256 = rw c.new-seen.ensures.items (omega arith) in
    record {
      come = come_first (setting_of c.args.base.now) c.args.arena.now c.args.roots.now c.args.wanted.now c.in_ok-flags.flags.items c.mark_all.new.flags.items c.new-seen.result.items c.len-count.result c.len-count.ensures.len c.requires.here (ap length all ∙ length-replicate c.len-count.result false ∙ c.len-count.ensures.len) (none_true c.len-count.result c.in_ok-flags.flags.items all) c.requires.roots c.mark_all.ensures c.new-seen.ensures.items;
      few = none;
    }

pub plan_of-p-requires-clause-parts : goal.plan_of-p-requires-clause-parts
plan_of-p-requires-clause-parts c =
    let v = c.loop-i.invariant.come in
    let n : c.loop-i.i - 1 < length c.loop-i.flags.items = omega (arith, v.within, v.size, c.loop-i-test.true) in
    let flag : get_or c.loop-i.flags.items (c.loop-i.i - 1) false ≡ true = flag_at c.loop-i.flags.items (c.loop-i.i - 1) c.index.result.now n c.index.ensures c.if-index.true in
    all_parts (setting_of c.args.base.now) c.args.arena.now c.args.wanted.now c.args.found.now c.id.result c.requires.wanted c.requires.found c.requires.all (rw c.id.ensures (omega (arith, n, v.size))) (rw c.id.ensures (v.only (c.loop-i.i - 1) flag))

pub returns-then-len-gt256 : goal.returns-then-len-gt256
returns-then-len-gt256 c =
    let v = c.loop-i.invariant.come in
    let k = setting_of c.args.base.now in
    let ts = c.args.arena.now in
    let e : c.loop-i.i ≡ suc (c.loop-i.i - 1) = omega (arith, c.loop-i-test.true) in
    let n : c.loop-i.i - 1 < length c.loop-i.flags.items = omega (arith, v.within, v.size, c.loop-i-test.true) in
    let flag : get_or c.loop-i.flags.items (c.loop-i.i - 1) false ≡ true = flag_at c.loop-i.flags.items (c.loop-i.i - 1) c.index.result.now n c.index.ensures c.if-index.true in
    come_early k ts (trees_at ts c.args.roots.now) c.args.wanted.now c.flag-then-index.new.flags.items c.add.new.seen.items (c.loop-i.i - 1) c.len.result
    (come_on k ts (trees_at ts c.args.roots.now) c.args.wanted.now c.loop-i.flags.items c.flag.new.flags.items c.flag-then-index.new.flags.items c.loop-i.seen.items c.add.new.seen.items (c.loop-i.i - 1) c.id.result c.plan_of-p.result (rw e at v) c.id.ensures flag
    c.plan_of-p.ensures.plan (c.plan_of-p.ensures.wanted c.args.wanted.now c.requires.wanted (rw c.id.ensures (v.only (c.loop-i.i - 1) flag))) c.flag.ensures c.flag-then-index.ensures c.in_ok-add.ensures)
    (c.len.ensures ∙ c.add.new.seen.ok.0) c.if-len-gt256.true

pub loop-i-preserved-else-len-gt256 : goal.loop-i-preserved-else-len-gt256
loop-i-preserved-else-len-gt256 c =
    let v = c.loop-i.invariant.come in
    let k = setting_of c.args.base.now in
    let ts = c.args.arena.now in
    let e : c.loop-i.i ≡ suc (c.loop-i.i - 1) = omega (arith, c.loop-i-test.true) in
    let n : c.loop-i.i - 1 < length c.loop-i.flags.items = omega (arith, v.within, v.size, c.loop-i-test.true) in
    let flag : get_or c.loop-i.flags.items (c.loop-i.i - 1) false ≡ true = flag_at c.loop-i.flags.items (c.loop-i.i - 1) c.index.result.now n c.index.ensures c.if-index.true in
    record {
      come =
          come_on k ts (trees_at ts c.args.roots.now) c.args.wanted.now c.loop-i.flags.items c.flag.new.flags.items c.flag-then-index.new.flags.items c.loop-i.seen.items c.add.new.seen.items (c.loop-i.i - 1) c.id.result c.plan_of-p.result (rw e at v) c.id.ensures flag
          c.plan_of-p.ensures.plan (c.plan_of-p.ensures.wanted c.args.wanted.now c.requires.wanted (rw c.id.ensures (v.only (c.loop-i.i - 1) flag))) c.flag.ensures c.flag-then-index.ensures c.in_ok-add.ensures;
      few = rw (← c.add.new.seen.ok.0, ← c.len.ensures) c.if-len-gt256.false;
    }

pub loop-i-preserved : goal.loop-i-preserved
loop-i-preserved c =
    let v = c.loop-i.invariant.come in
    let ts = c.args.arena.now in
    let e : c.loop-i.i ≡ suc (c.loop-i.i - 1) = omega (arith, c.loop-i-test.true) in
    let n : c.loop-i.i - 1 < length c.loop-i.flags.items = omega (arith, v.within, v.size, c.loop-i-test.true) in
    record {
      come =
          come_by (setting_of c.args.base.now) ts (trees_at ts c.args.roots.now) c.args.wanted.now c.loop-i.flags.items c.loop-i.seen.items (c.loop-i.i - 1) (rw e at v)
          (flag_not c.loop-i.flags.items (c.loop-i.i - 1) c.index.result.now n c.index.ensures c.if-index.false);
      few = c.loop-i.invariant.few;
    }

pub returns : goal.returns
returns c =
    let v = c.loop-i.invariant.come in
    let ts = c.args.arena.now in
    let e : c.loop-i.i ≡ 0 = omega (arith, c.loop-i-test.false) in
    few (setting_of c.args.base.now) ts (trees_at ts c.args.roots.now) c.args.wanted.now c.loop-i.flags.items c.loop-i.seen.items (rw e at v) c.loop-i.invariant.few
