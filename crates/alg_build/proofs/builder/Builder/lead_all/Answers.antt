use Rattle.std.proofs.Common.{◌≡◌, ◌-◌, suc, arith}
use Rattle.alg_build.proofs.Lines.{grows-then}
use Rattle.alg_build.proofs.Leading.{leads-grows, lead-last}
use Rattle.alg_build.proofs.builder.Builder.lead_all.Goals as goal

pub lead-requires : goal.lead-requires
lead-requires c =
    let v = c.loop-i.invariant in
    let p = v.leads c.requires.0 c.requires.1 c.requires.2 c.requires.3 in
    let n : c.loop-i.i ≡ suc (c.loop-i.i - 1) = omega (arith, c.loop-i-test.true) in
    let q = lead-last c.args.self.now c.args.backs.now (c.loop-i.i - 1) _ c.requires.0 p.0 (omega (arith, v.within, c.loop-i-test.true)) (rw n at p.1) in
    (q.0, p.0, leads-grows c.args.self.now c.loop-i.self _ q.0 p.0 v.grows q.2, p.2)

pub loop-i-preserved : goal.loop-i-preserved
loop-i-preserved c =
    let v = c.loop-i.invariant in
    let n : c.loop-i.i ≡ suc (c.loop-i.i - 1) = omega (arith, c.loop-i-test.true) in
    record {
      within = omega (arith, v.within);
      grows = grows-then _ _ _ v.grows c.in_ok-line.ensures.grows;
      leads = λ first goal h k.
          let p = v.leads first goal h k in
          let q = lead-last c.args.self.now c.args.backs.now (c.loop-i.i - 1) _ first p.0 (omega (arith, v.within, c.loop-i-test.true)) (rw n at p.1) in
          (q.0, q.1, c.in_ok-line.ensures.concludes q.0 p.0 (leads-grows c.args.self.now c.loop-i.self _ q.0 p.0 v.grows q.2) p.2);
    }
