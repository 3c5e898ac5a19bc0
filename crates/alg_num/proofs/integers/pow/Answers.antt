use Rattle.std.proofs.Common.{◌≡◌, ◌<◌, pos, negsuc, arith, ap, sym, lit≤}
use Rattle.std.specs.Prelude.{unsigned_abs}
use Rattle.std.proofs.lemmas.Int.{ints}
use Rattle.alg_num.proofs.PowerLaws.{int_pow-zero}
use Rattle.alg_num.proofs.Powers.{is_small, minus-even, minus-odd, large, zero-pow, one-pow, power_past}
use Rattle.alg_num.proofs.integers.pow.Goals as goal
use Rattle.alg_num.proofs.integers.pow.Goals.{then-n-eq0-via-then-n-eq0, then-n-eq0-via-else-n-eq0+then-a-eq1}

pub returns-then-n-eq0 : goal.returns-then-n-eq0
returns-then-n-eq0 c =
    elim c.then-n-eq0.branch [
      | then-n-eq0-via-then-n-eq0 w ↦ is_small (pos 1) _ (lit≤ tt) (rw w.if-n-eq0.true (sym (int_pow-zero c.args.a)))
      | then-n-eq0-via-else-n-eq0+then-a-eq1 w ↦ let e : c.args.a ≡ pos 1 = omega (arith, ints) in
          is_small (pos 1) _ (lit≤ tt) (rw e (sym (ap pos (one-pow c.args.n))))
    ]

pub returns-then-a-eq0 : goal.returns-then-a-eq0
returns-then-a-eq0 c = let e : c.args.a ≡ pos 0 = omega (arith, ints) in is_small (pos 0) _ (lit≤ tt) (rw e (sym (ap pos (zero-pow c.args.n (omega arith)))))

pub returns-then-n-eq0-2 : goal.returns-then-n-eq0-2
returns-then-n-eq0-2 c = let e : c.args.a ≡ negsuc 0 = omega (arith, ints) in is_small (pos 1) _ (lit≤ tt) (rw e (minus-even c.args.n c.if-n-eq0-2.true))

pub returns-else-n-eq0-2 : goal.returns-else-n-eq0-2
returns-else-n-eq0-2 c = let e : c.args.a ≡ negsuc 0 = omega (arith, ints) in is_small (negsuc 0) _ (lit≤ tt) (rw e (minus-odd c.args.n c.if-n-eq0-2.false))

pub returns-then-n-gt127 : goal.returns-then-n-gt127
returns-then-n-gt127 c =
    let h : 1 < unsigned_abs c.args.a =
    large c.args.a (λ e. c.if-a-eq1.false (omega (arith, ints, e))) (λ e. c.if-a-eq0.false (omega (arith, ints, e))) (λ e. c.if-a-eqminus1.false (omega (arith, ints, e))) in
    λ k. omega (arith, power_past c.args.a c.args.n h (omega arith))
