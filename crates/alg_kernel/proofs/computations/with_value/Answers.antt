use Rattle.alg_expr.proofs.ArenaLaws.{Extends-then, GrowsBy-Extends}
use Rattle.alg_kernel.proofs.NumeralLemmas.{cast_back}
use Rattle.alg_kernel.proofs.ValueLemmas.{value-arity, value-sorts, value-equation}
use Rattle.alg_kernel.proofs.computations.with_value.Goals as goal

pub build-requires-clause-arity : goal.build-requires-clause-arity
build-requires-clause-arity c = rw c.deref.ensures.value (value-arity c.requires.fits.0 c.numerals.new.arena c.in_ok-args.args.items c.args.sym c.args.sort c.args.numbers.now c.requires.fits.1 c.in_ok-args.ensures.trees)

pub build-requires-clause-sorts : goal.build-requires-clause-sorts
build-requires-clause-sorts c = rw c.deref.ensures.value (value-sorts c.requires.fits.0 c.numerals.new.arena c.in_ok-args.args.items c.args.sym c.args.sort c.args.numbers.now c.requires.fits.1 c.in_ok-args.ensures.trees)

pub returns-in_err-rhs-clause-keeps : goal.returns-in_err-rhs-clause-keeps
returns-in_err-rhs-clause-keeps c = Extends-then _ _ _ c.numerals.ensures.keeps (Extends-then _ _ _ (GrowsBy-Extends _ _ _ _ c.in_ok-lhs.ensures.ok) c.numeral.ensures.keeps)

pub returns-clause-keeps : goal.returns-clause-keeps
returns-clause-keeps c = Extends-then _ _ _ c.numerals.ensures.keeps (Extends-then _ _ _ (GrowsBy-Extends _ _ _ _ c.in_ok-lhs.ensures.ok) c.numeral.ensures.keeps)

pub returns-clause-equation : goal.returns-clause-equation
returns-clause-equation c = rw c.equation.ensures (value-equation c.numerals.new.arena c.build.new.arena c.numeral.new.arena c.args.sym c.args.sort c.args.numbers.now c.args.value c.in_ok-args.args.items c.in_ok-lhs.lhs c.in_ok-rhs.rhs c.in_ok-args.ensures.trees (rw c.deref.ensures.value at c.in_ok-lhs.ensures.ok) (rw (cast_back c.args.value c.requires.small_value) at c.in_ok-rhs.ensures.made))
