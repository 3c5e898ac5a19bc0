use Rattle.alg_horner.proofs.Normal.{atom_sound}
use Rattle.alg_sums.specs.Rational.{rational}
use Rattle.alg_horner.proofs.form.Horner.atom.Goals as goal

pub sum-requires : goal.sum-requires
sum-requires g c = rw (c.in_ok-inner.ensures, c.in_ok-rest.ensures) (atom_sound rational _ _ c.one.ensures c.zero.ensures)
