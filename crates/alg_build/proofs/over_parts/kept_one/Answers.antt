use Rattle.alg_build.proofs.OnePart.{one_arity, one_sorts, one_kept}
use Rattle.alg_build.proofs.over_parts.kept_one.Goals as goal

pub app-requires-clause-arity : goal.app-requires-clause-arity
app-requires-clause-arity c = one_arity _ _ _ _ c.requires.part

pub app-requires-clause-sorts : goal.app-requires-clause-sorts
app-requires-clause-sorts c = one_sorts _ _ _ _ c.requires.part

pub returns-clause-turns : goal.returns-clause-turns
returns-clause-turns c t x y p h = one_kept _ _ _ _ t _ _ x y c.requires.none p h c.in_ok-to.ensures.ok
