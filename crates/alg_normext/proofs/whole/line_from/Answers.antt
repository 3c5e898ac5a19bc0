use Rattle.alg_build.proofs.Lines.{grows-then}
use Rattle.alg_normext.proofs.Worths.{both-follow, both-turn, both-prove, grows-computes, ready-stand}
use Rattle.alg_normext.proofs.whole.line_from.Goals as goal

pub over_all-requires : goal.over_all-requires
over_all-requires c = ready-stand c.args.cx.now c.args.head c.args.lines.now c.args.numbers.now c.args.value c.requires

pub computed-requires-clause-computes : goal.computed-requires-clause-computes
computed-requires-clause-computes c = grows-computes _ _ _ _ _ c.in_ok-r.ensures.grows c.requires.computes

pub then-requires : goal.then-requires
then-requires c = both-follow c.args.cx.now c.over_all.new.cx c.computed.new.cx c.args.head c.args.value c.args.lines.now c.args.numbers.now c.in_ok-r.r c.in_ok-s.s c.in_ok-s.ensures.grows c.in_ok-r.ensures.turns c.in_ok-s.ensures.turns c.requires.trees c.requires.prove c.requires.heads

pub line_of-requires : goal.line_of-requires
line_of-requires c = both-turn c.args.cx.now c.over_all.new.cx c.computed.new.cx c.args.head c.args.value c.args.lines.now c.args.numbers.now c.in_ok-r.r c.in_ok-s.s c.in_ok-s.ensures.grows c.in_ok-r.ensures.turns c.in_ok-s.ensures.turns c.requires.trees c.requires.prove c.requires.heads c.then.new.cx c.in_ok-q.q c.in_ok-q.ensures.turns

pub returns-clause-proves : goal.returns-clause-proves
returns-clause-proves c = λ ts prove heads. both-prove c.args.cx.now c.over_all.new.cx c.computed.new.cx c.args.head c.args.value c.args.lines.now c.args.numbers.now c.in_ok-r.r c.in_ok-s.s c.in_ok-s.ensures.grows c.in_ok-r.ensures.turns c.in_ok-s.ensures.turns ts prove heads c.then.new.cx c.line_of.new.cx c.in_ok-q.q c.in_ok-line.line c.in_ok-q.ensures.turns c.in_ok-line.ensures.proves

pub returns-clause-grows : goal.returns-clause-grows
returns-clause-grows c = grows-then _ _ _ c.in_ok-r.ensures.grows (grows-then _ _ _ c.in_ok-s.ensures.grows (grows-then _ _ _ c.in_ok-q.ensures.grows c.in_ok-line.ensures.grows))
