use Rattle.alg_lex.proofs.Scanning.{scan_start, scan_both, scan_end}
use Rattle.alg_lex.proofs.scan.after_name.Goals as goal

pub after_letter-requires-text-text : goal.after_letter-requires-text-text
after_letter-requires-text-text c κs = c.loop-rest.invariant.utf8

pub loop-rest-init : goal.loop-rest-init
loop-rest-init c = scan_start _ _ c.utf8.text

pub loop-rest-preserved : goal.loop-rest-preserved
loop-rest-preserved c = scan_both _ _ _ _ _ _ c.loop-rest.invariant c.in-Some.ensures.0

pub returns : goal.returns
returns c = scan_end _ _ _ _ c.loop-rest.invariant c.in_default.ensures
