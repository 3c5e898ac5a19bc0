use Rattle.std.proofs.Common.{length, ◌≤◌, ◌+◌}
use Rattle.std.specs.Str.{chars}
use Rattle.alg_lex.specs.Comments.{comment_len}
use Rattle.alg_lex.proofs.Scanning.{ScansIf}
use Rattle.alg_lex.proofs.scan.after_comment.Given as goal

abbrev pub invariant-loop-c : goal.invariant-loop-c
invariant-loop-c l = record {
  passed : ScansIf (comment_len 0 (chars l.text)) l.text l.left (comment_len l.depth (chars l.left));
  room : l.depth + length l.left ≤ length l.text;
}

abbrev pub decreases-loop-c : goal.decreases-loop-c
decreases-loop-c l = length l.left
