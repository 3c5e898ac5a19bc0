use Rattle.std.proofs.Common.{◌≡◌, ◌≤◌, ◌^◌, ◌+◌, length}
use Rattle.std.specs.Str.{chars, IsUtf8}
use Rattle.alg_lex.specs.Items.{items_from}
use Rattle.alg_lex.proofs.Lexer.next.Given as goal

abbrev pub invariant-gaps : goal.invariant-gaps
invariant-gaps l = record {
  same : l.fn.self ≡ items_from (record { at = l.self-inside.at; line = l.self-inside.line; fresh = l.self-inside.fresh }) (chars l.self-inside.rest.now);
  utf8 : IsUtf8 l.self-inside.rest.now;
  room : l.self-inside.at + length l.self-inside.rest.now ≤ 2 ^ 24;
  lines : l.self-inside.line ≤ l.self-inside.at + 1;
}

abbrev pub decreases-gaps : goal.decreases-gaps
decreases-gaps l = length l.self-inside.rest.now
