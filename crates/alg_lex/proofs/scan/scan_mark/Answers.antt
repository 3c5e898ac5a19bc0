use Rattle.std.proofs.Common.{◌≡◌, sym, [], ◌∷◌, false}
use Rattle.std.specs.Str.{chars}
use Rattle.alg_lex.specs.Characters.{first}
use Rattle.alg_lex.specs.Tokens.{is_mark}
use Rattle.alg_lex.proofs.Pieces.{cuts_pair, cuts_single, cuts_stray, no_pair, no_pair_at_end}
use Rattle.alg_lex.proofs.scan.scan_mark.Goals.{in-Some+else-is_pair, in_default}
use Rattle.alg_lex.proofs.scan.scan_mark.Goals as goal

pub returns-then-is_pair : goal.returns-then-is_pair
returns-then-is_pair c = cuts_pair c.args.c c.in-Some.d c.args.rest.now c.in-Some.behind.now c.in-Some.ensures.0 c.in-Some.ensures.2 (sym c.if-is_pair.ensures)

pub returns-then-is_single : goal.returns-then-is_single
returns-then-is_single c =
    let no : is_mark (c.args.c ∷ first (chars c.args.rest.now) ∷ []) ≡ false =
    elim c.match-split_first_char.branch [ in-Some+else-is_pair w ↦ no_pair c.args.c w.in-Some.d c.args.rest.now _ w.in-Some.ensures.0 (sym w.if-is_pair.ensures) | in_default w ↦ no_pair_at_end c.args.c c.args.rest.now w.in_default.ensures.0 ] in
    cuts_single c.args.c c.args.rest.now no (sym c.if-is_single.ensures)

pub returns-else-is_single : goal.returns-else-is_single
returns-else-is_single c =
    let no : is_mark (c.args.c ∷ first (chars c.args.rest.now) ∷ []) ≡ false =
    elim c.match-split_first_char.branch [ in-Some+else-is_pair w ↦ no_pair c.args.c w.in-Some.d c.args.rest.now _ w.in-Some.ensures.0 (sym w.if-is_pair.ensures) | in_default w ↦ no_pair_at_end c.args.c c.args.rest.now w.in_default.ensures.0 ] in
    cuts_stray c.args.c c.args.rest.now no (sym c.if-is_single.ensures)
