use Rattle.std.proofs.Common.{◌≡◌, ◌∷◌, [], ◌∙◌, sym, ap, map, get_or, false}
use Rattle.std.specs.Prelude.{◌||◌}
use Rattle.alg_law.specs.LawRows.{pattern_of}
use Rattle.alg_law.specs.Patterns.{occurs_in_any}
use Rattle.alg_kernel.proofs.LetterLemmas.{letters-next, letter-small, no-flag}
use Rattle.alg_kernel.proofs.letters.letters_of.Goals as goal

pub loop-letter-preserved : goal.loop-letter-preserved
loop-letter-preserved c =
    let ks = 0 ∷ 1 ∷ 2 ∷ 3 ∷ 4 ∷ 5 ∷ 6 ∷ 7 ∷ [] in
    let ps = pattern_of c.args.row.now.conclusion ∷ map pattern_of c.args.row.now.premises.now in
    let k = get_or ks c.loop-letter.letter-index 0 in
    let there : get_or c.flag.new.flags k false ≡ occurs_in_any k ps = c.flag.ensures k (letter-small c.loop-letter.letter-index) ∙ ap (λ b. b || occurs_in_any k ps) (no-flag 8 k) in
    sym (letters-next ps ks c.loop-letter.letter-index 0 c.loop-letter.found.items c.loop-letter-test.true _ c.push_if.new.found.items there c.in_ok-push_if.ensures)
    ∙ c.loop-letter.invariant
