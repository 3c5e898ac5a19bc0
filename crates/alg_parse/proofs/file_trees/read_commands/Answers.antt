use Rattle.std.proofs.Common.{◌≡◌, [], subst}
use Rattle.std.specs.Option.{MatchOption}
use Rattle.alg_commands.specs.Outcome.{Gives}
use Rattle.alg_parse.proofs.TellingLaws.{reads_on}
use Rattle.alg_parse.proofs.file_trees.read_commands.Goals as goal

pub file-preserved : goal.file-preserved
file-preserved c =
    let old = c.file.commands in
    let left = c.next.new.self in
    reads_on _ old left c.in-Some.reading c.file.reader c.take.new.self c.file.invariant
    (subst (λ o. MatchOption o ((old ≡ []) × (left ≡ [])) (λ r. Gives old r left)) c.in-Some.is c.in_ok-reading.ensures.read)
    c.in_ok-take.ensures
