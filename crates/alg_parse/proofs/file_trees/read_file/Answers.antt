use Rattle.alg_parse.proofs.TellingLaws.{file_read}
use Rattle.alg_parse.proofs.file_trees.read_file.Goals as goal

pub returns : goal.returns
returns c =
    let e = c.in_ok-file.ensures in
    file_read c.args.src.now c.in_ok-reader.reader c.in_ok-file.file c.in_ok-reader.ensures e.arena e.shared e.commands
