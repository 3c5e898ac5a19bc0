use Rattle.alg_scripts.proofs.fates.note_line.Goals as goal

pub returns : goal.returns
returns c = rw c.text_of_note-name.ensures at c.format.ensures.ok
