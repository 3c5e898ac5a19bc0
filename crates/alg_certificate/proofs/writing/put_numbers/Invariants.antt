use Rattle.std.proofs.Common.{◌≡◌, ◌++◌, length}
use Rattle.alg_certificate.specs.Spelling.{bytes, spell_items, numbers}
use Rattle.alg_certificate.proofs.writing.put_numbers.Given as goal

abbrev pub invariant-numbers : goal.invariant-numbers
invariant-numbers l = l.text.items ++ bytes (spell_items (numbers l.left)) ≡ l.fn.text.items ++ bytes (spell_items (numbers l.ns))

abbrev pub decreases-numbers : goal.decreases-numbers
decreases-numbers l = length l.left
