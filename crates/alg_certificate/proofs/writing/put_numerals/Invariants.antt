use Rattle.std.proofs.Common.{◌≡◌, ◌++◌, length}
use Rattle.alg_certificate.specs.Spelling.{bytes, spell_items, numerals}
use Rattle.alg_certificate.proofs.writing.put_numerals.Given as goal

abbrev pub invariant-numerals : goal.invariant-numerals
invariant-numerals l = l.text.items ++ bytes (spell_items (numerals l.left)) ≡ l.fn.text.items ++ bytes (spell_items (numerals l.xs))

abbrev pub decreases-numerals : goal.decreases-numerals
decreases-numerals l = length l.left
