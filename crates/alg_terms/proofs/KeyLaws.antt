-- Sorts and symbols are told apart by their numbers.
use Rattle.std.proofs.Common.{◌≡◌, ap, sym, ◌∙◌}
use Rattle.alg_terms.specs.declared.sorts.Sort.{Sort}
use Rattle.alg_terms.specs.declared.symbols.Sym.{Sym}
use Rattle.alg_terms.specs.Keys.{sort_key, sort_at, sort_at-sort_key, sym_key, sym_at, sym_at-sym_key}

pub sort_key-inj : (s t : Sort) → sort_key s ≡ sort_key t → s ≡ t
sort_key-inj s t e = sym (sort_at-sort_key s) ∙ ap sort_at e ∙ sort_at-sort_key t

pub sym_key-inj : (f g : Sym) → sym_key f ≡ sym_key g → f ≡ g
sym_key-inj f g e = sym (sym_at-sym_key f) ∙ ap sym_at e ∙ sym_at-sym_key g
