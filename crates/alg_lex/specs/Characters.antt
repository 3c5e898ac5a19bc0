-- What single characters do.
use Rattle.std.specs.Prelude.{ℕ, ◌==◌, ◌&&◌, ◌||◌, nat_le, List, [], ◌∷◌, Bool, false}
use Rattle.unicode_ident.specs.Ident.{is_xid_start, is_xid_continue}

-- space, tab, carriage return and line feed
abbrev pub is_blank : ℕ → Bool
is_blank c = (c == 32) || ((c == 9) || ((c == 13) || (c == 10)))

abbrev pub is_digit : ℕ → Bool
is_digit c = nat_le 48 c && nat_le c 57

-- What begins a part of a name: `_`, or a start of Unicode's identifiers, as ℕ, ℤ and ℚ are.
abbrev pub is_start : ℕ → Bool
is_start c = (c == 95) || is_xid_start c

-- What goes on with a part of a name: `'`, a subscript digit, or what goes on with Unicode's identifiers.
abbrev pub is_continue : ℕ → Bool
is_continue c = (c == 39) || ((nat_le 0x2080 c && nat_le c 0x2089) || is_xid_continue c)

-- the first character, or one that begins nothing
abbrev pub first : List ℕ → ℕ
first [] = 0
first (c ∷ cs) = c

-- whether the text begins with these two characters
abbrev pub begins : ℕ → ℕ → List ℕ → Bool
begins a b [] = false
begins a b (c ∷ cs) = (c == a) && (first cs == b)
