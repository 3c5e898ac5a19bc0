-- When the numbers of trees are too great to expand them. The numbers are those of the text, found without expanding.
use Rattle.std.specs.List.{list_any}
use Rattle.std.specs.Prelude.{ℕ, ◌^◌, ◌-◌, nat_lt, Bool, ◌||◌, List}
use Rattle.alg_terms.specs.Tree.{Tree}
use Rattle.alg_sums.specs.Coefficients.{Coefficients}
use Rattle.alg_expansions.specs.Setting.{Setting}
use Rattle.alg_expansions.specs.Weight.{denominator, weight, degree}
use Rattle.alg_expansions.specs.Visited.{visited}

-- a denominator or weight above 2^126, or a degree above 2^32 - 1
abbrev pub is_past : ℕ → ℕ → ℕ → Bool
is_past d w n = nat_lt (2 ^ 126) d || (nat_lt (2 ^ 126) w || nat_lt (2 ^ 32 - 1) n)

abbrev pub has_past : {C : Type 0} → Coefficients C → Setting → Tree → Bool
has_past r k t = is_past (denominator r k t) (weight r k t) (degree r k t)

-- some visited node of the tree is past a limit
abbrev pub is_out_of_range : {C : Type 0} → Coefficients C → Setting → Tree → Bool
is_out_of_range r k t = list_any (has_past r k) (visited r k t)

-- one of the trees is out of range
abbrev pub are_out_of_range : {C : Type 0} → Coefficients C → Setting → List Tree → Bool
are_out_of_range r k ts = list_any (is_out_of_range r k) ts
