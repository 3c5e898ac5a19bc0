-- The text of the demonstration.
use Rattle.std.specs.Prelude.{ℕ, zero, suc, ◌+◌, ◌*◌, ◌%◌, List, [], ◌++◌, nat_eq, codes, decimal, if◌then◌else◌}

abbrev pub ring_line : (p : ℕ) → List ℕ
ring_line p =
    codes "example : (a + " ++ (decimal p ++ (codes " * b) ^ 2 = a ^ 2 + " ++ (decimal (p * 2) ++ (codes " * (a * b) + " ++ (decimal (p * p) ++ codes " * b ^ 2 := by ring\n")))))

abbrev pub ring_one_line : (p : ℕ) → List ℕ
ring_one_line p = codes "example : " ++ (decimal p ++ (codes " * (a + b) - " ++ (decimal p ++ (codes " * b = " ++ (decimal p ++ codes " * a := by ring1\n")))))

abbrev pub norm_num_line : (i : ℕ) → List ℕ
norm_num_line i = codes "example : " ++ (decimal i ++ codes " % 9 < 5 := by norm_num\n")

abbrev pub combination_line : (q : ℕ) → List ℕ
combination_line q =
    codes "example (h : a = b) : " ++ (decimal q ++ (codes " * a + c = " ++ (decimal q ++ (codes " * b + c := by linear_combination " ++ (decimal q ++ codes " * h\n")))))

-- line i, by the remainder of i by 4
abbrev pub line_text : (i : ℕ) → List ℕ
line_text i =
    if nat_eq (i % 4) 0 then ring_line (i % 9 + 1)
    else (if nat_eq (i % 4) 1 then ring_one_line (i % 9 + 1)
    else (if nat_eq (i % 4) 2 then norm_num_line i else combination_line (i % 5 + 2)))

-- the lines from 1 to n
unfoldable pub lines_text : (n : ℕ) → List ℕ
lines_text zero = []
lines_text (suc n) = lines_text n ++ line_text (suc n)

abbrev pub demonstration_text : (n : ℕ) → List ℕ
demonstration_text n = codes "variable {R : Type*} [CommRing R] (a b c : R)\n" ++ lines_text n
