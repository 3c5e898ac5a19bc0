-- How long the text of the demonstration is.
use Rattle.std.proofs.Common.{◌≡◌, ℕ, zero, suc, ◌+◌, ◌*◌, ◌%◌, ◌<◌, ◌≤◌, ◌^◌, List, [], ◌++◌, length, Bool, true, false, refl, ap, sym, subst, ◌∙◌, arith, length-append, append_assoc, append-nil, add-one, codes, decimal}
use Rattle.std.specs.Prelude.{if◌then◌else◌, nat_eq, nat_le}
use Rattle.std.proofs.lemmas.Bool.{leb-true}
use Rattle.std.proofs.lemmas.Fmt.{length-decimal-le}
use Rattle.std.proofs.Math.Nat.{mul-le-mul_left}
use Rattle.alg_run.specs.Demonstration.{ring_line, ring_one_line, norm_num_line, combination_line, line_text, lines_text, demonstration_text}

fixed : (a : List ℕ) → nat_le (length a) 50 ≡ true → length a ≤ 50
fixed a e = leb-true (length a) 50 e

number : (n : ℕ) → n < 100000 → length (decimal n) ≤ 5
number n l = length-decimal-le 5 n (omega arith) (omega (arith, l)) (omega (arith, l))

square : (p : ℕ) → p < 11 → p * p < 100000
square p l =
    let most : p ≤ 10 = omega (arith, l) in
    let small : p * p ≤ p * 10 = mul-le-mul_left p most in
    omega (arith, small, most)

-- three texts, or seven, of which every second is a number

three : (a b c : List ℕ) → length a ≤ 50 → length b ≤ 5 → length c ≤ 50 → length (a ++ (b ++ c)) ≤ 215
three a b c h k l = simp length-append (omega (arith, h, k, l))

seven : (a b c d e f g : List ℕ) → length a ≤ 50 → length b ≤ 5 → length c ≤ 50 → length d ≤ 5 → length e ≤ 50 → length f ≤ 5 → length g ≤ 50 → length (a ++ (b ++ (c ++ (d ++ (e ++ (f ++ g)))))) ≤ 215
seven a b c d e f g h k l m n o p = simp length-append (omega (arith, h, k, l, m, n, o, p))

-- no line has more than 215 bytes

ring_short : (p : ℕ) → p < 11 → length (ring_line p) ≤ 215
ring_short p l =
    seven (codes "example : (a + ") (decimal p) (codes " * b) ^ 2 = a ^ 2 + ") (decimal (p * 2)) (codes " * (a * b) + ") (decimal (p * p)) (codes " * b ^ 2 := by ring\n")
    (fixed (codes "example : (a + ") refl) (number p (omega (arith, l))) (fixed (codes " * b) ^ 2 = a ^ 2 + ") refl) (number (p * 2) (omega (arith, l))) (fixed (codes " * (a * b) + ") refl) (number (p * p) (square p l)) (fixed (codes " * b ^ 2 := by ring\n") refl)

ring_one_short : (p : ℕ) → p < 11 → length (ring_one_line p) ≤ 215
ring_one_short p l =
    let few : length (decimal p) ≤ 5 = number p (omega (arith, l)) in
    seven (codes "example : ") (decimal p) (codes " * (a + b) - ") (decimal p) (codes " * b = ") (decimal p) (codes " * a := by ring1\n")
    (fixed (codes "example : ") refl) few (fixed (codes " * (a + b) - ") refl) few (fixed (codes " * b = ") refl) few (fixed (codes " * a := by ring1\n") refl)

norm_num_short : (i : ℕ) → i < 100000 → length (norm_num_line i) ≤ 215
norm_num_short i l = three (codes "example : ") (decimal i) (codes " % 9 < 5 := by norm_num\n") (fixed (codes "example : ") refl) (number i l) (fixed (codes " % 9 < 5 := by norm_num\n") refl)

combination_short : (q : ℕ) → q < 11 → length (combination_line q) ≤ 215
combination_short q l =
    let few : length (decimal q) ≤ 5 = number q (omega (arith, l)) in
    seven (codes "example (h : a = b) : ") (decimal q) (codes " * a + c = ") (decimal q) (codes " * b + c := by linear_combination ") (decimal q) (codes " * h\n")
    (fixed (codes "example (h : a = b) : ") refl) few (fixed (codes " * a + c = ") refl) few (fixed (codes " * b + c := by linear_combination ") refl) few (fixed (codes " * h\n") refl)

either_short : (b : Bool) (a c : List ℕ) (n : ℕ) → length a ≤ n → length c ≤ n → length (if b then a else c) ≤ n
either_short true a c n l k = l
either_short false a c n l k = k

line_short : (i : ℕ) → i < 100000 → length (line_text i) ≤ 215
line_short i l =
    let nine : i % 9 < 9 = omega arith in
    let five : i % 5 < 5 = omega arith in
    either_short (nat_eq (i % 4) 0) (ring_line (i % 9 + 1)) _ 215 (ring_short (i % 9 + 1) (omega (arith, nine)))
    (either_short (nat_eq (i % 4) 1) (ring_one_line (i % 9 + 1)) _ 215 (ring_one_short (i % 9 + 1) (omega (arith, nine)))
    (either_short (nat_eq (i % 4) 2) (norm_num_line i) (combination_line (i % 5 + 2)) 215 (norm_num_short i l) (combination_short (i % 5 + 2) (omega (arith, five)))))

lines_short : (n : ℕ) → n < 100000 → length (lines_text n) ≤ 215 * n
unfolding lines_text
lines_short zero l = omega arith
lines_short (suc n) l =
    let before = lines_short n (omega (arith, l)) in
    let line = line_short (suc n) l in
    omega (arith, before, line, length-append (lines_text n) (line_text (suc n)))

-- nor is the text too long to be read
demonstration_short : (n : ℕ) → n ≤ 10000 → length (demonstration_text n) ≤ 2 ^ 24
demonstration_short n l =
    let lines = lines_short n (omega (arith, l)) in
    let heading = fixed (codes "variable {R : Type*} [CommRing R] (a b c : R)\n") refl in
    omega (arith, lines, heading, l, length-append (codes "variable {R : Type*} [CommRing R] (a b c : R)\n") (lines_text n))

pub text_short : (n : ℕ) (a b : List ℕ) → n ≤ 10000 → a ≡ b → b ≡ demonstration_text n → length a ≤ 2 ^ 24
text_short n a b l same is = subst (λ (text : List ℕ). length text ≤ 2 ^ 24) (sym (same ∙ is)) (demonstration_short n l)

-- one line more

lines_more : (n : ℕ) → lines_text (n + 1) ≡ lines_text n ++ line_text (n + 1)
unfolding lines_text
lines_more n = rw add-one refl

pub line_added : (n : ℕ) (a b line : List ℕ) → a ≡ demonstration_text n → line ≡ line_text (n + 1) → b ≡ a ++ line → b ≡ demonstration_text (n + 1)
line_added n a b line before is added =
    added ∙ ap (λ l. l ++ line) before ∙ ap (λ l. demonstration_text n ++ l) is ∙ append_assoc (codes "variable {R : Type*} [CommRing R] (a b c : R)\n") (lines_text n) (line_text (n + 1))
    ∙ ap (λ l. codes "variable {R : Type*} [CommRing R] (a b c : R)\n" ++ l) (sym (lines_more n))

pub no_lines : (b : List ℕ) → b ≡ [] ++ codes "variable {R : Type*} [CommRing R] (a b c : R)\n" → b ≡ demonstration_text 0
unfolding lines_text
no_lines b e = e ∙ sym (append-nil (codes "variable {R : Type*} [CommRing R] (a b c : R)\n"))
