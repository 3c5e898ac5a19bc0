-- A table of which of the first expressions are proofs.
use Rattle.std.proofs.Common.{◌≡◌, ℕ, zero, suc, ◌+◌, ◌≤◌, ◌<◌, List, [], ◌∷◌, ◌++◌, length, take, get_or, Bool, true, false, refl, sym, ap, ◌∙◌, arith, Option, Some, None}
use Rattle.std.specs.Prelude.{◌||◌}
use Rattle.alg_syntax.specs.Expressions.{Tree, apply}
use Rattle.alg_syntax.specs.Nodes.{tree_at}
use Rattle.alg_names.specs.declared.scope.Scope.{Scope}
use Rattle.alg_elaborate.specs.Raw.{Raws, none, more, meant, arguments, applied_at}
use Rattle.alg_elaborate.specs.Combinations.{is_proof, any_proof}
use Rattle.alg_elaborate.specs.Tasks.{proofs_in}
use Rattle.alg_elaborate.proofs.SpineLemmas.{joined, arguments_joined}

pub proof_at : (s : Scope) (ts : List Tree) (n i : ℕ) (d : Bool) → i < n → n ≤ length ts → get_or (proofs_in s (take n ts)) i d ≡ is_proof s (meant (tree_at ts i))
proof_at s ts zero i d l h = absurd (omega arith)
proof_at s [] (suc n) i d l h = absurd (omega arith)
proof_at s (t ∷ ts) (suc n) zero d l h = refl
proof_at s (t ∷ ts) (suc n) (suc i) d l h = proof_at s ts n i d (omega arith) (omega arith)

pub proof_at_any : (s : Scope) (ts : List Tree) (i : ℕ) (d : Bool) → i < length ts → get_or (proofs_in s ts) i d ≡ is_proof s (meant (tree_at ts i))
proof_at_any s [] i d l = absurd (omega arith)
proof_at_any s (t ∷ ts) zero d l = refl
proof_at_any s (t ∷ ts) (suc i) d l = proof_at_any s ts i d (omega arith)

pub one_more : (s : Scope) (ts : List Tree) (n : ℕ) → n < length ts → proofs_in s (take (suc n) ts) ≡ proofs_in s (take n ts) ++ is_proof s (meant (tree_at ts n)) ∷ []
one_more s [] n h = absurd (omega arith)
one_more s (t ∷ ts) zero h = refl
one_more s (t ∷ ts) (suc n) h = ap (λ bs. is_proof s (meant t) ∷ bs) (one_more s ts n (omega arith))

pub all_found : (s : Scope) (ts : List Tree) (found : List Bool) → found ≡ proofs_in s (take (length found) ts) → length found ≡ length ts → found ≡ proofs_in s ts
all_found s ts found e l = e ∙ ap (proofs_in s) (ap (λ (n : ℕ). take n ts) l ∙ whole ts)
  where
    whole : (xs : List Tree) → take (length xs) xs ≡ xs
    whole [] = refl
    whole (x ∷ xs) = ap (λ ys. x ∷ ys) (whole xs)

pub found_on : (s : Scope) (ts : List Tree) (found longer : List Bool) (b : Bool) → found ≡ proofs_in s (take (length found) ts) → length found < length ts → b ≡ is_proof s (meant (tree_at ts (length found))) → longer ≡ found ++ b ∷ [] → length longer ≡ length found + 1 → longer ≡ proofs_in s (take (length longer) ts)
found_on s ts found longer b e l h p q =
    p ∙ ((λ i. e i ++ h i ∷ []) ∙ (sym (one_more s ts (length found) l) ∙ ap (λ (n : ℕ). proofs_in s (take n ts)) (let z : suc (length found) ≡ length longer = omega arith in z)))

pub not_applied : (s : Scope) (o : Option (List ℕ)) (us : Raws) → is_proof s (applied_at o us) ≡ false
not_applied s None us = refl
not_applied s (Some x) us = refl

any_joined : (s : Scope) (us vs : Raws) → any_proof s (joined us vs) ≡ (any_proof s us || any_proof s vs)
any_joined s none vs = refl
any_joined s (more a us) vs = ap (λ b. is_proof s a || b) (any_joined s us vs) ∙ or_assoc (is_proof s a) (any_proof s us) (any_proof s vs)
  where
    or_assoc : (a b c : Bool) → (a || (b || c)) ≡ ((a || b) || c)
    or_assoc true b c = refl
    or_assoc false b c = refl

pub any_apply : (s : Scope) (t a b : Tree) → t ≡ apply a b → any_proof s (arguments t none) ≡ (any_proof s (arguments a none) || (is_proof s (meant b) || false))
any_apply s t a b e =
    ap (λ x. any_proof s (arguments x none)) e
    ∙ (ap (any_proof s) (arguments_joined a (more (meant b) none))
    ∙ any_joined s (arguments a none) (more (meant b) none))

or_true : (b : Bool) → (b || true) ≡ true
or_true true = refl
or_true false = refl

or_false : (b : Bool) → (b || false) ≡ b
or_false true = refl
or_false false = refl

pub found_there : (s : Scope) (t a b : Tree) → t ≡ apply a b → is_proof s (meant b) ≡ true → any_proof s (arguments t none) ≡ true
found_there s t a b e h = any_apply s t a b e ∙ (ap (λ p. any_proof s (arguments a none) || (p || false)) h ∙ or_true (any_proof s (arguments a none)))

pub passed_on : (s : Scope) (t a b : Tree) → t ≡ apply a b → is_proof s (meant b) ≡ false → any_proof s (arguments t none) ≡ any_proof s (arguments a none)
passed_on s t a b e h = any_apply s t a b e ∙ (ap (λ p. any_proof s (arguments a none) || (p || false)) h ∙ or_false (any_proof s (arguments a none)))
