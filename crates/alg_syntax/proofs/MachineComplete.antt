-- What is spelled is read by the machine.
use Rattle.std.proofs.Common.{◌≡◌, ℕ, zero, suc, ◌+◌, ◌*◌, ◌≤◌, List, [], ◌∷◌, ◌++◌, length, true, false, Some, refl, sym, ap, ◌∙◌, arith, append_assoc}
use Rattle.std.specs.Prelude.{nat_le}
use Rattle.std.proofs.lemmas.Bool.{and_from, le-leb, cond-true, cond-false}
use Rattle.alg_syntax.specs.declared.signs.Sign.{Sign}
use Rattle.alg_syntax.specs.declared.signs.Sign.TheVariants.{Number, Name, Close, Operator, Inverse, Fixed}
use Rattle.alg_syntax.specs.declared.signs.Fixed.TheVariants.{Colon}
use Rattle.alg_syntax.specs.Expressions.{Tree, number, name, group, ascribed, minus, inverse, binary, apply, spell, tier, level_of, left_of, right_of, level, begins_line, Fits, Ends}
use Rattle.alg_syntax.specs.Machine.{takes, Begin, Go, Frame, In_minus, In_right, In_argument, In_group, Run, first_at, longer_at, whole_at, run}
use Rattle.alg_syntax.proofs.Levels.{Follows, table, minus_table, right_high, follow_right, stop_right, stop_argument, follow_argument, starts, start_takes, start_line, start_follows, head_level, left_high, level_bounds, lowest, ends_follow, ends_stop, IsStart, a_number, a_name, an_open}

pub record Continues (n m : ℕ) (c : Tree) (fs : List Frame) (rest : List Sign) : Type 0 where
  pub left : ℕ
  pub enough : 3 * length rest + length fs + 2 ≤ left
  pub same : run (suc n) (Begin m) fs (spell c ++ rest) ≡ run (suc left) (Go m c) fs rest

begins : (n m : ℕ) (fs : List Frame) (ts : List Sign) → run (suc n) (Begin m) fs ts ≡ first_at (run n) m fs ts
unfolding run
begins n m fs ts = refl

goes : (n m : ℕ) (a : Tree) (fs : List Frame) (ts : List Sign) → takes m a ts ≡ true → run (suc n) (Go m a) fs ts ≡ longer_at (run n) m a fs ts
unfolding run
goes n m a fs ts h = cond-true (takes m a ts) _ _ h

ends : (n m : ℕ) (a : Tree) (fs : List Frame) (ts : List Sign) → takes m a ts ≡ false → run (suc n) (Go m a) fs ts ≡ whole_at (run n) a fs ts
unfolding run
ends n m a fs ts h = cond-false (takes m a ts) _ _ h

start_longer : (f : Run) (m : ℕ) (a : Tree) (fs : List Frame) (t : Sign) (ts : List Sign) → IsStart t → longer_at f m a fs (t ∷ ts) ≡ f (Begin 100) (In_argument m a ∷ fs) (t ∷ ts)
start_longer f m a fs t ts (a_number g n) = refl
start_longer f m a fs t ts (a_name n) = refl
start_longer f m a fs t ts (an_open g) = refl

-- a part goes to its frame
part : (n r m : ℕ) (b c : Tree) (frame : Frame) (fs : List Frame) (rest after : List Sign) → Continues n r b (frame ∷ fs) rest → takes r b rest ≡ false → ((f : Run) → whole_at f b (frame ∷ fs) rest ≡ f (Go m c) fs after) → length after ≤ length rest → (k : ℕ) × (3 * length after + length fs + 2 ≤ k) × (run (suc n) (Begin r) (frame ∷ fs) (spell b ++ rest) ≡ run (suc k) (Go m c) fs after)
part n r m b c frame fs rest after h t w l = go h.left h.enough h.same
  where
    go : (k : ℕ) → 3 * length rest + length (frame ∷ fs) + 2 ≤ k → run (suc n) (Begin r) (frame ∷ fs) (spell b ++ rest) ≡ run (suc k) (Go r b) (frame ∷ fs) rest → (k : ℕ) × (3 * length after + length fs + 2 ≤ k) × (run (suc n) (Begin r) (frame ∷ fs) (spell b ++ rest) ≡ run (suc k) (Go m c) fs after)
    go zero q e = absurd (omega arith)
    go (suc k) q e = (k, omega arith, e ∙ (ends (suc k) r b (frame ∷ fs) rest t ∙ w (run (suc k))))

-- a left part goes on with what follows it, up to the end of the right part
right_part : (n m r : ℕ) (a b c : Tree) (frame : Frame) (fs : List Frame) (ts rest : List Sign) → Continues n m a fs ts → takes m a ts ≡ true → ((f : Run) → longer_at f m a fs ts ≡ f (Begin r) (frame ∷ fs) (spell b ++ rest)) → length (spell b ++ rest) ≤ length ts → ((j : ℕ) → 3 * length (spell b ++ rest) + length (frame ∷ fs) ≤ j → Continues j r b (frame ∷ fs) rest) → takes r b rest ≡ false → ((f : Run) → whole_at f b (frame ∷ fs) rest ≡ f (Go m c) fs rest) → spell a ++ ts ≡ spell c ++ rest → Continues n m c fs rest
right_part n m r a b c frame fs ts rest h t w l k e v q = go h.left h.enough h.same
  where
    go : (j : ℕ) → 3 * length ts + length fs + 2 ≤ j → run (suc n) (Begin m) fs (spell a ++ ts) ≡ run (suc j) (Go m a) fs ts → Continues n m c fs rest
    go zero u p = absurd (omega arith)
    go (suc j) u p =
        let x = part j r m b c frame fs rest rest (k j (omega arith)) e v (omega arith) in
        record { left = x.0; enough = x.1; same = ap (run (suc n) (Begin m) fs) (sym q) ∙ (p ∙ (goes (suc j) m a fs ts t ∙ (w (run (suc j)) ∙ x.2))) }

pub complete : (c : Tree) → Fits c → (m n : ℕ) (fs : List Frame) (rest : List Sign) → m ≤ level c → Follows m c rest → 3 * length (spell c ++ rest) + length fs ≤ n → Continues n m c fs rest
complete (number f v) h m zero fs rest l g s = absurd (omega arith)
complete (number f v) h m (suc n) fs rest l g s = record { left = n; enough = omega arith; same = begins (suc n) m fs (Number f v ∷ rest) }
complete (name n0) h m zero fs rest l g s = absurd (omega arith)
complete (name n0) h m (suc n) fs rest l g s = record { left = n; enough = omega arith; same = begins (suc n) m fs (Name n0 ∷ rest) }
complete (group f a) h m zero fs rest l g s = absurd (omega arith)
complete (group f a) h m (suc n) fs rest l g s =
    let q = append_assoc (spell a) (Close ∷ []) rest in
    let qn = ap length q in
    let p = part n 65 m a (group f a) (In_group m f) fs (Close ∷ rest) rest (complete a h 65 n (In_group m f ∷ fs) (Close ∷ rest) (lowest a) tt (omega arith)) refl (λ k. refl) (omega arith) in
    record { left = p.0; enough = p.1; same = begins (suc n) m fs (spell (group f a) ++ rest) ∙ (ap (run (suc n) (Begin 65) (In_group m f ∷ fs)) q ∙ p.2) }
complete (ascribed f a sort) h m zero fs rest l g s = absurd (omega arith)
complete (ascribed f a sort) h m (suc n) fs rest l g s =
    let more = Fixed Colon ∷ Name sort ∷ Close ∷ rest in
    let q = append_assoc (spell a) (Fixed Colon ∷ Name sort ∷ Close ∷ []) rest in
    let qn = ap length q in
    let p = part n 65 m a (ascribed f a sort) (In_group m f) fs more rest (complete a h 65 n (In_group m f ∷ fs) more (lowest a) tt (omega arith)) refl (λ k. refl) (omega arith) in
    record { left = p.0; enough = p.1; same = begins (suc n) m fs (spell (ascribed f a sort) ++ rest) ∙ (ap (run (suc n) (Begin 65) (In_group m f ∷ fs)) q ∙ p.2) }
complete (minus a) h m zero fs rest l g s = absurd (omega arith)
complete (minus a) h m (suc n) fs rest l g s =
    let u : m ≤ 76 = omega arith in
    let p = part n 75 m a (minus a) (In_minus m) fs rest rest (complete a h.1 75 n (In_minus m ∷ fs) rest h.0 (follow_right m 75 (minus a) a rest u h.0 (omega arith) refl g) (omega arith)) (stop_right m 75 (minus a) a rest minus_table u (omega arith) refl g) (λ k. refl) (omega arith) in
    record { left = p.0; enough = p.1; same = begins (suc n) m fs (spell (minus a) ++ rest) ∙ (cond-true (nat_le m 75) _ _ (le-leb m 75 l) ∙ p.2) }
complete (inverse a) h m n fs rest l g s =
    let q = append_assoc (spell a) (Inverse ∷ []) rest in
    let qn = ap length q in
    let k = complete a h.1 m n fs (Inverse ∷ rest) (omega arith) h.0 (omega arith) in
    go k.left k.enough (ap (run (suc n) (Begin m) fs) q ∙ k.same)
  where
    go : (k : ℕ) → 3 * length (Inverse ∷ rest) + length fs + 2 ≤ k → run (suc n) (Begin m) fs (spell (inverse a) ++ rest) ≡ run (suc k) (Go m a) fs (Inverse ∷ rest) → Continues n m (inverse a) fs rest
    go zero q e = absurd (omega arith)
    go (suc k) q e = record { left = k; enough = omega arith; same = e ∙ goes (suc k) m a fs (Inverse ∷ rest) (le-leb 100 (level a) h.0) }
complete (binary o a b) h m n fs rest l g s =
    let q = append_assoc (spell a) (Operator o ∷ spell b) rest in
    let qn = ap length q in
    let lh = left_high (tier o) in
    let lb = level_bounds (tier o) in
    let rh = right_high (tier o) in
    let u : m ≤ 76 = omega arith in
    right_part n m (right_of (tier o)) a b (binary o a b) (In_right m a o) fs (Operator o ∷ (spell b ++ rest)) rest
    (complete a h.2 m n fs (Operator o ∷ (spell b ++ rest)) (omega arith) h.0 (omega arith))
    (and_from _ _ (le-leb m (level_of (tier o)) l) (le-leb (left_of (tier o)) (level a) h.0))
    (λ f. refl) (omega arith)
    (λ j z. complete b h.3 (right_of (tier o)) j (In_right m a o ∷ fs) rest h.1 (follow_right m (right_of (tier o)) (binary o a b) b rest u (omega arith) (omega arith) refl g) z)
    (stop_right m (right_of (tier o)) (binary o a b) b rest (table (tier o)) u (omega arith) refl g)
    (λ f. refl) (sym q)
complete (apply a b) h m n fs rest l g s =
    let q = append_assoc (spell a) (spell b) rest in
    let t = starts b h.4 h.1 in
    let tr = t.tail ++ rest in
    let qt : spell b ++ rest ≡ t.head ∷ tr = ap (λ xs. xs ++ rest) t.cut in
    let whole : spell a ++ (t.head ∷ tr) ≡ spell (apply a b) ++ rest = ap (λ xs. spell a ++ xs) (sym qt) ∙ sym q in
    let size = ap length whole in
    let room = ap length qt in
    let high = head_level a h.0 in
    right_part n m 100 a b (apply a b) (In_argument m a) fs (t.head ∷ tr) rest
    (complete a h.3 m n fs (t.head ∷ tr) (omega arith) (start_follows m a t.head tr t.begins h.0) (omega arith))
    (start_takes m a t.head tr t.begins l h.0 (start_line t.head tr t.tail t.begins ∙ (ap begins_line (sym t.cut) ∙ h.2)))
    (λ f. start_longer f m a fs t.head tr t.begins ∙ ap (f (Begin 100) (In_argument m a ∷ fs)) (sym qt)) (omega arith)
    (λ j z. complete b h.4 100 j (In_argument m a ∷ fs) rest h.1 (follow_argument m a b rest h.1 g) z)
    (stop_argument m a b rest g)
    (λ f. refl) whole

-- what is written is read, and what follows is left
pub reads_spelled : (c : Tree) (rest : List Sign) (n : ℕ) → Fits c → Ends rest → 3 * length (spell c ++ rest) ≤ n → run (suc n) (Begin 65) [] (spell c ++ rest) ≡ Some (c, rest)
reads_spelled c rest n h r s =
    let k = complete c h 65 n [] rest (lowest c) (ends_follow c rest r) (omega arith) in
    k.same ∙ ends k.left 65 c [] rest (ends_stop c rest r)
