-- What may follow an expression, by the table of levels.
use Rattle.std.proofs.Common.{◌≡◌, ℕ, ◌≤◌, ◌<◌, List, [], ◌∷◌, ◌++◌, Bool, true, false, ◌&&◌, not, refl, sym, ap, ◌∙◌, arith}
use Rattle.std.specs.Prelude.{nat_le}
use Rattle.std.proofs.lemmas.Bool.{and_from, le-leb, lt-leb, and_left, and_right, true≢false, false≢true}
use Rattle.alg_syntax.specs.Written.{Written}
use Rattle.alg_syntax.specs.declared.signs.Sign.{Sign}
use Rattle.alg_syntax.specs.declared.signs.Sign.TheVariants.{Number, Name, Open, Close, Operator, Inverse, Relation, Fixed}
use Rattle.alg_syntax.specs.declared.signs.Fixed.TheVariants.{Colon}
use Rattle.alg_syntax.specs.Expressions.{Tree, number, name, group, ascribed, minus, inverse, binary, apply, spell, Tier, sum, product, scaling, power, tier, level_of, left_of, right_of, level, is_head, begins_line, Fits, Ends}
use Rattle.alg_syntax.specs.Machine.{takes}

-- nothing inside the expression, read at the level m, goes on with the next sign
abbrev pub Follows : ℕ → Tree → List Sign → Type 0
Follows m a [] = Unit {0}
Follows m a (Number f n ∷ ts) = m ≤ 76 → not f ≡ true → is_head a ≡ true
Follows m a (Name n ∷ ts) = m ≤ 76 → not n.begins_line ≡ true → is_head a ≡ true
Follows m a (Open f ∷ ts) = m ≤ 76 → not f ≡ true → is_head a ≡ true
Follows m a (Close ∷ ts) = Unit {0}
Follows m a (Operator o ∷ ts) = left_of (tier o) ≤ level a
Follows m a (Inverse ∷ ts) = 100 ≤ level a
Follows m a (Relation r ∷ ts) = Unit {0}
Follows m a (Fixed k ∷ ts) = Unit {0}

-- the table: an operator that may follow another one's expression isn't taken by its right part
pub table : (o p : Tier) → left_of p ≤ level_of o → level_of p < right_of o
table sum sum h = omega arith
table sum product h = omega arith
table sum scaling h = omega arith
table sum power h = omega arith
table product sum h = omega arith
table product product h = omega arith
table product scaling h = omega arith
table product power h = omega arith
table scaling sum h = omega arith
table scaling product h = omega arith
table scaling scaling h = omega arith
table scaling power h = omega arith
table power sum h = omega arith
table power product h = omega arith
table power scaling h = omega arith
table power power h = omega arith

-- nor is it taken by the part of a negation
pub minus_table : (p : Tier) → left_of p ≤ 75 → level_of p < 75
minus_table sum h = omega arith
minus_table product h = omega arith
minus_table scaling h = omega arith
minus_table power h = omega arith

pub right_high : (o : Tier) → level_of o ≤ right_of o
right_high sum = omega arith
right_high product = omega arith
right_high scaling = omega arith
right_high power = omega arith

pub right_low : (o : Tier) → right_of o ≤ 100
right_low sum = omega arith
right_low product = omega arith
right_low scaling = omega arith
right_low power = omega arith

pub left_high : (o : Tier) → level_of o ≤ left_of o
left_high sum = omega arith
left_high product = omega arith
left_high scaling = omega arith
left_high power = omega arith

pub level_bounds : (o : Tier) → (65 ≤ level_of o) × (level_of o ≤ 75)
level_bounds sum = (omega arith, omega arith)
level_bounds product = (omega arith, omega arith)
level_bounds scaling = (omega arith, omega arith)
level_bounds power = (omega arith, omega arith)

pub lowest : (a : Tree) → 65 ≤ level a
lowest (number f n) = omega arith
lowest (name n) = omega arith
lowest (group f a) = omega arith
lowest (ascribed f a sort) = omega arith
lowest (minus a) = omega arith
lowest (inverse a) = omega arith
lowest (binary o a b) = (level_bounds (tier o)).0
lowest (apply a b) = omega arith

pub head_level : (a : Tree) → is_head a ≡ true → 76 ≤ level a
head_level (number f n) h = absurd (false≢true h)
head_level (name n) h = omega arith
head_level (group f a) h = absurd (false≢true h)
head_level (ascribed f a sort) h = absurd (false≢true h)
head_level (minus a) h = absurd (false≢true h)
head_level (inverse a) h = absurd (false≢true h)
head_level (binary o a b) h = absurd (false≢true h)
head_level (apply a b) h = omega arith

-- an expression that is the right part of c: what follows c follows it
pub follow_right : (m r : ℕ) (c b : Tree) (rest : List Sign) → m ≤ 76 → level c ≤ level b → level c < 100 → is_head c ≡ false → Follows m c rest → Follows r b rest
follow_right m r c b [] u l s h f = tt
follow_right m r c b (Number g n ∷ ts) u l s h f = λ _ e. absurd (true≢false (sym (f u e) ∙ h))
follow_right m r c b (Name n ∷ ts) u l s h f = λ _ e. absurd (true≢false (sym (f u e) ∙ h))
follow_right m r c b (Open g ∷ ts) u l s h f = λ _ e. absurd (true≢false (sym (f u e) ∙ h))
follow_right m r c b (Close ∷ ts) u l s h f = tt
follow_right m r c b (Operator o ∷ ts) u l s h f = omega arith
follow_right m r c b (Inverse ∷ ts) u l s h f = omega arith
follow_right m r c b (Relation k ∷ ts) u l s h f = tt
follow_right m r c b (Fixed k ∷ ts) u l s h f = tt

fresh_stops : (x y z g : Bool) → (not g ≡ true → z ≡ true) → z ≡ false → (x && (y && not g)) ≡ false
fresh_stops x y z true f h = and_right x (y && false) (and_right y false refl)
fresh_stops x y z false f h = absurd (true≢false (sym (f refl) ∙ h))

-- and the right part doesn't go on with it
pub stop_right : (m r : ℕ) (c b : Tree) (rest : List Sign) → ((p : Tier) → left_of p ≤ level c → level_of p < r) → m ≤ 76 → level c < 100 → is_head c ≡ false → Follows m c rest → takes r b rest ≡ false
stop_right m r c b [] t u s h f = refl
stop_right m r c b (Number g n ∷ ts) t u s h f = fresh_stops (nat_le r 76) (is_head b) (is_head c) g (f u) h
stop_right m r c b (Name n ∷ ts) t u s h f = fresh_stops (nat_le r 76) (is_head b) (is_head c) n.begins_line (f u) h
stop_right m r c b (Open g ∷ ts) t u s h f = fresh_stops (nat_le r 76) (is_head b) (is_head c) g (f u) h
stop_right m r c b (Close ∷ ts) t u s h f = refl
stop_right m r c b (Operator o ∷ ts) t u s h f = and_left (nat_le r (level_of (tier o))) _ (lt-leb r (level_of (tier o)) (t (tier o) f))
stop_right m r c b (Inverse ∷ ts) t u s h f = absurd (omega arith)
stop_right m r c b (Relation k ∷ ts) t u s h f = refl
stop_right m r c b (Fixed k ∷ ts) t u s h f = refl

-- an argument takes no operator, and no further argument
pub stop_argument : (m : ℕ) (a b : Tree) (rest : List Sign) → Follows m (apply a b) rest → takes 100 b rest ≡ false
stop_argument m a b [] f = refl
stop_argument m a b (Number g n ∷ ts) f = refl
stop_argument m a b (Name n ∷ ts) f = refl
stop_argument m a b (Open g ∷ ts) f = refl
stop_argument m a b (Close ∷ ts) f = refl
stop_argument m a b (Operator o ∷ ts) f = and_left (nat_le 100 (level_of (tier o))) _ (let h = (level_bounds (tier o)).1 in lt-leb 100 (level_of (tier o)) (omega arith))
stop_argument m a b (Inverse ∷ ts) f = absurd (omega arith)
stop_argument m a b (Relation k ∷ ts) f = refl
stop_argument m a b (Fixed k ∷ ts) f = refl

-- what follows an application follows its argument
pub follow_argument : (m : ℕ) (a b : Tree) (rest : List Sign) → 100 ≤ level b → Follows m (apply a b) rest → Follows 100 b rest
follow_argument m a b [] l f = tt
follow_argument m a b (Number g n ∷ ts) l f = λ u. absurd (omega arith)
follow_argument m a b (Name n ∷ ts) l f = λ u. absurd (omega arith)
follow_argument m a b (Open g ∷ ts) l f = λ u. absurd (omega arith)
follow_argument m a b (Close ∷ ts) l f = tt
follow_argument m a b (Operator o ∷ ts) l f = omega arith
follow_argument m a b (Inverse ∷ ts) l f = l
follow_argument m a b (Relation k ∷ ts) l f = tt
follow_argument m a b (Fixed k ∷ ts) l f = tt

-- a sign that begins an argument
pub data IsStart : Sign → Type 0 where
  a_number : (f : Bool) (n : ℕ) → IsStart (Number f n)
  a_name : (n : Written) → IsStart (Name n)
  an_open : (f : Bool) → IsStart (Open f)

pub record Starts (ts : List Sign) : Type 0 where
  pub head : Sign
  pub tail : List Sign
  pub cut : ts ≡ head ∷ tail
  pub begins : IsStart head

pub starts : (b : Tree) → Fits b → 100 ≤ level b → Starts (spell b)
starts (number f n) h l = record { head = Number f n; tail = []; cut = refl; begins = a_number f n }
starts (name n) h l = record { head = Name n; tail = []; cut = refl; begins = a_name n }
starts (group f a) h l = record { head = Open f; tail = spell a ++ Close ∷ []; cut = refl; begins = an_open f }
starts (ascribed f a sort) h l = record { head = Open f; tail = spell a ++ Fixed Colon ∷ Name sort ∷ Close ∷ []; cut = refl; begins = an_open f }
starts (minus a) h l = absurd (omega arith)
starts (inverse a) h l = let s = starts a h.1 h.0 in record { head = s.head; tail = s.tail ++ Inverse ∷ []; cut = ap (λ xs. xs ++ Inverse ∷ []) s.cut; begins = s.begins }
starts (binary o a b) h l = let k = (level_bounds (tier o)).1 in absurd (omega arith)
starts (apply a b) h l = absurd (omega arith)

pub start_takes : (m : ℕ) (a : Tree) (t : Sign) (ts : List Sign) → IsStart t → m ≤ 76 → is_head a ≡ true → begins_line (t ∷ ts) ≡ false → takes m a (t ∷ ts) ≡ true
start_takes m a t ts (a_number f n) u h e = and_from _ _ (le-leb m 76 u) (and_from _ _ h (ap not e))
start_takes m a t ts (a_name n) u h e = and_from _ _ (le-leb m 76 u) (and_from _ _ h (ap not e))
start_takes m a t ts (an_open f) u h e = and_from _ _ (le-leb m 76 u) (and_from _ _ h (ap not e))

pub start_line : (t : Sign) (xs ys : List Sign) → IsStart t → begins_line (t ∷ xs) ≡ begins_line (t ∷ ys)
start_line t xs ys (a_number f n) = refl
start_line t xs ys (a_name n) = refl
start_line t xs ys (an_open f) = refl

pub start_follows : (m : ℕ) (a : Tree) (t : Sign) (ts : List Sign) → IsStart t → is_head a ≡ true → Follows m a (t ∷ ts)
start_follows m a t ts (a_number g n) h = λ _ _. h
start_follows m a t ts (a_name n) h = λ _ _. h
start_follows m a t ts (an_open g) h = λ _ _. h

not_fresh : (f : Bool) (P : Type 0) → f ≡ true → not f ≡ true → P
not_fresh true P e h = absurd (false≢true h)
not_fresh false P e h = absurd (false≢true e)

pub ends_follow : (c : Tree) (rest : List Sign) → Ends rest → Follows 65 c rest
ends_follow c [] r = tt
ends_follow c (Number f n ∷ ts) r = λ _ e. not_fresh f _ r e
ends_follow c (Name n ∷ ts) r = λ _ e. not_fresh n.begins_line _ r e
ends_follow c (Open f ∷ ts) r = λ _ e. not_fresh f _ r e
ends_follow c (Close ∷ ts) r = tt
ends_follow c (Operator o ∷ ts) r = absurd r
ends_follow c (Inverse ∷ ts) r = absurd r
ends_follow c (Relation k ∷ ts) r = tt
ends_follow c (Fixed k ∷ ts) r = tt

pub ends_stop : (c : Tree) (rest : List Sign) → Ends rest → takes 65 c rest ≡ false
ends_stop c [] r = refl
ends_stop c (Number f n ∷ ts) r = and_right (is_head c) (not f) (ap not r)
ends_stop c (Name n ∷ ts) r = and_right (is_head c) (not n.begins_line) (ap not r)
ends_stop c (Open f ∷ ts) r = and_right (is_head c) (not f) (ap not r)
ends_stop c (Close ∷ ts) r = refl
ends_stop c (Operator o ∷ ts) r = absurd r
ends_stop c (Inverse ∷ ts) r = absurd r
ends_stop c (Relation k ∷ ts) r = refl
ends_stop c (Fixed k ∷ ts) r = refl

pub level_max : (a : Tree) → level a ≤ 100
level_max (number f n) = omega arith
level_max (name n) = omega arith
level_max (group f a) = omega arith
level_max (ascribed f a sort) = omega arith
level_max (minus a) = omega arith
level_max (inverse a) = omega arith
level_max (binary o a b) = let k = (level_bounds (tier o)).1 in omega arith
level_max (apply a b) = omega arith

ends_in : (xs : List Sign) (t : Sign) (ys : List Sign) → xs ++ t ∷ ys ≡ [] → ⊥
ends_in [] t ys e = cc
ends_in (x ∷ xs) t ys e = cc

front_empty : (xs ys : List Sign) → (xs ≡ [] → ⊥) → xs ++ ys ≡ [] → ⊥
front_empty [] ys n e = n refl
front_empty (x ∷ xs) ys n e = cc

pub no_empty : (b : Tree) → spell b ≡ [] → ⊥
no_empty (number f n) e = cc
no_empty (name n) e = cc
no_empty (group f a) e = cc
no_empty (ascribed f a sort) e = cc
no_empty (minus a) e = cc
no_empty (inverse a) e = ends_in (spell a) Inverse [] e
no_empty (binary o a b) e = ends_in (spell a) (Operator o) (spell b) e
no_empty (apply a b) e = front_empty (spell a) (spell b) (no_empty a) e
