-- The reader of expressions: a machine over the signs, which keeps the parts that wait for a further part.
use Rattle.std.specs.Prelude.{ℕ, zero, suc, ◌*◌, List, [], ◌∷◌, length, Bool, false, cond, ◌&&◌, not, Option, Some, None, nat_le, option_map, option_and_then}
use Rattle.alg_syntax.specs.Written.{Written}
use Rattle.alg_syntax.specs.declared.signs.Operator as operator
use Rattle.alg_syntax.specs.declared.signs.Operator.TheVariants.{Add, Sub, Mul, Div, Mod, Smul, Pow}
use Rattle.alg_syntax.specs.declared.signs.Fixed.TheVariants.{Colon}
use Rattle.alg_syntax.specs.declared.signs.Sign.{Sign}
use Rattle.alg_syntax.specs.declared.signs.Sign.TheVariants.{Number, Name, Open, Close, Operator, Inverse, Relation, Fixed}
use Rattle.alg_syntax.specs.Expressions.{Tree, number, name, group, ascribed, minus, inverse, binary, apply, tier, level_of, left_of, right_of, level, is_head}
use Rattle.alg_syntax.specs.Front.{after_fixed, after_close, name_first}

-- what was read, and what is left
abbrev pub Found : Type 0
Found = Option (Tree × List Sign)

-- whether the expression, read at the level m, goes on with the next sign
abbrev pub takes : ℕ → Tree → List Sign → Bool
takes m a [] = false
takes m a (Number f n ∷ ts) = nat_le m 76 && (is_head a && not f)
takes m a (Name n ∷ ts) = nat_le m 76 && (is_head a && not n.begins_line)
takes m a (Open f ∷ ts) = nat_le m 76 && (is_head a && not f)
takes m a (Close ∷ ts) = false
takes m a (Operator o ∷ ts) = nat_le m (level_of (tier o)) && nat_le (left_of (tier o)) (level a)
takes m a (Inverse ∷ ts) = nat_le 100 (level a)
takes m a (Relation r ∷ ts) = false
takes m a (Fixed k ∷ ts) = false

-- to read a part of a level, or to go on with one
pub data Mode : Type 0 where
  Begin : ℕ → Mode
  Go : ℕ → Tree → Mode

-- what waits for a part
pub data Frame : Type 0 where
  In_minus : ℕ → Frame
  In_right : ℕ → Tree → operator.Operator → Frame
  In_argument : ℕ → Tree → Frame
  In_group : ℕ → Bool → Frame

abbrev pub Run : Type 0
Run = Mode → List Frame → List Sign → Found

abbrev pub negated_at : Run → ℕ → List Frame → operator.Operator → List Sign → Found
negated_at f m fs Add ts = None
negated_at f m fs Sub ts = cond (nat_le m 75) (f (Begin 75) (In_minus m ∷ fs) ts) None
negated_at f m fs Mul ts = None
negated_at f m fs Div ts = None
negated_at f m fs Mod ts = None
negated_at f m fs Smul ts = None
negated_at f m fs Pow ts = None

abbrev pub first_at : Run → ℕ → List Frame → List Sign → Found
first_at f m fs [] = None
first_at f m fs (Number g n ∷ ts) = f (Go m (number g n)) fs ts
first_at f m fs (Name n ∷ ts) = f (Go m (name n)) fs ts
first_at f m fs (Open g ∷ ts) = f (Begin 65) (In_group m g ∷ fs) ts
first_at f m fs (Close ∷ ts) = None
first_at f m fs (Operator o ∷ ts) = negated_at f m fs o ts
first_at f m fs (Inverse ∷ ts) = None
first_at f m fs (Relation r ∷ ts) = None
first_at f m fs (Fixed k ∷ ts) = None

abbrev pub longer_at : Run → ℕ → Tree → List Frame → List Sign → Found
longer_at f m a fs [] = None
longer_at f m a fs (Number g n ∷ ts) = f (Begin 100) (In_argument m a ∷ fs) (Number g n ∷ ts)
longer_at f m a fs (Name n ∷ ts) = f (Begin 100) (In_argument m a ∷ fs) (Name n ∷ ts)
longer_at f m a fs (Open g ∷ ts) = f (Begin 100) (In_argument m a ∷ fs) (Open g ∷ ts)
longer_at f m a fs (Close ∷ ts) = None
longer_at f m a fs (Operator o ∷ ts) = f (Begin (right_of (tier o))) (In_right m a o ∷ fs) ts
longer_at f m a fs (Inverse ∷ ts) = f (Go m (inverse a)) fs ts
longer_at f m a fs (Relation r ∷ ts) = None
longer_at f m a fs (Fixed k ∷ ts) = None

-- `: Name )`
abbrev pub sort_first : List Sign → Option (Written × List Sign)
sort_first ts = option_and_then (λ us. option_and_then (λ x. option_map (λ vs. (x.0, vs)) (after_close x.1)) (name_first us)) (after_fixed Colon ts)

-- what a parenthesis before the expression makes with what follows it
abbrev pub wrapped : Bool → Tree → List Sign → Found
wrapped g a [] = None
wrapped g a (Number f n ∷ ts) = None
wrapped g a (Name n ∷ ts) = None
wrapped g a (Open f ∷ ts) = None
wrapped g a (Close ∷ ts) = Some (group g a, ts)
wrapped g a (Operator o ∷ ts) = None
wrapped g a (Inverse ∷ ts) = None
wrapped g a (Relation r ∷ ts) = None
wrapped g a (Fixed k ∷ ts) = option_map (λ x. (ascribed g a x.0, x.1)) (sort_first (Fixed k ∷ ts))

abbrev pub grouped_at : Run → ℕ → Bool → Tree → List Frame → List Sign → Found
grouped_at f m g a fs ts = option_and_then (λ x. f (Go m x.0) fs x.1) (wrapped g a ts)

-- a part that is whole goes to what waits for it
abbrev pub whole_at : Run → Tree → List Frame → List Sign → Found
whole_at f a [] ts = Some (a, ts)
whole_at f a (In_minus m ∷ fs) ts = f (Go m (minus a)) fs ts
whole_at f a (In_right m b o ∷ fs) ts = f (Go m (binary o b a)) fs ts
whole_at f a (In_argument m b ∷ fs) ts = f (Go m (apply b a)) fs ts
whole_at f a (In_group m g ∷ fs) ts = grouped_at f m g a fs ts

-- The number bounds the turns.
unfoldable pub run : ℕ → Run
run zero st fs ts = None
run (suc n) (Begin m) fs ts = first_at (run n) m fs ts
run (suc n) (Go m a) fs ts = cond (takes m a ts) (longer_at (run n) m a fs ts) (whole_at (run n) a fs ts)

unfoldable pub read_expression : List Sign → Found
read_expression ts = run (suc (3 * length ts)) (Begin 65) [] ts
