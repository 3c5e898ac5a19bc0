-- What is found of a tree of the goal's sort.
use Rattle.std.specs.Prelude.{◌≡◌, ℕ, ◌+◌, ◌*◌, ◌^◌, Bool, true, false, not, ◌||◌, nat_le, List, [], ◌∷◌, ◌++◌, Option, Some, None, ℤ, pos, unsigned_abs, length}
use Rattle.alg_terms.specs.Tree.{Tree}
use Rattle.alg_law.specs.Declarations.{Declaration}
use Rattle.alg_build.specs.Book.{Book}
use Rattle.alg_group_words.specs.Letters.{weight}
use Rattle.alg_group_words.specs.Syllables.{raised_runs, syllables}
use Rattle.alg_group_words.specs.Limits.{is_heavy, out_of_range, is_long, long_power, has_long, all_syllables, atoms}
use Rattle.alg_group_stack.specs.declared.syllable.Home.{Home}
use Rattle.alg_group_spelling.specs.declared.spelled.Spelled.{Spelled}
use Rattle.alg_group_stack.specs.Words.{pairs_of}
use Rattle.alg_group_spelling.specs.Spelling.{Spells}
use Rattle.alg_group_found.specs.declared.found.Found.{Found}
use Rattle.alg_group_found.specs.declared.found.Reach.{Reach}
use Rattle.alg_group_found.specs.declared.found.Reach.TheVariants as reach
use Rattle.alg_group_found.specs.declared.found.Within.{Within}
use Rattle.alg_group_found.specs.Exponents.{exponent, past}
use Rattle.alg_group_found.specs.Atoms.{AreAtoms}

-- more than 2^18
abbrev pub is_full : ℕ → Bool
is_full n = not (nat_le n (2 ^ 18))

-- the words of the tree are too long, whatever the other side is
abbrev pub is_large : (Tree → Option ℤ) → Tree → Bool
is_large value t = has_long value t || is_full (all_syllables value t)

-- the tree is out of range
abbrev pub is_out : List Declaration → Tree → Bool
is_out ds t = out_of_range (exponent ds) (past ds) t

-- the tree is in range, and has so many letters
pub record HasLetters (ds : List Declaration) (t : Tree) (w : ℕ) : Type 0 where
  pub fits : is_out ds t ≡ false
  pub weight : w ≡ weight (exponent ds) t

-- its words are too long
pub record IsLarge (ds : List Declaration) (t : Tree) (w : ℕ) : Type 0 where
  pub letters : HasLetters ds t w
  pub large : is_large (exponent ds) t ≡ true

-- they aren't, and this is its word
pub record IsWithin (ds : List Declaration) (b : Book) (h : Home) (t : Tree) (x : Within) : Type 0 where
  pub letters : HasLetters ds t x.weight
  pub large : is_large (exponent ds) t ≡ false
  pub count : x.count ≡ all_syllables (exponent ds) t
  pub spells : Spells b h.sort t x.spelled
  pub pairs : pairs_of b x.spelled.word.items ≡ syllables (exponent ds) t

abbrev pub IsReached : List Declaration → Book → Home → Tree → Reach → Type 0
IsReached ds b h t reach.Out = is_out ds t ≡ true
IsReached ds b h t (reach.Large w) = IsLarge ds t w
IsReached ds b h t (reach.Within x) = IsWithin ds b h t x

pub record IsFound (ds : List Declaration) (b : Book) (h : Home) (t : Tree) (x : Found) : Type 0 where
  pub atoms : AreAtoms (exponent ds) b t x.atoms.items
  pub reach : IsReached ds b h t x.reach

-- a word whose parts aren't too long, before its syllables are counted
pub record IsCounted (ds : List Declaration) (b : Book) (h : Home) (t : Tree) (w parts : ℕ) (x : Spelled) : Type 0 where
  pub letters : HasLetters ds t w
  pub short : has_long (exponent ds) t ≡ false
  pub count : length (syllables (exponent ds) t) + parts ≡ all_syllables (exponent ds) t
  pub spells : Spells b h.sort t x
  pub pairs : pairs_of b x.word.items ≡ syllables (exponent ds) t

-- so many letters, or the tree is out of range
abbrev pub LettersOrOut : Option ℕ → Bool → ℕ → Type 0
LettersOrOut (Some w) out n = (out ≡ false) × (w ≡ n)
LettersOrOut None out n = out ≡ true

-- a tree that is one letter
pub record IsAtom (ds : List Declaration) (t : Tree) : Type 0 where
  pub fits : is_out ds t ≡ false
  pub weight : weight (exponent ds) t ≡ 1
  pub short : has_long (exponent ds) t ≡ false
  pub count : all_syllables (exponent ds) t ≡ 1
  pub atoms : atoms (exponent ds) t ≡ t ∷ []
  pub syllables : syllables (exponent ds) t ≡ (t, pos 1) ∷ []

-- a power whose exponent has no number, and whether that is past the range
pub record IsUnraised (ds : List Declaration) (t : Tree) (p : Bool) : Type 0 where
  pub out : is_out ds t ≡ p
  pub atoms : atoms (exponent ds) t ≡ t ∷ []
  pub atom : p ≡ false → IsAtom ds t

-- ---- what the measures of a tree are, from those of its parts
-- a product or a quotient
pub record AreJoined (ds : List Declaration) (p t u : Tree) : Type 0 where
  pub out : is_out ds p ≡ (is_heavy (weight (exponent ds) t + weight (exponent ds) u) || (is_out ds t || is_out ds u))
  pub weight : weight (exponent ds) p ≡ weight (exponent ds) t + weight (exponent ds) u
  pub long : has_long (exponent ds) p ≡ (is_long (length (syllables (exponent ds) t) + length (syllables (exponent ds) u)) || (has_long (exponent ds) t || has_long (exponent ds) u))
  pub count : all_syllables (exponent ds) p ≡ length (syllables (exponent ds) p) + (all_syllables (exponent ds) t + all_syllables (exponent ds) u)
  pub atoms : atoms (exponent ds) p ≡ atoms (exponent ds) t ++ atoms (exponent ds) u

-- an inverse
pub record IsInverted (ds : List Declaration) (p t : Tree) : Type 0 where
  pub out : is_out ds p ≡ is_out ds t
  pub weight : weight (exponent ds) p ≡ weight (exponent ds) t
  pub long : has_long (exponent ds) p ≡ has_long (exponent ds) t
  pub count : all_syllables (exponent ds) p ≡ length (syllables (exponent ds) p) + all_syllables (exponent ds) t
  pub atoms : atoms (exponent ds) p ≡ atoms (exponent ds) t

-- a power by this integer
pub record IsRaised (ds : List Declaration) (p t : Tree) (z : ℤ) : Type 0 where
  pub out : is_out ds p ≡ (is_heavy (unsigned_abs z * weight (exponent ds) t) || is_out ds t)
  pub weight : weight (exponent ds) p ≡ unsigned_abs z * weight (exponent ds) t
  pub long : has_long (exponent ds) p ≡ (long_power (Some z) (length (syllables (exponent ds) t)) || has_long (exponent ds) t)
  pub count : all_syllables (exponent ds) p ≡ length (syllables (exponent ds) p) + all_syllables (exponent ds) t
  pub atoms : atoms (exponent ds) p ≡ atoms (exponent ds) t
  pub syllables : syllables (exponent ds) p ≡ raised_runs (syllables (exponent ds) t) z
