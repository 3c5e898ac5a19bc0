-- What a look at one declaration tells for the indexes.
use Rattle.std.specs.Prelude.{◌≡◌, ℕ, ◌+◌, ◌*◌, ◌≤◌, Bool, true, false, List, [], ◌∷◌, ◌++◌, length, Option, Some, None, ⊤}
use Rattle.alg_law.specs.declared.classes.Class.{Class}
use Rattle.alg_terms.specs.declared.sorts.Sort.{Sort}
use Rattle.alg_law.specs.Declarations.{Declaration, Instance}
use Rattle.alg_law.specs.Having.{instance_gives}
use Rattle.alg_law.specs.Classes.{all_of}
use Rattle.alg_law.specs.Places.{with_place}
use Rattle.alg_law.specs.Firsts.{noted}

-- whether it is a hypothesis
abbrev pub TellsPlace : Declaration → Bool → Type 0
TellsPlace d true = (k : ℕ) (ks : List ℕ) → with_place d k ks ≡ k ∷ ks
TellsPlace d false = (k : ℕ) (ks : List ℕ) → with_place d k ks ≡ ks

-- the type variable and its class, where it is an instance
abbrev pub TellsInstance : Declaration → Option (ℕ × Class) → Type 0
TellsInstance d (Some p) = d ≡ Instance p.0 p.1
TellsInstance d None = (s : Sort) (c : Class) → instance_gives d s c ≡ false

-- the places with one more, where it is a hypothesis
abbrev pub placed : List ℕ → Bool → ℕ → List ℕ
placed ps true at = ps ++ at ∷ []
placed ps false at = ps

-- the table with what an instance gives
abbrev pub noted_for : List ℕ → Option (ℕ × Class) → ℕ → List ℕ
noted_for fs None at = fs
noted_for fs (Some p) at = noted fs p.0 (all_of p.1) at

-- the table is long enough for it
abbrev pub HasRoom : List ℕ → Option (ℕ × Class) → Type 0
HasRoom fs None = ⊤
HasRoom fs (Some p) = 20 * p.0 + 20 ≤ length fs
