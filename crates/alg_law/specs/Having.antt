-- The classes that a sort has under declarations.
use Rattle.std.specs.Prelude.{◌≡◌, ℕ, Bool, true, false, ◌&&◌, ◌||◌, nat_eq, List, [], ◌∷◌}
use Rattle.alg_terms.specs.declared.sorts.Sort.{Sort}
use Rattle.alg_terms.specs.declared.sorts.Sort.TheVariants.{Nat, Int, Rat, Decl}
use Rattle.alg_law.specs.declared.classes.Class.{Class}
use Rattle.alg_law.specs.Classes.{implied_by, all_of, class_same, is_among, gives, own_classes}
use Rattle.alg_law.specs.Declarations.{Declaration, Carrier, Instance, Variable, Function, Hypothesis}

abbrev pub is_instance : Declaration → ℕ → Class → Bool
is_instance (Carrier n) j c = false
is_instance (Instance k b) j c = nat_eq j k && class_same b c
is_instance (Variable n t) j c = false
is_instance (Function n ts t) j c = false
is_instance (Hypothesis n h) j c = false

-- an instance of the class is declared for the sort with this number
abbrev pub declares_instance : List Declaration → ℕ → Class → Bool
declares_instance [] k c = false
declares_instance (d ∷ ds) k c = is_instance d k c || declares_instance ds k c

-- the classes that a sort has: those built in, those declared, and what they imply
pub data Has (ds : List Declaration) : Sort → Class → Type 0 where
  built_in : (s : Sort) (c : Class) → is_among (own_classes s) c ≡ true → Has ds s c
  declares : (k : ℕ) (c : Class) → declares_instance ds k c ≡ true → Has ds (Decl k) c
  implied : (s : Sort) (c d : Class) → Has ds s c → is_among (implied_by c) d ≡ true → Has ds s d

abbrev pub is_decl : Sort → ℕ → Bool
is_decl Nat k = false
is_decl Int k = false
is_decl Rat k = false
is_decl (Decl j) k = nat_eq j k

-- the test
abbrev pub instance_gives : Declaration → Sort → Class → Bool
instance_gives (Carrier n) s c = false
instance_gives (Instance k b) s c = is_decl s k && is_among (all_of b) c
instance_gives (Variable n t) s c = false
instance_gives (Function n ts t) s c = false
instance_gives (Hypothesis n h) s c = false

abbrev pub instances_give : List Declaration → Sort → Class → Bool
instances_give [] s c = false
instances_give (d ∷ ds) s c = instance_gives d s c || instances_give ds s c

abbrev pub has_class : List Declaration → Sort → Class → Bool
has_class ds s c = gives (own_classes s) c || instances_give ds s c
