-- Which extensions a LIST leaves on.
use Rattle.std.specs.Prelude.{◌≡◌, ℕ, Bool, true, false, ◌||◌, not, nat_eq, List, [], map, Option, Some, None, option_map, Result, Ok, Err, ⊤}
use Rattle.std.specs.Borrow.{Bor}
use Rattle.std.specs.List.{slice_split, list_any, list_all}
use Rattle.std.specs.Str.{bytes_eq}
use Rattle.alg_exts.specs.declared.lists.Switches.{Switches}
use Rattle.alg_exts.specs.declared.lists.ListFault.{ListFault}
use Rattle.alg_exts.specs.declared.lists.ListFault.TheVariants as fault

abbrev pub text_in : Option (Bor (List ℕ)) → Option (List ℕ)
text_in o = option_map (λ s. s.now) o

-- the names between the commas
abbrev pub names_in : List ℕ → List (List ℕ)
names_in list = slice_split (λ b. nat_eq b 44) list

-- no list names nothing
abbrev pub listed : Option (List ℕ) → List (List ℕ)
listed None = []
listed (Some list) = names_in list

-- one of the names is this one
abbrev pub is_among : List (List ℕ) → List ℕ → Bool
is_among names t = list_any (λ n. bytes_eq n t) names

-- an extension has this name
abbrev pub is_title : List (List ℕ) → List ℕ → Bool
is_title titles n = list_any (λ t. bytes_eq t n) titles

-- each name is that of an extension
abbrev pub are_known : (names num sign : List (List ℕ)) → Bool
are_known names num sign = list_all (λ n. is_title num n || is_title sign n) names

-- which are on: those whose name is none of these
abbrev pub on_under : (names titles : List (List ℕ)) → List Bool
on_under names titles = map (λ t. not (is_among names t)) titles

-- the switches as the names leave them, or that a name is unknown; want of memory is free
abbrev pub Switched : Result Switches ListFault → (names num sign : List (List ℕ)) → Type 0
Switched (Ok s) names num sign = (are_known names num sign ≡ true) × (s.num.items ≡ on_under names num) × (s.sign.items ≡ on_under names sign)
Switched (Err fault.Unknown) names num sign = are_known names num sign ≡ false
Switched (Err fault.Memory) names num sign = ⊤
