-- What the words ask for, where extensions with these names are handed in, and what procedures then answer.
use Rattle.std.specs.Prelude.{ℕ, List, map, Bool, true, false, Option}
use Rattle.alg_terms.specs.declared.symbols.Sym.{Sym}
use Rattle.alg_words.specs.Jobs.{Job, Usage, Prove, Check, Demo}
use Rattle.alg_exts.specs.Covers.{Cover}
use Rattle.alg_exts.specs.Lists.{listed, on_under, are_known}
use Rattle.alg_steps.specs.Calling.{cover_of}
use Rattle.alg_steps.specs.Stepped.{Steps}

abbrev pub asked_if : Bool → Job → Job
asked_if true job = job
asked_if false job = Usage

-- a list that names what isn't known asks for nothing
abbrev pub asked : (known : Option (List ℕ) → Bool) → Job → Job
asked known Usage = Usage
asked known (Prove file cert without) = asked_if (known without) (Prove file cert without)
asked known (Check file cert) = Check file cert
asked known (Demo count without) = asked_if (known without) (Demo count without)

-- each name of the list is that of an extension
abbrev pub known_among : (num sign : List (List ℕ)) → (without : Option (List ℕ)) → Bool
known_among num sign without = are_known (listed without) num sign

-- what procedures answer without the extensions that a list names
abbrev pub steps_under : {N S : Type 0} → (Cover → Steps) → (N → List ℕ) → (N → Sym → Bool) → (S → List ℕ) → (S → Sym → Bool) → List N → List S → (without : Option (List ℕ)) → Steps
steps_under step num_title covers sign_title handles num sign without =
    step (cover_of covers handles num (on_under (listed without) (map num_title num)) sign (on_under (listed without) (map sign_title sign)))
