-- The words of the command line as one simple command, and the values that they give.
use Rattle.std.specs.Prelude.{◌≡◌, ℕ, List, [], Option, Some, true, codes, option_map}
use Rattle.std.specs.Borrow.{Bor}
use Rattle.clap.specs.Words.{App, Rule, Text, first_of, new_app, new_rule, with_rule, fault_of, matches_of}
use Rattle.clap.specs.declared.builder.ArgAction.TheVariants.{Set}

abbrev pub needed : Text → Rule
needed id = record (new_rule id) { required = true; action = Some Set }

abbrev pub positional : Text → Rule
positional id = record (new_rule id) { action = Some Set }

abbrev pub option : Text → Rule
option id = record (new_rule id) { long = Some id; action = Some Set }

-- a required MODE and FIRST, an optional SECOND, and the options `--cert OUT` and `--without LIST`
abbrev pub algebra : App
algebra = with_rule (with_rule (with_rule (with_rule (with_rule (new_app (codes "algebra")) (needed (codes "mode"))) (needed (codes "first")))
    (positional (codes "second"))) (option (codes "cert"))) (option (codes "without"))

abbrev pub value_at : Text → List Text → Option Text
value_at id words = first_of id (matches_of algebra words)

-- the command refuses the words
abbrev pub IsRefused : List Text → Type 0
IsRefused words = fault_of algebra words ≡ [] → ⊥

abbrev pub text_in : Option (Bor (List ℕ)) → Option (List ℕ)
text_in o = option_map (λ s. s.now) o
