-- What a parse of the command says, at any command of its shape.
use Rattle.std.proofs.Common.{◌≡◌, ◌∙◌, ap, sym, refl, true, false, ap₂, List, []}
use Rattle.clap.specs.Words.{App, Text, HasMatchesOf, fault_of, found_of, first_of, first_value, is_simple, is_simple_and_free, matches_of, AddsArg, Rule, app_of, rule_of, with_rule}
use Rattle.clap.specs.declared.parser.matches.ArgMatches.{ArgMatches}
use Rattle.clap.specs.declared.builder.arg.Arg.{Arg}
use Rattle.clap.specs.declared.builder.command.Command.{Command}
use Rattle.clap.proofs.WalkLemmas.{first_value-rows}
use Rattle.alg_words.specs.Words.{algebra, value_at}

free : is_simple_and_free algebra ≡ true
free = refl

simple : is_simple algebra ≡ true
simple = refl

pub accepted : (a : App) (words : List Text) → a ≡ algebra → (is_simple_and_free a ≡ true → fault_of a words ≡ []) → fault_of algebra words ≡ []
accepted a words e h = ap (λ (b : App). fault_of b words) (sym e) ∙ h (ap is_simple_and_free e ∙ free)

pub value_is : (a : App) (words : List Text) (m : ArgMatches) (id : Text) → a ≡ algebra → HasMatchesOf a words m → first_value (found_of m) id ≡ value_at id words
value_is a words m id e h = first_value-rows (found_of m) id ∙ ap (first_of id) ((h (ap is_simple e ∙ simple)).0 ∙ ap (λ (b : App). matches_of b words) e)

pub app_with : (old : Command) (a : Arg) (new : Command) (before : App) (rule : Rule) → AddsArg old a new → a.global ≡ false → app_of old ≡ before → rule_of a ≡ rule → app_of new ≡ with_rule before rule
app_with old a new before rule adds local e f = adds.shape local ∙ ap₂ with_rule e f
