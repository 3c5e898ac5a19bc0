-- Commands are read exactly.
use Rattle.std.proofs.Common.{◌≡◌, ◌<◌, List, [], ◌∷◌, ◌++◌, length, Option, Some, None, refl, sym, ap, subst, ◌∙◌, arith, append-nil, inl, inr}
use Rattle.std.specs.Prelude.{option_map, option_and_then, ◌==◌}
use Rattle.std.proofs.lemmas.Option.{none-some, some_pair_parts}
use Rattle.std.proofs.lemmas.Bool.{cond-false, ne_eqb}
use Rattle.alg_syntax.specs.Written.{Written}
use Rattle.alg_syntax.specs.declared.signs.Fixed.TheVariants as word
use Rattle.alg_syntax.specs.declared.signs.Fixed.TheVariants.{Colon, Assign, By}
use Rattle.alg_syntax.specs.declared.signs.Sign.{Sign}
use Rattle.alg_syntax.specs.declared.signs.Sign.TheVariants.{Name, Fixed}
use Rattle.alg_syntax.specs.declared.binders.Binder.{Binder}
use Rattle.alg_syntax.specs.declared.commands.Goal.{Goal}
use Rattle.alg_syntax.specs.declared.commands.Command.{Command}
use Rattle.alg_syntax.specs.declared.commands.Command.TheVariants.{Import, Variable, Theorem, Example}
use Rattle.alg_syntax.specs.Front.{after_fixed, name_first}
use Rattle.alg_syntax.specs.Parsers.{mapped, both, behind, choice}
use Rattle.alg_syntax.specs.Spelling.{spell_all, AllFit}
use Rattle.alg_syntax.specs.Commands.{spell_statement, FitsStatement, spell_binder, FitsBinder, spell_script, FitsScript, spell_goal, FitsGoal, spell_command, FitsCommand, IsRead}
use Rattle.alg_syntax.specs.Reading.{opens_binder, some_binders, read_statement, read_binders, read_script, read_goal, read_variable, read_theorem, read_example, read_any}
use Rattle.alg_syntax.proofs.FrontLemmas.{and_then_some, after_fixed_spelled}
use Rattle.alg_syntax.proofs.Readings.{Reads, skips_fixed, reads_both, reads_behind, reads_mapped, mapped_made, refit, choice_cases}
use Rattle.alg_syntax.proofs.StatementReadings.{Anywhere, reads_name, reads_statement}
use Rattle.alg_syntax.proofs.BinderReadings.{reads_binders, NoBinder}
use Rattle.alg_syntax.proofs.ScriptReadings.{reads_script, Nothing}

pub reads_goal : Reads read_goal spell_goal FitsGoal Nothing
reads_goal =
    let by = reads_behind (after_fixed By) (Fixed By) read_script spell_script FitsScript Nothing (skips_fixed By) reads_script in
    let proof = reads_behind (after_fixed Assign) (Fixed Assign) (behind (after_fixed By) read_script) _ FitsScript Nothing (skips_fixed Assign) by in
    let stated = reads_both read_statement (behind (after_fixed Assign) (behind (after_fixed By) read_script)) spell_statement _ FitsStatement FitsScript _ Nothing reads_statement proof (λ s rest f d. tt) in
    let said = reads_behind (after_fixed Colon) (Fixed Colon) _ _ _ Nothing (skips_fixed Colon) stated in
    let all = reads_both read_binders _ (spell_all spell_binder) _ (AllFit FitsBinder) _ NoBinder Nothing reads_binders said (λ s rest f d. refl) in
    reads_mapped (λ x. record { binders = x.0; statement = x.1.0; script = x.1.1 }) (λ (g : Goal). (g.binders, (g.statement, g.script))) _ _ _ Nothing (λ x. refl) (λ g. refl) all

reads_named : Reads (both name_first read_goal) (λ x. Name x.0 ∷ spell_goal x.1) (λ x. FitsGoal x.1) Nothing
reads_named = refit _ _ _ _ Nothing (λ x f. f.1) (λ x f. (tt, f)) (reads_both name_first read_goal (λ n. Name n ∷ []) spell_goal (λ _. Unit {0}) FitsGoal Anywhere Nothing reads_name reads_goal (λ g rest f d. tt))

-- is spelled so and fits
abbrev pub IsCommand : List Sign → Command → List Sign → Type 0
IsCommand ts c rest = (ts ≡ spell_command c ++ rest) × FitsCommand c

import_sound : (ts : List Sign) (c : Command) (rest : List Sign) → mapped Import name_first ts ≡ Some (c, rest) → IsCommand (Fixed word.Import ∷ ts) c rest
import_sound ts c rest e =
    let m = mapped_made Import name_first (λ n. Name n ∷ []) (λ _. Unit {0}) Anywhere reads_name ts c rest e in
    subst (λ (d : Command). IsCommand (Fixed word.Import ∷ ts) d rest) m.same (ap (λ us. Fixed word.Import ∷ us) m.whole, tt)

some_complete : (bs : List Binder) (rest : List Sign) → 0 < length bs → some_binders (bs, rest) ≡ Some (Variable bs, rest)
some_complete bs rest h = cond-false (length bs == 0) None (Some (Variable bs, rest)) (ne_eqb (length bs) 0 (λ e. absurd (omega arith)))

some_sound : (bs : List Binder) (ts us : List Sign) (c : Command) (rest : List Sign) → (ts ≡ spell_all spell_binder bs ++ us) × AllFit FitsBinder bs → some_binders (bs, us) ≡ Some (c, rest) → IsCommand (Fixed word.Variable ∷ ts) c rest
some_sound [] ts us c rest h e = absurd (none-some _ e)
some_sound (b ∷ bs) ts us c rest h e =
    let p = some_pair_parts (Variable (b ∷ bs)) c us rest (sym (some_complete (b ∷ bs) us (omega arith)) ∙ e) in
    subst (λ (z : Command × List Sign). IsCommand (Fixed word.Variable ∷ ts) z.0 z.1) (λ i. (p.0 i, p.1 i)) (ap (λ us. Fixed word.Variable ∷ us) h.0, (omega arith, h.1))

variable_sound : (ts : List Sign) (c : Command) (rest : List Sign) → read_variable ts ≡ Some (c, rest) → IsCommand (Fixed word.Variable ∷ ts) c rest
variable_sound ts c rest e =
    let m = and_then_some some_binders (read_binders ts) (c, rest) e in
    some_sound m.0.0 ts m.0.1 c rest (reads_binders.sound ts m.0.0 m.0.1 m.1) m.2

theorem_sound : (ts : List Sign) (c : Command) (rest : List Sign) → read_theorem ts ≡ Some (c, rest) → IsCommand (Fixed word.Theorem ∷ ts) c rest
theorem_sound ts c rest e =
    let m = mapped_made (λ (x : Written × Goal). Theorem x.0 x.1) (both name_first read_goal) _ _ Nothing reads_named ts c rest e in
    subst (λ (d : Command). IsCommand (Fixed word.Theorem ∷ ts) d rest) m.same (ap (λ us. Fixed word.Theorem ∷ us) m.whole, m.fits)

example_sound : (ts : List Sign) (c : Command) (rest : List Sign) → read_example ts ≡ Some (c, rest) → IsCommand (Fixed word.Example ∷ ts) c rest
example_sound ts c rest e =
    let m = mapped_made Example read_goal spell_goal FitsGoal Nothing reads_goal ts c rest e in
    subst (λ (d : Command). IsCommand (Fixed word.Example ∷ ts) d rest) m.same (ap (λ us. Fixed word.Example ∷ us) m.whole, m.fits)

last_sound : (ts : List Sign) (c : Command) (rest : List Sign) → behind (after_fixed word.Example) read_example ts ≡ Some (c, rest) → IsCommand ts c rest
last_sound ts c rest e =
    let m = and_then_some read_example (after_fixed word.Example ts) (c, rest) e in
    subst (λ us. IsCommand us c rest) (sym (after_fixed_spelled word.Example ts m.0 m.1)) (example_sound m.0 c rest m.2)

third_sound : (ts : List Sign) (c : Command) (rest : List Sign) → choice (after_fixed word.Theorem ts) read_theorem (behind (after_fixed word.Example) read_example ts) ≡ Some (c, rest) → IsCommand ts c rest
third_sound ts c rest e = elim (choice_cases (after_fixed word.Theorem ts) read_theorem (behind (after_fixed word.Example) read_example ts) (c, rest) e) [
  | inl h ↦ subst (λ us. IsCommand us c rest) (sym (after_fixed_spelled word.Theorem ts h.0 h.1)) (theorem_sound h.0 c rest h.2)
  | inr h ↦ last_sound ts c rest h.1
]

second_sound : (ts : List Sign) (c : Command) (rest : List Sign) → choice (after_fixed word.Variable ts) read_variable (choice (after_fixed word.Theorem ts) read_theorem (behind (after_fixed word.Example) read_example ts)) ≡ Some (c, rest) → IsCommand ts c rest
second_sound ts c rest e = elim (choice_cases (after_fixed word.Variable ts) read_variable (choice (after_fixed word.Theorem ts) read_theorem (behind (after_fixed word.Example) read_example ts)) (c, rest) e) [
  | inl h ↦ subst (λ us. IsCommand us c rest) (sym (after_fixed_spelled word.Variable ts h.0 h.1)) (variable_sound h.0 c rest h.2)
  | inr h ↦ third_sound ts c rest h.1
]

any_sound : (ts : List Sign) (c : Command) (rest : List Sign) → read_any ts ≡ Some (c, rest) → IsCommand ts c rest
any_sound ts c rest e = elim (choice_cases (after_fixed word.Import ts) (mapped Import name_first) (choice (after_fixed word.Variable ts) read_variable (choice (after_fixed word.Theorem ts) read_theorem (behind (after_fixed word.Example) read_example ts))) (c, rest) e) [
  | inl h ↦ subst (λ us. IsCommand us c rest) (sym (after_fixed_spelled word.Import ts h.0 h.1)) (import_sound h.0 c rest h.2)
  | inr h ↦ second_sound ts c rest h.1
]

any_complete : (c : Command) (rest : List Sign) → FitsCommand c → Nothing rest → read_any (spell_command c ++ rest) ≡ Some (c, rest)
any_complete (Import n) rest f d = refl
any_complete (Variable bs) rest f d = ap (option_and_then some_binders) (reads_binders.complete bs rest f.1 (ap opens_binder d)) ∙ some_complete bs rest f.0
any_complete (Theorem n g) rest f d = ap (option_map (λ x. (Theorem x.0.0 x.0.1, x.1))) (reads_named.complete (n, g) rest f d)
any_complete (Example g) rest f d = ap (option_map (λ x. (Example x.0, x.1))) (reads_goal.complete g rest f d)

-- what the code knows of its answer
pub command_found : (ts : List Sign) (c : Command) (rest : List Sign) → ◌≡◌ {A = Option (Command × List Sign)} (Some (c, rest)) (read_any ts) → rest ≡ [] → IsRead ts c
command_found ts c rest e n =
    let h = any_sound ts c rest (sym e) in
    (h.0 ∙ (ap (λ us. spell_command c ++ us) n ∙ append-nil (spell_command c)), h.1)

all_read : (ts : List Sign) (c : Command) → IsRead ts c → read_any ts ≡ Some (c, [])
all_read ts c h = ap read_any (h.0 ∙ sym (append-nil (spell_command c))) ∙ any_complete c [] h.1 refl

pub command_only : (ts : List Sign) (c : Command) (rest : List Sign) → ◌≡◌ {A = Option (Command × List Sign)} (Some (c, rest)) (read_any ts) → (d : Command) → IsRead ts d → Some c ≡ Some d
command_only ts c rest e d h = ap Some (some_pair_parts c d rest [] (e ∙ all_read ts d h)).0

pub none_read : (ts : List Sign) → None ≡ read_any ts → (d : Command) → IsRead ts d → None ≡ Some d
none_read ts e d h = absurd (none-some _ (e ∙ all_read ts d h))

pub more_left : (ts : List Sign) (c : Command) (t : Sign) (rest us : List Sign) → ◌≡◌ {A = Option (Command × List Sign)} (Some (c, rest)) (read_any ts) → rest ≡ t ∷ us → (d : Command) → IsRead ts d → None ≡ Some d
more_left ts c t rest us e q d h = absurd (let n = sym q ∙ (some_pair_parts c d rest [] (e ∙ all_read ts d h)).1 in cc)

pub one_reading : (ts : List Sign) (c d : Command) → IsRead ts c → IsRead ts d → c ≡ d
one_reading ts c d h k = (some_pair_parts c d [] [] (sym (all_read ts c h) ∙ all_read ts d k)).0
