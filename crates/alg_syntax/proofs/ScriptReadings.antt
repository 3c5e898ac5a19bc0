-- Scripts are read exactly.
use Rattle.std.proofs.Common.{◌≡◌, ◌≤◌, List, [], ◌∷◌, ◌++◌, length, Bool, true, false, ◌||◌, Option, Some, None, refl, sym, ap, subst, ◌∙◌, arith, append_assoc, length-append, inl, inr}
use Rattle.std.specs.Prelude.{option_map}
use Rattle.std.specs.Str.{bytes_eq}
use Rattle.std.proofs.lemmas.Option.{some_pair_parts}
use Rattle.std.proofs.lemmas.Bool.{cases_Bool, cond-true, cond-false}
use Rattle.std.proofs.lemmas.Slice.Eq.{bytes_eq-Decides}
use Rattle.alg_syntax.specs.Written.{Written}
use Rattle.alg_syntax.specs.declared.signs.Fixed.TheVariants.{Semicolon}
use Rattle.alg_syntax.specs.declared.signs.Sign.{Sign}
use Rattle.alg_syntax.specs.declared.signs.Sign.TheVariants.{Name, Fixed}
use Rattle.alg_syntax.specs.declared.scripts.Step.{Step}
use Rattle.alg_syntax.specs.declared.scripts.Step.TheVariants.{Combination, Procedure}
use Rattle.alg_syntax.specs.declared.scripts.Further.{Further}
use Rattle.alg_syntax.specs.declared.scripts.Script.{Script}
use Rattle.alg_syntax.specs.Expressions.{Tree, spell, Fits, Ends}
use Rattle.alg_syntax.specs.Front.{after_fixed, name_first}
use Rattle.alg_syntax.specs.Machine.{read_expression}
use Rattle.alg_syntax.specs.Parsers.{mapped, choice, all_of}
use Rattle.alg_syntax.specs.Spelling.{spell_all, AllFit}
use Rattle.alg_syntax.specs.Commands.{combination, spell_step, begins_line, FitsStep, separator, spell_further, FitsFurther, spell_script, FitsScript}
use Rattle.alg_syntax.specs.Reading.{step_at, read_step, read_further, separates, read_script}
use Rattle.alg_syntax.proofs.FrontLemmas.{and_then_some, after_fixed_spelled, name_first_spelled}
use Rattle.alg_syntax.proofs.Readings.{Reads, reads_both, reads_mapped, mapped_made, choice_cases}
use Rattle.alg_syntax.proofs.Many.{Lists, reads_all}
use Rattle.alg_syntax.proofs.StatementReadings.{reads_expression}

-- is spelled so and fits
abbrev pub IsStep : List Sign → Step → List Sign → Type 0
IsStep ts s rest = (ts ≡ spell_step s ++ rest) × FitsStep s

combination_sound : (n : Written) (ts : List Sign) (s : Step) (rest : List Sign) → bytes_eq n.text combination ≡ true → mapped (λ e. Combination n.begins_line e) read_expression ts ≡ Some (s, rest) → IsStep (Name n ∷ ts) s rest
combination_sound n ts s rest t e =
    let m = mapped_made (λ (e : Tree). Combination n.begins_line e) read_expression spell Fits Ends reads_expression ts s rest e in
    let text = (bytes_eq-Decides n.text combination).0 t in
    subst (λ (c : Step). IsStep (Name n ∷ ts) c rest) m.same ((λ i. Name (record { begins_line = n.begins_line; text = text i }) ∷ m.whole i), m.fits)

procedure_sound : (n : Written) (ts : List Sign) (s : Step) (rest : List Sign) → bytes_eq n.text combination ≡ false → ◌≡◌ {A = Option (Step × List Sign)} (Some (Procedure n, ts)) (Some (s, rest)) → IsStep (Name n ∷ ts) s rest
procedure_sound n ts s rest t e =
    let p = some_pair_parts (Procedure n) s ts rest e in
    subst (λ (z : Step × List Sign). IsStep (Name n ∷ ts) z.0 z.1) (λ i. (p.0 i, p.1 i)) (refl, t)

at_sound : (n : Written) (ts : List Sign) (s : Step) (rest : List Sign) → step_at (n, ts) ≡ Some (s, rest) → IsStep (Name n ∷ ts) s rest
at_sound n ts s rest e = elim (cases_Bool (bytes_eq n.text combination)) [
  | inl t ↦ combination_sound n ts s rest t (sym (cond-true (bytes_eq n.text combination) (mapped (λ e. Combination n.begins_line e) read_expression ts) (Some (Procedure n, ts)) t) ∙ e)
  | inr t ↦ procedure_sound n ts s rest t (sym (cond-false (bytes_eq n.text combination) (mapped (λ e. Combination n.begins_line e) read_expression ts) (Some (Procedure n, ts)) t) ∙ e)
]

step_sound : (ts : List Sign) (s : Step) (rest : List Sign) → read_step ts ≡ Some (s, rest) → IsStep ts s rest
step_sound ts s rest e =
    let m = and_then_some step_at (name_first ts) (s, rest) e in
    subst (λ us. IsStep us s rest) (sym (name_first_spelled ts m.0.0 m.0.1 m.1)) (at_sound m.0.0 m.0.1 s rest m.2)

step_complete : (s : Step) (rest : List Sign) → FitsStep s → Ends rest → read_step (spell_step s ++ rest) ≡ Some (s, rest)
step_complete (Combination f e) rest h d = ap (option_map (λ x. (Combination f x.0, x.1))) (reads_expression.complete e rest h d)
step_complete (Procedure n) rest h d = cond-false (bytes_eq n.text combination) (mapped (λ e. Combination n.begins_line e) read_expression rest) (Some (Procedure n, rest)) h

pub reads_step : Reads read_step spell_step FitsStep Ends
reads_step = record { sound = step_sound; complete = step_complete }

-- a step where a line begins
step_line : (ts rest : List Sign) (s : Step) → ts ≡ spell_step s ++ rest → after_fixed Semicolon ts ≡ None → separates ts ≡ true → begins_line s ≡ true
step_line ts rest (Combination f e) q n t = ap separates (sym q) ∙ t
step_line ts rest (Procedure m) q n t = ap separates (sym q) ∙ t

further_sound : (ts : List Sign) (s : Further) (rest : List Sign) → separates ts ≡ true → read_further ts ≡ Some (s, rest) → (ts ≡ spell_further s ++ rest) × FitsFurther s
further_sound ts s rest t e = elim (choice_cases (after_fixed Semicolon ts) (mapped (λ s. record { semicolon = true; step = s }) read_step) (mapped (λ s. record { semicolon = false; step = s }) read_step ts) (s, rest) e) [
  | inl h ↦
      let m = mapped_made (λ (s : Step). record { semicolon = true; step = s }) read_step spell_step FitsStep Ends reads_step h.0 s rest h.2 in
      subst (λ (c : Further). (ts ≡ spell_further c ++ rest) × FitsFurther c) m.same (after_fixed_spelled Semicolon ts h.0 h.1 ∙ ap (λ us. Fixed Semicolon ∷ us) m.whole, (refl, m.fits))
  | inr h ↦
      let m = mapped_made (λ (s : Step). record { semicolon = false; step = s }) read_step spell_step FitsStep Ends reads_step ts s rest h.1 in
      subst (λ (c : Further). (ts ≡ spell_further c ++ rest) × FitsFurther c) m.same (m.whole, (step_line ts rest m.from m.whole h.0 t, m.fits))
]

no_semicolon : (s : Step) (rest : List Sign) → after_fixed Semicolon (spell_step s ++ rest) ≡ None
no_semicolon (Combination f e) rest = refl
no_semicolon (Procedure n) rest = refl

further_complete : (semicolon : Bool) (s : Step) (rest : List Sign) → FitsStep s → Ends rest → read_further (separator semicolon ++ (spell_step s ++ rest)) ≡ Some (record { semicolon = semicolon; step = s }, rest)
further_complete true s rest h d = ap (option_map (λ x. (record { semicolon = true; step = x.0 }, x.1))) (step_complete s rest h d)
further_complete false s rest h d =
    ap (λ o. choice o (mapped (λ s. record { semicolon = true; step = s }) read_step) (mapped (λ s. record { semicolon = false; step = s }) read_step (spell_step s ++ rest))) (no_semicolon s rest)
    ∙ ap (option_map (λ x. (record { semicolon = false; step = x.0 }, x.1))) (step_complete s rest h d)

step_separates : (semicolon : Bool) (s : Step) (rest : List Sign) → (semicolon || begins_line s) ≡ true → separates (separator semicolon ++ (spell_step s ++ rest)) ≡ true
step_separates true s rest h = refl
step_separates false (Combination f e) rest h = h
step_separates false (Procedure n) rest h = h

step_between : (semicolon : Bool) (s : Step) (rest : List Sign) → (semicolon || begins_line s) ≡ true → Ends (separator semicolon ++ (spell_step s ++ rest))
step_between true s rest h = tt
step_between false (Combination f e) rest h = h
step_between false (Procedure n) rest h = h

step_short : (s : Step) → 1 ≤ length (spell_step s)
step_short (Combination f e) = omega arith
step_short (Procedure n) = omega arith

-- nothing follows
abbrev pub Nothing : List Sign → Type 0
Nothing ts = ts ≡ []

pub further_list : Lists read_further separates spell_further FitsFurther Ends Nothing
further_list = record {
  finds = λ ts s rest t e. further_sound ts s rest t e;
  reads = λ s rest f d. ap read_further (append_assoc (separator s.semicolon) (spell_step s.step) rest) ∙ further_complete s.semicolon s.step rest f.1 d;
  starts = λ s rest f. ap separates (append_assoc (separator s.semicolon) (spell_step s.step) rest) ∙ step_separates s.semicolon s.step rest f.0;
  stops = λ rest d. ap separates d;
  between = λ s rest f. subst Ends (sym (append_assoc (separator s.semicolon) (spell_step s.step) rest)) (step_between s.semicolon s.step rest f.0);
  ends = λ rest d. subst Ends (sym d) tt;
  short = λ s f. let size = length-append (separator s.semicolon) (spell_step s.step) in let one = step_short s.step in omega arith;
}

pub reads_further : Reads (all_of read_further separates) (spell_all spell_further) (AllFit FitsFurther) Nothing
reads_further = reads_all read_further separates spell_further FitsFurther Ends Nothing further_list

after_step : (ss : List Further) (rest : List Sign) → AllFit FitsFurther ss → Nothing rest → Ends (spell_all spell_further ss ++ rest)
after_step [] rest f d = subst Ends (sym d) tt
after_step (s ∷ ss) rest f d = subst Ends (sym (append_assoc (spell_further s) (spell_all spell_further ss) rest)) (further_list.between s (spell_all spell_further ss ++ rest) f.0)

pub reads_script : Reads read_script spell_script FitsScript Nothing
reads_script =
    reads_mapped (λ x. record { first = x.0; further = x.1 }) (λ (s : Script). (s.first, s.further)) _ _ _ Nothing (λ x. refl) (λ s. refl)
    (reads_both read_step (all_of read_further separates) spell_step (spell_all spell_further) FitsStep (AllFit FitsFurther) Ends Nothing reads_step reads_further after_step)
