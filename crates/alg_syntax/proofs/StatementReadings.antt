-- Statements and names are read exactly.
use Rattle.std.proofs.Common.{◌≡◌, suc, ◌*◌, List, [], ◌∷◌, ◌++◌, length, false, Some, refl, ap, arith}
use Rattle.std.proofs.lemmas.Option.{none-some, same_Some}
use Rattle.alg_syntax.specs.Written.{Written}
use Rattle.alg_syntax.specs.declared.signs.Relation as relation
use Rattle.alg_syntax.specs.declared.signs.Fixed.TheVariants.{Arrow}
use Rattle.alg_syntax.specs.declared.signs.Sign.{Sign}
use Rattle.alg_syntax.specs.declared.signs.Sign.TheVariants.{Number, Name, Open, Close, Operator, Inverse, Relation, Fixed}
use Rattle.alg_syntax.specs.declared.statements.Statement.{Statement}
use Rattle.alg_syntax.specs.Expressions.{spell, Fits, Ends}
use Rattle.alg_syntax.specs.Machine.{Begin, read_expression}
use Rattle.alg_syntax.specs.Front.{after_fixed, name_first}
use Rattle.alg_syntax.specs.Parsers.{behind}
use Rattle.alg_syntax.specs.Spelling.{AllFit}
use Rattle.alg_syntax.specs.Commands.{spell_statement, FitsStatement, spell_names, spell_arrows}
use Rattle.alg_syntax.specs.Reading.{relation_first, read_statement, has_name, read_names, has_arrow, read_arrows}
use Rattle.alg_syntax.proofs.FrontLemmas.{name_first_spelled}
use Rattle.alg_syntax.proofs.MachineSound.{sound}
use Rattle.alg_syntax.proofs.MachineComplete.{reads_spelled}
use Rattle.alg_syntax.proofs.Readings.{Reads, skips_fixed, reads_both, reads_behind, reads_mapped}
use Rattle.alg_syntax.proofs.Many.{Lists, reads_all}

-- where anything may follow
abbrev pub Anywhere : List Sign → Type 0
Anywhere ts = Unit {0}

pub reads_expression : Reads read_expression spell Fits Ends
unfolding read_expression
reads_expression = record {
  sound = λ ts c rest e. let r = sound ts (suc (3 * length ts)) (Begin 65) [] ts c rest (refl, refl) e in (r.whole, r.fits);
  complete = λ c rest f d. reads_spelled c rest (3 * length (spell c ++ rest)) f d (omega arith);
}

relation_spelled : (ts : List Sign) (r : relation.Relation) (rest : List Sign) → relation_first ts ≡ Some (r, rest) → ts ≡ Relation r ∷ rest
relation_spelled [] r rest e = absurd (none-some _ e)
relation_spelled (Number f m ∷ ts) r rest e = absurd (none-some _ e)
relation_spelled (Name m ∷ ts) r rest e = absurd (none-some _ e)
relation_spelled (Open f ∷ ts) r rest e = absurd (none-some _ e)
relation_spelled (Close ∷ ts) r rest e = absurd (none-some _ e)
relation_spelled (Operator o ∷ ts) r rest e = absurd (none-some _ e)
relation_spelled (Inverse ∷ ts) r rest e = absurd (none-some _ e)
relation_spelled (Relation k ∷ ts) r rest e = ap (λ (p : relation.Relation × List Sign). Relation p.0 ∷ p.1) (same_Some _ _ e)
relation_spelled (Fixed j ∷ ts) r rest e = absurd (none-some _ e)

pub reads_relation : Reads relation_first (λ r. Relation r ∷ []) (λ _. Unit {0}) Anywhere
reads_relation = record { sound = λ ts r rest e. (relation_spelled ts r rest e, tt); complete = λ r rest f d. refl }

pub reads_name : Reads name_first (λ n. Name n ∷ []) (λ _. Unit {0}) Anywhere
reads_name = record { sound = λ ts n rest e. (name_first_spelled ts n rest e, tt); complete = λ n rest f d. refl }

pub reads_statement : Reads read_statement spell_statement FitsStatement Ends
reads_statement =
    let sides = reads_both relation_first read_expression (λ r. Relation r ∷ []) spell (λ _. Unit {0}) Fits Anywhere Ends reads_relation reads_expression (λ c rest f d. tt) in
    let all = reads_both read_expression _ spell _ Fits _ Ends Ends reads_expression sides (λ x rest f d. tt) in
    record {
      sound = λ ts s rest e. let h = (reads_mapped _ (λ (s : Statement). (s.lhs, (s.relation, s.rhs))) _ _ _ Ends (λ x. refl) (λ s. refl) all).sound ts s rest e in (h.0, (h.1.0, h.1.1.1));
      complete = λ s rest f d. (reads_mapped _ (λ (s : Statement). (s.lhs, (s.relation, s.rhs))) _ _ _ Ends (λ x. refl) (λ s. refl) all).complete s rest (f.0, (tt, f.1)) d;
    }

-- no further name follows
abbrev pub NoName : List Sign → Type 0
NoName ts = has_name ts ≡ false

pub names_list : Lists name_first has_name (λ n. Name n ∷ []) (λ _. Unit {0}) Anywhere NoName
names_list = record {
  finds = λ ts n rest t e. (name_first_spelled ts n rest e, tt);
  reads = λ n rest f d. refl;
  starts = λ n rest f. refl;
  stops = λ rest d. d;
  between = λ n rest f. tt;
  ends = λ rest d. tt;
  short = λ n f. omega arith;
}

pub reads_names : Reads read_names spell_names (AllFit (λ (n : Written). Unit {0})) NoName
reads_names = reads_all name_first has_name (λ n. Name n ∷ []) (λ _. Unit {0}) Anywhere NoName names_list

abbrev pub NoArrow : List Sign → Type 0
NoArrow ts = has_arrow ts ≡ false

reads_arrow : Reads (behind (after_fixed Arrow) name_first) (λ n. Fixed Arrow ∷ Name n ∷ []) (λ _. Unit {0}) Anywhere
reads_arrow = reads_behind (after_fixed Arrow) (Fixed Arrow) name_first (λ n. Name n ∷ []) (λ _. Unit {0}) Anywhere (skips_fixed Arrow) reads_name

pub arrows_list : Lists (behind (after_fixed Arrow) name_first) has_arrow (λ n. Fixed Arrow ∷ Name n ∷ []) (λ _. Unit {0}) Anywhere NoArrow
arrows_list = record {
  finds = λ ts n rest t e. reads_arrow.sound ts n rest e;
  reads = λ n rest f d. refl;
  starts = λ n rest f. refl;
  stops = λ rest d. d;
  between = λ n rest f. tt;
  ends = λ rest d. tt;
  short = λ n f. omega arith;
}

pub reads_arrows : Reads read_arrows spell_arrows (AllFit (λ (n : Written). Unit {0})) NoArrow
reads_arrows = reads_all (behind (after_fixed Arrow) name_first) has_arrow (λ n. Fixed Arrow ∷ Name n ∷ []) (λ _. Unit {0}) Anywhere NoArrow arrows_list
