use Rattle.std.proofs.Common.{ℕ, List, Ok, ◌∙◌, sym, ap, subst}
use Rattle.alg_terms.specs.declared.symbols.Sym.{Sym}
use Rattle.alg_proof.specs.Steps.{Cong}
use Rattle.alg_certificate.specs.Spelling.{bytes, spell_items, numbers}
use Rattle.alg_certificate_lines.specs.Kept.{kept_symbol}
use Rattle.alg_certificate_lines.specs.Known.{has_symbol}
use Rattle.alg_certificate_lines.specs.Steps.{GivesLine}
use Rattle.alg_certificate_lines.proofs.CutLaws.{there, not_there, symbol_cut_is}
use Rattle.alg_certificate_lines.proofs.functions.read_cong.Goals as goal

pub returns-in-Some-clause-gives : goal.returns-in-Some-clause-gives
returns-in-Some-clause-gives c = λ new f is g h e.
    there {A = Sym × List ℕ} new (has_symbol c.args.base.now (kept_symbol f)) (c.in-Some.sym, c.in-Some.from.now) (f, bytes (spell_items (numbers is))) (Ok (Cong f is)) c.cong_over.result
    (c.in-Some.ensures ∙ symbol_cut_is c.args.base.now f (numbers is) c.args.text.now g e)
    (λ same. subst (λ q. GivesLine new (Ok (Cong q is)) c.cong_over.result) (ap (λ (q : Sym × List ℕ). q.0) same) (c.cong_over.ensures.gives new is h (sym (ap (λ (q : Sym × List ℕ). q.1) same))))

pub returns-in-None-clause-gives : goal.returns-in-None-clause-gives
returns-in-None-clause-gives c = λ new f is g h e.
    not_there {A = Sym × List ℕ} (has_symbol c.args.base.now (kept_symbol f)) (f, bytes (spell_items (numbers is))) (Ok (Cong f is)) (c.in-None.ensures ∙ symbol_cut_is c.args.base.now f (numbers is) c.args.text.now g e)
