-- The calls of a script.
use Rattle.std.proofs.Common.{◌≡◌, List, [], ◌∷◌, ◌++◌, All, Option, Some, None, refl, sym, ap, ◌∙◌, subst, append_assoc, append-nil}
use Rattle.alg_terms.specs.declared.sorts.Sort.{Sort}
use Rattle.alg_terms.specs.Tree.{Tree}
use Rattle.alg_expr.specs.Arena.{Extends}
use Rattle.alg_expr.proofs.ArenaLaws.{Extends-self, Extends-then}
use Rattle.alg_law.specs.declared.combo.Combo.{Combo}
use Rattle.alg_law.specs.Combinations.{parts_of, IsStepIn}
use Rattle.alg_syntax.specs.Expressions as written
use Rattle.alg_syntax.specs.declared.scripts.Further.{Further}
use Rattle.alg_syntax.specs.declared.scripts.Script.{Script}
use Rattle.alg_names.specs.declared.scope.Scope.{Scope}
use Rattle.alg_elaborate.specs.Raw.{meant}
use Rattle.alg_combinations.specs.Combined.{combined}
use Rattle.alg_combinations.proofs.CombinedLaws.{steps_kept, parts_kept}
use Rattle.alg_binders.specs.declared.procedures.Procedure.{Procedure}
use Rattle.alg_parse.specs.declared.procedures.Proc.{Proc}
use Rattle.alg_parse.specs.declared.procedures.Proc.TheVariants as proc
use Rattle.alg_parse.specs.Told.{Call, plain, combination, calls_named, calls_at, further_calls, calls_of}
use Rattle.alg_parse.specs.FileTrees.{IsCall, AreCalls}

-- a combination
pub combined_call : (ts : List Tree) (s : Scope) (k : Sort) (c : Combo) (t e : written.Tree) → t ≡ e → All (IsStepIn ts) c.steps → parts_of ts c ≡ combined s k (meant t) → IsCall ts (proc.LinearCombination c) (combination (combined s k (meant e)))
combined_call ts s k c t e p h q = (h, ap combination (ap (λ x. combined s k (meant x)) (sym p) ∙ sym q))

-- a call stays, where the arena grows
call-on : (old new : List Tree) (p : Proc) (c : Call) → Extends old new → IsCall old p c → IsCall new p c
call-on old new (proc.LinearCombination c) x g h = (steps_kept old new c.steps g h.0, h.1 ∙ ap combination (sym (parts_kept old new c.steps g h.0)))
call-on old new (proc.Named p) c g h = h

pub calls-on : (old new : List Tree) (ps : List Proc) (cs : List Call) → Extends old new → AreCalls old ps cs → AreCalls new ps cs
calls-on old new [] [] g h = tt
calls-on old new [] (c ∷ cs) g h = absurd h
calls-on old new (p ∷ ps) [] g h = absurd h
calls-on old new (p ∷ ps) (c ∷ cs) g h = (call-on old new p c g h.0, calls-on old new ps cs g h.1)

pub calls-push : (ts : List Tree) (ps : List Proc) (cs : List Call) (p : Proc) (c : Call) → AreCalls ts ps cs → IsCall ts p c → AreCalls ts (ps ++ p ∷ []) (cs ++ c ∷ [])
calls-push ts [] [] p c h i = (i, tt)
calls-push ts [] (d ∷ cs) p c h i = absurd h
calls-push ts (q ∷ ps) [] p c h i = absurd h
calls-push ts (q ∷ ps) (d ∷ cs) p c h i = (h.0, calls-push ts ps cs p c h.1 i)

-- the arena grows, and one more procedure is a call
pub calls_grown : (old new : List Tree) (ps qs : List Proc) (cs : List Call) (p : Proc) (c : Call) → Extends old new → AreCalls old ps cs → IsCall new p c → qs ≡ ps ++ p ∷ [] → AreCalls new qs (cs ++ c ∷ [])
calls_grown old new ps qs cs p c g h i e = subst (λ xs. AreCalls new xs (cs ++ c ∷ [])) (sym e) (calls-push new ps cs p c (calls-on old new ps cs g h) i)

-- a procedure by its name, and none
pub named_added : (ts : List Tree) (ps qs : List Proc) (cs : List Call) (o : Option Procedure) (p : Procedure) → AreCalls ts ps cs → o ≡ Some p → qs ≡ ps ++ proc.Named p ∷ [] → AreCalls ts qs (cs ++ calls_named o)
named_added ts ps qs cs o p h e f = subst (λ x. AreCalls ts qs (cs ++ calls_named x)) (sym e) (subst (λ (xs : List Proc). AreCalls ts xs (cs ++ plain p ∷ [])) (sym f) (calls-push ts ps cs (proc.Named p) (plain p) h refl))

pub none_added : (ts : List Tree) (ps : List Proc) (cs : List Call) (o : Option Procedure) → AreCalls ts ps cs → o ≡ None → AreCalls ts ps (cs ++ calls_named o)
none_added ts ps cs o h e = subst (λ x. AreCalls ts ps (cs ++ calls_named x)) (sym e) (subst (λ (xs : List Call). AreCalls ts ps xs) (sym (append-nil cs)) h)

pub extends_self : (ts : List Tree) → Extends ts ts
extends_self ts = Extends-self ts

pub extends_then : (a b c : List Tree) → Extends a b → Extends b c → Extends a c
extends_then a b c p q = Extends-then a b c p q

-- The procedures are the calls that were there, and those of the steps before the rest.
pub record FurtherCalled (s : Scope) (k : Sort) (xs rest : List Further) (ts : List Tree) (ps : List Proc) (cs : List Call) : Type 0 where
  pub done : List Call
  pub said : AreCalls ts ps (cs ++ done)
  pub left : done ++ further_calls s k rest ≡ further_calls s k xs

pub further_start : (s : Scope) (k : Sort) (xs : List Further) (ts : List Tree) (ps : List Proc) (cs : List Call) → AreCalls ts ps cs → FurtherCalled s k xs xs ts ps cs
further_start s k xs ts ps cs h = record { done = []; said = subst (λ zs. AreCalls ts ps zs) (sym (append-nil cs)) h; left = refl }

pub further_on : (s : Scope) (k : Sort) (xs rest : List Further) (x : Further) (ts us : List Tree) (ps qs : List Proc) (cs : List Call) → FurtherCalled s k xs (x ∷ rest) ts ps cs → ((ds : List Call) → AreCalls ts ps ds → AreCalls us qs (ds ++ calls_at s k x.step)) → FurtherCalled s k xs rest us qs cs
further_on s k xs rest x ts us ps qs cs w f =
    let c = calls_at s k x.step in
    record {
      done = w.done ++ c;
      said = subst (λ zs. AreCalls us qs zs) (append_assoc cs w.done c) (f (cs ++ w.done) w.said);
      left = append_assoc w.done c (further_calls s k rest) ∙ w.left;
    }

pub further_end : (s : Scope) (k : Sort) (xs rest : List Further) (ts : List Tree) (ps : List Proc) (cs : List Call) → rest ≡ [] → FurtherCalled s k xs rest ts ps cs → AreCalls ts ps (cs ++ further_calls s k xs)
further_end s k xs rest ts ps cs e w =
    let h : w.done ≡ further_calls s k xs = sym (append-nil w.done) ∙ (ap (λ r. w.done ++ further_calls s k r) (sym e) ∙ w.left) in
    subst (λ zs. AreCalls ts ps (cs ++ zs)) h w.said

-- the first procedure, and the further ones
pub script_called : (s : Scope) (k : Sort) (x : Script) (a b c : List Tree) (ps qs rs : List Proc) → ps ≡ [] → ((cs : List Call) → AreCalls a ps cs → AreCalls b qs (cs ++ calls_at s k x.first)) → ((cs : List Call) → AreCalls b qs cs → AreCalls c rs (cs ++ further_calls s k x.further)) → AreCalls c rs (calls_of s k x)
script_called s k x a b c ps qs rs e f g = g (calls_at s k x.first) (f [] (subst (λ zs. AreCalls a zs []) (sym e) tt))

-- the scope is that of the binders
pub called_within : (s t : Scope) (k : Sort) (x : Script) (ts : List Tree) (ps : List Proc) → s ≡ t → AreCalls ts ps (calls_of s k x) → AreCalls ts ps (calls_of t k x)
called_within s t k x ts ps e h = subst (λ u. AreCalls ts ps (calls_of u k x)) e h
