-- Declarations of an arena, where it grows and where one more comes.
use Rattle.std.proofs.Common.{◌≡◌, ℕ, zero, suc, ◌<◌, refl, sym, ap, ◌∙◌, subst, arith, List, [], ◌∷◌, ◌++◌, get_or}
use Rattle.std.specs.Prelude.{All}
use Rattle.std.proofs.lemmas.List.{map-append}
use Rattle.std.proofs.lemmas.List.Elements.{All-head, All-tail, All-append}
use Rattle.alg_terms.specs.Tree.{Tree}
use Rattle.alg_expr.specs.Arena.{Extends}
use Rattle.alg_expr.proofs.ArenaLaws.{IsIn-extends, statement_of-extends}
use Rattle.alg_law.specs.declared.declarations.Declared.{Declared}
use Rattle.alg_law.specs.declared.declarations.Declared.TheVariants as declared
use Rattle.alg_law.specs.Declarations.{Declaration, Hypothesis, declaration_of, declarations_of, IsDeclaredIn}

declaration_on : (old new : List Tree) (d : Declared) → Extends old new → IsDeclaredIn old d → declaration_of new d ≡ declaration_of old d
declaration_on old new (declared.Carrier n) x h = refl
declaration_on old new (declared.Instance k c) x h = refl
declaration_on old new (declared.Variable n s) x h = refl
declaration_on old new (declared.Function n ss s) x h = refl
declaration_on old new (declared.Hypothesis n p) x h = ap (Hypothesis n) (statement_of-extends old new p x h)

declared_on : (old new : List Tree) (d : Declared) → Extends old new → IsDeclaredIn old d → IsDeclaredIn new d
declared_on old new (declared.Carrier n) x h = tt
declared_on old new (declared.Instance k c) x h = tt
declared_on old new (declared.Variable n s) x h = tt
declared_on old new (declared.Function n ss s) x h = tt
declared_on old new (declared.Hypothesis n p) x h = (IsIn-extends old new p.lhs x h.0, IsIn-extends old new p.rhs x h.1)

pub declarations_on : (old new : List Tree) (ds : List Declared) → Extends old new → All (IsDeclaredIn old) ds → declarations_of new ds ≡ declarations_of old ds
declarations_on old new [] x h = refl
declarations_on old new (d ∷ ds) x h =
    let a : declaration_of new d ≡ declaration_of old d = declaration_on old new d x (All-head (IsDeclaredIn old) d ds h) in
    let b : declarations_of new ds ≡ declarations_of old ds = declarations_on old new ds x (All-tail (IsDeclaredIn old) d ds h) in
    cc

pub all_on : (old new : List Tree) (ds : List Declared) → Extends old new → All (IsDeclaredIn old) ds → All (IsDeclaredIn new) ds
all_on old new ds x h = λ k d l. declared_on old new _ x (h k d l)

pub told_on : (ts : List Tree) (ds new : List Declared) (d : Declared) (e : Declaration) → new ≡ ds ++ d ∷ [] → declaration_of ts d ≡ e → declarations_of ts new ≡ declarations_of ts ds ++ e ∷ []
told_on ts ds new d e p q = ap (declarations_of ts) p ∙ (map-append (declaration_of ts) ds (d ∷ []) ∙ ap (λ x. declarations_of ts ds ++ x ∷ []) q)

one_at : (ts : List Tree) (d : Declared) → IsDeclaredIn ts d → (k : ℕ) (e : Declared) → k < 1 → IsDeclaredIn ts (get_or (d ∷ []) k e)
one_at ts d h zero e l = h
one_at ts d h (suc k) e l = absurd (omega arith)

pub kept_on : (ts : List Tree) (ds new : List Declared) (d : Declared) → new ≡ ds ++ d ∷ [] → All (IsDeclaredIn ts) ds → IsDeclaredIn ts d → All (IsDeclaredIn ts) new
kept_on ts ds new d e h p = subst (All (IsDeclaredIn ts)) (sym e) (All-append (IsDeclaredIn ts) ds (d ∷ []) h (one_at ts d p))
