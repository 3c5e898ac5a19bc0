-- What is told of commands, and that they are of an arena, where the arena grows or more is declared.
use Rattle.std.proofs.Common.{◌≡◌, ℕ, List, [], ◌∷◌, ◌++◌, get_or, take, All, refl, sym, ap, ◌∙◌, subst, arith, length-append}
use Rattle.std.proofs.lemmas.List.{take-append-le}
use Rattle.std.proofs.lemmas.List.Elements.{All-head, All-tail, All-push}
use Rattle.alg_terms.specs.Tree.{Tree}
use Rattle.alg_expr.specs.declared.ids.Stmt.{Stmt}
use Rattle.alg_expr.specs.Ids.{statement_of}
use Rattle.alg_expr.specs.Arena.{Extends}
use Rattle.alg_expr.proofs.ArenaLaws.{IsIn-extends, statement_of-extends}
use Rattle.alg_law.specs.declared.declarations.Declared.{Declared}
use Rattle.alg_law.specs.declared.declarations.Declared.TheVariants as declared
use Rattle.alg_law.specs.Declarations.{Declaration, Hypothesis, declaration_of, declarations_of, IsDeclaredIn}
use Rattle.alg_law.specs.Following.{AllMayFollow}
use Rattle.alg_law.specs.WellSorted.{IsStatement}
use Rattle.alg_parse.specs.declared.file_trees.Command.{Command}
use Rattle.alg_parse.specs.declared.file_trees.Command.TheVariants as command
use Rattle.alg_parse.specs.Told.{Told, goal}
use Rattle.alg_parse.specs.FileTrees.{IsTold, AreTold, IsGoalIn, IsCommandIn}
use Rattle.alg_parse.proofs.CallLaws.{calls-on}

-- the arena grows

declaration_kept : (old new : List Tree) (d : Declared) → Extends old new → IsDeclaredIn old d → declaration_of new d ≡ declaration_of old d
declaration_kept old new (declared.Carrier n) x h = refl
declaration_kept old new (declared.Instance k c) x h = refl
declaration_kept old new (declared.Variable n s) x h = refl
declaration_kept old new (declared.Function n ss s) x h = refl
declaration_kept old new (declared.Hypothesis n p) x h = ap (Hypothesis n) (statement_of-extends old new p x h)

declared_kept : (old new : List Tree) (d : Declared) → Extends old new → IsDeclaredIn old d → IsDeclaredIn new d
declared_kept old new (declared.Carrier n) x h = tt
declared_kept old new (declared.Instance k c) x h = tt
declared_kept old new (declared.Variable n s) x h = tt
declared_kept old new (declared.Function n ss s) x h = tt
declared_kept old new (declared.Hypothesis n p) x h = (IsIn-extends old new p.lhs x h.0, IsIn-extends old new p.rhs x h.1)

pub declarations_kept : (old new : List Tree) (ds : List Declared) → Extends old new → All (IsDeclaredIn old) ds → declarations_of new ds ≡ declarations_of old ds
declarations_kept old new [] x h = refl
declarations_kept old new (d ∷ ds) x h = λ i.
    declaration_kept old new d x (All-head (IsDeclaredIn old) d ds h) i ∷ declarations_kept old new ds x (All-tail (IsDeclaredIn old) d ds h) i

pub all_kept : (old new : List Tree) (ds : List Declared) → Extends old new → All (IsDeclaredIn old) ds → All (IsDeclaredIn new) ds
all_kept old new ds x h = λ i d l. declared_kept old new (get_or ds i d) x (h i d l)

goal_kept : (old new : List Tree) (sh : List Declaration) (n : ℕ) (ds : List Declared) (p : Stmt) → Extends old new → IsGoalIn old sh n ds p → IsGoalIn new sh n ds p
goal_kept old new sh n ds p x h =
    record {
      within = h.within;
      room = h.room;
      here = all_kept old new ds x h.here;
      fit = subst (λ es. AllMayFollow (take n sh) es) (sym (declarations_kept old new ds x h.here)) h.fit;
      statement = (IsIn-extends old new p.lhs x h.statement.0, IsIn-extends old new p.rhs x h.statement.1);
      sorted = subst (λ es. IsStatement (take n sh ++ es) (statement_of new p)) (sym (declarations_kept old new ds x h.here))
          (subst (λ q. IsStatement (take n sh ++ declarations_of old ds) q) (sym (statement_of-extends old new p x h.statement)) h.sorted);
    }

command_kept : (old new : List Tree) (sh : List Declaration) (c : Command) → Extends old new → IsCommandIn old sh c → IsCommandIn new sh c
command_kept old new sh command.Declares x h = tt
command_kept old new sh (command.Goal label line n ds p ps) x h = goal_kept old new sh n ds p x h
command_kept old new sh (command.Fault line cause) x h = tt

pub commands_kept : (old new : List Tree) (sh : List Declaration) (cs : List Command) → Extends old new → All (IsCommandIn old sh) cs → All (IsCommandIn new sh) cs
commands_kept old new sh cs x h = λ i d l. command_kept old new sh (get_or cs i d) x (h i d l)

told_kept : (old new : List Tree) (sh : List Declaration) (c : Command) (t : Told) → Extends old new → IsCommandIn old sh c → IsTold old c t → IsTold new c t
told_kept old new sh command.Declares t x h e = e
told_kept old new sh (command.Goal label line n ds p ps) t x h e =
    (e.0, calls-on old new ps e.0 x e.1, e.2 ∙ (λ i. goal label line n (sym (declarations_kept old new ds x h.here) i) (sym (statement_of-extends old new p x h.statement) i) e.0))
told_kept old new sh (command.Fault line cause) t x h e = e

pub all_told_kept : (old new : List Tree) (sh : List Declaration) (cs : List Command) (told : List Told) → Extends old new → All (IsCommandIn old sh) cs → AreTold old cs told → AreTold new cs told
all_told_kept old new sh [] [] x h e = tt
all_told_kept old new sh [] (t ∷ told) x h e = absurd e
all_told_kept old new sh (c ∷ cs) [] x h e = absurd e
all_told_kept old new sh (c ∷ cs) (t ∷ told) x h e =
    (told_kept old new sh c t x (All-head (IsCommandIn old sh) c cs h) e.0, all_told_kept old new sh cs told x (All-tail (IsCommandIn old sh) c cs h) e.1)

-- more is declared

goal_more : (ts : List Tree) (sh more : List Declaration) (n : ℕ) (ds : List Declared) (p : Stmt) → IsGoalIn ts sh n ds p → IsGoalIn ts (sh ++ more) n ds p
goal_more ts sh more n ds p h =
    record {
      within = (let a = h.within in let b = length-append sh more in omega (arith, a, b));
      room = h.room;
      here = h.here;
      fit = subst (λ es. AllMayFollow es (declarations_of ts ds)) (sym (take-append-le n sh more h.within)) h.fit;
      statement = h.statement;
      sorted = subst (λ es. IsStatement (es ++ declarations_of ts ds) (statement_of ts p)) (sym (take-append-le n sh more h.within)) h.sorted;
    }

command_more : (ts : List Tree) (sh more : List Declaration) (c : Command) → IsCommandIn ts sh c → IsCommandIn ts (sh ++ more) c
command_more ts sh more command.Declares h = tt
command_more ts sh more (command.Goal label line n ds p ps) h = goal_more ts sh more n ds p h
command_more ts sh more (command.Fault line cause) h = tt

pub commands_more : (ts : List Tree) (sh more : List Declaration) (cs : List Command) → All (IsCommandIn ts sh) cs → All (IsCommandIn ts (sh ++ more)) cs
commands_more ts sh more cs h = λ i d l. command_more ts sh more (get_or cs i d) (h i d l)

-- one command more

pub told_push : (ts : List Tree) (cs : List Command) (told : List Told) (c : Command) (t : Told) → AreTold ts cs told → IsTold ts c t → AreTold ts (cs ++ c ∷ []) (told ++ t ∷ [])
told_push ts [] [] c t h i = (i, tt)
told_push ts [] (u ∷ told) c t h i = absurd h
told_push ts (d ∷ cs) [] c t h i = absurd h
told_push ts (d ∷ cs) (u ∷ told) c t h i = (h.0, told_push ts cs told c t h.1 i)

-- one command more, in an arena that has grown
pub told_more : (old new : List Tree) (sh : List Declaration) (cs : List Command) (told : List Told) (c : Command) (t : Told) → Extends old new → All (IsCommandIn old sh) cs → AreTold old cs told → IsTold new c t → AreTold new (cs ++ c ∷ []) (told ++ t ∷ [])
told_more old new sh cs told c t x h e i = told_push new cs told c t (all_told_kept old new sh cs told x h e) i

pub each_more : (old new : List Tree) (sh more : List Declaration) (cs : List Command) (c : Command) → Extends old new → All (IsCommandIn old sh) cs → IsCommandIn new (sh ++ more) c → All (IsCommandIn new (sh ++ more)) (cs ++ c ∷ [])
each_more old new sh more cs c x h i = All-push (IsCommandIn new (sh ++ more)) cs c (commands_more new sh more cs (commands_kept old new sh cs x h)) i
