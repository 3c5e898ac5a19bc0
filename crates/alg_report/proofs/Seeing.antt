-- What a file tells is what its commands tell over its arena.
use Rattle.std.proofs.Common.{◌≡◌, ℕ, List, [], ◌∷◌, map, refl, ap, ◌∙◌, subst}
use Rattle.std.specs.Prelude.{All}
use Rattle.std.proofs.lemmas.List.Elements.{All-nil, All-cons, All-head, All-tail}
use Rattle.alg_terms.specs.Tree.{Tree}
use Rattle.alg_expr.specs.Ids.{statement_of}
use Rattle.alg_law.specs.Declarations.{Declaration, declarations_of}
use Rattle.alg_parse.specs.declared.procedures.Proc.{Proc}
use Rattle.alg_parse.specs.declared.procedures.Proc.TheVariants.{Named, LinearCombination}
use Rattle.alg_parse.specs.declared.file_trees.Command.{Command}
use Rattle.alg_parse.specs.declared.file_trees.Command.TheVariants.{Declares, Goal, Fault}
use Rattle.alg_parse.specs.declared.file_trees.FileTree.{FileTree}
use Rattle.alg_parse.specs.Fitting.{ToldFits}
use Rattle.alg_parse.specs.FileTrees.{IsCall, AreCalls, IsTold, AreTold, IsCommandIn, IsRead}
use Rattle.alg_parse.specs.Told.{Told, Call, goal}
use Rattle.alg_goals.specs.Goals.{IsDeclarableIn}
use Rattle.alg_steps.specs.Calling.{call_in, IsProcIn}
use Rattle.alg_report.specs.Seen.{calls_in, told_seen, seen_of, IsScriptIn, MayRun}

call_same : (ts : List Tree) (p : Proc) (c : Call) → IsCall ts p c → c ≡ call_in ts p
call_same ts (Named p) c h = h
call_same ts (LinearCombination k) c h = h.1

calls_same : (ts : List Tree) (ps : List Proc) (cs : List Call) → AreCalls ts ps cs → cs ≡ calls_in ts ps
calls_same ts [] [] h = refl
calls_same ts [] (c ∷ cs) h = absurd h
calls_same ts (p ∷ ps) [] h = absurd h
calls_same ts (p ∷ ps) (c ∷ cs) h =
    let first = call_same ts p c h.0 in
    let rest = calls_same ts ps cs h.1 in
    λ i. first i ∷ rest i

told_same : (ts : List Tree) (c : Command) (t : Told) → IsTold ts c t → t ≡ told_seen ts c
told_same ts Declares t h = h
told_same ts (Goal label line prefix local stmt script) t h = h.2 ∙ ap (λ cs. goal label line prefix (declarations_of ts local) (statement_of ts stmt) cs) (calls_same ts script h.0 h.1)
told_same ts (Fault line cause) t h = h

all_same : (ts : List Tree) (cs : List Command) (told : List Told) → AreTold ts cs told → told ≡ map (told_seen ts) cs
all_same ts [] [] h = refl
all_same ts [] (t ∷ told) h = absurd h
all_same ts (c ∷ cs) [] h = absurd h
all_same ts (c ∷ cs) (t ∷ told) h =
    let first = told_same ts c t h.0 in
    let rest = all_same ts cs told h.1 in
    λ i. first i ∷ rest i

-- a file that was read tells what is seen of it
pub read_tells : (text : List ℕ) (f : FileTree) → (read : IsRead text f) → read.told ≡ seen_of f
read_tells text f read = all_same f.arena f.commands read.told read.commands_told

-- its scripts are of its arena

proc_in : (ts : List Tree) (p : Proc) (c : Call) → IsCall ts p c → IsProcIn ts p
proc_in ts (Named p) c h = tt
proc_in ts (LinearCombination k) c h = h.0

procs_in : (ts : List Tree) (ps : List Proc) (cs : List Call) → AreCalls ts ps cs → All (IsProcIn ts) ps
procs_in ts [] [] h = All-nil (IsProcIn ts)
procs_in ts [] (c ∷ cs) h = absurd h
procs_in ts (p ∷ ps) [] h = absurd h
procs_in ts (p ∷ ps) (c ∷ cs) h = All-cons (IsProcIn ts) p ps (proc_in ts p c h.0) (procs_in ts ps cs h.1)

script_in : (ts : List Tree) (c : Command) (t : Told) → IsTold ts c t → IsScriptIn ts c
script_in ts Declares t h = tt
script_in ts (Goal label line prefix local stmt script) t h = procs_in ts script h.0 h.1
script_in ts (Fault line cause) t h = tt

all_may : (ts : List Tree) (shared : List Declaration) (cs : List Command) (told : List Told) → AreTold ts cs told → All (IsCommandIn ts shared) cs → All (IsDeclarableIn ts shared) cs → All (ToldFits shared) told → All (MayRun ts shared) cs
all_may ts shared [] [] h within declarable fit = All-nil (MayRun ts shared)
all_may ts shared [] (t ∷ told) h within declarable fit = absurd h
all_may ts shared (c ∷ cs) [] h within declarable fit = absurd h
all_may ts shared (c ∷ cs) (t ∷ told) h within declarable fit =
    All-cons (MayRun ts shared) c cs
    (record {
      within = All-head (IsCommandIn ts shared) c cs within;
      declarable = All-head (IsDeclarableIn ts shared) c cs declarable;
      script = script_in ts c t h.0;
      fits = subst (λ (x : Told). ToldFits shared x) (told_same ts c t h.0) (All-head (ToldFits shared) t told fit);
    })
    (all_may ts shared cs told h.1 (All-tail (IsCommandIn ts shared) c cs within) (All-tail (IsDeclarableIn ts shared) c cs declarable) (All-tail (ToldFits shared) t told fit))

-- each command of a file that was read may run
pub read_runs : (text : List ℕ) (f : FileTree) → IsRead text f → All (IsDeclarableIn f.arena f.shared) f.commands → All (MayRun f.arena f.shared) f.commands
read_runs text f read declarable = all_may f.arena f.shared f.commands read.told read.commands_told read.each declarable read.fit
