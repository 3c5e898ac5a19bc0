-- How what a file tells goes on with each command that is read.
use Rattle.std.proofs.Common.{◌≡◌, ℕ, ◌<◌, List, [], ◌∷◌, ◌++◌, length, All, sym, ap, ◌∙◌, subst, append_assoc, append-nil, arith}
use Rattle.std.specs.Str.{chars}
use Rattle.alg_lex.specs.Items.{Item, items_from, beginning}
use Rattle.alg_commands.specs.Cutting.{commands_of}
use Rattle.alg_commands.specs.declared.readings.Reading.{Reading}
use Rattle.alg_commands.specs.Outcome.{Gives}
use Rattle.alg_parse.specs.declared.file_trees.FileTree.{FileTree}
use Rattle.alg_parse.specs.declared.reader.Reader.{Reader}
use Rattle.alg_parse.specs.Told.{Told}
use Rattle.alg_parse.specs.Files.{Known, nothing, known_after, told_of, Tell, none, more}
use Rattle.alg_parse.specs.FileTrees.{AreTold, IsCommandIn, IsRead}
use Rattle.alg_parse.specs.Fitting.{ToldFits}
use Rattle.alg_parse.specs.Progress.{Stands, Reads, HasTold, ReadsTo}
use Rattle.alg_parse.proofs.ScriptsFit.{told-fit}

told_start : (all : List (List Item)) → HasTold all nothing [] all
told_start all = record { ends = λ rest end h. h }

told_on : (all : List (List Item)) (k : Known) (told : List Told) (old left : List (List Item)) (r : Reading) → HasTold all k told old → Gives old r left → HasTold all (known_after k r.command) (told ++ told_of k r.line r.command ∷ []) left
told_on all k told [] left r h g = absurd g
told_on all k told (items ∷ old) left r h g =
    record {
      ends = λ rest end w.
          subst (λ zs. Tell nothing all zs end) (sym (append_assoc told (told_of k r.line r.command ∷ []) rest))
          (h.ends (told_of k r.line r.command ∷ rest) end (more k items old r rest end g.0 (subst (λ xs. Tell (known_after k r.command) xs rest end) g.1 w)));
    }

told_end : (all : List (List Item)) (k : Known) (told : List Told) → HasTold all k told [] → Tell nothing all told k
told_end all k told h = subst (λ zs. Tell nothing all zs k) (append-nil told) (h.ends [] k (none k))

-- before the first command
pub reads_start : (all left : List (List Item)) (r : Reader) → left ≡ all → Stands nothing [] r → ReadsTo all left r
reads_start all left r e h = subst (λ xs. ReadsTo all xs r) (sym e) (record { known = nothing; told = []; has_told = told_start all; stands = h })

-- one command more
pub reads_on : (all old left : List (List Item)) (a : Reading) (r s : Reader) → ReadsTo all old r → Gives old a left → ((k : Known) (told : List Told) → Stands k told r → Stands (known_after k a.command) (told ++ told_of k a.line a.command ∷ []) s) → ReadsTo all left s
reads_on all old left a r s h g f =
    record {
      known = known_after h.known a.command;
      told = h.told ++ told_of h.known a.line a.command ∷ [];
      has_told = told_on all h.known h.told old left a h.has_told g;
      stands = f h.known h.told h.stands;
    }

pub reads_some : (all left : List (List Item)) (r : Reader) → ReadsTo all left r → Reads r
reads_some all left r h = record { known = h.known; told = h.told; stands = h.stands }

pub fewer_left : (old left : List (List Item)) (a : Reading) → Gives old a left → length left < length old
fewer_left [] left a g = absurd g
fewer_left (items ∷ old) left a g = let e : length left ≡ length old = ap length g.1 in omega (arith, e)

-- the file is read
pub file_read : (text : List ℕ) (r : Reader) (f : FileTree) → ReadsTo (commands_of (items_from beginning (chars text))) [] r → f.arena ≡ r.arena → f.shared ≡ r.shared → f.commands ≡ r.commands.items → IsRead text f
file_read text r f h a b d =
    let all = commands_of (items_from beginning (chars text)) in
    let tell = told_end all h.known h.told h.has_told in
    let shared = b ∙ h.stands.shared in
    record {
      told = h.told;
      tells = record { end = h.known; tell = tell };
      commands_told = subst (λ ts. AreTold ts f.commands h.told) (sym a) (subst (λ cs. AreTold r.arena cs h.told) (sym d) h.stands.commands);
      shared = shared;
      each = subst (λ ts. All (IsCommandIn ts f.shared) f.commands) (sym a) (subst (λ sh. All (IsCommandIn r.arena sh) f.commands) (sym b) (subst (λ cs. All (IsCommandIn r.arena r.shared) cs) (sym d) h.stands.each));
      fit = subst (λ sh. All (ToldFits sh) h.told) (sym shared) (told-fit nothing all h.told h.known tell tt);
    }
