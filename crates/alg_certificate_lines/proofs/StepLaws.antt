-- What the text of a step is read as.
use Rattle.std.proofs.Common.{◌≡◌, Bool, true, false, List, Ok, Err, sym, ap, ◌∙◌, if◌then◌else◌}
use Rattle.alg_terms.specs.Tree.{Tree, Trees}
use Rattle.alg_expr.specs.Ids.{trees_at}
use Rattle.alg_law.specs.Declarations.{Declaration}
use Rattle.alg_certificate_lines.specs.Steps.{all_good}
use Rattle.alg_certificate_lines.specs.declared.faults.LineFault.{LineFault}
use Rattle.alg_certificate_lines.specs.declared.faults.LineFault.TheVariants as fault
use Rattle.alg_certificate_lines.specs.Known.{all_known}
use Rattle.alg_certificate_lines.specs.Typed.{typed_all}
use Rattle.alg_certificate_lines.specs.Adding.{Flagged, ReadsTrees}
use Rattle.alg_certificate_lines.specs.Steps.{TreesRead, all_sorted, trees_read, GivesTrees}

asked : (ds : List Declaration) (ts : Trees) (b : Bool) → all_known ds ts ≡ b → trees_read ds ts ≡ (if◌then◌else◌ {A = TreesRead} b (all_sorted ds (typed_all ds ts)) (Err fault.BadName))
asked ds ts b e = ap (λ x. if◌then◌else◌ {A = TreesRead} x (all_sorted ds (typed_all ds ts)) (Err fault.BadName)) e

read_at : (ds : List Declaration) (new : List Tree) (ts : Trees) (x : Flagged) (b : Bool) → ReadsTrees ds new ts (Ok x) → all_good ds (trees_at new x.0) ≡ b → trees_read ds ts ≡ (if◌then◌else◌ {A = TreesRead} b (Ok (trees_at new x.0)) (Err fault.NoInstance))
read_at ds new ts x b t e = asked ds ts true t.0 ∙ (ap (all_sorted ds) t.2 ∙ ap (λ c. if◌then◌else◌ {A = TreesRead} c (Ok (trees_at new x.0)) (Err fault.NoInstance)) e)

pub trees_there : (ds : List Declaration) (new : List Tree) (ts : Trees) (x : Flagged) → ReadsTrees ds new ts (Ok x) → x.1 ≡ all_good ds (trees_at new x.0) → x.1 ≡ true → GivesTrees new (trees_read ds ts) (Ok x.0)
trees_there ds new ts x t g e = (t.1, read_at ds new ts x true t (sym g ∙ e))

pub trees_unclassed : (ds : List Declaration) (new : List Tree) (ts : Trees) (x : Flagged) → ReadsTrees ds new ts (Ok x) → x.1 ≡ all_good ds (trees_at new x.0) → x.1 ≡ false → GivesTrees new (trees_read ds ts) (Err fault.NoInstance)
trees_unclassed ds new ts x t g e = read_at ds new ts x false t (sym g ∙ e)

pub trees_fault : (ds : List Declaration) (new : List Tree) (ts : Trees) (f : LineFault) → ReadsTrees ds new ts (Err f) → GivesTrees new (trees_read ds ts) (Err f)
trees_fault ds new ts fault.BadName t = asked ds ts false t
trees_fault ds new ts fault.BadSort t = asked ds ts true t.0 ∙ ap (all_sorted ds) t.1
trees_fault ds new ts fault.NoInstance t = absurd t
trees_fault ds new ts fault.Memory t = tt
