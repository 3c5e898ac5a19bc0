-- What norm_num answers.
use Rattle.std.specs.Prelude.{Bool, true, false, ◌||◌, List, Option, Some, None, if◌then◌else◌}
use Rattle.alg_terms.specs.declared.symbols.Sym.{Sym}
use Rattle.alg_terms.specs.Tree.{Tree, Statement}
use Rattle.alg_law.specs.Declarations.{Declaration}
use Rattle.alg_build.specs.Answer.{Answer, Closes, Fails}
use Rattle.alg_build.specs.declared.outcome.TacFault.TheVariants.{OutOfRange, GoalFalse}
use Rattle.alg_ends.specs.CommonEnd.{common_end}
use Rattle.alg_values.specs.Setting.{Classes, Setting, setting}
use Rattle.alg_values.specs.Comparing.{comparison_in_range, decided}
use Rattle.alg_values.specs.Normal.{normal}
use Rattle.alg_values.specs.Values.{value, has_past}
use Rattle.alg_values.specs.declared.value.Value.{Value}
use Rattle.alg_values.specs.declared.value.Value.TheVariants.{Num, Past, Without}

-- where it isn't known whether the relation holds, the new sides are put in the place of the old ones
abbrev pub by_decision : Statement → (left right : Tree) → Option Bool → Answer
by_decision s l r None = common_end s l r
by_decision s l r (Some true) = Closes
by_decision s l r (Some false) = Fails GoalFalse

-- two values are compared, which must be in range; where a side has no value, the new sides are put in the place of the
-- old ones
abbrev pub by_values : Classes → Statement → (left right : Tree) → Value → Value → Answer
by_values has s l r (Num p) (Num q) = if comparison_in_range s.rel p q then by_decision s l r (decided has s.rel s.sort p q) else Fails OutOfRange
by_values has s l r (Num p) Past = common_end s l r
by_values has s l r (Num p) Without = common_end s l r
by_values has s l r Past v = common_end s l r
by_values has s l r Without v = common_end s l r

-- no node may be past the range; in the new sides every largest part that has a value is its numeral
abbrev pub answer_in : Setting → Statement → Answer
answer_in k s = if has_past k s.lhs || has_past k s.rhs then Fails OutOfRange else by_values k.has s (normal k s.lhs) (normal k s.rhs) (value k s.lhs) (value k s.rhs)

-- by the symbols that are covered, the declarations in force and the goal
unfoldable pub norm_num_answer : (Sym → Bool) → List Declaration → Statement → Answer
norm_num_answer covers ds s = answer_in (setting ds covers) s
