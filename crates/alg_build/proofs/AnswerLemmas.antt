-- What a procedure made stays as the book grows.
use Rattle.std.proofs.Common.{◌≡◌, ℕ, ◌+◌, ◌≤◌, ◌^◌, length, refl, sym, subst}
use Rattle.alg_terms.specs.Tree.{Statement, node_count}
use Rattle.alg_expr.specs.declared.ids.Stmt.{Stmt}
use Rattle.alg_expr.specs.Ids.{statement_of}
use Rattle.alg_expr.proofs.ArenaLaws.{IsIn-extends, tree_of-extends}
use Rattle.alg_build.specs.Answer.{Answer, Fails, FailsBy, IsLeft, Leads}
use Rattle.alg_build.specs.Backs.{LeadsBack}
use Rattle.alg_build.specs.Book.{Book, Concludes, Grows}
use Rattle.alg_build.specs.declared.outcome.TacFault.{TacFault}
use Rattle.alg_build.specs.declared.outcome.TacFault.TheVariants as fault
use Rattle.alg_build.specs.declared.outcome.Back.{Back}
use Rattle.alg_build.specs.declared.outcome.Outcome.{Outcome}
use Rattle.alg_build.specs.declared.outcome.Outcome.TheVariants as outcome
use Rattle.alg_build.proofs.Concluding.{line_at-within}
use Rattle.alg_build.proofs.Leading.{concludes-grows, leads-grows}

grows-left : (a b : Book) (g : Stmt) (x : Back) (s : Statement) → Grows a b → IsLeft a g x s → IsLeft b g x s
grows-left a b g x s w h =
    let l = tree_of-extends a.trees b.trees g.lhs w.trees h.here.0 in
    let r = tree_of-extends a.trees b.trees g.rhs w.trees h.here.1 in
    let same : statement_of b.trees g ≡ statement_of a.trees g = λ i. record { rel = g.rel; sort = g.sort; lhs = l i; rhs = r i } in
    record {
      here = (IsIn-extends a.trees b.trees g.lhs w.trees h.here.0, IsIn-extends a.trees b.trees g.rhs w.trees h.here.1);
      sorted = rw (w.theory, same) h.sorted;
      small = subst (λ (t : Statement). node_count t.lhs + node_count t.rhs ≤ 2 ^ 20) (sym same) h.small;
      leads = subst (λ (t : Statement). LeadsBack b x s t) (sym same) (leads-grows a b x s (statement_of a.trees g) w h.leads);
    }

pub grows-leads : (a b : Book) (o : Outcome) (s : Statement) → Grows a b → Leads a o s → Leads b o s
grows-leads a b (outcome.Closed line) s g h = concludes-grows a b line s g h
grows-leads a b (outcome.Left goal back) s g h = grows-left a b goal back s g h

pub concludes-within : (b : Book) (i : ℕ) (s : Statement) → Concludes b i s → i ≤ length b.done
concludes-within b i s h = line_at-within b.done i s h.line

-- a fault that isn't want of memory is the one that is answered

pub fails-is : (f : TacFault) (a : Answer) → (f ≡ fault.Memory → ⊥) → FailsBy f a → a ≡ Fails f
fails-is fault.WrongStructure a n h = h
fails-is fault.NotThisGoal a n h = h
fails-is fault.OutOfRange a n h = h
fails-is fault.TooLarge a n h = h
fails-is fault.SidesDiffer a n h = h
fails-is fault.NoChange a n h = h
fails-is fault.GoalFalse a n h = h
fails-is fault.SignUnknown a n h = h
fails-is fault.Memory a n h = absurd (n refl)

pub is-fails : (f : TacFault) (a : Answer) → a ≡ Fails f → FailsBy f a
is-fails fault.WrongStructure a h = h
is-fails fault.NotThisGoal a h = h
is-fails fault.OutOfRange a h = h
is-fails fault.TooLarge a h = h
is-fails fault.SidesDiffer a h = h
is-fails fault.NoChange a h = h
is-fails fault.GoalFalse a h = h
is-fails fault.SignUnknown a h = h
is-fails fault.Memory a h = tt
