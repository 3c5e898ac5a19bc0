use Rattle.std.proofs.Common.{◌≡◌, ◌<◌, ◌+◌, ◌-◌, List, length, ap, sym, subst, ◌∙◌, None, nat_eq, arith, Option, is_some, if◌then◌else◌}
use Rattle.std.proofs.Math.ListN.{length-take}
use Rattle.std.proofs.lemmas.List.Elements.{All-push, All-take}
use Rattle.indexmap.specs.IndexMap.{get, index_map_len}
use Rattle.alg_terms.specs.Tree.{Tree}
use Rattle.alg_expr.specs.declared.importing.Copied.{Copied}
use Rattle.alg_expr.specs.declared.ids.ExprId.{ExprId}
use Rattle.alg_expr.specs.Ids.{tree_of, IsIn}
use Rattle.alg_expr.proofs.ArenaLaws.{Extends-then}
use Rattle.alg_expr.specs.Arena.{Extends, Imports}
use Rattle.alg_expr.specs.Copies.{Copies, AreCopies, next_of}
use Rattle.alg_expr.proofs.Copying.{Imports-done, AreCopies-insert, copies_fit, next_in, smaller-pop, smaller-insert}
use Rattle.alg_expr.proofs.arena.Arena.copy_in.Goals as goal

pub returns-then-len-eq0-clause-ok : goal.returns-then-len-eq0-clause-ok
returns-then-len-eq0-clause-ok c =
    let copy = c.copy.invariant.copies _ c.in-Some.copy.now (sym c.in-Some.ensures.value) in
    let empty : length c.copy.pending.items ≡ 0 = omega (arith, c.copy.pending.ok.0, c.len.ensures, c.if-len-eq0.true) in
    Imports-done c.args.from.now c.args.self.now c.copy.self c.copy.pending.items c.args.id c.last_or-next.result c.in-Some.copy.now empty (c.last_or-next.ensures ∙ ap (λ es. next_of es c.args.id) c.deref.ensures.value) c.copy.invariant.grown copy

pub copy-smaller-in-Some : goal.copy-smaller-in-Some
copy-smaller-in-Some c =
    let l : length c.pop.new.self.items + 1 ≡ length c.copy.pending.items =
    omega (arith, ap length c.pop.ensures.rest, length-take (c.copy.pending.len - 1) c.copy.pending.items, c.copy.pending.ok.0, c.len.ensures, c.if-len-eq0.false) in
    smaller-pop c.args.from.now c.args.id c.copy.done c.copy.pending.items c.pop.new.self.items c.last_or-next.result c.in-Some.copy.now (c.last_or-next.ensures ∙ ap (λ es. next_of es c.args.id) c.deref.ensures.value) (sym c.in-Some.ensures.value) l
    (rw c.pop.ensures.rest (All-take (IsIn c.args.from.now) _ c.copy.pending.items c.copy.invariant.pending_in)) c.requires

pub copy-preserved-in-Some : goal.copy-preserved-in-Some
copy-preserved-in-Some c =
    record {
      grown = c.copy.invariant.grown;
      copies = c.copy.invariant.copies;
      pending_in = rw c.pop.ensures.rest (All-take (IsIn c.args.from.now) _ c.copy.pending.items c.copy.invariant.pending_in);
      fits = c.copy.invariant.fits;
    }

pub copy-smaller-in_ok-insert-in-Made : goal.copy-smaller-in_ok-insert-in-Made
copy-smaller-in_ok-insert-in-Made c =
    let made : Imports c.copy.self c.copy_node.new.self c.in-Made.copy (tree_of c.args.from.now c.last_or-next.result) =
    subst (λ (r : Copied). Copies c.args.from.now c.copy.self c.copy_node.new.self c.copy.done c.last_or-next.result r) c.in-Made.is c.in_ok-copy-in-None.ensures.ok in
    let is : c.last_or-next.result ≡ next_of c.copy.pending.items c.args.id = c.last_or-next.ensures ∙ ap (λ es. next_of es c.args.id) c.deref.ensures.value in
    let copies : AreCopies c.args.from.now c.copy_node.new.self c.insert.new.self =
    AreCopies-insert c.args.from.now c.copy.self c.copy_node.new.self c.copy.done c.insert.new.self c.last_or-next.result c.in-Made.copy c.copy.invariant.copies c.in_ok-insert-in-Made.ensures.updates
    (subst (IsIn c.args.from.now) (sym is) (next_in c.args.from.now c.copy.pending.items c.args.id c.copy.invariant.pending_in c.requires)) made in
    smaller-insert c.args.from.now c.args.id c.copy.done c.insert.new.self c.copy.pending.items c.last_or-next.result is (sym c.in-None.ensures.value)
    (c.in_ok-insert-in-Made.ensures.len ∙ ap (λ (o : Option ExprId). index_map_len c.copy.done + (if is_some o then 0 else 1)) (c.in_ok-insert-in-Made.ensures.old ∙ sym c.in-None.ensures.value))
    (copies_fit c.args.from.now c.copy_node.new.self c.insert.new.self c.in_ok-insert-in-Made.ensures.unique copies) c.copy.invariant.pending_in c.requires

pub copy-preserved-in_ok-insert-in-Made : goal.copy-preserved-in_ok-insert-in-Made
copy-preserved-in_ok-insert-in-Made c =
    let made : Imports c.copy.self c.copy_node.new.self c.in-Made.copy (tree_of c.args.from.now c.last_or-next.result) =
    subst (λ (r : Copied). Copies c.args.from.now c.copy.self c.copy_node.new.self c.copy.done c.last_or-next.result r) c.in-Made.is c.in_ok-copy-in-None.ensures.ok in
    let is : c.last_or-next.result ≡ next_of c.copy.pending.items c.args.id = c.last_or-next.ensures ∙ ap (λ es. next_of es c.args.id) c.deref.ensures.value in
    let copies : AreCopies c.args.from.now c.copy_node.new.self c.insert.new.self =
    AreCopies-insert c.args.from.now c.copy.self c.copy_node.new.self c.copy.done c.insert.new.self c.last_or-next.result c.in-Made.copy c.copy.invariant.copies c.in_ok-insert-in-Made.ensures.updates
    (subst (IsIn c.args.from.now) (sym is) (next_in c.args.from.now c.copy.pending.items c.args.id c.copy.invariant.pending_in c.requires)) made in
    record {
      grown = Extends-then c.args.self.now c.copy.self c.copy_node.new.self c.copy.invariant.grown made.keeps;
      copies = copies;
      pending_in = c.copy.invariant.pending_in;
      fits = copies_fit c.args.from.now c.copy_node.new.self c.insert.new.self c.in_ok-insert-in-Made.ensures.unique copies;
    }

pub copy-preserved : goal.copy-preserved
copy-preserved c =
    let missing : (c.copy_node.new.self ≡ c.copy.self) × (c.in-Missing.part.index < c.last_or-next.result.index) × (get nat_eq c.copy.done c.in-Missing.part.index ≡ None) =
    subst (λ (r : Copied). Copies c.args.from.now c.copy.self c.copy_node.new.self c.copy.done c.last_or-next.result r) c.in-Missing.is c.in_ok-copy-in-None.ensures.ok in
    let is : c.last_or-next.result ≡ next_of c.copy.pending.items c.args.id = c.last_or-next.ensures ∙ ap (λ es. next_of es c.args.id) c.deref.ensures.value in
    let in' : IsIn c.args.from.now c.last_or-next.result = subst (IsIn c.args.from.now) (sym is) (next_in c.args.from.now c.copy.pending.items c.args.id c.copy.invariant.pending_in c.requires) in
    record {
      grown = subst (Extends c.args.self.now) (sym missing.0) c.copy.invariant.grown;
      copies = subst (λ (ts : List Tree). AreCopies c.args.from.now ts c.copy.done) (sym missing.0) c.copy.invariant.copies;
      pending_in = rw c.in_ok-push-in-Missing.ensures.items (All-push (IsIn c.args.from.now) c.copy.pending.items c.in-Missing.part c.copy.invariant.pending_in (omega (arith, in', missing.1)));
      fits = c.copy.invariant.fits;
    }
