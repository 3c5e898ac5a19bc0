use Rattle.std.proofs.Common.{List, sym, ◌∙◌, ap}
use Rattle.alg_terms.specs.declared.sorts.Sort.TheVariants.{Decl}
use Rattle.alg_law.specs.Firsts.{first_at}
use Rattle.alg_law.specs.Having.{instances_give}
use Rattle.alg_law.proofs.PrefixLemmas.{none_given}
use Rattle.alg_names.specs.declared.grants.Granted.{Granted}
use Rattle.alg_names.specs.Granting.{instances_of}
use Rattle.alg_names.proofs.Granting.{tells}
use Rattle.alg_names.proofs.grants.Grants.gives.Goals as goal

pub returns-in-Nat : goal.returns-in-Nat
returns-in-Nat c = rw (c.in-Nat.is) (sym (none_given (instances_of c.args.self.now) c.args.class).0)

pub returns-in-Int : goal.returns-in-Int
returns-in-Int c = rw (c.in-Int.is) (sym (none_given (instances_of c.args.self.now) c.args.class).1)

pub returns-in-Rat : goal.returns-in-Rat
returns-in-Rat c = rw (c.in-Rat.is) (sym (none_given (instances_of c.args.self.now) c.args.class).2)

pub returns-in-Decl : goal.returns-in-Decl
returns-in-Decl c =
    let k = c.in-Decl.k in
    let b = c.args.class in
    let table = c.first_of.ensures ∙ ap (λ xs. first_at xs k b) c.deref.ensures.value in
    let told = tells c.self.inside.items.items c.self.inside.first.items k b c.first_of.result c.len.result c.self.invariant table (c.len.ensures ∙ c.self.inside.items.ok.0) in
    rw (c.in-Decl.is) (told ∙ ap (λ (gs : List Granted). instances_give (instances_of gs) (Decl k) b) c.self.view_is)
