use Rattle.std.proofs.Common.{◌≡◌, ◌<◌, ◌∙◌, ◌++◌, ◌∷◌, [], ℕ, List, length, ap, sym, subst, arith}
use Rattle.alg_law.specs.Declarations.{Declaration, declaration_of}
use Rattle.alg_law.specs.Following.{MayFollow}
use Rattle.alg_law.specs.Indexing.{IsIndexed}
use Rattle.alg_law.specs.Noting.{placed, noted_for}
use Rattle.alg_law.proofs.IndexLemmas.{IsIndexed-push, IsIndexed-padded}
use Rattle.alg_law.proofs.growing.Growing.push.Goals as goal

pub invariant_of-self-2 : goal.invariant_of-self-2
invariant_of-self-2 c =
    let ds = c.self.inside.declared in
    let ps = c.self.inside.places.items in
    let cs = c.self.inside.counts.items in
    let fs = c.make_room_for.new.first.items in
    let d = declaration_of c.args.from.now c.args.d.now in
    let given = c.is_hypothesis-given.result in
    let o = c.instance_of-instance.result in
    let at = c.len-at.result in
    let room : length ds < 4294967295 = omega (arith, ap length c.self.view_is) in
    let m = subst (λ (x : List Declaration). MayFollow x d) (sym c.self.view_is) c.requires.fits in
    let h = IsIndexed-push ds ps cs fs d given o at (IsIndexed-padded ds ps cs c.self.inside.first.items fs c.in_ok-make_room_for.ensures.same c.self.invariant) m c.len-at.ensures room c.is_hypothesis-given.ensures c.instance_of-instance.ensures c.in_ok-make_room_for.ensures.room in
    let p : c.put_place.new.places.items ≡ placed ps given at = c.put_place.ensures ∙ ap (λ ks. placed ks given at) c.in_ok-reserve.ensures.items in
    let q : c.put.new.numbers.items ≡ cs ++ length (placed ps given at) ∷ [] = c.put.ensures ∙ (λ i. c.in_ok-reserve-2.ensures.items i ++ (c.len.ensures ∙ c.put_place.new.places.ok.0 ∙ ap length p) i ∷ []) in
    let f : c.note_for.new.first.items ≡ noted_for fs o at = c.note_for.ensures in
    subst (λ (x : List Declaration). IsIndexed x c.put_place.new.places.items c.put.new.numbers.items c.note_for.new.first.items) (sym c.in_ok-push.ensures.ok)
    (subst (λ (x : List ℕ). IsIndexed (ds ++ d ∷ []) x c.put.new.numbers.items c.note_for.new.first.items) (sym p)
    (subst (λ (x : List ℕ). IsIndexed (ds ++ d ∷ []) (placed ps given at) x c.note_for.new.first.items) (sym q)
    (subst (λ (x : List ℕ). IsIndexed (ds ++ d ∷ []) (placed ps given at) (cs ++ length (placed ps given at) ∷ []) x) (sym f) h)))
