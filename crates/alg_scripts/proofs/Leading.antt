-- That backs keep leading back, as the book grows and once a statement is given.
use Rattle.std.proofs.Common.{◌≡◌, ℕ, suc, List, [], ◌∷◌, ◌++◌, length, refl, ap, sym, ◌∙◌, subst, arith, Some, append-nil, length-append}
use Rattle.std.specs.Prelude.{slice_get}
use Rattle.alg_terms.specs.Tree.{Statement}
use Rattle.alg_proof.specs.Steps.{Rest}
use Rattle.alg_build.specs.declared.outcome.Back.{Back}
use Rattle.alg_build.specs.declared.outcome.Back.TheVariants as back
use Rattle.alg_build.specs.Backs.{LeadsBack, LeadAllBack}
use Rattle.alg_build.specs.Book.{Book, Grows, Rests, Concludes}
use Rattle.alg_build.proofs.Leading.{leads-grows}

pub lead_all-grows : (a b : Book) (xs : List Back) (s t : Statement) → Grows a b → LeadAllBack a xs s t → LeadAllBack b xs s t
lead_all-grows a b [] s t g h = h
lead_all-grows a b (x ∷ xs) s t g h = (h.0, leads-grows a b x s h.0 g h.1, lead_all-grows a b xs h.0 t g h.2)

pub lead_all-push : (b : Book) (xs : List Back) (x : Back) (s t u : Statement) → LeadAllBack b xs s t → LeadsBack b x t u → LeadAllBack b (xs ++ x ∷ []) s u
lead_all-push b [] x s t u h l = (u, subst (λ (v : Statement). LeadsBack b x v u) (sym h) l, refl)
lead_all-push b (y ∷ ys) x s t u h l = (h.0, h.1, lead_all-push b ys x h.0 t u h.2 l)

pub leads-sort : (b : Book) (x : Back) (s t : Statement) → LeadsBack b x s t → t.sort ≡ s.sort
leads-sort b (back.Rewrite left right) s t h = h.sort
leads-sort b (back.Scale by left right back_left back_right) s t h = h.sort

-- what leads back doesn't depend on what is given

leads-theory : (a b : Book) (x : Back) (s t : Statement) → b.trees ≡ a.trees → b.done ≡ a.done → LeadsBack a x s t → LeadsBack b x s t
leads-theory a b (back.Rewrite i j) s t e d h = record {
  rel = h.rel;
  sort = h.sort;
  left = record { line = rw d h.left.line };
  right = record { line = rw d h.right.line };
}
leads-theory a b (back.Scale by i j k l) s t e d h = record {
  here = rw e h.here;
  old_rel = h.old_rel;
  new_rel = h.new_rel;
  sort = h.sort;
  left = record { line = rw (d, e) h.left.line };
  right = record { line = rw (d, e) h.right.line };
  back_left = record { line = rw (d, e) h.back_left.line };
  back_right = record { line = rw (d, e) h.back_right.line };
}

-- the book with the line of the given statement, and the theory of before
abbrev with_line : Book → Book → Book
with_line a b = record b { theory = a.theory }

rests-grows : (a b : Book) (n : ℕ) (s : Statement) → Rests a b n s → Grows a (with_line a b)
rests-grows a b n s r = record {
  theory = refl;
  trees = ([], r.trees ∙ sym (append-nil a.trees));
  steps = (Rest ∷ [], r.steps);
  done = (s ∷ [], r.done);
  atoms = ([], r.atoms ∙ sym (append-nil a.atoms));
}

rests-leads : (a b : Book) (n : ℕ) (g : Statement) (x : Back) (s t : Statement) → Rests a b n g → LeadsBack a x s t → LeadsBack b x s t
rests-leads a b n g x s t r h = leads-theory (with_line a b) b x s t refl refl (leads-grows a (with_line a b) x s t (rests-grows a b n g r) h)

pub rests-leads_all : (a b : Book) (n : ℕ) (g : Statement) (xs : List Back) (s t : Statement) → Rests a b n g → LeadAllBack a xs s t → LeadAllBack b xs s t
rests-leads_all a b n g [] s t r h = h
rests-leads_all a b n g (x ∷ xs) s t r h = (h.0, rests-leads a b n g x s h.0 r h.1, rests-leads_all a b n g xs h.0 t r h.2)

seam : {A : Type 0} (xs : List A) (x : A) → slice_get (xs ++ x ∷ []) (length xs) ≡ Some x
seam [] x = refl
seam (y ∷ ys) x = seam ys x

pub rests-concludes : (a b : Book) (n : ℕ) (s : Statement) → Rests a b n s → Concludes b n s
rests-concludes a b n s r =
    let k : n ≡ suc (length a.done) = omega (arith, r.number, ap length r.done, length-append a.done (s ∷ [])) in
    record { line = rw (r.done, k) (seam a.done s) }
