-- Laws of commutative rings that follow from those of the record.
use Rattle.std.proofs.Common.{◌≡◌, ap, ap₂, sym, ◌∙◌}
use Rattle.alg_sums.specs.Coefficients.{Coefficients}

module _ {C : Type 0} (r : Coefficients C) where
  pub nil_plus : (a : C) → r.plus r.nil a ≡ a
  nil_plus a = r.plus_comm r.nil a ∙ r.plus_nil a

  pub plus_left : (a b c : C) → r.plus a (r.plus b c) ≡ r.plus b (r.plus a c)
  plus_left a b c = sym (r.plus_assoc a b c) ∙ ap (λ x. r.plus x c) (r.plus_comm a b) ∙ r.plus_assoc b a c

  pub plus_swap_middle : (a b c d : C) → r.plus (r.plus a b) (r.plus c d) ≡ r.plus (r.plus a c) (r.plus b d)
  plus_swap_middle a b c d = r.plus_assoc a b (r.plus c d) ∙ ap (λ x. r.plus a x) (plus_left b c d) ∙ sym (r.plus_assoc a c (r.plus b d))

  pub plus_times : (a b c : C) → r.times (r.plus a b) c ≡ r.plus (r.times a c) (r.times b c)
  plus_times a b c = r.times_comm (r.plus a b) c ∙ r.times_plus c a b ∙ ap₂ r.plus (r.times_comm c a) (r.times_comm c b)

  pub times_nil : (a : C) → r.times a r.nil ≡ r.nil
  times_nil a =
      let d : r.plus (r.times a r.nil) (r.times a r.nil) ≡ r.times a r.nil = sym (r.times_plus a r.nil r.nil) ∙ ap (λ x. r.times a x) (r.plus_nil r.nil) in
      sym (r.plus_nil _) ∙ ap (λ x. r.plus (r.times a r.nil) x) (sym (r.plus_minus (r.times a r.nil))) ∙ sym (r.plus_assoc _ _ _) ∙ ap (λ x. r.plus x (r.minus (r.times a r.nil))) d ∙ r.plus_minus _

  pub nil_times : (a : C) → r.times r.nil a ≡ r.nil
  nil_times a = r.times_comm r.nil a ∙ times_nil a

  pub minus_unique : (a x : C) → r.plus a x ≡ r.nil → x ≡ r.minus a
  minus_unique a x e =
      sym (nil_plus x) ∙ ap (λ y. r.plus y x) (sym (r.plus_comm (r.minus a) a ∙ r.plus_minus a)) ∙ r.plus_assoc (r.minus a) a x ∙ ap (λ y. r.plus (r.minus a) y) e ∙ r.plus_nil (r.minus a)

  pub minus_plus : (a b : C) → r.plus (r.minus a) (r.minus b) ≡ r.minus (r.plus a b)
  minus_plus a b = minus_unique (r.plus a b) (r.plus (r.minus a) (r.minus b)) (plus_swap_middle a b (r.minus a) (r.minus b) ∙ ap₂ r.plus (r.plus_minus a) (r.plus_minus b) ∙ r.plus_nil r.nil)

  pub minus_nil : r.nil ≡ r.minus r.nil
  minus_nil = minus_unique r.nil r.nil (r.plus_nil r.nil)
