-- What stands at the front is spelled so.
use Rattle.std.proofs.Common.{◌≡◌, ℕ, zero, suc, ◌+◌, List, [], ◌∷◌, drop, true, Option, Some, None, refl, sym, ap, ◌∙◌, inl, inr}
use Rattle.std.specs.Prelude.{◌==◌, option_map, option_and_then}
use Rattle.std.proofs.lemmas.Bool.{cases_Bool, eqb-true, cond-true, cond-false}
use Rattle.std.proofs.lemmas.Option.{none-some, same_Some}
use Rattle.std.proofs.lemmas.List.{drop-drop, drop-map}
use Rattle.alg_lex.specs.declared.Token.{Token}
use Rattle.alg_syntax.specs.Signs.{seen, signs}
use Rattle.alg_syntax.specs.Written.{Written}
use Rattle.alg_syntax.specs.declared.signs.Fixed as fixed
use Rattle.alg_syntax.specs.declared.signs.Fixed.TheVariants.{Colon, Assign, Semicolon, Arrow, OpenBrace, CloseBrace, OpenBracket, CloseBracket, Import, Variable, Theorem, Example, By, TypeWord, Unknown}
use Rattle.alg_syntax.specs.declared.signs.Sign.{Sign}
use Rattle.alg_syntax.specs.declared.signs.Sign.TheVariants.{Number, Name, Open, Close, Operator, Inverse, Relation, Fixed}
use Rattle.alg_syntax.specs.Front.{number_of, after_fixed, after_close, name_first}

pub and_then_some : {A B : Type 0} (f : A → Option B) (o : Option A) (y : B) → option_and_then f o ≡ Some y → (x : A) × (o ≡ Some x) × (f x ≡ Some y)
and_then_some f (Some x) y e = (x, refl, e)
and_then_some f None y e = absurd (none-some y e)

pub map_some : {A B : Type 0} (f : A → B) (o : Option A) (y : B) → option_map f o ≡ Some y → (x : A) × (o ≡ Some x) × (f x ≡ y)
map_some f (Some x) y e = (x, refl, same_Some _ _ e)
map_some f None y e = absurd (none-some y e)

fixed_at : ℕ → fixed.Fixed
fixed_at zero = Colon
fixed_at (suc zero) = Assign
fixed_at (suc (suc zero)) = Semicolon
fixed_at (suc (suc (suc zero))) = Arrow
fixed_at (suc (suc (suc (suc zero)))) = OpenBrace
fixed_at (suc (suc (suc (suc (suc zero))))) = CloseBrace
fixed_at (suc (suc (suc (suc (suc (suc zero)))))) = OpenBracket
fixed_at (suc (suc (suc (suc (suc (suc (suc zero))))))) = CloseBracket
fixed_at (suc (suc (suc (suc (suc (suc (suc (suc zero)))))))) = Import
fixed_at (suc (suc (suc (suc (suc (suc (suc (suc (suc zero))))))))) = Variable
fixed_at (suc (suc (suc (suc (suc (suc (suc (suc (suc (suc zero)))))))))) = Theorem
fixed_at (suc (suc (suc (suc (suc (suc (suc (suc (suc (suc (suc zero))))))))))) = Example
fixed_at (suc (suc (suc (suc (suc (suc (suc (suc (suc (suc (suc (suc zero)))))))))))) = By
fixed_at (suc (suc (suc (suc (suc (suc (suc (suc (suc (suc (suc (suc (suc zero))))))))))))) = TypeWord
fixed_at (suc (suc (suc (suc (suc (suc (suc (suc (suc (suc (suc (suc (suc (suc n)))))))))))))) = Unknown

fixed_numbered : (k : fixed.Fixed) → fixed_at (number_of k) ≡ k
unfolding fixed_at
fixed_numbered Colon = refl
fixed_numbered Assign = refl
fixed_numbered Semicolon = refl
fixed_numbered Arrow = refl
fixed_numbered OpenBrace = refl
fixed_numbered CloseBrace = refl
fixed_numbered OpenBracket = refl
fixed_numbered CloseBracket = refl
fixed_numbered Import = refl
fixed_numbered Variable = refl
fixed_numbered Theorem = refl
fixed_numbered Example = refl
fixed_numbered By = refl
fixed_numbered TypeWord = refl
fixed_numbered Unknown = refl

same_word : (j k : fixed.Fixed) → (number_of j == number_of k) ≡ true → j ≡ k
same_word j k e = sym (fixed_numbered j) ∙ (ap fixed_at (eqb-true (number_of j) (number_of k) e) ∙ fixed_numbered k)

pub after_fixed_spelled : (k : fixed.Fixed) (ts rest : List Sign) → after_fixed k ts ≡ Some rest → ts ≡ Fixed k ∷ rest
after_fixed_spelled k [] rest e = absurd (none-some _ e)
after_fixed_spelled k (Number f n ∷ ts) rest e = absurd (none-some _ e)
after_fixed_spelled k (Name n ∷ ts) rest e = absurd (none-some _ e)
after_fixed_spelled k (Open f ∷ ts) rest e = absurd (none-some _ e)
after_fixed_spelled k (Close ∷ ts) rest e = absurd (none-some _ e)
after_fixed_spelled k (Operator o ∷ ts) rest e = absurd (none-some _ e)
after_fixed_spelled k (Inverse ∷ ts) rest e = absurd (none-some _ e)
after_fixed_spelled k (Relation r ∷ ts) rest e = absurd (none-some _ e)
after_fixed_spelled k (Fixed j ∷ ts) rest e = elim (cases_Bool (number_of j == number_of k)) [
  | inl t ↦ (λ i. Fixed (same_word j k t i) ∷ same_Some _ _ (sym (cond-true (number_of j == number_of k) (Some ts) None t) ∙ e) i)
  | inr t ↦ absurd (none-some _ (sym (cond-false (number_of j == number_of k) (Some ts) None t) ∙ e))
]

pub after_close_spelled : (ts rest : List Sign) → after_close ts ≡ Some rest → ts ≡ Close ∷ rest
after_close_spelled [] rest e = absurd (none-some _ e)
after_close_spelled (Number f n ∷ ts) rest e = absurd (none-some _ e)
after_close_spelled (Name n ∷ ts) rest e = absurd (none-some _ e)
after_close_spelled (Open f ∷ ts) rest e = absurd (none-some _ e)
after_close_spelled (Close ∷ ts) rest e = ap (λ us. Close ∷ us) (same_Some _ _ e)
after_close_spelled (Operator o ∷ ts) rest e = absurd (none-some _ e)
after_close_spelled (Inverse ∷ ts) rest e = absurd (none-some _ e)
after_close_spelled (Relation r ∷ ts) rest e = absurd (none-some _ e)
after_close_spelled (Fixed j ∷ ts) rest e = absurd (none-some _ e)

pub name_first_spelled : (ts : List Sign) (n : Written) (rest : List Sign) → name_first ts ≡ Some (n, rest) → ts ≡ Name n ∷ rest
name_first_spelled [] n rest e = absurd (none-some _ e)
name_first_spelled (Number f m ∷ ts) n rest e = absurd (none-some _ e)
name_first_spelled (Name m ∷ ts) n rest e = ap (λ (p : Written × List Sign). Name p.0 ∷ p.1) (same_Some _ _ e)
name_first_spelled (Open f ∷ ts) n rest e = absurd (none-some _ e)
name_first_spelled (Close ∷ ts) n rest e = absurd (none-some _ e)
name_first_spelled (Operator o ∷ ts) n rest e = absurd (none-some _ e)
name_first_spelled (Inverse ∷ ts) n rest e = absurd (none-some _ e)
name_first_spelled (Relation r ∷ ts) n rest e = absurd (none-some _ e)
name_first_spelled (Fixed j ∷ ts) n rest e = absurd (none-some _ e)

-- what is left of the tokens, one further on
pub passed : (ts : List Token) (n : ℕ) → signs (drop (n + 1) ts) ≡ drop 1 (signs (drop n ts))
passed ts n = ap signs (sym (drop-drop 1 n ts)) ∙ sym (drop-map seen 1 (drop n ts))
