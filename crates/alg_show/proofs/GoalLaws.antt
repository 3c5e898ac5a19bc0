-- A goal with what is shown as its statement is read.
use Rattle.std.proofs.Common.{◌≡◌, ℕ, List, [], ◌∷◌, ◌++◌, length, false, ◌||◌, nat_lt, refl, ap, sym, ◌∙◌, subst, arith, length-append}
use Rattle.std.specs.Prelude.{codes}
use Rattle.std.specs.Str.{IsUtf8}
use Rattle.std.proofs.lemmas.Bool.{or_parts, or_from, le-ltb}
use Rattle.unicode_ident.proofs.Computing.{unicode_ident}
use Rattle.alg_terms.specs.Tree as terms
use Rattle.alg_law.specs.Declarations.{Declaration}
use Rattle.alg_law.specs.Following.{IsWellFormed}
use Rattle.alg_law.specs.WellSorted.{IsStatement}
use Rattle.alg_syntax.specs.declared.signs.Sign.{Sign}
use Rattle.alg_syntax.specs.declared.signs.Sign.TheVariants.{Name, Fixed}
use Rattle.alg_syntax.specs.declared.signs.Fixed.TheVariants.{Colon, Assign, Example, By}
use Rattle.alg_syntax.specs.Commands.{spell_statement}
use Rattle.alg_syntax.specs.Limits.{depth_after, is_deep, too_deep}
use Rattle.alg_show.specs.Shown.{word, shown_statement}
use Rattle.alg_show.specs.Tasks.{AreSidesNarrow}
use Rattle.alg_show.specs.Text.{shown_text}
use Rattle.alg_show.specs.Goals.{as_goal, IsWithinLimits, IsReadAsGoal}
use Rattle.alg_show.specs.ReadingBack.{AreDeclarable, IsNamed}
use Rattle.alg_show.proofs.Passing.{Passes, both, blank, mark, keyword, name as name_passes}
use Rattle.alg_show.proofs.Named.{named_by}
use Rattle.alg_show.proofs.Written.{Ends, ends_blank, ends_nil, colon, all_signs}
use Rattle.alg_show.proofs.ReadingBackLaws.{passes_shown}

example_utf8 : IsUtf8 (codes "example")
unfolding lib.Utf8.encode
example_utf8 = (codes "example", (refl, refl))

by_utf8 : IsUtf8 (codes "by")
unfolding lib.Utf8.encode
by_utf8 = (codes "by", (refl, refl))

assign_utf8 : IsUtf8 (58 ∷ 61 ∷ [])
unfolding lib.Utf8.encode
assign_utf8 = (58 ∷ 61 ∷ [], (refl, refl))

example_passes : (rest : List ℕ) → Passes (codes "example") (Fixed Example ∷ []) (32 ∷ rest)
unfolding unicode_ident example_utf8
example_passes rest = keyword (codes "example") (32 ∷ rest) example_utf8 refl refl (ends_blank rest).dot (ends_blank rest).more

by_passes : (rest : List ℕ) → Passes (codes "by") (Fixed By ∷ []) (32 ∷ rest)
unfolding unicode_ident by_utf8
by_passes rest = keyword (codes "by") (32 ∷ rest) by_utf8 refl refl (ends_blank rest).dot (ends_blank rest).more

assign_passes : (rest : List ℕ) → Passes (58 ∷ 61 ∷ []) (Fixed Assign ∷ []) rest
unfolding unicode_ident assign_utf8
assign_passes rest = mark (58 ∷ 61 ∷ []) rest 58 (61 ∷ []) assign_utf8 refl refl refl refl refl

norm_num-named : IsNamed (codes "norm_num")
unfolding unicode_ident lib.Utf8.encode
norm_num-named = named_by (codes "norm_num") (codes "norm_num", (refl, refl)) refl refl

norm_num_passes : Passes (codes "norm_num") (Name (word (codes "norm_num")) ∷ []) []
norm_num_passes = name_passes (codes "norm_num") [] norm_num-named ends_nil.dot ends_nil.more

goal_passes : (t : List ℕ) (ls : List Sign) → ((rest : List ℕ) → Ends rest → Passes t ls rest) → Passes (as_goal t) (Fixed Example ∷ Fixed Colon ∷ (ls ++ Fixed Assign ∷ Fixed By ∷ Name (word (codes "norm_num")) ∷ [])) []
goal_passes t ls p =
    let end = Fixed Assign ∷ Fixed By ∷ Name (word (codes "norm_num")) ∷ [] in
    both (codes "example") _ (Fixed Example ∷ []) (Fixed Colon ∷ (ls ++ end)) [] (example_passes _)
    (both (32 ∷ []) _ [] (Fixed Colon ∷ (ls ++ end)) [] (blank _)
    (both (58 ∷ []) _ (Fixed Colon ∷ []) (ls ++ end) [] (colon _)
    (both (32 ∷ []) _ [] (ls ++ end) [] (blank _)
    (both t _ ls end [] (p _ (ends_blank _))
    (both (32 ∷ []) _ [] end [] (blank _)
    (both (58 ∷ 61 ∷ []) _ (Fixed Assign ∷ []) (Fixed By ∷ Name (word (codes "norm_num")) ∷ []) [] (assign_passes _)
    (both (32 ∷ []) _ [] (Fixed By ∷ Name (word (codes "norm_num")) ∷ []) [] (blank _)
    (both (codes "by") _ (Fixed By ∷ []) (Name (word (codes "norm_num")) ∷ []) [] (by_passes _)
    (both (32 ∷ []) (codes "norm_num") [] (Name (word (codes "norm_num")) ∷ []) [] (blank _) norm_num_passes)))))))))

deep_append : (xs ys : List Sign) (d : ℕ) → is_deep d xs ≡ false → ((e : ℕ) → nat_lt 256 e ≡ false → is_deep e ys ≡ false) → is_deep d (xs ++ ys) ≡ false
deep_append [] ys d h k = k d h
deep_append (x ∷ xs) ys d h k =
    let p = or_parts (nat_lt 256 d) (is_deep (depth_after d x) xs) h in
    or_from (nat_lt 256 d) (is_deep (depth_after d x) (xs ++ ys)) p.0 (deep_append xs ys (depth_after d x) p.1 k)

end_shallow : (e : ℕ) → nat_lt 256 e ≡ false → is_deep e (Fixed Assign ∷ Fixed By ∷ Name (word (codes "norm_num")) ∷ []) ≡ false
end_shallow e h = ap (λ b. b || (b || (b || b))) h

pub read_as_goal : (ds : List Declaration) (p : terms.Statement) (t : List ℕ) → IsWellFormed ds → IsStatement ds p → AreSidesNarrow ds p → t ≡ shown_text ds p → AreDeclarable ds → IsWithinLimits ds p → IsReadAsGoal ds p t
read_as_goal ds p t f h n e d l =
    let ls = spell_statement (shown_statement ds p) in
    let k = passes_shown ds p f h n d in
    let a = all_signs (as_goal (shown_text ds p)) _ (goal_passes (shown_text ds p) ls k.1) in
    let ts = Fixed Example ∷ Fixed Colon ∷ (ls ++ Fixed Assign ∷ Fixed By ∷ Name (word (codes "norm_num")) ∷ []) in
    let short : nat_lt 4096 (length ts) ≡ false = (let s = l.short in let j = length-append ls (Fixed Assign ∷ Fixed By ∷ Name (word (codes "norm_num")) ∷ []) in le-ltb 4096 (length ts) (omega arith)) in
    let limits : too_deep ts ≡ false = or_from (nat_lt 4096 (length ts)) (is_deep 0 ts) short (deep_append ls _ 0 l.shallow end_shallow) in
    subst (IsReadAsGoal ds p) (sym e) (a.0, (ap too_deep a.1 ∙ limits, (a.1, (tt, (k.0, (refl, tt))))))
