-- Applications, by their spine.
use Rattle.std.proofs.Common.{◌≡◌, suc, ◌+◌, refl, sym, ap, ◌∙◌, arith}
use Rattle.alg_syntax.specs.Expressions.{Tree, number, name, group, ascribed, minus, inverse, binary, apply}
use Rattle.alg_elaborate.specs.Raw.{Raws, none, more, count, meant, arguments, head_of}

pub count_arguments : (a : Tree) (us : Raws) → count (arguments a us) ≡ count us + count (arguments a none)
count_arguments (number f n) us = omega arith
count_arguments (name w) us = omega arith
count_arguments (group f a) us = omega arith
count_arguments (ascribed f a w) us = omega arith
count_arguments (minus a) us = omega arith
count_arguments (inverse a) us = omega arith
count_arguments (binary o a b) us = omega arith
count_arguments (apply a b) us = omega (arith, count_arguments a (more (meant b) us), count_arguments a (more (meant b) none))

pub count_apply : (t a b : Tree) → t ≡ apply a b → count (arguments t none) ≡ suc (count (arguments a none))
count_apply t a b e = ap (λ x. count (arguments x none)) e ∙ (count_arguments a (more (meant b) none) ∙ (omega arith))

pub head_apply : (t a b : Tree) → t ≡ apply a b → head_of t ≡ head_of a
head_apply t a b e = ap head_of e

-- the arguments before others
abbrev pub joined : Raws → Raws → Raws
joined none vs = vs
joined (more a us) vs = more a (joined us vs)

joined_assoc : (us vs ws : Raws) → joined (joined us vs) ws ≡ joined us (joined vs ws)
joined_assoc none vs ws = refl
joined_assoc (more a us) vs ws = ap (more a) (joined_assoc us vs ws)

pub arguments_joined : (a : Tree) (us : Raws) → arguments a us ≡ joined (arguments a none) us
arguments_joined (number f n) us = refl
arguments_joined (name w) us = refl
arguments_joined (group f a) us = refl
arguments_joined (ascribed f a w) us = refl
arguments_joined (minus a) us = refl
arguments_joined (inverse a) us = refl
arguments_joined (binary o a b) us = refl
arguments_joined (apply a b) us =
    arguments_joined a (more (meant b) us) ∙ (sym (joined_assoc (arguments a none) (more (meant b) none) us) ∙ ap (λ xs. joined xs us) (sym (arguments_joined a (more (meant b) none))))
