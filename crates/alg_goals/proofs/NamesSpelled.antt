-- The names of the binders of a command that was read are names of the notation.
use Rattle.std.proofs.Common.{ℕ, List, [], ◌∷◌, ◌++◌, map, Bool, true, false, Option, Some, None, Ok, subst, cond}
use Rattle.std.specs.Prelude.{⊤, codes}
use Rattle.std.specs.Str.{bytes_eq}
use Rattle.alg_lex.specs.declared.Kind.{Kind}
use Rattle.alg_lex.specs.declared.Kind.TheVariants as kind
use Rattle.alg_lex.specs.Items.{Place, Item, token, fault}
use Rattle.alg_syntax.specs.Written.{Written}
use Rattle.alg_syntax.specs.declared.signs.Operator as operator
use Rattle.alg_syntax.specs.declared.signs.Relation as relation
use Rattle.alg_syntax.specs.declared.signs.Fixed.TheVariants.{Colon}
use Rattle.alg_syntax.specs.declared.signs.Sign.{Sign}
use Rattle.alg_syntax.specs.declared.signs.Sign.TheVariants.{Number, Name, Open, Close, Operator, Inverse, Relation, Fixed}
use Rattle.alg_syntax.specs.declared.binders.Typed.{Typed}
use Rattle.alg_syntax.specs.declared.binders.Binder.{Binder}
use Rattle.alg_syntax.specs.declared.binders.Binder.TheVariants as binder
use Rattle.alg_syntax.specs.declared.commands.Goal.{Goal}
use Rattle.alg_syntax.specs.declared.commands.Command.{Command}
use Rattle.alg_syntax.specs.declared.commands.Command.TheVariants as command
use Rattle.alg_syntax.specs.Signs.{found_in, relations, operators, punctuation, fixed_of, relation_or, operator_or, sign_of_punctuation, sign_of_mark, sign_of}
use Rattle.alg_syntax.specs.Spelling.{spell_all}
use Rattle.alg_syntax.specs.Commands.{spell_names, spell_domain, spell_typed, spell_binder, spell_goal, spell_command}
use Rattle.alg_commands.specs.Items.{signs_of}
use Rattle.alg_commands.specs.Outcome.{IsOutcome}
use Rattle.alg_binders.specs.Binders.{text_of, names_of}
use Rattle.alg_show.specs.ReadingBack.{IsNamed}
use Rattle.alg_goals.proofs.NamesRead.{IsNamedItem, AllNamed}

abbrev IsNamedSign : Sign → Type 0
IsNamedSign (Number f n) = ⊤
IsNamedSign (Name n) = IsNamed n.text
IsNamedSign (Open f) = ⊤
IsNamedSign Close = ⊤
IsNamedSign (Operator o) = ⊤
IsNamedSign Inverse = ⊤
IsNamedSign (Relation r) = ⊤
IsNamedSign (Fixed k) = ⊤

abbrev SignsNamed : List Sign → Type 0
SignsNamed [] = ⊤
SignsNamed (t ∷ ts) = IsNamedSign t × SignsNamed ts

abbrev pub TextsNamed : List (List ℕ) → Type 0
TextsNamed [] = ⊤
TextsNamed (x ∷ xs) = IsNamed x × TextsNamed xs

-- the names that a binder declares
abbrev pub BinderNamed : Binder → Type 0
BinderNamed (binder.Explicit f t) = TextsNamed (names_of t)
BinderNamed (binder.Implicit t) = TextsNamed (names_of t)
BinderNamed (binder.Instance c w) = ⊤

abbrev pub BindersNamed : List Binder → Type 0
BindersNamed [] = ⊤
BindersNamed (b ∷ bs) = BinderNamed b × BindersNamed bs

abbrev pub CommandNamed : Command → Type 0
CommandNamed (command.Import n) = ⊤
CommandNamed (command.Variable bs) = BindersNamed bs
CommandNamed (command.Theorem n g) = BindersNamed g.binders
CommandNamed (command.Example g) = BindersNamed g.binders

-- from tokens to signs

cond_named : (b : Bool) (s t : Sign) → IsNamedSign s → IsNamedSign t → IsNamedSign (cond b s t)
cond_named true s t h i = h
cond_named false s t h i = i

relation_named : (o : Option relation.Relation) (s : Sign) → IsNamedSign s → IsNamedSign (relation_or o s)
relation_named (Some r) s h = tt
relation_named None s h = h

operator_named : (o : Option operator.Operator) (s : Sign) → IsNamedSign s → IsNamedSign (operator_or o s)
operator_named (Some o) s h = tt
operator_named None s h = h

mark_named : (f : Bool) (text : List ℕ) → IsNamedSign (sign_of_mark f text)
mark_named f text =
    let last : Sign = relation_or (found_in relations text) (fixed_of (found_in punctuation text)) in
    let inverse : Sign = cond (bytes_eq text (0xE2 ∷ 0x81 ∷ 0xBB ∷ 0xC2 ∷ 0xB9 ∷ [])) Inverse last in
    let close : Sign = cond (bytes_eq text (codes ")")) Close inverse in
    operator_named (found_in operators text) (sign_of_punctuation f text)
    (cond_named (bytes_eq text (codes "(")) (Open f) close tt
    (cond_named (bytes_eq text (codes ")")) Close inverse tt
    (cond_named (bytes_eq text (0xE2 ∷ 0x81 ∷ 0xBB ∷ 0xC2 ∷ 0xB9 ∷ [])) Inverse last tt
    (relation_named (found_in relations text) (fixed_of (found_in punctuation text)) tt))))

sign_named : (k : Kind) (text : List ℕ) (p : Place) → IsNamedItem (token k text p) → IsNamedSign (sign_of k p.fresh text)
sign_named (kind.Literal n) text p h = tt
sign_named kind.Name text p h = h
sign_named kind.Word text p h = tt
sign_named kind.Mark text p h = mark_named p.fresh text

signs_named : (items : List Item) → AllNamed items → SignsNamed (signs_of items)
signs_named [] h = tt
signs_named (token k text p ∷ items) h = (sign_named k text p h.0, signs_named items h.1)
signs_named (fault cause ∷ items) h = signs_named items h.1

-- from signs to what they spell

named_parts : (xs ys : List Sign) → SignsNamed (xs ++ ys) → SignsNamed xs × SignsNamed ys
named_parts [] ys h = (tt, h)
named_parts (x ∷ xs) ys h = let both = named_parts xs ys h.1 in ((h.0, both.0), both.1)

names_named : (ws : List Written) → SignsNamed (spell_names ws) → TextsNamed (map text_of ws)
names_named [] h = tt
names_named (w ∷ ws) h = (h.0, names_named ws h.1)

typed_named : (t : Typed) (rest : List Sign) → SignsNamed (spell_typed t ++ rest) → TextsNamed (names_of t)
typed_named t rest h =
    let typed = (named_parts (spell_typed t) rest h).0 in
    (typed.0, names_named t.more (named_parts (spell_names t.more) (Fixed Colon ∷ spell_domain t.domain) typed.1).0)

binder_named : (b : Binder) → SignsNamed (spell_binder b) → BinderNamed b
binder_named (binder.Explicit f t) h = typed_named t _ h.1
binder_named (binder.Implicit t) h = typed_named t _ h.1
binder_named (binder.Instance c w) h = tt

binders_named : (bs : List Binder) → SignsNamed (spell_all spell_binder bs) → BindersNamed bs
binders_named [] h = tt
binders_named (b ∷ bs) h =
    let both = named_parts (spell_binder b) (spell_all spell_binder bs) h in
    (binder_named b both.0, binders_named bs both.1)

goal_named : (g : Goal) → SignsNamed (spell_goal g) → BindersNamed g.binders
goal_named g h = binders_named g.binders (named_parts (spell_all spell_binder g.binders) _ h).0

command_named : (c : Command) → SignsNamed (spell_command c) → CommandNamed c
command_named (command.Import n) h = tt
command_named (command.Variable bs) h = binders_named bs h.1
command_named (command.Theorem n g) h = goal_named g h.1.1
command_named (command.Example g) h = goal_named g h.1

-- a command that was read of such tokens
pub read_named : (items : List Item) (c : Command) → AllNamed items → IsOutcome items (Ok c) → CommandNamed c
read_named items c h o = command_named c (subst SignsNamed o.1.1.0 (signs_named items h))
