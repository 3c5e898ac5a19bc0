-- What is kept of a command is read as all of it.
use Rattle.std.proofs.Common.{◌≡◌, List, length, take, Bool, true, false, ◌||◌, refl, sym, subst, ap, ◌∙◌, arith}
use Rattle.std.specs.Prelude.{ℕ, nat_lt, Some, None, ◌∷◌, Result, Ok, Err}
use Rattle.std.proofs.lemmas.List.{take_all}
use Rattle.std.proofs.lemmas.Bool.{ltb-false, or_parts}
use Rattle.alg_syntax.specs.declared.signs.Sign.{Sign}
use Rattle.alg_syntax.specs.declared.commands.Command.{Command}
use Rattle.alg_syntax.specs.declared.commands.Unread.{Unread}
use Rattle.alg_syntax.specs.declared.commands.Unread.TheVariants.{TooDeep, Syntax}
use Rattle.alg_syntax.specs.Limits.{is_deep, too_deep}
use Rattle.alg_syntax.specs.Answers.{Answers}
use Rattle.alg_lex.specs.declared.Token.{Token}
use Rattle.alg_lex.specs.Items.{Item}
use Rattle.alg_syntax.specs.Signs.{signs}
use Rattle.alg_lex.specs.declared.LexFault.{LexFault}
use Rattle.alg_commands.specs.declared.pieces.Piece.{Piece}
use Rattle.alg_commands.specs.declared.readings.Unreadable.{Unreadable}
use Rattle.alg_commands.specs.declared.readings.Unreadable.TheVariants as cause
use Rattle.alg_commands.specs.declared.readings.Reading.{Reading}
use Rattle.alg_commands.specs.Outcome.{IsOutcome, IsReading, Gives}
use Rattle.alg_commands.specs.Items.{first_fault, signs_of}
use Rattle.alg_commands.specs.Pieces.{Keeps}
use Rattle.alg_commands.proofs.Kept.{all_kept}

-- what isn't too deep is whole
whole : (kept all : List Sign) → kept ≡ take 4097 all → too_deep kept ≡ false → kept ≡ all
whole kept all e h = all_kept 4097 kept all e (let l = ltb-false _ _ (or_parts (nat_lt 4096 (length kept)) (is_deep 0 kept) h).0 in omega arith)

deeper : (kept all : List Sign) → kept ≡ take 4097 all → too_deep kept ≡ true → too_deep all ≡ true
deeper kept all e h = go (nat_lt 4096 (length all)) refl
  where
    go : (b : Bool) → nat_lt 4096 (length all) ≡ b → too_deep all ≡ true
    go true long = ap (λ b. b || is_deep 0 all) long
    go false short = let l = ltb-false _ _ short in ap too_deep (sym (e ∙ take_all 4097 all (omega arith))) ∙ h

pub Answers-kept : (kept all : List Sign) (r : Result Command Unread) → kept ≡ take 4097 all → Answers kept r → Answers all r
Answers-kept kept all (Ok c) e a = subst (λ (ts : List Sign). Answers ts (Ok c)) (whole kept all e a.0) a
Answers-kept kept all (Err TooDeep) e a = deeper kept all e a
Answers-kept kept all (Err Syntax) e a = subst (λ (ts : List Sign). Answers ts (Err Syntax)) (whole kept all e a.0) a

pub reads : (items : List Item) (p : Piece) (ts : List Token) (r s : Result Command Unread) → Keeps items p → p.fault ≡ None → ts ≡ p.tokens.items → Answers (signs ts) r → r ≡ s
    → (first_fault items ≡ None) × Answers (signs_of items) s
reads items p ts r s k f t a e = (sym k.fault ∙ f, subst (λ (x : Result Command Unread). Answers (signs_of items) x) e (Answers-kept (signs ts) (signs_of items) r (ap signs t ∙ k.tokens) a))

as_deep : (kept all : List Sign) → kept ≡ take 4097 all → too_deep all ≡ true → too_deep kept ≡ true
as_deep kept all e h = go (nat_lt 4096 (length kept)) refl
  where
    go : (b : Bool) → nat_lt 4096 (length kept) ≡ b → too_deep kept ≡ true
    go true long = ap (λ b. b || is_deep 0 kept) long
    go false short = let l = ltb-false _ _ short in ap too_deep (all_kept 4097 kept all e (omega arith)) ∙ h

kept_whole : (kept all : List Sign) → kept ≡ take 4097 all → too_deep all ≡ false → kept ≡ all
kept_whole kept all e h = let l = ltb-false _ _ (or_parts (nat_lt 4096 (length all)) (is_deep 0 all) h).0 in e ∙ take_all 4097 all (omega arith)

Answers-all : (kept all : List Sign) (r : Result Command Unread) → kept ≡ take 4097 all → Answers all r → Answers kept r
Answers-all kept all (Ok c) e a = subst (λ (ts : List Sign). Answers ts (Ok c)) (sym (kept_whole kept all e a.0)) a
Answers-all kept all (Err TooDeep) e a = as_deep kept all e a
Answers-all kept all (Err Syntax) e a = subst (λ (ts : List Sign). Answers ts (Err Syntax)) (sym (kept_whole kept all e a.0)) a

-- the causes of what has no fault
abbrev pub widened : Result Command Unread → Result Command Unreadable
widened (Ok c) = Ok c
widened (Err TooDeep) = Err cause.TooDeep
widened (Err Syntax) = Err cause.Syntax

-- where there is no fault, the reader's answer is the only outcome
pub only_outcome : (items : List Item) (p : Piece) (ts : List Token) (t : Result Command Unread) (s : Result Command Unreadable) → Keeps items p → p.fault ≡ None → ts ≡ p.tokens.items
    → ((r : Result Command Unread) → Answers (signs ts) r → r ≡ t) → IsOutcome items s → s ≡ widened t
only_outcome items p ts t (Ok c) k f e only a = ap widened (only (Ok c) (Answers-all (signs ts) (signs_of items) (Ok c) (ap signs e ∙ k.tokens) a.1))
only_outcome items p ts t (Err (cause.Fault first)) k f e only a = let g : None ≡ Some first = sym f ∙ (k.fault ∙ a) in cc
only_outcome items p ts t (Err cause.TooDeep) k f e only a = ap widened (only (Err TooDeep) (Answers-all (signs ts) (signs_of items) (Err TooDeep) (ap signs e ∙ k.tokens) a.1))
only_outcome items p ts t (Err cause.Syntax) k f e only a = ap widened (only (Err Syntax) (Answers-all (signs ts) (signs_of items) (Err Syntax) (ap signs e ∙ k.tokens) a.1))

-- and a fault is the only outcome where there is one
pub only_fault : (items : List Item) (p : Piece) (first : LexFault) (s : Result Command Unreadable) → Keeps items p → p.fault ≡ Some first → IsOutcome items s → s ≡ Err (cause.Fault first)
only_fault items p first (Ok c) k f a = let g : None ≡ Some first = sym a.0 ∙ (sym k.fault ∙ f) in cc
only_fault items p first (Err (cause.Fault other)) k f a = let g : Some other ≡ Some first = sym a ∙ (sym k.fault ∙ f) in cc
only_fault items p first (Err cause.TooDeep) k f a = let g : None ≡ Some first = sym a.0 ∙ (sym k.fault ∙ f) in cc
only_fault items p first (Err cause.Syntax) k f a = let g : None ≡ Some first = sym a.0 ∙ (sym k.fault ∙ f) in cc

pub same_reading : (s r : Reading) → s.line ≡ r.line → s.command ≡ r.command → s ≡ r
same_reading s r l c =
    let f : ℕ → Reading = λ n. record { line = n; command = s.command } in
    let g : Result Command Unreadable → Reading = λ x. record { line = r.line; command = x } in
    ap f l ∙ ap g c

pub only_reading : (items : List Item) (p : Piece) (r s : Reading) → Keeps items p → r.line ≡ p.line
    → ((x : Result Command Unreadable) → IsOutcome items x → x ≡ r.command) → IsReading items s → s ≡ r
only_reading items p r s k l only h = same_reading s r (h.line ∙ (sym k.line ∙ sym l)) (only s.command h.outcome)

pub only_given : (all : List (List Item)) (items : List Item) (more : List (List Item)) (r s : Reading) (left : List (List Item)) → all ≡ items ∷ more
    → ((x : Reading) → IsReading items x → x ≡ r) → Gives all s left → Some r ≡ Some s
only_given all items more r s left e only h = let g : Gives (items ∷ more) s left = subst (λ (cs : List (List Item)). Gives cs s left) e h in ap (λ (x : Reading). Some x) (sym (only s g.0))
