-- A command is cut off before the word that begins the next.
use Rattle.std.proofs.Common.{◌≡◌, List, [], ◌∷◌, ◌++◌, Bool, true, false, cond, refl, sym, ap, ◌∙◌, append_assoc}
use Rattle.std.proofs.lemmas.Bool.{cond-true, cond-false}
use Rattle.std.specs.Prelude.{Some, None, Result, Ok}
use Rattle.alg_lex.specs.declared.Token.{Token}
use Rattle.alg_lex.specs.declared.LexFault.{LexFault}
use Rattle.alg_lex.specs.Items.{Item}
use Rattle.alg_lex.specs.Answer.{seen, item_of}
use Rattle.alg_commands.specs.declared.pieces.Piece.{Piece}
use Rattle.alg_commands.specs.Pieces.{Keeps, Passes}
use Rattle.alg_commands.specs.Cutting.{begins, is_begun, ahead_of, commands_of}
use Rattle.alg_commands.specs.Cuts.{NoneBegins, AreBegun, AreCommands, joined, IsCut}

pub NoneBegins-push : (items : List Item) (item : Item) → NoneBegins items → begins item ≡ false → NoneBegins (items ++ item ∷ [])
NoneBegins-push [] item none h = (h, tt)
NoneBegins-push (x ∷ items) item none h = (none.0, NoneBegins-push items item none.1 h)

-- the items begin a command, where there are any
abbrev pub NextBegins : List Item → Type 0
NextBegins [] = Unit {0}
NextBegins (item ∷ items) = begins item ≡ true

either : (first item : Item) (c : List Item) (more : List (List Item)) → begins item ≡ true → (b : Bool)
    → ahead_of first (cond b ((item ∷ []) ∷ (c ∷ more)) ((item ∷ c) ∷ more)) ≡ (first ∷ []) ∷ cond b ((item ∷ []) ∷ (c ∷ more)) ((item ∷ c) ∷ more)
either first item c more h true = cond-true _ _ _ h
either first item c more h false = cond-true _ _ _ h

-- an item before commands that begin with a word is alone
alone : (first item : Item) (commands : List (List Item)) → begins item ≡ true → ahead_of first (ahead_of item commands) ≡ (first ∷ []) ∷ ahead_of item commands
alone first item [] h = cond-true _ _ _ h
alone first item (c ∷ more) h = either first item c more h (is_begun c)

pub cut_off : (first : Item) (items rest : List Item) → NoneBegins items → NextBegins rest
    → commands_of (first ∷ (items ++ rest)) ≡ (first ∷ items) ∷ commands_of rest
cut_off first [] [] none next = refl
cut_off first [] (item ∷ rest) none next = alone first item (commands_of rest) next
cut_off first (item ∷ items) rest none next = ap (ahead_of first) (cut_off item items rest none.1 next) ∙ cond-false _ _ _ none.0

begun_next : (commands : List (List Item)) → AreBegun commands → NextBegins (joined commands)
begun_next [] h = tt
begun_next ([] ∷ more) h = absurd h.1
begun_next ((item ∷ items) ∷ more) h = h.0

begun : (commands : List (List Item)) → AreBegun commands → commands_of (joined commands) ≡ commands
begun [] h = refl
begun ([] ∷ more) h = absurd h.1
begun ((item ∷ items) ∷ more) h = cut_off item items (joined more) h.1 (begun_next more h.2) ∙ ap (λ cs. (item ∷ items) ∷ cs) (begun more h.2)

joined_again : (commands : List (List Item)) → AreCommands commands → commands_of (joined commands) ≡ commands
joined_again [] h = refl
joined_again ([] ∷ more) h = absurd h.0
joined_again ((item ∷ items) ∷ more) h = cut_off item items (joined more) h.0 (begun_next more h.1) ∙ ap (λ cs. (item ∷ items) ∷ cs) (begun more h.1)

-- there is no other cut
pub only_cut : (items : List Item) (commands : List (List Item)) → IsCut items commands → commands ≡ commands_of items
only_cut items commands h = sym (ap commands_of h.all ∙ joined_again commands h.each)

cut_before : (item : Item) (items : List Item) (commands : List (List Item)) → IsCut items commands → IsCut (item ∷ items) (ahead_of item commands)
cut_before item items [] h = record { all = ap (λ xs. item ∷ xs) h.all; each = (tt, tt) }
cut_before item items ([] ∷ more) h = absurd h.each.0
cut_before item items ((first ∷ others) ∷ more) h = go (begins first) refl
  where
    go : (b : Bool) → begins first ≡ b → IsCut (item ∷ items) (cond b ((item ∷ []) ∷ ((first ∷ others) ∷ more)) ((item ∷ (first ∷ others)) ∷ more))
    go true e = record { all = ap (λ xs. item ∷ xs) h.all; each = (tt, (e, h.each.0, h.each.1)) }
    go false e = record { all = ap (λ xs. item ∷ xs) h.all; each = ((e, h.each.0), h.each.1) }

pub is_cut : (items : List Item) → IsCut items (commands_of items)
is_cut [] = record { all = refl; each = tt }
is_cut (item ∷ items) = cut_before item items (commands_of items) (is_cut items)

-- one more of the items was passed
pub further : (all now items left : List Item) (item : Item) → all ≡ items ++ now → now ≡ item ∷ left → all ≡ (items ++ item ∷ []) ++ left
further all now items left item a n = a ∙ (ap (λ xs. items ++ xs) n ∙ sym (append_assoc items (item ∷ []) left))

pub ends_at_word : (first : Item) (all now items left : List Item) (p : Piece) (item : Result Token LexFault) (t : Token) → all ≡ items ++ now → now ≡ item_of item ∷ left → item ≡ Ok t
    → begins (seen t) ≡ true → NoneBegins items → Keeps (first ∷ items) p → Passes (first ∷ all) p (Some t) left
ends_at_word first all now items left p item t a n i b none k = record {
  items = first ∷ items;
  cut = ap (λ xs. commands_of (first ∷ xs)) (a ∙ ap (λ xs. items ++ xs) (n ∙ ap (λ i. item_of i ∷ left) i)) ∙ cut_off first items (seen t ∷ left) none b;
  keeps = k;
}

pub ends_at_end : (first : Item) (all now items left : List Item) (p : Piece) → all ≡ items ++ now → now ≡ [] → left ≡ [] → NoneBegins items → Keeps (first ∷ items) p → Passes (first ∷ all) p None left
ends_at_end first all now items left p a n l none k = record {
  items = first ∷ items;
  cut = ap (λ xs. commands_of (first ∷ xs)) (a ∙ ap (λ xs. items ++ xs) n) ∙ (cut_off first items [] none tt ∙ ap (λ xs. (first ∷ items) ∷ commands_of xs) (sym l));
  keeps = k;
}
