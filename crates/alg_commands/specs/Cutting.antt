-- How a file is cut into commands.
use Rattle.std.specs.Prelude.{ℕ, List, [], ◌∷◌, Bool, false, if◌then◌else◌, codes}
use Rattle.std.specs.Str.{bytes_eq}
use Rattle.std.specs.List.{list_any}
use Rattle.alg_lex.specs.declared.Kind.TheVariants.{Literal, Name, Word, Mark}
use Rattle.alg_lex.specs.Items.{Item, token, fault}

abbrev pub command_words : List (List ℕ)
command_words = codes "import" ∷ codes "variable" ∷ codes "theorem" ∷ codes "lemma" ∷ codes "example" ∷ []

-- whether the item is a word that begins a command
abbrev pub begins : Item → Bool
begins (token (Literal value) text p) = false
begins (token Name text p) = false
begins (token Word text p) = list_any (bytes_eq text) command_words
begins (token Mark text p) = false
begins (fault cause) = false

-- whether the items begin with such a word
abbrev pub is_begun : List Item → Bool
is_begun [] = false
is_begun (item ∷ items) = begins item

-- An item before the commands: it belongs to the first of them, unless that one has a word that begins it.
abbrev pub ahead_of : Item → List (List Item) → List (List Item)
ahead_of item [] = (item ∷ []) ∷ []
ahead_of item (first ∷ more) = if is_begun first then (item ∷ []) ∷ (first ∷ more) else (item ∷ first) ∷ more

-- The commands of a file, each as its items.
abbrev pub commands_of : List Item → List (List Item)
commands_of [] = []
commands_of (item ∷ items) = ahead_of item (commands_of items)
