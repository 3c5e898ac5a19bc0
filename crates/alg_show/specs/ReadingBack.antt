-- What it is for a text to read back as a statement.
use Rattle.std.specs.Prelude.{◌≡◌, ℕ, ◌<◌, List, [], ◌∷◌, length, true, false, None, ⊤}
use Rattle.std.specs.Str.{chars, IsUtf8}
use Rattle.alg_terms.specs.Tree.{Statement}
use Rattle.alg_lex.specs.Tokens.{is_name, is_word}
use Rattle.alg_lex.specs.Items.{items_from, beginning}
use Rattle.alg_law.specs.Declarations.{Declaration, Carrier, Instance, Variable, Function, Hypothesis}
use Rattle.alg_commands.specs.Items.{first_fault, signs_of}
use Rattle.alg_syntax.specs.Commands.{spell_statement, FitsStatement}
use Rattle.alg_names.specs.declared.scope.Scope.{Scope}
use Rattle.alg_names.specs.BuiltIn.{built_in}
use Rattle.alg_names.specs.Entering.{enter, entered, IsFresh}
use Rattle.alg_elaborate.specs.Statements.{statement_faults, typed_statement}
use Rattle.alg_show.specs.Shown.{shown_statement}

-- what the lexer takes for a name: its characters are one, and it is no word of the notation
pub record IsNamed (text : List ℕ) : Type 0 where
  pub utf8 : IsUtf8 text
  pub name : is_name (chars text) ≡ true
  pub free : is_word text ≡ false

-- the declaration's name is a name of the notation, and a function has arguments
abbrev pub IsWritable : Declaration → Type 0
IsWritable (Carrier n) = IsNamed n
IsWritable (Instance k c) = ⊤
IsWritable (Variable n s) = IsNamed n
IsWritable (Function n ss s) = IsNamed n × (0 < length ss)
IsWritable (Hypothesis n h) = IsNamed n

-- each name was not in force when it was declared
abbrev pub AllNew : Scope → List Declaration → Type 0
AllNew s [] = ⊤
AllNew s (d ∷ ds) = IsFresh s d × AllNew (enter s d) ds

abbrev pub AllWritable : List Declaration → Type 0
AllWritable [] = ⊤
AllWritable (d ∷ ds) = IsWritable d × AllWritable ds

-- what is in force before anything is declared
abbrev pub at_first : Scope
at_first = record { names = built_in; granted = []; declared = 0; hypotheses = 0 }

-- and with these declarations
abbrev pub in_force : List Declaration → Scope
in_force ds = entered at_first ds

-- the declarations can be written as binders of a file, one after another
pub record AreDeclarable (ds : List Declaration) : Type 0 where
  pub writable : AllWritable ds
  pub new : AllNew at_first ds

-- The tokens of the text are those of what is shown, which stands in the grammar; read in the scope of the declarations
-- it has no fault, and is the statement.
pub record ReadsBack (ds : List Declaration) (s : Statement) (text : List ℕ) : Type 0 where
  pub faults : first_fault (items_from beginning (chars text)) ≡ None
  pub tokens : signs_of (items_from beginning (chars text)) ≡ spell_statement (shown_statement ds s)
  pub fits : FitsStatement (shown_statement ds s)
  pub faultless : statement_faults (in_force ds) (shown_statement ds s) ≡ []
  pub meant : typed_statement (in_force ds) (shown_statement ds s) ≡ s
