-- What a declaration puts in force.
use Rattle.std.specs.Prelude.{◌≡◌, ℕ, suc, List, [], ◌∷◌, ◌++◌, length, take, ⊤, None}
use Rattle.alg_terms.specs.declared.sorts.Sort.TheVariants.{Decl}
use Rattle.alg_terms.specs.declared.symbols.Sym.TheVariants.{Apply}
use Rattle.alg_law.specs.Declarations.{Declaration, Carrier, Instance, Variable, Function, Hypothesis}
use Rattle.alg_names.specs.declared.meanings.Meaning.{Meaning}
use Rattle.alg_names.specs.declared.meanings.Meaning.TheVariants as meaning
use Rattle.alg_names.specs.declared.scope.Checkpoint.{Checkpoint}
use Rattle.alg_names.specs.declared.scope.Scope.{Scope}
use Rattle.alg_names.specs.Found.{found}

-- the name, which stands for this
abbrev pub with_name : Scope → List ℕ → Meaning → Scope
with_name s n m = record { names = s.names ++ (n, m) ∷ []; granted = s.granted; declared = suc s.declared; hypotheses = s.hypotheses }

-- the scope after a declaration
abbrev pub enter : Scope → Declaration → Scope
enter s (Carrier n) = with_name s n (meaning.SortName (Decl s.declared))
enter s (Instance k c) = record { names = s.names; granted = s.granted ++ record { sort = k; class = c } ∷ []; declared = suc s.declared; hypotheses = s.hypotheses }
enter s (Variable n l) = with_name s n (meaning.Variable s.declared l)
enter s (Function n ls l) = with_name s n (meaning.Function (Apply s.declared) ls l)
enter s (Hypothesis n h) = record { names = s.names ++ (n, meaning.Hypothesis (suc s.hypotheses) h.rel h.sort) ∷ []; granted = s.granted; declared = suc s.declared; hypotheses = suc s.hypotheses }

-- the scope after declarations
abbrev pub entered : Scope → List Declaration → Scope
entered s [] = s
entered s (d ∷ ds) = entered (enter s d) ds

-- the name of the declaration isn't in force
abbrev pub IsFresh : Scope → Declaration → Type 0
IsFresh s (Carrier n) = found s.names n ≡ None
IsFresh s (Instance k c) = ⊤
IsFresh s (Variable n l) = found s.names n ≡ None
IsFresh s (Function n ls l) = found s.names n ≡ None
IsFresh s (Hypothesis n h) = found s.names n ≡ None

-- how much is in force
abbrev pub checkpoint_of : Scope → Checkpoint
checkpoint_of s = record { names = length s.names; granted = length s.granted; declared = s.declared; hypotheses = s.hypotheses }

-- as much in force as the checkpoint says
abbrev pub cut_to : Scope → Checkpoint → Scope
cut_to s m = record { names = take m.names s.names; granted = take m.granted s.granted; declared = m.declared; hypotheses = m.hypotheses }
