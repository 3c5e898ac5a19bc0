-- The grammar of a certificate's lines: for each first word what stands after it.
use Rattle.std.specs.Prelude.{ℕ, List, [], ◌∷◌, Option, Some, None, codes, if◌then◌else◌}
use Rattle.alg_certificate.specs.declared.patterns.Slot.TheVariants as slot
use Rattle.alg_certificate.specs.declared.patterns.Part.{Part}
use Rattle.alg_certificate.specs.declared.patterns.Part.TheVariants.{One, Many}
use Rattle.alg_certificate.specs.Words.{is_word_of}

abbrev pub Pattern : Type 0
Pattern = Option (List Part)

abbrev pub given_pattern : List Part
given_pattern = One slot.Relation ∷ One slot.Sort ∷ One slot.Tree ∷ One slot.Tree ∷ []

abbrev pub row_of : List Part
row_of = One slot.Name ∷ One slot.Sort ∷ Many slot.Tree ∷ One slot.Semicolon ∷ Many slot.Number ∷ []

abbrev pub row_pattern : List ℕ → Pattern
row_pattern w = if is_word_of (codes "law") w then Some row_of else (if is_word_of (codes "lemma") w then Some row_of else None)

abbrev pub literal_pattern : List ℕ → Pattern
literal_pattern w =
    if is_word_of (codes "add") w then Some (One slot.Sort ∷ One slot.Number ∷ One slot.Number ∷ [])
    else (if is_word_of (codes "mul") w then Some (One slot.Sort ∷ One slot.Number ∷ One slot.Number ∷ [])
    else (if is_word_of (codes "rel") w then Some (One slot.Comparison ∷ One slot.Sort ∷ One slot.Number ∷ One slot.Number ∷ [])
    else (if is_word_of (codes "bridge") w then Some (One slot.Bridge ∷ One slot.Number ∷ One slot.Tree ∷ [])
    else (if is_word_of (codes "compute") w then Some (One slot.Head ∷ One slot.Sort ∷ One slot.Numeral ∷ Many slot.Numeral ∷ [])
    else row_pattern w))))

abbrev pub short_pattern : List ℕ → Pattern
short_pattern w =
    if is_word_of (codes "refl") w then Some (One slot.Tree ∷ [])
    else (if is_word_of (codes "hyp") w then Some (One slot.Number ∷ [])
    else (if is_word_of (codes "rest") w then Some []
    else literal_pattern w))

-- what stands after the first word of a proof line; none where no proof line begins with it
abbrev pub pattern_of : List ℕ → Pattern
pattern_of w =
    if is_word_of (codes "symm") w then Some (One slot.Number ∷ [])
    else (if is_word_of (codes "trans") w then Some (One slot.Number ∷ One slot.Number ∷ [])
    else (if is_word_of (codes "subst") w then Some (One slot.Number ∷ One slot.Number ∷ One slot.Number ∷ [])
    else (if is_word_of (codes "cong") w then Some (One slot.Symbol ∷ One slot.Number ∷ Many slot.Number ∷ [])
    else short_pattern w)))
