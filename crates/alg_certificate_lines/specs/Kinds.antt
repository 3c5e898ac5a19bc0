-- The fourteen kinds of proof lines, by the word that a line begins with.
use Rattle.std.specs.Prelude.{◌≡◌, ℕ, List, Option, Some, None, codes, if◌then◌else◌}
use Rattle.alg_certificate.specs.Tokens.{first_word}
use Rattle.alg_certificate.specs.Words.{is_word_of}
use Rattle.alg_certificate.specs.Spelling.{HasSpelling, items_of, spell_items, bytes}
use Rattle.alg_proof.specs.Steps.{Step, Refl, Symm, Trans, Cong, Subst, Law, Lemma, Hyp, Rest, LitAdd, LitMul, LitRel, Bridge, Compute}
use Rattle.alg_certificate_lines.specs.declared.kinds.Kind.{Kind}
use Rattle.alg_certificate_lines.specs.declared.kinds.Kind.TheVariants as kind

abbrev pub kind_of : Step → Kind
kind_of (Refl t) = kind.Refl
kind_of (Symm i) = kind.Symm
kind_of (Trans i j) = kind.Trans
kind_of (Cong f is) = kind.Cong
kind_of (Subst i j k) = kind.Subst
kind_of (Law n s ts is) = kind.Law
kind_of (Lemma n s ts is) = kind.Lemma
kind_of (Hyp n) = kind.Hyp
kind_of Rest = kind.Rest
kind_of (LitAdd s m n) = kind.LitAdd
kind_of (LitMul s m n) = kind.LitMul
kind_of (LitRel r s m n) = kind.LitRel
kind_of (Bridge b n t) = kind.Bridge
kind_of (Compute h s xs) = kind.Compute

abbrev pub or_kind : Option Kind → Option Kind → Option Kind
or_kind None o = o
or_kind (Some k) o = Some k

abbrev pub equality_kind : List ℕ → Option Kind
equality_kind w =
    if is_word_of (codes "refl") w then Some kind.Refl
    else (if is_word_of (codes "symm") w then Some kind.Symm
    else (if is_word_of (codes "trans") w then Some kind.Trans
    else (if is_word_of (codes "cong") w then Some kind.Cong
    else (if is_word_of (codes "subst") w then Some kind.Subst else None))))

abbrev pub source_kind : List ℕ → Option Kind
source_kind w =
    if is_word_of (codes "law") w then Some kind.Law
    else (if is_word_of (codes "lemma") w then Some kind.Lemma
    else (if is_word_of (codes "hyp") w then Some kind.Hyp
    else (if is_word_of (codes "rest") w then Some kind.Rest else None)))

abbrev pub literal_kind : List ℕ → Option Kind
literal_kind w =
    if is_word_of (codes "add") w then Some kind.LitAdd
    else (if is_word_of (codes "mul") w then Some kind.LitMul
    else (if is_word_of (codes "rel") w then Some kind.LitRel
    else (if is_word_of (codes "bridge") w then Some kind.Bridge
    else (if is_word_of (codes "compute") w then Some kind.Compute else None))))

abbrev pub kind_named : List ℕ → Option Kind
kind_named w = or_kind (equality_kind w) (or_kind (source_kind w) (literal_kind w))

-- the kind of a line, and what follows its first word
abbrev pub with_kind : Option Kind → List ℕ → Option (Kind × List ℕ)
with_kind None rest = None
with_kind (Some k) rest = Some (k, rest)

abbrev pub behind_first : Option (List ℕ × List ℕ) → Option (Kind × List ℕ)
behind_first None = None
behind_first (Some x) = with_kind (kind_named x.0) x.1

abbrev pub head_cut : List ℕ → Option (Kind × List ℕ)
head_cut text = behind_first (first_word text)

-- the steps of a kind whose items the text spells
pub record Spells (k : Kind) (text : List ℕ) (l : Step) : Type 0 where
  pub fits : HasSpelling l
  pub same : kind_of l ≡ k
  pub items : bytes (spell_items (items_of l)) ≡ text
