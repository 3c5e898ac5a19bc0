-- The words that proof lines begin with.
use Rattle.std.proofs.Common.{◌≡◌, ℕ, Bool, true, false, List, ◌++◌, Some, None, codes, refl, subst, if◌then◌else◌}
use Rattle.std.proofs.lemmas.Option.{none-some}
use Rattle.alg_certificate.specs.declared.patterns.Part.{Part}
use Rattle.alg_certificate.specs.Cutting.{after}
use Rattle.alg_certificate.specs.Tokens.{is_some_word}
use Rattle.alg_certificate.specs.Words.{is_word_of}
use Rattle.alg_certificate.specs.Patterns.{Pattern, pattern_of, short_pattern, literal_pattern, row_pattern}
use Rattle.alg_certificate.proofs.NumberLaws.{some_is}
use Rattle.alg_certificate.proofs.WordLaws.{word_is}
use Rattle.alg_certificate.proofs.Walkable.{IsClear}

-- a word that begins a proof line, and its parts
pub record IsFirst (w : List ℕ) (ps : List Part) : Type 0 where
  pub word : is_some_word w ≡ true
  pub no_goal : (rest : List ℕ) → after (codes "goal ") (w ++ rest) ≡ None
  pub no_end : (rest : List ℕ) → is_word_of (codes "end") (w ++ rest) ≡ false
  pub no_given : is_word_of (codes "given") w ≡ false
  pub clear : IsClear ps

known : (p w : List ℕ) (qs ps : List Part) (b : Bool) (o : Pattern) → is_word_of p w ≡ b → IsFirst p qs → (o ≡ Some ps → IsFirst w ps) → if◌then◌else◌ {A = Pattern} b (Some qs) o ≡ Some ps → IsFirst w ps
known p w qs ps true o d f g e = subst (λ x. IsFirst x ps) (word_is p w d) (subst (IsFirst p) (some_is qs ps e) f)
known p w qs ps false o d f g e = g e

row_first : (w : List ℕ) (ps : List Part) → row_pattern w ≡ Some ps → IsFirst w ps
row_first w ps e =
    known (codes "law") w _ ps _ _ refl (record { word = refl; no_goal = λ r. refl; no_end = λ r. refl; no_given = refl; clear = (refl, (tt, tt)) })
    (known (codes "lemma") w _ ps _ _ refl (record { word = refl; no_goal = λ r. refl; no_end = λ r. refl; no_given = refl; clear = (refl, (tt, tt)) })
    (λ h. absurd (none-some _ h))) e

literal_first : (w : List ℕ) (ps : List Part) → literal_pattern w ≡ Some ps → IsFirst w ps
literal_first w ps e =
    known (codes "add") w _ ps _ _ refl (record { word = refl; no_goal = λ r. refl; no_end = λ r. refl; no_given = refl; clear = tt })
    (known (codes "mul") w _ ps _ _ refl (record { word = refl; no_goal = λ r. refl; no_end = λ r. refl; no_given = refl; clear = tt })
    (known (codes "rel") w _ ps _ _ refl (record { word = refl; no_goal = λ r. refl; no_end = λ r. refl; no_given = refl; clear = tt })
    (known (codes "bridge") w _ ps _ _ refl (record { word = refl; no_goal = λ r. refl; no_end = λ r. refl; no_given = refl; clear = tt })
    (known (codes "compute") w _ ps _ _ refl (record { word = refl; no_goal = λ r. refl; no_end = λ r. refl; no_given = refl; clear = (tt, tt) })
    (row_first w ps))))) e

short_first : (w : List ℕ) (ps : List Part) → short_pattern w ≡ Some ps → IsFirst w ps
short_first w ps e =
    known (codes "refl") w _ ps _ _ refl (record { word = refl; no_goal = λ r. refl; no_end = λ r. refl; no_given = refl; clear = tt })
    (known (codes "hyp") w _ ps _ _ refl (record { word = refl; no_goal = λ r. refl; no_end = λ r. refl; no_given = refl; clear = tt })
    (known (codes "rest") w _ ps _ _ refl (record { word = refl; no_goal = λ r. refl; no_end = λ r. refl; no_given = refl; clear = tt })
    (literal_first w ps))) e

pub is_first : (w : List ℕ) (ps : List Part) → pattern_of w ≡ Some ps → IsFirst w ps
is_first w ps e =
    known (codes "symm") w _ ps _ _ refl (record { word = refl; no_goal = λ r. refl; no_end = λ r. refl; no_given = refl; clear = tt })
    (known (codes "trans") w _ ps _ _ refl (record { word = refl; no_goal = λ r. refl; no_end = λ r. refl; no_given = refl; clear = tt })
    (known (codes "subst") w _ ps _ _ refl (record { word = refl; no_goal = λ r. refl; no_end = λ r. refl; no_given = refl; clear = tt })
    (known (codes "cong") w _ ps _ _ refl (record { word = refl; no_goal = λ r. refl; no_end = λ r. refl; no_given = refl; clear = (tt, tt) })
    (short_first w ps)))) e
