-- Entries as the reader gives them: with their texts, before anything is known of their steps.
use Rattle.std.specs.Prelude.{◌≡◌, ℕ, ◌<◌, Bool, true, false, List, [], ◌∷◌, ◌++◌, map, length, Option, Some, None, option_map}
use Rattle.std.specs.Borrow.{Bor}
use Rattle.alg_certificate.specs.Spelling.{step_bytes, given_bytes}
use Rattle.alg_certificate.specs.Reader.{Coming, TextLine, goal_line, given_line, proof_line, end_line}
use Rattle.alg_check.specs.Entries.{Entry}
use Rattle.alg_check.specs.declared.entries.Written.{Written}
use Rattle.alg_check.specs.declared.entries.Next.{Next}
use Rattle.alg_check.specs.declared.entries.Next.TheVariants as next

pub record Texts : Type 0 where
  pub number : ℕ
  pub given : Option (List ℕ)
  pub proof : List (List ℕ)

-- nothing was read of an entry
abbrev pub begun : ℕ → Texts
begun n = record { number = n; given = None; proof = [] }

abbrev pub with_line : TextLine → Texts → Texts
with_line (goal_line n) e = begun n
with_line (given_line t) e = record e { given = Some t }
with_line (proof_line t) e = record e { proof = e.proof ++ t ∷ [] }
with_line end_line e = e

abbrev pub is_end : TextLine → Bool
is_end (goal_line n) = false
is_end (given_line t) = false
is_end (proof_line t) = false
is_end end_line = true

-- the entries that end, behind what was read of the first of them
unfoldable pub texts_from : Texts → List TextLine → List Texts
texts_from e [] = []
texts_from e (goal_line n ∷ ls) = texts_from (with_line (goal_line n) e) ls
texts_from e (given_line t ∷ ls) = texts_from (with_line (given_line t) e) ls
texts_from e (proof_line t ∷ ls) = texts_from (with_line (proof_line t) e) ls
texts_from e (end_line ∷ ls) = e ∷ texts_from (begun 0) ls

abbrev pub texts_in : List TextLine → List Texts
texts_in ls = texts_from (begun 0) ls

-- the texts of the code
abbrev pub seen : List (Bor (List ℕ)) → List (List ℕ)
seen ts = map (λ t. t.now) ts

abbrev pub seen_given : Option (Bor (List ℕ)) → Option (List ℕ)
seen_given o = option_map (λ t. t.now) o

abbrev pub seen_entry : Written → Texts
seen_entry w = record { number = w.number; given = seen_given w.given; proof = seen w.proof.items }

-- the texts of an entry
abbrev pub texts_of : Entry → Texts
texts_of e = record { number = e.number; given = option_map given_bytes e.given; proof = map step_bytes e.steps }

-- what is read next: the first entry of those to come, or that there is none, and why
abbrev pub Gives : Coming → Coming → Next → Type 0
Gives old new (next.Entry w) = (texts_in old.lines ≡ seen_entry w ∷ texts_in new.lines) × (new.fault ≡ old.fault) × (length new.lines < length old.lines)
Gives old new next.Over = (texts_in old.lines ≡ []) × (old.fault ≡ None)
Gives old new (next.Bad f) = (texts_in old.lines ≡ []) × (old.fault ≡ Some f.offset)
