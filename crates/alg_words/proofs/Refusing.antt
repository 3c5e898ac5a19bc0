-- What the command refuses asks for nothing.
use Rattle.std.proofs.Common.{◌≡◌, List, [], ◌∷◌, refl}
use Rattle.clap.specs.Kinds.{Kinds}
use Rattle.clap.specs.Words.{Text}
use Rattle.alg_words.specs.Words.{IsRefused}
use Rattle.alg_words.specs.Jobs.{Job, Usage, job_unless, job_of}

unless : (ks : Kinds) (job : Job) → (ks ≡ [] → ⊥) → Usage ≡ job_unless ks job
unless [] job h = absurd (h refl)
unless (k ∷ ks) job h = refl

pub asks_nothing : (words : List Text) → IsRefused words → Usage ≡ job_of words
asks_nothing words h = unless _ _ h
