-- What a complaint adds.
use Rattle.std.specs.Prelude.{◌≡◌, ◌⊎◌, ℕ, List, Option}
use Rattle.std.specs.Option.{option_map}
use Rattle.alg_host.specs.Host.{Told, IsPrefix, HasRisen, adds_complained}

-- this part of a line was complained: all of it, unless the count of failed complaints has risen
pub record Complains (line : List ℕ) (before now : ℕ) (part : List ℕ) : Type 0 where
  pub is_part : IsPrefix part line
  pub whole : (part ≡ line) ⊎ HasRisen before now

-- and nothing else was done
pub record Complaint (line : List ℕ) (before now : ℕ) (old new : Option Told) : Type 0 where
  pub part : List ℕ
  pub complains : Complains line before now part
  pub told : new ≡ option_map (adds_complained part) old
