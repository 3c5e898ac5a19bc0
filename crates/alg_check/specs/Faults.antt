-- How the counts of a host's failed calls go while something is done.
use Rattle.std.specs.Prelude.{◌≡◌, ◌≢◌, ℕ}
use Rattle.alg_host.specs.Host.{HasRisen}

-- the count of failed calls has risen where the result is this failure, and else stands; that of failed complaints stands
pub record CountsFaults {R : Type 0} (failure result : R) (before now complaints_before complaints_now : ℕ) : Type 0 where
  pub kept : result ≢ failure → now ≡ before
  pub failed : result ≡ failure → HasRisen before now
  pub complaint_faults : complaints_now ≡ complaints_before
