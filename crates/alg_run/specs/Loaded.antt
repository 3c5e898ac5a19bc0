-- Which files were loaded.
use Rattle.std.specs.Prelude.{◌≡◌, ◌≤◌, ◌<◌, ◌^◌, ℕ, List, length, Some, true, false}
use Rattle.alg_host.specs.Host.{Told, Loads}
use Rattle.alg_report.specs.Effects.{Effects, asks, and_then}

-- the longest file that is read
abbrev pub most_bytes : ℕ
most_bytes = 2 ^ 24

-- a file with these bytes was loaded, and then the rest was done
pub record Loaded (file bytes : List ℕ) (t : Told) (rest d : Effects) : Type 0 where
  pub found : t.files file ≡ Some bytes
  pub within : length bytes ≤ most_bytes
  pub both : d ≡ and_then (asks (Loads file true)) rest

-- the longest certificate that is read
abbrev pub most_certificate_bytes : ℕ
most_certificate_bytes = 2 ^ 30

-- and then a certificate with these bytes, and then the rest was done
pub record BothLoaded (file cert bytes certificate : List ℕ) (t : Told) (rest d : Effects) : Type 0 where
  pub found : t.files cert ≡ Some certificate
  pub within : length certificate ≤ most_certificate_bytes
  pub loaded : Loaded file bytes t (and_then (asks (Loads cert true)) rest) d

-- the file was loaded, and the certificate couldn't be
pub record CertificateRefused (file cert : List ℕ) (t : Told) (d : Effects) : Type 0 where
  pub bytes : List ℕ
  pub loaded : Loaded file bytes t (asks (Loads cert false)) d

-- the file was loaded, and the certificate is longer than what is read
pub record CertificateTooLong (file cert : List ℕ) (t : Told) (d : Effects) : Type 0 where
  pub refused : CertificateRefused file cert t d
  pub certificate : List ℕ
  pub found : t.files cert ≡ Some certificate
  pub beyond : most_certificate_bytes < length certificate
