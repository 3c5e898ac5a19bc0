-- What one call adds, and then another.
use Rattle.std.proofs.Common.{◌≡◌, ℕ, List, refl, ap, Bool, true, false, append_assoc, append-nil, Some, None}
use Rattle.std.specs.Prelude.{◌||◌, Option}
use Rattle.std.specs.Option.{option_map}
use Rattle.alg_kernel.specs.Claims.{Claim}
use Rattle.alg_host.specs.Host.{Told, Call, called, created, adds_said, adds_appended, adds_proved}
use Rattle.alg_report.specs.Effects.{Effects, Does, after, and_then, nothing, asks, creates, says, appends, hands_over, since_created}

pub does_nothing : (t : Option Told) → Does t t nothing
does_nothing None = refl
does_nothing (Some t) = simp append-nil

pub same_created : (c d : Bool) (a b e : List ℕ) → since_created d (since_created c a b) e ≡ since_created (c || d) a (since_created d b e)
same_created true true a b e = refl
same_created true false a b e = refl
same_created false true a b e = refl
same_created false false a b e = append_assoc a b e

pub after_twice : (d e : Effects) (t : Told) → after e (after d t) ≡ after (and_then d e) t
after_twice d e t = simp (append_assoc, same_created)

pub does_then : (a b c : Option Told) (d e : Effects) → Does a b d → Does b c e → Does a c (and_then d e)
does_then None b c d e p q = rw (q, p) refl
does_then (Some t) b c d e p q = rw (q, p) (ap (λ u. Some u) (after_twice d e t))

pub does_say : (part : List ℕ) (a b : Option Told) → b ≡ option_map (adds_said part) a → Does a b (says part)
does_say part None b e = e
does_say part (Some t) b e = rw e (simp append-nil)

pub does_append : (part : List ℕ) (a b : Option Told) → b ≡ option_map (adds_appended part) a → Does a b (appends part)
does_append part None b e = e
does_append part (Some t) b e = rw e (simp append-nil)

pub does_hand_over : (claim : Claim) (a b : Option Told) → b ≡ option_map (adds_proved claim) a → Does a b (hands_over claim)
does_hand_over claim None b e = e
does_hand_over claim (Some t) b e = rw e (simp append-nil)

pub does_create : (path : List ℕ) (a b : Option Told) → b ≡ option_map (created path) a → Does a b (creates path)
does_create path None b e = e
does_create path (Some t) b e = rw e (simp append-nil)

pub does_ask : (call : Call) (a b : Option Told) → b ≡ option_map (called call) a → Does a b (asks call)
does_ask call None b e = e
does_ask call (Some t) b e = rw e (simp append-nil)
