-- Names as they are written.
use Rattle.std.specs.Prelude.{ℕ, List, Bool}

pub record Written : Type 0 where
  pub begins_line : Bool
  pub text : List ℕ
