-- Each extension covers functions of whole numbers.
use Rattle.std.specs.Prelude.{◌≡◌, Bool, true, List, refl}
use Rattle.alg_terms.specs.declared.symbols.Sym.{Sym}
use Rattle.alg_terms.specs.declared.symbols.Sym.TheVariants.{NatSub, IDiv, Mod, Gcd, Lcm, Fact, Choose, Fib}
use Rattle.alg_expr.specs.declared.ids.ExprId.{ExprId}
use Rattle.alg_build.specs.Book.{Book}
use Rattle.alg_exts.specs.Valuing.{IsCalled}
use Rattle.alg_exts.specs.declared.num_ext.Valued.{Valued}
use Rattle.alg_normext.specs.Functions.{is_divisor, is_quotient, is_remainder, is_factorial, is_choice, is_fibonacci, is_difference, is_whole_function}

divisor-whole : (f : Sym) → is_divisor f ≡ true → is_whole_function f ≡ true
divisor-whole Gcd h = refl
divisor-whole Lcm h = refl
divisor-whole _ h = cc

quotient-whole : (f : Sym) → is_quotient f ≡ true → is_whole_function f ≡ true
quotient-whole IDiv h = refl
quotient-whole _ h = cc

remainder-whole : (f : Sym) → is_remainder f ≡ true → is_whole_function f ≡ true
remainder-whole Mod h = refl
remainder-whole _ h = cc

factorial-whole : (f : Sym) → is_factorial f ≡ true → is_whole_function f ≡ true
factorial-whole Fact h = refl
factorial-whole _ h = cc

choice-whole : (f : Sym) → is_choice f ≡ true → is_whole_function f ≡ true
choice-whole Choose h = refl
choice-whole _ h = cc

fibonacci-whole : (f : Sym) → is_fibonacci f ≡ true → is_whole_function f ≡ true
fibonacci-whole Fib h = refl
fibonacci-whole _ h = cc

difference-whole : (f : Sym) → is_difference f ≡ true → is_whole_function f ≡ true
difference-whole NatSub h = refl
difference-whole _ h = cc

module _ (b : Book) (e : ExprId) (args : List Valued) where
  called : (c : Sym → Bool) → ((f : Sym) → c f ≡ true → is_whole_function f ≡ true) → IsCalled b c e args → IsCalled b is_whole_function e args
  called c m q = record { sym = q.sym; sort = q.sort; covered = m q.sym q.covered; over = q.over }

  pub divisor-called : IsCalled b is_divisor e args → IsCalled b is_whole_function e args
  divisor-called q = called is_divisor divisor-whole q

  pub quotient-called : IsCalled b is_quotient e args → IsCalled b is_whole_function e args
  quotient-called q = called is_quotient quotient-whole q

  pub remainder-called : IsCalled b is_remainder e args → IsCalled b is_whole_function e args
  remainder-called q = called is_remainder remainder-whole q

  pub factorial-called : IsCalled b is_factorial e args → IsCalled b is_whole_function e args
  factorial-called q = called is_factorial factorial-whole q

  pub choice-called : IsCalled b is_choice e args → IsCalled b is_whole_function e args
  choice-called q = called is_choice choice-whole q

  pub fibonacci-called : IsCalled b is_fibonacci e args → IsCalled b is_whole_function e args
  fibonacci-called q = called is_fibonacci fibonacci-whole q

  pub difference-called : IsCalled b is_difference e args → IsCalled b is_whole_function e args
  difference-called q = called is_difference difference-whole q

pub ruleset calls = (divisor-called, quotient-called, remainder-called, factorial-called, choice-called, fibonacci-called, difference-called)
