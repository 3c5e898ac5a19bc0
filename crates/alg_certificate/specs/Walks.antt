-- What follows the first word of a line, read token by token: which tokens the grammar allows.
use Rattle.std.specs.Prelude.{ℕ, zero, suc, Bool, true, false, ◌&&◌, List, [], ◌∷◌, Option, Some, None, if◌then◌else◌}
use Rattle.alg_proof.specs.Names.{is_name}
use Rattle.alg_certificate.specs.Tokens.{Tok, Blank, Close, Semi, Open, Lit, Var, Word}
use Rattle.alg_certificate.specs.Lexed.{Lexed, tokens}
use Rattle.alg_certificate.specs.Cutting.{is_empty}
use Rattle.alg_certificate.specs.Words.{is_sort, is_symbol, is_number, is_relation, is_comparison, is_bridge, is_head, is_numeral}
use Rattle.alg_certificate.specs.declared.patterns.Slot.{Slot}
use Rattle.alg_certificate.specs.declared.patterns.Slot.TheVariants as slot
use Rattle.alg_certificate.specs.declared.patterns.Part.{Part}
use Rattle.alg_certificate.specs.declared.patterns.Part.TheVariants.{One, Many}
use Rattle.alg_certificate.specs.declared.walks.Spot.{Spot}
use Rattle.alg_certificate.specs.declared.walks.Spot.TheVariants.{Between, Before, Opened, Beginning, Ended}

abbrev pub word_fits : Slot → List ℕ → Bool
word_fits slot.Tree w = false
word_fits slot.Number w = is_number w
word_fits slot.Sort w = is_sort w
word_fits slot.Symbol w = is_symbol w
word_fits slot.Relation w = is_relation w
word_fits slot.Comparison w = is_comparison w
word_fits slot.Name w = is_name w
word_fits slot.Bridge w = is_bridge w
word_fits slot.Head w = is_head w
word_fits slot.Numeral w = is_numeral w
word_fits slot.Semicolon w = false

abbrev pub is_tree_slot : Slot → Bool
is_tree_slot slot.Tree = true
is_tree_slot _ = false

abbrev pub is_semicolon_slot : Slot → Bool
is_semicolon_slot slot.Semicolon = true
is_semicolon_slot _ = false

-- an item of this kind may begin with the token
abbrev pub fits : Slot → Tok → Bool
fits s Blank = false
fits s Close = false
fits s Semi = is_semicolon_slot s
fits s (Open w) = is_tree_slot s && is_symbol w
fits s (Lit w n) = is_tree_slot s && is_sort w
fits s (Var k) = is_tree_slot s
fits s (Word w) = word_fits s w

-- the parts that are left after the item that begins with the token
abbrev pub first_fit : List Part → Tok → Option (List Part)
first_fit [] t = None
first_fit (One s ∷ ps) t = if fits s t then Some ps else None
first_fit (Many s ∷ ps) t = if fits s t then Some (Many s ∷ ps) else first_fit ps t

-- nothing has to follow
abbrev pub may_stop : List Part → Bool
may_stop [] = true
may_stop (One s ∷ ps) = false
may_stop (Many s ∷ ps) = may_stop ps

-- a place in a line: where in an item, how many nodes are open, and which parts are left
abbrev pub Standing : Type 0
Standing = Spot × ℕ × List Part

abbrev pub opens : Tok → Bool
opens (Open w) = true
opens _ = false

abbrev pub begun : Tok → Option (List Part) → Option Standing
begun t None = None
begun t (Some ps) = if opens t then Some (Opened, 1, ps) else Some (Between, 0, ps)

abbrev pub closed : ℕ → List Part → Option Standing
closed zero ps = None
closed (suc zero) ps = Some (Between, 0, ps)
closed (suc (suc d)) ps = Some (Ended, suc d, ps)

abbrev pub in_tree : ℕ → List Part → Tok → Option Standing
in_tree d ps (Lit w n) = if is_sort w then Some (Ended, d, ps) else None
in_tree d ps (Var k) = Some (Ended, d, ps)
in_tree d ps (Open w) = if is_symbol w then Some (Opened, suc d, ps) else None
in_tree d ps _ = None

abbrev pub after_tree : ℕ → List Part → Tok → Option Standing
after_tree d ps Blank = Some (Beginning, d, ps)
after_tree d ps Close = closed d ps
after_tree d ps _ = None

abbrev pub at_blank : Spot → ℕ → List Part → Tok → Option Standing
at_blank p d ps Blank = Some (p, d, ps)
at_blank p d ps _ = None

abbrev pub moved : Spot → ℕ → List Part → Tok → Option Standing
moved Between d ps t = at_blank Before 0 ps t
moved Before d ps t = begun t (first_fit ps t)
moved Opened d ps t = at_blank Beginning d ps t
moved Beginning d ps t = in_tree d ps t
moved Ended d ps t = after_tree d ps t

abbrev pub may_stop_at : Spot → List Part → Bool
may_stop_at Between ps = may_stop ps
may_stop_at Before ps = false
may_stop_at Opened ps = false
may_stop_at Beginning ps = false
may_stop_at Ended ps = false

abbrev pub go : Option Standing → (Spot → ℕ → List Part → Bool) → Bool
go None k = false
go (Some x) k = k x.0 x.1 x.2

unfoldable pub walks : List Tok → Spot → ℕ → List Part → Bool
walks [] p d ps = may_stop_at p ps
walks (t ∷ ts) p d ps = go (moved p d ps t) (walks ts)

abbrev pub walks_all : Lexed → Spot → ℕ → List Part → Bool
walks_all x p d ps = is_empty x.1 && walks x.0 p d ps

-- the text is items that these parts allow
abbrev pub allows : List Part → List ℕ → Bool
allows ps text = walks_all (tokens text) Between 0 ps
