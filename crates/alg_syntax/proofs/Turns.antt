-- The turns of the code's loop.
use Rattle.std.proofs.Common.{◌≡◌, ℕ, suc, true, false, ◌+◌, ◌-◌, ◌*◌, ◌≤◌, ◌<◌, List, [], ◌∷◌, ◌++◌, length, reverse, Option, Some, None, refl, sym, ap, subst, ◌∙◌, arith, append_assoc, length-append, IfSome}
use Rattle.std.specs.Prelude.{option_and_then}
use Rattle.std.proofs.lemmas.Bool.{cond-true, cond-false}
use Rattle.std.proofs.lemmas.List.{reverse-append}
use Rattle.std.proofs.Math.Seq.{get_or-append_seam}
use Rattle.alg_syntax.specs.declared.signs.Sign.{Sign}
use Rattle.alg_syntax.specs.declared.expressions.Waiting.{Waiting}
use Rattle.alg_syntax.specs.declared.expressions.Waiting.TheVariants as waiting
use Rattle.alg_syntax.specs.declared.expressions.Turn.{Turn}
use Rattle.alg_syntax.specs.declared.expressions.Turn.TheVariants as turn
use Rattle.alg_syntax.specs.Expressions.{Tree}
use Rattle.alg_syntax.specs.Machine.{Found, takes, Begin, Go, Frame, In_minus, In_right, In_argument, In_group, Run, first_at, longer_at, whole_at, run, read_expression}
use Rattle.alg_syntax.specs.Nodes.{tree_at, Grows}
use Rattle.alg_syntax.specs.Frames.{frame_of, frames_of, mode_of, FrameIn, FramesIn, weight, turns_left}
use Rattle.alg_syntax.proofs.NodeLemmas.{at_append}

-- The code is where the machine is after t turns, and these are no more than it has passed.
pub record Runs (all : List Sign) (ts : List Tree) (st : Turn) (ws : List Waiting) (left : List Sign) : Type 0 where
  pub turns : ℕ
  pub room : turns + turns_left st ws left ≤ 3 * length all
  pub same : (n k : ℕ) → k ≡ n + turns → run k (Begin 65) [] all ≡ run n (mode_of ts st) (frames_of ts (reverse ws)) left

pub started : (all : List Sign) (ts : List Tree) → Runs all ts (turn.Begin 65) [] all
started all ts = record { turns = 0; room = omega arith; same = λ n k e. ap (λ (j : ℕ). run j (Begin 65) [] all) (let h : k ≡ n = omega arith in h) }

-- the machine's answer, one turn on
answer_of : (all : List Sign) (ts : List Tree) (st : Turn) (ws : List Waiting) (left : List Sign) (o : Found) → Runs all ts st ws left → ((n : ℕ) → run (suc n) (mode_of ts st) (frames_of ts (reverse ws)) left ≡ o) → o ≡ read_expression all
unfolding read_expression
answer_of all ts st ws left o r h =
    let room = r.room in
    let n = 3 * length all - r.turns in
    sym (h n) ∙ sym (r.same (suc n) (suc (3 * length all)) (omega arith))

pub begin_turn : (n m : ℕ) (fs : List Frame) (ts : List Sign) → run (suc n) (Begin m) fs ts ≡ first_at (run n) m fs ts
unfolding run
begin_turn n m fs ts = refl

pub longer_turn : (n m : ℕ) (a : Tree) (fs : List Frame) (ts : List Sign) → takes m a ts ≡ true → run (suc n) (Go m a) fs ts ≡ longer_at (run n) m a fs ts
unfolding run
longer_turn n m a fs ts h = cond-true (takes m a ts) _ _ h

pub whole_turn : (n m : ℕ) (a : Tree) (fs : List Frame) (ts : List Sign) → takes m a ts ≡ false → run (suc n) (Go m a) fs ts ≡ whole_at (run n) a fs ts
unfolding run
whole_turn n m a fs ts h = cond-false (takes m a ts) _ _ h

-- growing changes no frame
pub frames_grown : (old more : List Tree) (ws : List Waiting) → FramesIn (length old) ws → (frames_of (old ++ more) ws ≡ frames_of old ws) × FramesIn (length (old ++ more)) ws
frames_grown old more [] h = (refl, tt)
frames_grown old more (waiting.Minus m ∷ ws) h = let r = frames_grown old more ws h.1 in (ap (λ fs. In_minus m ∷ fs) r.0, (tt, r.1))
frames_grown old more (waiting.Group m g ∷ ws) h = let r = frames_grown old more ws h.1 in (ap (λ fs. In_group m g ∷ fs) r.0, (tt, r.1))
frames_grown old more (waiting.Right m a o ∷ ws) h = let r = frames_grown old more ws h.1 in let l = h.0 in let size = length-append old more in ((λ i. In_right m (at_append old more a h.0 i) o ∷ r.0 i), (omega arith, r.1))
frames_grown old more (waiting.Argument m a ∷ ws) h = let r = frames_grown old more ws h.1 in let l = h.0 in let size = length-append old more in ((λ i. In_argument m (at_append old more a h.0 i) ∷ r.0 i), (omega arith, r.1))

-- a new tree is the last
pub pushed_at : (old new : List Tree) (t : Tree) (id : ℕ) → id ≡ length old → new ≡ old ++ t ∷ [] → (tree_at new id ≡ t) × (id < length new)
pushed_at old new t id e g = let size = length-append old (t ∷ []) in let sg = ap length g in (ap (λ xs. tree_at xs id) g ∙ (ap (λ (i : ℕ). tree_at (old ++ t ∷ []) i) e ∙ get_or-append_seam old t [] _), omega arith)

pub made_in : (old new : List Tree) (t : Tree) (id : ℕ) (ws : List Waiting) → FramesIn (length old) ws → (id ≡ length old) × (new ≡ old ++ t ∷ []) → (id < length new) × FramesIn (length new) ws
made_in old new t id ws f h = ((pushed_at old new t id h.0 h.1).1, subst (λ (xs : List Tree). FramesIn (length xs) ws) (sym h.1) (frames_grown old (t ∷ []) ws f).1)

pub grows_on : (a b c : List Tree) → Grows a b → Grows b c → Grows a c
grows_on a b c g h = (g.0 ++ h.0, h.1 ∙ (ap (λ xs. xs ++ h.0) g.1 ∙ append_assoc a g.0 h.0))

-- what a step of the code answers: where the machine goes on
abbrev pub Stepped : (Run → Found) → List Tree → List Waiting → List Sign → Option Turn → Type 0
Stepped step us wu more o = (k : Run) → step k ≡ option_and_then (λ x. k (mode_of us x) (frames_of us (reverse wu)) more) o

pub stepped : (all left : List Sign) (ts us : List Tree) (st su : Turn) (ws wu : List Waiting) (more : List Sign) (o : Option Turn) (step : Run → Found) → Runs all ts st ws left → ((n : ℕ) → run (suc n) (mode_of ts st) (frames_of ts (reverse ws)) left ≡ step (run n)) → Stepped step us wu more o → turns_left su wu more < turns_left st ws left → o ≡ Some su → Runs all us su wu more
stepped all left ts us st su ws wu more o step r h s l e =
    let room = r.room in
    record {
      turns = suc r.turns;
      room = omega arith;
      same = λ n k q. r.same (suc n) k (omega arith) ∙ (h n ∙ (s (run n) ∙ ap (option_and_then (λ x. run n (mode_of us x) (frames_of us (reverse wu)) more)) e));
    }

pub failed : (all left : List Sign) (ts us : List Tree) (st : Turn) (ws wu : List Waiting) (more : List Sign) (o : Option Turn) (step : Run → Found) → Runs all ts st ws left → ((n : ℕ) → run (suc n) (mode_of ts st) (frames_of ts (reverse ws)) left ≡ step (run n)) → Stepped step us wu more o → o ≡ None → None ≡ read_expression all
failed all left ts us st ws wu more o step r h s e =
    answer_of all ts st ws left None r (λ n. h n ∙ (s (run n) ∙ ap (option_and_then (λ x. run n (mode_of us x) (frames_of us (reverse wu)) more)) e))

pub at_begin : (ts : List Tree) (st : Turn) (m : ℕ) (ws : List Waiting) (left : List Sign) → st ≡ turn.Begin m → (n : ℕ) → run (suc n) (mode_of ts st) (frames_of ts ws) left ≡ first_at (run n) m (frames_of ts ws) left
at_begin ts st m ws left e n = ap (λ s. run (suc n) (mode_of ts s) (frames_of ts ws) left) e ∙ begin_turn n m (frames_of ts ws) left

pub at_longer : (ts : List Tree) (st : Turn) (m a : ℕ) (ws : List Waiting) (left : List Sign) → st ≡ turn.Go m a → takes m (tree_at ts a) left ≡ true → (n : ℕ) → run (suc n) (mode_of ts st) (frames_of ts ws) left ≡ longer_at (run n) m (tree_at ts a) (frames_of ts ws) left
at_longer ts st m a ws left e t n = ap (λ s. run (suc n) (mode_of ts s) (frames_of ts ws) left) e ∙ longer_turn n m (tree_at ts a) (frames_of ts ws) left t

pub at_whole : (ts : List Tree) (st : Turn) (m a : ℕ) (ws : List Waiting) (left : List Sign) → st ≡ turn.Go m a → takes m (tree_at ts a) left ≡ false → (n : ℕ) → run (suc n) (mode_of ts st) (frames_of ts ws) left ≡ whole_at (run n) (tree_at ts a) (frames_of ts ws) left
at_whole ts st m a ws left e t n = ap (λ s. run (suc n) (mode_of ts s) (frames_of ts ws) left) e ∙ whole_turn n m (tree_at ts a) (frames_of ts ws) left t

pub at_close : (ts : List Tree) (st : Turn) (m a : ℕ) (items rest : List Waiting) (last : Waiting) (left : List Sign) → st ≡ turn.Go m a → takes m (tree_at ts a) left ≡ false → items ≡ rest ++ last ∷ [] → (n : ℕ) → run (suc n) (mode_of ts st) (frames_of ts (reverse items)) left ≡ whole_at (run n) (tree_at ts a) (frame_of ts last ∷ frames_of ts (reverse rest)) left
at_close ts st m a items rest last left e t i n = at_whole ts st m a (reverse items) left e t n ∙ ap (λ ws. whole_at (run n) (tree_at ts a) (frames_of ts ws) left) (ap reverse i ∙ reverse-append rest (last ∷ []))

-- all frames are done: the expression is whole
pub at_end : (all : List Sign) (ts : List Tree) (st : Turn) (m a : ℕ) (items : List Waiting) (left : List Sign) → Runs all ts st items left → st ≡ turn.Go m a → takes m (tree_at ts a) left ≡ false → items ≡ [] → Some (tree_at ts a, left) ≡ read_expression all
at_end all ts st m a items left r e t i = answer_of all ts st items left _ r (λ n. at_whole ts st m a (reverse items) left e t n ∙ ap (λ (ws : List Waiting). whole_at (run n) (tree_at ts a) (frames_of ts (reverse ws)) left) i)

pub frame_in : (n : ℕ) (items rest : List Waiting) (last : Waiting) → FramesIn n (reverse items) → items ≡ rest ++ last ∷ [] → FrameIn n last × FramesIn n (reverse rest)
frame_in n items rest last f i = subst (FramesIn n) (ap reverse i ∙ reverse-append rest (last ∷ [])) f

pub if_some : {A : Type 0} (P : A → Type 0) (o : Option A) (x : A) → IfSome o P → o ≡ Some x → P x
if_some P o x h e = subst (λ q. IfSome q P) e h

pub at_waiting : (all : List Sign) (ts : List Tree) (st : Turn) (ws wu : List Waiting) (left : List Sign) → ws ≡ wu → Runs all ts st ws left → Runs all ts st wu left
at_waiting all ts st ws wu left e r = subst (λ (xs : List Waiting). Runs all ts st xs left) e r

-- fewer turns are left than before
pub fewer : (st su : Turn) (w : ℕ) (ws wu : List Waiting) (left more : List Sign) → weight st ≡ w → turns_left su wu more < 3 * length left + length ws + w → turns_left su wu more < turns_left st ws left
fewer st su w ws wu left more e h = omega arith

pub fewer_popped : (st su : Turn) (items rest wu : List Waiting) (last : Waiting) (left more : List Sign) → weight st ≡ 2 → items ≡ rest ++ last ∷ [] → turns_left su wu more ≤ 3 * length left + length rest + 2 → turns_left su wu more < turns_left st items left
fewer_popped st su items rest wu last left more e i h = let size = ap length i ∙ length-append rest (last ∷ []) in omega arith
