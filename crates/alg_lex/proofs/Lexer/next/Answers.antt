use Rattle.std.proofs.Common.{sym, ap, ◌∙◌, arith, length, length-append}
use Rattle.std.specs.Prelude.{Some, option_map}
use Rattle.std.proofs.lemmas.Bool.{eqb-true}
use Rattle.alg_lex.specs.Items.{Place}
use Rattle.alg_lex.specs.Answer.{item_of}
use Rattle.alg_lex.proofs.Steps.{turn, no_items, at_gap, at_token, at_fault}
use Rattle.alg_lex.proofs.Lexer.next.Goals as goal

pub gaps-preserved : goal.gaps-preserved
gaps-preserved c =
    let p : Place = record { at = c.gaps.self-inside.at; line = c.gaps.self-inside.line; fresh = c.gaps.self-inside.fresh } in
    record {
      same = at_gap _ p _ _ _ _ (turn _ p _ _ _ _ _ _ c.gaps.invariant.same c.gaps.invariant.utf8 c.is_empty.ensures c.gaps-test.true c.cut-piece.ensures.kind c.cut-piece.ensures.front c.cut-piece.ensures.rest c.token_at-found.ensures)
          (ap (option_map item_of) c.in-None.is) c.line_feeds-feeds.ensures.value;
      utf8 = c.cut-piece.ensures.utf8;
      room = omega (arith, ap length c.cut-piece.ensures.all, length-append c.cut-piece.result.1.now c.cut-piece.result.2.now);
      lines = omega (arith, c.line_feeds-feeds.ensures.most);
    }

pub returns-in-Ok-clause-value : goal.returns-in-Ok-clause-value
returns-in-Ok-clause-value c =
    let p : Place = record { at = c.gaps.self-inside.at; line = c.gaps.self-inside.line; fresh = c.gaps.self-inside.fresh } in
    at_token _ p _ _ _ _ c.in-Ok.token (turn _ p _ _ _ _ _ _ c.gaps.invariant.same c.gaps.invariant.utf8 c.is_empty.ensures c.gaps-test.true c.cut-piece.ensures.kind c.cut-piece.ensures.front c.cut-piece.ensures.rest c.token_at-found.ensures)
    (ap (option_map item_of) c.in-Some.is ∙ ap (λ r. Some (item_of r)) c.in-Ok.is) c.line_feeds-feeds.ensures.value

pub returns-in-Err-clause-value : goal.returns-in-Err-clause-value
returns-in-Err-clause-value c =
    let p : Place = record { at = c.gaps.self-inside.at; line = c.gaps.self-inside.line; fresh = c.gaps.self-inside.fresh } in
    at_fault _ p _ _ _ _ c.in-Err.fault (turn _ p _ _ _ _ _ _ c.gaps.invariant.same c.gaps.invariant.utf8 c.is_empty.ensures c.gaps-test.true c.cut-piece.ensures.kind c.cut-piece.ensures.front c.cut-piece.ensures.rest c.token_at-found.ensures)
    (ap (option_map item_of) c.in-Some.is ∙ ap (λ r. Some (item_of r)) c.in-Err.is) c.line_feeds-feeds.ensures.value

pub returns-clause-value : goal.returns-clause-value
returns-clause-value c = c.gaps.invariant.same ∙ no_items _ c.gaps.self-inside.rest.now (eqb-true _ _ (sym c.is_empty.ensures ∙ c.gaps-test.false))

pub returns-clause-none : goal.returns-clause-none
returns-clause-none c = no_items _ c.gaps.self-inside.rest.now (eqb-true _ _ (sym c.is_empty.ensures ∙ c.gaps-test.false))
