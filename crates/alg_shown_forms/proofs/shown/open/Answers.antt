use Rattle.alg_shown_forms.proofs.Opening.{is_over_two, over_sum, over_product, after_skip}
use Rattle.alg_shown_forms.proofs.shown.open.Goals as goal

pub two-requires : goal.two-requires
two-requires g c = let o = over_sum (g.N.Constants.leaf c.args.sort) _ _ c.requires.names c.requires.number _ _ c.requires.shown _ _ _ c.in-Sum.ensures in
    is_over_two _ _ _ _ _ _ o

pub two-requires-in-Sum : goal.two-requires-in-Sum
two-requires-in-Sum g c = let o = over_sum (g.N.Constants.leaf c.args.sort) _ _ c.requires.names c.requires.number _ _ c.requires.shown _ _ _ c.in-Sum.ensures in
    is_over_two _ _ _ _ _ _ (over_product _ _ _ _ _ (c.two.ensures.first _ _ _ _ o))

pub returns-in-Skip : goal.returns-in-Skip
returns-in-Skip g c = λ names k h. (c.in-Skip.ensures, after_skip (g.N.Constants.leaf c.args.sort) _ _ names k _ _ h _ _ c.in-Skip.ensures)

pub returns-in-Sum : goal.returns-in-Sum
returns-in-Sum g c = λ names k h.
    let o = over_sum (g.N.Constants.leaf c.args.sort) _ _ names k _ _ h _ _ _ c.in-Sum.ensures in
    let m = c.two.ensures.first _ _ _ _ o in
    let p = over_product _ _ _ _ _ m in
    record {
      form = c.in-Sum.ensures;
      inner = c.two-in-Sum.ensures.first _ _ _ _ p;
      power = c.two-in-Sum.ensures.second _ _ _ _ p;
      product_stands = m;
      rest = c.two.ensures.second _ _ _ _ o;
    }
