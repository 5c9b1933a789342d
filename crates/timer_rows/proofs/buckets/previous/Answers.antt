use Rattle.std.proofs.Common.{◌+◌, ◌-◌, get_or, sym, ap, ◌∙◌, arith}
use Rattle.std.proofs.lemmas.Bool.{ltb-true, ltb-false}
use Rattle.std.proofs.lemmas.List.{length-map}
use Rattle.timer_rows.specs.Buckets.{chains, along}
use Rattle.timer_rows.proofs.Cells.{read_chain}
use Rattle.timer_rows.proofs.Chained.{along_none, along_past, along_found, along_step}
use Rattle.timer_rows.proofs.buckets.previous.Goals as goal

pub loop-init : goal.loop-init
loop-init g c = ap (λ n. along 64 (chains c.args.rows.now) (chains c.args.rows.now) n c.args.x) c.from-node.ensures

pub returns-in_err-next-clause-value : goal.returns-in_err-next-clause-value
returns-in_err-next-clause-value g c =
    let os = chains c.args.rows.now in
    let l = ltb-false _ _ (sym c.in_err-next.ensures.lookup.0) in
    c.from_residual.ensures ∙ sym (along_past os os c.args.x (64 - c.loop.counter) c.loop.node (omega (arith, l, length-map c.args.rows.now (λ r. r.chain)))) ∙ c.loop.invariant

pub returns-then-next-x-clause-value : goal.returns-then-next-x-clause-value
returns-then-next-x-clause-value g c =
    let rows = c.args.rows.now in
    let os = chains rows in
    let f = c.in_ok-next.ensures.lookup in
    let l = ltb-true _ _ (sym f.0) in
    let o = read_chain rows c.loop.node c.in_ok-next.field-0.now f.1 l in
    sym (along_found os os c.args.x (64 - c.loop.counter) c.loop.node (omega (arith, c.loop-test.true)) (omega (arith, l, length-map rows (λ r. r.chain))) (sym o ∙ c.if-next-x.true)) ∙ c.loop.invariant

pub loop-preserved : goal.loop-preserved
loop-preserved g c =
    let rows = c.args.rows.now in
    let os = chains rows in
    let f = c.in_ok-next.ensures.lookup in
    let l = ltb-true _ _ (sym f.0) in
    let o = read_chain rows c.loop.node c.in_ok-next.field-0.now f.1 l in
    let s = along_step os os c.args.x (64 - c.loop.counter) c.loop.node (omega (arith, c.loop-test.true)) (omega (arith, l, length-map rows (λ r. r.chain))) (λ e. c.if-next-x.false (o ∙ e)) in
    ap (λ n. along (64 - (c.loop.counter + 1)) os os n c.args.x) (c.from-node-in-loop.ensures ∙ o) ∙ ap (λ k. along k os os (get_or os c.loop.node 0) c.args.x) (omega arith) ∙ sym s ∙ c.loop.invariant

pub returns-clause-value : goal.returns-clause-value
returns-clause-value g c =
    let os = chains c.args.rows.now in
    sym (along_none os os c.args.x (64 - c.loop.counter) c.loop.node (omega (arith, c.loop-test.false))) ∙ c.loop.invariant
