use Rattle.std.proofs.Common.{◌+◌, ◌-◌, Some, length, get_or, sym, ap, ◌∙◌, arith}
use Rattle.std.proofs.lemmas.Bool.{ltb-true, ltb-false}
use Rattle.std.proofs.lemmas.List.{length-map, get_or_past}
use Rattle.timer_rows.specs.Buckets.{buckets, chains, bucket_of, along}
use Rattle.timer_rows.specs.Rows.{tickets}
use Rattle.timer_rows.proofs.Cells.{read_bucket, read_chain, read_ticket}
use Rattle.timer_rows.proofs.Chained.{along_none, along_past, along_found, along_step}
use Rattle.timer_rows.proofs.buckets.find_chained.Goals as goal

pub returns-in_err-x-clause-value : goal.returns-in_err-x-clause-value
returns-in_err-x-clause-value g c = λ few.
    let rows = c.args.rows.now in
    let v = c.bucket_of.ensures.value few in
    let l = ltb-false _ _ (sym c.in_err-x.ensures.lookup.0) in
    let p = get_or_past (buckets rows) (bucket_of (length rows) c.args.ticket) 65535 (omega (arith, l, v, length-map rows (λ r. r.bucket))) in
    c.from_residual.ensures ∙ sym (along_past (tickets rows) (chains rows) c.args.ticket 64 (get_or (buckets rows) (bucket_of (length rows) c.args.ticket) 65535) (omega (arith, p, few, length-map rows (λ r. r.ticket))))

pub loop-init : goal.loop-init
loop-init g c = λ few.
    let rows = c.args.rows.now in
    let f = c.in_ok-x.ensures.lookup in
    let n = read_bucket rows c.bucket_of.result c.in_ok-x.field-0.now f.1 (ltb-true _ _ (sym f.0)) in
    ap (λ x. along 64 (tickets rows) (chains rows) x c.args.ticket) (n ∙ ap (λ h. get_or (buckets rows) h 65535) (c.bucket_of.ensures.value few))

pub returns-in_err-row-clause-value : goal.returns-in_err-row-clause-value
returns-in_err-row-clause-value g c = λ few.
    let rows = c.args.rows.now in
    let l = ltb-false _ _ (sym c.in_err-row.ensures.lookup.0) in
    c.from_residual-in_err-row.ensures
    ∙ sym (along_past (tickets rows) (chains rows) c.args.ticket (64 - c.loop.counter) c.loop.x (omega (arith, l, c.from.ensures, length-map rows (λ r. r.ticket))))
    ∙ c.loop.invariant few

pub returns-then-row-ticket-clause-value : goal.returns-then-row-ticket-clause-value
returns-then-row-ticket-clause-value g c = λ few.
    let rows = c.args.rows.now in
    let f = c.in_ok-row.ensures.lookup in
    let l = ltb-true _ _ (sym f.0) in
    let t = read_ticket rows c.from.result c.in_ok-row.row.now f.1 l in
    let h = along_found (tickets rows) (chains rows) c.args.ticket (64 - c.loop.counter) c.loop.x (omega (arith, c.loop-test.true)) (omega (arith, l, c.from.ensures, length-map rows (λ r. r.ticket))) (ap (λ i. get_or (tickets rows) i 0) (sym c.from.ensures) ∙ t ∙ c.if-row-ticket.true) in
    ap Some c.from-then-row-ticket.ensures ∙ sym h ∙ c.loop.invariant few

pub loop-preserved : goal.loop-preserved
loop-preserved g c = λ few.
    let rows = c.args.rows.now in
    let ts = tickets rows in
    let os = chains rows in
    let f = c.in_ok-row.ensures.lookup in
    let l = ltb-true _ _ (sym f.0) in
    let t = read_ticket rows c.from.result c.in_ok-row.row.now f.1 l in
    let o = read_chain rows c.from.result c.in_ok-row.row.now f.1 l ∙ ap (λ i. get_or os i 0) c.from.ensures in
    let s = along_step ts os c.args.ticket (64 - c.loop.counter) c.loop.x (omega (arith, c.loop-test.true)) (omega (arith, l, c.from.ensures, length-map rows (λ r. r.ticket))) (λ e. c.if-row-ticket.false (sym t ∙ ap (λ i. get_or ts i 0) c.from.ensures ∙ e)) in
    ap (λ x. along (64 - (c.loop.counter + 1)) ts os x c.args.ticket) o ∙ ap (λ k. along k ts os (get_or os c.loop.x 0) c.args.ticket) (omega arith) ∙ sym s ∙ c.loop.invariant few

pub returns-clause-value : goal.returns-clause-value
returns-clause-value g c = λ few.
    let rows = c.args.rows.now in
    sym (along_none (tickets rows) (chains rows) c.args.ticket (64 - c.loop.counter) c.loop.x (omega (arith, c.loop-test.false))) ∙ c.loop.invariant few
