use Rattle.std.proofs.Common.{◌≡◌, ℕ, ◌+◌, ◌<◌, List, [], ◌++◌, length, get_or, drop, sym, ◌∙◌, subst}
use Rattle.std.proofs.lemmas.List.{at_drop_more, at_drop_all}
use Rattle.timer.specs.declared.call.Call.{Call}
use Rattle.timer.specs.Meaning.{Meaning}
use Rattle.timer.specs.Rules.{Event}
use Rattle.timer.specs.History.{call_after, ends, events, Lawful}
use Rattle.timer.proofs.Frames.{framed_on}
use Rattle.timer.proofs.Laws.{fresh_lawful, history_lawful}
use Rattle.timer.proofs.history.play.Goals as goal

-- one call fewer is still to come
ends_more : {P : Type 0} (m n : Meaning P) (cs : List (Call P)) (i : ℕ) (c : Call P) → i < length cs → c ≡ get_or cs i c → n ≡ call_after m c → ends n (drop (i + 1) cs) ≡ ends m (drop i cs)
ends_more m n cs i c h e a =
    let s : ends m (drop i cs) ≡ ends (call_after m (get_or cs i c)) (drop (i + 1) cs) = at_drop_more (ends m) cs i c h in
    cc

pub loop-call-preserved : goal.loop-call-preserved
loop-call-preserved g c =
    let p = c.perform.ensures in
    let inv = c.loop-call.invariant in (
      ends_more _ _ c.args.calls.now c.loop-call.call-index c.call-item.result c.loop-call-test.true c.call-item.is p.after ∙ inv.0,
      framed_on g.S.Store _ _ _ inv.1 p.framed,
    )

pub returns : goal.returns
returns g c =
    let m = g.S.Store.meaning c.args.store.now in
    let n = g.S.Store.meaning c.loop-call.store in
    let cs = c.args.calls.now in
    let inv = c.loop-call.invariant in
    let after : n ≡ ends m cs = sym (at_drop_all (ends n) cs c.loop-call.call-index c.loop-call-test.false) ∙ inv.0 in
    let lawful : (es : List Event) → Lawful m es → Lawful n (es ++ events m cs) = λ es l. subst (λ k. Lawful k (es ++ events m cs)) (sym after) (history_lawful m es cs l) in
    record { after = after; begun = λ f. lawful [] (fresh_lawful m f); lawful = lawful; framed = inv.1 }
