-- A session that is not refused begins as it should.
use Rattle.std.proofs.Common.{◌≡◌, ◌-◌, Bool, true, false, not, ◌&&◌, ◌||◌, eqb, leb, List, [], ◌∷◌, length, None, Option, refl, arith}
use Rattle.std.proofs.lemmas.Bool.{or_parts, and_parts, not-false, ltb-false, leb-true, eqb-true}
use Rattle.timer.specs.Meaning.{Meaning}
use Rattle.timer.specs.History.{Fresh}
use Rattle.timer.proofs.Members.{never}
use Rattle.trace.specs.declared.fault.RigFault.{RigFault}
use Rattle.trace.specs.declared.fault.RigFault.TheVariants.{Setting, Clocks, Used, Span}
use Rattle.protocol.specs.Begin.{bad_setting, apart, used, brief, or_else, begin_check, Together}
use Rattle.timers_law.specs.Begins.{Begins}

-- a chain of refusals ends in none only if no test holds
or_else_none : (b : Bool) (f : RigFault) (rest : Option RigFault) → or_else b f rest ≡ None → (b ≡ false) × (rest ≡ None)
or_else_none true f rest h = never (cc)
or_else_none false f rest h = (refl, h)

together : {P Q : Type 0} (m : Meaning P) (n : Meaning Q) → apart m n ≡ false → Together m n
together m n h =
    let p = and_parts (eqb m.now n.now) (eqb m.last n.last) (not-false (eqb m.now n.now && eqb m.last n.last) h) in
    record { tick = omega (arith, eqb-true m.now n.now p.0); last = omega (arith, eqb-true m.last n.last p.1) }

nil_from : {X : Type 0} (xs : List X) → length xs ≡ 0 → xs ≡ []
nil_from [] h = refl
nil_from (x ∷ xs) h = absurd (omega arith)

fresh : {P : Type 0} (m : Meaning P) → used m ≡ false → Fresh m
fresh m h =
    let p = and_parts (eqb (length m.pending) 0) (eqb m.given 0) (not-false (eqb (length m.pending) 0 && eqb m.given 0) h) in
    record { untouched = eqb-true m.given 0 p.1; empty = nil_from m.pending (eqb-true (length m.pending) 0 p.0) }

pub begins : Begins
unfolding begin_check
begins delay interval fate w r k records h sound =
    let a = or_else_none (bad_setting delay interval) Setting _ h in
    let b = or_else_none (apart w r || apart w k) Clocks _ a.1 in
    let c = or_else_none (used w || (used r || used k)) Used _ b.1 in
    let d = or_else_none (brief w) Span _ c.1 in
    let setting = (or_parts (not (leb 1 delay && leb delay 32767)) (not (leb 1 interval && leb interval 60000)) a.0).1 in
    let range = and_parts (leb 1 interval) (leb interval 60000) (not-false (leb 1 interval && leb interval 60000) setting) in
    let clocks = or_parts (apart w r) (apart w k) b.0 in
    let unused = or_parts (used w) (used r || used k) c.0 in
    let others = or_parts (used r) (used k) unused.1 in
    record {
      table = refl;
      packets = refl;
      some = leb-true 1 interval range.0;
      most = leb-true interval 60000 range.1;
      wire = fresh w unused.0;
      resend = fresh r others.0;
      keepalive = fresh k others.1;
      resend_clock = together w r clocks.0;
      keepalive_clock = together w k clocks.1;
      span = omega (arith, ltb-false (w.last - w.now) 60000 d.0);
      sound = sound;
    }
