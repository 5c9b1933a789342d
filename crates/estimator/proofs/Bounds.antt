-- Samples keep an estimator bounded, so that no sum stops.
use Rattle.std.proofs.Common.{◌≡◌, ℕ, ◌+◌, ◌-◌, ◌≤◌, max, List, [], ◌∷◌, Some, None, fold, Option, refl, ap, ◌∙◌, div-le_self, arith, lit<}
use Rattle.estimator.specs.declared.estimate.Estimator.{Estimator}
use Rattle.estimator.specs.declared.round_trip.RoundTrip.{RoundTrip}
use Rattle.estimator.specs.Estimate.{rounded, stopped, counted, distance, trip_after, estimate, no_sample, sample_rule, exact_rule}
use Rattle.estimator.specs.Laws.{Within, Bounded, Law, Differences}

-- all that is used of rounding
pub differences : Differences
unfolding rounded
differences n d l = div-le_self n d

smoothed_most : (s r : ℕ) → s ≤ 480000 → r ≤ 60000 → s - rounded s 8 + r ≤ 480000
unfolding rounded
smoothed_most s r a b = omega arith

variation_most : (s v r : ℕ) → s ≤ 480000 → v ≤ 240000 → r ≤ 60000 → v - rounded v 4 + distance (rounded s 8) r ≤ 240000
unfolding rounded
variation_most s v r a b c = omega arith

not_stopped : (n : ℕ) → n ≤ 4294967295 → stopped n ≡ n
not_stopped n l = omega arith

-- one sample on a round trip, and the timeout that follows
trip_step : (o : Option RoundTrip) (r : ℕ) → Within o → r ≤ 60000 → Within (Some (trip_after stopped o r)) × (trip_after stopped o r ≡ trip_after (λ n. n) o r)
trip_step None r w l = ((omega arith, omega arith), refl)
trip_step (Some t) r w l =
    let s = smoothed_most t.smoothed r w.0 l in
    let v = variation_most t.smoothed t.variation r w.0 w.1 l in
    let p = not_stopped (t.smoothed - rounded t.smoothed 8 + r) (omega arith) in
    let q = not_stopped (t.variation - rounded t.variation 4 + distance (rounded t.smoothed 8) r) (omega arith) in
    ((omega arith, omega arith), simp (p, q))

timeout_step : (t : RoundTrip) → Within (Some t) → Bounded (estimate stopped t) × (estimate stopped t ≡ estimate (λ n. n) t)
timeout_step t w =
    let d = differences t.smoothed 8 (lit< tt) in
    let p = not_stopped (rounded t.smoothed 8 + max 1 t.variation) (omega arith) in
    (record { within = w; least = omega arith; most = omega arith }, rw p)

sample_step : (e : Estimator) (ticks : ℕ) → Bounded e → Bounded (sample_rule e ticks) × (sample_rule e ticks ≡ exact_rule e ticks)
sample_step e ticks b =
    let t = trip_step e.round_trip (counted ticks) b.within (omega arith) in
    let s = timeout_step (trip_after stopped e.round_trip (counted ticks)) t.0 in
    (s.0, s.1 ∙ ap (estimate (λ n. n)) t.1)

along : (e : Estimator) (samples : List ℕ) → Bounded e → Bounded (fold sample_rule e samples) × (fold sample_rule e samples ≡ fold exact_rule e samples)
along e [] b = (b, refl)
along e (ticks ∷ rest) b =
    let s = sample_step e ticks b in
    let h = along (sample_rule e ticks) rest s.0 in
    (h.0, h.1 ∙ ap (λ a. fold exact_rule a rest) s.1)

pub law : Law
law samples = along no_sample samples (record { within = tt; least = omega arith; most = omega arith })
