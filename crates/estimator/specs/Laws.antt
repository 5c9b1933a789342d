-- What holds of an estimator after any samples, and examples.
use Rattle.std.specs.Prelude.{◌≡◌, ℕ, ◌<◌, ◌≤◌, List, Some, None, Option}
use Rattle.estimator.specs.declared.estimate.Estimator.{Estimator}
use Rattle.estimator.specs.declared.round_trip.RoundTrip.{RoundTrip}
use Rattle.estimator.specs.Estimate.{rounded, no_sample, sample_rule, after_rule, exact_after}

-- S is at most eight times the greatest sample, and V at most four times
abbrev pub Within : Option RoundTrip → Type 0
Within None = Unit {0}
Within (Some t) = (t.smoothed ≤ 480000) × (t.variation ≤ 240000)

pub record Bounded (e : Estimator) : Type 0 where
  pub within : Within e.round_trip
  pub least : 1000 ≤ e.timeout
  pub most : e.timeout ≤ 60000

-- after any samples the estimator is bounded, and no sum has ever stopped
abbrev pub Law : Type 0
Law = (samples : List ℕ) → Bounded (after_rule samples) × (after_rule samples ≡ exact_after samples)

-- nor does a difference stop: no rounded quotient is above its dividend
abbrev pub Differences : Type 0
Differences = (n d : ℕ) → 0 < d → rounded n d ≤ n

-- an estimator with this S, V and timeout
abbrev pub seen : ℕ → ℕ → ℕ → Estimator
seen s v t = record { round_trip = Some (record { smoothed = s; variation = v }); timeout = t }

-- a first sample of 20; and a first sample of 2,000, then one of 1,000, then one of 1,003
abbrev pub Examples : Type 0
Examples =
    (sample_rule no_sample 20 ≡ seen 160 40 1000)
    × (sample_rule no_sample 2000 ≡ seen 16000 4000 6000)
    × (sample_rule (sample_rule no_sample 2000) 1000 ≡ seen 15000 4000 5875)
    × (sample_rule (sample_rule (sample_rule no_sample 2000) 1000) 1003 ≡ seen 14128 3872 5638)
