-- The round-trip time and the retransmission timeout after RFC 6298, section 2, in scaled whole numbers; a tick is a millisecond.
use Rattle.std.specs.Prelude.{ℕ, ◌+◌, ◌-◌, ◌*◌, ◌/◌, ◌^◌, min, max, List, Some, None, fold, Option}
use Rattle.estimator.specs.declared.estimate.Estimator.{Estimator}
use Rattle.estimator.specs.declared.round_trip.RoundTrip.{RoundTrip}

-- every quotient is rounded down; no other definition divides
unfoldable pub rounded : ℕ → ℕ → ℕ
rounded n d = n / d

-- a sum stops at the last number of 32 bits, and a difference, as ever here, at 0
abbrev pub stopped : ℕ → ℕ
stopped n = min n 4294967295

-- a timeout cut to its range
abbrev pub cut : ℕ → ℕ
cut timeout = max 1000 (min timeout 60000)

-- a sample above 60,000 counts as 60,000
abbrev pub counted : ℕ → ℕ
counted ticks = min ticks 60000

-- how far two numbers lie apart
abbrev pub distance : ℕ → ℕ → ℕ
distance a b = (a - b) + (b - a)

-- In what follows `stop` says where sums stop.
-- An average, scaled, gives up one part in its scale and takes in what is new.
abbrev pub blended : (ℕ → ℕ) → ℕ → ℕ → ℕ → ℕ
blended stop average scale new = stop (average - rounded average scale + new)

-- the first sample r: S = 8 r and V = 2 r
abbrev pub first_trip : ℕ → RoundTrip
first_trip r = record { smoothed = 8 * r; variation = 2 * r }

-- a later sample r: V moves by how far r lies from the old S / 8, and S by r
abbrev pub next_trip : (ℕ → ℕ) → RoundTrip → ℕ → RoundTrip
next_trip stop t r =
    record {
      smoothed = blended stop t.smoothed 8 r;
      variation = blended stop t.variation 4 (distance (rounded t.smoothed 8) r);
    }

abbrev pub trip_after : (ℕ → ℕ) → Option RoundTrip → ℕ → RoundTrip
trip_after stop None r = first_trip r
trip_after stop (Some t) r = next_trip stop t r

-- the timeout: S / 8 and V, or 1 where V is 0, cut to its range
abbrev pub timeout_of : (ℕ → ℕ) → RoundTrip → ℕ
timeout_of stop t = cut (stop (rounded t.smoothed 8 + max 1 t.variation))

abbrev pub estimate : (ℕ → ℕ) → RoundTrip → Estimator
estimate stop t = record { round_trip = Some t; timeout = timeout_of stop t }

-- before any sample
abbrev pub no_sample : Estimator
no_sample = record { round_trip = None; timeout = 1000 }

-- an estimator with its timeout cut to its range
abbrev pub ranged : Estimator → Estimator
ranged e = record { round_trip = e.round_trip; timeout = cut e.timeout }

-- one sample; the timeout before it plays no part
abbrev pub sample_rule : Estimator → ℕ → Estimator
sample_rule e ticks = estimate stopped (trip_after stopped e.round_trip (counted ticks))

-- the same where no sum stops
abbrev pub exact_rule : Estimator → ℕ → Estimator
exact_rule e ticks = estimate (λ n. n) (trip_after (λ n. n) e.round_trip (counted ticks))

-- all the samples of a list, from no sample on
abbrev pub after_rule : List ℕ → Estimator
after_rule samples = fold sample_rule no_sample samples

abbrev pub exact_after : List ℕ → Estimator
exact_after samples = fold exact_rule no_sample samples

-- the wait after so many resends: the timeout doubled for each of the first six, and at most 60,000
abbrev pub wait_rule : ℕ → ℕ → ℕ
wait_rule timeout resends = min 60000 (timeout * 2 ^ min resends 6)
