-- The record of a channel, and what each change makes of it.
use Rattle.std.specs.Prelude.{ℕ, zero, suc, ◌+◌, ◌-◌, ◌%◌, min, max, Bool, true, false, ◌&&◌, ◌||◌, List, replicate, Some, None, Option, is_none, ◌==◌, nat_le, nat_lt, slice_index_or, slice_set, if◌then◌else◌}
use Rattle.std.specs.Option.{option_map}
use Rattle.estimator.specs.declared.estimate.Estimator.{Estimator}
use Rattle.estimator.specs.Estimate.{no_sample, ranged, sample_rule}
use Rattle.trace.specs.declared.action.Segment.{Segment}
use Rattle.channel.specs.declared.record.Status.{Status}
use Rattle.channel.specs.declared.record.Status.TheVariants.{Unused, Open, Closed}
use Rattle.channel.specs.declared.record.Channel.{Channel}
use Rattle.channel.specs.declared.record.Attempt.{Attempt}

-- a sum stops at the last number of 32 bits
abbrev pub stop : ℕ → ℕ
stop n = min n 4294967295

-- a record with nothing sent and nothing arrived
abbrev pub starting : Status → ℕ → Channel
starting status ticket =
    record {
      status = status;
      next = 0;
      base = 0;
      sending = replicate 8 None;
      taken = 0;
      receiving = replicate 8 None;
      estimator = no_sample;
      keepalive = ticket;
    }

abbrev pub unused : Channel
unused = starting Unused 0

abbrev pub opened : ℕ → Channel
opened ticket = starting Open ticket

-- another sending half
abbrev pub with_sending : Channel → ℕ → ℕ → List (Option ℕ) → Estimator → Channel
with_sending r next base places estimator =
    record {
      status = r.status;
      next = next;
      base = base;
      sending = places;
      taken = r.taken;
      receiving = r.receiving;
      estimator = estimator;
      keepalive = r.keepalive;
    }

-- another receiving half
abbrev pub with_receiving : Channel → ℕ → List (Option ℕ) → Channel
with_receiving r taken places =
    record {
      status = r.status;
      next = r.next;
      base = r.base;
      sending = r.sending;
      taken = taken;
      receiving = places;
      estimator = r.estimator;
      keepalive = r.keepalive;
    }

-- another status and keepalive timer
abbrev pub with_standing : Channel → Status → ℕ → Channel
with_standing r status ticket =
    record {
      status = status;
      next = r.next;
      base = r.base;
      sending = r.sending;
      taken = r.taken;
      receiving = r.receiving;
      estimator = r.estimator;
      keepalive = ticket;
    }

-- a record as every call reads it: `next` at most eight past `base`, and the timeout in its range
abbrev pub as_read : Channel → Channel
as_read r =
    with_sending r (max r.base (min r.next (stop (r.base + 8)))) r.base r.sending (ranged r.estimator)

-- the numbers of the states
abbrev pub number_of : Status → ℕ
number_of Unused = 0
number_of Open = 1
number_of Closed = 2

-- questions
abbrev pub status_open : Status → Bool
status_open Unused = false
status_open Open = true
status_open Closed = false

abbrev pub status_unused : Status → Bool
status_unused Unused = true
status_unused Open = false
status_unused Closed = false

abbrev pub is_open : Channel → Bool
is_open r = status_open r.status

abbrev pub is_unused : Channel → Bool
is_unused r = status_unused r.status

-- eight words wait
abbrev pub window_full : Channel → Bool
window_full r = r.next - r.base == 8

-- sending: one more word waits, under this ticket
abbrev pub sent : Channel → ℕ → Channel
sent r ticket =
    with_sending r (stop (r.next + 1)) r.base (slice_set r.sending (r.next % 8) (Some ticket)) r.estimator

-- the word of this number waits under another ticket
abbrev pub resent : Channel → ℕ → ℕ → Channel
resent r sequence ticket =
    with_sending r r.next r.base (slice_set r.sending (sequence % 8) (Some ticket)) r.estimator

-- the place of a number among those that were sent and may wait
abbrev pub send_place : Channel → ℕ → Option ℕ
send_place r sequence = slice_index_or r.sending (sequence % 8) None

abbrev pub in_flight : Channel → ℕ → Bool
in_flight r sequence = nat_le r.base sequence && nat_lt sequence r.next

-- the ticket under which the word of this number waits
abbrev pub awaits : Channel → ℕ → Option ℕ
awaits r sequence = if in_flight r sequence then send_place r sequence else None

-- no word waits at the place of this number
abbrev pub is_passed : List (Option ℕ) → ℕ → Bool
is_passed places sequence = is_none (slice_index_or places (sequence % 8) None)

-- from `base` past such places, at most to `next`, and at most so many
unfoldable pub risen : ℕ → ℕ → ℕ → List (Option ℕ) → ℕ
risen zero base next places = base
risen (suc k) base next places =
    if nat_lt base next && is_passed places base then risen k (stop (base + 1)) next places else base

abbrev pub sampled : Option ℕ → Estimator → Estimator
sampled (Some ticks) e = sample_rule e ticks
sampled None e = e

-- the word of this number was acknowledged
abbrev pub answered : Channel → ℕ → Option ℕ → Channel
answered r sequence sample =
    let places : List (Option ℕ) = slice_set r.sending (sequence % 8) None in
    with_sending r r.next (risen 8 r.base r.next places) places (sampled sample r.estimator)

-- receiving: the place of a number among those that may arrive
abbrev pub receive_place : Channel → ℕ → Option ℕ
receive_place r sequence = slice_index_or r.receiving (sequence % 8) None

-- a word with its number
abbrev pub numbered : ℕ → ℕ → Segment
numbered sequence word = record { sequence = sequence; word = word }

-- the word to take next, if it is there
abbrev pub front : Channel → Option Segment
front r = option_map (numbered r.taken) (receive_place r r.taken)

-- the record once that word was taken
abbrev pub emptied : Option ℕ → Channel → Channel
emptied None r = r
emptied (Some word) r = with_receiving r (stop (r.taken + 1)) (slice_set r.receiving (r.taken % 8) None)

abbrev pub without_front : Channel → Channel
without_front r = emptied (receive_place r r.taken) r

-- the numbers that there are places for
abbrev pub has_place : Channel → ℕ → Bool
has_place r sequence = nat_le r.taken sequence && nat_le sequence (stop (r.taken + 7))

-- a word that was taken before is acknowledged again
abbrev pub acknowledges : Channel → ℕ → Bool
acknowledges r sequence = nat_lt sequence r.taken || has_place r sequence

-- a word that is there already stays
abbrev pub filled : Option ℕ → Channel → Segment → Channel
filled (Some word) r segment = r
filled None r segment =
    with_receiving r r.taken (slice_set r.receiving (segment.sequence % 8) (Some segment.word))

-- a word arrives
abbrev pub received : Channel → Segment → Channel
received r segment =
    if has_place r segment.sequence then filled (receive_place r segment.sequence) r segment else r

-- standing
abbrev pub closed : Channel → Channel
closed r = with_standing r Closed r.keepalive

abbrev pub kept_alive : Channel → ℕ → Channel
kept_alive r ticket = with_standing r r.status ticket

-- attempts
abbrev pub first_attempt : Segment → ℕ → Attempt
first_attempt segment now = record { segment = segment; tries = 0; sent = now }

abbrev pub again : Attempt → Attempt
again a = record { segment = a.segment; tries = min 6 (a.tries + 1); sent = a.sent }

-- only a word that was sent once gives a sample of the round-trip time
abbrev pub sample : Attempt → ℕ → Option ℕ
sample a now = if a.tries == 0 then Some (now - a.sent) else None
