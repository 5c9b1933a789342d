use Rattle.std.proofs.Common.{◌≡◌, ◌-◌, ◌≤◌, length, get_or}
use Rattle.timer_rows.specs.Buckets.{buckets, chains, bucket_of, along}
use Rattle.timer_rows.specs.Rows.{tickets}
use Rattle.timer_rows.proofs.buckets.find_chained.Given as goal

abbrev pub invariant-loop : goal.invariant-loop
invariant-loop g l =
    length l.rows ≤ 4096
    → along (64 - l.counter) (tickets l.rows) (chains l.rows) l.x l.ticket ≡ along 64 (tickets l.rows) (chains l.rows) (get_or (buckets l.rows) (bucket_of (length l.rows) l.ticket) 65535) l.ticket
