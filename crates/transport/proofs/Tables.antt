-- The first 64 records of a table, lent to a call.
use Rattle.std.proofs.Common.{◌≡◌, ℕ, ◌<◌, ◌≤◌, true, false, List, ◌++◌, length, take, drop, sym, ap, ◌∙◌, arith, le-ltb, lt-ltb}
use borrow.Rule.Slice.PartMut.{put_mid}
use Rattle.std.proofs.Math.Seq.{take-append_seam, drop-append_seam}
use Rattle.std.proofs.lemmas.List.{length-take}
use Rattle.std.proofs.lemmas.Slice.{take-put_mid, drop-put_mid}
use Rattle.channel.specs.declared.record.Channel.{Channel}
use Rattle.protocol.specs.State.{table_short}

pub part_short : (t : List Channel) → length t < 64 → table_short (take 64 t) ≡ true
part_short t h = lt-ltb (length (take 64 t)) 64 (omega (arith, length-take 64 t))

pub part_full : (t : List Channel) → 64 ≤ length t → table_short (take 64 t) ≡ false
part_full t h = le-ltb (length (take 64 t)) 64 (omega (arith, length-take 64 t))

pub part_length : (t : List Channel) → 64 ≤ length t → length (take 64 t) ≡ 64
part_length t h = omega (arith, length-take 64 t)

pub part_later : (t ys : List Channel) → 64 ≤ length t → length ys ≡ 64 → drop 64 (put_mid 0 64 t ys) ≡ drop 64 t
part_later t ys h n = drop-put_mid 0 64 t ys 64 (omega arith) (omega arith) n

pub part_new : (t ys : List Channel) → 64 ≤ length t → length ys ≡ 64 → take 64 (put_mid 0 64 t ys) ≡ ys
part_new t ys h n = take-put_mid 0 64 t ys 64 (omega arith) (omega arith)

pub in_front : (ys zs : List Channel) → length ys ≡ 64 → take 64 (ys ++ zs) ≡ ys
in_front ys zs n = sym (ap (λ (k : ℕ). take k (ys ++ zs)) n) ∙ take-append_seam ys zs

pub behind : (ys zs : List Channel) → length ys ≡ 64 → drop 64 (ys ++ zs) ≡ zs
behind ys zs n = sym (ap (λ (k : ℕ). drop k (ys ++ zs)) n) ∙ drop-append_seam ys zs

pub ruleset lent = (part_short, part_full, part_length, part_later, part_new, in_front, behind)
