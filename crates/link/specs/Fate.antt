-- What the link does with a packet.
use Rattle.std.specs.Prelude.{◌≡◌, List, ℕ, ◌%◌, ◌==◌, nat_lt, take, slice_get, unwrap_or, if◌then◌else◌}

-- the fate of a packet by its number; only the first `taken` entries of the list count
abbrev pub packet_fate : List ℕ → ℕ → ℕ → ℕ → ℕ
packet_fate fates taken default packet = unwrap_or (slice_get (take taken fates) packet) default

-- the low 15 bits
abbrev pub fate_delay : ℕ → ℕ
fate_delay f = f % 32768

-- none where the delay is 0, and else one, or two with the top bit
abbrev pub fate_copies : ℕ → ℕ
fate_copies f = if fate_delay f == 0 then 0 else (if nat_lt f 32768 then 1 else 2)

-- 32,778 is two copies after ten ticks; the top bit alone is a packet that is lost
abbrev pub Examples : Type 0
Examples =
    (fate_copies 32778 ≡ 2) × (fate_delay 32778 ≡ 10) × (fate_copies 32768 ≡ 0) × (fate_delay 32768 ≡ 0)
