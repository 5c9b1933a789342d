-- What a session begins with.
use Rattle.std.specs.Prelude.{◌≡◌, ℕ, ◌+◌, ◌-◌, ◌≤◌, Bool, true, false, not, ◌&&◌, ◌||◌, length, Some, None, Option, ◌==◌, nat_le, nat_lt}
use Rattle.timer.specs.History.{Fresh}
use Rattle.timer.specs.Meaning.{Meaning, Sound}
use Rattle.trace.specs.declared.fault.RigFault.{RigFault}
use Rattle.trace.specs.declared.fault.RigFault.TheVariants.{Setting, Clocks, Used, Span, Table}
use Rattle.protocol.specs.State.{State, fresh_table}

-- the default delay or the interval is out of its range
abbrev pub bad_setting : ℕ → ℕ → Bool
bad_setting delay interval =
    not (nat_le 1 delay && nat_le delay 32767) || not (nat_le 1 interval && nat_le interval 60000)

-- two stores differ in their tick or their last tick
abbrev pub apart : {P Q : Type 0} → Meaning P → Meaning Q → Bool
apart m n = not (m.now == n.now && m.last == n.last)

-- a store has pending entries or gave tickets
abbrev pub used : {P : Type 0} → Meaning P → Bool
used m = not (length m.pending == 0 && m.given == 0)

-- the last tick is too near
abbrev pub brief : {P : Type 0} → Meaning P → Bool
brief m = nat_lt (m.last - m.now) 60000

-- the first refusal whose test holds, or what follows
abbrev pub or_else : Bool → RigFault → Option RigFault → Option RigFault
or_else true f rest = Some f
or_else false f rest = rest

-- why a session cannot begin: the default delay, the interval, the three stores, the length of the table
unfoldable pub begin_check : {P Q R : Type 0} → ℕ → ℕ → Meaning P → Meaning Q → Meaning R → ℕ → Option RigFault
begin_check delay interval wire resend keepalive records =
    or_else (bad_setting delay interval) Setting
    (or_else (apart wire resend || apart wire keepalive) Clocks
    (or_else (used wire || (used resend || used keepalive)) Used
    (or_else (brief wire) Span (or_else (nat_lt records 64) Table None))))

-- two stores have the same clock
pub record Together {P Q : Type 0} (m : Meaning P) (n : Meaning Q) : Type 0 where
  pub tick : n.now ≡ m.now
  pub last : n.last ≡ m.last

-- what the three stores mean is sound
pub record AllSound (s : State) : Type 0 where
  pub wire : Sound s.wire
  pub resend : Sound s.resend
  pub keepalive : Sound s.keepalive

-- a state in which a session begins
pub record Begun (s : State) : Type 0 where
  pub table : s.table ≡ fresh_table
  pub packets : s.packets ≡ 0
  pub some : 1 ≤ s.interval
  pub most : s.interval ≤ 60000
  pub wire : Fresh s.wire
  pub resend : Fresh s.resend
  pub keepalive : Fresh s.keepalive
  pub resend_clock : Together s.wire s.resend
  pub keepalive_clock : Together s.wire s.keepalive
  pub span : s.wire.now + 60000 ≤ s.wire.last
  pub sound : AllSound s
