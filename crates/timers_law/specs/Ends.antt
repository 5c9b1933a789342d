-- Stepping until a tick comes to an end: a number falls with every step.
use Rattle.std.specs.Prelude.{◌≡◌, ℕ, ◌+◌, ◌-◌, ◌*◌, ◌<◌, Bool, true, ◌||◌, is_ok, count_by, ◌==◌, nat_lt}
use Rattle.timer.specs.Meaning.{Meaning}
use Rattle.protocol.specs.State.{State, tick_of}
use Rattle.protocol.specs.Rules.{any_due, step_rule}
use Rattle.timers_law.specs.Ready.{Ready}

-- how many entries are due
abbrev pub due_count : {P : Type 0} → Meaning P → ℕ
due_count m = count_by (λ e. e.deadline == m.now) m.pending

abbrev pub all_due : State → ℕ
all_due s = due_count s.wire + due_count s.resend + due_count s.keepalive

-- more than can be due in a tick
abbrev pub room : State → ℕ
room s = s.wire.capacity + s.resend.capacity + s.keepalive.capacity + 1

-- the tick t has not come, or something is due
abbrev pub goes_on : State → ℕ → Bool
goes_on s t = nat_lt (tick_of s) t || any_due s

abbrev pub measure : State → ℕ → ℕ
measure s t = (t - tick_of s) * room s + all_due s

abbrev pub Ends : Type 0
Ends =
    (s : State) (t : ℕ) → Ready s → goes_on s t ≡ true → is_ok (step_rule s).answer ≡ true → measure (step_rule s).after t < measure s t
