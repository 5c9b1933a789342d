-- The numbers of the rig's refusals and the letters of its stores.
use Rattle.std.specs.Prelude.{ℕ, Some, None, Ok, Err, Option, Result}
use Rattle.timer.specs.declared.fault.TimerFault.{TimerFault}
use Rattle.trace.specs.declared.queue.Queue.{Queue}
use Rattle.trace.specs.declared.queue.Queue.TheVariants.{Wire, Resend, Keepalive}
use Rattle.trace.specs.declared.queue.StoreFault.{StoreFault}
use Rattle.trace.specs.declared.fault.RigFault.{RigFault}
use Rattle.trace.specs.declared.fault.RigFault.TheVariants.{Channel, State, Window, Store, Spent, Ending, Setting, Clocks, Used, Span, Table, Fates, Buffer}

-- w, r and k
abbrev pub queue_letter : Queue → ℕ
queue_letter Wire = 119
queue_letter Resend = 114
queue_letter Keepalive = 107

-- a store's answer, with the store's name on a refusal
abbrev pub in_queue : {A : Type 0} → Queue → Result A TimerFault → Result A StoreFault
in_queue q (Ok x) = Ok x
in_queue q (Err f) = Err (record { queue = q; fault = f })

abbrev pub rig_number : RigFault → ℕ
rig_number Channel = 11
rig_number State = 12
rig_number Window = 13
rig_number (Store f) = 14
rig_number Spent = 15
rig_number Ending = 16
rig_number Setting = 21
rig_number Clocks = 22
rig_number Used = 23
rig_number Span = 24
rig_number Table = 25
rig_number Fates = 36
rig_number Buffer = 40

-- only the refusal 14 has a store's refusal behind it
abbrev pub store_part : RigFault → Option StoreFault
store_part (Store f) = Some f
store_part _ = None
