-- How a draft is filled and how a rig begins.
use Rattle.std.specs.Prelude.{◌≡◌, ℕ, ◌+◌, ◌<◌, ◌≤◌, ◌⊎◌, List, length, take, drop, Some, None, Ok, Err, Option, Result, slice_set}
use Rattle.trace.specs.declared.fault.RigFault.{RigFault}
use Rattle.trace.specs.declared.fault.RigFault.TheVariants.{Fates}
use Rattle.channel.specs.declared.record.Channel.{Channel}
use Rattle.protocol.specs.State.{fresh_table}
use Rattle.transport.specs.declared.rig.Draft.{Draft}
use Rattle.transport.specs.declared.rig.Refused.{Refused}
use Rattle.transport.specs.declared.rig.Running.{Running}

-- a draft with one more fate in the list
abbrev pub one_more : Draft → Draft
one_more d = record { delay = d.delay; interval = d.interval; fates = d.fates + 1 }

-- a fate goes to the end of the list, which holds at most 4096 and has to be long enough
abbrev pub Adds : Draft → List ℕ → ℕ → Result (Unit {0}) RigFault → Draft → List ℕ → Type 0
Adds d fates fate (Ok done) d' fates' =
    (d.fates < 4096) × (d.fates < length fates) × (d' ≡ one_more d) × (fates' ≡ slice_set fates d.fates fate)
Adds d fates fate (Err f) d' fates' =
    (f ≡ Fates) × ((4096 ≤ d.fates) ⊎ (length fates ≤ d.fates)) × (d' ≡ d) × (fates' ≡ fates)

-- a refusal, or else the value
abbrev pub unless_refused : Option RigFault → ℕ → Result ℕ RigFault
unless_refused (Some f) n = Err f
unless_refused None n = Ok n

-- the running rig that a draft becomes
abbrev pub started : Draft → Running
started d = record { rig = record { delay = d.delay; interval = d.interval; fates = d.fates; packets = 0 } }

-- what becomes of a draft and of the table, by the refusal that applies
abbrev pub Begins : Option RigFault → Draft → List Channel → Result Running Refused → List Channel → Type 0
Begins check d before (Ok rig) after = (check ≡ None) × (rig ≡ started d) × (take 64 after ≡ fresh_table) × (drop 64 after ≡ drop 64 before)
Begins check d before (Err e) after = (check ≡ Some e.fault) × (e.draft ≡ d) × (after ≡ before)
