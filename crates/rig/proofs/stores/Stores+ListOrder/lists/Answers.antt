use Rattle.std.proofs.Common.{refl}
use Rattle.rig.proofs.Idle.{idle_over}
use Rattle.rig.proofs.stores.Stores+ListOrder.lists.Goals as goal

pub returns-clause-wire : goal.returns-clause-wire
returns-clause-wire c = idle_over _ _ 512 _ c.told-wire refl c.over.ensures.meaning

pub returns-clause-resend : goal.returns-clause-resend
returns-clause-resend c = idle_over _ _ 256 _ c.told-resend refl c.over-2.ensures.meaning

pub returns-clause-keepalive : goal.returns-clause-keepalive
returns-clause-keepalive c = idle_over _ _ 64 _ c.told-keepalive refl c.over-3.ensures.meaning
