use Rattle.std.proofs.Common.{refl}
use Rattle.timer.specs.Rules.{check_rule}
use Rattle.estimator.specs.Estimate.{rounded}
use Rattle.channel.specs.Record.{risen}
use Rattle.protocol.specs.Link.{carry}
use Rattle.protocol.specs.Rules.{open_rule, send_rule, receive_rule, close_rule, step_rule, data_rule, acknowledgement_rule, resend_rule, beat_rule, tick_rule}
use Rattle.protocol.proofs.channels.Goals as goal

pub returns : goal.returns
unfolding check_rule rounded risen carry open_rule send_rule receive_rule close_rule step_rule data_rule acknowledgement_rule resend_rule beat_rule tick_rule
returns c = record { value = refl; examples = (refl, refl) }
