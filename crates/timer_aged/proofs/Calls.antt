-- What each call of an aged store rests on.
use Rattle.timer_aged.proofs.Numbers.{start_numbered, stop_numbered, take_numbered, advance_numbered, ticket_fits, never_refused, expired_fits}
use Rattle.timer_aged.proofs.Rulings.{check_left, check_before, check_after, check_none, start_raised, start_after, stop_answer, stop_after, stop_missing, stop_same, take_answer, take_after, advance_answer, advance_after}

pub ruleset checks = (check_left, check_before, check_after, check_none)

pub ruleset starts = (start_raised, start_after, start_numbered, ticket_fits, never_refused)

pub ruleset stops = (stop_answer, stop_after, stop_missing, stop_same, stop_numbered)

pub ruleset takes = (take_answer, take_after, take_numbered, expired_fits)

pub ruleset advances = (advance_answer, advance_after, advance_numbered)
