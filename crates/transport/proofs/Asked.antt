-- What a record of the caller's table is among the first 64.
use Rattle.std.proofs.Common.{◌≡◌, ℕ, ◌≤◌, true, false, ◌<◌, List, length, get_or, take, Some, None, refl, arith}
use Rattle.std.proofs.lemmas.Bool.{le-ltb, le-leb, lt-leb, or_right, or_from}
use Rattle.std.proofs.lemmas.List.{length-take, get_or-take, get_or_default}
use Rattle.channel.specs.declared.record.Channel.{Channel}
use Rattle.channel.specs.Record.{as_read}
use Rattle.protocol.specs.State.{blank}
use Rattle.transport.specs.Asked.{missing, known}

pub known_at : (t : List Channel) (c : ℕ) (x : Channel) → c ≤ 63 → c < length t → x ≡ get_or t c x → known (take 64 t) c ≡ Some (as_read x)
known_at t c x h l e =
    let here : missing (take 64 t) c ≡ false = or_from _ _ (le-ltb 63 c h) (lt-leb (length (take 64 t)) c (omega (arith, length-take 64 t))) in
    rw (here, get_or-take 64 t c blank (omega arith), get_or_default t c blank x l, ← e) refl

pub known_past : (t : List Channel) (c : ℕ) → length t ≤ c → known (take 64 t) c ≡ None
known_past t c l =
    let gone : missing (take 64 t) c ≡ true = or_right _ _ (le-leb (length (take 64 t)) c (omega (arith, length-take 64 t))) in
    rw gone refl
