-- What a row that was read has in the columns.
use Rattle.std.proofs.Common.{◌≡◌, ℕ, ◌<◌, List, length, get_or, sym, ap, ◌∙◌}
use Rattle.std.proofs.lemmas.List.{get_or-map}
use Rattle.timer_rows.specs.Buckets.{buckets, chains}
use Rattle.timer_rows.specs.declared.row.Row.{Row}
use Rattle.timer_rows.specs.declared.ends.Ends.{Ends}
use Rattle.timer_rows.specs.Links.{ons}
use Rattle.timer_rows.specs.Rows.{tickets, deadlines}
use Rattle.timer_rows.proofs.Columns.{row_link}
use Rattle.timer_rows.proofs.Pending.{ticket_at, deadline_at}

module _ {P : Type 0} (rows : List (Row P)) (i : ℕ) (r : Row P) (is : r ≡ get_or rows i r) (l : i < length rows) where
  pub read_next : (es : List Ends) → r.next ≡ get_or (ons rows es) i 0
  read_next es = ap (λ (q : Row P). q.next) is ∙ row_link (λ r. r.next) (λ e. e.head) rows es i r l

  pub read_ticket : get_or (tickets rows) i 0 ≡ r.ticket
  read_ticket = ticket_at rows i r l ∙ ap (λ (q : Row P). q.ticket) (sym is)

  pub read_deadline : get_or (deadlines rows) i 0 ≡ r.deadline
  read_deadline = deadline_at rows i r l ∙ ap (λ (q : Row P). q.deadline) (sym is)

  pub read_chain : r.chain ≡ get_or (chains rows) i 0
  read_chain = ap (λ (q : Row P). q.chain) is ∙ sym (get_or-map (λ r. r.chain) rows i r 0 l)

  pub read_bucket : r.bucket ≡ get_or (buckets rows) i 65535
  read_bucket = ap (λ (q : Row P). q.bucket) is ∙ sym (get_or-map (λ r. r.bucket) rows i r 65535 l)
