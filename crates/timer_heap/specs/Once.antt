-- That the rows hold a heap can hold in one way only.
use Rattle.std.proofs.Common.{◌≡◌, ℕ, ◌<◌, ◌≤◌, ◌≢◌, List, length, get_or}
use denote.Struct.Props.{props}
use Rattle.timer_rows.specs.declared.row.Row.{Row}
use Rattle.timer_rows.specs.Rows.{tickets, nexts, prevs}
use Rattle.timer_heap.specs.Order.{Heap}
use Rattle.timer_heap.specs.Positions.{Index, Ordered, rank_at}

index_prop : (ts cs ps : List ℕ) (k : ℕ) → IsProp (Index ts cs ps k)
index_prop ts cs ps k p q =
    let live : IsProp ((i : ℕ) → i < k → get_or ts (get_or cs i 0) 0 ≢ 0) = hlevel props in
    let back : IsProp ((i : ℕ) → i < k → get_or ps (get_or cs i 0) 0 ≡ i) = hlevel props in
    let placed : IsProp ((r : ℕ) → get_or ts r 0 ≢ 0 → get_or ps r 0 < k) = hlevel props in
    let there : IsProp ((r : ℕ) → get_or ts r 0 ≢ 0 → get_or cs (get_or ps r 0) 0 ≡ r) = hlevel props in
    let room : IsProp (k ≤ length ts) = hlevel props in
    let long : (xs : List ℕ) → IsProp (length xs ≡ length ts) = λ xs. hlevel props in
    λ i. record {
      live = live p.live q.live i;
      back = back p.back q.back i;
      placed = placed p.placed q.placed i;
      there = there p.there q.there i;
      room = room p.room q.room i;
      cells = long cs p.cells q.cells i;
      places = long ps p.places q.places i;
    }

heap_prop : (f : ℕ → ℕ) (n : ℕ) → IsProp (Heap f n)
heap_prop f n = hlevel props

pub ordered_once : {P : Type 0} (rows : List (Row P)) (k : ℕ) → IsProp (Ordered rows k)
ordered_once rows k p q i =
    record {
      index = index_prop (tickets rows) (nexts rows) (prevs rows) k p.index q.index i;
      heap = heap_prop (rank_at rows) k p.heap q.heap i;
    }
