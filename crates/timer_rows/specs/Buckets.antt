-- Where a row is looked for first: row i holds the first row of bucket i, and the rows of a bucket are chained. What a store answers does not rest on chains.
use Rattle.std.specs.Prelude.{ℕ, zero, suc, ◌*◌, ◌/◌, ◌%◌, ◌^◌, if◌then◌else◌, List, map, length, Some, None, Option, ◌==◌, nat_lt, slice_index, slice_set}
use Rattle.timer_rows.specs.declared.row.Row.{Row}

-- the first row of each bucket, and the next row beside each one
abbrev pub buckets : {P : Type 0} → List (Row P) → List ℕ
buckets rows = map (λ r. r.bucket) rows

abbrev pub chains : {P : Type 0} → List (Row P) → List ℕ
chains rows = map (λ r. r.chain) rows

-- the bucket of a ticket among n rows
abbrev pub bucket_of : ℕ → ℕ → ℕ
bucket_of n t = (t * 2654435769) % 2 ^ 32 * n / 2 ^ 32

-- the first row whose key is t among the first k of a chain from a node on
unfoldable pub along : ℕ → List ℕ → List ℕ → ℕ → ℕ → Option ℕ
along zero ks os node t = None
along (suc k) ks os node t =
    if nat_lt node (length ks) then (if slice_index ks node == t then Some node else along k ks os (slice_index os node) t) else None

-- the next rows once the node before x, where there is one, leads past it
abbrev pub passed : Option ℕ → List ℕ → ℕ → List ℕ
passed None os x = os
passed (Some node) os x = slice_set os node (slice_index os x)

-- the first rows of the buckets, and the next rows, once the row x is out of the chain of the bucket h
abbrev pub buckets_without : List ℕ → List ℕ → ℕ → ℕ → List ℕ
buckets_without ns os h x = if slice_index ns h == x then slice_set ns h (slice_index os x) else ns

abbrev pub chains_without : List ℕ → List ℕ → ℕ → ℕ → List ℕ
chains_without ns os h x = if slice_index ns h == x then os else passed (along 64 os os (slice_index ns h) x) os x
