-- A cursor over the rows store: what a scan reads and hands out, and what is left of it at a cursor.
-- The laws are in proofs/Cursors.antt.
use Rattle.std.specs.Prelude.{Bool, true, ◌&&◌, List, [], ◌∷◌, ◌≡◌, ℕ, ◌-◌, ◌≤◌, ◌<◌, leb, drop}
use Rattle.std.specs.Prelude.{Option, Some, None, IfSome, MatchOption}
use Rattle.lists.specs.Members.{keep, gather, up_from}
use Rattle.interval.specs.Tuple.{row_width}
use Rattle.interval.specs.declared.time.Interval.{Interval}
use Rattle.interval.specs.declared.tuple.Row.{Row}
use Rattle.part.specs.Part.{counted, rows_in, row_at}
use Rattle.store.specs.Store.{partition_at}
use Rattle.rows.specs.Partners.{Roomy}
use Rattle.cursor.specs.declared.Scan.{Scan}
use Rattle.cursor.specs.declared.Cursor.{Cursor}

-- the row has a chronon in common with the window
unfoldable pub touching : Interval → Row → Bool
touching window r = leb r.valid.first.0 window.last.0 && leb window.first.0 r.valid.last.0

-- the rows stored in the m partitions from i on, of a store of partitions of that room
unfoldable pub rows_from : ℕ → List ℕ → ℕ → ℕ → List Row
rows_from room ws i m = gather (λ j. rows_in (partition_at room ws j)) (up_from i m)

-- the rows from partition i of a scan on, up to its last
abbrev pub scanned_from : Scan → List ℕ → ℕ → List Row
scanned_from s ws i = rows_from s.room ws i (s.count - i)

-- all the rows that a scan reads, and those that it hands out
abbrev pub scanned : Scan → List ℕ → List Row
scanned s ws = scanned_from s ws s.from.0

abbrev pub chosen : Scan → List ℕ → List Row
chosen s ws = keep (touching s.window) (scanned s ws)

-- a store that can be scanned: each partition has room for the rows that it counts, and the scan starts inside
pub record Scannable (s : Scan) (ws : List ℕ) : Type 0 where
  pub roomy : Roomy row_width s.room s.count ws
  pub inside : s.from.0 ≤ s.count

-- what is left to be handed out at a cursor, its own row first; where there is none, nothing
abbrev pub left : Scan → List ℕ → Option Cursor → List Row
left s ws None = []
left s ws (Some c) = keep (touching s.window) (drop c.place (scanned_from s ws c.partition.0))

-- a cursor stands at a row which is handed out, and has it
pub record Stands (s : Scan) (ws : List ℕ) (c : Cursor) : Type 0 where
  pub partition : c.partition.0 < s.count
  pub place : c.place < counted (partition_at s.room ws c.partition.0)
  pub row : c.row ≡ row_at (partition_at s.room ws c.partition.0) c.place
  pub touched : touching s.window c.row ≡ true

-- at the first row that is handed out: all are left
pub record Started (s : Scan) (ws : List ℕ) (at : Option Cursor) : Type 0 where
  pub stands : IfSome at (Stands s ws)
  pub rest : left s ws at ≡ chosen s ws

-- one row further: the one before was the first of those that were left
pub record Advanced (s : Scan) (ws : List ℕ) (c : Cursor) (at : Option Cursor) : Type 0 where
  pub stands : IfSome at (Stands s ws)
  pub rest : left s ws (Some c) ≡ c.row ∷ left s ws at

-- ---- what the steps promise one another

-- the first row from row k on, of the partition `part` with number i, that has a chronon in common with the window
pub record Found (window : Interval) (part : List ℕ) (i k : ℕ) (c : Cursor) : Type 0 where
  pub partition : c.partition.0 ≡ i
  pub place : c.place < counted part
  pub row : c.row ≡ row_at part c.place
  pub touched : touching window c.row ≡ true
  pub rest : keep (touching window) (drop c.place (rows_in part)) ≡ keep (touching window) (drop k (rows_in part))

-- it, or no row from row k on has one
abbrev pub Sought : Interval → List ℕ → ℕ → ℕ → Option Cursor → Type 0
Sought window part i k at =
    MatchOption at (keep (touching window) (drop k (rows_in part)) ≡ []) (Found window part i k)

-- the first row from row k of partition i on that is handed out
pub record Reached (s : Scan) (ws : List ℕ) (i k : ℕ) (at : Option Cursor) : Type 0 where
  pub stands : IfSome at (Stands s ws)
  pub rest : left s ws at ≡ keep (touching s.window) (drop k (scanned_from s ws i))
