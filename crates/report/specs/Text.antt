-- The text of a report (document 01: "At the end come `rows,COUNT` .. and the rows by lane"), as bytes.
-- Closed cases, document 01's example among them, are in proofs/Cases.antt.
use Rattle.std.specs.Prelude.{List, [], ◌∷◌, ◌++◌, ℕ, ◌+◌, length}
use Rattle.lists.specs.Members.{gather, below}
use Rattle.label.specs.Label.{letters_of}
use Rattle.interval.specs.declared.tuple.Row.{Row}
use Rattle.plan.specs.declared.Partitioning.{Partitioning}
use Rattle.part.specs.Part.{rows_in}
use Rattle.store.specs.Store.{row_part, stored_rows}
use Rattle.lines.specs.Fields.{comma, line_end, digits_of}
use Rattle.text_buffer.specs.Buffer.{ended}

-- bytes that the line `rows,COUNT` surely fits in, and a row's line
abbrev pub head_bytes : ℕ
head_bytes = 16

abbrev pub row_bytes : ℕ
row_bytes = 48

-- `rows`
abbrev pub rows_bytes : List ℕ
rows_bytes = 114 ∷ (111 ∷ (119 ∷ (115 ∷ [])))

-- a row's line: "lane, label, drawing, spot, first, last"
unfoldable pub row_line : ℕ → Row → List ℕ
row_line partition r =
    ended (digits_of partition) comma
    ++ (ended (letters_of r.label) comma
    ++ (ended (digits_of r.outer) comma
    ++ (ended (digits_of r.inner) comma
    ++ (ended (digits_of r.valid.first.0) comma ++ ended (digits_of r.valid.last.0) line_end))))

-- how many rows are stored in all lanes
abbrev pub row_count : Partitioning → List ℕ → ℕ
row_count p rows = length (stored_rows p rows)

-- "`rows,COUNT`, the number of stored rows in all lanes"
unfoldable pub count_line : ℕ → List ℕ
count_line n = ended rows_bytes comma ++ ended (digits_of n) line_end

-- the lines of the rows of one partition, whose lane number is one more than its index
unfoldable pub partition_text : ℕ → List ℕ → List ℕ
partition_text partition part = gather (row_line partition) (rows_in part)

-- the lines of all rows, partition by partition
unfoldable pub partitions_text : Partitioning → List ℕ → List ℕ
partitions_text p rows = gather (λ i. partition_text (i + 1) (row_part p rows i)) (below p.count)

-- the whole text: the rows stand in it as they stand in the store
unfoldable pub text_of : Partitioning → List ℕ → List ℕ
text_of p rows = count_line (row_count p rows) ++ partitions_text p rows
