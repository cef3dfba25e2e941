-- What the commands write.
use Rattle.std.specs.Prelude.{ℕ, Bool, true, false, List, [], ◌∷◌, ◌++◌, codes}
use Rattle.canvas_wire.specs.Text.{row_text}
use Rattle.canvas_journal.specs.Meaning.{Row}
use Rattle.app_admin.specs.declared.writing_rows.Layout.{Layout}
use Rattle.app_admin.specs.declared.writing_rows.Layout.TheVariants.{Array, Lines}

-- what stands before the first row
abbrev pub head : Layout → List ℕ
head Array = codes "[\n"
head Lines = []

-- between two rows
abbrev pub between : Layout → List ℕ
between Array = codes ",\n"
between Lines = codes "\n"

-- and behind the last
abbrev pub end_of_rows : Layout → List ℕ
end_of_rows Array = codes "\n]\n"
end_of_rows Lines = codes "\n"

-- what stands before a row, if others stand before it
abbrev pub between_if : Layout → Bool → List ℕ
between_if layout false = []
between_if layout true = between layout

-- the texts of rows, if others stand before them
abbrev pub joined_rows : Layout → Bool → List Row → List ℕ
joined_rows layout later [] = []
joined_rows layout later (row ∷ rows) = between_if layout later ++ (row_text row ++ joined_rows layout true rows)

-- the rows laid out so
abbrev pub rows_text : Layout → List Row → List ℕ
rows_text layout rows = head layout ++ (joined_rows layout false rows ++ end_of_rows layout)
