-- What is told of a row that isn't taken.
use Rattle.std.specs.Prelude.{ℕ, List, ◌++◌, codes}
use Rattle.std.specs.Fmt.{decimal}
use Rattle.app_faults.specs.declared.row_fault.RowFault.{RowFault}
use Rattle.app_faults.specs.declared.row_fault.RowFault.TheVariants as why

-- what is told of each
abbrev pub row_sentence : RowFault → List ℕ
row_sentence why.NotARow = codes "no JSON array of an id, a kind, a place and properties"
row_sentence why.Id = codes "its id isn't two whole numbers from 0 to 4294967295, the first at least 1"
row_sentence why.Root = codes "the root [0,0] has to be the first row, and no other"
row_sentence why.Order = codes "its id isn't above that of the row before"
row_sentence why.Kind = codes "its kind isn't document, page, frame, shape or text"
row_sentence why.Parts = codes "its place isn't [parent,position], null for the root alone, or its properties aren't [name,value], by name"
row_sentence why.Range = codes "a number is out of its range"
row_sentence why.TooDeepValue = codes "a value has lists more than 16 deep"
row_sentence (why.Client most) = codes "the client of its id is above " ++ decimal most ++ codes ", the most for this number of rows"
row_sentence why.NoParent = codes "there is no row of its parent"
row_sentence why.ParentKind = codes "its kind may not stand under its parent's"
row_sentence why.Position = codes "another child of its parent has its position"
row_sentence why.TooDeep = codes "it stands more than 100 below the root"
row_sentence why.Circle = codes "its parents lead in a circle, and not to the root"
