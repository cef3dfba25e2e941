-- Numbers in the text form of Prometheus.
use Rattle.std.specs.Prelude.{ℕ, ◌/◌, ◌%◌, List, ◌++◌, codes}
use Rattle.std.specs.Fmt.{decimal}

-- the line that says what a family is: a name, and gauge or counter
abbrev pub type_line : List ℕ → List ℕ → List ℕ
type_line name kind = codes "# TYPE " ++ name ++ codes " " ++ kind ++ codes "\n"

-- the line of a value
abbrev pub value_line : List ℕ → List ℕ → List ℕ
value_line name value = name ++ codes " " ++ value ++ codes "\n"

-- a number that rises and falls, under this name
unfoldable pub gauge : List ℕ → ℕ → List ℕ
gauge name value = type_line name (codes "gauge") ++ value_line name (decimal value)

-- a number that only rises
unfoldable pub counter : List ℕ → ℕ → List ℕ
counter name value = type_line name (codes "counter") ++ value_line name (decimal value)

-- the line of a family that has a number for each reason
unfoldable pub by_reason : List ℕ → List ℕ → ℕ → List ℕ
by_reason name reason value = value_line (name ++ codes "{reason=\"" ++ reason ++ codes "\"}") (decimal value)

-- microseconds as seconds, with six digits behind the point
abbrev pub seconds : ℕ → List ℕ
seconds micros =
    decimal (micros / 1000000) ++ codes "."
    ++ decimal (micros / 100000 % 10) ++ decimal (micros / 10000 % 10) ++ decimal (micros / 1000 % 10)
    ++ decimal (micros / 100 % 10) ++ decimal (micros / 10 % 10) ++ decimal (micros % 10)

-- seconds that only rise
unfoldable pub seconds_counter : List ℕ → ℕ → List ℕ
seconds_counter name micros = type_line name (codes "counter") ++ value_line name (seconds micros)
