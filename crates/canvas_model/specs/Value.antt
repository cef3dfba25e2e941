-- Values of properties: numbers, truth values, colours, texts and lists, nested to a finite depth.
use Rattle.std.specs.Prelude.{ℕ, ℤ, suc, max, Bool, List, [], ◌∷◌, ◌≤◌}

mutual
  -- a value; a colour is one number
  pub data Value : Type 0 where
    number : ℤ → Value
    truth : Bool → Value
    colour : ℕ → Value
    text : List ℕ → Value
    list : Values → Value

  -- the members of a list
  pub data Values : Type 0 where
    no_more : Values
    more : Value → Values → Values

-- the members of a list, one after another
abbrev pub values_of : List Value → Values
values_of [] = no_more
values_of (v ∷ vs) = more v (values_of vs)

abbrev mutual
  -- how deep lists nest: a list is one more than its deepest member, an empty one 1
  pub depth : Value → ℕ
  depth (number n) = 0
  depth (truth b) = 0
  depth (colour c) = 0
  depth (text s) = 0
  depth (list vs) = suc (members_depth vs)

  -- the depth of the deepest member, 0 where there is none
  pub members_depth : Values → ℕ
  members_depth no_more = 0
  members_depth (more v vs) = max (depth v) (members_depth vs)

-- the greatest depth that a value may have where it is taken from outside
abbrev pub max_depth : ℕ
max_depth = 16

-- the lists of the value nest no deeper than that
abbrev pub IsShallow : Value → Type 0
IsShallow v = depth v ≤ max_depth
