-- Each name's first use adds a node, so there are as many names as nodes.
use Rattle.std.proofs.Common.{◌≡◌, Bool, true, false, ℕ, ◌+◌, List, [], ◌∷◌, ◌++◌, length, refl, ap, ◌∙◌, arith, length-append}
use Rattle.std.specs.Prelude.{if◌then◌else◌}
use Rattle.canvas_model.specs.World.{World, Run, empty}
use Rattle.canvas_model.specs.Good.{IsGood}
use Rattle.canvas_model.specs.Laws.{AfterEachStep, AfterEachRun}
use Rattle.canvas_world.proofs.Growth.{adds, added, run_adds}
use Rattle.canvas_model.specs.World as world
use Rattle.canvas_script.specs.declared.said.Whole.{Whole}
use Rattle.canvas_script.specs.declared.said.Whole.TheVariants.{Sync, Publish, Checkpoint, ShowServer}
use Rattle.canvas_script.specs.declared.said.Counted.{Counted}
use Rattle.canvas_script.specs.declared.said.Counted.TheVariants.{Take, Welcome, Deliver, Restart}
use Rattle.canvas_script.specs.declared.said.Named.{Named}
use Rattle.canvas_script.specs.declared.said.Named.TheVariants.{Join, Copy, Show}
use Rattle.canvas_script.specs.Names.{is_used, names_after_use}
use Rattle.canvas_script.specs.Lines.{Said, SaysWhole, SaysCounted, SaysNamed, SaysEdit, SaysSend, SaysTell}
use Rattle.canvas_script.specs.Script.{Item, Enters, Happens, ShowsServer, ShowsNode}
use Rattle.canvas_script.specs.Asked.{asked_whole, asked_counted, asked_named, entering, AsksOf, Asks}
use Rattle.canvas_script.specs.Plays.{events_of}
use Rattle.canvas_script.specs.Reading.{EachSays, WorldSays, InputSays}
use Rattle.canvas_lines.specs.Lines.{lines_of, meaningful}

-- how many nodes the items add
abbrev entered : List Item → ℕ
entered items = added (events_of items)

sum_of : (a b c d : ℕ) → b ≡ c + d → a + b ≡ a + c + d
sum_of a b c d e = omega (arith, e)

entered_append : (xs ys : List Item) → entered (xs ++ ys) ≡ entered xs + entered ys
entered_append [] ys = omega arith
entered_append (Enters ∷ xs) ys = sum_of 1 (entered (xs ++ ys)) (entered xs) (entered ys) (entered_append xs ys)
entered_append (Happens event ∷ xs) ys = sum_of (adds event) (entered (xs ++ ys)) (entered xs) (entered ys) (entered_append xs ys)
entered_append (ShowsServer ∷ xs) ys = entered_append xs ys
entered_append (ShowsNode k ∷ xs) ys = entered_append xs ys

whole_enters : (whole : Whole) → entered (asked_whole whole ∷ []) ≡ 0
whole_enters Sync = refl
whole_enters Publish = refl
whole_enters Checkpoint = refl
whole_enters ShowServer = refl

counted_enters : (word : Counted) (n : ℕ) → entered (asked_counted word n ∷ []) ≡ 0
counted_enters Take n = refl
counted_enters Welcome n = refl
counted_enters Deliver n = refl
counted_enters Restart n = refl

named_enters : (word : Named) (k : ℕ) → entered (asked_named word k ∷ []) ≡ 0
named_enters Join k = refl
named_enters Copy k = refl
named_enters Show k = refl

-- what adds no node leaves the names that there were
only_enters : (names : List (List ℕ)) (item : Item) (items : List Item) (after : List (List ℕ)) → entered (item ∷ []) ≡ 0 → items ≡ item ∷ [] → after ≡ names → length after ≡ length names + entered items
only_enters names item items after none is same = let a = ap length same in let b = ap entered is in omega (arith, a, b, none)

-- a name is new, and so is its node, or neither is
use_enters : (names : List (List ℕ)) (name : List ℕ) (b : Bool) → length (if b then names else names ++ name ∷ []) ≡ length names + entered (if b then [] else Enters ∷ [])
use_enters names name true = omega arith
use_enters names name false = length-append names (name ∷ [])

of_enters : (names : List (List ℕ)) (name : List ℕ) (asked : ℕ → Item) (items : List Item) (after : List (List ℕ)) → ((k : ℕ) → entered (asked k ∷ []) ≡ 0) → AsksOf names name asked items after → length after ≡ length names + entered items
of_enters names name asked items after none (k, number, same, is) =
    let a : length after ≡ length (names_after_use names name) = ap length same in
    let b : entered items ≡ entered (entering names name) + entered (asked k ∷ []) = ap entered is ∙ entered_append (entering names name) (asked k ∷ []) in
    let c : length (names_after_use names name) ≡ length names + entered (entering names name) = use_enters names name (is_used names name) in
    let d = none k in
    omega (arith, a, b, c, d)

said_enters : (names : List (List ℕ)) (said : Said) (items : List Item) (after : List (List ℕ)) → Asks names said items after → length after ≡ length names + entered items
said_enters names (SaysWhole whole) items after asks = only_enters names _ items after (whole_enters whole) asks.0 asks.1
said_enters names (SaysCounted word n) items after asks = only_enters names _ items after (counted_enters word n) asks.0 asks.1
said_enters names (SaysNamed word name) items after asks = of_enters names name _ items after (named_enters word) asks
said_enters names (SaysEdit name request) items after asks = of_enters names name (λ k. Happens (world.MakeEdit k request)) items after (λ k. refl) asks
said_enters names (SaysSend name i) items after asks = of_enters names name (λ k. Happens (world.Send k i)) items after (λ k. refl) asks
said_enters names (SaysTell v name) items after asks = of_enters names name (λ k. Happens (world.Tell v k)) items after (λ k. refl) asks

-- after each line there are as many names more as nodes
each_enters : (names lines : List (List ℕ)) (items : List Item) (after : List (List ℕ)) → EachSays names lines items after → length after ≡ length names + entered items
each_enters names [] items after (none, same) = let a = ap length same in let b = ap entered none in omega (arith, a, b)
each_enters names (line ∷ lines) items after (first, between, more, (said, spelled, asks), each, is) =
    let a = said_enters names said first between asks in
    let b = each_enters between lines more after each in
    let c : entered items ≡ entered first + entered more = ap entered is ∙ entered_append first more in
    omega (arith, a, b, c)

lines_enter : (lines names : List (List ℕ)) (items : List Item) → WorldSays lines names items → length names ≡ entered items
lines_enter [] names items (none, same) = let a = ap length same in let b = ap entered none in omega (arith, a, b)
lines_enter (line ∷ lines) names items (is, each) = let a = each_enters [] lines items names each in omega (arith, a)

-- as many names as nodes
pub names_are_nodes : AfterEachStep IsGood → AfterEachRun IsGood → (input : List ℕ) (names : List (List ℕ)) (items : List Item) (w : World) → InputSays input names items → Run empty (events_of items) w → length names ≡ length w.nodes
names_are_nodes keeps good input names items w says run =
    let a = lines_enter (meaningful (lines_of input)) names items says in
    let b = run_adds keeps empty (events_of items) w run (good [] empty world.nothing) in
    omega (arith, a, b)
