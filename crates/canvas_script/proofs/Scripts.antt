-- Lines of a script that are read one by one.
use Rattle.std.proofs.Common.{◌≡◌, inl, inr, Bool, true, false, ℕ, ◌+◌, ◌-◌, ◌<◌, List, [], ◌∷◌, ◌++◌, take, drop, refl, sym, ap, subst, ◌∙◌, arith, append_assoc}
use Rattle.std.specs.Prelude.{codes}
use Rattle.std.proofs.lemmas.List.{append-nil, take-append-drop}
use Rattle.std.proofs.lemmas.Bool.{cases_lt, cases_eq}
use Rattle.canvas_lines.specs.Lines.{lines_of, is_passed, meaningful}
use Rattle.canvas_lines.proofs.Readings.{meaningful_append, meaningful_passed, meaningful_more, fewer, next_within, next_taken, all_taken}
use Rattle.canvas_script.specs.Script.{Item}
use Rattle.canvas_script.specs.Lines.{Said, SpellsLine}
use Rattle.canvas_script.specs.Asked.{LineSays}
use Rattle.canvas_script.specs.Reading.{EachSays, WorldSays, LinesSay, InputSays, IsBadScriptLine, IsScriptLineRead, IsScriptLineUnread, NoScriptLineIsBad, OneScriptLineIsBad}

-- these meaningful lines ask for these items and use these names, and whether there are any
abbrev pub SoFar : Bool → List (List ℕ) → List (List ℕ) → List Item → Type 0
SoFar false ts names items = (ts ≡ []) × (items ≡ []) × (names ≡ [])
SoFar true ts names items = (lines : List (List ℕ)) × (ts ≡ codes "world" ∷ lines) × EachSays [] lines items names

pub all_said : (started : Bool) (ts names : List (List ℕ)) (items : List Item) → SoFar started ts names items → WorldSays ts names items
all_said false ts names items h = subst (λ ts. WorldSays ts names items) (sym h.0) (h.1, h.2)
all_said true ts names items h = subst (λ ts. WorldSays ts names items) (sym h.1) (refl, h.2)

said_more : (before : List (List ℕ)) (lines : List (List ℕ)) (items : List Item) (names : List (List ℕ)) (line : List ℕ) (first : List Item) (after : List (List ℕ)) → EachSays before lines items names → LineSays names line first after
    → EachSays before (lines ++ line ∷ []) (items ++ first) after
said_more before [] items names line first after each says =
    (first, after, [], subst (λ names. LineSays names line first after) each.1 says, (refl, refl), ap (λ items. items ++ first) each.0 ∙ sym (append-nil first))
said_more before (l ∷ lines) items names line first after each says =
    (each.0, each.1, each.2 ++ first, each.3, said_more each.1 lines each.2 names line first after each.4 says, ap (λ items. items ++ first) each.5 ∙ append_assoc each.0 each.2 first)

read_more : (started : Bool) (ts names : List (List ℕ)) (before : List Item) (line : List ℕ) (after : List (List ℕ)) (items : List Item) → SoFar started ts names before → IsScriptLineRead started line names before after items → SoFar true (ts ++ line ∷ []) after items
read_more false ts names before line after items h read =
    ([], ap (λ ts. ts ++ line ∷ []) h.0 ∙ ap (λ l. l ∷ []) read.0, (read.2 ∙ h.1, read.1 ∙ h.2))
read_more true ts names before line after items h read = (
  h.0 ++ line ∷ [],
  ap (λ ts. ts ++ line ∷ []) h.1,
  subst (λ items. EachSays [] (h.0 ++ line ∷ []) items after) (sym read.2) (said_more [] h.0 before names line read.0 after h.2 read.1),
)

last_said : (before : List (List ℕ)) (lines : List (List ℕ)) (line : List ℕ) (items : List Item) (names : List (List ℕ)) → EachSays before (lines ++ line ∷ []) items names → (said : Said) × SpellsLine line said
last_said before [] line items names each = (each.3.0, each.3.1)
last_said before (l ∷ lines) line items names each = last_said each.1 lines line each.2 names each.4

unread_there : (started : Bool) (ts names : List (List ℕ)) (before : List Item) (line : List ℕ) → SoFar started ts names before → IsScriptLineUnread started line → (all_names : List (List ℕ)) (items : List Item) → WorldSays (ts ++ line ∷ []) all_names items → ⊥
unread_there false ts names before line h unread all_names items all =
    let first = subst (λ ts. WorldSays (ts ++ line ∷ []) all_names items) h.0 all in unread first.0
unread_there true ts names before line h unread all_names items all =
    let each = subst (λ ts. WorldSays (ts ++ line ∷ []) all_names items) h.1 all in
    let last = last_said [] h.0 line items all_names each.1 in
    unread last.0 last.1

each_before : (before xs ys : List (List ℕ)) (items : List Item) (names : List (List ℕ)) → EachSays before (xs ++ ys) items names → (a : List Item) × (n : List (List ℕ)) × EachSays before xs a n
each_before before [] ys items names each = ([], before, (refl, refl))
each_before before (x ∷ xs) ys items names each =
    let b = each_before each.1 xs ys each.2 names each.4 in
    (each.0 ++ b.0, b.1, (each.0, each.1, b.0, each.3, b.2, refl))

all_before : (xs ys names : List (List ℕ)) (items : List Item) → WorldSays (xs ++ ys) names items → (n : List (List ℕ)) × (a : List Item) × WorldSays xs n a
all_before [] ys names items all = ([], [], (refl, refl))
all_before (x ∷ xs) ys names items all = let b = each_before [] xs ys items names all.1 in (b.1, b.0, (all.0, b.2))

-- what is asked for by lines is asked for by the first of them
said_first : (ls : List (List ℕ)) (n : ℕ) (names : List (List ℕ)) (items : List Item) → LinesSay ls names items → (a : List (List ℕ)) × (b : List Item) × LinesSay (take n ls) a b
said_first ls n names items says =
    all_before (meaningful (take n ls)) (meaningful (drop n ls)) names items
    (subst (λ ts. WorldSays ts names items) (meaningful_append (take n ls) (drop n ls)) (subst (λ ls. LinesSay ls names items) (sym (take-append-drop n ls)) says))

pub none_is_bad : NoScriptLineIsBad
none_is_bad input names items n says bad = let first = said_first (lines_of input) n names items says in bad.bad first.0 first.1 first.2

not_before : (input : List ℕ) (m n : ℕ) → IsBadScriptLine input m → IsBadScriptLine input n → m < n → ⊥
not_before input m n first second lt =
    let before = second.before in
    let early = said_first (take (n - 1) (lines_of input)) m before.0 before.1 before.2 in
    first.bad early.0 early.1 (subst (λ ls. LinesSay ls early.0 early.1) (fewer m (n - 1) (lines_of input) (omega arith)) early.2)

pub one_is_bad : OneScriptLineIsBad
one_is_bad input m n first second =
    elim (cases_lt m n) [
      | inl lt ↦ absurd (not_before input m n first second lt)
      | inr le ↦ elim (cases_eq m n) [ inl e ↦ e | inr ne ↦ absurd (not_before input n m second first (omega arith)) ]
    ]

-- what the loop over the lines knows one line on, at the end, and at a bad line
module _ (started : Bool) (input : List ℕ) (n : ℕ) (names : List (List ℕ)) (before : List Item) (so_far : SoFar started (meaningful (take n (lines_of input))) names before) where
  pub whole : (rest : List ℕ) → drop n (lines_of input) ≡ lines_of rest → lines_of rest ≡ [] → InputSays input names before
  whole rest left end = subst (λ ls. LinesSay ls names before) (all_taken n (lines_of input) (left ∙ end)) (all_said started _ names before so_far)

  module _ (line : List ℕ) (more : List (List ℕ)) (left : drop n (lines_of input) ≡ line ∷ more) where
    pub passed_on : is_passed line ≡ true → SoFar started (meaningful (take (n + 1) (lines_of input))) names before
    passed_on passed =
        subst (λ ts. SoFar started ts names before) (sym (ap meaningful (next_taken n (lines_of input) line more left) ∙ meaningful_passed (take n (lines_of input)) line passed)) so_far

    module _ (is_meaningful : is_passed line ≡ false) where
      meaningful_on : meaningful (take (n + 1) (lines_of input)) ≡ meaningful (take n (lines_of input)) ++ line ∷ []
      meaningful_on = ap meaningful (next_taken n (lines_of input) line more left) ∙ meaningful_more (take n (lines_of input)) line is_meaningful

      pub read_on : (after : List (List ℕ)) (items : List Item) → IsScriptLineRead started line names before after items → SoFar true (meaningful (take (n + 1) (lines_of input))) after items
      read_on after items read = subst (λ ts. SoFar true ts after items) (sym meaningful_on) (read_more started _ names before line after items so_far read)

      back : n + 1 - 1 ≡ n
      back = omega arith

      -- what was read before the line
      pub said_before : LinesSay (take (n + 1 - 1) (lines_of input)) names before
      said_before = subst (λ k. LinesSay (take k (lines_of input)) names before) (sym back) (all_said started _ names before so_far)

      pub stopped : IsScriptLineUnread started line → IsBadScriptLine input (n + 1)
      stopped unread = record {
        some = omega arith;
        within = let h = next_within n (lines_of input) line more left in omega arith;
        before = (names, before, said_before);
        bad = λ all_names items says. unread_there started _ names before line so_far unread all_names items (subst (λ ts. WorldSays ts all_names items) meaningful_on says);
      }
