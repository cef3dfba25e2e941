-- The text that is written of the word has its start, the value's own text and a bracket.
use Rattle.std.proofs.Common.{◌≡◌, ◌≤◌, ◌+◌, ◌-◌, ℕ, suc, max, List, [], ◌∷◌, ◌++◌, fold, length, length-append, Bool, true, false, Option, Some, None, option_map, option_and_then, decimal, codes, refl, sym, ap, ap₂, subst, ◌∙◌, append_assoc, append-nil, arith, rules}
use Rattle.std.specs.Str.{IsUtf8}
use Rattle.std.proofs.lemmas.List.Sums.{fold-append}
use Rattle.json.specs.Token as token
use Rattle.json.specs.Token.{Token}
use Rattle.json.specs.Lex.{tokens}
use Rattle.json.specs.Json as json
use Rattle.json.specs.Json.{value as parsed, if_last}
use Rattle.json.specs.Print.{ends, print, print_from}
use Rattle.json.specs.Tree as tree
use Rattle.json.specs.Tree.{json_tokens, items_tokens, members_tokens, HasNumbers}
use Rattle.json.proofs.Numbered.{ArePrintableOrBad-tokens, value-HasNumbers}
use Rattle.json.proofs.Printed.Tokens.{tokens-print, print_from-append}
use Rattle.json.proofs.Printed.Trees.{value-json_tokens, ArePrintable-json_tokens}
use Rattle.serde_json.specs.Data as D
use Rattle.serde_json.specs.Data.{Data, Num, unsigned, string, array, item, no_items, depth, items_depth, members_depth}
use Rattle.serde_json.specs.Read.{read, of_json, number_of}
use Rattle.serde_json.specs.Written.{outline, items_outline, members_outline, blank, blank_items, blank_members, unless_float, IsInOrder}
use Rattle.serde_json.specs.View.{view}
use Rattle.serde_json.specs.declared.value.Value.{Null, the_lemmas}
use Rattle.serde_json.proofs.OnLiterals.{serde_json_on_literals}
use Rattle.serde_json.proofs.Texts.{unless_float-number_of}
use Rattle.canvas_live.specs.Presence.{IsHereJson, TellsHere, here_start}

-- ---- what was left as it is when floats were blanked

kept_string : (j : json.Json) (s : List ℕ) → blank j ≡ json.string s → j ≡ json.string s
kept_string json.null s e = cc
kept_string (json.boolean b) s e = cc
kept_string (json.number t) s e = cc
kept_string (json.string t) s e = e
kept_string (json.array js) s e = cc
kept_string (json.object ms) s e = cc

kept_number : (j : json.Json) (s : List ℕ) → blank j ≡ json.number s → (t : List ℕ) × (j ≡ json.number t) × (unless_float t ≡ s)
kept_number json.null s e = absurd cc
kept_number (json.boolean b) s e = absurd cc
kept_number (json.number t) s e = let same : unless_float t ≡ s = cc in (t, refl, same)
kept_number (json.string t) s e = absurd cc
kept_number (json.array js) s e = absurd cc
kept_number (json.object ms) s e = absurd cc

kept_array : (j : json.Json) (os : json.Items) → blank j ≡ json.array os → (js : json.Items) × (j ≡ json.array js) × (blank_items js ≡ os)
kept_array json.null os e = absurd cc
kept_array (json.boolean b) os e = absurd cc
kept_array (json.number t) os e = absurd cc
kept_array (json.string t) os e = absurd cc
kept_array (json.array js) os e = let same : blank_items js ≡ os = cc in (js, refl, same)
kept_array (json.object ms) os e = absurd cc

kept_item : (js : json.Items) (o : json.Json) (os : json.Items) → blank_items js ≡ json.item o os
    → (k : json.Json) × (ks : json.Items) × (js ≡ json.item k ks) × (blank k ≡ o) × (blank_items ks ≡ os)
kept_item json.no_items o os e = absurd cc
kept_item (json.item k ks) o os e =
    let first : blank k ≡ o = cc in
    let rest : blank_items ks ≡ os = cc in
    (k, ks, refl, first, rest)

kept_end : (js : json.Items) → blank_items js ≡ json.no_items → js ≡ json.no_items
kept_end json.no_items e = refl
kept_end (json.item k ks) e = cc

abbrev three : json.Json → json.Json → json.Json → json.Json
three a b c = json.array (json.item a (json.item b (json.item c json.no_items)))

kept_three : (j a b c : json.Json) → blank j ≡ three a b c → (k l m : json.Json) × (j ≡ three k l m) × (blank k ≡ a) × (blank l ≡ b) × (blank m ≡ c)
kept_three j a b c e =
    let all = kept_array j _ e in
    let one = kept_item all.0 a _ all.2 in
    let two = kept_item one.1 b _ one.4 in
    let last = kept_item two.1 c _ two.4 in
    let third = last.2 ∙ ap (json.item last.0) (kept_end last.1 last.4) in
    let second = two.2 ∙ ap (json.item two.0) third in
    (one.0, two.0, last.0, all.1 ∙ ap json.array (one.2 ∙ ap (json.item one.0) second), one.3, two.3, last.3)

-- ---- blanked floats change no depth

mutual
  blank_depth : (j : json.Json) → tree.depth (blank j) ≡ tree.depth j
  blank_depth json.null = refl
  blank_depth (json.boolean b) = refl
  blank_depth (json.number s) = refl
  blank_depth (json.string s) = refl
  blank_depth (json.array js) = ap suc (blank_items_depth js)
  blank_depth (json.object ms) = ap suc (blank_members_depth ms)

  blank_items_depth : (js : json.Items) → tree.items_depth (blank_items js) ≡ tree.items_depth js
  blank_items_depth json.no_items = refl
  blank_items_depth (json.item j js) = ap₂ max (blank_depth j) (blank_items_depth js)

  blank_members_depth : (ms : json.Members) → tree.members_depth (blank_members ms) ≡ tree.members_depth ms
  blank_members_depth json.no_members = refl
  blank_members_depth (json.member k j ms) = ap₂ max (blank_depth j) (blank_members_depth ms)

mutual
  outline_depth : (d : Data) → tree.depth (outline d) ≡ depth d
  outline_depth D.null = refl
  outline_depth (D.boolean b) = refl
  outline_depth (D.number n) = refl
  outline_depth (string s) = refl
  outline_depth (array ds) = ap suc (outline_items_depth ds)
  outline_depth (D.object ms) = ap suc (outline_members_depth ms)

  outline_items_depth : (ds : D.Items) → tree.items_depth (items_outline ds) ≡ items_depth ds
  outline_items_depth no_items = refl
  outline_items_depth (item d ds) = ap₂ max (outline_depth d) (outline_items_depth ds)

  outline_members_depth : (ms : D.Members) → tree.members_depth (members_outline ms) ≡ members_depth ms
  outline_members_depth D.no_members = refl
  outline_members_depth (D.member k d ms) = ap₂ max (outline_depth d) (outline_members_depth ms)

-- ---- what is printed of a value after another

comma_first : (j : json.Json) → print_from true (json_tokens j) ≡ 44 ∷ print (json_tokens j)
unfolding print_from
comma_first json.null = refl
comma_first (json.boolean b) = refl
comma_first (json.number s) = refl
comma_first (json.string s) = refl
comma_first (json.array js) = refl
comma_first (json.object ms) = refl

abbrev ended_by : Bool → List Token → Bool
ended_by = fold (λ _ t. ends t)

mutual
  value_ends : (c : Bool) (j : json.Json) → ended_by c (json_tokens j) ≡ true
  value_ends c json.null = refl
  value_ends c (json.boolean b) = refl
  value_ends c (json.number s) = refl
  value_ends c (json.string s) = refl
  value_ends c (json.array js) = items_end false js
  value_ends c (json.object ms) = members_end false ms

  items_end : (c : Bool) (js : json.Items) → ended_by c (items_tokens js) ≡ true
  items_end c json.no_items = refl
  items_end c (json.item j js) = fold-append (λ _ t. ends t) c (json_tokens j) (items_tokens js) ∙ items_end _ js

  members_end : (c : Bool) (ms : json.Members) → ended_by c (members_tokens ms) ≡ true
  members_end c json.no_members = refl
  members_end c (json.member k j ms) = fold-append (λ _ t. ends t) false (json_tokens j) (members_tokens ms) ∙ members_end _ ms

last_printed : (j : json.Json) → print_from true (json_tokens j ++ token.end_array ∷ []) ≡ 44 ∷ (print (json_tokens j) ++ 93 ∷ [])
unfolding print_from
last_printed j =
    print_from-append true (json_tokens j) (token.end_array ∷ [])
    ∙ ap₂ (λ xs b. xs ++ print_from b (token.end_array ∷ [])) (comma_first j) (value_ends true j)

abbrev word : List ℕ → json.Json → json.Json
word digits own = three (json.string (codes "here")) (json.number digits) own

printed : (client : ℕ) (own : json.Json) → print (json_tokens (word (decimal client) own)) ≡ here_start client ++ (print (json_tokens own) ++ codes "]")
unfolding print_from serde_json_on_literals
printed client own =
    ap (λ xs. codes "[\"here\"," ++ (decimal client ++ xs)) (last_printed own)
    ∙ ap (λ xs. codes "[\"here\"," ++ xs) (sym (append_assoc (decimal client) (44 ∷ []) (print (json_tokens own) ++ 93 ∷ [])))

-- ---- what is read again

abbrev whole : Option (json.Json × List Token) → Option Data
whole o = option_and_then of_json (option_and_then (λ p. if_last p.0 p.1) o)

parsed_tokens : (j : json.Json) (text : List ℕ) → tokens text ≡ json_tokens j → tree.depth j ≤ 127 → parsed 127 (tokens text) ≡ Some (j, [])
parsed_tokens j text same shallow = ap (parsed 127) (same ∙ sym (append-nil (json_tokens j))) ∙ value-json_tokens j 127 [] shallow

read_tokens : (j : json.Json) (text : List ℕ) → tokens text ≡ json_tokens j → tree.depth j ≤ 127 → read text ≡ of_json j
read_tokens j text same shallow = ap whole (parsed_tokens j text same shallow)

read_printed : (j : json.Json) → HasNumbers j → tree.depth j ≤ 127 → read (print (json_tokens j)) ≡ of_json j
read_printed j numbers shallow = read_tokens j _ (tokens-print (json_tokens j) (ArePrintable-json_tokens j numbers)) shallow

abbrev here : ℕ → Data → Data
here client value = array (item (string (codes "here")) (item (D.number (unsigned client)) (item value no_items)))

abbrev read_word : Option Num → Option Data → Option Data
read_word number own =
    option_map array (option_map (item (string (codes "here"))) (option_and_then (λ d. option_map (item d) (option_and_then (λ e. option_map (item e) (Some no_items)) own)) (option_map D.number number)))

read_parts : (number : Option Num) (own : Option Data) (client : ℕ) (value : Data) → read_word number own ≡ Some (here client value) → (number ≡ Some (unsigned client)) × (own ≡ Some value)
read_parts None own client value e = absurd cc
read_parts (Some n) None client value e = absurd cc
read_parts (Some n) (Some d) client value e =
    let first : n ≡ unsigned client = cc in
    let second : d ≡ value = cc in
    (ap Some first, ap Some second)

-- ---- the text

module _ (text : List ℕ) (client : ℕ) (value : Data) (compact : text ≡ print (tokens text)) (order : IsInOrder text (here client value)) (back : read text ≡ Some (here client value)) (shallow : depth (here client value) ≤ 127) where
  abbrev j : json.Json
  j = order.0

  low : tree.depth j ≤ 127
  low = subst (λ n. n ≤ 127) (sym (sym (blank_depth j) ∙ ap tree.depth order.2 ∙ outline_depth (here client value))) shallow

  numbers : HasNumbers j
  numbers = value-HasNumbers 127 (tokens text) [] j (ArePrintableOrBad-tokens text) (parsed_tokens j text order.1 low)

  own_text : (own : List ℕ) × (read own ≡ Some value) × (text ≡ here_start client ++ (own ++ codes "]"))
  own_text =
      let parts = kept_three j _ _ _ order.2 in
      let name = kept_string parts.0 _ parts.4 in
      let digits = kept_number parts.1 _ parts.5 in
      let same : j ≡ word digits.0 parts.2 = parts.3 ∙ (λ i. three (name i) (digits.1 i) parts.2) in
      let known = read_parts (number_of digits.0) (of_json parts.2) client value (sym (ap of_json same) ∙ sym (read_tokens j text order.1 low) ∙ back) in
      let decimal_is : digits.0 ≡ decimal client = sym (unless_float-number_of digits.0 (unsigned client) known.0) ∙ digits.2 in
      let shape : j ≡ word (decimal client) parts.2 = same ∙ ap (λ s. word s parts.2) decimal_is in
      let inner : HasNumbers (word (decimal client) parts.2) = subst HasNumbers shape numbers in
      let nests : tree.depth (word (decimal client) parts.2) ≤ 127 = subst (λ k. tree.depth k ≤ 127) shape low in
      (print (json_tokens parts.2), read_printed parts.2 inner.1.1.0 (omega (arith, nests)) ∙ known.1, compact ∙ ap print (order.1 ∙ ap json_tokens shape) ∙ printed client parts.2)

parts_length : (text start own : List ℕ) → text ≡ start ++ (own ++ codes "]") → length text ≡ length start + (length own + 1)
parts_length text start own e = ap length e ∙ length-append start (own ++ codes "]") ∙ ap (λ n. length start + n) (length-append own (codes "]"))

module _ (text : List ℕ) (d : Data) (client all start : ℕ) (utf8 : IsUtf8 text) (compact : text ≡ print (tokens text)) (order : IsInOrder text d) (back : depth d ≤ 127 → read text ≡ Some d) (shallow : depth d ≤ 127)
    (all_is : all ≡ length text) (start_is : start ≡ length (here_start client)) where
  own_part : (value : Data) → here client value ≡ d → (own : List ℕ) × (read own ≡ Some value) × (text ≡ here_start client ++ (own ++ codes "]"))
  own_part value e =
      own_text text client value compact (subst (IsInOrder text) (sym e) order) (back shallow ∙ ap Some (sym e)) (subst (λ x. depth x ≤ 127) (sym e) shallow)

  pub start_before : (value : Data) → IsHereJson d client value → start + 1 ≤ all
  start_before value is =
      let own = own_part value is.2 in
      omega (arith, all_is, start_is, parts_length text (here_start client) own.0 own.2)

  pub tells : (value : Data) → IsHereJson d client value → TellsHere text client value (all - start - 1)
  tells value is =
      let own = own_part value is.2 in
      ((d, (utf8, back shallow), is), (own.0, own.1, own.2, omega (arith, all_is, start_is, parts_length text (here_start client) own.0 own.2)))

-- ---- null as the last of three members
pub same_value : (a b c k l m : Data) → array (item a (item b (item c no_items))) ≡ array (item k (item l (item m no_items))) → c ≡ m
same_value a b c k l m e = cc

pub null_view : view Null ≡ D.null
null_view = search (rules, the_lemmas)
