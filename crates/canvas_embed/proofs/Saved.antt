-- What is proved of saved clients.
use Rattle.std.specs.Prelude.{map as list_map, slice_get}
use Rattle.std.proofs.Common.{◌≡◌, ◌⊎◌, inl, inr, ℕ, zero, suc, ◌+◌, ◌<◌, ◌≤◌, ◌&&◌, List, [], ◌∷◌, ◌++◌, length, take, get_or, All, add-one, Bool, true, false, cond, Option, Some, None, codes, bytes_eq, refl, ap, sym, subst, ◌∙◌, arith}
use Rattle.std.specs.FinMap as map
use Rattle.std.proofs.Math.Bool.{and-true}
use Rattle.std.proofs.lemmas.Bool.{cases_lt}
use Rattle.std.proofs.lemmas.List.{map-append}
use Rattle.std.proofs.lemmas.List.Elements.{All-append, All-head, All-tail}
use Rattle.std.proofs.lemmas.Option.{get_or_from_slice_get, same_Some, slice_get-get_or}
use Rattle.std.proofs.Math.Seq.{take-suc}
use Rattle.serde_json.specs.Data as D
use Rattle.serde_json.specs.Data.{Data, string, array, Items, no_items, item}
use Rattle.serde_json.specs.Written.{has_float, items_have_float}
use Rattle.canvas_model.specs.declared.ObjId.{ObjId}
use Rattle.canvas_model.specs.Ids.{id_cmp}
use Rattle.canvas_model.specs.Document.{Object}
use Rattle.canvas_model.specs.Change.{Change, HoldsShallow}
use Rattle.canvas_model.specs.Client.{Client}
use Rattle.canvas_codec.specs.Shape.{shape}
use Rattle.canvas_codec.specs.Codec.{IsCodec, AreMembers, StandsFor}
use Rattle.canvas_codec.specs.Parts.{maybe, each_test, each_written, after}
use Rattle.canvas_codec.specs.Faults.{RefusesShape}
use Rattle.canvas_codec.specs.declared.json_fault.JsonFault.{JsonFault}
use Rattle.canvas_codec.specs.declared.json_fault.JsonFault.TheVariants as value
use Rattle.canvas_codec.proofs.Forms.{first, stands_for, reads_what_stands, out_of_range, no_shape, whole_is, maybe_is, end_is, member_is, each_is, array_is, headed_is, after_is}
use Rattle.canvas_doc.specs.Whole.{AreDocument}
use Rattle.canvas_forms.specs.Ids.{client_form}
use Rattle.canvas_forms.specs.JsonTree.{worded}
use Rattle.canvas_forms.specs.Changes.{change_form}
use Rattle.canvas_forms.specs.Rows.{rows_form}
use Rattle.canvas_forms.specs.RowOrder.{are_in_order}
use Rattle.canvas_forms.specs.InOrder.{rows_in}
use Rattle.canvas_forms.proofs.Docs.{rows_nest, rows_no_float}
use Rattle.canvas_doc.proofs.Shallow.{same_doc}
use Rattle.canvas_forms.proofs.Forms.{client_is, version_is, change_is}
use Rattle.canvas_forms.proofs.Members.{no_word, word_first}
use Rattle.canvas_forms.proofs.Orders.{ordered_document}
use Rattle.canvas_forms.proofs.Ranges.{version_fits}
use Rattle.canvas_forms.proofs.RowForms.{rows_is}
use Rattle.canvas_forms.proofs.Texts.{change_nests, change_no_float}
use Rattle.canvas_wire.specs.Faults.{IsJson, Means, IsOut}
use Rattle.canvas_wire.proofs.Tested.{neither, tested_case, unread_case}
use Rattle.canvas_client.specs.Kept.{IsKept}
use Rattle.canvas_embed.specs.Saves.{Numbers, SavedParts, any_form, numbers_form, waiting_form, saved_members, saved_form, saved_parts_of, client_of, third_in_order, is_saved_in_order, saved_in, saved_after, IsSavedShape, IsSavedJson, IsShallowClient, SpellsClient, IsSoundChange, IsSavedFault, IsLoadError, MakesNoClient, load_error_of}
use Rattle.canvas_embed.specs.declared.fault.LoadError.{LoadError}
use Rattle.canvas_embed.specs.declared.fault.LoadError.TheVariants.{NotJson, NotAClient, OutOfRange, TooDeep, Inconsistent, Memory}

-- ---- the form

numbers_are : IsCodec numbers_form
numbers_are = array_is _ (member_is _ _ (maybe_is client_form client_is (λ n e. cc)) (member_is _ _ client_is (member_is _ _ (whole_is 0 18446744073709551615) (member_is _ _ version_is end_is))))

waiting_is : IsCodec waiting_form
waiting_is = array_is _ (each_is change_form change_is)

members_are : AreMembers saved_members
members_are = member_is _ _ numbers_are (member_is _ _ waiting_is (member_is _ _ rows_is end_is))

saved_is : IsCodec saved_form
saved_is = array_is _ (headed_is _ (after_is (codes "client") saved_members members_are))

-- ---- clients and their parts

client_back : (c : Client) → client_of (saved_parts_of c) ≡ c
client_back c i = record { id = c.id; counter = c.counter; version = c.version; acknowledged = c.acknowledged; waiting = c.waiting; view = same_doc c.view i }

parts_back : (p : SavedParts) → AreDocument p.1.1.0 → saved_parts_of (client_of p) ≡ p
parts_back p h = ap (λ es. (p.0, (p.1.0, (es, tt)))) (map.entries-from_sorted id_cmp p.1.1.0 h.sorted)

one_client : (d : Data) (a b : Client) → IsSavedJson d a → IsSavedJson d b → a ≡ b
one_client d a b (o, s) (p, t) = sym (client_back a) ∙ ap client_of (first (sym (reads_what_stands saved_form saved_is d (saved_parts_of a) s) ∙ reads_what_stands saved_form saved_is d (saved_parts_of b) t)) ∙ client_back b

saved_shaped : (d : Data) (c : Client) → IsSavedJson d c → IsSavedShape d
saved_shaped d c (o, s) = (o, (saved_parts_of c, s.0, ap shape s.2))

-- ---- what is read only where the rows stand in order

-- what a fault of the shape says of the JSON tree
pub saved_fault : (d : Data) (f : JsonFault) → RefusesShape (saved_in d) f → IsSavedFault d (load_error_of f)
saved_fault d value.NotAValue e = λ s. no_shape saved_form saved_is d (unread_case (is_saved_in_order d) (saved_form.read d) e s.0) s.1
saved_fault d value.OutOfRange e = absurd e
saved_fault d value.Memory e = tt

pub unworded : (d : Data) → worded d ≡ None → saved_in d ≡ None
unworded d e = ap (λ o. cond (is_saved_in_order d) o None) (no_word (after (codes "client") saved_members).read d e) ∙ neither (is_saved_in_order d)

pub unknown : (d : Data) (w : List ℕ) (ds : Items) → worded d ≡ Some (w, ds) → bytes_eq w (codes "client") ≡ false → saved_in d ≡ None
unknown d w ds e h = ap saved_in (word_first d w ds e) ∙ rw h (neither (third_in_order ds))

pub unread_members : (ds : Items) → saved_members.read ds ≡ None → saved_after (codes "client") ds ≡ None
unread_members ds e = rw e (neither (third_in_order ds))

-- ---- the members, one by one

module _ (a b r : Data) (numbers : Numbers) (numbers_fit : Bool) (h : numbers_form.read a ≡ Some (numbers, numbers_fit)) where
  pub waiting_refused : (f : JsonFault) → RefusesShape (waiting_form.read b) f → RefusesShape (saved_after (codes "client") (item a (item b (item r no_items)))) f
  waiting_refused value.NotAValue e = unread_members (item a (item b (item r no_items))) (rw (h, e) refl)
  waiting_refused value.OutOfRange e = e
  waiting_refused value.Memory e = tt

  module _ (waiting : List Change) (waiting_fit : Bool) (k : waiting_form.read b ≡ Some (waiting, waiting_fit)) where
    pub saved_read : (es : List (ObjId × Object)) (fits : Bool) → rows_in r ≡ Some (es, fits)
        → saved_after (codes "client") (item a (item b (item r no_items))) ≡ Some ((numbers, (waiting, (es, tt))), numbers_fit && (waiting_fit && fits))
    saved_read es fits e =
        let t = tested_case (are_in_order r) (rows_form.read r) (es, fits) e in
        rw (t.0, h, k, t.1, and-true fits) refl

    rows_case : (t : Bool) (o : Option (List (ObjId × Object) × Bool)) → are_in_order r ≡ t → rows_form.read r ≡ o → cond t o None ≡ None
        → saved_after (codes "client") (item a (item b (item r no_items))) ≡ None
    rows_case true o i j e = rw (i, h, k, j, e) refl
    rows_case false o i j e = rw i refl

    pub rows_refused : (f : JsonFault) → RefusesShape (rows_in r) f → RefusesShape (saved_after (codes "client") (item a (item b (item r no_items)))) f
    rows_refused value.NotAValue e = rows_case (are_in_order r) (rows_form.read r) refl refl e
    rows_refused value.OutOfRange e = e
    rows_refused value.Memory e = tt

-- ---- what was read

module _ (d : Data) (p : SavedParts) (b : Bool) (e : saved_in d ≡ Some (p, b)) where
  was : (is_saved_in_order d ≡ true) × (saved_form.read d ≡ Some (p, b))
  was = tested_case (is_saved_in_order d) (saved_form.read d) (p, b) e

  stands : b ≡ true → StandsFor saved_form d p
  stands t = stands_for saved_form saved_is d p (was.1 ∙ ap (λ (f : Bool). Some (p, f)) t)

  -- what was read in range has rows of a document
  pub made : b ≡ true → AreDocument p.1.1.0
  made t = ordered_document p.1.1.0 (ap is_saved_in_order (stands t).2 ∙ was.0)

  json_was : b ≡ true → IsSavedJson d (client_of p)
  json_was t = (was.0, subst (StandsFor saved_form d) (sym (parts_back p (made t))) (stands t))

  pub saved_means : b ≡ true → IsShallowClient (client_of p) → Means IsSavedJson IsShallowClient d (client_of p)
  saved_means t s = (json_was t, s)

  pub saved_unfinished : b ≡ true → (f : LoadError) → MakesNoClient (client_of p) f → IsSavedFault d f
  saved_unfinished t NotJson h = absurd h
  saved_unfinished t NotAClient h = absurd h
  saved_unfinished t OutOfRange h = absurd h
  saved_unfinished t TooDeep deep = (client_of p, json_was t, deep)
  saved_unfinished t Inconsistent h = (client_of p, (json_was t, h.0), h.1)
  saved_unfinished t Memory h = tt

  pub saved_out : b ≡ false → IsOut IsSavedShape IsSavedJson d
  saved_out t =
      let out = out_of_range saved_form saved_is d p (was.1 ∙ ap (λ (f : Bool). Some (p, f)) t) in
      ((was.0, out.0), λ c s. out.1 (saved_parts_of c) s.1)

-- ---- bytes

-- bytes that spell a client have one JSON tree, and it is this client's
module _ (bytes : List ℕ) (d : Data) (j : IsJson bytes d) (client : Client) (spells : SpellsClient bytes client) where
  its_json : IsSavedJson d client
  its_json = subst (λ e. IsSavedJson e client) (same_Some spells.0 d (sym spells.1.1 ∙ j.1)) spells.2.0

  pub spells_one : (other : Client) → Means IsSavedJson IsShallowClient d other → other ≡ client
  spells_one other m = one_client d other client m.0 its_json

  pub only_memory : IsKept client → (f : LoadError) → IsSavedFault d f → f ≡ Memory
  only_memory kept NotJson h = absurd h
  only_memory kept NotAClient h = absurd (h (saved_shaped d client its_json))
  only_memory kept OutOfRange h = absurd (h.1 client its_json)
  only_memory kept TooDeep h = absurd (h.2 (subst IsShallowClient (one_client d client h.0 its_json h.1) spells.2.1))
  only_memory kept Inconsistent h = absurd (h.2 (subst IsKept (sym (spells_one h.0 h.1)) kept))
  only_memory kept Memory h = refl

-- a fault of the JSON tree is one of the bytes
pub bytes_fault : (bytes : List ℕ) (d : Data) (f : LoadError) → IsJson bytes d → IsSavedFault d f → IsLoadError bytes f
bytes_fault bytes d NotJson j h = absurd h
bytes_fault bytes d NotAClient j h = (d, j, h)
bytes_fault bytes d OutOfRange j h = (d, j, h)
bytes_fault bytes d TooDeep j h = (d, h.0, j, h.1, h.2)
bytes_fault bytes d Inconsistent j h = (h.0, (d, j, h.1), h.2)
bytes_fault bytes d Memory j h = tt

-- ---- what is written

changes_no_float : (xs : List Change) → items_have_float (each_written change_form.write xs) ≡ false
changes_no_float [] = refl
changes_no_float (x ∷ xs) = rw (change_no_float x, changes_no_float xs) refl

numbers_no_float : (n : Numbers) → has_float (numbers_form.write n) ≡ false
numbers_no_float n = by n.0
  where
    by : (id : Option ℕ) → has_float (numbers_form.write (id, n.1)) ≡ false
    by None = refl
    by (Some id) = refl

pub saved_no_float : (c : Client) → has_float (saved_form.write (saved_parts_of c)) ≡ false
saved_no_float c = rw (numbers_no_float (saved_parts_of c).0, changes_no_float c.waiting, rows_no_float (map.entries c.view)) refl

changes_nest : (xs : List Change) → All HoldsShallow xs → D.items_depth (each_written change_form.write xs) ≤ 18
changes_nest [] h = omega arith
changes_nest (x ∷ xs) h =
    let here = change_nests x (All-head HoldsShallow x xs h) in
    let rest : D.items_depth (each_written change_form.write xs) ≤ 18 = changes_nest xs (All-tail HoldsShallow x xs h) in
    omega arith

numbers_nest : (n : Numbers) → D.depth (numbers_form.write n) ≤ 2
numbers_nest n = by n.0
  where
    by : (id : Option ℕ) → D.depth (numbers_form.write (id, n.1)) ≤ 2
    by None = omega arith
    by (Some id) = omega arith

pub saved_nests : (c : Client) → IsShallowClient c → D.depth (saved_form.write (saved_parts_of c)) ≤ 127
saved_nests c h =
    let numbers = numbers_nest (saved_parts_of c).0 in
    let waiting = changes_nest c.waiting h.0 in
    let rows = rows_nest c.view h.1 in
    omega arith

each_sound : (xs : List Change) → All IsSoundChange xs → each_test change_form.sound xs ≡ true
each_sound [] h = refl
each_sound (x ∷ xs) h = rw ((All-head IsSoundChange x xs h).sound, each_sound xs (All-tail IsSoundChange x xs h)) refl

each_fits : (xs : List Change) → All IsSoundChange xs → each_test change_form.fits xs ≡ true
each_fits [] h = refl
each_fits (x ∷ xs) h = rw ((All-head IsSoundChange x xs h).in_range, each_fits xs (All-tail IsSoundChange x xs h)) refl

pub each_shallow : (xs : List Change) → All IsSoundChange xs → All HoldsShallow xs
each_shallow xs h k d lt = (h k d lt).shallow

numbers_sound : (n : Numbers) → numbers_form.sound n ≡ true
numbers_sound n = by n.0
  where
    by : (id : Option ℕ) → numbers_form.sound (id, n.1) ≡ true
    by None = refl
    by (Some id) = refl

pub any_fits : (n : ℕ) → n < 18446744073709551616 → any_form.fits n ≡ true
any_fits n h = grind (arith, h)

pub numbers_fit : (c : Client) → (maybe client_form).fits c.id ≡ true → client_form.fits c.counter ≡ true → any_form.fits c.version ≡ true → c.acknowledged ≤ 4611686018427387904 → numbers_form.fits (saved_parts_of c).0 ≡ true
numbers_fit c id counter version acknowledged = rw (id, counter, version, version_fits c.acknowledged acknowledged) refl

pub stands_written : (c : Client) → All IsSoundChange c.waiting → numbers_form.fits (saved_parts_of c).0 ≡ true → rows_form.sound (map.entries c.view) ≡ true → rows_form.fits (map.entries c.view) ≡ true
    → are_in_order (rows_form.write (map.entries c.view)) ≡ true → IsSavedJson (saved_form.write (saved_parts_of c)) c
stands_written c waiting numbers rows_sound rows_fit ordered =
    (ordered, (rw (numbers_sound (saved_parts_of c).0, each_sound c.waiting waiting, rows_sound) refl, rw (numbers, each_fits c.waiting waiting, rows_fit) refl, refl))

-- ---- the edits that wait, one by one

-- what holds of each that is found holds of all
pub all_found : (P : Change → Type 0) (xs : List Change) (n : ℕ) → length xs ≤ n → ((k : ℕ) (x : Change) → k < n → slice_get xs k ≡ Some x → P x) → All P xs
all_found P xs n long each k d lt = each k (get_or xs k d) (omega (arith, lt, long)) (slice_get-get_or xs k d lt)

-- one more
pub found_more : (P : Change → Type 0) (xs : List Change) (n : ℕ) (x : Change) → slice_get xs n ≡ Some x → P x → ((k : ℕ) (y : Change) → k < n → slice_get xs k ≡ Some y → P y) → (k : ℕ) (y : Change) → k < n + 1 → slice_get xs k ≡ Some y → P y
found_more P xs n x there holds each k y lt found = by (cases_lt k n)
  where
    by : (k < n) ⊎ (n ≤ k) → P y
    by (inl less) = each k y less found
    by (inr more) =
        let at : k ≡ n = omega (arith, lt, more) in let f : Some x ≡ Some y = sym there ∙ ap (slice_get xs) (sym at) ∙ found in let same : x ≡ y = cc in subst P same holds

-- one more of them is written
pub written_more : (out ws : List Data) (xs : List Change) (n : ℕ) (x : Change) → slice_get xs n ≡ Some x → n < length xs → ws ≡ list_map change_form.write (take n xs) → out ≡ ws ++ change_form.write x ∷ [] → out ≡ list_map change_form.write (take (n + 1) xs)
written_more out ws xs n x there lt so_far now =
    now ∙ ap (λ l. l ++ change_form.write x ∷ []) so_far ∙ sym (map-append change_form.write (take n xs) (x ∷ [])) ∙ ap (list_map change_form.write) (sym next)
  where
    next : take (n + 1) xs ≡ take n xs ++ x ∷ []
    next = rw add-one (take-suc xs n x lt ∙ ap (λ y. take n xs ++ y ∷ []) (get_or_from_slice_get xs n x x there))

-- ---- the edits that were read

one_shallow : (x : Change) → HoldsShallow x → All HoldsShallow (x ∷ [])
one_shallow x holds zero d lt = holds
one_shallow x holds (suc k) d lt = absurd (omega (arith, lt))

-- one more isn't too deep
pub shallow_more : (xs : List Change) (x : Change) → All HoldsShallow xs → HoldsShallow x → All HoldsShallow (xs ++ x ∷ [])
shallow_more xs x all holds = All-append HoldsShallow xs (x ∷ []) all (one_shallow x holds)
