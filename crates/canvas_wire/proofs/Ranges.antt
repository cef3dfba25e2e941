-- The numbers of entries and of heads of checkpoints are in their ranges, as far as their types say it.
use Rattle.std.proofs.Common.{◌≡◌, ℕ, zero, suc, ◌≤◌, List, [], ◌∷◌, All, true, refl, arith}
use Rattle.std.specs.Option.{option_map, unwrap_or}
use Rattle.std.proofs.lemmas.List.Elements.{All-head, All-tail}
use Rattle.canvas_model.specs.declared.Counts.{Counts}
use Rattle.canvas_model.specs.State.{done}
use Rattle.canvas_model.specs.Numbered.{nth}
use Rattle.canvas_model.specs.Log.{Entry, last_version}
use Rattle.canvas_codec.specs.Parts.{each_test}
use Rattle.canvas_forms.specs.Version.{version_two}
use Rattle.canvas_forms.specs.Ids.{client_form}
use Rattle.canvas_forms.specs.Outcomes.{outcome_form}
use Rattle.canvas_forms.proofs.Ranges.{version_fits}
use Rattle.canvas_forms.specs.Entries.{what_form}
use Rattle.canvas_wire.specs.Checkpoints.{counts_form, clients_form}
use Rattle.canvas_wire.specs.Heads.{Head, count_form}
use Rattle.canvas_forms.specs.EntryTexts.{IsEntryInRange}
use Rattle.canvas_wire.specs.Text.{IsHeadInRange}

pub entry_fits : (e : Entry) → client_form.fits e.author ≡ true → what_form.fits e.what ≡ true → (outcome_form version_two).fits e.outcome ≡ true → e.seq ≤ last_version → IsEntryInRange e
entry_fits e author what outcome seq = rw (author, version_fits e.seq seq, what, outcome) refl

-- ---- counts of clients

-- what a client of this list has done
abbrev done_in : List Counts → ℕ → ℕ
done_in xs c = unwrap_or (option_map (λ k. k.done) (nth xs c)) 0

done_later : (x : Counts) (xs : List Counts) → ((c : ℕ) → done_in (x ∷ xs) c ≤ 4611686018427387904) → (c : ℕ) → done_in xs c ≤ 4611686018427387904
done_later x xs h zero = omega arith
done_later x xs h (suc i) = h (suc (suc i))

pub clients_sound : (xs : List Counts) → clients_form.sound xs ≡ true
clients_sound [] = refl
clients_sound (x ∷ xs) = clients_sound xs

-- ---- heads of checkpoints

pub count_within : (n : ℕ) → count_form.fits n ≡ true → (1 ≤ n) × (n ≤ last_version)
count_within n h = (grind (arith, h), grind (arith, h))

count_fits : (n : ℕ) → 1 ≤ n → n ≤ last_version → count_form.fits n ≡ true
count_fits n low high = grind (arith, low, high)

-- what a client has done is no more than a log has entries, and what it used is of 32 bits
each_fits : (xs : List Counts) → All (λ k. k.done ≤ last_version) xs → All (λ k. client_form.fits k.used ≡ true) xs → each_test counts_form.fits xs ≡ true
each_fits [] h k = refl
each_fits (x ∷ xs) h k =
    let here : x.done ≤ last_version = All-head (λ (y : Counts). y.done ≤ last_version) x xs h in
    let used : client_form.fits x.used ≡ true = All-head (λ (y : Counts). client_form.fits y.used ≡ true) x xs k in
    rw (version_fits x.done here, used, each_fits xs (All-tail (λ (y : Counts). y.done ≤ last_version) x xs h) (All-tail (λ (y : Counts). client_form.fits y.used ≡ true) x xs k)) refl

pub head_fits : (h : Head) → All (λ k. client_form.fits k.used ≡ true) h.clients → h.version ≤ last_version → All (λ k. k.done ≤ last_version) h.clients → 1 ≤ h.count → h.count ≤ last_version → IsHeadInRange h
head_fits h used few done low high = rw (version_fits h.version few, each_fits h.clients done used, count_fits h.count low high) refl

-- the same, of each client by itself
pub each_done : (xs : List Counts) → ((c : ℕ) → done_in xs c ≤ 4611686018427387904) → All (λ k. k.done ≤ last_version) xs
each_done [] h i d lt = absurd (omega (arith, lt))
each_done (x ∷ xs) h zero d lt = h 1
each_done (x ∷ xs) h (suc i) d lt = each_done xs (done_later x xs h) i d (omega (arith, lt))
