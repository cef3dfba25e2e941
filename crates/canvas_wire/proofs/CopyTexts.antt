-- The text of a copy, part by part.
use Rattle.std.proofs.Common.{◌≡◌, ℕ, ◌<◌, ◌^◌, ◌++◌, nat_lt, List, [], ◌∷◌, true, codes, refl, ap, sym, ◌∙◌, append_assoc, arith}
use Rattle.serde_json.specs.Data as D
use Rattle.serde_json.specs.Data.{unsigned, string, array, Items, no_items, item}
use Rattle.serde_json.specs.Written.{compact_text}
use Rattle.serde_json.proofs.OnLiterals.{serde_json_on_literals}
use Rattle.canvas_model.specs.Document.{Doc}
use Rattle.canvas_model.specs.Messages as messages
use Rattle.std.specs.FinMap as map
use Rattle.canvas_forms.specs.Version.{version_two}
use Rattle.canvas_forms.specs.Rows.{rows_form}
use Rattle.canvas_forms.proofs.Plain.{is_plain, rows_plain}
use Rattle.canvas_wire.specs.Messages.{message_json, copy_start}

abbrev copy_array : ℕ → ℕ → Items → D.Data
copy_array version done rows = array (item (string (codes "copy")) (item (D.number (unsigned version)) (item (D.number (unsigned done)) (item (array rows) no_items))))

-- its beginning, its rows and the bracket at its end
copy_parts : (version done : ℕ) (rows : Items) → compact_text (copy_array version done rows) ≡ (copy_start version done ++ compact_text (array rows)) ++ 93 ∷ []
unfolding serde_json_on_literals
copy_parts version done rows = simp append_assoc

pub copy_whole : (version done : ℕ) (rows : Items) (start most all whole : List ℕ) → start ≡ copy_start version done → most ≡ start ++ compact_text (array rows) → all ≡ most ++ 93 ∷ [] → whole ≡ all
    → whole ≡ compact_text (copy_array version done rows)
copy_whole version done rows start most all whole h k l same = same ∙ l ∙ ap (λ t. t ++ 93 ∷ []) (k ∙ ap (λ t. t ++ compact_text (array rows)) h) ∙ sym (copy_parts version done rows)

below : (n : ℕ) → n < 2 ^ 64 → nat_lt n (2 ^ 64) ≡ true
below n h = grind (arith, h)

pub copy_plain : (version done : ℕ) (doc : Doc) → version < 2 ^ 64 → done < 2 ^ 64 → rows_form.fits (map.entries doc) ≡ true → is_plain (message_json version_two (messages.Copy version done doc)) ≡ true
copy_plain version done doc h k fits = rw (below version h, below done k, rows_plain (map.entries doc) fits) refl
