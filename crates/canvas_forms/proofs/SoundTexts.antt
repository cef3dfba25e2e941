-- Whose texts are of the kind that they are to be.
use Rattle.std.proofs.Common.{◌≡◌, List, [], ◌∷◌, Some, None, true, refl}
use Rattle.canvas_model.specs.declared.ObjId.{ObjId}
use Rattle.canvas_model.specs.Change.{Change, Create, Set, Move, Delete}
use Rattle.canvas_doc.specs.Known.{IsChange}
use Rattle.canvas_codec.specs.Parts.{each_test}
use Rattle.canvas_value.proofs.NameText.{is_name-from}
use Rattle.canvas_forms.specs.Ids.{id_form}
use Rattle.canvas_forms.specs.Changes.{change_form}
use Rattle.canvas_forms.proofs.Docs.{kind_sound}
use Rattle.canvas_forms.proofs.Ranges.{place_sound}

pub ids_sound : (ids : List ObjId) → each_test id_form.sound ids ≡ true
ids_sound [] = refl
ids_sound (id ∷ ids) = ids_sound ids

pub change_sound : (change : Change) → IsChange change → change_form.sound change ≡ true
change_sound (Create id kind place) h = rw (place_sound place h.1, kind_sound kind) refl
change_sound (Set id name None) h = rw (is_name-from name h.1.name) refl
change_sound (Set id name (Some value)) h = rw (is_name-from name h.1.name) refl
change_sound (Move id place) h = rw (place_sound place h.1) refl
change_sound (Delete id) h = refl
