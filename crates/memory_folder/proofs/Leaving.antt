-- What a crash leaves that keeps this much, a crash may leave.
use Rattle.std.proofs.Common.{◌≡◌, ◌<◌, ◌≤◌, ◌+◌, ◌-◌, inl, inr, ℕ, zero, suc, Bool, true, false, ◌&&◌, List, [], ◌∷◌, ◌++◌, length, get_or, take, drop, map, refl, sym, ◌∙◌, ap, subst, arith, take-append-drop}
use Rattle.std.specs.Prelude.{min, not, Option, Some, None, unwrap_or}
use Rattle.std.proofs.Math.Seq.{take-append-add}
use Rattle.std.proofs.lemmas.Bool.{and_parts, and_from}
use Rattle.std.proofs.lemmas.List.{length-take, map-append, take_more, take_all}
use Rattle.canvas_shelf.specs.Disk.{IsBeginning}
use Rattle.canvas_folder.specs.Names.{same}
use Rattle.canvas_folder.specs.Files.{File, Left, HasSynced, MayMiss, FileMayHold, MayLeave, IsSoundFolder, is_new}
use Rattle.canvas_folder.specs.Sound.{same_is, same_self}
use Rattle.memory_folder.specs.Held.{file_of, held_files}
use Rattle.memory_folder.specs.Left.{asked_to_stay, synced_size, size_with, size_staying, file_in_front, files_left_by, certain_file}
use Rattle.memory_folder.specs.Sound.{has_synced, is_sound, sound_of}
use Rattle.memory_folder.specs.declared.held.Held.{Held}

-- WHAT MAY BE LEFT

front_stays : (synced : Option (List ℕ)) (bytes : List ℕ) (more : ℕ) → HasSynced synced bytes → HasSynced synced (take (size_with synced bytes more) bytes)
front_stays None bytes more has = tt
front_stays (Some front) bytes more has =
    let m = min more (length bytes - length front) in
    record { rest = take m has.rest; same = sym (ap (take (length front + m)) (sym has.same) ∙ take-append-add front has.rest m) }

beginning : (n : ℕ) (bytes : List ℕ) → IsBeginning (take n bytes) bytes
beginning n bytes = record { rest = drop n bytes; same = take-append-drop n bytes }

missing : (there sure : Bool) (synced : Option (List ℕ)) (bytes : List ℕ) (asked : Option ℕ) → size_staying there sure synced bytes asked ≡ None → MayMiss there sure
missing false sure synced bytes asked is = tt
missing true true synced bytes asked is = absurd (cc)
missing true false synced bytes asked is = tt

held : (there sure again : Bool) (synced : Option (List ℕ)) (bytes : List ℕ) (asked : Option ℕ) (size : ℕ) → HasSynced synced bytes → size_staying there sure synced bytes asked ≡ Some size
    → FileMayHold there sure again synced bytes (take size bytes)
held false sure again synced bytes asked size has is = absurd (cc)
held true true again synced bytes asked size has is =
    let n : size_with synced bytes (unwrap_or asked 0) ≡ size = cc in
    (subst (λ (k : ℕ). HasSynced synced (take k bytes)) n (front_stays synced bytes (unwrap_or asked 0) has), beginning size bytes)
held true false true synced bytes asked size has is = tt
held true false false synced bytes None size has is = absurd (cc)
held true false false synced bytes (Some more) size has is =
    let n : size_with synced bytes more ≡ size = cc in
    (subst (λ (k : ℕ). HasSynced synced (take k bytes)) n (front_stays synced bytes more has), beginning size bytes)

leaves_one : (f : File) (fs : List File) (rest : Left) (asked o : Option ℕ) → size_staying f.there f.sure f.synced f.bytes asked ≡ o → HasSynced f.synced f.bytes → MayLeave fs rest
    → MayLeave (f ∷ fs) (file_in_front o f.name f.bytes rest)
leaves_one f fs rest asked None is has may = inl (missing f.there f.sure f.synced f.bytes asked is, may)
leaves_one f fs rest asked (Some size) is has may = inr (take size f.bytes, rest, refl, held f.there f.sure f.again f.synced f.bytes asked size has is, may)

leaves_all : (keep : List (List ℕ × ℕ)) (fs : List File) → IsSoundFolder fs → MayLeave fs (files_left_by keep fs)
leaves_all keep [] sound = refl
leaves_all keep (f ∷ fs) sound =
    leaves_one f fs (files_left_by keep fs) (asked_to_stay f.name keep) (size_staying f.there f.sure f.synced f.bytes (asked_to_stay f.name keep)) refl sound.1 (leaves_all keep fs sound.2)

pub leaves : (keep : List (List ℕ × ℕ)) (fs : List File) → is_sound fs ≡ true → MayLeave fs (files_left_by keep fs)
leaves keep fs sound = leaves_all keep fs (sound_of fs sound)

-- WHAT IS LEFT IS SOUND

new_front : (x : List ℕ) (o : Option ℕ) (name bytes : List ℕ) (rest : Left) → not (same name x) ≡ true → is_new x (map certain_file rest) ≡ true → is_new x (map certain_file (file_in_front o name bytes rest)) ≡ true
new_front x None name bytes rest other new = new
new_front x (Some size) name bytes rest other new = and_from (not (same name x)) (is_new x (map certain_file rest)) other new

new_left : (x : List ℕ) (keep : List (List ℕ × ℕ)) (fs : List File) → is_new x fs ≡ true → is_new x (map certain_file (files_left_by keep fs)) ≡ true
new_left x keep [] new = refl
new_left x keep (f ∷ fs) new =
    let both = and_parts (not (same f.name x)) (is_new x fs) new in
    new_front x (size_staying f.there f.sure f.synced f.bytes (asked_to_stay f.name keep)) f.name f.bytes (files_left_by keep fs) both.0 (new_left x keep fs both.1)

whole : (bytes : List ℕ) → has_synced (Some bytes) bytes ≡ true
whole bytes = ap (same bytes) (take_all (length bytes) bytes (omega arith)) ∙ same_self bytes

sound_front : (o : Option ℕ) (name bytes : List ℕ) (rest : Left) → is_new name (map certain_file rest) ≡ true → is_sound (map certain_file rest) ≡ true → is_sound (map certain_file (file_in_front o name bytes rest)) ≡ true
sound_front None name bytes rest new sound = sound
sound_front (Some size) name bytes rest new sound =
    and_from (is_new name (map certain_file rest)) (has_synced (Some (take size bytes)) (take size bytes) && is_sound (map certain_file rest)) new
    (and_from (has_synced (Some (take size bytes)) (take size bytes)) (is_sound (map certain_file rest)) (whole (take size bytes)) sound)

pub sound_left : (keep : List (List ℕ × ℕ)) (fs : List File) → is_sound fs ≡ true → is_sound (map certain_file (files_left_by keep fs)) ≡ true
sound_left keep [] sound = refl
sound_left keep (f ∷ fs) sound =
    let both = and_parts (is_new f.name fs) (has_synced f.synced f.bytes && is_sound fs) sound in
    let more = and_parts (has_synced f.synced f.bytes) (is_sound fs) both.1 in
    sound_front (size_staying f.there f.sure f.synced f.bytes (asked_to_stay f.name keep)) f.name f.bytes (files_left_by keep fs) (new_left f.name keep fs both.0) (sound_left keep fs more.1)

-- ONE FILE AFTER THE OTHER

front_append : (o : Option ℕ) (name bytes : List ℕ) (rest more : Left) → file_in_front o name bytes (rest ++ more) ≡ file_in_front o name bytes rest ++ more
front_append None name bytes rest more = refl
front_append (Some size) name bytes rest more = refl

left_append : (keep : List (List ℕ × ℕ)) (xs ys : List File) → files_left_by keep (xs ++ ys) ≡ files_left_by keep xs ++ files_left_by keep ys
left_append keep [] ys = refl
left_append keep (f ∷ xs) ys =
    let o = size_staying f.there f.sure f.synced f.bytes (asked_to_stay f.name keep) in
    ap (file_in_front o f.name f.bytes) (left_append keep xs ys) ∙ front_append o f.name f.bytes (files_left_by keep xs) (files_left_by keep ys)

one_more : (keep : List (List ℕ × ℕ)) (fs : List Held) (i : ℕ) (x : Held) → i < length fs → x ≡ get_or fs i x
    → files_left_by keep (held_files (take (i + 1) fs)) ≡ files_left_by keep (held_files (take i fs)) ++ files_left_by keep (file_of x ∷ [])
one_more keep fs i x less is =
    ap (λ (l : List Held). files_left_by keep (held_files l)) (take_more fs i x less ∙ ap (λ (y : Held). take i fs ++ y ∷ []) (sym is))
    ∙ ap (files_left_by keep) (map-append file_of (take i fs) (x ∷ [])) ∙ left_append keep (held_files (take i fs)) (file_of x ∷ [])

module _ (keep : List (List ℕ × ℕ)) (fs : List Held) (i : ℕ) (x : Held) (less : i < length fs) (is : x ≡ get_or fs i x) where
  at : (o : Option ℕ) → size_staying x.there x.sure (file_of x).synced x.bytes.items (asked_to_stay x.name.items keep) ≡ o → files_left_by keep (file_of x ∷ []) ≡ file_in_front o x.name.items x.bytes.items []
  at o so = ap (λ (k : Option ℕ). file_in_front k x.name.items x.bytes.items []) so

  pub missing_more : (left : List Held) → size_staying x.there x.sure (file_of x).synced x.bytes.items (asked_to_stay x.name.items keep) ≡ None
      → held_files left ≡ map certain_file (files_left_by keep (held_files (take i fs))) → held_files left ≡ map certain_file (files_left_by keep (held_files (take (i + 1) fs)))
  missing_more left none so_far =
      so_far ∙ sym (ap (map certain_file) (one_more keep fs i x less is ∙ ap (λ (l : Left). files_left_by keep (held_files (take i fs)) ++ l) (at None none)) ∙ map-append certain_file (files_left_by keep (held_files (take i fs))) [] ∙ append_nil (map certain_file (files_left_by keep (held_files (take i fs)))))
    where
      append_nil : (l : List File) → l ++ [] ≡ l
      append_nil [] = refl
      append_nil (f ∷ l) = ap (λ (m : List File). f ∷ m) (append_nil l)

  pub there_more : (left : List Held) (y : Held) (size : ℕ) → size_staying x.there x.sure (file_of x).synced x.bytes.items (asked_to_stay x.name.items keep) ≡ Some size
      → file_of y ≡ certain_file (x.name.items, take size x.bytes.items)
      → held_files left ≡ map certain_file (files_left_by keep (held_files (take i fs))) → held_files (left ++ y ∷ []) ≡ map certain_file (files_left_by keep (held_files (take (i + 1) fs)))
  there_more left y size some made so_far =
      map-append file_of left (y ∷ [])
      ∙ ap (λ (l : List File). l ++ file_of y ∷ []) so_far
      ∙ ap (λ (f : File). map certain_file (files_left_by keep (held_files (take i fs))) ++ f ∷ []) made
      ∙ sym (ap (map certain_file) (one_more keep fs i x less is ∙ ap (λ (l : Left). files_left_by keep (held_files (take i fs)) ++ l) (at (Some size) some))
      ∙ map-append certain_file (files_left_by keep (held_files (take i fs))) ((x.name.items, take size x.bytes.items) ∷ []))

-- each file fits
pub sound_at : (fs : List Held) (i : ℕ) (x : Held) → i < length fs → x ≡ get_or fs i x → is_sound (held_files fs) ≡ true → has_synced (file_of x).synced x.bytes.items ≡ true
sound_at [] i x less is sound = absurd (omega arith)
sound_at (f ∷ fs) zero x less is sound =
    let both = and_parts (is_new f.name.items (held_files fs)) (has_synced (file_of f).synced f.bytes.items && is_sound (held_files fs)) sound in
    ap (λ (h : Held). has_synced (file_of h).synced h.bytes.items) is ∙ (and_parts (has_synced (file_of f).synced f.bytes.items) (is_sound (held_files fs)) both.1).0
sound_at (f ∷ fs) (suc i) x less is sound =
    let both = and_parts (is_new f.name.items (held_files fs)) (has_synced (file_of f).synced f.bytes.items && is_sound (held_files fs)) sound in
    sound_at fs i x (omega arith) is (and_parts (has_synced (file_of f).synced f.bytes.items) (is_sound (held_files fs)) both.1).1

-- no more was synced than is there
pub synced_fits : (synced : Option (List ℕ)) (bytes : List ℕ) → has_synced synced bytes ≡ true → synced_size synced ≤ length bytes
synced_fits None bytes has = omega arith
synced_fits (Some front) bytes has =
    let long = ap length (same_is front (take (length front) bytes) has) in
    omega (arith, long, length-take (length front) bytes)
