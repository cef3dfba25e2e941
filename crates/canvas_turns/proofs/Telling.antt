-- What is told unasked: a front of what there is to tell.
use Rattle.std.proofs.Common.{◌≡◌, ℕ, zero, suc, ◌+◌, ◌-◌, ◌<◌, ◌≤◌, List, [], ◌∷◌, get_or, length, map, take, Option, Some, refl, ap, sym, subst, ◌∙◌, arith}
use Rattle.std.specs.Prelude.{option_map, slice_get}
use Rattle.std.proofs.lemmas.List.{take-map, length-map}
use Rattle.std.proofs.lemmas.Option.{none-some, same_Some, slice_get-map, slice_get_read}
use Rattle.canvas_model.specs.Messages.{Message}
use Rattle.canvas_nodes.specs.Answers.{AreMessageTexts}
use Rattle.tungstenite.specs.Socket.{Socket}
use Rattle.tungstenite.specs.declared.error.Error.{Error}
use Rattle.canvas_sockets.specs.Served.{StopsWriting, WritesEach}
use Rattle.net_outbox.specs.Outboxes.{contents_of}
use Rattle.canvas_turns.specs.Lines.{OpenLine}
use Rattle.canvas_turns.specs.Told.{AreAll, TellsInTexts, TellsSome, version_told}

-- a front of the texts is the texts of a front
texts_front : (n : ℕ) (ts : List (List ℕ)) (ms : List Message) → AreMessageTexts ts ms → AreMessageTexts (take n ts) (take n ms)
texts_front zero ts ms are = tt
texts_front (suc n) [] [] are = tt
texts_front (suc n) [] (m ∷ ms) are = absurd are
texts_front (suc n) (t ∷ ts) [] are = absurd are
texts_front (suc n) (t ∷ ts) (m ∷ ms) are = (are.0, texts_front n ts ms are.1)

-- as many texts as messages
as_many : (ts : List (List ℕ)) (ms : List Message) → AreMessageTexts ts ms → length ts ≡ length ms
as_many [] [] are = refl
as_many [] (m ∷ ms) are = absurd are
as_many (t ∷ ts) [] are = absurd are
as_many (t ∷ ts) (m ∷ ms) are = ap suc (as_many ts ms are.1)

-- a front of a front
front_of_front : {X : Type 0} (n k : ℕ) (xs : List X) → n ≤ length (take k xs) → take n (take k xs) ≡ take n xs
front_of_front zero k xs few = refl
front_of_front (suc n) zero xs few = absurd (omega (arith, few))
front_of_front (suc n) (suc k) [] few = refl
front_of_front {X = X} (suc n) (suc k) (x ∷ xs) few = ap (λ (l : List X). x ∷ l) (front_of_front n k xs (omega (arith, few)))

-- what stands in a front stands there
get_front : {X : Type 0} (k place : ℕ) (xs : List X) (x : X) → slice_get (take k xs) place ≡ Some x → slice_get xs place ≡ Some x
get_front zero place xs x is = absurd (none-some x is)
get_front (suc k) place [] x is = is
get_front (suc k) zero (y ∷ xs) x is = is
get_front (suc k) (suc place) (y ∷ xs) x is = get_front k place xs x is

-- what a borrower sees of such texts
pub borrowed_all : {V : Type 0} (Whispers : List ℕ → Type 0) (text_of : V → List ℕ) (vs lent : List V) → AreAll Whispers (map text_of vs) → lent ≡ vs → AreAll Whispers (map text_of lent)
borrowed_all {V = V} Whispers text_of vs lent are borrowed = subst (λ (l : List V). AreAll Whispers (map text_of l)) (sym borrowed) are

-- a front of such texts is of such texts
front_of_all : {V : Type 0} (Whispers : List ℕ → Type 0) (text_of : V → List ℕ) (n : ℕ) (vs : List V) → AreAll Whispers (map text_of vs) → AreAll Whispers (map text_of (take n vs))
front_of_all Whispers text_of zero vs are = tt
front_of_all Whispers text_of (suc n) [] are = tt
front_of_all Whispers text_of (suc n) (v ∷ vs) are = (are.0, front_of_all Whispers text_of n vs are.1)

-- a front of what a borrower sees of such texts is of such texts
pub front_all : {V : Type 0} (Whispers : List ℕ → Type 0) (text_of : V → List ℕ) (n : ℕ) (vs lent : List V) → AreAll Whispers (map text_of vs) → lent ≡ vs → AreAll Whispers (map text_of (take n lent))
front_all {V = V} Whispers text_of n vs lent are borrowed =
    subst (λ (l : List V). AreAll Whispers (map text_of (take n l))) (sym borrowed) (front_of_all Whispers text_of n vs are)

-- the message at a place
told_at : (told : List Message) (place : ℕ) → place < length told → (last : Message) × (slice_get told place ≡ Some last)
told_at [] place within = absurd (omega arith)
told_at (m ∷ ms) zero within = (m, refl)
told_at (m ∷ ms) (suc place) within = told_at ms place (omega arith)

module _ {A : Type 0} (Tells : A → List Message → A → Type 0) where
  -- the version of a text that was written has a place
  pub has_version : {V : Type 0} (text_of : V → List ℕ) (vs lent : List V) (versions : List ℕ) (n : ℕ) (old new : A) → TellsInTexts Tells old (map text_of vs) versions new → lent ≡ vs → n ≤ length lent → 0 < n
      → n - 1 < length versions
  has_version text_of vs lent versions n old new (told, k, least, tells, are, same) borrowed most some =
      let count : length (take k told) ≡ length vs = sym (as_many (map text_of vs) (take k told) are) ∙ length-map vs text_of in
      let as_versions : length versions ≡ length (take k told) = ap length same ∙ length-map (take k told) version_told in
      let whole : length lent ≡ length vs = ap length borrowed in
      omega (arith, count, as_versions, whole, most, some)

  -- some of what there is to tell didn't join the output
  pub stops_told : {S V : Type 0} (contents : S → Option (List ℕ)) (text_of : V → List ℕ) (vs lent : List V) (versions : List ℕ) (e : Error) (old rested new : A) (before after : Socket S) → TellsInTexts Tells rested (map text_of vs) versions new
      → rested ≡ old → lent ≡ vs → StopsWriting contents before (map text_of lent) e after
      → (told : List Message) × (k : ℕ) × (texts : List (List ℕ)) × Tells old told new × AreMessageTexts texts (take k told) × StopsWriting contents before texts e after
  stops_told {V = V} contents text_of vs lent versions e old rested new before after (told, k, least, tells, are, same) still borrowed stops = (
    told,
    k,
    map text_of vs,
    subst (λ (a : A). Tells a told new) still tells,
    are,
    subst (λ (l : List V). StopsWriting contents before (map text_of l) e after) borrowed stops,
  )

  -- so many texts joined the output, one at least
  pub tells_some : {I O V : Type 0} (GoesTo : A → ℕ → A → Type 0) (contents : O → Option (List ℕ)) (text_of : V → List ℕ) (vs lent : List V) (versions : List ℕ) (n version : ℕ)
      (old rested : A) (before : OpenLine I O) (looked new : A) (after : OpenLine I O)
      → TellsInTexts Tells rested (map text_of vs) versions looked → rested ≡ old → lent ≡ vs → 0 < n → n ≤ length lent → version ≡ get_or versions (n - 1) version
      → WritesEach (contents_of contents) before.writer (map text_of (take n lent)) after.writer → after.reader ≡ before.reader → GoesTo looked version new
      → TellsSome Tells GoesTo contents old before new after
  tells_some {V = V} GoesTo contents text_of vs lent versions n version old rested before looked new after (told, k, least, tells, are, is) still borrowed some most at wrote same moved =
      let first = take k told in
      let whole : length lent ≡ length vs = ap length borrowed in
      let count : length first ≡ length vs = sym (as_many (map text_of vs) first are) ∙ length-map vs text_of in
      let as_versions : length versions ≡ length first = ap length is ∙ length-map first version_told in
      let last = told_at first (n - 1) (omega (arith, count, whole, most, some)) in
      let place : n ≡ n - 1 + 1 = omega (arith, some) in
      let leads : Some (version_told last.0) ≡ Some version
      = sym (slice_get-map version_told first (n - 1) ∙ ap (option_map version_told) last.1) ∙ ap (λ (l : List ℕ). slice_get l (n - 1)) (sym is) ∙ slice_get_read versions (length versions) (n - 1) version refl (omega (arith, count, as_versions, whole, most, some)) at in
      let front : AreMessageTexts (map text_of (take n vs)) (take n told)
      = subst (λ (ms : List Message). AreMessageTexts (map text_of (take n vs)) ms) (front_of_front n k told (omega (arith, count, whole, most)))
      (subst (λ (ts : List (List ℕ)). AreMessageTexts ts (take n first)) (take-map text_of n vs) (texts_front n (map text_of vs) first are)) in
      record {
        told = told;
        looked = looked;
        finds = subst (λ (a : A). Tells a told looked) still tells;
        place = n - 1;
        last = last.0;
        is_last = get_front k (n - 1) told last.0 last.1;
        texts = map text_of (take n vs);
        are = subst (λ (k : ℕ). AreMessageTexts (map text_of (take n vs)) (take k told)) place front;
        wrote = subst (λ (l : List V). WritesEach (contents_of contents) before.writer (map text_of (take n l)) after.writer) borrowed wrote;
        same = same;
        moved = subst (λ (v : ℕ). GoesTo looked v new) (sym (same_Some (version_told last.0) version leads)) moved;
      }
