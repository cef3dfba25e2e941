-- A judged request, and what has been seen since.
use Rattle.std.proofs.Common.{◌≡◌, ◌⊎◌, List, [], ◌∷◌, ◌++◌, ap, sym, subst, ◌∙◌, arith, inl, inr, append_assoc, ⊎_elim}
use Rattle.std.proofs.lemmas.List.{append-nil}
use mathlib.Core.List.{IsPrefix}
use Rattle.canvas_model.specs.Log.{Entry, What}
use Rattle.canvas_model.specs.Messages.{Message}
use Rattle.canvas_server.specs.Asked.{Asked}
use Rattle.canvas_board.specs.Marks.{Logged, Mark, Opening, board}
use Rattle.canvas_board.specs.Receipts.{ReceiptValue}
use Rattle.canvas_room.specs.Seats.{IsOutcomeOf, IsTold}
use Rattle.room_handler.specs.Table.{IsSince, IsToldAs, SaysOf}

-- where a list and a rest end with a mark, the rest is empty or ends with it
ends_rest : (xs p before : List Mark) (m : Mark) → xs ++ p ≡ before ++ m ∷ [] → (p ≡ []) ⊎ ((mid : List Mark) × (p ≡ mid ++ m ∷ []))
ends_rest [] p before m is = inr (before, is)
ends_rest (x ∷ xs) p [] m is = inl (none xs p (cc is))
  where
    none : (ys q : List Mark) → ys ++ q ≡ [] → q ≡ []
    none [] q h = h
    none (y ∷ ys) q h = absurd (cc h)
ends_rest (x ∷ xs) p (y ∷ before) m is = ends_rest xs p before m (cc is)

-- the entry of a receipt stands in each later history beyond what was seen
since_of : (o : Opening) (old new : List Mark) (q : Asked) (r : ReceiptValue) → IsTold o old q r → IsPrefix r.history new → IsSince old new r.entry
since_of o old new q r told later = ⊎_elim nothing something (ends_rest old pre.0 before (Logged r.entry) (pre.1 ∙ told.ends.1))
  where
    pre : IsPrefix old r.history
    pre = told.sees.0

    before : List Mark
    before = told.ends.0

    nothing : pre.0 ≡ [] → IsSince old new r.entry
    nothing none =
        let same : old ≡ r.history = sym (append-nil old) ∙ (ap (λ (p : List Mark). old ++ p) (sym none) ∙ pre.1) in
        let version : (board o old).version ≡ r.version = ap (λ (h : List Mark). (board o h).version) same ∙ sym told.ends.2 in
        let above = told.above in
        absurd (omega (arith, version, above))

    something : ((mid : List Mark) × (pre.0 ≡ mid ++ Logged r.entry ∷ [])) → IsSince old new r.entry
    something (mid, is) =
        let all : (old ++ (mid ++ Logged r.entry ∷ [])) ++ later.0 ≡ new = ap (λ (p : List Mark). (old ++ p) ++ later.0) (sym is) ∙ (ap (λ (h : List Mark). h ++ later.0) pre.1 ∙ later.1) in
        let apart : (old ++ (mid ++ Logged r.entry ∷ [])) ++ later.0 ≡ old ++ (mid ++ Logged r.entry ∷ later.0) =
        append_assoc old (mid ++ Logged r.entry ∷ []) later.0 ∙ ap (λ (p : List Mark). old ++ p) (append_assoc mid (Logged r.entry ∷ []) later.0) in
        record { before = mid; after = later.0; new_is = sym all ∙ apart }

-- the entry that a seat was told of has the outcome of what it was asked
pub outcome_of : (o : Opening) (old : List Mark) (q : Asked) (r : ReceiptValue) → IsTold o old q r → IsOutcomeOf r.entry.what r.entry.outcome
outcome_of o old q r told = subst (λ (w : What). IsOutcomeOf w r.entry.outcome) (sym told.answers.what_is) told.answers.outcome_is

-- once its receipt is learned
pub judged_of : (o : Opening) (old new : List Mark) (q : Asked) (r : ReceiptValue) (e : Entry) (m : Message) → IsTold o old q r → IsPrefix r.history new → e ≡ r.entry → IsToldAs e.what e.outcome m → SaysOf o q old m new
judged_of o old new q r e m told later is says =
    let says' : IsToldAs r.entry.what r.entry.outcome m = subst (λ (d : Entry). IsToldAs d.what d.outcome m) is says in
    inl (record { entry = r.entry; answers = told.answers; since = since_of o old new q r told later; told = says' })
