-- Nodes by their numbers, and steps that change one.
use Rattle.std.proofs.Common.{◌≡◌, inl, inr, ℕ, zero, suc, ◌+◌, ◌<◌, refl, sym, ap, subst, ◌∙◌, Bool, true, false, List, [], ◌∷◌, ◌++◌, length, get_or, set, arith, slice_set}
use Rattle.std.specs.Prelude.{Option, Some, None, slice_get}
use Rattle.std.proofs.lemmas.List.{set-get_or}
use Rattle.canvas_model.specs.Change.{Change}
use Rattle.canvas_model.specs.Client.{Client, last_number}
use Rattle.canvas_model.specs.Numbered.{nth}
use Rattle.canvas_model.specs.Local.{EditRequest, Makes, edited}
use Rattle.canvas_model.specs.Messages.{Message, Welcome, Idle, No}
use Rattle.canvas_model.specs.Messages as messages
use Rattle.canvas_model.specs.Receive.{Received, Receives}
use Rattle.canvas_model.specs.World.{Letter, Node, World, Answer, Nothing, Delivered, EditIs, RefusedEdit, MakeEdit, Deliver, node, put_node, At, If, Step}
use Rattle.canvas_model.specs.Good.{IsTrueOf, IsGood}
use Rattle.canvas_model.specs.Laws.{EntriesAreVerdicts}
use Rattle.canvas_client.specs.Follow.{CanFollow, EachVerdictLeavesRoot}
use Rattle.canvas_model.specs.Local as local
use Rattle.canvas_client.specs.Asked.{refusal}
use Rattle.canvas_client.specs.declared.error.EditError.{EditError}
use Rattle.canvas_client.specs.declared.error.EditError.TheVariants as error
use Rattle.canvas_world.specs.Seen.{refused_as}
use Rattle.canvas_world.specs.Parts.{NodeEdits}

-- what needs something that isn't there can't happen
pub at_none : {X : Type 0} (o : Option X) (w : World) (P : X → Type 0) → o ≡ None → At o w Nothing w P
at_none {X} o w P none = subst (λ (o : Option X). At o w Nothing w P) (sym none) (refl, refl)

pub at_some : {X : Type 0} (o : Option X) (x : X) (w : World) (answer : Answer) (new : World) (P : X → Type 0) → o ≡ Some x → P x → At o w answer new P
at_some {X} o x w answer new P is p = subst (λ (o : Option X). At o w answer new P) (sym is) p

pub if_not : (b : Bool) (w : World) (P : Type 0) → b ≡ false → If b w Nothing w P
if_not b w P is = subst (λ (b : Bool). If b w Nothing w P) (sym is) (refl, refl)

pub if_so : (b : Bool) (w : World) (answer : Answer) (new : World) (P : Type 0) → b ≡ true → P → If b w answer new P
if_so b w answer new P is p = subst (λ (b : Bool). If b w answer new P) (sym is) p

set_put : (xs : List Node) (i : ℕ) (n : Node) → i < length xs → set xs i n ≡ slice_set xs i n
set_put [] i n lt = absurd (omega arith)
set_put (x ∷ xs) zero n lt = refl
set_put (x ∷ xs) (suc i) n lt = ap (λ ys. x ∷ ys) (set_put xs i n (omega arith))

-- to put a node at its number is to set the element at its index
pub placed : (w : World) (k i : ℕ) (n : Node) → k ≡ i + 1 → i < length w.nodes → record w { nodes = set w.nodes i n } ≡ put_node w k n
placed w k i n is lt =
    let e : k ≡ suc i = omega arith in
    ap (λ (ns : List Node). record w { nodes = ns }) (set_put w.nodes i n lt) ∙ sym (ap (λ (j : ℕ). put_node w j n) e)

pub get_here : {X : Type 0} (xs : List X) (i : ℕ) (d : X) → i < length xs → slice_get xs i ≡ Some (get_or xs i d)
get_here [] i d lt = absurd (omega arith)
get_here (x ∷ xs) zero d lt = refl
get_here (x ∷ xs) (suc i) d lt = get_here xs i d (omega arith)

pub nth_here : {X : Type 0} (xs : List X) (k i : ℕ) (x : X) → k ≡ i + 1 → i < length xs → x ≡ get_or xs i x → nth xs k ≡ Some x
nth_here xs k i x is lt here =
    let e : k ≡ suc i = omega arith in
    ap (nth xs) e ∙ get_here xs i x lt ∙ ap Some (sym here)

-- nothing has changed where the element is as before
pub set_same : (xs : List Node) (i : ℕ) (before after : Node) → before ≡ get_or xs i before → after ≡ before → set xs i after ≡ xs
set_same xs i before after here same = ap (set xs i) (same ∙ here) ∙ set-get_or xs i before

-- every document can follow each message of a good world
pub orderly : EachVerdictLeavesRoot → (w : World) → IsGood w → EntriesAreVerdicts w → (m : ℕ) (letter : Letter) → nth w.letters m ≡ Some letter → CanFollow letter.message
orderly leaves w good verdicts m letter is = by letter.message (good.letters m letter is)
  where
    by : (message : Message) → IsTrueOf w letter.to message → CanFollow message
    by messages.Join t = tt
    by (Welcome c) t = tt
    by (messages.Edit c n change) t = tt
    by (messages.Ask c v) t = tt
    by (messages.Entry v e) t = let s = verdicts v e t.1 in leaves s.0 e s.1 s.2
    by (messages.Copy v n d) t = tt
    by Idle t = tt
    by (No reason) t = tt

-- a message that reached a node
pub delivered : (w : World) (m : ℕ) (letter : Letter) (i : ℕ) (before after : Node) (answer : Received) → nth w.letters m ≡ Some letter → letter.to ≡ i + 1 → i < length w.nodes → before ≡ get_or w.nodes i before
    → Receives before.client letter.message answer after.client → after.edits ≡ before.edits → Step w (Deliver m) (Delivered answer) (record w { nodes = set w.nodes i after })
delivered w m letter i before after answer is to lt here receives edits =
    at_some (nth w.letters m) letter w (Delivered answer) _ _ is
    (at_some (node w letter.to) before w (Delivered answer) _ _ (nth_here w.nodes letter.to i before to lt here)
    (answer, after.client, receives, (refl, placed w letter.to i after to lt ∙ ap (λ es. put_node w letter.to (record { client = after.client; edits = es })) edits)))

pub no_letter : (w : World) (m : ℕ) → nth w.letters m ≡ None → Step w (Deliver m) Nothing w
no_letter w m none = at_none (nth w.letters m) w _ none

pub no_addressee : (w : World) (m : ℕ) (letter : Letter) → nth w.letters m ≡ Some letter → node w letter.to ≡ None → Step w (Deliver m) Nothing w
no_addressee w m letter is none = at_some (nth w.letters m) letter w Nothing w _ is (at_none (node w letter.to) w _ none)

-- an edit that a node made or refused
pub edit_made : (w : World) (k i : ℕ) (before after : Node) (request : EditRequest) (answer : Answer) → k ≡ i + 1 → i < length w.nodes → before ≡ get_or w.nodes i before
    → NodeEdits before request answer after → Step w (MakeEdit k request) answer (record w { nodes = set w.nodes i after })
edit_made w k i before after request answer is lt here (inl r) =
    at_some (node w k) before w answer _ _ (nth_here w.nodes k i before is lt here)
    (inl (r.0, r.1, (r.2, ap (λ (ns : List Node). record w { nodes = ns }) (set_same w.nodes i before after here r.3))))
edit_made w k i before after request answer is lt here (inr r) =
    at_some (node w k) before w answer _ _ (nth_here w.nodes k i before is lt here)
    (inr (r.0, r.1, (r.2, placed w k i after is lt ∙ ap (put_node w k) r.3)))

pub no_editor : (w : World) (k : ℕ) (request : EditRequest) → node w k ≡ None → Step w (MakeEdit k request) Nothing w
no_editor w k request none = at_none (node w k) w _ none

-- the same, for the world as its contracts see it
pub edit_at : (w old : World) (xs : List Node) (k i : ℕ) (before after : Node) (request : EditRequest) (answer : Answer) → w ≡ old → xs ≡ w.nodes → (k ≡ i + 1) × (i < length xs) → before ≡ get_or w.nodes i before → NodeEdits before request answer after
    → Step old (MakeEdit k request) answer (record w { nodes = set w.nodes i after })
edit_at w old xs k i before after request answer is same index here edits =
    subst (λ (u : World). Step u (MakeEdit k request) answer (record w { nodes = set w.nodes i after })) is
    (edit_made w k i before after request answer index.0 (subst (λ (xs : List Node). i < length xs) same index.1) here edits)

pub deliver_at : EachVerdictLeavesRoot → (w old : World) (ls : List Letter) (xs : List Node) (m : ℕ) (now letter : Letter) (i : ℕ) (before after : Node) (answer : Received) → IsGood w → EntriesAreVerdicts w → w ≡ old → Some now ≡ nth ls m → ls ≡ w.letters → letter ≡ now → xs ≡ w.nodes
    → (letter.to ≡ i + 1) × (i < length xs) → before ≡ get_or w.nodes i before → (CanFollow letter.message → Receives before.client letter.message answer after.client) → after.edits ≡ before.edits
    → Step old (Deliver m) (Delivered answer) (record w { nodes = set w.nodes i after })
deliver_at leaves w old ls xs m now letter i before after answer good verdicts is found same view nodes index here receives edits =
    let there : nth w.letters m ≡ Some letter = sym (found ∙ ap (λ (l : List Letter). nth l m) same) ∙ ap Some (sym view) in
    subst (λ (u : World). Step u (Deliver m) (Delivered answer) (record w { nodes = set w.nodes i after })) is
    (delivered w m letter i before after answer there index.0 (subst (λ (xs : List Node). i < length xs) nodes index.1) here (receives (orderly leaves w good verdicts m letter there)) edits)

pub no_addressee_at : (w old : World) (ls : List Letter) (xs : List Node) (m : ℕ) (now letter : Letter) → w ≡ old → Some now ≡ nth ls m → ls ≡ w.letters → letter ≡ now → xs ≡ w.nodes → nth xs letter.to ≡ None → Step old (Deliver m) Nothing old
no_addressee_at w old ls xs m now letter is found same view nodes none =
    subst (λ (u : World). Step u (Deliver m) Nothing u) is
    (no_addressee w m letter (sym (found ∙ ap (λ (l : List Letter). nth l m) same) ∙ ap Some (sym view)) (ap (λ (l : List Node). nth l letter.to) (sym nodes) ∙ none))

-- a node's own edit
pub edits_made : (n old : Node) (request : EditRequest) (change copy : Change) (number : ℕ) (client : Client) (former edits : List Change) → n ≡ old → Makes n.client request change → copy ≡ change → client ≡ edited n.client change → number ≡ last_number n.client + 1 → former ≡ n.edits → edits ≡ former ++ copy ∷ []
    → NodeEdits old request (EditIs number) (record { client = client; edits = edits })
edits_made n old request change copy number client former edits is makes same made count before more =
    subst (λ (u : Node). NodeEdits u request (EditIs number) (record { client = client; edits = edits })) is
    (inr (change, makes, ap EditIs count, (λ i. record { client = made i; edits = (more ∙ ap (λ (l : List Change). l ++ copy ∷ []) before ∙ ap (λ (x : Change). n.edits ++ x ∷ []) same) i })))

-- an edit that was refused for another reason than want of memory
pub refused_as_is : (wrong : EditError) → (wrong ≡ error.Memory → ⊥) → (e : local.EditError) × (refusal wrong ≡ Some e) × (refused_as (refusal wrong) ≡ RefusedEdit e)
refused_as_is error.NotOpen other = (local.NotOpen, refl, refl)
refused_as_is error.IsRoot other = (local.IsRoot, refl, refl)
refused_as_is error.NotShown other = (local.NotShown, refl, refl)
refused_as_is error.ParentNotShown other = (local.ParentNotShown, refl, refl)
refused_as_is error.BadParent other = (local.BadParent, refl, refl)
refused_as_is error.OwnDescendant other = (local.OwnDescendant, refl, refl)
refused_as_is error.TooDeep other = (local.TooDeep, refl, refl)
refused_as_is error.Crowded other = (local.Crowded, refl, refl)
refused_as_is error.IdsSpent other = (local.IdsSpent, refl, refl)
refused_as_is error.Full other = (local.Full, refl, refl)
refused_as_is error.Memory other = absurd (other refl)
