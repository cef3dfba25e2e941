-- What a client heard, one message more, and one round more.
use Rattle.std.specs.Prelude.{Option, Some, None, true, false, IsSome}
use Rattle.std.specs.Option.{option_map}
use Rattle.std.proofs.Common.{◌≡◌, ℕ, suc, ◌+◌, ◌-◌, ◌<◌, ◌≤◌, List, [], ◌∷◌, ◌++◌, length, get_or, map, take, drop, refl, ap, sym, ◌∙◌, subst, arith}
use Rattle.std.proofs.lemmas.List.{map-append, take_more, take-append-drop}
use Rattle.canvas_model.specs.Client.{Client}
use Rattle.canvas_model.specs.Messages.{Message, Ask}
use Rattle.canvas_nodes.specs.declared.link.LinkError.{LinkError}
use Rattle.canvas_nodes.specs.declared.link.LinkError.TheVariants.{Memory}
use Rattle.canvas_nodes.specs.GoesOn.{GoesOn}
use Rattle.canvas_nodes.proofs.Going.{further}
use Rattle.canvas_nodes.specs.Hears.{HearsOne, HearsEach, HearsSome, SendsEdit, SendsEach}

heard_more : (ms : List Message) (m : Message) (old mid new : Client) → HearsEach old ms mid → HearsOne mid m new → HearsEach old (ms ++ m ∷ []) new
heard_more [] m old mid new are one = (new, subst (λ (c : Client). HearsOne c m new) are one, refl)
heard_more (n ∷ ms) m old mid new are one = (are.0, are.1, heard_more ms m are.0 mid new are.2 one)

-- the same for messages as they are seen
pub heard_further : {S : Type 0} (seen : S → Message) (whole : List S) (i : ℕ) (s : S) (old mid new : Client) → i < length whole → s ≡ get_or whole i s
    → HearsEach old (map seen (take i whole)) mid → HearsOne mid (seen s) new → HearsEach old (map seen (take (i + 1) whole)) new
heard_further {S = S} seen whole i s old mid new within is are one =
    subst (λ (ms : List Message). HearsEach old ms new) (sym (ap (map seen) more ∙ map-append seen (take i whole) (s ∷ []))) (heard_more (map seen (take i whole)) (seen s) old mid new are one)
  where
    more : take (i + 1) whole ≡ take i whole ++ s ∷ []
    more = take_more whole i s within ∙ ap (λ (x : S). take i whole ++ x ∷ []) (sym is)

-- the first of them were heard, and then memory was refused
pub heard_some : {S : Type 0} (seen : S → Message) (whole : List S) (i : ℕ) (e : LinkError) (old mid new : Client) → HearsEach old (map seen (take i whole)) mid → new ≡ mid → e ≡ Memory
    → HearsSome old (map seen whole) e new
heard_some seen whole i e old mid new are is memory = (
  map seen (take i whole),
  map seen (drop i whole),
  ap (map seen) (sym (take-append-drop i whole)) ∙ map-append seen (take i whole) (drop i whole),
  subst (λ (c : Client). HearsEach old (map seen (take i whole)) c) (sym is) are,
  memory,
)

module _ {L : Type 0} (Gives : L → Message → List Message → L → Type 0) (Fails : L → Message → LinkError → L → Type 0) where
  pub sent_further : (a b : ℕ) (old : Client) (before : L) (mid : Client) (s : L) (new : Client) (after : L) → a ≤ b
      → SendsEach Gives Fails a (b - a) old before mid s → SendsEdit Gives Fails (b + 1) mid s new after → SendsEach Gives Fails a (b + 1 - a) old before new after
  sent_further a b old before mid s new after least are one =
      let count : b + 1 - a ≡ suc (b - a) = omega arith in
      let at : b + 1 ≡ a + suc (b - a) = omega arith in
      subst (λ (n : ℕ). SendsEach Gives Fails a n old before new after) (sym count) (mid, s, are, subst (λ (n : ℕ). SendsEdit Gives Fails n mid s new after) at one)

  -- the same for a round that may not have been made, with what is known besides
  pub sent_on : (a b : ℕ) (old : Client) (before : L) (mid : Client) (s : L) (made : Client) (left : L) (new : Client) (after : L) → new ≡ made → after ≡ left
      → GoesOn old mid × (a ≤ b) × SendsEach Gives Fails a (b - a) old before mid s → GoesOn mid made → SendsEdit Gives Fails (b + 1) mid s made left
      → GoesOn old new × (a ≤ b + 1) × SendsEach Gives Fails a (b + 1 - a) old before new after
  sent_on a b old before mid s made left new after is at known goes one = (
    subst (λ (c : Client). GoesOn old c) (sym is) (further old mid made known.0 goes),
    (let h = known.1 in omega arith),
    subst (λ (c : Client). SendsEach Gives Fails a (b + 1 - a) old before c after) (sym is)
        (subst (λ (l : L). SendsEach Gives Fails a (b + 1 - a) old before made l) (sym at) (sent_further a b old before mid s made left known.1 known.2 one)),
  )

-- the message with which a client asks for what came after its version
pub asked_news : {S : Type 0} (seen : S → Message) (id : Option ℕ) (v : ℕ) (made : Option S) (s : S) → made ≡ Some s → option_map seen made ≡ option_map (λ (c : ℕ). Ask c v) id
    → (c : ℕ) × (id ≡ Some c) × (seen s ≡ Ask c v)
asked_news seen (Some c) v made s is e = (c, refl, let f : Some (seen s) ≡ Some (Ask c v) = sym (ap (option_map seen) is) ∙ e in cc)
asked_news seen None v made s is e = let f : Some (seen s) ≡ None = sym (ap (option_map seen) is) ∙ e in absurd (cc)

-- an id that was had is had still
pub id_stays : (old new : Client) → GoesOn old new → IsSome old.id → IsSome new.id
id_stays old new g had = by_id old.id new.id g.same_id had
  where
    by_id : (a b : Option ℕ) → ((c : ℕ) → a ≡ Some c → b ≡ Some c) → IsSome a → IsSome b
    by_id (Some c) b same is = subst IsSome (sym (same c refl)) refl
    by_id None b same is = let f : false ≡ true = is in absurd (cc)
