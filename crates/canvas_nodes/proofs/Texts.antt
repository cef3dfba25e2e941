-- Texts of messages, one after the other.
use Rattle.std.proofs.Common.{◌≡◌, ℕ, ◌+◌, ◌<◌, List, [], ◌∷◌, ◌++◌, length, get_or, map, take, ap, sym, ◌∙◌, subst}
use Rattle.std.proofs.lemmas.List.{map-append, take_more}
use Rattle.canvas_model.specs.Messages.{Message}
use Rattle.canvas_wire.specs.Text.{EncodesMessage}
use Rattle.canvas_nodes.specs.Answers.{AreMessageTexts}

pub one_more : (ts : List (List ℕ)) (ms : List Message) (t : List ℕ) (m : Message) → AreMessageTexts ts ms → EncodesMessage t m → AreMessageTexts (ts ++ t ∷ []) (ms ++ m ∷ [])
one_more [] [] t m are is = (is, tt)
one_more [] (n ∷ ms) t m are is = absurd are
one_more (u ∷ ts) [] t m are is = absurd are
one_more (u ∷ ts) (n ∷ ms) t m are is = (are.0, one_more ts ms t m are.1 is)

-- the same for texts that are kept in vectors, and messages as they are seen
pub one_further : {V S : Type 0} (text_of : V → List ℕ) (seen : S → Message) (old new : List V) (whole : List S) (i : ℕ) (v : V) (s : S) → i < length whole
    → s ≡ get_or whole i s → new ≡ old ++ v ∷ [] → AreMessageTexts (map text_of old) (map seen (take i whole)) → EncodesMessage (text_of v) (seen s) → AreMessageTexts (map text_of new) (map seen (take (i + 1) whole))
one_further {V = V} {S = S} text_of seen old new whole i v s within is now are encodes =
    subst (λ (ms : List Message). AreMessageTexts (map text_of new) ms) (sym (ap (map seen) more ∙ map-append seen (take i whole) (s ∷ [])))
    (subst (λ (ts : List (List ℕ)). AreMessageTexts ts (map seen (take i whole) ++ seen s ∷ [])) (sym (ap (map text_of) now ∙ map-append text_of old (v ∷ [])))
    (one_more (map text_of old) (map seen (take i whole)) (text_of v) (seen s) are encodes))
  where
    more : take (i + 1) whole ≡ take i whole ++ s ∷ []
    more = take_more whole i s within ∙ ap (λ (x : S). take i whole ++ x ∷ []) (sym is)
