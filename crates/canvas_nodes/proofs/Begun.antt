-- Answers, message by message.
use Rattle.std.proofs.Common.{◌≡◌, ◌∷◌, ◌++◌, List, [], Bool, true, false, refl, map, ap, sym, ◌∙◌, subst}
use Rattle.std.specs.Prelude.{◌↔◌, IsTrue}
use Rattle.std.proofs.lemmas.List.{map-append}
use Rattle.canvas_model.specs.Messages.{Message}
use Rattle.canvas_nodes.specs.Answers.{EndsAnswer, IsAnswer, IsBegun, Extends, IsDecoded, AreDecoded}

ends : (ms : List Message) (m : Message) → IsBegun ms → EndsAnswer m → IsAnswer (ms ++ m ∷ [])
ends [] m begun end = end
ends (a ∷ []) m begun end = (begun.0, end)
ends (a ∷ b ∷ ms) m begun end = (begun.0, ends (b ∷ ms) m begun.1 end)

goes_on : (ms : List Message) (m : Message) → IsBegun ms → (EndsAnswer m → ⊥) → IsBegun (ms ++ m ∷ [])
goes_on [] m begun other = (other, tt)
goes_on (a ∷ ms) m begun other = (begun.0, goes_on ms m begun.1 other)

one_more : (last : Bool) (ms : List Message) (m : Message) → IsTrue last ↔ EndsAnswer m → Extends last ms (ms ++ m ∷ [])
one_more true ms m is = λ begun. ends ms m begun (is.0 refl)
one_more false ms m is = λ begun. goes_on ms m begun (λ end. let f : false ≡ true = is.1 end in absurd (cc))

-- the same for messages as they are seen
pub extends : {S : Type 0} (seen : S → Message) (old new : List S) (s : S) (last : Bool) → IsTrue last ↔ EndsAnswer (seen s) → new ≡ old ++ s ∷ [] → Extends last (map seen old) (map seen new)
extends seen old new s last is now = subst (λ (ms : List Message). Extends last (map seen old) ms) (sym (ap (map seen) now ∙ map-append seen old (s ∷ []))) (one_more last (map seen old) (seen s) is)

decodes_more : (ms : List Message) (m : Message) → AreDecoded ms → IsDecoded m → AreDecoded (ms ++ m ∷ [])
decodes_more [] m are is = (is, tt)
decodes_more (n ∷ ms) m are is = (are.0, decodes_more ms m are.1 is)

-- one message more was decoded
pub decodes : {S : Type 0} (seen : S → Message) (old new : List S) (s : S) → IsDecoded (seen s) → new ≡ old ++ s ∷ [] → AreDecoded (map seen old) → AreDecoded (map seen new)
decodes seen old new s is now are = subst AreDecoded (sym (ap (map seen) now ∙ map-append seen old (s ∷ []))) (decodes_more (map seen old) (seen s) are is)
